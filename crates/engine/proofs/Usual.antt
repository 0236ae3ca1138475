-- In a list of at most 1,024 steps from a fresh session 27, 28 and 31 do not arise: parcel numbers and life numbers stay below the last.
use Prim.Native.Nat.{ℕ, zero, suc, ◌≤◌, ◌<◌}
use mathlib.Core.Bool.{Bool, true, false, not}
use mathlib.Core.Path.{◌≡◌, refl, sym, ◌∙◌, subst}
use mathlib.Core.List.{List}
use mathlib.Core.Logic.{⊎_elim}
use native.Mathlib.Omega.{arith}
use lib.Dec.{eqb, ltb}
use borrow.Author.Tests.{ne_eqb, lt-leb}
use Rattle.octets.specs.Bytes.{◌and◌, ◌or◌, Octets}
use Rattle.octets.specs.Numbers.{bound}
use Rattle.octets.proofs.Chunks.{sides}
use Rattle.octets.proofs.Tests.{never, and-false, pick-view}
use Rattle.rules.specs.Layout.{Layout, Limits, base, in_range, largest, last_number}
use Rattle.rules.specs.declared.Step.{Step}
use Rattle.rules.specs.Step.{pack_reply, not_ready, root, letter, receive, new, send, fall, fail, lose, sign}
use Rattle.rules.specs.Refusals.{Seen, sends, malformed, not_waiting, empty_group, unopened, is_gone, wrong_status, unrelated_receipt, all_opened, all_waiting, all_numbered, all_checkpointed, at_last, last_rolls_back, refusal_of}
use Rattle.rules.specs.Calls.{fresh_image, steps_in, ran_replies}
use Rattle.rules.proofs.Keep.Step.{fitting-base}
use Rattle.rules.specs.declared.Told.{Told}
use Rattle.engine_tables.specs.Internal.Tables.{Tables, seen_in, Played, play_receive, play_local, play_applied, play_refusal, play}
use Rattle.engine_chains.specs.Internal.Walk.{told_in}
use Rattle.engine_replies.specs.Internal.Engine.{play_step, engine_after, engine_replies}
use Rattle.engine_replies.proofs.Engine.{engine-fresh, replies-fit-bytes}
use Rattle.engine_tables.specs.Internal.Places.{most}
use Rattle.engine.proofs.Ranges.{Ranged, local-small, receive-small}
use Rattle.engine.proofs.Steps.{told-left, told-last, ranged, replies-long}
use Rattle.engine.specs.Play.{Usual}

low : {o : ℕ} → o < 27 → Usual o
low h = record { not-27 = λ e. omega arith; not-28 = λ e. omega arith; not-31 = λ e. omega arith }

outcome : {o : ℕ} → o ≤ not_ready → Usual o
outcome h = low (omega arith)

-- the conditions for them do not hold
usual-refusal : (y : Layout) (v : Seen) (p : Step) → all_numbered v p ≡ false → last_rolls_back y v p ≡ false → unrelated_receipt v p ≡ false → Usual (refusal_of y v p)
unfolding refusal_of
usual-refusal y v p numbered last unrelated =
    pick-view Usual (malformed p) _ _ (λ e. low (omega arith)) λ _.
    pick-view Usual (not_waiting v p) _ _ (λ e. low (omega arith)) λ _.
    pick-view Usual (empty_group p) _ _ (λ e. record { not-27 = λ e. omega arith; not-28 = λ e. omega arith; not-31 = λ e. omega arith }) λ _.
    pick-view Usual (unopened v p) _ _ (λ e. low (omega arith)) λ _.
    pick-view Usual (is_gone v p) _ _ (λ e. low (omega arith)) λ _.
    pick-view Usual (wrong_status v p) _ _ (λ e. low (omega arith)) λ _.
    pick-view Usual (unrelated_receipt v p) _ _ (λ e. never (sym e ∙ unrelated)) λ _.
    pick-view Usual (all_opened v p) _ _ (λ e. low (omega arith)) λ _.
    pick-view Usual (all_waiting v p) _ _ (λ e. low (omega arith)) λ _.
    pick-view Usual (all_numbered v p) _ _ (λ e. never (sym e ∙ numbered)) λ _.
    pick-view Usual (all_checkpointed v p) _ _ (λ e. record { not-27 = λ e. omega arith; not-28 = λ e. omega arith; not-31 = λ e. omega arith }) λ _.
    pick-view Usual (last_rolls_back y v p) _ _ (λ e. never (sym e ∙ last)) (λ e. low (omega arith))

two-off : (a b : Bool) → a and b and false ≡ false
two-off true b = and-false b
two-off false b = refl

module _ {m : Limits} {n : ℕ} {T : Tables} (r : Ranged m n T) (y : Layout) (short : n < last_number) (fits : n < largest y) (p : Step) (d f g : Bool) where
  early : (t : ℕ) → at_last y (seen_in T (not d and f)) t ≡ false
  unfolding at_last seen_in
  early t = rw (lt-leb (largest y) (T.rows t).incarnation (omega (arith, r.lives t))) (and-false (ltb 0 (T.rows t).checkpoints))

  abbrev v : Seen
  v = seen_in T (not d and f)

  last_off : last_rolls_back y (seen_in T (not d and f)) p ≡ false
  unfolding last_rolls_back
  last_off = rw (early p.transactor, early (v.addressee p.message))
      (λ i. two-off (eqb p.kind fall or eqb p.kind fail) (not (v.stable p.transactor)) i or two-off (eqb p.kind receive) (v.rolls p.message) i)

  refused-usual : Usual (play_refusal y T p d f)
  unfolding play_refusal all_numbered unrelated_receipt seen_in
  refused-usual = usual-refusal y (seen_in T (not d and f)) p
      (rw (ne_eqb T.next last_number (λ e. omega (arith, r.next))) (and-false (sends p.kind)))
      last_off
      (and-false (eqb p.kind receive))

  applied-usual : Usual (play_applied T p d f g).reply.outcome
  unfolding play_applied play_receive play_local
  applied-usual =
      let P : Played → Type 0 = λ z. Usual z.reply.outcome in
      pick-view P (eqb p.kind root) _ _ (λ e. low (omega arith)) λ _.
      pick-view P (eqb p.kind letter) _ _ (λ e. low (omega arith)) λ _.
      pick-view P (eqb p.kind receive) _ _ (λ e. outcome (receive-small _ (r.lives _) d f _).outcome) λ _.
      pick-view P (eqb p.kind new) _ _ (λ e. low (omega arith)) λ _.
      pick-view P (eqb p.kind send) _ _ (λ e. low (omega arith)) λ _.
      pick-view P (eqb p.kind lose) _ _ (λ e. low (omega arith)) λ _.
      pick-view P (eqb p.kind sign) _ _ (λ e. pick-view P g _ _ (λ z. low (omega arith)) (λ z. low (omega arith)))
      (λ e. outcome (local-small _ (r.lives p.transactor) p.kind p.value).outcome)

  pub usual-step : Usual (play y T p d f g).reply.outcome
  unfolding play
  usual-step = pick-view (λ (z : Played). Usual z.reply.outcome) (eqb (play_refusal y T p d f) 0) _ _ (λ e. applied-usual) (λ e. refused-usual)

-- ---- all steps

module _ (m : Limits) (range : in_range base m ≡ true) (steps : List ℕ) (octets : Octets steps) where
  abbrev replied : ℕ → List ℕ
  replied i = (engine_after base m steps i).replies

  abbrev played : ℕ → Played
  played i = play_step base steps (replied i) i (engine_after base m steps i).tables

  usual-at : (i : ℕ) → i < most → Usual (played i).reply.outcome
  unfolding play_step bound
  usual-at i h = usual-step (ranged m range steps octets i) base (omega arith) (omega arith) _ _ _ _

  usual-so-far : (i : ℕ) → i ≤ most → (j : ℕ) → j < i → Usual (told_in (replied i) j).outcome
  unfolding engine_after
  usual-so-far zero h j k = absurd (omega arith)
  usual-so-far (suc i) h j k = ⊎_elim
      (λ (q : j < i). subst (λ (w : Told). Usual w.outcome) (sym (told-left (replied i) (pack_reply (played i).reply) j (omega (arith, replies-long m range steps octets i)))) (usual-so-far i (omega arith) j q))
      (λ (q : i ≤ j).
      let e : i ≡ j = omega arith in
      subst (λ (j : ℕ). Usual (told_in (replied (suc i)) j).outcome) e
      (subst (λ (w : Told). Usual w.outcome) (sym (told-last (replied i) (played i).reply i (replies-long m range steps octets i) (replies-fit-bytes base m fitting-base range steps octets i))) (usual-at i (omega arith))))
      (sides j i)

  -- The replies of play, and of the ledger's run, to a list of at most 1,024 steps.
  pub never-27-28-31 : steps_in steps ≤ most → (j : ℕ) → j < steps_in steps → Usual (told_in (ran_replies base (fresh_image base m) steps) j).outcome
  unfolding engine_replies
  never-27-28-31 h j k = subst (λ (l : List ℕ). Usual (told_in l j).outcome) (engine-fresh base m fitting-base range steps octets) (usual-so-far (steps_in steps) h j k)
