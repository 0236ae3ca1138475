-- The rules look at a layout's counts and, for 28, at its largest life number: a step in a layout where that is higher is the same unless 28.
use Prim.Native.Nat.{ℕ, ◌≤◌, ◌<◌}
use mathlib.Core.Bool.{Bool, true, false, not}
use mathlib.Core.Path.{◌≡◌, refl, ap, sym, ◌∙◌}
use native.Mathlib.Omega.{arith}
use lib.Dec.{eqb, ltb, leb}
use borrow.Author.Tests.{leb-false, lt-leb}
use Rattle.octets.specs.Bytes.{pick, ◌and◌, ◌or◌}
use Rattle.octets.proofs.Tests.{or_off}
use Rattle.rules.specs.Layout.{Layout, largest}
use Rattle.rules.specs.State.{State}
use Rattle.rules.specs.declared.Step.{Step}
use Rattle.rules.specs.Step.{receive, fall, fail}
use Rattle.rules.specs.Refusals.{Seen, malformed, not_waiting, empty_group, unopened, is_gone, wrong_status, unrelated_receipt, all_opened, all_waiting, all_numbered, all_checkpointed, at_last, last_rolls_back, refusal_of}
use Rattle.rules.specs.Rules.{message_superseded, receiver_superseded, receipt_rolls_back, message_unrelated, receipt_unrelated, seen, refusal, rollback, carried, read_by, write_by, finish_by, fall_by, fail_by, local_by, receive_by, map_ready, transactor_ready, group_ready, checkpoint_by, checkpoint_at, checkpoint_group, apply_root, apply_letter, apply_receive, apply_new, apply_send, apply_local, apply_sign, apply, step_of}
use Rattle.rules.proofs.Keep.Step.{refused-same}
use Rattle.recast.specs.Internal.Widths.{resized}

-- ---- by computation: no rule reads the width, nor whether limits are stored

module _ (y : Layout) (w : ℕ) (stored : Bool) (s : State) where
  pub same_seen : seen (resized y w stored) s ≡ seen y s
  unfolding seen receipt_rolls_back receipt_unrelated message_superseded receiver_superseded message_unrelated
  same_seen = refl

  pub same-apply : (p : Step) → apply (resized y w stored) s p ≡ apply y s p
  unfolding apply apply_root apply_letter apply_receive apply_new apply_send apply_local apply_sign rollback carried read_by write_by finish_by fall_by fail_by local_by receive_by message_superseded receiver_superseded map_ready transactor_ready group_ready checkpoint_by checkpoint_at checkpoint_group
  same-apply p = refl

-- ---- 28 alone reads the largest life number

-- a test before, which answers n: where it holds nothing else is looked at
before : (c : Bool) (n r q : ℕ) → (pick c n r ≡ 28 → ⊥) → ((r ≡ 28 → ⊥) → q ≡ r) → pick c n q ≡ pick c n r
before true n r q h f = refl
before false n r q h f = f h

abbrev asked : Bool → ℕ
asked c = pick c 28 0

-- a conjunction whose last part can only turn false
and-less : (a b c : Bool) → a and b ≡ false → (b ≡ false → c ≡ false) → a and c ≡ false
and-less true b c e f = f e
and-less false b c e f = refl

or-less : (a b c d : Bool) → a or b ≡ false → (a ≡ false → c ≡ false) → (b ≡ false → d ≡ false) → c or d ≡ false
or-less a b c d e f g = let z = or_off a b e in rw (f z.0, g z.1)

module _ (y : Layout) (w : ℕ) (stored : Bool) (more : largest y ≤ largest (resized y w stored)) (v : Seen) where
  last_less : (t : ℕ) → at_last y v t ≡ false → at_last (resized y w stored) v t ≡ false
  unfolding at_last
  last_less t e = and-less (ltb 0 (v.checkpoints t)) (leb (largest y) (v.incarnation t)) (leb (largest (resized y w stored)) (v.incarnation t)) e
      (λ (f : leb (largest y) (v.incarnation t) ≡ false).
      let g : v.incarnation t < largest y = leb-false (largest y) (v.incarnation t) f in
      lt-leb (largest (resized y w stored)) (v.incarnation t) (omega arith))

  module _ (p : Step) where
    rolls-less : last_rolls_back y v p ≡ false → last_rolls_back (resized y w stored) v p ≡ false
    unfolding last_rolls_back
    rolls-less e =
        let t : ℕ = p.transactor in
        let u : ℕ = v.addressee p.message in
        let a : Bool = eqb p.kind fall or eqb p.kind fail in
        or-less (a and not (v.stable t) and at_last y v t) (eqb p.kind receive and v.rolls p.message and at_last y v u)
        (a and not (v.stable t) and at_last (resized y w stored) v t) (eqb p.kind receive and v.rolls p.message and at_last (resized y w stored) v u)
        e
        (λ f. and-less a (not (v.stable t) and at_last y v t) (not (v.stable t) and at_last (resized y w stored) v t) f
        (λ g. and-less (not (v.stable t)) (at_last y v t) (at_last (resized y w stored) v t) g (last_less t)))
        (λ f. and-less (eqb p.kind receive) (v.rolls p.message and at_last y v u) (v.rolls p.message and at_last (resized y w stored) v u) f
        (λ g. and-less (v.rolls p.message) (at_last y v u) (at_last (resized y w stored) v u) g (last_less u)))

    last_one : (asked (last_rolls_back y v p) ≡ 28 → ⊥) → asked (last_rolls_back (resized y w stored) v p) ≡ asked (last_rolls_back y v p)
    last_one h = go (last_rolls_back y v p) refl h
      where
        go : (c : Bool) → last_rolls_back y v p ≡ c → (asked c ≡ 28 → ⊥) → asked (last_rolls_back (resized y w stored) v p) ≡ asked c
        go true e h = absurd (h refl)
        go false e h = rw (rolls-less e)

    pub same-refusal_of : (refusal_of y v p ≡ 28 → ⊥) → refusal_of (resized y w stored) v p ≡ refusal_of y v p
    unfolding refusal_of all_opened all_waiting all_checkpointed
    same-refusal_of h0 =
        before (malformed p) 20 _ _ h0 (λ h1.
        before (not_waiting v p) 24 _ _ h1 (λ h2.
        before (empty_group p) 29 _ _ h2 (λ h3.
        before (unopened v p) 21 _ _ h3 (λ h4.
        before (is_gone v p) 22 _ _ h4 (λ h5.
        before (wrong_status v p) 23 _ _ h5 (λ h6.
        before (unrelated_receipt v p) 31 _ _ h6 (λ h7.
        before (all_opened v p) 25 _ _ h7 (λ h8.
        before (all_waiting v p) 26 _ _ h8 (λ h9.
        before (all_numbered v p) 27 _ _ h9 (λ h10.
        before (all_checkpointed v p) 30 _ _ h10 last_one))))))))))

-- ---- a step

module _ (y : Layout) (w : ℕ) (stored : Bool) (more : largest y ≤ largest (resized y w stored)) (s : State) (p : Step) where
  -- a step that the table refuses with 28 answers 28
  answers-28 : refusal y s p ≡ 28 → (step_of y s p).reply.outcome ≡ 28
  answers-28 e = ap (λ r. r.reply.outcome) (refused-same y s p (λ z. let q : ◌≡◌ {A = ℕ} 28 0 = sym e ∙ z in omega arith)) ∙ e

  pub same_step : ((step_of y s p).reply.outcome ≡ 28 → ⊥) → step_of (resized y w stored) s p ≡ step_of y s p
  unfolding step_of refusal
  same_step h =
      let e : refusal_of (resized y w stored) (seen (resized y w stored) s) p ≡ refusal_of y (seen y s) p =
      ap (λ v. refusal_of (resized y w stored) v p) (same_seen y w stored s) ∙ same-refusal_of y w stored more (seen y s) p (λ z. h (answers-28 z)) in
      rw (e, same-apply y w stored s p)
