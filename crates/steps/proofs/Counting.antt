-- How many parcels wait after a step: one more, one fewer, or as many as before.
use Prim.Native.Nat.{ℕ, ◌+◌, ◌-◌, ◌≤◌, ◌<◌}
use mathlib.Core.Bool.{Bool, true, false}
use mathlib.Core.Path.{◌≡◌, refl, sym, ap, ◌∙◌, subst}
use mathlib.Core.List.{List, [], ◌∷◌}
use native.Mathlib.Omega.{arith}
use lib.Dec.{eqb}
use lib.ListN.{length, take, length-append, length-drop}
use lib.Seq.{length-take-le}
use borrow.Author.Tests.{eqb-true, eqb-false}
use Rattle.octets.specs.Bytes.{pick}
use Rattle.maps.specs.declared.DependenceMap.{DependenceMap}
use Rattle.rules.specs.Layout.{base}
use Rattle.rules.specs.State.{State, with_transactor, with_opened, with_message, without_message}
use Rattle.rules.specs.declared.Step.{Step}
use Rattle.rules.specs.declared.Reply.{Reply}
use Rattle.rules.specs.Step.{done, not_ready, root, new, read, fail, sign}
use Rattle.rules.specs.Rules.{Result, group_ready, checkpoint_group, refusal, answer, opened, apply_root, apply_new, apply_local, apply_sign, apply, step_of}
use Rattle.rules.specs.Pack.{waiting_in, pack, unpack}
use Rattle.rules.specs.Internal.Well.{StepOk, WellFormed}
use Rattle.rules.specs.Internal.Good.{Good}
use Rattle.steps.specs.Internal.Stepped.{Stepped, Counted}
use Rattle.rules.proofs.ByKind.Applied.{applies}
use Rattle.rules.proofs.Keep.Step.{keeps, fitting-base, refused-same, applied-same}
use Rattle.rules.proofs.Pack.Loads.{unpack-waiting, waiting_few}
use Rattle.rules.proofs.Pack.RoundTrip.{waiting-pack}

counted_of : (img : List ℕ) (n : ℕ) → n ≡ waiting_in base img → Counted n img
counted_of img n e = record { is = e; few = omega (arith, e, waiting_few base img) }

-- ---- the lists

pub one_more : (s : State) (to v : ℕ) (m : DependenceMap) → length (with_message s to v m).messages ≡ length s.messages + 1
unfolding with_message
one_more s to v m = length-append s.messages (record { addressee = to; number = s.next; value = v; dependences = m } ∷ [])

pub one_fewer : (s : State) (k : ℕ) → k < length s.messages → length (without_message s k).messages ≡ length s.messages - 1
unfolding without_message
one_fewer s k h =
    let e : length (take k s.messages) ≡ k = length-take-le k s.messages (omega arith) in
    rw (length-append, e, length-drop) (omega arith)

-- ---- a step that is not refused, with the result w

pub counted-applied : (img : List ℕ) (p : Step) (after : List ℕ) (w : Result) → Good img → StepOk p
    → refusal base (unpack base img) p ≡ 0 → apply base (unpack base img) p ≡ w → after ≡ pack base w.state
    → (n : ℕ) → n ≡ length w.state.messages → Counted n after
counted-applied img p after w good ok e f i n k =
    let same : step_of base (unpack base img) p ≡ w = applied-same base (unpack base img) p e ∙ f in
    let well : WellFormed base w.state = subst (λ (v : Result). WellFormed base v.state) same (keeps fitting-base good.well ok) in
    counted_of after n (k ∙ sym (waiting-pack base w.state well.packable) ∙ ap (waiting_in base) (sym i))

-- ---- the kinds that leave the parcels alone

-- what a step of these kinds does, if it is not refused, leaves them
pub data Quiet (p : Step) : Type 0 where
  by-root : p.kind ≡ root → Quiet p
  by-new : p.kind ≡ new → Quiet p
  by-local : read ≤ p.kind → p.kind ≤ fail → Quiet p
  by_sign : p.kind ≡ sign → Quiet p

signed-messages : (s : State) (p : Step) → (apply_sign base s p).state.messages ≡ s.messages
unfolding apply_sign checkpoint_group
signed-messages s p = go (group_ready base s p.message) (record { reply = answer done 0 0 0; state = checkpoint_group base s p.message }) (record { reply = answer not_ready 0 0 0; state = s }) refl refl
  where
    go : (c : Bool) (u v : Result) → u.state.messages ≡ s.messages → v.state.messages ≡ s.messages → (pick c u v).state.messages ≡ s.messages
    go true u v a b = a
    go false u v a b = b

quiet-messages : (s : State) (p : Step) → Quiet p → (apply base s p).state.messages ≡ s.messages
unfolding apply_root apply_new apply_local opened with_opened with_transactor
quiet-messages s p (by-root e) = ap (λ (w : Result). w.state.messages) ((applies base s p).root e)
quiet-messages s p (by-new e) = ap (λ (w : Result). w.state.messages) ((applies base s p).new e)
quiet-messages s p (by-local l h) = ap (λ (w : Result). w.state.messages) ((applies base s p).local l h)
quiet-messages s p (by_sign e) = ap (λ (w : Result). w.state.messages) ((applies base s p).sign e) ∙ signed-messages s p

module _ {img : List ℕ} {p : Step} {r : Reply} {after : List ℕ} (good : Good img) (ok : StepOk p) (quiet : Quiet p) (st : Stepped img p r after) where
  abbrev s : State
  s = unpack base img

  kept : (step_of base s p).state.messages ≡ s.messages
  kept = go (eqb (refusal base s p) 0) refl
    where
      go : (c : Bool) → eqb (refusal base s p) 0 ≡ c → (step_of base s p).state.messages ≡ s.messages
      go true e = ap (λ (w : Result). w.state.messages) (applied-same base s p (eqb-true (refusal base s p) 0 e)) ∙ quiet-messages s p quiet
      go false e = ap (λ (w : Result). w.state.messages) (refused-same base s p (eqb-false (refusal base s p) 0 e))

  pub still-counted : {n : ℕ} → Counted n img → Counted n after
  still-counted {n} c = counted_of after n
      (c.is ∙ sym (unpack-waiting base img) ∙ ap length (sym kept)
      ∙ sym (waiting-pack base (step_of base s p).state (keeps fitting-base good.well ok).packable) ∙ ap (waiting_in base) (sym st.image))
