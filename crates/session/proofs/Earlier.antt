-- "a noted life brings in what was noted for it, and a life with a list brings in the one signed last before it (the list without its last entry,
-- that entry as n)": said of what takes and signed texts rest on; and again and again, so that a life brings in every life of its take that was
-- signed before it.
use Prim.Native.Nat.{ℕ}
use mathlib.Core.Path.{◌≡◌, refl, sym, ◌∙◌}
use mathlib.Core.List.{List, [], ◌∷◌, ◌++◌, append_assoc}
use Rattle.marks.specs.Incarnation.{Incarnation, Checkpointed, begins}
use Rattle.rules.specs.Layout.{Layout, Fitting}
use Rattle.rules.specs.State.{State}
use Rattle.session.specs.Provenance.{Provenance}
use Rattle.session.specs.Grounds.{Brought, from-noted, from_list, RestsOn, ValueRestsOn, CheckpointedNow}
use Rattle.session.specs.Trace.{Trace}
use Rattle.session.specs.Point.{Point}
use Rattle.session.proofs.Reached.{checkpointed-rests}

brought-earlier : {b : Provenance} {start : ℕ → Incarnation → Type 0} {u : ℕ} {a : Incarnation} → Brought b start u a → (c : Incarnation) (r : List ℕ) → a.checkpoints ≡ c.checkpoints ++ c.number ∷ r → Brought b start u c
brought-earlier k c [] e = from_list k e
brought-earlier {a = a} k c (x ∷ r) e =
    let next : Incarnation = record { checkpoints = c.checkpoints ++ c.number ∷ []; number = x } in
    let f : a.checkpoints ≡ (c.checkpoints ++ c.number ∷ []) ++ x ∷ r = e ∙ sym (append_assoc c.checkpoints (c.number ∷ []) (x ∷ r)) in
    from_list (brought-earlier k next r f) refl

module _ {b : Provenance} {t u : ℕ} {a : Incarnation} where
  -- what a take rests on
  pub rests-noted : RestsOn b t u a → {w : ℕ} {c : Incarnation} → b.noted u a w c → RestsOn b t w c
  rests-noted k n = from-noted k n

  pub rests-list : RestsOn b t u a → (c : Incarnation) → a.checkpoints ≡ c.checkpoints ++ c.number ∷ [] → RestsOn b t u c
  rests-list k c e = brought-earlier k c [] e

  pub rests-earlier : RestsOn b t u a → {c : Incarnation} → Checkpointed c a → RestsOn b t u c
  rests-earlier k {c} (begins r e) = brought-earlier k c r e

module _ {b : Provenance} {t : ℕ} {n : Incarnation} {u : ℕ} {a : Incarnation} where
  -- what a signed text rests on
  pub value-noted : ValueRestsOn b t n u a → {w : ℕ} {c : Incarnation} → b.noted u a w c → ValueRestsOn b t n w c
  value-noted k m = from-noted k m

  pub value-list : ValueRestsOn b t n u a → (c : Incarnation) → a.checkpoints ≡ c.checkpoints ++ c.number ∷ [] → ValueRestsOn b t n u c
  value-list k c e = brought-earlier k c [] e

  pub value-earlier : ValueRestsOn b t n u a → {c : Incarnation} → Checkpointed c a → ValueRestsOn b t n u c
  value-earlier k {c} (begins r e) = brought-earlier k c r e

-- What rests on a take's present life rests on every life of it that is signed.
pub present-all : {b : Provenance} {t u : ℕ} → RestsOn b t u (b.holders u).history.incarnation → {c : Incarnation} → CheckpointedNow b u c → RestsOn b t u c
present-all k s = rests-earlier k s.is

-- A text rests on every life of its own take that was signed before it.
pub own-earlier : {y : Layout} (z : Fitting y) {img : List ℕ} {τ : Trace y img} {s : State} {b : Provenance} → Point y img τ s b
    → {t : ℕ} {n c : Incarnation} → CheckpointedNow b t n → Checkpointed c n → ValueRestsOn b t n t c
own-earlier z k s e = value-earlier (checkpointed-rests z k s) e
