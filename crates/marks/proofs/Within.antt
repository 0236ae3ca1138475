-- The test of the numbers of a mark: what it says.
use Prim.Native.Nat.{ℕ, ◌+◌, ◌≤◌, ◌<◌}
use mathlib.Core.Bool.{true}
use mathlib.Core.Path.{◌≡◌}
use mathlib.Core.Logic.{⊎_elim}
use native.Mathlib.Omega.{arith}
use lib.ListN.{get_or}
use lib.Dec.{leb}
use borrow.Author.Tests.{leb-true, le-leb}
use Rattle.octets.proofs.Zero.{both, every-all, every-at}
use Rattle.octets.proofs.Chunks.{sides}
use Rattle.marks.specs.declared.History.{History}
use Rattle.marks.specs.History.{Roomy}
use Rattle.marks.specs.Within.{history_within, Low}

module _ (n l : ℕ) where
  pub within_low : {h : History} → Roomy l h → history_within n l h ≡ true → Low (n + 1) h
  unfolding history_within
  within_low {h} r e =
      let z = both (leb h.incarnation n) _ e in
      let a : h.incarnation ≤ n = leb-true h.incarnation n z.0 in
      record {
        incarnation = omega arith;
        checkpoints = λ i. ⊎_elim
            (λ (p : i < l). let q : get_or h.checkpoints i 0 ≤ n = leb-true (get_or h.checkpoints i 0) n (every-at (λ j. leb (get_or h.checkpoints j 0) n) l i z.1 p) in omega arith)
            (λ (p : l ≤ i). let q : get_or h.checkpoints i 0 ≡ 0 = r.unused i (omega (arith, r.within)) in omega arith)
            (sides i l);
      }

  pub low-within : {h : History} → Low (n + 1) h → history_within n l h ≡ true
  unfolding history_within
  low-within {h} z = rw (
    le-leb h.incarnation n (omega (arith, z.incarnation)),
    every-all (λ i. leb (get_or h.checkpoints i 0) n) l (λ i p. le-leb (get_or h.checkpoints i 0) n (omega (arith, z.checkpoints i))),
  )
