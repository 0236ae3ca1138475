-- 17: the test's last answer, and what it says of a part that passes.
use Prim.Native.Nat.{ℕ, ◌-◌, ◌%◌, ◌≤◌}
use mathlib.Core.Bool.{false, not}
use mathlib.Core.Path.{◌≡◌}
use mathlib.Core.List.{List}
use lib.Dec.{eqb, ltb}
use lib.ListN.{length}
use borrow.Author.Tests.{le-ltb, ltb-false, eq-eqb, eqb-true, not-false}
use Rattle.octets.proofs.Tests.{or_off}
use Rattle.rules.specs.Step.{step_bytes}
use Rattle.rules.specs.Calls.{longest, wrong_part}

-- whole steps of the list, as many as a run takes
pub record RightPart (list : List ℕ) (start end : ℕ) : Type 0 where
  pub forth : start ≤ end
  pub within : end ≤ length list
  pub whole : (end - start) % step_bytes ≡ 0
  pub short : end - start ≤ longest

module _ (list : List ℕ) (start end : ℕ) where
  pub part-last : start ≤ end → end ≤ length list → (end - start) % step_bytes ≡ 0 → ltb longest (end - start) ≡ wrong_part list start end
  unfolding wrong_part
  part-last forth within whole = rw (le-ltb end start forth, le-ltb (length list) end within, eq-eqb ((end - start) % step_bytes) 0 whole)

  pub right-part : wrong_part list start end ≡ false → RightPart list start end
  unfolding wrong_part
  right-part e =
      let a = or_off (ltb end start) _ e in
      let b = or_off (ltb (length list) end) _ a.1 in
      let c = or_off (not (eqb ((end - start) % step_bytes) 0)) (ltb longest (end - start)) b.1 in
      record {
        forth = ltb-false end start a.0;
        within = ltb-false (length list) end b.0;
        whole = eqb-true ((end - start) % step_bytes) 0 (not-false _ c.0);
        short = ltb-false longest (end - start) c.1;
      }
