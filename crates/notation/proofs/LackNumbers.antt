-- The number of a lack.
use Prim.Native.Nat.{ℕ, ◌≤◌}
use mathlib.Core.List.{List}
use native.Mathlib.Omega.{arith}
use Rattle.notation.specs.Faults.{Lacking, no_item, no_group, no_comma, no_kind, no_end}

-- one of 1 to 11
pub lack-number : (s : List ℕ) (at e : ℕ) → Lacking s at e → (1 ≤ e) × (e ≤ 11)
lack-number s at e (no_item _ i j v f) = (omega arith, omega arith)
lack-number s at e (no_group _) = (omega arith, omega arith)
lack-number s at e (no_comma _ _) = (omega arith, omega arith)
lack-number s at e (no_kind _) = (omega arith, omega arith)
lack-number s at e (no_end _) = (omega arith, omega arith)
