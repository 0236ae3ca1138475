-- The place of a parcel number.
use Prim.Native.Nat.{ℕ, ◌≤◌, ◌<◌}
use mathlib.Core.Path.{◌≡◌}
use native.Mathlib.Omega.{arith}
use lib.Dec.{leb}
use borrow.Author.Tests.{le-leb, lt-leb, leb-false}
use Rattle.octets.proofs.Tests.{pick-view}
use Rattle.engine_tables.specs.Internal.Places.{most, placed}

pub placed_below : (k : ℕ) → k < most → placed k ≡ k
unfolding placed
placed_below k h = rw (lt-leb most k h)

pub placed_past : (k : ℕ) → most ≤ k → placed k ≡ most
unfolding placed
placed_past k h = rw (le-leb most k h)

pub placed-within : (k : ℕ) → placed k ≤ most
unfolding placed
placed-within k = pick-view (λ n. n ≤ most) (leb most k) most k (λ e. omega arith) (λ e. omega (arith, leb-false most k e))
