-- A take that can fall.
use Prim.Native.Nat.{◌<◌}
use mathlib.Core.Bool.{false}
use mathlib.Core.Path.{◌≡◌, ◌∙◌}
use native.Mathlib.Omega.{arith}
use lib.Dec.{leb}
use borrow.Author.Tests.{lt-ltb, leb-false}
use Rattle.octets.specs.Numbers.{bound}
use Rattle.engine_tables.specs.declared.table.Row.{Row}
use Rattle.engine_tables.specs.Internal.Guards.{last_row}

module _ (x : Row) where
  pub last_some : (x.checkpoints ≡ 0 → ⊥) → leb 65535 x.incarnation ≡ last_row x
  unfolding last_row bound
  last_some n = rw (lt-ltb 0 x.checkpoints (omega arith))

  -- one that can fall
  pub last-below : last_row x ≡ false → (x.checkpoints ≡ 0 → ⊥) → x.incarnation < 65535
  unfolding last_row bound
  last-below e n = leb-false 65535 x.incarnation (last_some n ∙ e)
