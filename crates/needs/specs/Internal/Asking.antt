-- What a mark asks of a volume, and what a volume lacks; for internal functions alone.
use Rattle.std.specs.Prelude.{ℕ, ◌<◌, true, false, ◌≡◌, List, get_or}
use Rattle.needs.specs.declared.Asks.{Asks}
use Rattle.needs.specs.declared.Asks.TheVariants.{Nothing, Member, More}
use Rattle.rules.specs.Refusals.{group_bits, named}
use Rattle.rules.specs.Internal.Closure.{inside}

-- as `asked_at` and `pair_asks` count
abbrev pub asks_number : Asks → ℕ
asks_number Nothing = 0
asks_number Member = 1
asks_number More = 2

-- take t, which v names, needs one that v does not name
pub record Lacks (l : List ℕ) (v t : ℕ) : Type 0 where
  pub below : t < group_bits
  pub member : named v t ≡ true
  pub lacks : inside (get_or l t 0) v ≡ false
