-- A volume tested by what its takes need, take by take.
use Prim.Native.Nat.{ℕ, ◌≤◌, ◌<◌}
use mathlib.Core.Bool.{Bool, true, false, not}
use mathlib.Core.Path.{◌≡◌, refl, sym}
use mathlib.Core.List.{List}
use native.Mathlib.Omega.{arith}
use lib.ListN.{get_or}
use Rattle.std.proofs.Common.{Option, Some, None, MatchOption}
use borrow.Author.Tests.{not-true}
use Rattle.octets.specs.Bytes.{◌and◌, ◌or◌, every}
use Rattle.octets.proofs.Tests.{never}
use Rattle.octets.proofs.Zero.{both}
use Rattle.rules.specs.Refusals.{group_bits, named}
use Rattle.rules.specs.Internal.Closure.{inside, meets, Closed}
use Rattle.needs.specs.Internal.Asking.{Lacks}

-- take t, if named, has what it needs
unfoldable pub served : List ℕ → ℕ → ℕ → Bool
served l w t = not (named w t) or inside (get_or l t 0) w

module _ (l : List ℕ) (v w : ℕ) where
  pub meets-off : inside w v ≡ false → false ≡ meets l v w
  unfolding meets
  meets-off e = rw e

  pub meets-by : inside w v ≡ true → {b : Bool} → b ≡ every group_bits (served l w) → b ≡ meets l v w
  unfolding meets served
  meets-by i e = rw i e

-- ---- the first that lacks one

-- take t, which v names, needs one that v does not name
unfoldable pub lacks_in : List ℕ → ℕ → ℕ → Bool
lacks_in l v t = named v t and not (inside (get_or l t 0) v)

pub lacking_first : (l : List ℕ) (v : ℕ) (r : Option ℕ)
    → MatchOption r ((k : ℕ) → 0 ≤ k → k < group_bits → lacks_in l v k ≡ false) (λ i. (0 ≤ i) × (i < group_bits) × (lacks_in l v i ≡ true) × ((k : ℕ) → 0 ≤ k → k < i → lacks_in l v k ≡ false))
    → MatchOption r (Closed l v) (Lacks l v)
unfolding lacks_in Closed
lacking_first l v None h = λ t b n. served_by (named v t) (inside (get_or l t 0) v) (h t (omega arith) b) n
  where
    served_by : (n i : Bool) → n and not i ≡ false → n ≡ true → i ≡ true
    served_by true true e f = refl
    served_by true false e f = never e
    served_by false i e f = never (sym f)
lacking_first l v (Some i) h = let b = both (named v i) (not (inside (get_or l i 0) v)) h.2 in record { below = h.1; member = b.0; lacks = not-true (inside (get_or l i 0) v) b.1 }
