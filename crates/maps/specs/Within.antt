-- Document 02, W6: "some life number or list entry is over 255", of a map of k entries, whose lists have l places.
use Rattle.std.specs.Prelude.{ℕ, ◌<◌, Bool, true, not, ◌≡◌}
use Rattle.octets.specs.Bytes.{◌or◌, every}
use Rattle.marks.specs.Within.{history_within, Low}
use Rattle.maps.specs.declared.DependenceMap.{DependenceMap}
use Rattle.maps.specs.Map.{held_at, history_at}

-- every number of every mark of the map is at most n
unfoldable pub map_within : ℕ → ℕ → ℕ → DependenceMap → Bool
map_within n l k m = every k (λ u. not (held_at m u) or history_within n l (history_at m u))

-- for theorems: each is below b
unfoldable pub LowMap : ℕ → ℕ → DependenceMap → Type 0
LowMap b k m = (i : ℕ) → i < k → held_at m i ≡ true → Low b (history_at m i)
