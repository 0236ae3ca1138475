-- Document 02, W4, "all heard frozen": "every other entry" of a take's map "is frozen".
use Rattle.std.specs.Prelude.{ℕ, Bool, not, eqb}
use Rattle.octets.specs.Bytes.{◌or◌, every}
use Rattle.marks.specs.declared.History.{History}
use Rattle.maps.specs.declared.DependenceMap.{DependenceMap}
use Rattle.maps.specs.Map.{held_at, history_at}

-- the take's own entry, or absent, or frozen
unfoldable pub stable_entry : Bool → Bool → History → Bool
stable_entry own p h = own or (not p or h.stable)

-- entry u of take t's map m
unfoldable pub stable_at : ℕ → DependenceMap → ℕ → Bool
stable_at t m u = stable_entry (eqb u t) (held_at m u) (history_at m u)

-- every entry of take t's map m but its own is frozen
unfoldable pub others_stable : ℕ → ℕ → DependenceMap → Bool
others_stable n t m = every n (stable_at t m)
