-- Document 02, W4, "News of a freeze": what a map is after a parcel's, "for every entry but the receiver's own".
use Rattle.std.specs.Prelude.{ℕ, ◌<◌, Bool, ◌≡◌, eqb}
use Rattle.octets.specs.Bytes.{pick, ◌and◌, tabulate}
use Rattle.marks.specs.declared.History.{History}
use Rattle.marks.specs.History.{incarnation_of}
use Rattle.marks.specs.News.{informed}
use Rattle.maps.specs.declared.DependenceMap.{DependenceMap}
use Rattle.maps.specs.Map.{held_at, history_at}

-- the mark x, if p, after that of the parcel, y if q
unfoldable pub informed_history : Bool → History → Bool → History → History
informed_history p x q y = pick (p and q) (informed x y) x

-- entry u of take t's map a after the parcel's map b
unfoldable pub informed_history_at : ℕ → DependenceMap → DependenceMap → ℕ → History
informed_history_at t a b u = pick (eqb u t) (history_at a u) (informed_history (held_at a u) (history_at a u) (held_at b u) (history_at b u))

-- take t's map a after the parcel's map b
unfoldable pub informed_of : ℕ → ℕ → DependenceMap → DependenceMap → DependenceMap
informed_of n t a b = record { held = a.held; histories = tabulate n (informed_history_at t a b) }

-- for theorems, "no mark changes its life": the n entries of b are there exactly where those of a are, and of the same lives
pub record SameIncarnations (n : ℕ) (a b : DependenceMap) : Type 0 where
  pub held : (u : ℕ) → held_at b u ≡ held_at a u
  pub incarnation : (u : ℕ) → u < n → incarnation_of (history_at b u) ≡ incarnation_of (history_at a u)
