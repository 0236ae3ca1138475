-- A map as a table: "A map holds at most one mark for each take."
use Rattle.std.specs.Prelude.{ℕ}
use Rattle.std.proofs.Math.Option.{Option, none, some}
use Rattle.octets.specs.Bytes.{pick}
use Rattle.marks.specs.History.{HistoryView, view_of}
use Rattle.maps.specs.declared.DependenceMap.{DependenceMap}
use Rattle.maps.specs.Map.{held_at, history_at}

-- of each take the mark that the map holds, or none
abbrev pub MapView : Type 0
MapView = ℕ → Option HistoryView

unfoldable pub map_view : DependenceMap → MapView
map_view m u = pick (held_at m u) (some (view_of (history_at m u))) none
