-- Maps as tables, for proofs: the empty one, one mark alone, joining, a stale mark.
use Rattle.std.specs.Prelude.{ℕ, ◌≡◌}
use Rattle.std.proofs.Math.Option.{Option, none, some}
use Rattle.marks.specs.Incarnation.{Superseded}
use Rattle.marks.specs.History.{HistoryView, newer_view}
use Rattle.octets.specs.Table.{updated}
pub use Rattle.maps.specs.View.{MapView}
unfoldable pub use Rattle.maps.specs.View.{map_view}

abbrev pub empty_view : MapView
empty_view u = none

-- the mark h of take t alone
unfoldable pub singleton_view : ℕ → HistoryView → MapView
singleton_view t h = updated empty_view t (some h)

-- "Joining takes the newer mark where both have one."
unfoldable pub join_entry : Option HistoryView → Option HistoryView → Option HistoryView
join_entry none z = z
join_entry (some a) none = some a
join_entry (some a) (some b) = some (newer_view a b)

abbrev pub join_view : MapView → MapView → MapView
join_view M N u = join_entry (M u) (N u)

-- a mark of M is stale by N's of the same take
pub data SupersededView (M N : MapView) : Type 0 where
  superseded-entry : (u : ℕ) (a b : HistoryView) → M u ≡ some a → N u ≡ some b → Superseded a.incarnation b.incarnation → SupersededView M N
