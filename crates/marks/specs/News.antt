-- Document 02, W4, "News of a freeze": "A recorded unfrozen mark becomes frozen when the parcel shows that this same life was frozen,
-- either by a frozen mark of that life or by a longer list that begins with this mark's list and whose next entry is its n."
use Rattle.std.specs.Prelude.{Bool, true, ◌≡◌}
use Rattle.octets.specs.Bytes.{pick, ◌and◌, ◌or◌}
use Rattle.marks.specs.declared.History.{History}
use Rattle.marks.specs.Incarnation.{Incarnation, same_incarnation, checkpointed_in, Checkpointed}
use Rattle.marks.specs.History.{HistoryView, incarnation_of, view_of, stabilized}

-- the parcel's mark p shows that life a of the same take was frozen
unfoldable pub shows_stable : Incarnation → HistoryView → Bool
shows_stable a p = (same_incarnation a p.incarnation and p.stable) or checkpointed_in a p.incarnation

-- the recorded mark x after that of the parcel, y
unfoldable pub informed : History → History → History
informed x y = pick (shows_stable (incarnation_of x) (view_of y)) (stabilized x) x

-- ---- for theorems

-- the mark p shows that life a was frozen: it is frozen and of that life, or its list begins with a's followed by a's n
pub data Shows (a : Incarnation) (p : HistoryView) : Type 0 where
  by-stable : a ≡ p.incarnation → p.stable ≡ true → Shows a p
  by-list : Checkpointed a p.incarnation → Shows a p
