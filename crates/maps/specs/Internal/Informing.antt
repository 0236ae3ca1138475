-- News of a freeze in packed bytes.
use Rattle.std.specs.Prelude.{ℕ, ◌+◌, ◌≤◌, Bool, not, List}
use Rattle.octets.specs.Bytes.{pick, ◌and◌, put, part}
use Rattle.marks.specs.declared.History.{History}
use Rattle.marks.specs.History.{incarnation_of, view_of, stabilized}
use Rattle.marks.specs.News.{shows_stable}
use Rattle.marks.specs.Packed.{history_size, pack_history, unpack_history, present_in}

-- the k bytes from a on and those from b on have none in common
pub data Apart (k a b : ℕ) : Type 0 where
  before : a + k ≤ b → Apart k a b
  behind : b + k ≤ a → Apart k a b

-- both are held, x is unfrozen, and y shows that its life was frozen
unfoldable pub shown_entry : Bool → History → Bool → History → Bool
shown_entry p x q y = q and (p and (not x.stable and shows_stable (incarnation_of x) (view_of y)))

-- s with the entry packed at at after that of the parcel, y if q; the receiver's own stays
unfoldable pub informed_at : ℕ → ℕ → List ℕ → ℕ → Bool → Bool → History → List ℕ
informed_at w l s at own q y =
    pick (not own and shown_entry (present_in (part at (history_size w l) s)) (unpack_history w l (part at (history_size w l) s)) q y)
    (put at (pack_history w l (stabilized (unpack_history w l (part at (history_size w l) s)))) s) s
