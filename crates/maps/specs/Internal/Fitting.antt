-- What the functions on maps ask of them: marks that fit their bytes.
use Rattle.std.specs.Prelude.{ℕ, ◌≤◌, ◌<◌, Bool, true, false, ◌≡◌, List, length}
use Rattle.octets.specs.Bytes.{pick, ◌or◌, part, all_zero}
use Rattle.marks.specs.declared.History.{History}
use Rattle.marks.specs.History.{Roomy, initial_history}
use Rattle.marks.specs.Packed.{unpack_history, present_in, Packable}
use Rattle.maps.specs.declared.DependenceMap.{DependenceMap}
use Rattle.maps.specs.Map.{held_at, history_at, joined_history}
use Rattle.maps.specs.Packed.{map_size, pack_entry, pack_map, map_in}

-- ---- what can be packed: a mark that is held fits its bytes, one that is not is the initial one

pub data EntryOk (w l : ℕ) : Bool → History → Type 0 where
  present : {h : History} → Roomy l h → Packable w l h → EntryOk w l true h
  absent : EntryOk w l false (initial_history l)

pub record MapOk (w l n : ℕ) (m : DependenceMap) : Type 0 where
  pub helds : length m.held ≡ n
  pub histories : length m.histories ≡ n
  pub each : (i : ℕ) → i < n → EntryOk w l (held_at m i) (history_at m i)

-- every count is within its list
unfoldable pub Bounded : ℕ → DependenceMap → Type 0
Bounded l m = (i : ℕ) → (history_at m i).count ≤ l

-- how many entries of a packed map of n are looked at: none if all its bytes are zero
unfoldable pub looked : ℕ → List ℕ → ℕ
looked n b = pick (all_zero b) 0 n

-- ---- joining into packed bytes

-- the entry packed in b packs to these bytes
unfoldable pub ExactEntry : ℕ → ℕ → List ℕ → Type 0
ExactEntry w l b = pack_entry w l (present_in b) (unpack_history w l b) ≡ b

-- and so does the map packed in s from at on
unfoldable pub Exact : ℕ → ℕ → ℕ → List ℕ → ℕ → Type 0
Exact w l n s at = pack_map w l n (map_in w l n s at) ≡ part at (map_size w l n) s

-- the bytes of the mark h, if p, joined as the left one with the entry packed in b
unfoldable pub joined_bytes : ℕ → ℕ → Bool → History → List ℕ → List ℕ
joined_bytes w l p h b = pack_entry w l (p or present_in b) (joined_history p h (present_in b) (unpack_history w l b))
