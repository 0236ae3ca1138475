-- Document 01, "Packed forms": a map as the packed marks of its n entries, one after the other; an absent mark is all zero.
use Rattle.std.specs.Prelude.{ℕ, ◌*◌, Bool, List, ltb}
use Rattle.octets.specs.Bytes.{pick, part, chunks, tabulate, every, zeros, all_zero}
use Rattle.marks.specs.declared.History.{History}
use Rattle.marks.specs.Packed.{history_size, pack_history, unpack_history, present_in, formed_history}
use Rattle.maps.specs.declared.DependenceMap.{DependenceMap}
use Rattle.maps.specs.Map.{held_at, history_at}

-- What document 01 fixes: one entry for each of sixteen takes.
abbrev pub entries : ℕ
entries = 16

abbrev pub map_size : ℕ → ℕ → ℕ → ℕ
map_size w l n = history_size w l * n

unfoldable pub pack_entry : ℕ → ℕ → Bool → History → List ℕ
pack_entry w l p h = pick p (pack_history w l h) (zeros (history_size w l))

unfoldable pub pack_entry_at : ℕ → ℕ → DependenceMap → ℕ → List ℕ
pack_entry_at w l m i = pack_entry w l (held_at m i) (history_at m i)

unfoldable pub pack_map : ℕ → ℕ → ℕ → DependenceMap → List ℕ
pack_map w l n m = chunks n (pack_entry_at w l m)

-- the bytes of entry i
unfoldable pub entry_bytes : ℕ → ℕ → List ℕ → ℕ → List ℕ
entry_bytes w l b i = part (history_size w l * i) (history_size w l) b

unfoldable pub unpack_held_at : ℕ → ℕ → List ℕ → ℕ → Bool
unpack_held_at w l b i = present_in (entry_bytes w l b i)

unfoldable pub unpack_history_at : ℕ → ℕ → List ℕ → ℕ → History
unpack_history_at w l b i = unpack_history w l (entry_bytes w l b i)

unfoldable pub unpack_map : ℕ → ℕ → ℕ → List ℕ → DependenceMap
unpack_map w l n b = record { held = tabulate n (unpack_held_at w l b); histories = tabulate n (unpack_history_at w l b) }

-- the map packed in s from at on
abbrev pub map_in : ℕ → ℕ → ℕ → List ℕ → ℕ → DependenceMap
map_in w l n s at = unpack_map w l n (part at (map_size w l n) s)

-- Well-formed, where a list may have c entries: every mark is, and there is none of a take that is not among the first opened.
unfoldable pub formed_entry : ℕ → ℕ → Bool → List ℕ → Bool
formed_entry w c known b = pick known (formed_history w c b) (all_zero b)

unfoldable pub formed_entry_at : ℕ → ℕ → ℕ → ℕ → List ℕ → ℕ → Bool
formed_entry_at w l c opened b i = formed_entry w c (ltb i opened) (entry_bytes w l b i)

unfoldable pub formed_map : ℕ → ℕ → ℕ → ℕ → ℕ → List ℕ → Bool
formed_map w l n c opened b = every n (formed_entry_at w l c opened b)
