-- Document 02, W6, for the code: a packed map, well-formed or not, with every mark in another width.
use Rattle.std.specs.Prelude.{ℕ, List}
use Rattle.octets.specs.Bytes.{chunks}
use Rattle.marks.specs.Internal.Recast.{recast_history}
use Rattle.maps.specs.Packed.{entry_bytes}

unfoldable pub recast_entry_at : ℕ → ℕ → ℕ → List ℕ → ℕ → List ℕ
recast_entry_at v w l b i = recast_history v w l (entry_bytes v l b i)

-- a map of numbers of v bytes, in w bytes
unfoldable pub recast_map : ℕ → ℕ → ℕ → ℕ → List ℕ → List ℕ
recast_map v w l n b = chunks n (recast_entry_at v w l b)
