-- Document 02, W6, for the code: a packed mark, well-formed or not, with its life number and list entries written anew in another width.
use Rattle.std.specs.Prelude.{ℕ, List, ◌++◌}
use Rattle.octets.specs.Bytes.{part, chunks}
use Rattle.octets.specs.Numbers.{be}
use Rattle.marks.specs.Packed.{pack_number_at, load_number_at, unpack_history}

-- number i of a mark, the life number or after it one of the list, from v bytes to w
unfoldable pub renumbered_at : ℕ → ℕ → List ℕ → ℕ → List ℕ
renumbered_at v w b i = be w (load_number_at v b 1 i)

-- a mark of numbers of v bytes, in w bytes
unfoldable pub recast_history : ℕ → ℕ → ℕ → List ℕ → List ℕ
recast_history v w l b = part 0 1 b ++ be w (unpack_history v l b).incarnation ++ chunks l (pack_number_at w (unpack_history v l b).checkpoints)
