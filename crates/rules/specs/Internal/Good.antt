-- Images, and bytes of one take, that hold a well-formed state: what the functions on an image ask.
use Rattle.std.specs.Prelude.{ℕ, ◌≡◌, List, length}
use Rattle.rules.specs.Layout.{base, transactor_bytes, image_bytes}
use Rattle.rules.specs.Pack.{pack_transactor, unpack_transactor, pack, unpack}
use Rattle.rules.specs.Internal.Well.{TransactorOk, WellFormed}

-- the image of a well-formed state
pub record Good (img : List ℕ) : Type 0 where
  pub long : length img ≡ image_bytes base
  pub back : pack base (unpack base img) ≡ img
  pub well : WellFormed base (unpack base img)

-- the bytes of a take that can be packed
pub record GoodPart (b : List ℕ) : Type 0 where
  pub long : length b ≡ transactor_bytes base
  pub back : pack_transactor base (unpack_transactor base b) ≡ b
  pub ok : TransactorOk base (unpack_transactor base b)
