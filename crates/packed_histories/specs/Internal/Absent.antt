-- A mark as bytes, present or not.
use Rattle.std.specs.Prelude.{ℕ, ◌+◌, ◌*◌, Bool, List, ◌++◌}
use Rattle.octets.specs.Bytes.{chunks}
use Rattle.octets.specs.Numbers.{be}
use Rattle.marks.specs.declared.History.{History}
use Rattle.marks.specs.Packed.{bit, pack_number_at}

-- every field of h, with the present bit p: a mark that is present, or one whose fields stand where none is
unfoldable pub pack_as : ℕ → ℕ → Bool → History → List ℕ
pack_as w l p h =
    be 1 (128 * bit p + 64 * bit h.stable + h.count) ++ be w h.incarnation ++ chunks l (pack_number_at w h.checkpoints)
