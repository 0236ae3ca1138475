-- What internal functions cite: the form in the order in which the code tests it, take by take and place by place.
use Rattle.std.specs.Prelude.{ℕ, zero, suc, ◌+◌, ◌-◌, ◌/◌, ◌%◌, ◌≤◌, Bool, not, List, ◌≡◌, length, get_or, eqb, ltb, leb}
use Rattle.octets.specs.Bytes.{pick, ◌and◌, ◌or◌, part, every, all_zero}
use Rattle.octets.specs.Numbers.{of_be}
use Rattle.marks.specs.Packed.{unpack_history, present_in}
use Rattle.rules.specs.Layout.{Layout, base, in_range, image_bytes, history_bytes, map_bytes, saved_at, state_at, creation_at, behaviour_at, transactor_bytes, message_bytes, transactor_address, message_address}
use Rattle.rules.specs.Status.{unused, idle, annihilated}
use Rattle.rules.specs.Pack.{waiting_in, unpack}
use Rattle.rules.specs.Form.{map_formed, limits_zero}
use Rattle.image.specs.Internal.Addresses.{own_at, map_at}

-- as long as an image, with so many takes opened, and signings of one take within what a mark has places for
pub record Headed (img : List ℕ) (opened limit : ℕ) : Type 0 where
  pub long : length img ≡ image_bytes base
  pub many : opened ≡ (unpack base img).opened
  pub most : limit ≡ (unpack base img).limits.checkpoints
  pub within : limit ≤ base.places

-- its own mark, and no saved text before a signing
unfoldable pub formed_own_at : Layout → List ℕ → ℕ → Bool
formed_own_at y img t =
    present_in (part (own_at y t) (history_bytes y) img)
    and (not (eqb (unpack_history y.width y.places (part (own_at y t) (history_bytes y) img)).count 0)
    or eqb (of_be 4 (part (transactor_address y t + saved_at) 4 img)) 0)

-- take t, idle or at work
unfoldable pub formed_live_at : Layout → List ℕ → ℕ → Bool
formed_live_at y img t =
    map_formed y (unpack y img) (transactor_address y t + state_at) img
    and map_formed y (unpack y img) (transactor_address y t + creation_at y) img
    and formed_own_at y img t
    and pick (eqb (get_or img (transactor_address y t) 0 / 64) idle) (all_zero (part (transactor_address y t + behaviour_at y) (map_bytes y) img))
    (map_formed y (unpack y img) (transactor_address y t + behaviour_at y) img)

-- take t: unopened, vanished, idle or at work
unfoldable pub formed_transactor_at : Layout → List ℕ → ℕ → Bool
formed_transactor_at y img t =
    pick (leb (unpack y img).opened t) (all_zero (part (transactor_address y t) (transactor_bytes y) img))
    (eqb (get_or img (transactor_address y t) 0 % 64) 0
    and not (eqb (get_or img (transactor_address y t) 0 / 64) unused)
    and pick (eqb (get_or img (transactor_address y t) 0 / 64) annihilated) (all_zero (part (transactor_address y t + 1) (transactor_bytes y - 1) img))
    (formed_live_at y img t))

-- the least number that the parcel in place k may have: one more than that of the place before
unfoldable pub least_at : Layout → List ℕ → ℕ → ℕ
least_at y img zero = 0
least_at y img (suc k) = of_be 2 (part (message_address y k + 1) 2 img) + 1

-- parcel place k: vacant or taken
unfoldable pub formed_message_at : Layout → List ℕ → ℕ → Bool
formed_message_at y img k =
    pick (leb (waiting_in y img) k) (all_zero (part (message_address y k) (message_bytes y) img))
    (eqb (get_or img (message_address y k) 0 / 16) 8
    and ltb (get_or img (message_address y k) 0 % 16) (unpack y img).opened
    and ltb (of_be 2 (part (message_address y k + 1) 2 img)) (unpack y img).next
    and leb (least_at y img k) (of_be 2 (part (message_address y k + 1) 2 img))
    and map_formed y (unpack y img) (map_at y k) img)

-- the head and the limits: zero bytes, limits in range, no more takes opened or parcels waiting than they allow
unfoldable pub formed_front : Layout → List ℕ → Bool
formed_front y img =
    eqb (get_or img 3 0) 0
    and limits_zero y img
    and in_range y (unpack y img).limits
    and leb (unpack y img).opened (unpack y img).limits.transactors
    and leb (waiting_in y img) (unpack y img).limits.messages

unfoldable pub formed_image : Layout → List ℕ → Bool
formed_image y img =
    formed_front y img
    and every y.transactors (formed_transactor_at y img)
    and every y.messages (formed_message_at y img)
