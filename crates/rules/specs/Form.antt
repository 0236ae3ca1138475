-- Document 01, "Where each call is turned back": when an image is well-formed, clause by clause.
use Rattle.std.specs.Prelude.{ℕ, ◌+◌, ◌/◌, ◌%◌, Bool, not, List, length, get_or, drop, eqb, ltb, leb}
use Rattle.octets.specs.Bytes.{pick, ◌and◌, ◌or◌, part, every, all_zero}
use Rattle.maps.specs.Map.{held_at}
use Rattle.maps.specs.Packed.{formed_map}
use Rattle.rules.specs.Layout.{Layout, in_range, map_bytes, state_at, creation_at, behaviour_at, dependences_at}
use Rattle.rules.specs.Status.{unused, idle, annihilated}
use Rattle.rules.specs.State.{State, transactor_at, message_at, own_history, live}
use Rattle.rules.specs.Pack.{transactor_part, message_part, vacant_at, unpack}

-- the map at a place of an image's part b: its zero fields and unused places are zero, it has no mark of an unopened take, and no mark
-- has more entries in its list than the session's limits allow
unfoldable pub map_formed : Layout → State → ℕ → List ℕ → Bool
map_formed y s at b = formed_map y.width y.places y.transactors s.limits.checkpoints s.opened (part at (map_bytes y) b)

-- a zero field or unused place not zero, a mark of an unopened take: in a take's place
unfoldable pub transactor_zeros : Layout → List ℕ → ℕ → Bool
transactor_zeros y img t =
    eqb (get_or (transactor_part y img t) 0 0 % 64) 0
    and map_formed y (unpack y img) state_at (transactor_part y img t)
    and map_formed y (unpack y img) (creation_at y) (transactor_part y img t)
    and map_formed y (unpack y img) (behaviour_at y) (transactor_part y img t)
    and (ltb t (unpack y img).opened or all_zero (transactor_part y img t))

-- the same in a parcel's place
unfoldable pub message_zeros : Layout → List ℕ → ℕ → Bool
message_zeros y img k =
    pick (vacant_at y img k) (all_zero (message_part y img k))
    (eqb (get_or (message_part y img k) 0 0 / 16) 8 and map_formed y (unpack y img) dependences_at (message_part y img k))

-- an opened take with status 0 or an unopened one with another
unfoldable pub status_right : State → ℕ → Bool
status_right s t = pick (ltb t s.opened) (not (eqb (transactor_at s t).status unused)) (eqb (transactor_at s t).status unused)

-- a live take without its own mark
unfoldable pub own_held : State → ℕ → Bool
own_held s t = not (live (transactor_at s t)) or held_at (transactor_at s t).state t

-- a never signed take with a saved text
unfoldable pub saved_right : State → ℕ → Bool
saved_right s t =
    not (live (transactor_at s t))
    or not (eqb (own_history t (transactor_at s t)).count 0)
    or eqb (transactor_at s t).saved 0

-- an idle take with a behaviour map
unfoldable pub idle_right : Layout → List ℕ → ℕ → Bool
idle_right y img t =
    not (eqb (transactor_at (unpack y img) t).status idle)
    or all_zero (part (behaviour_at y) (map_bytes y) (transactor_part y img t))

-- a vanished take with more than its status
unfoldable pub annihilated_right : Layout → List ℕ → ℕ → Bool
annihilated_right y img t =
    not (eqb (transactor_at (unpack y img) t).status annihilated)
    or all_zero (drop 1 (transactor_part y img t))

-- parcels with gaps: one that waits after a place where none does
unfoldable pub no_gap : Layout → List ℕ → ℕ → Bool
no_gap y img k = not (vacant_at y img k) or vacant_at y img (k + 1)

-- out of order
unfoldable pub in_order : State → ℕ → Bool
in_order s k = leb (length s.messages) (k + 1) or ltb (message_at s k).number (message_at s (k + 1)).number

-- at or above the next number
unfoldable pub number_right : State → ℕ → Bool
number_right s k = leb (length s.messages) k or ltb (message_at s k).number s.next

-- to unopened takes
unfoldable pub addressee_right : State → ℕ → Bool
addressee_right s k = leb (length s.messages) k or ltb (message_at s k).addressee s.opened

-- document 02, W7: "the fourth zero"
unfoldable pub limits_zero : Layout → List ℕ → Bool
limits_zero y img = not y.limited or eqb (get_or img 7 0) 0

unfoldable pub well_formed : Layout → List ℕ → Bool
well_formed y img =
    eqb (get_or img 3 0) 0
    and limits_zero y img
    and in_range y (unpack y img).limits
    and every y.transactors (transactor_zeros y img)
    and every y.messages (message_zeros y img)
    and leb (unpack y img).opened (unpack y img).limits.transactors
    and leb (length (unpack y img).messages) (unpack y img).limits.messages
    and every y.transactors (status_right (unpack y img))
    and every y.transactors (own_held (unpack y img))
    and every y.transactors (saved_right (unpack y img))
    and every y.transactors (idle_right y img)
    and every y.transactors (annihilated_right y img)
    and every y.messages (no_gap y img)
    and every y.messages (in_order (unpack y img))
    and every y.messages (number_right (unpack y img))
    and every y.messages (addressee_right (unpack y img))
