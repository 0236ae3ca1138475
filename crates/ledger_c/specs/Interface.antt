-- How the answers of offer, smallest group, all heard frozen, obstacle, impediment, actor and show are put in numbers.
use Rattle.std.specs.Prelude.{ℕ, ◌+◌, ◌*◌, Bool, true, false, List, eqb}
use Rattle.std.proofs.Math.Option.{Option, none, some}
use Rattle.std.specs.Prelude as std
use Rattle.octets.specs.Bytes.{pick}
use Rattle.rules.specs.Layout.{Layout, message_address, dependences_at, map_bytes}
use Rattle.rules.specs.State.{place_of}
use Rattle.rules.specs.Pack.{unpack}
use Rattle.rules.specs.Calls.{show_refusal}
use Rattle.rules.specs.Obstacle.{ObstacleNumbers}
use Rattle.rules.specs.Impediment.{ImpedimentNumbers}
use Rattle.actors.specs.declared.Actor.{Actor}
use Rattle.actors.specs.Actor.{actor_numbers}
use Rattle.ledger_c.specs.declared.Acting.{Acting}
use Rattle.ledger_c.specs.declared.Cause.{Cause}
use Rattle.ledger_c.specs.declared.Part.{Part}
use Rattle.ledger_c.specs.declared.Reason.{Reason}

-- a version's major, minor and patch number, a byte each
abbrev pub version : ℕ → ℕ → ℕ → ℕ
version major minor patch = 65536 * major + 256 * minor + patch

-- no parcel has this number: they run 0 to 65,534
abbrev pub no_message : ℕ
no_message = 65535

-- The number that stands for an answer of offer: a parcel's own, or no_message for none.
abbrev pub number_of : Option ℕ → ℕ
number_of (some n) = n
number_of none = no_message

-- The answer that a number stands for.
unfoldable pub offered_by : ℕ → Option ℕ
offered_by n = pick (eqb n no_message) none (some n)

-- The number that stands for an answer of smallest group: the volume, or 0, which names no take, for none.
abbrev pub group_bits_of : Option ℕ → ℕ
group_bits_of (some v) = v
group_bits_of none = 0

-- The answer that a number stands for.
unfoldable pub group_of : ℕ → Option ℕ
group_of v = pick (eqb v 0) none (some v)

-- The number that stands for yes or no.
abbrev pub number_for : Bool → ℕ
number_for true = 1
number_for false = 0

-- The numbers of obstacle's answer, as the struct for other languages has them.
abbrev pub reason_numbers : Reason → ObstacleNumbers
reason_numbers r = record { kind = r.kind; transactor = r.transactor; support = r.support }

-- And those of impediment's answer.
abbrev pub cause_numbers : Cause → ImpedimentNumbers
cause_numbers r = record { kind = r.kind; transactor = r.transactor; support = r.support; next = r.next }

-- The numbers that stand for an answer of actor.
abbrev pub acting_for : std.Option Actor → Acting
acting_for a = record { kind = (actor_numbers a).kind; takes = (actor_numbers a).takes }

-- The bytes of the image that hold a waiting parcel's map: where they start, and how many. Refused: an empty part.
unfoldable pub shown_part : Layout → List ℕ → ℕ → Part
shown_part y img n =
    pick (eqb (show_refusal y img n) 0)
    (record { offset = message_address y (place_of (unpack y img) n) + dependences_at; length = map_bytes y })
    (record { offset = 0; length = 0 })
