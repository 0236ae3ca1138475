-- Where an image fails the form first, and by which of its clauses. The parts are looked at in the order of the bytes: the head and the limits, the
-- takes, the parcel places. In each part the tests are made in the order in which they stand below. Document 01, "Ill-formed: ..", and document 02, W7.
use Rattle.std.specs.Prelude.{ℕ, zero, suc, ◌+◌, ◌-◌, ◌/◌, ◌%◌, Bool, true, false, not, ◌≡◌, ◌<◌, Option, Some, None, Result, Ok, Err, List, get_or, eqb, ltb, leb}
use Rattle.octets.specs.Bytes.{pick, ◌or◌, part, all_zero}
use Rattle.octets.specs.Numbers.{of_be}
use Rattle.marks.specs.Packed.{unpack_history, present_in}
use Rattle.rules.specs.Layout.{Layout, in_range, history_bytes, map_bytes, saved_at, state_at, creation_at, behaviour_at, transactor_bytes, message_bytes, transactor_address, message_address}
use Rattle.rules.specs.Status.{unused, idle, annihilated}
use Rattle.rules.specs.Pack.{waiting_in, unpack}
use Rattle.rules.specs.Form.{map_formed, limits_zero}
use Rattle.rules.specs.Calls.{wrong_length}
use Rattle.image.specs.Internal.Addresses.{own_at, map_at}
use Rattle.rules.specs.declared.refusals.Refusal.{Refusal}
use Rattle.rules.specs.Numbers.{refusal_number}
use Rattle.defects.specs.declared.Defect.{Defect}
use Rattle.defects.specs.declared.Clause.{Clause}
use Rattle.defects.specs.declared.Clause.TheVariants.{FrontZeros, WrongLimits, TransactorZeros, PlaceZeros, WrongMap, OverLimit, WrongStatus, NoOwnHistory, SavedValue, IdleBehaviour, OverStatus, Gap, OutOfOrder, OverNext, ToUnopened}

-- ---- the clauses by their numbers, those of docs/RULES.md, section 8

abbrev pub clause_number : Clause → ℕ
-- bytes 3 and 7: "a zero field .. not zero", in the head and behind the limits
clause_number FrontZeros = 1
-- document 02, W7: limits not in range
clause_number WrongLimits = 2
-- "a zero field or unused place not zero", in a take's place
clause_number TransactorZeros = 3
-- the same in a parcel's place
clause_number PlaceZeros = 4
-- the same in a map; or "a mark of an unopened take" in it; or a list with more entries than the session has signings
clause_number WrongMap = 5
-- "over 16 opened": more takes opened, or more parcels waiting, than the session's limits
clause_number OverLimit = 6
-- "an opened take with status 0"
clause_number WrongStatus = 7
-- "a live take without its own mark"
clause_number NoOwnHistory = 8
-- "a never signed take with a saved text"
clause_number SavedValue = 9
-- "an idle take with a behaviour map"
clause_number IdleBehaviour = 10
-- "a vanished take with more than its status"
clause_number OverStatus = 11
-- "parcels with gaps"
clause_number Gap = 12
-- "out of order"
clause_number OutOfOrder = 13
-- "at or above the next number"
clause_number OverNext = 14
-- "to unopened takes"
clause_number ToUnopened = 15

-- ---- one after the other

-- If the test ok holds, the answer is that of the tests after it (rest); else clause c fails at byte at.
abbrev pub check : Bool → ℕ → Clause → Option Defect → Option Defect
check ok at c rest = pick ok rest (Some (record { at = at; clause = c }))

-- The answer d if a clause fails in it; else the answer e.
abbrev pub or_else : Option Defect → Option Defect → Option Defect
or_else (Some d) e = Some d
or_else None e = e

-- Of the n answers f k, f (k + 1), .. the first one in which a clause fails.
unfoldable pub first_of : (ℕ → Option Defect) → ℕ → ℕ → Option Defect
first_of f k zero = None
first_of f k (suc n) = or_else (f k) (first_of f (suc k) n)

-- Where each of n parts answers as f says (P k d: part k may answer with d), a search among them found r: the first defect, or none.
abbrev pub Finds : (ℕ → Option Defect → Type 0) → ℕ → Option Defect → Type 0
Finds P n r = (f : ℕ → Option Defect) → ((k : ℕ) (d : Option Defect) → k < n → P k d → d ≡ f k) → r ≡ first_of f 0 n

-- ---- the parts

-- The head (takes opened 8 bits, next parcel number 16, zero 8) and the limits (takes, parcels waiting, signings, zero, 8 bits each).
unfoldable pub front_defect : Layout → List ℕ → Option Defect
front_defect y img =
    check (eqb (get_or img 3 0) 0) 3 FrontZeros
    (check (limits_zero y img) 7 FrontZeros
    (check (in_range y (unpack y img).limits) 4 WrongLimits
    (check (leb (unpack y img).opened (unpack y img).limits.transactors) 0 OverLimit
    (check (leb (waiting_in y img) (unpack y img).limits.messages) 5 OverLimit None))))

-- The behaviour map of take t: of an idle take it is all zero, of one at work it is a well-formed map.
unfoldable pub behaviour_defect : Layout → List ℕ → ℕ → Option Defect
behaviour_defect y img t =
    pick (eqb (get_or img (transactor_address y t) 0 / 64) idle)
    (check (all_zero (part (transactor_address y t + behaviour_at y) (map_bytes y) img)) (transactor_address y t + behaviour_at y) IdleBehaviour None)
    (check (map_formed y (unpack y img) (transactor_address y t + behaviour_at y) img) (transactor_address y t + behaviour_at y) WrongMap None)

-- Take t was signed, or it has no saved text.
unfoldable pub saved_right_at : Layout → List ℕ → ℕ → Bool
saved_right_at y img t =
    not (eqb (unpack_history y.width y.places (part (own_at y t) (history_bytes y) img)).count 0)
    or eqb (of_be 4 (part (transactor_address y t + saved_at) 4 img)) 0

-- Take t, which is idle or at work: its state map, its creation map, its own mark, its saved text, its behaviour map.
unfoldable pub live_defect : Layout → List ℕ → ℕ → Option Defect
live_defect y img t =
    check (map_formed y (unpack y img) (transactor_address y t + state_at) img) (transactor_address y t + state_at) WrongMap
    (check (map_formed y (unpack y img) (transactor_address y t + creation_at y) img) (transactor_address y t + creation_at y) WrongMap
    (check (present_in (part (own_at y t) (history_bytes y) img)) (own_at y t) NoOwnHistory
    (check (saved_right_at y img t) (transactor_address y t + saved_at) SavedValue (behaviour_defect y img t))))

-- Take t, which may be unopened, vanished, idle or at work.
unfoldable pub transactor_defect : Layout → List ℕ → ℕ → Option Defect
transactor_defect y img t =
    pick (leb (unpack y img).opened t) (check (all_zero (part (transactor_address y t) (transactor_bytes y) img)) (transactor_address y t) TransactorZeros None)
    (check (eqb (get_or img (transactor_address y t) 0 % 64) 0) (transactor_address y t) TransactorZeros
    (check (not (eqb (get_or img (transactor_address y t) 0 / 64) unused)) (transactor_address y t) WrongStatus
    (pick (eqb (get_or img (transactor_address y t) 0 / 64) annihilated)
    (check (all_zero (part (transactor_address y t + 1) (transactor_bytes y - 1) img)) (transactor_address y t + 1) OverStatus None)
    (live_defect y img t))))

-- the least number that the parcel in place k may have: one more than that of the place before
unfoldable pub least_number : Layout → List ℕ → ℕ → ℕ
least_number y img zero = 0
least_number y img (suc k) = of_be 2 (part (message_address y k + 1) 2 img) + 1

-- Place k, in which a parcel waits: the first byte, the addressee in it, the number, the map.
unfoldable pub waiting_defect : Layout → List ℕ → ℕ → Option Defect
waiting_defect y img k =
    check (eqb (get_or img (message_address y k) 0 / 16) 8) (message_address y k) PlaceZeros
    (check (ltb (get_or img (message_address y k) 0 % 16) (unpack y img).opened) (message_address y k) ToUnopened
    (check (ltb (of_be 2 (part (message_address y k + 1) 2 img)) (unpack y img).next) (message_address y k + 1) OverNext
    (check (leb (least_number y img k) (of_be 2 (part (message_address y k + 1) 2 img))) (message_address y k + 1) OutOfOrder
    (check (map_formed y (unpack y img) (map_at y k) img) (map_at y k) WrongMap None))))

-- Place k. From the first place on in which no parcel waits every place is zero; a parcel that waits in one of them leaves a Gap before it.
unfoldable pub message_defect : Layout → List ℕ → ℕ → Option Defect
message_defect y img k =
    pick (leb (waiting_in y img) k)
    (check (all_zero (part (message_address y k) (message_bytes y) img)) (message_address y k) (pick (ltb (get_or img (message_address y k) 0) 128) PlaceZeros Gap) None)
    (waiting_defect y img k)

unfoldable pub defect_of : Layout → List ℕ → Option Defect
defect_of y img =
    or_else (front_defect y img)
    (or_else (first_of (transactor_defect y img) 0 y.transactors) (first_of (message_defect y img) 0 y.messages))

-- ---- the call

abbrev pub is_sound : Option Defect → Bool
is_sound (Some d) = false
is_sound None = true

-- Refused with 16 for the image's length, with 19 if a clause fails.
unfoldable pub defect_refusal : Layout → List ℕ → ℕ
defect_refusal y img = pick (wrong_length y img) 16 (pick (is_sound (defect_of y img)) 0 19)

-- The clause that fails, and the byte; where the image has another length, that no clause fails.
unfoldable pub defect_found : Layout → List ℕ → Option Defect
defect_found y img = pick (wrong_length y img) None (defect_of y img)

-- What the call promises: r is the refusal or 0; d is the answer.
abbrev pub DefectPromise : Layout → (img : List ℕ) (r : ℕ) → Option Defect → Type 0
DefectPromise y img r d = (r ≡ defect_refusal y img) × (d ≡ defect_found y img)

-- The refusal that a result tells: of an image of another length, or of one in which a clause fails.
abbrev pub told_refusal : Result (Option Defect) Refusal → ℕ
told_refusal (Ok None) = 0
told_refusal (Ok (Some d)) = 19
told_refusal (Err r) = refusal_number r

-- The clause that fails, and the byte.
abbrev pub told_defect : Result (Option Defect) Refusal → Option Defect
told_defect (Ok d) = d
told_defect (Err r) = None

-- ---- the same in numbers

-- the byte and the clause, both 0 where no clause fails
pub record DefectNumbers : Type 0 where
  pub at : ℕ
  pub clause : ℕ

abbrev pub defect_numbers : Option Defect → DefectNumbers
defect_numbers (Some d) = record { at = d.at; clause = clause_number d.clause }
defect_numbers None = record { at = 0; clause = 0 }

abbrev pub defect_answer : Layout → List ℕ → DefectNumbers
defect_answer y img = defect_numbers (defect_found y img)
