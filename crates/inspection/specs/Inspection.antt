-- An image as text, over the state that it holds. Every take and parcel has its lines at fixed numbers; what is absent has none there.
use Rattle.std.specs.Prelude.{ℕ, ◌+◌, ◌-◌, ◌*◌, ◌/◌, ◌%◌, ◌≡◌, Bool, true, false, not, Option, Some, None, Result, Ok, Err, List, [], ◌∷◌, ◌++◌, eqb, ltb, leb, length, drop, get_or}
use Rattle.octets.specs.Bytes.{pick, ◌or◌, chunks}
use Rattle.marks.specs.declared.History.{History}
use Rattle.maps.specs.declared.DependenceMap.{DependenceMap}
use Rattle.maps.specs.Map.{held_at, history_at}
use Rattle.rules.specs.Layout.{base}
use Rattle.rules.specs.State.{Transactor, Message, State, transactor_at, message_at}
use Rattle.rules.specs.Status.{unused, idle, annihilated}
use Rattle.rules.specs.Pack.{unpack}
use Rattle.rules.specs.Form.{well_formed}
use Rattle.rules.specs.Calls.{wrong_length}
use Rattle.rules.specs.Numbers.{refusal_number}
use Rattle.rules.specs.declared.refusals.Refusal.{Refusal}
use Rattle.lines.specs.declared.Line.{Line}
use Rattle.lines.specs.Lines.{Says}
use Rattle.notation.specs.Notation.{bytes, decimal, places}

-- a word and a number
unfoldable pub piece : List ℕ → ℕ → List ℕ
piece w n = w ++ decimal places n

-- ---- a mark: (0,1; 2) frozen

-- the signings, with a comma before each
unfoldable pub entries_text : History → List ℕ
entries_text h = chunks h.count (λ i. 44 ∷ decimal places (get_or h.checkpoints i 0))

unfoldable pub list_text : History → List ℕ
list_text h = pick (eqb h.count 0) (bytes "empty") (drop 1 (entries_text h))

unfoldable pub incarnation_text : History → List ℕ
incarnation_text h = (40 ∷ []) ++ list_text h ++ piece (bytes "; ") h.incarnation ++ (41 ∷ [])

unfoldable pub history_text : History → List ℕ
history_text h = incarnation_text h ++ pick h.stable (bytes " frozen") []

-- ---- the mark of take u in a map, behind the map's name; nothing where there is none

unfoldable pub entry_text : List ℕ → ℕ → DependenceMap → List ℕ
entry_text name u m = pick (held_at m u) (piece name u ++ (32 ∷ []) ++ history_text (history_at m u) ++ (10 ∷ [])) []

-- ---- a take: its first line, then sixteen lines for each of its maps

-- at work or idle: text and saved text
unfoldable pub values_text : Transactor → List ℕ
values_text x = decimal places x.value ++ piece (bytes ", saved ") x.saved ++ (10 ∷ [])

unfoldable pub status_text : Transactor → List ℕ
status_text x =
    pick (eqb x.status annihilated) (bytes ": vanished\n")
    (pick (eqb x.status idle) (bytes ": idle, text ") (bytes ": at work, text ") ++ values_text x)

-- nothing for a take that is not opened
unfoldable pub transactor_text : ℕ → Transactor → List ℕ
transactor_text t x = pick (eqb x.status unused) [] (piece (bytes "take ") t ++ status_text x)

unfoldable pub map_text : Transactor → ℕ → ℕ → List ℕ
map_text x m u =
    pick (eqb m 0) (entry_text (bytes "  state: take ") u x.state)
    (pick (eqb m 1) (entry_text (bytes "  creation: take ") u x.creation)
    (entry_text (bytes "  behaviour: take ") u x.behaviour))

abbrev pub transactor_lines : ℕ
transactor_lines = 49

unfoldable pub transactor_line : State → ℕ → ℕ → List ℕ
transactor_line s t j = pick (eqb j 0) (transactor_text t (transactor_at s t)) (map_text (transactor_at s t) ((j - 1) / 16) ((j - 1) % 16))

-- ---- a parcel that waits: its first line, then sixteen lines for its map

unfoldable pub message_text : Message → List ℕ
message_text m = piece (bytes "parcel ") m.number ++ piece (bytes " to ") m.addressee ++ piece (bytes ", text ") m.value ++ (10 ∷ [])

abbrev pub message_lines : ℕ
message_lines = 17

unfoldable pub message_line : State → ℕ → ℕ → List ℕ
message_line s k j =
    pick (ltb k (length s.messages))
    (pick (eqb j 0) (message_text (message_at s k)) (entry_text (bytes "  map: take ") (j - 1) (message_at s k).dependences))
    []

-- ---- the session

unfoldable pub limits_text : State → List ℕ
limits_text s =
    piece (bytes "limits: takes ") s.limits.transactors ++ piece (bytes ", parcels ") s.limits.messages
    ++ piece (bytes ", signings ") s.limits.checkpoints ++ (10 ∷ [])

unfoldable pub counters_text : State → List ℕ
counters_text s = piece (bytes "opened ") s.opened ++ piece (bytes ", next parcel ") s.next ++ (10 ∷ [])

-- ---- line n: the limits, the counters, 16 takes, 32 places of parcels

-- the first lines of takes and of parcels, and how many lines there are
abbrev pub first_transactor : ℕ
first_transactor = 2

abbrev pub first_message : ℕ
first_message = first_transactor + transactor_lines * 16

abbrev pub image_lines : ℕ
image_lines = first_message + message_lines * 32

unfoldable pub line_text : State → ℕ → List ℕ
line_text s n =
    pick (eqb n 0) (limits_text s)
    (pick (eqb n 1) (counters_text s)
    (pick (ltb n first_message) (transactor_line s ((n - first_transactor) / transactor_lines) ((n - first_transactor) % transactor_lines))
    (message_line s ((n - first_message) / message_lines) ((n - first_message) % message_lines))))

-- ---- the call

-- 16, 19
unfoldable pub inspect_refusal : List ℕ → ℕ
inspect_refusal img = pick (wrong_length base img) 16 (pick (not (well_formed base img)) 19 0)

-- refused, or past the last line
unfoldable pub ended : List ℕ → ℕ → Bool
ended img n = not (eqb (inspect_refusal img) 0) or leb image_lines n

-- nothing where it has ended
unfoldable pub inspected : List ℕ → ℕ → List ℕ
inspected img n = pick (ended img n) [] (line_text (unpack base img) n)

-- what it answers: why it is refused, nothing where it has ended, or the line
abbrev pub Inspects : List ℕ → ℕ → Result (Option Line) Refusal → Type 0
Inspects img n (Err r) = (refusal_number r ≡ inspect_refusal img) × (ended img n ≡ true)
Inspects img n (Ok None) = (inspect_refusal img ≡ 0) × (ended img n ≡ true)
Inspects img n (Ok (Some l)) = (inspect_refusal img ≡ 0) × (ended img n ≡ false) × Says l (inspected img n)
