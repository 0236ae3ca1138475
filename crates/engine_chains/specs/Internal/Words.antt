-- The walk back in words of 16 bits, as the code has it: take t counts 2^t.
use Rattle.std.specs.Prelude.{ℕ, zero, suc, ◌^◌, Bool, not, List, [], ◌∷◌, eqb, leb, get_or, set}
use Rattle.std.specs.Int.Bits.{bit_and, bit_or, bit_xor}
use Rattle.octets.specs.Bytes.{pick, ◌and◌, ◌or◌}
use Rattle.rules.specs.declared.Step.{Step}
use Rattle.rules.specs.Step.{step_at, done, held, dropped, fallen_back, vanished, not_ready, root, letter, receive, new, send, read, write, freeze, finish, fall, lose, sign, is_refusal}
use Rattle.rules.specs.Refusals.{named}
use Rattle.engine_chains.specs.Chain.{Places}
use Rattle.rules.specs.declared.Told.{Told}
use Rattle.engine_chains.specs.declared.words.Event.{Event}
use Rattle.engine_chains.specs.declared.words.Event.TheVariants.{Nothing, Cleared, Sent, Taken, Opens, Reads, Writes, Finishes, Renewed, Annihilated, ClearedRenewed, ClearedAnnihilated}
use Rattle.engine_chains.specs.declared.words.Side.{Side}
use Rattle.engine_chains.specs.declared.words.Passed.{Passed}
use Rattle.engine_chains.specs.declared.words.Trail.{Trail}
use Rattle.engine_chains.specs.declared.words.Walker.{Walker}

-- the word of take t, or of none
unfoldable pub bit_of : ℕ → ℕ
bit_of t = pick (leb 16 t) 0 (2 ^ t)

-- those of a but not of b
abbrev pub without : ℕ → ℕ → ℕ
without a b = bit_xor a (bit_and a b)

-- one of them is in both
abbrev pub meet : ℕ → ℕ → Bool
meet a b = not (eqb (bit_and a b) 0)

-- the word w, or nobody's
abbrev pub word_if : Bool → ℕ → ℕ
word_if c w = pick c w 0

-- ---- what a step that was not refused did, as in specs/Back.antt

-- t: the word of the take that fell back or vanished
unfoldable pub rollback_words : ℕ → ℕ → Event
rollback_words outcome t = pick (eqb outcome vanished) (Annihilated t) (Renewed t)

unfoldable pub receipt_words : Told → Event
receipt_words w =
    pick (eqb w.outcome dropped) (Cleared w.message)
    (pick (eqb w.outcome done) (Taken w.message (bit_of w.transactor))
    (pick (eqb w.outcome vanished) (ClearedAnnihilated w.message (bit_of w.transactor))
    (ClearedRenewed w.message (bit_of w.transactor))))

-- kind k of 5 to 10 on the take whose word is t
unfoldable pub local_words : ℕ → ℕ → ℕ → Event
local_words k outcome t =
    pick (eqb k read) (Reads t)
    (pick (eqb k write) (pick (eqb outcome held) Nothing (Writes t))
    (pick (eqb k freeze) Nothing
    (pick (eqb k finish) (Finishes t)
    (pick (eqb k fall) (pick (eqb outcome held) (Finishes t) (rollback_words outcome t))
    (pick (eqb outcome held) Nothing (rollback_words outcome t))))))

unfoldable pub event_words : Step → Told → Event
event_words p w =
    let t : ℕ = bit_of p.transactor in
    pick (eqb p.kind root) (Renewed (bit_of w.transactor))
    (pick (eqb p.kind letter) (Cleared w.message)
    (pick (eqb p.kind receive) (receipt_words w)
    (pick (eqb p.kind new) (Opens t (bit_of w.transactor))
    (pick (eqb p.kind send) (Sent w.message t)
    (pick (eqb p.kind lose) (Cleared w.message)
    (pick (eqb p.kind sign) (pick (eqb w.outcome done) (Renewed p.message) Nothing)
    (local_words p.kind w.outcome t)))))))

-- the takes that fell back; those that were signed
-- a step that was refused, and a signing that was not ready
unfoldable pub changes_nothing : Step → Told → Bool
changes_nothing p w = is_refusal w.outcome or eqb w.outcome not_ready and eqb p.kind sign

unfoldable pub rolled_back_word : Told → ℕ
rolled_back_word w = pick (eqb w.outcome fallen_back) (bit_of w.transactor) 0

unfoldable pub checkpointed_word : Step → Told → ℕ
checkpointed_word p w = pick (eqb p.kind sign and eqb w.outcome done) p.message 0

-- ---- one side: the places followed, and the takes met

abbrev pub side_reads : Side → ℕ → Side
side_reads s t = record { state = bit_or s.state (bit_and s.behaviour t); creation = s.creation; behaviour = s.behaviour }

abbrev pub side_writes : Side → ℕ → Side
side_writes s t = record { state = s.state; creation = s.creation; behaviour = bit_or s.behaviour (bit_and s.state t) }

abbrev pub side_finishes : Side → ℕ → Side
side_finishes s t = record { state = s.state; creation = s.creation; behaviour = without s.behaviour t }

abbrev pub side_without : Side → ℕ → Side
side_without s v = record { state = without s.state v; creation = without s.creation v; behaviour = without s.behaviour v }

-- the takes w carried what is followed
abbrev pub side_carries : Side → ℕ → Side
side_carries s w = record { state = s.state; creation = bit_or s.creation w; behaviour = bit_or s.behaviour w }

-- t opened c
abbrev pub opening_carries : Side → ℕ → ℕ → ℕ
opening_carries s t c = word_if (meet s.creation c) t

unfoldable pub side_opens : Side → ℕ → ℕ → Side
side_opens s t c = side_carries (side_without s c) (opening_carries s t c)

unfoldable pub opening_meets : Side → ℕ → ℕ → ℕ
opening_meets s t c = bit_or (opening_carries s t c) (bit_or (word_if (meet (without s.behaviour c) t) c) (bit_and s.state c))

-- going back over an event; m: the parcels followed
unfoldable pub side_over : Event → Side → (ℕ → Bool) → Side
side_over Nothing s m = s
side_over (Cleared n) s m = s
side_over (Sent n t) s m = side_carries s (word_if (m n) t)
side_over (Taken n t) s m = side_finishes s t
side_over (Opens t c) s m = side_opens s t c
side_over (Reads t) s m = side_reads s t
side_over (Writes t) s m = side_writes s t
side_over (Finishes t) s m = side_finishes s t
side_over (Renewed v) s m = side_without s v
side_over (Annihilated t) s m = side_without s t
side_over (ClearedRenewed n v) s m = side_without s v
side_over (ClearedAnnihilated n t) s m = side_without s t

unfoldable pub met_over : Event → Side → (ℕ → Bool) → ℕ
met_over Nothing s m = 0
met_over (Cleared n) s m = 0
met_over (Sent n t) s m = word_if (m n) t
met_over (Taken n t) s m = 0
met_over (Opens t c) s m = opening_meets s t c
met_over (Reads t) s m = 0
met_over (Writes t) s m = 0
met_over (Finishes t) s m = 0
met_over (Renewed v) s m = bit_and s.state v
met_over (Annihilated t) s m = 0
met_over (ClearedRenewed n v) s m = bit_and s.state v
met_over (ClearedAnnihilated n t) s m = 0

-- ---- both sides: a the left one, b the right one

-- The parcels followed are a list of numbers: 1 counts the left side, 2 the right one.
abbrev pub on_left : ℕ → Bool
on_left v = meet v 1

abbrev pub on_right : ℕ → Bool
on_right v = meet v 2

abbrev pub sides_if : Bool → Bool → ℕ
sides_if left right = bit_or (word_if left 1) (word_if right 2)

-- parcel n, on one of the sides
abbrev pub followed_on : (ℕ → Bool) → List ℕ → ℕ → Bool
followed_on side l n = side (get_or l n 0)

-- l, r: the takes met on the left and on the right
abbrev pub passed : Side → Side → ℕ → ℕ → Passed
passed a b l r = record { left = a; right = b; met_left = l; met_right = r }

unfoldable pub passed_over : Event → Side → Side → List ℕ → Passed
passed_over e a b l = passed (side_over e a (followed_on on_left l)) (side_over e b (followed_on on_right l)) (met_over e a (followed_on on_left l)) (met_over e b (followed_on on_right l))

unfoldable pub messages_over : Event → Side → Side → List ℕ → List ℕ
messages_over Nothing a b l = l
messages_over (Cleared n) a b l = set l n 0
messages_over (Sent n t) a b l = set l n 0
messages_over (Taken n t) a b l = set l n (sides_if (meet a.behaviour t) (meet b.behaviour t))
messages_over (Opens t c) a b l = l
messages_over (Reads t) a b l = l
messages_over (Writes t) a b l = l
messages_over (Finishes t) a b l = l
messages_over (Renewed v) a b l = l
messages_over (Annihilated t) a b l = l
messages_over (ClearedRenewed n v) a b l = set l n 0
messages_over (ClearedAnnihilated n t) a b l = set l n 0

-- ---- the walk, as in Walk.antt

-- c: the takes that fell or were signed
abbrev pub trail_over : Trail → Side → ℕ → ℕ → Trail
trail_over x s met c = record { places = s; found = bit_or x.found met; past = bit_or x.past (bit_and (bit_or x.found met) c) }

-- a walk with the parcels that it follows
pub record Follower : Type 0 where
  pub walker : Walker
  pub messages : List ℕ

abbrev pub following : Walker → List ℕ → Follower
following x l = record { walker = x; messages = l }

-- x: before the step; q: both sides after it; F, S: the takes that fell, and that were signed
unfoldable pub walker_with : Walker → Passed → ℕ → ℕ → Walker
walker_with x q F S = record {
  left = trail_over x.left q.left q.met_left (bit_or F S);
  right = trail_over x.right q.right q.met_right (bit_or F S);
  ended = bit_or F (without x.ended S);
  allowed = x.allowed;
  left_superseded = bit_or x.left_superseded (bit_and q.met_left (bit_and x.right.past x.ended));
  right_superseded = bit_or x.right_superseded (bit_and q.met_right (bit_and x.left.past x.ended));
  unallowed = bit_or x.unallowed (without (without q.met_right x.left.past) x.allowed);
}

-- over the event e
unfoldable pub follower_over : Event → ℕ → ℕ → Follower → Follower
follower_over e F S x =
    let a : Side = x.walker.left.places in
    let b : Side = x.walker.right.places in
    record { walker = walker_with x.walker (passed_over e a b x.messages) F S; messages = messages_over e a b x.messages }

unfoldable pub follower_step : Step → Told → Follower → Follower
follower_step p w x = pick (is_refusal w.outcome) x (follower_over (event_words p w) (rolled_back_word w) (checkpointed_word p w) x)

-- over the first i steps, the last one first
unfoldable pub follow_back : List ℕ → (ℕ → Told) → ℕ → Follower → Follower
follow_back steps replies zero x = x
follow_back steps replies (suc i) x = follow_back steps replies i (follower_step (step_at steps i) (replies i) x)

-- At the start of a walk state and creation of the takes ground are followed; of the takes found a life was met.
abbrev pub trail_from : ℕ → ℕ → Trail
trail_from support found = record { places = record { state = support; creation = support; behaviour = 0 }; found = found; past = 0 }

unfoldable pub walker_from : ℕ → ℕ → ℕ → Walker
walker_from support found allowed = record {
  left = trail_from 0 found;
  right = trail_from support 0;
  ended = 0;
  allowed = allowed;
  left_superseded = 0;
  right_superseded = 0;
  unallowed = 0;
}

-- the words of a walker, in the order in which the code lends them; and the walker that a list of words is
unfoldable pub words_of : Walker → List ℕ
words_of x =
    x.left.places.state ∷ x.left.places.creation ∷ x.left.places.behaviour ∷ x.left.found ∷ x.left.past
    ∷ x.right.places.state ∷ x.right.places.creation ∷ x.right.places.behaviour ∷ x.right.found ∷ x.right.past
    ∷ x.ended ∷ x.allowed ∷ x.left_superseded ∷ x.right_superseded ∷ x.unallowed ∷ []

unfoldable pub walker_in : List ℕ → Walker
walker_in w = record {
  left = record { places = record { state = get_or w 0 0; creation = get_or w 1 0; behaviour = get_or w 2 0 }; found = get_or w 3 0; past = get_or w 4 0 };
  right = record { places = record { state = get_or w 5 0; creation = get_or w 6 0; behaviour = get_or w 7 0 }; found = get_or w 8 0; past = get_or w 9 0 };
  ended = get_or w 10 0;
  allowed = get_or w 11 0;
  left_superseded = get_or w 12 0;
  right_superseded = get_or w 13 0;
  unallowed = get_or w 14 0;
}

-- ---- what they say

abbrev pub places_in : Side → (ℕ → Bool) → Places
places_in s m = record { state = named s.state; creation = named s.creation; behaviour = named s.behaviour; message = m }
