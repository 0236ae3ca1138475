-- A reply in words, by the kind of the step that it answers. No LF behind it.
use Rattle.std.specs.Prelude.{ℕ, ◌*◌, Bool, List, [], ◌∷◌, ◌++◌, eqb, ltb, leb, get_or}
use Rattle.octets.specs.Bytes.{pick, ◌and◌, ◌or◌, part}
use Rattle.rules.specs.declared.Reply.{Reply}
use Rattle.rules.specs.Step.{step_bytes, step_at, unpack_reply, is_refusal, letter, receive, send, read, fail, lose, done, not_ready}
use Rattle.rules.specs.Calls.{steps_in}
use Rattle.notation.specs.Notation.{bytes, decimal, places, hex}
use Rattle.refusal_words.specs.Words.{refusal_words}

-- ---- which fields the reply to a step of kind k has

-- the take acted on or opened, or the addressee: all but lose and sign
unfoldable pub replies_transactor : ℕ → Bool
replies_transactor k = leb k fail

-- the parcel made, received or lost
unfoldable pub replies_message : ℕ → Bool
replies_message k = eqb k letter or eqb k receive or eqb k send or eqb k lose

-- the text read or received, which goes with outcome 0 alone
unfoldable pub replies_value : ℕ → ℕ → Bool
replies_value k outcome = eqb outcome done and (eqb k receive or eqb k read)

-- ---- outcomes, 0 to 5

abbrev pub outcomes : List (List ℕ)
outcomes = bytes "done" ∷ bytes "held" ∷ bytes "dropped" ∷ bytes "fallen back" ∷ bytes "vanished" ∷ bytes "not ready" ∷ []

unfoldable pub outcome_of : ℕ → List ℕ
outcome_of n = get_or outcomes n []

-- a word and a number, if the reply has that field
unfoldable pub field_text : Bool → List ℕ → ℕ → List ℕ
field_text used word n = pick used (word ++ decimal places n) []

unfoldable pub fields_text : ℕ → Reply → List ℕ
fields_text k r =
    field_text (replies_transactor k) (bytes " take ") r.transactor
    ++ field_text (replies_message k) (bytes " parcel ") r.message
    ++ field_text (replies_value k r.outcome) (bytes " text ") r.value

-- an outcome, and zero in every field that the reply does not have
unfoldable pub is_outcome : ℕ → Reply → Bool
is_outcome k r =
    leb r.outcome not_ready
    and (replies_transactor k or eqb r.transactor 0)
    and (replies_message k or eqb r.message 0)
    and (replies_value k r.outcome or eqb r.value 0)

-- ---- refusals, 20 to 31

-- 23 has two reasons, "receive when not idle; kinds 3 to 9 when not at work": the one that holds
unfoldable pub sentence_of : ℕ → ℕ → List ℕ
sentence_of k n = pick (eqb n 23) (pick (eqb k receive) (bytes "receiving take not idle") (bytes "acting take not at work")) (refusal_words n)

unfoldable pub refusal_text : ℕ → ℕ → List ℕ
refusal_text k n = bytes "refused " ++ decimal places n ++ bytes ": " ++ sentence_of k n

-- a refusal of a step, and zero in all fields
unfoldable pub is_refused : Reply → Bool
is_refused r = is_refusal r.outcome and leb r.outcome 31 and eqb r.transactor 0 and eqb r.message 0 and eqb r.value 0

-- ---- a reply: other bytes than these are shown as they are

unfoldable pub reply_text : ℕ → List ℕ → List ℕ
reply_text k b =
    pick (is_outcome k (unpack_reply b)) (outcome_of (unpack_reply b).outcome ++ fields_text k (unpack_reply b))
    (pick (is_refused (unpack_reply b)) (refusal_text k (unpack_reply b).outcome)
    (bytes "raw " ++ hex b))

-- the reply to step i of a list; nothing past the last step or reply
unfoldable pub reply_text_at : List ℕ → List ℕ → ℕ → List ℕ
reply_text_at list replies i =
    pick (ltb i (steps_in list) and ltb i (steps_in replies)) (reply_text (step_at list i).kind (part (step_bytes * i) step_bytes replies)) []
