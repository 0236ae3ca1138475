-- Small sessions that theorems run step by step, through the book (proofs/Tries) and through the ledger (proofs/Heard).
use Rattle.std.specs.Prelude.{ℕ, ◌+◌, ◌*◌, ◌^◌, Bool, false, List, [], ◌∷◌, ◌++◌}
use Rattle.octets.specs.Numbers.{be}
use Rattle.marks.specs.Incarnation.{Incarnation, initial_incarnation}
use Rattle.rules.specs.Layout.{Limits}
use Rattle.rules.specs.declared.Step.{Step}
use Rattle.rules.specs.Step.{read, freeze, finish, fail}
use Rattle.session.specs.Provenance.{Incarnations, one, Status, idle, Holder, Provenance, empty_provenance}
use Rattle.session.specs.Steps.{signs}
use Rattle.session.specs.Play.{a_root, a_letter, a_receive, a_new, a_send, a_write, a_step, a_sign, wide_provenance, played}

-- ---- document 01's session

-- root 7; root 8; letter to 0 text 5; receive 0; write take 0 text 9; send 0 to 1 text 9; receive 1; write take 1 text 10; freeze 1
abbrev pub first_nine : List Step
first_nine = a_root 7 ∷ a_root 8 ∷ a_letter 0 5 ∷ a_receive 0 ∷ a_write 0 9 ∷ a_send 0 1 9 ∷ a_receive 1 ∷ a_write 1 10 ∷ a_step freeze 1 ∷ []

-- sign 2; freeze 0
abbrev pub first_eleven : List Step
first_eleven = first_nine ++ (a_sign 2 ∷ a_step freeze 0 ∷ [])

-- sign 3; fail 0
abbrev pub thirteen : List Step
thirteen = first_eleven ++ (a_sign 3 ∷ a_step fail 0 ∷ [])

-- carried on after step 12: root 3; letter to 1; receive 2; send 1 to 2; receive 3; write take 2; freeze 2; freeze 1
abbrev pub carried_on : List Step
carried_on = a_root 3 ∷ a_letter 1 4 ∷ a_receive 2 ∷ a_send 1 2 5 ∷ a_receive 3 ∷ a_write 2 6 ∷ a_step freeze 2 ∷ a_step freeze 1 ∷ []

-- ---- sessions in which take 0 is signed at its opening life

-- parcel 1 carries the opening life of take 0
abbrev pub up_to_signing : List Step
up_to_signing = a_root 1 ∷ a_root 2 ∷ a_letter 0 3 ∷ a_receive 0 ∷ a_send 0 1 4 ∷ a_step freeze 0 ∷ []

-- take 0 falls, and take 1 takes that in by parcel 4; then it receives parcel 1
abbrev pub old_message : List Step
old_message = a_letter 0 5 ∷ a_receive 2 ∷ a_step fail 0 ∷ a_letter 0 6 ∷ a_receive 3 ∷ a_send 0 1 7 ∷ a_receive 4 ∷ a_write 1 8 ∷ a_step finish 1 ∷ a_receive 1 ∷ []

-- take 1 takes in the second life of take 0 and is frozen; take 0 falls and is frozen
abbrev pub then_rolled_back : List Step
then_rolled_back = a_letter 0 5 ∷ a_receive 2 ∷ a_send 0 1 6 ∷ a_receive 3 ∷ a_write 1 7 ∷ a_step freeze 1 ∷ a_step fail 0 ∷ a_letter 0 8 ∷ a_receive 4 ∷ a_step freeze 0 ∷ []

-- the same, but take 1 is idle, and parcel 5 carries the third life of take 0 to it
abbrev pub then_told : List Step
then_told = a_letter 0 5 ∷ a_receive 2 ∷ a_send 0 1 6 ∷ a_receive 3 ∷ a_write 1 7 ∷ a_step freeze 1 ∷ a_step finish 1 ∷ a_step fail 0 ∷ a_letter 0 8 ∷ a_receive 4 ∷ a_send 0 1 9 ∷ []

-- ---- a sender that has not read, and then has

abbrev pub unread_steps : List Step
unread_steps = a_root 1 ∷ a_root 2 ∷ a_root 3 ∷ a_letter 0 4 ∷ a_receive 0 ∷ a_send 0 1 5 ∷ a_receive 1 ∷ a_write 1 6 ∷ a_step finish 1 ∷ a_letter 1 7 ∷ a_receive 2 ∷ a_send 1 2 8 ∷ []

abbrev pub read_steps : List Step
read_steps = a_step read 1 ∷ a_send 1 2 9 ∷ []

-- ---- a take that opens another

-- take 0 opens take 1, which is written after a letter and frozen: its state set holds its own life alone
abbrev pub child_steps : List Step
child_steps = a_root 1 ∷ a_letter 0 2 ∷ a_receive 0 ∷ a_new 0 3 ∷ a_letter 1 4 ∷ a_receive 1 ∷ a_write 1 5 ∷ a_step freeze 1 ∷ []

-- sign 2; freeze 0
abbrev pub opener_steps : List Step
opener_steps = child_steps ++ (a_sign 2 ∷ a_step freeze 0 ∷ [])

-- ---- a small book (document 02, W7)

abbrev pub small_limits : Limits
small_limits = record { transactors = 2; messages = 1; checkpoints = 1 }

-- root 1; root 2; letter to 0
abbrev pub small_steps : List Step
small_steps = a_root 1 ∷ a_root 2 ∷ a_letter 0 3 ∷ []

-- take 0 receives, is frozen and signed; and once more, up to the second signing
abbrev pub receive_and_freeze : ℕ → List Step
receive_and_freeze n = a_receive n ∷ a_step freeze 0 ∷ []

unfoldable pub small_provenance : Provenance
small_provenance = played (empty_provenance small_limits) small_steps

unfoldable pub used_provenance : Provenance
used_provenance = played (signs (played small_provenance (receive_and_freeze 0)) 1) (a_letter 0 4 ∷ receive_and_freeze 1)

-- ---- lives and takes

-- lives: the opening one, that after a signing at it, the next one, that after a signing at this one
abbrev pub incarnation0 : Incarnation
incarnation0 = initial_incarnation

abbrev pub incarnation1 : Incarnation
incarnation1 = record { checkpoints = 0 ∷ []; number = 0 }

abbrev pub incarnation2 : Incarnation
incarnation2 = record { checkpoints = 0 ∷ []; number = 1 }

abbrev pub incarnation3 : Incarnation
incarnation3 = record { checkpoints = 0 ∷ 1 ∷ []; number = 0 }

-- status, frozen or not, life and the three sets
abbrev pub child : Status → Bool → Incarnation → Incarnations → Incarnations → Incarnations → Holder
child s f a state creation behaviour = record { status = s; history = record { stable = f; incarnation = a }; state = state; creation = creation; behaviour = behaviour }

-- one that nobody opened
abbrev pub holder : Status → Bool → Incarnation → Incarnations → Incarnations → Holder
holder s f a state behaviour = child s f a state [] behaviour

-- ---- a take pasted from another book (document 02, W3): no session comes to it

-- a life that (0;0) cannot follow: it was never signed at 0
abbrev pub strange : Incarnation
strange = record { checkpoints = []; number = 2 }

-- every take is idle and has these two sets; parcel 0, to take 0, carries life (0;0) of take 1
abbrev pub pasted_provenance : Incarnations → Incarnations → Provenance
pasted_provenance state creation = record {
  limits = wide_provenance.limits;
  opened = 2;
  next = 1;
  holders = λ t. child idle false incarnation0 state creation [];
  messages = record { number = 0; addressee = 0; incarnations = one 1 incarnation1 } ∷ [];
  noted = λ t a u c. ⊥;
}

-- ---- packed steps for the ledger

-- a packed step: kind, take, other, parcel, text
abbrev pub word : ℕ → ℕ → ℕ → ℕ → ℕ → List ℕ
word k t o n v = be 8 (k * 2 ^ 60 + t * 2 ^ 56 + o * 2 ^ 52 + n * 2 ^ 32 + v)

-- Document 02, W4: take 1 is written from take 0, which then freezes and sends again. Root, root; letter to 0, receive; send 0 to 1, receive, write 1,
-- done 1; freeze 0, send 0 to 1, receive.
abbrev pub news_heard : List ℕ
news_heard =
    word 0 0 0 0 1 ++ word 0 0 0 0 2 ++ word 1 0 0 0 3 ++ word 2 0 0 0 0
    ++ word 4 0 1 0 4 ++ word 2 0 0 1 0 ++ word 6 1 0 0 5 ++ word 8 1 0 0 0
    ++ word 7 0 0 0 0 ++ word 4 0 1 0 6 ++ word 2 0 0 2 0
