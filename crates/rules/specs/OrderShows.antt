-- Orders that show: for each clause of Sees and Changes (specs/Independent) a session of a few steps, and two steps that meet by this clause
-- alone. The second of them gets one reply if it comes first, and another if it comes after the first one.
--
-- Every session is begun with 3 takes, 2 parcels and 1 signing. The comments give its steps, then the two, in docs/NOTATION.md's words.
use Rattle.std.specs.Prelude.{ℕ, ◌≡◌, [], ◌∷◌}
use Rattle.rules.specs.declared.Step.{Step}
use Rattle.rules.specs.declared.Reply.{Reply}
use Rattle.rules.specs.State.{State, fresh}
use Rattle.rules.specs.Rules.{answer, step_of}
use Rattle.rules.specs.Examples.{three, limits, made, after}

-- The two orders show: q is answered with one reply in the state s, and with another after p.
pub record Shows (s : State) (p q : Step) (first second : Reply) : Type 0 where
  pub alone : (step_of three s q).reply ≡ first
  pub behind : (step_of three (step_of three s p).state q).reply ≡ second

-- ---- the steps by their words: take and other by number, text 0 if none is given

abbrev pub root : ℕ → Step
root v = record { kind = 0; transactor = 0; other = 0; zero = 0; message = 0; value = v }

abbrev pub letter : ℕ → ℕ → Step
letter t v = record { kind = 1; transactor = t; other = 0; zero = 0; message = 0; value = v }

abbrev pub receive : ℕ → Step
receive n = made 2 0 0 n

abbrev pub send : ℕ → ℕ → Step
send t u = made 4 t u 0

abbrev pub write : ℕ → Step
write t = made 6 t 0 0

abbrev pub freeze : ℕ → Step
freeze t = made 7 t 0 0

abbrev pub done : ℕ → Step
done t = made 8 t 0 0

abbrev pub fail : ℕ → Step
fail t = made 10 t 0 0

abbrev pub lose : ℕ → Step
lose n = made 11 0 0 n

-- the volume as a number: {0} is 1, {1} is 2
abbrev pub sign : ℕ → Step
sign v = made 12 0 0 v

-- ---- the sessions

abbrev pub begun : State
begun = fresh three limits

-- root text 0
abbrev pub one : State
one = after begun (root 0 ∷ [])

-- root text 0; letter to 0 text 0
abbrev pub told : State
told = after one (letter 0 0 ∷ [])

-- root text 0; letter to 0 text 0; letter to 0 text 0: both places are taken
abbrev pub crowded : State
crowded = after told (letter 0 0 ∷ [])

-- root text 0; letter to 0 text 0; receive 0: take 0 is at work
abbrev pub working : State
working = after told (receive 0 ∷ [])

-- root text 0; letter to 0 text 0; receive 0; freeze 0
abbrev pub frozen : State
frozen = after working (freeze 0 ∷ [])

-- root text 0; letter to 0 text 0; receive 0; letter to 0 text 0: parcel 1 waits for take 0, which is at work
abbrev pub again : State
again = after working (letter 0 0 ∷ [])

-- root text 0; root text 0; letter to 0 text 0; receive 0; send 0 to 1 text 0; receive 1; write 1 text 0; freeze 1; freeze 0:
-- take 1 rests on the present life of take 0
abbrev pub resting : State
resting = after begun (root 0 ∷ root 0 ∷ letter 0 0 ∷ receive 0 ∷ send 0 1 ∷ receive 1 ∷ write 1 ∷ freeze 1 ∷ freeze 0 ∷ [])

-- ---- a field for each clause, with its name; of the two steps the first one changes, the second one sees

pub record Orders : Type 0 where
  -- done 0 changes take 0 (Changes.acting), and send 0 to 0 text 0 sees it (Sees.acting): done, and then refused with 23
  pub acting : Shows working (done 0) (send 0 0) (answer 0 0 1 0) (answer 23 0 0 0)
  -- root text 1 and root text 2 (opening, both): who comes second opens take 1, not take 0
  pub opening : Shows begun (root 1) (root 2) (answer 0 0 0 0) (answer 0 1 0 0)
  -- root text 0 opens take 0 (Changes.opening), which fail 0 sees (Sees.acting): refused with 21, and then vanished
  pub opening-seen : Shows begun (root 0) (fail 0) (answer 21 0 0 0) (answer 4 0 0 0)
  -- root text 0 makes that take 0 is there (Changes.opened), and letter to 0 text 0 asks (Sees.letter-to): refused with 21, and then done
  pub letter-to : Shows begun (root 0) (letter 0 0) (answer 21 0 0 0) (answer 0 0 0 0)
  -- root text 0 opens take 1 (Changes.opened), and send 0 to 1 text 0 asks for it (Sees.send-to): refused with 21, and then done
  pub send-to : Shows working (root 0) (send 0 1) (answer 21 0 0 0) (answer 0 0 1 0)
  -- letter to 0 text 1 and letter to 0 text 2 (making, both): who comes second makes parcel 1, not parcel 0
  pub making : Shows one (letter 0 1) (letter 0 2) (answer 0 0 0 0) (answer 0 0 1 0)
  -- letter to 0 text 0 makes parcel 0 (Changes.making), and lose 0 takes it away (Sees.taking): refused with 24, and then done
  pub making-seen : Shows one (letter 0 0) (lose 0) (answer 24 0 0 0) (answer 0 0 0 0)
  -- lose 0 frees a place where all were taken (Changes.freeing), and letter to 0 text 0 wants one (Sees.placing): refused with 26, and then
  -- done
  pub placing : Shows crowded (lose 0) (letter 0 0) (answer 26 0 0 0) (answer 0 0 2 0)
  -- receive 0 and lose 0 (taking, both): lost, and then refused with 24
  pub taking : Shows told (receive 0) (lose 0) (answer 0 0 0 0) (answer 24 0 0 0)
  -- receive 0 and receive 1, two receipts by take 0 (receiving, both): received, and then refused with 23
  pub receiving : Shows crowded (receive 0) (receive 1) (answer 0 0 1 0) (answer 23 0 0 0)
  -- done 0 changes take 0 (Changes.acting), the addressee of parcel 1 (Sees.receiving): receive 1 is refused with 23, and then received
  pub receiving-seen : Shows again (done 0) (receive 1) (answer 23 0 0 0) (answer 0 0 1 0)
  -- receive 0 changes the addressee, take 0 (Changes.receiving), which send 0 to 0 text 0 sees (Sees.acting): refused with 23, and then done
  pub receiving-changed : Shows told (receive 0) (send 0 0) (answer 23 0 0 0) (answer 0 0 1 0)
  -- freeze 0 changes take 0 (Changes.acting), which sign {0} names (Sees.naming): not ready, and then signed
  pub naming : Shows working (freeze 0) (sign 1) (answer 5 0 0 0) (answer 0 0 0 0)
  -- sign {0} changes take 0, which it names (Changes.naming), and send 0 to 0 text 0 sees it (Sees.acting): done, and then refused with 23
  pub naming-changed : Shows frozen (sign 1) (send 0 0) (answer 0 0 1 0) (answer 23 0 0 0)
  -- sign {0} makes a life of take 0 signed (Changes.signing), and sign {1} names take 1, which has a mark of it (Sees.resting): not ready, and
  -- then signed
  pub resting : Shows resting (sign 1) (sign 2) (answer 5 0 0 0) (answer 0 0 0 0)
