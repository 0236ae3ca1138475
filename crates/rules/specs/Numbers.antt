-- The numbers that document 01 gives to kinds, statuses, outcomes and refusals, and what a call says of a refusal: 0 where it answers.
use Rattle.std.specs.Prelude.{ℕ, ◌<◌, ◌≡◌, Option, Some, None, Result, Ok, Err, MatchResult}
use Rattle.std.proofs.Math.Option as maybe
pub use Rattle.rules.specs.declared.kinds.Kind.{Kind}
use Rattle.rules.specs.declared.kinds.Kind.TheVariants.{Root, Letter, Receive, New, Send, Read, Write, Freeze, Finish, Fall, Fail, Lose, Sign}
pub use Rattle.rules.specs.declared.kinds.UnknownKind.{UnknownKind}
pub use Rattle.rules.specs.declared.statuses.Status.{Status}
use Rattle.rules.specs.declared.statuses.Status.TheVariants.{Unused, Idle, Busy, Annihilated}
pub use Rattle.rules.specs.declared.outcomes.Outcome.{Outcome}
use Rattle.rules.specs.declared.outcomes.Outcome.TheVariants.{Done, Held, Dropped, FallenBack, Vanished, NotReady}
pub use Rattle.rules.specs.declared.refusals.Refusal.{Refusal}
use Rattle.rules.specs.declared.refusals.Refusal.TheVariants.{WrongLength, WrongPart, WrongRoom, IllFormed, Malformed, Unopened, Gone, WrongStatus, NotWaiting, AllOpened, AllWaiting, AllNumbered, LastIncarnation, EmptyGroup, AllCheckpointed, Unrelated, TooWide, OutOfRange, WrongSize, WrongWidth}

-- "root 0, letter 1, receive 2, new 3, send 4, read 5, write 6, freeze 7, done 8, fall 9, fail 10, lose 11, sign 12"
abbrev pub kind_number : Kind → ℕ
kind_number Root = 0
kind_number Letter = 1
kind_number Receive = 2
kind_number New = 3
kind_number Send = 4
kind_number Read = 5
kind_number Write = 6
kind_number Freeze = 7
kind_number Finish = 8
kind_number Fall = 9
kind_number Fail = 10
kind_number Lose = 11
kind_number Sign = 12

-- the result is the kind with this number, or the number, which no kind has
abbrev pub IsKind : ℕ → Result Kind UnknownKind → Type 0
IsKind n r = MatchResult r (λ k. kind_number k ≡ n) (λ e. (e.0 ≡ n) × (12 < n))

-- a take is not opened, idle, at work or vanished
abbrev pub status_number : Status → ℕ
status_number Unused = 0
status_number Idle = 1
status_number Busy = 2
status_number Annihilated = 3

-- done, held, dropped, fallen back, vanished, not ready
abbrev pub outcome_number : Outcome → ℕ
outcome_number Done = 0
outcome_number Held = 1
outcome_number Dropped = 2
outcome_number FallenBack = 3
outcome_number Vanished = 4
outcome_number NotReady = 5

-- the table of document 01, and what document 02 adds to it
abbrev pub refusal_number : Refusal → ℕ
refusal_number WrongLength = 16
refusal_number WrongPart = 17
refusal_number WrongRoom = 18
refusal_number IllFormed = 19
refusal_number Malformed = 20
refusal_number Unopened = 21
refusal_number Gone = 22
refusal_number WrongStatus = 23
refusal_number NotWaiting = 24
refusal_number AllOpened = 25
refusal_number AllWaiting = 26
refusal_number AllNumbered = 27
refusal_number LastIncarnation = 28
refusal_number EmptyGroup = 29
refusal_number AllCheckpointed = 30
refusal_number Unrelated = 31
refusal_number TooWide = 32
refusal_number OutOfRange = 33
refusal_number WrongSize = 34
refusal_number WrongWidth = 35

-- what a call, or a test before it, says of a refusal: its number, or 0
abbrev pub refusal_in : {A : Type 0} → Result A Refusal → ℕ
refusal_in (Ok a) = 0
refusal_in (Err r) = refusal_number r

-- what a call that gives something, or nothing, says of it: what it gives; none where there is nothing, or where the call is refused
abbrev pub answer_in : {A : Type 0} → Result (Option A) Refusal → maybe.Option A
answer_in (Ok (Some a)) = maybe.some a
answer_in (Ok None) = maybe.none
answer_in (Err r) = maybe.none
