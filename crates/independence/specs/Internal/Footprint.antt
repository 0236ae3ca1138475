-- Whether one step sees what another changes (specs/Independent), as the code tests it: takes, the take that is opened, parcels, lists of
-- signings. On a well-formed state the two say the same (proofs/Meeting).
use Rattle.std.specs.Prelude.{ℕ, Bool, false, not, eqb, leb, length, Option, Some, None}
use Rattle.octets.specs.Bytes.{pick, ◌and◌, ◌or◌, any}
use Rattle.marks.specs.Incarnation.{same_list}
use Rattle.marks.specs.History.{incarnation_of}
use Rattle.rules.specs.Layout.{Layout}
use Rattle.rules.specs.State.{State, transactor_at, message_at, own_history, place_of}
use Rattle.rules.specs.declared.Step.{Step}
use Rattle.rules.specs.Step.{letter, receive, send, sign, not_ready}
use Rattle.rules.specs.Refusals.{named, any_named, acts, sends, malformed}
use Rattle.rules.specs.Rules.{group_ready, refusal, step_of}
use Rattle.rules.specs.Independent.{opens, takes_away, has_mark}

-- ---- takes

-- the addressee of the waiting parcel with number n, if one waits
unfoldable pub receiver_of : State → ℕ → Option ℕ
receiver_of s n = pick (leb (length s.messages) (place_of s n)) None (Some (message_at s (place_of s n)).addressee)

-- it is take t
abbrev pub is_take : Option ℕ → ℕ → Bool
is_take None t = false
is_take (Some u) t = eqb u t

-- Step p sees take t as a whole: it is a signing that names t, a receipt by t, it opens t, or t is its acting take. There are o takes opened, and r
-- receives. Every take that p changes is among these.
unfoldable pub touches : (o : ℕ) (r : Option ℕ) → Step → ℕ → Bool
touches o r p t =
    pick (eqb p.kind sign) (named p.message t)
    (pick (eqb p.kind receive) (is_take r t)
    ((opens p.kind and eqb o t) or (acts p.kind and eqb p.transactor t)))

abbrev pub touches_in : State → Step → ℕ → Bool
touches_in s p t = touches s.opened (receiver_of s p.message) p t

-- a step that is not refused leaves the takes that it sees as they were: a send, and a signing that is not ready
unfoldable pub leaves : Layout → State → Step → Bool
leaves y s p = eqb p.kind send or (eqb p.kind sign and not (group_ready y s p.message))

-- The same, told by the outcome of p.
unfoldable pub leaves_by : Step → ℕ → Bool
leaves_by p outcome = eqb p.kind send or (eqb p.kind sign and eqb outcome not_ready)

-- some take is seen by both
unfoldable pub transactors_meet : Layout → State → Step → Step → Bool
transactors_meet y s p q = any y.transactors (λ t. touches_in s p t and touches_in s q t)

-- ---- the take that p opens

-- q, a letter or a send, is addressed to take t
unfoldable pub addresses : Step → ℕ → Bool
addresses q t = (eqb q.kind letter and eqb q.transactor t) or (eqb q.kind send and eqb q.other t)

-- ---- parcels

-- it makes a parcel, receives or loses one
abbrev pub handles : ℕ → Bool
handles k = takes_away k or sends k

-- that parcel's number; next is the next number
unfoldable pub handled : (next : ℕ) → Step → ℕ
handled next p = pick (sends p.kind) next p.message

-- p frees a place where none is free (full), and q wants one; or both handle the same parcel
unfoldable pub parcels_meet : (next : ℕ) (full : Bool) → Step → Step → Bool
parcels_meet next full p q =
    (full and takes_away p.kind and sends q.kind)
    or (handles p.kind and handles q.kind and eqb (handled next p) (handled next q))

-- all places of parcels are taken
abbrev pub is_crowded : State → Bool
is_crowded s = leb s.limits.messages (length s.messages)

-- p opens the take to which q is addressed; or they meet in a parcel or in the room for one
unfoldable pub heads_meet : State → Step → Step → Bool
heads_meet s p q = pick (opens p.kind) (addresses q s.opened) (parcels_meet s.next (is_crowded s) p q)

-- ---- lists of signings

-- take t has not the same list in its own mark in both states
unfoldable pub relisted : State → State → ℕ → Bool
relisted s s' t = not (same_list (incarnation_of (own_history t (transactor_at s t))).checkpoints (incarnation_of (own_history t (transactor_at s' t))).checkpoints)

-- a take that v names has a mark of take u in its state or creation map
unfoldable pub has_marks : State → ℕ → ℕ → Bool
has_marks s v u = any_named v (λ t. has_mark (transactor_at s t) u)

-- q, a signing, looks at the signed lives of a take whose list is another in s', the state after p
unfoldable pub lists_meet : Layout → State → State → Step → Bool
lists_meet y s s' q = eqb q.kind sign and any y.transactors (λ t. relisted s s' t and has_marks s q.message t)

-- ---- all of it

-- q sees what p changes
unfoldable pub meets : Layout → State → Step → Step → Bool
meets y s p q =
    not (malformed q) and eqb (refusal y s p) 0
    and (heads_meet s p q
    or (not (leaves y s p) and transactors_meet y s p q)
    or lists_meet y s (step_of y s p).state q)
