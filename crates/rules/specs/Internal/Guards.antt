-- Refusals that several kinds of step share, one after the other as the code finds them. Over plain numbers, one definition for ledger and
-- engine, which both ask for them by the functions of crate lists; then the same of a state.
use Rattle.std.specs.Prelude.{ℕ, ◌<◌, Bool, true, not, ◌≡◌, List, length, eqb, ltb, leb}
use Rattle.octets.specs.Bytes.{pick, ◌and◌}
use Rattle.rules.specs.Layout.{Layout, largest, last_number}
use Rattle.rules.specs.Status.{idle, busy, annihilated}
use Rattle.rules.specs.State.{Transactor, State, own_history, transactor_at}
use Rattle.rules.specs.Step.{fall}
use Rattle.rules.specs.Refusals.{named, any_named}
use Rattle.rules.specs.Form.{well_formed}
use Rattle.rules.specs.Calls.{wrong_length}

-- ---- over numbers

-- the first of two refusals that is one
abbrev pub first : ℕ → ℕ → ℕ
first a b = pick (eqb a 0) b a

-- of take t, which must be opened, 21, not vanished, 22, and at work, 23; n: takes opened
unfoldable pub busy_refusal : ℕ → ℕ → ℕ → ℕ
busy_refusal n t status =
    pick (leb n t) 21
    (pick (eqb status annihilated) 22
    (pick (not (eqb status busy)) 23 0))

-- of one parcel more: as many wait as may, 26, or no number is left, 27
unfoldable pub room_refusal : ℕ → ℕ → ℕ → ℕ
room_refusal most waiting next = pick (leb most waiting) 26 (pick (eqb next last_number) 27 0)

-- of the receiver of a waiting parcel, which must not be vanished, 22, and idle, 23
unfoldable pub receiver_refusal : ℕ → ℕ
receiver_refusal status = pick (eqb status annihilated) 22 (pick (not (eqb status idle)) 23 0)

-- of a take that acts by kind k of 5 to 10, which must not be vanished, 22, and up to fall at work, 23
unfoldable pub local_refusal : ℕ → ℕ → ℕ
local_refusal k status = pick (eqb status annihilated) 22 (pick (leb k fall and not (eqb status busy)) 23 0)

-- of a volume: empty, 29, or it names a take that is not opened, 21; n: takes opened
unfoldable pub names_refusal : ℕ → ℕ → ℕ
names_refusal n g = pick (eqb g 0) 29 (pick (any_named g (leb n)) 21 0)

-- of a take that it names: vanished, 22, or no signing left, 30; most: the session's signings
unfoldable pub member_refusal : ℕ → ℕ → ℕ → ℕ
member_refusal most status count = pick (eqb status annihilated) 22 (pick (leb most count) 30 0)

-- of all that it names, by their statuses and counts of signings: 22, or else 30
unfoldable pub named_refusal : ℕ → (ℕ → ℕ) → (ℕ → ℕ) → ℕ → ℕ
named_refusal most status count g =
    pick (any_named g (λ t. eqb (status t) annihilated)) 22
    (pick (any_named g (λ t. leb most (count t))) 30 0)

-- of a signing: 29, 21, 22, 30
unfoldable pub group_refusal : ℕ → ℕ → (ℕ → ℕ) → (ℕ → ℕ) → ℕ → ℕ
group_refusal n most status count g =
    pick (eqb g 0) 29
    (pick (any_named g (leb n)) 21
    (named_refusal most status count g))

-- ---- of a state

-- a signed take at the largest life number
unfoldable pub is_last_incarnation : Layout → ℕ → Transactor → Bool
is_last_incarnation y t x = ltb 0 (own_history t x).count and leb (largest y) (own_history t x).incarnation

-- a take with as many signings as the session allows
unfoldable pub is_full : State → ℕ → Bool
is_full s t = leb s.limits.checkpoints (own_history t (transactor_at s t)).count

-- the refusals of a take that is asked about, 21 and 22
unfoldable pub acting_refusal : State → ℕ → ℕ
acting_refusal s t = pick (leb s.opened t) 21 (pick (eqb (transactor_at s t).status annihilated) 22 0)

abbrev pub busy_in : State → ℕ → ℕ
busy_in s t = busy_refusal s.opened t (transactor_at s t).status

abbrev pub room_in : State → ℕ
room_in s = room_refusal s.limits.messages (length s.messages) s.next

abbrev pub named_in : State → ℕ → ℕ
named_in s = named_refusal s.limits.checkpoints (λ t. (transactor_at s t).status) (λ t. (own_history t (transactor_at s t)).count)

abbrev pub group_in : State → ℕ → ℕ
group_in s = group_refusal s.opened s.limits.checkpoints (λ t. (transactor_at s t).status) (λ t. (own_history t (transactor_at s t)).count)

-- every named take has room for one more signing
unfoldable pub Room : State → ℕ → Type 0
Room s g = (t : ℕ) → named g t ≡ true → (own_history t (transactor_at s t)).count < s.limits.checkpoints

-- ---- of an image

-- 16; 19
unfoldable pub image_refusal : Layout → List ℕ → ℕ
image_refusal y img = pick (wrong_length y img) 16 (pick (not (well_formed y img)) 19 0)
