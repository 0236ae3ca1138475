-- Document 01, "Where each call is turned back": the table's part for a step, as one function of what it looks at. The
-- ledger and the book of demand 3 both refuse by it, each judged by what it holds itself.
use Rattle.std.specs.Prelude.{ℕ, ◌/◌, ◌%◌, ◌^◌, Bool, not, eqb, ltb, leb}
use Rattle.octets.specs.Bytes.{pick, ◌and◌, ◌or◌, any}
use Rattle.rules.specs.Layout.{Layout, Limits, largest, last_number}
use Rattle.rules.specs.Status.{idle, busy, annihilated}
use Rattle.rules.specs.Step.{Step, root, letter, receive, new, send, write, fall, fail, lose, sign}

-- What the table looks at.
pub record Seen : Type 0 where
  -- the session's limits
  pub limits : Limits
  -- takes opened, next parcel number, parcels waiting
  pub opened : ℕ
  pub next : ℕ
  pub waiting : ℕ
  -- of a take: status, frozen, signings, life number
  pub status : ℕ → ℕ
  pub stable : ℕ → Bool
  pub checkpoints : ℕ → ℕ
  pub incarnation : ℕ → ℕ
  -- of a parcel number: not waiting, its addressee, and whether its receipt would make the addressee fall
  pub missing : ℕ → Bool
  pub addressee : ℕ → ℕ
  pub rolls : ℕ → Bool
  -- and whether some take has unrelated marks in the parcel and in what the addressee holds in state and creation
  pub unrelated : ℕ → Bool

-- A volume is a set of takes, in the parcel field of 16 bits, take t counting 2^t.
abbrev pub group_bits : ℕ
group_bits = 16

unfoldable pub named : ℕ → ℕ → Bool
named g t = eqb (g / 2 ^ t % 2) 1

unfoldable pub any_named : ℕ → (ℕ → Bool) → Bool
any_named g f = any group_bits (λ t. named g t and f t)

-- ---- fields used, by kind

-- kinds that act on the take of the take field: new to fail
abbrev pub acts : ℕ → Bool
acts k = leb new k and leb k fail

abbrev pub uses_transactor : ℕ → Bool
uses_transactor k = eqb k letter or acts k

abbrev pub uses_message : ℕ → Bool
uses_message k = eqb k receive or eqb k lose or eqb k sign

abbrev pub uses_value : ℕ → Bool
uses_value k = eqb k root or eqb k letter or eqb k new or eqb k send or eqb k write

abbrev pub sends : ℕ → Bool
sends k = eqb k letter or eqb k send

-- ---- conditions

-- 20: kind 13 to 15, or an unused field or the zero bits not zero
unfoldable pub malformed : Step → Bool
malformed p =
    ltb sign p.kind
    or not (uses_transactor p.kind or eqb p.transactor 0)
    or not (eqb p.kind send or eqb p.other 0)
    or not (eqb p.zero 0)
    or not (uses_message p.kind or eqb p.message 0)
    or not (uses_value p.kind or eqb p.value 0)

-- 24: parcel not waiting
unfoldable pub not_waiting : Seen → Step → Bool
not_waiting v p = (eqb p.kind receive or eqb p.kind lose) and v.missing p.message

-- 29: volume empty
unfoldable pub empty_group : Step → Bool
empty_group p = eqb p.kind sign and eqb p.message 0

-- 21: acting take, addressee or named take not opened
unfoldable pub unopened : Seen → Step → Bool
unopened v p =
    (uses_transactor p.kind and leb v.opened p.transactor)
    or (eqb p.kind send and leb v.opened p.other)
    or (eqb p.kind sign and any_named p.message (λ t. leb v.opened t))

-- 22: acting, receiving or named take vanished
unfoldable pub is_gone : Seen → Step → Bool
is_gone v p =
    (acts p.kind and eqb (v.status p.transactor) annihilated)
    or (eqb p.kind receive and eqb (v.status (v.addressee p.message)) annihilated)
    or (eqb p.kind sign and any_named p.message (λ t. eqb (v.status t) annihilated))

-- 23: receive when not idle; kinds 3 to 9 when not at work
unfoldable pub wrong_status : Seen → Step → Bool
wrong_status v p =
    (eqb p.kind receive and not (eqb (v.status (v.addressee p.message)) idle))
    or ((leb new p.kind and leb p.kind fall) and not (eqb (v.status p.transactor) busy))

-- 31 (document 02, W3): "a receipt where some take has unrelated marks in the parcel and in the receiver's joined state and
-- creation maps, after 23 and ahead of the stale test"
unfoldable pub unrelated_receipt : Seen → Step → Bool
unrelated_receipt v p = eqb p.kind receive and v.unrelated p.message

-- 25: all takes opened (root, new)
unfoldable pub all_opened : Seen → Step → Bool
all_opened v p = (eqb p.kind root or eqb p.kind new) and leb v.limits.transactors v.opened

-- 26: all places of parcels waiting (letter, send)
unfoldable pub all_waiting : Seen → Step → Bool
all_waiting v p = sends p.kind and leb v.limits.messages v.waiting

-- 27: next parcel number is 65,535 (letter, send)
unfoldable pub all_numbered : Seen → Step → Bool
all_numbered v p = sends p.kind and eqb v.next last_number

-- 30: a named take has all its signings
unfoldable pub all_checkpointed : Seen → Step → Bool
all_checkpointed v p = eqb p.kind sign and any_named p.message (λ t. leb v.limits.checkpoints (v.checkpoints t))

-- a signed take at the largest life number
unfoldable pub at_last : Layout → Seen → ℕ → Bool
at_last y v t = ltb 0 (v.checkpoints t) and leb (largest y) (v.incarnation t)

-- 28: a signed take would fall from the largest life number
unfoldable pub last_rolls_back : Layout → Seen → Step → Bool
last_rolls_back y v p =
    ((eqb p.kind fall or eqb p.kind fail) and not (v.stable p.transactor) and at_last y v p.transactor)
    or (eqb p.kind receive and v.rolls p.message and at_last y v (v.addressee p.message))

-- The first condition that holds, in the table's order, or 0. Of the layout it looks at the largest life number alone.
unfoldable pub refusal_of : Layout → Seen → Step → ℕ
refusal_of y v p =
    pick (malformed p) 20
    (pick (not_waiting v p) 24
    (pick (empty_group p) 29
    (pick (unopened v p) 21
    (pick (is_gone v p) 22
    (pick (wrong_status v p) 23
    (pick (unrelated_receipt v p) 31
    (pick (all_opened v p) 25
    (pick (all_waiting v p) 26
    (pick (all_numbered v p) 27
    (pick (all_checkpointed v p) 30
    (pick (last_rolls_back y v p) 28 0)))))))))))
