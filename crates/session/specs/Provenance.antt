-- Document 01, "The book of demand 3": what it holds. It is fed the calls alone: no definition here or in Grounds, Unrelated, Steps and
-- Fed mentions an image, a reply or a dependence map. Of the layout it knows the counts, for 33, and the largest life number, for 28.
use Rattle.std.specs.Prelude.{ℕ, ◌+◌, Bool, true, false, eqb}
use mathlib.Core.List.{List, [], ◌∷◌, ◌++◌, Memᴰ}
use Rattle.octets.specs.Bytes.{pick, ◌and◌, ◌or◌}
use Rattle.marks.specs.Incarnation.{Incarnation, superseded_by}
use Rattle.marks.specs.History.{HistoryView, initial_view}
use Rattle.octets.specs.Table.{updated}
use Rattle.rules.specs.Layout.{Limits}
use Rattle.rules.specs.Status as number

-- A life with its take.
pub record Entry : Type 0 where
  pub transactor : ℕ
  pub incarnation : Incarnation

-- A set of lives. "No life in a set is replaced by a newer one."
abbrev pub Incarnations : Type 0
Incarnations = List Entry

-- life a of take u is in the set
abbrev pub In : ℕ → Incarnation → Incarnations → Type 0
In u a incarnations = Memᴰ (record { transactor = u; incarnation = a }) incarnations

-- the life a of take t alone
abbrev pub one : ℕ → Incarnation → Incarnations
one t a = record { transactor = t; incarnation = a } ∷ []

-- unused, idle, at work, vanished
pub data Status : Type 0 where
  unused idle busy annihilated : Status

-- the number of a status
abbrev pub status_number : Status → ℕ
status_number unused = number.unused
status_number idle = number.idle
status_number busy = number.busy
status_number annihilated = number.annihilated

-- "live takes are idle or at work"
pub data Live : Status → Type 0 where
  is-idle : Live idle
  is-busy : Live busy

-- "A live take has its present mark and three sets of lives (each with its take)".
pub record Holder : Type 0 where
  pub status : Status
  pub history : HistoryView
  pub state : Incarnations
  pub creation : Incarnations
  pub behaviour : Incarnations

-- "a waiting parcel its addressee and one set", and its number
pub record WaitingMessage : Type 0 where
  pub number : ℕ
  pub addressee : ℕ
  pub incarnations : Incarnations

-- The book: the session's limits (document 02, W7), how many takes were opened, the next parcel number, every take, the waiting
-- parcels, and what was noted at signings.
pub record Provenance : Type 1 where
  pub limits : Limits
  pub opened : ℕ
  pub next : ℕ
  pub holders : ℕ → Holder
  pub messages : List WaitingMessage
  -- noted t a u c: for life a of take t, life c of take u was noted
  pub noted : ℕ → Incarnation → ℕ → Incarnation → Type 0

-- a take that was not opened, and one that vanished
abbrev pub blank : Status → Holder
blank status = record { status = status; history = initial_view; state = []; creation = []; behaviour = [] }

-- "An accepted begin empties it, with all that was noted and signed", and sets its limits.
abbrev pub empty_provenance : Limits → Provenance
empty_provenance m = record { limits = m; opened = 0; next = 0; holders = λ t. blank unused; messages = []; noted = λ t a u c. ⊥ }

-- ---- changes

-- take t changed
abbrev pub with_holder : Provenance → ℕ → Holder → Provenance
with_holder b t h = record { limits = b.limits; opened = b.opened; next = b.next; holders = updated b.holders t h; messages = b.messages; noted = b.noted }

-- one more take opened
abbrev pub with_opened : Provenance → Holder → Provenance
with_opened b h = record { limits = b.limits; opened = b.opened + 1; next = b.next; holders = updated b.holders b.opened h; messages = b.messages; noted = b.noted }

-- one more parcel, with the next number
abbrev pub with_waiting_message : Provenance → ℕ → Incarnations → Provenance
with_waiting_message b to incarnations = record {
  limits = b.limits;
  opened = b.opened;
  next = b.next + 1;
  holders = b.holders;
  messages = b.messages ++ (record { number = b.next; addressee = to; incarnations = incarnations } ∷ []);
  noted = b.noted;
}

-- the parcels without that of number n
unfoldable pub remove : ℕ → List WaitingMessage → List WaitingMessage
remove n [] = []
remove n (q ∷ qs) = pick (eqb q.number n) qs (q ∷ remove n qs)

-- "the parcel goes"
abbrev pub without_waiting_message : Provenance → ℕ → Provenance
without_waiting_message b n = record { limits = b.limits; opened = b.opened; next = b.next; holders = b.holders; messages = remove n b.messages; noted = b.noted }

-- ---- a parcel by its number; past them, one that nobody sent

abbrev pub no_waiting_message : WaitingMessage
no_waiting_message = record { number = 0; addressee = 0; incarnations = [] }

unfoldable pub find : ℕ → List WaitingMessage → WaitingMessage
find n [] = no_waiting_message
find n (q ∷ qs) = pick (eqb q.number n) q (find n qs)

unfoldable pub is_missing : ℕ → List WaitingMessage → Bool
is_missing n [] = true
is_missing n (q ∷ qs) = pick (eqb q.number n) false (is_missing n qs)

-- ---- "a life of its set is stale by one of the same take in .."

unfoldable pub any_entry : (Entry → Bool) → Incarnations → Bool
any_entry f [] = false
any_entry f (x ∷ xs) = f x or any_entry f xs

unfoldable pub superseded_entry : Entry → Entry → Bool
superseded_entry x z = eqb x.transactor z.transactor and superseded_by x.incarnation z.incarnation

-- a life of the first set is stale by one of the same take in the second
unfoldable pub any_superseded : Incarnations → Incarnations → Bool
any_superseded xs zs = any_entry (λ x. any_entry (superseded_entry x) zs) xs
