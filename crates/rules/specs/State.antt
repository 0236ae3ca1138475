-- Document 01, "A take and its steps": what an image says.
use Rattle.std.specs.Prelude.{ℕ, zero, suc, ◌+◌, Bool, List, [], ◌∷◌, ◌++◌, length, get_or, set, take, drop, replicate, eqb}
use Rattle.octets.specs.Bytes.{pick, ◌or◌}
use Rattle.marks.specs.declared.History.{History}
use Rattle.maps.specs.declared.DependenceMap.{DependenceMap}
use Rattle.maps.specs.Map.{history_at, empty_map}
use Rattle.rules.specs.Layout.{Layout, Limits}
use Rattle.rules.specs.Status.{unused, idle, busy}

-- A take: status, text, saved text, and three maps.
pub record Transactor : Type 0 where
  pub status : ℕ
  pub value : ℕ
  pub saved : ℕ
  pub state : DependenceMap
  pub creation : DependenceMap
  pub behaviour : DependenceMap

-- A parcel: addressee, number, text and map.
pub record Message : Type 0 where
  pub addressee : ℕ
  pub number : ℕ
  pub value : ℕ
  pub dependences : DependenceMap

-- The session's limits, takes opened, next parcel number, all takes, the waiting parcels in rising number.
pub record State : Type 0 where
  pub limits : Limits
  pub opened : ℕ
  pub next : ℕ
  pub transactors : List Transactor
  pub messages : List Message

-- only a status, all else zero
abbrev pub bare : Layout → ℕ → Transactor
bare y st = record {
  status = st;
  value = 0;
  saved = 0;
  state = empty_map y.places y.transactors;
  creation = empty_map y.places y.transactors;
  behaviour = empty_map y.places y.transactors;
}

-- what stands past the end of a list
abbrev pub no_map : DependenceMap
no_map = record { held = []; histories = [] }

abbrev pub no_transactor : Transactor
no_transactor = record { status = unused; value = 0; saved = 0; state = no_map; creation = no_map; behaviour = no_map }

abbrev pub no_message : Message
no_message = record { addressee = 0; number = 0; value = 0; dependences = no_map }

unfoldable pub transactor_at : State → ℕ → Transactor
transactor_at s t = get_or s.transactors t no_transactor

unfoldable pub message_at : State → ℕ → Message
message_at s k = get_or s.messages k no_message

-- A fresh session with these limits: nothing opened, nothing sent.
unfoldable pub fresh : Layout → Limits → State
fresh y m = record { limits = m; opened = 0; next = 0; transactors = replicate y.transactors (bare y unused); messages = [] }

-- the own mark of take t
abbrev pub own_history : ℕ → Transactor → History
own_history t x = history_at x.state t

-- idle or at work
abbrev pub live : Transactor → Bool
live x = eqb x.status idle or eqb x.status busy

-- ---- one field changed

abbrev pub with_status : Transactor → ℕ → Transactor
with_status x st = record { status = st; value = x.value; saved = x.saved; state = x.state; creation = x.creation; behaviour = x.behaviour }

abbrev pub with_value : Transactor → ℕ → Transactor
with_value x v = record { status = x.status; value = v; saved = x.saved; state = x.state; creation = x.creation; behaviour = x.behaviour }

abbrev pub with_state : Transactor → DependenceMap → Transactor
with_state x m = record { status = x.status; value = x.value; saved = x.saved; state = m; creation = x.creation; behaviour = x.behaviour }

abbrev pub with_behaviour : Transactor → DependenceMap → Transactor
with_behaviour x m = record { status = x.status; value = x.value; saved = x.saved; state = x.state; creation = x.creation; behaviour = m }

unfoldable pub with_transactor : State → ℕ → Transactor → State
with_transactor s t x = record { limits = s.limits; opened = s.opened; next = s.next; transactors = set s.transactors t x; messages = s.messages }

unfoldable pub with_opened : State → ℕ → State
with_opened s n = record { limits = s.limits; opened = n; next = s.next; transactors = s.transactors; messages = s.messages }

-- one more parcel, with the next number
unfoldable pub with_message : State → ℕ → ℕ → DependenceMap → State
with_message s to v m = record {
  limits = s.limits;
  opened = s.opened;
  next = s.next + 1;
  transactors = s.transactors;
  messages = s.messages ++ (record { addressee = to; number = s.next; value = v; dependences = m } ∷ []);
}

-- the parcel in place k received or lost
unfoldable pub without_message : State → ℕ → State
without_message s k = record { limits = s.limits; opened = s.opened; next = s.next; transactors = s.transactors; messages = take k s.messages ++ drop (k + 1) s.messages }

-- ---- a parcel by its number

-- the first of the n places from k on at which f holds, or the one after them
unfoldable pub place_from : (ℕ → Bool) → ℕ → ℕ → ℕ
place_from f k zero = k
place_from f k (suc n) = pick (f k) k (place_from f (suc k) n)

unfoldable pub numbered : State → ℕ → ℕ → Bool
numbered s p k = eqb (message_at s k).number p

-- the parcel in place k is addressed to take t
unfoldable pub addressed_to : State → ℕ → ℕ → Bool
addressed_to s t k = eqb (message_at s k).addressee t

-- the place of the waiting parcel with number p, or how many wait
unfoldable pub place_of : State → ℕ → ℕ
place_of s p = place_from (numbered s p) 0 (length s.messages)
