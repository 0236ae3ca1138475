-- Who rests on a take's present life. Whoever withdraws the speaker list may think only of later pages; but a page already set from those names
-- rests on them, and a page set from that page is lost with it. The query says it before the withdrawal.
use Rattle.std.specs.Prelude.{ℕ, zero, suc, ◌+◌, ◌^◌, Bool, List, length, eqb}
use Rattle.octets.specs.Bytes.{pick, ◌and◌, ◌or◌}
use Rattle.marks.specs.Incarnation.{same_incarnation}
use Rattle.marks.specs.History.{incarnation_of}
use Rattle.maps.specs.declared.DependenceMap.{DependenceMap}
use Rattle.maps.specs.Map.{held_at, history_at}
use Rattle.rules.specs.declared.Dependents.{Dependents}
use Rattle.rules.specs.Layout.{Layout}
use Rattle.rules.specs.Status.{busy}
use Rattle.rules.specs.State.{State, transactor_at, message_at, own_history, live}
use Rattle.rules.specs.Pack.{unpack}
use Rattle.rules.specs.Calls.{query_refusal}
use Rattle.rules.specs.ReadyGroups.{how_many}

-- the map m holds a mark of take t's present life
unfoldable pub holds_present : State → ℕ → DependenceMap → Bool
holds_present s t m = held_at m t and same_incarnation (incarnation_of (history_at m t)) (incarnation_of (own_history t (transactor_at s t)))

-- the live takes whose state or creation map holds take t's present life: take u is one
unfoldable pub rests_at : State → ℕ → ℕ → Bool
rests_at s t u = live (transactor_at s u) and (holds_present s t (transactor_at s u).state or holds_present s t (transactor_at s u).creation)

-- the takes at work whose behaviour map holds it: take u is one
unfoldable pub works_at : State → ℕ → ℕ → Bool
works_at s t u = eqb (transactor_at s u).status busy and holds_present s t (transactor_at s u).behaviour

-- the map of the waiting parcel in place k holds it
unfoldable pub carries_at : State → ℕ → ℕ → Bool
carries_at s t k = holds_present s t (message_at s k).dependences

-- the volume (document 01: "take t counting 2^t") of those of the first n takes at which f holds
unfoldable pub group_of : ℕ → (ℕ → Bool) → ℕ
group_of zero f = 0
group_of (suc n) f = group_of n f + pick (f n) (2 ^ n) 0

-- Take w is take t, or rests on its present life, directly or through the present lives of some of the first k takes, as
-- a page set from that page does. With k all takes, this is the least set with take t and, with each take, those that rest on its present life
-- (session/specs/Withdrawal, RestsThrough).
unfoldable pub through_at : State → ℕ → ℕ → ℕ → Bool
through_at s zero t w = eqb t w or rests_at s t w
through_at s (suc k) t w = through_at s k t w or (through_at s k t k and through_at s k k w)

-- what rests on the present life of take t
unfoldable pub dependents_of : Layout → State → ℕ → Dependents
dependents_of y s t = record {
  resting = group_of y.transactors (rests_at s t);
  through = group_of y.transactors (through_at s y.transactors t);
  unfinished = group_of y.transactors (works_at s t);
  carried = how_many (length s.messages) (carries_at s t);
}

-- ---- the call

abbrev pub no_dependents : Dependents
no_dependents = record { resting = 0; through = 0; unfinished = 0; carried = 0 }

-- 16, 19, 21 and 22 as offer; refused: nothing
unfoldable pub dependents_answer : Layout → List ℕ → ℕ → Dependents
dependents_answer y img t = pick (eqb (query_refusal y img t) 0) (dependents_of y (unpack y img) t) no_dependents
