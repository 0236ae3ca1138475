-- A receipt judged without being done: its refusal, or what decides it.
use Rattle.std.specs.Prelude.{ℕ, eqb, Result}
use Rattle.std.proofs.Math.Option.{Option, none, some}
use Rattle.octets.specs.Bytes.{pick}
use Rattle.maps.specs.Map.{first_superseded}
use Rattle.rules.specs.Layout.{Layout}
use Rattle.rules.specs.State.{Transactor, Message, State}
use Rattle.rules.specs.Step.{done, dropped}
use Rattle.rules.specs.Rules.{known, message_unrelated, rollback, refusal}
use Rattle.rules.specs.Internal.Guards.{is_last_incarnation}
use Rattle.decisive.specs.declared.Decision.{Decision}
use Rattle.rules.specs.declared.refusals.Refusal.{Refusal}
use Rattle.rules.specs.Numbers.{refusal_in}
use Rattle.decisive.specs.Decision.{decision_of, decision_in, receiving, undecided}

-- the number of the refusal, or 0, and the decision
pub record Judged : Type 0 where
  pub refusal : ℕ
  pub decision : Decision

abbrev pub judged_in : Result Decision Refusal → Judged
judged_in r = record { refusal = refusal_in r; decision = decision_in r }

abbrev pub refused_by : ℕ → Judged
refused_by n = record { refusal = n; decision = undecided }

abbrev pub told_by : ℕ → ℕ → Judged
told_by o u = record { refusal = 0; decision = record { outcome = o; transactor = u } }

-- take t falls by its mark of take u
unfoldable pub falls_by : Layout → ℕ → Transactor → ℕ → Judged
falls_by y t x u = pick (is_last_incarnation y t x) (refused_by 28) (told_by (rollback y t x).outcome u)

-- no mark of the parcel is stale: the first of the take's that is, or none
abbrev pub settled_by : Layout → ℕ → Transactor → Option ℕ → Judged
settled_by y t x none = told_by done 0
settled_by y t x (some u) = falls_by y t x u

abbrev pub found_by : Layout → ℕ → Transactor → Option ℕ → Option ℕ → Judged
found_by y t x (some u) q = told_by dropped u
found_by y t x none q = settled_by y t x q

-- take t, being idle, and a parcel to it
unfoldable pub judged_by : Layout → ℕ → Transactor → Message → Judged
judged_by y t x m =
    pick (message_unrelated y x m) (refused_by 31)
    (found_by y t x (first_superseded y.transactors m.dependences (known y x)) (first_superseded y.transactors (known y x) m.dependences))

-- parcel n
unfoldable pub judged_of : Layout → State → ℕ → Judged
judged_of y s n = record {
  refusal = refusal y s (receiving n);
  decision = pick (eqb (refusal y s (receiving n)) 0) (decision_of y s n) undecided;
}
