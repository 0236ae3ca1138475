-- The rules on one take's bytes, with the refusals that these bytes decide.
use Rattle.std.specs.Prelude.{ℕ, ◌+◌, not, ◌≡◌, List, eqb, Result, Ok, Err}
use Rattle.std.proofs.Math.Option.{Option}
use Rattle.octets.specs.Bytes.{pick, ◌and◌, ◌or◌, put}
use Rattle.octets.specs.Numbers.{be}
use Rattle.marks.specs.History.{initial_history}
use Rattle.maps.specs.declared.DependenceMap.{DependenceMap}
use Rattle.maps.specs.Map.{first_superseded, any_unrelated}
use Rattle.rules.specs.Layout.{Layout, base, transactor_address}
use Rattle.rules.specs.Status.{busy}
use Rattle.rules.specs.State.{Transactor, own_history, with_transactor, with_behaviour}
use Rattle.rules.specs.declared.refusals.Refusal.{Refusal}
use Rattle.rules.specs.declared.outcomes.Outcome.{Outcome}
use Rattle.rules.specs.Numbers.{refusal_number, outcome_number}
use Rattle.rules.specs.Step.{done, held, dropped, fall, fail}
use Rattle.rules.specs.Rules.{Effect, is_some, join, only, known, informed_by, unchanged, made_idle, rollback, local_by, opening}
use Rattle.rules.specs.Pack.{pack_transactor, pack, unpack}
use Rattle.transactor.specs.declared.Acted.{Acted}
use Rattle.rules.specs.Internal.Guards.{local_refusal, is_last_incarnation}

-- what is answered, an outcome or a refusal, in one number
abbrev pub outcome_in : Result (Acted Outcome) Refusal → ℕ
outcome_in (Ok a) = outcome_number a.outcome
outcome_in (Err r) = refusal_number r

-- the text read; 0 where it is refused
abbrev pub value_in : Result (Acted Outcome) Refusal → ℕ
value_in (Ok a) = a.value
value_in (Err r) = 0

-- what a function on a take's bytes says: the outcome, or the refusal with nothing changed; the text read; the bytes
pub record Acts (e : Effect) (o v : ℕ) (b : List ℕ) : Type 0 where
  pub outcome : o ≡ e.outcome
  pub value : v ≡ e.value
  pub bytes : b ≡ pack_transactor base e.transactor

-- what a function on an image says that changes the bytes of take t alone
pub record ActsAt (img : List ℕ) (t : ℕ) (e : Effect) (o v : ℕ) (after : List ℕ) : Type 0 where
  pub outcome : o ≡ e.outcome
  pub value : v ≡ e.value
  pub image : after ≡ pack base (with_transactor (unpack base img) t e.transactor)

-- a fall, or 28
unfoldable pub rollback_or28 : Layout → ℕ → Transactor → Effect
rollback_or28 y t x = pick (is_last_incarnation y t x) (unchanged 28 x) (rollback y t x)

-- fall and fail, or 28
unfoldable pub rollback_unless_stable : Layout → ℕ → ℕ → Transactor → Effect
rollback_unless_stable y k t x =
    pick (own_history t x).stable (unchanged held (pick (eqb k fall) (made_idle y x) x)) (rollback_or28 y t x)

-- kinds 5 to 10 with the refusals 22, 23 and 28
unfoldable pub act_by : Layout → ℕ → ℕ → ℕ → Transactor → Effect
act_by y k t v x =
    pick (not (eqb (local_refusal k x.status) 0)) (unchanged (local_refusal k x.status) x)
    (pick ((eqb k fall or eqb k fail) and not (own_history t x).stable and is_last_incarnation y t x) (unchanged 28 x)
    (local_by y k t v x))

-- at work, with the parcel's map
unfoldable pub taken_in : Transactor → DependenceMap → Transactor
taken_in x deps = record { status = busy; value = x.value; saved = x.saved; state = x.state; creation = x.creation; behaviour = deps }

-- of a parcel that is not stale: the addressee falls, or 28, if a mark of it is; or the parcel is taken in, with the news of its map
unfoldable pub settle_by : Layout → ℕ → Transactor → DependenceMap → Option ℕ → Effect
settle_by y t x deps stale = pick (is_some stale) (rollback_or28 y t x) (unchanged done (taken_in (informed_by y t x deps) deps))

-- a receipt's effect on the addressee, without the text, or 31, or 28
unfoldable pub accept_by : Layout → ℕ → Transactor → DependenceMap → Effect
accept_by y t x deps =
    pick (any_unrelated y.transactors deps (known y x)) (unchanged 31 x)
    (pick (is_some (first_superseded y.transactors deps (known y x))) (unchanged dropped x)
    (settle_by y t x deps (first_superseded y.transactors (known y x) deps)))

-- the bytes of an image with one more take opened, which is the next one, c
unfoldable pub open_bytes : Layout → List ℕ → ℕ → ℕ → DependenceMap → List ℕ
open_bytes y img c v creation = put 0 (be 1 (c + 1)) (put (transactor_address y c) (pack_transactor y (opening y c v creation)) img)

-- the child's opening mark joins the opener's behaviour map
unfoldable pub adopts : Layout → ℕ → Transactor → Transactor
adopts y c x = with_behaviour x (join y (only y c (initial_history y.places)) x.behaviour)
