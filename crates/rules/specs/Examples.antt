-- The three queries on a small session: names, a page set from them, and a page set from that page, whose sender had not read.
use Rattle.std.specs.Prelude.{ℕ, true, ◌≡◌, List, [], ◌∷◌, ◌++◌, Some}
use Rattle.rules.specs.declared.Step.{Step}
use Rattle.rules.specs.declared.Obstacle.TheVariants.{Unstable, Outside, SupersededOrAnnihilated}
use Rattle.rules.specs.declared.Impediment.TheVariants as impediment
use Rattle.rules.specs.declared.Impediment.TheVariants.{Hopeless}
use Rattle.rules.specs.Layout.{Layout, Limits}
use Rattle.rules.specs.State.{State, fresh}
use Rattle.rules.specs.Rules.{step_of}
use Rattle.rules.specs.Dependents.{dependents_of}
use Rattle.rules.specs.Obstacle.{obstacle_of}
use Rattle.rules.specs.Groups.{signing}
use Rattle.rules.specs.Impediment.{impediment_of}
use Rattle.rules.specs.Step.{pack_step}
use Rattle.rules.specs.Plan.{waking, receipt, freezing, plan_of}

abbrev pub three : Layout
three = record { width = 1; places = 1; transactors = 3; messages = 2; limited = true }

abbrev pub limits : Limits
limits = record { transactors = 3; messages = 2; checkpoints = 1 }

-- kind, take, other, parcel
abbrev pub made : ℕ → ℕ → ℕ → ℕ → Step
made k t o m = record { kind = k; transactor = t; other = o; zero = 0; message = m; value = 0 }

unfoldable pub after : State → List Step → State
after s [] = s
after s (p ∷ ps) = after (step_of three s p).state ps

-- root, root, root; letter to 0, receive; send 0 to 1, receive, write, done; letter to 1, receive; send 1 to 2, receive, write
abbrev pub pages : State
pages = after (fresh three limits) (
    made 0 0 0 0 ∷ made 0 0 0 0 ∷ made 0 0 0 0 ∷ made 1 0 0 0 ∷ made 2 0 0 0
    ∷ made 4 0 1 0 ∷ made 2 0 0 1 ∷ made 6 1 0 0 ∷ made 8 1 0 0
    ∷ made 1 1 0 0 ∷ made 2 0 0 2 ∷ made 4 1 2 0 ∷ made 2 0 0 3 ∷ made 6 2 0 0 ∷ [])

-- freeze 1, freeze 2
abbrev pub frozen : State
frozen = after pages (made 7 1 0 0 ∷ made 7 2 0 0 ∷ [])

-- fail 0: the names vanish
abbrev pub withdrawn : State
withdrawn = after frozen (made 10 0 0 0 ∷ [])

-- done 0: the names are idle
abbrev pub rested : State
rested = after frozen (made 8 0 0 0 ∷ [])

pub record Computed : Type 0 where
  -- the names and the page set from them rest on the names' life; the page set from that page does not: its sender had not read
  pub names : (dependents_of three pages 0).resting ≡ 3
  pub page : (dependents_of three pages 1).resting ≡ 6
  -- but through the first page it does
  pub through : (dependents_of three pages 0).through ≡ 7
  pub page-through : (dependents_of three pages 1).through ≡ 6
  -- page 2 is at work on a parcel of page 1's, and nobody on one of the names'
  pub working : (dependents_of three pages 0).unfinished ≡ 0
  pub page-working : (dependents_of three pages 1).unfinished ≡ 4
  -- page 2 is not ready: not frozen; frozen: it rests on page 1; with it: page 1 rests on the names
  pub first : obstacle_of three pages 4 ≡ Some (Unstable 2)
  pub second : obstacle_of three frozen 4 ≡ Some (Outside 2 1)
  pub third : obstacle_of three frozen 6 ≡ Some (Outside 1 0)
  -- and when the names vanish, page 1 rests on a withdrawn life, and page 2, which rests on page 1, still on a present one
  pub fourth : obstacle_of three withdrawn 6 ≡ Some (SupersededOrAnnihilated 1 0)
  pub fifth : obstacle_of three withdrawn 4 ≡ Some (Outside 2 1)
  -- why there is no volume with page 2: the names are not frozen, and the chain goes by page 1; when they vanish, page 1 rests on a withdrawn life
  pub sixth : impediment_of three frozen 2 ≡ Some (impediment.Unstable 0 1)
  pub seventh : impediment_of three withdrawn 2 ≡ Some (Hopeless 1 0 1)
  -- asked about the next, page 1: it is in the way itself
  pub eighth : impediment_of three withdrawn 1 ≡ Some (Hopeless 1 0 1)
  -- what is left to do for page 2: freeze the names, sign all three; if the names are idle, wake them first; when they vanished, nothing helps
  pub plan : plan_of three frozen 2 ≡ pack_step (freezing 0) ++ pack_step (signing 7)
  pub woken : plan_of three rested 2 ≡ pack_step (waking 0) ++ pack_step (receipt 4) ++ pack_step (freezing 0) ++ pack_step (signing 7)
  pub lost : plan_of three withdrawn 2 ≡ []
