-- The steps of a plan as the code writes them; for internal functions alone.
use Rattle.std.specs.Prelude.{ℕ, ◌+◌, ◌-◌, Bool, ◌≡◌, List, [], ◌++◌, length, get_or, Option, Some, None}
use Rattle.octets.specs.Bytes.{pick, put, zeros}
use Rattle.plans.specs.declared.Task.{Task}
use Rattle.plans.specs.declared.Task.TheVariants.{Freeze, Wake}
use Rattle.rules.specs.Layout.{base}
use Rattle.rules.specs.State.{State}
use Rattle.rules.specs.Refusals.{named}
use Rattle.rules.specs.Calls.{steps_in}
use Rattle.rules.specs.Step.{pack_step}
use Rattle.rules.specs.Plan.{waking, receipt, freezing, to_freeze, to_wake, plan_bytes}

-- of the rows of who rests on each take: that of take c names take t
unfoldable pub row_names : List ℕ → ℕ → ℕ → Bool
row_names rows t c = named (get_or rows c 0) t

-- what is to be done with take c of volume g
unfoldable pub task_of : State → ℕ → ℕ → Option Task
task_of s g c = pick (to_freeze s g c) (Some (pick (to_wake s g c) Wake Freeze)) None

-- the steps of it, for take c; a letter has number n
abbrev pub tasked : Option Task → ℕ → ℕ → List ℕ
tasked None c n = []
tasked (Some Freeze) c n = pack_step (freezing c)
tasked (Some Wake) c n = pack_step (waking c) ++ pack_step (receipt n) ++ pack_step (freezing c)

-- the number that is next after it
abbrev pub next_number : Option Task → ℕ → ℕ
next_number None n = n
next_number (Some Freeze) n = n
next_number (Some Wake) n = n + 1

-- the bytes bs stand in l from at on, and end at r
pub record Written (bs : List ℕ) (at : ℕ) (before after : List ℕ) (r : ℕ) : Type 0 where
  pub is : after ≡ put at bs before
  pub ends : r ≡ at + length bs

-- the steps b, with zeros after them; r of them
pub record Planned (b after : List ℕ) (r : ℕ) : Type 0 where
  pub is : after ≡ b ++ zeros (plan_bytes base - length b)
  pub many : r ≡ steps_in b
