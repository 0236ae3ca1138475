-- Not named, or stable; idle; or at work.
use Rattle.std.proofs.Common.{arith, refl, sym, ◌≡◌, ◌∙◌}
use Rattle.rules.specs.declared.statuses.Status.{Status}
use Rattle.rules.specs.declared.statuses.Status.TheVariants.{Unused, Idle, Busy, Annihilated}
use Rattle.rules.specs.Numbers.{status_number}
use Rattle.plans.proofs.Writing.{task-unnamed, task-frozen, task-wake, task-freeze}
use Rattle.plans.proofs.task_for.Goals as goal
use Rattle.plans.proofs.task_for.Goals.{then-not-is_named-via-then-not-is_named, then-not-is_named-via-else-not-is_named+then-own}

other : (s : Status) → (s ≡ Idle → ⊥) → status_number s ≡ 1 → ⊥
other Unused d e = omega arith
other Idle d e = d refl
other Busy d e = omega arith
other Annihilated d e = omega arith

pub returns-then-not-is_named : goal.returns-then-not-is_named
returns-then-not-is_named c = elim c.then-not-is_named.branch [
  | then-not-is_named-via-then-not-is_named w ↦ task-unnamed _ _ _ (sym c.is_named.ensures ∙ w.if-not-is_named.true)
  | then-not-is_named-via-else-not-is_named+then-own w ↦ task-frozen _ _ _ (sym c.is_named.ensures ∙ w.if-not-is_named.false) (rw w.own.ensures at w.if-own.true)
]

pub returns-in-Idle : goal.returns-in-Idle
returns-in-Idle c = task-wake _ _ _ (sym c.is_named.ensures ∙ c.if-not-is_named.false) (rw c.own.ensures at c.if-own.false) (sym c.in-Idle.ensures)

pub returns-in_default : goal.returns-in_default
returns-in_default c =
    task-freeze _ _ _ (sym c.is_named.ensures ∙ c.if-not-is_named.false) (rw c.own.ensures at c.if-own.false) (λ e. other _ c.in_default.not-Idle (c.status.ensures ∙ e))
