-- In the behaviour map of one that is busy.
use Rattle.image.proofs.Lent.{good_in}
use Rattle.std.proofs.Common.{rules, refl, sym, ◌≡◌, ◌∙◌, ap, ℕ, false, eqb}
use Rattle.rules.specs.Layout.{base}
use Rattle.rules.specs.Status.{busy}
use Rattle.rules.specs.declared.statuses.Status.TheVariants.{Unused, Idle, Busy, Annihilated}
use Rattle.rules.specs.declared.statuses.Status.{Status}
use Rattle.rules.specs.Numbers.{status_number}
use Rattle.rules.proofs.Groups.Dependents.{works-idle, works-busy}
use Rattle.rules.proofs.Pack.Rooms.{room-behaviour}
use Rattle.grounds.proofs.works.Goals as goal

other : (s : Status) → (s ≡ Busy → ⊥) → eqb (status_number s) busy ≡ false
other Unused d = refl
other Idle d = refl
other Busy d = absurd (d refl)
other Annihilated d = refl

pub holds-requires : goal.holds-requires
holds-requires c = let p = c.requires in (search rules, p.0, room-behaviour _ (good_in c.args.image.now) _ p.0 _ p.1)

pub returns-in-Busy : goal.returns-in-Busy
returns-in-Busy c = c.holds.ensures ∙ works-busy base _ _ c.requires.0 _ c.requires.1 (ap (λ (n : ℕ). eqb n busy) (sym c.in-Busy.ensures))

pub returns-in_default : goal.returns-in_default
returns-in_default c = works-idle base _ _ c.requires.0 _ c.requires.1 (ap (λ (n : ℕ). eqb n busy) (sym c.status.ensures) ∙ other _ c.in_default.not-Busy)
