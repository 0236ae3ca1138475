-- Each test that fails turns the whole false; past them the behaviour map is what is left.
use Rattle.std.proofs.Common.{◌≡◌, sym, ap, ◌∙◌, refl, false, eqb}
use Rattle.rules.specs.Form.{map_formed}
use Rattle.form.specs.Internal.Tests.{formed_live_at}
use Rattle.rules.specs.declared.statuses.Status.{Status}
use Rattle.rules.specs.Numbers.{status_number}
use Rattle.rules.specs.declared.statuses.Status.TheVariants.{Unused, Idle, Busy, Annihilated}
use Rattle.form.proofs.Front.live_formed.Goals as goal

not_idle : (s : Status) → (s ≡ Idle → ⊥) → eqb (status_number s) 1 ≡ false
not_idle Unused n = refl
not_idle Idle n = absurd (n refl)
not_idle Busy n = refl
not_idle Annihilated n = refl

pub returns-then-not-formed : goal.returns-then-not-formed
unfolding formed_live_at map_formed
returns-then-not-formed c = rw (← c.args.self.now.headed.many, ← c.args.self.now.headed.most, sym c.formed.ensures ∙ c.if-not-formed.true)

pub returns-then-not-formed-2 : goal.returns-then-not-formed-2
unfolding formed_live_at map_formed
returns-then-not-formed-2 c = rw (← c.args.self.now.headed.many, ← c.args.self.now.headed.most, sym c.formed.ensures ∙ c.if-not-formed.false, sym c.formed-2.ensures ∙ c.if-not-formed-2.true)

pub returns-then-not-own_formed : goal.returns-then-not-own_formed
unfolding formed_live_at map_formed
returns-then-not-own_formed c = rw (← c.args.self.now.headed.many, ← c.args.self.now.headed.most, sym c.formed.ensures ∙ c.if-not-formed.false, sym c.formed-2.ensures ∙ c.if-not-formed-2.false, sym c.own_formed.ensures ∙ c.if-not-own_formed.true)

pub returns-in-Idle : goal.returns-in-Idle
unfolding formed_live_at map_formed
returns-in-Idle c =
    let p = sym c.requires.stored in
    rw (← c.args.self.now.headed.many, ← c.args.self.now.headed.most, sym c.formed.ensures ∙ c.if-not-formed.false, sym c.formed-2.ensures ∙ c.if-not-formed-2.false, sym c.own_formed.ensures ∙ c.if-not-own_formed.false, ← c.requires.stored, ap status_number c.in-Idle.is) c.all_zero.ensures

pub returns-in_default : goal.returns-in_default
unfolding formed_live_at map_formed
returns-in_default c =
    rw (← c.args.self.now.headed.many, ← c.args.self.now.headed.most, sym c.formed.ensures ∙ c.if-not-formed.false, sym c.formed-2.ensures ∙ c.if-not-formed-2.false, sym c.own_formed.ensures ∙ c.if-not-own_formed.false, ← c.requires.stored, not_idle c.args.status c.in_default.not-Idle) c.formed-in_default.ensures
