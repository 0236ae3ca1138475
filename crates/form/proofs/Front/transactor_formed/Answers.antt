-- Unopened, a zero bit that is set, unused, vanished, or live.
use Rattle.std.proofs.Common.{◌≡◌, ◌⊎◌, inl, inr, refl, false, eqb}
use borrow.Author.Tests.{le-leb, lt-leb, eq-eqb, ne_eqb}
use Rattle.form.specs.Internal.Tests.{formed_transactor_at}
use Rattle.rules.specs.declared.statuses.Status.{Status}
use Rattle.rules.specs.declared.statuses.Status.TheVariants.{Idle, Busy}
use Rattle.rules.specs.Numbers.{status_number}
use Rattle.form.proofs.Front.transactor_formed.Goals as goal

-- neither unopened nor vanished
live_not : (s : Status) → (s ≡ Idle) ⊎ (s ≡ Busy) → (eqb (status_number s) 0 ≡ false) × (eqb (status_number s) 3 ≡ false)
live_not s (inl e) = rw e (refl, refl)
live_not s (inr e) = rw e (refl, refl)

pub returns-then-self-t : goal.returns-then-self-t
unfolding formed_transactor_at
returns-then-self-t c = rw (← c.args.self.now.headed.many, le-leb _ _ c.if-self-t.true) c.all_zero.ensures

pub returns-then-head-ne0 : goal.returns-then-head-ne0
unfolding formed_transactor_at
returns-then-head-ne0 c = rw (← c.args.self.now.headed.many, lt-leb _ _ c.if-self-t.false, ne_eqb _ 0 c.if-head-ne0.true)

pub returns-in-Unused : goal.returns-in-Unused
unfolding formed_transactor_at
returns-in-Unused c = rw (← c.args.self.now.headed.many, lt-leb _ _ c.if-self-t.false, eq-eqb _ 0 c.if-head-ne0.false, ← c.in-Unused.ensures)

pub returns-in-Annihilated : goal.returns-in-Annihilated
unfolding formed_transactor_at
returns-in-Annihilated c = rw (← c.args.self.now.headed.many, lt-leb _ _ c.if-self-t.false, eq-eqb _ 0 c.if-head-ne0.false, ← c.in-Annihilated.ensures) c.all_zero-in-Annihilated.ensures

pub returns-in-Idle : goal.returns-in-Idle
unfolding formed_transactor_at
returns-in-Idle c =
    rw (← c.args.self.now.headed.many, lt-leb _ _ c.if-self-t.false, eq-eqb _ 0 c.if-head-ne0.false, ← c.of-status.ensures, (live_not c.of-status.result c.in-Idle.is).0, (live_not c.of-status.result c.in-Idle.is).1) c.live_formed.ensures
