-- Past the test for 20 each kind is asked as its function wants it.
use Rattle.std.proofs.Common.{arith, refl, sym}
use Rattle.rules.proofs.ByKind.Refused.{kind-formed}
use Rattle.engine_tables.proofs.Outcomes.{malformed-done}
use Rattle.engine.proofs.Advancing.{advance-any}
use Rattle.engine.proofs.advance.Goals as goal

pub returns-then-malformed : goal.returns-then-malformed
returns-then-malformed c = advance-any _ _ _ _ _ _ c.requires.0.within (malformed-done (sym c.if-malformed.ensures) _ refl)

pub returns-in-Ok-Root : goal.returns-in-Ok-Root
returns-in-Ok-Root c = advance-any _ _ _ _ _ _ c.requires.0.within c.root.ensures.0

pub returns-in-Ok-Letter : goal.returns-in-Ok-Letter
returns-in-Ok-Letter c = advance-any _ _ _ _ _ _ c.requires.0.within c.letter.ensures.0

pub returns-in-Ok-New : goal.returns-in-Ok-New
returns-in-Ok-New c = advance-any _ _ _ _ _ _ c.requires.0.within c.new.ensures.0

pub returns-in-Ok-Send : goal.returns-in-Ok-Send
returns-in-Ok-Send c = advance-any _ _ _ _ _ _ c.requires.0.within c.send.ensures.0

pub returns-in-Ok-Lose : goal.returns-in-Ok-Lose
returns-in-Ok-Lose c = advance-any _ _ _ _ _ _ c.requires.0.within c.lose.ensures.0

pub returns-in-Ok : goal.returns-in-Ok
returns-in-Ok c = advance-any _ _ _ _ _ _ c.requires.0.within c.local.ensures.0

pub returns-in-Err : goal.returns-in-Err
returns-in-Err c = absurd (omega (arith, kind-formed c.args.p (sym c.if-malformed.ensures), c.in-Err.ensures.1))
