-- Heard and taken in, or a fall, one of the take's bytes.
use mathlib.Core.Path.{refl}
use Rattle.rules.specs.Layout.{base}
use Rattle.transactor.specs.Internal.Effects.{rollback_or28}
use Rattle.transactor.proofs.Lent.{good-lent}
use Rattle.transactor.proofs.Hearing.{heard-good, heard-waits, heard-taken}
use Rattle.transactor.proofs.Accepting.{settles-rollback, settles-done, acted-alone-at, lent_at}
use Rattle.transactor.proofs.receipt.settle.Goals as goal

pub take_in-requires : goal.take_in-requires
take_in-requires c =
    (heard-good _ c.requires.0 _ c.requires.1 _ c.requires.2 _ c.hear.ensures, c.requires.1, heard-waits _ c.requires.0 _ c.requires.1 _ c.requires.2 _ c.hear.ensures)

pub returns-in_default : goal.returns-in_default
returns-in_default c =
    acted-alone-at _ _ (settles-done base _ _ _ _ c.in_default.is) c.outcome_of.ensures refl refl
    (heard-taken _ c.requires.0 _ c.requires.1 _ c.requires.2 _ c.hear.ensures _ c.take_in.ensures)

pub rollback-requires : goal.rollback-requires
rollback-requires c =
    (good-lent _ c.requires.0 _ c.requires.1, c.requires.1)

pub returns : goal.returns
returns c =
    lent_at _ c.requires.0 _ c.requires.1 (rollback_or28 base _) (settles-rollback base _ _ _ _ c.in-Some.is) c.rollback.ensures
