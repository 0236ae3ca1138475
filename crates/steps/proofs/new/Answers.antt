-- Refused as a busy transactor is, all opened, or the opener adopts the next one, which is opened with what it carries.
use Rattle.std.proofs.Common.{refl, sym, rules}
use Rattle.std.proofs.lemmas.Result.{err_from_is_err_and}
use Rattle.steps.proofs.Refused.{not_none, told}
use Rattle.transactor.proofs.Lent.{good-lent, length_back, bounded-carried}
use Rattle.steps.proofs.Images.{new-idle, new-full, new-done}
use Rattle.steps.proofs.new.Goals as goal

pub returns-in_err-check_busy : goal.returns-in_err-check_busy
returns-in_err-check_busy c =
    let p = err_from_is_err_and c.from_residual.result c.from_residual.ensures.1 in
    let r = c.in_err-check_busy.field-0.0 in
    rw (p.1, p.2) (new-idle _ _ c.requires _ (not_none r c.in_err-check_busy.ensures) (told r c.in_err-check_busy.ensures))

pub returns-then-transactors-child : goal.returns-then-transactors-child
returns-then-transactors-child c = new-full _ _ c.requires (sym c.in_ok-check_busy.ensures) _ (search rules) refl

pub carry-creation-requires : goal.carry-creation-requires
carry-creation-requires c = (good-lent _ c.requires.good _ c.requires.step.transactor, search rules)

pub adopt-requires : goal.adopt-requires
adopt-requires c = (good-lent _ c.requires.good _ c.requires.step.transactor, search rules)

pub open-requires : goal.open-requires
open-requires c = (length_back _ c.requires.good _ c.requires.step.transactor _ _ c.adopt.ensures, search rules, rw c.carry-creation.ensures (bounded-carried _ _))

pub returns : goal.returns
returns c =
    rw c.done.ensures
    (new-done _ _ c.requires (sym c.in_ok-check_busy.ensures) _ _ _ _ (search rules) (search rules) c.adopt.ensures c.carry-creation.ensures c.«open».ensures)
