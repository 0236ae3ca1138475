-- Each return is a case of the rule.
use Rattle.std.proofs.Common.{arith, refl, sym, ap}
use Rattle.std.proofs.lemmas.Result.{err_from_is_err_and}
use Rattle.rules.specs.Layout.{base}
use Rattle.rules.specs.Numbers.{kind_number}
use Rattle.rules.specs.Rules.{finish_by, local_by}
use Rattle.rules.specs.Pack.{unpack_transactor}
use Rattle.transactor.proofs.Bytes.{acts-as, acted, acted-alone, act-refused, act-early, act-late, late}
use Rattle.transactor.proofs.act.Goals as goal

pub returns-in_err-local : goal.returns-in_err-local
unfolding unpack_transactor
returns-in_err-local c =
    let p = err_from_is_err_and c.from_residual.result c.from_residual.ensures.1 in
    rw (p.1, p.2) (acted (act-refused base _ _ _ _ c.in_err-local.field-0.0 (rw c.number.ensures at c.in_err-local.ensures)) (refl, refl) (sym c.requires.0.back))

pub returns-in-Read : goal.returns-in-Read
unfolding unpack_transactor local_by
returns-in-Read c = acts-as (act-early base _ _ _ _ (rw c.number.ensures at c.in_ok-local.ensures) (ap kind_number c.in-Read.is) (omega arith) refl) c.read.ensures

pub returns-in-Write : goal.returns-in-Write
unfolding unpack_transactor local_by
returns-in-Write c = acts-as (act-early base _ _ _ _ (rw c.number.ensures at c.in_ok-local.ensures) (ap kind_number c.in-Write.is) (omega arith) refl) c.write.ensures

pub returns-in-Freeze : goal.returns-in-Freeze
unfolding unpack_transactor local_by
returns-in-Freeze c = acts-as (act-early base _ _ _ _ (rw c.number.ensures at c.in_ok-local.ensures) (ap kind_number c.in-Freeze.is) (omega arith) refl) c.freeze.ensures

pub returns-in-Finish : goal.returns-in-Finish
unfolding unpack_transactor local_by finish_by
returns-in-Finish c =
    acted-alone (act-early base _ _ _ _ (rw c.number.ensures at c.in_ok-local.ensures) (ap kind_number c.in-Finish.is) (omega arith) refl) c.outcome_of.ensures refl refl c.become_idle.ensures

pub returns-in_default : goal.returns-in_default
unfolding unpack_transactor
returns-in_default c =
    let d = c.in_default in
    acts-as
    (act-late base _ _ _ _ (rw c.number.ensures at c.in_ok-local.ensures) (late c.args.kind c.requires.2 c.requires.3 d.not-Read d.not-Write d.not-Freeze d.not-Finish))
    c.rollback_unless_stable.ensures
