-- Each return is a case of the rule.
use mathlib.Core.Path.{refl, sym, ◌∙◌}
use native.Mathlib.Omega.{arith}
use borrow.Author.Rules.{rules}
use Rattle.rules.specs.Layout.{base}
use Rattle.rules.specs.Pack.{unpack_transactor}
use Rattle.rules.proofs.Pack.Sizes.{largest-base}
use Rattle.transactor.proofs.Bytes.{own-bounded, acted, acted-alone, rollback-uncheckpointed, rollback-last, rollback-next}
use Rattle.transactor.proofs.rollback.Goals as goal

pub returns-then-h-eq0 : goal.returns-then-h-eq0
returns-then-h-eq0 c =
    acted-alone (rollback-uncheckpointed base _ _ c.own-h.ensures c.if-h-eq0.true) c.outcome_of.ensures refl refl c.strip.ensures

pub returns-then-h : goal.returns-then-h
returns-then-h c =
    acted
    (rollback-last base _ _ c.own-h.ensures c.if-h-eq0.false (c.if-h.true ∙ sym largest-base)) (refl, refl)
    (sym c.requires.0.back)

pub renew-requires : goal.renew-requires
renew-requires c = (search rules, search rules, rw c.rollback.ensures (own-bounded _ _ c.own-h.ensures))

pub returns : goal.returns
unfolding unpack_transactor
returns c =
    acted-alone
    (rollback-next base _ _ c.own-h.ensures c.if-h-eq0.false (omega (arith, largest-base)) c.rollback.ensures c.load32-saved.ensures)
    c.outcome_of-2.ensures refl refl c.renew.ensures
