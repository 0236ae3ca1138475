use Rattle.std.proofs.Common.{rules, ap, sym, length, ◌≡◌, ◌∙◌}
use Rattle.octets.proofs.Zero.{length-zeros}
use Rattle.plans.proofs.Writing.{planned-none, planned-some, sign-none}
use Rattle.plans.proofs.store_plan.Goals as goal

pub returns-then-not-letters_fit : goal.returns-then-not-letters_fit
returns-then-not-letters_fit c = planned-none _ _ (sign-none _ _ (sym c.letters_fit.ensures ∙ c.if-not-letters_fit.true)) c.requires

pub store_tasks-at-requires : goal.store_tasks-at-requires
store_tasks-at-requires c = ap length c.requires ∙ length-zeros 392

pub store-requires : goal.store-requires
store-requires c = let e : length c.args.out.now ≡ 392 = ap length c.requires ∙ length-zeros 392 in search (rules, e, c.store_tasks-at.ensures.1)

pub returns : goal.returns
returns c = planned-some _ _ (sym c.letters_fit.ensures ∙ c.if-not-letters_fit.false) _ _ _ _ c.requires c.store_tasks-at.ensures.0 c.store_tasks-at.ensures.1 c.store.ensures
