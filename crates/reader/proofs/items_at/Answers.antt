use Rattle.std.proofs.Common.{arith, refl, ◌∙◌}
use Rattle.std.proofs.lemmas.Result.{err_from_is_err_and}
use Rattle.notation.proofs.Within.{item-within}
use Rattle.reader.proofs.Picks.{items-turn, items-off, items-end, stands}
use Rattle.reader.proofs.items_at.Goals as goal

pub loop-wanted-init : goal.loop-wanted-init
loop-wanted-init c = record { within = c.requires.0; rest = refl }

pub item_at-requires : goal.item_at-requires
item_at-requires c = c.loop-wanted.invariant.within

pub returns-in_err-r : goal.returns-in_err-r
returns-in_err-r c =
    let t = c.loop-wanted.invariant.rest in
    let u = rw c.template_of-wanted-items.ensures at t in
    let l = items-off _ _ c.loop-wanted.wanted-index _ _ c.loop-wanted-test.true _ _ refl _ u _ c.in_err-r.ensures in
    let p = err_from_is_err_and c.from_residual.result c.from_residual.ensures.1 in rw (p.1, p.2) l

pub loop-wanted-preserved : goal.loop-wanted-preserved
loop-wanted-preserved c = record {
  within = stands _ c.in_ok-r.r _ c.in_ok-r.ensures (item-within _ _ _ c.loop-wanted.invariant.within);
  rest = c.loop-wanted.invariant.rest ∙ items-turn _ _ c.loop-wanted.wanted-index _ _ c.loop-wanted-test.true _ _ refl c.in_ok-r.r c.in_ok-r.ensures;
}

pub returns : goal.returns
returns c = rw (← c.template_of-wanted-items.ensures) (c.loop-wanted.invariant.rest ∙ items-end _ _ c.loop-wanted.wanted-index _ (omega arith))
