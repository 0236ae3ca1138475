-- The part of the image that is the transactor's own is packed anew, and the rest is as it was.
use Rattle.std.proofs.Common.{◌∙◌, arith, rules}
use Rattle.group.proofs.Checkpointing.{checkpointed-none, checkpointed-all, checkpointed-unnamed, checkpointed-named, checkpointed-good, checkpointed-room}
use Rattle.group.proofs.checkpoint.Goals as goal
use Rattle.group.proofs.checkpoint.Goals.{then-is_named, else-is_named}

pub loop-t-init : goal.loop-t-init
loop-t-init c = checkpointed-none _ (search rules) _

pub checkpoint-requires : goal.checkpoint-requires
checkpoint-requires c =
    let i = c.loop-t.invariant in
    (checkpointed-good _ (search rules) _ _ _ i (search rules), search rules, checkpointed-room _ (search rules) _ _ _ i (search rules) _ c.is_named.ensures c.if-is_named.true (search rules))

pub loop-t-preserved : goal.loop-t-preserved
loop-t-preserved c =
    let i = c.loop-t.invariant in
    let n = c.is_named.ensures in
    elim c.if-is_named.branch [
      | then-is_named w ↦ w.image-is ∙ checkpointed-named _ (search rules) _ _ _ i (omega arith) _ n w.if-is_named.true _ w.checkpoint.ensures
      | else-is_named w ↦ w.image-is ∙ checkpointed-unnamed _ (search rules) _ _ _ i _ n w.if-is_named.false
    ]

pub returns : goal.returns
returns c = checkpointed-all _ (search rules) _ _ _ c.loop-t.invariant (omega arith)
