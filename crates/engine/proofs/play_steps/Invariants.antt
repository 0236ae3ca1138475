-- After i turns the register, the rows and the slots are the tables after i steps, and the first i replies are put.
use Rattle.std.proofs.Common.{◌≡◌, length}
use Rattle.rules.specs.Layout.{limits_of}
use Rattle.engine.proofs.Playing.{Playing}
use Rattle.engine.proofs.play_steps.Given as goal

abbrev pub invariant-loop-i : goal.invariant-loop-i
invariant-loop-i l = record {
  playing : Playing (limits_of l.transactors l.messages l.checkpoints) l.list l.fn.replies l.i l.x l.rows l.slots l.replies;
  long : length l.replies ≡ length l.fn.replies;
}
