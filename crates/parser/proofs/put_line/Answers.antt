use Rattle.std.proofs.Common.{arith}
use Rattle.parser.proofs.Loops.{stored-none, stored-kept, stored-put, put-fits, put-room}
use Rattle.parser.proofs.put_line.Goals as goal

pub returns-in_default : goal.returns-in_default
returns-in_default c = stored-none _ _ _ _ c.in_default.is

pub store_step-requires : goal.store_step-requires
store_step-requires c = put-room c.args.write _ _ _ _ c.in-Some.is _ c.if-write.true c.requires

pub returns-then-write : goal.returns-then-write
returns-then-write c = stored-put _ _ _ _ _ c.in-Some.is c.if-write.true _ c.store_step.ensures

pub overflow_add-result : goal.overflow_add-result
overflow_add-result c = omega (arith, put-fits c.args.write c.args.out.now _ _ _ c.in-Some.is _ c.requires.1)

pub overflow_add-result-2 : goal.overflow_add-result-2
overflow_add-result-2 c = omega (arith, put-fits c.args.write c.args.out.now _ _ _ c.in-Some.is _ c.requires.1)

pub returns : goal.returns
returns c = stored-kept _ _ _ _ _ c.in-Some.is c.if-write.false
