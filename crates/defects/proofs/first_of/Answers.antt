-- The first part that answers with a defect, or no part does.
use Rattle.std.proofs.Common.{sym, arith}
use Rattle.std.specs.Prelude.{None}
use Rattle.defects.proofs.Finding.{none-from, some-from}
use Rattle.defects.proofs.first_of.Goals as goal

pub returns-in-Some : goal.returns-in-Some
returns-in-Some g c = λ f says.
    sym (some-from f 0 c.args.n c.loop-k.k c.in-Some.d (omega arith) (omega arith) (sym (says _ _ (omega arith) c.in-Some.ensures)) (λ i a b. sym (says i None (omega arith) (c.loop-k.invariant i b))))

pub returns : goal.returns
returns g c = λ f says. sym (none-from f 0 c.args.n (λ k a b. sym (says k None (omega arith) (c.loop-k.invariant k (omega arith)))))
