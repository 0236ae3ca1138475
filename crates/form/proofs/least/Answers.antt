-- Of place k - 1, unless k is the first.
use Rattle.std.proofs.Common.{◌-◌, arith, rules}
use Rattle.rules.specs.Layout.{base}
use Rattle.form.specs.Internal.Tests.{least_at}
use Rattle.form.proofs.FormTest.{least-after}
use Rattle.form.proofs.least.Goals as goal

pub returns-then-k-eq0 : goal.returns-then-k-eq0
unfolding least_at
returns-then-k-eq0 c = search rules

pub returns : goal.returns
returns c = rw (least-after base _ c.args.k (c.args.k - 1) (omega arith), c.load16.ensures)
