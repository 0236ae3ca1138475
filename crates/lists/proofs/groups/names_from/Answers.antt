-- The quotient is not 0 where a bit from n on is set.
use Rattle.std.proofs.Common.{rules}
use borrow.Author.Tests.{le-ltb}
use Rattle.rules.proofs.Bits.{named-from, named-from-none}
use Rattle.lists.proofs.groups.names_from.Goals as goal

pub returns-then-n-lt-TRANSACTORS : goal.returns-then-n-lt-TRANSACTORS
returns-then-n-lt-TRANSACTORS c = named-from _ _ (search rules)

pub returns-else-n-lt-TRANSACTORS : goal.returns-else-n-lt-TRANSACTORS
returns-else-n-lt-TRANSACTORS c = rw (le-ltb _ _ c.if-n-lt-TRANSACTORS.false) (named-from-none _ _ (search rules))
