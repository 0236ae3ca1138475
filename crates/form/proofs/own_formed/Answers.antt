-- Absent; present and signed; present and never signed.
use Rattle.std.proofs.Common.{sym, ◌∙◌}
use borrow.Author.Tests.{eq-eqb, ne_eqb}
use Rattle.form.specs.Internal.Tests.{formed_own_at}
use Rattle.form.proofs.own_formed.Goals as goal

pub returns-then-not-present : goal.returns-then-not-present
unfolding formed_own_at
returns-then-not-present c = rw (← c.own_at-there.ensures, sym c.present.ensures ∙ c.if-not-present.true)

pub returns-then-own-ne0 : goal.returns-then-own-ne0
unfolding formed_own_at
returns-then-own-ne0 c = rw (← c.own_at-there.ensures, sym c.present.ensures ∙ c.if-not-present.false, sym c.load-own.ensures, ne_eqb _ 0 c.if-own-ne0.true)

pub returns : goal.returns
unfolding formed_own_at
returns c = rw (← c.own_at-there.ensures, sym c.present.ensures ∙ c.if-not-present.false, sym c.load-own.ensures, eq-eqb _ 0 c.if-own-ne0.false, sym c.load32.ensures)
