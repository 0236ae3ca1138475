-- Vacant, or the tests of a taken place in their order.
use borrow.Author.Tests.{le-leb, lt-leb, le-ltb, lt-ltb, eq-eqb, ne_eqb}
use Rattle.rules.specs.Form.{map_formed}
use Rattle.form.specs.Internal.Tests.{formed_message_at}
use Rattle.form.proofs.Front.message_formed.Goals as goal

pub returns-then-self-k : goal.returns-then-self-k
unfolding formed_message_at
returns-then-self-k c = rw (← c.args.self.now.waits, le-leb _ _ c.if-self-k.true) c.all_zero.ensures

pub returns-then-head-ne8 : goal.returns-then-head-ne8
unfolding formed_message_at
returns-then-head-ne8 c = rw (← c.args.self.now.waits, lt-leb _ _ c.if-self-k.false, ne_eqb _ 8 c.if-head-ne8.true)

pub returns-then-self-to : goal.returns-then-self-to
unfolding formed_message_at
returns-then-self-to c = rw (← c.args.self.now.waits, ← c.args.self.now.headed.many, lt-leb _ _ c.if-self-k.false, eq-eqb _ 8 c.if-head-ne8.false, le-ltb _ _ c.if-self-to.true)

pub returns-then-self-number : goal.returns-then-self-number
unfolding formed_message_at
returns-then-self-number c =
    rw (← c.args.self.now.waits, ← c.args.self.now.headed.many, ← c.args.self.now.numbered, lt-leb _ _ c.if-self-k.false, eq-eqb _ 8 c.if-head-ne8.false, lt-ltb _ _ c.if-self-to.false, ← c.load16-number.ensures, le-ltb _ _ c.if-self-number.true)

pub returns-then-number-least : goal.returns-then-number-least
unfolding formed_message_at
returns-then-number-least c =
    rw (← c.args.self.now.waits, ← c.args.self.now.headed.many, ← c.args.self.now.numbered, lt-leb _ _ c.if-self-k.false, eq-eqb _ 8 c.if-head-ne8.false, lt-ltb _ _ c.if-self-to.false, ← c.load16-number.ensures, lt-ltb _ _ c.if-self-number.false, ← c.least.ensures, lt-leb _ _ c.if-number-least.true)

pub returns : goal.returns
unfolding formed_message_at map_formed
returns c =
    rw (← c.args.self.now.waits, ← c.args.self.now.headed.many, ← c.args.self.now.numbered, ← c.args.self.now.headed.most, lt-leb _ _ c.if-self-k.false, eq-eqb _ 8 c.if-head-ne8.false, lt-ltb _ _ c.if-self-to.false, ← c.load16-number.ensures, lt-ltb _ _ c.if-self-number.false, ← c.least.ensures, le-leb _ _ c.if-number-least.false) c.formed.ensures
