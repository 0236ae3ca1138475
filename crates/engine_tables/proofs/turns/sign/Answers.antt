-- Not ready, or checkpointed.
use Rattle.std.proofs.Common.{rules, refl}
use Rattle.octets.specs.Numbers.{bound}
use Rattle.engine_tables.proofs.Guarding.{group-room}
use Rattle.engine_tables.proofs.Outcomes.{sign-unready, sign-done}
use Rattle.engine_tables.proofs.turns.sign.Goals as goal

pub returns-then-not-ready : goal.returns-then-not-ready
returns-then-not-ready c = let r = c.requires in rw (c.group_answered.ensures, c.number.ensures.number) (sign-unready _ _ _ r.0 r.1 r.2 _ (search rules) _ refl)

pub checkpointed_group-signed-requires : goal.checkpointed_group-signed-requires
unfolding bound
checkpointed_group-signed-requires c = group-room c.args.x c.args.rows c.args.p.message (search rules) (search rules) c.requires.2

pub returns : goal.returns
returns c = let r = c.requires in rw (c.group_answered-2.ensures, c.number-2.ensures.number) (sign-done _ _ _ r.0 r.1 r.2 _ (search rules) _ c.checkpointed_group-signed.ensures _ refl)
