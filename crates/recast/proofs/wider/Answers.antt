-- Head, transactors, messages: the whole image.
use Rattle.std.proofs.Common.{true, false, arith, rules}
use Rattle.octets.specs.Bytes.{part}
use Rattle.rules.specs.Layout.{narrow}
use Rattle.recast.specs.Internal.Recast.{widening, widened}
use Rattle.recast.proofs.Stores.{put_as, front-put, transactor-records, message-records, image-done}
use Rattle.recast.proofs.wider.Goals as goal

pub records-requires : goal.records-requires
records-requires c = (widening, omega arith, omega arith, search rules, search rules)

pub records-requires-2 : goal.records-requires-2
records-requires-2 c = (widening, omega arith, omega arith, search rules, search rules)

pub returns : goal.returns
unfolding part widened
returns c =
    let f = front-put narrow 1 2 false true c.args.source.now c.requires.0 _ _ _ c.requires.1 c.write.ensures c.store.ensures in
    let g = put_as _ _ _ _ _ c.records.ensures (transactor-records narrow 1 2 false true c.args.source.now c.requires.0) in
    image-done narrow 1 2 false true _ c.requires.0 _ _ c.requires.1 f _ g _ (put_as _ _ _ _ _ c.records-2.ensures (message-records narrow 1 2 false true c.args.source.now c.requires.0))
