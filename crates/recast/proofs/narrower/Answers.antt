-- Head, transactors, messages: the whole image.
use Rattle.std.proofs.Common.{true, false, sym, arith, rules}
use Rattle.octets.specs.Bytes.{part}
use Rattle.rules.specs.Layout.{narrow}
use Rattle.recast.specs.Internal.Recast.{narrowing}
use Rattle.recast.proofs.Stores.{put_as, front-plain, transactor-records, message-records, image-done}
use Rattle.recast.proofs.narrower.Goals as goal

pub records-requires : goal.records-requires
records-requires c = (narrowing, omega arith, omega arith, search rules, search rules)

pub records-requires-2 : goal.records-requires-2
records-requires-2 c = (narrowing, omega arith, omega arith, search rules, search rules)

pub returns : goal.returns
unfolding part
returns c =
    let f = put_as _ _ _ _ _ c.write.ensures (sym (front-plain narrow 1 c.args.source.now)) in
    let g = put_as _ _ _ _ _ c.records.ensures (transactor-records narrow 2 1 true false c.args.source.now c.requires.0) in
    image-done narrow 2 1 true false _ c.requires.0 _ _ c.requires.1 f _ g _ (put_as _ _ _ _ _ c.records-2.ensures (message-records narrow 2 1 true false c.args.source.now c.requires.0))
