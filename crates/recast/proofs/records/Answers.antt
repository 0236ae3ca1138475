-- One record more: its front, then its histories.
use Rattle.std.proofs.Common.{ℕ, arith, length-take}
use Rattle.octets.specs.Bytes.{part}
use Rattle.octets.proofs.Chunks.{step, put-none}
use Rattle.recast.specs.Internal.Recast.{record_size}
use Rattle.recast.proofs.Turns.{few_bytes}
use Rattle.recast.proofs.Stores.{put-end, record-more}
use Rattle.recast.proofs.records.Goals as goal

pub loop-k-init : goal.loop-k-init
loop-k-init g c = put-none _ _ _

pub slice_bounds-write-end : goal.slice_bounds-write-end
slice_bounds-write-end g c =
    let turn = step (record_size g.row.V 15 c.args.front c.args.many) c.loop-k.k c.args.n c.loop-k-test.true in
    let few = few_bytes c.requires.0 c.args.many c.requires.2 in
    omega (arith, turn, few.0)

pub write-requires : goal.write-requires
write-requires g c =
    let turn = step (record_size g.row.W 15 c.args.front c.args.many) c.loop-k.k c.args.n c.loop-k-test.true in
    omega (arith, turn, length-take {A = ℕ})

pub overflow_add-here-in-loop-k : goal.overflow_add-here-in-loop-k
overflow_add-here-in-loop-k g c =
    let turn = step (record_size g.row.W 15 c.args.front c.args.many) c.loop-k.k c.args.n c.loop-k-test.true in
    let few = few_bytes c.requires.0 c.args.many c.requires.2 in
    omega (arith, turn, few.1)

pub histories-requires : goal.histories-requires
histories-requires g c =
    let turn = step (record_size g.row.V 15 c.args.front c.args.many) c.loop-k.k c.args.n c.loop-k-test.true in
    let turn' = step (record_size g.row.W 15 c.args.front c.args.many) c.loop-k.k c.args.n c.loop-k-test.true in
    (c.requires.0, omega (arith, turn), omega (arith, turn'))

pub loop-k-preserved : goal.loop-k-preserved
unfolding part
loop-k-preserved g c =
    record-more _ _ 15 _ _ _ _ _ c.requires.3 _ _ c.loop-k-test.true _ _ _ c.requires.4 c.loop-k.invariant c.write.ensures _ c.histories.ensures

pub returns : goal.returns
returns g c = put-end _ _ _ _ _ _ c.loop-k.invariant (omega arith)
