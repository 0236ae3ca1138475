-- A step more, and its reply.
use Rattle.std.proofs.Common.{arith}
use Rattle.octets.proofs.Put.{octets-of}
use Rattle.octets.proofs.Chunks.{put-none}
use Rattle.ledger.proofs.Running.{run_none, run-all, replies-all, run-good, step_fits, run_more, replies-more}
use Rattle.ledger.proofs.run_steps.Goals as goal

pub loop-i-init : goal.loop-i-init
loop-i-init c = record { state = run_none _ _ c.requires.0; told = put-none _ _ _; counted = record { is = c.waiting-waiting.ensures.0; few = c.waiting-waiting.ensures.1 } }

pub step-r-requires : goal.step-r-requires
step-r-requires c =
    let l = c.loop-i.invariant in
    let o = octets-of _ c.type_inv.list in
    (run-good _ _ c.requires.0 o c.loop-i.i _ l.state, step_fits _ c.loop-i.i _ o c.decode-p.ensures, l.counted)

pub loop-i-preserved : goal.loop-i-preserved
loop-i-preserved c =
    let l = c.loop-i.invariant in
    let o = octets-of _ c.type_inv.list in
    record {
      state = run_more _ _ c.requires.0 o c.loop-i.i _ l.state _ _ _ c.decode-p.ensures c.step-r.ensures.0;
      told = replies-more _ _ c.requires.0 o c.loop-i.i _ l.state _ _ _ c.decode-p.ensures c.step-r.ensures.0 _ _ _ l.told c.encode.ensures (omega arith);
      counted = c.step-r.ensures.1;
    }

pub returns : goal.returns
returns c =
    let l = c.loop-i.invariant in
    (run-all _ _ c.requires.0 c.loop-i.i _ l.state (omega (arith, c.loop-i.auto.i-end)), replies-all _ _ c.requires.0 c.loop-i.i _ _ l.told (omega (arith, c.loop-i.auto.i-end)) c.requires.1 c.requires.2)
