use Rattle.std.proofs.Common.{arith, ap, length}
use Rattle.printer.proofs.Printer.{total-none, total-more, said-count, put-start, line-room, put-line, put_all}
use Rattle.printer.proofs.put_text.Goals as goal

pub loop-i-init : goal.loop-i-init
loop-i-init c = record { at = total-none _; out = put-start _ _ }

pub write-requires : goal.write-requires
write-requires c =
    let h = line-room _ c.args.out.now c.loop-i.i _ c.line_at-l.ensures (omega arith) c.requires.1 _ c.loop-i.invariant.at in
    omega (arith, ap length c.as_bytes.ensures)

pub overflow_add-at : goal.overflow_add-at
overflow_add-at c =
    let s = c.line_at-l.ensures in
    let h = line-room _ c.args.out.now c.loop-i.i _ s (omega arith) c.requires.1 _ c.loop-i.invariant.at in
    omega (arith, said-count _ _ s)

pub loop-i-preserved : goal.loop-i-preserved
loop-i-preserved c =
    let s = c.line_at-l.ensures in
    let w = rw c.as_bytes.ensures at c.write.ensures in
    record {
      at = total-more _ _ _ _ c.loop-i.invariant.at s;
      out = put-line _ c.args.out.now c.loop-i.i _ s (omega arith) c.requires.1 _ _ _ c.loop-i.invariant.at c.loop-i.invariant.out w;
    }

pub returns : goal.returns
returns c = put_all _ _ _ _ c.loop-i.invariant.out (omega arith)
