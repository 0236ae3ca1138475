use Rattle.std.proofs.Common.{arith, sym}
use Rattle.std.proofs.lemmas.Result.{err_from_is_err_and}
use Rattle.printer.proofs.Printer.{print-wrong, print-full, print-done, answered-right}
use Rattle.printer.proofs.print.Goals as goal

pub returns-in_err-n : goal.returns-in_err-n
returns-in_err-n c =
    let l = print-wrong _ c.args.out.now _ (sym c.in_err-n.ensures) in
    let p = err_from_is_err_and c.from_residual.result c.from_residual.ensures.1 in rw (p.1, p.2) (record { answer = l.0; left = l.1 })

pub returns-then-out-n : goal.returns-then-out-n
returns-then-out-n c = let l = print-full _ c.args.out.now _ (sym c.in_ok-n.ensures) c.if-out-n.true in record { answer = l.0; left = l.1 }

pub put_text-requires : goal.put_text-requires
put_text-requires c = let h = answered-right _ _ (sym c.in_ok-n.ensures) in (h.0, omega (arith, h.1, c.if-out-n.false))

pub returns : goal.returns
returns c = let l = print-done _ c.args.out.now _ (sym c.in_ok-n.ensures) _ c.if-out-n.false c.put_text.ensures in record { answer = l.0; left = l.1 }
