-- Refused, both numbers are 0; else the windows are as long as the width, or as the list.
use Rattle.std.proofs.Common.{◌≡◌, ◌≤◌, ◌/◌, rules, arith, length}
use Rattle.std.proofs.lemmas.Result.{err_from_is_err_and}
use Rattle.window.specs.Window.{window_length}
use Rattle.window.proofs.Windows.{worst-refused, accepted-short, worst-windows}
use Rattle.window.proofs.worst_window.Goals as goal

pub returns-in_err-check : goal.returns-in_err-check
returns-in_err-check c =
    let k = err_from_is_err_and c.from_residual.result c.from_residual.ensures.1 in
    rw (k.1, k.2) (record { refused = c.in_err-check.ensures; worst = worst-refused _ _ _ c.in_err-check.ensures })

pub slide-requires : goal.slide-requires
slide-requires c = let h : c.min.result ≤ length c.args.replies.now / 8 = search rules in (omega arith, accepted-short _ _ c.in_ok-check.ensures)

pub returns : goal.returns
unfolding window_length
returns c =
    let h : c.min.result ≡ window_length c.args.width (length c.args.replies.now / 8) = search rules in
    record { refused = c.in_ok-check.ensures; worst = worst-windows _ _ c.in_ok-check.ensures _ h _ c.slide.ensures }
