-- Nothing, or the bytes from the second on.
use Rattle.std.proofs.Common.{◌≡◌, length, arith, rules}
use Rattle.lines.specs.Lines.{line_room, written}
use Rattle.lines.proofs.Lining.{rest-none, rest_some}
use Rattle.lines.proofs.Line.rest.Goals as goal

pub returns-then-n-eq0 : goal.returns-then-n-eq0
returns-then-n-eq0 c = rest-none _ _ (search rules) (search rules)

pub slice_bounds-word-end : goal.slice_bounds-word-end
slice_bounds-word-end c = let h : length c.args.other.bytes ≡ line_room = search rules in omega arith

pub returns : goal.returns
unfolding written
returns c =
    let h : length c.args.other.bytes ≡ line_room = search rules in
    rest_some _ _ c.args.other.bytes c.args.other.len c.word.ensures (omega arith) (omega arith)
