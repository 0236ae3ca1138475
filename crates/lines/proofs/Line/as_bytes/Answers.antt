use Rattle.std.proofs.Common.{rules, ◌≡◌, length}
use Rattle.lines.specs.Lines.{line_room}
use Rattle.lines.proofs.Lining.{written-cut}
use Rattle.lines.proofs.Line.as_bytes.Goals as goal

pub returns : goal.returns
returns c =
    let s : length c.args.self.now.bytes ≡ line_room = search rules in
    written-cut c.args.self.now s _ c.min.ensures
