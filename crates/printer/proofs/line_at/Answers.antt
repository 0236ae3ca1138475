use Rattle.std.proofs.Common.{rules}
use Rattle.octets.proofs.Put.{octets-of}
use Rattle.lines.proofs.Lining.{written-empty}
use Rattle.printer.proofs.Printer.{row_below, bytes_of, line-says}
use Rattle.printer.proofs.line_at.Goals as goal

pub name_of-requires : goal.name_of-requires
name_of-requires c = row_below _ _ c.row_of-row.ensures

pub items-requires : goal.items-requires
items-requires c = (row_below _ _ c.row_of-row.ensures, bytes_of _ _ _ (octets-of _ c.type_inv.list) c.requires c.decode-p.ensures)

pub returns : goal.returns
returns c =
    let n = rw c.name_of.ensures at c.word-l.ensures in
    line-says _ _ (octets-of _ c.type_inv.list) c.requires _ c.decode-p.ensures _ c.row_of-row.ensures _ _ _ _
    (written-empty _) n c.items.ensures c.byte.ensures (search rules)
