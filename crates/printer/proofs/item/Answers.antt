use Rattle.printer.proofs.Printer.{item-field, item-words}
use Rattle.printer.proofs.item.Goals as goal

pub returns-in-Number : goal.returns-in-Number
returns-in-Number c = rw (c.in-Number.is, item-field c.args.p c.in-Number.f) (rw c.field.ensures at c.number.ensures)

pub returns-in-Members : goal.returns-in-Members
returns-in-Members c = rw (c.in-Members.is, (item-words c.args.p).0) c.group.ensures

pub returns-in-To : goal.returns-in-To
returns-in-To c = rw (c.in-To.is, (item-words c.args.p).1) c.word.ensures

pub returns-in-Text : goal.returns-in-Text
returns-in-Text c = rw (c.in-Text.is, (item-words c.args.p).2) c.word-in-Text.ensures

pub returns-in-Digits : goal.returns-in-Digits
returns-in-Digits c = rw (c.in-Digits.is, (item-words c.args.p).3) (rw c.requires at c.hex.ensures)
