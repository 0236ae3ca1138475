-- Empty, or the entries without the first comma.
use mathlib.Core.Path.{◌∙◌, ap, sym}
use Rattle.lines.specs.Lines.{plus}
use lib.ListN.{drop}
use Rattle.inspection.proofs.Inspecting.{list-empty, list-some}
use borrow.Author.Rules.{rules}
use Rattle.inspection.proofs.list.Goals as goal

pub returns-then-h-eq0 : goal.returns-then-h-eq0
returns-then-h-eq0 c = c.word.ensures ∙ ap (plus _) (sym (list-empty c.args.h (search rules)))

pub returns : goal.returns
returns c = c.rest.ensures ∙ ap (plus _) (ap (drop 1) c.entries.ensures.0 ∙ sym (list-some c.args.h (search rules)))
