-- Text and saved text.
use Rattle.inspection.proofs.Inspecting.{value_loaded, saved-loaded, values-said}
use borrow.Author.Rules.{rules}
use Rattle.inspection.proofs.put_values.Goals as goal

pub returns : goal.returns
returns c = values-said _ _ _ _ _ _ _ (value_loaded _ c.args.t _ (search rules) c.load32-value.ensures) c.number.ensures (saved-loaded _ c.args.t _ (search rules) c.load32-saved.ensures) c.put.ensures c.byte.ensures
