-- Another length, or the first clause that fails.
use Rattle.std.proofs.Common.{rules}
use Rattle.defects.proofs.Finding.{defect-16, defect-right}
use Rattle.defects.proofs.first_defect.Goals as goal

pub returns-then-image-ne-IMAGE : goal.returns-then-image-ne-IMAGE
returns-then-image-ne-IMAGE c = defect-16 _ (search rules)

pub returns : goal.returns
returns c = defect-right _ (search rules) _ c.defect_of.ensures
