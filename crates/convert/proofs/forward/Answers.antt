-- The tests in their order; the form is that of the widened image.
use Rattle.std.proofs.Common.{◌∙◌, ap, sym}
use Rattle.octets.proofs.Put.{octets-of}
use Rattle.rules.specs.Layout.{base}
use Rattle.rules.specs.Form.{well_formed}
use Rattle.convert.proofs.Answers.{forward-source, forward-target, forward-ill-formed, forward-done}
use Rattle.convert.proofs.forward.Goals as goal

pub returns-then-source-ne-IMAGE : goal.returns-then-source-ne-IMAGE
returns-then-source-ne-IMAGE c = let h = forward-source _ _ c.if-source-ne-IMAGE.true in record { answer = h.0; written = h.1 }

pub returns-then-target-ne-IMAGE : goal.returns-then-target-ne-IMAGE
returns-then-target-ne-IMAGE c = let h = forward-target _ _ c.if-source-ne-IMAGE.false c.if-target-ne-IMAGE.true in record { answer = h.0; written = h.1 }

pub returns-then-not-formed : goal.returns-then-not-formed
returns-then-not-formed c =
    let h = forward-ill-formed _ _ c.if-source-ne-IMAGE.false c.if-target-ne-IMAGE.false (octets-of _ c.type_inv.source) (ap (well_formed base) (sym c.wider.ensures) ∙ sym c.formed.ensures ∙ c.if-not-formed.true) in
    record { answer = h.0; written = h.1 }

pub returns : goal.returns
returns c =
    let h = forward-done _ _ c.if-source-ne-IMAGE.false c.if-target-ne-IMAGE.false (octets-of _ c.type_inv.source) (ap (well_formed base) (sym c.wider.ensures) ∙ sym c.formed.ensures ∙ c.if-not-formed.false)
    _ (c.copy_from_slice.ensures.after ∙ c.wider.ensures) in
    record { answer = h.0; written = h.1 }
