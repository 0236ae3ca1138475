-- The tests in their order, and then the image is narrowed.
use Rattle.std.proofs.Common.{◌≡◌, ◌∙◌, true, false, sym}
use borrow.Author.Tests.{not-true, not-false}
use Rattle.octets.proofs.Put.{octets-of}
use Rattle.convert.specs.Convert.{too_wide}
use Rattle.convert.proofs.Answers.{back-source, back_target, back-ill-formed, back-too-wide, back_done}
use Rattle.convert.proofs.back.Goals as goal

pub returns-then-source-ne-IMAGE : goal.returns-then-source-ne-IMAGE
returns-then-source-ne-IMAGE c = let h = back-source _ _ c.if-source-ne-IMAGE.true in record { answer = h.0; written = h.1 }

pub returns-then-target-ne-IMAGE : goal.returns-then-target-ne-IMAGE
returns-then-target-ne-IMAGE c = let h = back_target _ _ c.if-source-ne-IMAGE.false c.if-target-ne-IMAGE.true in record { answer = h.0; written = h.1 }

pub returns-then-not-formed : goal.returns-then-not-formed
returns-then-not-formed c =
    let h = back-ill-formed _ _ c.if-source-ne-IMAGE.false c.if-target-ne-IMAGE.false (sym c.formed.ensures ∙ c.if-not-formed.true) in record { answer = h.0; written = h.1 }

pub returns-then-not-image : goal.returns-then-not-image
returns-then-not-image c =
    let wide : too_wide c.args.source.now ≡ true = not-false _ (sym c.image.ensures ∙ c.if-not-image.true) in
    let h = back-too-wide _ _ c.if-source-ne-IMAGE.false c.if-target-ne-IMAGE.false (sym c.formed.ensures ∙ c.if-not-formed.false) wide in record { answer = h.0; written = h.1 }

pub returns : goal.returns
returns c =
    let low : too_wide c.args.source.now ≡ false = not-true _ (sym c.image.ensures ∙ c.if-not-image.false) in
    let h = back_done _ _ c.if-source-ne-IMAGE.false c.if-target-ne-IMAGE.false (sym c.formed.ensures ∙ c.if-not-formed.false) (octets-of _ c.type_inv.source) low _ c.narrower.ensures in
    record { answer = h.0; written = h.1 }
