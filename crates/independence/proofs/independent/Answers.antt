-- Refused; or each way one after the other.
use Rattle.std.proofs.Common.{refl, ◌∙◌, sym, arith}
use Rattle.std.proofs.lemmas.Result.{err_from_is_err_and}
use Rattle.octets.proofs.Put.{octets-of}
use Rattle.rules.proofs.Refused.{refused}
use Rattle.independence.proofs.Meeting.{answer-refused, fine, fine-first, fine-second, answer-first, answer-second}
use Rattle.independence.proofs.independent.Goals as goal

pub returns-in_err-formed : goal.returns-in_err-formed
returns-in_err-formed c =
    let p = err_from_is_err_and c.from_residual.result c.from_residual.ensures.1 in
    rw (p.1, p.2) (answer-refused _ _ _ _ c.in_err-formed.ensures.refused (refused c.in_err-formed.field-0.0))

pub decode-p-requires : goal.decode-p-requires
decode-p-requires c = omega (arith, (fine _ _ _ _ c.in_ok-formed.ensures.refused refl).one)

pub decode-q-requires : goal.decode-q-requires
decode-q-requires c = omega (arith, (fine _ _ _ _ c.in_ok-formed.ensures.refused refl).other)

pub meets-requires : goal.meets-requires
meets-requires c =
    let image = octets-of _ c.type_inv.image in
    (refl, fine-first _ _ _ _ c.in_ok-formed.ensures.refused refl image (octets-of _ c.type_inv.first) (octets-of _ c.type_inv.second) _ _ c.decode-p.ensures c.decode-q.ensures)

pub returns-then-meets : goal.returns-then-meets
returns-then-meets c =
    answer-first _ _ _ _ c.in_ok-formed.ensures.refused refl (octets-of _ c.type_inv.image) (octets-of _ c.type_inv.first) (octets-of _ c.type_inv.second)
    _ _ c.decode-p.ensures c.decode-q.ensures (sym c.if-meets.true ∙ rw c.in_ok-formed.ensures.lent at c.meets.ensures.0)

pub meets-requires-2 : goal.meets-requires-2
meets-requires-2 c =
    let image = octets-of _ c.type_inv.image in
    let first = octets-of _ c.type_inv.first in
    let second = octets-of _ c.type_inv.second in
    let q = fine-second _ _ _ _ c.in_ok-formed.ensures.refused refl image first second _ _ c.decode-p.ensures c.decode-q.ensures in
    (c.meets.ensures.1, q)

pub returns : goal.returns
returns c =
    answer-second _ _ _ _ c.in_ok-formed.ensures.refused refl (octets-of _ c.type_inv.image) (octets-of _ c.type_inv.first) (octets-of _ c.type_inv.second)
    _ _ c.decode-p.ensures c.decode-q.ensures (sym c.if-meets.false ∙ rw c.in_ok-formed.ensures.lent at c.meets.ensures.0) _ (rw c.in_ok-formed.ensures.lent at c.meets-2.ensures.0)
