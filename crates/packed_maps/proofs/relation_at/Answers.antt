-- Both are held, or one is not.
use Rattle.std.proofs.Common.{rules, arith, sym, ◌∙◌, ap}
use Rattle.octets.specs.Bytes.{part}
use Rattle.marks.specs.declared.History.{History}
use Rattle.marks.specs.History.{incarnation_of}
use Rattle.marks.specs.Relation.{relation_of}
use Rattle.marks.specs.Packed.{width, places, history_size}
use Rattle.marks.proofs.Packed.{unpack-count}
use Rattle.marks.proofs.Related.{same_answer}
use Rattle.maps.proofs.Compared.{absent-left, absent-right, both-held}
use Rattle.packed_maps.proofs.relation_at.Goals as goal
use Rattle.packed_maps.proofs.relation_at.Goals.{then-not-present-via-then-not-present, then-not-present-via-else-not-present+then-not-p}

pub returns-then-not-present : goal.returns-then-not-present
returns-then-not-present c =
    elim c.then-not-present.branch [
      | then-not-present-via-then-not-present w ↦ sym (absent-left _ _ _ _ (sym c.present.ensures ∙ w.if-not-present.true))
      | then-not-present-via-else-not-present+then-not-p w ↦ sym (absent-right _ _ _ _ (sym c.present.ensures ∙ w.if-not-present.false) w.if-not-p.true)
    ]

pub compare-requires : goal.compare-requires
compare-requires c =
    (omega (arith, ap (λ (h : History). h.count) c.load-y.ensures, unpack-count width places (part c.args.at (history_size width places) c.args.s.now)), search rules)

pub returns : goal.returns
returns c =
    same_answer c.compare.result (relation_of (incarnation_of c.load-y.result) (incarnation_of c.args.x)) c.compare.ensures
    ∙ ap (λ (y : History). relation_of (incarnation_of y) (incarnation_of c.args.x)) c.load-y.ensures
    ∙ sym (both-held _ _ _ _ (sym c.present.ensures ∙ c.if-not-present.false) c.if-not-p.false)
