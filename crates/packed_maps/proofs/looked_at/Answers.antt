-- None of bytes that are all zero, else all.
use Rattle.std.proofs.Common.{rules, arith, sym, ◌∙◌}
use Rattle.marks.specs.Packed.{width, places}
use Rattle.maps.specs.Packed.{entries}
use Rattle.maps.proofs.Placed.{looked-none, looked-all, looked-held}
use Rattle.packed_maps.proofs.looked_at.Goals as goal
use Rattle.packed_maps.proofs.looked_at.Goals.{else-not-present-via-then-not-present+else-all_zero, else-not-present-via-else-not-present}

pub returns-then-all_zero : goal.returns-then-all_zero
returns-then-all_zero c = (sym (looked-none _ _ (sym c.all_zero.ensures ∙ c.if-all_zero.true)), search rules)

pub returns : goal.returns
returns c = (
  elim c.else-not-present.branch [
    | else-not-present-via-then-not-present+else-all_zero w ↦ sym (looked-all _ _ (sym w.all_zero.ensures ∙ w.if-all_zero.false))
    | else-not-present-via-else-not-present w ↦ sym (looked-held width places entries _ _ c.requires (omega arith) (sym c.present.ensures ∙ w.if-not-present.false))
  ],
  search rules,
)
