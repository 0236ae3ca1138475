-- The counts, then the numbers, then the places.
use Rattle.std.proofs.Common.{◌≡◌, ◌∙◌, arith, rules, ⊎_elim}
use borrow.Author.Tests.{ne_eqb}
use Rattle.marks.specs.Packed.{places}
use Rattle.marks.proofs.Compare.{same_count, same_number, same_rest}
use Rattle.marks.proofs.History.same_incarnation.Goals as goal
use Rattle.marks.proofs.History.same_incarnation.Goals.{then-self-other, else-self-other}

pub returns-then-self-other-2 : goal.returns-then-self-other-2
returns-then-self-other-2 c = c.agrees.ensures ∙ same_rest places c.args.self c.args.other (search rules) (search rules) (omega arith) (omega arith) c.if-self-other-2.true.0 c.if-self-other-2.true.1

pub returns-else-self-other-2 : goal.returns-else-self-other-2
returns-else-self-other-2 c = elim c.if-self-other.branch [
  | then-self-other w ↦
      let apart : c.args.self.incarnation ≡ c.args.other.incarnation → ⊥ = ⊎_elim (λ h. h.1) (λ h. absurd (h w.if-self-other.true)) c.if-self-other-2.either in
      w.t-4-is ∙ ne_eqb _ _ apart ∙ same_number places c.args.self c.args.other (search rules) (search rules) (omega arith) (omega arith) apart
  | else-self-other w ↦
      w.t-4-is ∙ ne_eqb _ _ w.if-self-other.false ∙ same_count places c.args.self c.args.other (search rules) (search rules) (omega arith) (omega arith) w.if-self-other.false
]
