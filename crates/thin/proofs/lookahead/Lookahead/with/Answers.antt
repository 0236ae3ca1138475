-- Refused, an action, neither, a signing that is not ready, a signing: each by its law.
use Rattle.std.proofs.Common.{rules, sym, ◌≡◌, ◌∙◌, leb-true, leb-false}
use Rattle.thin.proofs.Looking.{with-refused, with-action, with-other, with-unsigned, with-checkpointed}
use Rattle.thin.proofs.lookahead.Lookahead.with.Goals as goal

pub returns-then-is_refusal : goal.returns-then-is_refusal
returns-then-is_refusal c = with-refused _ _ _ (search rules) (leb-true 20 _ (sym c.if-is_refusal.ensures))

pub returns-then-acts : goal.returns-then-acts
returns-then-acts c = rw c.from.ensures (with-action _ _ _ (search rules) (leb-false 20 _ (sym c.if-is_refusal.ensures)) (sym c.if-acts.ensures) (search rules) _ c.empties.ensures)

pub returns-then-p-number : goal.returns-then-p-number
returns-then-p-number c = with-other _ _ _ (search rules) (sym c.if-acts.ensures) (λ (e : c.args.p.kind ≡ 12). c.if-p-number.true (e ∙ sym c.number.ensures))

pub returns-then-outcome-number : goal.returns-then-outcome-number
returns-then-outcome-number c = with-unsigned _ _ _ (search rules) (sym c.if-acts.ensures) (λ (e : c.args.outcome ≡ 0). c.if-outcome-number.true (e ∙ sym c.number-2.ensures.number))

pub returns : goal.returns
returns c = with-checkpointed _ _ _ (search rules) (sym c.if-acts.ensures) (c.if-p-number.false ∙ c.number.ensures) (c.if-outcome-number.false ∙ c.number-2.ensures.number) c.with_group.ensures
