-- Each answer of a member is one of its three cases.
use Rattle.rules.proofs.Refused.{refused}
use Rattle.std.proofs.Common.{◌≡◌, refl, sym, ap, ◌∙◌, arith, rules, Bool, ℕ}
use Rattle.octets.specs.Bytes.{pick}
use Rattle.rules.proofs.ByKind.Guards.{roomy-first, roomy-end, roomy-unnamed, roomy-gone, roomy-full, roomy-more}
use Rattle.group.proofs.Blocking.{member-in, member-full}
use Rattle.rules.specs.declared.refusals.Refusal.{Refusal}
use Rattle.rules.specs.declared.refusals.Refusal.TheVariants.{Gone}
use Rattle.rules.specs.Numbers.{refusal_number}
use denote.Enum.Bare.{same_true, same_false}
use Rattle.rules.specs.contracts.refusals.Refusal.{the_type}
use Rattle.group.proofs.check_members.Goals as goal
use Rattle.group.proofs.check_members.Goals.{then-is_named+in-Err+else-eq, then-is_named+in_default, else-is_named}

other : (r : Refusal) → (r ≡ Gone → ⊥) → refusal_number r ≡ 22 → ⊥
other r n e = grind arith

-- what the flag stands for
abbrev told : Bool → ℕ
told full = pick full 30 0

pub loop-t-init : goal.loop-t-init
loop-t-init c = roomy-first _ _ _ _ _ refl

pub returns-then-eq : goal.returns-then-eq
returns-then-eq c =
    roomy-gone _ _ _ _ c.loop-t.invariant (search rules) (sym c.is_named.ensures ∙ c.if-is_named.true) _
    (member-in _ _ _ _ _ _ c.in-Err.ensures c.checkpoints-most.ensures (c.number-status.ensures.number ∙ c.status.ensures) c.count.ensures)
    (ap refusal_number (same_true the_type (search rules) c.in-Err.r Gone (sym c.if-eq.ensures)))

pub loop-t-preserved : goal.loop-t-preserved
loop-t-preserved c =
    let most = c.checkpoints-most.ensures in
    elim c.if-is_named.branch [
      | then-is_named+in-Err+else-eq w ↦
          roomy-full _ _ _ _ c.loop-t.invariant (search rules) (sym c.is_named.ensures ∙ w.if-is_named.true) _
          (member-in _ _ _ _ _ _ w.in-Err.ensures most (w.number-status.ensures.number ∙ w.status.ensures) w.count.ensures)
          (other w.in-Err.r (same_false the_type w.in-Err.r Gone (sym w.if-eq.ensures))) _ (refused w.in-Err.r)
          (ap told w.full-is ∙ member-full _ _ _ _ w.in-Err.ensures (other w.in-Err.r (same_false the_type w.in-Err.r Gone (sym w.if-eq.ensures))) (refused w.in-Err.r))
      | then-is_named+in_default w ↦
          roomy-more _ _ _ _ c.loop-t.invariant (search rules) (sym c.is_named.ensures ∙ w.if-is_named.true) _
          (member-in _ _ _ _ _ _ w.in_default.ensures most (w.number-status.ensures.number ∙ w.status.ensures) w.count.ensures)
          (λ e. absurd (omega arith)) _ refl (ap told w.full-is)
      | else-is_named w ↦ roomy-unnamed _ _ _ _ c.loop-t.invariant (search rules) (sym c.is_named.ensures ∙ w.if-is_named.false) _ (ap told w.full-is)
    ]

pub returns-then-full : goal.returns-then-full
returns-then-full c = let e = roomy-end _ _ _ _ c.loop-t.invariant (search rules) in rw c.if-full.true at e

pub returns : goal.returns
returns c = let e = roomy-end _ _ _ _ c.loop-t.invariant (search rules) in rw c.if-full.false at e
