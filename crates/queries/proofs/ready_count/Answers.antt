-- Each return by its law.
use Rattle.std.proofs.Common.{rules, refl, ◌≡◌, ℕ}
use Rattle.std.proofs.lemmas.Result.{err_from_is_err_and}
use Rattle.octets.proofs.Put.{octets-of}
use Rattle.rules.specs.Layout.{base}
use Rattle.rules.specs.ReadyGroups.{ready_refusal, ready_answer}
use Rattle.rules.proofs.Good.{good-formed}
use Rattle.rules.proofs.Refused.{refused}
use Rattle.rules.proofs.Groups.Counting.{ready-16, ready-19, ready-low, ready-high, ready-0}
use Rattle.form.proofs.Unsound.{image-refused, sound-long, sound-formed, sound-not}
use Rattle.queries.proofs.ready_count.Goals as goal
use Rattle.queries.proofs.ready_count.Goals.{then-size-lt1-via-then-size-lt1, then-size-lt1-via-else-size-lt1+then-size-gt-TRANSACTORS}

pub returns-in_err-formed : goal.returns-in_err-formed
returns-in_err-formed c =
    let p = err_from_is_err_and c.from_residual.result c.from_residual.ensures.1 in
    rw (p.1, p.2) (image-refused base _ _ c.in_err-formed.ensures.refused (λ (n : ℕ). (n ≡ ready_refusal base c.args.image.now c.args.size) × (0 ≡ ready_answer base c.args.image.now c.args.size))
    (ready-16 base _ _) (ready-19 base _ _) (refused c.in_err-formed.field-0.0))

pub returns-then-size-lt1 : goal.returns-then-size-lt1
returns-then-size-lt1 c =
    let e = c.in_ok-formed.ensures.refused in
    elim c.then-size-lt1.branch [
      | then-size-lt1-via-then-size-lt1 w ↦ ready-low base _ _ (sound-long base _ _ e refl) (sound-not base _ _ e refl) (search rules)
      | then-size-lt1-via-else-size-lt1+then-size-gt-TRANSACTORS w ↦ ready-high base _ _ (sound-long base _ _ e refl) (sound-not base _ _ e refl) (search rules) (search rules)
    ]

pub returns : goal.returns
returns c =
    let e = c.in_ok-formed.ensures.refused in
    ready-0 base _ _ (sound-long base _ _ e refl) (sound-not base _ _ e refl) (search rules) (search rules)
    (good-formed _ (sound-long base _ _ e refl) (octets-of _ c.type_inv.image) (sound-formed base _ _ e refl)).well refl (rw c.in_ok-formed.ensures.lent at c.needs_of.ensures) _ c.count.ensures
