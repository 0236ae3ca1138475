-- A refusal's number is 16 or more, and it is told by that number; an outcome's is less.
use Rattle.std.proofs.Common.{◌≡◌, ◌≤◌, ◌<◌, ℕ, ap, arith}
use Rattle.rules.specs.declared.refusals.Refusal.{Refusal}
use Rattle.rules.specs.declared.outcomes.Outcome.{Outcome}
use Rattle.rules.specs.Numbers.{refusal_number, outcome_number}
use Rattle.rules.specs.Rules.{answer}

pub refusal-high : (r : Refusal) → 16 ≤ refusal_number r
refusal-high r = grind arith

pub outcome-low : (o : Outcome) → outcome_number o < 16
outcome-low o = grind arith

module _ {n : ℕ} (r : Refusal) (e : refusal_number r ≡ n) where
  pub not_none : n ≡ 0 → ⊥
  not_none z = omega (arith, refusal-high r)

  pub told : answer (refusal_number r) 0 0 0 ≡ answer n 0 0 0
  told = ap (λ (k : ℕ). answer k 0 0 0) e
