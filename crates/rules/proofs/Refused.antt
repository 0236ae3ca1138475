-- A refusal's number is not 0.
use Rattle.std.proofs.Common.{◌≡◌, arith}
use Rattle.rules.specs.declared.refusals.Refusal.{Refusal}
use Rattle.rules.specs.Numbers.{refusal_number}

pub refused : (r : Refusal) → refusal_number r ≡ 0 → ⊥
refused r e = grind arith
