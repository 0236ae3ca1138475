-- What the call answers, over its result.
use Rattle.std.specs.Prelude.{Bool, false, Result, Ok, Err}
use Rattle.rules.specs.declared.refusals.Refusal.{Refusal}

-- whether the steps are independent; where the call is refused, no
abbrev pub is_independent : Result Bool Refusal → Bool
is_independent (Ok b) = b
is_independent (Err r) = false
