-- Functions of a take's number, as tables.
use Rattle.std.specs.Prelude.{ℕ, eqb}
use Rattle.octets.specs.Bytes.{pick}

-- f, with x at t
unfoldable pub updated : {A : Type 0} → (ℕ → A) → ℕ → A → ℕ → A
updated f t x u = pick (eqb t u) x (f u)
