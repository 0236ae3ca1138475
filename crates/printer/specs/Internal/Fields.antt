-- What the printer's functions cite.
use Rattle.std.specs.Prelude.{ℕ, [], ◌∷◌, get_or}
use Rattle.rules.specs.declared.Step.{Step}

-- a field of a step by its number in the templates
unfoldable pub field_of : Step → ℕ → ℕ
field_of p c = get_or (0 ∷ p.transactor ∷ p.other ∷ p.message ∷ p.value ∷ []) c 0
