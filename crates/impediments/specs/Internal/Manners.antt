-- How a take is in the way; for internal functions alone.
use Rattle.std.specs.Prelude.{ℕ}
use Rattle.impediments.specs.declared.Manner.{Manner}
use Rattle.impediments.specs.declared.Manner.TheVariants.{Hopeless, Exhausted, Unstable}

-- as `impedes_at` counts
abbrev pub manner_number : Manner → ℕ
manner_number Hopeless = 1
manner_number Exhausted = 2
manner_number Unstable = 3
