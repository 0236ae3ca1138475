-- What the functions over single words cite.
use Rattle.std.specs.Prelude.{ℕ, zero, suc, ◌+◌, ◌*◌, Bool, List, eqb, length, get_or}
use Rattle.octets.specs.Bytes.{◌and◌}
use Rattle.notation.specs.Reading.{all, is_hex, of_hex_digit}

-- sixteen hexadecimal digits
unfoldable pub is_whole : List ℕ → Bool
is_whole w = eqb (length w) 16 and all is_hex w

-- the number that the k digits from place at on give
unfoldable pub hex_value : List ℕ → ℕ → ℕ → ℕ
hex_value w at zero = 0
hex_value w at (suc k) = hex_value w at k * 16 + of_hex_digit (get_or w (at + k) 0)
