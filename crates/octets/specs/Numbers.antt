-- Numbers as bytes, most significant first, over the width in bytes.
use Rattle.std.specs.Prelude.{ℕ, zero, suc, ◌+◌, ◌*◌, ◌/◌, ◌%◌, List, [], ◌∷◌, ◌++◌, get_or}

-- n in w bytes
unfoldable pub be : ℕ → ℕ → List ℕ
be zero n = []
be (suc w) n = be w (n / 256) ++ (n % 256 ∷ [])

-- the number that the first w bytes of b give
unfoldable pub of_be : ℕ → List ℕ → ℕ
of_be zero b = 0
of_be (suc w) b = of_be w b * 256 + get_or b w 0

-- the first number that w bytes cannot hold
unfoldable pub bound : ℕ → ℕ
bound zero = 1
bound (suc w) = bound w * 256
