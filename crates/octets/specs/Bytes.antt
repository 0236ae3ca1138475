-- Lists of bytes: tests, parts, stores, and runs of chunks.
use Rattle.std.specs.Prelude.{ℕ, zero, suc, ◌+◌, ◌<◌, List, [], ◌∷◌, ◌++◌, Bool, true, false, eqb, length, take, drop, get_or}

abbrev pub pick {ℓ} : {A : Type ℓ} → Bool → A → A → A
pick true a b = a
pick false a b = b

infixr 30 ◌and◌
abbrev pub ◌and◌ : Bool → Bool → Bool
a and b = pick a b false

infixr 25 ◌or◌
abbrev pub ◌or◌ : Bool → Bool → Bool
a or b = pick a true b

-- l with bs from place at on
unfoldable pub put : ℕ → List ℕ → List ℕ → List ℕ
put at bs l = take at l ++ bs ++ drop (at + length bs) l

-- the n elements of l from place at on
unfoldable pub part : ℕ → ℕ → List ℕ → List ℕ
part at n l = take n (drop at l)

-- f 0, f 1, .. one after the other, n of them
unfoldable pub chunks : ℕ → (ℕ → List ℕ) → List ℕ
chunks zero f = []
chunks (suc n) f = chunks n f ++ f n

-- the list of f 0, f 1, .., n of them
unfoldable pub tabulate {ℓ} : {A : Type ℓ} → ℕ → (ℕ → A) → List A
tabulate zero f = []
tabulate (suc n) f = tabulate n f ++ (f n ∷ [])

-- n zero bytes
unfoldable pub zeros : ℕ → List ℕ
zeros zero = []
zeros (suc n) = 0 ∷ zeros n

-- every element is zero
unfoldable pub all_zero : List ℕ → Bool
all_zero [] = true
all_zero (x ∷ xs) = eqb x 0 and all_zero xs

-- f holds at 0, 1, .., n of them
unfoldable pub every : ℕ → (ℕ → Bool) → Bool
every zero f = true
every (suc n) f = every n f and f n

-- f holds at one of 0, 1, .., n of them
unfoldable pub any : ℕ → (ℕ → Bool) → Bool
any zero f = false
any (suc n) f = any n f or f n

-- the n elements of l from place a on are those from place b on
unfoldable pub alike : List ℕ → ℕ → ℕ → ℕ → Bool
alike l a b n = every n (λ i. eqb (get_or l (a + i) 0) (get_or l (b + i) 0))

-- every element is a byte
unfoldable pub Octets : List ℕ → Type 0
Octets l = (i : ℕ) → get_or l i 0 < 256
