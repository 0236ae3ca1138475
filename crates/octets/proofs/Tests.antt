-- Laws of tests: pick, and, or, not.
use Prim.Native.Nat.{ℕ, ◌<◌}
use mathlib.Core.Bool.{Bool, true, false, not}
use mathlib.Core.Path.{◌≡◌, refl, sym, ◌∙◌}
use mathlib.Core.Logic.{◌⊎◌, inl, inr}
use native.Mathlib.Omega.{arith}
use borrow.Author.Tests.{not-true, not-false}
use Rattle.octets.specs.Bytes.{pick, ◌and◌, ◌or◌}

pub never : {A : Type 0} → ◌≡◌ {A = Bool} true false → A
never e = let z : ◌≡◌ {A = ℕ} 0 1 = cc in absurd (omega arith)

-- one of two values, by what decides
pub pick-view {ℓ} : {A : Type ℓ} (P : A → Type 0) (c : Bool) (x y : A) → (c ≡ true → P x) → (c ≡ false → P y) → P (pick c x y)
pick-view P true x y f g = f refl
pick-view P false x y f g = g refl

-- two choices by equal tests
pub pick-both {ℓ κ} : {A : Type ℓ} {B : Type κ} (P : A → B → Type 0) (t u : Bool) → t ≡ u → (x y : A) (z w : B)
    → (t ≡ true → P x z) → (t ≡ false → P y w) → P (pick t x y) (pick u z w)
pick-both P true true e x y z w f g = f refl
pick-both P true false e x y z w f g = never e
pick-both P false true e x y z w f g = never (sym e)
pick-both P false false e x y z w f g = g refl

-- one number for two conditions
pub pick-or : (a b : Bool) (n r : ℕ) → pick (a or b) n r ≡ pick b n (pick a n r)
pick-or true true n r = refl
pick-or true false n r = refl
pick-or false b n r = refl

-- 0, which a number before it is not
pub pick-zero : (c : Bool) (n r : ℕ) → 0 < n → pick c n r ≡ 0 → (c ≡ false) × (r ≡ 0)
pick-zero true n r h e = absurd (omega arith)
pick-zero false n r h e = (refl, e)

-- true or not
pub true-or-false : (c : Bool) → (c ≡ true) ⊎ (c ≡ false)
true-or-false true = inl refl
true-or-false false = inr refl

-- ---- and, or

pub and-of : (t u : Bool) → t ≡ true → u ≡ true → t and u ≡ true
and-of t u e f = rw (e, f)

pub or-to : (t u : Bool) → t or u ≡ true → (t ≡ true) ⊎ (u ≡ true)
or-to true u e = inl refl
or-to false u e = inr e

pub or-of : (t u : Bool) → (t ≡ true) ⊎ (u ≡ true) → t or u ≡ true
or-of true u h = refl
or-of false u (inl e) = never (sym e)
or-of false u (inr e) = e

pub or-none : (c : Bool) → c or false ≡ c
or-none true = refl
or-none false = refl

pub or_assoc : (a b c : Bool) → (a or b) or c ≡ a or (b or c)
or_assoc true b c = refl
or_assoc false b c = refl

pub or_off : (a b : Bool) → a or b ≡ false → (a ≡ false) × (b ≡ false)
or_off true b e = never e
or_off false b e = (refl, e)

pub and-true : (c : Bool) → c and true ≡ c
and-true true = refl
and-true false = refl

pub and-false : (c : Bool) → c and false ≡ false
and-false true = refl
and-false false = refl

pub and_assoc : (a b c : Bool) → (a and b) and c ≡ a and (b and c)
and_assoc true b c = refl
and_assoc false b c = refl

pub and-off : (a b : Bool) → a and b ≡ false → a ≡ true → b ≡ false
and-off true b e p = e
and-off false b e p = never (sym p)

-- `not a or b` says that a implies b
pub implied : (a b : Bool) → not a or b ≡ true → a ≡ true → b ≡ true
implied true b e h = e
implied false b e h = never (sym h)

pub implying : (a b : Bool) → (a ≡ true → b ≡ true) → not a or b ≡ true
implying true b f = f refl
implying false b f = refl

-- `a or b` says that b holds unless a does
pub otherwise : (a b : Bool) → a or b ≡ true → a ≡ false → b ≡ true
otherwise true b e h = never h
otherwise false b e h = e

pub unless : (a b : Bool) → (a ≡ false → b ≡ true) → a or b ≡ true
unless true b f = refl
unless false b f = f refl

-- two tests that hold together are one
pub same_test : (a b : Bool) → (a ≡ true → b ≡ true) → (b ≡ true → a ≡ true) → a ≡ b
same_test true b f g = sym (f refl)
same_test false true f g = g refl
same_test false false f g = refl

-- a test by its answer r, which code negates
pub passed : {r a : Bool} → r ≡ a → not r ≡ false → a ≡ true
passed {r} e h = sym e ∙ not-false r h

pub failed : {r a : Bool} → r ≡ a → not r ≡ true → a ≡ false
failed {r} e h = sym e ∙ not-true r h
