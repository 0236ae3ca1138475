-- Rows f i, f (i + 1), .. as lists that recur from the left, and bytes one row after the other.
use Prim.Native.Nat.{ℕ, zero, suc, ◌+◌, ◌*◌, ◌≤◌, ◌<◌}
use mathlib.Core.Bool.{Bool, true, false}
use mathlib.Core.Path.{◌≡◌, refl, sym, ap, fun_ext, ◌∙◌}
use mathlib.Core.List.{List, [], ◌∷◌, ◌++◌, map}
use native.Mathlib.Nat.{suc-add, add-suc, add-zero}
use native.Mathlib.Omega.{arith}
use lib.ListN.{length, get_or, length-append}
use Rattle.octets.specs.Bytes.{pick, part, chunks}
use Rattle.octets.proofs.Chunks.{chunks-add, chunks-same}
use Rattle.octets.proofs.Put.{length_part, part_left, part_right, part-whole}
use Rattle.rules.specs.Step.{step_bytes, unpack_step, step_at}
use Rattle.thin.proofs.Steps.{filtered}

unfoldable pub from : {A : Type 0} → (ℕ → A) → ℕ → ℕ → List A
from f i zero = []
from f i (suc n) = f i ∷ from f (suc i) n

unfoldable pub flat : List (List ℕ) → List ℕ
flat [] = []
flat (x ∷ xs) = x ++ flat xs

pub from-shift : {A : Type 0} (f : ℕ → A) (i n : ℕ) → from f (suc i) n ≡ from (λ k. f (suc k)) i n
unfolding from
from-shift f i zero = refl
from-shift {A} f i (suc n) = ap {B = List A} (λ (l : List A). f (suc i) ∷ l) (from-shift f (suc i) n)

pub from-same : {A : Type 0} (f g : ℕ → A) (i n : ℕ) → ((k : ℕ) → f k ≡ g k) → from f i n ≡ from g i n
from-same {A} f g i n h = ap (λ (e : ℕ → A). from e i n) (fun_ext h)

pub map-from : {A B : Type 0} (g : A → B) (f : ℕ → A) (i n : ℕ) → map g (from f i n) ≡ from (λ k. g (f k)) i n
unfolding from
map-from g f i zero = refl
map-from {B = B} g f i (suc n) = ap {B = List B} (λ (l : List B). g (f i) ∷ l) (map-from g f (suc i) n)

pub length_from : {A : Type 0} (f : ℕ → A) (i n : ℕ) → length (from f i n) ≡ n
unfolding from
length_from f i zero = refl
length_from f i (suc n) = ap suc (length_from f (suc i) n)

pub get_or-from : {A : Type 0} (f : ℕ → A) (d : A) (n i j : ℕ) → j < n → get_or (from f i n) j d ≡ f (i + j)
unfolding from
get_or-from f d zero i j h = absurd (omega arith)
get_or-from f d (suc n) i zero h = ap f (sym (add-zero i))
get_or-from f d (suc n) i (suc j) h = get_or-from f d n (suc i) j (omega arith) ∙ ap f (suc-add i j ∙ sym (add-suc i j))

pub filtered-map : {A B : Type 0} (g : A → B) (cs : List Bool) (xs : List A) → map g (filtered cs xs) ≡ filtered cs (map g xs)
unfolding filtered
filtered-map g [] xs = refl
filtered-map g (c ∷ cs) [] = refl
filtered-map {A} {B} g (true ∷ cs) (x ∷ xs) = ap {B = List B} (λ (l : List B). g x ∷ l) (filtered-map g cs xs)
filtered-map g (false ∷ cs) (x ∷ xs) = filtered-map g cs xs

pub flat-filtered : (g : ℕ → Bool) (f : ℕ → List ℕ) (n i : ℕ) → flat (filtered (from g i n) (from f i n)) ≡ flat (from (λ k. pick (g k) (f k) []) i n)
unfolding from flat filtered
flat-filtered g f zero i = refl
flat-filtered g f (suc n) i = go (g i) (flat-filtered g f n (suc i))
  where
    go : (c : Bool) → flat (filtered (from g (suc i) n) (from f (suc i) n)) ≡ flat (from (λ k. pick (g k) (f k) []) (suc i) n)
        → flat (pick c (f i ∷ filtered (from g (suc i) n) (from f (suc i) n)) (filtered (from g (suc i) n) (from f (suc i) n))) ≡ pick c (f i) [] ++ flat (from (λ k. pick (g k) (f k) []) (suc i) n)
    go true e = ap {B = List ℕ} (λ (l : List ℕ). f i ++ l) e
    go false e = e

chunks-one : (f : ℕ → List ℕ) → chunks 1 f ≡ f 0
unfolding chunks
chunks-one f = refl

chunks-none : (f : ℕ → List ℕ) → chunks 0 f ≡ []
unfolding chunks
chunks-none f = refl

chunks-left : (n : ℕ) (f : ℕ → List ℕ) → chunks (suc n) f ≡ f 0 ++ chunks n (λ k. f (suc k))
chunks-left n f =
    let e : suc n ≡ 1 + n = omega arith in
    ap (λ (k : ℕ). chunks k f) e ∙ chunks-add 1 n f ∙ rw chunks-one
    (ap {B = List ℕ} (λ (l : List ℕ). f 0 ++ l) (chunks-same n (λ k. f (1 + k)) (λ k. f (suc k)) (λ k h. ap f (omega arith))))

pub chunks-flat : (n : ℕ) (f : ℕ → List ℕ) → chunks n f ≡ flat (from f 0 n)
unfolding from flat
chunks-flat zero f = chunks-none f
chunks-flat (suc n) f =
    chunks-left n f ∙ ap {B = List ℕ} (λ (l : List ℕ). f 0 ++ l) (chunks-flat n (λ k. f (suc k)) ∙ ap flat (sym (from-shift f 0 n)))

-- ---- rows of a step's width

pub data Steps : List (List ℕ) → Type 0 where
  none : Steps []
  more : {c : List ℕ} {cs : List (List ℕ)} → length c ≡ step_bytes → Steps cs → Steps (c ∷ cs)

pub steps-filtered : (fs : List Bool) {cs : List (List ℕ)} → Steps cs → Steps (filtered fs cs)
unfolding filtered
steps-filtered [] w = none
steps-filtered (f ∷ fs) none = none
steps-filtered (true ∷ fs) (more h w) = more h (steps-filtered fs w)
steps-filtered (false ∷ fs) (more h w) = steps-filtered fs w

pub steps-parts : (b : List ℕ) (n i : ℕ) → step_bytes * (i + n) ≤ length b → Steps (from (λ k. part (step_bytes * k) step_bytes b) i n)
unfolding from
steps-parts b zero i h = none
steps-parts b (suc n) i h = more (length_part (step_bytes * i) step_bytes b (omega arith)) (steps-parts b n (suc i) (omega arith))

pub length-flat : {cs : List (List ℕ)} → Steps cs → length (flat cs) ≡ step_bytes * length cs
unfolding flat
length-flat none = refl
length-flat (more {c} {cs} h w) = length-append c (flat cs) ∙ omega (arith, length-flat w)

pub at_first : (c l : List ℕ) → length c ≡ step_bytes → step_at (c ++ l) 0 ≡ unpack_step c
unfolding step_at
at_first c l h = ap unpack_step (part_left 0 step_bytes c l (omega arith) ∙ part-whole step_bytes c h)

pub at_next : (c l : List ℕ) → length c ≡ step_bytes → (j : ℕ) → step_at (c ++ l) (suc j) ≡ step_at l j
unfolding step_at
at_next c l h j =
    let e : step_bytes * suc j ≡ length c + step_bytes * j = omega arith in
    ap unpack_step (ap (λ (n : ℕ). part n step_bytes (c ++ l)) e ∙ part_right (step_bytes * j) step_bytes c l)

pub steps-flat : {cs : List (List ℕ)} → Steps cs → from (step_at (flat cs)) 0 (length cs) ≡ map unpack_step cs
unfolding from flat
steps-flat none = refl
steps-flat (more {c} {cs} h w) = λ i. at_first c (flat cs) h i ∷
    (from-shift (step_at (c ++ flat cs)) 0 (length cs) ∙ from-same _ _ 0 (length cs) (at_next c (flat cs) h) ∙ steps-flat w) i
