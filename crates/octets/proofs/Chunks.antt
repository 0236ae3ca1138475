-- Laws of chunks and of lists that a loop fills.
use Prim.Native.Nat.{ℕ, zero, suc, ◌+◌, ◌-◌, ◌*◌, ◌≤◌, ◌<◌}
use mathlib.Core.Path.{◌≡◌, refl, sym, ap, ◌∙◌, subst}
use mathlib.Core.Bool.{Bool, true, false}
use mathlib.Core.List.{List, [], ◌∷◌, ◌++◌, append_assoc, append-nil, map}
use native.Mathlib.Nat.{add-suc, mul-add, add-zero, mul-suc, mul-zero, mul-le-mul_left}
use native.Mathlib.Numerals.{add-one}
use native.Mathlib.Omega.{arith}
use lib.Dec.{ltb}
use borrow.Author.Tests.{ltb-true, ltb-false}
use mathlib.Core.Logic.{◌⊎◌, inl, inr, ⊎_elim}
use lib.ListN.{length, take, get_or, set, length-append, get_or-append, get_or-eq_default, length-map}
use lib.Seq.{take-add, take-suc, take-suc-set, take_all, drop_at, get_or_at}
use Rattle.octets.specs.Bytes.{put, part, chunks, tabulate, Octets}
use Rattle.octets.proofs.Put.{put-nil, put-mid, part-add, put-left, put_right, put-append, part-def, part_left, octets-nil, octets-append}

-- an array of structs: what owning it tells stands at a map of its list
pub length-of-map : (X Y : Type 0) (f : X → Y) (l : List X) (n : ℕ) → length (map f l) ≡ n → length l ≡ n
length-of-map X Y f l n e = sym (length-map l f) ∙ e

-- i is below n, or n or above
pub sides : (i n : ℕ) → (i < n) ⊎ (n ≤ i)
sides i n = go (ltb i n) refl
  where
    go : (t : Bool) → ltb i n ≡ t → (i < n) ⊎ (n ≤ i)
    go true e = inl (ltb-true i n e)
    go false e = inr (ltb-false i n e)

-- i is below n, or n
pub cases : (n i : ℕ) → i < suc n → (i < n) ⊎ (i ≡ n)
cases n i h = ⊎_elim (λ (p : i < n). inl p) (λ (p : n ≤ i). inr (omega arith)) (sides i n)

pub step : (w k n : ℕ) → k < n → w * k + w ≤ w * n
step w k n h = subst (λ (x : ℕ). x ≤ w * n) (mul-suc w k) (mul-le-mul_left w h)

-- ---- tabulate

module _ {ℓ} {A : Type ℓ} (f : ℕ → A) where
  pub length-tabulate : (n : ℕ) → length (tabulate n f) ≡ n
  unfolding tabulate
  length-tabulate zero = refl
  length-tabulate (suc n) = rw (length-append, length-tabulate n) (omega arith)

  pub get_d_tabulate : (n i : ℕ) (d : A) → i < n → get_or (tabulate n f) i d ≡ f i
  unfolding tabulate
  get_d_tabulate zero i d h = absurd (omega arith)
  get_d_tabulate (suc n) i d h = ⊎_elim
      (λ p. get_or-append (tabulate n f) (f n ∷ []) d i (rw length-tabulate p) ∙ get_d_tabulate n i d p)
      (λ p. subst (λ (x : ℕ). get_or (tabulate n f ++ (f n ∷ [])) x d ≡ f x) (sym p) (get_or_at (tabulate n f) (f n) [] d n (length-tabulate n)))
      (cases n i h)

  -- a loop fills l from the front
  pub fill_none : [] ≡ tabulate 0 f
  unfolding tabulate
  fill_none = refl

  pub fill_more : (l : List A) (i : ℕ) (v : A) → take i l ≡ tabulate i f → i < length l → v ≡ f i → take (i + 1) (set l i v) ≡ tabulate (i + 1) f
  unfolding tabulate
  fill_more l i v e h p = rw (add-one, take-suc-set l i v h, e, p)

  pub fill-all : (l : List A) (n : ℕ) → take n l ≡ tabulate n f → length l ≡ n → l ≡ tabulate n f
  fill-all l n e h = sym (take_all n l (omega arith)) ∙ e

pub tabulate-same {ℓ} : {A : Type ℓ} (n : ℕ) (f g : ℕ → A) → ((i : ℕ) → i < n → f i ≡ g i) → tabulate n f ≡ tabulate n g
unfolding tabulate
tabulate-same zero f g h = refl
tabulate-same (suc n) f g h = rw (tabulate-same n f g (λ i p. h i (omega arith)), h n (omega arith))

-- a list is the table of its elements
pub tabulate-take {ℓ} : {A : Type ℓ} (l : List A) (d : A) (n : ℕ) → n ≤ length l → tabulate n (λ i. get_or l i d) ≡ take n l
unfolding tabulate
tabulate-take l d zero h = refl
tabulate-take l d (suc n) h = rw (take-suc l n d h, tabulate-take l d n (omega arith))

pub tabulate-get_or {ℓ} : {A : Type ℓ} (l : List A) (d : A) (n : ℕ) → length l ≡ n → tabulate n (λ i. get_or l i d) ≡ l
tabulate-get_or l d n e = tabulate-take l d n (omega arith) ∙ take_all n l (omega arith)

-- what holds of each entry and of the default holds at every place
pub tabulate-all {ℓ} : {A : Type ℓ} (P : A → Type 0) (f : ℕ → A) (n i : ℕ) (d : A) → P d → ((i : ℕ) → P (f i)) → P (get_or (tabulate n f) i d)
tabulate-all P f n i d pd pf = ⊎_elim
    (λ (p : i < n). subst P (sym (get_d_tabulate f n i d p)) (pf i))
    (λ (p : n ≤ i).
    let h : length (tabulate n f) ≤ i = omega (arith, length-tabulate f n) in
    subst P (sym (get_or-eq_default (tabulate n f) d h)) pd)
    (sides i n)

-- ---- chunks

pub chunks-suc : (n : ℕ) (f : ℕ → List ℕ) → chunks (suc n) f ≡ chunks n f ++ f n
unfolding chunks
chunks-suc n f = refl

pub chunks-same : (n : ℕ) (f g : ℕ → List ℕ) → ((i : ℕ) → i < n → f i ≡ g i) → chunks n f ≡ chunks n g
unfolding chunks
chunks-same zero f g h = refl
chunks-same (suc n) f g h = rw (chunks-same n f g (λ i p. h i (omega arith)), h n (omega arith))

module _ (w : ℕ) (f : ℕ → List ℕ) (wide : (i : ℕ) → length (f i) ≡ w) where
  pub length-chunks : (n : ℕ) → length (chunks n f) ≡ w * n
  unfolding chunks
  length-chunks zero = sym (mul-zero w)
  length-chunks (suc n) = rw (length-append, length-chunks n, wide n, mul-suc)

  pub part-chunks : (n k : ℕ) → k < n → part (w * k) w (chunks n f) ≡ f k
  part-chunks zero k h = absurd (omega arith)
  part-chunks (suc n) k h = ⊎_elim
      (λ p. rw (chunks-suc, part_left (w * k) w (chunks n f) (f n) (rw length-chunks (step w k n p)), part-chunks n k p))
      (λ p. rw (chunks-suc, p, part-def, drop_at (chunks n f) (f n) (w * n) (length-chunks n), take_all w (f n) (omega (arith, wide n))))
      (cases n k h)

-- a put inside chunk k
pub put-chunk : (w : ℕ) (f g : ℕ → List ℕ) (wide : (i : ℕ) → length (f i) ≡ w) (n k off : ℕ) (bs : List ℕ)
    → k < n → off + length bs ≤ w → g k ≡ put off bs (f k) → ((i : ℕ) → (i ≡ k → ⊥) → g i ≡ f i)
    → put (w * k + off) bs (chunks n f) ≡ chunks n g
put-chunk w f g wide zero k off bs h p e o = absurd (omega arith)
put-chunk w f g wide (suc n) k off bs h p e o = ⊎_elim (below (put-chunk w f g wide n k off bs)) last (cases n k h)
  where
    below : (k < n → off + length bs ≤ w → g k ≡ put off bs (f k) → ((i : ℕ) → (i ≡ k → ⊥) → g i ≡ f i) → put (w * k + off) bs (chunks n f) ≡ chunks n g)
        → k < n → put (w * k + off) bs (chunks (suc n) f) ≡ chunks (suc n) g
    below ih q =
        let fits : w * k + off + length bs ≤ length (chunks n f) = rw (length-chunks w f wide n) (omega (arith, step w k n q)) in
        let apart : n ≡ k → ⊥ = λ z. omega arith in
        rw (chunks-suc n f, chunks-suc n g, put-left (w * k + off) bs (chunks n f) (f n) fits, ih q p e o, o n apart)

    last : k ≡ n → put (w * k + off) bs (chunks (suc n) f) ≡ chunks (suc n) g
    last q =
        let before : chunks n g ≡ chunks n f = chunks-same n g f (λ i r. o i (λ z. omega arith)) in
        let there : g n ≡ put off bs (f n) = subst (λ (x : ℕ). g x ≡ put off bs (f x)) q e in
        let place : w * k + off ≡ length (chunks n f) + off = rw (length-chunks w f wide n, q) in
        rw (chunks-suc n f, chunks-suc n g, place, put_right off bs (chunks n f) (f n), before, there)

-- a loop puts one chunk after the other
pub put-none : (at : ℕ) (f : ℕ → List ℕ) (l : List ℕ) → l ≡ put at (chunks 0 f) l
unfolding chunks
put-none at f l = put-nil at l

pub put-more : (at w : ℕ) (f : ℕ → List ℕ) (wide : (i : ℕ) → length (f i) ≡ w) (i : ℕ) (l l' l'' : List ℕ)
    → l' ≡ put at (chunks i f) l → l'' ≡ put (at + w * i) (f i) l' → at + w * i + w ≤ length l → l'' ≡ put at (chunks (i + 1) f) l
put-more at w f wide i l l' l'' e e' h =
    let m : length (chunks i f) ≡ w * i = length-chunks w f wide i in
    e' ∙ rw (e, add-one, chunks-suc, ← m, put-append at (chunks i f) (f i) l (omega (arith, m, wide i)))

-- a list is the chunks of its parts
pub chunks-take : (w n : ℕ) (l : List ℕ) → chunks n (λ i. part (w * i) w l) ≡ take (w * n) l
unfolding chunks part
chunks-take w zero l = rw mul-zero
chunks-take w (suc n) l = rw (chunks-take w n l, mul-suc, take-add)

pub chunks-parts : (w n : ℕ) (l : List ℕ) → length l ≡ w * n → chunks n (λ i. part (w * i) w l) ≡ l
chunks-parts w n l e = chunks-take w n l ∙ take_all (w * n) l (omega arith)

-- ---- runs of chunks

pub chunks-add : (a b : ℕ) (f : ℕ → List ℕ) → chunks (a + b) f ≡ chunks a f ++ chunks b (λ i. f (a + i))
unfolding chunks
chunks-add a zero f = rw (add-zero, append-nil)
chunks-add a (suc b) f = rw (add-suc, chunks-add a b f, append_assoc)

module _ (w n : ℕ) (f : ℕ → List ℕ) (wide : (i : ℕ) → length (f i) ≡ w) where
  pub part-run : (j m : ℕ) → j + m ≤ n → part (w * j) (w * m) (chunks n f) ≡ chunks m (λ i. f (j + i))
  unfolding chunks part
  part-run j zero h = rw mul-zero
  part-run j (suc m) h =
      let a : w * j + w * m ≡ w * (j + m) = sym (mul-add w j m) in
      rw (mul-suc, part-add (w * j) (w * m) w (chunks n f), part-run j m (omega arith), a, part-chunks w f wide n (j + m) (omega arith))

  module _ (g : ℕ → List ℕ) (wide' : (i : ℕ) → length (g i) ≡ w) (k : ℕ) (before : (i : ℕ) → i < k → g i ≡ f i) where
    -- m chunks from k on are put
    pub put-run : (m : ℕ) → k + m ≤ n → ((i : ℕ) → k + m ≤ i → g i ≡ f i) → put (w * k) (chunks m (λ i. g (k + i))) (chunks n f) ≡ chunks n g
    put-run m h after =
        let e : k + m + (n - (k + m)) ≡ n = omega arith in
        let same : length (chunks m (λ i. g (k + i))) ≡ length (chunks m (λ i. f (k + i))) =
        length-chunks w (λ i. g (k + i)) (λ i. wide' (k + i)) m ∙ sym (length-chunks w (λ i. f (k + i)) (λ i. wide (k + i)) m) in
        let front : chunks k g ≡ chunks k f = chunks-same k g f before in
        let back : chunks (n - (k + m)) (λ i. g (k + m + i)) ≡ chunks (n - (k + m)) (λ i. f (k + m + i)) =
        chunks-same (n - (k + m)) (λ i. g (k + m + i)) (λ i. f (k + m + i)) (λ i p. after (k + m + i) (omega arith)) in
        let split : (x : ℕ → List ℕ) → chunks n x ≡ chunks k x ++ chunks m (λ i. x (k + i)) ++ chunks (n - (k + m)) (λ i. x (k + m + i)) =
        λ x. ap (λ (j : ℕ). chunks j x) (sym e) ∙ chunks-add (k + m) (n - (k + m)) x ∙ rw (chunks-add k m x) in
        rw (split f, split g, front, back)
        (put-mid (w * k) (chunks m (λ i. g (k + i))) (chunks k f) (chunks m (λ i. f (k + i))) (chunks (n - (k + m)) (λ i. f (k + m + i))) (length-chunks w f wide k) same)

    -- chunk k goes, the next m move down, and z stands where the last of them was
    pub remove-chunk : (m : ℕ) (z : List ℕ) → k + suc m ≤ n → ((i : ℕ) → i < m → g (k + i) ≡ f (suc k + i)) → g (k + m) ≡ z → ((i : ℕ) → k + suc m ≤ i → g i ≡ f i)
        → put (w * k) (part (w * k + w) (w * m) (chunks n f) ++ z) (chunks n f) ≡ chunks n g
    remove-chunk m z h moved last after =
        let a : part (w * k + w) (w * m) (chunks n f) ≡ chunks m (λ i. f (suc k + i)) =
        rw (← mul-suc w k) (part-run (suc k) m (omega arith)) in
        let b : chunks m (λ i. f (suc k + i)) ++ z ≡ chunks (suc m) (λ i. g (k + i)) =
        sym (chunks-suc m (λ i. g (k + i)) ∙ rw (last, chunks-same m (λ i. g (k + i)) (λ i. f (suc k + i)) moved)) in
        rw (a, b) (put-run (suc m) h after)

pub octets-chunks : (n : ℕ) (f : ℕ → List ℕ) → ((i : ℕ) → i < n → Octets (f i)) → Octets (chunks n f)
unfolding chunks
octets-chunks zero f h = octets-nil
octets-chunks (suc n) f h = octets-append (chunks n f) (f n) (octets-chunks n f (λ i p. h i (omega arith))) (h n (omega arith))
