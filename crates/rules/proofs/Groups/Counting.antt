-- How many volumes are ready: the counts by size, what they add up to, and the call's returns.
use Prim.Native.Nat.{ℕ, zero, suc, ◌+◌, ◌*◌, ◌/◌, ◌%◌, ◌^◌, ◌≤◌, ◌<◌}
use mathlib.Core.Bool.{Bool, true, false, not}
use mathlib.Core.Path.{◌≡◌, refl, sym, ap, ap₂, ◌∙◌, subst}
use mathlib.Core.List.{List}
use mathlib.Core.Logic.{⊎_elim}
use native.Mathlib.Nat.{pow-succ', zero-add, add_assoc, add-zero, add-suc}
use native.Mathlib.Numerals.{add-one}
use native.Mathlib.Omega.{arith}
use borrow.Author.Tests.{eq-eqb, ne_eqb, eqb-true, le-leb, lt-leb}
use lib.Count.{ones, ones_step, ones-le}
use lib.Dec.{eqb, leb}
use lib.ListN.{length}
use lib.Pow.{pow_pos, pow_mono}
use Rattle.octets.specs.Bytes.{pick, ◌and◌, ◌or◌}
use Rattle.octets.specs.Numbers.{bound}
use Rattle.octets.proofs.Chunks.{sides}
use Rattle.octets.proofs.Tests.{or-none}
use Rattle.rules.specs.Layout.{Layout, image_bytes}
use Rattle.rules.specs.State.{State}
use Rattle.rules.specs.Refusals.{group_bits, named}
use Rattle.rules.specs.Pack.{unpack}
use Rattle.rules.specs.Form.{well_formed}
use Rattle.rules.specs.ReadyGroups.{how_many, size_of, ready_group, ready_count, ready_groups, ready_refusal, ready_answer, total}
use Rattle.rules.specs.Internal.Well.{WellFormed}
use Rattle.rules.specs.Internal.Closure.{Needed, meets, met_count}
use Rattle.rules.proofs.Bits.{named-first, named-half, named-same, named-zero, named-add, named_past}
use Rattle.rules.proofs.Groups.Signable.{ready-exactly}
use Rattle.rules.proofs.Groups.Needs.{meets-ready}
use Rattle.rules.proofs.Calls.Begin.{wrong-length, right-length}

-- ---- how many

pub many-none : (f : ℕ → Bool) → 0 ≡ how_many 0 f
unfolding how_many
many-none f = refl

pub many-on : (f : ℕ → Bool) (n k : ℕ) → k ≡ how_many n f → f n ≡ true → k + 1 ≡ how_many (n + 1) f
unfolding how_many
many-on f n k e h = rw (add-one n, h) (ap (λ (x : ℕ). x + 1) e)

pub many-off : (f : ℕ → Bool) (n k : ℕ) → k ≡ how_many n f → f n ≡ false → k ≡ how_many (n + 1) f
unfolding how_many
many-off f n k e h = rw (add-one n, h, add-zero) e

pub many-same : (f g : ℕ → Bool) (n : ℕ) → ((i : ℕ) → i < n → f i ≡ g i) → how_many n f ≡ how_many n g
unfolding how_many
many-same f g zero h = refl
many-same f g (suc n) h = rw (many-same f g n (λ i b. h i (omega arith)), h n (omega arith))

pub many-le : (f : ℕ → Bool) (n : ℕ) → how_many n f ≤ n
unfolding how_many
many-le f zero = omega arith
many-le f (suc n) = go (f n) (many-le f n)
  where
    go : (b : Bool) → how_many n f ≤ n → how_many n f + pick b 1 0 ≤ suc n
    go true h = omega arith
    go false h = omega arith

pub many-nowhere : (f : ℕ → Bool) (n : ℕ) → how_many n f ≡ 0 → (i : ℕ) → i < n → f i ≡ false
unfolding how_many
many-nowhere f zero e i h = absurd (omega arith)
many-nowhere f (suc n) e i h = go (f n) refl e (λ (z : how_many n f ≡ 0) (k : i < n). many-nowhere f n z i k)
  where
    go : (b : Bool) → f n ≡ b → how_many n f + pick b 1 0 ≡ 0 → (how_many n f ≡ 0 → i < n → f i ≡ false) → f i ≡ false
    go true p q r = absurd (omega arith)
    go false p q r = ⊎_elim
        (λ (k : i < n). r (omega arith) k)
        (λ (k : n ≤ i). let z : n ≡ i = omega arith in subst (λ (x : ℕ). f x ≡ false) z p)
        (sides i n)

-- the first n, and m more
many-add : (f : ℕ → Bool) (n m : ℕ) → how_many (n + m) f ≡ how_many n f + how_many m (λ i. f (n + i))
unfolding how_many
many-add f n zero = rw (add-zero, add-zero)
many-add f n (suc m) = rw (add-suc, many-add f n m) (add_assoc (how_many n f) (how_many m (λ i. f (n + i))) (pick (f (n + m)) 1 0))

-- at 0 alone, if anywhere
many-first : (f : ℕ → Bool) (n : ℕ) → 0 < n → ((i : ℕ) → 0 < i → i < n → f i ≡ false) → how_many n f ≡ pick (f 0) 1 0
unfolding how_many
many-first f zero b h = absurd (omega arith)
many-first f (suc zero) b h = zero-add (pick (f 0) 1 0)
many-first f (suc (suc n)) b h = rw (h (suc n) (omega arith) (omega arith), add-zero) (many-first f (suc n) (omega arith) (λ i p q. h i p (omega arith)))

-- at n besides
many_more : (f : ℕ → Bool) (n m : ℕ) → n < m → f n ≡ false → how_many m (λ i. f i or eqb n i) ≡ how_many m f + 1
unfolding how_many
many_more f n zero h o = absurd (omega arith)
many_more f n (suc m) h o = ⊎_elim
    (λ (k : n < m). rw (many_more f n m k o, ne_eqb n m (omega arith), or-none) (swap (how_many m f) (pick (f m) 1 0)))
    (λ (k : m ≤ n).
    let e : n ≡ m = omega arith in
    let off : f m ≡ false = subst (λ (x : ℕ). f x ≡ false) e o in
    rw (many-same (λ i. f i or eqb n i) f m (λ i b. rw (ne_eqb n i (omega arith), or-none)), off, eq-eqb n m e, add-zero))
    (sides n m)
  where
    swap : (a b : ℕ) → a + 1 + b ≡ a + b + 1
    swap a b = omega arith

-- ---- the takes of a volume

pub size-ones : (v : ℕ) → v < 2 ^ group_bits → ones v ≡ size_of v
unfolding size_of
size-ones v h = sym (go group_bits v h)
  where
    parity : (n : ℕ) → pick (eqb (n % 2) 1) 1 0 ≡ n % 2
    parity n = ⊎_elim
        (λ (k : n % 2 < 1). rw (ne_eqb (n % 2) 1 (omega arith)) (omega arith))
        (λ (k : 1 ≤ n % 2). rw (eq-eqb (n % 2) 1 (omega arith)) (omega arith))
        (sides (n % 2) 1)

    go : (n v : ℕ) → v < 2 ^ n → how_many n (named v) ≡ ones v
    go zero v h = sym (many-none (named v)) ∙ omega (arith, ones-le 0 v h)
    go (suc n) v h =
        let p : 2 ^ suc n ≡ 2 * 2 ^ n = pow-succ' 2 n in
        let e : 1 + n ≡ suc n = omega arith in
        sym (ap (λ (k : ℕ). how_many k (named v)) e)
        ∙ many-add (named v) 1 n
        ∙ ap₂ (λ (a b : ℕ). a + b)
        (many-first (named v) 1 (omega arith) (λ i a b. absurd (omega arith)) ∙ ap (λ (b : Bool). pick b 1 0) (named-first v) ∙ parity v)
        (many-same (λ i. named v (1 + i)) (named (v / 2)) n (λ i b. ap (named v) (omega arith) ∙ named-half v i) ∙ go n (v / 2) (omega arith))
        ∙ sym (ones_step v)

size-zero : (v : ℕ) → v < 2 ^ group_bits → size_of v ≡ 0 → v ≡ 0
unfolding size_of
size-zero v h e = named-same group_bits v 0 h (pow_pos group_bits) (λ t b. many-nowhere (named v) group_bits e t b ∙ sym (named-zero t))

pub zero-size : size_of 0 ≡ 0
zero-size = sym (size-ones 0 (pow_pos group_bits)) ∙ omega (arith, ones-le 0 0 (pow_pos 0))

-- one more
size-more : (v n : ℕ) → n < group_bits → v < 2 ^ n → size_of (2 ^ n + v) ≡ suc (size_of v)
unfolding size_of
size-more v n h b =
    let e : 2 ^ n + v ≡ v + 2 ^ n = omega arith in
    let o : named v n ≡ false = named_past v n n b (omega arith) in
    many-same (named (2 ^ n + v)) (λ t. named v t or eqb n t) group_bits (λ t k. ap (λ (x : ℕ). named x t) e ∙ named-add v n t o)
    ∙ many_more (named v) n group_bits h o
    ∙ add-one (how_many group_bits (named v))

-- ---- sums over the sizes

total-same : (f g : ℕ → ℕ) (n : ℕ) → ((i : ℕ) → f i ≡ g i) → total n f ≡ total n g
unfolding total
total-same f g zero h = refl
total-same f g (suc n) h = rw (total-same f g n h, h (suc n))

total-add : (f g : ℕ → ℕ) (n : ℕ) → total n (λ i. f i + g i) ≡ total n f + total n g
unfolding total
total-add f g zero = refl
total-add f g (suc n) = rw (total-add f g n) (swap (total n f) (total n g) (f (suc n)) (g (suc n)))
  where
    swap : (a b c d : ℕ) → a + b + (c + d) ≡ a + c + (b + d)
    swap a b c d = omega arith

total-none : (n : ℕ) → total n (λ i. 0) ≡ 0
unfolding total
total-none zero = refl
total-none (suc n) = rw add-zero (total-none n)

-- one of the sizes is j
total-one : (n j : ℕ) → 0 < j → total n (λ i. pick (eqb j i) 1 0) ≡ pick (leb j n) 1 0
unfolding total
total-one zero j h = rw (lt-leb j 0 h)
total-one (suc n) j h = rw (total-one n j h) (⊎_elim
    (λ (k : j < suc n). rw (le-leb j n (omega arith), ne_eqb j (suc n) (omega arith), le-leb j (suc n) (omega arith)))
    (λ (k : suc n ≤ j). ⊎_elim
    (λ (q : j < suc (suc n)). rw (lt-leb j n (omega arith), eq-eqb j (suc n) (omega arith), le-leb j (suc n) (omega arith)))
    (λ (q : suc (suc n) ≤ j). rw (lt-leb j n (omega arith), ne_eqb j (suc n) (omega arith), lt-leb j (suc n) (omega arith)))
    (sides j (suc (suc n))))
    (sides j (suc n)))

-- counted by size, where each that counts has one of n sizes
by_size : (f : ℕ → Bool) (size : ℕ → ℕ) (n m : ℕ) → ((v : ℕ) → v < m → f v ≡ true → (0 < size v) × (size v ≤ n))
    → total n (λ i. how_many m (λ v. eqb (size v) i and f v)) ≡ how_many m f
unfolding how_many
by_size f size n zero h = total-none n
by_size f size n (suc m) h =
    total-add (λ i. how_many m (λ v. eqb (size v) i and f v)) (λ i. pick (eqb (size m) i and f m) 1 0) n
    ∙ ap₂ (λ (a b : ℕ). a + b) (by_size f size n m (λ v b. h v (omega arith))) (here (f m) (h m (omega arith)))
  where
    off : (c : Bool) → ◌≡◌ {A = ℕ} (pick (c and false) 1 0) 0
    off true = refl
    off false = refl

    on : (c : Bool) → ◌≡◌ {A = ℕ} (pick (c and true) 1 0) (pick c 1 0)
    on true = refl
    on false = refl

    here : (b : Bool) → (b ≡ true → (0 < size m) × (size m ≤ n)) → total n (λ i. pick (eqb (size m) i and b) 1 0) ≡ pick b 1 0
    here false g = total-same (λ i. pick (eqb (size m) i and false) 1 0) (λ i. 0) n (λ i. off (eqb (size m) i)) ∙ total-none n
    here true g =
        let k = g refl in
        total-same (λ i. pick (eqb (size m) i and true) 1 0) (λ i. pick (eqb (size m) i) 1 0) n (λ i. on (eqb (size m) i))
        ∙ total-one n (size m) k.0
        ∙ rw (le-leb (size m) n k.1)

-- ---- volumes of one take

singles : (f : ℕ → Bool) (n : ℕ) → n ≤ group_bits → how_many (2 ^ n) (λ v. eqb (size_of v) 1 and f v) ≡ how_many n (λ t. f (2 ^ t))
unfolding how_many
singles f zero h = many-first (λ v. eqb (size_of v) 1 and f v) 1 (omega arith) (λ i a b. absurd (omega arith)) ∙ rw zero-size
singles f (suc n) h =
    let p : 2 ^ suc n ≡ 2 ^ n + 2 ^ n = pow-succ' 2 n ∙ omega arith in
    ap (λ (k : ℕ). how_many k (λ v. eqb (size_of v) 1 and f v)) p
    ∙ many-add (λ v. eqb (size_of v) 1 and f v) (2 ^ n) (2 ^ n)
    ∙ ap₂ (λ (a b : ℕ). a + b)
    (singles f n (omega arith))
    (many-first (λ i. eqb (size_of (2 ^ n + i)) 1 and f (2 ^ n + i)) (2 ^ n) (pow_pos n) others ∙ rw (size-more 0 n (omega arith) (pow_pos n), zero-size, add-zero))
  where
    others : (i : ℕ) → 0 < i → i < 2 ^ n → eqb (size_of (2 ^ n + i)) 1 and f (2 ^ n + i) ≡ false
    others i a b =
        let le : 2 ^ n ≤ 2 ^ group_bits = pow_mono {i = n} {j = group_bits} (omega arith) in
        let wide : i < 2 ^ group_bits = omega arith in
        rw (size-more i n (omega arith) b, ne_eqb (suc (size_of i)) 1 (λ z. let e : i ≡ 0 = size-zero i wide (omega arith) in omega arith))

-- ---- ready volumes

module _ (y : Layout) (s : State) where
  -- "The counts for all sizes add up to the number of ready volumes."
  pub counts-add-up : total group_bits (ready_count y s) ≡ ready_groups y s
  unfolding ready_count ready_groups size_of bound
  counts-add-up = by_size (ready_group y s) size_of group_bits (bound 2) (λ v h r. (
    ⊎_elim
        (λ (k : size_of v < 1). absurd (((ready-exactly y s v).0 r).names (size-zero v h (omega arith))))
        (λ (k : 1 ≤ size_of v). k)
        (sides (size_of v) 1),
    many-le (named v) group_bits,
  ))

  -- volumes of one take are the takes that could be signed alone
  pub singles-counted : ready_count y s 1 ≡ how_many group_bits (λ t. ready_group y s (2 ^ t))
  unfolding ready_count bound
  singles-counted = singles (ready_group y s) group_bits (omega arith)

-- ---- the call's returns

module _ (y : Layout) (img : List ℕ) (size : ℕ) where
  pub ready-16 : (length img ≡ image_bytes y → ⊥) → (16 ≡ ready_refusal y img size) × (0 ≡ ready_answer y img size)
  unfolding ready_refusal ready_answer
  ready-16 n = let e = wrong-length y img n in (rw e, rw e)

  module _ (long : length img ≡ image_bytes y) where
    pub ready-19 : not (well_formed y img) ≡ true → (19 ≡ ready_refusal y img size) × (0 ≡ ready_answer y img size)
    unfolding ready_refusal ready_answer
    ready-19 e = let l = right-length y img long in (rw (l, e), rw (l, e))

    module _ (formed : not (well_formed y img) ≡ false) where
      -- less than 1, or more than 16
      pub ready-low : size < 1 → (34 ≡ ready_refusal y img size) × (0 ≡ ready_answer y img size)
      unfolding ready_refusal ready_answer
      ready-low h =
          let l = right-length y img long in
          let e = lt-leb 1 size h in
          (rw (l, formed, e), rw (l, formed, e))

      module _ (low : 1 ≤ size) where
        pub ready-high : group_bits < size → (34 ≡ ready_refusal y img size) × (0 ≡ ready_answer y img size)
        unfolding ready_refusal ready_answer
        ready-high h =
            let l = right-length y img long in
            let e = le-leb 1 size low in
            let f = lt-leb size group_bits h in
            (rw (l, formed, e, f), rw (l, formed, e, f))

        -- counted by what each take needs
        pub ready-0 : size ≤ group_bits → WellFormed y (unpack y img) → y.transactors ≡ group_bits → {l : List ℕ} {v : ℕ} → Needed y img l v → (n : ℕ) → n ≡ met_count l v size
            → (0 ≡ ready_refusal y img size) × (n ≡ ready_answer y img size)
        unfolding ready_refusal ready_answer ready_count met_count
        ready-0 h well many {l} {v} found n e =
            let w = right-length y img long in
            let f = le-leb 1 size low in
            let g = le-leb size group_bits h in (
              rw (w, formed, f, g),
              rw (w, formed, f, g)
                  (e ∙ many-same (λ w. eqb (size_of w) size and meets l v w) (λ w. eqb (size_of w) size and ready_group y (unpack y img) w) (bound 2) (λ w b. tested w (eqb (size_of w) size) refl)),
            )
          where
            tested : (w : ℕ) (b : Bool) → eqb (size_of w) size ≡ b → b and meets l v w ≡ b and ready_group y (unpack y img) w
            tested w false p = refl
            tested w true p = meets-ready y img well many found w (λ z.
                let q : size_of w ≡ size = eqb-true (size_of w) size p in
                let o : size_of w ≡ 0 = ap size_of z ∙ zero-size in
                omega arith)

-- ---- the call's answers for all sizes, on an image that it takes

module _ (y : Layout) (img : List ℕ) (long : length img ≡ image_bytes y) (formed : not (well_formed y img) ≡ false) where
  answer-is : (size : ℕ) → 1 ≤ size → size ≤ group_bits → ready_answer y img size ≡ ready_count y (unpack y img) size
  unfolding ready_refusal ready_answer
  answer-is size low h = rw (right-length y img long, formed, le-leb 1 size low, le-leb size group_bits h)

  totals : (n : ℕ) → n ≤ group_bits → total n (ready_answer y img) ≡ total n (ready_count y (unpack y img))
  unfolding total
  totals zero h = refl
  totals (suc n) h = ap₂ (λ (a b : ℕ). a + b) (totals n (omega arith)) (answer-is (suc n) (omega arith) h)

  -- the same of what the call answers
  pub answers-add-up : total group_bits (ready_answer y img) ≡ ready_groups y (unpack y img)
  answers-add-up = totals group_bits (omega arith) ∙ counts-add-up y (unpack y img)
