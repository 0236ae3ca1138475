-- Takes by a table of what is new, and parcels by number: lists that steps change.
use Prim.Native.Nat.{ℕ, zero, suc, ◌+◌, ◌<◌}
use mathlib.Core.Bool.{Bool, true, false}
use mathlib.Core.Path.{◌≡◌, refl, sym, ap, ◌∙◌}
use mathlib.Core.List.{List, [], ◌∷◌, ◌++◌}
use mathlib.Core.Logic.{◌⊎◌, inl, inr, ⊎_elim}
use mathlib.Core.Option.{Option, none, some}
use native.Mathlib.Numerals.{add-one}
use native.Mathlib.Omega.{arith}
use lib.Dec.{eqb, leb, leb-zero, leb-suc-zero, leb-suc-suc, eqb-zero-suc, eqb-suc-zero, eqb-suc-suc}
use lib.ListN.{length, get_or, set, take, drop}
use borrow.Author.Tests.{eqb-true}
use Rattle.octets.specs.Bytes.{pick, tabulate}
use Rattle.octets.proofs.Chunks.{tabulate-same, tabulate-get_or}
use Rattle.octets.proofs.Tests.{never}
use Rattle.rules.specs.State.{Transactor, Message, no_transactor, no_message, place_from}

-- ---- takes

-- a take, new or as it was
unfoldable pub over : Option Transactor → Transactor → Transactor
over none x = x
over (some z) x = z

-- the takes after a change, of which f tells which are new
unfoldable pub overlay : (ℕ → Option Transactor) → List Transactor → List Transactor
overlay f [] = []
overlay f (x ∷ xs) = over (f 0) x ∷ overlay (λ t. f (suc t)) xs

pub length-overlay : (f : ℕ → Option Transactor) (l : List Transactor) → length (overlay f l) ≡ length l
unfolding overlay
length-overlay f [] = refl
length-overlay f (x ∷ xs) = ap suc (length-overlay (λ t. f (suc t)) xs)

get_or-overlay : (f : ℕ → Option Transactor) (l : List Transactor) (t : ℕ) (d : Transactor) → t < length l → get_or (overlay f l) t d ≡ over (f t) (get_or l t d)
unfolding overlay
get_or-overlay f [] t d h = absurd (omega arith)
get_or-overlay f (x ∷ xs) zero d h = refl
get_or-overlay f (x ∷ xs) (suc t) d h = get_or-overlay (λ t. f (suc t)) xs t d (omega arith)

-- a take that is not new stays as it was
pub overlay-none : (f : ℕ → Option Transactor) (l : List Transactor) (t : ℕ) (d : Transactor) → f t ≡ none → get_or (overlay f l) t d ≡ get_or l t d
unfolding overlay over
overlay-none f [] t d e = refl
overlay-none f (x ∷ xs) zero d e = rw e
overlay-none f (x ∷ xs) (suc t) d e = overlay-none (λ t. f (suc t)) xs t d e

-- a take that is new is found in the list, unless its number is past the list's end
pub overlay-some : (f : ℕ → Option Transactor) (l : List Transactor) (t : ℕ) (d x : Transactor) → f t ≡ some x → (get_or (overlay f l) t d ≡ x) ⊎ (get_or (overlay f l) t d ≡ get_or l t d)
unfolding overlay over
overlay-some f [] t d x e = inr refl
overlay-some f (z ∷ zs) zero d x e = inl (rw e)
overlay-some f (z ∷ zs) (suc t) d x e = overlay-some (λ t. f (suc t)) zs t d x e

-- if no take is new, the list stays as it was
pub overlay-nothing : (l : List Transactor) → overlay (λ t. none) l ≡ l
unfolding overlay over
overlay-nothing [] = refl
overlay-nothing (x ∷ xs) = ap {B = List Transactor} (λ r. x ∷ r) (overlay-nothing xs)

-- two changes in which no take is new twice may change places
pub overlay-comm : (f g : ℕ → Option Transactor) (l : List Transactor) → ((t : ℕ) → (f t ≡ none) ⊎ (g t ≡ none)) → overlay f (overlay g l) ≡ overlay g (overlay f l)
unfolding overlay over
overlay-comm f g [] h = refl
overlay-comm f g (x ∷ xs) h =
    let e : over (f 0) (over (g 0) x) ≡ over (g 0) (over (f 0) x) = ⊎_elim (λ (e : f 0 ≡ none). rw e) (λ (e : g 0 ≡ none). rw e) (h 0) in
    let r : overlay (λ t. f (suc t)) (overlay (λ t. g (suc t)) xs) ≡ overlay (λ t. g (suc t)) (overlay (λ t. f (suc t)) xs) = overlay-comm (λ t. f (suc t)) (λ t. g (suc t)) xs (λ t. h (suc t)) in
    λ i. e i ∷ r i

-- of a take that is new twice the later one counts
pub overlay-picked : (c : ℕ → Bool) (x : Transactor) (g : ℕ → Option Transactor) (l : List Transactor) → overlay (λ u. pick (c u) (some x) none) (overlay g l) ≡ overlay (λ u. pick (c u) (some x) (g u)) l
unfolding overlay over
overlay-picked c x g [] = refl
overlay-picked c x g (z ∷ zs) =
    let r : overlay (λ u. pick (c (suc u)) (some x) none) (overlay (λ u. g (suc u)) zs) ≡ overlay (λ u. pick (c (suc u)) (some x) (g (suc u))) zs = overlay-picked (λ u. c (suc u)) x (λ u. g (suc u)) zs in
    λ i. go (c 0) i ∷ r i
  where
    go : (b : Bool) → over (pick b (some x) none) (over (g 0) z) ≡ over (pick b (some x) (g 0)) z
    go true = refl
    go false = refl

-- a change in which one take is new
abbrev pub single : ℕ → Transactor → ℕ → Option Transactor
single t x u = pick (eqb u t) (some x) none

pub set-overlay : (l : List Transactor) (t : ℕ) (x : Transactor) → set l t x ≡ overlay (single t x) l
unfolding overlay over
set-overlay [] t x = refl
set-overlay (z ∷ zs) zero x =
    let e : ◌≡◌ {A = ℕ → Option Transactor} (λ u. single 0 x (suc u)) (λ u. none) = λ i u. pick (eqb-suc-zero u i) (some x) none in
    ap {B = List Transactor} (λ r. x ∷ r) (sym (overlay-nothing zs) ∙ ap (λ f. overlay f zs) (sym e))
set-overlay (z ∷ zs) (suc t) x =
    let e : ◌≡◌ {A = ℕ → Option Transactor} (λ u. single (suc t) x (suc u)) (single t x) = λ i u. pick (eqb-suc-suc u t i) (some x) none in
    let z0 : single (suc t) x 0 ≡ none = λ i. pick (eqb-zero-suc t i) (some x) none in
    let r : set zs t x ≡ overlay (λ u. single (suc t) x (suc u)) zs = set-overlay zs t x ∙ ap (λ f. overlay f zs) (sym e) in
    λ i. over (sym z0 i) z ∷ r i

-- a list of all takes, made anew
pub tabulate-overlay : (f : ℕ → Option Transactor) (g : ℕ → Transactor) (l : List Transactor) (n : ℕ) → length l ≡ n → ((t : ℕ) → g t ≡ over (f t) (get_or l t no_transactor)) → tabulate n g ≡ overlay f l
tabulate-overlay f g l n e h =
    tabulate-same n g (λ t. get_or (overlay f l) t no_transactor) (λ t p. h t ∙ sym (get_or-overlay f l t no_transactor (omega arith)))
    ∙ tabulate-get_or (overlay f l) no_transactor n (length-overlay f l ∙ e)

-- ---- parcels

-- the parcels without the first that has number n
unfoldable pub without : ℕ → List Message → List Message
without n [] = []
without n (m ∷ ms) = pick (eqb m.number n) ms (m ∷ without n ms)

-- the first that has number n
unfoldable pub found : ℕ → List Message → Message
found n [] = no_message
found n (m ∷ ms) = pick (eqb m.number n) m (found n ms)

unfoldable pub absent : ℕ → List Message → Bool
absent n [] = true
absent n (m ∷ ms) = pick (eqb m.number n) false (absent n ms)

-- the place where it stands
abbrev place : ℕ → List Message → ℕ
place n ms = place_from (λ k. eqb (get_or ms k no_message).number n) 0 (length ms)

shifted : (f : ℕ → Bool) (k n : ℕ) → place_from f (suc k) n ≡ suc (place_from (λ i. f (suc i)) k n)
unfolding place_from
shifted f k zero = refl
shifted f k (suc n) = go (shifted f (suc k) n) (f (suc k))
  where
    go : place_from f (suc (suc k)) n ≡ suc (place_from (λ i. f (suc i)) (suc k) n) → (c : Bool) → pick c (suc k) (place_from f (suc (suc k)) n) ≡ suc (pick c k (place_from (λ i. f (suc i)) (suc k) n))
    go r true = refl
    go r false = r

place-cons : (n : ℕ) (m : Message) (ms : List Message) → place n (m ∷ ms) ≡ pick (eqb m.number n) 0 (suc (place n ms))
unfolding place_from
place-cons n m ms = ap (pick (eqb m.number n) 0) (shifted (λ k. eqb (get_or (m ∷ ms) k no_message).number n) 0 (length ms))

pub found-is : (n : ℕ) (ms : List Message) → get_or ms (place n ms) no_message ≡ found n ms
unfolding found
found-is n [] = refl
found-is n (m ∷ ms) = rw (place-cons n m ms) (go (found-is n ms) (eqb m.number n))
  where
    go : get_or ms (place n ms) no_message ≡ found n ms → (c : Bool) → get_or (m ∷ ms) (pick c 0 (suc (place n ms))) no_message ≡ pick c m (found n ms)
    go r true = refl
    go r false = r

pub absent-is : (n : ℕ) (ms : List Message) → leb (length ms) (place n ms) ≡ absent n ms
unfolding absent
absent-is n [] = leb-zero (place n [])
absent-is n (m ∷ ms) = rw (place-cons n m ms) (go (absent-is n ms) (eqb m.number n))
  where
    go : leb (length ms) (place n ms) ≡ absent n ms → (c : Bool) → leb (suc (length ms)) (pick c 0 (suc (place n ms))) ≡ pick c false (absent n ms)
    go r true = leb-suc-zero (length ms)
    go r false = leb-suc-suc (length ms) (place n ms) ∙ r

pub without_is : (n : ℕ) (ms : List Message) → take (place n ms) ms ++ drop (place n ms + 1) ms ≡ without n ms
unfolding without place_from
without_is n [] = refl
without_is n (m ∷ ms) = rw (place-cons n m ms) (go (without_is n ms) (eqb m.number n))
  where
    go : take (place n ms) ms ++ drop (place n ms + 1) ms ≡ without n ms → (c : Bool) → take (pick c 0 (suc (place n ms))) (m ∷ ms) ++ drop (pick c 0 (suc (place n ms)) + 1) (m ∷ ms) ≡ pick c ms (m ∷ without n ms)
    go r true = refl
    go r false = rw (add-one (suc (place n ms))) (ap {B = List Message} (λ l. m ∷ l) (rw (add-one (place n ms)) at r))

-- ---- one taken away, one more: the others are found as before

module _ (n k : ℕ) (apart : n ≡ k → ⊥) where
  -- no parcel has both numbers
  not-both : {A : Type 0} (i : ℕ) → eqb i n ≡ true → eqb i k ≡ true → A
  not-both i e f = absurd (apart (sym (eqb-true i n e) ∙ eqb-true i k f))

  pub found-without : (ms : List Message) → found n (without k ms) ≡ found n ms
  unfolding found without
  found-without [] = refl
  found-without (m ∷ ms) = go (found-without ms) (eqb m.number n) refl (eqb m.number k) refl
    where
      go : found n (without k ms) ≡ found n ms → (c : Bool) → eqb m.number n ≡ c → (d : Bool) → eqb m.number k ≡ d → found n (pick (eqb m.number k) ms (m ∷ without k ms)) ≡ pick (eqb m.number n) m (found n ms)
      go r true e true f = not-both m.number e f
      go r true e false f = rw (e, f) (rw e)
      go r false e true f = rw (e, f)
      go r false e false f = rw (e, f) (rw e r)

  pub absent-without : (ms : List Message) → absent n (without k ms) ≡ absent n ms
  unfolding absent without
  absent-without [] = refl
  absent-without (m ∷ ms) = go (absent-without ms) (eqb m.number n) refl (eqb m.number k) refl
    where
      go : absent n (without k ms) ≡ absent n ms → (c : Bool) → eqb m.number n ≡ c → (d : Bool) → eqb m.number k ≡ d → absent n (pick (eqb m.number k) ms (m ∷ without k ms)) ≡ pick (eqb m.number n) false (absent n ms)
      go r true e true f = not-both m.number e f
      go r true e false f = rw (e, f) (rw e)
      go r false e true f = rw (e, f)
      go r false e false f = rw (e, f) (rw e r)

  pub without-comm : (ms : List Message) → without n (without k ms) ≡ without k (without n ms)
  unfolding without
  without-comm [] = refl
  without-comm (m ∷ ms) = go (without-comm ms) (eqb m.number n) refl (eqb m.number k) refl
    where
      go : without n (without k ms) ≡ without k (without n ms) → (c : Bool) → eqb m.number n ≡ c → (d : Bool) → eqb m.number k ≡ d
          → without n (pick (eqb m.number k) ms (m ∷ without k ms)) ≡ without k (pick (eqb m.number n) ms (m ∷ without n ms))
      go r true e true f = not-both m.number e f
      go r true e false f = rw (e, f) (rw e)
      go r false e true f = rw (e, f)
      go r false e false f = rw (e, f) (rw e (ap {B = List Message} (λ l. m ∷ l) r))

module _ (n : ℕ) (x : Message) (other : eqb x.number n ≡ false) where
  pub found-append : (ms : List Message) → found n (ms ++ (x ∷ [])) ≡ found n ms
  unfolding found
  found-append [] = rw other
  found-append (m ∷ ms) = ap (pick (eqb m.number n) m) (found-append ms)

  pub absent-append : (ms : List Message) → absent n (ms ++ (x ∷ [])) ≡ absent n ms
  unfolding absent
  absent-append [] = rw other
  absent-append (m ∷ ms) = ap (pick (eqb m.number n) false) (absent-append ms)

  pub without-append : (ms : List Message) → without n (ms ++ (x ∷ [])) ≡ without n ms ++ (x ∷ [])
  unfolding without
  without-append [] = rw other
  without-append (m ∷ ms) = go (without-append ms) (eqb m.number n)
    where
      go : without n (ms ++ (x ∷ [])) ≡ without n ms ++ (x ∷ []) → (c : Bool) → pick c (ms ++ (x ∷ [])) (m ∷ without n (ms ++ (x ∷ []))) ≡ pick c ms (m ∷ without n ms) ++ (x ∷ [])
      go r true = refl
      go r false = ap {B = List Message} (λ l. m ∷ l) r

pub length_without : (n : ℕ) (ms : List Message) → absent n ms ≡ false → length (without n ms) + 1 ≡ length ms
unfolding absent without
length_without n [] e = never e
length_without n (m ∷ ms) e = go (length_without n ms) (eqb m.number n) e
  where
    go : (absent n ms ≡ false → length (without n ms) + 1 ≡ length ms) → (c : Bool) → pick c false (absent n ms) ≡ false → length (pick c ms (m ∷ without n ms)) + 1 ≡ suc (length ms)
    go f true e = add-one (length ms)
    go f false e = let r : length (without n ms) + 1 ≡ length ms = f e in omega arith
