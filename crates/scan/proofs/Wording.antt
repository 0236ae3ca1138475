-- What the functions over single words show.
use Prim.Native.Nat.{ℕ, zero, suc, ◌+◌, ◌-◌, ◌*◌, ◌/◌, ◌%◌, ◌^◌, ◌≤◌, ◌<◌}
use mathlib.Core.Bool.{Bool, true, false}
use mathlib.Core.Path.{◌≡◌, refl, sym, ap, ◌∙◌, subst}
use mathlib.Core.Logic.{⊎_elim}
use mathlib.Core.List.{List, [], ◌∷◌}
use native.Mathlib.Nat.{pow-succ'}
use native.Mathlib.Numerals.{add-one}
use native.Mathlib.Omega.{arith}
use borrow.Author.Tests.{le-leb, lt-leb, eq-eqb, ne_eqb, eqb-true, leb-true}
use lib.Dec.{eqb, leb}
use lib.ListN.{length, get_or}
use Rattle.octets.specs.Bytes.{pick, ◌and◌, part, every}
use Rattle.octets.specs.Numbers.{of_be}
use Rattle.octets.proofs.Put.{get_d_part}
use Rattle.octets.proofs.Tests.{and-false, never}
use Rattle.octets.proofs.Chunks.{sides}
use Rattle.octets.proofs.Zero.{both, every-at}
use Rattle.rules.specs.declared.Step.{Step}
use Rattle.rules.specs.Step.{unpack_step}
use Rattle.rules.specs.Refusals.{named}
use Rattle.rules.proofs.Bits.{add-fits, shifted}
use Rattle.notation.specs.Reading.{with_member, all, is_digit, is_hex, of_hex_digit, of_hex}
use Rattle.scan.specs.Internal.Words.{hex_value, is_whole}
use Rattle.scan.proofs.Walking.{all-passed}
use Rattle.std.specs.List.{list_all}

-- ---- one take of a volume

module _ (g t : ℕ) where
  pub member-on : g / 2 ^ t % 2 ≡ 1 → g ≡ with_member g t
  unfolding with_member named
  member-on e = rw e

  module _ (n : g / 2 ^ t % 2 ≡ 1 → ⊥) (h : t < 16) where
    off : named g t ≡ false
    unfolding named
    off = ne_eqb (g / 2 ^ t % 2) 1 n

    pub member-off : g + 1 * 2 ^ t % 65536 ≡ with_member g t
    unfolding with_member
    member-off = rw (off, shifted t 16 h)

    pub member-fits : g < 65536 → g + 1 * 2 ^ t % 65536 < 65536
    member-fits b = rw (shifted t 16 h) (add-fits g t 16 b h off)

-- ---- hexadecimal digits

pub whole-short : (w : List ℕ) → (length w ≡ 16 → ⊥) → eqb (length w) 16 ≡ is_whole w
unfolding is_whole
whole-short w n = rw (ne_eqb (length w) 16 n)

pub whole-long : (w : List ℕ) → length w ≡ 16 → (t : Bool) → t ≡ list_all is_hex w → t ≡ is_whole w
unfolding is_whole
whole-long w l t e = rw (eq-eqb (length w) 16 l) (e ∙ sym (all-passed is_hex w))

-- ---- sixteen digits

digit-small : (c : ℕ) → is_hex c ≡ true → of_hex_digit c < 16
unfolding is_hex is_digit of_hex_digit
digit-small c e = go (leb c 57) refl e
  where
    go : (t : Bool) → leb c 57 ≡ t → pick (leb 48 c and t) true (leb 97 c and leb c 102) ≡ true → pick t (c - 48) (c - 87) < 16
    go true b f = let h : c ≤ 57 = leb-true c 57 b in omega arith
    go false b f =
        let g : leb 97 c and leb c 102 ≡ true = ap (λ (t : Bool). pick t true (leb 97 c and leb c 102)) (sym (and-false (leb 48 c))) ∙ f in
        let h : c ≤ 102 = leb-true c 102 (both (leb 97 c) (leb c 102) g).1 in omega arith

hex-from : (c : ℕ) → is_hex c ≡ true → 48 ≤ c
unfolding is_hex is_digit
hex-from c e = ⊎_elim (λ (h : c < 48). never (sym (rw (lt-leb 48 c h, lt-leb 97 c (omega arith)) at e))) (λ (h : 48 ≤ c). h) (sides c 48)

hex-letter : (c : ℕ) → is_hex c ≡ true → 57 < c → 97 ≤ c
unfolding is_hex is_digit
hex-letter c e b = ⊎_elim (λ (h : c < 97). never (sym (rw (lt-leb c 57 b, and-false (leb 48 c), lt-leb 97 c h) at e))) (λ (h : 97 ≤ c). h) (sides c 97)

module _ (c : ℕ) (e : is_hex c ≡ true) where
  pub digit_low : c ≤ 57 → (c - 48 ≡ of_hex_digit c) × (c - 48 < 16)
  unfolding of_hex_digit
  digit_low b = (rw (le-leb c 57 b), omega arith)

  pub digit-from : 48 ≤ c
  digit-from = hex-from c e

  pub digit-letter : 57 < c → 97 ≤ c
  digit-letter b = hex-letter c e b

  pub digit-high : 57 < c → (c - 97 + 10 ≡ of_hex_digit c) × (c - 97 + 10 < 16)
  unfolding of_hex_digit
  digit-high b =
      let l = hex-letter c e b in
      let f : c - 97 + 10 ≡ of_hex_digit c = rw (lt-leb c 57 b) (omega arith) in
      (f, omega (arith, digit-small c e))

all-at : (f : ℕ → Bool) (w : List ℕ) → all f w ≡ true → (i : ℕ) → i < length w → f (get_or w i 0) ≡ true
unfolding all
all-at f [] e i h = absurd (omega arith)
all-at f (x ∷ w) e zero h = (both (f x) (all f w) e).0
all-at f (x ∷ w) e (suc i) h = all-at f w (both (f x) (all f w) e).1 i (omega arith)

power : ℕ → Bool
power i = leb (16 ^ i) 268435456

powers : every 8 power ≡ true
unfolding power every
powers = refl

module _ (w : List ℕ) (d : is_whole w ≡ true) where
  pub digits-length : length w ≡ 16
  unfolding is_whole
  digits-length = eqb-true (length w) 16 (both (eqb (length w) 16) (all is_hex w) d).0

  pub digit_at : (i : ℕ) → i < 16 → is_hex (get_or w i 0) ≡ true
  unfolding is_whole
  digit_at i h = all-at is_hex w (both (eqb (length w) 16) (all is_hex w) d).1 i (omega (arith, digits-length))

  module _ (at i x : ℕ) where
    pub hex-fits : i < 8 → x < 16 ^ i → x < 268435456
    unfolding power
    hex-fits h b = let p : 16 ^ i ≤ 268435456 = leb-true (16 ^ i) 268435456 (every-at power 8 i powers h) in omega arith

    pub hex-more : x ≡ hex_value w at i → x < 16 ^ i → (v : ℕ) → v ≡ of_hex_digit (get_or w (at + i) 0) → v < 16
        → (x * 16 + v ≡ hex_value w at (i + 1)) × (x * 16 + v < 16 ^ (i + 1))
    unfolding hex_value
    hex-more e b v f g =
        let p : 16 ^ suc i ≡ 16 * 16 ^ i = pow-succ' 16 i in
        let q : i + 1 ≡ suc i = add-one i in
        let r : x * 16 + v ≡ hex_value w at (suc i) = rw (e, f) in
        let s : x * 16 + v < 16 ^ suc i = omega arith in
        (r ∙ ap (hex_value w at) (sym q), subst (λ (k : ℕ). x * 16 + v < 16 ^ k) (sym q) s)

pub hex-none : (w : List ℕ) (at : ℕ) → 0 ≡ hex_value w at 0
unfolding hex_value
hex-none w at = refl

pub hex-end : (w : List ℕ) (at i n x : ℕ) → i ≡ n → (x ≡ hex_value w at i) × (x < 16 ^ i) → (x ≡ hex_value w at n) × (x < 16 ^ n)
hex-end w at i n x e h = subst (λ (k : ℕ). (x ≡ hex_value w at k) × (x < 16 ^ k)) e h

-- a byte is two digits
abbrev pair_at : List ℕ → ℕ → ℕ
pair_at w i = 16 * of_hex_digit (get_or w (2 * i) 0) + of_hex_digit (get_or w (2 * i + 1) 0)

get_or-of_hex : (w : List ℕ) (i : ℕ) → 2 * i + 1 < length w → get_or (of_hex w) i 0 ≡ pair_at w i
unfolding of_hex
get_or-of_hex [] i h = absurd (omega arith)
get_or-of_hex (a ∷ []) i h = absurd (omega arith)
get_or-of_hex (a ∷ b ∷ w) zero h = refl
get_or-of_hex (a ∷ b ∷ w) (suc i) h =
    let e : 2 * suc i ≡ suc (suc (2 * i)) = omega arith in
    let f : 2 * suc i + 1 ≡ suc (suc (2 * i + 1)) = omega arith in
    get_or-of_hex w i (omega arith) ∙ sym (λ j. 16 * of_hex_digit (get_or (a ∷ b ∷ w) (e j) 0) + of_hex_digit (get_or (a ∷ b ∷ w) (f j) 0))

pub whole_is : (w : List ℕ) → is_whole w ≡ true → (k t o z m v : ℕ)
    → k ≡ hex_value w 0 1 → t ≡ hex_value w 1 1 → o ≡ hex_value w 2 1 → z ≡ hex_value w 3 1 → m ≡ hex_value w 4 4 → v ≡ hex_value w 8 8
    → ◌≡◌ {A = Step} (record { kind = k; transactor = t; other = o; zero = z; message = m; value = v }) (unpack_step (of_hex w))
unfolding unpack_step hex_value of_be
whole_is w d k t o z m v ek et eo ez em ev =
    let l = digits-length w d in
    let b : (i : ℕ) → i < 8 → get_or (of_hex w) i 0 ≡ pair_at w i = λ i (h : i < 8). get_or-of_hex w i (omega arith) in
    let b0 = b 0 (omega arith) in
    let b1 = b 1 (omega arith) in
    let h0 = digit-small (get_or w 0 0) (digit_at w d 0 (omega arith)) in
    let h1 = digit-small (get_or w 1 0) (digit_at w d 1 (omega arith)) in
    let h2 = digit-small (get_or w 2 0) (digit_at w d 2 (omega arith)) in
    let h3 = digit-small (get_or w 3 0) (digit_at w d 3 (omega arith)) in
    let a0 : k ≡ get_or (of_hex w) 0 0 / 16 = omega arith in
    let a1 : t ≡ get_or (of_hex w) 0 0 % 16 = omega arith in
    let a2 : o ≡ get_or (of_hex w) 1 0 / 16 = omega arith in
    let a3 : z ≡ get_or (of_hex w) 1 0 % 16 = omega arith in
    let p2 : get_or (part 2 2 (of_hex w)) 0 0 ≡ pair_at w 2 = get_d_part 2 2 (of_hex w) 0 (omega arith) ∙ b 2 (omega arith) in
    let p3 : get_or (part 2 2 (of_hex w)) 1 0 ≡ pair_at w 3 = get_d_part 2 2 (of_hex w) 1 (omega arith) ∙ b 3 (omega arith) in
    let p4 : get_or (part 4 4 (of_hex w)) 0 0 ≡ pair_at w 4 = get_d_part 4 4 (of_hex w) 0 (omega arith) ∙ b 4 (omega arith) in
    let p5 : get_or (part 4 4 (of_hex w)) 1 0 ≡ pair_at w 5 = get_d_part 4 4 (of_hex w) 1 (omega arith) ∙ b 5 (omega arith) in
    let p6 : get_or (part 4 4 (of_hex w)) 2 0 ≡ pair_at w 6 = get_d_part 4 4 (of_hex w) 2 (omega arith) ∙ b 6 (omega arith) in
    let p7 : get_or (part 4 4 (of_hex w)) 3 0 ≡ pair_at w 7 = get_d_part 4 4 (of_hex w) 3 (omega arith) ∙ b 7 (omega arith) in
    let a4 : m ≡ of_be 2 (part 2 2 (of_hex w)) = omega arith in
    let a5 : v ≡ of_be 4 (part 4 4 (of_hex w)) = omega arith in
    λ i. record { kind = a0 i; transactor = a1 i; other = a2 i; zero = a3 i; message = a4 i; value = a5 i }
