-- Packed histories compared many bytes at a time (same_in, agree): the bytes of a place are the same exactly if its numbers are. A function has one
-- width, so these laws are about it; those of marks are over every width.
use Prim.Native.Nat.{ℕ, ◌+◌, ◌-◌, ◌*◌, ◌/◌, ◌%◌, ◌≤◌, ◌<◌}
use mathlib.Core.Bool.{Bool, true, false}
use mathlib.Core.Path.{◌≡◌, sym, ap, ◌∙◌}
use mathlib.Core.List.{List}
use mathlib.Core.Logic.{◌⊎◌, inl, inr}
use native.Mathlib.Omega.{arith}
use lib.ListN.{length, take, get_or}
use lib.Seq.{get_or-take}
use Rattle.octets.specs.Bytes.{◌and◌, part, alike, Octets}
use Rattle.octets.proofs.Put.{octet}
use Rattle.octets.proofs.Numbers.{two_bytes}
use Rattle.octets.proofs.Chunks.{sides, tabulate-same, tabulate-take, tabulate-get_or}
use Rattle.octets.proofs.Zero.{both}
use Rattle.octets.proofs.Tests as tests
use Rattle.octets.proofs.Alike.{alike-there, alike-made, alike-add, digit}
use Rattle.marks.specs.declared.History.{History}
use Rattle.marks.specs.Incarnation.{Incarnation, same_list, same_incarnation}
use Rattle.marks.specs.History.{incarnation_of, Roomy}
use Rattle.marks.specs.Packed.{width, places, history_size, history_in}
use Rattle.marks.proofs.Tests.{same_list-test, same_test}
use Rattle.marks.proofs.Packed.{length-unpack}
use Rattle.marks.proofs.Placed.{number-here, place_here}

module _ (s : List ℕ) where
  module _ (a : ℕ) (h : a + history_size width places ≤ length s) where
    place_is : (i : ℕ) → i < places → get_or (history_in width places s a).checkpoints i 0 ≡ get_or s (a + 1 + width + width * i) 0 * 256 + get_or s (a + 1 + width + width * i + 1) 0
    place_is i p = sym (place_here width places a s h i p) ∙ two_bytes (a + 1 + width + width * i) s

    number_is : (history_in width places s a).incarnation ≡ get_or s (a + 1) 0 * 256 + get_or s (a + 1 + 1) 0
    number_is = sym (number-here width places a s h) ∙ two_bytes (a + 1) s

module _ (s : List ℕ) (octets : Octets s) (a b : ℕ) (ha : a + history_size width places ≤ length s) (hb : b + history_size width places ≤ length s) where
  abbrev left : History
  left = history_in width places s a

  abbrev right : History
  right = history_in width places s b

  -- place i of both has the same number
  abbrev Same : ℕ → Type 0
  Same i = get_or left.checkpoints i 0 ≡ get_or right.checkpoints i 0

  same_number : (x y p q : ℕ) → get_or s x 0 ≡ get_or s y 0 → get_or s p 0 ≡ get_or s q 0 → get_or s x 0 * 256 + get_or s p 0 ≡ get_or s y 0 * 256 + get_or s q 0
  same_number x y p q e f = rw (e, f)

  -- a window of bytes, and the places in it
  module _ (x y n : ℕ) (even : x + b ≡ y + a) where
    near : alike s x y n ≡ true → (i : ℕ) → x ≤ a + 1 + width + width * i → a + 1 + width + width * i + 1 < x + n → i < places → Same i
    near e i h k l =
        place_is s a ha i l
        ∙ same_number (a + 1 + width + width * i) (b + 1 + width + width * i) (a + 1 + width + width * i + 1) (b + 1 + width + width * i + 1)
        (alike-there s x y n e (a + 1 + width + width * i) (b + 1 + width + width * i) (omega arith) (omega arith) (omega arith))
        (alike-there s x y n e (a + 1 + width + width * i + 1) (b + 1 + width + width * i + 1) (omega arith) (omega arith) (omega arith))
        ∙ sym (place_is s b hb i l)

  -- the two bytes of a place
  bytes_of : (i : ℕ) → i < places → Same i
      → (get_or s (a + 1 + width + width * i) 0 ≡ get_or s (b + 1 + width + width * i) 0) × (get_or s (a + 1 + width + width * i + 1) 0 ≡ get_or s (b + 1 + width + width * i + 1) 0)
  bytes_of i h e = digit _ _ _ _ (octet s octets (a + 1 + width + width * i + 1)) (octet s octets (b + 1 + width + width * i + 1)) (sym (place_is s a ha i h) ∙ e ∙ place_is s b hb i h)

  -- the byte at u, of place (u - a - 3) / 2
  byte_at : (u v : ℕ) → u + b ≡ v + a → a + 3 ≤ u → u < a + 33 → Same ((u - (a + 3)) / 2) → get_or s u 0 ≡ get_or s v 0
  byte_at u v even h k e = go (sides ((u - (a + 3)) % 2) 1)
    where
      i : ℕ
      i = (u - (a + 3)) / 2

      there : (get_or s (a + 1 + width + width * ((u - (a + 3)) / 2)) 0 ≡ get_or s (b + 1 + width + width * ((u - (a + 3)) / 2)) 0) × (get_or s (a + 1 + width + width * ((u - (a + 3)) / 2) + 1) 0 ≡ get_or s (b + 1 + width + width * ((u - (a + 3)) / 2) + 1) 0)
      there = bytes_of ((u - (a + 3)) / 2) (omega arith) e

      go : ((u - (a + 3)) % 2 < 1) ⊎ (1 ≤ (u - (a + 3)) % 2) → get_or s u 0 ≡ get_or s v 0
      go (inl p) =
          let m : u ≡ a + 1 + width + width * ((u - (a + 3)) / 2) = omega arith in
          let n : b + 1 + width + width * ((u - (a + 3)) / 2) ≡ v = omega arith in
          ap (λ (k : ℕ). get_or s k 0) m ∙ there.0 ∙ ap (λ (k : ℕ). get_or s k 0) n
      go (inr p) =
          let m : u ≡ a + 1 + width + width * ((u - (a + 3)) / 2) + 1 = omega arith in
          let n : b + 1 + width + width * ((u - (a + 3)) / 2) + 1 ≡ v = omega arith in
          ap (λ (k : ℕ). get_or s k 0) m ∙ there.1 ∙ ap (λ (k : ℕ). get_or s k 0) n

  -- ---- the first n places, by the first eight and the last eight

  module _ (n : ℕ) (low : 8 ≤ n) (high : n ≤ places) where
    abbrev first : Bool
    first = alike s (a + 1 + width) (b + 1 + width) 16

    abbrev last : Bool
    last = alike s (a + 1 + width + width * (n - 8)) (b + 1 + width + width * (n - 8)) 16

    abbrev agree : Bool
    agree = same_list (take n left.checkpoints) (take n right.checkpoints)

    wide : first and last ≡ agree
    wide = tests.same_test (first and last) agree to of
      where
        to : first and last ≡ true → agree ≡ true
        to e =
            let p = both first last e in
            let f : (i : ℕ) → i < n → Same i = λ i h. go p.0 p.1 i h (sides i 8) in
            (same_list-test (take n left.checkpoints) (take n right.checkpoints)).1
            (sym (tabulate-take left.checkpoints 0 n (omega (arith, length-unpack width places (part a (history_size width places) s))))
            ∙ tabulate-same n (λ (i : ℕ). get_or left.checkpoints i 0) (λ (i : ℕ). get_or right.checkpoints i 0) f
            ∙ tabulate-take right.checkpoints 0 n (omega (arith, length-unpack width places (part b (history_size width places) s))))
          where
            go : first ≡ true → last ≡ true → (i : ℕ) → i < n → (i < 8) ⊎ (8 ≤ i) → Same i
            go p q i h (inl k) = near (a + 1 + width) (b + 1 + width) 16 (omega arith) p i (omega arith) (omega arith) (omega arith)
            go p q i h (inr k) = near (a + 1 + width + width * (n - 8)) (b + 1 + width + width * (n - 8)) 16 (omega arith) q i (omega arith) (omega arith) (omega arith)

        of : agree ≡ true → first and last ≡ true
        of e =
            let q : take n left.checkpoints ≡ take n right.checkpoints = (same_list-test (take n left.checkpoints) (take n right.checkpoints)).0 e in
            let f : (i : ℕ) → i < n → Same i = λ i h. sym (get_or-take {A = ℕ} n left.checkpoints i 0 h) ∙ ap (λ (l : List ℕ). get_or l i 0) q ∙ get_or-take {A = ℕ} n right.checkpoints i 0 h in
            tests.and-of first last
            (alike-made s (a + 1 + width) (b + 1 + width) 16 (λ u v h k m. byte_at u v (omega arith) (omega arith) (omega arith) (f ((u - (a + 3)) / 2) (omega arith))))
            (alike-made s (a + 1 + width + width * (n - 8)) (b + 1 + width + width * (n - 8)) 16
            (λ u v h k m. byte_at u v (omega arith) (omega arith) (omega arith) (f ((u - (a + 3)) / 2) (omega arith))))

    pub wide-first : alike s (a + 1 + width) (b + 1 + width) 16 ≡ false → false ≡ agree
    wide-first e = sym (sym wide ∙ rw e)

    pub wide-last : alike s (a + 1 + width) (b + 1 + width) 16 ≡ true → alike s (a + 1 + width + width * (n - 8)) (b + 1 + width + width * (n - 8)) 16 ≡ agree
    wide-last e = sym (sym wide ∙ rw e)

  -- ---- all bytes but the first

  module _ (ra : Roomy places (history_in width places s a)) (rb : Roomy places (history_in width places s b)) (counts : (history_in width places s a).count ≡ (history_in width places s b).count) where
    abbrev same : Bool
    same = same_incarnation (incarnation_of left) (incarnation_of right)

    whole : alike s (a + 1) (b + 1) 32 ≡ same
    whole = tests.same_test (alike s (a + 1) (b + 1) 32) same to of
      where
        to : alike s (a + 1) (b + 1) 32 ≡ true → same ≡ true
        to e =
            let n : left.incarnation ≡ right.incarnation =
            number_is s a ha
            ∙ same_number (a + 1) (b + 1) (a + 1 + 1) (b + 1 + 1)
            (alike-there s (a + 1) (b + 1) 32 e (a + 1) (b + 1) (omega arith) (omega arith) (omega arith))
            (alike-there s (a + 1) (b + 1) 32 e (a + 1 + 1) (b + 1 + 1) (omega arith) (omega arith) (omega arith))
            ∙ sym (number_is s b hb) in
            let f : (i : ℕ) → i < places → Same i = λ i h. near (a + 1) (b + 1) 32 (omega arith) e i (omega arith) (omega arith) h in
            let l : left.checkpoints ≡ right.checkpoints =
            sym (tabulate-get_or left.checkpoints 0 places (length-unpack width places (part a (history_size width places) s)))
            ∙ tabulate-same places (λ (i : ℕ). get_or left.checkpoints i 0) (λ (i : ℕ). get_or right.checkpoints i 0) f
            ∙ tabulate-get_or right.checkpoints 0 places (length-unpack width places (part b (history_size width places) s)) in
            (same_test (incarnation_of left) (incarnation_of right)).1 (λ k. record { checkpoints = take (counts k) (l k); number = n k })

        of : same ≡ true → alike s (a + 1) (b + 1) 32 ≡ true
        of e = alike-made s (a + 1) (b + 1) 32 (λ u v h k m. byte u v h k m (sides u (a + 3)))
          where
            q : incarnation_of left ≡ incarnation_of right
            q = (same_test (incarnation_of left) (incarnation_of right)).0 e

            used : take left.count left.checkpoints ≡ take right.count right.checkpoints
            used = ap (λ (x : Incarnation). x.checkpoints) q

            place : (i : ℕ) → (i < left.count) ⊎ (left.count ≤ i) → Same i
            place i (inl h) =
                sym (get_or-take {A = ℕ} left.count left.checkpoints i 0 h) ∙ ap (λ (l : List ℕ). get_or l i 0) used ∙ get_or-take {A = ℕ} right.count right.checkpoints i 0 (omega (arith, counts, h))
            place i (inr h) = ra.unused i h ∙ sym (rb.unused i (omega (arith, counts, h)))

            number : (get_or s (a + 1) 0 ≡ get_or s (b + 1) 0) × (get_or s (a + 1 + 1) 0 ≡ get_or s (b + 1 + 1) 0)
            number = digit _ _ _ _ (octet s octets (a + 1 + 1)) (octet s octets (b + 1 + 1)) (sym (number_is s a ha) ∙ ap (λ (x : Incarnation). x.number) q ∙ number_is s b hb)

            byte : (u v : ℕ) → a + 1 ≤ u → u < a + 1 + 32 → u + (b + 1) ≡ v + (a + 1) → (u < a + 3) ⊎ (a + 3 ≤ u) → get_or s u 0 ≡ get_or s v 0
            byte u v h k m (inr p) = byte_at u v (omega arith) (omega arith) (omega arith) (place ((u - (a + 3)) / 2) (sides ((u - (a + 3)) / 2) left.count))
            byte u v h k m (inl p) = go (sides u (a + 2))
              where
                go : (u < a + 2) ⊎ (a + 2 ≤ u) → get_or s u 0 ≡ get_or s v 0
                go (inl r) = let x : u ≡ a + 1 = omega arith in let y : b + 1 ≡ v = omega arith in ap (λ (i : ℕ). get_or s i 0) x ∙ number.0 ∙ ap (λ (i : ℕ). get_or s i 0) y
                go (inr r) = let x : u ≡ a + 1 + 1 = omega arith in let y : b + 1 + 1 ≡ v = omega arith in ap (λ (i : ℕ). get_or s i 0) x ∙ number.1 ∙ ap (λ (i : ℕ). get_or s i 0) y

    pub whole-first : alike s (a + 1) (b + 1) 16 ≡ false → false ≡ same
    whole-first e = sym (sym whole ∙ alike-add s (a + 1) (b + 1) 16 16 ∙ rw e)

    pub whole-last : alike s (a + 1) (b + 1) 16 ≡ true → alike s (a + 1 + 16) (b + 1 + 16) 16 ≡ same
    whole-last e = sym (sym whole ∙ alike-add s (a + 1) (b + 1) 16 16 ∙ rw e)
