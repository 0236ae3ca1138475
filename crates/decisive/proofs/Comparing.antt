-- Two packed marks compared: each return of the code.
use Prim.Native.Nat.{ℕ}
use mathlib.Core.Bool.{Bool, true, false, not}
use mathlib.Core.Path.{◌≡◌, refl, sym, ap, ◌∙◌}
use mathlib.Core.List.{List}
use mir.Val.{bool_byte}
use native.Mathlib.Omega.{arith}
use lib.ListN.{length}
use lib.Dec.{eqb}
use borrow.Author.Tests.{eq-eqb, ne_eqb, eqb-true}
use Rattle.octets.specs.Bytes.{pick, part}
use Rattle.octets.proofs.Put.{part-whole}
use Rattle.octets.proofs.Tests.{passed, pick-zero}
use Rattle.marks.specs.declared.History.{History}
use Rattle.marks.specs.Packed.{width, places, history_size, bit, unpack_history, present_in, formed_history}
use Rattle.marks.specs.History.{incarnation_of, is_older}
use Rattle.marks.specs.Relation.{relation_of, relation_number}
use Rattle.rules.specs.declared.refusals.Refusal.{Refusal}
use Rattle.rules.specs.Numbers.{refusal_number}
use Rattle.decisive.specs.Compared.{compared_of, is_history, compare_refusal, uncompared, compare_answer, ComparePromise}

-- ---- the newer, as a number

byte-bit : (b : Bool) → bool_byte b ≡ bit b
byte-bit true = refl
byte-bit false = refl

pub bit-byte : {v : ℕ} {b c : Bool} → v ≡ bool_byte b → b ≡ c → v ≡ bit c
bit-byte {b = b} e f = e ∙ byte-bit b ∙ ap bit f

-- ---- bytes that are a mark

module _ (b : List ℕ) (long : length b ≡ history_size width places) {p : Bool} (e : p ≡ present_in (part 0 (history_size width places) b)) where
  whole : part 0 (history_size width places) b ≡ b
  whole = part-whole (history_size width places) b long

  present : p ≡ present_in b
  present = e ∙ ap present_in whole

  pub mark-absent : p ≡ false → false ≡ is_history b
  unfolding is_history
  mark-absent h = rw (← present, h)

  pub mark-formed : p ≡ true → {r : Bool} → r ≡ formed_history width places (part 0 (history_size width places) b) → r ≡ is_history b
  unfolding is_history
  mark-formed h q = rw (← present, h) (q ∙ ap (formed_history width places) whole)

-- ---- refusals

module _ (a b : List ℕ) where
  pub left-long : (length a ≡ history_size width places → ⊥) → 16 ≡ compare_refusal a b
  unfolding compare_refusal
  left-long h = rw (ne_eqb (length a) (history_size width places) h)

  module _ (l : length a ≡ history_size width places) where
    pub right-long : (length b ≡ history_size width places → ⊥) → 16 ≡ compare_refusal a b
    unfolding compare_refusal
    right-long h = rw (eq-eqb (length a) (history_size width places) l, ne_eqb (length b) (history_size width places) h)

    module _ (m : length b ≡ history_size width places) {p : Bool} (e : p ≡ is_history a) where
      pub left-no-mark : p ≡ false → 19 ≡ compare_refusal a b
      unfolding compare_refusal
      left-no-mark h = rw (eq-eqb (length a) (history_size width places) l, eq-eqb (length b) (history_size width places) m, ← e, h)

      module _ (h : p ≡ true) {q : Bool} (f : q ≡ is_history b) where
        pub right-no-mark : q ≡ false → 19 ≡ compare_refusal a b
        unfolding compare_refusal
        right-no-mark g = rw (eq-eqb (length a) (history_size width places) l, eq-eqb (length b) (history_size width places) m, ← e, h, ← f, g)

        pub both-marks : q ≡ true → 0 ≡ compare_refusal a b
        unfolding compare_refusal
        both-marks g = rw (eq-eqb (length a) (history_size width places) l, eq-eqb (length b) (history_size width places) m, ← e, h, ← f, g)

  -- ---- the call

  pub compare-refused : (r : Refusal) → refusal_number r ≡ compare_refusal a b → ComparePromise a b (refusal_number r) uncompared
  unfolding compare_answer
  compare-refused r e = (e, sym (rw (← e, ne_eqb (refusal_number r) 0 (λ z. grind arith))))

  module _ (z : 0 ≡ compare_refusal a b) where
    tested : compare_refusal a b ≡ 0 → (not (eqb (length a) (history_size width places)) ≡ false) × (not (eqb (length b) (history_size width places)) ≡ false)
    unfolding compare_refusal
    tested o =
        let rest : ℕ = pick (not (is_history a)) 19 (pick (not (is_history b)) 19 0) in
        let more : ℕ = pick (not (eqb (length b) (history_size width places))) 16 rest in
        let x = pick-zero (not (eqb (length a) (history_size width places))) 16 more (omega arith) o in
        (x.0, (pick-zero (not (eqb (length b) (history_size width places))) 16 rest (omega arith) x.1).0)

    pub left-length : length a ≡ history_size width places
    left-length = eqb-true (length a) (history_size width places) (passed refl (tested (sym z)).0)

    pub right-length : length b ≡ history_size width places
    right-length = eqb-true (length b) (history_size width places) (passed refl (tested (sym z)).1)

    pub compare-answered : {x y : History} → x ≡ unpack_history width places (part 0 (history_size width places) a) → y ≡ unpack_history width places (part 0 (history_size width places) b)
        → {k v : ℕ} → k ≡ relation_number (relation_of (incarnation_of x) (incarnation_of y)) → v ≡ bit (is_older x y)
        → ComparePromise a b 0 (record { relation = k; newer = v })
    unfolding compare_answer compared_of
    compare-answered {x} {y} f g {k} {v} p w =
        let s : x ≡ unpack_history width places a = f ∙ ap (unpack_history width places) (part-whole (history_size width places) a left-length) in
        let t : y ≡ unpack_history width places b = g ∙ ap (unpack_history width places) (part-whole (history_size width places) b right-length) in
        (z, rw (← z, ← s, ← t, p, w) refl)
