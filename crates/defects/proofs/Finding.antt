-- The first clause that fails: each return of the code.
use Prim.Native.Nat.{ℕ, zero, suc, ◌+◌, ◌≤◌, ◌<◌}
use mathlib.Core.Bool.{true, false, not}
use mathlib.Core.Path.{◌≡◌, refl, ap, ◌∙◌}
use mathlib.Core.List.{List}
use mathlib.Core.Logic.{⊎_elim}
use native.Mathlib.Numerals.{add-one}
use native.Mathlib.Omega.{arith}
use lib.ListN.{length, get_or}
use borrow.Author.Tests.{eq-eqb, ne_eqb, le-leb, lt-leb, not-true, not-false}
use Rattle.octets.specs.Bytes.{pick, part}
use Rattle.octets.proofs.Chunks.{sides}
use Rattle.octets.specs.Numbers.{of_be}
use Rattle.rules.specs.Layout.{base, limits_of, in_range, image_bytes, message_address}
use Rattle.rules.specs.Pack.{waiting_in, unpack}
use Rattle.rules.specs.Form.{limits_zero}
use Rattle.rules.proofs.Calls.Begin.{wrong-length, right-length}
use Rattle.std.specs.Prelude.{Option, Some, None, Ok}
use Rattle.defects.specs.declared.Defect.{Defect}
use Rattle.defects.specs.declared.Clause.TheVariants.{FrontZeros, WrongLimits, OverLimit}
use Rattle.defects.specs.Defect.{is_sound, told_refusal, or_else, first_of, front_defect, transactor_defect, least_number, message_defect, defect_of, defect_refusal, defect_found, DefectPromise}

-- ---- the head and the limits, test by test

module _ (img : List ℕ) where
  pub front-blank : (get_or img 3 0 ≡ 0 → ⊥) → Some (record { at = 3; clause = FrontZeros }) ≡ front_defect base img
  unfolding front_defect
  front-blank n = rw (ne_eqb (get_or img 3 0) 0 n)

  module _ (blank : get_or img 3 0 ≡ 0) where
    pub front-fourth : (get_or img 7 0 ≡ 0 → ⊥) → Some (record { at = 7; clause = FrontZeros }) ≡ front_defect base img
    unfolding front_defect limits_zero
    front-fourth n = rw (eq-eqb (get_or img 3 0) 0 blank, ne_eqb (get_or img 7 0) 0 n)

    module _ (fourth : get_or img 7 0 ≡ 0) (a b c : ℕ) (transactors : a ≡ (unpack base img).limits.transactors) (messages : b ≡ (unpack base img).limits.messages) (checkpoints : c ≡ (unpack base img).limits.checkpoints) where
      same : in_range base (limits_of a b c) ≡ in_range base (unpack base img).limits
      same = ap (in_range base) (λ i. limits_of (transactors i) (messages i) (checkpoints i))

      pub front-limits : not (in_range base (limits_of a b c)) ≡ true → Some (record { at = 4; clause = WrongLimits }) ≡ front_defect base img
      unfolding front_defect limits_zero
      front-limits n = rw (eq-eqb (get_or img 3 0) 0 blank, eq-eqb (get_or img 7 0) 0 fourth, ← same, not-true (in_range base (limits_of a b c)) n)

      module _ (range : not (in_range base (limits_of a b c)) ≡ false) where
        pub front-opened : a < (unpack base img).opened → Some (record { at = 0; clause = OverLimit }) ≡ front_defect base img
        unfolding front_defect limits_zero
        front-opened h = rw (eq-eqb (get_or img 3 0) 0 blank, eq-eqb (get_or img 7 0) 0 fourth, ← same, not-false (in_range base (limits_of a b c)) range, lt-leb (unpack base img).opened (unpack base img).limits.transactors (omega arith))

        module _ (few : (unpack base img).opened ≤ a) where
          pub front-waiting : b < waiting_in base img → Some (record { at = 5; clause = OverLimit }) ≡ front_defect base img
          unfolding front_defect limits_zero
          front-waiting h = rw (eq-eqb (get_or img 3 0) 0 blank, eq-eqb (get_or img 7 0) 0 fourth, ← same, not-false (in_range base (limits_of a b c)) range, le-leb (unpack base img).opened (unpack base img).limits.transactors (omega arith), lt-leb (waiting_in base img) (unpack base img).limits.messages (omega arith))

          pub front-sound : waiting_in base img ≤ b → None ≡ front_defect base img
          unfolding front_defect limits_zero
          front-sound h = rw (eq-eqb (get_or img 3 0) 0 blank, eq-eqb (get_or img 7 0) 0 fourth, ← same, not-false (in_range base (limits_of a b c)) range, le-leb (unpack base img).opened (unpack base img).limits.transactors (omega arith), le-leb (waiting_in base img) (unpack base img).limits.messages (omega arith))

-- ---- the least number, over the place k - 1 before

pub least-after : (img : List ℕ) (k j : ℕ) → j + 1 ≡ k → least_number base img k ≡ of_be 2 (part (message_address base j + 1) 2 img) + 1
unfolding least_number
least-after img k j e = rw (← e, add-one)

-- ---- the first of many

module _ (f : ℕ → Option Defect) where
  pub none-from : (a n : ℕ) → ((k : ℕ) → a ≤ k → k < a + n → f k ≡ None) → first_of f a n ≡ None
  unfolding first_of
  none-from a zero h = refl
  none-from a (suc n) h = rw (h a (omega arith) (omega arith)) (none-from (suc a) n (λ k g e. h k (omega arith) (omega arith)))

  pub some-from : (a n k : ℕ) (d : Defect) → a ≤ k → k < a + n → f k ≡ Some d → ((i : ℕ) → a ≤ i → i < k → f i ≡ None) → first_of f a n ≡ Some d
  unfolding first_of
  some-from a zero k d g h e b = absurd (omega arith)
  some-from a (suc n) k d g h e b = ⊎_elim
      (λ (l : a < k). rw (b a (omega arith) l) (some-from (suc a) n k d (omega arith) (omega arith) e (λ i p q. b i (omega arith) q)))
      (λ (l : k ≤ a). let s : a ≡ k = omega arith in rw (ap f s ∙ e) refl)
      (sides a k)

-- ---- part by part

module _ (img : List ℕ) where
  abbrev transactors : Option Defect
  transactors = first_of (transactor_defect base img) 0 16

  abbrev messages : Option Defect
  messages = first_of (message_defect base img) 0 32

  pub in-front : (d : Defect) → Some d ≡ front_defect base img → Some d ≡ defect_of base img
  unfolding defect_of
  in-front d e = ap (λ (x : Option Defect). or_else x (or_else transactors messages)) e

  module _ (front : None ≡ front_defect base img) where
    past-front : or_else transactors messages ≡ defect_of base img
    unfolding defect_of
    past-front = ap (λ (x : Option Defect). or_else x (or_else transactors messages)) front

    pub in-transactors : (d : Defect) → Some d ≡ transactors → Some d ≡ defect_of base img
    in-transactors d e = ap (λ (x : Option Defect). or_else x messages) e ∙ past-front

    pub in-messages : None ≡ transactors → (r : Option Defect) → r ≡ messages → r ≡ defect_of base img
    in-messages e r f = f ∙ ap (λ (x : Option Defect). or_else x messages) e ∙ past-front

-- ---- the call

module _ (img : List ℕ) where
  pub defect-16 : (length img ≡ image_bytes base → ⊥) → DefectPromise base img 16 None
  unfolding defect_refusal defect_found
  defect-16 h = let w = wrong-length base img h in (rw w, rw w)

  told-is : (d : Option Defect) → told_refusal (Ok d) ≡ pick (is_sound d) 0 19
  told-is (Some d) = refl
  told-is None = refl

  pub defect-right : length img ≡ image_bytes base → (d : Option Defect) → d ≡ defect_of base img → DefectPromise base img (told_refusal (Ok d)) d
  unfolding defect_refusal defect_found
  defect-right long d is = let w = right-length base img long in (rw w (told-is d ∙ ap (λ (x : Option Defect). pick (is_sound x) 0 19) is), rw w is)
