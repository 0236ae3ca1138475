-- No clause fails exactly if the image is well-formed, and so the call refuses an image as every other call does.
use Prim.Native.Nat.{ℕ, zero, suc, ◌+◌, ◌-◌, ◌/◌, ◌%◌, ◌≤◌, ◌<◌}
use mathlib.Core.Bool.{Bool, true, false, not}
use mathlib.Core.Path.{◌≡◌, refl, sym, ap, ◌∙◌}
use mathlib.Core.List.{List}
use mathlib.Core.Logic.{⊎_elim}
use native.Mathlib.Omega.{arith}
use lib.ListN.{length, get_or}
use lib.Dec.{eqb, ltb, leb}
use Rattle.octets.specs.Bytes.{pick, ◌and◌, part, every, all_zero, Octets}
use Rattle.octets.specs.Numbers.{of_be}
use Rattle.marks.specs.Packed.{present_in}
use Rattle.octets.proofs.Chunks.{sides}
use Rattle.octets.proofs.Tests.{same_test}
use Rattle.octets.proofs.Zero.{both, every-at, every-all}
use Rattle.rules.specs.Layout.{Layout, in_range, image_bytes, history_bytes, map_bytes, saved_at, state_at, creation_at, behaviour_at, transactor_bytes, message_bytes, transactor_address, message_address}
use Rattle.rules.specs.Status.{unused, idle, annihilated}
use Rattle.rules.specs.Pack.{waiting_in, unpack}
use Rattle.rules.specs.Form.{map_formed, limits_zero, well_formed}
use Rattle.image.specs.Internal.Addresses.{own_at, map_at}
use Rattle.rules.specs.Internal.Guards.{image_refusal}
use Rattle.rules.specs.Calls.{wrong_length}
use Rattle.form.specs.Internal.Tests.{formed_own_at, formed_live_at, formed_transactor_at, least_at, formed_message_at, formed_front, formed_image}
use Rattle.form.proofs.FormTest.{formed_image-is, front-few}
use Rattle.std.specs.Prelude.{Option, Some, None}
use Rattle.defects.specs.declared.Defect.{Defect}
use Rattle.defects.specs.declared.Clause.TheVariants.{FrontZeros, WrongLimits, TransactorZeros, PlaceZeros, WrongMap, OverLimit, WrongStatus, NoOwnHistory, SavedValue, IdleBehaviour, OverStatus, Gap, OutOfOrder, OverNext, ToUnopened}
use Rattle.defects.specs.Defect.{is_sound, check, or_else, first_of, front_defect, behaviour_defect, saved_right_at, live_defect, transactor_defect, least_number, waiting_defect, message_defect, defect_of, defect_refusal}

-- ---- tests one after the other

of-front : (a b c d e : Bool) → is_sound (check a 3 FrontZeros (check b 7 FrontZeros (check c 4 WrongLimits (check d 0 OverLimit (check e 5 OverLimit None))))) ≡ a and b and c and d and e
of-front false b c d e = refl
of-front true false c d e = refl
of-front true true false d e = refl
of-front true true true false e = refl
of-front true true true true false = refl
of-front true true true true true = refl

of-waiting : (a b c d e : Bool) (i j : ℕ) (k : ℕ) → is_sound (check a i PlaceZeros (check b i ToUnopened (check c j OverNext (check d j OutOfOrder (check e k WrongMap None))))) ≡ a and b and c and d and e
of-waiting false b c d e i j k = refl
of-waiting true false c d e i j k = refl
of-waiting true true false d e i j k = refl
of-waiting true true true false e i j k = refl
of-waiting true true true true false i j k = refl
of-waiting true true true true true i j k = refl

idle-or-not : (i z m : Bool) (a : ℕ) → is_sound (pick i (check z a IdleBehaviour None) (check m a WrongMap None)) ≡ pick i z m
idle-or-not true true m a = refl
idle-or-not true false m a = refl
idle-or-not false z true a = refl
idle-or-not false z false a = refl

living : (s c p w b : Bool) (i j k l : ℕ) (d : Option Defect) → is_sound d ≡ b → is_sound (check s i WrongMap (check c j WrongMap (check p k NoOwnHistory (check w l SavedValue d)))) ≡ s and c and (p and w) and b
living false c p w b i j k l d e = refl
living true false p w b i j k l d e = refl
living true true false w b i j k l d e = refl
living true true true false b i j k l d e = refl
living true true true true b i j k l d e = e

of-transactor : (o z h u v r b : Bool) (i j : ℕ) (d : Option Defect) → is_sound d ≡ b
    → is_sound (pick o (check z i TransactorZeros None) (check h i TransactorZeros (check u i WrongStatus (pick v (check r j OverStatus None) d)))) ≡ pick o z (h and u and pick v r b)
of-transactor true true h u v r b i j d e = refl
of-transactor true false h u v r b i j d e = refl
of-transactor false z false u v r b i j d e = refl
of-transactor false z true false v r b i j d e = refl
of-transactor false z true true true true b i j d e = refl
of-transactor false z true true true false b i j d e = refl
of-transactor false z true true false r b i j d e = e

of-message : (o z g b : Bool) (i : ℕ) (d : Option Defect) → is_sound d ≡ b → is_sound (pick o (check z i (pick g PlaceZeros Gap) None) d) ≡ pick o z b
of-message true true g b i d e = refl
of-message true false true b i d e = refl
of-message true false false b i d e = refl
of-message false z g b i d e = e

-- ---- part by part, as `form` tests it

module _ (y : Layout) (img : List ℕ) where
  front-is : is_sound (front_defect y img) ≡ formed_front y img
  unfolding front_defect formed_front
  front-is = of-front (eqb (get_or img 3 0) 0) (limits_zero y img) (in_range y (unpack y img).limits) (leb (unpack y img).opened (unpack y img).limits.transactors) (leb (waiting_in y img) (unpack y img).limits.messages)

  module _ (t : ℕ) where
    abbrev at : ℕ
    at = transactor_address y t

    abbrev formed_at : ℕ → Bool
    formed_at i = map_formed y (unpack y img) (at + i) img

    abbrev is_idle : Bool
    is_idle = eqb (get_or img at 0 / 64) idle

    abbrev zero_behaviour : Bool
    zero_behaviour = all_zero (part (at + behaviour_at y) (map_bytes y) img)

    behaviour-is : is_sound (behaviour_defect y img t) ≡ pick is_idle zero_behaviour (formed_at (behaviour_at y))
    unfolding behaviour_defect
    behaviour-is = idle-or-not is_idle zero_behaviour (formed_at (behaviour_at y)) (at + behaviour_at y)

    live-is : is_sound (live_defect y img t) ≡ formed_live_at y img t
    unfolding live_defect saved_right_at formed_live_at formed_own_at
    live-is = living (formed_at state_at) (formed_at (creation_at y)) (present_in (part (own_at y t) (history_bytes y) img)) (saved_right_at y img t)
        (pick is_idle zero_behaviour (formed_at (behaviour_at y))) (at + state_at) (at + creation_at y) (own_at y t) (at + saved_at) (behaviour_defect y img t) behaviour-is

    transactor-is : is_sound (transactor_defect y img t) ≡ formed_transactor_at y img t
    unfolding transactor_defect formed_transactor_at
    transactor-is = of-transactor (leb (unpack y img).opened t) (all_zero (part at (transactor_bytes y) img)) (eqb (get_or img at 0 % 64) 0)
        (not (eqb (get_or img at 0 / 64) unused)) (eqb (get_or img at 0 / 64) annihilated) (all_zero (part (at + 1) (transactor_bytes y - 1) img))
        (formed_live_at y img t) at (at + 1) (live_defect y img t) live-is

  module _ (k : ℕ) where
    abbrev place : ℕ
    place = message_address y k

    abbrev number : ℕ
    number = of_be 2 (part (place + 1) 2 img)

    waiting-is : is_sound (waiting_defect y img k) ≡ eqb (get_or img place 0 / 16) 8 and ltb (get_or img place 0 % 16) (unpack y img).opened
        and ltb number (unpack y img).next and leb (least_number y img k) number and map_formed y (unpack y img) (map_at y k) img
    unfolding waiting_defect
    waiting-is = of-waiting (eqb (get_or img place 0 / 16) 8) (ltb (get_or img place 0 % 16) (unpack y img).opened)
        (ltb number (unpack y img).next) (leb (least_number y img k) number) (map_formed y (unpack y img) (map_at y k) img) place (place + 1) (map_at y k)

  least-same : (k : ℕ) → least_number y img k ≡ least_at y img k
  unfolding least_number least_at
  least-same zero = refl
  least-same (suc k) = refl

  message-is : (k : ℕ) → is_sound (message_defect y img k) ≡ formed_message_at y img k
  unfolding message_defect formed_message_at
  message-is k = of-message (leb (waiting_in y img) k) (all_zero (part (message_address y k) (message_bytes y) img)) (ltb (get_or img (message_address y k) 0) 128)
      _ (message_address y k) (waiting_defect y img k)
      (waiting-is k ∙ ap (λ (n : ℕ). eqb (get_or img (place k) 0 / 16) 8 and ltb (get_or img (place k) 0 % 16) (unpack y img).opened
      and ltb (number k) (unpack y img).next and leb n (number k) and map_formed y (unpack y img) (map_at y k) img) (least-same k))

-- ---- the first of many

or_else-is : (d e : Option Defect) → is_sound (or_else d e) ≡ is_sound d and is_sound e
or_else-is (Some d) e = refl
or_else-is None e = refl

module _ (f : ℕ → Option Defect) where
  first-each : (k n : ℕ) → is_sound (first_of f k n) ≡ true → (i : ℕ) → k ≤ i → i < k + n → is_sound (f i) ≡ true
  unfolding first_of
  first-each k zero e i h g = absurd (omega arith)
  first-each k (suc n) e i h g =
      let b = both (is_sound (f k)) (is_sound (first_of f (suc k) n)) (sym (or_else-is (f k) (first_of f (suc k) n)) ∙ e) in
      ⊎_elim (λ (j : k < i). first-each (suc k) n b.1 i (omega arith) (omega arith)) (λ (j : i ≤ k). rw (same i k h j) b.0) (sides k i)
    where
      same : (i k : ℕ) → k ≤ i → i ≤ k → i ≡ k
      same i k a c = omega arith

  first-none : (k n : ℕ) → ((i : ℕ) → k ≤ i → i < k + n → is_sound (f i) ≡ true) → is_sound (first_of f k n) ≡ true
  unfolding first_of
  first-none k zero h = refl
  first-none k (suc n) h = or_else-is (f k) (first_of f (suc k) n) ∙ rw (h k (omega arith) (omega arith)) (first-none (suc k) n (λ i a c. h i (omega arith) (omega arith)))

  first-is : (g : ℕ → Bool) → ((i : ℕ) → is_sound (f i) ≡ g i) → (n : ℕ) → is_sound (first_of f 0 n) ≡ every n g
  first-is g e n = same_test (is_sound (first_of f 0 n)) (every n g)
      (λ z. every-all g n (λ i h. sym (e i) ∙ first-each 0 n z i (omega arith) (omega arith)))
      (λ z. first-none 0 n (λ i a h. e i ∙ every-at g n i z (omega arith)))

-- ---- the image

module _ (y : Layout) (img : List ℕ) where
  image-is : is_sound (defect_of y img) ≡ formed_image y img
  unfolding defect_of formed_image
  image-is =
      or_else-is (front_defect y img) (or_else (first_of (transactor_defect y img) 0 y.transactors) (first_of (message_defect y img) 0 y.messages))
      ∙ rw (
        front-is y img,
        or_else-is (first_of (transactor_defect y img) 0 y.transactors) (first_of (message_defect y img) 0 y.messages),
        first-is (transactor_defect y img) (formed_transactor_at y img) (transactor-is y img) y.transactors,
        first-is (message_defect y img) (formed_message_at y img) (message-is y img) y.messages,
      )

  module _ (long : length img ≡ image_bytes y) (octets : Octets img) where
    pub no-defect : is_sound (defect_of y img) ≡ well_formed y img
    no-defect = image-is ∙ formed_image-is y img long octets

    pub refused-alike : defect_refusal y img ≡ image_refusal y img
    unfolding defect_refusal image_refusal
    refused-alike = rw no-defect (flip (well_formed y img))
      where
        flip : (b : Bool) → ◌≡◌ {A = ℕ} (pick (wrong_length y img) 16 (pick b 0 19)) (pick (wrong_length y img) 16 (pick (not b) 19 0))
        flip true = refl
        flip false = refl

  -- the limits leave room in a list
  pub front-room : None ≡ front_defect y img → (unpack y img).limits.checkpoints ≤ y.places
  front-room e = front-few y img (ap not (sym (front-is y img) ∙ ap is_sound (sym e)))
