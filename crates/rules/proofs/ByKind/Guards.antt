-- The refusals that several kinds share, one after the other as the code finds them.
use Prim.Native.Nat.{ℕ, ◌+◌, ◌≤◌, ◌<◌}
use mathlib.Core.Bool.{Bool, true, false, not}
use mathlib.Core.Path.{◌≡◌, refl, sym, ap, ◌∙◌, subst}
use mathlib.Core.List.{List}
use mathlib.Core.Logic.{⊎_elim}
use native.Mathlib.Numerals.{add-one}
use native.Mathlib.Omega.{arith}
use lib.Dec.{eqb, leb}
use lib.ListN.{length}
use borrow.Author.Tests.{le-leb, lt-leb, leb-false, eq-eqb, ne_eqb, eqb-true, eqb-false, not-false}
use Rattle.octets.specs.Bytes.{pick, ◌and◌, ◌or◌, any}
use Rattle.octets.specs.Numbers.{bound}
use Rattle.octets.proofs.Chunks.{sides}
use Rattle.octets.proofs.Tests.{never, pick-zero, or-none}
use Rattle.octets.proofs.Zero.{any_none, any-more, any-on}
use Rattle.rules.specs.Layout.{Layout, image_bytes, last_number}
use Rattle.rules.specs.Status.{idle, busy, annihilated}
use Rattle.rules.specs.State.{State, transactor_at, own_history}
use Rattle.rules.specs.Step.{fall}
use Rattle.rules.specs.Refusals.{group_bits, named, any_named}
use Rattle.rules.specs.Form.{well_formed}
use Rattle.rules.specs.Calls.{wrong_length}
use Rattle.rules.specs.Internal.Guards.{first, busy_refusal, room_refusal, receiver_refusal, local_refusal, names_refusal, member_refusal, named_refusal, group_refusal, acting_refusal, group_in, Room, image_refusal}
use Rattle.rules.proofs.Bits.{named_past, named-at}

pub first_taken : (a b n : ℕ) → n ≡ a → (n ≡ 0 → ⊥) → first a b ≡ n
first_taken a b n e h = ap (λ (x : ℕ). first x b) (sym e) ∙ rw (ne_eqb n 0 h)

pub first-left : (a b n : ℕ) → n ≡ a → n ≡ 0 → first a b ≡ b
first-left a b n e h = ap (λ (x : ℕ). first x b) (sym e ∙ h)

-- tests, and then r
two : (i j : ℕ) (a b : Bool) (r : ℕ) → 0 < i → 0 < j → first (pick a i (pick b j 0)) r ≡ pick a i (pick b j r)
two i j true b r p q = rw (ne_eqb i 0 (λ e. omega arith))
two i j false true r p q = rw (ne_eqb j 0 (λ e. omega arith))
two i j false false r p q = refl

three : (i j k : ℕ) (a b c : Bool) (r : ℕ) → 0 < i → 0 < j → 0 < k → first (pick a i (pick b j (pick c k 0))) r ≡ pick a i (pick b j (pick c k r))
three i j k true b c r p q s = rw (ne_eqb i 0 (λ e. omega arith))
three i j k false b c r p q s = two j k b c r q s

-- a refusal r after those of a take that must be at work, of a receiver, of a take that acts by kind k
pub busy-first : (n t status r : ℕ) → first (busy_refusal n t status) r ≡ pick (leb n t) 21 (pick (eqb status annihilated) 22 (pick (not (eqb status busy)) 23 r))
unfolding busy_refusal
busy-first n t status r = three 21 22 23 (leb n t) (eqb status annihilated) (not (eqb status busy)) r (omega arith) (omega arith) (omega arith)

pub receiver-first : (status r : ℕ) → first (receiver_refusal status) r ≡ pick (eqb status annihilated) 22 (pick (not (eqb status idle)) 23 r)
unfolding receiver_refusal
receiver-first status r = two 22 23 (eqb status annihilated) (not (eqb status idle)) r (omega arith) (omega arith)

pub local-first : (k status r : ℕ) → first (local_refusal k status) r ≡ pick (eqb status annihilated) 22 (pick (leb k fall and not (eqb status busy)) 23 r)
unfolding local_refusal
local-first k status r = two 22 23 (eqb status annihilated) (leb k fall and not (eqb status busy)) r (omega arith) (omega arith)

-- ---- 16, 19

-- no refusal: as long as an image, and well-formed
pub record Sound (y : Layout) (img : List ℕ) : Type 0 where
  pub long : length img ≡ image_bytes y
  pub formed : well_formed y img ≡ true

pub sound : (y : Layout) (img : List ℕ) → image_refusal y img ≡ 0 → Sound y img
unfolding image_refusal
sound y img z =
    let a = pick-zero (wrong_length y img) 16 _ (omega arith) z in
    let b = pick-zero (not (well_formed y img)) 19 0 (omega arith) a.1 in
    record { long = eqb-true (length img) (image_bytes y) (not-false _ a.0); formed = not-false _ b.0 }

-- ---- 21 to 23

module _ (s : State) (t : ℕ) where
  pub acting-unopened : s.opened ≤ t → 21 ≡ acting_refusal s t
  unfolding acting_refusal
  acting-unopened h = rw (le-leb s.opened t h)

  module _ (opened : t < s.opened) where
    pub acting-gone : (transactor_at s t).status ≡ annihilated → 22 ≡ acting_refusal s t
    unfolding acting_refusal
    acting-gone e = rw (lt-leb s.opened t opened, eq-eqb (transactor_at s t).status annihilated e)

    pub acting-there : ((transactor_at s t).status ≡ annihilated → ⊥) → 0 ≡ acting_refusal s t
    unfolding acting_refusal
    acting-there n = rw (lt-leb s.opened t opened, ne_eqb (transactor_at s t).status annihilated n)

-- no refusal: idle
pub receiver-idle : (status : ℕ) → receiver_refusal status ≡ 0 → status ≡ idle
unfolding receiver_refusal
receiver-idle status z =
    let a = pick-zero (eqb status annihilated) 22 _ (omega arith) z in
    eqb-true status idle (not-false _ (pick-zero (not (eqb status idle)) 23 0 (omega arith) a.1).0)

-- ---- 26, 27

-- no refusal: a place and a number are free
pub record Free (most waiting next : ℕ) : Type 0 where
  pub room : waiting < most
  pub number : next ≡ last_number → ⊥

pub free : (most waiting next : ℕ) → room_refusal most waiting next ≡ 0 → Free most waiting next
unfolding room_refusal
free most waiting next z =
    let a = pick-zero (leb most waiting) 26 _ (omega arith) z in
    record { room = leb-false most waiting a.0; number = eqb-false next last_number (pick-zero (eqb next last_number) 27 0 (omega arith) a.1).0 }

-- ---- 29, 21, 22, 30

module _ (n most : ℕ) (S C : ℕ → ℕ) (g : ℕ) where
  group-first : group_refusal n most S C g ≡ first (names_refusal n g) (named_refusal most S C g)
  unfolding group_refusal names_refusal
  group-first = sym (two 29 21 (eqb g 0) (any_named g (leb n)) (named_refusal most S C g) (omega arith) (omega arith))

  module _ (r : ℕ) (names : r ≡ names_refusal n g) where
    pub group-names : (r ≡ 0 → ⊥) → r ≡ group_refusal n most S C g
    group-names h = sym (group-first ∙ first_taken (names_refusal n g) (named_refusal most S C g) r names h)

    pub group-named : r ≡ 0 → named_refusal most S C g ≡ group_refusal n most S C g
    group-named z = sym (group-first ∙ first-left (names_refusal n g) (named_refusal most S C g) r names z)

  -- no refusal: every named take has room
  pub group-room : g < bound 2 → group_refusal n most S C g ≡ 0 → (t : ℕ) → named g t ≡ true → C t < most
  unfolding group_refusal named_refusal bound
  group-room fits z t e =
      let a = pick-zero (eqb g 0) 29 _ (omega arith) z in
      let b = pick-zero (any_named g (leb n)) 21 _ (omega arith) a.1 in
      let c = pick-zero (any_named g (λ t. eqb (S t) annihilated)) 22 _ (omega arith) b.1 in
      let d = pick-zero (any_named g (λ t. leb most (C t))) 30 0 (omega arith) c.1 in
      ⊎_elim
      (λ (h : t < group_bits). leb-false most (C t) (named-at g (λ t. leb most (C t)) t d.0 h e))
      (λ (h : group_bits ≤ t). never (sym e ∙ named_past g t group_bits fits h))
      (sides t group_bits)

pub state-room : (s : State) (g : ℕ) → g < bound 2 → group_in s g ≡ 0 → Room s g
unfolding Room
state-room s g fits z = group-room s.opened s.limits.checkpoints (λ t. (transactor_at s t).status) (λ t. (own_history t (transactor_at s t)).count) g fits z

-- ---- the loop that looks for 22 and 30 at once: after t turns none of the named takes is gone, and n is 30 if one has no room

pub record Roomy (most : ℕ) (S C : ℕ → ℕ) (g t n : ℕ) : Type 0 where
  pub within : t ≤ group_bits
  pub there : any t (λ u. named g u and eqb (S u) annihilated) ≡ false
  pub number : n ≡ pick (any t (λ u. named g u and leb most (C u))) 30 0

module _ (most : ℕ) (S C : ℕ → ℕ) (g : ℕ) where
  -- a named take blocks, by its status, and by its count
  abbrev gone : ℕ → Bool
  gone u = named g u and eqb (S u) annihilated

  abbrev full : ℕ → Bool
  full u = named g u and leb most (C u)

  pub roomy-first : (n : ℕ) → n ≡ 0 → Roomy most S C g 0 n
  roomy-first n e = record { within = omega arith; there = any_none gone; number = rw (any_none full) e }

  module _ {t n : ℕ} (roomy : Roomy most S C g t n) where
    -- the one more that is looked at
    next : (f : ℕ → Bool) → any (t + 1) f ≡ any t f or f t
    unfolding any
    next f = rw add-one

    pub roomy-end : group_bits ≤ t → n ≡ named_refusal most S C g
    unfolding named_refusal any_named
    roomy-end h =
        let e : t ≡ group_bits = omega (arith, roomy.within) in
        roomy.number ∙ ap (λ (i : ℕ). pick (any i full) 30 0) e
        ∙ rw (subst (λ (i : ℕ). any i gone ≡ false) e roomy.there)

    module _ (below : t < group_bits) where
      pub roomy-unnamed : named g t ≡ false → (n' : ℕ) → n' ≡ n → Roomy most S C g (t + 1) n'
      roomy-unnamed o n' e = record {
        within = omega arith;
        there = any-more gone t roomy.there (rw o);
        number = e ∙ roomy.number ∙ rw (next full, o, or-none);
      }

      module _ (name : named g t ≡ true) (r : ℕ) (asked : r ≡ member_refusal most (S t) (C t)) where
        -- by the two tests of the member
        data Member : Type 0 where
          is-gone : r ≡ 22 → eqb (S t) annihilated ≡ true → Member
          is-full : r ≡ 30 → eqb (S t) annihilated ≡ false → leb most (C t) ≡ true → Member
          is-able : r ≡ 0 → eqb (S t) annihilated ≡ false → leb most (C t) ≡ false → Member

        member : Member
        unfolding member_refusal
        member = go (eqb (S t) annihilated) refl (leb most (C t)) refl asked
          where
            go : (a : Bool) → eqb (S t) annihilated ≡ a → (b : Bool) → leb most (C t) ≡ b → r ≡ pick a 22 (pick b 30 0) → Member
            go true p b q e = is-gone e p
            go false p true q e = is-full e p q
            go false p false q e = is-able e p q

        pub roomy-gone : r ≡ 22 → r ≡ named_refusal most S C g
        unfolding named_refusal any_named
        roomy-gone e = go member
          where
            go : Member → r ≡ named_refusal most S C g
            go (is-gone i p) = i ∙ rw (any-on gone group_bits t below (rw (name, p)))
            go (is-full i p q) = absurd (omega arith)
            go (is-able i p q) = absurd (omega arith)

        module _ (there : r ≡ 22 → ⊥) (n' : ℕ) where
          on : (c : Bool) → ◌≡◌ {A = ℕ} 30 (pick (c or true) 30 0)
          on true = refl
          on false = refl

          pub roomy-full : (r ≡ 0 → ⊥) → n' ≡ r → Roomy most S C g (t + 1) n'
          roomy-full f e = go member
            where
              go : Member → Roomy most S C g (t + 1) n'
              go (is-gone i p) = absurd (there i)
              go (is-full i p q) = record { within = omega arith; there = any-more gone t roomy.there (rw (name, p)); number = e ∙ i ∙ rw (next full, name, q) (on (any t full)) }
              go (is-able i p q) = absurd (f i)

          pub roomy-more : r ≡ 0 → n' ≡ n → Roomy most S C g (t + 1) n'
          roomy-more f e = go member
            where
              go : Member → Roomy most S C g (t + 1) n'
              go (is-gone i p) = absurd (there i)
              go (is-full i p q) = absurd (omega arith)
              go (is-able i p q) = record { within = omega arith; there = any-more gone t roomy.there (rw (name, p)); number = e ∙ roomy.number ∙ rw (next full, name, q, or-none) }
