-- W6 of images: both conversions keep what an image says, and each undoes the other.
use Prim.Native.Nat.{ℕ, ◌+◌, ◌≤◌, ◌<◌}
use mathlib.Core.Bool.{Bool, true, false, not}
use mathlib.Core.Path.{◌≡◌, refl, ap, sym, ◌∙◌, subst}
use mathlib.Core.List.{List}
use native.Mathlib.Omega.{arith}
use lib.Dec.{eqb}
use lib.ListN.{length}
use borrow.Author.Tests.{not-true, not-false, eq-eqb, ne_eqb, eqb-true}
use Rattle.octets.specs.Bytes.{pick, ◌and◌, Octets}
use Rattle.octets.specs.Numbers.{bound}
use Rattle.octets.proofs.Tests.{pick-zero, never}
use Rattle.octets.proofs.Zero.{both}
use Rattle.rules.specs.Layout.{Layout, Limits, widest, image_bytes, narrow, base}
use Rattle.rules.specs.State.{State}
use Rattle.rules.specs.Pack.{pack, unpack}
use Rattle.rules.specs.Form.{well_formed}
use Rattle.rules.specs.Internal.Well.{Allowed, WellFormed}
use Rattle.rules.proofs.Pack.Sizes.{length-pack, octets-pack}
use Rattle.rules.proofs.Pack.RoundTrip.{unpack-pack}
use Rattle.rules.proofs.Pack.RoundTrip.{pack-unpack-formed}
use Rattle.rules.proofs.Form.State.{formed-state}
use Rattle.rules.proofs.Form.Packed.{formed-pack}
use Rattle.convert.specs.Convert.{largest_narrow, limits_are, state_within, too_wide, forward, back, forward_answer, forward_image, back_answer, back_image, LowState}
use Rattle.recast.specs.Internal.Widths.{rewritten}
use Rattle.rules.proofs.Keep.Step.{fitting-base, fitting-narrow}
use Rattle.convert.proofs.Resized.{counted-limits, low-state, state-resized, state-low, low-state_within}

bound-one : bound 1 ≡ largest_narrow + 1
unfolding bound
bound-one = refl

pub bounds : bound 1 ≤ bound 2
unfolding bound
bounds = omega arith

-- ---- limits: 16, 32 and 15

pub are-on : (a b : Limits) → limits_are a b ≡ true → a ≡ b
unfolding limits_are
are-on a b e =
    let p = both (eqb a.transactors b.transactors) _ e in
    let q = both (eqb a.messages b.messages) _ p.1 in
    let t : a.transactors ≡ b.transactors = eqb-true a.transactors b.transactors p.0 in
    let m : a.messages ≡ b.messages = eqb-true a.messages b.messages q.0 in
    let c : a.checkpoints ≡ b.checkpoints = eqb-true a.checkpoints b.checkpoints q.1 in
    λ i. record { transactors = t i; messages = m i; checkpoints = c i }

pub are-same : (a b : Limits) → a ≡ b → limits_are a b ≡ true
unfolding limits_are
are-same a b e = rw (
  eq-eqb a.transactors b.transactors (ap (λ m. m.transactors) e),
  eq-eqb a.messages b.messages (ap (λ m. m.messages) e),
  eq-eqb a.checkpoints b.checkpoints (ap (λ m. m.checkpoints) e),
)

-- those of the old form
pub narrow-limits : {s : State} → WellFormed narrow s → s.limits ≡ widest base
narrow-limits f = counted-limits narrow refl f.packable.limits

-- both layouts have room for them
pub allowed-base : {m : Limits} → m ≡ widest base → Allowed base m
allowed-base e = subst (Allowed base) (sym e) (omega arith)

pub allowed-narrow : {m : Limits} → m ≡ widest base → Allowed narrow m
allowed-narrow e = subst (Allowed narrow) (sym e) (omega arith)

-- ---- states

pub formed-wide : {s : State} → WellFormed narrow s → WellFormed base s
formed-wide f = state-resized 1 2 false true narrow fitting-base f (low-state 1 2 bounds narrow false f) (allowed-base (narrow-limits f))

-- what the old form has room for
unfoldable pub fits_narrow : State → Bool
fits_narrow s = limits_are s.limits (widest base) and state_within largest_narrow base s

pub formed-narrow : {s : State} → WellFormed base s → fits_narrow s ≡ true → WellFormed narrow s
unfolding fits_narrow
formed-narrow {s} f e =
    let z = both (limits_are s.limits (widest base)) _ e in
    state-resized 2 1 true false narrow fitting-narrow f (subst (λ (b : ℕ). LowState b 16 s) (sym bound-one) (state-low largest_narrow base 2 true f z.1))
    (allowed-narrow (are-on s.limits (widest base) z.0))

-- what the old form holds it has room for
pub narrow-fits : {s : State} → WellFormed narrow s → fits_narrow s ≡ true
unfolding fits_narrow
narrow-fits {s} f = rw (are-same s.limits (widest base) (narrow-limits f))
    (low-state_within largest_narrow base s (subst (λ (b : ℕ). LowState b 16 s) bound-one (low-state 1 1 (omega arith) narrow false f)))

-- ---- an image of layout y rewritten to layout z, which holds its state

module _ (y z : Layout) (img : List ℕ) where
  length-rewritten : length (rewritten y z img) ≡ image_bytes z
  unfolding rewritten
  length-rewritten = length-pack z (unpack y img)

  octets-rewritten : Octets (rewritten y z img)
  unfolding rewritten
  octets-rewritten = octets-pack z (unpack y img)

  module _ (f : WellFormed z (unpack y img)) where
    rewritten-state : unpack z (rewritten y z img) ≡ unpack y img
    unfolding rewritten
    rewritten-state = unpack-pack z (unpack y img) f.packable

    rewritten-formed : well_formed z (rewritten y z img) ≡ true
    unfolding rewritten
    rewritten-formed = formed-pack z (unpack y img) f

    rewritten-back : length img ≡ image_bytes y → Octets img → well_formed y img ≡ true → rewritten z y (rewritten y z img) ≡ img
    unfolding rewritten
    rewritten-back n o e = ap (pack y) rewritten-state ∙ pack-unpack-formed y img n o e

-- ---- forward

module _ (img : List ℕ) where
  pub length-forward : length (forward img) ≡ image_bytes base
  unfolding forward rewritten
  length-forward = length-rewritten narrow base img

  module _ (n : length img ≡ image_bytes narrow) (o : Octets img) (e : well_formed narrow img ≡ true) where
    forward-well : WellFormed base (unpack narrow img)
    forward-well = formed-wide (formed-state narrow img n o e)

    -- each field keeps its value
    pub forward-state : unpack base (forward img) ≡ unpack narrow img
    unfolding forward rewritten
    forward-state = rewritten-state narrow base img forward-well

    pub forward-formed : well_formed base (forward img) ≡ true
    unfolding forward rewritten
    forward-formed = rewritten-formed narrow base img forward-well

    -- the way back never answers 32
    pub forward-fits : too_wide (forward img) ≡ false
    unfolding too_wide fits_narrow
    forward-fits = ap (λ s. not (fits_narrow s)) forward-state ∙ ap not (narrow-fits (formed-state narrow img n o e))

    -- old to new to old
    pub back-forward : back (forward img) ≡ img
    unfolding forward back rewritten
    back-forward = rewritten-back narrow base img forward-well n o e

-- ---- back

module _ (img : List ℕ) where
  pub length_back : length (back img) ≡ image_bytes narrow
  unfolding back rewritten
  length_back = length-rewritten base narrow img

  pub octets-back : Octets (back img)
  unfolding back rewritten
  octets-back = octets-rewritten base narrow img

  module _ (n : length img ≡ image_bytes base) (o : Octets img) (e : well_formed base img ≡ true) where
    module _ (t : too_wide img ≡ false) where
      back-well : WellFormed narrow (unpack base img)
      unfolding too_wide fits_narrow
      back-well = formed-narrow (formed-state base img n o e) (not-false (fits_narrow (unpack base img)) t)

      pub back-state : unpack narrow (back img) ≡ unpack base img
      unfolding back rewritten
      back-state = rewritten-state base narrow img back-well

      pub back-formed : well_formed narrow (back img) ≡ true
      unfolding back rewritten
      back-formed = rewritten-formed base narrow img back-well

      -- new to old to new
      pub forward-back : forward (back img) ≡ img
      unfolding forward back rewritten
      forward-back = rewritten-back base narrow img back-well n o e

    -- 32 is answered only where no old image says the same
    pub no_way_back : too_wide img ≡ true → (old : List ℕ) → length old ≡ image_bytes narrow → Octets old → well_formed narrow old ≡ true → unpack narrow old ≡ unpack base img → ⊥
    unfolding too_wide fits_narrow
    no_way_back t old p q f same =
        let a : fits_narrow (unpack base img) ≡ true = ap fits_narrow (sym same) ∙ narrow-fits (formed-state narrow old p q f) in
        let b : fits_narrow (unpack base img) ≡ false = not-true (fits_narrow (unpack base img)) t in
        never (sym a ∙ b)

-- ---- the calls

-- where a test n before the others is not answered
passed : (c : Bool) (n r : ℕ) → 0 < n → pick (not c) n r ≡ 0 → (c ≡ true) × (r ≡ 0)
passed c n r h e = let z = pick-zero (not c) n r h e in (not-false c z.0, z.1)

module _ (old new : List ℕ) where
  pub record Forwards : Type 0 where
    pub source : length old ≡ image_bytes narrow
    pub target : length new ≡ image_bytes base
    pub formed : well_formed narrow old ≡ true

  pub forwards : forward_answer old new ≡ 0 → Forwards
  unfolding forward_answer
  forwards e =
      let a = passed (eqb (length old) (image_bytes narrow)) 16 _ (omega arith) e in
      let b = passed (eqb (length new) (image_bytes base)) 16 _ (omega arith) a.1 in
      let c = passed (well_formed narrow old) 19 0 (omega arith) b.1 in
      record { source = eqb-true (length old) (image_bytes narrow) a.0; target = eqb-true (length new) (image_bytes base) b.0; formed = c.0 }

  pub record Backs : Type 0 where
    pub source : length new ≡ image_bytes base
    pub target : length old ≡ image_bytes narrow
    pub formed : well_formed base new ≡ true
    pub fits : too_wide new ≡ false

  pub backs : back_answer new old ≡ 0 → Backs
  unfolding back_answer
  backs e =
      let a = passed (eqb (length new) (image_bytes base)) 16 _ (omega arith) e in
      let b = passed (eqb (length old) (image_bytes narrow)) 16 _ (omega arith) a.1 in
      let c = passed (well_formed base new) 19 _ (omega arith) b.1 in
      let d = pick-zero (too_wide new) 32 0 (omega arith) c.1 in
      record { source = eqb-true (length new) (image_bytes base) a.0; target = eqb-true (length old) (image_bytes narrow) b.0; formed = c.0; fits = d.0 }

-- Refused, the destination is as it was.
pub forward-refused : (old new : List ℕ) → (forward_answer old new ≡ 0 → ⊥) → forward_image old new ≡ new
unfolding forward_image
forward-refused old new d = rw (ne_eqb (forward_answer old new) 0 d)

pub back-refused : (new old : List ℕ) → (back_answer new old ≡ 0 → ⊥) → back_image new old ≡ old
unfolding back_image
back-refused new old d = rw (ne_eqb (back_answer new old) 0 d)

-- where another test n before the others is not the answer
passed_on : (c : Bool) (n m r : ℕ) → (n ≡ m → ⊥) → pick (not c) n r ≡ m → (c ≡ true) × (r ≡ m)
passed_on true n m r d e = (refl, e)
passed_on false n m r d e = absurd (d e)

asked-32 : (t : Bool) → ◌≡◌ {A = ℕ} (pick t 32 0) 32 → t ≡ true
asked-32 true e = refl
asked-32 false e = let z : ◌≡◌ {A = ℕ} 0 32 = e in absurd (omega arith)

-- 32 is asked last: both lengths and the form are right where it is the answer
pub last-32 : (new old : List ℕ) → back_answer new old ≡ 32 → (length new ≡ image_bytes base) × (length old ≡ image_bytes narrow) × (well_formed base new ≡ true) × (too_wide new ≡ true)
unfolding back_answer
last-32 new old e =
    let a = passed_on (eqb (length new) (image_bytes base)) 16 32 _ (λ (z : ◌≡◌ {A = ℕ} 16 32). omega arith) e in
    let b = passed_on (eqb (length old) (image_bytes narrow)) 16 32 _ (λ (z : ◌≡◌ {A = ℕ} 16 32). omega arith) a.1 in
    let c = passed_on (well_formed base new) 19 32 _ (λ (z : ◌≡◌ {A = ℕ} 19 32). omega arith) b.1 in
    (eqb-true (length new) (image_bytes base) a.0, eqb-true (length old) (image_bytes narrow) b.0, c.0, asked-32 (too_wide new) c.1)

-- Old to new to old by the calls: forward taken, back succeeds and gives the first bytes, whatever of the right length is lent.
module _ (old new other : List ℕ) (o : Octets old) (e : forward_answer old new ≡ 0) (n : length other ≡ image_bytes narrow) where
  f : Forwards old new
  f = forwards old new e

  there : forward_image old new ≡ forward old
  unfolding forward_image
  there = rw (eq-eqb (forward_answer old new) 0 e)

  pub calls-there-answer : back_answer (forward_image old new) other ≡ 0
  unfolding back_answer
  calls-there-answer = rw (
    there,
    eq-eqb (length (forward old)) (image_bytes base) (length-forward old),
    eq-eqb (length other) (image_bytes narrow) n,
    forward-formed old f.source o f.formed,
    forward-fits old f.source o f.formed,
  )

  pub calls-there-back : back_image (forward_image old new) other ≡ old
  unfolding back_image
  calls-there-back = rw (eq-eqb (back_answer (forward_image old new) other) 0 calls-there-answer, there) (back-forward old f.source o f.formed)

-- New to old to new, where the way back succeeds.
module _ (new old other : List ℕ) (o : Octets new) (e : back_answer new old ≡ 0) (n : length other ≡ image_bytes base) where
  g : Backs old new
  g = backs old new e

  here : back_image new old ≡ back new
  unfolding back_image
  here = rw (eq-eqb (back_answer new old) 0 e)

  pub calls-back-answer : forward_answer (back_image new old) other ≡ 0
  unfolding forward_answer
  calls-back-answer = rw (
    here,
    eq-eqb (length (back new)) (image_bytes narrow) (length_back new),
    eq-eqb (length other) (image_bytes base) n,
    back-formed new g.source o g.formed g.fits,
  )

  pub calls-back-there : forward_image (back_image new old) other ≡ new
  unfolding forward_image
  calls-back-there = rw (eq-eqb (forward_answer (back_image new old) other) 0 calls-back-answer, here) (forward-back new g.source o g.formed g.fits)
