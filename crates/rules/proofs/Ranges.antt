-- Which limits are in range, and that stored limits fit their bytes.
use Prim.Native.Nat.{ℕ}
use mathlib.Core.Bool.{Bool, true, false}
use mathlib.Core.Path.{◌≡◌, refl, sym, ap, ◌∙◌}
use mathlib.Core.Logic.{◌↔◌}
use native.Mathlib.Omega.{arith}
use lib.Dec.{leb}
use borrow.Author.Tests.{leb-true, le-leb}
use Rattle.octets.specs.Bytes.{◌and◌}
use Rattle.octets.proofs.Zero.{both}
use Rattle.octets.proofs.Tests.{and_assoc}
use Rattle.rules.specs.Layout.{Layout, Limits, limits_of, base, lowest, in_range, Fitting, LimitsInRange}
use Rattle.rules.specs.Internal.Well.{Allowed, LimitsOk, stored, counted}

module _ {y : Layout} {m : Limits} where
  pub allowed_of : in_range y m ≡ true → Allowed y m
  unfolding in_range
  allowed_of e =
      let a = both (leb (lowest y.limited y.transactors) m.transactors) _ e in
      let b = both (leb m.transactors y.transactors) _ a.1 in
      let c = both (leb (lowest y.limited y.messages) m.messages) _ b.1 in
      let d = both (leb m.messages y.messages) _ c.1 in
      let f = both (leb (lowest y.limited y.places) m.checkpoints) _ d.1 in
      record {
        transactors-low = leb-true (lowest y.limited y.transactors) m.transactors a.0;
        transactors-high = leb-true m.transactors y.transactors b.0;
        messages-low = leb-true (lowest y.limited y.messages) m.messages c.0;
        messages-high = leb-true m.messages y.messages d.0;
        checkpoints-low = leb-true (lowest y.limited y.places) m.checkpoints f.0;
        checkpoints-high = leb-true m.checkpoints y.places f.1;
      }

  pub allowed-test : Allowed y m → in_range y m ≡ true
  unfolding in_range
  allowed-test l = rw (
    le-leb (lowest y.limited y.transactors) m.transactors l.transactors-low,
    le-leb m.transactors y.transactors l.transactors-high,
    le-leb (lowest y.limited y.messages) m.messages l.messages-low,
    le-leb m.messages y.messages l.messages-high,
    le-leb (lowest y.limited y.places) m.checkpoints l.checkpoints-low,
    le-leb m.checkpoints y.places l.checkpoints-high,
  )

-- limits in range can be packed
pub allowed-ok : {y : Layout} {m : Limits} → Fitting y → Allowed y m → LimitsOk y m
allowed-ok {y} {m} z l = go y.limited refl
  where
    go : (t : Bool) → y.limited ≡ t → LimitsOk y m
    go true e = stored e (omega (arith, z.transactors, l.transactors-high)) (omega (arith, z.messages, l.messages-high)) (omega (arith, z.places, l.checkpoints-high))
    go false e =
        let a : m.transactors ≡ y.transactors = omega (arith, rw e at l.transactors-low, l.transactors-high) in
        let b : m.messages ≡ y.messages = omega (arith, rw e at l.messages-low, l.messages-high) in
        let c : m.checkpoints ≡ y.places = omega (arith, rw e at l.checkpoints-low, l.checkpoints-high) in
        counted e (λ i. record { transactors = a i; messages = b i; checkpoints = c i })

-- ---- at the layout of an image

pub in-range-exactly : (m : Limits) → (in_range base m ≡ true) ↔ LimitsInRange m
in-range-exactly m = (
  λ e.
      let a = allowed_of e in
      record {
        transactors = (a.transactors-low, a.transactors-high);
        messages = (a.messages-low, a.messages-high);
        checkpoints = (a.checkpoints-low, a.checkpoints-high);
      },
  λ r. allowed-test (record {
    transactors-low = r.transactors.0;
    transactors-high = r.transactors.1;
    messages-low = r.messages.0;
    messages-high = r.messages.1;
    checkpoints-low = r.checkpoints.0;
    checkpoints-high = r.checkpoints.1;
  }),
)

-- limit by limit
pub in-range-is : (a b c : ℕ) → in_range base (limits_of a b c) ≡ (leb 1 a and leb a 16) and ((leb 1 b and leb b 32) and (leb 1 c and leb c 15))
unfolding in_range
in-range-is a b c = sym (and_assoc (leb 1 a) (leb a 16) _ ∙ ap (λ (t : Bool). leb 1 a and (leb a 16 and t)) (and_assoc (leb 1 b) (leb b 32) _))
