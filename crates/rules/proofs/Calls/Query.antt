-- The refusals of a query about one take, and what is known when it is not refused.
use Prim.Native.Nat.{ℕ, ◌≤◌, ◌<◌}
use mathlib.Core.Bool.{true, false, not}
use mathlib.Core.Path.{◌≡◌}
use mathlib.Core.List.{List}
use native.Mathlib.Omega.{arith}
use lib.Dec.{leb}
use borrow.Author.Tests.{not-false, leb-false, eqb-true}
use lib.ListN.{length}
use Rattle.rules.specs.Layout.{Layout, image_bytes}
use Rattle.rules.specs.Pack.{unpack}
use Rattle.rules.specs.Form.{well_formed}
use Rattle.rules.specs.Calls.{wrong_length, query_refusal}
use Rattle.rules.specs.Internal.Guards.{acting_refusal}
use Rattle.octets.proofs.Tests.{pick-zero}
use Rattle.rules.proofs.Ranges.{allowed_of}
use Rattle.rules.proofs.Form.Clauses.{clauses-of}
use Rattle.rules.proofs.Calls.Begin.{wrong-length, right-length}

module _ (y : Layout) (img : List ℕ) where
  -- a well-formed image has no more takes opened than there are
  pub few-opened : not (well_formed y img) ≡ false → (unpack y img).opened ≤ y.transactors
  few-opened e =
      let c = clauses-of y img (not-false (well_formed y img) e) in
      omega (arith, c.opened, (allowed_of c.limits).transactors-high)

  module _ (t : ℕ) where
    pub query-16 : (length img ≡ image_bytes y → ⊥) → 16 ≡ query_refusal y img t
    unfolding query_refusal
    query-16 n = rw (wrong-length y img n)

    module _ (long : length img ≡ image_bytes y) where
      pub query-19 : not (well_formed y img) ≡ true → 19 ≡ query_refusal y img t
      unfolding query_refusal
      query-19 e = rw (right-length y img long, e)

      -- 21 and 22 are those of an acting take
      pub query-acting : not (well_formed y img) ≡ false → acting_refusal (unpack y img) t ≡ query_refusal y img t
      unfolding query_refusal acting_refusal
      query-acting e = rw (right-length y img long, e)

    -- not refused
    pub record Accepted : Type 0 where
      pub long : length img ≡ image_bytes y
      pub formed : well_formed y img ≡ true
      pub below : t < y.transactors

    pub query-accepted : query_refusal y img t ≡ 0 → Accepted
    unfolding query_refusal
    query-accepted e =
        let a = pick-zero (wrong_length y img) 16 _ (omega arith) e in
        let b = pick-zero (not (well_formed y img)) 19 _ (omega arith) a.1 in
        let c = pick-zero (leb (unpack y img).opened t) 21 _ (omega arith) b.1 in
        let formed = not-false _ b.0 in
        record {
          long = eqb-true (length img) (image_bytes y) (not-false _ a.0);
          formed = formed;
          below = omega (arith, few-opened b.0, leb-false (unpack y img).opened t c.0);
        }
