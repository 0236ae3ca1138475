-- Offering a message, the refusal being r: nothing if refused, else the first that waits, which has the lowest number.
use Prim.Native.Nat.{ℕ, ◌≤◌, ◌<◌}
use mathlib.Core.Path.{◌≡◌, refl, sym, ap, ◌∙◌}
use mathlib.Core.List.{List}
use mathlib.Core.Option.{Option, none, some}
use mathlib.Core.Logic.{⊎_elim}
use native.Mathlib.Omega.{arith}
use borrow.Author.Tests.{eq-eqb, eqb-true}
use lib.ListN.{length}
use Rattle.rules.specs.Layout.{Layout}
use Rattle.rules.specs.State.{message_at, place_from, addressed_to}
use Rattle.rules.specs.Pack.{waiting_in, unpack}
use Rattle.rules.specs.Internal.Well.{WellFormed}
use Rattle.rules.specs.Calls.{query_refusal, WaitsFor, Offers, refused, nothing, waiting}
use Rattle.octets.proofs.Chunks.{sides}
use Rattle.octets.proofs.Tests.{never}
use Rattle.rules.proofs.Places.{Place, place}
use Rattle.rules.proofs.Pack.Messages.{numbers-rise}
use Rattle.rules.proofs.Pack.Loads.{unpack-waiting}

module _ (y : Layout) (img : List ℕ) (t r : ℕ) (is : r ≡ query_refusal y img t) where
  pub offered-refused : (r ≡ 0 → ⊥) → (r ≡ query_refusal y img t) × Offers y img t none
  offered-refused n = (is, refused (λ (f : query_refusal y img t ≡ 0). n (is ∙ f)))

  module _ (zero : r ≡ 0) (n k : ℕ) (e : n ≡ waiting_in y img) (f : k ≡ place_from (addressed_to (unpack y img) t) 0 n) where
    many : length (unpack y img).messages ≡ n
    many = unpack-waiting y img ∙ sym e

    found : Place (addressed_to (unpack y img) t) 0 n (place_from (addressed_to (unpack y img) t) 0 n)
    found = place (addressed_to (unpack y img) t) 0 n

    -- none that waits for the take stands before place k
    not-before : (v : ℕ) (w : WaitsFor (unpack y img) t v) → w.place < k → ⊥
    unfolding addressed_to
    not-before v w h = never (sym (eq-eqb (message_at (unpack y img) w.place).addressee t w.addressee) ∙ found.before w.place (omega arith) (omega arith))

    pub offered-none : n ≤ k → (r ≡ query_refusal y img t) × Offers y img t none
    offered-none h = (is, nothing (sym is ∙ zero) (λ v (w : WaitsFor (unpack y img) t v). not-before v w (omega (arith, many, w.waits))))

    pub offered-some : (v : ℕ) → WellFormed y (unpack y img) → k < n → v ≡ (message_at (unpack y img) k).number → (r ≡ query_refusal y img t) × Offers y img t (some v)
    unfolding addressed_to
    offered-some v well h q = (
      is,
      waiting (sym is ∙ zero) (record {
        waits = record {
          place = k;
          waits = omega (arith, many);
          addressee = eqb-true (message_at (unpack y img) k).addressee t (rw f (found.here (omega arith)));
          number = sym q;
        };
        lowest = λ u (w : WaitsFor (unpack y img) t u). ⊎_elim
            (λ (p : k < w.place). omega (arith, numbers-rise well k w.place p w.waits, w.number))
            (λ (p : w.place ≤ k).
            let d : k ≡ w.place = omega (arith, not-before u w) in
            omega (arith, w.number, ap (λ (i : ℕ). (message_at (unpack y img) i).number) d))
            (sides k w.place);
      }),
    )

-- offer is no longer free (document 02, W2): one answer for an image and a take
pub offers-unique : {y : Layout} {img : List ℕ} {t : ℕ} {a b : Option ℕ} → Offers y img t a → Offers y img t b → a ≡ b
offers-unique (waiting {n} z l) (waiting {n = k} _ h) =
    let e : n ≡ k = omega (arith, l.lowest k h.waits, h.lowest n l.waits) in
    ap some e
offers-unique (waiting {n} z l) (nothing _ f) = absurd (f n l.waits)
offers-unique (waiting z l) (refused f) = absurd (f z)
offers-unique (nothing z f) (waiting {n} _ l) = absurd (f n l.waits)
offers-unique (nothing z f) (nothing _ _) = refl
offers-unique (nothing z f) (refused _) = refl
offers-unique (refused f) (waiting z l) = absurd (f z)
offers-unique (refused f) (nothing _ _) = refl
offers-unique (refused f) (refused _) = refl
