-- The words put together bit by bit, and the answer put together.
use Prim.Native.Nat.{ℕ, ◌+◌, ◌^◌, ◌≤◌, ◌<◌}
use native.Mathlib.Omega.{arith}
use mathlib.Core.Bool.{Bool, true, false}
use mathlib.Core.Path.{◌≡◌, refl, sym, ap, ◌∙◌, subst}
use mathlib.Core.Logic.{⊎_elim}
use mathlib.Core.List.{List}
use lib.ListN.{length, get_or, set}
use lib.Seq.{get_or-set_same, get_or-set_other}
use borrow.Author.Tests.{eq-eqb, ne_eqb}
use Rattle.octets.proofs.Chunks.{sides}
use Rattle.octets.proofs.Tests.{or-none}
use Rattle.rules.specs.declared.Dependents.{Dependents}
use Rattle.rules.specs.Layout.{Layout}
use Rattle.rules.specs.State.{State}
use Rattle.rules.specs.Pack.{waiting_in, unpack}
use Rattle.rules.specs.ReadyGroups.{how_many}
use Rattle.rules.specs.Dependents.{rests_at, works_at, carries_at, group_of, through_at, dependents_of}
use Rattle.rules.specs.Internal.Held.{Listed}
use Rattle.rules.specs.Refusals.{named}
use Rattle.rules.proofs.Bits.{named-add, named_past, add-fits, one-fits}
use Rattle.rules.proofs.Groups.Dependents.{names-group}
use Rattle.rules.proofs.Pack.Loads.{unpack-waiting}

pub dependents-is : (y : Layout) (img : List ℕ) (t : ℕ) {a b c d : ℕ}
    → a ≡ group_of y.transactors (rests_at (unpack y img) t) → d ≡ group_of y.transactors (through_at (unpack y img) y.transactors t) → b ≡ group_of y.transactors (works_at (unpack y img) t) → c ≡ how_many (waiting_in y img) (carries_at (unpack y img) t)
    → ◌≡◌ {A = Dependents} (record { resting = a; through = d; unfinished = b; carried = c }) (dependents_of y (unpack y img) t)
unfolding dependents_of
dependents-is y img t {a} {b} {c} {d} e h f g =
    let q : c ≡ how_many (length (unpack y img).messages) (carries_at (unpack y img) t) = g ∙ ap (λ (k : ℕ). how_many k (carries_at (unpack y img) t)) (sym (unpack-waiting y img)) in
    λ i. record { resting = e i; through = h i; unfinished = f i; carried = q i }

-- ---- a word of the takes at which a test answers true

-- of the first t takes the volume v names those at which the test, as P has it, answers true
pub record Marked (P : ℕ → Bool → Type 0) (t v : ℕ) : Type 0 where
  pub bits : v < 2 ^ t
  pub answers : (u : ℕ) → u < t → P u (named v u)

module _ {P : ℕ → Bool → Type 0} {t v : ℕ} (marked : Marked P t v) where
  past : named v t ≡ false
  past = named_past v t t marked.bits (omega arith)

  pub marked-on : (b : ℕ) → b ≡ 2 ^ t → P t true → Marked P (t + 1) (v + b)
  marked-on b bit p = rw bit (record {
    bits = add-fits v t (t + 1) (omega (arith, marked.bits, one-fits t (t + 1) (omega arith))) (omega arith) past;
    answers = λ u h. ⊎_elim
        (λ (q : u < t). subst (P u) (sym (named-add v t u past ∙ rw (ne_eqb t u (omega arith), or-none))) (marked.answers u q))
        (λ (q : t ≤ u). let e : t ≡ u = omega arith in
        subst (λ (x : ℕ). P x (named (v + 2 ^ t) x)) e (subst (P t) (sym (named-add v t t past ∙ rw (eq-eqb t t refl, past))) p))
        (sides u t);
  })

  pub marked-off : P t false → Marked P (t + 1) v
  marked-off p = record {
    bits = omega (arith, marked.bits, one-fits t (t + 1) (omega arith));
    answers = λ u h. ⊎_elim
        (λ (q : u < t). marked.answers u q)
        (λ (q : t ≤ u). let e : t ≡ u = omega arith in subst (λ (x : ℕ). P x (named v x)) e (subst (P t) (sym past) p))
        (sides u t);
  }

-- a test that answers as f does names the volume of f
pub group_where : (f : ℕ → Bool) (n v : ℕ) → v < 2 ^ n → ((t : ℕ) → t < n → named v t ≡ f t) → v ≡ group_of n f
group_where f n v bits exactly = names-group n f v (record { bits = bits; exactly = exactly })

-- ---- the list of who rests on each

pub listed_none : (y : Layout) (s : State) (l : List ℕ) → Listed y s 0 l
listed_none y s l = record { is = λ v h. absurd (omega arith) }

pub listed-more : {y : Layout} {s : State} {u : ℕ} {l : List ℕ} → Listed y s u l → u < length l → (r : ℕ) → r ≡ group_of y.transactors (rests_at s u) → Listed y s (u + 1) (set l u r)
listed-more {y} {s} {u} {l} k below r e = record {
  is = λ v b. ⊎_elim
      (λ (q : v < u). get_or-set_other l u v r 0 (λ z. omega arith) ∙ k.is v q)
      (λ (q : u ≤ v).
      let i : u ≡ v = omega arith in
      subst (λ (x : ℕ). get_or (set l u r) x 0 ≡ group_of y.transactors (rests_at s x)) i (get_or-set_same l u r 0 below ∙ e))
      (sides v u);
}
