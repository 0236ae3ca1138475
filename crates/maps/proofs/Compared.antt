-- A map compared with another, entry by entry from the last to the first: what one comparison of two marks adds to the three answers.
use Prim.Native.Nat.{ℕ, ◌+◌, ◌≤◌}
use mathlib.Core.Bool.{Bool, true, false}
use mathlib.Core.Path.{◌≡◌, refl, sym, ap, ◌∙◌}
use mathlib.Core.Option.{Option, none, some}
use Rattle.octets.specs.Bytes.{pick, ◌or◌}
use Rattle.marks.specs.declared.History.{History}
use Rattle.marks.specs.declared.Relation.{Relation}
use Rattle.marks.specs.declared.Relation.TheVariants.{Same, LeftSuperseded, RightSuperseded, Unrelated}
use Rattle.marks.specs.History.{incarnation_of}
use Rattle.marks.specs.Relation.{turned, relation_of, is_left_superseded, is_unrelated}
use Rattle.maps.specs.declared.DependenceMap.{DependenceMap}
use Rattle.maps.specs.Map.{superseded_at, first_superseded, unrelated_at, any_unrelated}
use Rattle.maps.specs.Internal.Comparing.{relation_entry}
use Rattle.maps.proofs.Map.{Entry}
use Rattle.maps.proofs.Loops.{first_rest, first-all, first_back, first-end}
use Rattle.maps.proofs.Unrelated.{superseded-left, superseded-right, unrelated-reads, any_rest, any-all, any-back, any-end}

-- ---- one entry

module _ (p : Bool) (x : History) (q : Bool) (y : History) where
  pub absent-left : p ≡ false → relation_entry p x q y ≡ Same
  unfolding relation_entry
  absent-left e = rw e

  pub absent-right : p ≡ true → q ≡ false → relation_entry p x q y ≡ Same
  unfolding relation_entry
  absent-right e f = rw (e, f)

  pub both-held : p ≡ true → q ≡ true → relation_entry p x q y ≡ relation_of (incarnation_of x) (incarnation_of y)
  unfolding relation_entry
  both-held e f = rw (e, f)

-- it says none of the three
pub record Other (r : Relation) : Type 0 where
  pub related : is_unrelated r ≡ false
  pub left : is_left_superseded r ≡ false
  pub right : is_left_superseded (turned r) ≡ false

-- ---- all entries from i on: whether some take has unrelated marks, and the first whose mark is stale, each way

pub record Compared (n : ℕ) (a b : DependenceMap) (i : ℕ) (u : Bool) (f g : Option ℕ) : Type 0 where
  pub unrelated : u ≡ any_rest n a b i
  pub left : f ≡ first_rest n a b i
  pub right : g ≡ first_rest n b a i

module _ (n : ℕ) (a b : DependenceMap) where
  pub compared-none : (i : ℕ) → i ≡ n → Compared n a b i false none none
  compared-none i e = record { unrelated = sym (any-end n a b i e); left = sym (first-end n a b i e); right = sym (first-end n b a i e) }

  pub compared-all : (i : ℕ) → i ≡ 0 → {u : Bool} {f g : Option ℕ} → Compared n a b i u f g
      → (u ≡ any_unrelated n a b) × (f ≡ first_superseded n a b) × (g ≡ first_superseded n b a)
  compared-all i e k = (
    k.unrelated ∙ ap (any_rest n a b) e ∙ sym (any-all n a b),
    k.left ∙ ap (first_rest n a b) e ∙ sym (first-all n a b),
    k.right ∙ ap (first_rest n b a) e ∙ sym (first-all n b a),
  )

-- from entry j on the answers are known; r is what the comparison of the entry before says
module _ {n : ℕ} {a b : DependenceMap} {u : Bool} {f g : Option ℕ} (i j : ℕ) (before : i + 1 ≡ j) (below : j ≤ n) (known : Compared n a b j u f g)
    {p q : Bool} {x y : History} (ea : Entry a i p x) (eb : Entry b i q y) {r : Relation} (e : r ≡ relation_entry p x q y) where
  unrelated-here : unrelated_at a b i ≡ is_unrelated r
  unfolding unrelated_at
  unrelated-here = rw (e, ← ea.held, ← ea.history, ← eb.held, ← eb.history) (unrelated-reads p x q y)

  left_here : superseded_at a b i ≡ is_left_superseded r
  unfolding superseded_at
  left_here = rw (e, ← ea.held, ← ea.history, ← eb.held, ← eb.history) (superseded-left p x q y)

  right-here : superseded_at b a i ≡ is_left_superseded (turned r)
  unfolding superseded_at
  right-here = rw (e, ← ea.held, ← ea.history, ← eb.held, ← eb.history) (superseded-right p x q y)

  compared : Compared n a b i (is_unrelated r or u) (pick (is_left_superseded r) (some i) f) (pick (is_left_superseded (turned r)) (some i) g)
  compared = record {
    unrelated = any-back n a b i j before below (is_unrelated r) unrelated-here u _ known.unrelated refl;
    left = first_back n a b i j before below (is_left_superseded r) left_here f _ known.left refl;
    right = first_back n b a i j before below (is_left_superseded (turned r)) right-here g _ known.right refl;
  }

  pub compared-unrelated : r ≡ Unrelated → Compared n a b i true f g
  compared-unrelated z = rw z at compared

  pub compared-left : r ≡ LeftSuperseded → Compared n a b i u (some i) g
  compared-left z = rw z at compared

  pub compared-right : r ≡ RightSuperseded → Compared n a b i u f (some i)
  compared-right z = rw z at compared

  pub compared-other : Other r → Compared n a b i u f g
  compared-other z = rw (z.related, z.left, z.right) at compared
