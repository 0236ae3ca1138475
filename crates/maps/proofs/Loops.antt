-- The loops over a map's n entries: what holds after i turns.
use Prim.Native.Nat.{ℕ, suc, ◌+◌, ◌-◌, ◌≤◌, ◌<◌}
use mathlib.Core.Bool.{Bool, true, false}
use mathlib.Core.Path.{◌≡◌, refl, sym, ap, ◌∙◌, subst}
use mathlib.Core.List.{List}
use mathlib.Core.Option.{Option, none, some}
use mathlib.Core.Logic.{⊎_elim, ◌↔◌}
use Rattle.std.specs.Prelude.{EachIndex}
use native.Mathlib.Numerals.{add-one}
use native.Mathlib.Omega.{arith}
use lib.ListN.{length, set, get_or, length-set}
use lib.Seq.{get_or-set_same, get_or-set_other}
use Rattle.octets.specs.Bytes.{pick, tabulate}
use Rattle.octets.proofs.Chunks.{sides, length-tabulate, get_d_tabulate}
use Rattle.octets.proofs.Tests.{same_test}
use Rattle.marks.specs.declared.History.{History}
use Rattle.maps.specs.declared.DependenceMap.{DependenceMap}
use Rattle.maps.specs.Map.{held_at, history_at, is_empty, chooses_right, joined_held_at, joined_history_at, join_of, superseded_at, first_from, first_superseded, Sized}
use Rattle.maps.proofs.Map.{outside, Entry, is_empty-test, same_map, chooses_right_at, held-picked, history-picked, held-join, history-join, held-join-off, history-join-off}

-- ---- a list changed entry by entry: the first i are those of f, the others still those of g

pub record Begun {A : Type 0} (d : A) (f g : ℕ → A) (i : ℕ) (l : List A) : Type 0 where
  pub before : (j : ℕ) → j < i → get_or l j d ≡ f j
  pub after : (j : ℕ) → i ≤ j → get_or l j d ≡ g j

module _ {A : Type 0} (d : A) (f g : ℕ → A) where
  -- what holds below i and at i
  next : (l : List A) (i : ℕ) → ((j : ℕ) → j < i → get_or l j d ≡ f j) → get_or l i d ≡ f i → (j : ℕ) → j < i + 1 → get_or l j d ≡ f j
  next l i b e j h = ⊎_elim
      (λ (p : j < i). b j p)
      (λ (p : i ≤ j). let q : i ≡ j = omega arith in subst (λ (x : ℕ). get_or l x d ≡ f x) q e)
      (sides j i)

  begun-set : (l : List A) (i : ℕ) (v : A) → Begun d f g i l → i < length l → v ≡ f i → Begun d f g (i + 1) (set l i v)
  begun-set l i v k h e = record {
    before = next (set l i v) i (λ j (p : j < i). get_or-set_other l i j v d (λ q. omega arith) ∙ k.before j p) (get_or-set_same l i v d h ∙ e);
    after = λ j (p : i + 1 ≤ j). get_or-set_other l i j v d (λ q. omega arith) ∙ k.after j (omega arith);
  }

  begun-keep : (l : List A) (i : ℕ) → Begun d f g i l → g i ≡ f i → Begun d f g (i + 1) l
  begun-keep l i k e = record {
    before = next l i k.before (k.after i (omega arith) ∙ e);
    after = λ j (p : i + 1 ≤ j). k.after j (omega arith);
  }

-- a map that is changed entry by entry, from a on
pub record Changing (n : ℕ) (f : ℕ → Bool) (g : ℕ → History) (a : DependenceMap) (i : ℕ) (r : DependenceMap) : Type 0 where
  pub held : Begun false f (held_at a) i r.held
  pub histories : Begun outside g (history_at a) i r.histories
  pub sized : Sized n r

module _ {n : ℕ} (f : ℕ → Bool) (g : ℕ → History) (a : DependenceMap) where
  pub changing-none : Sized n a → Changing n f g a 0 a
  changing-none s = record {
    held = record { before = λ j h. absurd (omega arith); after = λ j h. refl };
    histories = record { before = λ j h. absurd (omega arith); after = λ j h. refl };
    sized = s;
  }

  module _ {r : DependenceMap} (i : ℕ) (k : Changing n f g a i r) where
    pub changing-set : i < n → (p : Bool) (h : History) → p ≡ f i → h ≡ g i
        → Changing n f g a (i + 1) (record { held = set r.held i p; histories = set r.histories i h })
    changing-set below p h e d = record {
      held = begun-set false f (held_at a) r.held i p k.held (omega (arith, k.sized.helds)) e;
      histories = begun-set outside g (history_at a) r.histories i h k.histories (omega (arith, k.sized.histories)) d;
      sized = record { helds = length-set r.held i p ∙ k.sized.helds; histories = length-set r.histories i h ∙ k.sized.histories };
    }

    pub changing-keep : held_at a i ≡ f i → history_at a i ≡ g i → Changing n f g a (i + 1) r
    changing-keep e d = record {
      held = begun-keep false f (held_at a) r.held i k.held e;
      histories = begun-keep outside g (history_at a) r.histories i k.histories d;
      sized = k.sized;
    }

  -- after i entries, the others being already as they are to be
  pub changing-all : {r : DependenceMap} (i : ℕ) → Changing n f g a i r → ((j : ℕ) → i ≤ j → j < n → (held_at a j ≡ f j) × (history_at a j ≡ g j))
      → r ≡ record { held = tabulate n f; histories = tabulate n g }
  changing-all {r} i k rest = same_map k.sized (record { helds = length-tabulate f n; histories = length-tabulate g n })
      (λ j (h : j < n). ⊎_elim (λ (p : j < i). k.held.before j p) (λ (p : i ≤ j). k.held.after j p ∙ (rest j p h).0) (sides j i) ∙ sym (get_d_tabulate f n j false h))
      (λ j (h : j < n). ⊎_elim (λ (p : j < i). k.histories.before j p) (λ (p : i ≤ j). k.histories.after j p ∙ (rest j p h).1) (sides j i) ∙ sym (get_d_tabulate g n j outside h))

-- a map that is joined entry by entry
abbrev pub Joining : ℕ → DependenceMap → DependenceMap → ℕ → DependenceMap → Type 0
Joining n a b i r = Changing n (joined_held_at a b) (joined_history_at a b) a i r

module _ {n : ℕ} (a b : DependenceMap) where
  pub joining-none : Sized n a → Joining n a b 0 a
  joining-none s = changing-none (joined_held_at a b) (joined_history_at a b) a s

  module _ {r : DependenceMap} (i : ℕ) (k : Joining n a b i r) where
    -- entry i is still the left one
    pub joining-entry : Entry a i (held_at r i) (history_at r i)
    joining-entry = record { held = k.held.after i (omega arith); history = k.histories.after i (omega arith) }

    module _ {q : Bool} {y : History} (g : Entry b i q y) where
      side : (t : Bool) → t ≡ chooses_right (held_at r i) (history_at r i) q y → chooses_right_at a b i ≡ t
      side t e = sym (rw (joining-entry.held, joining-entry.history, g.held, g.history) at e)

      pub joining-right : i < n → true ≡ chooses_right (held_at r i) (history_at r i) q y
          → Joining n a b (i + 1) (record { held = set r.held i q; histories = set r.histories i y })
      joining-right below e =
          changing-set (joined_held_at a b) (joined_history_at a b) a i k below q y
          (g.held ∙ held-picked a b i true (side true e)) (g.history ∙ history-picked a b i true (side true e))

      pub joining-left : false ≡ chooses_right (held_at r i) (history_at r i) q y → Joining n a b (i + 1) r
      joining-left e =
          changing-keep (joined_held_at a b) (joined_history_at a b) a i k (held-picked a b i false (side false e)) (history-picked a b i false (side false e))

  -- after i entries, the right one holding none of the others
  pub joining-all : {r : DependenceMap} (i : ℕ) → Joining n a b i r → ((j : ℕ) → i ≤ j → j < n → held_at b j ≡ false) → r ≡ join_of n a b
  unfolding join_of
  joining-all i k off = changing-all (joined_held_at a b) (joined_history_at a b) a i k
      (λ j p h. (sym (held-join-off n a b j h (off j p h)) ∙ held-join n a b j h, sym (history-join-off n a b j h (off j p h)) ∙ history-join n a b j h))

-- ---- no entry: r says that no place is held

pub is_empty-each : {n : ℕ} (m : DependenceMap) → length m.held ≡ n → (r : Bool) → (r ≡ true) ↔ EachIndex m.held (λ k. held_at m k ≡ false) → r ≡ is_empty n m
is_empty-each {n} m long r each = same_test r (is_empty n m)
    (λ e. (is_empty-test n m).1 (λ i h. each.0 e i (omega arith)))
    (λ e. each.1 (λ i h. (is_empty-test n m).0 e i (omega arith)))

-- ---- the first entry that is superseded: the answer is that for the entries from i on

unfoldable pub first_rest : ℕ → DependenceMap → DependenceMap → ℕ → Option ℕ
first_rest n a b i = first_from (superseded_at a b) i (n - i)

module _ (n : ℕ) (a b : DependenceMap) where
  pub first-all : first_superseded n a b ≡ first_rest n a b 0
  unfolding first_rest first_superseded
  first-all = let e : n - 0 ≡ n = omega arith in rw e

  module _ (i : ℕ) (below : i < n) where
    pub first_off : superseded_at a b i ≡ false → first_rest n a b i ≡ first_rest n a b (i + 1)
    unfolding first_rest first_from
    first_off e = let k : n - i ≡ suc (n - (i + 1)) = omega arith in rw (k, add-one, e)

    pub first_on : superseded_at a b i ≡ true → first_rest n a b i ≡ some i
    unfolding first_rest first_from
    first_on e = let k : n - i ≡ suc (n - (i + 1)) = omega arith in rw (k, e)

  -- from the last entry to the first: the answer r from j on, and r' from the entry before it on
  pub first_back : (i j : ℕ) → i + 1 ≡ j → j ≤ n → (t : Bool) → superseded_at a b i ≡ t → (r r' : Option ℕ)
      → r ≡ first_rest n a b j → r' ≡ pick t (some i) r → r' ≡ first_rest n a b i
  first_back i j e h true f r r' k z = z ∙ sym (first_on i (omega arith) f)
  first_back i j e h false f r r' k z = z ∙ k ∙ ap (first_rest n a b) (sym e) ∙ sym (first_off i (omega arith) f)

  pub first-end : (i : ℕ) → i ≡ n → first_rest n a b i ≡ none
  unfolding first_rest first_from
  first-end i h = let k : n - i ≡ 0 = omega arith in rw k
