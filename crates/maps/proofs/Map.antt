-- Laws of maps: what stands at each entry, joining.
use Prim.Native.Nat.{ℕ, ◌<◌}
use mathlib.Core.Bool.{Bool, true, false, not, false≢true}
use mathlib.Core.Path.{◌≡◌, refl, sym, ap, ◌∙◌}
use mathlib.Core.List.{[]}
use mathlib.Core.Logic.{◌⊎◌, inl, inr, ⊎_elim, ◌↔◌}
use native.Mathlib.Omega.{arith}
use lib.ListN.{replicate, length-set, length-replicate, get_or-replicate, get_or-eq_default}
use lib.Seq.{get_or-set_same, get_or-set_other}
use borrow.Author.Tests.{not-true}
use Rattle.octets.specs.Bytes.{pick, ◌or◌}
use Rattle.octets.proofs.Tests.{or-none}
use Rattle.octets.proofs.Chunks.{sides, length-tabulate, get_d_tabulate, tabulate-same, tabulate-get_or}
use Rattle.octets.proofs.Zero.{every-all, every-at}
use Rattle.marks.specs.declared.History.{History}
use Rattle.marks.specs.History.{initial_history, newer_of, is_older}
use Rattle.marks.proofs.Histories.{newer-view, newer-idem}
use Rattle.maps.specs.declared.DependenceMap.{DependenceMap}
use Rattle.maps.specs.Map.{held_at, history_at, empty_map, with_entry, singleton, is_empty, joined_history, chooses_right, joined_held_at, joined_history_at, join_of, Sized, Joined, both, left, right, neither}

-- what stands past the end
abbrev pub outside : History
outside = record { stable = false; incarnation = 0; count = 0; checkpoints = [] }

-- p and h are entry i of m
pub record Entry (m : DependenceMap) (i : ℕ) (p : Bool) (h : History) : Type 0 where
  pub held : p ≡ held_at m i
  pub history : h ≡ history_at m i

-- two maps are equal by their entries
pub same_map : {n : ℕ} {a b : DependenceMap} → Sized n a → Sized n b
    → ((i : ℕ) → i < n → held_at a i ≡ held_at b i) → ((i : ℕ) → i < n → history_at a i ≡ history_at b i) → a ≡ b
same_map {n} {a} {b} s t f g =
    let p : a.held ≡ b.held =
    sym (tabulate-get_or a.held false n s.helds) ∙ tabulate-same n (held_at a) (held_at b) f ∙ tabulate-get_or b.held false n t.helds in
    let q : a.histories ≡ b.histories =
    sym (tabulate-get_or a.histories outside n s.histories) ∙ tabulate-same n (history_at a) (history_at b) g ∙ tabulate-get_or b.histories outside n t.histories in
    λ i. record { held = p i; histories = q i }

-- ---- the empty map

pub sized-empty : (l n : ℕ) → Sized n (empty_map l n)
unfolding empty_map
sized-empty l n = record { helds = length-replicate n false; histories = length-replicate n (initial_history l) }

pub held-empty : (l n i : ℕ) → held_at (empty_map l n) i ≡ false
unfolding empty_map
held-empty l n i = ⊎_elim
    (λ p. get_or-replicate n i false false p)
    (λ p. get_or-eq_default (replicate n false) false {n = i} (rw length-replicate p))
    (sides i n)

pub history-empty : (l n i : ℕ) → i < n → history_at (empty_map l n) i ≡ initial_history l
unfolding empty_map
history-empty l n i h = get_or-replicate n i (initial_history l) outside h

-- empty exactly if no entry is held
pub is_empty-test : (n : ℕ) (m : DependenceMap) → (is_empty n m ≡ true) ↔ ((i : ℕ) → i < n → held_at m i ≡ false)
unfolding is_empty
is_empty-test n m = (
  λ e i h. not-true (held_at m i) (every-at (λ j. not (held_at m j)) n i e h),
  λ f. every-all (λ j. not (held_at m j)) n (λ i h. ap not (f i h)),
)

pub is_empty_empty : (l n : ℕ) → is_empty n (empty_map l n) ≡ true
is_empty_empty l n = (is_empty-test n (empty_map l n)).1 (λ i h. held-empty l n i)

-- ---- one entry more, one entry alone

module _ {n : ℕ} {m : DependenceMap} (s : Sized n m) (i : ℕ) (h : History) where
  pub sized-with_entry : Sized n (with_entry m i h)
  unfolding with_entry
  sized-with_entry = record { helds = length-set m.held i true ∙ s.helds; histories = length-set m.histories i h ∙ s.histories }

  module _ (below : i < n) where
    pub held-with_entry : held_at (with_entry m i h) i ≡ true
    unfolding with_entry
    held-with_entry = get_or-set_same m.held i true false (omega (arith, s.helds))

    pub history-with_entry : history_at (with_entry m i h) i ≡ h
    unfolding with_entry
    history-with_entry = get_or-set_same m.histories i h outside (omega (arith, s.histories))

module _ (m : DependenceMap) (i : ℕ) (h : History) (j : ℕ) (apart : j ≡ i → ⊥) where
  pub held-with_entry-other : held_at (with_entry m i h) j ≡ held_at m j
  unfolding with_entry
  held-with_entry-other = get_or-set_other m.held i j true false apart

  pub history-with_entry-other : history_at (with_entry m i h) j ≡ history_at m j
  unfolding with_entry
  history-with_entry-other = get_or-set_other m.histories i j h outside apart

module _ (l n i : ℕ) (h : History) where
  pub sized-singleton : Sized n (singleton l n i h)
  unfolding singleton
  sized-singleton = sized-with_entry (sized-empty l n) i h

  pub held-singleton : i < n → held_at (singleton l n i h) i ≡ true
  unfolding singleton
  held-singleton below = held-with_entry (sized-empty l n) i h below

  pub history-singleton : i < n → history_at (singleton l n i h) i ≡ h
  unfolding singleton
  history-singleton below = history-with_entry (sized-empty l n) i h below

  pub held-singleton-other : (j : ℕ) → (j ≡ i → ⊥) → held_at (singleton l n i h) j ≡ false
  unfolding singleton
  held-singleton-other j apart = held-with_entry-other (empty_map l n) i h j apart ∙ held-empty l n j

-- ---- joining: entry by entry the newer where both have one

module _ (p : Bool) (x : History) (q : Bool) (y : History) where
  pub joined-left : q ≡ false → joined_history p x q y ≡ x
  unfolding joined_history chooses_right
  joined-left e = rw e

  pub joined-right : p ≡ false → q ≡ true → joined_history p x q y ≡ y
  unfolding joined_history chooses_right
  joined-right e f = rw (e, f)

  pub chooses-newer : p ≡ true → q ≡ true → chooses_right p x q y ≡ is_older x y
  unfolding chooses_right
  chooses-newer e f = rw (e, f)

  pub chooses-other : p ≡ false → q ≡ true → chooses_right p x q y ≡ true
  unfolding chooses_right
  chooses-other e f = rw (e, f)

  pub chooses-left : q ≡ false → chooses_right p x q y ≡ false
  unfolding chooses_right
  chooses-left e = rw e

pub joined-pick-held : (p : Bool) (x : History) (q : Bool) (y : History) → p or q ≡ pick (chooses_right p x q y) q p
unfolding chooses_right
joined-pick-held true x true y = alike (is_older x y)
  where
    alike : (t : Bool) → true ≡ pick t true true
    alike true = refl
    alike false = refl
joined-pick-held false x true y = refl
joined-pick-held p x false y = or-none p

-- entry i is the right one's where the test says so, else the left one's
abbrev pub chooses_right_at : DependenceMap → DependenceMap → ℕ → Bool
chooses_right_at a b i = chooses_right (held_at a i) (history_at a i) (held_at b i) (history_at b i)

module _ (a b : DependenceMap) (i : ℕ) (t : Bool) (e : chooses_right_at a b i ≡ t) where
  pub held-picked : pick t (held_at b i) (held_at a i) ≡ joined_held_at a b i
  unfolding joined_held_at
  held-picked = sym (joined-pick-held (held_at a i) (history_at a i) (held_at b i) (history_at b i) ∙ ap (λ (s : Bool). pick s (held_at b i) (held_at a i)) e)

  pub history-picked : pick t (history_at b i) (history_at a i) ≡ joined_history_at a b i
  unfolding joined_history_at joined_history
  history-picked = sym (ap (λ (s : Bool). pick s (history_at b i) (history_at a i)) e)

joined-view : (p : Bool) (x : History) (q : Bool) (y : History) → Joined p x q y (p or q) (joined_history p x q y)
unfolding joined_history chooses_right newer_of
joined-view true x true y = both refl refl (newer-view x y)
joined-view true x false y = left refl refl
joined-view false x true y = right refl refl
joined-view false x false y = neither refl refl

module _ (n : ℕ) (a b : DependenceMap) where
  pub sized-join : Sized n (join_of n a b)
  unfolding join_of
  sized-join = record { helds = length-tabulate (joined_held_at a b) n; histories = length-tabulate (joined_history_at a b) n }

  module _ (i : ℕ) (below : i < n) where
    pub held-join : held_at (join_of n a b) i ≡ joined_held_at a b i
    unfolding join_of
    held-join = get_d_tabulate (joined_held_at a b) n i false below

    pub history-join : history_at (join_of n a b) i ≡ joined_history_at a b i
    unfolding join_of
    history-join = get_d_tabulate (joined_history_at a b) n i outside below

    pub join-view : Joined (held_at a i) (history_at a i) (held_at b i) (history_at b i) (held_at (join_of n a b) i) (history_at (join_of n a b) i)
    unfolding joined_held_at joined_history_at
    join-view = rw (held-join, history-join) (joined-view (held_at a i) (history_at a i) (held_at b i) (history_at b i))

    -- by the test of the code
    module _ (t : Bool) (e : chooses_right_at a b i ≡ t) where
      pub held-chosen : held_at (join_of n a b) i ≡ pick t (held_at b i) (held_at a i)
      held-chosen = held-join ∙ sym (held-picked a b i t e)

      pub history-chosen : history_at (join_of n a b) i ≡ pick t (history_at b i) (history_at a i)
      history-chosen = history-join ∙ sym (history-picked a b i t e)

    -- where the right one holds nothing
    module _ (off : held_at b i ≡ false) where
      pub held-join-off : held_at (join_of n a b) i ≡ held_at a i
      unfolding joined_held_at
      held-join-off = held-join ∙ ap (λ (q : Bool). held_at a i or q) off ∙ or-none (held_at a i)

      pub history-join-off : history_at (join_of n a b) i ≡ history_at a i
      unfolding joined_history_at
      history-join-off = history-join ∙ joined-left (held_at a i) (history_at a i) (held_at b i) (history_at b i) off

-- an entry is held in the join exactly if one of the two holds it
pub held-join-test : (n : ℕ) (a b : DependenceMap) (i : ℕ) → i < n → (held_at (join_of n a b) i ≡ true) ↔ ((held_at a i ≡ true) ⊎ (held_at b i ≡ true))
held-join-test n a b i h = (λ e. to e (join-view n a b i h), λ e. of e (join-view n a b i h))
  where
    to : {p q r : Bool} {x y m : History} → r ≡ true → Joined p x q y r m → (p ≡ true) ⊎ (q ≡ true)
    to e (both f g v) = inl f
    to e (left f g) = inl f
    to e (right f g) = inr g
    to e (neither f g) = absurd (false≢true e)

    of : {p q r : Bool} {x y m : History} → (p ≡ true) ⊎ (q ≡ true) → Joined p x q y r m → r ≡ true
    of e (both f g v) = refl
    of e (left f g) = refl
    of e (right f g) = refl
    of (inl e) (neither f g) = absurd (false≢true (sym f ∙ e))
    of (inr e) (neither f g) = absurd (false≢true (sym g ∙ e))

-- a map joined with itself is the same
pub join-idem : {n : ℕ} {a : DependenceMap} → Sized n a → join_of n a a ≡ a
unfolding joined_history chooses_right newer_of joined_held_at joined_history_at
join-idem {n} {a} s = same_map (sized-join n a a) s
    (λ i h. held-join n a a i h ∙ held (held_at a i))
    (λ i h. history-join n a a i h ∙ history (held_at a i) (history_at a i))
  where
    held : (p : Bool) → p or p ≡ p
    held true = refl
    held false = refl

    history : (p : Bool) (x : History) → joined_history p x p x ≡ x
    history true x = newer-idem x
    history false x = refl

-- the empty map adds nothing, on the right; on the left where entries that are not held are initial
module _ (l n : ℕ) where
  pub join-empty-right : {a : DependenceMap} → Sized n a → join_of n a (empty_map l n) ≡ a
  join-empty-right {a} s = same_map (sized-join n a (empty_map l n)) s
      (λ i h. held-join-off n a (empty_map l n) i h (held-empty l n i))
      (λ i h. history-join-off n a (empty_map l n) i h (held-empty l n i))

  pub join-empty-left : {b : DependenceMap} → Sized n b → ((i : ℕ) → i < n → held_at b i ≡ false → history_at b i ≡ initial_history l)
      → join_of n (empty_map l n) b ≡ b
  unfolding joined_held_at joined_history_at
  join-empty-left {b} s f = same_map (sized-join n (empty_map l n) b) s
      (λ i h. held-join n (empty_map l n) b i h ∙ ap (λ (p : Bool). p or held_at b i) (held-empty l n i))
      (λ i h. history-join n (empty_map l n) b i h ∙ history i h (held_at b i) refl)
    where
      history : (i : ℕ) → i < n → (q : Bool) → held_at b i ≡ q → joined_history (held_at (empty_map l n) i) (history_at (empty_map l n) i) q (history_at b i) ≡ history_at b i
      history i h true e = joined-right (held_at (empty_map l n) i) (history_at (empty_map l n) i) true (history_at b i) (held-empty l n i) refl
      history i h false e =
          joined-left (held_at (empty_map l n) i) (history_at (empty_map l n) i) false (history_at b i) refl ∙ history-empty l n i h ∙ sym (f i h e)
