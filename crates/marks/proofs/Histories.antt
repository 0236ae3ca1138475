-- Laws on histories: their incarnations, their room, the newer of two.
use Prim.Native.Nat.{ℕ, ◌+◌, ◌≤◌, ◌<◌}
use mathlib.Core.Bool.{Bool, true, false}
use mathlib.Core.Path.{◌≡◌, refl, ap, sym, ◌∙◌, subst}
use mathlib.Core.Logic.{◌⊎◌, inl, inr, ⊎_elim}
use native.Mathlib.Numerals.{add-one}
use native.Mathlib.Omega.{arith}
use lib.Dec.{ltb}
use lib.ListN.{length, length-set}
use lib.Seq.{take_all, length-take-le, take-suc-set, get_or-set_other}
use borrow.Author.Tests.{ltb-true, ltb-false, lt-ltb, le-ltb, eq-eqb, ne_eqb}
use Rattle.std.proofs.Common.{Some, Less, Equal, Greater}
use Rattle.std.specs.Ordering.{nat_cmp, bool_cmp, is_lt, is_some_and, partial_ordering_then}
use Rattle.octets.specs.Bytes.{pick}
use Rattle.octets.proofs.Tests.{pick-view}
use Rattle.octets.proofs.Chunks.{sides}
use Rattle.octets.proofs.Zero.{length-zeros, get_or-zeros}
use Rattle.marks.specs.declared.History.{History}
use Rattle.marks.specs.Incarnation.{Incarnation, initial_incarnation, next_incarnation, checkpoint_incarnation}
use Rattle.marks.specs.History.{incarnation_of, initial_history, stabilized, rolled_back, checkpointed, newer_of, is_older, Roomy, HistoryView, view_of, initial_view, stabilized_view, rolled_back_view, checkpointed_view, history_of, newer_view, Newer, right-longer, left-longer, right-number, left-number, left-stable, right-stable, left-same}
use Rattle.marks.specs.Order.{Precedes}
use Rattle.marks.proofs.Order.{precedes-refl, precedes-trans, precedes-antisym, precedes-eq, precedes-next, precedes-checkpoint, superseded-next, superseded-ne, checkpointed-checkpoint, checkpointed-ne, by_size, by_number, later-size, same-incarnation}

-- ---- the life of a mark

pub incarnation-rolled_back : (h : History) → incarnation_of (rolled_back h) ≡ next_incarnation (incarnation_of h)
incarnation-rolled_back h = refl

pub incarnation-checkpointed : {l : ℕ} {h : History} → Roomy l h → h.count < l → incarnation_of (checkpointed h) ≡ checkpoint_incarnation (incarnation_of h)
incarnation-checkpointed {l} {h} r k =
    let e : h.count < length h.checkpoints = omega (arith, r.places) in
    ap (λ xs. record { checkpoints = xs; number = 0 })
    (rw add-one (take-suc-set h.checkpoints h.count h.incarnation e))

-- ---- room

-- the list of the life is as long as the count says
pub roomy-length : {l : ℕ} {h : History} → Roomy l h → length (incarnation_of h).checkpoints ≡ h.count
roomy-length {l} {h} r = length-take-le h.count h.checkpoints (omega (arith, r.places, r.within))

pub roomy-initial : (l : ℕ) → Roomy l (initial_history l)
roomy-initial l = record { places = length-zeros l; within = omega arith; unused = λ i p. get_or-zeros l i }

pub roomy-stabilized : {l : ℕ} {h : History} → Roomy l h → Roomy l (stabilized h)
roomy-stabilized r = record { places = r.places; within = r.within; unused = r.unused }

pub roomy-rolled_back : {l : ℕ} {h : History} → Roomy l h → Roomy l (rolled_back h)
roomy-rolled_back r = record { places = r.places; within = r.within; unused = r.unused }

pub roomy-checkpointed : {l : ℕ} {h : History} → Roomy l h → h.count < l → Roomy l (checkpointed h)
roomy-checkpointed {l} {h} r k = record {
  places = length-set h.checkpoints h.count h.incarnation ∙ r.places;
  within = omega arith;
  unused = λ i (p : h.count + 1 ≤ i). get_or-set_other h.checkpoints h.count i h.incarnation 0 (λ e. omega arith) ∙ r.unused i (omega arith);
}

-- ---- the newer of two

pub newer-view : (a b : History) → Newer a b (newer_of a b)
unfolding newer_of is_older
newer-view a b =
    pick-view chosen (ltb a.count b.count) true _ (λ e. right-longer (ltb-true a.count b.count e)) λ e1.
    pick-view chosen (ltb b.count a.count) false _ (λ e. left-longer (ltb-true b.count a.count e)) λ e2.
    let l : a.count ≡ b.count = omega (arith, ltb-false a.count b.count e1, ltb-false b.count a.count e2) in
    pick-view chosen (ltb a.incarnation b.incarnation) true _ (λ e. right-number l (ltb-true a.incarnation b.incarnation e)) λ e3.
    pick-view chosen (ltb b.incarnation a.incarnation) false _ (λ e. left-number l (ltb-true b.incarnation a.incarnation e)) λ e4.
    let n : a.incarnation ≡ b.incarnation = omega (arith, ltb-false a.incarnation b.incarnation e3, ltb-false b.incarnation a.incarnation e4) in
    pick-view chosen a.stable false b.stable (λ e. left-stable l n e) λ e5.
    pick-view (Newer a b) b.stable b a (λ e. right-stable l n e5 e) (λ e. left-same l n e5 e)
  where
    chosen : Bool → Type 0
    chosen t = Newer a b (pick t b a)

-- equal numbers are not in order
level : (n m : ℕ) → n ≡ m → ltb n m ≡ false
level n m e = le-ltb n m (omega arith)

newer-is : {a b m : History} → Newer a b m → m ≡ newer_of a b
unfolding newer_of is_older
newer-is (right-longer l) = simp (lt-ltb _ _ l)
newer-is {a} {b} (left-longer l) = simp (le-ltb a.count b.count (omega arith), lt-ltb _ _ l)
newer-is (right-number e l) = simp (level _ _ e, level _ _ (sym e), lt-ltb _ _ l)
newer-is {a} {b} (left-number e l) = simp (level _ _ e, level _ _ (sym e), le-ltb a.incarnation b.incarnation (omega arith), lt-ltb _ _ l)
newer-is (left-stable e n p) = simp (level _ _ e, level _ _ (sym e), level _ _ n, level _ _ (sym n), p)
newer-is (right-stable e n p q) = simp (level _ _ e, level _ _ (sym e), level _ _ n, level _ _ (sym n), p, q)
newer-is (left-same e n p q) = simp (level _ _ e, level _ _ (sym e), level _ _ n, level _ _ (sym n), p, q)

-- what the code compares: the counts, the numbers and the flags, in this order
less-cmp : (n m : ℕ) → n < m → nat_cmp n m ≡ Less
less-cmp n m h = rw (lt-ltb n m h)

even-cmp : (n m : ℕ) → n ≡ m → nat_cmp n m ≡ Equal
even-cmp n m h = rw (le-ltb n m (omega arith), eq-eqb n m h)

more-cmp : (n m : ℕ) → m < n → nat_cmp n m ≡ Greater
more-cmp n m h = let p : n ≡ m → ⊥ = λ e. omega arith in rw (le-ltb n m (omega arith), ne_eqb n m p)

flags-cmp : (s t : Bool) → is_lt (bool_cmp s t) ≡ pick s false t
flags-cmp true true = refl
flags-cmp true false = refl
flags-cmp false true = refl
flags-cmp false false = refl

either : (P : Type 0) (n m : ℕ) → (n < m → P) → (n ≡ m → P) → (m < n → P) → P
either P n m f g h = ⊎_elim f (λ (k : m ≤ n). ⊎_elim h (λ (l : n ≤ m). g (omega arith)) (sides m n)) (sides n m)

pub older-tuple : (a b : History)
    → is_some_and is_lt (partial_ordering_then (partial_ordering_then (Some (nat_cmp a.count b.count)) (Some (nat_cmp a.incarnation b.incarnation))) (Some (bool_cmp a.stable b.stable)))
    ≡ is_older a b
unfolding is_older
older-tuple a b =
    either _ a.count b.count (λ k. rw (less-cmp _ _ k, lt-ltb _ _ k))
    (λ e. rw (even-cmp _ _ e, level _ _ e, level _ _ (sym e))
    (either _ a.incarnation b.incarnation (λ k. rw (less-cmp _ _ k, lt-ltb _ _ k))
    (λ f. rw (even-cmp _ _ f, level _ _ f, level _ _ (sym f)) (flags-cmp a.stable b.stable))
    (λ k. rw (more-cmp _ _ k, le-ltb a.incarnation b.incarnation (omega arith), lt-ltb _ _ k))))
    (λ k. rw (more-cmp _ _ k, le-ltb a.count b.count (omega arith), lt-ltb _ _ k))

pub newer-which : {a b m : History} → Newer a b m → (m ≡ a) ⊎ (m ≡ b)
newer-which (right-longer l) = inr refl
newer-which (left-longer l) = inl refl
newer-which (right-number e l) = inr refl
newer-which (left-number e l) = inl refl
newer-which (left-stable e n p) = inl refl
newer-which (right-stable e n p q) = inr refl
newer-which (left-same e n p q) = inl refl

pub newer-idem : (a : History) → newer_of a a ≡ a
newer-idem a = ⊎_elim (λ e. e) (λ e. e) (newer-which (newer-view a a))

-- what holds of both holds of the newer one
pub newer-keeps : (P : History → Type 0) {a b m : History} → P a → P b → Newer a b m → P m
newer-keeps P p q v = ⊎_elim (λ e. subst P (sym e) p) (λ e. subst P (sym e) q) (newer-which v)

pub roomy-newer : {l : ℕ} {a b m : History} → Roomy l a → Roomy l b → Newer a b m → Roomy l m
roomy-newer {l} = newer-keeps (Roomy l)

-- the newer one has no fewer signings than the right one
pub newer-count : {a b m : History} → Newer a b m → b.count ≤ m.count
newer-count (right-longer l) = omega arith
newer-count (left-longer l) = omega arith
newer-count (right-number e l) = omega arith
newer-count (left-number e l) = omega arith
newer-count (left-stable e n p) = omega arith
newer-count (right-stable e n p q) = omega arith
newer-count (left-same e n p q) = omega arith

-- counts compare as the lists of the lives do
module _ {l : ℕ} {a b : History} (r : Roomy l a) (s : Roomy l b) where
  shorter : a.count < b.count → length (incarnation_of a).checkpoints < length (incarnation_of b).checkpoints
  shorter h = omega (arith, roomy-length r, roomy-length s)

  even : a.count ≡ b.count → length (incarnation_of a).checkpoints ≡ length (incarnation_of b).checkpoints
  even e = roomy-length r ∙ e ∙ sym (roomy-length s)

-- ---- views

-- a frozen mark frozen again
pub stable-is : (m : HistoryView) → m.stable ≡ true → stabilized_view m ≡ m
stable-is m e = λ i. record { stable = sym e i; incarnation = m.incarnation }

pub view-rolled_back : (h : History) → view_of (rolled_back h) ≡ rolled_back_view (view_of h)
view-rolled_back h = refl

pub view-checkpointed : {l : ℕ} {h : History} → Roomy l h → h.count < l → view_of (checkpointed h) ≡ checkpointed_view (view_of h)
view-checkpointed r k = ap (λ a. record { stable = false; incarnation = a }) (incarnation-checkpointed r k)

pub view-history : (v : HistoryView) → view_of (history_of v) ≡ v
view-history v = ap (λ l. record { stable = v.stable; incarnation = record { checkpoints = l; number = v.incarnation.number } }) (take_all (length v.incarnation.checkpoints) v.incarnation.checkpoints (omega arith))

-- the view of the newer one is the newer of the views
pub view-newer : {l : ℕ} {a b : History} → Roomy l a → Roomy l b → view_of (newer_of a b) ≡ newer_view (view_of a) (view_of b)
unfolding newer_view
view-newer {l} {a} {b} r s = go (newer-view a b)
  where
    x : History
    x = history_of (view_of a)

    y : History
    y = history_of (view_of b)

    left : Newer x y x → view_of a ≡ view_of (newer_of x y)
    left v = sym (view-history (view_of a)) ∙ ap view_of (newer-is v)

    right : Newer x y y → view_of b ≡ view_of (newer_of x y)
    right v = sym (view-history (view_of b)) ∙ ap view_of (newer-is v)

    go : {m : History} → Newer a b m → view_of m ≡ view_of (newer_of x y)
    go (right-longer l) = right (right-longer (shorter r s l))
    go (left-longer l) = left (left-longer (shorter s r l))
    go (right-number e l) = right (right-number (even r s e) l)
    go (left-number e l) = left (left-number (even r s e) l)
    go (left-stable e n p) = left (left-stable (even r s e) n p)
    go (right-stable e n p q) = right (right-stable (even r s e) n p q)
    go (left-same e n p q) = left (left-same (even r s e) n p q)

-- ---- two marks of one take, the later one last

-- An earlier life; or the same one, and frozen only if b is. Then a may stand in a map where b is the present mark of the take.
infix 4 ◌⊑◌
pub record ◌⊑◌ (a b : HistoryView) : Type 0 where
  pub incarnation : Precedes a.incarnation b.incarnation
  pub stable : a.incarnation ≡ b.incarnation → a.stable ≡ true → b.stable ≡ true

pub ⊑_refl : (a : HistoryView) → a ⊑ a
⊑_refl a = record { incarnation = precedes-refl _; stable = λ e f. f }

pub ⊑_trans : {a b c : HistoryView} → a ⊑ b → b ⊑ c → a ⊑ c
⊑_trans {a} {b} {c} h k = record { incarnation = precedes-trans h.incarnation k.incarnation; stable = carry }
  where
    carry : a.incarnation ≡ c.incarnation → a.stable ≡ true → c.stable ≡ true
    carry e f =
        let p : a.incarnation ≡ b.incarnation = precedes-antisym h.incarnation (rw e k.incarnation) in
        k.stable (sym p ∙ e) (h.stable p f)

-- ---- the present mark only moves on

pub ⊑-stabilized : (a : HistoryView) → a ⊑ stabilized_view a
⊑-stabilized a = record { incarnation = precedes-refl _; stable = λ e f. refl }

pub ⊑-rolled_back : (a : HistoryView) → a ⊑ rolled_back_view a
⊑-rolled_back a = record {
  incarnation = precedes-next a.incarnation;
  stable = λ e. absurd (superseded-ne (superseded-next a.incarnation) e);
}

pub ⊑-checkpointed : (a : HistoryView) → a ⊑ checkpointed_view a
⊑-checkpointed a = record {
  incarnation = precedes-checkpoint a.incarnation;
  stable = λ e. absurd (checkpointed-ne (checkpointed-checkpoint a.incarnation) e);
}

-- a take in its opening life may vanish: whatever is known of it stays known
pub ⊑-annihilated : (a : HistoryView) → a.incarnation ≡ initial_incarnation → a ⊑ stabilized_view initial_view
⊑-annihilated a e = record { incarnation = precedes-eq e; stable = λ f g. refl }

-- ---- the newer of two views

module _ (a b : HistoryView) where
  pub newer_view-which : (newer_view a b ≡ a) ⊎ (newer_view a b ≡ b)
  unfolding newer_view
  newer_view-which = ⊎_elim (λ e. inl (ap view_of e ∙ view-history a)) (λ e. inr (ap view_of e ∙ view-history b)) (newer-which (newer-view (history_of a) (history_of b)))

  -- of two whose lives precede one third, both precede the newer one
  pub newer_view-later : (c : Incarnation) → Precedes a.incarnation c → Precedes b.incarnation c
      → Precedes a.incarnation (newer_view a b).incarnation × Precedes b.incarnation (newer_view a b).incarnation
  unfolding newer_view
  newer_view-later c h k = go (newer-view (history_of a) (history_of b))
    where
      Both : HistoryView → Type 0
      Both m = Precedes a.incarnation m.incarnation × Precedes b.incarnation m.incarnation

      left : Precedes b.incarnation a.incarnation → Both (view_of (history_of a))
      left p = subst Both (sym (view-history a)) (precedes-refl _, p)

      right : Precedes a.incarnation b.incarnation → Both (view_of (history_of b))
      right p = subst Both (sym (view-history b)) (p, precedes-refl _)

      go : {m : History} → Newer (history_of a) (history_of b) m → Both (view_of m)
      go (right-longer l) = right (by_size h k l)
      go (left-longer l) = left (by_size k h l)
      go (right-number e l) = right (by_number h k e (omega arith))
      go (left-number e l) = left (by_number k h (sym e) (omega arith))
      go (left-stable e n p) = left (by_number k h (sym e) (omega arith))
      go (right-stable e n p q) = right (by_number h k e (omega arith))
      go (left-same e n p q) = left (by_number k h (sym e) (omega arith))

  -- the right one is kept where the left one is no later
  module _ (o : a ⊑ b) where
    before : Precedes a.incarnation b.incarnation
    before = o.incarnation

    alike : length a.incarnation.checkpoints ≡ length b.incarnation.checkpoints → a.incarnation.number ≡ b.incarnation.number → a.stable ≡ b.stable
        → view_of (history_of a) ≡ b
    alike e n p = let q = same-incarnation before e n in view-history a ∙ (λ i. record { stable = p i; incarnation = q i })

    pub newer_view-right : newer_view a b ≡ b
    unfolding newer_view
    newer_view-right = go (newer-view (history_of a) (history_of b))
      where
        go : {m : History} → Newer (history_of a) (history_of b) m → view_of m ≡ b
        go (right-longer l) = view-history b
        go (left-longer l) = absurd (later-size before (inl l))
        go (right-number e l) = view-history b
        go (left-number e l) = absurd (later-size before (inr (sym e, l)))
        go (left-stable e n p) = alike e n (p ∙ sym (o.stable (same-incarnation before e n) p))
        go (right-stable e n p q) = view-history b
        go (left-same e n p q) = alike e n (p ∙ sym q)
