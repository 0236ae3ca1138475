-- News of a freeze: what a mark shows of a life, and what becomes of the recorded one.
use Prim.Native.Nat.{ℕ, ◌≤◌}
use mathlib.Core.Bool.{Bool, true, false, not, false≢true}
use mathlib.Core.Path.{◌≡◌, refl, sym, ◌∙◌}
use mathlib.Core.List.{List, [], ◌∷◌}
use mathlib.Core.Logic.{◌↔◌}
use lib.Dec.{ltb}
use lib.ListN.{length}
use borrow.Author.Tests.{ltb-false}
use Rattle.octets.specs.Bytes.{pick, ◌and◌, ◌or◌}
use Rattle.octets.proofs.Tests.{pick-view}
use Rattle.octets.proofs.Zero.{both}
use Rattle.marks.specs.declared.History.{History}
use Rattle.marks.specs.Incarnation.{Incarnation, same_incarnation, checkpointed_in, begins_with, same_list}
use Rattle.marks.specs.History.{HistoryView, incarnation_of, view_of, stabilized, stabilized_view, Roomy}
use Rattle.marks.specs.Relation.{relation_of, is_same, is_left_checkpointed}
use Rattle.marks.specs.Packed.{Packable}
use Rattle.marks.specs.News.{shows_stable, informed, Shows, by-stable, by-list}
use Rattle.marks.specs.Internal.News.{may_show}
use Rattle.marks.proofs.Compare.{checkpointed-short}
use Rattle.marks.proofs.Order.{checkpointed-up, checkpointed-ne}
use Rattle.marks.proofs.Tests.{checkpointed-test, same_test}
use Rattle.marks.proofs.Related.{same_reads, checkpointed-reads}
use Rattle.marks.proofs.Histories.{◌⊑◌, roomy-stabilized}
use Rattle.marks.proofs.Packed.{packable-stabilized}

-- ---- what is shown

pub shows-test : (a : Incarnation) (p : HistoryView) → (shows_stable a p ≡ true) ↔ Shows a p
unfolding shows_stable
shows-test a p = (to (same_incarnation a p.incarnation and p.stable) refl, of)
  where
    to : (t : Bool) → same_incarnation a p.incarnation and p.stable ≡ t → t or checkpointed_in a p.incarnation ≡ true → Shows a p
    to true e f = let h = both (same_incarnation a p.incarnation) p.stable e in by-stable ((same_test a p.incarnation).0 h.0) h.1
    to false e f = by-list ((checkpointed-test a p.incarnation).0 f)

    first : (t u : Bool) → t ≡ true → t or u ≡ true
    first t u e = rw e

    second : (t u : Bool) → u ≡ true → t or u ≡ true
    second true u e = refl
    second false u e = e

    of : Shows a p → (same_incarnation a p.incarnation and p.stable) or checkpointed_in a p.incarnation ≡ true
    of (by-stable e s) = first (same_incarnation a p.incarnation and p.stable) (checkpointed_in a p.incarnation) (rw ((same_test a p.incarnation).1 e, s))
    of (by-list c) = second (same_incarnation a p.incarnation and p.stable) (checkpointed_in a p.incarnation) ((checkpointed-test a p.incarnation).1 c)

-- by the tests of the code, in their order
module _ (a : Incarnation) (p : HistoryView) where
  pub shows-list : checkpointed_in a p.incarnation ≡ true → true ≡ shows_stable a p
  unfolding shows_stable
  shows-list e = go (same_incarnation a p.incarnation and p.stable) (checkpointed_in a p.incarnation) e
    where
      go : (t u : Bool) → u ≡ true → true ≡ t or u
      go true u e = refl
      go false u e = sym e

  pub shows-unstable : checkpointed_in a p.incarnation ≡ false → p.stable ≡ false → false ≡ shows_stable a p
  unfolding shows_stable
  shows-unstable e f = go (same_incarnation a p.incarnation) p.stable (checkpointed_in a p.incarnation) f e
    where
      go : (t u v : Bool) → u ≡ false → v ≡ false → false ≡ (t and u) or v
      go true u v e f = rw (e, f)
      go false u v e f = sym f

  pub shows_same : checkpointed_in a p.incarnation ≡ false → p.stable ≡ true → same_incarnation a p.incarnation ≡ shows_stable a p
  unfolding shows_stable
  shows_same e f = go (same_incarnation a p.incarnation) p.stable (checkpointed_in a p.incarnation) f e
    where
      go : (t u v : Bool) → u ≡ true → v ≡ false → t ≡ (t and u) or v
      go true u v e f = rw e
      go false u v e f = sym f

-- what the first bytes rule out
pub may_none : (l : ℕ) (p : Bool) (x : History) (q : Bool) (y : History) → length x.checkpoints ≡ l → length y.checkpoints ≡ l → x.count ≤ l → y.count ≤ l
    → may_show p x q y ≡ false → false ≡ q and (p and (not x.stable and shows_stable (incarnation_of x) (view_of y)))
unfolding may_show
may_none l p x true y lx ly cx cy e = go p x.stable y.stable refl (ltb x.count y.count) refl e
  where
    go : (p a b : Bool) → y.stable ≡ b → (t : Bool) → ltb x.count y.count ≡ t → (p and not a) and ((true and b) or t) ≡ false
        → false ≡ p and (not a and shows_stable (incarnation_of x) (view_of y))
    go false a b f t g z = refl
    go true true b f t g z = refl
    go true false true f t g z = absurd (false≢true (sym z))
    go true false false f true g z = absurd (false≢true (sym z))
    go true false false f false g z =
        shows-unstable (incarnation_of x) (view_of y) (sym (checkpointed-short l x y lx ly cx cy (ltb-false x.count y.count g))) f
may_none l p x false y lx ly cx cy e = refl

-- and else
pub may-some : (p : Bool) (x : History) (q : Bool) (y : History) → may_show p x q y ≡ true → (p ≡ true) × (x.stable ≡ false)
unfolding may_show
may-some p x q y e = go p x.stable refl e
  where
    go : (p a : Bool) → x.stable ≡ a → (p and not a) and ((q and y.stable) or ltb x.count y.count) ≡ true → (p ≡ true) × (x.stable ≡ false)
    go true false f z = (refl, f)
    go true true f z = absurd (false≢true z)
    go false a f z = absurd (false≢true z)

-- one comparison says it: the same life, and frozen; or the recorded one is the earlier, and signed
pub shows-reads : (a : Incarnation) (p : HistoryView)
    → shows_stable a p ≡ (is_same (relation_of a p.incarnation) and p.stable) or is_left_checkpointed (relation_of a p.incarnation)
unfolding shows_stable
shows-reads a p = rw (same_reads a p.incarnation, checkpointed-reads a p.incarnation)

-- ---- the recorded mark

module _ (x y : History) where
  -- "no mark changes its life"
  pub informed-incarnation : incarnation_of (informed x y) ≡ incarnation_of x
  unfolding informed
  informed-incarnation = pick-view (λ z. incarnation_of z ≡ incarnation_of x) (shows_stable (incarnation_of x) (view_of y)) (stabilized x) x (λ e. refl) (λ e. refl)

  pub informed-count : (informed x y).count ≡ x.count
  unfolding informed
  informed-count = pick-view (λ z. z.count ≡ x.count) (shows_stable (incarnation_of x) (view_of y)) (stabilized x) x (λ e. refl) (λ e. refl)

  -- a frozen one stays as it is
  pub informed-stable : x.stable ≡ true → informed x y ≡ x
  unfolding informed
  informed-stable e = pick-view (λ z. z ≡ x) (shows_stable (incarnation_of x) (view_of y)) (stabilized x) x (λ f. same) (λ f. refl)
    where
      same : stabilized x ≡ x
      same = λ i. record { stable = sym e i; incarnation = x.incarnation; count = x.count; checkpoints = x.checkpoints }

pub roomy-informed : {l : ℕ} {x : History} (y : History) → Roomy l x → Roomy l (informed x y)
unfolding informed
roomy-informed {l} {x} y r = pick-view (Roomy l) (shows_stable (incarnation_of x) (view_of y)) (stabilized x) x (λ e. roomy-stabilized r) (λ e. r)

pub packable-informed : {w l : ℕ} {x : History} (y : History) → Packable w l x → Packable w l (informed x y)
unfolding informed
packable-informed {w} {l} {x} y p = pick-view (Packable w l) (shows_stable (incarnation_of x) (view_of y)) (stabilized x) x (λ e. packable-stabilized p) (λ e. p)

-- ---- the same on views

unfoldable pub informed_view : HistoryView → HistoryView → HistoryView
informed_view m p = pick (shows_stable m.incarnation p) (stabilized_view m) m

pub view-informed : (x y : History) → view_of (informed x y) ≡ informed_view (view_of x) (view_of y)
unfolding informed informed_view
view-informed x y = go (shows_stable (incarnation_of x) (view_of y))
  where
    go : (t : Bool) → view_of (pick t (stabilized x) x) ≡ pick t (stabilized_view (view_of x)) (view_of x)
    go true = refl
    go false = refl

-- what is shown of a mark that precedes the present one, by a mark that does too, holds of the present one
pub shown-known : {m p c : HistoryView} → m ⊑ c → p ⊑ c → Shows m.incarnation p → stabilized_view m ⊑ c
shown-known {m} {p} {c} h k n = record { incarnation = h.incarnation; stable = λ e f. go n e }
  where
    go : Shows m.incarnation p → m.incarnation ≡ c.incarnation → c.stable ≡ true
    go (by-stable i s) e = k.stable (sym i ∙ e) s
    go (by-list s) e = absurd (checkpointed-ne (checkpointed-up s k.incarnation) e)

-- ---- examples

abbrev inc : List ℕ → ℕ → Incarnation
inc l n = record { checkpoints = l; number = n }

abbrev shown : Incarnation → Bool → Incarnation → Bool
shown a stable b = shows_stable a (record { stable = stable; incarnation = b })

pub record Examples : Type 0 where
  -- a frozen mark of the same life; an unfrozen one; a frozen one of the life before it, and of the next
  same-incarnation : shown (inc (2 ∷ []) 1) true (inc (2 ∷ []) 1) ≡ true
  unstable : shown (inc (2 ∷ []) 1) false (inc (2 ∷ []) 1) ≡ false
  before : shown (inc (2 ∷ []) 1) true (inc (2 ∷ []) 0) ≡ false
  after : shown (inc (2 ∷ []) 1) true (inc (2 ∷ []) 2) ≡ false
  -- a longer list whose next entry is n, whatever follows and frozen or not; a prefix alone is not enough
  longer : shown (inc (2 ∷ []) 1) false (inc (2 ∷ 1 ∷ []) 5) ≡ true
  much-longer : shown (inc (2 ∷ []) 1) false (inc (2 ∷ 1 ∷ 7 ∷ []) 0) ≡ true
  prefix : shown (inc (2 ∷ []) 1) true (inc (2 ∷ 3 ∷ []) 0) ≡ false
  -- a shorter list
  shorter : shown (inc (2 ∷ []) 1) true (inc [] 2) ≡ false

pub examples : Examples
unfolding shows_stable same_incarnation checkpointed_in begins_with same_list
examples = record { same-incarnation = refl; unstable = refl; before = refl; after = refl; longer = refl; much-longer = refl; prefix = refl; shorter = refl }
