-- For each take, whether the next step that touches it empties its map: one step more in front.
use Prim.Native.Nat.{ℕ, ◌+◌, ◌≤◌, ◌<◌}
use mathlib.Core.Bool.{Bool, true, false, not}
use mathlib.Core.Path.{◌≡◌, refl, sym, ap, ◌∙◌}
use mathlib.Core.List.{List}
use mathlib.Core.Logic.{⊎_elim}
use native.Mathlib.Decide.{ℕ_discrete}
use native.Mathlib.Omega.{arith}
use lib.ListN.{length, get_or, set, length-set}
use lib.Seq.{get_or-set_same, get_or-set_other}
use lib.Dec.{ltb, leb}
use borrow.Author.Tests.{ne_eqb, lt-ltb, le-ltb, lt-leb, le-leb, leb-true}
use Rattle.octets.specs.Bytes.{pick, ◌and◌, ◌or◌, tabulate}
use Rattle.octets.proofs.Zero.{both}
use Rattle.octets.proofs.Chunks.{sides, length-tabulate, get_d_tabulate}
use Rattle.rules.specs.Layout.{base}
use Rattle.rules.specs.declared.Step.{Step}
use Rattle.rules.specs.Step.{done, new, sign, fail}
use Rattle.rules.specs.Refusals.{named, acts}
use Rattle.thin.specs.Thin.{not_refused, touches, empties}
use Rattle.thin.proofs.Touches.{touch-none, touch-own, touch-other, touch-unsigned, touch-refused, touch-named}
use Rattle.thin.specs.Internal.Gather.{Says, with}

-- ---- a table that says the same, or is changed for one take

pub says-as : {f g : ℕ → Bool} {e : List Bool} → Says f e → ((t : ℕ) → t < base.transactors → f t ≡ g t) → Says g e
says-as s h = record { long = s.long; at = λ t l. s.at t l ∙ h t l }

pub says-set : {f g : ℕ → Bool} {e : List Bool} → Says f e → (t : ℕ) (v : Bool) → t < base.transactors → v ≡ g t → ((u : ℕ) → (u ≡ t → ⊥) → f u ≡ g u) → Says g (set e t v)
says-set {f} {g} {e} s t v l h k = record { long = length-set e t v ∙ s.long; at = λ u m. go u m (ℕ_discrete u t) }
  where
    go : (u : ℕ) → u < base.transactors → Dec (u ≡ t) → get_or (set e t v) u false ≡ g u
    go u m (yes i) = ap (λ (x : ℕ). get_or (set e t v) x false) i ∙ get_or-set_same e t v false (omega (arith, s.long)) ∙ h ∙ ap g (sym i)
    go u m (no n) = get_or-set_other e t u v false n ∙ s.at u m ∙ k u n

-- after the last step
pub says_none : Says (λ t. false) (tabulate base.transactors (λ t. false))
says_none = record { long = length-tabulate (λ t. false) base.transactors; at = λ t h. get_d_tabulate (λ t. false) base.transactors t false h }

-- ---- a signing's loop: the first n takes

unfoldable pub named_below : ℕ → List Bool → ℕ → ℕ → Bool
named_below g e n t = pick (ltb t n and named g t) true (get_or e t false)

module _ (g : ℕ) (e : List Bool) where
  pub named_none : length e ≡ base.transactors → Says (named_below g e 0) e
  unfolding named_below
  named_none l = record { long = l; at = λ t h. sym (rw (le-ltb t 0 (omega arith))) }

  -- the test of take n
  apart : (n u : ℕ) → (u ≡ n → ⊥) → named_below g e n u ≡ named_below g e (n + 1) u
  unfolding named_below
  apart n u k =
      let c : ltb u n ≡ ltb u (n + 1) = ⊎_elim (λ (q : u < n). lt-ltb u n q ∙ sym (lt-ltb u (n + 1) (omega arith))) (λ (q : n ≤ u). le-ltb u n q ∙ sym (le-ltb u (n + 1) (omega arith))) (sides u n) in
      ap (λ (c : Bool). pick (c and named g u) true (get_or e u false)) c

  pub named-on : {l : List Bool} (n : ℕ) → Says (named_below g e n) l → n < base.transactors → true ≡ named g n → Says (named_below g e (n + 1)) (set l n true)
  unfolding named_below
  named-on n s h k = says-set s n true h (rw (lt-ltb n (n + 1) (omega arith), sym k)) (apart n)

  out : (c x : Bool) → pick (c and false) true x ≡ x
  out true x = refl
  out false x = refl

  pub named-off : {l : List Bool} (n : ℕ) → Says (named_below g e n) l → n < base.transactors → false ≡ named g n → Says (named_below g e (n + 1)) l
  unfolding named_below
  named-off n s h k = says-as s (λ t l. go t (ℕ_discrete t n))
    where
      go : (t : ℕ) → Dec (t ≡ n) → named_below g e n t ≡ named_below g e (n + 1) t
      go t (yes i) = let q : named g t ≡ false = ap (named g) i ∙ sym k in rw q (out (ltb t n) (get_or e t false) ∙ sym (out (ltb t (n + 1)) (get_or e t false)))
      go t (no i) = apart n t i

  pub named-all : {l : List Bool} (n : ℕ) → Says (named_below g e n) l → n ≡ base.transactors → Says (λ t. named g t or get_or e t false) l
  unfolding named_below
  named-all n s h = says-as s (λ t l. rw (lt-ltb t n (omega arith)))

-- ---- a step in front

module _ (p : Step) (o : ℕ) (e : List Bool) (long : length e ≡ base.transactors) where
  untouched : ((u : ℕ) → touches p o u ≡ false) → Says (with p o e) e
  unfolding with
  untouched h = record { long = long; at = λ t l. sym (rw (h t)) }

  pub with-refused : 20 ≤ o → Says (with p o e) e
  unfolding not_refused
  with-refused h = untouched (touch-refused p o (ap not (le-leb 20 o h)))

  module _ (ok : o < 20) where
    pub with-action : acts p.kind ≡ true → p.transactor < base.transactors → (v : Bool) → v ≡ empties p o → Says (with p o e) (set e p.transactor v)
    unfolding not_refused with
    with-action h l v k =
        says-set {f = λ t. get_or e t false} {g = with p o e} {e = e} (record { long = long; at = λ t m. refl }) p.transactor v l (k ∙ sym (rw (touch-own p o (ap not (lt-leb 20 o ok)) h)))
        (λ u n. sym (rw (touch-other p o (ne_eqb p.kind sign (λ f. omega (arith, leb-true p.kind fail (both (leb new p.kind) (leb p.kind fail) h).1))) u n)))

  module _ (h : acts p.kind ≡ false) where
    pub with-other : (p.kind ≡ sign → ⊥) → Says (with p o e) e
    with-other n = untouched (touch-none p o h (ne_eqb p.kind sign n))

    pub with-unsigned : (o ≡ done → ⊥) → Says (with p o e) e
    with-unsigned n = untouched (touch-unsigned p o h (ne_eqb o done n))

    pub with-checkpointed : {l : List Bool} → p.kind ≡ sign → o ≡ done → Says (λ t. named p.message t or get_or e t false) l → Says (with p o e) l
    unfolding not_refused empties with
    with-checkpointed f k s = says-as s (λ t l. sym (rw (touch-named p o (rw k) (rw f) h (rw k) t, f)))
