-- Document 02, W12: the short list, run from the same state, leaves the same state, and each of its steps has its earlier reply.
use Prim.Native.Nat.{ℕ, ◌≤◌}
use mathlib.Core.Bool.{Bool, true, false, not}
use mathlib.Core.Path.{◌≡◌, refl, sym, ap, subst, ◌∙◌}
use mathlib.Core.List.{List, [], ◌∷◌}
use native.Mathlib.Decide.{ℕ_discrete}
use native.Mathlib.Omega.{arith}
use lib.Dec.{eqb}
use borrow.Author.Tests.{eqb-true, eq-eqb, lt-leb, le-leb}
use Rattle.octets.specs.Bytes.{pick, ◌and◌}
use Rattle.octets.proofs.Zero.{both}
use Rattle.rules.specs.Layout.{Layout}
use Rattle.rules.specs.Status.{busy}
use Rattle.rules.specs.State.{Transactor, State, transactor_at, with_behaviour, with_transactor}
use Rattle.rules.specs.declared.Step.{Step}
use Rattle.rules.specs.Step.{root, letter, receive, new, send, read, fail, lose, sign}
use Rattle.rules.specs.Refusals.{acts}
use Rattle.rules.specs.Rules.{Result, join, local_by, read_by, seen, refusal, apply_new, apply_send, apply_local, apply_sign, apply, step_of}
use Rattle.rules.proofs.ByKind.Refused.{otherwise}
use Rattle.rules.proofs.ByKind.Applied.{applies}
use Rattle.rules.proofs.ByKind.Outcomes.{local-small, Judged, refused, applied, judged}
use Rattle.rules.proofs.Keep.Step.{applied-same}
use Rattle.rules.proofs.Pack.Stores.{with_transactor-same}
use Rattle.rules.proofs.Keep.Kinds.{lowest, highest}
use Rattle.rules.proofs.Keep.Accepted.{Accepted, accepted, kind-known, receiver-idle, transactor-busy}
use Rattle.thin.specs.Thin.{not_refused, touches, empties}
use Rattle.thin.proofs.Steps.{final_state, replies_to, emptied_next, unused_next, kept_of, filtered}
use Rattle.thin.proofs.Alike.{Alike, differing, alike-off, Related, related-none, related-wide, related-at, related-set, refusal-same}
use Rattle.thin.proofs.Beside.{Beside, beside-root, beside-letter, beside-lose, beside-receive, beside-new, beside-send, beside-local, beside-sign, local_same}
use Rattle.thin.proofs.Touches.{touch-none, touch-own, touch-other, touch-checkpointed, touch-unsigned}

-- ---- a kind that is not refused

data Kind (k : ℕ) : Type 0 where
  is-root : k ≡ root → Kind k
  is-letter : k ≡ letter → Kind k
  is-receive : k ≡ receive → Kind k
  is-new : k ≡ new → Kind k
  is-send : k ≡ send → Kind k
  is-local : read ≤ k → k ≤ fail → Kind k
  is-lose : k ≡ lose → Kind k
  is-sign : k ≡ sign → Kind k

kind-of : (k : ℕ) → k ≤ sign → Kind k
kind-of k h = go (ℕ_discrete k root) (ℕ_discrete k letter) (ℕ_discrete k receive) (ℕ_discrete k new) (ℕ_discrete k send) (ℕ_discrete k lose) (ℕ_discrete k sign)
  where
    go : Dec (k ≡ root) → Dec (k ≡ letter) → Dec (k ≡ receive) → Dec (k ≡ new) → Dec (k ≡ send) → Dec (k ≡ lose) → Dec (k ≡ sign) → Kind k
    go (yes e) b c d f g i = is-root e
    go (no a) (yes e) c d f g i = is-letter e
    go (no a) (no b) (yes e) d f g i = is-receive e
    go (no a) (no b) (no c) (yes e) f g i = is-new e
    go (no a) (no b) (no c) (no d) (yes e) g i = is-send e
    go (no a) (no b) (no c) (no d) (no f) (yes e) i = is-lose e
    go (no a) (no b) (no c) (no d) (no f) (no g) (yes e) = is-sign e
    go (no a) (no b) (no c) (no d) (no f) (no g) (no i) = is-local (lowest k a b c d f) (highest k h g i)

acts-local : (k : ℕ) → read ≤ k → k ≤ fail → acts k ≡ true
acts-local k low high = let o = otherwise k low high in rw (o.from, o.upto)

-- ---- one step that is not refused, in both

-- d before p, d' after it
abbrev Follows : Step → ℕ → (ℕ → Bool) → (ℕ → Bool) → Type 0
Follows p o d d' = (u : ℕ) → d u ≡ pick (touches p o u) (empties p o) (d' u)

module _ (p : Step) (o : ℕ) (d d' : ℕ → Bool) (f : Follows p o d d') where
  untouched : (u : ℕ) → touches p o u ≡ false → d u ≡ d' u
  untouched u e = f u ∙ rw e

  touched : (u : ℕ) → touches p o u ≡ true → d u ≡ empties p o
  touched u e = f u ∙ rw e

module _ (y : Layout) (d d' : ℕ → Bool) {a b : State} (rel : Related d a b) (p : Step) (ok : Accepted y (seen y a) p) where
  abbrev B : Result → Result → Type 0
  B r r' = Beside d' r r'

  both-root : p.kind ≡ root → Follows p (apply y a p).reply.outcome d d' → B (apply y a p) (apply y b p)
  both-root e f =
      let g : (u : ℕ) → d u ≡ d' u = λ u. untouched p (apply y a p).reply.outcome d d' f u (touch-none p _ (rw e) (rw e) u) in
      rw ((applies y a p).root e, (applies y b p).root e) (beside-root y (related-wide rel d' g) p)

  both-letter : p.kind ≡ letter → Follows p (apply y a p).reply.outcome d d' → B (apply y a p) (apply y b p)
  both-letter e f =
      let g : (u : ℕ) → d u ≡ d' u = λ u. untouched p (apply y a p).reply.outcome d d' f u (touch-none p _ (rw e) (rw e) u) in
      rw ((applies y a p).letter e, (applies y b p).letter e) (beside-letter y (related-wide rel d' g) p)

  both-lose : p.kind ≡ lose → Follows p (apply y a p).reply.outcome d d' → B (apply y a p) (apply y b p)
  both-lose e f =
      let g : (u : ℕ) → d u ≡ d' u = λ u. untouched p (apply y a p).reply.outcome d d' f u (touch-none p _ (rw e) (rw e) u) in
      rw ((applies y a p).lose e, (applies y b p).lose e) (beside-lose y (related-wide rel d' g) p)

  both-receive : p.kind ≡ receive → Follows p (apply y a p).reply.outcome d d' → B (apply y a p) (apply y b p)
  unfolding seen
  both-receive e f =
      let g : (u : ℕ) → d u ≡ d' u = λ u. untouched p (apply y a p).reply.outcome d d' f u (touch-none p _ (rw e) (rw e) u) in
      rw ((applies y a p).receive e, (applies y b p).receive e) (beside-receive y (related-wide rel d' g) p (receiver-idle ok (eq-eqb p.kind receive e)))

  -- a step that acts and does not empty finds the take the same
  module _ (o : ℕ) (f : Follows p o d d') (c : acts p.kind ≡ true) (t : not_refused o ≡ true) (n : eqb p.kind sign ≡ false) where
    others : (u : ℕ) → (u ≡ p.transactor → ⊥) → d u ≡ d' u
    others u h = untouched p o d d' f u (touch-other p o n u h)

    own : d p.transactor ≡ empties p o
    own = touched p o d d' f p.transactor (touch-own p o t c)

    found : empties p o ≡ false → transactor_at a p.transactor ≡ transactor_at b p.transactor
    found e = alike-off (related-at rel p.transactor) (own ∙ e)

  both-new : p.kind ≡ new → Follows p (apply y a p).reply.outcome d d' → B (apply y a p) (apply y b p)
  unfolding apply_new not_refused empties
  both-new e f =
      let f' : Follows p (apply_new y a p).reply.outcome d d' = rw ((applies y a p).new e) at f in
      rw ((applies y a p).new e, (applies y b p).new e) (beside-new y d' rel p
      (others (apply_new y a p).reply.outcome f' (rw e) refl (rw e)) (found (apply_new y a p).reply.outcome f' (rw e) refl (rw e) (rw e)))

  both_send : p.kind ≡ send → Follows p (apply y a p).reply.outcome d d' → B (apply y a p) (apply y b p)
  unfolding apply_send not_refused empties
  both_send e f =
      let f' : Follows p (apply_send y a p).reply.outcome d d' = rw ((applies y a p).send e) at f in
      rw ((applies y a p).send e, (applies y b p).send e) (beside-send y d' rel p
      (others (apply_send y a p).reply.outcome f' (rw e) refl (rw e)) (found (apply_send y a p).reply.outcome f' (rw e) refl (rw e) (rw e)))

  both-local : read ≤ p.kind → p.kind ≤ fail → Follows p (apply y a p).reply.outcome d d' → B (apply y a p) (apply y b p)
  unfolding apply_local not_refused
  both-local low high f =
      let r : ℕ = (apply_local y a p).reply.outcome in
      let f' : Follows p r d d' = rw ((applies y a p).local low high) at f in
      let c : acts p.kind ≡ true = acts-local p.kind low high in
      let n : eqb p.kind sign ≡ false = (otherwise p.kind low high).sign in
      let h : not_refused r ≡ true = ap not (lt-leb 20 r (omega (arith, local-small y p.transactor (transactor_at a p.transactor) p.kind p.value))) in
      rw ((applies y a p).local low high, (applies y b p).local low high) (beside-local y d' rel p (others r f' c h n)
      (local_same y p (d p.transactor) r high (related-at rel p.transactor) refl (own r f' c h n)))

  both-sign : p.kind ≡ sign → Follows p (apply y a p).reply.outcome d d' → B (apply y a p) (apply y b p)
  unfolding apply_sign
  both-sign e f =
      let r : ℕ = (apply_sign y a p).reply.outcome in
      let f' : Follows p r d d' = rw ((applies y a p).sign e) at f in
      rw ((applies y a p).sign e, (applies y b p).sign e) (beside-sign y rel p d'
      (λ g t n. untouched p r d d' f' t (touch-checkpointed p r (rw e) (rw e) t n))
      (λ g t. untouched p r d d' f' t (touch-unsigned p r (rw e) (rw g) t)))

  both-kinds : Follows p (apply y a p).reply.outcome d d' → B (apply y a p) (apply y b p)
  both-kinds f = go (kind-of p.kind (kind-known ok))
    where
      go : Kind p.kind → B (apply y a p) (apply y b p)
      go (is-root e) = both-root e f
      go (is-letter e) = both-letter e f
      go (is-receive e) = both-receive e f
      go (is-new e) = both-new e f
      go (is-send e) = both_send e f
      go (is-local low high) = both-local low high f
      go (is-lose e) = both-lose e f
      go (is-sign e) = both-sign e f

-- Two states that are the same but for some behaviour maps of takes at work: a step that is not refused has the same reply in both, and
-- leaves them so. The maps may differ of a take that the step touches filtered if it empties the map.
pub kept-beside : (y : Layout) (d d' : ℕ → Bool) {a b : State} → Related d a b → (p : Step) → refusal y a p ≡ 0
    → ((u : ℕ) → d u ≡ pick (touches p (step_of y a p).reply.outcome u) (empties p (step_of y a p).reply.outcome) (d' u)) → Beside d' (step_of y a p) (step_of y b p)
unfolding refusal
kept-beside y d d' {a} {b} rel p e f =
    let g : refusal y b p ≡ 0 = sym (refusal-same y rel p) ∙ e in
    rw (applied-same y a p e, applied-same y b p g) (both-kinds y d d' rel p (accepted y (seen y a) p e) (rw (applied-same y a p e) at f))

-- ---- the whole list

-- a ran the list ps, and b its short form
pub record Thin (y : Layout) (a b : State) (ps : List Step) : Type 0 where
  pub state : final_state y b (filtered (kept_of y a ps) ps) ≡ final_state y a ps
  pub replies : replies_to y b (filtered (kept_of y a ps) ps) ≡ filtered (kept_of y a ps) (replies_to y a ps)

module _ (y : Layout) (a b : State) (p : Step) (ps : List Step) where
  abbrev r : Result
  r = step_of y a p

  thin-out : not_refused r.reply.outcome and not (unused_next y a p ps) ≡ false → Thin y r.state b ps → Thin y a b (p ∷ ps)
  unfolding final_state replies_to kept_of filtered
  thin-out e k = record { state = rw e k.state; replies = rw e k.replies }

  thin-in : not_refused r.reply.outcome and not (unused_next y a p ps) ≡ true → r.reply ≡ (step_of y b p).reply → Thin y r.state (step_of y b p).state ps → Thin y a b (p ∷ ps)
  unfolding final_state replies_to kept_of filtered
  thin-in e f k = record {
    state = rw e k.state;
    replies = rw e (λ i. sym f i ∷ k.replies i);
  }

  -- a read that is left out
  module _ (rel : Related (emptied_next y a (p ∷ ps)) a b) where
    follows : (u : ℕ) → emptied_next y a (p ∷ ps) u ≡ pick (touches p r.reply.outcome u) (empties p r.reply.outcome) (emptied_next y r.state ps u)
    unfolding emptied_next
    follows u = refl

    pass-refused : not_refused r.reply.outcome ≡ false → r.state ≡ a → Related (emptied_next y r.state ps) r.state b
    unfolding touches
    pass-refused e f = subst (λ (s : State). Related (emptied_next y r.state ps) s b) (sym f) (related-wide rel _ (λ t. follows t ∙ rw e))

    pass-read : refusal y a p ≡ 0 → not_refused r.reply.outcome ≡ true → p.kind ≡ read → emptied_next y r.state ps p.transactor ≡ true → Related (emptied_next y r.state ps) r.state b
    unfolding refusal apply_local local_by read_by seen empties
    pass-read e h k f =
        let t : ℕ = p.transactor in
        let d' : ℕ → Bool = emptied_next y r.state ps in
        let g : acts p.kind ≡ true = rw k in
        let x : Transactor = transactor_at a t in
        let is : r.state ≡ with_transactor a t (with_behaviour x (join y x.state x.behaviour)) = ap (λ (w : Result). w.state) (applied-same y a p e ∙ (applies y a p).local (omega arith) (omega arith)) ∙ rw k in
        let o : (u : ℕ) → (u ≡ t → ⊥) → emptied_next y a (p ∷ ps) u ≡ d' u = λ u n. follows u ∙ rw (touch-other p r.reply.outcome (rw k) u n) in
        let z : emptied_next y a (p ∷ ps) t ≡ false = follows t ∙ rw (touch-own p r.reply.outcome h g) (rw k) in
        let q : x ≡ transactor_at b t = alike-off (related-at rel t) z in
        let w : x.status ≡ busy = transactor-busy (accepted y (seen y a) p e) (rw k) in
        let l : Alike (d' t) (with_behaviour x (join y x.state x.behaviour)) x = subst (λ (c : Bool). Alike c (with_behaviour x (join y x.state x.behaviour)) x) (sym f) (differing w x.behaviour) in
        let v : Related d' (with_transactor a t (with_behaviour x (join y x.state x.behaviour))) (with_transactor b t (transactor_at b t)) =
        related-set rel d' t _ _ o (subst (λ (z : Transactor). Alike (d' t) (with_behaviour x (join y x.state x.behaviour)) z) q l) in
        subst (λ (s : State). Related d' s b) (sym is) (subst (λ (s : State). Related d' (with_transactor a t (with_behaviour x (join y x.state x.behaviour))) s) (with_transactor-same b t) v)

left_is : (y : Layout) (a : State) (p : Step) (ps : List Step) → eqb p.kind read and emptied_next y (step_of y a p).state ps p.transactor ≡ unused_next y a p ps
unfolding unused_next
left_is y a p ps = refl

-- the first step, and what is said of the rest
thin-step : (y : Layout) (p : Step) (ps : List Step) (a b : State) → Related (emptied_next y a (p ∷ ps)) a b
    → ((a b : State) → Related (emptied_next y a ps) a b → Thin y a b ps) → Thin y a b (p ∷ ps)
unfolding not_refused
thin-step y p ps a b rel rest = go (judged y a p)
  where
    left : refusal y a p ≡ 0 → not_refused (step_of y a p).reply.outcome ≡ true → (c : Bool) → unused_next y a p ps ≡ c → Thin y a b (p ∷ ps)
    left e h true f =
        let g = both (eqb p.kind read) (emptied_next y (step_of y a p).state ps p.transactor) (left_is y a p ps ∙ f) in
        thin-out y a b p ps (rw (h, f)) (rest (step_of y a p).state b (pass-read y a b p ps rel e h (eqb-true p.kind read g.0) g.1))
    left e h false f =
        let k = kept-beside y (emptied_next y a (p ∷ ps)) (emptied_next y (step_of y a p).state ps) rel p e (follows y a b p ps rel) in
        thin-in y a b p ps (rw (h, f)) k.reply (rest (step_of y a p).state (step_of y b p).state k.state)

    go : Judged y a p → Thin y a b (p ∷ ps)
    go (refused n f) =
        let h : not_refused (step_of y a p).reply.outcome ≡ false = ap not (le-leb 20 (step_of y a p).reply.outcome n) in
        thin-out y a b p ps (rw h) (rest (step_of y a p).state b (pass-refused y a b p ps rel h f))
    go (applied e n) = left e (ap not (lt-leb 20 (step_of y a p).reply.outcome (omega arith))) (unused_next y a p ps) refl

pub thin : (y : Layout) (ps : List Step) (a b : State) → Related (emptied_next y a ps) a b → Thin y a b ps
unfolding final_state replies_to kept_of filtered emptied_next
thin y [] a b rel = record { state = sym (related-none rel (λ t. refl)); replies = refl }
thin y (p ∷ ps) a b rel = thin-step y p ps a b rel (thin y ps)
