-- Takes opened, by root and by new, keep the relation.
use Prim.Native.Nat.{ℕ, ◌+◌, ◌≤◌, ◌<◌}
use mathlib.Core.Path.{◌≡◌, refl, ap, sym, ◌∙◌, subst}
use mathlib.Core.List.Memᴰ
use mathlib.Core.List.{[], ◌++◌}
use mathlib.Core.Logic.{◌⊎◌, inl, inr, ⊎_elim}
use native.Mathlib.Omega.{arith}
use Rattle.marks.specs.Incarnation.{Incarnation, initial_incarnation}
use Rattle.marks.specs.History.{HistoryView, initial_view}
use Rattle.marks.specs.Order.{Precedes}
use Rattle.marks.proofs.Order.{precedes-initial, superseded-ne}
use Rattle.marks.proofs.Histories.{◌⊑◌, ⊑_refl, ⊑_trans}
use Rattle.octets.specs.Table.{updated}
use Rattle.maps.specs.Internal.View.{singleton_view}
use Rattle.octets.proofs.Tables.{updated-same, updated-view}
use Rattle.session.specs.Provenance.{unused, idle, Live, is-idle, one, Holder, Provenance, with_holder, with_opened}
use Rattle.session.specs.Steps.{anew, carried, opens_root, opens_child}
use Rattle.session.proofs.Model.{Node, Ledger, with_node, open_node, anew_node, sent_map, child_node, opener_node}
use Rattle.session.proofs.Tables.{updated-both}
use Rattle.session.proofs.Sets.{set-join, set_known, none-rel, only-rel, only_same, in_one, Coherent, Members}
use Rattle.session.proofs.Relation.{live-used, present_of, present, present-live, present-unused, Whole, in-state, in-creation, in-behaviour, HolderRel, Rel, holder-later, holder-kept, messages-kept, noted-kept, whole-known}
use Rattle.session.proofs.Locals.{present-is, grow, keep-rel, anew-rel}
use Rattle.session.proofs.Messages.{sent-rel, sent-coherent}

-- ---- one more take on both sides

-- a take that is not opened is in its opening life
pub opening-is : (l : Ledger) (b : Provenance) → Rel l b → present b.holders b.opened ≡ initial_view
opening-is l b r = rw (r.fresh b.opened (omega arith)) (present-unused (b.holders b.opened).history)

module _ (l : Ledger) (b : Provenance) (r : Rel l b) (x : Node) (h : Holder) (used : h.status ≡ unused → ⊥) (first : present_of h.status h.history ≡ initial_view) where
  open-grow : (u : ℕ) → present b.holders u ⊑ present (updated b.holders b.opened h) u
  open-grow = updated-view (λ u z. present b.holders u ⊑ present_of z.status z.history) b.holders b.opened h
      (rw (first, opening-is l b r) (⊑_refl _)) (λ u n. ⊑_refl _)

  open-lists : (u : ℕ) → (present (updated b.holders b.opened h) u).incarnation.checkpoints ≡ (present b.holders u).incarnation.checkpoints
  open-lists = updated-view (λ u z. (present_of z.status z.history).incarnation.checkpoints ≡ (present b.holders u).incarnation.checkpoints) b.holders b.opened h
      (rw (first, opening-is l b r)) (λ u n. refl)

  open-rel : ((later : ℕ → HistoryView) → ((u : ℕ) → present b.holders u ⊑ later u) → later b.opened ≡ initial_view → HolderRel later b.opened x h)
      → Rel (open_node l x) (with_opened b h)
  open-rel k =
      let later = present (updated b.holders b.opened h) in
      record {
        limits = r.limits;
        opened = ap (λ n. n + 1) r.opened;
        next = r.next;
        used = updated-view (λ u z. u < b.opened + 1 → z.status ≡ unused → ⊥) b.holders b.opened h (λ i. used) (λ u n i. r.used u (omega arith));
        fresh = updated-view (λ u z. b.opened + 1 ≤ u → z.status ≡ unused) b.holders b.opened h (λ i. absurd (omega arith)) (λ u n i. r.fresh u (omega arith));
        holders = rw r.opened (updated-both (λ u. HolderRel later u) l.nodes b.holders b.opened x h
            (k later open-grow (rw (updated-same b.holders b.opened h) first)) (λ u n. holder-kept l b r later open-grow u));
        messages = messages-kept l b r later open-grow;
        noted = noted-kept l b r later open-grow open-lists;
      }

-- ---- root

pub step-root : (l : Ledger) (b : Provenance) → Rel l b → Rel (open_node l (anew_node l.opened initial_view)) (opens_root b)
unfolding opens_root
step-root l b r = open-rel l b r (anew_node l.opened initial_view) (anew b.opened initial_view) (live-used is-idle) (present-live idle initial_view is-idle)
    (λ later g e. rw r.opened (anew-rel later b.opened initial_view (rw e (⊑_refl _)) (λ k. refl)))

-- ---- new

-- The opening life of a take that is in it joins a coherent set: all that the set can have of the take is that life.
coherent-open : (now : ℕ → HistoryView) (c : ℕ) → now c ≡ initial_view → (P Q : ℕ → Incarnation → Type 0) → Coherent P
    → ((u : ℕ) (a : Incarnation) → P u a → Precedes a (now u).incarnation)
    → ((u : ℕ) (a : Incarnation) → Q u a → P u a ⊎ ((u ≡ c) × (a ≡ initial_incarnation))) → Coherent Q
coherent-open now c e P Q coherent known part u a b p q s = go (part u a p) (part u b q)
  where
    first : u ≡ c → (z : Incarnation) → P u z → z ≡ initial_incarnation
    first i z k = precedes-initial (rw (ap (λ w. (now w).incarnation) i ∙ ap (λ m. m.incarnation) e) at (known u z k))

    go : P u a ⊎ ((u ≡ c) × (a ≡ initial_incarnation)) → P u b ⊎ ((u ≡ c) × (b ≡ initial_incarnation)) → ⊥
    go (inl i) (inl j) = coherent u a b i j s
    go (inl i) (inr j) = superseded-ne s (first j.0 a i ∙ sym j.1)
    go (inr i) (inl j) = superseded-ne s (i.1 ∙ sym (first i.0 b j))
    go (inr i) (inr j) = superseded-ne s (i.1 ∙ sym j.1)

-- the child c of take t, and t with the child's life
abbrev child : ℕ → ℕ → Holder → Holder
child c t h = record { status = idle; history = initial_view; state = one c initial_incarnation; creation = carried t h; behaviour = [] }

abbrev opener : ℕ → Holder → Holder
opener c h = record { status = h.status; history = h.history; state = h.state; creation = h.creation; behaviour = one c initial_incarnation ++ h.behaviour }

module _ {now : ℕ → HistoryView} {t : ℕ} {x : Node} {h : Holder} (r : HolderRel now t x h) (live : Live h.status) (is : now t ≡ h.history) (c : ℕ) (fresh : now c ≡ initial_view) where
  opener-rel : HolderRel now t (opener_node c x) (opener c h)
  opener-rel = record {
    status = r.status;
    state = r.state;
    creation = r.creation;
    behaviour = set-join now (singleton_view c initial_view) x.behaviour (one c initial_incarnation) h.behaviour (only-rel now c initial_view (rw fresh (⊑_refl _))) r.behaviour;
    coherent = coherent-open now c fresh (Whole h) (Whole (opener c h)) r.coherent (whole-known r) part;
    own = r.own;
    gone = λ k. absurd (k live);
    first = r.first;
  }
    where
      part : (u : ℕ) (a : Incarnation) → Whole (opener c h) u a → Whole h u a ⊎ ((u ≡ c) × (a ≡ initial_incarnation))
      part u a (in-state k) = inl (in-state k)
      part u a (in-creation k) = inl (in-creation k)
      part u a (in-behaviour k) = ⊎_elim (λ z. inr (in_one z)) (λ z. inl (in-behaviour z)) (Memᴰ.append_cases (one c initial_incarnation) k)

  child-rel : HolderRel now c (child_node c (sent_map t x)) (child c t h)
  child-rel = record {
    status = refl;
    state = only-rel now c initial_view (rw fresh (⊑_refl _));
    creation = sent-rel r live is;
    behaviour = none-rel now;
    coherent = coherent-open now c fresh (Members (carried t h)) (Whole (child c t h)) (sent-coherent r live is)
        (set_known now (sent_map t x) (carried t h) (sent-rel r live is)) part;
    own = λ k. only_same c initial_view;
    gone = λ k. absurd (k is-idle);
    first = λ k. refl;
  }
    where
      part : (u : ℕ) (a : Incarnation) → Whole (child c t h) u a → Members (carried t h) u a ⊎ ((u ≡ c) × (a ≡ initial_incarnation))
      part u a (in-state k) = inr (in_one k)
      part u a (in-creation k) = inl k
      part u a (in-behaviour k) = absurd (Memᴰ.not-nil k)

module _ (l : Ledger) (b : Provenance) (r : Rel l b) (t : ℕ) (live : Live (b.holders t).status) where
  pub step-new : Rel (open_node (with_node l t (opener_node l.opened (l.nodes t))) (child_node l.opened (sent_map t (l.nodes t)))) (opens_child b t)
  unfolding opens_child
  step-new =
      let x = l.nodes t in let h = b.holders t in let c = b.opened in
      let is = present-is l b r t live in
      let fresh = opening-is l b r in
      let y = opener_node c x in let w = opener c h in
      let r1 : Rel (with_node l t y) (with_holder b t w) = keep-rel l b r t live y w live refl (opener-rel (r.holders t) live is c fresh) in
      let g = grow l b r t live y w (live-used live) (rw (present-live h.status h.history live) (⊑_refl _)) in
      subst (λ n. Rel (open_node (with_node l t (opener_node n x)) (child_node n (sent_map t x))) (opens_child b t)) (sym r.opened)
      (open-rel (with_node l t y) (with_holder b t w) r1 (child_node c (sent_map t x)) (child c t h) (live-used is-idle) (present-live idle initial_view is-idle)
      (λ later k e. holder-later (λ u. ⊑_trans (g u) (k u)) (child-rel (r.holders t) live is c fresh)))
