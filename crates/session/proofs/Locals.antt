-- Steps on one take alone, kinds 5 to 10 and a fall, keep the relation.
use Prim.Native.Nat.{ℕ, ◌≤◌, ◌<◌}
use mathlib.Core.Bool.{true, false, true≢false, false≢true}
use mathlib.Core.Path.{◌≡◌, refl, ap, sym, ◌∙◌}
use mathlib.Core.List.Memᴰ
use mathlib.Core.List.{List, [], ◌∷◌, ◌++◌}
use mathlib.Core.Logic.{⊎_elim}
use mathlib.Core.Option.{some}
use native.Mathlib.Omega.{arith}
use lib.Dec.{eqb}
use Rattle.octets.specs.Bytes.{pick}
use Rattle.octets.proofs.Chunks.{sides}
use Rattle.marks.specs.Incarnation.{Incarnation}
use Rattle.marks.specs.History.{HistoryView, initial_view, stabilized_view, rolled_back_view}
use Rattle.marks.proofs.Order.{superseded-ne}
use Rattle.marks.proofs.Histories.{◌⊑◌, ⊑_refl, ⊑-stabilized, ⊑-rolled_back, ⊑-annihilated}
use Rattle.octets.specs.Table.{updated}
use Rattle.octets.proofs.Tables.{updated-same, updated-view}
use Rattle.rules.specs.Step.{read, write, freeze, finish, fall}
use Rattle.session.specs.Provenance.{unused, idle, annihilated, Live, is-idle, In, Holder, Provenance, blank, with_holder}
use Rattle.session.specs.Steps.{anew, is_nil, rolled_back_holder, reads, writes, freezes, finishes, rolls_back_or_finishes, rolls_back_or_stays, acted}
use Rattle.session.proofs.Model.{Node, Ledger, own, with_node, bare_node, anew_node, read_node, write_node, freeze_node, finish_node, rollback_node}
use Rattle.session.proofs.Tables.{pick-both, updated-both}
use Rattle.session.proofs.Sets.{set-join, set-later, none-rel, only-rel, only_same, in_one, Cell, newest, cell-has, cell-later, own-kept, coherent-part}
use Rattle.session.proofs.Relation.{live-used, gone-used, gone_view, present_of, present, present-live, present-gone, Whole, in-state, in-creation, in-behaviour, HolderRel, Rel, own-history, holder-later, holder-kept, messages-kept, noted-kept, blank-rel}

-- ---- one take changed on both sides

pub live-opened : (l : Ledger) (b : Provenance) → Rel l b → (t : ℕ) → Live (b.holders t).status → t < b.opened
live-opened l b r t live = ⊎_elim (λ h. h) (λ h. absurd (live-used live (r.fresh t h))) (sides t b.opened)

module _ (l : Ledger) (b : Provenance) (r : Rel l b) (t : ℕ) (live : Live (b.holders t).status) where
  pub present-is : present b.holders t ≡ (b.holders t).history
  present-is = present-live (b.holders t).status (b.holders t).history live

  module _ (x : Node) (h : Holder) (used : h.status ≡ unused → ⊥) (grows : (b.holders t).history ⊑ present_of h.status h.history) where
    pub grow : (u : ℕ) → present b.holders u ⊑ present (updated b.holders t h) u
    grow = updated-view (λ u z. present b.holders u ⊑ present_of z.status z.history) b.holders t h (rw present-is grows) (λ u n. ⊑_refl _)

    -- no such step signs
    pub put-rel : (present_of h.status h.history).incarnation.checkpoints ≡ (b.holders t).history.incarnation.checkpoints
        → HolderRel (present (updated b.holders t h)) t x h → Rel (with_node l t x) (with_holder b t h)
    put-rel list k =
        let later = present (updated b.holders t h) in
        record {
          limits = r.limits;
          opened = r.opened;
          next = r.next;
          used = updated-view (λ u z. u < b.opened → z.status ≡ unused → ⊥) b.holders t h (λ i. used) (λ u n. r.used u);
          fresh = updated-view (λ u z. b.opened ≤ u → z.status ≡ unused) b.holders t h
              (λ i. let o = live-opened l b r t live in absurd (omega arith)) (λ u n. r.fresh u);
          holders = updated-both (λ u. HolderRel later u) l.nodes b.holders t x h k (λ u n. holder-kept l b r later grow u);
          messages = messages-kept l b r later grow;
          noted = noted-kept l b r later grow (updated-view
              (λ u z. (present_of z.status z.history).incarnation.checkpoints ≡ (present b.holders u).incarnation.checkpoints) b.holders t h
              (rw present-is list) (λ u n. refl));
        }

  -- a step that changes the mark
  change-rel : (x : Node) (h : Holder) (m : HistoryView) → (h.status ≡ unused → ⊥) → present_of h.status h.history ≡ m → (b.holders t).history ⊑ m
      → m.incarnation.checkpoints ≡ (b.holders t).history.incarnation.checkpoints
      → ((later : ℕ → HistoryView) → ((u : ℕ) → present b.holders u ⊑ later u) → later t ≡ m → HolderRel later t x h)
      → Rel (with_node l t x) (with_holder b t h)
  change-rel x h m used e g list k =
      let g' : (b.holders t).history ⊑ present_of h.status h.history = rw e g in
      put-rel x h used g' (rw e list) (k _ (grow x h used g') (rw (updated-same b.holders t h) e))

  -- a step that keeps the mark
  pub keep-rel : (x : Node) (h : Holder) → Live h.status → h.history ≡ (b.holders t).history → HolderRel (present b.holders) t x h → Rel (with_node l t x) (with_holder b t h)
  keep-rel x h k e i =
      change-rel x h h.history (live-used k) (present-live h.status h.history k) (rw e (⊑_refl _)) (ap (λ (n : HistoryView). n.incarnation.checkpoints) e) (λ later g p. holder-later g i)

  -- no step
  pub held-rel : Rel (with_node l t (l.nodes t)) (with_holder b t (b.holders t))
  held-rel = keep-rel (l.nodes t) (b.holders t) live refl (r.holders t)

-- ---- the take, step by step

-- what a write that is not held does
abbrev written : Holder → Holder
written h = record { status = h.status; history = h.history; state = h.behaviour ++ h.state; creation = h.creation; behaviour = h.behaviour }

module _ {now : ℕ → HistoryView} {t : ℕ} {x : Node} {h : Holder} (r : HolderRel now t x h) (live : Live h.status) where
  read-rel : HolderRel now t (read_node x) (reads h)
  unfolding reads
  read-rel = record {
    status = r.status;
    state = r.state;
    creation = r.creation;
    behaviour = set-join now x.state x.behaviour h.state h.behaviour r.state r.behaviour;
    coherent = coherent-part (Whole h) (Whole (reads h)) whole r.coherent;
    own = r.own;
    gone = λ k. absurd (k live);
    first = r.first;
  }
    where
      whole : (u : ℕ) (a : Incarnation) → Whole (reads h) u a → Whole h u a
      whole u a (in-state k) = in-state k
      whole u a (in-creation k) = in-creation k
      whole u a (in-behaviour k) = ⊎_elim in-state in-behaviour (Memᴰ.append_cases h.state k)

  -- the own entry stays the present mark, since the behaviour map's is known
  write-rel : now t ≡ h.history → HolderRel now t (write_node x) (written h)
  write-rel e = record {
    status = r.status;
    creation = r.creation;
    behaviour = r.behaviour;
    state = set-join now x.behaviour x.state h.behaviour h.state r.behaviour r.state;
    coherent = coherent-part (Whole h) (Whole (written h)) whole r.coherent;
    own = λ k. own-kept (rw e at (r.behaviour t)) (r.own k);
    gone = λ k. absurd (k live);
    first = r.first;
  }
    where
      whole : (u : ℕ) (a : Incarnation) → Whole (written h) u a → Whole h u a
      whole u a (in-state k) = ⊎_elim in-behaviour in-state (Memᴰ.append_cases h.behaviour k)
      whole u a (in-creation k) = in-creation k
      whole u a (in-behaviour k) = in-behaviour k

  finish-rel : HolderRel now t (finish_node x) (finishes h)
  unfolding finishes
  finish-rel = record {
    status = refl;
    state = r.state;
    creation = r.creation;
    behaviour = none-rel now;
    coherent = coherent-part (Whole h) (Whole (finishes h)) whole r.coherent;
    own = λ k. r.own live;
    gone = λ k. absurd (k is-idle);
    first = r.first;
  }
    where
      whole : (u : ℕ) (a : Incarnation) → Whole (finishes h) u a → Whole h u a
      whole u a (in-state k) = in-state k
      whole u a (in-creation k) = in-creation k
      whole u a (in-behaviour k) = absurd (Memᴰ.not-nil k)

  freeze-rel : (later : ℕ → HistoryView) → ((u : ℕ) → now u ⊑ later u) → later t ≡ stabilized_view h.history → HolderRel later t (freeze_node t x) (freezes h)
  unfolding freezes
  freeze-rel later g e = record {
    status = r.status;
    state = updated-view (λ u o. Cell (λ a. In u a h.state) (later u) o) x.state t (some (stabilized_view (own t x)))
        (let n = cell-has (r.own live) (r.state t) in rw (own-history r) (newest {m = stabilized_view h.history} (record { has = n.has; top = n.top; known = rw e (⊑_refl _) })))
        (λ u n. cell-later (g u) (r.state u));
    creation = set-later now later x.creation h.creation g r.creation;
    behaviour = set-later now later x.behaviour h.behaviour g r.behaviour;
    coherent = coherent-part (Whole h) (Whole (freezes h)) whole r.coherent;
    own = λ k. rw (updated-same x.state t (some (stabilized_view (own t x))), own-history r);
    gone = λ k. absurd (k live);
    first = r.first;
  }
    where
      whole : (u : ℕ) (a : Incarnation) → Whole (freezes h) u a → Whole h u a
      whole u a (in-state k) = in-state k
      whole u a (in-creation k) = in-creation k
      whole u a (in-behaviour k) = in-behaviour k

-- its own life alone
pub anew-rel : (now : ℕ → HistoryView) (t : ℕ) (m : HistoryView) → m ⊑ now t → (m.incarnation.checkpoints ≡ [] → m.incarnation.number ≡ 0) → HolderRel now t (anew_node t m) (anew t m)
anew-rel now t m g f = record {
  status = refl;
  state = only-rel now t m g;
  creation = none-rel now;
  behaviour = none-rel now;
  coherent = λ u a c p q s. superseded-ne s (alone u a p ∙ sym (alone u c q));
  own = λ k. only_same t m;
  gone = λ k. absurd (k is-idle);
  first = f;
}
  where
    alone : (u : ℕ) (a : Incarnation) → Whole (anew t m) u a → a ≡ m.incarnation
    alone u a (in-state k) = (in_one k).1
    alone u a (in-creation k) = absurd (Memᴰ.not-nil k)
    alone u a (in-behaviour k) = absurd (Memᴰ.not-nil k)

pub is_nil-true : (s : List ℕ) → is_nil s ≡ true → s ≡ []
is_nil-true [] e = refl
is_nil-true (x ∷ s) e = absurd (false≢true e)

is_nil-false : (s : List ℕ) → is_nil s ≡ false → s ≡ [] → ⊥
is_nil-false [] e p = true≢false e
is_nil-false (x ∷ s) e p = let z : ◌≡◌ {A = ℕ} 0 1 = cc in omega arith

-- ---- the steps

-- what each kind leaves of a node, by the flag of its own mark
abbrev pub written_node : ℕ → Node → Node
written_node t x = pick (own t x).stable x (write_node x)

abbrev pub fall_node : ℕ → Node → Node
fall_node t x = pick (own t x).stable (finish_node x) (rollback_node t x)

abbrev pub fail_node : ℕ → Node → Node
fail_node t x = pick (own t x).stable x (rollback_node t x)

-- kind k of 5 to 10 on take t
unfoldable pub acted_node : ℕ → ℕ → Node → Node
acted_node k t x =
    pick (eqb k read) (read_node x)
    (pick (eqb k write) (written_node t x)
    (pick (eqb k freeze) (freeze_node t x)
    (pick (eqb k finish) (finish_node x)
    (pick (eqb k fall) (fall_node t x)
    (fail_node t x)))))

module _ (l : Ledger) (b : Provenance) (r : Rel l b) (t : ℕ) (live : Live (b.holders t).status) where
  abbrev x : Node
  x = l.nodes t

  abbrev h : Holder
  h = b.holders t

  abbrev After : Node → Holder → Type 0
  After z w = Rel (with_node l t z) (with_holder b t w)

  same : own t x ≡ h.history
  same = own-history (r.holders t)

  flag : (own t x).stable ≡ h.history.stable
  flag = ap (λ m. m.stable) same

  pub step-read : Rel (with_node l t (read_node (l.nodes t))) (with_holder b t (reads (b.holders t)))
  unfolding reads
  step-read = keep-rel l b r t live (read_node x) (reads h) live refl (read-rel (r.holders t) live)

  -- a write that is held changes nothing on either side
  pub step-write : Rel (with_node l t (written_node t (l.nodes t))) (with_holder b t (writes (b.holders t)))
  unfolding writes
  step-write = pick-both After (own t x).stable h.history.stable flag x (write_node x) h (written h)
      (λ e. held-rel l b r t live)
      (λ e. keep-rel l b r t live (write_node x) (written h) live refl (write-rel (r.holders t) live (present-is l b r t live)))

  -- a frozen take is frozen again: the same mark on both sides
  pub step-freeze : Rel (with_node l t (freeze_node t (l.nodes t))) (with_holder b t (freezes (b.holders t)))
  unfolding freezes
  step-freeze = change-rel l b r t live (freeze_node t x) (freezes h) (stabilized_view h.history) (live-used live) (present-live h.status (stabilized_view h.history) live)
      (⊑-stabilized h.history) refl (λ later g e. freeze-rel (r.holders t) live later g e)

  pub step-finish : Rel (with_node l t (finish_node (l.nodes t))) (with_holder b t (finishes (b.holders t)))
  unfolding finishes
  step-finish = keep-rel l b r t live (finish_node x) (finishes h) is-idle refl (finish-rel (r.holders t) live)

  -- by G the present life was the opening one, so what is known of the take stays known
  step-vanish : h.history.incarnation.checkpoints ≡ [] → Rel (with_node l t (bare_node annihilated)) (with_holder b t (blank annihilated))
  step-vanish p = change-rel l b r t live (bare_node annihilated) (blank annihilated) gone_view gone-used (present-gone initial_view)
      (⊑-annihilated h.history (λ i. record { checkpoints = p i; number = (r.holders t).first p i })) (sym p) (λ later g k. blank-rel later t annihilated (λ i. elim i [ ]))

  step-next : (h.history.incarnation.checkpoints ≡ [] → ⊥) → Rel (with_node l t (anew_node t (rolled_back_view (own t x)))) (with_holder b t (anew t (rolled_back_view h.history)))
  step-next p = change-rel l b r t live (anew_node t (rolled_back_view (own t x))) (anew t (rolled_back_view h.history)) (rolled_back_view h.history) (live-used is-idle) (present-live idle (rolled_back_view h.history) is-idle)
      (⊑-rolled_back h.history) refl (λ later g k. rw same (anew-rel later t (rolled_back_view h.history) (rw k (⊑_refl _)) (λ q. absurd (p q))))

  pub step-rollback : Rel (with_node l t (rollback_node t (l.nodes t))) (with_holder b t (rolled_back_holder t (b.holders t)))
  unfolding rolled_back_holder rollback_node
  step-rollback = pick-both After (is_nil (own t x).incarnation.checkpoints) (is_nil h.history.incarnation.checkpoints)
      (ap (λ m. is_nil m.incarnation.checkpoints) same) (bare_node annihilated) (anew_node t (rolled_back_view (own t x))) (blank annihilated) (anew t (rolled_back_view h.history))
      (λ e. step-vanish (is_nil-true h.history.incarnation.checkpoints (rw same at e)))
      (λ e. step-next (is_nil-false h.history.incarnation.checkpoints (rw same at e)))

  pub step-fall : Rel (with_node l t (fall_node t (l.nodes t))) (with_holder b t (rolls_back_or_finishes t (b.holders t)))
  unfolding rolls_back_or_finishes
  step-fall = pick-both After (own t x).stable h.history.stable flag (finish_node x) (rollback_node t x) (finishes h) (rolled_back_holder t h) (λ e. step-finish) (λ e. step-rollback)

  pub step-fail : Rel (with_node l t (fail_node t (l.nodes t))) (with_holder b t (rolls_back_or_stays t (b.holders t)))
  unfolding rolls_back_or_stays
  step-fail = pick-both After (own t x).stable h.history.stable flag x (rollback_node t x) h (rolled_back_holder t h) (λ e. held-rel l b r t live) (λ e. step-rollback)

  pub step-acted : (k : ℕ) → Rel (with_node l t (acted_node k t (l.nodes t))) (with_holder b t (acted k t (b.holders t)))
  unfolding acted acted_node
  step-acted k =
      pick-both After (eqb k read) (eqb k read) refl (read_node x) _ (reads h) _ (λ e. step-read) λ e.
      pick-both After (eqb k write) (eqb k write) refl (written_node t x) _ (writes h) _ (λ e. step-write) λ e.
      pick-both After (eqb k freeze) (eqb k freeze) refl (freeze_node t x) _ (freezes h) _ (λ e. step-freeze) λ e.
      pick-both After (eqb k finish) (eqb k finish) refl (finish_node x) _ (finishes h) _ (λ e. step-finish) λ e.
      pick-both After (eqb k fall) (eqb k fall) refl (fall_node t x) (fail_node t x) (rolls_back_or_finishes t h) (rolls_back_or_stays t h) (λ e. step-fall) (λ e. step-fail)
