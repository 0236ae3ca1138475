-- Document 02, W14, the fact to show first, of the ledger beside its book: of a take whose marks but its own are of signed lives, or of
-- present lives of named takes, no mark is stale by one of a parcel. Such a take and the volume meet the signing rule together.
use Prim.Native.Nat.{ℕ, ◌+◌, ◌^◌, ◌<◌}
use mathlib.Core.Bool.{Bool, true, false, false≢true}
use mathlib.Core.Path.{◌≡◌, refl, ap, sym, ◌∙◌, subst}
use mathlib.Core.List.Memᴰ
use mathlib.Core.List.{◌++◌}
use mathlib.Core.Logic.{◌⊎◌, inl, inr, ⊎_elim}
use mathlib.Core.Option.{Option, none, some}
use native.Mathlib.Decide.{ℕ_discrete}
use lib.Dec.{eqb}
use borrow.Author.Tests.{eq-eqb, eqb-true}
use Rattle.octets.specs.Numbers.{bound}
use Rattle.marks.specs.Incarnation.{Incarnation}
use Rattle.marks.specs.History.{HistoryView}
use Rattle.marks.specs.Order.{Under}
use Rattle.marks.proofs.Order.{checkpointed-under, under-eq, under_split, precedes-split, superseded-up, superseded-not-under, precedes-antisym}
use Rattle.marks.proofs.Histories.{newer_view-which}
use Rattle.maps.specs.Internal.View.{MapView, join_entry, SupersededView, superseded-entry}
use Rattle.rules.specs.Refusals.{group_bits, named}
use Rattle.rules.proofs.Bits.{named-add, add-fits}
use Rattle.session.specs.Provenance.{Live, Incarnations, In, Provenance, find}
use Rattle.session.specs.Steps.{is_rolled_back}
use Rattle.session.proofs.Model.{Ledger, own, find_message, known_map}
use Rattle.session.proofs.Tables.{or-to, or-of}
use Rattle.session.proofs.Sets.{SetRel, set-join, cell-has}
use Rattle.session.proofs.Relation.{present, present-live, Whole, Rel, own-history}
use Rattle.session.proofs.Relation as relation
use Rattle.session.proofs.Messages.{find-rel, rolled_back-same}
use Rattle.session.proofs.Sign.{EntryReady, Ready, own-has}

join-which : (x y : Option HistoryView) (a : HistoryView) → join_entry x y ≡ some a → (x ≡ some a) ⊎ (y ≡ some a)
unfolding join_entry
join-which none y a e = inr e
join-which (some m) none a e = inl e
join-which (some m) (some n) a e = go (newer_view-which m n) e
  where
    go : {k : HistoryView} → (k ≡ m) ⊎ (k ≡ n) → some k ≡ some a → (some m ≡ some a) ⊎ (some n ≡ some a)
    go (inl w) f = inl (ap some (sym w) ∙ f)
    go (inr w) f = inr (ap some (sym w) ∙ f)

module _ (l : Ledger) (b : Provenance) (r : Rel l b) (v : ℕ → Bool) where
  -- a mark of a signed life, or of a present one, is under the present life
  ready-under : (u : ℕ) (m : HistoryView) → EntryReady l v u m → Under m.incarnation (present b.holders u).incarnation
  ready-under u m e =
      let live : Live (b.holders u).status = rw (r.holders u).status at e.live in
      let is : own u (l.nodes u) ≡ present b.holders u = own-history (r.holders u) ∙ sym (present-live (b.holders u).status (b.holders u).history live) in
      ⊎_elim (λ c. checkpointed-under (rw is at c)) (λ c. under-eq (c.1 ∙ ap (λ (z : HistoryView). z.incarnation) is)) e.is

  module _ (t : ℕ) (live : Live (b.holders t).status)
      (state : (u : ℕ) (m : HistoryView) → (u ≡ t → ⊥) → (l.nodes t).state u ≡ some m → EntryReady l v u m)
      (creation : (u : ℕ) (m : HistoryView) → (u ≡ t → ⊥) → (l.nodes t).creation u ≡ some m → EntryReady l v u m) where
    ground-rel : SetRel (present b.holders) (known_map (l.nodes t)) ((b.holders t).state ++ (b.holders t).creation)
    ground-rel = set-join (present b.holders) (l.nodes t).state (l.nodes t).creation (b.holders t).state (b.holders t).creation (r.holders t).state (r.holders t).creation

    own-under : (a : HistoryView) → known_map (l.nodes t) t ≡ some a → Under a.incarnation (present b.holders t).incarnation
    own-under a e =
        let c = cell-has e (ground-rel t) in
        let is = present-live (b.holders t).status (b.holders t).history live in
        let i = (cell-has ((r.holders t).own live) ((r.holders t).state t)).has in
        under-eq (precedes-antisym c.known.incarnation (rw is (c.top (b.holders t).history.incarnation (Memᴰ.append_left (b.holders t).creation i))))

    known_under : (u : ℕ) (a : HistoryView) → known_map (l.nodes t) u ≡ some a → Under a.incarnation (present b.holders u).incarnation
    known_under u a e = go (ℕ_discrete u t)
      where
        go : Dec (u ≡ t) → Under a.incarnation (present b.holders u).incarnation
        go (no n) = ⊎_elim (λ f. ready-under u a (state u a n f)) (λ f. ready-under u a (creation u a n f)) (join-which ((l.nodes t).state u) ((l.nodes t).creation u) a e)
        go (yes q) = rw q (own-under a (rw q at e))

    -- no parcel makes it fall
    pub stands : (n : ℕ) → SupersededView (known_map (l.nodes t)) (find_message n l.messages).dependences → ⊥
    stands n (superseded-entry u a c e f s) =
        superseded-not-under (superseded-up s (cell-has f ((find-rel n r.messages).incarnations u)).known.incarnation) (known_under u a e)

    pub stands-book : (n : ℕ) → is_rolled_back (b.holders t) (find n b.messages) ≡ false
    stands-book n = sym (rolled_back-same (r.holders t) (find-rel n r.messages) false ((λ k. absurd (false≢true k)), (λ k. absurd (stands n k))))

-- ---- the take beside the volume: both together meet the signing rule

-- volume g is v and take t
pub record With (v t g : ℕ) : Type 0 where
  pub to : (u : ℕ) → named g u ≡ true → (named v u ≡ true) ⊎ (u ≡ t)
  pub of : (u : ℕ) → named v u ≡ true → named g u ≡ true
  pub own : named g t ≡ true
  pub bits : g < bound 2

pub with-exists : (v t : ℕ) → v < bound 2 → t < group_bits → (g : ℕ) × With v t g
unfolding bound
with-exists v t bits low = go (named v t) refl
  where
    go : (c : Bool) → named v t ≡ c → (g : ℕ) × With v t g
    go true e = (v, record { to = λ u n. inl n; of = λ u n. n; own = e; bits = bits })
    go false e = (
      v + 2 ^ t,
      record {
        to = λ u n. ⊎_elim inl (λ q. inr (sym (eqb-true t u q))) (or-to (named v u) (eqb t u) (sym (named-add v t u e) ∙ n));
        of = λ u n. named-add v t u e ∙ or-of (named v u) (eqb t u) (inl n);
        own = named-add v t t e ∙ or-of (named v t) (eqb t t) (inr (eq-eqb t t refl));
        bits = add-fits v t group_bits bits low e;
      },
    )

module _ (l : Ledger) (b : Provenance) (r : Rel l b) (v t g : ℕ) (w : With v t g) (rule : Ready l (named v)) (live : Live (b.holders t).status) (stable : (own t (l.nodes t)).stable ≡ true)
    (state : (u : ℕ) (x : HistoryView) → (u ≡ t → ⊥) → (l.nodes t).state u ≡ some x → EntryReady l (named v) u x)
    (creation : (u : ℕ) (x : HistoryView) → (u ≡ t → ⊥) → (l.nodes t).creation u ≡ some x → EntryReady l (named v) u x) where
  wider : (u : ℕ) (x : HistoryView) → EntryReady l (named v) u x → EntryReady l (named g) u x
  wider u x e = record { live = e.live; is = ⊎_elim inl (λ p. inr (w.of u p.0, p.1)) e.is }

  -- its own marks are of lives under its present one
  own-passes : (x : HistoryView) → Under x.incarnation (b.holders t).history.incarnation → EntryReady l (named g) t x
  own-passes x under = record {
    live = rw (r.holders t).status live;
    is = ⊎_elim (λ e. inr (w.own, e ∙ sym is)) (λ c. inl (rw is c)) (under_split under);
  }
    where
      is : (own t (l.nodes t)).incarnation ≡ (b.holders t).history.incarnation
      is = ap (λ (h : HistoryView). h.incarnation) (own-history (r.holders t))

  own-under-in : (M : MapView) (X : Incarnations) → SetRel (present b.holders) M X → ((a : Incarnation) → In t a X → Whole (b.holders t) t a) → (x : HistoryView) → M t ≡ some x → Under x.incarnation (b.holders t).history.incarnation
  own-under-in M X rel whole x e =
      let c = cell-has e (rel t) in
      let p = rw (present-live (b.holders t).status (b.holders t).history live) at c.known.incarnation in
      ⊎_elim (λ z. z) (λ z. absurd ((r.holders t).coherent t x.incarnation (b.holders t).history.incarnation (whole x.incarnation c.has) (relation.in-state (own-has l b r t live)) z)) (precedes-split p)

  pub rule-with : Ready l (named g)
  rule-with = record {
    stable = λ u n. ⊎_elim (rule.stable u) (λ e. subst (λ (i : ℕ). (own i (l.nodes i)).stable ≡ true) (sym e) stable) (w.to u n);
    state = λ u n i x e. ⊎_elim (λ k. wider i x (rule.state u k i x e)) (λ k. in-state-of i x (subst (λ (j : ℕ). (l.nodes j).state i ≡ some x) k e)) (w.to u n);
    creation = λ u n i x e. ⊎_elim (λ k. wider i x (rule.creation u k i x e)) (λ k. in-creation-of i x (subst (λ (j : ℕ). (l.nodes j).creation i ≡ some x) k e)) (w.to u n);
  }
    where
      in-state-of : (i : ℕ) (x : HistoryView) → (l.nodes t).state i ≡ some x → EntryReady l (named g) i x
      in-state-of i x e = go (ℕ_discrete i t)
        where
          go : Dec (i ≡ t) → EntryReady l (named g) i x
          go (no n) = wider i x (state i x n e)
          go (yes q) = rw q (own-passes x (own-under-in (l.nodes t).state (b.holders t).state (r.holders t).state (λ a. relation.in-state) x (rw q at e)))

      in-creation-of : (i : ℕ) (x : HistoryView) → (l.nodes t).creation i ≡ some x → EntryReady l (named g) i x
      in-creation-of i x e = go (ℕ_discrete i t)
        where
          go : Dec (i ≡ t) → EntryReady l (named g) i x
          go (no n) = wider i x (creation i x n e)
          go (yes q) = rw q (own-passes x (own-under-in (l.nodes t).creation (b.holders t).creation (r.holders t).creation (λ a. relation.in-creation) x (rw q at e)))
