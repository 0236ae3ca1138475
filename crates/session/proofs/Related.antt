-- Every mark of a take in any map is a past or present one (relation B), and so is every life in the book's sets; two that precede
-- the present one are related.
use Prim.Native.Nat.{ℕ, zero, suc, ◌<◌}
use mathlib.Core.Bool.{Bool, true, false, false≢true}
use mathlib.Core.Path.{◌≡◌, refl}
use mathlib.Core.List.Memᴰ
use mathlib.Core.List.{List, [], ◌∷◌, ◌++◌, Memᴰ, map}
use mathlib.Core.Logic.{⊎_elim}
use lib.Dec.{eqb}
use lib.ListN.{get_or}
use borrow.Author.Tests.{eqb-true}
use Rattle.octets.specs.Bytes.{◌and◌}
use Rattle.marks.specs.Incarnation.{Incarnation}
use Rattle.marks.specs.History.{HistoryView, incarnation_of}
use Rattle.marks.specs.Relation.{relation_of, is_unrelated}
use Rattle.marks.specs.Order.{Precedes}
use Rattle.marks.proofs.Related.{related-before}
use Rattle.maps.specs.declared.DependenceMap.{DependenceMap}
use Rattle.maps.specs.Map.{held_at, history_at}
use Rattle.maps.specs.Internal.View.{map_view}
use Rattle.maps.proofs.View.{view-held}
use Rattle.maps.proofs.Unrelated.{related-at, related-join, unrelated-none}
use Rattle.rules.specs.Layout.{Layout}
use Rattle.rules.specs.State.{Transactor, Message, State, no_message, transactor_at, message_at, place_of}
use Rattle.rules.specs.Rules.{message_unrelated, receipt_unrelated}
use Rattle.session.specs.Provenance.{Entry, Incarnations, In, Holder, WaitingMessage, Provenance, find, any_entry}
use Rattle.session.specs.Unrelated.{unrelated_entry, any_unrelated, is_unrelated_to}
use Rattle.session.specs.Related as related
use Rattle.session.specs.Related.{MapOf, of-state, of-creation, of-behaviour, of-message, AllRelated, Held, SetsRelated}
use Rattle.session.proofs.Model.{MessageView, Ledger, view_message, view}
use Rattle.session.proofs.Sets.{SetRel, set_known, cell-has}
use Rattle.session.proofs.Relation.{present, in-state, in-creation, in-behaviour, MessageRel, All2, none2, cons2, Rel, whole-known}
use Rattle.session.proofs.Messages.{find-rel}

-- ---- marks

map-known : (now : ℕ → HistoryView) (m : DependenceMap) (X : Incarnations) → SetRel now (map_view m) X → (u : ℕ) → held_at m u ≡ true
    → Precedes (incarnation_of (history_at m u)) (now u).incarnation
map-known now m X r u e = (cell-has (view-held m u e) (r u)).known.incarnation

-- the parcel in place k; past the last one there is no mark
message-known : (now : ℕ → HistoryView) (ms : List Message) (qs : List WaitingMessage) → All2 (MessageRel now) (map view_message ms) qs → (k u : ℕ)
    → held_at (get_or ms k no_message).dependences u ≡ true → Precedes (incarnation_of (history_at (get_or ms k no_message).dependences u)) (now u).incarnation
message-known now [] qs h k u e = absurd (false≢true e)
message-known now (m ∷ ms) [] h k u e = elim h [ ]
message-known now (m ∷ ms) (q ∷ qs) (cons2 r h) zero u e = map-known now m.dependences q.incarnations r.incarnations u e
message-known now (m ∷ ms) (q ∷ qs) (cons2 r h) (suc k) u e = message-known now ms qs h k u e

module _ (s : State) (b : Provenance) (r : Rel (view s) b) where
  known : (m : DependenceMap) → MapOf s m → (u : ℕ) → held_at m u ≡ true → Precedes (incarnation_of (history_at m u)) (present b.holders u).incarnation
  unfolding view message_at
  known m (of-state t) = map-known (present b.holders) m (b.holders t).state (r.holders t).state
  known m (of-creation t) = map-known (present b.holders) m (b.holders t).creation (r.holders t).creation
  known m (of-behaviour t) = map-known (present b.holders) m (b.holders t).behaviour (r.holders t).behaviour
  known m (of-message k) = message-known (present b.holders) s.messages b.messages r.messages k

  pub all-related : AllRelated s
  all-related m n i j u = related-at m n u (λ e f. related-before (known m i u e) (known n j u f))

  -- so at no receipt: a mark of the joined map is one of state or creation
  pub state-related : (y : Layout) (n : ℕ) → receipt_unrelated y s n ≡ false
  unfolding receipt_unrelated message_unrelated
  state-related y n =
      let k : ℕ = place_of s n in
      let t : ℕ = (message_at s k).addressee in
      let deps : DependenceMap = (message_at s k).dependences in
      let x : Transactor = transactor_at s t in
      (unrelated-none y.transactors deps _).1 (λ (i : ℕ) (h : i < y.transactors).
      related-join y.transactors deps x.state x.creation i h
      (all-related deps x.state (of-message k) (of-state t) i) (all-related deps x.creation (of-message k) (of-creation t) i))

-- ---- lives

sent-known : (now : ℕ → HistoryView) {ms : List MessageView} {qs : List WaitingMessage} → All2 (MessageRel now) ms qs → (q : WaitingMessage) → Memᴰ q qs
    → (u : ℕ) (a : Incarnation) → In u a q.incarnations → Precedes a (now u).incarnation
sent-known now none2 q i u a k = elim i [ ]
sent-known now (cons2 {a = m} {b = p} r h) q (Memᴰ.head e) u a k = set_known now m.dependences p.incarnations r.incarnations u a (rw e at k)
sent-known now (cons2 r h) q (Memᴰ.tail i) u a k = sent-known now h q i u a k

module _ (l : Ledger) (b : Provenance) (r : Rel l b) where
  held-known : (u : ℕ) (a : Incarnation) → Held b u a → Precedes a (present b.holders u).incarnation
  held-known u a (related.in-state t k) = whole-known (r.holders t) u a (in-state k)
  held-known u a (related.in-creation t k) = whole-known (r.holders t) u a (in-creation k)
  held-known u a (related.in-behaviour t k) = whole-known (r.holders t) u a (in-behaviour k)
  held-known u a (related.in-message q i k) = sent-known (present b.holders) r.messages q i u a k

  pub sets-related : SetsRelated b
  sets-related u a c i j = related-before (held-known u a i) (held-known u c j)

-- ---- the book's test at a receipt

no-entry : (f : Entry → Bool) (X : Incarnations) → ((x : Entry) → Memᴰ x X → f x ≡ false) → any_entry f X ≡ false
unfolding any_entry
no-entry f [] g = refl
no-entry f (x ∷ X) g = rw (g x (Memᴰ.head refl)) (no-entry f X (λ z i. g z (Memᴰ.tail i)))

none-unrelated : (X Y : Incarnations) → ((u : ℕ) (a c : Incarnation) → In u a X → In u c Y → is_unrelated (relation_of a c) ≡ false) → any_unrelated X Y ≡ false
unfolding any_unrelated unrelated_entry
none-unrelated X Y g = no-entry (λ x. any_entry (unrelated_entry x) Y) X (λ x i. no-entry (unrelated_entry x) Y (λ z j. go x z i j (eqb x.transactor z.transactor) refl))
  where
    go : (x z : Entry) → Memᴰ x X → Memᴰ z Y → (t : Bool) → eqb x.transactor z.transactor ≡ t → t and is_unrelated (relation_of x.incarnation z.incarnation) ≡ false
    go x z i j true e = g z.transactor x.incarnation z.incarnation (rw (← eqb-true x.transactor z.transactor e) i) j
    go x z i j false e = refl

module _ (l : Ledger) (b : Provenance) (r : Rel l b) where
  pub receipt-related : (n : ℕ) → is_unrelated_to (b.holders (find n b.messages).addressee) (find n b.messages) ≡ false
  unfolding is_unrelated_to
  receipt-related n =
      let q : WaitingMessage = find n b.messages in
      let t : ℕ = q.addressee in
      let h : Holder = b.holders t in
      let now : ℕ → HistoryView = present b.holders in
      none-unrelated q.incarnations (h.state ++ h.creation) (λ u a c i j. related-before
      (set_known now _ q.incarnations (find-rel n r.messages).incarnations u a i)
      (whole-known (r.holders t) u c (⊎_elim in-state in-creation (Memᴰ.append_cases h.state j))))
