-- Messages sent, lost and received keep the relation.
use Prim.Native.Nat.{ℕ, ◌+◌}
use mathlib.Core.Bool.{Bool, true, false, false≢true}
use mathlib.Core.Path.{◌≡◌, refl, ap, sym, ◌∙◌, subst}
use mathlib.Core.List.Memᴰ
use mathlib.Core.List.{List, [], ◌∷◌, ◌++◌}
use mathlib.Core.Logic.{◌⊎◌, inl, inr, ⊎_elim, ◌↔◌}
use lib.Dec.{eqb}
use Rattle.octets.specs.Bytes.{pick}
use Rattle.marks.specs.Incarnation.{Incarnation}
use Rattle.marks.specs.History.{HistoryView}
use Rattle.marks.proofs.Histories.{⊑_refl}
use Rattle.maps.specs.Internal.View.{MapView, join_view, empty_view, singleton_view, SupersededView}
use Rattle.session.specs.Provenance.{busy, Live, is-busy, Incarnations, In, one, Holder, WaitingMessage, Provenance, with_holder, with_waiting_message, remove, without_waiting_message, find, is_missing, any_superseded}
use Rattle.session.specs.Steps.{carried, rolled_back_holder, is_dropped, is_rolled_back, received, receives}
use Rattle.session.proofs.Model.{Node, MessageView, Ledger, with_node, with_message_view, remove_message, without_message_view, find_message, missing_message, rollback_node, News, known_map, sent_map, busy_node}
use Rattle.session.proofs.Tables.{pick-both, same_test}
use Rattle.session.proofs.Sets.{SetRel, set-join, none-rel, only-rel, in_one, cell-has, Coherent, Members, coherent-part, SupersededSet, superseded-set, superseded_set-same, superseded_set-test}
use Rattle.session.proofs.News.{NewsLaw, cell-informed}
use Rattle.session.proofs.Relation.{present, Whole, in-state, in-creation, in-behaviour, HolderRel, MessageRel, All2, none2, cons2, Rel, own-history}
use Rattle.session.proofs.Locals.{keep-rel, held-rel, step-rollback, present-is}

-- ---- lists of parcels

all2-append : {A B : Type 0} {R : A → B → Type 0} {s : List A} {t : List B} (a : A) (b : B) → R a b → All2 R s t → All2 R (s ++ a ∷ []) (t ++ b ∷ [])
all2-append a b k none2 = cons2 k none2
all2-append a b k (cons2 r h) = cons2 r (all2-append a b k h)

module _ {now : ℕ → HistoryView} (n : ℕ) where
  -- both sides find a number at the same place
  same_number : {m : MessageView} {q : WaitingMessage} → MessageRel now m q → eqb m.number n ≡ eqb q.number n
  same_number r = ap (λ k. eqb k n) r.number

  all2-remove : {s : List MessageView} {t : List WaitingMessage} → All2 (MessageRel now) s t → All2 (MessageRel now) (remove_message n s) (remove n t)
  unfolding remove_message remove
  all2-remove none2 = none2
  all2-remove (cons2 {a = m} {b = q} {s = s} {t = t} r h) =
      pick-both (All2 (MessageRel now)) (eqb m.number n) (eqb q.number n) (same_number r) s (m ∷ remove_message n s) t (q ∷ remove n t)
      (λ e. h) (λ e. cons2 r (all2-remove h))

  -- where there is none, both give a parcel that nobody sent
  pub find-rel : {s : List MessageView} {t : List WaitingMessage} → All2 (MessageRel now) s t → MessageRel now (find_message n s) (find n t)
  unfolding find_message find
  find-rel none2 = record { number = refl; addressee = refl; incarnations = none-rel now; coherent = λ u a c x y s. Memᴰ.not-nil x }
  find-rel (cons2 {a = m} {b = q} {s = s} {t = t} r h) =
      pick-both (MessageRel now) (eqb m.number n) (eqb q.number n) (same_number r) m (find_message n s) q (find n t) (λ e. r) (λ e. find-rel h)

  pub missing-same : {s : List MessageView} {t : List WaitingMessage} → All2 (MessageRel now) s t → missing_message n s ≡ is_missing n t
  unfolding missing_message is_missing
  missing-same none2 = refl
  missing-same (cons2 {a = m} {b = q} {s = s} {t = t} r h) =
      pick-both (λ x y. x ≡ y) (eqb m.number n) (eqb q.number n) (same_number r) false (missing_message n s) false (is_missing n t) (λ e. refl) (λ e. missing-same h)

-- ---- creation, behaviour and own mark, which a take sends and hands on

module _ {now : ℕ → HistoryView} {t : ℕ} {x : Node} {h : Holder} (r : HolderRel now t x h) (live : Live h.status) (is : now t ≡ h.history) where
  pub sent-rel : SetRel now (sent_map t x) (carried t h)
  sent-rel = rw (own-history r) (set-join now (join_view x.creation x.behaviour) (singleton_view t h.history) (h.creation ++ h.behaviour) (one t h.history.incarnation)
      (set-join now x.creation x.behaviour h.creation h.behaviour r.creation r.behaviour) (only-rel now t h.history (rw is (⊑_refl _))))

  -- the own life is in the state set
  sent-whole : (u : ℕ) (a : Incarnation) → In u a (carried t h) → Whole h u a
  sent-whole u a k = ⊎_elim (λ z. ⊎_elim in-creation in-behaviour (Memᴰ.append_cases h.creation z)) own-one (Memᴰ.append_cases (h.creation ++ h.behaviour) k)
    where
      own-one : In u a (one t h.history.incarnation) → Whole h u a
      own-one z = in-state (rw ((in_one z).0, (in_one z).1) (cell-has (r.own live) (r.state t)).has)

  pub sent-coherent : Coherent (Members (carried t h))
  sent-coherent = coherent-part (Whole h) (Members (carried t h)) sent-whole r.coherent

-- ---- send, letter, lose

module _ (l : Ledger) (b : Provenance) (r : Rel l b) where
  send-rel : (to : ℕ) (M : MapView) (X : Incarnations) → SetRel (present b.holders) M X → Coherent (Members X) → Rel (with_message_view l to M) (with_waiting_message b to X)
  send-rel to M X h k = record {
    limits = r.limits;
    opened = r.opened;
    next = ap (λ n. n + 1) r.next;
    used = r.used;
    fresh = r.fresh;
    holders = r.holders;
    messages = all2-append (record { number = l.next; addressee = to; dependences = M }) (record { number = b.next; addressee = to; incarnations = X })
        (record { number = r.next; addressee = refl; incarnations = h; coherent = k }) r.messages;
    noted = r.noted;
  }

  pub step-send : (t to : ℕ) → Live (b.holders t).status → Rel (with_message_view l to (sent_map t (l.nodes t))) (with_waiting_message b to (carried t (b.holders t)))
  step-send t to live =
      let is = present-is l b r t live in
      send-rel to (sent_map t (l.nodes t)) (carried t (b.holders t)) (sent-rel (r.holders t) live is) (sent-coherent (r.holders t) live is)

  pub step-letter : (to : ℕ) → Rel (with_message_view l to empty_view) (with_waiting_message b to [])
  step-letter to = send-rel to empty_view [] (none-rel (present b.holders)) (λ u a c x y s. Memᴰ.not-nil x)

  pub step-lose : (n : ℕ) → Rel (without_message_view l n) (without_waiting_message b n)
  step-lose n = record {
    limits = r.limits;
    opened = r.opened;
    next = r.next;
    used = r.used;
    fresh = r.fresh;
    holders = r.holders;
    messages = all2-remove n r.messages;
    noted = r.noted;
  }

-- ---- receive

module _ {now : ℕ → HistoryView} {t : ℕ} {x : Node} {h : Holder} (r : HolderRel now t x h) {m : MessageView} {q : WaitingMessage} (p : MessageRel now m q) where
  abbrev support : Incarnations
  support = h.state ++ h.creation

  ground-rel : SetRel now (known_map x) support
  ground-rel = set-join now x.state x.creation h.state h.creation r.state r.creation

  ground-coherent : Coherent (Members support)
  ground-coherent = coherent-part (Whole h) (Members support) (λ u a z. ⊎_elim in-state in-creation (Memᴰ.append_cases h.state z)) r.coherent

  -- the book's tests say what the ledger's maps do
  pub dropped-is : (is_dropped h q ≡ true) ↔ SupersededView m.dependences (known_map x)
  unfolding is_dropped
  dropped-is =
      let k = superseded_set-same now m.dependences (known_map x) q.incarnations support p.incarnations ground-rel p.coherent in
      let j = superseded_set-test q.incarnations support in
      (λ e. k.0 (j.0 e), λ s. j.1 (k.1 s))

  pub rolled_back-is : (is_rolled_back h q ≡ true) ↔ SupersededView (known_map x) m.dependences
  unfolding is_rolled_back
  rolled_back-is =
      let k = superseded_set-same now (known_map x) m.dependences support q.incarnations ground-rel p.incarnations ground-coherent in
      let j = superseded_set-test support q.incarnations in
      (λ e. k.0 (j.0 e), λ s. j.1 (k.1 s))

  -- so the ledger's tests, whatever Bools stand for them, give what the book's give
  pub dropped-same : (d : Bool) → (d ≡ true) ↔ SupersededView m.dependences (known_map x) → d ≡ is_dropped h q
  dropped-same d i = same_test d (is_dropped h q) (λ e. dropped-is.1 (i.0 e)) (λ e. i.1 (dropped-is.0 e))

  pub rolled_back-same : (e : Bool) → (e ≡ true) ↔ SupersededView (known_map x) m.dependences → e ≡ is_rolled_back h q
  rolled_back-same e i = same_test e (is_rolled_back h q) (λ z. rolled_back-is.1 (i.0 z)) (λ z. i.1 (rolled_back-is.0 z))

  abbrev busy_holder : Holder
  busy_holder = record { status = busy; history = h.history; state = h.state; creation = h.creation; behaviour = q.incarnations }

  -- C of state, creation and the new behaviour together, because both tests failed
  busy-rel : (w : News) → NewsLaw w → Live h.status → is_dropped h q ≡ false → is_rolled_back h q ≡ false → HolderRel now t (busy_node w t x m.dependences) busy_holder
  unfolding is_dropped is_rolled_back
  busy-rel w law live d e = record {
    status = refl;
    state = λ u. cell-informed (p.incarnations u) (r.state u) (law.entry t x.state m.dependences u);
    creation = λ u. cell-informed (p.incarnations u) (r.creation u) (law.entry t x.creation m.dependences u);
    behaviour = p.incarnations;
    coherent = coherent;
    own = λ k. law.own t x.state m.dependences ∙ r.own live;
    gone = λ k. absurd (k is-busy);
    first = r.first;
  }
    where
      part : (u : ℕ) (a : Incarnation) → Whole busy_holder u a → In u a support ⊎ In u a q.incarnations
      part u a (in-state z) = inl (Memᴰ.append_left h.creation z)
      part u a (in-creation z) = inl (Memᴰ.append_right h.state z)
      part u a (in-behaviour z) = inr z

      none : (X Y : Incarnations) → any_superseded X Y ≡ false → SupersededSet X Y → ⊥
      none X Y f s = false≢true (sym f ∙ (superseded_set-test X Y).1 s)

      coherent : Coherent (Whole busy_holder)
      coherent u a c y z s = go (part u a y) (part u c z)
        where
          go : In u a support ⊎ In u a q.incarnations → In u c support ⊎ In u c q.incarnations → ⊥
          go (inl i) (inl j) = ground-coherent u a c i j s
          go (inl i) (inr j) = none support q.incarnations e (superseded-set u a c i j s)
          go (inr i) (inl j) = none q.incarnations support d (superseded-set u a c i j s)
          go (inr i) (inr j) = p.coherent u a c i j s

-- d and e stand for the ledger's two tests where the take of node x receives mail m
pub record ReceiptTests (x : Node) (m : MessageView) (d e : Bool) : Type 0 where
  pub dropped : (d ≡ true) ↔ SupersededView m.dependences (known_map x)
  pub rolls-back : (e ≡ true) ↔ SupersededView (known_map x) m.dependences

-- what a receipt leaves of a node, by the outcomes of the two tests
abbrev pub received_node : News → Bool → Bool → ℕ → Node → MapView → Node
received_node w d e t x M = pick d x (pick e (rollback_node t x) (busy_node w t x M))

-- the receipt of the mail of number n
abbrev pub receive_message : News → Bool → Bool → Ledger → ℕ → Ledger
receive_message w d e l n =
    let m : MessageView = find_message n l.messages in
    let t : ℕ = m.addressee in
    with_node (without_message_view l n) t (received_node w d e t (l.nodes t) m.dependences)

module _ (w : News) (law : NewsLaw w) (l : Ledger) (b : Provenance) (r : Rel l b) (n : ℕ) (d e : Bool) where
  -- by whatever take, and whatever parcel
  received-rel : {m : MessageView} {q : WaitingMessage} → MessageRel (present b.holders) m q → (t : ℕ) → Live (b.holders t).status → ReceiptTests (l.nodes t) m d e
      → Rel (with_node (without_message_view l n) t (received_node w d e t (l.nodes t) m.dependences)) (with_holder (without_waiting_message b n) t (received t (b.holders t) q))
  unfolding received
  received-rel {m} {q} p t live i =
      let x = l.nodes t in let h = b.holders t in let s = step-lose l b r n in
      let f = dropped-same (r.holders t) p d i.dropped in
      let g = rolled_back-same (r.holders t) p e i.rolls-back in
      let y = busy_holder (r.holders t) p in
      pick-both (λ z v. Rel (with_node (without_message_view l n) t z) (with_holder (without_waiting_message b n) t v)) d (is_dropped h q) f x (pick e (rollback_node t x) (busy_node w t x m.dependences)) h (pick (is_rolled_back h q) (rolled_back_holder t h) y)
      (λ k. held-rel (without_message_view l n) (without_waiting_message b n) s t live) λ k.
      pick-both (λ z v. Rel (with_node (without_message_view l n) t z) (with_holder (without_waiting_message b n) t v)) e (is_rolled_back h q) g (rollback_node t x) (busy_node w t x m.dependences) (rolled_back_holder t h) y
      (λ j. step-rollback (without_message_view l n) (without_waiting_message b n) s t live)
      (λ j. keep-rel (without_message_view l n) (without_waiting_message b n) s t live (busy_node w t x m.dependences) y is-busy refl (busy-rel (r.holders t) p w law live (sym f ∙ k) (sym g ∙ j)))

  pub step-receive : Live (b.holders (find n b.messages).addressee).status
      → ReceiptTests (l.nodes (find_message n l.messages).addressee) (find_message n l.messages) d e → Rel (receive_message w d e l n) (receives b n)
  unfolding receives
  step-receive live i =
      let m = find_message n l.messages in
      let p = find-rel n r.messages in
      subst (λ t. ReceiptTests (l.nodes t) m d e → Rel (with_node (without_message_view l n) t (received_node w d e t (l.nodes t) m.dependences)) (receives b n))
      (sym p.addressee) (received-rel p (find n b.messages).addressee live) i
