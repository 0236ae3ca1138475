-- Document 02, W4: a log of freezes beside the book, fed the same steps. Every frozen mark of a map is in it.
use Prim.Native.Nat.{ℕ}
use mathlib.Core.Bool.{Bool, true, false, false≢true}
use mathlib.Core.Path.{◌≡◌, refl, sym, ◌∙◌, subst}
use mathlib.Core.List.{List, [], ◌∷◌, ◌++◌}
use mathlib.Core.Logic.{◌⊎◌, inl, inr}
use mathlib.Core.Option.{Option, none, some, get_or}
use native.Mathlib.Omega.{arith}
use lib.Dec.{eqb}
use borrow.Author.Tests.{eqb-true}
use Rattle.marks.specs.Incarnation.{Incarnation, Checkpointed}
use Rattle.marks.specs.History.{HistoryView, initial_view, newer_view}
use Rattle.marks.specs.News.{Shows, by-stable, by-list}
use Rattle.marks.proofs.Histories.{newer_view-which}
use Rattle.octets.specs.Table.{updated}
use Rattle.maps.specs.Internal.View.{MapView, join_entry, join_view, empty_view, singleton_view}
use Rattle.octets.proofs.Tables.{updated-view}
use Rattle.rules.specs.Layout.{Layout}
use Rattle.rules.specs.declared.Step.{Step}
use Rattle.rules.specs.Step.{root, letter, receive, new, send, read, write, freeze, finish, fall, lose, sign}
use Rattle.rules.specs.Refusals.{named}
use Rattle.session.specs.Provenance.{annihilated, Provenance}
use Rattle.session.specs.Steps.{is_nil}
use Rattle.session.specs.Stabilized.{Stabilizes}
use Rattle.session.proofs.Model.{News, Node, MessageView, Ledger, own, with_message_view, remove_message, find_message, bare_node, anew_node, read_node, write_node, freeze_node, finish_node, rollback_node, sent_map, busy_node, child_node, opener_node, checkpointed_nodes}
use Rattle.session.proofs.Tables.{pick-view}
use Rattle.session.proofs.News.{NewsLaw, Informed, kept, told}
use Rattle.session.proofs.Locals.{acted_node, written_node, fall_node, fail_node}
use Rattle.session.proofs.Messages.{received_node}
use Rattle.session.proofs.Kept.{applied_ledger}

-- ---- the log

-- f u a: take u was frozen in its life a
abbrev pub Log : Type 1
Log = ℕ → Incarnation → Type 0

-- an accepted begin empties it
abbrev pub empty_log : Log
empty_log u a = ⊥

-- after step p: what was there, and the present life of the take that p freezes
pub data LogAfter (y : Layout) (b : Provenance) (p : Step) (f : Log) (u : ℕ) (a : Incarnation) : Type 0 where
  earlier : f u a → LogAfter y b p f u a
  just-now : Stabilizes y b p u a → LogAfter y b p f u a

-- ---- one entry, one map

-- a frozen mark is of a life in the log
pub data Backed (f : Incarnation → Type 0) : Option HistoryView → Type 0 where
  absent : Backed f none
  backed : {m : HistoryView} → (m.stable ≡ true → f m.incarnation) → Backed f (some m)

abbrev pub MapLog : Log → MapView → Type 0
MapLog f M = (u : ℕ) → Backed (f u) (M u)

backed-more : {f g : Incarnation → Type 0} {o : Option HistoryView} → ((a : Incarnation) → f a → g a) → Backed f o → Backed g o
backed-more h absent = absent
backed-more h (backed k) = backed (λ e. h _ (k e))

pub backed-has : {f : Incarnation → Type 0} {o : Option HistoryView} {m : HistoryView} → Backed f o → o ≡ some m → m.stable ≡ true → f m.incarnation
backed-has absent e = let z : ◌≡◌ {A = ℕ} 0 1 = cc in absurd (omega arith)
backed-has {m = n} (backed {m = k} h) e = let q : k ≡ n = cc in rw q at h

backed-join : {f : Incarnation → Type 0} {x y : Option HistoryView} → Backed f x → Backed f y → Backed f (join_entry x y)
unfolding join_entry
backed-join absent k = k
backed-join (backed h) absent = backed h
backed-join {f} (backed {m = m} h) (backed {m = n} k) = backed (go (newer_view-which m n))
  where
    go : (newer_view m n ≡ m) ⊎ (newer_view m n ≡ n) → (newer_view m n).stable ≡ true → f (newer_view m n).incarnation
    go (inl e) = rw e h
    go (inr e) = rw e k

join-log : (f : Log) (M N : MapView) → MapLog f M → MapLog f N → MapLog f (join_view M N)
join-log f M N h k u = backed-join (h u) (k u)

empty-log : (f : Log) → MapLog f empty_view
empty-log f u = absent

single-log : (f : Log) (t : ℕ) (m : HistoryView) → (m.stable ≡ true → f t m.incarnation) → MapLog f (singleton_view t m)
unfolding singleton_view
single-log f t m h = updated-view (λ u o. Backed (f u) o) empty_view t (some m) (backed h) (λ u n. absent)

-- news: a frozen mark of the parcel is in the log, and so is every life that a mark of the parcel shows signed
informed-log : {f : Incarnation → Type 0} {o e z : Option HistoryView} → Backed f o → ((p : HistoryView) → o ≡ some p → (a : Incarnation) → Checkpointed a p.incarnation → f a)
    → Backed f e → Informed o e z → Backed f z
informed-log k s h kept = h
informed-log {f} k s h (told {m = m} {p = p} i n) = backed (λ e. go n)
  where
    go : Shows m.incarnation p → f m.incarnation
    go (by-stable e j) = subst f (sym e) (backed-has k i j)
    go (by-list c) = s p i m.incarnation c

-- ---- one take

pub record NodeLog (f : Log) (x : Node) : Type 0 where
  pub state : MapLog f x.state
  pub creation : MapLog f x.creation
  pub behaviour : MapLog f x.behaviour

module _ (f : Log) where
  own-log : (t : ℕ) (x : Node) → NodeLog f x → (own t x).stable ≡ true → f t (own t x).incarnation
  own-log t x h = go (h.state t)
    where
      go : {o : Option HistoryView} → Backed (f t) o → (get_or o initial_view).stable ≡ true → f t (get_or o initial_view).incarnation
      go absent e = absurd (false≢true e)
      go (backed k) e = k e

  anew-log : (t : ℕ) (m : HistoryView) → m.stable ≡ false → NodeLog f (anew_node t m)
  anew-log t m e = record { state = single-log f t m (λ i. absurd (false≢true (sym e ∙ i))); creation = empty-log f; behaviour = empty-log f }

  rollback-log : (t : ℕ) (x : Node) → NodeLog f (rollback_node t x)
  unfolding rollback_node
  rollback-log t x = pick-view (NodeLog f) (is_nil (own t x).incarnation.checkpoints) (bare_node annihilated) _
      (λ e. record { state = empty-log f; creation = empty-log f; behaviour = empty-log f }) (λ e. anew-log t _ refl)

  finish-log : (x : Node) → NodeLog f x → NodeLog f (finish_node x)
  finish-log x h = record { state = h.state; creation = h.creation; behaviour = empty-log f }

  sent-log : (t : ℕ) (x : Node) → NodeLog f x → MapLog f (sent_map t x)
  sent-log t x h = join-log f (join_view x.creation x.behaviour) (singleton_view t (own t x))
      (join-log f x.creation x.behaviour h.creation h.behaviour) (single-log f t (own t x) (own-log t x h))

  -- kinds 5 to 10
  acted-log : (k t : ℕ) (x : Node) → (k ≡ freeze → f t (own t x).incarnation) → NodeLog f x → NodeLog f (acted_node k t x)
  unfolding acted_node
  acted-log k t x now h =
      pick-view (NodeLog f) (eqb k read) (read_node x) _
      (λ e. record { state = h.state; creation = h.creation; behaviour = join-log f x.state x.behaviour h.state h.behaviour }) λ e1.
      pick-view (NodeLog f) (eqb k write) (written_node t x) _
      (λ e. pick-view (NodeLog f) (own t x).stable x (write_node x) (λ i. h)
      (λ i. record { state = join-log f x.behaviour x.state h.behaviour h.state; creation = h.creation; behaviour = h.behaviour })) λ e2.
      pick-view (NodeLog f) (eqb k freeze) (freeze_node t x) _
      (λ e. record {
        state = updated-view (λ u o. Backed (f u) o) x.state t (some (record { stable = true; incarnation = (own t x).incarnation })) (backed (λ i. now (eqb-true k freeze e))) (λ u n. h.state u);
        creation = h.creation;
        behaviour = h.behaviour;
      }) λ e3.
      pick-view (NodeLog f) (eqb k finish) (finish_node x) _ (λ e. finish-log x h) λ e4.
      pick-view (NodeLog f) (eqb k fall) (fall_node t x) (fail_node t x)
      (λ e. pick-view (NodeLog f) (own t x).stable (finish_node x) (rollback_node t x) (λ i. finish-log x h) (λ i. rollback-log t x))
      (λ e. pick-view (NodeLog f) (own t x).stable x (rollback_node t x) (λ i. h) (λ i. rollback-log t x))

  -- a receipt, whatever the two tests say
  received-log : (w : News) → NewsLaw w → (d e : Bool) (t : ℕ) (x : Node) (M : MapView) → MapLog f M
      → ((u : ℕ) (p : HistoryView) → M u ≡ some p → (a : Incarnation) → Checkpointed a p.incarnation → f u a) → NodeLog f x → NodeLog f (received_node w d e t x M)
  received-log w law d e t x M k s h =
      pick-view (NodeLog f) d x _ (λ i. h) λ i1.
      pick-view (NodeLog f) e (rollback_node t x) (busy_node w t x M) (λ i. rollback-log t x)
      (λ i. record {
        state = λ u. informed-log (k u) (s u) (h.state u) (law.entry t x.state M u);
        creation = λ u. informed-log (k u) (s u) (h.creation u) (law.entry t x.creation M u);
        behaviour = k;
      })

-- ---- the ledger

pub data Each {A : Type 0} (P : A → Type 0) : List A → Type 0 where
  none1 : Each P []
  cons1 : {a : A} {s : List A} → P a → Each P s → Each P (a ∷ s)

abbrev MessageLog : Log → MessageView → Type 0
MessageLog f m = MapLog f m.dependences

pub record LedgerLog (f : Log) (l : Ledger) : Type 0 where
  pub nodes : (t : ℕ) → NodeLog f (l.nodes t)
  pub messages : Each (λ (m : MessageView). (u : ℕ) → Backed (f u) (m.dependences u)) l.messages

each_append : {A : Type 0} {P : A → Type 0} {s : List A} (a : A) → P a → Each P s → Each P (s ++ a ∷ [])
each_append a k none1 = cons1 k none1
each_append a k (cons1 h r) = cons1 h (each_append a k r)

each_map : {A : Type 0} {P Q : A → Type 0} {s : List A} → ((a : A) → P a → Q a) → Each P s → Each Q s
each_map g none1 = none1
each_map g (cons1 h r) = cons1 (g _ h) (each_map g r)

module _ (f : Log) (n : ℕ) where
  each-remove : {s : List MessageView} → Each (MessageLog f) s → Each (MessageLog f) (remove_message n s)
  unfolding remove_message
  each-remove none1 = none1
  each-remove (cons1 {a = m} {s = s} h r) = pick-view (Each (MessageLog f)) (eqb m.number n) s (m ∷ remove_message n s) (λ e. r) (λ e. cons1 h (each-remove r))

  each-find : {s : List MessageView} → Each (MessageLog f) s → MessageLog f (find_message n s)
  unfolding find_message
  each-find none1 = empty-log f
  each-find (cons1 {a = m} {s = s} h r) = pick-view (MessageLog f) (eqb m.number n) m (find_message n s) (λ e. h) (λ e. each-find r)

pub log-more : {f g : Log} {l : Ledger} → ((u : ℕ) (a : Incarnation) → f u a → g u a) → LedgerLog f l → LedgerLog g l
log-more {f} {g} {l} h k = record {
  nodes = λ t. record { state = λ u. backed-more (h u) ((k.nodes t).state u); creation = λ u. backed-more (h u) ((k.nodes t).creation u); behaviour = λ u. backed-more (h u) ((k.nodes t).behaviour u) };
  messages = each_map (λ m z u. backed-more (h u) (z u)) k.messages;
}

module _ (f : Log) (l : Ledger) (k : LedgerLog f l) where
  put-log : (t : ℕ) (x : Node) → NodeLog f x → (u : ℕ) → NodeLog f (updated l.nodes t x u)
  put-log t x h = updated-view (λ u z. NodeLog f z) l.nodes t x h (λ u n. k.nodes u)

  message-log : (to : ℕ) (M : MapView) → MapLog f M → LedgerLog f (with_message_view l to M)
  message-log to M h = record { nodes = k.nodes; messages = each_append (record { number = l.next; addressee = to; dependences = M }) h k.messages }

  -- every kind, whatever the tests say
  pub applied-log : (w : News) → NewsLaw w → (d e ok : Bool) (p : Step) → (p.kind ≡ freeze → f p.transactor (own p.transactor (l.nodes p.transactor)).incarnation)
      → ((u : ℕ) (q : HistoryView) → (find_message p.message l.messages).dependences u ≡ some q → (a : Incarnation) → Checkpointed a q.incarnation → f u a)
      → LedgerLog f (applied_ledger w d e ok l p)
  unfolding applied_ledger checkpointed_nodes
  applied-log w law d e ok p now shown =
      let t : ℕ = p.transactor in let x : Node = l.nodes t in
      let c : ℕ = l.opened in
      let q : MessageView = find_message p.message l.messages in
      pick-view (LedgerLog f) (eqb p.kind root) _ _ (λ i. record { nodes = put-log c (anew_node c initial_view) (anew-log f c initial_view refl); messages = k.messages }) λ i1.
      pick-view (LedgerLog f) (eqb p.kind letter) _ _ (λ i. message-log t empty_view (empty-log f)) λ i2.
      pick-view (LedgerLog f) (eqb p.kind receive) _ _ (λ i. record {
        nodes = put-log q.addressee (received_node w d e q.addressee (l.nodes q.addressee) q.dependences)
            (received-log f w law d e q.addressee (l.nodes q.addressee) q.dependences (each-find f p.message k.messages) shown (k.nodes q.addressee));
        messages = each-remove f p.message k.messages;
      }) λ i3.
      pick-view (LedgerLog f) (eqb p.kind new) _ _ (λ i. record {
        nodes = updated-view (λ u z. NodeLog f z) (updated l.nodes t (opener_node c x)) c (child_node c (sent_map t x))
            (record { state = single-log f c initial_view (λ j. absurd (false≢true j)); creation = sent-log f t x (k.nodes t); behaviour = empty-log f })
            (λ u n. put-log t (opener_node c x) (record {
              state = (k.nodes t).state;
              creation = (k.nodes t).creation;
              behaviour = join-log f (singleton_view c initial_view) x.behaviour (single-log f c initial_view (λ j. absurd (false≢true j))) (k.nodes t).behaviour;
            }) u);
        messages = k.messages;
      }) λ i4.
      pick-view (LedgerLog f) (eqb p.kind send) _ _ (λ i. message-log p.other (sent_map t x) (sent-log f t x (k.nodes t))) λ i5.
      pick-view (LedgerLog f) (eqb p.kind lose) _ _ (λ i. record { nodes = k.nodes; messages = each-remove f p.message k.messages }) λ i6.
      pick-view (LedgerLog f) (eqb p.kind sign) _ _ (λ i. pick-view (LedgerLog f) ok _ _
      (λ j. record { nodes = λ u. pick-view (NodeLog f) (named p.message u) _ (l.nodes u) (λ n. anew-log f u _ refl) (λ n. k.nodes u); messages = k.messages })
      (λ j. k)) λ i7.
      record { nodes = put-log t (acted_node p.kind t x) (acted-log f p.kind t x now (k.nodes t)); messages = k.messages }
