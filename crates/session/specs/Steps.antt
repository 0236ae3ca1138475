-- Document 01, "The book of demand 3": what each step does to the book.
use Rattle.std.specs.Prelude.{ℕ, Bool, true, false, not, ◌≡◌, List, [], ◌∷◌, ◌++◌, length, eqb}
use Rattle.octets.specs.Bytes.{pick, ◌and◌}
use Rattle.marks.specs.Incarnation.{Incarnation}
use Rattle.marks.specs.History.{HistoryView, initial_view, stabilized_view, rolled_back_view, checkpointed_view}
use Rattle.rules.specs.Layout.{Layout}
use Rattle.rules.specs.declared.Step.{Step}
use Rattle.rules.specs.Step.{root, letter, receive, new, send, read, write, freeze, finish, fall, lose, sign}
use Rattle.rules.specs.Refusals.{Seen, named, refusal_of}
use Rattle.session.specs.Provenance.{Incarnations, one, idle, busy, annihilated, status_number, Holder, WaitingMessage, Provenance, blank, with_holder, with_opened, with_waiting_message, without_waiting_message, find, is_missing, any_superseded}
use Rattle.session.specs.Unrelated.{is_unrelated_to}
use Rattle.session.specs.Grounds.{RestsOn, Equal}

-- a take with the mark m: its life in state, the rest empty, idle
abbrev pub anew : ℕ → HistoryView → Holder
anew t m = record { status = idle; history = m; state = one t m.incarnation; creation = []; behaviour = [] }

-- what is sent: "the sender's creation, behaviour and own life"
abbrev pub carried : ℕ → Holder → Incarnations
carried t h = h.creation ++ h.behaviour ++ one t h.history.incarnation

-- L is empty
abbrev pub is_nil : List ℕ → Bool
is_nil [] = true
is_nil (x ∷ xs) = false

-- "A take that falls vanishes if L is empty; else next mark, its life alone in state, the rest empty."
unfoldable pub rolled_back_holder : ℕ → Holder → Holder
rolled_back_holder t h =
    pick (is_nil h.history.incarnation.checkpoints) (blank annihilated)
    (anew t (rolled_back_view h.history))

-- ---- one take alone

-- "Read adds state to behaviour."
unfoldable pub reads : Holder → Holder
reads h = record { status = h.status; history = h.history; state = h.state; creation = h.creation; behaviour = h.state ++ h.behaviour }

-- "Write, unfrozen, adds behaviour to state."
unfoldable pub writes : Holder → Holder
writes h = pick h.history.stable h
    (record { status = h.status; history = h.history; state = h.behaviour ++ h.state; creation = h.creation; behaviour = h.behaviour })

-- "Freeze sets the flag."
unfoldable pub freezes : Holder → Holder
freezes h = record {
  status = h.status;
  history = stabilized_view h.history;
  state = h.state;
  creation = h.creation;
  behaviour = h.behaviour;
}

-- "Done, and a held fall, empty behaviour."
unfoldable pub finishes : Holder → Holder
finishes h = record { status = idle; history = h.history; state = h.state; creation = h.creation; behaviour = [] }

-- Fall: "unfrozen: the take falls"; a held one empties behaviour.
unfoldable pub rolls_back_or_finishes : ℕ → Holder → Holder
rolls_back_or_finishes t h = pick h.history.stable (finishes h) (rolled_back_holder t h)

-- Fail: "unfrozen: the take falls"; a held one changes nothing.
unfoldable pub rolls_back_or_stays : ℕ → Holder → Holder
rolls_back_or_stays t h = pick h.history.stable h (rolled_back_holder t h)

-- kind k of 5 to 10 on take t
unfoldable pub acted : ℕ → ℕ → Holder → Holder
acted k t h =
    pick (eqb k read) (reads h)
    (pick (eqb k write) (writes h)
    (pick (eqb k freeze) (freezes h)
    (pick (eqb k finish) (finishes h)
    (pick (eqb k fall) (rolls_back_or_finishes t h)
    (rolls_back_or_stays t h)))))

-- ---- receive

-- "If a life of its set is stale by one of the same take in the addressee's state or creation: nothing else."
unfoldable pub is_dropped : Holder → WaitingMessage → Bool
is_dropped h q = any_superseded q.incarnations (h.state ++ h.creation)

-- "Otherwise, if one there is stale by one of the same take in the parcel's set: the addressee falls."
unfoldable pub is_rolled_back : Holder → WaitingMessage → Bool
is_rolled_back h q = any_superseded (h.state ++ h.creation) q.incarnations

-- "Otherwise its behaviour is the parcel's set."
unfoldable pub received : ℕ → Holder → WaitingMessage → Holder
received t h q =
    pick (is_dropped h q) h
    (pick (is_rolled_back h q) (rolled_back_holder t h)
    (record { status = busy; history = h.history; state = h.state; creation = h.creation; behaviour = q.incarnations }))

-- ---- sign, if the two sets are equal

-- each named take has its new mark, its life alone in state, the rest empty
unfoldable pub checkpointed_at : Provenance → ℕ → ℕ → Holder
checkpointed_at b g t =
    pick (named g t)
    (anew t (checkpointed_view (b.holders t).history))
    (b.holders t)

-- what each named take rests on is noted for its present life
pub data NotedBy (b : Provenance) (g t : ℕ) (a : Incarnation) (u : ℕ) (c : Incarnation) : Type 0 where
  before : b.noted t a u c → NotedBy b g t a u c
  now-checkpointed : named g t ≡ true → a ≡ (b.holders t).history.incarnation → RestsOn b t u c → NotedBy b g t a u c

-- "Sign, if the two sets are equal: what each named take rests on is noted for its present life. Then each has its new mark, its
-- life alone in state, the rest empty."
abbrev pub signs : Provenance → ℕ → Provenance
signs b g = record { limits = b.limits; opened = b.opened; next = b.next; holders = checkpointed_at b g; messages = b.messages; noted = NotedBy b g }

-- ---- the kinds but for sign

-- "Root: opening mark; its life in state, the rest empty."
unfoldable pub opens_root : Provenance → Provenance
opens_root b = with_opened b (anew b.opened initial_view)

-- "New: the same, but creation holds the opener's creation, behaviour and own life; the child's life is added to the opener's behaviour."
unfoldable pub opens_child : Provenance → ℕ → Provenance
opens_child b t =
    let h : Holder = b.holders t in
    let c : ℕ = b.opened in
    let child : Holder = record { status = idle; history = initial_view; state = one c initial_view.incarnation; creation = carried t h; behaviour = [] } in
    let opener : Holder = record { status = h.status; history = h.history; state = h.state; creation = h.creation; behaviour = one c initial_view.incarnation ++ h.behaviour } in
    with_opened (with_holder b t opener) child

-- "Receive: the parcel goes", and its addressee is as received says.
unfoldable pub receives : Provenance → ℕ → Provenance
receives b n =
    let q : WaitingMessage = find n b.messages in
    let t : ℕ = q.addressee in
    with_holder (without_waiting_message b n) t (received t (b.holders t) q)

-- "Letter: empty set. Send: the sender's creation, behaviour and own life. Lose: the parcel goes." The others as above.
unfoldable pub applied : Provenance → Step → Provenance
applied b p =
    pick (eqb p.kind root) (opens_root b)
    (pick (eqb p.kind letter) (with_waiting_message b p.transactor [])
    (pick (eqb p.kind receive) (receives b p.message)
    (pick (eqb p.kind new) (opens_child b p.transactor)
    (pick (eqb p.kind send) (with_waiting_message b p.other (carried p.transactor (b.holders p.transactor)))
    (pick (eqb p.kind lose) (without_waiting_message b p.message)
    (with_holder b p.transactor (acted p.kind p.transactor (b.holders p.transactor))))))))

-- ---- refusals, by what the book holds itself

-- what the table looks at
unfoldable pub provenance_seen : Provenance → Seen
provenance_seen b = record {
  limits = b.limits;
  opened = b.opened;
  next = b.next;
  waiting = length b.messages;
  status = λ t. status_number (b.holders t).status;
  stable = λ t. (b.holders t).history.stable;
  checkpoints = λ t. length (b.holders t).history.incarnation.checkpoints;
  incarnation = λ t. (b.holders t).history.incarnation.number;
  missing = λ n. is_missing n b.messages;
  addressee = λ n. (find n b.messages).addressee;
  rolls = λ n.
      not (is_dropped (b.holders (find n b.messages).addressee) (find n b.messages))
      and is_rolled_back (b.holders (find n b.messages).addressee) (find n b.messages);
  unrelated = λ n. is_unrelated_to (b.holders (find n b.messages).addressee) (find n b.messages);
}

-- "It refuses calls and steps by the table .., judged by what it holds itself."
unfoldable pub provenance_refusal : Layout → Provenance → Step → ℕ
provenance_refusal y b p = refusal_of y (provenance_seen b) p

-- What one step does: refused steps change nothing, nor does a signing whose sets differ.
pub data ProvenanceStep (y : Layout) (b : Provenance) (p : Step) : Provenance → Type 1 where
  refuses : (provenance_refusal y b p ≡ 0 → ⊥) → ProvenanceStep y b p b
  applies : provenance_refusal y b p ≡ 0 → (p.kind ≡ sign → ⊥) → ProvenanceStep y b p (applied b p)
  signing : provenance_refusal y b p ≡ 0 → p.kind ≡ sign → Equal b p.message → ProvenanceStep y b p (signs b p.message)
  not-ready : provenance_refusal y b p ≡ 0 → p.kind ≡ sign → (Equal b p.message → ⊥) → ProvenanceStep y b p b
