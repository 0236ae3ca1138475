-- The relation between the ledger's state and the book. Every step keeps it, and all of demand 3 is read off it.
use Prim.Native.Nat.{ℕ, ◌≤◌, ◌<◌}
use mathlib.Core.Path.{◌≡◌, refl, ap, sym, ◌∙◌}
use mathlib.Core.List.Memᴰ
use mathlib.Core.List.{List, [], ◌∷◌}
use mathlib.Core.Logic.{◌⊎◌, inl, inr}
use mathlib.Core.Option.{some, get_or}
use native.Mathlib.Omega.{arith}
use lib.ListN.{length}
use Rattle.marks.specs.Incarnation.{Incarnation, Checkpointed}
use Rattle.marks.specs.History.{HistoryView, initial_view, stabilized_view}
use Rattle.marks.specs.Order.{Precedes}
use Rattle.marks.proofs.Order.{checkpointed-up, checkpointed-list, checkpointed-irrefl, initial-precedes}
use Rattle.marks.proofs.Histories.{◌⊑◌}
use Rattle.rules.specs.Layout.{Limits}
use Rattle.session.specs.Provenance.{Status, unused, idle, busy, annihilated, Live, is-idle, is-busy, In, Holder, WaitingMessage, Provenance, blank, empty_provenance}
use Rattle.session.proofs.Model.{Node, MessageView, Ledger, own, bare_node}
use Rattle.session.proofs.Sets.{SetRel, set-later, set_known, none-rel, cell-none, Coherent, Members}

-- ---- statuses

pub live-or-not : (s : Status) → Live s ⊎ (Live s → ⊥)
live-or-not unused = inr (λ h. elim h [ ])
live-or-not idle = inl is-idle
live-or-not busy = inl is-busy
live-or-not annihilated = inr (λ h. elim h [ ])

pub live-used : {s : Status} → Live s → s ≡ unused → ⊥
live-used {s} k e = none (rw e at k)
  where
    none : Live unused → ⊥
    none h = elim h [ ]

pub gone-used : annihilated ≡ unused → ⊥
gone-used e = let z : ◌≡◌ {A = ℕ} 0 1 = cc in omega arith

-- ---- the present mark of every take

-- of a vanished take the opening life, with the flag that says most: whatever was known of it stays known
abbrev pub gone_view : HistoryView
gone_view = stabilized_view initial_view

unfoldable pub present_of : Status → HistoryView → HistoryView
present_of unused m = initial_view
present_of idle m = m
present_of busy m = m
present_of annihilated m = gone_view

abbrev pub present : (ℕ → Holder) → ℕ → HistoryView
present H t = present_of (H t).status (H t).history

pub present-live : (s : Status) (m : HistoryView) → Live s → present_of s m ≡ m
unfolding present_of
present-live unused m h = elim h [ ]
present-live idle m is-idle = refl
present-live busy m is-busy = refl
present-live annihilated m h = elim h [ ]

pub present-unused : (m : HistoryView) → present_of unused m ≡ initial_view
unfolding present_of
present-unused m = refl

pub present-gone : (m : HistoryView) → present_of annihilated m ≡ gone_view
unfolding present_of
present-gone m = refl

-- no life of a take that is not live is signed
pub nothing-checkpointed : {a : Incarnation} (s : Status) (m : HistoryView) → (Live s → ⊥) → Checkpointed a (present_of s m).incarnation → ⊥
unfolding present_of
nothing-checkpointed unused m k h = checkpointed-irrefl (checkpointed-up h (initial-precedes _))
nothing-checkpointed idle m k h = k is-idle
nothing-checkpointed busy m k h = k is-busy
nothing-checkpointed annihilated m k h = checkpointed-irrefl (checkpointed-up h (initial-precedes _))

-- ---- one take, one parcel

-- the lives of a take's three sets
pub data Whole (h : Holder) (u : ℕ) (a : Incarnation) : Type 0 where
  in-state : In u a h.state → Whole h u a
  in-creation : In u a h.creation → Whole h u a
  in-behaviour : In u a h.behaviour → Whole h u a

pub record HolderRel (now : ℕ → HistoryView) (t : ℕ) (x : Node) (h : Holder) : Type 0 where
  pub status : x.status ≡ h.status
  -- A (newest) and B (known), of each map and its set
  pub state : SetRel now x.state h.state
  pub creation : SetRel now x.creation h.creation
  pub behaviour : SetRel now x.behaviour h.behaviour
  -- C: of the three sets together
  pub coherent : Coherent (Whole h)
  -- D: the own entry of the state map is the present mark
  pub own : Live h.status → x.state t ≡ some h.history
  -- a take that is not live has nothing
  pub gone : (Live h.status → ⊥) → h ≡ blank h.status
  -- G: with an empty list n is 0
  pub first : h.history.incarnation.checkpoints ≡ [] → h.history.incarnation.number ≡ 0

pub record MessageRel (now : ℕ → HistoryView) (m : MessageView) (q : WaitingMessage) : Type 0 where
  pub number : m.number ≡ q.number
  pub addressee : m.addressee ≡ q.addressee
  pub incarnations : SetRel now m.dependences q.incarnations
  pub coherent : Coherent (Members q.incarnations)

-- two lists alike, entry by entry
pub data All2 {A B : Type 0} (R : A → B → Type 0) : List A → List B → Type 0 where
  none2 : All2 R [] []
  cons2 : {a : A} {b : B} {s : List A} {t : List B} → R a b → All2 R s t → All2 R (a ∷ s) (b ∷ t)

-- what was noted at signings
pub record NotedRel (now : ℕ → HistoryView) (noted : ℕ → Incarnation → ℕ → Incarnation → Type 0) : Type 0 where
  -- E: every life that a noted set holds is signed now
  pub grounds : (t : ℕ) (a : Incarnation) (u : ℕ) (c : Incarnation) → noted t a u c → Checkpointed c (now u).incarnation
  -- and so is the life that it was noted for
  pub keys : (t : ℕ) (a : Incarnation) (u : ℕ) (c : Incarnation) → noted t a u c → Checkpointed a (now t).incarnation
  -- for every signed life at least the life itself was noted
  pub own : (t : ℕ) (a : Incarnation) → Checkpointed a (now t).incarnation → noted t a t a

-- ---- the whole

pub record Rel (l : Ledger) (b : Provenance) : Type 0 where
  -- F: what is plain is the same; a take is unused exactly if it is not opened
  pub limits : l.limits ≡ b.limits
  pub opened : l.opened ≡ b.opened
  pub next : l.next ≡ b.next
  pub used : (t : ℕ) → t < b.opened → (b.holders t).status ≡ unused → ⊥
  pub fresh : (t : ℕ) → b.opened ≤ t → (b.holders t).status ≡ unused
  pub holders : (t : ℕ) → HolderRel (present b.holders) t (l.nodes t) (b.holders t)
  pub messages : All2 (MessageRel (present b.holders)) l.messages b.messages
  pub noted : NotedRel (present b.holders) b.noted

-- ---- the own mark

-- the ledger's own mark of a take is the book's; of a take that is not live both are the opening mark
pub own-history : {now : ℕ → HistoryView} {t : ℕ} {x : Node} {h : Holder} → HolderRel now t x h → own t x ≡ h.history
own-history {now} {t} {x} {h} r = go (live-or-not h.status)
  where
    go : Live h.status ⊎ (Live h.status → ⊥) → own t x ≡ h.history
    go (inl k) = ap (λ o. get_or o initial_view) (r.own k)
    go (inr k) =
        let e : h ≡ blank h.status = r.gone k in
        let s : h.state ≡ [] = ap (λ z. z.state) e in
        let m : h.history ≡ initial_view = ap (λ z. z.history) e in
        ap (λ o. get_or o initial_view) (cell-none (λ a i. Memᴰ.not-nil (rw s at i)) (r.state t)) ∙ sym m

-- ---- what a step leaves alone: kept where every take's present mark only moves on

pub holder-later : {now later : ℕ → HistoryView} {t : ℕ} {x : Node} {h : Holder} → ((u : ℕ) → now u ⊑ later u) → HolderRel now t x h → HolderRel later t x h
holder-later {now} {later} {t} {x} {h} l r = record {
  status = r.status;
  state = set-later now later x.state h.state l r.state;
  creation = set-later now later x.creation h.creation l r.creation;
  behaviour = set-later now later x.behaviour h.behaviour l r.behaviour;
  coherent = r.coherent;
  own = r.own;
  gone = r.gone;
  first = r.first;
}

pub message-later : {now later : ℕ → HistoryView} {m : MessageView} {q : WaitingMessage} → ((u : ℕ) → now u ⊑ later u) → MessageRel now m q → MessageRel later m q
message-later {now} {later} {m} {q} l r = record {
  number = r.number;
  addressee = r.addressee;
  incarnations = set-later now later m.dependences q.incarnations l r.incarnations;
  coherent = r.coherent;
}

all2-map : {A B : Type 0} {R S : A → B → Type 0} {s : List A} {t : List B} → ((a : A) (b : B) → R a b → S a b) → All2 R s t → All2 S s t
all2-map f none2 = none2
all2-map f (cons2 r h) = cons2 (f _ _ r) (all2-map f h)

pub all2-length : {A B : Type 0} {R : A → B → Type 0} {s : List A} {t : List B} → All2 R s t → length s ≡ length t
all2-length none2 = refl
all2-length (cons2 r h) = rw (all2-length h)

module _ (l : Ledger) (b : Provenance) (r : Rel l b) (later : ℕ → HistoryView) (grow : (u : ℕ) → present b.holders u ⊑ later u) where
  pub holder-kept : (t : ℕ) → HolderRel later t (l.nodes t) (b.holders t)
  holder-kept t = holder-later grow (r.holders t)

  pub messages-kept : All2 (MessageRel later) l.messages b.messages
  messages-kept = all2-map (λ m q. message-later grow) r.messages

  pub grounds-kept : (t : ℕ) (a : Incarnation) (u : ℕ) (c : Incarnation) → b.noted t a u c → Checkpointed c (later u).incarnation
  grounds-kept t a u c k = checkpointed-up (r.noted.grounds t a u c k) (grow u).incarnation

  pub keys_kept : (t : ℕ) (a : Incarnation) (u : ℕ) (c : Incarnation) → b.noted t a u c → Checkpointed a (later t).incarnation
  keys_kept t a u c k = checkpointed-up (r.noted.keys t a u c k) (grow t).incarnation

  -- where no list changes, no life is signed
  pub noted-kept : ((u : ℕ) → (later u).incarnation.checkpoints ≡ (present b.holders u).incarnation.checkpoints) → NotedRel later b.noted
  noted-kept lists = record { grounds = grounds-kept; keys = keys_kept; own = λ t a s. r.noted.own t a (checkpointed-list (lists t) s) }

-- every life of a take's sets is a past or present one
pub whole-known : {now : ℕ → HistoryView} {t : ℕ} {x : Node} {h : Holder} → HolderRel now t x h → (u : ℕ) (a : Incarnation) → Whole h u a → Precedes a (now u).incarnation
whole-known {now} {t} {x} {h} r u a (in-state k) = set_known now x.state h.state r.state u a k
whole-known {now} {t} {x} {h} r u a (in-creation k) = set_known now x.creation h.creation r.creation u a k
whole-known {now} {t} {x} {h} r u a (in-behaviour k) = set_known now x.behaviour h.behaviour r.behaviour u a k

-- ---- a take that has nothing; nothing opened

pub blank-rel : (now : ℕ → HistoryView) (t : ℕ) (s : Status) → (Live s → ⊥) → HolderRel now t (bare_node s) (blank s)
blank-rel now t s k = record {
  status = refl;
  state = none-rel now;
  creation = none-rel now;
  behaviour = none-rel now;
  coherent = λ u a c p q e. nothing u a p;
  own = λ h. absurd (k h);
  gone = λ h. refl;
  first = λ h. refl;
}
  where
    nothing : (u : ℕ) (a : Incarnation) → Whole (blank s) u a → ⊥
    nothing u a (in-state i) = Memᴰ.not-nil i
    nothing u a (in-creation i) = Memᴰ.not-nil i
    nothing u a (in-behaviour i) = Memᴰ.not-nil i

abbrev pub fresh_ledger : Limits → Ledger
fresh_ledger m = record { limits = m; opened = 0; next = 0; nodes = λ t. bare_node unused; messages = [] }

pub fresh-rel : (m : Limits) → Rel (fresh_ledger m) (empty_provenance m)
fresh-rel m = record {
  limits = refl;
  opened = refl;
  next = refl;
  used = λ t h. absurd (omega arith);
  fresh = λ t h. refl;
  holders = λ t. blank-rel (present (empty_provenance m).holders) t unused (λ h. elim h [ ]);
  messages = none2;
  noted = record { grounds = λ t a u c k. absurd k; keys = λ t a u c k. absurd k; own = λ t a s. absurd (nothing-checkpointed unused initial_view (λ h. elim h [ ]) s) };
}
