-- The rules through the view: what each kind does there, and the tests of receive and sign.
use Prim.Native.Nat.{ℕ, zero, suc, ◌≤◌, ◌<◌}
use mathlib.Core.Bool.{Bool, true, false, not, false≢true}
use mathlib.Core.Path.{◌≡◌, refl, ap, ap₂, sym, ◌∙◌, subst}
use mathlib.Core.List.{List, [], ◌∷◌}
use mathlib.Core.Logic.{◌⊎◌, inl, inr, ⊎_elim, ◌↔◌}
use mathlib.Core.Option.{Option, some}
use native.Mathlib.Omega.{arith}
use lib.Dec.{eqb, eqb-suc-zero}
use lib.ListN.{length, length-set}
use borrow.Author.Tests.{eqb-true}
use Rattle.octets.specs.Bytes.{pick, ◌and◌, ◌or◌, every}
use Rattle.octets.proofs.Chunks.{sides}
use Rattle.octets.proofs.Zero.{both, every-all, every-at}
use Rattle.marks.specs.declared.History.{History}
use Rattle.marks.specs.Incarnation.{Incarnation, Checkpointed, checkpointed_in, same_incarnation}
use Rattle.marks.specs.History.{incarnation_of, initial_history, stabilized, rolled_back, Roomy, HistoryView, initial_view, stabilized_view, rolled_back_view, view_of}
use Rattle.marks.proofs.Histories.{roomy-length, roomy-initial}
use Rattle.marks.proofs.Tests.{checkpointed-test, same_test}
use Rattle.maps.specs.declared.DependenceMap.{DependenceMap}
use Rattle.maps.specs.Map.{held_at, history_at, Within}
use Rattle.octets.specs.Table.{updated}
use Rattle.maps.specs.Internal.View.{join_entry, empty_view, singleton_view, map_view, SupersededView}
use Rattle.maps.proofs.News.{informed_table, table-informed}
use Rattle.maps.proofs.View.{Answers, one, no_one, view-superseded, view-held, view-some, roomy-entry, within_none, within-ok, within-singleton, within-join, view-empty, view-with_entry, view-singleton, view-join}
use Rattle.rules.specs.Layout.{Layout}
use Rattle.rules.specs.State.{Transactor, Message, State, transactor_at, message_at, own_history, live, with_transactor, without_message, numbered, place_of}
use Rattle.rules.specs.State as state
use Rattle.rules.specs.Status as number
use Rattle.rules.specs.declared.Step.{Step}
use Rattle.rules.specs.Step.{read, write, freeze, finish, fall}
use Rattle.rules.specs.Refusals.{named}
use Rattle.rules.specs.Rules.{Effect, is_some, carried, rollback, read_by, write_by, freeze_by, finish_by, fall_by, fail_by, local_by, known, message_superseded, receiver_superseded, receive_by, entry_ready, map_ready, transactor_ready, group_ready, opening, apply_root, apply_letter, apply_receive, apply_new, apply_send, apply_local, apply_lose, apply_sign}
use Rattle.rules.specs.Rules as rules
use Rattle.rules.specs.Internal.Well.{TransactorOk, WellFormed}
use Rattle.rules.proofs.Groups.Obstacles.{parts-ready}
use Rattle.rules.proofs.Pack.Messages.{no-message}
use Rattle.session.specs.Provenance.{Live, is-idle, is-busy}
use Rattle.session.specs.Steps.{is_nil}
use Rattle.session.specs.Silent.{receive_silently, apply_silently}
use Rattle.session.proofs.Model.{Node, Ledger, own, with_node, open_node, with_message_view, without_message_view, find_message, anew_node, read_node, freeze_node, finish_node, rollback_node, known_map, sent_map, child_node, opener_node, sign_ledger, status_of, view_node, view}
use Rattle.session.proofs.Tables.{pick-both, and-of, or-to, or-of}
use Rattle.session.proofs.News.{silent}
use Rattle.session.proofs.Locals.{written_node, fall_node, fail_node, acted_node}
use Rattle.session.proofs.Messages.{received_node, receive_message}
use Rattle.session.proofs.Sign.{EntryReady, Ready}
use Rattle.session.proofs.ViewState.{node-same, view-bare, view-anew, view-with_transactor, view-opened, view-own, at-transactor, own_view, view-with_message, view-find, view-without_message, view-checkpoint_group}

-- ---- one take alone

nil-length : (l : List ℕ) → is_nil l ≡ eqb (length l) 0
nil-length [] = refl
nil-length (x ∷ xs) = sym (eqb-suc-zero (length xs))

-- an effect that leaves the node z
abbrev Leaves : Effect → Node → Type 0
Leaves e z = view_node e.transactor ≡ z

module _ {y : Layout} {x : Transactor} (ok : TransactorOk y x) where
  pub view-read : view_node (read_by y x).transactor ≡ read_node (view_node x)
  unfolding read_by
  view-read = node-same refl (λ u. refl) (λ u. refl) (view-join (within-ok ok.state) (within-ok ok.behaviour))

  pub view-finish : view_node (finish_by y x).transactor ≡ finish_node (view_node x)
  unfolding finish_by status_of
  view-finish = node-same refl (λ u. refl) (λ u. refl) (view-empty y.places y.transactors)

  module _ (t : ℕ) where
    stable-view : (own_history t x).stable ≡ (own t (view_node x)).stable
    stable-view = ap (λ (m : HistoryView). m.stable) (sym (view-own ok.state t))

    pub view-write : (v : ℕ) → view_node (write_by y t v x).transactor ≡ written_node t (view_node x)
    unfolding write_by
    view-write v = pick-both Leaves (own_history t x).stable (own t (view_node x)).stable stable-view _ _ _ _
        (λ e. refl)
        (λ e. node-same refl (view-join (within-ok ok.behaviour) (within-ok ok.state)) (λ u. refl) (λ u. refl))

    module _ (below : t < y.transactors) where
      own_room : Roomy y.places (own_history t x)
      own_room = roomy-entry (ok.state.each t below)

      pub view-freeze : view_node (freeze_by t x).transactor ≡ freeze_node t (view_node x)
      unfolding freeze_by
      view-freeze = node-same refl
          (λ u. view-with_entry ok.state t (stabilized (own_history t x)) below u
          ∙ ap (λ (m : HistoryView). updated (map_view x.state) t (some (stabilized_view m)) u) (sym (view-own ok.state t)))
          (λ u. refl)
          (λ u. refl)

      -- nothing signed: the list is empty
      never-checkpointed : eqb (own_history t x).count 0 ≡ is_nil (own t (view_node x)).incarnation.checkpoints
      never-checkpointed =
          ap (λ (n : ℕ). eqb n 0) (sym (roomy-length own_room))
          ∙ sym (nil-length (incarnation_of (own_history t x)).checkpoints)
          ∙ ap (λ (m : HistoryView). is_nil m.incarnation.checkpoints) (sym (view-own ok.state t))

      pub view-rollback : view_node (rollback y t x).transactor ≡ rollback_node t (view_node x)
      unfolding rollback rollback_node status_of
      view-rollback = pick-both Leaves (eqb (own_history t x).count 0) (is_nil (own t (view_node x)).incarnation.checkpoints) never-checkpointed _ _ _ _
          (λ e. view-bare y number.annihilated)
          (λ e. view-anew y t x.saved x.saved (rolled_back (own_history t x)) below
          ∙ ap (λ (m : HistoryView). anew_node t (rolled_back_view m)) (sym (view-own ok.state t)))

      pub view-carried : (u : ℕ) → map_view (carried y t x) u ≡ sent_map t (view_node x) u
      unfolding carried
      view-carried u =
          let c = within-ok ok.creation in
          let b = within-ok ok.behaviour in
          view-join (within-join c b) (within-singleton y.places y.transactors t below own_room) u
          ∙ ap₂ join_entry (view-join c b u)
          (view-singleton y.places y.transactors t (own_history t x) below u ∙ ap (λ (m : HistoryView). singleton_view t m u) (sym (view-own ok.state t)))

      pub view-fall : view_node (fall_by y t x).transactor ≡ fall_node t (view_node x)
      unfolding fall_by finish_by
      view-fall = pick-both Leaves (own_history t x).stable (own t (view_node x)).stable stable-view _ _ _ _ (λ e. view-finish) (λ e. view-rollback)

      pub view-fail : view_node (fail_by y t x).transactor ≡ fail_node t (view_node x)
      unfolding fail_by
      view-fail = pick-both Leaves (own_history t x).stable (own t (view_node x)).stable stable-view _ _ _ _ (λ e. refl) (λ e. view-rollback)

      pub view-local : (k v : ℕ) → view_node (local_by y k t v x).transactor ≡ acted_node k t (view_node x)
      unfolding local_by acted_node
      view-local k v =
          pick-both Leaves (eqb k read) (eqb k read) refl _ _ _ _ (λ e. view-read) λ e.
          pick-both Leaves (eqb k write) (eqb k write) refl _ _ _ _ (λ e. view-write v) λ e.
          pick-both Leaves (eqb k freeze) (eqb k freeze) refl _ _ _ _ (λ e. view-freeze) λ e.
          pick-both Leaves (eqb k finish) (eqb k finish) refl _ _ _ _ (λ e. view-finish) λ e.
          pick-both Leaves (eqb k fall) (eqb k fall) refl _ _ _ _ (λ e. view-fall) (λ e. view-fail)

      pub view-received : (m : Message)
          → view_node (receive_by y t x m).transactor ≡ received_node informed_table (message_superseded y x m) (receiver_superseded y x m) t (view_node x) (map_view m.dependences)
      unfolding receive_by status_of
      view-received m =
          pick-both Leaves (message_superseded y x m) (message_superseded y x m) refl _ _ _ _ (λ e. refl) λ e.
          pick-both Leaves (receiver_superseded y x m) (receiver_superseded y x m) refl _ _ _ _ (λ e. view-rollback)
          (λ e. node-same refl (table-informed y.transactors t x.state m.dependences (within-ok ok.state)) (table-informed y.transactors t x.creation m.dependences (within-ok ok.creation)) (λ u. refl))

      -- and without the news
      pub view-received-silently : (m : Message)
          → view_node (receive_silently y t x m).transactor ≡ received_node silent (message_superseded y x m) (receiver_superseded y x m) t (view_node x) (map_view m.dependences)
      unfolding receive_silently status_of
      view-received-silently m =
          pick-both Leaves (message_superseded y x m) (message_superseded y x m) refl _ _ _ _ (λ e. refl) λ e.
          pick-both Leaves (receiver_superseded y x m) (receiver_superseded y x m) refl _ _ _ _ (λ e. view-rollback) (λ e. refl)

-- ---- the tests of a receipt

-- the parcel with number n is dropped: a mark of it is stale by its addressee's
unfoldable pub dropped_at : Layout → State → ℕ → Bool
dropped_at y s n = message_superseded y (transactor_at s (message_at s (place_of s n)).addressee) (message_at s (place_of s n))

-- a mark of its addressee is stale by the parcel's
unfoldable pub rolled_back_at : Layout → State → ℕ → Bool
rolled_back_at y s n = receiver_superseded y (transactor_at s (message_at s (place_of s n)).addressee) (message_at s (place_of s n))

-- the test by an answer of the comparison
is-some : {P : Type 0} {o : Option ℕ} → Answers P o → (is_some o ≡ true) ↔ P
is-some (one p) = (λ e. p, λ q. refl)
is-some (no_one n) = (λ e. absurd (false≢true e), λ p. absurd (n p))

module _ {y : Layout} {s : State} (well : WellFormed y s) where
  within-message : (k : ℕ) → Within y.places y.transactors (message_at s k).dependences
  within-message k = ⊎_elim
      (λ (h : k < length s.messages). within-ok (well.packable.messages k h).dependences)
      (λ (h : length s.messages ≤ k). subst (λ (m : Message). Within y.places y.transactors m.dependences) (sym (no-message s k h)) (within_none y.places y.transactors))
      (sides k (length s.messages))

  within-known : (t : ℕ) → Within y.places y.transactors (transactor_at s t).state × Within y.places y.transactors (transactor_at s t).creation
  within-known = at-transactor well (λ t x. Within y.places y.transactors x.state × Within y.places y.transactors x.creation)
      (λ t h. (within-ok (well.packable.transactors t h).state, within-ok (well.packable.transactors t h).creation))
      (λ t. (within_none y.places y.transactors, within_none y.places y.transactors))

  pub view_known : (t : ℕ) → map_view (known y (transactor_at s t)) ≡ known_map (view_node (transactor_at s t))
  view_known t = λ i u. view-join (within-known t).0 (within-known t).1 u i

  -- for every number, of a parcel that waits or not
  module _ (n : ℕ) where
    pub dropped-test : (dropped_at y s n ≡ true) ↔ SupersededView (find_message n (view s).messages).dependences (known_map ((view s).nodes (find_message n (view s).messages).addressee))
    unfolding dropped_at message_superseded view
    dropped-test =
        let m : Message = message_at s (place_of s n) in
        let x : Transactor = transactor_at s m.addressee in
        rw (view-find s n, ← view_known m.addressee) (is-some (view-superseded (within-message (place_of s n)) (known y x)))

    pub rolled_back-test : (rolled_back_at y s n ≡ true) ↔ SupersededView (known_map ((view s).nodes (find_message n (view s).messages).addressee)) (find_message n (view s).messages).dependences
    unfolding rolled_back_at receiver_superseded view
    rolled_back-test =
        let m : Message = message_at s (place_of s n) in
        let t : ℕ = m.addressee in
        rw (view-find s n, ← view_known t) (is-some (view-superseded (within-join (within-known t).0 (within-known t).1) m.dependences))

-- ---- the kinds

place_kept : (s : State) (t : ℕ) (x : Transactor) (n : ℕ) → place_of (with_transactor s t x) n ≡ place_of s n
unfolding place_of numbered message_at with_transactor
place_kept s t x n = refl

module _ {y : Layout} {s : State} (well : WellFormed y s) (p : Step) where
  inside : (t : ℕ) → t < y.transactors → t < length s.transactors
  inside t h = omega (arith, well.packable.many)

  ok_at : (t : ℕ) → t < y.transactors → TransactorOk y (transactor_at s t)
  ok_at t h = well.packable.transactors t h

  pub view-root : s.opened < y.transactors → view (apply_root y s p).state ≡ open_node (view s) (anew_node (view s).opened initial_view)
  unfolding apply_root view
  view-root h =
      view-opened s (opening y s.opened p.value (rules.no_dependences y)) (inside s.opened h)
      ∙ ap (open_node (view s)) (view-anew y s.opened p.value 0 (initial_history y.places) h)

  pub view-letter : view (apply_letter y s p).state ≡ with_message_view (view s) p.transactor empty_view
  unfolding apply_letter
  view-letter =
      view-with_message s p.transactor p.value (rules.no_dependences y)
      ∙ ap (with_message_view (view s) p.transactor) (λ i u. view-empty y.places y.transactors u i)

  pub view-lose : view (apply_lose s p).state ≡ without_message_view (view s) p.message
  unfolding apply_lose
  view-lose = view-without_message s p.message

  pub view_send : p.transactor < y.transactors → view (apply_send y s p).state ≡ with_message_view (view s) p.other (sent_map p.transactor ((view s).nodes p.transactor))
  unfolding apply_send view
  view_send h =
      view-with_message s p.other p.value (carried y p.transactor (transactor_at s p.transactor))
      ∙ ap (with_message_view (view s) p.other) (λ i u. view-carried (ok_at p.transactor h) p.transactor h u i)

  pub view-acted : p.transactor < y.transactors
      → view (apply_local y s p).state ≡ with_node (view s) p.transactor (acted_node p.kind p.transactor ((view s).nodes p.transactor))
  unfolding apply_local view
  view-acted h =
      let t : ℕ = p.transactor in
      view-with_transactor s t (local_by y p.kind t p.value (transactor_at s t)).transactor (inside t h)
      ∙ ap (with_node (view s) t) (view-local (ok_at t h) t h p.kind p.value)

  module _ (h : p.transactor < y.transactors) (k : s.opened < y.transactors) where
    view-child : (v : ℕ) → view_node (opening y s.opened v (carried y p.transactor (transactor_at s p.transactor))) ≡ child_node s.opened (sent_map p.transactor (view_node (transactor_at s p.transactor)))
    unfolding status_of
    view-child v = node-same refl
        (view-singleton y.places y.transactors s.opened (initial_history y.places) k)
        (view-carried (ok_at p.transactor h) p.transactor h)
        (view-empty y.places y.transactors)

    -- the opener: the child's opening mark joins its behaviour map
    grown : Transactor
    grown =
        let x : Transactor = transactor_at s p.transactor in
        state.with_behaviour x (rules.join y (rules.only y s.opened (initial_history y.places)) x.behaviour)

    view-grown : view_node grown ≡ opener_node s.opened (view_node (transactor_at s p.transactor))
    unfolding grown
    view-grown =
        let x : Transactor = transactor_at s p.transactor in
        node-same refl (λ u. refl) (λ u. refl) (λ u.
        view-join (within-singleton y.places y.transactors s.opened k (roomy-initial y.places)) (within-ok (ok_at p.transactor h).behaviour) u
        ∙ ap (λ (o : Option HistoryView). join_entry o (map_view x.behaviour u)) (view-singleton y.places y.transactors s.opened (initial_history y.places) k u))

    pub view-new : view (apply_new y s p).state
        ≡ open_node (with_node (view s) p.transactor (opener_node (view s).opened ((view s).nodes p.transactor)))
        (child_node (view s).opened (sent_map p.transactor ((view s).nodes p.transactor)))
    unfolding apply_new view with_transactor grown
    view-new =
        let t : ℕ = p.transactor in
        let child : Transactor = opening y s.opened p.value (carried y t (transactor_at s t)) in
        view-opened (with_transactor s t grown) child (rw length-set (inside s.opened k))
        ∙ ap (λ (l : Ledger). open_node l (view_node child)) (view-with_transactor s t grown (inside t h))
        ∙ ap₂ (λ (z w : Node). open_node (with_node (view s) t z) w) view-grown (view-child p.value)

  -- a take changed while a parcel is removed
  changed-removed : (t : ℕ) (x : Transactor) → t < y.transactors → (n : ℕ)
      → view (without_message (with_transactor s t x) (place_of s n)) ≡ with_node (without_message_view (view s) n) t (view_node x)
  changed-removed t x h n =
      subst (λ (k : ℕ). view (without_message (with_transactor s t x) k) ≡ without_message_view (view (with_transactor s t x)) n) (place_kept s t x n) (view-without_message (with_transactor s t x) n)
      ∙ ap (λ (l : Ledger). without_message_view l n) (view-with_transactor s t x (inside t h))

  module _ (waits : place_of s p.message < length s.messages) where
    pub addressee-below : (message_at s (place_of s p.message)).addressee < y.transactors
    addressee-below = omega (arith, well.opened, well.addressees (place_of s p.message) waits)

    pub view-receive : view (apply_receive y s p).state ≡ receive_message informed_table (dropped_at y s p.message) (rolled_back_at y s p.message) (view s) p.message
    unfolding apply_receive view dropped_at rolled_back_at
    view-receive =
        let m : Message = message_at s (place_of s p.message) in
        let t : ℕ = m.addressee in
        let x : Transactor = transactor_at s t in
        rw (view-find s p.message)
        (changed-removed t (receive_by y t x m).transactor addressee-below p.message
        ∙ ap (with_node (without_message_view (view s) p.message) t) (view-received (ok_at t addressee-below) t addressee-below m))

    pub view-receive-silently : view (apply_silently y s p).state ≡ receive_message silent (dropped_at y s p.message) (rolled_back_at y s p.message) (view s) p.message
    unfolding apply_silently view dropped_at rolled_back_at
    view-receive-silently =
        let m : Message = message_at s (place_of s p.message) in
        let t : ℕ = m.addressee in
        let x : Transactor = transactor_at s t in
        rw (view-find s p.message)
        (changed-removed t (receive_silently y t x m).transactor addressee-below p.message
        ∙ ap (with_node (without_message_view (view s) p.message) t) (view-received-silently (ok_at t addressee-below) t addressee-below m))

-- ---- sign

pub live_test : (n : ℕ) → (eqb n number.idle or eqb n number.busy ≡ true) ↔ Live (status_of n)
unfolding status_of
live_test n = (λ e. ⊎_elim (λ k. rw (eqb-true n number.idle k) is-idle) (λ k. rw (eqb-true n number.busy k) is-busy) (or-to (eqb n number.idle) (eqb n number.busy) e), of n)
  where
    of : (n : ℕ) → Live (status_of n) → eqb n number.idle or eqb n number.busy ≡ true
    of zero k = elim k [ ]
    of (suc zero) k = refl
    of (suc (suc zero)) k = refl
    of (suc (suc (suc n))) k = elim k [ ]

-- signed in b, or b itself, of a take that is named
abbrev Settled : Bool → Incarnation → Incarnation → Type 0
Settled n a b = Checkpointed a b ⊎ ((n ≡ true) × (a ≡ b))

settled-test : (n : Bool) (a b : Incarnation) → (checkpointed_in a b or (n and same_incarnation a b) ≡ true) ↔ Settled n a b
settled-test n a b = (λ e. to (or-to (checkpointed_in a b) (n and same_incarnation a b) e), λ h. or-of (checkpointed_in a b) (n and same_incarnation a b) (of h))
  where
    to : (checkpointed_in a b ≡ true) ⊎ (n and same_incarnation a b ≡ true) → Settled n a b
    to (inl e) = inl ((checkpointed-test a b).0 e)
    to (inr e) = let p = both n (same_incarnation a b) e in inr (p.0, (same_test a b).0 p.1)

    of : Settled n a b → (checkpointed_in a b ≡ true) ⊎ (n and same_incarnation a b ≡ true)
    of (inl c) = inl ((checkpointed-test a b).1 c)
    of (inr p) = inr (and-of n (same_incarnation a b) p.0 ((same_test a b).1 p.1))

module _ {y : Layout} {s : State} (well : WellFormed y s) (g : ℕ) where
  module _ (u : ℕ) (h : History) where
    own_is : incarnation_of (own_history u (transactor_at s u)) ≡ (own u (view_node (transactor_at s u))).incarnation
    own_is = ap (λ (m : HistoryView). m.incarnation) (sym (own_view well u))

    pub entry-test : (entry_ready s g u h ≡ true) ↔ EntryReady (view s) (named g) u (view_of h)
    unfolding entry_ready view
    entry-test =
        let x : Transactor = transactor_at s u in
        let a : Incarnation = incarnation_of h in
        let b : Incarnation = incarnation_of (own_history u x) in (
          λ e.
              let p = both (live x) (checkpointed_in a b or (named g u and same_incarnation a b)) e in
              record { live = (live_test x.status).0 p.0; is = subst (Settled (named g u) a) own_is ((settled-test (named g u) a b).0 p.1) },
          λ r. and-of (live x) (checkpointed_in a b or (named g u and same_incarnation a b)) ((live_test x.status).1 r.live)
              ((settled-test (named g u) a b).1 (subst (Settled (named g u) a) (sym own_is) r.is)),
        )

  map-test : {m : DependenceMap} → Within y.places y.transactors m
      → (map_ready y s g m ≡ true) ↔ ((u : ℕ) (x : HistoryView) → map_view m u ≡ some x → EntryReady (view s) (named g) u x)
  unfolding map_ready
  map-test {m} i = (to, of)
    where
      f : ℕ → Bool
      f u = not (held_at m u) or entry_ready s g u (history_at m u)

      to : every y.transactors f ≡ true → (u : ℕ) (x : HistoryView) → map_view m u ≡ some x → EntryReady (view s) (named g) u x
      to e u x k =
          let p = view-some m u x k in
          let q = every-at f y.transactors u e (i.below u p.0) in
          rw p.1 ((entry-test u (history_at m u)).0 (rw p.0 at q))

      of : ((u : ℕ) (x : HistoryView) → map_view m u ≡ some x → EntryReady (view s) (named g) u x) → every y.transactors f ≡ true
      of k = every-all f y.transactors (λ u h. at u (held_at m u) refl)
        where
          at : (u : ℕ) (c : Bool) → held_at m u ≡ c → not c or entry_ready s g u (history_at m u) ≡ true
          at u true e = (entry-test u (history_at m u)).1 (k u (view_of (history_at m u)) (view-held m u e))
          at u false e = refl

  module _ (bounded : (t : ℕ) → named g t ≡ true → t < y.transactors) where
    pub ready-test : (group_ready y s g ≡ true) ↔ Ready (view s) (named g)
    unfolding group_ready transactor_ready view
    ready-test = (to, of)
      where
        f : ℕ → Bool
        f t = not (named g t) or transactor_ready y s g t

        to : every y.transactors f ≡ true → Ready (view s) (named g)
        to e = record {
          stable = λ t k. ap (λ (m : HistoryView). m.stable) (own_view well t) ∙ (each t k).0;
          state = λ t k. (map-test (within-known well t).0).0 (each t k).1;
          creation = λ t k. (map-test (within-known well t).1).0 (each t k).2;
        }
          where
            each : (t : ℕ) → named g t ≡ true
                → ((own_history t (transactor_at s t)).stable ≡ true) × (map_ready y s g (transactor_at s t).state ≡ true) × (map_ready y s g (transactor_at s t).creation ≡ true)
            each t k = let q = every-at f y.transactors t e (bounded t k) in parts-ready y s g t (rw k at q)

        of : Ready (view s) (named g) → every y.transactors f ≡ true
        of r = every-all f y.transactors (λ t h. at t (named g t) refl)
          where
            at : (t : ℕ) (c : Bool) → named g t ≡ c → not c or transactor_ready y s g t ≡ true
            at t true k = rw (
              sym (ap (λ (m : HistoryView). m.stable) (own_view well t)) ∙ r.stable t k,
              (map-test (within-known well t).0).1 (r.state t k),
              (map-test (within-known well t).1).1 (r.creation t k),
            )
            at t false k = refl

pub view-sign : {y : Layout} {s : State} → WellFormed y s → (p : Step) → ((t : ℕ) → named p.message t ≡ true → t < y.transactors)
    → ((t : ℕ) → named p.message t ≡ true → (own_history t (transactor_at s t)).count < y.places)
    → view (apply_sign y s p).state ≡ pick (group_ready y s p.message) (sign_ledger (view s) (named p.message)) (view s)
unfolding apply_sign
view-sign {y} {s} well p bounded room =
    let c : Bool = group_ready y s p.message in
    pick-both (λ (r : rules.Result) (l : Ledger). view r.state ≡ l) c c refl _ _ _ _ (λ e. view-checkpoint_group well p.message bounded room) (λ e. refl)
