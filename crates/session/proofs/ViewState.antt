-- The state through the view: what each of its changes is there.
use Prim.Native.Nat.{ℕ, suc, ◌+◌, ◌≤◌, ◌<◌}
use mathlib.Core.Bool.{Bool, true, false}
use mathlib.Core.Path.{◌≡◌, refl, ap, sym, ◌∙◌, subst}
use mathlib.Core.List.{List, [], ◌∷◌, ◌++◌, map, map-append}
use mathlib.Core.Logic.{⊎_elim}
use mathlib.Core.Option
use mathlib.Core.Option.{Option, none, some}
use native.Mathlib.Omega.{arith}
use lib.Dec.{eqb, leb, leb-suc-suc}
use lib.ListN.{length, get_or, set, take, drop, replicate, length-replicate, get_or-replicate, get_or-eq_default}
use lib.Seq.{get_or-set_same, get_or-set_other}
use borrow.Author.Tests.{lt-leb}
use Rattle.octets.specs.Bytes.{pick, tabulate}
use Rattle.octets.proofs.Chunks.{sides, length-tabulate, get_d_tabulate}
use Rattle.marks.specs.declared.History.{History}
use Rattle.marks.specs.History.{checkpointed, Roomy, HistoryView, initial_view, checkpointed_view, view_of}
use Rattle.marks.proofs.Histories.{view-checkpointed}
use Rattle.maps.specs.declared.DependenceMap.{DependenceMap}
use Rattle.maps.specs.Map.{history_at}
use Rattle.maps.specs.Internal.Fitting.{EntryOk, present, absent, MapOk}
use Rattle.octets.specs.Table.{updated}
use Rattle.maps.specs.Internal.View.{map_view}
use Rattle.maps.proofs.Map.{outside}
use Rattle.octets.proofs.Tables.{updated-is}
use Rattle.maps.proofs.View.{roomy-entry, within-ok, view-past, view-empty, view-singleton}
use Rattle.rules.specs.Layout.{Layout, Limits}
use Rattle.rules.specs.State.{Transactor, Message, State, bare, no_map, no_transactor, no_message, transactor_at, message_at, fresh, own_history, with_transactor, with_opened, with_message, without_message, place_from, numbered, place_of}
use Rattle.rules.specs.State as state
use Rattle.rules.specs.Status as number
use Rattle.rules.specs.Refusals.{named}
use Rattle.rules.specs.Rules.{opened, checkpoint_by, checkpoint_at, checkpoint_group}
use Rattle.rules.specs.Rules as rules
use Rattle.rules.specs.Internal.Well.{WellFormed}
use Rattle.session.specs.Provenance.{unused}
use Rattle.session.proofs.Model.{Node, MessageView, own, with_node, open_node, with_message_view, remove_message, without_message_view, find_message, missing_message, bare_node, anew_node, checkpointed_nodes, sign_ledger, status_of, view_node, view_message, view}
use Rattle.session.proofs.Relation.{fresh_ledger}

-- ---- equal by their values

pub node-same : {x z : Node} → x.status ≡ z.status → ((u : ℕ) → x.state u ≡ z.state u) → ((u : ℕ) → x.creation u ≡ z.creation u)
    → ((u : ℕ) → x.behaviour u ≡ z.behaviour u) → x ≡ z
node-same e f g h = λ i. record { status = e i; state = λ u. f u i; creation = λ u. g u i; behaviour = λ u. h u i }

-- ---- one take

pub view-bare : (y : Layout) (n : ℕ) → view_node (bare y n) ≡ bare_node (status_of n)
view-bare y n = node-same refl none-at none-at none-at
  where
    none-at : (u : ℕ) → map_view (state.bare y n).state u ≡ none
    none-at = view-empty y.places y.transactors

-- past the end of the takes
pub view-no-map : (u : ℕ) → map_view no_map u ≡ none
unfolding map_view
view-no-map u = refl

pub view-no-transactor : view_node no_transactor ≡ bare_node unused
unfolding status_of
view-no-transactor = node-same refl view-no-map view-no-map view-no-map

-- a take with its own mark alone
pub view-anew : (y : Layout) (t v w : ℕ) (h : History) → t < y.transactors
    → view_node (record { status = number.idle; value = v; saved = w; state = rules.only y t h; creation = rules.no_dependences y; behaviour = rules.no_dependences y }) ≡ anew_node t (view_of h)
unfolding status_of
view-anew y t v w h below = node-same refl
    (view-singleton y.places y.transactors t h below) (view-empty y.places y.transactors) (view-empty y.places y.transactors)

-- ---- all takes

module _ (s : State) (t : ℕ) (x : Transactor) (below : t < length s.transactors) where
  nodes-with : (u : ℕ) → view_node (get_or (set s.transactors t x) u no_transactor) ≡ updated (λ v. view_node (get_or s.transactors v no_transactor)) t (view_node x) u
  nodes-with = updated-is (λ v. view_node (get_or s.transactors v no_transactor)) t (view_node x) (λ v. view_node (get_or (set s.transactors t x) v no_transactor))
      (ap view_node (get_or-set_same s.transactors t x no_transactor below))
      (λ u k. ap view_node (get_or-set_other s.transactors t u x no_transactor (λ e. k (sym e))))

  pub view-with_transactor : view (with_transactor s t x) ≡ with_node (view s) t (view_node x)
  unfolding view with_transactor transactor_at
  view-with_transactor = λ i. record { limits = s.limits; opened = s.opened; next = s.next; nodes = λ u. nodes-with u i; messages = map view_message s.messages }

pub view-opened : (s : State) (x : Transactor) → s.opened < length s.transactors → view (opened s x) ≡ open_node (view s) (view_node x)
unfolding opened view with_opened with_transactor transactor_at
view-opened s x below = λ i. record { limits = s.limits; opened = s.opened + 1; next = s.next; nodes = λ u. nodes-with s s.opened x below u i; messages = map view_message s.messages }

pub view-fresh : (y : Layout) (m : Limits) → view (fresh y m) ≡ fresh_ledger m
unfolding view fresh transactor_at status_of
view-fresh y m = λ i. record { limits = m; opened = 0; next = 0; nodes = λ t. each t i; messages = [] }
  where
    each : (t : ℕ) → view_node (get_or (replicate y.transactors (bare y number.unused)) t no_transactor) ≡ bare_node unused
    each t = ⊎_elim
        (λ (h : t < y.transactors). ap view_node (get_or-replicate y.transactors t (bare y number.unused) no_transactor h) ∙ view-bare y number.unused)
        (λ (h : y.transactors ≤ t). ap view_node (get_or-eq_default (replicate y.transactors (bare y number.unused)) no_transactor {n = t} (rw length-replicate h)) ∙ view-no-transactor)
        (sides t y.transactors)

-- ---- own marks

-- an absent mark reads as the opening one, in a map and in its view
pub view-own : {w l n : ℕ} {m : DependenceMap} → MapOk w l n m → (t : ℕ) → Option.get_or (map_view m t) initial_view ≡ view_of (history_at m t)
unfolding map_view
view-own {w} {l} {n} {m} ok t = ⊎_elim
    (λ h. entry (ok.each t h))
    (λ (h : n ≤ t).
    ap (λ (c : Option HistoryView). Option.get_or c initial_view) (view-past (within-ok ok) t h)
    ∙ sym (ap view_of (get_or-eq_default m.histories outside {n = t} (omega (arith, ok.histories)))))
    (sides t n)
  where
    entry : {p : Bool} {h : History} → EntryOk w l p h → Option.get_or (pick p (some (view_of h)) none) initial_view ≡ view_of h
    entry (present r k) = refl
    entry absent = refl

module _ {y : Layout} {s : State} (well : WellFormed y s) where
  -- past the last take
  pub no-transactor : (t : ℕ) → y.transactors ≤ t → transactor_at s t ≡ no_transactor
  unfolding transactor_at
  no-transactor t h = get_or-eq_default s.transactors no_transactor {n = t} (omega (arith, well.packable.many))

  -- what holds of each take, and past the last one
  pub at-transactor : (P : ℕ → Transactor → Type 0) → ((t : ℕ) → t < y.transactors → P t (transactor_at s t)) → ((t : ℕ) → P t no_transactor) → (t : ℕ) → P t (transactor_at s t)
  at-transactor P f g t = ⊎_elim (f t) (λ (h : y.transactors ≤ t). subst (P t) (sym (no-transactor t h)) (g t)) (sides t y.transactors)

  pub own_view : (t : ℕ) → own t (view_node (transactor_at s t)) ≡ view_of (own_history t (transactor_at s t))
  own_view = at-transactor (λ t x. own t (view_node x) ≡ view_of (own_history t x))
      (λ t h. view-own (well.packable.transactors t h).state t)
      (λ t. ap (λ (c : Option HistoryView). Option.get_or c initial_view) (view-no-map t))

  pub own-roomy : (t : ℕ) → t < y.transactors → Roomy y.places (own_history t (transactor_at s t))
  own-roomy t h = roomy-entry ((well.packable.transactors t h).state.each t h)

-- ---- parcels

pub view-with_message : (s : State) (to v : ℕ) (m : DependenceMap) → view (with_message s to v m) ≡ with_message_view (view s) to (map_view m)
unfolding view with_message transactor_at
view-with_message s to v m = λ i. record {
  limits = s.limits;
  opened = s.opened;
  next = s.next + 1;
  nodes = λ t. view_node (get_or s.transactors t no_transactor);
  messages = map-append view_message s.messages (record { addressee = to; number = s.next; value = v; dependences = m } ∷ []) i;
}

-- the place of the first parcel with number p, or how many there are
unfoldable pub place_in : ℕ → List Message → ℕ
place_in p [] = 0
place_in p (m ∷ ms) = pick (eqb m.number p) 0 (suc (place_in p ms))

place-from : (p : ℕ) (f : ℕ → Bool) (ms : List Message) (k : ℕ) → ((j : ℕ) → f (k + j) ≡ eqb (get_or ms j no_message).number p) → place_from f k (length ms) ≡ k + place_in p ms
unfolding place_from place_in
place-from p f [] k h = omega arith
place-from p f (m ∷ ms) k h = go (eqb m.number p) (subst (λ (n : ℕ). f n ≡ eqb m.number p) {x = k + 0} (omega arith) (h 0)) (place-from p f ms (suc k) (λ j. subst (λ (n : ℕ). f n ≡ eqb (get_or ms j no_message).number p) {x = k + suc j} (omega arith) (h (suc j))))
  where
    go : (t : Bool) → f k ≡ t → place_from f (suc k) (length ms) ≡ suc k + place_in p ms → pick (f k) k (place_from f (suc k) (length ms)) ≡ k + pick t 0 (suc (place_in p ms))
    go true e ih = rw e (omega arith)
    go false e ih = rw e (omega arith)

pub place-in : (s : State) (p : ℕ) → place_of s p ≡ place_in p s.messages
unfolding place_of numbered message_at
place-in s p = place-from p (λ k. eqb (get_or s.messages k no_message).number p) s.messages 0 (λ j. ap (λ (k : ℕ). eqb (get_or s.messages k no_message).number p) {x = 0 + j} (omega arith)) ∙ omega arith

module _ (p : ℕ) where
  find-in : (ms : List Message) → find_message p (map view_message ms) ≡ view_message (get_or ms (place_in p ms) no_message)
  unfolding find_message place_in
  find-in [] = λ i. record { number = 0; addressee = 0; dependences = λ u. sym (view-no-map u) i }
  find-in (m ∷ ms) = go (eqb m.number p) (find-in ms)
    where
      go : (t : Bool) → find_message p (map view_message ms) ≡ view_message (get_or ms (place_in p ms) no_message)
          → pick t (view_message m) (find_message p (map view_message ms)) ≡ view_message (get_or (m ∷ ms) (pick t 0 (suc (place_in p ms))) no_message)
      go true ih = refl
      go false ih = ih

  missing-in : (ms : List Message) → missing_message p (map view_message ms) ≡ leb (length ms) (place_in p ms)
  unfolding missing_message place_in
  missing-in [] = refl
  missing-in (m ∷ ms) = go (eqb m.number p) (missing-in ms)
    where
      go : (t : Bool) → missing_message p (map view_message ms) ≡ leb (length ms) (place_in p ms)
          → pick t false (missing_message p (map view_message ms)) ≡ leb (suc (length ms)) (pick t 0 (suc (place_in p ms)))
      go true ih = sym (lt-leb (suc (length ms)) 0 (omega arith))
      go false ih = ih ∙ sym (leb-suc-suc (length ms) (place_in p ms))

  remove-in : (ms : List Message) → map view_message (take (place_in p ms) ms ++ drop (place_in p ms + 1) ms) ≡ remove_message p (map view_message ms)
  unfolding remove_message place_in
  remove-in [] = refl
  remove-in (m ∷ ms) = go (eqb m.number p) (remove-in ms)
    where
      go : (t : Bool) → map view_message (take (place_in p ms) ms ++ drop (place_in p ms + 1) ms) ≡ remove_message p (map view_message ms)
          → map view_message (take (pick t 0 (suc (place_in p ms))) (m ∷ ms) ++ drop (pick t 0 (suc (place_in p ms)) + 1) (m ∷ ms)) ≡ pick t (map view_message ms) (view_message m ∷ remove_message p (map view_message ms))
      go true ih = refl
      go false ih =
          let e : suc (place_in p ms) + 1 ≡ suc (place_in p ms + 1) = omega arith in
          ap (λ (n : ℕ). view_message m ∷ map view_message (take (place_in p ms) ms ++ drop n (m ∷ ms))) e
          ∙ ap (λ (l : List MessageView). view_message m ∷ l) ih

module _ (s : State) (p : ℕ) where
  pub view-find : find_message p (view s).messages ≡ view_message (message_at s (place_of s p))
  unfolding view message_at
  view-find = rw place-in (find-in p s.messages)

  pub view-missing : missing_message p (view s).messages ≡ leb (length s.messages) (place_of s p)
  unfolding view
  view-missing = rw place-in (missing-in p s.messages)

  pub view-without_message : view (without_message s (place_of s p)) ≡ without_message_view (view s) p
  unfolding view without_message transactor_at
  view-without_message = rw place-in (λ i. record { limits = s.limits; opened = s.opened; next = s.next; nodes = λ t. view_node (get_or s.transactors t no_transactor); messages = remove-in p s.messages i })

-- ---- sign

module _ {y : Layout} {s : State} (well : WellFormed y s) (g : ℕ) where
  module _ (bounded : (t : ℕ) → named g t ≡ true → t < y.transactors)
      (room : (t : ℕ) → named g t ≡ true → (own_history t (transactor_at s t)).count < y.places) where
    pub view-checkpoint_by : (t : ℕ) → named g t ≡ true
        → view_node (checkpoint_by y t (transactor_at s t)) ≡ anew_node t (checkpointed_view (own t (view_node (transactor_at s t))))
    unfolding checkpoint_by
    view-checkpoint_by t e =
        let below : t < y.transactors = bounded t e in
        let x : Transactor = transactor_at s t in
        view-anew y t x.value x.value (checkpointed (own_history t x)) below
        ∙ ap (anew_node t) (view-checkpointed (own-roomy well t below) (room t e))
        ∙ ap (λ (m : HistoryView). anew_node t (checkpointed_view m)) (sym (own_view well t))

    checkpointed-at : (t : ℕ) → view_node (get_or (tabulate y.transactors (checkpoint_at y s g)) t no_transactor) ≡ checkpointed_nodes (named g) (λ u. view_node (transactor_at s u)) t
    unfolding checkpointed_nodes checkpoint_at
    checkpointed-at t = ⊎_elim
        (λ (h : t < y.transactors). ap view_node (get_d_tabulate (checkpoint_at y s g) y.transactors t no_transactor h) ∙ within (named g t) refl)
        (λ (h : y.transactors ≤ t).
        ap view_node (get_or-eq_default (tabulate y.transactors (checkpoint_at y s g)) no_transactor {n = t} (rw length-tabulate h))
        ∙ past h (named g t) refl)
        (sides t y.transactors)
      where
        renewed-node : Node
        renewed-node = anew_node t (checkpointed_view (own t (view_node (transactor_at s t))))

        within : (c : Bool) → named g t ≡ c → view_node (pick c (checkpoint_by y t (transactor_at s t)) (transactor_at s t)) ≡ pick c renewed-node (view_node (transactor_at s t))
        within true e = view-checkpoint_by t e
        within false e = refl

        past : y.transactors ≤ t → (c : Bool) → named g t ≡ c → view_node no_transactor ≡ pick c renewed-node (view_node (transactor_at s t))
        past h true e = absurd (omega (arith, bounded t e))
        past h false e = ap view_node (sym (no-transactor well t h))

    pub view-checkpoint_group : view (checkpoint_group y s g) ≡ sign_ledger (view s) (named g)
    unfolding view checkpoint_group transactor_at
    view-checkpoint_group = λ i. record { limits = s.limits; opened = s.opened; next = s.next; nodes = λ t. checkpointed-at t i; messages = map view_message s.messages }
