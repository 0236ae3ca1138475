-- A step that is not refused, taken in two states that are the same but for some behaviour maps.
use Prim.Native.Nat.{ℕ, ◌+◌, ◌≤◌}
use mathlib.Core.Bool.{Bool, true, false, not}
use mathlib.Core.Path.{◌≡◌, refl, sym, ap, subst, ◌∙◌}
use native.Mathlib.Decide.{ℕ_discrete}
use native.Mathlib.Omega.{arith}
use lib.Dec.{eqb}
use borrow.Author.Tests.{ne_eqb}
use Rattle.octets.specs.Bytes.{pick, ◌and◌, ◌or◌}
use Rattle.octets.proofs.Tests.{never}
use Rattle.octets.proofs.Zero.{every-same}
use Rattle.marks.specs.declared.History.{History}
use Rattle.marks.specs.Incarnation.{checkpointed_in, same_incarnation}
use Rattle.marks.specs.History.{incarnation_of, initial_history}
use Rattle.maps.specs.declared.DependenceMap.{DependenceMap}
use Rattle.rules.specs.Layout.{Layout}
use Rattle.rules.specs.Status.{idle, busy}
use Rattle.rules.specs.State.{Transactor, Message, State, transactor_at, message_at, own_history, live, with_behaviour, with_transactor, with_message, numbered, place_of}
use Rattle.rules.specs.declared.Step.{Step}
use Rattle.rules.specs.Step.{done, held, not_ready, finish, fall, fail, sign}
use Rattle.rules.specs.Refusals.{named}
use Rattle.rules.specs.Rules.{Effect, Result, join, only, no_dependences, carried, rollback, finish_by, fall_by, fail_by, local_by, receive_by, entry_ready, map_ready, transactor_ready, group_ready, checkpoint_by, checkpoint_at, checkpoint_group, answer, opening, opened, apply_root, apply_letter, apply_receive, apply_new, apply_send, apply_local, apply_lose, apply_sign}
use Rattle.thin.specs.Thin.{empties}
use Rattle.thin.proofs.Alike.{Alike, same, differing, alike-on, alike-idle, alike-wide, Related, related, with_transactors, related-wide, related-at, related-set, related-opened, related-message, related-without, related-table}

pub record Beside (d : ℕ → Bool) (r r' : Result) : Type 0 where
  pub reply : r.reply ≡ r'.reply
  pub state : Related d r.state r'.state

alike_is : (d : Bool) {x z : Transactor} → x ≡ z → Alike d x z
alike_is d {x} e = subst (λ (z : Transactor). Alike d x z) e same

-- d' may differ from d at a take that is the same in both
reset : {d : ℕ → Bool} {a b : State} → Related d a b → (d' : ℕ → Bool) (t : ℕ) → ((u : ℕ) → (u ≡ t → ⊥) → d u ≡ d' u) → transactor_at a t ≡ transactor_at b t → Related d' a b
unfolding transactor_at
reset {d} {a} (related {l} many each) d' t h e = related many (λ u. go u (ℕ_discrete u t))
  where
    go : (u : ℕ) → Dec (u ≡ t) → Alike (d' u) (transactor_at a u) (transactor_at (with_transactors a l) u)
    go u (no n) = alike-wide (each u) (d' u) (h u n)
    go u (yes f) = alike_is (d' u) (ap (transactor_at a) f ∙ e ∙ ap (transactor_at (with_transactors a l)) (sym f))

-- ---- kind by kind

module _ (y : Layout) {d : ℕ → Bool} where
  pub beside-root : {a b : State} → Related d a b → (p : Step) → Beside d (apply_root y a p) (apply_root y b p)
  unfolding apply_root opened
  beside-root {a} (related many each) p = record {
    reply = refl;
    state = related-opened (related-set (related many each) d a.opened _ _ (λ u n. refl) same) (a.opened + 1);
  }

  pub beside-letter : {a b : State} → Related d a b → (p : Step) → Beside d (apply_letter y a p) (apply_letter y b p)
  unfolding apply_letter
  beside-letter (related many each) p = record { reply = refl; state = related-message (related many each) p.transactor p.value (no_dependences y) }

  pub beside-lose : {a b : State} → Related d a b → (p : Step) → Beside d (apply_lose a p) (apply_lose b p)
  unfolding apply_lose place_of numbered message_at
  beside-lose {a} (related many each) p = record { reply = refl; state = related-without (related many each) (place_of a p.message) }

  pub beside-receive : {a b : State} → Related d a b → (p : Step) → (transactor_at a (message_at a (place_of a p.message)).addressee).status ≡ idle → Beside d (apply_receive y a p) (apply_receive y b p)
  unfolding apply_receive place_of numbered message_at
  beside-receive {a} (related {l} many each) p r =
      let k : ℕ = place_of a p.message in
      let q : Message = message_at a k in
      let t : ℕ = q.addressee in
      let e : transactor_at a t ≡ transactor_at (with_transactors a l) t = alike-idle (related-at (related many each) t) (λ (f : (transactor_at a t).status ≡ busy). omega arith) in
      record {
        reply = ap (λ (x : Transactor). answer (receive_by y t x q).outcome t p.message (receive_by y t x q).value) e;
        state = related-without (related-set (related many each) d t _ _ (λ u n. refl) (alike_is (d t) (ap (λ (x : Transactor). (receive_by y t x q).transactor) e))) k;
      }

-- the acting take is the same in both, or its behaviour map does not matter
module _ (y : Layout) {d : ℕ → Bool} (d' : ℕ → Bool) where
  pub beside-new : {a b : State} → Related d a b → (p : Step) → ((u : ℕ) → (u ≡ p.transactor → ⊥) → d u ≡ d' u) → transactor_at a p.transactor ≡ transactor_at b p.transactor
      → Beside d' (apply_new y a p) (apply_new y b p)
  unfolding apply_new opened with_transactor
  beside-new {a} (related {l} many each) p h e =
      let t : ℕ = p.transactor in
      record {
        reply = refl;
        state = related-opened
            (related-set
            (related-set (related {l = l} many each) d' t _ _ h (alike_is (d' t) (ap (λ (x : Transactor). with_behaviour x (join y (only y a.opened (initial_history y.places)) x.behaviour)) e)))
            d' a.opened _ _ (λ u n. refl) (alike_is (d' a.opened) (ap (λ (x : Transactor). opening y a.opened p.value (carried y t x)) e)))
            (a.opened + 1);
      }

  pub beside-send : {a b : State} → Related d a b → (p : Step) → ((u : ℕ) → (u ≡ p.transactor → ⊥) → d u ≡ d' u) → transactor_at a p.transactor ≡ transactor_at b p.transactor
      → Beside d' (apply_send y a p) (apply_send y b p)
  unfolding apply_send
  beside-send {a} (related {l} many each) p h e =
      let t : ℕ = p.transactor in
      record {
        reply = refl;
        state = subst (λ (x : Transactor). Related d' (with_message a p.other p.value (carried y t (transactor_at a t))) (with_message (with_transactors a l) p.other p.value (carried y t x))) e
            (related-message (reset (related many each) d' t h e) p.other p.value (carried y t (transactor_at a t)));
      }

  pub beside-local : {a b : State} → Related d a b → (p : Step) → ((u : ℕ) → (u ≡ p.transactor → ⊥) → d u ≡ d' u)
      → local_by y p.kind p.transactor p.value (transactor_at a p.transactor) ≡ local_by y p.kind p.transactor p.value (transactor_at b p.transactor)
      → Beside d' (apply_local y a p) (apply_local y b p)
  unfolding apply_local
  beside-local rel p h e = record {
    reply = ap (λ (f : Effect). answer f.outcome p.transactor 0 f.value) e;
    state = related-set rel d' p.transactor _ _ h (alike_is (d' p.transactor) (ap (λ (f : Effect). f.transactor) e));
  }

-- ---- signing looks at state and creation maps

module _ (y : Layout) {d : ℕ → Bool} {a b : State} (rel : Related d a b) (v : ℕ) where
  entry-same : (u : ℕ) (h : History) → entry_ready a v u h ≡ entry_ready b v u h
  unfolding entry_ready
  entry-same u h = alike-on (λ (x : Transactor). live x
      and (checkpointed_in (incarnation_of h) (incarnation_of (own_history u x))
      or (named v u and same_incarnation (incarnation_of h) (incarnation_of (own_history u x))))) (λ x n. refl) (related-at rel u)

  map_same : (m : DependenceMap) → map_ready y a v m ≡ map_ready y b v m
  unfolding map_ready
  map_same m = every-same _ _ y.transactors (λ u p. rw (entry-same u _))

  take_same : (t : ℕ) → transactor_ready y a v t ≡ transactor_ready y b v t
  unfolding transactor_ready
  take_same t =
      rw (map_same (transactor_at a t).state, map_same (transactor_at a t).creation)
      (alike-on (λ (x : Transactor). (own_history t x).stable and map_ready y b v x.state and map_ready y b v x.creation) (λ x n. refl) (related-at rel t))

  pub group-same : group_ready y a v ≡ group_ready y b v
  unfolding group_ready
  group-same = every-same _ _ y.transactors (λ t p. rw (take_same t))

  -- a named take is the same afterwards, any other as it was
  checkpointed-alike : (d' : ℕ → Bool) → ((t : ℕ) → named v t ≡ false → d t ≡ d' t) → (t : ℕ) → Alike (d' t) (checkpoint_at y a v t) (checkpoint_at y b v t)
  unfolding checkpoint_at checkpoint_by
  checkpointed-alike d' h t = go (named v t) refl
    where
      go : (c : Bool) → named v t ≡ c → Alike (d' t) (pick c (checkpoint_by y t (transactor_at a t)) (transactor_at a t)) (pick c (checkpoint_by y t (transactor_at b t)) (transactor_at b t))
      go true e = alike_is (d' t) (alike-on (checkpoint_by y t) (λ x n. refl) (related-at rel t))
      go false e = alike-wide (related-at rel t) (d' t) (h t e)

  pub checkpointed : (d' : ℕ → Bool) → ((t : ℕ) → named v t ≡ false → d t ≡ d' t) → Related d' (checkpoint_group y a v) (checkpoint_group y b v)
  unfolding checkpoint_group
  checkpointed d' h = related-table rel d' y.transactors (checkpoint_at y a v) (checkpoint_at y b v) (checkpointed-alike d' h)

pub beside-sign : (y : Layout) {d : ℕ → Bool} {a b : State} → Related d a b → (p : Step) (d' : ℕ → Bool)
    → (group_ready y a p.message ≡ true → (t : ℕ) → named p.message t ≡ false → d t ≡ d' t) → (group_ready y a p.message ≡ false → (t : ℕ) → d t ≡ d' t)
    → Beside d' (apply_sign y a p) (apply_sign y b p)
unfolding apply_sign
beside-sign y {d} {a} {b} rel p d' f g = rw (← group-same y rel p.message) (go (group_ready y a p.message) refl)
  where
    go : (c : Bool) → group_ready y a p.message ≡ c
        → Beside d' (pick c (record { reply = answer done 0 0 0; state = checkpoint_group y a p.message }) (record { reply = answer not_ready 0 0 0; state = a }))
        (pick c (record { reply = answer done 0 0 0; state = checkpoint_group y b p.message }) (record { reply = answer not_ready 0 0 0; state = b }))
    go true e = record { reply = refl; state = checkpointed y rel p.message d' (f e) }
    go false e = record { reply = refl; state = related-wide rel d' (g e) }

-- ---- what empties the behaviour map does not look at it

module _ (y : Layout) (t v : ℕ) (x : Transactor) (n : DependenceMap) where
  finish-same : local_by y finish t v x ≡ local_by y finish t v (with_behaviour x n)
  unfolding local_by finish_by
  finish-same = refl

  fall-same : local_by y fall t v x ≡ local_by y fall t v (with_behaviour x n)
  unfolding local_by fall_by rollback
  fall-same = refl

  fail-same : not (eqb (local_by y fail t v x).outcome held) ≡ true → local_by y fail t v x ≡ local_by y fail t v (with_behaviour x n)
  unfolding local_by fail_by rollback
  fail-same = go (own_history t x).stable
    where
      go : (c : Bool) → not (eqb (pick c (record { outcome = held; value = 0; transactor = x }) (rollback y t x)).outcome held) ≡ true
          → pick c (record { outcome = held; value = 0; transactor = x }) (rollback y t x) ≡ pick c (record { outcome = held; value = 0; transactor = with_behaviour x n }) (rollback y t (with_behaviour x n))
      go true e = never (sym e)
      go false e = refl

  emptied-same : (k : ℕ) → k ≤ fail → eqb k finish or eqb k fall or (eqb k fail and not (eqb (local_by y k t v x).outcome held)) or eqb k sign ≡ true
      → local_by y k t v x ≡ local_by y k t v (with_behaviour x n)
  emptied-same k h e = go (ℕ_discrete k finish) (ℕ_discrete k fall) (ℕ_discrete k fail)
    where
      go : Dec (k ≡ finish) → Dec (k ≡ fall) → Dec (k ≡ fail) → local_by y k t v x ≡ local_by y k t v (with_behaviour x n)
      go (yes f) g i = rw f finish-same
      go (no f) (yes g) i = rw g fall-same
      go (no f) (no g) (yes i) = rw i (fail-same (last (not (eqb (local_by y fail t v x).outcome held)) (rw i at e)))
        where
          last : (c : Bool) → c or false ≡ true → c ≡ true
          last true e = refl
          last false e = e
      go (no f) (no g) (no i) = never (sym (rw (ne_eqb k finish f, ne_eqb k fall g, ne_eqb k fail i, ne_eqb k sign (omega arith)) at e))

pub local_same : (y : Layout) (p : Step) (d : Bool) {x z : Transactor} (o : ℕ) → p.kind ≤ fail → Alike d x z
    → o ≡ (local_by y p.kind p.transactor p.value x).outcome → d ≡ empties p o
    → local_by y p.kind p.transactor p.value x ≡ local_by y p.kind p.transactor p.value z
unfolding empties
local_same y p d o h same e f = refl
local_same y p d o h (differing {x} b n) e f = emptied-same y p.transactor p.value x n p.kind h (sym (rw e at f))
