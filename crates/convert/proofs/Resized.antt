-- A well-formed state is well-formed in every layout that has room for its numbers and its limits.
use Prim.Native.Nat.{ℕ, ◌+◌, ◌≤◌, ◌<◌}
use mathlib.Core.Bool.{Bool, true, false}
use mathlib.Core.Path.{◌≡◌, sym, ◌∙◌}
use lib.ListN.{length}
use Rattle.octets.specs.Bytes.{every}
use Rattle.octets.specs.Numbers.{bound}
use Rattle.octets.proofs.Tests.{never}
use Rattle.octets.proofs.Zero.{both, every-all, every-at}
use Rattle.rules.specs.Layout.{Layout, Limits, widest, Fitting}
use Rattle.rules.specs.State.{Transactor, Message, State, transactor_at, message_at}
use Rattle.rules.specs.Internal.Well.{TransactorOk, MessageOk, LimitsOk, stored, counted, Allowed, TransactorFormed, not_opened, gone, alive, WellFormed}
use Rattle.maps.specs.Within.{map_within, LowMap}
use Rattle.maps.proofs.Within.{low-map, map-fits, map-low, low-map_within}
use Rattle.convert.specs.Convert.{LowTransactor, LowState, transactor_within, message_within, state_within}
use Rattle.recast.specs.Internal.Widths.{resized}
use Rattle.rules.proofs.Ranges.{allowed-ok}

-- limits that are not stored are the widest
pub counted-limits : (y : Layout) {m : Limits} → y.limited ≡ false → LimitsOk y m → m ≡ widest y
counted-limits y e (stored f a b c) = never (sym f ∙ e)
counted-limits y e (counted f q) = q

-- ---- what fits is low, also below a higher bound

module _ (v w : ℕ) (more : bound v ≤ bound w) where
  pub low-state : (y : Layout) (old : Bool) {s : State} → WellFormed (resized y v old) s → LowState (bound w) y.transactors s
  low-state y old f = record {
    transactors = λ t h. let o = f.packable.transactors t h in record { state = low-map v w more o.state; creation = low-map v w more o.creation; behaviour = low-map v w more o.behaviour };
    messages = λ k h. low-map v w more (f.packable.messages k h).dependences;
  }

-- ---- what is low fits

module _ (v w : ℕ) (old new : Bool) (y : Layout) where
  transactor-fits : {x : Transactor} → TransactorOk (resized y v old) x → LowTransactor (bound w) y.transactors x → TransactorOk (resized y w new) x
  transactor-fits o f = record {
    status = o.status;
    value = o.value;
    saved = o.saved;
    state = map-fits v w o.state f.state;
    creation = map-fits v w o.creation f.creation;
    behaviour = map-fits v w o.behaviour f.behaviour;
  }

  message-fits : {x : Message} → MessageOk (resized y v old) x → LowMap (bound w) y.transactors x.dependences → MessageOk (resized y w new) x
  message-fits o f = record { addressee = o.addressee; number = o.number; value = o.value; dependences = map-fits v w o.dependences f }

  -- the clauses do not speak of the width, nor of where the limits are
  formed-resized : {c opened t : ℕ} {x : Transactor} → TransactorFormed (resized y v old) c opened t x → TransactorFormed (resized y w new) c opened t x
  formed-resized (not_opened p) = not_opened p
  formed-resized (gone p) = gone p
  formed-resized (alive p a) = alive p (record {
    status = a.status;
    state = a.state;
    creation = a.creation;
    behaviour = a.behaviour;
    own = a.own;
    saved = a.saved;
    behaves = a.behaves;
  })

  pub state-resized : Fitting (resized y w new) → {s : State} → WellFormed (resized y v old) s → LowState (bound w) y.transactors s → Allowed (resized y w new) s.limits → WellFormed (resized y w new) s
  state-resized r f z l = record {
    packable = record {
      limits = allowed-ok r l;
      opened = f.packable.opened;
      next = f.packable.next;
      many = f.packable.many;
      few = f.packable.few;
      transactors = λ t h. transactor-fits (f.packable.transactors t h) (z.transactors t h);
      messages = λ k h. message-fits (f.packable.messages k h) (z.messages k h);
    };
    limits = l;
    opened = f.opened;
    waiting = f.waiting;
    transactors = λ t h. formed-resized (f.transactors t h);
    known = f.known;
    order = f.order;
    numbers = f.numbers;
    addressees = f.addressees;
  }

-- ---- the test says the same

module _ (n : ℕ) (y : Layout) where
  -- over the maps of any width v
  module _ (v : ℕ) (old : Bool) where
    pub state-low : {s : State} → WellFormed (resized y v old) s → state_within n y s ≡ true → LowState (n + 1) y.transactors s
    unfolding state_within transactor_within message_within
    state-low {s} f e =
        let z = both (every y.transactors (λ t. transactor_within n y (transactor_at s t))) _ e in
        record {
          transactors = λ t h.
              let x : Transactor = transactor_at s t in
              let o = f.packable.transactors t h in
              let a = both (map_within n y.places y.transactors x.state) _ (every-at (λ t. transactor_within n y (transactor_at s t)) y.transactors t z.0 h) in
              let b = both (map_within n y.places y.transactors x.creation) _ a.1 in
              record { state = map-low n y.places y.transactors o.state a.0; creation = map-low n y.places y.transactors o.creation b.0; behaviour = map-low n y.places y.transactors o.behaviour b.1 };
          messages = λ k h. map-low n y.places y.transactors (f.packable.messages k h).dependences (every-at (λ k. message_within n y (message_at s k)) (length s.messages) k z.1 h);
        }

  pub low-state_within : (s : State) → LowState (n + 1) y.transactors s → state_within n y s ≡ true
  unfolding state_within transactor_within message_within
  low-state_within s f =
      let one : (t : ℕ) → t < y.transactors → transactor_within n y (transactor_at s t) ≡ true = λ t h.
      rw (low-map_within n y.places y.transactors (transactor_at s t).state (f.transactors t h).state, low-map_within n y.places y.transactors (transactor_at s t).creation (f.transactors t h).creation)
      (low-map_within n y.places y.transactors (transactor_at s t).behaviour (f.transactors t h).behaviour) in
      let all : every y.transactors (λ t. transactor_within n y (transactor_at s t)) ≡ true = every-all (λ t. transactor_within n y (transactor_at s t)) y.transactors one in
      rw all (every-all (λ k. message_within n y (message_at s k)) (length s.messages) (λ k h. low-map_within n y.places y.transactors (message_at s k).dependences (f.messages k h)))
