-- What the form says of one transactor, as facts on its bytes.
use Prim.Native.Nat.{ℕ, zero, suc, ◌%◌, ◌≤◌, ◌<◌}
use mathlib.Core.Bool.{Bool, true, false, not}
use mathlib.Core.Path.{◌≡◌, refl, sym, subst}
use mathlib.Core.List.{List}
use mathlib.Core.Logic.{◌⊎◌, inl, inr, ⊎_elim}
use native.Mathlib.Omega.{arith}
use lib.Dec.{eqb, ltb}
use borrow.Author.Tests.{eqb-true, eqb-false, eq-eqb, ne_eqb, lt-ltb, le-ltb, ltb-false, not-true}
use lib.ListN.{length, get_or, drop}
use Rattle.octets.specs.Bytes.{◌or◌, part, zeros, all_zero, Octets}
use Rattle.octets.proofs.Put.{octet}
use Rattle.octets.proofs.Chunks.{sides}
use Rattle.octets.proofs.Zero.{both, all_zero-at, all_zero-drop, all_zero-past}
use Rattle.maps.specs.Map.{held_at}
use Rattle.maps.specs.Packed.{formed_map}
use Rattle.maps.proofs.Packed.{formed-zero_map}
use Rattle.rules.specs.Layout.{Layout, map_bytes, state_at, creation_at, behaviour_at, transactor_bytes, transactor_address}
use Rattle.rules.specs.Status.{unused, idle, busy, annihilated}
use Rattle.rules.specs.State.{Transactor, State, transactor_at, own_history, live}
use Rattle.rules.specs.Pack.{transactor_part, unpack}
use Rattle.rules.specs.Form.{map_formed, transactor_zeros, status_right, own_held, saved_right, idle_right, annihilated_right}
use Rattle.rules.specs.Internal.Well.{Live, is-idle, is-busy}
use Rattle.octets.proofs.Tests.{implied, implying, otherwise, unless}
use Rattle.rules.proofs.Pack.Loads.{first-transactor, read-status}

-- ---- each clause at t, as a fact

pub live-low : {n : ℕ} → Live n → 1 ≤ n
live-low is-idle = omega arith
live-low is-busy = omega arith

pub live-high : {n : ℕ} → Live n → n ≤ 2
live-high is-idle = omega arith
live-high is-busy = omega arith

pub live-true : {n : ℕ} → Live n → eqb n idle or eqb n busy ≡ true
live-true is-idle = refl
live-true is-busy = refl

live_of : (n : ℕ) → eqb n idle or eqb n busy ≡ true → Live n
live_of n e = go (eqb n idle) refl
  where
    go : (a : Bool) → eqb n idle ≡ a → Live n
    go true p = subst Live (sym (eqb-true n idle p)) is-idle
    go false p = subst Live (sym (eqb-true n busy (otherwise (eqb n idle) (eqb n busy) e p))) is-busy

-- what a status can be
pub statuses : (n : ℕ) → n < 4 → (n ≡ unused) ⊎ ((n ≡ annihilated) ⊎ Live n)
statuses zero h = inl refl
statuses (suc zero) h = inr (inr is-idle)
statuses (suc (suc zero)) h = inr (inr is-busy)
statuses (suc (suc (suc zero))) h = inr (inl refl)
statuses (suc (suc (suc (suc n)))) h = absurd (omega arith)

pub record ZerosForm (y : Layout) (s : State) (t : ℕ) (b : List ℕ) : Type 0 where
  pub head : get_or b 0 0 % 64 ≡ 0
  pub state : map_formed y s state_at b ≡ true
  pub creation : map_formed y s (creation_at y) b ≡ true
  pub behaviour : map_formed y s (behaviour_at y) b ≡ true
  pub rest : s.opened ≤ t → all_zero b ≡ true

module _ (y : Layout) (img : List ℕ) (t : ℕ) where
  zeros-say : transactor_zeros y img t ≡ true → ZerosForm y (unpack y img) t (transactor_part y img t)
  unfolding transactor_zeros
  zeros-say e =
      let head = both (eqb (get_or (transactor_part y img t) 0 0 % 64) 0) _ e in
      let state = both (map_formed y (unpack y img) state_at (transactor_part y img t)) _ head.1 in
      let creation = both (map_formed y (unpack y img) (creation_at y) (transactor_part y img t)) _ state.1 in
      let behaviour = both (map_formed y (unpack y img) (behaviour_at y) (transactor_part y img t)) _ creation.1 in
      record {
        head = eqb-true (get_or (transactor_part y img t) 0 0 % 64) 0 head.0;
        state = state.0;
        creation = creation.0;
        behaviour = behaviour.0;
        rest = λ h. otherwise (ltb t (unpack y img).opened) (all_zero (transactor_part y img t)) behaviour.1 (le-ltb t (unpack y img).opened h);
      }

  zeros-hold : ZerosForm y (unpack y img) t (transactor_part y img t) → transactor_zeros y img t ≡ true
  unfolding transactor_zeros
  zeros-hold z = rw (eq-eqb (get_or (transactor_part y img t) 0 0 % 64) 0 z.head, z.state, z.creation, z.behaviour)
      (unless (ltb t (unpack y img).opened) (all_zero (transactor_part y img t)) (λ e. z.rest (ltb-false t (unpack y img).opened e)))

  idle-says : idle_right y img t ≡ true → (transactor_at (unpack y img) t).status ≡ idle → all_zero (part (behaviour_at y) (map_bytes y) (transactor_part y img t)) ≡ true
  unfolding idle_right
  idle-says e h = implied (eqb (transactor_at (unpack y img) t).status idle) _ e (eq-eqb (transactor_at (unpack y img) t).status idle h)

  idle-holds : ((transactor_at (unpack y img) t).status ≡ idle → all_zero (part (behaviour_at y) (map_bytes y) (transactor_part y img t)) ≡ true) → idle_right y img t ≡ true
  unfolding idle_right
  idle-holds f = implying (eqb (transactor_at (unpack y img) t).status idle) _ (λ e. f (eqb-true (transactor_at (unpack y img) t).status idle e))

  vanished-says : annihilated_right y img t ≡ true → (transactor_at (unpack y img) t).status ≡ annihilated → all_zero (drop 1 (transactor_part y img t)) ≡ true
  unfolding annihilated_right
  vanished-says e h = implied (eqb (transactor_at (unpack y img) t).status annihilated) _ e (eq-eqb (transactor_at (unpack y img) t).status annihilated h)

  vanished-holds : ((transactor_at (unpack y img) t).status ≡ annihilated → all_zero (drop 1 (transactor_part y img t)) ≡ true) → annihilated_right y img t ≡ true
  unfolding annihilated_right
  vanished-holds f = implying (eqb (transactor_at (unpack y img) t).status annihilated) _ (λ e. f (eqb-true (transactor_at (unpack y img) t).status annihilated e))

module _ (s : State) (t : ℕ) where
  status-says : status_right s t ≡ true → t < s.opened → (transactor_at s t).status ≡ unused → ⊥
  unfolding status_right
  status-says e h u =
      let f : not (eqb (transactor_at s t).status unused) ≡ true = rw (lt-ltb t s.opened h) at e in
      eqb-false (transactor_at s t).status unused (not-true (eqb (transactor_at s t).status unused) f) u

  status-used : t < s.opened → ((transactor_at s t).status ≡ unused → ⊥) → status_right s t ≡ true
  unfolding status_right
  status-used h u = rw (lt-ltb t s.opened h, ne_eqb (transactor_at s t).status unused u)

  status-unused : s.opened ≤ t → (transactor_at s t).status ≡ unused → status_right s t ≡ true
  unfolding status_right
  status-unused h u = rw (le-ltb t s.opened h, eq-eqb (transactor_at s t).status unused u)

  own-says : own_held s t ≡ true → Live (transactor_at s t).status → held_at (transactor_at s t).state t ≡ true
  unfolding own_held
  own-says e l = implied (live (transactor_at s t)) _ e (live-true l)

  own-holds : (Live (transactor_at s t).status → held_at (transactor_at s t).state t ≡ true) → own_held s t ≡ true
  unfolding own_held
  own-holds f = implying (live (transactor_at s t)) _ (λ e. f (live_of (transactor_at s t).status e))

  saved-says : saved_right s t ≡ true → Live (transactor_at s t).status → (own_history t (transactor_at s t)).count ≡ 0 → (transactor_at s t).saved ≡ 0
  unfolding saved_right
  saved-says e l z = eqb-true (transactor_at s t).saved 0
      (implied (eqb (own_history t (transactor_at s t)).count 0) _ (implied (live (transactor_at s t)) _ e (live-true l)) (eq-eqb (own_history t (transactor_at s t)).count 0 z))

  saved-holds : (Live (transactor_at s t).status → (own_history t (transactor_at s t)).count ≡ 0 → (transactor_at s t).saved ≡ 0) → saved_right s t ≡ true
  unfolding saved_right
  saved-holds f = implying (live (transactor_at s t)) _ (λ e. implying (eqb (own_history t (transactor_at s t)).count 0) _
      (λ z. eq-eqb (transactor_at s t).saved 0 (f (live_of (transactor_at s t).status e) (eqb-true (own_history t (transactor_at s t)).count 0 z))))

-- ---- what they say together

pub record AliveForm (y : Layout) (s : State) (t : ℕ) (b : List ℕ) (x : Transactor) : Type 0 where
  pub head : get_or b 0 0 % 64 ≡ 0
  pub status : Live x.status
  pub state : map_formed y s state_at b ≡ true
  pub creation : map_formed y s (creation_at y) b ≡ true
  pub behaviour : map_formed y s (behaviour_at y) b ≡ true
  pub own : held_at x.state t ≡ true
  pub saved : (own_history t x).count ≡ 0 → x.saved ≡ 0
  pub behaves : x.status ≡ idle → all_zero (part (behaviour_at y) (map_bytes y) b) ≡ true

-- transactor t, which is x, in the bytes b
pub data TransactorForm (y : Layout) (s : State) (t : ℕ) (b : List ℕ) (x : Transactor) : Type 0 where
  unopened : s.opened ≤ t → x.status ≡ unused → all_zero b ≡ true → TransactorForm y s t b x
  vanished : t < s.opened → x.status ≡ annihilated → get_or b 0 0 % 64 ≡ 0 → all_zero (drop 1 b) ≡ true → TransactorForm y s t b x
  living : t < s.opened → AliveForm y s t b x → TransactorForm y s t b x

abbrev pub TransactorFormAt : Layout → List ℕ → ℕ → Type 0
TransactorFormAt y img t = TransactorForm y (unpack y img) t (transactor_part y img t) (transactor_at (unpack y img) t)

-- a map of zeros is well-formed
pub map_formed-zeros : (y : Layout) (s : State) (at : ℕ) (b : List ℕ) → part at (map_bytes y) b ≡ zeros (map_bytes y) → map_formed y s at b ≡ true
unfolding map_formed
map_formed-zeros y s at b e = subst (λ (z : List ℕ). formed_map y.width y.places y.transactors s.limits.checkpoints s.opened z ≡ true) (sym e)
    (formed-zero_map y.width y.places y.transactors s.limits.checkpoints s.opened)

-- nothing but a first byte
bare-zeros : (y : Layout) (s : State) (t : ℕ) (b : List ℕ) → length b ≡ transactor_bytes y → get_or b 0 0 % 64 ≡ 0 → all_zero (drop 1 b) ≡ true → (s.opened ≤ t → all_zero b ≡ true)
    → ZerosForm y s t b
bare-zeros y s t b n d e r = record {
  head = d;
  state = map_formed-zeros y s state_at b (all_zero-past state_at (map_bytes y) b (omega arith) 1 (omega arith) e);
  creation = map_formed-zeros y s (creation_at y) b (all_zero-past (creation_at y) (map_bytes y) b (omega arith) 1 (omega arith) e);
  behaviour = map_formed-zeros y s (behaviour_at y) b (all_zero-past (behaviour_at y) (map_bytes y) b (omega arith) 1 (omega arith) e);
  rest = r;
}

pub zeros-form : {y : Layout} {s : State} {t : ℕ} {b : List ℕ} {x : Transactor} → length b ≡ transactor_bytes y → TransactorForm y s t b x → ZerosForm y s t b
zeros-form {y} {s} {t} {b} n (unopened p u e) = bare-zeros y s t b n (omega (arith, all_zero-at b 0 e)) (all_zero-drop 1 b e) (λ h. e)
zeros-form {y} {s} {t} {b} n (vanished p u d e) = bare-zeros y s t b n d e (λ h. absurd (omega arith))
zeros-form n (living p a) = record { head = a.head; state = a.state; creation = a.creation; behaviour = a.behaviour; rest = λ h. absurd (omega arith) }

-- the six clauses at t
pub record TransactorClauses (y : Layout) (img : List ℕ) (t : ℕ) : Type 0 where
  pub zeros : transactor_zeros y img t ≡ true
  pub status : status_right (unpack y img) t ≡ true
  pub own : own_held (unpack y img) t ≡ true
  pub saved : saved_right (unpack y img) t ≡ true
  pub idle : idle_right y img t ≡ true
  pub vanished : annihilated_right y img t ≡ true

module _ (y : Layout) (img : List ℕ) (t : ℕ) where
  pub transactor-form : Octets img → t < y.transactors → TransactorClauses y img t → TransactorFormAt y img t
  transactor-form o below c = ⊎_elim
      used
      (λ (p : (unpack y img).opened ≤ t). unopened p (omega (arith, read-status y img t below, first-transactor y img t, all_zero-at (transactor_part y img t) 0 (z.rest p))) (z.rest p))
      (sides t (unpack y img).opened)
    where
      z : ZerosForm y (unpack y img) t (transactor_part y img t)
      z = zeros-say y img t c.zeros

      lives : t < (unpack y img).opened → Live (transactor_at (unpack y img) t).status → TransactorFormAt y img t
      lives p l = living p (record {
        head = z.head;
        status = l;
        state = z.state;
        creation = z.creation;
        behaviour = z.behaviour;
        own = own-says (unpack y img) t c.own l;
        saved = saved-says (unpack y img) t c.saved l;
        behaves = idle-says y img t c.idle;
      })

      used : t < (unpack y img).opened → TransactorFormAt y img t
      used p = ⊎_elim
          (λ u. absurd (status-says (unpack y img) t c.status p u))
          (⊎_elim (λ u. vanished p u z.head (vanished-says y img t c.vanished u)) (lives p))
          (statuses (transactor_at (unpack y img) t).status (omega (arith, read-status y img t below, octet img o (transactor_address y t))))

  pub transactor-clauses : length (transactor_part y img t) ≡ transactor_bytes y → TransactorFormAt y img t → TransactorClauses y img t
  transactor-clauses n f = go f (zeros-hold y img t (zeros-form n f))
    where
      go : TransactorFormAt y img t → transactor_zeros y img t ≡ true → TransactorClauses y img t
      go (unopened p u e) z = record {
        zeros = z;
        status = status-unused (unpack y img) t p u;
        own = own-holds (unpack y img) t (λ l. absurd (omega (arith, live-low l)));
        saved = saved-holds (unpack y img) t (λ l c. omega (arith, live-low l));
        idle = idle-holds y img t (λ h. absurd (omega arith));
        vanished = vanished-holds y img t (λ h. absurd (omega arith));
      }
      go (vanished p u d e) z = record {
        zeros = z;
        status = status-used (unpack y img) t p (λ h. omega arith);
        own = own-holds (unpack y img) t (λ l. absurd (omega (arith, live-high l)));
        saved = saved-holds (unpack y img) t (λ l c. omega (arith, live-high l));
        idle = idle-holds y img t (λ h. absurd (omega arith));
        vanished = vanished-holds y img t (λ h. e);
      }
      go (living p a) z = record {
        zeros = z;
        status = status-used (unpack y img) t p (λ h. omega (arith, live-low a.status));
        own = own-holds (unpack y img) t (λ l. a.own);
        saved = saved-holds (unpack y img) t (λ l. a.saved);
        idle = idle-holds y img t a.behaves;
        vanished = vanished-holds y img t (λ h. absurd (omega (arith, live-high a.status)));
      }
