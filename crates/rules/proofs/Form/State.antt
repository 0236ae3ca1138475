-- A well-formed image holds a well-formed state.
use Prim.Native.Nat.{ℕ, ◌+◌, ◌≤◌, ◌<◌}
use mathlib.Core.Bool.{Bool, true, false}
use mathlib.Core.Path.{◌≡◌, refl, sym, subst}
use mathlib.Core.List.{List}
use native.Mathlib.Omega.{arith}
use lib.ListN.{length, drop}
use Rattle.octets.specs.Bytes.{part, all_zero, zeros, Octets}
use Rattle.octets.specs.Numbers.{of_be, bound}
use Rattle.octets.proofs.Put.{length_part, octet, octets-part}
use Rattle.octets.proofs.Numbers.{of_be-bound, of_be-zeros}
use Rattle.octets.proofs.Zero.{all_zero-drop, all_zero-part, all_zero-past}
use Rattle.maps.proofs.Packed.{map_ok-unpack, known-unpack, bounded-formed, unpack-zeros}
use Rattle.rules.specs.Layout.{Layout, map_bytes, value_at, saved_at, state_at, creation_at, behaviour_at, dependences_at, transactor_bytes, message_bytes, image_bytes}
use Rattle.rules.specs.Status.{unused, annihilated}
use Rattle.rules.specs.State.{State, bare, transactor_at, message_at}
use Rattle.rules.specs.Pack.{unpack_dependences, unpack_transactor, unpack_message, unpack_transactor_at, unpack_message_at, transactor_part, message_part, waiting_in, unpack}
use Rattle.rules.specs.Form.{map_formed, well_formed}
use Rattle.rules.specs.Internal.Well.{DependencesOk, TransactorOk, MessageOk, LimitsOk, stored, counted, Allowed, Known, Alive, TransactorFormed, not_opened, gone, alive, WellFormed}
use Rattle.rules.proofs.Ranges.{allowed_of}
use Rattle.rules.proofs.Pack.Loads.{length-transactor_part, length-message_part, octets-transactor_part, octets-message_part, unpack-many, unpack-waiting, waiting_few, read-transactor, read-message, read_opened, read_next, read-limits, read-widest}
use Rattle.rules.proofs.Form.Transactor.{ZerosForm, TransactorForm, unopened, vanished, living, AliveForm, zeros-form}
use Rattle.rules.proofs.Form.Image.{ImageForm, form-image}

number : (w at : ℕ) (b : List ℕ) → Octets b → of_be w (part at w b) < bound w
number w at b o = of_be-bound w (part at w b) (octets-part at w b o)

-- ---- the bytes b of one transactor or message

module _ (y : Layout) (s : State) (b : List ℕ) where
  map-known : (at : ℕ) → map_formed y s at b ≡ true → Known s.limits.checkpoints s.opened (unpack_dependences y at b)
  unfolding map_formed
  map-known at f = record {
    unheld = known-unpack y.width y.places y.transactors s.limits.checkpoints s.opened (part at (map_bytes y) b) f;
    counts = bounded-formed y.width y.places y.transactors s.limits.checkpoints s.opened (part at (map_bytes y) b) f;
  }

  module _ (n : length b ≡ transactor_bytes y) where
    -- only a status
    bare-is : (st : ℕ) → (unpack_transactor y b).status ≡ st → all_zero (drop 1 b) ≡ true → unpack_transactor y b ≡ bare y st
    unfolding unpack_transactor
    bare-is st u e =
        let z : (at m : ℕ) → at + m ≤ length b → 1 ≤ at → part at m b ≡ zeros m = λ at m h p. all_zero-past at m b h 1 p e in
        rw (
          u,
          z value_at 4 (omega arith) (omega arith),
          z saved_at 4 (omega arith) (omega arith),
          z state_at (map_bytes y) (omega arith) (omega arith),
          z (creation_at y) (map_bytes y) (omega arith) (omega arith),
          z (behaviour_at y) (map_bytes y) (omega arith) (omega arith),
          of_be-zeros 4 4,
          unpack-zeros y.width y.places y.transactors,
        )

    alive-formed : (t : ℕ) → AliveForm y s t b (unpack_transactor y b) → Alive y s.limits.checkpoints s.opened t (unpack_transactor y b)
    unfolding unpack_transactor
    alive-formed t a = record {
      status = a.status;
      state = map-known state_at a.state;
      creation = map-known (creation_at y) a.creation;
      behaviour = map-known (behaviour_at y) a.behaviour;
      own = a.own;
      saved = a.saved;
      behaves = λ r. rw (all_zero-part (behaviour_at y) (map_bytes y) b (omega arith) (a.behaves r)) (unpack-zeros y.width y.places y.transactors);
    }

    transactor-formed : (t : ℕ) → TransactorForm y s t b (unpack_transactor y b) → TransactorFormed y s.limits.checkpoints s.opened t (unpack_transactor y b)
    transactor-formed t (unopened p u e) = subst (TransactorFormed y s.limits.checkpoints s.opened t) (sym (bare-is unused u (all_zero-drop 1 b e))) (not_opened p)
    transactor-formed t (vanished p u d e) = subst (TransactorFormed y s.limits.checkpoints s.opened t) (sym (bare-is annihilated u e)) (gone p)
    transactor-formed t (living p a) = alive p (alive-formed t a)

  module _ (o : Octets b) (fits : s.limits.checkpoints ≤ y.places) where
    map-ok : (at : ℕ) → at + map_bytes y ≤ length b → map_formed y s at b ≡ true → DependencesOk y (unpack_dependences y at b)
    unfolding map_formed
    map-ok at h f = map_ok-unpack y.width y.places y.transactors s.limits.checkpoints s.opened (part at (map_bytes y) b) (length_part at (map_bytes y) b h) (octets-part at (map_bytes y) b o) f fits

    transactor-ok : (t : ℕ) → length b ≡ transactor_bytes y → ZerosForm y s t b → TransactorOk y (unpack_transactor y b)
    unfolding unpack_transactor
    transactor-ok t n z = record {
      status = omega (arith, octet b o 0);
      value = number 4 value_at b o;
      saved = number 4 saved_at b o;
      state = map-ok state_at (omega arith) z.state;
      creation = map-ok (creation_at y) (omega arith) z.creation;
      behaviour = map-ok (behaviour_at y) (omega arith) z.behaviour;
    }

    message-ok : length b ≡ message_bytes y → map_formed y s dependences_at b ≡ true → MessageOk y (unpack_message y b)
    unfolding unpack_message
    message-ok n f = record {
      addressee = omega arith;
      number = number 2 1 b o;
      value = number 4 3 b o;
      dependences = map-ok dependences_at (omega arith) f;
    }

-- ---- the image

module _ (y : Layout) (img : List ℕ) (n : length img ≡ image_bytes y) (o : Octets img) where
  -- bytes, or the layout's counts
  limits-ok : LimitsOk y (unpack y img).limits
  limits-ok = go y.limited refl
    where
      go : (t : Bool) → y.limited ≡ t → LimitsOk y (unpack y img).limits
      go true e = subst (LimitsOk y) (sym (read-limits y img e)) (stored e (octet img o 4) (octet img o 5) (octet img o 6))
      go false e = counted e (read-widest y img e)

  module _ (f : ImageForm y img) where
    allowed : Allowed y (unpack y img).limits
    allowed = allowed_of f.limits

    fits : (unpack y img).limits.checkpoints ≤ y.places
    fits = allowed.checkpoints-high

    module _ (t : ℕ) (h : t < y.transactors) where
      form-at : TransactorForm y (unpack y img) t (transactor_part y img t) (unpack_transactor y (transactor_part y img t))
      unfolding unpack_transactor_at
      form-at = rw (read-transactor y img t h) at (f.transactors t h)

      transactors-ok : TransactorOk y (transactor_at (unpack y img) t)
      unfolding unpack_transactor_at
      transactors-ok =
          let m = length-transactor_part y img n t h in
          rw (read-transactor y img t h) (transactor-ok y (unpack y img) (transactor_part y img t) (octets-transactor_part y img o t) fits t m (zeros-form m form-at))

      transactors-formed : TransactorFormed y (unpack y img).limits.checkpoints (unpack y img).opened t (transactor_at (unpack y img) t)
      unfolding unpack_transactor_at
      transactors-formed = rw (read-transactor y img t h) (transactor-formed y (unpack y img) (transactor_part y img t) (length-transactor_part y img n t h) t form-at)

    module _ (k : ℕ) (h : k < waiting_in y img) where
      messages-ok : MessageOk y (message_at (unpack y img) k)
      unfolding unpack_message_at
      messages-ok =
          let m = length-message_part y img n k (omega (arith, waiting_few y img)) in
          rw (read-message y img k h) (message-ok y (unpack y img) (message_part y img k) (octets-message_part y img o k) fits m (f.messages.taken k h).dependences)

      messages-known : Known (unpack y img).limits.checkpoints (unpack y img).opened (message_at (unpack y img) k).dependences
      unfolding unpack_message_at unpack_message
      messages-known = rw (read-message y img k h) (map-known y (unpack y img) (message_part y img k) dependences_at (f.messages.taken k h).dependences)

    state-formed : WellFormed y (unpack y img)
    state-formed =
        let w = unpack-waiting y img in
        record {
          packable = record {
            limits = limits-ok;
            opened = rw (read_opened y img) (octet img o 0);
            next = rw (read_next y img) (number 2 1 img o);
            many = unpack-many y img;
            few = omega (arith, waiting_few y img);
            transactors = transactors-ok;
            messages = λ k h. messages-ok k (omega arith);
          };
          limits = allowed;
          opened = f.opened;
          waiting = f.waiting;
          transactors = transactors-formed;
          known = λ k h. messages-known k (omega arith);
          order = λ k h. f.messages.order k (omega arith);
          numbers = λ k h. (f.messages.taken k (omega arith)).number;
          addressees = λ k h. (f.messages.taken k (omega arith)).addressee;
        }

  pub formed-state : well_formed y img ≡ true → WellFormed y (unpack y img)
  formed-state e = state-formed (form-image y img o e)
