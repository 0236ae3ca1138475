-- A well-formed state is packed as a well-formed image.
use Prim.Native.Nat.{ℕ, ◌+◌, ◌*◌, ◌≤◌, ◌<◌}
use mathlib.Core.Bool.{Bool, true, false, not}
use mathlib.Core.Path.{◌≡◌, refl}
use mathlib.Core.List.{List, [], ◌++◌}
use native.Mathlib.Omega.{arith}
use lib.ListN.{length, get_or, drop}
use lib.Dec.{eqb}
use Rattle.octets.specs.Bytes.{pick, ◌or◌, put, chunks, all_zero, zeros}
use Rattle.octets.specs.Numbers.{be}
use Rattle.octets.proofs.Put.{drop-put}
use Rattle.octets.proofs.Zero.{length-zeros, all_zero-zeros, all_zero-drop}
use Rattle.maps.specs.declared.DependenceMap.{DependenceMap}
use Rattle.maps.proofs.Packed.{pack-empty_map, formed-pack_map}
use Rattle.rules.specs.Layout.{Layout, map_bytes, state_at, creation_at, behaviour_at, dependences_at, transactor_bytes, message_bytes}
use Rattle.rules.specs.Status.{annihilated}
use Rattle.rules.specs.State.{Transactor, Message, State, bare, message_at}
use Rattle.rules.specs.Pack.{pack_dependences, pack_transactor, pack_transactor_at, pack_message, pack_message_at, pack_head, pack_limits, pack_front, pack, waiting_in, unpack}
use Rattle.rules.specs.Form.{map_formed, limits_zero, well_formed}
use Rattle.rules.specs.Internal.Well.{DependencesOk, TransactorOk, MessageOk, Known, TransactorFormed, not_opened, gone, alive, WellFormed}
use Rattle.rules.proofs.Ranges.{allowed-test}
use Rattle.rules.proofs.Pack.Sizes.{length-pack_transactor, length-pack_message, length-pack}
use Rattle.rules.proofs.Pack.Stores.{put-state, put-creation, put-behaviour, at-waiting, at-free}
use Rattle.rules.proofs.Pack.RoundTrip.{map-part, same-dependences, flag-stands, transactor_part-pack, message_part-pack, waiting-pack, unpack-pack}
use Rattle.rules.proofs.Pack.Fresh.{pack-unused, pack-bare}
use Rattle.rules.proofs.Form.Transactor.{TransactorForm, unopened, vanished, living}
use Rattle.rules.proofs.Form.Message.{MessageForm, MessagesForm}
use Rattle.rules.proofs.Form.Image.{ImageForm, image-form}

-- ---- one transactor, one message

module _ (y : Layout) (s : State) where
  -- a map that stands at a place of b
  map-formed : (at : ℕ) (m : DependenceMap) (b : List ℕ) → at + map_bytes y ≤ length b → put at (pack_dependences y m) b ≡ b → DependencesOk y m → Known s.limits.checkpoints s.opened m → map_formed y s at b ≡ true
  unfolding map_formed
  map-formed at m b h same o k = rw (map-part y at m b h same) (formed-pack_map s.limits.checkpoints s.opened o k.counts k.unheld)

  -- zeros behind the status
  bare-rest : (st : ℕ) → all_zero (drop 1 (pack_transactor y (bare y st))) ≡ true
  unfolding be
  bare-rest st =
      let z : List ℕ = zeros (transactor_bytes y) in
      let e : drop 1 (put 0 (be 1 (64 * st)) z) ≡ drop 1 z = drop-put 0 (be 1 (64 * st)) z (omega (arith, length-zeros (transactor_bytes y))) in
      rw (← pack-bare y st, e) (all_zero-drop 1 z (all_zero-zeros (transactor_bytes y)))

  transactor-head : (x : Transactor) → x.status < 4 → get_or (pack_transactor y x) 0 0 ≡ 64 * x.status
  unfolding pack_transactor be
  transactor-head x h = omega arith

  transactor-packed : {t : ℕ} {x : Transactor} → TransactorOk y x → TransactorFormed y s.limits.checkpoints s.opened t x → TransactorForm y s t (pack_transactor y x) x
  transactor-packed o (not_opened p) = unopened p refl (rw (pack-unused y) (all_zero-zeros (transactor_bytes y)))
  transactor-packed o (gone p) = vanished p refl (omega (arith, transactor-head (bare y annihilated) o.status)) (bare-rest annihilated)
  transactor-packed {x = x} o (alive p a) =
      let n = length-pack_transactor y x in
      living p (record {
        head = omega (arith, transactor-head x o.status);
        status = a.status;
        state = map-formed state_at x.state (pack_transactor y x) (omega arith) (put-state y x x.state) o.state a.state;
        creation = map-formed (creation_at y) x.creation (pack_transactor y x) (omega arith) (put-creation y x x.creation) o.creation a.creation;
        behaviour = map-formed (behaviour_at y) x.behaviour (pack_transactor y x) (omega arith) (put-behaviour y x x.behaviour) o.behaviour a.behaviour;
        own = a.own;
        saved = a.saved;
        behaves = λ r.
            rw (map-part y (behaviour_at y) x.behaviour (pack_transactor y x) (omega arith) (put-behaviour y x x.behaviour), a.behaves r, pack-empty_map y.width y.places y.transactors)
            (all_zero-zeros (map_bytes y));
      })

  module _ (m : Message) where
    message-packed : MessageOk y m → Known s.limits.checkpoints s.opened m.dependences → m.number < s.next → m.addressee < s.opened → MessageForm y s (pack_message y m) m
    message-packed o k n a = record {
      head = omega (arith, flag-stands y m o.addressee, o.addressee);
      dependences = map-formed dependences_at m.dependences (pack_message y m) (omega (arith, length-pack_message y m)) (same-dependences y m) o.dependences k;
      number = n;
      addressee = a;
    }

-- ---- the image

module _ (y : Layout) (s : State) (w : WellFormed y s) where
  back : unpack y (pack y s) ≡ s
  back = unpack-pack y s w.packable

  head-zero : get_or (pack y s) 3 0 ≡ 0
  unfolding pack pack_front pack_head be
  head-zero = refl

  fourth-zero : limits_zero y (pack y s) ≡ true
  unfolding pack pack_front pack_head pack_limits limits_zero be
  fourth-zero = go y.limited
    where
      go : (t : Bool) → not t or eqb (get_or (be 1 s.opened ++ be 2 s.next ++ be 1 0 ++ pick t (be 1 s.limits.transactors ++ be 1 s.limits.messages ++ be 1 s.limits.checkpoints ++ be 1 0) [] ++ chunks y.transactors (pack_transactor_at y s) ++ chunks y.messages (pack_message_at y s)) 7 0) 0 ≡ true
      go true = refl
      go false = refl

  messages-packed : MessagesForm y (pack y s)
  messages-packed =
      let n : waiting_in y (pack y s) ≡ length s.messages = waiting-pack y s w.packable in
      record {
        taken = λ k h.
            let p : k < length s.messages = omega arith in
            let q : k < y.messages = omega (arith, w.packable.few) in
            rw (back, message_part-pack y s k q, at-waiting y s k p)
            (message-packed y s (message_at s k) (w.packable.messages k p) (w.known k p) (w.numbers k p) (w.addressees k p));
        free = λ k p h. rw (message_part-pack y s k h, at-free y s k (omega arith)) (all_zero-zeros (message_bytes y));
        order = λ k h. rw back (w.order k (omega arith));
      }

  image-packed : ImageForm y (pack y s)
  unfolding pack_transactor_at
  image-packed = record {
    zero = head-zero;
    fourth = fourth-zero;
    limits = rw back (allowed-test w.limits);
    opened = rw back w.opened;
    waiting = rw back w.waiting;
    transactors = λ t h. rw (back, transactor_part-pack y s t h) (transactor-packed y s (w.packable.transactors t h) (w.transactors t h));
    messages = messages-packed;
  }

  pub formed-pack : well_formed y (pack y s) ≡ true
  formed-pack = image-form y (pack y s) (length-pack y s) image-packed
