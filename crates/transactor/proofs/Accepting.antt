-- A receipt's effect on the bytes of the addressee, in the image where the parcel stands too.
use Prim.Native.Nat.{ℕ, ◌+◌, ◌-◌, ◌*◌, ◌≤◌, ◌<◌}
use mathlib.Core.Bool.{Bool, true, false}
use mathlib.Core.Path.{◌≡◌, sym, ap, ◌∙◌}
use mathlib.Core.List.{List}
use native.Mathlib.Nat.{add-zero}
use native.Mathlib.Omega.{arith}
use lib.ListN.{length, set}
use Rattle.octets.specs.Bytes.{put, part}
use Rattle.octets.specs.Numbers.{be}
use Rattle.octets.proofs.Put.{part-put-after}
use Rattle.octets.proofs.Numbers.{length-be, put-be-one}
use Rattle.octets.proofs.Chunks.{step}
use Rattle.maps.specs.declared.DependenceMap.{DependenceMap}
use Rattle.std.specs.Prelude.{Some, None, Option}
use Rattle.maps.specs.Map.{first_superseded, answer_of, any_unrelated}
use Rattle.maps.proofs.Packed.{length-pack_map}
use Rattle.rules.specs.Layout.{Layout, base, map_bytes, state_at, creation_at, behaviour_at, transactor_bytes, dependences_at, message_bytes, transactor_address, message_address, image_bytes}
use Rattle.rules.specs.Status.{busy}
use Rattle.rules.specs.State.{Transactor, Message, State, transactor_at, message_at, with_status, with_transactor}
use Rattle.rules.specs.Step.{done, dropped}
use Rattle.rules.specs.Rules.{Effect, join, known, informed_by, unchanged}
use Rattle.rules.specs.Pack.{pack_dependences, pack_transactor, pack_message, unpack_dependences, unpack_transactor, message_part, waiting_in, pack, unpack}
use Rattle.rules.specs.Internal.Good.{Good}
use Rattle.rules.specs.declared.outcomes.Outcome.{Outcome}
use Rattle.rules.specs.Numbers.{outcome_number}
use Rattle.transactor.specs.declared.Acted.{Acted}
use Rattle.transactor.specs.Internal.Effects.{Acts, ActsAt, rollback_or28, taken_in, settle_by, accept_by}
use Rattle.rules.proofs.Pack.Sizes.{length-pack_message, length-pack}
use Rattle.rules.proofs.Pack.Stores.{put-status, put-behaviour, with_transactor-many, with_transactor-here, with_transactor-same, with_transactor-again, pack-in_transactor, at-waiting}
use Rattle.rules.proofs.Pack.Loads.{part-message, unpack-many, unpack-waiting, waiting_few, read-state, read-creation, read-dependences}
use Rattle.rules.proofs.Pack.RoundTrip.{map-part, same-dependences, message_part-pack}
use Rattle.transactor.proofs.Lent.{lent, back, unpack-lent, lent-after}

-- take t, and the parcel in place k that waits
module _ (y : Layout) (img : List ℕ) (t : ℕ) (below : t < y.transactors) (k : ℕ) (waits : k < waiting_in y img) where
  abbrev s : State
  s = unpack y img

  abbrev x : Transactor
  x = transactor_at s t

  abbrev deps : DependenceMap
  deps = (message_at s k).dependences

  -- ---- taken in: a status byte and a map are stored, in an image that is the packing of what it says

  module _ (packed : pack y s ≡ img) where
    message-map : part (message_address y k + dependences_at) (map_bytes y) img ≡ pack_dependences y deps
    message-map =
        let m : Message = message_at s k in
        let e : message_part y img k ≡ pack_message y m =
        ap (λ (l : List ℕ). message_part y l k) (sym packed) ∙ message_part-pack y s k (omega (arith, waiting_few y img)) ∙ at-waiting y s k (omega (arith, unpack-waiting y img)) in
        sym (part-message y img k dependences_at (map_bytes y) (omega arith))
        ∙ ap (part dependences_at (map_bytes y)) e
        ∙ map-part y dependences_at deps (pack_message y m) (omega (arith, length-pack_message y m)) (same-dependences y m)

    abbrev at : ℕ
    at = transactor_address y t

    abbrev working : State
    working = with_transactor s t (with_status x busy)

    fits : at + transactor_bytes y ≤ message_address y k
    fits = omega (arith, step (transactor_bytes y) t y.transactors below)

    within : at < length img
    within =
        let n : length img ≡ image_bytes y = sym (ap length packed) ∙ length-pack y s in
        omega (arith, fits, step (message_bytes y) k y.messages (omega (arith, waiting_few y img)))

    one_byte : set img at (64 * busy) ≡ put at (be 1 (64 * busy)) img
    one_byte = sym (put-be-one at (64 * busy) img within (omega arith))

    status-put : set img at (64 * busy) ≡ pack y working
    status-put =
        let z : at + 0 ≡ at = add-zero at in
        one_byte ∙ (rw (z, packed) at (pack-in_transactor y s t below (unpack-many y img) (with_status x busy) 0 (be 1 (64 * busy)) (omega (arith, length-be 1 (64 * busy))) (put-status y x busy)))

    -- the parcel stands behind
    map-kept : part (message_address y k + dependences_at) (map_bytes y) (set img at (64 * busy)) ≡ pack_dependences y deps
    map-kept =
        let n : length (be 1 (64 * busy)) ≡ 1 = length-be 1 (64 * busy) in
        ap (part (message_address y k + dependences_at) (map_bytes y)) one_byte
        ∙ part-put-after at (be 1 (64 * busy)) img (omega (arith, within)) (message_address y k + dependences_at) (map_bytes y) (omega (arith, fits))
        ∙ message-map

    map-put : put (at + behaviour_at y) (pack_dependences y deps) (pack y working) ≡ pack y (with_transactor s t (taken_in x deps))
    unfolding taken_in
    map-put =
        let z : Transactor = taken_in x deps in
        let many : length working.transactors ≡ y.transactors = with_transactor-many s t (with_status x busy) ∙ unpack-many y img in
        let here : transactor_at working t ≡ with_status x busy = with_transactor-here s t (with_status x busy) (omega (arith, unpack-many y img)) in
        let n : length (pack_dependences y deps) ≡ map_bytes y = length-pack_map y.width y.places y.transactors deps in
        pack-in_transactor y working t below many z (behaviour_at y) (pack_dependences y deps) (omega arith)
        (ap (λ (w : Transactor). put (behaviour_at y) (pack_dependences y deps) (pack_transactor y w)) here ∙ put-behaviour y (with_status x busy) deps)
        ∙ ap (pack y) (with_transactor-again s t (with_status x busy) z)

    pub taken-in : (gap : ℕ) (l : List ℕ) → gap ≡ message_address y k + dependences_at - (at + behaviour_at y)
        → l ≡ put (at + behaviour_at y) (part (at + behaviour_at y + gap) (map_bytes y) (set img at (64 * busy))) (set img at (64 * busy))
        → l ≡ pack y (with_transactor s t (taken_in x deps))
    taken-in gap l g e =
        let from : at + behaviour_at y + gap ≡ message_address y k + dependences_at = omega (arith, fits) in
        e ∙ rw (from, map-kept, status-put) map-put

  -- ---- the rule by case, u, f and g being the comparison's answers

  abbrev packed_deps : DependenceMap
  packed_deps = unpack_dependences y (message_address y k + dependences_at) img

  abbrev packed_known : DependenceMap
  packed_known = join y (unpack_dependences y (transactor_address y t + state_at) img) (unpack_dependences y (transactor_address y t + creation_at y) img)

  module _ (u : Bool) (d : u ≡ any_unrelated y.transactors packed_deps packed_known) where
    some-unrelated : any_unrelated y.transactors deps (known y x) ≡ u
    some-unrelated = rw (read-dependences y img k waits, read-state y img t below, read-creation y img t below) (sym d)

    pub accepts-unrelated : u ≡ true → accept_by y t x deps ≡ unchanged 31 x
    unfolding accept_by
    accepts-unrelated o = rw (some-unrelated, o)

    module _ (o : u ≡ false) (f : Option ℕ) (e : answer_of f ≡ first_superseded y.transactors packed_deps packed_known) where
      message-superseded : first_superseded y.transactors deps (known y x) ≡ answer_of f
      message-superseded = rw (read-dependences y img k waits, read-state y img t below, read-creation y img t below) (sym e)

      pub accepts-dropped : {i : ℕ} → f ≡ Some i → accept_by y t x deps ≡ unchanged dropped x
      unfolding accept_by
      accepts-dropped p = rw (some-unrelated, o, message-superseded, p)

      module _ (p : f ≡ None) (g : Option ℕ) (q : answer_of g ≡ first_superseded y.transactors packed_known packed_deps) where
        receiver-superseded : first_superseded y.transactors (known y x) deps ≡ answer_of g
        receiver-superseded = rw (read-dependences y img k waits, read-state y img t below, read-creation y img t below) (sym q)

        pub accepts-settled : accept_by y t x deps ≡ settle_by y t x deps (answer_of g)
        unfolding accept_by
        accepts-settled = rw (some-unrelated, o, message-superseded, p, receiver-superseded)

module _ (y : Layout) (t : ℕ) (x : Transactor) (deps : DependenceMap) (g : Option ℕ) where
  pub settles-rollback : {i : ℕ} → g ≡ Some i → settle_by y t x deps (answer_of g) ≡ rollback_or28 y t x
  unfolding settle_by
  settles-rollback r = rw r

  pub settles-done : g ≡ None → settle_by y t x deps (answer_of g) ≡ unchanged done (taken_in (informed_by y t x deps) deps)
  unfolding settle_by
  settles-done r = rw r

-- ---- what a function on an image answers that changes take t alone

-- by the effect that it has
pub acts-as : (img : List ℕ) (t : ℕ) {e e' : Effect} {o v : ℕ} {after : List ℕ} → e ≡ e' → ActsAt img t e' o v after → ActsAt img t e o v after
acts-as img t q a = rw q a

pub acted-at : (img : List ℕ) (t : ℕ) {e e' : Effect} {o v : ℕ} {after : List ℕ} → e ≡ e' → (o ≡ e'.outcome) × (v ≡ e'.value)
    → after ≡ pack base (with_transactor (unpack base img) t e'.transactor) → ActsAt img t e o v after
acted-at img t q r i = rw q (record { outcome = r.0; value = r.1; image = i })

-- by an outcome alone
pub acted-alone-at : (img : List ℕ) (t : ℕ) {e e' : Effect} {a : Acted Outcome} {o : Outcome} {after : List ℕ} → e ≡ e' → (a.outcome ≡ o) × (a.value ≡ 0) → e'.outcome ≡ outcome_number o → e'.value ≡ 0
    → after ≡ pack base (with_transactor (unpack base img) t e'.transactor) → ActsAt img t e (outcome_number a.outcome) a.value after
acted-alone-at img t q r n v i = acted-at img t q (ap outcome_number r.0 ∙ sym n, r.1 ∙ sym v) i

module _ (img : List ℕ) (good : Good img) (t : ℕ) where
  -- nothing changed
  pub kept_at : img ≡ pack base (with_transactor (unpack base img) t (transactor_at (unpack base img) t))
  kept_at = rw (with_transactor-same (unpack base img) t) (sym good.back)

  -- as a function on the take's bytes does
  pub lent_at : t < base.transactors → (f : Transactor → Effect) {e : Effect} {o v : ℕ} {bs : List ℕ} → e ≡ f (transactor_at (unpack base img) t)
      → Acts (f (unpack_transactor base (lent base img t))) o v bs → ActsAt img t e o v (back base img t bs)
  lent_at below f q acts =
      let a = rw (unpack-lent base img t below) at acts in
      acted-at img t q (a.outcome, a.value) (lent-after img good t below (f (transactor_at (unpack base img) t)) a)
