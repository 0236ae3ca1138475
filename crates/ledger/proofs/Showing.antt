-- Showing a message's map: the refusal, where it stands, and the part of the image.
use Prim.Native.Nat.{ℕ, ◌+◌, ◌-◌, ◌≤◌, ◌<◌}
use mathlib.Core.Bool.{true, false, not}
use mathlib.Core.Path.{◌≡◌, sym, ◌∙◌}
use mathlib.Core.List.{List, []}
use native.Mathlib.Omega.{arith}
use borrow.Author.Tests.{eq-eqb, ne_eqb, le-leb, lt-leb}
use lib.ListN.{length, take, drop}
use Rattle.octets.proofs.Put.{part-def}
use Rattle.octets.proofs.Chunks.{step}
use Rattle.rules.specs.Layout.{Layout, map_bytes, message_bytes, image_bytes}
use Rattle.rules.specs.State.{place_of}
use Rattle.rules.specs.Pack.{waiting_in, unpack}
use Rattle.rules.specs.Form.{well_formed}
use Rattle.rules.specs.Calls.{show_refusal, shown}
use Rattle.image.specs.Internal.Addresses.{map_at}
use Rattle.ledger.specs.Internal.Shown.{shown_at}
use Rattle.rules.proofs.Pack.Loads.{unpack-waiting, waiting_few}
use Rattle.rules.proofs.Calls.Begin.{wrong-length, right-length}
use Rattle.rules.proofs.Calls.Show.{accepted}

module _ (y : Layout) (img : List ℕ) (v : ℕ) where
  pub shown-16 : (length img ≡ image_bytes y → ⊥) → (0 ≡ shown_at y img v) × (16 ≡ show_refusal y img v)
  unfolding show_refusal shown_at
  shown-16 n = (rw (wrong-length y img n), rw (wrong-length y img n))

  module _ (long : length img ≡ image_bytes y) where
    pub shown-19 : not (well_formed y img) ≡ true → (0 ≡ shown_at y img v) × (19 ≡ show_refusal y img v)
    unfolding show_refusal shown_at
    shown-19 e = (rw (right-length y img long, e), rw (right-length y img long, e))

    module _ (formed : not (well_formed y img) ≡ false) where
      pub shown-24 : waiting_in y img ≤ place_of (unpack y img) v → (0 ≡ shown_at y img v) × (24 ≡ show_refusal y img v)
      unfolding show_refusal shown_at
      shown-24 h =
          let p : length (unpack y img).messages ≤ place_of (unpack y img) v = omega (arith, unpack-waiting y img) in
          (rw (right-length y img long, formed, le-leb _ _ p), rw (right-length y img long, formed, le-leb _ _ p))

      pub shown-place : (k : ℕ) → k ≡ place_of (unpack y img) v → k < waiting_in y img → (at : ℕ) → at ≡ map_at y k → (at ≡ shown_at y img v) × (0 ≡ show_refusal y img v)
      unfolding show_refusal shown_at
      shown-place k f h at e =
          let p : place_of (unpack y img) v < length (unpack y img).messages = omega (arith, unpack-waiting y img) in (
            rw (right-length y img long, formed, lt-leb _ _ p, e, f),
            rw (right-length y img long, formed, lt-leb _ _ p),
          )

  -- ---- the part, from there on

  pub part-refused : (r : ℕ) → r ≡ show_refusal y img v → (r ≡ 0 → ⊥) → [] ≡ shown y img v
  unfolding shown
  part-refused r e n = rw (← e, ne_eqb r 0 n)

  module _ (r : ℕ) (is : r ≡ show_refusal y img v) (none : r ≡ 0) (at : ℕ) (there : at ≡ shown_at y img v) where
    place : at ≡ map_at y (place_of (unpack y img) v)
    unfolding shown_at
    place = there ∙ rw (← is, eq-eqb r 0 none)

    pub part-shown : take (at + map_bytes y - at) (drop at img) ≡ shown y img v
    unfolding shown
    part-shown =
        let s : at + map_bytes y - at ≡ map_bytes y = omega arith in
        rw (← is, eq-eqb r 0 none, s, ← place) (sym (part-def at (map_bytes y) img))

    pub part-within : at + map_bytes y ≤ length img
    part-within = let a = accepted y img v (sym is ∙ none) in omega (arith, place, a.long, step (message_bytes y) (place_of (unpack y img) v) y.messages (omega (arith, a.waits, waiting_few y img)))
