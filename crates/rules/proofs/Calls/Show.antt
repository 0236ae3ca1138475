-- Showing a message: what is shown of it is its map, packed.
use Prim.Native.Nat.{ℕ, ◌<◌}
use mathlib.Core.Bool.{true, not}
use mathlib.Core.Path.{◌≡◌, sym, ap, ◌∙◌, subst}
use mathlib.Core.List.{List}
use native.Mathlib.Omega.{arith}
use borrow.Author.Tests.{leb-false, eqb-true, not-false}
use lib.Dec.{leb}
use lib.ListN.{length}
use Rattle.octets.specs.Bytes.{part, Octets}
use Rattle.octets.proofs.Put.{length_part, octets-part}
use Rattle.octets.proofs.Tests.{pick-zero}
use Rattle.maps.specs.Packed.{unpack_map}
use Rattle.maps.proofs.Packed.{pack-unpack_map}
use Rattle.rules.specs.Layout.{Layout, image_bytes, message_bytes, dependences_at, map_bytes}
use Rattle.rules.specs.State.{message_at, place_of}
use Rattle.rules.specs.Pack.{pack_dependences, message_part, waiting_in, unpack}
use Rattle.rules.specs.Form.{map_formed, well_formed}
use Rattle.rules.specs.Calls.{wrong_length, show_refusal, shown}
use Rattle.rules.proofs.Pack.Loads.{part-message, length-message_part, octets-message_part, read-dependences, unpack-waiting, waiting_few}
use Rattle.rules.proofs.Form.Image.{form-image}

module _ (y : Layout) (img : List ℕ) (n : ℕ) where
  -- not refused
  pub record Accepted : Type 0 where
    pub long : length img ≡ image_bytes y
    pub formed : well_formed y img ≡ true
    pub waits : place_of (unpack y img) n < waiting_in y img

  pub accepted : show_refusal y img n ≡ 0 → Accepted
  unfolding show_refusal
  accepted e =
      let a = pick-zero (wrong_length y img) 16 _ (omega arith) e in
      let b = pick-zero (not (well_formed y img)) 19 _ (omega arith) a.1 in
      let c = pick-zero (leb (length (unpack y img).messages) (place_of (unpack y img) n)) 24 _ (omega arith) b.1 in
      record {
        long = eqb-true (length img) (image_bytes y) (not-false _ a.0);
        formed = not-false _ b.0;
        waits = omega (arith, leb-false (length (unpack y img).messages) (place_of (unpack y img) n) c.0, unpack-waiting y img);
      }

  pub shown-packed : Octets img → show_refusal y img n ≡ 0 → shown y img n ≡ pack_dependences y (message_at (unpack y img) (place_of (unpack y img) n)).dependences
  unfolding shown map_formed
  shown-packed o e =
      let k : ℕ = place_of (unpack y img) n in
      let b : List ℕ = message_part y img k in
      let a : Accepted = accepted e in
      let f = ((form-image y img o a.formed).messages.taken k a.waits).dependences in
      let l : length b ≡ message_bytes y = length-message_part y img a.long k (omega (arith, a.waits, waiting_few y img)) in
      let back = pack-unpack_map y.width y.places y.transactors (unpack y img).limits.checkpoints (unpack y img).opened (part dependences_at (map_bytes y) b)
      (length_part dependences_at (map_bytes y) b (omega arith)) (octets-part dependences_at (map_bytes y) b (octets-message_part y img o k)) f in
      let here = part-message y img k dependences_at (map_bytes y) (omega arith) in
      rw e (sym (ap (pack_dependences y) (read-dependences y img k a.waits)
      ∙ subst (λ (p : List ℕ). pack_dependences y (unpack_map y.width y.places y.transactors p) ≡ p) here back))
