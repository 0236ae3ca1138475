-- Packed things are as long as the layout says, and all bytes.
use Prim.Native.Nat.{ℕ, ◌+◌, ◌*◌}
use mathlib.Core.Bool.{Bool, true, false}
use mathlib.Core.Path.{◌≡◌, refl}
use mathlib.Core.List.{List, [], ◌++◌}
use lib.Dec.{ltb}
use lib.ListN.{length, length-append}
use Rattle.octets.specs.Bytes.{pick, chunks, zeros, Octets}
use Rattle.octets.specs.Numbers.{be, bound}
use Rattle.octets.proofs.Put.{octets-nil, octets-append}
use Rattle.octets.proofs.Numbers.{length-be, octets-be}
use Rattle.octets.proofs.Zero.{length-zeros, octets-zeros}
use Rattle.octets.proofs.Chunks.{length-chunks, octets-chunks}
use Rattle.marks.specs.Packed.{bit}
use Rattle.maps.specs.declared.DependenceMap.{DependenceMap}
use Rattle.maps.proofs.Packed.{length-pack_map, octets-pack_map}
use Rattle.rules.specs.Layout.{Layout, Limits, base, narrow, largest, history_bytes, map_bytes, transactor_bytes, message_bytes, head_bytes, limits_bytes, image_bytes}
use Rattle.rules.specs.State.{Transactor, Message, State, transactor_at, message_at}
use Rattle.rules.specs.Pack.{pack_dependences, pack_transactor, pack_message, pack_transactor_at, pack_message_at, pack_head, pack_limits, pack_front, pack}

-- what document 02 says (W5, W7)
pub sizes-base : (history_bytes base ≡ 33) × (map_bytes base ≡ 528) × (transactor_bytes base ≡ 1593) × (message_bytes base ≡ 535) × (image_bytes base ≡ 42616)
sizes-base = (refl, refl, refl, refl, refl)

-- what document 01 says
pub sizes-narrow : (history_bytes narrow ≡ 17) × (map_bytes narrow ≡ 272) × (transactor_bytes narrow ≡ 825) × (message_bytes narrow ≡ 279) × (image_bytes narrow ≡ 22132)
sizes-narrow = (refl, refl, refl, refl, refl)

-- "Refusal 28 moves from 255 to 65,535"
pub largest-base : largest base ≡ 65535
unfolding bound
largest-base = refl

pub length-pack_head : (s : State) → length (pack_head s) ≡ head_bytes
unfolding pack_head
length-pack_head s = simp (length-append, length-be)

module _ (y : Layout) where
  pub length-pack_limits : (m : Limits) → length (pack_limits y m) ≡ limits_bytes y
  unfolding pack_limits
  length-pack_limits m = go y.limited
    where
      go : (t : Bool) → length (pick t (be 1 m.transactors ++ be 1 m.messages ++ be 1 m.checkpoints ++ be 1 0) []) ≡ 4 * bit t
      go true = simp (length-append, length-be)
      go false = refl

  pub length-pack_front : (s : State) → length (pack_front y s) ≡ head_bytes + limits_bytes y
  unfolding pack_front
  length-pack_front s = rw (length-append, length-pack_head s, length-pack_limits s.limits)

  pub length-pack_transactor : (x : Transactor) → length (pack_transactor y x) ≡ transactor_bytes y
  unfolding pack_transactor
  length-pack_transactor x = simp (length-append, length-be, length-pack_map)

  pub length-pack_message : (m : Message) → length (pack_message y m) ≡ message_bytes y
  unfolding pack_message
  length-pack_message m = simp (length-append, length-be, length-pack_map)

  pub length-pack_transactor_at : (s : State) (t : ℕ) → length (pack_transactor_at y s t) ≡ transactor_bytes y
  unfolding pack_transactor_at
  length-pack_transactor_at s t = length-pack_transactor (transactor_at s t)

  pub length-pack_message_at : (s : State) (k : ℕ) → length (pack_message_at y s k) ≡ message_bytes y
  unfolding pack_message_at
  length-pack_message_at s k = go (ltb k (length s.messages))
    where
      go : (t : Bool) → length (pick t (pack_message y (message_at s k)) (zeros (message_bytes y))) ≡ message_bytes y
      go true = length-pack_message (message_at s k)
      go false = length-zeros (message_bytes y)

  pub length-pack : (s : State) → length (pack y s) ≡ image_bytes y
  unfolding pack
  length-pack s = rw (
    length-append,
    length-append,
    length-pack_front s,
    length-chunks (transactor_bytes y) (pack_transactor_at y s) (length-pack_transactor_at s) y.transactors,
    length-chunks (message_bytes y) (pack_message_at y s) (length-pack_message_at s) y.messages,
  )

-- ---- bytes

octets-number : (b : List ℕ) (w n : ℕ) → Octets b → Octets (b ++ be w n)
octets-number b w n o = octets-append b (be w n) o (octets-be w n)

octets-pack_head : (s : State) → Octets (pack_head s)
unfolding pack_head
octets-pack_head s = octets-number _ 1 0 (octets-number _ 2 s.next (octets-be 1 s.opened))

module _ (y : Layout) where
  pub octets-pack_limits : (m : Limits) → Octets (pack_limits y m)
  unfolding pack_limits
  octets-pack_limits m = go y.limited
    where
      go : (t : Bool) → Octets (pick t (be 1 m.transactors ++ be 1 m.messages ++ be 1 m.checkpoints ++ be 1 0) [])
      go true = octets-number _ 1 0 (octets-number _ 1 m.checkpoints (octets-number _ 1 m.messages (octets-be 1 m.transactors)))
      go false = octets-nil

  octets-pack_front : (s : State) → Octets (pack_front y s)
  unfolding pack_front
  octets-pack_front s = octets-append (pack_head s) (pack_limits y s.limits) (octets-pack_head s) (octets-pack_limits s.limits)

  octets-map : (b : List ℕ) (m : DependenceMap) → Octets b → Octets (b ++ pack_dependences y m)
  octets-map b m o = octets-append b (pack_dependences y m) o (octets-pack_map y.width y.places y.transactors m)

  pub octets-pack_transactor : (x : Transactor) → Octets (pack_transactor y x)
  unfolding pack_transactor
  octets-pack_transactor x = octets-map _ x.behaviour (octets-map _ x.creation (octets-map _ x.state (octets-number _ 4 x.saved (octets-number _ 4 x.value (octets-be 1 (64 * x.status))))))

  pub octets-pack_message : (m : Message) → Octets (pack_message y m)
  unfolding pack_message
  octets-pack_message m = octets-map _ m.dependences (octets-number _ 4 m.value (octets-number _ 2 m.number (octets-be 1 (128 + m.addressee))))

  octets-pack_message_at : (s : State) (k : ℕ) → Octets (pack_message_at y s k)
  unfolding pack_message_at
  octets-pack_message_at s k = go (ltb k (length s.messages))
    where
      go : (t : Bool) → Octets (pick t (pack_message y (message_at s k)) (zeros (message_bytes y)))
      go true = octets-pack_message (message_at s k)
      go false = octets-zeros (message_bytes y)

  pub octets-pack : (s : State) → Octets (pack y s)
  unfolding pack pack_transactor_at
  octets-pack s = octets-append (pack_front y s ++ chunks y.transactors (pack_transactor_at y s)) (chunks y.messages (pack_message_at y s))
      (octets-append (pack_front y s) (chunks y.transactors (pack_transactor_at y s)) (octets-pack_front s)
      (octets-chunks y.transactors (pack_transactor_at y s) (λ t h. octets-pack_transactor (transactor_at s t))))
      (octets-chunks y.messages (pack_message_at y s) (λ k h. octets-pack_message_at s k))
