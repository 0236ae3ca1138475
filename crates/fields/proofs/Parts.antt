-- The parts of a packed image, field by field.
use Prim.Native.Nat.{ℕ, zero, suc, ◌+◌, ◌*◌, ◌≤◌, ◌<◌}
use mathlib.Core.Bool.{Bool, true, false}
use mathlib.Core.Path.{◌≡◌, refl, sym, ap, ◌∙◌}
use mathlib.Core.Logic.{⊎_elim}
use mathlib.Core.List.{List, ◌++◌}
use native.Mathlib.Omega.{arith}
use lib.Dec.{ltb}
use lib.ListN.{length, get_or, length-append}
use borrow.Author.Tests.{lt-ltb, le-ltb}
use Rattle.octets.specs.Bytes.{part, chunks, zeros}
use Rattle.octets.specs.Numbers.{be}
use Rattle.octets.proofs.Put.{part_left, part_right, part-whole, part-part}
use Rattle.octets.proofs.Numbers.{length-be, be-zero}
use Rattle.octets.proofs.Zero.{part-zeros}
use Rattle.octets.proofs.Runs.{behind-whole}
use Rattle.octets.proofs.Chunks.{step, sides}
use Rattle.marks.specs.declared.History.{History}
use Rattle.marks.specs.Packed.{bit, history_size}
use Rattle.marks.proofs.Packed.{number-part, place-part}
use Rattle.marks.proofs.Recast.{pack-front}
use Rattle.maps.specs.declared.DependenceMap.{DependenceMap}
use Rattle.maps.specs.Map.{held_at, history_at}
use Rattle.maps.specs.Packed.{pack_entry, pack_entry_at, entry_bytes}
use Rattle.maps.proofs.Packed.{length-pack_map, entry-pack_map}
use Rattle.rules.specs.Layout.{Layout, base, history_bytes, map_bytes, state_at, creation_at, behaviour_at, dependences_at, transactor_bytes, message_bytes, transactor_address, message_address}
use Rattle.rules.specs.State.{Transactor, Message, State, transactor_at, message_at}
use Rattle.rules.specs.Pack.{pack_dependences, pack_transactor, pack_message, pack_transactor_at, pack_message_at, pack_head, pack_limits, pack_front, pack, transactor_part, message_part}
use Rattle.rules.proofs.Pack.Messages.{no-message}
use Rattle.rules.proofs.Pack.Sizes.{length-pack_head, length-pack_front}
use Rattle.rules.proofs.Pack.Stores.{at-waiting, at-free}
use Rattle.rules.proofs.Pack.RoundTrip.{transactor_part-pack, message_part-pack}
use Rattle.fields.specs.Field.{of_history, map_of}

-- ---- parts of lists put together

-- what stands in the left list
left : (at n : ℕ) (p q b : List ℕ) → at + n ≤ length p → part at n p ≡ b → part at n (p ++ q) ≡ b
left at n p q b h e = part_left at n p q h ∙ e

-- a part of a part
pub inner : (l b c : List ℕ) (at m i n : ℕ) → i + n ≤ m → part at m l ≡ b → part i n b ≡ c → part (at + i) n l ≡ c
inner l b c at m i n h e f = sym (part-part i n at m l h) ∙ ap (part i n) e ∙ f

-- ---- a mark

-- one that may be absent
module _ (w l : ℕ) (h : History) where
  pub entry-flags : (p : Bool) → part 0 1 (pack_entry w l p h) ≡ of_history p 1 (128 + 64 * bit h.stable + h.count)
  unfolding pack_entry
  entry-flags true = pack-front w l h
  entry-flags false = part-zeros 0 1 (history_size w l) (omega arith)

  pub entry-number : (p : Bool) → part 1 w (pack_entry w l p h) ≡ of_history p w h.incarnation
  unfolding pack_entry
  entry-number true = number-part w l h
  entry-number false = part-zeros 1 w (history_size w l) (omega arith)

  pub entry-checkpoint : (i : ℕ) → i < l → (p : Bool) → part (1 + w + w * i) w (pack_entry w l p h) ≡ of_history p w (get_or h.checkpoints i 0)
  unfolding pack_entry
  entry-checkpoint i below true = place-part w l h i below
  entry-checkpoint i below false = part-zeros (1 + w + w * i) w (history_size w l) (omega (arith, step w i l below))

-- ---- a map

pub entry-part : (y : Layout) (m : DependenceMap) (u : ℕ) → u < y.transactors
    → part (history_bytes y * u) (history_bytes y) (pack_dependences y m) ≡ pack_entry y.width y.places (held_at m u) (history_at m u)
unfolding entry_bytes pack_entry_at
entry-part y m u below = entry-pack_map y.width y.places y.transactors m u below

-- ---- a take

module _ (y : Layout) (x : Transactor) where
  abbrev one : List ℕ
  one = be 1 (64 * x.status)

  abbrev five : List ℕ
  five = one ++ be 4 x.value

  abbrev nine : List ℕ
  nine = five ++ be 4 x.saved

  abbrev state : List ℕ
  state = nine ++ pack_dependences y x.state

  abbrev creation : List ℕ
  creation = state ++ pack_dependences y x.creation

  length-five : length five ≡ 5
  length-five = simp (length-append, length-be)

  length-nine : length nine ≡ 9
  length-nine = simp (length-append, length-be)

  length-state : length state ≡ creation_at y
  length-state = simp (length-append, length-be, length-pack_map)

  length-creation : length creation ≡ behaviour_at y
  length-creation = simp (length-append, length-be, length-pack_map)

  size : (m : DependenceMap) → length (pack_dependences y m) ≡ map_bytes y
  size m = length-pack_map y.width y.places y.transactors m

  -- what stands in the first nine bytes
  front : (at n : ℕ) (b : List ℕ) → at + n ≤ 9 → part at n nine ≡ b → part at n (pack_transactor y x) ≡ b
  unfolding pack_transactor
  front at n b h e =
      left at n creation (pack_dependences y x.behaviour) b (omega (arith, length-creation))
      (left at n state (pack_dependences y x.creation) b (omega (arith, length-state))
      (left at n nine (pack_dependences y x.state) b (omega (arith, length-nine)) e))

  pub transactor-status : part 0 1 (pack_transactor y x) ≡ one
  transactor-status =
      let n = length-be 1 (64 * x.status) in
      front 0 1 one (omega arith) (left 0 1 five (be 4 x.saved) one (omega (arith, length-five)) (left 0 1 one (be 4 x.value) one (omega (arith, n)) (part-whole 1 one n)))

  pub transactor-value : part 1 4 (pack_transactor y x) ≡ be 4 x.value
  transactor-value =
      front 1 4 (be 4 x.value) (omega arith)
      (left 1 4 five (be 4 x.saved) (be 4 x.value) (omega (arith, length-five)) (behind-whole 1 4 one (be 4 x.value) (length-be 1 (64 * x.status)) (length-be 4 x.value)))

  pub transactor-saved : part 5 4 (pack_transactor y x) ≡ be 4 x.saved
  transactor-saved = front 5 4 (be 4 x.saved) (omega arith) (behind-whole 5 4 five (be 4 x.saved) length-five (length-be 4 x.saved))

  pub transactor-state : part state_at (map_bytes y) (pack_transactor y x) ≡ pack_dependences y x.state
  unfolding pack_transactor
  transactor-state =
      left state_at (map_bytes y) creation (pack_dependences y x.behaviour) (pack_dependences y x.state) (omega (arith, length-creation))
      (left state_at (map_bytes y) state (pack_dependences y x.creation) (pack_dependences y x.state) (omega (arith, length-state))
      (behind-whole state_at (map_bytes y) nine (pack_dependences y x.state) length-nine (size x.state)))

  pub transactor-creation : part (creation_at y) (map_bytes y) (pack_transactor y x) ≡ pack_dependences y x.creation
  unfolding pack_transactor
  transactor-creation =
      left (creation_at y) (map_bytes y) creation (pack_dependences y x.behaviour) (pack_dependences y x.creation) (omega (arith, length-creation))
      (behind-whole (creation_at y) (map_bytes y) state (pack_dependences y x.creation) length-state (size x.creation))

  pub transactor-behaviour : part (behaviour_at y) (map_bytes y) (pack_transactor y x) ≡ pack_dependences y x.behaviour
  unfolding pack_transactor
  transactor-behaviour = behind-whole (behaviour_at y) (map_bytes y) creation (pack_dependences y x.behaviour) length-creation (size x.behaviour)

-- ---- a parcel place

module _ (y : Layout) (m : Message) where
  abbrev first : List ℕ
  first = be 1 (128 + m.addressee)

  abbrev three : List ℕ
  three = first ++ be 2 m.number

  abbrev seven : List ℕ
  seven = three ++ be 4 m.value

  length_three : length three ≡ 3
  length_three = simp (length-append, length-be)

  length-seven : length seven ≡ 7
  length-seven = simp (length-append, length-be)

  message-first : part 0 1 (pack_message y m) ≡ first
  unfolding pack_message
  message-first =
      let n = length-be 1 (128 + m.addressee) in
      left 0 1 seven (pack_dependences y m.dependences) first (omega (arith, length-seven))
      (left 0 1 three (be 4 m.value) first (omega (arith, length_three)) (left 0 1 first (be 2 m.number) first (omega (arith, n)) (part-whole 1 first n)))

  message-number : part 1 2 (pack_message y m) ≡ be 2 m.number
  unfolding pack_message
  message-number =
      left 1 2 seven (pack_dependences y m.dependences) (be 2 m.number) (omega (arith, length-seven))
      (left 1 2 three (be 4 m.value) (be 2 m.number) (omega (arith, length_three)) (behind-whole 1 2 first (be 2 m.number) (length-be 1 (128 + m.addressee)) (length-be 2 m.number)))

  message-value : part 3 4 (pack_message y m) ≡ be 4 m.value
  unfolding pack_message
  message-value =
      left 3 4 seven (pack_dependences y m.dependences) (be 4 m.value) (omega (arith, length-seven))
      (behind-whole 3 4 three (be 4 m.value) length_three (length-be 4 m.value))

  message-map : part dependences_at (map_bytes y) (pack_message y m) ≡ pack_dependences y m.dependences
  unfolding pack_message
  message-map = behind-whole dependences_at (map_bytes y) seven (pack_dependences y m.dependences) length-seven (length-pack_map y.width y.places y.transactors m.dependences)

-- place k, whether or not a parcel waits there
module _ (y : Layout) (s : State) (k : ℕ) where
  -- by cases: what is packed, or zeros
  either : (at n : ℕ) (b : List ℕ) → at + n ≤ message_bytes y → (k < length s.messages → part at n (pack_message y (message_at s k)) ≡ b)
      → (length s.messages ≤ k → zeros n ≡ b) → part at n (pack_message_at y s k) ≡ b
  either at n b h f g = ⊎_elim
      (λ (p : k < length s.messages). ap (part at n) (at-waiting y s k p) ∙ f p)
      (λ (p : length s.messages ≤ k). ap (part at n) (at-free y s k p) ∙ part-zeros at n (message_bytes y) h ∙ g p)
      (sides k (length s.messages))

  pub place-first : part 0 1 (pack_message_at y s k) ≡ of_history (ltb k (length s.messages)) 1 (128 + (message_at s k).addressee)
  place-first = either 0 1 (of_history (ltb k (length s.messages)) 1 (128 + (message_at s k).addressee)) (omega arith)
      (λ p. rw (lt-ltb k (length s.messages) p) (message-first y (message_at s k)))
      (λ p. rw (le-ltb k (length s.messages) p) refl)

  pub place-number : part 1 2 (pack_message_at y s k) ≡ be 2 (message_at s k).number
  place-number = either 1 2 (be 2 (message_at s k).number) (omega arith) (λ p. message-number y (message_at s k)) (λ p. rw (no-message s k p) (sym (be-zero 2)))

  pub place-value : part 3 4 (pack_message_at y s k) ≡ be 4 (message_at s k).value
  place-value = either 3 4 (be 4 (message_at s k).value) (omega arith) (λ p. message-value y (message_at s k)) (λ p. rw (no-message s k p) (sym (be-zero 4)))

  pub place-entry : (u : ℕ) → u < y.transactors → part (dependences_at + history_bytes y * u) (history_bytes y) (pack_message_at y s k)
      ≡ pack_entry y.width y.places (held_at (message_at s k).dependences u) (history_at (message_at s k).dependences u)
  unfolding pack_entry
  place-entry u below =
      let m : Message = message_at s k in
      let fits = step (history_bytes y) u y.transactors below in
      either (dependences_at + history_bytes y * u) (history_bytes y) (pack_entry y.width y.places (held_at m.dependences u) (history_at m.dependences u)) (omega (arith, fits))
      (λ p. inner (pack_message y m) (pack_dependences y m.dependences) (pack_entry y.width y.places (held_at m.dependences u) (history_at m.dependences u))
      dependences_at (map_bytes y) (history_bytes y * u) (history_bytes y) (omega (arith, fits)) (message-map y m) (entry-part y m.dependences u below))
      (λ p. rw (no-message s k p) refl)

-- ---- the head and the limits

module _ (s : State) where
  abbrev head : List ℕ
  head = be 1 s.opened ++ be 2 s.next

  abbrev limits : List ℕ
  limits = be 1 s.limits.transactors ++ be 1 s.limits.messages

  in-front : (at n : ℕ) (b : List ℕ) → at + n ≤ 8 → part at n (pack_front base s) ≡ b → part at n (pack base s) ≡ b
  unfolding pack
  in-front at n b h e =
      let c : List ℕ = chunks base.transactors (pack_transactor_at base s) in
      let f : length (pack_front base s) ≡ 8 = length-pack_front base s in
      let g : length (pack_front base s ++ c) ≡ 8 + length c = length-append (pack_front base s) c ∙ ap (λ (z : ℕ). z + length c) f in
      left at n (pack_front base s ++ c) (chunks base.messages (pack_message_at base s)) b (omega (arith, g)) (left at n (pack_front base s) c b (omega (arith, f)) e)

  in_head : (at n : ℕ) (b : List ℕ) → at + n ≤ 4 → part at n (pack_head s) ≡ b → part at n (pack base s) ≡ b
  unfolding pack_front
  in_head at n b h e = in-front at n b (omega arith) (left at n (pack_head s) (pack_limits base s.limits) b (omega (arith, length-pack_head s)) e)

  pub front-opened : part 0 1 (pack base s) ≡ be 1 s.opened
  unfolding pack_head
  front-opened =
      let n = length-be 1 s.opened in
      let m : length head ≡ 3 = simp (length-append, length-be) in
      in_head 0 1 (be 1 s.opened) (omega arith) (left 0 1 head (be 1 0) (be 1 s.opened) (omega (arith, m)) (left 0 1 (be 1 s.opened) (be 2 s.next) (be 1 s.opened) (omega (arith, n)) (part-whole 1 (be 1 s.opened) n)))

  pub front-next : part 1 2 (pack base s) ≡ be 2 s.next
  unfolding pack_head
  front-next =
      let m : length head ≡ 3 = simp (length-append, length-be) in
      in_head 1 2 (be 2 s.next) (omega arith) (left 1 2 head (be 1 0) (be 2 s.next) (omega (arith, m)) (behind-whole 1 2 (be 1 s.opened) (be 2 s.next) (length-be 1 s.opened) (length-be 2 s.next)))

  pub front-blank : part 3 1 (pack base s) ≡ be 1 0
  unfolding pack_head
  front-blank =
      let m : length head ≡ 3 = simp (length-append, length-be) in
      in_head 3 1 (be 1 0) (omega arith) (behind-whole 3 1 head (be 1 0) m (length-be 1 0))

  -- behind the head
  in-limits : (at n : ℕ) (b : List ℕ) → at + n ≤ 4 → part at n (pack_limits base s.limits) ≡ b → part (4 + at) n (pack base s) ≡ b
  unfolding pack_front
  in-limits at n b h e =
      let r : part (length (pack_head s) + at) n (pack_head s ++ pack_limits base s.limits) ≡ part at n (pack_limits base s.limits) = part_right at n (pack_head s) (pack_limits base s.limits) in
      in-front (4 + at) n b (omega arith) (rw (length-pack_head s) at r ∙ e)

  length-limits : length limits ≡ 2
  length-limits = simp (length-append, length-be)

  length-three-limits : length (limits ++ be 1 s.limits.checkpoints) ≡ 3
  length-three-limits = simp (length-append, length-be)

  pub front-transactors : part 4 1 (pack base s) ≡ be 1 s.limits.transactors
  unfolding pack_limits
  front-transactors =
      let b : List ℕ = be 1 s.limits.transactors in
      let n : length b ≡ 1 = length-be 1 s.limits.transactors in
      in-limits 0 1 b (omega arith)
      (left 0 1 (limits ++ be 1 s.limits.checkpoints) (be 1 0) b (omega (arith, length-three-limits))
      (left 0 1 limits (be 1 s.limits.checkpoints) b (omega (arith, length-limits))
      (left 0 1 b (be 1 s.limits.messages) b (omega (arith, n)) (part-whole 1 b n))))

  pub front-messages : part 5 1 (pack base s) ≡ be 1 s.limits.messages
  unfolding pack_limits
  front-messages =
      let b : List ℕ = be 1 s.limits.messages in
      in-limits 1 1 b (omega arith)
      (left 1 1 (limits ++ be 1 s.limits.checkpoints) (be 1 0) b (omega (arith, length-three-limits))
      (left 1 1 limits (be 1 s.limits.checkpoints) b (omega (arith, length-limits))
      (behind-whole 1 1 (be 1 s.limits.transactors) b (length-be 1 s.limits.transactors) (length-be 1 s.limits.messages))))

  pub front-checkpoints : part 6 1 (pack base s) ≡ be 1 s.limits.checkpoints
  unfolding pack_limits
  front-checkpoints =
      let b : List ℕ = be 1 s.limits.checkpoints in
      in-limits 2 1 b (omega arith)
      (left 2 1 (limits ++ be 1 s.limits.checkpoints) (be 1 0) b (omega (arith, length-three-limits)) (behind-whole 2 1 limits b length-limits (length-be 1 s.limits.checkpoints)))

  pub front-end : part 7 1 (pack base s) ≡ be 1 0
  unfolding pack_limits
  front-end = in-limits 3 1 (be 1 0) (omega arith) (behind-whole 3 1 (limits ++ be 1 s.limits.checkpoints) (be 1 0) length-three-limits (length-be 1 0))

  -- ---- takes and parcels

  pub transactor-part : (t : ℕ) → t < 16 → part (transactor_address base t) (transactor_bytes base) (pack base s) ≡ pack_transactor base (transactor_at s t)
  unfolding transactor_part pack_transactor_at
  transactor-part t h = transactor_part-pack base s t h

  pub message-part : (k : ℕ) → k < 32 → part (message_address base k) (message_bytes base) (pack base s) ≡ pack_message_at base s k
  unfolding message_part
  message-part k h = message_part-pack base s k h

  -- map i of take t
  pub transactor-map : (t i : ℕ) → i < 3 → part (state_at + map_bytes base * i) (map_bytes base) (pack_transactor base (transactor_at s t)) ≡ pack_dependences base (map_of s i t)
  unfolding map_of
  transactor-map t zero h = transactor-state base (transactor_at s t)
  transactor-map t (suc zero) h = transactor-creation base (transactor_at s t)
  transactor-map t (suc (suc zero)) h = transactor-behaviour base (transactor_at s t)
  transactor-map t (suc (suc (suc i))) h = absurd (omega arith)
