-- Loads: which bytes of an image, packed or not, hold each field of what it says.
use Prim.Native.Nat.{ℕ, ◌+◌, ◌*◌, ◌/◌, ◌%◌, ◌≤◌, ◌<◌}
use mathlib.Core.Bool.{true, false}
use mathlib.Core.Path.{◌≡◌, refl, ap, ◌∙◌}
use mathlib.Core.List.{List}
use native.Mathlib.Nat.{add-zero}
use native.Mathlib.Omega.{arith}
use lib.Dec.{ltb}
use lib.ListN.{length, get_or}
use Rattle.octets.specs.Bytes.{part, Octets}
use Rattle.octets.specs.Numbers.{of_be}
use Rattle.octets.proofs.Put.{part-part, get_d_part, length_part, octets-part}
use Rattle.octets.proofs.Chunks.{step, length-tabulate, get_d_tabulate}
use Rattle.marks.specs.Packed.{unpack_history, present_in}
use Rattle.maps.specs.declared.DependenceMap.{DependenceMap}
use Rattle.maps.specs.Map.{held_at, history_at}
use Rattle.maps.specs.Packed.{unpack_map, entry_bytes}
use Rattle.maps.proofs.Packed.{held-unpack, history-unpack}
use Rattle.rules.specs.Layout.{Layout, widest, history_bytes, map_bytes, saved_at, state_at, creation_at, behaviour_at, transactor_bytes, dependences_at, message_bytes, transactor_address, message_address, image_bytes}
use Rattle.rules.specs.State.{Transactor, Message, no_transactor, no_message, transactor_at, message_at}
use Rattle.rules.specs.Pack.{unpack_dependences, unpack_transactor, unpack_message, transactor_part, message_part, unpack_transactor_at, unpack_message_at, vacant_at, waiting_in, unpack_limits, unpack}
use Rattle.rules.proofs.Places.{place}

-- the first byte of a part
first : (at n : ℕ) (b : List ℕ) → 0 < n → get_or (part at n b) 0 0 ≡ get_or b at 0
first at n b h = get_d_part at n b 0 h ∙ ap (λ (i : ℕ). get_or b i 0) (add-zero at)

-- ---- one mark of the map at a place of b

module _ (y : Layout) (at : ℕ) (b : List ℕ) (i : ℕ) (below : i < y.transactors) where
  entry : entry_bytes y.width y.places (part at (map_bytes y) b) i ≡ part (at + history_bytes y * i) (history_bytes y) b
  unfolding entry_bytes
  entry = part-part (history_bytes y * i) (history_bytes y) at (map_bytes y) b (step (history_bytes y) i y.transactors below)

  pub held-at : held_at (unpack_dependences y at b) i ≡ present_in (part (at + history_bytes y * i) (history_bytes y) b)
  held-at = held-unpack y.width y.places y.transactors (part at (map_bytes y) b) i below ∙ ap present_in entry

  pub history-at : history_at (unpack_dependences y at b) i ≡ unpack_history y.width y.places (part (at + history_bytes y * i) (history_bytes y) b)
  history-at = history-unpack y.width y.places y.transactors (part at (map_bytes y) b) i below ∙ ap (unpack_history y.width y.places) entry

module _ (y : Layout) (img : List ℕ) where
  -- ---- parts of the bytes of a take and of a parcel

  pub part-transactor : (t at n : ℕ) → at + n ≤ transactor_bytes y → part at n (transactor_part y img t) ≡ part (transactor_address y t + at) n img
  unfolding transactor_part
  part-transactor t at n h = part-part at n (transactor_address y t) (transactor_bytes y) img h

  pub first-transactor : (t : ℕ) → get_or (transactor_part y img t) 0 0 ≡ get_or img (transactor_address y t) 0
  unfolding transactor_part
  first-transactor t = first (transactor_address y t) (transactor_bytes y) img (omega arith)

  pub part-message : (k at n : ℕ) → at + n ≤ message_bytes y → part at n (message_part y img k) ≡ part (message_address y k + at) n img
  unfolding message_part
  part-message k at n h = part-part at n (message_address y k) (message_bytes y) img h

  pub first-message : (k : ℕ) → get_or (message_part y img k) 0 0 ≡ get_or img (message_address y k) 0
  unfolding message_part
  first-message k = first (message_address y k) (message_bytes y) img (omega arith)

  module _ (whole : length img ≡ image_bytes y) where
    pub length-transactor_part : (t : ℕ) → t < y.transactors → length (transactor_part y img t) ≡ transactor_bytes y
    unfolding transactor_part
    length-transactor_part t h = length_part (transactor_address y t) (transactor_bytes y) img (omega (arith, step (transactor_bytes y) t y.transactors h))

    pub length-message_part : (k : ℕ) → k < y.messages → length (message_part y img k) ≡ message_bytes y
    unfolding message_part
    length-message_part k h = length_part (message_address y k) (message_bytes y) img (omega (arith, step (message_bytes y) k y.messages h))

  module _ (o : Octets img) where
    pub octets-transactor_part : (t : ℕ) → Octets (transactor_part y img t)
    unfolding transactor_part
    octets-transactor_part t = octets-part (transactor_address y t) (transactor_bytes y) img o

    pub octets-message_part : (k : ℕ) → Octets (message_part y img k)
    unfolding message_part
    octets-message_part k = octets-part (message_address y k) (message_bytes y) img o

  -- ---- a take

  pub unpack-many : length (unpack y img).transactors ≡ y.transactors
  unfolding unpack
  unpack-many = length-tabulate (unpack_transactor_at y img) y.transactors

  module _ (t : ℕ) (below : t < y.transactors) where
    pub read-transactor : transactor_at (unpack y img) t ≡ unpack_transactor_at y img t
    unfolding unpack transactor_at
    read-transactor = get_d_tabulate (unpack_transactor_at y img) y.transactors t no_transactor below

    pub read-status : (transactor_at (unpack y img) t).status ≡ get_or img (transactor_address y t) 0 / 64
    unfolding unpack_transactor_at unpack_transactor
    read-status = ap (λ (x : Transactor). x.status) read-transactor ∙ ap (λ (n : ℕ). n / 64) (first-transactor t)

    pub read-saved : (transactor_at (unpack y img) t).saved ≡ of_be 4 (part (transactor_address y t + saved_at) 4 img)
    unfolding unpack_transactor_at unpack_transactor
    read-saved = ap (λ (x : Transactor). x.saved) read-transactor ∙ ap (of_be 4) (part-transactor t saved_at 4 (omega arith))

    pub read-state : (transactor_at (unpack y img) t).state ≡ unpack_dependences y (transactor_address y t + state_at) img
    unfolding unpack_transactor_at unpack_transactor
    read-state = ap (λ (x : Transactor). x.state) read-transactor ∙ ap (unpack_map y.width y.places y.transactors) (part-transactor t state_at (map_bytes y) (omega arith))

    pub read-creation : (transactor_at (unpack y img) t).creation ≡ unpack_dependences y (transactor_address y t + creation_at y) img
    unfolding unpack_transactor_at unpack_transactor
    read-creation = ap (λ (x : Transactor). x.creation) read-transactor ∙ ap (unpack_map y.width y.places y.transactors) (part-transactor t (creation_at y) (map_bytes y) (omega arith))

    pub read-behaviour : (transactor_at (unpack y img) t).behaviour ≡ unpack_dependences y (transactor_address y t + behaviour_at y) img
    unfolding unpack_transactor_at unpack_transactor
    read-behaviour = ap (λ (x : Transactor). x.behaviour) read-transactor ∙ ap (unpack_map y.width y.places y.transactors) (part-transactor t (behaviour_at y) (map_bytes y) (omega arith))

    -- mark i of its state map
    module _ (i : ℕ) (within : i < y.transactors) where
      pub read_held : held_at (transactor_at (unpack y img) t).state i ≡ present_in (part (transactor_address y t + state_at + history_bytes y * i) (history_bytes y) img)
      read_held = ap (λ (m : DependenceMap). held_at m i) read-state ∙ held-at y (transactor_address y t + state_at) img i within

      pub read_history : history_at (transactor_at (unpack y img) t).state i
          ≡ unpack_history y.width y.places (part (transactor_address y t + state_at + history_bytes y * i) (history_bytes y) img)
      read_history = ap (λ (m : DependenceMap). history_at m i) read-state ∙ history-at y (transactor_address y t + state_at) img i within

  -- ---- the parcels that wait

  pub unpack-waiting : length (unpack y img).messages ≡ waiting_in y img
  unfolding unpack
  unpack-waiting = length-tabulate (unpack_message_at y img) (waiting_in y img)

  pub waiting_few : waiting_in y img ≤ y.messages
  unfolding waiting_in
  waiting_few = omega (arith, (place (vacant_at y img) 0 y.messages).high)

  -- every place before is taken, and the one after is not
  pub waiting-taken : (k : ℕ) → k < waiting_in y img → vacant_at y img k ≡ false
  unfolding waiting_in
  waiting-taken k h = (place (vacant_at y img) 0 y.messages).before k (omega arith) h

  pub waiting-vacant : waiting_in y img < y.messages → vacant_at y img (waiting_in y img) ≡ true
  unfolding waiting_in
  waiting-vacant h = (place (vacant_at y img) 0 y.messages).here (omega arith)

  pub read-vacant : (k : ℕ) → vacant_at y img k ≡ ltb (get_or img (message_address y k) 0) 128
  unfolding vacant_at
  read-vacant k = ap (λ (n : ℕ). ltb n 128) (first-message k)

  module _ (k : ℕ) (below : k < waiting_in y img) where
    pub read-message : message_at (unpack y img) k ≡ unpack_message_at y img k
    unfolding unpack message_at
    read-message = get_d_tabulate (unpack_message_at y img) (waiting_in y img) k no_message below

    pub read-addressee : (message_at (unpack y img) k).addressee ≡ get_or img (message_address y k) 0 % 16
    unfolding unpack_message_at unpack_message
    read-addressee = ap (λ (m : Message). m.addressee) read-message ∙ ap (λ (n : ℕ). n % 16) (first-message k)

    pub read_number : (message_at (unpack y img) k).number ≡ of_be 2 (part (message_address y k + 1) 2 img)
    unfolding unpack_message_at unpack_message
    read_number = ap (λ (m : Message). m.number) read-message ∙ ap (of_be 2) (part-message k 1 2 (omega arith))

    pub read-text : (message_at (unpack y img) k).value ≡ of_be 4 (part (message_address y k + 3) 4 img)
    unfolding unpack_message_at unpack_message
    read-text = ap (λ (m : Message). m.value) read-message ∙ ap (of_be 4) (part-message k 3 4 (omega arith))

    pub read-dependences : (message_at (unpack y img) k).dependences ≡ unpack_dependences y (message_address y k + dependences_at) img
    unfolding unpack_message_at unpack_message
    read-dependences = ap (λ (m : Message). m.dependences) read-message ∙ ap (unpack_map y.width y.places y.transactors) (part-message k dependences_at (map_bytes y) (omega arith))

  -- ---- the head

  pub read_opened : (unpack y img).opened ≡ get_or img 0 0
  unfolding unpack
  read_opened = refl

  pub read_next : (unpack y img).next ≡ of_be 2 (part 1 2 img)
  unfolding unpack
  read_next = refl

  pub read-limits : y.limited ≡ true → (unpack y img).limits ≡ record { transactors = get_or img 4 0; messages = get_or img 5 0; checkpoints = get_or img 6 0 }
  unfolding unpack unpack_limits
  read-limits e = rw e

  pub read-widest : y.limited ≡ false → (unpack y img).limits ≡ widest y
  unfolding unpack unpack_limits
  read-widest e = rw e
