-- A take and a parcel written in another width; whether limits are stored does not matter to them.
use Prim.Native.Nat.{ℕ, ◌+◌, ◌*◌, ◌≤◌}
use mathlib.Core.Bool.{Bool}
use mathlib.Core.Path.{◌≡◌, refl, ap, sym, ◌∙◌}
use mathlib.Core.List.{List, ◌++◌}
use native.Mathlib.Omega.{arith}
use native.Mathlib.Nat.{zero-add}
use lib.ListN.{length, get_or, length-append}
use Rattle.octets.specs.Bytes.{part, zeros, Octets}
use Rattle.octets.specs.Numbers.{be, bound}
use Rattle.octets.proofs.Put.{part_left, part-part, part-whole, length_part, get_d_part, octets-part}
use Rattle.octets.proofs.Numbers.{length-be}
use Rattle.octets.proofs.Zero.{part-zeros, zeros-append}
use Rattle.maps.specs.declared.DependenceMap.{DependenceMap}
use Rattle.maps.specs.Packed.{pack_map, unpack_map}
use Rattle.maps.specs.Map.{empty_map}
use Rattle.maps.proofs.Packed.{length-pack_map, pack-empty_map, map_ok-empty}
use Rattle.rules.specs.Layout.{Layout, map_bytes, value_at, saved_at, state_at, creation_at, behaviour_at, dependences_at, transactor_bytes, message_bytes}
use Rattle.rules.specs.State.{Transactor, Message}
use Rattle.rules.specs.Pack.{pack_dependences, pack_transactor, pack_message, unpack_dependences, unpack_transactor, unpack_message}
use Rattle.rules.specs.Internal.Well.{DependencesOk, TransactorOk, MessageOk}
use Rattle.recast.specs.Internal.Widths.{resized}
use Rattle.maps.specs.Internal.Recast.{recast_map}
use Rattle.recast.specs.Internal.Recast.{recast_part, recast_transactor, recast_message}
use Rattle.octets.proofs.Runs.{joined, behind-whole}
use Rattle.maps.proofs.Recast.{length-recast_map, unpack-recast_map, recast_map-back, recast_map-pack}

-- ---- runs of two and of four

module _ (a m : ℕ) (A B : List ℕ) (n : length A ≡ a) (k : length B ≡ m) where
  pub front-two : (i j : ℕ) → i + j ≤ a → part i j (A ++ B) ≡ part i j A
  front-two i j h = part_left i j A B (omega arith)

  pub length_two : length (A ++ B) ≡ a + m
  length_two = rw (length-append, n, k)

module _ (a m : ℕ) (A B C D : List ℕ) (n : length A ≡ a) (k : length B ≡ m) (l : length C ≡ m) (p : length D ≡ m) where
  two : length (A ++ B) ≡ a + m
  two = length_two a m A B n k

  three : length (A ++ B ++ C) ≡ a + m + m
  three = length_two (a + m) m (A ++ B) C two l

  pub length-four : length (A ++ B ++ C ++ D) ≡ a + m + m + m
  length-four = length_two (a + m + m) m (A ++ B ++ C) D three p

  pub four-0 : (i j : ℕ) → i + j ≤ a → part i j (A ++ B ++ C ++ D) ≡ part i j A
  four-0 i j h =
      front-two (a + m + m) m (A ++ B ++ C) D three p i j (omega arith)
      ∙ front-two (a + m) m (A ++ B) C two l i j (omega arith)
      ∙ front-two a m A B n k i j h

  pub four-1 : part a m (A ++ B ++ C ++ D) ≡ B
  four-1 =
      front-two (a + m + m) m (A ++ B ++ C) D three p a m (omega arith)
      ∙ front-two (a + m) m (A ++ B) C two l a m (omega arith)
      ∙ behind-whole a m A B n k

  pub four-2 : part (a + m) m (A ++ B ++ C ++ D) ≡ C
  four-2 = front-two (a + m + m) m (A ++ B ++ C) D three p (a + m) m (omega arith) ∙ behind-whole (a + m) m (A ++ B) C two l

  pub four-3 : part (a + m + m) m (A ++ B ++ C ++ D) ≡ D
  four-3 = behind-whole (a + m + m) m (A ++ B ++ C) D three p

pub first-same : (a b : List ℕ) → part 0 1 a ≡ part 0 1 b → get_or a 0 0 ≡ get_or b 0 0
first-same a b e = sym (get_d_part 0 1 a 0 (omega arith)) ∙ ap (λ (x : List ℕ). get_or x 0 0) e ∙ get_d_part 0 1 b 0 (omega arith)

-- ---- the map at a place

module _ (y : Layout) (v w : ℕ) (old new : Bool) where
  module _ (at : ℕ) (b : List ℕ) (h : at + map_bytes (resized y v old) ≤ length b) where
    length-piece : length (recast_part (resized y v old) w at b) ≡ map_bytes (resized y w new)
    unfolding recast_part
    length-piece = length-recast_map v w y.places y.transactors (part at (map_bytes (resized y v old)) b) (length_part at (map_bytes (resized y v old)) b h)

    -- read and written back, where it stands from there on in r
    module _ (o : Octets b) (more : bound v ≤ bound w) (there : ℕ) (r : List ℕ) (e : part there (map_bytes (resized y w new)) r ≡ recast_part (resized y v old) w at b) where
      unpack-piece : unpack_dependences (resized y w new) there r ≡ unpack_dependences (resized y v old) at b
      unfolding recast_part
      unpack-piece =
          ap (unpack_map w y.places y.transactors) e
          ∙ unpack-recast_map v w y.places y.transactors (part at (map_bytes (resized y v old)) b) (length_part at (map_bytes (resized y v old)) b h) (octets-part at (map_bytes (resized y v old)) b o) more

      piece_back : recast_part (resized y w new) v there r ≡ part at (map_bytes (resized y v old)) b
      unfolding recast_part
      piece_back =
          ap (recast_map w v y.places y.transactors) e
          ∙ recast_map-back v w y.places y.transactors (part at (map_bytes (resized y v old)) b) (length_part at (map_bytes (resized y v old)) b h) (octets-part at (map_bytes (resized y v old)) b o) more

  piece-pack : bound v ≤ bound w → (at : ℕ) {m : DependenceMap} (b : List ℕ) → DependencesOk (resized y v old) m → part at (map_bytes (resized y v old)) b ≡ pack_dependences (resized y v old) m
      → recast_part (resized y v old) w at b ≡ pack_dependences (resized y w new) m
  unfolding recast_part
  piece-pack more at b o e = ap (recast_map v w y.places y.transactors) e ∙ recast_map-pack v w y.places y.transactors more o

-- ---- a take

recast-def : (y : Layout) (w : ℕ) (b : List ℕ) → recast_transactor y w b ≡ part 0 state_at b ++ recast_part y w state_at b ++ recast_part y w (creation_at y) b ++ recast_part y w (behaviour_at y) b
unfolding recast_transactor
recast-def y w b = refl

pack-def : (y : Layout) (x : Transactor) → pack_transactor y x ≡ be 1 (64 * x.status) ++ be 4 x.value ++ be 4 x.saved ++ pack_dependences y x.state ++ pack_dependences y x.creation ++ pack_dependences y x.behaviour
unfolding pack_transactor
pack-def y x = refl

module _ (y : Layout) (v w : ℕ) (old new : Bool) (b : List ℕ) (n : length b ≡ transactor_bytes (resized y v old)) where
  abbrev s : Layout
  s = resized y v old

  abbrev d : Layout
  d = resized y w new

  abbrev r : List ℕ
  r = recast_transactor s w b

  n-0 : length (part 0 state_at b) ≡ state_at
  n-0 = length_part 0 state_at b (omega arith)

  n-1 : length (recast_part s w state_at b) ≡ map_bytes d
  n-1 = length-piece y v w old new state_at b (omega arith)

  n-2 : length (recast_part s w (creation_at s) b) ≡ map_bytes d
  n-2 = length-piece y v w old new (creation_at s) b (omega arith)

  n-3 : length (recast_part s w (behaviour_at s) b) ≡ map_bytes d
  n-3 = length-piece y v w old new (behaviour_at s) b (omega arith)

  pub length-recast_transactor : length r ≡ transactor_bytes d
  length-recast_transactor = ap length (recast-def s w b) ∙ length-four state_at (map_bytes d) (part 0 state_at b) (recast_part s w state_at b) (recast_part s w (creation_at s) b) (recast_part s w (behaviour_at s) b) n-0 n-1 n-2 n-3

  pub front-transactor : (i j : ℕ) → i + j ≤ state_at → part i j r ≡ part i j b
  front-transactor i j h =
      ap (part i j) (recast-def s w b)
      ∙ four-0 state_at (map_bytes d) (part 0 state_at b) (recast_part s w state_at b) (recast_part s w (creation_at s) b) (recast_part s w (behaviour_at s) b) n-0 n-1 n-2 n-3 i j h
      ∙ part-part i j 0 state_at b h
      ∙ ap (λ (k : ℕ). part k j b) (zero-add i)

  e_1 : part state_at (map_bytes d) r ≡ recast_part s w state_at b
  e_1 = ap (part state_at (map_bytes d)) (recast-def s w b) ∙ four-1 state_at (map_bytes d) (part 0 state_at b) (recast_part s w state_at b) (recast_part s w (creation_at s) b) (recast_part s w (behaviour_at s) b) n-0 n-1 n-2 n-3

  e_2 : part (creation_at d) (map_bytes d) r ≡ recast_part s w (creation_at s) b
  e_2 = ap (part (creation_at d) (map_bytes d)) (recast-def s w b) ∙ four-2 state_at (map_bytes d) (part 0 state_at b) (recast_part s w state_at b) (recast_part s w (creation_at s) b) (recast_part s w (behaviour_at s) b) n-0 n-1 n-2 n-3

  e_3 : part (behaviour_at d) (map_bytes d) r ≡ recast_part s w (behaviour_at s) b
  e_3 = ap (part (behaviour_at d) (map_bytes d)) (recast-def s w b) ∙ four-3 state_at (map_bytes d) (part 0 state_at b) (recast_part s w state_at b) (recast_part s w (creation_at s) b) (recast_part s w (behaviour_at s) b) n-0 n-1 n-2 n-3

  module _ (o : Octets b) (more : bound v ≤ bound w) where
    pub unpack-recast_transactor : unpack_transactor d r ≡ unpack_transactor s b
    unfolding unpack_transactor
    unpack-recast_transactor = rw (
      first-same r b (front-transactor 0 1 (omega arith)),
      front-transactor value_at 4 (omega arith),
      front-transactor saved_at 4 (omega arith),
      unpack-piece y v w old new state_at b (omega arith) o more state_at r e_1,
      unpack-piece y v w old new (creation_at s) b (omega arith) o more (creation_at d) r e_2,
      unpack-piece y v w old new (behaviour_at s) b (omega arith) o more (behaviour_at d) r e_3,
    )

    pub recast_transactor-back : recast_transactor d v r ≡ b
    recast_transactor-back =
        recast-def d v r
        ∙ (rw (
          front-transactor 0 state_at (omega arith),
          piece_back y v w old new state_at b (omega arith) o more state_at r e_1,
          piece_back y v w old new (creation_at s) b (omega arith) o more (creation_at d) r e_2,
          piece_back y v w old new (behaviour_at s) b (omega arith) o more (behaviour_at d) r e_3,
          joined state_at (map_bytes s) b,
          joined (creation_at s) (map_bytes s) b,
          joined (behaviour_at s) (map_bytes s) b,
        )
        (part-whole (transactor_bytes s) b n))

pub recast_transactor-pack : (y : Layout) (v w : ℕ) (old new : Bool) → bound v ≤ bound w → (x : Transactor) → TransactorOk (resized y v old) x → recast_transactor (resized y v old) w (pack_transactor (resized y v old) x) ≡ pack_transactor (resized y w new) x
recast_transactor-pack y v w old new more x o =
    let s : Layout = resized y v old in
    let f : List ℕ = be 1 (64 * x.status) ++ be 4 x.value ++ be 4 x.saved in
    let b : List ℕ = pack_transactor s x in
    let n : length f ≡ state_at = simp (length-append, length-be) in
    let m = length-pack_map v y.places y.transactors in
    let p0 : part 0 state_at b ≡ f = ap (part 0 state_at) (pack-def s x) ∙ four-0 state_at (map_bytes s) f (pack_dependences s x.state) (pack_dependences s x.creation) (pack_dependences s x.behaviour) n (m x.state) (m x.creation) (m x.behaviour) 0 state_at (omega arith) ∙ part-whole state_at f n in
    let p1 : part state_at (map_bytes s) b ≡ pack_dependences s x.state = ap (part state_at (map_bytes s)) (pack-def s x) ∙ four-1 state_at (map_bytes s) f (pack_dependences s x.state) (pack_dependences s x.creation) (pack_dependences s x.behaviour) n (m x.state) (m x.creation) (m x.behaviour) in
    let p2 : part (creation_at s) (map_bytes s) b ≡ pack_dependences s x.creation = ap (part (creation_at s) (map_bytes s)) (pack-def s x) ∙ four-2 state_at (map_bytes s) f (pack_dependences s x.state) (pack_dependences s x.creation) (pack_dependences s x.behaviour) n (m x.state) (m x.creation) (m x.behaviour) in
    let p3 : part (behaviour_at s) (map_bytes s) b ≡ pack_dependences s x.behaviour = ap (part (behaviour_at s) (map_bytes s)) (pack-def s x) ∙ four-3 state_at (map_bytes s) f (pack_dependences s x.state) (pack_dependences s x.creation) (pack_dependences s x.behaviour) n (m x.state) (m x.creation) (m x.behaviour) in
    recast-def s w b
    ∙ (rw (p0, piece-pack y v w old new more state_at b o.state p1, piece-pack y v w old new more (creation_at s) b o.creation p2, piece-pack y v w old new more (behaviour_at s) b o.behaviour p3) (sym (pack-def (resized y w new) x)))

-- ---- a parcel

message-def : (y : Layout) (w : ℕ) (b : List ℕ) → recast_message y w b ≡ part 0 dependences_at b ++ recast_part y w dependences_at b
unfolding recast_message
message-def y w b = refl

pack-message-def : (y : Layout) (m : Message) → pack_message y m ≡ be 1 (128 + m.addressee) ++ be 2 m.number ++ be 4 m.value ++ pack_dependences y m.dependences
unfolding pack_message
pack-message-def y m = refl

module _ (y : Layout) (v w : ℕ) (old new : Bool) (b : List ℕ) (n : length b ≡ message_bytes (resized y v old)) where
  m-0 : length (part 0 dependences_at b) ≡ dependences_at
  m-0 = length_part 0 dependences_at b (omega arith)

  m_1 : length (recast_part (resized y v old) w dependences_at b) ≡ map_bytes (resized y w new)
  m_1 = length-piece y v w old new dependences_at b (omega arith)

  pub length-recast_message : length (recast_message (resized y v old) w b) ≡ message_bytes (resized y w new)
  length-recast_message = ap length (message-def (resized y v old) w b) ∙ length_two dependences_at (map_bytes (resized y w new)) (part 0 dependences_at b) (recast_part (resized y v old) w dependences_at b) m-0 m_1

  pub front-message : (i j : ℕ) → i + j ≤ dependences_at → part i j (recast_message (resized y v old) w b) ≡ part i j b
  front-message i j h =
      ap (part i j) (message-def (resized y v old) w b)
      ∙ front-two dependences_at (map_bytes (resized y w new)) (part 0 dependences_at b) (recast_part (resized y v old) w dependences_at b) m-0 m_1 i j h
      ∙ part-part i j 0 dependences_at b h
      ∙ ap (λ (k : ℕ). part k j b) (zero-add i)

  e-m : part dependences_at (map_bytes (resized y w new)) (recast_message (resized y v old) w b) ≡ recast_part (resized y v old) w dependences_at b
  e-m = ap (part dependences_at (map_bytes (resized y w new))) (message-def (resized y v old) w b) ∙ behind-whole dependences_at (map_bytes (resized y w new)) (part 0 dependences_at b) (recast_part (resized y v old) w dependences_at b) m-0 m_1

  pub first-recast_message : get_or (recast_message (resized y v old) w b) 0 0 ≡ get_or b 0 0
  first-recast_message = first-same (recast_message (resized y v old) w b) b (front-message 0 1 (omega arith))

  module _ (o : Octets b) (more : bound v ≤ bound w) where
    pub unpack-recast_message : unpack_message (resized y w new) (recast_message (resized y v old) w b) ≡ unpack_message (resized y v old) b
    unfolding unpack_message
    unpack-recast_message = rw (
      first-recast_message,
      front-message 1 2 (omega arith),
      front-message 3 4 (omega arith),
      unpack-piece y v w old new dependences_at b (omega arith) o more dependences_at (recast_message (resized y v old) w b) e-m,
    )

    pub recast_message-back : recast_message (resized y w new) v (recast_message (resized y v old) w b) ≡ b
    recast_message-back =
        message-def (resized y w new) v (recast_message (resized y v old) w b)
        ∙ (rw (
          front-message 0 dependences_at (omega arith),
          piece_back y v w old new dependences_at b (omega arith) o more dependences_at (recast_message (resized y v old) w b) e-m,
          joined dependences_at (map_bytes (resized y v old)) b,
        )
        (part-whole (message_bytes (resized y v old)) b n))

module _ (y : Layout) (v w : ℕ) (old new : Bool) (more : bound v ≤ bound w) where
  pub recast_message-pack : (m : Message) → MessageOk (resized y v old) m → recast_message (resized y v old) w (pack_message (resized y v old) m) ≡ pack_message (resized y w new) m
  recast_message-pack m o =
      let s : Layout = resized y v old in
      let f : List ℕ = be 1 (128 + m.addressee) ++ be 2 m.number ++ be 4 m.value in
      let b : List ℕ = pack_message s m in
      let n : length f ≡ dependences_at = simp (length-append, length-be) in
      let k : length (pack_dependences s m.dependences) ≡ map_bytes s = length-pack_map v y.places y.transactors m.dependences in
      let p0 : part 0 dependences_at b ≡ f = ap (part 0 dependences_at) (pack-message-def s m) ∙ front-two dependences_at (map_bytes s) f (pack_dependences s m.dependences) n k 0 dependences_at (omega arith) ∙ part-whole dependences_at f n in
      let p1 : part dependences_at (map_bytes s) b ≡ pack_dependences s m.dependences = ap (part dependences_at (map_bytes s)) (pack-message-def s m) ∙ behind-whole dependences_at (map_bytes s) f (pack_dependences s m.dependences) n k in
      message-def s w b
      ∙ (rw (p0, piece-pack y v w old new more dependences_at b o.dependences p1) (sym (pack-message-def (resized y w new) m)))

  pub recast_message-zeros : recast_message (resized y v old) w (zeros (message_bytes (resized y v old))) ≡ zeros (message_bytes (resized y w new))
  recast_message-zeros =
      let s : Layout = resized y v old in
      let b : List ℕ = zeros (message_bytes s) in
      let p0 : part 0 dependences_at b ≡ zeros dependences_at = part-zeros 0 dependences_at (message_bytes s) (omega arith) in
      let p1 : part dependences_at (map_bytes s) b ≡ pack_map v y.places y.transactors (empty_map y.places y.transactors) = part-zeros dependences_at (map_bytes s) (message_bytes s) (omega arith) ∙ sym (pack-empty_map v y.places y.transactors) in
      let p2 : recast_part s w dependences_at b ≡ zeros (map_bytes (resized y w new)) = piece-pack y v w old new more dependences_at b (map_ok-empty v y.places y.transactors) p1 ∙ pack-empty_map w y.places y.transactors in
      message-def s w b ∙ (rw (p0, p2) (zeros-append dependences_at (map_bytes (resized y w new))))
