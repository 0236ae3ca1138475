-- The round trip: what is packed is unpacked again, and a well-formed image is the packing of what it says.
use Prim.Native.Nat.{ℕ, ◌+◌, ◌*◌, ◌/◌, ◌%◌, ◌≤◌, ◌<◌, zero, suc, ◌-◌}
use mathlib.Core.Bool.{Bool, true, false, not}
use mathlib.Core.Path.{◌≡◌, refl, sym, ap, ◌∙◌}
use mathlib.Core.List.{List, [], ◌∷◌, ◌++◌, append_assoc}
use native.Mathlib.Nat.{add-zero}
use native.Mathlib.Omega.{arith}
use borrow.Author.Tests.{lt-ltb, le-ltb, eqb-true}
use lib.ListN.{length, get_or, length-append}
use lib.Seq.{get_or-set_same}
use Rattle.octets.specs.Bytes.{pick, ◌or◌, put, part, tabulate, zeros, Octets}
use Rattle.octets.specs.Numbers.{be, of_be, bound}
use Rattle.octets.proofs.Put.{part-def, part-put, put_first, put-mid, put_last, put_whole, part-add, part-whole, length_part, get_d_part, octets-part}
use Rattle.octets.proofs.Numbers.{length-be, put-be-one, be-one, of_be-be, be-byte, be-of_be}
use Rattle.octets.proofs.Zero.{get_or-zeros, zeros-is, both}
use Rattle.octets.proofs.Chunks.{step, tabulate-same, tabulate-get_or, sides}
use Rattle.octets.proofs.Runs.{joined, run-back}
use Rattle.marks.specs.Packed.{bit}
use Rattle.maps.specs.declared.DependenceMap.{DependenceMap}
use Rattle.maps.specs.Packed.{unpack_map}
use Rattle.maps.proofs.Packed.{length-pack_map, unpack-pack_map, pack-unpack_map}
use Rattle.rules.specs.Layout.{Layout, widest, map_bytes, value_at, saved_at, state_at, creation_at, behaviour_at, transactor_bytes, dependences_at, message_bytes, transactor_address, message_address, image_bytes, head_bytes, limits_bytes}
use Rattle.rules.specs.State.{Transactor, Message, State, no_transactor, no_message, transactor_at, message_at, with_opened}
use Rattle.rules.specs.Pack.{pack_dependences, pack_transactor, pack_message, pack_transactor_at, pack_message_at, pack, unpack_dependences, unpack_transactor, unpack_message, transactor_part, message_part, unpack_transactor_at, unpack_message_at, vacant_at, waiting_in, unpack_limits, unpack, pack_head, pack_limits, pack_front}
use Rattle.rules.specs.Internal.Well.{DependencesOk, TransactorOk, MessageOk, LimitsOk, stored, counted, Packable}
use Rattle.rules.proofs.Pack.Sizes.{length-pack_transactor, length-pack_message, length-pack_transactor_at, length-pack_message_at, length-pack_limits, length-pack}
use Rattle.rules.proofs.Pack.Stores.{put-status, put-value, put-saved, put-state, put-creation, put-behaviour, put-transactor, put-message, pack-with_opened, pack-with_next, pack-with_limits, at-waiting, at-free}
use Rattle.rules.proofs.Places.{place_from-is}
use mathlib.Core.Logic.{⊎_elim}
use lib.Dec.{eqb}
use Rattle.rules.specs.Form.{map_formed, limits_zero, transactor_zeros, message_zeros, no_gap, well_formed}
use Rattle.rules.proofs.Form.Clauses.{Clauses, clauses-of}
use Rattle.rules.proofs.Pack.Loads.{length-transactor_part, length-message_part, octets-transactor_part, octets-message_part, read-transactor, read-message, read-limits, unpack-waiting, waiting-taken, waiting-vacant}

-- ---- unpacked again

-- ---- bytes that a put does not change stand there

stands : (at n : ℕ) (bs l : List ℕ) → length bs ≡ n → at + n ≤ length l → put at bs l ≡ l → part at n l ≡ bs
stands at n bs l e h same =
    let f : at + length bs ≤ length l = omega arith in
    ap (part at n) (sym same) ∙ ap (λ (k : ℕ). part at k (put at bs l)) (sym e) ∙ part-put at bs l f

number-stands : (at w v : ℕ) (l : List ℕ) → v < bound w → at + w ≤ length l → put at (be w v) l ≡ l → of_be w (part at w l) ≡ v
number-stands at w v l b h same = ap (of_be w) (stands at w (be w v) l (length-be w v) h same) ∙ of_be-be w v b

byte-stands : (at z : ℕ) (l : List ℕ) → z < 256 → at < length l → put at (be 1 z) l ≡ l → get_or l at 0 ≡ z
byte-stands at z l b h same = ap (λ (x : List ℕ). get_or x at 0) (sym same ∙ put-be-one at z l h b) ∙ get_or-set_same l at z 0 h

pub map-part : (y : Layout) (at : ℕ) (m : DependenceMap) (l : List ℕ) → at + map_bytes y ≤ length l → put at (pack_dependences y m) l ≡ l → part at (map_bytes y) l ≡ pack_dependences y m
map-part y at m l h same = stands at (map_bytes y) (pack_dependences y m) l (length-pack_map y.width y.places y.transactors m) h same

map-stands : (y : Layout) (at : ℕ) (m : DependenceMap) (l : List ℕ) → DependencesOk y m → at + map_bytes y ≤ length l → put at (pack_dependences y m) l ≡ l → unpack_dependences y at l ≡ m
map-stands y at m l o h same = ap (unpack_map y.width y.places y.transactors) (map-part y at m l h same) ∙ unpack-pack_map o

-- ---- one take, one parcel

module _ (y : Layout) where
  pub unpack-pack_transactor : (x : Transactor) → TransactorOk y x → unpack_transactor y (pack_transactor y x) ≡ x
  unfolding unpack_transactor
  unpack-pack_transactor x o =
      let l : List ℕ = pack_transactor y x in
      let n : length l ≡ transactor_bytes y = length-pack_transactor y x in
      let a : get_or l 0 0 ≡ 64 * x.status = byte-stands 0 (64 * x.status) l (omega (arith, o.status)) (omega arith) (put-status y x x.status) in
      let b : 64 * x.status / 64 ≡ x.status = omega arith in
      let c : of_be 4 (part value_at 4 l) ≡ x.value = number-stands value_at 4 x.value l o.value (omega arith) (put-value y x x.value) in
      let d : of_be 4 (part saved_at 4 l) ≡ x.saved = number-stands saved_at 4 x.saved l o.saved (omega arith) (put-saved y x x.saved) in
      let e : unpack_dependences y state_at l ≡ x.state = map-stands y state_at x.state l o.state (omega arith) (put-state y x x.state) in
      let f : unpack_dependences y (creation_at y) l ≡ x.creation = map-stands y (creation_at y) x.creation l o.creation (omega arith) (put-creation y x x.creation) in
      let g : unpack_dependences y (behaviour_at y) l ≡ x.behaviour = map-stands y (behaviour_at y) x.behaviour l o.behaviour (omega arith) (put-behaviour y x x.behaviour) in
      rw (a, b, c, d, e, f, g)

  module _ (m : Message) where
    abbrev flag : List ℕ
    flag = be 1 (128 + m.addressee)

    abbrev rest : List ℕ
    rest = be 4 m.value ++ pack_dependences y m.dependences

    same_flag : put 0 flag (pack_message y m) ≡ pack_message y m
    unfolding pack_message
    same_flag = simp append_assoc (put_first flag flag (be 2 m.number ++ rest) refl)

    same_number : put 1 (be 2 m.number) (pack_message y m) ≡ pack_message y m
    unfolding pack_message
    same_number = simp append_assoc (simp append_assoc at (put-mid 1 (be 2 m.number) flag (be 2 m.number) rest (length-be 1 (128 + m.addressee)) refl))

    same-value : put 3 (be 4 m.value) (pack_message y m) ≡ pack_message y m
    unfolding pack_message
    same-value = put-mid 3 (be 4 m.value) (flag ++ be 2 m.number) (be 4 m.value) (pack_dependences y m.dependences) (simp (length-append, length-be)) refl

    pub same-dependences : put dependences_at (pack_dependences y m.dependences) (pack_message y m) ≡ pack_message y m
    unfolding pack_message
    same-dependences = put_last dependences_at (pack_dependences y m.dependences) (flag ++ be 2 m.number ++ be 4 m.value) (pack_dependences y m.dependences) (simp (length-append, length-be)) refl

    pub flag-stands : m.addressee < 16 → get_or (pack_message y m) 0 0 ≡ 128 + m.addressee
    flag-stands h = byte-stands 0 (128 + m.addressee) (pack_message y m) (omega arith) (omega (arith, length-pack_message y m)) same_flag

    pub unpack-pack_message : MessageOk y m → unpack_message y (pack_message y m) ≡ m
    unfolding unpack_message
    unpack-pack_message o =
        let l : List ℕ = pack_message y m in
        let n : length l ≡ message_bytes y = length-pack_message y m in
        let a : get_or l 0 0 ≡ 128 + m.addressee = flag-stands o.addressee in
        let b : (128 + m.addressee) % 16 ≡ m.addressee = omega (arith, o.addressee) in
        let c : of_be 2 (part 1 2 l) ≡ m.number = number-stands 1 2 m.number l o.number (omega arith) same_number in
        let d : of_be 4 (part 3 4 l) ≡ m.value = number-stands 3 4 m.value l o.value (omega arith) same-value in
        let e : unpack_dependences y dependences_at l ≡ m.dependences = map-stands y dependences_at m.dependences l o.dependences (omega arith) same-dependences in
        rw (a, b, c, d, e)

-- ---- the image

module _ (y : Layout) (s : State) where
  pub transactor_part-pack : (t : ℕ) → t < y.transactors → transactor_part y (pack y s) t ≡ pack_transactor_at y s t
  unfolding transactor_part
  transactor_part-pack t h =
      let b : List ℕ = pack_transactor_at y s t in
      let n : length b ≡ transactor_bytes y = length-pack_transactor_at y s t in
      let z : transactor_address y t + 0 ≡ transactor_address y t = add-zero (transactor_address y t) in
      let e : put (transactor_address y t) b (pack y s) ≡ pack y s = rw z at (put-transactor y s s t 0 b h (omega arith) refl refl (put_whole b b refl) (λ i p. refl)) in
      stands (transactor_address y t) (transactor_bytes y) b (pack y s) n (rw (length-pack y s) (omega (arith, step (transactor_bytes y) t y.transactors h))) e

  pub message_part-pack : (k : ℕ) → k < y.messages → message_part y (pack y s) k ≡ pack_message_at y s k
  unfolding message_part
  message_part-pack k h =
      let b : List ℕ = pack_message_at y s k in
      let n : length b ≡ message_bytes y = length-pack_message_at y s k in
      let z : message_address y k + 0 ≡ message_address y k = add-zero (message_address y k) in
      let e : put (message_address y k) b (pack y s) ≡ pack y s = rw z at (put-message y s s k 0 b h (omega arith) refl refl (put_whole b b refl) (λ i p. refl)) in
      stands (message_address y k) (message_bytes y) b (pack y s) n (rw (length-pack y s) (omega (arith, step (message_bytes y) k y.messages h))) e

  module _ (o : Packable y s) where
    one-transactor : (t : ℕ) → t < y.transactors → unpack_transactor_at y (pack y s) t ≡ get_or s.transactors t no_transactor
    unfolding unpack_transactor_at pack_transactor_at transactor_at
    one-transactor t h = ap (unpack_transactor y) (transactor_part-pack t h) ∙ unpack-pack_transactor y (transactor_at s t) (o.transactors t h)

    one-message : (k : ℕ) → k < length s.messages → unpack_message_at y (pack y s) k ≡ get_or s.messages k no_message
    unfolding unpack_message_at message_at
    one-message k h = ap (unpack_message y) (message_part-pack k (omega (arith, o.few)) ∙ at-waiting y s k h) ∙ unpack-pack_message y (message_at s k) (o.messages k h)

    pub vacant-waiting : (k : ℕ) → k < length s.messages → vacant_at y (pack y s) k ≡ false
    unfolding vacant_at
    vacant-waiting k h =
        let a : message_part y (pack y s) k ≡ pack_message y (message_at s k) = message_part-pack k (omega (arith, o.few)) ∙ at-waiting y s k h in
        let b : get_or (pack_message y (message_at s k)) 0 0 ≡ 128 + (message_at s k).addressee = flag-stands y (message_at s k) (o.messages k h).addressee in
        rw (a, b) (le-ltb (128 + (message_at s k).addressee) 128 (omega arith))

    pub vacant-free : (k : ℕ) → k < y.messages → length s.messages ≤ k → vacant_at y (pack y s) k ≡ true
    unfolding vacant_at
    vacant-free k h p =
        let a : message_part y (pack y s) k ≡ zeros (message_bytes y) = message_part-pack k h ∙ at-free y s k p in
        rw (a, get_or-zeros) (lt-ltb 0 128 (omega arith))

    pub waiting-pack : waiting_in y (pack y s) ≡ length s.messages
    unfolding waiting_in
    waiting-pack = place_from-is (vacant_at y (pack y s)) 0 y.messages (length s.messages) (omega arith) (omega (arith, o.few))
        (λ k a h. vacant-waiting k h)
        (λ (h : length s.messages < 0 + y.messages). vacant-free (length s.messages) (omega arith) (omega arith))

    transactors-there : tabulate y.transactors (unpack_transactor_at y (pack y s)) ≡ s.transactors
    transactors-there =
        tabulate-same y.transactors (unpack_transactor_at y (pack y s)) (λ t. get_or s.transactors t no_transactor) one-transactor
        ∙ tabulate-get_or s.transactors no_transactor y.transactors o.many

    messages-there : tabulate (length s.messages) (unpack_message_at y (pack y s)) ≡ s.messages
    messages-there =
        tabulate-same (length s.messages) (unpack_message_at y (pack y s)) (λ k. get_or s.messages k no_message) one-message
        ∙ tabulate-get_or s.messages no_message (length s.messages) refl

    -- the bytes of the limits
    limits-stand : part head_bytes (limits_bytes y) (pack y s) ≡ pack_limits y s.limits
    limits-stand = stands head_bytes (limits_bytes y) (pack_limits y s.limits) (pack y s) (length-pack_limits y s.limits) (rw (length-pack y s) (omega arith)) (pack-with_limits y s s.limits)

    limits-there : unpack_limits y (pack y s) ≡ s.limits
    unfolding unpack_limits pack_limits
    limits-there = go o.limits
      where
        go : LimitsOk y s.limits → pick y.limited (record { transactors = get_or (pack y s) 4 0; messages = get_or (pack y s) 5 0; checkpoints = get_or (pack y s) 6 0 }) (widest y) ≡ s.limits
        go (counted e f) = rw e (sym f)
        go (stored e a b c) =
            let z : part 4 4 (pack y s) ≡ s.limits.transactors ∷ s.limits.messages ∷ s.limits.checkpoints ∷ 0 ∷ [] =
            ap (λ (t : Bool). part 4 (4 * bit t) (pack y s)) (sym e) ∙ limits-stand
            ∙ rw (e, be-one s.limits.transactors a, be-one s.limits.messages b, be-one s.limits.checkpoints c, be-one 0 (omega arith)) in
            let byte : (i : ℕ) → i < 4 → get_or (pack y s) (4 + i) 0 ≡ get_or (s.limits.transactors ∷ s.limits.messages ∷ s.limits.checkpoints ∷ 0 ∷ []) i 0 =
            λ i h. sym (get_d_part 4 4 (pack y s) i h) ∙ ap (λ (x : List ℕ). get_or x i 0) z in
            ap (λ (t : Bool). pick t (record { transactors = get_or (pack y s) 4 0; messages = get_or (pack y s) 5 0; checkpoints = get_or (pack y s) 6 0 }) (widest y)) e
            ∙ (λ i. record { transactors = byte 0 (omega arith) i; messages = byte 1 (omega arith) i; checkpoints = byte 2 (omega arith) i })

    pub unpack-pack : unpack y (pack y s) ≡ s
    unfolding unpack with_opened
    unpack-pack =
        let n : length (pack y s) ≡ image_bytes y = length-pack y s in
        let a : get_or (pack y s) 0 0 ≡ s.opened = byte-stands 0 s.opened (pack y s) o.opened (omega arith) (pack-with_opened y s s.opened) in
        let b : of_be 2 (part 1 2 (pack y s)) ≡ s.next = number-stands 1 2 s.next (pack y s) o.next (omega arith) (pack-with_next y s s.next) in
        rw (limits-there, a, b, transactors-there, waiting-pack, messages-there)

-- ---- packed again

module _ (y : Layout) (b : List ℕ) (o : Octets b) where
  number-back : (at w : ℕ) → at + w ≤ length b → be w (of_be w (part at w b)) ≡ part at w b
  number-back at w h = be-of_be w (part at w b) (length_part at w b h) (octets-part at w b o)

  map_back : (s : State) (at : ℕ) → at + map_bytes y ≤ length b → map_formed y s at b ≡ true → pack_dependences y (unpack_dependences y at b) ≡ part at (map_bytes y) b
  unfolding map_formed
  map_back s at h f =
      pack-unpack_map y.width y.places y.transactors s.limits.checkpoints s.opened (part at (map_bytes y) b) (length_part at (map_bytes y) b h) (octets-part at (map_bytes y) b o) f

  -- ---- one take, one parcel

  pub pack-unpack_transactor : (s : State) → length b ≡ transactor_bytes y → get_or b 0 0 % 64 ≡ 0
      → map_formed y s state_at b ≡ true → map_formed y s (creation_at y) b ≡ true → map_formed y s (behaviour_at y) b ≡ true
      → pack_transactor y (unpack_transactor y b) ≡ b
  unfolding pack_transactor unpack_transactor
  pack-unpack_transactor s n z f g h =
      let m : ℕ = map_bytes y in
      let a : 64 * (get_or b 0 0 / 64) ≡ get_or b 0 0 = omega arith in
      rw (
        a,
        be-byte 0 b (omega arith) o,
        number-back value_at 4 (omega arith),
        number-back saved_at 4 (omega arith),
        map_back s state_at (omega arith) f,
        map_back s (creation_at y) (omega arith) g,
        map_back s (behaviour_at y) (omega arith) h,
        joined value_at 4 b,
        joined saved_at 4 b,
        joined state_at m b,
        joined (creation_at y) m b,
        joined (behaviour_at y) m b,
      )
      (part-whole (transactor_bytes y) b n)

  pub pack-unpack_message : (s : State) → length b ≡ message_bytes y → get_or b 0 0 / 16 ≡ 8 → map_formed y s dependences_at b ≡ true
      → pack_message y (unpack_message y b) ≡ b
  unfolding pack_message unpack_message
  pack-unpack_message s n z f =
      let m : ℕ = map_bytes y in
      let a : 128 + get_or b 0 0 % 16 ≡ get_or b 0 0 = omega arith in
      rw (
        a,
        be-byte 0 b (omega arith) o,
        number-back 1 2 (omega arith),
        number-back 3 4 (omega arith),
        map_back s dependences_at (omega arith) f,
        joined 1 2 b,
        joined 3 4 b,
        joined dependences_at m b,
      )
      (part-whole (message_bytes y) b n)

-- ---- places in which no parcel waits

module _ (y : Layout) (img : List ℕ) (gapless : (k : ℕ) → k < y.messages → no_gap y img k ≡ true) where
  next-vacant : (k : ℕ) → k < y.messages → vacant_at y img k ≡ true → vacant_at y img (k + 1) ≡ true
  unfolding no_gap
  next-vacant k h e = rw e at (gapless k h)

  -- once there is none, there is none behind
  vacant-from : (k d : ℕ) → k + d < y.messages → vacant_at y img k ≡ true → vacant_at y img (k + d) ≡ true
  vacant-from k zero h e = rw add-zero e
  vacant-from k (suc d) h e =
      let s : k + d + 1 ≡ k + suc d = omega arith in
      rw s at (next-vacant (k + d) (omega arith) (vacant-from k d (omega arith) e))

  pub vacant-behind : (k : ℕ) → k < y.messages → waiting_in y img ≤ k → vacant_at y img k ≡ true
  vacant-behind k h p =
      let n : ℕ = waiting_in y img in
      let s : n + (k - n) ≡ k = omega arith in
      rw s at (vacant-from n (k - n) (omega arith) (waiting-vacant y img (omega arith)))

-- ---- the image

module _ (y : Layout) (img : List ℕ) (whole : length img ≡ image_bytes y) (o : Octets img) where
  head-back : get_or img 3 0 ≡ 0 → pack_head (unpack y img) ≡ part 0 head_bytes img
  unfolding pack_head unpack
  head-back z =
      let e : be 1 0 ≡ part 3 1 img = ap (be 1) (sym z) ∙ be-byte 3 img (omega arith) o in
      rw (e, be-byte 0 img (omega arith) o, number-back y img o 1 2 (omega arith), joined 1 2 img, joined 3 1 img)

  limits-back : limits_zero y img ≡ true → pack_limits y (unpack y img).limits ≡ part head_bytes (limits_bytes y) img
  unfolding limits_zero pack_limits
  limits-back z = go y.limited refl z
    where
      room : y.limited ≡ true → 8 ≤ length img
      room e = omega (arith, whole, ap bit e)

      go : (t : Bool) → y.limited ≡ t → not t or eqb (get_or img 7 0) 0 ≡ true
          → pick t (be 1 (unpack y img).limits.transactors ++ be 1 (unpack y img).limits.messages ++ be 1 (unpack y img).limits.checkpoints ++ be 1 0) [] ≡ part 4 (4 * bit t) img
      go true e z =
          let last : be 1 0 ≡ part 7 1 img = ap (be 1) (sym (eqb-true (get_or img 7 0) 0 z)) ∙ be-byte 7 img (omega (arith, room e)) o in
          let four : part 4 4 img ≡ part 4 1 img ++ part 5 1 img ++ part 6 1 img ++ part 7 1 img =
          part-add 4 3 1 img ∙ ap (λ (x : List ℕ). x ++ part 7 1 img) (part-add 4 2 1 img ∙ ap (λ (x : List ℕ). x ++ part 6 1 img) (part-add 4 1 1 img)) in
          rw (read-limits y img e, last, be-byte 4 img (omega (arith, room e)) o, be-byte 5 img (omega (arith, room e)) o, be-byte 6 img (omega (arith, room e)) o, four)
      go false e z = sym (part-def 4 0 img)

  transactor-back : (t : ℕ) → t < y.transactors → transactor_zeros y img t ≡ true → pack_transactor_at y (unpack y img) t ≡ transactor_part y img t
  unfolding transactor_zeros pack_transactor_at unpack_transactor_at
  transactor-back t h e =
      let b : List ℕ = transactor_part y img t in
      let s : State = unpack y img in
      let e0 = both (eqb (get_or b 0 0 % 64) 0) _ e in
      let e1 = both (map_formed y s state_at b) _ e0.1 in
      let e2 = both (map_formed y s (creation_at y) b) _ e1.1 in
      let e3 = both (map_formed y s (behaviour_at y) b) _ e2.1 in
      ap (pack_transactor y) (read-transactor y img t h)
      ∙ pack-unpack_transactor y b (octets-transactor_part y img o t) s (length-transactor_part y img whole t h) (eqb-true (get_or b 0 0 % 64) 0 e0.0) e1.0 e2.0 e3.0

  module _ (k : ℕ) (below : k < y.messages) (zeroed : message_zeros y img k ≡ true) where
    message-back : k < waiting_in y img → pack_message_at y (unpack y img) k ≡ message_part y img k
    unfolding message_zeros unpack_message_at
    message-back h =
        let b : List ℕ = message_part y img k in
        let s : State = unpack y img in
        let e = both (eqb (get_or b 0 0 / 16) 8) _ (rw (waiting-taken y img k h) at zeroed) in
        at-waiting y (unpack y img) k (omega (arith, unpack-waiting y img))
        ∙ ap (pack_message y) (read-message y img k h)
        ∙ pack-unpack_message y b (octets-message_part y img o k) s (length-message_part y img whole k below) (eqb-true (get_or b 0 0 / 16) 8 e.0) e.1

    free_back : waiting_in y img ≤ k → vacant_at y img k ≡ true → pack_message_at y (unpack y img) k ≡ message_part y img k
    unfolding message_zeros
    free_back h v =
        at-free y (unpack y img) k (omega (arith, unpack-waiting y img))
        ∙ sym (zeros-is (message_part y img k) (rw v at zeroed) ∙ ap zeros (length-message_part y img whole k below))

  module _ (top : get_or img 3 0 ≡ 0) (fourth : limits_zero y img ≡ true)
      (transactor-zeros : (t : ℕ) → t < y.transactors → transactor_zeros y img t ≡ true)
      (message-zeros : (k : ℕ) → k < y.messages → message_zeros y img k ≡ true)
      (gapless : (k : ℕ) → k < y.messages → no_gap y img k ≡ true) where
    place-back : (k : ℕ) → k < y.messages → pack_message_at y (unpack y img) k ≡ message_part y img k
    place-back k h = ⊎_elim
        (λ (p : k < waiting_in y img). message-back k h (message-zeros k h) p)
        (λ (p : waiting_in y img ≤ k). free_back k h (message-zeros k h) p (vacant-behind y img gapless k h p))
        (sides k (waiting_in y img))

    pub pack-unpack : pack y (unpack y img) ≡ img
    unfolding pack pack_front transactor_part message_part
    pack-unpack =
        let w : ℕ = transactor_bytes y in
        let v : ℕ = message_bytes y in
        let front : ℕ = transactor_address y y.transactors in
        rw (
          head-back top,
          limits-back fourth,
          run-back (head_bytes + limits_bytes y) w y.transactors (pack_transactor_at y (unpack y img)) img (omega arith) (λ t h. transactor-back t h (transactor-zeros t h)),
          run-back front v y.messages (pack_message_at y (unpack y img)) img (omega arith) place-back,
          joined head_bytes (limits_bytes y) img,
          joined (head_bytes + limits_bytes y) (w * y.transactors) img,
          joined front (v * y.messages) img,
        )
        (part-whole (image_bytes y) img whole)

  pub pack-unpack-formed : well_formed y img ≡ true → pack y (unpack y img) ≡ img
  pack-unpack-formed e =
      let c : Clauses y img = clauses-of y img e in
      pack-unpack c.zero c.fourth c.transactors c.messages c.gap
