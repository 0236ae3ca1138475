-- Stores: what a put of one field's bytes makes of the packed state.
use Prim.Native.Nat.{ℕ, zero, suc, ◌+◌, ◌-◌, ◌*◌, ◌≤◌, ◌<◌}
use mathlib.Core.Path.{◌≡◌, refl, sym, ap, ◌∙◌, subst}
use mathlib.Core.List.{List, [], ◌∷◌, ◌++◌, append_assoc}
use mathlib.Core.Logic.{⊎_elim}
use native.Mathlib.Nat.{add_assoc, add-zero}
use native.Mathlib.Numerals.{add-one}
use native.Mathlib.Omega.{arith}
use borrow.Author.Tests.{lt-ltb, le-ltb}
use lib.ListN.{length, take, drop, get_or, length-append, length-drop, length-set, get_or-append}
use lib.Seq.{set-get_or, set-set, get_or-set_same, get_or-set_other, get_or-take, get_or-drop, get_or-append-add, get_or_at, length-take-le}
use Rattle.octets.specs.Bytes.{put, part, chunks, tabulate, zeros}
use Rattle.octets.specs.Numbers.{be}
use Rattle.octets.proofs.Put.{put-left, put_right, put_whole, put_first, put_last, put-mid, put-behind, part_right}
use Rattle.octets.proofs.Numbers.{length-be, be-one}
use Rattle.octets.proofs.Chunks.{step, sides, length-chunks, put-chunk, remove-chunk, fill_none, fill_more, fill-all}
use Rattle.marks.specs.declared.History.{History}
use Rattle.marks.specs.Packed.{pack_history}
use Rattle.marks.proofs.Packed.{length-pack_history}
use Rattle.maps.specs.declared.DependenceMap.{DependenceMap}
use Rattle.maps.specs.Map.{with_entry, Sized}
use Rattle.maps.proofs.Packed.{length-pack_map}
use Rattle.maps.proofs.Placed.{put-entry}
use Rattle.rules.specs.Layout.{Layout, Limits, base, limits_of, history_bytes, map_bytes, value_at, saved_at, state_at, creation_at, behaviour_at, transactor_bytes, dependences_at, message_bytes, head_bytes, limits_bytes, transactor_address, message_address}
use Rattle.rules.specs.State.{Transactor, Message, State, no_transactor, no_message, transactor_at, message_at, with_status, with_value, with_state, with_behaviour, with_transactor, with_opened, with_message, without_message}
use Rattle.rules.specs.Pack.{pack_dependences, pack_transactor, pack_message, pack_transactor_at, pack_message_at, pack_head, pack_limits, pack_front, pack}
use Rattle.rules.proofs.Pack.Sizes.{length-pack_head, length-pack_limits, length-pack_front, length-pack_transactor, length-pack_message, length-pack_transactor_at, length-pack_message_at}

-- the packed limits, a byte each
pub limits-bytes : (a b c : ℕ) → a < 256 → b < 256 → c < 256 → pack_limits base (limits_of a b c) ≡ a ∷ b ∷ c ∷ 0 ∷ []
unfolding pack_limits
limits-bytes a b c p q r = rw (be-one a p, be-one b q, be-one c r, be-one 0 (omega arith))

-- ---- setters that the rules do not name

abbrev pub with_saved : Transactor → ℕ → Transactor
with_saved x v = record { status = x.status; value = x.value; saved = v; state = x.state; creation = x.creation; behaviour = x.behaviour }

abbrev pub with_creation : Transactor → DependenceMap → Transactor
with_creation x m = record { status = x.status; value = x.value; saved = x.saved; state = x.state; creation = m; behaviour = x.behaviour }

abbrev pub with_next : State → ℕ → State
with_next s n = record { limits = s.limits; opened = s.opened; next = n; transactors = s.transactors; messages = s.messages }

abbrev pub with_limits : State → Limits → State
with_limits s m = record { limits = m; opened = s.opened; next = s.next; transactors = s.transactors; messages = s.messages }

-- s with m behind the parcels that wait
abbrev pub appended : State → Message → State
appended s m = record { limits = s.limits; opened = s.opened; next = s.next; transactors = s.transactors; messages = s.messages ++ (m ∷ []) }

-- the parcel that with_message adds
abbrev pub sent : State → ℕ → ℕ → DependenceMap → Message
sent s to v m = record { addressee = to; number = s.next; value = v; dependences = m }

-- ---- one take

module _ (y : Layout) (x : Transactor) where
  -- what stands before and after each field
  abbrev head1 : List ℕ
  head1 = be 1 (64 * x.status)

  abbrev head2 : List ℕ
  head2 = head1 ++ be 4 x.value

  abbrev head3 : List ℕ
  head3 = head2 ++ be 4 x.saved

  abbrev head4 : List ℕ
  head4 = head3 ++ pack_dependences y x.state

  abbrev head5 : List ℕ
  head5 = head4 ++ pack_dependences y x.creation

  abbrev tail5 : List ℕ
  tail5 = pack_dependences y x.behaviour

  abbrev tail4 : List ℕ
  tail4 = pack_dependences y x.creation ++ tail5

  abbrev tail3 : List ℕ
  tail3 = pack_dependences y x.state ++ tail4

  abbrev tail2 : List ℕ
  tail2 = be 4 x.saved ++ tail3

  abbrev tail1 : List ℕ
  tail1 = be 4 x.value ++ tail2

  pub put-status : (st : ℕ) → put 0 (be 1 (64 * st)) (pack_transactor y x) ≡ pack_transactor y (with_status x st)
  unfolding pack_transactor
  put-status st = simp append_assoc (put_first (be 1 (64 * st)) head1 tail1 (length-be 1 (64 * st) ∙ sym (length-be 1 (64 * x.status))))

  pub put-value : (v : ℕ) → put value_at (be 4 v) (pack_transactor y x) ≡ pack_transactor y (with_value x v)
  unfolding pack_transactor
  put-value v = simp append_assoc (simp append_assoc at (put-mid value_at (be 4 v) head1 (be 4 x.value) tail2 (length-be 1 (64 * x.status)) (length-be 4 v ∙ sym (length-be 4 x.value))))

  pub put-saved : (v : ℕ) → put saved_at (be 4 v) (pack_transactor y x) ≡ pack_transactor y (with_saved x v)
  unfolding pack_transactor
  put-saved v = simp append_assoc (simp append_assoc at (put-mid saved_at (be 4 v) head2 (be 4 x.saved) tail3 (simp (length-append, length-be)) (length-be 4 v ∙ sym (length-be 4 x.saved))))

  pub put-state : (m : DependenceMap) → put state_at (pack_dependences y m) (pack_transactor y x) ≡ pack_transactor y (with_state x m)
  unfolding pack_transactor
  put-state m = simp append_assoc (simp append_assoc at (put-mid state_at (pack_dependences y m) head3 (pack_dependences y x.state) tail4 (simp (length-append, length-be)) (simp length-pack_map)))

  -- one history of the state map
  pub put-own : (t : ℕ) (h : History) → Sized y.transactors x.state → t < y.transactors
      → put (state_at + history_bytes y * t) (pack_history y.width y.places h) (pack_transactor y x) ≡ pack_transactor y (with_state x (with_entry x.state t h))
  unfolding pack_transactor
  put-own t h s below =
      let at : ℕ = history_bytes y * t in
      let bs : List ℕ = pack_history y.width y.places h in
      let long : length bs ≡ history_bytes y = length-pack_history y.width y.places h in
      let three : length head3 ≡ state_at = simp (length-append, length-be) in
      let map : length (pack_dependences y x.state) ≡ map_bytes y = length-pack_map y.width y.places y.transactors x.state in
      let four : length head4 ≡ creation_at y = rw (length-append, three, map) in
      let fits : state_at + at + length bs ≤ length head4 = omega (arith, step (history_bytes y) t y.transactors below) in
      let more : state_at + at + length bs ≤ length head5 = rw length-append (omega arith) in
      put-left (state_at + at) bs head5 tail5 more
      ∙ ap (λ (l : List ℕ). l ++ tail5) (put-left (state_at + at) bs head4 (pack_dependences y x.creation) fits)
      ∙ ap (λ (l : List ℕ). l ++ pack_dependences y x.creation ++ tail5)
      (ap (λ (i : ℕ). put (i + at) bs head4) (sym three) ∙ put_right at bs head3 (pack_dependences y x.state) ∙ ap (λ (l : List ℕ). head3 ++ l) (put-entry y.width y.places y.transactors s t h below))

  pub put-creation : (m : DependenceMap) → put (creation_at y) (pack_dependences y m) (pack_transactor y x) ≡ pack_transactor y (with_creation x m)
  unfolding pack_transactor
  put-creation m = simp append_assoc (simp append_assoc at (put-mid (creation_at y) (pack_dependences y m) head4 (pack_dependences y x.creation) tail5 (simp (length-append, length-be, length-pack_map)) (simp length-pack_map)))

  pub put-behaviour : (m : DependenceMap) → put (behaviour_at y) (pack_dependences y m) (pack_transactor y x) ≡ pack_transactor y (with_behaviour x m)
  unfolding pack_transactor
  put-behaviour m = put_last (behaviour_at y) (pack_dependences y m) head5 tail5 (simp (length-append, length-be, length-pack_map)) (simp length-pack_map)

-- ---- the image: what changes is the head, one take or one parcel

abbrev packed_transactors : Layout → State → List ℕ
packed_transactors y s = chunks y.transactors (pack_transactor_at y s)

abbrev packed_messages : Layout → State → List ℕ
packed_messages y s = chunks y.messages (pack_message_at y s)

length_front : (y : Layout) (s : State) → length (pack_front y s ++ packed_transactors y s) ≡ transactor_address y y.transactors
length_front y s = rw (length-append, length-pack_front y s, length-chunks (transactor_bytes y) (pack_transactor_at y s) (length-pack_transactor_at y s) y.transactors)

module _ (y : Layout) (s s' : State) where
  pub put-head : (at : ℕ) (bs : List ℕ) → at + length bs ≤ head_bytes + limits_bytes y → put at bs (pack_front y s) ≡ pack_front y s' → pack_transactor_at y s' ≡ pack_transactor_at y s → pack_message_at y s' ≡ pack_message_at y s
      → put at bs (pack y s) ≡ pack y s'
  unfolding pack
  put-head at bs fits e ts ms =
      let h : at + length bs ≤ length (pack_front y s) = rw length-pack_front fits in
      let h' : at + length bs ≤ length (pack_front y s ++ packed_transactors y s) = rw length-append (omega arith) in
      rw (put-left at bs (pack_front y s ++ packed_transactors y s) (packed_messages y s) h', put-left at bs (pack_front y s) (packed_transactors y s) h, e, ts, ms)

  pub put-transactor : (t off : ℕ) (bs : List ℕ) → t < y.transactors → off + length bs ≤ transactor_bytes y
      → pack_front y s' ≡ pack_front y s → pack_message_at y s' ≡ pack_message_at y s
      → put off bs (pack_transactor_at y s t) ≡ pack_transactor_at y s' t → ((i : ℕ) → (i ≡ t → ⊥) → pack_transactor_at y s' i ≡ pack_transactor_at y s i)
      → put (transactor_address y t + off) bs (pack y s) ≡ pack y s'
  unfolding pack
  put-transactor t off bs below fits hd ms here other =
      let w : ℕ = transactor_bytes y in
      let a : transactor_address y t + off ≡ length (pack_front y s) + (w * t + off) = rw length-pack_front (add_assoc (head_bytes + limits_bytes y) (w * t) off) in
      let h : transactor_address y t + off + length bs ≤ length (pack_front y s ++ packed_transactors y s) = rw length_front (omega (arith, step w t y.transactors below)) in
      rw (
        put-left (transactor_address y t + off) bs (pack_front y s ++ packed_transactors y s) (packed_messages y s) h,
        a,
        put_right (w * t + off) bs (pack_front y s) (packed_transactors y s),
        put-chunk w (pack_transactor_at y s) (pack_transactor_at y s') (length-pack_transactor_at y s) y.transactors t off bs below fits (sym here) other,
        hd,
        ms,
      )

  pub put-message : (k off : ℕ) (bs : List ℕ) → k < y.messages → off + length bs ≤ message_bytes y
      → pack_front y s' ≡ pack_front y s → pack_transactor_at y s' ≡ pack_transactor_at y s
      → put off bs (pack_message_at y s k) ≡ pack_message_at y s' k → ((i : ℕ) → (i ≡ k → ⊥) → pack_message_at y s' i ≡ pack_message_at y s i)
      → put (message_address y k + off) bs (pack y s) ≡ pack y s'
  unfolding pack
  put-message k off bs below fits hd ts here other =
      let w : ℕ = message_bytes y in
      let a : message_address y k + off ≡ length (pack_front y s ++ packed_transactors y s) + (w * k + off) = rw length_front (add_assoc (transactor_address y y.transactors) (w * k) off) in
      rw (
        a,
        put_right (w * k + off) bs (pack_front y s ++ packed_transactors y s) (packed_messages y s),
        put-chunk w (pack_message_at y s) (pack_message_at y s') (length-pack_message_at y s) y.messages k off bs below fits (sym here) other,
        hd,
        ts,
      )

-- ---- one take changes

module _ (s : State) (t : ℕ) where
  pub with_transactor-many : (x : Transactor) → length (with_transactor s t x).transactors ≡ length s.transactors
  unfolding with_transactor
  with_transactor-many x = length-set s.transactors t x

  pub with_transactor-here : (x : Transactor) → t < length s.transactors → transactor_at (with_transactor s t x) t ≡ x
  unfolding transactor_at with_transactor
  with_transactor-here x h = get_or-set_same s.transactors t x no_transactor h

  pub with_transactor-other : (x : Transactor) (i : ℕ) → (i ≡ t → ⊥) → transactor_at (with_transactor s t x) i ≡ transactor_at s i
  unfolding transactor_at with_transactor
  with_transactor-other x i n = get_or-set_other s.transactors t i x no_transactor n

  pub with_transactor-same : with_transactor s t (transactor_at s t) ≡ s
  unfolding transactor_at with_transactor
  with_transactor-same = rw set-get_or

  -- what was put there before does not matter
  pub with_transactor-again : (x z : Transactor) → with_transactor (with_transactor s t x) t z ≡ with_transactor s t z
  unfolding with_transactor
  with_transactor-again x z = rw set-set

module _ (y : Layout) (s : State) (t : ℕ) (below : t < y.transactors) (many : length s.transactors ≡ y.transactors) where
  -- some bytes of it
  pub pack-in_transactor : (x : Transactor) (off : ℕ) (bs : List ℕ) → off + length bs ≤ transactor_bytes y → put off bs (pack_transactor y (transactor_at s t)) ≡ pack_transactor y x
      → put (transactor_address y t + off) bs (pack y s) ≡ pack y (with_transactor s t x)
  unfolding pack_front pack_head pack_transactor_at pack_message_at message_at with_transactor
  pack-in_transactor x off bs fits e =
      put-transactor y s (with_transactor s t x) t off bs below fits refl refl
      (e ∙ ap (pack_transactor y) (sym (with_transactor-here s t x (omega arith))))
      (λ i n. ap (pack_transactor y) (with_transactor-other s t x i n))

  -- all of it
  pub pack-with_transactor : (x : Transactor) → put (transactor_address y t) (pack_transactor y x) (pack y s) ≡ pack y (with_transactor s t x)
  pack-with_transactor x =
      let a : transactor_address y t + 0 ≡ transactor_address y t = add-zero (transactor_address y t) in
      let n : length (pack_transactor y x) ≡ transactor_bytes y = length-pack_transactor y x in
      rw a at (pack-in_transactor x 0 (pack_transactor y x) (omega arith) (put_whole (pack_transactor y x) (pack_transactor y (transactor_at s t)) (n ∙ sym (length-pack_transactor y (transactor_at s t)))))

-- ---- the head

module _ (y : Layout) (s : State) where
  put-opened : (n : ℕ) → put 0 (be 1 n) (pack_front y s) ≡ pack_front y (with_opened s n)
  unfolding pack_front pack_head with_opened
  put-opened n = simp append_assoc (put_first (be 1 n) (be 1 s.opened) (be 2 s.next ++ (be 1 0 ++ pack_limits y s.limits)) (simp length-be))

  put_next : (n : ℕ) → put 1 (be 2 n) (pack_front y s) ≡ pack_front y (with_next s n)
  unfolding pack_front pack_head
  put_next n = simp append_assoc (simp append_assoc at (put-mid 1 (be 2 n) (be 1 s.opened) (be 2 s.next) (be 1 0 ++ pack_limits y s.limits) (length-be 1 s.opened) (simp length-be)))

  put-limits : (m : Limits) → put head_bytes (pack_limits y m) (pack_front y s) ≡ pack_front y (with_limits s m)
  unfolding pack_front pack_head
  put-limits m = put_last head_bytes (pack_limits y m) (pack_head s) (pack_limits y s.limits) (length-pack_head s) (length-pack_limits y m ∙ sym (length-pack_limits y s.limits))

  pub pack-with_opened : (n : ℕ) → put 0 (be 1 n) (pack y s) ≡ pack y (with_opened s n)
  unfolding with_opened pack_transactor_at pack_message_at transactor_at message_at
  pack-with_opened n = put-head y s (with_opened s n) 0 (be 1 n) (rw length-be (omega arith)) (put-opened n) refl refl

  pub pack-with_next : (n : ℕ) → put 1 (be 2 n) (pack y s) ≡ pack y (with_next s n)
  unfolding pack_transactor_at pack_message_at transactor_at message_at
  pack-with_next n = put-head y s (with_next s n) 1 (be 2 n) (rw length-be (omega arith)) (put_next n) refl refl

  pub pack-with_limits : (m : Limits) → put head_bytes (pack_limits y m) (pack y s) ≡ pack y (with_limits s m)
  unfolding pack_transactor_at pack_message_at transactor_at message_at
  pack-with_limits m = put-head y s (with_limits s m) head_bytes (pack_limits y m) (rw length-pack_limits (omega arith)) (put-limits m) refl refl

-- ---- parcels

-- place i, with a parcel that waits or not
module _ (y : Layout) (s : State) (i : ℕ) where
  pub at-waiting : i < length s.messages → pack_message_at y s i ≡ pack_message y (message_at s i)
  unfolding pack_message_at
  at-waiting h = rw (lt-ltb i (length s.messages) h)

  pub at-free : length s.messages ≤ i → pack_message_at y s i ≡ zeros (message_bytes y)
  unfolding pack_message_at
  at-free h = rw (le-ltb i (length s.messages) h)

-- one more, behind those that wait
module _ (y : Layout) (s : State) (room : length s.messages < y.messages) (m : Message) where
  longer : length (s.messages ++ (m ∷ [])) ≡ length s.messages + 1
  longer = rw length-append

  appended-here : put 0 (pack_message y m) (pack_message_at y s (length s.messages)) ≡ pack_message_at y (appended s m) (length s.messages)
  unfolding message_at
  appended-here =
      let n : ℕ = length s.messages in
      put_whole (pack_message y m) (pack_message_at y s n) (length-pack_message y m ∙ sym (length-pack_message_at y s n))
      ∙ sym (at-waiting y (appended s m) n (rw longer (omega arith)) ∙ ap (pack_message y) (get_or_at s.messages m [] no_message n refl))

  appended-other : (i : ℕ) → (i ≡ length s.messages → ⊥) → pack_message_at y (appended s m) i ≡ pack_message_at y s i
  unfolding message_at
  appended-other i n = ⊎_elim
      (λ (p : i < length s.messages).
      at-waiting y (appended s m) i (rw longer (omega arith)) ∙ ap (pack_message y) (get_or-append s.messages (m ∷ []) no_message i p) ∙ sym (at-waiting y s i p))
      (λ (p : length s.messages ≤ i). at-free y (appended s m) i (rw longer (omega arith)) ∙ sym (at-free y s i p))
      (sides i (length s.messages))

  pub pack-appended : put (message_address y (length s.messages)) (pack_message y m) (pack y s) ≡ pack y (appended s m)
  unfolding pack_front pack_head pack_transactor_at transactor_at
  pack-appended =
      let n : ℕ = length s.messages in
      let a : message_address y n + 0 ≡ message_address y n = add-zero (message_address y n) in
      rw a at (put-message y s (appended s m) n 0 (pack_message y m) room (omega (arith, length-pack_message y m)) refl refl appended-here appended-other)

-- a parcel is sent: it and the next number are put
module _ (y : Layout) (s : State) (to v : ℕ) (m : DependenceMap) (room : length s.messages < y.messages) where
  pub pack-with_message : put 1 (be 2 (s.next + 1)) (put (message_address y (length s.messages)) (pack_message y (sent s to v m)) (pack y s)) ≡ pack y (with_message s to v m)
  unfolding with_message
  pack-with_message = rw (pack-appended y s room (sent s to v m)) (pack-with_next y (appended s (sent s to v m)) (s.next + 1))

-- the fields of a parcel are put one after the other
pub put-pack_message : (y : Layout) (m : Message) (at : ℕ) (l : List ℕ) → at + message_bytes y ≤ length l
    → put (at + dependences_at) (pack_dependences y m.dependences) (put (at + 3) (be 4 m.value) (put (at + 1) (be 2 m.number) (put at (be 1 (128 + m.addressee)) l)))
    ≡ put at (pack_message y m) l
unfolding pack_message
put-pack_message y m at l h =
    let b1 : List ℕ = be 1 (128 + m.addressee) in
    let b2 : List ℕ = b1 ++ be 2 m.number in
    let b3 : List ℕ = b2 ++ be 4 m.value in
    let n2 : length b2 ≡ 3 = simp (length-append, length-be) in
    let n3 : length b3 ≡ dependences_at = simp (length-append, length-be) in
    let w : length (pack_dependences y m.dependences) ≡ map_bytes y = length-pack_map y.width y.places y.transactors m.dependences in
    let e2 : put (at + 1) (be 2 m.number) (put at b1 l) ≡ put at b2 l = put-behind at 1 b1 (be 2 m.number) l _ (length-be 1 (128 + m.addressee)) (omega (arith, length-be 2 m.number)) refl in
    let e3 : put (at + 3) (be 4 m.value) (put (at + 1) (be 2 m.number) (put at b1 l)) ≡ put at b3 l = put-behind at 3 b2 (be 4 m.value) l _ n2 (omega (arith, length-be 4 m.value)) e2 in
    put-behind at dependences_at b3 (pack_dependences y m.dependences) l _ n3 (omega arith) e3

-- the parcel in place k goes, and those behind it move down
module _ (y : Layout) (s : State) (k : ℕ) (below : k < length s.messages) (few : length s.messages ≤ y.messages) where
  heads : length (take k s.messages) ≡ k
  heads = length-take-le k s.messages (omega arith)

  gone_long : length (without_message s k).messages + 1 ≡ length s.messages
  unfolding without_message
  gone_long = rw (length-append, heads, length-drop) (omega arith)

  gone-before : (i : ℕ) → i < k → message_at (without_message s k) i ≡ message_at s i
  unfolding without_message message_at
  gone-before i h = get_or-append (take k s.messages) (drop (k + 1) s.messages) no_message i (omega (arith, heads)) ∙ get_or-take k s.messages i no_message h

  gone-after : (i : ℕ) → message_at (without_message s k) (k + i) ≡ message_at s (suc k + i)
  unfolding without_message message_at
  gone-after i =
      subst (λ (x : ℕ). get_or (take k s.messages ++ drop (k + 1) s.messages) (x + i) no_message ≡ get_or s.messages (suc k + i) no_message) heads
      (get_or-append-add (take k s.messages) (drop (k + 1) s.messages) i no_message ∙ get_or-drop (k + 1) s.messages i no_message ∙ ap (λ (x : ℕ). get_or s.messages (x + i) no_message) (add-one k))

  -- place i before, and place k + i
  place-before : (i : ℕ) → i < k → pack_message_at y (without_message s k) i ≡ pack_message_at y s i
  place-before i h = at-waiting y (without_message s k) i (omega (arith, gone_long)) ∙ ap (pack_message y) (gone-before i h) ∙ sym (at-waiting y s i (omega arith))

  place-moved : (i : ℕ) → i < length s.messages - (k + 1) → pack_message_at y (without_message s k) (k + i) ≡ pack_message_at y s (suc k + i)
  place-moved i h = at-waiting y (without_message s k) (k + i) (omega (arith, gone_long)) ∙ ap (pack_message y) (gone-after i) ∙ sym (at-waiting y s (suc k + i) (omega arith))

  place_after : (i : ℕ) → k + suc (length s.messages - (k + 1)) ≤ i → pack_message_at y (without_message s k) i ≡ pack_message_at y s i
  place_after i h = at-free y (without_message s k) i (omega (arith, gone_long)) ∙ sym (at-free y s i (omega arith))

  gone-chunks : put (message_bytes y * k) (part (message_bytes y * k + message_bytes y) (message_bytes y * (length s.messages - (k + 1))) (chunks y.messages (pack_message_at y s)) ++ zeros (message_bytes y)) (chunks y.messages (pack_message_at y s))
      ≡ chunks y.messages (pack_message_at y (without_message s k))
  gone-chunks =
      let m : ℕ = length s.messages - (k + 1) in
      remove-chunk (message_bytes y) y.messages (pack_message_at y s) (length-pack_message_at y s) (pack_message_at y (without_message s k)) (length-pack_message_at y (without_message s k)) k place-before m (zeros (message_bytes y))
      (omega arith) place-moved (at-free y (without_message s k) (k + m) (omega (arith, gone_long))) place_after

  -- as octets' remove puts it
  pub pack-removed : put (message_address y k) (part (message_address y k + message_bytes y) (message_bytes y * (length s.messages - (k + 1))) (pack y s) ++ zeros (message_bytes y)) (pack y s) ≡ pack y (without_message s k)
  unfolding pack pack_front pack_head pack_transactor_at transactor_at without_message
  pack-removed =
      let w : ℕ = message_bytes y in
      let m : ℕ = length s.messages - (k + 1) in
      let front : List ℕ = pack_front y s ++ packed_transactors y s in
      let p : message_address y k ≡ length front + w * k = rw length_front in
      let q : message_address y k + w ≡ length front + (w * k + w) = rw length_front (add_assoc (transactor_address y y.transactors) (w * k) w) in
      rw (q, p, part_right (w * k + w) (w * m) front (packed_messages y s), put_right (w * k) (part (w * k + w) (w * m) (packed_messages y s) ++ zeros w) front (packed_messages y s), gone-chunks)

-- ---- one take after the other changes

-- s with take t replaced by f t for every t below i
unfoldable pub up_to : State → (ℕ → Transactor) → ℕ → State
up_to s f zero = s
up_to s f (suc i) = with_transactor (up_to s f i) i (f i)

module _ (s : State) (f : ℕ → Transactor) where
  pub up_to-none : up_to s f 0 ≡ s
  unfolding up_to
  up_to-none = refl

  up_to-more : (i : ℕ) → up_to s f (i + 1) ≡ with_transactor (up_to s f i) i (f i)
  unfolding up_to
  up_to-more i = rw add-one

  -- nothing but the takes changes
  up_to-rest : (i : ℕ) → up_to s f i ≡ record { limits = s.limits; opened = s.opened; next = s.next; transactors = (up_to s f i).transactors; messages = s.messages }
  unfolding up_to with_transactor
  up_to-rest zero = refl
  up_to-rest (suc i) = ap (λ (x : State). with_transactor x i (f i)) (up_to-rest i)

  pub up_to-many : (i : ℕ) → length (up_to s f i).transactors ≡ length s.transactors
  unfolding up_to with_transactor
  up_to-many zero = refl
  up_to-many (suc i) = rw length-set (up_to-many i)

  -- the takes from i on are as they were
  pub up_to-after : (i t : ℕ) → i ≤ t → transactor_at (up_to s f i) t ≡ transactor_at s t
  unfolding up_to with_transactor transactor_at
  up_to-after zero t h = refl
  up_to-after (suc i) t h = get_or-set_other (up_to s f i).transactors i t (f i) no_transactor (λ e. omega arith) ∙ up_to-after i t (omega arith)

  -- take i is as it was
  pub up_to-kept : (i : ℕ) → f i ≡ transactor_at s i → up_to s f (i + 1) ≡ up_to s f i
  up_to-kept i e =
      let a : f i ≡ transactor_at (up_to s f i) i = e ∙ sym (up_to-after i i (omega arith)) in
      up_to-more i ∙ ap (with_transactor (up_to s f i) i) a ∙ with_transactor-same (up_to s f i) i

  up_to-take : (i : ℕ) → i ≤ length s.transactors → take i (up_to s f i).transactors ≡ tabulate i f
  unfolding up_to with_transactor
  up_to-take zero h = fill_none f
  up_to-take (suc i) h = rw add-one at (fill_more f (up_to s f i).transactors i (f i) (up_to-take i (omega arith)) (omega (arith, up_to-many i)) refl)

module _ (y : Layout) (s : State) (f : ℕ → Transactor) (many : length s.transactors ≡ y.transactors) where
  pub pack-up_to : (i : ℕ) → i < y.transactors → put (transactor_address y i) (pack_transactor y (f i)) (pack y (up_to s f i)) ≡ pack y (up_to s f (i + 1))
  pack-up_to i h = rw up_to-more (pack-with_transactor y (up_to s f i) i h (up_to-many s f i ∙ many) (f i))

  pub up_to-transactors : (up_to s f y.transactors).transactors ≡ tabulate y.transactors f
  up_to-transactors = fill-all f (up_to s f y.transactors).transactors y.transactors (up_to-take s f y.transactors (omega arith)) (up_to-many s f y.transactors ∙ many)

  pub up_to-all : up_to s f y.transactors ≡ record { limits = s.limits; opened = s.opened; next = s.next; transactors = tabulate y.transactors f; messages = s.messages }
  up_to-all = up_to-rest s f y.transactors
      ∙ ap (λ (l : List Transactor). record { limits = s.limits; opened = s.opened; next = s.next; transactors = l; messages = s.messages }) up_to-transactors
