-- The loops over histories, transactors and messages: what they have put after i turns, and the whole image.
use Prim.Native.Nat.{ℕ, ◌+◌, ◌-◌, ◌*◌, ◌≤◌, ◌<◌}
use mathlib.Core.Bool.{Bool, false}
use mathlib.Core.Path.{◌≡◌, refl, ap, sym, ◌∙◌}
use mathlib.Core.List.{List, ◌++◌, append_assoc, append-nil}
use native.Mathlib.Nat.{zero-add}
use native.Mathlib.Omega.{arith}
use lib.ListN.{length, length-append}
use Rattle.octets.specs.Bytes.{put, part, chunks}
use Rattle.octets.proofs.Put.{put-behind, put_whole, part-part, length_part, length-put}
use Rattle.octets.proofs.Chunks.{step, chunks-same, chunks-add}
use Rattle.octets.proofs.Runs.{lengths, put_next}
use Rattle.marks.specs.Packed.{history_size}
use Rattle.maps.specs.Packed.{entry_bytes}
use Rattle.rules.specs.Layout.{Layout, widest, map_bytes, state_at, creation_at, behaviour_at, dependences_at, transactor_bytes, message_bytes, head_bytes, limits_bytes, transactor_address, message_address, image_bytes}
use Rattle.rules.specs.Pack.{pack_limits, transactor_part, message_part}
use Rattle.recast.specs.Internal.Widths.{resized}
use Rattle.marks.specs.Internal.Recast.{recast_history}
use Rattle.maps.specs.Internal.Recast.{recast_entry_at, recast_map}
use Rattle.maps.proofs.Recast.{length-recast_map}
use Rattle.recast.specs.Internal.Recast.{recast_part, recast_transactor, recast_message, recast_transactor_at, recast_message_at, recast_front, recast, record_size, record_at}
use Rattle.rules.proofs.Pack.Sizes.{length-pack_limits}
use Rattle.rules.proofs.Pack.Loads.{length-transactor_part, length-message_part}
use Rattle.marks.proofs.Recast.{length-recast}
use Rattle.recast.proofs.RecastParts.{length-recast_transactor, length-recast_message}

pub put-end : (at i n : ℕ) (f : ℕ → List ℕ) (l l' : List ℕ) → l' ≡ put at (chunks i f) l → i ≡ n → l' ≡ put at (chunks n f) l
put-end at i n f l l' e h = e ∙ ap (λ (k : ℕ). put at (chunks k f) l) h

-- what is put, by another name
pub put_as : (at : ℕ) (a b l l' : List ℕ) → l' ≡ put at a l → a ≡ b → l' ≡ put at b l
put_as at a b l l' e f = e ∙ ap (λ (x : List ℕ). put at x l) f

-- two stores, one behind the other
pub put_both : (at n : ℕ) (b c l l' l'' : List ℕ) → length b ≡ n → at + n + length c ≤ length l → l' ≡ put at b l → l'' ≡ put (at + n) c l' → l'' ≡ put at (b ++ c) l
put_both at n b c l l' l'' k h e f = f ∙ put-behind at n b c l l' k h e

-- a run of records, each of a front of k bytes and a rest; i of them are put
module _ (at w n : ℕ) (f : ℕ → List ℕ) (sized : (i : ℕ) → i < n → length (f i) ≡ w) (i k : ℕ) (h : i < n) (b c : List ℕ) (is : f i ≡ b ++ c) (short : length b ≡ k)
    (l l' l'' : List ℕ) (room : at + w * n ≤ length l) (e : l' ≡ put at (chunks i f) l) (g : l'' ≡ put (at + w * i) b l') where
  rest : k + length c ≡ w
  rest = omega (arith, sized i h, ap length is, length-append b c)

  long : length l' ≡ length l
  long = ap length e ∙ length-put at (chunks i f) l (omega (arith, step w i n h, lengths w i f (λ j p. sized j (omega arith))))

  pub records-more : (r : List ℕ) → r ≡ put (at + w * i + k) c l'' → r ≡ put at (chunks (i + 1) f) l
  records-more r q =
      let both : r ≡ put (at + w * i) (f i) l' = put_both (at + w * i) k b c l' l'' r short (omega (arith, rest, long, step w i n h)) g q ∙ ap (λ (x : List ℕ). put (at + w * i) x l') (sym is) in
      put_next at w n f sized i h l l' r e both (omega (arith, step w i n h))

-- the k bytes from a on, as source[a..a + k] lends them
lent : (a k : ℕ) (s : List ℕ) → part a (a + k - a) s ≡ part a k s
lent a k s = ap (λ (n : ℕ). part a n s) (omega arith)

-- ---- histories

-- history i of those from a place of s on
unfoldable pub entry_at : ℕ → ℕ → ℕ → ℕ → List ℕ → ℕ → List ℕ
entry_at v w m from s i = recast_history v w m (part (from + history_size v m * i) (history_size v m) s)

module _ (v w m from n : ℕ) (s : List ℕ) (fits : from + history_size v m * n ≤ length s) where
  abbrev entry : ℕ → List ℕ
  entry = entry_at v w m from s

  entry-wide : (i : ℕ) → i < n → length (entry i) ≡ history_size w m
  unfolding entry_at
  entry-wide i h = length-recast v w m (part (from + history_size v m * i) (history_size v m) s) (length_part (from + history_size v m * i) (history_size v m) s (omega (arith, step (history_size v m) i n h)))

  entries-are : recast_map v w m n (part from (history_size v m * n) s) ≡ chunks n entry
  unfolding recast_map recast_entry_at entry_bytes entry_at
  entries-are = chunks-same n (recast_entry_at v w m (part from (history_size v m * n) s)) entry
      (λ i h. ap (recast_history v w m) (part-part (history_size v m * i) (history_size v m) from (history_size v m * n) s (step (history_size v m) i n h)))

  module _ (to i : ℕ) (l l' : List ℕ) (e : l' ≡ put to (chunks i entry) l) where
    pub histories-more : i < n → (l'' : List ℕ) → l'' ≡ put (to + history_size w m * i) (recast_history v w m (part (from + history_size v m * i) (history_size v m) s)) l' → to + history_size w m * n ≤ length l → l'' ≡ put to (chunks (i + 1) entry) l
    unfolding entry_at
    histories-more h l'' f k = put_next to (history_size w m) n entry entry-wide i h l l' l'' e f (omega (arith, step (history_size w m) i n h))

    pub histories-all : i ≡ n → l' ≡ put to (recast_map v w m n (part from (history_size v m * n) s)) l
    histories-all h = e ∙ ap (λ (x : List ℕ). put to x l) (ap (λ (k : ℕ). chunks k entry) h ∙ sym entries-are)

-- two runs, one behind the other
entries-add : (v w m from a b : ℕ) (s : List ℕ) → from + history_size v m * (a + b) ≤ length s
    → recast_map v w m (a + b) (part from (history_size v m * (a + b)) s)
    ≡ recast_map v w m a (part from (history_size v m * a) s) ++ recast_map v w m b (part (from + history_size v m * a) (history_size v m * b) s)
unfolding entry_at
entries-add v w m from a b s h =
    let k : ℕ = history_size v m in
    entries-are v w m from (a + b) s h
    ∙ chunks-add a b (entry_at v w m from s)
    ∙ ap (λ (x : List ℕ). chunks a (entry_at v w m from s) ++ x) (chunks-same b (λ i. entry_at v w m from s (a + i)) (entry_at v w m (from + k * a) s) (λ i p. ap (λ (j : ℕ). recast_history v w m (part j k s)) (omega arith)))
    ∙ rw (entries-are v w m from a s (omega arith), entries-are v w m (from + k * a) b s (omega arith))

-- ---- records

module _ (v w m front many from n : ℕ) (s : List ℕ) (fits : from + record_size v m front many * n ≤ length s) where
  abbrev record' : ℕ → List ℕ
  record' = record_at v w m front many from s

  -- where record k stands
  abbrev place : ℕ → ℕ
  place k = from + record_size v m front many * k

  abbrev marks : ℕ → List ℕ
  marks k = recast_map v w m many (part (place k + front) (history_size v m * many) s)

  record-front : (k : ℕ) → k < n → length (part (place k) front s) ≡ front
  record-front k h = length_part (place k) front s (omega (arith, step (record_size v m front many) k n h))

  record-wide : (k : ℕ) → k < n → length (record' k) ≡ record_size w m front many
  unfolding record_at
  record-wide k h = rw (
    length-append,
    record-front k h,
    length-recast_map v w m many (part (place k + front) (history_size v m * many) s)
        (length_part (place k + front) (history_size v m * many) s (omega (arith, step (record_size v m front many) k n h))),
  )

  -- a turn: the front, then the histories
  module _ (to k : ℕ) (h : k < n) (l l' l'' : List ℕ) (room : to + record_size w m front many * n ≤ length l) (e : l' ≡ put to (chunks k record') l)
      (g : l'' ≡ put (to + record_size w m front many * k) (part (place k) (place k + front - place k) s) l') where
    is : record' k ≡ part (place k) front s ++ marks k
    unfolding record_at
    is = refl

    front-there : l'' ≡ put (to + record_size w m front many * k) (part (place k) front s) l'
    front-there = g ∙ ap (λ (x : List ℕ). put (to + record_size w m front many * k) x l') (lent (place k) front s)

    pub record-more : (r : List ℕ) → r ≡ put (to + record_size w m front many * k + front) (marks k) l'' → r ≡ put to (chunks (k + 1) record') l
    record-more = records-more to (record_size w m front many) n record' record-wide k front h (part (place k) front s) (marks k) is (record-front k h) l l' l'' room e front-there

-- ---- transactors and messages

module _ (y : Layout) (v w : ℕ) (old new : Bool) (img : List ℕ) (whole : length img ≡ image_bytes (resized y v old)) where
  abbrev s : Layout
  s = resized y v old

  abbrev d : Layout
  d = resized y w new

  -- where the transactors begin
  abbrev first : ℕ
  first = head_bytes + limits_bytes d

  abbrev size : ℕ
  size = history_size v y.places

  abbrev count : ℕ
  count = y.transactors

  -- a map, where it stands in the image
  piece : (a n at : ℕ) → at + map_bytes s ≤ n → recast_part s w at (part a n img) ≡ recast_map v w y.places count (part (a + at) (map_bytes s) img)
  unfolding recast_part
  piece a n at h = ap (recast_map v w y.places count) (part-part at (map_bytes s) a n img h)

  front : (a n k : ℕ) → k ≤ n → part 0 k (part a n img) ≡ part a k img
  front a n k h = part-part 0 k a n img (omega arith) ∙ ap (λ (j : ℕ). part j k img) (omega arith)

  transactor-wide : (t : ℕ) → t < count → length (recast_transactor_at s w img t) ≡ transactor_bytes d
  unfolding recast_transactor_at
  transactor-wide t h = length-recast_transactor y v w old new (transactor_part s img t) (length-transactor_part s img whole t h)

  message-wide : (k : ℕ) → k < y.messages → length (recast_message_at s w img k) ≡ message_bytes d
  unfolding recast_message_at
  message-wide k h = length-recast_message y v w old new (message_part s img k) (length-message_part s img whole k h)

  module _ (t : ℕ) (h : t < count) where
    abbrev a : ℕ
    a = transactor_address s t

    -- the fields in front, then all histories of the three maps
    transactor-bytes : recast_transactor_at s w img t ≡ part a state_at img ++ recast_map v w y.places (count + count + count) (part (a + state_at) (size * (count + count + count)) img)
    unfolding recast_transactor_at recast_transactor transactor_part
    transactor-bytes =
        let n : ℕ = transactor_bytes s in
        let room : transactor_bytes s * t + transactor_bytes s ≤ transactor_bytes s * count = step (transactor_bytes s) t count h in
        let m : ℕ → List ℕ = λ at. recast_map v w y.places count (part at (map_bytes s) img) in
        let all : recast_map v w y.places (count + count + count) (part (a + state_at) (size * (count + count + count)) img) ≡ m (a + state_at) ++ m (a + creation_at s) ++ m (a + behaviour_at s) =
        entries-add v w y.places (a + state_at) (count + count) count img (omega arith)
        ∙ ap (λ (x : List ℕ). x ++ recast_map v w y.places count (part (a + state_at + size * (count + count)) (size * count) img)) (entries-add v w y.places (a + state_at) count count img (omega arith))
        ∙ ap (λ (k : ℕ). m (a + state_at) ++ m (a + state_at + size * count) ++ m k) (omega arith)
        ∙ ap (λ (k : ℕ). m (a + state_at) ++ m k ++ m (a + behaviour_at s)) (omega arith) in
        rw (front a n state_at (omega arith), piece a n state_at (omega arith), piece a n (creation_at s) (omega arith), piece a n (behaviour_at s) (omega arith), all)
        (ap (λ (x : List ℕ). x ++ m (a + behaviour_at s)) (append_assoc (part a state_at img) (m (a + state_at)) (m (a + creation_at s)))
        ∙ append_assoc (part a state_at img) (m (a + state_at) ++ m (a + creation_at s)) (m (a + behaviour_at s)))

  module _ (k : ℕ) (h : k < y.messages) where
    abbrev c : ℕ
    c = message_address s k

    message-bytes : recast_message_at s w img k ≡ part c dependences_at img ++ recast_map v w y.places count (part (c + dependences_at) (map_bytes s) img)
    unfolding recast_message_at recast_message message_part
    message-bytes = rw (front c (message_bytes s) dependences_at (omega arith), piece c (message_bytes s) dependences_at (omega arith))

  -- they are records
  pub transactor-records : chunks count (record_at v w y.places state_at (count + count + count) (head_bytes + limits_bytes s) img) ≡ chunks count (recast_transactor_at s w img)
  unfolding record_at
  transactor-records = chunks-same count (record_at v w y.places state_at (count + count + count) (head_bytes + limits_bytes s) img) (recast_transactor_at s w img)
      (λ t h. ap (λ (j : ℕ). part j state_at img ++ recast_map v w y.places (count + count + count) (part (j + state_at) (size * (count + count + count)) img)) (omega arith) ∙ sym (transactor-bytes t h))

  pub message-records : chunks y.messages (record_at v w y.places dependences_at count (transactor_address s count) img) ≡ chunks y.messages (recast_message_at s w img)
  unfolding record_at
  message-records = chunks-same y.messages (record_at v w y.places dependences_at count (transactor_address s count) img) (recast_message_at s w img) (λ k h. sym (message-bytes k h))

  -- ---- the whole image: head and limits, transactors, messages

  head-short : length (part 0 head_bytes img) ≡ head_bytes
  head-short = length_part 0 head_bytes img (omega arith)

  front-short : length (recast_front d img) ≡ first
  unfolding recast_front
  front-short = rw (length-append, head-short, length-pack_limits d (widest d))

  -- the head and then the limits
  pub front-put : (l l1 l2 : List ℕ) → length l ≡ image_bytes d → l1 ≡ put 0 (part 0 head_bytes img) l → l2 ≡ put head_bytes (pack_limits d (widest d)) l1 → l2 ≡ put 0 (recast_front d img) l
  unfolding recast_front
  front-put l l1 l2 room e g = put_both 0 head_bytes (part 0 head_bytes img) (pack_limits d (widest d)) l l1 l2 head-short (omega (arith, length-pack_limits d (widest d))) e g

  module _ (l l1 : List ℕ) (room : length l ≡ image_bytes d) (e : l1 ≡ put 0 (recast_front d img) l) where
    run : length (chunks count (recast_transactor_at s w img)) ≡ transactor_bytes d * count
    run = lengths (transactor_bytes d) count (recast_transactor_at s w img) transactor-wide

    module _ (l2 : List ℕ) (g : l2 ≡ put first (chunks count (recast_transactor_at s w img)) l1) where
      pub image-done : (r : List ℕ) → r ≡ put (transactor_address d count) (chunks y.messages (recast_message_at s w img)) l2 → r ≡ recast s d img
      unfolding recast
      image-done r q =
          let last : length (chunks y.messages (recast_message_at s w img)) ≡ message_bytes d * y.messages = lengths (message_bytes d) y.messages (recast_message_at s w img) message-wide in
          let front : List ℕ = recast_front d img in
          let some : List ℕ = chunks count (recast_transactor_at s w img) in
          let more : List ℕ = chunks y.messages (recast_message_at s w img) in
          let two : l2 ≡ put 0 (front ++ some) l = put_both 0 first front some l l1 l2 front-short (omega (arith, run)) e (g ∙ ap (λ (k : ℕ). put k some l1) (sym (zero-add first))) in
          let half : length (front ++ some) ≡ transactor_address d count = rw (length-append, front-short, run) in
          let three : r ≡ put 0 (front ++ some ++ more) l = put_both 0 (transactor_address d count) (front ++ some) more l l2 r half (omega (arith, last)) two (q ∙ ap (λ (k : ℕ). put k more l2) (sym (zero-add (transactor_address d count)))) in
          three ∙ put_whole (front ++ some ++ more) l (rw (length-append, half, last) (sym room))

-- where no limits are stored the front is the head
pub front-plain : (y : Layout) (w : ℕ) (img : List ℕ) → recast_front (resized y w false) img ≡ part 0 head_bytes img
unfolding recast_front pack_limits
front-plain y w img = append-nil (part 0 head_bytes img)
