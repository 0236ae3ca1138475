-- An old image, whatever it holds, written in the new form: it says the same, is well-formed exactly if the old one is, and is then what forward gives.
use Prim.Native.Nat.{ℕ, zero, suc, ◌+◌, ◌*◌, ◌≤◌, ◌<◌}
use mathlib.Core.Bool.{Bool, true, false}
use mathlib.Core.Path.{◌≡◌, refl, ap, sym, ◌∙◌, subst}
use mathlib.Core.List.{List, [], ◌∷◌, ◌++◌, append-nil}
use mathlib.Core.Logic.{⊎_elim}
use native.Mathlib.Omega.{arith}
use native.Mathlib.Nat.{zero-add}
use lib.Dec.{ltb}
use borrow.Author.Tests.{not-false}
use lib.ListN.{length, get_or, length-append}
use Rattle.octets.specs.Bytes.{◌and◌, part, chunks, Octets}
use Rattle.octets.specs.Numbers.{be, bound}
use Rattle.octets.proofs.Tests.{same_test}
use Rattle.octets.proofs.Put.{part_left, part-part, part-whole, length_part, get_d_part, octets-part, octets-append}
use Rattle.octets.proofs.Numbers.{be-one, octets-be}
use Rattle.octets.proofs.Zero.{both}
use Rattle.octets.proofs.Chunks.{step, sides, tabulate-same, chunks-same, octets-chunks}
use Rattle.marks.specs.declared.History.{History}
use Rattle.marks.specs.Packed.{history_size, pack_number_at, unpack_history}
use Rattle.marks.proofs.Packed.{packable-unpack}
use Rattle.maps.specs.Packed.{entry_bytes}
use Rattle.maps.proofs.Packed.{history-unpack}
use Rattle.rules.specs.Layout.{Layout, Limits, limits_of, widest, Fitting, map_bytes, state_at, creation_at, behaviour_at, dependences_at, transactor_bytes, message_bytes, head_bytes, limits_bytes, transactor_address, image_bytes, narrow, base}
use Rattle.rules.specs.State.{State, transactor_at, message_at, place_from}
use Rattle.rules.specs.Pack.{pack_transactor_at, pack_message_at, pack_head, pack_limits, pack_front, pack, unpack_transactor, unpack_message, unpack_dependences, transactor_part, message_part, unpack_transactor_at, unpack_message_at, vacant_at, waiting_in, unpack_limits, unpack}
use Rattle.rules.specs.Form.{well_formed}
use Rattle.rules.specs.Internal.Well.{Packable, WellFormed}
use Rattle.rules.proofs.Pack.Sizes.{length-pack, octets-pack, length-pack_head, length-pack_limits, length-pack_front, octets-pack_limits, length-pack_transactor_at, length-pack_message_at}
use Rattle.rules.proofs.Pack.Stores.{at-waiting, at-free}
use Rattle.rules.proofs.Pack.Loads.{length-transactor_part, length-message_part, octets-transactor_part, octets-message_part, read-transactor, read-message, read-widest, unpack-waiting, waiting_few}
use Rattle.rules.proofs.Pack.RoundTrip.{transactor_part-pack, message_part-pack}
use Rattle.rules.proofs.Pack.RoundTrip.{pack-unpack-formed}
use Rattle.rules.proofs.Keep.Step.{fitting-narrow}
use Rattle.rules.proofs.Form.State.{formed-state}
use Rattle.rules.proofs.Form.Packed.{formed-pack}
use Rattle.marks.specs.Within.{Low}
use Rattle.maps.specs.Within.{LowMap}
use Rattle.convert.specs.Convert.{limits_are, state_within, too_wide, forward, back, LowTransactor, LowState}
use Rattle.recast.specs.Internal.Widths.{resized, rewritten}
use Rattle.marks.specs.Internal.Recast.{recast_history}
use Rattle.maps.specs.Internal.Recast.{recast_entry_at, recast_map}
use Rattle.recast.specs.Internal.Recast.{recast_part, recast_transactor, recast_message, recast_transactor_at, recast_message_at, recast_front, recast, widened}
use Rattle.convert.proofs.Resized.{counted-limits, state-resized, state-low, low-state_within}
use Rattle.convert.proofs.Images.{bounds, are-on, are-same, allowed-narrow, forward-formed, length_back, octets-back, back-formed, forward-back}
use Rattle.octets.proofs.Runs.{joined, run-back, behind, further, lengths, part_of}
use Rattle.recast.proofs.RecastParts.{first-same, length-recast_transactor, unpack-recast_transactor, recast_transactor-back, recast_transactor-pack, length-recast_message, first-recast_message, unpack-recast_message, recast_message-back, recast_message-pack, recast_message-zeros}

-- searches that meet the same tests
place_from-same : (f g : ℕ → Bool) (k n : ℕ) → ((i : ℕ) → i < k + n → f i ≡ g i) → place_from f k n ≡ place_from g k n
unfolding place_from
place_from-same f g k zero h = refl
place_from-same f g k (suc n) h = rw (h k (omega arith), place_from-same f g (suc k) n (λ (i : ℕ) (p : i < suc k + n). h i (omega arith)))

recast-def : (y z : Layout) (img : List ℕ) → recast y z img ≡ recast_front z img ++ chunks y.transactors (recast_transactor_at y z.width img) ++ chunks y.messages (recast_message_at y z.width img)
unfolding recast
recast-def y z img = refl

-- ---- where things stand in head and limits, a run of takes and a run of parcels

module _ (y : Layout) (h : List ℕ) (f g : ℕ → List ℕ) (n : length h ≡ head_bytes + limits_bytes y)
    (p : (t : ℕ) → t < y.transactors → length (f t) ≡ transactor_bytes y) (q : (k : ℕ) → k < y.messages → length (g k) ≡ message_bytes y) where
  abbrev whole : List ℕ
  whole = h ++ chunks y.transactors f ++ chunks y.messages g

  length_front : length (h ++ chunks y.transactors f) ≡ transactor_address y y.transactors
  length_front = rw (length-append, n, lengths (transactor_bytes y) y.transactors f p)

  length_whole : length whole ≡ image_bytes y
  length_whole = rw (length-append, length_front, lengths (message_bytes y) y.messages g q)

  front-stands : (i j : ℕ) → i + j ≤ head_bytes + limits_bytes y → part i j whole ≡ part i j h
  front-stands i j e = part_left i j (h ++ chunks y.transactors f) (chunks y.messages g) (omega (arith, length_front)) ∙ part_left i j h (chunks y.transactors f) (omega arith)

  transactor-stands : (t : ℕ) → t < y.transactors → transactor_part y whole t ≡ f t
  unfolding transactor_part
  transactor-stands t e =
      part_left (transactor_address y t) (transactor_bytes y) (h ++ chunks y.transactors f) (chunks y.messages g) (omega (arith, length_front, step (transactor_bytes y) t y.transactors e))
      ∙ further (head_bytes + limits_bytes y) (transactor_bytes y * t) (transactor_bytes y) h (chunks y.transactors f) n
      ∙ part_of (transactor_bytes y) y.transactors f p t e

  message-stands : (k : ℕ) → k < y.messages → message_part y whole k ≡ g k
  unfolding message_part
  message-stands k e =
      further (transactor_address y y.transactors) (message_bytes y * k) (message_bytes y) (h ++ chunks y.transactors f) (chunks y.messages g) length_front
      ∙ part_of (message_bytes y) y.messages g q k e

-- ---- an image without limits in another width, and with the widest limits

module _ (y : Layout) (v w : ℕ) (img : List ℕ) (n : length img ≡ image_bytes (resized y v false)) where
  abbrev s : Layout
  s = resized y v false

  abbrev d : Layout
  d = resized y w true

  n-head : length (part 0 head_bytes img) ≡ head_bytes
  n-head = length_part 0 head_bytes img (omega arith)

  n-front : length (recast_front d img) ≡ head_bytes + limits_bytes d
  unfolding recast_front
  n-front = rw (length-append, n-head, length-pack_limits d (widest d))

  n-transactor : (t : ℕ) → t < y.transactors → length (recast_transactor_at s w img t) ≡ transactor_bytes d
  unfolding recast_transactor_at
  n-transactor t h = length-recast_transactor y v w false true (transactor_part s img t) (length-transactor_part s img n t h)

  n-message : (k : ℕ) → k < y.messages → length (recast_message_at s w img k) ≡ message_bytes d
  unfolding recast_message_at
  n-message k h = length-recast_message y v w false true (message_part s img k) (length-message_part s img n k h)

  pub length-recast : length (recast s d img) ≡ image_bytes d
  length-recast = ap length (recast-def s d img) ∙ length_whole d (recast_front d img) (recast_transactor_at s w img) (recast_message_at s w img) n-front n-transactor n-message

  front-there : (i j : ℕ) → i + j ≤ head_bytes + limits_bytes d → part i j (recast s d img) ≡ part i j (recast_front d img)
  front-there i j h = ap (part i j) (recast-def s d img) ∙ front-stands d (recast_front d img) (recast_transactor_at s w img) (recast_message_at s w img) n-front n-transactor n-message i j h

  head-same : (i j : ℕ) → i + j ≤ head_bytes → part i j (recast s d img) ≡ part i j img
  unfolding recast_front
  head-same i j h =
      front-there i j (omega arith)
      ∙ part_left i j (part 0 head_bytes img) (pack_limits d (widest d)) (omega (arith, n-head))
      ∙ part-part i j 0 head_bytes img h
      ∙ ap (λ (k : ℕ). part k j img) (zero-add i)

  transactor-there : (t : ℕ) → t < y.transactors → transactor_part d (recast s d img) t ≡ recast_transactor s w (transactor_part s img t)
  unfolding recast_transactor_at
  transactor-there t h =
      ap (λ (x : List ℕ). transactor_part d x t) (recast-def s d img)
      ∙ transactor-stands d (recast_front d img) (recast_transactor_at s w img) (recast_message_at s w img) n-front n-transactor n-message t h

  message-there : (k : ℕ) → k < y.messages → message_part d (recast s d img) k ≡ recast_message s w (message_part s img k)
  unfolding recast_message_at
  message-there k h =
      ap (λ (x : List ℕ). message_part d x k) (recast-def s d img)
      ∙ message-stands d (recast_front d img) (recast_transactor_at s w img) (recast_message_at s w img) n-front n-transactor n-message k h

  -- the widest limits stand after the head
  limits-there : Fitting y → unpack_limits d (recast s d img) ≡ widest y
  unfolding unpack_limits pack_limits recast_front
  limits-there z =
      let m : Limits = widest y in
      let four : List ℕ = m.transactors ∷ m.messages ∷ m.checkpoints ∷ 0 ∷ [] in
      let a : pack_limits d m ≡ four = rw (be-one m.transactors (omega (arith, z.transactors)), be-one m.messages z.messages, be-one m.checkpoints (omega (arith, z.places)), be-one 0 (omega arith)) in
      let b : part 4 4 (recast s d img) ≡ four = front-there 4 4 (omega arith) ∙ behind 4 4 (part 0 head_bytes img) (pack_limits d m) n-head ∙ ap (part 0 4) a ∙ part-whole 4 four refl in
      let byte : (i : ℕ) → i < 4 → get_or (recast s d img) (4 + i) 0 ≡ get_or four i 0 = λ i h. sym (get_d_part 4 4 (recast s d img) i h) ∙ ap (λ (x : List ℕ). get_or x i 0) b in
      λ i. record { transactors = byte 0 (omega arith) i; messages = byte 1 (omega arith) i; checkpoints = byte 2 (omega arith) i }

  same-vacant : (k : ℕ) → k < y.messages → vacant_at d (recast s d img) k ≡ vacant_at s img k
  unfolding vacant_at
  same-vacant k h = ap (λ (x : List ℕ). ltb (get_or x 0 0) 128) (message-there k h) ∙ ap (λ (x : ℕ). ltb x 128) (first-recast_message y v w false true (message_part s img k) (length-message_part s img n k h))

  same-waiting : waiting_in d (recast s d img) ≡ waiting_in s img
  unfolding waiting_in
  same-waiting = place_from-same (vacant_at d (recast s d img)) (vacant_at s img) 0 y.messages (λ (i : ℕ) (h : i < 0 + y.messages). same-vacant i (omega arith))

  module _ (o : Octets img) (more : bound v ≤ bound w) where
    same-transactor : (t : ℕ) → t < y.transactors → unpack_transactor_at d (recast s d img) t ≡ unpack_transactor_at s img t
    unfolding unpack_transactor_at
    same-transactor t h = ap (unpack_transactor d) (transactor-there t h) ∙ unpack-recast_transactor y v w false true (transactor_part s img t) (length-transactor_part s img n t h) (octets-transactor_part s img o t) more

    same-message : (k : ℕ) → k < y.messages → unpack_message_at d (recast s d img) k ≡ unpack_message_at s img k
    unfolding unpack_message_at
    same-message k h = ap (unpack_message d) (message-there k h) ∙ unpack-recast_message y v w false true (message_part s img k) (length-message_part s img n k h) (octets-message_part s img o k) more

    -- it says the same, well-formed or not
    pub unpack-recast : Fitting y → unpack d (recast s d img) ≡ unpack s img
    unfolding unpack unpack_limits
    unpack-recast z = rw (
      limits-there z,
      first-same (recast s d img) img (head-same 0 1 (omega arith)),
      head-same 1 2 (omega arith),
      tabulate-same y.transactors (unpack_transactor_at d (recast s d img)) (unpack_transactor_at s img) same-transactor,
      same-waiting,
      tabulate-same (waiting_in s img) (unpack_message_at d (recast s d img)) (unpack_message_at s img) (λ (k : ℕ) (h : k < waiting_in s img). same-message k (omega (arith, waiting_few s img))),
    )

    -- and comes back
    pub recast-back : recast d s (recast s d img) ≡ img
    unfolding recast_front pack_limits recast_transactor_at recast_message_at transactor_part message_part
    recast-back =
        let a : ℕ = transactor_address s y.transactors in
        recast-def d s (recast s d img)
        ∙ (rw (
          append-nil,
          head-same 0 head_bytes (omega arith),
          run-back head_bytes (transactor_bytes s) y.transactors (recast_transactor_at d v (recast s d img)) img (omega arith) (λ t h. ap (recast_transactor d v) (transactor-there t h) ∙ recast_transactor-back y v w false true (transactor_part s img t) (length-transactor_part s img n t h) (octets-transactor_part s img o t) more),
          run-back a (message_bytes s) y.messages (recast_message_at d v (recast s d img)) img (omega arith) (λ k h. ap (recast_message d v) (message-there k h) ∙ recast_message-back y v w false true (message_part s img k) (length-message_part s img n k h) (octets-message_part s img o k) more),
          joined head_bytes (transactor_bytes s * y.transactors) img,
          joined a (message_bytes s * y.messages) img,
        )
        (part-whole (image_bytes s) img n))

-- ---- bytes

octets-history : (v w l : ℕ) (b : List ℕ) → Octets b → Octets (recast_history v w l b)
unfolding recast_history pack_number_at
octets-history v w l b o =
    let u : History = unpack_history v l b in
    octets-append (part 0 1 b ++ be w u.incarnation) (chunks l (pack_number_at w u.checkpoints))
    (octets-append (part 0 1 b) (be w u.incarnation) (octets-part 0 1 b o) (octets-be w u.incarnation))
    (octets-chunks l (pack_number_at w u.checkpoints) (λ i h. octets-be w (get_or u.checkpoints i 0)))

octets-map : (v w l n : ℕ) (b : List ℕ) → Octets b → Octets (recast_map v w l n b)
unfolding recast_map recast_entry_at entry_bytes
octets-map v w l n b o = octets-chunks n (recast_entry_at v w l b) (λ i h. octets-history v w l (entry_bytes v l b i) (octets-part (history_size v l * i) (history_size v l) b o))

module _ (y : Layout) (w : ℕ) where
  octets-piece : (at : ℕ) (b : List ℕ) → Octets b → Octets (recast_part y w at b)
  unfolding recast_part
  octets-piece at b o = octets-map y.width w y.places y.transactors (part at (map_bytes y) b) (octets-part at (map_bytes y) b o)

  octets-transactor : (b : List ℕ) → Octets b → Octets (recast_transactor y w b)
  unfolding recast_transactor
  octets-transactor b o =
      octets-append (part 0 state_at b ++ recast_part y w state_at b ++ recast_part y w (creation_at y) b) (recast_part y w (behaviour_at y) b)
      (octets-append (part 0 state_at b ++ recast_part y w state_at b) (recast_part y w (creation_at y) b)
      (octets-append (part 0 state_at b) (recast_part y w state_at b) (octets-part 0 state_at b o) (octets-piece state_at b o))
      (octets-piece (creation_at y) b o))
      (octets-piece (behaviour_at y) b o)

  octets-message : (b : List ℕ) → Octets b → Octets (recast_message y w b)
  unfolding recast_message
  octets-message b o = octets-append (part 0 dependences_at b) (recast_part y w dependences_at b) (octets-part 0 dependences_at b o) (octets-piece dependences_at b o)

pub octets-recast : (y z : Layout) (img : List ℕ) → Octets img → Octets (recast y z img)
unfolding recast recast_front recast_transactor_at recast_message_at
octets-recast y z img o =
    let w : ℕ = z.width in
    octets-append (recast_front z img ++ chunks y.transactors (recast_transactor_at y w img)) (chunks y.messages (recast_message_at y w img))
    (octets-append (recast_front z img) (chunks y.transactors (recast_transactor_at y w img))
    (octets-append (part 0 head_bytes img) (pack_limits z (widest z)) (octets-part 0 head_bytes img o) (octets-pack_limits z (widest z)))
    (octets-chunks y.transactors (recast_transactor_at y w img) (λ t h. octets-transactor y w (transactor_part y img t) (octets-transactor_part y img o t))))
    (octets-chunks y.messages (recast_message_at y w img) (λ k h. octets-message y w (message_part y img k) (octets-message_part y img o k)))

-- ---- a packed state

pack-def : (y : Layout) (st : State) → pack y st ≡ pack_front y st ++ chunks y.transactors (pack_transactor_at y st) ++ chunks y.messages (pack_message_at y st)
unfolding pack
pack-def y st = refl

module _ (y : Layout) (v w : ℕ) (more : bound v ≤ bound w) (st : State) (k : Packable (resized y v false) st) where
  abbrev from : Layout
  from = resized y v false

  abbrev to : Layout
  to = resized y w true

  head-packed : part 0 head_bytes (pack from st) ≡ pack_head st
  unfolding pack pack_front
  head-packed =
      front-stands from (pack_front from st) (pack_transactor_at from st) (pack_message_at from st) (length-pack_front from st) (λ t h. length-pack_transactor_at from st t) (λ i h. length-pack_message_at from st i) 0 head_bytes (omega arith)
      ∙ part_left 0 head_bytes (pack_head st) (pack_limits from st.limits) (omega (arith, length-pack_head st))
      ∙ part-whole head_bytes (pack_head st) (length-pack_head st)

  front-packed : recast_front to (pack from st) ≡ pack_front to st
  unfolding recast_front pack_front
  front-packed = rw (head-packed, counted-limits from refl k.limits)

  transactor-packed : (t : ℕ) → t < y.transactors → recast_transactor_at from w (pack from st) t ≡ pack_transactor_at to st t
  unfolding recast_transactor_at pack_transactor_at
  transactor-packed t h = ap (recast_transactor from w) (transactor_part-pack from st t h) ∙ recast_transactor-pack y v w false true more (transactor_at st t) (k.transactors t h)

  message-packed : (i : ℕ) → i < y.messages → recast_message_at from w (pack from st) i ≡ pack_message_at to st i
  unfolding recast_message_at
  message-packed i h = ap (recast_message from w) (message_part-pack from st i h) ∙ ⊎_elim
      (λ (p : i < length st.messages). ap (recast_message from w) (at-waiting from st i p) ∙ recast_message-pack y v w false true more (message_at st i) (k.messages i p) ∙ sym (at-waiting to st i p))
      (λ (p : length st.messages ≤ i). ap (recast_message from w) (at-free from st i p) ∙ recast_message-zeros y v w false true more ∙ sym (at-free to st i p))
      (sides i (length st.messages))

  pub recast-pack : recast from to (pack from st) ≡ pack to st
  recast-pack =
      recast-def from to (pack from st)
      ∙ (rw (
        front-packed,
        chunks-same y.transactors (recast_transactor_at from w (pack from st)) (pack_transactor_at to st) transactor-packed,
        chunks-same y.messages (recast_message_at from w (pack from st)) (pack_message_at to st) message-packed,
      )
      (sym (pack-def to st)))

-- ---- whatever an image of width v holds, its numbers are below the bound of v

module _ (y : Layout) (v : ℕ) (old : Bool) where
  low-map : (at : ℕ) (b : List ℕ) → Octets b → LowMap (bound v) y.transactors (unpack_dependences (resized y v old) at b)
  unfolding LowMap entry_bytes
  low-map at b o i h e =
      let c : List ℕ = part at (map_bytes (resized y v old)) b in
      let k = packable-unpack v y.places (entry_bytes v y.places c i) (octets-part (history_size v y.places * i) (history_size v y.places) c (octets-part at (map_bytes (resized y v old)) b o)) in
      subst (Low (bound v)) (sym (history-unpack v y.places y.transactors c i h)) (record { incarnation = k.incarnation; checkpoints = k.checkpoints })

  low-transactor : (b : List ℕ) → Octets b → LowTransactor (bound v) y.transactors (unpack_transactor (resized y v old) b)
  unfolding unpack_transactor
  low-transactor b o = record { state = low-map state_at b o; creation = low-map (creation_at (resized y v old)) b o; behaviour = low-map (behaviour_at (resized y v old)) b o }

  low-message : (b : List ℕ) → Octets b → LowMap (bound v) y.transactors (unpack_message (resized y v old) b).dependences
  unfolding unpack_message
  low-message b o = low-map dependences_at b o

  pub low-unpack : (img : List ℕ) → Octets img → LowState (bound v) y.transactors (unpack (resized y v old) img)
  unfolding unpack_transactor_at unpack_message_at
  low-unpack img o = record {
    transactors = λ t h. subst (LowTransactor (bound v) y.transactors) (sym (read-transactor (resized y v old) img t h)) (low-transactor (transactor_part (resized y v old) img t) (octets-transactor_part (resized y v old) img o t));
    messages = λ k h.
        let p : k < waiting_in (resized y v old) img = omega (arith, unpack-waiting (resized y v old) img) in
        subst (λ m. LowMap (bound v) y.transactors m.dependences) (sym (read-message (resized y v old) img k p)) (low-message (message_part (resized y v old) img k) (octets-message_part (resized y v old) img o k));
  }

-- ---- W6

module _ (img : List ℕ) (n : length img ≡ image_bytes narrow) (o : Octets img) where
  pub length-widened : length (widened img) ≡ image_bytes base
  unfolding widened
  length-widened = length-recast narrow 1 2 img n

  pub octets-widened : Octets (widened img)
  unfolding widened
  octets-widened = octets-recast narrow base img o

  -- each field keeps its value, in every image
  pub widened-state : unpack base (widened img) ≡ unpack narrow img
  unfolding widened
  widened-state = unpack-recast narrow 1 2 img n o bounds fitting-narrow

  pub widened-back : recast base narrow (widened img) ≡ img
  unfolding widened
  widened-back = recast-back narrow 1 2 img n o bounds

  -- well-formed, it is what forward gives
  pub widened-forward : well_formed narrow img ≡ true → widened img ≡ forward img
  unfolding widened forward rewritten
  widened-forward e =
      ap (recast narrow base) (sym (pack-unpack-formed narrow img n o e))
      ∙ recast-pack narrow 1 2 bounds (unpack narrow img) (formed-state narrow img n o e).packable

  widened-formed-on : well_formed narrow img ≡ true → well_formed base (widened img) ≡ true
  widened-formed-on e = ap (well_formed base) (widened-forward e) ∙ forward-formed img n o e

  widened-formed-off : well_formed base (widened img) ≡ true → well_formed narrow img ≡ true
  widened-formed-off e =
      let st : State = unpack narrow img in
      let f : WellFormed base st = subst (WellFormed base) widened-state (formed-state base (widened img) length-widened octets-widened e) in
      let g : WellFormed narrow st = state-resized 2 1 true false narrow fitting-narrow f (low-unpack narrow 1 false img o) (allowed-narrow (read-widest narrow img refl)) in
      let a : widened img ≡ pack base st = sym (pack-unpack-formed base (widened img) length-widened octets-widened e) ∙ ap (pack base) widened-state in
      let b : recast base narrow (pack base st) ≡ img = ap (recast base narrow) (sym a) ∙ widened-back in
      let c : recast base narrow (pack base st) ≡ pack narrow st = ap (recast base narrow) (sym (recast-pack narrow 1 2 bounds st g.packable)) ∙ recast-back narrow 1 2 (pack narrow st) (length-pack narrow st) (octets-pack narrow st) bounds in
      subst (λ (x : List ℕ). well_formed narrow x ≡ true) (sym c ∙ b) (formed-pack narrow st g)

  -- The old image is well-formed exactly if the widened one is: the code tests the latter.
  pub widened-formed : well_formed base (widened img) ≡ well_formed narrow img
  widened-formed = same_test (well_formed base (widened img)) (well_formed narrow img) widened-formed-off widened-formed-on

-- The way back, where it succeeds, writes every number anew in one byte and copies the other bytes but the limits.
pub back-recast : (img : List ℕ) → length img ≡ image_bytes base → Octets img → well_formed base img ≡ true → too_wide img ≡ false → back img ≡ recast base narrow img
back-recast img n o e t =
    let p : length (back img) ≡ image_bytes narrow = length_back img in
    let a : widened (back img) ≡ img = widened-forward (back img) p (octets-back img) (back-formed img n o e t) ∙ forward-back img n o e t in
    sym (widened-back (back img) p (octets-back img)) ∙ ap (recast base narrow) a

-- 32 said of the numbers: not answered exactly if the limits are 16, 32 and 15 and every life number and list entry of every mark is below 256
module _ (img : List ℕ) (n : length img ≡ image_bytes base) (o : Octets img) (e : well_formed base img ≡ true) where
  pub fits_low : too_wide img ≡ false → ((unpack base img).limits ≡ limits_of 16 32 15) × LowState 256 16 (unpack base img)
  unfolding too_wide
  fits_low t =
      let z = both (limits_are (unpack base img).limits (widest base)) _ (not-false (limits_are (unpack base img).limits (widest base) and state_within 255 base (unpack base img)) t) in
      (are-on (unpack base img).limits (widest base) z.0, state-low 255 base 2 true (formed-state base img n o e) z.1)

  pub low_fits : (unpack base img).limits ≡ limits_of 16 32 15 → LowState 256 16 (unpack base img) → too_wide img ≡ false
  unfolding too_wide
  low_fits m l = rw (are-same (unpack base img).limits (widest base) m, low-state_within 255 base (unpack base img) l)
