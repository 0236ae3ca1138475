-- The messages that wait: their numbers rise; loops that look for one, one more, one less.
use Prim.Native.Nat.{ℕ, zero, suc, ◌+◌, ◌-◌, ◌*◌, ◌≤◌, ◌<◌}
use mathlib.Core.Bool.{true, false}
use mathlib.Core.Path.{◌≡◌, sym, ap, ◌∙◌}
use mathlib.Core.List.{List, ◌++◌}
use mathlib.Core.Logic.{⊎_elim}
use native.Mathlib.Numerals.{add-one}
use native.Mathlib.Omega.{arith}
use borrow.Author.Tests.{lt-ltb, le-ltb, eq-eqb, ne_eqb}
use lib.ListN.{length, get_or, set, get_or-eq_default}
use Rattle.octets.specs.Bytes.{put, part, zeros}
use Rattle.octets.specs.Numbers.{be}
use Rattle.octets.proofs.Put.{length-put, part-put-before}
use Rattle.octets.proofs.Numbers.{length-be, put-be-one}
use Rattle.octets.proofs.Chunks.{cases, step}
use Rattle.maps.specs.declared.DependenceMap.{DependenceMap}
use Rattle.rules.specs.Layout.{Layout, dependences_at, message_bytes, message_address, image_bytes}
use Rattle.rules.specs.State.{State, no_message, place_from, place_of, numbered, message_at, with_message, without_message, addressed_to}
use Rattle.rules.specs.Pack.{pack_dependences, pack_message, vacant_at, waiting_in, pack, unpack}
use Rattle.rules.specs.Internal.Well.{WellFormed}
use Rattle.rules.proofs.Pack.Loads.{unpack-waiting, read-vacant}
use Rattle.rules.proofs.Pack.Stores.{sent, put-pack_message, pack-with_message, pack-removed}

-- in a well-formed state a later place has a higher number
pub numbers-rise : {y : Layout} {s : State} → WellFormed y s → (i j : ℕ) → i < j → j < length s.messages → (message_at s i).number < (message_at s j).number
numbers-rise w i zero h b = absurd (omega arith)
numbers-rise {y} {s} w i (suc j) h b =
    let next : (message_at s j).number < (message_at s (suc j)).number = rw (← add-one j) (w.order j (omega arith)) in
    ⊎_elim
    (λ (p : i < j). omega (arith, numbers-rise w i j p (omega arith)))
    (λ (p : i ≡ j). rw p next)
    (cases j i h)

-- past the last parcel
pub no-message : (s : State) (k : ℕ) → length s.messages ≤ k → message_at s k ≡ no_message
unfolding message_at
no-message s k h = get_or-eq_default s.messages no_message {n = k} h

-- what the fields of a waiting message say to a search
module _ (s : State) (k p : ℕ) where
  pub numbered-so : (message_at s k).number ≡ p → numbered s p k ≡ true
  unfolding numbered
  numbered-so = eq-eqb (message_at s k).number p

  pub numbered-not : ((message_at s k).number ≡ p → ⊥) → numbered s p k ≡ false
  unfolding numbered
  numbered-not = ne_eqb (message_at s k).number p

  pub addressed-so : (message_at s k).addressee ≡ p → addressed_to s p k ≡ true
  unfolding addressed_to
  addressed-so = eq-eqb (message_at s k).addressee p

  pub addressed-not : ((message_at s k).addressee ≡ p → ⊥) → addressed_to s p k ≡ false
  unfolding addressed_to
  addressed-not = ne_eqb (message_at s k).addressee p

module _ (y : Layout) (img : List ℕ) where
  -- ---- what the head byte of a place says

  pub vacant-low : (k : ℕ) → get_or img (message_address y k) 0 < 128 → vacant_at y img k ≡ true
  vacant-low k h = read-vacant y img k ∙ lt-ltb (get_or img (message_address y k) 0) 128 h

  pub vacant-high : (k : ℕ) → 128 ≤ get_or img (message_address y k) 0 → vacant_at y img k ≡ false
  vacant-high k h = read-vacant y img k ∙ le-ltb (get_or img (message_address y k) 0) 128 h

  pub place_of-among : (n p : ℕ) → n ≡ waiting_in y img → place_from (numbered (unpack y img) p) 0 n ≡ place_of (unpack y img) p
  unfolding place_of
  place_of-among n p e = ap (place_from (numbered (unpack y img) p) 0) (omega (arith, unpack-waiting y img))

  -- ---- stores, in an image that is the packing of what it says

  module _ (whole : length img ≡ image_bytes y) (back : pack y (unpack y img) ≡ img) (n : ℕ) (waits : n ≡ waiting_in y img) where
    -- the fields of one more message, and the next number
    -- what stands before the place, with the fields of the message stored
    pub fields-before : (to v p : ℕ) (l : List ℕ) → n < y.messages → to < 16 → l ≡ put (message_address y n + 3) (be 4 v) (put (message_address y n + 1) (be 2 p) (set img (message_address y n) (128 + to)))
        → (i k : ℕ) → i + k ≤ message_address y n → part i k l ≡ part i k img
    fields-before to v p l room small e i k h =
        let a : ℕ = message_address y n in
        let fits : a + message_bytes y ≤ length img = omega (arith, step (message_bytes y) n y.messages room) in
        let head : set img a (128 + to) ≡ put a (be 1 (128 + to)) img = sym (put-be-one a (128 + to) img (omega arith) (omega arith)) in
        let l0 : List ℕ = put a (be 1 (128 + to)) img in
        let l1 : List ℕ = put (a + 1) (be 2 p) l0 in
        let n1 : length (be 1 (128 + to)) ≡ 1 = length-be 1 (128 + to) in
        let n2 : length (be 2 p) ≡ 2 = length-be 2 p in
        let n4 : length (be 4 v) ≡ 4 = length-be 4 v in
        let k0 : length l0 ≡ length img = length-put a (be 1 (128 + to)) img (omega arith) in
        let k1 : length l1 ≡ length l0 = length-put (a + 1) (be 2 p) l0 (omega arith) in
        ap (part i k) (e ∙ ap (λ (z : List ℕ). put (a + 3) (be 4 v) (put (a + 1) (be 2 p) z)) head)
        ∙ part-put-before (a + 3) (be 4 v) l1 (omega arith) i k (omega arith)
        ∙ part-put-before (a + 1) (be 2 p) l0 (omega arith) i k (omega arith)
        ∙ part-put-before a (be 1 (128 + to)) img (omega arith) i k h

    pub append-image : (to v p : ℕ) (m : DependenceMap) (l1 l2 l3 l4 : List ℕ) → n < y.messages → to < 16 → p ≡ (unpack y img).next
        → l1 ≡ put (message_address y n + 1) (be 2 p) (set img (message_address y n) (128 + to))
        → l2 ≡ put (message_address y n + 3) (be 4 v) l1
        → l3 ≡ put (message_address y n + dependences_at) (pack_dependences y m) l2
        → l4 ≡ put 1 (be 2 (p + 1)) l3
        → l4 ≡ pack y (with_message (unpack y img) to v m)
    append-image to v p m l1 l2 l3 l4 room small e e1 e2 e3 e4 =
        let s : State = unpack y img in
        let a : ℕ = message_address y n in
        let fits : a + message_bytes y ≤ length img = omega (arith, step (message_bytes y) n y.messages room) in
        let many : length s.messages ≡ n = omega (arith, unpack-waiting y img) in
        let head : set img a (128 + to) ≡ put a (be 1 (128 + to)) img = sym (put-be-one a (128 + to) img (omega arith) (omega arith)) in
        let fields : l3 ≡ put a (pack_message y (sent s to v m)) img = rw (e3, e2, e1, head, e) (put-pack_message y (sent s to v m) a img fits) in
        rw (e4, fields, e) (rw (back, many) at (pack-with_message y s to v m (omega arith)))

    -- the later ones moved down over the one in place k
    pub remove-image : (k : ℕ) (l : List ℕ) → n ≤ y.messages → k < n
        → l ≡ put (message_address y k) (part (message_address y k + message_bytes y) (message_bytes y * (n - (k + 1))) img ++ zeros (message_bytes y)) img
        → l ≡ pack y (without_message (unpack y img) k)
    remove-image k l few below e =
        let many : length (unpack y img).messages ≡ n = omega (arith, unpack-waiting y img) in
        e ∙ (rw (back, many) at (pack-removed y (unpack y img) k (omega arith) (omega arith)))
