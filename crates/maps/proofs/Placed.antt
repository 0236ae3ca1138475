-- Packed maps from a place of a buffer on: what the code that stores, loads and tests them does, over the width w of a life
-- number, the length l of a list and the number n of entries.
use Prim.Native.Nat.{ℕ, ◌+◌, ◌*◌, ◌≤◌, ◌<◌}
use mathlib.Core.Bool.{Bool, true, false, false≢true}
use mathlib.Core.Path.{◌≡◌, refl, sym, ap, ◌∙◌, subst}
use mathlib.Core.List.{List}
use native.Mathlib.Nat.{add-zero}
use native.Mathlib.Omega.{arith}
use lib.Dec.{ltb}
use lib.ListN.{length}
use Rattle.octets.specs.Bytes.{put, part, zeros, all_zero, every}
use Rattle.octets.proofs.Put.{part-part, put_whole, length_part}
use Rattle.octets.proofs.Zero.{zeros-is, every-none, every-same}
use Rattle.octets.proofs.Chunks.{step, put-none, put-more, put-chunk}
use Rattle.marks.specs.declared.History.{History}
use Rattle.marks.specs.History.{initial_history}
use Rattle.marks.specs.Packed.{history_size, pack_history, unpack_history, present_in}
use Rattle.marks.proofs.Packed.{length-pack_history}
use Rattle.maps.specs.declared.DependenceMap.{DependenceMap}
use Rattle.maps.specs.Map.{held_at, history_at, empty_map, with_entry, is_empty, Sized}
use Rattle.maps.specs.Packed.{map_size, pack_entry, pack_entry_at, pack_map, entry_bytes, unpack_held_at, unpack_history_at, unpack_map, map_in, formed_entry, formed_entry_at, formed_map}
use Rattle.maps.specs.Internal.Fitting.{looked}
use Rattle.maps.proofs.Map.{held-empty, history-empty, held-with_entry, history-with_entry, held-with_entry-other, history-with_entry-other}
use Rattle.maps.proofs.Packed.{length-pack_entry_at, held-unpack, history-unpack, pack-is_empty, unpack-zeros, formed-zero_map}

-- ---- one entry

module _ (w l : ℕ) where
  module _ (at : ℕ) (p : Bool) (h : History) (b b' : List ℕ) where
    pub put-absent : p ≡ false → b' ≡ put at (zeros (history_size w l)) b → b' ≡ put at (pack_entry w l p h) b
    unfolding pack_entry
    put-absent e f = rw e f

-- ---- a map is stored entry by entry

module _ (w l at : ℕ) (m : DependenceMap) where
  pub put-map-none : (b : List ℕ) → b ≡ put at (pack_map w l 0 m) b
  unfolding pack_map
  put-map-none b = put-none at (pack_entry_at w l m) b

  pub put-map-more : (i : ℕ) (b b' b'' : List ℕ) → b' ≡ put at (pack_map w l i m) b → b'' ≡ put (at + history_size w l * i) (pack_entry w l (held_at m i) (history_at m i)) b'
      → at + history_size w l * i + history_size w l ≤ length b → b'' ≡ put at (pack_map w l (i + 1) m) b
  unfolding pack_map pack_entry_at
  put-map-more i b b' b'' e f h = put-more at (history_size w l) (pack_entry_at w l m) (length-pack_entry_at w l m) i b b' b'' e f h

  pub put-map-zeros : (n : ℕ) (b b' : List ℕ) → is_empty n m ≡ true → b' ≡ put at (zeros (map_size w l n)) b → b' ≡ put at (pack_map w l n m) b
  put-map-zeros n b b' e f = f ∙ ap (λ (z : List ℕ). put at z b) (sym (pack-is_empty w l n m e))

  pub put-map-all : (i n : ℕ) (b b' : List ℕ) → b' ≡ put at (pack_map w l i m) b → i ≡ n → b' ≡ put at (pack_map w l n m) b
  put-map-all i n b b' e h = e ∙ ap (λ (k : ℕ). put at (pack_map w l k m) b) h

-- the empty map's, which are not held
pub put-empty-more : (w l at n i : ℕ) (h : History) (b b' b'' : List ℕ) → b' ≡ put at (pack_map w l i (empty_map l n)) b
    → b'' ≡ put (at + history_size w l * i) (pack_entry w l false h) b' → at + history_size w l * i + history_size w l ≤ length b
    → b'' ≡ put at (pack_map w l (i + 1) (empty_map l n)) b
unfolding pack_entry
put-empty-more w l at n i h b b' b'' e f k = put-map-more w l at (empty_map l n) i b b' b'' e (rw (held-empty l n i) f) k

-- one history is stored in a packed map
module _ (w l n : ℕ) {m : DependenceMap} (s : Sized n m) (i : ℕ) (h : History) (below : i < n) where
  stored_here : pack_entry_at w l (with_entry m i h) i ≡ pack_history w l h
  unfolding pack_entry_at pack_entry
  stored_here = rw (held-with_entry s i h below, history-with_entry s i h below)

  stored_other : (j : ℕ) → (j ≡ i → ⊥) → pack_entry_at w l (with_entry m i h) j ≡ pack_entry_at w l m j
  unfolding pack_entry_at
  stored_other j e = rw (held-with_entry-other m i h j e, history-with_entry-other m i h j e)

  pub put-entry : put (history_size w l * i) (pack_history w l h) (pack_map w l n m) ≡ pack_map w l n (with_entry m i h)
  unfolding pack_map
  put-entry =
      let long : length (pack_history w l h) ≡ history_size w l = length-pack_history w l h in
      ap (λ (k : ℕ). put k (pack_history w l h) (pack_map w l n m)) (sym (add-zero (history_size w l * i)))
      ∙ put-chunk (history_size w l) (pack_entry_at w l m) (pack_entry_at w l (with_entry m i h)) (length-pack_entry_at w l m) n i 0 (pack_history w l h) below (omega arith)
      (stored_here ∙ sym (put_whole (pack_history w l h) (pack_entry_at w l m i) (long ∙ sym (length-pack_entry_at w l m i))))
      stored_other

-- ---- entry i of a map that stands from at on

module _ (w l n at : ℕ) (s : List ℕ) (i : ℕ) (below : i < n) where
  pub entry_here : entry_bytes w l (part at (map_size w l n) s) i ≡ part (at + history_size w l * i) (history_size w l) s
  unfolding entry_bytes
  entry_here = part-part (history_size w l * i) (history_size w l) at (map_size w l n) s (step (history_size w l) i n below)

  pub held-here : present_in (part (at + history_size w l * i) (history_size w l) s) ≡ unpack_held_at w l (part at (map_size w l n) s) i
  unfolding unpack_held_at
  held-here = ap present_in (sym entry_here)

  pub history-here : unpack_history w l (part (at + history_size w l * i) (history_size w l) s) ≡ unpack_history_at w l (part at (map_size w l n) s) i
  unfolding unpack_history_at
  history-here = ap (unpack_history w l) (sym entry_here)

  pub held_in : held_at (map_in w l n s at) i ≡ present_in (part (at + history_size w l * i) (history_size w l) s)
  held_in = held-unpack w l n (part at (map_size w l n) s) i below ∙ ap present_in entry_here

  pub history-in : history_at (map_in w l n s at) i ≡ unpack_history w l (part (at + history_size w l * i) (history_size w l) s)
  history-in = history-unpack w l n (part at (map_size w l n) s) i below ∙ ap (unpack_history w l) entry_here

  pub formed-here : (c opened : ℕ) → formed_entry_at w l c opened (part at (map_size w l n) s) i ≡ formed_entry w c (ltb i opened) (part (at + history_size w l * i) (history_size w l) s)
  unfolding formed_entry_at
  formed-here c opened = ap (formed_entry w c (ltb i opened)) entry_here

-- ---- of a packed map whose bytes are all zero no entry is looked at

module _ (n : ℕ) (b : List ℕ) where
  pub looked-none : all_zero b ≡ true → looked n b ≡ 0
  unfolding looked
  looked-none e = rw e

  pub looked-all : all_zero b ≡ false → looked n b ≡ n
  unfolding looked
  looked-all e = rw e

module _ (w l n : ℕ) (s : List ℕ) (at : ℕ) (fits : at + map_size w l n ≤ length s) where
  abbrev b : List ℕ
  b = part at (map_size w l n) s

  bytes-zero : all_zero b ≡ true → b ≡ zeros (map_size w l n)
  bytes-zero z = zeros-is b z ∙ ap zeros (length_part at (map_size w l n) s fits)

  map-zero : all_zero b ≡ true → map_in w l n s at ≡ empty_map l n
  map-zero z = ap (unpack_map w l n) (bytes-zero z) ∙ unpack-zeros w l n

  -- one whose first entry is held has other bytes
  pub looked-held : 0 < n → present_in (part at (history_size w l) s) ≡ true → looked n b ≡ n
  looked-held some h = looked-all n b (go (all_zero b) refl)
    where
      first : held_at (map_in w l n s at) 0 ≡ true
      first = let z : at + history_size w l * 0 ≡ at = omega arith in held_in w l n at s 0 some ∙ rw z h

      go : (t : Bool) → all_zero b ≡ t → t ≡ false
      go true z = absurd (false≢true (sym (ap (λ (m : DependenceMap). held_at m 0) (map-zero z) ∙ held-empty l n 0) ∙ first))
      go false z = refl

  module _ (e : ℕ) (end : e ≡ looked n b) where
    -- the entries that are not looked at
    unlooked : (j : ℕ) → e ≤ j → j < n → map_in w l n s at ≡ empty_map l n
    unlooked j h k = go (all_zero b) refl
      where
        go : (t : Bool) → all_zero b ≡ t → map_in w l n s at ≡ empty_map l n
        go true z = map-zero z
        go false z = let f : e ≡ n = end ∙ looked-all n b z in absurd (omega arith)

    module _ (j : ℕ) (h : e ≤ j) (k : j < n) where
      pub unlooked-held : held_at (map_in w l n s at) j ≡ false
      unlooked-held = ap (λ (m : DependenceMap). held_at m j) (unlooked j h k) ∙ held-empty l n j

      pub unlooked-history : history_at (map_in w l n s at) j ≡ initial_history l
      unlooked-history = ap (λ (m : DependenceMap). history_at m j) (unlooked j h k) ∙ history-empty l n j k

    -- well-formed exactly if those that are looked at are
    pub formed-looked : (c opened : ℕ) → every e (λ i. formed_entry w c (ltb i opened) (part (at + history_size w l * i) (history_size w l) s)) ≡ formed_map w l n c opened b
    unfolding formed_map
    formed-looked c opened = go (all_zero b) refl
      where
        g : ℕ → Bool
        g i = formed_entry w c (ltb i opened) (part (at + history_size w l * i) (history_size w l) s)

        go : (t : Bool) → all_zero b ≡ t → every e g ≡ every n (formed_entry_at w l c opened b)
        go true z =
            let none : e ≡ 0 = end ∙ looked-none n b z in
            ap (λ (k : ℕ). every k g) none ∙ every-none g
            ∙ sym (subst (λ (x : List ℕ). formed_map w l n c opened x ≡ true) (sym (bytes-zero z)) (formed-zero_map w l n c opened))
        go false z =
            ap (λ (k : ℕ). every k g) (end ∙ looked-all n b z)
            ∙ every-same g (formed_entry_at w l c opened b) n (λ i h. sym (formed-here w l n at s i h c opened))
