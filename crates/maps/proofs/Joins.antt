-- Joins: of a map with a packed one, with one history, and into a packed map.
use Prim.Native.Nat.{ℕ, ◌+◌, ◌*◌, ◌≤◌, ◌<◌}
use mathlib.Core.Bool.{Bool, true, false}
use mathlib.Core.Path.{◌≡◌, refl, sym, ap, ◌∙◌}
use mathlib.Core.List.{List}
use native.Mathlib.Omega.{arith}
use native.Mathlib.Decide.{ℕ_discrete}
use lib.ListN.{length}
use Rattle.octets.specs.Bytes.{pick, put, part}
use Rattle.octets.proofs.Put.{part-put-after, put-part}
use Rattle.octets.proofs.Chunks.{step}
use Rattle.marks.specs.declared.History.{History}
use Rattle.marks.specs.Packed.{history_size, pack_history, unpack_history, present_in}
use Rattle.maps.specs.declared.DependenceMap.{DependenceMap}
use Rattle.maps.specs.Map.{held_at, history_at, with_entry, singleton, joined_history, chooses_right, joined_held_at, joined_history_at, join_of, Sized}
use Rattle.maps.specs.Packed.{map_size, pack_entry, pack_entry_at, pack_map, entry_bytes, map_in}
use Rattle.maps.specs.Internal.Fitting.{ExactEntry, Exact, joined_bytes}
use Rattle.maps.proofs.Map.{Entry, same_map, sized-with_entry, held-with_entry, history-with_entry, held-with_entry-other, history-with_entry-other, held-singleton, history-singleton, held-singleton-other, joined-pick-held, chooses_right_at, sized-join, held-join, history-join, held-chosen, history-chosen, held-join-off, history-join-off}
use Rattle.maps.proofs.Packed.{length-pack_map, entry-pack_map}
use Rattle.maps.proofs.Placed.{put-map-more, put-map-all, entry_here, held_in, history-in}

-- ---- a map joined with one history

module _ (l : ℕ) {n : ℕ} {m : DependenceMap} (s : Sized n m) (i : ℕ) (h : History) (below : i < n) where
  one-held : (j : ℕ) → j < n → (j ≡ i → ⊥) → held_at (join_of n m (singleton l n i h)) j ≡ held_at m j
  one-held j p z = held-join-off n m (singleton l n i h) j p (held-singleton-other l n i h j z)

  one-history : (j : ℕ) → j < n → (j ≡ i → ⊥) → history_at (join_of n m (singleton l n i h)) j ≡ history_at m j
  one-history j p z = history-join-off n m (singleton l n i h) j p (held-singleton-other l n i h j z)

  one_choice : (t : Bool) → chooses_right (held_at m i) (history_at m i) true h ≡ t → chooses_right_at m (singleton l n i h) i ≡ t
  one_choice t e = rw (held-singleton l n i h below, history-singleton l n i h below) e

  pub one_set : chooses_right (held_at m i) (history_at m i) true h ≡ true → with_entry m i h ≡ join_of n m (singleton l n i h)
  one_set e =
      let c = one_choice true e in
      sym (same_map (sized-join n m (singleton l n i h)) (sized-with_entry s i h)
      (λ j p. elim (ℕ_discrete j i) [
        | yes z ↦ rw z (held-chosen n m (singleton l n i h) i below true c ∙ held-singleton l n i h below ∙ sym (held-with_entry s i h below))
        | no z ↦ one-held j p z ∙ sym (held-with_entry-other m i h j z)
      ])
      (λ j p. elim (ℕ_discrete j i) [
        | yes z ↦ rw z (history-chosen n m (singleton l n i h) i below true c ∙ history-singleton l n i h below ∙ sym (history-with_entry s i h below))
        | no z ↦ one-history j p z ∙ sym (history-with_entry-other m i h j z)
      ]))

  pub one_kept : chooses_right (held_at m i) (history_at m i) true h ≡ false → m ≡ join_of n m (singleton l n i h)
  one_kept e =
      let c = one_choice false e in
      sym (same_map (sized-join n m (singleton l n i h)) s
      (λ j p. elim (ℕ_discrete j i) [ yes z ↦ rw z (held-chosen n m (singleton l n i h) i below false c) | no z ↦ one-held j p z ])
      (λ j p. elim (ℕ_discrete j i) [ yes z ↦ rw z (history-chosen n m (singleton l n i h) i below false c) | no z ↦ one-history j p z ]))

-- ---- entry i of the map packed from at on

pub entry_in : (w l n : ℕ) (s : List ℕ) (at i : ℕ) {p : Bool} {h : History} → i < n → p ≡ present_in (part (at + history_size w l * i) (history_size w l) s)
    → h ≡ unpack_history w l (part (at + history_size w l * i) (history_size w l) s) → Entry (map_in w l n s at) i p h
entry_in w l n s at i below e f = record { held = e ∙ sym (held_in w l n at s i below); history = f ∙ sym (history-in w l n at s i below) }

-- ---- one packed entry

module _ (w l : ℕ) (p : Bool) (h : History) (b : List ℕ) where
  module _ (exact : ExactEntry w l b) where
    pub bytes-absent : p ≡ false → joined_bytes w l p h b ≡ b
    unfolding joined_bytes ExactEntry joined_history chooses_right pack_entry
    bytes-absent e = rw e (go (present_in b) exact)
      where
        go : (q : Bool) → pack_entry w l q (unpack_history w l b) ≡ b → pack_entry w l q (pick (pick q true false) (unpack_history w l b) h) ≡ b
        go true z = z
        go false z = z

    pub bytes-right : chooses_right p h (present_in b) (unpack_history w l b) ≡ true → joined_bytes w l p h b ≡ b
    unfolding joined_bytes joined_history ExactEntry
    bytes-right e =
        rw (joined-pick-held p h (present_in b) (unpack_history w l b), e) exact

  pub bytes_left : p ≡ true → chooses_right p h (present_in b) (unpack_history w l b) ≡ false → joined_bytes w l p h b ≡ pack_history w l h
  unfolding joined_bytes joined_history pack_entry
  bytes_left k e = rw (joined-pick-held p h (present_in b) (unpack_history w l b), e, k)

-- in the buffer that holds the entry from at on
module _ (w l : ℕ) (p : Bool) (h : History) (s : List ℕ) (at : ℕ) (fits : at + history_size w l ≤ length s) (exact : ExactEntry w l (part at (history_size w l) s)) where
  stays : joined_bytes w l p h (part at (history_size w l) s) ≡ part at (history_size w l) s → s ≡ put at (joined_bytes w l p h (part at (history_size w l) s)) s
  stays e = put-part at (history_size w l) s fits ∙ ap (λ (x : List ℕ). put at x s) (sym e)

  pub stays-absent : p ≡ false → s ≡ put at (joined_bytes w l p h (part at (history_size w l) s)) s
  stays-absent e = stays (bytes-absent w l p h (part at (history_size w l) s) exact e)

  module _ (q : Bool) (y : History) (e : q ≡ present_in (part at (history_size w l) s)) (f : y ≡ unpack_history w l (part at (history_size w l) s)) where
    pub stays-right : chooses_right p h q y ≡ true → s ≡ put at (joined_bytes w l p h (part at (history_size w l) s)) s
    stays-right z = stays (bytes-right w l p h (part at (history_size w l) s) exact (rw (e, f) at z))

    pub stored-left : p ≡ true → chooses_right p h q y ≡ false → (s' : List ℕ) → s' ≡ put at (pack_history w l h) s → s' ≡ put at (joined_bytes w l p h (part at (history_size w l) s)) s
    stored-left k z s' i = i ∙ ap (λ (x : List ℕ). put at x s) (sym (bytes_left w l p h (part at (history_size w l) s) k (rw (e, f) at z)))

-- ---- into the map that stands from at on

module _ (w l n : ℕ) (s : List ℕ) (at : ℕ) where
  -- entry i of the join
  bytes-at : (m : DependenceMap) (i : ℕ) → i < n
      → joined_bytes w l (held_at m i) (history_at m i) (part (at + history_size w l * i) (history_size w l) s) ≡ pack_entry_at w l (join_of n m (map_in w l n s at)) i
  unfolding joined_bytes pack_entry_at joined_held_at joined_history_at
  bytes-at m i below =
      sym (rw (held-join n m (map_in w l n s at) i below, history-join n m (map_in w l n s at) i below, held_in w l n at s i below, history-in w l n at s i below) refl)

  pub entry-there : Exact w l n s at → (i : ℕ) → i < n → pack_entry_at w l (map_in w l n s at) i ≡ part (at + history_size w l * i) (history_size w l) s
  unfolding Exact
  entry-there exact i below =
      sym (entry-pack_map w l n (map_in w l n s at) i below) ∙ ap (λ (x : List ℕ). entry_bytes w l x i) exact ∙ entry_here w l n at s i below

  exact-at : Exact w l n s at → (i : ℕ) → i < n → ExactEntry w l (part (at + history_size w l * i) (history_size w l) s)
  unfolding ExactEntry pack_entry_at
  exact-at exact i below =
      let e : pack_entry_at w l (map_in w l n s at) i ≡ part (at + history_size w l * i) (history_size w l) s = entry-there exact i below in
      rw (held_in w l n at s i below, history-in w l n at s i below) at e

  -- the first i entries being joined, those from i on are still as they were
  module _ (m : DependenceMap) (i : ℕ) (below : i < n) (fits : at + map_size w l n ≤ length s) (s' : List ℕ)
      (first : s' ≡ put at (pack_map w l i (join_of n m (map_in w l n s at))) s) where
    still : part (at + history_size w l * i) (history_size w l) s' ≡ part (at + history_size w l * i) (history_size w l) s
    still =
        let long : length (pack_map w l i (join_of n m (map_in w l n s at))) ≡ history_size w l * i = length-pack_map w l i (join_of n m (map_in w l n s at)) in
        let room : history_size w l * i + history_size w l ≤ map_size w l n = step (history_size w l) i n below in
        ap (part (at + history_size w l * i) (history_size w l)) first
        ∙ part-put-after at (pack_map w l i (join_of n m (map_in w l n s at))) s (omega arith) (at + history_size w l * i) (history_size w l) (omega arith)

    pub into-exact : Exact w l n s at → ExactEntry w l (part (at + history_size w l * i) (history_size w l) s')
    into-exact exact = rw still (exact-at exact i below)

    pub into_more : (s'' : List ℕ) → s'' ≡ put (at + history_size w l * i) (joined_bytes w l (held_at m i) (history_at m i) (part (at + history_size w l * i) (history_size w l) s')) s'
        → s'' ≡ put at (pack_map w l (i + 1) (join_of n m (map_in w l n s at))) s
    unfolding pack_entry_at
    into_more s'' e =
        let room : history_size w l * i + history_size w l ≤ map_size w l n = step (history_size w l) i n below in
        put-map-more w l at (join_of n m (map_in w l n s at)) i s s' s'' first
        (e ∙ ap (λ (x : List ℕ). put (at + history_size w l * i) x s')
        (ap (joined_bytes w l (held_at m i) (history_at m i)) still ∙ bytes-at m i below))
        (omega arith)

  pub into-all : {m m' : DependenceMap} (i : ℕ) (s' : List ℕ) → s' ≡ put at (pack_map w l i (join_of n m (map_in w l n s at))) s → i ≡ n → m ≡ m'
      → s' ≡ put at (pack_map w l n (join_of n m' (map_in w l n s at))) s
  into-all {m} i s' e h f =
      put-map-all w l at (join_of n m (map_in w l n s at)) i n s s' e h
      ∙ ap (λ (x : DependenceMap). put at (pack_map w l n (join_of n x (map_in w l n s at))) s) f
