-- Two packed maps and a history joined behind them: the right map's bytes are copied there, the left one joins them, then the history does.
use Prim.Native.Nat.{ℕ, ◌+◌, ◌*◌, ◌≤◌, ◌<◌}
use mathlib.Core.Bool.{Bool, true, false}
use mathlib.Core.Path.{◌≡◌, sym, ap, ◌∙◌}
use mathlib.Core.List.{List}
use native.Mathlib.Omega.{arith}
use lib.ListN.{length}
use Rattle.octets.specs.Bytes.{put, part}
use Rattle.octets.proofs.Put.{length_part, part-put, part-put-before, put-put, put-part, put-inside}
use Rattle.octets.proofs.Chunks.{step}
use Rattle.marks.specs.declared.History.{History}
use Rattle.marks.specs.Packed.{history_size, pack_history, unpack_history, present_in, history_in}
use Rattle.marks.proofs.Packed.{length-pack_history}
use Rattle.maps.specs.declared.DependenceMap.{DependenceMap}
use Rattle.maps.specs.Map.{with_entry, singleton, chooses_right, join_of, Sized}
use Rattle.maps.specs.Packed.{map_size, pack_map, unpack_map, map_in}
use Rattle.maps.specs.Internal.Fitting.{MapOk, Exact}
use Rattle.maps.proofs.Packed.{length-pack_map, sized-unpack, unpack-pack_map, map_ok-join}
use Rattle.maps.proofs.Placed.{put-entry, held_in, history-in}
use Rattle.maps.proofs.Joins.{one_set, one_kept}

-- ---- one history, as the right one, into the map that stands from at on

module _ (w l n : ℕ) (s : List ℕ) (at : ℕ) (fits : at + map_size w l n ≤ length s) (exact : Exact w l n s at) (i : ℕ) (below : i < n) (h : History)
    (p : Bool) (x : History) (e : p ≡ present_in (part (at + history_size w l * i) (history_size w l) s)) (f : x ≡ unpack_history w l (part (at + history_size w l * i) (history_size w l) s)) where
  abbrev m : DependenceMap
  m = map_in w l n s at

  sized : Sized n m
  sized = sized-unpack w l n (part at (map_size w l n) s)

  pub right_kept : chooses_right p x true h ≡ false → s ≡ put at (pack_map w l n (join_of n m (singleton l n i h))) s
  unfolding Exact
  right_kept c =
      let same : m ≡ join_of n m (singleton l n i h) = one_kept l sized i h below (rw (held_in w l n at s i below, history-in w l n at s i below, ← e, ← f) c) in
      put-part at (map_size w l n) s fits ∙ ap (λ (b : List ℕ). put at b s) (sym exact ∙ ap (pack_map w l n) same)

  pub right-set : chooses_right p x true h ≡ true → (s' : List ℕ) → s' ≡ put (at + history_size w l * i) (pack_history w l h) s
      → s' ≡ put at (pack_map w l n (join_of n m (singleton l n i h))) s
  unfolding Exact
  right-set c s' g =
      let long : length (pack_history w l h) ≡ history_size w l = length-pack_history w l h in
      let room : history_size w l * i + history_size w l ≤ map_size w l n = step (history_size w l) i n below in
      let same : with_entry m i h ≡ join_of n m (singleton l n i h) = one_set l sized i h below (rw (held_in w l n at s i below, history-in w l n at s i below, ← e, ← f) c) in
      g
      ∙ put-inside at (history_size w l * i) (map_size w l n) (pack_history w l h) s fits (omega arith)
      ∙ ap (λ (b : List ℕ). put at b s)
      (ap (put (history_size w l * i) (pack_history w l h)) (sym exact) ∙ put-entry w l n sized i h below ∙ ap (pack_map w l n) same)

-- ---- the three joined from to on, which is behind them

module _ (w l n : ℕ) (s : List ℕ) (left right to : ℕ) (fits : to + map_size w l n ≤ length s) (left-before : left + map_size w l n ≤ to) (right-before : right + map_size w l n ≤ to)
    (s1 : List ℕ) (raised : s1 ≡ put to (part right (map_size w l n) s) s) where
  long : length (part right (map_size w l n) s) ≡ map_size w l n
  long = length_part right (map_size w l n) s (omega arith)

  there : part to (map_size w l n) s1 ≡ part right (map_size w l n) s
  there =
      ap (part to (map_size w l n)) raised
      ∙ ap (λ (k : ℕ). part to k (put to (part right (map_size w l n) s) s)) (sym long)
      ∙ part-put to (part right (map_size w l n) s) s (omega (arith, long))

  left-still : part left (map_size w l n) s1 ≡ part left (map_size w l n) s
  left-still = ap (part left (map_size w l n)) raised ∙ part-put-before to (part right (map_size w l n) s) s (omega (arith, long)) left (map_size w l n) left-before

  pub raised-exact : Exact w l n s right → Exact w l n s1 to
  unfolding Exact
  raised-exact exact = ap (λ (b : List ℕ). pack_map w l n (unpack_map w l n b)) there ∙ exact ∙ sym there

  abbrev both : DependenceMap
  both = join_of n (map_in w l n s left) (map_in w l n s right)

  module _ (s2 : List ℕ) (joined : s2 ≡ put to (pack_map w l n (join_of n (map_in w l n s1 left) (map_in w l n s1 to))) s1) where
    bytes : s2 ≡ put to (pack_map w l n both) s
    bytes =
        joined
        ∙ ap (λ (b : List ℕ). put to (pack_map w l n (join_of n (unpack_map w l n b) (map_in w l n s1 to))) s1) left-still
        ∙ ap (λ (b : List ℕ). put to (pack_map w l n (join_of n (map_in w l n s left) (unpack_map w l n b))) s1) there
        ∙ ap (put to (pack_map w l n both)) raised
        ∙ put-put to (part right (map_size w l n) s) (pack_map w l n both) s (omega (arith, long)) (length-pack_map w l n both ∙ sym long)

    part-both : part to (map_size w l n) s2 ≡ pack_map w l n both
    part-both =
        let k : length (pack_map w l n both) ≡ map_size w l n = length-pack_map w l n both in
        ap (part to (map_size w l n)) bytes ∙ ap (λ (j : ℕ). part to j (put to (pack_map w l n both) s)) (sym k) ∙ part-put to (pack_map w l n both) s (omega arith)

    module _ (a : MapOk w l n (map_in w l n s left)) (b : MapOk w l n (map_in w l n s right)) where
      map_both : map_in w l n s2 to ≡ both
      map_both = ap (unpack_map w l n) part-both ∙ unpack-pack_map (map_ok-join a b)

      pub joined-exact : Exact w l n s2 to
      unfolding Exact
      joined-exact = ap (pack_map w l n) map_both ∙ sym part-both

      pub joined-all : (i own : ℕ) (h : History) (s3 : List ℕ) → own + history_size w l ≤ to → h ≡ history_in w l s2 own
          → s3 ≡ put to (pack_map w l n (join_of n (map_in w l n s2 to) (singleton l n i h))) s2
          → s3 ≡ put to (pack_map w l n (join_of n both (singleton l n i (history_in w l s own)))) s
      joined-all i own h s3 before loaded last =
          let k : length (pack_map w l n both) ≡ map_size w l n = length-pack_map w l n both in
          let mine : history_in w l s2 own ≡ history_in w l s own =
          ap (unpack_history w l) (ap (part own (history_size w l)) bytes ∙ part-put-before to (pack_map w l n both) s (omega arith) own (history_size w l) before) in
          let all : DependenceMap = join_of n both (singleton l n i (history_in w l s own)) in
          last
          ∙ ap (λ (m : DependenceMap). put to (pack_map w l n (join_of n m (singleton l n i h))) s2) map_both
          ∙ ap (λ (g : History). put to (pack_map w l n (join_of n both (singleton l n i g))) s2) (loaded ∙ mine)
          ∙ ap (put to (pack_map w l n all)) bytes
          ∙ put-put to (pack_map w l n both) (pack_map w l n all) s (omega arith) (length-pack_map w l n all ∙ sym k)
