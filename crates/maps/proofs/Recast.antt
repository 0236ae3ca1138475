-- A map written in another width says the same, and back in the first width is the first bytes.
use Prim.Native.Nat.{ℕ, ◌*◌, ◌≤◌, ◌<◌}
use mathlib.Core.Bool.{Bool}
use mathlib.Core.Path.{◌≡◌, refl, ap, sym, ◌∙◌}
use mathlib.Core.List.{List}
use lib.ListN.{length}
use Rattle.octets.specs.Bytes.{part, chunks, Octets}
use Rattle.octets.specs.Numbers.{bound}
use Rattle.octets.proofs.Chunks.{tabulate-same, chunks-same, chunks-parts}
use Rattle.octets.proofs.Runs.{lengths, part_of}
use Rattle.marks.specs.declared.History.{History}
use Rattle.marks.specs.Packed.{history_size, unpack_history, present_in}
use Rattle.marks.specs.Internal.Recast.{recast_history}
use Rattle.marks.proofs.Recast.{length-recast, unpack-recast, present-recast, recast-back, recast-pack, recast-zeros}
use Rattle.maps.specs.declared.DependenceMap.{DependenceMap}
use Rattle.maps.specs.Packed.{map_size, pack_entry, pack_entry_at, pack_map, entry_bytes, unpack_held_at, unpack_history_at, unpack_map}
use Rattle.maps.specs.Internal.Fitting.{EntryOk, present, absent, MapOk}
use Rattle.maps.specs.Internal.Recast.{recast_entry_at, recast_map}
use Rattle.maps.proofs.Packed.{entry-pack_map, length-entry, octets-entry}

entry-def : (w l : ℕ) (b : List ℕ) (i : ℕ) → entry_bytes w l b i ≡ part (history_size w l * i) (history_size w l) b
unfolding entry_bytes
entry-def w l b i = refl

map_def : (v w l n : ℕ) (b : List ℕ) → recast_map v w l n b ≡ chunks n (recast_entry_at v w l b)
unfolding recast_map
map_def v w l n b = refl

pack-map-def : (w l n : ℕ) (m : DependenceMap) → pack_map w l n m ≡ chunks n (pack_entry_at w l m)
unfolding pack_map
pack-map-def w l n m = refl

recast-pack_entry : (v w l : ℕ) → bound v ≤ bound w → {p : Bool} {h : History} → EntryOk v l p h → recast_history v w l (pack_entry v l p h) ≡ pack_entry w l p h
unfolding pack_entry
recast-pack_entry v w l more {h = h} (present r k) = recast-pack v w l more h r k
recast-pack_entry v w l more absent = recast-zeros v w l more

module _ (v w l n : ℕ) (b : List ℕ) (whole : length b ≡ map_size v l n) where
  pub length-recast_map : length (recast_map v w l n b) ≡ map_size w l n
  unfolding recast_map recast_entry_at
  length-recast_map = lengths (history_size w l) n (recast_entry_at v w l b) (λ i h. length-recast v w l (entry_bytes v l b i) (length-entry v l n b whole i h))

  entry-recast : (i : ℕ) → i < n → entry_bytes w l (recast_map v w l n b) i ≡ recast_history v w l (entry_bytes v l b i)
  unfolding recast_map recast_entry_at
  entry-recast i h =
      entry-def w l (chunks n (recast_entry_at v w l b)) i
      ∙ part_of (history_size w l) n (recast_entry_at v w l b) (λ i h. length-recast v w l (entry_bytes v l b i) (length-entry v l n b whole i h)) i h

  module _ (o : Octets b) (more : bound v ≤ bound w) where
    same-held : (i : ℕ) → i < n → unpack_held_at w l (recast_map v w l n b) i ≡ unpack_held_at v l b i
    unfolding unpack_held_at
    same-held i h = ap present_in (entry-recast i h) ∙ present-recast v w l (entry_bytes v l b i) (length-entry v l n b whole i h)

    same-history : (i : ℕ) → i < n → unpack_history_at w l (recast_map v w l n b) i ≡ unpack_history_at v l b i
    unfolding unpack_history_at
    same-history i h = ap (unpack_history w l) (entry-recast i h) ∙ unpack-recast v w l (entry_bytes v l b i) (length-entry v l n b whole i h) (octets-entry v l b o i) more

    pub unpack-recast_map : unpack_map w l n (recast_map v w l n b) ≡ unpack_map v l n b
    unfolding unpack_map
    unpack-recast_map = rw (tabulate-same n (unpack_held_at w l (recast_map v w l n b)) (unpack_held_at v l b) same-held, tabulate-same n (unpack_history_at w l (recast_map v w l n b)) (unpack_history_at v l b) same-history)

    pub recast_map-back : recast_map w v l n (recast_map v w l n b) ≡ b
    unfolding recast_entry_at
    recast_map-back =
        map_def w v l n (recast_map v w l n b)
        ∙ chunks-same n (recast_entry_at w v l (recast_map v w l n b)) (λ i. part (history_size v l * i) (history_size v l) b)
        (λ i h. ap (recast_history w v l) (entry-recast i h) ∙ recast-back v w l more (entry_bytes v l b i) (length-entry v l n b whole i h) (octets-entry v l b o i) ∙ entry-def v l b i)
        ∙ chunks-parts (history_size v l) n b whole

pub recast_map-pack : (v w l n : ℕ) → bound v ≤ bound w → {m : DependenceMap} → MapOk v l n m → recast_map v w l n (pack_map v l n m) ≡ pack_map w l n m
unfolding recast_entry_at pack_entry_at
recast_map-pack v w l n more {m} k =
    map_def v w l n (pack_map v l n m)
    ∙ chunks-same n (recast_entry_at v w l (pack_map v l n m)) (pack_entry_at w l m) (λ i h. ap (recast_history v w l) (entry-pack_map v l n m i h) ∙ recast-pack_entry v w l more (k.each i h))
    ∙ sym (pack-map-def w l n m)
