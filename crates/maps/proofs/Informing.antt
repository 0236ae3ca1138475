-- News of a freeze in place: of a packed entry, of a packed map.
use Prim.Native.Nat.{ℕ, ◌+◌, ◌*◌, ◌≤◌, ◌<◌}
use mathlib.Core.Bool.{Bool, true, false, not}
use mathlib.Core.Path.{◌≡◌, refl, sym, ap, ◌∙◌}
use mathlib.Core.List.{List}
use native.Mathlib.Omega.{arith}
use lib.Dec.{eqb}
use lib.ListN.{length}
use Rattle.octets.specs.Bytes.{pick, ◌and◌, put, part}
use Rattle.octets.proofs.Put.{length-put, part-put-before, part-put-after, put-part}
use Rattle.octets.proofs.Chunks.{step}
use Rattle.marks.specs.declared.History.{History}
use Rattle.marks.specs.History.{incarnation_of, view_of, stabilized}
use Rattle.marks.specs.News.{shows_stable, informed}
use Rattle.marks.specs.Internal.News.{may_show}
use Rattle.marks.specs.Packed.{count_bound, history_size, pack_history, unpack_history, present_in}
use Rattle.marks.proofs.News.{may_none, may-some, informed-stable}
use Rattle.marks.proofs.Packed.{length-unpack, unpack-count}
use Rattle.maps.specs.declared.DependenceMap.{DependenceMap}
use Rattle.maps.specs.Map.{held_at, history_at}
use Rattle.maps.specs.News.{informed_history, informed_history_at, informed_of}
use Rattle.maps.specs.Packed.{map_size, pack_entry, pack_entry_at, pack_map, map_in}
use Rattle.maps.specs.Internal.Fitting.{Exact}
use Rattle.maps.specs.Internal.Informing.{Apart, before, behind, shown_entry, informed_at}
use Rattle.maps.proofs.News.{held-informed, history-informed}
use Rattle.maps.proofs.Packed.{length-pack_map}
use Rattle.maps.proofs.Placed.{put-map-more, held_in, history-in}
use Rattle.maps.proofs.Joins.{entry-there}

-- what stands apart from the bytes put
part_apart : {k from at : ℕ} (b l : List ℕ) → Apart k from at → at + length b ≤ length l → length b ≤ k → (j m : ℕ) → j + m ≤ k
    → part (from + j) m (put at b l) ≡ part (from + j) m l
part_apart {k} {from} {at} b l (before a) h f j m r = part-put-before at b l h (from + j) m (omega arith)
part_apart {k} {from} {at} b l (behind a) h f j m r = part-put-after at b l h (from + j) m (omega arith)

-- ---- what an entry shows, by the tests of the code

module _ (p : Bool) (x : History) (q : Bool) (y : History) where
  pub shown-none : q ≡ false → false ≡ shown_entry p x q y
  unfolding shown_entry
  shown-none e = rw e

  pub shown-both : may_show p x q y ≡ true → q ≡ true → shows_stable (incarnation_of x) (view_of y) ≡ shown_entry p x q y
  unfolding shown_entry
  shown-both e f = let z = may-some p x q y e in rw (f, z.0, z.1)

pub shown-off : (w l : ℕ) (b d : List ℕ) (p q : Bool) → count_bound ≤ l + 1 → may_show p (unpack_history w l b) q (unpack_history w l d) ≡ false
    → false ≡ shown_entry p (unpack_history w l b) q (unpack_history w l d)
unfolding shown_entry
shown-off w l b d p q long e =
    may_none l p (unpack_history w l b) q (unpack_history w l d) (length-unpack w l b) (length-unpack w l d) (omega (arith, unpack-count w l b)) (omega (arith, unpack-count w l d)) e

-- ---- one packed entry

module _ (w l : ℕ) (s : List ℕ) (at : ℕ) (own q : Bool) (y : History) where
  abbrev shown : Bool
  shown = shown_entry (present_in (part at (history_size w l) s)) (unpack_history w l (part at (history_size w l) s)) q y

  pub informed-kept : shown ≡ false → s ≡ informed_at w l s at own q y
  unfolding informed_at
  informed-kept f = rw f (go own)
    where
      go : (t : Bool) → s ≡ pick (not t and false) (put at (pack_history w l (stabilized (unpack_history w l (part at (history_size w l) s)))) s) s
      go true = refl
      go false = refl

  pub informed-own : own ≡ true → s ≡ informed_at w l s at own q y
  unfolding informed_at
  informed-own e = rw e

  pub informed-set : own ≡ false → shown ≡ true → (x h : History) → x ≡ unpack_history w l (part at (history_size w l) s) → h ≡ stabilized x
      → (s' : List ℕ) → s' ≡ put at (pack_history w l h) s → s' ≡ informed_at w l s at own q y
  unfolding informed_at
  informed-set e f x h i j s' k = k ∙ rw (e, f, j, i)

-- what stays is put again, or the frozen history in its place
put-informed : (w l k : ℕ) (s : List ℕ) (c p q : Bool) (x y : History) → s ≡ put k (pack_entry w l p x) s
    → pick (not c and shown_entry p x q y) (put k (pack_history w l (stabilized x)) s) s ≡ put k (pack_entry w l p (pick c x (informed_history p x q y))) s
unfolding shown_entry informed_history informed pack_entry
put-informed w l k s true p q x y e = e
put-informed w l k s false false true x y e = e
put-informed w l k s false false false x y e = e
put-informed w l k s false true false x y e = e
put-informed w l k s false true true x y e = at x.stable refl
  where
    go : (t : Bool) → pick t (put k (pack_history w l (stabilized x)) s) s ≡ put k (pack_history w l (pick t (stabilized x) x)) s
    go true = refl
    go false = e

    at : (b : Bool) → x.stable ≡ b
        → pick (not b and shows_stable (incarnation_of x) (view_of y)) (put k (pack_history w l (stabilized x)) s) s ≡ put k (pack_history w l (informed x y)) s
    at true f = e ∙ ap (λ (h : History). put k (pack_history w l h) s) (sym (informed-stable x y f))
    at false f = go (shows_stable (incarnation_of x) (view_of y))

-- ---- the map that stands from at on

module _ (w l n : ℕ) (s : List ℕ) (at : ℕ) (fits : at + map_size w l n ≤ length s) (exact : Exact w l n s at) (i : ℕ) (below : i < n) where
  -- entry i, being still that of s
  informed-here : (t : ℕ) (b : DependenceMap) (s' : List ℕ) → length s' ≡ length s
      → part (at + history_size w l * i) (history_size w l) s' ≡ part (at + history_size w l * i) (history_size w l) s
      → informed_at w l s' (at + history_size w l * i) (eqb i t) (held_at b i) (history_at b i)
      ≡ put (at + history_size w l * i) (pack_entry_at w l (informed_of n t (map_in w l n s at) b) i) s'
  unfolding informed_at pack_entry_at informed_history_at
  informed-here t b s' long still =
      let a : DependenceMap = map_in w l n s at in
      let k : ℕ = at + history_size w l * i in
      let room : history_size w l * i + history_size w l ≤ map_size w l n = step (history_size w l) i n below in
      let e : present_in (part k (history_size w l) s') ≡ held_at a i = ap present_in still ∙ sym (held_in w l n at s i below) in
      let f : unpack_history w l (part k (history_size w l) s') ≡ history_at a i = ap (unpack_history w l) still ∙ sym (history-in w l n at s i below) in
      let there : s' ≡ put k (pack_entry w l (held_at a i) (history_at a i)) s' =
      put-part k (history_size w l) s' (omega arith) ∙ ap (λ (x : List ℕ). put k x s') (still ∙ sym (entry-there w l n s at exact i below)) in
      rw (e, f, held-informed n t a b i, history-informed n t a b i below) (put-informed w l k s' (eqb i t) (held_at a i) (held_at b i) (history_at a i) (history_at b i) there)

-- entry i, the first i being as they shall be
pub informed-more : (w l n : ℕ) (s s' s'' : List ℕ) (from at t i : ℕ) → at + map_size w l n ≤ length s → Apart (map_size w l n) from at
    → Exact w l n s at → i < n → s' ≡ put at (pack_map w l i (informed_of n t (map_in w l n s at) (map_in w l n s from))) s
    → s'' ≡ informed_at w l s' (at + history_size w l * i) (eqb i t)
    (present_in (part (from + history_size w l * i) (history_size w l) s')) (unpack_history w l (part (from + history_size w l * i) (history_size w l) s'))
    → s'' ≡ put at (pack_map w l (i + 1) (informed_of n t (map_in w l n s at) (map_in w l n s from))) s
unfolding pack_entry_at
informed-more w l n s s' s'' from at t i fits apart exact below e y =
    let b : DependenceMap = map_in w l n s from in
    let m : DependenceMap = informed_of n t (map_in w l n s at) b in
    let long : length (pack_map w l i m) ≡ history_size w l * i = length-pack_map w l i m in
    let room : history_size w l * i + history_size w l ≤ map_size w l n = step (history_size w l) i n below in
    let same : length s' ≡ length s = ap length e ∙ length-put at (pack_map w l i m) s (omega arith) in
    let here : part (at + history_size w l * i) (history_size w l) s' ≡ part (at + history_size w l * i) (history_size w l) s =
    ap (part (at + history_size w l * i) (history_size w l)) e
    ∙ part-put-after at (pack_map w l i m) s (omega arith) (at + history_size w l * i) (history_size w l) (omega arith) in
    let there : part (from + history_size w l * i) (history_size w l) s' ≡ part (from + history_size w l * i) (history_size w l) s =
    ap (part (from + history_size w l * i) (history_size w l)) e
    ∙ part_apart (pack_map w l i m) s apart (omega arith) (omega arith) (history_size w l * i) (history_size w l) room in
    let p : present_in (part (from + history_size w l * i) (history_size w l) s') ≡ held_at b i = ap present_in there ∙ sym (held_in w l n from s i below) in
    let h : unpack_history w l (part (from + history_size w l * i) (history_size w l) s') ≡ history_at b i = ap (unpack_history w l) there ∙ sym (history-in w l n from s i below) in
    put-map-more w l at m i s s' s'' e
    (y ∙ rw (p, h) (informed-here w l n s at fits exact i below t b s' same here))
    (omega arith)
