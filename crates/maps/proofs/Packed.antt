-- Laws of packed maps: there and back, well-formed bytes, what can be packed, counts within their lists.
use Prim.Native.Nat.{ℕ, ◌+◌, ◌*◌, ◌≤◌, ◌<◌}
use mathlib.Core.Bool.{Bool, true, false}
use mathlib.Core.Path.{◌≡◌, refl, sym, ap, ◌∙◌, subst}
use mathlib.Core.List.{List}
use mathlib.Core.Logic.{⊎_elim}
use native.Mathlib.Omega.{arith}
use native.Mathlib.Decide.{ℕ_discrete}
use lib.Dec.{ltb}
use lib.ListN.{length, get_or, get_or-eq_default}
use lib.Seq.{get_or-set_same, set_out}
use borrow.Author.Tests.{le-ltb, ltb-false}
use Rattle.octets.specs.Bytes.{part, zeros, all_zero, Octets}
use Rattle.octets.proofs.Put.{length_part, octets-part}
use Rattle.octets.proofs.Zero.{length-zeros, octets-zeros, all_zero-zeros, zeros-is, chunks-zeros, every-all, every-at}
use Rattle.octets.proofs.Chunks.{sides, step, length-tabulate, get_d_tabulate, length-chunks, part-chunks, chunks-same, chunks-parts, octets-chunks}
use Rattle.marks.specs.declared.History.{History}
use Rattle.marks.specs.Packed.{count_bound, history_size, unpack_history, present_in, formed_history}
use Rattle.marks.proofs.Histories.{newer-which}
use Rattle.marks.proofs.Packed.{length-pack_history, octets-pack_history, unpack-pack_history, pack-unpack_history, packable-unpack, unpack-count, unpack-zeros as unpack-zero, roomy-unpack, count-unpack, present-pack_history, formed-pack_history, absent-zeros, absent-is-zero, unpack-absent, formed-zeros}
use Rattle.maps.specs.declared.DependenceMap.{DependenceMap}
use Rattle.maps.specs.Map.{held_at, history_at, empty_map, with_entry, singleton, is_empty, join_of, Sized, Joined, both, left, right, neither}
use Rattle.maps.specs.Packed.{map_size, pack_entry, pack_entry_at, pack_map, entry_bytes, unpack_held_at, unpack_history_at, unpack_map, formed_entry, formed_entry_at, formed_map}
use Rattle.maps.specs.Internal.Fitting.{EntryOk, present, absent, MapOk, Bounded}
use Rattle.maps.proofs.Map.{outside, same_map, sized-empty, held-empty, history-empty, is_empty-test, is_empty_empty, sized-with_entry, held-with_entry, history-with_entry, held-with_entry-other, history-with_entry-other, sized-join, join-view}

-- ---- one entry

module _ (w l : ℕ) where
  length-pack_entry : (p : Bool) (h : History) → length (pack_entry w l p h) ≡ history_size w l
  unfolding pack_entry
  length-pack_entry true h = length-pack_history w l h
  length-pack_entry false h = length-zeros (history_size w l)

  octets-pack_entry : (p : Bool) (h : History) → Octets (pack_entry w l p h)
  unfolding pack_entry
  octets-pack_entry true h = octets-pack_history w l h
  octets-pack_entry false h = octets-zeros (history_size w l)

  pub length-pack_entry_at : (m : DependenceMap) (i : ℕ) → length (pack_entry_at w l m i) ≡ history_size w l
  unfolding pack_entry_at
  length-pack_entry_at m i = length-pack_entry (held_at m i) (history_at m i)

  octets-pack_entry_at : (m : DependenceMap) (i : ℕ) → Octets (pack_entry_at w l m i)
  unfolding pack_entry_at
  octets-pack_entry_at m i = octets-pack_entry (held_at m i) (history_at m i)

present-pack_entry : {w l : ℕ} {p : Bool} {h : History} → EntryOk w l p h → present_in (pack_entry w l p h) ≡ p
unfolding pack_entry
present-pack_entry (present r k) = present-pack_history k
present-pack_entry {w} {l} absent = absent-zeros (history_size w l)

unpack-pack_entry : {w l : ℕ} {p : Bool} {h : History} → EntryOk w l p h → unpack_history w l (pack_entry w l p h) ≡ h
unfolding pack_entry
unpack-pack_entry (present r k) = unpack-pack_history r k
unpack-pack_entry {w} {l} absent = unpack-zero w l (history_size w l)

-- ---- the packed map

module _ (w l n : ℕ) (m : DependenceMap) where
  pub length-pack_map : length (pack_map w l n m) ≡ map_size w l n
  unfolding pack_map
  length-pack_map = length-chunks (history_size w l) (pack_entry_at w l m) (length-pack_entry_at w l m) n

  pub octets-pack_map : Octets (pack_map w l n m)
  unfolding pack_map
  octets-pack_map = octets-chunks n (pack_entry_at w l m) (λ i h. octets-pack_entry_at w l m i)

  pub entry-pack_map : (i : ℕ) → i < n → entry_bytes w l (pack_map w l n m) i ≡ pack_entry_at w l m i
  unfolding pack_map entry_bytes
  entry-pack_map i h = part-chunks (history_size w l) (pack_entry_at w l m) (length-pack_entry_at w l m) n i h

-- ---- what bytes hold

module _ (w l n : ℕ) (b : List ℕ) where
  pub sized-unpack : Sized n (unpack_map w l n b)
  unfolding unpack_map
  sized-unpack = record { helds = length-tabulate (unpack_held_at w l b) n; histories = length-tabulate (unpack_history_at w l b) n }

  module _ (i : ℕ) (below : i < n) where
    pub held-unpack : held_at (unpack_map w l n b) i ≡ present_in (entry_bytes w l b i)
    unfolding unpack_map unpack_held_at
    held-unpack = get_d_tabulate (unpack_held_at w l b) n i false below

    pub history-unpack : history_at (unpack_map w l n b) i ≡ unpack_history w l (entry_bytes w l b i)
    unfolding unpack_map unpack_history_at
    history-unpack = get_d_tabulate (unpack_history_at w l b) n i outside below

  pub length-entry : length b ≡ map_size w l n → (i : ℕ) → i < n → length (entry_bytes w l b i) ≡ history_size w l
  unfolding entry_bytes
  length-entry whole i below = length_part (history_size w l * i) (history_size w l) b (omega (arith, step (history_size w l) i n below))

pub octets-entry : (w l : ℕ) (b : List ℕ) → Octets b → (i : ℕ) → Octets (entry_bytes w l b i)
unfolding entry_bytes
octets-entry w l b o i = octets-part (history_size w l * i) (history_size w l) b o

pub map_ok-sized : {w l n : ℕ} {m : DependenceMap} → MapOk w l n m → Sized n m
map_ok-sized k = record { helds = k.helds; histories = k.histories }

pub unpack-pack_map : {w l n : ℕ} {m : DependenceMap} → MapOk w l n m → unpack_map w l n (pack_map w l n m) ≡ m
unfolding pack_entry_at
unpack-pack_map {w} {l} {n} {m} k = same_map (sized-unpack w l n (pack_map w l n m)) (map_ok-sized k)
    (λ i h. held-unpack w l n (pack_map w l n m) i h ∙ ap present_in (entry-pack_map w l n m i h) ∙ present-pack_entry (k.each i h))
    (λ i h. history-unpack w l n (pack_map w l n m) i h ∙ ap (unpack_history w l) (entry-pack_map w l n m i h) ∙ unpack-pack_entry (k.each i h))

-- ---- well-formed bytes

module _ (w l c : ℕ) where
  -- a mark that is well-formed as one of an unopened take is well-formed
  formed-entry : (known : Bool) (b : List ℕ) → formed_entry w c known b ≡ true → formed_history w c b ≡ true
  unfolding formed_entry
  formed-entry true b e = e
  formed-entry false b e = subst (λ (x : List ℕ). formed_history w c x ≡ true) (sym (zeros-is b e)) (formed-zeros w c (length b))

  module _ (b : List ℕ) (octets : Octets b) (formed : formed_history w c b ≡ true) where
    pack-unpack_entry : length b ≡ history_size w l → pack_entry w l (present_in b) (unpack_history w l b) ≡ b
    unfolding pack_entry
    pack-unpack_entry whole = go (present_in b) refl
      where
        go : (p : Bool) → present_in b ≡ p → pack_entry w l p (unpack_history w l b) ≡ b
        go true e = pack-unpack_history w l c b whole octets e formed
        go false e = sym (absent-is-zero w c b e formed ∙ ap zeros whole)

    entry_ok-unpack : c ≤ l → EntryOk w l (present_in b) (unpack_history w l b)
    entry_ok-unpack fits = go (present_in b) refl
      where
        go : (p : Bool) → present_in b ≡ p → EntryOk w l p (unpack_history w l b)
        go true e = present (roomy-unpack w l c b fits formed) (packable-unpack w l b octets)
        go false e = subst (EntryOk w l false) (sym (unpack-absent w l c b e formed)) absent

module _ (w l n c opened : ℕ) (b : List ℕ) (formed : formed_map w l n c opened b ≡ true) where
  formed-at : (i : ℕ) → i < n → formed_entry w c (ltb i opened) (entry_bytes w l b i) ≡ true
  unfolding formed_map formed_entry_at
  formed-at i h = every-at (formed_entry_at w l c opened b) n i formed h

  entry-formed : (i : ℕ) → i < n → formed_history w c (entry_bytes w l b i) ≡ true
  entry-formed i h = formed-entry w l c (ltb i opened) (entry_bytes w l b i) (formed-at i h)

  -- there is no mark of a take that is not opened
  pub known-unpack : (i : ℕ) → opened ≤ i → held_at (unpack_map w l n b) i ≡ false
  unfolding formed_entry
  known-unpack i h = ⊎_elim below past (sides i n)
    where
      below : i < n → held_at (unpack_map w l n b) i ≡ false
      below p =
          let z : all_zero (entry_bytes w l b i) ≡ true = subst (λ (t : Bool). formed_entry w c t (entry_bytes w l b i) ≡ true) (le-ltb i opened h) (formed-at i p) in
          held-unpack w l n b i p ∙ ap present_in (zeros-is (entry_bytes w l b i) z) ∙ absent-zeros (length (entry_bytes w l b i))

      past : n ≤ i → held_at (unpack_map w l n b) i ≡ false
      past p = get_or-eq_default (unpack_map w l n b).held false {n = i} (omega (arith, (sized-unpack w l n b).helds))

module _ (w l n c opened : ℕ) (b : List ℕ) (whole : length b ≡ map_size w l n) (octets : Octets b) (formed : formed_map w l n c opened b ≡ true) where
  pub pack-unpack_map : pack_map w l n (unpack_map w l n b) ≡ b
  unfolding pack_map pack_entry_at entry_bytes
  pack-unpack_map =
      chunks-same n (pack_entry_at w l (unpack_map w l n b)) (λ i. part (history_size w l * i) (history_size w l) b) each
      ∙ chunks-parts (history_size w l) n b whole
    where
      each : (i : ℕ) → i < n → pack_entry_at w l (unpack_map w l n b) i ≡ entry_bytes w l b i
      each i h = rw (held-unpack w l n b i h, history-unpack w l n b i h)
          (pack-unpack_entry w l c (entry_bytes w l b i) (octets-entry w l b octets i) (entry-formed w l n c opened b formed i h) (length-entry w l n b whole i h))

  pub map_ok-unpack : c ≤ l → MapOk w l n (unpack_map w l n b)
  map_ok-unpack fits = record { helds = (sized-unpack w l n b).helds; histories = (sized-unpack w l n b).histories; each = each }
    where
      each : (i : ℕ) → i < n → EntryOk w l (held_at (unpack_map w l n b) i) (history_at (unpack_map w l n b) i)
      each i h = rw (held-unpack w l n b i h, history-unpack w l n b i h)
          (entry_ok-unpack w l c (entry_bytes w l b i) (octets-entry w l b octets i) (entry-formed w l n c opened b formed i h) fits)

formed-pack_entry : {w l c : ℕ} {p : Bool} {h : History} → EntryOk w l p h → h.count ≤ c → formed_history w c (pack_entry w l p h) ≡ true
unfolding pack_entry
formed-pack_entry (present r k) b = formed-pack_history r k b
formed-pack_entry {w} {l} {c} absent b = formed-zeros w c (history_size w l)

pub formed-pack_map : {w l n : ℕ} {m : DependenceMap} (c opened : ℕ) → MapOk w l n m → Bounded c m → ((i : ℕ) → opened ≤ i → held_at m i ≡ false)
    → formed_map w l n c opened (pack_map w l n m) ≡ true
unfolding formed_map formed_entry_at formed_entry pack_entry_at pack_entry Bounded
formed-pack_map {w} {l} {n} {m} c opened k b f = every-all (formed_entry_at w l c opened (pack_map w l n m)) n each
  where
    entry : (i : ℕ) → i < n → (t : Bool) → ltb i opened ≡ t → formed_entry w c t (pack_entry_at w l m i) ≡ true
    entry i h true e = formed-pack_entry (k.each i h) (b i)
    entry i h false e =
        subst (λ (p : Bool). all_zero (pack_entry w l p (history_at m i)) ≡ true) (sym (f i (ltb-false i opened e))) (all_zero-zeros (history_size w l))

    each : (i : ℕ) → i < n → formed_entry_at w l c opened (pack_map w l n m) i ≡ true
    each i h = subst (λ (x : List ℕ). formed_entry w c (ltb i opened) x ≡ true) (sym (entry-pack_map w l n m i h)) (entry i h (ltb i opened) refl)

-- ---- what can be packed

pub map_ok-empty : (w l n : ℕ) → MapOk w l n (empty_map l n)
map_ok-empty w l n = record {
  helds = (sized-empty l n).helds;
  histories = (sized-empty l n).histories;
  each = λ i h. rw (held-empty l n i, history-empty l n i h) absent;
}

pub map_ok-with_entry : {w l n : ℕ} {m : DependenceMap} → MapOk w l n m → (i : ℕ) {h : History} → i < n → EntryOk w l true h → MapOk w l n (with_entry m i h)
map_ok-with_entry {w} {l} {n} {m} k i {h} below o =
    let s = sized-with_entry (map_ok-sized k) i h in
    record { helds = s.helds; histories = s.histories; each = each }
  where
    each : (j : ℕ) → j < n → EntryOk w l (held_at (with_entry m i h) j) (history_at (with_entry m i h) j)
    each j p = elim (ℕ_discrete j i) [
      | yes e ↦ rw (e, held-with_entry (map_ok-sized k) i h below, history-with_entry (map_ok-sized k) i h below) o
      | no e ↦ rw (held-with_entry-other m i h j e, history-with_entry-other m i h j e) (k.each j p)
    ]

pub map_ok-singleton : (w l n i : ℕ) {h : History} → i < n → EntryOk w l true h → MapOk w l n (singleton l n i h)
unfolding singleton
map_ok-singleton w l n i below o = map_ok-with_entry (map_ok-empty w l n) i below o

joined-ok : {w l : ℕ} {p q r : Bool} {x y m : History} → EntryOk w l p x → EntryOk w l q y → Joined p x q y r m → EntryOk w l r m
joined-ok {w} {l} {x = x} {y = y} a b (both e f v) = ⊎_elim
    (λ g. subst (EntryOk w l true) (sym g) (subst (λ (t : Bool). EntryOk w l t x) e a))
    (λ g. subst (EntryOk w l true) (sym g) (subst (λ (t : Bool). EntryOk w l t y) f b))
    (newer-which v)
joined-ok {w} {l} {x = x} a b (left e f) = subst (λ (t : Bool). EntryOk w l t x) e a
joined-ok {w} {l} {y = y} a b (right e f) = subst (λ (t : Bool). EntryOk w l t y) f b
joined-ok {w} {l} {x = x} a b (neither e f) = subst (λ (t : Bool). EntryOk w l t x) e a

pub map_ok-join : {w l n : ℕ} {a b : DependenceMap} → MapOk w l n a → MapOk w l n b → MapOk w l n (join_of n a b)
map_ok-join {n = n} {a = a} {b = b} j k = record {
  helds = (sized-join n a b).helds;
  histories = (sized-join n a b).histories;
  each = λ i h. joined-ok (j.each i h) (k.each i h) (join-view n a b i h);
}

-- ---- counts within their lists

entry-bounded : {w l : ℕ} {p : Bool} {h : History} → EntryOk w l p h → h.count ≤ l
entry-bounded (present r k) = r.within
entry-bounded absent = omega arith

pub bounded_at : (l : ℕ) (m : DependenceMap) → Bounded l m → (i : ℕ) → (history_at m i).count ≤ l
unfolding Bounded
bounded_at l m b i = b i

-- past the end the count is 0
pub bounded-within : (l n : ℕ) (m : DependenceMap) → length m.histories ≡ n → ((i : ℕ) → i < n → (history_at m i).count ≤ l) → Bounded l m
unfolding Bounded
bounded-within l n m s f i = ⊎_elim (f i) past (sides i n)
  where
    past : n ≤ i → (history_at m i).count ≤ l
    past p =
        let e : history_at m i ≡ outside = get_or-eq_default m.histories outside {n = i} (omega (arith, s)) in
        omega (arith, ap (λ (h : History). h.count) e)

pub map_ok-bounded : {w l n : ℕ} {m : DependenceMap} → MapOk w l n m → Bounded l m
map_ok-bounded {l = l} {n = n} {m = m} k = bounded-within l n m k.histories (λ i h. entry-bounded (k.each i h))

pub bounded-unpack : (w l n : ℕ) (b : List ℕ) → count_bound ≤ l + 1 → Bounded l (unpack_map w l n b)
bounded-unpack w l n b h = bounded-within l n (unpack_map w l n b) (sized-unpack w l n b).histories
    (λ i p. omega (arith, ap (λ (x : History). x.count) (history-unpack w l n b i p), unpack-count w l (entry_bytes w l b i)))

-- the counts are what the form allows
pub bounded-formed : (w l n c opened : ℕ) (b : List ℕ) → formed_map w l n c opened b ≡ true → Bounded c (unpack_map w l n b)
bounded-formed w l n c opened b formed = bounded-within c n (unpack_map w l n b) (sized-unpack w l n b).histories
    (λ i h. omega (arith, ap (λ (x : History). x.count) (history-unpack w l n b i h), count-unpack w l c (entry_bytes w l b i) (entry-formed w l n c opened b formed i h)))

pub bounded-empty : (c l n : ℕ) → Bounded c (empty_map l n)
bounded-empty c l n = bounded-within c n (empty_map l n) (sized-empty l n).histories (λ i h. omega (arith, ap (λ (x : History). x.count) (history-empty l n i h)))

pub bounded-with_entry : (l : ℕ) (m : DependenceMap) (i : ℕ) (h : History) → h.count ≤ l → Bounded l m → Bounded l (with_entry m i h)
unfolding Bounded with_entry
bounded-with_entry l m i h c b j = elim (ℕ_discrete j i) [
  | yes e ↦ rw e (⊎_elim
      (λ p. subst small (sym (get_or-set_same m.histories i h outside p)) c)
      (λ p. subst (λ (x : List History). small (get_or x i outside)) (sym (set_out m.histories i h p)) (b i))
      (sides i (length m.histories)))
  | no e ↦ subst small (sym (history-with_entry-other m i h j e)) (b j)
]
  where
    small : History → Type 0
    small x = x.count ≤ l

pub bounded-singleton : (c l n i : ℕ) (h : History) → h.count ≤ c → Bounded c (singleton l n i h)
unfolding singleton
bounded-singleton c l n i h k = bounded-with_entry c (empty_map l n) i h k (bounded-empty c l n)

pub bounded-join : (l n : ℕ) (a b : DependenceMap) → Bounded l a → Bounded l b → Bounded l (join_of n a b)
bounded-join l n a b p q = bounded-within l n (join_of n a b) (sized-join n a b).histories (λ i h. go (bounded_at l a p i) (bounded_at l b q i) (join-view n a b i h))
  where
    go : {p q r : Bool} {x y m : History} → x.count ≤ l → y.count ≤ l → Joined p x q y r m → m.count ≤ l
    go c d (both e f v) = ⊎_elim
        (λ g. subst (λ (h : History). h.count ≤ l) (sym g) c)
        (λ g. subst (λ (h : History). h.count ≤ l) (sym g) d)
        (newer-which v)
    go c d (left e f) = c
    go c d (right e f) = d
    go c d (neither e f) = c

-- ---- a map with no entry is all zero

pub pack-is_empty : (w l n : ℕ) (m : DependenceMap) → is_empty n m ≡ true → pack_map w l n m ≡ zeros (map_size w l n)
unfolding pack_map pack_entry_at pack_entry
pack-is_empty w l n m e =
    chunks-same n (pack_entry_at w l m) (λ i. zeros (history_size w l))
    (λ i h. ap (λ (p : Bool). pack_entry w l p (history_at m i)) ((is_empty-test n m).0 e i h))
    ∙ chunks-zeros (history_size w l) n

pub pack-empty_map : (w l n : ℕ) → pack_map w l n (empty_map l n) ≡ zeros (map_size w l n)
pack-empty_map w l n = pack-is_empty w l n (empty_map l n) (is_empty_empty l n)

pub unpack-zeros : (w l n : ℕ) → unpack_map w l n (zeros (map_size w l n)) ≡ empty_map l n
unpack-zeros w l n = ap (unpack_map w l n) (sym (pack-empty_map w l n)) ∙ unpack-pack_map (map_ok-empty w l n)

pub formed-zero_map : (w l n c opened : ℕ) → formed_map w l n c opened (zeros (map_size w l n)) ≡ true
formed-zero_map w l n c opened =
    subst (λ (b : List ℕ). formed_map w l n c opened b ≡ true) (pack-empty_map w l n) (formed-pack_map c opened (map_ok-empty w l n) (bounded-empty c l n) (λ i h. held-empty l n i))
