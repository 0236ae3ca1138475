-- Laws of the packed form of a history, over the width w of a life number and the length l of the list.
use Prim.Native.Nat.{ℕ, zero, suc, ◌+◌, ◌-◌, ◌*◌, ◌/◌, ◌%◌, ◌≤◌, ◌<◌}
use mathlib.Core.Bool.{Bool, true, false}
use mathlib.Core.Path.{◌≡◌, refl, ap, sym, ◌∙◌, subst}
use mathlib.Core.List.{List, [], ◌∷◌, ◌++◌, append_assoc}
use mathlib.Core.Logic.{⊎_elim}
use native.Mathlib.Nat.{zero-add, mul-le-mul_left}
use native.Mathlib.Omega.{arith}
use lib.Dec.{eqb, leb}
use lib.ListN.{length, drop, get_or, set, length-append, get_or-eq_default}
use lib.Seq.{take_at, drop_at, drop-append-add, get_or-drop}
use borrow.Author.Tests.{le-leb, lt-leb, leb-true, leb-false, eqb-true}
use Rattle.octets.specs.Bytes.{◌and◌, part, chunks, tabulate, zeros, all_zero, Octets}
use Rattle.octets.specs.Numbers.{be, of_be, bound}
use Rattle.octets.proofs.Put.{part-def, part-part, part-add, part-whole, length_part, get_d_part, octet, octets-append, octets-part}
use Rattle.octets.proofs.Numbers.{bound-pos, length-be, octets-be, be-zero, be-one, be-byte, of_be-same, of_be-zeros, of_be-bound, of_be-be, be-of_be}
use Rattle.octets.proofs.Chunks.{sides, step, length-tabulate, get_d_tabulate, tabulate-same, tabulate-get_or, tabulate-all, length-chunks, part-chunks, chunks-same, chunks-add, chunks-parts, octets-chunks}
use Rattle.octets.proofs.Zero.{get_or-zeros, chunks-zeros, tabulate-zeros, all_zero-zeros, zeros-is, both}
use Rattle.octets.proofs.Runs.{further}
use Rattle.marks.specs.declared.History.{History}
use Rattle.marks.specs.History.{initial_history, stabilized, rolled_back, checkpointed, Roomy}
use Rattle.marks.specs.Packed.{count_bound, history_size, bit, pack_number_at, pack_history, unpack_history, load_number_at, present_in, formed_history, Packable}
use Rattle.marks.proofs.Histories.{roomy-initial}

-- ---- the first byte

pub head-fits : (t : Bool) (n : ℕ) → n < count_bound → 128 + 64 * bit t + n < 256
head-fits true n h = omega arith
head-fits false n h = omega arith

head-stable : (t : Bool) (n : ℕ) → n < count_bound → leb 64 ((128 + 64 * bit t + n) % 128) ≡ t
head-stable true n h = le-leb 64 ((128 + 64 * 1 + n) % 128) (omega arith)
head-stable false n h = lt-leb 64 ((128 + 64 * 0 + n) % 128) (omega arith)

head-count : (t : Bool) (n : ℕ) → n < count_bound → (128 + 64 * bit t + n) % 16 ≡ n
head-count true n h = omega arith
head-count false n h = omega arith

head-bits : (t : Bool) (n : ℕ) → n < count_bound → (128 + 64 * bit t + n) / 16 % 4 ≡ 0
head-bits true n h = omega arith
head-bits false n h = omega arith

head-back : (x : ℕ) → 128 ≤ x → x < 256 → x / 16 % 4 ≡ 0 → 128 + 64 * bit (leb 64 (x % 128)) + x % 16 ≡ x
head-back x p q z = go (leb 64 (x % 128)) refl
  where
    go : (t : Bool) → leb 64 (x % 128) ≡ t → 128 + 64 * bit t + x % 16 ≡ x
    go true e = omega (arith, leb-true 64 (x % 128) e)
    go false e = omega (arith, leb-false 64 (x % 128) e)

-- ---- the pieces of a packed history

abbrev pub head_of : History → ℕ
head_of h = 128 + 64 * bit h.stable + h.count

abbrev pub front : ℕ → History → List ℕ
front w h = be 1 (head_of h) ++ be w h.incarnation

abbrev pub numbers : ℕ → ℕ → History → List ℕ
numbers w l h = chunks l (pack_number_at w h.checkpoints)

pub length-pack_number_at : (w : ℕ) (ns : List ℕ) (i : ℕ) → length (pack_number_at w ns i) ≡ w
unfolding pack_number_at
length-pack_number_at w ns i = length-be w (get_or ns i 0)

part-mid : (at n : ℕ) (p q r : List ℕ) → length p ≡ at → length q ≡ n → part at n (p ++ q ++ r) ≡ q
part-mid at n p q r e f = rw (part-def, append_assoc, drop_at p (q ++ r) at e, take_at q r n f)

drop-rest : (k n : ℕ) (p q : List ℕ) → length p ≡ k → drop (k + n) (p ++ q) ≡ drop n q
drop-rest k n p q e = ap (λ (j : ℕ). drop (j + n) (p ++ q)) (sym e) ∙ drop-append-add p q n

module _ (w l : ℕ) (h : History) where
  pub length_front : length (front w h) ≡ 1 + w
  length_front = length-append (be 1 (head_of h)) (be w h.incarnation) ∙ rw (length-be 1 (head_of h), length-be w h.incarnation)

  pub length-numbers : (n : ℕ) → length (chunks n (pack_number_at w h.checkpoints)) ≡ w * n
  length-numbers n = length-chunks w (pack_number_at w h.checkpoints) (length-pack_number_at w h.checkpoints) n

  pub length-pack_history : length (pack_history w l h) ≡ history_size w l
  unfolding pack_history
  length-pack_history = length-append (front w h) (numbers w l h) ∙ rw (length_front, length-numbers l)

  pub octets-pack_history : Octets (pack_history w l h)
  unfolding pack_history pack_number_at
  octets-pack_history = octets-append (front w h) (numbers w l h)
      (octets-append (be 1 (head_of h)) (be w h.incarnation) (octets-be 1 (head_of h)) (octets-be w h.incarnation))
      (octets-chunks l (pack_number_at w h.checkpoints) (λ i p. octets-be w (get_or h.checkpoints i 0)))

  first_byte : h.count < count_bound → get_or (pack_history w l h) 0 0 ≡ head_of h
  unfolding pack_history
  first_byte p = rw (be-one (head_of h) (head-fits h.stable h.count p))

  pub number-part : part 1 w (pack_history w l h) ≡ be w h.incarnation
  unfolding pack_history
  number-part = part-mid 1 w (be 1 (head_of h)) (be w h.incarnation) (numbers w l h) (length-be 1 (head_of h)) (length-be w h.incarnation)

  pub place-part : (i : ℕ) → i < l → part (1 + w + w * i) w (pack_history w l h) ≡ be w (get_or h.checkpoints i 0)
  unfolding pack_history pack_number_at
  place-part i p = further (1 + w) (w * i) w (front w h) (numbers w l h) length_front
      ∙ part-chunks w (pack_number_at w h.checkpoints) (length-pack_number_at w h.checkpoints) l i p

  places-rest : (c : ℕ) → c ≤ l → drop (1 + w + w * c) (pack_history w l h) ≡ chunks (l - c) (λ i. pack_number_at w h.checkpoints (c + i))
  unfolding pack_history
  places-rest c p =
      let f : ℕ → List ℕ = pack_number_at w h.checkpoints in
      let e : numbers w l h ≡ chunks c f ++ chunks (l - c) (λ i. f (c + i)) = ap (λ (n : ℕ). chunks n f) (omega arith) ∙ chunks-add c (l - c) f in
      drop-rest (1 + w) (w * c) (front w h) (numbers w l h) length_front
      ∙ rw e (drop_at (chunks c f) (chunks (l - c) (λ i. f (c + i))) (w * c) (length-numbers c))

-- ---- there and back

pub unpack-pack_history : {w l : ℕ} {h : History} → Roomy l h → Packable w l h → unpack_history w l (pack_history w l h) ≡ h
unfolding unpack_history load_number_at
unpack-pack_history {w} {l} {h} r p =
    let each : tabulate l (load_number_at w (pack_history w l h) (1 + w)) ≡ h.checkpoints =
    tabulate-same l (load_number_at w (pack_history w l h) (1 + w)) (λ i. get_or h.checkpoints i 0)
    (λ i q. ap (of_be w) (place-part w l h i q) ∙ of_be-be w (get_or h.checkpoints i 0) (p.checkpoints i))
    ∙ tabulate-get_or h.checkpoints 0 l r.places in
    rw (
      first_byte w l h p.count,
      number-part w l h,
      of_be-be w h.incarnation p.incarnation,
      each,
      head-stable h.stable h.count p.count,
      head-count h.stable h.count p.count,
    )

-- what the form test says of a history that is present
module _ (w c : ℕ) (b : List ℕ) (p : present_in b ≡ true) (e : formed_history w c b ≡ true) where
  formed-parts : (eqb (get_or b 0 0 / 16 % 4) 0 ≡ true) × (leb (get_or b 0 0 % 16) c and all_zero (drop (1 + w + w * (get_or b 0 0 % 16)) b) ≡ true)
  unfolding formed_history
  formed-parts =
      both
      (eqb (get_or b 0 0 / 16 % 4) 0)
      (leb (get_or b 0 0 % 16) c and all_zero (drop (1 + w + w * (get_or b 0 0 % 16)) b))
      (rw p at e)

  formed-rest : (leb (get_or b 0 0 % 16) c ≡ true) × (all_zero (drop (1 + w + w * (get_or b 0 0 % 16)) b) ≡ true)
  formed-rest = both (leb (get_or b 0 0 % 16) c) (all_zero (drop (1 + w + w * (get_or b 0 0 % 16)) b)) formed-parts.1

  bits-zero : get_or b 0 0 / 16 % 4 ≡ 0
  bits-zero = eqb-true (get_or b 0 0 / 16 % 4) 0 formed-parts.0

  count-within : get_or b 0 0 % 16 ≤ c
  count-within = leb-true (get_or b 0 0 % 16) c formed-rest.0

  past-count : (i : ℕ) → 1 + w + w * (get_or b 0 0 % 16) ≤ i → get_or b i 0 ≡ 0
  past-count i h =
      let k : ℕ = 1 + w + w * (get_or b 0 0 % 16) in
      let z : drop k b ≡ zeros (length (drop k b)) = zeros-is (drop k b) formed-rest.1 in
      let m : k + (i - k) ≡ i = omega arith in
      ap (λ (j : ℕ). get_or b j 0) (sym m) ∙ sym (get_or-drop k b (i - k) 0) ∙ ap (λ (x : List ℕ). get_or x (i - k) 0) z ∙ get_or-zeros (length (drop k b)) (i - k)

present-to : (b : List ℕ) → present_in b ≡ true → 128 ≤ get_or b 0 0
unfolding present_in
present-to b p = leb-true 128 (get_or b 0 0) p

three : (a n m : ℕ) (b : List ℕ) → length b ≡ a + n + m → part 0 a b ++ part a n b ++ part (a + n) m b ≡ b
three a n m b e =
    let x : part 0 (a + n) b ≡ part 0 a b ++ part a n b = part-add 0 a n b ∙ rw zero-add in
    let y : part 0 (a + n + m) b ≡ part 0 (a + n) b ++ part (a + n) m b = part-add 0 (a + n) m b ∙ rw zero-add in
    rw (← x, ← y, part-whole (a + n + m) b e)

pub pack-unpack_history : (w l c : ℕ) (b : List ℕ) → length b ≡ history_size w l → Octets b → present_in b ≡ true → formed_history w c b ≡ true
    → pack_history w l (unpack_history w l b) ≡ b
unfolding pack_history pack_number_at unpack_history load_number_at
pack-unpack_history w l c b n o p e =
    let ns : List ℕ = tabulate l (load_number_at w b (1 + w)) in
    let byte : be 1 (128 + 64 * bit (leb 64 (get_or b 0 0 % 128)) + get_or b 0 0 % 16) ≡ part 0 1 b =
    ap (be 1) (head-back (get_or b 0 0) (present-to b p) (octet b o 0) (bits-zero w c b p e)) ∙ be-byte 0 b (omega arith) o in
    let number : (at : ℕ) → at + w ≤ length b → be w (of_be w (part at w b)) ≡ part at w b =
    λ at h. be-of_be w (part at w b) (length_part at w b h) (octets-part at w b o) in
    let place : (i : ℕ) → i < l → pack_number_at w ns i ≡ part (w * i) w (part (1 + w) (w * l) b) =
    λ i h. ap (be w) (get_d_tabulate (load_number_at w b (1 + w)) l i 0 h)
    ∙ number (1 + w + w * i) (omega (arith, step w i l h))
    ∙ sym (part-part (w * i) w (1 + w) (w * l) b (step w i l h)) in
    let list : chunks l (pack_number_at w ns) ≡ part (1 + w) (w * l) b =
    chunks-same l (pack_number_at w ns) (λ i. part (w * i) w (part (1 + w) (w * l) b)) place
    ∙ chunks-parts w l (part (1 + w) (w * l) b) (length_part (1 + w) (w * l) b (omega arith)) in
    rw (byte, number 1 (omega arith), list) (three 1 w (w * l) b n)

-- ---- what an unpacked history keeps

-- the four bits of the count
pub unpack-count : (w l : ℕ) (b : List ℕ) → (unpack_history w l b).count < count_bound
unfolding unpack_history
unpack-count w l b = omega arith

pub packable-unpack : (w l : ℕ) (b : List ℕ) → Octets b → Packable w l (unpack_history w l b)
unfolding unpack_history load_number_at
packable-unpack w l b o = record {
  incarnation = of_be-bound w (part 1 w b) (octets-part 1 w b o);
  checkpoints = λ i. tabulate-all (λ (x : ℕ). x < bound w) (load_number_at w b (1 + w)) l i 0 (bound-pos w)
      (λ j. of_be-bound w (part (1 + w + w * j) w b) (octets-part (1 + w + w * j) w b o));
  count = unpack-count w l b;
}

-- a number whose bytes are zero
number-zero : (w at : ℕ) (b : List ℕ) → ((i : ℕ) → i < w → get_or b (at + i) 0 ≡ 0) → of_be w (part at w b) ≡ 0
number-zero w at b h = of_be-same w (part at w b) (zeros w) (λ i p. get_d_part at w b i p ∙ h i p ∙ sym (get_or-zeros w i)) ∙ of_be-zeros w w

pub unpack-zeros : (w l n : ℕ) → unpack_history w l (zeros n) ≡ initial_history l
unfolding unpack_history load_number_at
unpack-zeros w l n =
    let none : (at : ℕ) → of_be w (part at w (zeros n)) ≡ 0 = λ at. number-zero w at (zeros n) (λ i p. get_or-zeros n (at + i)) in
    let list : tabulate l (load_number_at w (zeros n) (1 + w)) ≡ zeros l =
    tabulate-same l (load_number_at w (zeros n) (1 + w)) (λ i. 0) (λ i p. none (1 + w + w * i)) ∙ tabulate-zeros l in
    rw (get_or-zeros n 0, none 1, list)

pub absent-zeros : (n : ℕ) → present_in (zeros n) ≡ false
unfolding present_in
absent-zeros n = rw (get_or-zeros n 0)

pub formed-zeros : (w c n : ℕ) → formed_history w c (zeros n) ≡ true
unfolding formed_history
formed-zeros w c n = rw (absent-zeros n) (all_zero-zeros n)

pub absent-is-zero : (w c : ℕ) (b : List ℕ) → present_in b ≡ false → formed_history w c b ≡ true → b ≡ zeros (length b)
unfolding formed_history
absent-is-zero w c b p e = zeros-is b (rw p at e)

-- an absent history unpacks as the initial one
pub unpack-absent : (w l c : ℕ) (b : List ℕ) → present_in b ≡ false → formed_history w c b ≡ true → unpack_history w l b ≡ initial_history l
unpack-absent w l c b p e = ap (unpack_history w l) (absent-is-zero w c b p e) ∙ unpack-zeros w l (length b)

pub length-unpack : (w l : ℕ) (b : List ℕ) → length (unpack_history w l b).checkpoints ≡ l
unfolding unpack_history
length-unpack w l b = length-tabulate (load_number_at w b (1 + w)) l

-- the count is what the form allows
pub count-unpack : (w l c : ℕ) (b : List ℕ) → formed_history w c b ≡ true → (unpack_history w l b).count ≤ c
unfolding unpack_history
count-unpack w l c b e = go (present_in b) refl
  where
    go : (t : Bool) → present_in b ≡ t → get_or b 0 0 % 16 ≤ c
    go true p = count-within w c b p e
    go false p =
        let z : get_or b 0 0 ≡ 0 = ap (λ (x : List ℕ). get_or x 0 0) (absent-is-zero w c b p e) ∙ get_or-zeros (length b) 0 in
        omega arith

pub roomy-unpack : (w l c : ℕ) (b : List ℕ) → c ≤ l → formed_history w c b ≡ true → Roomy l (unpack_history w l b)
unfolding unpack_history load_number_at
roomy-unpack w l c b fits e = go (present_in b) refl
  where
    here : present_in b ≡ true → Roomy l (unpack_history w l b)
    here p = record {
      places = length-tabulate (load_number_at w b (1 + w)) l;
      within = omega (arith, count-within w c b p e);
      unused = λ i q. ⊎_elim
          (λ (k : i < l). get_d_tabulate (load_number_at w b (1 + w)) l i 0 k
          ∙ number-zero w (1 + w + w * i) b (λ j r. past-count w c b p e (1 + w + w * i + j) (omega (arith, mul-le-mul_left w q))))
          (λ (k : l ≤ i). get_or-eq_default (tabulate l (load_number_at w b (1 + w))) 0 (rw length-tabulate k))
          (sides i l);
    }

    go : (t : Bool) → present_in b ≡ t → Roomy l (unpack_history w l b)
    go true p = here p
    go false p = subst (Roomy l) (sym (unpack-absent w l c b p e)) (roomy-initial l)

-- ---- a packed history is present and well-formed

pub present-pack_history : {w l : ℕ} {h : History} → Packable w l h → present_in (pack_history w l h) ≡ true
unfolding present_in
present-pack_history {w} {l} {h} p = rw (first_byte w l h p.count) (le-leb 128 (head_of h) (omega arith))

pub formed-pack_history : {w l c : ℕ} {h : History} → Roomy l h → Packable w l h → h.count ≤ c → formed_history w c (pack_history w l h) ≡ true
unfolding formed_history pack_number_at
formed-pack_history {w} {l} {c} {h} r p k =
    let free : (i : ℕ) → pack_number_at w h.checkpoints (h.count + i) ≡ zeros w =
    λ i. ap (be w) (r.unused (h.count + i) (omega arith)) ∙ be-zero w in
    let none : drop (1 + w + w * h.count) (pack_history w l h) ≡ zeros (w * (l - h.count)) =
    places-rest w l h h.count r.within
    ∙ chunks-same (l - h.count) (λ i. pack_number_at w h.checkpoints (h.count + i)) (λ i. zeros w) (λ i q. free i)
    ∙ chunks-zeros w (l - h.count) in
    rw (
      present-pack_history p,
      first_byte w l h p.count,
      head-bits h.stable h.count p.count,
      head-count h.stable h.count p.count,
      le-leb h.count c k,
      none,
    ) (all_zero-zeros (w * (l - h.count)))

-- ---- what is done to a history keeps it packable

pub packable-initial : (w l : ℕ) → Packable w l (initial_history l)
packable-initial w l = record { incarnation = bound-pos w; checkpoints = λ i. rw get_or-zeros (bound-pos w); count = omega arith }

pub packable-stabilized : {w l : ℕ} {h : History} → Packable w l h → Packable w l (stabilized h)
packable-stabilized p = record { incarnation = p.incarnation; checkpoints = p.checkpoints; count = p.count }

pub packable-rolled_back : {w l : ℕ} {h : History} → Packable w l h → h.incarnation + 1 < bound w → Packable w l (rolled_back h)
packable-rolled_back p k = record { incarnation = k; checkpoints = p.checkpoints; count = p.count }

set_below : (xs : List ℕ) (c v n i : ℕ) → v < n → ((j : ℕ) → get_or xs j 0 < n) → get_or (set xs c v) i 0 < n
set_below [] c v n i h k = k i
set_below (x ∷ xs) zero v n zero h k = h
set_below (x ∷ xs) zero v n (suc i) h k = k (suc i)
set_below (x ∷ xs) (suc c) v n zero h k = k 0
set_below (x ∷ xs) (suc c) v n (suc i) h k = set_below xs c v n i h (λ j. k (suc j))

pub packable-checkpointed : {w l : ℕ} {h : History} → Packable w l h → h.count + 1 < count_bound → Packable w l (checkpointed h)
packable-checkpointed {w} {l} {h} p k = record {
  incarnation = bound-pos w;
  checkpoints = λ i. set_below h.checkpoints h.count h.incarnation (bound w) i p.incarnation p.checkpoints;
  count = k;
}

-- the count of a history that was loaded is within its list
pub loaded-count : (w l : ℕ) (b : List ℕ) (h : History) → count_bound ≤ l + 1 → h ≡ unpack_history w l b → h.count ≤ l
loaded-count w l b h long e = omega (arith, ap (λ (x : History). x.count) e, unpack-count w l b)
