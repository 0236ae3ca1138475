-- Packed histories from a place of a buffer on: what the code that stores, loads and tests them does, over the width w of a
-- life number and the length l of the list.
use Prim.Native.Nat.{ℕ, ◌+◌, ◌-◌, ◌*◌, ◌/◌, ◌%◌, ◌≤◌, ◌<◌}
use mathlib.Core.Bool.{Bool, true, false, not}
use mathlib.Core.Path.{◌≡◌, ap, sym, ◌∙◌, subst}
use mathlib.Core.List.{List, [], ◌∷◌}
use mathlib.Core.Logic.{⊎_elim}
use native.Mathlib.Nat.{add-zero, mul-add}
use native.Mathlib.Omega.{arith}
use lib.Dec.{eqb, leb, ltb}
use lib.ListN.{length, take, drop, get_or, set, length-drop}
use lib.Seq.{take_all}
use borrow.Author.Tests.{le-leb, lt-leb, eq-eqb, ne_eqb}
use Rattle.octets.specs.Bytes.{◌and◌, ◌or◌, put, part, chunks, tabulate, all_zero}
use Rattle.octets.specs.Numbers.{be, of_be}
use Rattle.octets.proofs.Put.{part-part, get_d_part, part-def, part-add, part-one, length_part}
use Rattle.octets.proofs.Chunks.{step, sides, tabulate-same, get_d_tabulate, fill_more, fill-all, put-more}
use Rattle.octets.proofs.Tests.{and-true}
use Rattle.octets.proofs.Zero.{all_zero-append}
use Rattle.marks.specs.Internal.News.{may_show}
use Rattle.marks.proofs.Packed.{length-pack_number_at}
use Rattle.marks.specs.Packed.{history_size, rest_size, pack_number_at, unpack_history, load_number_at, history_in, present_in, formed_history}

-- ---- the places of a list

pub number_put : (at w i : ℕ) (ns l l' l'' : List ℕ) → l' ≡ put at (chunks i (pack_number_at w ns)) l → l'' ≡ put (at + w * i) (be w (get_or ns i 0)) l'
    → at + w * i + w ≤ length l → l'' ≡ put at (chunks (i + 1) (pack_number_at w ns)) l
unfolding pack_number_at
number_put at w i ns l l' l'' e f h = put-more at w (pack_number_at w ns) (length-pack_number_at w ns) i l l' l'' e f h

pub numbers-put : (at w i n : ℕ) (ns l l' : List ℕ) → l' ≡ put at (chunks i (pack_number_at w ns)) l → i ≡ n → l' ≡ put at (chunks n (pack_number_at w ns)) l
numbers-put at w i n ns l l' e h = e ∙ ap (λ (k : ℕ). put at (chunks k (pack_number_at w ns)) l) h

pub number-filled : (w at i n : ℕ) (s l : List ℕ) → take i l ≡ tabulate i (load_number_at w s at) → n ≡ of_be w (part (at + w * i) w s)
    → i < length l → take (i + 1) (set l i n) ≡ tabulate (i + 1) (load_number_at w s at)
unfolding load_number_at
number-filled w at i n s l e f h = fill_more (load_number_at w s at) l i n e h f

pub numbers-filled : (w at i n : ℕ) (s l : List ℕ) → take i l ≡ tabulate i (load_number_at w s at) → i ≡ n → length l ≡ n → l ≡ tabulate n (load_number_at w s at)
numbers-filled w at i n s l e h k = fill-all (load_number_at w s at) l n (subst (λ (j : ℕ). take j l ≡ tabulate j (load_number_at w s at)) h e) k

-- ---- a history

module _ (w l at : ℕ) (s : List ℕ) (h : at + history_size w l ≤ length s) where
  first : get_or (part at (history_size w l) s) 0 0 ≡ get_or s at 0
  first = get_d_part at (history_size w l) s 0 (omega arith) ∙ rw add-zero

  pub load-history : (n : ℕ) (ns : List ℕ) → n ≡ of_be w (part (at + 1) w s) → ns ≡ tabulate l (load_number_at w s (at + 1 + w))
      → record { stable = leb 64 (get_or s at 0 % 128); incarnation = n; count = get_or s at 0 % 16; checkpoints = ns } ≡ unpack_history w l (part at (history_size w l) s)
  unfolding unpack_history load_number_at
  load-history n ns e f =
      let a : part 1 w (part at (history_size w l) s) ≡ part (at + 1) w s = part-part 1 w at (history_size w l) s (omega arith) in
      let b : tabulate l (load_number_at w (part at (history_size w l) s) (1 + w)) ≡ tabulate l (load_number_at w s (at + 1 + w)) =
      tabulate-same l (load_number_at w (part at (history_size w l) s) (1 + w)) (load_number_at w s (at + 1 + w)) λ i p.
      ap (of_be w) (part-part (1 + w + w * i) w at (history_size w l) s (omega (arith, step w i l p)) ∙ ap (λ (k : ℕ). part k w s) (omega arith)) in
      rw (first, a, b, e, f)

  pub count-here : get_or s at 0 % 16 ≡ (history_in w l s at).count
  unfolding unpack_history
  count-here = rw first

  pub number-here : of_be w (part (at + 1) w s) ≡ (history_in w l s at).incarnation
  unfolding unpack_history
  number-here = ap (of_be w) (sym (part-part 1 w at (history_size w l) s (omega arith)))

  pub place_here : (i : ℕ) → i < l → of_be w (part (at + 1 + w + w * i) w s) ≡ get_or (history_in w l s at).checkpoints i 0
  unfolding unpack_history load_number_at
  place_here i p =
      let e : part (1 + w + w * i) w (part at (history_size w l) s) ≡ part (at + 1 + w + w * i) w s =
      part-part (1 + w + w * i) w at (history_size w l) s (omega (arith, step w i l p)) ∙ ap (λ (k : ℕ). part k w s) (omega arith) in
      ap (of_be w) (sym e) ∙ sym (get_d_tabulate (load_number_at w (part at (history_size w l) s) (1 + w)) l i 0 p)

  pub present-here : leb 128 (get_or s at 0) ≡ present_in (part at (history_size w l) s)
  unfolding present_in
  present-here = rw first

  pub formed-absent : (c : ℕ) → get_or s at 0 < 128 → all_zero (part at (history_size w l) s) ≡ formed_history w c (part at (history_size w l) s)
  unfolding present_in formed_history
  formed-absent c p = rw (first, lt-leb 128 (get_or s at 0) p)

  -- the first byte, then the others
  headed : all_zero (part at (history_size w l) s) ≡ eqb (get_or s at 0) 0 and all_zero (part (at + 1) (rest_size w l) s)
  unfolding all_zero
  headed =
      let n : history_size w l ≡ 1 + rest_size w l = omega arith in
      rw (n, part-add at 1 (rest_size w l) s, part-one at s (omega arith)) (all_zero-append (get_or s at 0 ∷ []) (part (at + 1) (rest_size w l) s))
      ∙ ap (λ (t : Bool). t and all_zero (part (at + 1) (rest_size w l) s)) (and-true (eqb (get_or s at 0) 0))

  pub formed-first : (c : ℕ) → get_or s at 0 < 128 → (get_or s at 0 ≡ 0 → ⊥) → false ≡ formed_history w c (part at (history_size w l) s)
  formed-first c p n = sym (headed ∙ rw (ne_eqb (get_or s at 0) 0 n)) ∙ formed-absent c p

  pub formed-zero : (c u : ℕ) → u ≡ 0 → get_or s at 0 ≡ 0 → all_zero (part (at + 1 + u) (rest_size w l - u) s) ≡ formed_history w c (part at (history_size w l) s)
  formed-zero c u z e =
      let a : at + 1 + u ≡ at + 1 = omega arith in
      let n : rest_size w l - u ≡ rest_size w l = omega arith in
      rw (a, n) (sym (headed ∙ rw (eq-eqb (get_or s at 0) 0 e))) ∙ formed-absent c (omega arith)

  formed-bits : (c : ℕ) → 128 ≤ get_or s at 0 → (get_or s at 0 / 16 % 4 ≡ 0 → ⊥) → false ≡ formed_history w c (part at (history_size w l) s)
  unfolding present_in formed_history
  formed-bits c p q = rw (first, le-leb 128 (get_or s at 0) p, ne_eqb (get_or s at 0 / 16 % 4) 0 q)

  formed-long : (c : ℕ) → 128 ≤ get_or s at 0 → get_or s at 0 / 16 % 4 ≡ 0 → c < get_or s at 0 % 16 → false ≡ formed_history w c (part at (history_size w l) s)
  unfolding present_in formed_history
  formed-long c p q r = rw (first, le-leb 128 (get_or s at 0) p, eq-eqb (get_or s at 0 / 16 % 4) 0 q, lt-leb (get_or s at 0 % 16) c r)

  -- a zero bit or a count over c, the zero bits standing above the count
  pub formed-over : (c : ℕ) → 128 ≤ get_or s at 0 → c < 16 → c < get_or s at 0 % 64 → false ≡ formed_history w c (part at (history_size w l) s)
  formed-over c p b q = ⊎_elim
      (λ (k : get_or s at 0 / 16 % 4 < 1). formed-long c p (omega arith) (omega arith))
      (λ (k : 1 ≤ get_or s at 0 / 16 % 4). formed-bits c p (λ z. omega arith))
      (sides (get_or s at 0 / 16 % 4) 1)

  -- the places from c on
  unused : (c : ℕ) → c ≤ l → part (at + 1 + w + w * c) (w * (l - c)) s ≡ drop (1 + w + w * c) (part at (history_size w l) s)
  unused c r =
      let all : List ℕ = part at (history_size w l) s in
      let m : w * c + w * (l - c) ≡ w * l = sym (mul-add w c (l - c)) ∙ ap (λ (x : ℕ). w * x) (omega arith) in
      let few : length (drop (1 + w + w * c) all) ≤ w * (l - c) = rw (length-drop, length_part at (history_size w l) s h) (omega (arith, m)) in
      ap (λ (j : ℕ). part j (w * (l - c)) s) (omega arith)
      ∙ sym (part-part (1 + w + w * c) (w * (l - c)) at (history_size w l) s (omega (arith, m)))
      ∙ part-def (1 + w + w * c) (w * (l - c)) all
      ∙ take_all (w * (l - c)) (drop (1 + w + w * c) all) few

  pub formed-list : (c u : ℕ) → u ≡ w + w * (get_or s at 0 % 16) → 128 ≤ get_or s at 0 → get_or s at 0 / 16 % 4 ≡ 0 → get_or s at 0 % 16 ≤ l → get_or s at 0 % 16 ≤ c
      → all_zero (part (at + 1 + u) (rest_size w l - u) s) ≡ formed_history w c (part at (history_size w l) s)
  unfolding present_in formed_history
  formed-list c u z p q r k =
      let a : at + 1 + u ≡ at + 1 + w + w * (get_or s at 0 % 16) = omega (arith, z) in
      let m : w * (get_or s at 0 % 16) + w * (l - get_or s at 0 % 16) ≡ w * l = sym (mul-add w (get_or s at 0 % 16) (l - get_or s at 0 % 16)) ∙ ap (λ (x : ℕ). w * x) (omega arith) in
      let n : rest_size w l - u ≡ w * (l - get_or s at 0 % 16) = omega (arith, z, m) in
      rw (a, n, first, le-leb 128 (get_or s at 0) p, eq-eqb (get_or s at 0 / 16 % 4) 0 q, le-leb (get_or s at 0 % 16) c k, unused (get_or s at 0 % 16) r)

-- ---- the first bytes of two packed histories

unstable-yes : (h : ℕ) → h / 64 ≡ 2 → leb 128 h and not (leb 64 (h % 128)) ≡ true
unstable-yes h e = rw (le-leb 128 h (omega arith), lt-leb 64 (h % 128) (omega arith))

unstable-no : (h : ℕ) → h < 256 → (h / 64 ≡ 2 → ⊥) → leb 128 h and not (leb 64 (h % 128)) ≡ false
unstable-no h o n = ⊎_elim
    (λ (k : h < 128). rw (lt-leb 128 h k))
    (λ (k : 128 ≤ h). rw (le-leb 128 h k, le-leb 64 (h % 128) (omega arith)))
    (sides h 128)

stable-yes : (g : ℕ) → g < 256 → 192 ≤ g → leb 128 g and leb 64 (g % 128) ≡ true
stable-yes g o h = rw (le-leb 128 g (omega arith), le-leb 64 (g % 128) (omega arith))

stable-no : (g : ℕ) → g < 192 → leb 128 g and leb 64 (g % 128) ≡ false
stable-no g h = ⊎_elim
    (λ (k : g < 128). rw (lt-leb 128 g k))
    (λ (k : 128 ≤ g). rw (le-leb 128 g k, lt-leb 64 (g % 128) (omega arith)))
    (sides g 128)

module _ (w l at from : ℕ) (s : List ℕ) (h : at + history_size w l ≤ length s) (k : from + history_size w l ≤ length s) where
  abbrev may : Bool
  may =
      may_show (present_in (part at (history_size w l) s)) (unpack_history w l (part at (history_size w l) s))
      (present_in (part from (history_size w l) s)) (unpack_history w l (part from (history_size w l) s))

  heads : may
      ≡ (leb 128 (get_or s at 0) and not (leb 64 (get_or s at 0 % 128)))
      and ((leb 128 (get_or s from 0) and leb 64 (get_or s from 0 % 128)) or ltb (get_or s at 0 % 16) (get_or s from 0 % 16))
  unfolding may_show present_in unpack_history
  heads = rw (first w l at s h, first w l from s k)

  pub may-not : get_or s at 0 < 256 → (get_or s at 0 / 64 ≡ 2 → ⊥) → false ≡ may
  may-not o n = sym (heads ∙ rw (unstable-no (get_or s at 0) o n))

  pub may-stable : get_or s at 0 / 64 ≡ 2 → get_or s from 0 < 256 → 192 ≤ get_or s from 0 → true ≡ may
  may-stable e o f = sym (heads ∙ rw (unstable-yes (get_or s at 0) e, stable-yes (get_or s from 0) o f))

  pub may-count : get_or s at 0 / 64 ≡ 2 → get_or s from 0 < 192 → ltb (get_or s at 0 % 16) (get_or s from 0 % 16) ≡ may
  may-count e f = sym (heads ∙ rw (unstable-yes (get_or s at 0) e, stable-no (get_or s from 0) f))
