-- The numbers of one history: loaded in one width, put in the other.
use Prim.Native.Nat.{ℕ, ◌+◌, ◌*◌, ◌%◌, ◌≤◌, ◌<◌}
use mathlib.Core.Path.{◌≡◌, refl, ap, sym, ◌∙◌, subst}
use mathlib.Core.List.{List, [], ◌∷◌, ◌++◌}
use native.Mathlib.Omega.{arith}
use lib.ListN.{length, get_or, set}
use Rattle.recast.specs.Internal.Recast.{Widths, widening, narrowing}
use Rattle.octets.specs.Bytes.{put, part, chunks, tabulate}
use Rattle.octets.specs.Numbers.{be, of_be}
use Rattle.octets.proofs.Put.{put-behind, put_one, part-one, part-part, length_part}
use Rattle.octets.proofs.Numbers.{length-be, put-be-one, of_be-first}
use Rattle.octets.proofs.Chunks.{step, chunks-same, get_d_tabulate, length-chunks}
use Rattle.marks.specs.Packed.{pack_number_at, load_number_at, history_size}
use Rattle.marks.specs.Internal.Recast.{renumbered_at, recast_history}
use Rattle.marks.proofs.Recast.{recast-numbers}

-- ---- a history: its first byte, then its numbers

length-renumbered : (v w : ℕ) (b : List ℕ) (i : ℕ) → length (renumbered_at v w b i) ≡ w
unfolding renumbered_at
length-renumbered v w b i = length-be w (load_number_at v b 1 i)

module _ (v w from n to : ℕ) (s l : List ℕ) (p : from + n ≤ length s) (m : 0 < n) where
  first-put : to < length l → set l to (get_or s from 0) ≡ put to (part 0 1 (part from n s)) l
  first-put h =
      let a : part 0 1 (part from n s) ≡ part (from + 0) 1 s = part-part 0 1 from n s (omega arith) in
      let c : part (from + 0) 1 s ≡ part from 1 s = ap (λ (k : ℕ). part k 1 s) (omega arith) in
      sym (put_one to (get_or s from 0) l h) ∙ ap (λ (x : List ℕ). put to x l) (sym (a ∙ c ∙ part-one from s (omega arith)))

  -- i numbers are put behind the first byte
  pub history-put : (i k : ℕ) (l' : List ℕ) → l' ≡ put (to + 1) (chunks i (renumbered_at v w (part from n s))) (set l to (get_or s from 0)) → i ≡ 1 + k → to + (1 + w * (1 + k)) ≤ length l
      → l' ≡ put to (recast_history v w k (part from n s)) l
  history-put i k l' e h q =
      let b : List ℕ = part from n s in
      let f : ℕ → List ℕ = renumbered_at v w b in
      let one : length (part 0 1 b) ≡ 1 = length_part 0 1 b (omega (arith, length_part from n s p)) in
      let many : length (chunks i f) ≡ w * (1 + k) = length-chunks w f (length-renumbered v w b) i ∙ ap (λ (j : ℕ). w * j) h in
      e ∙ put-behind to 1 (part 0 1 b) (chunks i f) l (set l to (get_or s from 0)) one (omega arith) (first-put (omega arith))
      ∙ ap (λ (x : List ℕ). put to x l) (ap (λ (j : ℕ). part 0 1 b ++ chunks j f) h ∙ sym (recast-numbers v w k b))

-- ---- one number, in one byte or in two

pub byte-number : (v at : ℕ) (s : List ℕ) → v ≡ 1 → get_or s at 0 ≡ of_be v (part at v s)
byte-number v at s e = subst (λ (k : ℕ). get_or s at 0 ≡ of_be k (part at k s)) (sym e) (of_be-first at 1 (get_or s at 0) s (omega arith) refl)

be-last : (n : ℕ) → be 1 (n % 256) ≡ be 1 n
unfolding be
be-last n = let a : n % 256 % 256 ≡ n % 256 = omega arith in ap (λ (k : ℕ). k ∷ []) a

pub byte_put : (w at n : ℕ) (l : List ℕ) → w ≡ 1 → at < length l → set l at (n % 256) ≡ put at (be w n) l
byte_put w at n l e h =
    subst (λ (k : ℕ). set l at (n % 256) ≡ put at (be k n) l) (sym e)
    (sym (put-be-one at (n % 256) l h (omega arith)) ∙ ap (λ (x : List ℕ). put at x l) (be-last n))

-- ---- all of them

module _ (v w from to : ℕ) (s l : List ℕ) (fits : from + history_size v 15 ≤ length s) (room : to + history_size w 15 ≤ length l) where
  abbrev bytes : List ℕ
  bytes = part from (history_size v 15) s

  same_number : (i : ℕ) → i < 16 → load_number_at v s (from + 1) i ≡ load_number_at v bytes 1 i
  unfolding load_number_at
  same_number i h =
      ap (of_be v) (ap (λ (k : ℕ). part k v s) (omega arith) ∙ sym (part-part (1 + v * i) v from (history_size v 15) s (omega (arith, step v i 16 h))))

  renumbered : chunks 16 (pack_number_at w (tabulate 16 (load_number_at v s (from + 1)))) ≡ chunks 16 (renumbered_at v w bytes)
  unfolding pack_number_at renumbered_at
  renumbered = chunks-same 16 (pack_number_at w (tabulate 16 (load_number_at v s (from + 1)))) (renumbered_at v w bytes)
      (λ i h. ap (be w) (get_d_tabulate (load_number_at v s (from + 1)) 16 i 0 h ∙ same_number i h))

  -- the numbers that were loaded are put behind the first byte
  pub history-turned : (list l' : List ℕ) → list ≡ tabulate 16 (load_number_at v s (from + 1)) → l' ≡ put (to + 1) (chunks 16 (pack_number_at w list)) (set l to (get_or s from 0))
      → l' ≡ put to (recast_history v w 15 bytes) l
  history-turned list l' q e =
      let all : chunks 16 (pack_number_at w list) ≡ chunks 16 (renumbered_at v w bytes) = ap (λ (x : List ℕ). chunks 16 (pack_number_at w x)) q ∙ renumbered in
      history-put v w from (history_size v 15) to s l fits (omega arith) 16 15 l' (e ∙ ap (λ (x : List ℕ). put (to + 1) x (set l to (get_or s from 0))) all) refl (omega arith)

-- ---- either way

-- the bytes are few
pub few_bytes : {v w : ℕ} → Widths v w → (n : ℕ) → n ≤ 48 → (history_size v 15 * n ≤ 1584) × (history_size w 15 * n ≤ 1584)
few_bytes widening n h = (omega arith, omega arith)
few_bytes narrowing n h = (omega arith, omega arith)
