-- A mark written in another width says the same, and back in the first width is the first bytes.
use Prim.Native.Nat.{ℕ, ◌+◌, ◌*◌, ◌≤◌, ◌<◌}
use mathlib.Core.Path.{◌≡◌, refl, ap, sym, ◌∙◌}
use mathlib.Core.List.{List, ◌++◌, append_assoc}
use native.Mathlib.Omega.{arith}
use lib.ListN.{length, get_or, length-append}
use Rattle.octets.specs.Bytes.{part, chunks, zeros, Octets}
use Rattle.octets.specs.Numbers.{be, of_be, bound}
use Rattle.octets.proofs.Put.{part_left, part-whole, length_part, get_d_part, octets-part}
use Rattle.octets.proofs.Numbers.{length-be, be-zero, of_be-be, be-of_be, of_be-bound}
use Rattle.octets.proofs.Zero.{part-zeros, get_or-zeros, zeros-append, chunks-zeros}
use Rattle.octets.proofs.Chunks.{step, tabulate-same, get_d_tabulate, chunks-same, length-chunks, part-chunks, chunks-add}
use Rattle.octets.proofs.Runs.{joined, run-back, behind, further}
use Rattle.marks.specs.declared.History.{History}
use Rattle.marks.specs.History.{Roomy}
use Rattle.marks.specs.Packed.{history_size, bit, pack_number_at, pack_history, load_number_at, unpack_history, present_in, Packable}
use Rattle.marks.proofs.Packed.{length-pack_number_at, unpack-pack_history, unpack-zeros}
use Rattle.marks.specs.Internal.Recast.{renumbered_at, recast_history}

pack-def : (w l : ℕ) (h : History) → pack_history w l h ≡ be 1 (128 + 64 * bit h.stable + h.count) ++ be w h.incarnation ++ chunks l (pack_number_at w h.checkpoints)
unfolding pack_history
pack-def w l h = refl

pub pack-front : (w l : ℕ) (h : History) → part 0 1 (pack_history w l h) ≡ be 1 (128 + 64 * bit h.stable + h.count)
unfolding pack_history
pack-front w l h =
    let a : List ℕ = be 1 (128 + 64 * bit h.stable + h.count) in
    let n : length a ≡ 1 = length-be 1 (128 + 64 * bit h.stable + h.count) in
    let m : length (a ++ be w h.incarnation) ≡ 1 + w = rw (length-append, n, length-be) in
    part_left 0 1 (a ++ be w h.incarnation) (chunks l (pack_number_at w h.checkpoints)) (omega arith)
    ∙ part_left 0 1 a (be w h.incarnation) (omega arith)
    ∙ part-whole 1 a n

list-zeros : (w l : ℕ) → chunks l (pack_number_at w (zeros l)) ≡ zeros (w * l)
unfolding pack_number_at
list-zeros w l = chunks-same l (pack_number_at w (zeros l)) (λ i. zeros w) (λ i h. ap (be w) (get_or-zeros l i) ∙ be-zero w) ∙ chunks-zeros w l

module _ (v w l : ℕ) (b : List ℕ) (n : length b ≡ history_size v l) where
  abbrev u : History
  u = unpack_history v l b

  front_length : length (part 0 1 b) ≡ 1
  front_length = length_part 0 1 b (omega arith)

  head-length : length (part 0 1 b ++ be w u.incarnation) ≡ 1 + w
  head-length = rw (length-append, front_length, length-be)

  pub length-recast : length (recast_history v w l b) ≡ history_size w l
  unfolding recast_history
  length-recast = rw (length-append, head-length, length-chunks w (pack_number_at w u.checkpoints) (length-pack_number_at w u.checkpoints) l)

  recast-front : part 0 1 (recast_history v w l b) ≡ part 0 1 b
  unfolding recast_history
  recast-front =
      part_left 0 1 (part 0 1 b ++ be w u.incarnation) (chunks l (pack_number_at w u.checkpoints)) (omega (arith, head-length))
      ∙ part_left 0 1 (part 0 1 b) (be w u.incarnation) (omega (arith, front_length))
      ∙ part-whole 1 (part 0 1 b) front_length

  recast-first : get_or (recast_history v w l b) 0 0 ≡ get_or b 0 0
  recast-first = sym (get_d_part 0 1 (recast_history v w l b) 0 (omega arith)) ∙ ap (λ (x : List ℕ). get_or x 0 0) recast-front ∙ get_d_part 0 1 b 0 (omega arith)

  recast-number : part 1 w (recast_history v w l b) ≡ be w u.incarnation
  unfolding recast_history
  recast-number =
      part_left 1 w (part 0 1 b ++ be w u.incarnation) (chunks l (pack_number_at w u.checkpoints)) (omega (arith, head-length))
      ∙ behind 1 w (part 0 1 b) (be w u.incarnation) front_length
      ∙ part-whole w (be w u.incarnation) (length-be w u.incarnation)

  recast-entry : (i : ℕ) → i < l → part (1 + w + w * i) w (recast_history v w l b) ≡ be w (get_or u.checkpoints i 0)
  unfolding recast_history pack_number_at
  recast-entry i h =
      further (1 + w) (w * i) w (part 0 1 b ++ be w u.incarnation) (chunks l (pack_number_at w u.checkpoints)) head-length
      ∙ part-chunks w (pack_number_at w u.checkpoints) (length-pack_number_at w u.checkpoints) l i h

  module _ (o : Octets b) (more : bound v ≤ bound w) where
    number_fits : (at : ℕ) → of_be v (part at v b) < bound w
    number_fits at = let h : of_be v (part at v b) < bound v = of_be-bound v (part at v b) (octets-part at v b o) in omega arith

    same_number : of_be w (part 1 w (recast_history v w l b)) ≡ of_be v (part 1 v b)
    unfolding unpack_history
    same_number = ap (of_be w) recast-number ∙ of_be-be w (of_be v (part 1 v b)) (number_fits 1)

    same_load : (i : ℕ) → i < l → load_number_at w (recast_history v w l b) (1 + w) i ≡ load_number_at v b (1 + v) i
    unfolding load_number_at unpack_history
    same_load i h =
        ap (of_be w) (recast-entry i h ∙ ap (be w) (get_d_tabulate (load_number_at v b (1 + v)) l i 0 h))
        ∙ of_be-be w (of_be v (part (1 + v + v * i) v b)) (number_fits (1 + v + v * i))

    pub unpack-recast : unpack_history w l (recast_history v w l b) ≡ unpack_history v l b
    unfolding unpack_history
    unpack-recast = rw (recast-first, same_number, tabulate-same l (load_number_at w (recast_history v w l b) (1 + w)) (load_number_at v b (1 + v)) same_load)

  pub present-recast : present_in (recast_history v w l b) ≡ present_in b
  unfolding present_in
  present-recast = rw recast-first

recast-def : (v w l : ℕ) (b : List ℕ) → recast_history v w l b ≡ part 0 1 b ++ be w (unpack_history v l b).incarnation ++ chunks l (pack_number_at w (unpack_history v l b).checkpoints)
unfolding recast_history
recast-def v w l b = refl

-- all numbers alike, one after the other
pub recast-numbers : (v w l : ℕ) (b : List ℕ) → recast_history v w l b ≡ part 0 1 b ++ chunks (1 + l) (renumbered_at v w b)
unfolding pack_number_at unpack_history renumbered_at load_number_at chunks
recast-numbers v w l b =
    let f : ℕ → List ℕ = renumbered_at v w b in
    let first : be w (of_be v (part 1 v b)) ≡ f 0 = ap (λ (k : ℕ). be w (of_be v (part k v b))) (omega arith) in
    let rest : chunks l (pack_number_at w (unpack_history v l b).checkpoints) ≡ chunks l (λ i. f (1 + i)) =
    chunks-same l (pack_number_at w (unpack_history v l b).checkpoints) (λ i. f (1 + i))
    (λ i h. ap (be w) (get_d_tabulate (load_number_at v b (1 + v)) l i 0 h) ∙ ap (λ (k : ℕ). be w (of_be v (part k v b))) (omega arith)) in
    recast-def v w l b
    ∙ ap (λ (x : List ℕ). part 0 1 b ++ x ++ chunks l (pack_number_at w (unpack_history v l b).checkpoints)) first
    ∙ ap (λ (x : List ℕ). part 0 1 b ++ f 0 ++ x) rest
    ∙ append_assoc (part 0 1 b) (f 0) (chunks l (λ i. f (1 + i)))
    ∙ ap (λ (x : List ℕ). part 0 1 b ++ x) (sym (chunks-add 1 l f))

module _ (v l : ℕ) (b : List ℕ) (n : length b ≡ history_size v l) (o : Octets b) where
  number-back : (at : ℕ) → at + v ≤ length b → be v (of_be v (part at v b)) ≡ part at v b
  number-back at h = be-of_be v (part at v b) (length_part at v b h) (octets-part at v b o)

  entry-back : (i : ℕ) → i < l → pack_number_at v (unpack_history v l b).checkpoints i ≡ part (1 + v + v * i) v b
  unfolding pack_number_at unpack_history load_number_at
  entry-back i h = ap (be v) (get_d_tabulate (load_number_at v b (1 + v)) l i 0 h) ∙ number-back (1 + v + v * i) (omega (arith, step v i l h))

  head-back : be v (unpack_history v l b).incarnation ≡ part 1 v b
  unfolding unpack_history
  head-back = number-back 1 (omega arith)

  -- written anew in its own width
  recast-self : recast_history v v l b ≡ b
  unfolding recast_history
  recast-self = rw (head-back, run-back (1 + v) v l (pack_number_at v (unpack_history v l b).checkpoints) b (omega arith) entry-back, joined 1 v b, joined (1 + v) (v * l) b) (part-whole (history_size v l) b n)

module _ (v w l : ℕ) (more : bound v ≤ bound w) where
  pub recast-back : (b : List ℕ) → length b ≡ history_size v l → Octets b → recast_history w v l (recast_history v w l b) ≡ b
  recast-back b n o =
      rw (recast-def w v l (recast_history v w l b), recast-front v w l b n, unpack-recast v w l b n o more)
      (sym (recast-def v v l b) ∙ recast-self v l b n o)

  pub recast-pack : (h : History) → Roomy l h → Packable v l h → recast_history v w l (pack_history v l h) ≡ pack_history w l h
  recast-pack h r k = recast-def v w l (pack_history v l h) ∙ rw (unpack-pack_history r k, pack-front v l h, pack-def w l h)

  pub recast-zeros : recast_history v w l (zeros (history_size v l)) ≡ zeros (history_size w l)
  recast-zeros = recast-def v w l (zeros (history_size v l)) ∙ rw (unpack-zeros v l (history_size v l), part-zeros 0 1 (history_size v l) (omega arith), be-zero w, list-zeros w l, zeros-append, zeros-append)
