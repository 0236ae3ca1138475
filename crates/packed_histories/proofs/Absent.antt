-- A mark stored with or without its present bit; without it the opening mark is zeros.
use Prim.Native.Nat.{ℕ, ◌+◌, ◌*◌, ◌≤◌, ◌<◌}
use mathlib.Core.Bool.{Bool, true, false}
use mathlib.Core.Path.{◌≡◌, refl, ap, sym, ◌∙◌}
use mathlib.Core.List.{List, ◌++◌}
use native.Mathlib.Omega.{arith}
use lib.ListN.{length, length-append, set}
use Rattle.std.specs.Int.{from_bool}
use Rattle.octets.specs.Bytes.{put, chunks, zeros}
use Rattle.octets.specs.Numbers.{be}
use Rattle.octets.proofs.Put.{put_then}
use Rattle.octets.proofs.Numbers.{length-be, put-be-one}
use Rattle.marks.specs.declared.History.{History}
use Rattle.marks.specs.History.{initial_history}
use Rattle.marks.specs.Packed.{width, places, count_bound, history_size, bit, pack_number_at, pack_history}
use Rattle.marks.proofs.Packed.{numbers, length-numbers}
use Rattle.packed_histories.specs.Internal.Absent.{pack_as}

-- the opening mark, not present: every byte is zero
pub absent-initial : pack_as width places false (initial_history places) ≡ zeros (history_size width places)
unfolding pack_as pack_number_at be chunks zeros
absent-initial = refl

pub put-initial : (at : ℕ) (b b' : List ℕ) → b' ≡ put at (pack_as width places false (initial_history places)) b → b' ≡ put at (zeros (history_size width places)) b
put-initial at b b' e = e ∙ ap (λ (z : List ℕ). put at z b) absent-initial

pub put-present : (w l at : ℕ) (h : History) (b b' : List ℕ) → b' ≡ put at (pack_as w l true h) b → b' ≡ put at (pack_history w l h) b
unfolding pack_as pack_history
put-present w l at h b b' e = e

-- a flag as a bit
pub bit-from : (t : Bool) → from_bool t ≡ bit t
bit-from true = refl
bit-from false = refl

head-fits : (p t : Bool) (n : ℕ) → n < count_bound → 128 * bit p + 64 * bit t + n < 256
head-fits true true n h = omega arith
head-fits true false n h = omega arith
head-fits false true n h = omega arith
head-fits false false n h = omega arith

pub put_as : (w l at : ℕ) (p : Bool) (h : History) (g f : ℕ) (b b' b'' : List ℕ) → at + history_size w l ≤ length b → g ≡ bit p → f ≡ bit h.stable → h.count < count_bound
    → b' ≡ put (at + 1) (be w h.incarnation) (set b at (128 * g + 64 * f + h.count))
    → b'' ≡ put (at + 1 + w) (chunks l (pack_number_at w h.checkpoints)) b'
    → b'' ≡ put at (pack_as w l p h) b
unfolding pack_as
put_as w l at p h g f b b' b'' k d e c q r =
    let head : ℕ = 128 * bit p + 64 * bit h.stable + h.count in
    let front : List ℕ = be 1 head ++ be w h.incarnation in
    let long : length front ≡ 1 + w = length-append (be 1 head) (be w h.incarnation) ∙ rw (length-be 1 head, length-be w h.incarnation) in
    let first : set b at (128 * g + 64 * f + h.count) ≡ put at (be 1 head) b =
    rw (d, e) (sym (put-be-one at head b (omega arith) (head-fits p h.stable h.count c))) in
    let two : b' ≡ put at front b =
    q ∙ rw first (put_then at 1 (be 1 head) (be w h.incarnation) b (length-be 1 head) (omega (arith, length-be w h.incarnation))) in
    let place : at + 1 + w ≡ at + (1 + w) = omega arith in
    r ∙ rw (two, place) (put_then at (1 + w) front (numbers w l h) b long (omega (arith, length-numbers w l h l)))
