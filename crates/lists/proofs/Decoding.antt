-- Reading a step of a packed list, and a reply.
use Prim.Native.Nat.{ℕ, ◌+◌, ◌/◌, ◌%◌}
use mathlib.Core.Path.{◌≡◌, refl, ap, ◌∙◌}
use mathlib.Core.List.{List}
use native.Mathlib.Nat.{add-zero}
use native.Mathlib.Omega.{arith}
use lib.ListN.{get_or}
use Rattle.octets.specs.Bytes.{part}
use Rattle.octets.specs.Numbers.{of_be}
use Rattle.octets.proofs.Put.{part-part, get_d_part}
use Rattle.rules.specs.declared.Step.{Step}
use Rattle.rules.specs.declared.Reply.{Reply}
use Rattle.rules.specs.declared.Told.{Told}
use Rattle.rules.specs.Step.{step_bytes, unpack_step, unpack_reply, told, unpack_told}

-- the fields of the step from place at on
pub step-fields : (l : List ℕ) (at k v : ℕ) → k ≡ of_be 2 (part (at + 2) 2 l) → v ≡ of_be 4 (part (at + 4) 4 l)
    → ◌≡◌ {A = Step} (record { kind = get_or l at 0 / 16; transactor = get_or l at 0 % 16; other = get_or l (at + 1) 0 / 16; zero = get_or l (at + 1) 0 % 16; message = k; value = v }) (unpack_step (part at step_bytes l))
unfolding unpack_step
step-fields l at k v e f =
    let a : get_or (part at step_bytes l) 0 0 ≡ get_or l at 0 = get_d_part at step_bytes l 0 (omega arith) ∙ ap (λ (i : ℕ). get_or l i 0) (add-zero at) in
    let b : get_or (part at step_bytes l) 1 0 ≡ get_or l (at + 1) 0 = get_d_part at step_bytes l 1 (omega arith) in
    let c : part 2 2 (part at step_bytes l) ≡ part (at + 2) 2 l = part-part 2 2 at step_bytes l (omega arith) in
    let d : part 4 4 (part at step_bytes l) ≡ part (at + 4) 4 l = part-part 4 4 at step_bytes l (omega arith) in
    rw (a, b, c, d, e, f)

-- the fields of the reply from place at on
pub reply-fields : (l : List ℕ) (at k v : ℕ) → k ≡ of_be 2 (part (at + 2) 2 l) → v ≡ of_be 4 (part (at + 4) 4 l)
    → ◌≡◌ {A = Reply} (record { outcome = get_or l at 0; transactor = get_or l (at + 1) 0; message = k; value = v }) (unpack_reply (part at step_bytes l))
unfolding unpack_reply
reply-fields l at k v e f =
    let a : get_or (part at step_bytes l) 0 0 ≡ get_or l at 0 = get_d_part at step_bytes l 0 (omega arith) ∙ ap (λ (i : ℕ). get_or l i 0) (add-zero at) in
    let b : get_or (part at step_bytes l) 1 0 ≡ get_or l (at + 1) 0 = get_d_part at step_bytes l 1 (omega arith) in
    let c : part 2 2 (part at step_bytes l) ≡ part (at + 2) 2 l = part-part 2 2 at step_bytes l (omega arith) in
    let d : part 4 4 (part at step_bytes l) ≡ part (at + 4) 4 l = part-part 4 4 at step_bytes l (omega arith) in
    rw (a, b, c, d, e, f)

pub told-fields : (l : List ℕ) (at k : ℕ) → k ≡ of_be 2 (part (at + 2) 2 l) → ◌≡◌ {A = Told} (record { outcome = get_or l at 0; transactor = get_or l (at + 1) 0; message = k }) (unpack_told (part at step_bytes l))
unfolding unpack_told
told-fields l at k e = ap told (reply-fields l at k (of_be 4 (part (at + 4) 4 l)) e refl)
