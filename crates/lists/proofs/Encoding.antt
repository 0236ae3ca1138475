-- Writing a reply into a packed list.
use Prim.Native.Nat.{ℕ, ◌+◌, ◌≤◌, ◌<◌}
use mathlib.Core.Path.{◌≡◌, sym, ◌∙◌}
use mathlib.Core.List.{List, ◌++◌}
use native.Mathlib.Omega.{arith}
use lib.ListN.{length, set, length-append, length-set}
use Rattle.octets.specs.Bytes.{put}
use Rattle.octets.specs.Numbers.{be}
use Rattle.octets.proofs.Put.{put-behind}
use Rattle.octets.proofs.Numbers.{length-be, put-be-one}
use Rattle.rules.specs.declared.Reply.{Reply}
use Rattle.rules.specs.Step.{step_bytes, pack_reply}

-- the fields of a reply are put one after the other
pub reply-fields : (r : Reply) (at : ℕ) (l l1 l2 : List ℕ) → at + step_bytes ≤ length l → r.outcome < 256 → r.transactor < 256
    → l1 ≡ put (at + 2) (be 2 r.message) (set (set l at r.outcome) (at + 1) r.transactor)
    → l2 ≡ put (at + 4) (be 4 r.value) l1
    → l2 ≡ put at (pack_reply r) l
unfolding pack_reply
reply-fields r at l l1 l2 h x y e1 e2 =
    let b1 : List ℕ = be 1 r.outcome in
    let b2 : List ℕ = b1 ++ be 1 r.transactor in
    let b3 : List ℕ = b2 ++ be 2 r.message in
    let n2 : length b2 ≡ 2 = simp (length-append, length-be) in
    let n3 : length b3 ≡ 4 = simp (length-append, length-be) in
    let f1 : set l at r.outcome ≡ put at b1 l = sym (put-be-one at r.outcome l (omega arith) x) in
    let f2 : set (set l at r.outcome) (at + 1) r.transactor ≡ put at b2 l =
    sym (put-be-one (at + 1) r.transactor (set l at r.outcome) (rw length-set (omega arith)) y)
    ∙ put-behind at 1 b1 (be 1 r.transactor) l (set l at r.outcome) (length-be 1 r.outcome) (omega (arith, length-be 1 r.transactor)) f1 in
    let f3 : l1 ≡ put at b3 l = e1 ∙ put-behind at 2 b2 (be 2 r.message) l _ n2 (omega (arith, length-be 2 r.message)) f2 in
    e2 ∙ put-behind at 4 b3 (be 4 r.value) l l1 n3 (omega (arith, length-be 4 r.value)) f3
