-- What code reads back from packed replies: the outcome of step i stands in the first byte of reply i.
use Prim.Native.Nat.{ℕ, ◌*◌, ◌<◌}
use mathlib.Core.Path.{◌≡◌, sym, ap, ◌∙◌}
use mathlib.Core.List.{List}
use native.Mathlib.Nat.{add-zero}
use native.Mathlib.Omega.{arith}
use lib.ListN.{get_or}
use Rattle.octets.specs.Bytes.{part, chunks, Octets}
use Rattle.octets.proofs.Chunks.{part-chunks}
use Rattle.octets.proofs.Put.{get_d_part}
use Rattle.rules.specs.Layout.{Layout, Fitting}
use Rattle.rules.specs.State.{State}
use Rattle.rules.specs.declared.Reply.{Reply}
use Rattle.rules.specs.Step.{step_bytes, step_at, pack_reply}
use Rattle.rules.specs.Internal.Well.{WellFormed}
use Rattle.rules.specs.Rules.{step_of}
use Rattle.rules.specs.Calls.{state_after, reply_at}
use Rattle.rules.proofs.Keep.Step.{replies-fit}
use Rattle.rules.proofs.Replies.{length-pack_reply, first-pack_reply}
use Rattle.thin.specs.Thin.{outcome_at}

pub outcome-byte : {y : Layout} {s : State} → Fitting y → WellFormed y s → (b : List ℕ) → Octets b → (n i : ℕ) → i < n
    → get_or (chunks n (reply_at y s b)) (step_bytes * i) 0 ≡ outcome_at y s b i
unfolding reply_at outcome_at
outcome-byte {y} {s} z w b o n i h =
    let r : ℕ → Reply = λ k. (step_of y (state_after y s b k) (step_at b k)).reply in
    let c : List ℕ = chunks n (reply_at y s b) in
    let e : part (step_bytes * i) step_bytes c ≡ pack_reply (r i) = part-chunks step_bytes (reply_at y s b) (λ k. length-pack_reply (r k)) n i h in
    ap (λ (k : ℕ). get_or c k 0) (sym (add-zero (step_bytes * i)))
    ∙ sym (get_d_part (step_bytes * i) step_bytes c 0 (omega arith))
    ∙ ap (λ (x : List ℕ). get_or x 0 0) e
    ∙ first-pack_reply (r i) (replies-fit z w b o i).outcome
