-- Lists and runs in which independent steps have changed places.
use Prim.Native.Nat.{ℕ, zero, suc, ◌+◌, ◌-◌, ◌*◌, ◌/◌, ◌%◌, ◌≤◌}
use mathlib.Core.Bool.{Bool, true, false}
use mathlib.Core.Path.{◌≡◌, refl, sym, ap, ◌∙◌}
use mathlib.Core.List.{List, [], ◌∷◌}
use native.Mathlib.Nat.{zero-add}
use native.Mathlib.Omega.{arith}
use borrow.Author.Tests.{eqb-true}
use lib.Dec.{eqb}
use lib.ListN.{length}
use Rattle.octets.specs.Bytes.{part, chunks}
use Rattle.octets.proofs.Put.{length_part}
use Rattle.octets.proofs.Chunks.{length-tabulate}
use Rattle.rules.specs.Layout.{Layout}
use Rattle.rules.specs.State.{State}
use Rattle.rules.specs.Step.{step_bytes, step_at}
use Rattle.rules.specs.Pack.{pack, unpack}
use Rattle.rules.specs.Calls.{state_after, reply_at, steps_in, wrong_part, run_answer, ran_image, ran_replies, run_image, run_replies}
use Rattle.rules.specs.Exchange.{exchanged_at, RunExchanged}
use Rattle.rules.specs.Independent.{Independent, rearranged, Reorders, as_is, exchange, StepsReordered, RunReordered}
use Rattle.rules.proofs.Calls.Stored.{Accepted, accepted}
use Rattle.rules.proofs.Exchange.Runs.{length_exchanged, part-exchanged, RanFrom, ran-exchanged, run-turned}
use Rattle.rules.proofs.Independent.Steps.{Full, full-after, independent-exchanged}

-- every image has all takes of its layout
pub full-unpack : (y : Layout) (img : List ℕ) → Full y (unpack y img)
unfolding unpack
full-unpack y img = length-tabulate _ y.transactors

full-steps : (y : Layout) (s : State) (b : List ℕ) → Full y s → (i : ℕ) → Full y (state_after y s b i)
unfolding state_after
full-steps y s b full zero = full
full-steps y s b full (suc i) = full-after y (state_after y s b i) (step_at b i) (full-steps y s b full i)

-- ---- two neighbours

pub run-independent : (y : Layout) (img list : List ℕ) (start end : ℕ) (buffer : List ℕ) (i : ℕ) → start + step_bytes * (i + 2) ≤ end
    → Independent y (state_after y (unpack y img) (part start (end - start) list) i) (step_at (part start (end - start) list) i) (step_at (part start (end - start) list) (i + 1))
    → RunExchanged y img list start end buffer i
run-independent y img list start end buffer i h x =
    let b : List ℕ = part start (end - start) list in
    run-turned y img list start end buffer i h (independent-exchanged y (state_after y (unpack y img) b i) (step_at b i) (step_at b (i + 1)) (full-steps y (unpack y img) b (full-unpack y img) i) x)

-- ---- lists

pub rearranged-none : (k : ℕ) (b : List ℕ) → rearranged k [] b ≡ b
unfolding rearranged
rearranged-none k b = refl

rearranged-more : (k i : ℕ) (places b : List ℕ) → rearranged k (i ∷ places) b ≡ rearranged k places (exchanged_at (k + step_bytes * i) b)
unfolding rearranged
rearranged-more k i places b = refl

-- places counted from the list's first byte
pub rearranged-first : (i : ℕ) (places b : List ℕ) → rearranged 0 (i ∷ places) b ≡ rearranged 0 places (exchanged_at (step_bytes * i) b)
rearranged-first i places b = rearranged-more 0 i places b ∙ ap (λ (n : ℕ). rearranged 0 places (exchanged_at n b)) (zero-add (step_bytes * i))

pub length-rearranged : (k : ℕ) (places b : List ℕ) → length (rearranged k places b) ≡ length b
length-rearranged k [] b = ap length (rearranged-none k b)
length-rearranged k (i ∷ places) b = ap length (rearranged-more k i places b) ∙ length-rearranged k places (exchanged_at (k + step_bytes * i) b) ∙ length_exchanged (k + step_bytes * i) b

-- a list and its rearrangement: the same state at the end of each, and the replies rearranged likewise
record Ran (y : Layout) (s : State) (b places : List ℕ) : Type 0 where
  state : state_after y s (rearranged 0 places b) (steps_in (rearranged 0 places b)) ≡ state_after y s b (steps_in b)
  replies : chunks (steps_in (rearranged 0 places b)) (reply_at y s (rearranged 0 places b)) ≡ rearranged 0 places (chunks (steps_in b) (reply_at y s b))

module _ (y : Layout) (s : State) (full : length s.transactors ≡ y.transactors) where
  abbrev run : List ℕ → State
  run b = state_after y s b (steps_in b)

  abbrev told : List ℕ → List ℕ
  told b = chunks (steps_in b) (reply_at y s b)

  ran : (places b : List ℕ) (n : ℕ) → length b ≡ step_bytes * n → Reorders y s places b → Ran y s b places
  ran places b n e (as_is c) = record {
    state = ap run (rearranged-none 0 b);
    replies = ap told (rearranged-none 0 b) ∙ sym (rearranged-none 0 (told b));
  }
  ran places b n e (exchange i rest c h x more) =
      let turned : List ℕ = exchanged_at (step_bytes * i) b in
      let one : RanFrom y s b (step_bytes * i) = ran-exchanged y s b n i e (omega arith) (independent-exchanged y (state_after y s b i) (step_at b i) (step_at b (i + 1)) (full-steps y s b full i) x) in
      let all : Ran y s turned rest = ran rest turned n (length_exchanged (step_bytes * i) b ∙ e) more in
      record {
        state = ap run (rearranged-first i rest b) ∙ all.state ∙ one.state;
        replies = ap told (rearranged-first i rest b) ∙ all.replies ∙ ap (rearranged 0 rest) one.replies ∙ sym (rearranged-first i rest (told b));
      }

  -- reordered lists of whole steps leave the same state, and every step its reply
  pub steps-reordered : (places b : List ℕ) → length b % step_bytes ≡ 0 → Reorders y s places b → StepsReordered y s b places
  steps-reordered places b e r =
      let same : steps_in (rearranged 0 places b) ≡ steps_in b = ap (λ (n : ℕ). n / step_bytes) (length-rearranged 0 places b) in
      let all : Ran y s b places = ran places b (length b / step_bytes) (omega arith) r in
      record {
        state = ap (state_after y s (rearranged 0 places b)) (sym same) ∙ all.state;
        replies = ap (λ (n : ℕ). chunks n (reply_at y s (rearranged 0 places b))) (sym same) ∙ all.replies;
      }

-- ---- the call

-- the part b of a list in which steps of the part have changed places
part-rearranged : (y : Layout) (s : State) (start n : ℕ) (places list b : List ℕ) → start + n ≤ length list → b ≡ part start n list → Reorders y s places b
    → part start n (rearranged start places list) ≡ rearranged 0 places b
part-rearranged y s start n places list b w e (as_is c) = ap (part start n) (rearranged-none start list) ∙ sym e ∙ sym (rearranged-none 0 b)
part-rearranged y s start n places list b w e (exchange i rest c h x more) =
    let k : ℕ = step_bytes * i in
    let long : length b ≡ n = ap length e ∙ length_part start n list w in
    let fits : k + step_bytes + step_bytes ≤ n = omega arith in
    let w' : start + n ≤ length (exchanged_at (start + k) list) = rw (length_exchanged (start + k) list) w in
    let e' : exchanged_at k b ≡ part start n (exchanged_at (start + k) list) = ap (exchanged_at k) e ∙ sym (part-exchanged start n k list fits w) in
    ap (part start n) (rearranged-more start i rest list)
    ∙ part-rearranged y s start n rest (exchanged_at (start + k) list) (exchanged_at k b) w' e' more
    ∙ sym (rearranged-first i rest b)

answer-rearranged : (y : Layout) (img list : List ℕ) (start end : ℕ) (buffer places : List ℕ) → run_answer y img (rearranged start places list) start end buffer ≡ run_answer y img list start end buffer
unfolding run_answer wrong_part
answer-rearranged y img list start end buffer places = rw (length-rearranged start places list)

-- any part of any list, on any image, with any buffer for the replies
module _ (y : Layout) (img list : List ℕ) (start end : ℕ) (buffer places : List ℕ) (r : Reorders y (unpack y img) places (part start (end - start) list)) where
  pub run-reordered : RunReordered y img list start end buffer places
  unfolding run_image run_replies ran_image ran_replies
  run-reordered = go (eqb (run_answer y img list start end buffer) 0) refl
    where
      same : run_answer y img (rearranged start places list) start end buffer ≡ run_answer y img list start end buffer
      same = answer-rearranged y img list start end buffer places

      go : (c : Bool) → eqb (run_answer y img list start end buffer) 0 ≡ c → RunReordered y img list start end buffer places
      go true f =
          let z : run_answer y img list start end buffer ≡ 0 = eqb-true _ _ f in
          let a : Accepted y img list start end buffer = accepted y img list start end buffer z in
          let forth : start ≤ end = a.forth in
          let within : end ≤ length list = a.within in
          let steps : (end - start) % step_bytes ≡ 0 = a.steps in
          let b : List ℕ = part start (end - start) list in
          let long : length b ≡ step_bytes * ((end - start) / step_bytes) = length_part start (end - start) list (omega arith) ∙ omega arith in
          let turned : part start (end - start) (rearranged start places list) ≡ rearranged 0 places b = part-rearranged y (unpack y img) start (end - start) places list b (omega arith) refl r in
          let all : Ran y (unpack y img) b places = ran y (unpack y img) (full-unpack y img) places b ((end - start) / step_bytes) long r in
          record {
            answer = same;
            image = rw (same, f, turned) (ap (pack y) all.state);
            replies = rw (same, f, turned) all.replies;
          }
      go false f = record { answer = same; image = rw (same, f); replies = rw (same, f) }
