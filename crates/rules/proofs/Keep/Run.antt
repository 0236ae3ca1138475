-- Steps one after the other: a list of steps may be run in parts.
use Prim.Native.Nat.{ℕ, zero, suc, ◌+◌, ◌*◌, ◌≤◌, ◌<◌}
use mathlib.Core.Path.{◌≡◌, refl, ap, ◌∙◌}
use mathlib.Core.List.{List, ◌++◌}
use native.Mathlib.Nat.{add-suc, add-zero}
use native.Mathlib.Omega.{arith}
use lib.ListN.{length, get_or}
use Rattle.octets.specs.Bytes.{part, chunks, Octets}
use Rattle.octets.proofs.Put.{octet, octets-part, part_left, part_right}
use Rattle.octets.proofs.Numbers.{of_be-bound}
use Rattle.octets.proofs.Chunks.{chunks-add, chunks-same, step}
use Rattle.rules.specs.Layout.{Layout}
use Rattle.rules.specs.State.{State}
use Rattle.rules.specs.Step.{step_bytes, unpack_step, step_at}
use Rattle.rules.specs.Rules.{step_of}
use Rattle.rules.specs.Internal.Well.{StepOk}
use Rattle.rules.specs.Calls.{state_after, reply_at}

-- ---- a step read from bytes fits its fields

pub step_ok-unpack : (b : List ℕ) → Octets b → StepOk (unpack_step b)
unfolding unpack_step
step_ok-unpack b o =
    let x : get_or b 0 0 < 256 = octet b o 0 in
    let z : get_or b 1 0 < 256 = octet b o 1 in
    record {
      kind = omega arith;
      transactor = omega arith;
      other = omega arith;
      zero = omega arith;
      message = of_be-bound 2 (part 2 2 b) (octets-part 2 2 b o);
      value = of_be-bound 4 (part 4 4 b) (octets-part 4 4 b o);
    }

pub step_ok-at : (b : List ℕ) → Octets b → (i : ℕ) → StepOk (step_at b i)
unfolding step_at
step_ok-at b o i = step_ok-unpack (part (step_bytes * i) step_bytes b) (octets-part (step_bytes * i) step_bytes b o)

-- ---- one list after another

pub after-zero : (y : Layout) (s : State) (b : List ℕ) → state_after y s b 0 ≡ s
unfolding state_after
after-zero y s b = refl

pub after-suc : (y : Layout) (s : State) (b : List ℕ) (i : ℕ) → state_after y s b (suc i) ≡ (step_of y (state_after y s b i) (step_at b i)).state
unfolding state_after
after-suc y s b i = refl

module _ (b c : List ℕ) (i : ℕ) (whole : length b ≡ step_bytes * i) where
  pub at_left : (k : ℕ) → k < i → step_at (b ++ c) k ≡ step_at b k
  unfolding step_at
  at_left k h = ap unpack_step (part_left (step_bytes * k) step_bytes b c (omega (arith, step step_bytes k i h)))

  pub at_right : (j : ℕ) → step_at (b ++ c) (i + j) ≡ step_at c j
  unfolding step_at
  at_right j =
      let e : step_bytes * (i + j) ≡ length b + step_bytes * j = omega arith in
      ap unpack_step (ap (λ (n : ℕ). part n step_bytes (b ++ c)) e ∙ part_right (step_bytes * j) step_bytes b c)

  module _ (y : Layout) (s : State) where
    -- the first list alone
    pub after-left : (k : ℕ) → k ≤ i → state_after y s (b ++ c) k ≡ state_after y s b k
    after-left zero h = rw (after-zero y s (b ++ c), after-zero y s b)
    after-left (suc k) h = rw (after-suc y s (b ++ c) k, after-suc y s b k, after-left k (omega arith), at_left k h)

    -- the second list starts from the state that the first leaves
    pub after-append : (j : ℕ) → state_after y s (b ++ c) (i + j) ≡ state_after y (state_after y s b i) c j
    after-append zero = rw (add-zero, after-zero y (state_after y s b i) c) (after-left i (omega arith))
    after-append (suc j) = rw (add-suc, after-suc y s (b ++ c) (i + j), after-suc y (state_after y s b i) c j, after-append j, at_right j)

    -- and the replies are those to the first, then those to the second
    pub replies-append : (j : ℕ) → chunks (i + j) (reply_at y s (b ++ c)) ≡ chunks i (reply_at y s b) ++ chunks j (reply_at y (state_after y s b i) c)
    unfolding reply_at
    replies-append j =
        rw (
          chunks-add i j (reply_at y s (b ++ c)),
          chunks-same i (reply_at y s (b ++ c)) (reply_at y s b) (λ k h. rw (after-left k (omega arith), at_left k h)),
          chunks-same j (λ k. reply_at y s (b ++ c) (i + k)) (reply_at y (state_after y s b i) c) (λ k h. rw (after-append k, at_right k)),
        )
