-- A step that comes late: it may be brought past every step of which it is independent in the state before that one.
use Prim.Native.Nat.{ℕ, zero, suc, ◌+◌, ◌-◌, ◌*◌, ◌≤◌, ◌<◌}
use mathlib.Core.Path.{◌≡◌, refl, sym, ap, ◌∙◌, subst}
use mathlib.Core.List.{List, ◌++◌}
use native.Mathlib.Omega.{arith}
use lib.ListN.{length, length-append}
use Rattle.octets.specs.Bytes.{put, part}
use Rattle.octets.proofs.Put.{length_part, part-put, part-put-before, put-put, put-part, part_left, part_right, part-part, part-add, part-whole}
use Rattle.rules.specs.Layout.{Layout}
use Rattle.rules.specs.State.{State}
use Rattle.rules.specs.Step.{Step, step_bytes, unpack_step, step_at}
use Rattle.rules.specs.Rules.{step_of}
use Rattle.rules.specs.Pack.{unpack}
use Rattle.rules.specs.Calls.{state_after, steps_in}
use Rattle.rules.specs.Exchange.{exchanged_at}
use Rattle.rules.specs.Independent.{Independent, Reorders, as_is, exchange, brought_to, RunReordered}
use Rattle.rules.proofs.Exchange.Runs.{exchanged-def, length_exchanged}
use Rattle.rules.proofs.Independent.Runs.{run-reordered}

-- steps of a list in which steps i and i + 1 have changed places
module _ (b : List ℕ) (i : ℕ) (h : step_bytes * (i + 2) ≤ length b) where
  abbrev k : ℕ
  k = step_bytes * i

  abbrev pair : List ℕ
  pair = part (k + step_bytes) step_bytes b ++ part k step_bytes b

  first-long : length (part (k + step_bytes) step_bytes b) ≡ step_bytes
  first-long = length_part (k + step_bytes) step_bytes b (omega arith)

  pair-long : length pair ≡ step_bytes + step_bytes
  pair-long = length-append (part (k + step_bytes) step_bytes b) (part k step_bytes b) ∙ rw (first-long, length_part k step_bytes b (omega arith))

  pub step-before : (j : ℕ) → j < i → step_at (exchanged_at k b) j ≡ step_at b j
  unfolding step_at
  step-before j l = ap unpack_step (ap (part (step_bytes * j) step_bytes) (exchanged-def k b) ∙ part-put-before k pair b (omega (arith, pair-long)) (step_bytes * j) step_bytes (omega arith))

  -- the two steps that change places
  inside : (j : ℕ) → j + step_bytes ≤ step_bytes + step_bytes → part (k + j) step_bytes (exchanged_at k b) ≡ part j step_bytes pair
  inside j l =
      ap (part (k + j) step_bytes) (exchanged-def k b)
      ∙ sym (part-part j step_bytes k (length pair) (put k pair b) (omega (arith, pair-long)))
      ∙ ap (part j step_bytes) (part-put k pair b (omega (arith, pair-long)))

  first-is : part k step_bytes (exchanged_at k b) ≡ part (k + step_bytes) step_bytes b
  first-is =
      ap (λ (n : ℕ). part n step_bytes (exchanged_at k b)) (omega arith)
      ∙ inside 0 (omega arith)
      ∙ part_left 0 step_bytes (part (k + step_bytes) step_bytes b) (part k step_bytes b) (omega (arith, first-long))
      ∙ part-whole step_bytes (part (k + step_bytes) step_bytes b) first-long

  second_is : part (k + step_bytes) step_bytes (exchanged_at k b) ≡ part k step_bytes b
  second_is =
      let e : step_bytes ≡ length (part (k + step_bytes) step_bytes b) + 0 = omega (arith, first-long) in
      inside step_bytes (omega arith)
      ∙ ap (λ (n : ℕ). part n step_bytes pair) e
      ∙ part_right 0 step_bytes (part (k + step_bytes) step_bytes b) (part k step_bytes b)
      ∙ part-whole step_bytes (part k step_bytes b) (length_part k step_bytes b (omega arith))

  pub step-here : step_at (exchanged_at k b) i ≡ step_at b (i + 1)
  unfolding step_at
  step-here = ap unpack_step (first-is ∙ ap (λ (n : ℕ). part n step_bytes b) (omega arith))

  pub step-next : step_at (exchanged_at k b) (i + 1) ≡ step_at b i
  unfolding step_at
  step-next = ap unpack_step (ap (λ (n : ℕ). part n step_bytes (exchanged_at k b)) (omega arith) ∙ second_is)

  -- exchanged twice, they are back in their places
  pub exchanged-twice : exchanged_at k (exchanged_at k b) ≡ b
  exchanged-twice =
      let back : List ℕ = part k step_bytes b ++ part (k + step_bytes) step_bytes b in
      let long : length back ≡ length pair = length-append (part k step_bytes b) (part (k + step_bytes) step_bytes b) ∙ sym (length-append (part (k + step_bytes) step_bytes b) (part k step_bytes b) ∙ omega arith) in
      exchanged-def k (exchanged_at k b)
      ∙ (λ t. put k (second_is t ++ first-is t) (exchanged_at k b))
      ∙ ap (put k back) (exchanged-def k b)
      ∙ put-put k pair back b (omega (arith, pair-long)) long
      ∙ ap (λ (l : List ℕ). put k l b) (sym (part-add k step_bytes step_bytes b))
      ∙ sym (put-part k (step_bytes + step_bytes) b (omega arith))

  pub state-before : (y : Layout) (s : State) (j : ℕ) → j ≤ i → state_after y s (exchanged_at k b) j ≡ state_after y s b j
  unfolding state_after
  state-before y s zero l = refl
  state-before y s (suc j) l =
      let e : state_after y s (exchanged_at k b) j ≡ state_after y s b j = state-before y s j (omega arith) in
      let f : step_at (exchanged_at k b) j ≡ step_at b j = step-before j l in
      λ t. (step_of y (e t) (f t)).state

-- step i + m of b may be brought to place i, past m steps of which it is independent, each in the state before that step
pub brought : (y : Layout) (s : State) (i m : ℕ) (b : List ℕ) → i + m < steps_in b
    → ((j : ℕ) → i ≤ j → j < i + m → Independent y (state_after y s b j) (step_at b j) (step_at b (i + m))) → Reorders y s (brought_to i m) b
unfolding brought_to
brought y s i zero b h f = as_is b
brought y s i (suc m) b h f =
    let long : step_bytes * (i + m + 2) ≤ length b = omega arith in
    let same : i + m + 1 ≡ i + suc m = omega arith in
    let here : Independent y (state_after y s b (i + m)) (step_at b (i + m)) (step_at b (i + m + 1)) = subst (λ (n : ℕ). Independent y (state_after y s b (i + m)) (step_at b (i + m)) (step_at b n)) (sym same) (f (i + m) (omega arith) (omega arith)) in
    let b' : List ℕ = exchanged_at (step_bytes * (i + m)) b in
    let short : length b' ≡ length b = length_exchanged (step_bytes * (i + m)) b in
    exchange (i + m) (brought_to i m) b (omega arith) here
    (brought y s i m b' (omega arith) (λ j l u.
    let e : state_after y s b j ≡ state_after y s b' j = sym (state-before b (i + m) long y s j (omega arith)) in
    let p : step_at b j ≡ step_at b' j = sym (step-before b (i + m) long j u) in
    let q : step_at b (i + suc m) ≡ step_at b' (i + m) = ap (step_at b) (sym same) ∙ sym (step-here b (i + m) long) in
    subst (λ (v : Step). Independent y (state_after y s b' j) (step_at b' j) v) q
    (subst (λ (v : Step). Independent y (state_after y s b' j) v (step_at b (i + suc m))) p
    (subst (λ (v : State). Independent y v (step_at b j) (step_at b (i + suc m))) e (f j l (omega arith))))))

-- the same in a run of any part of any list, on any image
pub run-brought : (y : Layout) (img list : List ℕ) (start end : ℕ) (buffer : List ℕ) (i m : ℕ) → i + m < steps_in (part start (end - start) list)
    → ((j : ℕ) → i ≤ j → j < i + m
    → Independent y (state_after y (unpack y img) (part start (end - start) list) j) (step_at (part start (end - start) list) j) (step_at (part start (end - start) list) (i + m)))
    → RunReordered y img list start end buffer (brought_to i m)
run-brought y img list start end buffer i m h f = run-reordered y img list start end buffer (brought_to i m) (brought y (unpack y img) i m (part start (end - start) list) h f)
