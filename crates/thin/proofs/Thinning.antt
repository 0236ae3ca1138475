-- The pass: the run's answer and replies, and the steps that are kept by these.
use Prim.Native.Nat.{ℕ, ◌-◌, ◌*◌, ◌<◌}
use mathlib.Core.Bool.{true, false}
use mathlib.Core.Path.{◌≡◌, sym, ap, ◌∙◌}
use mathlib.Core.List.{List, ◌++◌}
use native.Mathlib.Omega.{arith}
use lib.ListN.{length}
use borrow.Author.Tests.{eq-eqb, ne_eqb}
use Rattle.octets.specs.Bytes.{zeros, Octets}
use Rattle.octets.proofs.Put.{length_part, octets-part}
use Rattle.rules.specs.Layout.{base, image_bytes}
use Rattle.rules.specs.State.{State}
use Rattle.rules.specs.Step.{step_bytes}
use Rattle.rules.specs.Pack.{unpack}
use Rattle.rules.specs.Calls.{steps_in, wrong_part, run_answer, ran_replies, run_replies}
use Rattle.rules.specs.Internal.Well.{WellFormed}
use Rattle.thin.specs.Thin.{chosen, outcome_at, kept_from, short_list, kept_count, thin_refusal, part_of, thin_out, thin_count}
use Rattle.rules.proofs.Form.State.{formed-state}
use Rattle.rules.proofs.Keep.Step.{fitting-base}
use Rattle.rules.proofs.Calls.Run.{ran-16, ran-17, ran-18}
use Rattle.rules.proofs.Calls.Stored.{Accepted, accepted}
use Rattle.thin.proofs.Calls.{untouched, length-short}
use Rattle.thin.proofs.Outcomes.{outcome-byte}
use Rattle.thin.specs.Internal.Gather.{outcome_in, kept_in, Shortened}
use Rattle.thin.proofs.Same.{kept_same, chosen-same, counted_same}

-- an image of another length
pub ran-wrong : (img list : List ℕ) (start end : ℕ) (out : List ℕ) → (length img ≡ image_bytes base → ⊥)
    → (16 ≡ run_answer base img list start end out) × (out ≡ run_replies base img list start end out)
ran-wrong img list start end out n = let r = ran-16 base img list start end out n in (r.0, r.2)

module _ (img list : List ℕ) (start end : ℕ) (out : List ℕ) (long : length img ≡ image_bytes base) where
  -- no part of the list that can be run
  pub ran-no-part : wrong_part list start end ≡ true → (17 ≡ run_answer base img list start end out) × (out ≡ run_replies base img list start end out)
  ran-no-part e = let r = ran-17 base img list start end out long e in (r.0, r.2)

  -- a buffer of another length
  pub ran-no-room : wrong_part list start end ≡ false → (length out ≡ end - start → ⊥)
      → (18 ≡ run_answer base img list start end out) × (out ≡ run_replies base img list start end out)
  ran-no-room e n = let r = ran-18 base img list start end out long e n in (r.0, r.2)

-- as on the image, on the copy
pub ran-copied : {img copy : List ℕ} (list : List ℕ) (start end : ℕ) (out : List ℕ) → copy ≡ img → {r : ℕ} {rs : List ℕ}
    → r ≡ run_answer base copy list start end out → rs ≡ run_replies base copy list start end out
    → (r ≡ run_answer base img list start end out) × (rs ≡ run_replies base img list start end out)
ran-copied list start end out is e f =
    (e ∙ ap (λ (i : List ℕ). run_answer base i list start end out) is, f ∙ ap (λ (i : List ℕ). run_replies base i list start end out) is)

module _ (img list : List ℕ) (start end : ℕ) (out : List ℕ) where
  -- the refusal r, the buffer l and the answer n are right
  abbrev pub Passed : ℕ → List ℕ → ℕ → Type 0
  Passed r l n = (r ≡ thin_refusal base img list start end out) × (l ≡ thin_out base img list start end out) × (n ≡ thin_count base img list start end out)

  -- the run's answer and replies
  module _ {r : ℕ} {rs : List ℕ} (answer : r ≡ run_answer base img list start end out) (replies : rs ≡ run_replies base img list start end out) where
    pub pass-refused : (r ≡ 0 → ⊥) → Passed r rs 0
    unfolding run_replies
    pass-refused n =
        let k : rs ≡ out = replies ∙ rw (ne_eqb (run_answer base img list start end out) 0 (λ e. n (answer ∙ e))) in
        let u = untouched base img list start end out (λ e. n (answer ∙ e)) in
        (answer, k ∙ sym u.0, sym u.1)

    module _ (z : r ≡ 0) (o : Octets img) (ol : Octets list) (roomy : length rs ≡ length out) where
      abbrev b : List ℕ
      b = part_of list start end

      abbrev s : State
      s = unpack base img

      abbrev N : ℕ
      N = steps_in b

      ok : thin_refusal base img list start end out ≡ 0
      ok = sym answer ∙ z

      ac : Accepted base img list start end out
      ac = accepted base img list start end out ok

      well : WellFormed base s
      well = formed-state base img ac.long o ac.formed

      b-long : length b ≡ end - start
      b-long = length_part start (end - start) list (omega (arith, ac.forth, ac.within))

      whole : step_bytes * N ≡ length b
      whole = omega (arith, b-long, ac.steps)

      -- as many replies as steps
      pub pass-steps : (length rs ≡ length (part_of list start end)) × (step_bytes * steps_in (part_of list start end) ≡ length (part_of list start end))
      pass-steps = (roomy ∙ ac.room ∙ sym b-long, whole)

      ran : rs ≡ ran_replies base img b
      unfolding run_replies
      ran = replies ∙ rw (eq-eqb (run_answer base img list start end out) 0 ok)

      outcomes : (i : ℕ) → i < N → outcome_in rs i ≡ outcome_at base s b i
      unfolding outcome_in ran_replies
      outcomes i h = ap (λ (l : List ℕ). outcome_in l i) ran ∙ outcome-byte fitting-base well b (octets-part start (end - start) list ol) N i h

      same : (i : ℕ) → i < N → kept_in b rs i ≡ kept_from base s b i
      same = kept_same b (outcome_in rs) (outcome_at base s b) N outcomes

      module _ {n : ℕ} {l : List ℕ} (g : Shortened b rs l n) where
        count : n ≡ kept_count base s b
        unfolding kept_count
        count = g.count ∙ counted_same (kept_in b rs) (kept_from base s b) N same

        short : chosen (kept_in b rs) N b ≡ short_list base s b
        unfolding short_list
        short = chosen-same (kept_in b rs) (kept_from base s b) N b same

        long : length b - step_bytes * n ≡ length b - length (short_list base s b)
        long = omega (arith, length-short base s b, count)

        pub pass-0 : Passed r l n
        unfolding thin_out thin_count
        pass-0 =
            let z = eq-eqb (thin_refusal base img list start end out) 0 ok in (
              answer,
              g.bytes ∙ ap (λ (x : List ℕ). x ++ zeros (length b - step_bytes * n)) short ∙ ap (λ (k : ℕ). short_list base s b ++ zeros k) long ∙ rw z,
              count ∙ rw z,
            )
