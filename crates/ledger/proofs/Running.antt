-- Running a list: one step after the other.
use Prim.Native.Nat.{ℕ, ◌+◌, ◌*◌, ◌/◌, ◌≤◌}
use mathlib.Core.Path.{◌≡◌, sym, ap, ◌∙◌}
use mathlib.Core.List.{List}
use native.Mathlib.Numerals.{add-one}
use native.Mathlib.Omega.{arith}
use lib.ListN.{length}
use Rattle.octets.specs.Bytes.{put, part, chunks, Octets}
use Rattle.octets.proofs.Put.{put_whole, octets-part}
use Rattle.octets.proofs.Chunks.{length-chunks, put-more}
use Rattle.rules.specs.Layout.{base}
use Rattle.rules.specs.State.{State}
use Rattle.rules.specs.declared.Step.{Step}
use Rattle.rules.specs.declared.Reply.{Reply}
use Rattle.rules.specs.Step.{step_bytes, unpack_step, step_at, pack_reply}
use Rattle.rules.specs.Rules.{step_of}
use Rattle.rules.specs.Pack.{pack, unpack}
use Rattle.rules.specs.Internal.Well.{StepOk, WellFormed}
use Rattle.rules.specs.Calls.{state_after, reply_at, steps_in, ran_image, ran_replies}
use Rattle.rules.specs.Internal.Good.{Good}
use Rattle.steps.specs.Internal.Stepped.{Stepped}
use Rattle.rules.proofs.Pack.RoundTrip.{unpack-pack}
use Rattle.rules.proofs.Keep.Run.{step_ok-unpack}
use Rattle.rules.proofs.Keep.Step.{keeps-after, fitting-base}
use Rattle.rules.proofs.Good.{good-pack}
use Rattle.rules.proofs.Replies.{length-pack_reply}

-- ---- one step after the other

pub step_fits : (b : List ℕ) (i : ℕ) (p : Step) → Octets b → p ≡ unpack_step (part (step_bytes * i) step_bytes b) → StepOk p
step_fits b i p o e = rw e (step_ok-unpack (part (step_bytes * i) step_bytes b) (octets-part (step_bytes * i) step_bytes b o))

-- the list b is run from the state of img
module _ (img b : List ℕ) (good : Good img) where
  abbrev after : ℕ → State
  after = state_after base (unpack base img) b

  abbrev replied : ℕ → List ℕ
  replied = reply_at base (unpack base img) b

  pub run_none : img ≡ pack base (state_after base (unpack base img) b 0)
  unfolding state_after
  run_none = sym good.back

  after_more : (i : ℕ) → after (i + 1) ≡ (step_of base (after i) (step_at b i)).state
  unfolding state_after
  after_more i = ap after (add-one i)

  pub run-all : (i : ℕ) (l : List ℕ) → l ≡ pack base (state_after base (unpack base img) b i) → i ≡ steps_in b → l ≡ ran_image base img b
  unfolding ran_image
  run-all i l e h = e ∙ ap (λ (n : ℕ). pack base (after n)) h

  wide : (i : ℕ) → length (replied i) ≡ step_bytes
  unfolding reply_at
  wide i = length-pack_reply (step_of base (after i) (step_at b i)).reply

  pub replies-all : (i : ℕ) (rs rs' : List ℕ) → rs' ≡ put 0 (chunks i (reply_at base (unpack base img) b)) rs → i ≡ steps_in b
      → length rs ≡ length b → step_bytes * (length b / step_bytes) ≡ length b → rs' ≡ ran_replies base img b
  unfolding ran_replies
  replies-all i rs rs' e h same whole =
      let n : length (chunks (steps_in b) replied) ≡ step_bytes * steps_in b = length-chunks step_bytes replied wide (steps_in b) in
      e ∙ ap (λ (k : ℕ). put 0 (chunks k replied) rs) h ∙ put_whole (chunks (steps_in b) replied) rs (omega arith)

  -- l is the image after i steps
  module _ (o : Octets b) (i : ℕ) (l : List ℕ) (e : l ≡ pack base (state_after base (unpack base img) b i)) where
    well : WellFormed base (after i)
    well = keeps-after fitting-base good.well b o i

    pub run-good : Good l
    run-good = rw e (good-pack (after i) well)

    says : unpack base l ≡ after i
    says = ap (unpack base) e ∙ unpack-pack base (after i) well.packable

    -- and l' after one more, p, with the reply r
    module _ (p : Step) (r : Reply) (l' : List ℕ) (q : p ≡ unpack_step (part (step_bytes * i) step_bytes b)) (s : Stepped l p r l') where
      pub run_more : l' ≡ pack base (state_after base (unpack base img) b (i + 1))
      unfolding step_at
      run_more = s.image ∙ rw (says, q, after_more i)

      pub replies-more : (rs rs' rs'' : List ℕ) → rs' ≡ put 0 (chunks i (reply_at base (unpack base img) b)) rs → rs'' ≡ put (step_bytes * i) (pack_reply r) rs'
          → step_bytes * i + step_bytes ≤ length rs → rs'' ≡ put 0 (chunks (i + 1) (reply_at base (unpack base img) b)) rs
      unfolding reply_at step_at
      replies-more rs rs' rs'' f g h =
          let t : pack_reply r ≡ replied i = ap pack_reply (s.reply ∙ rw (says, q)) in
          let z : step_bytes * i ≡ 0 + step_bytes * i = omega arith in
          put-more 0 step_bytes replied wide i rs rs' rs'' f (g ∙ ap (λ (k : ℕ). put k (pack_reply r) rs') z ∙ ap (λ (x : List ℕ). put (0 + step_bytes * i) x rs') t) (omega arith)
