-- Two independent steps, each in a run of its own: both orders of the two calls, on any image.
use Prim.Native.Nat.{ℕ, ◌+◌, ◌-◌}
use mathlib.Core.Bool.{Bool, true, false, not}
use mathlib.Core.Path.{◌≡◌, sym, ap, ◌∙◌}
use mathlib.Core.List.{List}
use mathlib.Core.Logic.{⊎_elim}
use native.Mathlib.Omega.{arith}
use borrow.Author.Tests.{eq-eqb, ne_eqb, eqb-true, eqb-false}
use lib.Dec.{eqb}
use lib.ListN.{length}
use Rattle.octets.specs.Bytes.{pick, part, chunks, Octets}
use Rattle.octets.proofs.Put.{length_part, part-whole, octets-part}
use Rattle.octets.proofs.Tests.{true-or-false}
use Rattle.rules.specs.Layout.{Layout, Fitting, image_bytes}
use Rattle.rules.specs.State.{State}
use Rattle.rules.specs.Step.{Step, step_bytes, unpack_step, step_at, pack_reply}
use Rattle.rules.specs.Rules.{step_of}
use Rattle.rules.specs.Pack.{pack, unpack}
use Rattle.rules.specs.Form.{well_formed}
use Rattle.rules.specs.Internal.Well.{WellFormed}
use Rattle.rules.specs.Calls.{steps_in, state_after, reply_at, wrong_part, run_answer, ran_image, ran_replies, run_image, run_replies}
use Rattle.rules.specs.Exchange.{EditsApart, Exchanged, CallsExchanged}
use Rattle.rules.specs.Independent.{Independent}
use Rattle.rules.proofs.Pack.Sizes.{length-pack}
use Rattle.rules.proofs.Pack.RoundTrip.{unpack-pack}
use Rattle.rules.proofs.Form.State.{formed-state}
use Rattle.rules.proofs.Form.Packed.{formed-pack}
use Rattle.rules.proofs.Keep.Run.{step_ok-unpack, after-zero, after-suc}
use Rattle.rules.proofs.Keep.Step.{keeps}
use Rattle.rules.proofs.Calls.Stored.{accepted}
use Rattle.rules.proofs.Independent.Runs.{full-unpack}
use Rattle.rules.proofs.Independent.Special.{edits-independent}
use Rattle.rules.proofs.Independent.Steps.{independent-exchanged}

-- what a call of one step is lent besides the image
record Lent : Type 0 where
  list : List ℕ
  start : ℕ
  buffer : List ℕ

abbrev answer_of : Layout → List ℕ → Lent → ℕ
answer_of y img c = run_answer y img c.list c.start (c.start + step_bytes) c.buffer

abbrev image_of : Layout → List ℕ → Lent → List ℕ
image_of y img c = run_image y img c.list c.start (c.start + step_bytes) c.buffer

abbrev reply_of : Layout → List ℕ → Lent → List ℕ
reply_of y img c = run_replies y img c.list c.start (c.start + step_bytes) c.buffer

-- its step
abbrev step_in : Lent → Step
step_in c = unpack_step (part c.start step_bytes c.list)

-- ---- one call

module _ (y : Layout) (img : List ℕ) (c : Lent) where
  abbrev its : List ℕ
  its = part c.start step_bytes c.list

  eight : part c.start (c.start + step_bytes - c.start) c.list ≡ its
  eight = let e : c.start + 8 - c.start ≡ 8 = omega arith in ap (λ (n : ℕ). part c.start n c.list) e

  refused-image : (answer_of y img c ≡ 0 → ⊥) → image_of y img c ≡ img
  unfolding run_image
  refused-image n = rw (ne_eqb (answer_of y img c) 0 n)

  refused-reply : (answer_of y img c ≡ 0 → ⊥) → reply_of y img c ≡ c.buffer
  unfolding run_replies
  refused-reply n = rw (ne_eqb (answer_of y img c) 0 n)

  module _ (e : answer_of y img c ≡ 0) where
    long : length its ≡ step_bytes
    long =
        let a = accepted y img c.list c.start (c.start + step_bytes) c.buffer e in
        length_part c.start step_bytes c.list a.within

    single : steps_in its ≡ 1
    single = omega (arith, long)

    its-step : step_at its 0 ≡ step_in c
    unfolding step_at
    its-step = ap unpack_step (part-whole step_bytes its long)

    one-image : image_of y img c ≡ pack y (step_of y (unpack y img) (step_in c)).state
    unfolding run_image ran_image
    one-image =
        ap (λ (b : Bool). pick b (ran_image y img (part c.start (c.start + step_bytes - c.start) c.list)) img) (eq-eqb (answer_of y img c) 0 e)
        ∙ ap (ran_image y img) eight ∙ ap (λ (n : ℕ). pack y (state_after y (unpack y img) its n)) single
        ∙ ap (pack y) (after-suc y (unpack y img) its 0 ∙ ap (λ (s : State). (step_of y s (step_at its 0)).state) (after-zero y (unpack y img) its) ∙ ap (λ (p : Step). (step_of y (unpack y img) p).state) its-step)

    one-reply : reply_of y img c ≡ pack_reply (step_of y (unpack y img) (step_in c)).reply
    unfolding run_replies ran_replies chunks reply_at
    one-reply =
        ap (λ (b : Bool). pick b (ran_replies y img (part c.start (c.start + step_bytes - c.start) c.list)) c.buffer) (eq-eqb (answer_of y img c) 0 e)
        ∙ ap (ran_replies y img) eight ∙ ap (λ (n : ℕ). chunks n (reply_at y (unpack y img) its)) single
        ∙ ap pack_reply (ap (λ (s : State). (step_of y s (step_at its 0)).reply) (after-zero y (unpack y img) its) ∙ ap (λ (p : Step). (step_of y (unpack y img) p).reply) its-step)

-- an image and one that a call left of it: as long, and as well-formed
record Alike (y : Layout) (a b : List ℕ) : Type 0 where
  long : length b ≡ length a
  formed : well_formed y b ≡ well_formed y a

answer-alike : (y : Layout) (a b : List ℕ) (c : Lent) → Alike y a b → answer_of y b c ≡ answer_of y a c
unfolding run_answer
answer-alike y a b c k =
    let rest : Bool → ℕ = λ f. pick (wrong_part c.list c.start (c.start + step_bytes)) 17 (pick (not (eqb (length c.buffer) (c.start + step_bytes - c.start))) 18 (pick (not f) 19 0)) in
    ap (λ (n : ℕ). pick (not (eqb n (image_bytes y))) 16 (rest (well_formed y b))) k.long ∙ ap (λ (f : Bool). pick (not (eqb (length a) (image_bytes y))) 16 (rest f)) k.formed

module _ (y : Layout) (fit : Fitting y) (img : List ℕ) (o : Octets img) where
  module _ (c : Lent) (b : Octets c.list) where
    well-after : answer_of y img c ≡ 0 → WellFormed y (step_of y (unpack y img) (step_in c)).state
    well-after e =
        let a = accepted y img c.list c.start (c.start + step_bytes) c.buffer e in
        keeps fit (formed-state y img a.long o a.formed) (step_ok-unpack (part c.start step_bytes c.list) (octets-part c.start step_bytes c.list b))

    -- the state after an accepted call
    says-after : answer_of y img c ≡ 0 → unpack y (image_of y img c) ≡ (step_of y (unpack y img) (step_in c)).state
    says-after e = ap (unpack y) (one-image y img c e) ∙ unpack-pack y (step_of y (unpack y img) (step_in c)).state (well-after e).packable

    left-alike : Alike y img (image_of y img c)
    left-alike = ⊎_elim
        (λ (e : eqb (answer_of y img c) 0 ≡ true).
        let z : answer_of y img c ≡ 0 = eqb-true (answer_of y img c) 0 e in
        let a = accepted y img c.list c.start (c.start + step_bytes) c.buffer z in
        let s : State = (step_of y (unpack y img) (step_in c)).state in
        record {
          long = ap length (one-image y img c z) ∙ length-pack y s ∙ sym a.long;
          formed = ap (well_formed y) (one-image y img c z) ∙ formed-pack y s (well-after z) ∙ sym a.formed;
        })
        (λ (e : eqb (answer_of y img c) 0 ≡ false).
        let r : image_of y img c ≡ img = refused-image y img c (eqb-false (answer_of y img c) 0 e) in
        record { long = ap length r; formed = ap (well_formed y) r })
        (true-or-false (eqb (answer_of y img c) 0))

  -- ---- two calls

  module _ (c d : Lent) (b : Octets c.list) (k : Octets d.list) where
    -- c after d is answered as c alone, if d's step leaves its step's reply
    same-reply : (step_of y (step_of y (unpack y img) (step_in d)).state (step_in c)).reply ≡ (step_of y (unpack y img) (step_in c)).reply
        → reply_of y (image_of y img d) c ≡ reply_of y img c
    same-reply h = ⊎_elim
        (λ (e : eqb (answer_of y img c) 0 ≡ true).
        let z : answer_of y img c ≡ 0 = eqb-true (answer_of y img c) 0 e in
        ⊎_elim
        (λ (f : eqb (answer_of y img d) 0 ≡ true).
        one-reply y (image_of y img d) c (answer-alike y img (image_of y img d) c (left-alike d k) ∙ z)
        ∙ ap pack_reply (ap (λ (s : State). (step_of y s (step_in c)).reply) (says-after d k (eqb-true (answer_of y img d) 0 f)) ∙ h)
        ∙ sym (one-reply y img c z))
        (λ (f : eqb (answer_of y img d) 0 ≡ false). ap (λ (i : List ℕ). reply_of y i c) (refused-image y img d (eqb-false (answer_of y img d) 0 f)))
        (true-or-false (eqb (answer_of y img d) 0)))
        (λ (e : eqb (answer_of y img c) 0 ≡ false).
        let n : answer_of y img c ≡ 0 → ⊥ = eqb-false (answer_of y img c) 0 e in
        refused-reply y (image_of y img d) c (λ (z : answer_of y (image_of y img d) c ≡ 0). n (sym (answer-alike y img (image_of y img d) c (left-alike d k)) ∙ z))
        ∙ sym (refused-reply y img c n))
        (true-or-false (eqb (answer_of y img c) 0))

    same-image : (step_of y (step_of y (unpack y img) (step_in c)).state (step_in d)).state ≡ (step_of y (step_of y (unpack y img) (step_in d)).state (step_in c)).state
        → image_of y (image_of y img c) d ≡ image_of y (image_of y img d) c
    same-image h = ⊎_elim
        (λ (e : eqb (answer_of y img c) 0 ≡ true).
        let z : answer_of y img c ≡ 0 = eqb-true (answer_of y img c) 0 e in
        ⊎_elim
        (λ (f : eqb (answer_of y img d) 0 ≡ true).
        let x : answer_of y img d ≡ 0 = eqb-true (answer_of y img d) 0 f in
        one-image y (image_of y img c) d (answer-alike y img (image_of y img c) d (left-alike c b) ∙ x)
        ∙ ap (pack y) (ap (λ (s : State). (step_of y s (step_in d)).state) (says-after c b z) ∙ h ∙ sym (ap (λ (s : State). (step_of y s (step_in c)).state) (says-after d k x)))
        ∙ sym (one-image y (image_of y img d) c (answer-alike y img (image_of y img d) c (left-alike d k) ∙ z)))
        (λ (f : eqb (answer_of y img d) 0 ≡ false).
        let n : answer_of y img d ≡ 0 → ⊥ = eqb-false (answer_of y img d) 0 f in
        refused-image y (image_of y img c) d (λ (x : answer_of y (image_of y img c) d ≡ 0). n (sym (answer-alike y img (image_of y img c) d (left-alike c b)) ∙ x))
        ∙ sym (ap (λ (i : List ℕ). image_of y i c) (refused-image y img d n)))
        (true-or-false (eqb (answer_of y img d) 0)))
        (λ (e : eqb (answer_of y img c) 0 ≡ false).
        let n : answer_of y img c ≡ 0 → ⊥ = eqb-false (answer_of y img c) 0 e in
        ap (λ (i : List ℕ). image_of y i d) (refused-image y img c n)
        ∙ sym (refused-image y (image_of y img d) c (λ (x : answer_of y (image_of y img d) c ≡ 0). n (sym (answer-alike y img (image_of y img d) c (left-alike d k)) ∙ x))))
        (true-or-false (eqb (answer_of y img c) 0))

-- Two calls in the place of two steps of one run: any bytes as image and lists, any places in them, any buffers.
pub calls-exchanged : (y : Layout) → Fitting y → (img list : List ℕ) (start : ℕ) (buffer list' : List ℕ) (start' : ℕ) (buffer' : List ℕ)
    → Octets img → Octets list → Octets list'
    → Independent y (unpack y img) (unpack_step (part start step_bytes list)) (unpack_step (part start' step_bytes list'))
    → CallsExchanged y img list start buffer list' start' buffer'
calls-exchanged y fit img list start buffer list' start' buffer' o b k i =
    let c : Lent = record { list = list; start = start; buffer = buffer } in
    let d : Lent = record { list = list'; start = start'; buffer = buffer' } in
    let e : Exchanged y (unpack y img) (step_in c) (step_in d) = independent-exchanged y (unpack y img) (step_in c) (step_in d) (full-unpack y img) i in
    record {
      answer = answer-alike y img (image_of y img d) c (left-alike y fit img o d k);
      reply = same-reply y fit img o c d b k (sym e.first);
      answer' = answer-alike y img (image_of y img c) d (left-alike y fit img o c b);
      reply' = same-reply y fit img o d c k b e.second;
      image = same-image y fit img o c d b k e.state;
    }

-- Document 02, W8, over calls: two edits of different takes, each in a run of its own.
pub edits-calls-exchanged : (y : Layout) → Fitting y → (img list : List ℕ) (start : ℕ) (buffer list' : List ℕ) (start' : ℕ) (buffer' : List ℕ)
    → Octets img → Octets list → Octets list' → EditsApart (unpack_step (part start step_bytes list)) (unpack_step (part start' step_bytes list'))
    → CallsExchanged y img list start buffer list' start' buffer'
edits-calls-exchanged y fit img list start buffer list' start' buffer' o b k e =
    calls-exchanged y fit img list start buffer list' start' buffer' o b k (edits-independent y (unpack y img) (unpack_step (part start step_bytes list)) (unpack_step (part start' step_bytes list')) e)
