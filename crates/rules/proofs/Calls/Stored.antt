-- Document 01: an image stored and loaded is the same session. Between two calls nothing but the image is kept, so a list may
-- be run in parts, each on the image that the last call left, and nobody sees a difference.
use Prim.Native.Nat.{ℕ, ◌+◌, ◌-◌, ◌*◌, ◌/◌, ◌%◌, ◌≤◌}
use mathlib.Core.Bool.{true, not}
use mathlib.Core.Path.{◌≡◌, refl, sym, ap, ◌∙◌}
use mathlib.Core.List.{List, ◌++◌}
use native.Mathlib.Omega.{arith}
use borrow.Author.Tests.{ltb-false, eqb-true, not-false}
use lib.ListN.{length, length-append}
use Rattle.octets.specs.Bytes.{part, chunks, Octets}
use Rattle.octets.proofs.Put.{part-add, length_part, octets-part}
use Rattle.rules.specs.Layout.{Layout, Fitting, image_bytes}
use Rattle.rules.specs.Step.{step_bytes}
use Rattle.rules.specs.Pack.{pack, unpack}
use Rattle.rules.specs.Form.{well_formed}
use Rattle.rules.specs.Internal.Well.{WellFormed}
use Rattle.rules.specs.Calls.{InParts, longest, steps_in, state_after, reply_at, wrong_part, run_answer, ran_image, ran_replies}
use Rattle.octets.proofs.Tests.{pick-zero, or_off}
use Rattle.rules.proofs.Pack.Sizes.{length-pack}
use Rattle.rules.proofs.Pack.RoundTrip.{unpack-pack}
use Rattle.rules.proofs.Form.State.{formed-state}
use Rattle.rules.proofs.Form.Packed.{formed-pack}
use Rattle.rules.proofs.Keep.Run.{after-append, replies-append}
use Rattle.rules.proofs.Keep.Step.{keeps-after}
use Rattle.rules.proofs.Calls.Run.{Ran, part-fine, ran-0}

ran-image : (y : Layout) (img b : List ℕ) → ran_image y img b ≡ pack y (state_after y (unpack y img) b (steps_in b))
unfolding ran_image
ran-image y img b = refl

ran-replies : (y : Layout) (img b : List ℕ) → ran_replies y img b ≡ chunks (steps_in b) (reply_at y (unpack y img) b)
unfolding ran_replies
ran-replies y img b = refl

-- ---- what an accepted run says

pub record Accepted (y : Layout) (img list : List ℕ) (start end : ℕ) (replies : List ℕ) : Type 0 where
  pub long : length img ≡ image_bytes y
  pub forth : start ≤ end
  pub within : end ≤ length list
  pub steps : (end - start) % step_bytes ≡ 0
  pub short : end - start ≤ longest
  pub room : length replies ≡ end - start
  pub formed : well_formed y img ≡ true

pub accepted : (y : Layout) (img list : List ℕ) (start end : ℕ) (replies : List ℕ) → run_answer y img list start end replies ≡ 0 → Accepted y img list start end replies
unfolding run_answer wrong_part
accepted y img list start end replies e =
    let a = pick-zero _ 16 _ (omega arith) e in
    let b = pick-zero _ 17 _ (omega arith) a.1 in
    let c = pick-zero _ 18 _ (omega arith) b.1 in
    let d = pick-zero _ 19 _ (omega arith) c.1 in
    let p = or_off _ _ b.0 in
    let q = or_off _ _ p.1 in
    let r = or_off _ _ q.1 in
    record {
      long = eqb-true _ _ (not-false _ a.0);
      forth = ltb-false _ _ p.0;
      within = ltb-false _ _ q.0;
      steps = eqb-true _ _ (not-false _ r.0);
      short = ltb-false _ _ r.1;
      room = eqb-true _ _ (not-false _ c.0);
      formed = not-false _ d.0;
    }

-- such a run leaves the image after its steps, and replies to each
module _ {y : Layout} {img list : List ℕ} {start end : ℕ} {replies : List ℕ} (a : Accepted y img list start end replies) where
  ran : Ran y img list start end replies 0 (ran_image y img (part start (end - start) list)) (ran_replies y img (part start (end - start) list))
  ran = ran-0 y img list start end replies a.long (part-fine list start end a.forth a.within a.steps a.short) a.room _ _ (ap not a.formed) refl refl

-- ---- i steps and then j, from a well-formed image

module _ {y : Layout} (z : Fitting y) (img b c : List ℕ) (i j : ℕ) (w : WellFormed y (unpack y img)) (o : Octets b) (few : length b ≡ step_bytes * i) (more : length c ≡ step_bytes * j) where
  well : WellFormed y (state_after y (unpack y img) b i)
  well = keeps-after z w b o i

  count-first : steps_in b ≡ i
  count-first = omega arith

  count-second : steps_in c ≡ j
  count-second = omega arith

  count-all : steps_in (b ++ c) ≡ i + j
  count-all = rw length-append (omega arith)

  left : ran_image y img b ≡ pack y (state_after y (unpack y img) b i)
  unfolding ran_image
  left = ap (λ (n : ℕ). pack y (state_after y (unpack y img) b n)) count-first

  says : unpack y (ran_image y img b) ≡ state_after y (unpack y img) b i
  says = ap (unpack y) left ∙ unpack-pack y (state_after y (unpack y img) b i) well.packable

  left-long : length (ran_image y img b) ≡ image_bytes y
  left-long = rw left (length-pack y (state_after y (unpack y img) b i))

  left-formed : well_formed y (ran_image y img b) ≡ true
  left-formed = rw left (formed-pack y (state_after y (unpack y img) b i) well)

  image-parts : ran_image y (ran_image y img b) c ≡ ran_image y img (b ++ c)
  image-parts =
      ran-image y (ran_image y img b) c
      ∙ rw (says, count-second, ← after-append b c i few y (unpack y img) j, ← count-all)
      (sym (ran-image y img (b ++ c)))

  replies-parts : ran_replies y img b ++ ran_replies y (ran_image y img b) c ≡ ran_replies y img (b ++ c)
  replies-parts =
      rw (ran-replies y img b, ran-replies y (ran_image y img b) c, ran-replies y img (b ++ c), says, count-first, count-second, count-all)
      (sym (replies-append b c i few y (unpack y img) j))

-- ---- calls

-- An accepted run may be split after any of its steps.
module _ {y : Layout} (z : Fitting y) (img list : List ℕ) (start mid end : ℕ) (all first second : List ℕ) where
  pub stored : Octets img → Octets list → start ≤ mid → mid ≤ end → (mid - start) % step_bytes ≡ 0 → length first ≡ mid - start → length second ≡ end - mid
      → run_answer y img list start end all ≡ 0 → InParts y img list start mid end all first second
  stored oi ol low high whole one two e =
      let a = accepted y img list start end all e in
      let b : List ℕ = part start (mid - start) list in
      let c : List ℕ = part mid (end - mid) list in
      let w = formed-state y img a.long oi a.formed in
      let k : (mid - start) + (end - mid) ≡ end - start = omega arith in
      let i : ℕ = (mid - start) / step_bytes in
      let j : ℕ = (end - mid) / step_bytes in
      let few : length b ≡ step_bytes * i = length_part start (mid - start) list (omega (arith, a.within)) ∙ omega arith in
      let more : length c ≡ step_bytes * j = length_part mid (end - mid) list (omega (arith, a.within)) ∙ omega (arith, a.steps) in
      let o : Octets b = octets-part start (mid - start) list ol in
      let q : start + (mid - start) ≡ mid = omega arith in
      let parts : b ++ c ≡ part start (end - start) list = ap (λ (n : ℕ). b ++ part n (end - mid) list) (sym q) ∙ sym (part-add start (mid - start) (end - mid) list) ∙ ap (λ (n : ℕ). part start n list) k in
      let a₁ : Accepted y img list start mid first = record { long = a.long; forth = low; within = omega (arith, a.within); steps = whole; short = omega (arith, a.short); room = one; formed = a.formed } in
      let r = ran a in
      let r₁ = ran a₁ in
      let a₂ : Accepted y (ran_image y img b) list mid end second = record {
        long = left-long z img b c i j w o few more;
        forth = high;
        within = a.within;
        steps = omega (arith, a.steps);
        short = omega (arith, a.short);
        room = two;
        formed = left-formed z img b c i j w o few more;
      } in
      let r₂ = ran a₂ in
      record {
        begun = sym r₁.0;
        resumed = rw (← r₁.1) (sym r₂.0);
        image = rw (← r₁.1, ← r₂.1, ← r.1, ← parts) (image-parts z img b c i j w o few more);
        replies = rw (← r₁.1, ← r₁.2, ← r₂.2, ← r.2, ← parts) (replies-parts z img b c i j w o few more);
      }
