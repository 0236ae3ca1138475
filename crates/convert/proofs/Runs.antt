-- W6 of steps: a session carried forward gives the replies that the old one would, as long as the old one gives no 28.
use Prim.Native.Nat.{ℕ, zero, suc, ◌-◌, ◌*◌, ◌≤◌, ◌<◌}
use mathlib.Core.Bool.{Bool, true, false}
use mathlib.Core.Path.{◌≡◌, refl, ap, sym, ◌∙◌}
use mathlib.Core.List.{List}
use native.Mathlib.Omega.{arith}
use lib.Dec.{eqb}
use lib.ListN.{length, get_or}
use native.Mathlib.Nat.{add-zero}
use borrow.Author.Tests.{eq-eqb, eqb-true}
use Rattle.octets.specs.Bytes.{pick, chunks, part, Octets}
use Rattle.octets.specs.Numbers.{bound}
use Rattle.octets.proofs.Tests.{pick-view}
use Rattle.octets.proofs.Chunks.{chunks-same, part-chunks}
use Rattle.octets.proofs.Put.{get_d_part, octets-part}
use Rattle.rules.specs.Layout.{Layout, largest, image_bytes, narrow, base}
use Rattle.rules.specs.State.{State}
use Rattle.rules.specs.Step.{step_bytes, step_at, pack_reply}
use Rattle.rules.specs.Rules.{step_of}
use Rattle.rules.specs.Pack.{pack, unpack}
use Rattle.rules.specs.Form.{well_formed}
use Rattle.rules.specs.Internal.Well.{WellFormed}
use Rattle.rules.specs.Calls.{state_after, reply_at, steps_in, run_answer, ran_image, ran_replies, run_image, run_replies}
use Rattle.rules.proofs.Pack.RoundTrip.{unpack-pack}
use Rattle.rules.proofs.Pack.Sizes.{length-pack, octets-pack}
use Rattle.rules.proofs.Form.Packed.{formed-pack}
use Rattle.rules.proofs.Form.State.{formed-state}
use Rattle.rules.proofs.Keep.Step.{keeps-after, replies-fit, fitting-narrow}
use Rattle.rules.proofs.Replies.{length-pack_reply, first-pack_reply}
use Rattle.convert.specs.Convert.{forward, No28, NoneIs28, Asked, image_after, answer_of, replies_of, Without28}
use Rattle.recast.specs.Internal.Widths.{resized}
use Rattle.convert.proofs.Steps.{same_step}
use Rattle.convert.proofs.Images.{forward-state, forward-formed, length-forward}

-- ---- lists of steps, from any state at all

module _ (y : Layout) (w : ℕ) (stored : Bool) (more : largest y ≤ largest (resized y w stored)) (s : State) (b : List ℕ) where
  module _ (n : ℕ) (q : No28 y s b n) where
    pub same_after : (i : ℕ) → i ≤ n → state_after (resized y w stored) s b i ≡ state_after y s b i
    unfolding state_after
    same_after zero h = refl
    same_after (suc i) h =
        ap (λ r. (step_of (resized y w stored) r (step_at b i)).state) (same_after i (omega arith))
        ∙ ap (λ r. r.state) (same_step y w stored more (state_after y s b i) (step_at b i) (q.none i (omega arith)))

    pub same-reply : (i : ℕ) → i < n → reply_at (resized y w stored) s b i ≡ reply_at y s b i
    unfolding reply_at
    same-reply i h =
        ap (λ r. pack_reply (step_of (resized y w stored) r (step_at b i)).reply) (same_after i (omega arith))
        ∙ ap (λ r. pack_reply r.reply) (same_step y w stored more (state_after y s b i) (step_at b i) (q.none i h))

-- ---- runs on images

more : largest narrow ≤ largest base
unfolding bound
more = omega arith

module _ (img b : List ℕ) (n : length img ≡ image_bytes narrow) (o : Octets img) (e : well_formed narrow img ≡ true) (p : Octets b)
    (q : No28 narrow (unpack narrow img) b (steps_in b)) where
  pub ran-replies : ran_replies base (forward img) b ≡ ran_replies narrow img b
  unfolding ran_replies
  ran-replies =
      ap (λ s. chunks (steps_in b) (reply_at base s b)) (forward-state img n o e)
      ∙ chunks-same (steps_in b) (reply_at base (unpack narrow img) b) (reply_at narrow (unpack narrow img) b)
      (same-reply narrow 2 true more (unpack narrow img) b (steps_in b) q)

  -- stepped and then carried forward is carried forward and then stepped
  pub ran-image : ran_image base (forward img) b ≡ forward (ran_image narrow img b)
  unfolding ran_image forward
  ran-image =
      let s : State = unpack narrow img in
      let f : WellFormed narrow (state_after narrow s b (steps_in b)) = keeps-after fitting-narrow (formed-state narrow img n o e) b p (steps_in b) in
      ap (λ s. pack base (state_after base s b (steps_in b))) (forward-state img n o e)
      ∙ ap (pack base) (same_after narrow 2 true more s b (steps_in b) q (steps_in b) (omega arith))
      ∙ ap (pack base) (sym (unpack-pack narrow (state_after narrow s b (steps_in b)) f.packable))

-- ---- the premise on the bytes of the replies

module _ (img b : List ℕ) (n : length img ≡ image_bytes narrow) (o : Octets img) (e : well_formed narrow img ≡ true) (p : Octets b) where
  first-reply : (i : ℕ) → i < steps_in b → get_or (ran_replies narrow img b) (step_bytes * i) 0 ≡ (step_of narrow (state_after narrow (unpack narrow img) b i) (step_at b i)).reply.outcome
  unfolding ran_replies reply_at
  first-reply i h =
      let s : State = unpack narrow img in
      let f : ℕ → List ℕ = reply_at narrow s b in
      let c : part (step_bytes * i) step_bytes (chunks (steps_in b) f) ≡ f i = part-chunks step_bytes f (λ k. length-pack_reply (step_of narrow (state_after narrow s b k) (step_at b k)).reply) (steps_in b) i h in
      ap (λ (k : ℕ). get_or (chunks (steps_in b) f) k 0) (sym (add-zero (step_bytes * i)))
      ∙ sym (get_d_part (step_bytes * i) step_bytes (chunks (steps_in b) f) 0 (omega arith))
      ∙ ap (λ (x : List ℕ). get_or x 0 0) c
      ∙ first-pack_reply (step_of narrow (state_after narrow s b i) (step_at b i)).reply (replies-fit fitting-narrow (formed-state narrow img n o e) b p i).outcome

  pub no28 : NoneIs28 (ran_replies narrow img b) (steps_in b) → No28 narrow (unpack narrow img) b (steps_in b)
  unfolding NoneIs28
  no28 q = record { none = λ i h z. q i h (first-reply i h ∙ z) }

-- ---- the call: the same answer, the same replies, and the image carried forward

module _ (img list : List ℕ) (start end : ℕ) (replies : List ℕ) (n : length img ≡ image_bytes narrow) (o : Octets img) (e : well_formed narrow img ≡ true) where
  pub run-answer : run_answer base (forward img) list start end replies ≡ run_answer narrow img list start end replies
  unfolding run_answer
  run-answer = rw (
    eq-eqb (length (forward img)) (image_bytes base) (length-forward img),
    eq-eqb (length img) (image_bytes narrow) n,
    forward-formed img n o e,
    e,
  )

  module _ (p : Octets list) (q : run_answer narrow img list start end replies ≡ 0 → NoneIs28 (run_replies narrow img list start end replies) (steps_in (part start (end - start) list))) where
    abbrev b : List ℕ
    b = part start (end - start) list

    ran : (c : Bool) → (c ≡ true → NoneIs28 (pick c (ran_replies narrow img b) replies) (steps_in b)) → pick c (ran_replies base (forward img) b) replies ≡ pick c (ran_replies narrow img b) replies
    ran true z = ran-replies img b n o e (octets-part start (end - start) list p) (no28 img b n o e (octets-part start (end - start) list p) (z refl))
    ran false z = refl

    left : (c : Bool) → (c ≡ true → NoneIs28 (pick c (ran_replies narrow img b) replies) (steps_in b)) → pick c (ran_image base (forward img) b) (forward img) ≡ forward (pick c (ran_image narrow img b) img)
    left true z = ran-image img b n o e (octets-part start (end - start) list p) (no28 img b n o e (octets-part start (end - start) list p) (z refl))
    left false z = refl

    pub run-replies : run_replies base (forward img) list start end replies ≡ run_replies narrow img list start end replies
    unfolding run_replies
    run-replies = rw run-answer (ran (eqb (run_answer narrow img list start end replies) 0) (λ z. q (eqb-true (run_answer narrow img list start end replies) 0 z)))

    pub run-image : run_image base (forward img) list start end replies ≡ forward (run_image narrow img list start end replies)
    unfolding run_image run_replies
    run-image = rw run-answer (left (eqb (run_answer narrow img list start end replies) 0) (λ z. q (eqb-true (run_answer narrow img list start end replies) 0 z)))

-- ---- lists of runs: each gets the image as the last left it

-- a well-formed old image
record Old (img : List ℕ) : Type 0 where
  pub long : length img ≡ image_bytes narrow
  pub octets : Octets img
  pub formed : well_formed narrow img ≡ true

old-run : {img : List ℕ} → Old img → (a : Asked) → Octets a.list → Old (run_image narrow img a.list a.start a.end a.replies)
unfolding run_image ran_image
old-run {img} z a o =
    let b : List ℕ = part a.start (a.end - a.start) a.list in
    let f : WellFormed narrow (state_after narrow (unpack narrow img) b (steps_in b)) =
    keeps-after fitting-narrow (formed-state narrow img z.long z.octets z.formed) b (octets-part a.start (a.end - a.start) a.list o) (steps_in b) in
    pick-view Old (eqb (run_answer narrow img a.list a.start a.end a.replies) 0) _ _
    (λ e. record { long = length-pack narrow _; octets = octets-pack narrow _; formed = formed-pack narrow _ f })
    (λ e. z)

module _ (img : List ℕ) (n : length img ≡ image_bytes narrow) (o : Octets img) (e : well_formed narrow img ≡ true) (r : ℕ → Asked) (k : ℕ) (q : Without28 img r k) where
  old-after : (i : ℕ) → i ≤ k → Old (image_after narrow img r i)
  unfolding image_after
  old-after zero h = record { long = n; octets = o; formed = e }
  old-after (suc i) h = old-run (old-after i (omega arith)) (r i) (q.bytes i (omega arith))

  -- the images stay each other's
  pub runs_image : (i : ℕ) → i ≤ k → image_after base (forward img) r i ≡ forward (image_after narrow img r i)
  unfolding image_after
  runs_image zero h = refl
  runs_image (suc i) h =
      let z : Old (image_after narrow img r i) = old-after i (omega arith) in
      ap (λ (x : List ℕ). run_image base x (r i).list (r i).start (r i).end (r i).replies) (runs_image i (omega arith))
      ∙ run-image (image_after narrow img r i) (r i).list (r i).start (r i).end (r i).replies z.long z.octets z.formed (q.bytes i (omega arith)) (q.none28 i (omega arith))

  pub runs-answers : (i : ℕ) → i < k → answer_of base (forward img) r i ≡ answer_of narrow img r i
  runs-answers i h =
      let z : Old (image_after narrow img r i) = old-after i (omega arith) in
      ap (λ (x : List ℕ). run_answer base x (r i).list (r i).start (r i).end (r i).replies) (runs_image i (omega arith))
      ∙ run-answer (image_after narrow img r i) (r i).list (r i).start (r i).end (r i).replies z.long z.octets z.formed

  pub runs-replies : (i : ℕ) → i < k → replies_of base (forward img) r i ≡ replies_of narrow img r i
  runs-replies i h =
      let z : Old (image_after narrow img r i) = old-after i (omega arith) in
      ap (λ (x : List ℕ). run_replies base x (r i).list (r i).start (r i).end (r i).replies) (runs_image i (omega arith))
      ∙ run-replies (image_after narrow img r i) (r i).list (r i).start (r i).end (r i).replies z.long z.octets z.formed (q.bytes i h) (q.none28 i h)
