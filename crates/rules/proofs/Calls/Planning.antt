-- What the call for a plan wrote, run on the image that it was asked about.
use Prim.Native.Nat.{ℕ, zero, suc, ◌+◌, ◌*◌, ◌-◌, ◌%◌, ◌≤◌, ◌<◌}
use mathlib.Core.Bool.{Bool, true, false}
use mathlib.Core.Path.{◌≡◌, refl, sym, ap, ◌∙◌, subst}
use mathlib.Core.List.{List, ◌++◌}
use native.Mathlib.Decide.{ℕ_discrete}
use native.Mathlib.Omega.{arith}
use lib.Dec.{eqb, ltb}
use lib.ListN.{length, get_or, length-append}
use borrow.Author.Tests.{eq-eqb, ne_eqb, eqb-true}
use Rattle.octets.specs.Bytes.{pick, part, chunks, zeros, Octets}
use Rattle.octets.proofs.Put.{part_left, part-whole, get_d_part, octets-append, octets-nil}
use Rattle.octets.proofs.Chunks.{part-chunks, octets-chunks}
use Rattle.octets.proofs.Tests.{pick-view}
use Rattle.rules.specs.Layout.{Layout, base, message_bytes, Fitting}
use Rattle.rules.specs.State.{Message, State, no_message, transactor_at, message_at, live}
use Rattle.rules.specs.Step.{step_bytes, step_at, done, pack_step}
use Rattle.rules.specs.Refusals.{named}
use Rattle.rules.specs.Rules.{step_of}
use Rattle.rules.specs.Pack.{transactor_part, message_part, pack_transactor, pack_message, pack_transactor_at, pack_message_at, pack, unpack}
use Rattle.rules.specs.Calls.{longest, state_after, reply_at, steps_in, run_answer, ran_image, ran_replies, run_image, run_replies, query_refusal}
use Rattle.rules.specs.Groups.{signing}
use Rattle.rules.specs.Plan.{waking, receipt, freezing, to_freeze, to_wake, steps_for, letters_fit, resting_volume, mendable, steps_to_sign, plan_of, plan_bytes, plan_refusal, plan_answer, plan_out, Attains, PlanRuns}
use Rattle.rules.specs.Impediment.{impediment_of}
use Rattle.rules.specs.ReadyGroups.{how_many}
use Rattle.rules.specs.Internal.Well.{WellFormed}
use Rattle.rules.proofs.Replies.{length-pack_reply, first-pack_reply}
use Rattle.rules.proofs.Form.State.{formed-state}
use Rattle.rules.proofs.Pack.RoundTrip.{transactor_part-pack, message_part-pack, unpack-pack, pack-unpack-formed}
use Rattle.rules.proofs.Keep.Step.{fitting-base, keeps-after}
use Rattle.rules.proofs.Calls.Begin.{right-length}
use Rattle.rules.proofs.Calls.Query.{Accepted, query-accepted}
use Rattle.rules.proofs.Calls.Run.{part-fine}
use Rattle.rules.proofs.Groups.Impediments.{asked-live}
use Rattle.rules.proofs.Pack.Steps.{length-pack_step, octets-pack_step}
use Rattle.rules.proofs.Groups.Plans.{some-attains}

-- ---- a plan fits the bytes that are lent for it

steps-short : (s : State) (g c : ℕ) → length (steps_for s g c) ≤ 24
unfolding steps_for
steps-short s g c =
    pick-view (λ (l : List ℕ). length l ≤ 24) (to_freeze s g c) _ _ (λ e.
    pick-view (λ (l : List ℕ). length l ≤ 24) (to_wake s g c) _ _
    (λ f. omega (arith, length-append (pack_step (waking c) ++ pack_step (receipt n)) (pack_step (freezing c)), length-append (pack_step (waking c)) (pack_step (receipt n)), length-pack_step (waking c), length-pack_step (receipt n), length-pack_step (freezing c)))
    (λ f. omega (arith, length-pack_step (freezing c)))) (λ e. omega arith)
  where
    n : ℕ
    n = s.next + how_many c (to_wake s g)

chunks-short : (f : ℕ → List ℕ) → ((c : ℕ) → length (f c) ≤ 24) → (n : ℕ) → length (chunks n f) ≤ 24 * n
unfolding chunks
chunks-short f h zero = omega arith
chunks-short f h (suc n) = omega (arith, length-append (chunks n f) (f n), chunks-short f h n, h n)

pub sign-short : (y : Layout) (s : State) (g : ℕ) → length (steps_to_sign y s g) ≤ plan_bytes y
unfolding steps_to_sign
sign-short y s g = pick-view (λ (l : List ℕ). length l ≤ plan_bytes y) (letters_fit y s g) _ _
    (λ e. omega (arith, length-append (chunks y.transactors (steps_for s g)) (pack_step (signing g)), chunks-short (steps_for s g) (steps-short s g) y.transactors, length-pack_step (signing g)))
    (λ e. omega arith)

pub plan-short : (y : Layout) (s : State) (t : ℕ) → length (plan_of y s t) ≤ plan_bytes y
unfolding plan_of
plan-short y s t = pick-view (λ (l : List ℕ). length l ≤ plan_bytes y) (mendable (impediment_of y s t)) _ _ (λ e. sign-short y s (resting_volume y s t)) (λ e. omega arith)

-- ---- and is made of bytes

steps-octets : (s : State) (g c : ℕ) → Octets (steps_for s g c)
unfolding steps_for
steps-octets s g c =
    pick-view Octets (to_freeze s g c) _ _ (λ e.
    pick-view Octets (to_wake s g c) _ _
    (λ f. octets-append (pack_step (waking c) ++ pack_step (receipt n)) (pack_step (freezing c)) (octets-append (pack_step (waking c)) (pack_step (receipt n)) (octets-pack_step (waking c)) (octets-pack_step (receipt n))) (octets-pack_step (freezing c)))
    (λ f. octets-pack_step (freezing c))) (λ e. octets-nil)
  where
    n : ℕ
    n = s.next + how_many c (to_wake s g)

pub plan-octets : (y : Layout) (s : State) (t : ℕ) → Octets (plan_of y s t)
unfolding plan_of steps_to_sign
plan-octets y s t =
    let g : ℕ = resting_volume y s t in
    pick-view Octets (mendable (impediment_of y s t)) _ _ (λ e. pick-view Octets (letters_fit y s g) _ _
    (λ f. octets-append (chunks y.transactors (steps_for s g)) (pack_step (signing g)) (octets-chunks y.transactors (steps_for s g) (λ c h. steps-octets s g c)) (octets-pack_step (signing g)))
    (λ f. octets-nil)) (λ e. octets-nil)

-- ---- the call's answer

module _ (y : Layout) (img : List ℕ) (t : ℕ) (out : List ℕ) (r : plan_refusal y img t out ≡ 0) where
  pub plan-query : (query_refusal y img t ≡ 0) × (length out ≡ plan_bytes y)
  unfolding plan_refusal
  plan-query = go (ℕ_discrete (query_refusal y img t) 0)
    where
      fits : (c : Bool) → ◌≡◌ {A = ℕ} (pick c 0 18) 0 → c ≡ true
      fits true f = refl
      fits false f = absurd (omega arith)

      go : Dec (query_refusal y img t ≡ 0) → (query_refusal y img t ≡ 0) × (length out ≡ plan_bytes y)
      go (yes e) = (e, eqb-true (length out) (plan_bytes y) (fits (eqb (length out) (plan_bytes y)) (rw (eq-eqb (query_refusal y img t) 0 e) at r)))
      go (no n) = let f : query_refusal y img t ≡ 0 = rw (ne_eqb (query_refusal y img t) 0 n) at r in absurd (n f)

  pub answer-is : plan_answer y img t out ≡ steps_in (plan_of y (unpack y img) t)
  unfolding plan_answer
  answer-is = rw (eq-eqb (plan_refusal y img t out) 0 r)

  out-is : plan_out y img t out ≡ plan_of y (unpack y img) t ++ zeros (plan_bytes y - length (plan_of y (unpack y img) t))
  unfolding plan_out
  out-is = rw (eq-eqb (plan_refusal y img t out) 0 r)

-- the same parcels, packed
packed-same : (y : Layout) (q s : State) (k : ℕ) → q.messages ≡ s.messages → pack_message_at y q k ≡ pack_message_at y s k
unfolding pack_message_at message_at
packed-same y q s k e = ap (λ (ms : List Message). pick (ltb k (length ms)) (pack_message y (get_or ms k no_message)) (zeros (message_bytes y))) e

-- ---- run

module _ {y : Layout} (z : Fitting y) (img : List ℕ) (t : ℕ) (out lent : List ℕ) (o : Octets img) (r : plan_refusal y img t out ≡ 0) (some : 0 < plan_answer y img t out)
    (room : length lent ≡ step_bytes * plan_answer y img t out) where
  abbrev s : State
  s = unpack y img

  abbrev b : List ℕ
  b = plan_of y (unpack y img) t

  abbrev list : List ℕ
  list = plan_out y img t out

  abbrev end : ℕ
  end = step_bytes * plan_answer y img t out

  query : query_refusal y img t ≡ 0
  query = (plan-query y img t out r).0

  accepted : Accepted y img t
  accepted = query-accepted y img t query

  well : WellFormed y (unpack y img)
  well = formed-state y img accepted.long o accepted.formed

  alive : live (transactor_at (unpack y img) t) ≡ true
  alive = asked-live y z.transactors img t o query

  attains : Attains y (unpack y img) t b
  attains = some-attains z well t accepted.below alive (subst (λ (n : ℕ). 0 < n) (answer-is y img t out r) some)

  end_is : end ≡ length b
  end_is = ap (λ (n : ℕ). step_bytes * n) (answer-is y img t out r) ∙ sym attains.whole

  part-is : part 0 end list ≡ b
  part-is = ap (λ (n : ℕ). part 0 n list) end_is ∙ ap (part 0 (length b)) (out-is y img t out r) ∙ part_left 0 (length b) b (zeros (plan_bytes y - length b)) (omega arith) ∙ part-whole (length b) b refl

  part-run : part 0 (end - 0) list ≡ b
  part-run = let e : end - 0 ≡ end = omega arith in ap (λ (n : ℕ). part 0 n list) e ∙ part-is

  within : end ≤ length list
  within = let e : length list ≡ length b + length (zeros (plan_bytes y - length b)) = ap length (out-is y img t out r) ∙ length-append b (zeros (plan_bytes y - length b)) in omega (arith, end_is)

  steps-whole : (end - 0) % step_bytes ≡ 0
  steps-whole = omega arith

  few : end - 0 ≤ longest
  few = omega (arith, end_is, plan-short y s t, z.transactors)

  run-accepted : run_answer y img list 0 end lent ≡ 0
  unfolding run_answer
  run-accepted = rw (right-length y img accepted.long, part-fine list 0 end (omega arith) within steps-whole few, eq-eqb (length lent) (end - 0) (omega (arith, room)), accepted.formed)

  image-is : run_image y img list 0 end lent ≡ pack y (state_after y s b (steps_in b))
  unfolding run_image ran_image
  image-is = rw (eq-eqb (run_answer y img list 0 end lent) 0 run-accepted) (ap (λ (l : List ℕ). pack y (state_after y s l (steps_in l))) part-run)

  replies-are : run_replies y img list 0 end lent ≡ chunks (steps_in b) (reply_at y s b)
  unfolding run_replies ran_replies
  replies-are = rw (eq-eqb (run_answer y img list 0 end lent) 0 run-accepted) (ap (λ (l : List ℕ). chunks (steps_in l) (reply_at y s l)) part-run)

  octets-plan : Octets b
  octets-plan = plan-octets y s t

  well-after : WellFormed y (state_after y s b (steps_in b))
  well-after = keeps-after z well b octets-plan (steps_in b)

  unpacked : unpack y (run_image y img list 0 end lent) ≡ state_after y s b (steps_in b)
  unpacked = ap (unpack y) image-is ∙ unpack-pack y (state_after y s b (steps_in b)) well-after.packable

  back : pack y (unpack y img) ≡ img
  back = pack-unpack-formed y img accepted.long o accepted.formed

  reply-0 : (i : ℕ) → i < plan_answer y img t out → get_or (run_replies y img list 0 end lent) (step_bytes * i) 0 ≡ done
  unfolding reply_at
  reply-0 i h =
      let l : i < steps_in b = subst (λ (n : ℕ). i < n) (answer-is y img t out r) h in
      let e : (step_of y (state_after y s b i) (step_at b i)).reply.outcome ≡ done = attains.replies i l in
      ap (λ (l : List ℕ). get_or l (step_bytes * i) 0) replies-are
      ∙ ap (λ (k : ℕ). get_or (chunks (steps_in b) (reply_at y s b)) k 0) {x = step_bytes * i} {y = step_bytes * i + 0} (omega arith)
      ∙ sym (get_d_part (step_bytes * i) step_bytes (chunks (steps_in b) (reply_at y s b)) 0 (omega arith))
      ∙ ap (λ (l : List ℕ). get_or l 0 0) (part-chunks step_bytes (reply_at y s b) (λ k. length-pack_reply (step_of y (state_after y s b k) (step_at b k)).reply) (steps_in b) i l)
      ∙ first-pack_reply (step_of y (state_after y s b i) (step_at b i)).reply (omega (arith, e)) ∙ e

  same-part : (u : ℕ) → u < y.transactors → named (resting_volume y (unpack y img) t) u ≡ false → transactor_part y (run_image y img list 0 end lent) u ≡ transactor_part y img u
  unfolding pack_transactor_at
  same-part u h n =
      ap (λ (l : List ℕ). transactor_part y l u) image-is ∙ transactor_part-pack y (state_after y s b (steps_in b)) u h ∙ ap (pack_transactor y) (attains.others u n)
      ∙ sym (transactor_part-pack y s u h) ∙ ap (λ (l : List ℕ). transactor_part y l u) back

  same-message : (k : ℕ) → k < y.messages → message_part y (run_image y img list 0 end lent) k ≡ message_part y img k
  same-message k h =
      ap (λ (l : List ℕ). message_part y l k) image-is ∙ message_part-pack y (state_after y s b (steps_in b)) k h ∙ packed-same y (state_after y s b (steps_in b)) s k attains.messages
      ∙ sym (message_part-pack y s k h) ∙ ap (λ (l : List ℕ). message_part y l k) back

  -- What the call wrote, run on the image that it was asked about.
  pub plan-runs : PlanRuns y img t out lent
  plan-runs = record {
    is = part-is;
    attains = attains;
    accepted = run-accepted;
    replies = reply-0;
    values = λ u. ap (λ (q : State). (transactor_at q u).value) unpacked ∙ attains.values u;
    others = same-part;
    messages = same-message;
  }

-- At the ledger's own layout.
pub plan-runs-base : (img : List ℕ) (t : ℕ) (out lent : List ℕ) → Octets img → plan_refusal base img t out ≡ 0 → 0 < plan_answer base img t out → length lent ≡ step_bytes * plan_answer base img t out → PlanRuns base img t out lent
plan-runs-base = plan-runs fitting-base
