-- Messages made are those received, plus those lost, plus those waiting.
use Prim.Native.Nat.{ℕ, zero, suc, ◌+◌, ◌-◌, ◌*◌, ◌≤◌, ◌<◌}
use mathlib.Core.Bool.{Bool, true, false}
use mathlib.Core.Path.{◌≡◌, refl, ap, sym, ◌∙◌}
use mathlib.Core.List.{List, ◌++◌}
use native.Mathlib.Nat.{add-zero}
use native.Mathlib.Omega.{arith}
use lib.Dec.{eqb}
use lib.ListN.{length, get_or, take, drop, length-append, length-drop, length-map}
use lib.Seq.{length-take-le}
use borrow.Author.Tests.{eqb-true, eqb-false, ne_eqb}
use Rattle.octets.specs.Bytes.{◌or◌, part, chunks, Octets}
use Rattle.octets.proofs.Put.{get_d_part, octets-part}
use Rattle.octets.proofs.Tests.{and-false}
use Rattle.rules.specs.Layout.{Layout, Limits, in_range, base, Fitting}
use Rattle.rules.specs.State.{Transactor, Message, State, own_history, transactor_at, message_at, place_of, with_transactor, with_opened, with_message, without_message}
use Rattle.rules.specs.declared.Step.{Step}
use Rattle.rules.specs.declared.Reply.{Reply}
use Rattle.rules.specs.Step.{step_bytes, step_at, pack_reply, done, dropped, fallen_back, vanished, root, letter, receive, new, send, lose, sign}
use Rattle.rules.specs.Refusals.{sends}
use Rattle.rules.specs.Rules.{Effect, Result, rollback, message_superseded, receiver_superseded, receive_by, group_ready, checkpoint_group, seen, refusal, opened, apply_root, apply_letter, apply_receive, apply_new, apply_send, apply_local, apply_lose, apply_sign, apply, step_of}
use Rattle.rules.specs.Internal.Well.{WellFormed}
use Rattle.rules.specs.Pack.{pack, unpack}
use Rattle.rules.specs.Calls.{begin_answer, begin_image, state_after, reply_at, steps_in, run_answer, ran_image, ran_replies, run_image, run_replies}
use Rattle.rules.proofs.Pack.RoundTrip.{unpack-pack}
use Rattle.rules.proofs.Keep.Step.{keeps-after, replies-fit, fitting-base}
use Rattle.session.specs.Count.{made, received, lost, once, count_steps, count_call, count, waiting}
use Rattle.session.specs.Provenance.{Provenance}
use Rattle.session.specs.Fed.{Call, begin, run}
use Rattle.session.specs.Trace.{Answer, begun, ran, Performed, beginning, running, offering, showing, Trace, called}
use Rattle.session.specs.Trace as trace
use Rattle.session.proofs.Model.{view_message, view}
use Rattle.session.proofs.Relation.{all2-length}
use Rattle.session.proofs.Run.{first-pack_reply, reply-part}
use Rattle.session.proofs.Calls.{Holds, holds-fresh, right-length}
use Rattle.session.proofs.Grown.{begun_fresh, grown}
use Rattle.session.proofs.Tables.{pick-view}
use Rattle.rules.proofs.Keep.Accepted.{Accepted, accepted, refusal-range}
use Rattle.rules.proofs.Keep.Kinds.{place-waits}

-- ---- a step that is not refused

-- parcels waiting before and made are those waiting after, received or lost
pub record Balanced (k : ℕ) (s : State) (r : Result) : Type 0 where
  pub even : length s.messages + once (made k r.reply.outcome) ≡ length r.state.messages + (once (received k r.reply.outcome) + once (lost k r.reply.outcome))

-- a step of a kind that touches no parcel
untouched : (k : ℕ) (s : State) (r : Result) → sends k ≡ false → eqb k receive ≡ false → eqb k lose ≡ false → length r.state.messages ≡ length s.messages → Balanced k s r
unfolding made received lost
untouched k s r e f g n = record { even = rw (e, f, g, n) }

-- one that makes a parcel
sending : (k : ℕ) (s : State) (r : Result) → sends k ≡ true → eqb k receive ≡ false → eqb k lose ≡ false → r.reply.outcome ≡ done
    → length r.state.messages ≡ length s.messages + 1 → Balanced k s r
unfolding made received lost
sending k s r e f g o n = record { even = rw (e, f, g, o, n) (omega arith) }

-- one that uses a parcel up
spending : (k : ℕ) (s : State) (r : Result) → sends k ≡ false → once (received k r.reply.outcome) + once (lost k r.reply.outcome) ≡ 1
    → length r.state.messages + 1 ≡ length s.messages → Balanced k s r
unfolding made
spending k s r e u n = record { even = rw (e, u) (omega arith) }

shorter : (ms : List Message) (k : ℕ) → k < length ms → length (take k ms ++ drop (k + 1) ms) + 1 ≡ length ms
shorter ms k h = rw (length-append, length-take-le k ms (omega arith), length-drop) (omega arith)

-- a receipt has one of the four outcomes
abbrev Received : Effect → Type 0
Received e = eqb e.outcome done or eqb e.outcome dropped or eqb e.outcome fallen_back or eqb e.outcome vanished ≡ true

receipt : (y : Layout) (t : ℕ) (x : Transactor) (q : Message) → Received (receive_by y t x q)
unfolding receive_by rollback
receipt y t x q =
    pick-view Received (message_superseded y x q) _ _ (λ e. refl) λ e0.
    pick-view Received (receiver_superseded y x q) _ _ (λ e. pick-view Received (eqb (own_history t x).count 0) _ _ (λ e. refl) (λ e. refl)) (λ e. refl)

module _ (y : Layout) (s : State) (p : Step) (ok : Accepted y (seen y s) p) where
  receive-balanced : p.kind ≡ receive → Balanced p.kind s (apply_receive y s p)
  unfolding apply_receive without_message with_transactor received lost
  receive-balanced k =
      let q : Message = message_at s (place_of s p.message) in
      let e = receipt y q.addressee (transactor_at s q.addressee) q in
      spending p.kind s (apply_receive y s p) (rw k) (rw (k, e)) (shorter s.messages (place_of s p.message) (place-waits y s p ok (rw k)))

  lose-balanced : p.kind ≡ lose → Balanced p.kind s (apply_lose s p)
  unfolding apply_lose without_message received lost
  lose-balanced k = spending p.kind s (apply_lose s p) (rw k) (rw k) (shorter s.messages (place_of s p.message) (place-waits y s p ok (rw k)))

  apply-balanced : Balanced p.kind s (apply y s p)
  unfolding apply apply_root apply_letter apply_new apply_send apply_sign apply_local opened with_opened with_transactor with_message checkpoint_group
  apply-balanced =
      let k : ℕ = p.kind in
      let P : Result → Type 0 = Balanced k s in
      pick-view P (eqb k root) _ _ (λ e. let i = eqb-true k root e in untouched k s _ (rw i) (rw i) (rw i) refl) λ e0.
      pick-view P (eqb k letter) _ _ (λ e. let i = eqb-true k letter e in sending k s _ (rw i) (rw i) (rw i) refl (simp length-append)) λ e1.
      pick-view P (eqb k receive) _ _ (λ e. receive-balanced (eqb-true k receive e)) λ e2.
      pick-view P (eqb k new) _ _ (λ e. let i = eqb-true k new e in untouched k s _ (rw i) (rw i) (rw i) refl) λ e3.
      pick-view P (eqb k send) _ _ (λ e. let i = eqb-true k send e in sending k s _ (rw i) (rw i) (rw i) refl (simp length-append)) λ e4.
      pick-view P (eqb k lose) _ _ (λ e. lose-balanced (eqb-true k lose e)) λ e5.
      pick-view P (eqb k sign) _ _
      (λ e. pick-view P (group_ready y s p.message) _ _ (λ f. untouched k s _ (rw (e1, e4)) e2 e5 refl) (λ f. untouched k s _ (rw (e1, e4)) e2 e5 refl)) λ e6.
      untouched k s _ (rw (e1, e4)) e2 e5 refl

-- ---- a refused step

-- no test counts a reply above the outcomes
refused-balanced : (k : ℕ) (s : State) (r : Result) → vanished < r.reply.outcome → r.state ≡ s → Balanced k s r
unfolding made received lost
refused-balanced k s r h e =
    let o : ℕ = r.reply.outcome in
    let p : eqb o done ≡ false = ne_eqb o done (omega arith) in
    let q : eqb o dropped ≡ false = ne_eqb o dropped (omega arith) in
    let f : eqb o fallen_back ≡ false = ne_eqb o fallen_back (omega arith) in
    let v : eqb o vanished ≡ false = ne_eqb o vanished (omega arith) in
    record { even = rw (p, q, f, v, and-false (sends k), and-false (eqb k receive), and-false (eqb k lose), e) }

pub step-balanced : (y : Layout) (s : State) (p : Step) → Balanced p.kind s (step_of y s p)
unfolding step_of refusal
step-balanced y s p =
    let n : ℕ = refusal y s p in
    pick-view (Balanced p.kind s) (eqb n 0) _ _
    (λ e. apply-balanced y s p (accepted y (seen y s) p (eqb-true n 0 e)))
    (λ e. refused-balanced p.kind s _ (omega (arith, (refusal-range y (seen y s) p (eqb-false n 0 e)).low)) refl)

-- ---- the steps of a run

module _ {y : Layout} (z : Fitting y) {s : State} (well : WellFormed y s) (steps : List ℕ) (octets : Octets steps) where
  -- the first byte of reply i among the n packed ones
  pub reply-byte : (n i : ℕ) → i < n → get_or (chunks n (reply_at y s steps)) (step_bytes * i) 0 ≡ (step_of y (state_after y s steps i) (step_at steps i)).reply.outcome
  reply-byte n i h =
      let r : Reply = (step_of y (state_after y s steps i) (step_at steps i)).reply in
      let all : List ℕ = chunks n (reply_at y s steps) in
      let a : part (step_bytes * i) step_bytes all ≡ pack_reply r = reply-part y s steps n i h in
      let b : get_or (part (step_bytes * i) step_bytes all) 0 0 ≡ get_or all (step_bytes * i) 0 = rw add-zero at (get_d_part (step_bytes * i) step_bytes all 0 (omega arith)) in
      let c : get_or (pack_reply r) 0 0 ≡ r.outcome = first-pack_reply r (replies-fit z well steps octets i).outcome in
      sym b ∙ ap (λ (b : List ℕ). get_or b 0 0) a ∙ c

  steps-balanced : (n i : ℕ) → i ≤ n → let given = chunks n (reply_at y s steps) in
      length s.messages + count_steps made steps given i ≡ length (state_after y s steps i).messages + (count_steps received steps given i + count_steps lost steps given i)
  unfolding count_steps state_after
  steps-balanced n zero h = refl
  steps-balanced n (suc i) h =
      rw (reply-byte n i (omega arith)) (omega (arith, steps-balanced n i (omega arith), (step-balanced y (state_after y s steps i) (step_at steps i)).even))

-- ---- calls

holds-waiting : {y : Layout} {img : List ℕ} {b : Provenance} → Holds y img b → waiting y img ≡ length b.messages
unfolding waiting view
holds-waiting {y} {img} h = sym (length-map (unpack y img).messages view_message) ∙ all2-length h.rel.messages

waiting-pack : {y : Layout} {s : State} → WellFormed y s → waiting y (pack y s) ≡ length s.messages
unfolding waiting
waiting-pack {y} {s} well = rw (unpack-pack y s well.packable)

module _ {y : Layout} (z : Fitting y) {img : List ℕ} {b : Provenance} (h : Holds y img b) (n k j : ℕ) (before : n ≡ k + j + waiting y img) where
  abbrev Even : Call → Answer → List ℕ → Type 0
  Even c a after = count_call made c a n ≡ count_call received c a k + count_call lost c a j + waiting y after

  run-counted : (list : List ℕ) (o : Octets list) (start end : ℕ) (replies : List ℕ)
      → Even (run list o start end replies) (ran (run_answer y img list start end replies) (run_replies y img list start end replies)) (run_image y img list start end replies)
  unfolding count_call run_replies run_image ran_replies ran_image waiting
  run-counted list o start end replies = go (eqb (run_answer y img list start end replies) 0) refl
    where
      steps : List ℕ
      steps = part start (end - start) list

      octets : Octets steps
      octets = octets-part start (end - start) list o

      go : (t : Bool) → eqb (run_answer y img list start end replies) 0 ≡ t
          → Even (run list o start end replies) (ran (run_answer y img list start end replies) (run_replies y img list start end replies)) (run_image y img list start end replies)
      go true e = rw (e, waiting-pack (keeps-after z h.well steps octets (steps_in steps)))
          (omega (arith, steps-balanced z h.well steps octets (steps_in steps) (steps_in steps) (omega arith)))
      go false e = rw e before

  -- an accepted begin counts from 0, and nothing waits; a refused one leaves all as it is
  begin-counted : (m : Limits) → Even (begin m) (begun (begin_answer y m img)) (begin_image y m img)
  unfolding count_call begin_answer begin_image
  begin-counted m = go (in_range y m) refl
    where
      go : (t : Bool) → in_range y m ≡ t → Even (begin m) (begun (begin_answer y m img)) (begin_image y m img)
      go true e = rw (right-length h, e, holds-waiting (holds-fresh z m e))
      go false e = rw (right-length h, e) before

  call-counted : {c : Call} {a : Answer} {after : List ℕ} → Performed y img c a after → Even c a after
  unfolding count_call
  call-counted (beginning {m} e) = rw (e.0, e.1) (begin-counted m)
  call-counted (running {list} {o} {start} {end} {lent} e) = rw (e.0, e.1, e.2) (run-counted list o start end lent)
  call-counted (offering f) = before
  call-counted (showing f) = before

-- In a session grown from a fresh one, counting only from its last accepted begin, parcels made, counted from the steps, are
-- those received with outcomes 0, 2, 3, 4, plus those lost, plus those waiting.
pub messages-counted : (y : Layout) → Fitting y → {img : List ℕ} (τ : Trace y img)
    → count made τ ≡ count received τ + count lost τ + waiting y img
unfolding count
messages-counted y z (trace.opened m img e) = rw (holds-waiting (begun_fresh z m img e))
messages-counted y z (called τ c a p) = call-counted z (grown z τ).holds (count made τ) (count received τ) (count lost τ) (messages-counted y z τ) p

pub messages-counted-base : {img : List ℕ} (τ : Trace base img) → count made τ ≡ count received τ + count lost τ + waiting base img
messages-counted-base τ = messages-counted base fitting-base τ
