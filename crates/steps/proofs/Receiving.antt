-- A receipt on an image.
use Prim.Native.Nat.{ℕ, ◌-◌, ◌≤◌, ◌<◌}
use mathlib.Core.Bool.{Bool, not}
use mathlib.Core.Path.{◌≡◌, sym, ap, ◌∙◌, subst}
use mathlib.Core.List.{List}
use native.Mathlib.Omega.{arith}
use lib.Dec.{eqb, leb}
use lib.ListN.{length}
use borrow.Author.Tests.{le-leb, lt-leb, eq-eqb, ne_eqb}
use Rattle.octets.specs.Bytes.{pick, ◌and◌}
use Rattle.rules.specs.Layout.{base}
use Rattle.rules.specs.Status.{idle, annihilated}
use Rattle.rules.specs.State.{Transactor, Message, State, transactor_at, message_at, with_transactor, without_message, place_of}
use Rattle.rules.specs.declared.Step.{Step}
use Rattle.rules.specs.declared.Reply.{Reply}
use Rattle.rules.specs.Step.{done, receive}
use Rattle.rules.specs.Rules.{Effect, receive_by, message_unrelated, message_superseded, receiver_superseded, receipt_rolls_back, receipt_unrelated, seen, refusal, answer, apply_receive, apply}
use Rattle.rules.specs.Pack.{waiting_in, pack, unpack}
use Rattle.rules.specs.Internal.Well.{WellFormed}
use Rattle.rules.specs.Internal.Good.{Good}
use Rattle.transactor.specs.Internal.Effects.{ActsAt, accept_by}
use Rattle.steps.specs.Internal.Stepped.{Stepped, Asked, Counted}
use Rattle.rules.specs.Internal.Guards.{is_last_incarnation, receiver_refusal}
use Rattle.transactor.proofs.Accepting.{kept_at}
use Rattle.rules.proofs.ByKind.Guards.{first_taken, receiver-first}
use Rattle.rules.proofs.ByKind.Refused.{refuses}
use Rattle.steps.proofs.Effects.{Judged, judged-refused, judged-applied, answering, receipt-judged}
use Rattle.rules.proofs.ByKind.Applied.{applies}
use Rattle.steps.proofs.Stepped.{stepped-refused, stepped-applied}
use Rattle.steps.proofs.Counting.{one_fewer, counted-applied}
use Rattle.rules.proofs.Pack.Sizes.{length-pack}
use Rattle.rules.proofs.Pack.Loads.{unpack-waiting}
use Rattle.rules.proofs.Pack.RoundTrip.{waiting-pack, unpack-pack}
use Rattle.rules.proofs.Keep.Accepted.{accepted}
use Rattle.rules.proofs.Keep.Kinds.{well-received}
use Rattle.rules.proofs.Keep.Step.{fitting-base}

-- the text is replied only for outcome 0
module _ (o v text : ℕ) where
  pub text-done : o ≡ done → v ≡ text → v ≡ pick (eqb o done) text 0
  text-done e q = rw (eq-eqb o done e) q

  pub text-none : (o ≡ done → ⊥) → v ≡ 0 → v ≡ pick (eqb o done) text 0
  text-none n q = rw (ne_eqb o done n) q

-- take t falls from its last life by the parcel in place k
abbrev last_rolls : State → ℕ → ℕ → Bool
last_rolls s k t =
    (not (message_superseded base (transactor_at s t) (message_at s k)) and receiver_superseded base (transactor_at s t) (message_at s k))
    and is_last_incarnation base t (transactor_at s t)

-- why take t, being idle, does not receive it
abbrev refusal_for : State → ℕ → ℕ → ℕ
refusal_for s k t = pick (message_unrelated base (transactor_at s t) (message_at s k)) 31 (pick (last_rolls s k t) 28 0)

-- why take t does not receive it
abbrev refusal_to : State → ℕ → ℕ → ℕ
refusal_to s k t = pick (eqb (transactor_at s t).status annihilated) 22 (pick (not (eqb (transactor_at s t).status idle)) 23 (refusal_for s k t))

-- the parcel named stands in place k, or nowhere
module _ (img : List ℕ) (p : Step) (a : Asked receive img p) (k : ℕ) (place : k ≡ place_of (unpack base img) p.message) where
  receive-refusal : refusal base (unpack base img) p
      ≡ pick (leb (length (unpack base img).messages) k) 24 (refusal_to (unpack base img) k (message_at (unpack base img) k).addressee)
  unfolding receipt_rolls_back receipt_unrelated
  receive-refusal = rw place ((refuses base (unpack base img) p a.formed).receive a.kind)

  pub receive-missing : (r : Reply) → waiting_in base img ≤ k → r ≡ answer 24 0 0 0 → Stepped img p r img
  receive-missing r h = stepped-refused img p r a.good 24 (receive-refusal ∙ rw (le-leb (length (unpack base img).messages) k (omega (arith, unpack-waiting base img)))) (λ z. omega arith)

-- the parcel named waits in place k, and is addressed to take t
pub record Found (img : List ℕ) (p : Step) (k t : ℕ) : Type 0 where
  pub asked : Asked receive img p
  pub place : k ≡ place_of (unpack base img) p.message
  pub to : t ≡ (message_at (unpack base img) k).addressee
  pub waits : k < waiting_in base img

-- as the search for its place and its head byte say
pub found-at : {img : List ℕ} {p : Step} {n k t : ℕ} → Asked receive img p → Counted n img → (k ≡ place_of (unpack base img) p.message) × (k < n) → t ≡ (message_at (unpack base img) k).addressee → Found img p k t
found-at a c f e = record { asked = a; place = f.0; to = e; waits = omega (arith, c.is) }

module _ {img : List ℕ} {p : Step} {k t : ℕ} (found : Found img p k t) where
  abbrev s : State
  s = unpack base img

  abbrev x : Transactor
  x = transactor_at s t

  abbrev message : Message
  message = message_at s k

  good : Good img
  good = found.asked.good

  waits : k < length s.messages
  waits = omega (arith, found.waits, unpack-waiting base img)

  found-refusal : refusal base s p ≡ refusal_to s k t
  found-refusal = rw found.to (receive-refusal img p found.asked k found.place ∙ rw (lt-leb (length s.messages) k waits))

  -- 22 or 23
  pub receive-status : (r : Reply) (n : ℕ) → n ≡ receiver_refusal x.status → (n ≡ 0 → ⊥) → r ≡ answer n 0 0 0 → Stepped img p r img
  receive-status r n e h = stepped-refused img p r good n
      (found-refusal ∙ sym (receiver-first x.status (refusal_for s k t)) ∙ first_taken (receiver_refusal x.status) (refusal_for s k t) n e h) h

  abbrev received : Effect
  received = receive_by base t x message

  receive-applies : apply base s p ≡ record { reply = answer received.outcome t p.message received.value; state = without_message (with_transactor s t received.transactor) k }
  unfolding apply_receive
  receive-applies = (applies base s p).receive found.asked.kind ∙ rw (found.to, found.place)

  abbrev taken : Effect
  taken = accept_by base t x message.dependences

  -- the addressee is idle
  module _ (idle : x.status ≡ idle) {o v : ℕ} {after : List ℕ} (acts : ActsAt img t taken o v after) where
    receive-left : refusal base s p ≡ refusal_for s k t
    receive-left = found-refusal ∙ rw idle

    judged : Judged (refusal_for s k t) x received (answering message.value taken)
    judged = receipt-judged base t x message

    -- 31 or 28
    module _ (stays : 16 ≤ o) where
      unchanged : after ≡ img
      unchanged = acts.image ∙ ap (λ (z : Transactor). pack base (with_transactor s t z)) (judged-refused judged (omega (arith, acts.outcome))).1 ∙ sym (kept_at img good t)

      pub receive-refused : (r : Reply) → r ≡ answer o 0 0 0 → Stepped img p r after
      receive-refused r q =
          rw unchanged (stepped-refused img p r good o (receive-left ∙ (judged-refused judged (omega (arith, acts.outcome))).0 ∙ sym acts.outcome) (λ z. omega arith) q)

      pub refused-counted : {n : ℕ} → Counted n img → Counted n after
      refused-counted {n} = subst (Counted n) (sym unchanged)

    module _ (goes : o < 16) where
      small : taken.outcome < 16
      small = omega (arith, acts.outcome)

      accepts : refusal base s p ≡ 0
      accepts = receive-left ∙ (judged-applied judged small).0

      same : answering message.value taken ≡ received
      same = (judged-applied judged small).1

      abbrev changed : State
      changed = with_transactor s t taken.transactor

      well-changed : WellFormed base changed
      unfolding refusal
      well-changed =
          let e : taken.transactor ≡ received.transactor = ap (λ (e : Effect). e.transactor) same in
          rw (e, found.to, found.place) (well-received fitting-base good.well found.asked.step (accepted base (seen base s) p accepts) (eq-eqb p.kind receive found.asked.kind))

      there : unpack base after ≡ changed
      there = ap (unpack base) acts.image ∙ unpack-pack base changed well-changed.packable

      pub receive-good : Good after
      receive-good = record {
        long = ap length acts.image ∙ length-pack base changed;
        back = ap (pack base) there ∙ sym acts.image;
        well = rw there well-changed;
      }

      pub receive-waiting : waiting_in base after ≡ waiting_in base img
      unfolding with_transactor
      receive-waiting = ap (waiting_in base) acts.image ∙ waiting-pack base changed well-changed.packable ∙ unpack-waiting base img

      pub receive-done : (end : List ℕ) (value : ℕ) → value ≡ pick (eqb o done) message.value 0 → end ≡ pack base (without_message (unpack base after) k)
          → Stepped img p (answer o t p.message value) end
      receive-done end value q i = stepped-applied img p (answer o t p.message value) end _ accepts receive-applies
          (rw (← same, ← acts.outcome) (ap (λ (n : ℕ). answer o t p.message n) q))
          (i ∙ rw (there, ← same))

      pub receive-counted : (n : ℕ) (end : List ℕ) → Counted n img → end ≡ pack base (without_message (unpack base after) k) → Counted (n - 1) end
      unfolding with_transactor
      receive-counted n end c i = counted-applied img p end _ good found.asked.step accepts receive-applies (i ∙ rw (there, ← same)) (n - 1)
          (omega (arith, c.is, unpack-waiting base img, one_fewer (with_transactor s t received.transactor) k waits))
