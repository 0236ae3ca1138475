-- Each kind of step, not refused, keeps a well-formed state well-formed, and its reply fits.
use Prim.Native.Nat.{ℕ, ◌+◌, ◌≤◌, ◌<◌}
use mathlib.Core.Bool.{true, false}
use mathlib.Core.Path.{◌≡◌, refl, sym, subst}
use native.Mathlib.Omega.{arith}
use lib.ListN.{length, set}
use lib.Seq.{set_comm}
use lib.Dec.{eqb, leb}
use borrow.Author.Tests.{leb-true, leb-false, eqb-true, eqb-false, le-leb, eq-eqb}
use Rattle.octets.specs.Bytes.{◌or◌}
use Rattle.octets.specs.Numbers.{bound}
use Rattle.octets.proofs.Numbers.{bound-pos}
use Rattle.octets.proofs.Zero.{both}
use Rattle.maps.specs.declared.DependenceMap.{DependenceMap}
use Rattle.rules.specs.Layout.{Layout, Fitting, largest, last_number}
use Rattle.rules.specs.Status.{idle, busy, annihilated}
use Rattle.rules.specs.State.{Transactor, State, transactor_at, message_at, own_history, with_transactor, with_opened, place_of}
use Rattle.rules.specs.Step.{Step, Reply, done, not_ready, root, letter, receive, new, send, read, finish, fall, fail, lose, sign}
use Rattle.rules.specs.Refusals.{group_bits, named, acts, sends}
use Rattle.rules.specs.Rules.{Effect, Result, no_dependences, carried, informed_by, receive_by, local_by, group_ready, checkpoint_at, receipt_rolls_back, seen, answer, opening, opened, apply_root, apply_letter, apply_receive, apply_new, apply_send, apply_local, apply_lose, apply_sign, apply}
use Rattle.rules.specs.Internal.Well.{TransactorOk, StepOk, Alive, WellFormed}
use Rattle.octets.proofs.Tests.{pick-view, and-of}
use Rattle.rules.proofs.Keep.Maps.{ok-none, known-none, ok-carried, known_carried, known_more}
use Rattle.rules.proofs.Keep.State.{alive-more, well-with_transactor, well-opened, well-with_message, well-without_message, well-checkpoint_group}
use Rattle.rules.proofs.Keep.Transactor.{TransactorWell, EffectOk, formed-alive, opening-ok, informed-well, checkpoint-ok, local-ok, receive_ok, grown-ok}
use Rattle.rules.proofs.Keep.Accepted.{Accepted, kind-known, message-waits, one-unopened, one_place, one_number, transactor-opened, other-opened, transactor-there, transactor-busy, rolls-alone, receiver-idle, rolls-received, named-opened, named-there, named-room}

-- every field fits its bytes
pub record ReplyOk (r : Reply) : Type 0 where
  pub outcome : r.outcome < 256
  pub transactor : r.transactor < 256
  pub message : r.message < bound 2
  pub value : r.value < bound 4

pub record ResultOk (y : Layout) (r : Result) : Type 0 where
  pub state : WellFormed y r.state
  pub reply : ReplyOk r.reply

pub reply-ok : (r t k v : ℕ) → r < 256 → t < 256 → k < bound 2 → v < bound 4 → ReplyOk (answer r t k v)
reply-ok r t k v a b c d = record { outcome = a; transactor = b; message = c; value = d }

-- a kind that is none of the others
pub lowest : (k : ℕ) → (k ≡ root → ⊥) → (k ≡ letter → ⊥) → (k ≡ receive → ⊥) → (k ≡ new → ⊥) → (k ≡ send → ⊥) → read ≤ k
lowest k a b c d e = omega arith

pub highest : (k : ℕ) → k ≤ sign → (k ≡ lose → ⊥) → (k ≡ sign → ⊥) → k ≤ fail
highest k h a b = omega arith

-- the kinds that act
pub acts-between : (k : ℕ) → new ≤ k → k ≤ fail → acts k ≡ true
acts-between k h g = and-of (leb new k) (leb k fail) (le-leb new k h) (le-leb k fail g)

-- a take other than the next is set before or after the next is opened
opened-set : (s : State) (t : ℕ) (x c : Transactor) → (t ≡ s.opened → ⊥) → with_transactor (opened s c) t x ≡ opened (with_transactor s t x) c
unfolding opened with_opened with_transactor
opened-set s t x c n =
    let e : set (set s.transactors s.opened c) t x ≡ set (set s.transactors t x) s.opened c = sym (set_comm s.transactors t s.opened x c n) in
    λ i. record { limits = s.limits; opened = s.opened + 1; next = s.next; transactors = e i; messages = s.messages }

-- take t grows while the next is opened
well-grown : {y : Layout} {s : State} → Fitting y → WellFormed y s → s.opened < s.limits.transactors → (t : ℕ) {x c : Transactor} → t < s.opened
    → TransactorWell y s.limits.checkpoints (s.opened + 1) t x → TransactorWell y s.limits.checkpoints (s.opened + 1) s.opened c → WellFormed y (opened (with_transactor s t x) c)
unfolding opened with_opened with_transactor
well-grown {y} {s} z w b t {x} {c} h g o =
    let u : WellFormed y (opened s c) = well-opened w z b o.ok o.formed in
    subst (WellFormed y) (opened-set s t x c (λ f. omega arith)) (well-with_transactor u t (omega (arith, w.limits.transactors-high)) g.ok g.formed)

-- the parcel that a receive or a lose names waits
pub place-waits : (y : Layout) (s : State) (p : Step) → Accepted y (seen y s) p → eqb p.kind receive or eqb p.kind lose ≡ true → place_of s p.message < length s.messages
unfolding seen
place-waits y s p a k = leb-false (length s.messages) (place_of s p.message) (message-waits a k)

module _ {y : Layout} {s : State} {p : Step} (z : Fitting y) (w : WellFormed y s) (q : StepOk p) (a : Accepted y (seen y s) p) where
  -- a take that was opened
  inside : (t : ℕ) → t < s.opened → t < y.transactors
  inside t h = omega (arith, w.opened, w.limits.transactors-high)

  ok_at : (t : ℕ) → t < s.opened → TransactorOk y (transactor_at s t)
  ok_at t h = w.packable.transactors t (inside t h)

  alive-at : (t : ℕ) → t < s.opened → eqb (transactor_at s t).status annihilated ≡ false → Alive y s.limits.checkpoints s.opened t (transactor_at s t)
  alive-at t h e = formed-alive (w.transactors t (inside t h)) h e

  small : (t : ℕ) → t < s.opened → t < 256
  small t h = omega (arith, w.packable.opened)

  -- one more fits the width
  next_fits : (n : ℕ) → n < largest y → n + 1 < bound y.width
  next_fits n h = omega arith

  pub keeps-root : eqb p.kind root ≡ true → ResultOk y (apply_root y s p)
  unfolding apply_root seen
  keeps-root k =
      let h : s.opened < s.limits.transactors = one-unopened a (rw k) in
      let b : s.opened < y.transactors = omega (arith, w.limits.transactors-high) in
      let x = opening-ok y s.limits.checkpoints (s.opened + 1) s.opened b (omega arith) p.value (no_dependences y) q.value (ok-none y) (known-none y s.limits.checkpoints (s.opened + 1)) in
      record {
        state = well-opened w z h x.ok x.formed;
        reply = reply-ok done s.opened 0 0 (omega arith) w.packable.opened (bound-pos 2) (bound-pos 4);
      }

  -- a parcel with the next number
  number_fits : sends p.kind ≡ true → s.next + 1 < bound 2
  unfolding seen bound
  number_fits k =
      let h : s.next < bound 2 = w.packable.next in
      let n : s.next ≡ last_number → ⊥ = one_number a k in
      omega arith

  place-fits : sends p.kind ≡ true → length s.messages < s.limits.messages
  unfolding seen
  place-fits k = one_place a k

  pub keeps-letter : eqb p.kind letter ≡ true → ResultOk y (apply_letter y s p)
  unfolding apply_letter seen
  keeps-letter k =
      let h : p.transactor < s.opened = transactor-opened a (rw k) in
      record {
        state = well-with_message w z p.transactor p.value h (place-fits (rw k)) (number_fits (rw k)) q.value (ok-none y) (known-none y s.limits.checkpoints s.opened);
        reply = reply-ok done p.transactor s.next 0 (omega arith) (small p.transactor h) w.packable.next (bound-pos 4);
      }

  -- the acting take is live
  module _ (k : acts p.kind ≡ true) where
    acting : p.transactor < s.opened
    unfolding seen
    acting = transactor-opened a (pick-view (λ c. c ≡ true) (eqb p.kind letter) true (acts p.kind) (λ e. refl) (λ e. k))

    acting-alive : Alive y s.limits.checkpoints s.opened p.transactor (transactor_at s p.transactor)
    unfolding seen
    acting-alive = alive-at p.transactor acting (transactor-there a k)

  pub keeps_send : eqb p.kind send ≡ true → ResultOk y (apply_send y s p)
  unfolding apply_send seen
  keeps_send k =
      let e : p.kind ≡ send = eqb-true p.kind send k in
      let c : acts p.kind ≡ true = rw e in
      let b : sends p.kind ≡ true = rw e in
      let t : ℕ = p.transactor in
      let h : t < s.opened = acting c in
      let v = acting-alive c in
      record {
        state = well-with_message w z p.other p.value (other-opened a k) (place-fits b) (number_fits b) q.value
            (ok-carried y s.limits.checkpoints s.opened t (ok_at t h) (inside t h) v.own) (known_carried y s.limits.checkpoints s.opened t (ok_at t h) (inside t h) v.own h v.state v.creation v.behaviour);
        reply = reply-ok done t s.next 0 (omega arith) (small t h) w.packable.next (bound-pos 4);
      }

  pub keeps_local : acts p.kind ≡ true → read ≤ p.kind → ResultOk y (apply_local y s p)
  unfolding apply_local seen
  keeps_local k r =
      let t : ℕ = p.transactor in
      let x : Transactor = transactor_at s t in
      let h : t < s.opened = acting k in
      let e : EffectOk y s.limits.checkpoints s.opened t (local_by y p.kind t p.value x) = local-ok (inside t h) h (ok_at t h) (acting-alive k) p.kind p.value q.value r
      (λ f. transactor-busy a (rw f))
      (λ f b c. next_fits (own_history t x).incarnation (rolls-alone a (last f) b c)) in
      record {
        state = well-with_transactor w t (inside t h) e.transactor.ok e.transactor.formed;
        reply = reply-ok _ t 0 _ e.outcome (small t h) (bound-pos 2) e.value;
      }
    where
      last : finish < p.kind → eqb p.kind fall or eqb p.kind fail ≡ true
      last f =
          let g : p.kind ≤ fail = leb-true p.kind fail (both (leb new p.kind) (leb p.kind fail) k).1 in
          pick-view (λ c. c ≡ true) (eqb p.kind fall) true (eqb p.kind fail) (λ e. refl) (λ e. let n : p.kind ≡ fall → ⊥ = eqb-false p.kind fall e in eq-eqb p.kind fail (omega arith))

  pub keeps-lose : eqb p.kind lose ≡ true → ResultOk y (apply_lose s p)
  unfolding apply_lose
  keeps-lose k =
      let e : p.kind ≡ lose = eqb-true p.kind lose k in
      record {
        state = well-without_message w (place_of s p.message) (place-waits y s p a (rw e));
        reply = reply-ok done 0 p.message 0 (omega arith) (omega arith) q.message (bound-pos 4);
      }

  -- the addressee after a receipt
  module _ (k : eqb p.kind receive ≡ true) where
    abbrev waits : ℕ
    waits = place_of s p.message

    abbrev receiver : ℕ
    receiver = (message_at s waits).addressee

    abbrev received : Effect
    received = receive_by y receiver (transactor_at s receiver) (message_at s waits)

    receiver-opened : receiver < s.opened
    receiver-opened = w.addressees waits (place-waits y s p a (rw k))

    received-ok : EffectOk y s.limits.checkpoints s.opened receiver received
    unfolding seen receipt_rolls_back
    received-ok =
        let b : waits < length s.messages = place-waits y s p a (rw k) in
        let h : receiver < s.opened = receiver-opened in
        let x : Transactor = transactor_at s receiver in
        let r : x.status ≡ idle = receiver-idle a k in
        let v : Alive y s.limits.checkpoints s.opened receiver x = alive-at receiver h (rw r) in
        receive_ok (inside receiver h) h (ok_at receiver h) v (message_at s waits) (w.packable.messages waits b) (w.known waits b)
        (λ f c. next_fits (own_history receiver x).incarnation (rolls-received a k f c))

    pub well-received : WellFormed y (with_transactor s receiver received.transactor)
    well-received = well-with_transactor w receiver (inside receiver receiver-opened) received-ok.transactor.ok received-ok.transactor.formed

    pub keeps-receive : ResultOk y (apply_receive y s p)
    unfolding apply_receive with_transactor
    keeps-receive = record {
      state = well-without_message well-received waits (place-waits y s p a (rw k));
      reply = reply-ok _ receiver p.message _ received-ok.outcome (small receiver receiver-opened) q.message received-ok.value;
    }

  pub keeps-new : eqb p.kind new ≡ true → ResultOk y (apply_new y s p)
  unfolding apply_new seen
  keeps-new k =
      let e : p.kind ≡ new = eqb-true p.kind new k in
      let c : acts p.kind ≡ true = rw e in
      let n : ℕ = s.opened in
      let free : n < s.limits.transactors = one-unopened a (rw e) in
      let b : n < y.transactors = omega (arith, w.limits.transactors-high) in
      let t : ℕ = p.transactor in
      let x : Transactor = transactor_at s t in
      let h : t < n = acting c in
      let v : Alive y s.limits.checkpoints n t x = acting-alive c in
      let r : x.status ≡ busy = transactor-busy a (rw e) in
      let o : TransactorWell y s.limits.checkpoints (n + 1) n (opening y n p.value (carried y t x)) = opening-ok y s.limits.checkpoints (n + 1) n b (omega arith) p.value (carried y t x) q.value
      (ok-carried y s.limits.checkpoints n t (ok_at t h) (inside t h) v.own) (known_more y s.limits.checkpoints n (carried y t x) (known_carried y s.limits.checkpoints n t (ok_at t h) (inside t h) v.own h v.state v.creation v.behaviour)) in
      let g = grown-ok (inside t h) (omega arith) (ok_at t h) (alive-more y v) r n b (omega arith) in
      record {
        state = well-grown z w free t h g o;
        reply = reply-ok done n 0 0 (omega arith) w.packable.opened (bound-pos 2) (bound-pos 4);
      }

  pub keeps-sign : eqb p.kind sign ≡ true → ResultOk y (apply_sign y s p)
  unfolding apply_sign checkpoint_at seen
  keeps-sign k = pick-view (ResultOk y) (group_ready y s p.message) _ _
      (λ e. record { state = well-checkpoint_group w p.message (λ t b. (each t b).ok) (λ t b. (each t b).formed); reply = reply-ok done 0 0 0 (omega arith) (omega arith) (bound-pos 2) (bound-pos 4) })
      (λ e. record { state = w; reply = reply-ok not_ready 0 0 0 (omega arith) (omega arith) (bound-pos 2) (bound-pos 4) })
    where
      each : (t : ℕ) → t < y.transactors → TransactorWell y s.limits.checkpoints s.opened t (checkpoint_at y s p.message t)
      each t b = pick-view (TransactorWell y s.limits.checkpoints s.opened t) (named p.message t) _ _
          (λ e.
          let c : t < group_bits = omega (arith, z.transactors) in
          let h : t < s.opened = named-opened a k t c e in
          let v : Alive y s.limits.checkpoints s.opened t (transactor_at s t) = alive-at t h (named-there a k t c e) in
          checkpoint-ok b h (ok_at t h) v z w.limits.checkpoints-high (named-room a k t c e))
          (λ e. record { ok = w.packable.transactors t b; formed = w.transactors t b })

  pub keeps-apply : ResultOk y (apply y s p)
  unfolding apply
  keeps-apply =
      pick-view (ResultOk y) (eqb p.kind root) _ _ keeps-root λ e0.
      pick-view (ResultOk y) (eqb p.kind letter) _ _ keeps-letter λ e1.
      pick-view (ResultOk y) (eqb p.kind receive) _ _ keeps-receive λ e2.
      pick-view (ResultOk y) (eqb p.kind new) _ _ keeps-new λ e3.
      pick-view (ResultOk y) (eqb p.kind send) _ _ keeps_send λ e4.
      pick-view (ResultOk y) (eqb p.kind lose) _ _ keeps-lose λ e11.
      pick-view (ResultOk y) (eqb p.kind sign) _ _ keeps-sign λ e12.
      let n : (c : ℕ) → eqb p.kind c ≡ false → p.kind ≡ c → ⊥ = eqb-false p.kind in
      local (lowest p.kind (n root e0) (n letter e1) (n receive e2) (n new e3) (n send e4)) (highest p.kind (kind-known a) (n lose e11) (n sign e12))
    where
      local : read ≤ p.kind → p.kind ≤ fail → ResultOk y (apply_local y s p)
      local h k = keeps_local (rw (le-leb new p.kind (omega arith), le-leb p.kind fail k)) h

-- ---- news alone, of whatever take

pub well-informed : {y : Layout} {s : State} → WellFormed y s → (t : ℕ) → t < y.transactors → (b : DependenceMap)
    → WellFormed y (with_transactor s t (informed_by y t (transactor_at s t) b))
well-informed w t below b =
    let k = informed-well below b (w.packable.transactors t below) (w.transactors t below) in
    well-with_transactor w t below k.0 k.1
