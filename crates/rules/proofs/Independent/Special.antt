-- Steps that are independent: two edits on different takes (document 02, W8), two receipts, a parcel made and one received, in any state; and
-- a signing of a well-formed state and whatever does not see the takes that it names.
use Prim.Native.Nat.{ℕ, ◌<◌}
use mathlib.Core.Bool.{true, false}
use mathlib.Core.Path.{◌≡◌, refl, sym, ◌∙◌, subst}
use mathlib.Core.Logic.{⊎_elim}
use native.Mathlib.Omega.{arith}
use borrow.Author.Tests.{eqb-true}
use lib.Dec.{eqb}
use lib.ListN.{length}
use Rattle.octets.proofs.Tests.{never, or-to}
use Rattle.rules.specs.Layout.{Layout}
use Rattle.rules.specs.State.{State, transactor_at}
use Rattle.rules.specs.Step.{Step, letter, receive, send, write, sign}
use Rattle.rules.specs.Refusals.{named, acts, sends}
use Rattle.rules.specs.Rules.{refusal}
use Rattle.rules.specs.Internal.Well.{WellFormed}
use Rattle.rules.specs.Calls.{WaitsFor}
use Rattle.rules.specs.Exchange.{Edit, EditsApart}
use Rattle.rules.specs.Independent.{Cell, whole, signed, parcel, room, opens, takes_away, Sees, Changes, Unseen, Independent, KeepsList}
use Rattle.rules.proofs.ByKind.Refused.{otherwise}
use Rattle.rules.proofs.Independent.Signed.{signed-kept}
use Rattle.rules.proofs.Independent.Steps.{whole-seen}

-- ---- two edits

-- kinds that open no take, make no parcel and take none away
record Apart (k : ℕ) : Type 0 where
  opening : opens k ≡ false
  making : sends k ≡ false
  taking : takes_away k ≡ false

edit-apart : (p : Step) → Edit p → Apart p.kind
edit-apart p e =
    let o = otherwise p.kind e.from e.upto in
    record { opening = rw (o.root, o.new); making = rw (o.letter, o.send); taking = rw (o.receive, o.lose) }

edit-sees : (s : State) (q : Step) → Edit q → {c : Cell} → Sees s q c → c ≡ whole q.transactor
edit-sees s q e (Sees.acting k) = refl
edit-sees s q e (Sees.opening k) = never (sym k ∙ (edit-apart q e).opening)
edit-sees s q e (Sees.letter-to k) = absurd (omega (arith, k, e.from))
edit-sees s q e (Sees.send-to k) = absurd (omega (arith, k, e.from))
edit-sees s q e (Sees.making k) = never (sym k ∙ (edit-apart q e).making)
edit-sees s q e (Sees.placing k) = never (sym k ∙ (edit-apart q e).making)
edit-sees s q e (Sees.taking k) = never (sym k ∙ (edit-apart q e).taking)
edit-sees s q e (Sees.receiving t k w) = absurd (omega (arith, k, e.from))
edit-sees s q e (Sees.naming t k n) = absurd (omega (arith, k, e.upto))
edit-sees s q e (Sees.resting t u k n h) = absurd (omega (arith, k, e.upto))

edit-changes : (y : Layout) (s : State) (p : Step) → Edit p → {t : ℕ} → Changes y s p (whole t) → p.transactor ≡ t
edit-changes y s p e (Changes.acting k n) = refl
edit-changes y s p e (Changes.opening k) = never (sym k ∙ (edit-apart p e).opening)
edit-changes y s p e (Changes.receiving t k w) = absurd (omega (arith, k, e.from))
edit-changes y s p e (Changes.naming t k r n) = absurd (omega (arith, k, e.upto))

edit-unseen : (y : Layout) (s : State) (p q : Step) → Edit p → Edit q → (p.transactor ≡ q.transactor → ⊥) → Unseen y s p q
edit-unseen y s p q e f apart = record { by = λ z m c k v. apart (edit-changes y s p e (subst (Changes y s p) (edit-sees s q f v) k)) }

-- W8's steps are independent
pub edits-independent : (y : Layout) (s : State) (p q : Step) → EditsApart p q → Independent y s p q
edits-independent y s p q w = record {
  forth = edit-unseen y s p q w.first w.second w.apart;
  back = edit-unseen y s q p w.second w.first (λ g. w.apart (sym g));
}

-- ---- a signing

-- a signing is of none of these kinds
sign-apart : (k : ℕ) → k ≡ sign → Apart k
sign-apart k e = record { opening = rw e; making = rw e; taking = rw e }

sign-not : (p : Step) → p.kind ≡ sign → acts p.kind ≡ false
sign-not p e = rw e

lives-seen : {s : State} {q : Step} {t : ℕ} → Sees s q (signed t) → q.kind ≡ sign
lives-seen (Sees.resting t u k n h) = k

module _ (y : Layout) (s : State) (p q : Step) (w : WellFormed y s) (e : p.kind ≡ sign) (n : q.kind ≡ sign → ⊥) where
  sign-forth : ((t : ℕ) → named p.message t ≡ true → Sees s q (whole t) → ⊥) → {c : Cell} → Changes y s p c → Sees s q c → ⊥
  sign-forth f (Changes.acting k i) v = never (sym k ∙ sign-not p e)
  sign-forth f (Changes.opening k) v = never (sym k ∙ (sign-apart p.kind e).opening)
  sign-forth f (Changes.opened k) v = never (sym k ∙ (sign-apart p.kind e).opening)
  sign-forth f (Changes.making k) v = never (sym k ∙ (sign-apart p.kind e).making)
  sign-forth f (Changes.taking k) v = never (sym k ∙ (sign-apart p.kind e).taking)
  sign-forth f (Changes.freeing k i) v = never (sym k ∙ (sign-apart p.kind e).taking)
  sign-forth f (Changes.receiving t k i) v = absurd (omega (arith, e, k))
  sign-forth f (Changes.naming t k r i) v = f t i v
  sign-forth f (Changes.signing t a d) v = n (lives-seen v)

  lives-changed : (refusal y s q ≡ 0 → q.kind ≡ write → KeepsList y q.transactor (transactor_at s q.transactor)) → {u : ℕ} → Changes y s q (signed u) → ⊥
  lives-changed l (Changes.signing u a d) = d (signed-kept y s q w n l u a)

  sign-back : (refusal y s q ≡ 0 → q.kind ≡ write → KeepsList y q.transactor (transactor_at s q.transactor))
      → ((t : ℕ) → named p.message t ≡ true → Sees s q (whole t) → ⊥) → {c : Cell} → Sees s p c → Changes y s q c → ⊥
  sign-back l f (Sees.acting k) v = never (sym k ∙ sign-not p e)
  sign-back l f (Sees.opening k) v = never (sym k ∙ (sign-apart p.kind e).opening)
  sign-back l f (Sees.letter-to k) v = absurd (omega (arith, e, k))
  sign-back l f (Sees.send-to k) v = absurd (omega (arith, e, k))
  sign-back l f (Sees.making k) v = never (sym k ∙ (sign-apart p.kind e).making)
  sign-back l f (Sees.placing k) v = never (sym k ∙ (sign-apart p.kind e).making)
  sign-back l f (Sees.taking k) v = never (sym k ∙ (sign-apart p.kind e).taking)
  sign-back l f (Sees.receiving t k i) v = absurd (omega (arith, e, k))
  sign-back l f (Sees.naming t k i) v = f t i (whole-seen v)
  sign-back l f (Sees.resting t u k i h) v = lives-changed l v

  -- A signing and a step that is no signing and sees no take that it names. If that step is a write that is not refused, its take must not
  -- take over another list of its own from its behaviour map, which in a session grown from fresh none does.
  pub sign-independent : (refusal y s q ≡ 0 → q.kind ≡ write → KeepsList y q.transactor (transactor_at s q.transactor))
      → ((t : ℕ) → named p.message t ≡ true → Sees s q (whole t) → ⊥) → Independent y s p q
  sign-independent l f = record {
    forth = record { by = λ z m c k v. sign-forth f k v };
    back = record { by = λ z m c k v. sign-back l f v k };
  }

-- ---- receipts

-- a receipt opens no take, makes no parcel, and has no acting take
receive-apart : (k : ℕ) → k ≡ receive → (opens k ≡ false) × (sends k ≡ false) × (acts k ≡ false)
receive-apart k e = (rw e, rw e, rw e)

module _ (s : State) (q : Step) (e : q.kind ≡ receive) where
  receipt-parcel : {n : ℕ} → Sees s q (parcel n) → n ≡ q.message
  receipt-parcel (Sees.making k) = never (sym k ∙ (receive-apart q.kind e).1)
  receipt-parcel (Sees.taking k) = refl

  receipt-whole : {t : ℕ} → Sees s q (whole t) → WaitsFor s t q.message
  receipt-whole (Sees.acting k) = never (sym k ∙ (receive-apart q.kind e).2)
  receipt-whole (Sees.opening k) = never (sym k ∙ (receive-apart q.kind e).0)
  receipt-whole (Sees.receiving t k w) = w
  receipt-whole (Sees.naming t k n) = absurd (omega (arith, e, k))

  receipt-room : Sees s q room → ⊥
  receipt-room (Sees.placing k) = never (sym k ∙ (receive-apart q.kind e).1)

  receipt-lives : {t : ℕ} → Sees s q (signed t) → ⊥
  receipt-lives v = omega (arith, e, lives-seen v)

-- p's changes do not meet a receipt
receipt-unseen : (y : Layout) (s : State) (p q : Step) → p.kind ≡ receive → q.kind ≡ receive → (p.message ≡ q.message → ⊥)
    → ((t : ℕ) → WaitsFor s t p.message → WaitsFor s t q.message → ⊥) → {c : Cell} → Changes y s p c → Sees s q c → ⊥
receipt-unseen y s p q e f n w (Changes.acting k i) v = never (sym k ∙ (receive-apart p.kind e).2)
receipt-unseen y s p q e f n w (Changes.opening k) v = never (sym k ∙ (receive-apart p.kind e).0)
receipt-unseen y s p q e f n w (Changes.opened k) v = never (sym k ∙ (receive-apart p.kind e).0)
receipt-unseen y s p q e f n w (Changes.making k) v = never (sym k ∙ (receive-apart p.kind e).1)
receipt-unseen y s p q e f n w (Changes.taking k) v = n (receipt-parcel s q f v)
receipt-unseen y s p q e f n w (Changes.freeing k i) v = receipt-room s q f v
receipt-unseen y s p q e f n w (Changes.receiving t k i) v = w t i (receipt-whole s q f v)
receipt-unseen y s p q e f n w (Changes.naming t k r i) v = absurd (omega (arith, e, k))
receipt-unseen y s p q e f n w (Changes.signing t a d) v = receipt-lives s q f v

-- two receipts of different parcels by different takes
pub receipts-independent : (y : Layout) (s : State) (p q : Step) → p.kind ≡ receive → q.kind ≡ receive → (p.message ≡ q.message → ⊥)
    → ((t : ℕ) → WaitsFor s t p.message → WaitsFor s t q.message → ⊥) → Independent y s p q
receipts-independent y s p q e f n w = record {
  forth = record { by = λ z m c k v. receipt-unseen y s p q e f n w k v };
  back = record { by = λ z m c k v. receipt-unseen y s q p f e (λ g. n (sym g)) (λ t a b. w t b a) k v };
}

-- ---- a parcel made, and one received by another take than its sender

-- a letter or a send opens no take and takes no parcel away; it is no receipt and no signing
sends-apart : (k : ℕ) → sends k ≡ true → (opens k ≡ false) × (takes_away k ≡ false) × (k ≡ receive → ⊥) × (k ≡ sign → ⊥)
sends-apart k e = ⊎_elim (λ f. go letter (eqb-true k letter f) refl refl (λ g. omega arith) (λ g. omega arith)) (λ f. go send (eqb-true k send f) refl refl (λ g. omega arith) (λ g. omega arith)) (or-to (eqb k letter) (eqb k send) e)
  where
    go : (n : ℕ) → k ≡ n → opens n ≡ false → takes_away n ≡ false → (n ≡ receive → ⊥) → (n ≡ sign → ⊥) → (opens k ≡ false) × (takes_away k ≡ false) × (k ≡ receive → ⊥) × (k ≡ sign → ⊥)
    go n f a b c d = (rw f a, rw f b, (λ g. c (sym f ∙ g)), (λ g. d (sym f ∙ g)))

module _ (y : Layout) (s : State) (p q : Step) (k : sends p.kind ≡ true) (e : q.kind ≡ receive) where
  sent-unseen : (q.message ≡ s.next → ⊥) → {c : Cell} → Changes y s p c → Sees s q c → ⊥
  sent-unseen n (Changes.acting a i) v = i (acting-send a)
    where
      acting-send : acts p.kind ≡ true → p.kind ≡ send
      acting-send a = ⊎_elim (λ f. never (sym a ∙ rw (eqb-true p.kind letter f))) (λ f. eqb-true p.kind send f) (or-to (eqb p.kind letter) (eqb p.kind send) k)
  sent-unseen n (Changes.opening a) v = never (sym a ∙ (sends-apart p.kind k).0)
  sent-unseen n (Changes.opened a) v = never (sym a ∙ (sends-apart p.kind k).0)
  sent-unseen n (Changes.making a) v = n (sym (receipt-parcel s q e v))
  sent-unseen n (Changes.taking a) v = never (sym a ∙ (sends-apart p.kind k).1)
  sent-unseen n (Changes.freeing a i) v = never (sym a ∙ (sends-apart p.kind k).1)
  sent-unseen n (Changes.receiving t a i) v = (sends-apart p.kind k).2 a
  sent-unseen n (Changes.naming t a r i) v = (sends-apart p.kind k).3 a
  sent-unseen n (Changes.signing t a d) v = receipt-lives s q e v

  sent-parcel : {n : ℕ} → Sees s p (parcel n) → n ≡ s.next
  sent-parcel (Sees.making a) = refl
  sent-parcel (Sees.taking a) = never (sym a ∙ (sends-apart p.kind k).1)

  sent-whole : {t : ℕ} → Sees s p (whole t) → (acts p.kind ≡ true) × (t ≡ p.transactor)
  sent-whole (Sees.acting a) = (a, refl)
  sent-whole (Sees.opening a) = never (sym a ∙ (sends-apart p.kind k).0)
  sent-whole (Sees.receiving t a w) = absurd ((sends-apart p.kind k).2 a)
  sent-whole (Sees.naming t a n) = absurd ((sends-apart p.kind k).3 a)

  received-unseen : (q.message ≡ s.next → ⊥) → length s.messages < s.limits.messages → (acts p.kind ≡ true → WaitsFor s p.transactor q.message → ⊥)
      → {c : Cell} → Changes y s q c → Sees s p c → ⊥
  received-unseen n h f (Changes.acting a i) v = never (sym a ∙ (receive-apart q.kind e).2)
  received-unseen n h f (Changes.opening a) v = never (sym a ∙ (receive-apart q.kind e).0)
  received-unseen n h f (Changes.opened a) v = never (sym a ∙ (receive-apart q.kind e).0)
  received-unseen n h f (Changes.making a) v = never (sym a ∙ (receive-apart q.kind e).1)
  received-unseen n h f (Changes.taking a) v = n (sent-parcel v)
  received-unseen n h f (Changes.freeing a i) v = omega arith
  received-unseen n h f (Changes.receiving t a w) v = let r = sent-whole v in f r.0 (subst (λ (u : ℕ). WaitsFor s u q.message) r.1 w)
  received-unseen n h f (Changes.naming t a r i) v = absurd (omega (arith, e, a))
  received-unseen n h f (Changes.signing t a d) v = (sends-apart p.kind k).3 (lives-seen v)

  -- A letter or a send, and the receipt of another parcel than the one made, a place being free; it is not the sender that receives.
  pub sent-independent : (q.message ≡ s.next → ⊥) → length s.messages < s.limits.messages → (acts p.kind ≡ true → WaitsFor s p.transactor q.message → ⊥) → Independent y s p q
  sent-independent n h f = record {
    forth = record { by = λ z m c a v. sent-unseen n a v };
    back = record { by = λ z m c a v. received-unseen n h f a v };
  }
