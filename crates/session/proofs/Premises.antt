-- What theorems ask for is no more than their words say, and what an answer means leaves no second answer: laws that say when a premise holds
-- and that a meaning has one answer. An edit of a definition that makes a theorem say less, with its proof still passing, is refused here.
use Prim.Native.Nat.{ℕ, ◌<◌, ◌-◌, ◌+◌}
use mathlib.Core.Bool.{Bool, true, false}
use mathlib.Core.Path.{◌≡◌, refl, ap, sym, ◌∙◌, subst}
use mathlib.Core.List.{List}
use mathlib.Core.Logic.{◌⊎◌, inl, inr, ⊎_elim, ◌↔◌}
use mathlib.Core.Option.{Option, none, some}
use native.Mathlib.Omega.{arith}
use lib.ListN.{length, get_or}
use lib.Dec.{eqb, ltb, leb}
use borrow.Author.Tests.{eqb-true, ltb-true, leb-true}
use Rattle.octets.specs.Bytes.{part}
use Rattle.octets.specs.Numbers.{bound}
use Rattle.octets.proofs.Tests.{or-to}
use Rattle.octets.proofs.Zero.{both}
use Rattle.rules.specs.Layout.{Layout, Limits, last_number}
use Rattle.rules.specs.State.{State}
use Rattle.rules.specs.Step.{step_at, sign, done, fallen_back, vanished}
use Rattle.rules.specs.Refusals.{named}
use Rattle.rules.specs.Rules.{step_of}
use Rattle.rules.specs.Pack.{unpack}
use Rattle.rules.specs.Calls.{state_after, steps_in, begin_answer}
use Rattle.rules.specs.Plan.{letters, letters_fit}
use Rattle.rules.proofs.Calls.Begin.{begin-accepted}
use Rattle.rules.proofs.Groups.Counting.{many-same}
use Rattle.session.specs.Provenance.{Provenance}
use Rattle.session.specs.Fed.{Call, begin, run, offer, show}
use Rattle.session.specs.Trace.{Trace, opened, called, calls_of, Started, first, later}
use Rattle.session.specs.Point.{outcome_in}
use Rattle.session.specs.Waiting.{Waits, Leaves}
use Rattle.session.specs.Withdrawal.{RolledBackIn, rolled-back, annihilated-in}
use Rattle.session.specs.Meanings.{OfferMeans, no-message, lowest, SmallestMeans, no-group, smallest, CountMeans}
use Rattle.session.specs.Attainable.{LettersFit, none_needed, room}

-- ---- room for letters (specs/Attainable): there is room exactly where the plan finds it

pub letters-fit : (y : Layout) (s : State) (g : ℕ) → letters_fit y s g ≡ true → LettersFit y s g
unfolding letters_fit
letters-fit y s g e = ⊎_elim
    (λ (a : eqb (letters y s g) 0 ≡ true). none_needed (eqb-true (letters y s g) 0 a))
    (λ (a : _). let b = both (ltb (length s.messages) s.limits.messages) (leb (s.next + letters y s g) last_number) a in
    room (ltb-true (length s.messages) s.limits.messages b.0) (leb-true (s.next + letters y s g) last_number b.1))
    (or-to (eqb (letters y s g) 0) _ e)

-- ---- a reply that says 3 or 4 is of a take that fell (specs/Withdrawal)

pub rolled-in : (reply : List ℕ) → (outcome_in reply ≡ fallen_back) ⊎ (outcome_in reply ≡ vanished) → RolledBackIn reply (get_or reply 1 0)
rolled-in reply (inl e) = rolled-back e refl
rolled-in reply (inr e) = annihilated-in e refl

-- ---- meanings have one answer (specs/Meanings)

module _ (b : Provenance) where
  pub offer-means-one : (t : ℕ) {a x : Option ℕ} → OfferMeans b t a → OfferMeans b t x → a ≡ x
  offer-means-one t (no-message e) (no-message f) = refl
  offer-means-one t (no-message e) (lowest w l) = absurd (e _ w)
  offer-means-one t (lowest w l) (no-message f) = absurd (f _ w)
  offer-means-one t (lowest {n} w l) (lowest {n = m} v k) = ap some (omega (arith, l m v, k n w))

  pub smallest-means-one : (t : ℕ) {v w : ℕ} → SmallestMeans b t (some v) → SmallestMeans b t (some w) → (u : ℕ) → named v u ≡ true ↔ named w u ≡ true
  smallest-means-one t (smallest {v} h s l) (smallest {v = w} k r m) u = (l w k r u, m v h s u)

  pub smallest-or-none : (t : ℕ) {v : ℕ} → SmallestMeans b t (some v) → SmallestMeans b t none → ⊥
  smallest-or-none t (smallest {v} h s l) (no-group e) = e v h s

  pub count-means-one : (size : ℕ) {n m : ℕ} → CountMeans b size n → CountMeans b size m → n ≡ m
  count-means-one size c d = c.many ∙ many-same c.ready d.ready (bound 2) (λ v h. same (c.ready v) (d.ready v)
      (λ (e : c.ready v ≡ true). (d.exactly v h).1 ((c.exactly v h).0 e)) (λ (e : d.ready v ≡ true). (c.exactly v h).1 ((d.exactly v h).0 e))) ∙ sym d.many
    where
      same : (p q : Bool) → (p ≡ true → q ≡ true) → (q ≡ true → p ≡ true) → p ≡ q
      same true q f g = sym (f refl)
      same false true f g = g refl
      same false false f g = refl

-- ---- calls during which a ready volume waits (specs/Waiting): whatever is no accepted begin and no accepted run with a signing in it

-- none of the steps of a run is a signing; of any other call nothing
abbrev Unsigned : Call → Type 0
Unsigned (begin m) = Unit {0}
Unsigned (run list o start end lent) = (k : ℕ) → k < steps_in (part start (end - start) list) → (step_at (part start (end - start) list) k).kind ≡ sign → ⊥
Unsigned (offer t) = Unit {0}
Unsigned (show n) = Unit {0}

pub waits-unsigned : (y : Layout) (img : List ℕ) (c : Call) → Unsigned c → ((m : Limits) → c ≡ begin m → begin_answer y m img ≡ 0 → ⊥) → Waits y img c
waits-unsigned y img c u g = record {
  goes_on = g;
  uncheckpointed = λ list o start end lent e a k h i s. subst Unsigned e u k i s;
}

-- ---- calls that do not sign take t (specs/Waiting): whatever is no accepted begin and no accepted run by which t is signed

-- no step of a run on the image img is a signing that names take t and replies 0; of any other call nothing
abbrev Untouched : Layout → List ℕ → ℕ → Call → Type 0
Untouched y img t (begin m) = Unit {0}
Untouched y img t (run list o start end lent) =
    (k : ℕ) → k < steps_in (part start (end - start) list) → (step_at (part start (end - start) list) k).kind ≡ sign → named (step_at (part start (end - start) list) k).message t ≡ true
    → (step_of y (state_after y (unpack y img) (part start (end - start) list) k) (step_at (part start (end - start) list) k)).reply.outcome ≡ done → ⊥
Untouched y img t (offer u) = Unit {0}
Untouched y img t (show n) = Unit {0}

pub leaves-untouched : (y : Layout) (img : List ℕ) (t : ℕ) (c : Call) → Untouched y img t c → ((m : Limits) → c ≡ begin m → begin_answer y m img ≡ 0 → ⊥) → Leaves y t img c
leaves-untouched y img t c u g = record {
  goes_on = g;
  uncheckpointed = λ list o start end lent e a k h i s. subst (Untouched y img t) e u k i s.kind s.names s.signs;
}

-- ---- the calls of every session start with an accepted begin (specs/Trace): a list of calls that does not has no session

pub trace-started : {y : Layout} {img : List ℕ} (τ : Trace y img) → Started y (calls_of τ)
unfolding calls_of
trace-started {y} (opened m img e) = first (begin-accepted y img m e).0
trace-started (called τ c a p) = later c (trace-started τ)
