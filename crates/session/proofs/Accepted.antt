-- Takes that a step which is not refused acts on or names are live.
use Prim.Native.Nat.{ℕ, ◌/◌, ◌%◌, ◌^◌, ◌≤◌, ◌<◌}
use mathlib.Core.Bool.{true, false, true≢false}
use mathlib.Core.Path.{◌≡◌, refl}
use mathlib.Core.Logic.{inr, ⊎_elim}
use native.Mathlib.Nat.{div-eq_of_lt, pow-le-pow_right}
use native.Mathlib.Omega.{arith}
use lib.Dec.{eqb}
use borrow.Author.Tests.{eqb-true, eq-eqb}
use Rattle.octets.specs.Numbers.{bound}
use Rattle.octets.proofs.Chunks.{sides}
use Rattle.rules.specs.Layout.{Layout}
use Rattle.rules.specs.declared.Step.{Step}
use Rattle.rules.specs.Step.{letter, receive, sign}
use Rattle.rules.specs.Status as number
use Rattle.rules.specs.Refusals.{group_bits, named, acts}
use Rattle.rules.proofs.Keep.Accepted.{Accepted, accepted, transactor-opened, transactor-there, receiver-idle, named-opened, named-there}
use Rattle.session.specs.Provenance.{Status, unused, idle, busy, annihilated, status_number, Live, is-idle, is-busy, Provenance, find}
use Rattle.session.specs.Steps.{provenance_seen, provenance_refusal}
use Rattle.session.proofs.Model.{Ledger}
use Rattle.session.proofs.Tables.{or-of}
use Rattle.session.proofs.Relation.{Rel}

-- ---- volumes

-- a volume of n bits names no take past them
pub named-within : (n g t : ℕ) → g < 2 ^ n → named g t ≡ true → t < n
unfolding named
named-within n g t h k = ⊎_elim (λ i. i) (λ i. absurd (past i)) (sides t n)
  where
    past : n ≤ t → ⊥
    past i =
        let p : 2 ^ n ≤ 2 ^ t = pow-le-pow_right (omega arith) i in
        let q : g / 2 ^ t ≡ 0 = div-eq_of_lt (omega arith) in
        let e : g / 2 ^ t % 2 ≡ 1 = eqb-true (g / 2 ^ t % 2) 1 k in
        omega arith

pub named-below : (g t : ℕ) → g < bound 2 → named g t ≡ true → t < group_bits
unfolding bound
named-below g t h k = named-within group_bits g t h k

-- ---- the book's takes

there-live : (s : Status) → eqb (status_number s) number.annihilated ≡ false → (s ≡ unused → ⊥) → Live s
there-live unused e n = absurd (n refl)
there-live idle e n = is-idle
there-live busy e n = is-busy
there-live annihilated e n = absurd (true≢false e)

idle-live : (s : Status) → status_number s ≡ number.idle → Live s
idle-live unused e = absurd (omega arith)
idle-live idle e = is-idle
idle-live busy e = absurd (omega arith)
idle-live annihilated e = absurd (omega arith)

module _ (l : Ledger) (b : Provenance) (r : Rel l b) (y : Layout) (p : Step) (zero : provenance_refusal y b p ≡ 0) where
  pub provenance-accepted : Accepted y (provenance_seen b) p
  unfolding provenance_refusal
  provenance-accepted = accepted y (provenance_seen b) p zero

  pub acting-live : acts p.kind ≡ true → Live (b.holders p.transactor).status
  unfolding provenance_seen
  acting-live h = there-live (b.holders p.transactor).status (transactor-there provenance-accepted h)
      (r.used p.transactor (transactor-opened provenance-accepted (or-of (eqb p.kind letter) (acts p.kind) (inr h))))

  pub receiving-live : p.kind ≡ receive → Live (b.holders (find p.message b.messages).addressee).status
  unfolding provenance_seen
  receiving-live k = idle-live (b.holders (find p.message b.messages).addressee).status (receiver-idle provenance-accepted (eq-eqb p.kind receive k))

  pub named_live : p.kind ≡ sign → p.message < bound 2 → (t : ℕ) → named p.message t ≡ true → Live (b.holders t).status
  unfolding provenance_seen
  named_live k h t n =
      let s = eq-eqb p.kind sign k in
      let below = named-below p.message t h n in
      there-live (b.holders t).status (named-there provenance-accepted s t below n) (r.used t (named-opened provenance-accepted s t below n))
