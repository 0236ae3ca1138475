-- A step changes no take that it does not act for: of those that are opened before it all others stay as they were.
use Prim.Native.Nat.{ℕ, ◌≤◌, ◌<◌}
use mathlib.Core.Bool.{Bool, true, false}
use mathlib.Core.Path.{◌≡◌, refl, sym, ap, ◌∙◌, subst}
use mathlib.Core.Logic.{⊎_elim}
use mathlib.Core.Option.{Option, none, some}
use native.Mathlib.Omega.{arith}
use lib.Dec.{eqb}
use lib.ListN.{length}
use borrow.Author.Tests.{eq-eqb, ne_eqb, eqb-true, le-leb}
use Rattle.octets.specs.Bytes.{pick}
use Rattle.octets.proofs.Tests.{pick-view, true-or-false, never}
use Rattle.rules.specs.Layout.{Layout}
use Rattle.rules.specs.State.{Transactor, State, no_transactor, transactor_at}
use Rattle.rules.specs.declared.Step.{Step}
use Rattle.rules.specs.Step.{receive, new, fail, sign}
use Rattle.rules.specs.Refusals.{named, malformed}
use Rattle.rules.specs.Rules.{group_ready, seen, refusal, step_of}
use Rattle.rules.proofs.Keep.Accepted.{accepted as step-accepted}
use Rattle.rules.proofs.Keep.Step.{refused-same}
use Rattle.rules.proofs.ByKind.Refused.{receiver}
use Rattle.rules.proofs.Independent.Lists.{overlay-none, single}
use Rattle.rules.proofs.Independent.Effects.{Delta, Doing, Kind, is-root, is-letter, is-receive, is-new, is-send, is-local, is-lose, is-sign, kind-of, act, doing, applied-doing, present-receive}
use Rattle.actors.specs.Actor.{receiver_of, actor_of, ActsFor, alone, member}

-- a take of which nothing is new
kept : (d : Delta) (s : State) (t : ℕ) → d.takes t ≡ none → transactor_at (act d s) t ≡ transactor_at s t
unfolding act transactor_at
kept d s t e = overlay-none d.takes s.transactors t no_transactor e

-- another one than the single new one
other : (t u : ℕ) (x : Transactor) → (t ≡ u → ⊥) → single u x t ≡ none
other t u x n = ap (λ (b : Bool). pick {A = Option Transactor} b (some x) none) (ne_eqb t u n)

module _ (y : Layout) (s : State) (p : Step) (t : ℕ) (there : t < s.opened) (not-for : ActsFor (actor_of s p) t → ⊥) where
  module _ (formed : malformed p ≡ false) (z : refusal y s p ≡ 0) where
    -- not the acting take
    acting : new ≤ p.kind → p.kind ≤ fail → t ≡ p.transactor → ⊥
    unfolding actor_of
    acting h g e =
        let n2 : p.kind ≡ 2 → ⊥ = λ f. omega arith in
        let n12 : p.kind ≡ 12 → ⊥ = λ f. omega arith in
        not-for (subst (λ (u : ℕ). ActsFor (actor_of s p) u) (sym e) (rw (formed, ne_eqb p.kind 2 n2, ne_eqb p.kind 12 n12, le-leb 3 p.kind h, le-leb p.kind 10 g) (alone p.transactor)))

    -- not the addressee of the parcel that it receives
    receiving : p.kind ≡ receive → t ≡ receiver s p.message → ⊥
    unfolding actor_of receiver_of
    receiving h e =
        not-for (subst (λ (u : ℕ). ActsFor (actor_of s p) u) (sym e) (rw (formed, eq-eqb p.kind 2 h, present-receive y s p formed z h) (alone (receiver s p.message))))

    -- not of the volume that it signs
    signing : p.kind ≡ sign → named p.message t ≡ true → ⊥
    unfolding actor_of
    signing h e =
        let n2 : p.kind ≡ 2 → ⊥ = λ f. omega arith in
        not-for (rw (formed, ne_eqb p.kind 2 n2, eq-eqb p.kind 12 h) (member p.message t e))

    unnamed : p.kind ≡ sign → (x : Transactor) → pick {A = Option Transactor} (named p.message t) (some x) none ≡ none
    unnamed h x = pick-view (λ (o : Option Transactor). o ≡ none) (named p.message t) (some x) none (λ e. absurd (signing h e)) (λ e. refl)

    new_none : (k : Kind p) → (doing y s p k).delta.takes t ≡ none
    unfolding doing
    new_none (is-root e) = other t s.opened _ (λ (f : t ≡ s.opened). omega arith)
    new_none (is-letter e) = refl
    new_none (is-receive e) = other t (receiver s p.message) _ (receiving e)
    new_none (is-new e) = rw (ne_eqb t s.opened (λ (f : t ≡ s.opened). omega arith)) (other t p.transactor _ (acting (omega arith) (omega arith)))
    new_none (is-send e) = refl
    new_none (is-local a b) = other t p.transactor _ (acting (omega arith) b)
    new_none (is-lose e) = refl
    new_none (is-sign e) = pick-view (λ (d : Doing). d.delta.takes t ≡ none) (group_ready y s p.message) _ _ (λ f. unnamed e _) (λ f. refl)

    accepted : length s.transactors ≡ y.transactors → transactor_at (step_of y s p).state t ≡ transactor_at s t
    accepted full =
        let k = kind-of p formed in
        ap (λ r. transactor_at r.state t) (applied-doing y s p k full z) ∙ kept (doing y s p k).delta s t (new_none k)

  formed-step : refusal y s p ≡ 0 → malformed p ≡ false
  unfolding refusal
  formed-step z = (step-accepted y (seen y s) p z).formed

  -- Any step, refused or not, on a state with all its takes.
  pub others-kept : length s.transactors ≡ y.transactors → transactor_at (step_of y s p).state t ≡ transactor_at s t
  others-kept full = ⊎_elim
      (λ (e : eqb (refusal y s p) 0 ≡ true). let z = eqb-true (refusal y s p) 0 e in accepted (formed-step z) z full)
      (λ (e : eqb (refusal y s p) 0 ≡ false). ap (λ r. transactor_at r.state t) (refused-same y s p (λ (z : refusal y s p ≡ 0). never (sym (eq-eqb (refusal y s p) 0 z) ∙ e))))
      (true-or-false (eqb (refusal y s p) 0))
