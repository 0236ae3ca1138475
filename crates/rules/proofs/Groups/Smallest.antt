-- The smallest volume that could be signed: the closure, or none. A ready volume with the take has all that the closure has, so if one of
-- these cannot be in a ready volume, there is none.
use Prim.Native.Nat.{ℕ, ◌≤◌, ◌<◌}
use mathlib.Core.Bool.{Bool, true, false, not}
use mathlib.Core.Path.{◌≡◌, refl, sym, ap, ◌∙◌}
use mathlib.Core.List.{List}
use mathlib.Core.Option.{Option, none, some}
use mathlib.Core.Logic.{◌↔◌, ⊎_elim}
use native.Mathlib.Omega.{arith}
use borrow.Author.Tests.{eq-eqb, eqb-true, eqb-false}
use Rattle.octets.specs.Bytes.{◌or◌, Octets}
use Rattle.octets.specs.Numbers.{bound}
use Rattle.octets.proofs.Chunks.{sides}
use Rattle.octets.proofs.Tests.{never, implied, same_test}
use Rattle.octets.proofs.Zero.{both, every-at}
use Rattle.rules.specs.Layout.{Layout, base}
use Rattle.rules.specs.Status.{annihilated}
use Rattle.rules.specs.State.{State, transactor_at, own_history}
use Rattle.rules.specs.Step.{done}
use Rattle.rules.specs.Refusals.{named, group_bits}
use Rattle.rules.specs.Rules.{transactor_ready, group_ready, step_of}
use Rattle.rules.specs.Pack.{unpack}
use Rattle.rules.specs.Calls.{query_refusal}
use Rattle.rules.specs.Groups.{signing, Checkpointable, Meets, Within, Smallest, refused, nothing, smallest}
use Rattle.rules.specs.ReadyGroups.{ready_group, Ready}
use Rattle.rules.specs.Internal.Well.{WellFormed}
use Rattle.rules.specs.Internal.Closure.{Needed, inside, Closure}
use Rattle.rules.proofs.Form.State.{formed-state}
use Rattle.rules.proofs.Bits.{named-same, named-zero, named_past}
use Rattle.rules.proofs.Groups.Signable.{ready-exactly}
use Rattle.rules.proofs.Groups.Ready.{stable-alive, alive-there}
use Rattle.rules.proofs.Groups.Closure.{inside-at, inside-all}
use Rattle.rules.proofs.Groups.Needs.{ready-inside, ready-closed, closed-ready}
use Rattle.rules.proofs.Calls.Query.{query-accepted}

-- in a well-formed state: the sets of takes with t, none of them with all its signings, that meet the signing rule
module _ {y : Layout} {s : State} (well : WellFormed y s) (size : y.transactors ≡ group_bits) where
  module _ (v : ℕ) (ready : group_ready y s v ≡ true) (t : ℕ) (below : t < group_bits) (name : named v t ≡ true) where
    stable : (own_history t (transactor_at s t)).stable ≡ true
    unfolding group_ready transactor_ready
    stable = (both (own_history t (transactor_at s t)).stable _
        (implied (named v t) (transactor_ready y s v t) (every-at (λ t. not (named v t) or transactor_ready y s v t) y.transactors t ready (omega arith)) name)).0

    stands : (t < s.opened) × ((transactor_at s t).status ≡ annihilated → ⊥)
    stands = let a = stable-alive well t (omega arith) stable in (a.0, eqb-false (transactor_at s t).status annihilated (alive-there a.1))

  pub checkpointable-rule : (t v : ℕ) → Checkpointable y s t v ↔ Meets y s t v
  unfolding ready_group
  checkpointable-rule t v = (
    λ c. let a = (ready-exactly y s v).0 (eq-eqb (step_of y s (signing v)).reply.outcome done c.signs) in record {
      bits = c.bits;
      contains = c.contains;
      room = λ u h n. a.room u (omega arith) n;
      ready = a.rule;
    },
    λ r. record {
      bits = r.bits;
      contains = r.contains;
      signs = eqb-true (step_of y s (signing v)).reply.outcome done ((ready-exactly y s v).1 (record {
        names = λ z. never (sym r.contains ∙ rw z (named-zero t));
        opened = λ u h n. (stands v r.ready u h n).0;
        there = λ u h n. (stands v r.ready u h n).1;
        room = λ u h n. r.room u (omega arith) n;
        rule = r.ready;
      }));
    },
  )

module _ (y : Layout) (img : List ℕ) (t r : ℕ) (is : r ≡ query_refusal y img t) where
  abbrev s : State
  s = unpack y img

  pub grouped-refused : (r ≡ 0 → ⊥) → (r ≡ query_refusal y img t) × Smallest y img t none
  grouped-refused n = (is, refused (λ (f : query_refusal y img t ≡ 0). n (is ∙ f)))

  module _ (zero : r ≡ 0) (well : WellFormed y (unpack y img)) (size : y.transactors ≡ group_bits) {l : List ℕ} {v : ℕ} (found : Needed y img l v) (g : ℕ) (closure : Closure l t g)
      (b : Bool) (tested : b ≡ inside g v) where
    ready_of : (w : ℕ) → Checkpointable y s t w → Ready y s w
    unfolding ready_group
    ready_of w c = (ready-exactly y s w).0 (eq-eqb (step_of y s (signing w)).reply.outcome done c.signs)

    within : (w : ℕ) → Checkpointable y s t w → inside g w ≡ true
    within w c = closure.least w c.contains (ready-closed y img well size found w (ready_of w c))

    pub grouped-none : b ≡ false → (r ≡ query_refusal y img t) × Smallest y img t none
    grouped-none e = (
      is,
      nothing (sym is ∙ zero) (λ w c. never (sym (inside-all g v (λ u h n.
          inside-at w v (ready-inside y img well size found w (ready_of w c)) u h (inside-at g w (within w c) u h n))) ∙ sym tested ∙ e)),
    )

    pub grouped-some : g < bound 2 → b ≡ true → (r ≡ query_refusal y img t) × Smallest y img t (some g)
    unfolding ready_group Within bound
    grouped-some fits e = (
      is,
      smallest (sym is ∙ zero)
          (record {
            bits = fits;
            contains = closure.contains;
            signs = eqb-true (step_of y s (signing g)).reply.outcome done ((ready-exactly y s g).1
                (closed-ready y img well size found g (λ z. never (sym closure.contains ∙ rw z (named-zero t))) (sym tested ∙ e) closure.closed));
          })
          (λ w c u n. ⊎_elim
          (λ (h : u < group_bits). inside-at g w (within w c) u h n)
          (λ (h : group_bits ≤ u). never (sym n ∙ named_past g u group_bits fits h))
          (sides u group_bits)),
    )

module _ (y : Layout) (img : List ℕ) (t : ℕ) (o : Octets img) (size : y.transactors ≡ group_bits) (z : query_refusal y img t ≡ 0) where
  rule : (v : ℕ) → Checkpointable y (unpack y img) t v ↔ Meets y (unpack y img) t v
  rule = let a = query-accepted y img t z in checkpointable-rule (formed-state y img a.long o a.formed) size t

  -- "It says none exactly if no set of takes holding this one, none of them with 15 signings, meets the signing rule."
  pub none-exactly : {a : Option ℕ} → Smallest y img t a → (a ≡ none) ↔ ((v : ℕ) → Meets y (unpack y img) t v → ⊥)
  none-exactly (refused n) = absurd (n z)
  none-exactly (nothing _ n) = (λ e v r. n v ((rule v).1 r), λ f. refl)
  none-exactly (smallest {v} _ c l) = (λ e. let d : ◌≡◌ {A = ℕ} 0 1 = cc in absurd (omega arith), λ f. absurd (f v ((rule v).0 c)))

pub none-exactly-base : (img : List ℕ) (t : ℕ) {a : Option ℕ} → Octets img → query_refusal base img t ≡ 0
    → Smallest base img t a → (a ≡ none) ↔ ((v : ℕ) → Meets base (unpack base img) t v → ⊥)
none-exactly-base img t o z = none-exactly base img t o refl z

-- at most one volume is the smallest
pub smallest-unique : {y : Layout} {img : List ℕ} {t : ℕ} {a b : Option ℕ} → Smallest y img t a → Smallest y img t b → a ≡ b
unfolding bound Within
smallest-unique (smallest {v} z c l) (smallest {v = w} _ d k) =
    ap some (named-same group_bits v w c.bits d.bits (λ u h. same_test (named v u) (named w u) (l w d u) (k v c u)))
smallest-unique (smallest {v} z c l) (nothing _ n) = absurd (n v c)
smallest-unique (smallest z c l) (refused n) = absurd (n z)
smallest-unique (nothing z n) (smallest {v = w} _ d k) = absurd (n w d)
smallest-unique (nothing z n) (nothing _ _) = refl
smallest-unique (nothing z n) (refused _) = refl
smallest-unique (refused n) (smallest z d k) = absurd (n z)
smallest-unique (refused n) (nothing _ _) = refl
smallest-unique (refused n) (refused _) = refl
