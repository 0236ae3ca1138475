-- Why a volume can't be signed: nothing is answered exactly if its signing would reply 0, and every other answer is a true obstacle.
use Prim.Native.Nat.{ℕ, zero, suc, ◌+◌, ◌^◌, ◌≤◌, ◌<◌}
use mathlib.Core.Bool.{Bool, true, false, not, false≢true}
use mathlib.Core.Path.{◌≡◌, refl, ap, sym, ◌∙◌, subst}
use mathlib.Core.Logic.{◌↔◌, ◌⊎◌, inl, inr}
use native.Mathlib.Omega.{arith}
use mathlib.Core.List.{List}
use lib.Dec.{eqb, leb}
use lib.ListN.{length}
use borrow.Author.Tests.{eq-eqb, ne_eqb, eqb-true, leb-false, le-leb, lt-leb}
use Rattle.std.specs.Prelude.{Option, Some, None}
use Rattle.std.specs.Option.{option_or}
use Rattle.octets.specs.Bytes.{pick, ◌and◌, ◌or◌}
use Rattle.octets.specs.Numbers.{bound}
use Rattle.octets.proofs.Tests.{pick-view, pick-zero}
use Rattle.octets.proofs.Zero.{both, every-all, every-at}
use Rattle.marks.specs.declared.History.{History}
use Rattle.marks.specs.Incarnation.{Incarnation, checkpointed_in, same_incarnation, Checkpointed}
use Rattle.marks.specs.History.{incarnation_of}
use Rattle.marks.proofs.Order.{checkpointed-ne}
use Rattle.marks.proofs.Tests.{checkpointed-test, same_test}
use Rattle.marks.proofs.Trail.{eq_or_lt}
use Rattle.maps.specs.declared.DependenceMap.{DependenceMap}
use Rattle.maps.specs.Map.{held_at, history_at}
use Rattle.rules.specs.declared.Obstacle.{Obstacle}
use Rattle.rules.specs.declared.Obstacle.TheVariants.{Unstable, Outside, SupersededOrAnnihilated}
use Rattle.rules.specs.Layout.{Layout, image_bytes, base}
use Rattle.rules.specs.Pack.{unpack}
use Rattle.rules.specs.Form.{well_formed}
use Rattle.rules.specs.Calls.{wrong_length}
use Rattle.rules.specs.State.{Transactor, State, transactor_at, own_history, live}
use Rattle.rules.specs.Step.{done}
use Rattle.rules.specs.Refusals.{group_bits, named, malformed}
use Rattle.rules.specs.Rules.{entry_ready, map_ready, transactor_ready, group_ready, refusal, step_of}
use Rattle.rules.specs.Groups.{signing, signing_refusal}
use Rattle.rules.specs.Internal.Guards.{group_in}
use Rattle.rules.specs.Obstacle.{obstacle_numbers, first_of, unstable_at, blocks_in, is_present, ground_of, entry_obstacle, map_obstacle, obstacle_of, obstacle_refusal, obstacle_answer, CouldSign, StandsIn, in-state, in-creation, Obstructs, is-ready, is-unstable, is-outside, is-withdrawn}
use Rattle.rules.proofs.ByKind.Refused.{refuses}
use Rattle.rules.proofs.Calls.Begin.{wrong-length, right-length}
use Rattle.rules.proofs.Groups.Signable.{signing-done}

-- ---- the first that is one

-- an answer other than none
pub data Found : Option Obstacle → Type 0 where
  found : (o : Obstacle) → Found (Some o)

found-not : {o : Option Obstacle} → Found o → o ≡ None → ⊥
found-not (found o) e = cc

-- what holds of each one found, and of none where none is found
or-else : (P : Option Obstacle → Type 0) (a b : Option Obstacle) → (Found a → P a) → (a ≡ None → P b) → P (option_or a b)
or-else P None b f g = g refl
or-else P (Some o) b f g = f (found o)

first-of : (P : Option Obstacle → Type 0) (f : ℕ → Option Obstacle) (k n : ℕ) → ((i : ℕ) → k ≤ i → i < k + n → Found (f i) → P (f i))
    → (((i : ℕ) → k ≤ i → i < k + n → f i ≡ None) → P None) → P (first_of f k n)
unfolding first_of
first-of P f k zero one none = none (λ i h l. absurd (omega arith))
first-of P f k (suc n) one none = or-else P (f k) (first_of f (suc k) n) (one k (omega arith) (omega arith))
    (λ e. first-of P f (suc k) n (λ i h l. one i (omega arith) (omega arith)) (λ rest. none (λ i h l. at e rest i h l (cases i h))))
  where
    cases : (i : ℕ) → k ≤ i → (k ≡ i) ⊎ (suc k ≤ i)
    cases i h = go (eq_or_lt k i h)
      where
        go : (k ≡ i) ⊎ (k < i) → (k ≡ i) ⊎ (suc k ≤ i)
        go (inl e) = inl e
        go (inr l) = inr (omega arith)

    at : f k ≡ None → ((i : ℕ) → suc k ≤ i → i < suc k + n → f i ≡ None) → (i : ℕ) → k ≤ i → i < k + suc n → (k ≡ i) ⊎ (suc k ≤ i) → f i ≡ None
    at e rest i h l (inl q) = subst (λ (j : ℕ). f j ≡ None) q e
    at e rest i h l (inr q) = rest i q (omega arith)

-- ---- what an answer means

pub parts-ready : (y : Layout) (s : State) (v t : ℕ) → transactor_ready y s v t ≡ true
    → ((own_history t (transactor_at s t)).stable ≡ true) × (map_ready y s v (transactor_at s t).state ≡ true) × (map_ready y s v (transactor_at s t).creation ≡ true)
unfolding transactor_ready
parts-ready y s v t e =
    let x : Transactor = transactor_at s t in
    let p = both (own_history t x).stable (map_ready y s v x.state and map_ready y s v x.creation) e in
    let q = both (map_ready y s v x.state) (map_ready y s v x.creation) p.1 in
    (p.0, q.0, q.1)

module _ (y : Layout) (s : State) (v : ℕ) where
  -- a mark that passes no test of the signing rule
  module _ (t u : ℕ) (h : History) (low : t < y.transactors) (low-u : u < y.transactors) (n : named v t ≡ true) (stands : StandsIn s t u h) (e : entry_ready s v u h ≡ false) where
    ground-is : Obstructs y s v (Some (ground_of s t u h))
    unfolding ground_of is_present entry_ready
    ground-is = go (live x) refl (same_incarnation a b) refl
      where
        x : Transactor
        x = transactor_at s u

        a : Incarnation
        a = incarnation_of h

        b : Incarnation
        b = incarnation_of (own_history u x)

        checkpointed : live x ≡ true → Checkpointed a b → ⊥
        checkpointed l c = false≢true (sym e ∙ rw (l, (checkpointed-test a b).1 c))

        unnamed : live x ≡ true → same_incarnation a b ≡ true → (c : Bool) → named v u ≡ c → c ≡ false
        unnamed l q false k = refl
        unnamed l q true k = absurd (false≢true (sym e ∙ rw (l, k, q) (or-true (checkpointed_in a b))))
          where
            or-true : (c : Bool) → c or true ≡ true
            or-true true = refl
            or-true false = refl

        go : (l : Bool) → live x ≡ l → (q : Bool) → same_incarnation a b ≡ q → Obstructs y s v (Some (pick (l and q) (Outside t u) (SupersededOrAnnihilated t u)))
        go true el true eq = is-outside low low-u n stands el ((same_test a b).0 eq) (unnamed el eq (named v u) refl)
        go true el false eq = is-withdrawn low low-u n stands (record { not-present = λ l p. false≢true (sym eq ∙ (same_test a b).1 p); not-checkpointed = checkpointed })
        go false el q eq = is-withdrawn low low-u n stands (record { not-present = λ l p. false≢true (sym el ∙ l); not-checkpointed = λ l c. false≢true (sym el ∙ l) })

  blocks_to : (m : DependenceMap) (u : ℕ) → blocks_in s v m u ≡ true → (held_at m u ≡ true) × (entry_ready s v u (history_at m u) ≡ false)
  unfolding blocks_in
  blocks_to m u e = go (held_at m u) refl (entry_ready s v u (history_at m u)) refl e
    where
      go : (c : Bool) → held_at m u ≡ c → (d : Bool) → entry_ready s v u (history_at m u) ≡ d → c and not d ≡ true → (c ≡ true) × (d ≡ false)
      go true p false q z = (refl, refl)
      go true p true q z = absurd (false≢true z)
      go false p d q z = absurd (false≢true z)

  -- nothing blocks: every mark passes
  passes : (m : DependenceMap) → ((u : ℕ) → u < y.transactors → blocks_in s v m u ≡ false) → map_ready y s v m ≡ true
  unfolding map_ready blocks_in
  passes m f = every-all (λ u. not (held_at m u) or entry_ready s v u (history_at m u)) y.transactors (λ u l. go (held_at m u) (entry_ready s v u (history_at m u)) (f u l))
    where
      go : (c d : Bool) → c and not d ≡ false → not c or d ≡ true
      go true true e = refl
      go true false e = absurd (false≢true (sym e))
      go false d e = refl

  module _ (t : ℕ) (low : t < y.transactors) (n : named v t ≡ true) where
    entry-is : (u : ℕ) → u < y.transactors → Found (entry_obstacle s v t u) → Obstructs y s v (entry_obstacle s v t u)
    unfolding entry_obstacle
    entry-is u l f =
        let x : Transactor = transactor_at s t in
        pick-view (λ o. Found o → Obstructs y s v o) (blocks_in s v x.state u) _ _
        (λ e g. let p = blocks_to x.state u e in ground-is t u (history_at x.state u) low l n (in-state p.0 refl) p.1)
        (λ e. pick-view (λ o. Found o → Obstructs y s v o) (blocks_in s v x.creation u) _ _
        (λ d g. let p = blocks_to x.creation u d in ground-is t u (history_at x.creation u) low l n (in-creation p.0 refl) p.1)
        (λ d g. absurd (found-not g refl))) f

    entry_free : (u : ℕ) → entry_obstacle s v t u ≡ None → (blocks_in s v (transactor_at s t).state u ≡ false) × (blocks_in s v (transactor_at s t).creation u ≡ false)
    unfolding entry_obstacle
    entry_free u = go (blocks_in s v (transactor_at s t).state u) (blocks_in s v (transactor_at s t).creation u)
      where
        go : (c d : Bool) → pick c (Some (ground_of s t u (history_at (transactor_at s t).state u))) (pick d (Some (ground_of s t u (history_at (transactor_at s t).creation u))) None) ≡ None → (c ≡ false) × (d ≡ false)
        go true d e = absurd (found-not (found _) e)
        go false true e = absurd (found-not (found _) e)
        go false false e = (refl, refl)

    -- no mark of take t blocks
    maps-ready : ((u : ℕ) → u < y.transactors → entry_obstacle s v t u ≡ None) → (map_ready y s v (transactor_at s t).state ≡ true) × (map_ready y s v (transactor_at s t).creation ≡ true)
    maps-ready f = (passes (transactor_at s t).state (λ u l. (entry_free u (f u l)).0), passes (transactor_at s t).creation (λ u l. (entry_free u (f u l)).1))

    map_is : Found (first_of (entry_obstacle s v t) 0 y.transactors) → Obstructs y s v (first_of (entry_obstacle s v t) 0 y.transactors)
    map_is = first-of (λ o. Found o → Obstructs y s v o) (entry_obstacle s v t) 0 y.transactors (λ i h l f g. entry-is i (omega arith) f) (λ rest g. absurd (found-not g refl))

    map-free : first_of (entry_obstacle s v t) 0 y.transactors ≡ None → (u : ℕ) → u < y.transactors → entry_obstacle s v t u ≡ None
    map-free = first-of (λ o. o ≡ None → (u : ℕ) → u < y.transactors → entry_obstacle s v t u ≡ None) (entry_obstacle s v t) 0 y.transactors
        (λ i h l f e. absurd (found-not f e)) (λ rest e u l. rest u (omega arith) (omega arith))

  stable-free : (t : ℕ) → unstable_at s v t ≡ None → named v t ≡ true → (own_history t (transactor_at s t)).stable ≡ true
  unfolding unstable_at
  stable-free t e n = go (named v t) n (own_history t (transactor_at s t)).stable e
    where
      go : (c : Bool) → c ≡ true → (d : Bool) → pick (c and not d) (Some (Unstable t)) None ≡ None → d ≡ true
      go true p true q = refl
      go true p false q = absurd (found-not (found _) q)
      go false p d q = absurd (false≢true p)

  unstable-is : (t : ℕ) → t < y.transactors → Found (unstable_at s v t) → Obstructs y s v (unstable_at s v t)
  unfolding unstable_at
  unstable-is t l = go (named v t) refl (own_history t (transactor_at s t)).stable refl
    where
      go : (c : Bool) → named v t ≡ c → (d : Bool) → (own_history t (transactor_at s t)).stable ≡ d → Found (pick (c and not d) (Some (Unstable t)) None) → Obstructs y s v (pick (c and not d) (Some (Unstable t)) None)
      go true p false q f = is-unstable l p q
      go true p true q f = absurd (found-not f refl)
      go false p d q f = absurd (found-not f refl)

  maps-free : (t : ℕ) → map_obstacle y s v t ≡ None → named v t ≡ true → first_of (entry_obstacle s v t) 0 y.transactors ≡ None
  unfolding map_obstacle
  maps-free t e n = rw n at e

  maps-is : (t : ℕ) → t < y.transactors → Found (map_obstacle y s v t) → Obstructs y s v (map_obstacle y s v t)
  unfolding map_obstacle
  maps-is t l = pick-view (λ o. Found o → Obstructs y s v o) (named v t) _ _ (λ n. map_is t l n) (λ n g. absurd (found-not g refl))

  all-ready : ((t : ℕ) → t < y.transactors → unstable_at s v t ≡ None) → ((t : ℕ) → t < y.transactors → map_obstacle y s v t ≡ None) → group_ready y s v ≡ true
  unfolding group_ready transactor_ready
  all-ready f g = every-all (λ t. not (named v t) or transactor_ready y s v t) y.transactors (λ t l. at t l (named v t) refl)
    where
      at : (t : ℕ) → t < y.transactors → (c : Bool) → named v t ≡ c → not c or transactor_ready y s v t ≡ true
      at t l false n = refl
      at t l true n = let m = maps-ready t l n (map-free t l n (maps-free t (g t l) n)) in rw (stable-free t (f t l) n, m.0, m.1)

  -- The answer is what the rules' words say of it: nothing where the volume is ready, else a true obstacle.
  pub obstructs : Obstructs y s v (obstacle_of y s v)
  unfolding obstacle_of
  obstructs = or-else (Obstructs y s v) (first_of (unstable_at s v) 0 y.transactors) (first_of (map_obstacle y s v) 0 y.transactors)
      (first-of (λ o. Found o → Obstructs y s v o) (unstable_at s v) 0 y.transactors (λ i h l f g. unstable-is i (omega arith) f) (λ rest g. absurd (found-not g refl)))
      (λ e. first-of (Obstructs y s v) (map_obstacle y s v) 0 y.transactors (λ i h l f. maps-is i (omega arith) f)
      (λ rest. is-ready (all-ready (λ t l. stables e t l) (λ t l. rest t (omega arith) (omega arith)))))
    where
      stables : first_of (unstable_at s v) 0 y.transactors ≡ None → (t : ℕ) → t < y.transactors → unstable_at s v t ≡ None
      stables = first-of (λ o. o ≡ None → (t : ℕ) → t < y.transactors → unstable_at s v t ≡ None) (unstable_at s v) 0 y.transactors
          (λ i h l f e. absurd (found-not f e)) (λ rest e t l. rest t (omega arith) (omega arith))

  -- ---- and no obstacle but nothing is there where the volume is ready

  transactor-ready : group_ready y s v ≡ true → (t : ℕ) → t < y.transactors → named v t ≡ true → transactor_ready y s v t ≡ true
  unfolding group_ready
  transactor-ready e t l n = let q = every-at (λ t. not (named v t) or transactor_ready y s v t) y.transactors t e l in rw n at q

  mark-ready : (m : DependenceMap) → map_ready y s v m ≡ true → (u : ℕ) → u < y.transactors → held_at m u ≡ true → entry_ready s v u (history_at m u) ≡ true
  unfolding map_ready
  mark-ready m e u l h = let q = every-at (λ u. not (held_at m u) or entry_ready s v u (history_at m u)) y.transactors u e l in rw h at q

  pub stands-ready : group_ready y s v ≡ true → (t u : ℕ) (h : History) → t < y.transactors → u < y.transactors → named v t ≡ true → StandsIn s t u h → entry_ready s v u h ≡ true
  stands-ready e t u h l m n (in-state k q) = rw q (mark-ready (transactor_at s t).state (parts-ready y s v t (transactor-ready e t l n)).1 u m k)
  stands-ready e t u h l m n (in-creation k q) = rw q (mark-ready (transactor_at s t).creation (parts-ready y s v t (transactor-ready e t l n)).2 u m k)

  -- a mark that passes is of the present life of a named take, or of a signed one
  entry-to : (u : ℕ) (h : History) → entry_ready s v u h ≡ true
      → (live (transactor_at s u) ≡ true)
      × (Checkpointed (incarnation_of h) (incarnation_of (own_history u (transactor_at s u)))
      ⊎ ((named v u ≡ true) × (incarnation_of h ≡ incarnation_of (own_history u (transactor_at s u)))))
  unfolding entry_ready
  entry-to u h e =
      let a : Incarnation = incarnation_of h in
      let b : Incarnation = incarnation_of (own_history u (transactor_at s u)) in
      let p = both (live (transactor_at s u)) (checkpointed_in a b or (named v u and same_incarnation a b)) e in
      (p.0, go a b (checkpointed_in a b) refl p.1)
    where
      go : (a b : Incarnation) (c : Bool) → checkpointed_in a b ≡ c → c or (named v u and same_incarnation a b) ≡ true → Checkpointed a b ⊎ ((named v u ≡ true) × (a ≡ b))
      go a b true q e = inl ((checkpointed-test a b).0 q)
      go a b false q e = let k = both (named v u) (same_incarnation a b) e in inr (k.0, (same_test a b).0 k.1)

  -- Every answer but nothing is a true obstacle: with it the volume is not ready.
  pub obstructs-not-ready : {o : Option Obstacle} → Obstructs y s v o → Found o → group_ready y s v ≡ true → ⊥
  obstructs-not-ready (is-ready e) f g = found-not f refl
  obstructs-not-ready (is-unstable {t} l n k) f g = false≢true (sym k ∙ (parts-ready y s v t (transactor-ready g t l n)).0)
  obstructs-not-ready (is-outside {t} {u} {h} l m n stands w q k) f g = go (entry-to u h (stands-ready g t u h l m n stands)).1
    where
      go : Checkpointed (incarnation_of h) (incarnation_of (own_history u (transactor_at s u))) ⊎ ((named v u ≡ true) × (incarnation_of h ≡ incarnation_of (own_history u (transactor_at s u)))) → ⊥
      go (inl c) = checkpointed-ne c q
      go (inr p) = false≢true (sym k ∙ p.0)
  obstructs-not-ready (is-withdrawn {t} {u} {h} l m n stands w) f g = let k = entry-to u h (stands-ready g t u h l m n stands) in go k.0 k.1
    where
      go : live (transactor_at s u) ≡ true
          → Checkpointed (incarnation_of h) (incarnation_of (own_history u (transactor_at s u))) ⊎ ((named v u ≡ true) × (incarnation_of h ≡ incarnation_of (own_history u (transactor_at s u)))) → ⊥
      go a (inl c) = w.not-checkpointed a c
      go a (inr p) = w.not-present a p.1

  -- nothing exactly if the volume meets the signing rule
  pub nothing-ready : (obstacle_of y s v ≡ None) ↔ (group_ready y s v ≡ true)
  nothing-ready = (λ e. of (subst (Obstructs y s v) e obstructs), λ e. to e (obstacle_of y s v) refl)
    where
      of : Obstructs y s v None → group_ready y s v ≡ true
      of (is-ready e) = e

      to : group_ready y s v ≡ true → (o : Option Obstacle) → obstacle_of y s v ≡ o → obstacle_of y s v ≡ None
      to e None q = q
      to e (Some o) q = absurd (obstructs-not-ready (subst (Obstructs y s v) q obstructs) (found o) e)

  -- Nothing exactly if the signing would reply 0: the call is not refused, and answers nothing.
  pub nothing-exactly : ((refusal y s (signing v) ≡ 0) × (obstacle_of y s v ≡ None)) ↔ ((step_of y s (signing v)).reply.outcome ≡ done)
  unfolding malformed
  nothing-exactly = (
    λ k. eqb-true (step_of y s (signing v)).reply.outcome done (signing-done y s v
        ∙ rw (eq-eqb (group_in s v) 0 (sym refused ∙ k.0), nothing-ready.0 k.1)),
    λ e.
        let q = both (eqb (group_in s v) 0) (group_ready y s v) (sym (signing-done y s v) ∙ eq-eqb (step_of y s (signing v)).reply.outcome done e) in
        (refused ∙ eqb-true (group_in s v) 0 q.0, nothing-ready.1 q.1),
  )
    where
      refused : refusal y s (signing v) ≡ group_in s v
      refused = (refuses y s (signing v) refl).sign refl

-- ---- the call's returns

module _ (y : Layout) (img : List ℕ) (v : ℕ) where
  pub obstacle-16 : (length img ≡ image_bytes y → ⊥) → (16 ≡ obstacle_refusal y img v) × (obstacle_numbers None ≡ obstacle_numbers (obstacle_answer y img v))
  unfolding obstacle_refusal obstacle_answer
  obstacle-16 n = let e = wrong-length y img n in (rw e, rw e)

  module _ (long : length img ≡ image_bytes y) where
    pub obstacle-19 : not (well_formed y img) ≡ true → (19 ≡ obstacle_refusal y img v) × (obstacle_numbers None ≡ obstacle_numbers (obstacle_answer y img v))
    unfolding obstacle_refusal obstacle_answer
    obstacle-19 e = let l = right-length y img long in (rw (l, e), rw (l, e))

    module _ (formed : not (well_formed y img) ≡ false) where
      pub obstacle-21 : 2 ^ group_bits ≤ v → (21 ≡ obstacle_refusal y img v) × (obstacle_numbers None ≡ obstacle_numbers (obstacle_answer y img v))
      unfolding obstacle_refusal obstacle_answer signing_refusal
      obstacle-21 h = let l = right-length y img long in let w = le-leb (2 ^ group_bits) v h in (rw (l, formed, w), rw (l, formed, w))

      module _ (narrow : v < 2 ^ group_bits) (r : ℕ) (e : r ≡ group_in (unpack y img) v) where
        -- what the signing itself would be refused with
        refusal_is : r ≡ obstacle_refusal y img v
        unfolding obstacle_refusal signing_refusal malformed
        refusal_is = e ∙ sym ((refuses y (unpack y img) (signing v) refl).sign refl) ∙ rw (right-length y img long, formed, lt-leb (2 ^ group_bits) v narrow)

        pub obstacle-refused : (r ≡ 0 → ⊥) → (r ≡ obstacle_refusal y img v) × (obstacle_numbers None ≡ obstacle_numbers (obstacle_answer y img v))
        unfolding obstacle_answer
        obstacle-refused n = (refusal_is, rw (ne_eqb (obstacle_refusal y img v) 0 (λ (z : obstacle_refusal y img v ≡ 0). n (refusal_is ∙ z))))

        pub obstacle-0 : r ≡ 0 → (o : Option Obstacle) → o ≡ obstacle_of y (unpack y img) v → (r ≡ obstacle_refusal y img v) × (obstacle_numbers o ≡ obstacle_numbers (obstacle_answer y img v))
        unfolding obstacle_answer
        obstacle-0 z o q = (refusal_is, ap obstacle_numbers q ∙ rw (eq-eqb (obstacle_refusal y img v) 0 (sym refusal_is ∙ z)))

-- ---- what the call answers, on every image

module _ (y : Layout) (img : List ℕ) (v : ℕ) where
  answer-is : obstacle_refusal y img v ≡ 0 → obstacle_answer y img v ≡ obstacle_of y (unpack y img) v
  unfolding obstacle_answer
  answer-is z = rw (eq-eqb (obstacle_refusal y img v) 0 z)

  -- What is answered is what the rules' words say of it.
  pub answer-obstructs : obstacle_refusal y img v ≡ 0 → Obstructs y (unpack y img) v (obstacle_answer y img v)
  answer-obstructs z = subst (Obstructs y (unpack y img) v) (sym (answer-is z)) (obstructs y (unpack y img) v)

  -- Not refused and nothing exactly if the volume could be signed.
  pub answer-nothing : ((obstacle_refusal y img v ≡ 0) × (obstacle_answer y img v ≡ None)) ↔ CouldSign y img v
  unfolding obstacle_refusal signing_refusal bound
  answer-nothing = (
    λ k.
        let a = pick-zero (wrong_length y img) 16 _ (omega arith) k.0 in
        let b = pick-zero (not (well_formed y img)) 19 _ (omega arith) a.1 in
        let c = pick-zero (leb (2 ^ group_bits) v) 21 _ (omega arith) b.1 in
        let h = leb-false (2 ^ group_bits) v c.0 in
        record {
          long = eqb-true (length img) (image_bytes y) (on (eqb (length img) (image_bytes y)) a.0);
          formed = on (well_formed y img) b.0;
          bits = omega arith;
          signs = (nothing-exactly y (unpack y img) v).0 (c.1, sym (answer-is k.0) ∙ k.1);
        },
    λ k.
        let q = (nothing-exactly y (unpack y img) v).1 k.signs in
        let h = k.bits in
        let z : obstacle_refusal y img v ≡ 0 = rw (right-length y img k.long, k.formed, lt-leb (2 ^ group_bits) v (omega arith)) q.0 in
        (z, answer-is z ∙ q.1),
  )
    where
      on : (c : Bool) → not c ≡ false → c ≡ true
      on true e = refl
      on false e = absurd (false≢true (sym e))

-- At the ledger's own layout.
module _ (img : List ℕ) (v : ℕ) where
  pub answer-obstructs-base : obstacle_refusal base img v ≡ 0 → Obstructs base (unpack base img) v (obstacle_answer base img v)
  answer-obstructs-base = answer-obstructs base img v

  pub answer-nothing-base : ((obstacle_refusal base img v ≡ 0) × (obstacle_answer base img v ≡ None)) ↔ CouldSign base img v
  answer-nothing-base = answer-nothing base img v
