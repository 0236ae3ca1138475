-- Why no volume with a take could be signed: nothing is answered exactly if one could, every other answer is true, and following `next` leads there.
use Prim.Native.Nat.{ℕ, zero, suc, ◌+◌, ◌^◌, ◌≤◌, ◌<◌}
use mathlib.Core.Bool.{Bool, true, false, not, false≢true}
use mathlib.Core.Path.{◌≡◌, refl, ap, sym, ◌∙◌, subst}
use mathlib.Core.List.{List}
use lib.ListN.{get_or-eq_default}
use mathlib.Core.Logic.{◌↔◌, ◌⊎◌, inl, inr, ⊎_elim}
use mathlib.Core.Option as maybe
use mathlib.Core.Option.{none}
use Rattle.std.specs.Prelude.{Option, Some, None}
use native.Mathlib.Decide.{ℕ_discrete}
use native.Mathlib.Nat.{pow-le-pow_right}
use native.Mathlib.Omega.{arith}
use lib.Dec.{eqb, ltb, leb}
use borrow.Author.Tests.{eq-eqb, ne_eqb, eqb-true, eqb-false, lt-ltb, ltb-true, ltb-false, le-ltb, leb-true, leb-false, lt-leb}
use Rattle.octets.specs.Bytes.{pick, ◌and◌, ◌or◌, Octets}
use Rattle.octets.specs.Numbers.{bound}
use Rattle.octets.proofs.Chunks.{sides}
use Rattle.octets.proofs.Tests.{pick-view, pick-zero, or-to, or-of, and-off, implying}
use Rattle.octets.proofs.Zero.{both, every-all, every-at}
use Rattle.marks.specs.declared.History.{History}
use Rattle.marks.specs.Incarnation.{Incarnation, checkpointed_in, same_incarnation}
use Rattle.marks.specs.History.{incarnation_of}
use Rattle.marks.proofs.Order.{checkpointed-ne}
use Rattle.marks.proofs.Tests.{checkpointed-test, same_test}
use Rattle.maps.specs.declared.DependenceMap.{DependenceMap}
use Rattle.maps.specs.Map.{held_at, history_at}
use Rattle.maps.proofs.Map.{held-empty}
use Rattle.rules.specs.declared.Impediment.{Impediment}
use Rattle.rules.specs.declared.Impediment.TheVariants.{Hopeless, Exhausted, Unstable}
use Rattle.rules.specs.Layout.{Layout, base}
use Rattle.rules.specs.Status.{annihilated}
use Rattle.rules.specs.State.{Transactor, State, no_transactor, transactor_at, own_history, live, place_from}
use Rattle.rules.specs.Step.{done}
use Rattle.rules.specs.Refusals.{named, group_bits}
use Rattle.rules.specs.Rules.{entry_ready, map_ready, transactor_ready, group_ready, step_of}
use Rattle.rules.specs.Pack.{unpack}
use Rattle.rules.specs.Form.{well_formed}
use Rattle.rules.specs.Calls.{wrong_length, query_refusal}
use Rattle.rules.specs.Groups.{signing, Checkpointable, Smallest}
use Rattle.rules.specs.Groups as groups
use Rattle.rules.specs.ReadyGroups.{ready_group, Ready}
use Rattle.rules.specs.Dependents.{holds_present, rests_at, group_of, through_at}
use Rattle.rules.specs.Obstacle.{StandsIn, in-state, in-creation, WithdrawnMark}
use Rattle.rules.specs.Impediment.{is_withdrawn, withdrawn_in, withdrawn_by, lost_ground, impedes_at, lowest_for, next_at, impediment_of, impediment_answer, Follows, arrived, link, Leads, Impedes, is-nothing, is-hopeless, is-exhausted, is-unstable, Again, again-hopeless, again-exhausted, again-unstable}
use Rattle.rules.specs.Plan.{mendable}
use Rattle.rules.specs.Internal.Well.{Live, is-idle, is-busy, TransactorFormed, not_opened, gone, alive, WellFormed}
use Rattle.rules.proofs.Bits.{named_past, named-zero}
use Rattle.rules.proofs.Form.State.{formed-state}
use Rattle.rules.proofs.Calls.Query.{Accepted, query-accepted}
use Rattle.rules.proofs.Places.{Place, place, place_from-is}
use Rattle.rules.proofs.Groups.Signable.{ready-exactly}
use Rattle.rules.proofs.Groups.Ready.{stable-alive, alive-there}
use Rattle.rules.proofs.Groups.Dependents.{group-names, in_group}
use Rattle.rules.proofs.Groups.Through.{through-split, through-first, through-more, through-by, through-self, through-rests, through-trans}
use Rattle.rules.proofs.Groups.Obstacles.{stands-ready}

-- ---- the chain

module _ (s : State) where
  pub next-self : (k c : ℕ) → next_at s k c c ≡ c
  unfolding next_at
  next-self zero c = refl
  next-self (suc k) c = rw (through-self s k c) (next-self k c)

  -- it is c, or one of the first k
  pub next_low : (k c w : ℕ) → (next_at s k c w ≡ c) ⊎ (next_at s k c w < k)
  unfolding next_at
  next_low zero c w = inl refl
  next_low (suc k) c w = go (through_at s k c w) (next_at s k c w) (next_at s k k w) (next_low k c w) (next_low k k w)
    where
      go : (b : Bool) (u v : ℕ) → (u ≡ c) ⊎ (u < k) → (v ≡ k) ⊎ (v < k) → (pick b u v ≡ c) ⊎ (pick b u v < suc k)
      go true u v (inl e) q = inl e
      go true u v (inr h) q = inr (omega arith)
      go false u v p (inl e) = inr (omega arith)
      go false u v p (inr h) = inr (omega arith)

  -- how many links the chain has
  unfoldable length_at : ℕ → ℕ → ℕ → ℕ
  length_at zero c w = pick (eqb c w) 0 1
  length_at (suc k) c w = pick (through_at s k c w) (length_at k c w) (length_at k k w + length_at k c k)

  length-in : (k c w : ℕ) → through_at s k c w ≡ true → length_at (suc k) c w ≡ length_at k c w
  unfolding length_at
  length-in k c w e = rw e

  length-by : (k c w : ℕ) → through_at s k c w ≡ false → length_at (suc k) c w ≡ length_at k k w + length_at k c k
  unfolding length_at
  length-by k c w e = rw e

  length-self : (k c : ℕ) → length_at k c c ≡ 0
  unfolding length_at
  length-self zero c = rw (eq-eqb c c refl)
  length-self (suc k) c = rw (through-self s k c) (length-self k c)

  -- from w to u: one link less to c
  record Link (k c w u : ℕ) : Type 0 where
    rests : rests_at s u w ≡ true
    on : through_at s k c u ≡ true
    less : length_at k c w ≡ suc (length_at k c u)

  link-first : (c w : ℕ) → through_at s 0 c w ≡ true → (c ≡ w → ⊥) → Link 0 c w c
  unfolding length_at
  link-first c w e n = record {
    rests = ⊎_elim (λ q. absurd (n q)) (λ q. q) (through-first s c w e);
    on = through-self s 0 c;
    less = rw (ne_eqb c w n, eq-eqb c c refl);
  }

  -- over one take more: the chain is there already, or it passes take k
  link-in : (k c w u : ℕ) → through_at s k c w ≡ true → Link k c w u → Link (suc k) c w u
  link-in k c w u e l = record {
    rests = l.rests;
    on = through-more s k c u l.on;
    less = length-in k c w e ∙ l.less ∙ ap suc (sym (length-in k c u l.on));
  }

  link-by : (k c w u : ℕ) → through_at s k c w ≡ false → through_at s k c k ≡ true → (u ≡ k) ⊎ (u < k) → Link k k w u → Link (suc k) c w u
  link-by k c w u e a low l = record { rests = l.rests; on = through-by s k c u a l.on; less = omega (arith, length-by k c w e, l.less, rest low) }
    where
      off : u < k → (b : Bool) → through_at s k c u ≡ b → b ≡ false
      off h false q = refl
      off h true q = absurd (false≢true (sym e ∙ through-trans s k c u w h q (through-rests s k u w l.rests)))

      rest : (u ≡ k) ⊎ (u < k) → length_at (suc k) c u ≡ length_at k k u + length_at k c k
      rest (inl q) = subst (λ (x : ℕ). length_at (suc k) c x ≡ length_at k k x + length_at k c k) (sym q) (omega (arith, length-in k c k a, length-self k k))
      rest (inr h) = length-by k c u (off h (through_at s k c u) refl)

  next-link : (k c w : ℕ) → through_at s k c w ≡ true → (c ≡ w → ⊥) → Link k c w (next_at s k c w)
  unfolding next_at
  next-link zero c w e n = link-first c w e n
  next-link (suc k) c w e n = go (through_at s k c w) refl (through-split s k c w e) (λ h. next-link k c w h n) (λ h m. next-link k k w h m)
    where
      go : (b : Bool) → through_at s k c w ≡ b → (through_at s k c w ≡ true) ⊎ ((through_at s k c k ≡ true) × (through_at s k k w ≡ true))
          → (through_at s k c w ≡ true → Link k c w (next_at s k c w)) → (through_at s k k w ≡ true → (k ≡ w → ⊥) → Link k k w (next_at s k k w))
          → Link (suc k) c w (pick b (next_at s k c w) (next_at s k k w))
      go true q p f g = link-in k c w (next_at s k c w) q (f q)
      go false q (inl p) f g = absurd (false≢true (sym q ∙ p))
      go false q (inr p) f g = link-by k c w (next_at s k k w) q p.0 (next_low k k w)
          (g p.1 (λ i. false≢true (sym q ∙ subst (λ (x : ℕ). through_at s k c x ≡ true) i p.0)))

  pub next-rests : (k c w : ℕ) → through_at s k c w ≡ true → (c ≡ w → ⊥) → (rests_at s (next_at s k c w) w ≡ true) × (through_at s k c (next_at s k c w) ≡ true)
  next-rests k c w e n = let l = next-link k c w e n in (l.rests, l.on)

  -- Following `next` leads to c.
  pub follows : (y : Layout) (c t : ℕ) → through_at s y.transactors c t ≡ true → Follows y s c t
  follows y c t e = go (length_at y.transactors c t) t refl e
    where
      n : ℕ
      n = y.transactors

      at : (t : ℕ) → through_at s n c t ≡ true → Dec (c ≡ t) → (m : ℕ) → length_at n c t ≡ m → ((u k : ℕ) → suc k ≡ m → length_at n c u ≡ k → through_at s n c u ≡ true → Follows y s c u) → Follows y s c t
      at t e (yes i) m q f = subst (Follows y s c) i arrived
      at t e (no d) zero q f = let l = (next-link n c t e d).less in absurd (omega arith)
      at t e (no d) (suc m) q f =
          let l = next-link n c t e d in
          let r : length_at n c (next_at s n c t) ≡ m = omega (arith, l.less, q) in
          link l.rests (f (next_at s n c t) m refl r l.on)

      go : (m t : ℕ) → length_at n c t ≡ m → through_at s n c t ≡ true → Follows y s c t
      go zero t q e = at t e (ℕ_discrete c t) zero q (λ u k i. absurd (omega arith))
      go (suc m) t q e = at t e (ℕ_discrete c t) (suc m) q (λ u k i j h. let w : length_at n c u ≡ m = omega arith in go m u w h)

-- ---- marks of withdrawn lives

module _ (s : State) where
  withdrawn-mark : (u : ℕ) (h : History) → is_withdrawn s u h ≡ true → WithdrawnMark s u h
  unfolding is_withdrawn
  withdrawn-mark u h e = record {
    not-present = λ l p. go (live x) l (checkpointed_in a b) (same_incarnation a b) e (λ c z. false≢true (sym z ∙ (same_test a b).1 p));
    not-checkpointed = λ l p. go (live x) l (checkpointed_in a b) (same_incarnation a b) e (λ c z. false≢true (sym c ∙ (checkpointed-test a b).1 p));
  }
    where
      x : Transactor
      x = transactor_at s u

      a : Incarnation
      a = incarnation_of h

      b : Incarnation
      b = incarnation_of (own_history u x)

      go : (l : Bool) → l ≡ true → (c d : Bool) → not (l and (c or d)) ≡ true → (c ≡ false → d ≡ false → ⊥) → ⊥
      go true r true d e f = false≢true e
      go true r false true e f = false≢true e
      go true r false false e f = f refl refl
      go false r c d e f = false≢true r

  -- and where there is such a mark
  mark-withdrawn : (u : ℕ) (h : History) → WithdrawnMark s u h → is_withdrawn s u h ≡ true
  unfolding is_withdrawn
  mark-withdrawn u h m = go (live (transactor_at s u)) refl (checkpointed_in a b) refl (same_incarnation a b) refl
    where
      a : Incarnation
      a = incarnation_of h

      b : Incarnation
      b = incarnation_of (own_history u (transactor_at s u))

      go : (l : Bool) → live (transactor_at s u) ≡ l → (c : Bool) → checkpointed_in a b ≡ c → (d : Bool) → same_incarnation a b ≡ d → not (l and (c or d)) ≡ true
      go false p c q d r = refl
      go true p true q d r = absurd (m.not-checkpointed p ((checkpointed-test a b).0 q))
      go true p false q true r = absurd (m.not-present p ((same_test a b).0 r))
      go true p false q false r = refl

  record Lost (c u : ℕ) : Type 0 where
    history : History
    stands : StandsIn s c u history
    withdrawn : WithdrawnMark s u history

  lost : (c u : ℕ) → withdrawn_by s c u ≡ true → Lost c u
  unfolding withdrawn_by withdrawn_in
  lost c u e = ⊎_elim
      (λ q. let p = both (held_at (transactor_at s c).state u) (is_withdrawn s u (history_at (transactor_at s c).state u)) q in
      record { history = _; stands = in-state p.0 refl; withdrawn = withdrawn-mark u _ p.1 })
      (λ q. let p = both (held_at (transactor_at s c).creation u) (is_withdrawn s u (history_at (transactor_at s c).creation u)) q in
      record { history = _; stands = in-creation p.0 refl; withdrawn = withdrawn-mark u _ p.1 })
      (or-to (withdrawn_in s (transactor_at s c).state u) (withdrawn_in s (transactor_at s c).creation u) e)

  pub stands-lost : {c u : ℕ} {h : History} → StandsIn s c u h → WithdrawnMark s u h → withdrawn_by s c u ≡ true
  unfolding withdrawn_by withdrawn_in
  stands-lost {c} {u} {h} (in-state k e) m = or-of (withdrawn_in s (transactor_at s c).state u) (withdrawn_in s (transactor_at s c).creation u) (inl (rw k (mark-withdrawn u (history_at (transactor_at s c).state u) (subst (WithdrawnMark s u) e m))))
  stands-lost {c} {u} {h} (in-creation k e) m = or-of (withdrawn_in s (transactor_at s c).state u) (withdrawn_in s (transactor_at s c).creation u) (inr (rw k (mark-withdrawn u (history_at (transactor_at s c).creation u) (subst (WithdrawnMark s u) e m))))

-- ---- the three tests

module _ (y : Layout) (s : State) where
  abbrev n : ℕ
  n = y.transactors

  pub hopeless-is : (c : ℕ) → impedes_at y s 1 c ≡ ltb (lost_ground y s c) n
  unfolding impedes_at
  hopeless-is c = refl

  pub exhausted-is : (c : ℕ) → impedes_at y s 2 c ≡ leb s.limits.checkpoints (own_history c (transactor_at s c)).count
  unfolding impedes_at
  exhausted-is c = refl

  pub unstable-is : (c : ℕ) → impedes_at y s 3 c ≡ not (own_history c (transactor_at s c)).stable
  unfolding impedes_at
  unstable-is c = refl

  lost-place : (c : ℕ) → Place (withdrawn_by s c) 0 n (lost_ground y s c)
  unfolding lost_ground
  lost-place c = place (withdrawn_by s c) 0 n

  lost-some : (c : ℕ) → impedes_at y s 1 c ≡ true → (lost_ground y s c < n) × (withdrawn_by s c (lost_ground y s c) ≡ true)
  lost-some c e = let h : lost_ground y s c < n = ltb-true (lost_ground y s c) n (sym (hopeless-is c) ∙ e) in (h, (lost-place c).here (omega arith))

  lost-none : (c : ℕ) → impedes_at y s 1 c ≡ false → (u : ℕ) → u < n → withdrawn_by s c u ≡ false
  lost-none c e u h = let l : n ≤ lost_ground y s c = ltb-false (lost_ground y s c) n (sym (hopeless-is c) ∙ e) in (lost-place c).before u (omega arith) (omega arith)

  pub hopeless-of : (c u : ℕ) → u < n → withdrawn_by s c u ≡ true → impedes_at y s 1 c ≡ true
  hopeless-of c u h e = go (impedes_at y s 1 c) refl
    where
      go : (b : Bool) → impedes_at y s 1 c ≡ b → b ≡ true
      go true q = refl
      go false q = absurd (false≢true (sym (lost-none c q u h) ∙ e))

  -- ---- the lowest that is in the way

  abbrev in_way : ℕ → ℕ → ℕ → Bool
  in_way kind t c = through_at s n c t and impedes_at y s kind c

  lowest-place : (kind t : ℕ) → Place (in_way kind t) 0 n (lowest_for y s kind t)
  unfolding lowest_for
  lowest-place kind t = place (in_way kind t) 0 n

  module _ (kind t : ℕ) (h : lowest_for y s kind t < n) where
    pub in-way : (through_at s n (lowest_for y s kind t) t ≡ true) × (impedes_at y s kind (lowest_for y s kind t) ≡ true)
    in-way = both (through_at s n (lowest_for y s kind t) t) (impedes_at y s kind (lowest_for y s kind t)) ((lowest-place kind t).here (omega arith))

    leads : live (transactor_at s (lowest_for y s kind t)) ≡ true → Leads y s t (lowest_for y s kind t) (next_at s n (lowest_for y s kind t) t)
    leads l = record { live = l; next = refl; follows = follows s y (lowest_for y s kind t) t in-way.0 }

  pub none-in-way : (kind t : ℕ) → n ≤ lowest_for y s kind t → (c : ℕ) → c < n → through_at s n c t ≡ true → impedes_at y s kind c ≡ false
  none-in-way kind t h c l e = and-off (through_at s n c t) (impedes_at y s kind c) ((lowest-place kind t).before c (omega arith) (omega arith)) e

  pub some-in-way : (kind t c : ℕ) → c < n → through_at s n c t ≡ true → impedes_at y s kind c ≡ true → lowest_for y s kind t < n
  some-in-way kind t c l e q = ⊎_elim (λ h. h) (λ (h : n ≤ lowest_for y s kind t). absurd (false≢true (sym (none-in-way kind t h c l e) ∙ q))) (sides (lowest_for y s kind t) n)

  lowest-none : (kind t : ℕ) → ((c : ℕ) → c < n → through_at s n c t ≡ true → impedes_at y s kind c ≡ false) → ltb (lowest_for y s kind t) n ≡ false
  lowest-none kind t f = le-ltb (lowest_for y s kind t) n (⊎_elim
      (λ (h : lowest_for y s kind t < n). let i = in-way kind t h in absurd (false≢true (sym (f (lowest_for y s kind t) h i.0) ∙ i.1)))
      (λ h. h) (sides (lowest_for y s kind t) n))

-- ---- a volume that could be signed has all that take t rests on

module _ (y : Layout) (s : State) where
  -- a map with a mark of take u's present life
  holds-is : (u : ℕ) (m : DependenceMap) → holds_present s u m ≡ true → (held_at m u ≡ true) × (incarnation_of (history_at m u) ≡ incarnation_of (own_history u (transactor_at s u)))
  unfolding holds_present
  holds-is u m e =
      let p = both (held_at m u) (same_incarnation (incarnation_of (history_at m u)) (incarnation_of (own_history u (transactor_at s u)))) e in
      (p.0, (same_test (incarnation_of (history_at m u)) (incarnation_of (own_history u (transactor_at s u)))).0 p.1)

  record Grounds (c w : ℕ) : Type 0 where
    history : History
    stands : StandsIn s w c history
    is : incarnation_of history ≡ incarnation_of (own_history c (transactor_at s c))

  grounds : (c w : ℕ) → rests_at s c w ≡ true → Grounds c w
  unfolding rests_at
  grounds c w e =
      let x : Transactor = transactor_at s w in
      let p = both (live x) (holds_present s c x.state or holds_present s c x.creation) e in
      ⊎_elim
      (λ q. let h = holds-is c x.state q in record { history = _; stands = in-state h.0 refl; is = h.1 })
      (λ q. let h = holds-is c x.creation q in record { history = _; stands = in-creation h.0 refl; is = h.1 })
      (or-to (holds_present s c x.state) (holds_present s c x.creation) p.1)

  -- a mark of a present life passes only where its take is named
  present-named : (v u : ℕ) (h : History) → incarnation_of h ≡ incarnation_of (own_history u (transactor_at s u)) → entry_ready s v u h ≡ true → named v u ≡ true
  unfolding entry_ready
  present-named v u h i e =
      let p = both (live (transactor_at s u)) (checkpointed_in a b or (named v u and same_incarnation a b)) e in
      ⊎_elim (λ q. absurd (checkpointed-ne ((checkpointed-test a b).0 q) i)) (λ q. (both (named v u) (same_incarnation a b) q).0) (or-to (checkpointed_in a b) (named v u and same_incarnation a b) p.1)
    where
      a : Incarnation
      a = incarnation_of h

      b : Incarnation
      b = incarnation_of (own_history u (transactor_at s u))

  -- and one that passes is not withdrawn
  ready-not-withdrawn : (v u : ℕ) (h : History) → entry_ready s v u h ≡ true → is_withdrawn s u h ≡ false
  unfolding entry_ready is_withdrawn
  ready-not-withdrawn v u h = go (live (transactor_at s u)) (checkpointed_in a b) (named v u) (same_incarnation a b)
    where
      a : Incarnation
      a = incarnation_of h

      b : Incarnation
      b = incarnation_of (own_history u (transactor_at s u))

      go : (l c m d : Bool) → l and (c or (m and d)) ≡ true → not (l and (c or d)) ≡ false
      go true true m d e = refl
      go true false true true e = refl
      go true false true false e = absurd (false≢true e)
      go true false false d e = absurd (false≢true e)
      go false c m d e = absurd (false≢true e)

  module _ (v : ℕ) (ready : group_ready y s v ≡ true) where
    closed_in : (k : ℕ) → k ≤ y.transactors → (c w : ℕ) → c < y.transactors → w < y.transactors → through_at s k c w ≡ true → named v w ≡ true → named v c ≡ true
    closed_in zero low c w i j e m = ⊎_elim
        (λ (q : c ≡ w). subst (λ (x : ℕ). named v x ≡ true) (sym q) m)
        (λ q. let g = grounds c w q in present-named v c g.history g.is (stands-ready y s v ready w c g.history j i m g.stands))
        (through-first s c w e)
    closed_in (suc k) low c w i j e m = go (through-split s k c w e) (λ (a b : ℕ) (p : a < y.transactors) (q : b < y.transactors). closed_in k (omega arith) a b p q)
      where
        go : (through_at s k c w ≡ true) ⊎ ((through_at s k c k ≡ true) × (through_at s k k w ≡ true))
            → ((a b : ℕ) → a < y.transactors → b < y.transactors → through_at s k a b ≡ true → named v b ≡ true → named v a ≡ true) → named v c ≡ true
        go (inl q) f = f c w i j q m
        go (inr q) f = let h : k < y.transactors = omega arith in f c k i h q.0 (f k w h j q.1 m)

    -- no mark of a named take is withdrawn, and the take is frozen
    named-fine : (c : ℕ) → c < y.transactors → named v c ≡ true → impedes_at y s 1 c ≡ false
    named-fine c h m = go (impedes_at y s 1 c) refl
      where
        go : (b : Bool) → impedes_at y s 1 c ≡ b → b ≡ false
        go false q = refl
        go true q =
            let p = lost-some y s c q in
            let l = lost s c (lost_ground y s c) p.1 in
            absurd (false≢true (sym (ready-not-withdrawn v (lost_ground y s c) l.history (stands-ready y s v ready c (lost_ground y s c) l.history h p.0 m l.stands)) ∙ mark-withdrawn s (lost_ground y s c) l.history l.withdrawn))

    named-stable : (c : ℕ) → c < y.transactors → named v c ≡ true → (own_history c (transactor_at s c)).stable ≡ true
    unfolding group_ready transactor_ready
    named-stable c h m =
        let q = every-at (λ t. not (named v t) or transactor_ready y s v t) y.transactors c ready h in
        let r : transactor_ready y s v c ≡ true = rw m at q in
        (both (own_history c (transactor_at s c)).stable (map_ready y s v (transactor_at s c).state and map_ready y s v (transactor_at s c).creation) r).0

  module _ (few : y.transactors ≤ group_bits) (t : ℕ) (low : t < y.transactors) where
    -- where one could be signed, nothing is in the way
    module _ {v : ℕ} (could : Checkpointable y s t v) where
      facts : Ready y s v
      unfolding ready_group
      facts = (ready-exactly y s v).0 (eq-eqb (step_of y s (signing v)).reply.outcome done could.signs)

      member : (c : ℕ) → c < y.transactors → through_at s y.transactors c t ≡ true → named v c ≡ true
      member c h e = closed_in v facts.rule y.transactors (omega arith) c t h low e could.contains

      pub could-nothing : impediment_of y s t ≡ None
      unfolding impediment_of
      could-nothing = rw (
        lowest-none y s 1 t (λ c h e. named-fine v facts.rule c h (member c h e)),
        lowest-none y s 2 t (λ c h e. exhausted-is y s c ∙ lt-leb s.limits.checkpoints (own_history c (transactor_at s c)).count (facts.room c (omega arith) (member c h e))),
        lowest-none y s 3 t (λ c h e. unstable-is y s c ∙ ap not (named-stable v facts.rule c h (member c h e))),
      )

    -- where nothing is in the way, the volume of all that take t rests on could be signed
    pub record Clear : Type 0 where
      pub marks : (c : ℕ) → c < y.transactors → through_at s y.transactors c t ≡ true → impedes_at y s 1 c ≡ false
      pub room : (c : ℕ) → c < y.transactors → through_at s y.transactors c t ≡ true → impedes_at y s 2 c ≡ false
      pub frozen : (c : ℕ) → c < y.transactors → through_at s y.transactors c t ≡ true → impedes_at y s 3 c ≡ false

    module _ (well : WellFormed y s) (clear : Clear) where
      abbrev g : ℕ
      g = group_of y.transactors (λ c. through_at s y.transactors c t)

      g-bits : g < 2 ^ y.transactors
      g-bits = (group-names y.transactors (λ c. through_at s y.transactors c t)).bits

      g-in : (c : ℕ) → c < y.transactors → named g c ≡ through_at s y.transactors c t
      g-in c h = in_group y.transactors (λ c. through_at s y.transactors c t) c h

      g-names : (c : ℕ) → named g c ≡ true → (c < y.transactors) × (through_at s y.transactors c t ≡ true)
      g-names c m = ⊎_elim
          (λ (h : c < y.transactors). (h, sym (g-in c h) ∙ m))
          (λ (h : y.transactors ≤ c). absurd (false≢true (sym (named_past g c y.transactors g-bits h) ∙ m)))
          (sides c y.transactors)

      g-stable : (c : ℕ) → named g c ≡ true → (own_history c (transactor_at s c)).stable ≡ true
      g-stable c m = let q = g-names c m in go (own_history c (transactor_at s c)).stable (sym (unstable-is y s c) ∙ clear.frozen c q.0 q.1)
        where
          go : (b : Bool) → not b ≡ false → b ≡ true
          go true e = refl
          go false e = absurd (false≢true (sym e))

      live-is : {k : ℕ} → Live k → (x : Transactor) → x.status ≡ k → live x ≡ true
      live-is is-idle x e = rw e
      live-is is-busy x e = rw e

      g-live : (c : ℕ) → named g c ≡ true → live (transactor_at s c) ≡ true
      g-live c m = live-is (stable-alive well c (g-names c m).0 (g-stable c m)).1 (transactor_at s c) refl

      -- every mark of its takes passes
      mark-passes : (c : ℕ) → named g c ≡ true → (m : DependenceMap) → ((u : ℕ) → u < y.transactors → withdrawn_in s m u ≡ false)
          → ((u : ℕ) → holds_present s u m ≡ true → rests_at s u c ≡ true) → map_ready y s g m ≡ true
      unfolding map_ready withdrawn_in entry_ready is_withdrawn holds_present
      mark-passes c n m fine rests = every-all (λ u. not (held_at m u) or entry_ready s g u (history_at m u)) y.transactors (λ u h. implying (held_at m u) (entry_ready s g u (history_at m u)) (λ q. pass u h q))
        where
          pass : (u : ℕ) → u < y.transactors → held_at m u ≡ true → entry_ready s g u (history_at m u) ≡ true
          pass u h q = go (live (transactor_at s u)) (checkpointed_in a b) (named g u) (same_incarnation a b) (rw q at (fine u h)) (λ e. name e)
            where
              a : Incarnation
              a = incarnation_of (history_at m u)

              b : Incarnation
              b = incarnation_of (own_history u (transactor_at s u))

              name : same_incarnation a b ≡ true → named g u ≡ true
              name e =
                  let p = g-names c n in
                  let r = rests u (rw (q, e)) in
                  g-in u h ∙ through-trans s y.transactors u c t p.0 (through-rests s y.transactors u c r) p.1

              go : (l k i d : Bool) → not (l and (k or d)) ≡ false → (d ≡ true → i ≡ true) → l and (k or (i and d)) ≡ true
              go true true i d e f = refl
              go true false true true e f = refl
              go true false false true e f = f refl
              go true false i false e f = absurd (false≢true (sym e))
              go false k i d e f = absurd (false≢true (sym e))

      or_off : (a b : Bool) → a or b ≡ false → (a ≡ false) × (b ≡ false)
      or_off true b e = absurd (false≢true (sym e))
      or_off false b e = (refl, e)

      maps-pass : (c : ℕ) → named g c ≡ true → (map_ready y s g (transactor_at s c).state ≡ true) × (map_ready y s g (transactor_at s c).creation ≡ true)
      unfolding withdrawn_by rests_at
      maps-pass c m =
          let x : Transactor = transactor_at s c in
          let q = g-names c m in
          let none : (u : ℕ) → u < y.transactors → withdrawn_by s c u ≡ false = lost-none y s c (clear.marks c q.0 q.1) in (
            mark-passes c m x.state (λ u h. (or_off (withdrawn_in s x.state u) (withdrawn_in s x.creation u) (none u h)).0) (λ u e. rw (g-live c m, e)),
            mark-passes c m x.creation (λ u h. (or_off (withdrawn_in s x.state u) (withdrawn_in s x.creation u) (none u h)).1)
                (λ u e. rw (g-live c m) (or-of (holds_present s u x.state) (holds_present s u x.creation) (inr e))),
          )

      g-ready : group_ready y s g ≡ true
      unfolding group_ready transactor_ready
      g-ready = every-all (λ c. not (named g c) or transactor_ready y s g c) y.transactors (λ c h. implying (named g c) (transactor_ready y s g c) (λ m. let p = maps-pass c m in rw (g-stable c m, p.0, p.1)))

      g-contains : named g t ≡ true
      g-contains = g-in t low ∙ through-self s y.transactors t

      pub clear-could : Checkpointable y s t g
      unfolding ready_group bound
      clear-could = record {
        bits = let p : 2 ^ y.transactors ≤ 2 ^ group_bits = pow-le-pow_right (omega arith) few in omega (arith, g-bits, p);
        contains = g-contains;
        signs = eqb-true (step_of y s (signing g)).reply.outcome done ((ready-exactly y s g).1 (record {
          names = λ z. false≢true (sym (named-zero t) ∙ subst (λ (v : ℕ). named v t ≡ true) z g-contains);
          opened = λ c h m. (stable-alive well c (g-names c m).0 (g-stable c m)).0;
          there = λ c h m. eqb-false (transactor_at s c).status annihilated (alive-there (stable-alive well c (g-names c m).0 (g-stable c m)).1);
          room = λ c h m. let q = g-names c m in leb-false s.limits.checkpoints (own_history c (transactor_at s c)).count (sym (exhausted-is y s c) ∙ clear.room c q.0 q.1);
          rule = g-ready;
        }));
      }

-- ---- the take in the way is live

module _ {y : Layout} {s : State} (well : WellFormed y s) where
  live_of : {k : ℕ} → Live k → (x : Transactor) → x.status ≡ k → live x ≡ true
  live_of is-idle x e = rw e
  live_of is-busy x e = rw e

  pub live-low : (t : ℕ) → live (transactor_at s t) ≡ true → t < y.transactors
  unfolding transactor_at
  live-low t e = ⊎_elim (λ h. h)
      (λ (h : y.transactors ≤ t). absurd (false≢true (subst (λ (x : Transactor). live x ≡ true) (get_or-eq_default s.transactors no_transactor {n = t} (omega (arith, well.packable.many, h))) e)))
      (sides t y.transactors)

  -- whoever has a mark
  pub stands_live : {c u : ℕ} {h : History} → c < y.transactors → StandsIn s c u h → live (transactor_at s c) ≡ true
  stands_live {c} {u} l (in-state k e) = go (well.transactors c l) k
    where
      go : {x : Transactor} → TransactorFormed y s.limits.checkpoints s.opened c x → held_at x.state u ≡ true → live x ≡ true
      go (not_opened h) k = absurd (false≢true (sym (held-empty y.places y.transactors u) ∙ k))
      go (gone h) k = absurd (false≢true (sym (held-empty y.places y.transactors u) ∙ k))
      go (alive {x} h a) k = live_of a.status x refl
  stands_live {c} {u} l (in-creation k e) = go (well.transactors c l) k
    where
      go : {x : Transactor} → TransactorFormed y s.limits.checkpoints s.opened c x → held_at x.creation u ≡ true → live x ≡ true
      go (not_opened h) k = absurd (false≢true (sym (held-empty y.places y.transactors u) ∙ k))
      go (gone h) k = absurd (false≢true (sym (held-empty y.places y.transactors u) ∙ k))
      go (alive {x} h a) k = live_of a.status x refl

  rests-live : (c w : ℕ) → rests_at s c w ≡ true → live (transactor_at s w) ≡ true
  unfolding rests_at
  rests-live c w e = (both (live (transactor_at s w)) (holds_present s c (transactor_at s w).state or holds_present s c (transactor_at s w).creation) e).0

  module _ (t c : ℕ) (there : live (transactor_at s t) ≡ true) (low : c < y.transactors) where
    -- the last on the chain before c
    last : (x w : ℕ) → Follows y s c x → rests_at s x w ≡ true → through_at s y.transactors w t ≡ true → (v : ℕ) × (rests_at s c v ≡ true) × (through_at s y.transactors v t ≡ true)
    last x w arrived r h = (w, r, h)
    last x w (link q f) r h =
        last (next_at s y.transactors c x) x f q (through-trans s y.transactors x w t (live-low w (rests-live x w r)) (through-rests s y.transactors x w r) h)

    -- a chain leads to no take that is gone: the last before it would have a mark of a withdrawn life
    pub through-live : through_at s y.transactors c t ≡ true → y.transactors ≤ lowest_for y s 1 t → live (transactor_at s c) ≡ true
    through-live e high = go (live (transactor_at s c)) refl (ℕ_discrete c t)
      where
        gone-mark : live (transactor_at s c) ≡ false → (v : ℕ) → rests_at s c v ≡ true → through_at s y.transactors v t ≡ true → ⊥
        gone-mark d v r h =
            let g = grounds y s c v r in
            let m : WithdrawnMark s c g.history = record { not-present = λ l p. false≢true (sym d ∙ l); not-checkpointed = λ l p. false≢true (sym d ∙ l) } in
            let i = some-in-way y s 1 t v (live-low v (rests-live c v r)) h (hopeless-of y s v c low (stands-lost s g.stands m)) in
            omega arith

        go : (b : Bool) → live (transactor_at s c) ≡ b → Dec (c ≡ t) → b ≡ true
        go true d i = refl
        go false d (yes i) = absurd (false≢true (sym d ∙ subst (λ (x : ℕ). live (transactor_at s x) ≡ true) (sym i) there))
        go false d (no n) =
            let q = next-rests s y.transactors c t e n in
            let v = last (next_at s y.transactors c t) t (follows s y c (next_at s y.transactors c t) q.1) q.0 (through-self s y.transactors t) in
            absurd (gone-mark d v.0 v.1 v.2)

-- ---- what is answered

-- which of the four it is, and why
data Found (y : Layout) (s : State) (t : ℕ) : Option Impediment → Type 0 where
  found-hopeless : lowest_for y s 1 t < y.transactors → Found y s t (Some (Hopeless (lowest_for y s 1 t) (lost_ground y s (lowest_for y s 1 t)) (next_at s y.transactors (lowest_for y s 1 t) t)))
  found-exhausted : y.transactors ≤ lowest_for y s 1 t → lowest_for y s 2 t < y.transactors → Found y s t (Some (Exhausted (lowest_for y s 2 t) (next_at s y.transactors (lowest_for y s 2 t) t)))
  found-unstable : y.transactors ≤ lowest_for y s 1 t → y.transactors ≤ lowest_for y s 2 t → lowest_for y s 3 t < y.transactors → Found y s t (Some (Unstable (lowest_for y s 3 t) (next_at s y.transactors (lowest_for y s 3 t) t)))
  found_nothing : y.transactors ≤ lowest_for y s 1 t → y.transactors ≤ lowest_for y s 2 t → y.transactors ≤ lowest_for y s 3 t → Found y s t None

found : (y : Layout) (s : State) (t : ℕ) → Found y s t (impediment_of y s t)
unfolding impediment_of
found y s t =
    pick-view (Found y s t) (ltb (lowest_for y s 1 t) y.transactors) _ _ (λ e. found-hopeless (ltb-true (lowest_for y s 1 t) y.transactors e)) λ e1.
    pick-view (Found y s t) (ltb (lowest_for y s 2 t) y.transactors) _ _ (λ e. found-exhausted (ltb-false (lowest_for y s 1 t) y.transactors e1) (ltb-true (lowest_for y s 2 t) y.transactors e)) λ e2.
    pick-view (Found y s t) (ltb (lowest_for y s 3 t) y.transactors) _ _
    (λ e. found-unstable (ltb-false (lowest_for y s 1 t) y.transactors e1) (ltb-false (lowest_for y s 2 t) y.transactors e2) (ltb-true (lowest_for y s 3 t) y.transactors e))
    (λ e. found_nothing (ltb-false (lowest_for y s 1 t) y.transactors e1) (ltb-false (lowest_for y s 2 t) y.transactors e2) (ltb-false (lowest_for y s 3 t) y.transactors e))

found_as : (y : Layout) (s : State) (t : ℕ) {o : Option Impediment} → impediment_of y s t ≡ o → Found y s t o
found_as y s t e = subst (Found y s t) e (found y s t)

-- and there is one such answer
found-is : (y : Layout) (s : State) (t : ℕ) {o : Option Impediment} → Found y s t o → impediment_of y s t ≡ o
unfolding impediment_of
found-is y s t (found-hopeless a) = rw (lt-ltb (lowest_for y s 1 t) y.transactors a)
found-is y s t (found-exhausted a b) = rw (le-ltb (lowest_for y s 1 t) y.transactors a, lt-ltb (lowest_for y s 2 t) y.transactors b)
found-is y s t (found-unstable a b c) = rw (le-ltb (lowest_for y s 1 t) y.transactors a, le-ltb (lowest_for y s 2 t) y.transactors b, lt-ltb (lowest_for y s 3 t) y.transactors c)
found-is y s t (found_nothing a b c) = rw (le-ltb (lowest_for y s 1 t) y.transactors a, le-ltb (lowest_for y s 2 t) y.transactors b, le-ltb (lowest_for y s 3 t) y.transactors c)

-- neither hopeless nor exhausted: none of those that take t rests on is in the way for good
pub mendable-low : (y : Layout) (s : State) (t : ℕ) → mendable (impediment_of y s t) ≡ true → (y.transactors ≤ lowest_for y s 1 t) × (y.transactors ≤ lowest_for y s 2 t)
mendable-low y s t e = go (found y s t) e
  where
    go : {o : Option Impediment} → Found y s t o → mendable o ≡ true → (y.transactors ≤ lowest_for y s 1 t) × (y.transactors ≤ lowest_for y s 2 t)
    go (found-hopeless h) e = absurd (false≢true e)
    go (found-exhausted a h) e = absurd (false≢true e)
    go (found-unstable a b h) e = (a, b)
    go (found_nothing a b c) e = (a, b)

-- Hopeless is answered exactly if one of those that take t rests on has a mark of a withdrawn life.
pub hopeless-some : (y : Layout) (s : State) (t c u : ℕ) → c < y.transactors → u < y.transactors → through_at s y.transactors c t ≡ true → withdrawn_by s c u ≡ true
    → impediment_of y s t ≡ Some (Hopeless (lowest_for y s 1 t) (lost_ground y s (lowest_for y s 1 t)) (next_at s y.transactors (lowest_for y s 1 t) t))
hopeless-some y s t c u h l e q = found-is y s t (found-hopeless (some-in-way y s 1 t c h e (hopeless-of y s c u l q)))

pub record HopelessAt (y : Layout) (s : State) (t c u : ℕ) : Type 0 where
  pub below : c < y.transactors
  pub through : through_at s y.transactors c t ≡ true
  pub history : History
  pub stands : StandsIn s c u history
  pub withdrawn : WithdrawnMark s u history

pub hopeless-at : (y : Layout) (s : State) {t c u x : ℕ} → impediment_of y s t ≡ Some (Hopeless c u x) → HopelessAt y s t c u
hopeless-at y s {t} e = go (found_as y s t e)
  where
    go : {c u x : ℕ} → Found y s t (Some (Hopeless c u x)) → HopelessAt y s t c u
    go (found-hopeless h) =
        let i = in-way y s 1 t h in
        let l = lost s (lowest_for y s 1 t) (lost_ground y s (lowest_for y s 1 t)) (lost-some y s (lowest_for y s 1 t) i.1).1 in
        record { below = h; through = i.0; history = l.history; stands = l.stands; withdrawn = l.withdrawn }

module _ {y : Layout} (few : y.transactors ≤ group_bits) {s : State} (well : WellFormed y s) (t : ℕ) (low : t < y.transactors) where
  clear_of : y.transactors ≤ lowest_for y s 1 t → y.transactors ≤ lowest_for y s 2 t → y.transactors ≤ lowest_for y s 3 t → Clear y s few t low
  clear_of a b c = record { marks = none-in-way y s 1 t a; room = none-in-way y s 2 t b; frozen = none-in-way y s 3 t c }

  -- The answer about a live take is what the rules' words say of it, in every well-formed state.
  pub impedes : live (transactor_at s t) ≡ true → Impedes y s t (impediment_of y s t)
  impedes there = go (found y s t)
    where
      go : {o : Option Impediment} → Found y s t o → Impedes y s t o
      go (found-hopeless h) =
          let i = in-way y s 1 t h in
          let p = lost-some y s (lowest_for y s 1 t) i.1 in
          let l = lost s (lowest_for y s 1 t) (lost_ground y s (lowest_for y s 1 t)) p.1 in
          is-hopeless (leads y s 1 t h (stands_live well h l.stands)) p.0 l.stands l.withdrawn
      go (found-exhausted a h) = is-exhausted (leads y s 2 t h (through-live well t (lowest_for y s 2 t) there h (in-way y s 2 t h).0 a)) (leb-true s.limits.checkpoints (own_history (lowest_for y s 2 t) (transactor_at s (lowest_for y s 2 t))).count (sym (exhausted-is y s (lowest_for y s 2 t)) ∙ (in-way y s 2 t h).1))
      go (found-unstable a b h) = is-unstable (leads y s 3 t h (through-live well t (lowest_for y s 3 t) there h (in-way y s 3 t h).0 a)) (off (own_history (lowest_for y s 3 t) (transactor_at s (lowest_for y s 3 t))).stable (sym (unstable-is y s (lowest_for y s 3 t)) ∙ (in-way y s 3 t h).1))
        where
          off : (c : Bool) → not c ≡ true → c ≡ false
          off true e = absurd (false≢true e)
          off false e = refl
      go (found_nothing a b c) = is-nothing (clear-could y s few t low well (clear_of a b c))

  -- Nothing exactly if some volume with the take could be signed.
  pub nothing-exactly : (impediment_of y s t ≡ None) ↔ ((v : ℕ) × Checkpointable y s t v)
  nothing-exactly = (λ e. go (found_as y s t e), λ c. could-nothing y s few t low c.1)
    where
      go : Found y s t None → (v : ℕ) × Checkpointable y s t v
      go (found_nothing a b c) = (_, clear-could y s few t low well (clear_of a b c))

-- ---- asked about the next, the answer is the same but for the next of it

data SameAgain (y : Layout) (s : State) : Option Impediment → Type 0 where
  same-hopeless : {c u x : ℕ} → impediment_of y s x ≡ Some (Hopeless c u (next_at s y.transactors c x)) → SameAgain y s (Some (Hopeless c u x))
  same-exhausted : {c x : ℕ} → impediment_of y s x ≡ Some (Exhausted c (next_at s y.transactors c x)) → SameAgain y s (Some (Exhausted c x))
  same-unstable : {c x : ℕ} → impediment_of y s x ≡ Some (Unstable c (next_at s y.transactors c x)) → SameAgain y s (Some (Unstable c x))

module _ (y : Layout) (s : State) (t : ℕ) (low : t < y.transactors) where
  abbrev onward : ℕ → ℕ
  onward c = next_at s y.transactors c t

  onward-low : (c : ℕ) → c < y.transactors → onward c < y.transactors
  onward-low c h = ⊎_elim (λ (e : onward c ≡ c). omega arith) (λ h. h) (next_low s y.transactors c t)

  -- what it rests on, take t rests on too
  onward-less : (c : ℕ) → c < y.transactors → through_at s y.transactors c t ≡ true → (d : ℕ) → through_at s y.transactors d (onward c) ≡ true → through_at s y.transactors d t ≡ true
  onward-less c h e d q = go (ℕ_discrete c t)
    where
      go : Dec (c ≡ t) → through_at s y.transactors d t ≡ true
      go (yes i) = subst (λ (x : ℕ). through_at s y.transactors d x ≡ true) (ap (λ (x : ℕ). next_at s y.transactors x t) i ∙ next-self s y.transactors t) q
      go (no n) = through-trans s y.transactors d (onward c) t (onward-low c h) q (through-rests s y.transactors (onward c) t (next-rests s y.transactors c t e n).0)

  onward-on : (c : ℕ) → through_at s y.transactors c t ≡ true → through_at s y.transactors c (onward c) ≡ true
  onward-on c e = go (ℕ_discrete c t)
    where
      go : Dec (c ≡ t) → through_at s y.transactors c (onward c) ≡ true
      go (yes i) = subst (λ (x : ℕ). through_at s y.transactors c x ≡ true) (i ∙ sym (next-self s y.transactors t) ∙ ap (λ (x : ℕ). next_at s y.transactors x t) (sym i)) (through-self s y.transactors c)
      go (no n) = (next-rests s y.transactors c t e n).1

  module _ (c : ℕ) (h : c < y.transactors) (e : through_at s y.transactors c t ≡ true) where
    fewer : (kind d : ℕ) → in_way y s kind t d ≡ false → in_way y s kind (onward c) d ≡ false
    fewer kind d q = go (through_at s y.transactors d (onward c)) refl
      where
        go : (b : Bool) → through_at s y.transactors d (onward c) ≡ b → b and impedes_at y s kind d ≡ false
        go false r = refl
        go true r = and-off (through_at s y.transactors d t) (impedes_at y s kind d) q (onward-less c h e d r)

    none-again : (kind : ℕ) → y.transactors ≤ lowest_for y s kind t → y.transactors ≤ lowest_for y s kind (onward c)
    unfolding lowest_for
    none-again kind l =
        let p : place_from (in_way y s kind (onward c)) 0 y.transactors ≡ y.transactors =
        place_from-is (in_way y s kind (onward c)) 0 y.transactors y.transactors (omega arith) (omega arith) (λ i a b. fewer kind i ((lowest-place y s kind t).before i a (omega arith))) (λ z. absurd (omega arith)) in
        omega arith

    lowest-again : (kind : ℕ) → c ≡ lowest_for y s kind t → lowest_for y s kind (onward c) ≡ lowest_for y s kind t
    unfolding lowest_for
    lowest-again kind i =
        let q : lowest_for y s kind t < y.transactors = omega arith in
        place_from-is (in_way y s kind (onward c)) 0 y.transactors (lowest_for y s kind t) (omega arith) (omega arith) (λ j a b. fewer kind j ((lowest-place y s kind t).before j a b))
        (λ z. subst (λ (d : ℕ). in_way y s kind (onward c) d ≡ true) i (rw (onward-on c e) (subst (λ (d : ℕ). impedes_at y s kind d ≡ true) (sym i) (in-way y s kind t q).1)))

  asked-again : {o : Option Impediment} → impediment_of y s t ≡ o → (o ≡ None → ⊥) → SameAgain y s o
  asked-again {o} e some = go (found_as y s t e) some
    where
      go : {o : Option Impediment} → Found y s t o → (o ≡ None → ⊥) → SameAgain y s o
      go (found-hopeless h) n = same-hopeless (
          let c : ℕ = lowest_for y s 1 t in
          let r : lowest_for y s 1 (onward c) ≡ c = lowest-again c h (in-way y s 1 t h).0 1 refl in
          subst (λ (d : ℕ). impediment_of y s (onward c) ≡ Some (Hopeless d (lost_ground y s d) (next_at s y.transactors d (onward c)))) r (found-is y s (onward c) (found-hopeless (omega arith))))
      go (found-exhausted a h) n = same-exhausted (
          let c : ℕ = lowest_for y s 2 t in
          let i : through_at s y.transactors c t ≡ true = (in-way y s 2 t h).0 in
          let r : lowest_for y s 2 (onward c) ≡ c = lowest-again c h i 2 refl in
          subst (λ (d : ℕ). impediment_of y s (onward c) ≡ Some (Exhausted d (next_at s y.transactors d (onward c)))) r (found-is y s (onward c) (found-exhausted (none-again c h i 1 a) (omega arith))))
      go (found-unstable a b h) n = same-unstable (
          let c : ℕ = lowest_for y s 3 t in
          let i : through_at s y.transactors c t ≡ true = (in-way y s 3 t h).0 in
          let r : lowest_for y s 3 (onward c) ≡ c = lowest-again c h i 3 refl in
          subst (λ (d : ℕ). impediment_of y s (onward c) ≡ Some (Unstable d (next_at s y.transactors d (onward c)))) r (found-is y s (onward c) (found-unstable (none-again c h i 1 a) (none-again c h i 2 b) (omega arith))))
      go (found_nothing a b c) n = absurd (n refl)

-- ---- what the call answers, on every image; beside smallest_group

module _ (y : Layout) (few : y.transactors ≤ group_bits) (img : List ℕ) (t : ℕ) (o : Octets img) (z : query_refusal y img t ≡ 0) where
  accepted : Accepted y img t
  accepted = query-accepted y img t z

  formed : WellFormed y (unpack y img)
  formed = formed-state y img accepted.long o accepted.formed

  -- a take that is asked about is live
  pub asked-live : live (transactor_at (unpack y img) t) ≡ true
  unfolding query_refusal
  asked-live =
      let a = pick-zero (wrong_length y img) 16 _ (omega arith) z in
      let b = pick-zero (not (well_formed y img)) 19 _ (omega arith) a.1 in
      let c = pick-zero (leb (unpack y img).opened t) 21 _ (omega arith) b.1 in
      let d = pick-zero (eqb (transactor_at (unpack y img) t).status annihilated) 22 0 (omega arith) c.1 in
      go (formed.transactors t accepted.below) (leb-false (unpack y img).opened t c.0) (eqb-false (transactor_at (unpack y img) t).status annihilated d.0)
    where
      go : {x : Transactor} → TransactorFormed y (unpack y img).limits.checkpoints (unpack y img).opened t x → t < (unpack y img).opened → (x.status ≡ annihilated → ⊥) → live x ≡ true
      go (not_opened h) l n = absurd (omega arith)
      go (gone h) l n = absurd (n refl)
      go (alive {x} h a) l n = live_of formed a.status x refl

  answer-as : (x : ℕ) → query_refusal y img x ≡ 0 → impediment_answer y img x ≡ impediment_of y (unpack y img) x
  unfolding impediment_answer
  answer-as x e = rw (eq-eqb (query_refusal y img x) 0 e)

  answer-is : impediment_answer y img t ≡ impediment_of y (unpack y img) t
  answer-is = answer-as t z

  -- What is answered is what the rules' words say of it.
  pub answer-impedes : Impedes y (unpack y img) t (impediment_answer y img t)
  answer-impedes = subst (Impedes y (unpack y img) t) (sym answer-is) (impedes few formed t accepted.below asked-live)

  -- a live take can be asked about
  live-asked : (x : ℕ) → live (transactor_at (unpack y img) x) ≡ true → query_refusal y img x ≡ 0
  unfolding query_refusal
  live-asked x e =
      let a = pick-zero (wrong_length y img) 16 _ (omega arith) z in
      let b = pick-zero (not (well_formed y img)) 19 _ (omega arith) a.1 in
      let c = go (formed.transactors x (live-low formed x e)) e in
      rw (a.0, b.0, lt-leb (unpack y img).opened x c.0, c.1)
    where
      there : {n : ℕ} → Live n → eqb n annihilated ≡ false
      there is-idle = refl
      there is-busy = refl

      go : {q : Transactor} → TransactorFormed y (unpack y img).limits.checkpoints (unpack y img).opened x q → live q ≡ true → (x < (unpack y img).opened) × (eqb q.status annihilated ≡ false)
      go (not_opened h) e = absurd (false≢true e)
      go (gone h) e = absurd (false≢true e)
      go (alive h a) e = (h, there a.status)

  follows-live : {c x : ℕ} → live (transactor_at (unpack y img) c) ≡ true → Follows y (unpack y img) c x → live (transactor_at (unpack y img) x) ≡ true
  unfolding rests_at
  follows-live l arrived = l
  follows-live l (link {t = x} q f) = (both (live (transactor_at (unpack y img) x)) _ q).0

  -- the next on the chain can be
  next-asked : {c x : ℕ} → Leads y (unpack y img) t c x → query_refusal y img x ≡ 0
  next-asked {c} {x} l = live-asked x (subst (λ (u : ℕ). live (transactor_at (unpack y img) u) ≡ true) (sym l.next) (go l.follows))
    where
      go : {w : ℕ} → Follows y (unpack y img) c w → live (transactor_at (unpack y img) (next_at (unpack y img) y.transactors c w)) ≡ true
      go arrived = subst (λ (u : ℕ). live (transactor_at (unpack y img) u) ≡ true) (sym (next-self (unpack y img) y.transactors c)) l.live
      go (link q f) = follows-live l.live f

  -- Asked about the next take, the call is not refused and answers the same but for the next of it. So a caller who asks again, about the next each
  -- time, walks the chain to the take that is in the way.
  pub answer-again : (impediment_answer y img t ≡ None → ⊥) → Again y img (impediment_answer y img t)
  answer-again n = go answer-impedes (asked-again y (unpack y img) t accepted.below (sym answer-is) n)
    where
      go : {o : Option Impediment} → Impedes y (unpack y img) t o → SameAgain y (unpack y img) o → Again y img o
      go (is-nothing {v = v} _) x5 = elim x5 [ ]
      go (is-hopeless {x = x} l h stands m) (same-hopeless e) = again-hopeless (next-asked l) (answer-as x (next-asked l) ∙ e)
      go (is-exhausted {x = x} l h) (same-exhausted e) = again-exhausted (next-asked l) (answer-as x (next-asked l) ∙ e)
      go (is-unstable {x = x} l h) (same-unstable e) = again-unstable (next-asked l) (answer-as x (next-asked l) ∙ e)

  -- Nothing exactly if smallest_group names a volume.
  pub nothing-smallest : {a : maybe.Option ℕ} → Smallest y img t a → (impediment_answer y img t ≡ None) ↔ (a ≡ none → ⊥)
  nothing-smallest {a} q = subst (λ (x : Option Impediment). (x ≡ None) ↔ (a ≡ none → ⊥)) (sym answer-is) (go q)
    where
      exact : (impediment_of y (unpack y img) t ≡ None) ↔ ((v : ℕ) × Checkpointable y (unpack y img) t v)
      exact = nothing-exactly few formed t accepted.below

      go : {a : maybe.Option ℕ} → Smallest y img t a → (impediment_of y (unpack y img) t ≡ None) ↔ (a ≡ none → ⊥)
      go (groups.refused n) = absurd (n z)
      go (groups.nothing q n) = (λ e. let c = exact.0 e in absurd (n c.0 c.1), λ f. absurd (f refl))
      go (groups.smallest {v} q c l) = (λ e f. (let d : ◌≡◌ {A = ℕ} 0 1 = cc in omega arith), λ f. exact.1 (v, c))

-- At the ledger's own layout.
module _ (img : List ℕ) (t : ℕ) (o : Octets img) (z : query_refusal base img t ≡ 0) where
  pub answer-impedes-base : Impedes base (unpack base img) t (impediment_answer base img t)
  answer-impedes-base = answer-impedes base (omega arith) img t o z

  pub answer-again-base : (impediment_answer base img t ≡ None → ⊥) → Again base img (impediment_answer base img t)
  answer-again-base = answer-again base (omega arith) img t o z

  pub nothing-smallest-base : {a : maybe.Option ℕ} → Smallest base img t a → (impediment_answer base img t ≡ None) ↔ (a ≡ none → ⊥)
  nothing-smallest-base = nothing-smallest base (omega arith) img t o z
