-- What blocks the signing of a group, and when the group is ready, as the code tests the image.
use Prim.Native.Nat.{ℕ, zero, suc, ◌+◌, ◌*◌, ◌^◌, ◌≤◌, ◌<◌}
use mathlib.Core.Bool.{Bool, true, false, not}
use mathlib.Core.Path.{◌≡◌, refl, sym, ap, ◌∙◌, subst}
use mathlib.Core.List.{List}
use native.Mathlib.Omega.{arith}
use lib.Dec.{eqb, leb}
use Rattle.octets.specs.Bytes.{◌and◌, ◌or◌, part, every}
use Rattle.octets.proofs.Zero.{both, every-same, every-all, every-at, every-off, Held, held_all, held-fails}
use Rattle.octets.proofs.Tests.{never, or-none, implied, implying}
use Rattle.marks.specs.declared.History.{History}
use Rattle.marks.specs.Incarnation.{checkpointed_in, same_incarnation}
use Rattle.marks.specs.History.{incarnation_of}
use Rattle.marks.specs.Packed.{unpack_history, present_in}
use Rattle.maps.specs.declared.DependenceMap.{DependenceMap}
use Rattle.maps.specs.Map.{entry_of, held_at, history_at}
use Rattle.maps.proofs.Map.{history-empty}
use Rattle.maps.proofs.Packed.{bounded_at, map_ok-bounded}
use Rattle.rules.specs.Layout.{Layout, base, history_bytes, state_at, creation_at, transactor_address}
use Rattle.rules.specs.Status.{unused, annihilated}
use Rattle.rules.specs.State.{Transactor, State, bare, live, transactor_at, own_history}
use Rattle.rules.specs.Refusals.{named, group_bits}
use Rattle.rules.specs.Rules.{entry_ready, map_ready, transactor_ready, group_ready}
use Rattle.rules.specs.Pack.{unpack_dependences, unpack}
use Rattle.rules.specs.Internal.Well.{Live, is-idle, is-busy, TransactorFormed, not_opened, gone, alive, WellFormed}
use Rattle.rules.specs.Internal.Good.{Good}
use Rattle.rules.specs.Internal.Guards.{is_full}
use Rattle.rules.specs.Internal.Closure.{stored_ready, pair_ready, stable_named, Presents, Kept, in_group_at, checkpointed_at}
use Rattle.rules.proofs.Bits.{named-same}
use Rattle.rules.proofs.Pack.Loads.{held-at, history-at, read-state, read-creation}
use Rattle.rules.proofs.Form.Transactor.{live-true}

-- ---- what blocks a signing

pub full_is : (s : State) (t n : ℕ) → n ≡ (own_history t (transactor_at s t)).count → leb s.limits.checkpoints n ≡ is_full s t
unfolding is_full
full_is s t n e = ap (leb s.limits.checkpoints) e

-- ---- a take that is frozen is live

pub alive-there : {n : ℕ} → Live n → eqb n annihilated ≡ false
alive-there is-idle = refl
alive-there is-busy = refl

module _ {y : Layout} {s : State} (well : WellFormed y s) (t : ℕ) (below : t < y.transactors) where
  -- the own history of a take that is not live is not stable
  bare-unstable : (n : ℕ) → (own_history t (bare y n)).stable ≡ false
  bare-unstable n = ap (λ (x : History). x.stable) (history-empty y.places y.transactors t below)

  pub stable-alive : (own_history t (transactor_at s t)).stable ≡ true → (t < s.opened) × Live (transactor_at s t).status
  stable-alive = go (well.transactors t below)
    where
      go : {x : Transactor} → TransactorFormed y s.limits.checkpoints s.opened t x → (own_history t x).stable ≡ true → (t < s.opened) × Live x.status
      go (not_opened h) e = never (sym e ∙ bare-unstable unused)
      go (gone h) e = never (sym e ∙ bare-unstable annihilated)
      go (alive h a) e = (h, a.status)

-- ---- one mark

pub own-count : (img : List ℕ) → Good img → (t : ℕ) → t < base.transactors → (h : History) → h ≡ own_history t (transactor_at (unpack base img) t) → h.count ≤ base.places
own-count img good t below h e = rw e (bounded_at base.places (transactor_at (unpack base img) t).state (map_ok-bounded (good.well.packable.transactors t below).state) t)

-- ---- with what is kept of the named takes

or-on : (c : Bool) → c or true ≡ true
or-on true = refl
or-on false = refl

module _ (y : Layout) (img : List ℕ) (g at u : ℕ) where
  abbrev x : Transactor
  x = transactor_at (unpack y img) u

  abbrev h : History
  h = unpack_history y.width y.places (part at (history_bytes y) img)

  pub in-group-absent : not (present_in (part at (history_bytes y) img)) ≡ true → true ≡ in_group_at y img g at u
  unfolding in_group_at
  in-group-absent e = rw e

  module _ (there : not (present_in (part at (history_bytes y) img)) ≡ false) where
    pub in-group-unnamed : named g u ≡ false → false ≡ in_group_at y img g at u
    unfolding in_group_at
    in-group-unnamed o = rw (there, o)

    pub in-group-same : {o : History} → Kept (unpack y img) g u o → named g u ≡ true → same_incarnation (incarnation_of h) (incarnation_of o) ≡ in_group_at y img g at u
    unfolding in_group_at
    in-group-same {o} k n = rw (there, n) (ap (λ (z : History). same_incarnation (incarnation_of h) (incarnation_of z)) (k.own n))

  pub checkpointed-named : {o : History} → Kept (unpack y img) g u o → named g u ≡ true → checkpointed_in (incarnation_of h) (incarnation_of o) ≡ checkpointed_at y img at u
  unfolding checkpointed_at
  checkpointed-named {o} k n = rw (k.there n) (ap (λ (z : History). checkpointed_in (incarnation_of h) (incarnation_of z)) (k.own n))

  pub checkpointed-dead : live x ≡ false → false ≡ checkpointed_at y img at u
  unfolding checkpointed_at
  checkpointed-dead l = rw l

  pub checkpointed-live : live x ≡ true → (o : History) → o ≡ own_history u x → checkpointed_in (incarnation_of h) (incarnation_of o) ≡ checkpointed_at y img at u
  unfolding checkpointed_at
  checkpointed-live l o e = rw l (ap (λ (z : History). checkpointed_in (incarnation_of h) (incarnation_of z)) e)

  module _ {o : History} (kept : Kept (unpack y img) g u o) where
    -- the two tests, one after the other
    stored-kept : stored_ready y img g at u ≡ in_group_at y img g at u or checkpointed_at y img at u
    unfolding stored_ready entry_ready in_group_at checkpointed_at
    stored-kept = go (present_in (part at (history_bytes y) img)) (live x) (checkpointed_in (incarnation_of h) (incarnation_of (own_history u x))) (named g u)
        (same_incarnation (incarnation_of h) (incarnation_of (own_history u x))) kept.there
      where
        go : (p l c n e : Bool) → (n ≡ true → l ≡ true) → not p or (l and (c or (n and e))) ≡ (not p or (n and e)) or (l and c)
        go false l c n e f = refl
        go true true true n e f = sym (or-on (n and e))
        go true true false n e f = sym (or-none (n and e))
        go true false c true e f = never (sym (f refl))
        go true false c false e f = refl

    pub kept-in-group : in_group_at y img g at u ≡ true → stored_ready y img g at u ≡ true
    kept-in-group e = stored-kept ∙ rw e

    pub kept-checkpointed : checkpointed_at y img at u ≡ true → stored_ready y img g at u ≡ true
    kept-checkpointed e = stored-kept ∙ rw e (or-on (in_group_at y img g at u))

    pub kept-other : in_group_at y img g at u ≡ false → checkpointed_at y img at u ≡ stored_ready y img g at u
    kept-other e = sym (stored-kept ∙ rw e)

module _ (y : Layout) (img : List ℕ) (g t u : ℕ) where
  abbrev state : Bool
  state = stored_ready y img g (transactor_address y t + state_at + history_bytes y * u) u

  pub pair-off : state ≡ false → false ≡ pair_ready y img g t u
  unfolding pair_ready
  pair-off e = rw e

  pub pair-on : state ≡ true → stored_ready y img g (transactor_address y t + creation_at y + history_bytes y * u) u ≡ pair_ready y img g t u
  unfolding pair_ready
  pair-on e = rw e

-- ---- a group, take by take and mark by mark

-- the same tests, taken pairwise or one sort after the other
every-and : (f g : ℕ → Bool) (n : ℕ) → every n (λ i. f i and g i) ≡ every n f and every n g
unfolding every
every-and f g zero = refl
every-and f g (suc n) = rw (every-and f g n) (swap (every n f) (every n g) (f n) (g n))
  where
    swap : (a b c d : Bool) → (a and b) and (c and d) ≡ (a and c) and (b and d)
    swap false b c d = refl
    swap true true c d = refl
    swap true false true d = refl
    swap true false false d = refl

-- mark u of a map
unfoldable mark_ready : State → ℕ → DependenceMap → ℕ → Bool
mark_ready s g m u = not (held_at m u) or entry_ready s g u (history_at m u)

-- a named take is
unfoldable pub named_ready : Layout → State → ℕ → ℕ → Bool
named_ready y s g t = not (named g t) or transactor_ready y s g t

module _ (y : Layout) (img : List ℕ) (g t : ℕ) where
  abbrev s : State
  s = unpack y img

  pub ready-end : {ok : Bool} → ok ≡ true → Held (named_ready y s g) y.transactors t → y.transactors ≤ t → ok ≡ group_ready y s g
  unfolding group_ready named_ready
  ready-end o held h = o ∙ held_all held h

  pub ready-unnamed : named g t ≡ false → not (named_ready y s g t) ≡ false
  unfolding named_ready
  ready-unnamed o = rw o

  module _ (below : t < y.transactors) where
    -- the marks from at on, as they stand in the image
    stored-marks : (at u : ℕ) → u < y.transactors → stored_ready y img g (at + history_bytes y * u) u ≡ mark_ready s g (unpack_dependences y at img) u
    unfolding stored_ready mark_ready
    stored-marks at u h = rw (held-at y at img u h, history-at y at img u h)

    pair_is : (u : ℕ) → u < y.transactors → pair_ready y img g t u ≡ mark_ready s g (transactor_at s t).state u and mark_ready s g (transactor_at s t).creation u
    unfolding pair_ready
    pair_is u h = rw (stored-marks (transactor_address y t + state_at) u h, stored-marks (transactor_address y t + creation_at y) u h, read-state y img t below, read-creation y img t below)

    marks-are : every y.transactors (pair_ready y img g t) ≡ map_ready y s g (transactor_at s t).state and map_ready y s g (transactor_at s t).creation
    unfolding map_ready mark_ready
    marks-are =
        every-same (pair_ready y img g t) (λ u. mark_ready s g (transactor_at s t).state u and mark_ready s g (transactor_at s t).creation u) y.transactors pair_is
        ∙ every-and (mark_ready s g (transactor_at s t).state) (mark_ready s g (transactor_at s t).creation) y.transactors

    pub transactor-is : transactor_ready y s g t ≡ (own_history t (transactor_at s t)).stable and every y.transactors (pair_ready y img g t)
    unfolding transactor_ready
    transactor-is = rw marks-are

    module _ (all : every y.transactors (stable_named s g) ≡ true) (name : named g t ≡ true) where
      named-is : named_ready y s g t ≡ every y.transactors (pair_ready y img g t)
      unfolding named_ready stable_named
      named-is =
          let e = implied (named g t) (own_history t (transactor_at s t)).stable (every-at (stable_named s g) y.transactors t all below) name in
          rw (name, transactor-is, e)

      pub ready-named : {u : ℕ} → Held (pair_ready y img g t) y.transactors u → y.transactors ≤ u → not (named_ready y s g t) ≡ false
      ready-named held h = rw (named-is, ← held_all held h)

      pub ready-unmet : {u : ℕ} → Held (pair_ready y img g t) y.transactors u → u < y.transactors → not (pair_ready y img g t u) ≡ true → false ≡ group_ready y s g
      unfolding group_ready named_ready
      ready-unmet held h e = sym (every-off (named_ready y s g) y.transactors t below (named-is ∙ sym (held-fails held h e)))

-- ---- the named takes are frozen

module _ (y : Layout) (s : State) (g : ℕ) where
  -- not all are: not ready
  ready-unstable : every y.transactors (stable_named s g) ≡ false → false ≡ group_ready y s g
  unfolding group_ready stable_named transactor_ready
  ready-unstable e = go (group_ready y s g) refl
    where
      stable : group_ready y s g ≡ true → every y.transactors (stable_named s g) ≡ true
      stable r = every-all (stable_named s g) y.transactors (λ t h. implying (named g t) (own_history t (transactor_at s t)).stable (λ n.
          (both (own_history t (transactor_at s t)).stable _
          (implied (named g t) (transactor_ready y s g t) (every-at (λ t. not (named g t) or transactor_ready y s g t) y.transactors t r h) n)).0))

      go : (r : Bool) → group_ready y s g ≡ r → false ≡ r
      go true r = never (sym (stable r) ∙ e)
      go false r = refl

  module _ {l : List History} {v : ℕ} (present : Presents y s g l v) where
    -- all are: those of them that are frozen are the volume itself
    pub present-stable : v ≡ g → every y.transactors (stable_named s g) ≡ true
    unfolding stable_named
    present-stable e = every-all (stable_named s g) y.transactors (λ t h. implying (named g t) (own_history t (transactor_at s t)).stable (λ n.
        (both (named g t) (own_history t (transactor_at s t)).stable
        (sym (present.stable.exactly t h) ∙ ap (λ (x : ℕ). named x t) e ∙ n)).1))

    pub present-unstable : y.transactors ≡ group_bits → g < 2 ^ group_bits → (v ≡ g → ⊥) → false ≡ group_ready y s g
    unfolding stable_named
    present-unstable size fits off = ready-unstable (go (every y.transactors (stable_named s g)) refl)
      where
        same : every y.transactors (stable_named s g) ≡ true → v ≡ g
        same e = named-same group_bits v g (subst (λ (n : ℕ). v < 2 ^ n) size present.stable.bits) fits (λ t h.
            let b : t < y.transactors = omega arith in
            present.stable.exactly t b
            ∙ met (named g t) (own_history t (transactor_at s t)).stable (every-at (stable_named s g) y.transactors t e b))
          where
            met : (n f : Bool) → not n or f ≡ true → n and f ≡ n
            met true f e = e
            met false f e = refl

        go : (b : Bool) → every y.transactors (stable_named s g) ≡ b → b ≡ false
        go true e = absurd (off (same e))
        go false e = refl

    -- what the walk has of each take: of a frozen one that it is live, and its own mark
    pub kept-stable : WellFormed y s → (u : ℕ) → u < y.transactors → Kept s v u (entry_of l u)
    kept-stable well u h = record {
      there = λ n. live-true (stable-alive well u h (flags n).1).1;
      own = λ n. present.own u h (flags n).0;
    }
      where
        flags : named v u ≡ true → (named g u ≡ true) × ((own_history u (transactor_at s u)).stable ≡ true)
        flags n = both (named g u) (own_history u (transactor_at s u)).stable (sym (present.stable.exactly u h) ∙ n)
