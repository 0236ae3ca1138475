-- A life (L; n) as a trail, L followed by n: one family of relations between two trails carries all of document 01's.
use Prim.Native.Nat.{ℕ, ◌≤◌, ◌<◌}
use mathlib.Core.Path.{◌≡◌, refl, ap}
use mathlib.Core.List.{List, [], ◌∷◌, ◌++◌}
use mathlib.Core.Logic.{◌⊎◌, inl, inr, ◌↔◌}
use native.Mathlib.Decide.{dec_lt, dec_le}
use native.Mathlib.Omega.{arith}
use lib.ListN.{length}
use Rattle.marks.specs.Incarnation.{Incarnation, Superseded, lower, passed, Checkpointed, begins}
use Rattle.marks.specs.Order.{Along, same, next, more, Trails}

-- ---- two relations

module _ {E N E' N' : ℕ → ℕ → Type 0} where
  pub weaken : ((n m : ℕ) → E n m → E' n m) → ((n m : ℕ) → N n m → N' n m)
      → {p q : List ℕ} {n m : ℕ} → Along E N p n q m → Along E' N' p n q m
  weaken f g (same h) = same (f _ _ h)
  weaken f g (next h) = next (g _ _ h)
  weaken f g (more h) = more (weaken f g h)

-- what a trail of each form is
of_same : {E N : ℕ → ℕ → Type 0} {n m : ℕ} → Along E N [] n [] m → E n m
of_same (same h) = h

of_next : {E N : ℕ → ℕ → Type 0} {n y m : ℕ} {r : List ℕ} → Along E N [] n (y ∷ r) m → N n y
of_next (next h) = h

of_more : {E N : ℕ → ℕ → Type 0} {x y n m : ℕ} {p q : List ℕ} → Along E N (x ∷ p) n (y ∷ q) m → Along E N p n q m
of_more (more h) = h

module _ {E N E' N' : ℕ → ℕ → Type 0} where
  -- not both
  pub clash : ((n m : ℕ) → E n m → E' n m → ⊥) → ((n m : ℕ) → N n m → N' n m → ⊥)
      → {p q : List ℕ} {n m : ℕ} → Along E N p n q m → Along E' N' p n q m → ⊥
  clash f g (same h) k = f _ _ h (of_same k)
  clash f g (next h) k = g _ _ h (of_next k)
  clash f g (more h) k = clash f g h (of_more k)

-- ---- three relations

module _ {E N E' N' E'' N'' : ℕ → ℕ → Type 0} where
  -- one after the other
  pub follow : ((n m k : ℕ) → E n m → E' m k → E'' n k) → ((n m k : ℕ) → E n m → N' m k → N'' n k) → ((n m : ℕ) → N n m → N'' n m)
      → {p q r : List ℕ} {n m k : ℕ} → Along E N p n q m → Along E' N' q m r k → Along E'' N'' p n r k
  follow f g h (same a) (same b) = same (f _ _ _ a b)
  follow f g h (same a) (next b) = next (g _ _ _ a b)
  follow f g h (next a) (more b) = next (h _ _ a)
  follow f g h (more a) (more b) = more (follow f g h a b)

  -- one of two
  pub branch : ((n m : ℕ) → E n m → E' n m ⊎ E'' n m) → ((n m : ℕ) → N n m → N' n m ⊎ N'' n m)
      → {p q : List ℕ} {n m : ℕ} → Along E N p n q m → Along E' N' p n q m ⊎ Along E'' N'' p n q m
  branch f g (same h) = go (f _ _ h)
    where
      go : {n m : ℕ} → E' n m ⊎ E'' n m → Along E' N' [] n [] m ⊎ Along E'' N'' [] n [] m
      go (inl a) = inl (same a)
      go (inr a) = inr (same a)
  branch f g (next h) = go (g _ _ h)
    where
      go : {n y m : ℕ} {r : List ℕ} → N' n y ⊎ N'' n y → Along E' N' [] n (y ∷ r) m ⊎ Along E'' N'' [] n (y ∷ r) m
      go (inl a) = inl (next a)
      go (inr a) = inr (next a)
  branch f g (more h) = go (branch f g h)
    where
      go : {x n m : ℕ} {p q : List ℕ} → Along E' N' p n q m ⊎ Along E'' N'' p n q m
          → Along E' N' (x ∷ p) n (x ∷ q) m ⊎ Along E'' N'' (x ∷ p) n (x ∷ q) m
      go (inl a) = inl (more a)
      go (inr a) = inr (more a)

-- ---- one relation

module _ {E N : ℕ → ℕ → Type 0} where
  pub here : (p : List ℕ) {n m : ℕ} → E n m → Along E N p n p m
  here [] h = same h
  here (x ∷ p) h = more (here p h)

  pub there : (p : List ℕ) {n m : ℕ} (y : ℕ) (r : List ℕ) → N n y → Along E N p n (p ++ y ∷ r) m
  there [] y r h = next h
  there (x ∷ p) y r h = more (there p y r h)

  -- document 01's way of saying it: equal lists, or a strict prefix and the next entry
  pub places : {p q : List ℕ} {n m : ℕ} → Along E N p n q m → ((p ≡ q) × E n m) ⊎ ((y : ℕ) × (r : List ℕ) × (q ≡ p ++ y ∷ r) × N n y)
  places (same h) = inl (refl, h)
  places (next {y = y} {r = r} h) = inr (y, r, refl, h)
  places (more h) = go (places h)
    where
      go : {x n m : ℕ} {p q : List ℕ} → ((p ≡ q) × E n m) ⊎ ((y : ℕ) × (r : List ℕ) × (q ≡ p ++ y ∷ r) × N n y)
          → (((x ∷ p) ≡ (x ∷ q)) × E n m) ⊎ ((y : ℕ) × (r : List ℕ) × ((x ∷ q) ≡ (x ∷ p) ++ y ∷ r) × N n y)
      go {x} (inl h) = inl (ap (λ z. x ∷ z) h.0, h.1)
      go {x} (inr h) = inr (h.0, h.1, ap (λ z. x ∷ z) h.2, h.3)

  un-same : {n m : ℕ} → Along E N [] n [] m → E n m
  un-same (same h) = h

  un-more : {x y n m : ℕ} {p q : List ℕ} → Along E N (x ∷ p) n (y ∷ q) m → Along E N p n q m
  un-more (more h) = h

  pub only_here : (p : List ℕ) {n m : ℕ} → Along E N p n p m → E n m
  only_here [] h = un-same h
  only_here (x ∷ p) h = only_here p (un-more h)

-- ---- at most, at most

pub eq_or_lt : (a b : ℕ) → a ≤ b → (a ≡ b) ⊎ (a < b)
eq_or_lt a b h = elim (dec_lt a b) [ yes l ↦ inr l | no k ↦ inl (omega arith) ]

pub le-or-le : (a b : ℕ) → (a ≤ b) ⊎ (b ≤ a)
le-or-le a b = elim (dec_le a b) [ yes l ↦ inl l | no k ↦ inr (omega arith) ]

abbrev pub Upto : List ℕ → ℕ → List ℕ → ℕ → Type 0
Upto = Along (λ n m. n ≤ m) (λ n m. n ≤ m)

-- two trails along one third
module _ where
  ends : {n m : ℕ} → (n ≤ m) ⊎ (m ≤ n) → Upto [] n [] m ⊎ Upto [] m [] n
  ends (inl h) = inl (same h)
  ends (inr h) = inr (same h)

  pub alike : {p q r : List ℕ} {n m k : ℕ} → Upto p n r k → Upto q m r k → Upto p n q m ⊎ Upto q m p n
  alike (same h) (same k) = ends (le-or-le _ _)
  alike (next h) (next k) = ends (le-or-le _ _)
  alike (next h) (more k) = inl (next h)
  alike (more h) (next k) = inr (next k)
  alike (more h) (more k) = go (alike h k)
    where
      go : {x n m : ℕ} {p q : List ℕ} → Upto p n q m ⊎ Upto q m p n → Upto (x ∷ p) n (x ∷ q) m ⊎ Upto (x ∷ q) m (x ∷ p) n
      go (inl h) = inl (more h)
      go (inr h) = inr (more h)

  pub longer : {p q : List ℕ} {n m : ℕ} → Upto p n q m → (length p < length q) ⊎ ((p ≡ q) × (n ≤ m))
  longer (same h) = inr (refl, h)
  longer (next h) = inl (omega arith)
  longer (more h) = go (longer h)
    where
      go : {x n m : ℕ} {p q : List ℕ} → (length p < length q) ⊎ ((p ≡ q) × (n ≤ m)) → (length (x ∷ p) < length (x ∷ q)) ⊎ (((x ∷ p) ≡ (x ∷ q)) × (n ≤ m))
      go {x} (inl h) = inl (omega arith)
      go {x} (inr h) = inr (ap (λ z. x ∷ z) h.0, h.1)

-- ---- the relations between lives

abbrev pub SupersededAlong : Incarnation → Incarnation → Type 0
SupersededAlong = Trails (λ n m. n < m) (λ n m. n < m)

abbrev pub CheckpointedAlong : Incarnation → Incarnation → Type 0
CheckpointedAlong = Trails (λ n m. ⊥) (λ n m. n ≡ m)

pub superseded-along : (a b : Incarnation) → Superseded a b ↔ SupersededAlong a b
superseded-along a b = (to, λ h. from (places h))
  where
    to : Superseded a b → SupersededAlong a b
    to (lower e h) = rw e (here b.checkpoints h)
    to (passed y r e h) = rw e (there a.checkpoints y r h)

    from : ((a.checkpoints ≡ b.checkpoints) × (a.number < b.number))
        ⊎ ((y : ℕ) × (r : List ℕ) × (b.checkpoints ≡ a.checkpoints ++ y ∷ r) × (a.number < y)) → Superseded a b
    from (inl h) = lower h.0 h.1
    from (inr h) = passed h.0 h.1 h.2 h.3

pub checkpointed-along : (a b : Incarnation) → Checkpointed a b ↔ CheckpointedAlong a b
checkpointed-along a b = (to, λ h. from (places h))
  where
    to : Checkpointed a b → CheckpointedAlong a b
    to (begins r e) = rw e (there a.checkpoints a.number r refl)

    from : ((a.checkpoints ≡ b.checkpoints) × ⊥) ⊎ ((y : ℕ) × (r : List ℕ) × (b.checkpoints ≡ a.checkpoints ++ y ∷ r) × (a.number ≡ y)) → Checkpointed a b
    from (inl h) = absurd h.1
    from (inr h) = begins h.1 (rw h.3 h.2)
