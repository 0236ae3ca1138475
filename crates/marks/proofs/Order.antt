-- Laws on lives, over lists of any length and numbers of any width.
use Prim.Native.Nat.{ℕ, ◌+◌, ◌≤◌, ◌<◌}
use mathlib.Core.Path.{◌≡◌, refl, ap, sym, ◌∙◌}
use mathlib.Core.List.{List, [], ◌∷◌, ◌++◌}
use mathlib.Core.Logic.{◌⊎◌, inl, inr, ⊎_elim}
use native.Mathlib.Omega.{arith}
use lib.ListN.{length, length-append}
use Rattle.marks.specs.Incarnation.{Incarnation, initial_incarnation, next_incarnation, checkpoint_incarnation, Superseded, lower, Checkpointed, begins}
use Rattle.marks.proofs.Trail.{weaken, clash, follow, branch, here, places, only_here, eq_or_lt, alike, longer, SupersededAlong, superseded-along, CheckpointedAlong, checkpointed-along}
use Rattle.marks.specs.Order.{Step, stabilize, rollback, checkpoint, Along, same, next, more, Under, Precedes}

-- the relations of specs as trails
s-to : {a b : Incarnation} → Superseded a b → SupersededAlong a b
s-to {a} {b} = (superseded-along a b).0

s-of : {a b : Incarnation} → SupersededAlong a b → Superseded a b
s-of {a} {b} = (superseded-along a b).1

c-to : {a b : Incarnation} → Checkpointed a b → CheckpointedAlong a b
c-to {a} {b} = (checkpointed-along a b).0

c-of : {a b : Incarnation} → CheckpointedAlong a b → Checkpointed a b
c-of {a} {b} = (checkpointed-along a b).1

-- ---- one in another

pub checkpointed-under : {a b : Incarnation} → Checkpointed a b → Under a b
checkpointed-under s = weaken (λ n m h. absurd h) (λ n m h. h) (c-to s)

pub under-precedes : {a b : Incarnation} → Under a b → Precedes a b
under-precedes = weaken (λ n m. omega arith) (λ n m. omega arith)

pub checkpointed-precedes : {a b : Incarnation} → Checkpointed a b → Precedes a b
checkpointed-precedes s = under-precedes (checkpointed-under s)

pub superseded-precedes : {a b : Incarnation} → Superseded a b → Precedes a b
superseded-precedes s = weaken (λ n m. omega arith) (λ n m. omega arith) (s-to s)

-- ---- the same life

pub under-refl : (a : Incarnation) → Under a a
under-refl a = here a.checkpoints refl

pub precedes-refl : (a : Incarnation) → Precedes a a
precedes-refl a = under-precedes (under-refl a)

pub under-eq : {a b : Incarnation} → a ≡ b → Under a b
under-eq {a} {b} e = rw e (under-refl b)

pub precedes-eq : {a b : Incarnation} → a ≡ b → Precedes a b
precedes-eq e = under-precedes (under-eq e)

-- ---- what excludes what

pub superseded-not-under : {a b : Incarnation} → Superseded a b → Under a b → ⊥
superseded-not-under s = clash (λ n m. omega arith) (λ n m. omega arith) (s-to s)

pub superseded-not-checkpointed : {a b : Incarnation} → Superseded a b → Checkpointed a b → ⊥
superseded-not-checkpointed s k = superseded-not-under s (checkpointed-under k)

pub superseded-ne : {a b : Incarnation} → Superseded a b → a ≡ b → ⊥
superseded-ne s e = superseded-not-under s (under-eq e)

pub superseded-irrefl : {a : Incarnation} → Superseded a a → ⊥
superseded-irrefl s = superseded-ne s refl

pub checkpointed-irrefl : {a : Incarnation} → Checkpointed a a → ⊥
checkpointed-irrefl {a} s = only_here a.checkpoints (c-to s)

pub checkpointed-ne : {a b : Incarnation} → Checkpointed a b → a ≡ b → ⊥
checkpointed-ne s e = checkpointed-irrefl (rw e at s)

-- a life with the present list is not signed
pub checkpointed-longer : {a b : Incarnation} → Checkpointed a b → a.checkpoints ≡ b.checkpoints → ⊥
checkpointed-longer {a} {b} (begins r e) f =
    let n : length a.checkpoints ≡ length a.checkpoints + length (a.number ∷ r) = ap length (f ∙ e) ∙ length-append a.checkpoints (a.number ∷ r) in
    omega arith

-- ---- one after the other

pub precedes-trans : {a b c : Incarnation} → Precedes a b → Precedes b c → Precedes a c
precedes-trans = follow (λ n m k. omega arith) (λ n m k. omega arith) (λ n m h. h)

pub under-trans : {a b c : Incarnation} → Under a b → Under b c → Under a c
under-trans = follow (λ n m k. omega arith) (λ n m k. omega arith) (λ n m h. h)

pub superseded-up : {a b c : Incarnation} → Superseded a b → Precedes b c → Superseded a c
superseded-up s h = s-of (follow (λ n m k. omega arith) (λ n m k. omega arith) (λ n m h. h) (s-to s) h)

pub checkpointed-up : {a b c : Incarnation} → Checkpointed a b → Precedes b c → Checkpointed a c
checkpointed-up s h = c-of (follow (λ n m k h. absurd h) (λ n m k h. absurd h) (λ n m h. h) (c-to s) h)

pub under-checkpointed : {a b c : Incarnation} → Under a b → Checkpointed b c → Checkpointed a c
under-checkpointed h s = c-of (follow (λ n m k h g. g) (λ n m k. omega arith) (λ n m h. h) h (c-to s))

-- ---- one of two

pub precedes-split : {a b : Incarnation} → Precedes a b → Under a b ⊎ Superseded a b
precedes-split {a} {b} h = go (branch eq_or_lt eq_or_lt h)
  where
    go : Under a b ⊎ SupersededAlong a b → Under a b ⊎ Superseded a b
    go (inl k) = inl k
    go (inr k) = inr (s-of k)

pub under_split : {a b : Incarnation} → Under a b → (a ≡ b) ⊎ Checkpointed a b
under_split {a} {b} h = go (places h)
  where
    go : ((a.checkpoints ≡ b.checkpoints) × (a.number ≡ b.number))
        ⊎ ((y : ℕ) × (r : List ℕ) × (b.checkpoints ≡ a.checkpoints ++ y ∷ r) × (a.number ≡ y)) → (a ≡ b) ⊎ Checkpointed a b
    go (inl e) = inl (λ i. record { checkpoints = e.0 i; number = e.1 i })
    go (inr e) = inr (begins e.1 (rw e.3 e.2))

pub comparable : {a b c : Incarnation} → Precedes a c → Precedes b c → Precedes a b ⊎ Precedes b a
comparable h k = alike h k

-- p and j are the newest lives of two sets, a is in p's and b in j's. If a is superseded by b and not by p, then p is superseded by
-- j: a is superseded by j and under p, so p under j would put a under j, and j before p would make a superseded by p.
pub newest-superseded : {a b p j c : Incarnation} → Superseded a b → Precedes b j → Precedes a p → (Superseded a p → ⊥) → Precedes p c → Precedes j c → Superseded p j
newest-superseded {a} {b} {p} {j} s bj ap nap pc jc = go (comparable pc jc)
  where
    aj : Superseded a j
    aj = superseded-up s bj

    under : Under a p
    under = ⊎_elim (λ u. u) (λ t. absurd (nap t)) (precedes-split ap)

    go : Precedes p j ⊎ Precedes j p → Superseded p j
    go (inl h) = ⊎_elim (λ u. absurd (superseded-not-under aj (under-trans under u))) (λ t. t) (precedes-split h)
    go (inr h) = absurd (nap (superseded-up aj h))

-- ---- document 01's order: longer list, then greater n

pub precedes-size : {a b : Incarnation} → Precedes a b
    → (length a.checkpoints < length b.checkpoints) ⊎ ((a.checkpoints ≡ b.checkpoints) × (a.number ≤ b.number))
precedes-size h = longer h

-- what precedes is not the later one in that order
pub later-size : {a b : Incarnation} → Precedes a b
    → (length b.checkpoints < length a.checkpoints) ⊎ ((length b.checkpoints ≡ length a.checkpoints) × (b.number < a.number)) → ⊥
later-size {a} {b} h k = go (precedes-size h) k
  where
    go : (length a.checkpoints < length b.checkpoints) ⊎ ((a.checkpoints ≡ b.checkpoints) × (a.number ≤ b.number))
        → (length b.checkpoints < length a.checkpoints) ⊎ ((length b.checkpoints ≡ length a.checkpoints) × (b.number < a.number)) → ⊥
    go (inl m) (inl k) = omega arith
    go (inl m) (inr k) = omega arith
    go (inr m) (inl k) = omega (arith, ap length m.0)
    go (inr m) (inr k) = omega arith

pub by_size : {a b c : Incarnation} → Precedes a c → Precedes b c → length a.checkpoints < length b.checkpoints → Precedes a b
by_size {a} {b} {c} h k l = go (comparable h k)
  where
    go : Precedes a b ⊎ Precedes b a → Precedes a b
    go (inl m) = m
    go (inr m) = absurd (later-size m (inl l))

pub same-list : {a b c : Incarnation} → Precedes a c → Precedes b c → length a.checkpoints ≡ length b.checkpoints → a.checkpoints ≡ b.checkpoints
same-list {a} {b} {c} h k l = go (comparable h k)
  where
    side : {x y : Incarnation} → length x.checkpoints ≡ length y.checkpoints
        → (length x.checkpoints < length y.checkpoints) ⊎ ((x.checkpoints ≡ y.checkpoints) × (x.number ≤ y.number)) → x.checkpoints ≡ y.checkpoints
    side l (inl m) = absurd (omega arith)
    side l (inr m) = m.0

    go : Precedes a b ⊎ Precedes b a → a.checkpoints ≡ b.checkpoints
    go (inl m) = side l (precedes-size m)
    go (inr m) = sym (side (sym l) (precedes-size m))

pub by_number : {a b c : Incarnation} → Precedes a c → Precedes b c → length a.checkpoints ≡ length b.checkpoints → a.number ≤ b.number → Precedes a b
by_number {a} {b} {c} h k l n = rw (same-list h k l) (here b.checkpoints n)

pub same-incarnation : {a b : Incarnation} → Precedes a b → length a.checkpoints ≡ length b.checkpoints → a.number ≡ b.number → a ≡ b
same-incarnation {a} {b} h e n = let l = same-list h (precedes-refl b) e in λ i. record { checkpoints = l i; number = n i }

pub precedes-antisym : {a b : Incarnation} → Precedes a b → Precedes b a → a ≡ b
precedes-antisym {a} {b} h k = go (precedes-size h) (precedes-size k)
  where
    go : (length a.checkpoints < length b.checkpoints) ⊎ ((a.checkpoints ≡ b.checkpoints) × (a.number ≤ b.number))
        → (length b.checkpoints < length a.checkpoints) ⊎ ((b.checkpoints ≡ a.checkpoints) × (b.number ≤ a.number)) → a ≡ b
    go (inl m) (inl k) = absurd (omega arith)
    go (inl m) (inr k) = absurd (omega (arith, ap length k.0))
    go (inr m) (inl k) = absurd (omega (arith, ap length m.0))
    go (inr m) (inr k) = let n : a.number ≡ b.number = omega arith in λ i. record { checkpoints = m.0 i; number = n i }

-- ---- the first life

pub initial-precedes : (a : Incarnation) → Precedes initial_incarnation a
initial-precedes a = go a.checkpoints a.number
  where
    go : (p : List ℕ) (n : ℕ) → Precedes initial_incarnation (record { checkpoints = p; number = n })
    go [] n = same {n = 0} {m = n} (omega arith)
    go (x ∷ p) n = next {n = 0} {y = x} (omega arith)

pub precedes-initial : {a : Incarnation} → Precedes a initial_incarnation → a ≡ initial_incarnation
precedes-initial {a} h = precedes-antisym h (initial-precedes a)

-- ---- a fall, a signing

pub superseded-next : (a : Incarnation) → Superseded a (next_incarnation a)
superseded-next a = lower refl (omega arith)

pub precedes-next : (a : Incarnation) → Precedes a (next_incarnation a)
precedes-next a = superseded-precedes (superseded-next a)

-- the life signed last before a
pub before-checkpointed : (a c : Incarnation) → a.checkpoints ≡ c.checkpoints ++ c.number ∷ [] → Checkpointed c a
before-checkpointed a c e = begins [] e

pub checkpointed-checkpoint : (a : Incarnation) → Checkpointed a (checkpoint_incarnation a)
checkpointed-checkpoint a = before-checkpointed (checkpoint_incarnation a) a refl

pub precedes-checkpoint : (a : Incarnation) → Precedes a (checkpoint_incarnation a)
precedes-checkpoint a = checkpointed-precedes (checkpointed-checkpoint a)

-- a list ends in a number, and another along it ends before that number or with it
checkpointed-snoc : (p q : List ℕ) (n m k : ℕ) → Along (λ n m. ⊥) (λ n m. n ≡ m) p n (q ++ m ∷ []) k → Along (λ n m. ⊥) (λ n m. n ≡ m) p n q m ⊎ ((p ≡ q) × (n ≡ m))
checkpointed-snoc [] [] n m k (next h) = inr (refl, h)
checkpointed-snoc [] (y ∷ q) n m k (next h) = inl (next h)
checkpointed-snoc (x ∷ p) [] n m k (more h) = absurd (none p h)
  where
    none : (p : List ℕ) {n k : ℕ} → Along (λ n m. ⊥) (λ n m. n ≡ m) p n [] k → ⊥
    none [] (same h) = h
    none (x ∷ p) h = elim h [ ]
checkpointed-snoc (x ∷ p) (y ∷ q) n m k (more h) = go (checkpointed-snoc p q n m k h)
  where
    go : Along (λ n m. ⊥) (λ n m. n ≡ m) p n q m ⊎ ((p ≡ q) × (n ≡ m)) → Along (λ n m. ⊥) (λ n m. n ≡ m) (x ∷ p) n (x ∷ q) m ⊎ (((x ∷ p) ≡ (x ∷ q)) × (n ≡ m))
    go (inl z) = inl (more z)
    go (inr z) = inr (ap (λ l. x ∷ l) z.0, z.1)

-- signed after a signing: signed before it, or by it
pub checkpointed-split : (a c : Incarnation) → Checkpointed a (checkpoint_incarnation c) → Checkpointed a c ⊎ (a ≡ c)
checkpointed-split a c s = go (checkpointed-snoc a.checkpoints c.checkpoints a.number c.number 0 (c-to s))
  where
    go : CheckpointedAlong a c ⊎ ((a.checkpoints ≡ c.checkpoints) × (a.number ≡ c.number)) → Checkpointed a c ⊎ (a ≡ c)
    go (inl z) = inl (c-of z)
    go (inr z) = inr (λ i. record { checkpoints = z.0 i; number = z.1 i })

-- signed goes by the list alone
pub checkpointed-list : {a b c : Incarnation} → b.checkpoints ≡ c.checkpoints → Checkpointed a b → Checkpointed a c
checkpointed-list e (begins r f) = begins r (sym e ∙ f)

pub step-precedes : {a b : Incarnation} → Step a b → Precedes a b
step-precedes {a} stabilize = precedes-refl a
step-precedes {a} rollback = precedes-next a
step-precedes {a} checkpoint = precedes-checkpoint a

-- a superseded life stays superseded, a signed one stays signed
pub superseded-step : {a b c : Incarnation} → Superseded a b → Step b c → Superseded a c
superseded-step s k = superseded-up s (step-precedes k)

pub checkpointed-step : {a b c : Incarnation} → Checkpointed a b → Step b c → Checkpointed a c
checkpointed-step s k = checkpointed-up s (step-precedes k)
