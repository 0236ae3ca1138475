-- How lives of one take follow each other. A life (L; n) as a trail: L followed by n.
use Rattle.std.specs.Prelude.{ℕ, ◌≤◌, ◌≡◌, List, [], ◌∷◌}
use Rattle.marks.specs.Incarnation.{Incarnation, next_incarnation, checkpoint_incarnation}

-- One trail along another: entry by entry the same, up to where the first one's list ends.
-- E relates the two numbers where both lists end; N the first one's number and the other's next entry.
pub data Along (E N : ℕ → ℕ → Type 0) : List ℕ → ℕ → List ℕ → ℕ → Type 0 where
  same : {n m : ℕ} → E n m → Along E N [] n [] m
  next : {n y m : ℕ} {r : List ℕ} → N n y → Along E N [] n (y ∷ r) m
  more : {x n m : ℕ} {p q : List ℕ} → Along E N p n q m → Along E N (x ∷ p) n (x ∷ q) m

-- the same between lives
abbrev pub Trails : (ℕ → ℕ → Type 0) → (ℕ → ℕ → Type 0) → Incarnation → Incarnation → Type 0
Trails E N a b = Along E N a.checkpoints a.number b.checkpoints b.number

-- a is b, or signed in b
abbrev pub Under : Incarnation → Incarnation → Type 0
Under = Trails (λ n m. n ≡ m) (λ n m. n ≡ m)

-- a is a past or present life of the take whose present life is b
abbrev pub Precedes : Incarnation → Incarnation → Type 0
Precedes = Trails (λ n m. n ≤ m) (λ n m. n ≤ m)

-- how the present life of a take moves on: a freeze leaves it as it is
pub data Step (a : Incarnation) : Incarnation → Type 0 where
  stabilize : Step a a
  rollback : Step a (next_incarnation a)
  checkpoint : Step a (checkpoint_incarnation a)
