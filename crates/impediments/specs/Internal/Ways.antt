-- Who rests on each take through others, and the next on a chain there, as the code works it out; for internal functions alone.
use Rattle.std.specs.Prelude.{ℕ, ◌^◌, ◌<◌, ◌≡◌, List, get_or}
use Rattle.std.specs.Int.Bits.{bit_or}
use Rattle.octets.specs.Bytes.{pick}
use Rattle.rules.specs.Layout.{Layout}
use Rattle.rules.specs.State.{State}
use Rattle.rules.specs.Refusals.{named}
use Rattle.rules.specs.Dependents.{group_of, through_at}
use Rattle.rules.specs.Impediment.{next_at}

-- f of each of the first n places stands there
pub record Filled (f : ℕ → ℕ) (n : ℕ) (l : List ℕ) : Type 0 where
  pub is : (c : ℕ) → c < n → get_or l c 0 ≡ f c

-- who rests on take c directly, by a list of these, and take c
unfoldable pub first_row : List ℕ → ℕ → ℕ
first_row resting c = bit_or (get_or resting c 0) (2 ^ c)

abbrev pub itself : ℕ → ℕ
itself c = c

-- the row of take c, with that of take k if it names k
unfoldable pub wider_row : List ℕ → ℕ → ℕ → ℕ
wider_row rows k c = pick (named (get_or rows c 0) k) (bit_or (get_or rows c 0) (get_or rows k 0)) (get_or rows c 0)

-- the next from take t to take c if t is in its row, else that to take k
unfoldable pub kept_next : List ℕ → List ℕ → ℕ → ℕ → ℕ → ℕ
kept_next rows nexts t k c = pick (named (get_or rows c 0) t) (get_or nexts c 0) (get_or nexts k 0)

-- with the first k takes to pass through
pub record Reached (y : Layout) (s : State) (k t : ℕ) (rows nexts : List ℕ) : Type 0 where
  pub through : Filled (λ c. group_of y.transactors (through_at s k c)) y.transactors rows
  pub next : Filled (λ c. next_at s k c t) y.transactors nexts
