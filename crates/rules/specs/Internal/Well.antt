-- States that an image can hold, and states that document 01 calls well-formed, as facts for the laws.
use Rattle.std.specs.Prelude.{ℕ, ◌+◌, ◌≤◌, ◌<◌, true, false, ◌≡◌, length}
use Rattle.octets.specs.Numbers.{bound}
use Rattle.maps.specs.declared.DependenceMap.{DependenceMap}
use Rattle.maps.specs.Map.{held_at, empty_map}
use Rattle.maps.specs.Internal.Fitting.{MapOk, Bounded}
use Rattle.rules.specs.Layout.{Layout, Limits, widest, lowest}
use Rattle.rules.specs.Status.{unused, idle, busy, annihilated}
use Rattle.rules.specs.State.{Transactor, Message, State, bare, transactor_at, message_at, own_history}
use Rattle.rules.specs.Step.{Step}

-- ---- every field fits its bits

abbrev pub DependencesOk : Layout → DependenceMap → Type 0
DependencesOk y m = MapOk y.width y.places y.transactors m

pub record TransactorOk (y : Layout) (x : Transactor) : Type 0 where
  pub status : x.status < 4
  pub value : x.value < bound 4
  pub saved : x.saved < bound 4
  pub state : DependencesOk y x.state
  pub creation : DependencesOk y x.creation
  pub behaviour : DependencesOk y x.behaviour

pub record MessageOk (y : Layout) (m : Message) : Type 0 where
  pub addressee : m.addressee < 16
  pub number : m.number < bound 2
  pub value : m.value < bound 4
  pub dependences : DependencesOk y m.dependences

-- limits, stored or not
pub data LimitsOk (y : Layout) (m : Limits) : Type 0 where
  stored : y.limited ≡ true → m.transactors < 256 → m.messages < 256 → m.checkpoints < 256 → LimitsOk y m
  counted : y.limited ≡ false → m ≡ widest y → LimitsOk y m

-- a state that can be packed
pub record Packable (y : Layout) (s : State) : Type 0 where
  pub limits : LimitsOk y s.limits
  pub opened : s.opened < 256
  pub next : s.next < bound 2
  pub many : length s.transactors ≡ y.transactors
  pub few : length s.messages ≤ y.messages
  pub transactors : (t : ℕ) → t < y.transactors → TransactorOk y (transactor_at s t)
  pub messages : (k : ℕ) → k < length s.messages → MessageOk y (message_at s k)

pub record StepOk (p : Step) : Type 0 where
  pub kind : p.kind < 16
  pub transactor : p.transactor < 16
  pub other : p.other < 16
  pub zero : p.zero < 16
  pub message : p.message < bound 2
  pub value : p.value < bound 4

-- ---- the documents' clauses

-- limits in range
pub record Allowed (y : Layout) (m : Limits) : Type 0 where
  pub transactors-low : lowest y.limited y.transactors ≤ m.transactors
  pub transactors-high : m.transactors ≤ y.transactors
  pub messages-low : lowest y.limited y.messages ≤ m.messages
  pub messages-high : m.messages ≤ y.messages
  pub checkpoints-low : lowest y.limited y.places ≤ m.checkpoints
  pub checkpoints-high : m.checkpoints ≤ y.places

-- no mark of an unopened take, and none with more than c entries in its list
pub record Known (c opened : ℕ) (m : DependenceMap) : Type 0 where
  pub unheld : (i : ℕ) → opened ≤ i → held_at m i ≡ false
  pub counts : Bounded c m

pub data Live : ℕ → Type 0 where
  is-idle : Live idle
  is-busy : Live busy

pub record Alive (y : Layout) (c opened t : ℕ) (x : Transactor) : Type 0 where
  pub status : Live x.status
  pub state : Known c opened x.state
  pub creation : Known c opened x.creation
  pub behaviour : Known c opened x.behaviour
  -- its own mark
  pub own : held_at x.state t ≡ true
  -- never signed: no saved text
  pub saved : (own_history t x).count ≡ 0 → x.saved ≡ 0
  -- idle: no behaviour map
  pub behaves : x.status ≡ idle → x.behaviour ≡ empty_map y.places y.transactors

pub data TransactorFormed (y : Layout) (c opened t : ℕ) : Transactor → Type 0 where
  not_opened : opened ≤ t → TransactorFormed y c opened t (bare y unused)
  gone : t < opened → TransactorFormed y c opened t (bare y annihilated)
  alive : {x : Transactor} → t < opened → Alive y c opened t x → TransactorFormed y c opened t x

-- a state that is well-formed
pub record WellFormed (y : Layout) (s : State) : Type 0 where
  pub packable : Packable y s
  pub limits : Allowed y s.limits
  pub opened : s.opened ≤ s.limits.transactors
  pub waiting : length s.messages ≤ s.limits.messages
  pub transactors : (t : ℕ) → t < y.transactors → TransactorFormed y s.limits.checkpoints s.opened t (transactor_at s t)
  pub known : (k : ℕ) → k < length s.messages → Known s.limits.checkpoints s.opened (message_at s k).dependences
  pub order : (k : ℕ) → k + 1 < length s.messages → (message_at s k).number < (message_at s (k + 1)).number
  pub numbers : (k : ℕ) → k < length s.messages → (message_at s k).number < s.next
  pub addressees : (k : ℕ) → k < length s.messages → (message_at s k).addressee < s.opened
