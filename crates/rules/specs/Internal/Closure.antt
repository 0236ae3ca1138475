-- The signing rule, and what the takes need of a volume, as the code tests the image.
use Rattle.std.specs.Prelude.{ℕ, ◌+◌, ◌*◌, ◌^◌, ◌<◌, Bool, true, false, not, ◌≡◌, List, eqb, get_or}
use Rattle.octets.specs.Bytes.{pick, ◌and◌, ◌or◌, part, every}
use Rattle.octets.specs.Numbers.{bound}
use Rattle.marks.specs.declared.History.{History}
use Rattle.marks.specs.Incarnation.{checkpointed_in, same_incarnation}
use Rattle.marks.specs.History.{incarnation_of}
use Rattle.marks.specs.Packed.{present_in, unpack_history}
use Rattle.maps.specs.Map.{entry_of}
use Rattle.rules.specs.Layout.{Layout, history_bytes, state_at, creation_at, transactor_address}
use Rattle.rules.specs.State.{State, live, transactor_at, own_history}
use Rattle.rules.specs.Refusals.{group_bits, named}
use Rattle.rules.specs.Rules.{entry_ready}
use Rattle.rules.specs.Pack.{unpack}
use Rattle.rules.specs.ReadyGroups.{how_many, size_of}
use Rattle.rules.specs.Internal.Guards.{is_full}

-- the mark packed in img from at on, if there is one, of take u
unfoldable pub stored_ready : Layout → List ℕ → ℕ → ℕ → ℕ → Bool
stored_ready y img g at u =
    not (present_in (part at (history_bytes y) img))
    or entry_ready (unpack y img) g u (unpack_history y.width y.places (part at (history_bytes y) img))

-- the entries u of the state and creation maps of take t
unfoldable pub pair_ready : Layout → List ℕ → ℕ → ℕ → ℕ → Bool
pair_ready y img g t u =
    stored_ready y img g (transactor_address y t + state_at + history_bytes y * u) u
    and stored_ready y img g (transactor_address y t + creation_at y + history_bytes y * u) u

-- ---- document 02, W9: the present lives of the named takes, worked out once, before the entries are walked

-- take t, if named, is frozen
unfoldable pub stable_named : State → ℕ → ℕ → Bool
stable_named s g t = not (named g t) or (own_history t (transactor_at s t)).stable

-- of the first n takes, the volume v names those of which f holds, and no other take
pub record Names (f : ℕ → Bool) (n v : ℕ) : Type 0 where
  pub bits : v < 2 ^ n
  pub exactly : (t : ℕ) → t < n → named v t ≡ f t

-- "What is so kept is proved to be, for each named take, the life of its own mark"; it is kept as the mark itself. And v are the frozen
-- ones of the named takes, by what is kept.
pub record Presents (y : Layout) (s : State) (g : ℕ) (l : List History) (v : ℕ) : Type 0 where
  pub own : (t : ℕ) → t < y.transactors → named g t ≡ true → entry_of l t ≡ own_history t (transactor_at s t)
  pub stable : Names (λ t. named g t and (own_history t (transactor_at s t)).stable) y.transactors v

-- what the walk has of take u: of a named one that it is live, and its own mark
pub record Kept (s : State) (g u : ℕ) (h : History) : Type 0 where
  pub there : named g u ≡ true → live (transactor_at s u) ≡ true
  pub own : named g u ≡ true → h ≡ own_history u (transactor_at s u)

-- no mark, or one of the present life of take u, a named one
unfoldable pub in_group_at : Layout → List ℕ → ℕ → ℕ → ℕ → Bool
in_group_at y img g at u =
    not (present_in (part at (history_bytes y) img))
    or (named g u and same_incarnation (incarnation_of (unpack_history y.width y.places (part at (history_bytes y) img))) (incarnation_of (own_history u (transactor_at (unpack y img) u))))

-- a mark of a signed life of take u
unfoldable pub checkpointed_at : Layout → List ℕ → ℕ → ℕ → Bool
checkpointed_at y img at u =
    live (transactor_at (unpack y img) u)
    and checkpointed_in (incarnation_of (unpack_history y.width y.places (part at (history_bytes y) img))) (incarnation_of (own_history u (transactor_at (unpack y img) u)))

-- ---- document 02, W10: what the takes need of a volume

-- What the mark packed in img from at on, if there is one, of take u asks of a volume of takes of g: 0 nothing, 1 that it names u, 2 what no
-- such volume gives.
unfoldable pub asked_at : Layout → List ℕ → ℕ → ℕ → ℕ → ℕ
asked_at y img g at u = pick (stored_ready y img 0 at u) 0 (pick (stored_ready y img g at u) 1 2)

-- what the entries u of the state and creation maps of take t ask
unfoldable pub pair_asks : Layout → List ℕ → ℕ → ℕ → ℕ → ℕ
pair_asks y img g t u = pick (pair_ready y img 0 t u) 0 (pick (pair_ready y img g t u) 1 2)

-- take t needs take u: without it, t's entries u are not ready
unfoldable pub needs_of : Layout → List ℕ → ℕ → ℕ → Bool
needs_of y img t u = not (pair_ready y img 0 t u)

-- take t can be in a ready volume of takes of g: it is one of them, has room for a signing, and its entries ask for no more than g
unfoldable pub able : Layout → List ℕ → ℕ → ℕ → Bool
able y img g t = named g t and not (is_full (unpack y img) t) and every y.transactors (pair_ready y img g t)

-- take t can, and what it then needs
pub record Row (y : Layout) (img : List ℕ) (g t need : ℕ) : Type 0 where
  pub is : able y img g t ≡ true
  pub needed : Names (needs_of y img t) y.transactors need

-- of every take; g are the frozen ones
pub record Needed (y : Layout) (img : List ℕ) (l : List ℕ) (v : ℕ) : Type 0 where
  pub g : ℕ
  pub stable : Names (λ t. (own_history t (transactor_at (unpack y img) t)).stable) y.transactors g
  pub members : Names (able y img g) y.transactors v
  pub needed : (t : ℕ) → t < y.transactors → able y img g t ≡ true → Names (needs_of y img t) y.transactors (get_or l t 0)
  pub unneeded : (t : ℕ) → t < y.transactors → able y img g t ≡ false → get_or l t 0 ≡ 0

-- ---- volumes, by a list of what each take needs

-- every take of v is one of w
unfoldable pub inside : ℕ → ℕ → Bool
inside v w = every group_bits (λ t. not (named v t) or named w t)

-- volume w names takes of v alone, and what each of them needs
unfoldable pub meets : List ℕ → ℕ → ℕ → Bool
meets l v w = inside w v and every group_bits (λ t. not (named w t) or inside (get_or l t 0) w)

-- how many volumes with that many takes do
unfoldable pub met_count : List ℕ → ℕ → ℕ → ℕ
met_count l v size = how_many (bound 2) (λ w. eqb (size_of w) size and meets l v w)

-- it names what each of its takes needs
unfoldable pub Closed : List ℕ → ℕ → Type 0
Closed l w = (t : ℕ) → t < group_bits → named w t ≡ true → inside (get_or l t 0) w ≡ true

-- the least such volume with take t
pub record Closure (l : List ℕ) (t g : ℕ) : Type 0 where
  pub contains : named g t ≡ true
  pub closed : Closed l g
  pub least : (w : ℕ) → named w t ≡ true → Closed l w → inside g w ≡ true
