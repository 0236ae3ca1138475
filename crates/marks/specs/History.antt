-- Document 01, "Lives and marks": histories (marks), as the struct that the code passes by value.
use Rattle.std.specs.Prelude.{ℕ, ◌+◌, ◌≤◌, ◌<◌, Bool, true, false, ◌≡◌, length, take, get_or, set, ltb}
use Rattle.octets.specs.Bytes.{pick, zeros}
use Rattle.marks.specs.declared.History.{History}
use Rattle.marks.specs.Incarnation.{Incarnation, initial_incarnation, next_incarnation, checkpoint_incarnation}

-- The life of a mark: the mark without its frozen flag. The list's unused places are no part of it.
abbrev pub incarnation_of : History → Incarnation
incarnation_of h = record { checkpoints = take h.count h.checkpoints; number = h.incarnation }

-- The opening mark with room for l signings: unfrozen, n = 0, L empty.
abbrev pub initial_history : ℕ → History
initial_history l = record { stable = false; incarnation = 0; count = 0; checkpoints = zeros l }

-- Freeze sets the flag.
abbrev pub stabilized : History → History
stabilized h = record { stable = true; incarnation = h.incarnation; count = h.count; checkpoints = h.checkpoints }

-- A fall gives n + 1, unfrozen, same L.
abbrev pub rolled_back : History → History
rolled_back h = record { stable = false; incarnation = h.incarnation + 1; count = h.count; checkpoints = h.checkpoints }

-- Signing appends n to L, then n = 0, unfrozen.
abbrev pub checkpointed : History → History
checkpointed h = record { stable = false; incarnation = 0; count = h.count + 1; checkpoints = set h.checkpoints h.count h.incarnation }

-- Whether the newer of two marks is the right one: longer list; then greater n; then frozen; else the left one.
unfoldable pub is_older : History → History → Bool
is_older a b =
    pick (ltb a.count b.count) true
    (pick (ltb b.count a.count) false
    (pick (ltb a.incarnation b.incarnation) true
    (pick (ltb b.incarnation a.incarnation) false
    (pick a.stable false b.stable))))

-- The newer of two marks.
unfoldable pub newer_of : History → History → History
newer_of a b = pick (is_older a b) b a

-- A mark with room for l signings: the list has l places, the count uses no more, and those past it are zero.
pub record Roomy (l : ℕ) (h : History) : Type 0 where
  pub places : length h.checkpoints ≡ l
  pub within : h.count ≤ l
  pub unused : (i : ℕ) → h.count ≤ i → get_or h.checkpoints i 0 ≡ 0

-- ---- a mark without its unused places

-- A mark of a take: frozen or not, and a life.
pub record HistoryView : Type 0 where
  pub stable : Bool
  pub incarnation : Incarnation

abbrev pub view_of : History → HistoryView
view_of h = record { stable = h.stable; incarnation = incarnation_of h }

-- the opening mark
abbrev pub initial_view : HistoryView
initial_view = record { stable = false; incarnation = initial_incarnation }

-- Freeze, a fall and signing, as above.
abbrev pub stabilized_view : HistoryView → HistoryView
stabilized_view v = record { stable = true; incarnation = v.incarnation }

abbrev pub rolled_back_view : HistoryView → HistoryView
rolled_back_view v = record { stable = false; incarnation = next_incarnation v.incarnation }

abbrev pub checkpointed_view : HistoryView → HistoryView
checkpointed_view v = record { stable = false; incarnation = checkpoint_incarnation v.incarnation }

-- the mark whose list has no unused place
abbrev pub history_of : HistoryView → History
history_of v = record { stable = v.stable; incarnation = v.incarnation.number; count = length v.incarnation.checkpoints; checkpoints = v.incarnation.checkpoints }

-- the newer of two, as above
unfoldable pub newer_view : HistoryView → HistoryView → HistoryView
newer_view a b = view_of (newer_of (history_of a) (history_of b))

-- ---- for theorems

-- the newer of a and b: "longer list; then greater n; then frozen; else the left one"
pub data Newer (a b : History) : History → Type 0 where
  right-longer : a.count < b.count → Newer a b b
  left-longer : b.count < a.count → Newer a b a
  right-number : a.count ≡ b.count → a.incarnation < b.incarnation → Newer a b b
  left-number : a.count ≡ b.count → b.incarnation < a.incarnation → Newer a b a
  left-stable : a.count ≡ b.count → a.incarnation ≡ b.incarnation → a.stable ≡ true → Newer a b a
  right-stable : a.count ≡ b.count → a.incarnation ≡ b.incarnation → a.stable ≡ false → b.stable ≡ true → Newer a b b
  left-same : a.count ≡ b.count → a.incarnation ≡ b.incarnation → a.stable ≡ false → b.stable ≡ false → Newer a b a
