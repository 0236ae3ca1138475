-- The fault of a text: the first line that says no step, and in it the first word with which no line goes on that says a step.
use Rattle.std.specs.Prelude.{ℕ, suc, ◌+◌, ◌-◌, ◌≤◌, ◌<◌, Bool, true, false, not, ◌≡◌, List, [], ◌∷◌, ◌++◌, eqb, length, take, drop, get_or}
use Rattle.octets.specs.Bytes.{◌and◌, ◌or◌}
use Rattle.rules.specs.declared.Step.{Step}
use Rattle.rules.specs.Step.{step_bytes}
use Rattle.notation.specs.Notation.{group_field, whole_step, name_of}
use Rattle.notation.specs.Reading.{blank, in_word, word_at, a_kind, comma_or_brace, line_end, room, lines_of, said}
use Rattle.notation.specs.Grammar.{Blanks, Item, Says, Lines}

-- line n, column c of the text t, both from 1: at one of its bytes, or right behind the line's last
pub record At (t : List ℕ) (n c : ℕ) : Type 0 where
  pub line_from : 1 ≤ n
  pub line_up_to : n ≤ length (lines_of t)
  pub column_from : 1 ≤ c
  pub column_up_to : c ≤ suc (length (get_or (lines_of t) (n - 1) []))

-- the last byte of l, or x where l has none
unfoldable pub last_or : ℕ → List ℕ → ℕ
last_or x [] = x
last_or x (c ∷ l) = last_or c l

-- no word runs on from u into v; a space stands for a byte that is not there
unfoldable pub parted : List ℕ → List ℕ → Bool
parted u v = not (in_word (last_or 32 u) and in_word (get_or v 0 32))

-- the text u, its last word whole, goes on to a line that says a step
pub record Next (u : List ℕ) : Type 0 where
  pub rest : List ℕ
  pub step : Step
  pub says : Says (u ++ rest) step
  pub whole : parted u rest ≡ true

-- at place at of the line s there is no e
pub data Lacking (s : List ℕ) (at : ℕ) : ℕ → Type 0 where
  no_item : (c : ℕ) → 1 ≤ c → c ≤ whole_step → (c ≡ group_field → ⊥) → ((q r : Step) → Item q c (word_at s at) r → ⊥) → Lacking s at c
  no_group : (get_or s at 0 ≡ 123 → ⊥) → Lacking s at group_field
  no_comma : (get_or s at 0 ≡ 44 → ⊥) → (get_or s at 0 ≡ 125 → ⊥) → Lacking s at comma_or_brace
  no_kind : ((k : ℕ) → k < 14 → name_of k ≡ word_at s at → ⊥) → Lacking s at a_kind
  no_end : at < length s → Lacking s at line_end

-- whether e is a word: a kind, a number, to, text or sixteen digits; else it is a brace, a comma or the line's end
unfoldable pub a_word : ℕ → Bool
a_word e = not (eqb e group_field or eqb e comma_or_brace or eqb e line_end)

-- Place at of the line l, from 0, where e was expected.
pub record Column (l : List ℕ) (at e : ℕ) : Type 0 where
  pub within : at ≤ length (said l)
  -- no word runs over it
  pub whole : parted (take at (said l)) (drop at (said l)) ≡ true
  -- what stands before it goes on
  pub goes : Next (take at l)
  -- but no line m that says a step begins so and has there what l has: the same byte or end, and the same word if one was expected
  pub stops : (m : List ℕ) (p : Step) → Says (said m) p → take (suc at) m ≡ take (suc at) l → (a_word e ≡ true → word_at (said m) at ≡ word_at (said l) at) → ⊥
  -- and what l has there is no e
  pub lacks : Lacking (said l) at e

-- Place at is the first of the line l that is no blank.
pub record FirstByte (l : List ℕ) (at : ℕ) : Type 0 where
  pub blanks : Blanks (take at l)
  pub there : at < length l
  pub byte : blank (get_or l at 0) ≡ false

-- why reading stops at place at of the line l, after a list of long bytes: the line says no step, or there is no room for its step
pub data Stop (most : ℕ) (l : List ℕ) (long at e : ℕ) : Type 0 where
  unsaid : (Blanks (said l) → ⊥) → ((p : Step) → Says (said l) p → ⊥) → (e ≡ room → ⊥) → Column l at e → Stop most l long at e
  filled : (p : Step) → Says (said l) p → most < long + step_bytes → e ≡ room → FirstByte l at → Stop most l long at e

-- the first line at which reading stops: line n, column c of the text t, from 1
pub record First (most : ℕ) (t : List ℕ) (n c e : ℕ) : Type 0 where
  pub from : 1 ≤ n
  pub up_to : n ≤ length (lines_of t)
  pub column : 1 ≤ c
  -- what the lines before it say
  pub list : List ℕ
  pub before : Lines (take (n - 1) (lines_of t)) list
  -- for which there is room: reading did not stop there
  pub fits : length list ≤ most
  pub here : Stop most (get_or (lines_of t) (n - 1) []) (length list) (c - 1) e
