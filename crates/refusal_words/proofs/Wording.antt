-- The code's rows are the definition's.
use Prim.Native.Nat.{ℕ, ◌-◌, ◌≤◌, ◌<◌}
use mathlib.Core.Bool.{true}
use mathlib.Core.Path.{◌≡◌, refl, ap, ◌∙◌}
use mathlib.Core.List.{List, []}
use native.Mathlib.Omega.{arith}
use borrow.Author.Tests.{leb-true, le-leb, lt-leb}
use lib.Dec.{leb}
use lib.ListN.{length, get_or, get_or-eq_default}
use Rattle.octets.specs.Bytes.{every}
use Rattle.octets.proofs.Chunks.{sides}
use Rattle.octets.proofs.Tests.{pick-view}
use Rattle.octets.proofs.Zero.{every-at}
use Rattle.lines.specs.declared.Line.{Line}
use Rattle.lines.specs.Lines.{line_room, written, plus, Says}
use Rattle.lines.proofs.Lining.{plus_none, says-short}
use Rattle.refusal_words.specs.Words.{refusals, refusal_words}
use mathlib.Core.Logic.{⊎_elim}

short-rows : every 20 (λ k. leb (length (get_or refusals k [])) 77) ≡ true
unfolding every
short-rows = refl

short-row : (k : ℕ) → k < 20 → length (get_or refusals k []) ≤ 77
short-row k h = leb-true (length (get_or refusals k [])) 77 (every-at (λ k. leb (length (get_or refusals k [])) 77) 20 k short-rows h)

module _ (l : Line) (sized : length l.bytes ≡ line_room) (n : ℕ) where
  pub words-low : n < 16 → written l ≡ plus (written l) (refusal_words n)
  unfolding refusal_words
  words-low h = rw (lt-leb 16 n h) (plus_none l sized)

  pub words-high : 35 < n → written l ≡ plus (written l) (refusal_words n)
  unfolding refusal_words
  words-high h = rw (le-leb 16 n (omega arith), get_or-eq_default refusals [] {n = n - 16} (omega arith)) (plus_none l sized)

pub words_row : (a b w : List ℕ) (n : ℕ) → b ≡ plus a w → 16 ≤ n → n ≤ 35 → w ≡ get_or refusals (n - 16) [] → b ≡ plus a (refusal_words n)
unfolding refusal_words
words_row a b w n e h g f = rw (le-leb 16 n h) (e ∙ ap (plus a) f)

-- they fit a line
pub words-short : (n : ℕ) → length (refusal_words n) ≤ 77
unfolding refusal_words
words-short n = pick-view (λ (w : List ℕ). length w ≤ 77) (leb 16 n) (get_or refusals (n - 16) []) [] (λ e. short (n - 16)) (λ e. omega arith)
  where
    short : (k : ℕ) → length (get_or refusals k []) ≤ 77
    short k = ⊎_elim (λ (h : k < 20). short-row k h) (λ (h : 20 ≤ k). rw (get_or-eq_default refusals [] {n = k} h) (omega arith)) (sides k 20)

pub words-said : (l : Line) (z : List ℕ) (n : ℕ) → length l.bytes ≡ line_room → z ≡ [] → written l ≡ plus z (refusal_words n) → Says l (refusal_words n)
words-said l z n s e f = says-short l z (refusal_words n) e f (omega (arith, words-short n)) s
