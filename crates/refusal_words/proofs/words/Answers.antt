-- No words, or the row of that number.
use Rattle.std.proofs.Common.{rules, arith, List, ℕ, Bor, ◌-◌, ◌<◌}
use Rattle.notation.proofs.Tabled.{row-at}
use Rattle.refusal_words.proofs.Wording.{words-low, words-high, words_row}
use Rattle.refusal_words.proofs.words.Goals as goal

pub returns-in-16-to-35 : goal.returns-in-16-to-35
returns-in-16-to-35 c =
    let k : c.args.n - 16 < 20 = omega arith in
    words_row _ _ _ _ c.word.ensures (omega arith) (omega arith) (search (rules, row-at {X = Bor (List ℕ)} (λ b. b.now)))

pub returns-in_default : goal.returns-in_default
returns-in_default c = words-low _ (search rules) _ (omega arith)

pub returns-in_default-2 : goal.returns-in_default-2
returns-in_default-2 c = words-high _ (search rules) _ (omega arith)
