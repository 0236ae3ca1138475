use Rattle.std.proofs.Common.{arith, rules, List, ℕ, Bor, ◌<◌}
use Rattle.octets.proofs.Put.{length_part}
use Rattle.notation.proofs.Tabled.{row-at}
use Rattle.lines.proofs.Lining.{written-empty}
use Rattle.replies.proofs.Replying.{outcome-low, outcome-says, refusal-says, raw-says, step_part}
use Rattle.replies.proofs.reply_at.Goals as goal

pub bounds-r : goal.bounds-r
bounds-r c = omega (arith, outcome-low _ _ _ c.is_outcome.ensures c.if-is_outcome.true)

pub returns-then-is_outcome : goal.returns-then-is_outcome
returns-then-is_outcome c =
    let k : c.decode_reply-r.result.outcome < 6 = omega (arith, outcome-low _ _ _ c.is_outcome.ensures c.if-is_outcome.true) in
    outcome-says _ _ _ c.decode_reply-r.ensures _ (search rules) _ c.is_outcome.ensures _ _ _ c.if-is_outcome.true (written-empty _) c.word-l.ensures
    (search (rules, row-at {X = Bor (List ℕ)} (λ b. b.now))) c.fields.ensures

pub returns-then-is_refused : goal.returns-then-is_refused
returns-then-is_refused c =
    refusal-says _ _ _ c.decode_reply-r.ensures _ (search rules) _ c.is_outcome.ensures c.if-is_outcome.false _ c.is_refused.ensures _ c.if-is_refused.true (written-empty _) c.refused.ensures

pub returns : goal.returns
returns c =
    raw-says _ _ _ c.decode_reply-r.ensures _ (search rules) _ c.is_outcome.ensures c.if-is_outcome.false _ c.is_refused.ensures _ _ (length_part _ _ _ c.requires) c.if-is_refused.false
    (written-empty _) c.word.ensures (step_part _ _ _ _ c.hex.ensures)
