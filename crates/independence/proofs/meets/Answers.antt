use Rattle.std.proofs.Common.{rules, ◌∙◌, sym}
use Rattle.independence.proofs.Clauses.{played-good, played-says, meets-malformed, meets-refused, meets-heads, meets-transactors, meets-lists}
use Rattle.image.proofs.Lent.{good_in, formed-good}
use Rattle.independence.proofs.meets.Goals as goal

pub returns-then-malformed : goal.returns-then-malformed
returns-then-malformed c = (meets-malformed _ _ _ (sym c.malformed.ensures ∙ c.if-malformed.true), search rules)

pub returns-then-is_refusal : goal.returns-then-is_refusal
returns-then-is_refusal c =
    let n = c.requires in (
      meets-refused _ _ _ (sym c.malformed.ensures ∙ c.if-malformed.false) _ c.play-outcome.ensures.0 (sym c.is_refusal.ensures ∙ c.if-is_refusal.true),
      (played-good _ _ _ (good_in c.args.image.now) n.1 c.play-outcome.ensures.1).long,
    )

pub returns-then-heads_meet : goal.returns-then-heads_meet
returns-then-heads_meet c =
    let n = c.requires in (
      meets-heads _ _ _ (sym c.malformed.ensures ∙ c.if-malformed.false) _ c.play-outcome.ensures.0
          (sym c.is_refusal.ensures ∙ c.if-is_refusal.false) (sym c.heads_meet.ensures ∙ c.if-heads_meet.true),
      (played-good _ _ _ (good_in c.args.image.now) n.1 c.play-outcome.ensures.1).long,
    )

pub returns-then-changes_meet : goal.returns-then-changes_meet
returns-then-changes_meet c =
    let n = c.requires in (
      meets-transactors _ _ _ (sym c.malformed.ensures ∙ c.if-malformed.false) _ c.play-outcome.ensures.0
          (sym c.is_refusal.ensures ∙ c.if-is_refusal.false) (sym c.heads_meet.ensures ∙ c.if-heads_meet.false)
          (sym c.changes_meet.ensures ∙ c.if-changes_meet.true),
      (played-good _ _ _ (good_in c.args.image.now) n.1 c.play-outcome.ensures.1).long,
    )

pub invariant_of-played : goal.invariant_of-played
invariant_of-played c =
    let g = played-good _ _ _ (good_in c.args.image.now) c.requires.1 c.play-outcome.ensures.1 in
    record { octets = search rules; long = g.long; formed = formed-good g }

pub returns : goal.returns
returns c =
    let n = c.requires in (
      meets-lists _ _ _ (sym c.malformed.ensures ∙ c.if-malformed.false) _ c.play-outcome.ensures.0
          (sym c.is_refusal.ensures ∙ c.if-is_refusal.false) (sym c.heads_meet.ensures ∙ c.if-heads_meet.false)
          (sym c.changes_meet.ensures ∙ c.if-changes_meet.false) _ (played-says _ _ _ (good_in c.args.image.now) n.1 c.play-outcome.ensures.1) _ c.lists_meet.ensures,
      (played-good _ _ _ (good_in c.args.image.now) n.1 c.play-outcome.ensures.1).long,
    )
