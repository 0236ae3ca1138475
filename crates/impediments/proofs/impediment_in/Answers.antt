-- One manner after the other.
use Rattle.std.proofs.Common.{refl, ◌∙◌}
use Rattle.rules.specs.Layout.{base}
use Rattle.impediments.proofs.Impeding.{found-or, answer-hopeless, answer-exhausted, answer-unstable, answer-nothing}
use Rattle.impediments.proofs.impediment_in.Goals as goal

pub returns-in-Some : goal.returns-in-Some
returns-in-Some c =
    let f = c.in-Some.ensures in
    answer-hopeless base _ _ c.requires.1 f.0 f.1 (c.unwrap_or-support.ensures ∙ found-or _ _ _ c.lost_ground.ensures) refl

pub returns-in-Some-lowest : goal.returns-in-Some-lowest
returns-in-Some-lowest c = let f = c.in-Some-lowest.ensures in answer-exhausted base _ _ c.requires.1 c.in_default.ensures f.0 f.1 refl

pub returns-in-Some-lowest-2 : goal.returns-in-Some-lowest-2
returns-in-Some-lowest-2 c = let f = c.in-Some-lowest-2.ensures in answer-unstable base _ _ c.requires.1 c.in_default.ensures c.in_default-lowest.ensures f.0 f.1 refl

pub returns : goal.returns
returns c = answer-nothing base _ _ c.requires.1 c.in_default.ensures c.in_default-lowest.ensures c.in_default-lowest-2.ensures
