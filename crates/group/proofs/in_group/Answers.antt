-- No history, or one of another transactor than the named ones, or one to compare with what is kept.
use Rattle.std.proofs.Common.{sym, ap, ◌∙◌, not, rules}
use Rattle.image.proofs.Lent.{good_in}
use Rattle.rules.specs.Layout.{base}
use Rattle.rules.proofs.Groups.Ready.{own-count, in-group-absent, in-group-unnamed, in-group-same}
use Rattle.group.proofs.in_group.Goals as goal

pub returns-then-not-present : goal.returns-then-not-present
returns-then-not-present c = in-group-absent base _ _ _ _ (ap not (sym c.present.ensures ∙ c.if-not-present.true))

pub returns-then-not-is_named : goal.returns-then-not-is_named
returns-then-not-is_named c = in-group-unnamed base _ _ _ _ (ap not (sym c.present.ensures ∙ c.if-not-present.false)) (sym c.is_named.ensures ∙ c.if-not-is_named.true)

pub same_as-requires : goal.same_as-requires
same_as-requires c = (search rules, own-count _ (good_in c.args.image.now) _ (search rules) _ (c.requires.2.own (sym c.is_named.ensures ∙ c.if-not-is_named.false)))

pub returns : goal.returns
returns c =
    c.same_as.ensures
    ∙ in-group-same base _ _ _ _ (ap not (sym c.present.ensures ∙ c.if-not-present.false)) c.requires.2 (sym c.is_named.ensures ∙ c.if-not-is_named.false)
