-- Compared with what is kept of a named transactor, or with the own history of another where it stands.
use Rattle.std.proofs.Common.{sym, ◌∙◌, rules}
use Rattle.image.proofs.Lent.{good_in}
use Rattle.rules.specs.Layout.{base}
use Rattle.rules.proofs.Pack.Loads.{read_history}
use Rattle.rules.proofs.Groups.Ready.{own-count, checkpointed-named, checkpointed-dead, checkpointed-live}
use Rattle.group.proofs.checkpointed.Goals as goal

pub checkpointed_by-requires : goal.checkpointed_by-requires
checkpointed_by-requires c =
    (search rules, own-count _ (good_in c.args.image.now) _ (search rules) _ (c.requires.2.own (sym c.is_named.ensures ∙ c.if-is_named.true)))

pub returns-then-is_named : goal.returns-then-is_named
returns-then-is_named c = c.checkpointed_by.ensures ∙ checkpointed-named base _ _ _ _ c.requires.2 (sym c.is_named.ensures ∙ c.if-is_named.true)

pub returns-then-not-is_live : goal.returns-then-not-is_live
returns-then-not-is_live c = checkpointed-dead base _ 0 _ _ (sym c.is_live.ensures ∙ c.if-not-is_live.true)

pub returns : goal.returns
returns c =
    (rw c.own_at.ensures at c.checkpointed_in.ensures)
    ∙ checkpointed-live base _ 0 _ _ (sym c.is_live.ensures ∙ c.if-not-is_live.false) _ (sym (read_history base _ _ (search rules) _ (search rules)))
