-- No history, or one to compare with the own one, where it stands.
use Rattle.image.proofs.Lent.{good_in}
use Rattle.std.proofs.Common.{rules, not, sym, ap, ◌∙◌}
use Rattle.rules.specs.Layout.{base}
use Rattle.rules.proofs.Pack.Loads.{read_history}
use Rattle.rules.proofs.Groups.Dependents.{present-absent, present-same}
use Rattle.rules.proofs.Pack.Rooms.{room-state}
use Rattle.grounds.proofs.holds.Goals as goal

pub same_in-requires : goal.same_in-requires
same_in-requires c =
    let p = c.requires in
    (search rules, search rules, p.2, rw c.own_at.ensures (room-state _ (good_in c.args.image.now) _ p.1 _ p.1))

pub returns-then-present : goal.returns-then-present
returns-then-present c =
    (rw c.own_at.ensures at c.same_in.ensures)
    ∙ present-same base _ _ (search rules) _ (ap not (sym c.present.ensures ∙ c.if-present.true)) _ (sym (read_history base _ _ (search rules) _ (search rules)))

pub returns-else-present : goal.returns-else-present
returns-else-present c = c.if-present.false ∙ present-absent base _ _ (search rules) _ (ap not (sym c.present.ensures ∙ c.if-present.false))
