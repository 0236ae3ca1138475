-- One mark of the state map changes.
use mathlib.Core.Path.{refl, sym, ap, ◌∙◌}
use borrow.Author.Rules.{rules}
use Rattle.marks.specs.History.{stabilized}
use Rattle.maps.proofs.Packed.{sized-unpack}
use Rattle.rules.specs.Layout.{base}
use Rattle.rules.specs.Rules.{freeze_by}
use Rattle.rules.specs.Pack.{unpack_transactor}
use Rattle.transactor.proofs.Bytes.{history-stored, own-bounded, acted-alone}
use Rattle.transactor.proofs.freeze.Goals as goal

pub store-requires : goal.store-requires
store-requires c = (search rules, rw c.stabilize-h.ensures (own-bounded _ _ c.own.ensures))

pub returns : goal.returns
unfolding freeze_by unpack_transactor
returns c =
    acted-alone refl c.outcome_of.ensures refl refl
    (history-stored base _ _ (sized-unpack _ _ _ _) c.requires.1 (sym c.requires.0.back) (c.stabilize-h.ensures ∙ ap stabilized c.own.ensures) c.store.ensures)
