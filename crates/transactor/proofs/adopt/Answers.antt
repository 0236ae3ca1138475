-- The behaviour map changes.
use mathlib.Core.Path.{sym, ◌∙◌}
use native.Mathlib.Omega.{arith}
use borrow.Author.Rules.{rules}
use Rattle.octets.specs.Bytes.{zeros}
use Rattle.maps.proofs.Packed.{bounded-singleton, bounded-unpack, bounded-join}
use Rattle.rules.specs.Layout.{base}
use Rattle.rules.specs.Pack.{unpack_transactor}
use Rattle.transactor.specs.Internal.Effects.{adopts}
use Rattle.rules.proofs.Pack.Stores.{put-behaviour}
use Rattle.transactor.proofs.Bytes.{stored}
use Rattle.transactor.proofs.adopt.Goals as goal

pub store-requires : goal.store-requires
store-requires c =
    (search rules, rw (c.join-joined.ensures, c.load.ensures, c.one-one.ensures) (bounded-join _ _ _ _ (bounded-singleton _ _ _ _ _ (omega arith)) (bounded-unpack _ _ _ _ (omega arith))))

pub returns : goal.returns
unfolding adopts unpack_transactor zeros
returns c =
    stored base _ _ _ _ (put-behaviour base _ _) (sym c.requires.0.back) (c.store.ensures ∙ rw (c.join-joined.ensures, c.load.ensures, c.one-one.ensures))
