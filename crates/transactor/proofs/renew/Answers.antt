-- Cleared, it is an unused take, of which four fields change.
use mathlib.Core.Path.{refl}
use native.Mathlib.Omega.{arith}
use lib.ListN.{length-set}
use borrow.Author.Rules.{rules}
use Rattle.maps.specs.Map.{singleton}
use Rattle.maps.proofs.Map.{sized-empty}
use Rattle.rules.specs.Layout.{base}
use Rattle.rules.specs.Status.{idle}
use Rattle.rules.proofs.Pack.Stores.{put-value, put-saved}
use Rattle.transactor.proofs.Bytes.{stored, status-stored, history-stored, cleared, cleared-long}
use Rattle.transactor.proofs.renew.Goals as goal

pub store32-requires : goal.store32-requires
store32-requires c = simp length-set (omega arith)

pub store32-requires-2 : goal.store32-requires-2
store32-requires-2 c =
    let n = cleared-long base 64 _ c.requires.0 c.clear.ensures in
    omega (arith, n)

pub store-requires : goal.store-requires
store-requires c =
    let n = cleared-long base 64 _ c.requires.0 c.clear.ensures in
    (omega (arith, n), search rules)

pub shape_of-part : goal.shape_of-part
shape_of-part c =
    let n = cleared-long base 64 _ c.requires.0 c.clear.ensures in
    omega (arith, n)

pub returns : goal.returns
unfolding singleton
returns c =
    history-stored base _ _ (sized-empty _ _) c.requires.1
    (stored base _ _ _ _ (put-saved base _ _)
    (stored base _ _ _ _ (put-value base _ _) (status-stored base _ idle (cleared base _ c.requires.0 c.clear.ensures) (omega arith)) c.store32.ensures)
    c.store32-2.ensures)
    refl c.store.ensures
