-- Document 02, W4: "no mark changes its life". What is taken in with a parcel leaves the lives in the addressee's two maps as they were, and
-- nothing is made of the take where the parcel is dropped.
use Prim.Native.Nat.{ℕ, ◌<◌}
use mathlib.Core.Bool.{true}
use mathlib.Core.Path.{◌≡◌}
use Rattle.maps.specs.declared.DependenceMap.{DependenceMap}
use Rattle.maps.proofs.News.{same-informed, own-informed}
use Rattle.rules.specs.Layout.{Layout}
use Rattle.rules.specs.State.{Transactor, Message, own_history}
use Rattle.rules.specs.News.{SameMaps}
use Rattle.rules.specs.Rules.{taken, message_superseded, receive_by}

module _ (y : Layout) (t : ℕ) (x : Transactor) where
  pub same_taken : (m : DependenceMap) → SameMaps y x (taken y t x m)
  same_taken m = record { state = same-informed y.transactors t x.state m; creation = same-informed y.transactors t x.creation m }

  -- its own mark is not touched
  pub own-taken : t < y.transactors → (m : DependenceMap) → own_history t (taken y t x m) ≡ own_history t x
  own-taken below m = own-informed y.transactors t x.state m below

  module _ (m : Message) where
    -- dropped: nothing is done to the take
    pub receipt-dropped : message_superseded y x m ≡ true → (receive_by y t x m).transactor ≡ x
    unfolding receive_by
    receipt-dropped e = rw e
