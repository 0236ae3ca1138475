-- What holds of the book at every point of a session.
use Prim.Native.Nat.{ℕ}
use mathlib.Core.Bool.{true}
use mathlib.Core.Path.{◌≡◌}
use mathlib.Core.List.{List}
use mathlib.Core.Logic.{◌⊎◌, ◌↔◌}
use Rattle.marks.specs.Incarnation.{Incarnation}
use Rattle.rules.specs.Layout.{Layout, Fitting}
use Rattle.rules.specs.State.{State}
use Rattle.rules.specs.Refusals.{named}
use Rattle.rules.specs.Internal.Well.{WellFormed}
use Rattle.session.specs.Provenance.{Live, Provenance}
use Rattle.session.specs.Grounds.{from_start, from-noted, from_list, Ground, RestsOn, ValueRestsOn, CheckpointedNow, UncheckpointedGround, StablePresent, Equal}
use Rattle.session.specs.Trace.{Trace}
use Rattle.session.specs.Point.{Point}
use Rattle.session.proofs.Model.{view}
use Rattle.session.proofs.Relation.{Rel}
use Rattle.session.proofs.Sign.{checkpointed_now-of, checkpointed_now-to, own-has, own-uncheckpointed, settled-equal, equal-settled}
use Rattle.session.proofs.Points.{point-beside}
use Rattle.session.proofs.Resting.{rests-ground}

module _ {y : Layout} (z : Fitting y) {img : List ℕ} {τ : Trace y img} {s : State} {b : Provenance} (k : Point y img τ s b) where
  -- the ledger's state there is related to the book
  pub related : Rel (view s) b
  related = (point-beside z k).rel

  pub well : WellFormed y s
  well = (point-beside z k).well

  -- ---- the two sets of a signing

  -- The first set, the unsigned lives that the named takes rest on, has their own: the present life of every live named take is in it.
  pub own-included : (g t : ℕ) → named g t ≡ true → Live (b.holders t).status → UncheckpointedGround b g t (b.holders t).history.incarnation
  own-included g t n live = own-uncheckpointed b g t n (own-has (view s) b related t live)

  -- In plain words: a volume is signed exactly when all that its takes stand on and that is not signed yet is in the volume, present
  -- and frozen.
  pub equal-exactly : (g : ℕ)
      → Equal b g ↔ ((t : ℕ) → named g t ≡ true → (u : ℕ) (a : Incarnation) → RestsOn b t u a → CheckpointedNow b u a ⊎ StablePresent b g u a)
  equal-exactly g = (equal-settled b g, λ rests. settled-equal b g rests (λ t n w. own-has (view s) b related t w))

  -- What a take rests on beyond its own two sets is signed: notes and lists bring in nothing that a signing waits for.
  pub rests-beyond : {t u : ℕ} {a : Incarnation} → RestsOn b t u a → Ground (b.holders t) u a ⊎ CheckpointedNow b u a
  rests-beyond = rests-ground (view s) b related

  -- ---- what signed texts rest on

  -- a text that rests on anything is that of a signed life: only for these is something noted
  pub rests-checkpointed : {t : ℕ} {n : Incarnation} {u : ℕ} {a : Incarnation} → ValueRestsOn b t n u a → CheckpointedNow b t n
  rests-checkpointed {t} {n} (from_start {u} {a} x) = checkpointed_now-of b (related.noted.keys t n u a x)
  rests-checkpointed (from-noted x y) = rests-checkpointed x
  rests-checkpointed (from_list x e) = rests-checkpointed x

  -- and the text of every signed life rests on that life at least
  pub checkpointed-rests : {t : ℕ} {n : Incarnation} → CheckpointedNow b t n → ValueRestsOn b t n t n
  checkpointed-rests {t} {n} s = from_start (related.noted.own t n (checkpointed_now-to b s))
