-- Document 01, "The book of demand 3": what a signed text rests on is fixed at its signing. b, the book just before a signing that signs take
-- t; d, the book at any time after it, until the next accepted begin.
use Rattle.std.specs.Prelude.{ℕ, ◌↔◌}
use Rattle.marks.specs.Incarnation.{Incarnation}
use Rattle.session.specs.Provenance.{Provenance}
use Rattle.session.specs.Grounds.{RestsOn, ValueRestsOn, CheckpointedNow}
use Rattle.session.specs.Withdrawal.{RestsThrough}

-- Take t, or a take on whose present life it rests, directly or through others, rests on life a of take u. These takes are signed together with
-- t, and what each rests on is noted for its present life at that very signing: so t's text rests on it too.
pub record RestsInAll (b : Provenance) (t u : ℕ) (a : Incarnation) : Type 0 where
  pub by : ℕ
  pub through : RestsThrough b by t
  pub rests : RestsOn b by u a

-- The text of take t, signed at the life that was present in b, rests in d on exactly what t rested on in all in b; and each such life is
-- signed in d.
pub record Fixed (b d : Provenance) (t : ℕ) : Type 0 where
  pub exactly : (u : ℕ) (a : Incarnation) → ValueRestsOn d t (b.holders t).history.incarnation u a ↔ RestsInAll b t u a
  pub checkpointed : (u : ℕ) (a : Incarnation) → RestsInAll b t u a → CheckpointedNow d u a
