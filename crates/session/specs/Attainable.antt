-- Which takes can still be signed in the lives that they have: what `impediment` and `plan` say of a take, for the whole of the session's future.
use Rattle.std.specs.Prelude.{ℕ, ◌+◌, ◌*◌, ◌≤◌, ◌<◌, true, false, ◌≡◌, List, ◌↔◌, length}
use Rattle.rules.specs.Layout.{Layout, last_number}
use Rattle.rules.specs.State.{State}
use Rattle.rules.specs.Step.{step_bytes}
use Rattle.rules.specs.Refusals.{named}
use Rattle.rules.specs.Pack.{unpack}
use Rattle.rules.specs.Impediment.{impediment_of}
use Rattle.rules.specs.Plan.{mendable, letters, resting_volume, plan_answer, PlanRuns}
use Rattle.session.specs.Provenance.{Provenance}
use Rattle.session.specs.Waiting.{ReadyGroup}
use Rattle.session.specs.Withdrawal.{Further, SameIncarnation, RestsThrough, Spoilt, Doomed}

-- After some further steps a volume with take t is ready, and t still has the life that it has in s. (The opposite of Doomed.)
pub record Attainable (y : Layout) (s : State) (t : ℕ) : Type 0 where
  pub after : State
  pub further : Further y s after
  pub same : SameIncarnation s after t
  pub group : ℕ
  pub names : named group t ≡ true
  pub ready : ReadyGroup y after group

-- Take c, which may be t itself, has all the signings that the session allows, and t rests on its present life, directly or through others.
pub record ExhaustedBelow (b : Provenance) (t : ℕ) : Type 0 where
  pub transactor : ℕ
  pub through : RestsThrough b transactor t
  pub full : b.limits.checkpoints ≤ length (b.holders transactor).history.incarnation.checkpoints

-- There is room for the letters that wake those takes of volume g that are idle and not frozen: none is needed; or one more parcel may wait (each is
-- received before the next is sent), and there is a number for each.
pub data LettersFit (y : Layout) (s : State) (g : ℕ) : Type 0 where
  none_needed : letters y s g ≡ 0 → LettersFit y s g
  room : length s.messages < s.limits.messages → s.next + letters y s g ≤ last_number → LettersFit y s g

-- What `impediment` says of a live take t, at a point with state s and book b, and whether t can still be signed.
pub record AttainableExactly (y : Layout) (s : State) (b : Provenance) (t : ℕ) : Type 0 where
  -- `impediment` says neither hopeless nor exhausted exactly if the take is not spoilt and rests on none that has all its signings.
  pub answered : (mendable (impediment_of y s t) ≡ true) ↔ ((Spoilt b t → ⊥) × (ExhaustedBelow b t → ⊥))
  -- If so, and if the letters that are needed have room, it can be signed in the life that it has: the plan's steps lead there.
  pub attained : mendable (impediment_of y s t) ≡ true → LettersFit y s (resting_volume y s t) → Attainable y s t
  -- If it can be signed in that life, by whatever steps and with whatever room, `impediment` says neither hopeless nor exhausted.
  pub needed : Attainable y s t → mendable (impediment_of y s t) ≡ true
  -- If `impediment` says hopeless or exhausted, it can't be signed any more in that life, whatever steps come.
  pub doomed : mendable (impediment_of y s t) ≡ false → Doomed y s t

-- What the call for a plan answers about take t between two calls of a session, if it is not refused.
pub record PlanMeans (y : Layout) (img : List ℕ) (t : ℕ) (out : List ℕ) : Type 0 where
  -- If the answer has some steps: run on that image, they sign the take.
  pub steps : 0 < plan_answer y img t out → (lent : List ℕ) → length lent ≡ step_bytes * plan_answer y img t out → PlanRuns y img t out lent
  -- If `impediment` says hopeless or exhausted of the same image: there are no steps, and the take can't be
  -- signed any more in the life that it has, whatever steps come.
  pub lasting : mendable (impediment_of y (unpack y img) t) ≡ false → (plan_answer y img t out ≡ 0) × Doomed y (unpack y img) t
  -- If `impediment` says anything else and there are no steps: a letter is needed for which there is no room.
  pub unfit : mendable (impediment_of y (unpack y img) t) ≡ true → plan_answer y img t out ≡ 0
      → LettersFit y (unpack y img) (resting_volume y (unpack y img) t) → ⊥
