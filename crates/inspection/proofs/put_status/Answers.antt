-- By the status.
use Rattle.std.proofs.Common.{[], refl}
use Rattle.inspection.proofs.Inspecting.{status-annihilated, status-idle, status-busy, not-annihilated, not-idle}
use Rattle.inspection.proofs.put_status.Goals as goal

pub returns-in-Annihilated : goal.returns-in-Annihilated
returns-in-Annihilated c = let e = rw c.in-Annihilated.is at c.requires.2 in status-annihilated _ _ e _ _ [] refl c.word.ensures

pub returns-in-Idle : goal.returns-in-Idle
returns-in-Idle c = let e = rw c.in-Idle.is at c.requires.2 in status-idle _ _ e _ _ _ (λ q. cc) refl c.word-in-Idle.ensures c.put_values.ensures

pub returns-in_default : goal.returns-in_default
returns-in_default c =
    status-busy _ _ c.requires.2 _ _ _ (not-annihilated c.args.status c.in_default.not-Annihilated) (not-idle c.args.status c.in_default.not-Idle)
    c.word-in_default.ensures c.put_values-in_default.ensures
