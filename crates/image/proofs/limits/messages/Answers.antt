-- The second.
use Rattle.std.proofs.Common.{sym, refl, ap}
use Rattle.rules.specs.Layout.{Limits}
use Rattle.rules.proofs.Pack.Loads.{read-limits}
use Rattle.image.proofs.limits.messages.Goals as goal

pub returns : goal.returns
returns c = sym (ap (λ (m : Limits). m.messages) (read-limits _ _ refl))
