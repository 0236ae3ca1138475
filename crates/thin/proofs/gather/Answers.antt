-- A turn looks at the step before.
use Rattle.std.proofs.Common.{rules, refl}
use Rattle.octets.specs.Bytes.{tabulate}
use Rattle.thin.proofs.Looking.{says_none}
use Rattle.thin.proofs.Gathering.{known-transactor, gathering-none, gathering-more, gathering-all}
use Rattle.thin.proofs.gather.Goals as goal

pub loop-i-init : goal.loop-i-init
unfolding tabulate
loop-i-init c = gathering-none _ _ c.requires.0 c.requires.1 _ says_none

pub keeps-kept-requires : goal.keeps-kept-requires
keeps-kept-requires c = known-transactor _ c.decode-p.ensures

pub with-ahead-requires : goal.with-ahead-requires
with-ahead-requires c = known-transactor _ c.decode-p.ensures

pub loop-i-preserved : goal.loop-i-preserved
loop-i-preserved c =
    gathering-more _ _ c.requires.0 c.requires.1 c.loop-i.invariant (search rules) c.decode-p.ensures refl c.keeps-kept.ensures c.place-k.ensures c.with-ahead.ensures

pub returns : goal.returns
returns c = gathering-all _ _ c.requires.0 c.requires.1 c.loop-i.invariant (search rules)
