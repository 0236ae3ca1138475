-- The words of x go in, and those of the result come back.
use Rattle.engine_chains.proofs.Following.{walker-words}
use Rattle.engine_walk.proofs.walked.Goals as goal

pub returns : goal.returns
returns c = rw (c.walker.ensures, ← walker-words c.args.x, ← c.words-words.ensures) c.walk.ensures
