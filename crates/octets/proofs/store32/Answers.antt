-- The array is the number in 4 bytes.
use Rattle.octets.proofs.Numbers.{be-four}
use Rattle.octets.proofs.store32.Goals as goal

pub returns : goal.returns
returns c = rw (c.write.ensures, c.to_be_bytes.ensures, be-four)
