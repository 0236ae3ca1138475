-- The array is the number in 2 bytes.
use Rattle.octets.proofs.Numbers.{be-two}
use Rattle.octets.proofs.store16.Goals as goal

pub returns : goal.returns
returns c = rw (c.write.ensures, c.to_be_bytes.ensures, be-two)
