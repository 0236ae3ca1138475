-- The bytes, one by one.
use Rattle.octets.proofs.Numbers.{two_bytes}
use Rattle.octets.proofs.load16.Goals as goal

pub returns : goal.returns
returns c = rw two_bytes c.from_be_bytes.ensures
