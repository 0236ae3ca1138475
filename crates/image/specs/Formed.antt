-- The state that a well-formed image holds.
use Rattle.rules.specs.Layout.{base}
use Rattle.rules.specs.State.{State}
use Rattle.rules.specs.Pack.{unpack}
use Rattle.image.specs.declared.formed.Formed.{Formed}

abbrev pub state_in : Formed → State
state_in f = unpack base f.bytes.now
