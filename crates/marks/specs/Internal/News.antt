-- News of a freeze, for the code.
use Rattle.std.specs.Prelude.{Bool, not, ltb}
use Rattle.octets.specs.Bytes.{◌and◌, ◌or◌}
use Rattle.marks.specs.declared.History.{History}

-- What the first bytes leave open: the recorded mark x, if p, is unfrozen, and that of the parcel, y if q, is frozen or has the longer
-- list. Else nothing is shown.
unfoldable pub may_show : Bool → History → Bool → History → Bool
may_show p x q y = (p and not x.stable) and ((q and y.stable) or ltb x.count y.count)
