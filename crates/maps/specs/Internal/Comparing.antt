-- The comparison of two entries, for the code.
use Rattle.std.specs.Prelude.{Bool}
use Rattle.octets.specs.Bytes.{pick, ◌and◌}
use Rattle.marks.specs.declared.History.{History}
use Rattle.marks.specs.declared.Relation.{Relation}
use Rattle.marks.specs.declared.Relation.TheVariants.{Same}
use Rattle.marks.specs.History.{incarnation_of}
use Rattle.marks.specs.Relation.{relation_of}

-- what the comparison of two entries says: the same where one is not held
unfoldable pub relation_entry : Bool → History → Bool → History → Relation
relation_entry p x q y = pick (p and q) (relation_of (incarnation_of x) (incarnation_of y)) Same
