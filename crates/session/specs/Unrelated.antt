-- Document 02, W3, on the book's side: it holds lives and sets alone, so what is asked of the two maps at a receipt is asked of its
-- sets.
use Rattle.std.specs.Prelude.{Bool, ◌++◌, eqb}
use Rattle.octets.specs.Bytes.{◌and◌}
use Rattle.marks.specs.Relation.{relation_of, is_unrelated}
use Rattle.session.specs.Provenance.{Entry, Incarnations, Holder, WaitingMessage, any_entry}

-- two lives of one take that are unrelated
unfoldable pub unrelated_entry : Entry → Entry → Bool
unrelated_entry x z = eqb x.transactor z.transactor and is_unrelated (relation_of x.incarnation z.incarnation)

-- a life of the first set and one of the same take in the second are unrelated
unfoldable pub any_unrelated : Incarnations → Incarnations → Bool
any_unrelated xs zs = any_entry (λ x. any_entry (unrelated_entry x) zs) xs

-- "some take has unrelated marks in the parcel and in the receiver's joined state and creation maps": in the parcel's set and in
-- the addressee's state or creation
unfoldable pub is_unrelated_to : Holder → WaitingMessage → Bool
is_unrelated_to h q = any_unrelated q.incarnations (h.state ++ h.creation)
