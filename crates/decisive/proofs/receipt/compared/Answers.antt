-- Compared where it stands, and read.
use Rattle.decisive.proofs.Judging.{read-unrelated, read-message, read-receiver}
use Rattle.decisive.proofs.receipt.compared.Goals as goal

pub returns : goal.returns
returns c =
    let said = c.compared.ensures in
    let p = c.requires in (
      read-unrelated _ _ p.0 _ p.1 (rw c.map_at.ensures at said.unrelated),
      read-message _ _ p.0 _ p.1 (rw c.map_at.ensures at said.packed),
      read-receiver _ _ p.0 _ p.1 (rw c.map_at.ensures at said.own),
    )
