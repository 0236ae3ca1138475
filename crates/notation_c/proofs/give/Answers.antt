-- No room, or the bytes of the line.
use Rattle.notation_c.proofs.Giving.{give-none, give_all}
use Rattle.notation_c.proofs.give.Goals as goal

pub returns-then-out-bytes : goal.returns-then-out-bytes
returns-then-out-bytes c =
    let h = rw c.as_bytes-bytes.ensures at c.if-out-bytes.true in
    let g = give-none _ c.args.out.now h in
    rw c.told.ensures (record { answer = g.0; left = g.1 })

pub returns : goal.returns
returns c =
    let h = rw c.as_bytes-bytes.ensures at c.if-out-bytes.false in
    let w = rw c.as_bytes-bytes.ensures at c.write.ensures in
    let g = give_all _ c.args.out.now _ h w in
    rw (c.told-2.ensures, c.as_bytes-bytes.ensures) (record { answer = g.0; left = g.1 })
