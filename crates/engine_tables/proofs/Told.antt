-- What is done replies an outcome, none of which is a refusal.
use Rattle.std.proofs.Common.{ℕ, ◌<◌, ◌≡◌, Bool, true, false, arith, eqb}
use Rattle.octets.specs.Bytes.{pick}
use Rattle.rules.specs.Step.{read, write, freeze, finish, fall}
use Rattle.engine_tables.specs.declared.table.Row.{Row}
use Rattle.engine_tables.specs.declared.table.RowEffect.{RowEffect}
use Rattle.engine_tables.specs.declared.turns.Operands.{Operands}
use Rattle.engine_tables.specs.declared.turns.Turn.{Turn}
use Rattle.engine_tables.specs.Internal.Tables.{rollback_row, write_row, freeze_row, local_row, receive_row}
use Rattle.engine_tables.specs.Internal.Turns.{opens, sends_to}

pub opens-told : (u : Turn) (x : Operands) (v : ℕ) → u ≡ opens x v → u.reply.outcome < 16
opens-told u x v e = rw e (omega arith)

pub sends-told : (u : Turn) (x : Operands) (c : Bool) (t to v : ℕ) → u ≡ sends_to x c t to v → u.reply.outcome < 16
sends-told u x c t to v e = rw e (omega arith)

either : (t : Bool) (a b : RowEffect) → a.outcome < 16 → b.outcome < 16 → (pick t a b).outcome < 16
either true a b h k = h
either false a b h k = k

rollback-told : (x : Row) → (rollback_row x).outcome < 16
unfolding rollback_row
rollback-told x = either (eqb x.checkpoints 0) _ _ (omega arith) (omega arith)

write-told : (v : ℕ) (x : Row) → (write_row v x).outcome < 16
unfolding write_row
write-told v x = either x.stable _ _ (omega arith) (omega arith)

freeze-told : (x : Row) → (freeze_row x).outcome < 16
unfolding freeze_row
freeze-told x = omega arith

local_row-told : (k v : ℕ) (x : Row) → (local_row k v x).outcome < 16
unfolding local_row
local_row-told k v x =
    either (eqb k read) _ _ (omega arith)
    (either (eqb k write) _ _ (write-told v x)
    (either (eqb k freeze) _ _ (freeze-told x)
    (either (eqb k finish) _ _ (omega arith)
    (either (eqb k fall) _ _ (either x.stable _ _ (omega arith) (rollback-told x))
    (either x.stable _ _ (omega arith) (rollback-told x))))))

pub local-told : (e : RowEffect) (k v : ℕ) (x : Row) → e ≡ local_row k v x → e.outcome < 16
local-told e k v x h = rw h (local_row-told k v x)

receive_row-told : (d r : Bool) (v : ℕ) (x : Row) → (receive_row d r v x).outcome < 16
unfolding receive_row
receive_row-told d r v x = either d _ _ (omega arith) (either r _ _ (rollback-told x) (omega arith))

pub receive-told : (e : RowEffect) (d r : Bool) (v : ℕ) (x : Row) → e ≡ receive_row d r v x → e.outcome < 16
receive-told e d r v x h = rw h (receive_row-told d r v x)
