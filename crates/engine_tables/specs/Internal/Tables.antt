-- What the engine keeps: no map, but the plain fields of a session, and what a step makes of them where three tests are answered.
use Rattle.std.specs.Prelude.{ℕ, ◌+◌, ◌-◌, Bool, true, false, not, eqb}
use Rattle.octets.specs.Bytes.{pick, ◌and◌}
use Rattle.octets.specs.Table.{updated}
use Rattle.rules.specs.Layout.{Layout, Limits}
use Rattle.rules.specs.Status.{unused, idle, busy, annihilated}
use Rattle.rules.specs.declared.Step.{Step}
use Rattle.rules.specs.declared.Reply.{Reply}
use Rattle.rules.specs.Step.{done, held, dropped, fallen_back, vanished, not_ready, root, letter, receive, new, send, read, write, freeze, finish, fall, lose, sign}
use Rattle.rules.specs.Refusals.{Seen, named, refusal_of}
use Rattle.rules.specs.Rules.{answer}
-- A take: status, frozen, signings, life number, text, saved text. A parcel number: whether none waits with it; whether it is a letter,
-- which carries no life; its addressee, its text. What a step on a take replies and leaves: outcome, text read, the take. All are
-- structs of the code, passed by value.
pub use Rattle.engine_tables.specs.declared.table.Row.{Row}
pub use Rattle.engine_tables.specs.declared.table.Slot.{Slot}
pub use Rattle.engine_tables.specs.declared.table.RowEffect.{RowEffect}

-- the session's limits, takes opened, next parcel number, parcels waiting; every take, every parcel number
pub record Tables : Type 0 where
  pub limits : Limits
  pub opened : ℕ
  pub next : ℕ
  pub waiting : ℕ
  pub rows : ℕ → Row
  pub messages : ℕ → Slot

abbrev pub empty_row : ℕ → Row
empty_row status = record { status = status; stable = false; checkpoints = 0; incarnation = 0; value = 0; saved = 0 }

abbrev pub empty_slot : Slot
empty_slot = record { missing = true; letter = false; addressee = 0; content = 0 }

-- a take just opened, with text v
abbrev pub opened_row : ℕ → Row
opened_row v = record { status = idle; stable = false; checkpoints = 0; incarnation = 0; value = v; saved = 0 }

-- a parcel that waits for take to, with text v; c: a letter
abbrev pub filled_slot : Bool → ℕ → ℕ → Slot
filled_slot c to v = record { missing = false; letter = c; addressee = to; content = v }

-- a fresh session
abbrev pub fresh_tables : Limits → Tables
fresh_tables m = record { limits = m; opened = 0; next = 0; waiting = 0; rows = λ t. empty_row unused; messages = λ n. empty_slot }

-- what the table of refusals looks at; f: the receipt of the step's parcel makes its addressee fall. No marks are unrelated (31).
unfoldable pub seen_in : Tables → Bool → Seen
seen_in T f = record {
  limits = T.limits;
  opened = T.opened;
  next = T.next;
  waiting = T.waiting;
  status = λ t. (T.rows t).status;
  stable = λ t. (T.rows t).stable;
  checkpoints = λ t. (T.rows t).checkpoints;
  incarnation = λ t. (T.rows t).incarnation;
  missing = λ n. (T.messages n).missing;
  addressee = λ n. (T.messages n).addressee;
  rolls = λ n. f;
  unrelated = λ n. false;
}

-- ---- one take

abbrev pub row_stays : ℕ → Row → RowEffect
row_stays outcome x = record { outcome = outcome; value = 0; row = x }

abbrev pub row_status : Row → ℕ → Row
row_status x status = record { status = status; stable = x.stable; checkpoints = x.checkpoints; incarnation = x.incarnation; value = x.value; saved = x.saved }

-- never signed: vanishes; else the next mark and the saved text
unfoldable pub rollback_row : Row → RowEffect
rollback_row x =
    pick (eqb x.checkpoints 0)
    (record { outcome = vanished; value = 0; row = empty_row annihilated })
    (record {
      outcome = fallen_back;
      value = 0;
      row = record { status = idle; stable = false; checkpoints = x.checkpoints; incarnation = x.incarnation + 1; value = x.saved; saved = x.saved };
    })

unfoldable pub write_row : ℕ → Row → RowEffect
write_row v x =
    pick x.stable (row_stays held x)
    (row_stays done (record { status = x.status; stable = x.stable; checkpoints = x.checkpoints; incarnation = x.incarnation; value = v; saved = x.saved }))

unfoldable pub freeze_row : Row → RowEffect
freeze_row x = row_stays done (record { status = x.status; stable = true; checkpoints = x.checkpoints; incarnation = x.incarnation; value = x.value; saved = x.saved })

-- kind k of 5 to 10 with text v
unfoldable pub local_row : ℕ → ℕ → Row → RowEffect
local_row k v x =
    pick (eqb k read) (record { outcome = done; value = x.value; row = x })
    (pick (eqb k write) (write_row v x)
    (pick (eqb k freeze) (freeze_row x)
    (pick (eqb k finish) (row_stays done (row_status x idle))
    (pick (eqb k fall) (pick x.stable (row_stays held (row_status x idle)) (rollback_row x))
    (pick x.stable (row_stays held x) (rollback_row x))))))

-- the receipt of a parcel with text v: d, dropped; r, its taker falls
unfoldable pub receive_row : Bool → Bool → ℕ → Row → RowEffect
receive_row d r v x =
    pick d (row_stays dropped x)
    (pick r (rollback_row x)
    (record { outcome = done; value = v; row = row_status x busy }))

-- a signing
abbrev pub checkpoint_row : Row → Row
checkpoint_row x = record { status = idle; stable = false; checkpoints = x.checkpoints + 1; incarnation = 0; value = x.value; saved = x.value }

-- ---- the tables changed

abbrev pub with_row : Tables → ℕ → Row → Tables
with_row T t x = record { limits = T.limits; opened = T.opened; next = T.next; waiting = T.waiting; rows = updated T.rows t x; messages = T.messages }

-- one more take, with text v
unfoldable pub open_row : Tables → ℕ → Tables
open_row T v = record {
  limits = T.limits;
  opened = T.opened + 1;
  next = T.next;
  waiting = T.waiting;
  rows = updated T.rows T.opened (opened_row v);
  messages = T.messages;
}

-- one more parcel; c: a letter
unfoldable pub with_slot : Tables → Bool → ℕ → ℕ → Tables
with_slot T c to v = record {
  limits = T.limits;
  opened = T.opened;
  next = T.next + 1;
  waiting = T.waiting + 1;
  rows = T.rows;
  messages = updated T.messages T.next (filled_slot c to v);
}

-- parcel n received or lost
unfoldable pub without_slot : Tables → ℕ → Tables
without_slot T n = record { limits = T.limits; opened = T.opened; next = T.next; waiting = T.waiting - 1; rows = T.rows; messages = updated T.messages n empty_slot }

-- volume g signed
unfoldable pub checkpoint_rows : Tables → ℕ → Tables
checkpoint_rows T g = record { limits = T.limits; opened = T.opened; next = T.next; waiting = T.waiting; rows = λ t. pick (named g t) (checkpoint_row (T.rows t)) (T.rows t); messages = T.messages }

-- ---- a step

pub record Played : Type 0 where
  pub reply : Reply
  pub tables : Tables

unfoldable pub play_receive : Tables → Step → Bool → Bool → Played
play_receive T p d r =
    let t : ℕ = (T.messages p.message).addressee in
    let e : RowEffect = receive_row d r (T.messages p.message).content (T.rows t) in
    record { reply = answer e.outcome t p.message e.value; tables = without_slot (with_row T t e.row) p.message }

unfoldable pub play_local : Tables → Step → Played
play_local T p =
    let e : RowEffect = local_row p.kind p.value (T.rows p.transactor) in
    record { reply = answer e.outcome p.transactor 0 e.value; tables = with_row T p.transactor e.row }

-- one that is not refused; d, r: the receipt of its parcel is dropped, its taker falls; g: its volume is ready
unfoldable pub play_applied : Tables → Step → Bool → Bool → Bool → Played
play_applied T p d r g =
    pick (eqb p.kind root) (record { reply = answer done T.opened 0 0; tables = open_row T p.value })
    (pick (eqb p.kind letter) (record { reply = answer done p.transactor T.next 0; tables = with_slot T true p.transactor p.value })
    (pick (eqb p.kind receive) (play_receive T p d r)
    (pick (eqb p.kind new) (record { reply = answer done T.opened 0 0; tables = open_row T p.value })
    (pick (eqb p.kind send) (record { reply = answer done p.transactor T.next 0; tables = with_slot T false p.other p.value })
    (pick (eqb p.kind lose) (record { reply = answer done 0 p.message 0; tables = without_slot T p.message })
    (pick (eqb p.kind sign)
    (pick g (record { reply = answer done 0 0 0; tables = checkpoint_rows T p.message }) (record { reply = answer not_ready 0 0 0; tables = T }))
    (play_local T p)))))))

unfoldable pub play_refusal : Layout → Tables → Step → Bool → Bool → ℕ
play_refusal y T p d r = refusal_of y (seen_in T (not d and r)) p

unfoldable pub play : Layout → Tables → Step → Bool → Bool → Bool → Played
play y T p d r g =
    pick (eqb (play_refusal y T p d r) 0) (play_applied T p d r g)
    (record { reply = answer (play_refusal y T p d r) 0 0 0; tables = T })
