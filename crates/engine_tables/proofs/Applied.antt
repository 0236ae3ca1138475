-- What a step that is not refused makes of the tables, kind by kind.
use Prim.Native.Nat.{◌≤◌}
use mathlib.Core.Bool.{Bool, true, false}
use mathlib.Core.Path.{◌≡◌}
use Rattle.octets.specs.Bytes.{pick}
use Rattle.rules.specs.declared.Step.{Step}
use Rattle.rules.specs.Step.{done, not_ready, root, letter, receive, new, send, read, fail, lose, sign}
use Rattle.rules.specs.Rules.{answer}
use Rattle.rules.proofs.ByKind.Refused.{otherwise}
use Rattle.engine_tables.specs.Internal.Tables.{Tables, open_row, with_slot, without_slot, checkpoint_rows, play_receive, play_local, play_applied}

pub record Applies (T : Tables) (p : Step) (d f g : Bool) : Type 0 where
  pub root : p.kind ≡ root → play_applied T p d f g ≡ record { reply = answer done T.opened 0 0; tables = open_row T p.value }
  pub letter : p.kind ≡ letter → play_applied T p d f g ≡ record { reply = answer done p.transactor T.next 0; tables = with_slot T true p.transactor p.value }
  pub receive : p.kind ≡ receive → play_applied T p d f g ≡ play_receive T p d f
  pub new : p.kind ≡ new → play_applied T p d f g ≡ record { reply = answer done T.opened 0 0; tables = open_row T p.value }
  pub send : p.kind ≡ send → play_applied T p d f g ≡ record { reply = answer done p.transactor T.next 0; tables = with_slot T false p.other p.value }
  pub local : read ≤ p.kind → p.kind ≤ fail → play_applied T p d f g ≡ play_local T p
  pub lose : p.kind ≡ lose → play_applied T p d f g ≡ record { reply = answer done 0 p.message 0; tables = without_slot T p.message }
  pub sign : p.kind ≡ sign → play_applied T p d f g
      ≡ pick g (record { reply = answer done 0 0 0; tables = checkpoint_rows T p.message }) (record { reply = answer not_ready 0 0 0; tables = T })

pub applies : (T : Tables) (p : Step) (d f g : Bool) → Applies T p d f g
unfolding play_applied
applies T p d f g = record {
  root = λ e. rw e;
  letter = λ e. rw e;
  receive = λ e. rw e;
  new = λ e. rw e;
  send = λ e. rw e;
  local = λ low high. let k = otherwise p.kind low high in rw (k.root, k.letter, k.receive, k.new, k.send, k.lose, k.sign);
  lose = λ e. rw e;
  sign = λ e. rw e;
}
