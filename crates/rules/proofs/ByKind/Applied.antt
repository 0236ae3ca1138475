-- What a step does that is not refused, kind by kind.
use Prim.Native.Nat.{◌≤◌}
use mathlib.Core.Path.{◌≡◌}
use Rattle.rules.specs.Layout.{Layout}
use Rattle.rules.specs.State.{State}
use Rattle.rules.specs.Step.{Step, root, letter, receive, new, send, read, fail, lose, sign}
use Rattle.rules.specs.Rules.{apply_root, apply_letter, apply_receive, apply_new, apply_send, apply_local, apply_lose, apply_sign, apply}
use Rattle.rules.proofs.ByKind.Refused.{otherwise}

pub record Applies (y : Layout) (s : State) (p : Step) : Type 0 where
  pub root : p.kind ≡ root → apply y s p ≡ apply_root y s p
  pub letter : p.kind ≡ letter → apply y s p ≡ apply_letter y s p
  pub receive : p.kind ≡ receive → apply y s p ≡ apply_receive y s p
  pub new : p.kind ≡ new → apply y s p ≡ apply_new y s p
  pub send : p.kind ≡ send → apply y s p ≡ apply_send y s p
  pub local : read ≤ p.kind → p.kind ≤ fail → apply y s p ≡ apply_local y s p
  pub lose : p.kind ≡ lose → apply y s p ≡ apply_lose s p
  pub sign : p.kind ≡ sign → apply y s p ≡ apply_sign y s p

pub applies : (y : Layout) (s : State) (p : Step) → Applies y s p
unfolding apply
applies y s p = record {
  root = λ e. rw e;
  letter = λ e. rw e;
  receive = λ e. rw e;
  new = λ e. rw e;
  send = λ e. rw e;
  local = λ low high.
      let k = otherwise p.kind low high in
      rw (k.root, k.letter, k.receive, k.new, k.send, k.lose, k.sign);
  lose = λ e. rw e;
  sign = λ e. rw e;
}
