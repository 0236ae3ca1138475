-- The image holds the state after i steps, the number carried is how many messages wait in it, and the first i replies are put.
use Rattle.std.proofs.Common.{◌≡◌}
use Rattle.octets.specs.Bytes.{put, chunks}
use Rattle.rules.specs.Layout.{base}
use Rattle.rules.specs.Pack.{pack, unpack}
use Rattle.rules.specs.Calls.{state_after, reply_at}
use Rattle.steps.specs.Internal.Stepped.{Counted}
use Rattle.ledger.proofs.run_steps.Given as goal

abbrev pub invariant-loop-i : goal.invariant-loop-i
invariant-loop-i l = record {
  state : l.image ≡ pack base (state_after base (unpack base l.fn.image) l.list l.i);
  told : l.replies ≡ put 0 (chunks l.i (reply_at base (unpack base l.fn.image) l.list)) l.fn.replies;
  counted : Counted l.waiting l.image;
}
