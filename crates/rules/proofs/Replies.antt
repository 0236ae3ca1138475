-- A packed reply: its length, and its first byte.
use Prim.Native.Nat.{◌<◌}
use mathlib.Core.Path.{◌≡◌}
use lib.ListN.{length, get_or, length-append}
use Rattle.octets.proofs.Numbers.{length-be, be-one}
use Rattle.rules.specs.declared.Reply.{Reply}
use Rattle.rules.specs.Step.{step_bytes, pack_reply}

pub length-pack_reply : (r : Reply) → length (pack_reply r) ≡ step_bytes
unfolding pack_reply
length-pack_reply r = simp (length-append, length-be)

-- the outcome or refusal
pub first-pack_reply : (r : Reply) → r.outcome < 256 → get_or (pack_reply r) 0 0 ≡ r.outcome
unfolding pack_reply
first-pack_reply r h = rw (be-one r.outcome h)
