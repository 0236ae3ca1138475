-- Document 01, "Packed forms": steps and replies.
use Rattle.std.specs.Prelude.{ℕ, ◌+◌, ◌*◌, ◌/◌, ◌%◌, List, ◌++◌, Bool, leb, get_or}
use Rattle.octets.specs.Bytes.{part}
use Rattle.octets.specs.Numbers.{be, of_be}
-- Step, 64 bits: kind 4, take 4, other 4, zero 4, parcel 16, text 32. Reply, 64 bits: outcome or refusal 8, take acted on or
-- opened 8, parcel made, received or lost 16, text read or received 32. Both are structs of the code, passed by value.
pub use Rattle.rules.specs.declared.Step.{Step}
pub use Rattle.rules.specs.declared.Reply.{Reply}
-- Of a reply, what a walk back over the steps looks at (document 02, W11); a struct of the code too.
pub use Rattle.rules.specs.declared.Told.{Told}

unfoldable pub unpack_step : List ℕ → Step
unpack_step b = record {
  kind = get_or b 0 0 / 16;
  transactor = get_or b 0 0 % 16;
  other = get_or b 1 0 / 16;
  zero = get_or b 1 0 % 16;
  message = of_be 2 (part 2 2 b);
  value = of_be 4 (part 4 4 b);
}

-- the other way round
unfoldable pub pack_step : Step → List ℕ
pack_step p = be 1 (16 * p.kind + p.transactor) ++ be 1 (16 * p.other + p.zero) ++ be 2 p.message ++ be 4 p.value

abbrev pub step_bytes : ℕ
step_bytes = 8

-- step i of a list
unfoldable pub step_at : List ℕ → ℕ → Step
step_at b i = unpack_step (part (step_bytes * i) step_bytes b)

unfoldable pub pack_reply : Reply → List ℕ
pack_reply r = be 1 r.outcome ++ be 1 r.transactor ++ be 2 r.message ++ be 4 r.value

-- the other way round
unfoldable pub unpack_reply : List ℕ → Reply
unpack_reply b = record { outcome = get_or b 0 0; transactor = get_or b 1 0; message = of_be 2 (part 2 2 b); value = of_be 4 (part 4 4 b) }

-- of a reply: outcome, take acted on or opened, parcel made, received or lost
abbrev pub told : Reply → Told
told r = record { outcome = r.outcome; transactor = r.transactor; message = r.message }

-- the same of a packed one
unfoldable pub unpack_told : List ℕ → Told
unpack_told b = told (unpack_reply b)

-- Outcomes.
abbrev pub done : ℕ
done = 0

abbrev pub held : ℕ
held = 1

abbrev pub dropped : ℕ
dropped = 2

abbrev pub fallen_back : ℕ
fallen_back = 3

abbrev pub vanished : ℕ
vanished = 4

abbrev pub not_ready : ℕ
not_ready = 5

-- A reply that is no outcome, but a refusal: "20 or more".
abbrev pub is_refusal : ℕ → Bool
is_refusal outcome = leb 20 outcome

-- Kinds.
abbrev pub root : ℕ
root = 0

abbrev pub letter : ℕ
letter = 1

abbrev pub receive : ℕ
receive = 2

abbrev pub new : ℕ
new = 3

abbrev pub send : ℕ
send = 4

abbrev pub read : ℕ
read = 5

abbrev pub write : ℕ
write = 6

abbrev pub freeze : ℕ
freeze = 7

-- "done": the step that ends a take's work, not the outcome
abbrev pub finish : ℕ
finish = 8

abbrev pub fall : ℕ
fall = 9

abbrev pub fail : ℕ
fail = 10

abbrev pub lose : ℕ
lose = 11

abbrev pub sign : ℕ
sign = 12
