-- Repeated offers (document 02, W2) on a layout of one take: two rounds, computed by the definitions. So the hypotheses of
-- `InOrder.rounds-in-order` can be met, and by more than bare offers and receipts.
use Prim.Native.Nat.{ℕ, zero, suc, ◌+◌, ◌*◌, ◌^◌, ◌≤◌, ◌<◌}
use mathlib.Core.Bool.{true}
use mathlib.Core.Path.{◌≡◌, refl}
use mathlib.Core.List.{List, [], ◌∷◌, ◌++◌}
use mathlib.Core.Option.{some}
use native.Mathlib.Omega.{arith}
use lib.ListN.{length}
use Rattle.octets.specs.Bytes.{put, part, chunks, tabulate, zeros, all_zero, every, any, Octets}
use Rattle.octets.specs.Numbers.{be, of_be}
use Rattle.octets.proofs.Put.{octets-append}
use Rattle.octets.proofs.Numbers.{octets-be}
use Rattle.marks.specs.Incarnation.{same_list, begins_with, strict_prefix, superseded_by}
use Rattle.marks.specs.Relation.{by_numbers, by_next_entry, relation_of}
use Rattle.marks.specs.History.{newer_of, is_older}
use Rattle.marks.specs.News.{shows_stable, informed}
use Rattle.marks.specs.Packed.{pack_number_at, pack_history, load_number_at, unpack_history, present_in, formed_history}
use Rattle.maps.specs.Map.{empty_map, with_entry, singleton, chooses_right, joined_history, joined_held_at, joined_history_at, join_of, superseded_entry, superseded_at, first_from, first_superseded, unrelated_entry, unrelated_at, any_unrelated}
use Rattle.maps.specs.News.{informed_history, informed_history_at, informed_of}
use Rattle.maps.specs.Packed.{pack_entry, pack_entry_at, pack_map, entry_bytes, unpack_held_at, unpack_history_at, unpack_map, formed_entry, formed_entry_at, formed_map}
use Rattle.rules.specs.Layout.{Layout, Limits, in_range, image_bytes}
use Rattle.rules.specs.State.{transactor_at, message_at, with_transactor, with_opened, with_message, without_message, place_from, numbered, place_of}
use Rattle.rules.specs.Step.{unpack_step, step_at, pack_reply}
use Rattle.rules.specs.Pack.{pack_transactor, pack_message, pack_transactor_at, pack_message_at, pack_head, pack_limits, pack_front, pack, unpack_transactor, unpack_message, transactor_part, message_part, unpack_transactor_at, unpack_message_at, vacant_at, waiting_in, unpack_limits, unpack}
use Rattle.rules.specs.Form.{limits_zero, map_formed, transactor_zeros, message_zeros, status_right, own_held, saved_right, idle_right, annihilated_right, no_gap, in_order, number_right, addressee_right, well_formed}
use Rattle.rules.specs.Refusals.{named, any_named, malformed, not_waiting, empty_group, unopened, is_gone, wrong_status, unrelated_receipt, all_opened, all_waiting, all_numbered, all_checkpointed, at_last, last_rolls_back, refusal_of}
use Rattle.rules.specs.Rules.{message_unrelated, receipt_unrelated, rollback, read_by, write_by, freeze_by, finish_by, fall_by, fail_by, local_by, message_superseded, receiver_superseded, receive_by, receipt_rolls_back, seen, refusal, opened, apply_root, apply_letter, apply_receive, apply_local, apply_lose, apply, step_of}
use Rattle.rules.specs.Calls.{state_after, reply_at, begin_answer, fresh_image, begin_image, wrong_part, run_answer, ran_image, ran_replies, run_image, run_replies, steps_in, query_refusal, WaitsFor, Offers, waiting}
use Rattle.rules.specs.InOrder.{Spares, Sparing, none, one_more, Received, run, Rounds, no-round, round}
use Rattle.rules.proofs.InOrder.{spares-refused, spares-other}

-- one take and four parcels, of which the session allows three
abbrev pub small : Layout
small = record { width = 1; places = 1; transactors = 1; messages = 4; limited = true }

abbrev pub limits : Limits
limits = record { transactors = 1; messages = 3; checkpoints = 1 }

-- a packed step of take 0: kind, parcel, text
abbrev pub word : ℕ → ℕ → ℕ → List ℕ
word k n v = be 8 (k * 2 ^ 60 + n * 2 ^ 32 + v)

-- root 7; letter 5; letter 6
abbrev pub start : List ℕ
start = word 0 0 7 ++ word 1 0 5 ++ word 1 0 6

-- letter 8; a receipt of a parcel that does not wait; a read while idle
abbrev pub others : List ℕ
others = word 1 0 8 ++ word 2 9 0 ++ word 5 0 0

-- receive 0; done
abbrev pub first : List ℕ
first = word 2 0 0 ++ word 8 0 0

-- lose 1, which is not run; receive 1
abbrev pub second : List ℕ
second = word 11 1 0 ++ word 2 1 0

pub image0 : List ℕ
image0 = run_image small (begin_image small limits (zeros (image_bytes small))) start 0 24 (zeros 24)

pub image1 : List ℕ
image1 = run_image small image0 others 0 24 (zeros 24)

-- a run that is refused
pub image2 : List ℕ
image2 = run_image small image1 second 0 7 []

pub image3 : List ℕ
image3 = run_image small image2 first 0 16 (zeros 16)

pub image4 : List ℕ
image4 = run_image small image3 second 8 16 (zeros 8)

-- what refuses step i of them
abbrev refusal_of_other : ℕ → ℕ
refusal_of_other i = refusal small (state_after small (unpack small image0) (part 0 24 others) i) (step_at (part 0 24 others) i)

-- ---- what computes

record Computed : Type 0 where
  offer0 : query_refusal small image0 0 ≡ 0
  waiting0 : length (unpack small image0).messages ≡ 2
  to0 : (message_at (unpack small image0) 0).addressee ≡ 0
  number0 : (message_at (unpack small image0) 0).number ≡ 0
  accepted1 : run_answer small image0 others 0 24 (zeros 24) ≡ 0
  many1 : steps_in (part 0 24 others) ≡ 3
  letter1 : (step_at (part 0 24 others) 0).kind ≡ 1
  taken1 : refusal_of_other 0 ≡ 0
  missing1 : refusal_of_other 1 ≡ 24
  idle1 : refusal_of_other 2 ≡ 23
  refused2 : run_answer small image1 second 0 7 [] ≡ 17
  accepted3 : run_answer small image2 first 0 16 (zeros 16) ≡ 0
  many3 : steps_in (part 0 16 first) ≡ 2
  receive3 : (step_at (part 0 16 first) 0).kind ≡ 2
  message3 : (step_at (part 0 16 first) 0).message ≡ 0
  received3 : refusal small (state_after small (unpack small image2) (part 0 16 first) 0) (step_at (part 0 16 first) 0) ≡ 0
  done3 : (step_at (part 0 16 first) 1).kind ≡ 8
  offer3 : query_refusal small image3 0 ≡ 0
  waiting3 : length (unpack small image3).messages ≡ 2
  to3 : (message_at (unpack small image3) 0).addressee ≡ 0
  number3 : (message_at (unpack small image3) 0).number ≡ 1
  behind3 : (message_at (unpack small image3) 1).number ≡ 2
  accepted4 : run_answer small image3 second 8 16 (zeros 8) ≡ 0
  many4 : steps_in (part 8 8 second) ≡ 1
  receive4 : (step_at (part 8 8 second) 0).kind ≡ 2
  message4 : (step_at (part 8 8 second) 0).message ≡ 1
  received4 : refusal small (state_after small (unpack small image3) (part 8 8 second) 0) (step_at (part 8 8 second) 0) ≡ 0

computed : Computed
unfolding by_numbers by_next_entry relation_of shows_stable informed unrelated_entry unrelated_at any_unrelated informed_history informed_history_at informed_of message_unrelated receipt_unrelated put part chunks tabulate zeros all_zero every be of_be same_list begins_with strict_prefix superseded_by newer_of is_older pack_number_at pack_history load_number_at unpack_history present_in formed_history empty_map with_entry singleton chooses_right joined_history joined_held_at joined_history_at join_of superseded_entry superseded_at first_from first_superseded pack_entry pack_entry_at pack_map entry_bytes unpack_held_at unpack_history_at unpack_map formed_entry formed_entry_at formed_map transactor_at message_at with_transactor with_opened with_message without_message place_from numbered place_of unpack_step step_at pack_reply pack_transactor pack_message pack_transactor_at pack_message_at pack_head pack_limits pack_front pack unpack_transactor unpack_message transactor_part message_part unpack_transactor_at unpack_message_at vacant_at waiting_in unpack_limits unpack in_range limits_zero map_formed transactor_zeros message_zeros status_right own_held saved_right idle_right annihilated_right no_gap in_order number_right addressee_right well_formed any named any_named malformed not_waiting empty_group unopened is_gone wrong_status unrelated_receipt all_opened all_waiting all_numbered all_checkpointed at_last last_rolls_back refusal_of rollback read_by write_by freeze_by finish_by fall_by fail_by local_by message_superseded receiver_superseded receive_by receipt_rolls_back seen refusal opened apply_root apply_letter apply_receive apply_local apply_lose apply step_of state_after reply_at begin_answer fresh_image begin_image wrong_part run_answer ran_image ran_replies run_image run_replies query_refusal image0 image1 image2 image3 image4
computed = record {
  offer0 = refl;
  waiting0 = refl;
  to0 = refl;
  number0 = refl;
  accepted1 = refl;
  many1 = refl;
  letter1 = refl;
  taken1 = refl;
  missing1 = refl;
  idle1 = refl;
  refused2 = refl;
  accepted3 = refl;
  many3 = refl;
  receive3 = refl;
  message3 = refl;
  received3 = refl;
  done3 = refl;
  offer3 = refl;
  waiting3 = refl;
  to3 = refl;
  number3 = refl;
  behind3 = refl;
  accepted4 = refl;
  many4 = refl;
  receive4 = refl;
  message4 = refl;
  received4 = refl;
}

-- a list of steps is of bytes
bytes : (k n v k' n' v' : ℕ) → Octets (word k n v ++ word k' n' v')
bytes k n v k' n' v' = octets-append (word k n v) (word k' n' v') (octets-be 8 (k * 2 ^ 60 + n * 2 ^ 32 + v)) (octets-be 8 (k' * 2 ^ 60 + n' * 2 ^ 32 + v'))

others-spare : (i : ℕ) → i < steps_in (part 0 24 others) → Spares small (unpack small image0) (part 0 24 others) i
others-spare zero h = spares-other small (unpack small image0) (part 0 24 others) 0 (λ k. omega (arith, computed.letter1, k)) (λ k. omega (arith, computed.letter1, k))
others-spare (suc zero) h = spares-refused small (unpack small image0) (part 0 24 others) 1 (λ e. omega (arith, computed.missing1, e))
others-spare (suc (suc zero)) h = spares-refused small (unpack small image0) (part 0 24 others) 2 (λ e. omega (arith, computed.idle1, e))
others-spare (suc (suc (suc i))) h = absurd (omega (arith, computed.many1, h))

offered0 : Offers small image0 0 (some 0)
offered0 = waiting computed.offer0 (record {
  waits = record { place = 0; waits = omega (arith, computed.waiting0); addressee = computed.to0; number = computed.number0 };
  lowest = λ k w. omega arith;
})

-- a letter, two refused steps, and a refused run
between : Sparing small image0 image2
unfolding image1 image2
between = one_more
    (one_more none others 0 24 (zeros 24) (octets-append (word 1 0 8 ++ word 2 9 0) (word 5 0 0) (bytes 1 0 8 2 9 0) (octets-be 8 (5 * 2 ^ 60 + 0 * 2 ^ 32 + 0))) (λ e. others-spare))
    second 0 7 [] (bytes 11 1 0 2 1 0) (λ e. absurd (omega (arith, computed.refused2, e)))

received0 : Received small image2 0 image3
unfolding image3
received0 = run first 0 16 (zeros 16) (bytes 2 0 0 8 0 0) computed.accepted3 (record {
  step = 0;
  within = omega (arith, computed.many3);
  kind = computed.receive3;
  message = computed.message3;
  accepted = computed.received3;
  spares = go;
})
  where
    go : (i : ℕ) → i < steps_in (part 0 16 first) → (i ≡ 0 → ⊥) → Spares small (unpack small image2) (part 0 16 first) i
    go zero h n = absurd (n refl)
    go (suc zero) h n = spares-other small (unpack small image2) (part 0 16 first) 1 (λ k. omega (arith, computed.done3, k)) (λ k. omega (arith, computed.done3, k))
    go (suc (suc i)) h n = absurd (omega (arith, computed.many3, h))

lowest3 : (k : ℕ) → WaitsFor (unpack small image3) 0 k → 1 ≤ k
lowest3 k w = go w.place w.waits w.number
  where
    go : (i : ℕ) → i < length (unpack small image3).messages → (message_at (unpack small image3) i).number ≡ k → 1 ≤ k
    go zero h e = omega (arith, computed.number3, e)
    go (suc zero) h e = omega (arith, computed.behind3, e)
    go (suc (suc i)) h e = absurd (omega (arith, computed.waiting3, h))

offered1 : Offers small image3 0 (some 1)
offered1 = waiting computed.offer3 (record {
  waits = record { place = 0; waits = omega (arith, computed.waiting3); addressee = computed.to3; number = computed.number3 };
  lowest = lowest3;
})

received1 : Received small image3 1 image4
unfolding image4
received1 = run second 8 16 (zeros 8) (bytes 11 1 0 2 1 0) computed.accepted4 (record {
  step = 0;
  within = omega (arith, computed.many4);
  kind = computed.receive4;
  message = computed.message4;
  accepted = computed.received4;
  spares = go;
})
  where
    go : (i : ℕ) → i < steps_in (part 8 8 second) → (i ≡ 0 → ⊥) → Spares small (unpack small image3) (part 8 8 second) i
    go zero h n = absurd (n refl)
    go (suc i) h n = absurd (omega (arith, computed.many4, h))

-- two rounds, with a letter, refused steps and a refused run between offer and receipt
pub two-rounds : Rounds small 0 image0 (1 ∷ 0 ∷ []) image4
two-rounds = round (round no-round none offered0 between received0) none offered1 none received1
