-- Document 02, W12, on small lists from a fresh session: which steps are kept.
use Prim.Native.Nat.{ℕ, ◌+◌, ◌*◌, ◌^◌}
use mathlib.Core.Bool.{Bool, true, false}
use mathlib.Core.Path.{◌≡◌, refl}
use mathlib.Core.List.{List, [], ◌∷◌, ◌++◌}
use Rattle.octets.specs.Bytes.{part, tabulate, every, any}
use Rattle.octets.specs.Numbers.{be, of_be}
use Rattle.marks.specs.Incarnation.{same_list, begins_with, strict_prefix, superseded_by, checkpointed_in, same_incarnation}
use Rattle.marks.specs.Relation.{by_numbers, by_next_entry, relation_of}
use Rattle.marks.specs.History.{newer_of, is_older}
use Rattle.marks.specs.News.{shows_stable, informed}
use Rattle.maps.specs.Map.{empty_map, with_entry, singleton, chooses_right, joined_history, joined_held_at, joined_history_at, join_of, superseded_entry, superseded_at, first_from, first_superseded, unrelated_entry, unrelated_at, any_unrelated}
use Rattle.maps.specs.News.{informed_history, informed_history_at, informed_of}
use Rattle.rules.specs.Layout.{Layout, widest}
use Rattle.rules.specs.State.{transactor_at, message_at, fresh, with_transactor, with_opened, with_message, without_message, place_from, numbered, place_of}
use Rattle.rules.specs.Step.{unpack_step, step_at}
use Rattle.rules.specs.Refusals.{named, any_named, malformed, not_waiting, empty_group, unopened, is_gone, wrong_status, unrelated_receipt, all_opened, all_waiting, all_numbered, all_checkpointed, at_last, last_rolls_back, refusal_of}
use Rattle.rules.specs.Rules.{carried, rollback, read_by, write_by, freeze_by, finish_by, fall_by, fail_by, local_by, message_superseded, receiver_superseded, message_unrelated, receive_by, entry_ready, map_ready, transactor_ready, group_ready, checkpoint_by, checkpoint_at, checkpoint_group, receipt_rolls_back, receipt_unrelated, seen, refusal, opened, apply_root, apply_letter, apply_receive, apply_new, apply_send, apply_local, apply_lose, apply_sign, apply, step_of}
use Rattle.rules.specs.Calls.{state_after}
use Rattle.thin.specs.Thin.{not_refused, touches, empties, emptied_from, unused, kept, outcome_at}

-- two takes, two parcels and two signings
abbrev pub small : Layout
small = record { width = 1; places = 2; transactors = 2; messages = 2; limited = true }

-- a packed step: kind, take, other, parcel, text
abbrev pub word : ℕ → ℕ → ℕ → ℕ → ℕ → List ℕ
word k t o n v = be 8 (k * 2 ^ 60 + t * 2 ^ 56 + o * 2 ^ 52 + n * 2 ^ 32 + v)

-- root 7; letter 5; receive 0: take 0 is at work
abbrev pub begun : List ℕ
begun = word 0 0 0 0 7 ++ word 1 0 0 0 5 ++ word 2 0 0 0 0

-- the list b after these: which of its n steps are kept, and their outcomes
pub record Case (n : ℕ) (b : List ℕ) (flags : List Bool) (outcomes : List ℕ) : Type 0 where
  pub kept-are : tabulate n (λ i. kept (begun ++ b) (outcome_at small (fresh small (widest small)) (begun ++ b)) (3 + n) (3 + i)) ≡ flags
  pub replied : tabulate n (λ i. outcome_at small (fresh small (widest small)) (begun ++ b) (3 + i)) ≡ outcomes

pub record Cases : Type 0 where
  -- read, done
  pub case-1 : Case 2 (word 5 0 0 0 0 ++ word 8 0 0 0 0) (false ∷ true ∷ []) (0 ∷ 0 ∷ [])
  -- read, write, done
  pub case-2 : Case 3 (word 5 0 0 0 0 ++ word 6 0 0 0 9 ++ word 8 0 0 0 0) (true ∷ true ∷ true ∷ []) (0 ∷ 0 ∷ 0 ∷ [])
  -- read, send, done
  pub case-3 : Case 3 (word 5 0 0 0 0 ++ word 4 0 0 0 9 ++ word 8 0 0 0 0) (true ∷ true ∷ true ∷ []) (0 ∷ 0 ∷ 0 ∷ [])
  -- read, new, done
  pub case-4 : Case 3 (word 5 0 0 0 0 ++ word 3 0 0 0 9 ++ word 8 0 0 0 0) (true ∷ true ∷ true ∷ []) (0 ∷ 0 ∷ 0 ∷ [])
  -- reads one after the other: the last alone
  pub case-5 : Case 3 (word 5 0 0 0 0 ++ word 5 0 0 0 0 ++ word 8 0 0 0 0) (true ∷ false ∷ true ∷ []) (0 ∷ 0 ∷ 0 ∷ [])
  -- a freeze between
  pub case-6 : Case 3 (word 5 0 0 0 0 ++ word 7 0 0 0 0 ++ word 8 0 0 0 0) (true ∷ true ∷ true ∷ []) (0 ∷ 0 ∷ 0 ∷ [])
  -- a fall held
  pub case-7 : Case 3 (word 7 0 0 0 0 ++ word 5 0 0 0 0 ++ word 9 0 0 0 0) (true ∷ false ∷ true ∷ []) (0 ∷ 0 ∷ 1 ∷ [])
  -- a fall not held
  pub case-8 : Case 2 (word 5 0 0 0 0 ++ word 9 0 0 0 0) (false ∷ true ∷ []) (0 ∷ 4 ∷ [])
  -- a fail held
  pub case-9 : Case 4 (word 7 0 0 0 0 ++ word 5 0 0 0 0 ++ word 10 0 0 0 0 ++ word 8 0 0 0 0) (true ∷ true ∷ true ∷ true ∷ []) (0 ∷ 0 ∷ 1 ∷ 0 ∷ [])
  -- a fail not held
  pub case-10 : Case 2 (word 5 0 0 0 0 ++ word 10 0 0 0 0) (false ∷ true ∷ []) (0 ∷ 4 ∷ [])
  -- a signing
  pub case-11 : Case 3 (word 7 0 0 0 0 ++ word 5 0 0 0 0 ++ word 12 0 0 1 0) (true ∷ false ∷ true ∷ []) (0 ∷ 0 ∷ 0 ∷ [])
  -- a signing that is not ready, and done
  pub case-12 : Case 3 (word 5 0 0 0 0 ++ word 12 0 0 1 0 ++ word 8 0 0 0 0) (false ∷ true ∷ true ∷ []) (0 ∷ 5 ∷ 0 ∷ [])
  -- a signing of another volume, and nothing
  pub case-13 : Case 6 (word 0 0 0 0 8 ++ word 1 1 0 0 6 ++ word 2 0 0 1 0 ++ word 7 1 0 0 0 ++ word 5 0 0 0 0 ++ word 12 0 0 2 0) (true ∷ true ∷ true ∷ true ∷ true ∷ true ∷ []) (0 ∷ 0 ∷ 0 ∷ 0 ∷ 0 ∷ 0 ∷ [])
  -- done by another take, and nothing
  pub case-14 : Case 5 (word 0 0 0 0 8 ++ word 1 1 0 0 6 ++ word 2 0 0 1 0 ++ word 5 0 0 0 0 ++ word 8 1 0 0 0) (true ∷ true ∷ true ∷ true ∷ true ∷ []) (0 ∷ 0 ∷ 0 ∷ 0 ∷ 0 ∷ [])
  -- a refused write between
  pub case-15 : Case 3 (word 5 0 0 0 0 ++ word 6 0 1 0 9 ++ word 8 0 0 0 0) (false ∷ false ∷ true ∷ []) (0 ∷ 20 ∷ 0 ∷ [])
  -- at the end of the list
  pub case-16 : Case 1 (word 5 0 0 0 0) (true ∷ []) (0 ∷ [])

pub cases : Cases
unfolding kept unused emptied_from outcome_at touches empties not_refused state_after step_at unpack_step part be of_be fresh entry_ready map_ready transactor_ready group_ready checkpoint_by checkpoint_at checkpoint_group checkpointed_in same_incarnation same_list begins_with strict_prefix superseded_by by_numbers by_next_entry relation_of newer_of is_older shows_stable informed informed_history informed_history_at informed_of empty_map with_entry singleton chooses_right joined_history joined_held_at joined_history_at join_of superseded_entry superseded_at first_from first_superseded unrelated_entry unrelated_at any_unrelated tabulate every transactor_at message_at with_transactor with_opened with_message without_message place_from numbered place_of any named any_named malformed not_waiting empty_group unopened is_gone wrong_status unrelated_receipt all_opened all_waiting all_numbered all_checkpointed at_last last_rolls_back refusal_of rollback read_by write_by freeze_by finish_by fall_by fail_by local_by message_superseded receiver_superseded message_unrelated receive_by receipt_rolls_back receipt_unrelated seen refusal opened carried apply_root apply_letter apply_receive apply_new apply_send apply_local apply_lose apply_sign apply step_of
cases = record {
  case-1 = record { kept-are = refl; replied = refl };
  case-2 = record { kept-are = refl; replied = refl };
  case-3 = record { kept-are = refl; replied = refl };
  case-4 = record { kept-are = refl; replied = refl };
  case-5 = record { kept-are = refl; replied = refl };
  case-6 = record { kept-are = refl; replied = refl };
  case-7 = record { kept-are = refl; replied = refl };
  case-8 = record { kept-are = refl; replied = refl };
  case-9 = record { kept-are = refl; replied = refl };
  case-10 = record { kept-are = refl; replied = refl };
  case-11 = record { kept-are = refl; replied = refl };
  case-12 = record { kept-are = refl; replied = refl };
  case-13 = record { kept-are = refl; replied = refl };
  case-14 = record { kept-are = refl; replied = refl };
  case-15 = record { kept-are = refl; replied = refl };
  case-16 = record { kept-are = refl; replied = refl };
}
