-- Orders that show (specs/OrderShows), by computation; where an order shows, the steps are not independent.
use mathlib.Core.Path.{◌≡◌, refl, sym, ◌∙◌}
use lib.ListN.{length}
use Rattle.octets.specs.Bytes.{tabulate, zeros, every, any}
use Rattle.octets.specs.Numbers.{bound}
use Rattle.marks.specs.Incarnation.{same_list, begins_with, strict_prefix, superseded_by, checkpointed_in, same_incarnation}
use Rattle.marks.specs.Relation.{by_numbers, by_next_entry, relation_of}
use Rattle.marks.specs.History.{newer_of, is_older}
use Rattle.marks.specs.News.{shows_stable, informed}
use Rattle.maps.specs.Map.{empty_map, with_entry, singleton, chooses_right, joined_history, joined_held_at, joined_history_at, join_of, superseded_entry, superseded_at, first_from, first_superseded, unrelated_entry, unrelated_at, any_unrelated}
use Rattle.maps.specs.News.{informed_history, informed_history_at, informed_of}
use Rattle.rules.specs.declared.Step.{Step}
use Rattle.rules.specs.declared.Reply.{Reply}
use Rattle.rules.specs.State.{State, fresh, transactor_at, message_at, with_transactor, with_opened, with_message, without_message, place_from, numbered, place_of}
use Rattle.rules.specs.Refusals.{named, any_named, malformed, not_waiting, empty_group, unopened, is_gone, wrong_status, unrelated_receipt, all_opened, all_waiting, all_numbered, all_checkpointed, at_last, last_rolls_back, refusal_of}
use Rattle.rules.specs.Rules.{carried, message_unrelated, receipt_unrelated, rollback, read_by, write_by, freeze_by, finish_by, fall_by, fail_by, local_by, message_superseded, receiver_superseded, receive_by, receipt_rolls_back, entry_ready, map_ready, transactor_ready, group_ready, checkpoint_by, checkpoint_at, checkpoint_group, seen, refusal, opened, apply_root, apply_letter, apply_receive, apply_new, apply_send, apply_local, apply_lose, apply_sign, apply, step_of}
use Rattle.rules.specs.Examples.{three, after}
use Rattle.rules.specs.Independent.{Independent}
use Rattle.rules.specs.OrderShows.{Shows, Orders}
use Rattle.rules.proofs.Independent.Steps.{independent-exchanged}

pub shown : Orders
unfolding after tabulate zeros every any bound same_list begins_with strict_prefix superseded_by checkpointed_in same_incarnation by_numbers by_next_entry relation_of newer_of is_older shows_stable informed empty_map with_entry singleton chooses_right joined_history joined_held_at joined_history_at join_of superseded_entry superseded_at first_from first_superseded unrelated_entry unrelated_at any_unrelated informed_history informed_history_at informed_of fresh transactor_at message_at with_transactor with_opened with_message without_message place_from numbered place_of named any_named malformed not_waiting empty_group unopened is_gone wrong_status unrelated_receipt all_opened all_waiting all_numbered all_checkpointed at_last last_rolls_back refusal_of carried message_unrelated receipt_unrelated rollback read_by write_by freeze_by finish_by fall_by fail_by local_by message_superseded receiver_superseded receive_by receipt_rolls_back entry_ready map_ready transactor_ready group_ready checkpoint_by checkpoint_at checkpoint_group seen refusal opened apply_root apply_letter apply_receive apply_new apply_send apply_local apply_lose apply_sign apply step_of
shown = record {
  acting = record { alone = refl; behind = refl };
  opening = record { alone = refl; behind = refl };
  opening-seen = record { alone = refl; behind = refl };
  letter-to = record { alone = refl; behind = refl };
  send-to = record { alone = refl; behind = refl };
  making = record { alone = refl; behind = refl };
  making-seen = record { alone = refl; behind = refl };
  placing = record { alone = refl; behind = refl };
  taking = record { alone = refl; behind = refl };
  receiving = record { alone = refl; behind = refl };
  receiving-seen = record { alone = refl; behind = refl };
  receiving-changed = record { alone = refl; behind = refl };
  naming = record { alone = refl; behind = refl };
  naming-changed = record { alone = refl; behind = refl };
  resting = record { alone = refl; behind = refl };
}

-- the two are not independent there
pub shown-dependent : {s : State} {p q : Step} {first second : Reply} → Shows s p q first second → (first ≡ second → ⊥) → length s.transactors ≡ 3 → Independent three s p q → ⊥
shown-dependent {s} {p} {q} e n full i = n (sym e.alone ∙ sym (independent-exchanged three s p q full i).second ∙ e.behind)
