-- The three queries on a small session (specs/Examples), by computation.
use mathlib.Core.Path.{refl}
use Rattle.octets.specs.Bytes.{tabulate, chunks, zeros, every, any}
use Rattle.octets.specs.Numbers.{be, of_be, bound}
use Rattle.marks.specs.Incarnation.{same_list, begins_with, strict_prefix, superseded_by, checkpointed_in, same_incarnation}
use Rattle.marks.specs.Relation.{by_numbers, by_next_entry, relation_of}
use Rattle.marks.specs.History.{newer_of, is_older}
use Rattle.marks.specs.News.{shows_stable, informed}
use Rattle.maps.specs.Map.{empty_map, with_entry, singleton, chooses_right, joined_history, joined_held_at, joined_history_at, join_of, superseded_entry, superseded_at, first_from, first_superseded, unrelated_entry, unrelated_at, any_unrelated}
use Rattle.maps.specs.News.{informed_history, informed_history_at, informed_of}
use Rattle.rules.specs.State.{fresh, transactor_at, message_at, with_transactor, with_opened, with_message, without_message, place_from, numbered, place_of}
use Rattle.rules.specs.Refusals.{named, any_named, malformed, not_waiting, empty_group, unopened, is_gone, wrong_status, unrelated_receipt, all_opened, all_waiting, all_numbered, all_checkpointed, at_last, last_rolls_back, refusal_of}
use Rattle.rules.specs.Rules.{carried, message_unrelated, receipt_unrelated, rollback, read_by, write_by, freeze_by, finish_by, fall_by, fail_by, local_by, message_superseded, receiver_superseded, receive_by, receipt_rolls_back, entry_ready, map_ready, transactor_ready, group_ready, seen, refusal, opened, apply_root, apply_letter, apply_receive, apply_new, apply_send, apply_local, apply_lose, apply_sign, apply, step_of}
use Rattle.rules.specs.ReadyGroups.{how_many}
use Rattle.rules.specs.Dependents.{holds_present, rests_at, works_at, carries_at, group_of, through_at, dependents_of}
use Rattle.rules.specs.Obstacle.{first_of, unstable_at, blocks_in, is_present, ground_of, entry_obstacle, map_obstacle, obstacle_of}
use Rattle.rules.specs.Impediment.{is_withdrawn, withdrawn_in, withdrawn_by, lost_ground, impedes_at, lowest_for, next_at, impediment_of}
use Rattle.rules.specs.Step.{pack_step}
use Rattle.rules.specs.Plan.{to_freeze, to_wake, steps_for, letters, letters_fit, resting_volume, steps_to_sign, plan_of}
use Rattle.rules.specs.Examples.{after, Computed}

pub computed : Computed
unfolding pack_step to_freeze to_wake steps_for letters letters_fit resting_volume steps_to_sign plan_of chunks after tabulate zeros every any be of_be bound same_list begins_with strict_prefix superseded_by checkpointed_in same_incarnation by_numbers by_next_entry relation_of newer_of is_older shows_stable informed empty_map with_entry singleton chooses_right joined_history joined_held_at joined_history_at join_of superseded_entry superseded_at first_from first_superseded unrelated_entry unrelated_at any_unrelated informed_history informed_history_at informed_of fresh transactor_at message_at with_transactor with_opened with_message without_message place_from numbered place_of named any_named malformed not_waiting empty_group unopened is_gone wrong_status unrelated_receipt all_opened all_waiting all_numbered all_checkpointed at_last last_rolls_back refusal_of carried message_unrelated receipt_unrelated rollback read_by write_by freeze_by finish_by fall_by fail_by local_by message_superseded receiver_superseded receive_by receipt_rolls_back entry_ready map_ready transactor_ready group_ready seen refusal opened apply_root apply_letter apply_receive apply_new apply_send apply_local apply_lose apply_sign apply step_of how_many holds_present rests_at works_at carries_at group_of through_at dependents_of first_of unstable_at blocks_in is_present ground_of entry_obstacle map_obstacle obstacle_of is_withdrawn withdrawn_in withdrawn_by lost_ground impedes_at lowest_for next_at impediment_of
computed = record { names = refl; page = refl; through = refl; page-through = refl; working = refl; page-working = refl; first = refl; second = refl; third = refl; fourth = refl; fifth = refl; sixth = refl; seventh = refl; plan = refl; woken = refl; lost = refl; eighth = refl }
