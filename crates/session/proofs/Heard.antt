-- Document 02, W4: that no reply from fresh is other without the news (chains/proofs/Unheard) is not said of ledgers that are the same. One session,
-- computed by the definitions, at the ledger's own layout.
use mathlib.Core.Path.{◌≡◌, refl}
use mathlib.Core.Option.{some}
use Rattle.octets.specs.Bytes.{part, tabulate, every, any}
use Rattle.octets.specs.Numbers.{be, of_be}
use Rattle.marks.specs.Incarnation.{same_list, begins_with, strict_prefix, superseded_by, checkpointed_in, same_incarnation}
use Rattle.marks.specs.Relation.{by_numbers, by_next_entry, relation_of}
use Rattle.marks.specs.History.{initial_view, stabilized_view, newer_of, is_older}
use Rattle.marks.specs.News.{shows_stable, informed}
use Rattle.maps.specs.Map.{empty_map, with_entry, singleton, chooses_right, joined_history, joined_held_at, joined_history_at, join_of, superseded_entry, superseded_at, first_from, first_superseded, unrelated_entry, unrelated_at, any_unrelated}
use Rattle.maps.specs.View.{map_view}
use Rattle.maps.specs.News.{informed_history, informed_history_at, informed_of}
use Rattle.rules.specs.Layout.{base, widest}
use Rattle.rules.specs.State.{transactor_at, message_at, with_transactor, without_message, place_of, fresh, with_opened, with_message, place_from, numbered}
use Rattle.rules.specs.Step.{step_at, unpack_step}
use Rattle.rules.specs.Rules.{rollback, message_superseded, receiver_superseded, receive_by, group_ready, apply_receive, step_of, carried, read_by, write_by, freeze_by, finish_by, fall_by, fail_by, local_by, message_unrelated, entry_ready, map_ready, transactor_ready, checkpoint_by, checkpoint_at, checkpoint_group, receipt_rolls_back, receipt_unrelated, seen, refusal, opened, apply_root, apply_letter, apply_new, apply_send, apply_local, apply_lose, apply_sign, apply}
use Rattle.rules.specs.Calls.{state_after}
use Rattle.rules.specs.Refusals.{named, any_named, malformed, not_waiting, empty_group, unopened, is_gone, wrong_status, unrelated_receipt, all_opened, all_waiting, all_numbered, all_checkpointed, at_last, last_rolls_back, refusal_of}
use Rattle.session.specs.Silent.{receive_silently, apply_silently, step_silently, silent_after}
use Rattle.session.specs.Sessions.{news_heard}

-- In this session take 1 has heard that take 0 is frozen, and without the news it has not: its mark of take 0 is the opening one, frozen or not.
pub maps-differ : (map_view (transactor_at (state_after base (fresh base (widest base)) news_heard 11) 1).state 0 ≡ some (stabilized_view initial_view))
    × (map_view (transactor_at (silent_after base (fresh base (widest base)) news_heard 11) 1).state 0 ≡ some initial_view)
unfolding map_view silent_after step_silently apply_silently receive_silently state_after step_at unpack_step part be of_be fresh entry_ready map_ready transactor_ready group_ready checkpoint_by checkpoint_at checkpoint_group checkpointed_in same_incarnation same_list begins_with strict_prefix superseded_by by_numbers by_next_entry relation_of newer_of is_older shows_stable informed informed_history informed_history_at informed_of empty_map with_entry singleton chooses_right joined_history joined_held_at joined_history_at join_of superseded_entry superseded_at first_from first_superseded unrelated_entry unrelated_at any_unrelated tabulate every transactor_at message_at with_transactor with_opened with_message without_message place_from numbered place_of any named any_named malformed not_waiting empty_group unopened is_gone wrong_status unrelated_receipt all_opened all_waiting all_numbered all_checkpointed at_last last_rolls_back refusal_of rollback read_by write_by freeze_by finish_by fall_by fail_by local_by message_superseded receiver_superseded message_unrelated receive_by receipt_rolls_back receipt_unrelated seen refusal opened carried apply_root apply_letter apply_receive apply_new apply_send apply_local apply_lose apply_sign apply step_of
maps-differ = (refl, refl)
