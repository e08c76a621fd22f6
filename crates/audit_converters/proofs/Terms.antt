-- The vocabulary of this crate's answers: what they take from elsewhere.
pub use Rattle.std.proofs.Common.{ap, arith, cond, drop, false, length, List, min, nat_lt, None, not, refl, slice_index_or, slice_set, Some, subst, sym, take, true, vec_len, ℕ, [], ◌&&◌, ◌*◌, ◌++◌, ◌+◌, ◌-◌, ◌/◌, ◌<◌, ◌==◌, ◌||◌, ◌∙◌, ◌∷◌, ◌≡◌, ◌≤◌}
pub use Rattle.std.proofs.lemmas.Grind.{get_or_default_zero}
pub use Rattle.std.proofs.lemmas.List.{append-nil, drop_all, drop_more, get_or_default, get_or_past, length-append, length-drop, length-take, take_all, take_more, take_more_set}
pub use Rattle.std.proofs.lemmas.Nat.{mul-le}
pub use Rattle.std.specs.List.{list_any}
pub use Rattle.std.specs.Prelude.{if◌then◌else◌, is_some, nat_le, option_map}
pub use Rattle.adc_machine.proofs.Places.{leaves_results}
pub use Rattle.adc_machine.specs.Checks.{facts_by, service_of}
pub use Rattle.adc_machine.specs.Groups.{Busy, ended_values, ends_with_stream, finish_of, inputs_left, is_continuous, is_finished, is_full, is_idle, levels_from, name_of, place_in, samples_of, status_after, status_read, untouched, with_round_of}
pub use Rattle.adc_machine.specs.Machine.{aborting, aborts_on, acts, acts_by, after_round, begun_stream, circumstances, group_work, is_done, is_start_busy, is_trigger_line, is_under_way, is_unit_line, is_unit_taken, notes, ready, served, served_round, served_values, startable_on, starting, starts_on, takes_one, under_way_by, with_values, work}
pub use Rattle.adc_machine.specs.Table.{all_groups, group_of}
pub use Rattle.adc_machine.specs.Triggers.{has_input, listener, listener_among, mark_at, pulsed, requested_unless_turn, served_trigger, with_mark, without_mark}
pub use Rattle.adc_machine.specs.Turns.{aborts_by, AdcState, begun, first_of, group_at, is_on, is_round_of, next_among, next_group, number_in, number_of, rank_of, requested, round_at, starts, starts_by, unless_of, waits_for, with_group, with_round, with_waiting, without_turn}
pub use Rattle.adc_machine.specs.declared.call.ResultBuffer.{ResultBuffer}
pub use Rattle.audit_base.specs.Comes.{ComesIf, Gives}
pub use Rattle.audit_base.specs.Tells.{gives}
pub use Rattle.mcal_base.specs.det_errors.Rows.{first_error}
pub use Rattle.mcal_base.specs.declared.answer_name.AnswerName.TheVariants.{EOk}
pub use Rattle.mcal_base.specs.declared.directive.Order.TheVariants.{Trigger}
pub use Rattle.mcal_base.specs.facts.Numbers.{lt_from, lt_since}
pub use Rattle.run_model.specs.Machine.{Aborts, Acts, Moves, outcome, Starts, tells_nothing}
pub use Rattle.run_model.specs.World.{Sample}
pub use Rattle.run_model.specs.Machine.{answers, named, named_with, numbers, tells_error}
pub use Rattle.audit_converters.proofs.Levels.{ended_fits, has_room, le_known, left_within, levels_next, levels_none, levels_past, newest_is, range_is, range_length, some_mapped, take_within}
pub use Rattle.audit_converters.proofs.Places.{all_groups_stand, both_units, no_marks, no_rounds, same_results, set_groups, set_marks, set_units, skip_groups, skip_marks, skip_units, untouched_groups, within_blank, within_more}
pub use Rattle.audit_converters.proofs.Reading.{group_busy, points_busy, points_other, reads_busy, reads_other}
pub use Rattle.audit_converters.proofs.Stored.{after_values, held_skip, next_times, no_results, put_all, put_next, put_none}
pub use Rattle.audit_converters.proofs.Walks.{any_here, any_next, any_none, from_group, listener_here, listener_next, listener_none, none_left, split_back}
pub use Rattle.audit_converters.proofs.Whole.{comes_whole, gives_whole, ready_done, served_results, trigger_leaves}
pub use Rattle.audit_base.specs.Inputs.{Took}
pub use Rattle.audit_converters.specs.Listed.{listed}
pub use Rattle.audit_converters.specs.Stands.{blank, ConvertersKept, group_as, GroupKept, HoldResults, is_busy, Kept, kept_of, request_as, result_at, round_as, served_if, Stands, StandsFor, status_as}
pub use Rattle.audit_converters.specs.declared.group.Group.{Group}
pub use Rattle.audit_converters.specs.declared.group.Status.TheVariants.{Idle}
