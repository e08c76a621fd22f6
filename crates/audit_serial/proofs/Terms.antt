-- The vocabulary of this crate's answers: what they take from elsewhere.
pub use Rattle.std.proofs.Common.{ap, arith, Bool, cond, drop, false, get_or, length, List, map, min, None, not, refl, replicate, slice_index_or, slice_set, Some, subst, sym, take, true, ℕ, [], ◌++◌, ◌+◌, ◌-◌, ◌<◌, ◌||◌, ◌∙◌, ◌∷◌, ◌≡◌, ◌≤◌}
pub use Rattle.std.proofs.lemmas.List.{append-nil, get_or_past, get_or_read, length-map, set-get_or, append_assoc, drop_all, drop_more, map-append, map_more, map_push, get_or-map, drop-map, take-map, length-set, replicate_more, take_all, take_more_set}
pub use Rattle.std.proofs.lemmas.Result.{IfOk-weaker}
pub use Rattle.std.specs.List.{AllByRecursion, enumerate_from}
pub use Rattle.std.specs.Prelude.{find, flat_map, if◌then◌else◌, IfOk, is_some, option_map, option_to_list}
pub use Rattle.mcal_base.specs.declared.answer_name.AnswerName.TheVariants.{EOk, SpiJobOk, SpiJobPending, SpiJobQueued, SpiSeqCanceled, SpiSeqOk, SpiSeqPending}
pub use Rattle.run_model.specs.Machine.{answers, named, named_with, outcome, outcome_with, tells_error, tells_nothing}
pub use Rattle.audit_base.specs.Deeds.{begun_of, came}
pub use Rattle.audit_base.specs.Tells.{gives}
pub use Rattle.mcal_base.specs.facts.Numbers.{eq_from, eq_other}
pub use Rattle.spi_machine.specs.Channels.{ChannelState, filled, initialised, untouched, written_from}
pub use Rattle.spi_machine.specs.Machine.{accepted, act_by, ended, faulted_carrying, faulted_run, initial, next_by, result_by, sequence_result_by, acts_by, after_last, begins_on, channel_work, cancelled, cancelled_by, job_done, next_at, sent_at, sent_first, sent_word, sequence_after, sequence_work, start_of, work, carried_for, carries_job, carries_on, job_begun, job_started, job_words, sequence_begun, with_word, pending_of, run_of, sent, sent_by, sent_from, sent_on, served, start_by, stored, unit_of, unless_busy}
pub use Rattle.spi_machine.specs.Numbered.{first_items, with_item}
pub use Rattle.spi_machine.specs.Pending.{all_get, cancels, changed, given_back, goes_to_next, is_of, job_result, next_job, next_on, Pending, requested, with_results, without}
pub use Rattle.spi_machine.specs.State.{carried_at, Carrying, is_busy, is_off, job_notice, run_at, SpiState, with_carried, with_run}
pub use Rattle.spi_machine.specs.Table.{channel_of, jobs_of, length_by}
pub use Rattle.spi_machine.specs.Transfers.{begun, channel_words, goes_on, JobWord, received_with, Run, word_of}
pub use Rattle.spi_machine.specs.Wiring.{is_sync_sequence, unit_of_sequence}
pub use Rattle.spi_machine.specs.declared.table.SpiTable.{SpiTable}
pub use Rattle.audit_serial.proofs.ByNumber.{first_length, first_more, grown_from, item_set, over_next, padded_more, padded_none, take_first}
pub use Rattle.audit_serial.proofs.Freed.{after_last_as, after_results, after_sequences, sent_freed, sequence_freed, served_freed, stored_as}
pub use Rattle.audit_serial.proofs.Indexed.{changed_all, changed_from, changed_left, changed_length, changed_next, changed_to, item_changed, item_left}
pub use Rattle.audit_serial.proofs.Kept.{next_kept, no_word_there, none_kept}
pub use Rattle.audit_serial.proofs.QueueLaws.{all_looked_at, best_next, best_same, one_left_in, one_left_out, within_at, within_changed, within_pushed, within_removed}
pub use Rattle.audit_serial.proofs.ResultLaws.{all_got, given_from, none_given, one_gets, one_given}
pub use Rattle.audit_serial.proofs.Sends.{carried_here, carried_there, ends_later, ends_now, ends_unsent, further_job, goes_first, goes_further, goes_nowhere, sends_from}
pub use Rattle.audit_serial.proofs.Whole.{is_free, not_free, same_parts, short_by}
pub use Rattle.audit_serial.proofs.WordLists.{next_word, no_further, one_stored, words_from_place}
pub use Rattle.audit_serial.specs.Carried.{may_go_on_at, shown_on, UnitsKept}
pub use Rattle.audit_serial.specs.Flows.{at, initialised_in, kept_all, kept_in, over_by, SendsOn, sequence_over, stored_in, sent_free, served_free}
pub use Rattle.audit_serial.specs.Queued.{change_as, changed_by, IsWithin, QueueKept}
pub use Rattle.audit_serial.specs.Stands.{begins, state_by, state_of}
pub use Rattle.audit_serial.specs.declared.serials.Mode.TheVariants.{Polling}
pub use Rattle.audit_serial.specs.declared.configured.Configured.{Configured}
pub use Rattle.audit_serial.specs.Words.{goes_as, mode_as, pending_as, set_up_as, word_as}
