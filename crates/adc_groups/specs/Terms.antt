-- The vocabulary of this crate's laws: what its law files take from elsewhere.
pub use Rattle.std.proofs.Common.{ap, arith, bit_or, Bool, cond, drop, false, get_or-set_other, get_or-set_same, inl}
pub use Rattle.std.proofs.Common.{inr, is_some, IsSome, length, length-drop, length-set, List, map, min, nat_le, nat_lt}
pub use Rattle.std.proofs.Common.{None, not, Option, refl, slice_get, slice_index, slice_index_or, slice_set, Some}
pub use Rattle.std.proofs.Common.{subst, suc, sym, take, true, unwrap_or, zero, ℕ}
pub use Rattle.std.proofs.Math.Nat.{add-mul, mod-eq_of_lt, mul-le-mul_right, zero-mod}
pub use Rattle.std.proofs.lemmas.Bool.{and_from, and_parts, cases_lt, false_from_ne_true, or_left, or_parts, or_right}
pub use Rattle.std.proofs.lemmas.Bool.Decides.{nat_tests}
pub use Rattle.std.proofs.lemmas.List.{get_or-map, length-map}
pub use Rattle.std.proofs.lemmas.Nat.{and_le_l, div-add-mod', mod-mul-add, mod_below, or_lt, pow_below}
pub use Rattle.std.proofs.lemmas.Nat.Bits.{bit_at-lt, bit_at-zero, same_from_bits_below}
pub use Rattle.std.proofs.lemmas.Option.{slice_get_within}
pub use Rattle.std.specs.Int.{bit_at}
pub use Rattle.std.specs.List.{AllByRecursion, list_all, list_any, range_with_len}
pub use Rattle.mcal_base.specs.facts.{Numbers.{eq_is, eq_other, eq_self, le_since, lt_from, same_or_other}}
pub use Rattle.mcal_base.specs.facts.{Options.{none_some, some_same}, Truths.{and_false, and_first, and_second, and_true}}
pub use Rattle.mcal_base.specs.facts.{Truths.{clash, clear_apart, if_same, off_on, or_false, set_apart}}
pub use Rattle.mcal_base.proofs.BitLaws.{has_bit-above, has_bit-or, has_bit-pow_other, has_bit-pow_same}
pub use Rattle.mcal_base.proofs.BitLaws.{has_bit-without, has_bit-zero}
pub use Rattle.mcal_base.specs.{Bits.{bit_of, has_bit, without}, declared.TheConstants.{WORDS}}
pub use Rattle.mcal_base.specs.{declared.answer.Answer.{Answer}, declared.answer_name.AnswerName.TheVariants.{ENotOk}}
pub use Rattle.mcal_base.specs.{declared.answer_name.AnswerName.TheVariants.{EOk}, declared.directive.Order.{Order}}
pub use Rattle.mcal_base.specs.{declared.directive.Reason.{Reason}, declared.directive.Reason.TheVariants.{PowerOn}}
pub use Rattle.mcal_base.specs.{declared.error_name.ErrorName.{ErrorName}, declared.layout.TheConstants.{SOURCES}}
pub use Rattle.mcal_base.specs.{declared.moves.Event.{Event}, declared.moves.Move.{Move}}
pub use Rattle.mcal_base.specs.{declared.moves.Move.TheVariants.{Load, Mask, Note, Read, Report, Store, Unmask, Write}}
pub use Rattle.mcal_base.specs.{declared.moves.Unit.TheVariants.{Adc0, Adc1, Spi0, Spi1}, declared.register.Reg.{Reg}}
pub use Rattle.mcal_base.specs.{declared.register.Reg.TheVariants.{CaptureCountLow, CaptureTimeLow, ClockPll}}
pub use Rattle.mcal_base.specs.{declared.register.Reg.TheVariants.{ClockRate, ConverterAbort, ConverterAck}}
pub use Rattle.mcal_base.specs.{declared.register.Reg.TheVariants.{ConverterGo, ConverterList, EnableClear, EnableSet}}
pub use Rattle.mcal_base.specs.{declared.register.Reg.TheVariants.{PinFlip, ResetRequest, SerialData, TimerLow}}
pub use Rattle.mcal_base.specs.{declared.register.Reg.TheVariants.{TriggerClear, TriggerFlags, TriggerSet}}
pub use Rattle.mcal_base.specs.There.{names_there}
pub use Rattle.mcal_base.specs.laws.There.{move_there}
pub use Rattle.mcal_base.specs.det_errors.Rows.{first_error}
pub use Rattle.chip_blocks.proofs.of_converter.HistoryLaws.{ended-later, ended-open, has_ended-not_yet, has_ended-open}
pub use Rattle.chip_blocks.proofs.of_converter.HistoryLaws.{result-settled, unit_at-analog}
pub use Rattle.chip_blocks.proofs.of_converter.StateLaws.{finished-later, finished_not_running}
pub use Rattle.chip_blocks.specs.converter.{Accesses.{HasUnit}, Converters.{Converters, unit_at}}
pub use Rattle.chip_blocks.specs.declared.converter.{converter.Converter.{Converter}, converter.Levels.{Levels}}
unfoldable pub use Rattle.chip_blocks.specs.converter.Converters.{unused}
pub use Rattle.chip_model.proofs.{HistoryLaws.{edged, level_leaves, rate-left, words-read, words-write}}
pub use Rattle.chip_model.proofs.{PinLaws.{line-converter, line-trigger}, WordLaws.{slice_index-blank}}
pub use Rattle.chip_model.specs.Chip.{after_read, Chip, chip_after, expiry_of, happened, is_masked, is_other}
pub use Rattle.chip_model.specs.Chip.{is_pending, outside_at, reset_chip, value_of, word_of}
pub use Rattle.chip_model.specs.Histories.{FillsThere, Hardware, sets_rate}
pub use Rattle.run_model.proofs.OutsideLaws.{stands-event, stands-move, stands-reset}
pub use Rattle.run_model.specs.{Frame.{begins_word, Called, committed_after, Entered, is_reset_service, is_shared}}
pub use Rattle.run_model.specs.{Frame.{missed_after, Origin, owing as owing_notices, resets_chip}, Legal.{is_converter}}
pub use Rattle.run_model.specs.{Legal.{unit_number}, Machine.{Aborts, Acts, ErrorLeaves, Happening, Moves, no_answer}}
pub use Rattle.run_model.specs.{Machine.{Outcome, outcome, Restarts, Serves, tells_nothing}, Outside.{StandsIn}}
pub use Rattle.run_model.specs.{World.{last_sample, Sample, sample_at, World, world_after}}
pub use Rattle.step_runner.specs.Driver.{IsFree}
pub use Rattle.word_shapes.proofs.ChoiceLaws.{choice-only, none-choice}
pub use Rattle.word_shapes.proofs.OrderLaws.{is_there-append, is_there-waiting, number-waiting}
pub use Rattle.word_shapes.proofs.PriorityQueueLaws.{add-ends, drop-ends, front-ends, holds-agree, holds-below}
pub use Rattle.word_shapes.proofs.TripleBufferLaws.{own-control, own-word, rests, stands-agree}
pub use Rattle.word_shapes.specs.{Order.{added, AllBelow, AllWaiting, choice, Entry, is_there, IsChoice, IsOnce, rank}}
pub use Rattle.word_shapes.specs.{Order.{waiting, with_wait, without as left_of}, Playing.{Ends, NamesOwn, Play}}
pub use Rattle.word_shapes.specs.{PriorityQueue.{add_gave, add_left, add_start, adding, again_gave, again_left}}
pub use Rattle.word_shapes.specs.{PriorityQueue.{choosing_front, drop_gave, drop_left, drop_start, dropping}}
pub use Rattle.word_shapes.specs.{PriorityQueue.{front_gave, front_left, front_start, Holds as HoldsOrder, next_gave}}
pub use Rattle.word_shapes.specs.{PriorityQueue.{next_left, own_of as order_own, search_move, waiting_again}}
pub use Rattle.word_shapes.specs.{Room.{LowersTo}}
pub use Rattle.word_shapes.specs.{TripleBuffer.{own_of, put_gave, put_left, take_gave, take_left, word_at}}
pub use Rattle.word_shapes.specs.{declared.choosing.Front.{Front}, declared.search.Search.{Search}}
pub use Rattle.service_outline.specs.{DeferredWrites.{AreOwed, CommitsTo, deferring_writes, is_fill, is_simple}}
pub use Rattle.run_model.specs.{Machine.{answers, named, numbers, tells_error}}
pub use Rattle.service_outline.specs.{FrameHistory.{FrameHistory}}
pub use Rattle.service_outline.specs.{FrameHistory.{fresh_history, Is_this_frame, IsThisFrame}, Services.{Adding}}
pub use Rattle.service_outline.specs.{Services.{AssertedAt, ended_at, IsBasis, Looking, MakesTo, MayCome, MayStop}}
pub use Rattle.service_outline.specs.{Services.{Outside, PointAssertion, ReservedBy, RightOr, SharedRefinement, Steady}}
pub use Rattle.service_outline.specs.{Services.{with_holds, Within}, Short.{ended_by}}
pub use Rattle.service_outline.specs.{declared.done.BodyTaken.{BodyTaken}, declared.done.Done.{Done}}
pub use Rattle.service_outline.specs.{declared.done.Epilogue.TheVariants.{Nothing}}
pub use Rattle.service_outline.specs.laws.{Ending.{goes_right}, Owing.{not_filled, owing_basis}, Reports.{error_told}}
pub use Rattle.service_outline.specs.laws.{SimpleMoves.{simple_commutes, simple_value, words_happened}}
pub use Rattle.service_outline.specs.laws.{StepKinds.{asks_no, same_line}, Words.{fills_there}}
pub use Rattle.service_outline.specs.laws.{Words.{length_after, stored_other, stored_same, stores_in, word_apart}}
pub use Rattle.service_outline.specs.laws.{Words.{word_later}}
pub use Rattle.shapes_on_chip.proofs.PartLaws.{settles_list, settles_part}
pub use Rattle.shapes_on_chip.specs.OnChip.{HasWords}
pub use Rattle.shapes_on_chip.specs.Parts.{after_list, AllMay, AreListed, CommitsAfter, DiffersIn, IsPart, PartTo}
pub use Rattle.word_shapes.specs.streams.{Rounds.{bank_number, bank_word, kept_word, trio_of}, Stream.{preceding}}
pub use Rattle.word_shapes.specs.declared.streams.{column.Column.{Column}, rounds.Bank.{Bank}}
pub use Rattle.word_shapes.specs.declared.streams.{rounds.Bank.TheVariants.{One, Two, Zero}, rounds.Rounds.{Rounds}}
pub use Rattle.adc_machine.proofs.{Next.{listed, next_is, none_is}, Numbers.{allowed, came}, Parts.{either}}
pub use Rattle.adc_machine.proofs.{Parts.{group_other, group_same, of_group}, Rounds.{whole_values}, Stopped.{idle}}
pub use Rattle.adc_machine.proofs.{Stopped.{off, quiet, unmarked_group, unmarked_round}}
pub use Rattle.adc_machine.specs.{Bounds.{adc_setting, first_on_input, group_of_input, is_used}}
pub use Rattle.adc_machine.specs.{Checks.{answer_refused, error_by, group_facts, group_service, is_triggered}}
pub use Rattle.adc_machine.specs.{Checks.{service_of, zero_null}, Configured.{first_from, is_of, next_of, ranks_of}}
pub use Rattle.adc_machine.specs.{Configured.{unit_of}, Groups.{Busy, Completed, ends_with_stream, finish_of}}
pub use Rattle.adc_machine.specs.{Groups.{GroupState, held_in, Idle, inputs_left, inputs_of, is_finished, is_full}}
pub use Rattle.adc_machine.specs.{Groups.{is_idle, is_linear_stream, levels_from, newest, Request, Round}}
pub use Rattle.adc_machine.specs.{Groups.{Round as MachineRound, samples_of, Status, status_read, StreamCompleted}}
pub use Rattle.adc_machine.specs.{Groups.{trigger_input, untouched, values_of}, Laws.{ends_at, IsNext}}
pub use Rattle.adc_machine.specs.{Machine.{aborting, aborts_on, acts, acts_by, adc_machine, after_round, begun_stream}}
pub use Rattle.adc_machine.specs.{Machine.{circumstances, closed, group_work, happens, is_busy, is_done, is_start_busy}}
pub use Rattle.adc_machine.specs.{Machine.{is_trigger_line, is_under_way, is_unit_line, is_unit_taken, moved}}
pub use Rattle.adc_machine.specs.{Machine.{place_value, points, reads, ready, served, served_round, starting, stopped}}
pub use Rattle.adc_machine.specs.{Machine.{takes_one, under_way_by, work}, Table.{all_groups, group_of, object_count}}
pub use Rattle.adc_machine.specs.{Table.{unit_level}, Triggers.{has_input, is_input, listener, listener_among, listens}}
pub use Rattle.adc_machine.specs.{Triggers.{mark_at, requested_unless_turn, served_trigger, with_mark, without_mark}}
pub use Rattle.adc_machine.specs.{Turns.{aborted, aborts, aborts_by, AdcState, comes_before, first_of, first_state}}
pub use Rattle.adc_machine.specs.{Turns.{group_at, has_turn, is_on, is_outranked, is_round_of, next_among, next_group}}
pub use Rattle.adc_machine.specs.{Turns.{number_in, number_of, priority_of, rank_of, requested, round_at, started}}
pub use Rattle.adc_machine.specs.{Turns.{starts, starts_by, unless_of, waits_for, with_group, with_round}}
pub use Rattle.adc_machine.specs.{Words.{buffer_number, input_count, is_for_lines, is_in_buffer, is_own_word}}
pub use Rattle.adc_machine.specs.{Words.{is_result_word, is_word, may, may_name, may_write, place_count, result_word}}
pub use Rattle.adc_machine.specs.{declared.call.Call.{Call}, declared.call.Call.TheVariants.{DeInit, Init}}
pub use Rattle.adc_machine.specs.{declared.call.GroupCall.{GroupCall}}
pub use Rattle.adc_machine.specs.{declared.call.GroupCall.TheVariants.{DisableHardwareTrigger, EnableHardwareTrigger}}
pub use Rattle.adc_machine.specs.{declared.call.GroupCall.TheVariants.{GetGroupStatus, GetStreamLastPointer}}
pub use Rattle.adc_machine.specs.{declared.call.GroupCall.TheVariants.{Notification, ReadGroup, SetupResultBuffer}}
pub use Rattle.adc_machine.specs.{declared.call.GroupCall.TheVariants.{StartGroupConversion, StopGroupConversion}}
pub use Rattle.adc_machine.specs.{declared.call.ResultBuffer.{ResultBuffer}, declared.table.AdcTable.{AdcTable}}
pub use Rattle.adc_machine.specs.{declared.table.Group.{Group}}
pub use Rattle.adc_groups.specs.{PendingWrites.{ack_left, acks, after_deeds, Alike, Alike_but, alike_chips, Alike_same}}
pub use Rattle.adc_groups.specs.{PendingWrites.{all_rooms, Are_closed, Are_same, AreFlagsAlike, clears_flag, Closes}}
pub use Rattle.adc_groups.specs.{PendingWrites.{Differs, fits_by, FitsAbort, FitsAck, FitsDeed, FitsFlags, FitsGates}}
pub use Rattle.adc_groups.specs.{PendingWrites.{flag_left, Flags_left, Flags_same, Is_closed, Is_finished, Is_open}}
pub use Rattle.adc_groups.specs.{PendingWrites.{Is_over, IsDone, IsUnkept, left_by, making_owed, move_by, owed_of}}
pub use Rattle.adc_groups.specs.{PendingWrites.{owed_own, PendingWrites, rooms, shape_room, UnitsAlike}}
pub use Rattle.adc_groups.specs.{Places.{adc_bodies, AdcGround, Begins_stream, Closes_module, Enables_trigger}}
pub use Rattle.adc_groups.specs.{Places.{Has_acted, Has_served, has_served, HasDone, HasLooked, HasSurveyed, hold_in}}
pub use Rattle.adc_groups.specs.{Places.{hold_out, InFlag, InWindow, IsDealing, IsOnlyReader, IsOutranked, IsSeeking}}
pub use Rattle.adc_groups.specs.{Places.{IsStop, Leaves_acted, MayCall, MayClose, MayPulse, MaySeek, MayStart}}
pub use Rattle.adc_groups.specs.{Places.{Notifies, place_out, pointed, Points, Pulses, Sets_up, sought_unit, Stops}}
pub use Rattle.adc_groups.specs.{Places.{Stops_turn}, Refinement.{adc_owns, AdcRepresents, Agrees, Ahead, AllRight}}
pub use Rattle.adc_groups.specs.{Refinement.{Backed, BanksAgree, bare, chosen_of, claim_fits, claim_right, Claims}}
pub use Rattle.adc_groups.specs.{Refinement.{claims_on, Clears, Copies, CopiesRight, end_of, Fills, FillsRight}}
pub use Rattle.adc_groups.specs.{Refinement.{first_held, FitsAdc, foot_of, Full, FullRight, GroupAgrees, has_lines}}
pub use Rattle.adc_groups.specs.{Refinement.{HeldRight, is_clearing, is_handler, is_owed, IsBlock, IsOrder, IsOver}}
pub use Rattle.adc_groups.specs.{Refinement.{IsSound, IsSoundGroup, IsSoundRequest, IsZero, Keeps, KeepsRight, kept_by}}
pub use Rattle.adc_groups.specs.{Refinement.{kept_in, kept_of_round, number_at, number_by, owns_written, phase_of}}
pub use Rattle.adc_groups.specs.{Refinement.{PlacesAgree, Promised, put_of, Reads, ReadsRight, Reservation}}
pub use Rattle.adc_groups.specs.{Refinement.{Reservations, result_of, RoundAgrees, running_of, Settled, some_hold}}
pub use Rattle.adc_groups.specs.{Refinement.{SoundGroup, Starts, starts_on, take_of, TriggersAgree, UnitAgrees, Whole}}
pub use Rattle.adc_groups.specs.{Refinement.{WholeRight, will_yield, Yields}, Stored.{bit, entry, group_in, group_word}}
pub use Rattle.adc_groups.specs.{Stored.{is_under_way as phase_under_way, order_of, phase_in, phase_number, phase_read}}
pub use Rattle.adc_groups.specs.{Stored.{rounds_of, start_of, start_of as group_start, word_number}}
pub use Rattle.adc_groups.specs.{declared.body.AdcBody.{AdcBody}, declared.body.Decided.{Decided}}
pub use Rattle.adc_groups.specs.{declared.body.Decided.TheVariants.{Goes}, declared.body.Place.{Place}}
pub use Rattle.adc_groups.specs.{declared.body.Place.TheVariants.{Flag, Looks, Makes, Opens, Out, Pins, Seeks, Surveys}}
pub use Rattle.adc_groups.specs.{declared.making.Continuation.{Continuation}, declared.making.StructureOp.{StructureOp}}
pub use Rattle.adc_groups.specs.{declared.making.StructureOp.TheVariants.{Add, Again, Drop, Next, Put, Take}}
pub use Rattle.adc_groups.specs.{declared.making.WindowWrite.{WindowWrite}}
pub use Rattle.adc_groups.specs.{declared.making.WindowWrite.TheVariants.{Abort, Set}}
pub use Rattle.adc_groups.specs.{declared.making.WriteBatch.{WriteBatch}, declared.service.stop.StopSeen.{StopSeen}}
pub use Rattle.adc_groups.specs.{declared.window.Window.{Window}, declared.words.Phase.{Phase}}
pub use Rattle.adc_groups.specs.{declared.words.TheConstants.{LINES, STATE}, declared.words.Word.{Word}}
pub use Rattle.adc_groups.specs.laws.services.BodySteps.{after_making, body_ends, body_takes, body_work, follows, given}
pub use Rattle.adc_groups.specs.laws.services.BodySteps.{look_move, look_takes, making_takes, place_ends, seek_takes}
pub use Rattle.adc_groups.specs.laws.services.BodySteps.{seen_more, step}
pub use Rattle.adc_groups.specs.laws.services.Decisions.{acts_and_ends, after_request, begin, begins, begins_next}
pub use Rattle.adc_groups.specs.laws.services.Decisions.{bit_of_trigger, change, claim_lost, clean_in, close, decided}
pub use Rattle.adc_groups.specs.laws.services.Decisions.{done, enable, flagged, looked, looking, makes, name_of}
pub use Rattle.adc_groups.specs.laws.services.Decisions.{nothing_more, off_where, over, owed, point, point_by, pulse}
pub use Rattle.adc_groups.specs.laws.services.Decisions.{pulse_by, quieted, read, read_by, refused, set_up, sought}
pub use Rattle.adc_groups.specs.laws.services.Decisions.{start, status, stop, stop_by, stop_service, stopping, survey}
pub use Rattle.adc_groups.specs.laws.services.Decisions.{survey_by, surveyed, taken_away, trigger_bit, unit_in}
pub use Rattle.adc_groups.specs.laws.services.Decisions.{unit_named, yields, yields_by}
pub use Rattle.adc_groups.specs.laws.services.InitSteps.{clear_at, cleared_group, cleared_word, group_clear, unit_word}
pub use Rattle.adc_groups.specs.laws.services.WriteBatchSteps.{deed_move, making, shape_after, shape_move}
pub use Rattle.adc_groups.specs.laws.words.WindowWords.{words_of}
pub use Rattle.adc_groups.specs.laws.words.Cases.{cases, option_as, same_or_below, whether, whether_as}
pub use Rattle.word_shapes.specs.declared.dropped.Dropped.{Dropped}
pub use Rattle.mcal_base.specs.declared.service.Service.{Service}
