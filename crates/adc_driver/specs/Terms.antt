-- The vocabulary of this crate's laws: what its law files take from elsewhere.
pub use Rattle.std.proofs.Common.{All, ap, arith, bit_or, Bool, cond, count_by, drop, false, inl, inr, is_some, IsSome}
pub use Rattle.std.proofs.Common.{length, length-append, length-drop, length-set, List, map, max, nat_le, nat_lt, None}
pub use Rattle.std.proofs.Common.{not, Option, refl, slice_get, slice_index, slice_index_or, Some, subst, suc, sum_by}
pub use Rattle.std.proofs.Common.{sym, true, zero, ℕ}
pub use Rattle.std.proofs.lemmas.Bool.{and_from, not-false, or_parts}
pub use Rattle.std.proofs.lemmas.Bool.Decides.{nat_tests}
pub use Rattle.std.proofs.lemmas.List.{get_or_default}
pub use Rattle.std.proofs.lemmas.List.FromFn.{length-map-range_with_len}
pub use Rattle.std.proofs.lemmas.List.Sums.{count_by-le-length, sum_by-cons, sum_by-le}
pub use Rattle.std.proofs.lemmas.Option.{get_or_from_slice_get, slice_get_within}
pub use Rattle.std.specs.List.{fold, list_any, range_with_len}
pub use Rattle.std.specs.Option.{option_map}
pub use Rattle.mcal_base.specs.facts.{Numbers.{eq_self, lt_from, lt_is, lt_isnt, positive, same_or_other}}
pub use Rattle.mcal_base.specs.facts.{Options.{some_same}, Truths.{and_false, and_first, and_second}}
pub use Rattle.mcal_base.proofs.BitLaws.{has_bit-or}
pub use Rattle.mcal_base.specs.{Bits.{has_bit}, Layout.{is_within}, declared.TheConstants.{WORDS}}
pub use Rattle.mcal_base.specs.declared.answer.Answer.{Answer}
pub use Rattle.mcal_base.specs.{declared.answer_name.AnswerName.TheVariants.{EOk}}
pub use Rattle.mcal_base.specs.{declared.config.adc.AdcConfig.{AdcConfig}, declared.config.adc.AdcGroup.{AdcGroup}}
pub use Rattle.mcal_base.specs.{declared.config.adc.AdcHwUnit.{AdcHwUnit}}
pub use Rattle.mcal_base.specs.{declared.config.adc.AdcTriggerSource.{AdcTriggerSource}}
pub use Rattle.mcal_base.specs.{declared.config.adc.AdcTriggerSource.TheVariants.{Hardware, Software}}
pub use Rattle.mcal_base.specs.{declared.directive.Order.{Order}, declared.directive.Order.TheVariants.{Level}}
pub use Rattle.mcal_base.specs.{declared.error_name.ErrorName.{ErrorName}, declared.layout.TheConstants.{SOURCES}}
pub use Rattle.mcal_base.specs.{declared.module_name.ModuleName.TheVariants.{Adc}, declared.moves.Event.{Event}}
pub use Rattle.mcal_base.specs.declared.moves.{Event.TheVariants.{Act, Serve}, Move.{Move}}
pub use Rattle.mcal_base.specs.declared.moves.Move.TheVariants.{Load, Read, Store, Write}
pub use Rattle.mcal_base.specs.declared.{moves.Unit.TheVariants.{Spi0, Spi1}, register.Reg.{Reg}}
pub use Rattle.mcal_base.specs.{declared.register.Reg.TheVariants.{CaptureCountHigh, CaptureTimeHigh, ConverterAbort}}
pub use Rattle.mcal_base.specs.{declared.register.Reg.TheVariants.{ConverterAck, ConverterDone, ConverterGo}}
pub use Rattle.mcal_base.specs.{declared.register.Reg.TheVariants.{ConverterList, ConverterResult, ConverterState}}
pub use Rattle.mcal_base.specs.{declared.register.Reg.TheVariants.{EnableClear, EnableSet, PulseCommit, PulseIdle}}
pub use Rattle.mcal_base.specs.{declared.register.Reg.TheVariants.{TimerHigh, TriggerClear, TriggerFlags, TriggerSet}}
pub use Rattle.mcal_base.specs.There.{names_there}
pub use Rattle.mcal_base.specs.det_errors.Rows.{first_error}
pub use Rattle.chip_blocks.specs.{converter.Converters.{Converters}, declared.converter.converter.Converter.{Converter}}
pub use Rattle.chip_model.proofs.HistoryLaws.{level_leaves}
pub use Rattle.chip_model.specs.Chip.{Chip, chip_after, happened, is_masked, value_of, word_of}
pub use Rattle.run_model.proofs.OutsideLaws.{stands-move}
pub use Rattle.run_model.specs.{Causes.{blocks}, Frame.{begins_word, Brought, brought_by, Called, Entered}}
pub use Rattle.run_model.specs.{Frame.{happening_at, is_serving, is_shared, Open, Origin, outcome_of, polled_by}}
pub use Rattle.run_model.specs.{Frame.{resets_chip, served_by, state_by}, Legal.{has_line, LeavesNone, ReceivedRight}}
pub use Rattle.run_model.specs.{Machine.{no_answer, outcome, Starts, tells_nothing}, World.{World, world_after}}
pub use Rattle.step_runner.proofs.Whose.{not-unless}
pub use Rattle.step_runner.specs.{Driver.{IsFree, IsLawful, most_steps}, Whose.{EnablesOthers, EnablesWithin}}
pub use Rattle.step_runner.specs.{Whose.{is_line_of, KeepsTo, module_of_line, module_of_register, module_of_unit}}
pub use Rattle.step_runner.specs.{Whose.{module_of_word, NamesOthers, NamesWithin, only, WritesOthers, WritesWithin}}
pub use Rattle.word_shapes.proofs.PriorityQueueLaws.{empty, holds-below}
pub use Rattle.word_shapes.proofs.RoomLaws.{front-lowers, put-lowers, take-lowers}
pub use Rattle.word_shapes.proofs.TripleBufferLaws.{own-control, own-word}
pub use Rattle.word_shapes.specs.{Order.{choice, Entry}, Playing.{Memory, NamesOwn}, PriorityQueue.{choosing_front}}
pub use Rattle.word_shapes.specs.{PriorityQueue.{front_gave, front_left, front_move, front_start, Holds as HoldsOrder}}
pub use Rattle.word_shapes.specs.{PriorityQueue.{own_of as order_own, search_move}, Room.{front_room, LowersTo}}
pub use Rattle.word_shapes.specs.{Room.{put_room, take_room}, TripleBuffer.{own_of, put_gave, put_left, put_move}}
pub use Rattle.word_shapes.specs.{TripleBuffer.{put_start, take_gave, take_left, take_move}}
pub use Rattle.word_shapes.specs.{declared.choosing.Front.{Front}, declared.choosing.Next.{Next}}
pub use Rattle.word_shapes.specs.{declared.put.Put.{Put}, declared.search.Search.{Search}, declared.take.Take.{Take}}
pub use Rattle.service_outline.specs.{Acts.{Cleans, is_quiet, KeepsClean}, Both.{both}, DeferredWrites.{AreFree}}
pub use Rattle.service_outline.specs.{DeferredWrites.{AreWindows, GoesFree, GoesOwing, is_fill, is_simple, or_owed}}
pub use Rattle.run_model.specs.Machine.{named_with}
pub use Rattle.service_outline.specs.{DeferredWrites.{spot_or, Under, Windows}, Done.{ends, goes}}
pub use Rattle.run_model.specs.{Machine.{tells_error}}
pub use Rattle.service_outline.specs.{FrameHistory.{FrameHistory, fresh_history, Is_this_frame}}
pub use Rattle.service_outline.specs.{FrameHistory.{IsThisFrame, past_wrote}, Fuel.{Shortens, ShortensTo}}
pub use Rattle.service_outline.specs.{Services.{AllLet, AllLower, AreEnding, AreEndingServices, AreLong, AssertedAt}}
pub use Rattle.service_outline.specs.{Services.{Beside, CanBegin, Continues, Decides, ended_at, entering, gap_at}}
pub use Rattle.service_outline.specs.{Services.{holds_at, is_closed, IsBasis, IsLower, KeepsMask, Leaves, LongBodies}}
pub use Rattle.service_outline.specs.{Services.{Looking, MakesStarts, mark_of, MayCome, MayStop, place_at}}
pub use Rattle.service_outline.specs.{Services.{PointAssertion, ReservedBy, Right, RightOr, Services, services_driver}}
pub use Rattle.service_outline.specs.{Services.{TurnsTo, with_holds, Within}, Short.{ended_by, ending_gave, short_left}}
pub use Rattle.service_outline.specs.{Short.{short_move}, Sweep.{takes_at}, SweepServices.{IsSweeping, sweep, sweep_spot}}
pub use Rattle.service_outline.specs.{SweepServices.{Sweeping}, WindowHistory.{is_windowed, Plain}}
pub use Rattle.service_outline.specs.{declared.body.Looked.{Looked}, declared.body.Or.TheVariants.{First, Second}}
pub use Rattle.service_outline.specs.{declared.done.BodyTaken.{BodyTaken}, declared.done.Done.{Done}}
pub use Rattle.service_outline.specs.declared.done.Epilogue.{Epilogue}
pub use Rattle.service_outline.specs.declared.{done.Epilogue.TheVariants.{Nothing}, short.Short.{Short}}
pub use Rattle.service_outline.specs.{declared.sweep.Sweep.{Sweep}}
pub use Rattle.service_outline.specs.laws.{Acts.{never_clean}, Both.{both_ending}, Duties.{no_duties}}
pub use Rattle.service_outline.specs.laws.{Lawful.{services_lawful}, Owing.{not_filled, windows_right}}
pub use Rattle.service_outline.specs.laws.{Reports.{error_told}, Seen.{free_windows}, ShortServices.{calm_by}}
pub use Rattle.service_outline.specs.laws.{ShortServices.{plain_turns}, SimpleMoves.{words_happened}}
pub use Rattle.service_outline.specs.laws.{StepKinds.{asks_no}, SweepRight.{sweep_right}, Words.{stored_other}}
pub use Rattle.service_outline.specs.laws.{Words.{stored_same}}
pub use Rattle.shapes_on_chip.specs.OnChip.{HasWords}
pub use Rattle.word_shapes.specs.streams.{Copying.{after_by, copy_move, copying, count_of, has_read, move_by, place_sum}}
pub use Rattle.word_shapes.specs.streams.{Copying.{read_more}, Rounds.{bank_number, bank_word, column_word, kept_word, trio_of}}
pub use Rattle.word_shapes.specs.{streams.Stream.{limited, one_more}, declared.streams.column.Column.{Column}}
pub use Rattle.word_shapes.specs.declared.streams.{copying.Copying.{Copying}, reading.Reading.{Reading}}
pub use Rattle.word_shapes.specs.declared.streams.{rounds.Bank.{Bank}, rounds.Bank.TheVariants.{Zero}}
pub use Rattle.word_shapes.specs.declared.streams.{rounds.Rounds.{Rounds}}
pub use Rattle.adc_machine.specs.{Bounds.{adc_setting, class_of, first_on_input, group_of_input, group_steps}}
pub use Rattle.adc_machine.specs.{Bounds.{inputs_on, is_used, level_of, most_inputs, most_inputs_in, request_steps}}
pub use Rattle.adc_machine.specs.{Bounds.{steps_of}, Checks.{answer_refused, Circumstances, error_by, has_notification}}
pub use Rattle.adc_machine.specs.{Checks.{is_triggered}, Configured.{first_from, is_of, next_of, ranks_of, unit_of}}
pub use Rattle.adc_machine.specs.{Groups.{finish_of, inputs_of, is_continuous, is_finished, is_full, Request, Round}}
pub use Rattle.adc_machine.specs.{Groups.{samples_of, suspends, trigger_input}, Machine.{acts_by}}
pub use Rattle.adc_machine.specs.{Machine.{adc_machine, circumstances, fresh, is_done, is_trigger_line, is_unit_line}}
pub use Rattle.adc_machine.specs.{Machine.{line_waits, moved, startable_on, starting, starts_on, takes_one}}
pub use Rattle.adc_machine.specs.{Table.{all_groups, configured_input, found_in, group_of, groups_of, input_by}}
pub use Rattle.adc_machine.specs.{Table.{level_in, object_count, start_in, table_of, taken, unit_level, words_for}}
pub use Rattle.adc_machine.specs.{Triggers.{has_input, listener, mark_at, with_mark}, Turns.{aborts, aborts_by}}
pub use Rattle.adc_machine.specs.{Turns.{AdcState, first_of, group_at, is_on, is_outranked, next_among}}
pub use Rattle.adc_machine.specs.{Turns.{next_group, number_of, rank_of, round_at, started, starts, starts_by}}
pub use Rattle.adc_machine.specs.{Turns.{waits_for}, Words.{buffer_number, input_count, is_converter, is_for_lines}}
pub use Rattle.adc_machine.specs.{Words.{is_in_buffer, is_own_word, is_result_word, is_word, may, may_name, may_write}}
pub use Rattle.adc_machine.specs.{Words.{place_count, result_word}, declared.call.Call.{Call}}
pub use Rattle.adc_machine.specs.{declared.call.Call.TheVariants.{Init}, declared.call.GroupCall.{GroupCall}}
pub use Rattle.adc_machine.specs.{declared.call.GroupCall.TheVariants.{DisableHardwareTrigger, EnableHardwareTrigger}}
pub use Rattle.adc_machine.specs.{declared.call.GroupCall.TheVariants.{GetGroupStatus, GetStreamLastPointer}}
pub use Rattle.adc_machine.specs.{declared.call.GroupCall.TheVariants.{Notification, ReadGroup, SetupResultBuffer}}
pub use Rattle.adc_machine.specs.{declared.call.GroupCall.TheVariants.{StartGroupConversion, StopGroupConversion}}
pub use Rattle.adc_machine.specs.{declared.call.ResultBuffer.{ResultBuffer}}
pub use Rattle.adc_machine.specs.{declared.call.ResultBuffer.TheVariants.{One}, declared.table.AdcTable.{AdcTable}}
pub use Rattle.adc_machine.specs.{declared.table.Group.{Group}}
pub use Rattle.adc_groups.specs.{PendingWrites.{alike_chips, all_rooms, is_owed, making_owed, owed_of, PendingWrites}}
pub use Rattle.adc_groups.specs.{PendingWrites.{rooms, shape_room}, Places.{acted, adc_bodies, adc_windows, AdcGround}}
pub use Rattle.adc_groups.specs.{Places.{banks_spot, Begins_stream, clean_at, Closes_module, Enables_trigger}}
pub use Rattle.adc_groups.specs.{Places.{ends_claim, Has_acted, Has_served, has_served, HasDone, HasLooked, HasSeen}}
pub use Rattle.adc_groups.specs.{Places.{HasSurveyed, hold_in, hold_then, InFlag, InWindow, IsAlone, IsCalling, IsCopy}}
pub use Rattle.adc_groups.specs.Places.{IsDealing, IsFirst, IsOutranked, IsPinning, IsReading}
pub use Rattle.adc_groups.specs.{Places.{IsReleasing, IsSeeking, IsServing, IsStart, IsStarting, IsTaken, Leaves_acted}}
pub use Rattle.adc_groups.specs.{Places.{MayCall, MayClose, MayCopy, MayLeave, MayPin, MayPulse, MaySeek, MayServe}}
pub use Rattle.adc_groups.specs.{Places.{MayStart, MayTurn, Notifies, of_driver, Orders, owes_at, owes_making}}
pub use Rattle.adc_groups.specs.{Places.{place_out, place_then, Points, Prepares, Pulses, read_spot, round_words}}
pub use Rattle.adc_groups.specs.{Places.{Sets_up, sought_unit, spot_at, spot_making, spot_start, steps_then, Stops}}
pub use Rattle.adc_groups.specs.{Places.{Stops_turn}, Refinement.{adc_owns, AdcRepresents, Agrees, AllRight, bare}}
pub use Rattle.adc_groups.specs.Refinement.{buffer_in, chosen_of, claim_right, claims_on, Clears, Copies}
pub use Rattle.adc_groups.specs.{Refinement.{end_of, Fills, FitsAdc, FitsGroup, foot_of, Footprint, Full, GroupAgrees}}
pub use Rattle.adc_groups.specs.{Refinement.{has_lines, HeldRight, is_handler, IsCleared, IsOrder, IsSound}}
pub use Rattle.adc_groups.specs.Refinement.{IsZero, KeepsRight, kept_in, owns_written, Promised}
pub use Rattle.adc_groups.specs.{Refinement.{Reservation, Reservations, result_of, running_of, Settled, some_hold}}
pub use Rattle.adc_groups.specs.{Refinement.{UnitAgrees, Whole, WholeRight, will_yield}, Stored.{group_in}}
pub use Rattle.adc_groups.specs.{Stored.{group_word, is_under_way, order_of, phase_in, rounds_of, start_of}}
pub use Rattle.adc_groups.specs.{Stored.{word_number}, declared.asked.Asked.{Asked}, declared.body.AdcBody.{AdcBody}}
pub use Rattle.adc_groups.specs.{declared.body.Decided.{Decided}, declared.body.Decided.TheVariants.{Ends, Goes}}
pub use Rattle.adc_groups.specs.{declared.body.Place.{Place}, declared.body.Place.TheVariants.{Aborts, Chooses, Flag}}
pub use Rattle.adc_groups.specs.{declared.body.Place.TheVariants.{Looks, Makes, Opens, Out, Pins, Quits, Reads}}
pub use Rattle.adc_groups.specs.{declared.body.Place.TheVariants.{Reads as ReadsPlace, Seeks, Surveys}}
pub use Rattle.adc_groups.specs.{declared.making.Continuation.{Continuation}, declared.making.StructureOp.{StructureOp}}
pub use Rattle.adc_groups.specs.{declared.making.WindowWrite.{WindowWrite}}
pub use Rattle.adc_groups.specs.{declared.making.WindowWrite.TheVariants.{Set}, declared.making.WriteBatch.{WriteBatch}}
pub use Rattle.adc_groups.specs.{declared.outside.Copied.{Copied}, declared.outside.Copied.TheVariants.{Keeps}}
pub use Rattle.adc_groups.specs.{declared.outside.Copied.TheVariants.{Keeps as KeepsThem, Serves, Tells}}
pub use Rattle.adc_groups.specs.{declared.outside.Outside.{Outside, Outside as OutPlace}}
pub use Rattle.adc_groups.specs.{declared.outside.Outside.TheVariants.{Closes}, declared.outside.Suspended.{Suspended}}
pub use Rattle.adc_groups.specs.{declared.outside.Taken.{Taken}, declared.service.module.InitBody.{InitBody}}
pub use Rattle.adc_groups.specs.{declared.service.module.Setup.{Setup}, declared.service.read.Newest.{Newest}}
pub use Rattle.adc_groups.specs.{declared.service.read.Stage.{Stage}, declared.service.serve.RoundSeen.{RoundSeen}}
pub use Rattle.adc_groups.specs.{declared.service.stop.StopSeen.{StopSeen}, declared.window.Window.{Window}}
pub use Rattle.adc_groups.specs.{declared.words.Phase.{Phase}, declared.words.TheConstants.{LINES, STATE}}
pub use Rattle.adc_groups.specs.{declared.words.Word.{Word}, declared.words.Word.TheVariants.{Chosen, Notified, Turn}}
pub use Rattle.adc_groups.specs.laws.bookkeeping.FrameRule.{banks_stay, claim_tells, holds_anew}
pub use Rattle.adc_groups.specs.laws.{bookkeeping.PendingWritesRight.{adc_basis_right, owed_right}}
pub use Rattle.adc_groups.specs.laws.{bookkeeping.PendingWritesRight.{no_unit}, bookkeeping.RefinementRight.{bare_right}}
pub use Rattle.adc_groups.specs.laws.{bookkeeping.RefinementRight.{named_of}, hardware.HardwareCommutes.{block_after}}
pub use Rattle.adc_groups.specs.laws.{hardware.HardwareCommutes.{happened_block}, hardware.HardwareMoves.{by_line}}
pub use Rattle.adc_groups.specs.laws.{hardware.HardwareMoves.{plain}, hardware.HardwareCommutes.{shape_lowers}}
pub use Rattle.adc_groups.specs.laws.{hardware.HardwareCommutes.{shape_simple, some_room}}
pub use Rattle.adc_groups.specs.laws.{hardware.StableUnderHardware.{kept_within}}
pub use Rattle.adc_groups.specs.laws.{services.CallSteps.{Begins, Begins_enable, Begins_start, bit_none}}
pub use Rattle.adc_groups.specs.laws.{services.CallSteps.{from_found}}
pub use Rattle.adc_groups.specs.laws.{services.BodySteps.{after_copies, after_making, all_kept, body_ends, body_takes}}
pub use Rattle.adc_groups.specs.laws.{services.BodySteps.{body_work, choose_takes, copies_on, follows, given}}
pub use Rattle.adc_groups.specs.laws.{services.BodySteps.{keeps_some, look_move, look_takes, making_takes, opened}}
pub use Rattle.adc_groups.specs.laws.{services.BodySteps.{outside_left, outside_move, place_ends, place_move}}
pub use Rattle.adc_groups.specs.laws.{services.BodySteps.{place_takes, seek_takes, seen_more, step}}
pub use Rattle.adc_groups.specs.laws.{services.CallSteps.{enable_looks, point_looks, read_looks, setup_looks}}
pub use Rattle.adc_groups.specs.laws.{services.CallSteps.{start_looks, status_looks, stop_looks, survey_step}}
pub use Rattle.adc_groups.specs.laws.{services.CallSteps.{trigger_flag, trigger_looks}}
pub use Rattle.adc_groups.specs.laws.{services.DeInitRight.{close_survey, closing_surveys}}
pub use Rattle.adc_groups.specs.laws.services.Decisions.{aborted, aborted_by, after_request, begin}
pub use Rattle.adc_groups.specs.laws.services.Decisions.{begins, begins_next, claim, claim_ended, claim_lost}
pub use Rattle.adc_groups.specs.laws.{services.Decisions.{clean_in, column_of, conversion, convert, copies_or, decided}}
pub use Rattle.adc_groups.specs.laws.{services.Decisions.{done, entered, flagged, is_ready, keep, kept_where, leaves}}
pub use Rattle.adc_groups.specs.laws.{services.Decisions.{list_deed, lists_for, looked, looking, makes, moves_ahead}}
pub use Rattle.adc_groups.specs.laws.services.Decisions.{nothing_more, off_where, over, point_by, pulse_by}
pub use Rattle.adc_groups.specs.laws.{services.Decisions.{quieted, read_by, refused, round_seen, serve}}
pub use Rattle.adc_groups.specs.laws.{services.Decisions.{serving, set_up, sought, start_deeds, stop, stop_seen}}
pub use Rattle.adc_groups.specs.laws.services.Decisions.{stop_turn, stopping, stores, survey, survey_by}
pub use Rattle.adc_groups.specs.laws.{services.Decisions.{surveyed, take_by, taken_away, trigger_bit, turn_shape}}
pub use Rattle.adc_groups.specs.laws.{services.Decisions.{unit_in, unit_named, word_seen, yields_by}}
pub use Rattle.adc_groups.specs.laws.{services.InitSteps.{clear_at, clear_count, cleared_group, cleared_word, few}}
pub use Rattle.adc_groups.specs.laws.{services.InitSteps.{group_clear, init_takes, init_work, many_from, nth_from}}
pub use Rattle.adc_groups.specs.laws.{services.InitSteps.{setup_after, setup_count, setup_move}}
pub use Rattle.adc_groups.specs.laws.{services.InitSteps.{unit_word}, services.SingleWordCalls.{some_within}}
pub use Rattle.adc_groups.specs.laws.{services.LookSteps.{adc_looked, any_ends, AnyBody, begun_by, is_wrong, looked_by}}
pub use Rattle.adc_groups.specs.laws.{services.LookSteps.{place_for, set_up_at, small}}
pub use Rattle.adc_groups.specs.laws.{services.CallSteps.{closes_step, opens_step}}
pub use Rattle.adc_groups.specs.laws.{services.SingleWordCalls.{not_reset}, services.ReadSteps.{left_by, stage_by}}
pub use Rattle.adc_groups.specs.laws.{services.ReadSteps.{stage_move, stage_read, taken_by}}
pub use Rattle.adc_groups.specs.laws.{services.RequestRight.{on_own}, services.SeekRight.{begin_looks, begin_seeks}}
pub use Rattle.adc_groups.specs.laws.{services.SeekRight.{suspend_seeks, yield_looks}}
pub use Rattle.adc_groups.specs.laws.{services.SingleWordSteps.{deals_right}, services.WriteBatchSteps.{banks_left}}
pub use Rattle.adc_groups.specs.laws.{services.WriteBatchSteps.{deed_move, deed_or_open, either_shape, is_first}}
pub use Rattle.adc_groups.specs.laws.{services.WriteBatchSteps.{making, making_by, making_event, making_left}}
pub use Rattle.adc_groups.specs.laws.{services.WriteBatchSteps.{making_move, making_over, one_made, order_left}}
pub use Rattle.adc_groups.specs.laws.{services.WriteBatchSteps.{shape_after, shape_move}}
pub use Rattle.adc_groups.specs.laws.{services.SeekRight.{unclaimed}, words.StoreOneWord.{place_apart, start_from}}
pub use Rattle.adc_groups.specs.laws.{words.StoreOneWord.{trio_apart}, services.SeekRight.{choice_next}}
pub use Rattle.adc_groups.specs.laws.{words.StructureParts.{word_there}, words.WindowWords.{word_at}}
pub use Rattle.adc_groups.specs.laws.{words.WindowWords.{words_of}, hardware.AfterReset.{IsQuiet, rests_agree}}
pub use Rattle.adc_groups.specs.laws.{hardware.AfterReset.{result_past, trio_past}, words.WordsOfModule.{all_small}}
pub use Rattle.adc_groups.specs.laws.{words.WordsOfModule.{AllSmall, bank_below, bank_words, claim_words, clear_words}}
pub use Rattle.adc_groups.specs.laws.{words.WordsOfModule.{few_inputs, first_words, IsOwnStore, kept_words, low_words}}
pub use Rattle.adc_groups.specs.laws.{words.WordsOfModule.{on_there, order_words, place_words, running_words, unit_is}}
pub use Rattle.adc_groups.specs.laws.{words.WordsOfModule.{unit_small, unit_within, within, words_below}}
pub use Rattle.adc_groups.specs.laws.words.Cases.{cases, some_or_none, whether, whether_as}
pub use Rattle.adc_groups.specs.laws.words.StructureParts.{order_within}
pub use Rattle.adc_groups.specs.laws.words.WordsChange.{all_stay, AllStay, BankStays, CoreStays, HoldStays, KeptStays}
pub use Rattle.adc_groups.specs.laws.words.WordsChange.{ranges_apart, stays_agree, trio_place}
pub use Rattle.adc_laws.specs.turns.laws.services.ClaimEndRight.{quit_right}
pub use Rattle.adc_laws.specs.turns.laws.services.KeepRight.{keep_looks, leave_seeks}
pub use Rattle.adc_laws.specs.turns.laws.services.StartRight.{asks_for, convert_looks, starting_right}
pub use Rattle.adc_laws.specs.turns.laws.services.WriteBatchRight.{claim_at, deed_takes, deed_work, go_at, last_takes}
pub use Rattle.adc_laws.specs.turns.laws.services.WriteBatchRight.{len_start, list_at, order_takes, order_work, running_at, some_ahead}
pub use Rattle.adc_laws.specs.turns.laws.services.AbortRight.{abort_right, suspend_looks}
pub use Rattle.adc_laws.specs.turns.laws.words.BegunWords.{none_aborts, none_starts}
pub use Rattle.adc_laws.specs.serving.laws.{services.ReadRight.{only_reader}, services.GiveUpRight.{serve_looks}}
pub use Rattle.adc_laws.specs.serving.laws.{services.ClaimRight.{claim_looks}, services.CopyRight.{got}}
pub use Rattle.adc_laws.specs.serving.laws.{services.TellRight.{notes_step}, services.TellRight.{serves_step}}
pub use Rattle.adc_laws.specs.serving.laws.{services.TellRight.{tells_step_any}, services.PinRight.{pin_makes}}
pub use Rattle.adc_laws.specs.serving.laws.{services.PinRight.{pins_from}, services.ReadRight.{read_step, reads_begin}}
pub use Rattle.adc_laws.specs.serving.laws.{services.ServeRight.{serve_makes}, services.ClaimRight.{chooses_step}}
pub use Rattle.adc_laws.specs.serving.laws.{services.ClaimRight.{take_flag, take_looks}, services.TellRight.{column_is}}
pub use Rattle.adc_laws.specs.serving.laws.services.TellRight.{place_within, places_few}
pub use Rattle.adc_driver.specs.Handlers.{first_on, group_on, handled_body, handled_by}
pub use Rattle.word_shapes.specs.declared.put.PutPart.{PutPart}
pub use Rattle.mcal_base.specs.declared.service.Service.{Service}
pub use Rattle.service_outline.specs.declared.sweep.SweepStage.{SweepStage}
