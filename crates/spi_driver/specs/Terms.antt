-- The vocabulary of this crate's laws: what its law files take from elsewhere.
pub use Rattle.std.proofs.Common.{All, ap, arith, Bool, cond, Contains, count_by, false, inl, inr, is_some, IsSome}
pub use Rattle.std.proofs.Common.{length, List, nat_le, nat_lt, None, not, Option, refl, slice_get, slice_index_or}
pub use Rattle.std.proofs.Common.{Some, subst, suc, sum_by, sym, take, true, zero, ℕ}
pub use Rattle.std.proofs.lemmas.Bool.{and_parts, or_right}
pub use Rattle.std.proofs.lemmas.Bool.Decides.{nat_tests}
pub use Rattle.std.proofs.lemmas.List.{get_or_default, length-take-le}
pub use Rattle.std.proofs.lemmas.List.Concat.{flat_map-cons}
pub use Rattle.std.proofs.lemmas.List.Elements.{Contains-get_or}
pub use Rattle.std.proofs.lemmas.List.Sums.{count_by-le-length, sum_by-cons, sum_by-le}
pub use Rattle.std.specs.List.{enumerate_from, list_all, list_any}
pub use Rattle.mcal_base.specs.facts.{Numbers.{lt_from, lt_since}, Options.{some_is}, Truths.{and_false, and_first}}
pub use Rattle.mcal_base.specs.{Bits.{has_bit}, Layout.{is_within, start_of, words_of}, declared.TheConstants.{WORDS}}
pub use Rattle.mcal_base.specs.{declared.answer.Answer.{Answer}, declared.answer_name.AnswerName.TheVariants.{ENotOk}}
pub use Rattle.mcal_base.specs.{declared.answer_name.AnswerName.TheVariants.{EOk, SpiUninit}}
pub use Rattle.mcal_base.specs.{declared.config.spi.SpiChannel.{SpiChannel}, declared.config.spi.SpiConfig.{SpiConfig}}
pub use Rattle.mcal_base.specs.{declared.config.spi.SpiJob.{SpiJob}, declared.config.spi.SpiSequence.{SpiSequence}}
pub use Rattle.mcal_base.specs.{declared.directive.Order.{Order}, declared.error_name.ErrorName.{ErrorName}}
pub use Rattle.mcal_base.specs.{declared.error_name.ErrorName.TheVariants.{SpiParamSeq, SpiSeqPending}}
pub use Rattle.mcal_base.specs.{declared.layout.Array.TheVariants.{Destination, Source}}
pub use Rattle.mcal_base.specs.{declared.module_name.ModuleName.TheVariants.{Spi}, declared.moves.Event.{Event}}
pub use Rattle.mcal_base.specs.{declared.moves.Event.TheVariants.{Act}, declared.moves.Move.{Move}}
pub use Rattle.mcal_base.specs.{declared.moves.Move.TheVariants.{Load, Mask, Note, Read, Report, Store, Unmask, Write}}
pub use Rattle.mcal_base.specs.{declared.moves.Unit.TheVariants.{Adc0, Adc1, Spi0, Spi1}}
pub use Rattle.mcal_base.specs.{declared.notice.Notice.{Notice}}
pub use Rattle.mcal_base.specs.{declared.notice.NoticeKind.TheVariants.{SpiJobEndNotification, SpiSeqEndNotification}}
pub use Rattle.mcal_base.specs.{declared.register.Reg.{Reg}}
pub use Rattle.mcal_base.specs.{declared.register.Reg.TheVariants.{EnableClear, EnableSet}}
pub use Rattle.mcal_base.specs.{declared.register.Reg.TheVariants.{PulseCommit}}
pub use Rattle.mcal_base.specs.{declared.register.Reg.TheVariants.{SerialSelect, SerialWait}}
pub use Rattle.mcal_base.specs.{declared.register.Reg.TheVariants.{TimerHigh}}
pub use Rattle.mcal_base.specs.There.{names_there}
pub use Rattle.chip_model.specs.Chip.{Chip, chip_after, happened, is_masked, value_of, word_of}
pub use Rattle.run_model.specs.{Causes.{blocks}, Frame.{asks_reset, begins_word, Brought, brought_by, Called}}
pub use Rattle.run_model.specs.{Frame.{caller_of, Entered, happening_at, happening_of, is_shared, missed_after, Open}}
pub use Rattle.run_model.specs.{Frame.{Origin, outcome_of, Owing, owing, polled_by, resets_chip, served_by, state_by}}
pub use Rattle.run_model.specs.{Legal.{has_line, is_left_waiting, IsNext, LeavesNone}}
pub use Rattle.run_model.specs.{Legal.{StandsAt, StartsUncalled}, Machine.{no_answer, Outcome, outcome, outcome_with, Serves}}
pub use Rattle.run_model.specs.{Machine.{Starts, tells_nothing, Told}, World.{World, world_after}}
pub use Rattle.step_runner.proofs.Whose.{not-unless}
pub use Rattle.step_runner.specs.Driver.{AllOutside, IsFree, IsLawful}
pub use Rattle.step_runner.specs.Whose.{EnablesOthers, EnablesWithin, is_line_of, is_of, KeepsTo, module_of_line}
pub use Rattle.step_runner.specs.Whose.{module_of_register, module_of_unit, module_of_word, NamesOthers, NamesWithin}
pub use Rattle.step_runner.specs.Whose.{only, WritesOthers, WritesWithin}
pub use Rattle.word_shapes.specs.{Banks.{Banks}, Playing.{Memory}, PriorityQueue.{add_gave, again_gave, drop_gave}}
pub use Rattle.word_shapes.specs.{PriorityQueue.{front_gave, front_move, search_move}}
pub use Rattle.word_shapes.specs.{TripleBuffer.{take_gave}, declared.choosing.Front.{Front}}
pub use Rattle.word_shapes.specs.{declared.search.Search.{Search}}
pub use Rattle.service_outline.specs.{Acts.{ActsRight, is_quiet, KeepsClean}, Both.{both}}
pub use Rattle.service_outline.specs.{DeferredWrites.{agrees_after, AreFree, AreWindows, CommitsTo, Either, GoesFree}}
pub use Rattle.service_outline.specs.{DeferredWrites.{GoesOwing, is_fill, is_simple, or_owed, same_chip, spot_or}}
pub use Rattle.run_model.specs.{Machine.{answers, named}}
pub use Rattle.service_outline.specs.{DeferredWrites.{Under, Windows, windows}, Done.{acts, goes}}
pub use Rattle.run_model.specs.{Machine.{tells_error}}
pub use Rattle.service_outline.specs.{FrameHistory.{FrameHistory, fresh_history, Is_this_frame}}
pub use Rattle.service_outline.specs.{FrameHistory.{IsThisFrame, MayDo, past_after, past_wrote}, Fuel.{ShortensTo}}
pub use Rattle.service_outline.specs.{Services.{AllLet, AreEnding, AreEndingServices, AreLong, AssertedAt, Beside}}
pub use Rattle.service_outline.specs.{Services.{CanBegin, Continues, Decides, Declines, ended_at, entering, gap_at}}
pub use Rattle.service_outline.specs.{Services.{holds_at, holds_in, is_closed, KeepsMask, Leaves, LongBodies, Looking}}
pub use Rattle.service_outline.specs.{Services.{MakesTo, mark_of, MayCome, MayStop, Notes, Outside, place_at}}
pub use Rattle.service_outline.specs.{Services.{PointAssertion, Proceeds, ReservedBy, Right, Services, services_driver}}
pub use Rattle.service_outline.specs.{Services.{Adding, TurnsMask, with_holds, Within, Works}, Short.{ending_gave}}
pub use Rattle.service_outline.specs.{Short.{short_left, short_move}, WindowHistory.{is_windowed}}
pub use Rattle.service_outline.specs.{WindowHistory.{Plain}, declared.body.Looked.{Looked}, declared.body.Or.{Or}}
pub use Rattle.service_outline.specs.{declared.body.Or.TheVariants.{First, Second}, declared.done.BodyTaken.{BodyTaken}}
pub use Rattle.service_outline.specs.{declared.done.Done.{Done}, declared.done.Epilogue.TheVariants.{Error, Nothing}}
pub use Rattle.service_outline.specs.{declared.done.Epilogue.TheVariants.{One, Two}, declared.short.Short.{Short}}
pub use Rattle.service_outline.specs.laws.{Both.{both_ending, both_right}, Duties.{no_duties}, Lawful.{all_wait}}
pub use Rattle.service_outline.specs.laws.{Lawful.{services_lawful}, Owing.{not_filled, windows_right}}
pub use Rattle.service_outline.specs.laws.{Reports.{error_told}, Seen.{waiting_windows}, ShortServices.{plain_makes}}
pub use Rattle.service_outline.specs.laws.{ShortServices.{plain_turns}, StepKinds.{asks_no, same_line}}
pub use Rattle.word_shapes.specs.jobs.{Parts.{commit_ends, find_gave, gave, has_ended, keep_ends}}
pub use Rattle.word_shapes.specs.jobs.{Parts.{pinning, releasing}, Placing.{bank_of, bank_word, control_word}}
pub use Rattle.word_shapes.specs.{jobs.Placing.{trio_of}, declared.jobs.channel.Channel.{Channel}, declared.jobs.channel.Placed.{Placed}}
pub use Rattle.word_shapes.specs.declared.jobs.{channel.Side.{Side}, channel.Side.TheVariants.{Received, Sent}}
pub use Rattle.word_shapes.specs.declared.jobs.{finding.Find.{Find}}
pub use Rattle.spi_machine.specs.{Bounds.{call_steps, channel_steps, class_of, internal_by, internal_words}}
pub use Rattle.spi_machine.specs.{Bounds.{is_for_lines, is_own_word, is_serial, is_used, is_users_place, is_users_word}}
pub use Rattle.spi_machine.specs.{Bounds.{is_word_of, may, may_name, may_write, objects, own_words, spi_setting}}
pub use Rattle.spi_machine.specs.{Bounds.{steps_of, uses_by, whole_steps}, Channels.{ChannelState, is_users}}
pub use Rattle.spi_machine.specs.{Checks.{answer_refused, error_by, is_wrong_length}, Fits.{AreDifferent, block_of}}
pub use Rattle.spi_machine.specs.{Fits.{FitsChannel, FitsJob, FitsSequence, FitsSpi}, Machine.{accepted, acts_by}}
pub use Rattle.spi_machine.specs.{Machine.{finds_held, moved, next_at, next_by, polls, ready, spi_machine, status_by}}
pub use Rattle.spi_machine.specs.{Machine.{unit_of}, Pending.{has_job, is_held, is_in_use, is_pending, next_on}}
pub use Rattle.spi_machine.specs.{Pending.{Pending, shares_job, uses_channel}, State.{channel_at, internal_word}}
pub use Rattle.spi_machine.specs.{State.{Interrupt, is_busy, is_off, is_polling, job_notice, Mode, notes, Off, Polling}}
pub use Rattle.spi_machine.specs.{State.{run_at, sequence_notice, SpiState}, Table.{after, banked, before, blocks_of}}
pub use Rattle.spi_machine.specs.{Table.{byte_at, channel_in, channel_list, channel_of, channels_by}}
pub use Rattle.spi_machine.specs.{Table.{channels_by_number, channels_of, is_external_channel, is_internal_channel}}
pub use Rattle.spi_machine.specs.{Table.{job_in, job_list, job_of, jobs_by, jobs_by_number, jobs_of, length_by}}
pub use Rattle.spi_machine.specs.{Table.{notifies_job, notifies_sequence, sequence_in, sequence_of}}
pub use Rattle.spi_machine.specs.{Table.{sequences_by_number, table_of, taken_channel, taken_job, taken_sequence}}
pub use Rattle.spi_machine.specs.{Transfers.{Run}, Wiring.{channel_at_place, channel_number, job_number, jobs_list}}
pub use Rattle.spi_machine.specs.{Wiring.{list_by, list_of, place_in, placed_of, shares, shares_before, unit_by}}
pub use Rattle.spi_machine.specs.{Wiring.{unit_of_sequence}, declared.call.Call.{Call}}
pub use Rattle.spi_machine.specs.{declared.call.Call.TheVariants.{Channel as OfChannel, DeInit, Get, Init}}
pub use Rattle.spi_machine.specs.{declared.call.Call.TheVariants.{MainFunctionHandling, SetAsyncMode}}
pub use Rattle.spi_machine.specs.{declared.call.ChannelCall.{ChannelCall}}
pub use Rattle.spi_machine.specs.{declared.call.ChannelCall.TheVariants.{ReadIb, SetupEb, WriteIb}}
pub use Rattle.spi_machine.specs.{declared.call.Pointer.{Pointer}, declared.call.Query.{Query}}
pub use Rattle.spi_machine.specs.{declared.call.SequenceCall.{SequenceCall}}
pub use Rattle.spi_machine.specs.{declared.call.SequenceCall.TheVariants.{AsyncTransmit, Cancel}}
pub use Rattle.spi_machine.specs.{declared.table.ChannelList.{ChannelList}, declared.table.Job.{Job}}
pub use Rattle.spi_machine.specs.{declared.table.JobList.{JobList}, declared.table.Sequence.{Sequence}}
pub use Rattle.spi_machine.specs.{declared.table.SpiTable.{SpiTable}}
pub use Rattle.spi_sequences.specs.{PendingWrites.{Cancels, owed_left, owed_move, PendingWrites, request_owes}}
pub use Rattle.spi_sequences.specs.{PendingWrites.{serve_more, serve_owes, spi_basis, spi_owing, start_more}}
pub use Rattle.spi_sequences.specs.{PendingWrites.{start_owes, unit_owed, unit_owes, Units, unless_done, where_owed}}
pub use Rattle.spi_sequences.specs.{PendingWrites.{Wholes}, Refinement.{AllRight, BanksAgree, Cleared, Debt, Handling}}
pub use Rattle.spi_sequences.specs.{Refinement.{has_lines, HeldRight, is_owed, mode_word, or_rest, owns_written}}
pub use Rattle.spi_sequences.specs.{Refinement.{Preparing, put_by, put_held, readied_by, Reading, Reservation}}
pub use Rattle.spi_sequences.specs.{Refinement.{Reservations, spi_bare, spi_owns, SpiRepresents, stored_by, take_by}}
pub use Rattle.spi_sequences.specs.{Refinement.{take_held, to_write, view, words_in, Writing}, Words.{run_in}}
pub use Rattle.spi_sequences.specs.{Words.{sequence_word}, declared.asked.Asked.{Asked}}
pub use Rattle.spi_sequences.specs.{declared.service.cancel.CancelBody.{CancelBody}}
pub use Rattle.spi_sequences.specs.{declared.service.init.InitBody.{InitBody}}
pub use Rattle.spi_sequences.specs.{declared.service.init.InitPlace.{InitPlace}}
pub use Rattle.spi_sequences.specs.{declared.service.query.QueryBody.{QueryBody}}
pub use Rattle.spi_sequences.specs.{declared.service.read.ReadBody.{ReadBody}}
pub use Rattle.spi_sequences.specs.{declared.service.read.ReadPlace.{ReadPlace}}
pub use Rattle.spi_sequences.specs.{declared.service.request.RequestPlace.{RequestPlace}}
pub use Rattle.spi_sequences.specs.{declared.service.request.Requested.{Requested}}
pub use Rattle.spi_sequences.specs.{declared.service.serve.Arrived.{Arrived}, declared.service.serve.Ended.{Ended}}
pub use Rattle.spi_sequences.specs.{declared.service.serve.Leaving.{Leaving}}
pub use Rattle.spi_sequences.specs.{declared.service.serve.SequenceNext.{SequenceNext}}
pub use Rattle.spi_sequences.specs.{declared.service.serve.ServePlace.{ServePlace}}
pub use Rattle.spi_sequences.specs.{declared.service.serve.ServeStep.{ServeStep}}
pub use Rattle.spi_sequences.specs.{declared.service.serve.Served.{Served}}
pub use Rattle.spi_sequences.specs.{declared.service.set_up.SetUpBody.{SetUpBody}}
pub use Rattle.spi_sequences.specs.{declared.service.start.StartPlace.{StartPlace}}
pub use Rattle.spi_sequences.specs.{declared.service.start.Started.{Started}, declared.service.unit.After.{After}}
pub use Rattle.spi_sequences.specs.{declared.service.unit.FrameRole.{FrameRole}}
pub use Rattle.spi_sequences.specs.{declared.service.unit.FrameRole.TheVariants.{Handler, Main, Rest, Transmit}}
pub use Rattle.spi_sequences.specs.{declared.service.unit.UnitBody.{UnitBody}}
pub use Rattle.spi_sequences.specs.{declared.service.unit.UnitPlace.{UnitPlace}, declared.service.whole.Whole.{Whole}}
pub use Rattle.spi_sequences.specs.{declared.service.whole.WholeBody.{WholeBody}}
pub use Rattle.spi_sequences.specs.{declared.service.write.WriteBody.{WriteBody}, declared.words.Position.{Position}}
pub use Rattle.spi_sequences.specs.{declared.words.Running.{Running}, declared.words.TheConstants.{PENDING, STATE}}
pub use Rattle.spi_sequences.specs.laws.{words.PendingWords.{clear_over, cleared_of}}
pub use Rattle.spi_sequences.specs.laws.{bookkeeping.PendingWritesBounds.{basis_right, owed_right}}
pub use Rattle.spi_sequences.specs.laws.{bookkeeping.RefinementRight.{frame_may, frame_names, plain_move, waits_none}}
pub use Rattle.spi_sequences.specs.laws.{bookkeeping.SequenceEnded.{get_contained}, hardware.StableUnderHardware.{by_two}}
pub use Rattle.spi_sequences.specs.laws.{hardware.SourceFilled.{any_in}, hardware.StableUnderHardware.{mode_later}}
pub use Rattle.spi_sequences.specs.laws.{hardware.StableUnderHardware.{pending_later, runs_later}}
pub use Rattle.spi_sequences.specs.laws.{services.Bodies.{spi_ends, SpiBody, unit_body}}
pub use Rattle.spi_sequences.specs.laws.{services.CancelRight.{cancel_bodies, cancel_right}}
pub use Rattle.spi_sequences.specs.laws.services.InitRight.{init_right, init_within}
pub use Rattle.spi_sequences.specs.laws.{services.InitRight.{init_bodies, IsInit}, services.Bodies.{begins}}
pub use Rattle.spi_sequences.specs.laws.{services.Bodies.{channel_begun, looked_by, query_begun, sequence_begun}}
pub use Rattle.spi_sequences.specs.laws.{services.Bodies.{spi_looked}, services.ModuleRight.{call_by, NoneBefore}}
pub use Rattle.spi_sequences.specs.laws.{services.ModuleRight.{whole_bodies, whole_right}}
pub use Rattle.spi_sequences.specs.laws.{services.QueryRight.{asks_none, may_first, query_bodies, query_right}}
pub use Rattle.spi_sequences.specs.laws.{services.ReadRight.{read_bodies, read_right}}
pub use Rattle.spi_sequences.specs.laws.{services.RequestRight.{accepted_owes}, services.UnitSteps.{request_adds}}
pub use Rattle.spi_sequences.specs.laws.{services.UnitSteps.{request_looked, request_takes}}
pub use Rattle.spi_sequences.specs.laws.{services.ServeSteps.{begins_by, begins_of, channel_next, channel_served}}
pub use Rattle.spi_sequences.specs.laws.{services.ServeSteps.{commit_by, commit_last, ends_of, first_internal}}
pub use Rattle.spi_sequences.specs.laws.{services.ServeSteps.{first_pinned, further_of, goes_on, is_last_place}}
pub use Rattle.spi_sequences.specs.laws.{services.ServeSteps.{job_note, keep_of, lets_of, release_by, release_last}}
pub use Rattle.spi_sequences.specs.laws.{services.ServeSteps.{sequence_note, serve_again, serve_commits, serve_drops}}
pub use Rattle.spi_sequences.specs.laws.{services.ServeSteps.{serve_finds, serve_keeps, serve_keeps_last, serve_lets}}
pub use Rattle.spi_sequences.specs.laws.{services.ServeSteps.{serve_move, serve_releases, serve_run, serve_takes}}
pub use Rattle.spi_sequences.specs.laws.{services.SetUpRight.{may_store, set_up_bodies, set_up_right}}
pub use Rattle.spi_sequences.specs.laws.{services.StartSteps.{start_finds, start_found, start_looks, start_move}}
pub use Rattle.spi_sequences.specs.laws.{services.StartSteps.{start_takes, unit_named}}
pub use Rattle.spi_sequences.specs.laws.{services.UnitSteps.{after_request, after_serve, after_start, held_by, opened}}
pub use Rattle.spi_sequences.specs.laws.{services.UnitSteps.{passes, requested_by, rest_after, told_first, told_next}}
pub use Rattle.spi_sequences.specs.laws.{services.UnitSteps.{unit_move, unit_over, unit_takes, unit_work}}
pub use Rattle.spi_sequences.specs.laws.{services.WriteRight.{first-at, write_bodies, write_right}}
pub use Rattle.spi_sequences.specs.laws.{words.ConfigurationFits.{job_row, rows, sequence_row, so_at, some_of}}
pub use Rattle.spi_sequences.specs.laws.words.JobPlaces.{last_below}
pub use Rattle.spi_sequences.specs.laws.{words.JobPlaces.{listed, number_there, place_found, place_missing, unit_few}}
pub use Rattle.spi_sequences.specs.laws.{words.PendingWords.{holds_back, holds_changed, HoldsLike}}
pub use Rattle.spi_sequences.specs.laws.{words.SideWords.{trio_fits}, words.WordsOfModule.{has_channel, in_list}}
pub use Rattle.spi_sequences.specs.laws.{words.WordsOfModule.{of_sixteen, own_first}, words.WordsToState.{any_some}}
pub use Rattle.spi_sequences.specs.laws.{words.WordsToState.{is_below, is_number, is_past, none_any, not_true}}
pub use Rattle.spi_sequences.specs.laws.{words.WordsToState.{same_number}}
pub use Rattle.spi_machine.proofs.Sending.{carried-right, start-received}
pub use Rattle.spi_machine.specs.{Bounds.{job_steps, sent_steps, uses_unit}}
pub use Rattle.spi_machine.specs.{Checks.{is_wrong_sequence}}
pub use Rattle.spi_machine.specs.{Machine.{act_of, cancelled, carried_for, error_of_sending, may_end, not_sent}}
pub use Rattle.spi_machine.specs.{Machine.{number_of}}
pub use Rattle.spi_machine.specs.{Machine.{sending_ends, sent}, State.{carried_at, Carrying}, Table.{is_sync_unit}}
pub use Rattle.spi_machine.specs.{Wiring.{is_sync_sequence}, declared.call.SequenceCall.TheVariants.{SyncTransmit}}
pub use Rattle.spi_sequences.specs.{PendingWrites.{Sends, sync_owed}, Refinement.{all_of, entry_carried, Sending}}
pub use Rattle.spi_sequences.specs.{declared.service.sync.SyncBody.{SyncBody}}
pub use Rattle.spi_sequences.specs.laws.{bookkeeping.RefinementRight.{none_served}, services.CancelRight.{found_none}}
pub use Rattle.spi_sequences.specs.laws.{services.Bodies.{cancel_begun, first_served}}
pub use Rattle.spi_sequences.specs.laws.services.UnitSteps.{main_over, unit_acts}
pub use Rattle.spi_sequences.specs.laws.{words.JobPlaces.{all_carried, all_cases, all_pending, none_under_way}}
pub use Rattle.spi_sequences.specs.laws.{words.JobPlaces.{shares_unit}, words.WordsToState.{pending_alone}}
pub use Rattle.spi_sequences.specs.laws.{words.WordsToState.{pending_word}}
pub use Rattle.spi_sequences.specs.laws.words.Cases.{cases, whether, whether_as}
pub use Rattle.spi_machine.specs.State.{carries_channel}
pub use Rattle.spi_laws.specs.starting.Starting.{start_left, start_place}
pub use Rattle.spi_laws.specs.starting.laws.bookkeeping.RanState.{debt_of}
pub use Rattle.spi_laws.specs.starting.laws.services.StartAround.{Fewer as StartLess, none_owed, NotStart, owed_left_is}
pub use Rattle.spi_laws.specs.starting.laws.services.StartAround.{start_calm, start_later, start_may, start_shorter}
pub use Rattle.spi_laws.specs.starting.laws.services.StartRight.{start_right, StartBegins, StartLeaves}
pub use Rattle.spi_laws.specs.serving.Serving.{notices_by, serve_ahead, serve_fuel, serve_place, serve_room}
pub use Rattle.spi_laws.specs.serving.laws.{services.ServeBounds.{place_fits}, services.ServeAround.{NotServing}}
pub use Rattle.spi_laws.specs.serving.laws.{services.ServeAround.{serve_calm, serve_later}}
pub use Rattle.spi_laws.specs.serving.laws.services.ServeBounds.{Fewer as ServeLess, fuel_at as serve_fuel_at, less_fuel, less_room}
pub use Rattle.spi_laws.specs.serving.laws.{services.ServeBounds.{room_at as serve_room_at}, services.ServeMoves.{serve_may}}
pub use Rattle.spi_laws.specs.serving.laws.{services.ServeRight.{Leaves as ServeLeaves, ServeHappens, ServeOwes, steps_right}}
pub use Rattle.spi_laws.specs.sending.Sending.{about_sent, SendAbout, SendAhead, ToEnd, ToWait}
pub use Rattle.spi_laws.specs.sending.Sending.{StandsAbout, StandsAhead, sync_bodies, sync_spot, sync_windows}
pub use Rattle.spi_laws.specs.sending.laws.services.{SendBegins.{begins_at, begins_few}, SendRight.{sender, sync_opens, sync_right}}
pub use Rattle.spi_laws.specs.sending.laws.services.{SendAround.{asking_plain, find_plain}}
pub use Rattle.spi_laws.specs.sending.laws.services.WindowsRight.{windows_are_right}
