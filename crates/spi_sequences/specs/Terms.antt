-- The vocabulary of this crate's laws: what its law files take from elsewhere.
pub use Rattle.chip_model.proofs.HistoryLaws.{level_leaves, rate-left, wiring-left, word-left}
pub use Rattle.chip_model.{proofs.PinLaws.{line-serial}, proofs.WordLaws.{slice_index-blank}, specs.Chip.{after_read}}
pub use Rattle.chip_model.specs.Chip.{Chip, chip_after, happened, is_masked, overwritten, reset_chip, source_length}
pub use Rattle.chip_model.{specs.Chip.{value_of, word_of}, specs.Histories.{Hardware, Made, sets_rate}}
pub use Rattle.chip_blocks.specs.{declared.units.serial.Serial.{Serial}, units.Serials.{fresh, idle, is_done_at, unit_at}}
pub use Rattle.mcal_base.proofs.BitLaws.{has_bit-or, has_bit-pow_other, has_bit-without, has_bit-zero}
pub use Rattle.mcal_base.{specs.Bits.{has_bit}, specs.declared.answer.Answer.{Answer}}
pub use Rattle.mcal_base.specs.declared.answer_name.AnswerName.TheVariants.{SpiJobFailed, SpiJobOk, SpiJobPending}
pub use Rattle.mcal_base.specs.declared.answer_name.AnswerName.TheVariants.{SpiJobQueued, SpiSeqCanceled}
pub use Rattle.mcal_base.specs.declared.answer_name.AnswerName.TheVariants.{SpiSeqFailed, SpiSeqOk, SpiSeqPending}
pub use Rattle.mcal_base.specs.declared.answer_name.AnswerName.TheVariants.{SpiUninit}
pub use Rattle.mcal_base.{specs.declared.config.spi.SpiConfig.{SpiConfig}, specs.declared.config.spi.SpiJob.{SpiJob}}
pub use Rattle.mcal_base.{specs.declared.config.spi.SpiSequence.{SpiSequence}, specs.declared.directive.Order.{Order}}
pub use Rattle.mcal_base.specs.declared.directive.Order.TheVariants.{Fill, Level, SpiFault}
pub use Rattle.mcal_base.specs.declared.directive.Reason.{Reason}
pub use Rattle.mcal_base.specs.declared.directive.Reason.TheVariants.{PowerOn}
pub use Rattle.mcal_base.specs.declared.error_name.ErrorName.{ErrorName}
pub use Rattle.mcal_base.specs.declared.layout.Array.TheVariants.{Destination, Source}
pub use Rattle.mcal_base.{specs.declared.layout.TheConstants.{SOURCES}, specs.declared.moves.Unit.TheVariants.{Adc0}}
pub use Rattle.mcal_base.{specs.declared.moves.Unit.TheVariants.{Adc1}, specs.declared.register.Reg.{Reg}}
pub use Rattle.mcal_base.specs.declared.register.Reg.TheVariants.{CaptureCountLow, CaptureTimeLow, ClockPll}
pub use Rattle.mcal_base.specs.declared.register.Reg.TheVariants.{ClockRate, ConverterAbort, PinFlip, ResetRequest}
pub use Rattle.mcal_base.{specs.declared.register.Reg.TheVariants.{TimerLow}, specs.declared.TheConstants.{WORDS}}
pub use Rattle.mcal_base.specs.facts.Numbers.{eq_is, eq_isnt, lt_from, lt_since, same_or_other}
pub use Rattle.mcal_base.{specs.facts.Options.{some_is}, specs.facts.Truths.{and_false, clear_apart, set_apart}}
pub use Rattle.mcal_base.{specs.laws.There.{move_there}, specs.Layout.{is_within, place_of, start_of}}
pub use Rattle.mcal_base.specs.There.{names_there}
pub use Rattle.run_model.{proofs.OutsideLaws.{stands-event, stands-move, stands-reset}, specs.Frame.{begins_word}}
pub use Rattle.run_model.specs.Frame.{Called, is_reset_service, is_shared, missed_after, Origin, owing, resets_chip}
pub use Rattle.run_model.{specs.Machine.{answers, named_with, outcome, tells_nothing}, specs.Moment.{reads_from}}
pub use Rattle.run_model.{specs.Outside.{StandsIn}, specs.World.{World, world_after}}
pub use Rattle.service_outline.specs.{Acts.{Cleans}, declared.body.Looked.{Looked}}
pub use Rattle.service_outline.specs.{declared.body.Looked.TheVariants.{Goes, Refused}, declared.body.Or.{Or}}
pub use Rattle.service_outline.specs.{declared.body.Or.TheVariants.{First, Second}, declared.done.Done.{Done}}
pub use Rattle.service_outline.specs.DeferredWrites.{agrees_after, AreFree, AreWindows, CommitsTo, GoesFree}
pub use Rattle.service_outline.specs.DeferredWrites.{GoesOwing, is_fill, is_simple, same_chip, Under, Windows}
pub use Rattle.service_outline.specs.{DeferredWrites.{windows}, FrameHistory.{FrameHistory, fresh_history}}
pub use Rattle.service_outline.specs.{FrameHistory.{Is_this_frame, IsThisFrame}, Fuel.{Shortens, ShortensTo}}
pub use Rattle.service_outline.specs.{laws.Acts.{never_clean}, laws.Owing.{owing_basis, windows_right}}
pub use Rattle.service_outline.specs.{laws.SimpleMoves.{simple_owed}, laws.StepKinds.{asks_no}}
pub use Rattle.service_outline.specs.laws.Words.{fills_there, stored_other, stored_same, stores_in, word_apart}
pub use Rattle.service_outline.specs.{laws.Words.{word_later}, Outline.{error_in, notices_in, owes_nothing}}
pub use Rattle.service_outline.specs.Services.{Adding, AreEnding, AreLong, AssertedAt, Continues, gap_at, holds_at}
pub use Rattle.service_outline.specs.Services.{is_closed, IsBasis, KeepsMask, LongBodies, MakesTo, MayCome, MayStop}
pub use Rattle.service_outline.specs.Services.{Outside, owners, place_at, PointAssertion, ReservedBy, Right, RightOr}
pub use Rattle.service_outline.specs.Services.{Steady, TurnsMask, TurnsTo, with_holds, Within, Works}
pub use Rattle.service_outline.specs.Short.{ended_by}
pub use Rattle.shapes_on_chip.{proofs.PartLaws.{differs-after, one_owed, settles_part}, proofs.Steps.{words-same}}
pub use Rattle.shapes_on_chip.{specs.OnChip.{AreThere, HasWords}, specs.Parts.{CommitsAfter, DiffersIn, IsPart, PartTo}}
pub use Rattle.word_shapes.specs.{declared.jobs.channel.Channel.{Channel}, declared.jobs.channel.Side.{Side}, jobs.Parts.{free_bank}}
pub use Rattle.word_shapes.specs.jobs.{Parts.{pinning}, Placing.{bank_of, bank_word, control_word, first_word, flag, held_word}}
pub use Rattle.word_shapes.specs.jobs.Placing.{not_set_up, or_none, packed, set_up_word, source_word, trio_of, unpacked}
pub use Rattle.spi_machine.{proofs.Acts.{act-leaves}, proofs.Numbers.{channel-seen, item-other, item-same}}
pub use Rattle.spi_machine.{proofs.Results.{repeats-drop, results-other, results-own}, specs.Bounds.{has_handler}}
pub use Rattle.spi_machine.specs.Bounds.{HoldsArrays, internal_by, is_for_lines, is_own_word, is_used, is_users_place}
pub use Rattle.spi_machine.specs.Bounds.{is_users_word, is_word_of, may, may_name, may_write, own_words, spi_setting}
pub use Rattle.spi_machine.{specs.Bounds.{uses_by, uses_unit, whole_steps}, specs.Channels.{ChannelState, filled}}
pub use Rattle.spi_machine.specs.Channels.{initialised, is_users, set_up_or, SetUp, untouched, words_from}
pub use Rattle.spi_machine.{specs.Channels.{written_from}, specs.Checks.{answer_refused, error_by, service_of}}
pub use Rattle.spi_machine.{specs.declared.call.Call.{Call}, specs.declared.call.Call.TheVariants.{DeInit, Get, Init}}
pub use Rattle.spi_machine.specs.declared.call.Call.TheVariants.{MainFunctionHandling, SetAsyncMode}
pub use Rattle.spi_machine.specs.declared.call.ChannelCall.{ChannelCall}
pub use Rattle.spi_machine.specs.declared.call.ChannelCall.TheVariants.{ReadIb, SetupEb, WriteIb}
pub use Rattle.spi_machine.{specs.declared.call.Pointer.{Pointer}, specs.declared.call.Pointer.TheVariants.{Null}}
pub use Rattle.spi_machine.{specs.declared.call.Pointer.TheVariants.{Users}, specs.declared.call.Query.{Query}}
pub use Rattle.spi_machine.specs.declared.call.Query.TheVariants.{HwUnitStatus, JobResult, SequenceResult, Status}
pub use Rattle.spi_machine.specs.declared.call.SequenceCall.{SequenceCall}
pub use Rattle.spi_machine.specs.declared.call.SequenceCall.TheVariants.{AsyncTransmit, Cancel, SyncTransmit}
pub use Rattle.spi_machine.{specs.declared.table.Job.{Job}, specs.declared.table.Sequence.{Sequence}}
pub use Rattle.spi_machine.{specs.declared.table.TheConstants.{NO_CHANNEL}, specs.Fits.{AreDifferent, block_of}}
pub use Rattle.spi_machine.{specs.Fits.{FitsChannel, FitsSpi}, specs.Machine.{accepted, acts_by, cancelled}}
pub use Rattle.spi_machine.specs.Machine.{cancelled_by, due, ended, faulted_carrying, faulted_run, has_done, initial}
pub use Rattle.spi_machine.specs.Machine.{moved, next_at, next_by, number_of, query_answer, read_answer, ready}
pub use Rattle.spi_machine.{specs.Machine.{spi_machine, status_by, unit_of, unless_busy}, specs.Numbered.{first_items}}
pub use Rattle.spi_machine.{specs.Numbered.{with_item, word_at}, specs.Pending.{all_get, best, better, cancels}}
pub use Rattle.spi_machine.specs.Pending.{changed, given_back, has_job, is_for, is_held, is_in_use, is_of, is_pending}
pub use Rattle.spi_machine.specs.Pending.{job_result, keeps_unit, next_job, next_on, Pending, precedes, rank}
pub use Rattle.spi_machine.specs.Pending.{requested, sequence_result, shares_job, uses_channel, without}
pub use Rattle.spi_machine.{specs.Promised.{has_failed, repeats}, specs.State.{carried_at, carries_channel, Carrying}}
pub use Rattle.spi_machine.specs.State.{channel_at, first_state, Interrupt, is_busy, is_interrupt, is_off, is_running}
pub use Rattle.spi_machine.specs.State.{Mode, mode_of, notes, Off, Polling, run_at, runs_sequence, sequence_notice}
pub use Rattle.spi_machine.{specs.State.{SpiState, uses, with_carried, with_channel, with_run}, specs.Table.{banked}}
pub use Rattle.spi_machine.specs.Table.{channel_of, channels_by, channels_of, is_on_unit, job_in, jobs_by}
pub use Rattle.spi_machine.specs.Table.{jobs_by_number, jobs_of, length_by, sequence_in, sequences_by_number}
pub use Rattle.spi_machine.{specs.Table.{table_of, taken_job, taken_sequence}, specs.Transfers.{as_words}}
pub use Rattle.spi_machine.specs.Transfers.{channel_words, faulted, goes_to, is_done, Nowhere, Run, ToChannel}
pub use Rattle.spi_machine.{specs.Transfers.{Transfer}, specs.Wiring.{is_sync_sequence, job_number, or_else}}
pub use Rattle.spi_machine.specs.Wiring.{place_before, place_in, served_lines, unit_by}
pub use Rattle.spi_sequences.specs.{declared.asked.Asked.{Asked}, declared.service.init.InitBody.{InitBody}}
pub use Rattle.spi_sequences.specs.declared.service.init.InitPlace.{InitPlace}
pub use Rattle.spi_sequences.specs.declared.service.query.JobPlace.{JobPlace}
pub use Rattle.spi_sequences.specs.declared.service.query.JobQuery.{JobQuery}
pub use Rattle.spi_sequences.specs.declared.service.query.QueryBody.{QueryBody}
pub use Rattle.spi_sequences.specs.declared.service.read.ReadBody.{ReadBody}
pub use Rattle.spi_sequences.specs.declared.service.read.ReadPlace.{ReadPlace}
pub use Rattle.spi_sequences.specs.declared.service.set_up.SetUpBody.{SetUpBody}
pub use Rattle.spi_sequences.specs.declared.service.whole.Whole.TheVariants.{Mode as Modes}
pub use Rattle.spi_sequences.specs.declared.service.write.WriteBody.{WriteBody}
pub use Rattle.spi_sequences.specs.{declared.service.write.Written.{Written}, Going.{CarriesAgrees, ExternalAgrees}}
pub use Rattle.spi_sequences.specs.Going.{goes_by, Going, GoingAgrees, InternalAgrees, InTransfer, is_ahead, Part}
pub use Rattle.spi_sequences.specs.Going.{PartBy, run_of, UnitAgrees, width_by, WordAgrees, words_of}
pub use Rattle.spi_sequences.specs.laws.services.CancelSteps.{cancel_drops, cancel_owed, cancel_takes, cancel_work}
pub use Rattle.spi_sequences.specs.laws.services.CancelSteps.{is_running_sequence}
pub use Rattle.spi_sequences.specs.laws.services.ModuleSteps.{all_looked, busy_answer, looked_at, state_word_after}
pub use Rattle.spi_sequences.specs.laws.services.ModuleSteps.{whole_takes, whole_work}
pub use Rattle.spi_sequences.specs.laws.services.ServeSteps.{commit_at, commit_by, commit_last, first_internal}
pub use Rattle.spi_sequences.specs.laws.services.ServeSteps.{first_pinned, goes_on, is_pinned_at, keep_of, meets_at}
pub use Rattle.spi_sequences.specs.laws.services.ServeSteps.{release_by, release_last, serve_commits, serve_drops}
pub use Rattle.spi_sequences.specs.laws.services.ServeSteps.{serve_keeps, serve_keeps_last, serve_lets}
pub use Rattle.spi_sequences.specs.{laws.services.ServeSteps.{serve_releases}, laws.services.StartSteps.{prepare_at}}
pub use Rattle.spi_sequences.specs.laws.services.StartSteps.{prepare_by, prepared, rank_in, ranks_in, start_chooses}
pub use Rattle.spi_sequences.specs.laws.services.StartSteps.{start_prepares, start_releases}
pub use Rattle.spi_sequences.specs.laws.services.UnitSteps.{after_request, after_serve, after_start, request_adds}
pub use Rattle.spi_sequences.specs.{laws.services.UnitSteps.{unit_over, unit_took}, laws.words.Cases.{cases, option_as}}
pub use Rattle.spi_sequences.specs.laws.words.Cases.{some_or_none, whether, whether_as}
pub use Rattle.spi_sequences.specs.PendingWrites.{cancel_owed_at, Cancels, commit_more, commits_left, drop_more}
pub use Rattle.spi_sequences.specs.PendingWrites.{keep_more, more_owed, next_more, owed_left, owed_move}
pub use Rattle.spi_sequences.specs.PendingWrites.{PendingWrites, prepare_more, put_more, search_more, spi_basis}
pub use Rattle.spi_sequences.specs.PendingWrites.{spi_owing, take_more, unit_more, unit_owed, unit_owes, Units}
pub use Rattle.spi_sequences.specs.{PendingWrites.{unless_done, whole_owed, Wholes}, Refinement.{all_of, AllRight}}
pub use Rattle.spi_sequences.specs.Refinement.{AllSend, AreCarried, AreOwed, BanksAgree, CarriesRight, ChannelFits}
pub use Rattle.spi_sequences.specs.Refinement.{Cleared, Debt, entries_begun, entries_of, entry_carried, Handling}
pub use Rattle.spi_sequences.specs.Refinement.{has_lines, HeldRight, is_left, is_owed, is_preparing, is_sent, IsEntry}
pub use Rattle.spi_sequences.specs.Refinement.{IsLast, IsOfSequence, IsReady, IsSending, IsSoundState, job_code}
pub use Rattle.spi_sequences.specs.Refinement.{Keeps, Keeps as KeepsWords, KeepsNone, KnowsEnd, LinesAgree, mode_word}
pub use Rattle.spi_sequences.specs.Refinement.{or_rest, owes_by, owns_written, PendingAgrees, Pins, PinsNone}
pub use Rattle.spi_sequences.specs.Refinement.{prepares, Preparing, put_by, put_held, PutRight, readied_by}
pub use Rattle.spi_sequences.specs.Refinement.{readied_in, Reading, Reservation, Reservations, run_carried, RunAgrees}
pub use Rattle.spi_sequences.specs.Refinement.{RunsBy, RunsNext, Sending, SendingRight, sequence_code, SequencesAgree}
pub use Rattle.spi_sequences.specs.Refinement.{set_up_code, SetUpFits, spi_bare, spi_owns, SpiRepresents, stored_by}
pub use Rattle.spi_sequences.specs.Refinement.{stored_in, take_by, take_held, TakeRight, to_write, View, view}
pub use Rattle.spi_sequences.specs.{Refinement.{WiredAs, words_in, WordsAgree, Writing}, Words.{job_result_in}}
pub use Rattle.spi_sequences.specs.Words.{order_word, sequence_result_in}
pub use Rattle.std.proofs.Common.{ap, arith, bit_and, bit_or, Bool, cond, Contains, count_by, drop, false, filter}
pub use Rattle.std.proofs.Common.{find, flat_map, get_or-set_other, get_or-set_same, inl, inr, is_some, length}
pub use Rattle.std.proofs.Common.{length-set, List, map, nat_eq, nat_le, nat_lt, None, not, Option, refl, replicate}
pub use Rattle.std.proofs.Common.{slice_get, slice_index, slice_index_or, slice_set, Some, subst, suc, sum_by, sym}
pub use Rattle.std.{proofs.Common.{take, true, zero, ℕ}, proofs.lemmas.Bool.{and_parts, or_left, or_parts, or_right}}
pub use Rattle.std.{proofs.lemmas.Bool.Decides.{nat_tests}, proofs.lemmas.Grind.{common_steps}}
pub use Rattle.std.proofs.lemmas.List.{append-nil, drop_all, get_or-append-add, get_or-drop, get_or-replicate}
pub use Rattle.std.proofs.lemmas.List.{get_or-take, get_or_append_left, get_or_default, length-append, length-drop}
pub use Rattle.std.proofs.lemmas.List.{length-map, length-replicate, length-take, length-take-le, length_push}
pub use Rattle.std.proofs.lemmas.List.{map-append, take_all, take_more as one_more}
pub use Rattle.std.{proofs.lemmas.List.Concat.{flat_map-cons}, proofs.lemmas.List.Elements.{Contains-append_cases}}
pub use Rattle.std.proofs.lemmas.List.Elements.{Contains-append_left, Contains-append_right, Contains-get_or}
pub use Rattle.std.proofs.lemmas.List.Elements.{Contains-push, Contains-push_cases, filter-append}
pub use Rattle.std.{proofs.lemmas.List.Sums.{count_by-le-length, sum_by-cons}, proofs.lemmas.Nat.{and_assoc, and_le_r}}
pub use Rattle.std.proofs.lemmas.Nat.{and_mask, and_mod, and_or_apart, and_or_self, and_shr, or_disjoint, pow_apart}
pub use Rattle.std.{proofs.lemmas.Option.{same_Some, slice_get-map}, specs.List.{enumerate_from, list_any}}
pub use Rattle.std.specs.Option.{option_map}
pub use Rattle.word_shapes.proofs.PriorityQueueLaws.{add-ends, drop-ends, holds-agree}
pub use Rattle.word_shapes.proofs.TripleBufferLaws.{chooses, commits, fills, kept-word, newest-in, own-control}
pub use Rattle.word_shapes.{proofs.TripleBufferLaws.{own-word, pins, releases, stands-agree}, specs.Banks.{Banks}}
pub use Rattle.word_shapes.specs.Banks.{choosing, committing, filling, Putting, Taking}
pub use Rattle.word_shapes.specs.declared.packed.Places.{Places}
pub use Rattle.word_shapes.specs.declared.priority_queue.PriorityQueue.{PriorityQueue}
pub use Rattle.word_shapes.{specs.declared.search.Search.{Search}, specs.declared.search.Sought.{Sought}}
pub use Rattle.word_shapes.specs.declared.search.Sought.TheVariants.{All, More}
pub use Rattle.word_shapes.{specs.declared.triple_buffer.TripleBuffer.{TripleBuffer}, specs.Order.{choice, Entry}}
pub use Rattle.word_shapes.{specs.Order.{is_there, IsOnce, none, over}, specs.Packing.{count_in, ranked_of}}
pub use Rattle.word_shapes.{specs.Packing.{tally_cleared, tally_less}, specs.Playing.{gives, Memory, NamesOwn, stored}}
pub use Rattle.word_shapes.specs.PriorityQueue.{adding, choice_in, drop_after, dropping, next_after, next_gives}
pub use Rattle.word_shapes.{specs.PriorityQueue.{sought}, specs.TripleBuffer.{listed, Stands}}
pub use Rattle.spi_sequences.specs.StepTerms.{Act, acts, Add, add_gave, AnswerName, BodyTaken, CancelBody, CANCELLED}
pub use Rattle.spi_sequences.specs.StepTerms.{Cancelled, cancelled_bit, channel_at_place, channel_number, Commit}
pub use Rattle.spi_sequences.specs.StepTerms.{commit_ends, commit_left, drop_gave, drop_left, Dropped, EnableClear}
pub use Rattle.spi_sequences.specs.StepTerms.{EnableSet, ends, ENotOk, EOk, FrameRole, gave, goes, Handler, has_ended}
pub use Rattle.spi_sequences.specs.StepTerms.{has_mark, is_interruptible, is_sync_unit, job_at_place, job_of, job_word}
pub use Rattle.spi_sequences.specs.StepTerms.{jobs_list, Keep, keep_ends, keep_left, keeping, Leaving, LINES, list_of}
pub use Rattle.spi_sequences.specs.StepTerms.{Load, Main, MARKS, Mask, Move, named, Next, next_gave, next_in, next_left}
pub use Rattle.spi_sequences.specs.StepTerms.{NEXTS, no_answer, Nothing, notifies_sequence, One, order_places}
pub use Rattle.spi_sequences.specs.StepTerms.{owed_error, packed_run, PENDING, Placed, placed_of, Position}
pub use Rattle.spi_sequences.specs.StepTerms.{position_word, Prepare, prepare_ends, prepare_left, preparing}
pub use Rattle.spi_sequences.specs.StepTerms.{priority_by, Put, put_gave, put_left, put_move, Read, Received, releasing}
pub use Rattle.spi_sequences.specs.StepTerms.{reporting, RequestPlace, Rest, run_in, Running, running_word, search_of}
pub use Rattle.spi_sequences.specs.StepTerms.{select_by, select_of, Sent, sequence_of, sequence_word, SequenceNext}
pub use Rattle.spi_sequences.specs.StepTerms.{SerialAck, SerialData, SerialSelect, SerialWidth, Served, ServePlace}
pub use Rattle.spi_sequences.specs.StepTerms.{ServeStep, Spi0, Spi1, SpiBusy, SpiIdle, SpiSeqEndNotification, SpiTable}
pub use Rattle.spi_sequences.specs.StepTerms.{Started, started_bit, StartPlace, STATE, Store, Take, take_gave}
pub use Rattle.spi_sequences.specs.StepTerms.{take_left, take_move, Taker, Transmit, unit_of_sequence, UnitBody}
pub use Rattle.spi_sequences.specs.StepTerms.{UnitPlace, unmarked_in, Unmask, Whole, WholeBody, with_next_in, Write}
