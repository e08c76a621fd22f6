-- The vocabulary of this module's laws: what its law files take from elsewhere.
pub use Rattle.chip_model.proofs.HistoryLaws.{level_leaves}
pub use Rattle.chip_model.specs.Chip.{Chip, chip_after, happened, is_masked, stall_of, value_of, word_of}
pub use Rattle.chip_blocks.specs.units.Serials.{idle, unit_at}
pub use Rattle.chip_blocks.specs.declared.units.serial.Serial.{Serial}
pub use Rattle.mcal_base.specs.Bits.{has_bit}
pub use Rattle.mcal_base.specs.Layout.{place_of}
pub use Rattle.mcal_base.specs.declared.answer.Answer.{Answer}
pub use Rattle.mcal_base.specs.declared.answer_name.AnswerName.{AnswerName}
pub use Rattle.mcal_base.specs.declared.answer_name.AnswerName.TheVariants.{ENotOk, EOk, SpiJobOk, SpiJobPending}
pub use Rattle.mcal_base.specs.declared.answer_name.AnswerName.TheVariants.{SpiJobQueued, SpiSeqOk, SpiSeqPending}
pub use Rattle.mcal_base.specs.declared.directive.Order.{Order}
pub use Rattle.mcal_base.specs.declared.directive.Order.TheVariants.{Fill, Level, SpiFault}
pub use Rattle.mcal_base.specs.declared.layout.Array.TheVariants.{Destination, Source}
pub use Rattle.mcal_base.specs.declared.layout.TheConstants.{SOURCES}
pub use Rattle.mcal_base.specs.declared.moves.Event.{Event}
pub use Rattle.mcal_base.specs.declared.moves.Event.TheVariants.{Act, Start}
pub use Rattle.mcal_base.specs.declared.moves.Move.{Move}
pub use Rattle.mcal_base.specs.declared.moves.Move.TheVariants.{Load, Mask, Read, Store, Unmask, Write}
pub use Rattle.mcal_base.specs.declared.register.Reg.TheVariants.{SerialData, SerialSelect, SerialWait}
pub use Rattle.mcal_base.specs.declared.service.Service.TheVariants.{SpiSyncTransmit}
pub use Rattle.mcal_base.specs.facts.Numbers.{lt_from, lt_itself, lt_next, positive, same_or_other}
pub use Rattle.mcal_base.specs.facts.Options.{some_is}
pub use Rattle.run_model.proofs.OutsideLaws.{stands-move}
pub use Rattle.run_model.specs.Causes.{blocks}
pub use Rattle.run_model.specs.Frame.{begins_word, Called, is_shared, missed_after, Origin, owing, resets_chip}
pub use Rattle.run_model.specs.Legal.{SendsRight, StandsAt}
pub use Rattle.run_model.specs.Machine.{Begun, outcome, outcome_with, select_of, Starts, tells_nothing}
pub use Rattle.run_model.specs.Outside.{StandsIn}
pub use Rattle.run_model.specs.World.{World, world_after}
pub use Rattle.service_outline.specs.Acts.{KeepsClean}
pub use Rattle.service_outline.specs.DeferredWrites.{AreFree, AreWindows, CommitsTo, GoesFree, GoesOwing, is_fill}
pub use Rattle.service_outline.specs.DeferredWrites.{is_simple, or_owed, same_chip, spot_or, Under, Windows, windows}
pub use Rattle.run_model.specs.Machine.{answers, named, tells_error}
pub use Rattle.service_outline.specs.Done.{goes, owed_error}
pub use Rattle.service_outline.specs.FrameHistory.{FrameHistory, fresh_history, Is_this_frame, IsThisFrame}
pub use Rattle.service_outline.specs.Fuel.{ShortensTo}
pub use Rattle.service_outline.specs.Outline.{TellsAs}
pub use Rattle.service_outline.specs.Services.{AllLet, AreLong, AssertedAt, Continues, holds_at, is_closed, KeepsMask}
pub use Rattle.service_outline.specs.Services.{LongBodies, mark_of, MayCome, MayStop, Outside, place_at, PointAssertion}
pub use Rattle.service_outline.specs.Services.{ReservedBy, Right, TurnsTo, with_holds, Within, Works}
pub use Rattle.service_outline.specs.declared.done.BodyTaken.{BodyTaken}
pub use Rattle.service_outline.specs.declared.done.Epilogue.TheVariants.{Nothing}
pub use Rattle.service_outline.specs.laws.Owing.{not_filled, windows_right}
pub use Rattle.service_outline.specs.laws.Reports.{error_told}
pub use Rattle.service_outline.specs.laws.ShortServices.{plain_makes, plain_turns}
pub use Rattle.service_outline.specs.laws.Words.{length_after, stored_other, stored_same}
pub use Rattle.shapes_on_chip.proofs.PartLaws.{one_owed}
pub use Rattle.shapes_on_chip.specs.OnChip.{HasWords}
pub use Rattle.shapes_on_chip.specs.Parts.{CommitsAfter, DiffersIn}
pub use Rattle.word_shapes.specs.jobs.Parts.{asking, commit_ends, committing as committing_of, find_gave, find_move}
pub use Rattle.word_shapes.specs.jobs.Parts.{finding_first, free_bank, has_ended, keep_ends, keep_left, prepare_ends}
pub use Rattle.word_shapes.specs.jobs.Parts.{prepare_left, releasing, taker_of}
pub use Rattle.word_shapes.specs.jobs.Placing.{bank_of, control_word, destination_word, held_word, masked_by, or_none, packed}
pub use Rattle.word_shapes.specs.jobs.Placing.{set_up_word, source_word, trio_of, unpacked}
pub use Rattle.word_shapes.specs.declared.jobs.channel.Channel.{Channel}
pub use Rattle.word_shapes.specs.declared.jobs.channel.Placed.{Placed}
pub use Rattle.word_shapes.specs.declared.jobs.channel.Side.TheVariants.{Received, Sent}
pub use Rattle.word_shapes.specs.declared.jobs.finding.Find.{Find}
pub use Rattle.word_shapes.specs.declared.jobs.keeping.Keep.{Keep}
pub use Rattle.word_shapes.specs.declared.jobs.keeping.Taker.{Taker}
pub use Rattle.word_shapes.specs.declared.jobs.preparing.Prepare.{Prepare}
pub use Rattle.spi_machine.proofs.Numbers.{item-other, item-same}
pub use Rattle.spi_machine.proofs.Results.{results-other, results-own}
pub use Rattle.spi_machine.specs.Bounds.{class_of, HoldsArrays, job_steps, may}
pub use Rattle.spi_machine.specs.Bounds.{sent_steps, spi_setting}
pub use Rattle.spi_machine.specs.Channels.{ChannelState, set_up_or, SetUp, untouched, words_from}
pub use Rattle.spi_machine.specs.Checks.{answer_refused, error_by}
pub use Rattle.spi_machine.specs.Fits.{FitsSpi}
pub use Rattle.spi_machine.specs.Machine.{act_of, after_last, as_begun, as_requested, carried_for, carries_job}
pub use Rattle.spi_machine.specs.Machine.{carries_on, error_of_sending, faulted_carrying, happens, job_done, job_words}
pub use Rattle.spi_machine.specs.Machine.{may_end, may_go_on, next_at, not_sent, number_of, reporting, result_by}
pub use Rattle.spi_machine.specs.Machine.{sending_ends, sends_on, sent, sent_at, sent_first, sent_from, sent_on}
pub use Rattle.spi_machine.specs.Machine.{sequence_begun, sequence_result_by, spi_machine, start_by, start_of, stored}
pub use Rattle.spi_machine.specs.Numbered.{first_items, with_item, word_at}
pub use Rattle.spi_machine.specs.Pending.{all_get, given_back, goes_to_next, has_further, is_for, is_of, is_pending}
pub use Rattle.spi_machine.specs.Pending.{job_result, next_job, Pending, requested, sequence_result}
pub use Rattle.spi_machine.specs.State.{carried_at, Carrying, channel_at, is_off, Mode, run_at, SpiState, wire_at}
pub use Rattle.spi_machine.specs.State.{with_carried}
pub use Rattle.spi_machine.specs.Table.{channel_of, channels_by, channels_of, is_on_unit, is_sync_unit, job_of, jobs_by}
pub use Rattle.spi_machine.specs.Table.{jobs_of, length_by, select_by, sequence_of}
pub use Rattle.spi_machine.specs.Transfers.{as_words, begun, channel_words, external_words, goes_on, goes_to, is_done}
pub use Rattle.spi_machine.specs.Transfers.{JobWord, no_word, on_wire, received_with, Run, ToChannel, Transfer}
pub use Rattle.spi_machine.specs.Wiring.{channel_at_place, channel_number, is_sync_sequence, job_at_place, job_number}
pub use Rattle.spi_machine.specs.Wiring.{jobs_by as jobs_in, jobs_list, list_by, list_of, or_else, placed_by, placed_of}
pub use Rattle.spi_machine.specs.Wiring.{unit_of_sequence}
pub use Rattle.spi_machine.specs.declared.call.Call.{Call}
pub use Rattle.spi_machine.specs.declared.call.Pointer.{Pointer}
pub use Rattle.spi_machine.specs.declared.call.SequenceCall.TheVariants.{SyncTransmit}
pub use Rattle.spi_machine.specs.declared.table.Job.{Job}
pub use Rattle.spi_machine.specs.declared.table.Sequence.{Sequence}
pub use Rattle.spi_machine.specs.declared.table.SpiTable.{SpiTable}
pub use Rattle.spi_sequences.specs.Going.{CarriesAgrees, ExternalAgrees, Going, GoingAgrees, InternalAgrees, InTransfer}
pub use Rattle.spi_sequences.specs.Going.{is_to_begin, Part, received_of, run_of, taken_of, UnitAgrees, words_of}
pub use Rattle.spi_sequences.specs.PendingWrites.{Cancels, owed_left, owed_move, PendingWrites, Sends, sent_owes}
pub use Rattle.spi_sequences.specs.PendingWrites.{serve_owes, spi_basis, spi_owing, sync_owed, sync_owes, Units}
pub use Rattle.spi_sequences.specs.PendingWrites.{unless_done, where_owed, Wholes}
pub use Rattle.spi_sequences.specs.Refinement.{all_of, AllRight, AllSend, AreCarried, AreOwed, BanksAgree, ChannelFits}
pub use Rattle.spi_sequences.specs.Refinement.{Cleared, Debt, entries_of, entry_carried, Handling, HeldRight, is_left}
pub use Rattle.spi_sequences.specs.Refinement.{is_owed, is_sent, IsEntry, IsOfSequence, IsSending, IsSoundState}
pub use Rattle.spi_sequences.specs.Refinement.{job_code, KnowsEnd, LinesAgree, mode_word, PendingAgrees, Preparing}
pub use Rattle.spi_sequences.specs.Refinement.{PutRight, readied_by, Reading, Reservation, Reservations, run_carried}
pub use Rattle.spi_sequences.specs.Refinement.{RunAgrees, RunsBy, RunsNext, Sending, SendingRight, sequence_code}
pub use Rattle.spi_sequences.specs.Refinement.{SequencesAgree, set_up_code, SetUpFits, spi_bare, SpiRepresents}
pub use Rattle.spi_sequences.specs.Refinement.{stored_by, View, view, WiredAs, WordsAgree, Writing}
pub use Rattle.spi_sequences.specs.Words.{cancelled_bit, has_mark, job_word, next_in, order_word, packed_position}
pub use Rattle.spi_sequences.specs.Words.{packed_run, position_in, position_word, run_in, running_word, sequence_word}
pub use Rattle.spi_sequences.specs.Words.{started_bit, with_next_in}
pub use Rattle.spi_sequences.specs.declared.service.serve.Arrived.{Arrived}
pub use Rattle.spi_sequences.specs.declared.service.serve.Leaving.{Leaving}
pub use Rattle.spi_sequences.specs.declared.service.serve.SequenceNext.{SequenceNext}
pub use Rattle.spi_sequences.specs.declared.service.serve.ServePlace.{ServePlace}
pub use Rattle.spi_sequences.specs.declared.service.serve.Served.{Served}
pub use Rattle.spi_sequences.specs.declared.service.sync.SyncBody.{SyncBody}
pub use Rattle.spi_sequences.specs.declared.service.sync.SyncPlace.{SyncPlace}
pub use Rattle.spi_sequences.specs.declared.words.Position.{Position}
pub use Rattle.spi_sequences.specs.declared.words.Running.{Running}
pub use Rattle.spi_sequences.specs.declared.words.TheConstants.{FAILED, MARKS, NEXTS, PENDING, STATE}
pub use Rattle.spi_sequences.specs.laws.services.RequestRight.{map_at, map_get}
pub use Rattle.spi_sequences.specs.laws.bookkeeping.PendingWritesBounds.{owed_right}
pub use Rattle.spi_sequences.specs.laws.bookkeeping.RefinementRight.{apart_agrees}
pub use Rattle.spi_sequences.specs.laws.bookkeeping.SequenceEnded.{ended_sound, ended_view, ended_words, get_contained}
pub use Rattle.spi_sequences.specs.laws.bookkeeping.SequenceEnded.{jobs_once, Leaves, leaves_begun}
pub use Rattle.spi_sequences.specs.laws.hardware.StableUnderHardware.{by_two, none_in}
pub use Rattle.spi_sequences.specs.laws.hardware.StableUnderHardware.{mode_later, pointwise, set_unit, words_kept}
pub use Rattle.spi_sequences.specs.laws.services.CancelRight.{not_order}
pub use Rattle.spi_sequences.specs.laws.services.QueryRight.{may_first}
pub use Rattle.spi_sequences.specs.laws.services.ServeSteps.{after_word, begins_by, begins_of, channel_next}
pub use Rattle.spi_sequences.specs.laws.services.ServeSteps.{channel_served, commit_by, commit_last, ends_of}
pub use Rattle.spi_sequences.specs.laws.services.ServeSteps.{failed_word, first_internal, first_pinned, further_of}
pub use Rattle.spi_sequences.specs.laws.services.ServeSteps.{is_last_place, keep_of, length_taken, lets_of, release_by}
pub use Rattle.spi_sequences.specs.laws.services.ServeSteps.{release_last, serve_commits, serve_finds, serve_keeps}
pub use Rattle.spi_sequences.specs.laws.services.ServeSteps.{serve_keeps_last, serve_lets, serve_releases, serve_takes}
pub use Rattle.spi_sequences.specs.laws.services.SetUpRight.{may_store, none_stored}
pub use Rattle.spi_sequences.specs.laws.services.StartSteps.{selects, unit_named}
pub use Rattle.spi_sequences.specs.laws.services.SyncSteps.{begins_whole, channel_sent, first_place, has_further_job}
pub use Rattle.spi_sequences.specs.laws.services.SyncSteps.{next_job_of, run_sent, sync_arrives, sync_at, sync_begins}
pub use Rattle.spi_sequences.specs.laws.services.SyncSteps.{sync_begun, sync_comes, sync_commits, sync_committed}
pub use Rattle.spi_sequences.specs.laws.services.SyncSteps.{sync_ends, sync_finds, sync_found, sync_frees, sync_goes_to}
pub use Rattle.spi_sequences.specs.laws.services.SyncSteps.{sync_job_over, sync_keeps, sync_move, sync_prepared}
pub use Rattle.spi_sequences.specs.laws.services.SyncSteps.{sync_prepares, sync_prepares_at, sync_prepares_by}
pub use Rattle.spi_sequences.specs.laws.services.SyncSteps.{sync_serves, sync_starts, sync_takes, sync_took, sync_work}
pub use Rattle.spi_sequences.specs.laws.services.SyncSteps.{taker_sent, with_taken}
pub use Rattle.spi_sequences.specs.laws.words.JobPlaces.{all_carried, all_cases, all_pending, asked_unit, for_unit}
pub use Rattle.spi_sequences.specs.laws.words.JobPlaces.{job_on}
pub use Rattle.spi_sequences.specs.laws.words.ConfigurationFits.{some_of}
pub use Rattle.spi_sequences.specs.laws.words.FirstParts.{as_read, external_part, internal_part, part_at, part_by}
pub use Rattle.spi_sequences.specs.laws.words.FirstParts.{part_for, read_set_up, some_words, words_are}
pub use Rattle.spi_sequences.specs.laws.words.JobPlaces.{at_left, job_place, job_unit, left_at, LeftAt, one_place}
pub use Rattle.spi_sequences.specs.laws.words.JobPlaces.{is_behind, is_next, next_ahead, next_left, unit_few}
pub use Rattle.spi_sequences.specs.laws.words.SameWords.{banks_view, next_view, sequences_as, sound_as}
pub use Rattle.spi_sequences.specs.laws.words.JobPlaces.{any_in, any_none, any_some, none_any, one_unit}
pub use Rattle.spi_sequences.specs.laws.words.PendingWords.{banks_held, holds_changed, holds_debt, HoldsLike}
pub use Rattle.spi_sequences.specs.laws.words.PendingWords.{stands_owed}
pub use Rattle.spi_sequences.specs.laws.words.SameWords.{banks_words, going_words, job_small, order_stays}
pub use Rattle.spi_sequences.specs.laws.words.SameWords.{sends_as}
pub use Rattle.spi_sequences.specs.laws.words.WordsOfModule.{has_channel, of_banks, of_held, of_one, of_set_up}
pub use Rattle.spi_sequences.specs.laws.words.WordsOfModule.{few_places, of_sixteen, own_first, past_the_first}
pub use Rattle.spi_sequences.specs.laws.words.WordsToState.{at_contained, going_next, is_below, is_number, is_past}
pub use Rattle.spi_sequences.specs.laws.words.WordsToState.{next_small, not_true, other_number, running_says}
pub use Rattle.spi_sequences.specs.laws.words.WordsToState.{same_number}
pub use Rattle.spi_sequences.specs.laws.words.Cases.{cases, some_or_none, whether, whether_as}
pub use Rattle.spi_laws.specs.serving.Serving.{asked_word, Footing, IsDone, IsFinding, IsFurther, IsLast, IsServed, IsTaken}
pub use Rattle.spi_laws.specs.serving.Serving.{serve_fuel, serve_room, unit_run, word_after, word_place}
pub use Rattle.spi_laws.specs.serving.laws.ToServe.{ToServe}
pub use Rattle.spi_laws.specs.serving.laws.bookkeeping.JobsApart.{agrees_at, for_at, is_kept, one_job, one_part}
pub use Rattle.spi_laws.specs.serving.laws.services.FurtherBegun.{by_unit, going_here, going_other, going_with, moved_on}
pub use Rattle.spi_laws.specs.serving.laws.services.FurtherBegun.{taken_before, taken_same}
pub use Rattle.spi_laws.specs.serving.laws.services.FurtherBegun.{After, At, none_received}
pub use Rattle.spi_laws.specs.serving.laws.bookkeeping.Readable.{IsStored, last_is, last_like, last_stored}
pub use Rattle.spi_laws.specs.serving.laws.services.FurtherBegun.{stored_is, stored_like}
pub use Rattle.spi_laws.specs.serving.laws.words.FacingWords.{done_alike, place_back, state_done, state_says, under_way}
pub use Rattle.spi_laws.specs.serving.laws.words.FacingWords.{UnderWay}
pub use Rattle.spi_laws.specs.serving.laws.bookkeeping.JobEnd.{unit_other, unit_same, width_agrees, width_is}
pub use Rattle.spi_laws.specs.serving.laws.services.FurtherRight.{IsEnding, OwesEnds}
pub use Rattle.spi_laws.specs.serving.laws.services.FreedUnit.{freed_as, going_left, IsFilled, IsFree, IsTold, order_left}
pub use Rattle.spi_laws.specs.serving.laws.services.FreedUnit.{other_free, others_differ, start_owed, with_channels}
pub use Rattle.spi_laws.specs.serving.laws.services.FurtherBegun.{begun_agrees, IsLike, right_like, WordsAfter}
pub use Rattle.spi_laws.specs.serving.laws.services.FurtherRight.{OwesWords}
pub use Rattle.spi_laws.specs.serving.laws.services.ServeAround.{serve_later}
pub use Rattle.spi_laws.specs.serving.laws.services.ServeBounds.{Fewer, fuel_at, less_fuel, less_room, room_at}
pub use Rattle.spi_sequences.specs.laws.bookkeeping.PendingWritesBounds.{keep_few}
pub use Rattle.spi_laws.specs.serving.laws.services.ServeRight.{asks_load, Decided, find_decides, receive_decides}
pub use Rattle.spi_laws.specs.serving.laws.services.ServeRight.{width_decides}
pub use Rattle.spi_laws.specs.serving.laws.services.ServeMoves.{serve_may}
pub use Rattle.spi_laws.specs.serving.laws.services.SequenceOverRight.{aside_high, both_outside, both_told, first_told}
pub use Rattle.spi_laws.specs.serving.laws.services.SequenceOverRight.{is_told, IsAside, order_before, told_first}
pub use Rattle.spi_laws.specs.serving.laws.services.SequenceOverRight.{told_other, told_second}
pub use Rattle.spi_laws.specs.serving.laws.words.AllKept.{AllKept, IsApart, ReceivedAt}
pub use Rattle.spi_laws.specs.serving.laws.words.AllKept.{upto}
pub use Rattle.spi_laws.specs.serving.laws.words.FacingWords.{at_is, ends_here, goes_further, served_is}
pub use Rattle.spi_laws.specs.serving.laws.words.Positions.{get_there, get_within}
pub use Rattle.spi_laws.specs.serving.laws.words.KeepingWords.{words_after}
pub use Rattle.spi_laws.specs.serving.laws.services.WellEnded.{IsBase}
pub use Rattle.spi_laws.specs.serving.laws.words.NextWords.{next_other, next_same}
pub use Rattle.spi_laws.specs.serving.laws.words.Positions.{channel_there, part_most, parts_few, Stands}
pub use Rattle.spi_laws.specs.starting.Starting.{find_more, first_word, LooksAt, will_give}
pub use Rattle.spi_laws.specs.starting.laws.words.PinnedBanks.{first_placed, first_there, number_at}
pub use Rattle.spi_laws.specs.starting.laws.bookkeeping.RanState.{SentAt}
pub use Rattle.spi_laws.specs.starting.laws.services.StartRight.{turned_agrees}
pub use Rattle.spi_laws.specs.starting.laws.words.ReadyWords.{OwesReady, ready_at, ready_by, ready_from, ready_next}
pub use Rattle.spi_laws.specs.starting.laws.services.StartAround.{may_find, or_may, turns_kept}
pub use Rattle.spi_laws.specs.starting.laws.services.StartRight.{first_is, found}
pub use Rattle.spi_laws.specs.starting.laws.words.ReadyWords.{Ready, ready_first}
pub use Rattle.std.proofs.Common.{ap, arith, Bool, Contains, false, flat_map, get_or-set_other, get_or-set_same}
pub use Rattle.std.proofs.Common.{inl, inr, is_some, length, length-set, List, map, max, min, nat_le, nat_lt, None, not}
pub use Rattle.std.proofs.Common.{Option, refl, slice_get, slice_index, slice_index_or, slice_set, Some, subst, suc}
pub use Rattle.std.proofs.Common.{sym, take, true, zero, ℕ}
pub use Rattle.std.proofs.Math.Nat.{mod-mod}
pub use Rattle.std.proofs.lemmas.Bool.{and_parts}
pub use Rattle.std.proofs.lemmas.Bool.Decides.{nat_tests}
pub use Rattle.std.proofs.lemmas.List.{get_or_default, length-map, length-take-le}
pub use Rattle.std.proofs.lemmas.List.Concat.{flat_map-cons}
pub use Rattle.std.proofs.lemmas.List.Elements.{Contains-get_or}
pub use Rattle.std.proofs.lemmas.Option.{same_Some}
pub use Rattle.std.specs.List.{list_any}
pub use Rattle.word_shapes.proofs.TripleBufferLaws.{stands-agree}
pub use Rattle.word_shapes.specs.Banks.{committing as committing_banks, Putting}
pub use Rattle.word_shapes.specs.Playing.{Memory}
pub use Rattle.word_shapes.specs.TripleBuffer.{put_gave, put_left, PutIn, take_gave}
pub use Rattle.word_shapes.specs.declared.put.Put.{Put}
pub use Rattle.word_shapes.specs.declared.take.Take.{Take}
