-- The vocabulary of this module's laws: what its law files take from elsewhere.
pub use Rattle.std.proofs.Common.{ap, arith, bit_and, bit_or, Bool, Contains, drop, false, filter, find, flat_map}
pub use Rattle.std.proofs.Common.{get_or-set_other, get_or-set_same, inl, inr, is_some, length, length-set, List, map}
pub use Rattle.std.proofs.Common.{min, nat_le, nat_lt, None, not, Option, refl, slice_get, slice_index, slice_index_or}
pub use Rattle.std.proofs.Common.{Some, subst, suc, sum_by, sym, take, true, zero, ℕ}
pub use Rattle.std.proofs.Math.Nat.{mod-mod, zero-div}
pub use Rattle.std.proofs.lemmas.Bool.{and_parts}
pub use Rattle.std.proofs.lemmas.Bool.Decides.{nat_tests}
pub use Rattle.std.proofs.lemmas.List.{ext_get_or, get_or-append-add, get_or-drop, get_or-take, get_or_append_left}
pub use Rattle.std.proofs.lemmas.List.{get_or_default, length-append, length-drop, length-map, length-take-le}
pub use Rattle.std.proofs.lemmas.List.Concat.{flat_map-cons}
pub use Rattle.std.proofs.lemmas.List.Elements.{Contains-get_or}
pub use Rattle.std.proofs.lemmas.List.Sums.{sum_by-cons}
pub use Rattle.std.proofs.lemmas.Nat.{and_le_l, and_le_r, or_disjoint, or_mod, or_shr}
pub use Rattle.std.specs.List.{enumerate_from, list_any}
pub use Rattle.mcal_base.specs.facts.Numbers.{le_since, lt_from, lt_itself, lt_next, lt_since, lt_zero, positive, same_or_other}
pub use Rattle.mcal_base.specs.facts.Options.{some_is}
pub use Rattle.mcal_base.specs.{Bits.{bit_of, has_bit}, Layout.{place_of}}
pub use Rattle.mcal_base.specs.{declared.answer.Answer.{Answer}, declared.answer_name.AnswerName.{AnswerName}}
pub use Rattle.mcal_base.specs.{declared.answer_name.AnswerName.TheVariants.{SpiJobOk, SpiJobPending, SpiJobQueued}}
pub use Rattle.mcal_base.specs.{declared.answer_name.AnswerName.TheVariants.{SpiSeqCanceled, SpiSeqFailed, SpiSeqOk}}
pub use Rattle.mcal_base.specs.{declared.answer_name.AnswerName.TheVariants.{SpiSeqPending}}
pub use Rattle.mcal_base.specs.{declared.directive.Order.{Order}, declared.directive.Order.TheVariants.{Fill, Level}}
pub use Rattle.mcal_base.specs.{declared.directive.Order.TheVariants.{SpiFault, Tick}}
pub use Rattle.mcal_base.specs.{declared.layout.Array.TheVariants.{Destination, Source}}
pub use Rattle.mcal_base.specs.{declared.layout.TheConstants.{SOURCES}, declared.moves.Event.{Event}}
pub use Rattle.mcal_base.specs.{declared.moves.Move.{Move}, declared.moves.Move.TheVariants.{Load, Store, Write}}
pub use Rattle.mcal_base.specs.{declared.notice.Notice.{Notice}, declared.register.Reg.TheVariants.{SerialAck}}
pub use Rattle.mcal_base.specs.{declared.register.Reg.TheVariants.{SerialData, SerialWidth}}
pub use Rattle.chip_blocks.specs.{units.Serials.{idle, unit_at}, declared.units.serial.Serial.{Serial}, declared.units.serial.Word.{Word}}
pub use Rattle.chip_model.proofs.HistoryLaws.{level_leaves}
pub use Rattle.chip_model.specs.{Chip.{Chip, chip_after, happened, value_of, word_of}}
pub use Rattle.run_model.proofs.OutsideLaws.{stands-move}
pub use Rattle.run_model.specs.{Frame.{begins_word, is_shared, Origin, resets_chip}, Legal.{SendsRight}}
pub use Rattle.run_model.specs.{Machine.{Begun, Outcome, outcome_with, select_of, Serves}, Outside.{StandsIn}}
pub use Rattle.run_model.specs.{World.{World, world_after}}
pub use Rattle.word_shapes.proofs.{OrderLaws.{waiting-absent}, PriorityQueueLaws.{again-ends, drop-ends, holds-agree}}
pub use Rattle.word_shapes.proofs.{TripleBufferLaws.{abandons, chooses, commit-ends, fills, kept-word, own-control}}
pub use Rattle.word_shapes.proofs.{TripleBufferLaws.{own-word, release-ends, releases, stands-agree}}
pub use Rattle.word_shapes.specs.{Banks.{abandoning, Banks, choosing, committing, filling, Putting, Taking}}
pub use Rattle.word_shapes.specs.{Order.{Entry, with_wait}, Playing.{Memory}, PriorityQueue.{again_gave, drop_gave}}
pub use Rattle.word_shapes.specs.{PriorityQueue.{dropping, waiting_again}, TripleBuffer.{free, pin_of, put_gave, PutIn}}
pub use Rattle.word_shapes.specs.{TripleBuffer.{putting, take_gave, taking, used}, declared.again.Again.{Again}}
pub use Rattle.word_shapes.specs.{declared.dropped.Dropped.{Dropped}, declared.put.Put.{Put}, declared.take.Take.{Take}}
pub use Rattle.word_shapes.specs.{declared.triple_buffer.TripleBuffer.{TripleBuffer}}
pub use Rattle.service_outline.specs.{DeferredWrites.{CommitsTo, is_fill}, Services.{ReservedBy}}
pub use Rattle.service_outline.specs.laws.Words.{stored_other, stored_same}
pub use Rattle.shapes_on_chip.proofs.PartLaws.{one_owed, settles_part}
pub use Rattle.shapes_on_chip.specs.{OnChip.{AreThere}, Parts.{DiffersIn, IsPart, PartTo}}
pub use Rattle.word_shapes.specs.jobs.{Parts.{asking, committing as committing_of, find_gave, find_left, find_move, finding}}
pub use Rattle.word_shapes.specs.jobs.{Parts.{found_in, free_bank, keeping, releasing, releasing as releasing_of, taker_of}}
pub use Rattle.word_shapes.specs.jobs.{Placing.{bank_of, bank_word, control_word, destination_word, held_word, masked_by}}
pub use Rattle.word_shapes.specs.jobs.{Placing.{or_none, pinned_bank, set_up_word, source_word, trio_of, unpacked}}
pub use Rattle.word_shapes.specs.declared.jobs.{channel.Channel.{Channel}, channel.Placed.{Placed}}
pub use Rattle.word_shapes.specs.declared.jobs.{channel.Side.{Side}, channel.Side.TheVariants.{Received, Sent}}
pub use Rattle.word_shapes.specs.declared.jobs.{finding.Find.{Find}, keeping.Keep.{Keep}}
pub use Rattle.word_shapes.specs.declared.jobs.{keeping.Taker.{Taker}, set_up.SetUp.{SetUp}}
pub use Rattle.spi_machine.proofs.Numbers.{channel-seen, item-other, item-same}
pub use Rattle.spi_machine.proofs.Stored.{serve-leaves, serve-receives, serve-stores}
pub use Rattle.spi_machine.specs.{Bounds.{is_own_word, may}, Channels.{ChannelState, untouched}, Fits.{FitsSpi}}
pub use Rattle.spi_machine.specs.{Machine.{after_last, all_kept, as_begun, begins_on, ended, faulted_run, has_done}}
pub use Rattle.spi_machine.specs.{Machine.{job_over, kept, moved, pending_of, ready, result_by, sequence_after, served}}
pub use Rattle.spi_machine.specs.{Machine.{served_by, spi_machine, stored, unit_of, with_word}, Numbered.{first_items}}
pub use Rattle.spi_machine.specs.{Numbered.{with_item, word_at}, Pending.{changed, end_by, given_back, goes_to_next}}
pub use Rattle.spi_machine.specs.{Pending.{has_further, has_job, is_for, is_of, is_pending, job_result, next_job}}
pub use Rattle.spi_machine.specs.{Pending.{Pending, shares_job, uses_channel, without}, Promised.{ends_well, go_there}}
pub use Rattle.spi_machine.specs.{Promised.{goes_to_array, goes_to_channel}, State.{channel_at, is_off, is_running}}
pub use Rattle.spi_machine.specs.{State.{job_notice, Mode, notes, run_at, runs_sequence, sequence_notice, SpiState}}
pub use Rattle.spi_machine.specs.{State.{wire_at, with_run}, Table.{channel_of, channels_by, channels_of, is_on_unit}}
pub use Rattle.spi_machine.specs.{Table.{job_of, jobs_by, jobs_of, length_by, select_by, sequence_of}}
pub use Rattle.spi_machine.specs.{Transfers.{as_words, begins, begun, Goes, goes_on, is_done, JobWord, masked, no_word}}
pub use Rattle.spi_machine.specs.{Transfers.{Nowhere, on_wire, received_with, Run, ToChannel, ToDestination, Transfer}}
pub use Rattle.spi_machine.specs.{Transfers.{word_of as word_in}, Wiring.{channel_at_place, channel_number, jobs_list}}
pub use Rattle.spi_machine.specs.{Wiring.{list_by, list_of, placed_by, placed_of, unit_of_sequence}}
pub use Rattle.spi_machine.specs.{declared.call.Call.{Call}, declared.table.Job.{Job}}
pub use Rattle.spi_machine.specs.{declared.table.Sequence.{Sequence}, declared.table.SpiTable.{SpiTable}}
pub use Rattle.spi_sequences.specs.{Going.{ExternalAgrees, goes_by, Going, GoingAgrees, InternalAgrees, InTransfer}}
pub use Rattle.spi_sequences.specs.{Going.{is_ahead, is_to_begin, Part, PartBy, received_of, run_of, taken_of}}
pub use Rattle.spi_sequences.specs.{Going.{UnitAgrees, width_by, WordAgrees, words_before, words_of}}
pub use Rattle.spi_sequences.specs.{PendingWrites.{commit_more, commits_left, keep_more, serve_more, serve_owes}}
pub use Rattle.spi_sequences.specs.{PendingWrites.{spi_owing, unit_owed, Units, unless_done, where_owed}}
pub use Rattle.spi_machine.specs.{State.{carried_at}, Table.{is_sync_unit}, Wiring.{is_sync_sequence}}
pub use Rattle.spi_sequences.specs.{Going.{CarriesAgrees}, Refinement.{all_of, AllSend, entries_begun, run_carried}}
pub use Rattle.spi_sequences.specs.{Refinement.{RunsBy}}
pub use Rattle.spi_sequences.specs.laws.{words.JobPlaces.{all_carried, all_cases, all_pending, aside_pending}}
pub use Rattle.spi_sequences.specs.laws.{words.SameWords.{sends_as}, words.WordsToState.{going_asked, runs_none_sync}}
pub use Rattle.spi_sequences.specs.laws.{bookkeeping.SequenceEnded.{Leaves, leaves_pending}}
pub use Rattle.std.proofs.lemmas.List.Folds.{list_any-append}
pub use Rattle.spi_sequences.specs.{Refinement.{AllRight, AreOwed, BanksAgree, Debt, entries_of, HasPart, HeldRight}}
pub use Rattle.spi_sequences.specs.{Refinement.{is_left, is_owed, IsEntry, IsOfSequence, IsReady, IsSoundState}}
pub use Rattle.spi_sequences.specs.{Refinement.{job_code, Keeps, KeepsNone, or_rest, PendingAgrees, Pins, PinsNone}}
pub use Rattle.spi_sequences.specs.{Refinement.{prepares, Preparing, put_by, put_held, PutRight, Reservation}}
pub use Rattle.spi_sequences.specs.{Refinement.{Reservations, RunAgrees, RunsNext, sequence_code, SequencesAgree}}
pub use Rattle.spi_sequences.specs.{Refinement.{set_up_code, SetUpFits, SpiRepresents, take_held, TakeRight, to_write}}
pub use Rattle.spi_sequences.specs.{Refinement.{View, view, WordsAgree, Writing}, Words.{cancelled_bit, has_mark}}
pub use Rattle.spi_sequences.specs.{Words.{job_word, next_in, order_places, order_word, packed_position, position_in}}
pub use Rattle.spi_sequences.specs.{Words.{position_word, run_in, running_word, search_of, sequence_word, started_bit}}
pub use Rattle.spi_sequences.specs.{Words.{with_next_in}, declared.service.serve.Arrived.{Arrived}}
pub use Rattle.spi_sequences.specs.{declared.service.serve.Leaving.{Leaving}}
pub use Rattle.spi_sequences.specs.{declared.service.serve.SequenceNext.{SequenceNext}}
pub use Rattle.spi_sequences.specs.{declared.service.serve.ServePlace.{ServePlace}}
pub use Rattle.spi_sequences.specs.{declared.service.serve.ServeStep.{ServeStep}}
pub use Rattle.spi_sequences.specs.{declared.service.serve.ServeStep.TheVariants.{JobOver, Over}}
pub use Rattle.spi_sequences.specs.{declared.service.serve.Served.{Served}, declared.service.unit.FrameRole.{FrameRole}}
pub use Rattle.spi_sequences.specs.{declared.service.unit.FrameRole.TheVariants.{Handler, Main, Rest, Transmit}}
pub use Rattle.spi_sequences.specs.{declared.service.unit.UnitBody.{UnitBody}}
pub use Rattle.spi_sequences.specs.{declared.service.unit.UnitPlace.{UnitPlace}, declared.words.Position.{Position}}
pub use Rattle.spi_sequences.specs.{declared.words.Running.{Running}, declared.words.TheConstants.{CANCELLED, FAILED}}
pub use Rattle.spi_sequences.specs.{declared.words.TheConstants.{MARKS, NEXTS, STATE}}
pub use Rattle.spi_sequences.specs.laws.{words.PendingWords.{cleared_of, clears}}
pub use Rattle.spi_sequences.specs.laws.{bookkeeping.MarkedState.{any_mapped, contains_back, get_back}}
pub use Rattle.spi_sequences.specs.laws.{bookkeeping.SequenceEnded.{ended_sound, ended_view, ended_words, filter_back}}
pub use Rattle.spi_sequences.specs.laws.{bookkeeping.SequenceEnded.{filter_keeps, left_order, stay, there_back}}
pub use Rattle.spi_sequences.specs.laws.{bookkeeping.SequenceEnded.{there_by}, hardware.StableUnderHardware.{by_two, none_in}}
pub use Rattle.spi_sequences.specs.laws.{hardware.SourceFilled.{any_in, own_low}}
pub use Rattle.spi_sequences.specs.laws.hardware.StableUnderHardware.{any_changed, done_same, pointwise, set_unit, words_kept}
pub use Rattle.spi_sequences.specs.laws.{services.CancelRight.{found_entry, from_order, IsFound, named_own, not_order}}
pub use Rattle.spi_sequences.specs.laws.{services.CancelRight.{order_there, own_order, to_order}}
pub use Rattle.spi_sequences.specs.laws.{services.QueryRight.{may_first}, services.ReadRight.{length-first}}
pub use Rattle.spi_sequences.specs.laws.{services.ServeSteps.{after_job, after_word, begins_by, begins_of}}
pub use Rattle.spi_sequences.specs.laws.{services.ServeSteps.{channel_next, channel_served, commit_at, commit_by}}
pub use Rattle.spi_sequences.specs.laws.{services.ServeSteps.{commit_last, commit_with, ends_of, failed_word}}
pub use Rattle.spi_sequences.specs.laws.{services.ServeSteps.{first_internal, first_pinned, further_of, is_last_place}}
pub use Rattle.spi_sequences.specs.laws.{services.ServeSteps.{is_pinned_at, keep_of, length_taken, lets_of, lets_with}}
pub use Rattle.spi_sequences.specs.laws.{services.ServeSteps.{meets_at, release_by, release_last, serve_again}}
pub use Rattle.spi_sequences.specs.laws.{services.ServeSteps.{serve_commits, serve_drops, serve_finds, serve_move}}
pub use Rattle.spi_sequences.specs.laws.{services.ServeSteps.{serve_releases, serve_run, serve_takes}}
pub use Rattle.spi_sequences.specs.laws.{services.SetUpRight.{may_store, may_users, none_stored}}
pub use Rattle.spi_sequences.specs.laws.{services.UnitSteps.{after_serve, unit_over}, services.WriteRight.{first-at}}
pub use Rattle.spi_sequences.specs.laws.words.JobPlaces.{is_behind, is_next, job_unit, next_ahead, next_left}
pub use Rattle.spi_sequences.specs.laws.words.JobPlaces.{one_place}
pub use Rattle.spi_sequences.specs.laws.{words.FirstParts.{unpacked_back}}
pub use Rattle.spi_sequences.specs.laws.{words.SameWords.{banks_view, sequences_as, sound_as}}
pub use Rattle.spi_sequences.specs.laws.{words.PendingWords.{banks_held, holds_debt, stands_owed}}
pub use Rattle.spi_sequences.specs.laws.words.SameWords.{banks_words, contains_map, going_words, job_small, job_there}
pub use Rattle.spi_sequences.specs.laws.words.SameWords.{order_stays, part_there, part_words, sequences_stay}
pub use Rattle.spi_sequences.specs.laws.{words.NumbersApart.{first_other, first_same}, words.SideWords.{none_readied}}
pub use Rattle.spi_sequences.specs.laws.{words.SideWords.{not_first, not_held, not_of_other, not_users, set_up_by}}
pub use Rattle.spi_sequences.specs.laws.{words.SideWords.{sides_apart, stands_by_store, trio_fits}}
pub use Rattle.spi_sequences.specs.laws.{words.WordsOfModule.{destination_own, has_channel, IsWordOf, of_banks}}
pub use Rattle.spi_sequences.specs.laws.{words.WordsOfModule.{few_places, of_held, of_one, of_set_up, of_sixteen}}
pub use Rattle.spi_sequences.specs.laws.{words.WordsOfModule.{own_banks}, words.NumbersApart.{by_eight}}
pub use Rattle.spi_sequences.specs.laws.{bookkeeping.PendingWritesBounds.{keep_few}}
pub use Rattle.spi_sequences.specs.laws.{words.WordsOfModule.{own_first, own_held, own_of, past_the_first, source_own}}
pub use Rattle.spi_sequences.specs.laws.{words.WordsToState.{any_none, any_some, at_contained, going_free, going_next}}
pub use Rattle.spi_sequences.specs.laws.{words.WordsToState.{going_run, is_below, is_number, is_past, is_there}}
pub use Rattle.spi_sequences.specs.laws.{words.WordsToState.{next_small, none_any, not_true, one_by_job, one_pending}}
pub use Rattle.spi_sequences.specs.laws.{words.WordsToState.{one_unit, other_number, running_says, same_number}}
pub use Rattle.spi_laws.specs.serving.Serving.{asked_word, Footing, IsArrived, IsDone, IsFinding, IsFurther, IsLast}
pub use Rattle.spi_laws.specs.serving.Serving.{IsServed, IsTaken, notices_by, serve_ahead, serve_fuel, serve_place}
pub use Rattle.spi_laws.specs.serving.Serving.{serve_room, unit_run, word_after, word_place}
pub use Rattle.spi_sequences.specs.laws.services.UnitSteps.{main_over}
pub use Rattle.shapes_on_chip.specs.{Parts.{CommitsAfter}}
pub use Rattle.word_shapes.specs.jobs.{Parts.{has_ended, keep_ends, keep_move}}
pub use Rattle.word_shapes.specs.{TripleBuffer.{take_move}}
pub use Rattle.spi_machine.specs.{Machine.{faulted_carrying}, State.{Carrying, is_interrupt}}
pub use Rattle.spi_sequences.specs.{PendingWrites.{owed_left, owed_move, owes_move, PendingWrites}, Refinement.{AreCarried, mode_word}}
pub use Rattle.spi_sequences.specs.laws.{services.ServeSteps.{serve_keeps, serve_lets}}
pub use Rattle.spi_sequences.specs.laws.{words.JobPlaces.{none_under_way}}
pub use Rattle.spi_sequences.specs.laws.services.ServeSteps.{serve_keeps_last}
pub use Rattle.spi_sequences.specs.laws.words.Cases.{cases, some_or_none, whether, whether_as}
pub use Rattle.word_shapes.specs.jobs.Parts.{commit_ends}
pub use Rattle.word_shapes.specs.declared.jobs.banks.Commit.{Commit}
pub use Rattle.run_model.specs.Machine.{outcome, tells_nothing}
pub use Rattle.spi_machine.specs.State.{Interrupt}
pub use Rattle.word_shapes.specs.jobs.Parts.{keep_left}
pub use Rattle.word_shapes.specs.TripleBuffer.{put_left, put_move}
pub use Rattle.shapes_on_chip.specs.OnChip.{HasWords}
pub use Rattle.service_outline.specs.laws.Words.{length_after}
