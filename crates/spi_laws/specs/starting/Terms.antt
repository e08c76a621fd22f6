-- The vocabulary of this module's laws: what its law files take from elsewhere.
pub use Rattle.std.proofs.Common.{ap, arith, bit_or, Bool, Contains, false, filter, flat_map, get_or-set_other}
pub use Rattle.std.proofs.Common.{get_or-set_same, inl, inr, is_some, length, length-set, List, map, min, nat_le}
pub use Rattle.std.proofs.Common.{nat_lt, None, not, Option, refl, slice_get, slice_index, slice_index_or, slice_set}
pub use Rattle.std.proofs.Common.{Some, subst, suc, sym, true, zero, ℕ}
pub use Rattle.std.proofs.lemmas.Bool.{and_parts}
pub use Rattle.std.proofs.lemmas.Bool.Decides.{nat_tests}
pub use Rattle.std.proofs.lemmas.List.{get_or-replicate, length-map, length-take-le}
pub use Rattle.std.proofs.lemmas.List.Concat.{flat_map-cons}
pub use Rattle.std.proofs.lemmas.List.Elements.{Contains-get_or}
pub use Rattle.std.proofs.lemmas.Option.{same_Some, slice_get_within}
pub use Rattle.std.specs.List.{list_any}
pub use Rattle.mcal_base.specs.facts.{Numbers.{lt_from, lt_itself, lt_next, same_or_other}, Options.{some_is}}
pub use Rattle.mcal_base.specs.{Bits.{has_bit}, Layout.{place_of}, declared.TheConstants.{WORDS}}
pub use Rattle.mcal_base.specs.{declared.answer.Answer.{Answer}, declared.answer_name.AnswerName.TheVariants.{SpiJobOk}}
pub use Rattle.mcal_base.specs.{declared.answer_name.AnswerName.TheVariants.{SpiJobPending, SpiJobQueued}}
pub use Rattle.mcal_base.specs.{declared.directive.Order.{Order}, declared.directive.Order.TheVariants.{Fill, Level}}
pub use Rattle.mcal_base.specs.{declared.directive.Order.TheVariants.{SpiFault}}
pub use Rattle.mcal_base.specs.{declared.layout.Array.TheVariants.{Destination, Source}}
pub use Rattle.mcal_base.specs.{declared.layout.TheConstants.{SOURCES}, declared.moves.Event.{Event}}
pub use Rattle.mcal_base.specs.{declared.moves.Event.TheVariants.{Start}, declared.moves.Move.{Move}}
pub use Rattle.mcal_base.specs.{declared.moves.Move.TheVariants.{Load, Mask, Store, Write}}
pub use Rattle.mcal_base.specs.{declared.register.Reg.TheVariants.{SerialData, SerialSelect, SerialWidth}}
pub use Rattle.mcal_base.specs.{declared.routine.Taken.{Taken}}
pub use Rattle.chip_blocks.specs.{units.Serials.{idle, outgoing, unit_at}, declared.units.serial.Serial.{Serial}}
pub use Rattle.chip_blocks.specs.declared.units.{serial.Word.{Word}}
pub use Rattle.chip_model.proofs.HistoryLaws.{level_leaves}
pub use Rattle.chip_model.specs.{Chip.{Chip, chip_after, happened, value_of, word_of}}
pub use Rattle.run_model.proofs.OutsideLaws.{stands-move}
pub use Rattle.run_model.specs.{Frame.{begins_word, is_shared, Origin, resets_chip}, Legal.{SendsRight, StandsAt}}
pub use Rattle.run_model.specs.{Machine.{Begun, outcome_with, select_of, Starts, tells_nothing}, Outside.{StandsIn}}
pub use Rattle.run_model.specs.{World.{World}}
pub use Rattle.word_shapes.proofs.{PlayingLaws.{ends-then, stored-other, stored-same}, PriorityQueueLaws.{front-ends}}
pub use Rattle.word_shapes.proofs.{PriorityQueueLaws.{holds-agree, next-ends}, RoomLaws.{front-lowers}}
pub use Rattle.word_shapes.proofs.{TripleBufferLaws.{newest-in, newest-word, own-control, pin-ends, release-ends}}
pub use Rattle.word_shapes.proofs.{TripleBufferLaws.{stands-agree}}
pub use Rattle.word_shapes.specs.{Banks.{Banks, pinning, Putting, releasing, Taking}, Order.{choice, Entry, none}}
pub use Rattle.word_shapes.specs.{Order.{waiting, with_wait}, Playing.{Ends, Memory, stored}}
pub use Rattle.word_shapes.specs.{PriorityQueue.{choosing_front, choosing_next, front_gave, front_left, front_move}}
pub use Rattle.word_shapes.specs.{PriorityQueue.{next_gave, search_move}, Room.{front_room, LowersTo}}
pub use Rattle.word_shapes.specs.{TripleBuffer.{take_gave, taking}, declared.choosing.Front.{Front}}
pub use Rattle.word_shapes.specs.{declared.choosing.Next.{Next}, declared.search.Search.{Search}}
pub use Rattle.word_shapes.specs.{declared.take.Take.{Take}, declared.triple_buffer.TripleBuffer.{TripleBuffer}}
pub use Rattle.service_outline.specs.{DeferredWrites.{is_fill, is_simple}, Services.{ReservedBy}}
pub use Rattle.service_outline.specs.laws.Words.{length_after, stored_other, stored_same}
pub use Rattle.shapes_on_chip.proofs.PartLaws.{one_owed, settles_part}
pub use Rattle.shapes_on_chip.specs.{OnChip.{AreThere, HasWords}, Parts.{CommitsAfter, DiffersIn, IsPart, PartTo}}
pub use Rattle.word_shapes.specs.jobs.{Parts.{find_gave, find_move, finding_first, gave, has_ended, number_in}}
pub use Rattle.word_shapes.specs.jobs.{Parts.{pinning as pinning_of, prepare_ends, preparing, releasing as releasing_of}}
pub use Rattle.word_shapes.specs.jobs.{Placing.{bank_of, bank_word, control_word, held_word, masked_by, or_none, packed}}
pub use Rattle.word_shapes.specs.jobs.{Placing.{set_up_word, source_word, trio_of, unpacked}}
pub use Rattle.word_shapes.specs.declared.jobs.{channel.Channel.{Channel}, channel.Placed.{Placed}}
pub use Rattle.word_shapes.specs.declared.jobs.{channel.Side.TheVariants.{Received, Sent}, finding.Find.{Find}}
pub use Rattle.word_shapes.specs.declared.jobs.{set_up.SetUp.{SetUp}}
pub use Rattle.spi_machine.proofs.Numbers.{item-other, item-same}
pub use Rattle.spi_machine.specs.{Bounds.{may}, Channels.{is_users, set_up_or, untouched, words_from}, Fits.{block_of}}
pub use Rattle.spi_machine.specs.{Fits.{FitsSpi}, Machine.{as_begun, faulted_run, happens, job_started, job_words}}
pub use Rattle.spi_machine.specs.{Machine.{moved, next_at, next_by, number_of as unit_number, start_by, with_word}}
pub use Rattle.spi_machine.specs.{Numbered.{first_items, with_item}, Pending.{best, changed, has_job, is_for, is_of}}
pub use Rattle.spi_machine.specs.{Pending.{job_result, next_job, next_on, Pending, shares_job, starts, uses_channel}}
pub use Rattle.spi_machine.specs.{State.{carried_at, channel_at, is_off, is_running, run_at, runs_sequence, SpiState}}
pub use Rattle.spi_machine.specs.{Table.{banked, channel_of, channels_by, channels_of, is_on_unit, job_of, jobs_of}}
pub use Rattle.spi_machine.specs.{Table.{is_sync_unit, length_by, select_by}}
pub use Rattle.spi_machine.specs.{Transfers.{as_words, begun, channel_words, Goes}}
pub use Rattle.spi_machine.specs.{Transfers.{JobWord, masked, no_word, Run, ToChannel}, Wiring.{channel_at_place}}
pub use Rattle.spi_machine.specs.{Wiring.{channel_number, job_at_place, list_by, list_of, placed_by, placed_of}}
pub use Rattle.spi_machine.specs.{declared.call.Call.{Call}, declared.call.Pointer.{Pointer}}
pub use Rattle.spi_machine.specs.{declared.call.Pointer.TheVariants.{Null, Users}, declared.table.Job.{Job}}
pub use Rattle.spi_machine.specs.{declared.table.SpiTable.{SpiTable}}
pub use Rattle.spi_sequences.specs.{Going.{Going, GoingAgrees, InTransfer, is_to_begin, Part, PartAgrees, PartBy}}
pub use Rattle.spi_sequences.specs.{Going.{run_of, taken_of, UnitAgrees, width_by, words_of}}
pub use Rattle.spi_sequences.specs.{PendingWrites.{PendingWrites, spi_owing, start_more, start_owes, unit_owed, Units}}
pub use Rattle.spi_sequences.specs.{PendingWrites.{unless_done, where_owed}, Refinement.{AreOwed, BanksAgree, Debt}}
pub use Rattle.spi_sequences.specs.{Going.{CarriesAgrees}, Refinement.{all_of, run_carried, RunsBy}}
pub use Rattle.spi_sequences.specs.laws.{words.JobPlaces.{all_carried, all_pending, aside_pending}}
pub use Rattle.spi_sequences.specs.laws.{words.SameWords.{sends_as}}
pub use Rattle.spi_sequences.specs.{Refinement.{entries_of, HasPart, is_left, is_owed, IsLast, IsSoundState, job_code}}
pub use Rattle.spi_sequences.specs.{Refinement.{KeepsNone, Pins, PinsNone, prepares, put_held, PutRight, readied_by}}
pub use Rattle.spi_sequences.specs.{Refinement.{readied_in, Reservation, Reservations, RunAgrees, RunsNext}}
pub use Rattle.spi_sequences.specs.{Refinement.{SequencesAgree, set_up_code, spi_bare, SpiRepresents, TakeRight, View}}
pub use Rattle.spi_sequences.specs.{Refinement.{view, WordsAgree}, Words.{cancelled_bit, has_mark, job_word, next_in}}
pub use Rattle.spi_sequences.specs.{Words.{order_word, packed_run, position_word, running_word, search_of}}
pub use Rattle.spi_sequences.specs.{Words.{sequence_word, started_bit}, declared.service.start.Chosen.{Chosen}}
pub use Rattle.spi_sequences.specs.{declared.service.start.StartPlace.{StartPlace}}
pub use Rattle.spi_sequences.specs.{declared.service.start.Started.{Started}}
pub use Rattle.spi_sequences.specs.{declared.service.unit.FrameRole.{FrameRole}}
pub use Rattle.spi_sequences.specs.{declared.service.unit.FrameRole.TheVariants.{Handler, Main, Rest, Transmit}}
pub use Rattle.spi_sequences.specs.{declared.service.unit.UnitBody.{UnitBody}}
pub use Rattle.spi_sequences.specs.{declared.service.unit.UnitPlace.{UnitPlace}, declared.words.Position.{Position}}
pub use Rattle.spi_sequences.specs.{declared.words.Running.{Running}, declared.words.TheConstants.{MARKS, NEXTS, STATE}}
pub use Rattle.spi_sequences.specs.laws.{services.RequestRight.{map_get}, words.PendingWords.{cleared_of}}
pub use Rattle.spi_sequences.specs.laws.{words.PendingWords.{clears}, bookkeeping.MarkedState.{contains_back}}
pub use Rattle.spi_sequences.specs.laws.{bookkeeping.MarkedState.{get_back, item, item_for, Keeps, sequences_after}}
pub use Rattle.spi_sequences.specs.laws.bookkeeping.MarkedState.{marked_other, sound_changed}
pub use Rattle.spi_sequences.specs.laws.{bookkeeping.MarkedState.{marked_same}, bookkeeping.NextChosen.{best_in}}
pub use Rattle.spi_sequences.specs.laws.{bookkeeping.NextChosen.{choice_next, free_rests, number_of}}
pub use Rattle.spi_sequences.specs.laws.{bookkeeping.RefinementRight.{apart_agrees}}
pub use Rattle.spi_sequences.specs.laws.{bookkeeping.SequenceEnded.{filter_back, filter_keeps, get_contained}}
pub use Rattle.spi_sequences.specs.laws.{hardware.StableUnderHardware.{by_two, none_in}, hardware.SourceFilled.{any_in, own_low}}
pub use Rattle.spi_sequences.specs.laws.{hardware.StableUnderHardware.{any_changed, set_unit, words_kept}}
pub use Rattle.spi_sequences.specs.laws.services.CancelRight.{from_order}
pub use Rattle.spi_sequences.specs.laws.{services.CancelRight.{named_own, not_order, order_there, own_order, to_order}}
pub use Rattle.spi_sequences.specs.laws.{services.InitPrepared.{in_first, in_later}, services.QueryRight.{may_first}}
pub use Rattle.spi_sequences.specs.laws.{services.SetUpRight.{may_store, may_users, none_stored}}
pub use Rattle.spi_sequences.specs.laws.{services.StartSteps.{chosen_by, prepare_at, prepare_by, prepared}}
pub use Rattle.spi_sequences.specs.laws.{services.StartSteps.{prepared_with, ranks_in, selects, start_chooses}}
pub use Rattle.spi_sequences.specs.laws.{services.StartSteps.{start_finds, start_found, start_looks, start_move}}
pub use Rattle.spi_sequences.specs.laws.{services.StartSteps.{start_prepares, start_releases, start_takes, unit_named}}
pub use Rattle.spi_sequences.specs.laws.{services.UnitSteps.{after_start, unit_over}, services.WriteRight.{first-at}}
pub use Rattle.spi_sequences.specs.laws.{words.FirstParts.{as_read, channels_are, external_part, first_parts, held_is}}
pub use Rattle.spi_sequences.specs.laws.{words.FirstParts.{internal_part, part_at, part_by, part_for, read_set_up}}
pub use Rattle.spi_sequences.specs.laws.{words.FirstParts.{set_up_fits, some_words, words_are}}
pub use Rattle.spi_sequences.specs.laws.{words.JobPlaces.{job_place, left_at, one_place}}
pub use Rattle.spi_sequences.specs.laws.{words.PendingWords.{holds_back, holds_changed, holds_debt, stands_owed}}
pub use Rattle.spi_sequences.specs.laws.words.SameWords.{contains_map, going_words, job_small, job_there, order_stays}
pub use Rattle.spi_sequences.specs.laws.{words.SideWords.{differs_by_store, none_readied, not_first, not_held}}
pub use Rattle.spi_sequences.specs.laws.{words.SideWords.{not_of_other, not_users, set_up_by, sides_apart, trio_fits}}
pub use Rattle.spi_sequences.specs.laws.{words.WordsOfModule.{has_channel, in_order, internal_words, IsWordOf}}
pub use Rattle.spi_sequences.specs.laws.{words.WordsOfModule.{of_banks, of_held, of_one, of_set_up, of_sixteen}}
pub use Rattle.spi_sequences.specs.laws.{words.WordsOfModule.{own_banks, own_first, own_held, own_of_channel}}
pub use Rattle.spi_sequences.specs.laws.{words.WordsOfModule.{own_set_up, past_the_first, some_at, source_own}}
pub use Rattle.spi_sequences.specs.laws.{words.WordsOfModule.{starts_at}, words.WordsToState.{any_some, at_contained}}
pub use Rattle.spi_sequences.specs.laws.{words.WordsToState.{going_free, going_next, going_run, going_runs, is_number}}
pub use Rattle.spi_sequences.specs.laws.{words.WordsToState.{is_past, next_there, not_true, one_by_job, one_pending}}
pub use Rattle.spi_sequences.specs.laws.{words.WordsToState.{one_unit, other_number, same_number}}
pub use Rattle.spi_laws.specs.starting.Starting.{find_more, first_word, IsChosen, IsFirst, IsFree, LooksAt, Seen, start_left}
pub use Rattle.spi_laws.specs.starting.Starting.{start_place, will_give, will_read}
pub use Rattle.spi_machine.specs.Machine.{sent_by, sent_word, start_of}
pub use Rattle.spi_sequences.specs.laws.services.UnitSteps.{main_over}
pub use Rattle.spi_sequences.specs.PendingWrites.{owed_left}
pub use Rattle.spi_sequences.specs.PendingWrites.{owed_move}
pub use Rattle.word_shapes.specs.declared.jobs.preparing.Prepare.{Prepare}
pub use Rattle.word_shapes.specs.jobs.Parts.{prepare_left}
pub use Rattle.word_shapes.specs.jobs.Parts.{prepare_move}
pub use Rattle.word_shapes.specs.TripleBuffer.{take_left}
pub use Rattle.spi_sequences.specs.PendingWrites.{owes_move}
pub use Rattle.spi_sequences.specs.{Going.{ExternalAgrees, InternalAgrees}, Refinement.{AllRight}}
pub use Rattle.spi_sequences.specs.laws.{words.SameWords.{banks_view}, words.PendingWords.{banks_held}}
pub use Rattle.spi_sequences.specs.laws.words.Cases.{cases, whether, whether_as}
