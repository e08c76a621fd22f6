-- The vocabulary of this module's laws: what its law files take from elsewhere.
pub use Rattle.std.proofs.Common.{ap, arith, Bool, cond, false, inl, inr, is_some, length, length-set, List, min}
pub use Rattle.std.proofs.Common.{nat_le, nat_lt, None, not, Option, refl, slice_get, slice_index, slice_index_or, Some}
pub use Rattle.std.proofs.Common.{subst, suc, sym, take, true, zero, ℕ}
pub use Rattle.std.proofs.Math.Nat.{mod-add-div, mod-eq_of_lt, mod-le, mod-lt, mod_self, mul-le-mul, mul-le-mul_right}
pub use Rattle.std.proofs.Math.Nat.{mul_comm, suc-mod}
pub use Rattle.std.proofs.lemmas.Bool.{or_from, or_left, or_parts, or_right}
pub use Rattle.std.proofs.lemmas.Bool.Decides.{nat_tests}
pub use Rattle.std.proofs.lemmas.List.{length-drop, length_push, take_all}
pub use Rattle.std.proofs.lemmas.Nat.{mod-mul-add}
pub use Rattle.std.specs.Option.{option_map}
pub use Rattle.mcal_base.specs.facts.{Numbers.{eq_is, eq_other, eq_self, le_since, lt_is, lt_isnt, same_or_other}}
pub use Rattle.mcal_base.specs.facts.{Options.{none_some, some_same}, Truths.{and_false, clash, off_on}}
pub use Rattle.mcal_base.proofs.BitLaws.{has_bit-without}
pub use Rattle.mcal_base.specs.{Bits.{bit_of, has_bit}, declared.answer.Answer.{Answer}}
pub use Rattle.mcal_base.specs.{declared.answer_name.AnswerName.TheVariants.{EOk}, declared.layout.TheConstants.{USERS}}
pub use Rattle.mcal_base.specs.{declared.moves.Move.{Move}, declared.moves.Move.TheVariants.{Load, Mask, Read, Store}}
pub use Rattle.mcal_base.specs.{declared.moves.Move.TheVariants.{Unmask}}
pub use Rattle.mcal_base.specs.{declared.register.Reg.TheVariants.{ConverterAck, ConverterResult, ConverterState}}
pub use Rattle.mcal_base.specs.det_errors.Rows.{first_error}
pub use Rattle.chip_blocks.specs.{converter.Converters.{Converters}, declared.converter.converter.Converter.{Converter}}
pub use Rattle.chip_model.specs.Chip.{Chip, chip_after, value_of, word_of}
pub use Rattle.run_model.proofs.OutsideLaws.{stands-move}
pub use Rattle.run_model.specs.{Causes.{blocks}, Frame.{Called, Entered, missed_after, Origin}, Machine.{no_answer}}
pub use Rattle.run_model.specs.{Machine.{Outcome, outcome}, Outside.{StandsIn}, World.{sample_at, World}}
pub use Rattle.word_shapes.proofs.PriorityQueueLaws.{again-ends, drop-ends, front-ends, holds-agree}
pub use Rattle.word_shapes.proofs.TripleBufferLaws.{abandons, bank-word as whole_word, banks-apart, chooses, commits}
pub use Rattle.word_shapes.proofs.TripleBufferLaws.{control-apart, fills, newest-in, own-control, own-word, pins}
pub use Rattle.word_shapes.proofs.TripleBufferLaws.{releases, stands-agree}
pub use Rattle.word_shapes.specs.{Banks.{abandoning, Banks, choosing, committing, filling, pinning, Putting, releasing}}
pub use Rattle.word_shapes.specs.{Banks.{Taking}, Order.{Entry, is_there, waiting, without as left_of}}
pub use Rattle.word_shapes.specs.{Playing.{stored}, PriorityQueue.{again_start, drop_start, dropping}}
pub use Rattle.word_shapes.specs.{PriorityQueue.{Holds as HoldsOrder, waiting_again}}
pub use Rattle.word_shapes.specs.{TripleBuffer.{Fits, free, IsBank, listed, own_of, pin_of, put_start, PutIn}}
pub use Rattle.word_shapes.specs.{TripleBuffer.{PutStands, Stands, word_at}, declared.put.Put.{Put}}
pub use Rattle.word_shapes.specs.{declared.take.Take.{Take}, declared.triple_buffer.TripleBuffer.{TripleBuffer}}
pub use Rattle.run_model.specs.{Machine.{answers, named_with}}
pub use Rattle.service_outline.specs.{DeferredWrites.{CommitsTo}, Done.{goes}}
pub use Rattle.service_outline.specs.{FrameHistory.{FrameHistory, fresh_history, Is_this_frame, past_after}}
pub use Rattle.service_outline.specs.{Services.{AssertedAt, Beside, ended_at, MakesTo, mark_of, ReservedBy, RightOr}}
pub use Rattle.service_outline.specs.{Services.{with_holds}, Short.{ended_by}}
pub use Rattle.service_outline.specs.laws.{StepKinds.{asks_no}, Words.{length_after, stored_other, stored_same}}
pub use Rattle.shapes_on_chip.proofs.PartLaws.{one_owed, settles_list, settles_part, words-after}
pub use Rattle.shapes_on_chip.specs.{OnChip.{HasWords}, Parts.{after_list, AllMay, CommitsAfter, DiffersIn}}
pub use Rattle.word_shapes.specs.streams.{Copying.{copying, has_read, read_more}, Rounds.{bank_number, bank_of, bank_word}}
pub use Rattle.word_shapes.specs.streams.{Rounds.{column_word, kept_word, trio_of}, Stream.{following, limited, one_more}}
pub use Rattle.word_shapes.specs.declared.streams.{column.Column.{Column}, copying.Copying.{Copying}}
pub use Rattle.word_shapes.specs.declared.streams.{rounds.Bank.{Bank}, rounds.Rounds.{Rounds}}
pub use Rattle.adc_machine.proofs.{Parts.{group_same, round_same}, Places.{stored as round_stored}}
pub use Rattle.adc_machine.proofs.{Rounds.{whole_values}, Stopped.{unmarked_group, unmarked_round}}
pub use Rattle.adc_machine.specs.{Bounds.{adc_setting, class_of}, Checks.{error_by}, Configured.{ranks_of, unit_of}}
pub use Rattle.adc_machine.specs.Groups.{Completed, ends_with_stream, finish_of, GroupState, held_in, Idle}
pub use Rattle.adc_machine.specs.{Groups.{inputs_left, inputs_of, is_continuous, is_finished, is_full, is_idle}}
pub use Rattle.adc_machine.specs.{Groups.{is_linear_stream, is_same, newest, Request, Results, Round, samples_of}}
pub use Rattle.adc_machine.specs.{Groups.{Status, status_after, status_read, StreamCompleted, trigger_input, untouched}}
pub use Rattle.adc_machine.specs.{Groups.{values_of, with_round_of}, Laws.{ends_at, HasValues, IsStored}}
pub use Rattle.adc_machine.specs.{Machine.{acts_by, adc_machine, after_round, circumstances, happens, is_done, notes}}
pub use Rattle.adc_machine.specs.{Machine.{place_value, read_from, reads, ready, served_round, with_values}}
pub use Rattle.adc_machine.specs.{Table.{group_of}, Triggers.{listener, mark_at, without_mark}, Turns.{aborts}}
pub use Rattle.adc_machine.specs.{Turns.{aborts_by, AdcState, group_at, has_turn, is_on, is_round_of, round_at}}
pub use Rattle.adc_machine.specs.{Turns.{with_group, with_round}, Words.{is_word, place_count, result_word}}
pub use Rattle.adc_machine.specs.{declared.call.Call.{Call}, declared.call.GroupCall.TheVariants.{ReadGroup}}
pub use Rattle.adc_machine.specs.{declared.call.ResultBuffer.{ResultBuffer}}
pub use Rattle.adc_machine.specs.{declared.call.ResultBuffer.TheVariants.{One, Zero}}
pub use Rattle.adc_machine.specs.{declared.table.AdcTable.{AdcTable}, declared.table.Group.{Group}}
pub use Rattle.adc_groups.specs.{PendingWrites.{flag_left, Is_finished, making_owed, owed_of, owed_own, PendingWrites}}
pub use Rattle.adc_groups.specs.{Places.{adc_bodies, AdcGround, counted, Has_served, has_served, hold_served, InFlag}}
pub use Rattle.adc_groups.specs.{Places.{InWindow, IsAlone, IsAtUnit, IsCalling, IsChosen, IsOnlyReader, IsPinning}}
pub use Rattle.adc_groups.specs.{Places.{IsReading, IsReleasing, IsServing, IsTaken, MayCall, MayCopy, MayPin}}
pub use Rattle.adc_groups.specs.{Places.{MayServe, owes_note, place_out, round_words}, Refinement.{Agrees, AllRight}}
pub use Rattle.adc_groups.specs.{Refinement.{BanksAgree, buffer_by, buffer_in, chosen_of, claim_fits}}
pub use Rattle.adc_groups.specs.{Refinement.{claim_right, Claims, claims_on, Copies, CopiesRight}}
pub use Rattle.adc_groups.specs.{Refinement.{Fills, FillsRight, first_held, FitsAdc, foot_of, Full, FullRight}}
pub use Rattle.adc_groups.specs.{Refinement.{GroupAgrees}}
pub use Rattle.adc_groups.specs.{Refinement.{HeldRight, is_handler, is_owed, IsBlock, IsNext, IsOrder, IsOver, IsRound}}
pub use Rattle.adc_groups.specs.{Refinement.{IsSoundGroup, IsSoundRequest, Keeps, kept_by, kept_in}}
pub use Rattle.adc_groups.specs.{Refinement.{kept_of_round, number_at, number_by, or_else, phase_of}}
pub use Rattle.adc_groups.specs.{Refinement.{Promised, put_of, Reads, Reservation, Reservations, result_of}}
pub use Rattle.adc_groups.specs.{Refinement.{RoundAgrees, running_of, some_hold, SoundGroup, Starts, starts_on}}
pub use Rattle.adc_groups.specs.Refinement.{take_of, TriggersAgree, UnitAgrees, Whole, will_yield}
pub use Rattle.adc_groups.specs.{Stored.{entry, group_in, group_word, order_of, phase_in, phase_number, rounds_of}}
pub use Rattle.adc_groups.specs.{Stored.{word_number}, declared.body.AdcBody.{AdcBody}}
pub use Rattle.adc_groups.specs.{declared.body.Decided.TheVariants.{Goes}, declared.body.Place.{Place}}
pub use Rattle.adc_groups.specs.{declared.body.Place.TheVariants.{Chooses, Flag, Looks, Makes, Out, Pins}}
pub use Rattle.adc_groups.specs.{declared.body.Place.TheVariants.{Reads as ReadsPlace}}
pub use Rattle.adc_groups.specs.{declared.making.Continuation.{Continuation}, declared.making.WindowWrite.{WindowWrite}}
pub use Rattle.adc_groups.specs.{declared.making.WindowWrite.TheVariants.{Set}, declared.making.WriteBatch.{WriteBatch}}
pub use Rattle.adc_groups.specs.{declared.outside.Copied.{Copied}, declared.outside.Copied.TheVariants.{Serves, Tells}}
pub use Rattle.adc_groups.specs.{declared.outside.Taken.{Taken}, declared.service.read.Stage.{Stage}}
pub use Rattle.adc_groups.specs.{declared.service.serve.RoundSeen.{RoundSeen}, declared.words.Phase.{Phase}}
pub use Rattle.adc_groups.specs.{declared.words.TheConstants.{STATE}}
pub use Rattle.adc_groups.specs.laws.bookkeeping.FrameRule.{banks_stay, claim_past, claimed_parts, holds_anew}
pub use Rattle.adc_groups.specs.laws.{bookkeeping.FrameRule.{all_changed, AllSpare, changed, claim_stays, Fresh}}
pub use Rattle.adc_groups.specs.laws.{bookkeeping.FrameRule.{place_stays, Stays}}
pub use Rattle.adc_groups.specs.laws.{bookkeeping.PendingWritesRight.{promised_same, waits_other}}
pub use Rattle.adc_groups.specs.laws.{bookkeeping.RefinementRight.{bare_right, finished_here}}
pub use Rattle.adc_groups.specs.laws.{services.EnableTriggerRight.{marks_off, triggers_off}}
pub use Rattle.adc_groups.specs.laws.{bookkeeping.RefinementRight.{none_past, off_unit as off_group, round_turn}}
pub use Rattle.adc_groups.specs.laws.{bookkeeping.RefinementRight.{kept_round, turn_round, unit_of_round}}
pub use Rattle.adc_groups.specs.laws.{hardware.HardwareCommutes.{unit_block, unit_other, unit_set}}
pub use Rattle.adc_groups.specs.laws.{hardware.HardwareCommutes.{acknowledged_list, acknowledged_over}}
pub use Rattle.adc_groups.specs.laws.{hardware.StableUnderHardware.{kept_within, value_within}}
pub use Rattle.adc_groups.specs.laws.{services.BodySteps.{body_ends, body_work, copies_on, place_ends, step}}
pub use Rattle.adc_groups.specs.laws.{services.CallSteps.{decides_so, held}, services.Decisions.{chosen, claim}}
pub use Rattle.adc_groups.specs.laws.{services.Decisions.{column_of, copies_or, flagged, is_streamed, leaves, looking}}
pub use Rattle.adc_groups.specs.laws.{services.Decisions.{makes, off_where, over, phase_after, phase_on, serve}}
pub use Rattle.adc_groups.specs.laws.{services.Decisions.{serving, take_by, trigger_bit, turn_deed, turn_shape}}
pub use Rattle.adc_groups.specs.laws.{services.StopRight.{first_takes, steps_so}, services.SingleWordCalls.{DecidedRight}}
pub use Rattle.adc_groups.specs.laws.{services.SingleWordCalls.{looks_right}, services.SingleWordCalls.{group_errors}}
pub use Rattle.adc_groups.specs.laws.{services.SingleWordCalls.{not_reset}, services.ReadSteps.{stage_read}}
pub use Rattle.adc_groups.specs.laws.{services.RequestRight.{listener_as}}
pub use Rattle.adc_groups.specs.laws.{words.StoreOneWord.{other_at, past_untouched, sound_past}}
pub use Rattle.adc_groups.specs.laws.{services.SingleWordCalls.{read_phase, read_sound}, words.StoreOneWord.{same}}
pub use Rattle.adc_groups.specs.laws.{words.StoreOneWord.{Touches, turn_same}, services.StopWords.{bits_few}}
pub use Rattle.adc_groups.specs.laws.{services.StopWords.{off_block, off_time, off_unit}}
pub use Rattle.adc_groups.specs.laws.{services.WriteBatchSteps.{deed_move, making}, services.SeekRight.{none_aborted}}
pub use Rattle.adc_groups.specs.laws.{services.SeekRight.{unclaimed}, words.StoreOneWord.{start_from}}
pub use Rattle.adc_groups.specs.laws.{words.StoreOneWord.{trio_apart}, words.StructureParts.{differs_none}}
pub use Rattle.adc_groups.specs.laws.{words.StructureParts.{low_last, order_first, other_last, stands_last}}
pub use Rattle.adc_groups.specs.laws.{words.OrderWords.{order_waiting, order_without}, words.StoreOneWord.{group_with}}
pub use Rattle.adc_groups.specs.laws.{words.StoreOneWord.{others_here, stored_here, touched}}
pub use Rattle.adc_groups.specs.laws.{words.StructureParts.{again_part, AllOf, deeds_listed, deeds_low, deeds_other}}
pub use Rattle.adc_groups.specs.laws.{words.StructureParts.{deeds_unit, drop_part, lows_set, own_named, set_at}}
pub use Rattle.adc_groups.specs.laws.{words.StructureParts.{stands_list, units_set, word_there}}
pub use Rattle.adc_groups.specs.laws.{words.WordsOfModule.{bank_below, claim_words, few_inputs, low_words, on_there}}
pub use Rattle.adc_groups.specs.laws.{words.WordsOfModule.{order_words, place_words, running_words, some_inputs}}
pub use Rattle.adc_groups.specs.laws.{words.WordsOfModule.{some_samples, trio_words, unit_is, unit_small, unit_within}}
pub use Rattle.adc_groups.specs.laws.{words.WordsOfModule.{within}}
pub use Rattle.adc_groups.specs.laws.words.Cases.{cases, whether, whether_as}
pub use Rattle.adc_groups.specs.laws.words.StructureParts.{order_within}
pub use Rattle.adc_groups.specs.laws.words.WordsChange.{all_stay, AllStay, BankStays, claim_now, claim_other}
pub use Rattle.adc_groups.specs.laws.words.WordsChange.{claim_stays_below, core_claim, core_place, core_trio}
pub use Rattle.adc_groups.specs.laws.words.WordsChange.{CoreStays, HoldStays, kept_claimed, kept_place, kept_trio}
pub use Rattle.adc_groups.specs.laws.words.WordsChange.{KeptStays, place_claimed, stays_agree, trio_claim}
pub use Rattle.adc_groups.specs.laws.words.WordsChange.{trio_claimed, trio_far, trio_other, trio_result}
pub use Rattle.mcal_base.specs.declared.moves.Event.{Event}
pub use Rattle.adc_groups.specs.declared.outside.Outside.{Outside}
pub use Rattle.word_shapes.specs.declared.put.PutPart.{PutPart}
pub use Rattle.mcal_base.specs.declared.service.Service.{Service}
pub use Rattle.adc_groups.specs.declared.making.StructureOp.{StructureOp}
pub use Rattle.adc_groups.specs.declared.window.Window.{Window}
pub use Rattle.adc_groups.specs.declared.words.Word.{Word}
