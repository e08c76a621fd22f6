-- The vocabulary of this module's laws: what its law files take from elsewhere.
pub use Rattle.std.proofs.Common.{ap, arith, Bool, cond, drop, false, get_or-set_other, get_or-set_same, inl, inr}
pub use Rattle.std.proofs.Common.{is_some, length, length-append, length-drop, length-set, List, map, min, nat_le}
pub use Rattle.std.proofs.Common.{nat_lt, None, not, Option, refl, slice_get, slice_index, slice_index_or, slice_set}
pub use Rattle.std.proofs.Common.{Some, subst, suc, sym, take, true, zero, ℕ}
pub use Rattle.std.proofs.Math.Nat.{mod-eq_of_lt}
pub use Rattle.std.proofs.lemmas.Bool.{and_parts}
pub use Rattle.std.proofs.lemmas.Bool.Decides.{nat_tests}
pub use Rattle.std.proofs.lemmas.List.{get_or-map, length-map}
pub use Rattle.std.proofs.lemmas.List.FromFn.{length-range_with_len}
pub use Rattle.std.proofs.lemmas.Option.{slice_get_within}
pub use Rattle.std.specs.List.{list_any, range_with_len}
pub use Rattle.mcal_base.specs.facts.{Numbers.{eq_is, eq_isnt, eq_other, eq_self, same_or_other}}
pub use Rattle.mcal_base.specs.{Bits.{bit_of, has_bit}, declared.answer.Answer.{Answer}, declared.moves.Event.{Event}}
pub use Rattle.mcal_base.specs.declared.moves.Move.{Move, TheVariants.{Load, Read}}
pub use Rattle.mcal_base.specs.declared.moves.Move.TheVariants.{Store, Write}
pub use Rattle.mcal_base.specs.{declared.register.Reg.TheVariants.{ConverterAbort, ConverterGo, ConverterList}}
pub use Rattle.chip_blocks.proofs.of_converter.HistoryLaws.{ended-open, ended-over, result-over}
pub use Rattle.chip_blocks.proofs.of_converter.StateLaws.{abort-not_running, unit_at-begun}
pub use Rattle.chip_blocks.specs.converter.{Accesses.{HasUnit}, Converters.{Converters}}
pub use Rattle.chip_blocks.specs.declared.converter.{converter.Converter.{Converter}}
unfoldable pub use Rattle.chip_blocks.specs.converter.Converters.{unused}
pub use Rattle.chip_model.specs.Chip.{Chip, chip_after, value_of, word_of}
pub use Rattle.run_model.proofs.OutsideLaws.{stands-move}
pub use Rattle.run_model.specs.{Frame.{Called, Entered, missed_after, Origin}, Machine.{no_answer, outcome}}
pub use Rattle.run_model.specs.{Machine.{tells_nothing}, World.{Sample, sample_at, World}}
pub use Rattle.word_shapes.proofs.PriorityQueueLaws.{again-ends, holds-agree, holds-below, next-ends}
pub use Rattle.word_shapes.proofs.TripleBufferLaws.{stands-agree}
pub use Rattle.word_shapes.specs.{Order.{choice, chosen, Entry, waiting}, Playing.{after, Ends, Memory, NamesOwn}}
pub use Rattle.word_shapes.specs.{PriorityQueue.{again_start, choosing_next, Holds as HoldsOrder, next_gave, next_left}}
pub use Rattle.word_shapes.specs.{PriorityQueue.{next_move, next_start, own_of, waiting_again}}
pub use Rattle.word_shapes.specs.{declared.choosing.Front.{Front}, declared.choosing.Next.{Next}}
pub use Rattle.service_outline.specs.{DeferredWrites.{CommitsTo, spot_or}, FrameHistory.{FrameHistory, fresh_history}}
pub use Rattle.service_outline.specs.{FrameHistory.{Is_this_frame}, Services.{AssertedAt, ended_at, gap_at, holds_at}}
pub use Rattle.service_outline.specs.{Services.{MakesTo, MayStop, place_at, PointAssertion, RightOr}}
pub use Rattle.service_outline.specs.{Services.{with_holds}, Short.{ended_by}}
pub use Rattle.service_outline.specs.laws.Words.{length_after, stored_other, stored_same}
pub use Rattle.shapes_on_chip.proofs.{PartLaws.{memories, settles_list, settles_part, words-after}, Steps.{value-same}}
pub use Rattle.shapes_on_chip.specs.{OnChip.{HasWords}, Parts.{after_list, CommitsAfter, DiffersIn}}
pub use Rattle.word_shapes.specs.streams.{Rounds.{kept_word, trio_of}}
pub use Rattle.adc_machine.proofs.{Next.{next_is}, Parts.{group_same, round_same}, Rounds.{values_so_far}}
pub use Rattle.adc_machine.specs.{Configured.{four_from, input_at, ranks_of, unit_of}, Groups.{ended_values}}
pub use Rattle.adc_machine.specs.{Groups.{GroupState, inputs_left, inputs_of, is_finished, levels_from, newest}}
pub use Rattle.adc_machine.specs.{Groups.{Request, Round, samples_of, suspends}, Laws.{ends_at, IsBefore}}
pub use Rattle.adc_machine.specs.{Machine.{aborting, aborts_on, adc_machine, is_done, ready, starting}}
pub use Rattle.adc_machine.specs.{Table.{group_of}, Triggers.{listener}, Turns.{aborted, aborts, aborts_by, AdcState}}
pub use Rattle.adc_machine.specs.{Turns.{begun, group_at, has_turn, is_on, is_outranked, is_round_of, kept_of}}
pub use Rattle.adc_machine.specs.{Turns.{next_group, number_of, rank_of, round_at, started, starts, starts_by}}
pub use Rattle.adc_machine.specs.{Turns.{waits_for, with_waiting}, Words.{is_word}}
pub use Rattle.adc_machine.specs.{declared.call.Call.{Call}, declared.call.ResultBuffer.{ResultBuffer}}
pub use Rattle.adc_machine.specs.{declared.table.AdcTable.{AdcTable}}
pub use Rattle.adc_groups.specs.{PendingWrites.{making_owed, owed_of, owed_own}, Places.{acted, adc_bodies}}
pub use Rattle.adc_groups.specs.{Places.{adc_windows, AdcGround, ends_claim, Has_acted, Has_served, has_served}}
pub use Rattle.adc_groups.specs.{Places.{HasDone, HasMade, hold_in, hold_then, InWindow, IsFirst, IsSeeking, IsStart}}
pub use Rattle.adc_groups.specs.{Places.{IsStarting, MaySeek, of_driver, Orders, Prepares, spot_start}}
pub use Rattle.adc_groups.specs.{Refinement.{AdcRepresents, Agrees, AllRight, Backed, BanksAgree, chosen_of}}
pub use Rattle.adc_groups.specs.{Refinement.{claim_fits, claim_right, Claims, claims_on}}
pub use Rattle.adc_groups.specs.{Refinement.{first_held, FitsAdc, foot_of, GroupAgrees, is_ahead}}
pub use Rattle.adc_groups.specs.{Refinement.{is_handler, is_owed, IsBlock, IsOrder, IsOver, IsRound, IsSound}}
pub use Rattle.adc_groups.specs.{Refinement.{IsSoundGroup, IsSoundRequest, KeepsRight, kept_by, kept_in}}
pub use Rattle.adc_groups.specs.{Refinement.{kept_of_round, number_at, number_by, phase_of, Promised, put_of}}
pub use Rattle.adc_groups.specs.{Refinement.{Reservations, result_of, RoundAgrees, running_of, some_hold}}
pub use Rattle.adc_groups.specs.{Refinement.{SoundGroup, Starts, starts_on, take_of, TriggersAgree, UnitAgrees}}
pub use Rattle.adc_groups.specs.{Refinement.{will_yield}, Stored.{entry, group_word, order_of, rounds_of}}
pub use Rattle.adc_groups.specs.{Stored.{word_number}, declared.body.AdcBody.{AdcBody}, declared.body.Decided.{Decided}}
pub use Rattle.adc_groups.specs.{declared.body.Decided.TheVariants.{Goes}, declared.body.Place.{Place}}
pub use Rattle.adc_groups.specs.{declared.body.Place.TheVariants.{Aborts, Looks, Makes, Quits, Seeks}}
pub use Rattle.adc_groups.specs.{declared.making.Continuation.{Continuation}, declared.making.StructureOp.{StructureOp}}
pub use Rattle.adc_groups.specs.{declared.making.WindowWrite.{WindowWrite}}
pub use Rattle.adc_groups.specs.{declared.making.WindowWrite.TheVariants.{Abort, Set}}
pub use Rattle.adc_groups.specs.{declared.making.WriteBatch.{WriteBatch}, declared.outside.Outside.TheVariants.{Closes}}
pub use Rattle.adc_groups.specs.{declared.outside.Outside.TheVariants.{Counts}, declared.outside.Suspended.{Suspended}}
pub use Rattle.adc_groups.specs.{declared.window.Window.{Window}, declared.words.TheConstants.{STATE}}
pub use Rattle.adc_groups.specs.laws.bookkeeping.FrameRule.{banks_stay, claim_past, claim_tells, claimed_parts}
pub use Rattle.adc_groups.specs.laws.{bookkeeping.FrameRule.{all_changed, AllSpare, changed, claim_stays, Fresh}}
pub use Rattle.adc_groups.specs.laws.{bookkeeping.FrameRule.{place_stays, Stays, trio_group, turn_same}}
pub use Rattle.adc_groups.specs.laws.{bookkeeping.PendingWritesRight.{promised_same, waits_other, yields_below}}
pub use Rattle.adc_groups.specs.laws.{bookkeeping.RefinementRight.{finished_here}}
pub use Rattle.adc_groups.specs.laws.{bookkeeping.RefinementRight.{kept_request, kept_round, named_converter, named_number}}
pub use Rattle.adc_groups.specs.laws.{bookkeeping.RefinementRight.{named_of, none_past, off_unit, round_other, round_turn}}
pub use Rattle.adc_groups.specs.laws.{bookkeeping.RefinementRight.{turn_round, waits_turn}}
pub use Rattle.adc_groups.specs.laws.{hardware.HardwareCommutes.{unit_block, unit_other, unit_set}}
pub use Rattle.adc_groups.specs.laws.{hardware.HardwareCommutes.{aborted_list}}
pub use Rattle.adc_groups.specs.laws.{services.SingleWordCalls.{waiting_sound}}
pub use Rattle.adc_groups.specs.laws.{hardware.StableUnderHardware.{Goes_on, kept_within, now_here, Onward}}
pub use Rattle.adc_groups.specs.laws.{hardware.StableUnderHardware.{onward_agrees, UnitGoes}}
pub use Rattle.adc_groups.specs.laws.{services.CallSteps.{any_off}, services.BodySteps.{after_making, body_ends}}
pub use Rattle.adc_groups.specs.laws.{services.BodySteps.{body_takes, body_work, making_takes, place_ends, step}}
pub use Rattle.adc_groups.specs.laws.{services.Decisions.{aborted as aborted_in, aborted_by, aborts as decides_abort}}
pub use Rattle.adc_groups.specs.laws.{services.Decisions.{claim_ended, conversion, convert, done, keep, kept_where}}
pub use Rattle.adc_groups.specs.laws.{services.Decisions.{list_deed, lists_for, looking, makes, moves_ahead}}
pub use Rattle.adc_groups.specs.laws.{services.Decisions.{nothing_more, sought, start_deeds, unit_named}}
pub use Rattle.adc_groups.specs.laws.{services.StopRight.{steps_so}, services.SingleWordCalls.{DecidedRight, looks_right}}
pub use Rattle.adc_groups.specs.laws.{services.RequestRight.{listener_as}}
pub use Rattle.adc_groups.specs.laws.{words.StoreOneWord.{other_at, sound_past}}
pub use Rattle.adc_groups.specs.laws.{services.SeekRight.{seek_step}, services.WriteBatchSteps.{deed_move}}
pub use Rattle.adc_groups.specs.laws.{services.WriteBatchSteps.{deed_or_open, making, making_by, making_event}}
pub use Rattle.adc_groups.specs.laws.{services.WriteBatchSteps.{making_left, making_move, making_over, one_made}}
pub use Rattle.adc_groups.specs.laws.{services.WriteBatchSteps.{shape_after, shape_move}}
pub use Rattle.adc_groups.specs.laws.{services.SeekRight.{drop_starts, drop_yields, may_end, unclaimed}}
pub use Rattle.adc_groups.specs.laws.{words.StoreOneWord.{start_from}, services.SeekRight.{choice_next, choice_none}}
pub use Rattle.adc_groups.specs.laws.{words.StructureParts.{differs_none, low_last, order_first, order_last}}
pub use Rattle.adc_groups.specs.laws.{words.StructureParts.{other_last, stands_last, unit_last, whole_first}}
pub use Rattle.adc_groups.specs.laws.{words.OrderWords.{order_waiting}, words.StructureParts.{again_part, AllOf}}
pub use Rattle.adc_groups.specs.laws.{words.StructureParts.{deeds_listed, deeds_low, deeds_other, deeds_unit, lows_set}}
pub use Rattle.adc_groups.specs.laws.{words.StructureParts.{own_named, set_at, stands_list, stands_words}}
pub use Rattle.adc_groups.specs.laws.{words.StructureParts.{units_set, word_there}}
pub use Rattle.adc_groups.specs.laws.{words.WordsOfModule.{claim_words, few_inputs, get_dropped, low_words, on_there}}
pub use Rattle.adc_groups.specs.laws.{words.WordsOfModule.{order_words, running_words, unit_is, within}}
pub use Rattle.adc_groups.specs.laws.words.Cases.{cases, whether, whether_as}
pub use Rattle.adc_groups.specs.laws.words.StructureParts.{order_within}
pub use Rattle.adc_groups.specs.laws.words.WordsChange.{all_stay, claim_now, claim_other, claim_stays_below}
pub use Rattle.adc_groups.specs.laws.words.WordsChange.{core_claim, CoreStays, kept_claimed, place_claimed}
pub use Rattle.adc_groups.specs.laws.words.WordsChange.{stays_agree, trio_claimed}
pub use Rattle.adc_groups.specs.declared.words.Word.{Word}
