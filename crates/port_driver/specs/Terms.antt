-- The vocabulary of this crate's laws: what its law files take from elsewhere.
pub use Rattle.std.proofs.Common.{add-one, ap, arith, bit_or, Bool, cond, false, get_or-set_other, get_or-set_same, inl}
pub use Rattle.std.proofs.Common.{inr, is_some, length, length-set, List, nat_lt, None, not, Option, refl, slice_index}
pub use Rattle.std.proofs.Common.{slice_index_or, slice_set, Some, subst, suc, sum_by, sym, true, zero, ℕ}
pub use Rattle.std.proofs.lemmas.Bool.{and_parts, not-false}
pub use Rattle.std.proofs.lemmas.Bool.Decides.{nat_tests}
pub use Rattle.std.proofs.lemmas.List.{get_or-replicate, length-replicate}
pub use Rattle.std.proofs.lemmas.List.Sums.{sum_by-cons}
pub use Rattle.std.proofs.lemmas.Nat.{pow_below}
pub use Rattle.std.specs.List.{list_any}
pub use Rattle.mcal_base.specs.facts.{Numbers.{eq_other, eq_self, lt_is, lt_isnt, lt_zero}, Truths.{and_false, and_first}}
pub use Rattle.mcal_base.proofs.BitLaws.{bits_of-lt, has_bit-bits_of, has_bit-pow_other, has_bit-pow_same, has_bit-zero}
pub use Rattle.mcal_base.specs.{Bits.{bit_of, has_bit, without}}
pub use Rattle.mcal_base.specs.{declared.config.port.PortPinDirection.{PortPinDirection}}
pub use Rattle.mcal_base.specs.{declared.config.port.PortPinMode.{PortPinMode}}
pub use Rattle.mcal_base.specs.{declared.config.port.PortPinMode.TheVariants.{Adc, Dio, Icu, Pwm, Spi}}
pub use Rattle.mcal_base.specs.{declared.directive.Order.{Order}, declared.directive.Order.TheVariants.{Level}}
pub use Rattle.mcal_base.specs.{declared.directive.Reason.{Reason}, declared.directive.Reason.TheVariants.{PowerOn}}
pub use Rattle.mcal_base.specs.{declared.error_name.ErrorName.{ErrorName}, declared.layout.TheConstants.{SOURCES}}
pub use Rattle.mcal_base.specs.{declared.module_name.ModuleName.TheVariants.{Port}}
pub use Rattle.mcal_base.specs.{declared.moves.Event.TheVariants.{Act}, declared.moves.Move.{Move}}
pub use Rattle.mcal_base.specs.{declared.moves.Move.TheVariants.{Load, Read, Store as Stores, Store, Write}}
pub use Rattle.mcal_base.specs.{declared.register.Reg.{Reg}, declared.register.Reg.TheVariants.{CaptureCountHigh}}
pub use Rattle.mcal_base.specs.{declared.register.Reg.TheVariants.{CaptureCountLow, CaptureTimeHigh, CaptureTimeLow}}
pub use Rattle.mcal_base.specs.{declared.register.Reg.TheVariants.{ConverterAbort, EnableClear, EnableSet}}
pub use Rattle.mcal_base.specs.{declared.register.Reg.TheVariants.{PinDirectionClear, PinDirectionSet, PinFlip}}
pub use Rattle.mcal_base.specs.{declared.register.Reg.TheVariants.{PinMode, PinOutClear, PinOutSet, PortPut}}
pub use Rattle.mcal_base.specs.{declared.register.Reg.TheVariants.{PulseCommit, PulseIdle, TimerHigh, TimerLow}}
pub use Rattle.mcal_base.specs.There.{names_there}
pub use Rattle.mcal_base.specs.laws.There.{move_there}
pub use Rattle.mcal_base.proofs.RowLaws.{none_holds}
pub use Rattle.mcal_base.specs.det_errors.Rows.{errors_of}
pub use Rattle.chip_blocks.proofs.of_units.WriteLaws.{bit_at-clear, bit_at-set, clear-spared, set-spared}
pub use Rattle.chip_blocks.specs.units.Pins.{bit_at, ones_clear, ones_set}
pub use Rattle.chip_model.proofs.{HistoryLaws.{level_leaves, rate-left, words-write}, WholeLaws.{all-step}}
pub use Rattle.chip_model.proofs.{WordLaws.{slice_index-blank}}
pub use Rattle.chip_model.specs.Chip.{after_read, Chip, chip_after, happened, is_masked, reset_chip, value_of, word_of}
pub use Rattle.chip_model.specs.Histories.{Hardware, HasAll, Made, sets_rate, WasReset}
pub use Rattle.run_model.specs.{Causes.{blocks}, Frame.{asks_reset, begins_word, Called, is_shared, missed_after, Open}}
pub use Rattle.run_model.specs.{Frame.{Origin, resets_chip, writes_after}, Legal.{AllMade, MadeUnless, SendsRight}}
pub use Rattle.run_model.specs.{Machine.{Acts, ErrorLeaves, no_answer, Outcome, outcome, tells_nothing}}
pub use Rattle.run_model.specs.{World.{with_at, World, world_after}}
pub use Rattle.step_runner.proofs.Whose.{not-unless}
pub use Rattle.step_runner.specs.{Driver.{IsLawful}, Whose.{is_of, KeepsTo, module_of_register, module_of_word}}
pub use Rattle.step_runner.specs.{Whose.{NamesOthers, NamesWithin, only, WritesOthers, WritesWithin}}
pub use Rattle.run_model.specs.{Machine.{tells_error}}
pub use Rattle.service_outline.specs.{Both.{both}, Done.{ends, goes, owed_error}}
pub use Rattle.service_outline.specs.{FrameHistory.{FrameHistory, fresh_history, Is_this_frame, IsThisFrame}}
pub use Rattle.service_outline.specs.{FrameHistory.{past_wrote}, Fuel.{Shortens}, Services.{AllLet, AreLong}}
pub use Rattle.service_outline.specs.{Services.{AreServices, AssertedAt, Beside, Decides, IsBasis, LongBodies, MakesTo}}
pub use Rattle.service_outline.specs.{Services.{MakesWrites, mark_of, owners, place_at, PointAssertion, ReservedBy}}
pub use Rattle.service_outline.specs.{Services.{Right, Services, services_driver, Steady, TurnsTo, with_holds, Within}}
pub use Rattle.service_outline.specs.{Services.{WritesOn}, Short.{short_gave, short_left, short_move}, Sweep.{place_of}}
pub use Rattle.service_outline.specs.{SweepServices.{sweep, Sweeping}, WindowHistory.{is_windowed}}
pub use Rattle.service_outline.specs.{WindowHistory.{Plain}, declared.body.Looked.{Looked}}
pub use Rattle.service_outline.specs.{declared.body.Looked.TheVariants.{Goes, Refused}, declared.body.Or.{Or}}
pub use Rattle.service_outline.specs.{declared.body.Or.TheVariants.{First, Second}, declared.done.BodyTaken.{BodyTaken}}
pub use Rattle.service_outline.specs.{declared.done.Done.{Done}, declared.done.Epilogue.TheVariants.{Nothing}}
pub use Rattle.service_outline.specs.{declared.short.Short.{Short}, declared.sweep.SweepStage.{SweepStage}}
pub use Rattle.service_outline.specs.{declared.sweep.SweepStage.TheVariants.{At, Closes, Follows, Opens}}
pub use Rattle.service_outline.specs.{declared.sweep.Sweep.{Sweep}}
pub use Rattle.service_outline.specs.laws.{Acts.{never_clean}, Both.{both_right}, Duties.{made_here, made_on, no_units}}
pub use Rattle.service_outline.specs.laws.{Duties.{none_on, none_unless}, Lawful.{services_lawful}}
pub use Rattle.service_outline.specs.laws.{Reports.{error_told}, Seen.{free_windows}, StepKinds.{or_true}}
pub use Rattle.service_outline.specs.laws.{SweepWords.{each_but, next_by}, SweepRight.{sweep_right}}
pub use Rattle.service_outline.specs.laws.{Words.{fills_there, stored_same, stores_in, word_apart, word_later}}
pub use Rattle.module_machines.specs.port.{Classes.{class_of}}
pub use Rattle.module_machines.specs.port.Bounds.{call_steps, is_alone, is_guests, is_of_init, is_own_word, is_register}
pub use Rattle.module_machines.specs.port.Bounds.{latch_duty, may, must_by, owns, pin_count, PinsAgree, port_may, port_setting}
pub use Rattle.module_machines.specs.port.{Checks.{error_by, facts_by, has_mode, reporting}}
pub use Rattle.module_machines.specs.port.Bounds.{puts_latch, writes_latches}
pub use Rattle.module_machines.specs.port.{Checks.{service_of}, Machine.{acts_by, changed, first_state, happens, initial}}
pub use Rattle.module_machines.specs.port.{Machine.{is_out, is_pulse, level_at, pin_at, PinState, port_machine, PortState}}
pub use Rattle.module_machines.specs.port.{Machine.{refreshed, work}}
pub use Rattle.port_driver.specs.{Refinement.{Alone, DirectionsAgree, HeldRight, Is_alone}}
pub use Rattle.port_driver.specs.{Refinement.{IsWhole, LatchesAgree, ModesAgree, port_basis, PortRepresents, put}}
pub use Rattle.port_driver.specs.{Refinement.{put_mode, Reservations, turn, Written, written, written_in}}
pub use Rattle.module_machines.specs.port.{Table.{FitsPort, pin_of}}
pub use Rattle.port_driver.specs.{Writes.{asks, chosen, configured, half_write, initial_mode}}
pub use Rattle.port_driver.specs.{Writes.{is_configured, mode_number, mode_of, mode_write, ones, rank_of, ranked}}
pub use Rattle.port_driver.specs.{Writes.{register, sets, wanted_of, wants}, declared.asked.Asked.{Asked}}
pub use Rattle.module_machines.specs.declared.port.{call.Call.{Call}, call.Call.TheVariants.{Init}}
pub use Rattle.module_machines.specs.declared.port.{call.Call.TheVariants.{RefreshPortDirection}}
pub use Rattle.module_machines.specs.declared.port.{call.PinCall.{PinCall}, call.PinCall.TheVariants.{SetPinDirection}}
pub use Rattle.module_machines.specs.declared.port.{call.PinCall.TheVariants.{SetPinMode}, table.Pin.{Pin}}
pub use Rattle.module_machines.specs.declared.port.{table.PortTable.{PortTable}}
pub use Rattle.port_driver.specs.{declared.service.init.InitDone.{InitDone}}
pub use Rattle.port_driver.specs.{declared.service.init.Setup.{Setup}, declared.service.pin.PinBody.{PinBody}}
pub use Rattle.port_driver.specs.{declared.service.pin.PinBody.TheVariants.{Direction, Mode}}
pub use Rattle.port_driver.specs.{declared.service.refresh.RefreshBody.{RefreshBody}}
pub use Rattle.port_driver.specs.{declared.words.TheConstants.{STATE}, declared.writes.Side.{Side}}
pub use Rattle.port_driver.specs.{declared.writes.Side.TheVariants.{Directions, Fixed, Levels}}
unfoldable pub use Rattle.module_machines.specs.port.Bounds.{latch_duties}
unfoldable pub use Rattle.port_driver.specs.Writes.{counted, with_rank}
