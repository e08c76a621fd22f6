-- The vocabulary of this crate's laws: what its law files take from elsewhere.
pub use Rattle.std.proofs.Common.{ap, arith, Bool, false, get_or-set_other, get_or-set_same, is_some, IsSome, length}
pub use Rattle.std.proofs.Common.{List, nat_le, nat_lt, None, not, Option, refl, slice_index, slice_index_or, Some}
pub use Rattle.std.proofs.Common.{subst, sym, true, ℕ}
pub use Rattle.std.proofs.lemmas.Bool.{and_parts, not-false}
pub use Rattle.std.proofs.lemmas.Bool.Decides.{nat_tests}
pub use Rattle.mcal_base.specs.facts.{Numbers.{eq_isnt, isnt_zero}, Options.{some_same}, Truths.{and_first, if_false}}
pub use Rattle.mcal_base.specs.facts.{Truths.{if_true}}
pub use Rattle.mcal_base.specs.{Bits.{bit_of}, declared.answer.Answer.{Answer}}
pub use Rattle.mcal_base.specs.{declared.answer_name.AnswerName.{AnswerName}}
pub use Rattle.mcal_base.specs.{declared.answer_name.AnswerName.TheVariants.{ENotOk, EOk, McuPllLocked, McuPllUnlocked}}
pub use Rattle.mcal_base.specs.{declared.answer_name.AnswerName.TheVariants.{McuPowerOnReset, McuSwReset}}
pub use Rattle.mcal_base.specs.{declared.answer_name.AnswerName.TheVariants.{McuWatchdogReset}}
pub use Rattle.mcal_base.specs.{declared.directive.Order.{Order}, declared.directive.Order.TheVariants.{Level, Tick}}
pub use Rattle.mcal_base.specs.{declared.directive.Reason.TheVariants.{PowerOn, Software, Watchdog}}
pub use Rattle.mcal_base.specs.{declared.error_name.ErrorName.{ErrorName}}
pub use Rattle.mcal_base.specs.{declared.error_name.ErrorName.TheVariants.{McuPllNotLocked}}
pub use Rattle.mcal_base.specs.{declared.layout.TheConstants.{SOURCES}}
pub use Rattle.mcal_base.specs.{declared.module_name.ModuleName.TheVariants.{Mcu}, declared.moves.Event.{Event}}
pub use Rattle.mcal_base.specs.{declared.moves.Event.TheVariants.{Act}, declared.moves.Move.{Move}}
pub use Rattle.mcal_base.specs.{declared.moves.Move.TheVariants.{Load, Read, Store, Write}, declared.register.Reg.{Reg}}
pub use Rattle.mcal_base.specs.{declared.register.Reg.TheVariants.{CaptureCountHigh, CaptureCountLow, CaptureTimeHigh}}
pub use Rattle.mcal_base.specs.{declared.register.Reg.TheVariants.{CaptureTimeLow, ClockLock, ClockPll, ClockRate}}
pub use Rattle.mcal_base.specs.{declared.register.Reg.TheVariants.{ConverterAbort, EnableClear, EnableSet, PinFlip}}
pub use Rattle.mcal_base.specs.{declared.register.Reg.TheVariants.{PulseCommit, PulseIdle, Ram, ResetReason}}
pub use Rattle.mcal_base.specs.{declared.register.Reg.TheVariants.{ResetRequest, TimerHigh, TimerLow}}
pub use Rattle.mcal_base.specs.There.{names_there}
pub use Rattle.mcal_base.specs.laws.There.{move_there}
pub use Rattle.mcal_base.proofs.RowLaws.{none_holds}
pub use Rattle.mcal_base.specs.det_errors.Rows.{errors_of, first_error}
pub use Rattle.chip_blocks.specs.units.Clock.{Clock as ClockBlock, is_locked as locked_in, is_locked_at, number_of, ticked}
pub use Rattle.chip_model.proofs.{HistoryLaws.{clock-left, level_leaves, ram-reset}, WholeLaws.{all-step}}
pub use Rattle.chip_model.proofs.{WordLaws.{slice_index-blank}}
pub use Rattle.chip_model.specs.{Chip.{after_read, Chip, chip_after, happened, is_masked, register_of, reset_chip}}
pub use Rattle.chip_model.specs.{Chip.{value_of, word_of}, Histories.{Hardware, HasAll, Made, sets_rate, WasReset}}
pub use Rattle.run_model.specs.{Causes.{blocks}, Frame.{asks_reset, begins_word, Called, is_reset_service, is_shared}}
pub use Rattle.run_model.specs.{Frame.{missed_after, Open, Origin, owing, resets_chip}, Legal.{SendsRight}}
pub use Rattle.run_model.specs.{Machine.{Acts, ErrorLeaves, no_answer, Outcome, outcome, tells_nothing}, World.{World}}
pub use Rattle.run_model.specs.{World.{world_after}}
pub use Rattle.step_runner.proofs.Whose.{not-unless}
pub use Rattle.step_runner.specs.Whose.{is_of, KeepsTo, module_of_register, module_of_word, NamesOthers, NamesWithin}
pub use Rattle.step_runner.specs.Whose.{only, WritesOthers, WritesWithin}
pub use Rattle.run_model.specs.{Machine.{answers, named}}
pub use Rattle.service_outline.specs.{Acts.{Cleans}, Both.{both}, Done.{ends, goes, owed_error}}
pub use Rattle.run_model.specs.{Machine.{tells_error}}
pub use Rattle.service_outline.specs.{FrameHistory.{FrameHistory, fresh_history, Is_this_frame}}
pub use Rattle.service_outline.specs.{FrameHistory.{IsThisFrame}, Fuel.{Shortens, ShortensTo}, Services.{Agreed}}
pub use Rattle.service_outline.specs.{Services.{AllLet, AreLong, AreServices, AssertedAt, Beside, Decides, IsBasis}}
pub use Rattle.service_outline.specs.{Services.{KeepsMask, LongBodies, mark_of, MayCome, place_at, PointAssertion}}
pub use Rattle.service_outline.specs.{Services.{ReservedBy, Right, Services, services_driver, TurnsTo, Within, Works}}
pub use Rattle.service_outline.specs.{SweepServices.{sweep, Sweeping}, WindowHistory.{is_windowed}}
pub use Rattle.service_outline.specs.{WindowHistory.{Plain}, declared.body.Looked.{Looked}}
pub use Rattle.service_outline.specs.{declared.body.Looked.TheVariants.{Goes, Refused}, declared.body.Or.{Or}}
pub use Rattle.service_outline.specs.{declared.body.Or.TheVariants.{First, Second}, declared.done.BodyTaken.{BodyTaken}}
pub use Rattle.service_outline.specs.{declared.done.Done.{Done}, declared.done.Epilogue.{Epilogue}}
pub use Rattle.service_outline.specs.{declared.done.Epilogue.TheVariants.{Nothing}, declared.short.Short.{Short}}
pub use Rattle.service_outline.specs.{declared.short.Short.TheVariants.{Calling, Entering, Inside, Loading, Opening}}
pub use Rattle.service_outline.specs.{declared.short.Short.TheVariants.{Returning, Telling}}
pub use Rattle.service_outline.specs.{declared.sweep.SweepStage.TheVariants.{Opens}, declared.sweep.Sweep.{Sweep}}
pub use Rattle.service_outline.specs.laws.{Acts.{never_clean}, Both.{both_right}, Duties.{no_duties, no_units}}
pub use Rattle.service_outline.specs.laws.{Reports.{error_told}, Seen.{free_windows}, ShortServices.{plain_makes}}
pub use Rattle.service_outline.specs.laws.{ShortServices.{plain_turns}, StepKinds.{or_true}, SweepRight.{sweep_right}}
pub use Rattle.service_outline.specs.laws.Words.{fills_there, stored_other, stored_same}
pub use Rattle.service_outline.specs.laws.{Words.{stores_in, word_apart, word_later}}
pub use Rattle.module_machines.specs.mcu.{Classes.{class_of}}
pub use Rattle.module_machines.specs.mcu.Bounds.{call_steps, is_own_word, is_register, may, mcu_setting, owns}
pub use Rattle.module_machines.specs.mcu.{Checks.{answer_refused, error_by, facts_by, reporting, service_of}}
pub use Rattle.module_machines.specs.mcu.Bounds.{size_of}
pub use Rattle.module_machines.specs.mcu.{Machine.{acts_by, after_reset, clocked, distributed, filled, fills_with, happens}}
pub use Rattle.module_machines.specs.mcu.{Machine.{is_locked, mcu_machine, McuState, Pll, ram_at, reason_name, status_name}}
pub use Rattle.module_machines.specs.mcu.{Machine.{word_in, work}}
pub use Rattle.mcu_driver.specs.{Refinement.{AllRight, clock_of, done_by, is_done, IsSlowPll}}
pub use Rattle.mcu_driver.specs.{Refinement.{mcu_basis, McuRepresents, Part, pll_of, Reservations, state_word, want}}
pub use Rattle.module_machines.specs.mcu.{Table.{FitsMcu, is_within, multiplier_of, section_of}}
pub use Rattle.mcu_driver.specs.{declared.asked.Asked.{Asked}}
pub use Rattle.module_machines.specs.declared.mcu.{call.Call.{Call}, call.Call.TheVariants.{Clock, GetPllStatus}}
pub use Rattle.module_machines.specs.declared.mcu.{call.Call.TheVariants.{GetResetReason, Init, InitRamSection, PerformReset}}
pub use Rattle.module_machines.specs.declared.mcu.{call.Call.TheVariants.{SetMode}}
pub use Rattle.module_machines.specs.declared.mcu.{call.ClockCall.TheVariants.{DistributePllClock, InitClock}}
pub use Rattle.module_machines.specs.declared.mcu.{table.McuTable.{McuTable}, table.Section.{Section}}
pub use Rattle.mcu_driver.specs.{declared.service.clock.ClockBody.{ClockBody}}
pub use Rattle.mcu_driver.specs.{declared.service.clock.ClockBody.TheVariants.{Look, Start, Take}}
pub use Rattle.mcu_driver.specs.{declared.service.fill.Fill.{Fill}, declared.service.fill.FilledBody.{FilledBody}}
pub use Rattle.mcu_driver.specs.{declared.service.query.QueryBody.{QueryBody}}
pub use Rattle.mcu_driver.specs.{declared.service.query.QueryBody.TheVariants.{Reason, Status}}
pub use Rattle.mcu_driver.specs.{declared.service.reset.ResetBody.{ResetBody}}
pub use Rattle.mcu_driver.specs.{declared.service.reset.ResetBody.TheVariants.{Reset}}
pub use Rattle.mcu_driver.specs.{declared.service.state.StateBody.{StateBody}}
pub use Rattle.mcu_driver.specs.{declared.service.state.StateBody.TheVariants.{Initialise, Keep}}
pub use Rattle.mcu_driver.specs.{declared.words.TheConstants.{MODE, STATE}}
