-- The vocabulary of this crate's laws: what its law files take from elsewhere.
pub use Rattle.std.proofs.Common.{ap, arith, Bool, cond, false, inl, inr, is_some, IsSome, length, length-set, List}
pub use Rattle.std.proofs.Common.{nat_lt, None, not, Option, refl, slice_index_or, Some, subst, suc, sym, true, zero, ℕ}
pub use Rattle.std.proofs.Math.Nat.{mod-le, mod-lt}
pub use Rattle.std.proofs.lemmas.Bool.{and_parts, not-false}
pub use Rattle.std.proofs.lemmas.Bool.Decides.{nat_tests}
pub use Rattle.std.specs.List.{list_any}
pub use Rattle.mcal_base.specs.facts.{Numbers.{eq_other, eq_self, positive}, Options.{some_same}, Truths.{and_first}}
pub use Rattle.mcal_base.specs.facts.{Truths.{clear_apart, set_apart}}
pub use Rattle.mcal_base.proofs.BitLaws.{bits_of-lt, has_bit-above, has_bit-bits_of, has_bit-or, has_bit-without}
pub use Rattle.mcal_base.proofs.BitLaws.{has_bit-zero}
pub use Rattle.mcal_base.specs.{Bits.{bit_of, has_bit, without}, declared.TheConstants.{WORDS}}
pub use Rattle.mcal_base.specs.{declared.directive.Order.{Order}, declared.directive.Order.TheVariants.{Level, Tick}}
pub use Rattle.mcal_base.specs.{declared.directive.Reason.{Reason}, declared.directive.Reason.TheVariants.{PowerOn}}
pub use Rattle.mcal_base.specs.{declared.error_name.ErrorName.{ErrorName}, declared.layout.TheConstants.{SOURCES}}
pub use Rattle.mcal_base.specs.{declared.module_name.ModuleName.TheVariants.{Pwm}}
pub use Rattle.mcal_base.specs.{declared.moves.Event.TheVariants.{Act, Serve}, declared.moves.Move.{Move}}
pub use Rattle.mcal_base.specs.{declared.moves.Move.TheVariants.{Load, Load as Loads, Read, Store as Stores, Store}}
pub use Rattle.mcal_base.specs.{declared.moves.Move.TheVariants.{Write}}
pub use Rattle.mcal_base.specs.{declared.notice.NoticeKind.TheVariants.{PwmNotification}, declared.register.Reg.{Reg}}
pub use Rattle.mcal_base.specs.{declared.register.Reg.TheVariants.{CaptureCountLow, CaptureTimeLow, ClockPll}}
pub use Rattle.mcal_base.specs.{declared.register.Reg.TheVariants.{ClockRate, ConverterAbort, EnableClear, EnableSet}}
pub use Rattle.mcal_base.specs.{declared.register.Reg.TheVariants.{PinFlip, PulseCommit, PulseDuty, PulseEdges}}
pub use Rattle.mcal_base.specs.{declared.register.Reg.TheVariants.{PulseFlags, PulseIdle, PulseOut, PulsePeriod}}
pub use Rattle.mcal_base.specs.{declared.register.Reg.TheVariants.{PulsePolarity, ResetRequest, SerialData, TimerLow}}
pub use Rattle.mcal_base.specs.There.{names_there}
pub use Rattle.mcal_base.specs.laws.There.{move_there}
pub use Rattle.mcal_base.proofs.RowLaws.{none_holds}
pub use Rattle.mcal_base.specs.det_errors.Rows.{errors_of}
pub use Rattle.chip_blocks.proofs.of_pulses.FlagLaws.{Begun, changes-output, output-changes}
pub use Rattle.chip_blocks.proofs.of_pulses.PulseLaws.{has_channel-cleared, pulse_at-cleared, pulse_at-other, pulse_at-same}
pub use Rattle.chip_blocks.specs.pulses.{Accesses.{HasChannel}, Pulses.{after_write, changed_between, cleared, commit_over}}
pub use Rattle.chip_blocks.specs.pulses.{Pulses.{committed, flags_of, flags_to, is_flagged, output_level, Pulses}}
pub use Rattle.chip_blocks.specs.pulses.{Pulses.{pulses_fresh}, Regime.{next_of, period_begin, regime_at, turn_of, turns_to}}
pub use Rattle.chip_blocks.specs.declared.pulses.{regime.Wave.{Wave}}
pub use Rattle.chip_model.proofs.{HistoryLaws.{level_leaves, rate-left}, PinLaws.{line-pulse}}
pub use Rattle.chip_model.proofs.{WordLaws.{slice_index-blank}}
pub use Rattle.chip_model.specs.{Chip.{after_read, Chip, chip_after, happened, is_masked, is_pending, reset_chip}}
pub use Rattle.chip_model.specs.{Chip.{value_of, word_of}, Histories.{sets_rate}}
pub use Rattle.run_model.proofs.OutsideLaws.{stands-event, stands-move, stands-reset}
pub use Rattle.run_model.specs.{Causes.{blocks}, Frame.{begins_word, Called, committed_after, Entered}}
pub use Rattle.run_model.specs.{Frame.{is_reset_service, is_shared, missed_after, Open, Origin, resets_chip, time_or}}
pub use Rattle.run_model.specs.{Frame.{writes_after}, Legal.{AllMade, MadeUnless}, Machine.{Acts, ErrorLeaves}}
pub use Rattle.run_model.specs.{Machine.{no_answer, Outcome, outcome, tells_nothing, Told}, Outside.{StandsIn}}
pub use Rattle.run_model.specs.{World.{with_at, World, world_after}}
pub use Rattle.step_runner.proofs.Whose.{not-unless}
pub use Rattle.step_runner.specs.{Driver.{IsLawful}, Whose.{EnablesOthers, EnablesWithin, is_of, KeepsTo}}
pub use Rattle.step_runner.specs.{Whose.{module_of_line, module_of_register, module_of_word, NamesOthers, NamesWithin}}
pub use Rattle.step_runner.specs.{Whose.{WritesOthers, WritesWithin}}
pub use Rattle.run_model.specs.{Machine.{answers, tells_error}}
pub use Rattle.service_outline.specs.{Done.{acts, ends, goes, owed_error}}
pub use Rattle.service_outline.specs.{FrameHistory.{FrameHistory, fresh_history, Is_this_frame, IsThisFrame}}
pub use Rattle.service_outline.specs.{Fuel.{Shortens}, Outline.{After, AreRight, Before, Bodies, Is_after, Is_before}}
pub use Rattle.service_outline.specs.{Outline.{Is_serving, RightAt, Serving, StepsTo}, Services.{AllLet, AreLong}}
pub use Rattle.service_outline.specs.{Services.{AreServices, AssertedAt, Beside, CanBegin, Decides, entering}}
pub use Rattle.service_outline.specs.{Services.{is_closed, IsBasis, LongBodies, MakesTo, MakesWrites, mark_of, MayCome}}
pub use Rattle.service_outline.specs.{Services.{over, place_at, PointAssertion, Right, Services, services_driver}}
pub use Rattle.service_outline.specs.{Services.{Steady, TurnsMask, TurnsTo, with_holds, Within, WritesOn}}
pub use Rattle.service_outline.specs.{Short.{short_gave, short_left, short_move}, ShortServices.{above, AsksNone}}
pub use Rattle.service_outline.specs.{ShortServices.{short}, Sweep.{place_of}, SweepServices.{sweep, Sweeping}}
pub use Rattle.service_outline.specs.WindowHistory.{Acted, Acting, is_windowed, Plain, Sees}
pub use Rattle.service_outline.specs.{WindowHistory.{SeesTo, Starts, WindowHistory}, declared.body.Looked.{Looked}}
pub use Rattle.service_outline.specs.{declared.body.Looked.TheVariants.{Goes, Refused}, declared.body.Or.{Or}}
pub use Rattle.service_outline.specs.{declared.body.Or.TheVariants.{First, Second}, declared.done.BodyTaken.{BodyTaken}}
pub use Rattle.service_outline.specs.{declared.done.Done.{Done}, declared.done.Epilogue.TheVariants.{Nothing, One}}
pub use Rattle.service_outline.specs.{declared.short.Short.{Short}, declared.sweep.SweepStage.{SweepStage}}
pub use Rattle.service_outline.specs.{declared.sweep.SweepStage.TheVariants.{At, Closes, Follows, Opens}}
pub use Rattle.service_outline.specs.{declared.sweep.Sweep.{Sweep}}
pub use Rattle.service_outline.specs.laws.{Acts.{never_clean}, Both.{both_right}, Duties.{made_here, made_on, no_units}}
pub use Rattle.service_outline.specs.laws.{Duties.{none_on, none_unless}, Lawful.{services_lawful}}
pub use Rattle.service_outline.specs.laws.{Reports.{error_told}, Seen.{begun_after, plain_sees, sees_if}}
pub use Rattle.service_outline.specs.laws.{ShortServices.{plain_makes, plain_turns, short_right}, StepKinds.{asks_no}}
pub use Rattle.service_outline.specs.laws.{StepKinds.{or_true}, SweepWords.{each_but}, SweepRight.{sweep_right}}
pub use Rattle.service_outline.specs.laws.Words.{fills_there, stored_other, stored_same}
pub use Rattle.service_outline.specs.laws.{Words.{stores_in, word_apart, word_later}}
pub use Rattle.module_machines.specs.pwm.{Classes.{class_of}}
pub use Rattle.module_machines.specs.pwm.Bounds.{commits_at, duty_of, idles_at, is_for_lines, is_own_word, is_pulse}
pub use Rattle.module_machines.specs.pwm.Bounds.{may_name, may_write, must_by, pwm_may, pwm_setting, steps_of}
pub use Rattle.module_machines.specs.pwm.{Checks.{answer_refused, error_by, facts_by, has_notification, level_answer, reporting}}
pub use Rattle.module_machines.specs.pwm.{Checks.{service_of}, Machine.{acts_by, channel_work, ended, first_state, forgotten}}
pub use Rattle.module_machines.specs.pwm.{Machine.{happens, is_marked_by, is_notified, level_at, notes, Pulse, pulse_at}}
pub use Rattle.module_machines.specs.pwm.{Machine.{put_out, pwm_machine, PwmState, ready, ready_by, served, set_to, silent}}
pub use Rattle.module_machines.specs.pwm.{Machine.{started, switched, table, with_pulse, work}, Output.{absolute, GivesWay}}
pub use Rattle.module_machines.specs.pwm.{Output.{Idle, level_of, Output, period_end, Regime, regime_level, Runs, standing}}
pub use Rattle.module_machines.specs.pwm.{Output.{succeeded, turns, turns_between, turns_within, with_new}}
pub use Rattle.module_machines.specs.pwm.{Units.{chosen, IsBegun}}
pub use Rattle.pwm_driver.specs.{Refinement.{AllRight, AllSetUp, behind, duty_in, falls, has_lines}}
pub use Rattle.pwm_driver.specs.{Refinement.{IsQuiet, IsSetUp, KindAgrees, Lag, LinesAgree, MarkAgrees, MarksAgree}}
pub use Rattle.module_machines.specs.pwm.{Units.{output_in}}
pub use Rattle.pwm_driver.specs.{Refinement.{none, only, owns_written, Part, period_in, pwm_basis, pwm_owns}}
pub use Rattle.module_machines.specs.pwm.{Units.{regime_in}}
pub use Rattle.pwm_driver.specs.{Refinement.{PwmRepresents, Reservations, rises, settled, state_word}}
pub use Rattle.module_machines.specs.pwm.{Runs.{TurnsBetween}, Table.{channel_number}}
pub use Rattle.pwm_driver.specs.{Refinement.{UnitAgrees, UnitsAgree}}
pub use Rattle.module_machines.specs.pwm.{Table.{channel_of, channel_of_line, FitsPwm, polarity_of}}
pub use Rattle.pwm_driver.specs.{Words.{both, kinds, level}}
pub use Rattle.pwm_driver.specs.{Words.{period_word, stands, with_kinds}, declared.asked.Asked.{Asked}}
pub use Rattle.module_machines.specs.declared.pwm.{call.Call.{Call}, call.Call.TheVariants.{DeInit, GetOutputState}}
pub use Rattle.module_machines.specs.declared.pwm.{call.Call.TheVariants.{Init}, call.ChannelCall.{ChannelCall}}
pub use Rattle.module_machines.specs.declared.pwm.{call.ChannelCall.TheVariants.{DisableNotification, EnableNotification}}
pub use Rattle.module_machines.specs.declared.pwm.{call.ChannelCall.TheVariants.{SetDutyCycle, SetOutputToIdle}}
pub use Rattle.module_machines.specs.declared.pwm.{call.ChannelCall.TheVariants.{SetPeriodAndDuty}}
pub use Rattle.module_machines.specs.declared.pwm.{call.PwmEdge.{PwmEdge}, call.PwmEdge.TheVariants.{Both, Falling}}
pub use Rattle.module_machines.specs.declared.pwm.{call.PwmEdge.TheVariants.{Rising}, table.Channel.{Channel}}
pub use Rattle.module_machines.specs.declared.pwm.{table.PwmTable.{PwmTable}}
pub use Rattle.pwm_driver.specs.{declared.service.deinit.DeInitBody.{DeInitBody}}
pub use Rattle.pwm_driver.specs.{declared.service.deinit.DeInitBody.TheVariants.{Disable}}
pub use Rattle.pwm_driver.specs.{declared.service.init.InitBody.{InitBody}}
pub use Rattle.pwm_driver.specs.{declared.service.init.InitBody.TheVariants.{Commit, Enable}}
pub use Rattle.pwm_driver.specs.{declared.service.init.Setup.{Setup}, declared.service.notify.NotifyBody.{NotifyBody}}
pub use Rattle.pwm_driver.specs.{declared.service.notify.NotifyBody.TheVariants.{Choose, Clear, Drop, Find}}
pub use Rattle.pwm_driver.specs.{declared.service.output.OutputBody.{OutputBody}}
pub use Rattle.pwm_driver.specs.{declared.service.output.OutputBody.TheVariants.{Duty, Keep, Period, Polarity}}
pub use Rattle.pwm_driver.specs.{declared.service.output.Want.{Want}, declared.service.rest.RestBody.{RestBody}}
pub use Rattle.pwm_driver.specs.{declared.service.rest.RestBody.TheVariants.{Ask, Rest}}
pub use Rattle.pwm_driver.specs.{declared.service.serve.ServeBody.{ServeBody}}
pub use Rattle.pwm_driver.specs.{declared.service.serve.ServeBody.TheVariants.{Kinds}}
pub use Rattle.pwm_driver.specs.{declared.words.TheConstants.{KINDS, LINES, STATE}}
unfoldable pub use Rattle.module_machines.specs.pwm.Bounds.{duties}
pub use Rattle.module_machines.specs.pwm.laws.Channels.{by_eight, channel_other}
pub use Rattle.pwm_driver.specs.laws.Parts.{below_test, both_falling, both_other, both_rising}
pub use Rattle.module_machines.specs.pwm.laws.Channels.{channel_same, known_within}
pub use Rattle.pwm_driver.specs.laws.Parts.{has_one, has_other, Is_own, not_it, not_low}
pub use Rattle.module_machines.specs.pwm.laws.Channels.{some_is, table_at, within as within_eight, within}
pub use Rattle.pwm_driver.specs.laws.Parts.{Own, past_it}
