-- The vocabulary of this crate's laws: what its law files take from elsewhere.
pub use Rattle.std.proofs.Common.{ap, arith, Bool, cond, drop, false, get_or-set_other, get_or-set_same, is_some}
pub use Rattle.std.proofs.Common.{length, length-append, length-set, List, map, nat_lt, None, not, Option, refl}
pub use Rattle.std.proofs.Common.{slice_index_or, Some, subst, suc, sym, true, ℕ}
pub use Rattle.std.proofs.Math.Nat.{mod-eq_of_lt, mod-lt, mod_self, suc-mod}
pub use Rattle.std.proofs.lemmas.Bool.{and_parts, not-false, not-true, or_right}
pub use Rattle.std.proofs.lemmas.Bool.Decides.{nat_tests}
pub use Rattle.std.proofs.lemmas.List.{append_assoc, get_or-map}
pub use Rattle.std.proofs.lemmas.List.Elements.{filter_map-append}
pub use Rattle.std.specs.List.{AllByRecursion, cons_option, enumerate_from, filter_map}
pub use Rattle.std.specs.Option.{option_map, option_or}
pub use Rattle.mcal_base.specs.facts.Numbers.{eq_is, eq_isnt, eq_other, eq_self, lt_from, lt_itself, lt_since, lt_zero}
pub use Rattle.mcal_base.specs.facts.Truths.{and_false, and_first, and_true, off_on, or_true}
pub use Rattle.mcal_base.proofs.BitLaws.{get_or-at_bits, has_bit-or, has_bit-pow_other, has_bit-pow_same}
pub use Rattle.mcal_base.proofs.BitLaws.{has_bit-without, length-at_bits}
pub use Rattle.mcal_base.specs.{Bits.{bit_of, has_bit}, Layout.{place_of}, declared.TheConstants.{WORDS}}
pub use Rattle.mcal_base.specs.{declared.config.icu.IcuMeasurementMode.{IcuMeasurementMode}}
pub use Rattle.mcal_base.specs.{declared.config.icu.IcuMeasurementMode.TheVariants.{EdgeCounter, SignalEdgeDetect}}
pub use Rattle.mcal_base.specs.{declared.config.icu.IcuMeasurementMode.TheVariants.{SignalMeasurement, Timestamp}}
pub use Rattle.mcal_base.specs.{declared.config.icu.IcuSignalMeasurementProperty.{IcuSignalMeasurementProperty}}
pub use Rattle.mcal_base.specs.{declared.config.icu.IcuSignalMeasurementProperty.TheVariants.{DutyCycle, HighTime}}
pub use Rattle.mcal_base.specs.{declared.config.icu.IcuSignalMeasurementProperty.TheVariants.{LowTime, PeriodTime}}
pub use Rattle.mcal_base.specs.{declared.config.icu.IcuStartEdge.{IcuStartEdge}}
pub use Rattle.mcal_base.specs.{declared.config.icu.IcuStartEdge.TheVariants.{Both, Falling, Rising}}
pub use Rattle.mcal_base.specs.{declared.directive.Order.{Order}, declared.directive.Order.TheVariants.{Fill, Level}}
pub use Rattle.mcal_base.specs.{declared.error_name.ErrorName.{ErrorName}}
pub use Rattle.mcal_base.specs.{declared.error_name.ErrorName.TheVariants.{IcuNotStarted}}
pub use Rattle.mcal_base.specs.{declared.layout.Array.TheVariants.{Stamps}}
pub use Rattle.mcal_base.specs.{declared.module_name.ModuleName.TheVariants.{Icu}, declared.moves.DevError.{DevError}}
pub use Rattle.mcal_base.specs.{declared.moves.Move.{Move}, declared.moves.Move.TheVariants.{Load, Read, Store}}
pub use Rattle.mcal_base.specs.{declared.moves.Move.TheVariants.{Store as Stores, Write}}
pub use Rattle.mcal_base.specs.{declared.notice.Notice.{Notice}, declared.notice.NoticeKind.{NoticeKind}}
pub use Rattle.mcal_base.specs.{declared.notice.NoticeKind.TheVariants.{IcuSignalNotification}}
pub use Rattle.mcal_base.specs.{declared.notice.NoticeKind.TheVariants.{IcuTimestampNotification}}
pub use Rattle.mcal_base.specs.{declared.register.Reg.{Reg}, declared.register.Reg.TheVariants.{CaptureCondition}}
pub use Rattle.mcal_base.specs.{declared.register.Reg.TheVariants.{CaptureCountHigh, CaptureCountLow, CaptureFlush}}
pub use Rattle.mcal_base.specs.{declared.register.Reg.TheVariants.{CaptureGateClear, CaptureGateSet, CaptureInfo}}
pub use Rattle.mcal_base.specs.{declared.register.Reg.TheVariants.{CaptureMode, CapturePop, CaptureTimeHigh}}
pub use Rattle.mcal_base.specs.{declared.register.Reg.TheVariants.{CaptureTimeLow, CaptureZero, EnableClear, EnableSet}}
pub use Rattle.mcal_base.specs.There.{names_there}
unfoldable pub use Rattle.mcal_base.specs.Bits.{at_bits}
pub use Rattle.mcal_base.proofs.RowLaws.{last_at, none_holds}
pub use Rattle.mcal_base.specs.det_errors.Rows.{errors_of}
pub use Rattle.chip_blocks.specs.captures.{Captures.{acted, acting, capture_at as chip_capture, Captures, channels_at, closed}}
pub use Rattle.chip_blocks.specs.captures.{Captures.{flushed, info_of, oldest_time, popped, with_capture as chip_with}}
pub use Rattle.chip_blocks.specs.{captures.Captures.{with_condition, with_mode, zeroed}, declared.captures.capture.Act.{Act as Turn}}
pub use Rattle.chip_blocks.specs.declared.captures.{capture.Act.{Act}, capture.Act.TheVariants.{Catch}}
pub use Rattle.chip_model.proofs.HistoryLaws.{level_leaves}
pub use Rattle.chip_model.specs.Chip.{Chip, chip_after, happened, word_of}
pub use Rattle.run_model.proofs.OutsideLaws.{stands-move}
pub use Rattle.run_model.specs.{Frame.{Called, Entered, missed_after, Open, Origin}, Machine.{Acts, outcome, Serves}}
pub use Rattle.run_model.specs.{Machine.{tells_nothing, Told}, Outside.{StandsIn}, World.{World}}
pub use Rattle.step_runner.proofs.Whose.{not-unless}
pub use Rattle.step_runner.specs.Whose.{EnablesOthers, EnablesWithin, is_of, KeepsTo, module_of_line}
pub use Rattle.step_runner.specs.Whose.{module_of_register, module_of_word, NamesOthers, NamesWithin, WritesOthers}
pub use Rattle.step_runner.specs.Whose.{WritesWithin}
pub use Rattle.run_model.specs.{Machine.{answers}}
pub use Rattle.service_outline.specs.{Acts.{Cleans, KeepsClean, StandsLow}, Both.{either}, Done.{goes}}
pub use Rattle.run_model.specs.{Machine.{numbers, tells_error}}
pub use Rattle.service_outline.specs.{Done.{owed_error}, Either.{either_takes, either_work}}
pub use Rattle.service_outline.specs.{Fuel.{Shortens}, Outline.{After, AreRight, At, Before, Bodies, CanEnter}}
pub use Rattle.service_outline.specs.{Outline.{error_in, Is_after, Is_before, Is_served, Is_serving, IsOutlined}}
pub use Rattle.service_outline.specs.{Outline.{LooksRight, notices_in, Outlined, owes_nothing, RightAt, Served}}
pub use Rattle.service_outline.specs.{Outline.{Serving, StepsTo, TellsAs}, Services.{entering}}
pub use Rattle.service_outline.specs.{ShortServices.{driver_of}, WindowHistory.{HasRead}}
pub use Rattle.service_outline.specs.{WindowHistory.{is_windowed, Plain, SeesTo, Starts, WindowHistory}}
pub use Rattle.service_outline.specs.{declared.body.Looked.{Looked}, declared.body.Looked.TheVariants.{Goes, Refused}}
pub use Rattle.service_outline.specs.{declared.body.Or.{Or}, declared.body.Or.TheVariants.{First, Second}}
pub use Rattle.service_outline.specs.{declared.done.BodyTaken.{BodyTaken}, declared.done.Done.{Done}}
pub use Rattle.service_outline.specs.{declared.done.Epilogue.{Epilogue}, declared.short.Short.{Short}}
pub use Rattle.service_outline.specs.laws.{Acts.{never_clean}, Either.{either_right}, Reports.{error_told}}
pub use Rattle.service_outline.specs.laws.{Seen.{never_after, never_serving, plain_sees, sees_if}, SweepWords.{each_but}}
pub use Rattle.service_outline.specs.laws.{Words.{stored_other, stored_same, word_later}}
pub use Rattle.module_machines.specs.icu.Bounds.{channel_count, counted, halves, icu_may, is_capture, is_for_lines}
pub use Rattle.module_machines.specs.icu.{Shown.{size_by, size_of}}
pub use Rattle.module_machines.specs.icu.Bounds.{is_own_word, is_stamp, may_name, may_write, steps_of}
pub use Rattle.module_machines.specs.icu.{Checks.{allows, answer_refused, channel_service, error_by, facts_by, has_notification}}
pub use Rattle.module_machines.specs.icu.{Checks.{input_answer, reporting, service_of, suits}, Edges.{beginning_at}}
pub use Rattle.module_machines.specs.icu.{Edges.{begins_rising, Edge, ends_rising, is_same, measures as measured_edges}}
pub use Rattle.module_machines.specs.icu.{Edges.{measures, newest, up_to, value_of, values, values_by}, Machine.{acts_by, asked}}
pub use Rattle.module_machines.specs.icu.{Machine.{by_channel, Capture, capture_at, channel_answer, channel_work, cleared}}
pub use Rattle.module_machines.specs.icu.{Machine.{cleared_all, completes, edge_at_pin, edge_queued, edge_taken, handed}}
pub use Rattle.module_machines.specs.icu.{Machine.{happens, icu_machine, IcuState, index, index_by, is_full, is_notified, is_on}}
pub use Rattle.module_machines.specs.icu.{Machine.{is_taken, kinds_by, moved, notices_of, ready, ready_by, served, served_by}}
pub use Rattle.module_machines.specs.icu.{Machine.{served_edge, stamp_in, Start, started, switched, value_or, waits}}
pub use Rattle.module_machines.specs.icu.{Machine.{with_capture}}
pub use Rattle.icu_driver.specs.{Refinement.{ActiveIs, all_are, Alternate, bare, bare_block}}
pub use Rattle.icu_driver.specs.{Refinement.{behind, CaptureAgrees, ChannelWords, ChoosesAs, chosen, condition_by}}
pub use Rattle.icu_driver.specs.{Refinement.{counts_edges, emptying, EndsAt, first_of, FitsIcu, half_told, has_lines}}
pub use Rattle.icu_driver.specs.{Refinement.{HasPlace, HasTurns, icu_ground, icu_owns, IcuRepresents, interval_by}}
pub use Rattle.icu_driver.specs.{Refinement.{Is_fresh, Is_on, Is_stopped, IsClean, IsCourse, IsStart, kept, Lag}}
pub use Rattle.icu_driver.specs.{Refinement.{left_by, marks_of, MeasureHistory, MeasureWords, mode_by, ModeWords, none}}
pub use Rattle.icu_driver.specs.{Refinement.{Nothing_seen, only, opening, opposed, Opposite_seen, OppositeIs}}
pub use Rattle.icu_driver.specs.{Refinement.{owns_written, seen_by, seen_from, seen_number, seen_with, settled}}
pub use Rattle.icu_driver.specs.{Refinement.{size_word, Stamped, stamps_edges, StampWords, Start_seen, StartIs}}
pub use Rattle.icu_driver.specs.{Refinement.{starts_at, state_word, measures_told, told_with, unbroken, ValueIs}}
pub use Rattle.module_machines.specs.icu.{Requests.{IsSmall}, Table.{channel_of}}
pub use Rattle.icu_driver.specs.{Refinement.{waiting_value, whole_told}}
pub use Rattle.module_machines.specs.icu.{Table.{channel_of_line, is_counter, is_detection, is_duty_cycle, is_linear}}
pub use Rattle.module_machines.specs.icu.{Table.{is_measurement, is_timestamp}}
pub use Rattle.icu_driver.specs.{Words.{bit, stamp_word, word}}
pub use Rattle.module_machines.specs.declared.icu.{call.Call.{Call}}
pub use Rattle.icu_driver.specs.{declared.asked.Asked.{Asked}}
pub use Rattle.module_machines.specs.declared.icu.{call.Call.TheVariants.{DeInit, Init}, call.ChannelCall.{ChannelCall}}
pub use Rattle.module_machines.specs.declared.icu.{call.ChannelCall.TheVariants.{DisableEdgeCount, DisableEdgeDetection}}
pub use Rattle.module_machines.specs.declared.icu.{call.ChannelCall.TheVariants.{DisableNotification, EnableEdgeCount}}
pub use Rattle.module_machines.specs.declared.icu.{call.ChannelCall.TheVariants.{EnableEdgeDetection, EnableNotification}}
pub use Rattle.module_machines.specs.declared.icu.{call.ChannelCall.TheVariants.{GetDutyCycleValues, GetEdgeNumbers}}
pub use Rattle.module_machines.specs.declared.icu.{call.ChannelCall.TheVariants.{GetInputState, GetTimeElapsed}}
pub use Rattle.module_machines.specs.declared.icu.{call.ChannelCall.TheVariants.{GetTimestampIndex, ResetEdgeCount}}
pub use Rattle.module_machines.specs.declared.icu.{call.ChannelCall.TheVariants.{SetActivationCondition, StartSignalMeasurement}}
pub use Rattle.module_machines.specs.declared.icu.{call.ChannelCall.TheVariants.{StartTimestamp, StopSignalMeasurement}}
pub use Rattle.module_machines.specs.declared.icu.{call.ChannelCall.TheVariants.{StopTimestamp}}
pub use Rattle.module_machines.specs.declared.icu.{table.Channel.{Channel}, table.IcuTable.{IcuTable}}
pub use Rattle.icu_driver.specs.{declared.service.change.ChangeBody.{ChangeBody}}
pub use Rattle.icu_driver.specs.{declared.service.change.ChangeBody.TheVariants.{Choose, Notify, Take}}
pub use Rattle.icu_driver.specs.{declared.service.count.CountBody.{CountBody}}
pub use Rattle.icu_driver.specs.{declared.service.deinit.DeInitBody.{DeInitBody}}
pub use Rattle.icu_driver.specs.{declared.service.deinit.DeInitBody.TheVariants.{Disable, Flush, Zero}}
pub use Rattle.icu_driver.specs.{declared.service.detect.DetectBody.{DetectBody}}
pub use Rattle.icu_driver.specs.{declared.service.duty.DutyBody.{DutyBody}}
pub use Rattle.icu_driver.specs.{declared.service.duty.DutyBody.TheVariants.{Period}}
pub use Rattle.icu_driver.specs.{declared.service.gate.GateBody.{GateBody}, declared.service.init.InitBody.{InitBody}}
pub use Rattle.icu_driver.specs.{declared.service.init.InitBody.TheVariants.{Condition, Enable, Mode}}
pub use Rattle.icu_driver.specs.{declared.service.keep.KeepBody.{KeepBody}}
pub use Rattle.icu_driver.specs.{declared.service.keep.KeepBody.TheVariants.{Close, Drop, Index, Interval, Left, Next}}
pub use Rattle.icu_driver.specs.{declared.service.keep.KeepBody.TheVariants.{Off, Rest, Size, Switch}}
pub use Rattle.icu_driver.specs.{declared.service.keep.Kept.{Kept}, declared.service.measure.MeasureBody.{MeasureBody}}
pub use Rattle.icu_driver.specs.{declared.service.measure.MeasureBody.TheVariants.{Hand, Unhand, Unsee}}
pub use Rattle.icu_driver.specs.{declared.service.sample.SampleBody.{SampleBody}}
pub use Rattle.icu_driver.specs.{declared.service.sample.SampleBody.TheVariants.{Active, High, Keep, Last, Look, Low}}
pub use Rattle.icu_driver.specs.{declared.service.sample.SampleBody.TheVariants.{Mark, Opposite, Pop, Seen, Value}}
pub use Rattle.icu_driver.specs.{declared.service.sample.SampleBody.TheVariants.{Waits}}
pub use Rattle.icu_driver.specs.{declared.service.sample.Sampled.{Sampled}}
pub use Rattle.icu_driver.specs.{declared.service.stamp.StampBody.{StampBody}}
pub use Rattle.icu_driver.specs.{declared.service.stamp.StampBody.TheVariants.{Ask, Empty, On, Started}}
pub use Rattle.icu_driver.specs.{declared.service.stamp.Stamping.{Stamping}, declared.words.TheConstants.{INTERVALS}}
pub use Rattle.icu_driver.specs.{declared.words.TheConstants.{MARKS, PLACES, SIZES, STATE, SWITCHES, TIMES, VALUES}}
pub use Rattle.icu_driver.specs.laws.{Fresh.{values_none}, Parts.{caught-bare}}
pub use Rattle.icu_driver.specs.laws.{RefinementRight.{below_test, ground_right, lines_parts, other_line, own_stamp}}
pub use Rattle.icu_driver.specs.laws.{RefinementRight.{own_word, within as within_eight, within}}
pub use Rattle.module_machines.specs.icu.laws.{Channels.{by_channel_at, by_eight, by_if}, Edges.{pin_still, still}}
pub use Rattle.icu_driver.specs.laws.{Tables.{mark_in, same_marks}}
