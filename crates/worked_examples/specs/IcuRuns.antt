-- Small runs of the machine of the capture channels, written out: the board, and what happens.
use Rattle.std.specs.Prelude.{ℕ, true, false, List, [], ◌∷◌, map, Option, Some, None}
use Rattle.mcal_base.specs.declared.config.icu.IcuMeasurementMode.TheVariants.{SignalEdgeDetect, EdgeCounter, Timestamp, SignalMeasurement}
use Rattle.mcal_base.specs.declared.config.icu.IcuSignalMeasurementProperty.TheVariants.{LowTime, HighTime, PeriodTime, DutyCycle}
use Rattle.mcal_base.specs.declared.config.icu.IcuStartEdge.TheVariants.{Rising, Falling, Both}
use Rattle.mcal_base.specs.declared.config.icu.IcuTimestampMeasurementProperty.TheVariants.{LinearBuffer, CircularBuffer}
use Rattle.mcal_base.specs.declared.directive.Reason.TheVariants.{PowerOn}
use Rattle.run_model.specs.Machine.{Happening, Restarts, Told}
use Rattle.worked_examples.specs.Told.{told, state_after, ticks, pin, acting, serving}
use Rattle.module_machines.specs.icu.Shown.{stamp_at, size_of}
use Rattle.module_machines.specs.icu.Machine.{icu_machine, first_state}
use Rattle.module_machines.specs.icu.Table.{table_of}
use Rattle.module_machines.specs.declared.icu.call.Call.{Call}
use Rattle.module_machines.specs.declared.icu.call.Call.TheVariants.{Init, DeInit, Channel}
use Rattle.module_machines.specs.declared.icu.call.ChannelCall.TheVariants.{SetActivationCondition, EnableNotification, DisableNotification, GetInputState, EnableEdgeDetection, DisableEdgeDetection, ResetEdgeCount, EnableEdgeCount, DisableEdgeCount, GetEdgeNumbers, StartTimestamp, StopTimestamp, GetTimestampIndex, StartSignalMeasurement, StopSignalMeasurement, GetTimeElapsed, GetDutyCycleValues}
use Rattle.module_machines.specs.declared.icu.table.IcuTable.{IcuTable}

-- ---- boards

-- timestamps of both edges of pin 1 in a linear buffer, the duty cycle of pin 2, a counter and a detection at pin 1
abbrev pub mixed_board : IcuTable
mixed_board = table_of (record {
  dev_error_detect = true;
  classification = 1;
  channels =
      record { id = 0; default_start_edge = Both; measurement_mode = Timestamp; signal_measurement_property = None; timestamp_measurement_property = Some LinearBuffer; signal_notification = false; timestamp_notification = true; pin = 1; level = 2 }
      ∷ record { id = 1; default_start_edge = Rising; measurement_mode = SignalMeasurement; signal_measurement_property = Some DutyCycle; timestamp_measurement_property = None; signal_notification = false; timestamp_notification = false; pin = 2; level = 1 }
      ∷ record { id = 2; default_start_edge = Rising; measurement_mode = EdgeCounter; signal_measurement_property = None; timestamp_measurement_property = None; signal_notification = false; timestamp_notification = false; pin = 1; level = 1 }
      ∷ record { id = 3; default_start_edge = Falling; measurement_mode = SignalEdgeDetect; signal_measurement_property = None; timestamp_measurement_property = None; signal_notification = true; timestamp_notification = false; pin = 1; level = 1 }
      ∷ [];
})

-- the high time, the low time and the period from falling edges of pin 0, and timestamps of its rising edges in a circular buffer
abbrev pub times_board : IcuTable
times_board = table_of (record {
  dev_error_detect = true;
  classification = 1;
  channels =
      record { id = 0; default_start_edge = Rising; measurement_mode = SignalMeasurement; signal_measurement_property = Some HighTime; timestamp_measurement_property = None; signal_notification = false; timestamp_notification = false; pin = 0; level = 1 }
      ∷ record { id = 1; default_start_edge = Rising; measurement_mode = SignalMeasurement; signal_measurement_property = Some LowTime; timestamp_measurement_property = None; signal_notification = false; timestamp_notification = false; pin = 0; level = 1 }
      ∷ record { id = 2; default_start_edge = Falling; measurement_mode = SignalMeasurement; signal_measurement_property = Some PeriodTime; timestamp_measurement_property = None; signal_notification = false; timestamp_notification = false; pin = 0; level = 1 }
      ∷ record { id = 3; default_start_edge = Rising; measurement_mode = Timestamp; signal_measurement_property = None; timestamp_measurement_property = Some CircularBuffer; signal_notification = false; timestamp_notification = true; pin = 0; level = 1 }
      ∷ [];
})

-- the duty cycle of pin 0 with falling start edges, and its period with both edges as start edges
abbrev pub start_edges_board : IcuTable
start_edges_board = table_of (record {
  dev_error_detect = true;
  classification = 1;
  channels =
      record { id = 0; default_start_edge = Falling; measurement_mode = SignalMeasurement; signal_measurement_property = Some DutyCycle; timestamp_measurement_property = None; signal_notification = false; timestamp_notification = false; pin = 0; level = 1 }
      ∷ record { id = 1; default_start_edge = Both; measurement_mode = SignalMeasurement; signal_measurement_property = Some PeriodTime; timestamp_measurement_property = None; signal_notification = false; timestamp_notification = false; pin = 0; level = 1 }
      ∷ [];
})

-- a detection, a counter, timestamps and a high time, each without the notification that is for it
abbrev pub plain_board : IcuTable
plain_board = table_of (record {
  dev_error_detect = true;
  classification = 1;
  channels =
      record { id = 0; default_start_edge = Rising; measurement_mode = SignalEdgeDetect; signal_measurement_property = None; timestamp_measurement_property = None; signal_notification = false; timestamp_notification = true; pin = 1; level = 1 }
      ∷ record { id = 1; default_start_edge = Rising; measurement_mode = EdgeCounter; signal_measurement_property = None; timestamp_measurement_property = None; signal_notification = true; timestamp_notification = true; pin = 1; level = 1 }
      ∷ record { id = 2; default_start_edge = Rising; measurement_mode = Timestamp; signal_measurement_property = None; timestamp_measurement_property = Some CircularBuffer; signal_notification = true; timestamp_notification = false; pin = 1; level = 1 }
      ∷ record { id = 3; default_start_edge = Rising; measurement_mode = SignalMeasurement; signal_measurement_property = Some HighTime; timestamp_measurement_property = None; signal_notification = true; timestamp_notification = true; pin = 1; level = 1 }
      ∷ [];
})

abbrev pub told_on : IcuTable → List (Happening Call) → List (Option Told)
told_on d hs = told (icu_machine d) first_state hs

-- the first eight places of a channel's stamps after a run
abbrev pub stamps_after : IcuTable → List (Happening Call) → (channel : ℕ) → List ℕ
stamps_after d hs c = map (λ i. stamp_at (state_after (icu_machine d) first_state hs) c i) (0 ∷ 1 ∷ 2 ∷ 3 ∷ 4 ∷ 5 ∷ 6 ∷ 7 ∷ [])

abbrev pub size_after : IcuTable → List (Happening Call) → (channel : ℕ) → Option ℕ
size_after d hs c = size_of (state_after (icu_machine d) first_state hs) c

-- ---- what happens

-- five edges, of which one finds four waiting
abbrev pub five_edges_run : List (Happening Call)
five_edges_run =
    acting Init ∷ acting (Channel 0 EnableNotification) ∷ acting (Channel 0 (StartTimestamp 8 2)) ∷ pin 1 true ∷ ticks 5 ∷ pin 1 false ∷ ticks 5 ∷ pin 1 true ∷ pin 1 false ∷ pin 1 true
    ∷ serving 16 ∷ serving 16 ∷ serving 16 ∷ serving 16 ∷ serving 16 ∷ acting (Channel 0 GetTimestampIndex) ∷ []

-- a linear buffer of two
abbrev pub full_run : List (Happening Call)
full_run =
    acting Init ∷ acting (Channel 0 (StartTimestamp 2 1)) ∷ pin 1 true ∷ pin 1 false ∷ pin 1 true ∷ serving 16 ∷ serving 16 ∷ serving 16 ∷ acting (Channel 0 GetTimestampIndex) ∷ acting (Channel 0 StopTimestamp) ∷ []

-- a duty cycle, and then three edges of which two are counted
abbrev pub duty_run : List (Happening Call)
duty_run =
    acting Init ∷ acting (Channel 1 StartSignalMeasurement) ∷ pin 2 true ∷ ticks 3 ∷ pin 2 false ∷ ticks 7 ∷ pin 2 true ∷ serving 17 ∷ serving 17 ∷ acting (Channel 1 GetDutyCycleValues)
    ∷ serving 17 ∷ acting (Channel 1 GetDutyCycleValues) ∷ acting (Channel 1 GetDutyCycleValues)
    ∷ acting (Channel 2 EnableEdgeCount) ∷ pin 1 true ∷ pin 1 false ∷ pin 1 true ∷ acting (Channel 2 GetEdgeNumbers) ∷ []

-- a fifth edge is lost, and measures go on after it
abbrev pub gap_run : List (Happening Call)
gap_run =
    acting Init ∷ acting (Channel 1 StartSignalMeasurement) ∷ pin 2 true ∷ ticks 1 ∷ pin 2 false ∷ ticks 1 ∷ pin 2 true ∷ ticks 1 ∷ pin 2 false ∷ ticks 1 ∷ pin 2 true
    ∷ serving 17 ∷ serving 17 ∷ serving 17 ∷ serving 17 ∷ acting (Channel 1 GetDutyCycleValues)
    ∷ ticks 1 ∷ pin 2 false ∷ ticks 1 ∷ pin 2 true ∷ ticks 2 ∷ pin 2 false ∷ ticks 2 ∷ pin 2 true
    ∷ serving 17 ∷ serving 17 ∷ acting (Channel 1 GetDutyCycleValues) ∷ serving 17 ∷ serving 17 ∷ acting (Channel 1 GetDutyCycleValues) ∷ acting (Channel 1 GetDutyCycleValues) ∷ []

-- a falling edge is detected, with the mark taken once; after a change of the choice it is the rising one that waits
abbrev pub detection_run : List (Happening Call)
detection_run =
    acting Init ∷ acting (Channel 3 EnableEdgeDetection) ∷ acting (Channel 3 EnableNotification) ∷ pin 1 true ∷ serving 19 ∷ pin 1 false ∷ pin 1 false ∷ serving 19 ∷ serving 19
    ∷ acting (Channel 3 GetInputState) ∷ acting (Channel 3 GetInputState) ∷ acting (Channel 3 (SetActivationCondition (Some Rising))) ∷ pin 1 true ∷ acting (Channel 3 DisableNotification) ∷ serving 19
    ∷ acting (Channel 3 GetInputState) ∷ pin 1 false ∷ pin 1 true ∷ acting (Channel 3 DisableEdgeDetection) ∷ serving 19 ∷ []

-- high, low and period times of a signal that is high for 3 and low for 4
abbrev pub times_run : List (Happening Call)
times_run =
    acting Init ∷ acting (Channel 0 StartSignalMeasurement) ∷ acting (Channel 1 StartSignalMeasurement) ∷ acting (Channel 2 StartSignalMeasurement) ∷ pin 0 true ∷ ticks 3 ∷ pin 0 false ∷ ticks 4 ∷ pin 0 true ∷ ticks 3
    ∷ pin 0 false ∷ serving 16 ∷ serving 16 ∷ serving 17 ∷ serving 17 ∷ acting (Channel 1 GetTimeElapsed) ∷ serving 17 ∷ acting (Channel 1 GetInputState) ∷ acting (Channel 1 GetTimeElapsed) ∷ acting (Channel 1 GetTimeElapsed)
    ∷ acting (Channel 0 GetTimeElapsed) ∷ acting (Channel 0 StopSignalMeasurement) ∷ serving 16 ∷ serving 18 ∷ serving 18 ∷ serving 18 ∷ serving 18 ∷ acting (Channel 2 StopSignalMeasurement) ∷ acting (Channel 2 GetTimeElapsed) ∷ []

-- three rising edges in a circular buffer of two, with a notice at each third stamp
abbrev pub circular_run : List (Happening Call)
circular_run =
    acting Init ∷ acting (Channel 3 EnableNotification) ∷ acting (Channel 3 (StartTimestamp 2 3)) ∷ ticks 1 ∷ pin 0 true ∷ ticks 1 ∷ pin 0 false ∷ pin 0 true ∷ ticks 1 ∷ pin 0 false ∷ pin 0 true
    ∷ serving 19 ∷ serving 19 ∷ acting (Channel 3 GetTimestampIndex) ∷ serving 19 ∷ acting (Channel 3 GetTimestampIndex) ∷ acting (Channel 3 StopTimestamp) ∷ acting (Channel 3 StopTimestamp) ∷ acting DeInit ∷ []

-- calls that are refused
abbrev pub refusals_run : List (Happening Call)
refusals_run =
    acting (Channel 2 GetEdgeNumbers) ∷ acting Init ∷ acting Init ∷ acting (Channel 1 (SetActivationCondition (Some Both))) ∷ acting (Channel 0 (SetActivationCondition None)) ∷ acting (Channel 1 EnableNotification)
    ∷ acting (Channel 0 GetInputState) ∷ acting (Channel 0 (StartTimestamp 0 0)) ∷ acting (Channel 0 (StartTimestamp 65 1)) ∷ acting (Channel 0 (StartTimestamp 64 0)) ∷ acting (Channel 1 GetTimeElapsed)
    ∷ acting (Channel 0 GetDutyCycleValues) ∷ acting (Channel 4 GetTimestampIndex) ∷ acting (Channel 3 EnableEdgeCount) ∷ Restarts PowerOn ∷ acting DeInit ∷ []

-- a channel detects, one counts and one stamps; then comes Icu_DeInit, and Icu_Init again
abbrev pub again_run : List (Happening Call)
again_run =
    acting Init ∷ acting (Channel 3 EnableEdgeDetection) ∷ acting (Channel 3 EnableNotification) ∷ acting (Channel 2 EnableEdgeCount) ∷ acting (Channel 0 EnableNotification)
    ∷ acting (Channel 0 (StartTimestamp 8 1)) ∷ pin 1 true ∷ pin 1 false ∷ serving 16 ∷ serving 19 ∷ acting (Channel 2 GetEdgeNumbers) ∷ acting (Channel 0 GetTimestampIndex) ∷ acting DeInit
    ∷ serving 16 ∷ acting Init ∷ acting (Channel 2 GetEdgeNumbers) ∷ acting (Channel 3 GetInputState) ∷ acting (Channel 0 GetTimestampIndex) ∷ pin 1 true ∷ pin 1 false ∷ serving 16
    ∷ serving 19 ∷ acting (Channel 2 GetEdgeNumbers) ∷ acting (Channel 3 EnableEdgeDetection) ∷ acting (Channel 0 (StartTimestamp 8 1)) ∷ pin 1 true ∷ pin 1 false ∷ serving 19 ∷ serving 16
    ∷ acting (Channel 3 EnableNotification) ∷ acting (Channel 0 EnableNotification) ∷ pin 1 true ∷ pin 1 false ∷ serving 19 ∷ serving 16 ∷ []

-- a rising edge comes while edges are counted, and one while they aren't
abbrev pub count_run : List (Happening Call)
count_run =
    acting Init ∷ pin 1 true ∷ pin 1 false ∷ acting (Channel 2 EnableEdgeCount) ∷ pin 1 true ∷ acting (Channel 2 DisableEdgeCount) ∷ pin 1 false ∷ pin 1 true
    ∷ acting (Channel 2 EnableEdgeCount) ∷ acting (Channel 2 GetEdgeNumbers) ∷ pin 1 false ∷ pin 1 true ∷ acting (Channel 2 GetEdgeNumbers) ∷ serving 18 ∷ acting (Channel 2 ResetEdgeCount)
    ∷ acting (Channel 2 GetEdgeNumbers) ∷ []

-- the edges that are detected are chosen anew: after one was detected, and while one waits
abbrev pub choice_run : List (Happening Call)
choice_run =
    acting Init ∷ acting (Channel 3 EnableEdgeDetection) ∷ pin 1 true ∷ pin 1 false ∷ pin 1 true ∷ serving 19 ∷ acting (Channel 3 (SetActivationCondition (Some Rising)))
    ∷ acting (Channel 3 GetInputState) ∷ pin 1 false ∷ serving 19 ∷ pin 1 true ∷ acting (Channel 3 (SetActivationCondition (Some Falling))) ∷ serving 19 ∷ acting (Channel 3 GetInputState)
    ∷ acting (Channel 3 (SetActivationCondition (Some Both))) ∷ pin 1 false ∷ pin 1 true ∷ serving 19 ∷ serving 19 ∷ serving 19 ∷ []

-- a linear buffer of two is notified when it becomes full
abbrev pub full_notice_run : List (Happening Call)
full_notice_run =
    acting Init ∷ acting (Channel 0 EnableNotification) ∷ acting (Channel 0 (StartTimestamp 2 2)) ∷ pin 1 true ∷ pin 1 false ∷ serving 16 ∷ serving 16 ∷ serving 16
    ∷ acting (Channel 0 GetTimestampIndex) ∷ []

-- a duty cycle becomes complete
abbrev pub active_run : List (Happening Call)
active_run =
    acting Init ∷ acting (Channel 1 StartSignalMeasurement) ∷ pin 2 true ∷ pin 2 false ∷ pin 2 true ∷ serving 17 ∷ acting (Channel 1 GetInputState) ∷ serving 17
    ∷ acting (Channel 1 GetInputState) ∷ serving 17 ∷ acting (Channel 1 GetInputState) ∷ acting (Channel 1 GetInputState) ∷ []

-- stamps and measures are started again
abbrev pub restart_run : List (Happening Call)
restart_run =
    acting Init ∷ acting (Channel 0 GetTimestampIndex) ∷ acting (Channel 0 (StartTimestamp 8 2)) ∷ pin 1 true ∷ serving 16 ∷ acting (Channel 0 StopTimestamp)
    ∷ acting (Channel 0 GetTimestampIndex) ∷ acting (Channel 0 (StartTimestamp 8 2)) ∷ acting (Channel 0 GetTimestampIndex) ∷ acting (Channel 1 StartSignalMeasurement) ∷ pin 2 true ∷ ticks 3
    ∷ pin 2 false ∷ ticks 4 ∷ pin 2 true ∷ serving 17 ∷ serving 17 ∷ serving 17 ∷ acting (Channel 1 StartSignalMeasurement) ∷ acting (Channel 1 GetDutyCycleValues)
    ∷ acting (Channel 1 GetInputState) ∷ []

-- a signal that is high for 3, low for 4 and high for 5
abbrev pub start_edges_run : List (Happening Call)
start_edges_run =
    acting Init ∷ acting (Channel 0 StartSignalMeasurement) ∷ acting (Channel 1 StartSignalMeasurement) ∷ pin 0 true ∷ ticks 3 ∷ pin 0 false ∷ ticks 4 ∷ pin 0 true ∷ ticks 5 ∷ pin 0 false
    ∷ serving 16 ∷ serving 16 ∷ serving 16 ∷ acting (Channel 0 GetDutyCycleValues) ∷ serving 16 ∷ acting (Channel 0 GetDutyCycleValues) ∷ serving 17 ∷ serving 17 ∷ serving 17
    ∷ acting (Channel 1 GetTimeElapsed) ∷ serving 17 ∷ acting (Channel 1 GetTimeElapsed) ∷ []

-- channels are asked for what they aren't for, and for what they are
abbrev pub unsuited_run : List (Happening Call)
unsuited_run =
    acting Init ∷ acting (Channel 0 EnableNotification) ∷ acting (Channel 2 DisableNotification) ∷ acting (Channel 1 EnableNotification) ∷ acting (Channel 3 DisableNotification)
    ∷ acting (Channel 1 GetInputState) ∷ acting (Channel 2 GetInputState) ∷ acting (Channel 8 GetInputState) ∷ acting (Channel 1 EnableEdgeDetection)
    ∷ acting (Channel 2 DisableEdgeDetection) ∷ acting (Channel 0 ResetEdgeCount) ∷ acting (Channel 3 EnableEdgeCount) ∷ acting (Channel 2 DisableEdgeCount)
    ∷ acting (Channel 0 GetEdgeNumbers) ∷ acting (Channel 3 (StartTimestamp 0 0)) ∷ acting (Channel 0 StopTimestamp) ∷ acting (Channel 1 GetTimestampIndex)
    ∷ acting (Channel 2 StartSignalMeasurement) ∷ acting (Channel 0 StopSignalMeasurement) ∷ acting (Channel 2 GetTimeElapsed) ∷ acting (Channel 3 GetDutyCycleValues)
    ∷ acting (Channel 3 (SetActivationCondition None)) ∷ acting (Channel 0 (SetActivationCondition (Some Both))) ∷ acting (Channel 1 (SetActivationCondition None))
    ∷ acting (Channel 2 (SetActivationCondition (Some Both))) ∷ acting (Channel 2 StopTimestamp) ∷ acting (Channel 2 (StartTimestamp 64 1)) ∷ acting (Channel 2 StopTimestamp)
    ∷ acting (Channel 2 StopTimestamp) ∷ acting (Channel 0 GetInputState) ∷ acting (Channel 1 GetEdgeNumbers) ∷ acting (Channel 3 GetTimeElapsed) ∷ []
