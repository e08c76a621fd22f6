-- Small runs of the machine of the converter groups, written out: the boards, what happens, and what is told.
use Rattle.std.specs.Prelude.{ℕ, Bool, true, false, List, [], ◌∷◌, ◌++◌, map, Option, Some, None}
use Rattle.std.specs.List.{range_with_len}
use Rattle.mcal_base.specs.declared.answer_name.AnswerName.TheVariants.{EOk, ENotOk}
use Rattle.mcal_base.specs.declared.config.adc.AdcAccessMode.TheVariants.{Single, Streaming}
use Rattle.mcal_base.specs.declared.config.adc.AdcConversionMode.TheVariants.{OneShot, Continuous}
use Rattle.mcal_base.specs.declared.config.adc.AdcGroupReplacement.TheVariants.{AbortRestart, SuspendResume}
use Rattle.mcal_base.specs.declared.config.adc.AdcPriorityImplementation.TheVariants as priorities
use Rattle.mcal_base.specs.declared.config.adc.AdcStreamBufferMode.TheVariants.{Linear, Circular}
use Rattle.mcal_base.specs.declared.config.adc.AdcTriggerSource.TheVariants.{Software, Hardware}
use Rattle.mcal_base.specs.declared.config.adc.AdcGroup.{AdcGroup}
use Rattle.mcal_base.specs.declared.directive.Order.TheVariants as orders
use Rattle.mcal_base.specs.declared.directive.Reason.TheVariants.{Watchdog}
use Rattle.mcal_base.specs.declared.error_name.ErrorName.{ErrorName}
use Rattle.mcal_base.specs.declared.moves.Unit.TheVariants.{Adc0, Adc1}
use Rattle.run_model.specs.Machine.{Happening, Starts, Aborts, Moves, Restarts, Told}
use Rattle.worked_examples.specs.Told.{told, state_after, named, named_with, refused_with, refused_named, ticks, acting, serving}
use Rattle.adc_machine.specs.Checks.{zero_null}
use Rattle.adc_machine.specs.Machine.{adc_machine, place_value, chosen_buffer}
use Rattle.adc_machine.specs.Table.{table_of}
use Rattle.adc_machine.specs.Turns.{first_state}
use Rattle.adc_machine.specs.declared.call.Call.{Call}
use Rattle.adc_machine.specs.declared.call.Call.TheVariants.{Init, DeInit, Group}
use Rattle.adc_machine.specs.declared.call.GroupCall.{GroupCall}
use Rattle.adc_machine.specs.declared.call.GroupCall.TheVariants.{SetupResultBuffer, StartGroupConversion, StopGroupConversion, ReadGroup, EnableHardwareTrigger, DisableHardwareTrigger, Notification, GetGroupStatus, GetStreamLastPointer}
use Rattle.adc_machine.specs.declared.call.ResultBuffer.{ResultBuffer}
use Rattle.adc_machine.specs.declared.call.ResultBuffer.TheVariants.{Zero, One}
use Rattle.adc_machine.specs.declared.table.AdcTable.{AdcTable}

-- ---- boards

-- a one-shot group of unit 0 with these inputs and this priority, which is started by software and has a notification
abbrev pub single : ℕ → List ℕ → (priority : ℕ) → AdcGroup
single g inputs priority = record {
  id = g;
  unit = 0;
  definition = inputs;
  access_mode = Single;
  conversion_mode = OneShot;
  priority = priority;
  replacement = AbortRestart;
  trigger_source = Software;
  streaming_buffer_mode = Linear;
  streaming_num_samples = 1;
  notification = true;
  trigger_input = None;
  level = 1;
}

-- a continuous stream of so many samples
abbrev pub stream : ℕ → List ℕ → (samples : ℕ) → AdcGroup
stream g inputs samples = record (single g inputs 0) { access_mode = Streaming; conversion_mode = Continuous; streaming_num_samples = samples }

-- the same in a circular buffer
abbrev pub ring : ℕ → List ℕ → (samples : ℕ) → AdcGroup
ring g inputs samples = record (stream g inputs samples) { streaming_buffer_mode = Circular }

-- a group that is triggered by input 0
abbrev pub triggered : ℕ → List ℕ → (priority : ℕ) → AdcGroup
triggered g inputs priority = record (single g inputs priority) { trigger_source = Hardware; trigger_input = Some 0; level = 3 }

-- a board with unit 0 and these groups; priorities count
abbrev pub board_of : List AdcGroup → AdcTable
board_of groups = table_of (record { dev_error_detect = true; classification = 1; priority_implementation = priorities.HwSw; enable_queuing = false; units = record { id = 0; level = 2 } ∷ []; groups = groups })

-- two small groups, one of high priority, a circular stream of three samples and a triggered group
abbrev pub five_groups : AdcTable
five_groups = board_of (single 0 (0 ∷ 1 ∷ []) 1 ∷ single 1 (2 ∷ []) 1 ∷ single 2 (3 ∷ []) 5 ∷ ring 3 (4 ∷ 5 ∷ []) 3 ∷ triggered 4 (6 ∷ []) 3 ∷ [])

-- the same without the stream
abbrev pub four_groups : AdcTable
four_groups = board_of (single 0 (0 ∷ 1 ∷ []) 1 ∷ single 1 (2 ∷ []) 1 ∷ single 2 (3 ∷ []) 5 ∷ triggered 4 (6 ∷ []) 3 ∷ [])

-- the five groups, of which the first one suspends and resumes
abbrev pub suspending : AdcTable
suspending = board_of (record (single 0 (0 ∷ 1 ∷ []) 1) { replacement = SuspendResume } ∷ single 1 (2 ∷ []) 1 ∷ single 2 (3 ∷ []) 5 ∷ ring 3 (4 ∷ 5 ∷ []) 3 ∷ triggered 4 (6 ∷ []) 3 ∷ [])

-- a linear stream of two samples
abbrev pub linear_stream : AdcTable
linear_stream = board_of (stream 0 (0 ∷ []) 2 ∷ [])

-- all inputs
abbrev pub all_inputs : List ℕ
all_inputs = range_with_len 0 32

-- a circular stream of all inputs
abbrev pub wide_stream : AdcTable
wide_stream = board_of (ring 3 all_inputs 3 ∷ [])

-- one triggered group, and one plain group
abbrev pub one_triggered : AdcTable
one_triggered = board_of (triggered 0 (0 ∷ []) 0 ∷ [])

abbrev pub one_group : AdcTable
one_group = board_of (single 0 (0 ∷ []) 0 ∷ [])

-- a plain group without a notification, and a triggered one
abbrev pub two_plain : AdcTable
two_plain = board_of (record (single 0 (0 ∷ []) 0) { notification = false } ∷ triggered 1 (1 ∷ []) 0 ∷ [])

-- a continuous group
abbrev pub one_continuous : AdcTable
one_continuous = board_of (record (single 0 (0 ∷ []) 0) { conversion_mode = Continuous } ∷ [])

-- a continuous group and a one-shot one of the same priority
abbrev pub equals : AdcTable
equals = board_of (record (single 0 (0 ∷ []) 1) { conversion_mode = Continuous } ∷ single 1 (1 ∷ []) 1 ∷ [])

-- two groups that are triggered by inputs 0 and 1
abbrev pub two_triggered : AdcTable
two_triggered = board_of (triggered 0 (0 ∷ []) 0 ∷ record (triggered 1 (1 ∷ []) 0) { trigger_input = Some 1 } ∷ [])

-- a triggered linear stream of two samples
abbrev pub triggered_stream : AdcTable
triggered_stream = board_of (record (triggered 0 (0 ∷ []) 0) { access_mode = Streaming; streaming_num_samples = 2 } ∷ [])

-- three groups of unit 0 and one of unit 1, whose priorities don't count; with queues or without
abbrev pub unranked : (queuing : Bool) → AdcTable
unranked queuing = table_of (record {
  dev_error_detect = true;
  classification = 1;
  priority_implementation = priorities.None;
  enable_queuing = queuing;
  units = record { id = 0; level = 2 } ∷ record { id = 1; level = 2 } ∷ [];
  groups = single 0 (0 ∷ []) 0 ∷ single 1 (1 ∷ []) 5 ∷ record (single 2 (2 ∷ []) 0) { unit = 1 } ∷ single 3 (3 ∷ []) 2 ∷ [];
})

-- ---- what is told

-- from power on
abbrev pub told_on : AdcTable → List (Happening Call) → List (Option Told)
told_on d hs = told (adc_machine d) first_state hs

-- the first so many places of buffer 0 of a group, at the end
abbrev pub shown : AdcTable → List (Happening Call) → (group places : ℕ) → List ℕ
shown d hs g n = map (place_value (state_after (adc_machine d) first_state hs) g Zero) (range_with_len 0 n)

-- the buffer of a group that is shown at the end, and place 0 of each of its buffers
abbrev pub chosen_after : AdcTable → List (Happening Call) → (group : ℕ) → Option ResultBuffer
chosen_after d hs g = chosen_buffer (state_after (adc_machine d) first_state hs) g

abbrev pub first_places : AdcTable → List (Happening Call) → (group : ℕ) → List ℕ
first_places d hs g = map (λ b. place_value (state_after (adc_machine d) first_state hs) g b 0) (Zero ∷ One ∷ [])

-- a call is accepted, alone or with the values of a round; an error is found
abbrev pub ok : Option Told
ok = named EOk

abbrev pub read : List ℕ → Option Told
read values = named_with EOk values

abbrev pub not_ok : ErrorName → Option Told
not_ok e = refused_named ENotOk e

abbrev pub no_pointer : ErrorName → Option Told
no_pointer e = refused_with zero_null e

-- ---- what happens

-- an analog input takes a value; a pulse comes on a trigger input, and on input 0
abbrev pub analog : ℕ → ℕ → Happening Call
analog i v = Moves (orders.Analog i v)

abbrev pub pulse_on : (input : ℕ) → Happening Call
pulse_on i = Moves (orders.Trigger i)

abbrev pub pulse : Happening Call
pulse = pulse_on 0

-- a group is asked for something
abbrev pub asks : ℕ → GroupCall → Happening Call
asks g call = acting (Group g call)

-- a group's buffer 0 is set up
abbrev pub sets_up : ℕ → Happening Call
sets_up g = asks g (SetupResultBuffer (Some Zero))

-- unit 0 starts its next round, or aborts the one that runs
abbrev pub starting : Happening Call
starting = Starts Adc0 None 0

abbrev pub aborting : Happening Call
aborting = Aborts Adc0

-- a higher request comes just after the end of a round
abbrev pub late_request_run : List (Happening Call)
late_request_run =
    acting Init ∷ sets_up 0 ∷ sets_up 1 ∷ sets_up 2 ∷ analog 0 100 ∷ analog 1 200 ∷ asks 0 StartGroupConversion ∷ starting ∷ asks 1 StartGroupConversion ∷ starting ∷ aborting ∷ ticks 8
    ∷ asks 2 StartGroupConversion ∷ aborting ∷ serving 24 ∷ starting ∷ asks 0 GetGroupStatus ∷ asks 0 ReadGroup ∷ ticks 4 ∷ serving 24 ∷ starting ∷ asks 2 GetGroupStatus ∷ asks 1 GetGroupStatus ∷ []

-- a stream's second round is finished
abbrev pub two_rounds : List (Happening Call)
two_rounds =
    acting Init ∷ sets_up 3 ∷ analog 4 10 ∷ analog 5 20 ∷ asks 3 StartGroupConversion ∷ starting ∷ ticks 8 ∷ serving 24 ∷ starting ∷ analog 4 11 ∷ analog 5 21 ∷ ticks 8 ∷ []

-- all inputs of a stream are 10 in its first round and 20 in its second one
abbrev pub wide_rounds : List (Happening Call)
wide_rounds =
    acting Init ∷ sets_up 3 ∷ [] ++ map (λ i. analog i 10) all_inputs ++ asks 3 StartGroupConversion ∷ starting ∷ ticks 128 ∷ serving 24 ∷ starting ∷ [] ++ map (λ i. analog i 20) all_inputs
    ++ ticks 128 ∷ []

-- it is read before its serving, and after it
abbrev pub read_before : List (Happening Call)
read_before = asks 3 ReadGroup ∷ []

abbrev pub read_after : List (Happening Call)
read_after = serving 24 ∷ asks 3 ReadGroup ∷ []

-- a group is stopped between the entry of its handler and the serving
abbrev pub stopped_run : List (Happening Call)
stopped_run =
    acting Init ∷ sets_up 0 ∷ analog 0 7 ∷ analog 1 8 ∷ asks 0 StartGroupConversion ∷ starting ∷ ticks 8 ∷ asks 0 StopGroupConversion ∷ serving 24 ∷ starting ∷ asks 0 GetGroupStatus
    ∷ asks 0 ReadGroup ∷ serving 24 ∷ []

-- four rounds of a circular stream of three samples
abbrev pub four_rounds : List (Happening Call)
four_rounds =
    acting Init ∷ sets_up 3 ∷ asks 3 (Notification true) ∷ analog 4 1 ∷ analog 5 11 ∷ asks 3 StartGroupConversion ∷ starting ∷ ticks 8 ∷ serving 24 ∷ starting
    ∷ analog 4 2 ∷ analog 5 12 ∷ ticks 8 ∷ serving 24 ∷ starting ∷ asks 3 GetGroupStatus
    ∷ analog 4 3 ∷ analog 5 13 ∷ ticks 8 ∷ serving 24 ∷ starting ∷ asks 3 GetGroupStatus
    ∷ analog 4 4 ∷ analog 5 14 ∷ ticks 8 ∷ serving 24 ∷ starting ∷ asks 3 GetGroupStatus ∷ asks 3 GetStreamLastPointer ∷ asks 3 GetGroupStatus ∷ []

-- two pulses come before the trigger's line is served
abbrev pub pulses_run : List (Happening Call)
pulses_run =
    acting Init ∷ sets_up 4 ∷ asks 4 StartGroupConversion ∷ pulse ∷ asks 4 EnableHardwareTrigger ∷ serving 28 ∷ analog 6 30 ∷ pulse ∷ pulse ∷ serving 28 ∷ starting ∷ serving 28 ∷ ticks 4 ∷ serving 24
    ∷ asks 4 ReadGroup ∷ asks 4 GetGroupStatus ∷ []

-- a linear stream becomes full
abbrev pub full_run : List (Happening Call)
full_run =
    acting Init ∷ sets_up 0 ∷ analog 0 1 ∷ asks 0 StartGroupConversion ∷ starting ∷ ticks 4 ∷ serving 24 ∷ starting ∷ asks 0 GetGroupStatus ∷ analog 0 2 ∷ ticks 4 ∷ serving 24 ∷ starting
    ∷ asks 0 GetGroupStatus ∷ ticks 4 ∷ serving 24 ∷ asks 0 GetStreamLastPointer ∷ asks 0 GetGroupStatus ∷ asks 0 ReadGroup ∷ []

-- a round is aborted after its first input, and its group goes on
abbrev pub aborted_run : List (Happening Call)
aborted_run =
    acting Init ∷ sets_up 0 ∷ sets_up 2 ∷ analog 0 100 ∷ analog 3 9 ∷ asks 0 StartGroupConversion ∷ starting ∷ ticks 6 ∷ analog 0 101 ∷ asks 2 StartGroupConversion ∷ aborting ∷ starting ∷ ticks 4
    ∷ serving 24 ∷ starting ∷ ticks 3 ∷ analog 1 250 ∷ ticks 1 ∷ serving 24 ∷ []

-- both groups are read
abbrev pub both_read : List (Happening Call)
both_read = asks 0 ReadGroup ∷ asks 2 ReadGroup ∷ []

-- a pulse triggers a round of one group
abbrev pub trigger_run : List (Happening Call)
trigger_run =
    acting Init ∷ sets_up 0 ∷ analog 0 512 ∷ asks 0 EnableHardwareTrigger ∷ pulse ∷ serving 28 ∷ starting ∷ ticks 4 ∷ serving 24 ∷ asks 0 ReadGroup ∷ asks 0 GetGroupStatus ∷ []

-- a round of one group is served long after its end
abbrev pub notified_run : List (Happening Call)
notified_run = acting Init ∷ sets_up 0 ∷ asks 0 (Notification true) ∷ analog 0 10 ∷ asks 0 StartGroupConversion ∷ starting ∷ ticks 101 ∷ serving 24 ∷ asks 0 ReadGroup ∷ []

-- a group is started after a reset
abbrev pub reset_run : List (Happening Call)
reset_run = acting Init ∷ Restarts Watchdog ∷ asks 0 StartGroupConversion ∷ []

-- calls that are refused
abbrev pub refusals_run : List (Happening Call)
refusals_run =
    acting DeInit ∷ sets_up 0 ∷ asks 0 StartGroupConversion ∷ asks 0 ReadGroup ∷ asks 0 GetGroupStatus ∷ asks 0 GetStreamLastPointer ∷ asks 0 (Notification true) ∷ acting Init ∷ acting Init
    ∷ sets_up 2 ∷ asks 2 StartGroupConversion ∷ asks 2 StopGroupConversion ∷ asks 2 ReadGroup ∷ asks 2 EnableHardwareTrigger ∷ asks 2 DisableHardwareTrigger ∷ asks 2 (Notification true)
    ∷ asks 16 GetGroupStatus ∷ asks 2 GetStreamLastPointer ∷ asks 0 (SetupResultBuffer None) ∷ asks 1 StartGroupConversion ∷ asks 1 StopGroupConversion ∷ asks 0 EnableHardwareTrigger
    ∷ asks 0 DisableHardwareTrigger ∷ asks 0 StartGroupConversion ∷ asks 1 EnableHardwareTrigger ∷ asks 0 StopGroupConversion ∷ asks 0 ReadGroup ∷ asks 1 DisableHardwareTrigger
    ∷ asks 0 GetStreamLastPointer ∷ asks 0 (Notification true) ∷ asks 0 (Notification false) ∷ sets_up 0 ∷ sets_up 1 ∷ asks 0 StartGroupConversion ∷ asks 0 StartGroupConversion ∷ sets_up 0
    ∷ asks 0 (SetupResultBuffer None) ∷ asks 1 EnableHardwareTrigger ∷ asks 1 EnableHardwareTrigger ∷ sets_up 1 ∷ acting DeInit ∷ asks 0 StopGroupConversion ∷ acting DeInit
    ∷ asks 1 DisableHardwareTrigger ∷ acting DeInit ∷ asks 0 GetGroupStatus ∷ []

-- a single round is read, and another one is started before it is
abbrev pub single_run : List (Happening Call)
single_run =
    acting Init ∷ sets_up 0 ∷ analog 0 10 ∷ asks 0 StartGroupConversion ∷ starting ∷ ticks 4 ∷ serving 24 ∷ asks 0 GetGroupStatus ∷ asks 0 ReadGroup ∷ asks 0 GetGroupStatus
    ∷ asks 0 ReadGroup ∷ asks 0 GetStreamLastPointer ∷ asks 0 StartGroupConversion ∷ starting ∷ ticks 4 ∷ serving 24 ∷ asks 0 StartGroupConversion ∷ asks 0 GetGroupStatus ∷ asks 0 ReadGroup ∷ []

-- a continuous group is read
abbrev pub continuous_run : List (Happening Call)
continuous_run =
    acting Init ∷ sets_up 0 ∷ analog 0 7 ∷ asks 0 StartGroupConversion ∷ starting ∷ ticks 4 ∷ serving 24 ∷ asks 0 GetGroupStatus ∷ asks 0 ReadGroup ∷ asks 0 GetGroupStatus ∷ asks 0 ReadGroup
    ∷ starting ∷ ticks 4 ∷ serving 24 ∷ asks 0 ReadGroup ∷ []

-- a stream of three is asked for its pointer after one round
abbrev pub first_round_run : List (Happening Call)
first_round_run =
    acting Init ∷ sets_up 3 ∷ analog 4 1 ∷ analog 5 11 ∷ asks 3 StartGroupConversion ∷ starting ∷ ticks 8 ∷ serving 24 ∷ asks 3 GetStreamLastPointer ∷ asks 3 GetGroupStatus
    ∷ asks 3 ReadGroup ∷ asks 3 GetStreamLastPointer ∷ []

-- groups of two units are started, with neither priorities nor queues
abbrev pub unqueued_run : List (Happening Call)
unqueued_run =
    acting Init ∷ sets_up 0 ∷ sets_up 1 ∷ sets_up 2 ∷ asks 0 StartGroupConversion ∷ asks 1 StartGroupConversion ∷ asks 2 StartGroupConversion ∷ starting ∷ asks 1 StartGroupConversion
    ∷ ticks 4 ∷ serving 24 ∷ asks 1 StartGroupConversion ∷ asks 0 StartGroupConversion ∷ []

-- groups of three priorities are started, with queues and without priorities
abbrev pub queued_run : List (Happening Call)
queued_run =
    acting Init ∷ sets_up 0 ∷ sets_up 1 ∷ sets_up 3 ∷ asks 0 StartGroupConversion ∷ starting ∷ asks 3 StartGroupConversion ∷ asks 1 StartGroupConversion ∷ aborting ∷ ticks 4 ∷ serving 24
    ∷ starting ∷ ticks 4 ∷ serving 24 ∷ asks 3 GetGroupStatus ∷ asks 1 GetGroupStatus ∷ []

-- a group is stopped while it waits, and is started again
abbrev pub waiting_run : List (Happening Call)
waiting_run =
    acting Init ∷ sets_up 0 ∷ asks 0 (Notification true) ∷ asks 0 StartGroupConversion ∷ asks 0 StopGroupConversion ∷ starting ∷ asks 0 GetGroupStatus ∷ asks 0 StartGroupConversion
    ∷ starting ∷ ticks 4 ∷ serving 24 ∷ []

-- a pulse comes, and then its trigger is disabled
abbrev pub dropped_pulse_run : List (Happening Call)
dropped_pulse_run =
    acting Init ∷ sets_up 0 ∷ asks 0 EnableHardwareTrigger ∷ pulse ∷ asks 0 DisableHardwareTrigger ∷ serving 28 ∷ asks 0 GetGroupStatus ∷ asks 0 EnableHardwareTrigger ∷ serving 28 ∷ pulse
    ∷ serving 28 ∷ starting ∷ []

-- a linear stream of two is triggered until it is full
abbrev pub triggered_stream_run : List (Happening Call)
triggered_stream_run =
    acting Init ∷ sets_up 0 ∷ analog 0 1 ∷ asks 0 EnableHardwareTrigger ∷ pulse ∷ serving 28 ∷ starting ∷ ticks 4 ∷ serving 24 ∷ asks 0 GetGroupStatus ∷ analog 0 2 ∷ pulse ∷ serving 28
    ∷ starting ∷ ticks 4 ∷ serving 24 ∷ asks 0 GetGroupStatus ∷ pulse ∷ serving 28 ∷ asks 0 ReadGroup ∷ asks 0 GetGroupStatus ∷ asks 0 EnableHardwareTrigger ∷ pulse ∷ serving 28 ∷ starting ∷ []

-- a continuous group and a one-shot one have the same priority
abbrev pub equals_run : List (Happening Call)
equals_run =
    acting Init ∷ sets_up 0 ∷ sets_up 1 ∷ asks 0 (Notification true) ∷ asks 1 (Notification true) ∷ asks 1 StartGroupConversion ∷ starting ∷ asks 0 StartGroupConversion ∷ ticks 4
    ∷ serving 24 ∷ starting ∷ asks 1 StartGroupConversion ∷ ticks 4 ∷ serving 24 ∷ starting ∷ ticks 4 ∷ serving 24 ∷ asks 1 GetGroupStatus ∷ asks 0 StopGroupConversion
    ∷ asks 0 StartGroupConversion ∷ starting ∷ ticks 4 ∷ serving 24 ∷ []

-- a stream is started again after two rounds
abbrev pub forgotten_run : List (Happening Call)
forgotten_run =
    acting Init ∷ sets_up 3 ∷ analog 4 1 ∷ analog 5 11 ∷ asks 3 StartGroupConversion ∷ starting ∷ ticks 8 ∷ serving 24 ∷ starting ∷ ticks 8 ∷ serving 24 ∷ asks 3 StopGroupConversion
    ∷ analog 4 9 ∷ analog 5 19 ∷ asks 3 StartGroupConversion ∷ starting ∷ ticks 8 ∷ serving 24 ∷ asks 3 GetStreamLastPointer ∷ []

-- a round is stored, and then comes Adc_DeInit
abbrev pub closed_run : List (Happening Call)
closed_run =
    acting Init ∷ sets_up 0 ∷ asks 0 (Notification true) ∷ analog 0 10 ∷ asks 0 StartGroupConversion ∷ starting ∷ ticks 4 ∷ serving 24 ∷ asks 0 ReadGroup ∷ acting DeInit ∷ []

-- a round goes to buffer 1, and the next one to buffer 0
abbrev pub second_buffer_run : List (Happening Call)
second_buffer_run =
    acting Init ∷ asks 0 (SetupResultBuffer (Some One)) ∷ analog 0 10 ∷ asks 0 StartGroupConversion ∷ starting ∷ ticks 4 ∷ serving 24 ∷ asks 0 ReadGroup ∷ []

-- the module is initialised again, and the group is started
abbrev pub opened_again : List (Happening Call)
opened_again = acting Init ∷ asks 0 StartGroupConversion ∷ []

-- a round of another value goes to buffer 0
abbrev pub first_buffer : List (Happening Call)
first_buffer = sets_up 0 ∷ analog 0 20 ∷ asks 0 StartGroupConversion ∷ starting ∷ ticks 4 ∷ serving 24 ∷ asks 0 ReadGroup ∷ []

-- the round of a single group is served
abbrev pub single_way_run : List (Happening Call)
single_way_run =
    acting Init ∷ sets_up 0 ∷ asks 0 StartGroupConversion ∷ starting ∷ ticks 4 ∷ serving 24 ∷ sets_up 0 ∷ acting DeInit ∷ []

-- the round of a continuous group is served
abbrev pub continuous_way_run : List (Happening Call)
continuous_way_run =
    acting Init ∷ sets_up 0 ∷ asks 0 StartGroupConversion ∷ starting ∷ ticks 4 ∷ serving 24 ∷ asks 0 GetGroupStatus ∷ asks 0 StartGroupConversion ∷ acting DeInit ∷ []

-- the round of a triggered group is served
abbrev pub triggered_way_run : List (Happening Call)
triggered_way_run =
    acting Init ∷ sets_up 0 ∷ asks 0 EnableHardwareTrigger ∷ pulse ∷ serving 28 ∷ starting ∷ ticks 4 ∷ serving 24 ∷ asks 0 GetGroupStatus ∷ asks 0 EnableHardwareTrigger ∷ acting DeInit ∷ []

-- the first round of a stream is served
abbrev pub stream_way_run : List (Happening Call)
stream_way_run =
    acting Init ∷ sets_up 3 ∷ asks 3 StartGroupConversion ∷ starting ∷ ticks 8 ∷ serving 24 ∷ asks 3 GetGroupStatus ∷ asks 3 StartGroupConversion ∷ acting DeInit ∷ []

-- pulses come on two inputs, and on one that no group has
abbrev pub inputs_run : List (Happening Call)
inputs_run =
    acting Init ∷ sets_up 0 ∷ sets_up 1 ∷ analog 0 5 ∷ analog 1 6 ∷ asks 0 EnableHardwareTrigger ∷ asks 1 EnableHardwareTrigger ∷ pulse_on 1 ∷ pulse_on 2 ∷ serving 28 ∷ serving 30
    ∷ serving 29 ∷ starting ∷ ticks 4 ∷ serving 24 ∷ asks 0 GetGroupStatus ∷ asks 1 ReadGroup ∷ pulse_on 0 ∷ pulse_on 1 ∷ asks 0 DisableHardwareTrigger ∷ serving 28 ∷ serving 29 ∷ []

-- both units have a round
abbrev pub units_run : List (Happening Call)
units_run =
    acting Init ∷ sets_up 0 ∷ sets_up 2 ∷ analog 0 5 ∷ analog 2 6 ∷ asks 0 StartGroupConversion ∷ asks 2 StartGroupConversion ∷ starting ∷ Starts Adc1 None 0 ∷ ticks 4 ∷ serving 25 ∷ serving 25
    ∷ asks 2 ReadGroup ∷ asks 0 GetGroupStatus ∷ serving 24 ∷ asks 0 ReadGroup ∷ []
