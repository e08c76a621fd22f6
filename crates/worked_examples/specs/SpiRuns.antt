-- Small runs of the serial driver's machine, written out: the boards, what happens, and what is told.
use Rattle.std.specs.Prelude.{ℕ, Bool, true, false, List, [], ◌∷◌, ◌++◌, Option, Some, None}
use Rattle.mcal_base.specs.declared.config.spi.SpiChannelType.TheVariants as types
use Rattle.mcal_base.specs.declared.directive.Order.TheVariants.{Tick, Miso, Fill, SpiFault}
use Rattle.mcal_base.specs.declared.directive.Reason.TheVariants.{PowerOn}
use Rattle.mcal_base.specs.declared.module_name.ModuleName.TheVariants.{Spi, Gpt}
use Rattle.mcal_base.specs.declared.moves.Unit.TheVariants.{Spi0, Spi1}
use Rattle.run_model.specs.declared.class.Tag.{Tag}
use Rattle.run_model.specs.World.{World, world_start, world_after}
use Rattle.run_model.specs.Machine.{Happening, Serves, Starts, Moves, Restarts, Told, Begun}
use Rattle.worked_examples.specs.Told.{told, begun, state_after, at_rate, ticks, acting}
use Rattle.spi_machine.specs.Bounds.{class_of}
use Rattle.spi_machine.specs.Machine.{spi_machine}
use Rattle.spi_machine.specs.State.{SpiState, first_state, channel_at}
use Rattle.spi_machine.specs.Numbered.{first_items}
use Rattle.spi_machine.specs.Table.{table_of}
use Rattle.spi_machine.specs.declared.call.AsyncMode.TheVariants as modes
use Rattle.spi_machine.specs.declared.call.Call.{Call}
use Rattle.spi_machine.specs.declared.call.Call.TheVariants.{Init, DeInit, SetAsyncMode, MainFunctionHandling, Channel, Sequence, Get}
use Rattle.spi_machine.specs.declared.call.ChannelCall.TheVariants.{WriteIb, ReadIb, SetupEb}
use Rattle.spi_machine.specs.declared.call.Pointer.{Pointer}
use Rattle.spi_machine.specs.declared.call.Pointer.TheVariants.{Users, Null}
use Rattle.spi_machine.specs.declared.call.Query.TheVariants.{Status, JobResult, SequenceResult, HwUnitStatus}
use Rattle.spi_machine.specs.declared.call.SequenceCall.TheVariants.{AsyncTransmit, Cancel, SyncTransmit}
use Rattle.spi_machine.specs.declared.table.SpiTable.{SpiTable}

-- ---- boards

-- an internal channel of two words and an external one, four jobs on one unit, and three interruptible sequences: of jobs 0, 1 and 3, of job 0, and of job 2
abbrev pub three_sequences : SpiTable
three_sequences = table_of (record {
  dev_error_detect = true;
  classification = 1;
  levels = 4 ∷ 4 ∷ [];
  sync_units = [];
  channels =
      record { id = 0; channel_type = types.Internal 2; data_width = 8; default_data = 255 }
      ∷ record { id = 1; channel_type = types.External 4; data_width = 16; default_data = 0 }
      ∷ [];
  jobs =
      record { id = 0; priority = 1; end_notification = true; channel_list = 0 ∷ []; unit = 0; select = None }
      ∷ record { id = 1; priority = 0; end_notification = false; channel_list = 1 ∷ []; unit = 0; select = None }
      ∷ record { id = 2; priority = 3; end_notification = false; channel_list = 0 ∷ []; unit = 0; select = None }
      ∷ record { id = 3; priority = 0; end_notification = false; channel_list = 1 ∷ []; unit = 0; select = None }
      ∷ [];
  sequences =
      record { id = 0; interruptible = true; job_assignment = 0 ∷ 1 ∷ 3 ∷ []; end_notification = true }
      ∷ record { id = 1; interruptible = true; job_assignment = 0 ∷ []; end_notification = false }
      ∷ record { id = 2; interruptible = true; job_assignment = 2 ∷ []; end_notification = true }
      ∷ [];
})

-- one internal channel of one word, and two sequences on one unit: one of two jobs of the lowest priority, which isn't interruptible, and one of a job of the highest
abbrev pub two_sequences : SpiTable
two_sequences = table_of (record {
  dev_error_detect = true;
  classification = 1;
  levels = 1 ∷ 1 ∷ [];
  sync_units = [];
  channels = record { id = 0; channel_type = types.Internal 1; data_width = 4; default_data = 65535 } ∷ [];
  jobs =
      record { id = 0; priority = 0; end_notification = true; channel_list = 0 ∷ []; unit = 1; select = None }
      ∷ record { id = 1; priority = 0; end_notification = true; channel_list = 0 ∷ []; unit = 1; select = None }
      ∷ record { id = 2; priority = 3; end_notification = true; channel_list = 0 ∷ []; unit = 1; select = None }
      ∷ [];
  sequences =
      record { id = 0; interruptible = false; job_assignment = 0 ∷ 1 ∷ []; end_notification = true }
      ∷ record { id = 1; interruptible = true; job_assignment = 2 ∷ []; end_notification = true }
      ∷ [];
})

-- an external channel of so many words, with or without a device, and with or without a notice of its sequence
abbrev pub plain_board : (words : ℕ) → (select : Option ℕ) → (notifies : Bool) → SpiTable
plain_board n select notifies = table_of (record {
  dev_error_detect = true;
  classification = 1;
  levels = 1 ∷ 1 ∷ [];
  sync_units = [];
  channels = record { id = 0; channel_type = types.External n; data_width = 16; default_data = 0 } ∷ [];
  jobs = record { id = 0; priority = 0; end_notification = false; channel_list = 0 ∷ []; unit = 0; select = select } ∷ [];
  sequences = record { id = 0; interruptible = false; job_assignment = 0 ∷ []; end_notification = notifies } ∷ [];
})

-- two words for a device at place 0 with no notice, and four for no device with a notice
abbrev pub device_board : SpiTable
device_board = plain_board 2 (Some 0) false

abbrev pub noting_board : SpiTable
noting_board = plain_board 4 None true

-- two words for a device at place 0, of a unit that sends while a call waits
abbrev pub waiting_board : SpiTable
waiting_board = table_of (record {
  dev_error_detect = true;
  classification = 1;
  levels = 1 ∷ 1 ∷ [];
  sync_units = 0 ∷ [];
  channels = record { id = 0; channel_type = types.External 2; data_width = 16; default_data = 0 } ∷ [];
  jobs = record { id = 0; priority = 0; end_notification = true; channel_list = 0 ∷ []; unit = 0; select = Some 0 } ∷ [];
  sequences = record { id = 0; interruptible = false; job_assignment = 0 ∷ []; end_notification = true } ∷ [];
})

-- an internal channel of one word and an external one of at most two, and three interruptible sequences of a job each on one unit, all of one priority
abbrev pub equal_sequences : SpiTable
equal_sequences = table_of (record {
  dev_error_detect = true;
  classification = 1;
  levels = 1 ∷ 1 ∷ [];
  sync_units = [];
  channels =
      record { id = 0; channel_type = types.Internal 1; data_width = 8; default_data = 255 }
      ∷ record { id = 1; channel_type = types.External 2; data_width = 12; default_data = 43981 }
      ∷ [];
  jobs =
      record { id = 0; priority = 1; end_notification = false; channel_list = 1 ∷ 0 ∷ []; unit = 0; select = None }
      ∷ record { id = 1; priority = 1; end_notification = true; channel_list = 0 ∷ []; unit = 0; select = None }
      ∷ record { id = 2; priority = 1; end_notification = false; channel_list = 0 ∷ []; unit = 0; select = None }
      ∷ [];
  sequences =
      record { id = 0; interruptible = true; job_assignment = 0 ∷ []; end_notification = true }
      ∷ record { id = 1; interruptible = true; job_assignment = 1 ∷ []; end_notification = true }
      ∷ record { id = 2; interruptible = true; job_assignment = 2 ∷ []; end_notification = true }
      ∷ [];
})

-- ---- what is told

-- from power on
abbrev pub told_on : SpiTable → List (Happening Call) → List (Option Told)
told_on d hs = told (spi_machine d) first_state hs

-- the state that is left, and the words that began
abbrev pub left : SpiTable → List (Happening Call) → SpiState
left d hs = state_after (spi_machine d) first_state hs

abbrev pub begun_on : SpiTable → List (Happening Call) → List Begun
begun_on d hs = begun (spi_machine d) first_state hs

-- what is told and the state that is left where a tick is four peripheral ones
abbrev pub told_at_four : SpiTable → List (Happening Call) → List (Option Told)
told_at_four d hs = told (at_rate 4 (spi_machine d)) first_state hs

abbrev pub left_at_four : SpiTable → List (Happening Call) → SpiState
left_at_four d hs = state_after (at_rate 4 (spi_machine d)) first_state hs

-- the first places of a channel's arrays
abbrev pub source_of : SpiState → (channel count : ℕ) → List ℕ
source_of s c n = first_items 0 n (channel_at s c).source

abbrev pub destination_of : SpiState → (channel count : ℕ) → List ℕ
destination_of s c n = first_items 0 n (channel_at s c).destination

-- a word begins on the first unit
abbrev pub word : (sent width : ℕ) → (device : Option ℕ) → Begun
word sent width device = record { unit = 0; word = sent; width = width; device = device }

-- ---- what happens

-- the source array of channel 0 is filled
abbrev pub filling : List ℕ → Happening Call
filling ws = Moves (Fill 0 ws)

-- a sequence is requested; the main function is called; results are asked for
abbrev pub transmits : ℕ → Happening Call
transmits q = acting (Sequence q AsyncTransmit)

abbrev pub polling : Happening Call
polling = acting MainFunctionHandling

abbrev pub job_asked : ℕ → Happening Call
job_asked j = acting (Get (JobResult j))

abbrev pub sequence_asked : ℕ → Happening Call
sequence_asked q = acting (Get (SequenceResult q))

abbrev pub unit_asked : ℕ → Happening Call
unit_asked u = acting (Get (HwUnitStatus u))

-- a sequence is cancelled
abbrev pub cancels : ℕ → Happening Call
cancels q = acting (Sequence q Cancel)

-- the first unit starts its next job, and its line is served, which may begin a word; this comes in
abbrev pub starting : ℕ → Happening Call
starting received = Starts Spi0 None received

abbrev pub serving : ℕ → Happening Call
serving received = Serves 26 received

-- the word in transfer is done and polled, and this comes in with the next one
abbrev pub polled : ℕ → List (Happening Call)
polled received = ticks 8 ∷ polling ∷ serving received ∷ []

-- a sequence is requested twice, and another one that has a job in common with it
abbrev pub requests_run : List (Happening Call)
requests_run =
    acting Init ∷ transmits 0 ∷ starting 65535 ∷ transmits 0 ∷ transmits 1 ∷ sequence_asked 0 ∷ job_asked 0 ∷ job_asked 1 ∷ acting (Get Status) ∷ []

-- two sequences are requested and polled to the end of the second one
abbrev pub priorities_run : List (Happening Call)
priorities_run =
    acting Init ∷ transmits 0 ∷ starting 65535 ∷ transmits 2
    ∷ ticks 8 ∷ polling ∷ serving 65535 ∷ ticks 8 ∷ polling ∷ serving 0 ∷ starting 65535 ∷ job_asked 2 ∷ job_asked 1
    ∷ ticks 8 ∷ polling ∷ serving 65535 ∷ ticks 8 ∷ polling ∷ serving 0 ∷ starting 65535 ∷ sequence_asked 2 ∷ job_asked 1 ∷ []

-- a sequence is cancelled during the first of its three jobs
abbrev pub cancel_run : List (Happening Call)
cancel_run =
    acting Init ∷ acting (SetAsyncMode modes.Interrupt) ∷ acting (Channel 0 (WriteIb Null)) ∷ Moves (Miso 0 (17 ∷ 34 ∷ [])) ∷ transmits 0 ∷ starting 17
    ∷ ticks 8 ∷ cancels 0 ∷ serving 34 ∷ sequence_asked 0 ∷ ticks 8 ∷ serving 0
    ∷ sequence_asked 0 ∷ job_asked 0 ∷ job_asked 1 ∷ acting (Channel 0 ReadIb) ∷ []

-- a source is filled, and its words are sent for a device; this comes in
abbrev pub device_run : (words : List ℕ) → (first second : ℕ) → List (Happening Call)
device_run ws first second =
    acting Init ∷ filling ws ∷ acting (Channel 0 (SetupEb Users Users 2)) ∷ transmits 0 ∷ starting first
    ∷ ticks 8 ∷ polling ∷ serving second ∷ ticks 8 ∷ polling ∷ serving 0 ∷ sequence_asked 0 ∷ job_asked 0 ∷ []

-- a call of this sequence begins a word, with which this comes in, and acts
abbrev pub sending : (sequence received : ℕ) → Happening Call
sending q received = Starts Spi0 (Some (Sequence q SyncTransmit)) received

abbrev pub sent : (sequence : ℕ) → Happening Call
sent q = acting (Sequence q SyncTransmit)

-- a call sends two words, and waits for each; before it is refused what the other kind of transmission asks, and in it
-- what comes too early
abbrev pub sent_run : List (Happening Call)
sent_run =
    acting Init ∷ filling (240 ∷ 0 ∷ []) ∷ acting (Channel 0 (SetupEb Users Users 2)) ∷ transmits 0 ∷ starting 65295 ∷ sending 0 65295
    ∷ sequence_asked 0 ∷ ticks 7 ∷ sending 0 65535 ∷ sent 0 ∷ ticks 1 ∷ sent 0 ∷ sending 0 65535 ∷ ticks 8 ∷ sending 0 0 ∷ sent 0
    ∷ sequence_asked 0 ∷ job_asked 0 ∷ []

-- its first word is refused by the device
abbrev pub refused_run : List (Happening Call)
refused_run =
    acting Init ∷ acting (Channel 0 (SetupEb Users Users 2)) ∷ sending 0 65536 ∷ ticks 8 ∷ sending 0 65535 ∷ sent 0 ∷ sequence_asked 0 ∷ job_asked 0
    ∷ unit_asked 0 ∷ []

-- an internal channel is written a second time while a job sends its words, and before the job starts
abbrev pub written_in_transfer_run : List (Happening Call)
written_in_transfer_run =
    acting Init ∷ filling (1 ∷ 2 ∷ []) ∷ acting (Channel 0 (WriteIb Users)) ∷ filling (3 ∷ 4 ∷ []) ∷ transmits 2 ∷ starting 65535 ∷ acting (Channel 0 (WriteIb Users))
    ∷ ticks 8 ∷ polling ∷ serving 65535 ∷ ticks 8 ∷ polling ∷ serving 0 ∷ []

abbrev pub written_before_run : List (Happening Call)
written_before_run =
    acting Init ∷ filling (1 ∷ 2 ∷ []) ∷ acting (Channel 0 (WriteIb Users)) ∷ filling (3 ∷ 4 ∷ []) ∷ acting (Channel 0 (WriteIb Users)) ∷ transmits 2 ∷ starting 65535
    ∷ ticks 8 ∷ polling ∷ serving 65535 ∷ ticks 8 ∷ polling ∷ serving 0 ∷ []

-- the status is asked while an internal channel is written
abbrev pub writing_run : List (Happening Call)
writing_run = acting Init ∷ acting (Get Status) ∷ acting (Channel 0 (WriteIb Users)) ∷ []

-- the chip is reset while a done word waits
abbrev pub reset_run : List (Happening Call)
reset_run = acting Init ∷ transmits 0 ∷ starting 65535 ∷ ticks 8 ∷ Restarts PowerOn ∷ acting (Get Status) ∷ acting Init ∷ sequence_asked 0 ∷ []

abbrev pub up_to_reset : List (Happening Call)
up_to_reset = acting Init ∷ transmits 0 ∷ starting 65535 ∷ ticks 8 ∷ Restarts PowerOn ∷ []

-- two words are sent at a rate of 4, and all ones come in
abbrev pub rated_run : List (Happening Call)
rated_run =
    acting Init ∷ filling (4660 ∷ 43981 ∷ []) ∷ acting (Channel 0 (SetupEb Users Users 2)) ∷ transmits 0 ∷ starting 65535
    ∷ ticks 2 ∷ polling ∷ serving 65535 ∷ ticks 2 ∷ polling ∷ serving 0 ∷ sequence_asked 0 ∷ []

-- a fault comes while the second word is in transfer, and one that comes too late
abbrev pub fault_run : List (Happening Call)
fault_run =
    acting Init ∷ transmits 0 ∷ starting 17 ∷ ticks 8 ∷ Moves (SpiFault 0) ∷ polling ∷ serving 34 ∷ ticks 7 ∷ Moves (SpiFault 0) ∷ serving 0 ∷ ticks 1 ∷ polling ∷ serving 0
    ∷ sequence_asked 0 ∷ job_asked 0 ∷ job_asked 1 ∷ acting (Channel 0 ReadIb) ∷ []

-- a waiting sequence is cancelled
abbrev pub waiting_run : List (Happening Call)
waiting_run =
    acting Init ∷ transmits 2 ∷ starting 0 ∷ transmits 1 ∷ transmits 0 ∷ cancels 1 ∷ sequence_asked 1 ∷ job_asked 0
    ∷ cancels 1 ∷ starting 0 ∷ []

-- the sequence that isn't interruptible starts first, or the other one is requested before it starts
abbrev pub job_on_the_second_unit : List (Happening Call)
job_on_the_second_unit = Starts Spi1 None 65535 ∷ ticks 8 ∷ Serves 27 0 ∷ []

abbrev pub uninterrupted_run : List (Happening Call)
uninterrupted_run =
    acting Init ∷ transmits 0 ∷ Starts Spi1 None 65535 ∷ transmits 1 ∷ acting (Channel 0 ReadIb) ∷ ticks 8 ∷ Serves 27 0
    ∷ acting (Channel 0 ReadIb) ∷ job_on_the_second_unit ++ job_on_the_second_unit

abbrev pub overtaken_run : List (Happening Call)
overtaken_run = acting Init ∷ transmits 0 ∷ transmits 1 ∷ job_on_the_second_unit ++ job_on_the_second_unit ++ job_on_the_second_unit

-- up to a done word, in interrupt mode and in polling mode
abbrev pub interrupt_run : List (Happening Call)
interrupt_run = acting Init ∷ acting (SetAsyncMode modes.Interrupt) ∷ transmits 0 ∷ starting 65535 ∷ ticks 8 ∷ []

abbrev pub polling_run : List (Happening Call)
polling_run = acting Init ∷ transmits 0 ∷ starting 65535 ∷ ticks 8 ∷ []

-- 8 peripheral ticks after power on
abbrev pub eight_later : World
eight_later = world_after (world_start 0) 1 (Tick 8)

-- ---- sequences of one priority

-- three sequences are requested, the first one is cancelled while it runs, and the next job starts
abbrev pub equals_start : List (Happening Call)
equals_start =
    transmits 0 ∷ acting Init ∷ acting Init ∷ transmits 0 ∷ starting 65535 ∷ transmits 2 ∷ transmits 1
    ∷ acting DeInit ∷ acting (SetAsyncMode modes.Interrupt) ∷ unit_asked 0 ∷ unit_asked 1 ∷ unit_asked 2
    ∷ polled 65535 ++ polled 65535 ++ ticks 8 ∷ cancels 0 ∷ polling ∷ serving 0 ∷ starting 65535 ∷ []

-- the others follow, one with a fault, and that one is requested again and cancelled while it waits
abbrev pub equals_run : List (Happening Call)
equals_run =
    equals_start ++ Moves (SpiFault 0) ∷ cancels 2 ∷ polled 0 ++ job_asked 2 ∷ sequence_asked 2 ∷ starting 65535 ∷ polled 0
    ++ transmits 1 ∷ starting 65535 ∷ transmits 2 ∷ cancels 2 ∷ job_asked 2 ∷ []

-- the external channel is filled and set up, and its job runs
abbrev pub set_up_run : (source destination : Pointer) → (count : ℕ) → List (Happening Call)
set_up_run source destination count =
    acting Init ∷ Moves (Fill 1 (7 ∷ 4104 ∷ [])) ∷ acting (Channel 1 (SetupEb source destination count)) ∷ transmits 0 ∷ starting 4660 ∷ polled 4661 ++ polled 4662 ++ polled 4663

-- the internal channel is written from its source, sent, and written with default data
abbrev pub wide_start : List (Happening Call)
wide_start = acting Init ∷ filling (4660 ∷ []) ∷ acting (Channel 0 (WriteIb Users)) ∷ []

abbrev pub wide_run : List (Happening Call)
wide_run = wide_start ++ transmits 1 ∷ starting 17 ∷ polled 0 ++ acting (Channel 0 (WriteIb Null)) ∷ []

-- after jobs that ended well and failed the module is deinitialised, and initialised again
abbrev pub renewed_start : List (Happening Call)
renewed_start =
    wide_start ++ Moves (Fill 1 (7 ∷ 8 ∷ [])) ∷ acting (Channel 1 (SetupEb Users Users 1)) ∷ transmits 2 ∷ starting 17 ∷ polled 0
    ++ transmits 1 ∷ starting 18 ∷ Moves (SpiFault 0) ∷ polled 0 ++ job_asked 1 ∷ sequence_asked 1 ∷ acting (Channel 0 ReadIb) ∷ []

abbrev pub renewed_run : List (Happening Call)
renewed_run =
    renewed_start ++ acting DeInit ∷ acting (Get Status) ∷ job_asked 1 ∷ acting (Channel 0 ReadIb) ∷ acting Init ∷ acting (Get Status)
    ∷ job_asked 1 ∷ sequence_asked 1 ∷ acting (Channel 0 ReadIb) ∷ transmits 0 ∷ starting 65535 ∷ polled 65535 ++ polled 65535

-- ---- further runs

-- a job fails, its other sequence runs it well and is then cancelled while a job of a third one runs
abbrev pub between_run : List (Happening Call)
between_run =
    acting Init ∷ transmits 1 ∷ starting 65535 ∷ Moves (SpiFault 0) ∷ polled 0 ++ job_asked 0 ∷ transmits 0 ∷ starting 65535 ∷ transmits 2 ∷ polled 65535 ++ polled 0
    ++ starting 65535 ∷ cancels 0 ∷ sequence_asked 0 ∷ job_asked 0 ∷ job_asked 1 ∷ job_asked 2 ∷ polled 65535 ++ polled 0 ++ sequence_asked 2 ∷ []

-- a fault comes on one unit while a job runs on the second one
abbrev pub fault_on : ℕ → List (Happening Call)
fault_on u = acting Init ∷ transmits 1 ∷ Starts Spi1 None 65535 ∷ Moves (SpiFault u) ∷ ticks 8 ∷ Serves 27 0 ∷ sequence_asked 1 ∷ job_asked 2 ∷ []

-- ---- frames

-- a call of the serial driver, and the handler of a timer's line
abbrev pub asking_tag : Call → (level : ℕ) → Tag
asking_tag call level = record { level = level; owner = Spi; class = Some (class_of call) }

abbrev pub timer_tag : (level : ℕ) → Tag
timer_tag level = record { level = level; owner = Gpt; class = None }

-- a query over a query and a timer's handler, and six more queries over these
abbrev pub status_tag : (level : ℕ) → Tag
status_tag level = asking_tag (Get Status) level

abbrev pub two_frames : List Tag
two_frames = timer_tag 1 ∷ status_tag 0 ∷ []

abbrev pub eight_frames : List Tag
eight_frames = status_tag 6 ∷ status_tag 5 ∷ status_tag 4 ∷ status_tag 3 ∷ status_tag 2 ∷ status_tag 1 ∷ two_frames
