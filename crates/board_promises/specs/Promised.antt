-- What is promised of a whole run of a board, over the events of its journal.
use Rattle.std.specs.Prelude.{ℕ, List}
use Rattle.mcal_base.specs.declared.config.whole.Config.{Config}
use Rattle.mcal_base.specs.declared.directive.Directive.{Directive}
use Rattle.run_model.specs.Entry.{Entry}
use Rattle.run_model.specs.Moment.{Transition, start_moment}
use Rattle.run_model.specs.Script.{deeds_of}
use Rattle.script_runner.specs.Scripts.{chip_for}
use Rattle.adc_machine.specs.Table as converter_table
use Rattle.adc_machine.specs.declared.call.Call as converter
use Rattle.spi_machine.specs.Table as serial_table
use Rattle.spi_machine.specs.declared.call.Call as serial
use Rattle.board_promises.specs.whole_runs.Ends.{AreEnded, HasOneEnd}
use Rattle.board_promises.specs.whole_runs.GroupRuns as groups
use Rattle.board_promises.specs.whole_runs.Order.{AreInOrder}
use Rattle.board_promises.specs.whole_runs.Promises.{part_events, FramesSay}
use Rattle.board_promises.specs.whole_runs.Rounds.{AreWhole}
use Rattle.board_promises.specs.whole_runs.Runs.{Event}
use Rattle.board_promises.specs.whole_runs.SequenceRuns as sequences
use Rattle.board_promises.specs.run_laws.Results.{AreEndedAs}
use Rattle.board_promises.specs.run_laws.Rounds.{AreServedRight}
use Rattle.board_promises.specs.run_laws.Sent.{AreSent}
use Rattle.mcal_drivers.specs.Setting.{SystemCall, system_setting, call_of}
use Rattle.board_promises.specs.Expiries.{EndsInTime, ResetsInTime}
use Rattle.board_promises.specs.Places.{converter_place, serial_place}
use Rattle.board_promises.specs.PortReads.{ReadAtOnce}

-- the deeds of a journal, and those of its events that are of converter groups or of the serial driver, the newest first
abbrev pub deeds_in : List Directive → List Entry → List (Transition SystemCall)
deeds_in script journal = deeds_of call_of script journal

abbrev pub group_events : (devices : ℕ) → Config → List Directive → List Entry → List (Event converter.Call)
group_events devices c script journal = part_events (system_setting c) (converter_place c) (chip_for devices c script) (deeds_in script journal)

abbrev pub sequence_events : (devices : ℕ) → Config → List Directive → List Entry → List (Event serial.Call)
sequence_events devices c script journal = part_events (system_setting c) (serial_place c) (chip_for devices c script) (deeds_in script journal)

-- A run from power on with so many serial devices keeps what is promised of it.
pub record KeepsPromises (devices : ℕ) (c : Config) (script : List Directive) (journal : List Entry) : Type 0 where
  -- an E_OK of a read hands out the newest round of its group that was served, and places and newest rounds change by such servings alone
  pub rounds : AreWhole (converter_table.table_of c.adc) (groups.seen_of (converter_table.table_of c.adc) (group_events devices c script journal))
  -- a request of a group that isn't continuous serves one round, and a round that is served was finished
  pub served : AreServedRight (converter_table.table_of c.adc) (group_events devices c script journal)
  -- each start of a serial unit that isn't one of SyncUnits starts the next job
  pub order : AreInOrder (serial_table.table_of c.spi) (sequences.seen_of (serial_table.table_of c.spi) (sequence_events devices c script journal))
  -- between an accepted request of a sequence and the next one there is one end, which tells its notice once
  pub results : AreEnded (serial_table.table_of c.spi) (sequences.seen_of (serial_table.table_of c.spi) (sequence_events devices c script journal))
  pub ends : (sequence : ℕ) → HasOneEnd sequence (sequences.seen_of (serial_table.table_of c.spi) (sequence_events devices c script journal))
  -- an end of a requested sequence gives the result that the events before it say: canceled, failed by a word of its own job, or OK with its last job
  pub ends_as : AreEndedAs (serial_table.table_of c.spi) (sequence_events devices c script journal)
  -- a call of Spi_SyncTransmit that ends with E_OK has sent all words of its sequence, in order, and stored what came in
  pub sent : AreSent (serial_table.table_of c.spi) (sequence_events devices c script journal)
  -- a frame that ends has given each notice that its events told, once, in their order, and prints the answer of its act
  pub frames : FramesSay (system_setting c) (chip_for devices c script) (deeds_in script journal)
  -- where the watchdog's time is over its reset comes next, and a reset by the watchdog that no directive asks for comes nowhere else
  pub expiry : EndsInTime (system_setting c) (start_moment (system_setting c) (chip_for devices c script)) (deeds_in script journal)
  pub watchdog : ResetsInTime (system_setting c) call_of script (start_moment (system_setting c) (chip_for devices c script)) journal
  -- what a read of a channel, a port or a group answers are the levels of all its pins at one moment, that of its act
  pub reads : ReadAtOnce c (start_moment (system_setting c) (chip_for devices c script)) (deeds_in script journal)
