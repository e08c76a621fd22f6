-- A legal journal of a board whose configuration is valid keeps what is promised of it.
use Rattle.std.proofs.Common.{◌≡◌, ℕ, ◌≤◌, List, [], Option, Some, None, refl, arith}
use Rattle.mcal_base.specs.declared.config.whole.Config.{Config}
use Rattle.mcal_base.specs.declared.directive.Directive.{Directive}
use Rattle.run_model.specs.Entry.{Entry}
use Rattle.run_model.specs.Legal.{IsLegal}
use Rattle.run_model.specs.Moment.{start_moment}
use Rattle.script_runner.specs.Scripts.{LinesRise, IsRun, IsStopped, chip_for}
use Rattle.config_facts.specs.Valid.{IsValid}
use Rattle.adc_machine.specs.Machine.{adc_machine}
use Rattle.adc_machine.specs.Table as converter_table
use Rattle.adc_machine.specs.Turns as groups
use Rattle.spi_machine.specs.Fits.{FitsSpi}
use Rattle.spi_machine.specs.Machine.{spi_machine}
use Rattle.spi_machine.specs.Promised.{HasPriorities}
use Rattle.spi_machine.specs.State as sequences
use Rattle.spi_machine.specs.Table.{job_of, priority_by}
use Rattle.spi_machine.specs.Table as serial_table
use Rattle.spi_machine.specs.declared.table.Job.{Job}
use Rattle.spi_machine.specs.declared.table.SpiTable.{SpiTable}
use Rattle.spi_driver.specs.laws.words.ConfigurationFits as serial_fits
use Rattle.board_promises.proofs.EndsOnce.{end_once}
use Rattle.board_promises.proofs.WholeRounds.{whole_rounds}
use Rattle.board_promises.proofs.Promises.{groups_keep, sequences_keep, part_allowed, journal_says}
use Rattle.board_promises.proofs.EndResults.{all_ended_as}
use Rattle.board_promises.proofs.RoundStories.{all_served_right}
use Rattle.board_promises.proofs.SentCalls.{all_sent_so}
use Rattle.mcal_drivers.proofs.SoundSerial.{sound_serial}
use Rattle.mcal_drivers.specs.Setting.{system_setting, call_of}
use Rattle.board_promises.specs.Expiries.{ResetsInTime}
use Rattle.board_promises.specs.Places.{converter_place, serial_place}
use Rattle.board_promises.specs.Promised.{KeepsPromises, deeds_in, group_events, sequence_events}
use Rattle.board_promises.proofs.Expiries.{ends_in_time, whole_in_time, stopped_in_time}
use Rattle.board_promises.proofs.Parts.{converter_part, serial_part}
use Rattle.board_promises.proofs.PortReads.{all_read}
use Rattle.board_promises.proofs.Watchdog.{system_down}

-- the jobs of a configuration that is valid have the priorities 0 to 3
has_priorities : (d : SpiTable) → FitsSpi d → HasPriorities d
has_priorities d fits job = by (job_of d job) refl
  where
    by : (k : Option Job) → job_of d job ≡ k → priority_by k ≤ 3
    by None e = omega arith
    by (Some k) e = (fits.jobs job k e).priority

promises_kept : (devices : ℕ) (c : Config) (script : List Directive) (journal : List Entry) → IsValid c → IsLegal (system_setting c) (start_moment (system_setting c) (chip_for devices c script)) (deeds_in script journal)
    → ResetsInTime (system_setting c) call_of script (start_moment (system_setting c) (chip_for devices c script)) journal → KeepsPromises devices c script journal
unfolding system_setting
promises_kept devices c script journal valid legal resets =
    let rounds = groups_keep (converter_table.table_of c.adc) (system_setting c) (converter_place c) (converter_part c) refl (chip_for devices c script) (deeds_in script journal) legal in
    let kept = sequences_keep (serial_table.table_of c.spi) (system_setting c) (serial_place c) (serial_part c) refl (chip_for devices c script) (deeds_in script journal) legal in
    record {
      rounds = rounds.whole;
      served = all_served_right (converter_table.table_of c.adc) (group_events devices c script journal) (part_allowed (adc_machine (converter_table.table_of c.adc)) groups.first_state (system_setting c) (converter_place c) (converter_part c) refl (chip_for devices c script) (deeds_in script journal) legal);
      order = kept.order (has_priorities (serial_table.table_of c.spi) (serial_fits.fits_of c.spi (sound_serial c.spi valid.spi)));
      results = kept.results;
      ends = kept.ends;
      ends_as = all_ended_as (serial_table.table_of c.spi) (sequence_events devices c script journal) (part_allowed (spi_machine (serial_table.table_of c.spi)) sequences.first_state (system_setting c) (serial_place c) (serial_part c) refl (chip_for devices c script) (deeds_in script journal) legal);
      sent = all_sent_so (serial_table.table_of c.spi) (sequence_events devices c script journal) (part_allowed (spi_machine (serial_table.table_of c.spi)) sequences.first_state (system_setting c) (serial_place c) (serial_part c) refl (chip_for devices c script) (deeds_in script journal) legal);
      frames = journal_says (system_setting c) (chip_for devices c script) (deeds_in script journal) legal;
      expiry = ends_in_time (system_setting c) (start_moment (system_setting c) (chip_for devices c script)) (deeds_in script journal) legal;
      watchdog = resets;
      reads = all_read c valid (start_moment (system_setting c) (chip_for devices c script)) (deeds_in script journal);
    }

-- of a journal that follows its script, or follows it up to a stop
pub followed_keeps : (devices : ℕ) (c : Config) (script : List Directive) (journal : List Entry) → IsValid c → LinesRise 0 script → IsRun (system_setting c) (chip_for devices c script) call_of script journal → KeepsPromises devices c script journal
followed_keeps devices c script journal valid rise run =
    promises_kept devices c script journal valid run.legal (whole_in_time (system_setting c) call_of (system_down c) script (start_moment (system_setting c) (chip_for devices c script)) journal rise run.follows)

pub stopped_keeps : (devices : ℕ) (c : Config) (script : List Directive) (journal : List Entry) (most : ℕ) → IsValid c → LinesRise 0 script → IsStopped (system_setting c) (chip_for devices c script) call_of most script journal → KeepsPromises devices c script journal
stopped_keeps devices c script journal most valid rise run =
    promises_kept devices c script journal valid run.legal (stopped_in_time (system_setting c) call_of (system_down c) script (start_moment (system_setting c) (chip_for devices c script)) journal rise run.follows)

-- and so does a journal of nothing, under any configuration
pub nothing_kept : (devices : ℕ) (c : Config) (script : List Directive) → KeepsPromises devices c script []
nothing_kept devices c script = record {
  rounds = whole_rounds (converter_table.table_of c.adc) [] tt;
  served = tt;
  order = tt;
  results = tt;
  ends = λ sequence. end_once (serial_table.table_of c.spi) [] sequence tt;
  ends_as = tt;
  sent = tt;
  frames = tt;
  expiry = tt;
  watchdog = tt;
  reads = tt;
}
