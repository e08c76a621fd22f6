-- How what the program keeps stands for the machine's state: it is that state, list by list.
use Rattle.std.specs.Prelude.{ℕ, List, Option, Some, None}
use Rattle.mcal_base.specs.declared.answer_name.AnswerName.{AnswerName}
use Rattle.run_model.specs.Machine.{Outcome}
use Rattle.spi_machine.specs.Channels.{ChannelState}
use Rattle.spi_machine.specs.State.{SpiState, Carrying, carried_at, run_at}
use Rattle.spi_machine.specs.Machine.{pending_of}
use Rattle.spi_machine.specs.Pending.{Pending, next_job}
use Rattle.spi_machine.specs.Transfers.{Run}
use Rattle.spi_machine.specs.declared.table.SpiTable.{SpiTable}
use Rattle.audit_base.specs.Deeds.{beginning, came}
use Rattle.audit_base.specs.declared.done.Begun.{Begun}
use Rattle.audit_serial.specs.Carried.{UnitsKept}
use Rattle.audit_serial.specs.Queued.{QueueKept}
use Rattle.audit_serial.specs.Words.{mode_as}
use Rattle.audit_serial.specs.declared.serials.Mode.{Mode}
use Rattle.audit_serial.specs.declared.serials.Serials.{Serials}

-- the machine's state, by what is kept of each part
abbrev pub state_by : Mode → List ChannelState → (jobs sequences : List AnswerName) → QueueKept → UnitsKept → SpiState
state_by mode channels jobs sequences queue units = record {
  mode = mode_as mode;
  channels = channels;
  job_results = jobs;
  sequence_results = sequences;
  pending = queue.entries;
  requests = queue.requests;
  units = units.runs;
  carried = units.carried;
  wires = units.wires;
}

abbrev pub state_of : Serials → SpiState
state_of t = state_by t.mode t.channels t.job_results.items t.sequence_results.items t.queue t.units

-- what comes of a start: a word begins, and nothing is told
abbrev pub begins : SpiState → Begun → Outcome SpiState
begins s b = came s (beginning b)

-- ---- the job that a unit runs, or carries out for a call

abbrev pub job_of_entry : SpiTable → Option Pending → Option ℕ
job_of_entry d None = None
job_of_entry d (Some p) = Some (next_job d p)

abbrev pub job_of_run : SpiTable → SpiState → Option Run → Option ℕ
job_of_run d s None = None
job_of_run d s (Some r) = job_of_entry d (pending_of s r)

abbrev pub job_by : SpiTable → SpiState → Option Carrying → Option Run → Option ℕ
job_by d s None r = job_of_run d s r
job_by d s (Some x) r = Some (next_job d x.entry)

abbrev pub job_on : SpiTable → SpiState → (number : ℕ) → Option ℕ
job_on d s u = job_by d s (carried_at s u) (run_at s u)
