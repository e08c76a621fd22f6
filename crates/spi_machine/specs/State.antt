-- The state of the serial driver, and what is told.
use Rattle.std.specs.Prelude.{ℕ, ◌==◌, nat_eq, Bool, true, false, ◌||◌, not, if◌then◌else◌, List, [], ◌∷◌, length, Option, Some, None, is_some, slice_index_or}
use Rattle.std.specs.List.{list_any}
use Rattle.mcal_base.specs.declared.answer_name.AnswerName.{AnswerName}
use Rattle.mcal_base.specs.declared.notice.Notice.{Notice}
use Rattle.mcal_base.specs.declared.notice.NoticeKind.TheVariants.{SpiJobEndNotification, SpiSeqEndNotification}
use Rattle.run_model.specs.Machine.{Told, no_answer}
use Rattle.spi_machine.specs.declared.call.AsyncMode.{AsyncMode}
use Rattle.spi_machine.specs.declared.call.AsyncMode.TheVariants as modes
use Rattle.spi_machine.specs.declared.table.SpiTable.{SpiTable}
use Rattle.spi_machine.specs.Channels.{ChannelState, untouched}
use Rattle.spi_machine.specs.Numbered.{with_item, word_at}
use Rattle.spi_machine.specs.Pending.{Pending, is_in_use, uses_channel}
use Rattle.spi_machine.specs.Table.{job_of, sequence_of, jobs_of, notifies_job, notifies_sequence}
use Rattle.spi_machine.specs.Transfers.{Run}

-- uninitialised, or the asynchronous mode of an initialised module
pub data Mode : Type 0 where
  Off : Mode
  Polling : Mode
  Interrupt : Mode

-- What a unit carries out for one call: the call's sequence, and its job that runs. Of the entry the request, the start
-- and the cancel mean nothing here.
pub record Carrying : Type 0 where
  pub entry : Pending
  pub run : Run

-- The module. Lists are by number; what isn't there is as it was at first.
pub record SpiState : Type 0 where
  pub mode : Mode
  pub channels : List ChannelState
  -- the results of jobs and of sequences
  pub job_results : List AnswerName
  pub sequence_results : List AnswerName
  -- the pending sequences, in the order of their requests, and how many requests there were
  pub pending : List Pending
  pub requests : ℕ
  -- what each unit runs, where it isn't free
  pub units : List (Option Run)
  -- what each unit carries out for a call of Spi_SyncTransmit, where it isn't free
  pub carried : List (Option Carrying)
  -- each word that was begun since the last reset on each unit: what was sent, and what came in
  pub wires : List (List (ℕ × ℕ))

-- after power on and after a reset
abbrev pub first_state : SpiState
first_state = record { mode = Off; channels = []; job_results = []; sequence_results = []; pending = []; requests = 0; units = []; carried = []; wires = [] }

abbrev pub is_off : Mode → Bool
is_off Off = true
is_off Polling = false
is_off Interrupt = false

abbrev pub is_polling : Mode → Bool
is_polling Off = false
is_polling Polling = true
is_polling Interrupt = false

abbrev pub is_interrupt : Mode → Bool
is_interrupt Off = false
is_interrupt Polling = false
is_interrupt Interrupt = true

abbrev pub mode_of : AsyncMode → Mode
mode_of modes.Polling = Polling
mode_of modes.Interrupt = Interrupt

-- ---- the parts of a state

abbrev pub channel_at : SpiState → ℕ → ChannelState
channel_at s c = slice_index_or s.channels c untouched

abbrev pub with_channel : SpiState → ℕ → ChannelState → SpiState
with_channel s c x = record s { channels = with_item untouched s.channels c x }

-- a word of an internal channel by its place: of those that were received, or of those to send
abbrev pub internal_word : SpiState → (channel : ℕ) → (received : Bool) → (place : ℕ) → ℕ
internal_word s c received i = word_at (if received then (channel_at s c).received else (channel_at s c).written) i

abbrev pub run_at : SpiState → ℕ → Option Run
run_at s u = slice_index_or s.units u None

abbrev pub with_run : SpiState → ℕ → Option Run → SpiState
with_run s u r = record s { units = with_item None s.units u r }

abbrev pub wire_at : SpiState → ℕ → List (ℕ × ℕ)
wire_at s u = slice_index_or s.wires u []

abbrev pub carried_at : SpiState → ℕ → Option Carrying
carried_at s u = slice_index_or s.carried u None

abbrev pub with_carried : SpiState → ℕ → Option Carrying → SpiState
with_carried s u x = record s { carried = with_item None s.carried u x }

-- a sequence is pending, or a unit carries one out
abbrev pub is_busy : SpiState → Bool
is_busy s = not (nat_eq (length s.pending) 0) || list_any is_some s.carried

-- a pending sequence, or one that a unit carries out, uses a channel
abbrev pub carries_channel : SpiTable → (channel : ℕ) → Option Carrying → Bool
carries_channel d c None = false
carries_channel d c (Some x) = list_any (uses_channel d c) (jobs_of d x.entry.sequence)

abbrev pub uses : SpiTable → SpiState → (channel : ℕ) → Bool
uses d s c = is_in_use d c s.pending || list_any (carries_channel d c) s.carried

-- a unit runs a job of the sequence
abbrev pub runs_sequence : (sequence : ℕ) → Option Run → Bool
runs_sequence q None = false
runs_sequence q (Some r) = r.sequence == q

abbrev pub is_running : SpiState → (sequence : ℕ) → Bool
is_running s q = list_any (runs_sequence q) s.units

-- ---- what is told

-- a notice, where it is configured
abbrev pub job_notice : SpiTable → ℕ → List Notice
job_notice d j = if notifies_job (job_of d j) then (record { kind = SpiJobEndNotification; id = j }) ∷ [] else []

abbrev pub sequence_notice : SpiTable → ℕ → List Notice
sequence_notice d q = if notifies_sequence (sequence_of d q) then (record { kind = SpiSeqEndNotification; id = q }) ∷ [] else []

abbrev pub notes : List Notice → Told
notes ns = record { answer = no_answer; error = None; notices = ns }
