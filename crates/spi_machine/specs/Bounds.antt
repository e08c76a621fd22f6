-- How the serial driver's frames begin, what bounds them, and what a run of the module is over.
use Rattle.std.specs.Prelude.{◌≡◌, ◌<◌, Contains, ℕ, ◌+◌, ◌*◌, ◌^◌, ◌%◌, ◌==◌, nat_lt, Bool, true, false, ◌&&◌, ◌||◌, not, if◌then◌else◌, List, [], count_by, sum_by, flat_map, Option, Some, None, is_some, slice_index_or}
use Rattle.std.specs.List.{enumerate_from, list_any}
use Rattle.run_model.specs.Chip.{word_of}
use Rattle.mcal_base.specs.Layout.{is_within, own_start, place_of, start_of}
use Rattle.mcal_base.specs.declared.layout.Array.TheVariants.{Source, Destination}
use Rattle.mcal_base.specs.declared.module_name.ModuleName.{ModuleName}
use Rattle.mcal_base.specs.declared.module_name.ModuleName.TheVariants.{Spi}
use Rattle.mcal_base.specs.declared.moves.Move.{Move}
use Rattle.mcal_base.specs.declared.moves.Move.TheVariants.{Read, Write, Load, Store}
use Rattle.mcal_base.specs.declared.notice.Notice.{Notice}
use Rattle.mcal_base.specs.declared.notice.NoticeKind.{NoticeKind}
use Rattle.mcal_base.specs.declared.notice.NoticeKind.TheVariants.{SpiJobEndNotification, SpiSeqEndNotification}
use Rattle.mcal_base.specs.declared.register.Reg.{Reg}
use Rattle.mcal_base.specs.declared.register.Reg.TheVariants.{EnableSet, EnableClear, SerialSelect, SerialWidth, SerialData, SerialReceived, SerialState, SerialWait, SerialAck}
use Rattle.run_model.specs.declared.class.Class.{Class}
use Rattle.run_model.specs.declared.class.Key.{Key}
use Rattle.run_model.specs.declared.class.KeyKind.{KeyKind}
use Rattle.run_model.specs.declared.class.KeyKind.TheVariants as keys
use Rattle.run_model.specs.declared.class.Kind.{Kind}
use Rattle.run_model.specs.declared.class.Kind.TheVariants.{Exclusive, Keyed}
use Rattle.run_model.specs.declared.class.Kind.TheVariants as kinds
use Rattle.run_model.specs.Frame.{Origin, Called, Entered, is_wait}
use Rattle.run_model.specs.Moment.{Setting}
use Rattle.mcal_base.specs.There.{names_there}
use Rattle.spi_machine.specs.declared.call.Call.{Call}
use Rattle.spi_machine.specs.declared.call.Call.TheVariants.{Init, DeInit, SetAsyncMode, MainFunctionHandling, Channel, Sequence, Get}
use Rattle.spi_machine.specs.declared.call.ChannelCall.{ChannelCall}
use Rattle.spi_machine.specs.declared.call.ChannelCall.TheVariants.{WriteIb, ReadIb, SetupEb}
use Rattle.spi_machine.specs.declared.call.SequenceCall.{SequenceCall}
use Rattle.spi_machine.specs.declared.call.SequenceCall.TheVariants.{AsyncTransmit, Cancel, SyncTransmit}
use Rattle.word_shapes.specs.declared.jobs.channel.Channel as configured
use Rattle.spi_machine.specs.declared.table.Sequence as configured_sequence
use Rattle.spi_machine.specs.declared.table.SpiTable.{SpiTable}
use Rattle.spi_machine.specs.Machine.{spi_machine, unit_of}
use Rattle.spi_machine.specs.State.{SpiState, first_state, channel_at, uses}
use Rattle.spi_machine.specs.Numbered.{word_at}
use Rattle.spi_machine.specs.Table.{channel_of, sequence_of, jobs_by, jobs_of, channels_of, length_by, is_internal_channel, is_on_unit, is_sync_unit}
use Rattle.spi_machine.specs.Wiring.{unit_of_sequence}

-- ---- calls and lines

abbrev pub class_with : Kind → Option Key → Class
class_with kind key = record { kind = kind; «module» = Spi; key = key }

abbrev pub keyed_by : KeyKind → ℕ → Class
keyed_by kind n = class_with Keyed (Some (record { kind = kind; number = n }))

-- the class of a call: one about a channel or a sequence has that as its key, Spi_WriteIB as one that reads the user's
-- source array, the main function has a key of its own, a query may begin over any frame, and any other call over no
-- frame of the module
abbrev pub channel_key : ChannelCall → KeyKind
channel_key (WriteIb p) = keys.Source
channel_key _ = keys.Channel

abbrev pub class_of : Call → Class
class_of MainFunctionHandling = keyed_by keys.Main 0
class_of (Channel c call) = keyed_by (channel_key call) c
class_of (Sequence q call) = keyed_by keys.Sequence q
class_of (Get query) = class_with kinds.Query None
class_of _ = class_with Exclusive None

-- a job uses a unit, and the unit of a line
abbrev pub uses_unit : SpiTable → ℕ → Bool
uses_unit d u = list_any (is_on_unit u) d.jobs

-- one that carries out sequences for calls has no handler
abbrev pub has_handler : SpiTable → ℕ → Bool
has_handler d u = uses_unit d u && not (is_sync_unit d u)

abbrev pub uses_by : SpiTable → Option ℕ → Bool
uses_by d None = false
uses_by d (Some u) = has_handler d u

abbrev pub is_used : SpiTable → (line : ℕ) → Bool
is_used d l = uses_by d (unit_of l)

-- the level of a line, 1 where no job uses its unit
abbrev pub level_by : SpiTable → Option ℕ → ℕ
level_by d None = 1
level_by d (Some u) = if uses_unit d u then slice_index_or d.levels u 1 else 1

abbrev pub level_of : SpiTable → (line : ℕ) → ℕ
level_of d l = level_by d (unit_of l)

abbrev pub owner_of : (line : ℕ) → ModuleName
owner_of l = Spi

-- ---- the most steps of a frame, and the most moves of its windows

abbrev pub objects : SpiTable → ℕ
objects d = count_by is_some d.channels + count_by is_some d.jobs + count_by is_some d.sequences

abbrev pub internal_by : Option configured.Channel → ℕ
internal_by k = if is_internal_channel k then length_by k else 0

abbrev pub internal_words : SpiTable → ℕ
internal_words d = sum_by internal_by d.channels

-- of a call about the whole module 48 more for each configured object, and 8 for each word of an internal channel
abbrev pub whole_steps : SpiTable → ℕ
whole_steps d = 64 + 48 * objects d + 8 * internal_words d

abbrev pub channel_steps : Option configured.Channel → ChannelCall → ℕ
channel_steps k (WriteIb p) = 48 + 4 * length_by k
channel_steps k ReadIb = 48 + 4 * length_by k
channel_steps k (SetupEb p q n) = 64

-- of a job 64, and 16 more for each word of its channels
abbrev pub job_steps : SpiTable → (job : ℕ) → ℕ
job_steps d j = 64 + 16 * sum_by (λ c. length_by (channel_of d c)) (channels_of d j)

-- of a sequence that is sent at once those of its jobs more
abbrev pub sent_steps : SpiTable → Option configured_sequence.Sequence → ℕ
sent_steps d k = 96 + sum_by (job_steps d) (jobs_by k)

abbrev pub sequence_steps : SpiTable → ℕ → SequenceCall → ℕ
sequence_steps d q AsyncTransmit = 144
sequence_steps d q Cancel = 96
sequence_steps d q SyncTransmit = sent_steps d (sequence_of d q)

abbrev pub call_steps : SpiTable → Call → ℕ
call_steps d Init = whole_steps d
call_steps d DeInit = whole_steps d
call_steps d (SetAsyncMode m) = 64
call_steps d MainFunctionHandling = 288
call_steps d (Channel c call) = channel_steps (channel_of d c) call
call_steps d (Sequence q call) = sequence_steps d q call
call_steps d (Get query) = 64

abbrev pub steps_of : SpiTable → Origin Call → ℕ
steps_of d (Called call) = call_steps d call
steps_of d (Entered l) = 144

abbrev pub window_of : Origin Call → ℕ
window_of o = 32

-- ---- what a frame may name

abbrev pub is_serial : Reg → Bool
is_serial (SerialSelect u) = true
is_serial (SerialWidth u) = true
is_serial (SerialData u) = true
is_serial (SerialReceived u) = true
is_serial (SerialState u) = true
is_serial (SerialAck u) = true
is_serial (SerialWait u) = true
is_serial _ = false

-- the value has bits of lines 26 and 27, and of no other
abbrev pub is_for_lines : ℕ → Bool
is_for_lines v = not (v == 0) && v % 2 ^ 26 == 0 && nat_lt v (2 ^ 28)

-- a register of the module, or a value for lines of the module alone
abbrev pub may_write : Reg → ℕ → Bool
may_write EnableSet v = is_for_lines v
may_write EnableClear v = is_for_lines v
may_write r v = is_serial r

-- the module's driver words: 64, 32 more for each configured object, and 6 for each word of an internal channel
abbrev pub own_words : SpiTable → ℕ
own_words d = 64 + 32 * objects d + 6 * internal_words d

abbrev pub is_own_word : SpiTable → ℕ → Bool
is_own_word d k = is_within (own_start Spi) (own_words d) k

-- a place of a user's array of a channel
abbrev pub is_users_place : (word : ℕ) → ℕ × Option configured.Channel → Bool
is_users_place k p = is_within (start_of (Source p.0)) (length_by p.1) k || is_within (start_of (Destination p.0)) (length_by p.1) k

abbrev pub is_users_word : SpiTable → ℕ → Bool
is_users_word d k = list_any (is_users_place k) (enumerate_from 0 d.channels)

abbrev pub is_word_of : SpiTable → ℕ → Bool
is_word_of d k = is_own_word d k || is_users_word d k

-- the move names a register, lines or a word of the module, and doesn't wait
abbrev pub may_name : SpiTable → Move → Bool
may_name d (Read r) = is_serial r && not (is_wait (Read r))
may_name d (Write r v) = may_write r v
may_name d (Load k) = is_word_of d k
may_name d (Store k v) = is_word_of d k
may_name d _ = false

-- a move that each frame of the module may make: it names what is the module's and is there
abbrev pub may : SpiTable → Move → Bool
may d made = may_name d made && names_there made

-- a move that waits, for the unit of the sequence that the frame's call sends; no other frame may wait
abbrev pub may_wait : SpiTable → Move → Origin Call → Bool
may_wait d (Read (SerialWait u)) (Called (Sequence q SyncTransmit)) = unit_of_sequence d q == u && names_there (Read (SerialWait u))
may_wait d made o = false

-- ---- the users' arrays

-- the driver words hold the arrays of a channel
pub record HoldsArrays (word : ℕ → ℕ) (d : SpiTable) (s : SpiState) (c : ℕ) : Type 0 where
  pub source : (i : ℕ) → i < length_by (channel_of d c) → word (place_of (Source c) i) ≡ word_at (channel_at s c).source i
  pub destination : (i : ℕ) → i < length_by (channel_of d c) → word (place_of (Destination c) i) ≡ word_at (channel_at s c).destination i

-- the channels of the job or of the sequence that a notice names
abbrev pub channels_by_kind : SpiTable → NoticeKind → (number : ℕ) → List ℕ
channels_by_kind d SpiJobEndNotification j = channels_of d j
channels_by_kind d SpiSeqEndNotification q = flat_map (channels_of d) (jobs_of d q)
channels_by_kind d _ n = []

abbrev pub channels_named : SpiTable → Notice → List ℕ
channels_named d n = channels_by_kind d n.kind n.id

-- ---- source arrays

-- a channel has a source array
abbrev pub fills : SpiTable → (channel : ℕ) → Bool
fills d c = is_some (channel_of d c)

-- ---- the setting

-- what a run of the module is over
abbrev pub spi_setting : SpiTable → Setting SpiState Call
spi_setting d = record {
  machine = spi_machine d;
  first = first_state;
  class_of = class_of;
  level_of = level_of d;
  owner_of = owner_of;
  used = is_used d;
  steps_of = steps_of d;
  window_of = window_of;
  may = λ o made. may_wait d made o || may d made;
  halves = λ call. None;
  must = λ call. [];
  fills = fills d;
  in_use = λ w s c. uses d s c;
  rest = λ chip w s. (c : ℕ) → HoldsArrays (word_of chip) d s c;
  unmasked = λ chip w s origins. (c : ℕ) → HoldsArrays (word_of chip) d s c;
  shows = λ origin n chip s. (c : ℕ) → Contains (channels_named d n) c → HoldsArrays (word_of chip) d s c;
}
