-- The table of the module Spi, in the order of the walk.
use Rattle.std.specs.Prelude.{true, false, [], ◌∷◌, Option, Some, None}
use Rattle.toml.specs.Data.{Members}
use Rattle.config_keys.specs.Checks.{Checks, passes, ◌⨾◌}
use Rattle.config_keys.specs.Kinds.{◌>>=◌, whole, truth, name, text}
use Rattle.config_keys.specs.Keys.{of_module, of_key, needed, allowed, needed_list, allowed_list, read, read_or, read_any, read_list, read_list_or}
use Rattle.config_keys.specs.Names.{buffer_named}
use Rattle.config_tables.specs.rows.Rows.{Shape, array_checks, array_value}
use Rattle.config_tables.specs.rows.Modules.{Part, given}
use Rattle.config_keys.specs.declared.fault.Path.{Path}
use Rattle.config_keys.specs.declared.key_name.KeyName.TheVariants as keys
use Rattle.config_keys.specs.declared.named.SpiBuffer.{SpiBuffer}
use Rattle.config_keys.specs.declared.named.SpiBuffer.TheVariants as buffers
use Rattle.mcal_base.specs.declared.module_name.ModuleName.TheVariants as modules
use Rattle.mcal_base.specs.declared.config.spi.SpiChannelType.{SpiChannelType}
use Rattle.mcal_base.specs.declared.config.spi.SpiChannelType.TheVariants.{Internal, External}
use Rattle.mcal_base.specs.declared.config.spi.SpiChannel.{SpiChannel}
use Rattle.mcal_base.specs.declared.config.spi.SpiJob.{SpiJob}
use Rattle.mcal_base.specs.declared.config.spi.SpiSequence.{SpiSequence}
use Rattle.mcal_base.specs.declared.config.spi.SpiConfig.{SpiConfig}
use Rattle.config_tables.specs.SpiRules.{across}

-- the place of the module's table
abbrev pub at : Path
at = of_module modules.Spi

-- the number of words of a channel, at the key of its type; the other type's key is ignored
abbrev pub type_checks : Option SpiBuffer → Path → Members → Checks
type_checks (Some buffers.Internal) place ms = needed place keys.SpiIbNBuffers (whole 1 64) ms
type_checks (Some buffers.External) place ms = needed place keys.SpiEbMaxLength (whole 1 64) ms
type_checks None place ms = passes

abbrev pub type_of : SpiBuffer → Members → Option SpiChannelType
type_of buffers.Internal ms = do
  words ← read keys.SpiIbNBuffers (whole 1 64) ms
  Some (Internal words)
type_of buffers.External ms = do
  words ← read keys.SpiEbMaxLength (whole 1 64) ms
  Some (External words)

-- channels
unfoldable pub channel_checks : Path → Members → Checks
channel_checks at ms =
    needed at keys.SpiChannelId (whole 0 15) ms
    ⨾ needed at keys.SpiChannelType (name buffer_named) ms
    ⨾ needed at keys.SpiDataWidth (whole 1 16) ms
    ⨾ allowed at keys.SpiDefaultData (whole 0 65535) ms
    ⨾ type_checks (read keys.SpiChannelType (name buffer_named) ms) at ms

unfoldable pub channel_of : Members → Option SpiChannel
channel_of ms = do
  id ← read keys.SpiChannelId (whole 0 15) ms
  buffer ← read keys.SpiChannelType (name buffer_named) ms
  width ← read keys.SpiDataWidth (whole 1 16) ms
  default ← read_or 0 keys.SpiDefaultData (whole 0 65535) ms
  type ← type_of buffer ms
  Some (record { id = id; channel_type = type; data_width = width; default_data = default })

abbrev pub channels : Shape SpiChannel
channels = record { place = of_key at keys.SpiChannel; key = keys.SpiChannel; id_key = Some keys.SpiChannelId; checks = channel_checks; id = read keys.SpiChannelId (whole 0 15); value = channel_of }

-- jobs
unfoldable pub job_checks : Path → Members → Checks
job_checks at ms =
    needed at keys.SpiJobId (whole 0 15) ms
    ⨾ needed at keys.SpiJobPriority (whole 0 3) ms
    ⨾ allowed at keys.SpiJobEndNotification text ms
    ⨾ needed_list 1 4 at keys.SpiChannelList (whole 0 15) ms
    ⨾ needed at keys.Unit (whole 0 1) ms
    ⨾ allowed at keys.Select (whole 0 7) ms

unfoldable pub job_of : Members → Option SpiJob
job_of ms = do
  id ← read keys.SpiJobId (whole 0 15) ms
  priority ← read keys.SpiJobPriority (whole 0 3) ms
  notification ← read_or false keys.SpiJobEndNotification text ms
  list ← read_list keys.SpiChannelList (whole 0 15) ms
  unit ← read keys.Unit (whole 0 1) ms
  select ← read_any keys.Select (whole 0 7) ms
  Some (record { id = id; priority = priority; end_notification = notification; channel_list = list; unit = unit; select = select })

abbrev pub jobs : Shape SpiJob
jobs = record { place = of_key at keys.SpiJob; key = keys.SpiJob; id_key = Some keys.SpiJobId; checks = job_checks; id = read keys.SpiJobId (whole 0 15); value = job_of }

-- sequences
unfoldable pub sequence_checks : Path → Members → Checks
sequence_checks at ms =
    needed at keys.SpiSequenceId (whole 0 7) ms
    ⨾ needed at keys.SpiInterruptibleSequence truth ms
    ⨾ needed_list 1 16 at keys.SpiJobAssignment (whole 0 15) ms
    ⨾ allowed at keys.SpiSeqEndNotification text ms

unfoldable pub sequence_of : Members → Option SpiSequence
sequence_of ms = do
  id ← read keys.SpiSequenceId (whole 0 7) ms
  interruptible ← read keys.SpiInterruptibleSequence truth ms
  assignment ← read_list keys.SpiJobAssignment (whole 0 15) ms
  notification ← read_or false keys.SpiSeqEndNotification text ms
  Some (record { id = id; interruptible = interruptible; job_assignment = assignment; end_notification = notification })

abbrev pub sequences : Shape SpiSequence
sequences = record { place = of_key at keys.SpiSequence; key = keys.SpiSequence; id_key = Some keys.SpiSequenceId; checks = sequence_checks; id = read keys.SpiSequenceId (whole 0 7); value = sequence_of }

-- the module
unfoldable pub key_checks : Members → Checks
key_checks ms =
    allowed at keys.SpiDevErrorDetect truth ms
    ⨾ allowed at keys.Classification (whole 1 2) ms
    ⨾ allowed_list 2 2 at keys.Levels (whole 1 7) ms
    ⨾ allowed_list 0 2 at keys.SyncUnits (whole 0 1) ms
    ⨾ array_checks channels 16 ms
    ⨾ array_checks jobs 16 ms
    ⨾ array_checks sequences 8 ms

unfoldable pub value_of : Members → Option SpiConfig
value_of ms = do
  detect ← read_or true keys.SpiDevErrorDetect truth ms
  classification ← read_or 1 keys.Classification (whole 1 2) ms
  levels ← read_list_or (1 ∷ 1 ∷ []) keys.Levels (whole 1 7) ms
  sync_units ← read_list_or [] keys.SyncUnits (whole 0 1) ms
  channels ← array_value channels ms
  jobs ← array_value jobs ms
  sequences ← array_value sequences ms
  Some (record { dev_error_detect = detect; classification = classification; levels = levels; sync_units = sync_units; channels = channels; jobs = jobs; sequences = sequences })

unfoldable pub checks : Members → Checks
checks ms = key_checks ms ⨾ given (value_of ms) across

abbrev pub part : Part SpiConfig
part = record { name = modules.Spi; checks = checks; value = value_of }
