-- What has no fault is read: the elements of each array, and the modules.
use Rattle.std.proofs.Common.{◌≡◌, Some, refl}
use Rattle.std.specs.Prelude.{Option}
use Rattle.std.specs.Option.{IsSome}
use Rattle.toml.specs.Data.{Members}
use Rattle.config_keys.specs.Kinds.{◌>>=◌, whole, name}
use Rattle.config_keys.specs.Names.{buffer_named}
use Rattle.config_keys.specs.declared.key_name.KeyName.TheVariants as keys
use Rattle.config_keys.specs.declared.fault.Path.{Path}
use Rattle.mcal_base.specs.declared.config.spi.SpiChannelType.{SpiChannelType}
use Rattle.config_keys.specs.declared.named.SpiBuffer.{SpiBuffer}
use Rattle.config_keys.specs.declared.named.SpiBuffer.TheVariants as buffers
use Rattle.config_tables.proofs.HasValue.{Recorded, there, skip, checked_after, at_last, need, need_last, need_list, allow_list, need_tables, need_tables_last, IsRead, IsReadPart}
use Rattle.config_tables.specs.Mcu as mcu
use Rattle.config_tables.specs.Port as port
use Rattle.config_tables.specs.Gpt as gpt
use Rattle.config_tables.specs.Pwm as pwm
use Rattle.config_tables.specs.Icu as icu
use Rattle.config_tables.specs.Adc as adc
use Rattle.config_tables.specs.Spi as spi
use Rattle.config_tables.specs.Dio as dio
use Rattle.config_tables.specs.Wdg as wdg

ruleset rows = (need, need_last, need_list, allow_list, skip, there, refl)

ruleset tables = (need_tables, need_tables_last, allow_list, skip, refl)

-- the elements of each array
clock_setting_read : IsRead mcu.clock_settings
unfolding mcu.clock_setting_checks mcu.clock_setting_of
clock_setting_read at ms = search rows depth 20

mode_read : IsRead mcu.modes
unfolding mcu.mode_checks mcu.mode_of
mode_read at ms = search rows depth 20

ram_section_read : IsRead mcu.ram_sections
unfolding mcu.ram_section_checks mcu.ram_section_of
ram_section_read at ms = search rows depth 20

pin_read : IsRead port.pins
unfolding port.pin_checks port.pin_of
pin_read at ms = search rows depth 20

timer_read : IsRead gpt.channels
unfolding gpt.channel_checks gpt.channel_of
timer_read at ms = search rows depth 20

pulse_read : IsRead pwm.channels
unfolding pwm.channel_checks pwm.channel_of
pulse_read at ms = search rows depth 20

input_read : IsRead icu.channels
unfolding icu.channel_checks icu.channel_of
input_read at ms = search rows depth 20

unit_read : IsRead adc.units
unfolding adc.unit_checks adc.unit_of
unit_read at ms = search rows depth 20

group_read : IsRead adc.groups
unfolding adc.group_checks adc.group_of
group_read at ms = search rows depth 20

-- a serial channel, whose words stand at the key of its type
type_read : (b : SpiBuffer) (at : Path) (ms : Members) → Recorded (spi.type_checks (Some b) at ms) (spi.type_of b ms)
type_read buffers.Internal at ms = search rows
type_read buffers.External at ms = search rows

type_last : {B : Type 0} (o : Option SpiBuffer) (b : SpiBuffer) (at : Path) (ms : Members) (f : SpiChannelType → Option B) → ((x : SpiChannelType) → IsSome (f x)) → o ≡ Some b → Recorded (spi.type_checks o at ms) (spi.type_of b ms >>= f)
type_last o b at ms f h e = rw e (at_last (spi.type_checks (Some b) at ms) (spi.type_of b ms) f (type_read b at ms) h)

channel_read : IsRead spi.channels
unfolding spi.channel_checks spi.channel_of
channel_read at ms = need at keys.SpiChannelId (whole 0 15) ms _ _ (λ id i. need at keys.SpiChannelType (name buffer_named) ms _ _ (λ buffer e. need at keys.SpiDataWidth (whole 1 16) ms _ _ (λ width w. skip _ _ _ (type_last _ buffer at ms _ (λ x. refl) e))))

job_read : IsRead spi.jobs
unfolding spi.job_checks spi.job_of
job_read at ms = search rows depth 20

sequence_read : IsRead spi.sequences
unfolding spi.sequence_checks spi.sequence_of
sequence_read at ms = search rows depth 20

pin_group_read : IsRead dio.groups
unfolding dio.group_checks dio.group_of
pin_group_read at ms = search rows depth 20

-- the keys and arrays of each module
mcu_keys : (ms : Members) → Recorded (mcu.key_checks ms) (mcu.value_of ms)
unfolding mcu.key_checks mcu.value_of
mcu_keys ms = search (tables, clock_setting_read, mode_read, ram_section_read) depth 20

port_keys : (ms : Members) → Recorded (port.key_checks ms) (port.value_of ms)
unfolding port.key_checks port.value_of
port_keys ms = search (tables, pin_read) depth 20

pwm_keys : (ms : Members) → Recorded (pwm.key_checks ms) (pwm.value_of ms)
unfolding pwm.key_checks pwm.value_of
pwm_keys ms = search (tables, pulse_read) depth 20

adc_keys : (ms : Members) → Recorded (adc.key_checks ms) (adc.value_of ms)
unfolding adc.key_checks adc.value_of
adc_keys ms = search (tables, unit_read, group_read) depth 20

spi_keys : (ms : Members) → Recorded (spi.key_checks ms) (spi.value_of ms)
unfolding spi.key_checks spi.value_of
spi_keys ms = search (tables, channel_read, job_read, sequence_read) depth 20

wdg_keys : (ms : Members) → Recorded (wdg.key_checks ms) (wdg.value_of ms)
unfolding wdg.key_checks wdg.value_of
wdg_keys ms = there _ _

-- the modules; references and rules read nothing
pub mcu_read : IsReadPart mcu.part
unfolding mcu.checks
mcu_read ms = checked_after (mcu.key_checks ms) _ (mcu.value_of ms) (mcu_keys ms)

pub port_read : IsReadPart port.part
unfolding port.checks
port_read ms = checked_after (port.key_checks ms) _ (port.value_of ms) (port_keys ms)

pub gpt_read : IsReadPart gpt.part
unfolding gpt.checks gpt.value_of
gpt_read ms = search (tables, timer_read) depth 20

pub pwm_read : IsReadPart pwm.part
unfolding pwm.checks
pwm_read ms = checked_after (pwm.key_checks ms) _ (pwm.value_of ms) (pwm_keys ms)

pub icu_read : IsReadPart icu.part
unfolding icu.checks icu.value_of
icu_read ms = search (tables, input_read) depth 20

pub adc_read : IsReadPart adc.part
unfolding adc.checks
adc_read ms = checked_after (adc.key_checks ms) _ (adc.value_of ms) (adc_keys ms)

pub spi_read : IsReadPart spi.part
unfolding spi.checks
spi_read ms = checked_after (spi.key_checks ms) _ (spi.value_of ms) (spi_keys ms)

pub dio_read : IsReadPart dio.part
unfolding dio.checks dio.value_of
dio_read ms = search (tables, pin_group_read) depth 20

pub wdg_read : IsReadPart wdg.part
unfolding wdg.checks
wdg_read ms = checked_after (wdg.key_checks ms) _ (wdg.value_of ms) (wdg_keys ms)
