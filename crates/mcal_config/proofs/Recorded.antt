-- A text without a fault has a record.
use Rattle.std.proofs.Common.{◌≡◌, ℕ, List, None, Some}
use Rattle.std.specs.Prelude.{Option}
use Rattle.std.specs.Option.{IsSome}
use Rattle.toml.specs.Data.{Members, no_members, member}
use Rattle.config_keys.specs.Checks.{passes}
use Rattle.config_keys.specs.declared.fault.ConfigFault.TheVariants.{NotToml}
use Rattle.config_tables.proofs.HasValue.{Recorded, there, failed, skip, need_module, need_module_last}
use Rattle.config_tables.proofs.Recorded.{mcu_read, port_read, gpt_read, pwm_read, icu_read, adc_read, spi_read, dio_read, wdg_read}
use Rattle.mcal_config.specs.Whole.{default_board, modules_checks, modules_value, tree_checks, tree_value, config_checks, config_of, tree_of, fault_of, record_of}

modules_read : (ms : Members) → Recorded (modules_checks ms) (modules_value ms)
unfolding modules_checks modules_value
modules_read ms = search (need_module, need_module_last, skip, mcu_read, port_read, gpt_read, pwm_read, icu_read, adc_read, spi_read, dio_read, wdg_read) depth 30

tree_read : (ms : Members) → Recorded (tree_checks ms) (tree_value ms)
tree_read no_members = there passes default_board
tree_read (member k d ms) = modules_read (member k d ms)

config_read : (tree : Option Members) → Recorded (config_checks tree) (config_of tree)
config_read None = failed NotToml None
config_read (Some ms) = tree_read ms

pub faultless : (text : List ℕ) → fault_of text ≡ None → IsSome (record_of text)
faultless text = (config_read (tree_of text)).holds
