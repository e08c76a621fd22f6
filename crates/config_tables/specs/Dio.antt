-- The table of the module Dio, in the order of the walk.
use Rattle.std.specs.Prelude.{ℕ, ◌+◌, true, List, [], ◌∷◌, Option, Some, if◌then◌else◌}
use Rattle.toml.specs.Data.{Members}
use Rattle.config_keys.specs.Checks.{Checks, passes, fails, ◌⨾◌}
use Rattle.config_keys.specs.Kinds.{◌>>=◌, whole, truth}
use Rattle.config_keys.specs.Keys.{of_module, of_key, of_element, needed, allowed, read, read_or}
use Rattle.config_tables.specs.rows.Rows.{Shape, array_checks, array_value}
use Rattle.config_tables.specs.rows.Rules.{rule}
use Rattle.config_tables.specs.rows.Modules.{Part}
use Rattle.config_keys.specs.declared.fault.Path.{Path}
use Rattle.config_keys.specs.declared.fault.ConfigFault.TheVariants.{Unknown}
use Rattle.config_keys.specs.declared.key_name.KeyName.TheVariants as keys
use Rattle.mcal_base.specs.declared.module_name.ModuleName.TheVariants as modules
use Rattle.mcal_base.specs.declared.config.port.PortPin.{PortPin}
use Rattle.mcal_base.specs.declared.config.port.PortConfig.{PortConfig}
use Rattle.mcal_base.specs.declared.config.dio.DioChannelGroup.{DioChannelGroup}
use Rattle.mcal_base.specs.declared.config.dio.DioConfig.{DioConfig}
pub use Rattle.config_facts.specs.Rules.{has_port, mask_off_offset}

-- the place of the module's table
abbrev pub at : Path
at = of_module modules.Dio

-- groups of pins
unfoldable pub group_checks : Path → Members → Checks
group_checks at ms =
    needed at keys.DioChannelGroupId (whole 0 7) ms
    ⨾ needed at keys.Port (whole 0 7) ms
    ⨾ needed at keys.DioPortOffset (whole 0 7) ms
    ⨾ needed at keys.DioPortMask (whole 1 255) ms

unfoldable pub group_of : Members → Option DioChannelGroup
group_of ms = do
  id ← read keys.DioChannelGroupId (whole 0 7) ms
  port ← read keys.Port (whole 0 7) ms
  offset ← read keys.DioPortOffset (whole 0 7) ms
  mask ← read keys.DioPortMask (whole 1 255) ms
  Some (record { id = id; port = port; offset = offset; mask = mask })

abbrev pub groups : Shape DioChannelGroup
groups = record { place = of_key at keys.DioChannelGroup; key = keys.DioChannelGroup; id_key = Some keys.DioChannelGroupId; checks = group_checks; id = read keys.DioChannelGroupId (whole 0 7); value = group_of }

-- the module, but for its references and its rule
unfoldable pub checks : Members → Checks
checks ms =
    allowed at keys.DioDevErrorDetect truth ms
    ⨾ array_checks groups 8 ms

unfoldable pub value_of : Members → Option DioConfig
value_of ms = do
  detect ← read_or true keys.DioDevErrorDetect truth ms
  groups ← array_value groups ms
  Some (record { dev_error_detect = detect; groups = groups })

abbrev pub part : Part DioConfig
part = record { name = modules.Dio; checks = checks; value = value_of }

-- the ports that groups refer to, which the module Port has
abbrev pub port_reference : List PortPin → Path → ℕ → Checks
port_reference pins at q = if has_port pins q then passes else fails (Unknown at q)

abbrev pub port_references : List PortPin → ℕ → List DioChannelGroup → Checks
port_references pins i [] = passes
port_references pins i (g ∷ gs) = port_reference pins (of_key (of_element groups.place i) keys.Port) g.port ⨾ port_references pins (i + 1) gs

abbrev pub rules : DioConfig → Checks
rules dio = rule mask_off_offset 13 groups.place dio.groups

unfoldable pub across : PortConfig → DioConfig → Checks
across port dio = port_references port.pins 0 dio.groups ⨾ rules dio
