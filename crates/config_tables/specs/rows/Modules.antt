-- The tables of the modules.
use Rattle.std.specs.Prelude.{Option, Some, None}
use Rattle.toml.specs.Data.{Data, Members, no_members, get_member, as_table}
use Rattle.mcal_base.specs.Names.{module_text}
use Rattle.mcal_base.specs.declared.module_name.ModuleName.{ModuleName}
use Rattle.config_keys.specs.Checks.{Checks, passes, fails}
use Rattle.config_keys.specs.Kinds.{◌>>=◌}
use Rattle.config_keys.specs.Keys.{of_module}
use Rattle.config_keys.specs.declared.fault.ConfigFault.TheVariants.{WrongKind}

-- What a module's table is: the module, the checks of the table, and its value.
pub record Part (T : Type 0) : Type 0 where
  pub name : ModuleName
  pub checks : Members → Checks
  pub value : Members → Option T

-- the kind of a module's value; an absent one is an empty table
abbrev pub table_kind : {T : Type 0} → Part T → Option Members → Checks
table_kind part None = fails (WrongKind (of_module part.name))
table_kind part (Some ms) = part.checks ms

abbrev pub found_checks : {T : Type 0} → Part T → Option Data → Checks
found_checks part None = part.checks no_members
found_checks part (Some d) = table_kind part (as_table d)

abbrev pub found_value : {T : Type 0} → Part T → Option Data → Option T
found_value part None = part.value no_members
found_value part (Some d) = as_table d >>= part.value

-- the value of a module's name
abbrev pub entry : ModuleName → Members → Option Data
entry m ms = get_member (module_text m) ms

abbrev pub module_checks : {T : Type 0} → Part T → Members → Checks
module_checks part ms = found_checks part (entry part.name ms)

abbrev pub module_value : {T : Type 0} → Part T → Members → Option T
module_value part ms = found_value part (entry part.name ms)

-- what is checked of the value, where it is good
abbrev pub given : {A : Type 0} → Option A → (A → Checks) → Checks
given None f = passes
given (Some x) f = f x
