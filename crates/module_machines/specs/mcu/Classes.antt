-- Which calls may begin over which.
use Rattle.std.specs.Prelude.{ℕ, Option, Some, None}
use Rattle.mcal_base.specs.declared.module_name.ModuleName.TheVariants.{Mcu}
use Rattle.run_model.specs.declared.class.Class.{Class}
use Rattle.run_model.specs.declared.class.Key.{Key}
use Rattle.run_model.specs.declared.class.KeyKind.{KeyKind}
use Rattle.run_model.specs.declared.class.KeyKind.TheVariants as keys
use Rattle.run_model.specs.declared.class.Kind.{Kind}
use Rattle.run_model.specs.declared.class.Kind.TheVariants.{Exclusive, Keyed, Query}
use Rattle.module_machines.specs.declared.mcu.call.Call.{Call}
use Rattle.module_machines.specs.declared.mcu.call.Call.TheVariants.{Init, InitRamSection, Clock, GetPllStatus, GetResetReason, PerformReset, SetMode}

abbrev pub class_by : Kind → Option Key → Class
class_by kind key = record { kind = kind; «module» = Mcu; key = key }

abbrev pub keyed : KeyKind → ℕ → Class
keyed kind n = class_by Keyed (Some (record { kind = kind; number = n }))

-- the class of a call: one about a section or the clock has that as its key, and a query may always begin
abbrev pub class_of : Call → Class
class_of Init = class_by Exclusive None
class_of (InitRamSection n) = keyed keys.Section n
class_of (Clock call) = keyed keys.Clock 0
class_of GetPllStatus = class_by Query None
class_of GetResetReason = class_by Query None
class_of PerformReset = class_by Query None
class_of (SetMode m) = class_by Exclusive None
