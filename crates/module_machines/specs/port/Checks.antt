-- The services, what their arguments have to be, which error a call has, and how it is reported.
use Rattle.std.specs.Prelude.{Bool, false, not, List, [], ◌∷◌, Option, Some, None, is_some}
use Rattle.mcal_base.specs.declared.config.port.PortPinMode.{PortPinMode}
use Rattle.mcal_base.specs.declared.error_name.ErrorName.{ErrorName}
use Rattle.mcal_base.specs.declared.service.Service.{Service}
use Rattle.mcal_base.specs.declared.service.Service.TheVariants as services
use Rattle.mcal_base.specs.det_errors.Reports.{Reporting}
use Rattle.mcal_base.specs.det_errors.Rows.{first_error}
use Rattle.module_machines.specs.declared.port.call.Call.{Call}
use Rattle.module_machines.specs.declared.port.call.Call.TheVariants.{Init, RefreshPortDirection}
use Rattle.module_machines.specs.declared.port.call.Call.TheVariants as calls
use Rattle.module_machines.specs.declared.port.call.PinCall.{PinCall}
use Rattle.module_machines.specs.declared.port.call.PinCall.TheVariants.{SetPinDirection, SetPinMode}
use Rattle.module_machines.specs.declared.port.table.Pin.{Pin}
use Rattle.module_machines.specs.declared.port.table.PortTable.{PortTable}
use Rattle.module_machines.specs.port.Table.{pin_of, is_among}

-- the service of a call
abbrev pub service_of : Call → Service
service_of Init = services.PortInit
service_of RefreshPortDirection = services.PortRefreshPortDirection
service_of (calls.Pin p (SetPinDirection x)) = services.PortSetPinDirection
service_of (calls.Pin p (SetPinMode m)) = services.PortSetPinMode

-- the direction of the pin may change, and its mode
abbrev pub has_changeable_direction : Option Pin → Bool
has_changeable_direction None = false
has_changeable_direction (Some k) = k.direction_changeable

abbrev pub has_changeable_mode : Option Pin → Bool
has_changeable_mode None = false
has_changeable_mode (Some k) = k.mode_changeable

-- the pin may have the mode; what is no mode is none of its modes
abbrev pub has_mode : Option Pin → Option PortPinMode → Bool
has_mode (Some k) (Some m) = is_among k.modes m
has_mode _ _ = false

-- whether the errors of a call about a pin hold, in their order
abbrev pub pin_facts : (uninit : Bool) → Option Pin → PinCall → List Bool
pin_facts u k (SetPinDirection x) = u ∷ not (is_some k) ∷ not (has_changeable_direction k) ∷ false ∷ false ∷ false ∷ []
pin_facts u k (SetPinMode m) = u ∷ not (is_some k) ∷ not (has_mode k m) ∷ not (has_changeable_mode k) ∷ false ∷ false ∷ []

-- whether the errors of a service hold, in their order: the module is uninitialised
abbrev pub facts_by : PortTable → Call → (uninit : Bool) → List Bool
facts_by d Init u = false ∷ false ∷ false ∷ false ∷ false ∷ false ∷ []
facts_by d RefreshPortDirection u = u ∷ false ∷ false ∷ false ∷ false ∷ false ∷ []
facts_by d (calls.Pin p call) u = pin_facts u (pin_of d p) call

-- the first error of a call that holds
abbrev pub error_by : PortTable → Call → (uninit : Bool) → Option ErrorName
error_by d call u = first_error (service_of call) (facts_by d call u)

-- how errors are reported: the module has no runtime errors
abbrev pub reporting : PortTable → Reporting
reporting d = record { detect = d.detect; classification = 1 }
