-- What chip and machines agree in, part by part, and what touches it.
use Rattle.std.specs.Prelude.{ℕ, nat_lt, Bool, true, false, if◌then◌else◌}
use Rattle.mcal_base.specs.declared.directive.Order.{Order}
use Rattle.mcal_base.specs.declared.directive.Order.TheVariants as orders
use Rattle.mcal_base.specs.declared.layout.TheConstants.{USERS}
use Rattle.mcal_base.specs.declared.module_name.ModuleName.{ModuleName}
use Rattle.mcal_base.specs.declared.module_name.ModuleName.TheVariants as modules
use Rattle.mcal_base.specs.declared.moves.Event.{Event}
use Rattle.mcal_base.specs.declared.moves.Event.TheVariants.{Act, Serve, Abort, Start}
use Rattle.mcal_base.specs.declared.moves.Move.{Move}
use Rattle.mcal_base.specs.declared.moves.Move.TheVariants.{Read, Write, Store}
use Rattle.mcal_base.specs.declared.moves.Unit as units
use Rattle.mcal_base.specs.declared.moves.Unit.TheVariants.{Adc0, Adc1, Spi0, Spi1}
use Rattle.mcal_base.specs.declared.register.Reg.{Reg}
use Rattle.mcal_base.specs.declared.register.Reg.TheVariants as regs
use Rattle.run_model.specs.Frame.{Origin, Called, Entered}
use Rattle.run_model.specs.Moment.{Setting}
use Rattle.audit_whole.specs.declared.aspects.Aspect.{Aspect}
use Rattle.audit_whole.specs.declared.aspects.Aspect.TheVariants.{Outputs, Pins, Ram, Stamps, Results, Arrays}
use Rattle.audit_whole.specs.declared.aspects.Touched.{Touched}
use Rattle.audit_whole.specs.declared.aspects.Touched.TheVariants.{Nothing, One, Words}

-- the aspect is touched
abbrev pub is_touched : Aspect → Touched → Bool
is_touched Outputs (One Outputs) = true
is_touched Pins (One Pins) = true
is_touched Ram (One Ram) = true
is_touched Stamps (One Stamps) = true
is_touched Results (One Results) = true
is_touched Arrays (One Arrays) = true
is_touched Stamps Words = true
is_touched Results Words = true
is_touched Arrays Words = true
is_touched a touched = false

-- a register of the pulse outputs, of pins or of RAM
abbrev pub by_register : Reg → Touched
by_register (regs.PulsePeriod c) = One Outputs
by_register (regs.PulseDuty c) = One Outputs
by_register (regs.PulsePolarity c) = One Outputs
by_register (regs.PulseCommit c) = One Outputs
by_register (regs.PulseIdle c) = One Outputs
by_register regs.PulseEdges = One Outputs
by_register regs.PulseFlags = One Outputs
by_register (regs.PinDirectionSet half) = One Pins
by_register (regs.PinDirectionClear half) = One Pins
by_register (regs.PinOutSet half) = One Pins
by_register (regs.PinOutClear half) = One Pins
by_register (regs.PinMode p) = One Pins
by_register (regs.PortPut q) = One Pins
by_register (regs.Ram k) = One Ram
by_register _ = Nothing

-- a word of the users' arrays
abbrev pub by_word : ℕ → Touched
by_word k = if nat_lt k USERS then Nothing else Words

-- a move touches what it writes, and what it inverts
abbrev pub by_move : Move → Touched
by_move (Read (regs.PinFlip p)) = One Pins
by_move (Write r v) = by_register r
by_move (Store k v) = by_word k
by_move _ = Nothing

-- the hardware touches what goes on with time, and the state of the module that it moves
abbrev pub by_order : Order → Touched
by_order (orders.Tick n) = One Outputs
by_order (orders.Level p v) = One Stamps
by_order (orders.Trigger i) = One Results
by_order (orders.SpiFault u) = One Arrays
by_order (orders.Fill c ws) = Words
by_order _ = Nothing

-- an event touches the state of its module
abbrev pub by_module : ModuleName → Touched
by_module modules.Mcu = One Ram
by_module modules.Port = One Pins
by_module modules.Dio = One Pins
by_module modules.Pwm = One Outputs
by_module modules.Icu = One Stamps
by_module modules.Adc = One Results
by_module modules.Spi = One Arrays
by_module _ = Nothing

abbrev pub by_unit : units.Unit → Aspect
by_unit Adc0 = Results
by_unit Adc1 = Results
by_unit Spi0 = Arrays
by_unit Spi1 = Arrays

abbrev pub by_act : {State Call : Type 0} → Setting State Call → Origin Call → Touched
by_act g (Called c) = by_module (g.class_of c).«module»
by_act g (Entered l) = Nothing

abbrev pub by_event : {State Call : Type 0} → Setting State Call → Origin Call → Event → Touched
by_event g x Act = by_act g x
by_event g x (Serve l) = by_module (g.owner_of l)
by_event g x (Abort u) = One (by_unit u)
by_event g x (Start u) = One (by_unit u)
