-- Channels and ports as the guest of a module in a run: what their frames are judged by.
use Rattle.std.specs.Prelude.{◌≡◌, ◌==◌, nat_lt, Bool, false}
use Rattle.std.proofs.Common.{ap}
use Rattle.module_machines.specs.dio.Machine.{HostPins}
use Rattle.module_machines.specs.declared.dio.call.Call.{Call}
use Rattle.module_machines.specs.declared.dio.table.DioTable.{DioTable}
use Rattle.mcal_base.specs.declared.module_name.ModuleName.TheVariants.{Port}
use Rattle.mcal_base.specs.declared.moves.Move.{Move}
use Rattle.mcal_base.specs.declared.moves.Move.TheVariants.{Read, Write, Load}
use Rattle.mcal_base.specs.declared.register.Reg.TheVariants.{PortLevels, PortPut, PinFlip}
use Rattle.run_model.specs.Moment.{Setting}
use Rattle.audit_base.specs.Deeds.{Member}
use Rattle.audit_base.specs.declared.either.Either.{Either}
use Rattle.audit_subject.specs.Hosting.{Lodger, hosting}
use Rattle.audit_subject.specs.Product.{member_of}
use Rattle.audit_machines.specs.Guest.{hosted, machine}

-- a frame may access a port or a pin that is there, and load the word that a call with an error loads
abbrev pub may : Move → Bool
may (Read (PortLevels q)) = nat_lt q 8
may (Read (PinFlip p)) = nat_lt p 64
may (Write (PortPut q) word) = nat_lt q 8
may (Load k) = k == 57344
may _ = false

-- channels and ports work in the pins' block
abbrev pub ports : Lodger
ports = record { block = Port; may = may; steps = 64 }

-- the run of a host that has these pins, with channels and ports
abbrev pub hosted_setting : {State C : Type 0} → Setting State C → HostPins State → DioTable → Setting State (Either C Call)
hosted_setting h pins d = hosting h (machine (member_of h) pins d) ports

-- its machine is the host's with channels and ports, where the host's is this one
pub hosted_member : {State C : Type 0} (h : Setting State C) (m : Member State C) (pins : HostPins State) (d : DioTable) → member_of h ≡ m → member_of (hosted_setting h pins d) ≡ hosted m pins d
hosted_member h m pins d same = ap (λ x. hosted x pins d) same
