-- What channels and ports do over the states of all modules is what they do to the pins.
use Rattle.std.proofs.Common.{◌≡◌, ℕ, refl, sym, subst, Option, Some, None, List}
use Rattle.module_machines.specs.dio.Machine.{does, does_by}
use Rattle.module_machines.specs.dio.Table.{pins_of}
use Rattle.module_machines.specs.declared.dio.call.Call.{Call}
use Rattle.module_machines.specs.declared.dio.call.Call.TheVariants.{ReadChannel, WriteChannel, FlipChannel, ReadPort, WritePort, ReadChannelGroup, WriteChannelGroup}
use Rattle.module_machines.specs.declared.dio.table.DioTable.{DioTable}
use Rattle.module_machines.specs.declared.dio.table.PortPins.{PortPins}
use Rattle.module_machines.specs.port.Machine.{PortState}
use Rattle.module_machines.specs.declared.pwm.table.PwmTable.{PwmTable}
use Rattle.run_model.specs.Machine.{Outcome, Told, outcome_with}
use Rattle.run_model.specs.World.{World}
use Rattle.audit_base.specs.Comes.{Gives}
use Rattle.audit_clock.specs.PortPins.{pins_seeing}
use Rattle.audit_machines.specs.Guest.{States, host_pins, output_at, with_pins}

module _ {C T K R : Type 0} (d : PwmTable) (outputs : List (Option ℕ)) (w : World) (s : States C T K R) where
  -- what is done to the pins, with the other states as they were
  abbrev pub lifted : Outcome PortState → Outcome (States C T K R)
  lifted out = outcome_with (with_pins s out.state) out.told out.begins

  by_pins : (call : Call) (o : Option PortPins) → does_by (host_pins d outputs) w s call o ≡ lifted (does_by (pins_seeing (output_at d outputs w s.1.0.0)) w s.0.1.0 call o)
  by_pins call None = refl
  by_pins (ReadChannel p) (Some x) = refl
  by_pins (WriteChannel p high) (Some x) = refl
  by_pins (FlipChannel p) (Some x) = refl
  by_pins (ReadPort q) (Some x) = refl
  by_pins (WritePort q value) (Some x) = refl
  by_pins (ReadChannelGroup g) (Some x) = refl
  by_pins (WriteChannelGroup g value) (Some x) = refl

  pub gives_lifted : (P : PortState → Type 0) (Q : States C T K R → Type 0) (t : Told) (ports : DioTable) (call : Call) → ((x : PortState) → P x → Q (with_pins s x))
      → Gives P t (does (pins_seeing (output_at d outputs w s.1.0.0)) ports w s.0.1.0 call) → Gives Q t (does (host_pins d outputs) ports w s call)
  gives_lifted P Q t ports call h gives =
      subst (Gives Q t) (sym (by_pins call (pins_of ports call))) (record { told = gives.told; wordless = gives.wordless; kept = h _ gives.kept })
