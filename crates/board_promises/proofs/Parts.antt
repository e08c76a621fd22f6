-- The machines of converter and serial units are parts of that of all modules.
use Rattle.std.proofs.Common.{◌≡◌, Option, Some, None, refl, sym, ◌∙◌, ap}
use Rattle.mcal_base.specs.facts.Options.{some_same}
use Rattle.chip_model.specs.Wiring.{wiring_of}
use Rattle.mcal_base.specs.declared.config.whole.Config.{Config}
use Rattle.run_model.specs.Machine.{Happening, Acts, Serves, Starts, Aborts, Moves, Restarts, Outcome, Machine, outcome_with}
use Rattle.run_model.specs.World.{World}
use Rattle.step_runner.specs.Union.{first_call}
use Rattle.step_runner.specs.declared.either.Either.{Either}
use Rattle.step_runner.specs.declared.either.Either.TheVariants.{Left, Right}
use Rattle.service_outline.specs.guests.Guest.{Guest, guest_happens, guest_machine}
use Rattle.module_machines.specs.dio.Machine.{does_by}
use Rattle.module_machines.specs.dio.Table as port_table
use Rattle.module_machines.specs.declared.dio.table.PortPins.{PortPins}
use Rattle.module_machines.specs.declared.dio.call.Call as port_calls
use Rattle.module_machines.specs.declared.dio.call.Call.TheVariants as port_call
use Rattle.module_machines.specs.pwm.Table as pulse_table
use Rattle.adc_machine.specs.Machine.{adc_machine}
use Rattle.adc_machine.specs.Table as converter_table
use Rattle.spi_machine.specs.Machine.{spi_machine}
use Rattle.spi_machine.specs.Table as serial_table
use Rattle.module_machines.specs.icu.Machine.{moved as captured}
use Rattle.module_machines.specs.icu.Machine as captures
use Rattle.module_machines.specs.icu.Table as capture_table
use Rattle.module_machines.specs.mcu.Machine as clocks
use Rattle.module_machines.specs.wdg.Machine as watchdogs
use Rattle.module_machines.specs.port.Machine as pins
use Rattle.module_machines.specs.gpt.Machine as timers
use Rattle.module_machines.specs.pwm.Machine as pulses
use Rattle.board_promises.specs.whole_runs.Members.{IsPart, IsMute, Embedding, first_place, own_through, second_place}
use Rattle.board_promises.proofs.MemberRuns.{first_part, second_part, part_within, union_mute}
use Rattle.board_promises.proofs.Promises.{mute_by, converter_mute, serial_mute}
use Rattle.mcal_drivers.specs.Setting.{joined, clock_setting, watchdog_setting, pin_setting, timer_setting, pulse_setting, capture_setting, converter_setting, serial_setting, host_pins, host_setting, port_guest, system_setting, SystemState}
use Rattle.board_promises.specs.Places.{watched_modules, first_modules, edge_modules, unit_modules, last_modules, host_own, host_place, host_units_place, units_place, converter_place, serial_place}

-- a part of a driver that its guest leaves alone is a part of both
module _ {S C U E D G : Type 0} (small : Machine S C) (m : Machine U E) (g : Guest U D G) (p : Embedding S C U E) (is : IsPart small m p) (still : (w : World) (u : U) (c : D) → p.part (g.does w u c).state ≡ p.part u) where
  guest_leaves : (w : World) (u : U) (h : Happening (Either E D)) (out : Outcome U) → guest_happens m g w u h ≡ Some out → own_through p w u (host_own h) ≡ None → p.part out.state ≡ p.part u
  guest_leaves w u (Acts (Left c) times) out at none = is.leaves w u (Acts c times) out at none
  guest_leaves w u (Acts (Right c) times) out at none = ap (λ (o : Outcome U). p.part o.state) (sym (some_same at)) ∙ still w u c
  guest_leaves w u (Serves l r) out at none = is.leaves w u (Serves l r) out at none
  guest_leaves w u (Starts k made_by r) out at none = is.leaves w u (Starts k (first_call made_by) r) out at none
  guest_leaves w u (Aborts k) out at none = is.leaves w u (Aborts k) out at none
  guest_leaves w u (Moves order) out at none = is.leaves w u (Moves order) out at none
  guest_leaves w u (Restarts reason) out at none = is.leaves w u (Restarts reason) out at none

  guest_does : (w : World) (u : U) (h : Happening (Either E D)) (x : Happening C) (out : Outcome U) → guest_happens m g w u h ≡ Some out → own_through p w u (host_own h) ≡ Some x → small.happens w (p.part u) x ≡ Some (outcome_with (p.part out.state) out.told out.begins)
  guest_does w u (Acts (Left c) times) x out at own = is.does w u (Acts c times) x out at own
  guest_does w u (Acts (Right c) times) x out at own = absurd (cc own)
  guest_does w u (Serves l r) x out at own = is.does w u (Serves l r) x out at own
  guest_does w u (Starts k made_by r) x out at own = is.does w u (Starts k (first_call made_by) r) x out at own
  guest_does w u (Aborts k) x out at own = is.does w u (Aborts k) x out at own
  guest_does w u (Moves order) x out at own = is.does w u (Moves order) x out at own
  guest_does w u (Restarts reason) x out at own = is.does w u (Restarts reason) x out at own

  host_part : IsPart small (guest_machine m g) (host_place p)
  host_part = record { leaves = guest_leaves; does = guest_does }

module _ (c : Config) where
  -- channels and ports leave the units' states
  ports_still : (w : World) (s : SystemState) (call : port_calls.Call) (pins : Option PortPins) → (does_by (host_pins (pulse_table.table_of c.pwm) (wiring_of c).outputs) w s call pins).state.1.1 ≡ s.1.1
  ports_still w s call None = refl
  ports_still w s (port_call.ReadChannel n) (Some pins) = refl
  ports_still w s (port_call.WriteChannel n high) (Some pins) = refl
  ports_still w s (port_call.FlipChannel n) (Some pins) = refl
  ports_still w s (port_call.ReadPort n) (Some pins) = refl
  ports_still w s (port_call.WritePort n value) (Some pins) = refl
  ports_still w s (port_call.ReadChannelGroup n) (Some pins) = refl
  ports_still w s (port_call.WriteChannelGroup n value) (Some pins) = refl

  -- hardware and resets tell the users of no module anything
  clock_mute : IsMute (clock_setting c).machine
  clock_mute = record { moves = λ w s order out e. mute_by s out e; restarts = λ w s reason out e. mute_by (clocks.after_reset reason) out e }

  watchdog_mute : IsMute (watchdog_setting c).machine
  watchdog_mute = record { moves = λ w s order out e. mute_by s out e; restarts = λ w s reason out e. mute_by watchdogs.first_state out e }

  watched_mute : IsMute (watched_modules c).machine
  watched_mute = union_mute (clock_setting c).used (clock_setting c).machine (watchdog_setting c).machine clock_mute watchdog_mute

  pin_mute : IsMute (pin_setting c).machine
  pin_mute = record { moves = λ w s order out e. mute_by s out e; restarts = λ w s reason out e. mute_by pins.first_state out e }

  timer_mute : IsMute (timer_setting c).machine
  timer_mute = record { moves = λ w s order out e. mute_by s out e; restarts = λ w s reason out e. mute_by timers.first_state out e }

  pulse_mute : IsMute (pulse_setting c).machine
  pulse_mute = record { moves = λ w s order out e. mute_by s out e; restarts = λ w s reason out e. mute_by pulses.first_state out e }

  capture_mute : IsMute (capture_setting c).machine
  capture_mute = record { moves = λ w s order out e. mute_by (captured (capture_table.table_of c.icu) w s order) out e; restarts = λ w s reason out e. mute_by captures.first_state out e }

  first_mute : IsMute (first_modules c).machine
  first_mute = union_mute (watched_modules c).used (watched_modules c).machine (joined (pin_setting c) (timer_setting c)).machine watched_mute (union_mute (pin_setting c).used (pin_setting c).machine (timer_setting c).machine pin_mute timer_mute)

  edge_mute : IsMute (edge_modules c).machine
  edge_mute = union_mute (pulse_setting c).used (pulse_setting c).machine (capture_setting c).machine pulse_mute capture_mute

  adc_mute : IsMute (converter_setting c).machine
  adc_mute = converter_mute (converter_table.table_of c.adc)

  spi_mute : IsMute (serial_setting c).machine
  spi_mute = serial_mute (serial_table.table_of c.spi)

  unit_mute : IsMute (unit_modules c).machine
  unit_mute = union_mute (converter_setting c).used (converter_setting c).machine (serial_setting c).machine adc_mute spi_mute

  last_mute : IsMute (last_modules c).machine
  last_mute = union_mute (edge_modules c).used (edge_modules c).machine (unit_modules c).machine edge_mute unit_mute

  -- the units' machine is part of all
  units_part : IsPart (unit_modules c).machine (system_setting c).machine (units_place c)
  unfolding system_setting
  units_part =
      let d = port_table.table_of c.port c.dio in
      host_part (unit_modules c).machine (host_setting c).machine (port_guest c) (host_units_place c)
      (part_within (unit_modules c).machine (last_modules c).machine (host_setting c).machine (second_place (edge_modules c).used (edge_modules c).machine) (second_place (first_modules c).used (first_modules c).machine)
      (second_part (edge_modules c).used (edge_modules c).machine (unit_modules c).machine edge_mute unit_mute)
      (second_part (first_modules c).used (first_modules c).machine (last_modules c).machine first_mute last_mute))
      (λ w s call. ports_still w s call (port_table.pins_of d call))

  pub converter_part : IsPart (adc_machine (converter_table.table_of c.adc)) (system_setting c).machine (converter_place c)
  converter_part = part_within (converter_setting c).machine (unit_modules c).machine (system_setting c).machine (first_place (converter_setting c).used (converter_setting c).machine) (units_place c)
      (first_part (converter_setting c).used (converter_setting c).machine (serial_setting c).machine adc_mute spi_mute) units_part

  pub serial_part : IsPart (spi_machine (serial_table.table_of c.spi)) (system_setting c).machine (serial_place c)
  serial_part = part_within (serial_setting c).machine (unit_modules c).machine (system_setting c).machine (second_place (converter_setting c).used (converter_setting c).machine) (units_place c)
      (second_part (converter_setting c).used (converter_setting c).machine (serial_setting c).machine adc_mute spi_mute) units_part
