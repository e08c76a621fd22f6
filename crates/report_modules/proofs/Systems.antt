-- The checker's machine of all modules is the drivers', and what its runs are over is what theirs are over.
use Rattle.std.proofs.Common.{◌≡◌}
use Rattle.mcal_base.specs.declared.config.whole.Config.{Config}
use Rattle.adc_machine.specs.Table as converter_table
use Rattle.chip_model.specs.Wiring.{wiring_of}
use Rattle.module_machines.specs.dio.Table as port_table
use Rattle.module_machines.specs.gpt.Table as timer_table
use Rattle.module_machines.specs.icu.Table as capture_table
use Rattle.module_machines.specs.mcu.Table as clock_table
use Rattle.module_machines.specs.port.Table as pin_table
use Rattle.module_machines.specs.pwm.Table as pulse_table
use Rattle.spi_machine.specs.Table as serial_table
use Rattle.module_machines.specs.wdg.Table as watchdog_table
use Rattle.mcal_drivers.specs.Setting.{SystemCall, call_of, capture_setting, clock_setting, converter_setting, host_pins, host_setting, pin_setting, pulse_setting, serial_setting, system_setting, timer_setting, watchdog_setting}
use Rattle.audit_captures.specs.Members as captures
use Rattle.audit_clock.specs.Members.{clock_member, pins_member, watchdog_member}
use Rattle.audit_converters.specs.Members as converters
use Rattle.audit_pulses.specs.Members as pulses
use Rattle.audit_serial.specs.Members as serial
use Rattle.audit_timers.specs.Members as timers
use Rattle.audit_machines.specs.Requests as requests
use Rattle.audit_machines.specs.Requests.{AnyCall}
use Rattle.report_modules.specs.machines.Bench.{IsOne, bench}
use Rattle.report_modules.specs.machines.Calls.{any_call, kept, pair, named, state_call}
use Rattle.report_modules.specs.machines.Same.{IsSame}
use Rattle.report_modules.specs.machines.System.{all_setting, state_member, state_setting, system_member}
use Rattle.report_modules.proofs.Guests.{is_guest}
use Rattle.report_modules.proofs.Names.{calls_same, one_to_one}
use Rattle.report_modules.proofs.Products.{is_kept, is_union}
use Rattle.report_modules.proofs.Renaming.{same_bench}
use Rattle.report_modules.proofs.Settings.{guest_one, kept_one, union_one}

module _ (c : Config) where
  is_host : IsSame state_call (state_member c) (host_setting c).machine (host_setting c).used
  is_host = is_union (named pair pair) (named pair pair) _ _ _ _ _ _
      (is_union pair pair _ _ _ _ _ _
      (is_union kept kept _ _ _ _ _ _ (is_kept (clock_member (clock_table.table_of c.mcu))) (is_kept (watchdog_member (watchdog_table.table_of c.wdg))))
      (is_union kept kept _ _ _ _ _ _ (is_kept (pins_member (pin_table.table_of c.port))) (is_kept (timers.member_of (timer_table.table_of c.gpt)))))
      (is_union pair pair _ _ _ _ _ _
      (is_union kept kept _ _ _ _ _ _ (is_kept (pulses.member_of (pulse_table.table_of c.pwm))) (is_kept (captures.member_of (capture_table.table_of c.icu))))
      (is_union kept kept _ _ _ _ _ _ (is_kept (converters.member_of (converter_table.table_of c.adc))) (is_kept (serial.member_of (serial_table.table_of c.spi)))))

  pub is_system : IsSame any_call (system_member c) (system_setting c).machine (system_setting c).used
  unfolding system_setting
  is_system = is_guest state_call (state_member c) (host_setting c).machine (host_setting c).used is_host (host_pins (pulse_table.table_of c.pwm) (wiring_of c).outputs) (port_table.table_of c.port c.dio) (λ wiring. wiring.outputs ≡ (wiring_of c).outputs)

  -- ---- what runs are over

  host_one : IsOne state_call (state_setting c) (host_setting c)
  host_one = union_one (named pair pair) (named pair pair) _ _ _ _
      (union_one pair pair _ _ _ _
      (union_one kept kept _ _ _ _ (kept_one (clock_setting c)) (kept_one (watchdog_setting c)))
      (union_one kept kept _ _ _ _ (kept_one (pin_setting c)) (kept_one (timer_setting c))))
      (union_one pair pair _ _ _ _
      (union_one kept kept _ _ _ _ (kept_one (pulse_setting c)) (kept_one (capture_setting c)))
      (union_one kept kept _ _ _ _ (kept_one (converter_setting c)) (kept_one (serial_setting c))))

  system_one : IsOne any_call (all_setting c) (system_setting c)
  unfolding system_setting
  system_one = guest_one state_call (state_setting c) (host_setting c) host_one (host_pins (pulse_table.table_of c.pwm) (wiring_of c).outputs) (port_table.table_of c.port c.dio) (λ wiring. wiring.outputs ≡ (wiring_of c).outputs)

  pub benches_are_one : bench AnyCall (all_setting c) requests.call_of ≡ bench SystemCall (system_setting c) call_of
  benches_are_one = same_bench (all_setting c) requests.call_of one_to_one (system_setting c) call_of system_one calls_same
