-- The watchdog's time of all modules' machine runs down by the ticks.
use Rattle.std.proofs.Common.{◌≡◌, ℕ, ◌+◌, ◌-◌, Option, Some, None, refl, sym, ap, arith}
use Rattle.std.specs.Prelude.{option_map}
use Rattle.mcal_base.specs.declared.config.whole.Config.{Config}
use Rattle.run_model.specs.Machine.{Outcome, outcome, tells_nothing}
use Rattle.module_machines.specs.wdg.Machine.{WdgState}
use Rattle.mcal_drivers.specs.Setting.{joined, clock_setting, watchdog_setting, pin_setting, timer_setting, pulse_setting, capture_setting, converter_setting, serial_setting, host_setting, system_setting}
use Rattle.board_promises.specs.Places.{watched_modules, first_modules, edge_modules, unit_modules, last_modules}
use Rattle.board_promises.proofs.Expiries.{RunsDown, union_down}

later_left : (deadline osc n : ℕ) → deadline - (osc + n) ≡ deadline - osc - n
later_left deadline osc n = omega arith

left_down : (osc n : ℕ) (deadline : Option ℕ) → option_map (λ d. d - (osc + n)) deadline ≡ option_map (λ left. left - n) (option_map (λ d. d - osc) deadline)
left_down osc n None = refl
left_down osc n (Some d) = ap (λ x. Some x) (later_left d osc n)

state_kept : {S : Type 0} (a b : Outcome S) → Some a ≡ Some b → b.state ≡ a.state
state_kept {S} a b e = let same : a ≡ b = cc e in ap (λ (o : Outcome S). o.state) (sym same)

module _ (c : Config) where
  watchdog_down : RunsDown (watchdog_setting c).machine
  watchdog_down = record {
    moves = λ w later s order out e. ap (λ (x : WdgState). (watchdog_setting c).machine.expires later x) (state_kept (outcome s tells_nothing) out e);
    ticks = λ w s rate n. left_down w.osc n s.deadline;
  }

  clock_down : RunsDown (clock_setting c).machine
  clock_down = record { moves = λ w later s order out e. refl; ticks = λ w s rate n. refl }

  pin_down : RunsDown (pin_setting c).machine
  pin_down = record { moves = λ w later s order out e. refl; ticks = λ w s rate n. refl }

  timer_down : RunsDown (timer_setting c).machine
  timer_down = record { moves = λ w later s order out e. refl; ticks = λ w s rate n. refl }

  pulse_down : RunsDown (pulse_setting c).machine
  pulse_down = record { moves = λ w later s order out e. refl; ticks = λ w s rate n. refl }

  capture_down : RunsDown (capture_setting c).machine
  capture_down = record { moves = λ w later s order out e. refl; ticks = λ w s rate n. refl }

  converter_down : RunsDown (converter_setting c).machine
  converter_down = record { moves = λ w later s order out e. refl; ticks = λ w s rate n. refl }

  serial_down : RunsDown (serial_setting c).machine
  serial_down = record { moves = λ w later s order out e. refl; ticks = λ w s rate n. refl }

  host_down : RunsDown (host_setting c).machine
  host_down = union_down (first_modules c).used (first_modules c).machine (last_modules c).machine
      (union_down (watched_modules c).used (watched_modules c).machine (joined (pin_setting c) (timer_setting c)).machine
      (union_down (clock_setting c).used (clock_setting c).machine (watchdog_setting c).machine clock_down watchdog_down)
      (union_down (pin_setting c).used (pin_setting c).machine (timer_setting c).machine pin_down timer_down))
      (union_down (edge_modules c).used (edge_modules c).machine (unit_modules c).machine
      (union_down (pulse_setting c).used (pulse_setting c).machine (capture_setting c).machine pulse_down capture_down)
      (union_down (converter_setting c).used (converter_setting c).machine (serial_setting c).machine converter_down serial_down))

  pub system_down : RunsDown (system_setting c).machine
  unfolding system_setting
  system_down = record { moves = λ w later s order out e. host_down.moves w later s order out e; ticks = host_down.ticks }
