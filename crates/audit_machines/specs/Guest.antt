-- Channels and ports as the guest of a machine that has the pins: their calls act on its states.
use Rattle.std.specs.Prelude.{ℕ, Bool, List, [], Option, Some, option_map}
use Rattle.chip_model.specs.Chip.{channel_from}
use Rattle.module_machines.specs.dio.Checks.{service_of, reporting}
use Rattle.module_machines.specs.dio.Machine.{HostPins, does}
use Rattle.module_machines.specs.declared.dio.call.Call.{Call}
use Rattle.module_machines.specs.declared.dio.table.DioTable.{DioTable}
use Rattle.module_machines.specs.port.Machine.{PortState, Put, Inverted, level_at, with_change}
use Rattle.module_machines.specs.pwm.Machine as pulses
use Rattle.module_machines.specs.pwm.Machine.{PwmState}
use Rattle.module_machines.specs.declared.pwm.table.PwmTable.{PwmTable}
use Rattle.run_model.specs.Machine.{Happening, Acts, Serves, Starts, Aborts, Moves, Restarts, Machine, Outcome}
use Rattle.run_model.specs.World.{World}
use Rattle.audit_base.specs.Deeds.{Member}
use Rattle.audit_base.specs.Product.{either, first_call}
use Rattle.audit_base.specs.declared.either.Either as one_of
use Rattle.audit_base.specs.declared.either.Either.TheVariants.{Left, Right}

-- ---- the pins

-- The states of the modules: those before the pins, the pins', those behind them, the pulse outputs', and those behind these.
abbrev pub States : (C T K R : Type 0) → Type 0
States C T K R = (C × (PortState × T)) × ((PwmState × K) × R)

-- the output of the pulse channel that is seen at a pin, where these name their pins
abbrev pub output_at : PwmTable → (outputs : List (Option ℕ)) → World → PwmState → (pin : ℕ) → Option Bool
output_at d outputs w s p = option_map (λ k. pulses.level_at d w s k) (channel_from 0 outputs p)

module _ {C T K R : Type 0} where
  -- with these pins
  abbrev pub with_pins : States C T K R → PortState → States C T K R
  with_pins s x = ((s.0.0, (x, s.0.1.1)), s.1)

  -- the level of a pin
  abbrev pub pin_level : PwmTable → (outputs : List (Option ℕ)) → World → States C T K R → (pin : ℕ) → Bool
  pin_level d outputs w s p = level_at w s.0.1.0 p (output_at d outputs w s.1.0.0 p)

  -- the pins: their levels, and what of their latches may be changed
  abbrev pub host_pins : PwmTable → (outputs : List (Option ℕ)) → HostPins (States C T K R)
  host_pins d outputs = record {
    level = pin_level d outputs;
    put = λ q word s. with_pins s (with_change s.0.1.0 (Put q word));
    flip = λ p s. with_pins s (with_change s.0.1.0 (Inverted p));
  }

-- ---- the machine

module _ {State C : Type 0} (m : Member State C) (h : HostPins State) (d : DioTable) where
  -- the guest's calls act on the host's state, and all else is the host's
  abbrev pub happens : World → State → Happening (one_of.Either C Call) → Option (Outcome State)
  happens w s (Acts (Left c) times) = m.machine.happens w s (Acts c times)
  happens w s (Acts (Right c) times) = Some (does h d w s c)
  happens w s (Serves l r) = m.machine.happens w s (Serves l r)
  happens w s (Starts u by r) = m.machine.happens w s (Starts u (first_call by) r)
  happens w s (Aborts u) = m.machine.happens w s (Aborts u)
  happens w s (Moves order) = m.machine.happens w s (Moves order)
  happens w s (Restarts reason) = m.machine.happens w s (Restarts reason)

  abbrev pub machine : Machine State (one_of.Either C Call)
  machine = record {
    happens = happens;
    ready = m.machine.ready;
    due = m.machine.due;
    line_waits = m.machine.line_waits;
    startable = m.machine.startable;
    rate = m.machine.rate;
    expires = m.machine.expires;
    service_of = either m.machine.service_of service_of;
    reporting = either m.machine.reporting (λ c. reporting d);
    polls = λ w s c. either (m.machine.polls w s) (λ x. []) c;
  }

  -- the host with channels and ports
  abbrev pub hosted : Member State (one_of.Either C Call)
  hosted = record { machine = machine; lines = m.lines }
