-- A chip whose parts are those after a reset.
use Rattle.std.proofs.Common.{◌≡◌, ℕ, false, List, [], ◌∷◌, length, replicate, refl}
use Rattle.mcal_base.specs.declared.config.whole.Config.{Config}
use Rattle.mcal_base.specs.declared.directive.Reason.TheVariants.{PowerOn}
use Rattle.irq_control.specs.Control.{Control, control_fresh}
use Rattle.chip_blocks.specs.timers.Timers as timers
use Rattle.chip_blocks.specs.pulses.Pulses as pulses
use Rattle.chip_blocks.specs.captures.Captures as captures
use Rattle.chip_blocks.specs.converter.Converters as converters
use Rattle.chip_blocks.specs.units.Clock as clock
use Rattle.chip_blocks.specs.units.Serials as serials
use Rattle.chip_blocks.specs.units.Pins as pins
use Rattle.chip_blocks.specs.units.Ram as ram
use Rattle.chip_model.specs.declared.wiring.Wiring.{Wiring}
use Rattle.chip_blocks.specs.units.Watchdogs as watchdogs
use Rattle.chip_blocks.specs.declared.units.watchdog.WatchdogBlock.{WatchdogBlock}
use Rattle.chip_model.specs.Wiring.{wiring_of}
use Rattle.chip_model.specs.Waiting.{Waiting}
use Rattle.chip_model.specs.Words.{blank}
use Rattle.chip_model.specs.Chip.{Chip, power_on}

pub is_power_on : (config : Config) (room : ℕ)
    (k : clock.Clock) (t : timers.Timers) (p : pulses.Pulses) (x : captures.Captures) (a : converters.Converters) (s : serials.Serials) (d : pins.Pins) (r : List ℕ) (i : Control) (words : List ℕ) (first second : Waiting) (w : Wiring) (g : WatchdogBlock)
    → k ≡ clock.fresh 0 PowerOn → t ≡ timers.timers_fresh 0 → p ≡ pulses.pulses_fresh 0 → x ≡ captures.captures_fresh (captures.pins_in config.icu.channels) 0
    → a ≡ converters.fresh 0 converters.silent → s ≡ serials.fresh 0 → d ≡ pins.fresh → r ≡ ram.blank → i ≡ control_fresh → words ≡ blank
    → first ≡ record { waiting = []; room = room } → second ≡ record { waiting = []; room = room } → w ≡ wiring_of config → g ≡ watchdogs.fresh
    → ◌≡◌ {A = Chip} (record { clock = k; timers = t; pulses = p; captures = x; converters = a; serials = s; pins = d; ram = r; control = i; watchdog = g; words = words; outside = replicate 64 false; incoming = first ∷ second ∷ []; wiring = w; devices = 0 }) (power_on config room)
is_power_on config room k t p x a s d r i words first second w g e1 e2 e3 e4 e5 e6 e7 e8 e9 e10 e11 e12 e13 e14 =
    rw (e1, e2, e3, e4, e5, e6, e7, e8, e9, e10, e11, e12, e13, e14) refl

pub wires : (config : Config) (w : Wiring) → w ≡ wiring_of config → (length w.outputs ≡ 8) × (length w.sources ≡ 16)
unfolding wiring_of
wires config w e = rw e (refl, refl)
