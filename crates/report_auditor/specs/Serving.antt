-- What a moment that is served has to be, part by part.
use Rattle.std.specs.Prelude.{◌≡◌, ℕ, true, false}
use Rattle.chip_model.specs.Chip.{expiry_of, is_masked, is_pending}
use Rattle.run_model.specs.Causes.{origins_of}
use Rattle.run_model.specs.Moment.{Moment, Setting}

-- time goes on at the machine's rate, and the watchdog has as much of it left as its machine says
pub record KeepsTime {State Call : Type 0} (g : Setting State Call) (m : Moment State Call) : Type 0 where
  pub rate : m.chip.clock.rate ≡ g.machine.rate m.state
  pub expiry : expiry_of m.chip ≡ g.machine.expires m.world m.state

-- each line that is due is pending, and each that is pending is used
pub record LinesAgree {State Call : Type 0} (g : Setting State Call) (m : Moment State Call) : Type 0 where
  pub due : (l : ℕ) → g.machine.due m.world m.state l ≡ true → is_pending m.chip l ≡ true
  pub unused : (l : ℕ) → g.used l ≡ false → is_pending m.chip l ≡ false

-- and outputs and user arrays are the machine's that are so wherever the mask is open
pub record AgreesOpen {State Call : Type 0} (g : Setting State Call) (m : Moment State Call) : Type 0 where
  pub lines : LinesAgree g m
  pub outputs : g.unmasked m.chip m.world m.state (origins_of m.opens)

-- where it is open
abbrev pub OpenRight : {State Call : Type 0} → Setting State Call → Moment State Call → Type 0
OpenRight g m = is_masked m.chip ≡ false → AgreesOpen g m
