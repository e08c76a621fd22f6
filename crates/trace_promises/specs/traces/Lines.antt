-- The lines that a run may serve are those of a chip.
use Rattle.std.specs.Prelude.{◌≡◌, ℕ, ◌<◌, true}
use Rattle.run_model.specs.Legal.{has_line}
use Rattle.run_model.specs.Moment.{Setting}
use Rattle.run_model.specs.World.{World}

-- Each line that a configured object uses, and each that a call polls, is one of the 32 of a chip.
pub record HasLines {State Call : Type 0} (g : Setting State Call) : Type 0 where
  pub used : (line : ℕ) → g.used line ≡ true → line < 32
  pub polled : (w : World) (s : State) (call : Call) (line : ℕ) → has_line (g.machine.polls w s call) line ≡ true → line < 32
