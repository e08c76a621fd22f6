-- An expiry in a history of the timer block.
use Rattle.std.specs.Prelude.{◌≡◌, ℕ, ◌+◌, List, ◌∷◌, ◌++◌}
use Rattle.chip_blocks.specs.timers.Accesses.{Access, Passes, after_all}
use Rattle.chip_blocks.specs.timers.Run.{Run}
use Rattle.chip_blocks.specs.timers.Timers.{Timers, timer_at}
use Rattle.chip_blocks.specs.declared.timers.timer.Count.TheVariants.{Since}
use Rattle.machine_laws.specs.timers.Expiries.{ExpiresBetween}

-- While time passed in a history, an expiry time came of the counter that was under way.
pub record ExpiryIn (b : Timers) (c : ℕ) (history : List Access) : Type 0 where
  pub before : List Access
  pub ticks : ℕ
  pub rest : List Access
  pub is : history ≡ before ++ Passes ticks ∷ rest
  pub run : Run
  pub runs : (timer_at (after_all b before) c).count ≡ Since run
  pub expires : ExpiresBetween run.one_shot run.start run.target run.prescaler (after_all b before).time ((after_all b before).time + ticks)
