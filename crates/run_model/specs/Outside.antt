-- A chip in its outside: what every chip of a run is in the world of that run.
use Rattle.std.specs.Prelude.{◌≡◌, ℕ, ◌<◌, ◌≤◌}
use Rattle.std.specs.List.{AllByRecursion}
use Rattle.chip_blocks.specs.converter.Converters.{level_at}
use Rattle.chip_model.specs.Chip.{Chip, now_of, outside_at}
use Rattle.chip_model.specs.Histories.{HasAll, IsAtOneTime}
use Rattle.run_model.specs.World.{World, Sample, last_sample}

pub record StandsIn (chip : Chip) (w : World) : Type 0 where
  -- it has all its parts, and its blocks are at one time
  pub all : HasAll chip
  pub together : IsAtOneTime chip
  -- its times are the world's
  pub osc : chip.clock.osc ≡ w.osc
  pub now : now_of chip ≡ w.now
  -- and so are the outside levels of its 64 pins, and those of its 32 analog inputs
  pub levels : (p : ℕ) → p < 64 → outside_at chip p ≡ w.levels p
  pub analog : (i : ℕ) → i < 32 → level_at chip.converters.levels i ≡ last_sample w.samples i
  -- what the analog inputs took, they took in the past
  pub past : AllByRecursion (λ (x : Sample). x.since ≤ w.now) w.samples
