-- A driver that was made of a sound configuration is as it has to be.
use Rattle.std.proofs.Common.{◌≡◌, ℕ, ◌<◌, Bool, true, false, nat_lt, refl, arith}
use Rattle.std.specs.Prelude.{if◌then◌else◌}
use Rattle.std.proofs.lemmas.Bool.Decides.{nat_tests}
use Rattle.mcal_base.specs.declared.config.wdg.WdgConfig.{WdgConfig}
use Rattle.module_machines.specs.wdg.Table.{table_of, FitsWdg}
use Rattle.module_machines.specs.wdg.Numbers.{narrow}

narrow_few : (n : ℕ) → narrow n < 65536
narrow_few n = by (nat_lt n 65536) refl
  where
    by : (q : Bool) → nat_lt n 65536 ≡ q → (if q then n else 0) < 65536
    by true e = grind (arith, nat_tests)
    by false e = omega arith

pub fits_of : (g : WdgConfig) → FitsWdg (table_of g)
fits_of g = record { initial = narrow_few g.initial_ticks; most = narrow_few g.max_ticks }
