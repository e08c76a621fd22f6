use Rattle.std.proofs.Common.{◌≡◌, ℕ, ◌<◌}
use Rattle.chip_model.specs.Chip.{word_of}
use Rattle.module_machines.specs.icu.Machine.{IcuState}
use Rattle.module_machines.specs.icu.Shown.{stamp_at}
use Rattle.mcal_base.specs.Layout.{place_of}
use Rattle.mcal_base.specs.declared.layout.Array.TheVariants.{Stamps}
use Rattle.audit_captures.specs.Stands.{StandsFor}
use Rattle.audit_modules.proofs.stamps.has_stamps.Given as goal

-- the stamps so far are the machine's
abbrev pub invariant-loop-place : goal.invariant-loop-place
invariant-loop-place l = (s : IcuState) → StandsFor l.captures s → (i : ℕ) → i < l.place → word_of l.bus (place_of (Stamps l.channel) i) ≡ stamp_at s l.channel i
