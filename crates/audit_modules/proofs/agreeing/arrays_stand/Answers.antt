use Rattle.std.proofs.Common.{ℕ, subst}
use Rattle.chip_model.specs.Chip.{word_of}
use Rattle.spi_machine.specs.Bounds.{HoldsArrays}
use Rattle.spi_machine.specs.State.{SpiState}
use Rattle.audit_frames.specs.Decides.{Decides}
use Rattle.audit_modules.proofs.agreeing.arrays_stand.Goals as goal

pub returns : goal.returns
returns c s h = subst (λ (x : SpiState). Decides c.arrays_agree.result ((k : ℕ) → HoldsArrays (word_of c.args.bus.now) c.args.modules.now.host.second.second.second.configured.table x k)) h.1.1.1 c.arrays_agree.ensures
