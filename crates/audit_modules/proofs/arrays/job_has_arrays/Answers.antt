use Rattle.std.proofs.Common.{ℕ, List, ap, subst, sym, ◌∙◌}
use Rattle.std.specs.List.{Contains}
use Rattle.chip_model.specs.Chip.{word_of}
use Rattle.spi_machine.specs.Bounds.{HoldsArrays}
use Rattle.spi_machine.specs.Table.{channels_by, job_of}
use Rattle.spi_machine.specs.declared.table.SpiTable.{SpiTable}
use Rattle.audit_frames.specs.Decides.{Decides}
use Rattle.audit_serial.specs.Stands.{state_of}
use Rattle.audit_modules.proofs.Joining.{none_named}
use Rattle.audit_modules.proofs.arrays.job_has_arrays.Goals as goal

pub returns-in-Some : goal.returns-in-Some
returns-in-Some c =
    let found = ap channels_by (sym c.in-Some.is ∙ (c.job.ensures ∙ ap (λ (d : SpiTable). job_of d c.args.job) c.table.ensures)) in
    subst (λ (xs : List ℕ). Decides c.have_arrays.result ((k : ℕ) → Contains xs k → HoldsArrays (word_of c.args.bus.now) c.args.serials.now.configured.table (state_of c.args.serials.now) k)) (c.channels_listed.ensures ∙ found) c.have_arrays.ensures

pub returns-in-None : goal.returns-in-None
returns-in-None c = none_named c.args.bus.now c.args.serials.now.configured.table (state_of c.args.serials.now) _ (sym (ap channels_by (sym c.in-None.is ∙ (c.job.ensures ∙ ap (λ (d : SpiTable). job_of d c.args.job) c.table.ensures))))
