use Rattle.std.proofs.Common.{ℕ, List, ap, subst, sym, ◌∙◌}
use Rattle.std.specs.List.{Contains, flat_map}
use Rattle.chip_model.specs.Chip.{word_of}
use Rattle.spi_machine.specs.Bounds.{HoldsArrays}
use Rattle.spi_machine.specs.Table.{channels_of, jobs_by, sequence_of}
use Rattle.spi_machine.specs.declared.table.SpiTable.{SpiTable}
use Rattle.audit_frames.specs.Decides.{Decides}
use Rattle.audit_serial.specs.Stands.{state_of}
use Rattle.audit_modules.proofs.Joining.{none_named}
use Rattle.audit_modules.proofs.arrays.sequence_has_arrays.Goals as goal

pub returns-in-Some : goal.returns-in-Some
returns-in-Some c =
    let d = c.args.serials.now.configured.table in
    let found = ap jobs_by (sym c.in-Some.is ∙ (c.sequence.ensures ∙ ap (λ (x : SpiTable). sequence_of x c.args.sequence) c.table.ensures)) in
    subst (λ (js : List ℕ). Decides c.jobs_have_arrays.result ((k : ℕ) → Contains (flat_map (channels_of d) js) k → HoldsArrays (word_of c.args.bus.now) d (state_of c.args.serials.now) k)) (c.jobs_listed.ensures ∙ found) c.jobs_have_arrays.ensures

pub returns-in-None : goal.returns-in-None
returns-in-None c =
    let d = c.args.serials.now.configured.table in
    none_named c.args.bus.now d (state_of c.args.serials.now) _ (sym (ap (λ o. flat_map (channels_of d) (jobs_by o)) (sym c.in-None.is ∙ (c.sequence.ensures ∙ ap (λ (x : SpiTable). sequence_of x c.args.sequence) c.table.ensures))))
