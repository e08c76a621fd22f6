use Rattle.std.proofs.Common.{ap, length, ◌∙◌}
use Rattle.chip_model.specs.Chip.{word_of}
use Rattle.spi_machine.specs.Bounds.{HoldsArrays}
use Rattle.spi_machine.specs.declared.table.SpiTable.{SpiTable}
use Rattle.audit_serial.specs.Stands.{state_of}
use Rattle.audit_modules.proofs.Below.{one_more, one_fails, all_pass}
use Rattle.audit_modules.proofs.Joining.{all_arrays}
use Rattle.audit_modules.proofs.arrays.arrays_agree.Goals as goal

pub loop-channel-preserved : goal.loop-channel-preserved
loop-channel-preserved c = one_more (λ k. HoldsArrays (word_of c.args.bus.now) c.args.serials.now.configured.table (state_of c.args.serials.now) k) c.loop-channel.channel c.has_arrays.result c.loop-channel.invariant c.has_arrays.ensures c.if-not-has_arrays.false

pub returns-then-not-has_arrays : goal.returns-then-not-has_arrays
returns-then-not-has_arrays c = all_arrays c.args.bus.now c.args.serials.now.configured.table (state_of c.args.serials.now) c.channel_count-channel-end.result _ (c.channel_count-channel-end.ensures ∙ ap (λ (d : SpiTable). length d.channels) c.table.ensures) (one_fails (λ k. HoldsArrays (word_of c.args.bus.now) c.args.serials.now.configured.table (state_of c.args.serials.now) k) c.loop-channel.channel c.channel_count-channel-end.result c.has_arrays.result c.loop-channel-test.true c.has_arrays.ensures c.if-not-has_arrays.true)

pub returns : goal.returns
returns c = all_arrays c.args.bus.now c.args.serials.now.configured.table (state_of c.args.serials.now) c.channel_count-channel-end.result _ (c.channel_count-channel-end.ensures ∙ ap (λ (d : SpiTable). length d.channels) c.table.ensures) (all_pass (λ k. HoldsArrays (word_of c.args.bus.now) c.args.serials.now.configured.table (state_of c.args.serials.now) k) c.loop-channel.channel c.channel_count-channel-end.result c.loop-channel-test.false c.loop-channel.invariant)
