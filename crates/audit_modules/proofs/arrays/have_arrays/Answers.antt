use Rattle.std.proofs.Common.{arith, get_or, length}
use Rattle.chip_model.specs.Chip.{word_of}
use Rattle.spi_machine.specs.Bounds.{HoldsArrays}
use Rattle.audit_serial.specs.Stands.{state_of}
use Rattle.audit_modules.proofs.Below.{one_more, one_fails, all_pass, listed}
use Rattle.audit_modules.proofs.arrays.have_arrays.Goals as goal

pub loop-channel-preserved : goal.loop-channel-preserved
loop-channel-preserved c = one_more (λ i. HoldsArrays (word_of c.args.bus.now) c.args.serials.now.configured.table (state_of c.args.serials.now) (get_or c.args.channels.now i 0)) c.loop-channel.channel-index c.has_arrays.result c.loop-channel.invariant c.has_arrays.ensures c.if-not-has_arrays.false

pub returns-then-not-has_arrays : goal.returns-then-not-has_arrays
returns-then-not-has_arrays c = listed (λ k. HoldsArrays (word_of c.args.bus.now) c.args.serials.now.configured.table (state_of c.args.serials.now) k) c.args.channels.now _ (one_fails (λ i. HoldsArrays (word_of c.args.bus.now) c.args.serials.now.configured.table (state_of c.args.serials.now) (get_or c.args.channels.now i 0)) c.loop-channel.channel-index (length c.args.channels.now) c.has_arrays.result (omega arith) c.has_arrays.ensures c.if-not-has_arrays.true)

pub returns : goal.returns
returns c = listed (λ k. HoldsArrays (word_of c.args.bus.now) c.args.serials.now.configured.table (state_of c.args.serials.now) k) c.args.channels.now _ (all_pass (λ i. HoldsArrays (word_of c.args.bus.now) c.args.serials.now.configured.table (state_of c.args.serials.now) (get_or c.args.channels.now i 0)) c.loop-channel.channel-index (length c.args.channels.now) (omega arith) c.loop-channel.invariant)
