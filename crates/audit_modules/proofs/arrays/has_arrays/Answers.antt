use Rattle.std.proofs.Common.{ap, arith, ◌∙◌}
use Rattle.spi_machine.specs.Table.{channel_of, length_by}
use Rattle.spi_machine.specs.declared.table.SpiTable.{SpiTable}
use Rattle.audit_modules.specs.Agrees.{HoldsDestination, HoldsSource}
use Rattle.audit_serial.specs.Stands.{state_of}
use Rattle.audit_modules.proofs.Below.{one_more, one_fails, all_pass}
use Rattle.audit_modules.proofs.Joining.{both_arrays, is_short}
use Rattle.audit_modules.proofs.arrays.has_arrays.Goals as goal

pub has_place-requires : goal.has_place-requires
has_place-requires c =
    let few = is_short c.args.serials.now.configured.table c.args.channel c.length_of-place-end.result c.args.serials.now.configured.short (c.length_of-place-end.ensures.is ∙ ap (λ (d : SpiTable). length_by (channel_of d c.args.channel)) c.table.ensures) in
    let there = c.length_of-place-end.ensures.there (omega (arith, c.loop-place-test.true)) in
    record { channel = there; place = omega (arith, few, c.loop-place-test.true) }

pub loop-place-preserved : goal.loop-place-preserved
loop-place-preserved c = one_more (λ i. HoldsSource c.args.bus.now (state_of c.args.serials.now) c.args.channel i × HoldsDestination c.args.bus.now (state_of c.args.serials.now) c.args.channel i) c.loop-place.place c.has_place.result c.loop-place.invariant c.has_place.ensures c.if-not-has_place.false

pub returns-then-not-has_place : goal.returns-then-not-has_place
returns-then-not-has_place c =
    let count = c.length_of-place-end.ensures.is ∙ ap (λ (d : SpiTable). length_by (channel_of d c.args.channel)) c.table.ensures in
    both_arrays c.args.bus.now c.args.serials.now.configured.table (state_of c.args.serials.now) c.args.channel c.length_of-place-end.result _ count (one_fails (λ i. HoldsSource c.args.bus.now (state_of c.args.serials.now) c.args.channel i × HoldsDestination c.args.bus.now (state_of c.args.serials.now) c.args.channel i) c.loop-place.place c.length_of-place-end.result c.has_place.result c.loop-place-test.true c.has_place.ensures c.if-not-has_place.true)

pub returns : goal.returns
returns c =
    let count = c.length_of-place-end.ensures.is ∙ ap (λ (d : SpiTable). length_by (channel_of d c.args.channel)) c.table.ensures in
    both_arrays c.args.bus.now c.args.serials.now.configured.table (state_of c.args.serials.now) c.args.channel c.length_of-place-end.result _ count (all_pass (λ i. HoldsSource c.args.bus.now (state_of c.args.serials.now) c.args.channel i × HoldsDestination c.args.bus.now (state_of c.args.serials.now) c.args.channel i) c.loop-place.place c.length_of-place-end.result c.loop-place-test.false c.loop-place.invariant)
