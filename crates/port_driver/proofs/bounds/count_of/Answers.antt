-- Those below the place are counted.
use Rattle.std.proofs.Common.{rules, ◌≡◌, ◌≤◌, length, take, None, ◌∙◌, ap, refl, arith}
use Rattle.std.specs.Prelude.{sum_by, slice_index_or}
use Rattle.std.proofs.lemmas.List.{take_all}
use Rattle.std.proofs.lemmas.List.Sums.{sum_by_more}
use Rattle.module_machines.specs.port.Bounds as spec
use Rattle.port_driver.specs.laws.Ranks.{counted_small}
use Rattle.port_driver.proofs.bounds.count_of.Goals as goal

pub loop-pin-init : goal.loop-pin-init
loop-pin-init c = (refl, omega arith)

pub overflow_add-count : goal.overflow_add-count
overflow_add-count c = let low : c.loop-pin.count ≤ c.loop-pin.pin-index = c.loop-pin.invariant.1 in let small = counted_small (slice_index_or c.args.pins.now c.loop-pin.pin-index None) in omega (arith, low, small)

pub loop-pin-preserved : goal.loop-pin-preserved
loop-pin-preserved c =
    let size : length c.args.pins.now ≡ 64 = search rules in
    let seen : c.loop-pin.count ≡ sum_by spec.counted (take c.loop-pin.pin-index c.args.pins.now) = c.loop-pin.invariant.0 in
    let low : c.loop-pin.count ≤ c.loop-pin.pin-index = c.loop-pin.invariant.1 in
    let more = sum_by_more spec.counted c.args.pins.now c.loop-pin.pin-index None (omega (arith, size)) in
    let small = counted_small (slice_index_or c.args.pins.now c.loop-pin.pin-index None) in
    (omega (arith, seen, more), omega (arith, low, small))

pub returns-clause-count : goal.returns-clause-count
returns-clause-count c =
    let size : length c.args.pins.now ≡ 64 = search rules in
    c.loop-pin.invariant.0 ∙ ap (λ ks. sum_by spec.counted ks) (take_all c.loop-pin.pin-index c.args.pins.now (omega (arith, size)))

pub returns-clause-few : goal.returns-clause-few
returns-clause-few c = let low : c.loop-pin.count ≤ c.loop-pin.pin-index = c.loop-pin.invariant.1 in omega (arith, low)
