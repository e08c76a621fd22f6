use Rattle.std.proofs.Common.{◌≡◌, ◌-◌, ◌<◌, None, arith, drop, length, refl, slice_index_or, subst, suc}
use Rattle.std.specs.Prelude.{option_map}
use Rattle.chip_model.specs.Chip.{channel_from}
use Rattle.module_machines.specs.pwm.Machine.{level_at}
use Rattle.audit_machines.proofs.Seen.{seen_more, seen_none, seen_same}
use Rattle.audit_machines.proofs.around_pins.outputs_seen.Goals as goal

pub loop-channel-init : goal.loop-channel-init
loop-channel-init c = record {
  few = omega arith;
  seen = λ w at p lt. (let size : length c.args.outputs.now ≡ 8 = omega arith in seen_none (λ k. level_at c.args.pulses.now.driver w c.args.pulses.now.state k) c.args.outputs.now 64 8 p None refl size);
}

pub loop-channel-preserved-in-Some : goal.loop-channel-preserved-in-Some
loop-channel-preserved-in-Some c =
    let n = c.loop-channel.channel in
    let size : length c.args.outputs.now ≡ 8 = omega arith in
    let there : n - 1 < length c.args.outputs.now = omega (arith, size, c.loop-channel.invariant.few, c.loop-channel-test.true) in
    let next : n ≡ suc (n - 1) = omega (arith, c.loop-channel-test.true) in
    record {
      few = omega (arith, c.loop-channel.invariant.few);
      seen = λ w at p lt.
          seen_more (λ k. level_at c.args.pulses.now.driver w c.args.pulses.now.state k) c.args.outputs.now (n - 1) n p _ (slice_index_or c.loop-channel.seen p None) there next (c.loop-channel.invariant.seen w at p lt)
          c.in-Some.pin c.level.result (slice_index_or c.see.new.seen p None) c.in-Some.is (c.level.ensures w at) (c.see.ensures p lt);
    }

pub loop-channel-preserved : goal.loop-channel-preserved
loop-channel-preserved c =
    let n = c.loop-channel.channel in
    let size : length c.args.outputs.now ≡ 8 = omega arith in
    let there : n - 1 < length c.args.outputs.now = omega (arith, size, c.loop-channel.invariant.few, c.loop-channel-test.true) in
    let next : n ≡ suc (n - 1) = omega (arith, c.loop-channel-test.true) in
    record {
      few = omega (arith, c.loop-channel.invariant.few);
      seen = λ w at p lt.
          seen_same (λ k. level_at c.args.pulses.now.driver w c.args.pulses.now.state k) c.args.outputs.now (n - 1) n p _ (slice_index_or c.loop-channel.seen p None) there next (c.loop-channel.invariant.seen w at p lt) c.in-None.is;
    }

pub returns : goal.returns
returns c w at p lt =
    let d = c.args.pulses.now.driver in
    let x = c.args.pulses.now.state in
    let none : c.loop-channel.channel ≡ 0 = omega (arith, c.loop-channel-test.false) in
    subst (λ n. slice_index_or c.loop-channel.seen p None ≡ option_map (λ k. level_at d w x k) (channel_from n (drop n c.args.outputs.now) p)) none (c.loop-channel.invariant.seen w at p lt)
