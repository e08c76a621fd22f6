use Rattle.std.proofs.Common.{◌≡◌, ℕ, ◌<◌, ◌≤◌, None, drop, slice_index_or}
use Rattle.std.specs.Prelude.{option_map}
use Rattle.chip_model.specs.Chip.{channel_from}
use Rattle.module_machines.specs.pwm.Machine.{level_at}
use Rattle.run_model.specs.World.{World}
use Rattle.audit_machines.proofs.around_pins.outputs_seen.Given as goal

-- the channels from here on are seen
abbrev pub invariant-loop-channel : goal.invariant-loop-channel
invariant-loop-channel l = record {
  few : l.channel ≤ 8;
  seen : (w : World) → w.now ≡ l.now → (p : ℕ) → p < 64 → slice_index_or l.seen p None ≡ option_map (λ k. level_at l.pulses.driver w l.pulses.state k) (channel_from l.channel (drop l.channel l.outputs) p);
}

abbrev pub decreases-loop-channel : goal.decreases-loop-channel
decreases-loop-channel l = l.channel
