-- The levels of pins are the machine's where the pins and the pulse outputs are, and so at rest; there the RAM words and users' words are too.
use Rattle.std.proofs.Common.{◌≡◌, ℕ, ◌<◌, Bool, Option, Some, None, refl, ◌∙◌, ap, subst}
use Rattle.std.specs.Prelude.{slice_index, option_map}
use Rattle.chip_model.specs.Wiring.{wiring_of}
use Rattle.chip_model.specs.Chip.{Chip, word_of, power_on, hung, channel_from, output_at, outside_at, pin_of}
use Rattle.chip_model.specs.declared.wiring.Wiring.{Wiring}
use Rattle.chip_blocks.specs.pulses.Pulses as outputs
use Rattle.config_facts.specs.Valid.{IsAdc, IsPwm, IsIcu, IsSpi}
use Rattle.mcal_base.specs.Layout.{length_of, place_of}
use Rattle.mcal_base.specs.declared.config.pwm.PwmChannel.{PwmChannel}
use Rattle.mcal_base.specs.declared.config.whole.Config.{Config}
use Rattle.mcal_base.specs.declared.layout.Array.{Array}
use Rattle.mcal_base.specs.declared.layout.Array.TheVariants.{Round, Stamps, Source, Destination}
use Rattle.run_model.specs.Moment.{Moment}
use Rattle.run_model.specs.World.{World}
use Rattle.module_machines.specs.port.Bounds.{PinsAgree}
use Rattle.module_machines.specs.port.Machine as pins
use Rattle.port_driver.specs.laws.Levels.{level_stands}
use Rattle.module_machines.specs.pwm.Bounds.{OutputsAgree}
use Rattle.module_machines.specs.pwm.Machine as pulses
use Rattle.module_machines.specs.pwm.Table as pulse_table
use Rattle.mcal_drivers.specs.Setting.{SystemState, SystemCall, seen_at, system_setting}
use Rattle.mcal_drivers.specs.Shows.{channel_on, pulse_at, level_at, ram_at, user_at}
use Rattle.mcal_drivers.proofs.Named.{few, named}
use Rattle.mcal_drivers.proofs.Stamps.{has_channel, stamps_few}
use Rattle.mcal_drivers.proofs.Resting.{Rests}
use Rattle.mcal_drivers.proofs.SoundConverters.{result_place}
use Rattle.mcal_drivers.proofs.SoundSerial.{array_length}

-- the outputs of all pulse units are the machine's: so is the one that is seen at a pin, and the pin's level
module _ (c : Config) (v : IsPwm c.pwm) where
  -- the level of a channel's output that is seen, by its number
  fused : (level : ℕ → Bool) (o : Option PwmChannel) → option_map level (option_map (λ (x : PwmChannel). x.id) o) ≡ option_map (λ (x : PwmChannel). level x.id) o
  fused level None = refl
  fused level (Some x) = refl

  same_pulse : (w : World) (s : SystemState) (p : ℕ) → seen_at (pulse_table.table_of c.pwm) (wiring_of c).outputs w s p ≡ pulse_at c w s p
  same_pulse w s p =
      let level : ℕ → Bool = λ k. pulses.level_at (pulse_table.table_of c.pwm) w s.1.0.0 k in
      ap (λ o. option_map level o) (named c p v) ∙ fused level (channel_on c p)

  -- a pin's level is what the driver of channels and ports has of it
  pub same_level : (w : World) (s : SystemState) (p : ℕ) → pins.level_at w s.0.1.0 p (seen_at (pulse_table.table_of c.pwm) (wiring_of c).outputs w s p) ≡ level_at c w s p
  same_level w s p = ap (λ o. pins.level_at w s.0.1.0 p o) (same_pulse w s p)

  module _ (chip : Chip) (w : World) (s : SystemState) (agree : OutputsAgree (pulse_table.table_of c.pwm) chip.pulses w s.1.0.0) (wired : chip.wiring.outputs ≡ (wiring_of c).outputs) where
    seen : (p : ℕ) → output_at chip p ≡ pulse_at c w s p
    seen p =
        let level : ℕ → Bool = λ k. outputs.level_at chip.pulses k in
        ap (λ os. option_map level (channel_from 0 os p)) wired
        ∙ (ap (λ o. option_map level o) (named c p v)
        ∙ by (channel_on c p) (few c p v))
      where
        by : (q : Option PwmChannel) → ((x : PwmChannel) → q ≡ Some x → x.id < 8) → option_map (λ k. outputs.level_at chip.pulses k) (option_map (λ (x : PwmChannel). x.id) q) ≡ option_map (λ (x : PwmChannel). pulses.level_at (pulse_table.table_of c.pwm) w s.1.0.0 x.id) q
        by None small = refl
        by (Some x) small = ap (λ b. Some b) (agree x.id (small x refl))

    pub level_is : (p : ℕ) → p < 64 → PinsAgree chip.pins s.0.1.0 → outside_at chip p ≡ w.levels p → pin_of chip p ≡ level_at c w s p
    level_is p lt stand outside = level_stands chip.pins w s.0.1.0 p (outside_at chip p) (output_at chip p) stand lt outside ∙ ap (λ o. pins.level_at w s.0.1.0 p o) (seen p)

module _ (c : Config) (devices room : ℕ) (chip : Chip) (m : Moment SystemState SystemCall) (rests : Rests (system_setting c) (hung devices (power_on c room)) chip m) where
  -- the outputs of all pulse units are the machine's
  outputs_agree : OutputsAgree (pulse_table.table_of c.pwm) m.chip.pulses m.world m.state.1.0.0
  unfolding system_setting
  outputs_agree = (rests.served.outputs rests.unmasked).1.0.0

  pub pin_level : (p : ℕ) → p < 64 → IsPwm c.pwm → pin_of chip p ≡ level_at c m.world m.state p
  unfolding system_setting
  pin_level p lt v =
      ap (λ (x : Chip). pin_of x p) rests.chip_is
      ∙ level_is c v m.chip m.world m.state outputs_agree (ap (λ (w : Wiring). w.outputs) rests.wiring) p lt rests.quiet.rest.0.1.0 (rests.outside.levels p lt)

  pub ram_word : (k : ℕ) → k < 512 → slice_index chip.ram k ≡ ram_at m.state k
  unfolding system_setting
  ram_word k lt = ap (λ (x : Chip). slice_index x.ram k) rests.chip_is ∙ rests.quiet.rest.0.0.0 k lt

  pub user_word : (a : Array) (k : ℕ) → IsAdc c.adc → IsIcu c.icu → IsSpi c.spi → k < length_of c a → word_of chip (place_of a k) ≡ user_at m.state a k
  unfolding system_setting
  user_word (Round g b) k a v h lt = ap (λ (x : Chip). word_of x (place_of (Round g b) k)) rests.chip_is ∙ result_place c a g b k (word_of m.chip) m.state.1.1.0 (rests.quiet.rest.1.1.0 g) lt
  user_word (Stamps i) k a v h lt = ap (λ (x : Chip). word_of x (place_of (Stamps i) k)) rests.chip_is ∙ rests.quiet.rest.1.0.1 i (has_channel c i k lt v) k (stamps_few c i k lt)
  user_word (Source i) k a v h lt = ap (λ (x : Chip). word_of x (place_of (Source i) k)) rests.chip_is ∙ (rests.quiet.rest.1.1.1 i).source k (subst (λ n. k < n) (array_length c.spi h i) lt)
  user_word (Destination i) k a v h lt = ap (λ (x : Chip). word_of x (place_of (Destination i) k)) rests.chip_is ∙ (rests.quiet.rest.1.1.1 i).destination k (subst (λ n. k < n) (array_length c.spi h i) lt)
