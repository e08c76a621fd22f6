-- A driver that was made of a sound configuration is as it has to be.
use Rattle.std.proofs.Common.{◌≡◌, ℕ, suc, ◌<◌, ◌^◌, Bool, true, false, ◌==◌, List, [], ◌∷◌, Some, refl, ap, subst, arith}
use Rattle.std.specs.Prelude.{All, if◌then◌else◌, is_some}
use Rattle.mcal_base.specs.declared.config.gpt.GptChannel.{GptChannel}
use Rattle.mcal_base.specs.declared.config.gpt.GptConfig.{GptConfig}
use Rattle.module_machines.specs.gpt.laws.Channels.{by_eight, within}
use Rattle.module_machines.specs.gpt.Table.{channel_in, table_of, channel_of, taken, FitsGpt}
use Rattle.module_machines.specs.declared.gpt.table.Channel.{Channel}

-- the channel counts, and its values fit a register
pub record IsSound (x : GptChannel) : Type 0 where
  pub prescaler : 0 < x.prescaler
  pub small : x.tick_value_max < 2 ^ 32

-- what is known of a channel that was found
pub record IsFound (c : ℕ) (k : Channel) : Type 0 where
  pub number : k.number ≡ c
  pub prescaler : 0 < k.prescaler
  pub small : k.tick_value_max < 2 ^ 32

found_by : (x : GptChannel) (xs : List GptChannel) (c : ℕ) (k : Channel) (q : Bool) → IsSound x → (channel_in xs c ≡ Some k → IsFound c k) → (if q then Some (taken x c) else channel_in xs c) ≡ Some k → IsFound c k
found_by x xs c k true sound more e =
    let at : taken x c ≡ k = cc in
    subst (λ y. IsFound c y) at (record { number = refl; prescaler = sound.prescaler; small = sound.small })
found_by x xs c k false sound more e = more e

found : (xs : List GptChannel) (c : ℕ) (k : Channel) → All IsSound xs → channel_in xs c ≡ Some k → IsFound c k
found [] c k sound e = absurd (cc)
found (x ∷ xs) c k sound e = found_by x xs c k (x.id == c) (sound 0 x (omega arith)) (λ f. found xs c k (λ i y lt. sound (suc i) y (omega arith)) f) e

-- a channel of the driver is one that was found
in_table : (g : GptConfig) (k : Channel) (c : ℕ) → c < 8 → channel_of (table_of g) c ≡ Some k → channel_in g.channels c ≡ Some k
in_table g k = by_eight (λ c. channel_of (table_of g) c ≡ Some k → channel_in g.channels c ≡ Some k) (λ e. e) (λ e. e) (λ e. e) (λ e. e) (λ e. e) (λ e. e) (λ e. e) (λ e. e)

kept : (g : GptConfig) (c : ℕ) (k : Channel) → channel_of (table_of g) c ≡ Some k → channel_in g.channels c ≡ Some k
kept g c k e = in_table g k c (within (table_of g) c (ap (λ x. is_some x) e)) e

-- the driver of a configuration with sound channels
pub fits_of : (g : GptConfig) → All IsSound g.channels → FitsGpt (table_of g)
fits_of g sound = record {
  number = λ c k e. (found g.channels c k sound (kept g c k e)).number;
  prescaler = λ c k e. (found g.channels c k sound (kept g c k e)).prescaler;
  small = λ c k e. (found g.channels c k sound (kept g c k e)).small;
}
