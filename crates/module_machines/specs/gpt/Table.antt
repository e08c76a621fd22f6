-- The configured channels.
use Rattle.std.specs.Prelude.{ℕ, ◌<◌, ◌^◌, ◌≡◌, Bool, true, false, ◌==◌, nat_lt, if◌then◌else◌, List, [], ◌∷◌, Option, Some, None, slice_index_or}
use Rattle.mcal_base.specs.declared.config.gpt.GptChannelMode.{GptChannelMode}
use Rattle.mcal_base.specs.declared.config.gpt.GptChannelMode.TheVariants.{Continuous, OneShot}
use Rattle.mcal_base.specs.declared.config.gpt.GptChannel.{GptChannel}
use Rattle.mcal_base.specs.declared.config.gpt.GptConfig.{GptConfig}
use Rattle.module_machines.specs.declared.gpt.table.Channel.{Channel}
use Rattle.module_machines.specs.declared.gpt.table.GptTable.{GptTable}

abbrev pub is_one_shot_mode : GptChannelMode → Bool
is_one_shot_mode Continuous = false
is_one_shot_mode OneShot = true

-- what the driver keeps of a configured channel
abbrev pub taken : GptChannel → ℕ → Channel
taken x c = record { number = c; one_shot = is_one_shot_mode x.mode; tick_value_max = x.tick_value_max; wakeup = x.enable_wakeup; notification = x.notification; prescaler = x.prescaler; level = x.level }

-- the first channel with this number
abbrev pub channel_in : List GptChannel → ℕ → Option Channel
channel_in [] c = None
channel_in (x ∷ xs) c = if x.id == c then Some (taken x c) else channel_in xs c

-- what is kept of a configuration
abbrev pub table_of : GptConfig → GptTable
table_of g = record {
  detect = g.dev_error_detect;
  classification = g.classification;
  channels = channel_in g.channels 0 ∷ channel_in g.channels 1 ∷ channel_in g.channels 2 ∷ channel_in g.channels 3 ∷ channel_in g.channels 4 ∷ channel_in g.channels 5 ∷ channel_in g.channels 6 ∷ channel_in g.channels 7 ∷ [];
}

-- the channel of a number, where it is configured
abbrev pub channel_of : GptTable → ℕ → Option Channel
channel_of d c = if nat_lt c 8 then slice_index_or d.channels c None else None

abbrev pub one_shot_of : Option Channel → Bool
one_shot_of None = false
one_shot_of (Some k) = k.one_shot

-- the channel is configured as one-shot
abbrev pub is_one_shot : GptTable → ℕ → Bool
is_one_shot d c = one_shot_of (channel_of d c)

-- what the configuration has to be: numbers stand at their places, prescalers aren't 0, and values fit a register
pub record FitsGpt (d : GptTable) : Type 0 where
  pub number : (c : ℕ) (k : Channel) → channel_of d c ≡ Some k → k.number ≡ c
  pub prescaler : (c : ℕ) (k : Channel) → channel_of d c ≡ Some k → 0 < k.prescaler
  pub small : (c : ℕ) (k : Channel) → channel_of d c ≡ Some k → k.tick_value_max < 2 ^ 32
