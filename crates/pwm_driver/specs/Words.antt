-- The driver words of the module, and the bits of channels.
use Rattle.std.specs.Prelude.{ℕ, ◌+◌, ◌^◌, Bool, ◌&&◌, ◌||◌, nat_lt, if◌then◌else◌, bit_or}
use Rattle.mcal_base.specs.Bits.{has_bit, bit_of, without}
use Rattle.module_machines.specs.declared.pwm.call.PwmEdge.{PwmEdge}
use Rattle.module_machines.specs.declared.pwm.call.PwmEdge.TheVariants.{Rising, Falling, Both}
use Rattle.pwm_driver.specs.declared.words.TheConstants.{PERIODS}

-- the word of a channel's period
abbrev pub period_word : ℕ → ℕ
period_word c = PERIODS + c

-- a bit of a register
abbrev pub bit : ℕ → ℕ
bit k = if nat_lt k 32 then 2 ^ k else 0

-- the bits of a channel: that of its changes to high, and that of its changes to low
abbrev pub both : ℕ → ℕ
both c = bit_or (bit c) (bit (c + 8))

-- those that are chosen
abbrev pub kinds : ℕ → PwmEdge → ℕ
kinds c Rising = bit c
kinds c Falling = bit (c + 8)
kinds c Both = both c

-- the chosen changes of all channels, with these of one
abbrev pub with_kinds : ℕ → ℕ → PwmEdge → ℕ
with_kinds word c edge = bit_or (without word (both c)) (kinds c edge)

-- a flag of a channel's chosen changes stands
abbrev pub stands : (kinds flags channel : ℕ) → Bool
stands k f c = (has_bit k c && has_bit f c) || (has_bit k (c + 8) && has_bit f (c + 8))

-- a level as a register takes it
abbrev pub level : Bool → ℕ
level high = bit_of high
