-- The driver words of the module, and the bits of channels.
use Rattle.std.specs.Prelude.{ℕ, ◌+◌, ◌*◌, ◌/◌, ◌%◌, ◌^◌, ◌==◌, nat_lt, if◌then◌else◌}
use Rattle.mcal_base.specs.Bits.{bit_of}
use Rattle.gpt_driver.specs.declared.words.TheConstants.{TARGETS, SWITCHES}
use Rattle.module_machines.specs.declared.gpt.switches.Switches.{Switches}

-- the word of a channel's target
abbrev pub target_word : ℕ → ℕ
target_word c = TARGETS + c

-- the word of a channel's switches
abbrev pub switches_word : ℕ → ℕ
switches_word c = SWITCHES + c

-- the bit of a channel, in 32 bits
abbrev pub bit : ℕ → ℕ
bit c = if nat_lt c 32 then 2 ^ c else 0

-- the switches that stand in a word
abbrev pub switches_of : ℕ → Switches
switches_of w = record { notification = w % 2 == 1; wakeup = w / 2 % 2 == 1; woken = w / 4 % 2 == 1 }

-- the word of switches
abbrev pub word_of : Switches → ℕ
word_of s = bit_of s.notification + 2 * bit_of s.wakeup + 4 * bit_of s.woken
