-- Histories of the timer block, and what in them leaves a channel's counter and flag alone.
use Rattle.std.specs.Prelude.{◌≡◌, ℕ, ◌+◌, ◌<◌, Bool, true, false, ◌||◌, List, [], ◌∷◌, length}
use Rattle.mcal_base.specs.Bits.{has_bit}
use Rattle.mcal_base.specs.declared.register.Reg.{Reg}
use Rattle.mcal_base.specs.declared.register.Reg.TheVariants.{TimerGateSet, TimerGateClear, TimerFlags, TimerZero}
use Rattle.chip_blocks.specs.timers.Run.{Run, run_goes_on}
use Rattle.chip_blocks.specs.declared.timers.timer.Count.TheVariants.{Since}
use Rattle.chip_blocks.specs.timers.Timers.{Timers, timer_at, expired_between, after_read, after_write, ticked}

-- An access of the block, or the passing of so many ticks.
pub data Access : Type 0 where
  Reads : Reg → Access
  Writes : Reg → ℕ → Access
  Passes : ℕ → Access

abbrev pub after : Timers → Access → Timers
after b (Reads r) = after_read b r
after b (Writes r value) = after_write b r value
after b (Passes n) = ticked b n

-- the block after a history, the first access first
abbrev pub after_all : Timers → List Access → Timers
after_all b [] = b
after_all b (x ∷ xs) = after_all (after b x) xs

-- starts, stops and zeroes other channels only
abbrev pub LeavesCount : ℕ → Access → Type 0
LeavesCount c (Writes TimerGateSet bits) = has_bit bits c ≡ false
LeavesCount c (Writes TimerGateClear bits) = has_bit bits c ≡ false
LeavesCount c (Writes TimerZero bits) = has_bit bits c ≡ false
LeavesCount c _ = Unit {0}

-- and clears no flag of the channel
abbrev pub LeavesFlag : ℕ → Access → Type 0
LeavesFlag c (Writes TimerFlags bits) = has_bit bits c ≡ false
LeavesFlag c x = LeavesCount c x

-- clears no flag of the channel, whatever else it does
abbrev pub LeavesStanding : ℕ → Access → Type 0
LeavesStanding c (Writes TimerFlags bits) = has_bit bits c ≡ false
LeavesStanding c _ = Unit {0}

-- an expiry of the channel comes while time passes, by the counter that it then has
abbrev pub expires_by : ℕ → Timers → Access → Bool
expires_by c b (Passes n) = expired_between (timer_at b c).count b.time (b.time + n)
expires_by c b _ = false

-- an expiry of the channel comes in a history
abbrev pub expires_in : ℕ → Timers → List Access → Bool
expires_in c b [] = false
expires_in c b (x ∷ xs) = expires_by c b x || expires_in c (after b x) xs

-- the block has all its channels, and this is one of them
pub record HasChannel (b : Timers) (c : ℕ) : Type 0 where
  pub all : length b.timers ≡ 8
  pub within : c < 8

-- a write of these bits to T.GATESET starts the channel
pub record Starts (b : Timers) (c bits : ℕ) : Type 0 where
  pub there : HasChannel b c
  pub chosen : has_bit bits c ≡ true
  pub target : 0 < (timer_at b c).target
  pub prescaler : 0 < (timer_at b c).prescaler

-- the channel counts, by this start, target, prescaler and one-shot bit
pub record Counting (b : Timers) (c : ℕ) (r : Run) : Type 0 where
  pub there : HasChannel b c
  pub since : (timer_at b c).count ≡ Since r
  pub runs : run_goes_on r b.time ≡ true
