-- The timer block: what each access and the passing of time leave, and what each read gives.
use Rattle.std.specs.Prelude.{ℕ, ◌+◌, ◌/◌, ◌%◌, Bool, false, ◌||◌, ◌==◌, nat_lt, if◌then◌else◌, List, [], ◌∷◌, slice_index_or, slice_set}
use Rattle.mcal_base.specs.Bits.{has_bit, bits_of, at_bits}
use Rattle.mcal_base.specs.declared.register.Reg.{Reg}
use Rattle.mcal_base.specs.declared.register.Reg.TheVariants.{TimerTarget, TimerPrescaler, TimerOneShot, TimerGateSet, TimerGateClear, TimerRun, TimerFlags, TimerZero, TimerLow, TimerHigh}
use Rattle.chip_blocks.specs.timers.Run.{run_count, run_goes_on, run_expiries, restarted}
use Rattle.chip_blocks.specs.declared.timers.timer.Count.{Count}
use Rattle.chip_blocks.specs.declared.timers.timer.Count.TheVariants.{Still, Since}
use Rattle.chip_blocks.specs.declared.timers.timer.Timer.{Timer}
use Rattle.chip_blocks.specs.declared.timers.timer.Act.{Act}
use Rattle.chip_blocks.specs.declared.timers.timer.Act.TheVariants.{Start, Stop, Zero, Clear}

-- The channels by number, the peripheral time, the bits of T.ONESHOT and the latch of all channels.
pub record Timers : Type 0 where
  pub time : ℕ
  pub timers : List Timer
  pub one_shot : ℕ
  pub latch : ℕ

-- ---- one channel

-- a counter, as it stands at a time
abbrev pub count_at : Count → ℕ → ℕ
count_at (Still value) now = value
count_at (Since r) now = run_count r now

abbrev pub counts_on : Count → ℕ → Bool
counts_on (Still value) now = false
counts_on (Since r) now = run_goes_on r now

-- an expiry came after the first time, and not after the second
abbrev pub expired_between : Count → (after now : ℕ) → Bool
expired_between (Still value) after now = false
expired_between (Since r) after now = nat_lt (run_expiries r after) (run_expiries r now)

abbrev pub counter : Timer → ℕ → ℕ
counter t now = count_at t.count now

abbrev pub is_running : Timer → ℕ → Bool
is_running t now = counts_on t.count now

-- the expiry flag: that of earlier counting stands, or one came since the time that is watched
abbrev pub is_flagged : Timer → ℕ → Bool
is_flagged t now = t.kept || expired_between t.count t.watched now

-- as after a reset
abbrev pub idle : Timer
idle = record { target = 0; prescaler = 0; count = Still 0; kept = false; watched = 0 }

-- T.GATESET starts the counter from 0; it does nothing where a register that it needs is 0
abbrev pub gate_set : Bool → ℕ → Timer → Timer
gate_set one_shot now t =
    if t.target == 0 || t.prescaler == 0
    then t
    else record t { count = Since (record { start = now; target = t.target; prescaler = t.prescaler; one_shot = one_shot }); kept = is_flagged t now; watched = now }

-- T.GATECLR stops a running counter, which keeps its value
abbrev pub gate_clear : ℕ → Timer → Timer
gate_clear now t =
    if is_running t now then record t { count = Still (counter t now); kept = is_flagged t now } else t

abbrev pub zero_count : Count → ℕ → Count
zero_count (Still value) now = Still 0
zero_count (Since r) now = if run_goes_on r now then Since (restarted r now) else Still 0

-- T.ZERO makes the counter 0, from where a running one counts on
abbrev pub zeroed : ℕ → Timer → Timer
zeroed now t = record t { count = zero_count t.count now; kept = is_flagged t now; watched = now }

-- a one in T.FLAGS clears the flag
abbrev pub flag_clear : ℕ → Timer → Timer
flag_clear now t = record t { kept = false; watched = now }

-- ---- the block

-- as after a reset at that time
abbrev pub timers_fresh : ℕ → Timers
timers_fresh time = record { time = time; timers = idle ∷ idle ∷ idle ∷ idle ∷ idle ∷ idle ∷ idle ∷ idle ∷ []; one_shot = 0; latch = 0 }

-- a channel; one that isn't there is idle
abbrev pub timer_at : Timers → ℕ → Timer
timer_at b c = slice_index_or b.timers c idle

-- the block with this channel
abbrev pub with_timer : Timers → ℕ → Timer → Timers
with_timer b c t = record b { timers = slice_set b.timers c t }

-- what a one written to a channel's bit does to the channel
abbrev pub acting : Act → (one_shot : Bool) (now : ℕ) → Timer → Timer
acting Start one_shot now t = gate_set one_shot now t
acting Stop one_shot now t = gate_clear now t
acting Zero one_shot now t = zeroed now t
acting Clear one_shot now t = flag_clear now t

-- ones act, and zeros do nothing
abbrev pub acted : Act → Timers → ℕ → Timers
acted act b bits = record b { timers = at_bits (λ c. acting act (has_bit b.one_shot c) b.time) bits b.timers }

-- the running bits
abbrev pub running_of : Timers → ℕ
running_of b = bits_of (λ c. is_running (timer_at b c) b.time) 8

-- the expiry flags
abbrev pub flags_of : Timers → ℕ
flags_of b = bits_of (λ c. is_flagged (timer_at b c) b.time) 8

-- what a read gives; a register without a stated read gives 0
abbrev pub read_of : Timers → Reg → ℕ
read_of b TimerRun = running_of b
read_of b TimerFlags = flags_of b
read_of b (TimerLow c) = counter (timer_at b c) b.time % 65536
read_of b (TimerHigh c) = b.latch
read_of b _ = 0

-- what a read leaves: a read of the low half keeps the high half in the latch
abbrev pub after_read : Timers → Reg → Timers
after_read b (TimerLow c) = record b { latch = counter (timer_at b c) b.time / 65536 }
after_read b _ = b

-- what a write leaves; a register without a stated write ignores it
abbrev pub after_write : Timers → Reg → ℕ → Timers
after_write b (TimerTarget c) value = with_timer b c (record (timer_at b c) { target = value })
after_write b (TimerPrescaler c) value = with_timer b c (record (timer_at b c) { prescaler = value })
after_write b TimerOneShot value = record b { one_shot = value }
after_write b TimerGateSet value = acted Start b value
after_write b TimerGateClear value = acted Stop b value
after_write b TimerZero value = acted Zero b value
after_write b TimerFlags value = acted Clear b value
after_write b _ value = b

-- what the passing of time leaves: every counter and flag is known by the time alone
abbrev pub ticked : Timers → ℕ → Timers
ticked b n = record b { time = b.time + n }
