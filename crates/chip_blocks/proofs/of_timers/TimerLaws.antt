-- What is known of the timer block's channels.
use Rattle.std.proofs.Common.{◌≡◌, ℕ, ◌^◌, ◌<◌, ◌≢◌, true, false, length, refl, ◌∙◌, ap, arith, length-set, get_or-set_same, get_or-set_other}
use Rattle.std.specs.Prelude.{if◌then◌else◌}
use Rattle.mcal_base.specs.Bits.{has_bit}
use Rattle.mcal_base.proofs.BitLaws.{length-at_bits, get_or-at_bits, has_bit-bits_of, has_bit-pow_same, has_bit-pow_other}
use Rattle.mcal_base.specs.declared.register.Reg.{Reg}
use Rattle.mcal_base.specs.declared.register.Reg.TheVariants.{TimerTarget, TimerPrescaler, TimerOneShot, TimerGateSet, TimerGateClear, TimerFlags, TimerZero, TimerLow}
use Rattle.chip_blocks.specs.timers.Timers.{Timers, is_running, is_flagged, idle, timer_at, with_timer, acting, acted, running_of, flags_of, after_read, after_write}
use Rattle.chip_blocks.specs.timers.Accesses.{HasChannel}
use Rattle.chip_blocks.specs.declared.timers.timer.Act.{Act}
use Rattle.chip_blocks.specs.declared.timers.timer.Act.TheVariants.{Start, Stop, Zero, Clear}
use Rattle.chip_blocks.specs.declared.timers.timer.Timer.{Timer}

-- ---- a channel after a change

pub timer_at-with_timer_same : (b : Timers) (c : ℕ) (t : Timer) → HasChannel b c → timer_at (with_timer b c t) c ≡ t
timer_at-with_timer_same b c t h = let within : c < length b.timers = omega (arith, h.all, h.within) in get_or-set_same b.timers c t idle within

pub timer_at-with_timer_other : (b : Timers) (k c : ℕ) (t : Timer) → c ≢ k → timer_at (with_timer b k t) c ≡ timer_at b c
timer_at-with_timer_other b k c t ne = get_or-set_other b.timers k c t idle ne

pub timer_at-acted : (act : Act) (b : Timers) (bits c : ℕ) → HasChannel b c
    → timer_at (acted act b bits) c ≡ (if has_bit bits c then acting act (has_bit b.one_shot c) b.time (timer_at b c) else timer_at b c)
timer_at-acted act b bits c h =
    let within : c < length b.timers = omega (arith, h.all, h.within) in
    get_or-at_bits (λ k. acting act (has_bit b.one_shot k) b.time) bits b.timers c idle within

pub timer_at-acted_on : (act : Act) (b : Timers) (bits c : ℕ) → HasChannel b c → has_bit bits c ≡ true
    → timer_at (acted act b bits) c ≡ acting act (has_bit b.one_shot c) b.time (timer_at b c)
timer_at-acted_on act b bits c h on = timer_at-acted act b bits c h ∙ ap (λ q. if q then acting act (has_bit b.one_shot c) b.time (timer_at b c) else timer_at b c) on

pub timer_at-acted_off : (act : Act) (b : Timers) (bits c : ℕ) → HasChannel b c → has_bit bits c ≡ false → timer_at (acted act b bits) c ≡ timer_at b c
timer_at-acted_off act b bits c h off = timer_at-acted act b bits c h ∙ ap (λ q. if q then acting act (has_bit b.one_shot c) b.time (timer_at b c) else timer_at b c) off

-- one channel's bit
pub timer_at-acted_same : (act : Act) (b : Timers) (c : ℕ) → HasChannel b c → timer_at (acted act b (2 ^ c)) c ≡ acting act (has_bit b.one_shot c) b.time (timer_at b c)
timer_at-acted_same act b c h = timer_at-acted_on act b (2 ^ c) c h (has_bit-pow_same c)

pub timer_at-acted_other : (act : Act) (b : Timers) (c k : ℕ) → HasChannel b k → k ≢ c → timer_at (acted act b (2 ^ c)) k ≡ timer_at b k
timer_at-acted_other act b c k h ne = timer_at-acted_off act b (2 ^ c) k h (has_bit-pow_other c k ne)

-- ---- the channels stay

pub length-acted : (act : Act) (b : Timers) (bits : ℕ) → length (acted act b bits).timers ≡ length b.timers
length-acted act b bits = length-at_bits (λ k. acting act (has_bit b.one_shot k) b.time) bits b.timers

pub length-after_read : (b : Timers) (r : Reg) → length (after_read b r).timers ≡ length b.timers
length-after_read b (TimerLow c) = refl
length-after_read b _ = refl

pub length-after_write : (b : Timers) (r : Reg) (value : ℕ) → length (after_write b r value).timers ≡ length b.timers
length-after_write b (TimerTarget c) value = length-set b.timers c _
length-after_write b (TimerPrescaler c) value = length-set b.timers c _
length-after_write b TimerOneShot value = refl
length-after_write b TimerGateSet value = length-acted Start b value
length-after_write b TimerGateClear value = length-acted Stop b value
length-after_write b TimerZero value = length-acted Zero b value
length-after_write b TimerFlags value = length-acted Clear b value
length-after_write b _ value = refl

-- an access takes no time
pub time-after_read : (b : Timers) (r : Reg) → (after_read b r).time ≡ b.time
time-after_read b (TimerLow c) = refl
time-after_read b _ = refl

pub time-after_write : (b : Timers) (r : Reg) (value : ℕ) → (after_write b r value).time ≡ b.time
time-after_write b (TimerTarget c) value = refl
time-after_write b (TimerPrescaler c) value = refl
time-after_write b TimerOneShot value = refl
time-after_write b TimerGateSet value = refl
time-after_write b TimerGateClear value = refl
time-after_write b TimerZero value = refl
time-after_write b TimerFlags value = refl
time-after_write b _ value = refl

-- a read changes no channel
pub timer_at-after_read : (b : Timers) (r : Reg) (c : ℕ) → timer_at (after_read b r) c ≡ timer_at b c
timer_at-after_read b (TimerLow k) c = refl
timer_at-after_read b _ c = refl

-- ---- the bits that are read

pub has_bit-running_of : (b : Timers) (c : ℕ) → c < 8 → has_bit (running_of b) c ≡ is_running (timer_at b c) b.time
has_bit-running_of b c lt = has_bit-bits_of (λ k. is_running (timer_at b k) b.time) 8 c lt

pub has_bit-flags_of : (b : Timers) (c : ℕ) → c < 8 → has_bit (flags_of b) c ≡ is_flagged (timer_at b c) b.time
has_bit-flags_of b c lt = has_bit-bits_of (λ k. is_flagged (timer_at b k) b.time) 8 c lt
