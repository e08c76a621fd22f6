-- What a pulse output does: it is idle, or runs by a regime, behind which another one may wait. Its level at each time, and where that changes.
use Rattle.std.specs.Prelude.{ℕ, zero, suc, ◌+◌, ◌-◌, ◌*◌, ◌/◌, ◌%◌, min, Bool, false, not, ◌&&◌, ◌||◌, ◌==◌, nat_lt, if◌then◌else◌}
use Rattle.module_machines.specs.declared.pwm.call.PwmEdge.{PwmEdge}
use Rattle.module_machines.specs.declared.pwm.call.PwmEdge.TheVariants.{Rising, Falling, Both}

-- a regime: its first period begins at a time, and each has a length and an absolute duty
pub record Regime : Type 0 where
  pub start : ℕ
  pub period : ℕ
  pub duty : ℕ

-- an output is idle at a level, runs by a regime, or runs by one up to the start of the next, which waits
pub data Output : Type 0 where
  Idle : (high : Bool) → Output
  Runs : Regime → Output
  GivesWay : (regime next : Regime) → Output

-- the absolute duty of a period: a duty of 0x8000 is the whole, and one above is taken as that
abbrev pub absolute : (period duty : ℕ) → ℕ
absolute period duty = period * min duty 0x8000 / 0x8000

-- ---- levels; the polarity is high or low

-- the duty of the running period isn't over; a period of 0 has none
abbrev pub is_on_duty : Regime → ℕ → Bool
is_on_duty r now = not (r.period == 0) && nat_lt ((now - r.start) % r.period) r.duty

-- the level by a regime: the polarity's while on duty, and then the opposite
abbrev pub regime_level : (polarity : Bool) → Regime → ℕ → Bool
regime_level polarity r now = if is_on_duty r now then polarity else not polarity

-- the regime that stands at a time: the next one from its start on
abbrev pub standing : (regime next : Regime) → ℕ → Regime
standing r n now = if nat_lt now n.start then r else n

-- the level of an output
abbrev pub level_of : (polarity : Bool) → Output → ℕ → Bool
level_of polarity (Idle high) now = high
level_of polarity (Runs r) now = regime_level polarity r now
level_of polarity (GivesWay r n) now = regime_level polarity (standing r n now) now

-- ---- a new period and duty

-- the end of the period that runs
abbrev pub period_end : Regime → ℕ → ℕ
period_end r now = now + (r.period - (now - r.start) % r.period)

-- a regime gives way to a new period and duty at the end of the period that runs, and at once where its period is 0
abbrev pub succeeded : Regime → ℕ → (period duty : ℕ) → Output
succeeded r now p a =
    if r.period == 0
    then Runs (record { start = now; period = p; duty = a })
    else GivesWay r (record { start = period_end r now; period = p; duty = a })

-- an output with a new period and absolute duty: at once where it is idle, and in place of what waited
abbrev pub with_new : ℕ → (period duty : ℕ) → Output → Output
with_new now p a (Idle high) = Runs (record { start = now; period = p; duty = a })
with_new now p a (Runs r) = succeeded r now p a
with_new now p a (GivesWay r n) = succeeded (standing r n now) now p a

-- ---- changes

-- the level rises, or falls, or one of both
abbrev pub turns : PwmEdge → (before after : Bool) → Bool
turns Rising before after = not before && after
turns Falling before after = before && not after
turns Both before after = (not before && after) || (before && not after)

-- it does so from one unit of time to the next, at one of so many units after a time
abbrev pub turns_within : PwmEdge → (level : ℕ → Bool) → (after units : ℕ) → Bool
turns_within edge level after zero = false
turns_within edge level after (suc n) = turns edge (level (after + n)) (level (after + suc n)) || turns_within edge level after n

-- it does so after the first time and not after the second
abbrev pub turns_between : PwmEdge → (level : ℕ → Bool) → (after now : ℕ) → Bool
turns_between edge level after now = turns_within edge level after (now - after)
