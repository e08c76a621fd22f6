-- What a pulse output does by a regime: a period, a duty and a polarity from a time on.
use Rattle.std.specs.Prelude.{ℕ, ◌+◌, ◌-◌, ◌/◌, ◌%◌, max, Bool, true, false, not, ◌&&◌, ◌||◌, ◌==◌, nat_lt, if◌then◌else◌}
use Rattle.chip_blocks.specs.declared.pulses.regime.Wave.{Wave}
use Rattle.chip_blocks.specs.declared.pulses.regime.Regime.{Regime}
use Rattle.chip_blocks.specs.declared.pulses.regime.Commit.{Commit}

-- for how long the running period has run
abbrev pub phase_at : Regime → ℕ → ℕ
phase_at r now = (now - r.start) % r.wave.period

-- the level: the polarity's for the duty of each period, then the opposite; the opposite always where there is no period
abbrev pub regime_level : Regime → ℕ → Bool
regime_level r now =
    if r.wave.period == 0
    then not r.wave.high
    else if nat_lt (phase_at r now) r.wave.duty then r.wave.high else not r.wave.high

-- when the period began that runs
abbrev pub period_begin : Regime → ℕ → ℕ
period_begin r now = now - phase_at r now

-- ---- changes

-- a change from one level to another is one to this level
abbrev pub turns_to : Bool → (before after : Bool) → Bool
turns_to true before after = not before && after
turns_to false before after = before && not after

-- the level changes at all
abbrev pub alternates : Wave → Bool
alternates w = nat_lt 0 w.duty && nat_lt w.duty w.period

-- the periods that ended not after a time
abbrev pub periods_by : Regime → ℕ → ℕ
periods_by r time = (time - r.start) / r.wave.period

-- the duties that ended not after a time: one for each of these periods, and that of the running one where it is over
abbrev pub duties_by : Regime → ℕ → ℕ
duties_by r time = periods_by r time + (if nat_lt (phase_at r time) r.wave.duty then 0 else 1)

-- the changes to a level that came not after a time: to the polarity where a period ends, to the opposite where a duty ends
abbrev pub changes_by : Bool → Regime → ℕ → ℕ
changes_by true r time = if r.wave.high then periods_by r time else duties_by r time
changes_by false r time = if r.wave.high then duties_by r time else periods_by r time

-- one came after the first time, and not after the second
abbrev pub regime_changed : Bool → Regime → (after now : ℕ) → Bool
regime_changed to r after now = alternates r.wave && nat_lt (changes_by to r after) (changes_by to r now)

-- ---- from one regime to another

-- when a commit takes effect: at the end of the period that ran
abbrev pub turn_of : Regime → Commit → ℕ
turn_of r c = c.begun + r.wave.period

-- the regime from there on
abbrev pub next_of : Regime → Commit → Regime
next_of r c = record { start = turn_of r c; wave = c.wave }

-- the one that stands at a time
abbrev pub regime_at : Regime → Commit → ℕ → Regime
regime_at r c now = if nat_lt now (turn_of r c) then r else next_of r c

-- a change to a level came after the first time, and not after the second: before the turn, at it, or after it
abbrev pub changed_by_turn : Bool → Regime → Commit → (after now : ℕ) → Bool
changed_by_turn to r c after now =
    if nat_lt now (turn_of r c)
    then regime_changed to r after now
    else (regime_changed to r after (turn_of r c - 1)
    || ((nat_lt after (turn_of r c) && turns_to to (regime_level r (turn_of r c - 1)) (regime_level (next_of r c) (turn_of r c)))
    || regime_changed to (next_of r c) (max after (turn_of r c)) now))
