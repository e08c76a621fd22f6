-- What a timer has counted, by times: when it was started, with which target and prescaler.
use Rattle.std.specs.Prelude.{ℕ, ◌-◌, ◌*◌, ◌/◌, ◌%◌, min, Bool, true, nat_lt, if◌then◌else◌}

-- the counts since the start: one for each prescaler's worth of time
abbrev pub counts_since : (start prescaler now : ℕ) → ℕ
counts_since start prescaler now = (now - start) / prescaler

-- the counter: a one-shot one stays at its target, and a continuous one goes from there to 0
abbrev pub count_of : Bool → (start target prescaler now : ℕ) → ℕ
count_of one_shot start target prescaler now =
    if one_shot then min (counts_since start prescaler now) target else counts_since start prescaler now % target

-- the number of expiries that came not after a time: a one-shot timer expires once
abbrev pub expiries : Bool → (start target prescaler time : ℕ) → ℕ
expiries one_shot start target prescaler time =
    if one_shot
    then min ((time - start) / (target * prescaler)) 1
    else (time - start) / (target * prescaler)

-- the timer runs: a continuous one always, a one-shot one until its target
abbrev pub runs_on : Bool → (start target prescaler now : ℕ) → Bool
runs_on one_shot start target prescaler now =
    if one_shot then nat_lt (counts_since start prescaler now) target else true
