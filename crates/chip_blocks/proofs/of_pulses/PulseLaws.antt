-- What is known of the pulse block's channels, and their outputs over histories.
use Rattle.std.proofs.Common.{◌≡◌, ◌≢◌, ℕ, ◌+◌, ◌-◌, ◌*◌, ◌/◌, ◌<◌, ◌≤◌, Bool, true, false, ◌==◌, nat_lt, List, [], ◌∷◌, length, refl, sym, ◌∙◌, ap, arith, length-set, get_or-set_same, get_or-set_other, ◌⊎◌, inl, inr}
use Rattle.std.specs.Prelude.{if◌then◌else◌, Some, None}
use Rattle.std.specs.List.{AllByRecursion}
use Rattle.std.proofs.lemmas.Nat.{div-add-mod'}
use Rattle.mcal_base.specs.facts.Numbers.{isnt_zero, zero_from}
use Rattle.mcal_base.specs.Bits.{has_bit}
use Rattle.mcal_base.proofs.BitLaws.{length-at_bits, get_or-at_bits}
use Rattle.mcal_base.specs.declared.register.Reg.{Reg}
use Rattle.mcal_base.specs.declared.register.Reg.TheVariants.{PulsePeriod, PulseDuty, PulsePolarity, PulseCommit, PulseIdle, PulseEdges, PulseFlags}
use Rattle.chip_blocks.specs.timers.Accesses.{Access}
use Rattle.chip_blocks.specs.timers.Accesses as accesses
use Rattle.chip_blocks.specs.pulses.Regime.{regime_level, regime_at, period_begin}
use Rattle.chip_blocks.specs.pulses.Pulses.{Pulses, pulse_at, with_pulse, level_at, output_level, committed, commit_over, taken, put_out, flag_clear, cleared, silent, after_write}
use Rattle.chip_blocks.specs.pulses.Accesses.{after, after_all, HasChannel, LeavesOutput, standing, Running, period_end}
use Rattle.chip_blocks.specs.declared.pulses.regime.Wave.{Wave}
use Rattle.chip_blocks.specs.declared.pulses.regime.Regime.{Regime}
use Rattle.chip_blocks.specs.declared.pulses.pulse.Output.{Output}
use Rattle.chip_blocks.specs.declared.pulses.pulse.Output.TheVariants.{Idle, Runs, Turns}
use Rattle.chip_blocks.specs.declared.pulses.pulse.Pulse.{Pulse}

pub same_or_other : (c k : ℕ) → (c ≡ k) ⊎ (c ≢ k)
same_or_other c k = grind arith

-- ---- a channel after a change

pub pulse_at-same : (b : Pulses) (c : ℕ) (p : Pulse) → HasChannel b c → pulse_at (with_pulse b c p) c ≡ p
pulse_at-same b c p h = let within : c < length b.pulses = omega (arith, h.all, h.within) in get_or-set_same b.pulses c p silent within

pub pulse_at-other : (b : Pulses) (k c : ℕ) (p : Pulse) → c ≢ k → pulse_at (with_pulse b k p) c ≡ pulse_at b c
pulse_at-other b k c p ne = get_or-set_other b.pulses k c p silent ne

pub pulse_at-cleared : (to : Bool) (b : Pulses) (bits c : ℕ) → HasChannel b c
    → pulse_at (cleared to b bits) c ≡ (if has_bit bits c then flag_clear to b.time (pulse_at b c) else pulse_at b c)
pulse_at-cleared to b bits c h =
    let within : c < length b.pulses = omega (arith, h.all, h.within) in
    get_or-at_bits (λ _. flag_clear to b.time) bits b.pulses c silent within

-- seen through a function that the change leaves alone
pub with_seen : {A : Type 0} (see : Pulse → A) (b : Pulses) (k c : ℕ) (p : Pulse) → HasChannel b c → see p ≡ see (pulse_at b k)
    → (c ≡ k) ⊎ (c ≢ k) → see (pulse_at (with_pulse b k p) c) ≡ see (pulse_at b c)
with_seen see b k c p h e (inl at) = rw (← at) (ap see (pulse_at-same b c p h) ∙ rw (← at) at e)
with_seen see b k c p h e (inr ne) = ap see (pulse_at-other b k c p ne)

either_seen : {A : Type 0} (see : Pulse → A) (q : Bool) (x y : Pulse) → see x ≡ see y → see (if q then x else y) ≡ see y
either_seen see true x y e = e
either_seen see false x y e = refl

-- ---- the channels stay

length-cleared : (to : Bool) (b : Pulses) (bits : ℕ) → length (cleared to b bits).pulses ≡ length b.pulses
length-cleared to b bits = length-at_bits (λ _. flag_clear to b.time) bits b.pulses

pub has_channel-cleared : (to : Bool) (b : Pulses) (bits c : ℕ) → HasChannel b c → HasChannel (cleared to b bits) c
has_channel-cleared to b bits c h = record { all = length-cleared to b bits ∙ h.all; within = h.within }

either_length : (q : Bool) (x y : Pulses) (n : ℕ) → length x.pulses ≡ n → length y.pulses ≡ n → length (if q then x else y).pulses ≡ n
either_length true x y n hx hy = hx
either_length false x y n hx hy = hy

length-after_write : (b : Pulses) (r : Reg) (value : ℕ) → length (after_write b r value).pulses ≡ length b.pulses
length-after_write b (PulsePeriod c) value = length-set b.pulses c _
length-after_write b (PulseDuty c) value = length-set b.pulses c _
length-after_write b (PulsePolarity c) value = length-set b.pulses c _
length-after_write b (PulseCommit c) value = length-set b.pulses c _
length-after_write b (PulseIdle c) value = either_length (nat_lt 1 value) b _ (length b.pulses) refl (length-set b.pulses c _)
length-after_write b PulseEdges value = refl
length-after_write b PulseFlags value = length-cleared false (cleared true b value) (value / 256) ∙ length-cleared true b value
length-after_write b _ value = refl

pub has_channel-after : (b : Pulses) (c : ℕ) (x : Access) → HasChannel b c → HasChannel (after b x) c
has_channel-after b c (accesses.Reads r) h = h
has_channel-after b c (accesses.Writes r value) h = record { all = length-after_write b r value ∙ h.all; within = h.within }
has_channel-after b c (accesses.Passes n) h = record { all = h.all; within = h.within }

either_time : (q : Bool) (x y : Pulses) (n : ℕ) → x.time ≡ n → y.time ≡ n → (if q then x else y).time ≡ n
either_time true x y n hx hy = hx
either_time false x y n hx hy = hy

-- an access takes no time
pub time-after_write : (b : Pulses) (r : Reg) (value : ℕ) → (after_write b r value).time ≡ b.time
time-after_write b (PulsePeriod c) value = refl
time-after_write b (PulseDuty c) value = refl
time-after_write b (PulsePolarity c) value = refl
time-after_write b (PulseCommit c) value = refl
time-after_write b (PulseIdle c) value = either_time (nat_lt 1 value) b _ b.time refl refl
time-after_write b PulseEdges value = refl
time-after_write b PulseFlags value = refl
time-after_write b _ value = refl

pub time-after : (b : Pulses) (x : Access) → b.time ≤ (after b x).time
time-after b (accesses.Reads r) = omega arith
time-after b (accesses.Writes r value) = rw (time-after_write b r value) (omega arith)
time-after b (accesses.Passes n) = omega arith

pub time-after_all : (b : Pulses) (xs : List Access) → b.time ≤ (after_all b xs).time
time-after_all b [] = omega arith
time-after_all b (x ∷ xs) = omega (arith, time-after b x, time-after_all (after b x) xs)

-- ---- what leaves an output alone

output_of : Pulse → Output
output_of p = p.output

output-flag_clear : (to : Bool) (now : ℕ) (p : Pulse) → (flag_clear to now p).output ≡ p.output
output-flag_clear true now p = refl
output-flag_clear false now p = refl

pub output-cleared : (to : Bool) (b : Pulses) (bits c : ℕ) → HasChannel b c → (pulse_at (cleared to b bits) c).output ≡ (pulse_at b c).output
output-cleared to b bits c h =
    ap (λ (p : Pulse). p.output) (pulse_at-cleared to b bits c h)
    ∙ either_seen (λ p. p.output) (has_bit bits c) (flag_clear to b.time (pulse_at b c)) (pulse_at b c) (output-flag_clear to b.time (pulse_at b c))

either_at : (q : Bool) (x y : Pulses) (c : ℕ) (o : Output) → (pulse_at x c).output ≡ o → (pulse_at y c).output ≡ o → (pulse_at (if q then x else y) c).output ≡ o
either_at true x y c o hx hy = hx
either_at false x y c o hx hy = hy

pub output-left : (b : Pulses) (c : ℕ) (x : Access) → HasChannel b c → LeavesOutput c x → (pulse_at (after b x) c).output ≡ (pulse_at b c).output
output-left b c (accesses.Reads r) h left = refl
output-left b c (accesses.Passes n) h left = refl
output-left b c (accesses.Writes (PulsePeriod k) value) h left = with_seen (λ p. p.output) b k c _ h refl (same_or_other c k)
output-left b c (accesses.Writes (PulseDuty k) value) h left = with_seen (λ p. p.output) b k c _ h refl (same_or_other c k)
output-left b c (accesses.Writes (PulsePolarity k) value) h left = with_seen (λ p. p.output) b k c _ h refl (same_or_other c k)
output-left b c (accesses.Writes (PulseCommit k) value) h left =
    let ne : c ≢ k = λ e. left (sym e) in ap (λ (p : Pulse). p.output) (pulse_at-other b k c _ ne)
output-left b c (accesses.Writes (PulseIdle k) value) h left =
    let ne : c ≢ k = λ e. left (sym e) in
    either_at (nat_lt 1 value) b _ c (pulse_at b c).output refl (ap (λ (p : Pulse). p.output) (pulse_at-other b k c _ ne))
output-left b c (accesses.Writes PulseEdges value) h left = refl
output-left b c (accesses.Writes PulseFlags value) h left =
    output-cleared false (cleared true b value) (value / 256) c (has_channel-cleared true b value c h) ∙ output-cleared true b value c h
output-left b c (accesses.Writes _ value) h left = refl

pub output-left_all : (b : Pulses) (c : ℕ) (xs : List Access) → HasChannel b c → AllByRecursion (LeavesOutput c) xs
    → (pulse_at (after_all b xs) c).output ≡ (pulse_at b c).output
output-left_all b c [] h left = refl
output-left_all b c (x ∷ xs) h left = output-left_all (after b x) c xs (has_channel-after b c x h) left.1 ∙ output-left b c x h left.0

-- ---- commits

level_after : (b : Pulses) (c : ℕ) (xs : List Access) (o : Output) → HasChannel b c → AllByRecursion (LeavesOutput c) xs → (pulse_at b c).output ≡ o
    → level_at (after_all b xs) c ≡ output_level o (after_all b xs).time
level_after b c xs o h left is = ap (λ (k : Output). output_level k (after_all b xs).time) (output-left_all b c xs h left ∙ is)

committed_output : (b : Pulses) (c value : ℕ) → HasChannel b c → (pulse_at (after_write b (PulseCommit c) value) c).output ≡ committed (pulse_at b c).wave b.time (pulse_at b c).output
committed_output b c value h = ap (λ (p : Pulse). p.output) (pulse_at-same b c (taken b.time (pulse_at b c)) h)

committed-idle : (w : Wave) (now : ℕ) (o : Output) → standing o now ≡ None → committed w now o ≡ Runs (record { start = now; wave = w })
committed-idle w now (Idle level) e = refl
committed-idle w now (Runs r) e = absurd (cc e)
committed-idle w now (Turns r c) e = absurd (cc e)

committed-standing : (w : Wave) (now : ℕ) (o : Output) (r : Regime) → standing o now ≡ Some r → committed w now o ≡ commit_over r w now
committed-standing w now (Idle level) r e = absurd (cc e)
committed-standing w now (Runs r') r e = let is : r' ≡ r = cc in ap (λ k. commit_over k w now) is
committed-standing w now (Turns r' c) r e = let is : regime_at r' c now ≡ r = cc in ap (λ k. commit_over k w now) is

over-no_period : (r : Regime) (w : Wave) (now : ℕ) → r.wave.period ≡ 0 → commit_over r w now ≡ Runs (record { start = now; wave = w })
over-no_period r w now e = rw (zero_from r.wave.period e) refl

over-period : (r : Regime) (w : Wave) (now : ℕ) → 0 < r.wave.period → commit_over r w now ≡ Turns r (record { begun = period_begin r now; wave = w })
over-period r w now h = rw (isnt_zero r.wave.period h) refl

-- the end of the period, by where it began and by how many have ended
ends_at : (s n p q m : ℕ) → s ≤ n → q * p + m ≡ n - s → (n - m) + p ≡ s + (q + 1) * p
ends_at s n p q m le e = omega arith

turn_is : (r : Regime) (now : ℕ) → r.start ≤ now → period_begin r now + r.wave.period ≡ period_end r now
turn_is r now le = ends_at r.start now r.wave.period _ _ le (div-add-mod' (now - r.start) r.wave.period)

choice_level : (q : Bool) (r n : Regime) (t : ℕ) → regime_level (if q then r else n) t ≡ (if q then regime_level r t else regime_level n t)
choice_level true r n t = refl
choice_level false r n t = refl

turned_level : (r : Regime) (w : Wave) (now t : ℕ) → r.start ≤ now
    → output_level (Turns r (record { begun = period_begin r now; wave = w })) t
    ≡ (if nat_lt t (period_end r now) then regime_level r t else regime_level (record { start = period_end r now; wave = w }) t)
turned_level r w now t le =
    choice_level (nat_lt t (period_begin r now + r.wave.period)) r (record { start = period_begin r now + r.wave.period; wave = w }) t
    ∙ ap (λ e. if nat_lt t e then regime_level r t else regime_level (record { start = e; wave = w }) t) (turn_is r now le)

-- ---- the laws

after_commit : (b : Pulses) (c value : ℕ) → HasChannel b c → HasChannel (after_write b (PulseCommit c) value) c
after_commit b c value h = has_channel-after b c (accesses.Writes (PulseCommit c) value) h

pub level-idle : (b : Pulses) (c value : ℕ) (xs : List Access) → HasChannel b c → standing (pulse_at b c).output b.time ≡ None → AllByRecursion (LeavesOutput c) xs
    → level_at (after_all (after_write b (PulseCommit c) value) xs) c
    ≡ regime_level (record { start = b.time; wave = (pulse_at b c).wave }) (after_all (after_write b (PulseCommit c) value) xs).time
level-idle b c value xs h none left =
    level_after (after_write b (PulseCommit c) value) c xs (Runs (record { start = b.time; wave = (pulse_at b c).wave })) (after_commit b c value h) left
    (committed_output b c value h ∙ committed-idle (pulse_at b c).wave b.time (pulse_at b c).output none)

pub level-no_period : (b : Pulses) (c value : ℕ) (r : Regime) (xs : List Access) → HasChannel b c → standing (pulse_at b c).output b.time ≡ Some r → r.wave.period ≡ 0
    → AllByRecursion (LeavesOutput c) xs
    → level_at (after_all (after_write b (PulseCommit c) value) xs) c
    ≡ regime_level (record { start = b.time; wave = (pulse_at b c).wave }) (after_all (after_write b (PulseCommit c) value) xs).time
level-no_period b c value r xs h some none left =
    level_after (after_write b (PulseCommit c) value) c xs (Runs (record { start = b.time; wave = (pulse_at b c).wave })) (after_commit b c value h) left
    (committed_output b c value h ∙ committed-standing (pulse_at b c).wave b.time (pulse_at b c).output r some ∙ over-no_period r (pulse_at b c).wave b.time none)

pub level-running : (b : Pulses) (c value : ℕ) (r : Regime) (xs : List Access) → Running b c r → AllByRecursion (LeavesOutput c) xs
    → level_at (after_all (after_write b (PulseCommit c) value) xs) c
    ≡ (if nat_lt (after_all (after_write b (PulseCommit c) value) xs).time (period_end r b.time)
    then regime_level r (after_all (after_write b (PulseCommit c) value) xs).time
    else regime_level (record { start = period_end r b.time; wave = (pulse_at b c).wave }) (after_all (after_write b (PulseCommit c) value) xs).time)
level-running b c value r xs h left =
    level_after (after_write b (PulseCommit c) value) c xs (Turns r (record { begun = period_begin r b.time; wave = (pulse_at b c).wave })) (after_commit b c value h.there) left
    (committed_output b c value h.there ∙ committed-standing (pulse_at b c).wave b.time (pulse_at b c).output r h.stands ∙ over-period r (pulse_at b c).wave b.time h.period)
    ∙ turned_level r (pulse_at b c).wave b.time (after_all (after_write b (PulseCommit c) value) xs).time h.begun

pub level-high : (b : Pulses) (c : ℕ) (xs : List Access) → HasChannel b c → AllByRecursion (LeavesOutput c) xs → level_at (after_all (after_write b (PulseIdle c) 1) xs) c ≡ true
level-high b c xs h left =
    level_after (after_write b (PulseIdle c) 1) c xs (Idle true) (has_channel-after b c (accesses.Writes (PulseIdle c) 1) h) left
    (ap (λ (p : Pulse). p.output) (pulse_at-same b c (put_out (Idle true) b.time (pulse_at b c)) h))

pub level-low : (b : Pulses) (c : ℕ) (xs : List Access) → HasChannel b c → AllByRecursion (LeavesOutput c) xs → level_at (after_all (after_write b (PulseIdle c) 0) xs) c ≡ false
level-low b c xs h left =
    level_after (after_write b (PulseIdle c) 0) c xs (Idle false) (has_channel-after b c (accesses.Writes (PulseIdle c) 0) h) left
    (ap (λ (p : Pulse). p.output) (pulse_at-same b c (put_out (Idle false) b.time (pulse_at b c)) h))
