-- The flags of all channels: what a read gives, and what a write clears.
-- From Parts, module_machines: pwm.Channels, module_machines: pwm.Changes, service_outline: SweepWords, Units.
-- Used by Serve, Notify.
use Rattle.std.proofs.Common.{◌≡◌, ◌≢◌, ◌+◌, ◌*◌, ◌/◌, ◌%◌, ◌<◌, ◌≤◌, ◌^◌, ◌&&◌, ◌||◌, ◌==◌, ◌∙◌, if◌then◌else◌}
use Rattle.pwm_driver.specs.Terms
use Terms.{after_write, ap, arith, bits_of-lt, Bool, Both, both, both_falling, both_other, both_rising, by_eight}
use Terms.{channel_of, channel_other, channel_same, Chip, chip_after, chosen, cleared, each_but, Falling, false}
use Terms.{flags_of, flags_to, GivesWay, has_bit, has_bit-bits_of, has_channel-cleared, HasChannel, Idle, is_flagged}
use Terms.{is_marked_by, is_some, IsBegun, IsQuiet, KindAgrees, length, level_of, MarksAgree, None, not_it, not_low}
use Terms.{Option, Output, past_it, period_word, polarity_of, Pulse, pulse_at, pulse_at-cleared, PulseFlags, Pulses, PwmTable, PwmEdge, PwmRepresents, PwmState, refl, Reservations, Rising, Runs, settled, Some, stands, stands-move, subst, sym, true, turns_between, TurnsBetween, UnitAgrees, with_pulse, word_of, World, Write, ℕ}
use Rattle.module_machines.specs.pwm.laws.{Changes.{times_of, of_times}}
use Rattle.pwm_driver.specs.laws.{Units.{none_held}}
use Rattle.chip_blocks.specs.pulses.Pulses as pulses
use Rattle.chip_blocks.specs.declared.pulses.pulse.Pulse as unit

-- ---- bits

shifted : (v c : ℕ) → c < 8 → has_bit (v / 2 ^ 8) c ≡ has_bit v (c + 8)
shifted v c lt = by_eight (λ i. has_bit (v / 2 ^ 8) i ≡ has_bit v (i + 8)) (bit (v / 256 / 1) (v / 256) (omega arith)) (bit (v / 256 / 2) (v / 512) (omega arith)) (bit (v / 256 / 4) (v / 1024) (omega arith)) (bit (v / 256 / 8) (v / 2048) (omega arith)) (bit (v / 256 / 16) (v / 4096) (omega arith)) (bit (v / 256 / 32) (v / 8192) (omega arith)) (bit (v / 256 / 64) (v / 16384) (omega arith)) (bit (v / 256 / 128) (v / 32768) (omega arith)) c lt
  where
    bit : (n m : ℕ) → n ≡ m → (n % 2 == 1) ≡ (m % 2 == 1)
    bit n m e = ap (λ x. x % 2 == 1) e

low_bits : (hi lo c : ℕ) → c < 8 → has_bit (hi * 2 ^ 8 + lo) c ≡ has_bit lo c
low_bits hi lo c lt = by_eight (λ i. has_bit (hi * 2 ^ 8 + lo) i ≡ has_bit lo i) (bit _ _ (omega arith)) (bit _ _ (omega arith)) (bit _ _ (omega arith)) (bit _ _ (omega arith)) (bit _ _ (omega arith)) (bit _ _ (omega arith)) (bit _ _ (omega arith)) (bit _ _ (omega arith)) c lt
  where
    bit : (n m : ℕ) → n ≡ m → (n == 1) ≡ (m == 1)
    bit n m e = ap (λ x. x == 1) e

flag_rising : (b : Pulses) (c : ℕ) → c < 8 → has_bit (flags_of b) c ≡ is_flagged true (pulses.pulse_at b c) b.time
flag_rising b c lt = low_bits (flags_to false b) (flags_to true b) c lt ∙ has_bit-bits_of (λ k. is_flagged true (pulses.pulse_at b k) b.time) 8 c lt

flag_falling : (b : Pulses) (c : ℕ) → c < 8 → has_bit (flags_of b) (c + 8) ≡ is_flagged false (pulses.pulse_at b c) b.time
flag_falling b c lt =
    let few : flags_to true b < 2 ^ 8 = bits_of-lt (λ k. is_flagged true (pulses.pulse_at b k) b.time) 8 in
    let up : flags_of b / 2 ^ 8 ≡ flags_to false b = omega (arith, few) in
    sym (shifted (flags_of b) c lt) ∙ (ap (λ v. has_bit v c) up ∙ has_bit-bits_of (λ k. is_flagged false (pulses.pulse_at b k) b.time) 8 c lt)

-- the look of the handler shows whether the line is due
pub stands_due : (b : Pulses) (c : ℕ) → c < 8 → stands b.edges (flags_of b) c ≡ pulses.is_due b c
stands_due b c lt = ap (λ q. (has_bit b.edges c && q) || (has_bit b.edges (c + 8) && has_bit (flags_of b) (c + 8))) (flag_rising b c lt) ∙ ap (λ q. (has_bit b.edges c && is_flagged true (pulses.pulse_at b c) b.time) || (has_bit b.edges (c + 8) && q)) (flag_falling b c lt)

-- ---- both flags of a channel are cleared

-- the unit without flags from a time on
abbrev pub unflagged : ℕ → unit.Pulse → unit.Pulse
unflagged time p = record p { rising = record { kept = false; watched = time }; falling = record { kept = false; watched = time } }

cleared_at : (b : Pulses) (v k : ℕ) → HasChannel b k → (q r : Bool) → has_bit v k ≡ q → has_bit (v / 2 ^ 8) k ≡ r → pulses.pulse_at (after_write b PulseFlags v) k ≡ (if r then pulses.flag_clear false b.time (if q then pulses.flag_clear true b.time (pulses.pulse_at b k) else pulses.pulse_at b k) else (if q then pulses.flag_clear true b.time (pulses.pulse_at b k) else pulses.pulse_at b k))
cleared_at b v k there q r e f =
    pulse_at-cleared false (cleared true b v) (v / 2 ^ 8) k (has_channel-cleared true b v k there)
    ∙ (ap (λ z. if z then pulses.flag_clear false b.time (pulses.pulse_at (cleared true b v) k) else pulses.pulse_at (cleared true b v) k) f
    ∙ ap (λ p. if r then pulses.flag_clear false b.time p else p) (pulse_at-cleared true b v k there ∙ ap (λ z. if z then pulses.flag_clear true b.time (pulses.pulse_at b k) else pulses.pulse_at b k) e))

here_cleared : (b : Pulses) (c : ℕ) → HasChannel b c → pulses.pulse_at (after_write b PulseFlags (both c)) c ≡ unflagged b.time (pulses.pulse_at b c)
here_cleared b c there = cleared_at b (both c) c there true true (both_rising c there.within) (shifted (both c) c there.within ∙ both_falling c there.within)

other_cleared : (b : Pulses) (c k : ℕ) → c < 8 → k ≢ c → HasChannel b k → pulses.pulse_at (after_write b PulseFlags (both c)) k ≡ pulses.pulse_at b k
other_cleared b c k lt ne there = cleared_at b (both c) k there false false (both_other c k lt ne (past_it c k there.within)) (shifted (both c) k there.within ∙ both_other c (k + 8) lt (not_low c k lt) (not_it c k ne))

size_cleared : (b : Pulses) (c : ℕ) → length b.pulses ≡ 8 → length (after_write b PulseFlags (both c)).pulses ≡ 8
size_cleared b c size = (has_channel-cleared false (cleared true b (both c)) (both c / 2 ^ 8) 0 (has_channel-cleared true b (both c) 0 (record { all = size; within = omega arith }))).all

-- ---- in the agreement

pub begun_later : (o : Output) (since now : ℕ) → since ≤ now → IsBegun o since → IsBegun o now
begun_later (Idle high) since now le b = tt
begun_later (Runs r) since now le b = omega (arith, b, le)
begun_later (GivesWay r n) since now le b = let start = b.0 in (omega (arith, start, le), b.1, b.2)

-- neither a flag nor a mark from now on
pub unflagged_agrees : (high : Bool) (now time : ℕ) (p : unit.Pulse) (x : Pulse) (n : Option PwmEdge) → time ≡ now → UnitAgrees high now p x → UnitAgrees high now (unflagged time p) (record x { since = now; turned = false; notified = n })
unflagged_agrees high now time p x n at h = record { output = h.output; begun = begun_later x.output x.since now h.past h.begun; past = omega arith; marks = by n }
  where
    neither : (edge : PwmEdge) → chosen edge false false ≡ false
    neither Rising = refl
    neither Falling = refl
    neither Both = refl

    by : (n : Option PwmEdge) → MarksAgree n (unflagged time p) (record x { since = now; turned = false; notified = n })
    by None = tt
    by (Some edge) = record { rising = at; falling = at; kept = neither edge }

pub flags_cleared : (d : PwmTable) (below : Reservations) (chip : Chip) (w : World) (s : PwmState) (c : ℕ) (x : Pulse) (kinds words : ℕ → Bool) → c < 8 → s.initialised ≡ true → is_some (channel_of d c) ≡ true → x.period ≡ (pulse_at s c).period → ((k : ℕ) → k ≢ c → kinds k ≡ false) → KindAgrees chip.pulses.edges c x.notified → UnitAgrees (polarity_of (channel_of d c)) w.now (unflagged chip.pulses.time (pulses.pulse_at chip.pulses c)) x → PwmRepresents d below (record settled { kinds = kinds; words = words }) chip w s → PwmRepresents d below (record settled { words = words }) (chip_after chip (Write PulseFlags (both c)) 0) w (with_pulse s c x)
flags_cleared d below chip w s c x kinds words lt on there period rest kind new h = record {
  right = h.right;
  setup = none_held d below s.initialised (chip_after chip (Write PulseFlags (both c)) 0) on h.right;
  outside = stands-move chip w (Write PulseFlags (both c)) 0 h.outside;
  size = size_cleared chip.pulses c h.size;
  units = λ k l g. each_but (λ i. i < 8 → UnitAgrees (polarity_of (channel_of d i)) w.now (pulses.pulse_at (after_write chip.pulses PulseFlags (both c)) i) (pulse_at (with_pulse s c x) i)) c
      (λ i. subst (λ p. UnitAgrees (polarity_of (channel_of d c)) w.now p (pulse_at (with_pulse s c x) c)) (sym (here_cleared chip.pulses c (record { all = h.size; within = lt }))) (subst (λ y. UnitAgrees (polarity_of (channel_of d c)) w.now (unflagged chip.pulses.time (pulses.pulse_at chip.pulses c)) y) (sym (channel_same s c x lt)) new)) k
      (λ ne i. subst (λ p. UnitAgrees (polarity_of (channel_of d k)) w.now p (pulse_at (with_pulse s c x) k)) (sym (other_cleared chip.pulses c k lt ne (record { all = h.size; within = i }))) (subst (λ y. UnitAgrees (polarity_of (channel_of d k)) w.now (pulses.pulse_at chip.pulses k) y) (sym (channel_other s c k x i ne)) (h.units k i refl))) l;
  kinds = λ k l g. each_but (λ i. i < 8 → KindAgrees chip.pulses.edges i (pulse_at (with_pulse s c x) i).notified) c
      (λ i. subst (λ y. KindAgrees chip.pulses.edges c y.notified) (sym (channel_same s c x lt)) kind) k
      (λ ne i. subst (λ y. KindAgrees chip.pulses.edges k y.notified) (sym (channel_other s c k x i ne)) (h.kinds k i (rest k ne))) l;
  words = record {
    state = h.words.state;
    kinds = h.words.kinds;
    periods = λ e k l u g. each_but (λ i. i < 8 → is_some (channel_of d i) ≡ true → words (period_word i) ≡ false → word_of chip (period_word i) ≡ (pulse_at (with_pulse s c x) i).period) c
        (λ i v f. h.words.periods on c lt v f ∙ sym (ap (λ y. y.period) (channel_same s c x lt) ∙ period)) k
        (λ ne i v f. h.words.periods on k i v f ∙ sym (ap (λ y. y.period) (channel_other s c k x i ne))) l u g;
  };
  lines = h.lines;
  clean = λ off k l. absurd (let f = sym on ∙ off in cc);
  unused = λ k l. each_but (λ i. i < 8 → channel_of d i ≡ None → IsQuiet (pulse_at (with_pulse s c x) i)) c
      (λ i e. absurd (let f : is_some (channel_of d c) ≡ false = ap (λ o. is_some o) e in cc)) k
      (λ ne i e. subst IsQuiet (sym (channel_other s c k x i ne)) (h.unused k i e)) l;
}

-- ---- a mark stays while time goes on

or_more : (t q r : Bool) → (q ≡ true → r ≡ true) → (t || q) ≡ true → (t || r) ≡ true
or_more true q r f e = refl
or_more false q r f e = f e

between_later : (edge : PwmEdge) (level : ℕ → Bool) (after now later : ℕ) → now ≤ later → turns_between edge level after now ≡ true → turns_between edge level after later ≡ true
between_later edge level after now later le e =
    let t : TurnsBetween edge level after now = times_of edge level after now e in
    of_times edge level after later (record { time = t.time; later = t.later; within = omega (arith, t.within, le); turned = t.turned })

pub marked_later : (edge : Option PwmEdge) (high : Bool) (x : Pulse) (now later : ℕ) → now ≤ later → is_marked_by edge high now x ≡ true → is_marked_by edge high later x ≡ true
marked_later None high x now later le e = e
marked_later (Some edge) high x now later le e = or_more x.turned (turns_between edge (level_of high x.output) x.since now) (turns_between edge (level_of high x.output) x.since later) (between_later edge (level_of high x.output) x.since now later le) e
