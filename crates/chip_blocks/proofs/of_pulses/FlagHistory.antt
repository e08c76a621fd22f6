-- A flag over histories: it stands exactly where a change of its kind came since it was cleared.
use Rattle.std.proofs.Common.{◌≡◌, ◌≢◌, ℕ, zero, suc, ◌+◌, ◌*◌, ◌/◌, ◌%◌, ◌^◌, ◌<◌, ◌≤◌, Bool, true, false, not, ◌||◌, ◌==◌, nat_lt, List, [], ◌∷◌, refl, sym, ◌∙◌, ap, arith, ◌⊎◌, inl, inr}
use Rattle.std.specs.Prelude.{if◌then◌else◌, ◌↔◌}
use Rattle.std.specs.List.{AllByRecursion}
use Rattle.std.proofs.lemmas.Nat.{pow-add}
use Rattle.std.proofs.Math.Nat.{div-div-eq-div-mul}
use Rattle.std.proofs.lemmas.Bool.{or_left, or_right}
use Rattle.mcal_base.specs.facts.Numbers.{lt_isnt, positive}
use Rattle.mcal_base.specs.Bits.{has_bit}
use Rattle.mcal_base.specs.declared.register.Reg.{Reg}
use Rattle.mcal_base.specs.declared.register.Reg.TheVariants.{PulsePeriod, PulseDuty, PulsePolarity, PulseCommit, PulseIdle, PulseEdges, PulseFlags}
use Rattle.chip_blocks.specs.timers.Accesses.{Access}
use Rattle.chip_blocks.specs.timers.Accesses as accesses
use Rattle.chip_blocks.specs.pulses.Regime.{regime_at, next_of, turn_of, turns_to, period_begin}
use Rattle.chip_blocks.specs.pulses.Pulses.{Pulses, pulses_fresh, pulse_at, with_pulse, level_at, level_of, output_level, changed_between, committed, is_flagged, mark_of, marked, put_out, flag_clear, cleared, silent, after_write}
use Rattle.chip_blocks.specs.pulses.Accesses.{after, after_all, HasChannel, place_of, LeavesStanding, ChangesBetween, ChangesBy, ChangesIn}
use Rattle.chip_blocks.proofs.of_pulses.PulseLaws.{same_or_other, pulse_at-same, pulse_at-other, pulse_at-cleared, with_seen, output-cleared, has_channel-after, has_channel-cleared, time-after_write}
use Rattle.chip_blocks.proofs.of_pulses.ChangeLaws.{never_turns}
use Rattle.chip_blocks.proofs.of_pulses.FlagLaws.{Begun, either_true, output-changes, changes-output}
use Rattle.chip_blocks.specs.declared.pulses.regime.Wave.{Wave}
use Rattle.chip_blocks.specs.declared.pulses.regime.Regime.{Regime}
use Rattle.chip_blocks.specs.declared.pulses.regime.Commit.{Commit}
use Rattle.chip_blocks.specs.declared.pulses.pulse.Output.{Output}
use Rattle.chip_blocks.specs.declared.pulses.pulse.Output.TheVariants.{Idle, Runs, Turns}
use Rattle.chip_blocks.specs.declared.pulses.pulse.Mark.{Mark}
use Rattle.chip_blocks.specs.declared.pulses.pulse.Pulse.{Pulse}

-- ---- what a flag depends on

abbrev seen : Bool → Pulse → Output × Mark
seen to p = (p.output, mark_of to p)

abbrev flag_in : Bool → Output × Mark → ℕ → Bool
flag_in to s now = s.1.kept || changed_between to s.0 s.1.watched now

-- the time that is watched has come, and what the output follows began before it
record Sound (s : Output × Mark) (now : ℕ) : Type 0 where
  watched : s.1.watched ≤ now
  begun : Begun s.0 s.1.watched

begun-later : (o : Output) (n m : ℕ) → Begun o n → n ≤ m → Begun o m
begun-later (Idle level) n m h le = tt
begun-later (Runs r) n m h le = omega (arith, h, le)
begun-later (Turns r c) n m h le = (omega (arith, h.0, le), h.1)

-- ---- what a commit leaves began

over_begun : (q : Bool) (r : Regime) (w : Wave) (now : ℕ) → r.start ≤ now → (r.wave.period == 0) ≡ q
    → Begun (if q then Runs (record { start = now; wave = w }) else Turns r (record { begun = period_begin r now; wave = w })) now
over_begun true r w now le e = omega arith
over_begun false r w now le e = (le, positive r.wave.period e)

at_begun : (q : Bool) (r : Regime) (c : Commit) (now : ℕ) → r.start ≤ now → nat_lt now (turn_of r c) ≡ q → (if q then r else next_of r c).start ≤ now
at_begun true r c now le e = le
at_begun false r c now le e = lt_isnt now (turn_of r c) e

committed-begun : (w : Wave) (now : ℕ) (o : Output) → Begun o now → Begun (committed w now o) now
committed-begun w now (Idle level) h = omega arith
committed-begun w now (Runs r) h = over_begun (r.wave.period == 0) r w now h refl
committed-begun w now (Turns r c) h =
    over_begun ((regime_at r c now).wave.period == 0) (regime_at r c now) w now (at_begun (nat_lt now (turn_of r c)) r c now h.0 refl) refl

-- ---- one write

-- the write gave the output of the channel something else to do
record Puts (b : Pulses) (c : ℕ) (p : Pulse) : Type 0 where
  out : Output
  begun : Begun out b.time
  is : p ≡ put_out out b.time (pulse_at b c)

seen_wave : (to : Bool) (p : Pulse) (w : Wave) → seen to (record p { wave = w }) ≡ seen to p
seen_wave true p w = refl
seen_wave false p w = refl

put_case : (to : Bool) (b : Pulses) (k c : ℕ) (f : Pulse → Output) → HasChannel b c → Begun (f (pulse_at b c)) b.time → (c ≡ k) ⊎ (c ≢ k)
    → (seen to (pulse_at (with_pulse b k (put_out (f (pulse_at b k)) b.time (pulse_at b k))) c) ≡ seen to (pulse_at b c))
    ⊎ Puts b c (pulse_at (with_pulse b k (put_out (f (pulse_at b k)) b.time (pulse_at b k))) c)
put_case to b k c f h begun (inl at) = inr (record {
  out = f (pulse_at b c);
  begun = begun;
  is =
      ap (λ n. pulse_at (with_pulse b n (put_out (f (pulse_at b n)) b.time (pulse_at b n))) c) (sym at)
      ∙ pulse_at-same b c (put_out (f (pulse_at b c)) b.time (pulse_at b c)) h;
})
put_case to b k c f h begun (inr ne) = inl (ap (seen to) (pulse_at-other b k c _ ne))

idle_case : (q : Bool) (to : Bool) (b : Pulses) (k c : ℕ) (level : Bool) → HasChannel b c
    → (seen to (pulse_at (if q then b else with_pulse b k (put_out (Idle level) b.time (pulse_at b k))) c) ≡ seen to (pulse_at b c))
    ⊎ Puts b c (pulse_at (if q then b else with_pulse b k (put_out (Idle level) b.time (pulse_at b k))) c)
idle_case true to b k c level h = inl refl
idle_case false to b k c level h = put_case to b k c (λ _. Idle level) h tt (same_or_other c k)

-- bit c of the upper flags
upper_bit : (value c : ℕ) → has_bit (value / 256) c ≡ has_bit value (c + 8)
upper_bit value c =
    let powers : 256 * 2 ^ c ≡ 2 ^ (c + 8) = omega (arith, pow-add 2 c 8) in
    ap (λ n. n % 2 == 1) (div-div-eq-div-mul value 256 (2 ^ c) ∙ ap (λ n. value / n) powers)

either_seen : (to q : Bool) (x y : Pulse) → seen to x ≡ seen to y → seen to (if q then x else y) ≡ seen to y
either_seen to true x y e = e
either_seen to false x y e = refl

clear_other : (to : Bool) (now : ℕ) (p : Pulse) → seen to (flag_clear (not to) now p) ≡ seen to p
clear_other true now p = refl
clear_other false now p = refl

cleared_other : (to : Bool) (b : Pulses) (bits c : ℕ) → HasChannel b c → seen to (pulse_at (cleared (not to) b bits) c) ≡ seen to (pulse_at b c)
cleared_other to b bits c h =
    ap (seen to) (pulse_at-cleared (not to) b bits c h) ∙ either_seen to (has_bit bits c) (flag_clear (not to) b.time (pulse_at b c)) (pulse_at b c) (clear_other to b.time (pulse_at b c))

cleared_off : (to : Bool) (b : Pulses) (bits c : ℕ) → HasChannel b c → has_bit bits c ≡ false → pulse_at (cleared to b bits) c ≡ pulse_at b c
cleared_off to b bits c h off = pulse_at-cleared to b bits c h ∙ ap (λ q. if q then flag_clear to b.time (pulse_at b c) else pulse_at b c) off

cleared_on : (to : Bool) (b : Pulses) (bits c : ℕ) → HasChannel b c → has_bit bits c ≡ true → pulse_at (cleared to b bits) c ≡ flag_clear to b.time (pulse_at b c)
cleared_on to b bits c h on = pulse_at-cleared to b bits c h ∙ ap (λ q. if q then flag_clear to b.time (pulse_at b c) else pulse_at b c) on

flags_left : (to : Bool) (b : Pulses) (c value : ℕ) → HasChannel b c → has_bit value (place_of to c) ≡ false → seen to (pulse_at (after_write b PulseFlags value) c) ≡ seen to (pulse_at b c)
flags_left true b c value h off =
    cleared_other true (cleared true b value) (value / 256) c (has_channel-cleared true b value c h) ∙ ap (seen true) (cleared_off true b value c h off)
flags_left false b c value h off =
    ap (seen false) (cleared_off false (cleared true b value) (value / 256) c (has_channel-cleared true b value c h) (upper_bit value c ∙ off)) ∙ cleared_other false b value c h

case_of : (to : Bool) (b : Pulses) (c : ℕ) (r : Reg) (value : ℕ) → HasChannel b c → Begun (pulse_at b c).output b.time → LeavesStanding to c (accesses.Writes r value)
    → (seen to (pulse_at (after_write b r value) c) ≡ seen to (pulse_at b c)) ⊎ Puts b c (pulse_at (after_write b r value) c)
case_of to b c (PulsePeriod k) value h begun left = inl (with_seen (seen to) b k c _ h (seen_wave to (pulse_at b k) _) (same_or_other c k))
case_of to b c (PulseDuty k) value h begun left = inl (with_seen (seen to) b k c _ h (seen_wave to (pulse_at b k) _) (same_or_other c k))
case_of to b c (PulsePolarity k) value h begun left = inl (with_seen (seen to) b k c _ h (seen_wave to (pulse_at b k) _) (same_or_other c k))
case_of to b c (PulseCommit k) value h begun left =
    put_case to b k c (λ p. committed p.wave b.time p.output) h (committed-begun (pulse_at b c).wave b.time (pulse_at b c).output begun) (same_or_other c k)
case_of to b c (PulseIdle k) value h begun left = idle_case (nat_lt 1 value) to b k c (value == 1) h
case_of to b c PulseEdges value h begun left = inl refl
case_of to b c PulseFlags value h begun left = inl (flags_left to b c value h left)
case_of to b c _ value h begun left = inl refl

-- ---- one access

-- a flag stands afterwards exactly where it stood or a change came
record Steps (old new : Bool) (Change : Type 0) : Type 0 where
  forth : new ≡ true → (old ≡ true) ⊎ Change
  stays : old ≡ true → new ≡ true
  set : Change → new ≡ true

up_to : (t n : ℕ) → (t ≤ n) ⊎ (n < t)
up_to t n = grind arith

passing : (to : Bool) (s : Output × Mark) (now n : ℕ) → Sound s now → Steps (flag_in to s now) (flag_in to s (now + n)) (ChangesBetween to s.0 now (now + n))
passing to s now n h = record {
  forth = λ e. elim (either_true s.1.kept (changed_between to s.0 s.1.watched (now + n)) e) [
    | inl kept ↦ inl (or_left s.1.kept (changed_between to s.0 s.1.watched now) kept)
    | inr came ↦
        let t = output-changes to s.0 s.1.watched (now + n) h.begun came in
        elim (up_to t.time now) [
          | inl before ↦
              inl (or_right s.1.kept (changed_between to s.0 s.1.watched now)
              (changes-output to s.0 s.1.watched now h.begun (record { time = t.time; after = t.after; within = before; turns = t.turns })))
          | inr later ↦ inr (record { time = t.time; after = later; within = t.within; turns = t.turns })
        ]
  ];
  stays = λ e. elim (either_true s.1.kept (changed_between to s.0 s.1.watched now) e) [
    | inl kept ↦ or_left s.1.kept (changed_between to s.0 s.1.watched (now + n)) kept
    | inr came ↦
        let t = output-changes to s.0 s.1.watched now h.begun came in
        or_right s.1.kept (changed_between to s.0 s.1.watched (now + n))
        (changes-output to s.0 s.1.watched (now + n) h.begun (record { time = t.time; after = t.after; within = omega (arith, t.within); turns = t.turns }))
  ];
  set = λ t. or_right s.1.kept (changed_between to s.0 s.1.watched (now + n))
      (changes-output to s.0 s.1.watched (now + n) h.begun (record { time = t.time; after = omega (arith, h.watched, t.after); within = t.within; turns = t.turns }));
}

-- a write that leaves what the flag depends on
leaving : (to : Bool) (s s' : Output × Mark) (now : ℕ) → s' ≡ s → Steps (flag_in to s now) (flag_in to s' now) (turns_to to (output_level s.0 now) (output_level s'.0 now) ≡ true)
leaving to s s' now e = record {
  forth = λ f. inl (ap (λ x. flag_in to x now) (sym e) ∙ f);
  stays = λ f. ap (λ x. flag_in to x now) e ∙ f;
  set = λ t. absurd (never_turns to (output_level s.0 now) (ap (λ (x : Output × Mark). turns_to to (output_level s.0 now) (output_level x.0 now)) (sym e) ∙ t));
}

seen_put : (to : Bool) (o : Output) (now : ℕ) (p : Pulse) → seen to (put_out o now p) ≡ (o, marked to o now p)
seen_put true o now p = refl
seen_put false o now p = refl

not_now : (to : Bool) (o : Output) (now : ℕ) → Begun o now → changed_between to o now now ≡ true → ⊥
not_now to o now begun e = let t = output-changes to o now now begun e in absurd (omega (arith, t.after, t.within))

-- a write that gives the output something else to do
putting : (to : Bool) (o : Output) (now : ℕ) (p : Pulse) → Begun o now
    → Steps (is_flagged to p now) (flag_in to (o, marked to o now p) now) (turns_to to (level_of p now) (output_level o now) ≡ true)
putting to o now p begun =
    let kept = is_flagged to p now || turns_to to (level_of p now) (output_level o now) in
    record {
      forth = λ e. elim (either_true kept (changed_between to o now now) e) [
        | inl k ↦ either_true (is_flagged to p now) (turns_to to (level_of p now) (output_level o now)) k
        | inr came ↦ absurd (not_now to o now begun came)
      ];
      stays = λ e. or_left kept (changed_between to o now now) (or_left (is_flagged to p now) (turns_to to (level_of p now) (output_level o now)) e);
      set = λ t. or_left kept (changed_between to o now now) (or_right (is_flagged to p now) (turns_to to (level_of p now) (output_level o now)) t);
    }

put_steps : (to : Bool) (s' : Output × Mark) (o : Output) (now : ℕ) (p : Pulse) → s' ≡ (o, marked to o now p) → Begun o now
    → Steps (is_flagged to p now) (flag_in to s' now) (turns_to to (level_of p now) (output_level s'.0 now) ≡ true)
put_steps to s' o now p is begun = rw is (putting to o now p begun)

-- what is known after an access
record After (to : Bool) (b : Pulses) (c : ℕ) (x : Access) : Type 0 where
  steps : Steps (is_flagged to (pulse_at b c) b.time) (is_flagged to (pulse_at (after b x) c) (after b x).time) (ChangesBy to c b x)
  sound : Sound (seen to (pulse_at (after b x) c)) (after b x).time

written : (to : Bool) (b b' : Pulses) (c : ℕ) → b'.time ≡ b.time → Sound (seen to (pulse_at b c)) b.time
    → (seen to (pulse_at b' c) ≡ seen to (pulse_at b c)) ⊎ Puts b c (pulse_at b' c)
    → Steps (is_flagged to (pulse_at b c) b.time) (is_flagged to (pulse_at b' c) b'.time) (turns_to to (level_at b c) (level_at b' c) ≡ true)
    × Sound (seen to (pulse_at b' c)) b'.time
written to b b' c at h (inl same) = rw at (leaving to (seen to (pulse_at b c)) (seen to (pulse_at b' c)) b.time same, rw same h)
written to b b' c at h (inr puts) =
    let is : seen to (pulse_at b' c) ≡ (puts.out, marked to puts.out b.time (pulse_at b c)) = ap (seen to) puts.is ∙ seen_put to puts.out b.time (pulse_at b c) in
    rw at (
      put_steps to (seen to (pulse_at b' c)) puts.out b.time (pulse_at b c) is puts.begun,
      rw is (record { watched = omega arith; begun = puts.begun }),
    )

after-access : (to : Bool) (b : Pulses) (c : ℕ) (x : Access) → HasChannel b c → Sound (seen to (pulse_at b c)) b.time → LeavesStanding to c x → After to b c x
after-access to b c (accesses.Reads r) h sound left = record { steps = record { forth = λ e. inl e; stays = λ e. e; set = λ t. absurd t }; sound = sound }
after-access to b c (accesses.Passes n) h sound left = record {
  steps = passing to (seen to (pulse_at b c)) b.time n sound;
  sound = record { watched = omega (arith, sound.watched); begun = sound.begun };
}
after-access to b c (accesses.Writes r value) h sound left =
    let begun : Begun (pulse_at b c).output b.time = begun-later (pulse_at b c).output (mark_of to (pulse_at b c)).watched b.time sound.begun sound.watched in
    let all = written to b (after_write b r value) c (time-after_write b r value) sound (case_of to b c r value h begun left) in
    record { steps = all.0; sound = all.1 }

-- ---- histories

flags-all : (to : Bool) (b : Pulses) (c : ℕ) (xs : List Access) → HasChannel b c → Sound (seen to (pulse_at b c)) b.time → AllByRecursion (LeavesStanding to c) xs
    → Steps (is_flagged to (pulse_at b c) b.time) (is_flagged to (pulse_at (after_all b xs) c) (after_all b xs).time) (ChangesIn to c b xs)
flags-all to b c [] h sound left = record { forth = λ e. inl e; stays = λ e. e; set = λ t. absurd t }
flags-all to b c (x ∷ xs) h sound left =
    let one = after-access to b c x h sound left.0 in
    let rest = flags-all to (after b x) c xs (has_channel-after b c x h) one.sound left.1 in
    record {
      forth = λ e. elim (rest.forth e) [
        | inl stood ↦ elim (one.steps.forth stood) [
          | inl old ↦ inl old
          | inr now ↦ inr (inl now)
        ]
        | inr later ↦ inr (inr later)
      ];
      stays = λ e. rest.stays (one.steps.stays e);
      set = λ t. elim t [
        | inl now ↦ rest.stays (one.steps.set now)
        | inr later ↦ rest.set later
      ];
    }

-- ---- what every history from a reset leaves

put_begun : (b : Pulses) (k c : ℕ) (f : Pulse → Output) → HasChannel b c → Begun (pulse_at b c).output b.time → Begun (f (pulse_at b c)) b.time → (c ≡ k) ⊎ (c ≢ k)
    → Begun (pulse_at (with_pulse b k (put_out (f (pulse_at b k)) b.time (pulse_at b k))) c).output b.time
put_begun b k c f h old new (inl at) =
    let is : pulse_at (with_pulse b k (put_out (f (pulse_at b k)) b.time (pulse_at b k))) c ≡ put_out (f (pulse_at b c)) b.time (pulse_at b c) =
    ap (λ n. pulse_at (with_pulse b n (put_out (f (pulse_at b n)) b.time (pulse_at b n))) c) (sym at)
    ∙ pulse_at-same b c (put_out (f (pulse_at b c)) b.time (pulse_at b c)) h in
    rw is new
put_begun b k c f h old new (inr ne) = rw (pulse_at-other b k c (put_out (f (pulse_at b k)) b.time (pulse_at b k)) ne) old

idle_begun : (q : Bool) (b : Pulses) (k c : ℕ) (level : Bool) → HasChannel b c → Begun (pulse_at b c).output b.time
    → Begun (pulse_at (if q then b else with_pulse b k (put_out (Idle level) b.time (pulse_at b k))) c).output b.time
idle_begun true b k c level h old = old
idle_begun false b k c level h old = put_begun b k c (λ _. Idle level) h old tt (same_or_other c k)

write_begun : (b : Pulses) (c : ℕ) (r : Reg) (value : ℕ) → HasChannel b c → Begun (pulse_at b c).output b.time → Begun (pulse_at (after_write b r value) c).output b.time
write_begun b c (PulsePeriod k) value h old =
    let p = pulse_at b k in
    rw (with_seen (λ x. x.output) b k c (record p { wave = record (p.wave) { period = value } }) h refl (same_or_other c k)) old
write_begun b c (PulseDuty k) value h old =
    let p = pulse_at b k in
    rw (with_seen (λ x. x.output) b k c (record p { wave = record (p.wave) { duty = value } }) h refl (same_or_other c k)) old
write_begun b c (PulsePolarity k) value h old =
    let p = pulse_at b k in
    rw (with_seen (λ x. x.output) b k c (record p { wave = record (p.wave) { high = not (value == 0) } }) h refl (same_or_other c k)) old
write_begun b c (PulseCommit k) value h old =
    put_begun b k c (λ p. committed p.wave b.time p.output) h old (committed-begun (pulse_at b c).wave b.time (pulse_at b c).output old) (same_or_other c k)
write_begun b c (PulseIdle k) value h old = idle_begun (nat_lt 1 value) b k c (value == 1) h old
write_begun b c PulseEdges value h old = old
write_begun b c PulseFlags value h old =
    rw (output-cleared false (cleared true b value) (value / 256) c (has_channel-cleared true b value c h) ∙ output-cleared true b value c h) old
write_begun b c _ value h old = old

record Standing (b : Pulses) (c : ℕ) : Type 0 where
  there : HasChannel b c
  begun : Begun (pulse_at b c).output b.time

standing-after : (b : Pulses) (c : ℕ) (x : Access) → Standing b c → Standing (after b x) c
standing-after b c (accesses.Reads r) h = h
standing-after b c (accesses.Writes r value) h =
    record { there = has_channel-after b c (accesses.Writes r value) h.there; begun = rw (time-after_write b r value) (write_begun b c r value h.there h.begun) }
standing-after b c (accesses.Passes n) h =
    record { there = has_channel-after b c (accesses.Passes n) h.there; begun = begun-later (pulse_at b c).output b.time (b.time + n) h.begun (omega arith) }

standing-all : (b : Pulses) (c : ℕ) (xs : List Access) → Standing b c → Standing (after_all b xs) c
standing-all b c [] h = h
standing-all b c (x ∷ xs) h = standing-all (after b x) c xs (standing-after b c x h)

fresh_at : (time c : ℕ) → pulse_at (pulses_fresh time) c ≡ silent
fresh_at time zero = refl
fresh_at time (suc zero) = refl
fresh_at time (suc (suc zero)) = refl
fresh_at time (suc (suc (suc zero))) = refl
fresh_at time (suc (suc (suc (suc zero)))) = refl
fresh_at time (suc (suc (suc (suc (suc zero))))) = refl
fresh_at time (suc (suc (suc (suc (suc (suc zero)))))) = refl
fresh_at time (suc (suc (suc (suc (suc (suc (suc zero))))))) = refl
fresh_at time (suc (suc (suc (suc (suc (suc (suc (suc c)))))))) = refl

standing-fresh : (time c : ℕ) → c < 8 → Standing (pulses_fresh time) c
standing-fresh time c lt = record { there = record { all = refl; within = lt }; begun = rw (fresh_at time c) tt }

-- ---- the law

abbrev unset : ℕ → Mark
unset now = record { kept = false; watched = now }

clear_seen : (to : Bool) (now : ℕ) (p : Pulse) → seen to (flag_clear to now p) ≡ (p.output, unset now)
clear_seen true now p = refl
clear_seen false now p = refl

cleared_seen : (to : Bool) (b : Pulses) (c value : ℕ) → HasChannel b c → has_bit value (place_of to c) ≡ true
    → seen to (pulse_at (after_write b PulseFlags value) c) ≡ ((pulse_at b c).output, unset b.time)
cleared_seen true b c value h on =
    cleared_other true (cleared true b value) (value / 256) c (has_channel-cleared true b value c h)
    ∙ ap (seen true) (cleared_on true b value c h on)
    ∙ clear_seen true b.time (pulse_at b c)
cleared_seen false b c value h on =
    ap (seen false) (cleared_on false (cleared true b value) (value / 256) c (has_channel-cleared true b value c h) (upper_bit value c ∙ on))
    ∙ clear_seen false b.time (pulse_at (cleared true b value) c)
    ∙ ap (λ (o : Output). (o, unset b.time)) (output-cleared true b value c h)

pub flag-since_clearing : (time : ℕ) (before since : List Access) (to : Bool) (c bits : ℕ) → c < 8 → has_bit bits (place_of to c) ≡ true → AllByRecursion (LeavesStanding to c) since
    → (is_flagged to (pulse_at (after_all (after_write (after_all (pulses_fresh time) before) PulseFlags bits) since) c) (after_all (after_write (after_all (pulses_fresh time) before) PulseFlags bits) since).time ≡ true)
    ↔ ChangesIn to c (after_write (after_all (pulses_fresh time) before) PulseFlags bits) since
flag-since_clearing time before since to c bits lt on left =
    let b : Pulses = after_all (pulses_fresh time) before in
    let b' : Pulses = after_write b PulseFlags bits in
    let st : Standing b c = standing-all (pulses_fresh time) c before (standing-fresh time c lt) in
    let is : seen to (pulse_at b' c) ≡ ((pulse_at b c).output, unset b.time) = cleared_seen to b c bits st.there on in
    let sound : Sound (seen to (pulse_at b' c)) b.time = rw is (record { watched = omega arith; begun = st.begun }) in
    let all = flags-all to b' c since (has_channel-after b c (accesses.Writes PulseFlags bits) st.there) sound left in (
      λ e. elim (all.forth e) [
        | inl stood ↦ absurd (not_now to (pulse_at b c).output b.time st.begun (ap (λ (s : Output × Mark). flag_in to s b.time) (sym is) ∙ stood))
        | inr came ↦ came
      ],
      all.set,
    )
