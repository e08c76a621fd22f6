-- One pulse unit and one channel of the machine change together.
-- From module_machines: pwm.Relation, module_machines: pwm.Channels, service_outline: Words, service_outline: SweepWords, FlagRelation.
-- Used by DeInit, InitWrites, Output, InitRight, Notify and 2 more.
use Rattle.std.proofs.Common.{◌≡◌, ◌≢◌, ◌<◌, ◌||◌, [], ◌∷◌, ◌∙◌}
use Rattle.pwm_driver.specs.Terms
use Terms.{AllRight, AllSetUp, ap, arith, behind, Bool, Channel, channel_of, channel_other, channel_same, Chip}
use Terms.{chip_after, chosen, each_but, eq_other, false, is_marked_by, is_notified, is_some, IsBegun, IsQuiet, IsSetUp}
use Terms.{KindAgrees, KINDS, length, length-set, level, level_of, LinesAgree, MarksAgree, None, none, Option, Output}
use Terms.{output_in, period_word, polarity_of, Pulse, pulse_at, pulse_at-other, pulse_at-same, PulseIdle, Pulses, put_out, PwmTable, PwmEdge, PwmRepresents, PwmState, refl, Reservations, settled, Some, stands-move, StandsIn, STATE, Store, stored_other, stored_same, subst, sym, true, turns, turns_to, UnitAgrees, UnitsAgree, Wave, with_new, with_pulse, word_of, WORDS, World, Write, ℕ}
use Rattle.module_machines.specs.pwm.laws.Relation.{level_same, chosen_or, chosen_turns, committed_same, with_new_begun}
use Rattle.pwm_driver.specs.laws.FlagRelation.{flagged_same}
use Rattle.chip_blocks.specs.pulses.Pulses as pulses
use Rattle.chip_blocks.specs.declared.pulses.pulse.Output.TheVariants as units
use Rattle.chip_blocks.specs.declared.pulses.pulse.Pulse as unit

-- ---- an output that is put out

put_kept : (edge : PwmEdge) (high : Bool) (now : ℕ) (p : unit.Pulse) (x : Pulse) (o : Output) → x.notified ≡ Some edge → UnitAgrees high now p x → IsBegun o now → chosen edge (pulses.marked true (output_in high o) now p).kept (pulses.marked false (output_in high o) now p).kept ≡ is_marked_by (Some edge) high now x || turns edge (level_of high x.output now) (level_of high o now)
put_kept edge high now p x o e h b =
    chosen_or edge (pulses.is_flagged true p now) (pulses.is_flagged false p now) (turns_to true before after) (turns_to false before after)
    ∙ (ap (λ q. q || chosen edge (turns_to true before after) (turns_to false before after)) (flagged_same edge high now p x e h now)
    ∙ ap (λ q. is_marked_by (Some edge) high now x || q) (chosen_turns edge before after
    ∙ (ap (λ q. turns edge q after) (ap (λ y. pulses.output_level y now) h.output ∙ level_same high x.output x.since now h.begun)
    ∙ ap (λ q. turns edge (level_of high x.output now) q) (level_same high o now now b))))
  where
    before : Bool
    before = pulses.level_of p now

    after : Bool
    after = pulses.output_level (output_in high o) now

pub put_agrees : (k : Option Channel) (now : ℕ) (p : unit.Pulse) (x : Pulse) (o : Output) → UnitAgrees (polarity_of k) now p x → IsBegun o now → UnitAgrees (polarity_of k) now (pulses.put_out (output_in (polarity_of k) o) now p) (put_out k now o x)
put_agrees k now p x o h b = record { output = refl; begun = b; past = omega arith; marks = by x.notified refl }
  where
    by : (n : Option PwmEdge) → x.notified ≡ n → MarksAgree n (pulses.put_out (output_in (polarity_of k) o) now p) (put_out k now o x)
    by None e = tt
    by (Some edge) e = record {
      rising = refl;
      falling = refl;
      kept = put_kept edge (polarity_of k) now p x o e h b ∙ sym (ap (λ n. is_marked_by n (polarity_of k) now x || is_notified n (level_of (polarity_of k) x.output now) (level_of (polarity_of k) o now)) e);
    }

-- a waiting register, and the period that is kept, are none of what agrees
pub waved : (high : Bool) (now : ℕ) (p : unit.Pulse) (x : Pulse) (v : Wave) → UnitAgrees high now p x → UnitAgrees high now (record p { wave = v }) x
waved high now p x v h = record { output = h.output; begun = h.begun; past = h.past; marks = by x.notified h.marks }
  where
    by : (n : Option PwmEdge) → MarksAgree n p x → MarksAgree n (record p { wave = v }) x
    by None m = tt
    by (Some edge) m = record { rising = m.rising; falling = m.falling; kept = m.kept }

pub perioded : (high : Bool) (now : ℕ) (p : unit.Pulse) (x : Pulse) (v : ℕ) → UnitAgrees high now p x → UnitAgrees high now p (record x { period = v })
perioded high now p x v h = record { output = h.output; begun = h.begun; past = h.past; marks = by x.notified h.marks }
  where
    by : (n : Option PwmEdge) → MarksAgree n p x → MarksAgree n p (record x { period = v })
    by None m = tt
    by (Some edge) m = record { rising = m.rising; falling = m.falling; kept = m.kept }

-- a commit of what stands in the registers
pub commit_agrees : (k : Channel) (now time : ℕ) (p : unit.Pulse) (x : Pulse) (period duty : ℕ) → time ≡ now → p.wave ≡ record { period = period; duty = duty; high = k.polarity_high } → UnitAgrees k.polarity_high now p x → UnitAgrees k.polarity_high now (pulses.taken time p) (put_out (Some k) now (with_new now period duty x.output) x)
commit_agrees k now time p x period duty at is h =
    let put = put_agrees (Some k) now p x (with_new now period duty x.output) h (with_new_begun x.output x.since now period duty h.begun h.past) in
    let same = ap (λ v. pulses.committed v now p.output) is ∙ (ap (λ o. pulses.committed (record { period = period; duty = duty; high = k.polarity_high }) now o) h.output ∙ committed_same k.polarity_high x.output x.since now period duty h.begun) in
    subst (λ t. UnitAgrees k.polarity_high now (pulses.taken t p) (put_out (Some k) now (with_new now period duty x.output) x)) (sym at) (subst (λ o. UnitAgrees k.polarity_high now (pulses.put_out o now p) (put_out (Some k) now (with_new now period duty x.output) x)) (sym same) put)

-- ---- one channel of all

pub none_held : (d : PwmTable) (held : Reservations) (on : Bool) (chip : Chip) → on ≡ true → AllRight on held → AllSetUp d held chip
none_held d [] on chip e h = tt
none_held d (x ∷ xs) on chip e h = absurd (let f = h.1 in cc)

units_set : (d : PwmTable) (b : Pulses) (w : World) (s s1 : PwmState) (opened opened1 : ℕ → Bool) (c : ℕ) (p1 : unit.Pulse) → length b.pulses ≡ 8 → c < 8 → UnitsAgree d opened b w s → (opened1 c ≡ false → UnitAgrees (polarity_of (channel_of d c)) w.now p1 (pulse_at s1 c)) → ((k : ℕ) → k < 8 → k ≢ c → opened1 k ≡ false → (opened k ≡ false) × (pulse_at s1 k ≡ pulse_at s k)) → UnitsAgree d opened1 (pulses.with_pulse b c p1) w s1
units_set d b w s s1 opened opened1 c p1 size lt h new rest k below closed =
    each_but (λ i. i < 8 → opened1 i ≡ false → UnitAgrees (polarity_of (channel_of d i)) w.now (pulses.pulse_at (pulses.with_pulse b c p1) i) (pulse_at s1 i)) c
    (λ l g. subst (λ p. UnitAgrees (polarity_of (channel_of d c)) w.now p (pulse_at s1 c)) (sym (pulse_at-same b c p1 (record { all = size; within = lt }))) (new g)) k
    (λ ne l g. let r = rest k l ne g in subst (λ p. UnitAgrees (polarity_of (channel_of d k)) w.now p (pulse_at s1 k)) (sym (pulse_at-other b c k p1 ne)) (subst (λ x. UnitAgrees (polarity_of (channel_of d k)) w.now (pulses.pulse_at b k) x) (sym r.1) (h k l r.0)))
    below closed

-- the chip with this unit
abbrev pub chip_with : Chip → ℕ → unit.Pulse → Chip
chip_with chip c p = record chip { pulses = pulses.with_pulse chip.pulses c p }

module _ (d : PwmTable) (below : Reservations) (chip : Chip) (w : World) (s : PwmState) (c : ℕ) (lt : c < 8) (on : s.initialised ≡ true) (there : is_some (channel_of d c) ≡ true) where
  unused_with : (x : Pulse) → ((k : ℕ) → k < 8 → channel_of d k ≡ None → IsQuiet (pulse_at s k)) → (k : ℕ) → k < 8 → channel_of d k ≡ None → IsQuiet (pulse_at (with_pulse s c x) k)
  unused_with x h k l = each_but (λ i. i < 8 → channel_of d i ≡ None → IsQuiet (pulse_at (with_pulse s c x) i)) c
      (λ i e. absurd (let f : is_some (channel_of d c) ≡ false = ap (λ o. is_some o) e in cc)) k
      (λ ne i e. subst IsQuiet (sym (channel_other s c k x i ne)) (h k i e)) l

  never_off : {A : Type 0} → s.initialised ≡ false → A
  never_off off = absurd (cc)

  -- the unit is another one, and nothing of the machine is: its waiting registers
  pub unit_set : (p : unit.Pulse) → StandsIn (chip_with chip c p) w → UnitAgrees (polarity_of (channel_of d c)) w.now p (pulse_at s c) → PwmRepresents d below settled chip w s → PwmRepresents d below settled (chip_with chip c p) w s
  unit_set p outside new h = record {
    right = h.right;
    setup = none_held d below s.initialised (chip_with chip c p) on h.right;
    outside = outside;
    size = length-set chip.pulses.pulses c p ∙ h.size;
    units = units_set d chip.pulses w s s none none c p h.size lt h.units (λ g. new) (λ k l ne g. (refl, refl));
    kinds = h.kinds;
    words = record { state = h.words.state; kinds = h.words.kinds; periods = h.words.periods };
    lines = h.lines;
    clean = h.clean;
    unused = h.unused;
  }

  -- unit and channel are others, with the same notification
  pub both_set : (p : unit.Pulse) (x : Pulse) (after : ℕ → Bool) → (after (period_word c) ≡ false → x.period ≡ (pulse_at s c).period) → x.notified ≡ (pulse_at s c).notified → StandsIn (chip_with chip c p) w → UnitAgrees (polarity_of (channel_of d c)) w.now p x → PwmRepresents d below settled chip w s → PwmRepresents d below (record settled { words = after }) (chip_with chip c p) w (with_pulse s c x)
  both_set p x after period notified outside new h = record {
    right = h.right;
    setup = none_held d below s.initialised (chip_with chip c p) on h.right;
    outside = outside;
    size = length-set chip.pulses.pulses c p ∙ h.size;
    units = units_set d chip.pulses w s (with_pulse s c x) none none c p h.size lt h.units (λ g. subst (λ y. UnitAgrees (polarity_of (channel_of d c)) w.now p y) (sym (channel_same s c x lt)) new) (λ k l ne g. (refl, channel_other s c k x l ne));
    kinds = λ k l g. each_but (λ i. i < 8 → KindAgrees chip.pulses.edges i (pulse_at (with_pulse s c x) i).notified) c
        (λ i. subst (λ n. KindAgrees chip.pulses.edges c n) (sym (ap (λ y. y.notified) (channel_same s c x lt) ∙ notified)) (h.kinds c lt refl)) k
        (λ ne i. subst (λ y. KindAgrees chip.pulses.edges k y.notified) (sym (channel_other s c k x i ne)) (h.kinds k i refl)) l;
    words = record {
      state = λ g. h.words.state refl;
      kinds = λ g. h.words.kinds refl;
      periods = λ e k l u g. each_but (λ i. i < 8 → is_some (channel_of d i) ≡ true → after (period_word i) ≡ false → word_of chip (period_word i) ≡ (pulse_at (with_pulse s c x) i).period) c
          (λ i v f. h.words.periods on c lt v refl ∙ sym (ap (λ y. y.period) (channel_same s c x lt) ∙ period f)) k
          (λ ne i v f. h.words.periods on k i v refl ∙ sym (ap (λ y. y.period) (channel_other s c k x i ne))) l u g;
    };
    lines = h.lines;
    clean = λ off k l. never_off off;
    unused = unused_with x h.unused;
  }

-- the period that is behind is stored
pub period_not_state : (c : ℕ) → STATE ≢ period_word c
period_not_state c e = absurd (omega (arith, e))

pub period_not_kinds : (c : ℕ) → KINDS ≢ period_word c
period_not_kinds c e = absurd (omega (arith, e))

pub period_below : (c : ℕ) → c < 8 → period_word c < WORDS
period_below c lt = omega (arith, lt)

pub period_other : (c k : ℕ) → k ≢ c → period_word k ≢ period_word c
period_other c k ne e = ne (omega (arith, e))

pub period_kept : (d : PwmTable) (below : Reservations) (chip : Chip) (w : World) (s : PwmState) (c v : ℕ) → c < 8 → s.initialised ≡ true → v ≡ (pulse_at s c).period → PwmRepresents d below (behind (period_word c)) chip w s → PwmRepresents d below settled (chip_after chip (Store (period_word c) v) 0) w s
period_kept d below chip w s c v lt on is h = record {
  right = h.right;
  setup = none_held d below s.initialised (chip_after chip (Store (period_word c) v) 0) on h.right;
  outside = stands-move chip w (Store (period_word c) v) 0 h.outside;
  size = h.size;
  units = h.units;
  kinds = h.kinds;
  words = record {
    state = λ g. stored_other chip (period_word c) v 0 STATE (period_not_state c) ∙ h.words.state (eq_other STATE (period_word c) (period_not_state c));
    kinds = λ g. stored_other chip (period_word c) v 0 KINDS (period_not_kinds c) ∙ h.words.kinds (eq_other KINDS (period_word c) (period_not_kinds c));
    periods = λ e k l u g. each_but (λ i. i < 8 → is_some (channel_of d i) ≡ true → word_of (chip_after chip (Store (period_word c) v) 0) (period_word i) ≡ (pulse_at s i).period) c
        (λ i t. stored_same chip (period_word c) v 0 (period_below c lt) h.outside.all.words ∙ is) k
        (λ ne i t. stored_other chip (period_word c) v 0 (period_word k) (period_other c k ne) ∙ h.words.periods on k i t (eq_other (period_word k) (period_word c) (period_other c k ne))) l u;
  };
  lines = h.lines;
  clean = h.clean;
  unused = h.unused;
}

pub kinds_not_state : STATE ≢ KINDS
kinds_not_state e = absurd (omega (arith, e))

pub kinds_not_period : (c : ℕ) → period_word c ≢ KINDS
kinds_not_period c e = absurd (omega (arith, e))

-- what a write of an idle level leaves
pub idle_written : (chip : Chip) (c : ℕ) (high : Bool) → chip_after chip (Write (PulseIdle c) (level high)) 0 ≡ chip_with chip c (pulses.put_out (units.Idle high) chip.pulses.time (pulses.pulse_at chip.pulses c))
idle_written chip c true = refl
idle_written chip c false = refl

-- ---- while the module isn't initialised

pub off_lines : (on : Bool) (enabled : ℕ) → on ≡ false → LinesAgree None on enabled
off_lines true enabled e = absurd (cc)
off_lines false enabled e = tt

pub never : {A : Type 0} (on : Bool) → on ≡ false → on ≡ true → A
never on e f = absurd (let g = sym e ∙ f in cc)

-- waves and words that stay keep what is written
pub setup_kept : (d : PwmTable) (held : Reservations) (chip chip1 : Chip) → ((c : ℕ) → c < 8 → (pulses.pulse_at chip1.pulses c).wave ≡ (pulses.pulse_at chip.pulses c).wave) → ((c : ℕ) → c < 8 → word_of chip1 (period_word c) ≡ word_of chip (period_word c)) → AllSetUp d held chip → AllSetUp d held chip1
setup_kept d [] chip chip1 waves words h = tt
setup_kept d (x ∷ xs) chip chip1 waves words h = (λ c lt. subst (λ v. IsSetUp (channel_of d c) x.what.upto c v (pulses.pulse_at chip1.pulses c).wave) (sym (words c lt)) (subst (λ v. IsSetUp (channel_of d c) x.what.upto c (word_of chip (period_word c)) v) (sym (waves c lt)) (h.0 c lt)), setup_kept d xs chip chip1 waves words h.1)

-- a unit with the same wave leaves all waves
pub waved_at : (chip : Chip) (c k : ℕ) (p : unit.Pulse) → length chip.pulses.pulses ≡ 8 → c < 8 → p.wave ≡ (pulses.pulse_at chip.pulses c).wave → (pulses.pulse_at (pulses.with_pulse chip.pulses c p) k).wave ≡ (pulses.pulse_at chip.pulses k).wave
waved_at chip c k p size lt e = each_but (λ i. (pulses.pulse_at (pulses.with_pulse chip.pulses c p) i).wave ≡ (pulses.pulse_at chip.pulses i).wave) c (ap (λ y. y.wave) (pulse_at-same chip.pulses c p (record { all = size; within = lt })) ∙ e) k (λ ne. ap (λ y. y.wave) (pulse_at-other chip.pulses c k p ne))

-- the unit is another one, and nothing of the machine is
pub off_set : (d : PwmTable) (held held1 : Reservations) (chip : Chip) (w : World) (s : PwmState) (c : ℕ) (p : unit.Pulse) (opened opened1 : ℕ → Bool) → c < 8 → s.initialised ≡ false → AllRight s.initialised held1 → AllSetUp d held1 (chip_with chip c p) → StandsIn (chip_with chip c p) w → (opened1 c ≡ false → UnitAgrees (polarity_of (channel_of d c)) w.now p (pulse_at s c)) → ((k : ℕ) → k ≢ c → opened1 k ≡ false → opened k ≡ false) → PwmRepresents d held (record settled { units = opened }) chip w s → PwmRepresents d held1 (record settled { units = opened1 }) (chip_with chip c p) w s
off_set d held held1 chip w s c p opened opened1 lt off right setup outside new others h = record {
  right = right;
  setup = setup;
  outside = outside;
  size = length-set chip.pulses.pulses c p ∙ h.size;
  units = units_set d chip.pulses w s s opened opened1 c p h.size lt h.units new (λ k l ne g. (others k ne g, refl));
  kinds = h.kinds;
  words = record { state = h.words.state; kinds = h.words.kinds; periods = λ on. never s.initialised off on };
  lines = off_lines s.initialised _ off;
  clean = h.clean;
  unused = h.unused;
}
