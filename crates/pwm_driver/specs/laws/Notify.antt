-- Pwm_EnableNotification and Pwm_DisableNotification: their steps, what holds at each, and that they are right.
-- From Parts, Base, module_machines: pwm.Channels, Flags, Units and 3 more.
-- Used by Lawful, service/notify/rt, Windows.
use Rattle.std.proofs.Common.{◌≡◌, ◌≢◌, ◌+◌, ◌<◌, ◌≤◌, ◌^◌, ◌&&◌, ◌||◌, ◌∙◌}
use Rattle.pwm_driver.specs.Terms
use Terms.{acts, acts_by, After, ap, AreLong, arith, Before, behind, BodyTaken, Bool, Both, both, both_falling}
use Terms.{both_other, both_rising, by_eight, Call, Channel, channel_of, channel_other, channel_same, channel_work}
use Terms.{Chip, chip_after, Choose, Clear, clear_apart, DisableNotification, Drop, each_but, EnableNotification, ends}
use Terms.{eq_other, eq_self, Falling, falls, false, Find, goes, has_bit, has_bit-or, has_bit-without, has_one}
use Terms.{has_other, Is_after, Is_before, is_some, IsQuiet, KindAgrees, KINDS, kinds, Lag, Loads, LongBodies, Move}
use Terms.{no_answer, None, not, not_it, not_low, Nothing, NotifyBody, only, Option, Origin, outcome, past_it, period_word, polarity_of, pulse_at, PulseEdges, PulseFlags, Pulses, pwm_basis, PwmTable, PwmEdge, PwmRepresents, PwmState, refl, Reservations, rises, Rising, set_apart, settled, Shortens, Some, stands-move, STATE, Store, stored_other, stored_same, subst, switched, sym, tells_nothing, Told, true, UnitAgrees, with_kinds, with_pulse, without, word_of, World, Write, ℕ}
use Rattle.pwm_driver.specs.declared.service.notify.NotifyBody.TheVariants.{Load, Keep}
use Rattle.pwm_driver.specs.laws.{Base.{AllGood, steady_above, family, family_right}, Flags.{begun_later}}
use Rattle.pwm_driver.specs.laws.{Flags.{unflagged_agrees, flags_cleared}, Look.{MayAct}, Units.{none_held}}
use Rattle.pwm_driver.specs.laws.{Units.{kinds_not_state, kinds_not_period}}
use Rattle.chip_blocks.specs.pulses.Pulses as pulses
use Rattle.module_machines.specs.declared.pwm.call.Call.TheVariants as calls

abbrev pub notify_work : NotifyBody → Move
notify_work (Load c edge) = Loads KINDS
notify_work (Choose c k) = Write PulseEdges k
notify_work (Clear c k) = Write PulseFlags (both c)
notify_work (Find c) = Loads KINDS
notify_work (Drop k) = Write PulseEdges k
notify_work (Keep k) = Store KINDS k

abbrev pub notify_takes : NotifyBody → ℕ → NotifyBody × BodyTaken
notify_takes (Load c edge) x = (Choose c (with_kinds x c edge), goes)
notify_takes (Choose c k) x = (Clear c k, goes)
notify_takes (Clear c k) x = (Keep k, acts)
notify_takes (Find c) x = (Drop (without x (both c)), goes)
notify_takes (Drop k) x = (Keep k, acts)
notify_takes (Keep k) x = (Keep k, ends None no_answer Nothing)

abbrev pub notify_left : NotifyBody → ℕ
notify_left (Load c edge) = 4
notify_left (Choose c k) = 3
notify_left (Clear c k) = 2
notify_left (Find c) = 3
notify_left (Drop k) = 2
notify_left (Keep k) = 1

abbrev pub choosing : ℕ → Lag
choosing c = record settled { kinds = only c; words = only KINDS }

abbrev pub notify_gap : NotifyBody → Lag
notify_gap (Clear c k) = choosing c
notify_gap (Keep k) = behind KINDS
notify_gap _ = settled

abbrev pub on_call : ℕ → PwmEdge → Call
on_call c edge = calls.Channel c (EnableNotification edge)

abbrev pub off_call : ℕ → Call
off_call c = calls.Channel c DisableNotification

abbrev pub Asks : PwmTable → PwmState → ℕ → Call → Origin Call → Option Told → Type 0
Asks d s c call o t = Before call o t × (k : Channel) × MayAct d s c call k

abbrev pub notify_holds : PwmTable → Pulses → ℕ → PwmState → NotifyBody → Origin Call → Option Told → Type 0
notify_holds d f now s (Load c edge) o t = Asks d s c (on_call c edge) o t
notify_holds d f now s (Choose c k) o t = (edge : PwmEdge) × Asks d s c (on_call c edge) o t × (k ≡ with_kinds f.edges c edge)
notify_holds d f now s (Clear c k) o t = (edge : PwmEdge) × Asks d s c (on_call c edge) o t × (f.edges ≡ k) × KindAgrees f.edges c (Some edge)
notify_holds d f now s (Find c) o t = Asks d s c (off_call c) o t
notify_holds d f now s (Drop k) o t = (c : ℕ) × Asks d s c (off_call c) o t × (k ≡ without f.edges (both c))
notify_holds d f now s (Keep k) o t = (call : Call) × After call tells_nothing o t × (f.edges ≡ k) × (s.initialised ≡ true)

abbrev pub notify_bodies : (d : PwmTable) → LongBodies (pwm_basis d) NotifyBody
notify_bodies d = family d notify_work notify_takes notify_left notify_gap (notify_holds d)

-- ---- the bits of a channel among all

both_small : (c : ℕ) → c < 8 → both c < 2 ^ 32
both_small c lt = by_eight (λ i. both i < 2 ^ 32) (omega arith) (omega arith) (omega arith) (omega arith) (omega arith) (omega arith) (omega arith) (omega arith) c lt

left_out : (a b : Bool) → b ≡ true → a && not b ≡ false
left_out true b e = ap not e
left_out false b e = refl

pub without_here : (e c k : ℕ) → c < 8 → k < 16 → has_bit (both c) k ≡ true → has_bit (without e (both c)) k ≡ false
without_here e c k lt few i = has_bit-without e (both c) k (both_small c lt) (omega (arith, few)) ∙ left_out (has_bit e k) (has_bit (both c) k) i

pub without_other : (e c k : ℕ) → c < 8 → k < 16 → has_bit (both c) k ≡ false → has_bit (without e (both c)) k ≡ has_bit e k
without_other e c k lt few i = has_bit-without e (both c) k (both_small c lt) (omega (arith, few)) ∙ clear_apart (has_bit e k) (has_bit (both c) k) i

rising_at : (c : ℕ) (edge : PwmEdge) → c < 8 → has_bit (kinds c edge) c ≡ rises (Some edge)
rising_at c Rising lt = has_one c (omega (arith, lt))
rising_at c Falling lt = has_other (c + 8) c (omega (arith, lt)) (λ e. absurd (omega (arith, e)))
rising_at c Both lt = both_rising c lt

falling_at : (c : ℕ) (edge : PwmEdge) → c < 8 → has_bit (kinds c edge) (c + 8) ≡ falls (Some edge)
falling_at c Rising lt = has_other c (c + 8) (omega (arith, lt)) (λ e. absurd (omega (arith, e)))
falling_at c Falling lt = has_one (c + 8) (omega (arith, lt))
falling_at c Both lt = both_falling c lt

kinds_other : (c k : ℕ) (edge : PwmEdge) → c < 8 → k ≢ c → k ≢ c + 8 → has_bit (kinds c edge) k ≡ false
kinds_other c k Rising lt ne nf = has_other c k (omega (arith, lt)) ne
kinds_other c k Falling lt ne nf = has_other (c + 8) k (omega (arith, lt)) nf
kinds_other c k Both lt ne nf = both_other c k lt ne nf

with_here : (e c : ℕ) (edge : PwmEdge) → c < 8 → KindAgrees (with_kinds e c edge) c (Some edge)
with_here e c edge lt = record {
  rising = has_bit-or (without e (both c)) (kinds c edge) c ∙ (ap (λ q. q || has_bit (kinds c edge) c) (without_here e c c lt (omega (arith, lt)) (both_rising c lt)) ∙ rising_at c edge lt);
  falling = has_bit-or (without e (both c)) (kinds c edge) (c + 8) ∙ (ap (λ q. q || has_bit (kinds c edge) (c + 8)) (without_here e c (c + 8) lt (omega (arith, lt)) (both_falling c lt)) ∙ falling_at c edge lt);
}

with_other : (e c k : ℕ) (edge : PwmEdge) → c < 8 → k < 16 → k ≢ c → k ≢ c + 8 → has_bit (with_kinds e c edge) k ≡ has_bit e k
with_other e c k edge lt few ne nf = has_bit-or (without e (both c)) (kinds c edge) k ∙ (set_apart _ _ (kinds_other c k edge lt ne nf) ∙ without_other e c k lt few (both_other c k lt ne nf))

others_same : (e e1 c k : ℕ) (n : Option PwmEdge) → k < 8 → k ≢ c → ((j : ℕ) → j < 16 → j ≢ c → j ≢ c + 8 → has_bit e1 j ≡ has_bit e j) → c < 8 → KindAgrees e k n → KindAgrees e1 k n
others_same e e1 c k n lt ne same here h = record { rising = same k (omega (arith, lt)) ne (past_it c k lt) ∙ h.rising; falling = same (k + 8) (omega (arith, lt)) (not_low c k here) (not_it c k ne) ∙ h.falling }

module _ (d : PwmTable) where
  -- the changes of a channel are chosen
  chosen_now : (below : Reservations) (chip : Chip) (w : World) (s : PwmState) (c : ℕ) (edge : PwmEdge) → c < 8 → s.initialised ≡ true → PwmRepresents d below settled chip w s → PwmRepresents d below (choosing c) (chip_after chip (Write PulseEdges (with_kinds chip.pulses.edges c edge)) 0) w s
  chosen_now below chip w s c edge lt on h = record {
    right = h.right;
    setup = none_held d below s.initialised (chip_after chip (Write PulseEdges (with_kinds chip.pulses.edges c edge)) 0) on h.right;
    outside = stands-move chip w (Write PulseEdges (with_kinds chip.pulses.edges c edge)) 0 h.outside;
    size = h.size;
    units = h.units;
    kinds = λ k l g. each_but (λ i. i < 8 → only c i ≡ false → KindAgrees (with_kinds chip.pulses.edges c edge) i (pulse_at s i).notified) c
        (λ i f. absurd (let e = eq_self c in cc)) k
        (λ ne i f. others_same chip.pulses.edges (with_kinds chip.pulses.edges c edge) c k (pulse_at s k).notified i ne (λ j few nj nf. with_other chip.pulses.edges c j edge lt few nj nf) lt (h.kinds k i refl)) l g;
    words = record { state = λ g. h.words.state refl; kinds = λ g. absurd (let e = eq_self KINDS in cc); periods = λ e k l u g. h.words.periods on k l u refl };
    lines = h.lines;
    clean = h.clean;
    unused = h.unused;
  }

  -- and none of them any more
  dropped_now : (below : Reservations) (chip : Chip) (w : World) (s : PwmState) (c : ℕ) → c < 8 → s.initialised ≡ true → is_some (channel_of d c) ≡ true → PwmRepresents d below settled chip w s → PwmRepresents d below (behind KINDS) (chip_after chip (Write PulseEdges (without chip.pulses.edges (both c))) 0) w (with_pulse s c (switched w.now None (pulse_at s c)))
  dropped_now below chip w s c lt on there h =
      let x = switched w.now None (pulse_at s c) in
      let e1 = without chip.pulses.edges (both c) in
      let u = h.units c lt refl in
      let new : UnitAgrees (polarity_of (channel_of d c)) w.now (pulses.pulse_at chip.pulses c) x = record { output = u.output; begun = begun_later (pulse_at s c).output (pulse_at s c).since w.now u.past u.begun; past = omega arith; marks = tt } in
      record {
        right = h.right;
        setup = none_held d below s.initialised (chip_after chip (Write PulseEdges e1) 0) on h.right;
        outside = stands-move chip w (Write PulseEdges e1) 0 h.outside;
        size = h.size;
        units = λ k l g. each_but (λ i. i < 8 → UnitAgrees (polarity_of (channel_of d i)) w.now (pulses.pulse_at chip.pulses i) (pulse_at (with_pulse s c x) i)) c
            (λ i. subst (λ y. UnitAgrees (polarity_of (channel_of d c)) w.now (pulses.pulse_at chip.pulses c) y) (sym (channel_same s c x lt)) new) k
            (λ ne i. subst (λ y. UnitAgrees (polarity_of (channel_of d k)) w.now (pulses.pulse_at chip.pulses k) y) (sym (channel_other s c k x i ne)) (h.units k i refl)) l;
        kinds = λ k l g. each_but (λ i. i < 8 → KindAgrees e1 i (pulse_at (with_pulse s c x) i).notified) c
            (λ i. subst (λ y. KindAgrees e1 c y.notified) (sym (channel_same s c x lt)) (record { rising = without_here chip.pulses.edges c c lt (omega (arith, lt)) (both_rising c lt); falling = without_here chip.pulses.edges c (c + 8) lt (omega (arith, lt)) (both_falling c lt) })) k
            (λ ne i. subst (λ y. KindAgrees e1 k y.notified) (sym (channel_other s c k x i ne)) (others_same chip.pulses.edges e1 c k (pulse_at s k).notified i ne (λ j few nj nf. without_other chip.pulses.edges c j lt few (both_other c j lt nj nf)) lt (h.kinds k i refl))) l;
        words = record {
          state = λ g. h.words.state refl;
          kinds = λ g. absurd (let e = eq_self KINDS in cc);
          periods = λ e k l u g. each_but (λ i. i < 8 → is_some (channel_of d i) ≡ true → word_of chip (period_word i) ≡ (pulse_at (with_pulse s c x) i).period) c
              (λ i v. h.words.periods on c lt v refl ∙ sym (ap (λ y. y.period) (channel_same s c x lt))) k
              (λ ne i v. h.words.periods on k i v refl ∙ sym (ap (λ y. y.period) (channel_other s c k x i ne))) l u;
        };
        lines = h.lines;
        clean = λ off k l. absurd (let f = sym on ∙ off in cc);
        unused = λ k l. each_but (λ i. i < 8 → channel_of d i ≡ None → IsQuiet (pulse_at (with_pulse s c x) i)) c
            (λ i e. absurd (let f : is_some (channel_of d c) ≡ false = ap (λ z. is_some z) e in cc)) k
            (λ ne i e. subst IsQuiet (sym (channel_other s c k x i ne)) (h.unused k i e)) l;
      }

  kinds_kept : (below : Reservations) (chip : Chip) (w : World) (s : PwmState) (v : ℕ) → s.initialised ≡ true → chip.pulses.edges ≡ v → PwmRepresents d below (behind KINDS) chip w s → PwmRepresents d below settled (chip_after chip (Store KINDS v) 0) w s
  kinds_kept below chip w s v on is h = record {
    right = h.right;
    setup = none_held d below s.initialised (chip_after chip (Store KINDS v) 0) on h.right;
    outside = stands-move chip w (Store KINDS v) 0 h.outside;
    size = h.size;
    units = h.units;
    kinds = h.kinds;
    words = record {
      state = λ g. stored_other chip KINDS v 0 STATE kinds_not_state ∙ h.words.state refl;
      kinds = λ g. stored_same chip KINDS v 0 (omega arith) h.outside.all.words ∙ sym is;
      periods = λ e k l u g. stored_other chip KINDS v 0 (period_word k) (kinds_not_period k) ∙ h.words.periods on k l u (eq_other (period_word k) KINDS (kinds_not_period k));
    };
    lines = h.lines;
    clean = h.clean;
    unused = h.unused;
  }

  steps : AllGood d (steady_above d notify_work notify_takes notify_left notify_gap (notify_holds d))
  steps below chip w s (Load c edge) o t m (h, (b, k, i)) = (refl, (h, (edge, (b, k, i), ap (λ v. with_kinds v c edge) (h.words.kinds refl))))
  steps below chip w s (Choose c v) o t m (h, (edge, (b, k, i), is)) = (refl, (subst (λ z. PwmRepresents d below (choosing c) (chip_after chip (Write PulseEdges z) 0) w s) (sym is) (chosen_now below chip w s c edge i.lt i.on h), (edge, (b, k, i), refl, subst (λ z. KindAgrees z c (Some edge)) (sym is) (with_here chip.pulses.edges c edge i.lt))))
  steps below chip w s (Clear c v) o t m (h, (edge, (Is_before, k, i), is, kind)) =
      let x = pulse_at s c in (
        refl,
        record {
          own = tt;
          state = with_pulse s c (switched w.now (Some edge) x);
          told = tells_nothing;
          is = λ b. ap (λ z. Some (acts_by d w s (on_call c edge) b.committed z)) i.pass ∙ ap (λ z. Some (outcome (with_pulse s c (channel_work z w.now (EnableNotification edge) x)) tells_nothing)) i.known;
          acts = tt;
          next = (flags_cleared d below chip w s c (switched w.now (Some edge) x) (only c) (only KINDS) i.lt i.on (ap (λ z. is_some z) i.known) refl (λ j ne. eq_other j c ne) kind (unflagged_agrees (polarity_of (channel_of d c)) w.now chip.pulses.time (pulses.pulse_at chip.pulses c) x (Some edge) (h.outside.together.pulses ∙ h.outside.now) (h.units c i.lt refl)) h, (on_call c edge, Is_after, is, i.on));
        },
      )
  steps below chip w s (Find c) o t m (h, (b, k, i)) = (refl, (h, (c, (b, k, i), ap (λ v. without v (both c)) (h.words.kinds refl))))
  steps below chip w s (Drop v) o t m (h, (c, (Is_before, k, i), is)) =
      let x = pulse_at s c in (
        refl,
        record {
          own = tt;
          state = with_pulse s c (switched w.now None x);
          told = tells_nothing;
          is = λ b. ap (λ z. Some (acts_by d w s (off_call c) b.committed z)) i.pass ∙ ap (λ z. Some (outcome (with_pulse s c (channel_work z w.now DisableNotification x)) tells_nothing)) i.known;
          acts = tt;
          next = (subst (λ z. PwmRepresents d below (behind KINDS) (chip_after chip (Write PulseEdges z) 0) w (with_pulse s c (switched w.now None x))) (sym is) (dropped_now below chip w s c i.lt i.on (ap (λ z. is_some z) i.known) h), (off_call c, Is_after, refl, i.on));
        },
      )
  steps below chip w s (Keep v) o t m (h, (call, Is_after, is, on)) = (refl, (kinds_kept below chip w s v on is h, (refl, refl, refl)))

  later : (f : Pulses) (now now1 : ℕ) (s : PwmState) (k : NotifyBody) (o : Origin Call) (t : Option Told) → now ≤ now1 → notify_holds d f now s k o t → notify_holds d f now1 s k o t
  later f now now1 s (Load c edge) o t le h = h
  later f now now1 s (Choose c k) o t le h = h
  later f now now1 s (Clear c k) o t le h = h
  later f now now1 s (Find c) o t le h = h
  later f now now1 s (Drop k) o t le h = h
  later f now now1 s (Keep k) o t le h = h

  shortens : (k : NotifyBody) (x : ℕ) → Shortens notify_left k (notify_takes k x)
  shortens (Load c edge) x = omega arith
  shortens (Choose c k) x = omega arith
  shortens (Clear c k) x = omega arith
  shortens (Find c) x = omega arith
  shortens (Drop k) x = omega arith
  shortens (Keep k) x = omega arith

  pub notify_right : AreLong (pwm_basis d) (notify_bodies d)
  notify_right = family_right d notify_work notify_takes notify_left notify_gap (notify_holds d) shortens later steps
