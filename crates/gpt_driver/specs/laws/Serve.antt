-- The handler of a channel's line: its steps, what holds at each, and that they are right.
-- From Base, Parts, RefinementRight, Switch, service_outline: Acts and 2 more.
-- Used by service/serve/rt, Lawful.
use Rattle.std.proofs.Common.{◌≡◌, ℕ, ◌<◌, Bool, true, false, ◌&&◌, ◌==◌, not, nat_lt, Option, Some, None, refl, sym, ◌∙◌, ap, subst, arith}
use Rattle.std.specs.Prelude.{if◌then◌else◌}
use Rattle.mcal_base.specs.facts.Numbers.{eq_self}
use Rattle.gpt_driver.specs.laws.Base.{lt-ltb, or_right, false_from_ne_true, Chip, Timers, timer_at, acted, expired_between, flags_of, has_bit, Serve, Move, Notice, TimerFlags, World, Told, no_answer, outcome, Origin, Entered, missed_after, Epilogue, Nothing, One, BodyTaken, Done, goes, ends, never_clean, Shortens, Bodies, Happens, AreRight, StepsTo, Serving, Is_serving, Served, Is_served, Lag, settled, none, only, behind, TheState, SwitchesOf, state_word, GptRepresents, gpt_ground, gpt_setting, GptState, channel_at, Mode, Off, is_off, is_asleep, is_marked, with_channel, notes, served, served_by, wakes, notifies, gpt_machine, channel_of, bit, switches_word, packed, switches_of, Call, GptTable, Switches, STATE, Unflags, Load, Read, Store, Write, either_way, on_later, timed, AllGood, all_right}
use Rattle.mcal_base.specs.declared.notice.NoticeKind.{NoticeKind}
use Rattle.mcal_base.specs.declared.notice.NoticeKind.TheVariants.{GptNotification, EcuMCheckWakeup}
use Rattle.gpt_driver.specs.declared.service.serve.ServeBody.{ServeBody}
use Rattle.gpt_driver.specs.declared.service.serve.ServeBody.TheVariants as places
use Rattle.gpt_driver.specs.laws.ChannelTimes.{marked_later}
use Rattle.gpt_driver.specs.laws.RefinementRight.{may_words, flag_bit}
use Rattle.module_machines.specs.gpt.laws.Channels.{channel_same}
use Rattle.gpt_driver.specs.laws.Parts.{acted_with, caught_up, unpacked}
use Rattle.gpt_driver.specs.laws.Switch.{owed_if, owes_if}

abbrev pub woken : Switches → Switches
woken x = record x { woken = true }

abbrev pub notification : ℕ → Notice
notification c = record { kind = GptNotification; id = c }

abbrev pub told : NoticeKind → ℕ → Epilogue
told kind c = One (record { kind = kind; id = c })

abbrev pub serve_work : ServeBody → Move
serve_work (places.Look c) = Read TimerFlags
serve_work (places.Mode c) = Load STATE
serve_work (places.Switches c asleep) = Load (switches_word c)
serve_work (places.Clear c asleep x) = Write TimerFlags (bit c)
serve_work (places.Mark c x) = Store (switches_word c) (packed (woken x))

-- the serving, and what it leaves
abbrev pub serve_clears : ℕ → Bool → Switches → ServeBody × BodyTaken
serve_clears c asleep x =
    if asleep && x.wakeup
    then (places.Mark c x, record { event = Some (Serve c); done = None })
    else (places.Clear c asleep x, ends (Some (Serve c)) no_answer (owed_if (not asleep && x.notification) (notification c)))

abbrev pub serve_takes : ServeBody → ℕ → ServeBody × BodyTaken
serve_takes (places.Look c) v = if has_bit v c then (places.Mode c, goes) else (places.Look c, ends None no_answer Nothing)
serve_takes (places.Mode c) v = (places.Switches c (v == 2), goes)
serve_takes (places.Switches c asleep) v = (places.Clear c asleep (switches_of v), goes)
serve_takes (places.Clear c asleep x) v = serve_clears c asleep x
serve_takes (places.Mark c x) v = (places.Mark c x, ends None no_answer (told EcuMCheckWakeup c))

abbrev pub serve_left : ServeBody → ℕ
serve_left (places.Look c) = 5
serve_left (places.Mode c) = 4
serve_left (places.Switches c asleep) = 3
serve_left (places.Clear c asleep x) = 2
serve_left (places.Mark c x) = 1

serve_shortens : (k : ServeBody) (v : ℕ) → Shortens serve_left k (serve_takes k v)
serve_shortens (places.Look c) v = either_way (λ p. Shortens serve_left (places.Look c) p) (has_bit v c) _ _ (omega arith) (omega arith)
serve_shortens (places.Clear c asleep x) v = either_way (λ p. Shortens serve_left (places.Clear c asleep x) p) (asleep && x.wakeup) _ _ (omega arith) (omega arith)
serve_shortens _ v = omega arith

abbrev pub serve_gap : ServeBody → Lag
serve_gap (places.Mark c x) = behind (switches_word c)
serve_gap _ = settled

abbrev pub serve_holds : Timers → GptState → ServeBody → Origin Call → Option Told → Type 0
serve_holds f s (places.Look c) o t = Serving c o t × (c < 8)
serve_holds f s (places.Mode c) o t = Serving c o t × (c < 8)
serve_holds f s (places.Switches c asleep) o t = Serving c o t × (c < 8) × (asleep ≡ is_asleep s.mode)
serve_holds f s (places.Clear c asleep x) o t = Serving c o t × (c < 8) × (asleep ≡ is_asleep s.mode) × (x ≡ (channel_at s c).switches)
serve_holds f s (places.Mark c x) o t = Served c (notes true EcuMCheckWakeup c) o t × (c < 8) × (woken x ≡ (channel_at s c).switches)

-- the line's mark stands, from the look to the serving
abbrev pub serve_stays : GptTable → Timers → GptState → ServeBody → ℕ → Type 0
serve_stays d f s (places.Look c) time = Unit {0}
serve_stays d f s (places.Mark c x) time = Unit {0}
serve_stays d f s (places.Mode c) time = is_marked (channel_of d c) time (channel_at s c) ≡ true
serve_stays d f s (places.Switches c asleep) time = is_marked (channel_of d c) time (channel_at s c) ≡ true
serve_stays d f s (places.Clear c asleep x) time = is_marked (channel_of d c) time (channel_at s c) ≡ true

abbrev pub serve_bodies : (d : GptTable) → Bodies (gpt_ground d) ServeBody
serve_bodies d = timed d serve_work serve_takes serve_left serve_gap (λ k. false) serve_holds (serve_stays d)

asleep_word : (m : Mode) → (state_word m == 2) ≡ is_asleep m
asleep_word Off = refl
asleep_word _ = refl

not_ready : (a b : Bool) → b ≡ false → not (a && b) ≡ true
not_ready a b e = grind arith

module _ (d : GptTable) where
  -- a marked channel is one of an initialised module
  ready_on : (chip : Chip) (w : World) (s : GptState) (c : ℕ) → GptRepresents d settled chip w s → is_marked (channel_of d c) w.now (channel_at s c) ≡ true → is_off s.mode ≡ false
  ready_on chip w s c h r = false_from_ne_true _ (λ e. let f : is_marked (channel_of d c) w.now (channel_at s c) ≡ false = ap (λ x. is_marked (channel_of d c) w.now x) (h.clean e c) in cc)

  look_by : (chip : Chip) (w : World) (s : GptState) (m : ℕ → Bool) (c : ℕ) → c < 8 → GptRepresents d settled chip w s → (q : Bool) → q ≡ is_marked (channel_of d c) w.now (channel_at s c) → StepsTo (gpt_ground d) (serve_bodies d) chip w s (Entered c) (Read TimerFlags) false None (missed_after (gpt_machine d) w s m) (if q then (places.Mode c, goes) else (places.Look c, ends None no_answer Nothing))
  look_by chip w s m c lt h true e = (h, ((Is_serving, lt), λ time le. marked_later (channel_of d c) (channel_at s c) w.now time le (sym e)))
  look_by chip w s m c lt h false e = (h, or_right (m c) _ (not_ready (nat_lt c 8) (is_marked (channel_of d c) w.now (channel_at s c)) (sym e)), refl)

  -- the flag is cleared, and the machine serves
  unflagged : (chip : Chip) (w : World) (s : GptState) (c : ℕ) (x : Switches) (after : ℕ → Bool) → c < 8 → is_off s.mode ≡ false → (after (switches_word c) ≡ false → x ≡ (channel_at s c).switches) → GptRepresents d settled chip w s → GptRepresents d (record settled { words = after }) (record chip { timers = acted Unflags chip.timers (bit c) }) w (with_channel s c (record (channel_at s c) { dropped = w.now; switches = x }))
  unflagged chip w s c x after lt on same h =
      let a = h.block c lt refl in
      acted_with d Unflags chip w s c (record (channel_at s c) { dropped = w.now; switches = x }) none none after lt on h (λ g. record { count = a.count; kept = refl; flag = λ n. ap (λ m. expired_between (timer_at chip.timers c).count m n) h.outside.now; set = a.set }) (λ k ne g. refl) (λ g. refl) same

  abbrev Clears : Chip → World → GptState → (ℕ → Bool) → ℕ → ServeBody × BodyTaken → Type 0
  Clears chip w s m c p = StepsTo (gpt_ground d) (serve_bodies d) (record chip { timers = acted Unflags chip.timers (bit c) }) w s (Entered c) (Write TimerFlags (bit c)) false None m p

  -- a marked line is served as the machine does, by whether it wakes
  serves_so : {left : Option Done} {Then : GptState → Told → Type 0} (w : World) (s : GptState) (c : ℕ) (q : Bool) {s1 : GptState} {t : Told} → c < 8 → is_marked (channel_of d c) w.now (channel_at s c) ≡ true → wakes s.mode (channel_at s c).switches ≡ q → served_by w s c q (notifies s.mode (channel_at s c).switches) ≡ outcome s1 t → Then s1 t → Happens (gpt_setting d) w s (Entered c) (Write TimerFlags (bit c)) false (Serve c) left Then
  serves_so w s c q {s1 = s1} {t = t} lt r e is next = record {
    own = refl;
    state = s1;
    told = t;
    is = λ times. ap (λ b. if b && is_marked (channel_of d c) w.now (channel_at s c) then Some (served w s c) else None) (lt-ltb c 8 lt) ∙ (ap (λ b. if b then Some (served w s c) else None) r ∙ (ap (λ b. Some (served_by w s c b (notifies s.mode (channel_at s c).switches))) e ∙ ap (λ o. Some o) is));
    acts = tt;
    next = next;
  }

  clear_by : (chip : Chip) (w : World) (s : GptState) (m : ℕ → Bool) (c : ℕ) → c < 8 → is_marked (channel_of d c) w.now (channel_at s c) ≡ true → GptRepresents d settled chip w s → (q : Bool) → wakes s.mode (channel_at s c).switches ≡ q → Clears chip w s m c (if q then (places.Mark c (channel_at s c).switches, record { event = Some (Serve c); done = None }) else (places.Clear c (is_asleep s.mode) (channel_at s c).switches, ends (Some (Serve c)) no_answer (owed_if (notifies s.mode (channel_at s c).switches) (notification c))))
  clear_by chip w s m c lt r h true e =
      let x = channel_at s c in
      let y = record x { dropped = w.now; switches = woken x.switches } in
      let after = unflagged chip w s c (woken x.switches) (only (switches_word c)) lt (ready_on chip w s c h r) (λ g. let f = eq_self (switches_word c) in absurd (cc)) h in
      serves_so w s c true lt r e refl (after, ((Is_served, lt, sym (ap (λ z. z.switches) (channel_same s c y lt))), λ time le. tt))
  clear_by chip w s m c lt r h false e =
      let q = notifies s.mode (channel_at s c).switches in
      let after = unflagged chip w s c (channel_at s c).switches none lt (ready_on chip w s c h r) (λ g. refl) h in
      serves_so w s c false lt r e refl (after, (refl, (owes_if q (notification c)).0, sym (owes_if q (notification c)).1))

  steps : AllGood d (serve_bodies d)
  steps chip w s (places.Look c) o t m (h, ((Is_serving, lt), stays)) = (refl, look_by chip w s m c lt h (has_bit (flags_of chip.timers) c) (flag_bit d chip w s c lt h))
  steps chip w s (places.Mode c) o t m (h, ((Is_serving, lt), stays)) = (refl, (h, ((Is_serving, lt, ap (λ x. x == 2) (h.words TheState tt refl) ∙ asleep_word s.mode), stays)))
  steps chip w s (places.Switches c asleep) o t m (h, ((Is_serving, lt, e), stays)) = (may_words (SwitchesOf c) lt, (h, ((Is_serving, lt, e, ap switches_of (h.words (SwitchesOf c) lt refl) ∙ unpacked (channel_at s c).switches), stays)))
  steps chip w s (places.Clear c asleep x) o t m (h, ((Is_serving, lt, e, i), stays)) =
      let m1 = missed_after (gpt_machine d) w s m in
      let a = clear_by chip w s m1 c lt (stays w.now (omega arith)) h (wakes s.mode (channel_at s c).switches) refl in
      (refl, subst (λ b. Clears chip w s m1 c (serve_clears c b x)) (sym e) (subst (λ y. Clears chip w s m1 c (serve_clears c (is_asleep s.mode) y)) (sym i) a))
  steps chip w s (places.Mark c x) o t m (h, ((Is_served, lt, e), stays)) = (may_words (SwitchesOf c) lt, (caught_up d chip w s (SwitchesOf c) (packed (woken x)) lt (ap (λ y. packed y) e) h, (refl, refl, refl)))

  pub serve_right : AreRight (gpt_ground d) (serve_bodies d)
  serve_right = all_right d (serve_bodies d) serve_shortens (λ k x. never_clean (serve_work k) k (serve_takes k x)) (λ f w w1 s k o t le h. on_later w.now w1.now le h) steps
