-- The services that change a channel's switches: their steps, what holds at each, and that they are right.
-- From Base, Parts, module_machines: gpt.Channels, service_outline: Acts, service_outline: SweepWords and 1 more.
-- Used by service/switch/rt, Lawful, Serve.
use Rattle.std.proofs.Common.{◌≡◌, ℕ, ◌<◌, Bool, true, false, List, [], ◌∷◌, Option, Some, None, refl, sym, ◌∙◌, ap, subst, arith}
use Rattle.std.specs.Prelude.{if◌then◌else◌}
use Rattle.mcal_base.specs.facts.Numbers.{eq_self}
use Rattle.gpt_driver.specs.laws.Base.{Load as Loads, Store as Stores, Chip, Timers, timer_at, has_bit, DevError, Act, Move, Notice, World, Told, no_answer, Origin, Epilogue, Nothing, One, BodyTaken, goes, ends, never_clean, each_but, Shortens, Bodies, AreRight, error_in, notices_in, Before, Is_before, Lag, settled, only, behind, TimerAgrees, SwitchesOf, GptRepresents, gpt_ground, GptState, channel_at, is_off, runs_at, changed, with_switches, switches, channel_of, switches_word, packed, switches_of, Call, OfChannel, Changes, GptTable, Switches, Change, MayRun, steady, AllGood, all_right, acts_so}
use Rattle.mcal_base.specs.declared.notice.NoticeKind.TheVariants.{EcuMSetWakeupEvent}
use Rattle.module_machines.specs.gpt.Machine.{tells_event}
use Rattle.gpt_driver.specs.declared.service.switch.SwitchBody.{SwitchBody}
use Rattle.gpt_driver.specs.declared.service.switch.SwitchBody.TheVariants.{Load, Store}
use Rattle.gpt_driver.specs.laws.RefinementRight.{may_words}
use Rattle.module_machines.specs.gpt.laws.Channels.{channel_same, channel_other}
use Rattle.gpt_driver.specs.laws.Parts.{caught_up, words_with, never_off, unpacked}

-- what is owed where something is told
abbrev pub owed_if : Bool → Notice → Epilogue
owed_if b n = if b then One n else Nothing

abbrev pub event_owed : Change → ℕ → Switches → Epilogue
event_owed by c x = owed_if (tells_event by x) (record { kind = EcuMSetWakeupEvent; id = c })

abbrev pub switch_work : SwitchBody → Move
switch_work (Load c by) = Loads (switches_word c)
switch_work (Store c by x) = Stores (switches_word c) (packed (changed by x))

abbrev pub switch_takes : SwitchBody → ℕ → SwitchBody × BodyTaken
switch_takes (Load c by) x = (Store c by (switches_of x), goes)
switch_takes (Store c by x) v = (Store c by x, ends (Some Act) no_answer (event_owed by c x))

abbrev pub switch_left : SwitchBody → ℕ
switch_left (Load c by) = 2
switch_left (Store c by x) = 1

switch_shortens : (k : SwitchBody) (x : ℕ) → Shortens switch_left k (switch_takes k x)
switch_shortens (Load c by) x = omega arith
switch_shortens _ x = omega arith

abbrev pub switch_gap : SwitchBody → Lag
switch_gap k = settled

abbrev pub switch_holds : GptTable → Timers → GptState → SwitchBody → Origin Call → Option Told → Type 0
switch_holds d f s (Load c by) o t = Before (OfChannel c (Changes by)) o t × MayRun d s c (Changes by)
switch_holds d f s (Store c by x) o t = Before (OfChannel c (Changes by)) o t × MayRun d s c (Changes by) × (x ≡ (channel_at s c).switches)

abbrev pub switch_bodies : (d : GptTable) → Bodies (gpt_ground d) SwitchBody
switch_bodies d = steady d switch_work switch_takes switch_left switch_gap (switch_holds d)

pub owes_if : (q : Bool) (n : Notice) → ◌≡◌ {A = List Notice} (if q then n ∷ [] else []) (notices_in (owed_if q n)) × ◌≡◌ {A = Option DevError} None (error_in (owed_if q n))
owes_if true n = (refl, refl)
owes_if false n = (refl, refl)

module _ (d : GptTable) where
  -- a channel's switches changed in the machine, before its word is stored
  reswitched : (chip : Chip) (w : World) (s : GptState) (c : ℕ) (x : Switches) → c < 8 → is_off s.mode ≡ false → GptRepresents d settled chip w s → GptRepresents d (behind (switches_word c)) chip w (with_switches s c x)
  reswitched chip w s c x lt on h = record {
    outside = h.outside;
    block = λ k below closed.
        each_but (λ i. TimerAgrees (channel_of d i) (has_bit chip.timers.one_shot i) (timer_at chip.timers i) (channel_at (with_switches s c x) i)) c
        (subst (λ z. TimerAgrees (channel_of d c) (has_bit chip.timers.one_shot c) (timer_at chip.timers c) z) (sym (channel_same s c (record (channel_at s c) { switches = x }) lt)) (let a = h.block c lt refl in record { count = a.count; kept = a.kept; flag = a.flag; set = a.set })) k
        (λ ne. subst (λ z. TimerAgrees (channel_of d k) (has_bit chip.timers.one_shot k) (timer_at chip.timers k) z) (sym (channel_other s c k (record (channel_at s c) { switches = x }) below ne)) (h.block k below refl));
    words = words_with d chip s (only (switches_word c)) c (record (channel_at s c) { switches = x }) lt h.words (λ g. refl) (λ g. let e = eq_self (switches_word c) in absurd (cc));
    lines = h.lines;
    clean = never_off s.mode on;
  }

  steps : AllGood d (switch_bodies d)
  steps chip w s (Load c by) o t m (h, (Is_before, i)) = (may_words (SwitchesOf c) i.lt, (h, (Is_before, i, ap switches_of (h.words (SwitchesOf c) i.lt refl) ∙ unpacked (channel_at s c).switches)))
  steps chip w s (Store c by x) o t m (h, (Is_before, i, e)) =
      let old = (channel_at s c).switches in
      let y = changed by old in
      let n : Notice = record { kind = EcuMSetWakeupEvent; id = c } in
      let q = tells_event by old in
      let same = ap (λ z. owed_if (tells_event by z) n) (sym e) in
      let next = caught_up d chip w (with_switches s c y) (SwitchesOf c) (packed (changed by x)) i.lt (ap (λ z. packed (changed by z)) e ∙ sym (ap (λ z. packed z.switches) (channel_same s c (record (channel_at s c) { switches = y }) i.lt))) (reswitched chip w s c y i.lt i.on h) in
      (may_words (SwitchesOf c) i.lt, acts_so d w s (OfChannel c (Changes by)) (i.pass (runs_at d w s c)) (ap (λ z. switches z s c by) i.known) tt (next, (refl, (owes_if q n).0 ∙ ap notices_in same, (owes_if q n).1 ∙ ap error_in same)))

  pub switch_right : AreRight (gpt_ground d) (switch_bodies d)
  switch_right = all_right d (switch_bodies d) switch_shortens (λ k x. never_clean (switch_work k) k (switch_takes k x)) (λ f w w1 s k o t le h. h) steps
