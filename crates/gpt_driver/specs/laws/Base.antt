-- What all laws speak of, passed on, and what a family of bodies owes.
-- From service_outline: Acts, service_outline: Reports, service_outline: SweepWords.
-- Used by DeInit, Start, Mode, Switch, Count and 5 more.
use Rattle.std.proofs.Common.{◌≡◌, ℕ, ◌<◌, ◌≤◌, Bool, true, false, [], Option, Some, None, refl, sym, ◌∙◌, ap, subst, arith}
use Rattle.std.specs.Prelude.{if◌then◌else◌}
pub use Rattle.std.proofs.lemmas.Bool.{eq-eqb, ne_eqb, eqb-true, lt-ltb, ltb-true, ltb-false, or_right, true_from_ne_false, false_from_ne_true, le-ltb}
pub use Rattle.std.proofs.lemmas.Bool.Decides.{nat_tests}
pub use Rattle.chip_model.specs.Chip.{Chip, chip_after, happened, word_of}
pub use Rattle.chip_model.specs.Histories.{HasAll, Made}
pub use Rattle.chip_model.proofs.HistoryLaws.{level_leaves, rate-left, word-left, word-stored}
pub use Rattle.chip_blocks.specs.timers.Timers.{Timers, timer_at, with_timer, acted, acting, counter, counts_on, is_running, is_flagged, expired_between, gate_set, flag_clear, zero_count, running_of, flags_of}
pub use Rattle.chip_blocks.specs.declared.timers.timer.Count.TheVariants.{Still, Since}
pub use Rattle.chip_blocks.specs.declared.timers.timer.Timer.{Timer}
pub use Rattle.chip_blocks.proofs.of_timers.TimerLaws.{timer_at-acted_on, timer_at-acted_off, timer_at-with_timer_same, timer_at-with_timer_other, has_bit-running_of, has_bit-flags_of}
pub use Rattle.mcal_base.specs.Bits.{has_bit, bits_of}
pub use Rattle.mcal_base.proofs.BitLaws.{has_bit-bits_of, has_bit-or, has_bit-zero, has_bit-above, has_bit-without, bits_of-zero}
pub use Rattle.mcal_base.specs.declared.directive.Order.{Order}
pub use Rattle.mcal_base.specs.declared.directive.Order.TheVariants.{Tick, Level}
pub use Rattle.mcal_base.specs.declared.error_name.ErrorName.{ErrorName}
pub use Rattle.mcal_base.specs.declared.error_name.ErrorName.TheVariants.{GptBusy}
pub use Rattle.mcal_base.specs.declared.moves.DevError.{DevError}
pub use Rattle.mcal_base.specs.declared.moves.Event.TheVariants.{Act, Serve}
pub use Rattle.mcal_base.specs.declared.moves.Move.{Move}
pub use Rattle.mcal_base.specs.declared.notice.Notice.{Notice}
pub use Rattle.mcal_base.specs.declared.register.Reg.TheVariants.{EnableSet, EnableClear, TimerTarget, TimerPrescaler, TimerOneShot, TimerGateSet, TimerGateClear, TimerFlags, TimerZero, TimerLow, TimerHigh, TimerRun}
pub use Rattle.run_model.specs.World.{World, world_after}
pub use Rattle.run_model.specs.Machine.{Told, no_answer, tells_nothing, outcome, tells_error}
pub use Rattle.run_model.specs.Frame.{Origin, Called, Entered, missed_after}
pub use Rattle.run_model.specs.Outside.{StandsIn}
pub use Rattle.run_model.proofs.OutsideLaws.{stands-move, stands-event, stands-reset}
pub use Rattle.service_outline.specs.declared.done.Epilogue.{Epilogue}
pub use Rattle.service_outline.specs.declared.done.Epilogue.TheVariants.{Nothing, One}
pub use Rattle.service_outline.specs.declared.done.BodyTaken.{BodyTaken}
pub use Rattle.service_outline.specs.declared.done.Done.{Done}
pub use Rattle.service_outline.specs.Acts.{Cleans}
pub use Rattle.service_outline.specs.Done.{goes, acts as acts_on, ends, owed_error}
pub use Rattle.service_outline.specs.laws.Acts.{never_clean}
pub use Rattle.service_outline.specs.laws.Reports.{error_told}
pub use Rattle.service_outline.specs.laws.SweepWords.{each_but}
pub use Rattle.service_outline.specs.Fuel.{Shortens}
pub use Rattle.service_outline.specs.Outline.{Bodies, At, Happens, AreRight, StepsTo, RightAt, TellsAs, error_in, notices_in, Before, Is_before, After, Is_after, Serving, Is_serving, Served, Is_served}
pub use Rattle.module_machines.specs.gpt.Checks.{error_by, service_of, allows, takes, answer_refused, has_value}
pub use Rattle.gpt_driver.specs.Refinement.{Lag, settled, none, only, open_at, behind, IsSet, TimerAgrees, BlockAgrees, Word, TheState, TargetOf, SwitchesOf, number_of, IsWord, state_word, value_in, WordsAgree, LinesAgree, GptRepresents, gpt_ground}
pub use Rattle.module_machines.specs.gpt.Bounds.{gpt_setting, gpt_may, gpt_owns, is_own_word, has_lines, is_for_lines, is_timer, may_name, may_write, owns_written}
pub use Rattle.module_machines.specs.gpt.Machine.{GptState, channel_at, table, fresh_state, first_state, Timing, Course, Never, Running, Stopped, Mode, Off, Normal, Sleep, untouched, is_off, is_asleep, elapsed, remaining, target_of, prescaler_of, runs, runs_at, is_busy, is_marked, started, stopped, unmarked, slept, slept_all, changed, with_channel, with_switches, all_channels, answers_number, notes, acts_by, ready, served, served_by, wakes, notifies, reporting, gpt_machine, switches}
pub use Rattle.module_machines.specs.gpt.Table.{channel_of, one_shot_of, is_one_shot, FitsGpt}
pub use Rattle.gpt_driver.specs.Words.{bit, target_word, switches_word, word_of as packed, switches_of}
pub use Rattle.module_machines.specs.declared.gpt.call.Call.{Call}
pub use Rattle.module_machines.specs.declared.gpt.call.Call.TheVariants.{Init, DeInit, SetMode, Channel as OfChannel}
pub use Rattle.module_machines.specs.declared.gpt.call.ChannelCall.{ChannelCall}
pub use Rattle.module_machines.specs.declared.gpt.call.ChannelCall.TheVariants.{GetTimeElapsed, GetTimeRemaining, StartTimer, StopTimer, Change as Changes}
pub use Rattle.module_machines.specs.declared.gpt.table.Channel.{Channel}
pub use Rattle.module_machines.specs.declared.gpt.table.GptTable.{GptTable}
pub use Rattle.module_machines.specs.declared.gpt.switches.Switches.{Switches}
pub use Rattle.gpt_driver.specs.declared.words.TheConstants.{STATE, TARGETS, LAST_WORD, LINES}
pub use Rattle.chip_blocks.specs.declared.timers.timer.Act.TheVariants.{Clear as Unflags, Start as Opens, Stop as Shuts, Zero as Zeroes}
pub use Rattle.gpt_driver.specs.declared.asked.Asked.{Asked}
pub use Rattle.module_machines.specs.declared.gpt.call.Change.{Change}
pub use Rattle.module_machines.specs.declared.gpt.call.Change.TheVariants.{Check, Notification, Wakeup}
pub use Rattle.module_machines.specs.declared.gpt.call.GptMode.TheVariants.{Normal as ToNormal, Sleep as ToSleep}
pub use Rattle.mcal_base.specs.declared.moves.Move.TheVariants.{Load, Read, Store, Write}
pub use Rattle.mcal_base.specs.declared.register.Reg.{Reg}
pub use Rattle.service_outline.specs.WindowHistory.{Plain, WindowHistory, SeesTo, Starts}
pub use Rattle.service_outline.specs.ShortServices.{driver_of}
pub use Rattle.mcal_base.specs.There.{names_there}
pub use Rattle.service_outline.specs.declared.body.Looked.{Looked}
pub use Rattle.service_outline.specs.declared.body.Looked.TheVariants.{Goes}
pub use Rattle.service_outline.specs.declared.body.Or.TheVariants.{First, Second}
use Rattle.service_outline.specs.Acts.{ActsRight}

-- ---- what holds of a call about a channel before it acts

-- it shows no error before it looks at a timer
abbrev pub Passed : GptTable → GptState → Call → Type 0
Passed d s call = error_by d call (is_off s.mode) (is_asleep s.mode) false ≡ None

-- one about a channel has none whatever runs
pub record MayRun (d : GptTable) (s : GptState) (c : ℕ) (call : ChannelCall) : Type 0 where
  pub pass : (busy : Bool) → error_by d (OfChannel c call) (is_off s.mode) (is_asleep s.mode) busy ≡ None
  pub on : is_off s.mode ≡ false
  pub lt : c < 8
  pub channel : Channel
  pub known : channel_of d c ≡ Some channel

-- ---- families of bodies

-- one of two, whichever is chosen
pub either_way : {A : Type 0} (P : A → Type 0) (q : Bool) (a b : A) → P a → P b → P (if q then a else b)
either_way P true a b x y = x
either_way P false a b x y = y

-- what happens leaves the timer block but for its time, and time goes on
foot_later : (d : GptTable) (chip : Chip) (order : Order) → (gpt_ground d).foot (happened chip order) ≡ (gpt_ground d).foot chip
foot_later d chip (Level p v) = level_leaves (λ c. (gpt_ground d).foot c) chip p v refl
foot_later d chip _ = refl

now_later : (w : World) (rate : ℕ) (order : Order) → w.now ≤ (world_after w rate order).now
now_later w rate (Tick n) = omega arith
now_later w rate _ = omega arith

-- what holds at every time from now on does so later
pub on_later : {P : Type 0} {Q : ℕ → Type 0} (now time : ℕ) → now ≤ time → P × ((n : ℕ) → now ≤ n → Q n) → P × ((n : ℕ) → time ≤ n → Q n)
on_later now time le h = (h.0, λ n more. h.1 n (omega (arith, le, more)))

module _ (d : GptTable) where
  -- bodies at whose places only what holds of timers and state counts, and bodies with something more that holds at every time from now on
  abbrev pub steady : {Body : Type 0} → (Body → Move) → (Body → ℕ → Body × BodyTaken) → (Body → ℕ) → (Body → Lag) → (Timers → GptState → Body → Origin Call → Option Told → Type 0) → Bodies (gpt_ground d) Body
  steady work takes fuel gap holds = record { work_of = work; takes = takes; fuel = fuel; gap_of = gap; clean = λ k. false; place = λ f w s k o t. holds f s k o t }

  abbrev pub timed : {Body : Type 0} → (Body → Move) → (Body → ℕ → Body × BodyTaken) → (Body → ℕ) → (Body → Lag) → (Body → Bool) → (Timers → GptState → Body → Origin Call → Option Told → Type 0) → (Timers → GptState → Body → ℕ → Type 0) → Bodies (gpt_ground d) Body
  timed work takes fuel gap clean holds stays = record { work_of = work; takes = takes; fuel = fuel; gap_of = gap; clean = clean; place = λ f w s k o t. holds f s k o t × ((time : ℕ) → w.now ≤ time → stays f s k time) }

  -- at each place a move that its frame may make, and a right step
  abbrev pub AllGood : {Body : Type 0} → Bodies (gpt_ground d) Body → Type 0
  AllGood {Body} b = (chip : Chip) (w : World) (s : GptState) (k : Body) (o : Origin Call) (t : Option Told) (m : ℕ → Bool) → At (gpt_ground d) b chip w s k o t → (gpt_may (b.work_of k) ≡ true) × RightAt (gpt_ground d) b chip w s k o t m

  -- bodies whose steps are good are right, where what holds at a place stays so while time passes
  pub all_right : {Body : Type 0} (b : Bodies (gpt_ground d) Body) → ((k : Body) (x : ℕ) → Shortens b.fuel k (b.takes k x)) → ((k : Body) (x : ℕ) → Cleans b.clean (b.work_of k) k (b.takes k x)) → ((f : Timers) (w w1 : World) (s : GptState) (k : Body) (o : Origin Call) (t : Option Told) → w.now ≤ w1.now → b.place f w s k o t → b.place f w1 s k o t) → AllGood b → AreRight (gpt_ground d) b
  all_right b shortens cleans later steps = record {
    own = λ chip w s k o t h. (steps chip w s k o t (λ l. false) h).0;
    steps = λ chip w s k o t m h. (steps chip w s k o t m h).1;
    later = λ chip w s order k o t free h. subst (λ f. b.place f (world_after w chip.clock.rate order) s k o t) (sym (foot_later d chip order)) (later ((gpt_ground d).foot chip) w (world_after w chip.clock.rate order) s k o t (now_later w chip.clock.rate order) h.1);
    shortens = shortens;
    cleans = cleans;
  }

  -- ---- events

  -- a call acts: what the machine does by its first error, which is this
  pub acts_so : {made : Move} {clean : Bool} {left : Option Done} {Then : GptState → Told → Type 0} (w : World) (s : GptState) (call : Call) {e : Option ErrorName} {s1 : GptState} {t : Told} → error_by d call (is_off s.mode) (is_asleep s.mode) (is_busy d w s call) ≡ e → acts_by d w s call e ≡ outcome s1 t → ActsRight (gpt_setting d) (Called call) Act clean made t left → Then s1 t → Happens (gpt_setting d) w s (Called call) made clean Act left Then
  acts_so w s call {s1 = s1} {t = t} first is acts next = record { own = tt; state = s1; told = t; is = λ times. ap (λ e. Some (acts_by d w s call e)) first ∙ ap (λ o. Some o) is; acts = acts; next = next }

  -- one that looked at the timers acts where it finds one busy
  pub finds_busy : {Body : Type 0} (b : Bodies (gpt_ground d) Body) (chip : Chip) (w : World) (s : GptState) (call : Call) (m : ℕ → Bool) (k : Body) (r : Epilogue) → answer_refused call ≡ no_answer → error_by d call (is_off s.mode) (is_asleep s.mode) (is_busy d w s call) ≡ Some GptBusy → r ≡ owed_error (reporting d) (service_of call) GptBusy → GptRepresents d settled chip w s → StepsTo (gpt_ground d) b chip w s (Called call) (Read TimerRun) true None m (k, ends (Some Act) no_answer r)
  finds_busy b chip w s call m k r none first is h = acts_so w s call first (ap (λ a. outcome s (record { answer = a; error = Some GptBusy; notices = [] })) none) (refl, refl) (h, subst (λ x. TellsAs (gpt_machine d) (Called call) (tells_error no_answer GptBusy) (record { answer = no_answer; owed = x })) (sym is) (error_told (gpt_machine d) call no_answer GptBusy))
