-- The watchdog's driver, as the outline and the runner see it, and that it owes nothing.
-- From Body, Look, service_outline: Reports, service_outline: Seen, RefinementRight.
-- Used by frames/rt, mcal_drivers: proofs/Hosting, mcal_drivers: Laws, caller/rt, Keeps and 3 more.
use Rattle.std.proofs.Common.{List, ◌≡◌, ℕ, ◌<◌, ◌≤◌, Bool, true, false, ◌==◌, not, nat_lt, Option, Some, None, refl, sym, ◌∙◌, ap, subst, arith}
use Rattle.std.specs.Prelude.{is_some}
use Rattle.std.proofs.lemmas.Bool.Decides.{nat_tests}
use Rattle.chip_model.specs.Chip.{Chip, word_of}
use Rattle.mcal_base.specs.declared.answer_name.AnswerName.TheVariants.{ENotOk}
use Rattle.mcal_base.specs.declared.config.wdg.WdgMode.{WdgMode}
use Rattle.mcal_base.specs.declared.config.wdg.WdgMode.TheVariants.{Off, Slow, Fast}
use Rattle.mcal_base.specs.declared.error_name.ErrorName.{ErrorName}
use Rattle.run_model.specs.World.{World}
use Rattle.run_model.specs.Machine.{named, answers, tells_error}
use Rattle.run_model.specs.Frame.{Open}
use Rattle.service_outline.specs.Outline.{Outlined, IsOutlined, LooksRight, Is_before}
use Rattle.service_outline.specs.WindowHistory.{Plain, is_windowed}
use Rattle.service_outline.specs.ShortServices.{driver_of}
use Rattle.service_outline.specs.declared.body.Looked.{Looked}
use Rattle.service_outline.specs.declared.short.Short.{Short}
use Rattle.service_outline.specs.laws.Reports.{error_told}
use Rattle.service_outline.specs.laws.Seen.{plain_sees}
use Rattle.module_machines.specs.wdg.Checks.{error_by, answer_refused}
use Rattle.wdg_driver.specs.Refinement.{settled, WdgRepresents, wdg_ground}
use Rattle.module_machines.specs.wdg.Machine.{WdgState, set_mode, set_timeout, acts_by, wdg_machine}
use Rattle.module_machines.specs.wdg.Table.{allows, FitsWdg}
use Rattle.wdg_driver.specs.Words.{mode_word, state_word, mode_in}
use Rattle.wdg_driver.specs.declared.asked.Asked.{Asked}
use Rattle.module_machines.specs.declared.wdg.call.Call.{Call}
use Rattle.module_machines.specs.declared.wdg.call.Call.TheVariants.{Init, SetMode, SetTriggerCondition}
use Rattle.module_machines.specs.declared.wdg.table.WdgTable.{WdgTable}
use Rattle.wdg_driver.specs.declared.service.WdgBody.{WdgBody}
use Rattle.wdg_driver.specs.declared.service.WdgBody.TheVariants.{Look, Start, KeepMode, KeepTimeout}
use Rattle.wdg_driver.specs.declared.words.TheConstants.{STATE}
use Rattle.wdg_driver.specs.laws.Body.{wdg_work, wdg_takes, wdg_bodies, narrow_is, bodies_right}
use Rattle.wdg_driver.specs.laws.RefinementRight.{ground_right}
use Rattle.wdg_driver.specs.laws.Look.{sets, begun_by, looked_by, wdg_looked}

-- the driver; any call may be made, and its body has at most four steps
abbrev pub wdg : WdgTable → Outlined WdgState Call Asked WdgBody
wdg d = record {
  basis = wdg_ground d;
  bodies = wdg_bodies d;
  seen = λ k. Plain;
  fits = FitsWdg d;
  can = λ call. Unit {0};
  word = STATE;
  asked = λ call. record { call = call; driver = d };
  looked = wdg_looked;
  most = λ q. 4;
  body_of = λ line. None;
}

plain : (k : WdgBody) → is_windowed (wdg_work k) ≡ false
plain (Look m) = refl
plain (Start x a) = refl
plain (KeepMode x a) = refl
plain (KeepTimeout x a) = refl

-- ---- what the load of the state word decides

mode_again : (m : WdgMode) → mode_in (mode_word m) ≡ m
mode_again Off = refl
mode_again Slow = refl
mode_again Fast = refl

off_word : (m : Option WdgMode) → (state_word m == 0) ≡ not (is_some m)
off_word None = refl
off_word (Some Off) = refl
off_word (Some Slow) = refl
off_word (Some Fast) = refl

-- a call without an error names a mode, and of an initialised module a timeout of at most the largest
no_mode : (d : WdgTable) (u : Bool) → error_by d (SetMode None) u ≡ None → ⊥
no_mode d true e = cc
no_mode d false e = cc

few_ticks : (d : WdgTable) (n : ℕ) (u q : Bool) → nat_lt d.max_ticks n ≡ q → error_by d (SetTriggerCondition n) u ≡ None → (u ≡ false) × (q ≡ false)
few_ticks d n true q e h = absurd (cc)
few_ticks d n false true e h = absurd (let f = ap (λ b. b) e in cc)
few_ticks d n false false e h = (refl, refl)

module _ (d : WdgTable) (fits : FitsWdg d) (chip : Chip) (w : World) (s : WdgState) (h : WdgRepresents settled chip w s) where
  abbrev Looks : Call → Looked WdgBody → Type 0
  Looks call l = LooksRight (wdg d) chip w s call l

  set_by : (m : WdgMode) → error_by d (SetMode (Some m)) (not (is_some s.mode)) ≡ None → (q : Bool) → allows d m ≡ q → Looks (SetMode (Some m)) (sets m q)
  set_by m pass true e = ((h, (Is_before, record { pass = pass; allowed = e })), omega arith)
  set_by m pass false e = record { told = answers (named ENotOk); is = λ times. ap (λ x. Some (acts_by d w s (SetMode (Some m)) x)) pass ∙ ap (λ q. Some (set_mode w s m q)) e; tells = (refl, refl, refl) }

  timed_by : (n : ℕ) (m : Option WdgMode) → s.mode ≡ m → n < 65536 → not (is_some s.mode) ≡ false → error_by d (SetTriggerCondition n) (not (is_some s.mode)) ≡ None → Looks (SetTriggerCondition n) (begun_by d (SetTriggerCondition n) (state_word m))
  timed_by n None is few on pass = absurd (let f : not (is_some s.mode) ≡ true = ap (λ x. not (is_some x)) is in cc)
  timed_by n (Some m) is few on pass = (
    (
      h,
      (
        SetTriggerCondition n,
        Is_before,
        record {
          is = λ v. ap (λ x. acts_by d v s (SetTriggerCondition n) x) pass ∙ ap (λ x. set_timeout v s n x) (is ∙ ap (λ y. Some y) (sym (mode_again m))) ∙ ap (λ k. set_timeout v s k (Some (mode_in (mode_word m)))) (sym (narrow_is n few));
          few = subst (λ k. k < 65536) (sym (narrow_is n few)) few;
        },
      ),
    ),
    omega arith,
  )

  goes_on : (call : Call) → error_by d call (not (is_some s.mode)) ≡ None → Looks call (begun_by d call (state_word s.mode))
  goes_on Init pass = ((h, (Init, Is_before, record { is = λ v. refl; few = fits.initial })), omega arith)
  goes_on (SetMode None) pass = absurd (no_mode d (not (is_some s.mode)) pass)
  goes_on (SetMode (Some m)) pass = set_by m pass (allows d m) refl
  goes_on (SetTriggerCondition n) pass =
      let most = few_ticks d n (not (is_some s.mode)) (nat_lt d.max_ticks n) refl pass in
      let few : n < 65536 = grind (arith, nat_tests, most.1, fits.most) in
      timed_by n s.mode refl few most.0 pass

  look_by : (call : Call) (e : Option ErrorName) → error_by d call (not (is_some s.mode)) ≡ e → Looks call (looked_by (record { call = call; driver = d }) (state_word s.mode) e)
  look_by call None e = goes_on call e
  look_by call (Some x) e = record { told = tells_error (answer_refused call) x; is = λ times. ap (λ y. Some (acts_by d w s call y)) e; tells = error_told (wdg_machine d) call (answer_refused call) x }

  asked_word : (call : Call) → wdg_looked (record { call = call; driver = d }) (state_word s.mode) ≡ looked_by (record { call = call; driver = d }) (state_word s.mode) (error_by d call (not (is_some s.mode)))
  asked_word call = ap (λ u. looked_by (record { call = call; driver = d }) (state_word s.mode) (error_by d call u)) (off_word s.mode)

  pub looks : (call : Call) → Looks call (wdg_looked (record { call = call; driver = d }) (word_of chip STATE))
  looks call = subst (λ x. Looks call (wdg_looked (record { call = call; driver = d }) x)) (sym (h.mode refl)) (subst (λ l. Looks call l) (sym (asked_word call)) (look_by call (error_by d call (not (is_some s.mode))) refl))

-- ---- the laws

pub lawful : (d : WdgTable) → FitsWdg d → IsOutlined (wdg d)
lawful d fits = record {
  basis = ground_right d;
  bodies = bodies_right d;
  windows = λ chip w s k o t h. let p = wdg_takes k _ in plain_sees true (wdg_work k) p.1.event p.1.done (plain k);
  unseen = λ chip w s k call h. tt;
  looks = λ chip w s call can h. looks d fits chip w s h call;
  own_word = λ o. refl;
  word_there = omega arith;
  handled = λ line. refl;
  enters = λ line k is. absurd (cc);
  call_steps = λ call can. omega arith;
  call_window = λ call can. omega arith;
  must_none = λ call. refl;
  units_none = λ w s line. refl;
  line_steps = λ line k is. absurd (cc);
}

-- it leaves the peripheral rate alone
pub slow_watchdog : (d : WdgTable) (chip : Chip) (w : World) (ps : List (Short Asked WdgBody × Open Call)) (s : WdgState) → FitsWdg d → (driver_of (wdg d)).relates chip w ps s → (driver_of (wdg d)).setting.machine.rate s ≤ 16
slow_watchdog d chip w ps s fits h = omega arith
