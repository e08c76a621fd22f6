-- The services of the watchdog: their steps, what holds at each, and that they are right.
-- From service_outline: Words, service_outline: Acts, RefinementRight.
-- Used by Lawful, service/rt.
use Rattle.std.proofs.Common.{◌≡◌, ℕ, ◌<◌, Bool, true, false, not, Option, Some, None, refl, sym, ◌∙◌, ap, subst, arith}
use Rattle.std.specs.Prelude.{if◌then◌else◌, is_some}
use Rattle.std.proofs.lemmas.Bool.{lt-ltb}
use Rattle.chip_model.specs.Chip.{Chip, chip_after, word_of}
use Rattle.chip_blocks.specs.units.Watchdogs.{loaded}
use Rattle.mcal_base.specs.declared.answer.Answer.{Answer}
use Rattle.mcal_base.specs.declared.answer_name.AnswerName.TheVariants.{EOk}
use Rattle.mcal_base.specs.declared.config.wdg.WdgMode.{WdgMode}
use Rattle.mcal_base.specs.declared.moves.Move.{Move}
use Rattle.mcal_base.specs.declared.moves.Move.TheVariants.{Write, Load, Store}
use Rattle.mcal_base.specs.declared.register.Reg.TheVariants.{WatchdogLoad}
use Rattle.run_model.specs.World.{World}
use Rattle.run_model.specs.Machine.{Told, no_answer, outcome, named, answers}
use Rattle.run_model.specs.Frame.{Origin}
use Rattle.run_model.proofs.OutsideLaws.{stands-move}
use Rattle.service_outline.specs.Done.{goes, acts as acts_on, ends}
use Rattle.service_outline.specs.Fuel.{Shortens}
use Rattle.service_outline.specs.Outline.{Bodies, At, RightAt, AreRight, Before, Is_before, After, Is_after}
use Rattle.service_outline.specs.declared.done.BodyTaken.{BodyTaken}
use Rattle.service_outline.specs.declared.done.Epilogue.TheVariants.{Nothing}
use Rattle.service_outline.specs.laws.Acts.{never_clean}
use Rattle.service_outline.specs.laws.Words.{stored_same, stored_other}
use Rattle.module_machines.specs.wdg.Bounds.{may}
use Rattle.module_machines.specs.wdg.Checks.{error_by}
use Rattle.wdg_driver.specs.Refinement.{Lag, settled, both_behind, timeout_behind, WatchRepresents, WdgRepresents, wdg_ground}
use Rattle.module_machines.specs.wdg.Machine.{WdgState, started, set_mode, acts_by, acts}
use Rattle.module_machines.specs.wdg.Table.{allows}
use Rattle.module_machines.specs.wdg.Numbers.{narrow}
use Rattle.wdg_driver.specs.Words.{mode_word, state_word, load_of}
use Rattle.module_machines.specs.declared.wdg.call.Call.{Call}
use Rattle.module_machines.specs.declared.wdg.call.Call.TheVariants.{SetMode}
use Rattle.module_machines.specs.declared.wdg.table.WdgTable.{WdgTable}
use Rattle.wdg_driver.specs.declared.service.Says.{Says}
use Rattle.wdg_driver.specs.declared.service.Says.TheVariants.{Silent, Accepted}
use Rattle.wdg_driver.specs.declared.service.WdgBody.{WdgBody}
use Rattle.wdg_driver.specs.declared.service.WdgBody.TheVariants.{Look, Start, KeepMode, KeepTimeout}
use Rattle.module_machines.specs.declared.wdg.table.Timing.{Timing}
use Rattle.wdg_driver.specs.declared.words.TheConstants.{STATE, TIMEOUT}
use Rattle.wdg_driver.specs.laws.RefinementRight.{loaded_agrees}

-- what a call answers that has started the watchdog
abbrev pub answer_of : Says → Answer
answer_of Silent = no_answer
answer_of Accepted = named EOk

abbrev pub wdg_work : WdgBody → Move
wdg_work (Look m) = Load TIMEOUT
wdg_work (Start x a) = Write WatchdogLoad (load_of x)
wdg_work (KeepMode x a) = Store STATE (mode_word x.mode)
wdg_work (KeepTimeout x a) = Store TIMEOUT x.timeout

abbrev pub wdg_takes : WdgBody → ℕ → WdgBody × BodyTaken
wdg_takes (Look m) v = (Start (record { mode = m; timeout = narrow v }) Accepted, goes)
wdg_takes (Start x a) v = (KeepMode x a, acts_on)
wdg_takes (KeepMode x a) v = (KeepTimeout x a, goes)
wdg_takes (KeepTimeout x a) v = (KeepTimeout x a, ends None (answer_of a) Nothing)

abbrev pub wdg_left : WdgBody → ℕ
wdg_left (Look m) = 4
wdg_left (Start x a) = 3
wdg_left (KeepMode x a) = 2
wdg_left (KeepTimeout x a) = 1

-- the words are behind from the act on
abbrev pub wdg_gap : WdgBody → Lag
wdg_gap (Look m) = settled
wdg_gap (Start x a) = settled
wdg_gap (KeepMode x a) = both_behind
wdg_gap (KeepTimeout x a) = timeout_behind

-- the call starts the watchdog with this, whenever it acts
pub record IsStart (d : WdgTable) (s : WdgState) (x : Timing) (a : Says) (call : Call) : Type 0 where
  pub is : (w : World) → acts d w s call ≡ outcome (started w x.mode x.timeout) (answers (answer_of a))
  pub few : x.timeout < 65536

-- the watchdog was started with this
pub record IsKept (s : WdgState) (x : Timing) : Type 0 where
  pub mode : s.mode ≡ Some x.mode
  pub timeout : s.timeout ≡ x.timeout

-- the call sets a mode that it may set
pub record IsSetting (d : WdgTable) (s : WdgState) (m : WdgMode) : Type 0 where
  pub pass : error_by d (SetMode (Some m)) (not (is_some s.mode)) ≡ None
  pub allowed : allows d m ≡ true

abbrev pub wdg_holds : WdgTable → WdgState → WdgBody → Origin Call → Option Told → Type 0
wdg_holds d s (Look m) o t = Before (SetMode (Some m)) o t × IsSetting d s m
wdg_holds d s (Start x a) o t = (call : Call) × Before call o t × IsStart d s x a call
wdg_holds d s (KeepMode x a) o t = (call : Call) × After call (answers (answer_of a)) o t × IsKept s x
wdg_holds d s (KeepTimeout x a) o t = (call : Call) × After call (answers (answer_of a)) o t × IsKept s x

abbrev pub wdg_bodies : (d : WdgTable) → Bodies (wdg_ground d) WdgBody
wdg_bodies d = record { work_of = wdg_work; takes = wdg_takes; fuel = wdg_left; gap_of = wdg_gap; clean = λ k. false; place = λ f w s k o t. wdg_holds d s k o t }

shortens : (k : WdgBody) (v : ℕ) → Shortens wdg_left k (wdg_takes k v)
shortens (Look m) v = omega arith
shortens (Start x a) v = omega arith
shortens (KeepMode x a) v = omega arith
shortens (KeepTimeout x a) v = omega arith

pub narrow_is : (n : ℕ) → n < 65536 → narrow n ≡ n
narrow_is n lt = ap (λ q. if q then n else 0) (lt-ltb n 65536 lt)

-- ---- what the moves leave

-- the watchdog starts: the words are behind
loaded_now : (chip : Chip) (w : World) (s : WdgState) (x : Timing) → x.timeout < 65536 → WdgRepresents settled chip w s → WdgRepresents both_behind (chip_after chip (Write WatchdogLoad (load_of x)) 0) w (started w x.mode x.timeout)
loaded_now chip w s x few h = record {
  outside = stands-move chip w (Write WatchdogLoad (load_of x)) 0 h.outside;
  watch = subst (λ osc. WatchRepresents w.osc (loaded osc (load_of x)) (started w x.mode x.timeout).deadline) (sym h.outside.osc) (loaded_agrees w.osc x.timeout x.mode);
  mode = λ e. absurd (cc);
  timeout = λ e. absurd (cc);
  few = few;
}

mode_kept : (chip : Chip) (w : World) (s : WdgState) (m : WdgMode) → s.mode ≡ Some m → WdgRepresents both_behind chip w s → WdgRepresents timeout_behind (chip_after chip (Store STATE (mode_word m)) 0) w s
mode_kept chip w s m is h = record {
  outside = stands-move chip w (Store STATE (mode_word m)) 0 h.outside;
  watch = h.watch;
  mode = λ e. stored_same chip STATE (mode_word m) 0 (omega arith) h.outside.all.words ∙ ap state_word (sym is);
  timeout = λ e. absurd (cc);
  few = h.few;
}

timeout_kept : (chip : Chip) (w : World) (s : WdgState) (n : ℕ) → s.timeout ≡ n → WdgRepresents timeout_behind chip w s → WdgRepresents settled (chip_after chip (Store TIMEOUT n) 0) w s
timeout_kept chip w s n is h = record {
  outside = stands-move chip w (Store TIMEOUT n) 0 h.outside;
  watch = h.watch;
  mode = λ e. stored_other chip TIMEOUT n 0 STATE (omega arith) ∙ h.mode refl;
  timeout = λ e. stored_same chip TIMEOUT n 0 (omega arith) h.outside.all.words ∙ sym is;
  few = h.few;
}

module _ (d : WdgTable) where
  -- the timeout that stands in its word
  set_is : (chip : Chip) (w : World) (s : WdgState) (m : WdgMode) → IsSetting d s m → WdgRepresents settled chip w s → IsStart d s (record { mode = m; timeout = narrow (word_of chip TIMEOUT) }) Accepted (SetMode (Some m))
  set_is chip w s m i h =
      let same : narrow (word_of chip TIMEOUT) ≡ s.timeout = ap narrow (h.timeout refl) ∙ narrow_is s.timeout h.few in
      record {
        is = λ v. ap (λ e. acts_by d v s (SetMode (Some m)) e) i.pass ∙ ap (λ q. set_mode v s m q) i.allowed ∙ ap (λ n. outcome (started v m n) (answers (named EOk))) (sym same);
        few = subst (λ n. n < 65536) (sym same) h.few;
      }

  own : (k : WdgBody) → may (wdg_work k) ≡ true
  own (Look m) = refl
  own (Start x a) = refl
  own (KeepMode x a) = refl
  own (KeepTimeout x a) = refl

  steps : (chip : Chip) (w : World) (s : WdgState) (k : WdgBody) (o : Origin Call) (t : Option Told) (m : ℕ → Bool) → At (wdg_ground d) (wdg_bodies d) chip w s k o t → RightAt (wdg_ground d) (wdg_bodies d) chip w s k o t m
  steps chip w s (Look mode) o t m (h, (Is_before, i)) = (h, (SetMode (Some mode), Is_before, set_is chip w s mode i h))
  steps chip w s (Start x a) o t m (h, (call, Is_before, i)) = record {
    own = tt;
    state = started w x.mode x.timeout;
    told = answers (answer_of a);
    is = λ brought. ap (λ out. Some out) (i.is w);
    acts = tt;
    next = (loaded_now chip w s x i.few h, (call, Is_after, record { mode = refl; timeout = refl }));
  }
  steps chip w s (KeepMode x a) o t m (h, (call, Is_after, i)) = (mode_kept chip w s x.mode i.mode h, (call, Is_after, i))
  steps chip w s (KeepTimeout x a) o t m (h, (call, Is_after, i)) = (timeout_kept chip w s x.timeout i.timeout h, (refl, refl, refl))

  pub bodies_right : AreRight (wdg_ground d) (wdg_bodies d)
  bodies_right = record {
    own = λ chip w s k o t h. own k;
    steps = steps;
    later = λ chip w s order k o t free h. h.1;
    shortens = shortens;
    cleans = λ k v. never_clean (wdg_work k) k (wdg_takes k v);
  }
