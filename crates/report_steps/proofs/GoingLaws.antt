-- Steps of the top frame are taken off a block one after another: what is read so is what it says.
use Rattle.std.proofs.Common.{◌≡◌, ℕ, ◌+◌, Bool, true, false, ◌&&◌, ◌||◌, List, [], ◌∷◌, ◌++◌, length, Some, refl, sym, ◌∙◌, ap, subst, arith}
use Rattle.std.proofs.lemmas.List.{append-nil}
use Rattle.std.proofs.lemmas.List.Sums.{sum_by-cons}
use Rattle.std.specs.Prelude.{cond, count_by, is_some}
use Rattle.bench_report.specs.Lines.{Line, Makes, Waits, Restarts, Done}
use Rattle.bench_report.specs.Report.{is_error, is_hold, is_leave, is_note, is_return}
use Rattle.bench_report.specs.declared.frames.Purpose.{Purpose}
use Rattle.bench_report.specs.declared.tally.Tally.{Tally}
use Rattle.chip_model.specs.Chip.{wait_on}
use Rattle.mcal_base.specs.declared.directive.Order.TheVariants.{Tick}
use Rattle.mcal_base.specs.declared.directive.Reason.TheVariants.{Software, Watchdog}
use Rattle.mcal_base.specs.facts.Truths.{off_on}
use Rattle.run_model.specs.Follows.{ends_within, is_reached}
use Rattle.run_model.specs.Frame.{resets_chip}
use Rattle.run_model.specs.Moment.{Moment, Setting, Steps, Happens, Resets, after}
use Rattle.run_model.specs.declared.item.Stepped.{Stepped}
use Rattle.run_model.specs.declared.stop_condition.StopCondition.{StopCondition}
use Rattle.report_text.specs.reading.Blocks.{counted, printed}
use Rattle.report_text.specs.reading.Steps.{Comes, PrintsSteps, StepComes, WaitComes, AtOnce, Awaited, LastStep, ResetStep, MoreSteps, RunsOut, done_behind, is_silent, lines_at}
use Rattle.report_steps.specs.Going.{ok_where}
use Rattle.report_steps.specs.StepRules.{NoEnd, lines_behind}
use Rattle.report_steps.proofs.StepMade.{same_tally}

-- ---- what isn't counted

none_before : (n : ℕ) → 0 + n ≡ n
none_before n = omega arith

-- a line that isn't of a kind isn't counted among it
pub not_counted : (p : Line → Bool) (l : Line) (ls : List Line) → p l ≡ false → count_by p (l ∷ ls) ≡ count_by p ls
not_counted p l ls e = sum_by-cons (λ (x : Line). cond (p x) 1 0) l ls ∙ (ap (λ (b : Bool). cond b 1 0 + count_by p ls) e ∙ none_before (count_by p ls))

pub makes_uncounted : (t : Tally) (l : Line) (ls : List Line) → is_return l ≡ false → is_leave l ≡ false → is_hold l ≡ false → is_error l ≡ false → is_note l ≡ false → counted t (l ∷ ls) ≡ counted t ls
makes_uncounted t l ls r v h e n =
    same_tally (counted t (l ∷ ls)) _ _ _ _ _
    (ap (λ (k : ℕ). t.calls + k) (not_counted is_return l ls r))
    (ap (λ (k : ℕ). t.handlers + k) (not_counted is_leave l ls v))
    (ap (λ (k : ℕ). t.held + k) (not_counted is_hold l ls h))
    (ap (λ (k : ℕ). t.errors + k) (not_counted is_error l ls e))
    (ap (λ (k : ℕ). t.notes + k) (not_counted is_note l ls n))

-- no line counts nothing
none_counted : (n : ℕ) → n ≡ n + 0
none_counted n = omega arith

pub counted_none : (t : Tally) → t ≡ counted t []
counted_none t = same_tally t _ _ _ _ _ (none_counted t.calls) (none_counted t.handlers) (none_counted t.held) (none_counted t.errors) (none_counted t.notes)

pub counted_ok : (t : Tally) → t ≡ counted t (Done ∷ [])
counted_ok t = counted_none t ∙ sym (makes_uncounted t Done [] refl refl refl refl refl)

module _ {State Call : Type 0} (g : Setting State Call) where
  -- of the lines of a step those behind its own are
  pub step_counted : {m at : Moment State Call} {s : Stepped} {waits : List Line} (t : Tally) (frames : List Purpose) → StepComes g m s at waits → counted t (waits ++ lines_at at frames s) ≡ counted t (lines_behind frames s)
  step_counted {m} {at} {s} {waits} t frames (AtOnce fits comes) = makes_uncounted t (Makes (length m.opens) s.made s.value s.received s.event) (lines_behind frames s) refl refl refl refl refl
  step_counted {m} {at} {s} {waits} t frames (Awaited unit ticks comes is goes awaits fits step) =
      makes_uncounted t (Waits ticks) (lines_at at frames s) refl refl refl refl refl
      ∙ makes_uncounted t (Makes (length at.opens) s.made s.value s.received s.event) (lines_behind frames s) refl refl refl refl refl

  -- ---- what comes behind a step

  -- no line of an end stands at the front of more steps
  front_of : {m at : Moment State Call} {s : Stepped} {waits : List Line} (frames : List Purpose) (more : List Line) → StepComes g m s at waits → NoEnd ((waits ++ lines_at at frames s) ++ more)
  front_of frames more (AtOnce fits comes) = refl
  front_of frames more (Awaited unit ticks comes is goes awaits fits step) = refl

  behind_done : {m at : Moment State Call} {s : Stepped} {waits : List Line} (silent b : Bool) (frames : List Purpose) → StepComes g m s at waits → NoEnd (cond b ((waits ++ lines_at at frames s) ++ Done ∷ []) (waits ++ lines_at at frames s))
  behind_done silent true frames comes = front_of frames (Done ∷ []) comes
  behind_done silent false frames (AtOnce fits comes) = refl
  behind_done silent false frames (Awaited unit ticks comes is goes awaits fits step) = refl

  pub no_end : {reach : StopCondition} {made : ℕ} {silent : Bool} {m : Moment State Call} {frames : List Purpose} {lines : List Line} {last : Moment State Call} {left : List Purpose}
      → PrintsSteps g reach made silent m frames lines last left → NoEnd lines
  no_end {silent = silent} {frames = frames} (LastStep s at waits comes resets stops) = behind_done silent (silent && is_silent (waits ++ lines_at at frames s)) frames comes
  no_end {frames = frames} (ResetStep s at waits comes resets reset) = front_of frames _ comes
  no_end {frames = frames} (MoreSteps s at waits rest comes resets stops more) = front_of frames rest comes
  no_end (RunsOut unit ticks waits ends left comes) = refl

-- ---- ok behind lines

ok_by : (b : Bool) (ls : List Line) → cond b (ls ++ Done ∷ []) ls ≡ ls ++ ok_where b
ok_by true ls = refl
ok_by false ls = sym (append-nil ls)

pub ok_behind : (silent : Bool) (ls : List Line) → done_behind silent ls ≡ ls ++ ok_where (silent && is_silent ls)
ok_behind silent ls = ok_by (silent && is_silent ls) ls

pub ok_no_end : (b : Bool) → NoEnd (ok_where b)
ok_no_end true = refl
ok_no_end false = tt

-- ---- what came is what the lines say

module _ {State Call : Type 0} (g : Setting State Call) (reach : StopCondition) (number : ℕ) (text : List ℕ) (m : Moment State Call) (frames : List Purpose) (s : Stepped) (at : Moment State Call) (waits : List Line)
    (only : (s1 : Stepped) (at1 : Moment State Call) (waits1 more : List Line) → StepComes g m s1 at1 waits1 → NoEnd more → text ≡ printed number ((waits1 ++ lines_at at1 frames s1) ++ more) → (s1 ≡ s) × (at1 ≡ at) × (waits1 ≡ waits))
    (goes : (unit ticks : ℕ) → WaitComes g m unit ticks → ends_within (wait_on m.chip unit) (g.machine.expires m.world m.state) ≡ true → g.machine.expires m.world m.state ≡ Some ticks
    → Comes g (after g m (Happens (Tick ticks))) (Resets Watchdog) → text ≡ printed number (Restarts Watchdog (length m.opens) ∷ []) → ⊥) where
  -- more steps behind this one
  pub record MoreBehind (count : ℕ) (silent : Bool) (lines : List Line) (last : Moment State Call) (left : List Purpose) : Type 0 where
    pub rest : List Line
    pub is : lines ≡ (waits ++ lines_at at frames s) ++ rest
    pub steps : PrintsSteps g reach (count + 1) (silent && is_silent (waits ++ lines_at at frames s)) (after g at (Steps s)) frames rest last left

  stopped : (count : ℕ) (s1 : Stepped) → s1 ≡ s → is_some s.ended || is_reached reach (count + 1) s ≡ false → is_some s1.ended || is_reached reach (count + 1) s1 ≡ true → ⊥
  stopped count s1 same off on = off_on (sym off ∙ (ap (λ (x : Stepped). is_some x.ended || is_reached reach (count + 1) x) (sym same) ∙ on))

  goes_on : (count : ℕ) (s1 : Stepped) → s1 ≡ s → is_some s.ended || is_reached reach (count + 1) s ≡ true → is_some s1.ended || is_reached reach (count + 1) s1 ≡ false → ⊥
  goes_on count s1 same on off = off_on (sym off ∙ (ap (λ (x : Stepped). is_some x.ended || is_reached reach (count + 1) x) same ∙ on))

  reset : (s1 : Stepped) → s1 ≡ s → resets_chip s.made ≡ false → resets_chip s1.made ≡ true → ⊥
  reset s1 same off on = off_on (sym off ∙ (ap (λ (x : Stepped). resets_chip x.made) (sym same) ∙ on))

  -- it resets the chip, where the one that is read doesn't
  resets_not : (s1 : Stepped) → s1 ≡ s → resets_chip s.made ≡ true → resets_chip s1.made ≡ false → ⊥
  resets_not s1 same on off = off_on (sym off ∙ (ap (λ (x : Stepped). resets_chip x.made) same ∙ on))

  same_more : (count : ℕ) (silent : Bool) (lines : List Line) (last : Moment State Call) (left : List Purpose) (s1 : Stepped) (at1 : Moment State Call) (waits1 rest : List Line) → s1 ≡ s → at1 ≡ at → waits1 ≡ waits
      → lines ≡ (waits1 ++ lines_at at1 frames s1) ++ rest → PrintsSteps g reach (count + 1) (silent && is_silent (waits1 ++ lines_at at1 frames s1)) (after g at1 (Steps s1)) frames rest last left
      → MoreBehind count silent lines last left
  same_more count silent lines last left s1 at1 waits1 rest es ea ew is steps = record {
    rest = rest;
    is = is ∙ (ap (λ x. (waits1 ++ lines_at at1 frames x) ++ rest) es ∙ (ap (λ x. (waits1 ++ lines_at x frames s) ++ rest) ea ∙ ap (λ x. (x ++ lines_at at frames s) ++ rest) ew));
    steps =
        subst (λ x. PrintsSteps g reach (count + 1) (silent && is_silent (x ++ lines_at at frames s)) (after g at (Steps s)) frames rest last left) ew
        (subst (λ x. PrintsSteps g reach (count + 1) (silent && is_silent (waits1 ++ lines_at x frames s)) (after g x (Steps s)) frames rest last left) ea
        (subst (λ x. PrintsSteps g reach (count + 1) (silent && is_silent (waits1 ++ lines_at at1 frames x)) (after g at1 (Steps x)) frames rest last left) es steps));
  }

  -- where it isn't the last one
  pub more_behind : {count : ℕ} {silent : Bool} {lines : List Line} {last : Moment State Call} {left : List Purpose} → resets_chip s.made ≡ false → is_some s.ended || is_reached reach (count + 1) s ≡ false
      → PrintsSteps g reach count silent m frames lines last left → text ≡ printed number lines → MoreBehind count silent lines last left
  more_behind {count} {silent} no_reset no_stop (LastStep s1 at1 waits1 comes resets stops) e =
      absurd (stopped count s1 (only s1 at1 waits1 (ok_where (silent && is_silent (waits1 ++ lines_at at1 frames s1))) comes (ok_no_end (silent && is_silent (waits1 ++ lines_at at1 frames s1)))
      (e ∙ ap (printed number) (ok_behind silent (waits1 ++ lines_at at1 frames s1)))).0 no_stop stops)
  more_behind no_reset no_stop (ResetStep s1 at1 waits1 comes resets restart) e = absurd (reset s1 (only s1 at1 waits1 (Restarts Software (length (after g at1 (Steps s1)).opens) ∷ []) comes refl e).0 no_reset resets)
  more_behind {count} {silent} {lines} {last} {left} no_reset no_stop (MoreSteps s1 at1 waits1 rest comes resets stops more) e =
      let same = only s1 at1 waits1 rest comes (no_end g more) e in
      same_more count silent lines last left s1 at1 waits1 rest same.0 same.1 same.2 refl more
  more_behind no_reset no_stop (RunsOut unit ticks waits1 ends left1 comes) e = absurd (goes unit ticks waits1 ends left1 comes e)

  -- the last step with ok behind it, where it is the last one
  pub record LastBehind (count : ℕ) (silent : Bool) (lines : List Line) (last : Moment State Call) (left : List Purpose) : Type 0 where
    pub is : lines ≡ (waits ++ lines_at at frames s) ++ ok_where (silent && is_silent (waits ++ lines_at at frames s))

  pub last_behind : {count : ℕ} {silent : Bool} {lines : List Line} {last : Moment State Call} {left : List Purpose} → resets_chip s.made ≡ false → is_some s.ended || is_reached reach (count + 1) s ≡ true
      → PrintsSteps g reach count silent m frames lines last left → text ≡ printed number lines → LastBehind count silent lines last left
  last_behind {count} {silent} no_reset stop (LastStep s1 at1 waits1 comes resets stops) e =
      let q = silent && is_silent (waits1 ++ lines_at at1 frames s1) in
      let same = only s1 at1 waits1 (ok_where q) comes (ok_no_end q) (e ∙ ap (printed number) (ok_behind silent (waits1 ++ lines_at at1 frames s1))) in
      record {
        is = ok_behind silent (waits1 ++ lines_at at1 frames s1)
            ∙ (ap (λ x. (waits1 ++ lines_at at1 frames x) ++ ok_where (silent && is_silent (waits1 ++ lines_at at1 frames x))) same.0
            ∙ (ap (λ x. (waits1 ++ lines_at x frames s) ++ ok_where (silent && is_silent (waits1 ++ lines_at x frames s))) same.1
            ∙ ap (λ x. (x ++ lines_at at frames s) ++ ok_where (silent && is_silent (x ++ lines_at at frames s))) same.2));
      }
  last_behind no_reset stop (ResetStep s1 at1 waits1 comes resets restart) e = absurd (reset s1 (only s1 at1 waits1 (Restarts Software (length (after g at1 (Steps s1)).opens) ∷ []) comes refl e).0 no_reset resets)
  last_behind {count} no_reset stop (MoreSteps s1 at1 waits1 rest comes resets stops more) e =
      absurd (goes_on count s1 (only s1 at1 waits1 rest comes (no_end g more) e).0 stop stops)
  last_behind no_reset stop (RunsOut unit ticks waits1 ends left1 comes) e = absurd (goes unit ticks waits1 ends left1 comes e)

  -- a step that resets the chip, and the line of that
  pub record ResetBehind (lines : List Line) (last : Moment State Call) (left : List Purpose) : Type 0 where
    pub is : lines ≡ (waits ++ lines_at at frames s) ++ Restarts Software (length (after g at (Steps s)).opens) ∷ []
    pub comes : Comes g (after g at (Steps s)) (Resets Software)
    pub leads : last ≡ after g (after g at (Steps s)) (Resets Software)
    pub none : left ≡ []

  by_same : (s1 : Stepped) (at1 : Moment State Call) (waits1 : List Line) → s1 ≡ s → at1 ≡ at → waits1 ≡ waits → Comes g (after g at1 (Steps s1)) (Resets Software)
      → ResetBehind ((waits1 ++ lines_at at1 frames s1) ++ Restarts Software (length (after g at1 (Steps s1)).opens) ∷ []) (after g (after g at1 (Steps s1)) (Resets Software)) []
  by_same s1 at1 waits1 es ea ew comes =
      subst (λ x. ResetBehind ((x ++ lines_at at1 frames s1) ++ Restarts Software (length (after g at1 (Steps s1)).opens) ∷ []) (after g (after g at1 (Steps s1)) (Resets Software)) []) (sym ew)
      (subst (λ x. ResetBehind ((waits ++ lines_at x frames s1) ++ Restarts Software (length (after g x (Steps s1)).opens) ∷ []) (after g (after g x (Steps s1)) (Resets Software)) []) (sym ea)
      (subst (λ x. ResetBehind ((waits ++ lines_at at frames x) ++ Restarts Software (length (after g at (Steps x)).opens) ∷ []) (after g (after g at (Steps x)) (Resets Software)) []) (sym es)
      (record { is = refl; comes = subst (λ x. Comes g (after g at (Steps x)) (Resets Software)) es (subst (λ x. Comes g (after g x (Steps s1)) (Resets Software)) ea comes); leads = refl; none = refl })))

  pub reset_behind : {count : ℕ} {silent : Bool} {lines : List Line} {last : Moment State Call} {left : List Purpose} → resets_chip s.made ≡ true
      → PrintsSteps g reach count silent m frames lines last left → text ≡ printed number lines → ResetBehind lines last left
  reset_behind {count} {silent} on (LastStep s1 at1 waits1 comes resets stops) e =
      absurd (resets_not s1 (only s1 at1 waits1 (ok_where (silent && is_silent (waits1 ++ lines_at at1 frames s1))) comes (ok_no_end (silent && is_silent (waits1 ++ lines_at at1 frames s1)))
      (e ∙ ap (printed number) (ok_behind silent (waits1 ++ lines_at at1 frames s1)))).0 on resets)
  reset_behind on (ResetStep s1 at1 waits1 comes resets restart) e =
      let same = only s1 at1 waits1 (Restarts Software (length (after g at1 (Steps s1)).opens) ∷ []) comes refl e in
      by_same s1 at1 waits1 same.0 same.1 same.2 restart
  reset_behind on (MoreSteps s1 at1 waits1 rest comes resets stops more) e = absurd (resets_not s1 (only s1 at1 waits1 rest comes (no_end g more) e).0 on resets)
  reset_behind on (RunsOut unit ticks waits1 ends left1 comes) e = absurd (goes unit ticks waits1 ends left1 comes e)
