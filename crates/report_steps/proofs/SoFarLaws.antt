-- After so many steps of a directive: where it goes on, and where it stops.
use Rattle.std.proofs.Common.{◌≡◌, ℕ, ◌+◌, Bool, true, false, ◌&&◌, ◌||◌, List, [], ◌∷◌, ◌++◌, length, Option, Some, None, refl, sym, ◌∙◌, ap, subst, append_assoc}
use Rattle.std.specs.Prelude.{is_some}
use Rattle.std.proofs.lemmas.List.{append-nil, append_cancel_left}
use Rattle.bench_report.specs.Lines.{Line, Restarts, numbered}
use Rattle.bench_report.specs.Report.{frames_after_end}
use Rattle.bench_report.specs.declared.frames.Purpose.{Purpose}
use Rattle.bench_report.specs.declared.tally.Tally.{Tally}
use Rattle.mcal_base.specs.declared.answer.Answer.{Answer}
use Rattle.chip_model.specs.Chip.{wait_on}
use Rattle.mcal_base.specs.declared.directive.Order.TheVariants.{Tick}
use Rattle.mcal_base.specs.declared.directive.Reason.TheVariants.{Software, Watchdog}
use Rattle.mcal_base.specs.facts.Truths.{off_on}
use Rattle.run_model.specs.Follows.{ends_within, is_reached}
use Rattle.run_model.specs.Frame.{resets_chip}
use Rattle.run_model.specs.Legal.{IsServed}
use Rattle.run_model.specs.Moment.{Moment, Setting, Steps, Happens, Resets, after}
use Rattle.run_model.specs.declared.item.Stepped.{Stepped}
use Rattle.run_model.specs.declared.stop_condition.StopCondition.{StopCondition}
use Rattle.report_text.specs.reading.Blocks.{AuditState, counted, printed}
use Rattle.report_text.specs.reading.Steps.{Comes, PrintsSteps, StepComes, WaitComes, AtOnce, Awaited, LastStep, ResetStep, MoreSteps, is_silent, lines_at}
use Rattle.report_auditor.specs.Auditing.{moved_to}
use Rattle.report_steps.specs.Going.{GoesBack, PrintsReset, SoFar, ok_where}
use Rattle.report_steps.specs.StepRules.{NoEnd, lines_behind, stepped_to}
use Rattle.report_auditor.specs.Deeds.{restarted}
use Rattle.report_steps.specs.Taking.{PrintsOn, Took}
use Rattle.report_steps.proofs.GoingLaws.{counted_none, counted_ok, last_behind, makes_uncounted, more_behind, ok_behind, reset_behind, step_counted}
use Rattle.report_steps.proofs.StepMade.{counted_on}

-- ---- texts

pub printed_on : (n : ℕ) (xs ys : List Line) → printed n (xs ++ ys) ≡ printed n xs ++ printed n ys
printed_on n [] ys = refl
printed_on n (x ∷ xs) ys = ap (λ z. numbered n x ++ z) (printed_on n xs ys) ∙ sym (append_assoc (numbered n x) (printed n xs) (printed n ys))

-- the front of a text that is lines is lines, and so is the rest
pub rest_is : (n : ℕ) (text rest : List ℕ) (xs ys : List Line) → text ≡ printed n xs ++ rest → text ≡ printed n (xs ++ ys) → rest ≡ printed n ys
rest_is n text rest xs ys e f = append_cancel_left (printed n xs) rest (printed n ys) (sym e ∙ (f ∙ printed_on n xs ys))

pub nothing_left : (n : ℕ) (text rest : List ℕ) (xs : List Line) → text ≡ printed n xs ++ rest → text ≡ printed n xs → rest ≡ []
nothing_left n text rest xs e f = append_cancel_left (printed n xs) rest [] (sym e ∙ (f ∙ sym (append-nil (printed n xs))))

-- lines behind lines
pub front_is : (n : ℕ) (whole text rest : List ℕ) (xs ys : List Line) → whole ≡ printed n xs ++ text → text ≡ printed n ys ++ rest → whole ≡ printed n (xs ++ ys) ++ rest
front_is n whole text rest xs ys e f =
    e ∙ (ap (λ z. printed n xs ++ z) f ∙ (sym (append_assoc (printed n xs) (printed n ys) rest) ∙ ap (λ z. z ++ rest) (sym (printed_on n xs ys))))

-- ---- frames

not_first : (a b : Bool) → a || b ≡ false → a ≡ false
not_first true b e = e
not_first false b e = refl

pub none_gone : (frames : List Purpose) (ended : Option Answer) → is_some ended ≡ false → frames_after_end frames ended ≡ frames
none_gone frames None e = refl
none_gone frames (Some a) e = off_on (sym e)

module _ {State Call : Type 0} (g : Setting State Call) (reach : StopCondition) (first : AuditState State Call) (number : ℕ) (whole : List ℕ) where
  -- before the first one
  pub start : IsServed g first.moment → SoFar g reach first number whole 0 true first whole
  start served = record { served = served; front = []; is = refl; on = λ lines there h. h; back = λ all there h e. record { lines = all; prints = h; text_is = e } }

  pub served_after : {m at : Moment State Call} {s : Stepped} {waits : List Line} → StepComes g m s at waits → IsServed g (after g at (Steps s))
  served_after (AtOnce fits comes) = comes.served
  served_after (Awaited unit ticks comes is goes awaits fits step) = step.served

  module _ (count : ℕ) (silent : Bool) (p : AuditState State Call) (text rest : List ℕ) (so_far : SoFar g reach first number whole count silent p text)
      (s : Stepped) (at : Moment State Call) (waits : List Line) (comes : StepComes g p.moment s at waits) (text_is : text ≡ printed number (waits ++ lines_at at p.frames s) ++ rest)
      (only : (s1 : Stepped) (at1 : Moment State Call) (waits1 more : List Line) → StepComes g p.moment s1 at1 waits1 → NoEnd more → text ≡ printed number ((waits1 ++ lines_at at1 p.frames s1) ++ more) → (s1 ≡ s) × (at1 ≡ at) × (waits1 ≡ waits))
      (goes : (unit ticks : ℕ) → WaitComes g p.moment unit ticks → ends_within (wait_on p.moment.chip unit) (g.machine.expires p.moment.world p.moment.state) ≡ true → g.machine.expires p.moment.world p.moment.state ≡ Some ticks
      → Comes g (after g p.moment (Happens (Tick ticks))) (Resets Watchdog) → text ≡ printed number (Restarts Watchdog (length p.moment.opens) ∷ []) → ⊥)
    where
      -- ---- it goes on

      module _ (no_reset : resets_chip s.made ≡ false) (goes_on : is_some s.ended || is_reached reach (count + 1) s ≡ false) where
        same_frames : frames_after_end p.frames s.ended ≡ p.frames
        same_frames = none_gone p.frames s.ended (not_first (is_some s.ended) (is_reached reach (count + 1) s) goes_on)

        tally_on : (lines : List Line) → counted (stepped_to g (moved_to at p) s).tally lines ≡ counted p.tally ((waits ++ lines_at at p.frames s) ++ lines)
        tally_on lines = ap (λ t. counted t lines) (sym (step_counted g p.tally p.frames comes)) ∙ sym (counted_on p.tally (waits ++ lines_at at p.frames s) lines)

        one_more : (lines : List Line) (there : AuditState State Call) → PrintsOn g reach (count + 1) (silent && is_silent (waits ++ lines_at at p.frames s)) (stepped_to g (moved_to at p) s) lines there
            → PrintsOn g reach count silent p ((waits ++ lines_at at p.frames s) ++ lines) there
        one_more lines there h = record {
          steps = MoreSteps s at waits lines comes no_reset goes_on
              (subst (λ fs. PrintsSteps g reach (count + 1) (silent && is_silent (waits ++ lines_at at p.frames s)) (after g at (Steps s)) fs lines there.moment there.frames) same_frames h.steps);
          tally = h.tally ∙ tally_on lines;
        }

        one_less : (all : List Line) (there : AuditState State Call) → PrintsOn g reach count silent p all there → text ≡ printed number all
            → GoesBack g reach number (count + 1) (silent && is_silent (waits ++ lines_at at p.frames s)) (stepped_to g (moved_to at p) s) rest there
        one_less all there h e =
            let more = more_behind g reach number text p.moment p.frames s at waits only goes no_reset goes_on h.steps e in
            record {
              lines = more.rest;
              prints = record {
                steps = subst (λ fs. PrintsSteps g reach (count + 1) (silent && is_silent (waits ++ lines_at at p.frames s)) (after g at (Steps s)) fs more.rest there.moment there.frames) (sym same_frames) more.steps;
                tally = h.tally ∙ (ap (counted p.tally) more.is ∙ sym (tally_on more.rest));
              };
              text_is = rest_is number text rest (waits ++ lines_at at p.frames s) more.rest text_is (e ∙ ap (printed number) more.is);
            }

        pub next : SoFar g reach first number whole (count + 1) (silent && is_silent (waits ++ lines_at at p.frames s)) (stepped_to g (moved_to at p) s) rest
        next = record {
          served = served_after comes;
          front = so_far.front ++ (waits ++ lines_at at p.frames s);
          is = front_is number whole text rest so_far.front (waits ++ lines_at at p.frames s) so_far.is text_is;
          on = λ lines there h. subst (λ x. PrintsOn g reach 0 true first x there) (sym (append_assoc so_far.front (waits ++ lines_at at p.frames s) lines)) (so_far.on ((waits ++ lines_at at p.frames s) ++ lines) there (one_more lines there h));
          back = λ all there h e. let b = so_far.back all there h e in one_less b.lines there b.prints b.text_is;
        }

      -- ---- it stops

      module _ (no_reset : resets_chip s.made ≡ false) (stops : is_some s.ended || is_reached reach (count + 1) s ≡ true) where
        ok_uncounted : (t : Tally) (b : Bool) → t ≡ counted t (ok_where b)
        ok_uncounted t true = counted_ok t
        ok_uncounted t false = counted_none t

        tally_last : (b : Bool) → (stepped_to g (moved_to at p) s).tally ≡ counted p.tally ((waits ++ lines_at at p.frames s) ++ ok_where b)
        tally_last b = ok_uncounted (counted p.tally (lines_behind p.frames s)) b ∙ (ap (λ t. counted t (ok_where b)) (sym (step_counted g p.tally p.frames comes)) ∙ sym (counted_on p.tally (waits ++ lines_at at p.frames s) (ok_where b)))

        last : PrintsOn g reach count silent p ((waits ++ lines_at at p.frames s) ++ ok_where (silent && is_silent (waits ++ lines_at at p.frames s))) (stepped_to g (moved_to at p) s)
        last = record {
          steps = subst (λ x. PrintsSteps g reach count silent p.moment p.frames x (after g at (Steps s)) (frames_after_end p.frames s.ended)) (ok_behind silent (waits ++ lines_at at p.frames s)) (LastStep s at waits comes no_reset stops);
          tally = tally_last (silent && is_silent (waits ++ lines_at at p.frames s));
        }

        -- with its ok, where one comes, it is the whole of the block's lines, and nothing is left where they are all
        pub done : (Stands : AuditState State Call → Type 0) (left : List ℕ) → rest ≡ printed number (ok_where (silent && is_silent (waits ++ lines_at at p.frames s))) ++ left
            → Stands (stepped_to g (moved_to at p) s) → Took (PrintsOn g reach 0 true first) Stands number whole left
        done Stands left ok stands =
            let here = (waits ++ lines_at at p.frames s) ++ ok_where (silent && is_silent (waits ++ lines_at at p.frames s)) in
            let text_here = front_is number text rest left (waits ++ lines_at at p.frames s) (ok_where (silent && is_silent (waits ++ lines_at at p.frames s))) text_is ok in
            record {
              lines = so_far.front ++ here;
              place = stepped_to g (moved_to at p) s;
              prints = so_far.on here (stepped_to g (moved_to at p) s) last;
              is = front_is number whole text left so_far.front here so_far.is text_here;
              stands = stands;
              whole = λ all there h e.
                  let b = so_far.back all there h e in
                  let lines_here = (last_behind g reach number text p.moment p.frames s at waits only goes no_reset stops b.prints.steps b.text_is).is in
                  nothing_left number text left here text_here (b.text_is ∙ ap (printed number) lines_here);
            }

        -- and where no ok comes that should, the block has no such lines
        pub undone : ((left : List ℕ) → rest ≡ printed number (ok_where (silent && is_silent (waits ++ lines_at at p.frames s))) ++ left → ⊥)
            → (all : List Line) (there : AuditState State Call) → PrintsOn g reach 0 true first all there → whole ≡ printed number all → ⊥
        undone none all there h e =
            let b = so_far.back all there h e in
            let lines_here = (last_behind g reach number text p.moment p.frames s at waits only goes no_reset stops b.prints.steps b.text_is).is in
            none [] (rest_is number text rest (waits ++ lines_at at p.frames s) (ok_where (silent && is_silent (waits ++ lines_at at p.frames s))) text_is (b.text_is ∙ ap (printed number) lines_here)
            ∙ sym (append-nil (printed number (ok_where (silent && is_silent (waits ++ lines_at at p.frames s))))))

      -- ---- it resets the chip

      module _ (resets : resets_chip s.made ≡ true) where
        reset_tally : counted p.tally (lines_behind p.frames s) ≡ counted p.tally ((waits ++ lines_at at p.frames s) ++ Restarts Software (length (after g at (Steps s)).opens) ∷ [])
        reset_tally =
            counted_none (counted p.tally (lines_behind p.frames s))
            ∙ (sym (makes_uncounted (counted p.tally (lines_behind p.frames s)) (Restarts Software (length (after g at (Steps s)).opens)) [] refl refl refl refl refl)
            ∙ (ap (λ t. counted t (Restarts Software (length (after g at (Steps s)).opens) ∷ [])) (sym (step_counted g p.tally p.frames comes))
            ∙ sym (counted_on p.tally (waits ++ lines_at at p.frames s) (Restarts Software (length (after g at (Steps s)).opens) ∷ []))))

        reset_prints : Comes g (after g at (Steps s)) (Resets Software)
            → PrintsOn g reach count silent p ((waits ++ lines_at at p.frames s) ++ Restarts Software (length (after g at (Steps s)).opens) ∷ []) (restarted g (stepped_to g (moved_to at p) s) Software)
        reset_prints restart = record { steps = ResetStep s at waits comes resets restart; tally = reset_tally }

        -- with the line of its reset it is the whole of the block's lines
        pub was_reset : (Stands : AuditState State Call → Type 0) (left : List ℕ) → Took (PrintsReset g (stepped_to g (moved_to at p) s) Software) Stands number rest left → Took (PrintsOn g reach 0 true first) Stands number whole left
        was_reset Stands left took =
            let line = Restarts Software (length (after g at (Steps s)).opens) ∷ [] in
            let all_here = (waits ++ lines_at at p.frames s) ++ line in
            let text_here = front_is number text rest left (waits ++ lines_at at p.frames s) line text_is (took.is ∙ ap (λ ls. printed number ls ++ left) took.prints.lines_are) in
            record {
              lines = so_far.front ++ all_here;
              place = restarted g (stepped_to g (moved_to at p) s) Software;
              prints = so_far.on all_here (restarted g (stepped_to g (moved_to at p) s) Software) (reset_prints took.prints.comes);
              is = front_is number whole text left so_far.front all_here so_far.is text_here;
              stands = subst Stands took.prints.leads took.stands;
              whole = λ all there h e.
                  let b = so_far.back all there h e in
                  let lines_here = (reset_behind g reach number text p.moment p.frames s at waits only goes resets b.prints.steps b.text_is).is in
                  nothing_left number text left all_here text_here (b.text_is ∙ ap (printed number) lines_here);
            }

        -- and where it doesn't come, the block has no such lines
        pub not_reset : ((ls : List Line) (there : AuditState State Call) → PrintsReset g (stepped_to g (moved_to at p) s) Software ls there → rest ≡ printed number ls → ⊥)
            → (all : List Line) (there : AuditState State Call) → PrintsOn g reach 0 true first all there → whole ≡ printed number all → ⊥
        not_reset none all there h e =
            let b = so_far.back all there h e in
            let behind = reset_behind g reach number text p.moment p.frames s at waits only goes resets b.prints.steps b.text_is in
            none (Restarts Software (length (after g at (Steps s)).opens) ∷ []) (restarted g (stepped_to g (moved_to at p) s) Software) (record { comes = behind.comes; lines_are = refl; leads = refl })
            (rest_is number text rest (waits ++ lines_at at p.frames s) (Restarts Software (length (after g at (Steps s)).opens) ∷ []) text_is (b.text_is ∙ ap (printed number) behind.is))
