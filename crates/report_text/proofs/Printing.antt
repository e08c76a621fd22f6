-- Lines are those of steps exactly where there are items of steps that print them.
use Rattle.std.proofs.Common.{◌≡◌, ℕ, ◌+◌, Bool, true, false, List, [], ◌∷◌, ◌++◌, length, Option, Some, None, refl, ◌∙◌, ap, sym, subst, arith, append_assoc, append-nil}
use Rattle.std.specs.Prelude.{◌&&◌, ◌||◌, is_some, if◌then◌else◌}
use Rattle.bench_report.specs.Lines.{Line, Restarts, Done}
use Rattle.bench_report.specs.Numbers.{IsNumber, Each, EntryFits}
use Rattle.bench_report.specs.Report.{frames_after_end, chapter_lines, chapter_frames, is_traced}
use Rattle.bench_report.specs.Rows.{Row}
use Rattle.bench_report.specs.declared.frames.Purpose.{Purpose}
use Rattle.chip_model.specs.Chip.{wait_on}
use Rattle.mcal_base.specs.declared.answer.Answer.{Answer}
use Rattle.mcal_base.specs.declared.directive.Order.{Order}
use Rattle.mcal_base.specs.declared.directive.Order.TheVariants as orders
use Rattle.mcal_base.specs.declared.directive.Reason.{Reason}
use Rattle.mcal_base.specs.declared.directive.Reason.TheVariants.{Software, Watchdog}
use Rattle.mcal_base.specs.declared.directive.Request.{Request}
use Rattle.report_text.specs.reading.Reading.{item}
use Rattle.report_text.specs.reading.Steps.{Comes, WaitComes, StepComes, AtOnce, Awaited, lines_at, is_silent, done_behind, PrintsSteps, LastStep, ResetStep, MoreSteps, RunsOut, HasSteps}
use Rattle.report_text.proofs.StepsBack.{match_both}
use Rattle.run_model.specs.Entry as entry
use Rattle.run_model.specs.Entry.{Entry, Said}
use Rattle.run_model.specs.Follows.{IsOne, Waits, is_awaiting, ComesAwaited, ThenComes, IsStep, GoesOn, deeds_in, ends_within, is_reached}
use Rattle.run_model.specs.Frame.{Open, open_after, top_after, resets_chip}
use Rattle.run_model.specs.Legal.{IsServed, IsLegal}
use Rattle.run_model.specs.Moment.{Setting, Moment, Steps, Happens, Resets, after, after_step, after_all}
use Rattle.run_model.specs.declared.item.Stepped.{Stepped}
use Rattle.run_model.specs.declared.stop_condition.StopCondition.{StopCondition}
use Rattle.run_model.proofs.LegalLaws.{served-first}

-- ---- ok behind lines

silent_by : (b : Bool) (xs ys : Bool) (all : Bool) → all ≡ xs && ys → b && all ≡ (b && xs) && ys
silent_by true xs ys all e = e
silent_by false xs ys all e = refl

silent_both : (front back : List Line) → is_silent (front ++ back) ≡ is_silent front && is_silent back
silent_both [] back = refl
silent_both (line ∷ front) back = silent_by (is_traced line) (is_silent front) (is_silent back) (is_silent (front ++ back)) (silent_both front back)

done_by : (b : Bool) (front back : List Line) → (if b then (front ++ back) ++ Done ∷ [] else front ++ back) ≡ front ++ (if b then back ++ Done ∷ [] else back)
done_by true front back = append_assoc front back (Done ∷ [])
done_by false front back = refl

done_both : (silent : Bool) (front back : List Line) → done_behind silent (front ++ back) ≡ front ++ done_behind (silent && is_silent front) back
done_both silent front back =
    ap (λ (b : Bool). if b then (front ++ back) ++ Done ∷ [] else front ++ back) (silent_by silent (is_silent front) (is_silent back) (is_silent (front ++ back)) (silent_both front back))
    ∙ done_by ((silent && is_silent front) && is_silent back) front back

reset_alone : (silent : Bool) (reason : Reason) (dropped : ℕ) → done_behind silent (Restarts reason dropped ∷ []) ≡ Restarts reason dropped ∷ []
reset_alone true reason dropped = refl
reset_alone false reason dropped = refl

reset_done : (silent : Bool) (front : List Line) (reason : Reason) (dropped : ℕ) → done_behind silent (front ++ Restarts reason dropped ∷ []) ≡ front ++ Restarts reason dropped ∷ []
reset_done silent front reason dropped = done_both silent front (Restarts reason dropped ∷ []) ∙ ap (λ (lines : List Line). front ++ lines) (reset_alone (silent && is_silent front) reason dropped)

-- a frame that doesn't end is there still
not_ended : (ended : Option Answer) (b : Bool) → is_some ended || b ≡ false → ended ≡ None
not_ended None b h = refl
not_ended (Some answer) b h = cc

still_there : (frames : List Purpose) (ended : Option Answer) → ended ≡ None → frames_after_end frames ended ≡ frames
still_there frames ended e = ap (λ (o : Option Answer). frames_after_end frames o) e

module _ {State Call : Type 0} (g : Setting State Call) where
  -- ---- a step

  step_served : {m at : Moment State Call} {s : Stepped} {waits : List Line} → StepComes g m s at waits → IsServed g (after g at (Steps s))
  step_served (AtOnce fits comes) = comes.served
  step_served (Awaited unit ticks wait is on awaits fits comes) = comes.served

  fewer_by : (x o : Open Call) (os : List (Open Call)) (ended : Option Answer) → IsNumber (length (o ∷ os)) → IsNumber (length (top_after x ended os))
  fewer_by x o os None h = h
  fewer_by x o os (Some answer) h = omega (arith, h)

  fewer : (m : Moment State Call) (os : List (Open Call)) (s : Stepped) → IsNumber (length m.opens) → IsNumber (length os) → IsNumber (length (after_step g m os s).opens)
  fewer m [] s h k = h
  fewer m (o ∷ os) s h k = fewer_by (open_after g.machine m.world m.state o s.made s.received s.event) o os s.ended k

  step_fewer : {m at : Moment State Call} {s : Stepped} {waits : List Line} → StepComes g m s at waits → IsNumber (length m.opens) → IsNumber (length (after g at (Steps s)).opens)
  step_fewer {m} {at} {s} (AtOnce fits comes) h = fewer m m.opens s h h
  step_fewer {m} {at} {s} (Awaited unit ticks wait is on awaits fits comes) h = fewer (after g m (Happens (orders.Tick ticks))) m.opens s h h

  module _ (call_of : Request → Call) (order : Order) (shows : List (List Row)) (number : ℕ) (reach : StopCondition) where
    -- what items print behind a step, and where they lead
    abbrev behind_lines : Moment State Call → List Purpose → Stepped → List Line → List Entry → List Line
    behind_lines at frames s waits es = (waits ++ lines_at at frames s) ++ chapter_lines true order (frames_after_end frames s.ended) shows es

    abbrev behind_last : Moment State Call → Stepped → List Entry → Moment State Call
    behind_last at s es = after_all g (after g at (Steps s)) (deeds_in call_of order es)

    abbrev behind_left : List Purpose → Stepped → List Entry → List Purpose
    behind_left frames s es = chapter_frames order (frames_after_end frames s.ended) es

    -- ---- there are items

    abbrev Has : (made : ℕ) (silent : Bool) → Moment State Call → List Purpose → List Line → Moment State Call → List Purpose → Type 0
    Has made silent m frames lines last left = HasSteps g call_of order shows number reach made silent m frames lines last left

    abbrev Then : (made : ℕ) → Moment State Call → Stepped → List Entry → Type 0
    Then made at s es = ThenComes g number reach made at s es (GoesOn g number reach (made + 1) (after g at (Steps s)) es)

    same_has : (made : ℕ) (silent : Bool) (m : Moment State Call) (frames : List Purpose) {lines same_lines : List Line} {last same_last : Moment State Call} {left same_left : List Purpose} →
        Has made silent m frames lines last left → lines ≡ same_lines → last ≡ same_last → left ≡ same_left → Has made silent m frames same_lines same_last same_left
    same_has made silent m frames h e f k = record { items = h.items; fits = h.fits; goes = h.goes; legal = h.legal; prints = h.prints ∙ e; leads = h.leads ∙ f; leaves = h.leaves ∙ k }

    -- a step, and items behind it
    has_step : (made : ℕ) (silent : Bool) {m at : Moment State Call} {waits : List Line} (s : Stepped) (frames : List Purpose) (es : List Entry) → StepComes g m s at waits → IsNumber number → IsNumber (length m.opens) → IsServed g m →
        Each EntryFits es → Then made at s es → IsLegal g (after g at (Steps s)) (deeds_in call_of order es) →
        Has made silent m frames (done_behind silent (behind_lines at frames s waits es)) (behind_last at s es) (behind_left frames s es)
    has_step made silent {m} s frames es (AtOnce step comes) i depth served fits next legal = record {
      items = item m number (entry.Steps s) ∷ es;
      fits = ((i, depth, step), fits);
      goes = (refl, refl, next);
      legal = (served, comes.time, comes.legal, legal);
      prints = refl;
      leads = refl;
      leaves = refl;
    }
    has_step made silent {m} s frames es (Awaited unit ticks wait is on awaits step comes) i depth served fits next legal = record {
      items = item m number (entry.Happens (orders.Tick ticks)) ∷ item (after g m (Happens (orders.Tick ticks))) number (entry.Steps s) ∷ es;
      fits = ((i, depth, wait.fits), ((i, depth, step), fits));
      goes = (refl, refl, record { unit = unit; busy = wait.busy; unmasked = wait.unmasked; may = wait.may; goes = rw on (is, awaits, (refl, refl, next)) });
      legal = (served, wait.comes.time, wait.comes.legal, (wait.comes.served, comes.time, comes.legal, legal));
      prints = refl;
      leads = refl;
      leaves = refl;
    }

    pub has_items : (made : ℕ) (silent : Bool) (m : Moment State Call) (frames : List Purpose) {lines : List Line} {last : Moment State Call} {left : List Purpose} → IsNumber number → PrintsSteps g reach made silent m frames lines last left → IsNumber (length m.opens) → IsServed g m → Has made silent m frames lines last left
    has_items made silent m frames i (LastStep s at waits comes stays stops) depth served =
        same_has made silent m frames (has_step made silent s frames [] comes i depth served tt (rw stays (rw stops refl)) (step_served comes)) (ap (done_behind silent) (append-nil (waits ++ lines_at at frames s))) refl refl
    has_items made silent m frames i (ResetStep s at waits comes resets reset) depth served =
        let m1 = after g at (Steps s) in
        let fewer1 : IsNumber (length m1.opens) = step_fewer comes depth in
        same_has made silent m frames
        (has_step made silent s frames (item m1 number (entry.Resets Software (length m1.opens)) ∷ []) comes i depth served ((i, fewer1, fewer1), tt) (rw resets refl) (step_served comes, reset.time, reset.legal, reset.served))
        (reset_done silent (waits ++ lines_at at frames s) Software (length m1.opens)) refl refl
    has_items made silent m frames i (MoreSteps s at waits rest comes stays on more) depth served =
        let later = has_items (made + 1) (silent && is_silent (waits ++ lines_at at frames s)) (after g at (Steps s)) frames i more (step_fewer comes depth) (step_served comes) in
        let there = still_there frames s.ended (not_ended s.ended (is_reached reach (made + 1) s) on) in
        let front = waits ++ lines_at at frames s in
        same_has made silent m frames
        (has_step made silent s frames later.items comes i depth served later.fits (rw stays (rw on later.goes)) later.legal)
        (ap (λ (kept : List Purpose). done_behind silent (front ++ chapter_lines true order kept shows later.items)) there
        ∙ (done_both silent front (chapter_lines true order frames shows later.items) ∙ ap (λ (back : List Line). front ++ back) later.prints))
        later.leads
        (ap (λ (kept : List Purpose). chapter_frames order kept later.items) there ∙ later.leaves)
    has_items made silent m frames i (RunsOut unit ticks wait over left reset) depth served = record {
      items = item m number (entry.Happens (orders.Tick ticks)) ∷ item m number (entry.Resets Watchdog (length m.opens)) ∷ [];
      fits = ((i, depth, wait.fits), ((i, depth, depth), tt));
      goes = (refl, refl, record { unit = unit; busy = wait.busy; unmasked = wait.unmasked; may = wait.may; goes = rw over (left, refl) });
      legal = (served, wait.comes.time, wait.comes.legal, (wait.comes.served, reset.time, reset.legal, reset.served));
      prints = reset_alone silent Watchdog (length m.opens);
      leads = refl;
      leaves = refl;
    }

    -- ---- items print lines

    abbrev Prints : (made : ℕ) (silent : Bool) → Moment State Call → List Purpose → List Line → Moment State Call → List Purpose → Type 0
    Prints made silent m frames lines last left = PrintsSteps g reach made silent m frames lines last left

    same_prints : (made : ℕ) (silent : Bool) (m : Moment State Call) (frames : List Purpose) {lines same : List Line} {last : Moment State Call} {left : List Purpose} → Prints made silent m frames lines last left → lines ≡ same → Prints made silent m frames same last left
    same_prints made silent m frames {lines} {same} {last} {left} h e = subst (λ (x : List Line). Prints made silent m frames x last left) e h

    -- items as a journal holds them, legal, print the lines of steps, and lead where these do
    abbrev ArePrinted : List Entry → Type 0
    ArePrinted es = (made : ℕ) (silent : Bool) (m : Moment State Call) (frames : List Purpose) → Each EntryFits es → GoesOn g number reach made m es → IsLegal g m (deeds_in call_of order es) →
        Prints made silent m frames (done_behind silent (chapter_lines true order frames shows es)) (after_all g m (deeds_in call_of order es)) (chapter_frames order frames es)

    step_prints : (made : ℕ) (silent : Bool) {m at : Moment State Call} {waits : List Line} (s : Stepped) (frames : List Purpose) (es : List Entry) → ArePrinted es → StepComes g m s at waits → Each EntryFits es → Then made at s es →
        IsLegal g (after g at (Steps s)) (deeds_in call_of order es) → Prints made silent m frames (done_behind silent (behind_lines at frames s waits es)) (behind_last at s es) (behind_left frames s es)
    step_prints made silent {m} {at} {waits} s frames es ih comes fits next legal =
        let m1 = after g at (Steps s) in
        let front = waits ++ lines_at at frames s in
        let P : List Entry → Type 0 = λ xs. Prints made silent m frames (done_behind silent (behind_lines at frames s waits xs)) (behind_last at s xs) (behind_left frames s xs) in
        match_both (resets_chip s.made) (resets_chip s.made) refl next
        (λ resets is.
        let reset : IsLegal g m1 (Resets Software ∷ []) = subst (λ (xs : List Entry). IsLegal g m1 (deeds_in call_of order xs)) is legal in
        subst P (sym is) (same_prints made silent m frames (ResetStep s at waits comes resets (record { time = reset.1; legal = reset.2; served = reset.3 })) (sym (reset_done silent front Software (length m1.opens)))))
        (λ stays others. match_both (is_some s.ended || is_reached reach (made + 1) s) (is_some s.ended || is_reached reach (made + 1) s) refl others
        (λ stops none. subst P (sym none) (same_prints made silent m frames (LastStep s at waits comes stays stops) (ap (done_behind silent) (sym (append-nil front)))))
        (λ on goes.
        let there = still_there frames s.ended (not_ended s.ended (is_reached reach (made + 1) s) on) in
        subst (λ (kept : List Purpose). Prints made silent m frames (done_behind silent (front ++ chapter_lines true order kept shows es)) (behind_last at s es) (chapter_frames order kept es)) (sym there)
        (same_prints made silent m frames (MoreSteps s at waits _ comes stays on (ih (made + 1) (silent && is_silent front) m1 frames fits goes legal)) (sym (done_both silent front (chapter_lines true order frames shows es))))))

    -- the items behind the first one
    abbrev BehindPrinted : List Entry → Type 0
    BehindPrinted [] = Unit {0}
    BehindPrinted (e ∷ es) = ArePrinted es

    -- the depth of an item is that of its moment
    abbrev laid : (line depth : ℕ) → Said → Entry
    laid line depth said = record { line = line; depth = depth; said = said }

    once_prints : (made : ℕ) (silent : Bool) (line depth : ℕ) (s : Stepped) (es : List Entry) (m : Moment State Call) (frames : List Purpose) → ArePrinted es → Each EntryFits (laid line depth (entry.Steps s) ∷ es) → depth ≡ length m.opens → Then made m s es →
        IsLegal g m (deeds_in call_of order (laid line depth (entry.Steps s) ∷ es)) →
        Prints made silent m frames (done_behind silent (chapter_lines true order frames shows (laid line depth (entry.Steps s) ∷ es))) (behind_last m s es) (behind_left frames s es)
    once_prints made silent line depth s es m frames ih fits e next legal =
        same_prints made silent m frames
        (step_prints made silent s frames es ih (AtOnce fits.0.2 (record { time = legal.1; legal = legal.2; served = served-first g (after g m (Steps s)) (deeds_in call_of order es) legal.3 })) fits.1 next legal.3)
        (ap (λ (k : ℕ). done_behind silent (chapter_lines true order frames shows (laid line k (entry.Steps s) ∷ es))) (sym e))

    -- a step behind its wait
    awaited_prints : (made : ℕ) (silent : Bool) (line depth ticks unit next_line next_depth : ℕ) (said : Said) (es : List Entry) (m : Moment State Call) (frames : List Purpose) → ArePrinted es →
        let next = laid next_line next_depth said in
        let all = laid line depth (entry.Happens (orders.Tick ticks)) ∷ next ∷ es in
        Each EntryFits all → WaitComes g m unit ticks → ticks ≡ wait_on m.chip unit → ends_within (wait_on m.chip unit) (g.machine.expires m.world m.state) ≡ false → is_awaiting unit said ≡ true →
        GoesOn g number reach made (after g m (Happens (orders.Tick ticks))) (next ∷ es) → IsLegal g (after g m (Happens (orders.Tick ticks))) (deeds_in call_of order (next ∷ es)) →
        Prints made silent m frames (done_behind silent (chapter_lines true order frames shows all)) (after_all g m (deeds_in call_of order all)) (chapter_frames order frames all)
    awaited_prints made silent line depth ticks unit next_line next_depth (entry.Steps s) es m frames ih fits wait is on awaits goes legal =
        same_prints made silent m frames
        (step_prints made silent s frames es ih (Awaited unit ticks wait is on awaits fits.1.0.2 (record { time = legal.1; legal = legal.2; served = served-first g (after g (after g m (Happens (orders.Tick ticks))) (Steps s)) (deeds_in call_of order es) legal.3 })) fits.1.1 goes.2 legal.3)
        (ap (λ (k : ℕ). done_behind silent (chapter_lines true order frames shows (laid line depth (entry.Happens (orders.Tick ticks)) ∷ laid next_line k (entry.Steps s) ∷ es))) (sym goes.1))
    awaited_prints made silent line depth ticks unit next_line next_depth (entry.Happens o) es m frames ih fits wait is on awaits goes legal = cc
    awaited_prints made silent line depth ticks unit next_line next_depth entry.Begins es m frames ih fits wait is on awaits goes legal = cc
    awaited_prints made silent line depth ticks unit next_line next_depth (entry.Stays c) es m frames ih fits wait is on awaits goes legal = cc
    awaited_prints made silent line depth ticks unit next_line next_depth (entry.Resets r k) es m frames ih fits wait is on awaits goes legal = cc

    behind_wait : (made : ℕ) (silent : Bool) (line depth ticks unit : ℕ) (es : List Entry) (m : Moment State Call) (frames : List Purpose) → BehindPrinted es →
        let all = laid line depth (entry.Happens (orders.Tick ticks)) ∷ es in
        Each EntryFits all → WaitComes g m unit ticks → ticks ≡ wait_on m.chip unit → ends_within (wait_on m.chip unit) (g.machine.expires m.world m.state) ≡ false → ComesAwaited unit es →
        GoesOn g number reach made (after g m (Happens (orders.Tick ticks))) es → IsLegal g (after g m (Happens (orders.Tick ticks))) (deeds_in call_of order es) →
        Prints made silent m frames (done_behind silent (chapter_lines true order frames shows all)) (after_all g m (deeds_in call_of order all)) (chapter_frames order frames all)
    behind_wait made silent line depth ticks unit [] m frames ih fits wait is on awaits goes legal = absurd awaits
    behind_wait made silent line depth ticks unit (e ∷ es) m frames ih fits wait is on awaits goes legal = awaited_prints made silent line depth ticks unit e.line e.depth e.said es m frames ih fits wait is on awaits goes legal

    -- the watchdog's reset in place of a step
    ran_prints : (made : ℕ) (silent : Bool) (line depth ticks unit : ℕ) (es : List Entry) (m : Moment State Call) (frames : List Purpose) →
        let all = laid line depth (entry.Happens (orders.Tick ticks)) ∷ es in
        WaitComes g m unit ticks → ends_within (wait_on m.chip unit) (g.machine.expires m.world m.state) ≡ true → g.machine.expires m.world m.state ≡ Some ticks → IsOne m number (entry.Resets Watchdog (length m.opens)) es →
        IsLegal g (after g m (Happens (orders.Tick ticks))) (deeds_in call_of order es) →
        Prints made silent m frames (done_behind silent (chapter_lines true order frames shows all)) (after_all g m (deeds_in call_of order all)) (chapter_frames order frames all)
    ran_prints made silent line depth ticks unit es m frames wait over left is legal =
        let first = laid line depth (entry.Happens (orders.Tick ticks)) in
        let reset : IsLegal g (after g m (Happens (orders.Tick ticks))) (Resets Watchdog ∷ []) = subst (λ (xs : List Entry). IsLegal g (after g m (Happens (orders.Tick ticks))) (deeds_in call_of order xs)) is legal in
        subst (λ (xs : List Entry). Prints made silent m frames (done_behind silent (chapter_lines true order frames shows (first ∷ xs))) (after_all g m (deeds_in call_of order (first ∷ xs))) (chapter_frames order frames (first ∷ xs))) (sym is)
        (same_prints made silent m frames (RunsOut unit ticks wait over left (record { time = reset.1; legal = reset.2; served = reset.3 })) (sym (reset_alone silent Watchdog (length m.opens))))

    waits_print : (made : ℕ) (silent : Bool) (line depth ticks : ℕ) (es : List Entry) (m : Moment State Call) (frames : List Purpose) → BehindPrinted es →
        let all = laid line depth (entry.Happens (orders.Tick ticks)) ∷ es in
        Each EntryFits all → Waits g number m ticks es (GoesOn g number reach made (after g m (Happens (orders.Tick ticks))) es) → IsLegal g m (deeds_in call_of order all) →
        Prints made silent m frames (done_behind silent (chapter_lines true order frames shows all)) (after_all g m (deeds_in call_of order all)) (chapter_frames order frames all)
    waits_print made silent line depth ticks es m frames ih fits waits legal =
        let over = ends_within (wait_on m.chip waits.unit) (g.machine.expires m.world m.state) in
        let comes : Comes g m (Happens (orders.Tick ticks)) = record { time = legal.1; legal = legal.2; served = served-first g (after g m (Happens (orders.Tick ticks))) (deeds_in call_of order es) legal.3 } in
        let wait : WaitComes g m waits.unit ticks = record { busy = waits.busy; unmasked = waits.unmasked; may = waits.may; fits = fits.0.2; comes = comes } in
        match_both over over refl waits.goes
        (λ ends is. ran_prints made silent line depth ticks waits.unit es m frames wait ends is.0 is.1 legal.3)
        (λ on goes. behind_wait made silent line depth ticks waits.unit es m frames ih fits wait goes.0 on goes.1 goes.2 legal.3)

    said_prints : (made : ℕ) (silent : Bool) (line depth : ℕ) (said : Said) (es : List Entry) (m : Moment State Call) (frames : List Purpose) → ArePrinted es → BehindPrinted es →
        let all = laid line depth said ∷ es in
        Each EntryFits all → IsStep g number reach made m (laid line depth said) es said (λ k deed. GoesOn g number reach k (after g m deed) es) → IsLegal g m (deeds_in call_of order all) →
        Prints made silent m frames (done_behind silent (chapter_lines true order frames shows all)) (after_all g m (deeds_in call_of order all)) (chapter_frames order frames all)
    said_prints made silent line depth (entry.Steps s) es m frames ih behind fits h legal = once_prints made silent line depth s es m frames ih fits h.1 h.2 legal
    said_prints made silent line depth (entry.Happens (orders.Tick ticks)) es m frames ih behind fits h legal = waits_print made silent line depth ticks es m frames behind fits h.2 legal
    said_prints made silent line depth (entry.Happens o) es m frames ih behind fits h legal = absurd h
    said_prints made silent line depth entry.Begins es m frames ih behind fits h legal = absurd h
    said_prints made silent line depth (entry.Stays c) es m frames ih behind fits h legal = absurd h
    said_prints made silent line depth (entry.Resets r k) es m frames ih behind fits h legal = absurd h

    all_printed : (es : List Entry) → ArePrinted es × BehindPrinted es
    all_printed [] = ((λ made silent m frames fits h legal. absurd h), tt)
    all_printed (e ∷ es) = let ih : ArePrinted es × BehindPrinted es = all_printed es in ((λ made silent m frames fits h legal. said_prints made silent e.line e.depth e.said es m frames ih.0 ih.1 fits h legal), ih.0)

    pub are_printed : {made : ℕ} {silent : Bool} {m last : Moment State Call} {frames left : List Purpose} {lines : List Line} → HasSteps g call_of order shows number reach made silent m frames lines last left → PrintsSteps g reach made silent m frames lines last left
    are_printed {made} {silent} {m} {last} {frames} {left} {lines} h =
        subst (λ (x : List Purpose). Prints made silent m frames lines last x) h.leaves
        (subst (λ (x : Moment State Call). Prints made silent m frames lines x (chapter_frames order frames h.items)) h.leads
        (same_prints made silent m frames ((all_printed h.items).0 made silent m frames h.fits h.goes h.legal) h.prints))
