-- The lines of a directive's items may follow a drawing that stands for the frames before it.
use Rattle.std.proofs.Common.{◌≡◌, ℕ, ◌+◌, ◌-◌, ◌<◌, Bool, true, false, List, [], ◌∷◌, ◌++◌, length, Option, Some, None, refl, ◌∙◌, ap, sym, subst, arith, cond}
use Rattle.std.specs.Prelude.{◌||◌, is_some, MatchBool}
use Rattle.chip_model.specs.Chip.{wait_on}
use Rattle.std.proofs.lemmas.List.Sums.{sum_by-cons}
use Rattle.irq_control.specs.declared.held.Held.{Held}
use Rattle.mcal_base.specs.declared.directive.Order.{Order}
use Rattle.mcal_base.specs.declared.directive.Order.TheVariants as orders
use Rattle.mcal_base.specs.declared.directive.Reason.{Reason}
use Rattle.mcal_base.specs.declared.directive.Reason.TheVariants.{Software, Watchdog}
use Rattle.mcal_base.specs.declared.directive.Request.{Request}
use Rattle.run_model.specs.Entry as entry
use Rattle.run_model.specs.Entry.{Entry, Said}
use Rattle.run_model.specs.Follows.{IsOne, Waits, ThenComes, IsStep, GoesOn, deeds_in, ends_within, is_reached}
use Rattle.run_model.specs.Frame.{resets_chip}
use Rattle.run_model.specs.Legal.{IsLegal}
use Rattle.run_model.specs.Moment.{Setting, Moment, Transition, Begins, Steps, Happens, after, after_all}
use Rattle.run_model.specs.Stops.{is_step, steps_in}
use Rattle.run_model.specs.declared.item.Stepped.{Stepped}
use Rattle.run_model.specs.declared.stop_condition.StopCondition.{StopCondition}
use Rattle.bench_report.specs.Report.{frames_after_end, steps_next, wait_lines, said_lines, chapter_lines, chapter_frames}
use Rattle.bench_report.specs.Rows.{Row}
use Rattle.bench_report.specs.Shown.{next_rows}
use Rattle.bench_report.specs.declared.frames.Purpose.{Purpose}
use Rattle.trace_reader.specs.declared.told.Told.TheVariants as tells
use Rattle.trace_drawing.specs.signs.Drawing.{Drawing}
use Rattle.trace_promises.specs.traces.Lines.{HasLines}
use Rattle.trace_promises.proofs.Opens.{OnChip, StepIs, step_is}
use Rattle.trace_promises.proofs.Telling.{Tells, tells-append, tells_more, Stands, stands_less, end_count, fits_by, wait_told, step_told, reset_told}

pub counted : (e : Entry) (es : List Entry) → steps_in (e ∷ es) ≡ cond (is_step e.said) 1 0 + steps_in es
counted e es = sum_by-cons (λ (x : Entry). cond (is_step x.said) 1 0) e es

one_and : (n left : ℕ) → 1 + n + left ≡ 1 + (n + left)
one_and n left = omega arith

none_and : (n left : ℕ) → 0 + n + left ≡ n + left
none_and n left = omega arith

pub match_both : {A B C : Type 0} (b t : Bool) → t ≡ b → MatchBool b A B → (t ≡ true → A → C) → (t ≡ false → B → C) → C
match_both true t e h f k = f e h
match_both false t e h f k = k e h

-- a frame that doesn't end is there still
not_ended : {A : Type 0} (o : Option A) (b : Bool) → is_some o || b ≡ false → o ≡ None
not_ended None b h = refl
not_ended (Some x) b h = cc

module _ {State Call : Type 0} (g : Setting State Call) (call_of : Request → Call) where
  -- the lines of items follow a drawing, and lead to one that stands for the frames behind them, and has room for so many steps
  abbrev pub Follow : ℕ → Order → List Purpose → List (List Row) → List Entry → Moment State Call → Drawing → ℕ → Type 0
  Follow n order frames shows items m d left =
      Tells n d (chapter_lines true order frames shows items) (λ e. Stands e.frames e.steps (chapter_frames order frames items) (length (after_all g m (deeds_in call_of order items)).opens) left)

  pub same_follows : (n : ℕ) (order : Order) (frames : List Purpose) (shows : List (List Row)) (items same : List Entry) (m : Moment State Call) (d : Drawing) (left : ℕ) → items ≡ same → Follow n order frames shows same m d left → Follow n order frames shows items m d left
  same_follows n order frames shows items same m d left e h = subst (λ (xs : List Entry). Follow n order frames shows xs m d left) (sym e) h

  -- ---- one item

  pub stays_follow : (n : ℕ) (order : Order) (frames : List Purpose) (shows : List (List Row)) (cause : Held) (items : List Entry) (m : Moment State Call) (d : Drawing) (left : ℕ) → IsOne m n (entry.Stays cause) items →
      Stands d.frames d.steps frames (length m.opens) left → Follow n order frames shows items m d left
  stays_follow n order frames shows cause items m d left is h =
      same_follows n order frames shows items _ m d left is (fits_by d (tells.Held cause) (length m.opens) h.size h.few refl, record { purposes = h.purposes; begun = h.begun; size = h.size; few = h.few; room = h.room })

  reset_follow : (n : ℕ) (reason : Reason) (order : Order) (frames : List Purpose) (shows : List (List Row)) (items : List Entry) (m : Moment State Call) (d : Drawing) (left : ℕ) → IsOne m n (entry.Resets reason (length m.opens)) items →
      Stands d.frames d.steps frames (length m.opens) left → Follow n order frames shows items m d left
  reset_follow n reason order frames shows items m d left is h = same_follows n order frames shows items _ m d left is (reset_told n d reason (length m.opens) frames (length m.opens) left h refl)

  -- ---- steps

  -- what follows a step
  abbrev pub Later : ℕ → Order → List Purpose → List (List Row) → List Entry → Moment State Call → ℕ → Type 0
  Later n order frames shows es m left = (e : Drawing) → Stands e.frames e.steps frames (length m.opens) (steps_in es + left) → Follow n order frames shows es m e left

  step_follows : (n depth : ℕ) (s : Stepped) (order : Order) (frames : List Purpose) (shows : List (List Row)) (es : List Entry) (m : Moment State Call) (d : Drawing) (left : ℕ) → StepIs g m s → depth ≡ length m.opens →
      Stands d.frames d.steps frames (length m.opens) (1 + (steps_in es + left)) → Later n order (frames_after_end frames s.ended) shows es (after g m (Steps s)) left →
      Follow n order frames shows ((record { line = n; depth = depth; said = entry.Steps s }) ∷ es) m d left
  step_follows n depth s order frames shows es m d left step e h later =
      let m1 = after g m (Steps s) in
      let K : Drawing → Type 0 = λ y. Stands y.frames y.steps (chapter_frames order (frames_after_end frames s.ended) es) (length (after_all g m1 (deeds_in call_of order es)).opens) left in
      tells-append n d (said_lines true depth frames (next_rows shows) (steps_next es) (entry.Steps s)) (chapter_lines true order (frames_after_end frames s.ended) shows es) K
      (tells_more n d (said_lines true depth frames (next_rows shows) (steps_next es) (entry.Steps s)) _ _ (λ y k. later y (subst (λ (c : ℕ). Stands y.frames y.steps (frames_after_end frames s.ended) c (steps_in es + left)) (sym step.count) k))
      (step_told n d depth s frames (length m.opens) (steps_in es + left) h step.some e step.mark))

  -- behind a step comes its reset, or nothing, or more
  comes_follow : (n : ℕ) (reach : StopCondition) (made : ℕ) (s : Stepped) (order : Order) (frames : List Purpose) (shows : List (List Row)) (es : List Entry) (m : Moment State Call) (left : ℕ) (More : Type 0) → StepIs g m s →
      ThenComes g n reach made m s es More → (More → 0 < length (after g m (Steps s)).opens → Later n order (frames_after_end frames s.ended) shows es (after g m (Steps s)) left) → Later n order (frames_after_end frames s.ended) shows es (after g m (Steps s)) left
  comes_follow n reach made s order frames shows es m left More step h more =
      let m1 = after g m (Steps s) in
      match_both (resets_chip s.made) (resets_chip s.made) refl h
      (λ resets is e k. reset_follow n Software order (frames_after_end frames s.ended) shows es m1 e left is (stands_less e.frames e.steps (frames_after_end frames s.ended) (length m1.opens) (steps_in es) left k))
      (λ no rest. match_both (is_some s.ended || is_reached reach (made + 1) s) (is_some s.ended || is_reached reach (made + 1) s) refl rest
      (λ stops none e k. same_follows n order (frames_after_end frames s.ended) shows es [] m1 e left none (stands_less e.frames e.steps (frames_after_end frames s.ended) (length m1.opens) (steps_in es) left k))
      (λ on goes. more goes (let there : length m1.opens ≡ length m.opens = step.count ∙ ap (end_count (length m.opens)) (not_ended s.ended (is_reached reach (made + 1) s) on) in rw there step.some)))

  -- ---- waits

  wait_follows : (n depth ticks : ℕ) (order : Order) (frames : List Purpose) (shows : List (List Row)) (es : List Entry) (m : Moment State Call) (d : Drawing) (left : ℕ) → Stands d.frames d.steps frames (length m.opens) (steps_in es + left) →
      Later n order frames shows es (after g m (Happens (orders.Tick ticks))) left → Follow n order frames shows ((record { line = n; depth = depth; said = entry.Happens (orders.Tick ticks) }) ∷ es) m d left
  wait_follows n depth ticks order frames shows es m d left h later =
      let m1 = after g m (Happens (orders.Tick ticks)) in
      let K : Drawing → Type 0 = λ y. Stands y.frames y.steps (chapter_frames order frames es) (length (after_all g m1 (deeds_in call_of order es)).opens) left in
      tells-append n d (wait_lines (steps_next es) ticks) (chapter_lines true order frames shows es) K
      (tells_more n d (wait_lines (steps_next es) ticks) _ _ later (wait_told n d (steps_next es) ticks frames (length m.opens) (steps_in es + left) h))

  -- behind a wait comes the reset that ends it, or the step
  waits_follow : (n ticks : ℕ) (order : Order) (frames : List Purpose) (shows : List (List Row)) (es : List Entry) (m : Moment State Call) (left : ℕ) (More : Type 0) → Waits g n m ticks es More →
      (More → Later n order frames shows es (after g m (Happens (orders.Tick ticks))) left) → Later n order frames shows es (after g m (Happens (orders.Tick ticks))) left
  waits_follow n ticks order frames shows es m left More waits more =
      let over = ends_within (wait_on m.chip waits.unit) (g.machine.expires m.world m.state) in
      match_both over over refl waits.goes
      (λ ends is e k. reset_follow n Watchdog order frames shows es (after g m (Happens (orders.Tick ticks))) e left is.1 (stands_less e.frames e.steps frames (length m.opens) (steps_in es) left k))
      (λ on goes. more goes.2)

  said_follows : HasLines g → (n : ℕ) (reach : StopCondition) (made : ℕ) (order : Order) (frames : List Purpose) (shows : List (List Row)) (line depth : ℕ) (said : Said) (es : List Entry) (m : Moment State Call) (d : Drawing) (left : ℕ) (more : List (Transition Call)) (More : ℕ → Transition Call → Type 0) →
      IsStep g n reach made m (record { line = line; depth = depth; said = said }) es said More → IsLegal g m (deeds_in call_of order ((record { line = line; depth = depth; said = said }) ∷ es) ++ more) → OnChip m.opens →
      Stands d.frames d.steps frames (length m.opens) (steps_in ((record { line = line; depth = depth; said = said }) ∷ es) + left) →
      ((s : Stepped) → More (made + 1) (Steps s) → IsLegal g (after g m (Steps s)) (deeds_in call_of order es ++ more) → OnChip (after g m (Steps s)).opens → 0 < length (after g m (Steps s)).opens → Later n order (frames_after_end frames s.ended) shows es (after g m (Steps s)) left) →
      ((ticks : ℕ) → More made (Happens (orders.Tick ticks)) → IsLegal g (after g m (Happens (orders.Tick ticks))) (deeds_in call_of order es ++ more) → Later n order frames shows es (after g m (Happens (orders.Tick ticks))) left) →
      Follow n order frames shows ((record { line = line; depth = depth; said = said }) ∷ es) m d left
  said_follows lines n reach made order frames shows line depth (entry.Steps s) es m d left more More h legal chip stands ih wait =
      let step = step_is g lines m s chip legal.2 in
      let room : steps_in ((record { line = line; depth = depth; said = entry.Steps s }) ∷ es) + left ≡ 1 + (steps_in es + left) = ap (λ (k : ℕ). k + left) (counted (record { line = line; depth = depth; said = entry.Steps s }) es) ∙ one_and (steps_in es) left in
      step_follows n depth s order frames shows es m d left step h.1 (subst (λ (k : ℕ). Stands d.frames d.steps frames (length m.opens) k) room stands)
      (comes_follow n reach made s order frames shows es m left (More (made + 1) (Steps s)) step h.2 (λ goes some. ih s goes legal.3 step.chip some))
  said_follows lines n reach made order frames shows line depth (entry.Happens (orders.Tick ticks)) es m d left more More h legal chip stands ih wait =
      let room : steps_in ((record { line = line; depth = depth; said = entry.Happens (orders.Tick ticks) }) ∷ es) + left ≡ steps_in es + left = ap (λ (k : ℕ). k + left) (counted (record { line = line; depth = depth; said = entry.Happens (orders.Tick ticks) }) es) ∙ none_and (steps_in es) left in
      wait_follows n depth ticks order frames shows es m d left (subst (λ (k : ℕ). Stands d.frames d.steps frames (length m.opens) k) room stands)
      (waits_follow n ticks order frames shows es m left (More made (Happens (orders.Tick ticks))) h.2 (λ goes. wait ticks goes legal.3))
  said_follows lines n reach made order frames shows line depth (entry.Happens o) es m d left more More h legal chip stands ih wait = absurd h
  said_follows lines n reach made order frames shows line depth entry.Begins es m d left more More h legal chip stands ih wait = absurd h
  said_follows lines n reach made order frames shows line depth (entry.Stays c) es m d left more More h legal chip stands ih wait = absurd h
  said_follows lines n reach made order frames shows line depth (entry.Resets r k) es m d left more More h legal chip stands ih wait = absurd h

  pub steps_follow : HasLines g → (n : ℕ) (reach : StopCondition) (order : Order) (shows : List (List Row)) (left : ℕ) (more : List (Transition Call)) (items : List Entry) (made : ℕ) (frames : List Purpose) (m : Moment State Call) (d : Drawing) →
      GoesOn g n reach made m items → IsLegal g m (deeds_in call_of order items ++ more) → OnChip m.opens → Stands d.frames d.steps frames (length m.opens) (steps_in items + left) → Follow n order frames shows items m d left
  steps_follow lines n reach order shows left more [] made frames m d h legal chip stands = absurd h
  steps_follow lines n reach order shows left more (e ∷ es) made frames m d h legal chip stands =
      said_follows lines n reach made order frames shows e.line e.depth e.said es m d left more (λ k deed. GoesOn g n reach k (after g m deed) es) h legal chip stands
      (λ s goes behind on some y k. steps_follow lines n reach order shows left more es (made + 1) (frames_after_end frames s.ended) (after g m (Steps s)) y goes behind on k)
      (λ ticks goes behind y k. steps_follow lines n reach order shows left more es made frames (after g m (Happens (orders.Tick ticks))) y goes behind chip k)
