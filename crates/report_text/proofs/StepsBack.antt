-- The steps of a directive are read back from what their lines tell.
use Rattle.std.proofs.Common.{◌≡◌, ℕ, suc, ◌+◌, ◌<◌, Bool, true, false, List, [], ◌∷◌, ◌++◌, length, map, Option, Some, None, refl, ◌∙◌, ap, sym, subst, arith, append-nil}
use Rattle.std.specs.Prelude.{◌||◌, is_some, option_map, MatchBool, if◌then◌else◌}
use Rattle.std.specs.List.{list_all}
use Rattle.bench_report.specs.Lines.{Line, Makes, Done}
use Rattle.bench_report.specs.Report.{frames_after_end, move_lines, end_lines, is_stepped, steps_next, wait_lines, chapter_lines, is_traced, with_done}
use Rattle.bench_report.specs.Rows.{Row}
use Rattle.bench_report.specs.declared.frames.Purpose.{Purpose}
use Rattle.bench_report.specs.declared.frames.Purpose.TheVariants as purposes
use Rattle.chip_model.specs.Chip.{Chip, value_of, wait_on}
use Rattle.mcal_base.specs.declared.answer.Answer.{Answer}
use Rattle.mcal_base.specs.declared.directive.Order.{Order}
use Rattle.mcal_base.specs.declared.directive.Order.TheVariants as orders
use Rattle.mcal_base.specs.declared.directive.Reason.TheVariants.{Software, Watchdog}
use Rattle.mcal_base.specs.declared.directive.Request.{Request}
use Rattle.mcal_base.specs.declared.moves.Event.{Event}
use Rattle.mcal_base.specs.declared.moves.Event.TheVariants as events
use Rattle.mcal_base.specs.declared.moves.Move.{Move}
use Rattle.mcal_base.specs.declared.moves.Move.TheVariants as moves
use Rattle.mcal_base.specs.declared.moves.Unit as units
use Rattle.mcal_base.specs.declared.moves.Unit.TheVariants.{Adc0, Adc1, Spi0, Spi1}
use Rattle.mcal_base.specs.declared.register.Reg.TheVariants.{ConverterGo, ConverterAbort, SerialData}
use Rattle.report_text.specs.reading.Reading.{converter_at, serial_at, event_of, ends_next, answer_of, stepped, item, ran_out, steps_of, held_or}
use Rattle.run_model.specs.Entry as entry
use Rattle.run_model.specs.Entry.{Entry, Said}
use Rattle.run_model.specs.Follows.{IsOne, Waits, is_awaiting, ComesAwaited, ThenComes, IsStep, GoesOn, deeds_in, ends_within, is_reached}
use Rattle.run_model.specs.Frame.{Origin, Called, Entered, Open, open_after, top_after, resets_chip}
use Rattle.run_model.specs.Legal.{unit_number, is_converter, StandsAt, EventRight, ReceivedRight, MayEnd, EndRight, LegalStep, IsLegal}
use Rattle.run_model.specs.Moment.{Setting, Moment, Transition, Steps, Happens, after, after_step}
use Rattle.run_model.specs.World.{World}
use Rattle.run_model.specs.declared.item.Stepped.{Stepped}
use Rattle.run_model.specs.declared.stop_condition.StopCondition.{StopCondition}
use Rattle.trace_reader.specs.Told.{mark_of, given, incoming, told}
use Rattle.trace_reader.specs.declared.told.Step.{Step}
use Rattle.trace_reader.specs.declared.told.Told.{Told}
use Rattle.trace_reader.specs.declared.told.Told.TheVariants as tells

pub match_both : {A B C : Type 0} (b t : Bool) → t ≡ b → MatchBool b A B → (t ≡ true → A → C) → (t ≡ false → B → C) → C
match_both true t e h f k = f e h
match_both false t e h f k = k e h

-- ---- what lines tell

-- ok, where it is printed
abbrev pub done_told : Bool → List Told
done_told true = tells.Done ∷ []
done_told false = []

pub told_append : (xs ys : List Line) (more : List Told) → map told (xs ++ ys) ++ more ≡ map told xs ++ (map told ys ++ more)
told_append [] ys more = refl
told_append (x ∷ xs) ys more = ap (λ (ts : List Told). told x ∷ ts) (told_append xs ys more)

told_done : (lines : List Line) → map told (lines ++ Done ∷ []) ≡ map told lines ++ tells.Done ∷ []
told_done [] = refl
told_done (line ∷ lines) = ap (λ (ts : List Told). told line ∷ ts) (told_done lines)

done_by : (b : Bool) (lines : List Line) → map told (if b then lines ++ Done ∷ [] else lines) ≡ map told lines ++ done_told b
done_by true lines = told_done lines
done_by false lines = sym (append-nil (map told lines))

pub all_told : (lines : List Line) → map told (with_done lines) ≡ map told lines ++ done_told (list_all is_traced lines)
all_told lines = done_by (list_all is_traced lines) lines

-- neither a held directive comes first, nor what belongs to the step before
abbrev pub begins_anew : List Told → Bool
begins_anew (tells.Held cause ∷ lines) = false
begins_anew (tells.Returned service reply ∷ lines) = false
begins_anew (tells.Left line ∷ lines) = false
begins_anew (tells.Noted notice ∷ lines) = false
begins_anew (tells.Erred found ∷ lines) = false
begins_anew _ = true

no_end : (lines : List Told) → begins_anew lines ≡ true → ends_next lines ≡ false
no_end (tells.Returned service reply ∷ lines) h = cc
no_end (tells.Left line ∷ lines) h = cc
no_end (tells.Noted notice ∷ lines) h = cc
no_end (tells.Erred found ∷ lines) h = cc
no_end _ h = refl

-- ---- a step, as its line tells it

value_is : (chip : Chip) (made : Move) (value : ℕ) → value ≡ value_of chip made → given made value ≡ value
value_is chip (moves.Read r) value h = refl
value_is chip (moves.Load k) value h = refl
value_is chip _ value h = sym h

received_is : (chip : Chip) (w : World) (made : Move) (received : ℕ) → ReceivedRight chip w made received → incoming made received ≡ received
received_is chip w (moves.Write (SerialData u) v) received h = refl
received_is chip w _ received h = sym h

converter_found : (u : units.Unit) → is_converter u ≡ true → converter_at (unit_number u) ≡ Some u
converter_found Adc0 h = refl
converter_found Adc1 h = refl
converter_found Spi0 h = cc
converter_found Spi1 h = cc

serial_found : (u : units.Unit) → is_converter u ≡ false → serial_at (unit_number u) ≡ Some u
serial_found Adc0 h = cc
serial_found Adc1 h = cc
serial_found Spi0 h = refl
serial_found Spi1 h = refl

event_back : (made : Move) (value : ℕ) (e : Event) → StandsAt e made value → event_of made (Some (mark_of e)) ≡ Some e
event_back made value events.Act h = refl
event_back made value (events.Serve k) h = refl
event_back (moves.Write (ConverterGo k) v) value (events.Start u) h = ap (λ (n : ℕ). option_map (λ x. events.Start x) (converter_at n)) h.1 ∙ ap (λ (o : Option units.Unit). option_map (λ x. events.Start x) o) (converter_found u h.0)
event_back (moves.Write (SerialData k) v) value (events.Start u) h = ap (λ (n : ℕ). option_map (λ x. events.Start x) (serial_at n)) h.1 ∙ ap (λ (o : Option units.Unit). option_map (λ x. events.Start x) o) (serial_found u h.0)
event_back _ value (events.Start u) h = absurd h
event_back (moves.Read (ConverterAbort k)) value (events.Abort u) h = ap (λ (n : ℕ). option_map (λ x. events.Abort x) (converter_at n)) h.1 ∙ ap (λ (o : Option units.Unit). option_map (λ x. events.Abort x) o) (converter_found u h.0)
event_back _ value (events.Abort u) h = absurd h

answer_is : {Call : Type 0} (origin : Origin Call) (o : Open Call) (answer : Answer) → MayEnd origin o answer → answer_of origin o ≡ Some answer
answer_is (Called c) o answer h = h.0
answer_is (Entered l) o answer h = ap (λ (a : Answer). Some a) (sym h.1)

ended_is : {Call : Type 0} (o : Open Call) (ended : Option Answer) → EndRight o ended → (if is_some ended then answer_of o.origin o else None) ≡ ended
ended_is o None h = refl
ended_is o (Some answer) h = answer_is o.origin o answer h.0

-- a step with this end
abbrev with_end : Stepped → Option Answer → Stepped
with_end s ended = record s { ended = ended }

-- ---- the end of the frame comes behind its notice or report

end_told : (frames : List Purpose) (ended : Option Answer) (more : List Told) → 0 < length frames → ends_next more ≡ false → ends_next (map told (end_lines frames ended) ++ more) ≡ is_some ended
end_told frames None more some h = h
end_told [] (Some answer) more some h = absurd (omega arith)
end_told (purposes.Call service ∷ frames) (Some answer) more some h = refl
end_told (purposes.Handler line ∷ frames) (Some answer) more some h = refl

ends_is : (made : Move) (frames : List Purpose) (ended : Option Answer) (more : List Told) → 0 < length frames → ends_next more ≡ false → ends_next (map told (move_lines made ++ end_lines frames ended) ++ more) ≡ is_some ended
ends_is (moves.Note notice) frames ended more some h = end_told frames ended more some h
ends_is (moves.Report found) frames ended more some h = end_told frames ended more some h
ends_is _ frames ended more some h = end_told frames ended more some h

-- an item with this line and depth
abbrev at : (line depth : ℕ) → Said → Entry
at line depth said = record { line = line; depth = depth; said = said }

same_item : (line n depth k : ℕ) (said : Said) → line ≡ n → depth ≡ k → at n k said ≡ at line depth said
same_item line n depth k said e f = ap (λ (x : ℕ). at x k said) (sym e) ∙ ap (λ (x : ℕ). at line x said) (sym f)

awaited_step : (u : ℕ) (said : Said) → is_awaiting u said ≡ true → is_stepped said ≡ true
awaited_step u (entry.Steps s) h = refl
awaited_step u (entry.Happens o) h = cc
awaited_step u entry.Begins h = cc
awaited_step u (entry.Stays c) h = cc
awaited_step u (entry.Resets r k) h = cc

-- a step that waited comes next
pub awaited_next : (u : ℕ) (es : List Entry) → ComesAwaited u es → steps_next es ≡ true
awaited_next u [] h = absurd h
awaited_next u (e ∷ es) h = awaited_step u e.said h

module _ {State Call : Type 0} (g : Setting State Call) where
  pub not_held : (m : Moment State Call) (n : ℕ) (lines : List Told) (items : List Entry) → begins_anew lines ≡ true → held_or m n lines items ≡ items
  not_held m n (tells.Held cause ∷ lines) items h = cc
  not_held m n _ items h = refl

  event_is : (m : Moment State Call) (o : Open Call) (s : Stepped) (e : Option Event) → EventRight g m o s e → event_of s.made (option_map mark_of e) ≡ e
  event_is m o s None h = refl
  event_is m o s (Some e) h = event_back s.made s.value e h.1

  -- a step with this value, word and event, and with the answer where the frame ends
  abbrev made_of : Moment State Call → Open Call → Stepped → (value received : ℕ) → Option Event → (ends : Bool) → Stepped
  made_of m o s value received event ends =
      record { made = s.made; value = value; received = received; event = event; ended = (if ends then answer_of o.origin (open_after g.machine m.world m.state o s.made received event) else None) }

  -- what the line of a step tells
  abbrev told_step : (depth : ℕ) → Stepped → Step
  told_step depth s = record { depth = depth; made = s.made; value = given s.made s.value; received = incoming s.made s.received; mark = option_map mark_of s.event }

  stepped_back : (m : Moment State Call) (os : List (Open Call)) (s : Stepped) (depth : ℕ) → LegalStep g m os s → stepped g m os (told_step depth s) (is_some s.ended) ≡ s
  stepped_back m [] s depth h = absurd h
  stepped_back m (o ∷ os) s depth h =
      let ends = is_some s.ended in
      let event = event_of s.made (option_map mark_of s.event) in
      ap (λ (v : ℕ). made_of m o s v (incoming s.made s.received) event ends) (value_is m.chip s.made s.value h.value)
      ∙ (ap (λ (r : ℕ). made_of m o s s.value r event ends) (received_is m.chip m.world s.made s.received h.received)
      ∙ (ap (λ (e : Option Event). made_of m o s s.value s.received e ends) (event_is m o s s.event h.event)
      ∙ ap (λ (a : Option Answer). with_end s a) (ended_is (open_after g.machine m.world m.state o s.made s.received s.event) s.ended h.ends)))

  -- ---- the frames

  some_frame : (m : Moment State Call) (os : List (Open Call)) (s : Stepped) (frames : List Purpose) → LegalStep g m os s → length frames ≡ length os → 0 < length frames
  some_frame m [] s frames h e = absurd h
  some_frame m (o ∷ os) s frames h e = omega (arith, e)

  fewer : (frames : List Purpose) (x : Open Call) (os : List (Open Call)) (ended : Option Answer) → length frames ≡ suc (length os) → length (frames_after_end frames ended) ≡ length (top_after x ended os)
  fewer frames x os None e = e
  fewer [] x os (Some answer) e = absurd (omega arith)
  fewer (f ∷ frames) x os (Some answer) e = omega (arith, e)

  pub step_frames : (m : Moment State Call) (os : List (Open Call)) (s : Stepped) (frames : List Purpose) → LegalStep g m os s → length frames ≡ length os → length (frames_after_end frames s.ended) ≡ length (after_step g m os s).opens
  step_frames m [] s frames h e = absurd h
  step_frames m (o ∷ os) s frames h e = fewer frames (open_after g.machine m.world m.state o s.made s.received s.event) os s.ended e

  -- ---- what isn't a step's own is passed over

  end_passed : (n : ℕ) (m : Moment State Call) (frames : List Purpose) (ended : Option Answer) (more : List Told) → steps_of g n m (map told (end_lines frames ended) ++ more) ≡ steps_of g n m more
  end_passed n m frames None more = refl
  end_passed n m [] (Some answer) more = refl
  end_passed n m (purposes.Call service ∷ frames) (Some answer) more = refl
  end_passed n m (purposes.Handler line ∷ frames) (Some answer) more = refl

  passed : (n : ℕ) (m : Moment State Call) (made : Move) (frames : List Purpose) (ended : Option Answer) (more : List Told) → steps_of g n m (map told (move_lines made ++ end_lines frames ended) ++ more) ≡ steps_of g n m more
  passed n m (moves.Note notice) frames ended more = end_passed n m frames ended more
  passed n m (moves.Report found) frames ended more = end_passed n m frames ended more
  passed n m _ frames ended more = end_passed n m frames ended more

  -- ---- steps

  module _ (call_of : Request → Call) (n : ℕ) (order : Order) (shows : List (List Row)) (done : Bool) where
    -- what the lines of items tell, with ok behind them where it is printed
    abbrev pub tells_all : List Purpose → List Entry → List Told
    tells_all frames items = map told (chapter_lines true order frames shows items) ++ done_told done

    -- Steps are read back from what their lines tell, which begins anew.
    pub record IsBack (frames : List Purpose) (items : List Entry) (m : Moment State Call) : Type 0 where
      pub anew : begins_anew (tells_all frames items) ≡ true
      pub back : steps_of g n m (tells_all frames items) ≡ items

    nothing_anew : (b : Bool) → begins_anew (done_told b) ≡ true
    nothing_anew true = refl
    nothing_anew false = refl

    nothing_left : (b : Bool) (m : Moment State Call) → steps_of g n m (done_told b) ≡ []
    nothing_left true m = refl
    nothing_left false m = refl

    none_back : (frames : List Purpose) (items : List Entry) (m : Moment State Call) → items ≡ [] → IsBack frames items m
    none_back frames items m is = subst (λ (xs : List Entry). IsBack frames xs m) (sym is) (record { anew = nothing_anew done; back = nothing_left done m })

    software_back : (frames : List Purpose) (items : List Entry) (m : Moment State Call) → IsOne m n (entry.Resets Software (length m.opens)) items → IsBack frames items m
    software_back frames items m is = subst (λ (xs : List Entry). IsBack frames xs m) (sym is) (record { anew = refl; back = refl })

    step_back : (line depth : ℕ) (s : Stepped) (es : List Entry) (frames : List Purpose) (m : Moment State Call) → line ≡ n → depth ≡ length m.opens → length frames ≡ length m.opens → LegalStep g m m.opens s →
        IsBack (frames_after_end frames s.ended) es (after g m (Steps s)) → IsBack frames (at line depth (entry.Steps s) ∷ es) m
    step_back line depth s es frames m e f count legal later =
        let rest = chapter_lines true order (frames_after_end frames s.ended) shows es in
        let own = move_lines s.made ++ end_lines frames s.ended in
        let behind : List Told = map told own ++ (map told rest ++ done_told done) in
        let ends : ends_next behind ≡ is_some s.ended = ends_is s.made frames s.ended (map told rest ++ done_told done) (some_frame m m.opens s frames legal count) (no_end (map told rest ++ done_told done) later.anew) in
        record {
          anew = refl;
          back = ap (λ (ts : List Told). steps_of g n m ts) (told_append (Makes depth s.made s.value s.received s.event ∷ own) rest (done_told done))
              ∙ (ap (λ (t : Stepped). item m n (entry.Steps t) ∷ steps_of g n (after g m (Steps t)) behind) (ap (λ (b : Bool). stepped g m m.opens (told_step depth s) b) ends ∙ stepped_back m m.opens s depth legal)
              ∙ (ap (λ (xs : List Entry). item m n (entry.Steps s) ∷ xs) (passed n (after g m (Steps s)) s.made frames s.ended (map told rest ++ done_told done) ∙ later.back)
              ∙ ap (λ (x : Entry). x ∷ es) (same_item line n depth (length m.opens) (entry.Steps s) e f)));
        }

    -- behind a step comes its reset, or nothing, or more
    comes_back : (reach : StopCondition) (made : ℕ) (s : Stepped) (es : List Entry) (frames : List Purpose) (m : Moment State Call) (More : Type 0) → ThenComes g n reach made m s es More → (More → IsBack frames es (after g m (Steps s))) → IsBack frames es (after g m (Steps s))
    comes_back reach made s es frames m More h more =
        match_both (resets_chip s.made) (resets_chip s.made) refl h
        (λ resets is. software_back frames es (after g m (Steps s)) is)
        (λ no rest. match_both (is_some s.ended || is_reached reach (made + 1) s) (is_some s.ended || is_reached reach (made + 1) s) refl rest
        (λ stops none. none_back frames es (after g m (Steps s)) none)
        (λ on goes. more goes))

    -- behind a wait comes the watchdog's reset, or its step
    ran_back : (line depth ticks : ℕ) (es : List Entry) (frames : List Purpose) (m : Moment State Call) → line ≡ n → depth ≡ length m.opens → g.machine.expires m.world m.state ≡ Some ticks → IsOne m n (entry.Resets Watchdog (length m.opens)) es →
        IsBack frames (at line depth (entry.Happens (orders.Tick ticks)) ∷ es) m
    ran_back line depth ticks es frames m e f left is =
        subst (λ (xs : List Entry). IsBack frames (at line depth (entry.Happens (orders.Tick ticks)) ∷ xs) m) (sym is)
        (record {
          anew = refl;
          back = ap (λ (o : Option ℕ). ran_out m n o ++ item m n (entry.Resets Watchdog (length m.opens)) ∷ []) left
              ∙ ap (λ (x : Entry). x ∷ item m n (entry.Resets Watchdog (length m.opens)) ∷ []) (same_item line n depth (length m.opens) (entry.Happens (orders.Tick ticks)) e f);
        })

    wait_back : (line depth ticks unit : ℕ) (es : List Entry) (frames : List Purpose) (m : Moment State Call) → line ≡ n → depth ≡ length m.opens → ComesAwaited unit es → IsBack frames es (after g m (Happens (orders.Tick ticks))) →
        IsBack frames (at line depth (entry.Happens (orders.Tick ticks)) ∷ es) m
    wait_back line depth ticks unit es frames m e f awaited later =
        let next = awaited_next unit es awaited in
        let rest = chapter_lines true order frames shows es in
        record {
          anew = ap (λ (w : Bool). begins_anew (map told (wait_lines w ticks ++ rest) ++ done_told done)) next;
          back = ap (λ (w : Bool). steps_of g n m (map told (wait_lines w ticks ++ rest) ++ done_told done)) next
              ∙ (ap (λ (xs : List Entry). item m n (entry.Happens (orders.Tick ticks)) ∷ xs) later.back
              ∙ ap (λ (x : Entry). x ∷ es) (same_item line n depth (length m.opens) (entry.Happens (orders.Tick ticks)) e f));
        }

    waits_back : (line depth ticks : ℕ) (es : List Entry) (frames : List Purpose) (m : Moment State Call) (More : Type 0) → line ≡ n → depth ≡ length m.opens → Waits g n m ticks es More → (More → IsBack frames es (after g m (Happens (orders.Tick ticks)))) →
        IsBack frames (at line depth (entry.Happens (orders.Tick ticks)) ∷ es) m
    waits_back line depth ticks es frames m More e f waits more =
        let over = ends_within (wait_on m.chip waits.unit) (g.machine.expires m.world m.state) in
        match_both over over refl waits.goes
        (λ ends is. ran_back line depth ticks es frames m e f is.0 is.1)
        (λ on goes. wait_back line depth ticks waits.unit es frames m e f goes.1 (more goes.2))

    said_back : (reach : StopCondition) (made line depth : ℕ) (said : Said) (es : List Entry) (frames : List Purpose) (m : Moment State Call) (More : ℕ → Transition Call → Type 0) →
        IsStep g n reach made m (at line depth said) es said More → IsLegal g m (deeds_in call_of order (at line depth said ∷ es)) → length frames ≡ length m.opens →
        ((s : Stepped) → More (made + 1) (Steps s) → IsLegal g (after g m (Steps s)) (deeds_in call_of order es) → length (frames_after_end frames s.ended) ≡ length (after g m (Steps s)).opens → IsBack (frames_after_end frames s.ended) es (after g m (Steps s))) →
        ((ticks : ℕ) → More made (Happens (orders.Tick ticks)) → IsLegal g (after g m (Happens (orders.Tick ticks))) (deeds_in call_of order es) → IsBack frames es (after g m (Happens (orders.Tick ticks)))) →
        IsBack frames (at line depth said ∷ es) m
    said_back reach made line depth (entry.Steps s) es frames m More h legal count ih wait =
        step_back line depth s es frames m h.0 h.1 count legal.2
        (comes_back reach made s es (frames_after_end frames s.ended) m (More (made + 1) (Steps s)) h.2 (λ goes. ih s goes legal.3 (step_frames m m.opens s frames legal.2 count)))
    said_back reach made line depth (entry.Happens (orders.Tick ticks)) es frames m More h legal count ih wait =
        waits_back line depth ticks es frames m (More made (Happens (orders.Tick ticks))) h.0 h.1 h.2 (λ goes. wait ticks goes legal.3)
    said_back reach made line depth (entry.Happens o) es frames m More h legal count ih wait = absurd h
    said_back reach made line depth entry.Begins es frames m More h legal count ih wait = absurd h
    said_back reach made line depth (entry.Stays c) es frames m More h legal count ih wait = absurd h
    said_back reach made line depth (entry.Resets r k) es frames m More h legal count ih wait = absurd h

    pub goes_back : (reach : StopCondition) (items : List Entry) (made : ℕ) (frames : List Purpose) (m : Moment State Call) → GoesOn g n reach made m items → IsLegal g m (deeds_in call_of order items) → length frames ≡ length m.opens → IsBack frames items m
    goes_back reach [] made frames m h legal count = absurd h
    goes_back reach (e ∷ es) made frames m h legal count =
        said_back reach made e.line e.depth e.said es frames m (λ k deed. GoesOn g n reach k (after g m deed) es) h legal count
        (λ s goes behind more. goes_back reach es (made + 1) (frames_after_end frames s.ended) (after g m (Steps s)) goes behind more)
        (λ ticks goes behind. goes_back reach es made frames (after g m (Happens (orders.Tick ticks))) goes behind count)
