-- The trace of a legal run is drawn.
use Rattle.std.proofs.Common.{◌≡◌, ℕ, ◌+◌, ◌<◌, Bool, true, false, List, [], ◌∷◌, ◌++◌, length, map, refl, ◌∙◌, ap, sym, subst, arith, cond}
use Rattle.std.specs.Prelude.{Ok}
use Rattle.std.specs.List.{list_all}
use Rattle.std.proofs.lemmas.List.Sums.{sum_by-append}
use Rattle.chip_model.specs.Chip.{Chip}
use Rattle.mcal_base.specs.declared.directive.Directive.{Directive}
use Rattle.mcal_base.specs.declared.directive.Request.{Request}
use Rattle.run_model.specs.Entry.{Entry}
use Rattle.run_model.specs.Follows.{Follows, deeds_in}
use Rattle.run_model.specs.Legal.{IsLegal}
use Rattle.run_model.specs.Moment.{Setting, Moment, Transition, after_all, start_moment}
use Rattle.run_model.specs.Script.{deeds_of}
use Rattle.run_model.specs.Stops.{is_step, steps_in}
use Rattle.script_runner.specs.Scripts.{LinesRise, IsRun}
use Rattle.bench_report.specs.Lines.{Line, Done}
use Rattle.bench_report.specs.Report as report
use Rattle.bench_report.specs.Report.{chapter_lines, chapter_frames, chapter_shows, with_done, own_entries, later_entries, report_lines}
use Rattle.bench_report.specs.Rows.{Row}
use Rattle.bench_report.specs.declared.frames.Purpose.{Purpose}
use Rattle.bench_report.proofs.Items.{any, is_show, Each, lines_of}
use Rattle.trace_reader.specs.Told.{told, told_line}
use Rattle.trace_reader.specs.declared.told.Told.TheVariants as tells
use Rattle.trace_forms.specs.declared.kinds.signs.What.TheVariants as whats
use Rattle.trace_drawing.specs.signs.Drawing as drawing
use Rattle.trace_drawing.specs.signs.Drawing.{Drawing, blank, put, entered, fits, drawn, completed, completed_of}
use Rattle.trace_drawing.specs.declared.signs.moments.Moment as belonging
use Rattle.trace_promises.specs.traces.Drawn.{HasDrawing}
use Rattle.trace_promises.specs.traces.Lines.{HasLines}
use Rattle.trace_promises.proofs.Entering.{first_said, first_at}
use Rattle.trace_promises.proofs.Giving.{gives_chapter}
use Rattle.trace_promises.proofs.Opens.{OnChip, all_chip, legal_behind}
use Rattle.trace_promises.proofs.Runs.{AllAbove, all_above, own_are, later_are, Finds, finds, deeds_split}
use Rattle.trace_promises.proofs.Telling.{Tells, tells-append, tells_more, Stands, fits_by}
use Rattle.trace_promises.proofs.DirectiveLines.{later_moments, chapter_moments, script_moments, moments_are}

-- ---- moments that may follow a drawing

abbrev Drawable : Drawing → List belonging.Moment → Type 0
Drawable d [] = Unit {0}
Drawable d (m ∷ ms) = (fits (entered d m) m.told ≡ true) × Drawable (drawing.told (entered d m) m.number m.told) ms

-- Moments are drawn.
record IsDrawn (place : ℕ) (d : Drawing) (ms : List belonging.Moment) : Type 0 where
  last : Drawing
  is : drawn place d ms ≡ Ok last

drawable_drawn : (place : ℕ) (d : Drawing) (ms : List belonging.Moment) → Drawable d ms → IsDrawn place d ms
drawable_drawn place d [] h = record { last = d; is = refl }
drawable_drawn place d (m ∷ ms) h =
    let rest = drawable_drawn (place + 1) (drawing.told (entered d m) m.number m.told) ms h.1 in
    record { last = rest.last; is = rw h.0 rest.is }

later_drawable : (n : ℕ) (d : Drawing) (lines : List Line) (ms : List belonging.Moment) → Tells n d lines (λ e. Drawable e ms) → Drawable d (later_moments n lines ++ ms)
later_drawable n d [] ms h = h
later_drawable n d (line ∷ lines) ms h = (h.0, later_drawable n (drawing.told d n (told line)) lines ms h.1)

-- ---- a directive

-- a directive that says nothing else says so
done_drawable : (n : ℕ) (e : Drawing) (frames : List Purpose) (count left : ℕ) (ms : List belonging.Moment) → Stands e.frames e.steps frames count left → ((x : Drawing) → Stands x.frames x.steps frames count left → Drawable x ms) → Tells n e (Done ∷ []) (λ x. Drawable x ms)
done_drawable n e frames count left ms h k = (fits_by e tells.Done count h.size h.few refl, k (put e n whats.Done) (record { purposes = h.purposes; begun = h.begun; size = h.size; few = h.few; room = h.room }))

chapter_by : (b : Bool) (d : Directive) (x : Drawing) (line : Line) (lines : List Line) (frames : List Purpose) (count left : ℕ) (ms : List belonging.Moment) → Tells d.line (entered x (first_at d.line d.order line)) (line ∷ lines) (λ e. Stands e.frames e.steps frames count left) →
    ((e : Drawing) → Stands e.frames e.steps frames count left → Drawable e ms) → Drawable x (chapter_moments d (cond b ((line ∷ lines) ++ Done ∷ []) (line ∷ lines)) ++ ms)
chapter_by true d x line lines frames count left ms h k =
    (h.0, later_drawable d.line _ (lines ++ Done ∷ []) ms (tells-append d.line _ lines (Done ∷ []) (λ e. Drawable e ms) (tells_more d.line _ lines _ _ (λ e s. done_drawable d.line e frames count left ms s k) h.1)))
chapter_by false d x line lines frames count left ms h k = (h.0, later_drawable d.line _ lines ms (tells_more d.line _ lines _ _ k h.1))

chapter_drawable : (d : Directive) (x : Drawing) (lines : List Line) (frames : List Purpose) (count left : ℕ) (ms : List belonging.Moment) → Tells d.line (entered x (first_at d.line d.order (first_said lines))) lines (λ e. Stands e.frames e.steps frames count left) →
    ((e : Drawing) → Stands e.frames e.steps frames count left → Drawable e ms) → Drawable x (chapter_moments d (with_done lines) ++ ms)
chapter_drawable d x [] frames count left ms h k = done_drawable d.line (entered x (first_at d.line d.order Done)) frames count left ms h k
chapter_drawable d x (line ∷ lines) frames count left ms h k = chapter_by (list_all report.is_traced (line ∷ lines)) d x line lines frames count left ms h k

-- ---- a script

steps_parted : (first later : List Entry) → steps_in (first ++ later) ≡ steps_in first + steps_in later
steps_parted first later = sum_by-append (λ (e : Entry). cond (is_step e.said) 1 0) first later

module _ {State Call : Type 0} (g : Setting State Call) (call_of : Request → Call) (lines : HasLines g) (all : List Directive) where
  script_drawable : (low : ℕ) (script : List Directive) (frames : List Purpose) (shows : List (List Row)) (es : List Entry) (m : Moment State Call) (x : Drawing) → LinesRise low script → Finds g call_of all script → Follows g call_of m script es → IsLegal g m (deeds_of call_of all es) →
      OnChip m.opens → Stands x.frames x.steps frames (length m.opens) (steps_in es) → Drawable x (script_moments frames shows script es)
  script_drawable low [] frames shows es m x rise found h legal chip stands = tt
  script_drawable low (d ∷ script) frames shows es m x rise found h legal chip stands =
      let own : Each d.line any h.first = lines_of g call_of m d.line d.order h.first (is_show d.order) refl h.gives in
      let above : AllAbove d.line h.later = all_above g call_of d.line script _ h.later rise.1 h.rest in
      let deeds = deeds_in call_of d.order h.first in
      let behind : IsLegal g m (deeds ++ deeds_of call_of all h.later) = subst (λ (xs : List (Transition Call)). IsLegal g m xs) (ap (deeds_of call_of all) h.is ∙ deeds_split g call_of all d.line d.order h.first h.later found.0 own) legal in
      let ready : Stands x.frames x.steps frames (length m.opens) (steps_in h.first + steps_in h.later) = subst (λ (k : ℕ). Stands x.frames x.steps frames (length m.opens) k) (ap steps_in h.is ∙ steps_parted h.first h.later) stands in
      let m1 = after_all g m deeds in
      let told_first = gives_chapter g call_of lines d.line d.order frames shows h.first m x (steps_in h.later) (deeds_of call_of all h.later) h.gives behind chip ready in
      let parted : own_entries d.line es ≡ h.first = ap (λ (xs : List Entry). own_entries d.line xs) h.is ∙ own_are d.line h.first h.later own above in
      let others : later_entries d.line es ≡ h.later = ap (λ (xs : List Entry). later_entries d.line xs) h.is ∙ later_are d.line h.first h.later own above in
      subst (λ (xs : List Entry). Drawable x (chapter_moments d (with_done (chapter_lines true d.order frames shows xs)) ++ script_moments (chapter_frames d.order frames xs) (chapter_shows shows xs) script (later_entries d.line es))) (sym parted)
      (subst (λ (xs : List Entry). Drawable x (chapter_moments d (with_done (chapter_lines true d.order frames shows h.first)) ++ script_moments (chapter_frames d.order frames h.first) (chapter_shows shows h.first) script xs)) (sym others)
      (chapter_drawable d x (chapter_lines true d.order frames shows h.first) (chapter_frames d.order frames h.first) (length m1.opens) (steps_in h.later) _ told_first
      (λ e s. script_drawable d.line script (chapter_frames d.order frames h.first) (chapter_shows shows h.first) h.later m1 e rise.1 found.1 h.rest
      (legal_behind g m deeds (deeds_of call_of all h.later) behind) (all_chip g lines m deeds (deeds_of call_of all h.later) chip behind) s)))

-- the trace of a legal run of a script is drawn
pub run_is_drawn : {State Call : Type 0} (g : Setting State Call) (call_of : Request → Call) → HasLines g → (first : Chip) (script : List Directive) (es : List Entry) (shows : List (List Row)) → LinesRise 0 script → IsRun g first call_of script es → steps_in es < 18446744073709551615 →
    HasDrawing script (map told_line (report_lines true [] shows script es))
run_is_drawn g call_of lines first script es shows rise run few =
    let stands : Stands blank.frames blank.steps [] 0 (steps_in es) = record { purposes = refl; begun = tt; size = refl; few = omega arith; room = omega (arith, few) } in
    let d = drawable_drawn 0 blank (script_moments [] shows script es) (script_drawable g call_of lines script 0 script [] shows es (start_moment g first) blank rise (finds g call_of 0 script rise) run.follows run.legal tt stands) in
    record {
      moments = script_moments [] shows script es;
      belong = moments_are 0 script rise [] [] shows es;
      drawing = completed d.last;
      drawn = ap completed_of d.is;
    }
