-- The journal of a run is read from its report.
use Rattle.std.proofs.Common.{◌≡◌, ℕ, true, List, [], ◌∷◌, ◌++◌, length, map, refl, ◌∙◌, ap, sym, subst}
use Rattle.std.specs.Prelude.{count_by}
use Rattle.bench_report.specs.Lines.{end_text}
use Rattle.bench_report.specs.Numbers.{Each, EntryFits}
use Rattle.bench_report.specs.Report.{own_entries, later_entries, chapter_lines, chapter_frames, chapter_shows, with_done, all_numbered, Numbered, report_lines, report, is_return, is_leave, is_hold, is_error, is_note}
use Rattle.bench_report.specs.Rows.{Row}
use Rattle.bench_report.specs.declared.frames.Purpose.{Purpose}
use Rattle.bench_report.specs.declared.tally.Tally.{Tally}
use Rattle.chip_model.specs.Chip.{Chip}
use Rattle.mcal_base.specs.declared.directive.Directive.{Directive}
use Rattle.mcal_base.specs.declared.directive.Request.{Request}
use Rattle.report_text.specs.reading.Blocks.{own_lines, behind}
use Rattle.report_text.specs.reading.Fits.{DirectiveFits, PurposeFits}
use Rattle.report_text.specs.reading.Reading.{items_of, told_in, read_from, read_report}
use Rattle.report_text.proofs.LinesBack.{lines_back}
use Rattle.report_text.proofs.Parted.{AllAbove, own_are, later_are, each_parts, own_line, all_above, Finds, finds, deeds_split, text_more, starts_later, stops_text}
use Rattle.report_text.proofs.Places.{lines_printed, frames_left, frames_count}
use Rattle.report_text.proofs.Texts.{block_own, block_behind}
use Rattle.run_model.specs.Entry.{Entry}
use Rattle.run_model.specs.Follows.{Follows, deeds_in}
use Rattle.run_model.specs.Legal.{IsLegal}
use Rattle.run_model.specs.Moment.{Setting, Moment, Transition, start_moment, after_all}
use Rattle.run_model.specs.Script.{deeds_of}
use Rattle.run_model.proofs.LegalLaws.{legal-parts}
use Rattle.script_runner.specs.Scripts.{LinesRise, IsRun}
use Rattle.trace_reader.specs.Reading.{line_with, parts_of}
use Rattle.trace_reader.specs.Trace.{lines_text}

-- what the last line of a report counts
abbrev pub counted_by : List Numbered → Tally
counted_by lines = record {
  calls = count_by (λ l. is_return l.says) lines;
  handlers = count_by (λ l. is_leave l.says) lines;
  held = count_by (λ l. is_hold l.says) lines;
  errors = count_by (λ l. is_error l.says) lines;
  notes = count_by (λ l. is_note l.says) lines;
}

module _ {State Call : Type 0} (g : Setting State Call) (call_of : Request → Call) (script : List Directive) (tally : Tally) where
  -- the text of what is left of a report
  abbrev pub left_text : List Numbered → List ℕ
  left_text lines = lines_text lines ++ end_text tally

  -- Where the reading of a report has come.
  pub record Comes (low : ℕ) (ds : List Directive) (m : Moment State Call) (frames : List Purpose) (shows : List (List Row)) (es : List Entry) : Type 0 where
    pub rise : LinesRise low ds
    pub finds : Finds g call_of script ds
    pub script_fits : Each DirectiveFits ds
    pub fits : Each EntryFits es
    pub frames_fit : Each PurposeFits frames
    pub begun : length frames ≡ length m.opens
    pub legal : IsLegal g m (deeds_of call_of script es)

  -- A report from there on, cut behind the lines of its first directive, which has these items.
  pub record Cut (d : Directive) (ds : List Directive) (m : Moment State Call) (frames : List Purpose) (shows : List (List Row)) (es first later : List Entry) : Type 0 where
    pub next : Comes d.line ds (after_all g m (deeds_in call_of d.order first)) (chapter_frames d.order frames first) (chapter_shows shows first) later
    pub fit : Each EntryFits first
    pub legal_first : IsLegal g m (deeds_in call_of d.order first)
    pub above : AllAbove d.line later
    pub own : own_lines d.line (parts_of (left_text (report_lines true frames shows (d ∷ ds) es))) ≡ map (λ line. line_with d.line line) (with_done (chapter_lines true d.order frames shows first))
    pub read : items_of g call_of m d (told_in (own_lines d.line (parts_of (left_text (report_lines true frames shows (d ∷ ds) es))))) ≡ first
    pub rest : behind d.line (parts_of (left_text (report_lines true frames shows (d ∷ ds) es))) ≡ parts_of (left_text (report_lines true (chapter_frames d.order frames first) (chapter_shows shows first) ds later))

  -- the lines of a directive with these items, and those of the others
  abbrev lines_by : List Purpose → List (List Row) → Directive → List Directive → (first later : List Entry) → List Numbered
  lines_by frames shows d ds first later = all_numbered d.line (with_done (chapter_lines true d.order frames shows first)) ++ report_lines true (chapter_frames d.order frames first) (chapter_shows shows first) ds later

  pub cut : (low : ℕ) (d : Directive) (ds : List Directive) (m : Moment State Call) (frames : List Purpose) (shows : List (List Row)) (es : List Entry) → Comes low (d ∷ ds) m frames shows es → (h : Follows g call_of m (d ∷ ds) es) → Cut d ds m frames shows es h.first h.later
  cut low d ds m frames shows es c h =
      let own = own_line g call_of m d ds es h in
      let above = all_above g call_of d.line ds (after_all g m (deeds_in call_of d.order h.first)) h.later c.rise.1 h.rest in
      let first : own_entries d.line es ≡ h.first = ap (own_entries d.line) h.is ∙ own_are d.line h.first h.later own above in
      let later : later_entries d.line es ≡ h.later = ap (later_entries d.line) h.is ∙ later_are d.line h.first h.later own above in
      let fits : Each EntryFits h.first × Each EntryFits h.later = each_parts EntryFits h.first h.later (subst (λ (xs : List Entry). Each EntryFits xs) h.is c.fits) in
      let deeds : deeds_of call_of script es ≡ deeds_in call_of d.order h.first ++ deeds_of call_of script h.later = ap (deeds_of call_of script) h.is ∙ deeds_split g call_of script d.line d.order h.first h.later c.finds.0 own in
      let legal : IsLegal g m (deeds_in call_of d.order h.first) × IsLegal g (after_all g m (deeds_in call_of d.order h.first)) (deeds_of call_of script h.later) =
      legal-parts g m (deeds_in call_of d.order h.first) (deeds_of call_of script h.later) (subst (λ (xs : List (Transition Call)). IsLegal g m xs) deeds c.legal) in
      let next : Comes d.line ds (after_all g m (deeds_in call_of d.order h.first)) (chapter_frames d.order frames h.first) (chapter_shows shows h.first) h.later = record {
        rise = c.rise.1;
        finds = c.finds.1;
        script_fits = c.script_fits.1;
        fits = fits.1;
        frames_fit = frames_left d.order frames h.first c.script_fits.0.1 c.frames_fit;
        begun = frames_count g call_of d.order h.first frames m c.begun legal.0;
        legal = legal.1;
      } in
      let lines = with_done (chapter_lines true d.order frames shows h.first) in
      let others = report_lines true (chapter_frames d.order frames h.first) (chapter_shows shows h.first) ds h.later in
      let text = ap (λ (xs : List Entry). left_text (lines_by frames shows d ds xs (later_entries d.line es))) first
      ∙ (ap (λ (xs : List Entry). left_text (lines_by frames shows d ds h.first xs)) later ∙ text_more d.line lines others (end_text tally)) in
      let lines_fits = lines_printed d.order frames shows h.first c.script_fits.0.1 c.frames_fit fits.0 in
      let stops = stops_text d.line others tally c.script_fits.0.0 (starts_later d.line ds (chapter_frames d.order frames h.first) (chapter_shows shows h.first) h.later c.rise.1 c.script_fits.1 next.frames_fit fits.1) in
      let own_is = ap (λ (bs : List ℕ). own_lines d.line (parts_of bs)) text ∙ block_own d.line lines (left_text others) c.script_fits.0.0 lines_fits stops in
      record {
        next = next;
        fit = fits.0;
        legal_first = legal.0;
        above = above;
        own = own_is;
        read = ap (λ (ls : List (List ℕ)). items_of g call_of m d (told_in ls)) own_is ∙ lines_back g call_of m frames shows d.line c.script_fits.0.0 d.order h.first c.script_fits.0.1 c.frames_fit fits.0 c.begun h.gives legal.0;
        rest = ap (λ (bs : List ℕ). behind d.line (parts_of bs)) text ∙ block_behind d.line lines (left_text others) c.script_fits.0.0 lines_fits stops;
      }

  all_read : (ds : List Directive) (low : ℕ) (m : Moment State Call) (frames : List Purpose) (shows : List (List Row)) (es : List Entry) → Comes low ds m frames shows es → Follows g call_of m ds es →
      read_from g call_of m ds (parts_of (left_text (report_lines true frames shows ds es))) ≡ es
  all_read [] low m frames shows es c h = sym h
  all_read (d ∷ ds) low m frames shows es c h =
      let k = cut low d ds m frames shows es c h in
      let m1 = after_all g m (deeds_in call_of d.order h.first) in
      let left = parts_of (left_text (report_lines true frames shows (d ∷ ds) es)) in
      ap (λ (xs : List Entry). xs ++ read_from g call_of (after_all g m (deeds_in call_of d.order xs)) ds (behind d.line left)) k.read
      ∙ (ap (λ (ps : List (List ℕ)). h.first ++ read_from g call_of m1 ds ps) k.rest
      ∙ (ap (λ (xs : List Entry). h.first ++ xs) (all_read ds d.line m1 (chapter_frames d.order frames h.first) (chapter_shows shows h.first) h.later k.next h.rest) ∙ sym h.is))

pub reads_reports : {State Call : Type 0} (g : Setting State Call) (call_of : Request → Call) (first : Chip) (script : List Directive) (journal : List Entry) (shows : List (List Row)) →
    LinesRise 0 script → Each DirectiveFits script → Each EntryFits journal → IsRun g first call_of script journal → read_report g call_of (start_moment g first) script (report true script journal shows) ≡ journal
reads_reports g call_of first script journal shows rise d h run =
    all_read g call_of script (counted_by (report_lines true [] shows script journal)) script 0 (start_moment g first) [] shows journal
    (record { rise = rise; finds = finds g call_of 0 script rise; script_fits = d; fits = h; frames_fit = tt; begun = refl; legal = run.legal })
    run.follows
