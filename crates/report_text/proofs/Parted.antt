-- A journal that follows a script, and its report, directive by directive.
use Rattle.std.proofs.Common.{◌≡◌, ℕ, suc, ◌<◌, Bool, true, false, List, [], ◌∷◌, ◌++◌, Some, refl, ◌∙◌, ap, sym, subst, arith, cond, append_assoc}
use Rattle.std.specs.Prelude.{◌==◌, slice_get}
use Rattle.std.proofs.lemmas.Bool.{eq-eqb}
use Rattle.std.proofs.lemmas.Bool.Decides.{nat_tests}
use Rattle.bench_report.proofs.Items.{any, is_show, Each as EachOf, lines_of}
use Rattle.bench_report.specs.Lines.{Line, numbered, end_text}
use Rattle.bench_report.specs.Numbers.{IsNumber, Each, EntryFits}
use Rattle.bench_report.specs.Report.{Numbered, own_entries, later_entries, chapter_lines, chapter_frames, chapter_shows, with_done, all_numbered, report_lines}
use Rattle.bench_report.specs.Rows.{Row}
use Rattle.bench_report.specs.declared.frames.Purpose.{Purpose}
use Rattle.bench_report.specs.declared.tally.Tally.{Tally}
use Rattle.mcal_base.specs.declared.directive.Directive.{Directive}
use Rattle.mcal_base.specs.declared.directive.Order.{Order}
use Rattle.mcal_base.specs.declared.directive.Request.{Request}
use Rattle.report_text.specs.reading.Blocks.{printed}
use Rattle.report_text.specs.reading.Fits.{DirectiveFits, PurposeFits}
use Rattle.report_text.proofs.Places.{IsPrinted, lines_printed, frames_left}
use Rattle.report_text.proofs.Texts.{StopsAt, stops_end, stops_later}
use Rattle.run_model.specs.Entry.{Entry}
use Rattle.run_model.specs.Follows.{Follows, deeds_in}
use Rattle.run_model.specs.Moment.{Setting, Moment, Transition}
use Rattle.run_model.specs.Script.{order_at, deed_of, deeds_of}
use Rattle.run_model.proofs.Following.{deeds_of-append}
use Rattle.script_runner.specs.Scripts.{LinesRise}
use Rattle.script_runner.proofs.Scripts.{at_line}
use Rattle.trace_reader.specs.Trace.{lines_text}

-- ---- items by their lines

-- all lines are above this one
abbrev pub AllAbove : ℕ → List Entry → Type 0
AllAbove low [] = Unit {0}
AllAbove low (e ∷ es) = (low < e.line) × AllAbove low es

above_both : (low line : ℕ) (first later : List Entry) → low < line → EachOf line any first → AllAbove line later → AllAbove low (first ++ later)
above_both low line [] [] lt h k = tt
above_both low line [] (e ∷ es) lt h k = (omega (arith, lt, k.0), above_both low line [] es lt tt k.1)
above_both low line (e ∷ es) later lt h k = (omega (arith, lt, h.0), above_both low line es later lt h.2 k)

other_line : (line : ℕ) (e : Entry) → line < e.line → (e.line == line) ≡ false
other_line line e lt = grind (arith, nat_tests)

none_own : (line : ℕ) (later : List Entry) → AllAbove line later → own_entries line later ≡ []
none_own line [] h = refl
none_own line (e ∷ es) h = rw (other_line line e h.0) refl

none_later : (line : ℕ) (later : List Entry) → AllAbove line later → later_entries line later ≡ later
none_later line [] h = refl
none_later line (e ∷ es) h = rw (other_line line e h.0) refl

pub own_are : (line : ℕ) (first later : List Entry) → EachOf line any first → AllAbove line later → own_entries line (first ++ later) ≡ first
own_are line [] later h k = none_own line later k
own_are line (e ∷ es) later h k = rw (eq-eqb e.line line h.0) (ap (λ (xs : List Entry). e ∷ xs) (own_are line es later h.2 k))

pub later_are : (line : ℕ) (first later : List Entry) → EachOf line any first → AllAbove line later → later_entries line (first ++ later) ≡ later
later_are line [] later h k = none_later line later k
later_are line (e ∷ es) later h k = rw (eq-eqb e.line line h.0) (later_are line es later h.2 k)

pub each_parts : {T : Type 0} (P : T → Type 0) (xs ys : List T) → Each P (xs ++ ys) → Each P xs × Each P ys
each_parts P [] ys h = (tt, h)
each_parts P (x ∷ xs) ys h = let parts : Each P xs × Each P ys = each_parts P xs ys h.1 in ((h.0, parts.0), parts.1)

module _ {State Call : Type 0} (g : Setting State Call) (call_of : Request → Call) where
  pub own_line : (m : Moment State Call) (d : Directive) (ds : List Directive) (es : List Entry) (h : Follows g call_of m (d ∷ ds) es) → EachOf d.line any h.first
  own_line m d ds es h = lines_of g call_of m d.line d.order h.first (is_show d.order) refl h.gives

  pub all_above : (low : ℕ) (ds : List Directive) (m : Moment State Call) (es : List Entry) → LinesRise low ds → Follows g call_of m ds es → AllAbove low es
  all_above low [] m es rise h = subst (λ (xs : List Entry). AllAbove low xs) (sym h) tt
  all_above low (d ∷ ds) m es rise h =
      subst (λ (xs : List Entry). AllAbove low xs) (sym h.is) (above_both low d.line h.first h.later rise.0 (own_line m d ds es h) (all_above d.line ds _ h.later rise.1 h.rest))

  -- ---- the deeds of a directive

  -- each directive's order is found at its line
  abbrev pub Finds : List Directive → List Directive → Type 0
  Finds script [] = Unit {0}
  Finds script (d ∷ ds) = (order_at script d.line ≡ Some d.order) × Finds script ds

  finds_by : (script ds : List Directive) → ((k : ℕ) (d : Directive) → slice_get ds k ≡ Some d → order_at script d.line ≡ Some d.order) → Finds script ds
  finds_by script [] f = tt
  finds_by script (d ∷ ds) f = (f 0 d refl, finds_by script ds (λ k x e. f (suc k) x e))

  pub finds : (low : ℕ) (script : List Directive) → LinesRise low script → Finds script script
  finds low script rise = finds_by script script (λ k d e. at_line low script k d rise e)

  same_deeds : (script : List Directive) (line : ℕ) (order : Order) (es : List Entry) → order_at script line ≡ Some order → EachOf line any es → deeds_of call_of script es ≡ deeds_in call_of order es
  same_deeds script line order [] found h = refl
  same_deeds script line order (e ∷ es) found h =
      ap (λ (n : ℕ). deed_of call_of (order_at script n) e.said ++ deeds_of call_of script es) h.0
      ∙ (ap (λ o. deed_of call_of o e.said ++ deeds_of call_of script es) found
      ∙ ap (λ (xs : List (Transition Call)). deed_of call_of (Some order) e.said ++ xs) (same_deeds script line order es found h.2))

  pub deeds_split : (script : List Directive) (line : ℕ) (order : Order) (first later : List Entry) → order_at script line ≡ Some order → EachOf line any first → deeds_of call_of script (first ++ later) ≡ deeds_in call_of order first ++ deeds_of call_of script later
  deeds_split script line order first later found h = deeds_of-append call_of script first later ∙ ap (λ (xs : List (Transition Call)). xs ++ deeds_of call_of script later) (same_deeds script line order first found h)

-- ---- the text of a report

-- the lines of a directive stand in front of the others
pub text_more : (n : ℕ) (lines : List Line) (others : List Numbered) (end : List ℕ) → lines_text (all_numbered n lines ++ others) ++ end ≡ printed n lines ++ (lines_text others ++ end)
text_more n [] others end = refl
text_more n (line ∷ lines) others end =
    append_assoc (numbered n line) (lines_text (all_numbered n lines ++ others)) end
    ∙ (ap (λ (bs : List ℕ). numbered n line ++ bs) (text_more n lines others end) ∙ sym (append_assoc (numbered n line) (printed n lines) (lines_text others ++ end)))

-- the next line is of a later directive
abbrev pub StartsLater : ℕ → List Numbered → Type 0
StartsLater n [] = Unit {0}
StartsLater n (line ∷ lines) = (n < line.number) × IsNumber line.number × IsPrinted line.says

later_still : (low n : ℕ) (lines : List Numbered) → low < n → StartsLater n lines → StartsLater low lines
later_still low n [] lt h = tt
later_still low n (line ∷ lines) lt h = (omega (arith, lt, h.0), h.1, h.2)

later_by : (low n : ℕ) (lines : List Line) (others : List Numbered) → low < n → IsNumber n → Each IsPrinted lines → StartsLater n others → StartsLater low (all_numbered n lines ++ others)
later_by low n [] others lt i fits h = later_still low n others lt h
later_by low n (line ∷ lines) others lt i fits h = (lt, i, fits.0)

each_own : (b : Bool) (e : Entry) (es : List Entry) → EntryFits e → Each EntryFits es → Each EntryFits (cond b (e ∷ es) [])
each_own true e es h k = (h, k)
each_own false e es h k = tt

own_fit : (line : ℕ) (es : List Entry) → Each EntryFits es → Each EntryFits (own_entries line es)
own_fit line [] h = tt
own_fit line (e ∷ es) h = each_own (e.line == line) e (own_entries line es) h.0 (own_fit line es h.1)

each_later : (b : Bool) (e : Entry) (es others : List Entry) → Each EntryFits (e ∷ es) → Each EntryFits others → Each EntryFits (cond b others (e ∷ es))
each_later true e es others h k = k
each_later false e es others h k = h

later_fit : (line : ℕ) (es : List Entry) → Each EntryFits es → Each EntryFits (later_entries line es)
later_fit line [] h = tt
later_fit line (e ∷ es) h = each_later (e.line == line) e es (later_entries line es) h (later_fit line es h.1)

pub starts_later : (low : ℕ) (ds : List Directive) (frames : List Purpose) (shows : List (List Row)) (es : List Entry) → LinesRise low ds → Each DirectiveFits ds → Each PurposeFits frames → Each EntryFits es →
    StartsLater low (report_lines true frames shows ds es)
starts_later low [] frames shows es rise d f h = tt
starts_later low (x ∷ xs) frames shows es rise d f h =
    let own = own_entries x.line es in
    later_by low x.line (with_done (chapter_lines true x.order frames shows own)) _ rise.0 d.0.0 (lines_printed x.order frames shows own d.0.1 f (own_fit x.line es h))
    (starts_later x.line xs (chapter_frames x.order frames own) (chapter_shows shows own) (later_entries x.line es) rise.1 d.1 (frames_left x.order frames own d.0.1 f) (later_fit x.line es h))

pub stops_text : (n : ℕ) (lines : List Numbered) (tally : Tally) → IsNumber n → StartsLater n lines → StopsAt n (lines_text lines ++ end_text tally)
stops_text n [] tally i h = stops_end n tally i
stops_text n (line ∷ lines) tally i h =
    subst (λ (text : List ℕ). StopsAt n text) (sym (append_assoc (numbered line.number line.says) (lines_text lines) (end_text tally)))
    (stops_later n line.number line.says (lines_text lines ++ end_text tally) i h.1 h.0 h.2)
