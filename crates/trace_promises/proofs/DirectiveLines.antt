-- The lines of a report belong to the directives of its script: each has at least one, and those behind are of others.
use Rattle.std.proofs.Common.{◌≡◌, ℕ, ◌+◌, ◌<◌, Bool, true, false, List, [], ◌∷◌, ◌++◌, length, map, refl, ◌∙◌, ap, sym, arith, cond, append_assoc, append-nil, length-append}
use Rattle.std.specs.Prelude.{◌==◌, Ok}
use Rattle.std.specs.List.{list_all}
use Rattle.std.proofs.lemmas.Bool.Decides.{nat_tests}
use Rattle.mcal_base.specs.facts.Numbers.{eq_self}
use Rattle.mcal_base.specs.declared.directive.Directive.{Directive}
use Rattle.run_model.specs.Entry.{Entry}
use Rattle.script_runner.specs.Scripts.{LinesRise}
use Rattle.bench_report.specs.Lines.{Line, Done}
use Rattle.bench_report.specs.Report.{Numbered, chapter_lines, chapter_frames, chapter_shows, is_traced, with_done, own_entries, later_entries, all_numbered, report_lines}
use Rattle.bench_report.specs.Rows.{Row}
use Rattle.bench_report.specs.declared.frames.Purpose.{Purpose}
use Rattle.trace_reader.specs.Told.{told_line}
use Rattle.trace_reader.specs.declared.told.TraceLine.{TraceLine}
use Rattle.trace_drawing.specs.signs.Moments.{first_of, later_of, own_lines, lines_behind, moments_from}
use Rattle.trace_drawing.specs.declared.signs.moments.Moment.{Moment}

-- a line with its number, as it is told
abbrev pub line_at : ℕ → Line → TraceLine
line_at n line = told_line (record { number = n; says = line })

-- the lines of a directive, each as it belongs to it
abbrev pub later_moments : ℕ → List Line → List Moment
later_moments n lines = map (λ line. later_of (line_at n line)) lines

abbrev pub chapter_moments : Directive → List Line → List Moment
chapter_moments d [] = []
chapter_moments d (line ∷ lines) = first_of d (line_at d.line line) ∷ later_moments d.line lines

abbrev pub script_moments : List Purpose → List (List Row) → List Directive → List Entry → List Moment
script_moments frames shows [] es = []
script_moments frames shows (d ∷ script) es =
    let own = own_entries d.line es in
    chapter_moments d (with_done (chapter_lines true d.order frames shows own)) ++ script_moments (chapter_frames d.order frames own) (chapter_shows shows own) script (later_entries d.line es)

-- ---- numbers rise

AllAbove : ℕ → List Numbered → Type 0
AllAbove low [] = Unit {0}
AllAbove low (line ∷ lines) = (low < line.number) × AllAbove low lines

above_append : (low : ℕ) (xs ys : List Numbered) → AllAbove low xs → AllAbove low ys → AllAbove low (xs ++ ys)
unfolding AllAbove
above_append low [] ys h k = k
above_append low (x ∷ xs) ys h k = (h.0, above_append low xs ys h.1 k)

above_own : (low n : ℕ) (lines : List Line) → low < n → AllAbove low (all_numbered n lines)
unfolding AllAbove
above_own low n [] lt = tt
above_own low n (line ∷ lines) lt = (lt, above_own low n lines lt)

above_more : (low n : ℕ) (lines : List Numbered) → low < n → AllAbove n lines → AllAbove low lines
unfolding AllAbove
above_more low n [] lt h = tt
above_more low n (line ∷ lines) lt h = (omega (arith, lt, h.0), above_more low n lines lt h.1)

lines_above : (low : ℕ) (script : List Directive) (frames : List Purpose) (shows : List (List Row)) (es : List Entry) → LinesRise low script → AllAbove low (report_lines true frames shows script es)
unfolding AllAbove
lines_above low [] frames shows es h = tt
lines_above low (d ∷ script) frames shows es h =
    let own = own_entries d.line es in
    above_append low (all_numbered d.line (with_done (chapter_lines true d.order frames shows own))) _ (above_own low d.line (with_done (chapter_lines true d.order frames shows own)) h.0)
    (above_more low d.line _ h.0 (lines_above d.line script (chapter_frames d.order frames own) (chapter_shows shows own) (later_entries d.line es) h.1))

-- ---- cut between directives

other_line : (low n : ℕ) → low < n → (n == low) ≡ false
other_line low n h = grind (arith, nat_tests)

none_own : (n : ℕ) (rest : List Numbered) → AllAbove n rest → own_lines n (map told_line rest) ≡ []
unfolding AllAbove
none_own n [] h = refl
none_own n (line ∷ rest) h = rw (other_line n line.number h.0) refl

all_behind : (n : ℕ) (rest : List Numbered) → AllAbove n rest → lines_behind n (map told_line rest) ≡ map told_line rest
unfolding AllAbove
all_behind n [] h = refl
all_behind n (line ∷ rest) h = rw (other_line n line.number h.0) refl

own_are : (n : ℕ) (lines : List Line) (rest : List Numbered) → AllAbove n rest → own_lines n (map told_line (all_numbered n lines ++ rest)) ≡ later_moments n lines
own_are n [] rest h = none_own n rest h
own_are n (line ∷ lines) rest h = rw (eq_self n) (ap (λ (ms : List Moment). later_of (line_at n line) ∷ ms) (own_are n lines rest h))

behind_are : (n : ℕ) (lines : List Line) (rest : List Numbered) → AllAbove n rest → lines_behind n (map told_line (all_numbered n lines ++ rest)) ≡ map told_line rest
behind_are n [] rest h = all_behind n rest h
behind_are n (line ∷ lines) rest h = rw (eq_self n) (behind_are n lines rest h)

-- ---- each directive prints something

some_by : (b : Bool) (lines : List Line) → list_all is_traced lines ≡ b → 0 < length (cond b (lines ++ Done ∷ []) lines)
some_by true lines h = let a = length-append lines (Done ∷ []) in omega (arith, a)
some_by false [] h = cc
some_by false (line ∷ lines) h = omega arith

some_line : (lines : List Line) → 0 < length (with_done lines)
some_line lines = some_by (list_all is_traced lines) lines refl

-- ---- the whole

chapter_cut : (before : List Moment) (d : Directive) (script : List Directive) (lines : List Line) (rest : List Numbered) → 0 < length lines → AllAbove d.line rest →
    moments_from before (d ∷ script) (map told_line (all_numbered d.line lines ++ rest)) ≡ moments_from (before ++ chapter_moments d lines) script (map told_line rest)
chapter_cut before d script [] rest some h = absurd (omega (arith, some))
chapter_cut before d script (line ∷ lines) rest some h =
    rw (eq_self d.line, own_are d.line lines rest h, behind_are d.line lines rest h) refl

pub moments_are : (low : ℕ) (script : List Directive) → LinesRise low script → (before : List Moment) (frames : List Purpose) (shows : List (List Row)) (es : List Entry) →
    moments_from before script (map told_line (report_lines true frames shows script es)) ≡ Ok (before ++ script_moments frames shows script es)
moments_are low [] rise before frames shows es = ap (λ (ms : List Moment). Ok ms) (sym (append-nil before))
moments_are low (d ∷ script) rise before frames shows es =
    let own = own_entries d.line es in
    let lines = with_done (chapter_lines true d.order frames shows own) in
    let rest = report_lines true (chapter_frames d.order frames own) (chapter_shows shows own) script (later_entries d.line es) in
    chapter_cut before d script lines rest (some_line (chapter_lines true d.order frames shows own)) (lines_above d.line script (chapter_frames d.order frames own) (chapter_shows shows own) (later_entries d.line es) rise.1)
    ∙ (moments_are d.line script rise.1 (before ++ chapter_moments d lines) (chapter_frames d.order frames own) (chapter_shows shows own) (later_entries d.line es)
    ∙ ap (λ (ms : List Moment). Ok ms) (append_assoc before (chapter_moments d lines) _))
