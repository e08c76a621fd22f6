-- What is counted item by item is what the lines of the report count.
use Rattle.std.proofs.Common.{◌≡◌, ℕ, Bool, true, false, List, [], ◌∷◌, ◌++◌, refl, ap, sym, ◌∙◌, cond, arith, map}
use Rattle.std.specs.Prelude.{count_by}
use Rattle.std.specs.List.{list_all}
use Rattle.std.proofs.lemmas.List.{map-append}
use Rattle.mcal_base.specs.declared.directive.Directive.{Directive}
use Rattle.mcal_base.specs.declared.directive.Order.{Order}
use Rattle.mcal_base.specs.declared.directive.Order.TheVariants as orders
use Rattle.run_model.specs.Entry.{Entry, Said, Happens, Begins, Stays, Steps, Resets}
use Rattle.bench_report.specs.declared.frames.Purpose.{Purpose}
use Rattle.bench_report.specs.declared.tally.Tally.{Tally}
use Rattle.bench_report.specs.Lines.{Line, Shows, Done, end_text}
use Rattle.bench_report.specs.Rows.{Row}
use Rattle.bench_report.specs.Pages.{Page, blank, counted, with_line, with_lines}
use Rattle.bench_report.specs.Report.{Numbered, all_numbered, is_traced, order_lines, said_lines, move_lines, end_lines, frames_after, steps_next, chapter_lines, chapter_frames, chapter_shows, with_done, own_entries, later_entries, report_lines, end_of, is_return, is_leave, is_hold, is_error, is_note}
use Rattle.bench_report.specs.Shown.{next_rows, shows_after}
use Rattle.bench_report.proofs.Counts.{calls_after, handlers_after, held_after, errors_after, notes_after}
use Rattle.report_end.specs.Counts.{Counting, beginning, counted_all, said_counted, items_counted, script_counted}

-- ---- lines

counted-append : (t : Tally) (xs ys : List Line) → counted_all t (xs ++ ys) ≡ counted_all (counted_all t xs) ys
counted-append t [] ys = refl
counted-append t (x ∷ xs) ys = counted-append (counted t x) xs ys

-- what is shown or waited counts as nothing, and so does ok
rows_uncounted : (t : Tally) (rows : List Row) → counted_all t (map (λ row. Shows row) rows) ≡ t
rows_uncounted t [] = refl
rows_uncounted t (row ∷ rows) = rows_uncounted t rows

order_uncounted : (t : Tally) (rows : List Row) (o : Order) → counted_all t (order_lines false rows o) ≡ t
order_uncounted t rows (orders.Show what) = rows_uncounted t rows
order_uncounted t rows _ = refl

done_by : (b : Bool) (t : Tally) (lines : List Line) → counted_all t (cond b (lines ++ Done ∷ []) lines) ≡ counted_all t lines
done_by true t lines = counted-append t lines (Done ∷ [])
done_by false t lines = refl

done_uncounted : (t : Tally) (lines : List Line) → counted_all t (with_done lines) ≡ counted_all t lines
done_uncounted t lines = done_by (list_all is_traced lines) t lines

-- ---- an item, and the items of a directive

counting : List Purpose → Tally → Counting
counting frames t = record { frames = frames; tally = t }

said_is : (order : Order) (c : Counting) (depth : ℕ) (rows : List Row) (next : Bool) (said : Said) → said_counted order c said ≡ counting (frames_after order c.frames said) (counted_all c.tally (said_lines false depth c.frames rows next said))
unfolding counting
said_is order c depth rows next (Happens o) = ap (λ (t : Tally). counting c.frames t) (sym (order_uncounted c.tally rows o))
said_is order c depth rows next Begins = refl
said_is order c depth rows next (Stays cause) = refl
said_is order c depth rows next (Steps step) = ap (λ (t : Tally). counting (frames_after order c.frames (Steps step)) t) (sym (counted-append c.tally (move_lines step.made) (end_lines c.frames step.ended)))
said_is order c depth rows next (Resets reason dropped) = refl

items_are : (order : Order) (c : Counting) (shows : List (List Row)) (es : List Entry) → items_counted order c es ≡ counting (chapter_frames order c.frames es) (counted_all c.tally (chapter_lines false order c.frames shows es))
unfolding counting
items_are order c shows [] = refl
items_are order c shows (e ∷ es) =
    let lines = said_lines false e.depth c.frames (next_rows shows) (steps_next es) e.said in
    let frames = frames_after order c.frames e.said in
    let later = shows_after shows e.said in
    ap (λ (k : Counting). items_counted order k es) (said_is order c e.depth (next_rows shows) (steps_next es) e.said)
    ∙ items_are order (counting frames (counted_all c.tally lines)) later es
    ∙ ap (λ (t : Tally). counting (chapter_frames order frames es) t) (sym (counted-append c.tally lines (chapter_lines false order frames later es)))

-- ---- a script

-- lines with their numbers
all_counted : Tally → List Numbered → Tally
all_counted t lines = counted_all t (map (λ (l : Numbered). l.says) lines)

numbered_counted : (t : Tally) (n : ℕ) (lines : List Line) → all_counted t (all_numbered n lines) ≡ counted_all t lines
unfolding all_counted
numbered_counted t n [] = refl
numbered_counted t n (line ∷ lines) = numbered_counted (counted t line) n lines

all-append : (t : Tally) (xs ys : List Numbered) → all_counted t (xs ++ ys) ≡ all_counted (all_counted t xs) ys
unfolding all_counted
all-append t xs ys = ap (λ (ls : List Line). counted_all t ls) (map-append (λ (l : Numbered). l.says) xs ys) ∙ counted-append t (map (λ (l : Numbered). l.says) xs) (map (λ (l : Numbered). l.says) ys)

script_is : (ds : List Directive) (c : Counting) (shows : List (List Row)) (es : List Entry) → (script_counted c ds es).tally ≡ all_counted c.tally (report_lines false c.frames shows ds es)
unfolding counting all_counted
script_is [] c shows es = refl
script_is (d ∷ ds) c shows es =
    let own = own_entries d.line es in
    let later = later_entries d.line es in
    let lines = chapter_lines false d.order c.frames shows own in
    let frames = chapter_frames d.order c.frames own in
    let rest = report_lines false frames (chapter_shows shows own) ds later in
    ap (λ (k : Counting). (script_counted k ds later).tally) (items_are d.order c shows own)
    ∙ script_is ds (counting frames (counted_all c.tally lines)) (chapter_shows shows own) later
    ∙ ap (λ (t : Tally). all_counted t rest) (sym (numbered_counted c.tally d.line (with_done lines) ∙ done_uncounted c.tally lines))
    ∙ sym (all-append c.tally (all_numbered d.line (with_done lines)) rest)

-- ---- the last line

with_lines_is : (page : Page) (ls : List Numbered) → (with_lines page ls).tally ≡ all_counted page.tally ls
unfolding all_counted
with_lines_is page [] = refl
with_lines_is page (l ∷ ls) = with_lines_is (with_line page l.number l.says) ls

tallied : ℕ → ℕ → ℕ → ℕ → ℕ → Tally
tallied c h x e m = record { calls = c; handlers = h; held = x; errors = e; notes = m }

tallied_same : (c c' h h' x x' e e' m m' : ℕ) → c ≡ c' → h ≡ h' → x ≡ x' → e ≡ e' → m ≡ m' → tallied c h x e m ≡ tallied c' h' x' e' m'
tallied_same c c' h h' x x' e e' m m' p q r s t = cc

tally_is : (ls : List Numbered) → (with_lines blank ls).tally ≡ tallied (count_by (λ l. is_return l.says) ls) (count_by (λ l. is_leave l.says) ls) (count_by (λ l. is_hold l.says) ls) (count_by (λ l. is_error l.says) ls) (count_by (λ l. is_note l.says) ls)
unfolding tallied
tally_is ls =
    tallied_same _ _ _ _ _ _ _ _ _ _
    (omega (arith, calls_after blank ls)) (omega (arith, handlers_after blank ls)) (omega (arith, held_after blank ls))
    (omega (arith, errors_after blank ls)) (omega (arith, notes_after blank ls))

-- the tally of a script's items is told by the last line of its report
pub end_is : (script : List Directive) (es : List Entry) (shows : List (List Row)) → end_text (script_counted beginning script es).tally ≡ end_of (report_lines false [] shows script es)
unfolding tallied
end_is script es shows =
    let lines = report_lines false [] shows script es in
    ap (λ (t : Tally). end_text t) (script_is script beginning shows es ∙ sym (with_lines_is blank lines) ∙ tally_is lines)
