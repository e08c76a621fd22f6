-- The lines of a report have the numbers of its script, its journal and its shows.
use Rattle.std.proofs.Common.{◌≡◌, ℕ, zero, suc, ◌+◌, ◌<◌, ◌≤◌, Bool, true, false, List, [], ◌∷◌, ◌++◌, length, take, drop, map, Option, Some, None, refl, ◌∙◌, ap, sym, arith, cond, length-append}
use Rattle.std.specs.Prelude.{◌==◌, flat_map, decimal, codes, option_to_list}
use Rattle.std.specs.List.{list_all}
use Rattle.std.proofs.lemmas.Grind.{flat_map-append}
use Rattle.mcal_base.specs.declared.answer.Answer.{Answer}
use Rattle.mcal_base.specs.declared.directive.Directive.{Directive}
use Rattle.mcal_base.specs.declared.directive.Order.{Order}
use Rattle.mcal_base.specs.declared.directive.Order.TheVariants as orders
use Rattle.mcal_base.specs.declared.moves.Move.{Move}
use Rattle.mcal_base.specs.declared.moves.Move.TheVariants as moves
use Rattle.run_model.specs.Entry.{Entry, Said, Happens, Begins, Stays, Steps, Resets}
use Rattle.bench_report.specs.Lines.{Line, Holds, Makes, Notes, Errs, Returns, Leaves, Restarts, Shows, Done, line_text, numbered}
use Rattle.bench_report.specs.Numbers.{IsNumber, HasMoveNumbers, Each, AnswerFits, HappensFits, SaidFits, EntryFits}
use Rattle.bench_report.specs.Report.{Numbered, purpose_of, frames_after, frames_after_end, step_lines, move_lines, end_lines, wait_lines, order_lines, said_lines, steps_next, chapter_lines, chapter_frames, chapter_shows, is_traced, with_done, own_entries, later_entries, all_numbered, report_lines, end_of, report}
use Rattle.bench_report.specs.Rows.{Row}
use Rattle.bench_report.specs.Shown.{next_rows, shows_after, shows_after_order}
use Rattle.bench_report.specs.declared.frames.Purpose.{Purpose}
use Rattle.bench_report.specs.declared.frames.Purpose.TheVariants as purposes
use Rattle.trace_reader.specs.Trace.{HasLineNumbers, IsWithin, lines_text}
use Rattle.trace_promises.specs.traces.Numbers.{OrderFits, DirectiveFits, RowFits, RowsFit}

-- ---- lists

pub each_append : {T : Type 0} (P : T → Type 0) (xs ys : List T) → Each P xs → Each P ys → Each P (xs ++ ys)
each_append P [] ys h k = k
each_append P (x ∷ xs) ys h k = (h.0, each_append P xs ys h.1 k)

pub each_take : {T : Type 0} (P : T → Type 0) (n : ℕ) (xs : List T) → Each P xs → Each P (take n xs)
each_take P zero xs h = tt
each_take P (suc n) [] h = tt
each_take P (suc n) (x ∷ xs) h = (h.0, each_take P n xs h.1)

pub each_drop : {T : Type 0} (P : T → Type 0) (n : ℕ) (xs : List T) → Each P xs → Each P (drop n xs)
each_drop P zero xs h = h
each_drop P (suc n) [] h = tt
each_drop P (suc n) (x ∷ xs) h = each_drop P n xs h.1

-- ---- the lines of an item

-- what a frame was begun for
abbrev PurposeFits : Purpose → Type 0
PurposeFits (purposes.Call service) = Unit {0}
PurposeFits (purposes.Handler line) = IsNumber line

made_fit : (made : Move) → HasMoveNumbers made → Each HasLineNumbers (move_lines made)
made_fit (moves.Note notice) h = (h, tt)
made_fit (moves.Report found) h = (tt, tt)
made_fit (moves.Read reg) h = tt
made_fit (moves.Write reg value) h = tt
made_fit (moves.Load word) h = tt
made_fit (moves.Store word value) h = tt
made_fit moves.Mask h = tt
made_fit moves.Unmask h = tt

end_fits : (frames : List Purpose) (ended : Option Answer) → Each PurposeFits frames → AnswerFits ended → Each HasLineNumbers (end_lines frames ended)
end_fits frames None f h = tt
end_fits [] (Some answer) f h = tt
end_fits (purposes.Call service ∷ frames) (Some answer) f h = (h, tt)
end_fits (purposes.Handler line ∷ frames) (Some answer) f h = (f.0, tt)

rows_fit : (rows : List Row) → RowsFit rows → Each HasLineNumbers (map (λ row. Shows row) rows)
rows_fit [] h = tt
rows_fit (row ∷ rows) h = (h.0, rows_fit rows h.1)

wait_fits : (waited : Bool) (ticks : ℕ) → IsNumber ticks → Each HasLineNumbers (wait_lines waited ticks)
wait_fits true ticks h = (h, tt)
wait_fits false ticks h = tt

order_fits : (waited : Bool) (rows : List Row) (what : Order) → RowsFit rows → HappensFits what → Each HasLineNumbers (order_lines waited rows what)
order_fits waited rows (orders.Show what) h k = rows_fit rows h
order_fits waited rows (orders.Tick ticks) h k = wait_fits waited ticks k
order_fits waited rows _ h k = tt

next_fit : (shows : List (List Row)) → Each RowsFit shows → RowsFit (next_rows shows)
next_fit [] h = tt
next_fit (rows ∷ shows) h = h.0

said_fit : (depth : ℕ) (frames : List Purpose) (rows : List Row) (next : Bool) (said : Said) → IsNumber depth → Each PurposeFits frames → RowsFit rows → SaidFits said → Each HasLineNumbers (said_lines true depth frames rows next said)
said_fit depth frames rows next (Happens what) d f r h = order_fits next rows what r h
said_fit depth frames rows next Begins d f r h = tt
said_fit depth frames rows next (Stays cause) d f r h = (tt, tt)
said_fit depth frames rows next (Steps s) d f r h =
    ((d, h.0, h.1, h.2, h.3), each_append HasLineNumbers (move_lines s.made) (end_lines frames s.ended) (made_fit s.made h.0) (end_fits frames s.ended f h.4))
said_fit depth frames rows next (Resets reason dropped) d f r h = (h, tt)

-- ---- what is left behind an item

purposes_fit : (order : Order) → OrderFits order → Each PurposeFits (option_to_list (purpose_of order))
purposes_fit (orders.Call level request) h = (tt, tt)
purposes_fit (orders.Do level request) h = (tt, tt)
purposes_fit (orders.Enter line) h = (h, tt)
purposes_fit (orders.Serve line) h = (h, tt)
purposes_fit (orders.Run n) h = tt
purposes_fit (orders.Upto stop) h = tt
purposes_fit orders.Finish h = tt
purposes_fit (orders.Tick n) h = tt
purposes_fit (orders.Level p v) h = tt
purposes_fit (orders.Analog i v) h = tt
purposes_fit (orders.Trigger i) h = tt
purposes_fit (orders.Miso u ws) h = tt
purposes_fit (orders.SpiFault u) h = tt
purposes_fit orders.Detach h = tt
purposes_fit (orders.Fill c ws) h = tt
purposes_fit (orders.Reset reason) h = tt
purposes_fit (orders.Show what) h = tt

rest_fits : (frames : List Purpose) (ended : Option Answer) → Each PurposeFits frames → Each PurposeFits (frames_after_end frames ended)
rest_fits frames None f = f
rest_fits frames (Some answer) f = each_drop PurposeFits 1 frames f

frames_fit : (order : Order) (frames : List Purpose) (said : Said) → OrderFits order → Each PurposeFits frames → Each PurposeFits (frames_after order frames said)
frames_fit order frames (Happens what) o f = f
frames_fit order frames Begins o f = each_append PurposeFits (option_to_list (purpose_of order)) frames (purposes_fit order o) f
frames_fit order frames (Stays cause) o f = f
frames_fit order frames (Steps s) o f = rest_fits frames s.ended f
frames_fit order frames (Resets reason dropped) o f = tt

later_shows : (shows : List (List Row)) (what : Order) → Each RowsFit shows → Each RowsFit (shows_after_order shows what)
later_shows shows (orders.Show what) h = each_drop RowsFit 1 shows h
later_shows shows _ h = h

shows_fit : (shows : List (List Row)) (said : Said) → Each RowsFit shows → Each RowsFit (shows_after shows said)
shows_fit shows (Happens what) h = later_shows shows what h
shows_fit shows Begins h = h
shows_fit shows (Stays cause) h = h
shows_fit shows (Steps s) h = h
shows_fit shows (Resets reason dropped) h = h

-- ---- the lines of a directive

chapter_fits : (order : Order) (frames : List Purpose) (shows : List (List Row)) (es : List Entry) → OrderFits order → Each PurposeFits frames → Each RowsFit shows → Each EntryFits es → Each HasLineNumbers (chapter_lines true order frames shows es)
chapter_fits order frames shows [] o f r h = tt
chapter_fits order frames shows (e ∷ es) o f r h =
    each_append HasLineNumbers (said_lines true e.depth frames (next_rows shows) (steps_next es) e.said) _ (said_fit e.depth frames (next_rows shows) (steps_next es) e.said h.0.1 f (next_fit shows r) h.0.2)
    (chapter_fits order (frames_after order frames e.said) (shows_after shows e.said) es o (frames_fit order frames e.said o f) (shows_fit shows e.said r) h.1)

frames_left : (order : Order) (frames : List Purpose) (es : List Entry) → OrderFits order → Each PurposeFits frames → Each PurposeFits (chapter_frames order frames es)
frames_left order frames [] o f = f
frames_left order frames (e ∷ es) o f = frames_left order (frames_after order frames e.said) es o (frames_fit order frames e.said o f)

shows_left : (shows : List (List Row)) (es : List Entry) → Each RowsFit shows → Each RowsFit (chapter_shows shows es)
shows_left shows [] h = h
shows_left shows (e ∷ es) h = shows_left (shows_after shows e.said) es (shows_fit shows e.said h)

done_by : (b : Bool) (lines : List Line) → Each HasLineNumbers lines → Each HasLineNumbers (cond b (lines ++ Done ∷ []) lines)
done_by true lines h = each_append HasLineNumbers lines (Done ∷ []) h (tt, tt)
done_by false lines h = h

numbered_fit : (n : ℕ) (lines : List Line) → IsNumber n → Each HasLineNumbers lines → Each IsWithin (all_numbered n lines)
numbered_fit n [] m h = tt
numbered_fit n (line ∷ lines) m h = ((m, h.0), numbered_fit n lines m h.1)

own_by : (b : Bool) (line : ℕ) (e : Entry) (es : List Entry) → EntryFits e → Each EntryFits (own_entries line es) → Each EntryFits (cond b (e ∷ own_entries line es) [])
own_by true line e es h k = (h, k)
own_by false line e es h k = tt

own_fit : (line : ℕ) (es : List Entry) → Each EntryFits es → Each EntryFits (own_entries line es)
own_fit line [] h = tt
own_fit line (e ∷ es) h = own_by (e.line == line) line e es h.0 (own_fit line es h.1)

later_by : (b : Bool) (line : ℕ) (e : Entry) (es : List Entry) → Each EntryFits (e ∷ es) → Each EntryFits (later_entries line es) → Each EntryFits (cond b (later_entries line es) (e ∷ es))
later_by true line e es h k = k
later_by false line e es h k = h

later_fit : (line : ℕ) (es : List Entry) → Each EntryFits es → Each EntryFits (later_entries line es)
later_fit line [] h = tt
later_fit line (e ∷ es) h = later_by (e.line == line) line e es h (later_fit line es h.1)

-- ---- the lines of a script

script_fits : (frames : List Purpose) (shows : List (List Row)) (script : List Directive) (es : List Entry) → Each DirectiveFits script → Each PurposeFits frames → Each RowsFit shows → Each EntryFits es → Each IsWithin (report_lines true frames shows script es)
script_fits frames shows [] es s f r h = tt
script_fits frames shows (d ∷ script) es s f r h =
    let own = own_entries d.line es in
    let lines = chapter_lines true d.order frames shows own in
    each_append IsWithin (all_numbered d.line (with_done lines)) _
    (numbered_fit d.line (with_done lines) s.0.0 (done_by (list_all is_traced lines) lines (chapter_fits d.order frames shows own s.0.1 f r (own_fit d.line es h))))
    (script_fits (chapter_frames d.order frames own) (chapter_shows shows own) script (later_entries d.line es) s.1 (frames_left d.order frames own s.0.1 f) (shows_left shows own r) (later_fit d.line es h))

-- all lines of a report are within what a reader reads
pub lines_within : (shows : List (List Row)) (script : List Directive) (es : List Entry) → Each DirectiveFits script → Each RowsFit shows → Each EntryFits es → Each IsWithin (report_lines true [] shows script es)
lines_within shows script es s r h = script_fits [] shows script es s tt r h

-- ---- a report has no more lines than bytes

line_bytes : (n : ℕ) (line : Line) → 1 ≤ length (numbered n line)
line_bytes n line =
    let a = length-append (decimal n) (codes " " ++ (line_text line ++ codes "\n")) in
    omega (arith, a)

bytes_by : (a b c d : ℕ) → 1 ≤ a → c ≤ b → d ≡ a + b → suc c ≤ d
bytes_by a b c d h k e = omega (arith, h, k, e)

lines_bytes : (lines : List Numbered) → length lines ≤ length (lines_text lines)
lines_bytes [] = omega arith
lines_bytes (line ∷ lines) = bytes_by (length (numbered line.number line.says)) (length (lines_text lines)) (length lines) _ (line_bytes line.number line.says) (lines_bytes lines) (length-append (numbered line.number line.says) (lines_text lines))

few_by : (a b c d : ℕ) → a ≤ b → d ≡ b + c → d ≤ 268435456 → a < 4294967296
few_by a b c d h e k = omega (arith, h, e, k)

-- a report that is no longer than it may be has fewer than 2 to the 32 lines
pub few_lines : (shows : List (List Row)) (script : List Directive) (es : List Entry) → length (report true script es shows) ≤ 268435456 → length (report_lines true [] shows script es) < 4294967296
few_lines shows script es h =
    let lines = report_lines true [] shows script es in
    few_by (length lines) (length (lines_text lines)) (length (end_of lines)) _ (lines_bytes lines) (length-append (lines_text lines) (end_of lines)) h
