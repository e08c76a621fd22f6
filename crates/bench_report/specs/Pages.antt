-- How the lines of a report are written one after the other, as far as a report may be long.
use Rattle.std.specs.Prelude.{ℕ, ◌+◌, ◌==◌, ◌&&◌, List, [], ◌∷◌, ◌++◌, length, Bool, true, Option, Some, None, if◌then◌else◌}
use Rattle.mcal_base.specs.declared.answer.Answer.{Answer}
use Rattle.mcal_base.specs.declared.directive.Directive.{Directive}
use Rattle.mcal_base.specs.declared.directive.Order.{Order}
use Rattle.mcal_base.specs.declared.directive.Order.TheVariants as orders
use Rattle.run_model.specs.Entry.{Entry, Said, Happens, Begins, Stays, Steps, Resets}
use Rattle.run_model.specs.declared.item.Stepped.{Stepped}
use Rattle.bench_report.specs.declared.frames.Purpose.{Purpose}
use Rattle.bench_report.specs.declared.tally.Tally.{Tally}
use Rattle.bench_report.specs.Limit.{is_too_long}
use Rattle.bench_report.specs.Lines.{Line, Holds, Makes, Waits, Notes, Errs, Returns, Leaves, Restarts, Shows, Done, numbered, end_text}
use Rattle.bench_report.specs.Report.{Numbered, frames_after, frames_after_end, step_lines, wait_lines, move_lines, end_lines, steps_next, is_traced, own_entries, later_entries}

-- one more line is counted
abbrev pub counted : Tally → Line → Tally
counted tally (Holds cause) = record tally { held = tally.held + 1 }
counted tally (Makes depth made value received event) = tally
counted tally (Waits ticks) = tally
counted tally (Notes notice) = record tally { notes = tally.notes + 1 }
counted tally (Errs found) = record tally { errors = tally.errors + 1 }
counted tally (Returns service head words) = record tally { calls = tally.calls + 1 }
counted tally (Leaves line) = record tally { handlers = tally.handlers + 1 }
counted tally (Restarts reason dropped) = tally
counted tally (Shows row) = tally
counted tally Done = tally

-- the text so far and what its lines count
pub record Page : Type 0 where
  pub text : List ℕ
  pub tally : Tally

-- the page, where it is not too long
abbrev pub fitting : Page → Option Page
fitting page = if is_too_long page.text then None else Some page

-- a page with one more line
abbrev pub with_line : Page → ℕ → Line → Page
with_line page number line = record { text = page.text ++ numbered number line; tally = counted page.tally line }

abbrev pub put : Option Page → ℕ → Line → Option Page
put None number line = None
put (Some page) number line = fitting (with_line page number line)

-- a page with the lines of a show behind it, which are not counted
abbrev pub with_text : Page → List ℕ → Page
with_text page text = record { text = page.text ++ text; tally = page.tally }

abbrev pub paste : Option Page → List ℕ → Option Page
paste None text = None
paste (Some page) text = fitting (with_text page text)

-- the whole text, where it is not too long
abbrev pub fitting_text : List ℕ → Option (List ℕ)
fitting_text text = if is_too_long text then None else Some text

abbrev pub ended : Option Page → Option (List ℕ)
ended None = None
ended (Some page) = fitting_text (page.text ++ end_text page.tally)

-- the page, what the frames were begun for, whether the directive printed nothing but steps and waits yet, and the texts of the shows to come
pub record ReportWriter : Type 0 where
  pub page : Option Page
  pub frames : List Purpose
  pub silent : Bool
  pub shows : List (List ℕ)

-- before the first line
abbrev pub blank : Page
blank = record { text = []; tally = record { calls = 0; handlers = 0; held = 0; errors = 0; notes = 0 } }

abbrev pub beginning : (shows : List (List ℕ)) → ReportWriter
beginning shows = record { page = Some blank; frames = []; silent = true; shows = shows }

-- after one more line, and after lines
abbrev pub say : ReportWriter → ℕ → Line → ReportWriter
say c number line = record c { page = put c.page number line; silent = c.silent && is_traced line }

abbrev pub say_all : ReportWriter → ℕ → List Line → ReportWriter
say_all c number [] = c
say_all c number (line ∷ lines) = say_all (say c number line) number lines

-- after the line of an end of the topmost frame, which it takes off
abbrev pub end_put : ReportWriter → ℕ → Option Answer → ReportWriter
end_put c number ended = record (say_all c number (end_lines c.frames ended)) { frames = frames_after_end c.frames ended }

-- after the lines of a step
abbrev pub step_put : Bool → ReportWriter → ℕ → ℕ → Stepped → ReportWriter
step_put traced c number depth step = end_put (say_all (say_all c number (step_lines traced depth step)) number (move_lines step.made)) number step.ended

-- after the lines of a show
abbrev pub text_put : ReportWriter → List (List ℕ) → ReportWriter
text_put c [] = c
text_put c (text ∷ texts) = record c { page = paste c.page text; silent = c.silent && (length text == 0); shows = texts }

-- after the lines of what happened
abbrev pub order_put : (waited : Bool) → ReportWriter → ℕ → Order → ReportWriter
order_put waited c number (orders.Show what) = text_put c c.shows
order_put waited c number (orders.Tick ticks) = say_all c number (wait_lines waited ticks)
order_put waited c number _ = c

-- after an item of a directive, by whether a step comes next, and after items
abbrev pub said_put : Bool → Directive → ReportWriter → ℕ → (next : Bool) → Said → ReportWriter
said_put traced directive c depth next (Happens what) = order_put (traced && next) c directive.line what
said_put traced directive c depth next Begins = record c { frames = frames_after directive.order c.frames Begins }
said_put traced directive c depth next (Stays cause) = say c directive.line (Holds cause)
said_put traced directive c depth next (Steps step) = step_put traced c directive.line depth step
said_put traced directive c depth next (Resets reason dropped) = record (say c directive.line (Restarts reason dropped)) { frames = [] }

abbrev pub entry_put : Bool → Directive → ReportWriter → (next : Bool) → Entry → ReportWriter
entry_put traced directive c next entry = said_put traced directive c entry.depth next entry.said

abbrev pub entries_put : Bool → Directive → ReportWriter → List Entry → ReportWriter
entries_put traced directive c [] = c
entries_put traced directive c (entry ∷ entries) = entries_put traced directive (entry_put traced directive c (steps_next entries) entry) entries

-- after a directive's last item
abbrev pub closed : ℕ → ReportWriter → ReportWriter
closed number c = if c.silent then say c number Done else c

-- after a directive with its items
abbrev pub chapter_put : Bool → Directive → ReportWriter → List Entry → ReportWriter
chapter_put traced directive c entries = closed directive.line (entries_put traced directive (record c { silent = true }) (own_entries directive.line entries))

-- after a script
abbrev pub script_put : Bool → ReportWriter → List Directive → List Entry → ReportWriter
script_put traced c [] entries = c
script_put traced c (directive ∷ script) entries = script_put traced (chapter_put traced directive c entries) script (later_entries directive.line entries)

-- a page after lines, and one that may be of any length
abbrev pub page_after : Option Page → List Numbered → Option Page
page_after page [] = page
page_after page (line ∷ lines) = page_after (put page line.number line.says) lines

abbrev pub with_lines : Page → List Numbered → Page
with_lines page [] = page
with_lines page (line ∷ lines) = with_lines (with_line page line.number line.says) lines
