-- The block of a directive in a printed report, and when items print it.
use Rattle.std.specs.Prelude.{◌≡◌, ℕ, ◌+◌, List, [], ◌∷◌, ◌++◌, Bool, true, codes, decimal, flat_map, count_by, length, take, bytes_eq, if◌then◌else◌}
use Rattle.bench_report.specs.Lines.{Line, numbered}
use Rattle.bench_report.specs.Numbers.{Each, EntryFits}
use Rattle.bench_report.specs.Report.{chapter_frames, chapter_lines, with_done, is_return, is_leave, is_hold, is_error, is_note}
use Rattle.bench_report.specs.Showing.{Showing, shows_from}
use Rattle.bench_report.specs.declared.frames.Purpose.{Purpose}
use Rattle.bench_report.specs.declared.tally.Tally.{Tally}
use Rattle.mcal_base.specs.declared.directive.Directive.{Directive}
use Rattle.mcal_base.specs.declared.directive.Request.{Request}
use Rattle.run_model.specs.Entry.{Entry}
use Rattle.run_model.specs.Follows.{Gives, deeds_in}
use Rattle.run_model.specs.Legal.{IsLegal}
use Rattle.run_model.specs.Moment.{Setting, Moment, after_all}

-- ---- lines of a text

-- of the parts of a text between its line feeds the last one is what is behind the last line feed, which is no line

-- the part begins with the number of a script line and a space
abbrev pub begins_with : (number : ℕ) → List ℕ → Bool
begins_with number part = let mark = decimal number ++ codes " " in bytes_eq (take (length mark) part) mark

-- the longest run of lines of a directive at the front, and what is behind it
abbrev pub own_lines : (number : ℕ) → List (List ℕ) → List (List ℕ)
own_lines number [] = []
own_lines number (part ∷ []) = []
own_lines number (part ∷ next ∷ parts) = if begins_with number part then part ∷ own_lines number (next ∷ parts) else []

abbrev pub behind : (number : ℕ) → List (List ℕ) → List (List ℕ)
behind number [] = []
behind number (part ∷ []) = part ∷ []
behind number (part ∷ next ∷ parts) = if begins_with number part then behind number (next ∷ parts) else part ∷ next ∷ parts

-- the bytes of lines
abbrev pub text_of : List (List ℕ) → List ℕ
text_of lines = flat_map (λ line. line ++ codes "\n") lines

-- the bytes of what lines say behind the number of a script line
abbrev pub printed : (number : ℕ) → List Line → List ℕ
printed number lines = flat_map (λ line. numbered number line) lines

-- ---- where an audit has come

-- Where it has come: the moment, what the frames were begun for, the topmost first, and what the lines so far count.
pub record AuditState (State Call : Type 0) : Type 0 where
  pub moment : Moment State Call
  pub frames : List Purpose
  pub tally : Tally

-- at the front of a report
abbrev pub place_from : {State Call : Type 0} → Moment State Call → AuditState State Call
place_from m = record { moment = m; frames = []; tally = record { calls = 0; handlers = 0; held = 0; errors = 0; notes = 0 } }

-- what lines add to what is counted
abbrev pub counted : Tally → List Line → Tally
counted t lines = record {
  calls = t.calls + count_by is_return lines;
  handlers = t.handlers + count_by is_leave lines;
  held = t.held + count_by is_hold lines;
  errors = t.errors + count_by is_error lines;
  notes = t.notes + count_by is_note lines;
}

-- ---- items of a directive

-- the lines that items of a directive print here
abbrev pub block_lines : {State Call : Type 0} → Setting State Call → (Request → Call) → Showing State → AuditState State Call → Directive → List Entry → List Line
block_lines g call_of showing p d items = with_done (chapter_lines true d.order p.frames (shows_from g call_of showing (d ∷ []) p.moment items) items)

-- Items of a directive, as a journal holds them: those that it asks for, legal, and they print exactly this block.
pub record IsBlock {State Call : Type 0} (g : Setting State Call) (call_of : Request → Call) (showing : Showing State) (p : AuditState State Call) (d : Directive) (block : List ℕ) : Type 0 where
  pub items : List Entry
  -- numbers of 32 bits
  pub fits : Each EntryFits items
  pub gives : Gives g call_of p.moment d.line d.order items
  pub legal : IsLegal g p.moment (deeds_in call_of d.order items)
  pub prints : printed d.line (block_lines g call_of showing p d items) ≡ block

-- where items of a directive lead
abbrev pub place_after : {State Call : Type 0} → Setting State Call → (Request → Call) → Showing State → AuditState State Call → Directive → List Entry → AuditState State Call
place_after g call_of showing p d items = record {
  moment = after_all g p.moment (deeds_in call_of d.order items);
  frames = chapter_frames d.order p.frames items;
  tally = counted p.tally (block_lines g call_of showing p d items);
}
