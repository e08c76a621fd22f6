-- What is taken of a report, as the front of the text of the block.
use Rattle.std.proofs.Common.{◌≡◌, ℕ, List, [], ◌∷◌, ◌++◌, length, map, drop, Option, Some, None, Bool, true, false, refl, ◌∙◌, ap, sym, append_assoc}
use Rattle.std.specs.Prelude.{codes, decimal, option_map}
use Rattle.std.specs.List.{join_with_byte}
use Rattle.std.proofs.lemmas.List.{append-nil}
use Rattle.std.proofs.lemmas.List.Splits.{join_with_byte-slice_split}
use Rattle.bench_report.specs.Lines.{Line, Holds, Makes, Waits, Notes, Errs, Returns, Leaves, Restarts, Shows, Done, event_text, move_text, incoming_text, line_text, numbered}
use Rattle.bench_report.specs.Numbers.{IsNumber, Each}
use Rattle.mcal_base.specs.declared.directive.Reason.{Reason}
use Rattle.mcal_base.specs.declared.moves.Event.{Event}
use Rattle.mcal_base.specs.declared.moves.Event.TheVariants as events
use Rattle.mcal_base.specs.declared.moves.Move.{Move}
use Rattle.mcal_base.specs.declared.moves.Move.TheVariants as moves
use Rattle.mcal_base.specs.declared.register.Reg.TheVariants as regs
use Rattle.report_text.specs.reading.Blocks.{begins_with, own_lines, behind, text_of, printed}
use Rattle.trace_reader.specs.Reading.{line_with, parts_of}
use Rattle.trace_reader.specs.Told.{told, mark_of, given, incoming}
use Rattle.trace_reader.specs.Trace.{HasLineNumbers, MovesOn}
use Rattle.trace_reader.specs.declared.told.Mark.{Mark}
use Rattle.trace_reader.specs.declared.told.Mark.TheVariants as marks
use Rattle.trace_reader.specs.declared.told.Step.{Step}
use Rattle.trace_reader.specs.declared.told.Told.{Told}
use Rattle.trace_reader.specs.declared.told.Told.TheVariants as tells
use Rattle.trace_reader.proofs.LineByLine.{append_assoc_line}
use Rattle.report_text.specs.Unread.{Unread, comes, own, own_text, is_empty, passed, told_next, after_told}
use Rattle.report_text.proofs.Cutting.{when, unless, none_left, no_text}
use Rattle.report_text.proofs.Taking.{comes_is, comes_again, took_line, took_lines, took_text}
use Rattle.report_text.proofs.Telling.{told_is, told_again}

-- ---- the text of a block stands at the front of what is left

join_case : (number : ℕ) (part next : List ℕ) (parts : List (List ℕ)) (b : Bool) → begins_with number part ≡ b
    → join_with_byte 10 (next ∷ parts) ≡ text_of (own_lines number (next ∷ parts)) ++ join_with_byte 10 (behind number (next ∷ parts))
    → join_with_byte 10 (part ∷ next ∷ parts) ≡ text_of (own_lines number (part ∷ next ∷ parts)) ++ join_with_byte 10 (behind number (part ∷ next ∷ parts))
join_case number part next parts true e ih =
    let own_text_is = text_of (own_lines number (next ∷ parts)) in
    let past_is = join_with_byte 10 (behind number (next ∷ parts)) in
    ap (λ (bs : List ℕ). part ++ 10 ∷ bs) ih
    ∙ (sym (append_assoc (part ++ codes "\n") own_text_is past_is ∙ append_assoc part (codes "\n") (own_text_is ++ past_is))
    ∙ sym (ap (λ (ls : List (List ℕ)). text_of ls ++ join_with_byte 10 (behind number (part ∷ next ∷ parts))) (when (begins_with number part) (part ∷ own_lines number (next ∷ parts)) [] e)
    ∙ ap (λ (ls : List (List ℕ)). text_of (part ∷ own_lines number (next ∷ parts)) ++ join_with_byte 10 ls) (when (begins_with number part) (behind number (next ∷ parts)) (part ∷ next ∷ parts) e)))
join_case number part next parts false e ih =
    sym (ap (λ (ls : List (List ℕ)). text_of ls ++ join_with_byte 10 (behind number (part ∷ next ∷ parts))) (unless (begins_with number part) (part ∷ own_lines number (next ∷ parts)) [] e)
    ∙ ap (join_with_byte 10) (unless (begins_with number part) (behind number (next ∷ parts)) (part ∷ next ∷ parts) e))

join_is : (number : ℕ) (parts : List (List ℕ)) → join_with_byte 10 parts ≡ text_of (own_lines number parts) ++ join_with_byte 10 (behind number parts)
join_is number [] = refl
join_is number (part ∷ []) = refl
join_is number (part ∷ next ∷ parts) = join_case number part next parts (begins_with number part) refl (join_is number (next ∷ parts))

-- what is behind the block
abbrev past_text : Unread → List ℕ
past_text r = join_with_byte 10 (behind r.number (parts_of r.left))

pub left_is : (r : Unread) → r.left ≡ own_text r ++ past_text r
left_is r = sym (join_with_byte-slice_split 10 r.left) ∙ join_is r.number (parts_of r.left)

left_front : (r : Unread) (front rest : List ℕ) → own_text r ≡ front ++ rest → r.left ≡ front ++ (rest ++ past_text r)
left_front r front rest e = left_is r ∙ (ap (λ (bs : List ℕ). bs ++ past_text r) e ∙ append_assoc front rest (past_text r))

-- ---- lines that are printed again

one_line : (number : ℕ) (line : Line) → text_of (line_with number line ∷ []) ≡ numbered number line
one_line number line = append-nil (line_with number line ++ codes "\n") ∙ append_assoc_line number line

all_lines : (number : ℕ) (lines : List Line) → text_of (map (line_with number) lines) ≡ printed number lines
all_lines number [] = refl
all_lines number (line ∷ lines) = ap (λ (bs : List ℕ). bs ++ text_of (map (line_with number) lines)) (append_assoc_line number line) ∙ ap (λ (bs : List ℕ). numbered number line ++ bs) (all_lines number lines)

-- lines that come are the front of the block's text
pub took_printed : (r : Unread) (lines : List Line) (k : ℕ) → IsNumber r.number → Each HasLineNumbers lines → comes (printed r.number lines) r.left ≡ true → own_text r ≡ printed r.number lines ++ own_text (passed (length (printed r.number lines)) k r)
took_printed r lines k n h c =
    let rest = drop (length (printed r.number lines)) r.left in
    ap (λ (bs : List ℕ). text_of (own_lines r.number (parts_of bs))) (comes_is (printed r.number lines) r.left c)
    ∙ (took_text r.number (printed r.number lines ++ rest) rest (map (line_with r.number) lines) (took_lines r.number lines rest n h)
    ∙ ap (λ (bs : List ℕ). bs ++ text_of (own_lines r.number (parts_of rest))) (all_lines r.number lines))

pub took_numbered : (r : Unread) (line : Line) → IsNumber r.number → HasLineNumbers line → comes (numbered r.number line) r.left ≡ true → own_text r ≡ numbered r.number line ++ own_text (passed (length (numbered r.number line)) 1 r)
took_numbered r line n h c =
    let rest = drop (length (numbered r.number line)) r.left in
    ap (λ (bs : List ℕ). text_of (own_lines r.number (parts_of bs))) (comes_is (numbered r.number line) r.left c)
    ∙ (took_text r.number (numbered r.number line ++ rest) rest (line_with r.number line ∷ []) (took_line r.number line rest n h)
    ∙ ap (λ (bs : List ℕ). bs ++ text_of (own_lines r.number (parts_of rest))) (one_line r.number line))

-- the front of the block's text comes
pub takes : (r : Unread) (front rest : List ℕ) → own_text r ≡ front ++ rest → comes front r.left ≡ true
takes r front rest e = ap (comes front) (left_front r front rest e) ∙ comes_again front (rest ++ past_text r)

-- what is taken leaves what is behind the block
pub past_took : (r : Unread) (line : Line) → IsNumber r.number → HasLineNumbers line → comes (numbered r.number line) r.left ≡ true → behind r.number (parts_of r.left) ≡ behind r.number (parts_of (drop (length (numbered r.number line)) r.left))
past_took r line n h c = let rest = drop (length (numbered r.number line)) r.left in ap (λ (bs : List ℕ). behind r.number (parts_of bs)) (comes_is (numbered r.number line) r.left c) ∙ (took_line r.number line rest n h).past

pub past_printed : (r : Unread) (lines : List Line) → IsNumber r.number → Each HasLineNumbers lines → comes (printed r.number lines) r.left ≡ true → behind r.number (parts_of r.left) ≡ behind r.number (parts_of (drop (length (printed r.number lines)) r.left))
past_printed r lines n h c = let rest = drop (length (printed r.number lines)) r.left in ap (λ (bs : List ℕ). behind r.number (parts_of bs)) (comes_is (printed r.number lines) r.left c) ∙ (took_lines r.number lines rest n h).past

-- ---- where the block is over

pub over : (r : Unread) → is_empty (own r) ≡ true → own_text r ≡ []
over r h = ap text_of (none_left (own r) h)

pub over_is : (r : Unread) → own_text r ≡ [] → is_empty (own r) ≡ true
over_is r h = no_text (own r) h

-- ---- lines that are read

-- what a line tells is all that its text has of it
mark_text : Option Mark → List ℕ
mark_text None = event_text None
mark_text (Some marks.Act) = event_text (Some events.Act)
mark_text (Some (marks.Serve line)) = event_text (Some (events.Serve line))
mark_text (Some marks.Abort) = codes " abort"
mark_text (Some marks.Start) = codes " start"

event_marked : (e : Option Event) → event_text e ≡ mark_text (option_map mark_of e)
unfolding mark_text
event_marked None = refl
event_marked (Some events.Act) = refl
event_marked (Some (events.Serve line)) = refl
event_marked (Some (events.Abort unit)) = refl
event_marked (Some (events.Start unit)) = refl

move_given : (m : Move) (value : ℕ) → move_text m (given m value) ≡ move_text m value
move_given (moves.Read reg) value = refl
move_given (moves.Write reg written) value = refl
move_given (moves.Load word) value = refl
move_given (moves.Store word stored) value = refl
move_given moves.Mask value = refl
move_given moves.Unmask value = refl
move_given (moves.Note notice) value = refl
move_given (moves.Report found) value = refl

came_in : (m : Move) (received : ℕ) → incoming_text m (incoming m received) ≡ incoming_text m received
came_in (moves.Write (regs.SerialData unit) sent) received = refl
came_in _ received = refl

makes_text : (depth value received : ℕ) (made : Move) (e f : Option Event) → option_map mark_of f ≡ option_map mark_of e → line_text (Makes depth made (given made value) (incoming made received) f) ≡ line_text (Makes depth made value received e)
makes_text depth value received made e f h =
    let marked : event_text f ≡ event_text e = event_marked f ∙ (ap mark_text h ∙ sym (event_marked e)) in
    rw (move_given made value, came_in made received, marked) refl

step_text : (line : Line) (s : Step) (f : Option Event) → told line ≡ tells.Step s → option_map mark_of f ≡ s.mark → line_text (Makes s.depth s.made s.value s.received f) ≡ line_text line
step_text (Makes depth made value received event) s f t h =
    let same : record { depth = depth; made = made; value = given made value; received = incoming made received; mark = option_map mark_of event } ≡ s = cc in
    let marked : option_map mark_of f ≡ option_map mark_of event = h ∙ ap (λ (w : Step). w.mark) (sym same) in
    ap (λ (w : Step). line_text (Makes w.depth w.made w.value w.received f)) (sym same) ∙ makes_text depth value received made event f marked
step_text (Holds cause) s f t h = cc
step_text (Waits ticks) s f t h = cc
step_text (Notes notice) s f t h = cc
step_text (Errs found) s f t h = cc
step_text (Returns service head words) s f t h = cc
step_text (Leaves line) s f t h = cc
step_text (Restarts reason dropped) s f t h = cc
step_text (Shows row) s f t h = cc
step_text Done s f t h = cc

wait_text : (line : Line) (n : ℕ) → told line ≡ tells.Waited n → line_text (Waits n) ≡ line_text line
wait_text (Waits ticks) n t = let same : ticks ≡ n = cc in ap (λ (k : ℕ). line_text (Waits k)) (sym same)
wait_text (Holds cause) n t = cc
wait_text (Makes depth made value received event) n t = cc
wait_text (Notes notice) n t = cc
wait_text (Errs found) n t = cc
wait_text (Returns service head words) n t = cc
wait_text (Leaves line) n t = cc
wait_text (Restarts reason dropped) n t = cc
wait_text (Shows row) n t = cc
wait_text Done n t = cc

reset_text : (line : Line) (reason : Reason) (n : ℕ) → told line ≡ tells.Reset reason n → line_text (Restarts reason n) ≡ line_text line
reset_text (Restarts why dropped) reason n t =
    let same : dropped ≡ n = cc in
    let cause : why ≡ reason = cc in
    rw (← same, ← cause) refl
reset_text (Holds cause) reason n t = cc
reset_text (Makes depth made value received event) reason n t = cc
reset_text (Waits ticks) reason n t = cc
reset_text (Notes notice) reason n t = cc
reset_text (Errs found) reason n t = cc
reset_text (Returns service head words) reason n t = cc
reset_text (Leaves line) reason n t = cc
reset_text (Shows row) reason n t = cc
reset_text Done reason n t = cc

same_numbered : (number : ℕ) (line other : Line) → line_text other ≡ line_text line → numbered number other ≡ numbered number line
same_numbered number line other e = sym (append_assoc_line number other) ∙ (ap (λ (bs : List ℕ). bs ++ codes "\n") (ap (λ (bs : List ℕ). decimal number ++ (codes " " ++ bs)) e) ∙ append_assoc_line number line)

-- what is told was taken off the front of the block's text, as another line prints it of which the same is told
read : (r : Unread) (t : Told) (other : Line) → IsNumber r.number → told_next r ≡ Some t → ((line : Line) → told line ≡ t → line_text other ≡ line_text line) → own_text r ≡ numbered r.number other ++ own_text (after_told r (Some t))
read r t other n h same =
    let i = told_is r t n h in
    took_text r.number r.left (after_told r (Some t)).left (line_with r.number i.line ∷ []) i.took
    ∙ ap (λ (bs : List ℕ). bs ++ own_text (after_told r (Some t))) (one_line r.number i.line ∙ sym (same_numbered r.number i.line other (same i.line i.is)))

pub read_step : (r : Unread) (s : Step) (e : Option Event) → IsNumber r.number → told_next r ≡ Some (tells.Step s) → option_map mark_of e ≡ s.mark → own_text r ≡ numbered r.number (Makes s.depth s.made s.value s.received e) ++ own_text (after_told r (Some (tells.Step s)))
read_step r s e n h m = read r (tells.Step s) (Makes s.depth s.made s.value s.received e) n h (λ line t. step_text line s e t m)

pub read_wait : (r : Unread) (ticks : ℕ) → IsNumber r.number → told_next r ≡ Some (tells.Waited ticks) → own_text r ≡ numbered r.number (Waits ticks) ++ own_text (after_told r (Some (tells.Waited ticks)))
read_wait r ticks n h = read r (tells.Waited ticks) (Waits ticks) n h (λ line t. wait_text line ticks t)

pub read_reset : (r : Unread) (reason : Reason) (dropped : ℕ) → IsNumber r.number → told_next r ≡ Some (tells.Reset reason dropped) → own_text r ≡ numbered r.number (Restarts reason dropped) ++ own_text (after_told r (Some (tells.Reset reason dropped)))
read_reset r reason dropped n h = read r (tells.Reset reason dropped) (Restarts reason dropped) n h (λ line t. reset_text line reason dropped t)

-- what is told leaves what is behind the block
pub past_told : (r : Unread) (t : Told) → IsNumber r.number → told_next r ≡ Some t → behind r.number (parts_of r.left) ≡ behind r.number (parts_of (after_told r (Some t)).left)
past_told r t n h = (told_is r t n h).took.past

-- a line that moves a run on is told
pub reads : (r : Unread) (line : Line) (rest : List ℕ) → IsNumber r.number → HasLineNumbers line → MovesOn line → own_text r ≡ numbered r.number line ++ rest → told_next r ≡ Some (told line)
reads r line rest n h m e = told_again r line (rest ++ past_text r) n h m (left_front r (numbered r.number line) rest e)
