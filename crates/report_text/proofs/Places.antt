-- Where the items of a directive lead, and that their lines have the numbers of what a journal holds, but for rows that are shown.
use Rattle.std.proofs.Common.{◌≡◌, ℕ, suc, Bool, true, false, List, [], ◌∷◌, ◌++◌, length, map, drop, Option, Some, None, refl, ◌∙◌, ap, sym, subst, cond}
use Rattle.std.specs.Prelude.{option_to_list}
use Rattle.std.specs.List.{list_all}
use Rattle.bench_report.proofs.Items.{is_show, shows_nothing, Each as EachOf}
use Rattle.bench_report.specs.Lines.{Line, Holds, Makes, Waits, Notes, Errs, Returns, Leaves, Restarts, Shows, Done}
use Rattle.bench_report.specs.Numbers.{IsNumber, HasMoveNumbers, Each, AnswerFits, HappensFits, SaidFits, EntryFits}
use Rattle.bench_report.specs.Report.{purpose_of, frames_after, frames_after_end, move_lines, end_lines, wait_lines, order_lines, said_lines, steps_next, chapter_lines, chapter_frames, is_traced, with_done}
use Rattle.bench_report.specs.Rows.{Row}
use Rattle.bench_report.specs.Shown.{next_rows, shows_after, shows_after_order}
use Rattle.bench_report.specs.declared.frames.Purpose.{Purpose}
use Rattle.bench_report.specs.declared.frames.Purpose.TheVariants as purposes
use Rattle.mcal_base.specs.declared.answer.Answer.{Answer}
use Rattle.mcal_base.specs.declared.directive.Order.{Order}
use Rattle.mcal_base.specs.declared.directive.Order.TheVariants as orders
use Rattle.mcal_base.specs.declared.directive.Request.{Request}
use Rattle.mcal_base.specs.declared.moves.Move.{Move}
use Rattle.mcal_base.specs.declared.moves.Move.TheVariants as moves
use Rattle.report_text.specs.reading.Fits.{OrderFits, PurposeFits}
use Rattle.report_text.proofs.StepsBack.{step_frames}
use Rattle.run_model.specs.Entry.{Entry, Said, Happens, Begins, Stays, Steps, Resets}
use Rattle.run_model.specs.Follows.{deeds_in}
use Rattle.run_model.specs.Legal.{IsLegal}
use Rattle.run_model.specs.Moment.{Setting, Moment, after_all}
use Rattle.run_model.specs.Script.{deed_of}
use Rattle.run_model.proofs.Following.{after_all-append}
use Rattle.run_model.proofs.LegalLaws.{legal-parts}
use Rattle.trace_reader.specs.Trace.{HasLineNumbers}

-- ---- lists

pub each_append : {T : Type 0} (P : T → Type 0) (xs ys : List T) → Each P xs → Each P ys → Each P (xs ++ ys)
each_append P [] ys h k = k
each_append P (x ∷ xs) ys h k = (h.0, each_append P xs ys h.1 k)

each_less : {T : Type 0} (P : T → Type 0) (xs : List T) → Each P xs → Each P (drop 1 xs)
each_less P [] h = tt
each_less P (x ∷ xs) h = h.1

-- ---- what is left behind an item

begun_fit : (order : Order) → OrderFits order → Each PurposeFits (option_to_list (purpose_of order))
begun_fit (orders.Call level request) h = (tt, tt)
begun_fit (orders.Do level request) h = (tt, tt)
begun_fit (orders.Enter line) h = (h, tt)
begun_fit (orders.Serve line) h = (h, tt)
begun_fit _ h = tt

rest_fits : (frames : List Purpose) (ended : Option Answer) → Each PurposeFits frames → Each PurposeFits (frames_after_end frames ended)
rest_fits frames None f = f
rest_fits frames (Some answer) f = each_less PurposeFits frames f

frames_fit : (order : Order) (frames : List Purpose) (said : Said) → OrderFits order → Each PurposeFits frames → Each PurposeFits (frames_after order frames said)
frames_fit order frames (Happens what) o f = f
frames_fit order frames Begins o f = each_append PurposeFits (option_to_list (purpose_of order)) frames (begun_fit order o) f
frames_fit order frames (Stays cause) o f = f
frames_fit order frames (Steps s) o f = rest_fits frames s.ended f
frames_fit order frames (Resets reason dropped) o f = tt

-- ---- the numbers of an item's lines

-- a line whose numbers have 32 bits, where it may show these rows
abbrev pub HasNumbers : (Fits : Row → Type 0) → Line → Type 0
HasNumbers Fits (Shows row) = Fits row
HasNumbers Fits line = HasLineNumbers line

abbrev AnyRow : Row → Type 0
AnyRow row = Unit {0}

abbrev NoRow : Row → Type 0
NoRow row = ⊥

-- a line as a report prints it: a row may have any numbers
abbrev pub IsPrinted : Line → Type 0
IsPrinted line = HasNumbers AnyRow line

module _ (Fits : Row → Type 0) where
  made_fit : (made : Move) → HasMoveNumbers made → Each (HasNumbers Fits) (move_lines made)
  made_fit (moves.Note notice) h = (h, tt)
  made_fit (moves.Report found) h = (tt, tt)
  made_fit _ h = tt

  end_fits : (frames : List Purpose) (ended : Option Answer) → Each PurposeFits frames → AnswerFits ended → Each (HasNumbers Fits) (end_lines frames ended)
  end_fits frames None f h = tt
  end_fits [] (Some answer) f h = tt
  end_fits (purposes.Call service ∷ frames) (Some answer) f h = (h, tt)
  end_fits (purposes.Handler line ∷ frames) (Some answer) f h = (f.0, tt)

  rows_fit : (rows : List Row) → Each Fits rows → Each (HasNumbers Fits) (map (λ row. Shows row) rows)
  rows_fit [] h = tt
  rows_fit (row ∷ rows) h = (h.0, rows_fit rows h.1)

  wait_fits : (waited : Bool) (ticks : ℕ) → IsNumber ticks → Each (HasNumbers Fits) (wait_lines waited ticks)
  wait_fits true ticks h = (h, tt)
  wait_fits false ticks h = tt

  order_fits : (waited : Bool) (rows : List Row) (what : Order) → Each Fits rows → HappensFits what → Each (HasNumbers Fits) (order_lines waited rows what)
  order_fits waited rows (orders.Show what) h k = rows_fit rows h
  order_fits waited rows (orders.Tick ticks) h k = wait_fits waited ticks k
  order_fits waited rows _ h k = tt

  next_fit : (shows : List (List Row)) → Each (Each Fits) shows → Each Fits (next_rows shows)
  next_fit [] h = tt
  next_fit (rows ∷ shows) h = h.0

  said_fit : (depth : ℕ) (frames : List Purpose) (rows : List Row) (next : Bool) (said : Said) → IsNumber depth → Each PurposeFits frames → Each Fits rows → SaidFits said → Each (HasNumbers Fits) (said_lines true depth frames rows next said)
  said_fit depth frames rows next (Happens what) d f r h = order_fits next rows what r h
  said_fit depth frames rows next Begins d f r h = tt
  said_fit depth frames rows next (Stays cause) d f r h = (tt, tt)
  said_fit depth frames rows next (Steps s) d f r h = ((d, h.0, h.1, h.2, h.3), each_append (HasNumbers Fits) (move_lines s.made) (end_lines frames s.ended) (made_fit s.made h.0) (end_fits frames s.ended f h.4))
  said_fit depth frames rows next (Resets reason dropped) d f r h = (h, tt)

  later_shows : (shows : List (List Row)) (what : Order) → Each (Each Fits) shows → Each (Each Fits) (shows_after_order shows what)
  later_shows shows (orders.Show what) h = each_less (Each Fits) shows h
  later_shows shows _ h = h

  shows_fit : (shows : List (List Row)) (said : Said) → Each (Each Fits) shows → Each (Each Fits) (shows_after shows said)
  shows_fit shows (Happens what) h = later_shows shows what h
  shows_fit shows _ h = h

  chapter_fits : (order : Order) (frames : List Purpose) (shows : List (List Row)) (es : List Entry) → OrderFits order → Each PurposeFits frames → Each (Each Fits) shows → Each EntryFits es → Each (HasNumbers Fits) (chapter_lines true order frames shows es)
  chapter_fits order frames shows [] o f r h = tt
  chapter_fits order frames shows (e ∷ es) o f r h =
      each_append (HasNumbers Fits) (said_lines true e.depth frames (next_rows shows) (steps_next es) e.said) _ (said_fit e.depth frames (next_rows shows) (steps_next es) e.said h.0.1 f (next_fit shows r) h.0.2)
      (chapter_fits order (frames_after order frames e.said) (shows_after shows e.said) es o (frames_fit order frames e.said o f) (shows_fit shows e.said r) h.1)

  done_by : (b : Bool) (lines : List Line) → Each (HasNumbers Fits) lines → Each (HasNumbers Fits) (cond b (lines ++ Done ∷ []) lines)
  done_by true lines h = each_append (HasNumbers Fits) lines (Done ∷ []) h (tt, tt)
  done_by false lines h = h

  -- the lines of a directive have their numbers
  pub lines_fit : (order : Order) (frames : List Purpose) (shows : List (List Row)) (es : List Entry) → OrderFits order → Each PurposeFits frames → Each (Each Fits) shows → Each EntryFits es → Each (HasNumbers Fits) (with_done (chapter_lines true order frames shows es))
  lines_fit order frames shows es o f r h = let lines = chapter_lines true order frames shows es in done_by (list_all is_traced lines) lines (chapter_fits order frames shows es o f r h)

-- ---- with any rows

any_row : (rows : List Row) → Each AnyRow rows
any_row [] = tt
any_row (row ∷ rows) = (tt, any_row rows)

any_rows : (shows : List (List Row)) → Each (Each AnyRow) shows
any_rows [] = tt
any_rows (rows ∷ shows) = (any_row rows, any_rows shows)

pub lines_printed : (order : Order) (frames : List Purpose) (shows : List (List Row)) (es : List Entry) → OrderFits order → Each PurposeFits frames → Each EntryFits es → Each IsPrinted (with_done (chapter_lines true order frames shows es))
lines_printed order frames shows es o f h = lines_fit AnyRow order frames shows es o f (any_rows shows) h

-- ---- with none

all_numbers : (line : Line) → HasNumbers NoRow line → HasLineNumbers line
all_numbers (Shows row) h = absurd h
all_numbers (Holds cause) h = h
all_numbers (Makes depth made value received event) h = h
all_numbers (Waits ticks) h = h
all_numbers (Notes notice) h = h
all_numbers (Errs found) h = h
all_numbers (Returns service head words) h = h
all_numbers (Leaves line) h = h
all_numbers (Restarts reason dropped) h = h
all_numbers Done h = h

each_numbers : (lines : List Line) → Each (HasNumbers NoRow) lines → Each HasLineNumbers lines
each_numbers [] h = tt
each_numbers (line ∷ lines) h = (all_numbers line h.0, each_numbers lines h.1)

order_alone : (waited : Bool) (rows : List Row) (what : Order) → is_show what ≡ false → order_lines waited rows what ≡ order_lines waited [] what
order_alone waited rows (orders.Show what) h = cc
order_alone waited rows _ h = refl

item_alone : (depth : ℕ) (frames : List Purpose) (rows : List Row) (next : Bool) (said : Said) → shows_nothing said → said_lines true depth frames rows next said ≡ said_lines true depth frames [] next said
item_alone depth frames rows next (Happens what) h = order_alone next rows what h
item_alone depth frames rows next Begins h = refl
item_alone depth frames rows next (Stays cause) h = refl
item_alone depth frames rows next (Steps s) h = refl
item_alone depth frames rows next (Resets reason dropped) h = refl

order_keeps : (shows : List (List Row)) (what : Order) → is_show what ≡ false → shows_after_order shows what ≡ shows
order_keeps shows (orders.Show what) h = cc
order_keeps shows _ h = refl

item_keeps : (shows : List (List Row)) (said : Said) → shows_nothing said → shows_after shows said ≡ shows
item_keeps shows (Happens what) h = order_keeps shows what h
item_keeps shows Begins h = refl
item_keeps shows (Stays cause) h = refl
item_keeps shows (Steps s) h = refl
item_keeps shows (Resets reason dropped) h = refl

-- items that show nothing print none
chapter_alone : (n : ℕ) (order : Order) (frames : List Purpose) (shows : List (List Row)) (es : List Entry) → EachOf n shows_nothing es → chapter_lines true order frames shows es ≡ chapter_lines true order frames [] es
chapter_alone n order frames shows [] h = refl
chapter_alone n order frames shows (e ∷ es) h =
    let kept = frames_after order frames e.said in
    let next = steps_next es in
    ap (λ (ls : List Line). ls ++ chapter_lines true order kept (shows_after shows e.said) es) (item_alone e.depth frames (next_rows shows) next e.said h.1)
    ∙ ap (λ (ls : List Line). said_lines true e.depth frames [] next e.said ++ ls)
    (ap (λ (rows : List (List Row)). chapter_lines true order kept rows es) (item_keeps shows e.said h.1)
    ∙ (chapter_alone n order kept shows es h.2 ∙ ap (λ (rows : List (List Row)). chapter_lines true order kept rows es) (sym (item_keeps [] e.said h.1))))

pub lines_quiet : (n : ℕ) (order : Order) (frames : List Purpose) (shows : List (List Row)) (es : List Entry) → OrderFits order → Each PurposeFits frames → Each EntryFits es → EachOf n shows_nothing es →
    Each HasLineNumbers (with_done (chapter_lines true order frames shows es))
lines_quiet n order frames shows es o f h quiet =
    subst (λ (ls : List Line). Each HasLineNumbers (with_done ls)) (sym (chapter_alone n order frames shows es quiet))
    (each_numbers (with_done (chapter_lines true order frames [] es)) (lines_fit NoRow order frames [] es o f tt h))

-- so has what the frames were begun for
pub frames_left : (order : Order) (frames : List Purpose) (es : List Entry) → OrderFits order → Each PurposeFits frames → Each PurposeFits (chapter_frames order frames es)
frames_left order frames [] o f = f
frames_left order frames (e ∷ es) o f = frames_left order (frames_after order frames e.said) es o (frames_fit order frames e.said o f)

-- ---- as many frames are under way as were begun and haven't ended

module _ {State Call : Type 0} (g : Setting State Call) (call_of : Request → Call) where
  -- after the deeds of an item
  abbrev later : Order → Moment State Call → Said → Moment State Call
  later order m said = after_all g m (deed_of call_of (Some order) said)

  moved_count : (what : Order) (order : Order) (m : Moment State Call) → length (later order m (Happens what)).opens ≡ length m.opens
  moved_count (orders.Show what) order m = refl
  moved_count _ order m = refl

  begun_count : (order : Order) (frames : List Purpose) (m : Moment State Call) → length frames ≡ length m.opens → length (option_to_list (purpose_of order) ++ frames) ≡ length (later order m Begins).opens
  begun_count (orders.Call level request) frames m e = ap (λ (n : ℕ). suc n) e
  begun_count (orders.Do level request) frames m e = ap (λ (n : ℕ). suc n) e
  begun_count (orders.Enter line) frames m e = ap (λ (n : ℕ). suc n) e
  begun_count (orders.Serve line) frames m e = ap (λ (n : ℕ). suc n) e
  begun_count _ frames m e = e

  said_count : (order : Order) (said : Said) (frames : List Purpose) (m : Moment State Call) → length frames ≡ length m.opens → IsLegal g m (deed_of call_of (Some order) said) → length (frames_after order frames said) ≡ length (later order m said).opens
  said_count order (Happens what) frames m e legal = e ∙ sym (moved_count what order m)
  said_count order Begins frames m e legal = begun_count order frames m e
  said_count order (Stays cause) frames m e legal = e
  said_count order (Steps s) frames m e legal = step_frames g m m.opens s frames legal.2 e
  said_count order (Resets reason dropped) frames m e legal = refl

  pub frames_count : (order : Order) (items : List Entry) (frames : List Purpose) (m : Moment State Call) → length frames ≡ length m.opens → IsLegal g m (deeds_in call_of order items) → length (chapter_frames order frames items) ≡ length (after_all g m (deeds_in call_of order items)).opens
  frames_count order [] frames m e legal = e
  frames_count order (x ∷ xs) frames m e legal =
      let parts = legal-parts g m (deed_of call_of (Some order) x.said) (deeds_in call_of order xs) legal in
      frames_count order xs (frames_after order frames x.said) (later order m x.said) (said_count order x.said frames m e parts.0) parts.1
      ∙ ap (λ (last : Moment State Call). length last.opens) (sym (after_all-append g m (deed_of call_of (Some order) x.said) (deeds_in call_of order xs)))
