-- The items of a directive are read back from the bytes of their lines.
use Rattle.std.proofs.Common.{◌≡◌, ℕ, true, false, List, [], ◌∷◌, ◌++◌, length, map, Option, refl, sym, subst}
use Rattle.bench_report.proofs.Items.{is_show, gives_each}
use Rattle.bench_report.specs.Lines.{Holds}
use Rattle.bench_report.specs.Numbers.{IsNumber, Each, EntryFits}
use Rattle.bench_report.specs.Report.{chapter_lines, with_done}
use Rattle.bench_report.specs.Rows.{Row}
use Rattle.bench_report.specs.Shown.{next_rows}
use Rattle.bench_report.specs.declared.frames.Purpose.{Purpose}
use Rattle.irq_control.specs.declared.held.Held.TheVariants.{Frames}
use Rattle.mcal_base.specs.declared.directive.Order.{Order}
use Rattle.mcal_base.specs.declared.directive.Order.TheVariants as orders
use Rattle.mcal_base.specs.declared.directive.Request.{Request}
use Rattle.mcal_base.specs.declared.directive.Shown.{Shown}
use Rattle.report_text.specs.reading.Fits.{OrderFits, PurposeFits}
use Rattle.report_text.specs.reading.Reading.{item, held_or, items_by, told_in_line, told_in}
use Rattle.report_text.proofs.Back.{gives_read}
use Rattle.report_text.proofs.Places.{lines_quiet}
use Rattle.report_text.proofs.RowLaws.{NotHeld, shows_freely}
use Rattle.report_text.proofs.Texts.{told_again}
use Rattle.run_model.specs.Entry as entry
use Rattle.run_model.specs.Entry.{Entry}
use Rattle.run_model.specs.Follows.{Gives, deeds_in}
use Rattle.run_model.specs.Follows as follows
use Rattle.run_model.specs.Frame.{Open}
use Rattle.run_model.specs.Legal.{IsLegal}
use Rattle.run_model.specs.Moment.{Setting, Moment}
use Rattle.trace_reader.specs.Reading.{line_with}
use Rattle.trace_reader.specs.declared.told.Told.{Told}
use Rattle.trace_reader.specs.declared.told.Told.TheVariants as tells
use Rattle.trace_reader.specs.declared.told.TraceLine.{TraceLine}
use Rattle.trace_reader.proofs.LineByLine.{line_again}

module _ {State Call : Type 0} (g : Setting State Call) (call_of : Request → Call) (m : Moment State Call) (frames : List Purpose) (shows : List (List Row)) (n : ℕ) (numbered : IsNumber n) where
  -- what is read of their lines
  abbrev pub read_of : Order → List Entry → List Told
  read_of order items = told_in (map (λ line. line_with n line) (with_done (chapter_lines true order frames shows items)))

  abbrev IsBack : Order → List Entry → Type 0
  IsBack order items = held_or m n (read_of order items) (items_by g call_of m n order (read_of order items)) ≡ items

  -- ---- a show, whose rows may have any numbers

  free : (ts : List Told) (items : List Entry) → NotHeld ts → held_or m n ts items ≡ items
  free [] items h = refl
  free (tells.Held cause ∷ ts) items h = absurd h
  free (_ ∷ ts) items h = refl

  show_back : (what : Shown) (os : List (Open Call)) (items : List Entry) → follows.Shows m n (orders.Show what) os items → IsBack (orders.Show what) items
  show_back what [] items is =
      subst (λ (xs : List Entry). IsBack (orders.Show what) xs) (sym is) (free (read_of (orders.Show what) (item m n (entry.Happens (orders.Show what)) ∷ [])) (item m n (entry.Happens (orders.Show what)) ∷ []) (shows_freely n numbered (next_rows shows)))
  show_back what (o ∷ os) items is =
      subst (λ (xs : List Entry). IsBack (orders.Show what) xs) (sym is)
      (subst (λ (t : Option TraceLine). held_or m n (told_in_line t ++ []) (item m n (entry.Happens (orders.Show what)) ∷ []) ≡ item m n (entry.Stays Frames) ∷ []) (sym (line_again n (Holds Frames) numbered tt)) refl)

  show_or : (order : Order) (items : List Entry) → Gives g call_of m n order items → (is_show order ≡ false → IsBack order items) → IsBack order items
  show_or (orders.Show what) items gives f = show_back what m.opens items gives
  show_or _ items gives f = f refl

  -- ---- any directive

  pub lines_back : (order : Order) (items : List Entry) → OrderFits order → Each PurposeFits frames → Each EntryFits items → length frames ≡ length m.opens → Gives g call_of m n order items → IsLegal g m (deeds_in call_of order items) →
      held_or m n (read_of order items) (items_by g call_of m n order (read_of order items)) ≡ items
  lines_back order items o f fits begun gives legal = show_or order items gives (λ quiet.
      let lines = with_done (chapter_lines true order frames shows items) in
      subst (λ (ts : List Told). held_or m n ts (items_by g call_of m n order ts) ≡ items)
      (sym (told_again n lines numbered (lines_quiet n order frames shows items o f fits (gives_each g call_of m n order items quiet gives))))
      (gives_read g call_of m frames shows n order items begun gives legal))
