-- What the `show` directives of a run printed, one text each, and how it stands for the rows that they showed.
use Rattle.std.specs.Prelude.{ℕ, List, [], ◌∷◌, ◌++◌, Option, Some, None, drop, flat_map, if◌then◌else◌}
use Rattle.mcal_base.specs.declared.directive.Order.{Order}
use Rattle.mcal_base.specs.declared.directive.Order.TheVariants as orders
use Rattle.run_model.specs.Entry.{Entry, Said, Happens, Begins, Stays, Steps, Resets}
use Rattle.bench_report.specs.Limit.{is_too_long}
use Rattle.bench_report.specs.Lines.{numbered, Shows}
use Rattle.bench_report.specs.Rows.{Row}

-- all texts, one behind the other
abbrev pub joined : List (List ℕ) → List ℕ
joined texts = flat_map (λ text. text) texts

-- texts that are kept: none, once they are longer together than a report may be
abbrev pub kept : List (List ℕ) → Option (List (List ℕ))
kept texts = if is_too_long (joined texts) then None else Some texts

-- one more text is kept
abbrev pub push : Option (List (List ℕ)) → List ℕ → Option (List (List ℕ))
push None text = None
push (Some texts) text = kept (texts ++ text ∷ [])

-- the lines of a show at a script line
abbrev pub rows_text : ℕ → List Row → List ℕ
rows_text line rows = flat_map (λ row. numbered line (Shows row)) rows

-- the rows of the show that comes next
abbrev pub next_rows : List (List Row) → List Row
next_rows [] = []
next_rows (rows ∷ shows) = rows

-- the texts of shows, one for each item that shows something
abbrev pub order_texts : ℕ → List (List Row) → Order → List (List ℕ)
order_texts line shows (orders.Show what) = rows_text line (next_rows shows) ∷ []
order_texts line shows _ = []

abbrev pub said_texts : ℕ → List (List Row) → Said → List (List ℕ)
said_texts line shows (Happens what) = order_texts line shows what
said_texts line shows Begins = []
said_texts line shows (Stays cause) = []
said_texts line shows (Steps step) = []
said_texts line shows (Resets reason dropped) = []

-- the shows that are left after an item
abbrev pub shows_after_order : List (List Row) → Order → List (List Row)
shows_after_order shows (orders.Show what) = drop 1 shows
shows_after_order shows _ = shows

abbrev pub shows_after : List (List Row) → Said → List (List Row)
shows_after shows (Happens what) = shows_after_order shows what
shows_after shows Begins = shows
shows_after shows (Stays cause) = shows
shows_after shows (Steps step) = shows
shows_after shows (Resets reason dropped) = shows

abbrev pub texts_of : List Entry → List (List Row) → List (List ℕ)
texts_of [] shows = []
texts_of (entry ∷ entries) shows = said_texts entry.line shows entry.said ++ texts_of entries (shows_after shows entry.said)
