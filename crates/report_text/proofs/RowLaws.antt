-- The rows of a show, whatever their numbers are: they have no line feed, and are read as rows, or not at all.
use Rattle.std.proofs.Common.{◌≡◌, ℕ, zero, suc, ◌%◌, ◌/◌, Bool, true, false, List, [], ◌∷◌, ◌++◌, map, Option, Some, None, refl, sym, ◌∙◌, ap, subst, arith, append_assoc}
use Rattle.std.specs.Prelude.{◌==◌, codes, decimal, option_map, cond, bytes_eq, if◌then◌else◌}
use Rattle.std.specs.Fmt.{digits, digits_onto, digit_glyph}
use Rattle.std.specs.List.{list_all}
use Rattle.std.proofs.lemmas.Bool.Decides.{nat_tests}
use Rattle.bench_report.specs.Lines.{Line, Holds, Makes, Waits, Notes, Errs, Returns, Leaves, Restarts, Shows, Done, line_text}
use Rattle.bench_report.specs.Numbers.{IsNumber}
use Rattle.bench_report.specs.Report.{is_traced, with_done}
use Rattle.bench_report.specs.Rows.{Row, name_text, row_text, values_text}
use Rattle.bench_report.specs.declared.rows.RowName.{RowName}
use Rattle.bench_report.specs.declared.rows.RowName.TheVariants as names
use Rattle.bench_report.specs.declared.rows.Value.{Value}
use Rattle.bench_report.specs.declared.rows.Value.TheVariants as values
use Rattle.report_text.specs.reading.Reading.{told_in_line, told_in}
use Rattle.report_text.proofs.Places.{IsPrinted}
use Rattle.trace_reader.specs.Guess.{words_of, guess, row, long_row, long_name, short_name, shown, is_long, each, value}
use Rattle.trace_reader.specs.Numbers.{number}
use Rattle.trace_reader.specs.Reading.{line_with, told_where, read_line, read_number, read_words}
use Rattle.trace_reader.specs.declared.told.Told.{Told}
use Rattle.trace_reader.specs.declared.told.Told.TheVariants as tells
use Rattle.trace_reader.specs.declared.told.TraceLine.{TraceLine}
use Rattle.trace_reader.proofs.Digits.{none, none_append, no_space, number_again}
use Rattle.trace_reader.proofs.FeedLaws.{nl, line_feedless}
use Rattle.trace_reader.proofs.LineByLine.{line_again}
use Rattle.trace_reader.proofs.Splits.{front_word}

-- ---- no line feed in a row

glyph_is : (n : ℕ) → (digit_glyph false (n % 10) == 10) ≡ false
glyph_is n = grind (arith, nat_tests)

onto_if : (b : Bool) (x y : List ℕ) → none nl x ≡ true → none nl y ≡ true → none nl (if b then x else y) ≡ true
onto_if true x y h k = h
onto_if false x y h k = k

onto_front : (n : ℕ) (acc : List ℕ) → none nl acc ≡ true → none nl (digit_glyph false (n % 10) ∷ acc) ≡ true
onto_front n acc h = rw (glyph_is n) h

onto_feedless : (k n : ℕ) (acc : List ℕ) → none nl acc ≡ true → none nl (digits_onto k 10 false n acc) ≡ true
onto_feedless zero n acc h = h
onto_feedless (suc k) n acc h =
    onto_if (n / 10 == 0) (digit_glyph false (n % 10) ∷ acc) (digits_onto k 10 false (n / 10) (digit_glyph false (n % 10) ∷ acc)) (onto_front n acc h)
    (onto_feedless k (n / 10) (digit_glyph false (n % 10) ∷ acc) (onto_front n acc h))

pub feedless : (n : ℕ) → none nl (decimal n) ≡ true
unfolding digits
feedless n = onto_feedless 64 n [] refl

before : (n : ℕ) (bs : List ℕ) → none nl bs ≡ true → none nl (decimal n ++ bs) ≡ true
before n bs h = none_append nl (decimal n) bs (feedless n) h

name_feedless : (name : RowName) → none nl (name_text name) ≡ true
name_feedless (names.Pin n) = feedless n
name_feedless (names.Ram n) = feedless n
name_feedless (names.Wire n) = feedless n
name_feedless (names.Stamps n) = feedless n
name_feedless (names.Results g b) = before g (codes " " ++ decimal b) (feedless b)
name_feedless (names.Source c) = before c (codes " src") refl
name_feedless (names.Destination c) = before c (codes " dst") refl
name_feedless (names.Transmit c) = before c (codes " tx") refl
name_feedless (names.Receive c) = before c (codes " rx") refl

values_feedless : (vs : List Value) → none nl (values_text vs) ≡ true
values_feedless [] = refl
values_feedless (values.One n ∷ vs) = before n (values_text vs) (values_feedless vs)
values_feedless (values.Pair sent received ∷ vs) =
    none_append nl (decimal sent ++ (codes "/" ++ decimal received)) (values_text vs) (before sent (codes "/" ++ decimal received) (feedless received)) (values_feedless vs)

pub row_feedless : (row : Row) → none nl (row_text row) ≡ true
row_feedless row = none_append nl (name_text row.name) (codes ":" ++ values_text row.values) (name_feedless row.name) (values_feedless row.values)

-- a line as a report prints it has none
pub printed_feedless : (line : Line) → IsPrinted line → none nl (line_text line) ≡ true
printed_feedless (Shows row) h = row_feedless row
printed_feedless (Holds cause) h = line_feedless (Holds cause) h
printed_feedless (Makes depth made value received event) h = line_feedless (Makes depth made value received event) h
printed_feedless (Waits ticks) h = line_feedless (Waits ticks) h
printed_feedless (Notes notice) h = line_feedless (Notes notice) h
printed_feedless (Errs found) h = line_feedless (Errs found) h
printed_feedless (Returns service head words) h = line_feedless (Returns service head words) h
printed_feedless (Leaves line) h = line_feedless (Leaves line) h
printed_feedless (Restarts reason dropped) h = line_feedless (Restarts reason dropped) h
printed_feedless Done h = line_feedless Done h

-- ---- what is read of a row

-- it tells that something is shown, or nothing
abbrev TellsRow : List Told → Type 0
TellsRow [] = Unit {0}
TellsRow (tells.Shown ∷ ts) = TellsRow ts
TellsRow (_ ∷ ts) = ⊥

-- what doesn't begin with a directive that is held
abbrev pub NotHeld : List Told → Type 0
NotHeld [] = Unit {0}
NotHeld (tells.Held cause ∷ ts) = ⊥
NotHeld (_ ∷ ts) = Unit {0}

module _ (n : ℕ) (text : List ℕ) where
  test_tells : (b : Bool) → TellsRow (told_in_line (if b then Some (record { number = n; told = tells.Shown }) else None))
  test_tells true = tt
  test_tells false = tt

  values_tell : (name : RowName) (vs : Option (List Value)) → TellsRow (told_in_line (told_where n text (option_map (λ vs. Shows (record { name = name; values = vs })) vs)))
  values_tell name None = tt
  values_tell name (Some vs) = test_tells (bytes_eq (line_with n (Shows (record { name = name; values = vs }))) text)

  shown_tells : (name : Option RowName) (words : List (List ℕ)) → TellsRow (told_in_line (told_where n text (shown name words)))
  shown_tells None words = tt
  shown_tells (Some name) words = values_tell name (each value words)

  long_tells : (word : List ℕ) (words : List (List ℕ)) → TellsRow (told_in_line (told_where n text (long_row word words)))
  long_tells word [] = tt
  long_tells word (first ∷ []) = tt
  long_tells word (first ∷ second ∷ words) = shown_tells (long_name word first second) words

  either_tells : (b : Bool) (one other : Option Line) → TellsRow (told_in_line (told_where n text one)) → TellsRow (told_in_line (told_where n text other)) → TellsRow (told_in_line (told_where n text (if b then one else other)))
  either_tells true one other h k = h
  either_tells false one other h k = k

  row_tells : (word : List ℕ) (words : List (List ℕ)) → TellsRow (told_in_line (told_where n text (row word words)))
  row_tells word [] = tt
  row_tells word (first ∷ words) = either_tells (is_long word) (long_row word (first ∷ words)) (shown (short_name word first) words) (long_tells word (first ∷ words)) (shown_tells (short_name word first) words)

  -- a line whose first word is one of a row
  words_tell : (kind : List ℕ) (words : List (List ℕ)) → IsNumber n → words_of text ≡ decimal n ∷ kind ∷ words → guess (kind ∷ words) ≡ row kind words → TellsRow (told_in_line (read_line text))
  words_tell kind words h cut begins =
      subst (λ (o : Option TraceLine). TellsRow (told_in_line o))
      (sym (ap (λ (ws : List (List ℕ)). read_words ws text) cut
      ∙ (ap (λ (k : Option ℕ). read_number k (kind ∷ words) text) (number_again n h)
      ∙ ap (told_where n text) begins)))
      (row_tells kind words)

module _ (n : ℕ) (h : IsNumber n) where
  -- the words of a line behind its number
  cut : (s : List ℕ) → words_of (decimal n ++ (codes " " ++ s)) ≡ decimal n ∷ words_of s
  cut s = front_word (decimal n) (codes " " ++ s) (no_space n h) refl

  kind_tells : (kind s : List ℕ) → none (λ b. b == 32) kind ≡ true → ((words : List (List ℕ)) → guess (kind ∷ words) ≡ row kind words) → TellsRow (told_in_line (read_line (decimal n ++ (codes " " ++ (kind ++ (codes " " ++ s))))))
  kind_tells kind s whole begins =
      words_tell n (decimal n ++ (codes " " ++ (kind ++ (codes " " ++ s)))) kind (words_of s) h
      (cut (kind ++ (codes " " ++ s)) ∙ ap (λ (ws : List (List ℕ)). decimal n ∷ ws) (front_word kind (codes " " ++ s) whole refl))
      (begins (words_of s))

  line_tells : (name : RowName) (vs : List Value) → TellsRow (told_in_line (read_line (line_with n (Shows (record { name = name; values = vs })))))
  line_tells (names.Pin p) vs = kind_tells (codes "pin") _ refl (λ words. refl)
  line_tells (names.Ram p) vs = kind_tells (codes "ram") _ refl (λ words. refl)
  line_tells (names.Wire p) vs = kind_tells (codes "wire") _ refl (λ words. refl)
  line_tells (names.Stamps p) vs = kind_tells (codes "icu") _ refl (λ words. refl)
  line_tells (names.Results p b) vs = kind_tells (codes "adc") _ refl (λ words. refl)
  line_tells (names.Source p) vs = kind_tells (codes "spi") _ refl (λ words. refl)
  line_tells (names.Destination p) vs = kind_tells (codes "spi") _ refl (λ words. refl)
  line_tells (names.Transmit p) vs = kind_tells (codes "spi") _ refl (λ words. refl)
  line_tells (names.Receive p) vs = kind_tells (codes "spi") _ refl (λ words. refl)

  -- ---- rows, and what is behind them

  behind_row : (ts others : List Told) → TellsRow ts → NotHeld others → NotHeld (ts ++ others)
  behind_row [] others h k = k
  behind_row (tells.Shown ∷ ts) others h k = tt
  behind_row (_ ∷ ts) others h k = absurd h

  rows_before : (rest : List Line) → NotHeld (told_in (map (λ line. line_with n line) rest)) → (rows : List Row) → NotHeld (told_in (map (λ line. line_with n line) (map (λ row. Shows row) rows ++ rest)))
  rows_before rest k [] = k
  rows_before rest k (row ∷ rows) = behind_row (told_in_line (read_line (line_with n (Shows row)))) (told_in (map (λ line. line_with n line) (map (λ row. Shows row) rows ++ rest))) (line_tells row.name row.values) (rows_before rest k rows)

  done_tells : NotHeld (told_in (map (λ line. line_with n line) (Done ∷ [])))
  done_tells = subst (λ (o : Option TraceLine). NotHeld (told_in_line o ++ [])) (sym (line_again n Done h tt)) tt

  rows_or_done : (b : Bool) (rows : List Row) → NotHeld (told_in (map (λ line. line_with n line) (cond b ((map (λ row. Shows row) rows ++ []) ++ Done ∷ []) (map (λ row. Shows row) rows ++ []))))
  rows_or_done true rows = subst (λ (lines : List Line). NotHeld (told_in (map (λ line. line_with n line) lines))) (sym (append_assoc (map (λ row. Shows row) rows) [] (Done ∷ []))) (rows_before (Done ∷ []) done_tells rows)
  rows_or_done false rows = rows_before [] tt rows

  -- the lines of a show don't say that it is held
  pub shows_freely : (rows : List Row) → NotHeld (told_in (map (λ line. line_with n line) (with_done (map (λ row. Shows row) rows ++ []))))
  shows_freely rows = rows_or_done (list_all is_traced (map (λ row. Shows row) rows ++ [])) rows
