-- The line that words may be: the only one that can be printed so, if one can.
use Rattle.std.specs.Prelude.{ℕ, ◌+◌, ◌-◌, ◌==◌, ◌||◌, take, drop, List, [], ◌∷◌, length, Bool, true, false, Option, Some, None, option_map, option_and_then, codes, bytes_eq, if◌then◌else◌}
use Rattle.std.specs.Char.{is_ascii_digit}
use Rattle.std.specs.List.{slice_split, position}
use Rattle.mcal_base.specs.det_errors.Spelling.{error_text}
use Rattle.irq_control.specs.Spelling.{held_text}
use Rattle.mcal_base.specs.Names.{service_text, answer_text, notice_text}
use Rattle.mcal_base.specs.declared.answer.Head.{Head}
use Rattle.mcal_base.specs.declared.answer.Head.TheVariants as heads
use Rattle.mcal_base.specs.declared.moves.DevError.{DevError}
use Rattle.mcal_base.specs.declared.moves.Event.{Event}
use Rattle.mcal_base.specs.declared.moves.Event.TheVariants as events
use Rattle.mcal_base.specs.declared.moves.Move.{Move}
use Rattle.mcal_base.specs.declared.moves.Move.TheVariants as moves
use Rattle.mcal_base.specs.declared.moves.Unit.TheVariants as units
use Rattle.mcal_base.specs.declared.notice.Notice.{Notice}
use Rattle.mcal_base.specs.declared.register.Reg.{Reg}
use Rattle.mcal_base.specs.declared.service.Service.{Service}
use Rattle.bench_report.specs.Lines.{Line, Holds, Makes, Waits, Notes, Errs, Returns, Leaves, Restarts, Shows, Done, reason_text}
use Rattle.bench_report.specs.declared.rows.RowName.{RowName}
use Rattle.bench_report.specs.declared.rows.RowName.TheVariants as names
use Rattle.bench_report.specs.declared.rows.Value.{Value}
use Rattle.bench_report.specs.declared.rows.Value.TheVariants as values
use Rattle.bench_script.specs.Words.{named, all_services}
use Rattle.trace_reader.specs.Names.{all_causes, all_reasons, all_notices, all_answers, all_errors}
use Rattle.trace_reader.specs.Numbers.{number, front, rest, is_letter}
use Rattle.trace_reader.specs.Registers.{rows, chosen}

infixl 10 ◌>>=◌
abbrev pub ◌>>=◌ : {A B : Type 0} → Option A → (A → Option B) → Option B
o >>= f = option_and_then f o

-- the words of a text, between its spaces
abbrev pub words_of : List ℕ → List (List ℕ)
words_of text = slice_split (λ b. b == 32) text

-- ---- words of one kind

-- the register with these letters and numbers, where they are numbers
abbrev pub register_at : Option ℕ → Option ℕ → List ℕ → List ℕ → Option Reg
register_at (Some n) (Some k) letter name = chosen (rows n k) letter name
register_at _ _ letter name = None

-- letters, a number, letters and a number
abbrev pub register : List ℕ → Option Reg
register word =
    register_at (number (front is_letter (rest is_ascii_digit word))) (number (rest is_ascii_digit (rest is_letter (rest is_ascii_digit word))))
    (front is_ascii_digit word) (front is_ascii_digit (rest is_letter (rest is_ascii_digit word)))

-- a number behind a letter
abbrev pub word_number : List ℕ → Option ℕ
word_number [] = None
word_number (b ∷ bs) = if b == 119 then number bs else None

-- a word before a colon
abbrev pub before_colon : List ℕ → List ℕ
before_colon word = take (length word - 1) word

-- a value, or two with a stroke between them
abbrev pub pair : List ℕ → List ℕ → Option Value
pair sent_word received_word = do
  sent ← number sent_word
  received ← number received_word
  Some (values.Pair sent received)

abbrev pub value_at : List ℕ → Option ℕ → Option Value
value_at word None = option_map (λ n. values.One n) (number word)
value_at word (Some place) = pair (take place word) (drop (place + 1) word)

abbrev pub value : List ℕ → Option Value
value word = value_at word (position (λ b. b == 47) word)

-- words that are all of a kind
abbrev pub each : {T : Type 0} → (List ℕ → Option T) → List (List ℕ) → Option (List T)
each read [] = Some []
each read (word ∷ words) = do
  x ← read word
  xs ← each read words
  Some (x ∷ xs)

-- ---- steps

abbrev pub notice : List ℕ → List ℕ → Option Notice
notice kind id = do
  k ← named notice_text all_notices kind
  n ← number id
  Some (record { kind = k; id = n })

abbrev pub found : Bool → List ℕ → List ℕ → Option DevError
found runtime service error = do
  s ← named service_text all_services service
  e ← named error_text all_errors error
  Some (record { service = s; error = e; runtime = runtime })

-- an access by its word and the two behind it, and the value that it gave
abbrev pub access : List ℕ → List ℕ → List ℕ → Option (Move × ℕ)
access word first second =
    if bytes_eq word (codes "read") then (do
      r ← register first
      n ← number second
      Some (moves.Read r, n))
    else if bytes_eq word (codes "write") then (do
      r ← register first
      n ← number second
      Some (moves.Write r n, 0))
    else if bytes_eq word (codes "load") then (do
      k ← word_number first
      n ← number second
      Some (moves.Load k, n))
    else if bytes_eq word (codes "store") then (do
      k ← word_number first
      n ← number second
      Some (moves.Store k n, 0))
    else None

-- a move by its word and the two behind it, and the value that it gave
abbrev pub long_move : List ℕ → List ℕ → List ℕ → Option (Move × ℕ)
long_move word first second =
    if bytes_eq word (codes "note") then option_map (λ n. (moves.Note n, 0)) (notice first second)
    else if bytes_eq word (codes "report") then option_map (λ e. (moves.Report e, 0)) (found false first second)
    else if bytes_eq word (codes "runtime") then option_map (λ e. (moves.Report e, 0)) (found true first second)
    else access word first second

-- the word that came in at the end of a step; 0 where none did
abbrev pub ending : List (List ℕ) → Option ℕ
ending [] = Some 0
ending (word ∷ count ∷ []) = if bytes_eq word (codes "got") then number count else None
ending _ = None

-- an event, and the word that came in behind it
abbrev pub followed : Option Event → List (List ℕ) → Option (Option Event × ℕ)
followed event words = option_map (λ n. (event, n)) (ending words)

-- the same of a line that is served
abbrev pub serving : List (List ℕ) → Option (Option Event × ℕ)
serving [] = None
serving (line ∷ words) = do
  l ← number line
  followed (Some (events.Serve l)) words

-- the event of a step, if it has one, and the word that came in
abbrev pub marked : List (List ℕ) → Option (Option Event × ℕ)
marked [] = followed None []
marked (word ∷ words) =
    if bytes_eq word (codes "act") then followed (Some events.Act) words
    else if bytes_eq word (codes "serve") then serving words
    else if bytes_eq word (codes "abort") then followed (Some (events.Abort units.Adc0)) words
    else if bytes_eq word (codes "start") then followed (Some (events.Start units.Adc0)) words
    else followed None (word ∷ words)

-- a step by its move, the value that it gave, and the words behind those
abbrev pub made_step : ℕ → Move → ℕ → List (List ℕ) → Option Line
made_step depth made value words = option_map (λ m. Makes depth made value m.1 m.0) (marked words)

abbrev pub long_step : ℕ → List ℕ → List (List ℕ) → Option Line
long_step depth word (first ∷ second ∷ words) = do
  m ← long_move word first second
  made_step depth m.0 m.1 words
long_step depth word _ = None

abbrev pub moved : ℕ → List ℕ → List (List ℕ) → Option Line
moved depth word words =
    if bytes_eq word (codes "mask") then made_step depth moves.Mask 0 words
    else if bytes_eq word (codes "unmask") then made_step depth moves.Unmask 0 words
    else long_step depth word words

abbrev pub step : List ℕ → List ℕ → List (List ℕ) → Option Line
step depth word words = do
  d ← number depth
  moved d word words

-- ---- the other lines without a list

-- a word alone
abbrev pub alone : List ℕ → Option Line
alone word = if bytes_eq word (codes "ok") then Some Done else None

-- with one word behind it
abbrev pub with_one : List ℕ → List ℕ → Option Line
with_one word first =
    if bytes_eq word (codes "left") then option_map (λ l. Leaves l) (number first)
    else if bytes_eq word (codes "stall") then option_map (λ t. Waits t) (number first)
    else if bytes_eq word (codes "held") then option_map (λ c. Holds c) (named held_text all_causes first)
    else None

abbrev pub restart : List ℕ → List ℕ → Option Line
restart reason dropped = do
  r ← named reason_text all_reasons reason
  k ← number dropped
  Some (Restarts r k)

-- with two words behind it
abbrev pub with_two : List ℕ → List ℕ → List ℕ → Option Line
with_two word first second =
    if bytes_eq word (codes "note") then option_map (λ n. Notes n) (notice first second)
    else if bytes_eq word (codes "error") then option_map (λ e. Errs e) (found false first second)
    else if bytes_eq word (codes "runtime") then option_map (λ e. Errs e) (found true first second)
    else if bytes_eq word (codes "reset") then restart first second
    else None

-- with two, and none behind those
abbrev pub with_just_two : List ℕ → List ℕ → List ℕ → List (List ℕ) → Option Line
with_just_two word first second [] = with_two word first second
with_just_two word first second _ = None

-- with two or more: a step may have more
unfoldable pub with_more : List ℕ → List ℕ → List ℕ → List (List ℕ) → Option Line
with_more word first second words = if bytes_eq word (codes "step") then step first second words else with_just_two word first second words

abbrev pub plain : List ℕ → List (List ℕ) → Option Line
plain word [] = alone word
plain word (first ∷ []) = with_one word first
plain word (first ∷ second ∷ words) = with_more word first second words

-- ---- answers

-- begins with a digit
abbrev pub is_numeral : List ℕ → Bool
is_numeral [] = false
is_numeral (b ∷ bs) = is_ascii_digit b

-- a return with the numbers of its answer
abbrev pub answered : Service → Head → List (List ℕ) → Option Line
answered service head words = option_map (λ ns. Returns service head ns) (each number words)

-- an answer that begins with a number: 0 and null, or numbers alone
abbrev pub numbered : Service → List (List ℕ) → Option Line
numbered service (zero ∷ null ∷ words) = if bytes_eq null (codes "null") then answered service heads.ZeroNull words else answered service heads.Numbers (zero ∷ null ∷ words)
numbered service words = answered service heads.Numbers words

-- an answer: none, one that begins with a number, or a name and numbers
abbrev pub answer : Service → List (List ℕ) → Option Line
answer service [] = answered service heads.Nothing []
answer service (word ∷ words) =
    if is_numeral word then numbered service (word ∷ words)
    else (do
      a ← named answer_text all_answers word
      answered service (heads.Name a) words)

abbrev pub returned : List (List ℕ) → Option Line
returned [] = None
returned (word ∷ words) = do
  s ← named service_text all_services word
  answer s words

-- ---- rows

-- the words of a serial channel
abbrev pub channel_words : ℕ → List ℕ → Option RowName
channel_words c word =
    if bytes_eq word (codes "src:") then Some (names.Source c)
    else if bytes_eq word (codes "dst:") then Some (names.Destination c)
    else if bytes_eq word (codes "tx:") then Some (names.Transmit c)
    else if bytes_eq word (codes "rx:") then Some (names.Receive c)
    else None

-- an object by its kind and its number
abbrev pub short_name : List ℕ → List ℕ → Option RowName
short_name word number_word =
    if bytes_eq word (codes "pin") then option_map (λ n. names.Pin n) (number (before_colon number_word))
    else if bytes_eq word (codes "ram") then option_map (λ n. names.Ram n) (number (before_colon number_word))
    else if bytes_eq word (codes "wire") then option_map (λ n. names.Wire n) (number (before_colon number_word))
    else if bytes_eq word (codes "icu") then option_map (λ n. names.Stamps n) (number (before_colon number_word))
    else None

-- an object by its kind and two words
abbrev pub long_name : List ℕ → List ℕ → List ℕ → Option RowName
long_name word first second =
    if bytes_eq word (codes "adc") then (do
      g ← number first
      b ← number (before_colon second)
      Some (names.Results g b))
    else if bytes_eq word (codes "spi") then (do
      c ← number first
      channel_words c second)
    else None

-- a row of an object
abbrev pub shown : Option RowName → List (List ℕ) → Option Line
shown None words = None
shown (Some name) words = option_map (λ vs. Shows (record { name = name; values = vs })) (each value words)

abbrev pub long_row : List ℕ → List (List ℕ) → Option Line
long_row word (first ∷ second ∷ words) = shown (long_name word first second) words
long_row word _ = None

abbrev pub is_long : List ℕ → Bool
is_long word = bytes_eq word (codes "adc") || bytes_eq word (codes "spi")

abbrev pub row : List ℕ → List (List ℕ) → Option Line
row word [] = None
row word (first ∷ words) = if is_long word then long_row word (first ∷ words) else shown (short_name word first) words

-- ---- lines

-- a line that shows begins so
abbrev pub is_row : List ℕ → Bool
is_row word = bytes_eq word (codes "pin") || (bytes_eq word (codes "ram") || (bytes_eq word (codes "wire") || (bytes_eq word (codes "icu") || is_long word)))

-- a line by its first word
abbrev pub by_word : List ℕ → List (List ℕ) → Option Line
by_word word words =
    if bytes_eq word (codes "return") then returned words
    else if is_row word then row word words
    else plain word words

abbrev pub guess : List (List ℕ) → Option Line
guess [] = None
guess (word ∷ words) = by_word word words
