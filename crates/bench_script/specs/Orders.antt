-- What the words of a line are read as, and why they are refused.
use Rattle.std.specs.Prelude.{ℕ, ◌==◌, ◌&&◌, nat_le, List, [], ◌∷◌, length, Option, Some, None, Result, Ok, Err, if◌then◌else◌}
use Rattle.mcal_base.specs.Names.{service_text}
use Rattle.mcal_base.specs.declared.service.Service.{Service}
use Rattle.mcal_base.specs.declared.directive.Request.{Request}
use Rattle.mcal_base.specs.declared.directive.Order.{Order}
use Rattle.mcal_base.specs.declared.directive.Order.TheVariants.{Call, Do, Enter, Serve, Run, Upto, Finish, Tick, Level, Analog, Trigger, Miso, SpiFault, Detach, Fill, Reset, Show}
use Rattle.bench_script.specs.Arguments.{arguments}
use Rattle.bench_script.specs.Numbers.{number_up_to}
use Rattle.bench_script.specs.Steps.{◌>>=◌}
use Rattle.bench_script.specs.Tables.{arguments_of}
use Rattle.bench_script.specs.Words.{named, keyword_text, all_keywords, stop_text, all_stops, shown_text, all_shown, reason_text, all_reasons, all_services}
use Rattle.bench_script.specs.declared.fault.LineFault.{LineFault}
use Rattle.bench_script.specs.declared.fault.LineFault.TheVariants.{Word, Count}
use Rattle.bench_script.specs.declared.words.Keyword.{Keyword}
use Rattle.bench_script.specs.declared.words.Keyword.TheVariants as keywords

-- a word that must be known
abbrev pub known : {T : Type 0} → Option T → Result T LineFault
known None = Err Word
known (Some x) = Ok x

-- what a word must be one of
abbrev pub choice : {T : Type 0} → (T → List ℕ) → List T → List ℕ → Result T LineFault
choice spelling choices word = known (named spelling choices word)

-- one word, out of some choices
abbrev pub one_of : {T : Type 0} → (T → List ℕ) → List T → List (List ℕ) → Result T LineFault
one_of spelling choices (word ∷ []) = choice spelling choices word
one_of spelling choices _ = Err Count

-- one number
abbrev pub one : ℕ → List (List ℕ) → Result ℕ LineFault
one most (word ∷ []) = number_up_to most word
one most _ = Err Count

-- two numbers
abbrev pub pair : ℕ → ℕ → List ℕ → List ℕ → Result (ℕ × ℕ) LineFault
pair most most_next word next = do
  m ← number_up_to most word
  n ← number_up_to most_next next
  Ok (m, n)

abbrev pub two : ℕ → ℕ → List (List ℕ) → Result (ℕ × ℕ) LineFault
two most most_next (word ∷ next ∷ []) = pair most most_next word next
two most most_next _ = Err Count

-- the numbers that words are, from the left
abbrev pub numbers : ℕ → List (List ℕ) → Result (List ℕ) LineFault
numbers most [] = Ok []
numbers most (word ∷ words) = do
  n ← number_up_to most word
  others ← numbers most words
  Ok (n ∷ others)

-- a number, and 1 to 64 numbers after it
abbrev pub row : ℕ → ℕ → List ℕ → List (List ℕ) → Result (ℕ × List ℕ) LineFault
row most most_next word words = do
  n ← number_up_to most word
  others ← numbers most_next words
  Ok (n, others)

abbrev pub several : ℕ → ℕ → List (List ℕ) → Result (ℕ × List ℕ) LineFault
several most most_next [] = Err Count
several most most_next (word ∷ words) = if nat_le 1 (length words) && nat_le (length words) 64 then row most most_next word words else Err Count

-- a level, and a service with its arguments: first the number of words, then the level, then the arguments
abbrev pub request_to : Service → List ℕ → List (List ℕ) → Result (ℕ × Request) LineFault
request_to service level words =
    if length words == length (arguments_of service) then (do
      l ← number_up_to 7 level
      given ← arguments (arguments_of service) words
      Ok (l, record { service = service; arguments = given }))
    else Err Count

-- the service's name comes before the number of words
abbrev pub request_by_name : List ℕ → List ℕ → List (List ℕ) → Result (ℕ × Request) LineFault
request_by_name level name words = do
  service ← choice service_text all_services name
  request_to service level words

abbrev pub request : List (List ℕ) → Result (ℕ × Request) LineFault
request (level ∷ name ∷ words) = request_by_name level name words
request _ = Err Count

-- no word
abbrev pub nothing : List (List ℕ) → Result (Unit {0}) LineFault
nothing [] = Ok tt
nothing _ = Err Count

-- what stands after each keyword
abbrev pub order_by_keyword : Keyword → List (List ℕ) → Result Order LineFault
order_by_keyword keywords.Call words = do
  p ← request words
  Ok (Call p.0 p.1)
order_by_keyword keywords.Do words = do
  p ← request words
  Ok (Do p.0 p.1)
order_by_keyword keywords.Enter words = do
  n ← one 31 words
  Ok (Enter n)
order_by_keyword keywords.Serve words = do
  n ← one 31 words
  Ok (Serve n)
order_by_keyword keywords.Run words = do
  n ← one 4294967295 words
  Ok (Run n)
order_by_keyword keywords.Upto words = do
  s ← one_of stop_text all_stops words
  Ok (Upto s)
order_by_keyword keywords.Finish words = do
  _ ← nothing words
  Ok Finish
order_by_keyword keywords.Tick words = do
  n ← one 1000000 words
  Ok (Tick n)
order_by_keyword keywords.Level words = do
  p ← two 63 1 words
  Ok (Level p.0 (p.1 == 1))
order_by_keyword keywords.Analog words = do
  p ← two 31 4095 words
  Ok (Analog p.0 p.1)
order_by_keyword keywords.Trigger words = do
  n ← one 3 words
  Ok (Trigger n)
order_by_keyword keywords.Miso words = do
  p ← several 1 65535 words
  Ok (Miso p.0 p.1)
order_by_keyword keywords.SpiFault words = do
  n ← one 1 words
  Ok (SpiFault n)
order_by_keyword keywords.Detach words = do
  _ ← nothing words
  Ok Detach
order_by_keyword keywords.Fill words = do
  p ← several 4294967295 4294967295 words
  Ok (Fill p.0 p.1)
order_by_keyword keywords.Reset words = do
  r ← one_of reason_text all_reasons words
  Ok (Reset r)
order_by_keyword keywords.Show words = do
  s ← one_of shown_text all_shown words
  Ok (Show s)

-- the keyword of an order
abbrev pub keyword_of : Order → Keyword
keyword_of (Call level request) = keywords.Call
keyword_of (Do level request) = keywords.Do
keyword_of (Enter line) = keywords.Enter
keyword_of (Serve line) = keywords.Serve
keyword_of (Run steps) = keywords.Run
keyword_of (Upto stop) = keywords.Upto
keyword_of Finish = keywords.Finish
keyword_of (Tick ticks) = keywords.Tick
keyword_of (Level pin level) = keywords.Level
keyword_of (Analog input value) = keywords.Analog
keyword_of (Trigger input) = keywords.Trigger
keyword_of (Miso unit words) = keywords.Miso
keyword_of (SpiFault unit) = keywords.SpiFault
keyword_of Detach = keywords.Detach
keyword_of (Fill channel words) = keywords.Fill
keyword_of (Reset reason) = keywords.Reset
keyword_of (Show shown) = keywords.Show

-- what stands in a line
abbrev pub order_by_word : List ℕ → List (List ℕ) → Result Order LineFault
order_by_word word words = do
  keyword ← choice keyword_text all_keywords word
  order_by_keyword keyword words

-- a line with words is a directive, and one without is none
abbrev pub some_order : Result Order LineFault → Result (Option Order) LineFault
some_order read = do
  order ← read
  Ok (Some order)

abbrev pub order_of : List (List ℕ) → Result (Option Order) LineFault
order_of [] = Ok None
order_of (word ∷ words) = some_order (order_by_word word words)
