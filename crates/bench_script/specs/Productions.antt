-- The grammar: one production for each order and each kind of argument, and the lines of a script.
use Rattle.std.specs.Prelude.{◌≡◌, ◌⊎◌, ℕ, ◌+◌, ◌≤◌, List, [], ◌∷◌, length, Bool, true, false, Some, codes}
use Rattle.std.specs.Str.Lines.{lines}
use Rattle.mcal_base.specs.Names.{service_text, argument_text}
use Rattle.mcal_base.specs.declared.argument_name.ArgumentName.{ArgumentName}
use Rattle.mcal_base.specs.declared.argument_name.ArgumentName.TheVariants as names
use Rattle.mcal_base.specs.declared.directive.Argument.{Argument}
use Rattle.mcal_base.specs.declared.directive.Argument.TheVariants as values
use Rattle.mcal_base.specs.declared.directive.Directive.{Directive}
use Rattle.mcal_base.specs.declared.directive.Order.{Order}
use Rattle.mcal_base.specs.declared.directive.Order.TheVariants.{Call, Do, Enter, Serve, Run, Upto, Finish, Tick, Level, Analog, Trigger, Miso, SpiFault, Detach, Fill, Reset, Show}
use Rattle.mcal_base.specs.declared.directive.Request.{Request}
use Rattle.mcal_base.specs.declared.directive.Reason.TheVariants as reasons
use Rattle.bench_script.specs.Lines.{before_comment, is_text, words_of}
use Rattle.bench_script.specs.Numbers.{numeral}
use Rattle.bench_script.specs.Tables.{arguments_of, names_of}
use Rattle.bench_script.specs.Words.{stop_text, shown_text}
use Rattle.bench_script.specs.declared.tables.Kind.{Kind}
use Rattle.bench_script.specs.declared.tables.Kind.TheVariants as kinds

-- a word is a numeral of this value, which is at most so much
pub record IsNumber (most n : ℕ) (word : List ℕ) : Type 0 where
  pub spelled : numeral word ≡ Some n
  pub below : n ≤ most

-- words are numerals of these values, each of which is at most so much
abbrev pub AreNumbers : ℕ → List ℕ → List (List ℕ) → Type 0
AreNumbers most [] [] = Unit {0}
AreNumbers most (n ∷ ns) (word ∷ words) = IsNumber most n word × AreNumbers most ns words
AreNumbers most _ _ = ⊥

-- a name is one of these
abbrev pub IsOneOf : List ArgumentName → ArgumentName → Type 0
IsOneOf [] name = ⊥
IsOneOf (x ∷ xs) name = (name ≡ x) ⊎ IsOneOf xs name

-- a word is this argument
abbrev pub IsArgument : Kind → Argument → List ℕ → Type 0
IsArgument (kinds.Number most) (values.Number n) word = IsNumber most n word
IsArgument (kinds.Name set) (values.Name name) word = IsOneOf (names_of set) name × (word ≡ argument_text name)
IsArgument kinds.Buffer (values.Number n) word = IsNumber 1 n word
IsArgument kinds.Buffer (values.Name name) word = (name ≡ names.Null) × (word ≡ codes "null")
IsArgument _ _ word = ⊥

-- words are these arguments
abbrev pub AreArguments : List Kind → List Argument → List (List ℕ) → Type 0
AreArguments [] [] [] = Unit {0}
AreArguments (kind ∷ kinds) (x ∷ xs) (word ∷ words) = IsArgument kind x word × AreArguments kinds xs words
AreArguments _ _ _ = ⊥

-- words are a level, 0 to 7, and a service with its arguments
pub record IsRequest (level : ℕ) (request : Request) (words : List (List ℕ)) : Type 0 where
  pub first : List ℕ
  pub others : List (List ℕ)
  pub spelled : words ≡ first ∷ service_text request.service ∷ others
  pub level_is : IsNumber 7 level first
  pub arguments_are : AreArguments (arguments_of request.service) request.arguments others

-- words are one number
pub record IsOne (most n : ℕ) (words : List (List ℕ)) : Type 0 where
  pub word : List ℕ
  pub spelled : words ≡ word ∷ []
  pub number : IsNumber most n word

-- words are two numbers
pub record IsTwo (most most_next m n : ℕ) (words : List (List ℕ)) : Type 0 where
  pub word : List ℕ
  pub next : List ℕ
  pub spelled : words ≡ word ∷ next ∷ []
  pub number : IsNumber most m word
  pub number_next : IsNumber most_next n next

-- words are a number, and 1 to 64 numbers after it
pub record IsRow (most most_next n : ℕ) (ns : List ℕ) (words : List (List ℕ)) : Type 0 where
  pub word : List ℕ
  pub others : List (List ℕ)
  pub spelled : words ≡ word ∷ others
  pub number : IsNumber most n word
  pub numbers : AreNumbers most_next ns others
  pub some : 1 ≤ length others
  pub few : length others ≤ 64

-- the number for a level of a pin
abbrev pub level_number : Bool → ℕ
level_number true = 1
level_number false = 0

-- the words of each order after its first
abbrev pub IsOrderAfter : Order → List (List ℕ) → Type 0
IsOrderAfter (Call level request) words = IsRequest level request words
IsOrderAfter (Do level request) words = IsRequest level request words
IsOrderAfter (Enter n) words = IsOne 31 n words
IsOrderAfter (Serve n) words = IsOne 31 n words
IsOrderAfter (Run n) words = IsOne 4294967295 n words
IsOrderAfter (Upto stop) words = words ≡ stop_text stop ∷ []
IsOrderAfter Finish words = words ≡ []
IsOrderAfter (Tick n) words = IsOne 1000000 n words
IsOrderAfter (Level pin high) words = IsTwo 63 1 pin (level_number high) words
IsOrderAfter (Analog input value) words = IsTwo 31 4095 input value words
IsOrderAfter (Trigger n) words = IsOne 3 n words
IsOrderAfter (Miso unit ns) words = IsRow 1 65535 unit ns words
IsOrderAfter (SpiFault n) words = IsOne 1 n words
IsOrderAfter Detach words = words ≡ []
IsOrderAfter (Fill channel ns) words = IsRow 4294967295 4294967295 channel ns words
IsOrderAfter (Reset reasons.PowerOn) words = words ≡ codes "power" ∷ []
IsOrderAfter (Reset reasons.Watchdog) words = words ≡ codes "watchdog" ∷ []
IsOrderAfter (Reset reasons.Software) words = ⊥
IsOrderAfter (Show shown) words = words ≡ shown_text shown ∷ []

-- the first word of each order
abbrev pub first_word : Order → List ℕ
first_word (Call level request) = codes "call"
first_word (Do level request) = codes "do"
first_word (Enter n) = codes "enter"
first_word (Serve n) = codes "serve"
first_word (Run n) = codes "run"
first_word (Upto stop) = codes "upto"
first_word Finish = codes "finish"
first_word (Tick n) = codes "tick"
first_word (Level pin high) = codes "level"
first_word (Analog input value) = codes "analog"
first_word (Trigger n) = codes "trigger"
first_word (Miso unit ns) = codes "miso"
first_word (SpiFault n) = codes "spifault"
first_word Detach = codes "detach"
first_word (Fill channel ns) = codes "fill"
first_word (Reset reason) = codes "reset"
first_word (Show shown) = codes "show"

-- words are an order
pub record IsOrder (order : Order) (words : List (List ℕ)) : Type 0 where
  pub after : List (List ℕ)
  pub spelled : words ≡ first_word order ∷ after
  pub given : IsOrderAfter order after

-- a line holds no words before its comment
pub record HoldsNothing (line : List ℕ) : Type 0 where
  pub plain : is_text (before_comment line) ≡ true
  pub none : words_of (before_comment line) ≡ []

-- the words of a line before its comment are an order
pub record HoldsOrder (line : List ℕ) (order : Order) : Type 0 where
  pub plain : is_text (before_comment line) ≡ true
  pub is : IsOrder order (words_of (before_comment line))

-- lines, the first of which has the number, hold these directives
abbrev pub HoldDirectives : ℕ → List (List ℕ) → List Directive → Type 0
HoldDirectives number [] [] = Unit {0}
HoldDirectives number [] (directive ∷ directives) = ⊥
HoldDirectives number (line ∷ others) directives = (HoldsNothing line × HoldDirectives (number + 1) others directives)
    ⊎ ((order : Order) × (rest : List Directive) × (directives ≡ record { line = number; order = order } ∷ rest) × HoldsOrder line order × HoldDirectives (number + 1) others rest)

-- a text is a script of these directives
pub record IsScript (directives : List Directive) (text : List ℕ) : Type 0 where
  pub hold : HoldDirectives 1 (lines text) directives
  pub few : length directives ≤ 50000
