-- A machine of the specifications: what happens to a module, and what comes of it. It knows no register, no mask and no place in a program.
use Rattle.std.specs.Prelude.{◌≡◌, ℕ, ◌+◌, List, [], Bool, Option, Some, None, IsSome, ◌∷◌}
use Rattle.mcal_base.specs.det_errors.Reports.{Reporting}
use Rattle.mcal_base.specs.declared.answer.Answer.{Answer}
use Rattle.mcal_base.specs.declared.answer.Head.TheVariants.{Nothing, Name, Numbers, ZeroNull}
use Rattle.mcal_base.specs.declared.directive.Order.{Order}
use Rattle.mcal_base.specs.declared.directive.Reason.{Reason}
use Rattle.mcal_base.specs.declared.error_name.ErrorName.{ErrorName}
use Rattle.mcal_base.specs.declared.moves.Unit as units
use Rattle.mcal_base.specs.declared.notice.Notice.{Notice}
use Rattle.mcal_base.specs.declared.service.Service.{Service}
use Rattle.run_model.specs.World.{World}
use Rattle.mcal_base.specs.declared.answer_name.AnswerName.{AnswerName}

-- what happens to a machine
pub data Happening (Call : Type 0) : Type 0 where
  -- a call acts; its frame wrote the commit register of each pulse channel last at these times
  Acts : Call → (committed : ℕ → ℕ) → Happening Call
  -- a line is served; a serial word that begins there has this incoming word
  Serves : (line received : ℕ) → Happening Call
  -- a unit starts its next round or job, or the next word of a transmission that a call carries out; a frame of this call
  -- made it, where a call's frame did, and the word that begins has this incoming word
  Starts : units.Unit → (by : Option Call) → (received : ℕ) → Happening Call
  -- the running round of a unit is aborted
  Aborts : units.Unit → Happening Call
  -- the hardware moves
  Moves : Order → Happening Call
  -- the chip is reset
  Restarts : Reason → Happening Call

-- what the act of a call or a serving tells: an answer, at most one error, and notices
pub record Told : Type 0 where
  pub answer : Answer
  pub error : Option ErrorName
  pub notices : List Notice

-- a word that begins on a serial unit: masked by a width, for the device at a place, or for none
pub record Begun : Type 0 where
  pub unit : ℕ
  pub word : ℕ
  pub width : ℕ
  pub device : Option ℕ

-- how a serial unit names a device, or none
abbrev pub select_of : Option ℕ → ℕ
select_of None = 0
select_of (Some place) = place + 1

-- the state that comes of it, with what is told, and the word that begins there, where one does
pub record Outcome (State : Type 0) : Type 0 where
  pub state : State
  pub told : Told
  pub begins : Option Begun

-- no answer, no error and no notice
abbrev pub no_answer : Answer
no_answer = record { head = Nothing; words = [] }

abbrev pub tells_nothing : Told
tells_nothing = record { answer = no_answer; error = None; notices = [] }

-- the answer that is a name, alone or with words, and the one that is numbers
abbrev pub named_with : AnswerName → List ℕ → Answer
named_with n ws = record { head = Name n; words = ws }

abbrev pub named : AnswerName → Answer
named n = named_with n []

abbrev pub numbers : List ℕ → Answer
numbers ns = record { head = Numbers; words = ns }

-- the answer that is a number
abbrev pub number : ℕ → Answer
number n = numbers (n ∷ [])

-- the answer that is a count of 0 and no pointer
abbrev pub zero_null : Answer
zero_null = record { head = ZeroNull; words = [] }

-- an act that answers this, and one that finds an error
abbrev pub answers : Answer → Told
answers a = record { answer = a; error = None; notices = [] }

abbrev pub tells_error : Answer → ErrorName → Told
tells_error a e = record { answer = a; error = Some e; notices = [] }

-- what comes of what begins no word, and of what does
abbrev pub outcome : {State : Type 0} → State → Told → Outcome State
outcome s t = record { state = s; told = t; begins = None }

abbrev pub outcome_with : {State : Type 0} → State → Told → Option Begun → Outcome State
outcome_with s t word = record { state = s; told = t; begins = word }

-- with an error the state is as it was, and no notice is given
abbrev pub ErrorLeaves : {State : Type 0} → State → Outcome State → Type 0
ErrorLeaves s out = IsSome out.told.error → (out.state ≡ s) × (out.told.notices ≡ [])

-- A machine of states and calls.
pub record Machine (State Call : Type 0) : Type 0 where
  -- what comes of a happening, where it is allowed
  pub happens : World → State → Happening Call → Option (Outcome State)
  -- whether a line may be served
  pub ready : World → State → ℕ → Bool
  -- whether a line wants to be served
  pub due : World → State → ℕ → Bool
  -- whether a unit may start or abort
  pub startable : World → State → units.Unit → Bool
  -- whether a line is a unit's that may start or abort
  pub line_waits : World → State → ℕ → Bool
  -- the peripheral ticks of a tick of the oscillator
  pub rate : State → ℕ
  -- the ticks of the oscillator that are left until the watchdog's time ends, where it runs
  pub expires : World → State → Option ℕ
  -- the service of a call, and how its module reports errors
  pub service_of : Call → Service
  pub reporting : Call → Reporting
  -- the lines that a call polls, in the order in which it serves them
  pub polls : World → State → Call → List ℕ
