-- What a machine tells in a run: a list of happenings, and what comes of each; for the machines of all modules.
use Rattle.std.specs.Prelude.{ℕ, Bool, List, [], ◌∷◌, ◌++◌, Option, Some, None}
use Rattle.mcal_base.specs.declared.answer.Answer.{Answer}
use Rattle.mcal_base.specs.declared.answer_name.AnswerName.{AnswerName}
use Rattle.mcal_base.specs.declared.directive.Order.TheVariants.{Tick, Level}
use Rattle.mcal_base.specs.declared.error_name.ErrorName.{ErrorName}
use Rattle.mcal_base.specs.declared.notice.Notice.{Notice}
use Rattle.mcal_base.specs.declared.notice.NoticeKind.{NoticeKind}
use Rattle.run_model.specs.World.{World, world_start, world_after}
use Rattle.run_model.specs.Machine.{Happening, Acts, Serves, Moves, Told, Begun, Outcome, Machine, no_answer, tells_nothing}
use Rattle.run_model.specs.Frame.{begun_by, state_by}
use Rattle.run_model.specs.Machine as done

-- ---- runs

-- the outside after a happening
abbrev pub world_by : {State Call : Type 0} → Machine State Call → World → State → Happening Call → World
world_by mac w s (Moves order) = world_after w (mac.rate s) order
world_by mac w s _ = w

-- the state after it
abbrev pub state_of : {State Call : Type 0} → Machine State Call → World → State → Happening Call → State
state_of mac w s h = state_by s (mac.happens w s h)

abbrev pub outcome_told : {State : Type 0} → Option (Outcome State) → Option Told
outcome_told None = None
outcome_told (Some out) = Some out.told

-- what is told at each happening, and none where one isn't allowed, which changes nothing
abbrev pub told_from : {State Call : Type 0} → Machine State Call → World → State → List (Happening Call) → List (Option Told)
told_from mac w s [] = []
told_from mac w s (h ∷ hs) = outcome_told (mac.happens w s h) ∷ told_from mac (world_by mac w s h) (state_of mac w s h) hs

abbrev pub list_of : {A : Type 0} → Option A → List A
list_of None = []
list_of (Some x) = x ∷ []

-- the words that begin, in their order
abbrev pub begun_from : {State Call : Type 0} → Machine State Call → World → State → List (Happening Call) → List Begun
begun_from mac w s [] = []
begun_from mac w s (h ∷ hs) = list_of (begun_by (mac.happens w s h)) ++ begun_from mac (world_by mac w s h) (state_of mac w s h) hs

-- what is seen of the outside and the state after each happening
abbrev pub seen_from : {State Call A : Type 0} → Machine State Call → (World → State → A) → World → State → List (Happening Call) → List A
seen_from mac see w s [] = []
seen_from mac see w s (h ∷ hs) = see (world_by mac w s h) (state_of mac w s h) ∷ seen_from mac see (world_by mac w s h) (state_of mac w s h) hs

-- what is seen after the last one
abbrev pub left_from : {State Call A : Type 0} → Machine State Call → (World → State → A) → World → State → List (Happening Call) → A
left_from mac see w s [] = see w s
left_from mac see w s (h ∷ hs) = left_from mac see (world_by mac w s h) (state_of mac w s h) hs

-- the same from power on
abbrev pub told : {State Call : Type 0} → Machine State Call → State → List (Happening Call) → List (Option Told)
told mac first hs = told_from mac (world_start 0) first hs

abbrev pub begun : {State Call : Type 0} → Machine State Call → State → List (Happening Call) → List Begun
begun mac first hs = begun_from mac (world_start 0) first hs

abbrev pub seen : {State Call A : Type 0} → Machine State Call → State → (World → State → A) → List (Happening Call) → List A
seen mac first see hs = seen_from mac see (world_start 0) first hs

-- the state after a run, and the peripheral time
abbrev pub state_after : {State Call : Type 0} → Machine State Call → State → List (Happening Call) → State
state_after mac first hs = left_from mac (λ w s. s) (world_start 0) first hs

abbrev pub time_after : {State Call : Type 0} → Machine State Call → State → List (Happening Call) → ℕ
time_after mac first hs = left_from mac (λ w s. w.now) (world_start 0) first hs

-- the machine where a tick of the oscillator is so many peripheral ones
abbrev pub at_rate : {State Call : Type 0} → ℕ → Machine State Call → Machine State Call
at_rate rate mac = record mac { rate = λ s. rate }

-- ---- what is told

-- nothing; an answer of a name, alone or with words, or of numbers; notices; the happening isn't allowed
abbrev pub silence : Option Told
silence = Some tells_nothing

abbrev pub answering : Answer → Option Told
answering a = Some (done.answers a)

abbrev pub named : AnswerName → Option Told
named n = answering (done.named n)

abbrev pub named_with : AnswerName → List ℕ → Option Told
named_with n ws = answering (done.named_with n ws)

abbrev pub numbered : List ℕ → Option Told
numbered ns = answering (done.numbers ns)

abbrev pub notice : NoticeKind → ℕ → Notice
notice kind n = record { kind = kind; id = n }

abbrev pub notified : List Notice → Option Told
notified ns = Some (record { answer = no_answer; error = None; notices = ns })

abbrev pub noted : NoticeKind → ℕ → Option Told
noted kind n = notified (notice kind n ∷ [])

abbrev pub forbidden : Option Told
forbidden = None

-- an error is found, with no answer, with a name, or with numbers
abbrev pub refused_with : Answer → ErrorName → Option Told
refused_with a e = Some (done.tells_error a e)

abbrev pub refused : ErrorName → Option Told
refused e = refused_with no_answer e

abbrev pub refused_named : AnswerName → ErrorName → Option Told
refused_named n e = refused_with (done.named n) e

abbrev pub refused_numbered : List ℕ → ErrorName → Option Told
refused_numbered ns e = refused_with (done.numbers ns) e

-- ---- what happens

-- so many ticks; the outside level of a pin
abbrev pub ticks : {Call : Type 0} → ℕ → Happening Call
ticks n = Moves (Tick n)

abbrev pub pin : {Call : Type 0} → ℕ → Bool → Happening Call
pin p high = Moves (Level p high)

-- a call acts, of a frame that made its commits, if any, at time 0
abbrev pub acting : {Call : Type 0} → Call → Happening Call
acting call = Acts call (λ c. 0)

-- a line is served
abbrev pub serving : {Call : Type 0} → ℕ → Happening Call
serving line = Serves line 0
