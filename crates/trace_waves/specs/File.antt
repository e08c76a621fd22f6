-- The file of value changes: the signals that change, what they are before that, and each change at its time.
use Rattle.std.specs.Prelude.{ℕ, ◌==◌, ◌&&◌, nat_lt, nat_le, Bool, List, [], ◌∷◌, ◌++◌, codes, decimal, if◌then◌else◌}
use Rattle.trace_forms.specs.kinds.Sums.{sum_up}
use Rattle.trace_forms.specs.declared.kinds.signs.Sign.{Sign}
use Rattle.trace_waves.specs.Board.{Board, empty, put_all}
use Rattle.trace_waves.specs.Settings.{time, nothing, behind_all, settings}
use Rattle.trace_waves.specs.Signals.{name, slot}
use Rattle.trace_waves.specs.Values.{value_text, first_at}
use Rattle.trace_waves.specs.declared.board.Change.{Change}
use Rattle.trace_waves.specs.declared.file.Scope.{Scope}
use Rattle.trace_waves.specs.declared.file.Scope.TheVariants as groups
use Rattle.trace_waves.specs.declared.file.TheConstants.{HEAD}
use Rattle.trace_waves.specs.declared.settings.Clock.{Clock}
use Rattle.trace_waves.specs.declared.settings.Clock.TheVariants as clocks
use Rattle.trace_waves.specs.declared.signal.Signal.{Signal}

abbrev pub clock_text : Clock → List ℕ
clock_text clocks.Steps = codes "$comment Time is the number of the step. $end\n"
clock_text clocks.Ticks = codes "$comment A tick takes 1 us, a step 1 ns more. $end\n"

-- ---- declarations

abbrev pub scope_name : Scope → List ℕ
scope_name groups.Run = codes "run"
scope_name groups.Frames = codes "frames"
scope_name groups.Pins = codes "pins"
scope_name groups.Words = codes "words"

abbrev pub is_in : Scope → Signal → Bool
is_in groups.Run signal = nat_lt (slot signal) 5
is_in groups.Words signal = nat_le 5 (slot signal) && nat_lt (slot signal) 10
is_in groups.Frames signal = nat_le 10 (slot signal) && nat_lt (slot signal) 120
is_in groups.Pins signal = nat_le 120 (slot signal)

-- its type, and how wide it is
abbrev pub type_text : Signal → List ℕ
type_text signal =
    if nat_lt (slot signal) 2 then codes "real 64"
    else if nat_lt (slot signal) 5 then codes "wire 1"
    else if nat_lt (slot signal) 20 then codes "string 1"
    else if nat_lt (slot signal) 210 then codes "wire 1"
    else codes "real 64"

-- a signal's name stands for it, too
abbrev pub declared : Signal → List ℕ
declared signal = codes "$var " ++ (type_text signal ++ (codes " " ++ (name signal ++ (codes " " ++ (name signal ++ codes " $end\n")))))

abbrev pub declared_in : Scope → Signal → List ℕ
declared_in scope signal = if is_in scope signal then declared signal else []

abbrev pub declarations : Scope → List Signal → List ℕ
declarations scope [] = []
declarations scope (signal ∷ signals) = declared_in scope signal ++ declarations scope signals

unfoldable pub group : Scope → List ℕ → List ℕ
group scope text = codes "$scope module " ++ (scope_name scope ++ (codes " $end\n" ++ (text ++ codes "$upscope $end\n")))

abbrev pub scope_with : Scope → List ℕ → List ℕ
scope_with scope [] = []
scope_with scope (b ∷ text) = group scope (b ∷ text)

abbrev pub scope_text : Scope → List Signal → List ℕ
scope_text scope signals = scope_with scope (declarations scope signals)

-- what a signal is before it changes; nothing of a number that nothing has told yet
abbrev pub first_text : Signal → List ℕ
first_text signal = if nat_le 210 (slot signal) then [] else value_text (first_at (slot signal)) ++ (name signal ++ codes "\n")

abbrev pub firsts : List Signal → List ℕ
firsts [] = []
firsts (signal ∷ signals) = first_text signal ++ firsts signals

unfoldable pub scopes : List Signal → List ℕ
scopes signals = scope_text groups.Run signals ++ (scope_text groups.Frames signals ++ (scope_text groups.Pins signals ++ scope_text groups.Words signals))

unfoldable pub intro : Clock → List ℕ
intro clock = HEAD.now ++ clock_text clock

unfoldable pub dump : List Signal → List ℕ
dump signals = codes "$enddefinitions $end\n#0\n$dumpvars\n" ++ (firsts signals ++ codes "$end\n")

unfoldable pub head : Clock → List Signal → List ℕ
head clock signals = intro clock ++ (scopes signals ++ dump signals)

-- ---- changes

-- a time, where it is another than the last
abbrev pub time_text : ℕ → ℕ → List ℕ
time_text last at = if at == last then [] else codes "#" ++ (decimal at ++ codes "\n")

abbrev pub change_text : ℕ → Change → List ℕ
change_text last c = time_text last c.at ++ (value_text c.value ++ (name c.signal ++ codes "\n"))

-- changes behind a time, up to the end
abbrev pub changes : ℕ → List Change → ℕ → List ℕ
changes last [] end = time_text last end
changes last (c ∷ cs) end = change_text last c ++ changes c.at cs end

-- ---- the whole

abbrev pub file : Clock → ℕ → Board → List ℕ
file clock end board = head clock board.signals ++ changes 0 board.changes end

-- of the signs of a trace of so many steps
abbrev pub waves : Clock → ℕ → List Sign → List ℕ
waves clock steps signs = file clock (time clock (behind_all nothing signs).ticks (sum_up steps 1)) (put_all empty (settings clock nothing signs))
