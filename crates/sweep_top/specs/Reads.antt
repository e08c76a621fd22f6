-- What a sweep's file says, or why it is refused.
use Rattle.std.specs.Prelude.{ℕ, ◌++◌, nat_lt, List, [], ◌∷◌, Option, Some, None, Result, Ok, Err, bytes_eq, find, length, slice_get, if◌then◌else◌}
use Rattle.mcal_base.specs.Names.{notice_text}
use Rattle.mcal_base.specs.declared.config.whole.Config.{Config}
use Rattle.mcal_base.specs.declared.directive.Directive.{Directive}
use Rattle.mcal_base.specs.declared.directive.Order.{Order}
use Rattle.mcal_base.specs.declared.directive.Order.TheVariants.{Do}
use Rattle.mcal_base.specs.declared.notice.Notice.{Notice}
use Rattle.mcal_base.specs.declared.notice.NoticeKind.{NoticeKind}
use Rattle.mcal_base.specs.declared.notice.NoticeKind.TheVariants as kinds
use Rattle.config_keys.specs.declared.fault.ConfigFault.{ConfigFault}
use Rattle.bench_script.specs.Lines.{file}
use Rattle.bench_script.specs.Script.{script}
use Rattle.bench_script.specs.Steps.{◌>>=◌}
use Rattle.bench_script.specs.declared.fault.ScriptFault.{ScriptFault}
use Rattle.bench_script.specs.declared.fault.ScriptFault.TheVariants as script_faults
use Rattle.bench_sweep.specs.Marks.{marks_of}
use Rattle.bench_sweep.specs.Parts.{Pieces, parts}
use Rattle.bench_sweep.specs.Reactions.{Reacting, lacks_level, reactions_in, without_marks}
use Rattle.bench_sweep.specs.declared.fault.SweepFault.{SweepFault}
use Rattle.bench_sweep.specs.declared.fault.SweepFault.TheVariants as faults
use Rattle.bench_sweep.specs.declared.marking.Marks.{Marks}
use Rattle.bench_top.specs.Judged.{configuration_of}
use Rattle.bench_top.specs.Words.{number_between}
use Rattle.bench_top.specs.declared.refusal.Refusal.TheVariants as refusals
use Rattle.sweep_trials.specs.Follows.{reaction_to}
use Rattle.sweep_trials.specs.declared.reactions.Reaction.{Reaction}
use Rattle.sweep_report.specs.Table.{as_text}
use Rattle.sweep_top.specs.declared.ends.SweepEnd.{SweepEnd}
use Rattle.sweep_top.specs.declared.ends.SweepEnd.TheVariants.{Fault, NoMemory, Refused, TooManyBytes}

-- a sweep's file: the text of its configuration, its script, the script's marks and pieces, and what follows notices
pub record SweepFile : Type 0 where
  pub configuration : List ℕ
  pub script : List ℕ
  pub marks : Marks
  pub pieces : Pieces
  pub reactions : List Reaction

-- ---- what follows notices

-- the callbacks
abbrev pub all_kinds : List NoticeKind
all_kinds = kinds.GptNotification ∷ kinds.EcuMCheckWakeup ∷ kinds.EcuMSetWakeupEvent ∷ kinds.PwmNotification ∷ kinds.IcuSignalNotification ∷ kinds.IcuTimestampNotification ∷ kinds.AdcNotification ∷ kinds.SpiJobEndNotification ∷ kinds.SpiSeqEndNotification ∷ []

-- the callback that a word names
abbrev pub kind_named : List ℕ → Option NoticeKind
kind_named word = find (λ kind. bytes_eq (notice_text kind) word) all_kinds

-- the number of an object
abbrev pub object_number : List ℕ → Option ℕ
object_number word = number_between 0 4294967295 (as_text word)

abbrev pub notice_by : Option NoticeKind → Option ℕ → Option Notice
notice_by (Some kind) (Some id) = Some (record { kind = kind; id = id })
notice_by kind id = None

-- the notice that a line names
abbrev pub notice_on : Reacting → Option Notice
notice_on r = notice_by (kind_named r.callback) (object_number r.object)

-- the fault of a text of one line, on the line of the file
abbrev pub on_line : ScriptFault → ℕ → ScriptFault
on_line (script_faults.NotText n) line = script_faults.NotText line
on_line (script_faults.Word n) line = script_faults.Word line
on_line (script_faults.Count n) line = script_faults.Count line
on_line (script_faults.Number n) line = script_faults.Number line
on_line (script_faults.Long n) line = script_faults.Long line
on_line script_faults.NoMemory line = script_faults.NoMemory

-- the end at a script that is refused
abbrev pub script_end : ScriptFault → SweepEnd
script_end script_faults.NoMemory = NoMemory
script_end fault = Refused (refusals.Script fault)

-- a call to its end, on the line of the file
abbrev pub call_by : ℕ → Order → Result Directive SweepEnd
call_by line (Do level request) = Ok (record { line = line; order = Do level request })
call_by line order = Err (Fault (faults.Reaction line))

-- the one call of a text's directives
abbrev pub call_from : ℕ → Result (List Directive) ScriptFault → Result Directive SweepEnd
call_from line (Err fault) = Err (script_end (on_line fault line))
call_from line (Ok (d ∷ [])) = call_by line d.order
call_from line (Ok directives) = Err (Fault (faults.Reaction line))

-- what follows the notice, by the line
abbrev pub call_on : Reacting → Notice → Result Reaction SweepEnd
call_on r notice = do
  directive ← call_from r.line (script r.call)
  Ok (record { notice = notice; directive = directive })

abbrev pub reaction_by : Reacting → Option Notice → Result Reaction SweepEnd
reaction_by r None = Err (Fault (faults.Notice r.line))
reaction_by r (Some notice) = if lacks_level r.call then Err (Fault (faults.Level r.line)) else call_on r notice

-- what a line says that follows a notice
abbrev pub reaction_of : Reacting → Result Reaction SweepEnd
reaction_of r = reaction_by r (notice_on r)

-- the line of a call that is there
abbrev pub line_of : Option Reaction → ℕ
line_of None = 0
line_of (Some r) = r.directive.line

-- reactions with one more, whose notice none of them names
abbrev pub undoubled : List Reaction → Reaction → Option ℕ → Result (List Reaction) SweepEnd
undoubled reactions reaction None = Ok (reactions ++ reaction ∷ [])
undoubled reactions reaction (Some first) = Err (Fault (faults.Doubled reaction.directive.line (line_of (slice_get reactions first))))

-- what lines say that follows notices, behind others
abbrev pub reactions_behind : List Reaction → List Reacting → Result (List Reaction) SweepEnd
reactions_behind reactions [] = Ok reactions
reactions_behind reactions (r ∷ rs) = do
  reaction ← reaction_of r
  more ← undoubled reactions reaction (reaction_to reactions reaction.notice)
  reactions_behind more rs

-- what follows notices, by a script
abbrev pub reactions_of : List ℕ → Result (List Reaction) SweepEnd
reactions_of text = reactions_behind [] (reactions_in text)

-- ---- the parts of a file

abbrev pub refused : {X : Type 0} → Result X ScriptFault → Result X SweepEnd
refused (Ok x) = Ok x
refused (Err fault) = Err (script_end fault)

abbrev pub faulted : {X : Type 0} → Result X SweepFault → Result X SweepEnd
faulted (Ok x) = Ok x
faulted (Err fault) = Err (Fault fault)

abbrev pub configured : Result Config ConfigFault → Result Config SweepEnd
configured (Ok config) = Ok config
configured (Err fault) = Err (Refused (refusals.Configuration fault))

-- the directives of a sweep's script: the marks and the lines `on` are none
abbrev pub directives_of : List ℕ → Result (List Directive) SweepEnd
directives_of text = refused (script (without_marks text))

-- a script with its marks and pieces, and what follows notices
abbrev pub with_reactions : (configuration text : List ℕ) → Marks → Pieces → Result SweepFile SweepEnd
with_reactions configuration text marks pieces = do
  reactions ← reactions_of text
  Ok (record { configuration = configuration; script = text; marks = marks; pieces = pieces; reactions = reactions })

-- a script with its marks
abbrev pub with_marks : (configuration text : List ℕ) → Marks → Result SweepFile SweepEnd
with_marks configuration text marks = do
  directives ← directives_of text
  pieces ← faulted (parts directives marks)
  with_reactions configuration text marks pieces

-- a configuration and a script
abbrev pub read_parts : (configuration text : List ℕ) → Result SweepFile SweepEnd
read_parts configuration text = do
  config ← configured (configuration_of configuration)
  marks ← faulted (marks_of text)
  with_marks configuration text marks

abbrev pub read_file : Option (List ℕ × List ℕ) → Result SweepFile SweepEnd
read_file None = Err (Refused refusals.NoSeparator)
read_file (Some parts) = read_parts parts.0 parts.1

-- what bytes say, or why they are refused
abbrev pub read : List ℕ → Result SweepFile SweepEnd
read bytes = if nat_lt 1048576 (length bytes) then Err TooManyBytes else read_file (file bytes)
