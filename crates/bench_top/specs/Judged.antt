-- What a call of the bench prints without a run, in the order of its refusals, and what it runs.
use Rattle.std.specs.Prelude.{◌≡◌, ℕ, ◌++◌, nat_lt, List, length, Option, Some, None, IsSome, Result, Ok, Err, codes, decimal, if◌then◌else◌}
use Rattle.std.proofs.Common.{refl}
use Rattle.std.proofs.lemmas.Bool.{false≢true}
use Rattle.mcal_base.specs.declared.config.whole.Config.{Config}
use Rattle.mcal_base.specs.declared.directive.Directive.{Directive}
use Rattle.config_keys.specs.Printed.{fault_text}
use Rattle.config_keys.specs.declared.fault.ConfigFault.{ConfigFault}
use Rattle.mcal_config.specs.Whole.{fault_of, record_of}
use Rattle.mcal_config.proofs.Recorded.{faultless}
use Rattle.bench_script.specs.Faults.{line_of, kind_text}
use Rattle.bench_script.specs.Lines.{file}
use Rattle.bench_script.specs.Script.{script}
use Rattle.bench_script.specs.declared.fault.ScriptFault.{ScriptFault}
use Rattle.bench_script.specs.declared.fault.ScriptFault.TheVariants.{Long}
use Rattle.bench_top.specs.declared.refusal.Refusal.{Refusal}
use Rattle.bench_top.specs.declared.refusal.Refusal.TheVariants as refusals
use Rattle.bench_top.specs.Audited.{InputParts, audited_parts, verdict_status, verdict_text}
use Rattle.bench_top.specs.declared.audited.NoVerdict.{NoVerdict}
use Rattle.bench_top.specs.declared.audited.NoVerdict.TheVariants as ends
use Rattle.bench_top.specs.declared.file.FileEnd.{FileEnd}
use Rattle.bench_top.specs.declared.file.FileEnd.TheVariants as unread
use Rattle.bench_top.specs.declared.parts.NoParts.{NoParts}
use Rattle.bench_top.specs.declared.parts.NoParts.TheVariants as missing
use Rattle.bench_top.specs.declared.words.Form.{Form}
use Rattle.report_text.specs.declared.reading.verdict.Verdict.{Verdict}
use Rattle.bench_top.specs.declared.words.Form.TheVariants.{File, Gen, Audit}
use Rattle.bench_top.specs.declared.words.Printing.{Printing}
use Rattle.bench_top.specs.declared.words.Task.{Task}
use Rattle.bench_top.specs.declared.words.Task.TheVariants.{Check, Run}

-- a status, and all that is printed
pub record Ending : Type 0 where
  pub status : ℕ
  pub text : List ℕ

-- a text is printed and nothing runs, or a script runs on a configuration, and its report is printed in some way, or the
-- bench of so many directives runs that is generated from a seed, and two lines tell of it, or a report of a script is judged,
-- and nothing runs
pub data Judgement : Type 0 where
  Prints : Ending → Judgement
  Runs : Printing → Config → List Directive → Judgement
  Generates : (seed count : ℕ) → Judgement
  Audits : Config → (script : List Directive) → (report : List ℕ) → Judgement

-- the directives are what some text is read as
pub record IsRead (directives : List Directive) : Type 0 where
  pub text : List ℕ
  pub is : script text ≡ Ok directives

-- ---- endings without a run

abbrev pub checked : ℕ → Ending
checked directives = record { status = 0; text = codes "configuration ok\nscript ok " ++ (decimal directives ++ codes "\n") }

abbrev pub usage : Ending
usage = record { status = 1; text = codes "usage: mcal_bench check | run | run --trace | run --tail N | gen SEED COUNT | audit\n" }

-- no bytes were judged
abbrev pub read_fault : Ending
read_fault = record { status = 2; text = codes "read fault\n" }

abbrev pub too_many_bytes : Ending
too_many_bytes = record { status = 5; text = codes "too long: more than 1048576 bytes\n" }

-- the same of the input of an audit
abbrev pub too_many_audited : Ending
too_many_audited = record { status = 5; text = codes "too long: more than 268435456 bytes\n" }

-- no mark of a report stands behind a bench file
abbrev pub no_report : Ending
no_report = record { status = 7; text = codes "script fault 0 NoReport\n" }

abbrev pub verdict_ending : Verdict → Ending
verdict_ending verdict = record { status = verdict_status verdict; text = verdict_text verdict }

abbrev pub too_many_directives : Ending
too_many_directives = record { status = 5; text = codes "too long: more than 50000 directives\n" }

-- a run stopped at the limit of steps
abbrev pub too_many_steps : Ending
too_many_steps = record { status = 5; text = codes "too long: more than 1000000 steps\n" }

-- the report of a run would be longer than it may be
abbrev pub too_long_report : Ending
too_long_report = record { status = 5; text = codes "too long: more than 268435456 bytes of report\n" }

-- how a call ends whose file is refused
abbrev pub ending_of : Refusal → Ending
ending_of refusals.NoSeparator = record { status = 7; text = codes "script fault 0 NoSeparator\n" }
ending_of (refusals.Configuration fault) = record { status = 6; text = codes "configuration fault " ++ (fault_text fault ++ codes "\n") }
ending_of (refusals.Script (Long line)) = too_many_directives
ending_of (refusals.Script fault) =
    record { status = 7; text = codes "script fault " ++ (decimal (line_of fault) ++ (codes " " ++ (kind_text fault ++ codes "\n"))) }

-- ---- the order of the refusals

-- a file that was read
abbrev pub judged_whole : Task → Config → List Directive → Judgement
judged_whole Check config directives = Prints (checked (length directives))
judged_whole (Run printing) config directives = Runs printing config directives

-- the script
abbrev pub judged_script : Task → Config → Result (List Directive) ScriptFault → Judgement
judged_script task config (Ok directives) = judged_whole task config directives
judged_script task config (Err fault) = Prints (ending_of (refusals.Script fault))

-- the fault of a configuration, or else its record, which is there where no fault is
abbrev pub fault_or_record : (fault : Option ConfigFault) (config : Option Config) → (fault ≡ None → IsSome config) → Result Config ConfigFault
fault_or_record (Some fault) config there = Err fault
fault_or_record None (Some config) there = Ok config
fault_or_record None None there = absurd (false≢true (there refl))

abbrev pub configuration_of : List ℕ → Result Config ConfigFault
configuration_of text = fault_or_record (fault_of text) (record_of text) (faultless text)

-- the configuration, and then the script
abbrev pub judged_parts : Task → Result Config ConfigFault → List ℕ → Judgement
judged_parts task (Err fault) text = Prints (ending_of (refusals.Configuration fault))
judged_parts task (Ok config) text = judged_script task config (script text)

-- the separator, and then both parts
abbrev pub judged_file : Task → Option (List ℕ × List ℕ) → Judgement
judged_file task None = Prints (ending_of refusals.NoSeparator)
judged_file task (Some parts) = judged_parts task (configuration_of parts.0) parts.1

-- the number of bytes, and then the file
abbrev pub judged_bytes : Task → List ℕ → Judgement
judged_bytes task bytes = if nat_lt 1048576 (length bytes) then Prints too_many_bytes else judged_file task (file bytes)

-- ---- the order of the refusals of an audit

-- how it ends where a part is missing
abbrev pub parts_ending : NoParts → Ending
parts_ending missing.NoSeparator = ending_of refusals.NoSeparator
parts_ending missing.NoReport = no_report
parts_ending missing.TooLong = too_many_bytes

-- the script
abbrev pub audited_script : Config → Result (List Directive) ScriptFault → (report : List ℕ) → Judgement
audited_script config (Ok directives) report = Audits config directives report
audited_script config (Err fault) report = Prints (ending_of (refusals.Script fault))

-- the configuration, and then the script
abbrev pub audited_config : Result Config ConfigFault → (text report : List ℕ) → Judgement
audited_config (Ok config) text report = audited_script config (script text) report
audited_config (Err fault) text report = Prints (ending_of (refusals.Configuration fault))

-- the parts, and then what stands in them
abbrev pub audited_by : Result InputParts NoParts → Judgement
audited_by (Ok parts) = audited_config (configuration_of parts.configuration) parts.script parts.report
audited_by (Err part) = Prints (parts_ending part)

-- the number of bytes first
abbrev pub judged_input : List ℕ → Judgement
judged_input bytes = if nat_lt 268435456 (length bytes) then Prints too_many_audited else audited_by (audited_parts bytes)

-- what is printed where a bench file isn't read, unless memory was wanting
abbrev pub IsUnread : FileEnd → Judgement → Type 0
IsUnread (unread.Refused refusal) judgement = judgement ≡ Prints (ending_of refusal)
IsUnread unread.NoMemory judgement = Unit {0}

-- what is printed where bytes have no verdict, unless memory was wanting
abbrev pub IsRefusedBy : NoVerdict → Judgement → Type 0
IsRefusedBy (ends.Refused refusal) judgement = judgement ≡ Prints (ending_of refusal)
IsRefusedBy ends.NoReport judgement = judgement ≡ Prints no_report
IsRefusedBy ends.TooLong judgement = judgement ≡ Prints too_many_bytes
IsRefusedBy ends.NoMemory judgement = Unit {0}

-- the words first; a generated bench needs no bytes
abbrev pub judged : Option Form → List ℕ → Judgement
judged None bytes = Prints usage
judged (Some (File task)) bytes = judged_bytes task bytes
judged (Some (Gen seed count)) bytes = Generates seed count
judged (Some Audit) bytes = judged_input bytes
