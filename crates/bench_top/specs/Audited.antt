-- The parts of what an audit is given, and what it prints of them.
use Rattle.std.specs.Prelude.{ℕ, ◌+◌, ◌-◌, nat_lt, List, ◌++◌, length, Option, Some, None, Result, Ok, Err, codes, decimal, if◌then◌else◌}
use Rattle.bench_script.specs.Lines.{file, split_at}
use Rattle.report_text.specs.declared.reading.verdict.Verdict.{Verdict}
use Rattle.report_text.specs.declared.reading.verdict.Verdict.TheVariants.{Passed, Fault}
use Rattle.bench_top.specs.declared.parts.NoParts.{NoParts}
use Rattle.bench_top.specs.declared.parts.NoParts.TheVariants.{NoSeparator, NoReport, TooLong}

-- ---- the parts of its input

-- the script and the report, of what is behind the separator
abbrev pub split_report : List ℕ → Option (List ℕ × List ℕ)
split_report text = split_at (codes "===") text

-- the configuration, the script and the report
pub record InputParts : Type 0 where
  pub configuration : List ℕ
  pub script : List ℕ
  pub report : List ℕ

abbrev pub parts_from : (configuration script report : List ℕ) → InputParts
parts_from configuration script report = record { configuration = configuration; script = script; report = report }

-- how many bytes the bench file has, one line feed at its end not counted: what stands before the mark, which ends with one
abbrev pub file_length : (input behind script : List ℕ) → ℕ
file_length input behind script = length input - length behind - 1 + length script

-- the mark, and then the length of the bench file before it
abbrev pub parts_behind : (input : List ℕ) → (configuration behind : List ℕ) → Option (List ℕ × List ℕ) → Result InputParts NoParts
parts_behind input configuration behind None = Err NoReport
parts_behind input configuration behind (Some (script, report)) =
    if nat_lt 1048576 (file_length input behind script) then Err TooLong else Ok (parts_from configuration script report)

-- the separator first
abbrev pub parts_split : (input : List ℕ) → Option (List ℕ × List ℕ) → Result InputParts NoParts
parts_split input None = Err NoSeparator
parts_split input (Some (configuration, behind)) = parts_behind input configuration behind (split_report behind)

abbrev pub audited_parts : List ℕ → Result InputParts NoParts
audited_parts input = parts_split input (file input)

-- ---- what is printed

abbrev pub verdict_status : Verdict → ℕ
verdict_status (Passed lines) = 0
verdict_status (Fault line) = 8

abbrev pub verdict_text : Verdict → List ℕ
verdict_text (Passed lines) = codes "audit ok " ++ (decimal lines ++ codes "\n")
verdict_text (Fault line) = codes "audit fault " ++ (decimal line ++ codes "\n")
