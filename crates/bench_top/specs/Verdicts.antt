-- When an audit ends with which status, said of its bytes: no fault is met, and memory is found.
use Rattle.std.specs.Prelude.{◌≡◌, ℕ, ◌<◌, ◌≤◌, ◌↔◌, List, length, false, Some, None, Ok, Err}
use Rattle.mcal_base.specs.declared.config.whole.Config.{Config}
use Rattle.mcal_base.specs.declared.directive.Directive.{Directive}
use Rattle.bench_script.specs.Script.{script}
use Rattle.bench_script.specs.declared.fault.ScriptFault.{ScriptFault}
use Rattle.bench_script.specs.declared.fault.ScriptFault.TheVariants.{Long}
use Rattle.config_keys.specs.declared.fault.ConfigFault.{ConfigFault}
use Rattle.mcal_config.specs.Whole.{fault_of, record_of}
pub use Rattle.report_modules.specs.Judged.{IsAudited, IsSystemReport, IsVerdict, journal_of}
use Rattle.report_text.specs.declared.reading.verdict.Verdict.TheVariants.{Fault}
use Rattle.bench_top.specs.Audited.{InputParts, audited_parts}
use Rattle.bench_top.specs.Statuses.{is_long}
use Rattle.bench_top.specs.declared.parts.NoParts.TheVariants.{NoSeparator, NoReport, TooLong}
use Rattle.bench_top.specs.declared.top.Outcome.{Outcome}

-- The bytes are not too many, and have these parts.
pub record HasReport (bytes : List ℕ) (parts : InputParts) : Type 0 where
  pub few : length bytes ≤ 268435456
  pub is : audited_parts bytes ≡ Ok parts

-- The first of them is this configuration.
pub record IsConfigured (bytes : List ℕ) (parts : InputParts) (config : Config) : Type 0 where
  pub has : HasReport bytes parts
  pub faultless : fault_of parts.configuration ≡ None
  pub recorded : record_of parts.configuration ≡ Some config

-- The second is a script, so the third is judged.
pub record IsRead (bytes : List ℕ) (parts : InputParts) (config : Config) (directives : List Directive) : Type 0 where
  pub configured : IsConfigured bytes parts config
  pub read : script parts.script ≡ Ok directives

-- Status 0: the report is that of a legal run of the script, which is the one that it tells.
pub data IsPassed (devices : ℕ) (bytes : List ℕ) : Type 0 where
  Is : (parts : InputParts) (config : Config) (directives : List Directive) → IsRead bytes parts config directives →
      IsAudited devices config directives parts.report → IsPassed devices bytes

-- Status 8: it isn't, and what is refused first begins with the line of this number.
pub data IsFaulty (devices : ℕ) (bytes : List ℕ) : Type 0 where
  Is : (parts : InputParts) (config : Config) (directives : List Directive) (line : ℕ) → IsRead bytes parts config directives →
      IsVerdict devices config directives parts.report (Fault line) → IsFaulty devices bytes

-- Status 5: a limit on what comes in.
pub data IsTooLong (bytes : List ℕ) : Type 0 where
  Bytes : 268435456 < length bytes → IsTooLong bytes
  File : length bytes ≤ 268435456 → audited_parts bytes ≡ Err TooLong → IsTooLong bytes
  Directives : (parts : InputParts) (config : Config) (line : ℕ) → IsConfigured bytes parts config → script parts.script ≡ Err (Long line) → IsTooLong bytes

-- Status 6: the configuration has a fault.
pub data IsConfigRefused (bytes : List ℕ) : Type 0 where
  Is : (parts : InputParts) (fault : ConfigFault) → HasReport bytes parts → fault_of parts.configuration ≡ Some fault → IsConfigRefused bytes

-- Status 7: no separator, no mark of a report behind it, or a line of the script that is refused.
pub data IsScriptRefused (bytes : List ℕ) : Type 0 where
  NoFile : length bytes ≤ 268435456 → audited_parts bytes ≡ Err NoSeparator → IsScriptRefused bytes
  NoMark : length bytes ≤ 268435456 → audited_parts bytes ≡ Err NoReport → IsScriptRefused bytes
  BadLine : (parts : InputParts) (config : Config) (fault : ScriptFault) → IsConfigured bytes parts config → script parts.script ≡ Err fault →
      is_long fault ≡ false → IsScriptRefused bytes

-- The status that bytes come to.
pub record IsAuditDecided (devices : ℕ) (bytes : List ℕ) (outcome : Outcome) : Type 0 where
  pub passed : (outcome.status ≡ 0) ↔ IsPassed devices bytes
  pub too_long : (outcome.status ≡ 5) ↔ IsTooLong bytes
  pub configuration : (outcome.status ≡ 6) ↔ IsConfigRefused bytes
  pub script : (outcome.status ≡ 7) ↔ IsScriptRefused bytes
  pub faulty : (outcome.status ≡ 8) ↔ IsFaulty devices bytes
