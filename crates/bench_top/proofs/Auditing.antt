-- The status that an audit comes to, by its bytes.
use Rattle.std.proofs.Common.{◌≡◌, ℕ, ◌==◌, ◌<◌, ◌≤◌, refl, ap, sym, subst, ◌∙◌, arith, List, [], length, Bool, true, false, Option, Some, None, Ok, Err}
use Rattle.std.specs.Prelude.{Result, IsSome, nat_lt, if◌then◌else◌}
use Rattle.std.specs.List.{slice_split}
use Rattle.std.specs.Str.Lines.{lines}
use Rattle.std.proofs.lemmas.Bool.{false≢true, ltb-true, ltb-false}
use Rattle.std.proofs.lemmas.List.Splits.{length-slice_split}
use Rattle.std.proofs.lemmas.List.Sums.{count_by-le-length}
use Rattle.mcal_base.specs.declared.config.whole.Config.{Config}
use Rattle.mcal_base.specs.declared.directive.Directive.{Directive}
use Rattle.mcal_base.specs.declared.service.Service.{Service}
use Rattle.mcal_base.specs.declared.service.Service.TheVariants.{McuInit}
use Rattle.run_model.specs.Entry.{Entry}
use Rattle.config_keys.specs.declared.fault.ConfigFault.{ConfigFault}
use Rattle.mcal_config.specs.Whole.{fault_of, record_of}
use Rattle.mcal_config.proofs.Recorded.{faultless}
use Rattle.bench_script.specs.Script.{script}
use Rattle.bench_script.specs.declared.fault.ScriptFault.{ScriptFault}
use Rattle.bench_script.specs.declared.fault.ScriptFault.TheVariants.{Long}
use Rattle.audit_machines.specs.Requests.{has_service}
use Rattle.report_modules.specs.Judged.{IsVerdict}
use Rattle.report_modules.proofs.VerdictLaws.{CanAudit, can_audit, one_verdict, passed_audited, passed_by}
use Rattle.report_text.specs.declared.reading.verdict.Verdict.{Verdict}
use Rattle.report_text.specs.declared.reading.verdict.Verdict.TheVariants.{Passed, Fault}
use Rattle.bench_top.specs.Audited.{InputParts, audited_parts, file_length, parts_behind, parts_from, parts_split, split_report, verdict_status}
use Rattle.bench_top.specs.declared.parts.NoParts.{NoParts}
use Rattle.bench_top.specs.declared.parts.NoParts.TheVariants as missing
use Rattle.bench_top.specs.declared.refusal.Refusal.TheVariants as refusals
use Rattle.bench_top.specs.declared.top.Outcome.{Outcome}
use Rattle.bench_top.specs.Calls.{Stream}
use Rattle.bench_top.specs.Judged.{Ending, Judgement, Prints, Audits, audited_by, audited_config, audited_script, configuration_of, ending_of, fault_or_record, judged_input, no_report, parts_ending, too_many_audited, too_many_bytes, verdict_ending}
use Rattle.bench_top.specs.Outcomes.{Ends, IsEnded}
use Rattle.bench_top.specs.Statuses.{is_long}
use Rattle.bench_top.specs.Verdicts.{HasReport, IsConfigured, IsRead, IsPassed, IsFaulty, IsTooLong, IsConfigRefused, IsScriptRefused, IsAuditDecided}
use Rattle.bench_top.specs.Verdicts as causes
use Rattle.bench_script.specs.Lines.{file}
use Rattle.bench_top.proofs.Configurations.{record_is, fault_is}
use Rattle.bench_top.proofs.Deciding.{PrintsAt, bad_status}
use Rattle.bench_top.proofs.Judging.{few_audited, many_audited}
use Rattle.bench_top.proofs.Scripts.{lines_few}

-- ---- what a cause makes of the judgement

parts_are : (bytes : List ℕ) (parts : InputParts) → HasReport bytes parts → judged_input bytes ≡ audited_config (configuration_of parts.configuration) parts.script parts.report
parts_are bytes parts h = few_audited bytes h.few ∙ ap audited_by h.is

config_is : (bytes : List ℕ) (parts : InputParts) (config : Config) → IsConfigured bytes parts config → judged_input bytes ≡ audited_script config (script parts.script) parts.report
config_is bytes parts config h = parts_are bytes parts h.has ∙ ap (λ r. audited_config r parts.script parts.report) (record_is parts.configuration config h.faultless h.recorded)

pub report_is : (bytes : List ℕ) (parts : InputParts) (config : Config) (directives : List Directive) → IsRead bytes parts config directives → judged_input bytes ≡ Audits config directives parts.report
report_is bytes parts config directives h = config_is bytes parts config h.configured ∙ ap (λ r. audited_script config r parts.report) h.read

missing_is : (bytes : List ℕ) (part : NoParts) → length bytes ≤ 268435456 → audited_parts bytes ≡ Err part → judged_input bytes ≡ Prints (parts_ending part)
missing_is bytes part few e = few_audited bytes few ∙ ap audited_by e

limit_prints : (bytes : List ℕ) → IsTooLong bytes → PrintsAt 5 (judged_input bytes)
limit_prints bytes (causes.Bytes h) = (too_many_audited, (many_audited bytes h, refl))
limit_prints bytes (causes.File few e) = (too_many_bytes, (missing_is bytes missing.TooLong few e, refl))
limit_prints bytes (causes.Directives parts config line h r) =
    (ending_of (refusals.Script (Long line)), (config_is bytes parts config h ∙ ap (λ x. audited_script config x parts.report) r, refl))

config_prints : (bytes : List ℕ) → IsConfigRefused bytes → PrintsAt 6 (judged_input bytes)
config_prints bytes (causes.Is parts fault h r) =
    (ending_of (refusals.Configuration fault), (parts_are bytes parts h ∙ ap (λ x. audited_config x parts.script parts.report) (fault_is parts.configuration fault r), refl))

script_prints : (bytes : List ℕ) → IsScriptRefused bytes → PrintsAt 7 (judged_input bytes)
script_prints bytes (causes.NoFile few e) = (ending_of refusals.NoSeparator, (missing_is bytes missing.NoSeparator few e, refl))
script_prints bytes (causes.NoMark few e) = (no_report, (missing_is bytes missing.NoReport few e, refl))
script_prints bytes (causes.BadLine parts config fault h r short) =
    (ending_of (refusals.Script fault), (config_is bytes parts config h ∙ ap (λ x. audited_script config x parts.report) r, bad_status fault short))

-- ---- what is read can be audited

-- the script of parts is no longer than a bench file
within_by : (input configuration behind text report : List ℕ) (long : Bool) (parts : InputParts) → nat_lt 1048576 (file_length input behind text) ≡ long →
    (if long then Err missing.TooLong else Ok (parts_from configuration text report)) ≡ Ok parts → length parts.script ≤ 1048576
within_by input configuration behind text report true parts h e = cc
within_by input configuration behind text report false parts h e =
    let same : parts_from configuration text report ≡ parts = cc in
    let no = ltb-false 1048576 (file_length input behind text) h in
    subst (λ (p : InputParts). length p.script ≤ 1048576) same (omega (arith, no))

within_behind : (input configuration behind : List ℕ) (o : Option (List ℕ × List ℕ)) (parts : InputParts) → parts_behind input configuration behind o ≡ Ok parts → length parts.script ≤ 1048576
within_behind input configuration behind None parts e = cc
within_behind input configuration behind (Some p) parts e = within_by input configuration behind p.0 p.1 (nat_lt 1048576 (file_length input behind p.0)) parts refl e

within_split : (input : List ℕ) (o : Option (List ℕ × List ℕ)) (parts : InputParts) → parts_split input o ≡ Ok parts → length parts.script ≤ 1048576
within_split input None parts e = cc
within_split input (Some p) parts e = within_behind input p.0 p.1 (split_report p.1) parts e

script_within : (bytes : List ℕ) (parts : InputParts) → audited_parts bytes ≡ Ok parts → length parts.script ≤ 1048576
script_within bytes parts e = within_split bytes (file bytes) parts e

-- its lines are few
script_lines : (text : List ℕ) → length text ≤ 1048576 → length (lines text) < 4294967295
script_lines text few =
    let all = lines_few (slice_split (λ b. b == 10) text) in
    let parts = length-slice_split (λ b. b == 10) text in
    let feeds = count_by-le-length (λ b. b == 10) text in
    omega (arith, all, parts, feeds, few)

-- each service that it may ask for is had
served : (s : Service) → has_service s ≡ true
served McuInit = refl
served _ = refl

pub script_can : (text : List ℕ) (directives : List Directive) → length text ≤ 1048576 → script text ≡ Ok directives → CanAudit has_service directives
script_can text directives few is = can_audit has_service served text directives (script_lines text few) is

pub read_can : (bytes : List ℕ) (parts : InputParts) (config : Config) (directives : List Directive) → IsRead bytes parts config directives → CanAudit has_service directives
read_can bytes parts config directives h = script_can parts.script directives (script_within bytes parts h.configured.has.is) h.read

-- ---- the same of a call, with so many devices

module _ (devices : ℕ) where
  -- a report was judged
  pub judged_ends : (config : Config) (directives : List Directive) (report : List ℕ) (verdict : Verdict) → IsVerdict devices config directives report verdict → Ends devices (Audits config directives report) (verdict_ending verdict) []
  judged_ends config directives report verdict right = (record { verdict = verdict; right = right; told = refl }, refl)

  status_at : (j : Judgement) (n : ℕ) (outcome : Outcome) (sink : Stream) → PrintsAt n j → IsEnded devices j outcome sink → outcome.status ≡ n
  status_at j n outcome sink p e =
      e.status_is ∙ ap (λ (x : Ending). x.status) (subst (λ (k : Judgement). Ends devices k e.ending outcome.journal.entries) p.1.0 e.ends).0 ∙ p.1.1

  -- a status has its cause
  record HasCause (bytes : List ℕ) (status : ℕ) : Type 0 where
    passed : status ≡ 0 → IsPassed devices bytes
    too_long : status ≡ 5 → IsTooLong bytes
    configuration : status ≡ 6 → IsConfigRefused bytes
    script : status ≡ 7 → IsScriptRefused bytes
    faulty : status ≡ 8 → IsFaulty devices bytes

  abbrev AllCaused : List ℕ → Judgement → Type 0
  AllCaused bytes j = (ending : Ending) (entries : List Entry) → Ends devices j ending entries → HasCause bytes ending.status

  -- all that a printing judgement ends with is what it prints
  prints_caused : (bytes : List ℕ) (printed : Ending) → HasCause bytes printed.status → AllCaused bytes (Prints printed)
  prints_caused bytes printed h ending entries e = subst (λ (x : Ending). HasCause bytes x.status) (sym e.0) h

  at_zero : (bytes : List ℕ) → IsPassed devices bytes → HasCause bytes 0
  at_zero bytes h = record { passed = λ e. h; too_long = λ e. cc; configuration = λ e. cc; script = λ e. cc; faulty = λ e. cc }

  at_five : (bytes : List ℕ) → IsTooLong bytes → HasCause bytes 5
  at_five bytes h = record { passed = λ e. cc; too_long = λ e. h; configuration = λ e. cc; script = λ e. cc; faulty = λ e. cc }

  at_six : (bytes : List ℕ) → IsConfigRefused bytes → HasCause bytes 6
  at_six bytes h = record { passed = λ e. cc; too_long = λ e. cc; configuration = λ e. h; script = λ e. cc; faulty = λ e. cc }

  at_seven : (bytes : List ℕ) → IsScriptRefused bytes → HasCause bytes 7
  at_seven bytes h = record { passed = λ e. cc; too_long = λ e. cc; configuration = λ e. cc; script = λ e. h; faulty = λ e. cc }

  at_eight : (bytes : List ℕ) → IsFaulty devices bytes → HasCause bytes 8
  at_eight bytes h = record { passed = λ e. cc; too_long = λ e. cc; configuration = λ e. cc; script = λ e. cc; faulty = λ e. h }

  -- a report, the script, the configuration, the parts, the bytes
  verdict_caused : (bytes : List ℕ) (parts : InputParts) (config : Config) (directives : List Directive) (verdict : Verdict) → IsRead bytes parts config directives → IsVerdict devices config directives parts.report verdict →
      HasCause bytes (verdict_status verdict)
  verdict_caused bytes parts config directives (Passed count) h right =
      at_zero bytes (causes.Is parts config directives h (passed_audited devices config directives parts.report (read_can bytes parts config directives h) (Passed count) right tt))
  verdict_caused bytes parts config directives (Fault line) h right = at_eight bytes (causes.Is parts config directives line h right)

  report_caused : (bytes : List ℕ) (parts : InputParts) (config : Config) (directives : List Directive) → IsRead bytes parts config directives → AllCaused bytes (Audits config directives parts.report)
  report_caused bytes parts config directives h ending entries e =
      subst (λ (x : Ending). HasCause bytes x.status) (sym e.0.told) (verdict_caused bytes parts config directives e.0.verdict h e.0.right)

  long_caused : (bytes : List ℕ) (parts : InputParts) (config : Config) (fault : ScriptFault) → is_long fault ≡ true → IsConfigured bytes parts config → script parts.script ≡ Err fault → HasCause bytes (ending_of (refusals.Script fault)).status
  long_caused bytes parts config (Long line) e h r = at_five bytes (causes.Directives parts config line h r)
  long_caused bytes parts config _ e h r = cc

  bad_caused : (bytes : List ℕ) (parts : InputParts) (config : Config) (fault : ScriptFault) (long : Bool) → is_long fault ≡ long → IsConfigured bytes parts config → script parts.script ≡ Err fault →
      HasCause bytes (ending_of (refusals.Script fault)).status
  bad_caused bytes parts config fault true e h r = long_caused bytes parts config fault e h r
  bad_caused bytes parts config fault false e h r = rw (bad_status fault e) (at_seven bytes (causes.BadLine parts config fault h r e))

  script_caused : (bytes : List ℕ) (parts : InputParts) (config : Config) (r : Result (List Directive) ScriptFault) → IsConfigured bytes parts config → script parts.script ≡ r → AllCaused bytes (audited_script config r parts.report)
  script_caused bytes parts config (Ok directives) h e = report_caused bytes parts config directives (record { configured = h; read = e })
  script_caused bytes parts config (Err fault) h e = prints_caused bytes (ending_of (refusals.Script fault)) (bad_caused bytes parts config fault (is_long fault) refl h e)

  record_caused : (bytes : List ℕ) (parts : InputParts) (f : Option ConfigFault) (r : Option Config) (there : f ≡ None → IsSome r) → HasReport bytes parts → fault_of parts.configuration ≡ f → record_of parts.configuration ≡ r →
      AllCaused bytes (audited_config (fault_or_record f r there) parts.script parts.report)
  record_caused bytes parts (Some fault) r there h e g = prints_caused bytes (ending_of (refusals.Configuration fault)) (at_six bytes (causes.Is parts fault h e))
  record_caused bytes parts None (Some config) there h e g = script_caused bytes parts config (script parts.script) (record { has = h; faultless = e; recorded = g }) refl
  record_caused bytes parts None None there h e g = absurd (false≢true (there refl))

  missing_caused : (bytes : List ℕ) (part : NoParts) → length bytes ≤ 268435456 → audited_parts bytes ≡ Err part → HasCause bytes (parts_ending part).status
  missing_caused bytes missing.NoSeparator few e = at_seven bytes (causes.NoFile few e)
  missing_caused bytes missing.NoReport few e = at_seven bytes (causes.NoMark few e)
  missing_caused bytes missing.TooLong few e = at_five bytes (causes.File few e)

  parts_caused : (bytes : List ℕ) (r : Result InputParts NoParts) → length bytes ≤ 268435456 → audited_parts bytes ≡ r → AllCaused bytes (audited_by r)
  parts_caused bytes (Ok parts) few e =
      record_caused bytes parts (fault_of parts.configuration) (record_of parts.configuration) (faultless parts.configuration) (record { few = few; is = e }) refl refl
  parts_caused bytes (Err part) few e = prints_caused bytes (parts_ending part) (missing_caused bytes part few e)

  judged_by : (bytes : List ℕ) (b : Bool) → nat_lt 268435456 (length bytes) ≡ b → AllCaused bytes (judged_input bytes)
  judged_by bytes true h =
      let many = ltb-true 268435456 (length bytes) h in
      subst (λ (j : Judgement). AllCaused bytes j) (sym (many_audited bytes many)) (prints_caused bytes too_many_audited (at_five bytes (causes.Bytes many)))
  judged_by bytes false h =
      let few : length bytes ≤ 268435456 = let no = ltb-false 268435456 (length bytes) h in omega (arith, no) in
      subst (λ (j : Judgement). AllCaused bytes j) (sym (few_audited bytes few)) (parts_caused bytes (audited_parts bytes) few refl)

  -- ---- what a cause makes of the status

  -- there is one verdict on a report
  verdict_at : (bytes : List ℕ) (parts : InputParts) (config : Config) (directives : List Directive) (outcome : Outcome) (sink : Stream) → IsRead bytes parts config directives → IsEnded devices (judged_input bytes) outcome sink →
      (verdict : Verdict) × (IsVerdict devices config directives parts.report verdict) × (outcome.status ≡ verdict_status verdict)
  verdict_at bytes parts config directives outcome sink h e =
      let ends = subst (λ (k : Judgement). Ends devices k e.ending outcome.journal.entries) (report_is bytes parts config directives h) e.ends in
      (ends.0.verdict, ends.0.right, e.status_is ∙ ap (λ (x : Ending). x.status) ends.0.told)

  passed_at : (bytes : List ℕ) (outcome : Outcome) (sink : Stream) → IsEnded devices (judged_input bytes) outcome sink → IsPassed devices bytes → outcome.status ≡ 0
  passed_at bytes outcome sink e (causes.Is parts config directives h audited) =
      let v = verdict_at bytes parts config directives outcome sink h e in
      let is = passed_by devices config directives parts.report (read_can bytes parts config directives h) v.0 v.1 audited in
      v.2 ∙ ap verdict_status is.1

  faulty_at : (bytes : List ℕ) (outcome : Outcome) (sink : Stream) → IsEnded devices (judged_input bytes) outcome sink → IsFaulty devices bytes → outcome.status ≡ 8
  faulty_at bytes outcome sink e (causes.Is parts config directives line h fault) =
      let v = verdict_at bytes parts config directives outcome sink h e in
      v.2 ∙ ap verdict_status (one_verdict devices config directives parts.report (read_can bytes parts config directives h) v.0 (Fault line) v.1 fault)

  pub audit_decided : (bytes : List ℕ) (outcome : Outcome) (sink : Stream) → IsEnded devices (judged_input bytes) outcome sink → IsAuditDecided devices bytes outcome
  audit_decided bytes outcome sink e =
      let cause = subst (λ (n : ℕ). HasCause bytes n) (sym e.status_is) (judged_by bytes (nat_lt 268435456 (length bytes)) refl e.ending outcome.journal.entries e.ends) in
      record {
        passed = (cause.passed, passed_at bytes outcome sink e);
        too_long = (cause.too_long, λ h. status_at (judged_input bytes) 5 outcome sink (limit_prints bytes h) e);
        configuration = (cause.configuration, λ h. status_at (judged_input bytes) 6 outcome sink (config_prints bytes h) e);
        script = (cause.script, λ h. status_at (judged_input bytes) 7 outcome sink (script_prints bytes h) e);
        faulty = (cause.faulty, faulty_at bytes outcome sink e);
      }
