-- What a judgement says of the outcome.
use Rattle.std.proofs.Common.{◌≡◌, ◌≢◌, refl, ap, ℕ, ◌<◌, ◌≤◌, [], List, Bool, true, false, length, Option, Some, None, inl, inr, subst, sym, arith, ◌∙◌}
use Rattle.std.specs.Prelude.{Result, Ok, Err, nat_lt}
use Rattle.std.specs.Io.KnownBytes.{Appends}
use Rattle.std.proofs.lemmas.List.{append-nil}
use Rattle.std.proofs.lemmas.Bool.{ltb-true, ltb-false}
use Rattle.std.proofs.lemmas.Bool.Decides.{nat_tests}
use Rattle.mcal_base.specs.declared.config.whole.Config.{Config}
use Rattle.mcal_base.specs.declared.directive.Directive.{Directive}
use Rattle.run_model.specs.Entry.{Entry}
use Rattle.config_keys.specs.declared.fault.ConfigFault.{ConfigFault}
use Rattle.bench_report.specs.Limit.{most_bytes, is_too_long}
use Rattle.bench_script.specs.Lines.{file}
use Rattle.bench_script.specs.Script.{script}
use Rattle.bench_script.specs.declared.fault.ScriptFault.{ScriptFault}
use Rattle.bench_script.specs.declared.fault.ScriptFault.TheVariants.{NotText, Word, Count, Number, Long, NoMemory}
use Rattle.bench_top.specs.declared.refusal.Refusal.{Refusal}
use Rattle.bench_top.specs.declared.refusal.Refusal.TheVariants as refusals
use Rattle.bench_top.specs.declared.top.Outcome.{Outcome}
use Rattle.bench_top.specs.declared.words.Form.{Form}
use Rattle.bench_top.specs.declared.words.Form.TheVariants.{File, Gen, Audit}
use Rattle.bench_top.specs.declared.words.Printing.{Printing}
use Rattle.bench_top.specs.declared.words.Task.{Task}
use Rattle.bench_top.specs.declared.words.Task.TheVariants.{Check, Run}
use Rattle.bench_top.specs.Calls.{Stream, MeetsFault, Writes}
use Rattle.report_text.specs.declared.reading.verdict.Verdict.{Verdict}
use Rattle.report_text.specs.declared.reading.verdict.Verdict.TheVariants.{Passed, Fault}
use Rattle.bench_top.specs.Audited.{InputParts, audited_parts, verdict_status}
use Rattle.bench_top.specs.declared.parts.NoParts.{NoParts}
use Rattle.bench_top.specs.declared.parts.NoParts.TheVariants as missing
use Rattle.bench_top.specs.Judged.{Ending, Judgement, Prints, Runs, Generates, Audits, audited_by, audited_config, audited_script, ending_of, judged, judged_input, judged_whole, judged_script, configuration_of, judged_bytes, judged_parts, judged_file, parts_ending, too_many_audited, too_many_bytes, too_long_report}
use Rattle.bench_top.specs.Outcomes.{Concludes, Ends, IsEnded, IsCutOff, Keeps, LeavesRun, WritesFront, reported}
use Rattle.bench_top.specs.Runs.{IsWholeRun, report_of}
use Rattle.bench_top.specs.Tail.{is_traced, printed}
use Rattle.mcal_system.specs.Runs.{bound_of}

-- what one result ends with the other does too
pub same_end : {A B E : Type 0} (s : Result B E) (x y : E) (r : Result A E) → r ≡ Err x → r ≡ Err y → s ≡ Err x → s ≡ Err y
same_end s x y r e f g = let i : x ≡ y = cc in g ∙ ap (λ z. Err z) i

-- a report that is no longer than it may be is printed
pub reported_by : (b : Bool) (printing : Printing) (report : List ℕ) → is_too_long report ≡ b → length report ≤ most_bytes → (reported printing report).status ≡ 0
reported_by true printing report h few = absurd (let more = ltb-true most_bytes (length report) h in omega (arith, more, few))
reported_by false printing report h few = rw h refl

-- a call that found no memory has written nothing
appends_nothing : (before after : Option (List ℕ)) → after ≡ before → Appends before after []
appends_nothing None after e = tt
appends_nothing (Some bytes) after e = rw e (sym (append-nil bytes))

-- how a whole run ends
report_by : (b : Bool) (printing : Printing) (report : List ℕ) → is_too_long report ≡ b → length report ≤ most_bytes → record { status = 0; text = printed printing report } ≡ reported printing report
report_by true printing report h few = absurd (let more = ltb-true most_bytes (length report) h in omega (arith, more, few))
report_by false printing report h few = rw h refl

pub long_by : (b : Bool) (printing : Printing) (report : List ℕ) → is_too_long report ≡ b → most_bytes < length report → too_long_report ≡ reported printing report
long_by true printing report h more = rw h refl
long_by false printing report h more = absurd (let few = ltb-false most_bytes (length report) h in omega (arith, more, few))

-- a bench file ends with none of the statuses of wrong words, of a fault of the source, and of a report that is refused
abbrev IsFileStatus : ℕ → Type 0
IsFileStatus status = (status ≢ 1) × (status ≢ 2) × (status ≢ 8)

refused_status : (r : Refusal) → IsFileStatus (ending_of r).status
refused_status refusals.NoSeparator = (λ e. cc, λ e. cc, λ e. cc)
refused_status (refusals.Configuration fault) = (λ e. cc, λ e. cc, λ e. cc)
refused_status (refusals.Script (Long line)) = (λ e. cc, λ e. cc, λ e. cc)
refused_status (refusals.Script (NotText line)) = (λ e. cc, λ e. cc, λ e. cc)
refused_status (refusals.Script (Word line)) = (λ e. cc, λ e. cc, λ e. cc)
refused_status (refusals.Script (Count line)) = (λ e. cc, λ e. cc, λ e. cc)
refused_status (refusals.Script (Number line)) = (λ e. cc, λ e. cc, λ e. cc)
refused_status (refusals.Script NoMemory) = (λ e. cc, λ e. cc, λ e. cc)

reported_status : (b : Bool) (printing : Printing) (report : List ℕ) → is_too_long report ≡ b → IsFileStatus (reported printing report).status
reported_status true printing report h = rw h (λ f. cc, λ f. cc, λ f. cc)
reported_status false printing report h = rw h (λ f. cc, λ f. cc, λ f. cc)

-- an audit ends with one of the first two as little
abbrev NotBefore : ℕ → Type 0
NotBefore status = (status ≢ 1) × (status ≢ 2)

verdict_before : (verdict : Verdict) → NotBefore (verdict_status verdict)
verdict_before (Passed lines) = (λ e. cc, λ e. cc)
verdict_before (Fault line) = (λ e. cc, λ e. cc)

part_before : (part : NoParts) → NotBefore (parts_ending part).status
part_before missing.NoSeparator = (λ e. cc, λ e. cc)
part_before missing.NoReport = (λ e. cc, λ e. cc)
part_before missing.TooLong = (λ e. cc, λ e. cc)

-- ---- too many bytes, and as many as may come

pub many_are : (task : Task) (bytes : List ℕ) → 1048576 < length bytes → judged_bytes task bytes ≡ Prints too_many_bytes
many_are task bytes h = grind (arith, nat_tests, h)

pub few_are : (task : Task) (bytes : List ℕ) → length bytes ≤ 1048576 → judged_bytes task bytes ≡ judged_file task (file bytes)
few_are task bytes h = grind (arith, nat_tests, h)

pub many_audited : (bytes : List ℕ) → 268435456 < length bytes → judged_input bytes ≡ Prints too_many_audited
many_audited bytes h = grind (arith, nat_tests, h)

pub few_audited : (bytes : List ℕ) → length bytes ≤ 268435456 → judged_input bytes ≡ audited_by (audited_parts bytes)
few_audited bytes h = grind (arith, nat_tests, h)

-- ---- what becomes of a call, with so many devices

module _ (devices : ℕ) where
  -- the whole report of a run, of which some is printed
  abbrev pub whole_report : Printing → Config → List Directive → List Entry → List ℕ
  whole_report printing config script entries = report_of devices (is_traced printing) config script entries

  -- a script whose bounds are within the limit, and whose report is not too long, is run to its end
  whole_at : (printing : Printing) (config : Config) (script : List Directive) (ending : Ending) (entries : List Entry) → Ends devices (Runs printing config script) ending entries →
      bound_of config script ≤ 1000000 → length (whole_report printing config script entries) ≤ most_bytes → ending.status ≡ 0
  whole_at printing config script ending entries (inl e) few short =
      ap (λ (x : Ending). x.status) e.1 ∙ reported_by (is_too_long (whole_report printing config script entries)) printing (whole_report printing config script entries) refl short
  whole_at printing config script ending entries (inr e) few short = absurd (let more = e.0.bound in omega (arith, few, more))

  pub whole_of : (outcome : Outcome) (sink : Stream) (printing : Printing) (config : Config) (script : List Directive) → IsEnded devices (Runs printing config script) outcome sink →
      bound_of config script ≤ 1000000 → length (whole_report printing config script outcome.journal.entries) ≤ most_bytes → outcome.status ≡ 0
  whole_of outcome sink printing config script e few short = e.status_is ∙ whole_at printing config script e.ending outcome.journal.entries e.ends few short

  pub printed_of : (outcome : Outcome) (sink : Stream) (printed : Ending) → IsEnded devices (Prints printed) outcome sink → outcome.status ≡ printed.status
  printed_of outcome sink printed e = e.status_is ∙ ap (λ (x : Ending). x.status) e.ends.0

  -- nothing was run
  pub left_empty : (j : Judgement) (entries : List Entry) → entries ≡ [] → LeavesRun devices j entries
  left_empty (Prints printed) entries e = e
  left_empty (Runs printing config script) entries e = inl e
  left_empty (Generates seed count) entries e = inl e
  left_empty (Audits config script report) entries e = e

  -- what was cut off of a text that is printed
  pub printed_front : (printed : Ending) (outcome : Outcome) (sink : Stream) → IsCutOff devices (Prints printed) outcome sink → WritesFront sink printed.text × (outcome.journal.entries ≡ [])
  printed_front printed outcome sink h = (subst (λ (x : Ending). WritesFront sink x.text) h.ends.0 h.front, h.ends.1)

  -- a call that is to print a text
  pub printed_status : (printed : Ending) (outcome : Outcome) (sink : Stream) → Concludes devices (Prints printed) outcome sink → outcome.status ≢ 3 → outcome.status ≢ 4 → outcome.status ≡ printed.status
  printed_status printed outcome sink c s m = printed_of outcome sink printed (c.ends s m)

  pub printed_text : (printed : Ending) (outcome : Outcome) (sink : Stream) → Concludes devices (Prints printed) outcome sink → outcome.status ≢ 3 → outcome.status ≢ 4 → Writes sink printed.text
  printed_text printed outcome sink c s m = let e = c.ends s m in subst (λ (x : Ending). Writes sink x.text) e.ends.0 e.written

  -- with no other status, but where the sink fails or memory is wanting
  pub printed_not : (printed : Ending) (outcome : Outcome) (sink : Stream) (n : ℕ) → Concludes devices (Prints printed) outcome sink → n ≢ 3 → n ≢ 4 → n ≢ printed.status → outcome.status ≡ n → ⊥
  printed_not printed outcome sink n c three four other e = other (sym e ∙ printed_status printed outcome sink c (λ s. three (sym e ∙ s)) (λ m. four (sym e ∙ m)))

  -- by whatever number and bytes the text and its status are told
  pub printed_as : (printed : Ending) (n : ℕ) (text : List ℕ) (outcome : Outcome) (sink : Stream) → n ≡ printed.status → text ≡ printed.text →
      Concludes devices (Prints (record { status = n; text = text })) outcome sink → Concludes devices (Prints printed) outcome sink
  printed_as printed n text outcome sink e f c =
      subst (λ (t : List ℕ). Concludes devices (Prints (record { status = printed.status; text = t })) outcome sink) f
      (subst (λ (k : ℕ). Concludes devices (Prints (record { status = k; text = text })) outcome sink) e c)

  -- a call that writes the text with which it is to end
  pub concludes_of : (j : Judgement) (ending : Ending) (outcome : Outcome) (sink : Stream) → Ends devices j ending outcome.journal.entries → Keeps devices j outcome.journal.entries → ending.status ≢ 4 → outcome.status ≤ 8 →
      (outcome.status ≢ 3 → outcome.status ≡ ending.status) → (outcome.status ≢ 3 → Writes sink ending.text) → (outcome.status ≢ 3 → sink.faults_after ≡ sink.faults_before) →
      (outcome.status ≡ 3 → MeetsFault sink) → (outcome.status ≡ 3 → WritesFront sink ending.text) → Concludes devices j outcome sink
  concludes_of j ending outcome sink ends keeps four known is wrote still fault front =
      let never : (A : Type 0) → outcome.status ≡ 4 → A = λ A e. absurd (let f : outcome.status ≢ 3 = λ g. absurd (omega (arith, e, g)) in four (sym (is f) ∙ e)) in
      record {
        known = known;
        ends = λ a b. record { ending = ending; ends = ends; status_is = is a; written = wrote a };
        front = λ e. record { ending = ending; ends = ends; front = front e };
        keeps = keeps;
        nothing = never (Writes sink []);
        memory = never (LeavesRun devices j outcome.journal.entries);
        still = still;
        fault = fault;
      }

  -- a call that found no memory, and has met no fault of the sink
  pub forgot_of : (j : Judgement) (outcome : Outcome) (sink : Stream) → outcome.status ≡ 4 → sink.after ≡ sink.before → sink.faults_after ≡ sink.faults_before →
      LeavesRun devices j outcome.journal.entries → Keeps devices j outcome.journal.entries → Concludes devices j outcome sink
  forgot_of j outcome sink four same still leaves keeps = record {
    known = omega (arith, four);
    ends = λ a b. absurd (b four);
    front = λ e. absurd (omega (arith, four, e));
    keeps = keeps;
    nothing = λ e. appends_nothing sink.before sink.after same;
    memory = λ e. leaves;
    still = λ e. still;
    fault = λ e. absurd (omega (arith, four, e));
  }

  pub report_ends : (printing : Printing) (traced : Bool) (config : Config) (script : List Directive) (entries : List Entry) (report text : List ℕ) → traced ≡ is_traced printing → IsWholeRun devices config script entries →
      report ≡ report_of devices traced config script entries → length report ≤ most_bytes → text ≡ printed printing report → Ends devices (Runs printing config script) (record { status = 0; text = text }) entries
  report_ends printing traced config script entries report text told run is few part =
      let whole : report ≡ whole_report printing config script entries = is ∙ ap (λ (t : Bool). report_of devices t config script entries) told in
      inl (run, ap (λ (t : List ℕ). record { status = 0; text = t }) part ∙ report_by (is_too_long report) printing report refl few ∙ ap (λ t. reported printing t) whole)

  pub too_long_ends : (printing : Printing) (traced : Bool) (config : Config) (script : List Directive) (entries : List Entry) (text : List ℕ) → traced ≡ is_traced printing → IsWholeRun devices config script entries →
      most_bytes < length (report_of devices traced config script entries) → text ≡ too_long_report.text → Ends devices (Runs printing config script) (record { status = 5; text = text }) entries
  too_long_ends printing traced config script entries text told run more is =
      let whole = ap (λ (t : Bool). report_of devices t config script entries) told in
      let over = subst (λ (r : List ℕ). most_bytes < length r) whole more in
      inl (run, ap (λ (t : List ℕ). record { status = 5; text = t }) is ∙ long_by (is_too_long (whole_report printing config script entries)) printing (whole_report printing config script entries) refl over)

  -- ---- a bench file ends with none of three statuses, and an audit with none of two

  -- a judgement of a file
  abbrev IsOfFile : Judgement → Type 0
  IsOfFile j = (ending : Ending) (entries : List Entry) → Ends devices j ending entries → IsFileStatus ending.status

  prints_after : (r : Refusal) → IsOfFile (Prints (ending_of r))
  prints_after r ending entries e = subst (λ (x : Ending). IsFileStatus x.status) (sym e.0) (refused_status r)

  runs_after : (printing : Printing) (config : Config) (script : List Directive) → IsOfFile (Runs printing config script)
  runs_after printing config script ending entries (inl e) =
      subst (λ (x : Ending). IsFileStatus x.status) (sym e.1) (reported_status (is_too_long (whole_report printing config script entries)) printing (whole_report printing config script entries) refl)
  runs_after printing config script ending entries (inr e) = subst (λ (x : Ending). IsFileStatus x.status) (sym e.1) (λ f. cc, λ f. cc, λ f. cc)

  whole_after : (task : Task) (config : Config) (script : List Directive) → IsOfFile (judged_whole task config script)
  whole_after Check config script ending entries e = subst (λ (x : Ending). IsFileStatus x.status) (sym e.0) (λ f. cc, λ f. cc, λ f. cc)
  whole_after (Run printing) config script ending entries e = runs_after printing config script ending entries e

  script_after : (task : Task) (config : Config) (r : Result (List Directive) ScriptFault) → IsOfFile (judged_script task config r)
  script_after task config (Ok script) = whole_after task config script
  script_after task config (Err fault) = prints_after (refusals.Script fault)

  parts_after : (task : Task) (r : Result Config ConfigFault) (text : List ℕ) → IsOfFile (judged_parts task r text)
  parts_after task (Err fault) text = prints_after (refusals.Configuration fault)
  parts_after task (Ok config) text = script_after task config (script text)

  file_after : (task : Task) (parts : Option (List ℕ × List ℕ)) → IsOfFile (judged_file task parts)
  file_after task None = prints_after refusals.NoSeparator
  file_after task (Some parts) = parts_after task (configuration_of parts.0) parts.1

  bytes_after : (task : Task) (bytes : List ℕ) (many : Bool) → nat_lt 1048576 (length bytes) ≡ many → IsOfFile (judged_bytes task bytes)
  bytes_after task bytes true h =
      subst (λ (j : Judgement). IsOfFile j) (sym (many_are task bytes (ltb-true 1048576 (length bytes) h)))
      (λ ending entries e. subst (λ (x : Ending). IsFileStatus x.status) (sym e.0) (λ f. cc, λ f. cc, λ f. cc))
  bytes_after task bytes false h =
      let few : length bytes ≤ 1048576 = let no = ltb-false 1048576 (length bytes) h in omega (arith, no) in
      subst (λ (j : Judgement). IsOfFile j) (sym (few_are task bytes few)) (file_after task (file bytes))

  -- a judgement of a bench file with a report behind it
  abbrev IsOfAudit : Judgement → Type 0
  IsOfAudit j = (ending : Ending) (entries : List Entry) → Ends devices j ending entries → NotBefore ending.status

  audit_prints : (printed : Ending) → NotBefore printed.status → IsOfAudit (Prints printed)
  audit_prints printed h ending entries e = subst (λ (x : Ending). NotBefore x.status) (sym e.0) h

  audit_refused : (r : Refusal) → IsOfAudit (Prints (ending_of r))
  audit_refused r = let s = refused_status r in audit_prints (ending_of r) (s.0, s.1)

  audit_script : (config : Config) (r : Result (List Directive) ScriptFault) (report : List ℕ) → IsOfAudit (audited_script config r report)
  audit_script config (Ok script) report ending entries e = subst (λ (x : Ending). NotBefore x.status) (sym e.0.told) (verdict_before e.0.verdict)
  audit_script config (Err fault) report ending entries e = audit_refused (refusals.Script fault) ending entries e

  audit_config : (r : Result Config ConfigFault) (text report : List ℕ) → IsOfAudit (audited_config r text report)
  audit_config (Ok config) text report = audit_script config (script text) report
  audit_config (Err fault) text report = audit_refused (refusals.Configuration fault)

  audit_parts : (r : Result InputParts NoParts) → IsOfAudit (audited_by r)
  audit_parts (Ok parts) = audit_config (configuration_of parts.configuration) parts.script parts.report
  audit_parts (Err part) = audit_prints (parts_ending part) (part_before part)

  input_after : (bytes : List ℕ) (many : Bool) → nat_lt 268435456 (length bytes) ≡ many → IsOfAudit (judged_input bytes)
  input_after bytes true h =
      subst (λ (j : Judgement). IsOfAudit j) (sym (many_audited bytes (ltb-true 268435456 (length bytes) h))) (audit_prints too_many_audited (λ f. cc, λ f. cc))
  input_after bytes false h =
      let few : length bytes ≤ 268435456 = let no = ltb-false 268435456 (length bytes) h in omega (arith, no) in
      subst (λ (j : Judgement). IsOfAudit j) (sym (few_audited bytes few)) (audit_parts (audited_parts bytes))

  -- whatever the words and the bytes, a judgement has status 1 for words of no form alone, never status 2, and status 8 for audits alone
  pub status_after : (form : Option Form) (bytes : List ℕ) (ending : Ending) (entries : List Entry) → Ends devices (judged form bytes) ending entries →
      (ending.status ≡ 1 → form ≡ None) × (ending.status ≢ 2) × (ending.status ≡ 8 → form ≡ Some Audit)
  status_after None bytes ending entries e =
      let g : ending.status ≡ 1 = ap (λ (x : Ending). x.status) e.0 in (λ f. refl, λ f. absurd (omega (arith, f, g)), λ f. absurd (omega (arith, f, g)))
  status_after (Some (File task)) bytes ending entries e =
      let after = bytes_after task bytes (nat_lt 1048576 (length bytes)) refl ending entries e in (λ f. absurd (after.0 f), after.1, λ f. absurd (after.2 f))
  status_after (Some (Gen seed count)) bytes ending entries e =
      let g : ending.status ≡ 0 = ap (λ (x : Ending). x.status) e.1 in (λ f. absurd (omega (arith, f, g)), λ f. absurd (omega (arith, f, g)), λ f. absurd (omega (arith, f, g)))
  status_after (Some Audit) bytes ending entries e =
      let after = input_after bytes (nat_lt 268435456 (length bytes)) refl ending entries e in (λ f. absurd (after.0 f), after.1, λ f. refl)

  -- only a run leaves a journal, and its status is 0 or 5
  by_report : (long : Bool) (printing : Printing) (report : List ℕ) → is_too_long report ≡ long → (reported printing report).status ≢ 0 → (reported printing report).status ≢ 5 → ⊥
  by_report true printing report h zero five = five (rw h refl)
  by_report false printing report h zero five = zero (rw h refl)

  pub nothing_after : (j : Judgement) (ending : Ending) (entries : List Entry) → Ends devices j ending entries → ending.status ≢ 0 → ending.status ≢ 5 → entries ≡ []
  nothing_after (Prints printed) ending entries e zero five = e.1
  nothing_after (Runs printing config script) ending entries (inl e) zero five =
      let report = whole_report printing config script entries in
      absurd (by_report (is_too_long report) printing report refl (λ f. zero (ap (λ (x : Ending). x.status) e.1 ∙ f)) (λ f. five (ap (λ (x : Ending). x.status) e.1 ∙ f)))
  nothing_after (Runs printing config script) ending entries (inr e) zero five = absurd (five (ap (λ (x : Ending). x.status) e.1))
  nothing_after (Generates seed count) ending entries e zero five = absurd (zero (ap (λ (x : Ending). x.status) e.1))
  nothing_after (Audits config script report) ending entries e zero five = e.1
