-- How calls of the bench come out that run with `--trace`, and that audit.
use Rattle.std.proofs.Common.{◌≡◌, ◌⊎◌, ℕ, ◌+◌, Bool, true, false, List, [], ◌∷◌, ◌++◌, length, Option, Some, None, IfSome, inl, inr, refl, ◌∙◌, ap, sym, subst, arith}
use Rattle.std.specs.Prelude.{if◌then◌else◌}
use Rattle.std.specs.Io.KnownBytes.{Appends}
use Rattle.mcal_base.specs.facts.Numbers.{lt_since}
use Rattle.bench_report.specs.Limit.{is_too_long}
use Rattle.bench_report.specs.Numbers.{Each, EntryFits}
use Rattle.bench_report.specs.Report.{report_lines}
use Rattle.mcal_base.specs.declared.config.whole.Config.{Config}
use Rattle.mcal_base.specs.declared.directive.Directive.{Directive}
use Rattle.mcal_drivers.specs.Setting.{system_setting, call_of}
use Rattle.run_model.specs.Entry.{Entry}
use Rattle.script_runner.specs.Scripts.{LinesRise, chip_for}
use Rattle.shown_rows.specs.Shows.{show_rows}
use Rattle.report_text.specs.reading.Fits.{DirectiveFits}
use Rattle.report_text.specs.declared.reading.verdict.Verdict.{Verdict}
use Rattle.report_text.specs.declared.reading.verdict.Verdict.TheVariants.{Passed}
use Rattle.report_text.proofs.Verdicts.{runs_pass}
use Rattle.bench_top.proofs.Auditing.{read_can, report_is}
use Rattle.bench_top.proofs.Configurations.{record_is}
use Rattle.bench_top.proofs.Kept.{followed_keeps}
use Rattle.bench_top.proofs.VerdictLaws.{passed, passed_audited}
use Rattle.bench_top.specs.Audited.{InputParts, parts_from}
use Rattle.bench_top.specs.Calls.{Call, Stream, Writes}
use Rattle.bench_top.specs.Contract.{KeepsContract}
use Rattle.bench_top.specs.Groups.{IsUndisturbed}
use Rattle.bench_top.specs.Judged.{Audits, Ending, Judgement, Runs, judged, judged_bytes, too_long_report, verdict_ending}
use Rattle.bench_top.specs.Outcomes.{Ends, IsEnded}
use Rattle.bench_top.specs.Runs.{IsWholeRun, report_of, shows_of}
use Rattle.bench_top.specs.Statuses.{Done, HasScript, IsChecked, IsDecided, IsRunDone}
use Rattle.bench_top.specs.Verdicts as verdicts
use Rattle.bench_top.specs.Verdicts.{IsAuditDecided, IsRead, IsSystemReport, IsVerdict, journal_of}
use Rattle.bench_top.specs.declared.words.Form.{Form}
use Rattle.bench_top.specs.declared.words.Form.TheVariants.{Audit, File}
use Rattle.bench_top.specs.declared.words.Printing.TheVariants.{Traced}
use Rattle.bench_top.specs.declared.words.Task.{Task}
use Rattle.bench_top.specs.declared.words.Task.TheVariants.{Run}
use Rattle.trace_promises.specs.audits.Input.{audit_input, lines_in}
use Rattle.trace_promises.specs.audits.Passed.{AuditsTrace, HasRun, IsGiven, IsPassedExactly, PassesTrace, PrintsTrace}
use Rattle.trace_promises.proofs.Counted.{counts_lines}
use Rattle.trace_promises.proofs.Cuts.{input_parts}

-- ---- calls

ended_well : (call : Call) → call.outcome.status ≡ 0 → IsUndisturbed call
ended_well call e = record { source = λ h. omega (arith, h, e); sink = λ h. omega (arith, h, e); memory = λ h. omega (arith, h, e) }

-- what is said of the bytes that a call was given
of_bytes : (P : List ℕ → Type 0) (call : Call) (form : Form) (bytes : List ℕ) → IsGiven call form bytes → IfSome call.source.before P → P bytes
of_bytes P call form bytes given h = subst (λ (o : Option (List ℕ)). IfSome o P) given.bytes_are h

ended_as : (call : Call) (form : Form) (bytes : List ℕ) (judgement : Judgement) → KeepsContract call → IsUndisturbed call → IsGiven call form bytes → judged (Some form) bytes ≡ judgement → IsEnded call.devices judgement call.outcome call.sink
ended_as call form bytes judgement keeps well given e =
    let ended : IsEnded call.devices (judged call.form bytes) call.outcome call.sink = of_bytes (λ bs. IsEnded call.devices (judged call.form bs) call.outcome call.sink) call form bytes given (keeps.exact well).on_bytes in
    subst (λ (j : Judgement). IsEnded call.devices j call.outcome call.sink) (ap (λ f. judged f bytes) given.form_is ∙ e) ended

-- ---- an audit

decided : (call : Call) (bytes : List ℕ) → KeepsContract call → IsUndisturbed call → IsGiven call Audit bytes → IsAuditDecided call.devices bytes call.outcome
decided call bytes keeps well given = of_bytes (λ bs. IsAuditDecided call.devices bs call.outcome) call Audit bytes given ((keeps.exact well).verdicts given.form_is)

has_run : (devices : ℕ) (bytes : List ℕ) → verdicts.IsPassed devices bytes → HasRun devices bytes
has_run devices bytes (verdicts.Is parts config ds read audited) = record {
  parts = parts;
  config = config;
  script = ds;
  read = read;
  journal = journal_of devices config ds parts.report;
  is = audited.is;
  only = audited.only;
  keeps = λ valid. followed_keeps devices config ds (journal_of devices config ds parts.report) valid (read_can bytes parts config ds read).lines audited.is.run;
}

run_passed : (devices : ℕ) (bytes : List ℕ) → HasRun devices bytes → verdicts.IsPassed devices bytes
run_passed devices bytes h =
    let can = read_can bytes h.parts h.config h.script h.read in
    let right = runs_pass (system_setting h.config) call_of (show_rows h.config) (chip_for devices h.config h.script) h.script h.parts.report h.journal can.lines can.fits h.is in
    verdicts.Is h.parts h.config h.script h.read (passed_audited devices h.config h.script h.parts.report can _ right tt)

pub passed_exactly : (call : Call) (bytes : List ℕ) → KeepsContract call → IsGiven call Audit bytes → IsPassedExactly call bytes
passed_exactly call bytes keeps given = record {
  of_run = λ e. has_run call.devices bytes ((decided call bytes keeps (ended_well call e) given).passed.0 e);
  each_run = λ well h. (decided call bytes keeps well given).passed.1 (run_passed call.devices bytes h);
}

-- the verdict on the report of a run says how many lines it has
verdict_is : (devices : ℕ) (config : Config) (ds : List Directive) (report : List ℕ) (journal : List Entry) → LinesRise 0 ds → Each DirectiveFits ds → IsSystemReport devices config ds report journal →
    (verdict : Verdict) → IsVerdict devices config ds report verdict → verdict ≡ Passed (lines_in report)
verdict_is devices config ds report journal rise fits is verdict right =
    let g = system_setting config in
    let first = chip_for devices config ds in
    let count = 1 + length (report_lines true [] (shows_of devices config ds journal) ds journal) in
    let passes : verdict ≡ Passed count = passed g call_of (show_rows config) first ds report rise fits verdict right journal is in
    passes ∙ ap Passed (counts_lines g call_of (show_rows config) first ds report count (subst (IsVerdict devices config ds report) passes right))

report_passed : (call : Call) (bytes : List ℕ) (parts : InputParts) (config : Config) (ds : List Directive) (journal : List Entry) → KeepsContract call → IsUndisturbed call → IsGiven call Audit bytes →
    IsRead bytes parts config ds → IsSystemReport call.devices config ds parts.report journal → PassesTrace call parts.report
report_passed call bytes parts config ds journal keeps well given read is =
    let can = read_can bytes parts config ds read in
    let ended = ended_as call Audit bytes (Audits config ds parts.report) keeps well given (report_is bytes parts config ds read) in
    let found = ended.ends.0 in
    let verdict = verdict_is call.devices config ds parts.report journal can.lines can.fits is found.verdict found.right in
    let ending : ended.ending ≡ verdict_ending (Passed (lines_in parts.report)) = found.told ∙ ap verdict_ending verdict in
    record {
      ended = ended.status_is ∙ ap (λ (x : Ending). x.status) ending;
      says = subst (λ (t : List ℕ). Writes call.sink t) (ap (λ (x : Ending). x.text) ending) ended.written;
    }

-- ---- a traced run

run_judged : (bench : List ℕ) (config : Config) (ds : List Directive) → HasScript bench config ds → judged_bytes (Run Traced) bench ≡ Runs Traced config ds
run_judged bench config ds read =
    let c = read.configured in
    rw (lt_since 1048576 (length bench) c.parts.few, c.parts.parts, record_is c.front config c.faultless c.recorded, read.read) refl

-- what was written behind what a sink had taken before is one text
same_behind : (xs ys zs : List ℕ) → xs ++ ys ≡ xs ++ zs → ys ≡ zs
same_behind [] ys zs h = h
same_behind (x ∷ xs) ys zs h = same_behind xs ys zs (cc)

wrote_once : (taken : List ℕ) (after : Option (List ℕ)) (a b : List ℕ) → Appends (Some taken) after a → Appends (Some taken) after b → a ≡ b
wrote_once taken None a b h k = absurd h
wrote_once taken (Some ys) a b h k = same_behind taken a b (sym h ∙ k)

wrote : (sink : Stream) (taken a b : List ℕ) → sink.before ≡ Some taken → Writes sink a → Writes sink b → a ≡ b
wrote sink taken a b e h k = wrote_once taken sink.after a b (subst (λ o. Appends o sink.after a) e h) (subst (λ o. Appends o sink.after b) e k)

abbrev reported_by : List ℕ → Bool → Ending
reported_by report b = if b then too_long_report else record { status = 0; text = report }

report_by : (report : List ℕ) (ending : Ending) (b : Bool) → ending ≡ reported_by report b → ending.status ≡ 0 → ending.text ≡ report
report_by report ending true e h = let five : 5 ≡ 0 = ap (λ (x : Ending). x.status) (sym e) ∙ h in absurd (omega (arith, five))
report_by report ending false e h = ap (λ (x : Ending). x.text) e

whole_report : (devices : ℕ) (config : Config) (ds : List Directive) (ending : Ending) (entries : List Entry) → Ends devices (Runs Traced config ds) ending entries → ending.status ≡ 0 → ending.text ≡ report_of devices true config ds entries
whole_report devices config ds ending entries (inl h) e = report_by (report_of devices true config ds entries) ending (is_too_long (report_of devices true config ds entries)) h.1 e
whole_report devices config ds ending entries (inr h) e = let five : 5 ≡ 0 = ap (λ (x : Ending). x.status) (sym h.1) ∙ e in absurd (omega (arith, five))

-- A bench file was read, and its run came to its end.
record IsRun (devices : ℕ) (bench : List ℕ) (entries : List Entry) : Type 0 where
  config : Config
  script : List Directive
  read : HasScript bench config script
  run : IsWholeRun devices config script entries

is_run : (devices : ℕ) (bench : List ℕ) (entries : List Entry) → IsChecked (Run Traced) bench ⊎ IsRunDone devices (Run Traced) bench entries → IsRun devices bench entries
is_run devices bench entries (inl checked) = let e = checked.asked in cc
is_run devices bench entries (inr (Done printing config ds r whole short)) = record { config = config; script = ds; read = r.read; run = whole }

run_of : (call : Call) (bench : List ℕ) → KeepsContract call → IsGiven call (File (Run Traced)) bench → call.outcome.status ≡ 0 → IsRun call.devices bench call.outcome.journal.entries
run_of call bench keeps given e =
    let all = (keeps.exact (ended_well call e)).statuses in
    let here = of_bytes (λ bs. (task : Task) → call.form ≡ Some (File task) → IsDecided call.devices task bs call.outcome) call (File (Run Traced)) bench given all in
    is_run call.devices bench call.outcome.journal.entries ((here (Run Traced) given.form_is).done.0 e)

-- it printed the trace of that run
printed : (call : Call) (bench text : List ℕ) → KeepsContract call → (p : PrintsTrace call bench text) → (r : IsRun call.devices bench call.outcome.journal.entries) → report_of call.devices true r.config r.script call.outcome.journal.entries ≡ text
printed call bench text keeps p r =
    let ended = ended_as call (File (Run Traced)) bench (Runs Traced r.config r.script) keeps (ended_well call p.ended) p.given (run_judged bench r.config r.script r.read) in
    sym (whole_report call.devices r.config r.script ended.ending call.outcome.journal.entries ended.ends (sym ended.status_is ∙ p.ended))
    ∙ wrote call.sink p.taken ended.ending.text text p.told ended.written p.wrote

-- ---- both

pub trace_passes : (run audit : Call) (bench text : List ℕ) → KeepsContract run → KeepsContract audit → Each EntryFits run.outcome.journal.entries → PrintsTrace run bench text → AuditsTrace run audit bench text → PassesTrace audit text
trace_passes run audit bench text keeps audits fits p a =
    let r = run_of run bench keeps p.given p.ended in
    let c = r.read.configured in
    let parts = input_parts bench c.front r.read.back text r.script c.parts.parts r.read.read c.parts.few in
    let read : IsRead (audit_input bench text) (parts_from c.front parts.back text) r.config r.script = record {
      configured = record { has = record { few = a.few; is = parts.is }; faultless = c.faultless; recorded = c.recorded };
      read = parts.read;
    } in
    let is : IsSystemReport run.devices r.config r.script text run.outcome.journal.entries = record { fits = fits; run = r.run.run; prints = printed run bench text keeps p r } in
    report_passed audit (audit_input bench text) (parts_from c.front parts.back text) r.config r.script run.outcome.journal.entries audits a.undisturbed a.given read
    (subst (λ (devices : ℕ). IsSystemReport devices r.config r.script text run.outcome.journal.entries) (sym a.devices) is)
