-- What a run printed with `--trace` is drawn.
use Rattle.std.proofs.Common.{◌≡◌, ℕ, ◌<◌, ◌≤◌, List, [], ◌∷◌, ◌++◌, true, length, Some, None, ◌∙◌, ap, sym, subst, arith, append_assoc}
use Rattle.std.specs.Prelude.{Ok, codes}
use Rattle.mcal_base.specs.declared.config.whole.Config.{Config}
use Rattle.mcal_base.specs.declared.directive.Directive.{Directive}
use Rattle.run_model.specs.Entry.{Entry}
use Rattle.run_model.specs.Stops.{steps_in}
use Rattle.script_runner.specs.Scripts.{chip_for}
use Rattle.bench_report.specs.Limit.{most_bytes}
use Rattle.bench_script.specs.Lines.{file}
use Rattle.bench_script.specs.Script.{script}
use Rattle.mcal_config.specs.Whole.{fault_of}
use Rattle.mcal_drivers.specs.Setting.{system_setting, call_of}
use Rattle.bench_top.proofs.Scripts.{may_run}
use Rattle.bench_top.specs.Runs.{IsWholeRun, report_of, shows_of}
use Rattle.bench_top.specs.Statuses.{IsRunnable, IsRunDone, Done}
use Rattle.bench_top.specs.Tail.{is_traced}
use Rattle.bench_top.specs.declared.words.Task.TheVariants.{Run}
use Rattle.bench_top.specs.declared.words.Printing.{Printing}
use Rattle.bench_top.specs.declared.words.Printing.TheVariants.{Traced}
use Rattle.trace_drawing.specs.signs.Drawing.{Drawing}
use Rattle.trace_drawing.specs.Judged.{judged}
use Rattle.trace_drawing.specs.Program.{◌>>=◌, drawing_under, text_under, printed}
use Rattle.trace_drawing.specs.declared.program.Form.{Form}
use Rattle.trace_promises.proofs.LegalRuns.{is_drawn}
use Rattle.bench_report.specs.Numbers.{EntryFits, Each}
use Rattle.trace_promises.specs.Numbers.{BringsNumbers}
use Rattle.trace_promises.specs.Viewed.{EndsLine, input, IsViewed}
use Rattle.trace_promises.proofs.ConfigNumbers.{read_fits}
use Rattle.trace_promises.proofs.Input.{input_drawn, script_within}
use Rattle.trace_promises.proofs.ScriptNumbers.{script_fits}
use Rattle.trace_promises.proofs.ShownNumbers.{shows_fit}
use Rattle.trace_promises.proofs.SystemLines.{system_lines}

printing_is : (printing : Printing) → Run Traced ≡ Run printing → Traced ≡ printing
printing_is printing e = cc

text_of : (form : Form) (ds : List Directive) (report : List ℕ) (d : Drawing) → drawing_under ds report ≡ Ok d → text_under form ds report ≡ Ok (printed form d)
text_of form ds report d e = ap (λ x. x >>= (λ y. Ok (printed form y))) e

file_viewed : (form : Form) (bytes front back report : List ℕ) (ds : List Directive) (d : Drawing) → EndsLine bytes → file bytes ≡ Some (front, back) → fault_of front ≡ None → script back ≡ Ok ds → length bytes ≤ 1048576 → length (input bytes report) ≤ 268435456 →
    drawing_under ds report ≡ Ok d → judged (Some form) (input bytes report) ≡ record { status = 0; text = printed form d }
file_viewed form bytes front back report ds d ends f none s few most e =
    let same : input bytes report ≡ ends.0 ++ 10 ∷ (codes "===\n" ++ report) = ap (λ (t : List ℕ). t ++ (codes "===\n" ++ report)) ends.1 ∙ append_assoc ends.0 (10 ∷ []) (codes "===\n" ++ report) in
    ap (judged (Some form)) same
    ∙ input_drawn form ends.0 front back report (printed form d) ds (ap file (sym ends.1) ∙ f) none s (subst (λ (t : List ℕ). length t ≤ 1048576) ends.1 few)
    (subst (λ (t : List ℕ). length t ≤ 268435456) same most) (text_of form ds report d e)

whole_viewed : (devices : ℕ) (bytes : List ℕ) (config : Config) (ds : List Directive) (entries : List Entry) → IsRunnable (Run Traced) bytes Traced config ds → IsWholeRun devices config ds entries → length (report_of devices true config ds entries) ≤ most_bytes → Each EntryFits entries → Each BringsNumbers entries → steps_in entries < 18446744073709551615 → IsViewed devices bytes entries
whole_viewed devices bytes config ds entries r whole short fit brings few =
    let c = r.read.configured in
    let shows = shows_of devices config ds entries in
    let within = script_within bytes c.front r.read.back c.parts.parts in
    let size = c.parts.few in
    let lawful = may_run ds (record { text = r.read.back; is = r.read.read }) in
    let numbers = script_fits r.read.back ds (omega (arith, within, size)) r.read.read in
    let rows = shows_fit devices config ds entries (read_fits c.front config c.faultless c.recorded) brings in
    let drawn = is_drawn (system_setting config) call_of (chip_for devices config ds) ds entries shows (system_lines config) lawful whole.run numbers fit few rows short in
    record {
      config = config;
      script = ds;
      read = r.read;
      drawn = drawn;
      viewed = λ form ends most. file_viewed form bytes c.front r.read.back (report_of devices true config ds entries) ds drawn.drawing ends c.parts.parts c.faultless r.read.read size most drawn.drawn;
    }

done_viewed : (devices : ℕ) (bytes : List ℕ) (config : Config) (ds : List Directive) (entries : List Entry) (printing : Printing) → Traced ≡ printing → IsRunnable (Run Traced) bytes printing config ds → IsWholeRun devices config ds entries → length (report_of devices (is_traced printing) config ds entries) ≤ most_bytes → Each EntryFits entries → Each BringsNumbers entries → steps_in entries < 18446744073709551615 → IsViewed devices bytes entries
done_viewed devices bytes config ds entries printing e r whole short fit brings few =
    whole_viewed devices bytes config ds entries (subst (λ (p : Printing). IsRunnable (Run Traced) bytes p config ds) (sym e) r) whole (subst (λ (p : Printing). length (report_of devices (is_traced p) config ds entries) ≤ most_bytes) (sym e) short) fit brings few

pub run_viewed : (devices : ℕ) (bytes : List ℕ) (entries : List Entry) → IsRunDone devices (Run Traced) bytes entries → Each EntryFits entries → Each BringsNumbers entries → steps_in entries < 18446744073709551615 → IsViewed devices bytes entries
run_viewed devices bytes entries (Done printing config ds r whole short) fit brings few = done_viewed devices bytes config ds entries printing (printing_is printing r.asked) r whole short fit brings few
