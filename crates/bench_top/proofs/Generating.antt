-- The run of a generated bench comes to its end.
use Rattle.std.proofs.Common.{◌≡◌, ◌≢◌, ℕ, ◌≤◌, ◌++◌, Bool, true, false, List, [], ap, sym, subst, ◌∙◌, arith}
use Rattle.std.specs.Bool.{OnFalse, OnTrue}
use Rattle.mcal_base.specs.declared.config.whole.Config.{Config}
use Rattle.mcal_base.specs.declared.directive.Directive.{Directive}
use Rattle.run_model.specs.Entry.{Entry}
use Rattle.script_runner.specs.Scripts.{IsScript, AllOffered}
use Rattle.bench_report.specs.Report.{end_of, report_lines}
use Rattle.bench_report.specs.Rows.{Row}
use Rattle.bench_generator.specs.Board.{board}
use Rattle.bench_generator.specs.Generated.{first_line, generated}
use Rattle.bench_generator.proofs.Validity.{board_is_valid}
use Rattle.mcal_system.specs.Runs.{bound_of}
use Rattle.mcal_system.specs.Setting.{has_service}
use Rattle.board_promises.proofs.Generated.{generated_is_script, generated_offered}
use Rattle.board_promises.proofs.Within.{generated_within}
use Rattle.bench_top.specs.Judged.{Ending, Generates}
use Rattle.bench_top.specs.Calls.{Stream}
use Rattle.bench_top.specs.Outcomes.{Concludes, Ends, Keeps}
use Rattle.bench_top.specs.Runs.{IsWholeRun, IsStoppedRun, end_line_of, shows_of}
use Rattle.bench_top.specs.declared.top.Outcome.{Outcome}
use Rattle.bench_top.proofs.Promised.{whole_keeps}

pub script_may_run : (seed count : ℕ) (script : List Directive) → count ≤ 20000 → script ≡ generated seed count → IsScript script
script_may_run seed count script few is = subst (λ (ss : List Directive). IsScript ss) (sym is) (generated_is_script seed count few)

pub script_may_ask : (seed count : ℕ) (script : List Directive) → script ≡ generated seed count → AllOffered has_service script
script_may_ask seed count script is = subst (λ (ss : List Directive). AllOffered has_service ss) (sym is) (generated_offered seed count)

-- a run whose bound is within the limit doesn't stop
goes : (devices : ℕ) (config : Config) (script : List Directive) (es : List Entry) (too_long : Bool) → bound_of config script ≤ 1000000 → OnFalse too_long (IsWholeRun devices config script es) → OnTrue too_long (IsStoppedRun devices config script es) →
    IsWholeRun devices config script es
goes devices config script es true few whole stopped = absurd (let more = stopped.bound in omega (arith, few, more))
goes devices config script es false few whole stopped = whole

pub generated_whole : (devices seed count : ℕ) (config : Config) (script : List Directive) (es : List Entry) (too_long : Bool) → count ≤ 20000 → config ≡ board → script ≡ generated seed count →
    OnFalse too_long (IsWholeRun devices config script es) → OnTrue too_long (IsStoppedRun devices config script es) → IsWholeRun devices board (generated seed count) es
generated_whole devices seed count config script es too_long few which is whole stopped =
    goes devices board (generated seed count) es too_long (generated_within seed count few)
    (subst (λ (c : Config). OnFalse too_long (IsWholeRun devices c (generated seed count) es)) which (subst (λ (ss : List Directive). OnFalse too_long (IsWholeRun devices config ss es)) is whole))
    (subst (λ (c : Config). OnTrue too_long (IsStoppedRun devices c (generated seed count) es)) which (subst (λ (ss : List Directive). OnTrue too_long (IsStoppedRun devices config ss es)) is stopped))

-- the last line of its report, whatever its shows are taken to print
pub generated_line : (devices seed count : ℕ) (es : List Entry) (script : List Directive) (text : List ℕ) → script ≡ generated seed count →
    ((shows : List (List Row)) → text ≡ first_line seed count ++ end_of (report_lines false [] shows script es)) → text ≡ first_line seed count ++ end_line_of devices board (generated seed count) es
generated_line devices seed count es script text is h =
    let shows = shows_of devices board (generated seed count) es in
    h shows ∙ ap (λ (ss : List Directive). first_line seed count ++ end_of (report_lines false [] shows ss es)) is

-- and ends as it is to end
pub generated_ends : (devices seed count : ℕ) (es : List Entry) (text : List ℕ) → IsWholeRun devices board (generated seed count) es → text ≡ first_line seed count ++ end_line_of devices board (generated seed count) es →
    Ends devices (Generates seed count) (record { status = 0; text = text }) es
generated_ends devices seed count es text whole is = (whole, ap (λ (t : List ℕ). record { status = 0; text = t }) is)

pub generated_keeps : (devices seed count : ℕ) (es : List Entry) → count ≤ 20000 → IsWholeRun devices board (generated seed count) es → Keeps devices (Generates seed count) es
generated_keeps devices seed count es few whole = whole_keeps devices board (generated seed count) es board_is_valid (generated_is_script seed count few) whole

-- its status
pub generated_status : (devices seed count : ℕ) (outcome : Outcome) (sink : Stream) → Concludes devices (Generates seed count) outcome sink → outcome.status ≢ 3 → outcome.status ≢ 4 → outcome.status ≡ 0
generated_status devices seed count outcome sink c s m = let e = c.ends s m in e.status_is ∙ ap (λ (x : Ending). x.status) e.ends.1

-- with no other, but where the sink fails or memory is wanting
pub generated_not : (devices seed count : ℕ) (outcome : Outcome) (sink : Stream) (n : ℕ) → Concludes devices (Generates seed count) outcome sink → n ≢ 0 → n ≢ 3 → n ≢ 4 → outcome.status ≡ n → ⊥
generated_not devices seed count outcome sink n c zero three four e =
    zero (sym e ∙ generated_status devices seed count outcome sink c (λ s. three (sym e ∙ s)) (λ m. four (sym e ∙ m)))
