-- The report of a run whose shows are kept, or that there is none.
use Rattle.std.proofs.Common.{◌≡◌, ℕ, ◌<◌, Bool, List, [], ap, sym, ◌∙◌, arith, Option, Some, None, length}
use Rattle.mcal_base.specs.declared.directive.Directive.{Directive}
use Rattle.run_model.specs.Entry.{Entry}
use Rattle.bench_report.specs.Limit.{most_bytes}
use Rattle.bench_report.specs.Pages.{ReportWriter, ended, fitting_text, beginning, script_put}
use Rattle.bench_report.specs.Report.{report, left_over}
use Rattle.bench_report.specs.Rows.{Row}
use Rattle.bench_report.specs.Shown.{kept, texts_of}
use Rattle.bench_report.proofs.Fitting.{fits, too_long, kept_all, unkept}
use Rattle.bench_report.proofs.Pages.{report_is}
use Rattle.bench_report.proofs.Sizes.{shown_in_report}

-- what a course over the texts that are kept ends with
ended_is : (traced : Bool) (script : List Directive) (es : List Entry) (shows : List (List Row)) (shown : Option (List (List ℕ))) (texts : List (List ℕ)) (c : ReportWriter) →
    shown ≡ kept (texts_of es shows) → shown ≡ Some texts → c ≡ script_put traced (beginning texts) script es → ended c.page ≡ fitting_text (report traced script es shows)
ended_is traced script es shows shown texts c k s is =
    ap (λ (x : ReportWriter). ended x.page) is
    ∙ ap (λ (ts : List (List ℕ)). ended (script_put traced (beginning ts) script es).page) (sym (kept_all (texts_of es shows) texts (sym k ∙ s)))
    ∙ report_is traced script es shows

pub is_report : (traced : Bool) (script : List Directive) (es : List Entry) (shows : List (List Row)) (shown : Option (List (List ℕ))) (texts : List (List ℕ)) (c : ReportWriter) (text : List ℕ) →
    shown ≡ kept (texts_of es shows) → shown ≡ Some texts → c ≡ script_put traced (beginning texts) script es → ended c.page ≡ Some text → text ≡ report traced script es shows
is_report traced script es shows shown texts c text k s is e = (fits (report traced script es shows) text (sym (ended_is traced script es shows shown texts c k s is) ∙ e)).0

pub is_longer : (traced : Bool) (script : List Directive) (es : List Entry) (shows : List (List Row)) (shown : Option (List (List ℕ))) (texts : List (List ℕ)) (c : ReportWriter) →
    shown ≡ kept (texts_of es shows) → shown ≡ Some texts → c ≡ script_put traced (beginning texts) script es → ended c.page ≡ None → most_bytes < length (report traced script es shows)
is_longer traced script es shows shown texts c k s is e = too_long (report traced script es shows) (sym (ended_is traced script es shows shown texts c k s is) ∙ e)

-- where too much was shown to be kept
pub shown_is_longer : (traced : Bool) (script : List Directive) (es : List Entry) (shows : List (List Row)) (shown : Option (List (List ℕ))) →
    shown ≡ kept (texts_of es shows) → shown ≡ None → left_over script es ≡ [] → most_bytes < length (report traced script es shows)
shown_is_longer traced script es shows shown k n all =
    let a = unkept (texts_of es shows) (sym k ∙ n) in
    let b = shown_in_report traced script es shows all in
    omega (arith, a, b)
