-- A line stands there where what is printed does.
use Rattle.std.proofs.Common.{◌≡◌, ◌++◌, ◌∙◌, ◌+◌, List, ℕ, ap, true, false, length, drop, subst}
use Rattle.std.specs.Prelude.{MatchOption, codes}
use Rattle.bench_report.specs.Lines.{line_of, line_text}
use Rattle.report_text.specs.Unread.{comes}
use Rattle.report_text.proofs.text.Report.behind_printed.Goals as goal

pub returns-clause-left : goal.returns-clause-left
returns-clause-left c =
    let text = line_text (line_of c.args.line) ++ codes "\n" in
    let printed : c.as_bytes.result.now ≡ text = c.as_bytes.ensures.value ∙ (c.in_ok-write.ensures.bytes ∙ ap (λ (bs : List ℕ). bs ++ text) c.clear.ensures.bytes) in
    subst (λ (front : List ℕ). MatchOption c.behind.result (comes front c.args.text.now ≡ false)
    (λ rest. (comes front c.args.text.now ≡ true) × (rest.now ≡ drop (length front) c.args.text.now) × (length rest.now + length front ≡ length c.args.text.now))) printed c.behind.ensures
