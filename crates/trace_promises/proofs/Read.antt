-- The report of a script and of a journal is read as what its lines tell.
use Rattle.std.proofs.Common.{◌≡◌, ◌≤◌, List, [], true, length, map}
use Rattle.std.specs.Prelude.{Ok}
use Rattle.mcal_base.specs.declared.directive.Directive.{Directive}
use Rattle.run_model.specs.Entry.{Entry}
use Rattle.bench_report.specs.Limit.{most_bytes}
use Rattle.bench_report.specs.Numbers.{Each, EntryFits}
use Rattle.bench_report.specs.Report.{report, report_lines}
use Rattle.bench_report.specs.Rows.{Row}
use Rattle.trace_reader.specs.Reading.{read_trace}
use Rattle.trace_reader.specs.Told.{told_line}
use Rattle.trace_reader.proofs.Whole.{trace_again}
use Rattle.trace_promises.specs.traces.Numbers.{DirectiveFits, RowsFit}
use Rattle.trace_promises.proofs.Within.{lines_within, few_lines}

pub report_is_read : (script : List Directive) (es : List Entry) (shows : List (List Row)) → Each DirectiveFits script → Each EntryFits es → Each RowsFit shows → length (report true script es shows) ≤ most_bytes →
    read_trace (report true script es shows) ≡ Ok (map told_line (report_lines true [] shows script es))
report_is_read script es shows s h r short = trace_again (report_lines true [] shows script es) (lines_within shows script es s r h) (few_lines shows script es short)
