use Rattle.trace_reader.proofs.LineByLine.{line_is, line_again}
use Rattle.trace_reader.proofs.Short.{line_short}
use Rattle.trace_reader.proofs.Whole.{trace_again, trace_is}
use Rattle.bench_report.specs.Report.{report_lines}
use Rattle.std.proofs.Common.{[], true}
use Rattle.trace_reader.proofs.laws.reads_traces.Goals as goal

pub returns : goal.returns
returns c = record {
  report_again = λ script entries shows within few. trace_again (report_lines true [] shows script entries) within few;
  trace_again = trace_again;
  trace_is = trace_is;
  line_again = λ line within. line_again line.number line.says within.0 within.1;
  short = λ line within on. line_short line.number line.says within.0 within.1 on;
  line_is = line_is;
}
