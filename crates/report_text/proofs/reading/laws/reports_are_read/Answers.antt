-- Reports are read.
use Rattle.bench_report.specs.Showing.{shows_from}
use Rattle.run_model.specs.Moment.{start_moment}
use Rattle.report_text.proofs.Back.{reads_back}
use Rattle.report_text.proofs.Once.{reads_once}
use Rattle.report_text.proofs.Printing.{has_items, are_printed}
use Rattle.report_text.proofs.Reports.{reads_reports}
use Rattle.report_text.proofs.reading.laws.reports_are_read.Goals as goal

pub returns : goal.returns
returns g c = record {
  back = reads_back g.R.Run.setting g.R.Run.call_of g.R.Run.showing;
  once = reads_once g.R.Run.setting g.R.Run.call_of g.R.Run.showing;
  reports = λ first script journal rise d h run rows.
      reads_reports g.R.Run.setting g.R.Run.call_of first script journal (shows_from g.R.Run.setting g.R.Run.call_of g.R.Run.showing script (start_moment g.R.Run.setting first) journal) rise d h run rows;
  steps = λ order shows number reach made silent m frames lines last left fits depth served.
      ((λ printed. has_items g.R.Run.setting g.R.Run.call_of order shows number reach made silent m frames fits printed depth served), (λ items. are_printed g.R.Run.setting g.R.Run.call_of order shows number reach items));
}
