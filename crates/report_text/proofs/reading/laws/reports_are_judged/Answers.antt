-- Reports are judged.
use Rattle.report_text.proofs.Verdicts.{answers_once, passes_runs, runs_pass}
use Rattle.report_text.proofs.reading.laws.reports_are_judged.Goals as goal

pub returns : goal.returns
returns g c = record {
  answers = λ p script line left one other place fits first second. answers_once g.R.Run.setting g.R.Run.call_of g.R.Run.showing script p line left place fits first second;
  passes = passes_runs g.R.Run.setting g.R.Run.call_of g.R.Run.showing;
  runs = runs_pass g.R.Run.setting g.R.Run.call_of g.R.Run.showing;
}
