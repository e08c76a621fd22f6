use Rattle.std.proofs.Common.{◌∙◌}
use Rattle.report_text.proofs.Nexts.{next_own}
use Rattle.report_text.proofs.text.Report.own_end.Goals as goal

pub returns-clause-line : goal.returns-clause-line
returns-clause-line c = next_own _ _ _ _ c.self.view_is (c.as_bytes.ensures.value ∙ c.self.invariant.0) c.in_ok-end.ensures.line c.in_ok-_rest.ensures.0
