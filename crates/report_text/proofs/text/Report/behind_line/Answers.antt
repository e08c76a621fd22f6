-- A line comes where its number does, and the line behind it.
use Rattle.std.proofs.Common.{◌∙◌}
use Rattle.report_text.proofs.Others.{behind_number, found_ok, other_number}
use Rattle.report_text.proofs.text.Report.behind_line.Goals as goal

pub returns-in_default-clause-left : goal.returns-in_default-clause-left
returns-in_default-clause-left c = rw (← c.self.view_is) (other_number _ _ _ _ (c.as_bytes.ensures.value ∙ c.self.invariant.0) c.in_default.ensures)

pub returns-then-is_other-clause-left : goal.returns-then-is_other-clause-left
returns-then-is_other-clause-left c =
    rw (← c.self.view_is) (behind_number _ _ _ _ _ _ (c.as_bytes.ensures.value ∙ c.self.invariant.0) c.in-Some.ensures.0 c.in-Some.ensures.1 (c.is_other.ensures c.if-is_other.true))

pub returns-clause-left : goal.returns-clause-left
returns-clause-left c =
    rw (← c.self.view_is) (found_ok (λ e. e.now) _ _ _ _ _ _ (c.as_bytes.ensures.value ∙ c.self.invariant.0) c.in-Some.ensures.0 c.in-Some.ensures.1 c.in-Some.ensures.2 c.behind_text.ensures.left)
