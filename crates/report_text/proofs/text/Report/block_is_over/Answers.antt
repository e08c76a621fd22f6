-- No line of the block comes where its mark doesn't.
use Rattle.std.proofs.Common.{◌∙◌, ap, sym}
use Rattle.report_text.specs.Unread.{is_empty}
use Rattle.report_text.proofs.Nexts.{next_unmarked}
use Rattle.report_text.proofs.text.Report.block_is_over.Goals as goal

pub returns-in_default : goal.returns-in_default
returns-in_default c = sym (ap is_empty (next_unmarked _ _ _ c.self.view_is (c.as_bytes.ensures.value ∙ c.self.invariant.0) c.in_default.ensures))
