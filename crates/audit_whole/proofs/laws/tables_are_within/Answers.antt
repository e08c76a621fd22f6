use Rattle.shown_rows.proofs.Limits.{within_limits}
use Rattle.audit_whole.proofs.Limits.{in_limits}
use Rattle.audit_whole.proofs.laws.tables_are_within.Goals as goal

pub returns : goal.returns
returns c config valid = in_limits config (within_limits config valid)
