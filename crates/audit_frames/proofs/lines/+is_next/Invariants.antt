-- Each call has one line less.
use Rattle.std.proofs.Common.{length}
use Rattle.audit_frames.proofs.lines.+is_next.Given as goal

abbrev pub decreases-is_next : goal.decreases-is_next
decreases-is_next l = length l.polls.now
