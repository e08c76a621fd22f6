-- Each call has one number less.
use Rattle.std.proofs.Common.{length}
use Rattle.audit_frames.proofs.bits.+with_bits.Given as goal

abbrev pub decreases-with_bits : goal.decreases-with_bits
decreases-with_bits l = length l.numbers.now
