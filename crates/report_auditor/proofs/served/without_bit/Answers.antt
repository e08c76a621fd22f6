-- One bit is cleared, and the others stay.
use Rattle.report_auditor.proofs.LineLaws.{bit_cleared, bits_kept, less_without}
use Rattle.report_auditor.proofs.served.without_bit.Goals as goal

pub returns-clause-smaller : goal.returns-clause-smaller
returns-clause-smaller c = less_without c.args.mask c.args.line c.requires.within c.requires.set

pub returns-clause-clear : goal.returns-clause-clear
returns-clause-clear c = bit_cleared c.args.mask c.args.line c.requires.within

pub returns-clause-kept : goal.returns-clause-kept
returns-clause-kept c k apart = bits_kept c.args.mask c.args.line k c.ranges.mask.fits c.requires.within apart
