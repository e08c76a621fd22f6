-- The numbers of a move, by its kind.
use Rattle.std.proofs.Common.{subst}
use Rattle.mcal_base.specs.Reach.{CanApply}
use Rattle.report_steps.proofs.FitsLaws.{register_fits, word_fits}
use Rattle.report_steps.proofs.numbers.move_fits.Goals as goal

pub returns-in-Write : goal.returns-in-Write
returns-in-Write c = let there = subst CanApply c.in-Write.is c.requires.there in rw c.in-Write.is (register_fits _ there, c.number_fits.ensures)

pub returns-in-Store : goal.returns-in-Store
returns-in-Store c = let there = subst CanApply c.in-Store.is c.requires.there in rw c.in-Store.is (word_fits _ there, c.number_fits-in-Store.ensures)

pub returns-in-Note : goal.returns-in-Note
returns-in-Note c = rw c.in-Note.is c.notice_fits.ensures

pub returns-in-Read : goal.returns-in-Read
returns-in-Read c = let there = subst CanApply c.in-Read.is c.requires.there in rw c.in-Read.is (register_fits _ there)

pub returns-in-Load : goal.returns-in-Load
returns-in-Load c = let there = subst CanApply c.in-Load.is c.requires.there in rw c.in-Load.is (word_fits _ there)
