-- Lines of modules are few.
use Rattle.audit_whole.specs.laws.Lines.{due_below, used_below}
use Rattle.audit_whole.proofs.laws.lines_are_few.Goals as goal

pub returns : goal.returns
returns c = record { used = λ t d outputs l e. used_below t l e; due = λ t d outputs w s l e. due_below t w s l e }
