use Rattle.module_machines.specs.pwm.Table.{polarity_of}
use Rattle.module_machines.proofs.of_pwm.StayLaws.{marked_later, mark_stays, mark_is_left, no_mark_is_left}
use Rattle.module_machines.proofs.pwm.laws.marks_stay.Goals as goal

pub returns-clause-later : goal.returns-clause-later
returns-clause-later _ k p now later le e = marked_later p.notified (polarity_of k) p now later le e

pub returns-clause-over : goal.returns-clause-over
returns-clause-over _ = mark_stays

pub returns-clause-left : goal.returns-clause-left
returns-clause-left _ = mark_is_left

pub returns-clause-none : goal.returns-clause-none
returns-clause-none _ = no_mark_is_left
