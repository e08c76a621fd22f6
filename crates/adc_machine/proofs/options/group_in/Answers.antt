use Rattle.std.proofs.Common.{sym}
use Rattle.adc_machine.proofs.Small.{found_small}
use Rattle.adc_machine.proofs.options.group_in.Goals as goal

pub taken-requires : goal.taken-requires
taken-requires c = found_small c.args.groups.now c.args.number c.in-Some.group.now c.requires.small (sym c.in-Some.ensures)
