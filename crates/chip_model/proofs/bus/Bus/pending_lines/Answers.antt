-- A bit of all flags is its line's flag.
use Rattle.std.proofs.Common.{◌∙◌, ap, bit_and}
use Rattle.mcal_base.specs.Bits.{has_bit}
use Rattle.chip_model.specs.Chip.{Chip}
use Rattle.chip_model.proofs.PendingLaws.{all_flags, pending_bits}
use Rattle.chip_model.proofs.bus.Bus.pending_lines.Goals as goal

pub returns : goal.returns
returns c line =
    rw (c.flags.ensures, c.flags-2.ensures, c.flags-3.ensures, c.flags-4.ensures, c.flags-5.ensures, c.enabled_lines.ensures)
    (ap (λ (x : Chip). has_bit (bit_and (all_flags x) x.control.enabled) line) c.self.view_is ∙ pending_bits c.args.self.now line)
