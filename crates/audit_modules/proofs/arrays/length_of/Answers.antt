use Rattle.std.proofs.Common.{◌≡◌, None, ap, arith, length, rules, sym}
use Rattle.std.proofs.lemmas.List.{get_or_past}
use Rattle.spi_machine.specs.Table.{length_by}
use Rattle.audit_modules.proofs.arrays.length_of.Goals as goal

pub returns-then-number-ge16-clause-is : goal.returns-then-number-ge16-clause-is
returns-then-number-ge16-clause-is c =
    let size : length c.args.channels.now ≡ 16 = search rules in
    sym (ap length_by (get_or_past c.args.channels.now c.args.number None (omega (arith, size, c.if-number-ge16.true))))
