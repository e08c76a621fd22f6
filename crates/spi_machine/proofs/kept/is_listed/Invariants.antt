use Rattle.std.proofs.Common.{◌≡◌, ◌==◌, drop}
use Rattle.std.specs.List.{list_any}
use Rattle.spi_machine.proofs.kept.is_listed.Given as goal

abbrev pub invariant-loop-listed : goal.invariant-loop-listed
invariant-loop-listed l = list_any (λ n. n == l.number) l.numbers ≡ list_any (λ n. n == l.number) (drop l.listed-index l.numbers)
