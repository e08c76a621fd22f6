use Rattle.std.proofs.Common.{◌≡◌, drop}
use Rattle.std.specs.List.{enumerate_from, list_any}
use Rattle.spi_machine.specs.Bounds.{is_users_place}
use Rattle.audit_serial.proofs.may.is_users_word.Given as goal

abbrev pub invariant-loop-number : goal.invariant-loop-number
invariant-loop-number l = list_any (is_users_place l.word) (enumerate_from 0 l.channels) ≡ list_any (is_users_place l.word) (enumerate_from l.number (drop l.number l.channels))
