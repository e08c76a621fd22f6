use Rattle.std.proofs.Common.{◌≡◌, ◌++◌, drop, map}
use Rattle.spi_machine.specs.Transfers.{as_words}
use Rattle.audit_serial.proofs.WordLists.{words_from_place}
use Rattle.audit_serial.specs.Words.{goes_as, word_as}
use Rattle.audit_serial.proofs.words.push_words.Given as goal

abbrev pub invariant-loop-place : goal.invariant-loop-place
invariant-loop-place l = map word_as l.words.items ++ words_from_place l.channel l.width (goes_as l.goes) l.place (drop l.place l.values) ≡ map word_as l.initial.words.items ++ as_words l.channel l.width (goes_as l.goes) l.values
