use Rattle.std.proofs.Common.{◌≡◌, drop, map}
use Rattle.audit_serial.specs.Flows.{kept_all}
use Rattle.audit_serial.specs.Words.{word_as}
use Rattle.audit_serial.proofs.channels.Channels.keep_all.Given as goal

abbrev pub invariant-loop-place : goal.invariant-loop-place
invariant-loop-place l = kept_all l.self (map word_as (drop l.place l.words)) (drop l.place l.values) ≡ kept_all l.initial.self (map word_as l.words) l.values
