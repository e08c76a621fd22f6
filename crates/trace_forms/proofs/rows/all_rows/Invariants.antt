use Rattle.std.proofs.Common.{◌≡◌, ◌++◌, take, string_bytes}
use Rattle.std.specs.Prelude.{flat_map}
use Rattle.trace_forms.specs.Rows.{row}
use Rattle.trace_forms.specs.declared.rows.TheConstants.{HEAD}
use Rattle.trace_forms.proofs.rows.all_rows.Given as goal

abbrev pub invariant-loop-sign : goal.invariant-loop-sign
invariant-loop-sign l = string_bytes l.text ≡ HEAD.now ++ flat_map row (take l.sign-index l.signs)
