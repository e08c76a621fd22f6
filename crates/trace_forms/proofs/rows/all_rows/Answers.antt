use Rattle.std.proofs.Common.{List, ◌++◌, ◌∙◌, string_bytes, ap, arith}
use Rattle.std.specs.Prelude.{flat_map}
use Rattle.std.proofs.lemmas.List.{take_all}
use Rattle.trace_forms.specs.Rows.{row, sign_rows}
use Rattle.trace_forms.specs.declared.rows.TheConstants.{HEAD}
use Rattle.trace_forms.specs.declared.kinds.signs.Sign.{Sign}
use Rattle.trace_forms.proofs.Steps.{one_more}
use Rattle.trace_forms.proofs.rows.all_rows.Goals as goal

pub loop-sign-preserved : goal.loop-sign-preserved
loop-sign-preserved c =
    one_more row HEAD.now (string_bytes c.loop-sign.text) (string_bytes c.put_row.new.text) c.args.signs.now c.loop-sign.sign-index _ c.loop-sign-test.true c.loop-sign.invariant c.in_ok-put_row.ensures

pub returns : goal.returns
unfolding sign_rows
returns c = c.loop-sign.invariant ∙ ap (λ (signs : List Sign). HEAD.now ++ flat_map row signs) (take_all c.loop-sign.sign-index c.args.signs.now (omega arith))
