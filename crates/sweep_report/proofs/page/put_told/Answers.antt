use Rattle.std.proofs.Common.{◌∙◌, ◌++◌, List, ℕ, ap}
use Rattle.std.specs.Prelude.{flat_map, string_bytes}
use Rattle.std.proofs.lemmas.Iterator.Consumers.{YieldsList-end}
use Rattle.std.proofs.lemmas.Iterator.Splits.{YieldsList-from_lines}
use Rattle.sweep_report.specs.Page as spec
use Rattle.sweep_report.proofs.Texts.{told_push}
use Rattle.sweep_report.proofs.page.put_told.Goals as goal

pub loop-line-preserved : goal.loop-line-preserved
loop-line-preserved c = told_push (spec.told_line c.args.told.now.line) (λ x. x.now) c.loop-line.yielded c.in-Some.line _ _ _ c.loop-line.invariant c.in_ok-put_line.ensures

pub returns : goal.returns
returns c =
    let t = YieldsList-end (YieldsList-from_lines (string_bytes c.args.told.now.text) cc) c.loop-line.yielded _ c.loop-line.yielded_by _ _ c.in-None.is c.next.ensures.steps in
    c.loop-line.invariant ∙ ap (λ (texts : List (List ℕ)). string_bytes c.args.text.now ++ flat_map (spec.told_line c.args.told.now.line) texts) t.0
