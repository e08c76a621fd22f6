use Rattle.std.proofs.Common.{◌∙◌, ◌++◌, List, ℕ, ap, map}
use Rattle.std.specs.Prelude.{string_bytes}
use Rattle.std.proofs.lemmas.Iterator.Consumers.{YieldsList-end}
use Rattle.std.proofs.lemmas.Iterator.Splits.{YieldsList-from_lines}
use Rattle.serde_json.specs.View.{view}
use Rattle.sweep_report.specs.Json as spec
use Rattle.sweep_report.proofs.Texts.{line_push}
use Rattle.sweep_report.proofs.json.put_told.Goals as goal

pub loop-text-preserved : goal.loop-text-preserved
loop-text-preserved c = line_push view (spec.line_data c.args.told.now.line) (λ x. x.now) c.loop-text.yielded c.in-Some.text _ _ _ c.in_ok-line_value.field-0 c.loop-text.invariant c.in_ok-push.ensures.items c.in_ok-line_value.ensures

pub returns : goal.returns
returns c =
    let t = YieldsList-end (YieldsList-from_lines (string_bytes c.args.told.now.text) cc) c.loop-text.yielded _ c.loop-text.yielded_by _ _ c.in-None.is c.next.ensures.steps in
    c.loop-text.invariant ∙ ap (λ (texts : List (List ℕ)). map view c.args.all.now.items ++ map (spec.line_data c.args.told.now.line) texts) t.0
