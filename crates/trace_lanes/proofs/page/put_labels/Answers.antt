use Rattle.std.proofs.Common.{List, ◌++◌, ◌∙◌, string_bytes, ap, arith}
use Rattle.std.specs.Prelude.{flat_map}
use Rattle.std.proofs.lemmas.List.{take_all}
use Rattle.trace_forms.proofs.Steps.{one_more}
use Rattle.trace_lanes.specs.Page.{label_text}
use Rattle.trace_lanes.specs.declared.board.Label.{Label}
use Rattle.trace_lanes.proofs.page.put_labels.Goals as goal

pub loop-label-preserved : goal.loop-label-preserved
loop-label-preserved c =
    one_more (label_text c.args.used.now) (string_bytes c.args.text.now) (string_bytes c.loop-label.text) (string_bytes c.put_label.new.text) c.args.labels.now c.loop-label.label-index _ c.loop-label-test.true c.loop-label.invariant c.in_ok-put_label.ensures

pub returns : goal.returns
returns c = c.loop-label.invariant ∙ ap (λ (labels : List Label). string_bytes c.args.text.now ++ flat_map (label_text c.args.used.now) labels) (take_all c.loop-label.label-index c.args.labels.now (omega arith))
