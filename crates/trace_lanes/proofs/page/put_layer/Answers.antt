use Rattle.std.proofs.Common.{List, ◌++◌, ◌∙◌, string_bytes, ap, arith}
use Rattle.std.specs.Prelude.{flat_map}
use Rattle.std.proofs.lemmas.List.{take_all}
use Rattle.trace_forms.proofs.Steps.{one_more}
use Rattle.trace_lanes.specs.Page.{layer_part}
use Rattle.trace_lanes.specs.declared.board.Shape.{Shape}
use Rattle.trace_lanes.proofs.page.put_layer.Goals as goal

pub loop-shape-preserved : goal.loop-shape-preserved
loop-shape-preserved c =
    one_more (layer_part c.args.used.now c.args.wanted) (string_bytes c.args.text.now) (string_bytes c.loop-shape.text) (string_bytes c.put_part.new.text) c.args.shapes.now c.loop-shape.shape-index _ c.loop-shape-test.true c.loop-shape.invariant c.in_ok-put_part.ensures

pub returns : goal.returns
returns c = c.loop-shape.invariant ∙ ap (λ (shapes : List Shape). string_bytes c.args.text.now ++ flat_map (layer_part c.args.used.now c.args.wanted) shapes) (take_all c.loop-shape.shape-index c.args.shapes.now (omega arith))
