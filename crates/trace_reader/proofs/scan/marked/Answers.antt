use Rattle.trace_reader.proofs.Scanning.{either_marked}
use Rattle.trace_reader.proofs.scan.marked.Goals as goal

pub returns : goal.returns
returns c =
    either_marked (λ w. w.now) c.args.text.now _ _ c.or-3.result c.or-3.ensures
    (either_marked (λ w. w.now) c.args.text.now _ _ c.or-2.result c.or-2.ensures
    (either_marked (λ w. w.now) c.args.text.now _ _ c.or.result c.or.ensures c.act.ensures c.serve.ensures)
    c.start.ensures)
    c.abort.ensures
