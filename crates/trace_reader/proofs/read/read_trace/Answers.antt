use Rattle.std.proofs.Common.{◌≡◌, ◌∙◌, List, None, Vec, Global, sym, subst}
use Rattle.std.specs.Prelude.{Result, ℕ}
use Rattle.trace_reader.specs.Reading as spec
use Rattle.trace_reader.specs.declared.told.TraceLine.{TraceLine}
use Rattle.trace_reader.proofs.LineByLine.{read_last}
use Rattle.trace_reader.proofs.read.read_trace.Goals as goal

pub returns-in-None : goal.returns-in-None
returns-in-None c =
    let none : spec.read_line c.in-Some.line.now ≡ None = sym c.in_ok-told.ensures ∙ c.in-None.is in
    let same : spec.read_trace c.args.text.now ≡ spec.ended c.loop-line.lines.items c.loop-line.rest.now =
    c.loop-line.invariant ∙ read_last c.loop-line.lines.items c.loop-line.rest.now c.in-Some.line.now c.in-Some.behind.now c.in-Some.ensures.parts none in
    subst (λ (read : Result (List TraceLine) ℕ). spec.Ends (λ (v : Vec TraceLine Global). v.items) c.ended.result read) (sym same) c.ended.ensures
