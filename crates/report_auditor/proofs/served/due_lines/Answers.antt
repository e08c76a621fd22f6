-- Each line that was left and is due is marked, until none is left.
use Rattle.std.proofs.Common.{◌≡◌, ℕ, Bool, sym, ◌∙◌, ap, arith}
use Rattle.mcal_base.specs.Bits.{has_bit}
use Rattle.report_auditor.proofs.LineLaws.{all_found, line_found, none_found, still_found}
use Rattle.report_auditor.proofs.served.due_lines.Goals as goal

pub loop-left-init : goal.loop-left-init
loop-left-init g c = λ w s fits is stands all k. none_found ((g.P.Part.member (g.P.Part.table c.args.part.now)).machine.due w s) c.args.asked k (all k)

pub loop-left-preserved-then-due : goal.loop-left-preserved-then-due
loop-left-preserved-then-due g c = λ w s fits is stands all k.
    let test : ℕ → Bool = (g.P.Part.member (g.P.Part.table c.args.part.now)).machine.due w s in
    let on = sym (c.due.ensures w s fits is stands) ∙ c.if-due.true in
    ap (λ m. has_bit m k) c.with_bit-found.ensures
    ∙ line_found test c.loop-left.left c.without_bit-left.result c.lowest-line.result c.loop-left.found on c.lowest-line.ensures.within c.without_bit-left.ensures.clear c.without_bit-left.ensures.kept (c.loop-left.invariant w s fits is stands all) k

pub loop-left-preserved : goal.loop-left-preserved
loop-left-preserved g c = λ w s fits is stands all k.
    let test : ℕ → Bool = (g.P.Part.member (g.P.Part.table c.args.part.now)).machine.due w s in
    let off = sym (c.due.ensures w s fits is stands) ∙ c.if-due.false in
    still_found test c.loop-left.left c.without_bit-left.result c.lowest-line.result c.loop-left.found off c.without_bit-left.ensures.kept (c.loop-left.invariant w s fits is stands all) k

pub returns : goal.returns
returns g c = λ w s fits is stands asked small.
    let test : ℕ → Bool = (g.P.Part.member (g.P.Part.table c.args.part.now)).machine.due w s in
    let none : c.loop-left.left ≡ 0 = omega arith in
    all_found test c.loop-left.left c.loop-left.found none small (c.loop-left.invariant w s fits is stands asked)
