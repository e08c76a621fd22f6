-- Each line is marked that a configured object uses.
use Rattle.std.proofs.Common.{◌≡◌, ℕ, Bool, sym, ◌∙◌, ap, ◌<◌, arith}
use Rattle.mcal_base.specs.Bits.{bits_of}
use Rattle.mcal_base.proofs.BitLaws.{bits_of-zero}
use Rattle.report_auditor.proofs.LineLaws.{with_line, without_line}
use Rattle.report_auditor.proofs.served.used_lines.Goals as goal
use Rattle.report_auditor.proofs.served.used_lines.Goals.{then-has_line, else-has_line}

pub loop-line-init : goal.loop-line-init
loop-line-init g c = sym (bits_of-zero (g.P.Part.member (g.P.Part.table c.args.part.now)).lines)

pub loop-line-preserved : goal.loop-line-preserved
loop-line-preserved g c =
    let n = c.loop-line.line in
    let test : ℕ → Bool = (g.P.Part.member (g.P.Part.table c.args.part.now)).lines in
    let below : n < 64 = omega arith in
    elim c.if-has_line.branch [
      | then-has_line x ↦ x.found-is ∙ (x.with_bit-found.ensures ∙ with_line test n c.loop-line.found below (sym c.has_line.ensures ∙ x.if-has_line.true) c.loop-line.invariant)
      | else-has_line x ↦ x.found-is ∙ without_line test n c.loop-line.found (sym c.has_line.ensures ∙ x.if-has_line.false) c.loop-line.invariant
    ]

pub returns : goal.returns
returns g c =
    let all : c.loop-line.line ≡ 32 = omega arith in
    c.loop-line.invariant ∙ ap (bits_of (g.P.Part.member (g.P.Part.table c.args.part.now)).lines) all
