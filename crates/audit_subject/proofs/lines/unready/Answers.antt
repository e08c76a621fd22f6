-- Each line is marked that isn't ready.
use Rattle.std.proofs.Common.{◌≡◌, ℕ, ◌≤◌, Bool, false, ◌&&◌, not, sym, ◌∙◌, ap, ◌<◌, arith}
use Rattle.mcal_base.specs.Bits.{has_bit, bits_of}
use Rattle.mcal_base.proofs.BitLaws.{bits_of-left, bits_of-zero}
use Rattle.audit_subject.proofs.LineMasks.{ended, marked, none_asked}
use Rattle.audit_subject.proofs.lines.unready.Goals as goal
use Rattle.audit_subject.proofs.lines.unready.Goals.{then-is_unready, else-is_unready}

pub returns-then-asked-eq0 : goal.returns-then-asked-eq0
returns-then-asked-eq0 g c = λ w s fits is stands. sym (none_asked c.args.asked (λ k. not ((g.P.Part.member (g.P.Part.table c.args.part.now)).machine.ready w s k)) 64 c.if-asked-eq0.true)

pub loop-line-init : goal.loop-line-init
loop-line-init g c = λ w s fits is stands. sym (bits_of-zero (λ k. has_bit c.args.asked k && not ((g.P.Part.member (g.P.Part.table c.args.part.now)).machine.ready w s k)))

pub loop-line-preserved : goal.loop-line-preserved
loop-line-preserved g c = λ w s fits is stands.
    let n = c.loop-line.line in
    let test : ℕ → Bool = λ k. has_bit c.args.asked k && not ((g.P.Part.member (g.P.Part.table c.args.part.now)).machine.ready w s k) in
    let below : n < 64 = omega arith in
    let says : c.is_unready.result ≡ test n = c.is_unready.ensures w s fits is stands in
    elim c.if-is_unready.branch [
      | then-is_unready x ↦ x.found-is ∙ marked test n c.loop-line.found below (sym says ∙ x.if-is_unready.true) (c.loop-line.invariant w s fits is stands)
      | else-is_unready x ↦ x.found-is ∙ bits_of-left test n c.loop-line.found (sym says ∙ x.if-is_unready.false) (c.loop-line.invariant w s fits is stands)
    ]

pub returns : goal.returns
returns g c = λ w s fits is stands.
    let all : c.loop-line.line ≡ 64 = omega arith in
    c.loop-line.invariant w s fits is stands ∙ ap (λ n. bits_of (λ k. has_bit c.args.asked k && not ((g.P.Part.member (g.P.Part.table c.args.part.now)).machine.ready w s k)) n) all

pub returns-then-ends_before : goal.returns-then-ends_before
returns-then-ends_before g c = λ w s fits is stands.
    let n = c.loop-line.line in
    let test : ℕ → Bool = λ k. has_bit c.args.asked k && not ((g.P.Part.member (g.P.Part.table c.args.part.now)).machine.ready w s k) in
    let below : n < 64 = omega arith in
    let off : (l : ℕ) → n ≤ l → test l ≡ false = λ l from. ap (λ b. b && not ((g.P.Part.member (g.P.Part.table c.args.part.now)).machine.ready w s l)) (c.ends_before.ensures c.if-ends_before.true l from) in
    c.loop-line.invariant w s fits is stands ∙ sym (ended test n below off)
