-- A unit starts where the first machine allows it, or the second.
use Rattle.std.proofs.Common.{◌||◌, None, sym, ◌∙◌, ap}
use Rattle.std.specs.Prelude.{is_some}
use Rattle.run_model.specs.Machine.{Starts}
use Rattle.audit_subject.specs.Joining.{either_starts}
use Rattle.audit_subject.proofs.both.BothSubject.starts_uncalled.Goals as goal

pub returns-then-first : goal.returns-then-first
returns-then-first g c w s received fits at stands =
    let m = c.args.self.now in
    let x = (g.A.Part.member (g.A.Part.table m.first)).machine.happens w s.0 (Starts c.args.unit None received) in
    let y = (g.B.Part.member (g.B.Part.table m.second)).machine.happens w s.1 (Starts c.args.unit None received) in
    c.if-first.true ∙ sym (either_starts s.0 s.1 x y ∙ ap (λ k. k || is_some y) (sym (c.starts_uncalled-first.ensures w s.0 received fits.0 at stands.0) ∙ c.if-first.true))

pub returns-else-first : goal.returns-else-first
returns-else-first g c w s received fits at stands =
    let m = c.args.self.now in
    let x = (g.A.Part.member (g.A.Part.table m.first)).machine.happens w s.0 (Starts c.args.unit None received) in
    let y = (g.B.Part.member (g.B.Part.table m.second)).machine.happens w s.1 (Starts c.args.unit None received) in
    c.starts_uncalled-second.ensures w s.1 received fits.1 at stands.1
    ∙ sym (either_starts s.0 s.1 x y ∙ ap (λ k. k || is_some y) (sym (c.starts_uncalled-first.ensures w s.0 received fits.0 at stands.0) ∙ c.if-first.false))
