-- Channels and ports poll no line.
use Rattle.std.proofs.Common.{◌≡◌, true, [], sym, subst}
use Rattle.mcal_base.specs.Bits.{has_bit}
use Rattle.mcal_base.specs.facts.Truths.{off_on}
use Rattle.run_model.specs.Legal.{has_line}
use Rattle.audit_base.specs.Product.{either}
use Rattle.audit_machines.proofs.hosting.HostedSubject.polled.Goals as goal

pub returns-in-Left : goal.returns-in-Left
returns-in-Left g c w s l =
    let host = (g.H.Part.member (g.H.Part.table c.args.self.now.host)).machine in
    subst (λ x. has_line (either (host.polls w s) (λ d. []) x) l ≡ true → has_bit c.polled.result l ≡ true) (sym c.in-Left.is) (c.polled.ensures w s l)

pub returns-in-Right : goal.returns-in-Right
returns-in-Right g c w s l =
    let host = (g.H.Part.member (g.H.Part.table c.args.self.now.host)).machine in
    subst (λ x. has_line (either (host.polls w s) (λ d. []) x) l ≡ true → has_bit 0 l ≡ true) (sym c.in-Right.is) (λ on. off_on on)
