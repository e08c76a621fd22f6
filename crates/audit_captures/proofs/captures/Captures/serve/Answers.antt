use Rattle.std.proofs.Common.{◌≡◌, ◌<◌, ap, subst, sym, ◌∙◌, Some, None}
use Rattle.module_machines.specs.icu.Table.{channel_of, channel_of_line, channel_number}
use Rattle.audit_base.specs.Comes.{ComesIf}
use Rattle.audit_captures.specs.Stands.{CapturesKept, StandsFor, served_on}
use Rattle.audit_captures.proofs.ChannelLaws.{channel-below}
use Rattle.audit_captures.proofs.ServeLaws.{line-channel}
use Rattle.audit_captures.proofs.captures.Captures.serve.Goals as goal

pub serve_on-requires-clause-there : goal.serve_on-requires-clause-there
serve_on-requires-clause-there c =
    let d = c.args.self.now.driver in
    let known = sym (c.in-Some.ensures ∙ ap (λ (t : CapturesKept). channel_of_line t.driver c.args.line) c.self.view_is) in
    subst (λ n. n < 8) (sym c.saturating_sub.ensures) (channel-below d (channel_number c.args.line) c.in-Some.channel (line-channel d c.args.line c.in-Some.channel known))

pub returns-in-Some-clause-is : goal.returns-in-Some-clause-is
returns-in-Some-clause-is c w s received h =
    let d = c.args.self.now.driver in
    let l = c.args.line in
    let k = c.in-Some.channel in
    let line = sym (c.in-Some.ensures ∙ ap (λ (t : CapturesKept). channel_of_line t.driver l) c.self.view_is) in
    let known = line-channel d l k line in
    let gives = subst (λ n. channel_of d n ≡ Some k → ComesIf (StandsFor c.serve_on.new.self) c.serve_on.result (served_on (Some k) (Some k) s n)) c.saturating_sub.ensures (λ e. c.serve_on.ensures.is s e h) known in
    subst (λ a. ComesIf (StandsFor c.serve_on.new.self) c.serve_on.result (served_on a (channel_of d (channel_number l)) s (channel_number l))) (sym line)
    (subst (λ b. ComesIf (StandsFor c.serve_on.new.self) c.serve_on.result (served_on (Some k) b s (channel_number l))) (sym known) gives)

pub returns-in-None-clause-is : goal.returns-in-None-clause-is
returns-in-None-clause-is c w s received h =
    let d = c.args.self.now.driver in
    let none = c.in-None.ensures ∙ ap (λ (t : CapturesKept). channel_of_line t.driver c.args.line) c.self.view_is in
    subst (λ a. ComesIf (StandsFor c.args.self.now) None (served_on a (channel_of d (channel_number c.args.line)) s (channel_number c.args.line))) none tt
