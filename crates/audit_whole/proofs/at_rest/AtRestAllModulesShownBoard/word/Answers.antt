use Rattle.std.proofs.Common.{◌+◌, false, true, ◌∙◌, ap, arith, subst, sym}
use Rattle.shown_rows.specs.Places.{HasPlaces, word_at}
use Rattle.shown_rows.specs.declared.shown.Words.{Words}
use Rattle.spi_machine.specs.State.{SpiState, internal_word}
use Rattle.audit_machines.specs.Shows.{user_at}
use Rattle.audit_whole.proofs.AtRestLaws.{place_there, user_same}
use Rattle.audit_whole.proofs.at_rest.AtRestAllModulesShownBoard.word.Goals as goal

pub ram-requires : goal.ram-requires
ram-requires c =
    let has = subst (λ (of : Words). HasPlaces c.args.self.now.config of (c.args.place + 1)) c.in-Ram.is c.requires.there in
    omega (arith, has)

pub user_word-requires : goal.user_word-requires
user_word-requires c =
    let has = subst (λ (of : Words). HasPlaces c.args.self.now.config of (c.args.place + 1)) c.in-User.is c.requires.there in
    let placed = place_there c.self.inside.config.now c.self.invariant.0 c.in-User.array c.args.place (rw (← c.self.view_is) at has) in
    record { there = placed.exists; place = placed.inside }

pub returns-in-Ram : goal.returns-in-Ram
returns-in-Ram c w s h =
    let k = rw (← c.self.view_is) at h in
    c.ram.ensures s.0.0.0 k.1.0.0.0 ∙ ap (λ (of : Words). word_at s of c.args.place) (sym c.in-Ram.is)

pub returns-in-User : goal.returns-in-User
returns-in-User c w s h =
    let k = rw (← c.self.view_is) at h in
    c.user_word.ensures s.1.0.1 s.1.1.0 k.1.1.0.1 k.1.1.1.0
    ∙ ap (λ (x : SpiState). user_at s.1.0.1 s.1.1.0 x c.in-User.array c.args.place) k.1.1.1.1
    ∙ user_same s c.in-User.array c.args.place
    ∙ ap (λ (of : Words). word_at s of c.args.place) (sym c.in-User.is)

pub returns-in-Sent : goal.returns-in-Sent
returns-in-Sent c w s h =
    let k = rw (← c.self.view_is) at h in
    c.internal.ensures
    ∙ ap (λ (x : SpiState). internal_word x c.in-Sent.channel false c.args.place) k.1.1.1.1
    ∙ ap (λ (of : Words). word_at s of c.args.place) (sym c.in-Sent.is)

pub returns-in-Received : goal.returns-in-Received
returns-in-Received c w s h =
    let k = rw (← c.self.view_is) at h in
    c.internal-in-Received.ensures
    ∙ ap (λ (x : SpiState). internal_word x c.in-Received.channel true c.args.place) k.1.1.1.1
    ∙ ap (λ (of : Words). word_at s of c.args.place) (sym c.in-Received.is)
