use Rattle.std.proofs.Common.{◌≡◌, ℕ, ◌+◌, false, true, ◌∙◌, sym, ap, subst}
use Rattle.chip_model.specs.Chip.{word_of}
use Rattle.mcal_drivers.specs.Setting.{SystemState}
use Rattle.run_model.specs.World.{World}
use Rattle.mcal_system.specs.Runs.{moment_at}
use Rattle.shown_rows.specs.Places.{HasPlaces, word_at}
use Rattle.shown_rows.specs.declared.shown.Words.{Words}
use Rattle.mcal_system.proofs.Resting.{internal_there, ram_there, user_there}
use Rattle.mcal_system.proofs.at_rest.AtRestShownBoard.word.Goals as goal

pub returns-in-Ram : goal.returns-in-Ram
returns-in-Ram c w s h =
    let has = subst (λ (of : Words). HasPlaces c.args.self.now.config of (c.args.place + 1)) c.in-Ram.is c.requires.there in
    subst (λ (p : World × SystemState). c.ram.result ≡ word_at p.1 c.args.words c.args.place) (sym h)
    (c.ram.ensures
    ∙ ram_there c.self.invariant.0 c.self.view_is c.args.place has
    ∙ ap (λ (of : Words). word_at (moment_at c.args.self.now).state of c.args.place) (sym c.in-Ram.is))

pub returns-in-User : goal.returns-in-User
returns-in-User c w s h =
    let has = subst (λ (of : Words). HasPlaces c.args.self.now.config of (c.args.place + 1)) c.in-User.is c.requires.there in
    subst (λ (p : World × SystemState). c.word.result ≡ word_at p.1 c.args.words c.args.place) (sym h)
    (c.word.ensures
    ∙ ap (λ (k : ℕ). word_of c.self.inside.bus.now k) c.place-word.ensures.word
    ∙ user_there c.self.invariant.0 c.self.view_is c.in-User.array c.args.place has
    ∙ ap (λ (of : Words). word_at (moment_at c.args.self.now).state of c.args.place) (sym c.in-User.is))

pub returns-in-Sent : goal.returns-in-Sent
returns-in-Sent c w s h =
    let has = subst (λ (of : Words). HasPlaces c.args.self.now.config of (c.args.place + 1)) c.in-Sent.is c.requires.there in
    subst (λ (p : World × SystemState). c.internal.result ≡ word_at p.1 c.args.words c.args.place) (sym h)
    (internal_there c.self.invariant.0 c.self.view_is c.self.inside.serial.now c.self.invariant.1.serial_is c.in-Sent.channel c.args.place false has c.internal.result c.internal.ensures
    ∙ ap (λ (of : Words). word_at (moment_at c.args.self.now).state of c.args.place) (sym c.in-Sent.is))

pub returns-in-Received : goal.returns-in-Received
returns-in-Received c w s h =
    let has = subst (λ (of : Words). HasPlaces c.args.self.now.config of (c.args.place + 1)) c.in-Received.is c.requires.there in
    subst (λ (p : World × SystemState). c.internal-in-Received.result ≡ word_at p.1 c.args.words c.args.place) (sym h)
    (internal_there c.self.invariant.0 c.self.view_is c.self.inside.serial.now c.self.invariant.1.serial_is c.in-Received.channel c.args.place true has c.internal-in-Received.result c.internal-in-Received.ensures
    ∙ ap (λ (of : Words). word_at (moment_at c.args.self.now).state of c.args.place) (sym c.in-Received.is))
