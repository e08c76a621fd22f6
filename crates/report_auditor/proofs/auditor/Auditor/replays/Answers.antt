-- The chip makes its move, and what isn't touched stays known.
use Rattle.std.proofs.Common.{sym, ◌∙◌, ap, subst}
use Rattle.chip_model.specs.Chip.{chip_after, value_of}
use Rattle.run_model.specs.Frame.{state_after}
use Rattle.report_auditor.specs.Seeing.{IsSeen, stepped_in, touched_if_told}
use Rattle.report_auditor.proofs.SeenLaws.{seen_stepped}
use Rattle.report_auditor.proofs.auditor.Auditor.replays.Goals as goal

pub returns-clause-value : goal.returns-clause-value
returns-clause-value g c = c.replay.ensures.value ∙ ap (λ v. value_of v.chip c.args.made.now) c.self.view_is

pub returns-clause-moved : goal.returns-clause-moved
returns-clause-moved g c = record {
  chip = c.replay.ensures.state ∙ ap (λ v. chip_after v.chip c.args.made.now c.args.received) c.self.view_is;
  parts = ap (λ v. v.parts) c.self.view_is;
  outside = ap (λ v. v.outside) c.self.view_is;
  devices = ap (λ v. v.devices) c.self.view_is;
  frames = ap (λ v. v.frames) c.self.view_is;
  origins = ap (λ v. v.origins) c.self.view_is;
  tally = ap (λ v. v.tally) c.self.view_is;
}

pub returns-clause-seen : goal.returns-clause-seen
returns-clause-seen g c t table_is w s o xs origins_are known =
    let made = c.args.made.now in
    let received = c.args.received in
    let event = c.args.event in
    let kept = rw (← c.self.view_is) at known in
    let same = rw (← c.self.view_is) at table_is in
    let told = rw (← c.self.view_is) at (c.touched_if_told-told.ensures o.origin xs origins_are) in
    let is = c.steps.ensures ∙ ap (λ x. stepped_in made x c.self.inside.seen) (told ∙ ap (λ x. touched_if_told (g.P.Subject.setting x) o.origin event) same) in
    rw (← c.self.view_is) (subst (λ x. IsSeen g.P.Whole.agrees g.P.Subject.setting t x (chip_after c.self.inside.bus made received) w (state_after (g.P.Subject.setting t).machine w s o made received event)) (sym is)
    (seen_stepped g.P.Whole.agrees g.P.Subject.setting t g.met.P.Whole.kept_by_move g.met.P.Whole.kept_by_event c.self.inside.seen c.self.inside.bus w s o made received event kept))
