-- What is taken follows the machine, where what was done does.
use Rattle.std.proofs.Common.{◌≡◌, Option, Some, None, refl, ap, ◌∙◌}
use Rattle.mcal_base.specs.declared.error_name.ErrorName.{ErrorName}
use Rattle.mcal_base.specs.declared.moves.DevError.{DevError}
use Rattle.mcal_base.specs.declared.answer.Answer.{Answer}
use Rattle.run_model.specs.Machine.{Outcome, no_answer, tells_nothing}
use Rattle.audit_base.specs.Comes.{Comes}
use Rattle.audit_base.specs.Deeds.{Follows}
use Rattle.audit_base.specs.declared.done.Done.{Done}
use Rattle.audit_base.specs.declared.told.Notices.TheVariants as code
use Rattle.audit_machines.specs.Happens.{Takes, Tells, unreported}
use Rattle.audit_machines.specs.declared.happening.Took.{Took}
use Rattle.audit_machines.specs.declared.happening.Took.TheVariants.{Refused, Allowed}

module _ {State : Type 0} (W : Type 0) (P : State → Type 0) where
  pub takes : (s : State) (t : Took) (d : Option Done) (reports : Option ErrorName → Option DevError) (o : Option (Outcome State))
      → W → Tells t d reports → Follows P s d o → Takes (λ x. W × P x) s t reports o
  takes s Refused None reports None w u h = (w, h)
  takes s Refused None reports (Some out) w u h = h
  takes s Refused (Some d) reports o w u h = absurd u
  takes s (Allowed a e ns) None reports o w u h = absurd u
  takes s (Allowed a e ns) (Some d) reports None w u h = h
  takes s (Allowed a e ns) (Some d) reports (Some out) w u h = record {
    answer_is = u.0 ∙ ap (λ t. t.answer) h.told;
    error_is = u.1 ∙ ap (λ t. reports t.error) h.told;
    notices_are = u.2 ∙ ap (λ t. t.notices) h.told;
    kept = (w, h.kept);
  }

  -- what is always allowed and tells nothing
  pub takes_silent : (s : State) (a : Answer) (o : Option (Outcome State)) → W → a ≡ no_answer → Comes P tells_nothing o → Takes (λ x. W × P x) s (Allowed a None code.None) unreported o
  takes_silent s a None w e h = h
  takes_silent s a (Some out) w e h = record {
    answer_is = e ∙ ap (λ t. t.answer) h.told;
    error_is = refl;
    notices_are = ap (λ t. t.notices) h.told;
    kept = (w, h.kept);
  }
