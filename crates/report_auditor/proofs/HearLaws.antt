-- What the machines say of a step: whether they allow its event, what it may start, and what its notice shows.
use Rattle.std.proofs.Common.{◌≡◌, ℕ, Bool, true, false, not, List, [], ◌∷◌, map, Option, Some, None, refl, sym, ◌∙◌, ap, subst}
use Rattle.std.specs.Prelude.{IsSome, is_some}
use Rattle.chip_model.specs.Chip.{Chip}
use Rattle.mcal_base.specs.declared.answer.Answer.{Answer}
use Rattle.mcal_base.specs.declared.moves.Event.{Event}
use Rattle.mcal_base.specs.declared.moves.Event.TheVariants.{Act, Serve, Abort, Start}
use Rattle.mcal_base.specs.declared.moves.Move.{Move}
use Rattle.mcal_base.specs.declared.moves.Move.TheVariants.{Note}
use Rattle.mcal_base.specs.declared.moves.Unit as units
use Rattle.mcal_base.specs.declared.notice.Notice.{Notice}
use Rattle.mcal_base.specs.facts.Truths.{off_on}
use Rattle.run_model.specs.Frame.{Open, Origin, outcome_at}
use Rattle.run_model.specs.Frame as frame
use Rattle.run_model.specs.Legal.{ShowsRight, StartsUncalled}
use Rattle.run_model.specs.Machine.{Machine, Outcome, Starts, Told}
use Rattle.run_model.specs.Moment.{Moment, Setting}
use Rattle.run_model.specs.declared.item.Stepped.{Stepped}
use Rattle.run_model.specs.World.{World}
use Rattle.audit_frames.specs.Decides.{Decides}
use Rattle.audit_frames.specs.FrameRules.{first_owed}
use Rattle.audit_frames.specs.Parts.{IsAllowed}
use Rattle.audit_frames.specs.StandsFor.{owing_of}
use Rattle.audit_frames.specs.Told.{IsTold}
use Rattle.audit_frames.specs.declared.owing.Owing.{Owing}
use Rattle.audit_frames.proofs.Deciding.{yes}
use Rattle.report_auditor.specs.Asking.{ShowsNext, StartRight, is_note, started}

-- an event that is told has come
told_some : {State : Type 0} (e : Event) (t : Told) (out : Option (Outcome State)) → IsTold (Some e) t out → IsSome out
told_some e t None h = absurd h
told_some e t (Some x) h = refl

none_some : {A : Type 0} (x : Option A) → x ≡ None → IsSome x → ⊥
none_some x e h = off_on (sym (ap is_some e) ∙ h)

module _ {State Call : Type 0} (g : Setting State Call) (m : Moment State Call) (o : Open Call) (s : Stepped) where
  -- it is allowed, where it was told, and a start is one for no call where the frame has acted
  pub is_allowed_by : (e : Option Event) (t : Told) → IsTold e t (outcome_at g.machine m.world m.state o s.made s.received e) → StartRight g.machine m.world m.state o.acted e → IsAllowed g m o s e
  is_allowed_by None t told start = tt
  is_allowed_by (Some Act) t told start = told_some Act t _ told
  is_allowed_by (Some (Serve l)) t told start = told_some (Serve l) t _ told
  is_allowed_by (Some (Abort u)) t told start = told_some (Abort u) t _ told
  is_allowed_by (Some (Start u)) t told start = (told_some (Start u) t _ told, start)

  -- it isn't, where the machine gives nothing
  pub is_refused : (e : Option Event) → IsSome e → outcome_at g.machine m.world m.state o s.made s.received e ≡ None → IsAllowed g m o s e → ⊥
  is_refused None some none h = off_on some
  is_refused (Some Act) some none h = none_some _ none h
  is_refused (Some (Serve l)) some none h = none_some _ none h
  is_refused (Some (Abort u)) some none h = none_some _ none h
  is_refused (Some (Start u)) some none h = none_some _ none h.0

  -- nor where a start is for a call of a frame that has acted
  pub start_right : (e : Option Event) → IsAllowed g m o s e → StartRight g.machine m.world m.state o.acted e
  start_right None h = tt
  start_right (Some Act) h = tt
  start_right (Some (Serve l)) h = tt
  start_right (Some (Abort u)) h = tt
  start_right (Some (Start u)) h = h.1

-- ---- what it may start

module _ {State Call : Type 0} (mac : Machine State Call) (w : World) (s : State) where
  -- a frame that has acted starts a unit where the machine allows it without a call
  pub starts_for_none : (u : units.Unit) (answer : Answer) (b : Bool) → ((received : ℕ) → b ≡ is_some (mac.happens w s (Starts u None received))) → Decides b (StartsUncalled mac w s u (Some answer))
  starts_for_none u answer b is = record { says = λ e received. sym (is received) ∙ e; shows = λ h. is 0 ∙ h 0 }

  pub started_right : (acted : Option Answer) (event : Option Event) (u : units.Unit) (b : Bool) → started event ≡ Some u → Decides b (StartsUncalled mac w s u acted) → Decides b (StartRight mac w s acted event)
  started_right acted None u b e d = absurd (cc)
  started_right acted (Some Act) u b e d = absurd (cc)
  started_right acted (Some (Serve l)) u b e d = absurd (cc)
  started_right acted (Some (Abort v)) u b e d = absurd (cc)
  started_right acted (Some (Start v)) u b e d = let same : u ≡ v = cc in subst (λ x. Decides b (StartsUncalled mac w s x acted)) same d

  pub none_started : (acted : Option Answer) (event : Option Event) → started event ≡ None → Decides true (StartRight mac w s acted event)
  none_started acted None e = yes tt
  none_started acted (Some Act) e = yes tt
  none_started acted (Some (Serve l)) e = yes tt
  none_started acted (Some (Abort v)) e = yes tt
  none_started acted (Some (Start v)) e = absurd (cc)

-- ---- what its notice shows

pub not_off : (b : Bool) → not b ≡ false → b ≡ true
not_off true e = refl
not_off false e = off_on (sym e)

module _ {State Call : Type 0} (g : Setting State Call) (chip : Chip) (s : State) (origin : Origin Call) where
  -- a move that is no notice shows nothing
  pub no_note : (owed : List frame.Owing) (made : Move) → is_note made ≡ false → Decides true (ShowsRight g chip s origin owed made)
  no_note owed (Note n) e = absurd (cc)
  no_note owed _ e = yes tt

  at_note : (ks : List Owing) (n : Notice) (b : Bool) → Decides b (ShowsNext (g.shows origin) chip s (first_owed ks)) → Decides b (ShowsRight g chip s origin (map owing_of ks) (Note n))
  at_note [] n b d = d
  at_note (k ∷ ks) n b d = d

  kept_note : (ks : List Owing) (made : Move) (b : Bool) → is_note made ≡ true → Decides b (ShowsNext (g.shows origin) chip s (first_owed ks)) → Decides b (ShowsRight g chip s origin (map owing_of ks) made)
  kept_note ks (Note n) b e d = at_note ks n b d
  kept_note ks _ b e d = absurd (cc)

  pub shows_first : (ks : List Owing) (owed : List frame.Owing) (made : Move) (b : Bool) → map owing_of ks ≡ owed → is_note made ≡ true → Decides b (ShowsNext (g.shows origin) chip s (first_owed ks)) → Decides b (ShowsRight g chip s origin owed made)
  shows_first ks owed made b same e d = subst (λ x. Decides b (ShowsRight g chip s origin x made)) same (kept_note ks made b e d)
