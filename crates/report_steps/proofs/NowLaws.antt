-- Whether the step of a line may come, by what an auditor keeps.
use Rattle.std.proofs.Common.{◌≡◌, ℕ, ◌==◌, Bool, true, false, ◌&&◌, ◌||◌, List, [], ◌∷◌, length, map, Some, None, refl, sym, ◌∙◌, ap, subst}
use Rattle.std.specs.Prelude.{slice_get}
use Rattle.chip_model.specs.Chip.{stall_of}
use Rattle.mcal_base.specs.There.{names_there}
use Rattle.mcal_base.specs.laws.There.{move_there}
use Rattle.mcal_base.specs.facts.Truths.{off_on}
use Rattle.run_model.specs.Frame.{Open, Origin, is_shared}
use Rattle.run_model.specs.Legal.{ReceivedRight, ShowsRight}
use Rattle.run_model.specs.Moment.{Setting}
use Rattle.audit_frames.specs.Decides.{Decides}
use Rattle.audit_frames.specs.Kept.{Kept}
use Rattle.audit_frames.specs.StandsFor.{StandsFor}
use Rattle.audit_frames.proofs.Deciding.{both, equal, valued, worded}
use Rattle.report_text.specs.reading.Blocks.{AuditState}
use Rattle.trace_reader.specs.declared.told.Step.{Step}
use Rattle.report_auditor.specs.Auditing.{Auditing, Stands}
use Rattle.report_auditor.specs.ChipRules.{received_right}
use Rattle.report_auditor.specs.Seeing.{Agreeing}
use Rattle.report_auditor.proofs.ChipLaws.{comes_in}
use Rattle.report_steps.specs.StepParts.{ComesNow, MayCome}
use Rattle.report_steps.proofs.ComeLaws.{Newest, by_depth, depth_is, fails, newest, none_begun, none_comes, none_kept, not_now, same_some, some_none}
use Rattle.report_steps.proofs.ThereLaws.{passes}

-- the first of a list in other terms
pub first_of : {A B : Type 0} (f : A → B) (ys xs : List A) (x : A) → ys ≡ xs → slice_get ys 0 ≡ Some x → slice_get (map f xs) 0 ≡ Some (f x)
first_of f [] xs x same e = absurd (cc)
first_of f (y ∷ ys) xs x same e = subst (λ zs. slice_get (map f zs) 0 ≡ Some (f x)) same (ap (λ z. Some (f z)) (same_some y x e))

pub none_of : {A B : Type 0} (f : A → B) (ys xs : List A) → ys ≡ xs → slice_get ys 0 ≡ None → slice_get (map f xs) 0 ≡ None
none_of f [] xs same e = subst (λ zs. slice_get (map f zs) 0 ≡ None) same refl
none_of f (y ∷ ys) xs same e = absurd (some_none y e)

-- depth and wait are as the line says
pub at_once : (c : Bool) (told depth deep wait stall : ℕ) → c ≡ (told == depth && wait == 0) → depth ≡ deep → wait ≡ stall → Decides c ((told ≡ deep) × (stall ≡ 0))
at_once c told depth deep wait stall is same e = valued is (worded (λ h. (h.0 ∙ same, sym e ∙ h.1)) (λ h. (h.0 ∙ sym same, e ∙ h.1)) (both (equal told depth) (equal wait 0)))

module _ {Parts Table State Call : Type 0} (agrees : Agreeing Table State) (setting : Table → Setting State Call) (table : Parts → Table) (stands : Parts → State → Type 0) (t : Table) (a : Auditing Parts Call) (p : AuditState State Call) (s : Stands agrees setting table stands t a p) where
  pub no_frame : (r : Step) → slice_get a.frames 0 ≡ None → Decides false (MayCome (setting t) p.moment p.moment.opens r)
  no_frame r none = none_comes (setting t) p.moment p.moment.opens r (none_kept (setting t) a.frames p.moment.opens s.frames none)

  pub no_origin : (r : Step) → slice_get a.origins 0 ≡ None → Decides false (MayCome (setting t) p.moment p.moment.opens r)
  no_origin r none = none_comes (setting t) p.moment p.moment.opens r (none_begun (setting t) p.moment.opens a.origins s.origins none)

  pub top_of : (k : Kept) (x : Origin Call) → slice_get a.frames 0 ≡ Some k → slice_get a.origins 0 ≡ Some x → Newest (setting t) a.frames p.moment.opens k x
  top_of k x top first = newest (setting t) a.frames p.moment.opens a.origins k x s.frames s.origins top first

  module _ (r : Step) (k : Kept) (x : Origin Call) (n : Newest (setting t) a.frames p.moment.opens k x) where
    wrong : (ComesNow (setting t) p.moment n.o r → ⊥) → Decides false (MayCome (setting t) p.moment p.moment.opens r)
    wrong h = not_now (setting t) p.moment p.moment.opens r n.o n.os n.opens_are h

    pub not_there : (b : Bool) → b ≡ names_there r.made → b ≡ false → Decides false (MayCome (setting t) p.moment p.moment.opens r)
    not_there b is off = wrong (λ h. off_on (sym off ∙ (is ∙ passes r.made h.there)))

    own_is : (b : Bool) → b ≡ (is_shared r.made || (setting (table a.parts)).may x r.made) → b ≡ (is_shared r.made || (setting t).may n.o.origin r.made)
    own_is b is = is ∙ (ap (λ y. is_shared r.made || (setting y).may x r.made) s.kept_of ∙ ap (λ y. is_shared r.made || (setting t).may y r.made) (sym n.origin))

    pub not_own : (b : Bool) → b ≡ (is_shared r.made || (setting (table a.parts)).may x r.made) → b ≡ false → Decides false (MayCome (setting t) p.moment p.moment.opens r)
    not_own b is off = wrong (λ h. off_on (sym off ∙ (own_is b is ∙ h.own)))

    received_is : (b : Bool) → b ≡ received_right a.chip r.made r.received → Decides b (ReceivedRight p.moment.chip p.moment.world r.made r.received)
    received_is b is =
        subst (λ c. Decides b (ReceivedRight c p.moment.world r.made r.received)) s.chip
        (subst (λ q. Decides q (ReceivedRight a.chip p.moment.world r.made r.received)) (sym is) (comes_in a.chip p.moment.world r.made r.received s.devices))

    pub not_received : (b : Bool) → b ≡ received_right a.chip r.made r.received → b ≡ false → Decides false (MayCome (setting t) p.moment p.moment.opens r)
    not_received b is off = wrong (λ h. fails b (received_is b is) off h.received)

    -- what is said of a notice, of the frame under way
    shown_is : (b : Bool) → ((st : State) (o : Open Call) → stands a.parts st → StandsFor (setting (table a.parts)) k o → Decides b (ShowsRight (setting (table a.parts)) a.chip st x o.owed r.made))
        → Decides b (ShowsRight (setting t) p.moment.chip p.moment.state n.o.origin n.o.owed r.made)
    shown_is b d =
        let here = d p.moment.state n.o s.state (subst (λ y. StandsFor (setting y) k n.o) (sym s.kept_of) n.stood) in
        subst (λ y. Decides b (ShowsRight (setting t) p.moment.chip p.moment.state y n.o.owed r.made)) (sym n.origin)
        (subst (λ c. Decides b (ShowsRight (setting t) c p.moment.state x n.o.owed r.made)) s.chip
        (subst (λ y. Decides b (ShowsRight (setting y) a.chip p.moment.state x n.o.owed r.made)) s.kept_of here))

    pub not_shown : (b : Bool) → ((st : State) (o : Open Call) → stands a.parts st → StandsFor (setting (table a.parts)) k o → Decides b (ShowsRight (setting (table a.parts)) a.chip st x o.owed r.made)) → b ≡ false
        → Decides false (MayCome (setting t) p.moment p.moment.opens r)
    not_shown b d off = wrong (λ h. fails b (shown_is b d) off h.shows)

    -- with all of them right, depth and wait are left
    pub comes_by : (there own received shown : Bool) → there ≡ names_there r.made → there ≡ true → own ≡ (is_shared r.made || (setting (table a.parts)).may x r.made) → own ≡ true
        → received ≡ received_right a.chip r.made r.received → received ≡ true
        → ((st : State) (o : Open Call) → stands a.parts st → StandsFor (setting (table a.parts)) k o → Decides shown (ShowsRight (setting (table a.parts)) a.chip st x o.owed r.made)) → shown ≡ true
        → (c : Bool) → Decides c ((r.depth ≡ length a.frames) × (stall_of a.chip r.made ≡ 0)) → Decides c (MayCome (setting t) p.moment p.moment.opens r)
    comes_by there own received shown there_is there_on own_eq own_on received_eq received_on shows shown_on c d =
        let deep : length p.moment.opens ≡ length a.frames = depth_is (setting t) a.frames p.moment.opens s.frames in
        by_depth (setting t) p.moment p.moment.opens r n.o n.os n.opens_are c
        (worded (λ h. (h.0 ∙ sym deep, ap (λ q. stall_of q r.made) (sym s.chip) ∙ h.1)) (λ h. (h.0 ∙ deep, ap (λ q. stall_of q r.made) s.chip ∙ h.1)) d)
        ((received_is received received_eq).says received_on)
        ((shown_is shown shows).says shown_on)
        (move_there r.made (sym there_is ∙ there_on))
        (sym (own_is own own_eq) ∙ own_on)
