-- A step of a driver is one within a larger driver.
use Rattle.std.proofs.Common.{◌≡◌, ℕ, ◌+◌, Bool, true, false, not, ◌&&◌, ◌||◌, ◌==◌, List, [], ◌∷◌, Option, Some, None, refl, sym, ◌∙◌, ap, subst, arith}
use Rattle.std.specs.Prelude.{IsSome, is_some, option_map}
use Rattle.std.specs.List.{list_all}
use Rattle.std.proofs.lemmas.Bool.Decides.{nat_tests}
use Rattle.mcal_base.specs.facts.Truths.{and_first, and_second}
use Rattle.chip_model.specs.Chip.{Chip}
use Rattle.mcal_base.specs.det_errors.Reports.{reported}
use Rattle.mcal_base.specs.declared.answer.Answer.{Answer}
use Rattle.mcal_base.specs.declared.error_name.ErrorName.{ErrorName}
use Rattle.mcal_base.specs.declared.moves.DevError.{DevError}
use Rattle.mcal_base.specs.declared.moves.Event.{Event}
use Rattle.mcal_base.specs.declared.moves.Event.TheVariants.{Act, Serve, Abort, Start}
use Rattle.mcal_base.specs.declared.moves.Move.{Move}
use Rattle.mcal_base.specs.declared.moves.Move.TheVariants.{Read, Write, Load, Store, Mask, Unmask, Note, Report}
use Rattle.mcal_base.specs.declared.moves.Unit as units
use Rattle.mcal_base.specs.declared.notice.Notice.{Notice}
use Rattle.run_model.specs.declared.item.Stepped.{Stepped}
use Rattle.run_model.specs.World.{World}
use Rattle.run_model.specs.Machine.{Acts, Serves, Starts, Aborts, Outcome}
use Rattle.run_model.specs.Frame.{Origin, Called, Entered, Owing, ActedAt, Open, Brought, brought_by, happening_of, happening_at, outcome_of, outcome_at, state_by, begun_by, acted_by, polled_by, committed_after, served_by, owed_by, acted_at_by, report_as, report_of, report_by, owed_after, report_after, reads_after, is_write, writes_after, inside_after, since_after, is_act, acts_after, window_after, is_note, missed_after, open_after, is_shared, is_reset_service, asks_reset}
use Rattle.run_model.specs.Moment.{Setting}
use Rattle.run_model.specs.Legal.{has_line, IsNext, StartsUncalled, IsOwnEvent, EventRight, SendsRight, ShowsFirst, ShowsRight, has_met, is_beside, is_beside_act, WindowRight, HalvesRight, halves_of, ErrorsRight, MoveRight, MayEnd, EndRight, is_left_waiting, LeavesNone, StartsRight, MadeUnless, HasMade, WritesRight}
use Rattle.step_runner.specs.Driver.{Driver, FuelRight, RoomRight, KeepsStep}
use Rattle.step_runner.specs.Union.{lift_out, lift_origin, lift_open, IsMine, SameOn}

-- ---- what a larger machine gives where a member's does

same-owed : {S U : Type 0} (put : S → U) (ns : List Owing) (e : Option Event) (x : Option (Outcome S)) → owed_by ns e (lift_out put x) ≡ owed_by ns e x
same-owed put ns e None = refl
same-owed put ns e (Some out) = refl

-- ---- lines of a list that are all a member's

has-one : (mine : ℕ → Bool) (l : ℕ) (ls : List ℕ) (k : ℕ) (q : Bool) → (l == k) ≡ q → mine l ≡ true → (has_line ls k ≡ true → mine k ≡ true) → q || has_line ls k ≡ true → mine k ≡ true
has-one mine l ls k true e m more h = let same : l ≡ k = grind (arith, nat_tests) in subst (λ x. mine x ≡ true) same m
has-one mine l ls k false e m more h = more h

all-has : (mine : ℕ → Bool) (ls : List ℕ) (k : ℕ) → list_all mine ls ≡ true → has_line ls k ≡ true → mine k ≡ true
all-has mine [] k a h = cc
all-has mine (l ∷ ls) k a h = has-one mine l ls k (l == k) refl (and_first (mine l) (list_all mine ls) a) (λ i. all-has mine ls k (and_second (mine l) (list_all mine ls) a) i) h

all-same : (mine p q : ℕ → Bool) (ls : List ℕ) → ((l : ℕ) → mine l ≡ true → q l ≡ p l) → list_all mine ls ≡ true → list_all p ls ≡ true → list_all q ls ≡ true
all-same mine p q [] same a h = h
all-same mine p q (l ∷ ls) same a h =
    let here : q l ≡ true = same l (and_first (mine l) (list_all mine ls) a) ∙ and_first (p l) (list_all p ls) h in
    rw here (all-same mine p q ls same (and_second (mine l) (list_all mine ls) a) (and_second (p l) (list_all p ls) h))

same-acted : {S U : Type 0} (put : S → U) (a : Option Answer) (e : Option Event) (x : Option (Outcome S)) → acted_by a e (lift_out put x) ≡ acted_by a e x
same-acted put a None x = refl
same-acted put a (Some Act) None = refl
same-acted put a (Some Act) (Some out) = refl
same-acted put a (Some (Serve k)) x = refl
same-acted put a (Some (Abort u)) x = refl
same-acted put a (Some (Start u)) x = refl

pub same-state : {S U : Type 0} (put : S → U) (s : S) (x : Option (Outcome S)) → state_by (put s) (lift_out put x) ≡ put (state_by s x)
same-state put s None = refl
same-state put s (Some out) = refl

same-begun : {S U : Type 0} (put : S → U) (x : Option (Outcome S)) → begun_by (lift_out put x) ≡ begun_by x
same-begun put None = refl
same-begun put (Some out) = refl

some-lifted : {S U : Type 0} (put : S → U) (x : Option (Outcome S)) → IsSome x → IsSome (lift_out put x)
some-lifted put None h = h
some-lifted put (Some out) h = refl

-- where it acted
same-acted-at : {C E S U : Type 0} (k : C → E) (put : S → U) (p : Origin C) (inside : Bool) (made : Move) (a : Option ActedAt) (e : Option Event) (x : Option (Outcome S)) → acted_at_by (lift_origin k p) inside made a e (lift_out put x) ≡ acted_at_by p inside made a e x
same-acted-at k put (Called c) inside made a None x = refl
same-acted-at k put (Called c) inside made a (Some Act) None = refl
same-acted-at k put (Called c) inside made a (Some Act) (Some out) = refl
same-acted-at k put (Called c) inside made a (Some (Serve j)) x = refl
same-acted-at k put (Called c) inside made a (Some (Abort u)) x = refl
same-acted-at k put (Called c) inside made a (Some (Start u)) x = refl
same-acted-at k put (Entered l) inside made a None x = refl
same-acted-at k put (Entered l) inside made a (Some Act) x = refl
same-acted-at k put (Entered l) inside made a (Some (Serve j)) x = refl
same-acted-at k put (Entered l) inside made a (Some (Abort u)) x = refl
same-acted-at k put (Entered l) inside made a (Some (Start u)) x = refl

-- How a member's machine, calls and lines lie in a larger one.
pub record LiesIn {S C U E : Type 0} (g : Setting S C) (b : Setting U E) (put : S → U) (k : C → E) (mine : ℕ → Bool) (w : World) (s : S) : Type 0 where
  pub acts : (c : C) (times : ℕ → ℕ) → b.machine.happens w (put s) (Acts (k c) times) ≡ lift_out put (g.machine.happens w s (Acts c times))
  pub serves : (l r : ℕ) → mine l ≡ true → b.machine.happens w (put s) (Serves l r) ≡ lift_out put (g.machine.happens w s (Serves l r))
  pub starts : (u : units.Unit) (by : Option C) (r : ℕ) → IsSome (g.machine.happens w s (Starts u by r)) → b.machine.happens w (put s) (Starts u (option_map k by) r) ≡ lift_out put (g.machine.happens w s (Starts u by r))
  pub aborts : (u : units.Unit) → IsSome (g.machine.happens w s (Aborts u)) → b.machine.happens w (put s) (Aborts u) ≡ lift_out put (g.machine.happens w s (Aborts u))
  pub ready : (l : ℕ) → mine l ≡ true → b.machine.ready w (put s) l ≡ g.machine.ready w s l
  pub services : (c : C) → b.machine.service_of (k c) ≡ g.machine.service_of c
  pub reporting : (c : C) → b.machine.reporting (k c) ≡ g.machine.reporting c
  pub polls : (c : C) → b.machine.polls w (put s) (k c) ≡ g.machine.polls w s c
  pub polled : (c : C) → list_all mine (g.machine.polls w s c) ≡ true
  pub shows : (p : Origin C) (n : Notice) (chip : Chip) → IsMine mine p → g.shows p n chip s → b.shows (lift_origin k p) n chip (put s)
  pub halves : (c : C) → b.halves (k c) ≡ g.halves c
  pub must : (c : C) → b.must (k c) ≡ g.must c
  pub may : (p : Origin C) (made : Move) → IsMine mine p → b.may (lift_origin k p) made ≡ g.may p made
  pub window : (p : Origin C) → IsMine mine p → b.window_of (lift_origin k p) ≡ g.window_of p

module _ {S C U E : Type 0} (g : Setting S C) (b : Setting U E) (put : S → U) (k : C → E) (mine : ℕ → Bool) (w : World) (s : S) (lies : LiesIn g b put k mine w s) where
  error-lifted : (c : C) (e : Option ErrorName) → report_of b.machine (k c) e ≡ report_of g.machine c e
  error-lifted c None = refl
  error-lifted c (Some e) = ap (λ x. report_as x e (reported (b.machine.reporting (k c)) e)) (lies.services c) ∙ ap (λ x. report_as (g.machine.service_of c) e (reported x e)) (lies.reporting c)

  same-report : (p : Origin C) (r : Option DevError) (e : Option Event) (x : Option (Outcome S)) → report_by b.machine (lift_origin k p) r e (lift_out put x) ≡ report_by g.machine p r e x
  same-report (Called c) r None x = refl
  same-report (Called c) r (Some Act) None = refl
  same-report (Called c) r (Some Act) (Some out) = error-lifted c out.told.error
  same-report (Called c) r (Some (Serve j)) x = refl
  same-report (Called c) r (Some (Abort u)) x = refl
  same-report (Called c) r (Some (Start u)) x = refl
  same-report (Entered l) r None x = refl
  same-report (Entered l) r (Some Act) x = refl
  same-report (Entered l) r (Some (Serve j)) x = refl
  same-report (Entered l) r (Some (Abort u)) x = refl
  same-report (Entered l) r (Some (Start u)) x = refl

  asks-lifted : (p : Origin C) (e : Option Event) (x : Option (Outcome S)) → asks_reset b.machine (lift_origin k p) e (lift_out put x) ≡ asks_reset g.machine p e x
  asks-lifted (Called c) None x = refl
  asks-lifted (Called c) (Some Act) None = refl
  asks-lifted (Called c) (Some Act) (Some out) = ap (λ x. is_reset_service x && not (is_some out.told.error)) (lies.services c)
  asks-lifted (Called c) (Some (Serve j)) x = refl
  asks-lifted (Called c) (Some (Abort u)) x = refl
  asks-lifted (Called c) (Some (Start u)) x = refl
  asks-lifted (Entered l) e x = refl

  -- the lines that are polled
  same-polled : (p : Origin C) (ls : List ℕ) (e : Option Event) → polled_by b.machine w (put s) (lift_origin k p) ls e ≡ polled_by g.machine w s p ls e
  same-polled (Called c) ls None = refl
  same-polled (Called c) ls (Some Act) = lies.polls c
  same-polled (Called c) ls (Some (Serve j)) = refl
  same-polled (Called c) ls (Some (Abort u)) = refl
  same-polled (Called c) ls (Some (Start u)) = refl
  same-polled (Entered l) ls None = refl
  same-polled (Entered l) ls (Some Act) = refl
  same-polled (Entered l) ls (Some (Serve j)) = refl
  same-polled (Entered l) ls (Some (Abort u)) = refl
  same-polled (Entered l) ls (Some (Start u)) = refl

  all-polled : (p : Origin C) (ls : List ℕ) (e : Option Event) → list_all mine ls ≡ true → list_all mine (polled_by g.machine w s p ls e) ≡ true
  all-polled (Called c) ls None all = all
  all-polled (Called c) ls (Some Act) all = lies.polled c
  all-polled (Called c) ls (Some (Serve j)) all = all
  all-polled (Called c) ls (Some (Abort u)) all = all
  all-polled (Called c) ls (Some (Start u)) all = all
  all-polled (Entered l) ls None all = all
  all-polled (Entered l) ls (Some Act) all = all
  all-polled (Entered l) ls (Some (Serve j)) all = all
  all-polled (Entered l) ls (Some (Abort u)) all = all
  all-polled (Entered l) ls (Some (Start u)) all = all

  out-by : (o : Open C) (p : Origin C) (r : Brought) (e : Event) → IsMine mine p → IsOwnEvent g.machine w s o e p → IsSome (outcome_of g.machine w s (happening_of p r e)) → outcome_of b.machine w (put s) (happening_of (lift_origin k p) r e) ≡ lift_out put (outcome_of g.machine w s (happening_of p r e))
  out-by o (Called c) r Act m own some = lies.acts c r.committed
  out-by o (Called c) r (Serve l) m own some = lies.serves l r.received (all-has mine (g.machine.polls w s c) l (lies.polled c) own.0.0)
  out-by o (Called c) r (Abort u) m own some = lies.aborts u some
  out-by o (Called c) r (Start u) m own some = lies.starts u (Some c) r.received some
  out-by o (Entered l) r Act m own some = absurd own
  out-by o (Entered l) r (Serve j) m own some = lies.serves j r.received (ap mine own.0 ∙ m)
  out-by o (Entered l) r (Abort u) m own some = lies.aborts u some
  out-by o (Entered l) r (Start u) m own some = lies.starts u None r.received some

  pub out-at : (o : Open C) (chip : Chip) (st : Stepped) (e : Option Event) → IsMine mine o.origin → EventRight g (record { chip = chip; world = w; state = s; opens = []; steps = 0 }) o st e → outcome_of b.machine w (put s) (happening_at (lift_origin k o.origin) (brought_by w o.committed st.made st.received) e) ≡ lift_out put (outcome_at g.machine w s o st.made st.received e)
  out-at o chip st None m right = refl
  out-at o chip st (Some e) m right = out-by o o.origin (brought_by w o.committed st.made st.received) e m right.0 right.2

  uncalled-lifted : (u : units.Unit) (acted : Option Answer) → StartsUncalled g.machine w s u acted → StartsUncalled b.machine w (put s) u acted
  uncalled-lifted u None h = tt
  uncalled-lifted u (Some answer) h = λ r. subst (λ x. IsSome x) (sym (lies.starts u None r (h r))) (some-lifted put (g.machine.happens w s (Starts u None r)) (h r))

  own-lifted : (o : Open C) (missed : ℕ → Bool) (e : Event) (p : Origin C) → IsOwnEvent g.machine w s o e p → IsOwnEvent b.machine w (put s) (lift_open k missed o) e (lift_origin k p)
  own-lifted o missed Act (Called c) own = own
  own-lifted o missed Act (Entered l) own = own
  own-lifted o missed (Serve j) (Called c) own = (subst (λ x. IsNext x o.served j) (sym (lies.polls c)) own.0, own.1, own.2)
  own-lifted o missed (Serve j) (Entered l) own = own
  own-lifted o missed (Abort u) (Called c) own = own
  own-lifted o missed (Abort u) (Entered l) own = own
  own-lifted o missed (Start u) (Called c) own = (own.0, uncalled-lifted u o.acted own.1)
  own-lifted o missed (Start u) (Entered l) own = (own.0, uncalled-lifted u o.acted own.1)

  event-lifted : (o : Open C) (missed : ℕ → Bool) (chip : Chip) (st : Stepped) (e : Option Event) → IsMine mine o.origin → EventRight g (record { chip = chip; world = w; state = s; opens = []; steps = 0 }) o st e → EventRight b (record { chip = chip; world = w; state = put s; opens = []; steps = 0 }) (lift_open k missed o) st e
  event-lifted o missed chip st None m right = tt
  event-lifted o missed chip st (Some e) m right =
      (own-lifted o missed e o.origin right.0, right.1, subst (λ x. IsSome x) (sym (out-by o o.origin (brought_by w o.committed st.made st.received) e m right.0 right.2)) (some-lifted put (outcome_at g.machine w s o st.made st.received (Some e)) right.2))

  halves-lifted : (p : Origin C) → halves_of b (lift_origin k p) ≡ halves_of g p
  halves-lifted (Called c) = lies.halves c
  halves-lifted (Entered l) = refl

  together-lifted : (p : Origin C) (inside : Bool) (since : List Move) (acts : Bool) (made : Move) → WindowRight (is_beside_act g.machine p) inside since acts made → WindowRight (is_beside_act b.machine (lift_origin k p)) inside since acts made
  together-lifted (Called c) inside since acts made h = subst (λ x. WindowRight (is_beside x) inside since acts made) (sym (lies.services c)) h
  together-lifted (Entered l) inside since acts made h = h

  shows-first : (owed : List Owing) (chip : Chip) (p : Origin C) → IsMine mine p → ShowsFirst (g.shows p) chip s owed → ShowsFirst (b.shows (lift_origin k p)) chip (put s) owed
  shows-first [] chip p m h = tt
  shows-first (x ∷ xs) chip p m h = λ e. lies.shows p x.notice chip m (h e)

  shows-lifted : (owed : List Owing) (chip : Chip) (p : Origin C) (made : Move) → IsMine mine p → ShowsRight g chip s p owed made → ShowsRight b chip (put s) (lift_origin k p) owed made
  shows-lifted owed chip p (Note n) m h = shows-first owed chip p m h
  shows-lifted owed chip p Mask m h = tt
  shows-lifted owed chip p Unmask m h = tt
  shows-lifted owed chip p (Report e) m h = tt
  shows-lifted owed chip p (Read r) m h = tt
  shows-lifted owed chip p (Write r v) m h = tt
  shows-lifted owed chip p (Load j) m h = tt
  shows-lifted owed chip p (Store j v) m h = tt

  met-lifted : (o : Open C) (missed : ℕ → Bool) → SameOn mine missed o.missed → (l : ℕ) → mine l ≡ true → has_met (lift_open k missed o) l ≡ has_met o l
  met-lifted o missed same l m = ap (λ x. has_line o.served l || x) (same l m)

  may-lifted : (o : Open C) (missed : ℕ → Bool) (p : Origin C) (a : Answer) → IsMine mine p → list_all mine o.polled ≡ true → SameOn mine missed o.missed → MayEnd p o a → MayEnd (lift_origin k p) (lift_open k missed o) a
  may-lifted o missed (Called c) a m all same h = (h.0, all-same mine (has_met o) (has_met (lift_open k missed o)) o.polled (met-lifted o missed same) all h.1)
  may-lifted o missed (Entered l) a m all same h = (met-lifted o missed same l m ∙ h.0, h.1)

  end-lifted : (o : Open C) (missed : ℕ → Bool) (ended : Option Answer) → IsMine mine o.origin → list_all mine o.polled ≡ true → SameOn mine missed o.missed → EndRight o ended → EndRight (lift_open k missed o) ended
  end-lifted o missed None m all same h = tt
  end-lifted o missed (Some a) m all same h = (may-lifted o missed o.origin a m all same h.0, h.1, h.2, h.3, h.4)

  made-lifted : (p : Origin C) (writes : List Move) (at : Option ActedAt) → HasMade g p writes at → HasMade b (lift_origin k p) writes at
  made-lifted (Called c) writes None h = tt
  made-lifted (Called c) writes (Some at) h = subst (λ kinds. MadeUnless at.error kinds writes) (sym (lies.must c)) h
  made-lifted (Entered l) writes at h = tt

  writes-lifted : (o : Open C) (missed : ℕ → Bool) (ended : Option Answer) → WritesRight g o ended → WritesRight b (lift_open k missed o) ended
  writes-lifted o missed None h = tt
  writes-lifted o missed (Some a) h = made-lifted o.origin o.writes o.acted_at h

  left-lifted : (s1 : S) → ((l : ℕ) → mine l ≡ true → b.machine.line_waits w (put s1) l ≡ g.machine.line_waits w s1 l) → (served : List ℕ) (l : ℕ) → mine l ≡ true → is_left_waiting b.machine w (put s1) served l ≡ is_left_waiting g.machine w s1 served l
  left-lifted s1 waits served l m = ap (λ x. has_line served l && x) (waits l m)

  none-lifted : (s1 : S) → ((l : ℕ) → mine l ≡ true → b.machine.line_waits w (put s1) l ≡ g.machine.line_waits w s1 l) → (polled served : List ℕ) (p : Origin C) → IsMine mine p → list_all mine polled ≡ true → LeavesNone g.machine w s1 p polled served → LeavesNone b.machine w (put s1) (lift_origin k p) polled served
  none-lifted s1 waits polled served (Called c) m all h = all-same mine (λ l. not (is_left_waiting g.machine w s1 served l)) (λ l. not (is_left_waiting b.machine w (put s1) served l)) polled (λ l i. ap not (left-lifted s1 waits served l i)) all h
  none-lifted s1 waits polled served (Entered l) m all h = left-lifted s1 waits served l m ∙ h

  starts-lifted : (s1 : S) → ((l : ℕ) → mine l ≡ true → b.machine.line_waits w (put s1) l ≡ g.machine.line_waits w s1 l) → (o : Open C) (missed : ℕ → Bool) (ended : Option Answer) → IsMine mine o.origin → list_all mine o.polled ≡ true → StartsRight g.machine w s1 o ended → StartsRight b.machine w (put s1) (lift_open k missed o) ended
  starts-lifted s1 waits o missed None m all h = tt
  starts-lifted s1 waits o missed (Some a) m all h = none-lifted s1 waits o.polled o.served o.origin m all h

  missed-lifted : (missed missed1 : ℕ → Bool) → SameOn mine missed missed1 → SameOn mine (missed_after b.machine w (put s) missed) (missed_after g.machine w s missed1)
  missed-lifted missed missed1 same l m = ap (λ x. x || not (b.machine.ready w (put s) l)) (same l m) ∙ ap (λ x. missed1 l || not x) (lies.ready l m)

  abbrev parts : (o : Open C) (made : Move) (e : Option Event) (missed : ℕ → Bool) → Option Answer → Option ActedAt → List ℕ → List Owing → Option DevError → Open E
  parts o made e missed acted at polled owed report = record {
    origin = lift_origin k o.origin;
    tag = o.tag;
    acted = acted;
    acted_at = at;
    polled = polled;
    served = served_by o.served e;
    missed = missed;
    committed = committed_after w o.committed made;
    reads = reads_after o.reads made;
    wrote = o.wrote || is_write made;
    writes = writes_after o.writes made;
    owed = owed_after owed made;
    report = report_after report made;
    inside = inside_after o.inside made;
    since = since_after o.since made;
    acts_since = acts_after o.acts_since made e;
    steps = o.steps + 1;
    window = window_after o.inside o.window made;
    noted = is_note made;
  }

  -- what the frame has done after the step
  open-lifted : (o : Open C) (missed : ℕ → Bool) (made : Move) (r : ℕ) (e : Option Event) → outcome_of b.machine w (put s) (happening_at (lift_origin k o.origin) (brought_by w o.committed made r) e) ≡ lift_out put (outcome_at g.machine w s o made r e) → open_after b.machine w (put s) (lift_open k missed o) made r e ≡ lift_open k (missed_after b.machine w (put s) missed) (open_after g.machine w s o made r e)
  open-lifted o missed made r e is =
      let x = outcome_at g.machine w s o made r e in
      let y = outcome_of b.machine w (put s) (happening_at (lift_origin k o.origin) (brought_by w o.committed made r) e) in
      let later = missed_after b.machine w (put s) missed in
      let polled = polled_by b.machine w (put s) (lift_origin k o.origin) o.polled e in
      let acted_is : acted_by o.acted e y ≡ acted_by o.acted e x = ap (acted_by o.acted e) is ∙ same-acted put o.acted e x in
      let owed_is : owed_by o.owed e y ≡ owed_by o.owed e x = ap (owed_by o.owed e) is ∙ same-owed put o.owed e x in
      let report_is : report_by b.machine (lift_origin k o.origin) o.report e y ≡ report_by g.machine o.origin o.report e x = ap (report_by b.machine (lift_origin k o.origin) o.report e) is ∙ same-report o.origin o.report e x in
      let at = acted_at_by (lift_origin k o.origin) o.inside made o.acted_at e y in
      let at1 = acted_at_by o.origin o.inside made o.acted_at e x in
      let at_is : at ≡ at1 = ap (acted_at_by (lift_origin k o.origin) o.inside made o.acted_at e) is ∙ same-acted-at k put o.origin o.inside made o.acted_at e x in
      ap (λ a. parts o made e later a at polled (owed_by o.owed e y) (report_by b.machine (lift_origin k o.origin) o.report e y)) acted_is
      ∙ (ap (λ a. parts o made e later (acted_by o.acted e x) a polled (owed_by o.owed e y) (report_by b.machine (lift_origin k o.origin) o.report e y)) at_is
      ∙ (ap (λ a. parts o made e later (acted_by o.acted e x) at1 a (owed_by o.owed e y) (report_by b.machine (lift_origin k o.origin) o.report e y)) (same-polled o.origin o.polled e)
      ∙ (ap (λ a. parts o made e later (acted_by o.acted e x) at1 (polled_by g.machine w s o.origin o.polled e) a (report_by b.machine (lift_origin k o.origin) o.report e y)) owed_is
      ∙ ap (λ a. parts o made e later (acted_by o.acted e x) at1 (polled_by g.machine w s o.origin o.polled e) (owed_by o.owed e x) a) report_is)))

-- a step of a member's frame, in the larger driver
pub lift-keeps : {S C F U E H : Type 0} (d : Driver S C F) (big : Driver U E H) (put : S → U) (k : C → E) (into : F → H) (mine : ℕ → Bool) (chip : Chip) (w : World) (s : S) (f later : F) (o : Open C) (missed : ℕ → Bool) (st : Stepped) (Kept : S → Open C → Type 0) (Big : U → Open E → Type 0)
    → LiesIn d.setting big.setting put k mine w s
    → ((x : F) → big.fuel (into x) ≡ d.fuel x)
    → ((x : F) → big.room (into x) ≡ d.room x)
    → IsMine mine o.origin
    → list_all mine o.polled ≡ true
    → SameOn mine missed o.missed
    → ((s1 : S) (l : ℕ) → mine l ≡ true → big.setting.machine.line_waits w (put s1) l ≡ d.setting.machine.line_waits w s1 l)
    → ((s1 : S) (o1 : Open C) (missed1 : ℕ → Bool) → o1.origin ≡ o.origin → list_all mine o1.polled ≡ true → SameOn mine missed1 o1.missed → Kept s1 o1 → Big (put s1) (lift_open k missed1 o1))
    → KeepsStep d (record { chip = chip; world = w; state = s; opens = []; steps = 0 }) f o later st Kept
    → KeepsStep big (record { chip = chip; world = w; state = put s; opens = []; steps = 0 }) (into f) (lift_open k missed o) (into later) st Big
lift-keeps d big put k into mine chip w s f later o missed st Kept Big lies fuels rooms m all same waits grow h =
    let g = d.setting in
    let b = big.setting in
    let x = outcome_at g.machine w s o st.made st.received st.event in
    let y = outcome_at b.machine w (put s) (lift_open k missed o) st.made st.received st.event in
    let is : y ≡ lift_out put x = out-at g b put k mine w s lies o chip st st.event m h.event in
    let o1 = open_after g.machine w s o st.made st.received st.event in
    let missed1 = missed_after b.machine w (put s) missed in
    let same1 : SameOn mine missed1 o1.missed = missed-lifted g b put k mine w s lies missed o.missed same in
    let all1 : list_all mine o1.polled ≡ true = all-polled g b put k mine w s lies o.origin o.polled st.event all in
    let o_is = open-lifted g b put k mine w s lies o missed st.made st.received st.event is in
    let report_is : report_by b.machine (lift_origin k o.origin) o.report st.event y ≡ report_by g.machine o.origin o.report st.event x = ap (report_by b.machine (lift_origin k o.origin) o.report st.event) is ∙ same-report g b put k mine w s lies o.origin o.report st.event x in
    let state_is : state_by (put s) y ≡ put (state_by s x) = ap (state_by (put s)) is ∙ same-state put s x in
    record {
      event = event-lifted g b put k mine w s lies o missed chip st st.event m h.event;
      sends = subst (λ a. SendsRight chip a st.made) (sym (ap begun_by is ∙ same-begun put x)) h.sends;
      halves = subst (λ a. HalvesRight (halves_of b (lift_origin k o.origin)) a.reads a.acted_at) (sym o_is) (subst (λ a. HalvesRight a o1.reads o1.acted_at) (sym (halves-lifted g b put k mine w s lies o.origin)) h.halves);
      together = together-lifted g b put k mine w s lies o.origin o.inside o.since (o.acts_since || is_act st.event) st.made h.together;
      errors = subst (λ a. ErrorsRight a.wrote a.acted_at) (sym o_is) h.errors;
      shows = shows-lifted g b put k mine w s lies o.owed chip o.origin st.made m h.shows;
      stays = h.stays;
      move = subst (λ r. MoveRight o.inside o.owed r st.made) (sym report_is) h.move;
      ends = subst (λ a. EndRight a st.ended) (sym o_is) (end-lifted g b put k mine w s lies o1 missed1 st.ended m all1 same1 h.ends);
      starts = subst (λ a. StartsRight b.machine w (state_by (put s) y) a st.ended) (sym o_is) (subst (λ z. StartsRight b.machine w z (lift_open k missed1 o1) st.ended) (sym state_is) (starts-lifted g b put k mine w s lies (state_by s x) (waits (state_by s x)) o1 missed1 st.ended m all1 h.starts));
      writes = subst (λ a. WritesRight b a st.ended) (sym o_is) (writes-lifted g b put k mine w s lies o1 missed1 st.ended h.writes);
      own = ap (λ a. is_shared st.made || a) (lies.may o.origin st.made m) ∙ h.own;
      reset = h.reset ∙ (sym (asks-lifted g b put k mine w s lies o.origin st.event x) ∙ sym (ap (asks_reset b.machine (lift_origin k o.origin) st.event) is));
      fuel = subst (λ n. FuelRight n (big.fuel (into later)) st.ended) (sym (fuels f)) (subst (λ n. FuelRight (d.fuel f) n st.ended) (sym (fuels later)) h.fuel);
      room = subst (λ n. RoomRight n o.inside (big.room (into f)) (big.room (into later)) st.made) (sym (lies.window o.origin m))
          (subst (λ n. RoomRight (g.window_of o.origin) o.inside n (big.room (into later)) st.made) (sym (rooms f)) (subst (λ n. RoomRight (g.window_of o.origin) o.inside (d.room f) n st.made) (sym (rooms later)) h.room));
      kept = subst (λ a. Big a (open_after b.machine w (put s) (lift_open k missed o) st.made st.received st.event)) (sym state_is) (subst (λ a. Big (put (state_by s x)) a) (sym o_is) (grow (state_by s x) o1 missed1 refl all1 same1 h.kept));
    }
