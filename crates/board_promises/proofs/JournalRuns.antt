-- The events of a legal journal are a run, and each frame that ends has said what its events told.
use Rattle.std.proofs.Common.{◌≡◌, Bool, List, [], ◌∷◌, ◌++◌, map, Option, Some, None, refl, sym, ◌∙◌, ap, subst, append_assoc, append-nil}
use Rattle.std.specs.Prelude.{IsSome}
use Rattle.mcal_base.specs.declared.answer.Answer.{Answer}
use Rattle.mcal_base.specs.declared.moves.Event as marks
use Rattle.mcal_base.specs.declared.moves.Event.TheVariants.{Act, Serve, Abort, Start}
use Rattle.mcal_base.specs.declared.moves.DevError.{DevError}
use Rattle.mcal_base.specs.declared.moves.Move.{Move}
use Rattle.mcal_base.specs.declared.moves.Move.TheVariants.{Read, Write, Load, Store, Mask, Unmask, Note, Report}
use Rattle.mcal_base.specs.declared.notice.Notice.{Notice}
use Rattle.run_model.specs.declared.item.Stepped.{Stepped}
use Rattle.run_model.specs.Frame.{Origin, Called, Entered, Owing, Open, brought_by, happening_at, outcome_of, outcome_at, state_by, acted_by, is_serving, owing, owed_by, owed_after, rest_of, open_after, top_after}
use Rattle.run_model.specs.Legal.{EventRight, IsLegalStep, LegalStep, IsLegalDeed, IsLegal, MoveRight, Owes, MayEnd, EndRight}
use Rattle.run_model.specs.Machine.{Happening, Moves, Restarts, Outcome}
use Rattle.run_model.specs.Moment.{Setting, Moment, Transition, Begins, Enters, Steps, Happens, Resets, after, after_step, after_all}
use Rattle.run_model.specs.World.{World}
use Rattle.board_promises.specs.whole_runs.Runs.{Event, state_after, AreAllowed, told_or_nothing}
use Rattle.board_promises.specs.whole_runs.Journals.{event_of_step, event_of, with_event, events_of, Said, notices_in, answer_told, said_after, top_said, all_said_after_step, all_said_after, Answered, EndsSaid, StepSaid, DeedSaid, AllSaid}

module _ {State Call : Type 0} (g : Setting State Call) where
  -- ---- events

  abbrev Ran : State → State → List (Event Call) → Type 0
  Ran first s past = (s ≡ state_after g.machine first past) × AreAllowed g.machine first past

  one_more : (first s : State) (w : World) (past : List (Event Call)) (h : Happening Call) → IsSome (g.machine.happens w s h) → Ran first s past → Ran first (state_by s (g.machine.happens w s h)) (record { world = w; what = h } ∷ past)
  one_more first s w past h allowed ran = (ap (λ x. state_by x (g.machine.happens w x h)) ran.0, (subst (λ x. IsSome (g.machine.happens w x h)) ran.0 allowed, ran.1))

  maybe_more : (first s : State) (w : World) (past : List (Event Call)) (h : Option (Happening Call)) → IsSome (outcome_of g.machine w s h) → Ran first s past
      → Ran first (state_by s (outcome_of g.machine w s h)) (with_event w h past)
  maybe_more first s w past None allowed ran = absurd (cc allowed)
  maybe_more first s w past (Some h) allowed ran = one_more first s w past h allowed ran

  by_event : (m : Moment State Call) (o : Open Call) (st : Stepped) (first : State) (past : List (Event Call)) (e : Option marks.Event) → EventRight g m o st e → Ran first m.state past
      → Ran first (state_by m.state (outcome_at g.machine m.world m.state o st.made st.received e)) (with_event m.world (happening_at o.origin (brought_by m.world o.committed st.made st.received) e) past)
  by_event m o st first past None right ran = ran
  by_event m o st first past (Some e) right ran = maybe_more first m.state m.world past (happening_at o.origin (brought_by m.world o.committed st.made st.received) (Some e)) right.2 ran

  by_step : (m : Moment State Call) (os : List (Open Call)) (st : Stepped) (first : State) (past : List (Event Call)) → LegalStep g m os st → Ran first m.state past
      → Ran first (after_step g m os st).state (with_event m.world (event_of_step m os st) past)
  by_step m [] st first past legal ran = absurd legal
  by_step m (o ∷ os) st first past legal ran = by_event m o st first past st.event legal.event ran

  by_deed : (m : Moment State Call) (d : Transition Call) (first : State) (past : List (Event Call)) → IsLegalDeed g m d → Ran first m.state past → Ran first (after g m d).state (with_event m.world (event_of m d) past)
  by_deed m (Begins c level) first past legal ran = ran
  by_deed m (Enters l) first past legal ran = ran
  by_deed m (Steps st) first past legal ran = by_step m m.opens st first past legal ran
  by_deed m (Happens order) first past legal ran = one_more first m.state m.world past (Moves order) legal.1 ran
  by_deed m (Resets reason) first past legal ran = one_more first m.state m.world past (Restarts reason) legal ran

  pub events_run : (first : State) (m : Moment State Call) (past : List (Event Call)) (ds : List (Transition Call)) → IsLegal g m ds → Ran first m.state past → Ran first (after_all g m ds).state (events_of g m past ds)
  events_run first m past [] legal ran = ran
  events_run first m past (d ∷ ds) legal ran = events_run first (after g m d) (with_event m.world (event_of m d) past) ds legal.3 (by_deed m d first past legal.2 ran)

  -- ---- what frames say

  abbrev notices_of : List Owing → List Notice
  notices_of ns = map (λ k. k.notice) ns

  -- a frame has given what its events told, but for what it owes
  record IsSaid (x : Said) (o : Open Call) : Type 0 where
    answer : x.answer ≡ o.acted
    told : x.told ≡ x.given ++ notices_of o.owed

  abbrev AreSaid : List Said → List (Open Call) → Type 0
  AreSaid [] [] = Unit {0}
  AreSaid [] (o ∷ os) = ⊥
  AreSaid (x ∷ xs) [] = ⊥
  AreSaid (x ∷ xs) (o ∷ os) = IsSaid x o × AreSaid xs os

  same_answer : (a : Option Answer) (e : Option marks.Event) (out : Option (Outcome State)) → answer_told a e out ≡ acted_by a e out
  same_answer a None out = refl
  same_answer a (Some Act) None = refl
  same_answer a (Some Act) (Some out) = refl
  same_answer a (Some (Serve k)) out = refl
  same_answer a (Some (Abort u)) out = refl
  same_answer a (Some (Start u)) out = refl

  owing_notices : (b : Bool) (ns : List Notice) → notices_of (owing b ns) ≡ ns
  owing_notices b [] = refl
  owing_notices b (n ∷ ns) = ap (λ ks. n ∷ ks) (owing_notices b ns)

  joined_notices : (xs ys : List Owing) → notices_of (xs ++ ys) ≡ notices_of xs ++ notices_of ys
  joined_notices [] ys = refl
  joined_notices (x ∷ xs) ys = ap (λ ks. x.notice ∷ ks) (joined_notices xs ys)

  owed_notices : (ns : List Owing) (e : Option marks.Event) (out : Option (Outcome State)) → notices_of (owed_by ns e out) ≡ notices_of ns ++ (told_or_nothing out).notices
  owed_notices ns e None = sym (append-nil (notices_of ns))
  owed_notices ns e (Some out) = joined_notices ns (owing (is_serving e) out.told.notices) ∙ ap (λ ks. notices_of ns ++ ks) (owing_notices (is_serving e) out.told.notices)

  -- with a move that is no notice
  plain_told : (told given new : List Notice) (ns : List Owing) (e : Option marks.Event) (out : Option (Outcome State)) → told ≡ given ++ notices_of ns → told ++ (told_or_nothing out).notices ≡ (given ++ []) ++ notices_of (owed_by ns e out)
  plain_told told given new ns e out h =
      ap (λ ks. ks ++ (told_or_nothing out).notices) h
      ∙ append_assoc given (notices_of ns) (told_or_nothing out).notices
      ∙ ap (λ ks. given ++ ks) (sym (owed_notices ns e out))
      ∙ ap (λ ks. ks ++ notices_of (owed_by ns e out)) (sym (append-nil given))

  -- with the next notice that is owed
  note_told : (told given : List Notice) (n : Notice) (ns : List Owing) (e : Option marks.Event) (out : Option (Outcome State)) → told ≡ given ++ notices_of ns → Owes ns n
      → told ++ (told_or_nothing out).notices ≡ (given ++ n ∷ []) ++ notices_of (rest_of (owed_by ns e out))
  note_told told given n [] e out h owes = absurd owes
  note_told told given n (k ∷ ks) e out h owes =
      ap (λ xs. xs ++ (told_or_nothing out).notices) h
      ∙ append_assoc given (notices_of (k ∷ ks)) (told_or_nothing out).notices
      ∙ ap (λ xs. given ++ xs) (by_out out)
      ∙ sym (append_assoc given (n ∷ []) (notices_of (rest_of (owed_by (k ∷ ks) e out))))
    where
      by_out : (out : Option (Outcome State)) → notices_of (k ∷ ks) ++ (told_or_nothing out).notices ≡ (n ∷ []) ++ notices_of (rest_of (owed_by (k ∷ ks) e out))
      by_out None = append-nil (notices_of (k ∷ ks)) ∙ ap (λ x. x ∷ notices_of ks) owes
      by_out (Some out) = ap (λ x. x ∷ (notices_of ks ++ out.told.notices)) owes ∙ ap (λ xs. n ∷ xs) (sym (joined_notices ks (owing (is_serving e) out.told.notices) ∙ ap (λ xs. notices_of ks ++ xs) (owing_notices (is_serving e) out.told.notices)))

  told_after : (inside : Bool) (report : Option DevError) (made : Move) (told given : List Notice) (ns : List Owing) (e : Option marks.Event) (out : Option (Outcome State)) → told ≡ given ++ notices_of ns → MoveRight inside ns report made
      → told ++ (told_or_nothing out).notices ≡ (given ++ notices_in made) ++ notices_of (owed_after (owed_by ns e out) made)
  told_after inside report (Note n) told given ns e out h right = note_told told given n ns e out h right.1
  told_after inside report (Report x) told given ns e out h right = plain_told told given [] ns e out h
  told_after inside report Mask told given ns e out h right = plain_told told given [] ns e out h
  told_after inside report Unmask told given ns e out h right = plain_told told given [] ns e out h
  told_after inside report (Read r) told given ns e out h right = plain_told told given [] ns e out h
  told_after inside report (Write r v) told given ns e out h right = plain_told told given [] ns e out h
  told_after inside report (Load k) told given ns e out h right = plain_told told given [] ns e out h
  told_after inside report (Store k v) told given ns e out h right = plain_told told given [] ns e out h

  -- the top frame after a legal step
  top_after_step : (m : Moment State Call) (o : Open Call) (os : List (Open Call)) (st : Stepped) (x : Said) → IsLegalStep g m o st → IsSaid x o
      → IsSaid (said_after g m (o ∷ os) st x) (open_after g.machine m.world m.state o st.made st.received st.event)
  top_after_step m o os st x legal said =
      let out : Option (Outcome State) = outcome_at g.machine m.world m.state o st.made st.received st.event in
      record {
        answer = same_answer x.answer st.event out ∙ ap (λ a. acted_by a st.event out) said.answer;
        told = told_after o.inside _ st.made x.told x.given o.owed st.event out said.told legal.move;
      }

  -- a frame that ends
  ends_said : (o o1 : Open Call) (ended : Option Answer) (x : Said) → o1.origin ≡ o.origin → EndRight o1 ended → IsSaid x o1 → EndsSaid o.origin ended x
  ends_said o o1 None x origin right said = tt
  ends_said o o1 (Some answer) x origin right said = (
    by_origin o.origin (subst (λ k. MayEnd k o1 answer) origin right.0),
    sym (said.told ∙ ap (λ ns. x.given ++ notices_of ns) right.1 ∙ append-nil x.given),
  )
    where
      by_origin : (k : Origin Call) → MayEnd k o1 answer → Answered k answer x.answer
      by_origin (Called c) may = said.answer ∙ may.0
      by_origin (Entered l) may = tt

  step_said : (m : Moment State Call) (os : List (Open Call)) (st : Stepped) (xs : List Said) → LegalStep g m os st → AreSaid xs os → StepSaid g m os st xs
  step_said m [] st xs legal said = tt
  step_said m (o ∷ os) st [] legal said = said
  step_said m (o ∷ os) st (x ∷ xs) legal said =
      ends_said o (open_after g.machine m.world m.state o st.made st.received st.event) st.ended (said_after g m (o ∷ os) st x) refl legal.ends (top_after_step m o os st x legal said.0)

  -- the frames after a step
  rest_said : (x : Said) (o : Open Call) (ended : Option Answer) (xs : List Said) (os : List (Open Call)) → IsSaid x o → AreSaid xs os → AreSaid (top_said x ended xs) (top_after o ended os)
  rest_said x o None xs os one all = (one, all)
  rest_said x o (Some answer) xs os one all = all

  said_step : (m : Moment State Call) (os : List (Open Call)) (st : Stepped) (xs : List Said) → m.opens ≡ os → LegalStep g m os st → AreSaid xs os → AreSaid (all_said_after_step g m st xs) (after_step g m os st).opens
  said_step m [] st xs same legal said = absurd legal
  said_step m (o ∷ os) st [] same legal said = absurd said
  said_step m (o ∷ os) st (x ∷ xs) same legal said =
      subst (λ ks. AreSaid (top_said (said_after g m ks st x) st.ended xs) (after_step g m (o ∷ os) st).opens) (sym same)
      (rest_said (said_after g m (o ∷ os) st x) (open_after g.machine m.world m.state o st.made st.received st.event) st.ended xs os (top_after_step m o os st x legal said.0) said.1)

  said_deed : (m : Moment State Call) (d : Transition Call) (xs : List Said) → IsLegalDeed g m d → AreSaid xs m.opens → AreSaid (all_said_after g m d xs) (after g m d).opens
  said_deed m (Begins c level) xs legal said = (record { answer = refl; told = refl }, said)
  said_deed m (Enters l) xs legal said = (record { answer = refl; told = refl }, said)
  said_deed m (Steps st) xs legal said = said_step m m.opens st xs refl legal said
  said_deed m (Happens order) xs legal said = said
  said_deed m (Resets reason) xs legal said = tt

  deed_said : (m : Moment State Call) (d : Transition Call) (xs : List Said) → IsLegalDeed g m d → AreSaid xs m.opens → DeedSaid g m d xs
  deed_said m (Begins c level) xs legal said = tt
  deed_said m (Enters l) xs legal said = tt
  deed_said m (Steps st) xs legal said = step_said m m.opens st xs legal said
  deed_said m (Happens order) xs legal said = tt
  deed_said m (Resets reason) xs legal said = tt

  all_said : (m : Moment State Call) (xs : List Said) (ds : List (Transition Call)) → IsLegal g m ds → AreSaid xs m.opens → AllSaid g m xs ds
  all_said m xs [] legal said = tt
  all_said m xs (d ∷ ds) legal said = (deed_said m d xs legal.2 said, all_said (after g m d) (all_said_after g m d xs) ds legal.3 (said_deed m d xs legal.2 said))

  pub frames_say : (m : Moment State Call) (ds : List (Transition Call)) → m.opens ≡ [] → IsLegal g m ds → AllSaid g m [] ds
  frames_say m ds none legal = all_said m [] ds legal (subst (λ os. AreSaid [] os) (sym none) tt)
