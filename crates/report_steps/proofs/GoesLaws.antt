-- A step whose event the machines were told: each test on the way is one of whether it is made.
use Rattle.std.proofs.Common.{◌≡◌, ℕ, Bool, true, false, ◌==◌, List, [], ◌∷◌, ◌++◌, Option, Some, None, refl, sym, ◌∙◌, ap, subst}
use Rattle.std.specs.Prelude.{cond, option_map, if◌then◌else◌}
use Rattle.bench_report.specs.Numbers.{AnswerFits, HasEventNumber, HasMoveNumbers, IsNumber, StepFits}
use Rattle.bench_report.specs.Report.{end_lines, move_lines}
use Rattle.chip_model.specs.Chip.{value_of}
use Rattle.mcal_base.specs.declared.answer.Answer.{Answer}
use Rattle.mcal_base.specs.declared.moves.Event.{Event}
use Rattle.mcal_base.specs.facts.Numbers.{eq_from, eq_is}
use Rattle.mcal_base.specs.facts.Truths.{and_first, and_second, off_on}
use Rattle.run_model.specs.Frame.{Open}
use Rattle.run_model.specs.Legal.{IsServed, SendsRight}
use Rattle.run_model.specs.Machine.{Told}
use Rattle.run_model.specs.Moment.{Setting, Steps, after}
use Rattle.run_model.specs.declared.item.Stepped.{Stepped}
use Rattle.audit_base.specs.Deeds.{begun_of}
use Rattle.audit_frames.specs.Decides.{Decides}
use Rattle.audit_frames.specs.FrameRules.{step_right}
use Rattle.audit_frames.specs.Kept.{Kept}
use Rattle.audit_frames.specs.StackRules.{StandAll, top_right}
use Rattle.audit_frames.specs.Told.{step_of}
use Rattle.audit_frames.specs.declared.terms.Step.{Step}
use Rattle.audit_frames.proofs.Deciding.{and_join}
use Rattle.audit_subject.specs.declared.hearing.Heard.{Heard}
use Rattle.report_text.specs.reading.Blocks.{AuditState}
use Rattle.report_text.specs.Unread.{Unread, own_text}
use Rattle.trace_reader.specs.declared.told.Step as read
use Rattle.report_auditor.specs.Auditing.{Auditing, Stands, StillSeen, purposes_by}
use Rattle.report_auditor.specs.ChipRules.{sends_right}
use Rattle.report_auditor.specs.Seeing.{Agreeing}
use Rattle.report_auditor.proofs.ChipLaws.{sends}
use Rattle.report_steps.specs.Lines.{TakesLines}
use Rattle.report_steps.specs.StepParts.{ComesNow, HasMoved, IsEarly, IsHeard, Moves, TakesEnd, counting, end_answer, end_by, event_at, moves_right, step_told}
use Rattle.report_steps.specs.StepRules.{IsMade, MakesStep, lines_behind, stepped_to}
use Rattle.report_steps.specs.declared.made.Made.{Made}
use Rattle.report_steps.proofs.ComeLaws.{fails}
use Rattle.report_steps.proofs.StepAll.{is_made, not_moved, not_said, not_sent, only_one}
use Rattle.report_steps.proofs.StepMade.{answer_where, counting_on, ends_is}
use Rattle.report_steps.proofs.StepText.{EndTaken}

-- ---- the newest frame

record Top (frames : List Kept) : Type 0 where
  pub k : Kept
  pub ks : List Kept
  pub is : frames ≡ k ∷ ks

top_kept : {State Call : Type 0} (g : Setting State Call) (frames : List Kept) (o : Open Call) (os : List (Open Call)) → StandAll g frames (o ∷ os) → Top frames
top_kept g [] o os h = absurd h
top_kept g (k ∷ ks) o os h = record { k = k; ks = ks; is = refl }

-- ---- the line of its end

end_taken : (ks : List Kept) (e : Option Event) (t : Told) (ended : Bool) (before after : Unread) → TakesEnd ks e t ended before after → EndTaken before.number ks e t ended (own_text before) (own_text after)
end_taken ks e t true before after h = record { answers = λ on. h.0; taken = λ on. h.1.text; left = λ off. off_on (sym off); missing = λ off. off_on (sym off) }
end_taken ks e t false before after h = record { answers = λ on. off_on on; taken = λ on. off_on on; left = λ off. sym (ap own_text h.0); missing = λ off some more. h.1 some more }

-- its numbers
fits_where : (ends : Bool) (x : Option Answer) → AnswerFits x → AnswerFits (cond ends x None)
fits_where true x h = h
fits_where false x h = tt

-- its line, where it ends
line_where : (ended : Bool) (ks : List Kept) (e : Option Event) (t : Told) → (if ended then end_by ks e t else []) ≡ end_lines (purposes_by ks) (answer_where ended ks e t)
line_where true ks e t = refl
line_where false ks e t = refl

-- the step that was made behind lines that were counted one after another
pub moves_from : {Parts Call : Type 0} (a a1 a2 b : Auditing Parts Call) (r : read.Step) (event : Option Event) (h : Heard) (ended right is : Bool) → right ≡ is → a1 ≡ counting (move_lines r.made) a → a2 ≡ counting (if ended then end_by a1.frames event h.told else []) a1
    → Moves a2 b r (record { made = r.made; value = r.value; event = event; ends = ended }) h right
    → Moves (counting (if ended then end_by a.frames event h.told else []) (counting (move_lines r.made) a)) b r (record { made = r.made; value = r.value; event = event; ends = ended }) h is
moves_from a a1 a2 b r event h ended right is same e1 e2 moves =
    subst (λ y. Moves (counting (if ended then end_by y.frames event h.told else []) y) b r (record { made = r.made; value = r.value; event = event; ends = ended }) h is) e1
    (subst (λ y. Moves y b r (record { made = r.made; value = r.value; event = event; ends = ended }) h is) e2
    (subst (λ q. Moves a2 b r (record { made = r.made; value = r.value; event = event; ends = ended }) h q) same moves))

-- what was seen before those lines is known after the step
pub still_from : {Parts Table State Call : Type 0} (agrees : Agreeing Table State) (setting : Table → Setting State Call) (table : Parts → Table) (t : Table)
    (a a1 a2 b : Auditing Parts Call) (r : read.Step) (event : Option Event) (h : Heard) (ended : Bool) → a1 ≡ counting (move_lines r.made) a → a2 ≡ counting (if ended then end_by a1.frames event h.told else []) a1
    → table a.parts ≡ t → ((y : Table) → table a2.parts ≡ y → StillSeen agrees setting y a2 b r.made r.received event) → StillSeen agrees setting t a b r.made r.received event
still_from agrees setting table t a a1 a2 b r event h ended e1 e2 kept still =
    subst (λ y. StillSeen agrees setting t y b r.made r.received event) e1
    (subst (λ y. StillSeen agrees setting t y b r.made r.received event) e2
    (still t (ap (λ y. table y.parts) e2 ∙ (ap (λ y. table y.parts) e1 ∙ kept))))

-- with another one kept that stands where the first one does
made_to : {State Call : Type 0} (g : Setting State Call) (p : AuditState State Call) (r : read.Step) (S T : AuditState State Call → Type 0) (n : ℕ) (text rest : List ℕ) (made : Made)
    → ((q : AuditState State Call) → S q → T q) → IsMade g p r S n text rest made → IsMade g p r T n text rest made
made_to g p r S T n text rest made to it = record { step = it.step; comes = it.comes; is = it.is; text_is = it.text_is; stands = to (stepped_to g p it.step) it.stands; only = it.only }

module _ {Parts Table State Call : Type 0} (agrees : Agreeing Table State) (setting : Table → Setting State Call) (table : Parts → Table) (stands : Parts → State → Type 0) (t : Table) (p : AuditState State Call) (o : Open Call) (os : List (Open Call))
    (opens : p.moment.opens ≡ o ∷ os) (r : read.Step) (event : Option Event) (at : event_at r ≡ Some event) (now : ComesNow (setting t) p.moment o r) (early : IsEarly (setting t) p.moment)
    (a : Auditing Parts Call) (h : Heard) (heard : IsHeard agrees setting table stands t a p o (step_told r event None) h) where
  top : Top a.frames
  top = top_kept (setting t) a.frames o os (subst (λ ys. StandAll (setting t) a.frames ys) opens heard.frames)

  -- a word goes out that isn't the machine's
  pub wrong_word : (S : AuditState State Call → Type 0) (n : ℕ) (text rest : List ℕ) → sends_right a.chip h.begins r.made ≡ false → MakesStep (setting t) p r S n text rest None
  wrong_word S n text rest off =
      not_sent agrees setting table stands t p o os opens r event at now early a h top.k top.ks top.is heard n text
      (λ x. fails (sends_right a.chip h.begins r.made) (sends a.chip h.begins r.made) off (subst (λ c. SendsRight c (option_map begun_of h.begins) r.made) (sym heard.chip) x))

  -- the line of its move doesn't come
  pub wrong_line : (S : AuditState State Call → Type 0) (r0 r1 : Unread) (rest : List ℕ) → TakesLines false (move_lines r.made) r0 r1 → MakesStep (setting t) p r S r0.number (own_text r0) rest None
  wrong_line S r0 r1 rest none = not_said agrees setting table stands t p o os opens r event at now early a h top.k top.ks top.is heard r0.number (own_text r0) none

  module _ (r0 r1 r2 : Unread) (ended : Bool) (said : TakesLines true (move_lines r.made) r0 r1) (ends : TakesEnd a.frames event h.told ended r1 r2) where
    -- the step with the answer of its end
    abbrev ending : Option Answer
    ending = answer_where ended (top.k ∷ top.ks) event h.told

    abbrev whole : Stepped
    whole = step_told r event ending

    taken : EndTaken r0.number (top.k ∷ top.ks) event h.told ended (own_text r1) (own_text r2)
    taken =
        subst (λ ks. EndTaken r0.number ks event h.told ended (own_text r1) (own_text r2)) top.is
        (subst (λ n. EndTaken n a.frames event h.told ended (own_text r1) (own_text r2)) said.on.number (end_taken a.frames event h.told ended r1 r2 ends))

    -- as the frame is asked
    abbrev asked : Step
    asked = record { made = r.made; value = r.value; event = event; ends = ended }

    asked_is : asked ≡ step_of whole
    asked_is = ap (λ b. record { made = r.made; value = r.value; event = event; ends = b }) (sym (ends_is ended (top.k ∷ top.ks) event h.told taken.answers))

    -- the lines so far
    abbrev so_far : Auditing Parts Call
    so_far = counting (if ended then end_by a.frames event h.told else []) (counting (move_lines r.made) a)

    lines_so_far : so_far ≡ counting (lines_behind p.frames whole) a
    lines_so_far =
        counting_on a (move_lines r.made) (if ended then end_by a.frames event h.told else [])
        ∙ ap (λ ls. counting (move_lines r.made ++ ls) a)
        (line_where ended a.frames event h.told
        ∙ (ap (λ fs. end_lines fs (answer_where ended a.frames event h.told)) (sym heard.purposes)
        ∙ ap (λ ks. end_lines p.frames (answer_where ended ks event h.told)) top.is))

    right_by : (x : Step) → top_right so_far.frames x h.told h.polls h.around ≡ step_right top.k x h.told h.polls h.around
    right_by x = ap (λ ks. top_right ks x h.told h.polls h.around) top.is

    -- the frame may not make it, or its move gave something else
    pub wrong_move : (S : AuditState State Call → Type 0) (rest : List ℕ) (b : Auditing Parts Call) → Moves so_far b r asked h false → MakesStep (setting t) p r S r0.number (own_text r0) rest None
    wrong_move S rest b moves =
        not_moved agrees setting table stands t p o os opens r event at now early a h top.k top.ks top.is heard r0.number (own_text r0) (own_text r1) (own_text r2) ended said.text taken
        (λ right value. off_on (moves.is ∙ and_join (top_right so_far.frames asked h.told h.polls h.around) (value_of so_far.chip r.made == r.value)
        (right_by asked ∙ (ap (λ x. step_right top.k x h.told h.polls h.around) asked_is ∙ right))
        (eq_from (value_of so_far.chip r.made) r.value (ap (λ c. value_of c r.made) heard.chip ∙ sym value))))

    -- it was made
    module _ (b : Auditing Parts Call) (moves : Moves so_far b r asked h true) (words : sends_right a.chip h.begins r.made ≡ true)
        (move_numbers : HasMoveNumbers r.made) (value_fits : IsNumber r.value) (received_fits : IsNumber r.received) (event_fits : HasEventNumber event) (answer_fits : AnswerFits (end_answer a.frames event h.told))
        (still : StillSeen agrees setting t a b r.made r.received event) where
      fits : StepFits whole
      fits = (move_numbers, value_fits, received_fits, event_fits, fits_where ended (end_answer (top.k ∷ top.ks) event h.told) (subst (λ ks. AnswerFits (end_answer ks event h.told)) top.is answer_fits))

      both : moves_right so_far r asked h ≡ true
      both = sym moves.is

      made_where : (Stands agrees setting table stands t b (stepped_to (setting t) p whole) → IsServed (setting t) (stepped_to (setting t) p whole).moment)
          → IsMade (setting t) p r (Stands agrees setting table stands t b) r0.number (own_text r0) (own_text r2) (record { made = r.made; event = event; ended = ended })
      made_where served =
          is_made agrees setting table stands t p o os opens r event at now early a h top.k top.ks top.is heard r0.number (own_text r0) (own_text r1) (own_text r2) ended said.text taken asked b asked_is
          (subst (λ x. HasMoved x b r asked h) lines_so_far (moves.moved refl))
          (subst (λ c. SendsRight c (option_map begun_of h.begins) r.made) heard.chip ((sends a.chip h.begins r.made).says words))
          (sym (eq_is (value_of so_far.chip r.made) r.value (and_second (top_right so_far.frames asked h.told h.polls h.around) (value_of so_far.chip r.made == r.value) both)) ∙ ap (λ c. value_of c r.made) heard.chip)
          (sym (right_by asked) ∙ and_first (top_right so_far.frames asked h.told h.polls h.around) (value_of so_far.chip r.made == r.value) both)
          fits still served

      pub made : (S : AuditState State Call → Type 0) (b_served : Bool) → ((q : AuditState State Call) → Stands agrees setting table stands t b q → Decides b_served (IsServed (setting t) q.moment)) → b_served ≡ true
          → ((q : AuditState State Call) → Stands agrees setting table stands t b q → S q)
          → MakesStep (setting t) p r S r0.number (own_text r0) (own_text r2) (Some (record { made = r.made; event = event; ended = ended }))
      made S served decides on to =
          made_to (setting t) p r (Stands agrees setting table stands t b) S r0.number (own_text r0) (own_text r2) _ to (made_where (λ kept. (decides (stepped_to (setting t) p whole) kept).says on))

      -- the moment after it isn't served
      pub wrong_moment : (S : AuditState State Call → Type 0) (b_served : Bool) → ((q : AuditState State Call) → Stands agrees setting table stands t b q → Decides b_served (IsServed (setting t) q.moment)) → b_served ≡ false
          → MakesStep (setting t) p r S r0.number (own_text r0) (own_text r2) None
      wrong_moment S served decides off s more comes none is =
          let one = only_one agrees setting table stands t p o os opens r event at now early a h top.k top.ks top.is heard r0.number (own_text r0) (own_text r1) (own_text r2) ended said.text taken s more comes none is in
          let it = made_where (λ kept. subst (λ y. IsServed (setting t) (after (setting t) p.moment (Steps y))) one comes.comes.served) in
          fails served (decides (stepped_to (setting t) p it.step) it.stands) off it.comes.comes.served
