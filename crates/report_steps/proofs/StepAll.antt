-- A step is made, or none fits the block.
use Rattle.std.proofs.Common.{◌≡◌, ℕ, Bool, true, false, List, ◌∷◌, ◌++◌, length, Option, Some, None, refl, sym, ◌∙◌, ap, subst, append_assoc}
use Rattle.std.specs.Prelude.{cond, is_some, option_map}
use Rattle.bench_report.specs.Lines.{Line}
use Rattle.bench_report.specs.Numbers.{StepFits}
use Rattle.bench_report.specs.Report.{end_lines, move_lines}
use Rattle.chip_model.specs.Chip.{value_of}
use Rattle.mcal_base.specs.declared.answer.Answer.{Answer}
use Rattle.mcal_base.specs.declared.moves.Event.{Event}
use Rattle.run_model.specs.Frame.{Open, open_after}
use Rattle.run_model.specs.Legal.{IsLegalStep, IsServed, LegalStep, SendsRight}
use Rattle.run_model.specs.Moment.{Setting, Steps, after}
use Rattle.run_model.specs.declared.item.Stepped.{Stepped}
use Rattle.audit_base.specs.Deeds.{begun_of}
use Rattle.audit_frames.specs.FrameRules.{kept_after, step_right}
use Rattle.audit_frames.specs.Kept.{Kept}
use Rattle.audit_frames.specs.StackRules.{StandAll}
use Rattle.audit_frames.specs.StandsFor.{StandsFor}
use Rattle.audit_frames.specs.Told.{IsAround, ended_of, step_of}
use Rattle.audit_frames.specs.declared.terms.Step.{Step}
use Rattle.audit_subject.specs.declared.hearing.Heard.{Heard}
use Rattle.report_text.specs.reading.Blocks.{AuditState, printed}
use Rattle.trace_reader.specs.declared.told.Step as read
use Rattle.report_auditor.specs.Auditing.{Auditing, Stands, StillSeen, purposes_by}
use Rattle.report_auditor.specs.Seeing.{Agreeing}
use Rattle.report_steps.specs.StepParts.{ComesNow, HasMoved, IsHeard, asked_by, counting, end_answer, event_at, step_told}
use Rattle.report_steps.specs.StepRules.{ComesTold, IsMade, NoEnd, lines_behind, stepped_to}
use Rattle.report_steps.proofs.SoFarLaws.{printed_on}
use Rattle.report_steps.proofs.StepJudged.{Rights, all_told, event_told, in_time, is_legal, is_right}
use Rattle.report_steps.proofs.StepMade.{answer_where, ends_is, stands_after}
use Rattle.report_steps.proofs.StepText.{EndTaken, ends_same, lines_taken}
use Rattle.report_steps.proofs.ToldLaws.{told_again}

module _ {Parts Table State Call : Type 0} (agrees : Agreeing Table State) (setting : Table → Setting State Call) (table : Parts → Table) (stands : Parts → State → Type 0) (t : Table) (p : AuditState State Call) (o : Open Call) (os : List (Open Call))
    (opens : p.moment.opens ≡ o ∷ os) (r : read.Step) (event : Option Event) (at : event_at r ≡ Some event) (now : ComesNow (setting t) p.moment o r) (early : (setting t).machine.expires p.moment.world p.moment.state ≡ Some 0 → ⊥)
    (a : Auditing Parts Call) (h : Heard) (k : Kept) (ks : List Kept) (top : a.frames ≡ k ∷ ks) (heard : IsHeard agrees setting table stands t a p o (step_told r event None) h) where
  -- ---- what is known of the newest frame

  all_stand : StandAll (setting t) (k ∷ ks) (o ∷ os)
  all_stand = subst (λ ys. StandAll (setting t) ys (o ∷ os)) top (subst (λ ys. StandAll (setting t) a.frames ys) opens heard.frames)

  pub frame_stands : StandsFor (setting t) k o
  frame_stands = all_stand.0

  asked_is : asked_by a.frames ≡ k.terms.asked
  asked_is = ap asked_by top

  purposes_are : p.frames ≡ purposes_by (k ∷ ks)
  purposes_are = heard.purposes ∙ ap purposes_by top

  -- a step of the newest frame that is legal in its place
  legal_here : (s : Stepped) → LegalStep (setting t) p.moment p.moment.opens s → IsLegalStep (setting t) p.moment o s
  legal_here s legal = subst (λ ys. LegalStep (setting t) p.moment ys s) opens legal

  legal_there : (s : Stepped) → IsLegalStep (setting t) p.moment o s → LegalStep (setting t) p.moment p.moment.opens s
  legal_there s legal = subst (λ ys. LegalStep (setting t) p.moment ys s) (sym opens) legal

  -- ---- a step that fits the block is the one that is read

  -- its event is the one that was found, and it is what its line tells
  event_is_found : (s : Stepped) → ComesTold (setting t) p r s → s.event ≡ event
  event_is_found s comes = let e = event_told (setting t) p.moment o r (length p.moment.opens) s comes.told (legal_here s comes.comes.legal) in cc

  is_told : (s : Stepped) → ComesTold (setting t) p r s → step_told r event s.ended ≡ s
  is_told s comes =
      ap (λ e. step_told r e s.ended) (sym (event_is_found s comes)) ∙ all_told (setting t) p.moment o r (length p.moment.opens) s comes.told (legal_here s comes.comes.legal)

  told_legal : (s : Stepped) → ComesTold (setting t) p r s → IsLegalStep (setting t) p.moment o (step_told r event s.ended)
  told_legal s comes = subst (IsLegalStep (setting t) p.moment o) (sym (is_told s comes)) (legal_here s comes.comes.legal)

  -- so each part of it is right
  pub parts_right : (s : Stepped) → ComesTold (setting t) p r s → Rights (setting t) p.moment o r event s.ended h k
  parts_right s comes =
      is_right (setting t) p.moment o r event s.ended h k frame_stands
      (subst (λ n. IsAround (setting t) p.moment o (step_told r event None) n h.told h.polls h.around) asked_is heard.says.around) (told_legal s comes)

  -- the answer of its end is the one that is kept
  by_ends : (b : Bool) → ended_of (kept_after k (step_of (step_told r event None)) h.told h.polls h.around) b ≡ cond b (end_answer (k ∷ ks) event h.told) None
  by_ends true = refl
  by_ends false = refl

  answer_is : (s : Stepped) → ComesTold (setting t) p r s → s.ended ≡ cond (is_some s.ended) (end_answer (k ∷ ks) event h.told) None
  answer_is s comes = (parts_right s comes).ends ∙ by_ends (is_some s.ended)

  -- ---- the text

  module _ (n : ℕ) (text mid rest : List ℕ) (ended : Bool) (says : text ≡ printed n (move_lines r.made) ++ mid) (taken : EndTaken n (k ∷ ks) event h.told ended mid rest) where
    -- it ends exactly where the line of an end was taken
    pub same_end : (s : Stepped) (more : List Line) → ComesTold (setting t) p r s → NoEnd more → text ≡ printed n (lines_behind p.frames s ++ more) → is_some s.ended ≡ ended
    same_end s more comes none is =
        ends_same n p.frames k ks event h.told purposes_are (move_lines r.made) more text mid rest ended s.ended says taken none
        (is ∙ ap (λ m. printed n ((move_lines m ++ end_lines p.frames s.ended) ++ more)) (sym (ap (λ x. x.made) (is_told s comes))))
        (answer_is s comes)

    -- so it is the step that was made
    pub only_one : (s : Stepped) (more : List Line) → ComesTold (setting t) p r s → NoEnd more → text ≡ printed n (lines_behind p.frames s ++ more) → s ≡ step_told r event (answer_where ended (k ∷ ks) event h.told)
    only_one s more comes none is =
        sym (is_told s comes) ∙ ap (λ x. step_told r event x) (answer_is s comes ∙ ap (λ b. cond b (end_answer (k ∷ ks) event h.told) None) (same_end s more comes none is))

    -- ---- it was made

    pub is_made : (x : Step) (b : Auditing Parts Call) → x ≡ step_of (step_told r event (answer_where ended (k ∷ ks) event h.told))
        → HasMoved (counting (lines_behind p.frames (step_told r event (answer_where ended (k ∷ ks) event h.told))) a) b r x h
        → SendsRight p.moment.chip (option_map begun_of h.begins) r.made → r.value ≡ value_of p.moment.chip r.made → step_right k x h.told h.polls h.around ≡ true
        → StepFits (step_told r event (answer_where ended (k ∷ ks) event h.told))
        → StillSeen agrees setting t a b r.made r.received event
        → (Stands agrees setting table stands t b (stepped_to (setting t) p (step_told r event (answer_where ended (k ∷ ks) event h.told))) → IsServed (setting t) (after (setting t) p.moment (Steps (step_told r event (answer_where ended (k ∷ ks) event h.told)))))
        → IsMade (setting t) p r (Stands agrees setting table stands t b) n text rest (record { made = r.made; event = event; ended = ended })
    is_made x b is moved sends value right fits still served =
        let g = setting t in
        let ending : Option Answer = answer_where ended (k ∷ ks) event h.told in
        let s : Stepped = step_told r event ending in
        let around = subst (λ m. IsAround g p.moment o (step_told r event None) m h.told h.polls h.around) asked_is heard.says.around in
        let judged = is_legal g p.moment o r event h k ks ended frame_stands now heard.allowed around (subst (λ y. SendsRight p.moment.chip y r.made) heard.says.begins sends) value taken.answers
        (subst (λ y. step_right k y h.told h.polls h.around ≡ true) is right) in
        let kept = stands_after agrees setting table stands t p o os a b r event x h k ks ending opens top heard is moved
        (subst (λ y. StandsFor g (kept_after k y h.told h.polls h.around) (open_after g.machine p.moment.world p.moment.state o r.made r.received event)) (sym is) judged.stands) still in
        record {
          step = s;
          comes = record {
            told = told_again p.moment.chip p.moment.world (length p.moment.opens) r event ending now.depth value now.received at;
            fits = fits;
            comes = record { time = in_time Call s (g.machine.expires p.moment.world p.moment.state) early; legal = legal_there s judged.legal; served = served kept };
          };
          is = ap (λ q. record { made = r.made; event = event; ended = q }) (sym (ends_is ended (k ∷ ks) event h.told taken.answers));
          text_is = lines_taken n p.frames k ks event h.told purposes_are (move_lines r.made) text mid rest ended says taken;
          stands = kept;
          only = only_one;
        }

    -- ---- it wasn't

    -- the frame may not make the step, or its move gave something else
    pub not_moved : (step_right k (step_of (step_told r event (answer_where ended (k ∷ ks) event h.told))) h.told h.polls h.around ≡ true → r.value ≡ value_of p.moment.chip r.made → ⊥)
        → (s : Stepped) (more : List Line) → ComesTold (setting t) p r s → NoEnd more → text ≡ printed n (lines_behind p.frames s ++ more) → ⊥
    not_moved wrong s more comes none is =
        let same : s.ended ≡ answer_where ended (k ∷ ks) event h.told = ap (λ y. y.ended) (only_one s more comes none is) in
        wrong (subst (λ y. step_right k (step_of (step_told r event y)) h.told h.polls h.around ≡ true) same (parts_right s comes).right) (parts_right s comes).value

    -- the moment after it isn't served
    pub not_served : (IsServed (setting t) (after (setting t) p.moment (Steps (step_told r event (answer_where ended (k ∷ ks) event h.told)))) → ⊥)
        → (s : Stepped) (more : List Line) → ComesTold (setting t) p r s → NoEnd more → text ≡ printed n (lines_behind p.frames s ++ more) → ⊥
    not_served wrong s more comes none is = wrong (subst (λ y. IsServed (setting t) (after (setting t) p.moment (Steps y))) (only_one s more comes none is) comes.comes.served)

  -- a word goes out that isn't the machine's
  pub not_sent : (n : ℕ) (text : List ℕ) → (SendsRight p.moment.chip (option_map begun_of h.begins) r.made → ⊥)
      → (s : Stepped) (more : List Line) → ComesTold (setting t) p r s → NoEnd more → text ≡ printed n (lines_behind p.frames s ++ more) → ⊥
  not_sent n text wrong s more comes none is = wrong (subst (λ y. SendsRight p.moment.chip y r.made) (sym heard.says.begins) (parts_right s comes).sends)

  -- the line of its notice or report doesn't come
  pub not_said : (n : ℕ) (text : List ℕ) → ((more : List ℕ) → text ≡ printed n (move_lines r.made) ++ more → ⊥)
      → (s : Stepped) (more : List Line) → ComesTold (setting t) p r s → NoEnd more → text ≡ printed n (lines_behind p.frames s ++ more) → ⊥
  not_said n text wrong s more comes none is =
      let made : move_lines s.made ≡ move_lines r.made = ap (λ y. move_lines y.made) (sym (is_told s comes)) in
      wrong (printed n (end_lines p.frames s.ended ++ more))
      (is ∙ (ap (printed n) (append_assoc (move_lines s.made) (end_lines p.frames s.ended) more ∙ ap (λ ls. ls ++ (end_lines p.frames s.ended ++ more)) made) ∙ printed_on n (move_lines r.made) (end_lines p.frames s.ended ++ more)))
