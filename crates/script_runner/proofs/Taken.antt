-- A step that was taken, and its item.
use Rattle.std.proofs.Common.{◌≡◌, ℕ, ◌+◌, ◌<◌, ◌≤◌, List, [], ◌∷◌, ◌++◌, length, Option, Some, None, Ok, refl, sym, ◌∙◌, ap, subst, arith, append_assoc, length-append}
use Rattle.std.specs.Prelude.{Result}
use Rattle.chip_model.specs.Chip.{Chip, value_of, chip_after}
use Rattle.chip_model.proofs.HistoryLaws.{osc-move, now-move}
use Rattle.mcal_base.specs.declared.answer.Answer.{Answer}
use Rattle.mcal_base.specs.declared.directive.Directive.{Directive}
use Rattle.mcal_base.specs.declared.directive.Request.{Request}
use Rattle.mcal_base.specs.declared.moves.Move.{Move}
use Rattle.mcal_base.specs.declared.routine.Taken.{Taken}
use Rattle.run_model.specs.declared.item.Stepped.{Stepped}
use Rattle.run_model.specs.Entry.{Entry, Steps, Written, written, words_of_answer}
use Rattle.run_model.specs.Frame.{top_after}
use Rattle.run_model.specs.Moment as moment
use Rattle.run_model.specs.Moment.{Transition, start_moment, after_all}
use Rattle.step_runner.proofs.ChipFacts.{some-comes}
use Rattle.step_runner.proofs.Runs.{goes-on}
use Rattle.run_model.specs.Script.{deeds_of}
use Rattle.run_model.specs.Stops.{steps_in}
use Rattle.run_model.proofs.Counts.{steps_counted}
use Rattle.step_runner.specs.Driver.{Driver, most_steps, IsLawful, stepped}
use Rattle.step_runner.specs.Kept.{Kept, IsStill, TakesStep, total_fuel}
use Rattle.step_runner.specs.Stands.{Stands, FuelFalls}
use Rattle.step_runner.specs.declared.stack.Under.{Under}
use Rattle.script_runner.specs.Busy.{busies}
use Rattle.script_runner.specs.Standing.{moment_of, IsStanding, NearTime, TookStep, Waited}
use Rattle.script_runner.proofs.Arms.{depth_is, deeds_more, moment_more}
use Rattle.script_runner.proofs.Given.{room_move}
use Rattle.script_runner.proofs.Stops.{steps_written}

-- no move takes time, or gives a word to come in
move_time : (waits : ℕ) (before chip : Chip) (made : Move) (received : ℕ) → NearTime waits before chip → NearTime waits before (chip_after chip made received)
move_time waits before chip made received h = record {
  osc = (let e = osc-move chip made received in let k = h.osc in omega (arith, e, k));
  now = (let e = now-move chip made received in let k = h.now in omega (arith, e, k));
  room = λ u. room_move chip made received u ∙ h.room u;
}

-- a frame that goes on is still there
top_there : {A : Type 0} (x : A) (ended : Option Answer) (rest : List A) → ended ≡ None → 0 < length (top_after x ended rest)
top_there x None rest e = omega arith
top_there x (Some a) rest e = cc

ok_is : {T E : Type 0} (x y : T) → ◌≡◌ {A = Result T E} (Ok x) (Ok y) → x ≡ y
ok_is x y e = cc

module _ {State Call Frame : Type 0} (d : Driver State Call Frame) (first : Chip) (call_of : Request → Call) (script : List Directive) (move_of : Frame → Move) (left : Frame → ℕ → Frame) (gave : Frame → ℕ → Taken) where
  pub took : (most line : ℕ) (chip : Chip) (us : List (Under Frame)) (taken : ℕ) (before : Written) (chip1 : Chip) (mid : Written) (s : Stepped) (chip2 : Chip) (k1 : Kept Frame) (after : Written) → Waited d first call_of script move_of line chip us before chip1 mid → TakesStep move_of left gave us taken chip1 k1 chip2 (Ok s) → 0 < length us → taken < most → FuelFalls d.fuel us k1.frames (Ok s) → length (words_of_answer s.ended) ≤ 64 → Stands d first chip2 k1.frames (deeds_of call_of script mid.entries ++ moment.Steps s ∷ []) → after ≡ written mid line (length us) (Steps s) (words_of_answer s.ended) → TookStep d first call_of script most line chip (record { frames = us; steps = taken }) before s chip2 k1 after
  took most line chip [] taken before chip1 mid s chip2 k1 after w t some few falls short stands is = absurd (omega arith)
  took most line chip (u ∷ us) taken before chip1 mid s chip2 k1 after w t some few falls short stands is =
      let e : Entry = record { line = line; depth = length (u ∷ us); said = Steps s } in
      let made = move_of u.frame in
      let s_is : s ≡ stepped made (value_of chip1 made) t.received (gave u.frame (value_of chip1 made)) = ok_is _ _ t.result_is in
      let time : NearTime 1 chip chip2 = subst (λ x. NearTime 1 chip x) (sym t.chip_is) (move_time 1 chip chip1 made t.received w.time) in
      let depth = depth_is d first call_of script chip1 (u ∷ us) mid.entries w.stands in
      let items = w.items made t.received refl in
      let busy : busies chip2 ≡ busies (chip_after chip1 made t.received) = ap busies t.chip_is in
      let more : length after.entries ≡ length mid.entries + 1 = ap (λ x. length x.entries) is ∙ length-append mid.entries (e ∷ []) in
      let counted : steps_in after.entries ≡ steps_in mid.entries + 1 = ap (λ x. steps_in x.entries) is ∙ steps_written mid line (length (u ∷ us)) (Steps s) (words_of_answer s.ended) in
      let same = w.counted in
      record {
        waits = w.waits;
        at = moment_of d first call_of script mid.entries;
        is = ap (λ x. x.entries) is ∙ ap (λ es. es ++ e ∷ []) w.is ∙ append_assoc before.entries w.waits (e ∷ []) ∙ ap (λ n. let x : Entry = record { line = line; depth = n; said = Steps s } in before.entries ++ (w.waits ++ x ∷ [])) depth;
        ready = w.ready s (ap (λ x. Some x.made) (sym s_is));
        leads = ap (λ x. moment_of d first call_of script x.entries) is ∙ moment_more d first call_of script mid.entries e (moment.Steps s ∷ []) refl;
        stands = subst (λ x. IsStanding d first call_of script chip2 k1.frames x.entries) (sym is) (subst (λ h. Stands d first chip2 k1.frames h) (sym (deeds_more d first call_of script mid.entries e (moment.Steps s ∷ []) refl)) stands);
        steps = t.steps_are;
        few = few;
        goes = λ on. subst (λ fs. 0 < length fs) (sym t.frames) (top_there _ (gave u.frame (value_of chip1 made)).ended us (sym (ap (λ x. x.ended) s_is) ∙ on));
        words = ap (λ x. x.words) is ∙ ap (λ ws. ws ++ words_of_answer s.ended) w.words;
        short = short;
        room = ap (λ x. x.room) is ∙ w.room;
        words_room = ap (λ x. x.words_room) is ∙ w.words_room;
        counted = omega (arith, counted, same);
        items = omega (arith, items, busy, more);
        time = time;
        spent = omega (arith, t.steps_are, falls);
      }

  -- the moment has no more steps than the journal
  pub few_steps : (es : List Entry) (taken most : ℕ) → steps_in es ≡ taken → taken ≤ most → most < 4294967295 → (after_all d.setting (start_moment d.setting first) (deeds_of call_of script es)).steps < most_steps
  few_steps es taken most is few limit = let k = steps_counted d.setting call_of script (start_moment d.setting first) es in omega (arith, k, is, few, limit)

  -- a frame that is there, and waits for nothing, has a step left
  pub has_fuel : IsLawful d move_of left gave → (chip : Chip) (us : List (Under Frame)) (h : List (Transition Call)) → (after_all d.setting (start_moment d.setting first) h).steps < most_steps → IsStill move_of us chip → Stands d first chip us h → 0 < length us → 0 < total_fuel d.fuel us
  has_fuel law chip [] h few still st some = absurd (omega arith)
  has_fuel law chip (u ∷ us) h few still st some = let come = some-comes chip (move_of u.frame) in let k = goes-on d move_of left gave law chip u us (after_all d.setting (start_moment d.setting first) h) come.0 still come.1 few st.matches in omega (arith, k.fuel)
