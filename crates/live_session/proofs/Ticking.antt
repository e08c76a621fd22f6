-- Ticks of a directive, through the end of the watchdog's time.
use Rattle.std.proofs.Common.{◌≡◌, ℕ, zero, suc, ◌-◌, Bool, true, false, List, [], ◌∷◌, ◌++◌, length, Option, Some, None, Result, refl, sym, ◌∙◌, ap, subst, arith}
use Rattle.std.specs.Prelude.{OnOk, cond, nat_le, nat_lt}
use Rattle.std.proofs.lemmas.Bool.Decides.{nat_tests}
use Rattle.chip_model.specs.Chip.{Chip, expiry_of}
use Rattle.mcal_base.specs.declared.directive.Order.TheVariants as orders
use Rattle.mcal_base.specs.declared.directive.Reason.TheVariants.{Watchdog}
use Rattle.mcal_base.specs.declared.directive.Request.{Request}
use Rattle.mcal_base.specs.declared.moves.Move.{Move}
use Rattle.mcal_base.specs.declared.routine.Taken.{Taken}
use Rattle.run_model.proofs.Following.{after_all-append}
use Rattle.run_model.specs.Entry.{Entry, Happens, Resets}
use Rattle.run_model.specs.Follows.{Gives, IsOne, Ticks, deeds_in, ticks_left, ticks_through}
use Rattle.run_model.specs.Moment as moment
use Rattle.run_model.specs.Moment.{Moment, Transition, after_all, start_moment}
use Rattle.script_runner.proofs.Waits.{left-is-some}
use Rattle.script_runner.specs.Standing.{left_within}
use Rattle.step_runner.specs.Driver.{Driver, IsLawful}
use Rattle.step_runner.specs.Stands.{Stands}
use Rattle.bench_report.specs.Lines.{Restarts}
use Rattle.bench_report.specs.Report.{chapter_frames, chapter_lines}
use Rattle.bench_report.specs.declared.frames.Purpose.{Purpose}
use Rattle.live_board.specs.Lives.{GoesOn, LiveRun, dropped_by, rest_of, ticks_by}
use Rattle.live_session.specs.Answers.{Answers, As_asked, EndsAt, IsObeyed, moment_at}
use Rattle.live_session.specs.Pages.{Page, say, say_all}
use Rattle.live_session.specs.Steps.{watchdog_frames, watchdog_lines}
use Rattle.live_session.proofs.Agreeing.{depth_at, expires_at, is_one}
use Rattle.live_session.proofs.Asked.{on_ok, one_item}

-- whether the watchdog's time ends is told by what is dropped
pub none_dropped : (left : Option ℕ) (n : ℕ) → None ≡ dropped_by left n → left ≡ None
none_dropped None n e = refl
none_dropped (Some x) n e = cc

pub some_dropped : (left : Option ℕ) (n dropped : ℕ) → Some dropped ≡ dropped_by left n → (x : ℕ) × (left ≡ Some x) × (dropped ≡ n)
some_dropped None n dropped e = cc
some_dropped (Some x) n dropped e = (x, refl, cc)

within : (n x : ℕ) → nat_le x n ≡ false → nat_lt n x ≡ true
within n x h = grind (arith, nat_tests)

past : (n x : ℕ) → nat_le x n ≡ true → nat_lt n x ≡ false
past n x h = grind (arith, nat_tests)

cond_none : (b : Bool) (x : ℕ) → cond b (Some x) None ≡ None → b ≡ false
cond_none true x e = cc
cond_none false x e = refl

ticks_one : {State Call : Type 0} (m : Moment State Call) (line n : ℕ) (time : Option ℕ) (items : List Entry) → left_within n time ≡ None → IsOne m line (Happens (orders.Tick n)) items → Ticks m line n time items
ticks_one m line n None items e one = one
ticks_one m line n (Some x) items e one = rw (within n x (cond_none (nat_le x n) x e)) one

ticks_past : {State Call : Type 0} (m : Moment State Call) (line n left : ℕ) (time : Option ℕ) (items : List Entry) → left_within n time ≡ Some left → items ≡ ticks_through line (length m.opens) left (n - left) → Ticks m line n time items
ticks_past m line n left time items e is = let h = left-is-some n time left e in subst (λ t. Ticks m line n t items) (sym h.0) (rw (past n left h.1) is)

-- the ticks that are left behind the reset have no line, and what is done there counts no step
rest_lines : (line n rest : ℕ) → chapter_lines false (orders.Tick n) [] [] (ticks_left line rest) ≡ []
rest_lines line n zero = refl
rest_lines line n (suc rest) = refl

rest_deeds : {Call : Type 0} (call_of : Request → Call) (line n rest : ℕ) → deeds_in call_of (orders.Tick n) (ticks_left line rest) ≡ rest_of rest
rest_deeds call_of line n zero = refl
rest_deeds call_of line n (suc rest) = refl

module _ {M State Call Frame : Type 0} (d : Driver State Call Frame) (move_of : Frame → Move) (left : Frame → ℕ → Frame) (gave : Frame → ℕ → Taken) (law : IsLawful d move_of left gave) (call_of : Request → Call) (line n : ℕ) (a b : LiveRun M Frame) (f f1 : List Purpose) (p p1 : Page) (same : b.kept.steps ≡ a.kept.steps) (goes : GoesOn d a b (ticks_by n (left_within n (expiry_of a.chip)))) where
  -- ticks in which the watchdog's time doesn't end
  pub ticked : left_within n (expiry_of a.chip) ≡ None → f1 ≡ f → p1 ≡ p → Answers d call_of false (orders.Tick n) a b f f1 p p1 (λ m items. Gives d.setting call_of m line (orders.Tick n) items)
  ticked free frames page = one_item d call_of (orders.Tick n) false line (Happens (orders.Tick n)) a b f f1 p p1 (λ m items. Gives d.setting call_of m line (orders.Tick n) items)
      (λ first h st. subst (λ t. Stands d first b.chip b.kept.frames (h ++ ticks_by n t)) free (goes first h st))
      (λ m. refl) same
      (λ first h e. ticks_one (moment_at d first h) line n _ _ (ap (left_within n) (expires_at d first a h e move_of left gave law) ∙ free) (is_one d first a h e line (Happens (orders.Tick n))))
      frames page

  -- ticks in which it ends
  pub ran_through : (ended : ℕ) → left_within n (expiry_of a.chip) ≡ Some ended → f1 ≡ [] → p1 ≡ say p (Restarts Watchdog (length a.kept.frames)) → Answers d call_of false (orders.Tick n) a b f f1 p p1 (λ m items. Gives d.setting call_of m line (orders.Tick n) items)
  ran_through ended ends frames page =
      let depth = length a.kept.frames in
      let rest = n - ended in
      let deeds : List (Transition Call) = moment.Happens (orders.Tick ended) ∷ moment.Resets Watchdog ∷ rest_of rest in
      let deeds_are : deeds_in call_of (orders.Tick n) (ticks_through line depth ended rest) ≡ deeds = ap (λ ds. moment.Happens (orders.Tick ended) ∷ moment.Resets Watchdog ∷ ds) (rest_deeds call_of line n rest) in
      record {
        items = ticks_through line depth ended rest;
        goes = λ first h e. subst (λ ds. EndsAt d first b (h ++ ds)) (sym deeds_are) (record {
          stands = subst (λ t. Stands d first b.chip b.kept.frames (h ++ ticks_by n t)) ends (goes first h e.stands);
          few = omega (arith, ap (λ m. m.steps) (after_all-append d.setting (start_moment d.setting first) h deeds), no_steps (moment_at d first h) rest, e.few, same);
        });
        right = λ first h e. ticks_past (moment_at d first h) line n ended _ _ (ap (left_within n) (expires_at d first a h e move_of left gave law) ∙ ends) (ap (λ x. ticks_through line x ended rest) (depth_at d first a h e));
        frames_are = frames ∙ sym (no_frames rest);
        page_is = page ∙ ap (λ ls. say_all p (Restarts Watchdog depth ∷ ls)) (sym (rest_lines line n rest));
      }
    where
      no_steps : (m : Moment State Call) (rest : ℕ) → (after_all d.setting m (moment.Happens (orders.Tick ended) ∷ moment.Resets Watchdog ∷ rest_of rest)).steps ≡ m.steps
      no_steps m zero = refl
      no_steps m (suc rest) = refl

      no_frames : (rest : ℕ) → chapter_frames (orders.Tick n) [] (ticks_left line rest) ≡ []
      no_frames zero = refl
      no_frames (suc rest) = refl

  -- as it is told
  pub ticks_told : {R E : Type 0} (x : Result R E) (dropped : Option ℕ) → dropped ≡ dropped_by (left_within n (expiry_of a.chip)) (length a.kept.frames) → OnOk x (p1 ≡ say_all p (watchdog_lines dropped)) → OnOk x (f1 ≡ watchdog_frames f dropped) → OnOk x (IsObeyed d call_of false (orders.Tick n) a b f f1 p p1 (λ m items. Gives d.setting call_of m line (orders.Tick n) items))
  ticks_told x None e page frames = on_ok x (λ told later. As_asked (ticked (none_dropped (left_within n (expiry_of a.chip)) (length a.kept.frames) e) later told)) page frames
  ticks_told x (Some k) e page frames =
      let s = some_dropped (left_within n (expiry_of a.chip)) (length a.kept.frames) k e in
      on_ok x (λ told later. As_asked (ran_through s.0 s.1 later (told ∙ ap (λ j. say p (Restarts Watchdog j)) s.2))) page frames
