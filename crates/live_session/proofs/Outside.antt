-- What moves the hardware, what holds it, and the reset of the chip.
use Rattle.std.proofs.Common.{◌≡◌, ◌≢◌, ℕ, ◌<◌, Bool, true, false, List, [], ◌∷◌, ◌++◌, length, Some, None, Result, Err, refl, sym, ◌∙◌, ap, subst, append-nil}
use Rattle.std.specs.Prelude.{OnOk}
use Rattle.chip_model.specs.Chip.{Chip}
use Rattle.irq_control.specs.declared.held.Held.{Held}
use Rattle.mcal_base.specs.declared.directive.Order.{Order}
use Rattle.mcal_base.specs.declared.directive.Order.TheVariants as orders
use Rattle.mcal_base.specs.declared.directive.Reason.{Reason}
use Rattle.mcal_base.specs.declared.directive.Reason.TheVariants.{PowerOn, Software, Watchdog}
use Rattle.mcal_base.specs.declared.directive.Request.{Request}
use Rattle.run_model.specs.Entry.{Entry, Happens, Resets, Stays}
use Rattle.run_model.specs.Follows.{Gives, HappensOnly, IsOne}
use Rattle.run_model.specs.Legal.{hardware_held}
use Rattle.run_model.specs.Moment as moment
use Rattle.run_model.specs.Moment.{Moment, Setting, Transition, after_all}
use Rattle.run_model.specs.Script.{moved_by}
use Rattle.script_runner.specs.Standing.{words_by}
use Rattle.step_runner.specs.Driver.{Driver}
use Rattle.step_runner.specs.Stands.{Stands}
use Rattle.bench_report.specs.Lines.{Holds, Restarts}
use Rattle.bench_report.specs.Report.{order_lines}
use Rattle.bench_report.specs.declared.frames.Purpose.{Purpose}
use Rattle.live_board.specs.Lives.{GoesOn, LiveRun, held_by, is_outside}
use Rattle.live_board.specs.declared.outside.Refusal.{Refusal}
use Rattle.live_board.specs.declared.outside.Refusal.TheVariants as refusals
use Rattle.live_session.specs.Answers.{Answers, As_asked, IsObeyed, Of_words, moment_at}
use Rattle.live_session.specs.Pages.{Page, say, say_all}
use Rattle.live_session.specs.Steps.{refusal_told}
use Rattle.live_session.proofs.Agreeing.{depth_at, is_one}
use Rattle.live_session.proofs.Asked.{on_ok, on_ok_alone, one_item, spent_told}

-- the orders that move the hardware: those of the outside, and the drop of a device
abbrev pub is_moving : Order → Bool
is_moving orders.Detach = true
is_moving order = is_outside order

pub moving_outside : (order : Order) → is_outside order ≡ true → is_moving order ≡ true
moving_outside orders.Detach h = refl
moving_outside _ h = h

moves_by : {Call : Type 0} (order : Order) → is_moving order ≡ true → moved_by {Call = Call} order ≡ moment.Happens order ∷ []
moves_by (orders.Level p v) h = refl
moves_by (orders.Analog i v) h = refl
moves_by (orders.Trigger i) h = refl
moves_by (orders.Miso u ws) h = refl
moves_by (orders.SpiFault u) h = refl
moves_by (orders.Fill c ws) h = refl
moves_by orders.Detach h = refl
moves_by _ h = cc

no_lines : (order : Order) → is_moving order ≡ true → order_lines false [] order ≡ []
no_lines (orders.Level p v) h = refl
no_lines (orders.Analog i v) h = refl
no_lines (orders.Trigger i) h = refl
no_lines (orders.Miso u ws) h = refl
no_lines (orders.SpiFault u) h = refl
no_lines (orders.Fill c ws) h = refl
no_lines orders.Detach h = refl
no_lines _ h = cc

-- what one of them gives
gives_one : {State Call : Type 0} (g : Setting State Call) (call_of : Request → Call) (m : Moment State Call) (line : ℕ) (order : Order) (items : List Entry) → is_moving order ≡ true → hardware_held g m order ≡ None → IsOne m line (Happens order) items → Gives g call_of m line order items
gives_one g call_of m line (orders.Level p v) items h free one = one
gives_one g call_of m line (orders.Analog i v) items h free one = one
gives_one g call_of m line (orders.Trigger i) items h free one = one
gives_one g call_of m line (orders.Miso u ws) items h free one = one
gives_one g call_of m line (orders.SpiFault u) items h free one = one
gives_one g call_of m line (orders.Fill c ws) items h free one = subst (λ x. HappensOnly m line (orders.Fill c ws) x items) (sym free) one
gives_one g call_of m line orders.Detach items h free one = subst (λ x. HappensOnly m line orders.Detach x items) (sym free) one
gives_one g call_of m line _ items h free one = cc

gives_held : {State Call : Type 0} (g : Setting State Call) (call_of : Request → Call) (m : Moment State Call) (line : ℕ) (order : Order) (cause : Held) (items : List Entry) → is_moving order ≡ true → hardware_held g m order ≡ Some cause → IsOne m line (Stays cause) items → Gives g call_of m line order items
gives_held g call_of m line (orders.Fill k ws) cause items may held one = subst (λ x. HappensOnly m line (orders.Fill k ws) x items) (sym held) one
gives_held g call_of m line orders.Detach cause items may held one = subst (λ x. HappensOnly m line orders.Detach x items) (sym held) one
gives_held g call_of m line (orders.Level p v) cause items may held one = cc
gives_held g call_of m line (orders.Analog i v) cause items may held one = cc
gives_held g call_of m line (orders.Trigger i) cause items may held one = cc
gives_held g call_of m line (orders.Miso u ws) cause items may held one = cc
gives_held g call_of m line (orders.SpiFault u) cause items may held one = cc
gives_held g call_of m line _ cause items may held one = cc

module _ {M State Call Frame : Type 0} (d : Driver State Call Frame) (call_of : Request → Call) (order : Order) (line : ℕ) (a b : LiveRun M Frame) (f : List Purpose) (p p1 : Page) (moving : is_moving order ≡ true) where
  -- the hardware moved
  pub moved : ((first : Chip) (h : List (Transition Call)) → Stands d first a.chip a.kept.frames h → hardware_held d.setting (moment_at d first h) order ≡ None) → GoesOn d a b (moment.Happens order ∷ []) → b.kept.steps ≡ a.kept.steps → p1 ≡ p → Answers d call_of false order a b f f p p1 (λ m items. Gives d.setting call_of m line order items)
  moved free goes same page = one_item d call_of order false line (Happens order) a b f f p p1 (λ m items. Gives d.setting call_of m line order items)
      (λ first h st. subst (λ ds. Stands d first b.chip b.kept.frames (h ++ ds)) (sym (moves_by order moving)) (goes first h st))
      (λ m. ap (λ ds. (after_all d.setting m ds).steps) (moves_by order moving)) same
      (λ first h e. gives_one d.setting call_of (moment_at d first h) line order _ moving (free first h e.stands) (is_one d first a h e line (Happens order)))
      refl (page ∙ ap (λ ls. say_all p ls) (sym (no_lines order moving)))

  -- it was held
  pub stayed : (cause : Held) → ((first : Chip) (h : List (Transition Call)) → Stands d first a.chip a.kept.frames h → hardware_held d.setting (moment_at d first h) order ≡ Some cause) → b ≡ a → p1 ≡ say p (Holds cause) → Answers d call_of false order a b f f p p1 (λ m items. Gives d.setting call_of m line order items)
  stayed cause held same page = one_item d call_of order false line (Stays cause) a b f f p p1 (λ m items. Gives d.setting call_of m line order items)
      (λ first h st. subst (λ x. Stands d first x.chip x.kept.frames (h ++ [])) (sym same) (subst (λ hs. Stands d first a.chip a.kept.frames hs) (sym (append-nil h)) st))
      (λ m. refl) (ap (λ x. x.kept.steps) same)
      (λ first h e. gives_held d.setting call_of (moment_at d first h) line order cause _ moving (held first h e.stands) (is_one d first a h e line (Stays cause)))
      refl page

  -- as it is told
  pub held_told : {R E : Type 0} (x : Result R E) (cause : Held) → ((first : Chip) (h : List (Transition Call)) → Stands d first a.chip a.kept.frames h → hardware_held d.setting (moment_at d first h) order ≡ Some cause) → b ≡ a → OnOk x (p1 ≡ say p (Holds cause)) → OnOk x (IsObeyed d call_of false order a b f f p p1 (λ m items. Gives d.setting call_of m line order items))
  held_told x cause held same page = on_ok_alone x (λ told. As_asked (stayed cause held same told)) page

  -- as it is told that it was refused
  pub refused_told : {R E : Type 0} (A : Type 0) (x : Result R E) (refusal : Refusal) → ((first : Chip) (h : List (Transition Call)) → Stands d first a.chip a.kept.frames h → hardware_held d.setting (moment_at d first h) order ≡ held_by {A = A} (Err refusal)) → (refusal ≡ refusals.Spent → a.room < words_by order) → b ≡ a → OnOk x (p1 ≡ refusal_told p refusal) → OnOk x (IsObeyed d call_of false order a b f f p p1 (λ m items. Gives d.setting call_of m line order items))
  refused_told A x (refusals.Held cause) held spent same page = held_told x cause held same page
  refused_told A x refusals.Spent held spent same page = spent_told d call_of order x line a b f p p1 same (Of_words (spent refl)) page

gives_reset : {State Call : Type 0} (g : Setting State Call) (call_of : Request → Call) (m : Moment State Call) (line : ℕ) (reason : Reason) (items : List Entry) → reason ≢ Software → IsOne m line (Resets reason (length m.opens)) items → Gives g call_of m line (orders.Reset reason) items
gives_reset g call_of m line PowerOn items h one = one
gives_reset g call_of m line Watchdog items h one = one
gives_reset g call_of m line Software items h one = absurd (h refl)

module _ {M State Call Frame : Type 0} (d : Driver State Call Frame) (call_of : Request → Call) (line : ℕ) (a b : LiveRun M Frame) (f f1 : List Purpose) (p p1 : Page) where
  -- the chip was reset
  pub was_reset : {R E : Type 0} (x : Result R E) (reason : Reason) (dropped : ℕ) → reason ≢ Software → dropped ≡ length a.kept.frames → GoesOn d a b (moment.Resets reason ∷ []) → b.kept.steps ≡ a.kept.steps → OnOk x (p1 ≡ say p (Restarts reason dropped)) → OnOk x (f1 ≡ []) → OnOk x (IsObeyed d call_of false (orders.Reset reason) a b f f1 p p1 (λ m items. Gives d.setting call_of m line (orders.Reset reason) items))
  was_reset x reason dropped asked dropped_is goes same page frames = on_ok x (λ told later. As_asked (one_item d call_of (orders.Reset reason) false line (Resets reason (length a.kept.frames)) a b f f1 p p1 (λ m items. Gives d.setting call_of m line (orders.Reset reason) items)
      goes (λ m. refl) same
      (λ first h e. gives_reset d.setting call_of (moment_at d first h) line reason _ asked (ap (λ n. let i : Entry = record { line = line; depth = n; said = Resets reason n } in i ∷ []) (depth_at d first a h e)))
      later (told ∙ ap (λ n. say p (Restarts reason n)) dropped_is))) page frames
