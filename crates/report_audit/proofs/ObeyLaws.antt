-- What is taken of a directive is what its items print.
use Rattle.std.proofs.Common.{◌≡◌, ℕ, ◌<◌, ◌≤◌, Bool, true, List, length, sym, subst, arith}
use Rattle.std.specs.Prelude.{IfOk, Result}
use Rattle.std.proofs.lemmas.Bool.Decides.{nat_tests}
use Rattle.std.proofs.lemmas.Result.{IfOk-weaker}
use Rattle.bench_report.specs.Lines.{Line}
use Rattle.bench_report.specs.Numbers.{HappensFits, IsNumber}
use Rattle.bench_report.specs.Showing.{Showing}
use Rattle.mcal_base.specs.declared.directive.Directive.{Directive}
use Rattle.mcal_base.specs.declared.directive.Order.{Order}
use Rattle.mcal_base.specs.declared.directive.Order.TheVariants as orders
use Rattle.mcal_base.specs.declared.directive.Reason.{Reason}
use Rattle.mcal_base.specs.declared.directive.Reason.TheVariants.{PowerOn, Watchdog, Software}
use Rattle.mcal_base.specs.declared.directive.Request.{Request}
use Rattle.mcal_base.specs.facts.Truths.{off_on}
use Rattle.run_model.specs.Frame.{Open}
use Rattle.run_model.specs.Legal.{IsServed}
use Rattle.run_model.specs.Moment.{Setting}
use Rattle.script_runner.specs.Standing.{is_built}
use Rattle.audit_frames.specs.Kept.{Kept}
use Rattle.audit_frames.specs.StackRules.{StandAll}
use Rattle.report_text.specs.reading.Blocks.{AuditState}
use Rattle.report_steps.specs.Going.{PrintsReset}
use Rattle.report_steps.specs.Taking.{Takes}
use Rattle.report_audit.specs.Directives.{PrintsHardware, PrintsOrder}
use Rattle.report_audit.specs.Obeying.{PrintsItems}
use Rattle.report_audit.proofs.DirectiveLaws.{each_order}
use Rattle.report_audit.proofs.KindLaws.{as_many}
use Rattle.report_audit.proofs.TakeLaws.{takes_as}

-- ---- what a directive has

pub happens_fit : (order : Order) → is_built order ≡ true → HappensFits order
happens_fit (orders.Tick n) e = grind (arith, nat_tests)
happens_fit _ e = tt

few_frames : (n m : ℕ) → n ≡ m → n ≤ 8 → m < 4294967295
few_frames n m e h = omega (arith, e, h)

pub few_open : {State Call : Type 0} (g : Setting State Call) (ks : List Kept) (os : List (Open Call)) → StandAll g ks os → length ks ≤ 8 → length os < 4294967295
few_open g ks os h few = few_frames (length ks) (length os) (as_many g ks os h) few

-- it moves the hardware
abbrev pub MovesHardware : Order → Type 0
MovesHardware (orders.Call level r) = ⊥
MovesHardware (orders.Do level r) = ⊥
MovesHardware (orders.Enter irq) = ⊥
MovesHardware (orders.Serve irq) = ⊥
MovesHardware (orders.Run n) = ⊥
MovesHardware (orders.Upto stop) = ⊥
MovesHardware orders.Finish = ⊥
MovesHardware (orders.Tick n) = ⊥
MovesHardware (orders.Reset reason) = ⊥
MovesHardware (orders.Show what) = ⊥
MovesHardware order = Unit {0}

module _ {State Call E : Type 0} (g : Setting State Call) (call_of : Request → Call) (showing : Showing State) (p : AuditState State Call) (result : Result Bool E) (Stands : AuditState State Call → Type 0) (n : ℕ) (text rest : List ℕ) where
  -- what was answered of an order
  abbrev Answers : (Prints : List Line → AuditState State Call → Type 0) → Type 0
  Answers Prints = IfOk result (λ right. Takes right Prints Stands n text rest)

  pub hardware_as : (line : ℕ) (order : Order) → MovesHardware order → Answers (λ lines there. PrintsHardware g p order lines there) → Answers (λ lines there. PrintsOrder g call_of showing p line order lines there)
  hardware_as line (orders.Call level r) m h = absurd m
  hardware_as line (orders.Do level r) m h = absurd m
  hardware_as line (orders.Enter irq) m h = absurd m
  hardware_as line (orders.Serve irq) m h = absurd m
  hardware_as line (orders.Run k) m h = absurd m
  hardware_as line (orders.Upto stop) m h = absurd m
  hardware_as line orders.Finish m h = absurd m
  hardware_as line (orders.Tick k) m h = absurd m
  hardware_as line (orders.Level pin high) m h = h
  hardware_as line (orders.Analog input value) m h = h
  hardware_as line (orders.Trigger input) m h = h
  hardware_as line (orders.Miso unit words) m h = h
  hardware_as line (orders.SpiFault unit) m h = h
  hardware_as line orders.Detach m h = h
  hardware_as line (orders.Fill channel words) m h = h
  hardware_as line (orders.Reset reason) m h = absurd m
  hardware_as line (orders.Show what) m h = absurd m

  pub reset_as : (line : ℕ) (reason : Reason) → is_built (orders.Reset reason) ≡ true → Answers (PrintsReset g p reason) → Answers (λ lines there. PrintsOrder g call_of showing p line (orders.Reset reason) lines there)
  reset_as line PowerOn built h = h
  reset_as line Watchdog built h = h
  reset_as line Software built h = off_on built

  -- is what is asked of its items
  pub by_order : (d : Directive) → IsNumber d.line → length p.moment.opens < 4294967295 → IsServed g p.moment → is_built d.order ≡ true → (order : Order) → d.order ≡ order
      → Answers (λ lines there. PrintsOrder g call_of showing p d.line order lines there) → Answers (PrintsItems g call_of showing p d)
  by_order d number small served built order e h =
      IfOk-weaker result _ _
      (λ right k. takes_as right (λ lines there. PrintsOrder g call_of showing p d.line d.order lines there) (PrintsItems g call_of showing p d) Stands n text rest
      (each_order g call_of showing p d.line number small served d.order (happens_fit d.order built)) k)
      (subst (λ (x : Order). Answers (λ lines there. PrintsOrder g call_of showing p d.line x lines there)) (sym e) h)
