-- The steps of a journal are no fewer than those of the moment after it.
use Rattle.std.proofs.Common.{◌≡◌, ◌+◌, ◌≤◌, cond, List, [], ◌∷◌, Option, Some, None, refl, ap, arith}
use Rattle.std.proofs.lemmas.List.Sums.{sum_by-append}
use Rattle.mcal_base.specs.declared.directive.Directive.{Directive}
use Rattle.mcal_base.specs.declared.directive.Order.{Order}
use Rattle.mcal_base.specs.declared.directive.Order.TheVariants as orders
use Rattle.mcal_base.specs.declared.directive.Request.{Request}
use Rattle.run_model.specs.declared.item.Stepped.{Stepped}
use Rattle.run_model.specs.Entry as entry
use Rattle.run_model.specs.Frame.{Open}
use Rattle.run_model.specs.Moment.{Setting, Moment, after_step, after_all}
use Rattle.run_model.specs.Script.{order_at, beginnings_of, moved_by, deed_of, deeds_of}
use Rattle.run_model.specs.Stops.{is_step, steps_in}
use Rattle.run_model.proofs.Following.{after_all-append}

module _ {State Call : Type 0} (g : Setting State Call) (call_of : Request → Call) where
  step_more : (m : Moment State Call) (os : List (Open Call)) (s : Stepped) → (after_step g m os s).steps ≤ m.steps + 1
  step_more m [] s = omega arith
  step_more m (o ∷ os) s = omega arith

  begun_same : (m : Moment State Call) (order : Option Order) → (after_all g m (beginnings_of call_of order)).steps ≡ m.steps
  begun_same m None = refl
  begun_same m (Some (orders.Call level r)) = refl
  begun_same m (Some (orders.Do level r)) = refl
  begun_same m (Some (orders.Enter line)) = refl
  begun_same m (Some (orders.Serve line)) = refl
  begun_same m (Some _) = refl

  moved_same : (m : Moment State Call) (order : Order) → (after_all g m (moved_by {Call = Call} order)).steps ≡ m.steps
  moved_same m (orders.Show s) = refl
  moved_same m _ = refl

  one_more : (m : Moment State Call) (order : Option Order) (said : entry.Said) → (after_all g m (deed_of call_of order said)).steps ≤ m.steps + cond (is_step said) 1 0
  one_more m order (entry.Happens o) = let e = moved_same m o in omega (arith, e)
  one_more m order entry.Begins = let e = begun_same m order in omega (arith, e)
  one_more m order (entry.Stays c) = omega arith
  one_more m order (entry.Steps s) = step_more m m.opens s
  one_more m order (entry.Resets r k) = omega arith

  pub steps_counted : (script : List Directive) (m : Moment State Call) (es : List entry.Entry) → (after_all g m (deeds_of call_of script es)).steps ≤ m.steps + steps_in es
  steps_counted script m [] = omega arith
  steps_counted script m (e ∷ es) =
      let counted = sum_by-append (λ x. cond (is_step x.said) 1 0) (e ∷ []) es in
      let now = deed_of call_of (order_at script e.line) e.said in
      let first = one_more m (order_at script e.line) e.said in
      let later = steps_counted script (after_all g m now) es in
      let is = ap (λ x. x.steps) (after_all-append g m now (deeds_of call_of script es)) in
      omega (arith, first, later, is, counted)
