-- The last item of the places that are taken is the first one of the stack that they are.
use Rattle.std.proofs.Common.{◌≡◌, ℕ, ◌+◌, true, false, List, [], ◌∷◌, Option, Some, None, length, ◌<◌, refl, sym, ◌∙◌, ap, subst}
use Rattle.std.specs.Prelude.{reverse, take, slice_set, slice_index_or, Result, Ok, is_some}
use Rattle.std.proofs.lemmas.List.{set-get_or, take_more_set, take-set, reverse-append}
use Rattle.chip_model.specs.Chip.{Chip, hung, value_of, chip_after}
use Rattle.chip_model.proofs.DeviceLaws.{value-hung}
use Rattle.chip_model.specs.Devices.{ComesIn}
use Rattle.irq_control.specs.declared.held.Held.{Held}
use Rattle.mcal_base.specs.declared.answer.Answer.{Answer}
use Rattle.mcal_base.specs.declared.moves.Move.{Move}
use Rattle.mcal_base.specs.declared.routine.Taken.{Taken}
use Rattle.run_model.specs.declared.item.Stepped.{Stepped}
use Rattle.run_model.specs.Frame.{top_after}
use Rattle.step_runner.specs.Driver.{stepped}
use Rattle.step_runner.specs.Kept.{IsLooked, moved, TakesStep, hung_for}
use Rattle.step_runner.specs.declared.stack.Under.{Under}

-- of the first places, with another last item
reverse-set : {X : Type 0} (xs : List X) (n : ℕ) (x : X) → n < length xs → reverse (take (n + 1) (slice_set xs n x)) ≡ x ∷ reverse (take n xs)
reverse-set xs n x lt = ap (λ ys. reverse ys) (take_more_set xs n x lt) ∙ reverse-append (take n xs) (x ∷ [])

reverse-last : {X : Type 0} (xs : List X) (n : ℕ) (d : X) → n < length xs → reverse (take (n + 1) xs) ≡ slice_index_or xs n d ∷ reverse (take n xs)
reverse-last xs n d lt = sym (ap (λ ys. reverse (take (n + 1) ys)) (set-get_or xs n d)) ∙ reverse-set xs n (slice_index_or xs n d) lt

-- the move that was looked up is that of the last item
pub looked-last : {Frame : Type 0} (move_of : Frame → Move) (xs : List (Under Frame)) (n : ℕ) (u : Under Frame) (made : Move) → n < length xs → u ≡ slice_index_or xs n u → IsLooked move_of (reverse (take (n + 1) xs)) made → made ≡ move_of u.frame
looked-last move_of xs n u made lt is h = subst (λ us. IsLooked move_of us made) (reverse-last xs n u lt ∙ ap (λ x. x ∷ reverse (take n xs)) (sym is)) h

goes-on : {X : Type 0} (u : X) (us : List X) (ended : Option Answer) → is_some ended ≡ false → u ∷ us ≡ top_after u ended us
goes-on u us None e = refl
goes-on u us (Some a) e = absurd (cc)

comes-off : {X : Type 0} (u : X) (us : List X) (ended : Option Answer) → is_some ended ≡ true → us ≡ top_after u ended us
comes-off u us None e = absurd (cc)
comes-off u us (Some a) e = refl

-- The last frame made its move where it stands: it goes on, or it ended and is counted no more.
module _ {Frame : Type 0} (move_of : Frame → Move) (left : Frame → ℕ → Frame) (gave : Frame → ℕ → Taken) (xs : List (Under Frame)) (n : ℕ) (u top : Under Frame) (steps devices : ℕ) (chip chip1 : Chip) (s : Stepped) (lt : n < length xs) (is : u ≡ slice_index_or xs n u)
    (top-is : top ≡ moved u (left u.frame (value_of chip (move_of u.frame))) (move_of u.frame)) (comes : ComesIn (hung devices chip) (move_of u.frame) s.received) (chip-is : chip1 ≡ chip_after (hung devices chip) (move_of u.frame) s.received)
    (s-is : s ≡ stepped (move_of u.frame) (value_of chip (move_of u.frame)) s.received (gave u.frame (value_of chip (move_of u.frame)))) where
  abbrev under : List (Under Frame)
  under = reverse (take n xs)

  abbrev value : ℕ
  value = value_of chip (move_of u.frame)

  same : value ≡ value_of (hung devices chip) (move_of u.frame)
  same = sym (value-hung devices chip (move_of u.frame))

  ended-is : s.ended ≡ (gave u.frame value).ended
  ended-is = ap (λ t. t.ended) s-is

  -- it leaves these frames
  leaves : (after : List (Under Frame)) → after ≡ top_after (moved u (left u.frame value) (move_of u.frame)) (gave u.frame value).ended under → TakesStep move_of left gave (reverse (take (n + 1) xs)) steps (hung_for (reverse (take (n + 1) xs)) devices chip) (record { frames = after; steps = steps + 1 }) chip1 (Ok s)
  leaves after e = subst (λ ys. TakesStep move_of left gave ys steps (hung_for ys devices chip) (record { frames = after; steps = steps + 1 }) chip1 (Ok s)) (sym (reverse-last xs n u lt ∙ ap (λ x. x ∷ under) (sym is)))
      (record {
        received = s.received;
        comes = comes;
        frames = subst (λ v. after ≡ top_after (moved u (left u.frame v) (move_of u.frame)) (gave u.frame v).ended under) same e;
        steps_are = refl;
        chip_is = chip-is;
        result_is = subst (λ v. ◌≡◌ {A = Result Stepped Held} (Ok s) (Ok (stepped (move_of u.frame) v s.received (gave u.frame v)))) same (ap (λ t. Ok t) s-is);
      })

  pub takes-on : is_some s.ended ≡ false → TakesStep move_of left gave (reverse (take (n + 1) xs)) steps (hung_for (reverse (take (n + 1) xs)) devices chip) (record { frames = reverse (take (n + 1) (slice_set xs n top)); steps = steps + 1 }) chip1 (Ok s)
  takes-on none = leaves (reverse (take (n + 1) (slice_set xs n top))) (reverse-set xs n top lt ∙ ap (λ x. x ∷ under) top-is ∙ goes-on (moved u (left u.frame value) (move_of u.frame)) under (gave u.frame value).ended (subst (λ o. is_some o ≡ false) ended-is none))

  pub takes-off : is_some s.ended ≡ true → TakesStep move_of left gave (reverse (take (n + 1) xs)) steps (hung_for (reverse (take (n + 1) xs)) devices chip) (record { frames = reverse (take n (slice_set xs n top)); steps = steps + 1 }) chip1 (Ok s)
  takes-off some = leaves (reverse (take n (slice_set xs n top))) (ap (λ ys. reverse ys) (take-set xs n top) ∙ comes-off (moved u (left u.frame value) (move_of u.frame)) under (gave u.frame value).ended (subst (λ o. is_some o ≡ true) ended-is some))
