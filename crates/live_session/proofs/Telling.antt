-- Lines one after another.
use Rattle.std.proofs.Common.{◌≡◌, ℕ, List, [], ◌∷◌, ◌++◌, Bool, true, refl, ◌∙◌, ap, sym, append_assoc}
use Rattle.std.specs.Prelude.{if◌then◌else◌}
use Rattle.mcal_base.specs.declared.directive.Reason.TheVariants.{Software}
use Rattle.bench_report.specs.Lines.{Line, Restarts}
use Rattle.live_session.specs.Pages.{Page, say, say_all}

pub told_all : (p : Page) (xs ys : List Line) → say_all p (xs ++ ys) ≡ say_all (say_all p xs) ys
told_all p [] ys = refl
told_all p (x ∷ xs) ys = told_all (say p x) xs ys

-- the number of the line that is answered stays
pub number_same : (p : Page) (ls : List Line) → (say_all p ls).number ≡ p.number
number_same p [] = refl
number_same p (l ∷ ls) = number_same (say p l) ls

-- the lines of a step, and then that of the reset that it makes
pub told_with_reset : (p a b c : Page) (xs ys zs : List Line) (n m : ℕ) (resets : Bool) → a ≡ say_all p (xs ++ ys) → b ≡ say_all a zs → c ≡ say b (Restarts Software m) → m ≡ n → resets ≡ true →
    c ≡ say_all p ((xs ++ (ys ++ zs)) ++ (if resets then Restarts Software n ∷ [] else []))
told_with_reset p a b c xs ys zs n m resets ea eb ec em er =
    let step : b ≡ say_all p (xs ++ (ys ++ zs)) = eb ∙ (ap (λ (q : Page). say_all q zs) ea ∙ (sym (told_all p (xs ++ ys) zs) ∙ ap (λ (ls : List Line). say_all p ls) (append_assoc xs ys zs))) in
    ec
    ∙ (ap (λ (k : ℕ). say b (Restarts Software k)) em
    ∙ (ap (λ (q : Page). say q (Restarts Software n)) step
    ∙ (sym (told_all p (xs ++ (ys ++ zs)) (Restarts Software n ∷ []))
    ∙ ap (λ (t : Bool). say_all p ((xs ++ (ys ++ zs)) ++ (if t then Restarts Software n ∷ [] else []))) (sym er))))
