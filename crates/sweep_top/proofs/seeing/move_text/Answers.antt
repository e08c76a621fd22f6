use Rattle.std.proofs.Common.{rules, ◌≡◌, ◌∙◌, ◌++◌, List, ℕ, ap, sym}
use Rattle.std.specs.Prelude.{codes, decimal}
use Rattle.std.proofs.lemmas.Result.{IfOk-weaker}
use Rattle.sweep_top.specs.Reported as spec
use Rattle.sweep_top.proofs.Watched.{move_behind}
use Rattle.sweep_top.proofs.seeing.move_text.Goals as goal

pub returns-in-Some : goal.returns-in-Some
returns-in-Some c =
    let logged = c.args.logged.now in
    let made : List ℕ = spec.made_text logged.made logged.value logged.received logged.event in
    let text = c.as_str.result.now in
    let strips = c.in-Some.ensures.cases in
    let line : text ≡ codes "step " ++ (decimal 0 ++ (codes " " ++ made)) = search rules in
    let behind : text ≡ codes "step 0 " ++ c.in-Some.made.now = strips.1.1 ∙ ap (λ (t : List ℕ). codes "step 0 " ++ t) (sym strips.2) in
    IfOk-weaker c.from_str.result _ _ (λ t e. e ∙ move_behind text made c.in-Some.made.now line behind) c.from_str.ensures.ok
