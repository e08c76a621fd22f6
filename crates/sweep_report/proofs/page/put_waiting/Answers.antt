use Rattle.std.proofs.Common.{◌≡◌, ◌∙◌, ◌++◌, List, ℕ, ap, append_assoc}
use Rattle.std.specs.Prelude.{codes, string_bytes}
use Rattle.std.proofs.lemmas.Result.{on_ok_weaker}
use Rattle.sweep_report.specs.Page.{counted, waiting_text}
use Rattle.sweep_report.proofs.page.put_waiting.Goals as goal

-- the words between the two numbers
abbrev between : List ℕ
between = codes " where it waits, at most "

joined : (old now new p q s : List ℕ) → p ≡ q → now ≡ old ++ (codes ", " ++ (p ++ between)) → new ≡ now ++ s → new ≡ old ++ (codes ", " ++ (q ++ (between ++ s)))
joined old now new p q s e f h =
    h ∙ ap (λ (t : List ℕ). t ++ s) f ∙ append_assoc old (codes ", " ++ (p ++ between)) s
    ∙ ap (λ (t : List ℕ). old ++ (codes ", " ++ t)) (append_assoc p between s ∙ ap (λ (t : List ℕ). t ++ (between ++ s)) e)

pub returns : goal.returns
returns c =
    let old = string_bytes c.args.text.now in
    let now = string_bytes c.write.new.self in
    let new = string_bytes c.put_steps.new.text in
    let steps = counted c.args.steps (codes "step") in
    let behind : new ≡ now ++ steps → new ≡ old ++ waiting_text c.args.places c.args.steps = joined old now new (string_bytes c.in_ok-places.places) (counted c.args.places (codes "place")) steps c.in_ok-places.ensures c.in_ok-write.ensures.bytes in
    on_ok_weaker c.put_steps.result behind c.put_steps.ensures
