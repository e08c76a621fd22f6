-- What one more sign sets.
use Rattle.std.proofs.Common.{◌≡◌, ◌≤◌, ◌-◌, List, [], ◌∷◌, length, get_or, take, drop, ◌∙◌, ap, sym, arith}
use Rattle.std.proofs.lemmas.List.{take_all}
use Rattle.trace_forms.specs.declared.kinds.signs.Sign.{Sign}
use Rattle.trace_waves.specs.Board.{Board, put_all}
use Rattle.trace_waves.specs.Settings.{behind, behind_all, set_by, settings}
use Rattle.trace_waves.specs.declared.settings.Before.{Before}
use Rattle.trace_waves.specs.declared.settings.Clock.{Clock}
use Rattle.trace_waves.proofs.Steps.{put_all_append}

set_more : (clock : Clock) (b new : Board) (before : Before) (s : Sign) (signs : List Sign) → new ≡ put_all b (set_by clock (behind before s.what) s) →
    put_all b (settings clock before (s ∷ signs)) ≡ put_all new (settings clock (behind before s.what) signs)
set_more clock b new before s signs e =
    put_all_append b (set_by clock (behind before s.what) s) (settings clock (behind before s.what) signs)
    ∙ ap (λ (x : Board). put_all x (settings clock (behind before s.what) signs)) (sym e)

first_of : (xs : List Sign) (d : Sign) → 1 ≤ length xs → xs ≡ get_or xs 0 d ∷ take (length xs - 1) (drop 1 xs)
first_of [] d h = absurd (omega (arith, h))
first_of (x ∷ xs) d h = ap (λ (ys : List Sign). x ∷ ys) (sym (take_all (length (x ∷ xs) - 1) xs (omega arith)))

-- where the sign is the first of the rest
pub set_rest : (clock : Clock) (b new : Board) (before next : Before) (rest : List Sign) (d : Sign) → 1 ≤ length rest → next ≡ behind before (get_or rest 0 d).what → new ≡ put_all b (set_by clock next (get_or rest 0 d)) →
    put_all b (settings clock before rest) ≡ put_all new (settings clock next (take (length rest - 1) (drop 1 rest)))
set_rest clock b new before next rest d some same e =
    ap (λ (xs : List Sign). put_all b (settings clock before xs)) (first_of rest d some)
    ∙ (set_more clock b new before (get_or rest 0 d) (take (length rest - 1) (drop 1 rest)) (e ∙ ap (λ (x : Before). put_all b (set_by clock x (get_or rest 0 d))) same)
    ∙ ap (λ (x : Before). put_all new (settings clock x (take (length rest - 1) (drop 1 rest)))) (sym same))

pub behind_rest : (before next : Before) (rest : List Sign) (d : Sign) → 1 ≤ length rest → next ≡ behind before (get_or rest 0 d).what → behind_all before rest ≡ behind_all next (take (length rest - 1) (drop 1 rest))
behind_rest before next rest d some same = ap (λ (xs : List Sign). behind_all before xs) (first_of rest d some) ∙ ap (λ (x : Before). behind_all x (take (length rest - 1) (drop 1 rest))) (sym same)
