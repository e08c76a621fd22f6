-- Strokes one after another.
use Rattle.std.proofs.Common.{◌≡◌, ◌≤◌, ◌<◌, ℕ, ◌+◌, ◌-◌, List, [], ◌∷◌, ◌++◌, length, get_or, take, drop, refl, ◌∙◌, ap, sym, arith}
use Rattle.std.specs.Prelude.{flat_map}
use Rattle.std.proofs.lemmas.List.{flat_map_more, take_all, take_more}
use Rattle.trace_forms.specs.declared.kinds.signs.Sign.{Sign}
use Rattle.trace_lanes.specs.Board.{Board, Stroke, put, put_all}
use Rattle.trace_lanes.specs.Drawn.{strokes_of, next, strokes, behind_all}
use Rattle.trace_lanes.specs.declared.page_state.PageState.{PageState}

pub put_all_append : (b : Board) (ss ts : List Stroke) → put_all b (ss ++ ts) ≡ put_all (put_all b ss) ts
put_all_append b [] ts = refl
put_all_append b (s ∷ ss) ts = put_all_append (put b s) ss ts

-- one more of many that each give some
pub put_more : {A : Type 0} (f : A → List Stroke) (first b new : Board) (xs : List A) (i : ℕ) (x : A) → i < length xs → b ≡ put_all first (flat_map f (take i xs)) → new ≡ put_all b (f (get_or xs i x)) → new ≡ put_all first (flat_map f (take (i + 1) xs))
put_more f first b new xs i x within h e =
    e
    ∙ (ap (λ (y : Board). put_all y (f (get_or xs i x))) h
    ∙ (sym (put_all_append first (flat_map f (take i xs)) (f (get_or xs i x)))
    ∙ ap (λ (ss : List Stroke). put_all first ss) (flat_map_more f [] (take i xs) (get_or xs i x) ∙ sym (ap (λ ys. flat_map f ys) (take_more xs i x within)))))

first_of : (xs : List Sign) (d : Sign) → 1 ≤ length xs → xs ≡ get_or xs 0 d ∷ take (length xs - 1) (drop 1 xs)
first_of [] d h = absurd (omega (arith, h))
first_of (x ∷ xs) d h = ap (λ (ys : List Sign). x ∷ ys) (sym (take_all (length (x ∷ xs) - 1) xs (omega arith)))

-- where the sign is the first of the rest
pub stroke_rest : (b new : Board) (c to : PageState) (rest : List Sign) (d : Sign) → 1 ≤ length rest → to ≡ next c (get_or rest 0 d) → new ≡ put_all b (strokes_of c (get_or rest 0 d)) →
    put_all b (strokes c rest) ≡ put_all new (strokes to (take (length rest - 1) (drop 1 rest)))
stroke_rest b new c to rest d some same e =
    ap (λ (xs : List Sign). put_all b (strokes c xs)) (first_of rest d some)
    ∙ (put_all_append b (strokes_of c (get_or rest 0 d)) (strokes (next c (get_or rest 0 d)) (take (length rest - 1) (drop 1 rest)))
    ∙ (ap (λ (x : Board). put_all x (strokes (next c (get_or rest 0 d)) (take (length rest - 1) (drop 1 rest)))) (sym e)
    ∙ ap (λ (x : PageState). put_all new (strokes x (take (length rest - 1) (drop 1 rest)))) (sym same)))

pub behind_rest : (c to : PageState) (rest : List Sign) (d : Sign) → 1 ≤ length rest → to ≡ next c (get_or rest 0 d) → behind_all c rest ≡ behind_all to (take (length rest - 1) (drop 1 rest))
behind_rest c to rest d some same = ap (λ (xs : List Sign). behind_all c xs) (first_of rest d some) ∙ ap (λ (x : PageState). behind_all x (take (length rest - 1) (drop 1 rest))) (sym same)
