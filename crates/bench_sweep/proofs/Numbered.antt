-- Directives on lines of their own, one after another.
use Rattle.std.proofs.Common.{◌≡◌, ℕ, ◌+◌, ◌<◌, List, [], ◌∷◌, ◌++◌, length, take, get_or, arith, append_assoc}
use Rattle.std.proofs.lemmas.List.{take_more, length-take-le, map-append}
use Rattle.std.proofs.lemmas.Grind.{common_steps}
use Rattle.mcal_base.specs.declared.directive.Directive.{Directive}
use Rattle.bench_sweep.specs.Flat.{LinesRise, numbered_from, lines_of}

pub numbered_append : (line : ℕ) (xs ys : List Directive) → numbered_from line (xs ++ ys) ≡ numbered_from line xs ++ numbered_from (line + length xs) ys
numbered_append line [] ys = grind (arith, common_steps)
numbered_append line (x ∷ xs) ys = grind (arith, common_steps, numbered_append (line + 1) xs ys)

pub numbered_more : (line : ℕ) (ds : List Directive) (i : ℕ) (d : Directive) → i < length ds → d ≡ get_or ds i d → numbered_from line (take (i + 1) ds) ≡ numbered_from line (take i ds) ++ numbered_from (line + i) (d ∷ [])
numbered_more line ds i d l e = grind (arith, common_steps, take_more ds i d l, e, numbered_append line (take i ds) (d ∷ []), length-take-le i ds (omega (arith, l)))

pub lines_more : (ds : List Directive) (i : ℕ) (d : Directive) → i < length ds → d ≡ get_or ds i d → lines_of (take (i + 1) ds) ≡ lines_of (take i ds) ++ lines_of (d ∷ [])
lines_more ds i d l e = grind (arith, common_steps, take_more ds i d l, e, map-append (λ (d : Directive). d.line) (take i ds) (d ∷ []))

-- one directive more, behind others
pub added : (old now new : List Directive) (v n i : ℕ) (ds : List Directive) (d : Directive) → i < length ds → d ≡ get_or ds i d → n ≡ v + i → now ≡ old ++ numbered_from (v + 1) (take i ds) → new ≡ now ++ numbered_from (n + 1) (d ∷ []) → new ≡ old ++ numbered_from (v + 1) (take (i + 1) ds)
added old now new v n i ds d l e c a b =
    let k : n + 1 ≡ v + 1 + i = omega (arith, c) in
    rw (b, a, numbered_more (v + 1) ds i d l e, k) (append_assoc old (numbered_from (v + 1) (take i ds)) (numbered_from (v + 1 + i) (d ∷ [])))

pub lines_added : (old now new : List ℕ) (i : ℕ) (ds : List Directive) (d : Directive) → i < length ds → d ≡ get_or ds i d → now ≡ old ++ lines_of (take i ds) → new ≡ now ++ lines_of (d ∷ []) → new ≡ old ++ lines_of (take (i + 1) ds)
lines_added old now new i ds d l e a b = rw (b, a, lines_more ds i d l e) (append_assoc old (lines_of (take i ds)) (lines_of (d ∷ [])))

pub numbered_rises : (low line : ℕ) (ds : List Directive) → low < line → LinesRise low (numbered_from line ds)
numbered_rises low line [] l = tt
numbered_rises low line (d ∷ ds) l = (l, numbered_rises line (line + 1) ds (omega arith))
