-- Two words of one length are compared by eight bytes, of which the last overlap those before.
use Rattle.std.proofs.Common.{◌≡◌, ℕ, ◌+◌, ◌≤◌, List, [], ◌∷◌, ◌++◌, false, not, length, take, drop, refl, sym, ◌∙◌, ap, arith, eq-eqb}
use Rattle.std.specs.Prelude.{bytes_eq}
use Rattle.std.proofs.Math.Seq.{take-add}
use Rattle.std.proofs.lemmas.List.{take-take, take_all}
use Rattle.std.proofs.lemmas.Slice.Eq.{bytes_eq-Decides}
use Rattle.std.proofs.lemmas.Bool.{not-false}

-- eight bytes more
pub eight_more : (xs ys : List ℕ) (place : ℕ) → take place xs ≡ take place ys → not (bytes_eq (take 8 (drop place xs)) (take 8 (drop place ys))) ≡ false → take (place + 8) xs ≡ take (place + 8) ys
eight_more xs ys place before e =
    let next = (bytes_eq-Decides (take 8 (drop place xs)) (take 8 (drop place ys))).0 (not-false _ e) in
    take-add place 8 xs ∙ (rw (before, next) refl ∙ sym (take-add place 8 ys))

-- bytes behind the same ones
behind : (front xs ys : List ℕ) → bytes_eq (front ++ xs) (front ++ ys) ≡ bytes_eq xs ys
behind [] xs ys = refl
behind (b ∷ bs) xs ys = rw (eq-eqb b b refl) (behind bs xs ys)

-- bytes before a place, and the eight last from there on
cut : (xs : List ℕ) (last : ℕ) → length xs ≡ last + 8 → xs ≡ take last xs ++ take 8 (drop last xs)
cut xs last long = sym (take_all (last + 8) xs (omega arith)) ∙ take-add last 8 xs

earlier : (xs ys : List ℕ) (last place : ℕ) → last ≤ place → take place xs ≡ take place ys → take last xs ≡ take last ys
earlier xs ys last place over before = sym (take-take last place xs over) ∙ (ap (take last) before ∙ take-take last place ys over)

-- the last eight, where those before are the same
pub last_eight : (xs ys : List ℕ) (last place : ℕ) → length xs ≡ last + 8 → length ys ≡ last + 8 → last ≤ place → take place xs ≡ take place ys → bytes_eq (take 8 (drop last xs)) (take 8 (drop last ys)) ≡ bytes_eq xs ys
last_eight xs ys last place long as_long over before =
    let front : take last xs ++ take 8 (drop last ys) ≡ ys = rw (earlier xs ys last place over before) (sym (cut ys last as_long)) in
    sym (behind (take last xs) (take 8 (drop last xs)) (take 8 (drop last ys))) ∙ (ap (λ (zs : List ℕ). bytes_eq zs (take last xs ++ take 8 (drop last ys))) (sym (cut xs last long)) ∙ ap (bytes_eq xs) front)
