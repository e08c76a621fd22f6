-- Words on a wire, one after another.
use Rattle.std.proofs.Common.{◌≡◌, ℕ, zero, suc, ◌+◌, List, [], ◌∷◌, ◌++◌, Some, refl, ap, sym, ◌∙◌, arith, take}
use Rattle.std.specs.Prelude.{slice_get}
use Rattle.shown_rows.specs.Wires.{pairs}
use Rattle.shown_rows.specs.declared.shown.Exchange.{Exchange}

pairs_more : (xs : List Exchange) (x : Exchange) → pairs (xs ++ x ∷ []) ≡ pairs xs ++ (x.sent, x.received) ∷ []
pairs_more [] x = refl
pairs_more (y ∷ ys) x = ap (λ (ps : List (ℕ × ℕ)). (y.sent, y.received) ∷ ps) (pairs_more ys x)

take_more : (ps : List (ℕ × ℕ)) (n : ℕ) (p : ℕ × ℕ) → slice_get ps n ≡ Some p → take (n + 1) ps ≡ take n ps ++ p ∷ []
take_more [] n p h = cc
take_more (q ∷ ps) zero p h = let e : q ≡ p = cc in ap (λ z. z ∷ []) e
take_more (q ∷ ps) (suc n) p h =
    let e : suc n + 1 ≡ suc (n + 1) = omega arith in
    ap (λ (k : ℕ). take k (q ∷ ps)) e ∙ ap (λ (zs : List (ℕ × ℕ)). q ∷ zs) (take_more ps n p h)

-- one more word of a wire
pub wire_more : (ps : List (ℕ × ℕ)) (n : ℕ) (xs ys : List Exchange) (x : Exchange) → ys ≡ xs ++ x ∷ [] → pairs xs ≡ take n ps → slice_get ps n ≡ Some (x.sent, x.received) → pairs ys ≡ take (n + 1) ps
wire_more ps n xs ys x more so_far next =
    ap (λ (zs : List Exchange). pairs zs) more
    ∙ pairs_more xs x
    ∙ ap (λ (qs : List (ℕ × ℕ)). qs ++ (x.sent, x.received) ∷ []) so_far
    ∙ sym (take_more ps n (x.sent, x.received) next)
