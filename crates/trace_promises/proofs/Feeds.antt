-- A script that gets a line feed at its end is read as before: a carriage return that its last line loses then stands in a comment.
use Rattle.std.proofs.Common.{◌≡◌, ◌⊎◌, ℕ, suc, ◌+◌, ◌-◌, ◌==◌, Bool, true, false, List, [], ◌∷◌, ◌++◌, length, take, inl, inr, refl, ◌∙◌, ap, sym, subst, cond, arith, eqb-true}
use Rattle.std.specs.Prelude.{◌&&◌, if◌then◌else◌}
use Rattle.std.specs.Str.Lines.{lines_of_parts, strip_carriage_return}
use Rattle.mcal_base.specs.declared.directive.Directive.{Directive}
use Rattle.mcal_base.specs.declared.directive.Order.{Order}
use Rattle.bench_script.specs.Lines.{before_comment, is_plain, is_text, words_of}
use Rattle.bench_script.specs.Productions.{HoldsNothing, HoldsOrder, HoldDirectives, IsOrder}

-- ---- a line that loses its carriage return

-- the line is as it was, or had one at its end
abbrev LosesReturn : (line stripped : List ℕ) → Type 0
LosesReturn line stripped = (stripped ≡ line) ⊎ (line ≡ stripped ++ 13 ∷ [])

one_more : (x z : ℕ) (ys : List ℕ) (b : Bool) → cond b (take (suc (length ys)) (x ∷ z ∷ ys)) (x ∷ z ∷ ys) ≡ x ∷ cond b (take (length ys) (z ∷ ys)) (z ∷ ys)
one_more x z ys true = refl
one_more x z ys false = refl

return_more : (x z : ℕ) (ys : List ℕ) → strip_carriage_return (x ∷ z ∷ ys) ≡ x ∷ strip_carriage_return (z ∷ ys)
return_more x z ys =
    let m : suc (suc (length ys)) - 1 ≡ suc (length ys) = omega arith in
    let n : suc (length ys) - 1 ≡ length ys = omega arith in
    rw (m, n) (one_more x z ys _)

loses_more : (x : ℕ) (line stripped : List ℕ) → LosesReturn line stripped → LosesReturn (x ∷ line) (x ∷ stripped)
loses_more x line stripped (inl e) = inl (ap (λ (l : List ℕ). x ∷ l) e)
loses_more x line stripped (inr e) = inr (ap (λ (l : List ℕ). x ∷ l) e)

loses_one : (x : ℕ) (b : Bool) → (x == 13) ≡ b → LosesReturn (x ∷ []) (strip_carriage_return (x ∷ []))
loses_one x true e = let n : x ≡ 13 = eqb-true x 13 e in rw e (inr (ap (λ (y : ℕ). y ∷ []) n))
loses_one x false e = rw e (inl refl)

loses : (line : List ℕ) → LosesReturn line (strip_carriage_return line)
loses [] = inl refl
loses (x ∷ []) = loses_one x (x == 13) refl
loses (x ∷ z ∷ ys) = subst (λ (l : List ℕ). LosesReturn (x ∷ z ∷ ys) l) (sym (return_more x z ys)) (loses_more x (z ∷ ys) (strip_carriage_return (z ∷ ys)) (loses (z ∷ ys)))

-- ---- what stands before its comment

one_taken : (k x : ℕ) (xs : List ℕ) → take (1 + k) (x ∷ xs) ≡ x ∷ take k xs
one_taken k x xs = let e : 1 + k ≡ suc k = omega arith in ap (λ (n : ℕ). take n (x ∷ xs)) e

before_none : (x : ℕ) (line : List ℕ) → (x == 35) ≡ true → before_comment (x ∷ line) ≡ []
before_none x line e = rw e refl

before_next : (x : ℕ) (line : List ℕ) → (x == 35) ≡ false → before_comment (x ∷ line) ≡ x ∷ before_comment line
before_next x line e = rw e (one_taken _ x line)

plain_rest : (a b : Bool) → a && b ≡ true → b ≡ true
plain_rest true b h = h
plain_rest false b h = cc

before_more : (x : ℕ) (line : List ℕ) (b : Bool) → (x == 35) ≡ b → is_text (before_comment (x ∷ (line ++ 13 ∷ []))) ≡ true
    → (is_text (before_comment (line ++ 13 ∷ [])) ≡ true → before_comment (line ++ 13 ∷ []) ≡ before_comment line) → before_comment (x ∷ (line ++ 13 ∷ [])) ≡ before_comment (x ∷ line)
before_more x line true e h ih = before_none x (line ++ 13 ∷ []) e ∙ sym (before_none x line e)
before_more x line false e h ih =
    let first = before_next x (line ++ 13 ∷ []) e in
    first ∙ (ap (λ (l : List ℕ). x ∷ l) (ih (plain_rest (is_plain x) (is_text (before_comment (line ++ 13 ∷ []))) (ap is_text (sym first) ∙ h))) ∙ sym (before_next x line e))

-- a carriage return is no text
same_before : (line : List ℕ) → is_text (before_comment (line ++ 13 ∷ [])) ≡ true → before_comment (line ++ 13 ∷ []) ≡ before_comment line
same_before [] h = cc
same_before (x ∷ line) h = before_more x line (x == 35) refl h (same_before line)

same_text : (line stripped : List ℕ) → LosesReturn line stripped → is_text (before_comment line) ≡ true → before_comment line ≡ before_comment stripped
same_text line stripped (inl e) h = ap before_comment (sym e)
same_text line stripped (inr e) h = ap before_comment e ∙ same_before stripped (ap (λ (l : List ℕ). is_text (before_comment l)) (sym e) ∙ h)

-- ---- the lines of a script

-- a line that holds nothing, or an order, still does
still_nothing : (line : List ℕ) → HoldsNothing line → HoldsNothing (strip_carriage_return line)
still_nothing line h =
    let same = sym (same_text line (strip_carriage_return line) (loses line) h.plain) in
    record { plain = ap is_text same ∙ h.plain; none = ap words_of same ∙ h.none }

still_order : (line : List ℕ) (order : Order) → HoldsOrder line order → HoldsOrder (strip_carriage_return line) order
still_order line order h =
    let same = same_text line (strip_carriage_return line) (loses line) h.plain in
    record { plain = ap is_text (sym same) ∙ h.plain; is = subst (λ (t : List ℕ). IsOrder order (words_of t)) same h.is }

still_line : (n : ℕ) (line : List ℕ) (ds : List Directive) → HoldDirectives n (line ∷ []) ds → HoldDirectives n (strip_carriage_return line ∷ []) ds
still_line n line ds (inl h) = inl (still_nothing line h.0, h.1)
still_line n line ds (inr h) = inr (h.0, h.1, h.2, still_order line h.0 h.3, h.4)

-- an empty last part becomes an empty line
empty_line : (n : ℕ) (ds : List Directive) → HoldDirectives n [] ds → HoldDirectives n ([] ∷ []) ds
empty_line n [] h = inl (record { plain = refl; none = refl }, tt)
empty_line n (d ∷ ds) h = absurd h

last_line : (n : ℕ) (part : List ℕ) (ds : List Directive) (b : Bool) → (length part == 0) ≡ b → HoldDirectives n (if b then [] else part ∷ []) ds → HoldDirectives n (strip_carriage_return part ∷ []) ds
last_line n [] ds b e h = empty_line n ds (subst (λ (t : Bool). HoldDirectives n (if t then [] else [] ∷ []) ds) (sym e) h)
last_line n (x ∷ xs) ds true e h = let none : suc (length xs) ≡ 0 = eqb-true _ _ e in absurd (omega (arith, none))
last_line n (x ∷ xs) ds false e h = still_line n (x ∷ xs) ds h

pub held_fed : (n : ℕ) (ps : List (List ℕ)) (ds : List Directive) → HoldDirectives n (lines_of_parts ps) ds → HoldDirectives n (lines_of_parts (ps ++ [] ∷ [])) ds
held_fed n [] ds h = h
held_fed n (p ∷ []) ds h = last_line n p ds (length p == 0) refl h
held_fed n (p ∷ q ∷ ps) ds (inl h) = inl (h.0, held_fed (n + 1) (q ∷ ps) ds h.1)
held_fed n (p ∷ q ∷ ps) ds (inr h) = inr (h.0, h.1, h.2, h.3, held_fed (n + 1) (q ∷ ps) h.1 h.4)
