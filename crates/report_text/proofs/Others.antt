-- A line with its number comes where the number does, and the line behind it.
use Rattle.std.proofs.Common.{◌≡◌, ℕ, ◌+◌, ◌-◌, ◌≤◌, List, ◌∷◌, ◌++◌, length, get_or, take, drop, Bool, true, false, not, ◌&&◌, Option, Some, None, ◌==◌, refl, sym, ◌∙◌, ap, subst, arith, append_assoc, length-append}
use Rattle.std.specs.Prelude.{IfOk, MatchOption, Result, Ok, Err, codes, decimal}
use Rattle.std.proofs.lemmas.List.{drop-drop, drop_at}
use Rattle.bench_report.specs.Lines.{Line, line_text, numbered}
use Rattle.trace_reader.proofs.Fronts.{first_byte}
use Rattle.report_text.specs.Unread.{comes}
use Rattle.report_text.proofs.Taking.{comes_again, comes_is}

agree : (a b : Bool) → (a ≡ true → b ≡ true) → (b ≡ true → a ≡ true) → a ≡ b
agree true b f g = sym (f refl)
agree false true f g = g refl
agree false false f g = refl

off : (b : Bool) → (b ≡ true → false ≡ true) → b ≡ false
off true f = sym (f refl)
off false f = refl

-- ---- a text behind another

-- the front comes, so the rest decides
joined : (front line text : List ℕ) → comes front text ≡ true → comes (front ++ line) text ≡ comes line (drop (length front) text)
joined front line text here =
    let rest = drop (length front) text in
    agree (comes (front ++ line) text) (comes line rest)
    (λ both. let end = drop (length (front ++ line)) text in
    let stands : text ≡ front ++ (line ++ end) = comes_is (front ++ line) text both ∙ append_assoc front line end in
    let behind : rest ≡ line ++ end = ap (λ (bs : List ℕ). drop (length front) bs) stands ∙ drop_at front (line ++ end) (length front) refl in
    subst (λ (bs : List ℕ). comes line bs ≡ true) (sym behind) (comes_again line end))
    (λ one. let end = drop (length line) rest in
    let stands : text ≡ (front ++ line) ++ end = comes_is front text here ∙ (ap (λ (bs : List ℕ). front ++ bs) (comes_is line rest one) ∙ sym (append_assoc front line end)) in
    subst (λ (bs : List ℕ). comes (front ++ line) bs ≡ true) (sym stands) (comes_again (front ++ line) end))

-- the front doesn't come
front_differs : (front line text : List ℕ) → comes front text ≡ false → comes (front ++ line) text ≡ false
front_differs front line text none =
    off (comes (front ++ line) text) (λ both.
    let end = drop (length (front ++ line)) text in
    let stands : text ≡ front ++ (line ++ end) = comes_is (front ++ line) text both ∙ append_assoc front line end in
    sym none ∙ subst (λ (bs : List ℕ). comes front bs ≡ true) (sym stands) (comes_again front (line ++ end)))

-- ---- a line behind its number

whole : (number : ℕ) (line : Line) (mark : List ℕ) → mark ≡ decimal number ++ codes " " → numbered number line ≡ mark ++ (line_text line ++ codes "\n")
whole number line mark is = sym (append_assoc (decimal number) (codes " ") (line_text line ++ codes "\n")) ∙ ap (λ (m : List ℕ). m ++ (line_text line ++ codes "\n")) (sym is)

-- another number comes
pub other_number : (number : ℕ) (line : Line) (mark left : List ℕ) → mark ≡ decimal number ++ codes " " → comes mark left ≡ false → comes (numbered number line) left ≡ false
other_number number line mark left is none =
    ap (λ (bs : List ℕ). comes bs left) (whole number line mark is) ∙ front_differs mark (line_text line ++ codes "\n") left none

-- the number comes, so the line behind it decides
pub behind_number : (number : ℕ) (line : Line) (mark left text : List ℕ) (right : Bool) → mark ≡ decimal number ++ codes " " → comes mark left ≡ true → text ≡ drop (length mark) left
    → comes (line_text line ++ codes "\n") text ≡ right → comes (numbered number line) left ≡ right
behind_number number line mark left text right is here rest decides =
    ap (λ (bs : List ℕ). comes bs left) (whole number line mark is)
    ∙ (joined mark (line_text line ++ codes "\n") left here
    ∙ (ap (λ (bs : List ℕ). comes (line_text line ++ codes "\n") bs) (sym rest) ∙ decides))

-- what is left behind both
left_behind : (number : ℕ) (line : Line) (mark left text end : List ℕ) → mark ≡ decimal number ++ codes " " → text ≡ drop (length mark) left → end ≡ drop (length (line_text line ++ codes "\n")) text
    → end ≡ drop (length (numbered number line)) left
left_behind number line mark left text end is rest past =
    past ∙ (ap (λ (bs : List ℕ). drop (length (line_text line ++ codes "\n")) bs) rest
    ∙ (drop-drop (length (line_text line ++ codes "\n")) (length mark) left
    ∙ ap (λ (n : ℕ). drop n left) (sym (ap length (whole number line mark is) ∙ length-append mark (line_text line ++ codes "\n")))))

left_length : (number : ℕ) (line : Line) (mark left text end : List ℕ) → mark ≡ decimal number ++ codes " " → length text + length mark ≡ length left
    → length end + length (line_text line ++ codes "\n") ≡ length text → length end + length (numbered number line) ≡ length left
left_length number line mark left text end is first second =
    let long : length (numbered number line) ≡ length mark + length (line_text line ++ codes "\n") = ap length (whole number line mark is) ∙ length-append mark (line_text line ++ codes "\n") in
    omega (arith, first, second, long)

-- what is behind the line is what is left
found : {T : Type 0} (now : T → List ℕ) (number : ℕ) (line : Line) (mark left text : List ℕ) (end : Option T) → mark ≡ decimal number ++ codes " " → comes mark left ≡ true → text ≡ drop (length mark) left
    → length text + length mark ≡ length left
    → MatchOption end (comes (line_text line ++ codes "\n") text ≡ false)
    (λ e. (comes (line_text line ++ codes "\n") text ≡ true) × (now e ≡ drop (length (line_text line ++ codes "\n")) text) × (length (now e) + length (line_text line ++ codes "\n") ≡ length text))
    → MatchOption end (comes (numbered number line) left ≡ false)
    (λ e. (comes (numbered number line) left ≡ true) × (now e ≡ drop (length (numbered number line)) left) × (length (now e) + length (numbered number line) ≡ length left))
found now number line mark left text None is here rest long differs = behind_number number line mark left text false is here rest differs
found now number line mark left text (Some end) is here rest long stands =
    (behind_number number line mark left text true is here rest stands.0, left_behind number line mark left text (now end) is rest stands.1, left_length number line mark left text (now end) is long stands.2)

pub found_ok : {T E : Type 0} (now : T → List ℕ) (number : ℕ) (line : Line) (mark left text : List ℕ) (end : Result (Option T) E) → mark ≡ decimal number ++ codes " " → comes mark left ≡ true → text ≡ drop (length mark) left
    → length text + length mark ≡ length left
    → IfOk end (λ end. MatchOption end (comes (line_text line ++ codes "\n") text ≡ false)
    (λ e. (comes (line_text line ++ codes "\n") text ≡ true) × (now e ≡ drop (length (line_text line ++ codes "\n")) text) × (length (now e) + length (line_text line ++ codes "\n") ≡ length text)))
    → IfOk end (λ end. MatchOption end (comes (numbered number line) left ≡ false)
    (λ e. (comes (numbered number line) left ≡ true) × (now e ≡ drop (length (numbered number line)) left) × (length (now e) + length (numbered number line) ≡ length left)))
found_ok now number line mark left text (Ok end) is here rest long stands = found now number line mark left text end is here rest long stands
found_ok now number line mark left text (Err e) is here rest long stands = tt

-- ---- its first letter

not_is : (b : Bool) → not b ≡ true → b ≡ false
not_is true e = sym e
not_is false e = refl

pub letter_differs : (line : Line) (letter other : ℕ) (tail text : List ℕ) → line_text line ≡ letter ∷ tail → 1 ≤ length text → not (get_or text 0 other == letter) ≡ true
    → comes (line_text line ++ codes "\n") text ≡ false
letter_differs line letter other tail text is some differs =
    let behind = take (length text - 1) (drop 1 text) in
    subst (λ (bs : List ℕ). comes (bs ++ codes "\n") text ≡ false) (sym is)
    (subst (λ (bs : List ℕ). comes (letter ∷ (tail ++ codes "\n")) bs ≡ false) (sym (first_byte text other some))
    (ap (λ (b : Bool). b && comes (tail ++ codes "\n") behind) (not_is (get_or text 0 other == letter) differs)))
