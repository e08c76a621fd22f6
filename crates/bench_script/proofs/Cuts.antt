-- Where a text is cut, at a line that is the mark.
use Rattle.std.proofs.Common.{◌≡◌, ℕ, ◌+◌, ◌-◌, ◌==◌, List, [], ◌∷◌, ◌++◌, Option, Some, None, Bool, true, false, length, take, drop, get_or, refl, sym, ◌∙◌, ap, arith, cond, append_assoc, append-nil, eqb-true}
use Rattle.std.specs.Prelude.{option_map}
use Rattle.std.specs.List.{position, join_with_byte}
use Rattle.std.specs.Str.Lines.{strip_carriage_return}
use Rattle.std.proofs.Math.Seq.{take-add}
use Rattle.std.proofs.lemmas.List.{take_more, take_rest, drop-drop}
use Rattle.std.proofs.lemmas.List.Splits.{join_with_byte-slice_split}
use Rattle.std.proofs.lemmas.List.Quantifiers.{position-Some}
use Rattle.bench_script.specs.Lines.{is_line, split_at, split_parts}
use Rattle.bench_script.proofs.Parts.{cut, uncut, some_part}

-- a first line that is the mark
pub split_here : (mark xs : List ℕ) (n : ℕ) → position (λ b. b == 10) xs ≡ Some n → is_line mark (strip_carriage_return (take n xs)) ≡ true → split_at mark xs ≡ Some ([], drop (n + 1) xs)
split_here mark xs n h e =
    let s = some_part (λ b. b == 10) (drop (n + 1) xs) in
    let whole : join_with_byte 10 (s.0 ∷ s.1) ≡ drop (n + 1) xs = ap (join_with_byte 10) (sym s.2) ∙ join_with_byte-slice_split 10 (drop (n + 1) xs) in
    ap (split_parts mark) (cut (λ b. b == 10) xs n h) ∙ rw (s.2) (rw e (ap (λ (t : List ℕ). Some ([], t)) whole))

-- a first line that is another
pub split_on : (mark xs : List ℕ) (n : ℕ) → position (λ b. b == 10) xs ≡ Some n → is_line mark (strip_carriage_return (take n xs)) ≡ false → split_at mark xs ≡ option_map (λ p. (take n xs ++ 10 ∷ p.0, p.1)) (split_at mark (drop (n + 1) xs))
split_on mark xs n h e =
    let s = some_part (λ b. b == 10) (drop (n + 1) xs) in
    ap (split_parts mark) (cut (λ b. b == 10) xs n h) ∙ rw (s.2) (rw e refl)

-- a last line
pub split_last : (mark xs : List ℕ) (b : Bool) → position (λ b. b == 10) xs ≡ None → is_line mark xs ≡ b → split_at mark xs ≡ cond b (Some ([], [])) None
split_last mark xs b h e = ap (split_parts mark) (uncut (λ b. b == 10) xs h) ∙ rw e refl

-- a line more is taken
line_more : (xs zs : List ℕ) (start n : ℕ) → position (λ b. b == 10) (drop start xs) ≡ Some n → take start xs ++ (take n (drop start xs) ++ 10 ∷ zs) ≡ take (start + n + 1) xs ++ zs
line_more xs zs start n h =
    let p = position-Some (λ b. b == 10) (drop start xs) n 0 h in
    let feed : get_or (drop start xs) n 0 ≡ 10 = eqb-true _ _ p.1 in
    let more = take_more (drop start xs) n 0 p.0 in
    let sum : start + n + 1 ≡ start + (n + 1) = omega arith in
    rw (sum, take-add start (n + 1) xs, more, feed) (simp append_assoc)

pub cut_more : (xs : List ℕ) (start n : ℕ) (o : Option (List ℕ × List ℕ)) → position (λ b. b == 10) (drop start xs) ≡ Some n → option_map {U = List ℕ × List ℕ} (λ p. (take start xs ++ p.0, p.1)) (option_map {U = List ℕ × List ℕ} (λ p. (take n (drop start xs) ++ 10 ∷ p.0, p.1)) o) ≡ option_map {U = List ℕ × List ℕ} (λ p. (take (start + n + 1) xs ++ p.0, p.1)) o
cut_more xs start n None h = refl
cut_more xs start n (Some p) h = ap (λ (t : List ℕ). Some (t, p.1)) (line_more xs p.0 start n h)

-- the same at a place of a text, as the reader takes its slices
back : (start n : ℕ) → start + n - start ≡ n
back start n = omega arith

after : (xs : List ℕ) (start n : ℕ) → drop (n + 1) (drop start xs) ≡ drop (start + n + 1) xs
after xs start n = let sum : start + (n + 1) ≡ start + n + 1 = omega arith in drop-drop (n + 1) start xs ∙ ap (λ (k : ℕ). drop k xs) sum

place_in_rest : (xs : List ℕ) (start : ℕ) (o : Option ℕ) → o ≡ position (λ b. b == 10) (take (length xs - start) (drop start xs)) → position (λ b. b == 10) (drop start xs) ≡ o
place_in_rest xs start o h = ap (position (λ b. b == 10)) (sym (take_rest xs start)) ∙ sym h

pub cut_here : (mark xs : List ℕ) (start n : ℕ) → split_at mark xs ≡ option_map (λ p. (take start xs ++ p.0, p.1)) (split_at mark (drop start xs)) → Some n ≡ position (λ b. b == 10) (take (length xs - start) (drop start xs)) → is_line mark (strip_carriage_return (take (start + n - start) (drop start xs))) ≡ true → Some (take start xs, take (length xs - (start + n + 1)) (drop (start + n + 1) xs)) ≡ split_at mark xs
cut_here mark xs start n cut_so_far h e =
    let there = split_here mark (drop start xs) n (place_in_rest xs start (Some n) h) (rw (back start n) at e) in
    rw (take_rest xs (start + n + 1), cut_so_far, there, after xs start n, append-nil (take start xs)) refl

pub cut_on : (mark xs : List ℕ) (start n : ℕ) → split_at mark xs ≡ option_map (λ p. (take start xs ++ p.0, p.1)) (split_at mark (drop start xs)) → Some n ≡ position (λ b. b == 10) (take (length xs - start) (drop start xs)) → is_line mark (strip_carriage_return (take (start + n - start) (drop start xs))) ≡ false → split_at mark xs ≡ option_map (λ p. (take (start + n + 1) xs ++ p.0, p.1)) (split_at mark (drop (start + n + 1) xs))
cut_on mark xs start n cut_so_far h e =
    let place = place_in_rest xs start (Some n) h in
    let on = split_on mark (drop start xs) n place (rw (back start n) at e) in
    cut_so_far ∙ rw (on, after xs start n) (cut_more xs start n (split_at mark (drop (start + n + 1) xs)) place)

pub cut_last : (mark xs : List ℕ) (start : ℕ) (b : Bool) → split_at mark xs ≡ option_map (λ p. (take start xs ++ p.0, p.1)) (split_at mark (drop start xs)) → None ≡ position (λ b. b == 10) (take (length xs - start) (drop start xs)) → is_line mark (take (length xs - start) (drop start xs)) ≡ b → split_at mark xs ≡ cond b (Some (take start xs, [])) None
cut_last mark xs start true cut_so_far h e = cut_so_far ∙ rw (split_last mark (drop start xs) true (place_in_rest xs start None h) (rw (take_rest xs start) at e), append-nil (take start xs)) refl
cut_last mark xs start false cut_so_far h e = cut_so_far ∙ rw (split_last mark (drop start xs) false (place_in_rest xs start None h) (rw (take_rest xs start) at e)) refl
