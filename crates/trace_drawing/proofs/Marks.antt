-- Where a report is cut off.
use Rattle.std.proofs.Common.{◌≡◌, ℕ, ◌+◌, ◌-◌, ◌==◌, List, [], ◌∷◌, ◌++◌, Option, Some, None, true, false, length, take, drop, refl, sym, ◌∙◌, ap, arith, append-nil}
use Rattle.std.specs.Prelude.{option_map}
use Rattle.std.specs.List.{position, join_with_byte}
use Rattle.std.proofs.lemmas.List.{take_rest, drop-drop}
use Rattle.std.proofs.lemmas.List.Splits.{join_with_byte-slice_split}
use Rattle.bench_script.proofs.Cuts.{cut_more}
use Rattle.bench_script.proofs.Parts.{cut, uncut, some_part}
use Rattle.trace_drawing.specs.Judged.{is_mark, split_parts, split_report}

-- a first line that is the mark
first_here : (xs : List ℕ) (n : ℕ) → position (λ b. b == 10) xs ≡ Some n → is_mark (take n xs) ≡ true → split_report xs ≡ Some ([], drop (n + 1) xs)
first_here xs n h e =
    let s = some_part (λ b. b == 10) (drop (n + 1) xs) in
    let whole : join_with_byte 10 (s.0 ∷ s.1) ≡ drop (n + 1) xs = ap (join_with_byte 10) (sym s.2) ∙ join_with_byte-slice_split 10 (drop (n + 1) xs) in
    ap split_parts (cut (λ b. b == 10) xs n h) ∙ rw (s.2) (rw e (ap (λ (t : List ℕ). Some ([], t)) whole))

-- a first line that is another
first_on : (xs : List ℕ) (n : ℕ) → position (λ b. b == 10) xs ≡ Some n → is_mark (take n xs) ≡ false → split_report xs ≡ option_map (λ p. (take n xs ++ 10 ∷ p.0, p.1)) (split_report (drop (n + 1) xs))
first_on xs n h e =
    let s = some_part (λ b. b == 10) (drop (n + 1) xs) in
    ap split_parts (cut (λ b. b == 10) xs n h) ∙ rw (s.2) (rw e refl)

-- a text without a line
first_none : (xs : List ℕ) → position (λ b. b == 10) xs ≡ None → split_report xs ≡ None
first_none xs h = ap split_parts (uncut (λ b. b == 10) xs h)

-- the same at a place of a text, as the reader takes its slices
back : (start n : ℕ) → start + n - start ≡ n
back start n = omega arith

after : (xs : List ℕ) (start n : ℕ) → drop (n + 1) (drop start xs) ≡ drop (start + n + 1) xs
after xs start n = let sum : start + (n + 1) ≡ start + n + 1 = omega arith in drop-drop (n + 1) start xs ∙ ap (λ (k : ℕ). drop k xs) sum

place_in_rest : (xs : List ℕ) (start : ℕ) (o : Option ℕ) → o ≡ position (λ b. b == 10) (take (length xs - start) (drop start xs)) → position (λ b. b == 10) (drop start xs) ≡ o
place_in_rest xs start o h = ap (position (λ b. b == 10)) (sym (take_rest xs start)) ∙ sym h

pub mark_here : (xs : List ℕ) (start n : ℕ) → split_report xs ≡ option_map (λ p. (take start xs ++ p.0, p.1)) (split_report (drop start xs)) → Some n ≡ position (λ b. b == 10) (take (length xs - start) (drop start xs)) →
    is_mark (take (start + n - start) (drop start xs)) ≡ true → Some (take start xs, take (length xs - (start + n + 1)) (drop (start + n + 1) xs)) ≡ split_report xs
mark_here xs start n so_far h e =
    let there = first_here (drop start xs) n (place_in_rest xs start (Some n) h) (rw (back start n) at e) in
    rw (take_rest xs (start + n + 1), so_far, there, after xs start n, append-nil (take start xs)) refl

pub mark_on : (xs : List ℕ) (start n : ℕ) → split_report xs ≡ option_map (λ p. (take start xs ++ p.0, p.1)) (split_report (drop start xs)) → Some n ≡ position (λ b. b == 10) (take (length xs - start) (drop start xs)) →
    is_mark (take (start + n - start) (drop start xs)) ≡ false → split_report xs ≡ option_map (λ p. (take (start + n + 1) xs ++ p.0, p.1)) (split_report (drop (start + n + 1) xs))
mark_on xs start n so_far h e =
    let place = place_in_rest xs start (Some n) h in
    let on = first_on (drop start xs) n place (rw (back start n) at e) in
    so_far ∙ rw (on, after xs start n) (cut_more xs start n (split_report (drop (start + n + 1) xs)) place)

pub mark_none : (xs : List ℕ) (start : ℕ) → split_report xs ≡ option_map (λ p. (take start xs ++ p.0, p.1)) (split_report (drop start xs)) → None ≡ position (λ b. b == 10) (take (length xs - start) (drop start xs)) → split_report xs ≡ None
mark_none xs start so_far h = so_far ∙ rw (first_none (drop start xs) (place_in_rest xs start None h)) refl
