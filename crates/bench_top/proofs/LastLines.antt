-- The last lines of a text, by where they begin.
use Rattle.std.proofs.Common.{◌≡◌, ℕ, zero, suc, ◌+◌, ◌-◌, ◌<◌, ◌≤◌, Bool, true, false, List, [], ◌∷◌, ◌++◌, refl, ap, sym, subst, ◌∙◌, append-nil, append_assoc, arith, length, take, drop, drop-drop, length-append, length-drop, length-take, Option, Some, None}
use Rattle.std.specs.Prelude.{◌==◌, slice_get, unwrap_or}
use Rattle.std.specs.List.{concat, onto_first}
use Rattle.std.proofs.lemmas.Bool.Decides.{nat_tests}
use Rattle.std.proofs.lemmas.List.{drop-append-le, drop_all, take_all}
use Rattle.std.proofs.Math.Seq.{drop-append-add, drop-nil}
use Rattle.circular_buffer.specs.Buffer.{Buffer, buffer, keep_last}
use Rattle.bench_top.specs.Tail.{lines, last_lines, first_len}

-- ---- the first line of a text

len_feed : (b : ℕ) (bs : List ℕ) → (b == 10) ≡ true → first_len (b ∷ bs) ≡ 1
len_feed b bs e = rw e (omega arith)

len_other : (b : ℕ) (bs : List ℕ) → (b == 10) ≡ false → first_len (b ∷ bs) ≡ suc (first_len bs)
len_other b bs e = rw e (omega arith)

is_feed : (b : ℕ) → (b == 10) ≡ true → b ≡ 10
is_feed b e = grind (arith, nat_tests, e)

first_by : (b : ℕ) (bs : List ℕ) (t : Bool) → (b == 10) ≡ t → (0 < length bs → lines bs ≡ take (first_len bs) bs ∷ lines (drop (first_len bs) bs)) →
    lines (b ∷ bs) ≡ take (first_len (b ∷ bs)) (b ∷ bs) ∷ lines (drop (first_len (b ∷ bs)) (b ∷ bs))
first_by b bs true e h = rw (len_feed b bs e, e) (ap (λ (c : ℕ). (c ∷ []) ∷ lines bs) (sym (is_feed b e)))
first_by b [] false e h = rw (len_other b [] e, e) refl
first_by b (c ∷ cs) false e h = rw (len_other b (c ∷ cs) e, e) (ap (λ ls. onto_first b ls) (h (omega arith)))

pub first_line : (text : List ℕ) → 0 < length text → lines text ≡ take (first_len text) text ∷ lines (drop (first_len text) text)
first_line [] lt = absurd (omega (arith, lt))
first_line (b ∷ bs) lt = first_by b bs (b == 10) refl (λ more. first_line bs more)

concat-onto : (b : ℕ) (ls : List (List ℕ)) → concat (onto_first b ls) ≡ b ∷ concat ls
concat-onto b [] = refl
concat-onto b (line ∷ ls) = refl

concat_by : (b : ℕ) (bs : List ℕ) (t : Bool) → (b == 10) ≡ t → concat (lines bs) ≡ bs → concat (lines (b ∷ bs)) ≡ b ∷ bs
concat_by b bs true e h = rw e (ap (λ cs. 10 ∷ cs) h ∙ ap (λ (c : ℕ). c ∷ bs) (sym (is_feed b e)))
concat_by b bs false e h = rw e (concat-onto b (lines bs) ∙ ap (λ cs. b ∷ cs) h)

concat-lines : (text : List ℕ) → concat (lines text) ≡ text
concat-lines [] = refl
concat-lines (b ∷ bs) = concat_by b bs (b == 10) refl (concat-lines bs)

-- ---- where lines begin

abbrev pub starts : (at : ℕ) → List (List ℕ) → List ℕ
starts at [] = []
starts at (line ∷ ls) = at ∷ starts (at + length line) ls

length-starts : (at : ℕ) (ls : List (List ℕ)) → length (starts at ls) ≡ length ls
length-starts at [] = refl
length-starts at (line ∷ ls) = ap (λ n. suc n) (length-starts (at + length line) ls)

-- where the line at a place begins
start_at : (ls : List (List ℕ)) (at i k : ℕ) → slice_get (starts at ls) i ≡ Some k → (at ≤ k) × (k ≤ at + length (concat ls)) × (drop (k - at) (concat ls) ≡ concat (drop i ls))
start_at [] at i k h = cc
start_at (line ∷ ls) at zero k h =
    let e : at ≡ k = cc in
    let none : k - at ≡ 0 = omega (arith, e) in
    (omega (arith, e), omega (arith, e), ap (λ d. drop d (line ++ concat ls)) none)
start_at (line ∷ ls) at (suc i) k h =
    let more = start_at ls (at + length line) i k h in
    let low = more.0 in
    let high = more.1 in
    let whole = length-append line (concat ls) in
    let past : k - at ≡ length line + (k - (at + length line)) = omega (arith, low) in
    (omega (arith, low), omega (arith, high, whole), ap (λ d. drop d (line ++ concat ls)) past ∙ drop-append-add line (concat ls) (k - (at + length line)) ∙ more.2)

-- ---- what a ring of n places keeps

-- after more was put in
abbrev pub kept_after : (n : ℕ) → List ℕ → List ℕ → List ℕ
kept_after n kept [] = kept
kept_after n kept (x ∷ xs) = kept_after n (keep_last n (kept ++ x ∷ [])) xs

keep_twice : (n : ℕ) (xs : List ℕ) (x : ℕ) → keep_last n (keep_last n xs ++ x ∷ []) ≡ keep_last n (xs ++ x ∷ [])
keep_twice n xs x =
    let gone = length xs - n in
    let more = length (drop gone xs ++ x ∷ []) - n in
    let joined = length-append (drop gone xs) (x ∷ []) in
    let whole = length-append xs (x ∷ []) in
    let cut = length-drop gone xs in
    let is : gone + more ≡ length (xs ++ x ∷ []) - n = omega (arith, joined, whole, cut) in
    ap (λ zs. drop more zs) (sym (drop-append-le gone xs (x ∷ []) (omega arith))) ∙ drop-drop more gone (xs ++ x ∷ []) ∙ ap (λ k. drop k (xs ++ x ∷ [])) is

kept_last : (n : ℕ) (xs ys : List ℕ) → kept_after n (keep_last n xs) ys ≡ keep_last n (xs ++ ys)
kept_last n xs [] = ap (λ zs. keep_last n zs) (sym (append-nil xs))
kept_last n xs (y ∷ ys) =
    ap (λ zs. kept_after n zs ys) (keep_twice n xs y) ∙ kept_last n (xs ++ y ∷ []) ys ∙ ap (λ zs. keep_last n zs) (append_assoc xs (y ∷ []) ys)

kept_all : (n : ℕ) (ys : List ℕ) → kept_after n [] ys ≡ keep_last n ys
kept_all n ys = ap (λ zs. kept_after n zs ys) (sym (drop-nil (0 - n))) ∙ kept_last n [] ys

-- ---- the loop over the lines

-- what is still to be put in leaves what all lines leave
abbrev pub IsKept : (n start : ℕ) (text kept : List ℕ) → Type 0
IsKept n start text kept = kept_after n kept (starts start (lines (drop start text))) ≡ kept_after n [] (starts 0 (lines text))

pub first_kept : (n : ℕ) (text kept : List ℕ) → kept ≡ [] → IsKept n 0 text kept
first_kept n text kept e = ap (λ zs. kept_after n zs (starts 0 (lines text))) e

first_rest : (start : ℕ) (text : List ℕ) → first_len (take (length text - start) (drop start text)) ≡ first_len (drop start text)
first_rest start text = ap (λ zs. first_len zs) (take_all (length text - start) (drop start text) (let rest = length-drop start text in omega (arith, rest)))

first_within : (start : ℕ) (text : List ℕ) → start < length text → (0 < first_len (drop start text)) × (start + first_len (drop start text) ≤ length text)
first_within start text lt = let rest = length-drop start text in (omega (arith, lt, rest), omega (arith, lt, rest))

next_at : (n start : ℕ) (text kept : List ℕ) → start < length text → IsKept n start text kept → IsKept n (start + first_len (drop start text)) text (keep_last n (kept ++ start ∷ []))
next_at n start text kept lt h =
    let rest = drop start text in
    let len = first_len rest in
    let more = length-drop start text in
    let inside = first_within start text lt in
    let low = inside.1 in
    let cut_len = length-take len rest in
    let size : length (take len rest) ≡ len = omega (arith, low, lt, more, cut_len) in
    let cut : starts start (lines rest) ≡ start ∷ starts (start + len) (lines (drop (start + len) text)) =
    ap (λ ls. starts start ls) (first_line rest (omega (arith, lt, more)))
    ∙ ap (λ k. start ∷ starts (start + k) (lines (drop len rest))) size
    ∙ ap (λ zs. start ∷ starts (start + len) (lines zs)) (drop-drop len start text) in
    sym (ap (λ zs. kept_after n kept zs) cut) ∙ h

-- a turn of the loop: where the next line begins was put in, and its bytes were passed
pub record TurnIs (n start len : ℕ) (text : List ℕ) (ring : Buffer ℕ) : Type 0 where
  pub capacity : ring.capacity ≡ n
  pub some : 0 < len
  pub within : start + len ≤ length text
  pub kept : IsKept n (start + len) text ring.items

pub turn_is : (n start len : ℕ) (text : List ℕ) (old ring : Buffer ℕ) → start < length text → old.capacity ≡ n → len ≡ first_len (take (length text - start) (drop start text)) →
    ring ≡ buffer (keep_last old.capacity (old.items ++ start ∷ [])) old.capacity → IsKept n start text old.items → TurnIs n start len text ring
turn_is n start len text old ring lt cap is put h =
    let size : len ≡ first_len (drop start text) = is ∙ first_rest start text in
    let inside = first_within start text lt in
    let low = inside.0 in
    let high = inside.1 in
    record {
      capacity = ap (λ (b : Buffer ℕ). b.capacity) put ∙ cap;
      some = omega (arith, size, low);
      within = omega (arith, size, high);
      kept = subst (λ (k : ℕ). IsKept n (start + k) text ring.items) (sym size)
          (subst (λ (zs : List ℕ). IsKept n (start + first_len (drop start text)) text zs) (sym (ap (λ (b : Buffer ℕ). b.items) put ∙ ap (λ k. keep_last k (old.items ++ start ∷ [])) cap))
          (next_at n start text old.items lt h));
    }

end_kept : (n start : ℕ) (text kept : List ℕ) → length text ≤ start → IsKept n start text kept → kept ≡ keep_last n (starts 0 (lines text))
end_kept n start text kept past h =
    sym (ap (λ zs. kept_after n kept (starts start (lines zs))) (drop_all start text past)) ∙ h ∙ kept_all n (starts 0 (lines text))

-- ---- the end

get_drop : {A : Type 0} (i : ℕ) (xs : List A) → slice_get (drop i xs) 0 ≡ slice_get xs i
get_drop zero xs = refl
get_drop (suc i) [] = refl
get_drop (suc i) (x ∷ xs) = get_drop i xs

-- from where the first line begins that is kept, where one is
at_first : (n k : ℕ) (text kept : List ℕ) → kept ≡ keep_last n (starts 0 (lines text)) → slice_get kept 0 ≡ Some k → (k ≤ length text) × (drop k text ≡ last_lines n text)
at_first n k text kept e h =
    let ls = lines text in
    let gone = length (starts 0 ls) - n in
    let at = start_at ls 0 gone k (sym (get_drop gone (starts 0 ls)) ∙ sym (ap (λ zs. slice_get zs 0) e) ∙ h) in
    let high = at.1 in
    let size = ap (λ zs. length zs) (concat-lines text) in
    let same : k ≡ k - 0 = omega arith in
    (omega (arith, high, size), ap (λ zs. drop k zs) (sym (concat-lines text)) ∙ ap (λ j. drop j (concat ls)) same ∙ at.2 ∙ ap (λ c. concat (drop (c - n) ls)) (length-starts 0 ls))

no_first : (xs : List ℕ) → slice_get xs 0 ≡ None → length xs ≡ 0
no_first [] h = refl
no_first (x ∷ xs) h = cc

none_kept : (n : ℕ) (text kept : List ℕ) → kept ≡ keep_last n (starts 0 (lines text)) → slice_get kept 0 ≡ None → [] ≡ last_lines n text
none_kept n text kept e h =
    let ls = lines text in
    let none = no_first kept h in
    let is = ap (λ zs. length zs) e in
    let size = length-starts 0 ls in
    let cut = length-drop (length (starts 0 ls) - n) (starts 0 ls) in
    sym (ap (λ zs. concat zs) (drop_all (length ls - n) ls (omega (arith, none, is, size, cut))))

from_first : (n first : ℕ) (text kept : List ℕ) (o : Option ℕ) → kept ≡ keep_last n (starts 0 (lines text)) → slice_get kept 0 ≡ o → first ≡ unwrap_or o (length text) → (first ≤ length text) × (drop first text ≡ last_lines n text)
from_first n first text kept None e h is =
    let all : length text ≤ first = omega (arith, is) in
    (omega (arith, is), drop_all first text all ∙ none_kept n text kept e h)
from_first n first text kept (Some k) e h is =
    let at = at_first n k text kept e h in
    let low = at.0 in
    (omega (arith, is, low), ap (λ j. drop j text) is ∙ at.1)

-- the text from there on, or nothing where no line is kept
pub from_front : (n start first : ℕ) (text kept : List ℕ) → length text ≤ start → IsKept n start text kept → first ≡ unwrap_or (slice_get kept 0) (length text) → (first ≤ length text) × (drop first text ≡ last_lines n text)
from_front n start first text kept past h is = from_first n first text kept (slice_get kept 0) (end_kept n start text kept past h) refl is
