-- Values of rounds.
use Rattle.std.proofs.Common.{◌≡◌, ◌⊎◌, inl, inr, ◌*◌, ◌/◌, ◌^◌, true, ℕ, zero, suc, ◌+◌, ◌-◌, ◌<◌, ◌≤◌, min, List, [], ◌∷◌, ◌++◌, length, refl, sym, ◌∙◌, ap, arith, drop, take, get_or}
use Rattle.std.specs.Prelude.{nat_le, slice_index_or, slice_range, is_some, option_map, Option, Some, None}
use Rattle.std.proofs.lemmas.List.{append_assoc, append-nil, drop_all, drop_more, length-append, length-drop, length-take, take_all}
use Rattle.std.proofs.lemmas.Bool.Decides.{nat_tests}
use Rattle.run_model.specs.World.{Sample, sample_at}
use Rattle.adc_machine.specs.Groups.{levels_from, newest}

-- the levels of one more input
pub levels_next : (taken : List Sample) (time : ℕ) (inputs values : List ℕ) (k : ℕ) → k < length inputs
    → values ++ levels_from taken time (drop k inputs) ≡ (values ++ sample_at taken (get_or inputs k 0) (time + 4) ∷ []) ++ levels_from taken (time + 4) (drop (k + 1) inputs)
levels_next taken time inputs values k lt =
    ap (λ xs. values ++ levels_from taken time xs) (drop_more inputs k 0 lt)
    ∙ sym (append_assoc values (sample_at taken (get_or inputs k 0) (time + 4) ∷ []) (levels_from taken (time + 4) (drop (k + 1) inputs)))

-- with one more round that one is the newest
pub newest_is : (rounds : List (List ℕ)) (values : List ℕ) → newest (rounds ++ values ∷ []) ≡ values
newest_is [] values = refl
newest_is (x ∷ xs) values = ap (λ n. slice_index_or (x ∷ (xs ++ values ∷ [])) n []) (last xs values) ∙ behind xs values
  where
    last : (xs : List (List ℕ)) (values : List ℕ) → suc (length (xs ++ values ∷ [])) - 1 ≡ suc (length xs)
    last xs values = omega (arith, length-append xs (values ∷ []))

    behind : (xs : List (List ℕ)) (values : List ℕ) → slice_index_or (xs ++ values ∷ []) (length xs) [] ≡ values
    behind [] values = refl
    behind (y ∷ ys) values = behind ys values

-- what is mapped is there where it was
pub some_mapped : {X Y : Type 0} (f : X → Y) (o : Option X) → is_some (option_map f o) ≡ is_some o
some_mapped f None = refl
some_mapped f (Some x) = refl

-- all of a list, and no more than all
pub take_within : (n : ℕ) (xs : List ℕ) → take (min n (length xs)) xs ≡ take n xs
take_within n xs = by (order n (length xs))
  where
    order : (a b : ℕ) → (a ≤ b) ⊎ (b ≤ a)
    order a b = grind arith

    by : (n ≤ length xs) ⊎ (length xs ≤ n) → take (min n (length xs)) xs ≡ take n xs
    by (inl le) = let e : min n (length xs) ≡ n = omega (arith, le) in ap (λ m. take m xs) e
    by (inr le) = let e : min n (length xs) ≡ length xs = omega (arith, le) in ap (λ m. take m xs) e ∙ (take_all (length xs) xs (omega arith) ∙ sym (take_all n xs le))

-- behind the last one there is none
pub levels_past : (taken : List Sample) (time n k : ℕ) (inputs values : List ℕ) → length inputs ≤ k → values ≡ values ++ levels_from taken time (take n (drop k inputs))
levels_past taken time n k inputs values le = sym (ap (λ xs. values ++ levels_from taken time (take n xs)) (drop_all k inputs le) ∙ (ap (λ xs. values ++ levels_from taken time xs) (none n) ∙ append-nil values))
  where
    none : (n : ℕ) → take {A = ℕ} n [] ≡ []
    none zero = refl
    none (suc n) = refl

pub levels_none : (taken : List Sample) (time n k : ℕ) (values : List ℕ) → values ≡ values ++ levels_from taken time (take n (drop k []))
levels_none taken time n k values = levels_past taken time n k [] values (omega arith)

-- the inputs of a range are those that come next
pub range_is : (xs ys : List ℕ) (from k ended : ℕ) → xs ≡ ys → from ≡ k → slice_range xs from (from + ended) ≡ take ended (drop k ys)
range_is xs ys from k ended e f = ap (λ n. take n (drop from xs)) (more from ended) ∙ (ap (λ zs. take ended (drop from zs)) e ∙ ap (λ n. take ended (drop n ys)) f)
  where
    more : (from ended : ℕ) → (from + ended) - from ≡ ended
    more from ended = omega arith

-- what a test of numbers means
pub le_known : (m n : ℕ) → nat_le m n ≡ true → m ≤ n
le_known m n e = grind (arith, nat_tests)

-- the inputs that have ended, at most these, ended before now
pub ended_fits : (start now ended passed left : ℕ) → passed ≡ now - start → ended ≡ min (passed / 4) left → now < 2 ^ 64 → start < 2 ^ 64 → start + 4 * ended < 2 ^ 64
ended_fits start now ended passed left e f small room = by (order start now)
  where
    order : (a b : ℕ) → (a ≤ b) ⊎ (b ≤ a)
    order a b = grind arith

    four : passed / 4 * 4 ≤ passed
    four = omega arith

    by : (start ≤ now) ⊎ (now ≤ start) → start + 4 * ended < 2 ^ 64
    by (inl le) = omega (arith, e, f, le, small, four)
    by (inr le) = omega (arith, e, f, le, room, four)

-- where there are fewer than all, the next place is there
pub has_room : (items : List ℕ) (count : ℕ) → length items ≡ 32 → length (take count items) < 32 → count < length items
has_room items count size few = omega (arith, size, few, length-take count items)

-- so many of the inputs that are left are within the range
pub left_within : (xs ys : List ℕ) (from k ended : ℕ) → xs ≡ ys → from ≡ k → from < length xs → ended ≤ length (drop k ys) → from + ended ≤ length xs
left_within xs ys from k ended e f lt few = omega (arith, ap length e, f, lt, few, length-drop k ys)

pub range_length : (xs : List ℕ) (from ended : ℕ) → from + ended ≤ length xs → length (slice_range xs from (from + ended)) ≡ ended
range_length xs from ended le = omega (arith, le, length-take ((from + ended) - from) (drop from xs), length-drop from xs)
