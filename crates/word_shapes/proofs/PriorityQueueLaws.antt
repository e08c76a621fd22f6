-- The routines of an order do what the calls promise.
use Rattle.std.proofs.Common.{Option, None, ◌≡◌, ℕ, ◌+◌, ◌-◌, ◌/◌, ◌%◌, ◌^◌, ◌<◌, ◌≤◌, true, false, nat_lt, List, [], ◌∷◌, ◌++◌, length, refl, sym, ◌∙◌, ap, subst, arith, append_assoc, ◌⊎◌, inl, inr}
use Rattle.std.specs.Prelude.{if◌then◌else◌, bit_or}
use Rattle.std.proofs.lemmas.Bool.{cases_lt, lt-ltb, le-ltb, le-leb, lt-leb, eq-eqb, false≢true}
use Rattle.std.proofs.lemmas.Bool.Decides.{nat_tests}
use Rattle.std.proofs.lemmas.List.{map-append}
use Rattle.mcal_base.specs.Bits.{without as bits_without}
use Rattle.mcal_base.specs.declared.moves.Event.{Event}
use Rattle.word_shapes.specs.Playing.{Memory, stored, Ends, Agree}
use Rattle.word_shapes.specs.Order.{Entry, is_there, IsOnce, AllBelow, added, with_wait, waiting, without, choice, chosen}
use Rattle.word_shapes.specs.Packing.{places, order_of, marked, entries, count_in, marks_in, tally_of, ranked_of, appended, taken_out, tally_added, tally_marked, tally_cleared}
use Rattle.word_shapes.specs.PriorityQueue.{words_of, own_of, Holds, choosing_front, choosing_next, adding, waiting_again, dropping}
use Rattle.word_shapes.specs.declared.priority_queue.PriorityQueue.{PriorityQueue}
use Rattle.word_shapes.specs.declared.search.Search.TheVariants as search
use Rattle.word_shapes.specs.declared.add.Add.TheVariants as add
use Rattle.word_shapes.specs.declared.again.Again.TheVariants as again
use Rattle.word_shapes.specs.declared.choosing.Next.TheVariants as next
use Rattle.word_shapes.specs.declared.dropped.Dropped.TheVariants as dropped
use Rattle.word_shapes.proofs.PlayingLaws.{stored-same, stored-other}
use Rattle.word_shapes.proofs.OrderLaws.{once-waiting, waiting-absent, once-added, once-without, finds_room, at_most}
use Rattle.word_shapes.proofs.PackingLaws.{places-mod, places-few, places-many, places-appended, count-tally, marks-tally, count-less, marks-less, count-small, length-entries, below-entries, entries-set, entries-clear, entries-taken, some_there}

-- ---- its words

pub own-low : (r : PriorityQueue) → own_of r r.at ≡ true
own-low r = grind (arith, nat_tests)

pub own-high : (r : PriorityQueue) → own_of r (r.at + 1) ≡ true
own-high r = grind (arith, nat_tests)

pub own-tally : (r : PriorityQueue) → own_of r (r.at + 2) ≡ true
own-tally r = grind (arith, nat_tests)

abbrev tally_in : PriorityQueue → Memory → ℕ
tally_in r m = m (r.at + 2)

abbrev count_at : PriorityQueue → Memory → ℕ
count_at r m = count_in (tally_in r m)

-- ---- what the words say

pub holds-count : (r : PriorityQueue) (m : Memory) (xs : List Entry) → Holds r m xs → length xs ≡ count_at r m
holds-count r m xs h = ap length (sym h.is) ∙ length-entries (marks_in (tally_in r m)) (count_at r m) (order_of (m r.at) (m (r.at + 1)))

pub holds-below : (r : PriorityQueue) (m : Memory) (xs : List Entry) → Holds r m xs → AllBelow xs
holds-below r m xs h = subst AllBelow h.is (below-entries (marks_in (tally_in r m)) (count_at r m) (order_of (m r.at) (m (r.at + 1))))

holds-most : (r : PriorityQueue) (m : Memory) (xs : List Entry) → Holds r m xs → count_at r m ≤ 16
holds-most r m xs h = let most = at_most xs h.once (holds-below r m xs h) in let e = holds-count r m xs h in omega arith

holds-room : (r : PriorityQueue) (m : Memory) (xs : List Entry) (n : ℕ) → Holds r m xs → n < 16 → is_there n xs ≡ false → count_at r m < 16
holds-room r m xs n h lt absent =
    let room = finds_room n xs lt absent h.once (holds-below r m xs h) in let e = holds-count r m xs h in omega arith

-- what three words say, with the word of the other places left out where it isn't needed
few-say : (r : PriorityQueue) (m : Memory) (xs : List Entry) → Holds r m xs → count_at r m ≤ 8 → ranked_of (m r.at) 0 (tally_in r m) ≡ xs
few-say r m xs h le =
    ap (entries (marks_in (tally_in r m))) (places-few (count_at r m) (m r.at) 0 le ∙ sym (places-few (count_at r m) (m r.at) (m (r.at + 1)) le)) ∙ h.is

-- ---- a choice that changes nothing

front-few : (r : PriorityQueue) (ranks : List ℕ) (m : Memory) (xs : List Entry) → Holds r m xs → count_at r m ≤ 8
    → Ends choosing_front (own_of r) 2 (record { search = search.Tally (words_of r); ranks = ranks }) m (λ after words. Holds r after xs × (words ≡ choice ranks xs ∷ []))
front-few r ranks m xs h le =
    (own-tally r, refl, rw (le-leb (count_at r m) 8 le) (own-low r, refl, (refl, (h, ap (λ ys. choice ranks ys ∷ []) (few-say r m xs h le)))))

front-many : (r : PriorityQueue) (ranks : List ℕ) (m : Memory) (xs : List Entry) → Holds r m xs → 8 < count_at r m
    → Ends choosing_front (own_of r) 3 (record { search = search.Tally (words_of r); ranks = ranks }) m (λ after words. Holds r after xs × (words ≡ choice ranks xs ∷ []))
front-many r ranks m xs h lt =
    (own-tally r, refl, rw (lt-leb (count_at r m) 8 lt) (own-low r, refl, (own-high r, refl, (refl, (h, ap (λ ys. choice ranks ys ∷ []) h.is)))))

pub front-ends : (r : PriorityQueue) (ranks : List ℕ) (m : Memory) (xs : List Entry) → Holds r m xs
    → Ends choosing_front (own_of r) (if nat_lt 8 (length xs) then 3 else 2) (record { search = search.Tally (words_of r); ranks = ranks }) m (λ after words. Holds r after xs × (words ≡ choice ranks xs ∷ []))
front-ends r ranks m xs h =
    elim (cases_lt 8 (count_at r m)) [
      | inl lt ↦ rw (holds-count r m xs h, lt-ltb 8 (count_at r m) lt) (front-many r ranks m xs h lt)
      | inr le ↦ rw (holds-count r m xs h, le-ltb 8 (count_at r m) le) (front-few r ranks m xs h le)
    ]

-- ---- what the words say once they are written

says : (r : PriorityQueue) (m : Memory) (low high tally : ℕ) (xs : List Entry) → m r.at ≡ low → m (r.at + 1) ≡ high → m (r.at + 2) ≡ tally
    → ranked_of low high tally ≡ xs → IsOnce xs → Holds r m xs
says r m low high tally xs a b c is once = record { is = rw (a, b, c) is; once = once }

-- the third word alone
told : (r : PriorityQueue) (m : Memory) (tally : ℕ) (xs : List Entry) → ranked_of (m r.at) (m (r.at + 1)) tally ≡ xs → IsOnce xs → Holds r (stored m (r.at + 2) tally) xs
told r m tally xs is once =
    says r (stored m (r.at + 2) tally) (m r.at) (m (r.at + 1)) tally xs
    (stored-other m r.at (r.at + 2) tally (λ e. omega arith))
    (stored-other m (r.at + 1) (r.at + 2) tally (λ e. omega arith))
    (stored-same m (r.at + 2) (r.at + 2) tally refl) is once

-- the first word and the third, or the second and the third
told-low : (r : PriorityQueue) (m : Memory) (low tally : ℕ) (xs : List Entry) → ranked_of low (m (r.at + 1)) tally ≡ xs → IsOnce xs → Holds r (stored (stored m r.at low) (r.at + 2) tally) xs
told-low r m low tally xs is once =
    told r (stored m r.at low) tally xs
    (rw (stored-same m r.at r.at low refl, stored-other m (r.at + 1) r.at low (λ e. omega arith)) is) once

told-high : (r : PriorityQueue) (m : Memory) (high tally : ℕ) (xs : List Entry) → ranked_of (m r.at) high tally ≡ xs → IsOnce xs → Holds r (stored (stored m (r.at + 1) high) (r.at + 2) tally) xs
told-high r m high tally xs is once =
    told r (stored m (r.at + 1) high) tally xs
    (rw (stored-same m (r.at + 1) (r.at + 1) high refl, stored-other m r.at (r.at + 1) high (λ e. omega arith)) is) once

-- all three
told-all : (r : PriorityQueue) (m : Memory) (low high tally : ℕ) (xs : List Entry) → ranked_of low high tally ≡ xs → IsOnce xs → Holds r (stored (stored (stored m r.at low) (r.at + 1) high) (r.at + 2) tally) xs
told-all r m low high tally xs is once =
    told-high r (stored m r.at low) high tally xs (rw (stored-same m r.at r.at low refl) is) once

-- ---- an entry waits, or waits no longer

same-tally : (low high tally marks : ℕ) → ranked_of low high (tally_of (count_in tally) marks) ≡ entries marks (places (order_of low high) (count_in tally))
same-tally low high tally marks = rw (count-tally (count_in tally) marks (count-small tally), marks-tally (count_in tally) marks (count-small tally)) refl

marked-say : (r : PriorityQueue) (m : Memory) (xs : List Entry) (n : ℕ) → Holds r m xs → ranked_of (m r.at) (m (r.at + 1)) (tally_marked (tally_in r m) n) ≡ waiting n true xs
marked-say r m xs n h =
    same-tally (m r.at) (m (r.at + 1)) (tally_in r m) (bit_or (marks_in (tally_in r m)) (2 ^ n))
    ∙ entries-set (marks_in (tally_in r m)) n (places (order_of (m r.at) (m (r.at + 1))) (count_at r m))
    ∙ ap (waiting n true) h.is

cleared-say : (r : PriorityQueue) (m : Memory) (xs : List Entry) (n : ℕ) → n < 16 → Holds r m xs → ranked_of (m r.at) (m (r.at + 1)) (tally_cleared (tally_in r m) n) ≡ waiting n false xs
cleared-say r m xs n lt h =
    same-tally (m r.at) (m (r.at + 1)) (tally_in r m) (bits_without (marks_in (tally_in r m)) (2 ^ n))
    ∙ entries-clear (marks_in (tally_in r m)) n (count_at r m) (order_of (m r.at) (m (r.at + 1))) lt
    ∙ ap (waiting n false) h.is

remainder : (n : ℕ) → n < 16 → n % 16 ≡ n
remainder n lt = omega arith

pub again-ends : (r : PriorityQueue) (n : ℕ) (m : Memory) (xs : List Entry) → n < 16 → Holds r m xs
    → Ends waiting_again (own_of r) 2 (again.Look (words_of r) n) m (λ after words. Holds r after (waiting n true xs) × (words ≡ []))
again-ends r n m xs lt h =
    (own-tally r, refl, (own-tally r, refl, (refl, (rw (remainder n lt) (told r m (tally_marked (tally_in r m) n) (waiting n true xs) (marked-say r m xs n h) (once-waiting n true xs h.once)), refl))))

-- ---- a choice that ends the waiting

next-done : (r : PriorityQueue) (m : Memory) (xs : List Entry) (n : ℕ) → n < 16 → Holds r m xs → Holds r (stored m (r.at + 2) (tally_cleared (tally_in r m) n)) (waiting n false xs)
next-done r m xs n lt h = told r m (tally_cleared (tally_in r m) n) (waiting n false xs) (cleared-say r m xs n lt h) (once-waiting n false xs h.once)

next-few : (r : PriorityQueue) (ranks : List ℕ) (m : Memory) (xs : List Entry) → Holds r m xs → count_at r m ≤ 8 → (choice ranks xs < 16) ⊎ (16 ≤ choice ranks xs)
    → Ends choosing_next (own_of r) 3 (next.Look (search.Tally (words_of r)) ranks) m (λ after words. Holds r after (chosen (choice ranks xs) xs) × (words ≡ choice ranks xs ∷ []))
next-few r ranks m xs h le (inl lt) = (
  own-tally r,
  refl,
  rw (le-leb (count_at r m) 8 le, few-say r m xs h le, lt-ltb (choice ranks xs) 16 lt)
      (own-low r, refl, (own-tally r, refl, (refl, (next-done r m xs (choice ranks xs) lt h, refl)))),
)
next-few r ranks m xs h le (inr ge) =
    (own-tally r, refl, rw (le-leb (count_at r m) 8 le, few-say r m xs h le, le-ltb (choice ranks xs) 16 ge) (own-low r, refl, (refl, (h, refl))))

next-many : (r : PriorityQueue) (ranks : List ℕ) (m : Memory) (xs : List Entry) → Holds r m xs → 8 < count_at r m → (choice ranks xs < 16) ⊎ (16 ≤ choice ranks xs)
    → Ends choosing_next (own_of r) 4 (next.Look (search.Tally (words_of r)) ranks) m (λ after words. Holds r after (chosen (choice ranks xs) xs) × (words ≡ choice ranks xs ∷ []))
next-many r ranks m xs h gt (inl lt) = (
  own-tally r,
  refl,
  rw (lt-leb (count_at r m) 8 gt, h.is, lt-ltb (choice ranks xs) 16 lt)
      (own-low r, refl, (own-high r, refl, (own-tally r, refl, (refl, (next-done r m xs (choice ranks xs) lt h, refl))))),
)
next-many r ranks m xs h gt (inr ge) =
    (own-tally r, refl, rw (lt-leb (count_at r m) 8 gt, h.is, le-ltb (choice ranks xs) 16 ge) (own-low r, refl, (own-high r, refl, (refl, (h, refl)))))

pub next-ends : (r : PriorityQueue) (ranks : List ℕ) (m : Memory) (xs : List Entry) → Holds r m xs
    → Ends choosing_next (own_of r) (if nat_lt 8 (length xs) then 4 else 3) (next.Look (search.Tally (words_of r)) ranks) m (λ after words. Holds r after (chosen (choice ranks xs) xs) × (words ≡ choice ranks xs ∷ []))
next-ends r ranks m xs h =
    elim (cases_lt 8 (count_at r m)) [
      | inl lt ↦ rw (holds-count r m xs h, lt-ltb 8 (count_at r m) lt) (next-many r ranks m xs h lt (cases_lt (choice ranks xs) 16))
      | inr le ↦ rw (holds-count r m xs h, le-ltb 8 (count_at r m) le) (next-few r ranks m xs h le (cases_lt (choice ranks xs) 16))
    ]

-- ---- an entry is added

-- the marks with one more, over the places with one more
added-marks : (marks n : ℕ) (ns : List ℕ) (xs : List Entry) → entries marks ns ≡ xs → is_there n xs ≡ false → entries (bit_or marks (2 ^ n)) (ns ++ n ∷ []) ≡ added n xs
added-marks marks n ns xs e absent =
    entries-set marks n (ns ++ n ∷ [])
    ∙ ap (waiting n true) (map-append (marked marks) ns (n ∷ []))
    ∙ map-append (with_wait n true) (entries marks ns) (marked marks n ∷ [])
    ∙ rw (e, waiting-absent n true xs absent, eq-eqb n n refl) refl

added-tally : (low high tally n : ℕ) → count_in tally < 16 → ranked_of low high (tally_added tally n) ≡ entries (bit_or (marks_in tally) (2 ^ n)) (places (order_of low high) (count_in tally + 1))
added-tally low high tally n lt =
    let small : (count_in tally + 1) % 32 < 32 = omega arith in
    let same : (count_in tally + 1) % 32 ≡ count_in tally + 1 = omega arith in
    rw (count-tally ((count_in tally + 1) % 32) (bit_or (marks_in tally) (2 ^ n)) small, marks-tally ((count_in tally + 1) % 32) (bit_or (marks_in tally) (2 ^ n)) small, same) refl

added-low : (low high k n : ℕ) → k < 8 → n < 16 → places (order_of (appended low k n) high) (k + 1) ≡ places (order_of low high) k ++ n ∷ []
added-low low high k n lt small =
    places-few (k + 1) (appended low k n) high (omega arith)
    ∙ places-appended k low n small
    ∙ ap (λ ys. ys ++ n ∷ []) (sym (places-few k low high (omega arith)))

added-high : (low high k j n : ℕ) → 8 + j ≡ k → n < 16 → places (order_of low (appended high j n)) (k + 1) ≡ places (order_of low high) k ++ n ∷ []
added-high low high k j n e small =
    let more : k + 1 ≡ 8 + (j + 1) = omega arith in
    ap (places (order_of low (appended high j n))) more
    ∙ places-many (j + 1) low (appended high j n)
    ∙ ap (λ ys. places (low % 2 ^ 32) 8 ++ ys) (places-appended j high n small)
    ∙ sym (append_assoc (places (low % 2 ^ 32) 8) (places high j) (n ∷ []))
    ∙ ap (λ ys. ys ++ n ∷ []) (sym (places-many j low high) ∙ ap (places (order_of low high)) e)

add-low : (r : PriorityQueue) (n : ℕ) (m : Memory) (xs : List Entry) → n < 16 → Holds r m xs → is_there n xs ≡ false → count_at r m < 8
    → Ends adding (own_of r) 4 (add.Count (words_of r) n) m (λ after words. Holds r after (added n xs) × (words ≡ []))
add-low r n m xs lt h absent few =
    let k = count_at r m in
    let same : k % 8 ≡ k = omega arith in
    let is : ranked_of (appended (m r.at) k n) (m (r.at + 1)) (tally_added (tally_in r m) n) ≡ added n xs =
    added-tally (appended (m r.at) k n) (m (r.at + 1)) (tally_in r m) n (omega arith)
    ∙ ap (entries (bit_or (marks_in (tally_in r m)) (2 ^ n))) (added-low (m r.at) (m (r.at + 1)) k n few lt)
    ∙ added-marks (marks_in (tally_in r m)) n (places (order_of (m r.at) (m (r.at + 1))) k) xs h.is absent in
    rw (lt-ltb k 8 few, remainder n lt, same)
    (own-tally r, refl, (own-low r, refl, (own-low r, refl, (own-tally r, refl, (refl, (told-low r m (appended (m r.at) k n) (tally_added (tally_in r m) n) (added n xs) is (once-added n xs absent h.once), refl))))))

add-high : (r : PriorityQueue) (n : ℕ) (m : Memory) (xs : List Entry) → n < 16 → Holds r m xs → is_there n xs ≡ false → 8 ≤ count_at r m
    → Ends adding (own_of r) 4 (add.Count (words_of r) n) m (λ after words. Holds r after (added n xs) × (words ≡ []))
add-high r n m xs lt h absent many =
    let k = count_at r m in
    let room = holds-room r m xs n h lt absent in
    let same : 8 + k % 8 ≡ k = omega arith in
    let is : ranked_of (m r.at) (appended (m (r.at + 1)) (k % 8) n) (tally_added (tally_in r m) n) ≡ added n xs =
    added-tally (m r.at) (appended (m (r.at + 1)) (k % 8) n) (tally_in r m) n room
    ∙ ap (entries (bit_or (marks_in (tally_in r m)) (2 ^ n))) (added-high (m r.at) (m (r.at + 1)) k (k % 8) n same lt)
    ∙ added-marks (marks_in (tally_in r m)) n (places (order_of (m r.at) (m (r.at + 1))) k) xs h.is absent in
    rw (le-ltb k 8 many, remainder n lt)
    (own-tally r, refl, (own-high r, refl, (own-high r, refl, (own-tally r, refl, (refl, (told-high r m (appended (m (r.at + 1)) (k % 8) n) (tally_added (tally_in r m) n) (added n xs) is (once-added n xs absent h.once), refl))))))

pub add-ends : (r : PriorityQueue) (n : ℕ) (m : Memory) (xs : List Entry) → n < 16 → Holds r m xs → is_there n xs ≡ false
    → Ends adding (own_of r) 4 (add.Count (words_of r) n) m (λ after words. Holds r after (added n xs) × (words ≡ []))
add-ends r n m xs lt h absent =
    elim (cases_lt (count_at r m) 8) [ inl few ↦ add-low r n m xs lt h absent few | inr many ↦ add-high r n m xs lt h absent many ]

-- ---- an entry is taken out

-- no event stands
calm : ◌≡◌ {A = Option Event} None None
calm = refl

taken-say : (order tally n : ℕ) (xs : List Entry) → entries (marks_in tally) (places order (count_in tally)) ≡ xs → is_there n xs ≡ true
    → entries (marks_in (tally - 1)) (places (taken_out order (count_in tally) n) (count_in (tally - 1))) ≡ without n xs
taken-say order tally n xs e there =
    let at : is_there n (entries (marks_in tally) (places order (count_in tally))) ≡ true = ap (is_there n) e ∙ there in
    let some = some_there (count_in tally) order n (marks_in tally) at in
    rw (count-less tally some, marks-less tally some) (entries-taken (count_in tally) order n (marks_in tally) at ∙ ap (without n) e)

drop-few-say : (r : PriorityQueue) (n : ℕ) (m : Memory) (xs : List Entry) → Holds r m xs → is_there n xs ≡ true → count_at r m ≤ 8
    → ranked_of (taken_out (order_of (m r.at) 0) (count_at r m) n % 2 ^ 32) (m (r.at + 1)) (tally_in r m - 1) ≡ without n xs
drop-few-say r n m xs h there le =
    let t = tally_in r m in
    let out = taken_out (order_of (m r.at) 0) (count_in t) n in
    let few : count_in (t - 1) ≤ 8 = (let some = some_there (count_in t) (order_of (m r.at) (m (r.at + 1))) n (marks_in t) (ap (is_there n) h.is ∙ there) in let e = count-less t some in omega arith) in
    ap (entries (marks_in (t - 1))) (places-few (count_in (t - 1)) (out % 2 ^ 32) (m (r.at + 1)) few ∙ places-mod (count_in (t - 1)) out few)
    ∙ taken-say (order_of (m r.at) 0) t n xs (few-say r m xs h le) there

drop-many-say : (r : PriorityQueue) (n : ℕ) (m : Memory) (xs : List Entry) → Holds r m xs → is_there n xs ≡ true
    → let out = taken_out (order_of (m r.at) (m (r.at + 1))) (count_at r m) n in ranked_of (out % 2 ^ 32) (out / 2 ^ 32) (tally_in r m - 1) ≡ without n xs
drop-many-say r n m xs h there =
    let t = tally_in r m in
    let out = taken_out (order_of (m r.at) (m (r.at + 1))) (count_in t) n in
    let whole : order_of (out % 2 ^ 32) (out / 2 ^ 32) ≡ out = omega arith in
    ap (λ o. entries (marks_in (t - 1)) (places o (count_in (t - 1)))) whole
    ∙ taken-say (order_of (m r.at) (m (r.at + 1))) t n xs h.is there

drop-few : (r : PriorityQueue) (n : ℕ) (m : Memory) (xs : List Entry) → Holds r m xs → is_there n xs ≡ true → count_at r m ≤ 8
    → Ends dropping (own_of r) 4 (dropped.Look (search.Tally (words_of r)) n) m (λ after words. Holds r after (without n xs) × (words ≡ []))
drop-few r n m xs h there le =
    let out = taken_out (order_of (m r.at) 0) (count_at r m) n % 2 ^ 32 in (
      own-tally r,
      refl,
      rw (le-leb (count_at r m) 8 le)
          (own-low r, refl, rw (le-leb (count_at r m) 8 le) (own-low r, refl, (own-tally r, refl, (refl, (told-low r m out (tally_in r m - 1) (without n xs) (drop-few-say r n m xs h there le) (once-without n xs h.once), refl))))),
    )

drop-many : (r : PriorityQueue) (n : ℕ) (m : Memory) (xs : List Entry) → Holds r m xs → is_there n xs ≡ true → 8 < count_at r m
    → Ends dropping (own_of r) 6 (dropped.Look (search.Tally (words_of r)) n) m (λ after words. Holds r after (without n xs) × (words ≡ []))
drop-many r n m xs h there lt =
    let out = taken_out (order_of (m r.at) (m (r.at + 1))) (count_at r m) n in (
      own-tally r,
      calm,
      rw (lt-leb (count_at r m) 8 lt)
          (own-low r, calm, (own-high r, calm, rw (lt-leb (count_at r m) 8 lt) (own-low r, calm, (own-high r, calm, (own-tally r, calm, (refl, (told-all r m (out % 2 ^ 32) (out / 2 ^ 32) (tally_in r m - 1) (without n xs) (drop-many-say r n m xs h there) (once-without n xs h.once), refl))))))),
    )

pub drop-ends : (r : PriorityQueue) (n : ℕ) (m : Memory) (xs : List Entry) → Holds r m xs → is_there n xs ≡ true
    → Ends dropping (own_of r) (if nat_lt 8 (length xs) then 6 else 4) (dropped.Look (search.Tally (words_of r)) n) m (λ after words. Holds r after (without n xs) × (words ≡ []))
drop-ends r n m xs h there =
    elim (cases_lt 8 (count_at r m)) [
      | inl lt ↦ rw (holds-count r m xs h, lt-ltb 8 (count_at r m) lt) (drop-many r n m xs h there lt)
      | inr le ↦ rw (holds-count r m xs h, le-ltb 8 (count_at r m) le) (drop-few r n m xs h there le)
    ]

-- ---- an order at rest

-- a cleared third word
pub empty : (r : PriorityQueue) (m : Memory) → m (r.at + 2) ≡ 0 → Holds r m []
empty r m e = record { is = rw e refl; once = tt }

-- nothing else is seen of the words
pub holds-agree : (r : PriorityQueue) (m k : Memory) (xs : List Entry) → Agree (own_of r) m k → Holds r m xs → Holds r k xs
holds-agree r m k xs same h =
    record { is = rw (sym (same r.at (own-low r)), sym (same (r.at + 1) (own-high r)), sym (same (r.at + 2) (own-tally r))) h.is; once = h.once }

pub holds-elsewhere : (r : PriorityQueue) (m : Memory) (k v : ℕ) (xs : List Entry) → own_of r k ≡ false → Holds r m xs → Holds r (stored m k v) xs
holds-elsewhere r m k v xs elsewhere h =
    holds-agree r m (stored m k v) xs (λ j at. sym (stored-other m j k v (λ e. false≢true (sym elsewhere ∙ ap (own_of r) (sym e) ∙ at)))) h

pub holds-length : (r : PriorityQueue) (m : Memory) (xs : List Entry) → Holds r m xs → length xs ≤ 16
holds-length r m xs h = at_most xs h.once (holds-below r m xs h)
