-- What is known of the capture block's channels over histories.
use Rattle.std.proofs.Common.{◌≡◌, ◌≢◌, ℕ, ◌+◌, ◌/◌, ◌%◌, ◌^◌, ◌<◌, ◌≤◌, Bool, true, false, not, ◌&&◌, ◌==◌, nat_lt, List, [], ◌∷◌, ◌++◌, length, take, min, refl, sym, ◌∙◌, ap, arith, length-set, get_or-set_same, get_or-set_other, length-append, append_assoc, ◌⊎◌, inl, inr}
use Rattle.std.specs.Prelude.{if◌then◌else◌}
use Rattle.std.specs.List.{AllByRecursion}
use Rattle.std.proofs.lemmas.Bool.Decides.{nat_tests}
use Rattle.std.proofs.lemmas.List.{length-take, take_all, take-append-le}
use Rattle.mcal_base.specs.facts.Numbers.{same_or_other}
use Rattle.mcal_base.specs.Bits.{has_bit, bit_of}
use Rattle.mcal_base.proofs.BitLaws.{length-at_bits, get_or-at_bits, has_bit-bits_of}
use Rattle.mcal_base.specs.declared.register.Reg.{Reg}
use Rattle.mcal_base.specs.declared.register.Reg.TheVariants.{CaptureCondition, CaptureMode, CaptureGateSet, CaptureGateClear, CaptureCountLow, CaptureTimeLow, CaptureZero, CapturePop, CaptureFlush}
use Rattle.chip_blocks.specs.captures.Captures.{Captures, capture_at, with_capture, with_condition, with_mode, zeroed, popped, flushed, acting, acted, caught, take_edge, chooses, is_pin, pin_of, channels_at, closed, oldest_time, after_read, after_write, after_edge}
use Rattle.chip_blocks.specs.captures.Accesses.{Access, after, after_all, HasChannel, comes, is_keeping, brought_by, brought, counted_by, counted, LeavesQueue, LeavesCount, LeavesLatch}
use Rattle.chip_blocks.specs.captures.Accesses as accesses
use Rattle.chip_blocks.specs.declared.captures.capture.Act.{Act}
use Rattle.chip_blocks.specs.declared.captures.capture.Act.TheVariants.{Open, Close, Catch}
use Rattle.chip_blocks.specs.declared.captures.capture.Capture.{Capture}
use Rattle.chip_blocks.specs.declared.captures.capture.Edge.{Edge}
use Rattle.chip_blocks.specs.declared.captures.capture.Mode.{Mode}
use Rattle.chip_blocks.specs.declared.captures.capture.Mode.TheVariants.{Keeps, Counts}

-- ---- a channel after a change

pub capture_at-same : (b : Captures) (c : ℕ) (x : Capture) → HasChannel b c → capture_at (with_capture b c x) c ≡ x
capture_at-same b c x h = let within : c < length b.captures = omega (arith, h.all, h.within) in get_or-set_same b.captures c x closed within

pub capture_at-other : (b : Captures) (k c : ℕ) (x : Capture) → c ≢ k → capture_at (with_capture b k x) c ≡ capture_at b c
capture_at-other b k c x ne = get_or-set_other b.captures k c x closed ne

capture_at-acted : (act : Act) (b : Captures) (bits c : ℕ) → HasChannel b c
    → capture_at (acted act b bits) c ≡ (if has_bit bits c then acting act b.time (capture_at b c) else capture_at b c)
capture_at-acted act b bits c h =
    let within : c < length b.captures = omega (arith, h.all, h.within) in
    get_or-at_bits (λ _. acting act b.time) bits b.captures c closed within

both : {A : Type 0} (p q : Bool) (x y : A) → (if p then (if q then x else y) else y) ≡ (if p && q then x else y)
both true q x y = refl
both false q x y = refl

-- an edge that comes to the channel is taken
pub capture_at-edge : (b : Captures) (pin c : ℕ) (rising : Bool) → HasChannel b c
    → capture_at (after_edge b pin rising) c ≡ (if comes c b pin rising then take_edge (capture_at b c).mode b.time rising (capture_at b c) else capture_at b c)
capture_at-edge b pin c rising h =
    let x = capture_at b c in
    capture_at-acted (Catch rising) b (channels_at b pin) c h
    ∙ ap (λ q. if q then caught b.time rising x else x) (has_bit-bits_of (λ k. is_pin (pin_of b k) pin) 8 c h.within)
    ∙ both (is_pin (pin_of b c) pin) (x.gate && chooses x.condition rising) (take_edge x.mode b.time rising x) x

-- seen through a function that the change leaves alone
pub with_seen : {A : Type 0} (see : Capture → A) (b : Captures) (k c : ℕ) (x : Capture) → HasChannel b c → see x ≡ see (capture_at b k)
    → (c ≡ k) ⊎ (c ≢ k) → see (capture_at (with_capture b k x) c) ≡ see (capture_at b c)
with_seen see b k c x h e (inl at) = rw (← at) (ap see (capture_at-same b c x h) ∙ rw (← at) at e)
with_seen see b k c x h e (inr ne) = ap see (capture_at-other b k c x ne)

either_seen : {A : Type 0} (see : Capture → A) (q : Bool) (x y : Capture) → see x ≡ see y → see (if q then x else y) ≡ see y
either_seen see true x y e = e
either_seen see false x y e = refl

pub acted_seen : {A : Type 0} (see : Capture → A) (act : Act) (b : Captures) (bits c : ℕ) → HasChannel b c
    → see (acting act b.time (capture_at b c)) ≡ see (capture_at b c) → see (capture_at (acted act b bits) c) ≡ see (capture_at b c)
acted_seen see act b bits c h e =
    ap see (capture_at-acted act b bits c h) ∙ either_seen see (has_bit bits c) (acting act b.time (capture_at b c)) (capture_at b c) e

-- ---- the channels stay

length-after_write : (b : Captures) (r : Reg) (value : ℕ) → length (after_write b r value).captures ≡ length b.captures
length-after_write b (CaptureCondition c) value = length-set b.captures c _
length-after_write b (CaptureMode c) value = length-set b.captures c _
length-after_write b CaptureGateSet value = length-at_bits (λ _. acting Open b.time) value b.captures
length-after_write b CaptureGateClear value = length-at_bits (λ _. acting Close b.time) value b.captures
length-after_write b (CaptureZero c) value = length-set b.captures c _
length-after_write b (CapturePop c) value = length-set b.captures c _
length-after_write b (CaptureFlush c) value = length-set b.captures c _
length-after_write b _ value = refl

captures-after_read : (b : Captures) (r : Reg) → (after_read b r).captures ≡ b.captures
captures-after_read b (CaptureCountLow c) = refl
captures-after_read b (CaptureTimeLow c) = refl
captures-after_read b _ = refl

pub has_channel-after : (b : Captures) (c : ℕ) (x : Access) → HasChannel b c → HasChannel (after b x) c
has_channel-after b c (accesses.Reads r) h = record { all = ap length (captures-after_read b r) ∙ h.all; within = h.within }
has_channel-after b c (accesses.Writes r value) h = record { all = length-after_write b r value ∙ h.all; within = h.within }
has_channel-after b c (accesses.Edges pin rising) h =
    record { all = length-at_bits (λ _. acting (Catch rising) b.time) (channels_at b pin) b.captures ∙ h.all; within = h.within }
has_channel-after b c (accesses.Passes n) h = record { all = h.all; within = h.within }

-- ---- the queue and the mark of a lost edge

abbrev pub seen : Capture → List Edge × Bool
seen x = (x.queue, x.lost)

-- a choice of which all sides look the same
pub four_seen : {A : Type 0} (see : Capture → A) (p q r s : Bool) (x k l m n : Capture) → see k ≡ see x → see l ≡ see x → see m ≡ see x → see n ≡ see x
    → see (if p then k else if q then l else if r then m else if s then n else x) ≡ see x
four_seen see true q r s x k l m n hk hl hm hn = hk
four_seen see false true r s x k l m n hk hl hm hn = hl
four_seen see false false true s x k l m n hk hl hm hn = hm
four_seen see false false false true x k l m n hk hl hm hn = hn
four_seen see false false false false x k l m n hk hl hm hn = refl

pub two_seen : {A : Type 0} (see : Capture → A) (p q : Bool) (x k l : Capture) → see k ≡ see x → see l ≡ see x
    → see (if p then k else if q then l else x) ≡ see x
two_seen see true q x k l hk hl = hk
two_seen see false true x k l hk hl = hl
two_seen see false false x k l hk hl = refl

queue-left : (b : Captures) (c : ℕ) (r : Reg) (value : ℕ) → HasChannel b c → LeavesQueue c (accesses.Writes r value) → seen (capture_at (after_write b r value) c) ≡ seen (capture_at b c)
queue-left b c (CaptureCondition k) value h left =
    let x = capture_at b k in
    with_seen seen b k c (with_condition value x) h (four_seen seen (value == 0) (value == 1) (value == 2) (value == 3) x _ _ _ _ refl refl refl refl) (same_or_other c k)
queue-left b c (CaptureMode k) value h left =
    let x = capture_at b k in
    with_seen seen b k c (with_mode value x) h (two_seen seen (value == 0) (value == 1) x _ _ refl refl) (same_or_other c k)
queue-left b c CaptureGateSet value h left = acted_seen seen Open b value c h refl
queue-left b c CaptureGateClear value h left = acted_seen seen Close b value c h refl
queue-left b c (CaptureZero k) value h left = with_seen seen b k c (zeroed (capture_at b k)) h refl (same_or_other c k)
queue-left b c (CapturePop k) value h left = let ne : c ≢ k = λ e. left (sym e) in ap seen (capture_at-other b k c _ ne)
queue-left b c (CaptureFlush k) value h left = let ne : c ≢ k = λ e. left (sym e) in ap seen (capture_at-other b k c _ ne)
queue-left b c _ value h left = refl

pub seen-after_read : (b : Captures) (r : Reg) (c : ℕ) → capture_at (after_read b r) c ≡ capture_at b c
seen-after_read b (CaptureCountLow k) c = refl
seen-after_read b (CaptureTimeLow k) c = refl
seen-after_read b _ c = refl

-- so many edges came: the first four wait, and a fifth was lost
record Holds (s : List Edge × Bool) (came : List Edge) : Type 0 where
  queue : s.0 ≡ take 4 came
  lost : s.1 ≡ nat_lt 4 (length came)

pub append_nil : {A : Type 0} (xs : List A) → xs ++ [] ≡ xs
append_nil [] = refl
append_nil (x ∷ xs) = ap (λ r. x ∷ r) (append_nil xs)

below_four : (n m : ℕ) → m ≡ min 4 n → nat_lt m 4 ≡ true → n < 4
below_four n m e t = grind (arith, nat_tests)

four_or_more : (n m : ℕ) → m ≡ min 4 n → nat_lt m 4 ≡ false → 4 ≤ n
four_or_more n m e t = grind (arith, nat_tests)

test_below : (n : ℕ) → n ≤ 4 → nat_lt 4 n ≡ false
test_below n h = grind (arith, nat_tests)

test_above : (n : ℕ) → 4 < n → nat_lt 4 n ≡ true
test_above n h = grind (arith, nat_tests)

-- one more edge is kept, or lost
kept : (q : Bool) (now : ℕ) (rising : Bool) (x : Capture) (came : List Edge) → nat_lt (length x.queue) 4 ≡ q → Holds (seen x) came
    → Holds (seen (if q
    then record x { queue = x.queue ++ record { time = now % 2 ^ 32; rising = rising; gap = x.lost } ∷ []; lost = false }
    else record x { lost = true }))
    (came ++ record { time = now % 2 ^ 32; rising = rising; gap = false } ∷ [])
kept true now rising x came e h =
    let size : length x.queue ≡ min 4 (length came) = ap length h.queue ∙ length-take 4 came in
    let few : length came < 4 = below_four (length came) (length x.queue) size e in
    let none : x.lost ≡ false = h.lost ∙ test_below (length came) (omega (arith, few)) in
    let edge : Edge = record { time = now % 2 ^ 32; rising = rising; gap = false } in
    let all : length (came ++ edge ∷ []) ≤ 4 = rw (length-append came (edge ∷ [])) (omega (arith, few)) in
    record {
      queue = rw (none, h.queue, take_all 4 came (omega (arith, few))) (sym (take_all 4 (came ++ edge ∷ []) all));
      lost = sym (test_below (length (came ++ edge ∷ [])) all);
    }
kept false now rising x came e h =
    let size : length x.queue ≡ min 4 (length came) = ap length h.queue ∙ length-take 4 came in
    let many : 4 ≤ length came = four_or_more (length came) (length x.queue) size e in
    let edge : Edge = record { time = now % 2 ^ 32; rising = rising; gap = false } in
    let more : 4 < length (came ++ edge ∷ []) = rw (length-append came (edge ∷ [])) (omega (arith, many)) in
    record {
      queue = h.queue ∙ sym (take-append-le 4 came (edge ∷ []) many);
      lost = sym (test_above (length (came ++ edge ∷ [])) more);
    }

taken : (m : Mode) (now : ℕ) (rising : Bool) (x : Capture) (came : List Edge) → Holds (seen x) came
    → Holds (seen (take_edge m now rising x)) (came ++ (if is_keeping m then record { time = now % 2 ^ 32; rising = rising; gap = false } ∷ [] else []))
taken Counts now rising x came h = rw (append_nil came) h
taken Keeps now rising x came h = kept (nat_lt (length x.queue) 4) now rising x came refl h

came_or_not : (p : Bool) (now : ℕ) (rising : Bool) (x : Capture) (came : List Edge) → Holds (seen x) came
    → Holds (seen (if p then take_edge x.mode now rising x else x)) (came ++ (if p && is_keeping x.mode then record { time = now % 2 ^ 32; rising = rising; gap = false } ∷ [] else []))
came_or_not true now rising x came h = taken x.mode now rising x came h
came_or_not false now rising x came h = rw (append_nil came) h

none_came : (s t : List Edge × Bool) (came : List Edge) → s ≡ t → Holds t came → Holds s (came ++ [])
none_came s t came e h = rw (e, append_nil came) h

holds-step : (b : Captures) (c : ℕ) (x : Access) (came : List Edge) → HasChannel b c → LeavesQueue c x → Holds (seen (capture_at b c)) came
    → Holds (seen (capture_at (after b x) c)) (came ++ brought_by c b x)
holds-step b c (accesses.Reads r) came h left holds = none_came _ (seen (capture_at b c)) came (ap seen (seen-after_read b r c)) holds
holds-step b c (accesses.Writes r value) came h left holds = none_came _ (seen (capture_at b c)) came (queue-left b c r value h left) holds
holds-step b c (accesses.Edges pin rising) came h left holds =
    rw (capture_at-edge b pin c rising h) (came_or_not (comes c b pin rising) b.time rising (capture_at b c) came holds)
holds-step b c (accesses.Passes n) came h left holds = none_came _ (seen (capture_at b c)) came refl holds

holds-all : (b : Captures) (c : ℕ) (xs : List Access) (came : List Edge) → HasChannel b c → AllByRecursion (LeavesQueue c) xs → Holds (seen (capture_at b c)) came
    → Holds (seen (capture_at (after_all b xs) c)) (came ++ brought c b xs)
holds-all b c [] came h left holds = rw (append_nil came) holds
holds-all b c (x ∷ xs) came h left holds =
    rw (← append_assoc came (brought_by c b x) (brought c (after b x) xs))
    (holds-all (after b x) c xs (came ++ brought_by c b x) (has_channel-after b c x h) left.1 (holds-step b c x came h left.0 holds))

flushed-holds : (b : Captures) (c value : ℕ) (xs : List Access) → HasChannel b c → AllByRecursion (LeavesQueue c) xs
    → Holds (seen (capture_at (after_all (after_write b (CaptureFlush c) value) xs) c)) (brought c (after_write b (CaptureFlush c) value) xs)
flushed-holds b c value xs h left =
    let is : capture_at (after_write b (CaptureFlush c) value) c ≡ flushed (capture_at b c) = capture_at-same b c (flushed (capture_at b c)) h in
    holds-all (after_write b (CaptureFlush c) value) c xs [] (has_channel-after b c (accesses.Writes (CaptureFlush c) value) h) left
    (rw is (record { queue = refl; lost = refl }))

pub queue-since_flush : (b : Captures) (c value : ℕ) (xs : List Access) → HasChannel b c → AllByRecursion (LeavesQueue c) xs
    → (capture_at (after_all (after_write b (CaptureFlush c) value) xs) c).queue ≡ take 4 (brought c (after_write b (CaptureFlush c) value) xs)
queue-since_flush b c value xs h left = (flushed-holds b c value xs h left).queue

pub lost-since_flush : (b : Captures) (c value : ℕ) (xs : List Access) → HasChannel b c → AllByRecursion (LeavesQueue c) xs
    → (capture_at (after_all (after_write b (CaptureFlush c) value) xs) c).lost ≡ nat_lt 4 (length (brought c (after_write b (CaptureFlush c) value) xs))
lost-since_flush b c value xs h left = (flushed-holds b c value xs h left).lost

-- ---- the count

abbrev count_seen : Capture → ℕ
count_seen x = x.count

count-left : (b : Captures) (c : ℕ) (r : Reg) (value : ℕ) → HasChannel b c → LeavesCount c (accesses.Writes r value) → count_seen (capture_at (after_write b r value) c) ≡ count_seen (capture_at b c)
count-left b c (CaptureCondition k) value h left =
    let x = capture_at b k in
    with_seen count_seen b k c (with_condition value x) h (four_seen count_seen (value == 0) (value == 1) (value == 2) (value == 3) x _ _ _ _ refl refl refl refl) (same_or_other c k)
count-left b c (CaptureMode k) value h left =
    let x = capture_at b k in
    with_seen count_seen b k c (with_mode value x) h (two_seen count_seen (value == 0) (value == 1) x _ _ refl refl) (same_or_other c k)
count-left b c CaptureGateSet value h left = acted_seen count_seen Open b value c h refl
count-left b c CaptureGateClear value h left = acted_seen count_seen Close b value c h refl
count-left b c (CaptureZero k) value h left = let ne : c ≢ k = λ e. left (sym e) in ap count_seen (capture_at-other b k c _ ne)
count-left b c (CapturePop k) value h left = with_seen count_seen b k c (popped (capture_at b k)) h refl (same_or_other c k)
count-left b c (CaptureFlush k) value h left = with_seen count_seen b k c (flushed (capture_at b k)) h refl (same_or_other c k)
count-left b c _ value h left = refl

plus_none : (n : ℕ) → n ≡ n + 0
plus_none n = omega arith

none_plus : (n : ℕ) → 0 + n ≡ n
none_plus n = omega arith

plus_assoc : (n k m : ℕ) → (n + k) + m ≡ n + (k + m)
plus_assoc n k m = omega arith

-- one more counts once, modulo 2^32
one_more : (n k : ℕ) → (n % 4294967296 + 1) % 4294967296 ≡ (n + 1) % 4294967296
one_more n k = omega arith

kept_count : (q : Bool) (x y z : Capture) → y.count ≡ x.count → z.count ≡ x.count → (if q then y else z).count ≡ x.count
kept_count true x y z hy hz = hy
kept_count false x y z hy hz = hz

take_counts : (m : Mode) (now n : ℕ) (rising : Bool) (x : Capture) → x.count ≡ n % 4294967296
    → (take_edge m now rising x).count ≡ (n + bit_of (not (is_keeping m))) % 4294967296
take_counts Counts now n rising x e = rw e (one_more n 0)
take_counts Keeps now n rising x e = kept_count (nat_lt (length x.queue) 4) x _ _ refl refl ∙ e ∙ ap (λ k. k % 4294967296) (plus_none n)

counts-came : (p : Bool) (now n : ℕ) (rising : Bool) (x : Capture) → x.count ≡ n % 4294967296
    → (if p then take_edge x.mode now rising x else x).count ≡ (n + bit_of (p && not (is_keeping x.mode))) % 4294967296
counts-came true now n rising x e = take_counts x.mode now n rising x e
counts-came false now n rising x e = e ∙ ap (λ k. k % 4294967296) (plus_none n)

counts-step : (b : Captures) (c n : ℕ) (x : Access) → HasChannel b c → LeavesCount c x → (capture_at b c).count ≡ n % 4294967296
    → (capture_at (after b x) c).count ≡ (n + counted_by c b x) % 4294967296
counts-step b c n (accesses.Reads r) h left e = ap count_seen (seen-after_read b r c) ∙ e ∙ ap (λ k. k % 4294967296) (plus_none n)
counts-step b c n (accesses.Writes r value) h left e = count-left b c r value h left ∙ e ∙ ap (λ k. k % 4294967296) (plus_none n)
counts-step b c n (accesses.Edges pin rising) h left e =
    ap count_seen (capture_at-edge b pin c rising h) ∙ counts-came (comes c b pin rising) b.time n rising (capture_at b c) e
counts-step b c n (accesses.Passes k) h left e = e ∙ ap (λ k. k % 4294967296) (plus_none n)

counts-all : (b : Captures) (c n : ℕ) (xs : List Access) → HasChannel b c → AllByRecursion (LeavesCount c) xs → (capture_at b c).count ≡ n % 4294967296
    → (capture_at (after_all b xs) c).count ≡ (n + counted c b xs) % 4294967296
counts-all b c n [] h left e = e ∙ ap (λ k. k % 4294967296) (plus_none n)
counts-all b c n (x ∷ xs) h left e =
    counts-all (after b x) c (n + counted_by c b x) xs (has_channel-after b c x h) left.1 (counts-step b c n x h left.0 e)
    ∙ ap (λ k. k % 4294967296) (plus_assoc n (counted_by c b x) (counted c (after b x) xs))

pub count-since_zero : (b : Captures) (c value : ℕ) (xs : List Access) → HasChannel b c → AllByRecursion (LeavesCount c) xs
    → (capture_at (after_all (after_write b (CaptureZero c) value) xs) c).count ≡ counted c (after_write b (CaptureZero c) value) xs % 4294967296
count-since_zero b c value xs h left =
    let b' : Captures = after_write b (CaptureZero c) value in
    counts-all b' c 0 xs (has_channel-after b c (accesses.Writes (CaptureZero c) value) h) left
    (ap count_seen (capture_at-same b c (zeroed (capture_at b c)) h))
    ∙ ap (λ k. k % 4294967296) (none_plus (counted c b' xs))

-- ---- the latch

latch-after_read : (b : Captures) (r : Reg) → LeavesLatch (accesses.Reads r) → (after_read b r).latch ≡ b.latch
latch-after_read b (CaptureCountLow k) left = absurd left
latch-after_read b (CaptureTimeLow k) left = absurd left
latch-after_read b _ left = refl

latch-after_write : (b : Captures) (r : Reg) (value : ℕ) → (after_write b r value).latch ≡ b.latch
latch-after_write b (CaptureCondition c) value = refl
latch-after_write b (CaptureMode c) value = refl
latch-after_write b CaptureGateSet value = refl
latch-after_write b CaptureGateClear value = refl
latch-after_write b (CaptureZero c) value = refl
latch-after_write b (CapturePop c) value = refl
latch-after_write b (CaptureFlush c) value = refl
latch-after_write b _ value = refl

latch-after : (b : Captures) (x : Access) → LeavesLatch x → (after b x).latch ≡ b.latch
latch-after b (accesses.Reads r) left = latch-after_read b r left
latch-after b (accesses.Writes r value) left = latch-after_write b r value
latch-after b (accesses.Edges pin rising) left = refl
latch-after b (accesses.Passes n) left = refl

latch-after_all : (b : Captures) (xs : List Access) → AllByRecursion LeavesLatch xs → (after_all b xs).latch ≡ b.latch
latch-after_all b [] left = refl
latch-after_all b (x ∷ xs) left = latch-after_all (after b x) xs left.1 ∙ latch-after b x left.0

pub latch-count : (b : Captures) (c : ℕ) (xs : List Access) → AllByRecursion LeavesLatch xs
    → (after_all (after_read b (CaptureCountLow c)) xs).latch ≡ (capture_at b c).count / 65536
latch-count b c xs left = latch-after_all (after_read b (CaptureCountLow c)) xs left

pub latch-time : (b : Captures) (c : ℕ) (xs : List Access) → AllByRecursion LeavesLatch xs
    → (after_all (after_read b (CaptureTimeLow c)) xs).latch ≡ oldest_time (capture_at b c).queue / 65536
latch-time b c xs left = latch-after_all (after_read b (CaptureTimeLow c)) xs left
