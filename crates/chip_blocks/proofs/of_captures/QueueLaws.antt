-- A queue over histories in which edges are dropped one by one.
use Rattle.std.proofs.Common.{◌≡◌, ◌≢◌, ℕ, suc, ◌+◌, ◌%◌, ◌^◌, ◌≤◌, Bool, true, false, ◌&&◌, ◌==◌, nat_lt, List, [], ◌∷◌, ◌++◌, length, drop, min, refl, sym, ◌∙◌, ap, arith, append_assoc, length-append, ◌⊎◌, inl, inr}
use Rattle.std.specs.Prelude.{if◌then◌else◌}
use Rattle.std.specs.List.{AllByRecursion}
use Rattle.std.proofs.lemmas.Bool.Decides.{nat_tests}
use Rattle.std.proofs.lemmas.List.{drop-append-le, drop-drop}
use Rattle.mcal_base.specs.facts.Numbers.{same_or_other}
use Rattle.mcal_base.specs.declared.register.Reg.{Reg}
use Rattle.mcal_base.specs.declared.register.Reg.TheVariants.{CaptureCondition, CaptureMode, CaptureGateSet, CaptureGateClear, CaptureZero, CapturePop, CaptureFlush}
use Rattle.chip_blocks.specs.captures.Captures.{Captures, capture_at, with_capture, with_condition, with_mode, zeroed, popped as popped_once, take_edge, after_write}
use Rattle.chip_blocks.specs.captures.Accesses.{Access, after, after_all, HasChannel, comes, is_keeping, kept_by, kept, popped_by, popped, LeavesWaiting}
use Rattle.chip_blocks.specs.captures.Accesses as accesses
use Rattle.chip_blocks.proofs.of_captures.CaptureLaws.{capture_at-same, capture_at-other, capture_at-edge, with_seen, four_seen, two_seen, acted_seen, has_channel-after, seen, seen-after_read, append_nil}
use Rattle.chip_blocks.specs.declared.captures.capture.Act.TheVariants.{Open, Close}
use Rattle.chip_blocks.specs.declared.captures.capture.Capture.{Capture}
use Rattle.chip_blocks.specs.declared.captures.capture.Edge.{Edge}
use Rattle.chip_blocks.specs.declared.captures.capture.Mode.{Mode}
use Rattle.chip_blocks.specs.declared.captures.capture.Mode.TheVariants.{Keeps, Counts}

-- so many of the oldest went and these came; the mark of a lost edge stays where none came
record Moves (old new : List Edge × Bool) (gone : ℕ) (came : List Edge) : Type 0 where
  queue : new.0 ≡ drop gone (old.0 ++ came)
  few : gone ≤ length old.0
  mark : old.1 ≡ true → came ≡ [] → new.1 ≡ true

stood : (s t : List Edge × Bool) → t ≡ s → Moves s t 0 []
stood s t e = record {
  queue = ap (λ (x : List Edge × Bool). x.0) e ∙ sym (append_nil s.0);
  few = omega arith;
  mark = λ lost _. ap (λ (x : List Edge × Bool). x.1) e ∙ lost;
}

-- one is dropped
one_of : (n : ℕ) → 1 ≡ min 1 (suc n)
one_of n = omega arith

drop_one : (q : List Edge) → drop 1 q ≡ drop (min 1 (length q)) (q ++ [])
drop_one [] = refl
drop_one (e ∷ es) = sym (append_nil es) ∙ ap (λ n. drop n ((e ∷ es) ++ [])) (one_of (length es))

same_test : (k c : ℕ) → c ≡ k → (k == c) ≡ true
same_test k c e = grind (arith, nat_tests)

other_test : (k c : ℕ) → c ≢ k → (k == c) ≡ false
other_test k c e = grind (arith, nat_tests)

popping : (b : Captures) (k c : ℕ) → HasChannel b c → (c ≡ k) ⊎ (c ≢ k)
    → Moves (seen (capture_at b c)) (seen (capture_at (with_capture b k (popped_once (capture_at b k))) c)) (if k == c then min 1 (length (capture_at b c).queue) else 0) []
popping b k c h (inl at) =
    let is : capture_at (with_capture b k (popped_once (capture_at b k))) c ≡ popped_once (capture_at b c) =
    ap (λ n. capture_at (with_capture b n (popped_once (capture_at b n))) c) (sym at) ∙ capture_at-same b c (popped_once (capture_at b c)) h in
    rw (same_test k c at, is) (record { queue = drop_one (capture_at b c).queue; few = omega arith; mark = λ lost _. lost })
popping b k c h (inr ne) = rw (other_test k c ne) (stood _ _ (ap seen (capture_at-other b k c _ ne)))

writing : (b : Captures) (c : ℕ) (r : Reg) (value : ℕ) → HasChannel b c → LeavesWaiting c (accesses.Writes r value)
    → Moves (seen (capture_at b c)) (seen (capture_at (after_write b r value) c)) (popped_by c b (accesses.Writes r value)) []
writing b c (CaptureCondition k) value h left =
    let x = capture_at b k in
    stood _ _ (with_seen seen b k c (with_condition value x) h (four_seen seen (value == 0) (value == 1) (value == 2) (value == 3) x _ _ _ _ refl refl refl refl) (same_or_other c k))
writing b c (CaptureMode k) value h left =
    let x = capture_at b k in
    stood _ _ (with_seen seen b k c (with_mode value x) h (two_seen seen (value == 0) (value == 1) x _ _ refl refl) (same_or_other c k))
writing b c CaptureGateSet value h left = stood _ _ (acted_seen seen Open b value c h refl)
writing b c CaptureGateClear value h left = stood _ _ (acted_seen seen Close b value c h refl)
writing b c (CaptureZero k) value h left = stood _ _ (with_seen seen b k c (zeroed (capture_at b k)) h refl (same_or_other c k))
writing b c (CapturePop k) value h left = popping b k c h (same_or_other c k)
writing b c (CaptureFlush k) value h left = let ne : c ≢ k = λ e. left (sym e) in stood _ _ (ap seen (capture_at-other b k c _ ne))
writing b c _ value h left = stood _ _ refl

-- an edge comes
room : (q : Bool) (now : ℕ) (rising : Bool) (x : Capture)
    → Moves (seen x)
    (seen (if q
    then record x { queue = x.queue ++ record { time = now % 2 ^ 32; rising = rising; gap = x.lost } ∷ []; lost = false }
    else record x { lost = true }))
    0 (if q then record { time = now % 2 ^ 32; rising = rising; gap = x.lost } ∷ [] else [])
room true now rising x = record { queue = refl; few = omega arith; mark = λ lost none. absurd (cc none) }
room false now rising x = record { queue = sym (append_nil x.queue); few = omega arith; mark = λ lost none. refl }

coming : (m : Mode) (now : ℕ) (rising : Bool) (x : Capture)
    → Moves (seen x) (seen (take_edge m now rising x)) 0 (if is_keeping m && nat_lt (length x.queue) 4 then record { time = now % 2 ^ 32; rising = rising; gap = x.lost } ∷ [] else [])
coming Counts now rising x = stood _ _ refl
coming Keeps now rising x = room (nat_lt (length x.queue) 4) now rising x

reaching : (p : Bool) (now : ℕ) (rising : Bool) (x : Capture)
    → Moves (seen x) (seen (if p then take_edge x.mode now rising x else x)) 0
    (if p && (is_keeping x.mode && nat_lt (length x.queue) 4) then record { time = now % 2 ^ 32; rising = rising; gap = x.lost } ∷ [] else [])
reaching true now rising x = coming x.mode now rising x
reaching false now rising x = stood _ _ refl

moves-step : (b : Captures) (c : ℕ) (x : Access) → HasChannel b c → LeavesWaiting c x → Moves (seen (capture_at b c)) (seen (capture_at (after b x) c)) (popped_by c b x) (kept_by c b x)
moves-step b c (accesses.Reads r) h left = stood _ _ (ap seen (seen-after_read b r c))
moves-step b c (accesses.Writes r value) h left = writing b c r value h left
moves-step b c (accesses.Edges pin rising) h left = rw (capture_at-edge b pin c rising h) (reaching (comes c b pin rising) b.time rising (capture_at b c))
moves-step b c (accesses.Passes n) h left = stood _ _ refl

-- ---- histories

none_came : (xs ys : List Edge) → xs ++ ys ≡ [] → (xs ≡ []) × (ys ≡ [])
none_came [] ys e = (refl, e)
none_came (x ∷ xs) ys e = absurd (cc e)

both : (q k l q' q'' : List Edge) (n m : ℕ) → q' ≡ drop n (q ++ k) → q'' ≡ drop m (q' ++ l) → n ≤ length q → q'' ≡ drop (n + m) (q ++ (k ++ l))
both q k l q' q'' n m first second few =
    let within : n ≤ length (q ++ k) = rw (length-append q k) (omega (arith, few)) in
    second
    ∙ ap (λ xs. drop m (xs ++ l)) first
    ∙ ap (λ xs. drop m xs) (sym (drop-append-le n (q ++ k) l within))
    ∙ drop-drop m n ((q ++ k) ++ l)
    ∙ ap (λ xs. drop (n + m) xs) (append_assoc q k l)

pub queue-over_pops : (b : Captures) (c : ℕ) (xs : List Access) → HasChannel b c → AllByRecursion (LeavesWaiting c) xs
    → (capture_at (after_all b xs) c).queue ≡ drop (popped c b xs) ((capture_at b c).queue ++ kept c b xs)
queue-over_pops b c [] h left = sym (append_nil (capture_at b c).queue)
queue-over_pops b c (x ∷ xs) h left =
    let one = moves-step b c x h left.0 in
    both (capture_at b c).queue (kept_by c b x) (kept c (after b x) xs) (capture_at (after b x) c).queue (capture_at (after_all (after b x) xs) c).queue
    (popped_by c b x) (popped c (after b x) xs) one.queue (queue-over_pops (after b x) c xs (has_channel-after b c x h) left.1) one.few

pub gap-after_loss : (b : Captures) (c : ℕ) (xs : List Access) → HasChannel b c → (capture_at b c).lost ≡ true → AllByRecursion (LeavesWaiting c) xs → kept c b xs ≡ []
    → (capture_at (after_all b xs) c).lost ≡ true
gap-after_loss b c [] h lost left none = lost
gap-after_loss b c (x ∷ xs) h lost left none =
    let parts = none_came (kept_by c b x) (kept c (after b x) xs) none in
    gap-after_loss (after b x) c xs (has_channel-after b c x h) ((moves-step b c x h left.0).mark lost parts.0) left.1 parts.1
