-- What a serial unit's words are after a history.
use Rattle.std.proofs.Common.{◌≡◌, ℕ, ◌+◌, ◌-◌, ◌*◌, ◌^◌, ◌<◌, ◌≤◌, ◌≢◌, Bool, true, false, ◌&&◌, ◌==◌, nat_le, List, [], ◌∷◌, length, refl, sym, ◌∙◌, ap, arith, length-set, get_or-set_same, get_or-set_other, ◌⊎◌, inl, inr, Option, Some, None}
use Rattle.std.specs.Prelude.{if◌then◌else◌}
use Rattle.std.specs.List.{AllByRecursion}
use Rattle.std.proofs.lemmas.Bool.Decides.{nat_tests}
use Rattle.mcal_base.specs.facts.Truths.{and_false}
use Rattle.mcal_base.specs.facts.Numbers.{same_or_other}
use Rattle.mcal_base.specs.Bits.{has_bit, bit_of}
use Rattle.mcal_base.specs.declared.register.Reg.TheVariants.{SerialSelect, SerialWidth, SerialAck}
use Rattle.chip_blocks.specs.units.Serials.{Serials, idle, masked, refused, is_done_at, is_busy, has_ended, is_done, last_received, received, begun, failing, faulted, acknowledged, flags_of, unit_at, with_unit, after_word, after_fault}
use Rattle.chip_blocks.specs.units.SerialAccesses.{Access, after, after_all, LeavesWord, LeavesDone, HasUnit}
use Rattle.chip_blocks.specs.units.SerialAccesses as accesses
use Rattle.chip_blocks.specs.declared.units.serial.Serial.{Serial}
use Rattle.chip_blocks.specs.declared.units.serial.Word.{Word}

pub unit_at-with_unit_same : (b : Serials) (u : ℕ) (s : Serial) → HasUnit b u → unit_at (with_unit b u s) u ≡ s
unit_at-with_unit_same b u s h = let within : u < length b.units = omega (arith, h.all, h.within) in get_or-set_same b.units u s idle within

pub unit_at-with_unit_other : (b : Serials) (k u : ℕ) (s : Serial) → u ≢ k → unit_at (with_unit b k s) u ≡ unit_at b u
unit_at-with_unit_other b k u s ne = get_or-set_other b.units k u s idle ne

-- a unit that another change leaves, seen through a function
with_seen : {A : Type 0} (see : Serial → A) (b : Serials) (k u : ℕ) (s : Serial) → HasUnit b u
    → (k ≡ u → see s ≡ see (unit_at b k)) → (u ≡ k) ⊎ (u ≢ k) → see (unit_at (with_unit b k s) u) ≡ see (unit_at b u)
with_seen see b k u s h e (inl at) = rw (← at) (ap see (unit_at-with_unit_same b u s h) ∙ rw (← at) at (e (sym at)))
with_seen see b k u s h e (inr ne) = ap see (unit_at-with_unit_other b k u s ne)

length-with_unit : (b : Serials) (k : ℕ) (s : Serial) → length (with_unit b k s).units ≡ length b.units
length-with_unit b k s = length-set b.units k s

pub length-after : (b : Serials) (x : Access) → length (after b x).units ≡ length b.units
length-after b (accesses.Writes (SerialSelect k) value) = length-with_unit b k _
length-after b (accesses.Writes (SerialWidth k) value) = length-with_unit b k _
length-after b (accesses.Writes (SerialAck k) value) = length-with_unit b k _
length-after b (accesses.Writes _ value) = refl
length-after b (accesses.Words k incoming) = length-with_unit b k _
length-after b (accesses.Faults k) = length-with_unit b k _
length-after b (accesses.Passes n) = refl

pub has_unit-after : (b : Serials) (u : ℕ) (x : Access) → HasUnit b u → HasUnit (after b x) u
has_unit-after b u x h = record { all = length-after b x ∙ h.all; within = h.within }

pub time-after : (b : Serials) (x : Access) → b.time ≤ (after b x).time
time-after b (accesses.Writes (SerialSelect k) value) = omega arith
time-after b (accesses.Writes (SerialWidth k) value) = omega arith
time-after b (accesses.Writes (SerialAck k) value) = omega arith
time-after b (accesses.Writes _ value) = omega arith
time-after b (accesses.Words k incoming) = omega arith
time-after b (accesses.Faults k) = omega arith
time-after b (accesses.Passes n) = omega arith

pub time-after_all : (b : Serials) (xs : List Access) → b.time ≤ (after_all b xs).time
time-after_all b [] = omega arith
time-after_all b (x ∷ xs) = omega (arith, time-after b x, time-after_all (after b x) xs)

-- ---- the last word received, at a later time

done_later : (w : Word) (a t : ℕ) → a ≤ t → is_done_at w a ≡ true → is_done_at w t ≡ true
done_later w a t le e = grind (arith, nat_tests)

ended_same : (word : Option Word) (earlier now t : ℕ) → now ≤ t → has_ended word now ≡ true → last_received word earlier now ≡ last_received word earlier t
ended_same None earlier now t le e = absurd (cc e)
ended_same (Some w) earlier now t le e = rw (e, done_later w now t le e) refl

-- an acknowledgement keeps it
received-acknowledged : (s : Serial) (now t : ℕ) (q : Bool) → now ≤ t → is_done s now ≡ q
    → received (if q then record s { received = received s now; word = None } else s) t ≡ received s t
received-acknowledged s now t true le e = ended_same s.word s.received now t le e
received-acknowledged s now t false le e = refl

pub received-left : (b : Serials) (u : ℕ) (x : Access) (t : ℕ) → HasUnit b u → LeavesWord u x → (after b x).time ≤ t
    → received (unit_at (after b x) u) t ≡ received (unit_at b u) t
received-left b u (accesses.Writes (SerialSelect k) value) t h left le =
    with_seen (λ s. received s t) b k u (record (unit_at b k) { select = value }) h (λ _. refl) (same_or_other u k)
received-left b u (accesses.Writes (SerialWidth k) value) t h left le =
    with_seen (λ s. received s t) b k u (record (unit_at b k) { width = value }) h (λ _. refl) (same_or_other u k)
received-left b u (accesses.Writes (SerialAck k) value) t h left le =
    with_seen (λ s. received s t) b k u (acknowledged b.time (unit_at b k)) h
    (λ _. received-acknowledged (unit_at b k) b.time t (is_done (unit_at b k) b.time) le refl) (same_or_other u k)
received-left b u (accesses.Writes _ value) t h left le = refl
received-left b u (accesses.Words k incoming) t h left le =
    with_seen (λ s. received s t) b k u (begun incoming b.time (unit_at b k)) h (λ e. absurd (left e)) (same_or_other u k)
received-left b u (accesses.Faults k) t h left le =
    with_seen (λ s. received s t) b k u (faulted b.time (unit_at b k)) h (λ e. absurd (left e)) (same_or_other u k)
received-left b u (accesses.Passes n) t h left le = refl

pub received-left_all : (b : Serials) (u : ℕ) (xs : List Access) (t : ℕ) → HasUnit b u → AllByRecursion (LeavesWord u) xs → (after_all b xs).time ≤ t
    → received (unit_at (after_all b xs) u) t ≡ received (unit_at b u) t
received-left_all b u [] t h left le = refl
received-left_all b u (x ∷ xs) t h left le =
    let early : (after b x).time ≤ t = omega (arith, time-after_all (after b x) xs) in
    received-left_all (after b x) u xs t (has_unit-after b u x h) left.1 le ∙ received-left b u x t h left.0 early

-- ---- a word

-- the word that a unit begins
abbrev pub word_begun : (incoming now width : ℕ) → Word
word_begun incoming now width = record { start = now; incoming = masked width incoming; failed = incoming == refused }

unit_at-word : (b : Serials) (u incoming : ℕ) → HasUnit b u → unit_at (after_word b u incoming) u ≡ begun incoming b.time (unit_at b u)
unit_at-word b u incoming h = unit_at-with_unit_same b u (begun incoming b.time (unit_at b u)) h

not_refused : (incoming : ℕ) → incoming ≢ 65536 → (incoming == 65536) ≡ false
not_refused incoming ne = grind (arith, nat_tests)

eight_passed : (start t : ℕ) → start + 8 ≤ t → nat_le 8 (t - start) ≡ true
eight_passed start t le = grind (arith, nat_tests)

eight_to_come : (start t : ℕ) → t < start + 8 → nat_le 8 (t - start) ≡ false
eight_to_come start t lt = grind (arith, nat_tests)

pub received-word : (b : Serials) (u incoming : ℕ) (xs : List Access) → HasUnit b u → incoming ≢ 65536 → AllByRecursion (LeavesWord u) xs
    → b.time + 8 ≤ (after_all (after_word b u incoming) xs).time
    → received (unit_at (after_all (after_word b u incoming) xs) u) (after_all (after_word b u incoming) xs).time ≡ masked (unit_at b u).width incoming
received-word b u incoming xs h ne left late =
    let t : ℕ = (after_all (after_word b u incoming) xs).time in
    received-left_all (after_word b u incoming) u xs t (has_unit-after b u (accesses.Words u incoming) h) left (omega arith)
    ∙ ap (λ s. received s t) (unit_at-word b u incoming h)
    ∙ rw (eight_passed b.time t late, not_refused incoming ne) refl

pub received-refused : (b : Serials) (u : ℕ) (xs : List Access) → HasUnit b u → AllByRecursion (LeavesWord u) xs
    → received (unit_at (after_all (after_word b u 65536) xs) u) (after_all (after_word b u 65536) xs).time ≡ received (unit_at b u) b.time
received-refused b u xs h left =
    let t : ℕ = (after_all (after_word b u 65536) xs).time in
    received-left_all (after_word b u 65536) u xs t (has_unit-after b u (accesses.Words u 65536) h) left (omega arith)
    ∙ ap (λ s. received s t) (unit_at-word b u 65536 h)
    ∙ rw (and_false (is_done_at (word_begun 65536 b.time (unit_at b u).width) t)) refl

pub received-not_yet : (b : Serials) (u incoming : ℕ) (xs : List Access) → HasUnit b u → AllByRecursion (LeavesWord u) xs
    → (after_all (after_word b u incoming) xs).time < b.time + 8
    → received (unit_at (after_all (after_word b u incoming) xs) u) (after_all (after_word b u incoming) xs).time ≡ received (unit_at b u) b.time
received-not_yet b u incoming xs h left early =
    let t : ℕ = (after_all (after_word b u incoming) xs).time in
    received-left_all (after_word b u incoming) u xs t (has_unit-after b u (accesses.Words u incoming) h) left (omega arith)
    ∙ ap (λ s. received s t) (unit_at-word b u incoming h)
    ∙ rw (eight_to_come b.time t early) refl

-- ---- a word that fails

-- a word in transfer, and what was received before it
abbrev seen : Serial → Option Word × ℕ
seen s = (s.word, s.received)

busy_acknowledged : (s : Serial) (now : ℕ) → is_done s now ≡ false → acknowledged now s ≡ s
busy_acknowledged s now e = rw e refl

not_done : (word : Option Word) (w : Word) (now : ℕ) → word ≡ Some w → now < w.start + 8 → has_ended word now ≡ false
not_done word w now is early = rw is (eight_to_come w.start now early)

-- it stands until it ends
pub transfer-left : (b : Serials) (u : ℕ) (x : Access) (w : Word) → HasUnit b u → LeavesWord u x → (unit_at b u).word ≡ Some w → b.time < w.start + 8
    → seen (unit_at (after b x) u) ≡ seen (unit_at b u)
transfer-left b u (accesses.Writes (SerialSelect k) value) w h left is early =
    with_seen seen b k u (record (unit_at b k) { select = value }) h (λ _. refl) (same_or_other u k)
transfer-left b u (accesses.Writes (SerialWidth k) value) w h left is early =
    with_seen seen b k u (record (unit_at b k) { width = value }) h (λ _. refl) (same_or_other u k)
transfer-left b u (accesses.Writes (SerialAck k) value) w h left is early =
    with_seen seen b k u (acknowledged b.time (unit_at b k)) h
    (λ e. ap seen (busy_acknowledged (unit_at b k) b.time (not_done (unit_at b k).word w b.time (rw e is) early))) (same_or_other u k)
transfer-left b u (accesses.Writes _ value) w h left is early = refl
transfer-left b u (accesses.Words k incoming) w h left is early =
    with_seen seen b k u (begun incoming b.time (unit_at b k)) h (λ e. absurd (left e)) (same_or_other u k)
transfer-left b u (accesses.Faults k) w h left is early =
    with_seen seen b k u (faulted b.time (unit_at b k)) h (λ e. absurd (left e)) (same_or_other u k)
transfer-left b u (accesses.Passes n) w h left is early = refl

pub transfer-left_all : (b : Serials) (u : ℕ) (xs : List Access) (w : Word) → HasUnit b u → AllByRecursion (LeavesWord u) xs → (unit_at b u).word ≡ Some w
    → (after_all b xs).time < w.start + 8 → seen (unit_at (after_all b xs) u) ≡ seen (unit_at b u)
transfer-left_all b u [] w h left is early = refl
transfer-left_all b u (x ∷ xs) w h left is early =
    let now : b.time < w.start + 8 = omega (arith, time-after b x, time-after_all (after b x) xs) in
    let same : seen (unit_at (after b x) u) ≡ seen (unit_at b u) = transfer-left b u x w h left.0 is now in
    transfer-left_all (after b x) u xs w (has_unit-after b u x h) left.1 (ap (λ (p : Option Word × ℕ). p.0) same ∙ is) early ∙ same

pub has_unit-after_all : (b : Serials) (u : ℕ) (xs : List Access) → HasUnit b u → HasUnit (after_all b xs) u
has_unit-after_all b u [] h = h
has_unit-after_all b u (x ∷ xs) h = has_unit-after_all (after b x) u xs (has_unit-after b u x h)

faulted_received : (s : Serial) (w : Word) (now t : ℕ) → s.word ≡ Some w → now < w.start + 8 → received (faulted now s) t ≡ s.received
faulted_received s w now t is early = rw (is, eight_to_come w.start now early, and_false (is_done_at w t)) refl

pub received-faulted : (b : Serials) (u incoming : ℕ) (before xs : List Access) → HasUnit b u → AllByRecursion (LeavesWord u) before → AllByRecursion (LeavesWord u) xs
    → (after_all (after_word b u incoming) before).time < b.time + 8
    → received (unit_at (after_all (after_fault (after_all (after_word b u incoming) before) u) xs) u) (after_all (after_fault (after_all (after_word b u incoming) before) u) xs).time
    ≡ received (unit_at b u) b.time
received-faulted b u incoming before xs h left left' early =
    let b1 : Serials = after_word b u incoming in
    let c : Serials = after_all b1 before in
    let w : Word = word_begun incoming b.time (unit_at b u).width in
    let t : ℕ = (after_all (after_fault c u) xs).time in
    let h1 : HasUnit b1 u = has_unit-after b u (accesses.Words u incoming) h in
    let hc : HasUnit c u = has_unit-after_all b1 u before h1 in
    let began : unit_at b1 u ≡ begun incoming b.time (unit_at b u) = unit_at-word b u incoming h in
    let word : (unit_at b1 u).word ≡ Some w = ap (λ (s : Serial). s.word) began in
    let same : seen (unit_at c u) ≡ seen (unit_at b1 u) = transfer-left_all b1 u before w h1 left word early in
    received-left_all (after_fault c u) u xs t (has_unit-after c u (accesses.Faults u) hc) left' (omega arith)
    ∙ ap (λ s. received s t) (unit_at-with_unit_same c u (faulted c.time (unit_at c u)) hc)
    ∙ faulted_received (unit_at c u) w c.time t (ap (λ (p : Option Word × ℕ). p.0) same ∙ word) early
    ∙ ap (λ (p : Option Word × ℕ). p.1) same
    ∙ ap (λ (s : Serial). s.received) began

-- ---- the done bit

failing_ends : (word : Option Word) (t : ℕ) → has_ended (failing word) t ≡ has_ended word t
failing_ends None t = refl
failing_ends (Some w) t = refl

faulted_done : (s : Serial) (now t : ℕ) (q : Bool) → is_done (if q then record s { word = failing s.word } else s) t ≡ is_done s t
faulted_done s now t true = failing_ends s.word t
faulted_done s now t false = refl

pub done-left : (b : Serials) (u : ℕ) (x : Access) (t : ℕ) → HasUnit b u → LeavesDone u x → is_done (unit_at (after b x) u) t ≡ is_done (unit_at b u) t
done-left b u (accesses.Writes (SerialSelect k) value) t h left =
    with_seen (λ s. is_done s t) b k u (record (unit_at b k) { select = value }) h (λ _. refl) (same_or_other u k)
done-left b u (accesses.Writes (SerialWidth k) value) t h left =
    with_seen (λ s. is_done s t) b k u (record (unit_at b k) { width = value }) h (λ _. refl) (same_or_other u k)
done-left b u (accesses.Writes (SerialAck k) value) t h left =
    with_seen (λ s. is_done s t) b k u (acknowledged b.time (unit_at b k)) h (λ e. absurd (left e)) (same_or_other u k)
done-left b u (accesses.Writes _ value) t h left = refl
done-left b u (accesses.Words k incoming) t h left =
    with_seen (λ s. is_done s t) b k u (begun incoming b.time (unit_at b k)) h (λ e. absurd (left e)) (same_or_other u k)
done-left b u (accesses.Faults k) t h left =
    with_seen (λ s. is_done s t) b k u (faulted b.time (unit_at b k)) h
    (λ _. faulted_done (unit_at b k) b.time t (is_busy (unit_at b k) b.time)) (same_or_other u k)
done-left b u (accesses.Passes n) t h left = refl

pub done-left_all : (b : Serials) (u : ℕ) (xs : List Access) (t : ℕ) → HasUnit b u → AllByRecursion (LeavesDone u) xs
    → is_done (unit_at (after_all b xs) u) t ≡ is_done (unit_at b u) t
done-left_all b u [] t h left = refl
done-left_all b u (x ∷ xs) t h left = done-left_all (after b x) u xs t (has_unit-after b u x h) left.1 ∙ done-left b u x t h left.0

eight_since : (start t : ℕ) → nat_le 8 (t - start) ≡ nat_le (start + 8) t
eight_since start t = grind (arith, nat_tests)

pub done-since_word : (b : Serials) (u incoming : ℕ) (xs : List Access) → HasUnit b u → AllByRecursion (LeavesDone u) xs
    → is_done (unit_at (after_all (after_word b u incoming) xs) u) (after_all (after_word b u incoming) xs).time ≡ nat_le (b.time + 8) (after_all (after_word b u incoming) xs).time
done-since_word b u incoming xs h left =
    let t : ℕ = (after_all (after_word b u incoming) xs).time in
    done-left_all (after_word b u incoming) u xs t (has_unit-after b u (accesses.Words u incoming) h) left
    ∙ ap (λ s. is_done s t) (unit_at-word b u incoming h)
    ∙ eight_since b.time t

-- ---- flags

first_is : (x y : Bool) → has_bit (bit_of x * 2 ^ 26 + bit_of y * 2 ^ 27) 26 ≡ x
first_is true true = refl
first_is true false = refl
first_is false true = refl
first_is false false = refl

second_is : (x y : Bool) → has_bit (bit_of x * 2 ^ 26 + bit_of y * 2 ^ 27) 27 ≡ y
second_is true true = refl
second_is true false = refl
second_is false true = refl
second_is false false = refl

pub flag-first : (b : Serials) → has_bit (flags_of b) 26 ≡ is_done (unit_at b 0) b.time
flag-first b = first_is (is_done (unit_at b 0) b.time) (is_done (unit_at b 1) b.time)

pub flag-second : (b : Serials) → has_bit (flags_of b) 27 ≡ is_done (unit_at b 1) b.time
flag-second b = second_is (is_done (unit_at b 0) b.time) (is_done (unit_at b 1) b.time)
