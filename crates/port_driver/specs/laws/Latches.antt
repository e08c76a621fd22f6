-- Port_Init writes the latch of each configured pin: the sweep has made each of its first four writes.
-- From service_outline: Duties, service_outline: SweepWords, Halves, Init.
-- Used by Lawful.
use Rattle.std.proofs.Common.{◌≡◌, ◌+◌, ◌/◌, ◌%◌, ◌<◌, ◌≤◌, ◌==◌, ◌&&◌, ◌++◌, ◌∙◌, if◌then◌else◌}
use Rattle.port_driver.specs.Terms
use Terms.{AllMade, ap, arith, asks, At, Bool, Closes, false, Follows, half_write, has_bit, InitDone, latch_duties}
use Terms.{latch_duty, Levels, List, list_any, made_here, made_on, Move, nat_lt, nat_tests, next_by, None, ones, Opens, Option, Pin, pin_of, SweepStage, place_of, PortTable, puts_latch, refl, sets, Some, subst, suc, sym, true, wants, writes_after, zero, ℕ}
use Rattle.port_driver.specs.laws.{Halves.{asked_bit}, Init.{setup_at}}

-- ---- a write that was made

-- whatever kind it is of, one of that kind was made
abbrev pub WasMade : List Move → Move → Type 0
WasMade writes made = (kind : Move → Bool) → kind made ≡ true → list_any kind writes ≡ true

-- it stays made
was_made_on : (writes : List Move) (made next : Move) → WasMade writes made → WasMade (writes_after writes next) made
was_made_on writes made next h = λ kind e. made_on kind writes next (h kind e)

-- ---- the sweep

-- of its first four writes those below i were made
abbrev pub LevelsBelow : PortTable → ℕ → List Move → Type 0
LevelsBelow d i writes = (j : ℕ) → j < i → j < 4 → WasMade writes (half_write d Levels j)

abbrev pub written_at : PortTable → SweepStage InitDone → List Move → Type 0
written_at d Opens writes = Unit {0}
written_at d (At i) writes = LevelsBelow d i writes
written_at d Closes writes = LevelsBelow d 4 writes
written_at d (Follows k) writes = LevelsBelow d 4 writes

pub next_written : (d : PortTable) (count i : ℕ) (writes : List Move) → 8 ≤ count → i ≤ count → LevelsBelow d i writes → written_at d (place_of count i) writes
next_written d count i writes many le h = next_by (λ p. written_at d p writes) count (λ j. At j) Closes i le (λ lt. h) (λ e. λ j low four. h j (omega (arith, many, four, e)) four)

below_or_here : (j i : ℕ) → j < i + 1 → (j == i) ≡ false → j < i
below_or_here j i lt e = grind (arith, nat_tests)

-- one more
pub level_more : (d : PortTable) (i : ℕ) (r : Bool) (writes : List Move) → LevelsBelow d i writes → LevelsBelow d (i + 1) (writes_after writes (setup_at d i (nat_lt i 4) r))
level_more d i r writes h = λ j lt four. by j lt four (j == i) refl
  where
    here : (q : Bool) → nat_lt i 4 ≡ q → i < 4 → WasMade (writes_after writes (setup_at d i q r)) (half_write d Levels i)
    here true e four = λ kind k. made_here kind writes (half_write d Levels i) k
    here false e four = absurd (grind (arith, nat_tests, e, four))

    by : (j : ℕ) → j < i + 1 → j < 4 → (q : Bool) → (j == i) ≡ q → WasMade (writes_after writes (setup_at d i (nat_lt i 4) r)) (half_write d Levels j)
    by j lt four true e = let same : j ≡ i = grind (arith, nat_tests, e) in subst (λ n. WasMade (writes_after writes (setup_at d i (nat_lt i 4) r)) (half_write d Levels n)) (sym same) (here (nat_lt i 4) refl (subst (λ n. n < 4) same four))
    by j lt four false e = was_made_on writes (half_write d Levels j) (setup_at d i (nat_lt i 4) r) (h j (below_or_here j i lt e) four)

-- ---- the latches

-- the write of a pin's latch is one of the four
half_is : (p : ℕ) → p < 64 → (q : Bool) → nat_lt p 32 ≡ q → (if q then 0 else 1) ≡ p / 32
half_is p lt true e = grind (arith, nat_tests)
half_is p lt false e = grind (arith, nat_tests)

same_half : (h p : ℕ) → h ≡ p / 32 → (h == p / 32) ≡ true
same_half h p e = grind (arith, nat_tests)

wanted : (d : PortTable) (p : ℕ) (k : Pin) → pin_of d p ≡ Some k → wants d Levels p ≡ Some k.level_high
wanted d p k e = rw e refl

asked : (d : PortTable) (j h p : ℕ) (set high : Bool) → sets j ≡ set → j / 2 ≡ h → h ≡ p / 32 → wants d Levels p ≡ Some high → asks set (Some high) ≡ true → (h == p / 32 && has_bit (ones (wants d Levels) j) (p % 32)) ≡ true
asked d j h p set high s half is want sure =
    subst (λ n. (n == p / 32 && has_bit (ones (wants d Levels) j) (p % 32)) ≡ true) half
    (asked_bit (wants d Levels) j p
    ∙ ap (λ q. j / 2 == p / 32 && asks q (wants d Levels p)) s
    ∙ ap (λ w. j / 2 == p / 32 && asks set w) want
    ∙ ap (λ q. (j / 2 == p / 32) && q) sure
    ∙ ap (λ q. q && true) (same_half (j / 2) p (half ∙ is)))

puts : (d : PortTable) (p : ℕ) (k : Pin) (writes : List Move) → p < 64 → pin_of d p ≡ Some k → LevelsBelow d 4 writes → (q : Bool) → nat_lt p 32 ≡ q → (high : Bool) → k.level_high ≡ high → list_any (puts_latch high p) writes ≡ true
puts d p k writes lt on h true e true up = h 0 (omega arith) (omega arith) (puts_latch true p) (asked d 0 0 p true true refl refl (half_is p lt true e) (wanted d p k on ∙ ap Some up) refl)
puts d p k writes lt on h true e false up = h 1 (omega arith) (omega arith) (puts_latch false p) (asked d 1 0 p false false refl refl (half_is p lt true e) (wanted d p k on ∙ ap Some up) refl)
puts d p k writes lt on h false e true up = h 2 (omega arith) (omega arith) (puts_latch true p) (asked d 2 1 p true true refl refl (half_is p lt false e) (wanted d p k on ∙ ap Some up) refl)
puts d p k writes lt on h false e false up = h 3 (omega arith) (omega arith) (puts_latch false p) (asked d 3 1 p false false refl refl (half_is p lt false e) (wanted d p k on ∙ ap Some up) refl)

duty_done : (d : PortTable) (p : ℕ) (writes : List Move) (rest : List (Move → Bool)) → p < 64 → LevelsBelow d 4 writes → (k : Option Pin) → pin_of d p ≡ k → AllMade rest writes → AllMade (latch_duty p k ++ rest) writes
duty_done d p writes rest lt h None e all = all
duty_done d p writes rest lt h (Some k) e all = rw (puts d p k writes lt e h (nat_lt p 32) refl k.level_high refl) all

duties_done : (d : PortTable) (writes : List Move) → LevelsBelow d 4 writes → (n : ℕ) → n ≤ 64 → AllMade (latch_duties d n) writes
unfolding latch_duties
duties_done d writes h zero le = refl
duties_done d writes h (suc n) le = duty_done d n writes (latch_duties d n) (omega (arith, le)) h (pin_of d n) refl (duties_done d writes h n (omega (arith, le)))

pub all_latches : (d : PortTable) (writes : List Move) → LevelsBelow d 4 writes → AllMade (latch_duties d 64) writes
all_latches d writes h = duties_done d writes h 64 (omega arith)
