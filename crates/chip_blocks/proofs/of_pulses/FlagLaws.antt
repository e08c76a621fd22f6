-- A flag stands exactly where a change of its kind came since it was cleared.
use Rattle.std.proofs.Common.{◌≡◌, ℕ, ◌-◌, ◌<◌, ◌≤◌, max, Bool, true, false, ◌&&◌, ◌||◌, nat_lt, refl, sym, ◌∙◌, ap, arith, ◌⊎◌, inl, inr}
use Rattle.std.specs.Prelude.{if◌then◌else◌}
use Rattle.std.proofs.lemmas.Bool.{and_from, and_parts, or_left, or_right}
use Rattle.mcal_base.specs.facts.Numbers.{lt_from, lt_is, lt_isnt, lt_since}
use Rattle.chip_blocks.specs.pulses.Regime.{regime_level, regime_changed, next_of, turn_of, turns_to}
use Rattle.chip_blocks.specs.pulses.Pulses.{output_level, changed_between}
use Rattle.chip_blocks.specs.pulses.Accesses.{ChangesBetween}
use Rattle.chip_blocks.proofs.of_pulses.ChangeLaws.{never_turns, regime-changes, changes-regime}
use Rattle.chip_blocks.specs.declared.pulses.regime.Regime.{Regime}
use Rattle.chip_blocks.specs.declared.pulses.regime.Commit.{Commit}
use Rattle.chip_blocks.specs.declared.pulses.pulse.Output.{Output}
use Rattle.chip_blocks.specs.declared.pulses.pulse.Output.TheVariants.{Idle, Runs, Turns}

-- an output whose regime began not after a time; one that waits to turn has a period
abbrev pub Begun : Output → ℕ → Type 0
Begun (Idle level) n = Unit {0}
Begun (Runs r) n = r.start ≤ n
Begun (Turns r c) n = (r.start ≤ n) × (0 < r.wave.period)

three_ways : (t e : ℕ) → (t < e) ⊎ ((t ≡ e) ⊎ (e < t))
three_ways t e = grind arith

pub either_true : (p q : Bool) → (p || q) ≡ true → (p ≡ true) ⊎ (q ≡ true)
either_true true q e = inl refl
either_true false q e = inr e

-- the same levels turn the same way
carried : (to p q p' q' : Bool) → p' ≡ p → q' ≡ q → turns_to to p q ≡ true → turns_to to p' q' ≡ true
carried to p q p' q' hp hq e = ap (λ l. turns_to to l q') hp ∙ ap (λ l. turns_to to p l) hq ∙ e

-- ---- before the turn and from it on

level_before : (r : Regime) (c : Commit) (t : ℕ) → t < turn_of r c → output_level (Turns r c) t ≡ regime_level r t
level_before r c t h = ap (λ q. regime_level (if q then r else next_of r c) t) (lt_from t (turn_of r c) h)

level_from : (r : Regime) (c : Commit) (t : ℕ) → turn_of r c ≤ t → output_level (Turns r c) t ≡ regime_level (next_of r c) t
level_from r c t h = ap (λ q. regime_level (if q then r else next_of r c) t) (lt_since t (turn_of r c) h)

abbrev at_the_turn : Bool → Regime → Commit → ℕ → Bool
at_the_turn to r c first = nat_lt first (turn_of r c) && turns_to to (regime_level r (turn_of r c - 1)) (regime_level (next_of r c) (turn_of r c))

abbrev over_the_turn : Bool → Regime → Commit → (first last : ℕ) → Bool
over_the_turn to r c first last =
    regime_changed to r first (turn_of r c - 1) || (at_the_turn to r c first || regime_changed to (next_of r c) (max first (turn_of r c)) last)

before_turn : (to : Bool) (r : Regime) (c : Commit) (first last : ℕ) → r.start ≤ first → last < turn_of r c → regime_changed to r first last ≡ true → ChangesBetween to (Turns r c) first last
before_turn to r c first last begun under e =
    let t = regime-changes to r first last begun e in
    record {
      time = t.time;
      after = t.after;
      within = t.within;
      turns = carried to _ _ _ _ (level_before r c (t.time - 1) (omega (arith, under, t.after, t.within))) (level_before r c t.time (omega (arith, under, t.within))) t.turns;
    }

over_turn : (to : Bool) (r : Regime) (c : Commit) (first last : ℕ) → r.start ≤ first → turn_of r c ≤ last → over_the_turn to r c first last ≡ true → ChangesBetween to (Turns r c) first last
over_turn to r c first last begun over e = elim (either_true (regime_changed to r first (turn_of r c - 1)) (at_the_turn to r c first || regime_changed to (next_of r c) (max first (turn_of r c)) last) e) [
  | inl before ↦
      let t = regime-changes to r first (turn_of r c - 1) begun before in
      record {
        time = t.time;
        after = t.after;
        within = omega (arith, t.within, over);
        turns = carried to _ _ _ _ (level_before r c (t.time - 1) (omega (arith, t.after, t.within))) (level_before r c t.time (omega (arith, t.after, t.within))) t.turns;
      }
  | inr rest ↦ elim (either_true (at_the_turn to r c first) (regime_changed to (next_of r c) (max first (turn_of r c)) last) rest) [
    | inl at ↦
        let parts = and_parts (nat_lt first (turn_of r c)) (turns_to to (regime_level r (turn_of r c - 1)) (regime_level (next_of r c) (turn_of r c))) at in
        let above : first < turn_of r c = lt_is first (turn_of r c) parts.0 in
        record {
          time = turn_of r c;
          after = above;
          within = over;
          turns = carried to _ _ _ _ (level_before r c (turn_of r c - 1) (omega (arith, above))) (level_from r c (turn_of r c) (omega arith)) parts.1;
        }
    | inr later ↦
        let t = regime-changes to (next_of r c) (max first (turn_of r c)) last (omega arith) later in
        record {
          time = t.time;
          after = omega (arith, t.after);
          within = t.within;
          turns = carried to _ _ _ _ (level_from r c (t.time - 1) (omega (arith, t.after))) (level_from r c t.time (omega (arith, t.after))) t.turns;
        }
  ]
]

turn_forward : (to : Bool) (r : Regime) (c : Commit) (first last : ℕ) (q : Bool) → r.start ≤ first → nat_lt last (turn_of r c) ≡ q
    → (if q then regime_changed to r first last else over_the_turn to r c first last) ≡ true → ChangesBetween to (Turns r c) first last
turn_forward to r c first last true begun at e = before_turn to r c first last begun (lt_is last (turn_of r c) at) e
turn_forward to r c first last false begun at e = over_turn to r c first last begun (lt_isnt last (turn_of r c) at) e

pub output-changes : (to : Bool) (o : Output) (first last : ℕ) → Begun o first → changed_between to o first last ≡ true → ChangesBetween to o first last
output-changes to (Idle level) first last begun e = absurd (cc e)
output-changes to (Runs r) first last begun e =
    let t = regime-changes to r first last begun e in
    record { time = t.time; after = t.after; within = t.within; turns = t.turns }
output-changes to (Turns r c) first last begun e = turn_forward to r c first last (nat_lt last (turn_of r c)) begun.0 refl e

-- ---- and back

back_before : (to : Bool) (r : Regime) (c : Commit) (first last : ℕ) → r.start ≤ first → last < turn_of r c → ChangesBetween to (Turns r c) first last → regime_changed to r first last ≡ true
back_before to r c first last begun under t =
    changes-regime to r first last begun (record {
      time = t.time;
      after = t.after;
      within = t.within;
      turns = carried to _ _ _ _ (sym (level_before r c (t.time - 1) (omega (arith, under, t.after, t.within)))) (sym (level_before r c t.time (omega (arith, under, t.within)))) t.turns;
    })

back_over : (to : Bool) (r : Regime) (c : Commit) (first last : ℕ) → r.start ≤ first → turn_of r c ≤ last → ChangesBetween to (Turns r c) first last → over_the_turn to r c first last ≡ true
back_over to r c first last begun over t =
    let rest = at_the_turn to r c first || regime_changed to (next_of r c) (max first (turn_of r c)) last in
    elim (three_ways t.time (turn_of r c)) [
      | inl before ↦
          or_left (regime_changed to r first (turn_of r c - 1)) rest
          (changes-regime to r first (turn_of r c - 1) begun (record {
            time = t.time;
            after = t.after;
            within = omega (arith, before);
            turns = carried to _ _ _ _ (sym (level_before r c (t.time - 1) (omega (arith, before, t.after)))) (sym (level_before r c t.time before)) t.turns;
          }))
      | inr from ↦
          or_right (regime_changed to r first (turn_of r c - 1)) rest
          (elim from [
            | inl at ↦
                let above : first < turn_of r c = omega (arith, at, t.after) in
                let turns : turns_to to (output_level (Turns r c) (turn_of r c - 1)) (output_level (Turns r c) (turn_of r c)) ≡ true =
                ap (λ n. turns_to to (output_level (Turns r c) (n - 1)) (output_level (Turns r c) n)) (sym at) ∙ t.turns in
                or_left (at_the_turn to r c first) (regime_changed to (next_of r c) (max first (turn_of r c)) last)
                (and_from (nat_lt first (turn_of r c)) _ (lt_from first (turn_of r c) above)
                (carried to _ _ _ _ (sym (level_before r c (turn_of r c - 1) (omega (arith, above)))) (sym (level_from r c (turn_of r c) (omega arith))) turns))
            | inr later ↦
                or_right (at_the_turn to r c first) (regime_changed to (next_of r c) (max first (turn_of r c)) last)
                (changes-regime to (next_of r c) (max first (turn_of r c)) last (omega arith) (record {
                  time = t.time;
                  after = omega (arith, later, t.after);
                  within = t.within;
                  turns = carried to _ _ _ _ (sym (level_from r c (t.time - 1) (omega (arith, later)))) (sym (level_from r c t.time (omega (arith, later)))) t.turns;
                }))
          ])
    ]

turn_back : (to : Bool) (r : Regime) (c : Commit) (first last : ℕ) (q : Bool) → r.start ≤ first → nat_lt last (turn_of r c) ≡ q → ChangesBetween to (Turns r c) first last
    → (if q then regime_changed to r first last else over_the_turn to r c first last) ≡ true
turn_back to r c first last true begun at t = back_before to r c first last begun (lt_is last (turn_of r c) at) t
turn_back to r c first last false begun at t = back_over to r c first last begun (lt_isnt last (turn_of r c) at) t

pub changes-output : (to : Bool) (o : Output) (first last : ℕ) → Begun o first → ChangesBetween to o first last → changed_between to o first last ≡ true
changes-output to (Idle level) first last begun t = absurd (never_turns to level t.turns)
changes-output to (Runs r) first last begun t =
    changes-regime to r first last begun (record { time = t.time; after = t.after; within = t.within; turns = t.turns })
changes-output to (Turns r c) first last begun t = turn_back to r c first last (nat_lt last (turn_of r c)) begun.0 refl t
