-- A pulse unit that does what the machine's output does: the levels are equal at every time, and so are the changes between two times, and both take up a new regime alike.
-- From Changes.
-- Used by pwm_driver: Units, pwm_driver: FlagRelation, pwm_driver: RefinementRight and 3 more.
use Rattle.std.proofs.Common.{◌≡◌, ◌+◌, ◌-◌, ◌<◌, ◌≤◌, ◌%◌, ◌||◌, ◌==◌, ◌∙◌, if◌then◌else◌, ap, arith, Bool, false, nat_lt, refl, suc, sym, true, zero, ℕ}
use Rattle.chip_blocks.proofs.of_pulses.FlagLaws.{Begun, changes-output, output-changes}
use Rattle.module_machines.specs.declared.pwm.call.PwmEdge.TheVariants.{Both, Falling, Rising}
use Rattle.chip_blocks.specs.pulses.Pulses.{changed_between, commit_over, committed, output_level}
use Rattle.module_machines.specs.pwm.Units.{chosen, IsBegun, output_in, regime_in}
use Rattle.module_machines.specs.pwm.Output.{GivesWay, Idle, level_of, Output, period_end, Regime, regime_level, Runs, standing, succeeded, turns, turns_between, turns_within, with_new}
use Rattle.std.proofs.Math.Nat.{mod-le, mod-lt}
use Rattle.std.proofs.lemmas.Bool.Decides.{nat_tests}
use Rattle.chip_blocks.specs.pulses.Regime.{next_of, period_begin, regime_at, turn_of, turns_to}
use Rattle.mcal_base.specs.facts.Numbers.{positive}
use Rattle.module_machines.specs.declared.pwm.call.PwmEdge.{PwmEdge}
use Rattle.chip_blocks.specs.declared.pulses.regime.Commit.{Commit}
use Rattle.module_machines.specs.pwm.laws.Changes.{times_of, of_times}
use Rattle.chip_blocks.specs.pulses.Regime as regimes
use Rattle.chip_blocks.specs.declared.pulses.pulse.Output.TheVariants as units

-- ---- levels

regime_by : (high : Bool) (r : Regime) (now : ℕ) (none within : Bool) → (r.period == 0) ≡ none → nat_lt ((now - r.start) % r.period) r.duty ≡ within → regimes.regime_level (regime_in high r) now ≡ regime_level high r now
regime_by high r now true within e f = rw e refl
regime_by high r now false true e f = rw (e, f) refl
regime_by high r now false false e f = rw (e, f) refl

pub regime_same : (high : Bool) (r : Regime) (now : ℕ) → regimes.regime_level (regime_in high r) now ≡ regime_level high r now
regime_same high r now = regime_by high r now (r.period == 0) (nat_lt ((now - r.start) % r.period) r.duty) refl refl

-- a regime that waits starts where the machine's does
abbrev commit_in : Bool → Regime → Regime → Commit
commit_in high r n = record { begun = n.start - r.period; wave = record { period = n.period; duty = n.duty; high = high } }

turn_same : (high : Bool) (r n : Regime) → r.period ≤ n.start → turn_of (regime_in high r) (commit_in high r n) ≡ n.start
turn_same high r n le = omega (arith, le)

next_same : (high : Bool) (r n : Regime) → r.period ≤ n.start → next_of (regime_in high r) (commit_in high r n) ≡ regime_in high n
next_same high r n le = ap (λ t. record { start = t; wave = record { period = n.period; duty = n.duty; high = high } }) (turn_same high r n le)

if_apart : {A B : Type 0} (f : A → B) (q : Bool) (a b : A) (c : A) → c ≡ b → f (if q then a else c) ≡ f (if q then a else b)
if_apart f true a b c e = refl
if_apart f false a b c e = ap f e

in_if : (high : Bool) (q : Bool) (r n : Regime) → (if q then regime_in high r else regime_in high n) ≡ regime_in high (if q then r else n)
in_if high true r n = refl
in_if high false r n = refl

-- the regime that stands
pub standing_same : (high : Bool) (r n : Regime) (now : ℕ) → r.period ≤ n.start → regime_at (regime_in high r) (commit_in high r n) now ≡ regime_in high (standing r n now)
standing_same high r n now le =
    ap (λ t. if nat_lt now t then regime_in high r else next_of (regime_in high r) (commit_in high r n)) (turn_same high r n le)
    ∙ (ap (λ x. if nat_lt now n.start then regime_in high r else x) (next_same high r n le) ∙ in_if high (nat_lt now n.start) r n)

pub level_same : (high : Bool) (o : Output) (since now : ℕ) → IsBegun o since → output_level (output_in high o) now ≡ level_of high o now
level_same high (Idle level) since now b = refl
level_same high (Runs r) since now b = regime_same high r now
level_same high (GivesWay r n) since now b = ap (λ x. regimes.regime_level x now) (standing_same high r n now b.2) ∙ regime_same high (standing r n now) now

-- ---- changes between two times

begun_in : (high : Bool) (o : Output) (since : ℕ) → IsBegun o since → Begun (output_in high o) since
begun_in high (Idle level) since b = tt
begun_in high (Runs r) since b = b
begun_in high (GivesWay r n) since b = (b.0, b.1)

-- the change that a kind of one direction is
abbrev edge_to : Bool → PwmEdge
edge_to true = Rising
edge_to false = Falling

turns_same : (to before after : Bool) → turns_to to before after ≡ turns (edge_to to) before after
turns_same true before after = refl
turns_same false before after = refl

bool_same : (a b : Bool) → (a ≡ true → b ≡ true) → (b ≡ true → a ≡ true) → a ≡ b
bool_same true b f g = sym (f refl)
bool_same false true f g = g refl
bool_same false false f g = refl

pub changed_same : (high to : Bool) (o : Output) (since now : ℕ) → IsBegun o since → changed_between to (output_in high o) since now ≡ turns_between (edge_to to) (level_of high o) since now
changed_same high to o since now b = bool_same _ _ forward back
  where
    level : (t : ℕ) → output_level (output_in high o) t ≡ level_of high o t
    level t = level_same high o since t b

    forward : changed_between to (output_in high o) since now ≡ true → turns_between (edge_to to) (level_of high o) since now ≡ true
    forward e =
        let t = output-changes to (output_in high o) since now (begun_in high o since b) e in
        of_times (edge_to to) (level_of high o) since now (record {
          time = t.time;
          later = t.after;
          within = t.within;
          turned = sym (turns_same to _ _) ∙ (ap (λ x. turns_to to x (level_of high o t.time)) (sym (level (t.time - 1))) ∙ (ap (λ x. turns_to to (output_level (output_in high o) (t.time - 1)) x) (sym (level t.time)) ∙ t.turns));
        })

    back : turns_between (edge_to to) (level_of high o) since now ≡ true → changed_between to (output_in high o) since now ≡ true
    back e =
        let t = times_of (edge_to to) (level_of high o) since now e in
        changes-output to (output_in high o) since now (begun_in high o since b) (record {
          time = t.time;
          after = t.later;
          within = t.within;
          turns = ap (λ x. turns_to to x (output_level (output_in high o) t.time)) (level (t.time - 1)) ∙ (ap (λ x. turns_to to (level_of high o (t.time - 1)) x) (level t.time) ∙ (turns_same to _ _ ∙ t.turned));
        })

-- a change of both kinds is one of either
or_swap : (a b c d : Bool) → (a || b) || (c || d) ≡ (a || c) || (b || d)
or_swap true b c d = refl
or_swap false true true d = refl
or_swap false true false d = refl
or_swap false false true d = refl
or_swap false false false d = refl

both_within : (level : ℕ → Bool) (after n : ℕ) → turns_within Both level after n ≡ turns_within Rising level after n || turns_within Falling level after n
both_within level after zero = refl
both_within level after (suc n) =
    ap (λ q. turns Both (level (after + n)) (level (after + suc n)) || q) (both_within level after n)
    ∙ or_swap (turns Rising (level (after + n)) (level (after + suc n))) (turns Falling (level (after + n)) (level (after + suc n))) (turns_within Rising level after n) (turns_within Falling level after n)

-- what is chosen of the changes to each level is the machine's
pub chosen_same : (edge : PwmEdge) (high : Bool) (o : Output) (since now : ℕ) → IsBegun o since → chosen edge (changed_between true (output_in high o) since now) (changed_between false (output_in high o) since now) ≡ turns_between edge (level_of high o) since now
chosen_same Rising high o since now b = changed_same high true o since now b
chosen_same Falling high o since now b = changed_same high false o since now b
chosen_same Both high o since now b = ap (λ q. q || changed_between false (output_in high o) since now) (changed_same high true o since now b) ∙ (ap (λ q. turns_between Rising (level_of high o) since now || q) (changed_same high false o since now b) ∙ sym (both_within (level_of high o) since (now - since)))

pub chosen_or : (edge : PwmEdge) (a b c d : Bool) → chosen edge (a || c) (b || d) ≡ chosen edge a b || chosen edge c d
chosen_or Rising a b c d = refl
chosen_or Falling a b c d = refl
chosen_or Both a b c d = or_swap a c b d

pub chosen_turns : (edge : PwmEdge) (before after : Bool) → chosen edge (turns_to true before after) (turns_to false before after) ≡ turns edge before after
chosen_turns Rising before after = refl
chosen_turns Falling before after = refl
chosen_turns Both before after = refl

-- ---- a new regime

phase_small : (now start period : ℕ) → 0 < period → (now - start) % period < period
phase_small now start period pos = mod-lt (now - start) pos

begun_same : (r : Regime) (high : Bool) (now : ℕ) → 0 < r.period → period_end r now - r.period ≡ period_begin (regime_in high r) now
begun_same r high now pos =
    let small : (now - r.start) % r.period < r.period = mod-lt (now - r.start) pos in
    let le : (now - r.start) % r.period ≤ now - r.start = mod-le (now - r.start) r.period in
    omega (arith, small, le)

pub succeeded_same : (high : Bool) (r : Regime) (now p a : ℕ) (q : Bool) → (r.period == 0) ≡ q → commit_over (regime_in high r) (record { period = p; duty = a; high = high }) now ≡ output_in high (succeeded r now p a)
succeeded_same high r now p a true e = rw e refl
succeeded_same high r now p a false e = rw e (ap (λ t. units.Turns (regime_in high r) (record { begun = t; wave = record { period = p; duty = a; high = high } })) (sym (begun_same r high now (positive r.period e))))

-- a commit makes of the unit what the machine makes of the output
pub committed_same : (high : Bool) (o : Output) (since now p a : ℕ) → IsBegun o since → committed (record { period = p; duty = a; high = high }) now (output_in high o) ≡ output_in high (with_new now p a o)
committed_same high (Idle level) since now p a b = refl
committed_same high (Runs r) since now p a b = succeeded_same high r now p a (r.period == 0) refl
committed_same high (GivesWay r n) since now p a b = ap (λ x. commit_over x (record { period = p; duty = a; high = high }) now) (standing_same high r n now b.2) ∙ succeeded_same high (standing r n now) now p a ((standing r n now).period == 0) refl

succeeded_begun : (r : Regime) (now p a : ℕ) (q : Bool) → r.start ≤ now → (r.period == 0) ≡ q → IsBegun (succeeded r now p a) now
succeeded_begun r now p a true le e = rw e (omega arith)
succeeded_begun r now p a false le e =
    let pos = positive r.period e in
    let small : (now - r.start) % r.period < r.period = mod-lt (now - r.start) pos in
    let few : (now - r.start) % r.period ≤ now - r.start = mod-le (now - r.start) r.period in
    let late : r.period ≤ period_end r now = omega (arith, small, few) in
    rw e (le, pos, late)

standing_begun : (r n : Regime) (now : ℕ) (q : Bool) → r.start ≤ now → nat_lt now n.start ≡ q → (if q then r else n).start ≤ now
standing_begun r n now true le e = le
standing_begun r n now false le e = grind (arith, nat_tests)

-- which has begun then
pub with_new_begun : (o : Output) (since now p a : ℕ) → IsBegun o since → since ≤ now → IsBegun (with_new now p a o) now
with_new_begun (Idle level) since now p a b le = omega arith
with_new_begun (Runs r) since now p a b le = succeeded_begun r now p a (r.period == 0) (omega (arith, b, le)) refl
with_new_begun (GivesWay r n) since now p a b le = let early = b.0 in succeeded_begun (standing r n now) now p a ((standing r n now).period == 0) (standing_begun r n now (nat_lt now n.start) (omega (arith, early, le)) refl) refl
