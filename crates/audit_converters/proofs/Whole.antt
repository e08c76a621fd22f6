-- What a part of what is kept comes to, of the whole.
use Rattle.std.proofs.Common.{◌≡◌, ℕ, ◌+◌, ◌-◌, List, length, ◌&&◌, Bool, true, false, cond, refl, ◌∙◌, sym, ap, subst, Option, Some, None}
use Rattle.run_model.specs.World.{World}
use Rattle.run_model.specs.Machine.{Outcome, Told}
use Rattle.adc_machine.specs.Groups.{GroupState, Round, held_in, is_continuous, is_full, Results, trigger_input, with_round_of}
use Rattle.adc_machine.specs.Machine.{after_round, is_done, is_trigger_line, is_unit_line, ready, served_values, with_values}
use Rattle.adc_machine.specs.Table.{group_of}
use Rattle.adc_machine.specs.Triggers.{listener, mark_at, requested_unless_turn, served_trigger, with_mark, without_mark}
use Rattle.adc_machine.specs.Turns.{AdcState, group_at, has_turn, requested, round_at, with_group, with_round}
use Rattle.adc_machine.specs.declared.table.AdcTable.{AdcTable}
use Rattle.adc_machine.specs.declared.table.Group as configured
use Rattle.adc_machine.proofs.Parts.{either}
use Rattle.audit_base.specs.Comes.{ComesIf, Gives}
use Rattle.audit_converters.specs.Stands.{ConvertersKept, HoldResults, Kept, Stands, StandsFor}

-- the words hold results that are the same
pub held_same : (t : ConvertersKept) (a b : Results) → a ≡ b → HoldResults t.results a → HoldResults t.results b
held_same t a b e h g c p lt small = h g c p lt small ∙ ap (λ rs. held_in rs g c p) e

-- where the results stay, the whole gives what the groups give
pub gives_whole : (t : ConvertersKept) (k : Kept) (s : AdcState) (said : Told) (out : Outcome AdcState) → StandsFor t s → Gives (Stands k) said out → out.state.results ≡ s.results → Gives (StandsFor (record t { groups = k })) said out
gives_whole t k s said out h g e = record { told = g.told; wordless = g.wordless; kept = record { groups = g.kept; results = held_same t s.results out.state.results (sym e) h.results } }

pub comes_whole : (t : ConvertersKept) (k : Kept) (s : AdcState) (said : Option Told) (o : Option (Outcome AdcState)) → StandsFor t s → ComesIf (Stands k) said o → ((out : Outcome AdcState) → o ≡ Some out → out.state.results ≡ s.results) → ComesIf (StandsFor (record t { groups = k })) said o
comes_whole t k s None None h g same = tt
comes_whole t k s None (Some out) h g same = absurd g
comes_whole t k s (Some said) None h g same = absurd g
comes_whole t k s (Some said) (Some out) h g same = gives_whole t k s said out h g (same out refl)

-- a serving of a trigger's line leaves the results
pub trigger_leaves : (d : AdcTable) (s : AdcState) (i : ℕ) → (served_trigger d s i).results ≡ s.results
trigger_leaves d s i = by (listener d s i)
  where
    by : (o : Option ℕ) → (requested_unless_turn (with_mark s i false) o).results ≡ s.results
    by None = refl
    by (Some g) = either (λ (x : AdcState). x.results ≡ s.results) (has_turn (with_mark s i false) g) (with_mark s i false) (requested (with_mark s i false) g) refl refl

-- a unit's line that is ready waits for its finished round
pub ready_done : (d : AdcTable) (w : World) (s : AdcState) (l : ℕ) → is_unit_line l ≡ true → ready d w s l ≡ true → is_done d w (round_at s (l - 24)) ≡ true
ready_done d w s l line e = by s.initialised (is_done d w (round_at s (l - 24))) (subst (λ b. (s.initialised && cond b (is_done d w (round_at s (l - 24))) (is_trigger_line l && mark_at s (l - 28))) ≡ true) line e)
  where
    by : (a b : Bool) → (a && b) ≡ true → b ≡ true
    by true b e = e
    by false b e = absurd (cc e)

-- what comes after a round leaves the results
pub after_leaves : (d : AdcTable) (s : AdcState) (g n : ℕ) (full continuous : Bool) → (after_round d s g n full continuous).results ≡ s.results
after_leaves d s g n true continuous = by (trigger_input (group_of d g))
  where
    by : (o : Option ℕ) → (without_mark (with_group s g (record (group_at s g) { trigger = false })) o).results ≡ s.results
    by None = refl
    by (Some i) = refl
after_leaves d s g n false true = refl
after_leaves d s g n false false = refl

-- a serving stores the round's values
pub served_results : (d : AdcTable) (s : AdcState) (u : ℕ) (r : Round) (values : List ℕ) → (served_values d s u r values).results ≡ with_round_of (group_of d r.group) (length (group_at s r.group).rounds) r.group (group_at s r.group).chosen values s.results
served_results d s u r values =
    let k : Option configured.Group = group_of d r.group in
    let x : GroupState = group_at s r.group in
    after_leaves d (record (with_group (with_round s u None) r.group (with_values k x values)) { results = with_round_of k (length x.rounds) r.group x.chosen values s.results }) r.group r.request.number (is_full k (length x.rounds + 1)) (is_continuous k)
