-- Calls and handlers keep within their bounds of steps, and their windows within theirs of moves.
-- From bookkeeping.Rank, adc_groups: services.LookSteps, bookkeeping.WindowBounds, services.BeginSteps and 1 more.
-- Used by bookkeeping.Joined.
use Rattle.std.proofs.Common.{◌+◌, ◌-◌, ◌*◌, ◌≤◌, ◌&&◌, if◌then◌else◌}
use Rattle.adc_driver.specs.Terms
use Terms.{AdcTable, arith, Bool, cond, Entered, false, FitsAdc, Flag, Group, group_of, group_of_input, group_on}
use Terms.{group_steps, GroupCall, handled_body, is_trigger_line, is_unit_line, lists_for, most_inputs, None, not}
use Terms.{Option, place_for, request_steps, ResultBuffer, set_up_at, Some, steps_of, takes_one, true, Window, ℕ}
use Rattle.adc_driver.specs.laws.bookkeeping.Rank.{begins_after, bodies, cost, largest, looks_on, requests_after}
use Rattle.adc_driver.specs.laws.bookkeeping.Rank.{yields_after, few_inputs, lists_more, body_fuel, body_room}
use Rattle.adc_driver.specs.laws.{services.BeginSteps.{AreBounded}, bookkeeping.WindowBounds.{survey_few}}

module _ (d : AdcTable) (fits : FitsAdc d) where
  few : largest d ≤ 32
  few = few_inputs d fits

  -- ---- the parts of the sums

  lists_few : lists_for (largest d) ≤ 8
  lists_few = lists_more (largest d) 32 few

  -- the list registers of a round are 8 at most, so a window begins what waits within 23 steps
  requests_few : requests_after d ≤ 106
  requests_few =
      elim d.priorities as (λ q. (if q then yields_after d else begins_after d) ≤ 106)
      [ true ↦ omega (arith, few, lists_few) | false ↦ omega (arith, few, lists_few) ]

  -- groups are surveyed where neither priorities count nor requests queue up, and then no round is aborted
  starts_few : (g : ℕ) → looks_on true d (Window.Start g) ≤ 115
  starts_few g = by d.priorities d.queuing
    where
      by : (p q : Bool) → (if not p && not q then 16 else 0) + (9 + (if p then yields_after d else begins_after d)) ≤ 115
      by false true = omega (arith, few, lists_few)
      by _ _ = omega (arith, few, lists_few)

  looks_few : (g : ℕ) → looks_on false d (Window.Start g) ≤ 25
  looks_few g = elim (takes_one d) as (λ q. (if q then 16 else 0) + 9 ≤ 25) [ true ↦ omega arith | false ↦ omega arith ]

  enables_few : (q : Bool) (g : ℕ) → looks_on q d (Window.Enable g) ≤ 20
  enables_few q g =
      elim (takes_one d) as (λ b. (if b then 16 else 0) + 4 ≤ 20)
      [ true ↦ omega arith | false ↦ omega arith ]

  request_least : (k : Option Group) → 128 ≤ request_steps d k
  request_least None = omega arith
  request_least (Some k) = omega arith

  -- ---- calls

  set_up_steps : (g : ℕ) (b : Option ResultBuffer) → 7 + cost true d (set_up_at g b) ≤ 64
  set_up_steps g None = omega arith
  set_up_steps g (Some b) = omega arith

  pub group_costs : (g : ℕ) (call : GroupCall) → 7 + cost true d (place_for d g call) ≤ group_steps d call (group_of d g)
  group_costs g (GroupCall.SetupResultBuffer b) = set_up_steps g b
  group_costs g GroupCall.StartGroupConversion = let le = starts_few g in let least = request_least (group_of d g) in omega (arith, le, least)
  group_costs g GroupCall.StopGroupConversion = omega (arith, lists_few)
  group_costs g GroupCall.EnableHardwareTrigger = let le = enables_few true g in omega (arith, le)
  group_costs g GroupCall.DisableHardwareTrigger = omega (arith, lists_few)
  group_costs g _ = omega arith

  set_up_moves : (g : ℕ) (b : Option ResultBuffer) → 3 + cost false d (set_up_at g b) ≤ 32
  set_up_moves g None = omega arith
  set_up_moves g (Some b) = omega arith

  pub group_moves : (g : ℕ) (call : GroupCall) → 3 + cost false d (place_for d g call) ≤ 32
  group_moves g (GroupCall.SetupResultBuffer b) = set_up_moves g b
  group_moves g GroupCall.StartGroupConversion = let le = looks_few g in omega (arith, le)
  group_moves g GroupCall.EnableHardwareTrigger = let le = enables_few false g in omega (arith, le)
  group_moves g _ = omega arith

  -- ---- handlers

  -- a unit's handler copies a round twice
  unit_costs : (u : ℕ) → 6 + cost true d (Flag (Window.Take u)) ≤ 128 + 8 * most_inputs d u
  unit_costs u = omega (arith, few, lists_few)

  trigger_costs : (i g : ℕ) → 6 + cost true d (Flag (Window.Trigger i g)) ≤ 128
  trigger_costs i g = omega (arith, requests_few)

  pub handler_fuel : (line : ℕ) → 6 + (bodies d).fuel (handled_body d line) ≤ steps_of d (Entered line)
  handler_fuel line = by (is_unit_line line) (is_trigger_line line)
    where
      by : (p q : Bool) → 6 + cost true d (Flag (if p then Window.Take (line - 24) else if q then Window.Trigger (line - 28) (group_on d (line - 28) 0) else Window.Close)) ≤ cond p (128 + 8 * most_inputs d (line - 24)) (cond q (request_steps d (group_of_input d (line - 28))) 64)
      by true q = unit_costs (line - 24)
      by false true = let le = trigger_costs (line - 28) (group_on d (line - 28) 0) in let least = request_least (group_of_input d (line - 28)) in omega (arith, le, least)
      by false false = omega arith

  pub handler_room : (line : ℕ) → 2 + (bodies d).room (handled_body d line) ≤ 32
  handler_room line = by (is_unit_line line) (is_trigger_line line)
    where
      by : (p q : Bool) → 2 + cost false d (Flag (if p then Window.Take (line - 24) else if q then Window.Trigger (line - 28) (group_on d (line - 28) 0) else Window.Close)) ≤ 32
      by false true = omega arith
      by _ _ = omega arith

-- ---- The steps and moves of places where calls and handlers begin, as the files of those take them.

pub bounded : (d : AdcTable) → FitsAdc d → AreBounded d body_fuel body_room
bounded d fits = record {
  calling = λ g call there. let le = group_costs d fits g call in let few = group_moves d fits g call in (omega (arith, le), omega (arith, few));
  closing = let le = survey_few true d Window.Close 0 in let few = survey_few false d Window.Close 0 in (omega (arith, le), omega (arith, few));
  handling = λ l used. (handler_fuel d fits l, handler_room d fits l);
}
