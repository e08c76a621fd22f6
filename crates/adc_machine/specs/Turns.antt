-- Turns: the units, the requests that wait for them, and which one comes next.
use Rattle.std.specs.Prelude.{ℕ, ◌+◌, ◌==◌, nat_lt, Bool, false, ◌&&◌, ◌||◌, not, cond, List, [], ◌∷◌, Option, Some, None, is_some, slice_index_or}
use Rattle.std.specs.List.{list_any}
use Rattle.mcal_base.specs.declared.moves.Unit as units
use Rattle.mcal_base.specs.declared.moves.Unit.TheVariants.{Adc0, Adc1, Spi0, Spi1}
use Rattle.run_model.specs.World.{World}
use Rattle.adc_machine.specs.declared.table.AdcTable.{AdcTable}
use Rattle.adc_machine.specs.declared.table.Group.{Group}
use Rattle.adc_machine.specs.Table.{group_of, all_groups, by_group}
use Rattle.adc_machine.specs.Groups.{Request, GroupState, Round, Results, untouched, suspends, ended_values, is_finished}

-- The module.
pub record AdcState : Type 0 where
  pub initialised : Bool
  -- the groups by number; one that isn't there is untouched
  pub groups : List GroupState
  -- the rounds of the units by number; a unit that isn't there is free
  pub units : List (Option Round)
  -- the marks of the trigger inputs by number
  pub marks : List Bool
  -- the number of the last request
  pub requests : ℕ
  -- what was stored
  pub results : Results

-- after power on and after a reset
abbrev pub first_state : AdcState
first_state = record { initialised = false; groups = []; units = []; marks = []; requests = 0; results = [] }

-- ---- the parts of the state

abbrev pub group_at : AdcState → ℕ → GroupState
group_at s g = slice_index_or s.groups g untouched

abbrev pub round_at : AdcState → ℕ → Option Round
round_at s u = slice_index_or s.units u None

-- the state with this group
abbrev pub with_group : AdcState → ℕ → GroupState → AdcState
with_group s g x = record s { groups = by_group (λ h. cond (h == g) x (group_at s h)) }

-- the state with this round on a unit, or with a free unit
abbrev pub with_round : AdcState → ℕ → Option Round → AdcState
with_round s u r = record s { units = cond (0 == u) r (round_at s 0) ∷ cond (1 == u) r (round_at s 1) ∷ [] }

-- ---- requests

-- the group's request, or none
abbrev pub with_waiting : AdcState → ℕ → Option Request → AdcState
with_waiting s g q = with_group s g (record (group_at s g) { waiting = q })

-- the group makes a request, with a number greater by one than all before
abbrev pub requested : AdcState → ℕ → AdcState
requested s g = record (with_waiting s g (Some (record { number = s.requests + 1; kept = [] }))) { requests = s.requests + 1 }

-- the round is one of the group
abbrev pub is_round_of : ℕ → Option Round → Bool
is_round_of g None = false
is_round_of g (Some r) = r.group == g

-- the group has a turn: it waits, or a unit has a round of it
abbrev pub has_turn : AdcState → ℕ → Bool
has_turn s g = is_some (group_at s g).waiting || is_round_of g (round_at s 0) || is_round_of g (round_at s 1)

-- the round, but for one of the group
abbrev pub unless_of : ℕ → Option Round → Option Round
unless_of g r = cond (is_round_of g r) None r

-- the group loses its turn
abbrev pub without_turn : AdcState → ℕ → AdcState
without_turn s g = record (with_waiting s g None) { units = unless_of g (round_at s 0) ∷ unless_of g (round_at s 1) ∷ [] }

-- ---- which request comes next

-- the group is configured on the unit
abbrev pub is_on : (unit : ℕ) → Option Group → Bool
is_on u None = false
is_on u (Some k) = k.unit == u

abbrev pub priority_of : Option Group → ℕ
priority_of None = 0
priority_of (Some k) = k.priority

-- the priority of a group, where priorities count; otherwise all are equal
abbrev pub rank_of : AdcTable → ℕ → ℕ
rank_of d g = cond d.priorities (priority_of (group_of d g)) 0

-- the group waits for the unit
abbrev pub waits_for : AdcTable → AdcState → (unit group : ℕ) → Bool
waits_for d s u g = is_on u (group_of d g) && is_some (group_at s g).waiting

-- the number of a request
abbrev pub number_in : Option Request → ℕ
number_in None = 0
number_in (Some q) = q.number

-- a waiting group comes before another one: it has a higher priority, or an equal one and a smaller request number
abbrev pub comes_before : AdcTable → AdcState → ℕ → ℕ → Bool
comes_before d s g h = nat_lt (rank_of d h) (rank_of d g) || (rank_of d g == rank_of d h && nat_lt (number_in (group_at s g).waiting) (number_in (group_at s h).waiting))

-- of two groups the one that comes before the other
abbrev pub first_of : AdcTable → AdcState → ℕ → Option ℕ → ℕ
first_of d s g None = g
first_of d s g (Some h) = cond (comes_before d s h g) h g

-- of these groups the one that waits for the unit and comes before all others that do
abbrev pub next_among : AdcTable → AdcState → (unit : ℕ) → List ℕ → Option ℕ
next_among d s u [] = None
next_among d s u (g ∷ gs) = cond (waits_for d s u g) (Some (first_of d s g (next_among d s u gs))) (next_among d s u gs)

-- the group whose request comes next on a unit
abbrev pub next_group : AdcTable → AdcState → (unit : ℕ) → Option ℕ
next_group d s u = next_among d s u all_groups

-- ---- starts

-- the number of a converter unit
abbrev pub number_of : units.Unit → Option ℕ
number_of Adc0 = Some 0
number_of Adc1 = Some 1
number_of Spi0 = None
number_of Spi1 = None

-- the group that a unit may start: the next one, where the unit is free
abbrev pub starts_by : Option Round → Option ℕ → Option ℕ
starts_by None g = g
starts_by (Some r) g = None

abbrev pub starts : AdcTable → AdcState → (unit : ℕ) → Option ℕ
starts d s u = starts_by (round_at s u) (next_group d s u)

-- the round that a request begins now
abbrev pub begun : World → ℕ → Option Request → Option Round
begun w g None = None
begun w g (Some q) = Some (record { group = g; request = q; start = w.now })

-- the unit starts the group's round, with what its request has kept
abbrev pub started : World → AdcState → (unit group : ℕ) → AdcState
started w s u g = with_round (with_waiting s g None) u (begun w g (group_at s g).waiting)

-- ---- aborts

-- a request of strictly higher priority than this group's waits for the unit
abbrev pub is_outranked : AdcTable → AdcState → (unit group : ℕ) → Bool
is_outranked d s u g = list_any (λ h. waits_for d s u h && nat_lt (rank_of d g) (rank_of d h)) all_groups

-- the round that may be aborted: one that isn't finished, and that a waiting request outranks
abbrev pub aborts_by : AdcTable → World → AdcState → (unit : ℕ) → Option Round → Option Round
aborts_by d w s u None = None
aborts_by d w s u (Some r) = cond (not (is_finished w (group_of d r.group) r) && is_outranked d s u r.group) (Some r) None

abbrev pub aborts : AdcTable → World → AdcState → (unit : ℕ) → Option Round
aborts d w s u = aborts_by d w s u (round_at s u)

-- what an aborted round keeps: under suspend and resume the values of the inputs that have ended
abbrev pub kept_of : World → Option Group → Round → List ℕ
kept_of w k r = cond (suspends k) (ended_values w k r) []

-- the unit is free, and the round's group waits again with its number
abbrev pub aborted : AdcTable → World → AdcState → (unit : ℕ) → Round → AdcState
aborted d w s u r = with_round (with_waiting s r.group (Some (record { number = r.request.number; kept = kept_of w (group_of d r.group) r }))) u None
