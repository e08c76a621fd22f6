-- A group after a serving of its round.
use Rattle.std.proofs.Common.{◌≡◌, ◌≢◌, ℕ, ◌+◌, ◌-◌, ◌<◌, ◌==◌, Bool, true, false, cond, List, [], ◌∷◌, ◌++◌, length, Option, Some, None, refl, sym, ◌∙◌, ap}
use Rattle.mcal_base.specs.facts.Numbers.{eq_from, eq_other}
use Rattle.run_model.specs.World.{World}
use Rattle.run_model.specs.Machine.{Serves, Outcome, outcome, tells_nothing}
use Rattle.adc_machine.specs.Groups.{Round, Status, Idle, Busy, Completed, StreamCompleted, status_after, is_continuous, is_full, place_in, samples_of, values_of, trigger_input, with_round_of}
use Rattle.adc_machine.specs.Machine.{happens, ready, served, served_round, served_values, after_round, with_values, is_unit_line}
use Rattle.adc_machine.specs.Table.{group_of}
use Rattle.adc_machine.specs.Triggers.{without_mark, served_trigger}
use Rattle.adc_machine.specs.Turns.{AdcState, group_at, round_at, with_group, with_round}
use Rattle.adc_machine.specs.declared.table.AdcTable.{AdcTable}
use Rattle.adc_machine.proofs.Numbers.{allowed}
use Rattle.adc_machine.proofs.Parts.{group_same}

unmarked_rounds : (s : AdcState) (g : ℕ) (o : Option ℕ) → (group_at (without_mark s o) g).rounds ≡ (group_at s g).rounds
unmarked_rounds s g None = refl
unmarked_rounds s g (Some i) = refl

turn_rounds : (d : AdcTable) (s : AdcState) (g n : ℕ) (full continuous : Bool) → g < 16 → (group_at (after_round d s g n full continuous) g).rounds ≡ (group_at s g).rounds
turn_rounds d s g n true continuous lt =
    unmarked_rounds (with_group s g (record (group_at s g) { trigger = false })) g (trigger_input (group_of d g)) ∙ ap (λ x. x.rounds) (group_same s g (record (group_at s g) { trigger = false }) lt)
turn_rounds d s g n false true lt = ap (λ x. x.rounds) (group_same s g (record (group_at s g) { waiting = Some (record { number = n; kept = [] }) }) lt)
turn_rounds d s g n false false lt = refl

values_added : (d : AdcTable) (s : AdcState) (u : ℕ) (r : Round) (values : List ℕ) → r.group < 16 → (group_at (served_values d s u r values) r.group).rounds ≡ (group_at s r.group).rounds ++ values ∷ []
values_added d s u r values lt = turn_rounds d before r.group r.request.number _ _ lt ∙ ap (λ x. x.rounds) (group_same (with_round s u None) r.group (with_values (group_of d r.group) (group_at s r.group) values) lt)
  where
    before : AdcState
    before = record (with_group (with_round s u None) r.group (with_values (group_of d r.group) (group_at s r.group) values)) { results = with_round_of (group_of d r.group) (length (group_at s r.group).rounds) r.group (group_at s r.group).chosen values s.results }

pub serving_adds : (d : AdcTable) (w : World) (s : AdcState) (l received : ℕ) (r : Round) (out : Outcome AdcState) → is_unit_line l ≡ true → round_at s (l - 24) ≡ Some r → r.group < 16
    → happens d w s (Serves l received) ≡ Some out → (group_at out.state r.group).rounds ≡ (group_at s r.group).rounds ++ values_of w (group_of d r.group) r ∷ []
serving_adds d w s l received r out line is_round lt e =
    let is_served : (served_round d w s (l - 24) (Some r)).state ≡ out.state =
    ap (λ q. (served_round d w s (l - 24) q).state) (sym is_round)
    ∙ ap (λ q. (cond q (served_round d w s (l - 24) (round_at s (l - 24))) (outcome (served_trigger d s (l - 28)) tells_nothing)).state) (sym line)
    ∙ allowed (λ t. (served d w s l).state ≡ t) (ready d w s l) (served d w s l) out e refl in
    ap (λ t. (group_at t r.group).rounds) (sym is_served) ∙ values_added d s (l - 24) r (values_of w (group_of d r.group) r) lt

-- ---- the status

unmarked_status : (s : AdcState) (g : ℕ) (o : Option ℕ) → (group_at (without_mark s o) g).status ≡ (group_at s g).status
unmarked_status s g None = refl
unmarked_status s g (Some i) = refl

turn_status : (d : AdcTable) (s : AdcState) (g n : ℕ) (full continuous : Bool) → g < 16 → (group_at (after_round d s g n full continuous) g).status ≡ (group_at s g).status
turn_status d s g n true continuous lt =
    unmarked_status (with_group s g (record (group_at s g) { trigger = false })) g (trigger_input (group_of d g)) ∙ ap (λ x. x.status) (group_same s g (record (group_at s g) { trigger = false }) lt)
turn_status d s g n false true lt = ap (λ x. x.status) (group_same s g (record (group_at s g) { waiting = Some (record { number = n; kept = [] }) }) lt)
turn_status d s g n false false lt = refl

-- the state just before the turn is settled
abbrev before_turn : AdcTable → AdcState → ℕ → Round → List ℕ → AdcState
before_turn d s u r values = record (with_group (with_round s u None) r.group (with_values (group_of d r.group) (group_at s r.group) values)) { results = with_round_of (group_of d r.group) (length (group_at s r.group).rounds) r.group (group_at s r.group).chosen values s.results }

served_is : (d : AdcTable) (w : World) (s : AdcState) (l received : ℕ) (r : Round) (out : Outcome AdcState) → is_unit_line l ≡ true → round_at s (l - 24) ≡ Some r
    → happens d w s (Serves l received) ≡ Some out → served_values d s (l - 24) r (values_of w (group_of d r.group) r) ≡ out.state
served_is d w s l received r out line is_round e =
    ap (λ q. (served_round d w s (l - 24) q).state) (sym is_round)
    ∙ ap (λ q. (cond q (served_round d w s (l - 24) (round_at s (l - 24))) (outcome (served_trigger d s (l - 28)) tells_nothing)).state) (sym line)
    ∙ allowed (λ t. (served d w s l).state ≡ t) (ready d w s l) (served d w s l) out e refl

abbrev is_last : AdcTable → AdcState → Round → Bool
is_last d s r = place_in (group_of d r.group) (length (group_at s r.group).rounds) + 1 == samples_of (group_of d r.group)

status_is : (d : AdcTable) (w : World) (s : AdcState) (l received : ℕ) (r : Round) (out : Outcome AdcState) → is_unit_line l ≡ true → round_at s (l - 24) ≡ Some r → r.group < 16
    → happens d w s (Serves l received) ≡ Some out → (group_at out.state r.group).status ≡ status_after (is_last d s r) (group_at s r.group).status
status_is d w s l received r out line is_round lt e =
    let values : List ℕ = values_of w (group_of d r.group) r in
    ap (λ t. (group_at t r.group).status) (sym (served_is d w s l received r out line is_round e))
    ∙ turn_status d (before_turn d s (l - 24) r values) r.group r.request.number _ _ lt
    ∙ ap (λ x. x.status) (group_same (with_round s (l - 24) None) r.group (with_values (group_of d r.group) (group_at s r.group) values) lt)

pub last_round : (d : AdcTable) (w : World) (s : AdcState) (l received : ℕ) (r : Round) (out : Outcome AdcState) → is_unit_line l ≡ true → round_at s (l - 24) ≡ Some r → r.group < 16 → happens d w s (Serves l received) ≡ Some out
    → place_in (group_of d r.group) (length (group_at s r.group).rounds) + 1 ≡ samples_of (group_of d r.group) → (group_at out.state r.group).status ≡ StreamCompleted
last_round d w s l received r out line is_round lt e at =
    status_is d w s l received r out line is_round lt e ∙ ap (λ b. status_after b (group_at s r.group).status) (eq_from _ _ at)

again_by : (b : Bool) → status_after b StreamCompleted ≡ StreamCompleted
again_by true = refl
again_by false = refl

pub round_again : (d : AdcTable) (w : World) (s : AdcState) (l received : ℕ) (r : Round) (out : Outcome AdcState) → is_unit_line l ≡ true → round_at s (l - 24) ≡ Some r → r.group < 16 → happens d w s (Serves l received) ≡ Some out
    → (group_at s r.group).status ≡ StreamCompleted → (group_at out.state r.group).status ≡ StreamCompleted
round_again d w s l received r out line is_round lt e was =
    status_is d w s l received r out line is_round lt e ∙ ap (λ x. status_after (is_last d s r) x) was ∙ again_by (is_last d s r)

other_by : (x : Status) → x ≢ StreamCompleted → status_after false x ≡ Completed
other_by Idle ne = refl
other_by Busy ne = refl
other_by Completed ne = refl
other_by StreamCompleted ne = absurd (ne refl)

pub other_round : (d : AdcTable) (w : World) (s : AdcState) (l received : ℕ) (r : Round) (out : Outcome AdcState) → is_unit_line l ≡ true → round_at s (l - 24) ≡ Some r → r.group < 16 → happens d w s (Serves l received) ≡ Some out
    → place_in (group_of d r.group) (length (group_at s r.group).rounds) + 1 ≢ samples_of (group_of d r.group) → (group_at s r.group).status ≢ StreamCompleted → (group_at out.state r.group).status ≡ Completed
other_round d w s l received r out line is_round lt e isnt wasnt =
    status_is d w s l received r out line is_round lt e ∙ ap (λ b. status_after b (group_at s r.group).status) (eq_other _ _ isnt) ∙ other_by (group_at s r.group).status wasnt

-- ---- the number

pub number_again : (d : AdcTable) (w : World) (s : AdcState) (l received : ℕ) (r : Round) (out : Outcome AdcState) → is_unit_line l ≡ true → round_at s (l - 24) ≡ Some r → r.group < 16 → happens d w s (Serves l received) ≡ Some out
    → is_continuous (group_of d r.group) ≡ true → is_full (group_of d r.group) (length (group_at s r.group).rounds + 1) ≡ false → (group_at out.state r.group).waiting ≡ Some (record { number = r.request.number; kept = [] })
number_again d w s l received r out line is_round lt e continuous full =
    let values : List ℕ = values_of w (group_of d r.group) r in
    let before : AdcState = before_turn d s (l - 24) r values in
    ap (λ t. (group_at t r.group).waiting) (sym (served_is d w s l received r out line is_round e))
    ∙ ap (λ b. (group_at (after_round d before r.group r.request.number b (is_continuous (group_of d r.group))) r.group).waiting) full
    ∙ ap (λ b. (group_at (after_round d before r.group r.request.number false b) r.group).waiting) continuous
    ∙ ap (λ x. x.waiting) (group_same before r.group (record (group_at before r.group) { waiting = Some (record { number = r.request.number; kept = [] }) }) lt)
