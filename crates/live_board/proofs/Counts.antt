-- What is counted of the outside, at each move, each hardware event and each reset.
use Rattle.std.proofs.Common.{◌≡◌, ℕ, zero, suc, ◌+◌, ◌-◌, ◌*◌, ◌<◌, ◌≤◌, true, false, List, Some, refl, sym, ◌∙◌, ap, subst, arith}
use Rattle.std.specs.Prelude.{nat_lt}
use Rattle.std.proofs.lemmas.Bool.Decides.{nat_tests}
use Rattle.chip_model.specs.Chip.{Chip, CanHappen, chip_after, happened, hung, now_of, power_on, reset_chip}
use Rattle.chip_model.proofs.DeviceLaws.{devices_after}
use Rattle.chip_model.proofs.HistoryLaws.{level_leaves, osc-move, now-move}
use Rattle.mcal_base.specs.declared.directive.Order.{Order}
use Rattle.mcal_base.specs.declared.directive.Order.TheVariants.{Analog, Fill, Level, Miso, SpiFault, Tick, Trigger}
use Rattle.mcal_base.specs.declared.directive.Reason.{Reason}
use Rattle.mcal_base.specs.declared.config.whole.Config.{Config}
use Rattle.mcal_base.specs.declared.moves.Move.{Move}
use Rattle.script_runner.specs.Standing.{filled_by, is_hardware, may_be_held, room_on, words_by}
use Rattle.script_runner.proofs.Given.{room_event, room_move}
use Rattle.live_board.specs.Lives.{IsCounted, is_gift, is_setting}
use Rattle.live_board.specs.declared.outside.TheConstants.{MOST_TICKS}

-- so many peripheral ticks
product : (n rate : ℕ) → rate ≤ 16 → n * rate ≤ 16 * n
product n rate slow = grind arith

pub can_tick : (n left room : ℕ) (c : Chip) → n ≤ left → c.clock.rate ≤ 16 → IsCounted c left room → CanHappen c (Tick n)
can_tick n left room c few slow h = let p = product n c.clock.rate slow in let a = h.osc in let b = h.now in (omega (arith, few, a), omega (arith, few, p, b))

pub counted_ticked : (n left room : ℕ) (c c1 : Chip) → n ≤ left → c.clock.rate ≤ 16 → c1 ≡ happened c (Tick n) → IsCounted c left room → IsCounted c1 (left - n) room
counted_ticked n left room c c1 few slow is h =
    let p = product n c.clock.rate slow in
    let a = h.osc in
    let b = h.now in
    let osc : c1.clock.osc ≡ c.clock.osc + n = ap (λ x. x.clock.osc) is in
    let now : now_of c1 ≡ now_of c + n * c.clock.rate = ap now_of is in
    record {
      osc = omega (arith, few, osc, a);
      now = omega (arith, few, p, now, b);
      words = λ u lt. subst (λ x. room ≤ room_on x u) (sym is) (h.words u lt);
    }

pub counted_reset : (left room : ℕ) (c c1 : Chip) (reason : Reason) → c1 ≡ reset_chip c reason → IsCounted c left room → IsCounted c1 left room
counted_reset left room c c1 reason is h =
    let a = h.osc in
    let b = h.now in
    let osc : c1.clock.osc ≡ c.clock.osc = ap (λ x. x.clock.osc) is in
    let now : now_of c1 ≡ now_of c = ap now_of is in
    record {
      osc = omega (arith, osc, a);
      now = omega (arith, now, b);
      words = λ u lt. subst (λ x. room ≤ room_on x u) (sym is) (h.words u lt);
    }

pub counted_move : (left room : ℕ) (c c1 : Chip) (made : Move) (received : ℕ) → c1 ≡ chip_after c made received → IsCounted c left room → IsCounted c1 left room
counted_move left room c c1 made received is h =
    let a = h.osc in
    let b = h.now in
    let osc : c1.clock.osc ≡ c.clock.osc = ap (λ x. x.clock.osc) is ∙ osc-move c made received in
    let now : now_of c1 ≡ now_of c = ap now_of is ∙ now-move c made received in
    record {
      osc = omega (arith, osc, a);
      now = omega (arith, now, b);
      words = λ u lt. let r : room_on c1 u ≡ room_on c u = ap (λ x. room_on x u) is ∙ room_move c made received u in let k = h.words u lt in omega (arith, r, k);
    }

-- an event that takes no time
osc_same : (c : Chip) (order : Order) → is_hardware order ≡ true → (happened c order).clock.osc ≡ c.clock.osc
osc_same c (Tick n) hard = cc
osc_same c (Level p v) hard = level_leaves (λ d. d.clock.osc) c p v refl
osc_same c (Analog i v) hard = refl
osc_same c (Trigger i) hard = refl
osc_same c (Miso u ws) hard = refl
osc_same c (SpiFault u) hard = refl
osc_same c (Fill k ws) hard = refl
osc_same c _ hard = refl

now_same : (c : Chip) (order : Order) → is_hardware order ≡ true → now_of (happened c order) ≡ now_of c
now_same c (Tick n) hard = cc
now_same c (Level p v) hard = level_leaves now_of c p v refl
now_same c (Analog i v) hard = refl
now_same c (Trigger i) hard = refl
now_same c (Miso u ws) hard = refl
now_same c (SpiFault u) hard = refl
now_same c (Fill k ws) hard = refl
now_same c _ hard = refl

-- it takes the room of the words that it gives, or less
pub counted_event : (left room room1 : ℕ) (c c1 : Chip) (order : Order) → is_hardware order ≡ true → c1 ≡ happened c order → room1 + words_by order ≤ room → IsCounted c left room → IsCounted c1 left room1
counted_event left room room1 c c1 order hard is few h =
    let a = h.osc in
    let b = h.now in
    let osc : c1.clock.osc ≡ c.clock.osc = ap (λ x. x.clock.osc) is ∙ osc_same c order hard in
    let now : now_of c1 ≡ now_of c = ap now_of is ∙ now_same c order hard in
    record {
      osc = omega (arith, osc, a);
      now = omega (arith, now, b);
      words = λ u lt. let r : room_on c1 u ≡ room_on (happened c order) u = ap (λ x. room_on x u) is in let e = room_event c order u in let k = h.words u lt in omega (arith, r, e, k, few);
    }

-- what is so of each event that is given nothing
pub set_is : (order : Order) → is_setting order ≡ true → (is_hardware order ≡ true) × (may_be_held order ≡ false) × (words_by order ≡ 0) × ((n : ℕ) → devices_after order n ≡ n) × ((c : Chip) → CanHappen c order)
set_is (Level p v) h = (refl, refl, refl, λ n. refl, λ c. tt)
set_is (Analog i v) h = (refl, refl, refl, λ n. refl, λ c. tt)
set_is (Trigger i) h = (refl, refl, refl, λ n. refl, λ c. tt)
set_is (SpiFault u) h = (refl, refl, refl, λ n. refl, λ c. tt)
set_is _ h = cc

is_unit : (u : ℕ) → nat_lt u 2 ≡ true → u < 2
is_unit u h = grind (arith, nat_tests)

-- and of words that are given to come in
pub gift_is : (order : Order) → is_gift order ≡ true → (is_hardware order ≡ true) × (may_be_held order ≡ false) × ((n : ℕ) → devices_after order n ≡ n) × ((c : Chip) (left room : ℕ) → words_by order ≤ room → IsCounted c left room → CanHappen c order)
gift_is (Miso u ws) h = (refl, refl, λ n. refl, λ c left room few k. (let lt = is_unit u h in let r = k.words u lt in (lt, omega (arith, few, r))))
gift_is _ h = cc

-- and of a fill
pub fill_hard : (order : Order) (channel : ℕ) → filled_by order ≡ Some channel → (ws : List ℕ) × (order ≡ Fill channel ws)
fill_hard (Fill k ws) channel e = let i : k ≡ channel = cc in (ws, ap (λ x. Fill x ws) i)
fill_hard _ channel e = cc

-- at power on
pub counted_first : (config : Config) (room devices : ℕ) (c : Chip) → c ≡ hung devices (power_on config room) → IsCounted c MOST_TICKS room
counted_first config room devices c is =
    let osc : c.clock.osc ≡ 0 = ap (λ x. x.clock.osc) is in
    let now : now_of c ≡ 0 = ap now_of is in
    record { osc = omega (arith, osc); now = omega (arith, now); words = λ u lt. subst (λ x. room ≤ room_on x u) (sym is) (roomy u lt) }
  where
    roomy : (u : ℕ) → u < 2 → room ≤ room_on (hung devices (power_on config room)) u
    roomy zero lt = omega arith
    roomy (suc zero) lt = omega arith
    roomy (suc (suc u)) lt = absurd (omega (arith, lt))

-- a fill takes no room of the words that come in
pub counted_fill : (left room : ℕ) (c c1 : Chip) (k : ℕ) (ws : List ℕ) → c1 ≡ happened c (Fill k ws) → IsCounted c left room → IsCounted c1 left room
counted_fill left room c c1 k ws is h =
    let a = h.osc in
    let b = h.now in
    let osc : c1.clock.osc ≡ c.clock.osc = ap (λ x. x.clock.osc) is in
    let now : now_of c1 ≡ now_of c = ap now_of is in
    record {
      osc = omega (arith, osc, a);
      now = omega (arith, now, b);
      words = λ u lt. subst (λ x. room ≤ room_on x u) (sym is) (h.words u lt);
    }
