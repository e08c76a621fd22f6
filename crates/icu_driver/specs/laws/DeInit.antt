-- Icu_DeInit: its steps, what holds at each, and that they are right.
-- From One, Rows, Calls, Init, Stamp and 5 more.
-- Used by service/deinit/rt, Lawful, Windows.
use Rattle.std.proofs.Common.{◌≡◌, ◌≢◌, ◌+◌, ◌-◌, ◌*◌, ◌%◌, ◌<◌, ◌≤◌, ◌&&◌, ◌||◌, ◌==◌, [], ◌∷◌, ◌∙◌, if◌then◌else◌}
use Rattle.icu_driver.specs.Terms
use Terms.{acting, ActiveIs, Acts, acts_by, After, and_false, and_true, ap, AreRight, arith, At, Before, below_test}
use Terms.{bit_of, Bodies, Bool, by_channel_at, by_eight, Call, Called, Capture, capture_at, CaptureAgrees}
use Terms.{CaptureFlush, CaptureGateClear, Captures, CaptureZero, channel_of, ChannelWords, Chip, chip_after}
use Terms.{chip_capture, cleared, cleared_all, counts_edges, DeInit, DeInitBody, Disable, EdgeCounter, EnableClear}
use Terms.{error_by, false, Flush, flushed, happens, has_bit, has_bit-without, HasPlace, HasTurns, icu_ground}
use Terms.{icu_machine, IcuMeasurementMode, IcuRepresents, IcuState, Is_after, Is_before, is_counter, Is_fresh, is_some}
use Terms.{IsClean, IsCourse, kept, Lag, length-at_bits, List, lt_from, lt_since, lt_zero, map, missed_after, ModeWords}
use Terms.{nat_lt, None, none, not, not-false, off_on, Option, or_true, Origin, outcome, place_of, refl, settled}
use Terms.{SignalEdgeDetect, SignalMeasurement, Some, stamp_in, Stamped, Stamps, stands-move, StepsTo, stored_other}
use Terms.{stored_same, Stores, subst, sym, Timestamp, Told, true, ValueIs, word_of, World, Write, Zero, zeroed, ℕ}
use Rattle.icu_driver.specs.laws.{Calls.{counts as counter_mode, off_place, off_turns, may_row}, Init.{cleared_course}}
use Rattle.icu_driver.specs.laws.{Init.{cleared_stored, all_lines, may_state}, Measure.{none_served}, One.{IsRow}}
use Rattle.icu_driver.specs.laws.{One.{GapLeft, channel_agrees, step_agrees, off_channel, same_state, left_channel}}
use Rattle.icu_driver.specs.laws.{One.{left_word, channel_new, acted_at, word_new, word_old, stamps_old, words_left}}
use Rattle.icu_driver.specs.laws.{Rows.{rows_behind, behind_row, grows, New_waits, measure_closed}}
use Rattle.icu_driver.specs.laws.{Stamp.{row_switches, row_marks, row_places}, Steady.{AllGood, steady, steady_right}}
use Rattle.icu_driver.specs.laws.{Base.{nat_tests, Move, tells_nothing, no_answer, BodyTaken, goes, acts_on, ends}}
use Rattle.icu_driver.specs.laws.{Base.{Nothing, Shortens, word, Channel, IcuTable, STATE, LINES, CHANNELS, SWITCHES}}
use Rattle.icu_driver.specs.laws.{Base.{MARKS, SIZES, PLACES, VALUES, TIMES}}
use Rattle.icu_driver.specs.declared.service.deinit.DeInitBody.TheVariants.{Store, Close, Switch, Mark}
use Rattle.chip_blocks.specs.declared.captures.capture.Act.TheVariants as turns
use Rattle.chip_blocks.specs.declared.captures.capture.Capture as chips

-- the channel is an edge counter
abbrev pub counts : IcuTable → ℕ → Bool
counts d c = counts_edges (channel_of d c)

abbrev pub deinit_work : DeInitBody → Move
deinit_work (Store d) = Stores STATE 0
deinit_work (Disable d) = Write EnableClear LINES
deinit_work (Close d) = Write CaptureGateClear CHANNELS
deinit_work (Zero d c) = Write (CaptureZero c) 0
deinit_work (Flush d c) = Write (CaptureFlush c) 0
deinit_work (Switch d c) = Stores (word SWITCHES c) 0
deinit_work (Mark d c) = Stores (word MARKS c) 0

-- where the work on a channel begins, and what follows it
abbrev pub deinit_at : IcuTable → ℕ → DeInitBody
deinit_at d c = if counts d c then Zero d c else Flush d c

abbrev pub deinit_past : DeInitBody → IcuTable → ℕ → DeInitBody × BodyTaken
deinit_past k d c = if nat_lt c 7 then (deinit_at d (c + 1), goes) else (k, ends None no_answer Nothing)

abbrev pub deinit_takes : DeInitBody → ℕ → DeInitBody × BodyTaken
deinit_takes (Store d) x = (Disable d, acts_on)
deinit_takes (Disable d) x = (Close d, goes)
deinit_takes (Close d) x = (deinit_at d 0, goes)
deinit_takes (Zero d c) x = deinit_past (Zero d c) d c
deinit_takes (Flush d c) x = (Switch d c, goes)
deinit_takes (Switch d c) x = (Mark d c, goes)
deinit_takes (Mark d c) x = deinit_past (Mark d c) d c

abbrev pub deinit_left : DeInitBody → ℕ
deinit_left (Store d) = 27
deinit_left (Disable d) = 26
deinit_left (Close d) = 25
deinit_left (Zero d c) = 3 + 3 * (7 - c)
deinit_left (Flush d c) = 3 + 3 * (7 - c)
deinit_left (Switch d c) = 2 + 3 * (7 - c)
deinit_left (Mark d c) = 1 + 3 * (7 - c)

deinit_at_left : (d : IcuTable) (c n : ℕ) → 3 + 3 * (7 - c) < n → deinit_left (deinit_at d c) < n
deinit_at_left d c n lt = by_kind (counts d c)
  where
    by_kind : (q : Bool) → deinit_left (if q then Zero d c else Flush d c) < n
    by_kind true = lt
    by_kind false = lt

past_shortens : (k : DeInitBody) (d : IcuTable) (c : ℕ) (q : Bool) → nat_lt c 7 ≡ q → 1 + 3 * (7 - c) ≤ deinit_left k → Shortens deinit_left k (if q then (deinit_at d (c + 1), goes) else (k, ends None no_answer Nothing))
past_shortens k d c true e h = let less : c < 7 = grind (arith, nat_tests) in deinit_at_left d (c + 1) (deinit_left k) (omega (arith, h, less))
past_shortens k d c false e h = omega (arith, h)

pub deinit_shortens : (k : DeInitBody) (x : ℕ) → Shortens deinit_left k (deinit_takes k x)
deinit_shortens (Store d) x = omega arith
deinit_shortens (Disable d) x = omega arith
deinit_shortens (Close d) x = deinit_at_left d 0 25 (omega arith)
deinit_shortens (Zero d c) x = past_shortens (Zero d c) d c (nat_lt c 7) refl (omega arith)
deinit_shortens (Flush d c) x = omega arith
deinit_shortens (Switch d c) x = omega arith
deinit_shortens (Mark d c) x = past_shortens (Mark d c) d c (nat_lt c 7) refl (omega arith)

-- ---- what holds at each; once the module is off, channels are closed and emptied and their words dropped one by one

-- the words of a row from a channel on
abbrev pub from : (row channel : ℕ) → ℕ → Bool
from row c j = not (nat_lt j (row + c)) && nat_lt j (row + 8)

-- the words that are behind; the places count once the marks say so
abbrev pub behind_from : (switches marks : ℕ) → ℕ → Bool
behind_from i m j = from SWITCHES i j || (from MARKS m j || from PLACES m j)

-- what waits or was counted is still there from a channel on
abbrev pub dropping : IcuTable → (edges switches marks : ℕ) → Lag
dropping d e i m = record settled {
  queues = λ c. not (nat_lt c e) && not (counts d c);
  counts = λ c. not (nat_lt c e) && counts d c;
  words = behind_from i m;
}

-- the gates are still as they were
abbrev pub closing : IcuTable → Option Bool → Lag
closing d lines = record (dropping d 0 0 0) { gates = λ c. true; moded = true; lines = lines }

abbrev pub deinit_gap : IcuTable → DeInitBody → Lag
deinit_gap d (Store e) = settled
deinit_gap d (Disable e) = closing d (Some true)
deinit_gap d (Close e) = closing d None
deinit_gap d (Zero e c) = dropping d c c c
deinit_gap d (Flush e c) = dropping d c c c
deinit_gap d (Switch e c) = dropping d (c + 1) c c
deinit_gap d (Mark e c) = dropping d (c + 1) (c + 1) c

abbrev pub deinit_holds : IcuTable → Captures → IcuState → DeInitBody → Origin Call → Option Told → Type 0
deinit_holds d f s (Store e) o t = Before DeInit o t × (e ≡ d) × (s.initialised ≡ true)
deinit_holds d f s (Disable e) o t = After DeInit tells_nothing o t × (e ≡ d) × (s.initialised ≡ false)
deinit_holds d f s (Close e) o t = After DeInit tells_nothing o t × (e ≡ d) × (s.initialised ≡ false)
deinit_holds d f s (Zero e c) o t = After DeInit tells_nothing o t × (e ≡ d) × (s.initialised ≡ false) × (c < 8) × (counts d c ≡ true)
deinit_holds d f s (Flush e c) o t = After DeInit tells_nothing o t × (e ≡ d) × (s.initialised ≡ false) × (c < 8) × (counts d c ≡ false)
deinit_holds d f s (Switch e c) o t = After DeInit tells_nothing o t × (e ≡ d) × (s.initialised ≡ false) × (c < 8) × (counts d c ≡ false)
deinit_holds d f s (Mark e c) o t = After DeInit tells_nothing o t × (e ≡ d) × (s.initialised ≡ false) × (c < 8) × (counts d c ≡ false)

abbrev pub deinit_bodies : (d : IcuTable) → Bodies (icu_ground d) DeInitBody
deinit_bodies d = steady d deinit_work deinit_takes deinit_left (deinit_gap d) (deinit_holds d)

-- ---- the words of rows from a channel on

shifted : (row c i : ℕ) → nat_lt (row + c) (row + i) ≡ nat_lt c i
shifted row c i = grind (arith, nat_tests)

from_same : (row i c : ℕ) → c < 8 → from row i (word row c) ≡ not (nat_lt c i)
from_same row i c lt = ap (λ q. not q && nat_lt (row + c) (row + 8)) (shifted row c i) ∙ (ap (λ q. not (nat_lt c i) && q) (lt_from (row + c) (row + 8) (omega (arith, lt))) ∙ and_true (not (nat_lt c i)))

lower : (row r c i : ℕ) → row % 8 ≡ 0 → r % 8 ≡ 0 → c < 8 → r < row → r + c < row + i
lower row r c i a b lt less = omega (arith, a, b, lt, less)

higher : (row r c : ℕ) → row % 8 ≡ 0 → r % 8 ≡ 0 → row < r → row + 8 ≤ r + c
higher row r c a b less = omega (arith, a, b, less)

from_other : (row r i c : ℕ) → IsRow row → IsRow r → r ≢ row → c < 8 → from row i (word r c) ≡ false
from_other row r i c a b ne lt = by (nat_lt r row) refl
  where
    less : nat_lt r row ≡ true → r < row
    less e = grind (arith, nat_tests)

    more : nat_lt r row ≡ false → row < r
    more e = grind (arith, nat_tests)

    by : (q : Bool) → nat_lt r row ≡ q → from row i (word r c) ≡ false
    by true e = ap (λ q. not q && nat_lt (r + c) (row + 8)) (lt_from (r + c) (row + i) (lower row r c i a.0 b.0 lt (less e)))
    by false e = ap (λ q. not (nat_lt (r + c) (row + i)) && q) (lt_since (r + c) (row + 8) (higher row r c a.0 b.0 (more e))) ∙ and_false (not (nat_lt (r + c) (row + i)))

from_at : (row r i c : ℕ) → IsRow row → IsRow r → c < 8 → from row i (word r c) ≡ (r == row) && not (nat_lt c i)
from_at row r i c a b lt = by (r == row) refl
  where
    equal : (r == row) ≡ true → r ≡ row
    equal e = grind (arith, nat_tests)

    differ : (r == row) ≡ false → r ≢ row
    differ e = grind (arith, nat_tests)

    by : (q : Bool) → (r == row) ≡ q → from row i (word r c) ≡ q && not (nat_lt c i)
    by true e = ap (λ z. from row i (word z c)) (equal e) ∙ from_same row i c lt
    by false e = from_other row r i c a b (differ e) lt

from_state : (row i : ℕ) → IsRow row → from row i STATE ≡ false
from_state row i a = let low = a.1 in ap (λ q. not q && nat_lt STATE (row + 8)) (lt_from STATE (row + i) (omega (arith, low)))

behind_state : (i m : ℕ) → behind_from i m STATE ≡ false
behind_state i m = ap (λ q. q || (from MARKS m STATE || from PLACES m STATE)) (from_state SWITCHES i row_switches) ∙ (ap (λ q. q || from PLACES m STATE) (from_state MARKS m row_marks) ∙ from_state PLACES m row_places)

-- by the row, and by whether its channel comes before
abbrev behind_by : (r : ℕ) (switches marks : Bool) → Bool
behind_by r i m = ((r == SWITCHES) && not i) || (((r == MARKS) && not m) || ((r == PLACES) && not m))

behind_at : (i m c r : ℕ) → IsRow r → c < 8 → behind_from i m (word r c) ≡ behind_by r (nat_lt c i) (nat_lt c m)
behind_at i m c r a lt =
    ap (λ q. q || (from MARKS m (word r c) || from PLACES m (word r c))) (from_at SWITCHES r i c row_switches a lt)
    ∙ (ap (λ q. ((r == SWITCHES) && not (nat_lt c i)) || (q || from PLACES m (word r c))) (from_at MARKS r m c row_marks a lt)
    ∙ ap (λ q. ((r == SWITCHES) && not (nat_lt c i)) || (((r == MARKS) && not (nat_lt c m)) || q)) (from_at PLACES r m c row_places a lt))

-- all three rows, the last two, and none
abbrev all_rows : List ℕ
all_rows = SWITCHES ∷ MARKS ∷ PLACES ∷ []

abbrev last_rows : List ℕ
last_rows = MARKS ∷ PLACES ∷ []

all_by : (a b p : Bool) → (a && true) || ((b && true) || (p && true)) ≡ a || (b || (p || false))
all_by true b p = refl
all_by false true p = refl
all_by false false true = refl
all_by false false false = refl

last_by : (a b p : Bool) → (a && false) || ((b && true) || (p && true)) ≡ b || (p || false)
last_by true true p = refl
last_by true false true = refl
last_by true false false = refl
last_by false true p = refl
last_by false false true = refl
last_by false false false = refl

none_by : (a b p : Bool) → (a && false) || ((b && false) || (p && false)) ≡ false
none_by a b p = ap (λ q. q || ((b && false) || (p && false))) (and_false a) ∙ (ap (λ q. q || (p && false)) (and_false b) ∙ and_false p)

behind_all : (i m c r : ℕ) → IsRow r → c < 8 → i ≤ c → m ≤ c → behind_from i m (word r c) ≡ rows_behind all_rows c (word r c)
behind_all i m c r a lt less few = behind_at i m c r a lt ∙ (ap (λ q. behind_by r q (nat_lt c m)) (lt_since c i less) ∙ (ap (λ q. behind_by r false q) (lt_since c m few) ∙ (all_by (r == SWITCHES) (r == MARKS) (r == PLACES) ∙ sym (behind_row all_rows r c))))

behind_last : (i m c r : ℕ) → IsRow r → c < 8 → c < i → m ≤ c → behind_from i m (word r c) ≡ rows_behind last_rows c (word r c)
behind_last i m c r a lt less few = behind_at i m c r a lt ∙ (ap (λ q. behind_by r q (nat_lt c m)) (lt_from c i less) ∙ (ap (λ q. behind_by r true q) (lt_since c m few) ∙ (last_by (r == SWITCHES) (r == MARKS) (r == PLACES) ∙ sym (behind_row last_rows r c))))

behind_none : (i m c r : ℕ) → IsRow r → c < 8 → c < i → c < m → behind_from i m (word r c) ≡ false
behind_none i m c r a lt less few = behind_at i m c r a lt ∙ (ap (λ q. behind_by r q (nat_lt c m)) (lt_from c i less) ∙ (ap (λ q. behind_by r true q) (lt_from c m few) ∙ none_by (r == SWITCHES) (r == MARKS) (r == PLACES)))

-- ---- a channel whose module is switched off

stopped_block : (k : Option Channel) (b : chips.Capture) (x : Capture) → CaptureAgrees k false false false true true b x → IsCourse k x → CaptureAgrees k true (not (counts_edges k)) (counts_edges k) false true b (cleared k x)
stopped_block None b x a g = record { gate = λ f. off_on (sym f); queue = λ f. off_on (sym f); lost = λ f. off_on (sym f); count = λ f. a.count refl; condition = λ f. off_on f; mode = λ f. a.mode refl; starts = λ f. off_on (a.starts f).1; known = λ f. refl; free_known = λ f. refl; free_queue = λ f e. off_on (sym e); free_count = λ f e. refl }
stopped_block (Some k) b x a g = record { gate = λ f. off_on (sym f); queue = λ f. a.queue refl ∙ ap (λ es. map kept es) (g.counter (not-false (is_counter k.mode) f)).0; lost = λ f. a.lost refl ∙ (g.counter (not-false (is_counter k.mode) f)).1; count = λ f. a.count refl ∙ g.uncounted f; condition = λ f. off_on f; mode = λ f. a.mode refl; starts = λ f. off_on f; known = λ f. refl; free_known = λ f. refl; free_queue = λ f e. not-false (is_counter k.mode) e; free_count = λ f e. e }

stopped_mode : (m : IcuMeasurementMode) (at : ℕ → ℕ) (c : ℕ) (k : Channel) (x : Capture) → ModeWords m at none c k x → ModeWords m at (rows_behind all_rows c) c k (cleared (Some k) x)
stopped_mode SignalEdgeDetect at c k x h = record { switch = λ f. off_on (sym f ∙ behind_row all_rows SWITCHES c); mark = λ f. off_on (sym f ∙ behind_row all_rows MARKS c) }
stopped_mode EdgeCounter at c k x h = tt
stopped_mode Timestamp at c k x h = record { switch = λ f. off_on (sym f ∙ behind_row all_rows SWITCHES c); mark = λ f. off_on (sym f ∙ behind_row all_rows MARKS c); size = λ f. h.size refl; interval = λ f g. off_on g; place = λ f ne. off_on (sym f ∙ behind_row all_rows PLACES c); left = λ f g. off_on g }
stopped_mode SignalMeasurement at c k x h =
    let nothing = none_served k (cleared (Some k) x) refl in
    record { waits = λ f. off_on (sym f ∙ behind_row all_rows SWITCHES c); mark = λ f. off_on (sym f ∙ behind_row all_rows MARKS c); seen = λ f g. off_on g; start = λ f g. off_on g; opposite = λ f g. off_on g; value = λ f. subst (λ o. ValueIs (at (word VALUES c)) o) (sym nothing) tt; time = λ f. subst (λ o. ActiveIs (at (word TIMES c)) o) (sym nothing) tt }

stopped_words : (k : Option Channel) (at : ℕ → ℕ) (c : ℕ) (x : Capture) → ChannelWords k at none c x → ChannelWords k at (rows_behind all_rows c) c (cleared k x)
stopped_words None at c x h = tt
stopped_words (Some k) at c x h = stopped_mode k.mode at c k x h

stopped_off : (k : Option Channel) (x : Capture) → (x.on ≡ true → is_some k ≡ true) → (cleared k x).on ≡ false
stopped_off (Some k) x h = refl
stopped_off None x h = by x.on refl
  where
    by : (q : Bool) → x.on ≡ q → x.on ≡ false
    by true e = off_on (h e)
    by false e = e

stopped_clean : (k : Option Channel) (x : Capture) → is_some k ≡ true → IsClean (cleared k x)
stopped_clean None x some = off_on some
stopped_clean (Some k) x some = record { off = refl; quiet = refl; unmarked = refl; uncounted = refl; unserved = refl }

-- ---- a channel that is closed, and emptied

shut_block : (k : Option Channel) (q n on m m1 : Bool) (b : chips.Capture) (x : Capture) → on ≡ false → x.on ≡ false → m ≡ true → CaptureAgrees k true q n on m b x → CaptureAgrees k false q n on m1 (record b { gate = false }) x
shut_block k q n on m m1 b x off idle known a = record { gate = λ f. sym idle; queue = a.queue; lost = a.lost; count = a.count; condition = λ f. off_on (sym off ∙ f); mode = λ f. a.mode known; starts = a.starts; known = λ f. off_on (sym off ∙ f); free_known = λ f. off_on f; free_queue = λ f. off_on f; free_count = λ f. off_on f }

emptied_block : (k : Option Channel) (q n q1 n1 on m : Bool) (b b1 : chips.Capture) (x : Capture) → on ≡ false → b1.gate ≡ b.gate → b1.mode ≡ b.mode → b1.queue ≡ map kept x.waiting → b1.lost ≡ x.lost → b1.count ≡ x.count → CaptureAgrees k false q n on m b x → CaptureAgrees k false q1 n1 on m b1 x
emptied_block k q n q1 n1 on m b b1 x off gate mode queue lost count a = record { gate = λ f. gate ∙ a.gate f; queue = λ f. queue; lost = λ f. lost; count = λ f. count; condition = λ f. off_on (sym off ∙ f); mode = λ f. mode ∙ a.mode f; starts = a.starts; known = a.known; free_known = λ f. off_on f; free_queue = λ f. off_on f; free_count = λ f. off_on f }

counter_words : (k : Option Channel) (at : ℕ → ℕ) (behind : ℕ → Bool) (c : ℕ) (x : Capture) → counts_edges k ≡ true → ChannelWords k at behind c x
counter_words None at behind c x e = tt
counter_words (Some k) at behind c x e = subst (λ m. ModeWords m at behind c k x) (sym (counter_mode k.mode e)) tt

counter_some : (k : Option Channel) → counts_edges k ≡ true → is_some k ≡ true
counter_some None e = off_on e
counter_some (Some k) e = refl

-- the first word is 0, and the second one
switch_mode : (m : IcuMeasurementMode) (at : ℕ → ℕ) (c : ℕ) (k : Channel) (x : Capture) → IsClean x → at (word SWITCHES c) ≡ 0 → ModeWords m at (rows_behind all_rows c) c k x → ModeWords m at (rows_behind last_rows c) c k x
switch_mode SignalEdgeDetect at c k x z new h = record { switch = λ f. new ∙ sym (ap (λ q. bit_of q) z.quiet); mark = λ f. off_on (sym f ∙ behind_row last_rows MARKS c) }
switch_mode EdgeCounter at c k x z new h = tt
switch_mode Timestamp at c k x z new h = record { switch = λ f. new ∙ sym (ap (λ q. bit_of q) z.quiet); mark = λ f. off_on (sym f ∙ behind_row last_rows MARKS c); size = λ f. h.size (behind_row all_rows SIZES c); interval = λ f g. off_on (sym z.off ∙ g); place = λ f ne. off_on (sym f ∙ behind_row last_rows PLACES c); left = λ f g. off_on (sym z.off ∙ g) }
switch_mode SignalMeasurement at c k x z new h = measure_closed at last_rows c k x SWITCHES (New_waits (new ∙ sym (ap (λ o. bit_of (is_some o)) (none_served k x z.unserved)))) h

switch_words : (k : Option Channel) (at : ℕ → ℕ) (c : ℕ) (x : Capture) → (is_some k ≡ true → IsClean x) → at (word SWITCHES c) ≡ 0 → ChannelWords k at (rows_behind all_rows c) c x → ChannelWords k at (rows_behind last_rows c) c x
switch_words None at c x z new h = tt
switch_words (Some k) at c x z new h = switch_mode k.mode at c k x (z refl) new h

mark_mode : (m : IcuMeasurementMode) (at : ℕ → ℕ) (c : ℕ) (k : Channel) (x : Capture) → IsClean x → at (word MARKS c) ≡ 0 → ModeWords m at (rows_behind last_rows c) c k x → ModeWords m at none c k x
mark_mode SignalEdgeDetect at c k x z new h = record { switch = λ f. h.switch (behind_row last_rows SWITCHES c); mark = λ f. new ∙ sym (ap (λ q. bit_of q) z.unmarked) }
mark_mode EdgeCounter at c k x z new h = tt
mark_mode Timestamp at c k x z new h = record { switch = λ f. h.switch (behind_row last_rows SWITCHES c); mark = λ f. subst (λ v. Stamped x v) (sym new) (Is_fresh z.off z.unserved); size = λ f. h.size (behind_row last_rows SIZES c); interval = λ f g. off_on (sym z.off ∙ g); place = λ f ne. absurd (ne refl new); left = λ f g. off_on (sym z.off ∙ g) }
mark_mode SignalMeasurement at c k x z new h = record { waits = λ f. h.waits (behind_row last_rows SWITCHES c); mark = λ f. new ∙ sym (ap (λ q. bit_of q) z.unmarked); seen = λ f g. off_on (sym z.off ∙ g); start = λ f g. off_on (sym z.off ∙ g); opposite = λ f g. off_on (sym z.off ∙ g); value = λ f. h.value (behind_row last_rows VALUES c); time = λ f. h.time (behind_row last_rows TIMES c) }

mark_words : (k : Option Channel) (at : ℕ → ℕ) (c : ℕ) (x : Capture) → (is_some k ≡ true → IsClean x) → at (word MARKS c) ≡ 0 → ChannelWords k at (rows_behind last_rows c) c x → ChannelWords k at none c x
mark_words None at c x z new h = tt
mark_words (Some k) at c x z new h = mark_mode k.mode at c k x (z refl) new h

-- ---- its steps

not_yet : (k c : ℕ) → k ≢ c → nat_lt k c ≡ nat_lt k (c + 1)
not_yet k c ne = grind (arith, nat_tests)

module _ (d : IcuTable) where
  -- the gap of one channel is closed
  dropping_left : (c e i m e1 i1 m1 : ℕ) → ((k : ℕ) → k ≢ c → nat_lt k e ≡ nat_lt k e1) → ((k : ℕ) → k ≢ c → nat_lt k i ≡ nat_lt k i1) → ((k : ℕ) → k ≢ c → nat_lt k m ≡ nat_lt k m1) → GapLeft c (dropping d e i m) (dropping d e1 i1 m1)
  dropping_left c e i m e1 i1 m1 edges switches marks = record {
    gates = λ k ne. refl;
    queues = λ k ne. ap (λ q. not q && not (counts d k)) (edges k ne);
    counts = λ k ne. ap (λ q. not q && counts d k) (edges k ne);
    words = λ first k r few ne. behind_at i m k first r few ∙ (ap (λ q. behind_by first q (nat_lt k m)) (switches k ne) ∙ (ap (λ q. behind_by first (nat_lt k i1) q) (marks k ne) ∙ sym (behind_at i1 m1 k first r few)));
    state = behind_state i m;
    stamps = λ k j ne. refl;
    moded = refl;
    lines = refl;
  }

  stopped : (chip : Chip) (w : World) (s : IcuState) → s.initialised ≡ true → IcuRepresents d settled chip w s → IcuRepresents d (closing d (Some true)) (chip_after chip (Stores STATE 0) 0) w (cleared_all d s false)
  stopped chip w s on h =
      let chip1 = chip_after chip (Stores STATE 0) 0 in
      let at = λ (c : ℕ) (lt : c < 8). by_channel_at (λ i. cleared (channel_of d i) (capture_at s i)) c lt in
      let keeps = λ (j : ℕ) (ne : j ≢ STATE). stored_other chip STATE 0 0 j ne in
      let idle = λ (c : ℕ) (lt : c < 8). stopped_off (channel_of d c) (capture_at s c) (λ f. ((h.block c lt).starts f).1) in
      record {
        outside = stands-move chip w (Stores STATE 0) 0 h.outside;
        size = h.size;
        wired = h.wired;
        block = λ c lt. subst (λ x. CaptureAgrees (channel_of d c) true ((dropping d 0 0 0).queues c) ((dropping d 0 0 0).counts c) false true (chip_capture chip.captures c) x) (sym (at c lt)) (subst (λ q. CaptureAgrees (channel_of d c) true (not q && not (counts d c)) (not q && counts d c) false true (chip_capture chip.captures c) (cleared (channel_of d c) (capture_at s c))) (sym (lt_zero c)) (stopped_block (channel_of d c) (chip_capture chip.captures c) (capture_at s c) (subst (λ q. CaptureAgrees (channel_of d c) false false false q (q || false) (chip_capture chip.captures c) (capture_at s c)) on (h.block c lt)) (h.course c lt).0));
        state = λ f. stored_same chip STATE 0 0 (omega arith) h.outside.all.words;
        words = λ c lt. subst (λ x. ChannelWords (channel_of d c) (λ j. word_of chip1 j) (behind_from 0 0) c x) (sym (at c lt)) (words_left (λ j. word_of chip1 j) (λ j. word_of chip1 j) (rows_behind all_rows c) (behind_from 0 0) c (λ first row f. refl) (λ first row. sym (behind_all 0 0 c first row lt (omega arith) (omega arith))) (channel_of d c) (cleared (channel_of d c) (capture_at s c)) (stopped_words (channel_of d c) (λ j. word_of chip1 j) c (capture_at s c) (words_left (λ j. word_of chip j) (λ j. word_of chip1 j) none none c (λ first row e. let low = row.1 in keeps (word first c) (λ i. absurd (omega (arith, low, i)))) (λ first row. refl) (channel_of d c) (capture_at s c) (h.words c lt))));
        course = λ c lt. subst (λ x. IsCourse (channel_of d c) x × HasPlace (channel_of d c) x) (sym (at c lt)) (cleared_course (channel_of d c) (capture_at s c) (h.course c lt).0, off_place (channel_of d c) (cleared (channel_of d c) (capture_at s c)) (idle c lt));
        turns = λ c lt. subst (λ x. HasTurns (channel_of d c) w x) (sym (at c lt)) (off_turns (channel_of d c) w (cleared (channel_of d c) (capture_at s c)) (idle c lt));
        lines = λ c lt. h.lines c lt ∙ on;
        stamps = λ c lt some i few g. keeps (place_of (Stamps c) i) (λ e. absurd (omega (arith, e))) ∙ (h.stamps c lt some i few refl ∙ sym (ap (λ (x : Capture). stamp_in x.stored i) (at c lt) ∙ ap (λ ss. stamp_in ss i) (cleared_stored (channel_of d c) (capture_at s c))));
        clean = λ f c lt some. subst IsClean (sym (at c lt)) (stopped_clean (channel_of d c) (capture_at s c) some);
      }

  acts_on_deinit : (w : World) (s : IcuState) (times : ℕ → ℕ) → s.initialised ≡ true → happens d w s (Acts DeInit times) ≡ Some (outcome (cleared_all d s false) tells_nothing)
  acts_on_deinit w s times on = ap (λ q. Some (acts_by d s DeInit (error_by d DeInit (not q) false))) on

  all_gates : (c : ℕ) → c < 8 → has_bit CHANNELS c ≡ true
  all_gates c lt = by_eight (λ i. has_bit CHANNELS i ≡ true) refl refl refl refl refl refl refl refl c lt

  shut : (chip : Chip) (w : World) (s : IcuState) → s.initialised ≡ false → IcuRepresents d (closing d None) chip w s → IcuRepresents d (dropping d 0 0 0) (chip_after chip (Write CaptureGateClear CHANNELS) 0) w s
  shut chip w s off h = record {
    outside = stands-move chip w (Write CaptureGateClear CHANNELS) 0 h.outside;
    size = length-at_bits (λ _. acting turns.Close chip.captures.time) CHANNELS chip.captures.captures ∙ h.size;
    wired = h.wired;
    block = λ c lt.
        let b = chip_capture chip.captures c in
        subst (λ y. CaptureAgrees (channel_of d c) false ((dropping d 0 0 0).queues c) ((dropping d 0 0 0).counts c) s.initialised (s.initialised || false) y (capture_at s c)) (sym (acted_at turns.Close chip.captures CHANNELS c h.size lt ∙ ap (λ q. if q then record b { gate = false } else b) (all_gates c lt)))
        (shut_block (channel_of d c) ((dropping d 0 0 0).queues c) ((dropping d 0 0 0).counts c) s.initialised (s.initialised || true) (s.initialised || false) b (capture_at s c) off (off_channel d (closing d None) chip w s c lt off h) (or_true s.initialised) (h.block c lt));
    state = h.state;
    words = h.words;
    course = h.course;
    turns = h.turns;
    lines = h.lines;
    stamps = h.stamps;
    clean = h.clean;
  }

  -- all channels are done
  done : (chip : Chip) (w : World) (s : IcuState) → IcuRepresents d (dropping d 8 8 8) chip w s → IcuRepresents d settled chip w s
  done chip w s h = record {
    outside = h.outside;
    size = h.size;
    wired = h.wired;
    block = λ c lt. subst (λ q. CaptureAgrees (channel_of d c) false (not q && not (counts d c)) (not q && counts d c) s.initialised (s.initialised || false) (chip_capture chip.captures c) (capture_at s c)) (lt_from c 8 lt) (h.block c lt);
    state = λ f. h.state (behind_state 8 8);
    words = λ c lt. words_left (λ j. word_of chip j) (λ j. word_of chip j) (behind_from 8 8) none c (λ first row f. refl) (λ first row. behind_none 8 8 c first row lt lt lt) (channel_of d c) (capture_at s c) (h.words c lt);
    course = h.course;
    turns = h.turns;
    lines = h.lines;
    stamps = h.stamps;
    clean = h.clean;
  }

  abbrev Here : Chip → World → IcuState → DeInitBody → Type 0
  Here chip w s k = At (icu_ground d) (deinit_bodies d) chip w s k (Called DeInit) (Some tells_nothing)

  at_channel : (chip : Chip) (w : World) (s : IcuState) (e : IcuTable) (c : ℕ) → e ≡ d → s.initialised ≡ false → c < 8 → IcuRepresents d (dropping d c c c) chip w s → Here chip w s (deinit_at e c)
  at_channel chip w s e c is off lt h = by (counts e c) refl
    where
      same : (q : Bool) → counts e c ≡ q → counts d c ≡ q
      same q i = ap (λ z. counts z c) (sym is) ∙ i

      by : (q : Bool) → counts e c ≡ q → Here chip w s (if q then Zero e c else Flush e c)
      by true i = (h, ((Is_after, is, off, lt, same true i), tt))
      by false i = (h, ((Is_after, is, off, lt, same false i), tt))

  past_channel : (chip : Chip) (w : World) (s : IcuState) (made : Move) (m : ℕ → Bool) (k : DeInitBody) (e : IcuTable) (c : ℕ) → e ≡ d → s.initialised ≡ false → c < 8 → IcuRepresents d (dropping d (c + 1) (c + 1) (c + 1)) chip w s → StepsTo (icu_ground d) (deinit_bodies d) chip w s (Called DeInit) made false (Some tells_nothing) m (deinit_past k e c)
  past_channel chip w s made m k e c is off lt h = by (nat_lt c 7) refl
    where
      more : nat_lt c 7 ≡ true → c + 1 < 8
      more i = grind (arith, nat_tests)

      last : nat_lt c 7 ≡ false → c + 1 ≡ 8
      last i = grind (arith, nat_tests)

      by : (q : Bool) → nat_lt c 7 ≡ q → StepsTo (icu_ground d) (deinit_bodies d) chip w s (Called DeInit) made false (Some tells_nothing) m (if q then (deinit_at e (c + 1), goes) else (k, ends None no_answer Nothing))
      by true i = at_channel chip w s e (c + 1) is off (more i) h
      by false i = (done chip w s (subst (λ n. IcuRepresents d (dropping d n n n) chip w s) (last i) h), (refl, refl, refl))

  steps : AllGood d (deinit_bodies d)
  steps chip w s (Store e) o t m (h, ((Is_before, is, on), u)) = (
    may_state d,
    record {
      own = tt;
      state = cleared_all d s false;
      told = tells_nothing;
      is = λ times. acts_on_deinit w s times.committed on;
      acts = tt;
      next = (stopped chip w s on h, ((Is_after, is, refl), tt));
    },
  )
  steps chip w s (Disable e) o t m (h, ((Is_after, is, off), u)) = (refl, (record { outside = stands-move chip w (Write EnableClear LINES) 0 h.outside; size = h.size; wired = h.wired; block = h.block; state = h.state; words = h.words; course = h.course; turns = h.turns; lines = λ c lt. has_bit-without chip.control.enabled LINES (16 + c) (omega arith) (omega (arith, lt)) ∙ (ap (λ q. has_bit chip.control.enabled (16 + c) && not q) (all_lines c lt) ∙ (and_false (has_bit chip.control.enabled (16 + c)) ∙ sym off)); stamps = h.stamps; clean = h.clean }, ((Is_after, is, off), tt)))
  steps chip w s (Close e) o t m (h, ((Is_after, is, off), u)) = (refl, at_channel (chip_after chip (Write CaptureGateClear CHANNELS) 0) w s e 0 is off (omega arith) (shut chip w s off h))
  steps chip w s (Zero e c) o t m (h, ((Is_after, is, off, lt, counter), u)) =
      let k = channel_of d c in
      let x = capture_at s c in
      let b = chip_capture chip.captures c in
      let m1 = s.initialised || false in
      let a = channel_agrees d (dropping d c c c) chip w s c lt h in
      let kept_queue = ap (λ q. not (nat_lt c c) && not q) counter ∙ and_false (not (nat_lt c c)) in
      let z = h.clean off c lt (counter_some k counter) in
      let chip1 = chip_after chip (Write (CaptureZero c) 0) 0 in (
        below_test c lt,
        past_channel chip1 w s (Write (CaptureZero c) 0) (missed_after (icu_machine d) w s m) (Zero e c) e c is off lt
            (step_agrees d c lt (dropping d c c c) (dropping d (c + 1) (c + 1) (c + 1)) (dropping_left c c c c (c + 1) (c + 1) (c + 1) (λ k ne. not_yet k c ne) (λ k ne. not_yet k c ne) (λ k ne. not_yet k c ne)) chip chip1 w s s h (left_channel c w chip (zeroed b) (stands-move chip w (Write (CaptureZero c) 0) 0 h.outside)) (same_state c s) h.clean (record {
              block = subst (λ y. CaptureAgrees k false ((dropping d (c + 1) (c + 1) (c + 1)).queues c) ((dropping d (c + 1) (c + 1) (c + 1)).counts c) s.initialised m1 y x) (sym (channel_new c chip.captures (zeroed b) h.size lt)) (emptied_block k ((dropping d c c c).queues c) ((dropping d c c c).counts c) ((dropping d (c + 1) (c + 1) (c + 1)).queues c) ((dropping d (c + 1) (c + 1) (c + 1)).counts c) s.initialised m1 b (zeroed b) x off refl refl (a.block.queue kept_queue) (a.block.lost kept_queue) (sym z.uncounted) a.block);
              words = counter_words k (λ j. word_of chip1 j) (behind_from (c + 1) (c + 1)) c x counter;
              course = a.course;
              place = a.place;
              turns = a.turns;
              stamps = a.stamps;
            })),
      )
  steps chip w s (Flush e c) o t m (h, ((Is_after, is, off, lt, counter), u)) =
      let k = channel_of d c in
      let x = capture_at s c in
      let b = chip_capture chip.captures c in
      let m1 = s.initialised || false in
      let a = channel_agrees d (dropping d c c c) chip w s c lt h in
      let kept_count = ap (λ q. not (nat_lt c c) && q) counter ∙ and_false (not (nat_lt c c)) in
      let empty = a.course.off (off_channel d (dropping d c c c) chip w s c lt off h) in
      let chip1 = chip_after chip (Write (CaptureFlush c) 0) 0 in (
        below_test c lt,
        (
          step_agrees d c lt (dropping d c c c) (dropping d (c + 1) c c) (dropping_left c c c c (c + 1) c c (λ k ne. not_yet k c ne) (λ k ne. refl) (λ k ne. refl)) chip chip1 w s s h (left_channel c w chip (flushed b) (stands-move chip w (Write (CaptureFlush c) 0) 0 h.outside)) (same_state c s) h.clean (record {
            block = subst (λ y. CaptureAgrees k false ((dropping d (c + 1) c c).queues c) ((dropping d (c + 1) c c).counts c) s.initialised m1 y x) (sym (channel_new c chip.captures (flushed b) h.size lt)) (emptied_block k ((dropping d c c c).queues c) ((dropping d c c c).counts c) ((dropping d (c + 1) c c).queues c) ((dropping d (c + 1) c c).counts c) s.initialised m1 b (flushed b) x off refl refl (sym (ap (λ es. map kept es) empty.0)) (sym empty.1) (a.block.count kept_count) a.block);
            words = a.words;
            course = a.course;
            place = a.place;
            turns = a.turns;
            stamps = a.stamps;
          }),
          ((Is_after, is, off, lt, counter), tt),
        ),
      )
  steps chip w s (Switch e c) o t m (h, ((Is_after, is, off, lt, counter), u)) =
      let k = channel_of d c in
      let x = capture_at s c in
      let a = channel_agrees d (dropping d (c + 1) c c) chip w s c lt h in
      let chip1 = chip_after chip (Stores (word SWITCHES c) 0) 0 in
      let at1 = λ (j : ℕ). word_of chip1 j in
      let others = words_left (λ j. word_of chip j) at1 (behind_from c c) (rows_behind all_rows c) c (λ first r f. word_old SWITCHES first c 0 chip (grows last_rows SWITCHES first c f)) (λ first r. behind_all c c c first r lt (omega arith) (omega arith)) k x a.words in (
        may_row d SWITCHES c row_switches lt,
        (
          step_agrees d c lt (dropping d (c + 1) c c) (dropping d (c + 1) (c + 1) c) (dropping_left c (c + 1) c c (c + 1) (c + 1) c (λ k ne. refl) (λ k ne. not_yet k c ne) (λ k ne. refl)) chip chip1 w s s h (left_word SWITCHES c 0 w chip row_switches lt h.outside) (same_state c s) h.clean (record {
            block = a.block;
            words = words_left at1 at1 (rows_behind last_rows c) (behind_from (c + 1) c) c (λ first r f. refl) (λ first r. sym (behind_last (c + 1) c c first r lt (omega arith) (omega arith))) k x (switch_words k at1 c x (λ some. h.clean off c lt some) (word_new SWITCHES c 0 chip row_switches lt h.outside.all.words) others);
            course = a.course;
            place = a.place;
            turns = a.turns;
            stamps = λ some j few g. stamps_old SWITCHES c 0 c j chip row_switches lt ∙ a.stamps some j few g;
          }),
          ((Is_after, is, off, lt, counter), tt),
        ),
      )
  steps chip w s (Mark e c) o t m (h, ((Is_after, is, off, lt, counter), u)) =
      let k = channel_of d c in
      let x = capture_at s c in
      let a = channel_agrees d (dropping d (c + 1) (c + 1) c) chip w s c lt h in
      let chip1 = chip_after chip (Stores (word MARKS c) 0) 0 in
      let at1 = λ (j : ℕ). word_of chip1 j in
      let others = words_left (λ j. word_of chip j) at1 (behind_from (c + 1) c) (rows_behind last_rows c) c (λ first r f. word_old MARKS first c 0 chip (grows (PLACES ∷ []) MARKS first c f)) (λ first r. behind_last (c + 1) c c first r lt (omega arith) (omega arith)) k x a.words in (
        may_row d MARKS c row_marks lt,
        past_channel chip1 w s (Stores (word MARKS c) 0) (missed_after (icu_machine d) w s m) (Mark e c) e c is off lt
            (step_agrees d c lt (dropping d (c + 1) (c + 1) c) (dropping d (c + 1) (c + 1) (c + 1)) (dropping_left c (c + 1) (c + 1) c (c + 1) (c + 1) (c + 1) (λ k ne. refl) (λ k ne. refl) (λ k ne. not_yet k c ne)) chip chip1 w s s h (left_word MARKS c 0 w chip row_marks lt h.outside) (same_state c s) h.clean (record {
              block = a.block;
              words = words_left at1 at1 none (behind_from (c + 1) (c + 1)) c (λ first r f. refl) (λ first r. sym (behind_none (c + 1) (c + 1) c first r lt (omega arith) (omega arith))) k x (mark_words k at1 c x (λ some. h.clean off c lt some) (word_new MARKS c 0 chip row_marks lt h.outside.all.words) others);
              course = a.course;
              place = a.place;
              turns = a.turns;
              stamps = λ some j few g. stamps_old MARKS c 0 c j chip row_marks lt ∙ a.stamps some j few g;
            })),
      )

  pub deinit_right : AreRight (icu_ground d) (deinit_bodies d)
  deinit_right = steady_right d deinit_work deinit_takes deinit_left (deinit_gap d) (deinit_holds d) deinit_shortens steps
