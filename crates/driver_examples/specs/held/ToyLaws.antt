-- The toy module is lawful.
use Rattle.std.proofs.Common.{◌≡◌, ℕ, ◌+◌, ◌*◌, ◌<◌, ◌≤◌, ◌≢◌, ◌==◌, nat_lt, Bool, true, false, ◌&&◌, ◌||◌, not, length, [], ◌∷◌, Option, Some, None, zero, suc, refl, sym, ◌∙◌, ap, subst, arith, get_or-set_same, get_or-set_other}
use Rattle.std.specs.Prelude.{if◌then◌else◌, is_some, slice_index_or}
use Rattle.std.proofs.lemmas.Bool.Decides.{nat_tests}
use Rattle.mcal_base.specs.facts.Truths.{if_false, if_true}
use Rattle.mcal_base.specs.facts.Options.{some_same}
use Rattle.chip_model.specs.Chip.{Chip, chip_after, value_of, happened, reset_chip, is_masked, word_of}
use Rattle.chip_model.specs.Histories.{HasAll, Made, Hardware, WasReset, FillsThere}
use Rattle.mcal_base.specs.Reach.{IsThere, CanApply}
use Rattle.chip_model.proofs.WholeLaws.{all-step}
use Rattle.chip_model.proofs.WordLaws.{slice_index-blank}
use Rattle.mcal_base.specs.declared.TheConstants.{WORDS}
use Rattle.mcal_base.specs.declared.answer.Answer.{Answer}
use Rattle.mcal_base.specs.declared.directive.Order.{Order}
use Rattle.mcal_base.specs.declared.directive.Reason.{Reason}
use Rattle.mcal_base.specs.declared.directive.Reason.TheVariants.{PowerOn}
use Rattle.mcal_base.specs.declared.layout.TheConstants.{SOURCES}
use Rattle.mcal_base.specs.declared.moves.Move.{Move}
use Rattle.mcal_base.specs.declared.moves.Move.TheVariants.{Read, Write, Load, Store, Mask, Unmask, Note, Report}
use Rattle.mcal_base.specs.declared.moves.Unit as units
use Rattle.mcal_base.specs.declared.moves.Unit.TheVariants.{Adc0, Adc1, Spi0, Spi1}
use Rattle.mcal_base.specs.declared.register.Reg.{Reg}
use Rattle.mcal_base.specs.declared.register.Reg.TheVariants.{TimerHigh, PulseCommit, PulseIdle, CaptureCountHigh, CaptureTimeHigh, ConverterGo, SerialWait, ResetRequest}
use Rattle.run_model.specs.World.{World, world_after}
use Rattle.run_model.specs.Machine.{Acts, Outcome, ErrorLeaves, tells_nothing, no_answer, outcome}
use Rattle.run_model.specs.Frame.{Origin, Called, is_shared, resets_chip, begins_word, missed_after}
use Rattle.run_model.specs.Causes.{blocks}
use Rattle.step_runner.specs.Driver.{IsLawful}
use Rattle.service_outline.specs.Acts.{Cleans}
use Rattle.service_outline.specs.Both.{both}
use Rattle.service_outline.specs.Done.{goes, acts}
use Rattle.service_outline.specs.Fuel.{Shortens}
use Rattle.service_outline.specs.DeferredWrites.{is_simple, same_chip, AreOwed, GoesFree, AreWindows, AreFree}
use Rattle.service_outline.specs.FrameHistory.{FrameHistory, fresh_history, Is_this_frame}
use Rattle.service_outline.specs.Services.{ReservedBy, IsBasis, Steady, AssertedAt, AreEnding, AreLong, Right, RightOr, ended_at, Continues, Works, TurnsTo, AreEndingServices, Decides, Beside, AllLet, services_driver, mark_of, place_at}
use Rattle.service_outline.specs.declared.body.Or.TheVariants.{First, Second}
use Rattle.service_outline.specs.declared.done.BodyTaken.{BodyTaken}
use Rattle.service_outline.specs.Short.{short_move, short_left, ending_gave, ended_by}
use Rattle.service_outline.specs.laws.Acts.{never_clean}
use Rattle.service_outline.specs.laws.Both.{both_ending, both_right}
use Rattle.service_outline.specs.laws.Ending.{goes_right}
use Rattle.service_outline.specs.laws.Duties.{no_duties, no_units}
use Rattle.service_outline.specs.laws.Lawful.{services_lawful}
use Rattle.service_outline.specs.laws.Owing.{owing_basis, windows_right}
use Rattle.service_outline.specs.WindowHistory.{is_windowed}
use Rattle.service_outline.specs.laws.Seen.{free_windows}
use Rattle.service_outline.specs.laws.SimpleMoves.{simple_owed}
use Rattle.service_outline.specs.laws.SweepRight.{sweep_right}
use Rattle.service_outline.specs.laws.Words.{stored_same, stored_other, stores_in, word_apart, word_later, fills_there}
use Rattle.driver_examples.specs.held.Toy.{State, first_state, cells_of, table, put, filled, fills_by, tells_kept, starts_by, machine, class_of, is_own_word, is_own_register, owns, setting, Reservation, Part, Promise, Pinned, Reservations, cell, MARK, STATE, NEWEST, PIN, bank, flag, want_by, want, HeldRight, AllRight, Work, Settled, Marking, MarkAgrees, IsKept, KeptAgrees, Agrees, bare, is_publishing, publishing, basis, job_move, filled_bodies, filled_takes, is_of, Free, filling, fill_bodies, notice, tells_notice, told_all, ask_work, ask_bodies, ask_takes, ask_fuel, look_takes, put_work, put_takes, put_owes, put_windows, put_bodies, take_work, named, none_kept, take_takes, take_fuel, take_clean, take_ends, take_bodies, ends_with, both_read, twice, is_pin, NonePinned, answered, poll_work, poll_takes, poll_fuel, poll_bodies, reboot_work, reboot_takes, reboot_bodies, fill_looked, looked, toy}
use Rattle.driver_examples.specs.declared.held.asking.Asking.{Asking}
use Rattle.driver_examples.specs.declared.held.asking.Asking.TheVariants.{Want, OpenOnce, Tell, ShutAgain, Look, Go, Unmark}
use Rattle.driver_examples.specs.declared.held.call.Call.{Call}
use Rattle.driver_examples.specs.declared.held.call.Call.TheVariants.{Fill, Ask, Put, Take, Poll, Reboot}
use Rattle.driver_examples.specs.declared.held.filling.Filled.{Filled}
use Rattle.driver_examples.specs.declared.held.filling.Filled.TheVariants as fills
use Rattle.driver_examples.specs.declared.held.filling.Job.{Job}
use Rattle.driver_examples.specs.declared.held.keeping.Putting.{Putting}
use Rattle.driver_examples.specs.declared.held.keeping.Putting.TheVariants as puts
use Rattle.driver_examples.specs.declared.held.keeping.Taking.{Taking}
use Rattle.driver_examples.specs.declared.held.keeping.Taking.TheVariants.{Newest, Pin, Open, Copy, Again, Shut, Release, Leave, Over}
use Rattle.driver_examples.specs.declared.held.polling.Polling.{Polling}
use Rattle.driver_examples.specs.declared.held.polling.Polling.TheVariants as polls
use Rattle.driver_examples.specs.declared.held.rebooting.Rebooting.{Rebooting}
use Rattle.driver_examples.specs.declared.held.rebooting.Rebooting.TheVariants.{Reset}

-- ---- parts of the agreement, by the words that they look at

right_one : (a b : Chip) (h : ReservedBy Call Reservation) (x : Reservation) → word_of b PIN ≡ word_of a PIN → ((i : ℕ) → word_of a PIN ≡ 1 + i → i < 2 → word_of b (bank i) ≡ word_of a (bank i)) → HeldRight a h x → HeldRight b h x
right_one a b h (Part n v i) pin banks r = r
right_one a b h Promise pin banks r = tt
right_one a b h (Pinned i) pin banks r = (r.0, r.1, pin ∙ r.2, r.3 ∙ ap (λ x. Some (twice x)) (sym (banks i r.2 r.1)))

right_by : (a b : Chip) (held : Reservations) → word_of b PIN ≡ word_of a PIN → ((i : ℕ) → word_of a PIN ≡ 1 + i → i < 2 → word_of b (bank i) ≡ word_of a (bank i)) → AllRight a held → AllRight b held
right_by a b [] pin banks r = tt
right_by a b (h ∷ hs) pin banks r = (right_one a b h h.what pin banks r.0, right_by a b hs pin banks r.1)

-- where no bank is pinned none is looked at
unpinned_one : (a b : Chip) (h : ReservedBy Call Reservation) (x : Reservation) → is_pin x ≡ false → HeldRight a h x → HeldRight b h x
unpinned_one a b h (Part n v i) e r = r
unpinned_one a b h Promise e r = tt
unpinned_one a b h (Pinned i) e r = absurd (cc)

unpinned : (a b : Chip) (held : Reservations) → NonePinned held → AllRight a held → AllRight b held
unpinned a b [] none r = tt
unpinned a b (h ∷ hs) none r = (unpinned_one a b h h.what none.0 r.0, unpinned a b hs none.1 r.1)

mark_by : (work : Work) (a b : Chip) (q : Bool) → word_of b MARK ≡ word_of a MARK → MarkAgrees work a q → MarkAgrees work b q
mark_by Settled a b q e h = e ∙ h
mark_by Marking a b q e h = tt

is_kept_by : (a b : Chip) (k : Option ℕ) → word_of b NEWEST ≡ word_of a NEWEST → ((i : ℕ) → i < 2 → word_of b (bank i) ≡ word_of a (bank i)) → IsKept a k → IsKept b k
is_kept_by a b None e banks h = e ∙ h
is_kept_by a b (Some v) e banks h = (h.0, h.1, e ∙ h.2, banks h.0 h.1 ∙ h.3)

kept_by : (work : Work) (a b : Chip) (k : Option ℕ) → word_of b NEWEST ≡ word_of a NEWEST → ((i : ℕ) → i < 2 → word_of b (bank i) ≡ word_of a (bank i)) → KeptAgrees work a k → KeptAgrees work b k
kept_by Settled a b k e banks h = is_kept_by a b k e banks h
kept_by Marking a b k e banks h = is_kept_by a b k e banks h

-- ---- the basis

own_at : (k : ℕ) → 32768 ≤ k → k < 32832 → is_own_word k ≡ true
own_at k a b = grind (arith, nat_tests)

own_cell : (c j : ℕ) → c < 4 → j < 8 → is_own_word (cell c j) ≡ true
own_cell c j p q = own_at (cell c j) (omega (arith, p, q)) (omega (arith, p, q))

own_bank : (i : ℕ) → i < 2 → is_own_word (bank i) ≡ true
own_bank i lt = own_at (bank i) (omega (arith, lt)) (omega (arith, lt))

first_zero : (c : ℕ) → c < 4 → cells_of first_state c ≡ 0
first_zero zero lt = refl
first_zero (suc zero) lt = refl
first_zero (suc (suc zero)) lt = refl
first_zero (suc (suc (suc zero))) lt = refl
first_zero (suc (suc (suc (suc c)))) lt = absurd (omega (arith, lt))

table_at : (f : ℕ → ℕ) (c : ℕ) → c < 4 → slice_index_or (table f) c 0 ≡ f c
table_at f zero lt = refl
table_at f (suc zero) lt = refl
table_at f (suc (suc zero)) lt = refl
table_at f (suc (suc (suc zero))) lt = refl
table_at f (suc (suc (suc (suc c)))) lt = absurd (omega (arith, lt))

reset_agrees : (chip : Chip) (w : World) (reason : Reason) → HasAll chip → Agrees [] Settled (reset_chip chip reason) w first_state
reset_agrees chip w reason all = record {
  right = tt;
  all = all-step chip (WasReset reason) tt all;
  cells = λ c j a b. slice_index-blank (cell c j) ∙ sym (first_zero c a);
  mark = slice_index-blank MARK;
  kept = slice_index-blank NEWEST;
  starts = λ e. absurd (cc);
}

-- the words are the same
same_words : (held : Reservations) (work : Work) (a b : Chip) (w x : World) (s : State) → HasAll b → ((k : ℕ) → is_own_word k ≡ true → word_of b k ≡ word_of a k) → Agrees held work a w s → Agrees held work b x s
same_words held work a b w x s all same h = record {
  right = right_by a b held (same PIN refl) (λ i p lt. same (bank i) (own_bank i lt)) h.right;
  all = all;
  cells = λ c j p q. same (cell c j) (own_cell c j p q) ∙ h.cells c j p q;
  mark = mark_by work a b s.waiting (same MARK refl) h.mark;
  kept = kept_by work a b s.kept (same NEWEST refl) (λ i lt. same (bank i) (own_bank i lt)) h.kept;
  starts = h.starts;
}

below_sources : (k : ℕ) → is_own_word k ≡ true → k < SOURCES
below_sources k e = let lt : k < 32832 = grind (arith, nat_tests) in omega (arith, lt)

later : (held : Reservations) (work : Work) (chip : Chip) (w : World) (s : State) (order : Order) → FillsThere (Hardware order) → Agrees held work chip w s → Agrees held work (happened chip order) (world_after w chip.clock.rate order) s
later held work chip w s order fills h = same_words held work chip (happened chip order) w (world_after w chip.clock.rate order) s (all-step chip (Hardware order) fills h.all) (λ k own. word_later chip order k h.all.words (below_sources k own)) h

unstored : (made : Move) → owns made ≡ false → stores_in is_own_word made ≡ false
unstored (Store k v) e = e
unstored _ e = refl

-- a move leaves all parts
all_moved : (chip : Chip) (made : Move) (received : ℕ) → HasAll chip → HasAll (chip_after chip made received)
all_moved chip made received all = all-step chip (Made made received) tt all

apart : (held : Reservations) (work : Work) (chip : Chip) (w : World) (s : State) (made : Move) (received : ℕ) → owns made ≡ false → Agrees held work chip w s → Agrees held work (chip_after chip made received) w s
apart held work chip w s made received e h = same_words held work chip (chip_after chip made received) w w s (all_moved chip made received h.all) (λ k own. word_apart is_own_word chip made received k (unstored made e) own) h

plain : (made : Move) → owns made ≡ true → is_shared made ≡ false
plain (Read r) e = refl
plain (Write r v) e = refl
plain (Load k) e = refl
plain (Store k v) e = refl
plain Mask e = absurd (cc)
plain Unmask e = absurd (cc)
plain (Note n) e = absurd (cc)
plain (Report n) e = absurd (cc)

register_there : (r : Reg) → is_own_register r ≡ true → IsThere r
register_there (ConverterGo u) e = grind (arith, nat_tests)
register_there ResetRequest e = tt
register_there _ e = absurd (cc)

word_there : (k : ℕ) → is_own_word k ≡ true → k < WORDS
word_there k e = let lt : k < 32832 = grind (arith, nat_tests) in omega (arith, lt)

there : (made : Move) → owns made ≡ true → CanApply made
there (Read r) e = register_there r e
there (Write r v) e = register_there r e
there (Load k) e = word_there k e
there (Store k v) e = word_there k e
there _ e = tt

-- no move of the module's sets the rate
steady_read : (chip : Chip) (r : Reg) (received : ℕ) → is_own_register r ≡ true → (chip_after chip (Read r) received).clock.rate ≡ chip.clock.rate
steady_read chip (ConverterGo u) received e = refl
steady_read chip ResetRequest received e = refl
steady_read chip _ received e = absurd (cc)

steady_write : (chip : Chip) (r : Reg) (v received : ℕ) → is_own_register r ≡ true → (chip_after chip (Write r v) received).clock.rate ≡ chip.clock.rate
steady_write chip (ConverterGo u) v received e = refl
steady_write chip ResetRequest v received e = refl
steady_write chip _ v received e = absurd (cc)

steady : (chip : Chip) (made : Move) (received : ℕ) → owns made ≡ true → (chip_after chip made received).clock.rate ≡ chip.clock.rate
steady chip (Read r) received e = steady_read chip r received e
steady chip (Write r v) received e = steady_write chip r v received e
steady chip (Load k) received e = refl
steady chip (Store k v) received e = refl
steady chip _ received e = absurd (cc)

not_waiting : (b : Bool) → (b ≡ true → false ≡ true) → b ≡ false
not_waiting true h = sym (h refl)
not_waiting false h = refl

waits : (chip : Chip) (w : World) (s : State) (u : units.Unit) → Agrees [] Settled chip w s → machine.startable w s u ≡ false
waits chip w s Adc0 h = not_waiting s.waiting h.starts
waits chip w s Adc1 h = refl
waits chip w s Spi0 h = refl
waits chip w s Spi1 h = refl

-- only a section that isn't there and a value that was never kept are errors
fill_leaves : (s : State) (n v : ℕ) (q : Bool) → ErrorLeaves s (fills_by s n v q)
fill_leaves s n v true some = absurd (cc)
fill_leaves s n v false some = (refl, refl)

take_leaves : (s : State) (kept : Option ℕ) → ErrorLeaves s (outcome s (tells_kept kept))
take_leaves s None some = (refl, refl)
take_leaves s (Some v) some = absurd (cc)

error_leaves : (w : World) (s : State) (c : Call) (times : ℕ → ℕ) (out : Outcome State) → machine.happens w s (Acts c times) ≡ Some out → ErrorLeaves s out
error_leaves w s (Fill n v) times out e = subst (λ o. ErrorLeaves s o) (some_same e) (fill_leaves s n v (nat_lt n 4))
error_leaves w s Ask times out e = subst (λ o. ErrorLeaves s o) (some_same e) (λ some. absurd (cc))
error_leaves w s (Put v) times out e = subst (λ o. ErrorLeaves s o) (some_same e) (λ some. absurd (cc))
error_leaves w s Take times out e = subst (λ o. ErrorLeaves s o) (some_same e) (take_leaves s s.kept)
error_leaves w s Poll times out e = subst (λ o. ErrorLeaves s o) (some_same e) (λ some. absurd (cc))
error_leaves w s Reboot times out e = subst (λ o. ErrorLeaves s o) (some_same e) (λ some. absurd (cc))

bare_right : IsBasis bare
bare_right = record {
  starts = λ chip w wired stands. reset_agrees chip w PowerOn stands.all;
  moves = λ held chip w s order come. refl;
  resets = λ held work chip w s reason h. (outcome first_state tells_nothing, refl, reset_agrees chip w reason h.all);
  agrees_later = λ held work chip w s order come shut h. later held work chip w s order (fills_there setting (is_masked chip) w s come.frames order come.free) h;
  agrees_apart = λ held chip w s made received e h. apart held Settled chip w s made received (e (Called Ask)) h;
  may_owns = λ o made e. e;
  owns_plain = λ o made e. plain made e;
  may_there = λ o made e. there made e;
  enables = λ o bits line e other. absurd (cc);
  loads = λ origin value h. h;
  watched = λ held gap chip w s has osc h. cc;
  unwatched = λ w s none. refl;
  owns_called = λ line made e. (Ask, e);
  used_lines = λ line e. absurd (cc);
  due_used = λ held chip w s line h e. absurd (cc);
  pends = λ held chip w s line there h e. absurd (cc);
  unused = λ held chip w s line there h free. absurd (cc);
  rests = λ chip w s line there h. absurd (cc);
  unmasked = λ held chip w s origins among h. tt;
  rest = λ chip w s h. tt;
  waits = waits;
  error_leaves = error_leaves;
  count_first = refl;
  count_happens = λ w s h out e. omega arith;
  count_moves = λ w s order out e. omega arith;
  count_resets = λ w s reason out e. omega arith;
  rated = Steady (λ chip o made received e. steady chip made received e) (λ w s h out e. refl);
  rate_starts = refl;
  rate_moves = λ w s order out e. refl;
  rate_resets = λ chip w s reason out e. refl;
}

-- the store that is owed
publishing_simple : (made : Move) → is_publishing made ≡ true → is_simple made ≡ true
publishing_simple (Store k v) e = refl
publishing_simple _ e = absurd (cc)

publishing_right : AreOwed bare publishing same_chip
publishing_right = simple_owed bare publishing publishing_simple (λ b chip. tt) (λ b c x e. absurd (cc))

pub basis_right : IsBasis basis
basis_right = owing_basis bare publishing same_chip publishing_right bare_right

masked : (held : Reservations) (work : Work) (chip : Chip) (w : World) (s : State) → Agrees held work chip w s → Agrees held work (chip_after chip Mask 0) w s
masked held work chip w s h = apart held work chip w s Mask 0 refl h

unmasked : (held : Reservations) (work : Work) (chip : Chip) (w : World) (s : State) → Agrees held work chip w s → Agrees held work (chip_after chip Unmask 0) w s
unmasked held work chip w s h = apart held work chip w s Unmask 0 refl h

-- ---- a section is filled

-- a word of another section, or another one of the section
other_cell : (c j n i : ℕ) → j < 8 → i < 8 → (c == n && j == i) ≡ false → cell c j ≢ cell n i
other_cell c j n i p q e g = by (c == n) refl (j == i) refl e
  where
    by : (a : Bool) → (c == n) ≡ a → (b : Bool) → (j == i) ≡ b → a && b ≡ false → ⊥
    by true ea true eb f = absurd (cc)
    by true ea false eb f = let k : j ≢ i = grind (arith, nat_tests) in let l : c ≡ n = grind (arith, nat_tests) in k (let m : 8 * c ≡ 8 * n = ap (λ x. 8 * x) l in omega (arith, g, m))
    by false ea b eb f = let k : c ≢ n = grind (arith, nat_tests) in k (omega (arith, g, p, q))

small : (n i : ℕ) → n < 4 → i < 8 → cell n i < WORDS
small n i p q = omega (arith, p, q)

-- the words of sections after a store in one
stored_cells : (held : Reservations) (chip : Chip) (f : ℕ → ℕ) (n v i : ℕ) → n < 4 → i < 8 → length chip.words ≡ WORDS
    → ((c j : ℕ) → c < 4 → j < 8 → word_of chip (cell c j) ≡ want_by (Part n v i) (want held f c j) c j)
    → (c j : ℕ) → c < 4 → j < 8 → word_of (chip_after chip (Store (cell n i) v) 0) (cell c j) ≡ want_by (Part n v (i + 1)) (want held f c j) c j
stored_cells held chip f n v i p q size h c j a b = by (c == n && j == i) refl
  where
    grows : (c == n && j == i) ≡ false → (c == n && nat_lt j i) ≡ (c == n && nat_lt j (i + 1))
    grows e = grind (arith, nat_tests)

    by : (x : Bool) → (c == n && j == i) ≡ x → word_of (chip_after chip (Store (cell n i) v) 0) (cell c j) ≡ (if c == n && nat_lt j (i + 1) then v else want held f c j)
    by true e =
        let k : c ≡ n = grind (arith, nat_tests) in
        let l : j ≡ i = grind (arith, nat_tests) in
        let m : (c == n && nat_lt j (i + 1)) ≡ true = grind (arith, nat_tests) in
        let fits : cell n i < length chip.words = subst (λ x. cell n i < x) (sym size) (small n i p q) in
        subst (λ x. word_of (chip_after chip (Store (cell n i) v) 0) x ≡ v) (ap (λ x. cell x i) (sym k) ∙ ap (λ x. cell c x) (sym l)) (get_or-set_same chip.words (cell n i) v 0 fits)
        ∙ sym (if_true (c == n && nat_lt j (i + 1)) v (want held f c j) m)
    by false e =
        get_or-set_other chip.words (cell n i) (cell c j) v 0 (other_cell c j n i b q e)
        ∙ (h c j a b ∙ ap (λ x. if x then v else want held f c j) (grows e))

-- where nothing of the section is held, its words are the machine's
want_put : (held : Reservations) (f : ℕ → ℕ) (n v c j : ℕ) → Free n held → want held (put f n v) c j ≡ (if c == n then v else want held f c j)
want_put [] f n v c j h = refl
want_put (x ∷ xs) f n v c j h = by x.what h.0 (want_put xs f n v c j h.1)
  where
    by : (y : Reservation) → is_of n y ≡ false → want xs (put f n v) c j ≡ (if c == n then v else want xs f c j) → want_by y (want xs (put f n v) c j) c j ≡ (if c == n then v else want_by y (want xs f c j) c j)
    by (Part m u i) e g = split (c == m && nat_lt j i) refl (c == n) refl
      where
        split : (q : Bool) → (c == m && nat_lt j i) ≡ q → (r : Bool) → (c == n) ≡ r → (if c == m && nat_lt j i then u else want xs (put f n v) c j) ≡ (if c == n then v else (if c == m && nat_lt j i then u else want xs f c j))
        split true a true b = absurd (grind (arith, nat_tests))
        split true a false b = if_true (c == m && nat_lt j i) u _ a ∙ sym (if_false (c == n) v _ b ∙ if_true (c == m && nat_lt j i) u _ a)
        split false a true b = if_false (c == m && nat_lt j i) u _ a ∙ (g ∙ (if_true (c == n) v _ b ∙ sym (if_true (c == n) v _ b)))
        split false a false b = if_false (c == m && nat_lt j i) u _ a ∙ (g ∙ (if_false (c == n) v _ b ∙ sym (if_false (c == n) v _ b ∙ if_false (c == m && nat_lt j i) u _ a)))
    by Promise e g = g
    by (Pinned b) e g = g

-- a store in a section leaves the rest
grown : (held : ReservedBy Call Reservation) (below : Reservations) (chip : Chip) (w : World) (s : State) (r : Job) (i : ℕ) → r.section < 4 → i < 8 → Agrees (record held { what = Part r.section r.value i } ∷ below) Settled chip w s → Agrees (record held { what = Part r.section r.value (i + 1) } ∷ below) Settled (chip_after chip (job_move r i) 0) w s
grown held below chip w s r i p q h =
    let after = chip_after chip (job_move r i) 0 in
    record {
      right = (h.right.0, right_by chip after below (stored_other chip (cell r.section i) r.value 0 PIN (omega (arith, p, q))) (λ k pin lt. stored_other chip (cell r.section i) r.value 0 (bank k) (omega (arith, p, q, lt))) h.right.1);
      all = all_moved chip (job_move r i) 0 h.all;
      cells = stored_cells below chip (cells_of s) r.section r.value i p q h.all.words h.cells;
      mark = stored_other chip (cell r.section i) r.value 0 MARK (omega (arith, p, q)) ∙ h.mark;
      kept = is_kept_by chip after s.kept (stored_other chip (cell r.section i) r.value 0 NEWEST (omega (arith, p, q))) (λ k lt. stored_other chip (cell r.section i) r.value 0 (bank k) (omega (arith, p, q, lt))) h.kept;
      starts = h.starts;
    }

-- the act: all words of the section have the value
whole_by : (below : Reservations) (f : ℕ → ℕ) (n v c j : ℕ) → j < 8 → Free n below → want_by (Part n v 8) (want below f c j) c j ≡ want below (put f n v) c j
whole_by below f n v c j lt free = ap (λ x. if x then v else want below f c j) (all (c == n)) ∙ sym (want_put below f n v c j free)
  where
    all : (q : Bool) → q && nat_lt j 8 ≡ q
    all true = grind (arith, nat_tests)
    all false = refl

want_same : (held : Reservations) (f g : ℕ → ℕ) (c j : ℕ) → f c ≡ g c → want held f c j ≡ want held g c j
want_same [] f g c j e = e
want_same (x ∷ xs) f g c j e = ap (λ y. want_by x.what y c j) (want_same xs f g c j e)

acted : (held : ReservedBy Call Reservation) (below : Reservations) (chip : Chip) (w : World) (s : State) (r : Job) → Free r.section below → Agrees (record held { what = Part r.section r.value 8 } ∷ below) Settled chip w s → Agrees below Settled chip w (filled s r.section r.value)
acted held below chip w s r free h = record {
  right = h.right.1;
  all = h.all;
  cells = λ c j p q. h.cells c j p q ∙ (whole_by below (cells_of s) r.section r.value c j q free ∙ want_same below (put (cells_of s) r.section r.value) (cells_of (filled s r.section r.value)) c j (sym (table_at (put (cells_of s) r.section r.value) c p)));
  mark = h.mark;
  kept = h.kept;
  starts = h.starts;
}

begun : (held : ReservedBy Call Reservation) (below : Reservations) (chip : Chip) (w : World) (s : State) (r : Job) → held.by ≡ Called (Fill r.section r.value) → Agrees below Settled chip w s → Agrees (record held { what = Part r.section r.value 0 } ∷ below) Settled chip w s
begun held below chip w s r e h = record {
  right = (e, h.right);
  all = h.all;
  cells = λ c j p q. h.cells c j p q ∙ sym (if_false (c == r.section && nat_lt j 0) r.value (want below (cells_of s) c j) (none (c == r.section) j));
  mark = h.mark;
  kept = h.kept;
  starts = h.starts;
}
  where
    none : (q : Bool) (j : ℕ) → q && nat_lt j 0 ≡ false
    none true j = grind (arith, nat_tests)
    none false j = refl

below_four : (n : ℕ) → n < 4 → nat_lt n 4 ≡ true
below_four n p = grind (arith, nat_tests)

filled_steps : (below : Reservations) (chip : Chip) (w : World) (s : State) (k : Filled) (o : Origin Call) (y : ℕ) (t : FrameHistory) (m : ℕ → Bool) → AssertedAt basis filled_bodies below chip w s k o t → Right basis filled_bodies below chip w s k o y t m
filled_steps below chip w s (fills.Act r) o y t m (h, (Is_this_frame, lt, free)) = record {
  may = refl;
  stands = tt;
  state = filled s r.section r.value;
  told = tells_nothing;
  begins = None;
  is = ap (λ x. Some (fills_by s r.section r.value x)) (below_four r.section lt);
  sends = tt;
  acts = tt;
  reset = refl;
  next = (acted (record { by = o; what = Promise; acted = None }) below chip w s r free h, record { may = (refl, refl); served = false; owed = refl; shown = λ e. absurd (cc); report = refl });
}

filled_right : AreLong basis filled_bodies
filled_right = record {
  own = λ below chip w s k o t h. refl;
  turns = λ below chip w s k o t h. turns k;
  steps = λ below chip w s k o y t m come few h. filled_steps below chip w s k o y t m h;
  later = λ below chip w s order k o t come shut h. stays below w (world_after w chip.clock.rate order) chip (happened chip order) s k o t h.1;
  calm = λ below chip w s k o t h e. (refl, refl);
  shortens = λ k x. omega arith;
  cleans = λ k x. tt;
}
  where
    turns : (k : Filled) → TurnsTo filled_bodies 16 k (filled_takes k 0)
    turns (fills.Act r) = omega arith

    stays : (below : Reservations) (w w1 : World) (a b : Chip) (s : State) (k : Filled) (o : Origin Call) (t : FrameHistory) → place_at (filled_bodies.assertion k) below (basis.foot a) w s o t → place_at (filled_bodies.assertion k) below (basis.foot b) w1 s o t
    stays below w w1 a b s (fills.Act r) o t h = h

pub fill_right : AreLong basis fill_bodies
fill_right = sweep_right basis filling filled_bodies basis_right filled_right (record {
  own = λ r i below o t lt h. own_cell r.section i h.1 lt;
  still = λ r i. (refl, refl);
  step = λ r i below chip w s o t lt h a. grown (record { by = o; what = Promise; acted = t.acted }) below chip w s r i h.1 lt a;
  stays = λ r i below w o t h. h;
  follows = λ r below chip w s o t h a. (a, h);
  closed = λ r. refl;
  room = λ r below o t h. omega arith;
  unclean = λ k. refl;
})

-- ---- a unit that is asked

marked_apart : (c j : ℕ) → c < 4 → j < 8 → cell c j ≢ MARK
marked_apart c j p q e = omega (arith, p, q, e)

bank_apart : (i k : ℕ) → k < 32812 → bank i ≢ k
bank_apart i k below e = omega (arith, below, e)

-- the words but the mark, after a store of it
right_marked : (held : Reservations) (chip : Chip) (v : ℕ) → AllRight chip held → AllRight (chip_after chip (Store MARK v) 0) held
right_marked held chip v r = right_by chip (chip_after chip (Store MARK v) 0) held (stored_other chip MARK v 0 PIN (omega arith)) (λ i p lt. stored_other chip MARK v 0 (bank i) (bank_apart i MARK (omega arith))) r

kept_marked : (chip : Chip) (v : ℕ) (k : Option ℕ) → IsKept chip k → IsKept (chip_after chip (Store MARK v) 0) k
kept_marked chip v k h = is_kept_by chip (chip_after chip (Store MARK v) 0) k (stored_other chip MARK v 0 NEWEST (omega arith)) (λ i lt. stored_other chip MARK v 0 (bank i) (bank_apart i MARK (omega arith))) h

-- the act: the unit waits, and the frame has promised its start
wanted : (below : Reservations) (chip : Chip) (w : World) (s : State) (o : Origin Call) (t : FrameHistory) → Agrees below Settled chip w s → Agrees (record { by = o; what = Promise; acted = t.acted } ∷ below) Settled (chip_after chip (Store MARK 1) 0) w (record s { waiting = true })
wanted below chip w s o t h = record {
  right = (tt, right_marked below chip 1 h.right);
  all = all_moved chip (Store MARK 1) 0 h.all;
  cells = λ c j p q. stored_other chip MARK 1 0 (cell c j) (marked_apart c j p q) ∙ h.cells c j p q;
  mark = stored_same chip MARK 1 0 (omega arith) h.all.words;
  kept = kept_marked chip 1 s.kept h.kept;
  starts = λ e. refl;
}

-- the start: the unit waits no longer, and the mark is yet to say so
started : (below : Reservations) (chip : Chip) (w : World) (s : State) (o : Origin Call) (t : FrameHistory) → Agrees (record { by = o; what = Promise; acted = t.acted } ∷ below) Settled chip w s → Agrees below Marking (chip_after chip (Write (ConverterGo 0) 1) 0) w (record s { waiting = false })
started below chip w s o t h = record { right = right_by chip (chip_after chip (Write (ConverterGo 0) 1) 0) below refl (λ i p lt. refl) h.right.1; all = all_moved chip (Write (ConverterGo 0) 1) 0 h.all; cells = h.cells; mark = tt; kept = is_kept_by chip (chip_after chip (Write (ConverterGo 0) 1) 0) s.kept refl (λ i lt. refl) h.kept; starts = λ e. absurd (cc) }

unmarked : (below : Reservations) (chip : Chip) (w : World) (s : State) → s.waiting ≡ false → Agrees below Marking chip w s → Agrees below Settled (chip_after chip (Store MARK 0) 0) w s
unmarked below chip w s none h = record {
  right = right_marked below chip 0 h.right;
  all = all_moved chip (Store MARK 0) 0 h.all;
  cells = λ c j p q. stored_other chip MARK 0 0 (cell c j) (marked_apart c j p q) ∙ h.cells c j p q;
  mark = stored_same chip MARK 0 0 (omega arith) h.all.words ∙ ap flag (sym none);
  kept = kept_marked chip 0 s.kept h.kept;
  starts = h.starts;
}

-- nothing waits: the promise is void
void : (below : Reservations) (chip : Chip) (w : World) (s : State) (o : Origin Call) (t : FrameHistory) → s.waiting ≡ false → Agrees (record { by = o; what = Promise; acted = t.acted } ∷ below) Settled chip w s → Agrees below Settled chip w s
void below chip w s o t none h = record { right = h.right.1; all = h.all; cells = h.cells; mark = h.mark; kept = h.kept; starts = λ e. let f : false ≡ true = sym none ∙ e in absurd (cc) }

mark_says : (b : Bool) (x : ℕ) (q : Bool) → x ≡ flag b → (x == 0) ≡ q → b ≡ not q
mark_says true x true e f = absurd (grind (arith, nat_tests))
mark_says true x false e f = refl
mark_says false x true e f = refl
mark_says false x false e f = absurd (grind (arith, nat_tests))

looks_on : (below : Reservations) (chip : Chip) (w : World) (s : State) (before : Chip) (x y : ℕ) (m : ℕ → Bool) (q : Bool) → s.waiting ≡ not q → Agrees (record { by = Called Ask; what = Promise; acted = told_all.acted } ∷ below) Settled chip w s → Works basis ask_bodies below before chip w s (Called Ask) (Load MARK) false x y told_all m (look_takes q).0 (look_takes q).1.event (look_takes q).1.done
looks_on below chip w s before x y m true e h = (void below chip w s (Called Ask) told_all e h, record { may = (refl, refl); served = false; owed = refl; shown = λ e. absurd (cc); report = refl })
looks_on below chip w s before x y m false e h = (h, (Is_this_frame, e))

ask_steps : (below : Reservations) (chip : Chip) (w : World) (s : State) (k : Asking) (o : Origin Call) (y : ℕ) (t : FrameHistory) (m : ℕ → Bool) → AssertedAt basis ask_bodies below chip w s k o t → Right basis ask_bodies below chip w s k o y t m
ask_steps below chip w s Want o y t m (h, Is_this_frame) = record { may = refl; stands = tt; state = record s { waiting = true }; told = tells_notice; begins = None; is = refl; sends = tt; acts = tt; reset = refl; next = (wanted below chip w s o (record fresh_history { acted = Some no_answer }) h, Is_this_frame) }
ask_steps below chip w s OpenOnce o y t m (h, f) = (unmasked _ Settled chip w s h, f)
ask_steps below chip w s Tell o y t m (h, Is_this_frame) = record { served = false; others = []; is = refl; shown = λ e. absurd (cc); next = (apart _ Settled chip w s (Note notice) 0 refl h, Is_this_frame) }
ask_steps below chip w s ShutAgain o y t m (h, f) = (masked _ Settled chip w s h, f)
ask_steps below chip w s Look o y t m (h, Is_this_frame) = looks_on below chip w s chip (word_of chip MARK) y (missed_after machine w s m) (word_of chip MARK == 0) (mark_says s.waiting (word_of chip MARK) (word_of chip MARK == 0) h.mark refl) h
ask_steps below chip w s Go o y t m (h, (Is_this_frame, waiting)) = record { may = (refl, λ i. ap (λ x. is_some (starts_by s x)) waiting); stands = (refl, refl); state = record s { waiting = false }; told = tells_nothing; begins = None; is = ap (λ x. starts_by s x) waiting; sends = tt; acts = tt; reset = refl; next = (started below chip w s o told_all h, (Is_this_frame, refl)) }
ask_steps below chip w s Unmark o y t m (h, (Is_this_frame, none)) = (unmarked below chip w s none h, record { may = (refl, refl); served = false; owed = refl; shown = λ e. absurd (cc); report = refl })

ask_own : (k : Asking) → is_shared (ask_work k) || owns (ask_work k) ≡ true
ask_own Want = refl
ask_own OpenOnce = refl
ask_own Tell = refl
ask_own ShutAgain = refl
ask_own Look = refl
ask_own Go = refl
ask_own Unmark = refl

ask_turns : (k : Asking) (x : ℕ) → TurnsTo ask_bodies 16 k (ask_takes k x)
ask_turns Want x = (refl, omega arith)
ask_turns OpenOnce x = (refl, refl, refl, refl)
ask_turns Tell x = (refl, refl, refl, refl)
ask_turns ShutAgain x = (refl, refl, omega arith, refl, refl)
ask_turns Look x = by (x == 0)
  where
    by : (q : Bool) → TurnsTo ask_bodies 16 Look (look_takes q)
    by true = omega arith
    by false = (refl, omega arith)
ask_turns Go x = (refl, omega arith)
ask_turns Unmark x = omega arith

ask_shortens : (k : Asking) (x : ℕ) → Shortens ask_fuel k (ask_takes k x)
ask_shortens Want x = omega arith
ask_shortens OpenOnce x = omega arith
ask_shortens Tell x = omega arith
ask_shortens ShutAgain x = omega arith
ask_shortens Look x = by (x == 0)
  where
    by : (q : Bool) → Shortens ask_fuel Look (look_takes q)
    by true = omega arith
    by false = omega arith
ask_shortens Go x = omega arith
ask_shortens Unmark x = omega arith

ask_stays : (below : Reservations) (a b : Chip) (w w1 : World) (s : State) (k : Asking) (o : Origin Call) (t : FrameHistory) → place_at (ask_bodies.assertion k) below (basis.foot a) w s o t → place_at (ask_bodies.assertion k) below (basis.foot b) w1 s o t
ask_stays below a b w w1 s Want o t h = h
ask_stays below a b w w1 s OpenOnce o t h = h
ask_stays below a b w w1 s Tell o t h = h
ask_stays below a b w w1 s ShutAgain o t h = h
ask_stays below a b w w1 s Look o t h = h
ask_stays below a b w w1 s Go o t h = h
ask_stays below a b w w1 s Unmark o t h = h

ask_calm : (k : Asking) → (resets_chip (ask_work k) ≡ false) × (begins_word (ask_work k) ≡ false)
ask_calm Want = (refl, refl)
ask_calm OpenOnce = (refl, refl)
ask_calm Tell = (refl, refl)
ask_calm ShutAgain = (refl, refl)
ask_calm Look = (refl, refl)
ask_calm Go = (refl, refl)
ask_calm Unmark = (refl, refl)

pub ask_right : AreLong basis ask_bodies
ask_right = record {
  own = λ below chip w s k o t h. ask_own k;
  turns = λ below chip w s k o t h. ask_turns k (value_of chip (ask_work k));
  steps = λ below chip w s k o y t m come few h. ask_steps below chip w s k o y t m h;
  later = λ below chip w s order k o t come shut h. ask_stays below chip (happened chip order) w (world_after w chip.clock.rate order) s k o t h.1;
  calm = λ below chip w s k o t h e. ask_calm k;
  shortens = ask_shortens;
  cleans = λ k x. never_clean (ask_work k) k (ask_takes k x);
}

-- ---- a value is kept

other_bank : (x : ℕ) (q : Bool) → (x == 1) ≡ q → x ≢ 1 + (if q then 1 else 0)
other_bank x true e f = absurd (grind (arith, nat_tests))
other_bank x false e f = absurd (grind (arith, nat_tests))

put_on : (below : Reservations) (chip : Chip) (w : World) (s : State) (before : Chip) (x y v : ℕ) (m : ℕ → Bool) (q : Bool) → word_of chip PIN ≢ 1 + (if q then 1 else 0) → Agrees below Settled chip w s → let p : Putting × BodyTaken = if q then (puts.Keep 1 v, goes) else (puts.Keep 0 v, goes) in Works basis put_bodies below before chip w s (Called (Put v)) (Load PIN) false x y fresh_history m p.0 p.1.event p.1.done
put_on below chip w s before x y v m true ne h = (h, (Is_this_frame, omega arith, ne))
put_on below chip w s before x y v m false ne h = (h, (Is_this_frame, omega arith, ne))

-- the act: the value stands in a bank that isn't pinned, and after the store that is owed that is the newest
put_kept : (below : Reservations) (chip : Chip) (w : World) (s : State) (b v : ℕ) → b < 2 → word_of chip PIN ≢ 1 + b → Agrees below Settled chip w s → Agrees below Settled (chip_after (chip_after chip (Store (bank b) v) 0) (Store NEWEST (1 + b)) 0) w (record s { kept = Some v })
put_kept below chip w s b v lt free h =
    let first = chip_after chip (Store (bank b) v) 0 in
    let after = chip_after first (Store NEWEST (1 + b)) 0 in
    let all = all_moved chip (Store (bank b) v) 0 h.all in
    record {
      right = right_by chip after below (stored_other first NEWEST (1 + b) 0 PIN (omega arith) ∙ stored_other chip (bank b) v 0 PIN (omega arith))
          (λ i p q. stored_other first NEWEST (1 + b) 0 (bank i) (bank_apart i NEWEST (omega arith)) ∙ stored_other chip (bank b) v 0 (bank i) (λ e. let same : i ≡ b = omega (arith, e) in free (p ∙ ap (λ x. 1 + x) same))) h.right;
      all = all_moved first (Store NEWEST (1 + b)) 0 all;
      cells = λ c j p q. stored_other first NEWEST (1 + b) 0 (cell c j) (omega (arith, p, q)) ∙ (stored_other chip (bank b) v 0 (cell c j) (omega (arith, p, q)) ∙ h.cells c j p q);
      mark = stored_other first NEWEST (1 + b) 0 MARK (omega arith) ∙ (stored_other chip (bank b) v 0 MARK (omega arith) ∙ h.mark);
      kept = (b, lt, stored_same first NEWEST (1 + b) 0 (omega arith) all.words, stored_other first NEWEST (1 + b) 0 (bank b) (bank_apart b NEWEST (omega arith)) ∙ stored_same chip (bank b) v 0 (omega (arith, lt)) h.all.words);
      starts = h.starts;
    }

put_steps : (below : Reservations) (chip : Chip) (w : World) (s : State) (k : Putting) (o : Origin Call) (y : ℕ) (t : FrameHistory) (m : ℕ → Bool) → put_owes k ≡ None → AssertedAt basis put_bodies below chip w s k o t → Right basis put_bodies below chip w s k o y t m
put_steps below chip w s (puts.Look v) o y t m e (h, Is_this_frame) = let x = word_of chip PIN in put_on below chip w s chip x y v (missed_after machine w s m) (x == 1) (other_bank x (x == 1) refl) h
put_steps below chip w s (puts.Keep b v) o y t m e (h, (Is_this_frame, lt, free)) = record { may = refl; stands = tt; state = record s { kept = Some v }; told = tells_nothing; begins = None; is = refl; sends = tt; acts = tt; reset = refl; next = ((1, (refl, tt, put_kept below chip w s b v lt free h)), (v, Is_this_frame)) }
put_steps below chip w s (puts.Publish b) o y t m e h = absurd (cc)

put_own : (below : Reservations) (chip : Chip) (w : World) (s : State) (k : Putting) (o : Origin Call) (t : FrameHistory) → put_owes k ≡ None → AssertedAt basis put_bodies below chip w s k o t → is_shared (put_work k) || owns (put_work k) ≡ true
put_own below chip w s (puts.Look v) o t e h = refl
put_own below chip w s (puts.Keep b v) o t e (h, (p, lt, free)) = own_bank b lt
put_own below chip w s (puts.Publish b) o t e h = absurd (cc)

put_turns : (k : Putting) (x : ℕ) → put_owes k ≡ None → TurnsTo put_bodies 16 k (put_takes k x)
put_turns (puts.Look v) x e = by (x == 1)
  where
    by : (q : Bool) → TurnsTo put_bodies 16 (puts.Look v) (if q then (puts.Keep 1 v, goes) else (puts.Keep 0 v, goes))
    by true = (refl, omega arith)
    by false = (refl, omega arith)
put_turns (puts.Keep b v) x e = (refl, omega arith)
put_turns (puts.Publish b) x e = absurd (cc)

put_shortens : (k : Putting) (x : ℕ) → put_owes k ≡ None → Shortens put_bodies.fuel k (put_takes k x)
put_shortens (puts.Look v) x e = by (x == 1)
  where
    by : (q : Bool) → Shortens put_bodies.fuel (puts.Look v) (if q then (puts.Keep 1 v, goes) else (puts.Keep 0 v, goes))
    by true = omega arith
    by false = omega arith
put_shortens (puts.Keep b v) x e = omega arith
put_shortens (puts.Publish b) x e = absurd (cc)

-- what the hardware does leaves the words
pin_happened : (chip : Chip) (order : Order) → HasAll chip → word_of (happened chip order) PIN ≡ word_of chip PIN
pin_happened chip order all = word_later chip order PIN all.words (omega arith)

newest_happened : (chip : Chip) (order : Order) → HasAll chip → word_of (happened chip order) NEWEST ≡ word_of chip NEWEST
newest_happened chip order all = word_later chip order NEWEST all.words (omega arith)

put_later : (below : Reservations) (chip : Chip) (w w1 : World) (s : State) (order : Order) (k : Putting) (o : Origin Call) (t : FrameHistory) → put_owes k ≡ None → AssertedAt basis put_bodies below chip w s k o t → place_at (put_bodies.assertion k) below (basis.foot (happened chip order)) w1 s o t
put_later below chip w w1 s order (puts.Look v) o t e (h, f) = f
put_later below chip w w1 s order (puts.Keep b v) o t e (h, f) = (f.0, f.1, λ i. f.2 (sym (pin_happened chip order h.all) ∙ i))
put_later below chip w w1 s order (puts.Publish b) o t e h = absurd (cc)

put_calm : (k : Putting) → (resets_chip (put_work k) ≡ false) × (begins_word (put_work k) ≡ false)
put_calm (puts.Look v) = (refl, refl)
put_calm (puts.Keep b v) = (refl, refl)
put_calm (puts.Publish b) = (refl, refl)

-- what is owed at a place is what the body does there
put_wins : AreWindows put_windows (λ k. None)
put_wins = record {
  makes = makes;
  on = λ k b c x e i. absurd (cc);
  over = λ k b x e i. over k b x e;
  unended = λ k b x e. refl;
  may = λ a below o t made h e. may made e;
  stands = λ k b x below chip w s o t m e i p h. stands k b x below chip w s o t m e p h;
}
  where
    makes : (k : Putting) (b : ℕ) → put_owes k ≡ Some b → put_work k ≡ Store NEWEST (1 + b)
    makes (puts.Look v) b e = absurd (cc)
    makes (puts.Keep c v) b e = absurd (cc)
    makes (puts.Publish c) b e = ap (λ i. Store NEWEST (1 + i)) (some_same e)

    over : (k : Putting) (b x : ℕ) → put_owes k ≡ Some b → ((put_takes k x).1.event ≡ None) × GoesFree put_windows tt (put_takes k x).0 (put_takes k x).1.done
    over (puts.Look v) b x e = absurd (cc)
    over (puts.Keep c v) b x e = absurd (cc)
    over (puts.Publish c) b x e = (refl, tt)

    may : (made : Move) → is_publishing made ≡ true → owns made ≡ true
    may (Store k v) e = let is : k ≡ NEWEST = grind (arith, nat_tests) in ap is_own_word is
    may _ e = absurd (cc)

    stands : (k : Putting) (b x : ℕ) (below : Reservations) (chip : Chip) (w : World) (s : State) (o : Origin Call) (t : FrameHistory) (m : ℕ → Bool) → put_owes k ≡ Some b → put_windows.place tt below o t → Agrees below Settled chip w s → Continues basis put_bodies below chip w s o t m (put_takes k x).0 (put_takes k x).1.done
    stands (puts.Look v) b x below chip w s o t m e p h = absurd (cc)
    stands (puts.Keep c v) b x below chip w s o t m e p h = absurd (cc)
    stands (puts.Publish c) b x below chip w s o t m e (v, Is_this_frame) h = (h, record { may = (refl, refl); served = false; owed = refl; shown = λ e. absurd (cc); report = refl })

put_free : AreFree basis put_bodies put_owes (λ k. None)
put_free = record {
  own = put_own;
  turns = λ below chip w s k o t e h. put_turns k (value_of chip (put_work k)) e;
  steps = λ below chip w s k o y t m e come few h. put_steps below chip w s k o y t m e h;
  later = λ below chip w s order k o t e come shut h. put_later below chip w (world_after w chip.clock.rate order) s order k o t e h;
  calm = λ below chip w s k o t e h i. put_calm k;
  shortens = put_shortens;
  cleans = λ k x e. cleans k x e;
}
  where
    cleans : (k : Putting) (x : ℕ) → put_owes k ≡ None → Cleans put_bodies.clean (put_work k) k (put_takes k x)
    cleans (puts.Look v) x e = by (x == 1)
      where
        by : (q : Bool) → Cleans put_bodies.clean (Load PIN) (puts.Look v) (if q then (puts.Keep 1 v, goes) else (puts.Keep 0 v, goes))
        by true = λ f. absurd (cc)
        by false = λ f. absurd (cc)
    cleans (puts.Keep b v) x e = λ f. absurd (cc)
    cleans (puts.Publish b) x e = absurd (cc)

pub put_right : AreLong basis put_bodies
put_right = windows_right bare publishing same_chip publishing_right put_windows (λ k. None) put_wins put_free

-- ---- the value is taken

-- the newest bank, by its word
is_named : (x b : ℕ) → b < 2 → x ≡ 1 + b → named x ≡ b
is_named x b lt e = by (x == 1) refl
  where
    by : (q : Bool) → (x == 1) ≡ q → (if q then 0 else 1) ≡ b
    by true f = grind (arith, nat_tests)
    by false f = grind (arith, nat_tests)

newest_on : (below : Reservations) (chip : Chip) (w : World) (s : State) (y : ℕ) (m : ℕ → Bool) (kept : Option ℕ) → s.kept ≡ kept → IsKept chip kept → NonePinned below → Agrees below Settled chip w s → (q : Bool) → (word_of chip NEWEST == 0) ≡ q → let p : Taking × BodyTaken = if q then (Newest, none_kept) else (Pin (named (word_of chip NEWEST)), goes) in Works basis take_bodies below chip chip w s (Called Take) (Load NEWEST) true (word_of chip NEWEST) y fresh_history m p.0 p.1.event p.1.done
newest_on below chip w s y m None e k none h true i = record {
  may = refl;
  stands = tt;
  state = s;
  told = tells_kept None;
  begins = None;
  is = ap (λ x. Some (outcome s (tells_kept x))) e;
  sends = tt;
  acts = (refl, refl);
  reset = refl;
  next = (h, record { may = (refl, refl); served = false; owed = refl; shown = λ e. absurd (cc); report = refl });
}
newest_on below chip w s y m None e k none h false i = absurd (grind (arith, nat_tests))
newest_on below chip w s y m (Some v) e (b, lt, is, has) none h true i = absurd (grind (arith, nat_tests))
newest_on below chip w s y m (Some v) e (b, lt, is, has) none h false i =
    let n = is_named (word_of chip NEWEST) b lt is in
    (h, (Is_this_frame, none, subst (λ x. x < 2) (sym n) lt, is ∙ ap (λ x. 1 + x) (sym n)))

-- the act: the newest bank is pinned, and has what is answered
pinned_now : (below : Reservations) (chip : Chip) (w : World) (s : State) (b v : ℕ) → b < 2 → word_of chip (bank b) ≡ v → NonePinned below → Agrees below Settled chip w s → Agrees (record { by = Called Take; what = Pinned b; acted = Some (twice v) } ∷ below) Settled (chip_after chip (Store PIN (1 + b)) 0) w s
pinned_now below chip w s b v lt has none h =
    let after = chip_after chip (Store PIN (1 + b)) 0 in
    record {
      right = ((refl, lt, stored_same chip PIN (1 + b) 0 (omega arith) h.all.words, ap (λ x. Some (twice x)) (sym (stored_other chip PIN (1 + b) 0 (bank b) (bank_apart b PIN (omega arith)) ∙ has))), unpinned chip after below none h.right);
      all = all_moved chip (Store PIN (1 + b)) 0 h.all;
      cells = λ c j p q. stored_other chip PIN (1 + b) 0 (cell c j) (omega (arith, p, q)) ∙ h.cells c j p q;
      mark = stored_other chip PIN (1 + b) 0 MARK (omega arith) ∙ h.mark;
      kept = is_kept_by chip after s.kept (stored_other chip PIN (1 + b) 0 NEWEST (omega arith)) (λ i q. stored_other chip PIN (1 + b) 0 (bank i) (bank_apart i PIN (omega arith))) h.kept;
      starts = h.starts;
    }

released : (below : Reservations) (chip : Chip) (w : World) (s : State) (b : ℕ) (o : Origin Call) (t : FrameHistory) → NonePinned below → Agrees (record { by = o; what = Pinned b; acted = t.acted } ∷ below) Settled chip w s → Agrees below Settled (chip_after chip (Store PIN 0) 0) w s
released below chip w s b o t none h =
    let after = chip_after chip (Store PIN 0) 0 in
    record {
      right = unpinned chip after below none h.right.1;
      all = all_moved chip (Store PIN 0) 0 h.all;
      cells = λ c j p q. stored_other chip PIN 0 0 (cell c j) (omega (arith, p, q)) ∙ h.cells c j p q;
      mark = stored_other chip PIN 0 0 MARK (omega arith) ∙ h.mark;
      kept = is_kept_by chip after s.kept (stored_other chip PIN 0 0 NEWEST (omega arith)) (λ i q. stored_other chip PIN 0 0 (bank i) (bank_apart i PIN (omega arith))) h.kept;
      starts = h.starts;
    }

pin_on : (below : Reservations) (chip : Chip) (w : World) (s : State) (y b : ℕ) (m : ℕ → Bool) (kept : Option ℕ) → s.kept ≡ kept → IsKept chip kept → b < 2 → word_of chip NEWEST ≡ 1 + b → NonePinned below → Agrees below Settled chip w s → Works basis take_bodies below chip (chip_after chip (Store PIN (1 + b)) 0) w s (Called Take) (Store PIN (1 + b)) false 0 y fresh_history m (Open b) acts.event acts.done
pin_on below chip w s y b m None e k lt newest none h = absurd (let z : 0 ≡ 1 + b = sym k ∙ newest in omega (arith, z))
pin_on below chip w s y b m (Some v) e (i, below2, is, has) lt newest none h = record {
  may = refl;
  stands = tt;
  state = s;
  told = tells_kept (Some v);
  begins = None;
  is = ap (λ x. Some (outcome s (tells_kept x))) e;
  sends = tt;
  acts = tt;
  reset = refl;
  next = (pinned_now below chip w s b v lt (let same : i ≡ b = let z : 1 + i ≡ 1 + b = sym is ∙ newest in omega (arith, z) in ap (λ x. word_of chip (bank x)) (sym same) ∙ has) none h, (v, (Is_this_frame, none)));
}

abbrev first_number : Option Answer → ℕ
first_number None = 0
first_number (Some a) = slice_index_or a.words 0 0

same_twice : (v x : ℕ) → Some (twice v) ≡ Some (twice x) → x ≡ v
same_twice v x e = sym (ap first_number e)

-- where it looks for the newest bank its frame goes on
newest_goes : (x : ℕ) → ended_at take_bodies take_ends Newest x ≡ None
newest_goes x = by (x == 0)
  where
    by : (q : Bool) → let p : Taking × BodyTaken = if q then (Newest, none_kept) else (Pin (named x), goes) in ended_by (take_ends p.0) p.1.done ≡ None
    by true = refl
    by false = refl

take_steps : (below : Reservations) (chip : Chip) (w : World) (s : State) (k : Taking) (o : Origin Call) (y : ℕ) (t : FrameHistory) (m : ℕ → Bool) → AssertedAt basis take_bodies below chip w s k o t → RightOr basis take_bodies below chip w s k o y t m (ended_at take_bodies take_ends k (value_of chip (take_work k)))
take_steps below chip w s Newest o y t m (h, (Is_this_frame, none)) = goes_right basis take_bodies below chip w s Newest (Called Take) y fresh_history m (ended_at take_bodies take_ends Newest (word_of chip NEWEST)) (newest_goes (word_of chip NEWEST)) (newest_on below chip w s y (missed_after machine w s m) s.kept refl h.kept none h (word_of chip NEWEST == 0) refl)
take_steps below chip w s (Pin b) o y t m (h, (Is_this_frame, none, lt, newest)) = pin_on below chip w s y b (missed_after machine w s m) s.kept refl h.kept lt newest none h
take_steps below chip w s (Open b) o y t m (h, (v, f)) = (unmasked _ Settled chip w s h, (h.right.0.1, v, f))
take_steps below chip w s (Copy b) o y t m (h, (lt, v, (Is_this_frame, none))) = (h, subst (λ x. place_at (take_bodies.assertion (Again b x)) below (basis.foot chip) w s (Called Take) (answered (twice v))) (sym (same_twice v (word_of chip (bank b)) h.right.0.3)) (lt, (Is_this_frame, none)))
take_steps below chip w s (Again b x) o y t m (h, (lt, (Is_this_frame, none))) = (h, subst (λ z. place_at (take_bodies.assertion (Shut b x z)) below (basis.foot chip) w s (Called Take) (answered (twice x))) (sym (same_twice x (word_of chip (bank b)) h.right.0.3)) (Is_this_frame, none))
take_steps below chip w s (Shut b x z) o y t m (h, f) = (masked _ Settled chip w s h, f)
take_steps below chip w s (Release b x z) o y t m (h, (Is_this_frame, none)) = (released below chip w s b o (answered (both_read x z)) none h, (Is_this_frame, none))
take_steps below chip w s (Leave x z) o y t m (h, (Is_this_frame, none)) = (refl, unmasked _ Settled chip w s h, record { may = (refl, refl); served = false; owed = refl; shown = λ e. absurd (cc); report = refl })
take_steps below chip w s (Over x z) o y t m (h, f) = absurd f

take_own : (below : Reservations) (chip : Chip) (w : World) (s : State) (k : Taking) (o : Origin Call) (t : FrameHistory) → AssertedAt basis take_bodies below chip w s k o t → is_shared (take_work k) || owns (take_work k) ≡ true
take_own below chip w s Newest o t h = refl
take_own below chip w s (Pin b) o t h = refl
take_own below chip w s (Open b) o t h = refl
take_own below chip w s (Copy b) o t (h, (lt, v, f)) = own_bank b lt
take_own below chip w s (Again b x) o t (h, (lt, f)) = own_bank b lt
take_own below chip w s (Shut b x y) o t h = refl
take_own below chip w s (Release b x y) o t h = refl
take_own below chip w s (Leave x y) o t h = refl
take_own below chip w s (Over x y) o t h = refl

take_turns : (below : Reservations) (chip : Chip) (w : World) (s : State) (k : Taking) (o : Origin Call) (t : FrameHistory) (x : ℕ) → AssertedAt basis take_bodies below chip w s k o t → TurnsTo take_bodies 16 k (take_takes k x)
take_turns below chip w s Newest o t x h = by (x == 0)
  where
    by : (q : Bool) → TurnsTo take_bodies 16 Newest (if q then (Newest, none_kept) else (Pin (named x), goes))
    by true = omega arith
    by false = (refl, omega arith)
take_turns below chip w s (Pin b) o t x h = (refl, omega arith)
take_turns below chip w s (Open b) o t x h = (refl, refl, refl, refl)
take_turns below chip w s (Copy b) o t x h = refl
take_turns below chip w s (Again b y) o t x h = refl
take_turns below chip w s (Shut b y z) o t x h = (refl, refl, omega arith, refl, refl)
take_turns below chip w s (Release b y z) o t x h = (refl, omega arith)
take_turns below chip w s (Leave y z) o t x h = (refl, refl, refl, refl)
take_turns below chip w s (Over y z) o t x h = absurd h.1

take_shortens : (k : Taking) (x : ℕ) → Shortens take_fuel k (take_takes k x)
take_shortens Newest x = by (x == 0)
  where
    by : (q : Bool) → Shortens take_fuel Newest (if q then (Newest, none_kept) else (Pin (named x), goes))
    by true = omega arith
    by false = omega arith
take_shortens (Pin b) x = omega arith
take_shortens (Open b) x = omega arith
take_shortens (Copy b) x = omega arith
take_shortens (Again b y) x = omega arith
take_shortens (Shut b y z) x = omega arith
take_shortens (Release b y z) x = omega arith
take_shortens (Leave y z) x = omega arith
take_shortens (Over y z) x = omega arith

take_cleans : (k : Taking) (x : ℕ) → Cleans take_clean (take_work k) k (take_takes k x)
take_cleans Newest x = by (x == 0)
  where
    by : (q : Bool) → Cleans take_clean (Load NEWEST) Newest (if q then (Newest, none_kept) else (Pin (named x), goes))
    by true = tt
    by false = λ e. absurd (cc)
take_cleans (Pin b) x = λ e. absurd (cc)
take_cleans (Open b) x = λ e. absurd (cc)
take_cleans (Copy b) x = λ e. absurd (cc)
take_cleans (Again b y) x = λ e. absurd (cc)
take_cleans (Shut b y z) x = λ e. absurd (cc)
take_cleans (Release b y z) x = λ e. absurd (cc)
take_cleans (Leave y z) x = λ e. absurd (cc)
take_cleans (Over y z) x = tt

take_later : (below : Reservations) (chip : Chip) (w w1 : World) (s : State) (order : Order) (k : Taking) (o : Origin Call) (t : FrameHistory) → AssertedAt basis take_bodies below chip w s k o t → place_at (take_bodies.assertion k) below (basis.foot (happened chip order)) w1 s o t
take_later below chip w w1 s order Newest o t (h, f) = f
take_later below chip w w1 s order (Pin b) o t (h, f) = (f.0, f.1, f.2, newest_happened chip order h.all ∙ f.3)
take_later below chip w w1 s order (Open b) o t (h, f) = f
take_later below chip w w1 s order (Copy b) o t (h, f) = f
take_later below chip w w1 s order (Again b x) o t (h, f) = f
take_later below chip w w1 s order (Shut b x y) o t (h, f) = f
take_later below chip w w1 s order (Release b x y) o t (h, f) = f
take_later below chip w w1 s order (Leave x y) o t (h, f) = f
take_later below chip w w1 s order (Over x y) o t (h, f) = f

take_calm : (k : Taking) → (resets_chip (take_work k) ≡ false) × (begins_word (take_work k) ≡ false)
take_calm Newest = (refl, refl)
take_calm (Pin b) = (refl, refl)
take_calm (Open b) = (refl, refl)
take_calm (Copy b) = (refl, refl)
take_calm (Again b x) = (refl, refl)
take_calm (Shut b x y) = (refl, refl)
take_calm (Release b x y) = (refl, refl)
take_calm (Leave x y) = (refl, refl)
take_calm (Over x y) = (refl, refl)

pub take_right : AreEnding basis take_bodies take_ends
take_right = record {
  own = take_own;
  turns = λ below chip w s k o t h. take_turns below chip w s k o t (value_of chip (take_work k)) h;
  steps = λ below chip w s k o y t m come few h. take_steps below chip w s k o y t m h;
  later = λ below chip w s order k o t come shut h. take_later below chip w (world_after w chip.clock.rate order) s order k o t h;
  calm = λ below chip w s k o t h e. take_calm k;
  shortens = take_shortens;
  cleans = take_cleans;
}

-- ---- a line is polled

poll_steps : (below : Reservations) (chip : Chip) (w : World) (s : State) (k : Polling) (o : Origin Call) (y : ℕ) (t : FrameHistory) (m : ℕ → Bool) → AssertedAt basis poll_bodies below chip w s k o t → Right basis poll_bodies below chip w s k o y t m
poll_steps below chip w s polls.Act o y t m (h, Is_this_frame) = record { may = refl; stands = tt; state = s; told = tells_nothing; begins = None; is = refl; sends = tt; acts = tt; reset = refl; next = (h, Is_this_frame) }
poll_steps below chip w s polls.Serve o y t m (h, Is_this_frame) = record {
  may = ((refl, refl), refl);
  stands = tt;
  state = s;
  told = tells_nothing;
  begins = None;
  is = refl;
  sends = tt;
  acts = tt;
  reset = refl;
  next = (h, record { may = (refl, refl); served = true; owed = refl; shown = λ e. tt; report = refl });
}

pub poll_right : AreLong basis poll_bodies
poll_right = record {
  own = λ below chip w s k o t h. refl;
  turns = λ below chip w s k o t h. turns k (value_of chip (poll_work k));
  steps = λ below chip w s k o y t m come few h. poll_steps below chip w s k o y t m h;
  later = λ below chip w s order k o t come shut h. stays below chip (happened chip order) w (world_after w chip.clock.rate order) s k o t h.1;
  calm = λ below chip w s k o t h e. (refl, refl);
  shortens = shortens;
  cleans = λ k x. never_clean (poll_work k) k (poll_takes k x);
}
  where
    turns : (k : Polling) (x : ℕ) → TurnsTo poll_bodies 16 k (poll_takes k x)
    turns polls.Act x = (refl, omega arith)
    turns polls.Serve x = omega arith

    shortens : (k : Polling) (x : ℕ) → Shortens poll_fuel k (poll_takes k x)
    shortens polls.Act x = omega arith
    shortens polls.Serve x = omega arith

    stays : (below : Reservations) (a b : Chip) (w w1 : World) (s : State) (k : Polling) (o : Origin Call) (t : FrameHistory) → place_at (poll_bodies.assertion k) below (basis.foot a) w s o t → place_at (poll_bodies.assertion k) below (basis.foot b) w1 s o t
    stays below a b w w1 s polls.Act o t h = h
    stays below a b w w1 s polls.Serve o t h = h

-- ---- the chip is reset

reboot_steps : (below : Reservations) (chip : Chip) (w : World) (s : State) (k : Rebooting) (o : Origin Call) (y : ℕ) (t : FrameHistory) (m : ℕ → Bool) → AssertedAt basis reboot_bodies below chip w s k o t → Right basis reboot_bodies below chip w s k o y t m
reboot_steps below chip w s Reset o y t m (h, Is_this_frame) = record {
  may = refl;
  stands = tt;
  state = s;
  told = tells_nothing;
  begins = None;
  is = refl;
  sends = tt;
  acts = tt;
  reset = refl;
  next = (same_words below Settled chip _ w w s (all_moved chip (Write ResetRequest 1) 0 h.all) (λ k own. refl) h, record { may = (refl, refl); served = false; owed = refl; shown = λ e. absurd (cc); report = refl });
}

pub reboot_right : AreLong basis reboot_bodies
reboot_right = record {
  own = λ below chip w s k o t h. own k;
  turns = λ below chip w s k o t h. turns k (value_of chip (reboot_work k));
  steps = λ below chip w s k o y t m come few h. reboot_steps below chip w s k o y t m h;
  later = λ below chip w s order k o t come shut h. stays below chip (happened chip order) w (world_after w chip.clock.rate order) s k o t h.1;
  calm = λ below chip w s k o t h e. acts_there k (value_of chip (reboot_work k)) e;
  shortens = shortens;
  cleans = λ k x. never_clean (reboot_work k) k (reboot_takes k x);
}
  where
    own : (k : Rebooting) → is_shared (reboot_work k) || owns (reboot_work k) ≡ true
    own Reset = refl

    turns : (k : Rebooting) (x : ℕ) → TurnsTo reboot_bodies 16 k (reboot_takes k x)
    turns Reset x = omega arith

    stays : (below : Reservations) (a b : Chip) (w w1 : World) (s : State) (k : Rebooting) (o : Origin Call) (t : FrameHistory) → place_at (reboot_bodies.assertion k) below (basis.foot a) w s o t → place_at (reboot_bodies.assertion k) below (basis.foot b) w1 s o t
    stays below a b w w1 s Reset o t h = h

    acts_there : (k : Rebooting) (x : ℕ) → (reboot_takes k x).1.event ≡ None → (resets_chip (reboot_work k) ≡ false) × (begins_word (reboot_work k) ≡ false)
    acts_there Reset x e = absurd (cc)

    shortens : (k : Rebooting) (x : ℕ) → Shortens reboot_bodies.fuel k (reboot_takes k x)
    shortens Reset x = omega arith

-- ---- the driver

-- what lets a call of the section begin holds nothing of it
free_by : (n v : ℕ) (chip : Chip) (below : Reservations) → AllRight chip below → AllLet setting (class_of (Fill n v)) below → Free n below
free_by n v chip [] right let_all = tt
free_by n v chip (h ∷ hs) right let_all = (one h.what h.by right.0 let_all.0, free_by n v chip hs right.1 let_all.1)
  where
    one : (x : Reservation) (o : Origin Call) → HeldRight chip (record h { by = o }) x → blocks (class_of (Fill n v)) (mark_of setting o) ≡ false → is_of n x ≡ false
    one (Part m u i) o e l = subst (λ q. blocks (class_of (Fill n v)) (mark_of setting q) ≡ false) e l
    one Promise o e l = refl
    one (Pinned b) o e l = refl

-- and what lets a taker begin has pinned nothing
unpinned_by : (chip : Chip) (below : Reservations) → AllRight chip below → AllLet setting (class_of Take) below → NonePinned below
unpinned_by chip [] right let_all = tt
unpinned_by chip (h ∷ hs) right let_all = (one h.what h.by right.0 let_all.0, unpinned_by chip hs right.1 let_all.1)
  where
    one : (x : Reservation) (o : Origin Call) → HeldRight chip (record h { by = o }) x → blocks (class_of Take) (mark_of setting o) ≡ false → is_pin x ≡ false
    one (Part m u i) o e l = refl
    one Promise o e l = refl
    one (Pinned b) o e l = let k : blocks (class_of Take) (mark_of setting (Called Take)) ≡ false = subst (λ q. blocks (class_of Take) (mark_of setting q) ≡ false) e.0 l in absurd (cc)

module _ (below : Reservations) (chip : Chip) (w : World) (s : State) (h : Agrees below Settled chip w s) where
  fill_looks : (n v : ℕ) → AllLet setting (class_of (Fill n v)) below → (q : Bool) → nat_lt n 4 ≡ q → Decides toy below chip w s (Fill n v) (fill_looked n v q)
  fill_looks n v l true e = record {
    at = (begun (record { by = Called (Fill n v); what = Promise; acted = None }) below chip w s (record { section = n; value = v }) refl h, (Is_this_frame, grind (arith, nat_tests), free_by n v chip below h.right l));
    closed = refl;
    fuel = omega arith;
    room = omega arith;
  }
  fill_looks n v l false e = record {
    told = (fills_by s n v false).told;
    is = λ times. ap (λ x. Some (fills_by s n v x)) e;
    tells = (refl, refl, refl);
    reset = refl;
    polls = refl;
  }

  looks : (c : Call) → Beside setting (Called c) below → Decides toy below chip w s c (looked c (value_of chip (Load STATE)))
  looks (Fill n v) l = fill_looks n v l (nat_lt n 4) refl
  looks Ask l = record { at = (h, Is_this_frame); closed = refl; fuel = omega arith; room = omega arith }
  looks (Put v) l = record { at = (h, Is_this_frame); closed = refl; fuel = omega arith; room = omega arith }
  looks Take l = record { at = (h, (Is_this_frame, unpinned_by chip below h.right l)); closed = refl; fuel = omega arith; room = omega arith }
  looks Poll l = record { at = (h, Is_this_frame); closed = refl; fuel = omega arith; room = omega arith }
  looks Reboot l = record { at = (h, Is_this_frame); closed = refl; fuel = omega arith; room = omega arith }

bodies_right : AreEnding basis toy.bodies ends_with
bodies_right =
    let first = both_right basis fill_bodies ask_bodies fill_right ask_right in
    let kept = both_ending basis put_bodies take_bodies (λ k. ends_with (Second (First k))) put_right take_right in
    let others = both_right basis poll_bodies reboot_bodies poll_right reboot_right in
    both_ending basis (both fill_bodies ask_bodies) (both (both put_bodies take_bodies) (both poll_bodies reboot_bodies)) ends_with first (both_ending basis (both put_bodies take_bodies) (both poll_bodies reboot_bodies) (λ k. ends_with (Second k)) kept others)

-- it reads no high half, and sets no output
no_windows : (made : Move) → owns made ≡ true → is_windowed made ≡ false
no_windows (Read (TimerHigh c)) e = absurd (cc)
no_windows (Read (CaptureCountHigh c)) e = absurd (cc)
no_windows (Read (CaptureTimeHigh c)) e = absurd (cc)
no_windows (Read (SerialWait u)) e = absurd (cc)
no_windows (Write (PulseCommit c) v) e = absurd (cc)
no_windows (Write (PulseIdle c) v) e = absurd (cc)
no_windows _ e = refl

pub toy_right : AreEndingServices toy ends_with
toy_right = record {
  basis = basis_right;
  bodies = bodies_right;
  windows = free_windows toy bodies_right (λ k. refl) (λ o made h. no_windows made h);
  unseen = λ below chip w s k c h. tt;
  writes = no_duties toy (λ k c writes. tt) (λ c. refl);
  starts = no_units toy (λ w s l. refl);
  looks = λ below chip w s c can beside h. looks below chip w s h c beside;
  own_word = λ o. refl;
  word_there = omega arith;
  handled = λ line. refl;
  enters = λ line k e. absurd (cc);
  call_steps = λ c can. omega arith;
  call_window = λ c can. omega arith;
  line_steps = λ line k e. absurd (cc);
}

-- whatever runs above them, the frames of the module are right at each step, and at rest no unit waits
pub toy_lawful : IsLawful (services_driver toy) (short_move toy.word toy.bodies.work_of) (short_left toy.looked toy.bodies.takes) (ending_gave toy.looked toy.bodies.takes ends_with)
toy_lawful = services_lawful toy toy_right
