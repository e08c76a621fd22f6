-- A cell is lawful, and two cells of different words are apart.
use Rattle.std.proofs.Common.{◌≡◌, ℕ, ◌+◌, ◌<◌, ◌≤◌, ◌≢◌, ◌==◌, ◌||◌, Bool, true, false, length, take, drop, List, [], ◌∷◌, ◌++◌, Some, refl, sym, ◌∙◌, ap, subst, arith}
use Rattle.std.specs.Prelude.{slice_index}
use Rattle.std.proofs.lemmas.Bool.Decides.{nat_tests}
use Rattle.std.proofs.lemmas.List.{get_or-set_same, get_or_append_left, get_or-take, length-append, length-take-le}
use Rattle.mcal_base.specs.facts.Options.{some_same}
use Rattle.mcal_base.specs.facts.Numbers.{eq_is, eq_other, eq_self}
use Rattle.chip_model.specs.Chip.{Chip, chip_after, value_of, word_of, happened, is_masked, overwritten, source_length}
use Rattle.chip_model.specs.Histories.{Made, Hardware, WasReset, HasAll, FillsThere, LeavesWord}
use Rattle.chip_model.proofs.HistoryLaws.{word-left}
use Rattle.chip_model.proofs.WholeLaws.{all-step}
use Rattle.chip_model.proofs.WordLaws.{slice_index-blank}
use Rattle.mcal_base.specs.Layout.{place_of}
use Rattle.mcal_base.specs.declared.layout.Array.TheVariants.{Source}
use Rattle.mcal_base.specs.declared.layout.TheConstants.{SOURCES}
use Rattle.mcal_base.specs.declared.directive.Order.{Order}
use Rattle.mcal_base.specs.declared.directive.Order.TheVariants.{Fill}
use Rattle.mcal_base.specs.declared.directive.Reason.TheVariants.{PowerOn}
use Rattle.mcal_base.specs.declared.moves.Move.{Move}
use Rattle.mcal_base.specs.declared.moves.Move.TheVariants.{Load, Store}
use Rattle.mcal_base.specs.Reach.{CanApply}
use Rattle.run_model.specs.declared.class.Tag.{Tag}
use Rattle.run_model.specs.World.{World}
use Rattle.run_model.specs.Machine.{ErrorLeaves, outcome, tells_nothing}
use Rattle.run_model.specs.Frame.{Origin, Called, Open, opened, is_shared, is_wait}
use Rattle.step_runner.specs.Driver.{origins_in, IsFree, IsLawful, KeepsStep, stepped}
use Rattle.step_runner.specs.Union.{AreApart, union_of}
use Rattle.step_runner.proofs.Apart.{apart-second}
use Rattle.driver_examples.specs.declared.three.cell.CellCall.{CellCall}
use Rattle.driver_examples.specs.declared.three.cell.CellCall.TheVariants.{Get, Put}
use Rattle.driver_examples.specs.declared.three.cell.CellFrame.{CellFrame}
use Rattle.driver_examples.specs.three.Cell.{cell_move, call_move, cell_gave, answer_of, names, cell_setting, AllNew, No_frame, New_frame, CellRelates, cell}

differs : (j k : ℕ) → (j == k) ≡ false → k ≢ j
differs j k e = λ i. absurd (grind (arith, nat_tests))

-- ---- words

leaves : (word : ℕ) (made : Move) (received : ℕ) → names word made ≡ false → LeavesWord word (Made made received)
leaves word (Store k v) received h = λ e. differs k word h (sym e)
leaves word _ received h = tt

-- a move that doesn't name the word leaves it
word_left : (chip : Chip) (word : ℕ) (made : Move) (received : ℕ) → names word made ≡ false → word_of (chip_after chip made received) word ≡ word_of chip word
word_left chip word made received h = word-left word chip (Made made received) (leaves word made received h)

-- and so does what is written from a later word on
below_written : (words xs : List ℕ) (at word : ℕ) → at ≤ length words → word < at → slice_index (overwritten words at xs) word ≡ slice_index words word
below_written words xs at word there below =
    let front : length (take at words) ≡ at = length-take-le at words there in
    let inside : word < length (take at words ++ xs) = omega (arith, length-append (take at words) xs, front, below) in
    get_or_append_left (take at words ++ xs) (drop (at + length xs) words) 0 word inside
    ∙ (get_or_append_left (take at words) xs 0 word (omega (arith, front, below)) ∙ get_or-take at words word 0 below)

-- a fill that may come is to a source array that there is
fills_there : (word : ℕ) (masked : Bool) (w : World) (s : ℕ) (origins : List (Origin CellCall)) (order : Order) → IsFree (cell_setting word) masked w s origins order → FillsThere (Hardware order)
fills_there word masked w s origins (Fill channel ws) free = free.1
fills_there word masked w s origins _ free = tt

-- the hardware leaves the words below the source arrays
word_event : (chip : Chip) (word : ℕ) (order : Order) → word < SOURCES → HasAll chip → FillsThere (Hardware order) → word_of (happened chip order) word ≡ word_of chip word
word_event chip word (Fill channel ws) fits all there =
    let start = place_of (Source channel) 0 in
    let size = all.words in
    below_written chip.words (take (source_length chip channel) ws) start word (omega (arith, size, there)) (omega (arith, fits))
word_event chip word order fits all there = word-left word chip (Hardware order) tt

-- what names a word leaves the rate
rate_left : (chip : Chip) (word : ℕ) (made : Move) (received : ℕ) → names word made ≡ true → (chip_after chip made received).clock.rate ≡ chip.clock.rate
rate_left chip word (Load k) received h = refl
rate_left chip word (Store k v) received h = refl
rate_left chip word _ received h = cc

names_plain : (word : ℕ) (made : Move) → names word made ≡ true → is_shared made ≡ false
names_plain word (Load k) h = refl
names_plain word (Store k v) h = refl
names_plain word _ h = cc

-- ---- the laws

call_rate : (chip : Chip) (word : ℕ) (c : CellCall) (received : ℕ) → (chip_after chip (call_move word c) received).clock.rate ≡ chip.clock.rate
call_rate chip word Get received = refl
call_rate chip word (Put v) received = refl

call_there : (word : ℕ) (c : CellCall) → word < SOURCES → CanApply (call_move word c)
call_there word Get h = omega (arith, h)
call_there word (Put v) h = omega (arith, h)

call_own : (word : ℕ) (c : CellCall) → is_shared (call_move word c) || names word (call_move word c) ≡ true
call_own word Get = eq_self word
call_own word (Put v) = eq_self word

module _ (word : ℕ) (fits : word < SOURCES) where
  step_of : (chip : Chip) (w : World) (c : CellCall) (tag : Tag) (ps : List (CellFrame × Open CellCall)) (s received : ℕ) → HasAll chip → word_of chip word ≡ s → AllNew word ps → let f : CellFrame = record { word = word; call = c } in let made = cell_move f in let value = value_of chip made in KeepsStep (cell word) (record { chip = chip; world = w; state = s; opens = []; steps = 0 }) f (opened (Called c) tag) f (stepped made value received (cell_gave f value)) (λ s1 o1. CellRelates word (chip_after chip made received) w ps s1)
  step_of chip w Get tag ps s received all is new = record {
    event = (refl, tt, refl);
    sends = tt;
    halves = tt;
    together = tt;
    errors = tt;
    move = tt;
    shows = tt;
    ends = ((ap (λ x. Some (answer_of Get x)) (sym is), refl), refl, refl, refl, refl);
    writes = refl;
    starts = refl;
    own = eq_self word;
    reset = refl;
    stays = λ e. cc;
    fuel = omega arith;
    room = λ e. cc;
    kept = record { all = all; value = is; frames = new };
  }
  step_of chip w (Put v) tag ps s received all is new = record {
    event = (refl, tt, refl);
    sends = tt;
    halves = tt;
    together = tt;
    errors = tt;
    move = tt;
    shows = tt;
    ends = ((refl, refl), refl, refl, refl, refl);
    writes = refl;
    starts = refl;
    own = eq_self word;
    reset = refl;
    stays = λ e. cc;
    fuel = omega arith;
    room = λ e. cc;
    kept = record { all = all-step chip (Made (Store word v) received) tt all; value = let size = all.words in get_or-set_same chip.words word v 0 (omega (arith, fits, size)); frames = new };
  }

  steps_of : (chip : Chip) (w : World) (f : CellFrame) (o : Open CellCall) (ps : List (CellFrame × Open CellCall)) (s received : ℕ) → HasAll chip → word_of chip word ≡ s → AllNew word ((f, o) ∷ ps) → let made = cell_move f in let value = value_of chip made in KeepsStep (cell word) (record { chip = chip; world = w; state = s; opens = []; steps = 0 }) f o f (stepped made value received (cell_gave f value)) (λ s1 o1. CellRelates word (chip_after chip made received) w ps s1)
  steps_of chip w f o ps s received all is (New_frame c tag qs new) = step_of chip w c tag qs s received all is new

  there_of : (f : CellFrame) (o : Open CellCall) (ps : List (CellFrame × Open CellCall)) → AllNew word ((f, o) ∷ ps) → CanApply (cell_move f)
  there_of f o ps (New_frame c tag qs new) = call_there word c fits

  own_of : (f : CellFrame) (o : Open CellCall) (ps : List (CellFrame × Open CellCall)) → AllNew word ((f, o) ∷ ps) → is_shared (cell_move f) || names word (cell_move f) ≡ true
  own_of f o ps (New_frame c tag qs new) = call_own word c

  -- it waits for nothing, and never closes the mask
  waits_of : (f : CellFrame) (o : Open CellCall) (ps : List (CellFrame × Open CellCall)) → AllNew word ((f, o) ∷ ps) → is_wait (cell_move f) ≡ true → o.inside ≡ false
  waits_of f o ps (New_frame c tag qs new) waits = refl

  open_of : (f : CellFrame) (o : Open CellCall) (ps : List (CellFrame × Open CellCall)) → AllNew word ((f, o) ∷ ps) → o.inside ≡ true → 0 < 0
  open_of f o ps (New_frame c tag qs new) closed = cc

  pub cell_lawful : IsLawful (cell word) cell_move (λ f value. f) cell_gave
  cell_lawful = record {
    starts = λ chip w wired outside. record { all = all-step chip (WasReset PowerOn) tt outside.all; value = slice_index-blank word; frames = No_frame };
    begins = λ chip w ps s c level can shut out may above h. record { all = h.all; value = h.value; frames = New_frame c _ ps h.frames };
    enters = λ chip w ps s line f there shut pending out under h. cc;
    steps = λ chip w f o ps s received come few masked out h. steps_of chip w f o ps s received h.all h.value h.frames;
    there = λ chip w f o ps s h. there_of f o ps h.frames;
    own = λ chip w f o ps s h. own_of f o ps h.frames;
    opens = λ chip w f o ps s h. waits_of f o ps h.frames;
    lasts = λ f. omega arith;
    roomy = λ chip w f o ps s h closed. open_of f o ps h.frames closed;
    moves = λ chip w ps s order free out h. let there = fills_there word (is_masked chip) w s (origins_in ps) order free in (outcome s tells_nothing, refl, record { all = all-step chip (Hardware order) there h.all; value = word_event chip word order fits h.all there ∙ h.value; frames = h.frames });
    resets = λ chip w ps s reason h. (outcome 0 tells_nothing, refl, record { all = all-step chip (WasReset reason) tt h.all; value = slice_index-blank word; frames = No_frame });
    undisturbed = λ chip w ps s made received none out h. record { all = all-step chip (Made made received) tt h.all; value = word_left chip word made received (none (Called Get)) ∙ h.value; frames = h.frames };
    may_owns = λ origin made h. h;
    owns_plain = λ origin made h. names_plain word made h;
    loads = λ origin value h. h;
    expiry = λ chip w ps s has osc h. cc;
    unwatched = λ w s none. refl;
    owns_called = λ line made h. (Get, h);
    enables = λ origin bits line h apart. cc;
    used_lines = λ line h. cc;
    due_used = λ chip w ps s line out h due. cc;
    due = λ chip w ps s line shut out h due. cc;
    unused = λ chip w ps s line shut out h mine free. cc;
    rests = λ chip w s line mine h. cc;
    unmasked = λ chip w ps s shut out h. h.value;
    rest = λ chip w s h. h.value;
    waits = λ chip w s u h. refl;
    error_leaves = λ w s c times out e. subst (λ o. ErrorLeaves s o) (some_same e) (λ some. absurd (cc));
    count_first = refl;
    count_happens = λ w s h out e. omega arith;
    count_moves = λ w s order out e. omega arith;
    count_resets = λ w s reason out e. omega arith;
    rate_starts = refl;
    rate = λ chip w f o ps s received come few masked out h is. call_rate chip f.word f.call received ∙ is;
    rate_moves = λ w s order out e. refl;
    rate_resets = λ chip w s reason out e. refl;
    handled = λ line. refl;
    call_fuel = λ c can. omega arith;
    line_fuel = λ line f e. cc;
  }

-- ---- three cells

names_apart : (j k : ℕ) (made : Move) → j ≢ k → names j made ≡ true → names k made ≡ false
names_apart j k (Load i) apart h = eq_other i k (subst (λ x. x ≢ k) (sym (eq_is i j h)) apart)
names_apart j k (Store i v) apart h = eq_other i k (subst (λ x. x ≢ k) (sym (eq_is i j h)) apart)
names_apart j k _ apart h = cc

pub cells_apart : (j k : ℕ) → j ≢ k → AreApart (cell j) (cell k)
cells_apart j k apart = record {
  may = λ p q made h. names_apart j k made apart h;
  may_other = λ p q made h. names_apart k j made (λ e. apart (sym e)) h;
  polls = λ w s c. refl;
  polls_other = λ w t c. refl;
  starts = λ w s t u made_by other r some. refl;
  aborts = λ w s t u some. refl;
  steady = λ chip q made received h. rate_left chip k made received h;
}

pub three_fit : (0 < SOURCES) → (1 < SOURCES) → (2 < SOURCES) → (union_of (cell 0) (union_of (cell 1) (cell 2))).fits
three_fit a b c = (a, (b, c, cells_apart 1 2 (λ e. cc)), apart-second (cell 0) (cell 1) (cell 2) (cells_apart 0 1 (λ e. cc)) (cells_apart 0 2 (λ e. cc)))
