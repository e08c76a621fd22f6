-- Where nothing is under way few words tell the agreement, and a reset leaves the module as the machine's first state.
-- From hardware.HardwareMoves, words.Cases.
-- Used by services.DeInitRight, adc_driver: services.InitActRight, adc_driver: services.InitWords and 2 more.
use Rattle.std.proofs.Common.{◌≡◌, ◌+◌, ◌<◌, ◌≤◌, ◌==◌, [], ◌∷◌, ◌∙◌}
use Rattle.adc_groups.specs.Terms
use Terms.{AdcState, AdcTable, Agrees, all_groups, AllByRecursion, AllRight, ap, arith, Backed, BanksAgree, bit_of}
use Terms.{Chip, chosen_of, Converters, false, first_held, first_state, Group, group_at, group_of, GroupState, has_bit}
use Terms.{has_bit-zero, Idle, inputs_of, is_clearing, is_linear_stream, is_owed, is_some, IsBlock, IsOver, IsSound}
use Terms.{length, List, listener, mark_at, nat_tests, None, Option, own_of, place_value, put_of, Reason, refl}
use Terms.{Reservations, reset_chip, rests, result_word, ResultBuffer, round_at, RoundAgrees, Rounds, rounds_of, Sample}
use Terms.{samples_of, Settled, slice_get, slice_index-blank, slice_index_or, Some, some_hold, SoundGroup, stands-agree}
use Terms.{stands-reset, StandsIn, STATE, subst, suc, sym, take_of, trio_of, true, unit_at, untouched, unused, whether}
use Terms.{Word, word_at, word_number, word_of, World, ℕ}
use Rattle.adc_groups.specs.laws.hardware.HardwareMoves.{none_listens}
use Rattle.word_shapes.specs.TripleBuffer.{listed}

-- ---- words

-- a word of three banks is behind the first eight of its group
pub trio_past : (r : Rounds) (k : ℕ) → own_of (trio_of r) k ≡ true → STATE + r.start + 7 ≤ k
trio_past r k own = whether (k == STATE + r.start + 7)
    (λ e. let same : k ≡ STATE + r.start + 7 = grind (arith, nat_tests) in omega (arith, same))
    (λ e. let low : STATE + r.start + 32 ≤ k = grind (arith, nat_tests) in omega (arith, low))

-- a place of a user's buffer is behind the words of all groups
pub result_past : (g : ℕ) (b : ResultBuffer) (p : ℕ) → STATE + 8192 ≤ result_word g b p
result_past g ResultBuffer.Zero p = omega arith
result_past g ResultBuffer.One p = omega arith

-- ---- states

-- no unit has a round, and no trigger is enabled
pub record IsQuiet (s : AdcState) : Type 0 where
  pub rounds : (u : ℕ) → u < 2 → round_at s u ≡ None
  pub triggers : (g : ℕ) → (group_at s g).trigger ≡ false

-- what changes, and what stays
pub record Rests (d : AdcTable) (before after : Reservations) (a b : Chip) (w : World) (s t : AdcState) : Type 0 where
  pub was : IsQuiet s
  pub idle : (g : ℕ) → (group_at t g).status ≡ Idle
  pub free : (u : ℕ) → u < 2 → round_at t u ≡ None
  pub sound : IsSound d w t
  pub results : (g : ℕ) (n : ResultBuffer) (p : ℕ) → place_value t g n p ≡ place_value s g n p
  pub outside : StandsIn b w
  pub block : b.converters ≡ a.converters
  pub state : word_of b STATE ≡ bit_of t.initialised
  pub banks : (g j : ℕ) → is_some (group_of d g) ≡ true → own_of (trio_of (rounds_of d g)) j ≡ true → word_of b j ≡ word_of a j
  pub places : (g : ℕ) (n : ResultBuffer) (p : ℕ) → word_of b (result_word g n p) ≡ word_of a (result_word g n p)
  pub puts : (g : ℕ) → first_held (put_of d g) after ≡ first_held (put_of d g) before
  pub takes : (g : ℕ) → first_held (take_of g) after ≡ first_held (take_of g) before
  pub owed : (g : ℕ) (n : ResultBuffer) (p : ℕ) → some_hold (is_owed g n p) before ≡ false
  pub right : AllRight d b w t after
  pub backed : Backed after
  pub settled : t.initialised ≡ true → Settled d after b w t
  pub left : t.initialised ≡ false → some_hold is_clearing after ≡ false → (g : ℕ) → is_some (group_of d g) ≡ true → word_of b (word_number d (Word.Chosen g)) ≡ chosen_of (group_at t g).chosen

module _ (d : AdcTable) (before after : Reservations) (a b : Chip) (w : World) (s t : AdcState) (h : Agrees d before a w s) (r : Rests d before after a b w s t) where
  deaf : (g : ℕ) → (group_at t g).trigger ≡ false
  deaf g = (r.sound.groups g).trigger (r.idle g)

  none_heard : (i : ℕ) → is_some (listener d t i) ≡ false
  none_heard i = ap (λ o. is_some o) (none_listens d t i all_groups deaf)

  none_before : (i : ℕ) → is_some (listener d s i) ≡ false
  none_before i = ap (λ o. is_some o) (none_listens d s i all_groups r.was.triggers)

  -- nothing is marked of an input that no group listens to
  unmarked : (x : AdcState) (i : ℕ) → (mark_at x i ≡ true → is_some (listener d x i) ≡ true) → is_some (listener d x i) ≡ false → mark_at x i ≡ false
  unmarked x i heard none = whether (mark_at x i) (λ e. absurd (let on = heard e in cc)) (λ e. e)

  over : (u : ℕ) → u < 2 → RoundAgrees d b.converters w (unit_at b.converters u) (round_at t u)
  over u lt = subst (λ q. RoundAgrees d b.converters w (unit_at b.converters u) q) (sym (r.free u lt))
      (subst (λ (c : Converters). IsOver (unit_at c u).round c.time) (sym r.block) (subst (λ q. RoundAgrees d a.converters w (unit_at a.converters u) q) (r.was.rounds u lt) (h.rounds u lt)))

  banks : (g : ℕ) → is_some (group_of d g) ≡ true → BanksAgree d after (word_of b) t g
  banks g there =
      let x = h.banks g there in
      record {
        banks = x.banks;
        stands = stands-agree (trio_of (rounds_of d g)) (word_of a) (word_of b) x.banks (λ j own. sym (r.banks g j there own)) x.stands;
        newest = λ e. absurd (e (r.idle g));
        put = x.put ∙ sym (r.puts g);
        take = x.take ∙ sym (r.takes g);
      }

  pub rests_agree : Agrees d after b w t
  rests_agree = record {
    sound = r.sound;
    outside = r.outside;
    state = r.state;
    right = r.right;
    banks = banks;
    block = subst (λ c. IsBlock c w) (sym r.block) h.block;
    rounds = over;
    triggers = record {
      gates = λ i lt. ap (λ (c : Converters). has_bit c.gates i) r.block ∙ (h.triggers.gates i lt ∙ (none_before i ∙ sym (none_heard i)));
      flags = λ i lt. ap (λ (c : Converters). has_bit c.pulses i) r.block ∙ (h.triggers.flags i lt ∙ (unmarked s i (h.sound.marks i) (none_before i) ∙ sym (unmarked t i (r.sound.marks i) (none_heard i))));
      others = subst (λ (c : Converters). c.pulses < 16) (sym r.block) h.triggers.others;
    };
    places = λ g n p lt free. r.places g n p ∙ (h.places g n p lt (r.owed g n p) ∙ sym (r.results g n p));
    backed = r.backed;
    settled = r.settled;
    left = r.left;
  }

-- ---- A reset leaves the module as the machine's first state, whatever is outside.

-- no sample is of a later time
abbrev pub AreOfPast : Chip → World → Type 0
AreOfPast chip w = AllByRecursion (λ (x : Sample). x.since ≤ chip.converters.time) w.samples

pub of_past : (chip : Chip) (w : World) → StandsIn chip w → AreOfPast chip w
of_past chip w stands = subst (λ t. AllByRecursion (λ (x : Sample). x.since ≤ t) w.samples) (sym (stands.together.converters ∙ stands.now)) stands.past

-- an idle group of which nothing goes on
pub idle_group : (k : Option Group) (x : GroupState) → x.status ≡ Idle → x.trigger ≡ false → (k ≡ None → x ≡ untouched)
    → (is_linear_stream k ≡ true → length x.rounds ≤ samples_of k)
    → ((r : List ℕ) (i : ℕ) → slice_get x.rounds i ≡ Some r → length r ≡ length (inputs_of k)) → SoundGroup k false x
idle_group k x idle off none linear whole = record {
  configured = none;
  chosen = λ e. absurd (e idle);
  turn = λ e. refl;
  trigger = λ e. off;
  input = λ e. absurd (cc);
  going = λ e. absurd (cc);
  rounds = λ e. absurd (cc);
  stream = λ e. absurd (cc);
  linear = linear;
  lasts = λ e. absurd (cc);
  whole = whole;
}

-- a group that nothing was asked of
pub untouched_sound : (k : Option Group) → SoundGroup k false untouched
untouched_sound k = idle_group k untouched refl refl (λ e. refl) (λ e. omega arith) (λ r i e. absurd (cc))

-- a unit that is unused has no round
over_first : (now : ℕ) → IsOver unused.round now
unfolding unused
over_first now = (0, refl, omega arith)

over_units : (now : ℕ) (u : ℕ) → u < 2 → IsOver (slice_index_or (unused ∷ unused ∷ []) u unused).round now
over_units now (suc (suc u)) lt = absurd (omega (arith, lt))
over_units now _ lt = over_first now

-- and all its list registers
list_first : length unused.list ≡ 8
unfolding unused
list_first = refl

list_units : (u : ℕ) → u < 2 → length (slice_index_or (unused ∷ unused ∷ []) u unused).list ≡ 8
list_units (suc (suc u)) lt = absurd (omega (arith, lt))
list_units _ lt = list_first

first_banks : (d : AdcTable) (g : ℕ) (word : ℕ → ℕ) → ((k : ℕ) → word k ≡ 0) → BanksAgree d [] word first_state g
first_banks d g word none =
    let t = trio_of (rounds_of d g) in
    record {
      banks = record { bank = word t.control; newest = listed word (word_at t (word t.control) 0) t.len; put = None; take = None };
      stands = rests t word (let z = none t.control in omega (arith, z));
      newest = λ e. absurd (e refl);
      put = refl;
      take = refl;
    }

none_heard_first : (d : AdcTable) (i : ℕ) → is_some (listener d first_state i) ≡ false
none_heard_first d i = ap (λ o. is_some o) (none_listens d first_state i all_groups (λ g. refl))

pub reset_agrees : (d : AdcTable) (chip : Chip) (w : World) (reason : Reason) → StandsIn chip w → AreOfPast chip w → Agrees d [] (reset_chip chip reason) w first_state
reset_agrees d chip w reason stands past = record {
  sound = record {
    groups = λ g. untouched_sound (group_of d g);
    waits = λ g q e. absurd (cc);
    runs = λ u r e. absurd (cc);
    marks = λ i e. absurd (cc);
    hears = λ g e i. absurd (cc);
    rest = λ e g. (refl, λ u. refl);
    off = λ e i. refl;
  };
  outside = stands-reset chip w reason stands;
  state = slice_index-blank STATE;
  right = tt;
  banks = λ g there. first_banks d g (word_of (reset_chip chip reason)) (λ k. slice_index-blank k);
  block = record { all = refl; lists = list_units; past = omega arith; samples = past };
  rounds = λ u lt. over_units chip.converters.time u lt;
  triggers = record {
    gates = λ i lt. has_bit-zero i ∙ sym (none_heard_first d i);
    flags = λ i lt. has_bit-zero i;
    others = omega arith;
  };
  places = λ g b p lt free. slice_index-blank (result_word g b p);
  backed = tt;
  settled = λ e. absurd (cc);
  left = λ off free g there. slice_index-blank (word_number d (Word.Chosen g));
}
