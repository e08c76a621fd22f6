-- What all handlers do alike: the look at the queue, and the serving of the oldest edge.
-- From DetectSteps, Steady.
-- Used by DetectRight, KeepRight, SampleRight.
use Rattle.std.proofs.Common.{◌≡◌, ◌+◌, ◌-◌, ◌*◌, ◌/◌, ◌%◌, ◌<◌, ◌≤◌, ◌^◌, ◌&&◌, ◌||◌, ◌==◌, [], ◌∷◌, ◌∙◌}
use Rattle.std.proofs.Common.{if◌then◌else◌}
use Rattle.icu_driver.specs.Terms
use Terms.{AllByRecursion, ap, arith, bit_of, Bool, Capture, capture_at, Channel, channel_of, channel_of_line, Chip, DevError, Edge, error_in, false, happens, icu_machine, IcuTable, IcuRepresents, IcuState, info_of, IsCourse, kinds_by, length, List, missed_after, nat_lt, nat_tests, None, not, Notice, NoticeKind, notices_in, notices_of, Option, outcome, ready, ready_by, refl, served, served_by, served_edge, Serves, settled, Some, subst, suc, sym, Told, true, waits, with_capture, World, ℕ}
use Rattle.icu_driver.specs.laws.{Base.{line, no_answer}, DetectSteps.{owed_if}, Steady.{oldest}}
use Rattle.chip_blocks.specs.declared.captures.capture.Edge as chip_edges

-- ---- the line of a channel

line_number : (c : ℕ) → 16 + c - 16 ≡ c
line_number c = omega arith

line_high : (c : ℕ) → nat_lt (16 + c) 16 ≡ false
line_high c = grind (arith, nat_tests)

line_channel : (d : IcuTable) (c : ℕ) → channel_of_line d (line c) ≡ channel_of d c
line_channel d c = ap (λ q. if q then None else channel_of d (16 + c - 16)) (line_high c) ∙ ap (λ n. channel_of d n) (line_number c)

line_ready : (d : IcuTable) (w : World) (s : IcuState) (c : ℕ) → ready d w s (line c) ≡ ready_by (channel_of d c) s c
line_ready d w s c = ap (λ z. ready_by z s (16 + c - 16)) (line_channel d c) ∙ ap (λ n. ready_by (channel_of d c) s n) (line_number c)

-- ---- the look at the queue

-- what the look tells of the oldest edge
pub info_empty : (e : chip_edges.Edge) (es : List chip_edges.Edge) → (info_of (e ∷ es) / 4 == 0) ≡ false
info_empty e es = by (bit_of e.rising + bit_of e.gap * 2) (length es)
  where
    by : (b n : ℕ) → ((b + suc n * 4) / 4 == 0) ≡ false
    by b n = let low : 0 < (b + suc n * 4) / 4 = omega arith in grind (arith, nat_tests)

pub info_rising : (r g : Bool) (n : ℕ) → ((bit_of r + bit_of g * 2 + n * 4) % 2 == 1) ≡ r
info_rising r g n = ap (λ z. z == 1) (even (bit_of r) (bit_of g) n) ∙ by r
  where
    even : (a b n : ℕ) → (a + b * 2 + n * 4) % 2 ≡ a % 2
    even a b n = omega arith

    by : (r : Bool) → (bit_of r % 2 == 1) ≡ r
    by true = refl
    by false = refl

pub info_gap : (r g : Bool) (n : ℕ) → ((bit_of r + bit_of g * 2 + n * 4) / 2 % 2 == 1) ≡ g
info_gap true true n = ap (λ z. z == 1) (odd n)
  where
    odd : (n : ℕ) → (1 + 2 + n * 4) / 2 % 2 ≡ 1
    odd n = omega arith
info_gap false true n = ap (λ z. z == 1) (odd n)
  where
    odd : (n : ℕ) → (0 + 2 + n * 4) / 2 % 2 ≡ 1
    odd n = omega arith
info_gap true false n = ap (λ z. z == 1) (odd n)
  where
    odd : (n : ℕ) → (1 + 0 + n * 4) / 2 % 2 ≡ 0
    odd n = omega arith
info_gap false false n = ap (λ z. z == 1) (odd n)
  where
    odd : (n : ℕ) → (0 + 0 + n * 4) / 2 % 2 ≡ 0
    odd n = omega arith

-- where no edge waits the line isn't ready
pub missed_here : (d : IcuTable) (w : World) (s : IcuState) (c : ℕ) (m : ℕ → Bool) → (capture_at s c).waiting ≡ [] → missed_after (icu_machine d) w s m (line c) ≡ true
missed_here d w s c m e = either (m (line c)) (not (ready d w s (line c))) (ap (λ q. not q) (line_ready d w s c ∙ idle (channel_of d c)))
  where
    either : (a b : Bool) → b ≡ true → a || b ≡ true
    either true b e = refl
    either false b e = e

    and_false : (a b : Bool) → b ≡ false → a && b ≡ false
    and_false true b e = e
    and_false false b e = refl

    idle : (k : Option Channel) → ready_by k s c ≡ false
    idle None = refl
    idle (Some k) = and_false s.initialised (waits (capture_at s c).waiting) (ap (λ es. waits es) e)

-- ---- the serving

-- an edge that waits is of a channel that is on, of an initialised module
pub waiting_on : (d : IcuTable) (chip : Chip) (w : World) (s : IcuState) (c : ℕ) (e : Edge) → c < 8 → IcuRepresents d settled chip w s → oldest (capture_at s c).waiting ≡ Some e → ((capture_at s c).on ≡ true) × (s.initialised ≡ true)
waiting_on d chip w s c e lt h is = by (capture_at s c).on refl
  where
    by : (q : Bool) → (capture_at s c).on ≡ q → ((capture_at s c).on ≡ true) × (s.initialised ≡ true)
    by true i = (i, ((h.block c lt).starts i).0)
    by false i = absurd (let f = sym is ∙ ap (λ es. oldest es) ((h.course c lt).0.off i).0 in cc)

-- the edges behind the oldest one
pub record Split (e : Edge) (es : List Edge) : Type 0 where
  pub rest : List Edge
  pub is : es ≡ e ∷ rest

pub split : (e : Edge) (es : List Edge) → oldest es ≡ Some e → Split e es
split e [] i = absurd (cc)
split e (x ∷ xs) i = record { rest = xs; is = cc }

pub served_here : (d : IcuTable) (w : World) (s : IcuState) (c received : ℕ) (k : Channel) (e : Edge) (es : List Edge) → channel_of d c ≡ Some k → s.initialised ≡ true → (capture_at s c).waiting ≡ e ∷ es → happens d w s (Serves (line c) received) ≡ Some (outcome (with_capture s c (served_by k.mode k e (record (capture_at s c) { waiting = es }))) (record { answer = no_answer; error = None; notices = notices_of c (kinds_by k.mode (record (capture_at s c) { waiting = es })) }))
served_here d w s c received k e es known on is =
    ap (λ q. if q then Some (served d s (16 + c - 16)) else None) (line_ready d w s c ∙ (ap (λ z. ready_by z s c) known ∙ (ap (λ q. q && waits (capture_at s c).waiting) on ∙ ap (λ xs. waits xs) is)))
    ∙ (ap (λ n. Some (served d s n)) (line_number c)
    ∙ (ap (λ z. Some (served_edge z s c (capture_at s c).waiting)) known
    ∙ ap (λ xs. Some (served_edge (Some k) s c xs)) is))

pub popped_course : (k : Option Channel) (x : Capture) (e : Edge) (es : List Edge) → x.waiting ≡ e ∷ es → IsCourse k x → IsCourse k (record x { waiting = es })
popped_course k x e es is h =
    let few : length (e ∷ es) ≤ 4 = subst (λ xs. length xs ≤ 4) is h.room in
    record {
      room = omega (arith, few);
      times = (subst (λ xs. AllByRecursion (λ (e : Edge). e.time < 2 ^ 32) xs) is h.times).1;
      counter = λ f. absurd (let g = sym is ∙ (h.counter f).0 in cc);
      off = λ f. absurd (let g = sym is ∙ (h.off f).0 in cc);
      start = h.start;
      count = h.count;
      unstarted = h.unstarted;
      uncounted = h.uncounted;
    }

-- ---- what it tells

abbrev pub told_of : Bool → NoticeKind → ℕ → Told
told_of q kind c = record { answer = no_answer; error = None; notices = notices_of c (if q then kind ∷ [] else []) }

pub owes_notice : (q : Bool) (kind : NoticeKind) (c : ℕ) → ◌≡◌ {A = List Notice} (notices_of c (if q then kind ∷ [] else [])) (notices_in (owed_if q kind c))
owes_notice true kind c = refl
owes_notice false kind c = refl

pub owes_no_error : (q : Bool) (kind : NoticeKind) (c : ℕ) → ◌≡◌ {A = Option DevError} (error_in (owed_if q kind c)) None
owes_no_error true kind c = refl
owes_no_error false kind c = refl
