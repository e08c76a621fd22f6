-- What a move, a reset and a frame that goes on leave of what is needed to go on.
use Rattle.std.proofs.Common.{◌≡◌, ℕ, zero, suc, ◌+◌, ◌*◌, ◌^◌, ◌<◌, ◌≤◌, List, [], ◌∷◌, length, Option, Some, None, refl, sym, ◌∙◌, ap, subst, arith, mul-le-mul_left}
use Rattle.std.specs.Prelude.{slice_index, slice_index_or, slice_set}
use Rattle.chip_model.specs.Chip.{CanHappen, Chip, chip_after, happened, incoming_at, now_of, reset_chip, source_length}
use Rattle.chip_model.specs.Histories as histories
use Rattle.chip_model.proofs.HistoryLaws.{level_leaves, now-move, osc-move, wiring-left}
use Rattle.mcal_base.specs.declared.directive.Order.{Order}
use Rattle.mcal_base.specs.declared.directive.Order.TheVariants as orders
use Rattle.mcal_base.specs.declared.directive.Reason.{Reason}
use Rattle.mcal_base.specs.declared.moves.Move.{Move}
use Rattle.mcal_base.specs.declared.moves.Move.TheVariants.{Write}
use Rattle.mcal_base.specs.declared.register.Reg.TheVariants.{PulseCommit}
use Rattle.run_model.specs.Frame.{Origin, time_or}
use Rattle.run_model.specs.World.{World, world_after}
use Rattle.script_runner.specs.Standing.{words_by}
use Rattle.script_runner.proofs.Given.{room_event, room_move}
use Rattle.audit_base.specs.Outside.{ArePast, CanMove, IsThere, IsWorld}
use Rattle.audit_frames.specs.AccessRules.{committed_after}
use Rattle.audit_frames.specs.FrameRules.{committed_at, fresh}
use Rattle.audit_frames.specs.Kept.{Kept}
use Rattle.audit_frames.specs.declared.terms.Terms.{Terms}
use Rattle.audit_base.specs.declared.outside.Outside.{Outside}
use Rattle.audit_subject.specs.Tellings.{times_at}
use Rattle.audit_subject.proofs.TellLaws.{time_of}
use Rattle.report_auditor.specs.Auditing.{AllCommitted, Auditing, HasCommitted, HasTime, IsReady, IsSound, NamesThere, seeing}
use Rattle.report_auditor.specs.Deeds.{devices_after, ticks_by}
use Rattle.report_auditor.specs.declared.seen.Seen.{Seen}

-- ---- times of commits

same_or_earlier : (now time : ℕ) → Some now ≡ Some time → time ≤ now
same_or_earlier now time e = let same : now ≡ time = cc in omega (arith, same)

set_past : (xs : List (Option ℕ)) (k c now time : ℕ) → ((i t : ℕ) → slice_index_or xs i None ≡ Some t → t ≤ now) → slice_index_or (slice_set xs k (Some now)) c None ≡ Some time → time ≤ now
set_past [] k c now time h e = h c time e
set_past (x ∷ xs) zero zero now time h e = same_or_earlier now time e
set_past (x ∷ xs) zero (suc c) now time h e = h (suc c) time e
set_past (x ∷ xs) (suc k) zero now time h e = h zero time e
set_past (x ∷ xs) (suc k) (suc c) now time h e = set_past xs k c now time (λ i t at. h (suc i) t at) e

-- a move commits at no later time
pub commits_past : (times : List (Option ℕ)) (made : Move) (now : ℕ) → ((i t : ℕ) → slice_index_or times i None ≡ Some t → t ≤ now)
    → (i t : ℕ) → slice_index_or (committed_after times made now) i None ≡ Some t → t ≤ now
commits_past times (Write (PulseCommit k) v) now h i t e = set_past times k i now t h e
commits_past times _ now h i t e = h i t e

time_past : (x : Option ℕ) (now : ℕ) → ((t : ℕ) → x ≡ Some t → t ≤ now) → time_or now x ≤ now
time_past None now h = omega arith
time_past (Some t) now h = h t refl

-- so the times that an act brings are past
pub times_past : (k : Kept) (made : Move) (now : ℕ) → HasCommitted now k → ArePast (times_at (committed_at k made now) now) now
times_past k made now h c lt =
    subst (λ n. n ≤ now) (sym (time_of (committed_at k made now) now c lt)) (time_past (slice_index_or (committed_at k made now) c None) now (λ t e. commits_past k.accesses.committed made now h c t e))

-- and they stay past
later : (a b c : ℕ) → a ≤ b → b ≤ c → a ≤ c
later a b c h i = omega (arith, h, i)

pub still_past : (ks : List Kept) (now time : ℕ) → now ≤ time → AllCommitted now ks → AllCommitted time ks
still_past [] now time le h = tt
still_past (k ∷ ks) now time le h = (λ c t e. later t now time (h.0 c t e) le, still_past ks now time le h.1)

-- ---- the chip

-- Times, the room for words that come in, and the wiring are as they were.
pub record Keeps (c d : Chip) : Type 0 where
  pub osc : d.clock.osc ≡ c.clock.osc
  pub time : now_of d ≡ now_of c
  pub room : (u : ℕ) → (incoming_at d u).room ≡ (incoming_at c u).room
  pub sources : (k : ℕ) → source_length d k ≡ source_length c k

pub move_keeps : (c : Chip) (made : Move) (received : ℕ) → Keeps c (chip_after c made received)
move_keeps c made received = record {
  osc = osc-move c made received;
  time = now-move c made received;
  room = λ u. room_move c made received u;
  sources = λ k. ap (λ w. slice_index w.sources k) (wiring-left c (histories.Made made received));
}

pub reset_keeps : (c : Chip) (reason : Reason) → Keeps c (reset_chip c reason)
reset_keeps c reason = record { osc = refl; time = refl; room = λ u. refl; sources = λ k. refl }

-- ---- the hardware

osc_goes : (c : Chip) (w : World) (rate : ℕ) (order : Order) → c.clock.osc ≡ w.osc → (happened c order).clock.osc ≡ (world_after w rate order).osc
osc_goes c w rate (orders.Tick n) e = ap (λ t. t + n) e
osc_goes c w rate (orders.Level p v) e = level_leaves (λ d. d.clock.osc) c p v refl ∙ e
osc_goes c w rate (orders.Analog i v) e = e
osc_goes c w rate (orders.Trigger i) e = e
osc_goes c w rate (orders.Miso u ws) e = e
osc_goes c w rate (orders.SpiFault u) e = e
osc_goes c w rate (orders.Fill k ws) e = e
osc_goes c w rate _ e = e

time_goes : (c : Chip) (w : World) (rate : ℕ) (order : Order) → c.clock.rate ≡ rate → now_of c ≡ w.now → now_of (happened c order) ≡ (world_after w rate order).now
time_goes c w rate (orders.Tick n) same e = ap (λ r. now_of c + n * r) same ∙ ap (λ t. t + n * rate) e
time_goes c w rate (orders.Level p v) same e = level_leaves (λ d. now_of d) c p v refl ∙ e
time_goes c w rate (orders.Analog i v) same e = e
time_goes c w rate (orders.Trigger i) same e = e
time_goes c w rate (orders.Miso u ws) same e = e
time_goes c w rate (orders.SpiFault u) same e = e
time_goes c w rate (orders.Fill k ws) same e = e
time_goes c w rate _ same e = e

time_on : (w : World) (rate : ℕ) (order : Order) → w.now ≤ (world_after w rate order).now
time_on w rate (orders.Tick n) = omega arith
time_on w rate (orders.Level p v) = omega arith
time_on w rate (orders.Analog i v) = omega arith
time_on w rate orders.Detach = omega arith
time_on w rate _ = omega arith

not_back : (a b n m : ℕ) → n ≡ a → m ≡ b → n ≤ m → a ≤ b
not_back a b n m e f le = omega (arith, e, f, le)

left_room : (words given before after : ℕ) → words + given ≤ before → before ≤ after + words → given ≤ after
left_room words given before after h i = omega (arith, h, i)

-- devices hang on the chip as on the world
pub chip_devices : (c : Chip) (order : Order) → (happened c order).devices ≡ devices_after c.devices order
chip_devices c (orders.Tick n) = refl
chip_devices c (orders.Level p v) = level_leaves (λ d. d.devices) c p v refl
chip_devices c (orders.Analog i v) = refl
chip_devices c (orders.Trigger i) = refl
chip_devices c (orders.Miso u ws) = refl
chip_devices c (orders.SpiFault u) = refl
chip_devices c orders.Detach = refl
chip_devices c (orders.Fill k ws) = refl
chip_devices c _ = refl

pub world_devices : (w : World) (rate : ℕ) (order : Order) → (world_after w rate order).devices ≡ devices_after w.devices order
world_devices w rate (orders.Tick n) = refl
world_devices w rate (orders.Level p v) = refl
world_devices w rate (orders.Analog i v) = refl
world_devices w rate orders.Detach = refl
world_devices w rate _ = refl

-- what an order names is there
pub there_is : (order : Order) → NamesThere order → IsThere order
there_is (orders.Miso u ws) h = tt
there_is (orders.Tick n) h = h
there_is (orders.Level p v) h = h
there_is (orders.Analog i v) h = h
there_is (orders.Trigger i) h = h
there_is (orders.SpiFault u) h = h
there_is (orders.Fill k ws) h = h
there_is _ h = h

-- ticks of 32 bits at a rate of at most 16 pass no bound of the times
small : (osc n : ℕ) → osc < 2 ^ 62 → n < 2 ^ 32 → osc + n < 2 ^ 63
small osc n h i = omega (arith, h, i)

most : (n rate : ℕ) → n < 2 ^ 32 → rate ≤ 16 → n * rate ≤ n * 16
most n rate h i = mul-le-mul_left n i

short : (time n rate : ℕ) → time < 2 ^ 62 → n < 2 ^ 32 → rate ≤ 16 → time + n * rate < 2 ^ 64
short time n rate h i j = omega (arith, h, i, most n rate i j)

pub can_move : (o : Outside) (order : Order) (rate : ℕ) → HasTime o → ticks_by order < 2 ^ 32 → rate ≤ 16 → CanMove o order rate
can_move o (orders.Tick n) rate h lt le = (small o.osc n h.osc lt, short o.time n rate h.time lt le)
can_move o _ rate h lt le = tt

wider : (n : ℕ) → n < 2 ^ 63 → n < 2 ^ 64
wider n h = omega (arith, h)

pub can_happen : (c : Chip) (o : Outside) (order : Order) (rate : ℕ) → c.clock.osc ≡ o.osc → now_of c ≡ o.time → c.clock.rate ≡ rate → ((u : ℕ) → u < 2 → words_by order ≤ (incoming_at c u).room) → ((k : ℕ) → source_length c k ≤ 64)
    → HasTime o → ticks_by order < 2 ^ 32 → rate ≤ 16 → NamesThere order → CanHappen c order
can_happen c o (orders.Tick n) rate osc time same room sources h lt le there = (
  wider (c.clock.osc + n) (subst (λ t. t + n < 2 ^ 63) (sym osc) (small o.osc n h.osc lt)),
  subst (λ t. t + n * c.clock.rate < 2 ^ 64) (sym time) (subst (λ r. o.time + n * r < 2 ^ 64) (sym same) (short o.time n rate h.time lt le)),
)
can_happen c o (orders.Miso u ws) rate osc time same room sources h lt le there = (there, room u there)
can_happen c o (orders.Fill k ws) rate osc time same room sources h lt le there = (there, sources k)
can_happen c o _ rate osc time same room sources h lt le there = tt

-- ---- what is needed to go on

abbrev AllNone : List (Option ℕ) → Type 0
AllNone [] = Unit {0}
AllNone (None ∷ xs) = AllNone xs
AllNone (Some n ∷ xs) = ⊥

none_there : (xs : List (Option ℕ)) → AllNone xs → (c time : ℕ) → slice_index_or xs c None ≡ Some time → ⊥
none_there [] h c time e = absurd (cc)
none_there (None ∷ xs) h zero time e = absurd (cc)
none_there (None ∷ xs) h (suc c) time e = none_there xs h c time e
none_there (Some n ∷ xs) h c time e = h

fresh_past : (now : ℕ) (terms : Terms) → HasCommitted now (fresh terms)
fresh_past now terms c time e = absurd (none_there (fresh terms).accesses.committed tt c time e)

more : (n m : ℕ) → n < 8 → m ≡ n → suc m ≤ 8
more n m lt e = omega (arith, lt, e)

pub as_many : {Parts Call : Type 0} (fits : Parts → Outside → Type 0) (within : Parts → Type 0) (ticks : Parts → ℕ) (a : Auditing Parts Call) (n m : ℕ) → n ≡ m → IsReady fits within ticks n a → IsReady fits within ticks m a
as_many fits within ticks a n m e r = subst (λ k. IsReady fits within ticks k a) e r

module _ {Parts Call : Type 0} (fits : Parts → Outside → Type 0) (within : Parts → Type 0) (given : ℕ) (a b : Auditing Parts Call) where
  -- a frame that begins
  pub begun_sound : (terms : Terms) (x : Origin Call) → IsSound fits within given a → length a.frames < 8 → b.chip ≡ a.chip → b.parts ≡ a.parts → b.outside ≡ a.outside → b.frames ≡ fresh terms ∷ a.frames → b.origins ≡ x ∷ a.origins
      → IsSound fits within given b
  begun_sound terms x s free chip parts outside frames origins = record {
    can_tell = subst (λ o. fits b.parts o) (sym outside) (subst (λ y. fits y a.outside) (sym parts) s.can_tell);
    in_limits = subst within (sym parts) s.in_limits;
    around = s.around;
    world = subst (λ o. IsWorld o s.around) (sym outside) s.world;
    osc = ap (λ c. c.clock.osc) chip ∙ (s.osc ∙ ap (λ o. o.osc) (sym outside));
    time = ap now_of chip ∙ (s.time ∙ ap (λ o. o.time) (sym outside));
    committed = subst (AllCommitted b.outside.time) (sym frames) (subst (λ o. AllCommitted o.time (fresh terms ∷ a.frames)) (sym outside) (fresh_past a.outside.time terms, s.committed));
    few = subst (λ ks. length ks ≤ 8) (sym frames) (more (length a.frames) (length a.frames) free refl);
    counted = ap length origins ∙ (ap (λ n. suc n) s.counted ∙ ap length (sym frames));
    room = λ u lt. subst (λ c. given ≤ (incoming_at c u).room) (sym chip) (s.room u lt);
    sources = λ k. subst (λ c. source_length c k ≤ 64) (sym chip) (s.sources k);
  }

  -- a reset
  pub reset_sound : (reason : Reason) → IsSound fits within given a → fits b.parts b.outside → within b.parts → b.chip ≡ reset_chip a.chip reason → ((w : World) → IsWorld a.outside w → IsWorld b.outside w) → b.frames ≡ [] → b.origins ≡ []
      → IsSound fits within given b
  reset_sound reason s tell limits chip still frames origins =
      let w : IsWorld b.outside s.around = still s.around s.world in
      record {
        can_tell = tell;
        in_limits = limits;
        around = s.around;
        world = w;
        osc = ap (λ c. c.clock.osc) chip ∙ (s.osc ∙ (sym s.world.osc ∙ w.osc));
        time = ap now_of chip ∙ (s.time ∙ (sym s.world.now ∙ w.now));
        committed = subst (AllCommitted b.outside.time) (sym frames) tt;
        few = subst (λ ks. length ks ≤ 8) (sym frames) (omega arith);
        counted = ap length origins ∙ ap length (sym frames);
        room = λ u lt. subst (λ c. given ≤ (incoming_at c u).room) (sym chip) (s.room u lt);
        sources = λ k. subst (λ c. source_length c k ≤ 64) (sym chip) (s.sources k);
      }

  -- the hardware moves
  pub moved_sound : (order : Order) (rate : ℕ) → IsSound fits within (words_by order + given) a → a.chip.clock.rate ≡ rate → fits b.parts b.outside → within b.parts → b.chip ≡ happened a.chip order
      → ((w : World) → IsWorld a.outside w → IsWorld b.outside (world_after w rate order)) → b.frames ≡ a.frames → b.origins ≡ a.origins
      → IsSound fits within given b
  moved_sound order rate s same tell limits chip goes frames origins =
      let w : IsWorld b.outside (world_after s.around rate order) = goes s.around s.world in
      record {
        can_tell = tell;
        in_limits = limits;
        around = world_after s.around rate order;
        world = w;
        osc = ap (λ c. c.clock.osc) chip ∙ (osc_goes a.chip s.around rate order (s.osc ∙ sym s.world.osc) ∙ w.osc);
        time = ap now_of chip ∙ (time_goes a.chip s.around rate order same (s.time ∙ sym s.world.now) ∙ w.now);
        committed = subst (AllCommitted b.outside.time) (sym frames) (still_past a.frames a.outside.time b.outside.time (not_back a.outside.time b.outside.time s.around.now _ s.world.now w.now (time_on s.around rate order)) s.committed);
        few = subst (λ ks. length ks ≤ 8) (sym frames) s.few;
        counted = ap length origins ∙ (s.counted ∙ ap length (sym frames));
        room = λ u lt. subst (λ c. given ≤ (incoming_at c u).room) (sym chip) (left_room (words_by order) given _ _ (s.room u lt) (room_event a.chip order u));
        sources = λ k. subst (λ c. source_length c k ≤ 64) (sym chip) (subst (λ n. n ≤ 64) (sym (ap (λ x. slice_index x.sources k) (wiring-left a.chip (histories.Hardware order)))) (s.sources k));
      }

-- what is known of the moment is no part of it
pub seeing_sound : {Parts Call : Type 0} (fits : Parts → Outside → Type 0) (within : Parts → Type 0) (given : ℕ) (seen : Seen) (a : Auditing Parts Call) → IsSound fits within given a → IsSound fits within given (seeing seen a)
seeing_sound fits within given seen a s = record {
  can_tell = s.can_tell;
  in_limits = s.in_limits;
  around = s.around;
  world = s.world;
  osc = s.osc;
  time = s.time;
  committed = s.committed;
  few = s.few;
  counted = s.counted;
  room = s.room;
  sources = s.sources;
}
