-- What a step leaves of what is needed to go on.
use Rattle.std.proofs.Common.{◌≡◌, ℕ, suc, ◌≤◌, Bool, true, false, List, [], ◌∷◌, drop, length, Option, Some, None, refl, sym, ◌∙◌, ap, subst, arith}
use Rattle.std.specs.Prelude.{cond, if◌then◌else◌, slice_index_or}
use Rattle.bench_report.specs.Lines.{Line}
use Rattle.bench_report.specs.Report.{move_lines}
use Rattle.chip_model.specs.Chip.{incoming_at, now_of, source_length}
use Rattle.mcal_base.specs.declared.moves.Event.{Event}
use Rattle.run_model.specs.Frame.{Origin}
use Rattle.run_model.specs.Machine.{Told}
use Rattle.audit_base.specs.Outside.{IsWorld}
use Rattle.audit_base.specs.declared.outside.Outside.{Outside}
use Rattle.audit_frames.specs.AccessRules.{committed_after}
use Rattle.audit_frames.specs.Kept.{Kept}
use Rattle.audit_frames.specs.StackRules.{left_after, stepped}
use Rattle.audit_frames.specs.declared.terms.Around.{Around}
use Rattle.audit_frames.specs.declared.terms.Step.{Step}
use Rattle.audit_subject.specs.declared.hearing.Heard.{Heard}
use Rattle.trace_reader.specs.declared.told.Step as read
use Rattle.report_auditor.specs.Auditing.{AllCommitted, Auditing, IsSound}
use Rattle.report_auditor.proofs.SoundLaws.{commits_past, move_keeps}
use Rattle.report_steps.specs.StepParts.{HasMoved, Moves, counting, end_by}

-- ---- what frames committed

stepped_past : (now : ℕ) (frames : List Kept) (x : Step) (t : Told) (polls : List ℕ) (y : Around) → y.time ≡ now → AllCommitted now frames → AllCommitted now (stepped frames x t polls y)
stepped_past now [] x t polls y e all = tt
stepped_past now (k ∷ ks) x t polls y e all =
    (subst (λ n. (c time : ℕ) → slice_index_or (committed_after k.accesses.committed x.made n) c None ≡ Some time → time ≤ now) (sym e) (λ c time at. commits_past k.accesses.committed x.made now all.0 c time at), all.1)

left_past : (now : ℕ) (ends : Bool) (frames : List Kept) → AllCommitted now frames → AllCommitted now (left_after ends frames)
left_past now true [] all = tt
left_past now true (k ∷ ks) all = all.1
left_past now false frames all = all

-- ---- how many there are

stepped_many : (frames : List Kept) (x : Step) (t : Told) (polls : List ℕ) (y : Around) → length (stepped frames x t polls y) ≡ length frames
stepped_many [] x t polls y = refl
stepped_many (k ∷ ks) x t polls y = refl

no_longer : (ends : Bool) (frames : List Kept) → length (left_after ends frames) ≤ length frames
no_longer true [] = omega arith
no_longer true (k ∷ ks) = omega arith
no_longer false frames = omega arith

within_eight : (a b c : ℕ) → a ≤ b → b ≡ c → c ≤ 8 → a ≤ 8
within_eight a b c le e few = omega (arith, le, e, few)

suc_same : (m n : ℕ) → suc m ≡ suc n → m ≡ n
suc_same m n e = omega (arith, e)

as_many : {Call : Type 0} (ends : Bool) (origins : List (Origin Call)) (frames : List Kept) → length origins ≡ length frames → length (drop (cond ends 1 0) origins) ≡ length (left_after ends frames)
as_many false origins frames e = e
as_many true [] [] e = refl
as_many true [] (k ∷ ks) e = absurd (omega (arith, e))
as_many true (o ∷ os) [] e = absurd (omega (arith, e))
as_many true (o ∷ os) (k ∷ ks) e = suc_same (length os) (length ks) e

module _ {Parts Call : Type 0} (fits : Parts → Outside → Type 0) (within : Parts → Type 0) (given : ℕ) (a b : Auditing Parts Call) (s : read.Step) (x : Step) (h : Heard) where
  pub step_sound : IsSound fits within given a → h.around.time ≡ a.outside.time → HasMoved a b s x h → IsSound fits within given b
  step_sound sound now moved =
      let keeps = move_keeps a.chip s.made s.received in
      let frames = stepped a.frames x h.told h.polls h.around in
      let past : AllCommitted a.outside.time (left_after x.ends frames) = left_past a.outside.time x.ends frames (stepped_past a.outside.time a.frames x h.told h.polls h.around now sound.committed) in
      record {
        can_tell = subst (λ o. fits b.parts o) (sym moved.outside) (subst (λ y. fits y a.outside) (sym moved.parts) sound.can_tell);
        in_limits = subst within (sym moved.parts) sound.in_limits;
        around = sound.around;
        world = subst (λ o. IsWorld o sound.around) (sym moved.outside) sound.world;
        osc = ap (λ c. c.clock.osc) moved.chip ∙ (keeps.osc ∙ (sound.osc ∙ ap (λ o. o.osc) (sym moved.outside)));
        time = ap now_of moved.chip ∙ (keeps.time ∙ (sound.time ∙ ap (λ o. o.time) (sym moved.outside)));
        committed = subst (AllCommitted b.outside.time) (sym moved.frames) (subst (λ o. AllCommitted o.time (left_after x.ends frames)) (sym moved.outside) past);
        few = subst (λ ks. length ks ≤ 8) (sym moved.frames) (within_eight (length (left_after x.ends frames)) (length frames) (length a.frames) (no_longer x.ends frames) (stepped_many a.frames x h.told h.polls h.around) sound.few);
        counted = ap length moved.origins ∙ (as_many x.ends a.origins frames (sound.counted ∙ sym (stepped_many a.frames x h.told h.polls h.around)) ∙ ap length (sym moved.frames));
        room = λ u lt. subst (λ n. given ≤ n) (sym (ap (λ c. (incoming_at c u).room) moved.chip ∙ keeps.room u)) (sound.room u lt);
        sources = λ k. subst (λ n. n ≤ 64) (sym (ap (λ c. source_length c k) moved.chip ∙ keeps.sources k)) (sound.sources k);
      }

  -- lines that are counted leave it
  pub counted_sound : (lines : List Line) → IsSound fits within given a → IsSound fits within given (counting lines a)
  counted_sound lines s = record {
    can_tell = s.can_tell;
    in_limits = s.in_limits;
    around = s.around;
    world = s.world;
    osc = s.osc;
    time = s.time;
    committed = s.committed;
    few = s.few;
    counted = s.counted;
    room = s.room;
    sources = s.sources;
  }

-- the lines behind a step's own, and the step
module _ {Parts Call : Type 0} (a a1 a2 : Auditing Parts Call) (s : read.Step) (event : Option Event) (h : Heard) (ended : Bool)
    (e1 : a1 ≡ counting (move_lines s.made) a) (e2 : a2 ≡ counting (if ended then end_by a1.frames event h.told else []) a1) where
  pub as_many_still : length a.origins ≡ length a.frames → length a2.origins ≡ length a2.frames
  as_many_still e = subst (λ y. length y.origins ≡ length y.frames) (sym e2) (subst (λ y. length y.origins ≡ length y.frames) (sym e1) e)

  pub goes_sound : (fits : Parts → Outside → Type 0) (within : Parts → Type 0) (given : ℕ) (b : Auditing Parts Call) (right : Bool)
      → IsSound fits within given a → h.around.time ≡ a.outside.time → Moves a2 b s (record { made = s.made; value = s.value; event = event; ends = ended }) h right → right ≡ true → IsSound fits within given b
  goes_sound fits within given b right sound now moves on =
      let x : Step = record { made = s.made; value = s.value; event = event; ends = ended } in
      let said = move_lines s.made in
      let last = if ended then end_by a1.frames event h.told else [] in
      let first = subst (IsSound fits within given) (sym e1) (counted_sound fits within given a a s x h said sound) in
      let second = subst (IsSound fits within given) (sym e2) (counted_sound fits within given a1 a1 s x h last first) in
      step_sound fits within given a2 b s x h second (now ∙ sym (ap (λ y. y.outside.time) (e2 ∙ ap (λ y. counting last y) e1))) (moves.moved on)
