-- After a right step what is kept stands for the place after it.
use Rattle.std.proofs.Common.{◌≡◌, ℕ, ◌+◌, Bool, true, false, List, [], ◌∷◌, ◌++◌, drop, Option, Some, None, refl, sym, ◌∙◌, ap, subst, arith}
use Rattle.std.specs.Prelude.{cond, count_by, is_some, IsSome}
use Rattle.std.proofs.lemmas.List.Sums.{sum_by-append}
use Rattle.bench_report.specs.Lines.{Line}
use Rattle.bench_report.specs.Report.{frames_after_end, is_error, is_hold, is_leave, is_note, is_return}
use Rattle.bench_report.specs.declared.frames.Purpose.{Purpose}
use Rattle.bench_report.specs.declared.tally.Tally.{Tally}
use Rattle.mcal_base.specs.declared.answer.Answer.{Answer}
use Rattle.mcal_base.specs.declared.moves.Event.{Event}
use Rattle.mcal_base.specs.declared.moves.Event.TheVariants.{Act, Serve, Abort, Start}
use Rattle.run_model.specs.Causes.{origins_of}
use Rattle.run_model.specs.Frame.{Open, Origin, begun_by, open_after, outcome_at, state_after, top_after}
use Rattle.run_model.specs.Legal.{AreGoing, SendsRight}
use Rattle.run_model.specs.Moment.{Moment, Setting, after_step}
use Rattle.run_model.specs.declared.item.Stepped.{Stepped}
use Rattle.chip_model.specs.Chip.{chip_after, value_of}
use Rattle.chip_model.proofs.DeviceLaws.{devices-move}
use Rattle.audit_base.specs.Outside.{IsWorld}
use Rattle.audit_frames.specs.FrameRules.{kept_after}
use Rattle.audit_frames.specs.Kept.{Kept}
use Rattle.audit_frames.specs.Parts.{IsAllowed, OutsideRight}
use Rattle.audit_frames.specs.StackRules.{StandAll, left_after, stepped}
use Rattle.audit_frames.specs.StandsFor.{StandsFor}
use Rattle.audit_frames.specs.Told.{IsAround, ended_of, step_of}
use Rattle.audit_frames.specs.declared.terms.Around.{Around}
use Rattle.audit_frames.specs.declared.terms.Step.{Step}
use Rattle.audit_subject.specs.declared.hearing.Heard.{Heard}
use Rattle.run_model.specs.Machine.{Told}
use Rattle.report_text.specs.reading.Blocks.{AuditState, counted}
use Rattle.trace_reader.specs.declared.told.Step as read
use Rattle.report_auditor.specs.Auditing.{Auditing, Stands, StillSeen, below, purpose_by, purposes_by}
use Rattle.report_auditor.specs.Seeing.{Agreeing, IsSeen}
use Rattle.report_steps.specs.StepParts.{ComesNow, HasMoved, IsHeard, counting, end_answer, step_told}
use Rattle.report_steps.specs.StepRules.{lines_behind, stepped_to}

-- ---- lines are counted one after another

count_append : {X : Type 0} (p : X → Bool) (xs ys : List X) → count_by p (xs ++ ys) ≡ count_by p xs + count_by p ys
count_append p xs ys = sum_by-append (λ x. cond (p x) 1 0) xs ys

added : (n a b c : ℕ) → c ≡ a + b → n + c ≡ (n + a) + b
added n a b c e = omega (arith, e)

-- a tally by its counts
abbrev tally_of : (calls handlers held errors notes : ℕ) → Tally
tally_of calls handlers held errors notes = record { calls = calls; handlers = handlers; held = held; errors = errors; notes = notes }

pub same_tally : (t : Tally) (a b c d e : ℕ) → t.calls ≡ a → t.handlers ≡ b → t.held ≡ c → t.errors ≡ d → t.notes ≡ e → t ≡ record { calls = a; handlers = b; held = c; errors = d; notes = e }
same_tally t a b c d e ea eb ec ed ee =
    ap (λ (x : ℕ). tally_of x t.handlers t.held t.errors t.notes) ea
    ∙ (ap (λ (x : ℕ). tally_of a x t.held t.errors t.notes) eb
    ∙ (ap (λ (x : ℕ). tally_of a b x t.errors t.notes) ec
    ∙ (ap (λ (x : ℕ). tally_of a b c x t.notes) ed
    ∙ ap (λ (x : ℕ). tally_of a b c d x) ee)))

pub counted_on : (t : Tally) (xs ys : List Line) → counted t (xs ++ ys) ≡ counted (counted t xs) ys
counted_on t xs ys =
    same_tally (counted t (xs ++ ys)) _ _ _ _ _
    (added t.calls (count_by is_return xs) (count_by is_return ys) (count_by is_return (xs ++ ys)) (count_append is_return xs ys))
    (added t.handlers (count_by is_leave xs) (count_by is_leave ys) (count_by is_leave (xs ++ ys)) (count_append is_leave xs ys))
    (added t.held (count_by is_hold xs) (count_by is_hold ys) (count_by is_hold (xs ++ ys)) (count_append is_hold xs ys))
    (added t.errors (count_by is_error xs) (count_by is_error ys) (count_by is_error (xs ++ ys)) (count_append is_error xs ys))
    (added t.notes (count_by is_note xs) (count_by is_note ys) (count_by is_note (xs ++ ys)) (count_append is_note xs ys))

pub counting_on : {Parts Call : Type 0} (a : Auditing Parts Call) (xs ys : List Line) → counting ys (counting xs a) ≡ counting (xs ++ ys) a
counting_on a xs ys = ap (λ t. record a { tally = t }) (sym (counted_on a.tally xs ys))

-- ---- the step and its end

-- the answer with which the newest frame ends, where it does
abbrev pub answer_where : (ends : Bool) → List Kept → Option Event → Told → Option Answer
answer_where ends ks e t = cond ends (end_answer ks e t) None

where_ends : (ends : Bool) (x : Option Answer) → (ends ≡ true → IsSome x) → is_some (cond ends x None) ≡ ends
where_ends true x h = h refl
where_ends false x h = refl

pub ends_is : (ends : Bool) (ks : List Kept) (e : Option Event) (t : Told) → (ends ≡ true → IsSome (end_answer ks e t)) → is_some (answer_where ends ks e t) ≡ ends
ends_is ends ks e t h = where_ends ends (end_answer ks e t) h

-- it is the answer that is kept
pub kept_answer : (b : Bool) (k : Kept) (ends : Bool) → b ≡ ends → cond ends (ended_of k true) None ≡ ended_of k b
kept_answer true k true e = refl
kept_answer true k false e = absurd (cc)
kept_answer false k true e = absurd (cc)
kept_answer false k false e = refl

module _ {State Call : Type 0} (g : Setting State Call) (m : Moment State Call) (o : Open Call) where
  -- ---- what the machines said holds of the step with its end as well

  pub allowed_with : (e : Option Event) (r : read.Step) (a b : Option Answer) → IsAllowed g m o (step_told r e a) e → IsAllowed g m o (step_told r e b) e
  allowed_with None r a b h = h
  allowed_with (Some Act) r a b h = h
  allowed_with (Some (Serve l)) r a b h = h
  allowed_with (Some (Abort u)) r a b h = h
  allowed_with (Some (Start u)) r a b h = h

  pub around_with : (r : read.Step) (e : Option Event) (a b : Option Answer) (asked : ℕ) (t : Told) (polls : List ℕ) (x : Around) → IsAround g m o (step_told r e a) asked t polls x → IsAround g m o (step_told r e b) asked t polls x
  around_with r e a b asked t polls x h = record { told = h.told; polled = h.polled; now = h.now; unready = h.unready; calm = h.calm; settles = h.settles; reported = h.reported }

  -- chip and module say that it is right
  pub outside_right : (r : read.Step) (e : Option Event) (a : Option Answer) → ComesNow g m o r → IsAllowed g m o (step_told r e None) e
      → SendsRight m.chip (begun_by (outcome_at g.machine m.world m.state o r.made r.received e)) r.made → r.value ≡ value_of m.chip r.made
      → OutsideRight g m o (step_told r e a)
  outside_right r e a now allowed sends value = record {
    waits = now.waits;
    value = value;
    received = now.received;
    event = allowed_with e r None a allowed;
    sends = sends;
    shows = now.shows;
    there = now.there;
    own = now.own;
  }

-- ---- the place after it

below_after : {State Call : Type 0} (g : Setting State Call) (o1 : Open Call) (ended : Option Answer) (os : List (Open Call)) → AreGoing g os → AreGoing g (below (top_after o1 ended os))
below_after g o1 None os h = h
below_after g o1 (Some a) [] h = tt
below_after g o1 (Some a) (o ∷ os) h = h.1

purposes_after : (frames : List Purpose) (k k1 : Kept) (ks : List Kept) (ended : Option Answer) → k1.terms ≡ k.terms → frames ≡ purposes_by (k ∷ ks) → frames_after_end frames ended ≡ purposes_by (left_after (is_some ended) (k1 ∷ ks))
purposes_after frames k k1 ks None same e = e ∙ ap (λ terms. purpose_by terms.task ∷ purposes_by ks) (sym same)
purposes_after frames k k1 ks (Some a) same e = ap (drop 1) e

origins_after : {Call : Type 0} (o o1 : Open Call) (os : List (Open Call)) (ended : Option Answer) (kept : List (Origin Call)) → o1.origin ≡ o.origin → kept ≡ origins_of (o ∷ os) → drop (cond (is_some ended) 1 0) kept ≡ origins_of (top_after o1 ended os)
origins_after o o1 os None kept same e = e ∙ ap (λ x. x ∷ origins_of os) (sym same)
origins_after o o1 os (Some a) kept same e = ap (drop 1) e

frames_on : {State Call : Type 0} (g : Setting State Call) (ended : Option Answer) (k1 : Kept) (o1 : Open Call) (ks : List Kept) (os : List (Open Call)) → StandsFor g k1 o1 → StandAll g ks os → StandAll g (left_after (is_some ended) (k1 ∷ ks)) (top_after o1 ended os)
frames_on g None k1 o1 ks os new all = (new, all)
frames_on g (Some a) k1 o1 ks os new all = all

module _ {Parts Table State Call : Type 0} (agrees : Agreeing Table State) (setting : Table → Setting State Call) (table : Parts → Table) (stands : Parts → State → Type 0) (t : Table) (p : AuditState State Call) (o : Open Call) (os : List (Open Call)) where
  -- the place after it, where the newest frame is this one
  abbrev there : Stepped → AuditState State Call
  there s = record { moment = after_step (setting t) p.moment (o ∷ os) s; frames = frames_after_end p.frames s.ended; tally = counted p.tally (lines_behind p.frames s) }

  stands_there : (a b : Auditing Parts Call) (r : read.Step) (e : Option Event) (x : Step) (h : Heard) (k : Kept) (ks : List Kept) (ended : Option Answer)
      → p.moment.opens ≡ o ∷ os → a.frames ≡ k ∷ ks → IsHeard agrees setting table stands t a p o (step_told r e None) h
      → x ≡ step_of (step_told r e ended) → HasMoved (counting (lines_behind p.frames (step_told r e ended)) a) b r x h
      → StandsFor (setting t) (kept_after k x h.told h.polls h.around) (open_after (setting t).machine p.moment.world p.moment.state o r.made r.received e)
      → StillSeen agrees setting t a b r.made r.received e
      → Stands agrees setting table stands t b (there (step_told r e ended))
  stands_there a b r e x h k ks ended opens top heard is moved new still =
      let o1 = open_after (setting t).machine p.moment.world p.moment.state o r.made r.received e in
      let k1 = kept_after k x h.told h.polls h.around in
      let ends : x.ends ≡ is_some ended = ap (λ y. y.ends) is in
      let left : b.frames ≡ left_after (is_some ended) (k1 ∷ ks) =
      moved.frames ∙ (ap (λ ys. left_after x.ends (stepped ys x h.told h.polls h.around)) top ∙ ap (λ q. left_after q (k1 ∷ ks)) ends) in
      let all : StandAll (setting t) (k ∷ ks) (o ∷ os) = subst (λ ys. StandAll (setting t) ys (o ∷ os)) top (subst (λ ys. StandAll (setting t) a.frames ys) opens heard.frames) in
      record {
        kept_of = ap table moved.parts ∙ heard.kept_of;
        chip = moved.chip ∙ ap (λ c. chip_after c r.made r.received) heard.chip;
        world = subst (λ w. IsWorld w p.moment.world) (sym moved.outside) heard.world;
        devices = heard.devices ∙ (sym (devices-move a.chip r.made r.received) ∙ sym (ap (λ c. c.devices) moved.chip));
        hung = ap (λ c. c.devices) moved.chip ∙ (devices-move a.chip r.made r.received ∙ (heard.hung ∙ sym moved.devices));
        state = subst (λ y. stands y (state_after (setting t).machine p.moment.world p.moment.state o r.made r.received e)) (sym moved.parts) heard.says.kept;
        frames = subst (λ ys. StandAll (setting t) ys (top_after o1 ended os)) (sym left) (frames_on (setting t) ended k1 o1 ks os new all.1);
        origins = moved.origins ∙ (ap (λ q. drop (cond q 1 0) a.origins) ends ∙ origins_after o o1 os ended a.origins refl (heard.origins ∙ ap origins_of opens));
        going = below_after (setting t) o1 ended os (subst (λ ys. AreGoing (setting t) (below ys)) opens heard.going);
        purposes = purposes_after p.frames k k1 ks ended refl (heard.purposes ∙ ap purposes_by top) ∙ ap purposes_by (sym left);
        tally = moved.tally ∙ ap (λ n. counted n (lines_behind p.frames (step_told r e ended))) heard.tally;
        seen = subst (λ c. IsSeen agrees setting t b.seen (chip_after c r.made r.received) p.moment.world (state_after (setting t).machine p.moment.world p.moment.state o r.made r.received e)) heard.chip
            (still p.moment.world p.moment.state o (origins_of os) (heard.origins ∙ ap origins_of opens) (subst (λ c. IsSeen agrees setting t a.seen c p.moment.world p.moment.state) (sym heard.chip) heard.seen));
      }

  -- what is kept after a right step stands for the place after it
  pub stands_after : (a b : Auditing Parts Call) (r : read.Step) (e : Option Event) (x : Step) (h : Heard) (k : Kept) (ks : List Kept) (ended : Option Answer)
      → p.moment.opens ≡ o ∷ os → a.frames ≡ k ∷ ks → IsHeard agrees setting table stands t a p o (step_told r e None) h
      → x ≡ step_of (step_told r e ended) → HasMoved (counting (lines_behind p.frames (step_told r e ended)) a) b r x h
      → StandsFor (setting t) (kept_after k x h.told h.polls h.around) (open_after (setting t).machine p.moment.world p.moment.state o r.made r.received e)
      → StillSeen agrees setting t a b r.made r.received e
      → Stands agrees setting table stands t b (stepped_to (setting t) p (step_told r e ended))
  stands_after a b r e x h k ks ended opens top heard is moved new still =
      let s = step_told r e ended in
      subst (λ ys. Stands agrees setting table stands t b (record { moment = after_step (setting t) p.moment ys s; frames = frames_after_end p.frames s.ended; tally = counted p.tally (lines_behind p.frames s) }))
      (sym opens) (stands_there a b r e x h k ks ended opens top heard is moved new still)
