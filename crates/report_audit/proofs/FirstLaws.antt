-- A bench at power on stands for the first moment of its runs.
use Rattle.std.proofs.Common.{◌≡◌, ℕ, ◌≤◌, List, [], length, sym, ◌∙◌, ap, subst, arith}
use Rattle.bench_report.specs.declared.tally.Tally.{Tally}
use Rattle.chip_model.specs.Chip.{Chip, hung, incoming_at, now_of, source_length}
use Rattle.mcal_base.specs.Bits.{bits_of}
use Rattle.run_model.specs.Frame.{Origin}
use Rattle.run_model.specs.Moment.{Setting, start_moment}
use Rattle.run_model.specs.World.{world_start}
use Rattle.audit_base.specs.Deeds.{Member}
use Rattle.audit_base.specs.declared.outside.Outside.{Outside}
use Rattle.audit_frames.specs.Kept.{Kept}
use Rattle.audit_frames.specs.StackRules.{StandAll}
use Rattle.audit_subject.specs.Product.{member_of}
use Rattle.report_text.specs.reading.Blocks.{AuditState, place_from}
use Rattle.report_auditor.specs.Auditing.{AllCommitted, Auditing, IsSound, Stands, purposes_by}
use Rattle.report_auditor.specs.Seeing.{Agreeing, IsSeen, nothing}
use Rattle.report_auditor.proofs.SeenLaws.{seen_nothing}
use Rattle.report_steps.proofs.StepMade.{same_tally}
use Rattle.report_audit.specs.Judged.{ArePoweredOn, IsFresh}
use Rattle.report_audit.specs.Obeying.{StandsSomewhere}

-- nothing is counted
abbrev pub nothing_counted : Tally
nothing_counted = record { calls = 0; handlers = 0; held = 0; errors = 0; notes = 0 }

pub none_counted : (t : Tally) → (t.calls ≡ 0) × ((t.handlers ≡ 0) × ((t.held ≡ 0) × ((t.errors ≡ 0) × (t.notes ≡ 0)))) → t ≡ nothing_counted
none_counted t h = same_tally t 0 0 0 0 0 h.0 h.1.0 h.1.1.0 h.1.1.1.0 h.1.1.1.1

no_frames : (ks : List Kept) → ks ≡ [] → length ks ≤ 8
no_frames ks e = subst (λ (xs : List Kept). length xs ≤ 8) (sym e) (omega arith)

-- the lines that are used are those of the run's machine
pub used_are : {Table State Call : Type 0} (setting : Table → Setting State Call) (member : Table → Member State Call) (member_is : (x : Table) → member_of (setting x) ≡ member x)
    (x t : Table) (used : ℕ) → x ≡ t → used ≡ bits_of (member x).lines 32 → used ≡ bits_of (setting t).used 32
used_are setting member member_is x t used same is = is ∙ (ap (λ y. bits_of (member y).lines 32) same ∙ ap (λ m. bits_of m.lines 32) (sym (member_is t)))

module _ {Parts Table State Call : Type 0} (agrees : Agreeing Table State) (setting : Table → Setting State Call) (table : Parts → Table) (stands : Parts → State → Type 0) (fits : Parts → Outside → Type 0) (within : Parts → Type 0) (t : Table) (a : Auditing Parts Call) (chip : Chip)
    (on : ArePoweredOn setting table stands fits within t a.parts a.outside) (chip_is : a.chip ≡ hung a.devices chip) (frames : a.frames ≡ []) (origins : a.origins ≡ []) where
  -- where it stands
  abbrev pub first : AuditState State Call
  first = place_from (start_moment (setting t) (hung a.devices chip))

  pub first_stands : a.tally ≡ nothing_counted → (used : ℕ) → used ≡ bits_of (setting t).used 32 → a.seen ≡ nothing used → Stands agrees setting table stands t a first
  first_stands tally used lines seen = record {
    kept_of = on.kept_of;
    chip = chip_is;
    world = on.world a.devices;
    devices = ap (λ (c : Chip). c.devices) (sym chip_is);
    hung = ap (λ (c : Chip). c.devices) chip_is;
    state = on.state;
    frames = subst (λ (ks : List Kept). StandAll (setting t) ks []) (sym frames) tt;
    origins = origins;
    going = tt;
    purposes = ap purposes_by (sym frames);
    tally = tally;
    seen = subst (λ x. IsSeen agrees setting t x first.moment.chip first.moment.world first.moment.state) (sym seen) (seen_nothing agrees setting t used first.moment.chip first.moment.world first.moment.state lines);
  }

  pub first_somewhere : a.tally ≡ nothing_counted → (used : ℕ) → used ≡ bits_of (setting t).used 32 → a.seen ≡ nothing used → StandsSomewhere agrees setting table stands t a
  first_somewhere tally used lines seen = record { place = first; kept = first_stands tally used lines seen }

  pub first_sound : (given : ℕ) → IsFresh chip given → IsSound fits within given a
  first_sound given fresh = record {
    can_tell = on.can_tell;
    in_limits = on.in_limits;
    around = world_start a.devices;
    world = on.world a.devices;
    osc = ap (λ (c : Chip). c.clock.osc) chip_is ∙ (fresh.osc ∙ (on.world a.devices).osc);
    time = ap now_of chip_is ∙ (fresh.time ∙ (on.world a.devices).now);
    committed = subst (AllCommitted a.outside.time) (sym frames) tt;
    few = no_frames a.frames frames;
    counted = ap (λ (xs : List (Origin Call)). length xs) origins ∙ ap (λ (ks : List Kept). length ks) (sym frames);
    room = λ u lt. subst (λ (c : Chip). given ≤ (incoming_at c u).room) (sym chip_is) (fresh.room u lt);
    sources = λ c. subst (λ (x : Chip). source_length x c ≤ 64) (sym chip_is) (fresh.sources c);
  }
