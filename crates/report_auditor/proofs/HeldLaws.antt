-- Why a beginning or an order of the hardware is held, and what a frame is begun for.
use Rattle.std.proofs.Common.{◌≡◌, ℕ, ◌<◌, Bool, true, false, not, ◌||◌, nat_le, List, [], ◌∷◌, length, map, Some, None, refl, sym, ◌∙◌, ap, arith}
use Rattle.std.specs.List.{list_any}
use Rattle.std.proofs.lemmas.Bool.Decides.{nat_tests}
use Rattle.bench_report.specs.declared.frames.Purpose.TheVariants as purposes
use Rattle.chip_model.specs.Chip.{is_masked, is_pending}
use Rattle.mcal_base.specs.declared.module_name.ModuleName.TheVariants.{Mcu}
use Rattle.mcal_base.specs.declared.directive.Order.{Order}
use Rattle.mcal_base.specs.declared.directive.Order.TheVariants.{Detach, Fill}
use Rattle.run_model.specs.Causes as causes
use Rattle.run_model.specs.Causes.{first_cause, fill_cause, is_full, origins_of}
use Rattle.run_model.specs.Follows as follows
use Rattle.run_model.specs.Frame.{Called, Entered}
use Rattle.run_model.specs.Legal.{hardware_held}
use Rattle.run_model.specs.Moment.{Moment, Setting, is_busy, reads_from}
use Rattle.run_model.specs.declared.class.Class.{Class}
use Rattle.audit_frames.specs.Kept.{Kept}
use Rattle.audit_frames.specs.StackRules.{call_held, line_held, tags_of, top_noted}
use Rattle.audit_frames.specs.StandsFor.{IsTask}
use Rattle.audit_frames.specs.declared.terms.Task.{Task}
use Rattle.audit_frames.specs.declared.terms.Task.TheVariants.{Call, Line}
use Rattle.audit_frames.proofs.StackLaws.{full, holds}
use Rattle.report_text.specs.reading.Blocks.{AuditState}
use Rattle.report_auditor.specs.Auditing.{Auditing, Stands, purpose_by}
use Rattle.report_auditor.specs.Deeds.{filled, other_cause}
use Rattle.report_auditor.specs.Seeing.{Agreeing}

-- ---- with no cause there are fewer than eight frames

not_full : (a b c d full : Bool) → first_cause a b c d full ≡ None → full ≡ false
not_full true b c d full e = absurd (cc)
not_full false true c d full e = absurd (cc)
not_full false false true d full e = absurd (cc)
not_full false false false true full e = absurd (cc)
not_full false false false false true e = absurd (cc)
not_full false false false false false e = refl

below_eight : (n : ℕ) → nat_le 8 n ≡ false → n < 8
below_eight n e = grind (arith, nat_tests)

few : (ks : List Kept) → is_full (tags_of ks) ≡ false → length ks < 8
few ks e = below_eight (length ks) (full ks (length ks) refl ∙ e)

pub call_free : (ks : List Kept) (masked : Bool) (class : Class) (level : ℕ) → call_held ks masked class level ≡ None → length ks < 8
call_free ks masked class level e = few ks (not_full masked (not (causes.call_level_allows (tags_of ks) (top_noted ks) level)) (not (causes.may_reenter class (tags_of ks))) false (is_full (tags_of ks)) e)

pub line_free : (ks : List Kept) (masked : Bool) (level : ℕ) (pending : Bool) → line_held ks masked level pending ≡ None → length ks < 8
line_free ks masked level pending e = few ks (not_full masked (not (causes.line_level_allows (tags_of ks) level)) false (not pending) (is_full (tags_of ks)) e)

-- a fill that isn't held is of an array that is there
pub fill_there : (masked there busy : Bool) → fill_cause masked there busy ≡ None → there ≡ true
fill_there masked true busy e = refl
fill_there masked false busy e = absurd (cc)

pub fill_below : (order : Order) (at c : ℕ) (words : List ℕ) → filled order ≡ Some at → order ≡ Fill c words → at < 16 → c < 16
fill_below order at c words e is lt = let same : at ≡ c = cc (e, ap filled is) in omega (arith, same, lt)

pub none_filled : (order : Order) (c : ℕ) (words : List ℕ) → filled order ≡ None → order ≡ Fill c words → ⊥
none_filled order c words e is = let some : Some c ≡ None = sym (ap filled is) ∙ e in absurd (cc some)

-- ---- what is held in a place

pub any_origin : {A B : Type 0} (f : A → B) (test : B → Bool) (xs : List A) → list_any (λ x. test (f x)) xs ≡ list_any test (map f xs)
any_origin f test [] = refl
any_origin f test (x ∷ xs) = ap (λ b. test (f x) || b) (any_origin f test xs)

module _ {State Call : Type 0} (g : Setting State Call) (m : Moment State Call) where
  -- an order that fills an array, and another one
  pub fill_held : (order : Order) (channel : ℕ) → filled order ≡ Some channel
      → hardware_held g m order ≡ fill_cause (is_masked m.chip) (g.fills channel) (is_busy g m.world m.state (origins_of m.opens) channel)
  fill_held (Fill c ws) channel e = let same : c ≡ channel = cc in ap (λ n. fill_cause (is_masked m.chip) (g.fills n) (is_busy g m.world m.state (origins_of m.opens) n)) same
  fill_held _ channel e = absurd (cc)

  pub other_held : (order : Order) → filled order ≡ None → hardware_held g m order ≡ other_cause m.world.devices order
  other_held (Fill c ws) e = absurd (cc)
  other_held Detach e = refl
  other_held _ e = refl

-- ---- what a frame is begun for

module _ {State C : Type 0} (g : Setting State C) where
  pub purpose_called : (asked : ℕ) (task : Task) (c : C) → IsTask g asked task (Called c) → purpose_by task ≡ purposes.Call (g.machine.service_of c)
  purpose_called asked (Call k) c h = ap (λ s. purposes.Call s) (sym h.service)
  purpose_called asked (Line l) c h = absurd h

  pub purpose_entered : (asked : ℕ) (task : Task) (l : ℕ) → IsTask g asked task (Entered l) → purpose_by task ≡ purposes.Handler l
  purpose_entered asked (Call k) l h = absurd h
  purpose_entered asked (Line k) l h = ap (λ n. purposes.Handler n) h.0

-- ---- in a place

module _ {Parts Table State Call : Type 0} (agrees : Agreeing Table State) (setting : Table → Setting State Call) (table : Parts → Table) (stands : Parts → State → Type 0)
    (t : Table) (a : Auditing Parts Call) (p : AuditState State Call) (s : Stands agrees setting table stands t a p) where
  masked_is : (masked : Bool) → masked ≡ is_masked a.chip → masked ≡ is_masked p.moment.chip
  masked_is masked e = e ∙ ap is_masked s.chip

  pub call_held_is : (call : Call) (level : ℕ) (masked : Bool) (class : Class) → masked ≡ is_masked a.chip → class ≡ (setting (table a.parts)).class_of call
      → call_held a.frames masked class level ≡ follows.call_held (setting t) p.moment call level
  call_held_is call level masked class closed is =
      (holds (setting t) a.frames p.moment.opens masked class level false s.frames).0
      ∙ (ap (λ b. causes.call_cause b (causes.tags_of p.moment.opens) (causes.top_noted p.moment.opens) class level) (masked_is masked closed)
      ∙ ap (λ k. causes.call_cause (is_masked p.moment.chip) (causes.tags_of p.moment.opens) (causes.top_noted p.moment.opens) k level) (is ∙ ap (λ x. (setting x).class_of call) s.kept_of))

  pub line_held_is : (line level : ℕ) (masked pending : Bool) → masked ≡ is_masked a.chip → level ≡ (setting (table a.parts)).level_of line → pending ≡ is_pending a.chip line
      → line_held a.frames masked level pending ≡ follows.line_held (setting t) p.moment line
  line_held_is line level masked pending closed is waits =
      (holds (setting t) a.frames p.moment.opens masked (causes.guarded Mcu) level pending s.frames).1
      ∙ (ap (λ b. causes.line_cause b (causes.tags_of p.moment.opens) level pending) (masked_is masked closed)
      ∙ (ap (λ n. causes.line_cause (is_masked p.moment.chip) (causes.tags_of p.moment.opens) n pending) (is ∙ ap (λ x. (setting x).level_of line) s.kept_of)
      ∙ ap (λ b. causes.line_cause (is_masked p.moment.chip) (causes.tags_of p.moment.opens) ((setting t).level_of line) b) (waits ∙ ap (λ c. is_pending c line) s.chip)))

  pub fill_is : (channel : ℕ) (masked there used read : Bool) → masked ≡ is_masked a.chip → there ≡ (setting (table a.parts)).fills channel
      → used ≡ (setting (table a.parts)).in_use p.moment.world p.moment.state channel → read ≡ list_any (reads_from (setting (table a.parts)) channel) a.origins
      → fill_cause masked there (used || read) ≡ fill_cause (is_masked p.moment.chip) ((setting t).fills channel) (is_busy (setting t) p.moment.world p.moment.state (origins_of p.moment.opens) channel)
  fill_is channel masked there used read closed is uses reads =
      ap (λ b. fill_cause b there (used || read)) (masked_is masked closed)
      ∙ (ap (λ b. fill_cause (is_masked p.moment.chip) b (used || read)) (is ∙ ap (λ x. (setting x).fills channel) s.kept_of)
      ∙ (ap (λ b. fill_cause (is_masked p.moment.chip) ((setting t).fills channel) (b || read)) (uses ∙ ap (λ x. (setting x).in_use p.moment.world p.moment.state channel) s.kept_of)
      ∙ ap (λ b. fill_cause (is_masked p.moment.chip) ((setting t).fills channel) ((setting t).in_use p.moment.world p.moment.state channel || b))
      (reads ∙ (ap (λ x. list_any (reads_from (setting x) channel) a.origins) s.kept_of ∙ ap (λ xs. list_any (reads_from (setting t) channel) xs) s.origins))))

  pub other_is : (order : Order) → other_cause a.devices order ≡ other_cause p.moment.world.devices order
  other_is order = ap (λ n. other_cause n order) (sym (s.devices ∙ s.hung))
