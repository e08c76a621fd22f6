-- The block of a directive: where its lines were taken and nothing is left, it is that of legal items.
use Rattle.std.proofs.Common.{◌≡◌, ℕ, ◌+◌, Bool, true, false, List, [], ◌∷◌, ◌++◌, length, refl, sym, ◌∙◌, ap, subst, arith}
use Rattle.std.specs.Prelude.{if◌then◌else◌}
use Rattle.std.proofs.lemmas.List.{append-nil}
use Rattle.bench_report.specs.Showing.{Showing}
use Rattle.mcal_base.specs.declared.directive.Directive.{Directive}
use Rattle.mcal_base.specs.declared.directive.Request.{Request}
use Rattle.mcal_base.specs.facts.Truths.{off_on, on_off}
use Rattle.run_model.specs.Moment.{Setting}
use Rattle.report_text.specs.reading.Blocks.{AuditState, IsBlock, begins_with, behind, block_lines, own_lines, place_after, printed}
use Rattle.report_text.specs.Unread.{Unread, begun, is_empty, own, own_text}
use Rattle.report_text.proofs.Owning.{over, over_is}
use Rattle.trace_reader.specs.Reading.{parts_of}
use Rattle.report_steps.specs.Lines.{Advances}
use Rattle.report_audit.specs.Obeying.{BlockRight}
use Rattle.report_steps.specs.Taking.{Takes, Took}
use Rattle.report_audit.specs.Obeying.{PrintsItems}

-- ---- where no line is left

some_own : (b : Bool) (part : List ℕ) (xs ys zs : List (List ℕ)) → is_empty (if b then part ∷ xs else []) ≡ true → (if b then ys else zs) ≡ zs
some_own true part xs ys zs e = off_on e
some_own false part xs ys zs e = refl

all_behind : (n : ℕ) (parts : List (List ℕ)) → is_empty (own_lines n parts) ≡ true → behind n parts ≡ parts
all_behind n [] e = refl
all_behind n (part ∷ []) e = refl
all_behind n (part ∷ next ∷ parts) e = some_own (begins_with n part) part (own_lines n (next ∷ parts)) (behind n (next ∷ parts)) (part ∷ next ∷ parts) e

none_counted : (lines : List (List ℕ)) → is_empty lines ≡ true → length lines ≡ 0
none_counted [] e = refl
none_counted (line ∷ lines) e = off_on e

counted_all : (a b n m : ℕ) → a + n ≡ b + m → n ≡ 0 → a ≡ b + m
counted_all a b n m e none = omega (arith, e, none)

module _ {State Call : Type 0} (g : Setting State Call) (call_of : Request → Call) (showing : Showing State) (p : AuditState State Call) (d : Directive) (Stands : AuditState State Call → Type 0) (before after : Unread) where
  -- what a block is, its items print
  pub items_of_block : (text : List ℕ) (b : IsBlock g call_of showing p d text) → PrintsItems g call_of showing p d (block_lines g call_of showing p d b.items) (place_after g call_of showing p d b.items)
  items_of_block text b = record { items = b.items; fits = b.fits; gives = b.gives; legal = b.legal; prints = refl; leads = refl }

  -- the lines that were taken are the block
  is_block : Took (PrintsItems g call_of showing p d) Stands d.line (own_text (begun d.line before)) (own_text after) → own_text after ≡ [] → Advances (begun d.line before) after → is_empty (own after) ≡ true
      → BlockRight g call_of showing p d Stands before after true
  is_block took none on empty = record {
    block = record {
      items = took.prints.items;
      fits = took.prints.fits;
      gives = took.prints.gives;
      legal = took.prints.legal;
      prints = ap (printed d.line) took.prints.prints ∙ (sym (append-nil (printed d.line took.lines)) ∙ (ap (λ (z : List ℕ). printed d.line took.lines ++ z) (sym none) ∙ sym took.is));
    };
    stands = subst Stands (sym took.prints.leads) took.stands;
    left = sym (all_behind d.line (parts_of after.left) (subst (λ (n : ℕ). is_empty (own_lines n (parts_of after.left)) ≡ true) on.number empty)) ∙ on.later;
    read = counted_all after.read before.read (length (own after)) (length (own (begun d.line before))) on.counted (none_counted (own after) empty);
  }

  -- the block begins, and its lines are wrong
  pub block_wrong : (start : Unread) → start ≡ begun d.line before → (right : Bool) → right ≡ false → Takes right (PrintsItems g call_of showing p d) Stands start.number (own_text start) (own_text after) → BlockRight g call_of showing p d Stands before after false
  block_wrong start is true e takes = on_off e
  block_wrong start is false e takes = λ b. takes _ _ (items_of_block _ b) (ap own_text is ∙ (sym b.prints ∙ ap (λ (n : ℕ). printed n (block_lines g call_of showing p d b.items)) (sym (ap (λ (r : Unread). r.number) is))))

  over_right : (empty : Bool) → Took (PrintsItems g call_of showing p d) Stands d.line (own_text (begun d.line before)) (own_text after) → Advances (begun d.line before) after → empty ≡ is_empty (own after) → BlockRight g call_of showing p d Stands before after empty
  over_right true took on e = is_block took (over after (sym e)) on (sym e)
  over_right false took on e = λ b. off_on (e ∙ over_is after (took.whole _ _ (items_of_block _ b) (sym b.prints)))

  -- its lines are right, and then it is where no more is left
  pub block_right : (start : Unread) → start ≡ begun d.line before → (right : Bool) → right ≡ true → Takes right (PrintsItems g call_of showing p d) Stands start.number (own_text start) (own_text after) → Advances start after
      → (empty : Bool) → empty ≡ is_empty (own after) → BlockRight g call_of showing p d Stands before after empty
  block_right start is true r took on empty e =
      over_right empty (subst (λ (u : Unread). Took (PrintsItems g call_of showing p d) Stands u.number (own_text u) (own_text after)) is took) (subst (λ (u : Unread). Advances u after) is on) e
  block_right start is false r takes on empty e = off_on r
