-- Whether a frame ends with a step is read from the block: the line of its end comes next exactly where it does.
use Rattle.std.proofs.Common.{◌≡◌, ◌≢◌, ℕ, Bool, true, false, List, [], ◌∷◌, ◌++◌, Option, Some, None, refl, sym, ◌∙◌, ap, subst, append_assoc, length, length-append, arith}
use Rattle.std.specs.Prelude.{IsSome, codes, cond, decimal, is_some, slice_index_or}
use Rattle.std.proofs.lemmas.List.{append-nil, append_cancel_left}
use Rattle.bench_report.specs.Lines.{Line, Holds, Makes, Waits, Notes, Errs, Returns, Leaves, Restarts, Shows, Done, line_text, numbered}
use Rattle.bench_report.specs.Report.{end_lines}
use Rattle.bench_report.specs.declared.frames.Purpose.{Purpose}
use Rattle.bench_report.specs.declared.frames.Purpose.TheVariants as purposes
use Rattle.mcal_base.specs.declared.answer.Answer.{Answer}
use Rattle.mcal_base.specs.declared.answer.Head.{Head}
use Rattle.mcal_base.specs.declared.moves.Event.{Event}
use Rattle.mcal_base.specs.declared.service.Service.{Service}
use Rattle.mcal_base.specs.facts.Truths.{off_on}
use Rattle.run_model.specs.Machine.{Told}
use Rattle.audit_frames.specs.Kept.{Kept}
use Rattle.report_text.specs.reading.Blocks.{printed}
use Rattle.report_auditor.specs.Auditing.{purpose_by, purposes_by}
use Rattle.report_steps.specs.StepParts.{end_answer, end_by}
use Rattle.report_steps.specs.StepRules.{NoEnd, moves_on}
use Rattle.report_steps.proofs.SoFarLaws.{front_is, printed_on, rest_is}

-- ---- two lines

-- what two lines say behind one number
behind_number : (n : ℕ) (l k : Line) (a b : List ℕ) → numbered n l ++ a ≡ numbered n k ++ b → (line_text l ++ codes "\n") ++ a ≡ (line_text k ++ codes "\n") ++ b
behind_number n l k a b e =
    append_cancel_left (codes " ") _ _ (sym (append_assoc (codes " ") (line_text l ++ codes "\n") a)
    ∙ (append_cancel_left (decimal n) _ _ (sym (append_assoc (decimal n) (codes " " ++ (line_text l ++ codes "\n")) a) ∙ (e ∙ append_assoc (decimal n) (codes " " ++ (line_text k ++ codes "\n")) b))
    ∙ append_assoc (codes " ") (line_text k ++ codes "\n") b))

-- texts that differ at a place aren't one
apart : (xs ys : List ℕ) (i a b : ℕ) → slice_index_or xs i 0 ≡ a → slice_index_or ys i 0 ≡ b → a ≢ b → xs ≡ ys → ⊥
apart xs ys i a b x y differ e = differ (sym x ∙ (ap (λ zs. slice_index_or zs i 0) e ∙ y))

s_isnt_r : ◌≢◌ {A = ℕ} 115 114
s_isnt_r e = omega (arith, e)

s_isnt_l : ◌≢◌ {A = ℕ} 115 108
s_isnt_l e = omega (arith, e)

s_isnt_t : ◌≢◌ {A = ℕ} 115 116
s_isnt_t e = omega (arith, e)

r_isnt_l : ◌≢◌ {A = ℕ} 114 108
r_isnt_l e = omega (arith, e)

o_isnt_r : ◌≢◌ {A = ℕ} 111 114
o_isnt_r e = omega (arith, e)

o_isnt_l : ◌≢◌ {A = ℕ} 111 108
o_isnt_l e = omega (arith, e)

-- no line that moves a run on is that of an end
isnt_return : (n : ℕ) (l : Line) (service : Service) (head : Head) (words a b : List ℕ) → moves_on l ≡ true → numbered n l ++ a ≡ numbered n (Returns service head words) ++ b → ⊥
isnt_return n (Makes depth made value received event) service head words a b on e = apart _ _ 0 115 114 refl refl s_isnt_r (behind_number n (Makes depth made value received event) (Returns service head words) a b e)
isnt_return n (Waits ticks) service head words a b on e = apart _ _ 0 115 114 refl refl s_isnt_r (behind_number n (Waits ticks) (Returns service head words) a b e)
isnt_return n (Restarts reason dropped) service head words a b on e = apart _ _ 2 115 116 refl refl s_isnt_t (behind_number n (Restarts reason dropped) (Returns service head words) a b e)
isnt_return n Done service head words a b on e = apart _ _ 0 111 114 refl refl o_isnt_r (behind_number n Done (Returns service head words) a b e)
isnt_return n (Holds c) service head words a b on e = off_on on
isnt_return n (Notes x) service head words a b on e = off_on on
isnt_return n (Errs x) service head words a b on e = off_on on
isnt_return n (Returns s h ws) service head words a b on e = off_on on
isnt_return n (Leaves k) service head words a b on e = off_on on
isnt_return n (Shows row) service head words a b on e = off_on on

isnt_leave : (n : ℕ) (l : Line) (line : ℕ) (a b : List ℕ) → moves_on l ≡ true → numbered n l ++ a ≡ numbered n (Leaves line) ++ b → ⊥
isnt_leave n (Makes depth made value received event) line a b on e = apart _ _ 0 115 108 refl refl s_isnt_l (behind_number n (Makes depth made value received event) (Leaves line) a b e)
isnt_leave n (Waits ticks) line a b on e = apart _ _ 0 115 108 refl refl s_isnt_l (behind_number n (Waits ticks) (Leaves line) a b e)
isnt_leave n (Restarts reason dropped) line a b on e = apart _ _ 0 114 108 refl refl r_isnt_l (behind_number n (Restarts reason dropped) (Leaves line) a b e)
isnt_leave n Done line a b on e = apart _ _ 0 111 108 refl refl o_isnt_l (behind_number n Done (Leaves line) a b e)
isnt_leave n (Holds c) line a b on e = off_on on
isnt_leave n (Notes x) line a b on e = off_on on
isnt_leave n (Errs x) line a b on e = off_on on
isnt_leave n (Returns s h ws) line a b on e = off_on on
isnt_leave n (Leaves k) line a b on e = off_on on
isnt_leave n (Shows row) line a b on e = off_on on

-- ---- the line of an end

-- a line isn't nothing
some_there : (n : ℕ) (l : Line) (rest : List ℕ) → length (numbered n l ++ rest) ≡ 0 → ⊥
some_there n l rest e =
    let a = length-append (decimal n) (codes " " ++ (line_text l ++ codes "\n")) in
    let b = length-append (numbered n l) rest in
    omega (arith, e, a, b)

nothing : (n : ℕ) (l : Line) (rest : List ℕ) → [] ≡ printed n (l ∷ []) ++ rest → ⊥
nothing n l rest e = some_there n l ([] ++ rest) (ap length (sym (append_assoc (numbered n l) [] rest)) ∙ sym (ap length e))

-- it doesn't stand before lines that move a run on
pub no_end_comes : (n : ℕ) (purpose : Purpose) (frames : List Purpose) (answer : Answer) (more : List Line) (rest : List ℕ) → NoEnd more
    → printed n more ≡ printed n (end_lines (purpose ∷ frames) (Some answer)) ++ rest → ⊥
no_end_comes n (purposes.Call service) frames answer [] rest h e = nothing n (Returns service answer.head answer.words) rest e
no_end_comes n (purposes.Handler line) frames answer [] rest h e = nothing n (Leaves line) rest e
no_end_comes n (purposes.Call service) frames answer (l ∷ more) rest h e =
    isnt_return n l service answer.head answer.words (printed n more) ([] ++ rest) h (e ∙ append_assoc (numbered n (Returns service answer.head answer.words)) [] rest)
no_end_comes n (purposes.Handler line) frames answer (l ∷ more) rest h e = isnt_leave n l line (printed n more) ([] ++ rest) h (e ∙ append_assoc (numbered n (Leaves line)) [] rest)

-- ---- whether it ended

-- the line of the end was taken, where it comes
pub record EndTaken (n : ℕ) (ks : List Kept) (e : Option Event) (t : Told) (ended : Bool) (mid rest : List ℕ) : Type 0 where
  pub answers : ended ≡ true → IsSome (end_answer ks e t)
  pub taken : ended ≡ true → mid ≡ printed n (end_by ks e t) ++ rest
  pub left : ended ≡ false → mid ≡ rest
  pub missing : ended ≡ false → IsSome (end_answer ks e t) → (more : List ℕ) → mid ≡ printed n (end_by ks e t) ++ more → ⊥

some_answer : (n : ℕ) (k : Kept) (ks : List Kept) (more : List Line) (rest : List ℕ) (x : Option Answer) → NoEnd more → IsSome x → printed n more ≡ printed n (end_lines (purposes_by (k ∷ ks)) x) ++ rest → ⊥
some_answer n k ks more rest None h some e = off_on some
some_answer n k ks more rest (Some a) h some e = no_end_comes n (purpose_by k.terms.task) (purposes_by ks) a more rest h e

module _ (n : ℕ) (frames : List Purpose) (k : Kept) (ks : List Kept) (e : Option Event) (t : Told) (same : frames ≡ purposes_by (k ∷ ks)) where
  -- the end of a step that the block tells is that which was taken
  pub ends_same : (ahead more : List Line) (text mid rest : List ℕ) (ended : Bool) (end : Option Answer) → text ≡ printed n ahead ++ mid → EndTaken n (k ∷ ks) e t ended mid rest → NoEnd more
      → text ≡ printed n ((ahead ++ end_lines frames end) ++ more) → end ≡ cond (is_some end) (end_answer (k ∷ ks) e t) None → is_some end ≡ ended
  ends_same ahead more text mid rest true (Some a) says taken h is answer = refl
  ends_same ahead more text mid rest false None says taken h is answer = refl
  ends_same ahead more text mid rest true None says taken h is answer =
      absurd (some_answer n k ks more rest (end_answer (k ∷ ks) e t) h (taken.answers refl)
      (sym (rest_is n text mid ahead more says (is ∙ ap (printed n) (append_assoc ahead [] more))) ∙ taken.taken refl))
  ends_same ahead more text mid rest false (Some a) says taken h is answer =
      let ends : mid ≡ printed n (end_lines frames (Some a) ++ more) = rest_is n text mid ahead (end_lines frames (Some a) ++ more) says (is ∙ ap (printed n) (append_assoc ahead (end_lines frames (Some a)) more)) in
      let lines : printed n (end_lines frames (Some a)) ≡ printed n (end_by (k ∷ ks) e t) = ap (λ fs. printed n (end_lines fs (Some a))) same ∙ ap (λ x. printed n (end_lines (purposes_by (k ∷ ks)) x)) answer in
      absurd (taken.missing refl (subst IsSome answer refl) (printed n more) (ends ∙ (printed_on n (end_lines frames (Some a)) more ∙ ap (λ z. z ++ printed n more) lines)))

  -- and the lines behind the step's own are those that were taken
  pub lines_taken : (ahead : List Line) (text mid rest : List ℕ) (ended : Bool) → text ≡ printed n ahead ++ mid → EndTaken n (k ∷ ks) e t ended mid rest
      → text ≡ printed n (ahead ++ end_lines frames (cond ended (end_answer (k ∷ ks) e t) None)) ++ rest
  lines_taken ahead text mid rest true says taken =
      front_is n text mid rest ahead (end_lines frames (end_answer (k ∷ ks) e t)) says (taken.taken refl ∙ ap (λ fs. printed n (end_lines fs (end_answer (k ∷ ks) e t)) ++ rest) (sym same))
  lines_taken ahead text mid rest false says taken = says ∙ (ap (λ ls. printed n ls ++ mid) (sym (append-nil ahead)) ∙ ap (λ z. printed n (ahead ++ []) ++ z) (taken.left refl))
