-- What is printed of a call, where the source tells its bytes.
use Rattle.std.proofs.Common.{◌≡◌, ◌≢◌, ◌∙◌, ◌<◌, ◌≤◌, ◌++◌, ℕ, List, [], false, Option, Some, None, append-nil, arith, inl, inr, length, refl, sym, subst, ap, ap₂}
use Rattle.std.specs.Prelude.{Result, Ok, Err, string_bytes}
use Rattle.std.specs.Option.{IfSome}
use Rattle.std.specs.Io.KnownBytes.{Consumes, IsAtEnd}
use Rattle.std.proofs.lemmas.Bool.Decides.{nat_tests}
use Rattle.bench_script.specs.Lines.{file}
use Rattle.bench_top.specs.Judged.{Ending, read_fault}
use Rattle.sweep_top.specs.Endings.{ended}
use Rattle.sweep_top.specs.Reads.{SweepFile, read, read_file}
use Rattle.sweep_top.specs.Sweeps.{EndsFile, EndsOn, EndsSo, IsEnding, IsPrinted, IsTold, ending_of, is_memory}
use Rattle.sweep_top.specs.declared.ends.SweepEnd.{SweepEnd}
use Rattle.sweep_top.specs.declared.ends.SweepEnd.TheVariants as ends
use Rattle.sweep_top.specs.declared.top.Printed.{Printed}
use Rattle.sweep_top.specs.declared.words.Asked.{Asked}
use Rattle.sweep_top.proofs.Ended.{ends_well}

-- the status of outcomes that are told is no other
told_not : (n k : ℕ) → IsTold n → 0 ≢ k → 8 ≢ k → n ≢ k
told_not n k (inl z) a b = λ e. a (sym z ∙ e)
told_not n k (inr z) a b = λ e. b (sym z ∙ e)

-- what is printed of bytes: of outcomes
pub told_ending : (asked : Asked) (read_as : Result SweepFile SweepEnd) (p : Printed) → EndsSo asked read_as (Ok p) → IsEnding (EndsFile asked read_as) p
told_ending asked read_as p (h, told) = record {
  ends = λ four. h;
  silent = λ four. absurd (told_not p.status 4 told (λ e. cc) (λ e. cc) four);
  source = told_not p.status 2 told (λ e. cc) (λ e. cc);
  sink = told_not p.status 3 told (λ e. cc) (λ e. cc);
}

-- what is printed is an ending that has its status and its text
pub ending_same : (p : Printed) (e : Ending) → p.status ≡ e.status → string_bytes p.text ≡ e.text → ending_of p ≡ e
ending_same p e s t =
    let with_text : ℕ → List ℕ → Ending = λ status text. record { status = status; text = text } in
    ap₂ with_text s t

-- ---- the line of a refusal, where memory was found for it

status_at : (x y : Ending) → x ≡ y → x.status ≡ y.status
status_at x y e = ap (λ (z : Ending). z.status) e

text_at : (x y : Ending) → x ≡ y → x.text ≡ y.text
text_at x y e = ap (λ (z : Ending). z.text) e

line_ending : (ends_as : Ending → Type 0) (end : SweepEnd) (p : Printed) → (is_memory end ≡ false → ends_as (ended end)) → ending_of p ≡ ended end → IsEnding ends_as p
line_ending ends_as end p h e =
    let s : p.status ≡ (ended end).status = status_at (ending_of p) (ended end) e in
    record {
      ends = λ four. subst ends_as (sym e) (h ((ends_well end).fails (λ q. four (s ∙ q))));
      silent = λ four. text_at (ending_of p) (ended end) e ∙ (ends_well end).four (sym s ∙ four);
      source = λ two. (ends_well end).two (sym s ∙ two);
      sink = λ three. (ends_well end).three (sym s ∙ three);
    }

pub refused_ending : (ends_as : Ending → Type 0) (end : SweepEnd) (o : Option Printed) → (is_memory end ≡ false → ends_as (ended end)) → IfSome o (λ p. ending_of p ≡ ended end) → IfSome o (IsEnding ends_as)
refused_ending ends_as end None h e = tt
refused_ending ends_as end (Some p) h e = line_ending ends_as end p h e

-- ---- what is printed of a call

called : (left : Option (List ℕ)) (form : Option Asked) (rose : Type 0) (p : Printed) → IsEnding (λ ending. IfSome left (λ bytes. EndsOn form bytes ending)) p → IsPrinted left form rose p
called left form rose p h = record { exact = λ two four. h.ends four; silent = h.silent; read = λ two. absurd (h.source two); sink = h.sink }

called_so : (left : Option (List ℕ)) (form : Option Asked) (rose : Type 0) (o : Option Printed) → IfSome o (IsEnding (λ ending. IfSome left (λ bytes. EndsOn form bytes ending))) → IfSome o (IsPrinted left form rose)
called_so left form rose None h = tt
called_so left form rose (Some p) h = called left form rose p h

usage_at : (left : Option (List ℕ)) (form : Option Asked) → form ≡ None → IfSome left (λ bytes. EndsOn form bytes (ended ends.Usage))
usage_at None form e = tt
usage_at (Some bytes) form e = subst (λ (o : Option Asked). EndsOn o bytes (ended ends.Usage)) (sym e) refl

-- words that are of no form
pub usage_printed : (left : Option (List ℕ)) (form : Option Asked) (rose : Type 0) (o : Option Printed) → form ≡ None → IfSome o (λ p. ending_of p ≡ ended ends.Usage) → IfSome o (IsPrinted left form rose)
usage_printed left form rose o e h = called_so left form rose o (refused_ending (λ ending. IfSome left (λ bytes. EndsOn form bytes ending)) ends.Usage o (λ m. usage_at left form e) h)

many_read : (bytes : List ℕ) → 1048576 < length bytes → read bytes ≡ Err ends.TooManyBytes
many_read bytes h = grind (arith, nat_tests)

many_at : (left : Option (List ℕ)) (form : Option Asked) (asked : Asked) → form ≡ Some asked → IfSome left (λ bytes. 1048576 < length bytes) → IfSome left (λ bytes. EndsOn form bytes (ended ends.TooManyBytes))
many_at None form asked e h = tt
many_at (Some bytes) form asked e h =
    subst (λ (o : Option Asked). EndsOn o bytes (ended ends.TooManyBytes)) (sym e) (subst (λ (x : Result SweepFile SweepEnd). EndsFile asked x (ended ends.TooManyBytes)) (sym (many_read bytes h)) refl)

-- more bytes than an input may have
pub many_printed : (left : Option (List ℕ)) (form : Option Asked) (rose : Type 0) (asked : Asked) (o : Option Printed) → form ≡ Some asked → IfSome left (λ bytes. 1048576 < length bytes) → IfSome o (λ p. ending_of p ≡ ended ends.TooManyBytes) → IfSome o (IsPrinted left form rose)
many_printed left form rose asked o e l h = called_so left form rose o (refused_ending (λ ending. IfSome left (λ bytes. EndsOn form bytes ending)) ends.TooManyBytes o (λ m. many_at left form asked e l) h)

-- a fault of the source
pub failed_printed : (left : Option (List ℕ)) (form : Option Asked) (rose : Type 0) (o : Option Printed) → rose → IfSome o (λ p. ending_of p ≡ read_fault) → IfSome o (IsPrinted left form rose)
failed_printed left form rose None r h = tt
failed_printed left form rose (Some p) r h =
    let s : p.status ≡ 2 = status_at (ending_of p) read_fault h in
    record {
      exact = λ two. absurd (two s);
      silent = λ four. let never : 2 ≡ 4 = sym s ∙ four in absurd (cc);
      read = λ two. (r, text_at (ending_of p) read_fault h);
      sink = λ three. let never : 2 ≡ 3 = sym s ∙ three in absurd (cc);
    }

few_read : (xs bytes ys : List ℕ) → xs ≡ bytes ++ ys → ys ≡ [] → length bytes ≤ 1048576 → read xs ≡ read_file (file bytes)
few_read xs bytes ys e n h =
    let same : xs ≡ bytes = e ∙ ap (λ (zs : List ℕ). bytes ++ zs) n ∙ append-nil bytes in
    subst (λ (zs : List ℕ). read zs ≡ read_file (file bytes)) (sym same) (grind (arith, nat_tests))

file_ending : (xs : List ℕ) (form : Option Asked) (asked : Asked) (bytes ys : List ℕ) (p : Printed) → form ≡ Some asked → xs ≡ bytes ++ ys → ys ≡ [] → length bytes ≤ 1048576 → IsEnding (EndsFile asked (read_file (file bytes))) p → IsEnding (λ ending. EndsOn form xs ending) p
file_ending xs form asked bytes ys p e c n l h = record {
  ends = λ four. subst (λ (o : Option Asked). EndsOn o xs (ending_of p)) (sym e) (subst (λ (x : Result SweepFile SweepEnd). EndsFile asked x (ending_of p)) (sym (few_read xs bytes ys c n l)) (h.ends four));
  silent = h.silent;
  source = h.source;
  sink = h.sink;
}

-- what was read to the end
pub file_printed : (left new : Option (List ℕ)) (form : Option Asked) (rose : Type 0) (asked : Asked) (bytes : List ℕ) (o : Option Printed) → form ≡ Some asked → Consumes left new bytes → IsAtEnd new → length bytes ≤ 1048576 → IfSome o (IsEnding (EndsFile asked (read_file (file bytes)))) → IfSome o (IsPrinted left form rose)
file_printed left new form rose asked bytes None e c n l h = tt
file_printed None new form rose asked bytes (Some p) e c n l h = called None form rose p (record { ends = λ four. tt; silent = h.silent; source = h.source; sink = h.sink })
file_printed (Some xs) None form rose asked bytes (Some p) e c n l h = absurd c
file_printed (Some xs) (Some ys) form rose asked bytes (Some p) e c n l h = called (Some xs) form rose p (file_ending xs form asked bytes ys p e c n l h)

-- ---- the source met no fault, where its line isn't printed

pub still_any : (o : Option Printed) (X : Type 0) → X → IfSome o (λ p. p.status ≢ 2 → X)
still_any None X x = tt
still_any (Some p) X x = λ two. x

pub still_failed : (o : Option Printed) (X : Type 0) → IfSome o (λ p. ending_of p ≡ read_fault) → IfSome o (λ p. p.status ≢ 2 → X)
still_failed None X h = tt
still_failed (Some p) X h = λ two. absurd (two (status_at (ending_of p) read_fault h))
