-- The files that the lint finds right, and those that the bench checks.
use Rattle.std.proofs.Common.{◌≡◌, ℕ, ◌≤◌, refl, ap, ◌∙◌, arith, List, length, true, false, Option, Some, None, Ok, Err}
use Rattle.std.specs.Prelude.{Result, nat_le, ◌&&◌, IsSome, is_none, is_ok}
use Rattle.std.proofs.lemmas.Bool.{false≢true, and_from, and_parts}
use Rattle.std.proofs.lemmas.Bool.Decides.{nat_tests}
use Rattle.mcal_base.specs.declared.config.whole.Config.{Config}
use Rattle.mcal_base.specs.declared.directive.Directive.{Directive}
use Rattle.config_keys.specs.declared.fault.ConfigFault.{ConfigFault}
use Rattle.mcal_config.specs.Whole.{fault_of, record_of}
use Rattle.mcal_config.proofs.Recorded.{faultless}
use Rattle.bench_script.specs.Lines.{file}
use Rattle.bench_script.specs.Script.{script}
use Rattle.bench_script.specs.declared.fault.ScriptFault.{ScriptFault}
use Rattle.bench_top.specs.declared.words.Task.TheVariants.{Check}
use Rattle.bench_top.specs.Statuses.{IsChecked}
use Rattle.desk_lint.specs.WellFormed.{are_right, is_well_formed}

-- both tests of the two parts
no_fault : (f : Option ConfigFault) (r : Result (List Directive) ScriptFault) → (is_none f && is_ok r) ≡ true → f ≡ None
no_fault None r h = refl
no_fault (Some f) r h = absurd (false≢true h)

pub data IsReadAs (r : Result (List Directive) ScriptFault) : Type 0 where
  As : (directives : List Directive) → r ≡ Ok directives → IsReadAs r

is_read : (f : Option ConfigFault) (r : Result (List Directive) ScriptFault) → (is_none f && is_ok r) ≡ true → IsReadAs r
is_read None (Ok directives) h = As directives refl
is_read None (Err e) h = absurd (false≢true h)
is_read (Some f) r h = absurd (false≢true h)

pub data IsRecordedAs (o : Option Config) : Type 0 where
  IsThisFrame : (config : Config) → o ≡ Some config → IsRecordedAs o

is_recorded : (o : Option Config) → IsSome o → IsRecordedAs o
is_recorded (Some config) h = IsThisFrame config refl
is_recorded None h = absurd (false≢true h)

checked_by : (bytes front back : List ℕ) → length bytes ≤ 1048576 → file bytes ≡ Some (front, back) → fault_of front ≡ None → IsRecordedAs (record_of front) → IsReadAs (script back) → IsChecked Check bytes
checked_by bytes front back few parts clean (IsThisFrame config recorded) (As directives read) = record {
  config = config;
  directives = directives;
  asked = refl;
  read = record {
    back = back;
    configured = record { front = front; parts = record { few = few; parts = parts }; faultless = clean; recorded = recorded };
    read = read;
  };
}

checked_parts : (bytes : List ℕ) (o : Option (List ℕ × List ℕ)) → length bytes ≤ 1048576 → file bytes ≡ o → are_right o ≡ true → IsChecked Check bytes
checked_parts bytes None few parts right = absurd (false≢true right)
checked_parts bytes (Some p) few parts right =
    let clean = no_fault (fault_of p.0) (script p.1) right in
    checked_by bytes p.0 p.1 few parts clean (is_recorded (record_of p.0) (faultless p.0 clean)) (is_read (fault_of p.0) (script p.1) right)

few_of : (n : ℕ) → nat_le n 1048576 ≡ true → n ≤ 1048576
few_of n h = grind (arith, nat_tests, h)

many_of : (n : ℕ) → n ≤ 1048576 → nat_le n 1048576 ≡ true
many_of n h = grind (arith, nat_tests, h)

pub taken : (bytes : List ℕ) → is_well_formed bytes ≡ true → IsChecked Check bytes
taken bytes h =
    let both = and_parts (nat_le (length bytes) 1048576) (are_right (file bytes)) h in
    checked_parts bytes (file bytes) (few_of (length bytes) both.0) refl both.1

right_by : (p : List ℕ × List ℕ) (directives : List Directive) → fault_of p.0 ≡ None → script p.1 ≡ Ok directives → are_right (Some p) ≡ true
right_by p directives e f = and_from (is_none (fault_of p.0)) (is_ok (script p.1)) (ap is_none e) (ap is_ok f)

pub well_formed : (bytes : List ℕ) → IsChecked Check bytes → is_well_formed bytes ≡ true
well_formed bytes h =
    let config = h.read.configured in
    let right = right_by (config.front, h.read.back) h.directives config.faultless h.read.read in
    and_from (nat_le (length bytes) 1048576) (are_right (file bytes)) (many_of (length bytes) config.parts.few) (ap are_right config.parts.parts ∙ right)
