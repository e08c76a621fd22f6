-- A line that asks for a call to its end.
use Rattle.std.proofs.Common.{◌≡◌, List, ℕ, ◌++◌, false, refl, sym}
use Rattle.std.specs.Prelude.{codes}
use Rattle.std.specs.Str.Pattern.{LacksTextAt}
use Rattle.std.proofs.lemmas.Str.Pattern.{starts_text}
use Rattle.bench_sweep.specs.Spoken.{call_text}

pub call_behind : (asked behind : List ℕ) → asked ≡ codes "do" ++ behind → call_text asked ≡ codes "call" ++ behind
call_behind asked behind e = rw e refl

pub call_other : (asked : List ℕ) → LacksTextAt (codes "do") asked 0 → call_text asked ≡ asked
call_other asked h = rw (sym (starts_text false (codes "do") asked h)) refl
