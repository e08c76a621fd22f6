-- The tree of a text, and a tree without keys.
use Rattle.std.proofs.Common.{◌≡◌, ℕ, List, [], ◌∷◌, Bool, true, false, length, refl, Some, None, inl, inr, arith, IsTrue}
use Rattle.std.specs.Prelude.{String}
use Rattle.std.specs.declared.alloc.Global.{Global}
use Rattle.std.specs.Str.{IsUtf8, is_utf8}
use Rattle.std.proofs.lemmas.Bool.{cases_Bool}
use Rattle.std.proofs.lemmas.Str.{IsUtf8-from_is_utf8, is_utf8-from_IsUtf8}
use Rattle.toml.specs.Data.{Members}
use Rattle.toml.specs.Parse.{parse_document}
use Rattle.toml.specs.View.{members_view}
use Rattle.toml.specs.declared.value.Value.{Value}
use Rattle.mcal_config.specs.Whole.{tree_of, is_bare}

pub tree_good : (text : List ℕ) (ms : Members) → IsUtf8 text → parse_document text ≡ Some ms → tree_of text ≡ Some ms
tree_good text ms u p = rw (is_utf8-from_IsUtf8 text u) p

pub tree_bad : (text : List ℕ) → (IsUtf8 text → parse_document text ≡ None) → tree_of text ≡ None
tree_bad text h = elim (cases_Bool (is_utf8 text)) as (λ _. tree_of text ≡ None) [ inl t ↦ rw t (h (IsUtf8-from_is_utf8 text t)) | inr f ↦ rw f refl ]

pub bare_seen : (b : Bool) (es : List (String Global × Value)) → (IsTrue b → length es ≡ 0) → (length es ≡ 0 → IsTrue b) → b ≡ is_bare (members_view es)
bare_seen true [] h k = refl
bare_seen false [] h k = k refl
bare_seen true (e ∷ es) h k = let z : length (e ∷ es) ≡ 0 = h refl in absurd (omega arith)
bare_seen false (e ∷ es) h k = refl
