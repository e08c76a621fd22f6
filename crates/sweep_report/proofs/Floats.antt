-- No number of a sweep's JSON has a point.
use Rattle.std.proofs.Common.{◌≡◌, ◌∙◌, ℕ, ◌++◌, ◌||◌, ◌&&◌, Bool, true, false, List, [], ◌∷◌, refl, ap, subst}
use Rattle.std.specs.Prelude.{IfOk, Result, String, codes, flat_map, map, string_bytes, if◌then◌else◌}
use Rattle.std.specs.declared.alloc.Global.{Global}
use Rattle.std.specs.Str.Lines.{lines}
use Rattle.serde_json.specs.Data.{Data, string}
use Rattle.serde_json.specs.View.{items_of}
use Rattle.serde_json.specs.Written.{compact_text, has_float, items_have_float}
use Rattle.mcal_base.specs.declared.directive.Directive.{Directive}
use Rattle.bench_sweep.specs.declared.outcomes.Told.{Told}
use Rattle.sweep_trials.specs.declared.reactions.Reaction.{Reaction}
use Rattle.sweep_trials.specs.declared.summary.Group.{Group}
use Rattle.sweep_report.specs.Json.{group_data, json_line, line_data, part_data, reactions_data, row_data, shared_data, sweep_data, told_data, unshared_data}
use Rattle.sweep_report.specs.Page.{first_told}
use Rattle.sweep_report.specs.Table.{Table, asked_on, is_common, is_listed, told_at}

abbrev ArePlain : List Data → Type 0
ArePlain ds = items_have_float (items_of ds) ≡ false

plain_both : (a b : Bool) → a ≡ false → b ≡ false → (a || b) ≡ false
plain_both a b f g = rw (f, g) refl

plain_map : {X : Type 0} (f : X → Data) → ((x : X) → has_float (f x) ≡ false) → (xs : List X) → ArePlain (map f xs)
plain_map f h [] = refl
plain_map f h (x ∷ xs) = plain_both (has_float (f x)) (items_have_float (items_of (map f xs))) (h x) (plain_map f h xs)

plain_first : (p q r : Bool) → (p || q) ≡ false → (q ≡ false → r ≡ false) → (p || r) ≡ false
plain_first true q r a h = a
plain_first false q r a h = h a

plain_append : (xs ys : List Data) → ArePlain xs → ArePlain ys → ArePlain (xs ++ ys)
plain_append [] ys a b = b
plain_append (x ∷ xs) ys a b = plain_first (has_float x) (items_have_float (items_of xs)) (items_have_float (items_of (xs ++ ys))) a (λ h. plain_append xs ys h b)

plain_flat : {X : Type 0} (f : X → List Data) → ((x : X) → ArePlain (f x)) → (xs : List X) → ArePlain (flat_map f xs)
plain_flat f h [] = refl
plain_flat f h (x ∷ xs) = plain_append (f x) (flat_map f xs) (h x) (plain_flat f h xs)

plain_told : (told : Told) → ArePlain (told_data told)
plain_told told = plain_map (line_data told.line) (λ line. refl) (lines (string_bytes told.text))

plain_if : (b : Bool) (ds : List Data) → ArePlain ds → ArePlain (if b then ds else [])
plain_if true ds h = h
plain_if false ds h = refl

plain_unless : (b : Bool) (ds : List Data) → ArePlain ds → ArePlain (if b then [] else ds)
plain_unless true ds h = refl
plain_unless false ds h = h

plain_group : (t : Table) (g : Group) → has_float (group_data t g) ≡ false
plain_group t g =
    let outcomes = t.swept.outcomes.items in
    let told = plain_flat (unshared_data outcomes t.groups) (λ x. plain_unless (is_common outcomes t.groups x) (told_data x) (plain_told x)) (told_at outcomes g.outcome) in
    let rows = plain_map row_data (λ r. refl) g.rows.items in
    rw (told, rows) refl

plain_part : (script : List ℕ) (ds : List Directive) → has_float (part_data script ds) ≡ false
plain_part script ds = plain_map (λ (d : Directive). string (asked_on script d.line)) (λ d. refl) ds

plain_reactions : (script : List ℕ) (rs : List Reaction) → has_float (reactions_data script rs) ≡ false
plain_reactions script rs = plain_map (λ (r : Reaction). string (asked_on script r.directive.line)) (λ r. refl) rs

pub plain_sweep : (t : Table) → has_float (sweep_data t) ≡ false
plain_sweep t =
    let outcomes = t.swept.outcomes.items in
    let common = plain_flat (shared_data t) (λ x. plain_if (is_listed t.pieces.swept t.reactions x.line && is_common outcomes t.groups x) (told_data x) (plain_told x)) (first_told t) in
    let groups = plain_map (group_data t) (plain_group t) t.groups in
    rw (plain_part t.script t.pieces.second, common, plain_reactions t.script t.reactions, groups, plain_part t.script t.pieces.block, plain_part t.script t.pieces.swept) refl

-- the line of what is a sweep's value
pub plain_line : {E : Type 0} (v : Data) (t : Table) (o : Result (String Global) E) → v ≡ sweep_data t → (has_float v ≡ false → IfOk o (λ text. string_bytes text ≡ compact_text v ++ codes "\n")) → IfOk o (λ text. string_bytes text ≡ json_line t)
plain_line v t o e h = subst (λ (d : Data). IfOk o (λ text. string_bytes text ≡ compact_text d ++ codes "\n")) e (h (ap has_float e ∙ plain_sweep t))
