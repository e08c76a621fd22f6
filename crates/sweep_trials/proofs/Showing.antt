-- The rows of an outcome, one range after another.
use Rattle.std.proofs.Common.{◌≡◌, ◌∙◌, ℕ, ◌+◌, ◌-◌, All, List, [], ◌∷◌, ◌++◌, Some, inl, inr, length, length-append, sym, subst, ap, arith}
use Rattle.std.specs.Prelude.{min, slice_get}
use Rattle.std.proofs.lemmas.List.Elements.{All-get_or}
use Rattle.std.proofs.lemmas.Option.{get_or_from_slice_get, same_Some, slice_get_within}
use Rattle.mcal_base.specs.declared.directive.Directive.{Directive}
use Rattle.bench_sweep.proofs.Differing.{get_of_more}
use Rattle.bench_sweep.proofs.Ranged.{pushed}
use Rattle.bench_sweep.specs.Groups.{IsRangeOf}
use Rattle.bench_sweep.specs.declared.groups.Range.{Range}
use Rattle.sweep_trials.specs.Rows.{AreFirstRows, IsRowAt, IsRowOf}
use Rattle.sweep_trials.specs.declared.opened.Opened.{Opened}
use Rattle.sweep_trials.specs.declared.reactions.Following.{Following}
use Rattle.sweep_trials.specs.declared.seen.RunSeen.{RunSeen}
use Rattle.sweep_trials.specs.declared.summary.Row.{Row}
use Rattle.sweep_trials.specs.declared.swept.Swept.{Swept}

-- each row is that of its range
abbrev pub AreShown : (of_range : Range → Row → Type 0) → List Range → List Row → Type 0
AreShown of_range ranges rows = (k : ℕ) (range : Range) (row : Row) → slice_get ranges k ≡ Some range → slice_get rows k ≡ Some row → of_range range row

pub none_shown : (of_range : Range → Row → Type 0) (ranges : List Range) (rows : List Row) → rows ≡ [] → AreShown of_range ranges rows
none_shown of_range ranges rows e = subst (λ (rs : List Row). AreShown of_range ranges rs) (sym e) (λ k range row g h. absurd (cc))

-- one row more
pub shown_more : (of_range : Range → Row → Type 0) (ranges : List Range) (rows next : List Row) (range : Range) (row : Row) (place : ℕ) → length rows ≡ place → slice_get ranges place ≡ Some range → of_range range row → next ≡ rows ++ row ∷ [] → AreShown of_range ranges rows → AreShown of_range ranges next
shown_more of_range ranges rows next range row place c at is e all = subst (λ (rs : List Row). AreShown of_range ranges rs) (sym e) (λ k r x g h. elim (get_of_more rows row k x h) [
  | inl i ↦ all k r x g i
  | inr i ↦
      let here : slice_get ranges place ≡ Some r = subst (λ (n : ℕ). slice_get ranges n ≡ Some r) (i.0 ∙ c) g in
      subst (λ (y : Row). of_range r y) (sym i.1) (subst (λ (z : Range). of_range z row) (same_Some range r (sym at ∙ here)) is)
])

all_at : {X : Type 0} (P : X → Type 0) (xs : List X) (i : ℕ) (x : X) → slice_get xs i ≡ Some x → All P xs → P x
all_at P xs i x g all = subst P (get_or_from_slice_get xs i x x g) (All-get_or P xs i x (slice_get_within xs i x g) all)

pub row_more : (of_run : List Directive → RunSeen → Type 0) (following : Following) (placed : List Directive) (o : Opened) (s : Swept) (outcome : ℕ) (ranges : List Range) (rows next : List Row) (range : Range) (row : Row) (place : ℕ) → slice_get ranges place ≡ Some range → All (IsRangeOf s.settled.items outcome) ranges → IsRowAt of_run following placed o s range row → next ≡ rows ++ row ∷ [] → All (IsRowOf of_run following placed o s outcome) rows → All (IsRowOf of_run following placed o s outcome) next
row_more of_run following placed o s outcome ranges rows next range row place at each is e all =
    pushed (IsRowOf of_run following placed o s outcome) rows next row e all (record { range = range; places = all_at (IsRangeOf s.settled.items outcome) ranges place range at each; at = is })

pub count_more : (rows next : List Row) (row : Row) (place : ℕ) → length rows ≡ place → next ≡ rows ++ row ∷ [] → length next ≡ place + 1
count_more rows next row place c e = let more : length next ≡ length rows + 1 = ap length e ∙ length-append rows (row ∷ []) in more ∙ ap (λ (n : ℕ). n + 1) c

-- all rows that are shown
pub first_rows : (of_range : Range → Row → Type 0) (ranges found : List Range) (rows : List Row) (most shown more place : ℕ) → found ≡ ranges → AreShown of_range found rows → length rows ≡ place → place ≡ shown → shown ≡ min (length found) most → more + shown ≡ length found → AreFirstRows of_range ranges most rows more
first_rows of_range ranges found rows most shown more place e all c d s m = subst (λ (rs : List Range). AreFirstRows of_range rs most rows more) e (record {
  each = all;
  shown = omega (arith, c, d, s);
  others = omega (arith, c, d, m);
})
