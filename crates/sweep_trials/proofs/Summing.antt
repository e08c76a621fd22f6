-- The groups of outcomes, and the numbers of their places.
use Rattle.std.proofs.Common.{◌≡◌, ℕ, ◌+◌, ◌<◌, All, List, [], ◌∷◌, ◌++◌, subst, length, map, take, get_or, refl, sym, ap₂, ◌∙◌}
use Rattle.std.specs.Prelude.{sum_by}
use Rattle.std.proofs.lemmas.List.{map-append, take_more}
use Rattle.std.proofs.lemmas.List.Sums.{sum_by-cons}
use Rattle.bench_sweep.proofs.Counted.{counts_sum_up}
use Rattle.bench_sweep.proofs.Ranged.{pushed}
use Rattle.bench_sweep.specs.Groups.{count_with, numbers_in}
use Rattle.bench_sweep.specs.declared.groups.Settled.{Settled}
use Rattle.sweep_trials.specs.declared.summary.Group.{Group}

pub outcomes_more : (groups next : List Group) (g : Group) (numbers : List ℕ) (i : ℕ) → i < length numbers → g.outcome ≡ get_or numbers i 0 → next ≡ groups ++ g ∷ [] → map (λ (x : Group). x.outcome) groups ≡ take i numbers → map (λ (x : Group). x.outcome) next ≡ take (i + 1) numbers
outcomes_more groups next g numbers i l o e h = rw (e, map-append (λ (x : Group). x.outcome) groups (g ∷ []), h, o) (sym (take_more numbers i 0 l))

pub places_more : (groups next : List Group) (g : Group) (numbers : List ℕ) (i : ℕ) (f : ℕ → ℕ) → i < length numbers → g.places ≡ f (get_or numbers i 0) → next ≡ groups ++ g ∷ [] → map (λ (x : Group). x.places) groups ≡ map f (take i numbers) → map (λ (x : Group). x.places) next ≡ map f (take (i + 1) numbers)
places_more groups next g numbers i f l o e h = rw (e, map-append (λ (x : Group). x.places) groups (g ∷ []), h, o, take_more numbers i 0 l) (sym (map-append f (take i numbers) (get_or numbers i 0 ∷ [])))

sum_same : (groups : List Group) (numbers : List ℕ) (f : ℕ → ℕ) → map (λ (x : Group). x.places) groups ≡ map f numbers → sum_by (λ (x : Group). x.places) groups ≡ sum_by f numbers
sum_same [] [] f e = refl
sum_same [] (n ∷ ns) f e = absurd (cc)
sum_same (x ∷ xs) [] f e = absurd (cc)
sum_same (x ∷ xs) (n ∷ ns) f e =
    let h : x.places ≡ f n = cc in
    let t : map (λ (y : Group). y.places) xs ≡ map f ns = cc in
    sum_by-cons (λ (y : Group). y.places) x xs ∙ ap₂ (λ (a b : ℕ). a + b) h (sum_same xs ns f t) ∙ sym (sum_by-cons f n ns)

-- the places of all groups are all places
pub all_places : (groups : List Group) (settled : List Settled) → map (λ (x : Group). x.places) groups ≡ map (λ n. count_with n settled) (numbers_in settled) → sum_by (λ (x : Group). x.places) groups ≡ length settled
all_places groups settled e = sum_same groups (numbers_in settled) (λ n. count_with n settled) e ∙ counts_sum_up settled

-- what holds of each group and the number of its outcome
pub each_more : (P : ℕ → Group → Type 0) (groups next : List Group) (g : Group) (number : ℕ) → g.outcome ≡ number → next ≡ groups ++ g ∷ [] → P number g → All (λ (x : Group). P x.outcome x) groups → All (λ (x : Group). P x.outcome x) next
each_more P groups next g number o e p all = pushed (λ (x : Group). P x.outcome x) groups next g e all (subst (λ (n : ℕ). P n g) (sym o) p)
