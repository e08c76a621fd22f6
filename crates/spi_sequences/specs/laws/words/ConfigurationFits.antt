-- What a driver that is made of a configuration has by its form: its rows.
-- From words.Cases.
-- Used by spi_driver: words.ConfigurationFits, spi_driver: bookkeeping.Lawful, spi_laws: sending.services.SendBegins.
use Rattle.std.proofs.Common.{◌≡◌, ◌==◌, [], ◌∷◌, if◌then◌else◌, ◌∙◌}
use Rattle.spi_sequences.specs.Terms
use Terms.{ap, is_some, Job, job_in, job_of, jobs_by_number, length, List, None, Option, refl, same_Some, Sequence}
use Terms.{sequence_in, sequence_of, sequences_by_number, slice_index_or, Some, SpiConfig, SpiJob, SpiSequence, subst}
use Terms.{suc, sym, table_of, taken_job, taken_sequence, true, whether, zero, ℕ}

-- each configured item of a row is so
abbrev pub AllSo : {A : Type 0} → (A → Type 0) → List (Option A) → Type 0
AllSo {A = A} P [] = Unit {0}
AllSo {A = A} P (o ∷ os) = ((k : A) → o ≡ Some k → P k) × AllSo P os

pub so_at : {A : Type 0} (P : A → Type 0) (os : List (Option A)) → AllSo P os → (i : ℕ) (k : A) → slice_index_or os i None ≡ Some k → P k
so_at P [] all i k e = absurd (cc)
so_at P (o ∷ os) all zero k e = all.0 k e
so_at P (o ∷ os) all (suc i) k e = so_at P os all.1 i k e

-- one that is there
pub some_of : {A : Type 0} (k : Option A) → is_some k ≡ true → (x : A) × (k ≡ Some x)
some_of None e = absurd (cc)
some_of (Some x) e = (x, refl)

abbrev JobRow : Job → Type 0
JobRow k = length k.channels.numbers ≡ 4

abbrev SequenceRow : Sequence → Type 0
SequenceRow k = length k.jobs.numbers ≡ 16

job_row_in : (xs : List SpiJob) (j : ℕ) (k : Job) → job_in xs j ≡ Some k → JobRow k
job_row_in [] j k e = absurd (cc)
job_row_in (x ∷ xs) j k e = whether (x.id == j)
    (λ f. subst JobRow (same_Some (taken_job x) k (sym (ap (λ q. if q then Some (taken_job x) else job_in xs j) f) ∙ e)) refl)
    (λ f. job_row_in xs j k (sym (ap (λ q. if q then Some (taken_job x) else job_in xs j) f) ∙ e))

sequence_row_in : (xs : List SpiSequence) (q : ℕ) (k : Sequence) → sequence_in xs q ≡ Some k → SequenceRow k
sequence_row_in [] q k e = absurd (cc)
sequence_row_in (x ∷ xs) q k e = whether (x.id == q)
    (λ f. subst SequenceRow (same_Some (taken_sequence x) k (sym (ap (λ b. if b then Some (taken_sequence x) else sequence_in xs q) f) ∙ e)) refl)
    (λ f. sequence_row_in xs q k (sym (ap (λ b. if b then Some (taken_sequence x) else sequence_in xs q) f) ∙ e))

pub job_row : (g : SpiConfig) (j : ℕ) (k : Job) → job_of (table_of g) j ≡ Some k → length k.channels.numbers ≡ 4
job_row g j k e = let r = job_row_in g.jobs in so_at JobRow (jobs_by_number g.jobs) (r 0, (r 1, (r 2, (r 3, (r 4, (r 5, (r 6, (r 7, (r 8, (r 9, (r 10, (r 11, (r 12, (r 13, (r 14, (r 15, tt)))))))))))))))) j k e

pub sequence_row : (g : SpiConfig) (q : ℕ) (k : Sequence) → sequence_of (table_of g) q ≡ Some k → length k.jobs.numbers ≡ 16
sequence_row g q k e = let r = sequence_row_in g.sequences in so_at SequenceRow (sequences_by_number g.sequences) (r 0, (r 1, (r 2, (r 3, (r 4, (r 5, (r 6, (r 7, tt)))))))) q k e

pub rows : (g : SpiConfig) → (length (table_of g).channels ≡ 16) × (length (table_of g).jobs ≡ 16) × (length (table_of g).sequences ≡ 8) × (length (table_of g).blocks ≡ 16)
rows g = (refl, refl, refl, refl)
