-- Words that came in, kept one after another.
use Rattle.std.proofs.Common.{◌≡◌, ◌⊎◌, inl, inr, ℕ, ◌+◌, ◌<◌, ◌≤◌, Bool, true, false, List, [], ◌∷◌, length, refl, ap, ◌∙◌, arith, drop, get_or, map, min}
use Rattle.std.specs.Prelude.{if◌then◌else◌, slice_index_or}
use Rattle.std.proofs.lemmas.List.{drop_all, drop_more}
use Rattle.spi_machine.specs.Channels.{ChannelState, untouched}
use Rattle.spi_machine.specs.Transfers as transfers
use Rattle.audit_serial.specs.Flows.{kept_all, kept_in}
use Rattle.audit_serial.specs.Words.{word_as}
use Rattle.audit_serial.specs.declared.words.JobWord.{JobWord}

pub next_kept : (xs : List ChannelState) (ws : List JobWord) (vs : List ℕ) (k : ℕ) (w : JobWord) (v : ℕ) → k < length ws → k < length vs
    → kept_all xs (map word_as (drop k ws)) (drop k vs) ≡ kept_all (kept_in xs (word_as (get_or ws k w)) (word_as (get_or ws k w)).goes (get_or vs k v)) (map word_as (drop (k + 1) ws)) (drop (k + 1) vs)
next_kept xs ws vs k w v lt less =
    ap (λ zs. kept_all xs (map word_as zs) (drop k vs)) (drop_more ws k w lt)
    ∙ ap (λ zs. kept_all xs (word_as (get_or ws k w) ∷ map word_as (drop (k + 1) ws)) zs) (drop_more vs k v less)

none : (xs : List ChannelState) (ws : List transfers.JobWord) → kept_all xs ws [] ≡ xs
none xs [] = refl
none xs (w ∷ ws) = refl

pub none_kept : (xs : List ChannelState) (ws : List JobWord) (vs : List ℕ) (k : ℕ) → min (length ws) (length vs) ≤ k → kept_all xs (map word_as (drop k ws)) (drop k vs) ≡ xs
none_kept xs ws vs k le = by (one (length ws) (length vs) k le)
  where
    one : (a b k : ℕ) → min a b ≤ k → (a ≤ k) ⊎ (b ≤ k)
    one a b k le = grind arith

    by : (length ws ≤ k) ⊎ (length vs ≤ k) → kept_all xs (map word_as (drop k ws)) (drop k vs) ≡ xs
    by (inl all) = ap (λ zs. kept_all xs (map word_as zs) (drop k vs)) (drop_all k ws all)
    by (inr all) = ap (λ zs. kept_all xs (map word_as (drop k ws)) zs) (drop_all k vs all) ∙ none xs (map word_as (drop k ws))

-- an untouched channel has no words
pub no_word_there : (received : Bool) (place : ℕ) → 0 ≡ slice_index_or (if received then untouched.received else untouched.written) place 0
no_word_there true place = refl
no_word_there false place = refl
