-- The rows that `show` prints: each a name and its values.
use Rattle.std.specs.Prelude.{◌≡◌, ℕ, List, [], ◌∷◌, ◌++◌, codes, decimal, flat_map}
use Rattle.std.specs.Fmt.{digits}
use Rattle.std.proofs.Common.{refl}
use Rattle.bench_report.specs.declared.rows.RowName.{RowName}
use Rattle.bench_report.specs.declared.rows.RowName.TheVariants as names
use Rattle.bench_report.specs.declared.rows.Value.{Value}
use Rattle.bench_report.specs.declared.rows.Value.TheVariants as values

-- what a row is of, and what stands there
pub record Row : Type 0 where
  pub name : RowName
  pub values : List Value

-- an object: its kind and its number, and for Spi which of its words
abbrev pub name_text : RowName → List ℕ
name_text (names.Pin p) = codes "pin " ++ decimal p
name_text (names.Ram s) = codes "ram " ++ decimal s
name_text (names.Wire u) = codes "wire " ++ decimal u
name_text (names.Stamps c) = codes "icu " ++ decimal c
name_text (names.Results g b) = codes "adc " ++ (decimal g ++ (codes " " ++ decimal b))
name_text (names.Source c) = codes "spi " ++ (decimal c ++ codes " src")
name_text (names.Destination c) = codes "spi " ++ (decimal c ++ codes " dst")
name_text (names.Transmit c) = codes "spi " ++ (decimal c ++ codes " tx")
name_text (names.Receive c) = codes "spi " ++ (decimal c ++ codes " rx")

-- a value, or a word sent and the word that came in for it, with a space before it
abbrev pub value_text : Value → List ℕ
value_text (values.One value) = codes " " ++ decimal value
value_text (values.Pair sent received) = codes " " ++ (decimal sent ++ (codes "/" ++ decimal received))

abbrev pub values_text : List Value → List ℕ
values_text values = flat_map value_text values

abbrev pub row_text : Row → List ℕ
row_text row = name_text row.name ++ (codes ":" ++ values_text row.values)

-- ---- examples

pin_is_high : row_text (record { name = names.Pin 0; values = values.One 1 ∷ [] }) ≡ codes "pin 0: 1"
unfolding digits
pin_is_high = refl

section_of_two : row_text (record { name = names.Ram 0; values = values.One 7 ∷ values.One 7 ∷ [] }) ≡ codes "ram 0: 7 7"
unfolding digits
section_of_two = refl

two_words : row_text (record { name = names.Wire 0; values = values.Pair 255 17 ∷ values.Pair 255 34 ∷ [] }) ≡ codes "wire 0: 255/17 255/34"
unfolding digits
two_words = refl

no_words : row_text (record { name = names.Wire 1; values = [] }) ≡ codes "wire 1:"
unfolding digits
no_words = refl

buffer_of_a_group : row_text (record { name = names.Results 3 0; values = values.One 4 ∷ values.One 2 ∷ [] }) ≡ codes "adc 3 0: 4 2"
unfolding digits
buffer_of_a_group = refl

words_received : row_text (record { name = names.Receive 12; values = values.One 240 ∷ [] }) ≡ codes "spi 12 rx: 240"
unfolding digits
words_received = refl
