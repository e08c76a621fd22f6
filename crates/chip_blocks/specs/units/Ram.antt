-- The RAM words.
use Rattle.std.specs.Prelude.{ℕ, List, replicate, slice_index, slice_set}
use Rattle.mcal_base.specs.declared.register.Reg.{Reg}
use Rattle.mcal_base.specs.declared.register.Reg.TheVariants.{Ram}

-- as after a reset: 512 words of 0
unfoldable pub blank : List ℕ
blank = replicate 512 0

-- a word; one that isn't there is 0
abbrev pub word_of : List ℕ → ℕ → ℕ
word_of words k = slice_index words k

-- what a read gives; a register of another block gives 0
abbrev pub read_of : List ℕ → Reg → ℕ
read_of words (Ram k) = word_of words k
read_of words _ = 0

-- what a write leaves; a register of another block ignores it
abbrev pub after_write : List ℕ → Reg → ℕ → List ℕ
after_write words (Ram k) value = slice_set words k value
after_write words _ value = words
