use Rattle.std.proofs.Common.{◌≡◌, ◌-◌, ◌≤◌, length}
use Rattle.chip_model.specs.Words.{zeros}
use Rattle.chip_model.proofs.words.copied.Given as goal

abbrev pub invariant-loop-words : goal.invariant-loop-words
invariant-loop-words l = (l.words.items ≡ zeros (length l.words.items)) × (length l.words.items ≤ l.count) × (l.block.items ≡ zeros 4096)

abbrev pub decreases-loop-words : goal.decreases-loop-words
decreases-loop-words l = l.count - length l.words.items
