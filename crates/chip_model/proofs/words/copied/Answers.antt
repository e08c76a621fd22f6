-- The copies are zeros, as many as were copied.
use Rattle.std.proofs.Common.{◌≡◌, ℕ, ◌+◌, ◌≤◌, ◌++◌, length, take, sym, ◌∙◌, ap, arith}
use Rattle.chip_model.specs.Words.{zeros}
use Rattle.chip_model.proofs.WordLaws.{length-zeros, zeros-none, zeros-more}
use Rattle.chip_model.proofs.words.copied.Goals as goal

pub loop-words-init : goal.loop-words-init
unfolding zeros
loop-words-init c =
    let empty = c.in_ok-words.ensures.items in
    (rw empty zeros-none, omega (arith, ap length empty), c.in_ok-block.ensures.items_if_clones_equal (λ y e. e))

pub loop-words-preserved : goal.loop-words-preserved
loop-words-preserved c =
    let n : ℕ = length c.loop-words.words.items in
    let m : ℕ = c.min-more.result in
    let few : m ≤ 4096 = omega (arith, c.min-more.ensures) in
    let all : c.extend_from_slice.new.self.items ≡ zeros (n + m) =
    c.in_ok-extend_from_slice.ensures.items
    ∙ ap (λ xs. c.loop-words.words.items ++ take m xs) (c.deref.ensures.value ∙ c.loop-words.invariant.2)
    ∙ ap (λ xs. xs ++ take m (zeros 4096)) c.loop-words.invariant.0
    ∙ zeros-more n m 4096 few in
    let size : length c.extend_from_slice.new.self.items ≡ n + m = ap length all ∙ length-zeros (n + m) in
    (all ∙ ap zeros (sym size), omega (arith, size, c.min-more.ensures, c.len-in-loop-words.ensures, c.loop-words.invariant.1), c.loop-words.invariant.2)

pub returns : goal.returns
returns c =
    let size : length c.loop-words.words.items ≡ c.args.count = omega (arith, c.loop-words-test.false, c.len.ensures, c.loop-words.invariant.1) in
    c.loop-words.invariant.0 ∙ ap zeros size
