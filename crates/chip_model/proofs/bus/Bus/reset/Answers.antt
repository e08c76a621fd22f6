-- Each block is as after a reset, and the words that were cleared are the blank ones.
use Rattle.std.proofs.Common.{◌≡◌, length, refl, sym, ◌∙◌, ap}
use Rattle.std.specs.Vec.{with_items}
use Rattle.std.proofs.lemmas.List.{with_items_is}
use Rattle.mcal_base.specs.declared.TheConstants.{WORDS}
use Rattle.chip_model.specs.Words.{blank}
use Rattle.chip_model.proofs.WordLaws.{blank-zeros}
use Rattle.chip_model.proofs.bus.Bus.reset.Goals as goal

pub returns : goal.returns
returns c =
    let size : length c.deref_mut.result.now ≡ WORDS = ap length c.deref_mut.ensures.value ∙ c.self.invariant.0 in
    let cleared : c.clear.new.words ≡ blank = c.clear.ensures ∙ blank-zeros (length c.deref_mut.result.now) size in
    let same : length c.clear.new.words ≡ c.self.inside.words.len = c.clear.auto.words ∙ ap length c.deref_mut.ensures.value ∙ sym c.self.inside.words.ok.0 in
    let kept : (with_items c.self.inside.words c.clear.new.words).items ≡ blank = with_items_is c.self.inside.words c.clear.new.words same ∙ cleared in
    rw (← c.self.view_is, c.reset.ensures, c.reset-2.ensures, c.reset-3.ensures, c.reset-4.ensures, c.reset-5.ensures, c.reset-6.ensures, c.reset-7.ensures, c.reset-8.ensures, c.reset-9.ensures, c.new-self-inside.ensures, kept) refl
