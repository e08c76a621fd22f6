use Rattle.std.proofs.Common.{refl, inl, inr}
use Rattle.chip_model.proofs.bus.Bus.write_silently.Goals as goal

pub returns-in-ConverterList : goal.returns-in-ConverterList
returns-in-ConverterList c = elim c.in-ConverterList.is [
  | inl e ↦ rw (c.write-in-ConverterList.ensures, ← c.self.view_is, e.2) refl
  | inr (inl e) ↦ rw (c.write-in-ConverterList.ensures, ← c.self.view_is, e.1) refl
  | inr (inr e) ↦ rw (c.write-in-ConverterList.ensures, ← c.self.view_is, e.1) refl
]
