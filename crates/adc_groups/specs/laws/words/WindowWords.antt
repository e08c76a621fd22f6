-- The words that a window looks at, in their order.
-- Used by adc_driver: bookkeeping.Decreases, adc_driver: bookkeeping.MaskDiscipline and 9 more.
use Rattle.std.specs.Prelude.{ℕ, Option, List, [], ◌∷◌, slice_get}
use Rattle.adc_groups.specs.declared.window.Window.{Window}
use Rattle.adc_groups.specs.declared.window.Window.TheVariants.{Close, Setup, Status, Point, Read, Start, Enable, Stop, Yield, Suspend, Keep, Begin, Leave, Convert, Take, Claim, Serve, Trigger}
use Rattle.adc_groups.specs.declared.words.Word.{Word}

abbrev pub words_of : Window → List Word
words_of Close = []
words_of (Setup g b) = Word.Phase g ∷ []
words_of (Status g) = Word.Phase g ∷ []
words_of (Point g) = Word.Phase g ∷ Word.Count g ∷ Word.Place g ∷ []
words_of (Read g) = Word.Phase g ∷ []
words_of (Start g) = Word.Chosen g ∷ Word.Phase g ∷ []
words_of (Enable g) = Word.Chosen g ∷ Word.Phase g ∷ []
words_of (Stop u g) = Word.Phase g ∷ Word.Turn g ∷ Word.Running u ∷ Word.Claim u ∷ []
words_of (Yield u) = Word.Running u ∷ Word.Claim u ∷ []
words_of (Suspend u g) = Word.Kept g ∷ []
words_of (Keep r) = Word.Claim r.unit ∷ []
words_of (Begin u) = Word.Running u ∷ Word.Claim u ∷ []
words_of (Leave u) = []
words_of (Convert u g c) = Word.Kept g ∷ []
words_of (Take u) = Word.Running u ∷ []
words_of (Claim t) = Word.Kept t.group ∷ []
words_of (Serve t) = Word.Running t.unit ∷ Word.Phase t.group ∷ Word.Count t.group ∷ Word.Place t.group ∷ Word.Chosen t.group ∷ Word.Notified t.group ∷ []
words_of (Trigger i g) = Word.Turn g ∷ []

abbrev pub word_at : Window → ℕ → Option Word
word_at w i = slice_get (words_of w) i
