-- What labels say.
use Rattle.std.specs.Prelude.{ℕ, ◌*◌, List, ◌++◌, length, codes, decimal}
use Rattle.trace_forms.specs.Sentences.{asked_text, purpose_text, reply_text, sentence}
use Rattle.trace_lanes.specs.InputNames.{name_text}
use Rattle.trace_lanes.specs.Rows.{name}
use Rattle.trace_lanes.specs.declared.caption.Caption.{Caption}
use Rattle.trace_lanes.specs.declared.caption.Caption.TheVariants as captions
use Rattle.trace_lanes.specs.declared.caption.TheConstants.{COLORS, SYMBOLS}

-- how much was drawn, and how much wasn't
abbrev pub counts_text : ℕ → ℕ → ℕ → List ℕ
counts_text drawn left unnamed =
    codes "drawn: " ++ (decimal drawn ++ (codes " signs; left out: " ++ (decimal left ++
    (codes " behind step 20000, " ++ (decimal unnamed ++ codes " labels without room (point at a shape to read its own)")))))

abbrev pub caption_text : Caption → List ℕ
caption_text (captions.Name row) = name row
caption_text (captions.Turn number asked) = decimal number ++ (codes " " ++ asked_text asked)
caption_text (captions.Says what) = sentence what
caption_text (captions.Time ticks) = codes "t=" ++ decimal ticks
caption_text (captions.Frame purpose) = purpose_text purpose
caption_text (captions.Answer purpose reply) = purpose_text purpose ++ reply_text reply
caption_text (captions.Waits steps ticks) = codes "waits " ++ (decimal steps ++ (codes " steps, " ++ (decimal ticks ++ codes " ticks")))
caption_text (captions.Value value) = decimal value
caption_text (captions.Run steps ticks) = codes "A run of " ++ (decimal steps ++ (codes " steps and " ++ (decimal ticks ++ codes " ticks")))
caption_text (captions.NamedRun input steps ticks) = name_text input ++ (codes ": " ++ (decimal steps ++ (codes " steps and " ++ (decimal ticks ++ codes " ticks"))))
caption_text (captions.Tally drawn left unnamed) = counts_text drawn left unnamed
caption_text captions.Colors = COLORS.now
caption_text captions.Symbols = SYMBOLS.now

-- A letter is 6 wide.
abbrev pub width : Caption → ℕ
width caption = length (caption_text caption) * 6
