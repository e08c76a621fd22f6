-- A line as the reader has it.
use Rattle.bench_report.specs.Lines as written
use Rattle.bench_report.specs.Lines.{Line, Returns, Shows}
use Rattle.trace_reader.specs.declared.line.Read.{Read}
use Rattle.trace_reader.specs.declared.line.Read.TheVariants as reads

-- a line as it was read
abbrev pub line_of : Read → Line
line_of (reads.Plain line) = written.line_of line
line_of (reads.Returns service head words) = Returns service head words.items
line_of (reads.Shows name values) = Shows (record { name = name; values = values.items })
