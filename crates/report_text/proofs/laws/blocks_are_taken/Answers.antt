use Rattle.report_text.proofs.Counting.{feeds, count_printed, count_told}
use Rattle.report_text.proofs.Lasts.{alone, followed, missing}
use Rattle.report_text.proofs.Owning.{took_printed, takes, read_step, read_wait, read_reset, reads, over, over_is, past_printed, past_told}
use Rattle.report_text.proofs.laws.blocks_are_taken.Goals as goal

pub returns : goal.returns
returns c = record {
  taken = took_printed;
  comes = takes;
  step = read_step;
  wait = read_wait;
  reset = read_reset;
  reads = reads;
  over = over;
  is_over = over_is;
  lines_printed = count_printed;
  lines_told = count_told;
  feeds = feeds;
  behind_printed = past_printed;
  behind_told = past_told;
  alone = alone;
  followed = followed;
  missing = missing;
}
