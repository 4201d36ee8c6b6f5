use Rattle.questions.proofs.Runs.{write_against_read, short_against_200, short_against_7, one_against_two, equal_orders, nobody_at_81, gauge_written_4, status_rows}
use Rattle.questions.proofs.keyed_questions.Goals as goal

pub returns : goal.returns
returns c = record {
  direction = write_against_read;
  stop = short_against_200;
  zero = short_against_7;
  more = one_against_two;
  equal = equal_orders;
  nobody = nobody_at_81;
  refused = gauge_written_4;
  status = status_rows;
}
