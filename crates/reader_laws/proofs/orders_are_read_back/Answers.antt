use Rattle.reader_laws.proofs.Reading.{orders_are_read_back}
use Rattle.reader_laws.proofs.orders_are_read_back.Goals as goal

pub returns : goal.returns
returns c = orders_are_read_back
