use Rattle.orders.proofs.Lawful.{encodings-read}
use Rattle.orders.proofs.encodings_are_read.Goals as goal

pub returns : goal.returns
returns c = encodings-read
