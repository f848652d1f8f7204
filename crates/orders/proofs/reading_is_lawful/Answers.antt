use Rattle.orders.proofs.Lawful.{reading-lawful}
use Rattle.orders.proofs.reading_is_lawful.Goals as goal

pub returns : goal.returns
returns c = reading-lawful
