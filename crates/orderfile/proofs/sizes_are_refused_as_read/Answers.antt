use Rattle.orderfile.proofs.Heads.{sizes-refused-as-read}
use Rattle.orderfile.proofs.sizes_are_refused_as_read.Goals as goal

pub returns : goal.returns
returns c = sizes-refused-as-read
