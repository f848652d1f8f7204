use Rattle.std.proofs.lemmas.Bool.{both_ways}
use Rattle.search.proofs.Searches.{none-set}
use Rattle.search.proofs.find_route.Goals as goal

pub route_among-requires-clause-flags : goal.route_among-requires-clause-flags
route_among-requires-clause-flags g c _ task _ on = absurd (both_ways _ (none-set 64 task) on)
