use Rattle.search.proofs.+write_route.Given as goal

abbrev pub decreases-write_route : goal.decreases-write_route
decreases-write_route l = l.place
