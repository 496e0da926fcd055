use Rattle.listing.proofs.leading.+write_first.Given as goal

-- the part before the last word is shorter
abbrev pub decreases-write_first : goal.decreases-write_first
decreases-write_first l = l.i
