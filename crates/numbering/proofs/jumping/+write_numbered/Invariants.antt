use Rattle.numbering.proofs.jumping.+write_numbered.Given as goal

-- the part before the last word is shorter
abbrev pub decreases-write_numbered : goal.decreases-write_numbered
decreases-write_numbered l = l.i
