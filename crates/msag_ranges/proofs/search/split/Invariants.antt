use Rattle.msag_ranges.proofs.search.split.Given as goal

abbrev pub ghosts-split_with : goal.ghosts-split_with
ghosts-split_with a = record { name = a.blank.name; parts = a.blank.parts }
