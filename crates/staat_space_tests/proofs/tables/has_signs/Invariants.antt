use Rattle.staat_space_tests.proofs.tables.has_signs.Given as goal

abbrev pub ghosts-signs : goal.ghosts-signs
ghosts-signs g a = record { name = a.blank.name; parts = a.blank.parts }
