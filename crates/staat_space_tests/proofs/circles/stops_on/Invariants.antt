use Rattle.staat_space_tests.proofs.circles.stops_on.Given as goal

abbrev pub ghosts-enter : goal.ghosts-enter
ghosts-enter g a = record { name = a.blank.name; parts = a.blank.parts }
