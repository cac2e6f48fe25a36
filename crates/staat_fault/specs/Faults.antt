-- What stops a request: each fault with its status and its line.
use Rattle.std.specs.Prelude.{◌++◌, ◌∷◌, [], ℕ, List, codes, decimal}
use Rattle.staat_fault.specs.declared.fault.Fault.{Fault}
use Rattle.staat_fault.specs.declared.fault.Fault.TheVariants as fault

-- `staat: BODY` and LF
abbrev pub whole : List ℕ → List ℕ
whole body = codes "staat: " ++ (body ++ 10 ∷ [])

-- about a file
abbrev pub of_file : List ℕ → List ℕ → List ℕ
of_file name body = name ++ (codes ": " ++ body)

-- what is said of the fault
unfoldable pub body_of : Fault → List ℕ
body_of fault.Usage = codes "usage"
body_of (fault.ReadFault name) = codes "cannot read " ++ name
body_of (fault.TooLong name) = name ++ codes " is too long"
body_of (fault.NoHeader name) = of_file name (codes "no OFF header")
body_of (fault.BadNumber name at) = of_file name (codes "bad number at " ++ decimal at)
body_of (fault.NotWhole name at) = of_file name (codes "not a whole number at " ++ decimal at)
body_of (fault.TooBig name at) = of_file name (codes "number too big at " ++ decimal at)
body_of (fault.BadCount name at) = of_file name (codes "bad count at " ++ decimal at)
body_of (fault.BadIndex name at) = of_file name (codes "bad index at " ++ decimal at)
body_of (fault.ShortFile name) = of_file name (codes "file too short")
body_of (fault.Trailing name at) = of_file name (codes "extra word at " ++ decimal at)
body_of (fault.TooFewPoints name found) = of_file name (codes "too few points (" ++ decimal found ++ codes ")")
body_of (fault.TooManyPoints name found) = of_file name (codes "too many points (" ++ decimal found ++ codes ")")
body_of (fault.Flat name) = of_file name (codes "all points in one plane")
body_of (fault.BadFace name face) = of_file name (codes "bad face " ++ decimal face)
body_of (fault.NotConvex name face) = of_file name (codes "not convex at face " ++ decimal face)
body_of (fault.OpenEdge name face corner) =
    of_file name (codes "open edge at face " ++ decimal face ++ codes " corner " ++ decimal corner)
body_of (fault.PlacedFar name) = of_file name (codes "placed too far")
body_of (fault.NotJson name) = of_file name (codes "not JSON")
body_of (fault.BadShape name path) = of_file name (codes "bad shape at " ++ path)
body_of (fault.RepeatedName name part) = of_file name (codes "repeated name " ++ part)
body_of (fault.NoPieces name part) = of_file name (codes "no pieces in part " ++ decimal part)
body_of (fault.TooManyParts name) = of_file name (codes "too many parts")
body_of (fault.TooManyPieces name) = of_file name (codes "too many pieces")
body_of (fault.Overlap a i b j) =
    codes "parts " ++ decimal a ++ codes " and " ++ decimal b
    ++ codes " overlap in pieces " ++ decimal i ++ codes " and " ++ decimal j
body_of (fault.BadLine name line) = of_file name (codes "bad line " ++ decimal line)
body_of (fault.ShortCert name) = of_file name (codes "certificate too short")
body_of (fault.TooManyPlanes found) = codes "too many planes (" ++ decimal found ++ codes ")"
body_of (fault.TooFar node) = codes "exploded view too far at node " ++ decimal node
body_of (fault.TextTooLong length) = codes "text too long (" ++ decimal length ++ codes ")"
body_of fault.WriteFault = codes "write fault"
body_of fault.OutOfMemory = codes "out of memory"

-- the line that says the fault
unfoldable pub line_of : Fault → List ℕ
line_of f = whole (body_of f)

-- the status that the program ends with
abbrev pub status_of : Fault → ℕ
status_of fault.Usage = 2
status_of (fault.TooLong name) = 4
status_of (fault.TooManyPlanes found) = 4
status_of (fault.TooFar node) = 4
status_of (fault.TextTooLong length) = 4
status_of (fault.ReadFault name) = 5
status_of fault.WriteFault = 6
status_of fault.OutOfMemory = 7
status_of other = 3
