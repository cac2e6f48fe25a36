-- Which files the work on a request opens, in which order.
use Rattle.std.specs.Prelude.{◌≡◌, Option, Some, None, [], ◌∷◌}
use Rattle.staat_edge.specs.Opening.{OpensSome}
use Rattle.staat_edge.specs.Told.{ShelfTold}
use Rattle.staat_words.specs.declared.request.Request.{Request}
use Rattle.staat_words.specs.declared.request.Request.TheVariants as request
use Rattle.staat_input.specs.declared.limits.TheConstants.Limits.{ASSEMBLY, PRODUCT}
use Rattle.staat_input.specs.Opened.{OpensSomeOf}

-- The files opened are a beginning of those that the words name and, behind a part list, those of the pieces that it
-- lists, in the order of the work: a certificate comes last. A file that is named twice is opened twice, and no file
-- more often than it is named.
abbrev pub OpensRequest : Request → ShelfTold → ShelfTold → Type 0
OpensRequest (request.Pair r) before now = OpensSome (r.first ∷ r.second ∷ []) before.given now.given
OpensRequest (request.Look asked) before now = OpensSomeOf ASSEMBLY asked.input [] before now
OpensRequest (request.Graph r) before now = OpensSomeOf ASSEMBLY r.asked.input [] before now
OpensRequest (request.Plan r) before now = OpensSomeOf ASSEMBLY r.asked.input [] before now
OpensRequest (request.Check r) before now = OpensSomeOf ASSEMBLY r.asked.input (r.certificate ∷ []) before now
OpensRequest (request.Cells r) before now = OpensSomeOf ASSEMBLY r.asked.input [] before now
OpensRequest (request.Drill product) before now = now.given ≡ before.given
OpensRequest (request.Explode r) before now = OpensSomeOf ASSEMBLY r.asked.input [] before now
OpensRequest (request.Linear r) before now = OpensSomeOf ASSEMBLY r.asked.input [] before now
OpensRequest (request.Local r) before now = OpensSomeOf ASSEMBLY r.asked.input [] before now
OpensRequest (request.Decide r) before now = OpensSomeOf PRODUCT r.asked.input [] before now
OpensRequest (request.Confirm r) before now = OpensSomeOf PRODUCT r.asked.input (r.certificate ∷ []) before now
OpensRequest (request.Blocks r) before now = OpensSomeOf PRODUCT r.asked.input [] before now

-- the same of words; those that make no request open no file
abbrev pub OpensWork : Option Request → ShelfTold → ShelfTold → Type 0
OpensWork None before now = now.given ≡ before.given
OpensWork (Some asked) before now = OpensRequest asked before now
