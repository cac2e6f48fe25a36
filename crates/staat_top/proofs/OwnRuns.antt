-- Where no file is named twice, no file is opened twice, and what the reads gave are files that fit.
use Rattle.std.proofs.Common.{◌≡◌, ℕ, Bool, true, false, List, [], ◌∷◌, ◌++◌, Contains, Option, Some, None, refl, sym, ◌∙◌, ap, subst, inl, inr, if◌then◌else◌}
use Rattle.std.specs.Prelude.{bytes_eq}
use Rattle.std.proofs.lemmas.Slice.Eq.{bytes_eq-Decides}
use Rattle.staat_vec.proofs.Unique.{Contains-front, Contains-later, Contains-nothing}
use Rattle.staat_edge.specs.Files.{bytes_of}
use Rattle.staat_edge.specs.Fitting.{Fit, FitBy}
use Rattle.staat_edge.specs.Opening.{OpensSome}
use Rattle.staat_edge.specs.Own.{AreOnce, files_of}
use Rattle.staat_edge.specs.Readings.{FileReading, whole_reading}
use Rattle.staat_edge.specs.Told.{ShelfTold}
use Rattle.staat_edge.proofs.OwnLemmas.{own_agree}
use Rattle.staat_words.specs.declared.request.Input.{Input}
use Rattle.staat_words.specs.declared.request.Input.TheVariants as inputs
use Rattle.staat_words.specs.declared.request.Request.{Request}
use Rattle.staat_words.specs.declared.request.Request.TheVariants as requests
use Rattle.staat_input.specs.declared.limits.Limits.{Limits}
use Rattle.staat_input.specs.declared.limits.TheConstants.Limits.{ASSEMBLY, PRODUCT}
use Rattle.staat_input.specs.Causes.{ShelfSide}
use Rattle.staat_input.specs.Opened.{OpensSomeOf, piece_files}
use Rattle.staat_top.specs.Named.{AreDifferent, AreNamedOnce, IsInputOnce, IsNamedOnce}
use Rattle.staat_top.specs.Opened.{OpensRequest, OpensWork}
use Rattle.staat_top.specs.Runs.{Ran, SinkSide}

-- no reading is of one of these names
abbrev AreNew : List (List ℕ) → List FileReading → Type 0
AreNew names given = (name : List ℕ) → Contains names name → bytes_of name (files_of given) ≡ None

-- a reading of another name changes nothing
still_new : (name : List ℕ) (names : List (List ℕ)) (reading : FileReading) (given : List FileReading) → reading.name ≡ name → (Contains names name → ⊥) → AreNew (name ∷ names) given → AreNew names (reading ∷ given)
still_new name names reading given named differs new other c = go (bytes_eq reading.name other) refl
  where
    go : (b : Bool) → bytes_eq reading.name other ≡ b → bytes_of other (files_of (reading ∷ given)) ≡ None
    go true e = absurd (differs (subst (Contains names) (sym ((bytes_eq-Decides reading.name other).0 e) ∙ named) c))
    go false e = ap (λ (t : Bool). if t then Some reading.bytes else bytes_of other (files_of given)) e ∙ new other (Contains-later name names other c)

-- of files that are all different, and were not opened before, none is opened twice
once_of : (names : List (List ℕ)) (before now : List FileReading) → OpensSome names before now → AreOnce before → AreNew names before → AreDifferent names → AreOnce now
once_of [] before now same once new differ = subst AreOnce (sym same) once
once_of (name ∷ names) before now (inl same) once new differ = subst AreOnce (sym same) once
once_of (name ∷ names) before now (inr (reading, named, some)) once new differ =
    once_of names (reading ∷ before) now some
    (subst (λ n. bytes_of n (files_of before) ≡ None) (sym named) (new name (Contains-front name names)), once)
    (still_new name names reading before named differ.0 new)
    differ.1

-- a reading stays
still_there : (reading : FileReading) (names : List (List ℕ)) (before now : List FileReading) → OpensSome names before now → Contains before reading → Contains now reading
still_there reading [] before now same c = subst (λ (g : List FileReading). Contains g reading) (sym same) c
still_there reading (name ∷ names) before now (inl same) c = subst (λ (g : List FileReading). Contains g reading) (sym same) c
still_there reading (name ∷ names) before now (inr (next, named, some)) c = still_there reading names (next ∷ before) now some (Contains-later next before reading c)

none_given : (before : List FileReading) → before ≡ [] → AreOnce before
none_given before none = subst AreOnce (sym none) tt

all_new : (names : List (List ℕ)) (before : List FileReading) → before ≡ [] → AreNew names before
all_new names before none name c = ap (λ (g : List FileReading). bytes_of name (files_of g)) none

-- the same of what an input names
input_once : (limits : Limits) (source : Input) (more : List (List ℕ)) (before now : ShelfTold) → OpensSomeOf limits source more before now → before.given ≡ [] → IsInputOnce limits source more now.given → AreOnce now.given
input_once limits (inputs.Files names) more before now opens none once = once_of (names ++ more) before.given now.given opens (none_given before.given none) (all_new (names ++ more) before.given none) once
input_once limits (inputs.Manifest name) more before now (inl part) none once = once_of (name ∷ []) before.given now.given part.1 (none_given before.given none) (all_new (name ∷ []) before.given none) (Contains-nothing name, tt)
input_once limits (inputs.Manifest name) more before now (inr listed) none once =
    let list = whole_reading name listed.bytes in
    let names = piece_files listed.parts ++ more in
    let differ : AreDifferent (name ∷ names) = once listed.bytes listed.parts (still_there list names (list ∷ before.given) now.given listed.opens (Contains-front list before.given)) listed.listed in
    once_of names (list ∷ before.given) now.given listed.opens
    (all_new (name ∷ []) before.given none name (Contains-front name []), none_given before.given none)
    (still_new name names list before.given refl differ.0 (all_new (name ∷ names) before.given none))
    differ.1

request_once : (asked : Request) (before now : ShelfTold) → OpensRequest asked before now → before.given ≡ [] → IsNamedOnce asked now.given → AreOnce now.given
request_once (requests.Pair r) before now opens none once = once_of (r.first ∷ r.second ∷ []) before.given now.given opens (none_given before.given none) (all_new (r.first ∷ r.second ∷ []) before.given none) once
request_once (requests.Look asked) before now opens none once = input_once ASSEMBLY asked.input [] before now opens none once
request_once (requests.Graph r) before now opens none once = input_once ASSEMBLY r.asked.input [] before now opens none once
request_once (requests.Plan r) before now opens none once = input_once ASSEMBLY r.asked.input [] before now opens none once
request_once (requests.Check r) before now opens none once = input_once ASSEMBLY r.asked.input (r.certificate ∷ []) before now opens none once
request_once (requests.Cells r) before now opens none once = input_once ASSEMBLY r.asked.input [] before now opens none once
request_once (requests.Drill product) before now opens none once = subst AreOnce (sym opens) (none_given before.given none)
request_once (requests.Explode r) before now opens none once = input_once ASSEMBLY r.asked.input [] before now opens none once
request_once (requests.Linear r) before now opens none once = input_once ASSEMBLY r.asked.input [] before now opens none once
request_once (requests.Local r) before now opens none once = input_once ASSEMBLY r.asked.input [] before now opens none once
request_once (requests.Decide r) before now opens none once = input_once PRODUCT r.asked.input [] before now opens none once
request_once (requests.Confirm r) before now opens none once = input_once PRODUCT r.asked.input (r.certificate ∷ []) before now opens none once
request_once (requests.Blocks r) before now opens none once = input_once PRODUCT r.asked.input [] before now opens none once

work_once : (asked : Option Request) (before now : ShelfTold) → OpensWork asked before now → before.given ≡ [] → AreNamedOnce asked now.given → AreOnce now.given
work_once None before now opens none once = subst AreOnce (sym opens) (none_given before.given none)
work_once (Some asked) before now opens none once = request_once asked before now opens none once

-- over a shelf that opened no file before and tells none, the files that the reads gave fit
pub own_run : (asked : Option Request) (shelf : ShelfSide) (out err : SinkSide) (status : ℕ) → Ran asked shelf out err status → shelf.old.given ≡ [] → shelf.new.holds ≡ None → AreNamedOnce asked shelf.new.given → Fit shelf.new (files_of shelf.new.given)
own_run asked shelf out err status ran none silent once =
    subst (λ (h : Option (List (List ℕ × List ℕ))). FitBy h shelf.new.given (files_of shelf.new.given)) (sym silent)
    (own_agree shelf.new.given (work_once asked shelf.old shelf.new ran.opens none once))
