-- From the work on a request to what is said of the words that make it.
use Rattle.std.proofs.Common.{◌≡◌, ◌≢◌, [], ◌∷◌, Option, Some, None, Ok, Err, refl, sym, subst, inl}
use Rattle.std.specs.Prelude.{Result, IfOk, IfErr}
use Rattle.staat_edge.specs.Fitting.{Fit}
use Rattle.staat_edge.specs.Told.{ShelfTold}
use Rattle.staat_words.specs.declared.request.Request.{Request}
use Rattle.staat_words.specs.declared.request.Request.TheVariants as requests
use Rattle.staat_words.specs.Requests.{HasBounds}
use Rattle.staat_input.specs.declared.answer.Answer.{Answer}
use Rattle.staat_fault.specs.declared.fault.Fault.{Fault}
use Rattle.staat_fault.specs.declared.fault.Fault.TheVariants.{Usage, OutOfMemory}
use Rattle.staat_input.specs.Work.{Files, Follows}
use Rattle.staat_input.specs.declared.limits.TheConstants.Limits.{ASSEMBLY, PRODUCT}
use Rattle.staat_input.proofs.OpenedLemmas.{unopened}
use Rattle.staat_top.specs.Opened.{OpensRequest, OpensWork}
use Rattle.staat_top.specs.Replies.{WorkOn}
use Rattle.staat_input.specs.Causes.{ShelfSide}
use Rattle.staat_top.specs.Runs.{HasRequestBounds, HasRequestCause, IsFound, IsExplained}

-- what the work on the request finds, in all files that fit what the shelf told
abbrev pub Works : Request → ShelfSide → Result Answer Fault → Type 0
Works request shelf r = (files : Files) → Fit shelf.new files → Follows (WorkOn request files) r

pub worked_answer : (asked : Option Request) (request : Request) (shelf : ShelfSide) (r : Result Answer Fault) →
    asked ≡ Some request → Works request shelf r → IfOk r (λ a. IsFound asked shelf (Ok a))
worked_answer asked request shelf (Ok a) e works = subst (λ o. IsFound o shelf (Ok a)) (sym e) works
worked_answer asked request shelf (Err f) e works = tt

pub worked_fault : (asked : Option Request) (request : Request) (shelf : ShelfSide) (r : Result Answer Fault) →
    asked ≡ Some request → Works request shelf r → IfErr r (HasRequestCause request shelf) → IfErr r (IsExplained asked shelf)
worked_fault asked request shelf (Ok a) e works cause = tt
worked_fault asked request shelf (Err f) e works cause =
    subst (λ o. IsExplained o shelf f) (sym e) (record { cause = cause; found = works })

-- words that make no request are a usage fault
pub worked_usage : (asked : Option Request) (shelf : ShelfSide) → asked ≡ None → IsExplained asked shelf Usage
worked_usage asked shelf e = subst (λ o. IsExplained o shelf Usage) (sym e) (record { cause = inl refl; found = λ files fit. refl })

pub worked_bounds : (asked : Option Request) (request : Request) (r : Result Answer Fault) →
    asked ≡ Some request → HasBounds request → IfOk r (λ a. HasRequestBounds asked)
worked_bounds asked request (Ok a) e bounds = subst HasRequestBounds (sym e) bounds
worked_bounds asked request (Err f) e bounds = tt

pub worked_fault_bounds : (asked : Option Request) (request : Request) (r : Result Answer Fault) →
    asked ≡ Some request → HasBounds request → IfErr r (λ f. f ≢ OutOfMemory → HasRequestBounds asked)
worked_fault_bounds asked request (Ok a) e bounds = tt
worked_fault_bounds asked request (Err f) e bounds = λ ne. subst HasRequestBounds (sym e) bounds

pub usage_bounds : (asked : Option Request) → asked ≡ None → HasRequestBounds asked
usage_bounds asked e = subst HasRequestBounds (sym e) tt

-- the files that the work on the request opens are those that the words name
pub worked_opens : (asked : Option Request) (request : Request) (before now : ShelfTold) → asked ≡ Some request → OpensRequest request before now → OpensWork asked before now
worked_opens asked request before now e opens = subst (λ o. OpensWork o before now) (sym e) opens

-- none are a beginning of any
none_of : (request : Request) (told : ShelfTold) → OpensRequest request told told
none_of (requests.Pair r) told = inl refl
none_of (requests.Look r) told = unopened ASSEMBLY r.input [] told told refl
none_of (requests.Graph r) told = unopened ASSEMBLY r.asked.input [] told told refl
none_of (requests.Plan r) told = unopened ASSEMBLY r.asked.input [] told told refl
none_of (requests.Check r) told = unopened ASSEMBLY r.asked.input (r.certificate ∷ []) told told refl
none_of (requests.Cells r) told = unopened ASSEMBLY r.asked.input [] told told refl
none_of (requests.Drill r) told = refl
none_of (requests.Explode r) told = unopened ASSEMBLY r.asked.input [] told told refl
none_of (requests.Linear r) told = unopened ASSEMBLY r.asked.input [] told told refl
none_of (requests.Local r) told = unopened ASSEMBLY r.asked.input [] told told refl
none_of (requests.Decide r) told = unopened PRODUCT r.asked.input [] told told refl
none_of (requests.Confirm r) told = unopened PRODUCT r.asked.input (r.certificate ∷ []) told told refl
none_of (requests.Blocks r) told = unopened PRODUCT r.asked.input [] told told refl

pub none_opened : (asked : Option Request) (told : ShelfTold) → OpensWork asked told told
none_opened None told = refl
none_opened (Some request) told = none_of request told

pub ruleset worked = (worked_answer, worked_fault, worked_usage, worked_bounds, worked_fault_bounds, usage_bounds, worked_opens, none_opened)
