-- A request that is made of what a command's own reading gives.
use Rattle.std.proofs.Common.{◌≡◌, Option, Some, None, Result, Ok, Err, IfOk, IfSome, option_map, refl, sym}
use Rattle.std.specs.Option.{ok_or}
use Rattle.std.specs.Prelude.{IsOkAnd, MatchResult}
use Rattle.staat_words.specs.declared.request.Request.{Request}
use Rattle.staat_words.specs.declared.request.RequestRefusal.{RequestRefusal}
use Rattle.staat_words.specs.declared.request.RequestRefusal.TheVariants.{Usage, OutOfMemory}
use Rattle.staat_words.specs.Requests.{HasBounds, ReadsWords}

abbrev pub Makes : {X : Type 0} → (X → Request) → Result X RequestRefusal → Result Request RequestRefusal → Type 0
Makes make found answer = MatchResult found (λ x. IsOkAnd answer (λ request. request ≡ make x)) (λ e. answer ≡ Err e)

pub made : {X : Type 0} (make : X → Request) (asked : Option X) (found : Result X RequestRefusal) (answer : Result Request RequestRefusal)
    → ReadsWords asked found → Makes make found answer → ReadsWords (option_map make asked) answer
made make asked (Ok x) (Ok request) reads is = rw is rw reads refl
made make asked (Ok x) (Err e) reads is = absurd is
made make asked (Err Usage) answer reads is = rw is rw reads refl
made make asked (Err OutOfMemory) answer reads is = rw is tt

pub bounded : {X : Type 0} (make : X → Request) (P : X → Type 0) (found : Result X RequestRefusal) (answer : Result Request RequestRefusal)
    → ((x : X) → P x → HasBounds (make x)) → IfOk found P → Makes make found answer → IfOk answer HasBounds
bounded make P (Ok x) (Ok request) has bounds is = rw is (has x bounds)
bounded make P (Ok x) (Err e) has bounds is = tt
bounded make P (Err e) answer has bounds is = rw is tt

-- the same of a value that is there or is a usage fault
pub read : {X : Type 0} (asked found : Option X) (answer : Result X RequestRefusal) → found ≡ asked → answer ≡ ok_or found Usage → ReadsWords asked answer
read asked (Some x) answer same is = rw is (sym same)
read asked None answer same is = rw is (sym same)

pub read_bounded : {X : Type 0} (P : X → Type 0) (found : Option X) (answer : Result X RequestRefusal) → IfSome found P → answer ≡ ok_or found Usage → IfOk answer P
read_bounded P (Some x) answer bounds is = rw is bounds
read_bounded P None answer bounds is = rw is tt
