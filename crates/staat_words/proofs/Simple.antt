-- The command is one of which clap states all.
use Rattle.std.proofs.Common.{◌≡◌, ◌==◌, ◌∙◌, List, [], ◌∷◌, length, true, false, Option, None, Result, ap, subst, refl, arith, inl, inr}
use Rattle.std.proofs.lemmas.Bool.Decides.{nat_tests}
use Rattle.clap.specs.Words.{App, HasKind, HasMatchesOf, IsAmong, Kinds, Text, fault_of, is_simple, is_simple_and_free, kind_of, subcommand_of, subcommand_rows_of}
use Rattle.clap.specs.declared.error.Error.{Error}
use Rattle.clap.specs.declared.error.kind.ErrorKind.{ErrorKind}
use Rattle.clap.specs.declared.error.kind.ErrorKind.TheVariants.{OutOfMemory}
use Rattle.clap.specs.declared.parser.matches.ArgMatches.{ArgMatches}
use Rattle.clap.proofs.OnLiterals.{clap_on_literals}
use Rattle.clap.specs.Walk.{Row}
use Rattle.staat_words.specs.Command.{command, is_taken, matches}
use Rattle.staat_words.specs.Requests.{ReadsWords, request, request_in}
use Rattle.staat_words.specs.declared.request.Request.{Request}
use Rattle.staat_words.specs.declared.request.RequestRefusal.{RequestRefusal}

pub command_is_simple : is_simple command ≡ true
unfolding command clap_on_literals
command_is_simple = refl

pub command_is_free : is_simple_and_free command ≡ true
unfolding command clap_on_literals
command_is_free = refl

pub taken_from : (a : App) (words : List Text) → a ≡ command → (is_simple_and_free a ≡ true → fault_of a words ≡ []) → is_taken words ≡ true
unfolding is_taken
taken_from a words e h =
    let none : fault_of command words ≡ [] = subst (λ (b : App). fault_of b words ≡ []) e (h (ap is_simple_and_free e ∙ command_is_free)) in
    rw none refl

some_kind : (kinds : Kinds) (k : ErrorKind) → IsAmong k kinds → (length kinds == 0) ≡ false
some_kind [] k h = absurd h
some_kind (x ∷ xs) k h = grind (arith, nat_tests)

pub refused_from : (a : App) (words : List Text) (error : Error) → a ≡ command → (is_simple_and_free a ≡ true → HasKind (fault_of a words) error) → (kind_of error ≡ OutOfMemory → ⊥) → is_taken words ≡ false
unfolding is_taken
refused_from a words error e h other =
    let kinds : HasKind (fault_of command words) error = subst (λ (b : App). HasKind (fault_of b words) error) e (h (ap is_simple_and_free e ∙ command_is_free)) in
    elim kinds [ inl memory ↦ absurd (other memory) | inr among ↦ some_kind (fault_of command words) (kind_of error) among ]

pub matches_from : (a : App) (words : List Text) (m : ArgMatches) → a ≡ command → HasMatchesOf a words m → subcommand_rows_of m ≡ matches words
unfolding matches
matches_from a words m e h = (h (ap is_simple e ∙ command_is_simple)).1 ∙ ap (λ (b : App). subcommand_of b words) e

-- what is asked for by words that are taken, and by others
pub answered : (words : List Text) (found : Option (Text × List Row)) (answer : Result Request RequestRefusal)
    → is_taken words ≡ true → found ≡ matches words → ReadsWords (request_in found) answer → ReadsWords (request words) answer
unfolding request
answered words found answer taken same reads = rw taken rw (← same) reads

pub nothing_asked : (words : List Text) → is_taken words ≡ false → request words ≡ None
unfolding request
nothing_asked words refused = rw refused refl
