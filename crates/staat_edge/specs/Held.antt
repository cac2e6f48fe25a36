-- What a shelf in memory tells of its open file, by the laws of every shelf.
use Rattle.std.specs.Prelude.{◌≡◌, ℕ, List, Option, Some, None, IsSome, IsSomeAnd, is_some, option_map, drop}
use Rattle.std.specs.Prelude.{slice_get, refl, Bool, true, false}
use Rattle.std.specs.Option.{ForSome, option_and_then}
use Rattle.std.proofs.Common.{ap, subst, sym}
use Rattle.std.proofs.lemmas.Option.{none-some}
use Rattle.staat_edge.specs.Files.{bytes_of, left_at, left_of, name_of_file, IsFirstOfName}

-- the name of the file is one by which the files give its bytes
abbrev pub StandsFor : List (List ℕ × List ℕ) → Option (List ℕ × List ℕ) → Type 0
StandsFor files file =
    option_map (λ f. f.1) file ≡ option_and_then (λ name. bytes_of name files) (option_map (λ f. f.0) file)

-- what is left of a file is told by its name, where the name stands for that file
left_by_name :
    (files : List (List ℕ × List ℕ)) (place : ℕ) (file : Option (List ℕ × List ℕ)) →
    StandsFor files file →
    option_map (λ f. drop place f.1) file ≡ left_of (Some files) (option_map (λ f. f.0) file) (Some place)
left_by_name files place None h = refl
left_by_name files place (Some f) h = ap (option_map (λ bytes. drop place bytes)) h

-- what is left of the open file is told by its name and place
pub left_is_told :
    (files : List (List ℕ × List ℕ)) (at : Option (ℕ × ℕ)) → ForSome at (λ p. IsFirstOfName files p.0) →
    left_at files at ≡
    left_of (Some files) (name_of_file files (option_map (λ p. p.0) at)) (option_map (λ p. p.1) at)
left_is_told files None known = refl
left_is_told files (Some at) known = left_by_name files at.1 (slice_get files at.0) (known at refl).first

abbrev IsNot : Bool → Type 0
IsNot false = Unit {0}
IsNot true = ⊥

held_by_name :
    (files : List (List ℕ × List ℕ)) (file : Option (List ℕ × List ℕ)) →
    IsSome file → StandsFor files file →
    IsSomeAnd (option_map (λ f. f.0) file) (λ name. IsSome (bytes_of name files))
held_by_name files None there h = absurd (subst IsNot there tt)
held_by_name files (Some f) there h = ap is_some (sym h)

-- the name of the open file is that of a held one
pub held_is_told :
    (files : List (List ℕ × List ℕ)) (at : Option (ℕ × ℕ)) → ForSome at (λ p. IsFirstOfName files p.0) →
    (place : ℕ) → option_map (λ p. p.1) at ≡ Some place →
    IsSomeAnd (name_of_file files (option_map (λ p. p.0) at)) (λ name. IsSome (bytes_of name files))
held_is_told files None known place is_open = absurd (none-some place is_open)
held_is_told files (Some at) known place is_open =
    held_by_name files (slice_get files at.0) (known at refl).there (known at refl).first

-- the same of any list that these files are
pub held_in :
    (files held : List (List ℕ × List ℕ)) (at : Option (ℕ × ℕ)) →
    ForSome at (λ p. IsFirstOfName files p.0) →
    Some files ≡ Some held → (place : ℕ) → option_map (λ p. p.1) at ≡ Some place →
    IsSomeAnd (name_of_file files (option_map (λ p. p.0) at)) (λ name. IsSome (bytes_of name held))
held_in files held at known same place is_open =
    subst (λ (o : Option (List (List ℕ × List ℕ))). IsSomeAnd (name_of_file files (option_map (λ p. p.0) at))
    (λ name. IsSome (option_and_then (bytes_of name) o))) same (held_is_told files at known place is_open)

-- where no file is open, there is no name of one
pub no_name :
    (files : List (List ℕ × List ℕ)) (at : Option (ℕ × ℕ)) → option_map (λ p. p.1) at ≡ None →
    name_of_file files (option_map (λ p. p.0) at) ≡ None
no_name files None h = refl
no_name files (Some at) h = absurd (none-some at.1 (sym h))

-- a shelf in memory tells what it holds
pub no_untold : {X : Type 0} → (files : List (List ℕ × List ℕ)) → Some files ≡ None → X
no_untold files h = absurd (none-some files (sym h))

-- a shelf that tells nothing holds no files that it tells
pub no_told : {X : Type 0} → (files : List (List ℕ × List ℕ)) → None ≡ Some files → X
no_told files h = absurd (none-some files h)
