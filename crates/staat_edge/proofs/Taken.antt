-- What the bytes that were taken of an open file tell of the files that fit, and of the name at which a call failed.
use Rattle.std.proofs.Common.{◌≡◌, ◌∙◌, ◌<◌, ◌≤◌, ℕ, true, false, List, ◌++◌, Option, Some, None, Result, Ok, Err}
use Rattle.std.proofs.Common.{append-nil, ap, arith, length, refl, subst, sym}
use Rattle.std.specs.Prelude.{IsSome, IsSomeAnd, OnErr, is_err, option_map}
use Rattle.std.specs.Io.KnownBytes.{Consumes, IsAtEnd}
use Rattle.std.proofs.lemmas.List.{length-append}
use Rattle.std.proofs.lemmas.Option.{none-some}
use Rattle.staat_vec.proofs.Truth.{false_true_clash}
use Rattle.staat_edge.specs.Causes.{Rose}
use Rattle.staat_edge.specs.Files.{bytes_of, content_of, held_name, told_name, Lacks}

-- a count that rose since a later time
pub rose_since : (first before now : ℕ) → first ≤ before → Rose before now → Rose first now
rose_since first before now le rose = omega (arith, le, rose)

pub where_refused : {X E P : Type 0} (r : Result X E) → is_err r ≡ true → OnErr r P → P
where_refused (Ok x) wrong holds = absurd (false_true_clash false refl wrong)
where_refused (Err e) is holds = holds

pub not_lacking : (holds : Option (List (List ℕ × List ℕ))) (name : List ℕ) → IsSome (content_of holds name)
    → Lacks holds name → ⊥
not_lacking None name there lacks = lacks
not_lacking (Some files) name there lacks = false_true_clash false refl (subst IsSome lacks there)

-- the name that is told of the open file is that of a held one
pub told_held : (holds : Option (List (List ℕ × List ℕ))) (name : List ℕ) → (Lacks holds name → ⊥)
    → told_name holds name ≡ held_name holds name
told_held None name has = refl
told_held (Some files) name has = at (bytes_of name files) has where
  at : (o : Option (List ℕ)) → (o ≡ None → ⊥) → Some name ≡ option_map (λ _. name) o
  at None has = absurd (has refl)
  at (Some bytes) has = refl

-- what was taken up to the end are all bytes of the file
pub taken_whole : (holds : Option (List (List ℕ × List ℕ))) (name taken : List ℕ) (left : Option (List ℕ))
    (held : List (List ℕ × List ℕ)) → (Lacks holds name → ⊥) → Consumes (content_of holds name) left taken
    → IsAtEnd left → holds ≡ Some held → bytes_of name held ≡ Some taken
taken_whole None name taken left held has consumes end is = absurd (none-some held is)
taken_whole (Some files) name taken left held has consumes end is =
    ap (λ h. content_of h name) (sym is) ∙ at (bytes_of name files) left has consumes end
  where
    at : (o l : Option (List ℕ)) → (o ≡ None → ⊥) → Consumes o l taken → IsAtEnd l → o ≡ Some taken
    at None l has consumes end = absurd (has refl)
    at (Some xs) None has consumes end = absurd consumes
    at (Some xs) (Some ys) has consumes end = ap Some (consumes ∙ ap (λ r. taken ++ r) end ∙ append-nil taken)

-- what was taken is no longer than the file
pub taken_longer : (holds : Option (List (List ℕ × List ℕ))) (name taken : List ℕ) (limit : ℕ) (left : Option (List ℕ))
    (held : List (List ℕ × List ℕ)) → (Lacks holds name → ⊥) → limit < length taken
    → Consumes (content_of holds name) left taken → holds ≡ Some held
    → IsSomeAnd (bytes_of name held) (λ bytes. limit < length bytes)
taken_longer None name taken limit left held has long consumes is = absurd (none-some held is)
taken_longer (Some files) name taken limit left held has long consumes is =
    subst (λ o. IsSomeAnd o (λ bytes. limit < length bytes)) (ap (λ h. content_of h name) is)
    (at (bytes_of name files) left has consumes)
  where
    at : (o l : Option (List ℕ)) → (o ≡ None → ⊥) → Consumes o l taken → IsSomeAnd o (λ bytes. limit < length bytes)
    at None l has consumes = absurd (has refl)
    at (Some xs) None has consumes = absurd consumes
    at (Some xs) (Some ys) has consumes = omega (arith, long, ap length consumes, length-append taken ys)
