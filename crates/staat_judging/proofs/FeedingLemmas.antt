-- What a reader was fed of a file.
use Rattle.std.proofs.Common.{◌≡◌, ◌∙◌, refl, sym, ap, subst, arith, ℕ, ◌+◌, ◌<◌, ◌≤◌}
use Rattle.std.proofs.Common.{List, [], ◌∷◌, ◌++◌, length, take, append-nil, Option, Some, None, false, Ok, Err}
use Rattle.std.specs.Prelude.{Result, IfErr, IfSome, IsSomeAnd}
use Rattle.std.specs.Io.KnownBytes.{Consumes, IsAtEnd}
use Rattle.std.proofs.KnownBytes.{Consumes-all, Consumes-nil, Consumes-trans}
use Rattle.std.specs.Option.{option_and_then}
use Rattle.std.proofs.lemmas.List.{length-append, length-take-le}
use Rattle.std.proofs.lemmas.Option.{none-some}
use Rattle.staat_edge.specs.Files.{bytes_of, content_of, Lacks}
use Rattle.staat_edge.specs.Fitting.{Fit, IsLonger}
use Rattle.staat_edge.specs.Opening.{OpensAll, OpensSome}
use Rattle.staat_edge.specs.Readings.{FileReading, after_read, begun}
use Rattle.staat_edge.specs.Told.{ShelfTold}
use Rattle.staat_edge.proofs.Fitted.{as_it_is, ended_by, grown_by, longer_fits, one_ended, whole_fits}
use Rattle.staat_fault.specs.declared.fault.Fault.{Fault}
use Rattle.staat_fault.specs.declared.fault.Fault.TheVariants.{OutOfMemory}
use Rattle.staat_limits.specs.declared.limits.TheConstants.{TEXT_LIMIT}
use Rattle.staat_input.specs.Work.{Files, Found, Follows, IsTakenWithin}
use Rattle.staat_judging.specs.Feeding.{IsFed, IsFedFile}
use Rattle.staat_input.proofs.ReadLemmas.{found_within}

-- what was taken of the content was fed, so many bytes; and the last reading gave it
pub record IsFedSoFar (content left : Option (List ℕ)) (name : List ℕ) (before now : List FileReading)
    (WasFed : List ℕ → Type 0) (taken : ℕ) : Type 0 where
  pub text : List ℕ
  pub fed : WasFed text
  pub count : taken ≡ length text
  pub bytes : Consumes content left text
  pub given : now ≡ record { name = name; bytes = text; ended = false } ∷ before

pub fed_nothing : (content left : Option (List ℕ)) (name : List ℕ) (before now : List FileReading)
    (WasFed : List ℕ → Type 0) → WasFed [] → left ≡ content → now ≡ begun name ∷ before
    → IsFedSoFar content left name before now WasFed 0
fed_nothing content left name before now WasFed fed e given =
    record {
      text = [];
      fed = fed;
      count = refl;
      bytes = subst (λ l. Consumes content l []) (sym e)
          (Consumes-nil content);
      given = given;
    }

pub fed_more : (content left after : Option (List ℕ)) (name : List ℕ) (before mid now : List FileReading)
    (Before After : List ℕ → Type 0) (taken n : ℕ) (buf : List ℕ) → 0 < n → n ≤ length buf
    → IsFedSoFar content left name before mid Before taken → Consumes left after (take n buf)
    → now ≡ after_read n buf mid → ((text : List ℕ) → Before text → After (text ++ take n buf))
    → IsFedSoFar content after name before now After (taken + n)
fed_more content left after name before mid now Before After taken n buf some le so more given feed = record {
  text = so.text ++ take n buf;
  fed = feed so.text so.fed;
  count = omega (arith, so.count, length-append so.text (take n buf), length-take-le n buf le);
  bytes = Consumes-trans content left after so.text (take n buf) so.bytes more;
  given = grown_by n buf name so.text before mid now some so.given given;
}

whole_of : (holds : Option Files) (name text : List ℕ) → (Lacks holds name → ⊥)
    → IfSome (content_of holds name) (λ xs. text ≡ xs) → (held : Files) → holds ≡ Some held
    → bytes_of name held ≡ Some text
whole_of None name text has h held is = absurd (none-some held is)
whole_of (Some files) name text has h held is =
    subst (λ (fs : Option Files). option_and_then (bytes_of name) fs ≡ Some text) is
    (go (bytes_of name files) refl h)
  where
    go : (o : Option (List ℕ)) → bytes_of name files ≡ o → IfSome o (λ xs. text ≡ xs)
        → bytes_of name files ≡ Some text
    go None e h = absurd (has e)
    go (Some xs) e h = e ∙ ap Some (sym h)

pub fed_whole : (old told : ShelfTold) (name : List ℕ) (mid : List FileReading) (buf : List ℕ)
    (left after : Option (List ℕ)) (WasFed : List ℕ → Type 0) (taken : ℕ) → (Lacks old.holds name → ⊥)
    → told.holds ≡ old.holds → taken ≤ TEXT_LIMIT
    → IsFedSoFar (content_of old.holds name) left name old.given mid WasFed taken → Consumes left after []
    → IsAtEnd after → told.given ≡ after_read 0 buf mid → 0 < length buf → IsFedFile told name WasFed
fed_whole old told name mid buf left after WasFed taken has same le so more at_end given room = record {
  text = so.text;
  whole_is =
      let all = Consumes-all (content_of old.holds name) after (so.text ++ []) [] (so.text)
      (Consumes-trans (content_of old.holds name) left after so.text [] so.bytes more) at_end
      (sym (append-nil so.text)) in
      whole_fits told.holds name so.text old.given told.given
      (ended_by buf name so.text old.given mid told.given room so.given given)
      (λ held is. whole_of old.holds name so.text has all held (sym same ∙ is));
  fed = record { fed = so.fed; within = subst (λ n. n ≤ TEXT_LIMIT) so.count le };
}

long_of : (holds : Option Files) (name text : List ℕ) (left : Option (List ℕ)) → (Lacks holds name → ⊥)
    → TEXT_LIMIT < length text → Consumes (content_of holds name) left text → (held : Files)
    → holds ≡ Some held → IsSomeAnd (bytes_of name held) (λ bytes. TEXT_LIMIT < length bytes)
long_of None name text left has lt h held is = absurd (none-some held is)
long_of (Some files) name text left has lt h held is =
    subst (λ (fs : Option Files). IsSomeAnd (option_and_then (bytes_of name) fs)
    (λ bytes. TEXT_LIMIT < length bytes)) is
    (go (bytes_of name files) left refl h)
  where
    go : (o l : Option (List ℕ)) → bytes_of name files ≡ o → Consumes o l text
        → IsSomeAnd o (λ bytes. TEXT_LIMIT < length bytes)
    go None l e h = absurd (has e)
    go (Some xs) None e h = absurd h
    go (Some xs) (Some ys) e h = omega (arith, lt, ap length h, length-append text ys)

pub fed_long : (old told : ShelfTold) (name : List ℕ) (left : Option (List ℕ)) (WasFed : List ℕ → Type 0)
    (taken : ℕ) → (Lacks old.holds name → ⊥) → told.holds ≡ old.holds → TEXT_LIMIT < taken
    → IsFedSoFar (content_of old.holds name) left name old.given told.given WasFed taken
    → IsLonger told name TEXT_LIMIT
fed_long old told name left WasFed taken has same lt so =
    let long : TEXT_LIMIT < length so.text = subst (λ n. TEXT_LIMIT < n) so.count lt in
    longer_fits told.holds name so.text TEXT_LIMIT old.given told.given long so.given
    (λ held is. long_of old.holds name so.text left has long so.bytes held (sym same ∙ is))

-- what was fed was read of one file, which was opened
pub opened_so_far : (content left : Option (List ℕ)) (name : List ℕ) (before mid now : List FileReading)
    (WasFed : List ℕ → Type 0) (taken : ℕ) → IsFedSoFar content left name before mid WasFed taken → now ≡ mid
    → OpensSome (name ∷ []) before now
opened_so_far content left name before mid now WasFed taken so same =
    as_it_is name so.text before now (same ∙ so.given)

-- the same of a file that was read to its end
pub opened_whole : (content left : Option (List ℕ)) (name : List ℕ) (before mid now : List FileReading)
    (WasFed : List ℕ → Type 0) (taken : ℕ) (buf : List ℕ) → 0 < length buf
    → IsFedSoFar content left name before mid WasFed taken → now ≡ after_read 0 buf mid
    → OpensAll (name ∷ []) before now
opened_whole content left name before mid now WasFed taken buf room so gave =
    one_ended buf name so.text before mid now room so.given gave

pub ruleset feeding = (fed_nothing, fed_more, fed_whole, fed_long, opened_so_far, opened_whole)

-- what is said of the text that was fed is found in the whole file
pub found_fed : {X : Type 0} (Says : List ℕ → Found X → Type 0) (told : ShelfTold) (files : Files)
    (name : List ℕ) (WasFed : List ℕ → Type 0) (r : Result X Fault) → Fit told files
    → IsFedFile told name WasFed → ((text : List ℕ) → IsFed WasFed text → Follows (Says text) r)
    → Follows (IsTakenWithin TEXT_LIMIT files name Says) r
found_fed Says told files name WasFed r fit file says = found_within TEXT_LIMIT Says told files name file.text r
    fit file.whole_is file.fed.within (says file.text file.fed)

-- what holds of want of memory holds of an answer with no other fault
pub memory_alone : {X : Type 0} (P : Fault → Type 0) (r : Result X Fault) → P OutOfMemory
    → IfErr r (λ f. f ≡ OutOfMemory) → IfErr r P
memory_alone P (Ok x) h only = tt
memory_alone P (Err e) h only = subst P (sym only) h
