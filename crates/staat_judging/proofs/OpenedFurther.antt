-- The files opened after those of an input.
use Rattle.std.proofs.Common.{◌≡◌, ℕ, Bool, true, false, List, [], ◌∷◌, ◌++◌, append-nil, subst, inl, inr}
use Rattle.staat_edge.specs.Fitting.{Narrows}
use Rattle.staat_edge.specs.Opening.{OpensAll, OpensFiles, OpensSome}
use Rattle.staat_edge.specs.Readings.{FileReading, whole_reading}
use Rattle.staat_edge.specs.Told.{ShelfTold}
use Rattle.staat_edge.proofs.OpeningLemmas.{narrowed, opens_after, opens_some, some_of_more}
use Rattle.staat_words.specs.declared.request.Input.{Input}
use Rattle.staat_words.specs.declared.request.Input.TheVariants as inputs
use Rattle.staat_input.specs.declared.limits.Limits.{Limits}
use Rattle.staat_input.specs.Opened.{OpensInput, OpensSomeOf, piece_files}

-- files that fit after a file was opened fitted before
pub fitted_before : (ends : Bool) (names : List (List ℕ)) (mid now : ShelfTold) → now.holds ≡ mid.holds
    → OpensFiles ends names mid now → Narrows mid now
fitted_before ends names mid now same opens = narrowed names mid now same
    (opens_some ends names mid.given now.given opens)

-- some of no more files are some of more
begun_more : (names more : List (List ℕ)) (before now : List FileReading) → OpensSome (names ++ []) before now
    → OpensSome (names ++ more) before now
begun_more names more before now some = some_of_more names more before now
    (subst (λ ns. OpensSome ns before now) (append-nil names) some)

-- after all of no more files, some of more
all_then : (names more : List (List ℕ)) (before mid now : List FileReading) → OpensAll (names ++ []) before mid
    → OpensSome more mid now → OpensSome (names ++ more) before now
all_then names more before mid now all some = opens_after false names more before mid now
    (subst (λ ns. OpensAll ns before mid) (append-nil names) all) some

-- some of the files of the input, before more are opened
pub input_begun : (limits : Limits) (source : Input) (more : List (List ℕ)) (before now : ShelfTold)
    → OpensSomeOf limits source [] before now → OpensSomeOf limits source more before now
input_begun limits (inputs.Files names) more before now some = begun_more names more before.given now.given some
input_begun limits (inputs.Manifest name) more before now (inl part) = inl part
input_begun limits (inputs.Manifest name) more before now (inr listed) =
    inr (record {
      bytes = listed.bytes;
      parts = listed.parts;
      listed = listed.listed;
      opens = begun_more (piece_files listed.parts) more (whole_reading name listed.bytes ∷ before.given) now.given
          listed.opens;
    })

-- all files of the input, and then some of more
pub opened_further : (limits : Limits) (source : Input) (more : List (List ℕ)) (before mid now : ShelfTold)
    → OpensInput limits true source [] before mid → OpensSome more mid.given now.given
    → OpensSomeOf limits source more before now
opened_further limits (inputs.Files names) more before mid now all some =
    all_then names more before.given mid.given now.given all some
opened_further limits (inputs.Manifest name) more before mid now (inl part) some = absurd cc
opened_further limits (inputs.Manifest name) more before mid now (inr listed) some =
    inr (record {
      bytes = listed.bytes;
      parts = listed.parts;
      listed = listed.listed;
      opens = all_then (piece_files listed.parts) more (whole_reading name listed.bytes ∷ before.given) mid.given
          now.given listed.opens some;
    })

-- the same where it is told whether the later work came to its end
pub opened_after_input : (limits : Limits) (ends : Bool) (source : Input) (more : List (List ℕ))
    (before mid now : ShelfTold) → OpensInput limits true source [] before mid → OpensFiles ends more mid now
    → OpensSomeOf limits source more before now
opened_after_input limits ends source more before mid now all some = opened_further limits source more before mid now
    all (opens_some ends more mid.given now.given some)
