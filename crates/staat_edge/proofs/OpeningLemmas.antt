-- Files opened one after another.
use Rattle.std.proofs.Common.{◌≡◌, ℕ, Bool, true, false, List, [], ◌∷◌, ◌++◌, Option, Result, Ok, Err, inl, inr, subst}
use Rattle.std.specs.Prelude.{IsErrAnd, is_ok}
use Rattle.staat_edge.specs.Fitting.{FitBy, Narrows}
use Rattle.staat_edge.specs.Opening.{OpensAll, OpensSome, Opens}
use Rattle.staat_edge.specs.Readings.{FileReading}
use Rattle.staat_edge.specs.Told.{ShelfTold}
use Rattle.staat_edge.proofs.Fitted.{before_one}

-- all are some
pub all_some : (names : List (List ℕ)) (before now : List FileReading) → OpensAll names before now → OpensSome names before now
all_some [] before now all = all
all_some (name ∷ names) before now (reading, named, all) = inr (reading, named, all_some names (reading ∷ before) now all)

pub opens_some : (ends : Bool) (names : List (List ℕ)) (before now : List FileReading) → Opens ends names before now → OpensSome names before now
opens_some true names before now all = all_some names before now all
opens_some false names before now some = some

-- none are some
pub none_opened : (names : List (List ℕ)) (before now : List FileReading) → now ≡ before → OpensSome names before now
none_opened [] before now same = same
none_opened (name ∷ names) before now same = inl same

-- some of these are some of more
pub some_of_more : (names more : List (List ℕ)) (before now : List FileReading) → OpensSome names before now → OpensSome (names ++ more) before now
some_of_more [] more before now same = none_opened more before now same
some_of_more (name ∷ names) more before now (inl same) = inl same
some_of_more (name ∷ names) more before now (inr (reading, named, some)) = inr (reading, named, some_of_more names more (reading ∷ before) now some)

some_after : (names more : List (List ℕ)) (before mid now : List FileReading) → OpensAll names before mid → OpensSome more mid now → OpensSome (names ++ more) before now
some_after [] more before mid now same some = subst (λ (m : List FileReading). OpensSome more m now) same some
some_after (name ∷ names) more before mid now (reading, named, all) some = inr (reading, named, some_after names more (reading ∷ before) mid now all some)

all_after : (names more : List (List ℕ)) (before mid now : List FileReading) → OpensAll names before mid → OpensAll more mid now → OpensAll (names ++ more) before now
all_after [] more before mid now same all = subst (λ (m : List FileReading). OpensAll more m now) same all
all_after (name ∷ names) more before mid now (reading, named, all) rest = (reading, named, all_after names more (reading ∷ before) mid now all rest)

-- after all of these, more are opened
pub opens_after : (ends : Bool) (names more : List (List ℕ)) (before mid now : List FileReading) → OpensAll names before mid → Opens ends more mid now → Opens ends (names ++ more) before now
opens_after true names more before mid now all rest = all_after names more before mid now all rest
opens_after false names more before mid now all rest = some_after names more before mid now all rest

-- where the work came to no end, some were opened
pub refused : {X E : Type 0} (P : E → Type 0) (r : Result X E) (names : List (List ℕ)) (before now : List FileReading) → IsErrAnd r P → OpensSome names before now → Opens (is_ok r) names before now
refused P (Ok x) names before now wrong some = absurd wrong
refused P (Err e) names before now is some = some

fit_fewer : (holds : Option (List (List ℕ × List ℕ))) (names : List (List ℕ)) (before now : List FileReading) (files : List (List ℕ × List ℕ)) → OpensSome names before now → FitBy holds now files → FitBy holds before files
fit_fewer holds [] before now files same fit = subst (λ (g : List FileReading). FitBy holds g files) same fit
fit_fewer holds (name ∷ names) before now files (inl same) fit = subst (λ (g : List FileReading). FitBy holds g files) same fit
fit_fewer holds (name ∷ names) before now files (inr (reading, named, some)) fit = before_one holds reading before files (fit_fewer holds names (reading ∷ before) now files some fit)

-- files that fit after some were opened fitted before
pub narrowed : (names : List (List ℕ)) (before now : ShelfTold) → now.holds ≡ before.holds → OpensSome names before.given now.given → Narrows before now
narrowed names before now same some files fit = fit_fewer before.holds names before.given now.given files some (subst (λ (h : Option (List (List ℕ × List ℕ))). FitBy h now.given files) same fit)
