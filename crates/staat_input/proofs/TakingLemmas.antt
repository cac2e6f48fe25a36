-- How calls follow one another that take steps of the work.
use Rattle.std.proofs.Common.{◌≡◌, ◌∙◌, ◌+◌, ◌<◌, ◌≤◌, ◌++◌, ℕ, List, [], ◌∷◌, Ok, Err, true, false, inl, refl, sym, subst, arith, length, get_or}
use Rattle.std.specs.Prelude.{IfErr, IsErrAnd, is_ok}
use Rattle.std.proofs.lemmas.List.{drop_more}
use Rattle.std.proofs.lemmas.Result.{IfErr-weaker}
use Rattle.staat_edge.specs.Fitting.{Fit, Narrows}
use Rattle.staat_edge.specs.Opening.{OpensAll, OpensFiles, OpensSome}
use Rattle.staat_edge.specs.Told.{ShelfTold}
use Rattle.staat_edge.proofs.OpeningLemmas.{all_some, narrowed, opens_after}
use Rattle.staat_fault.specs.declared.fault.Fault.{Fault}
use Rattle.staat_fault.specs.declared.fault.Fault.TheVariants as fault
use Rattle.staat_input.specs.Causes.{HasCause, IfTooLong, ShelfSide, over}
use Rattle.staat_input.specs.Taking.{IsLaterShelf, TakesStep, TakesFiles}
use Rattle.staat_input.specs.Work.{Each, Files, Follows, Found, IsNotTaken, IsTaken}
use Rattle.staat_input.proofs.CauseLemmas.{never_long}
use Rattle.staat_input.proofs.ReadLemmas.{not_taken}
use Rattle.staat_input.proofs.InputLemmas.{Continues, cause_from, each_end, each_more, follows_fault}

pub after_none : (told : ShelfTold) → IsLaterShelf told told
after_none told = record { holds = refl; count = omega arith }

pub after_twice : (before mid now : ShelfTold) → IsLaterShelf before mid → IsLaterShelf mid now → IsLaterShelf before now
after_twice before mid now first second =
    record { holds = second.holds ∙ first.holds; count = omega (arith, first.count, second.count) }

pub after_step : {X : Type 0} {Step : Files → Found X → Type 0} {Opened : Found X → Type 0} {Long : List ℕ → Type 0} {before now : ShelfTold}
    {r : Found X} → TakesStep Step Opened Long before now r → IsLaterShelf before now
after_step takes = record { holds = takes.holds; count = takes.count }

-- what holds of a fault holds of the answer with it
pub failed : {X : Type 0} (P : Found X → Type 0) (f : Fault) (r : Found X) → P (Err f) → IsErrAnd r (λ e. e ≡ f) → P r
failed P f (Ok x) h is = absurd is
failed P f (Err e) h is = subst (λ g. P (Err g)) (sym is) h

long_wider : (P Q : List ℕ → Type 0) (f : Fault) → ((name : List ℕ) → P name → Q name) → IfTooLong P f → IfTooLong Q f
long_wider P Q (fault.TooLong name) wider h = wider name h
long_wider P Q f wider h = tt

module _ {Y : Type 0} {Whole : Files → Found Y → Type 0} {All : Found Y → Type 0} {Q : List ℕ → Type 0}
    {before now : ShelfTold} {r : Found Y} where
  -- the work came to this answer without the shelf
  pub takes_pure : IsLaterShelf before now → ((files : Files) → Fit now files → Follows (Whole files) r) → All r
      → ((shelf : ShelfSide) → IfErr r (HasCause shelf)) → TakesStep Whole All Q before now r
  takes_pure after found opened cause =
      record {
        holds = after.holds;
        count = after.count;
        opens = opened;
        found = found;
        cause = cause (over before now);
        named = never_long Q r cause;
      }

  -- there was no memory
  pub takes_memory : IsLaterShelf before now → ((g : Fault) → All (Err g)) → IsErrAnd r (λ e. e ≡ fault.OutOfMemory)
      → TakesStep Whole All Q before now r
  takes_memory after opened is = failed (TakesStep Whole All Q before now) fault.OutOfMemory r (record {
    holds = after.holds;
    count = after.count;
    opens = opened fault.OutOfMemory;
    found = λ files fit. tt;
    cause = tt;
    named = tt;
  }) is

  -- the rest of the work, after other work
  pub takes_later : {Rest : Files → Found Y → Type 0} {Opened : Found Y → Type 0} {P : List ℕ → Type 0} {mid : ShelfTold}
      → IsLaterShelf before mid → TakesStep Rest Opened P mid now r
      → ((files : Files) → Fit now files → Follows (Rest files) r → Follows (Whole files) r) → All r
      → ((name : List ℕ) → P name → Q name) → TakesStep Whole All Q before now r
  takes_later {Rest} {Opened} {P} {mid} after rest found opened wider = record {
    holds = rest.holds ∙ after.holds;
    count = omega (arith, after.count, rest.count);
    opens = opened;
    found = λ files fit. found files fit (rest.found files fit);
    cause = IfErr-weaker r (HasCause (over mid now)) (HasCause (over before now))
        (λ f h. cause_from before mid now f after.count after.holds h) rest.cause;
    named = IfErr-weaker r (IfTooLong P) (IfTooLong Q) (λ f h. long_wider P Q f wider h) rest.named;
  }

  -- a step found a fault, after other work
  pub takes_fault : {X : Type 0} {Step : Files → Found X → Type 0} {Opened : Found X → Type 0} {P : List ℕ → Type 0}
      {mid : ShelfTold} {f : Fault} → IsLaterShelf before mid → TakesStep Step Opened P mid now (Err f)
      → ((files : Files) → Fit now files → (g : Fault) → Step files (Err g) → Whole files (Err g))
      → ((g : Fault) → All (Err g)) → ((name : List ℕ) → P name → Q name) → IsErrAnd r (λ e. e ≡ f)
      → TakesStep Whole All Q before now r
  takes_fault {X} {Step} {Opened} {P} {mid} {f} after step found opened wider is =
      failed (TakesStep Whole All Q before now) f r (record {
        holds = step.holds ∙ after.holds;
        count = omega (arith, after.count, step.count);
        opens = opened f;
        found = λ files fit. follows_fault (Step files) (Whole files) f (found files fit) (step.found files fit);
        cause = cause_from before mid now f after.count after.holds step.cause;
        named = long_wider P Q f wider step.named;
      }) is

-- a file was not taken
pub untaken : {X : Type 0} (Says : List ℕ → Found X → Type 0) (before now : ShelfTold) (name : List ℕ) (f : Fault) → IsLaterShelf before now
    → OpensFiles false (name ∷ []) before now → IsNotTaken now name f → HasCause (over before now) f
    → TakesFiles (λ files. IsTaken files name Says) (name ∷ []) (λ long. long ≡ name) before now (Err f)
untaken Says before now name f after opens refused cause = record {
  holds = after.holds;
  count = after.count;
  opens = opens;
  found = λ files fit. not_taken Says now files name f fit refused;
  cause = cause;
  named = long_named f refused;
}
  where
    long_named : (f : Fault) → IsNotTaken now name f → IfTooLong (λ long. long ≡ name) f
    long_named (fault.TooLong at) refused = refused.0
    long_named f refused = tt

-- files that fit after files were opened fitted before
pub takes_back : {X : Type 0} {Step : Files → Found X → Type 0} {P : List ℕ → Type 0} {before now : ShelfTold} {x : X}
    (names : List (List ℕ)) → TakesStep Step (λ found. OpensFiles (is_ok found) names before now) P before now (Ok x) → Narrows before now
takes_back {X} {Step} {P} {before} {now} names takes =
    narrowed names before now takes.holds (all_some names before.given now.given takes.opens)

-- ---- a step for each member of a list

-- The members before this place were taken and gave `done`, and these files were opened.
pub record HasTaken {X Y : Type 0} (Step : Files → X → Found Y → Type 0) (xs : List X) (i : ℕ) (done : List Y)
    (names : List (List ℕ)) (before now : ShelfTold) : Type 0 where
  pub after : IsLaterShelf before now
  pub found : (files : Files) → Fit now files → Continues (Step files) xs i done
  pub opens : OpensAll names before.given now.given

pub none_taken : {X Y : Type 0} (Step : Files → X → Found Y → Type 0) (xs : List X) (told : ShelfTold) → HasTaken Step xs 0 [] [] told told
none_taken Step xs told = record { after = after_none told; found = λ files fit. start (Step files) xs; opens = refl }
  where
    start : {X Y : Type 0} (One : X → Found Y → Type 0) (xs : List X) → Continues One xs 0 []
    start One xs (Ok ys) h = h
    start One xs (Err f) h = h

module _ {X Y : Type 0} {Step : Files → X → Found Y → Type 0} {xs : List X} {i : ℕ} {done : List Y}
    {names : List (List ℕ)} {before mid : ShelfTold} (so_far : HasTaken Step xs i done names before mid) where
  pub taken_end : {Q : List ℕ → Type 0} (all : List (List ℕ)) (result : List Y) → length xs ≤ i → result ≡ done → names ≡ all
      → TakesStep (λ files. Each (Step files) xs) (λ found. OpensFiles (is_ok found) all before mid) Q before mid (Ok result)
  taken_end all result le is same = record {
    holds = so_far.after.holds;
    count = so_far.after.count;
    found = λ files fit. subst (λ ys. Each (Step files) xs (Ok ys)) (sym is) (each_end (Step files) xs i done le (so_far.found files fit));
    opens = subst (λ (ns : List (List ℕ)). OpensAll ns before.given mid.given) same so_far.opens;
    cause = tt;
    named = tt;
  }

  pub taken_memory : {Q : List ℕ → Type 0} (all : List (List ℕ)) {r : Found (List Y)}
      → (OpensSome names before.given mid.given → OpensSome all before.given mid.given)
      → IsErrAnd r (λ e. e ≡ fault.OutOfMemory)
      → TakesStep (λ files. Each (Step files) xs) (λ found. OpensFiles (is_ok found) all before mid) Q before mid r
  taken_memory all some is = takes_memory so_far.after (λ g. some (all_some names before.given mid.given so_far.opens)) is

  module _ {P : List ℕ → Type 0} {now : ShelfTold} (x : X) (more : List (List ℕ)) (lt : i < length xs)
      (at : x ≡ get_or xs i x) where
    -- one member more
    pub taken_more : (all : List (List ℕ)) (y : Y) (later : List Y)
        → TakesStep (λ files. Step files x) (λ found. OpensFiles (is_ok found) more mid now) P mid now (Ok y)
        → later ≡ done ++ y ∷ [] → names ++ more ≡ all → HasTaken Step xs (i + 1) later all before now
    taken_more all y later takes is same =
        let back = takes_back more takes in
        record {
          after = after_twice before mid now so_far.after (after_step takes);
          found = λ files fit. subst (Continues (Step files) xs (i + 1)) (sym is)
              (each_more (Step files) xs i done x y lt (subst (λ z. Step files z (Ok y)) at (takes.found files fit))
              (so_far.found files (back files fit)));
          opens = subst (λ (ns : List (List ℕ)). OpensAll ns before.given now.given) same
              (opens_after true names more before.given mid.given now.given so_far.opens takes.opens);
        }

    -- a fault at the next member
    pub taken_fault : {Q : List ℕ → Type 0} (all : List (List ℕ)) (f : Fault) {r : Found (List Y)}
        → TakesStep (λ files. Step files x) (λ found. OpensFiles (is_ok found) more mid now) P mid now (Err f)
        → (OpensSome (names ++ more) before.given now.given → OpensSome all before.given now.given)
        → ((name : List ℕ) → P name → Q name) → IsErrAnd r (λ e. e ≡ f)
        → TakesStep (λ files. Each (Step files) xs) (λ found. OpensFiles (is_ok found) all before now) Q before now r
    taken_fault all f takes some wider is =
        let back : Narrows mid now = narrowed more mid now takes.holds takes.opens in
        takes_fault so_far.after takes
        (λ files fit g fails. so_far.found files (back files fit) (Err g)
        (subst (λ zs. Each (Step files) zs (Err g)) (sym (drop_more xs i x lt))
        (inl (g, subst (λ z. Step files z (Err g)) at fails, refl))))
        (λ g. some (opens_after false names more before.given mid.given now.given so_far.opens takes.opens)) wider is
