-- Texts of lines, whatever the lines say: one way to cut them, and what lines lead to.
use Rattle.std.proofs.Common.{◌≡◌, ◌++◌, ◌∷◌, ◌≤◌, ℕ, Bool, true, false, List, [], map, length, All, ap, ap₂, sym, subst, refl, ◌∙◌, append_assoc, append-nil}
use Rattle.std.specs.Prelude.{IfNone, Option, Some, None, flat_map, option_and_then}
use Rattle.std.proofs.lemmas.Grind.{flat_map-append}
use Rattle.std.proofs.lemmas.List.Elements.{All-append, All-cons, All-head, All-nil, All-tail}
use Rattle.staat_limits.specs.declared.limits.TheConstants.{LINE_LIMIT}
use Rattle.staat_vec.proofs.Options.{none_some, some_injective}
use Rattle.staat_model.specs.Texts.{IsLine, joined}
use Rattle.staat_model.proofs.OneReading.{line_some, lines_once}
use Rattle.staat_cert.specs.TextLines.{AreWholeTexts, BeginsWhole, IsKeptLine, IsTextOfLine, LeadsTo, MakesState, TakesLine, run_by}
use Rattle.staat_cert.proofs.Lists.{all_one}

-- ---- runs

module _ {S L : Type 0} (step : S → L → Option S) where
  pub run_both : (xs ys : List L) (o : Option S) → run_by step o (xs ++ ys) ≡ run_by step (run_by step o xs) ys
  run_both [] ys o = refl
  run_both (x ∷ xs) ys o = run_both xs ys (option_and_then (λ s. step s x) o)

  pub run_none : (ls : List L) → run_by step None ls ≡ None
  run_none [] = refl
  run_none (l ∷ ls) = run_none ls

  -- a line, and then others
  pub onward : (s t : S) (l : L) (ls : List L) → step s l ≡ Some t → run_by step (Some s) (l ∷ ls) ≡ run_by step (Some t) ls
  onward s t l ls e = ap (λ o. run_by step o ls) e

  -- some lines, and then others
  pub in_turn : (s t u : S) (xs ys : List L) → run_by step (Some s) xs ≡ Some t → run_by step (Some t) ys ≡ Some u → run_by step (Some s) (xs ++ ys) ≡ Some u
  in_turn s t u xs ys e f = run_both xs ys (Some s) ∙ ap (λ o. run_by step o ys) e ∙ f

  -- what is so of a state is so of each that lines lead to, and these are the lines that it has read
  module _ (Good : S → Type 0) (lines_in : S → List L) (InBounds : L → Type 0)
      (one : (s : S) (l : L) (t : S) → InBounds l → Good s → step s l ≡ Some t → Good t × (lines_in t ≡ lines_in s ++ l ∷ [])) where
    pub run_good : (ls : List L) (s t : S) → All InBounds ls → Good s → run_by step (Some s) ls ≡ Some t → Good t × (lines_in t ≡ lines_in s ++ ls)
    run_good [] s t f h e = subst (λ x. Good x × (lines_in x ≡ lines_in s ++ [])) (some_injective s t e) (h, sym (append-nil (lines_in s)))
    run_good (l ∷ ls) s t f h e = go (step s l) refl e (λ u g k. run_good ls u t (All-tail InBounds l ls f) g k)
      where
        go : (o : Option S) → step s l ≡ o → run_by step o ls ≡ Some t → ((u : S) → Good u → run_by step (Some u) ls ≡ Some t → Good t × (lines_in t ≡ lines_in u ++ ls)) → Good t × (lines_in t ≡ lines_in s ++ l ∷ ls)
        go None is k rest = absurd (none_some t (sym (run_none ls) ∙ k))
        go (Some u) is k rest =
            let here = one s l u (All-head InBounds l ls f) h is in
            let further = rest u here.0 k in
            (further.0, further.1 ∙ ap (λ x. x ++ ls) here.1 ∙ append_assoc (lines_in s) (l ∷ []) ls)

-- ---- one way to cut lines

-- each line has one line feed, at its end, and no other text than any other
pub record AreLines {L : Type 0} (line_text : L → List ℕ) (InBounds : L → Type 0) : Type 0 where
  pub whole : (l : L) → InBounds l → IsLine (line_text l)
  pub once : (l m : L) → InBounds l → InBounds m → line_text l ≡ line_text m → l ≡ m

module _ {L : Type 0} {line_text : L → List ℕ} {InBounds : L → Type 0} (lines : AreLines line_text InBounds) where
  cut_line : (l m : L) (p q : List ℕ) → InBounds l → InBounds m → line_text l ++ p ≡ line_text m ++ q → (l ≡ m) × (p ≡ q)
  cut_line l m p q f g e =
      let cut = lines_once (line_text l) (line_text m) p q (lines.whole l f) (lines.whole m g) e in
      (lines.once l m f g cut.0, cut.1)

  no_text : (l : L) (ls : List L) (p : List ℕ) → All InBounds (l ∷ ls) → [] ≡ flat_map line_text (l ∷ ls) ++ p → ⊥
  no_text l ls p f e = line_some (line_text l) (flat_map line_text ls ++ p) (lines.whole l (All-head InBounds l ls f)) (sym (append_assoc (line_text l) (flat_map line_text ls) p) ∙ sym e)

  -- where lines go on from others in their bytes, they lead on from where these lead
  pub goes_on : {S : Type 0} (step : S → L → Option S) (o : Option S) (s t : S) (xs ys : List L) (bytes : List ℕ) → All InBounds xs → All InBounds ys → flat_map line_text xs ++ bytes ≡ flat_map line_text ys
      → run_by step o xs ≡ Some s → run_by step o ys ≡ Some t → LeadsTo line_text InBounds step s t bytes
  goes_on step o s t [] ys bytes a b e f g = record { lines = ys; is = e; bounds = b; runs = ap (λ x. run_by step x ys) (sym f) ∙ g }
  goes_on step o s t (x ∷ xs) [] bytes a b e f g = absurd (no_text x xs bytes a (sym e))
  goes_on step o s t (x ∷ xs) (y ∷ ys) bytes a b e f g =
      let cut = cut_line x y (flat_map line_text xs ++ bytes) (flat_map line_text ys) (All-head InBounds x xs a) (All-head InBounds y ys b) (sym (append_assoc (line_text x) (flat_map line_text xs) bytes) ∙ e) in
      goes_on step (option_and_then (λ u. step u y) o) s t xs ys bytes (All-tail InBounds x xs a) (All-tail InBounds y ys b) cut.1 (ap (λ l. run_by step (option_and_then (λ u. step u l) o) xs) (sym cut.0) ∙ f) g

-- ---- texts of lines that lead from the start to an end

-- a whole text's lines are within their bounds and lead to its end, and what leads there is a whole text; each state
-- can be completed, and no line follows an end
pub record IsFormat {S L C : Type 0} (line_text : L → List ℕ) (InBounds : L → Type 0) (step : S → L → Option S) (start : S) (ended : C → S) (spells : List ℕ → C → Type 0) : Type 0 where
  pub are_lines : AreLines line_text InBounds
  pub short : (l : L) → InBounds l → length (line_text l) ≤ LINE_LIMIT
  pub leads : (bytes : List ℕ) (c : C) → spells bytes c → LeadsTo line_text InBounds step start (ended c) bytes
  pub spelled : (bytes : List ℕ) (c : C) → LeadsTo line_text InBounds step start (ended c) bytes → spells bytes c
  pub completion : S → List L
  pub completion_in : (s : S) → All InBounds (completion s)
  pub completed : (s : S) → (c : C) × (run_by step (Some s) (completion s) ≡ Some (ended c))
  pub last : (c : C) (l : L) → step (ended c) l ≡ None

module _ {S L C : Type 0} {line_text : L → List ℕ} {InBounds : L → Type 0} {step : S → L → Option S} {start : S} {ended : C → S} {spells : List ℕ → C → Type 0}
    (format : IsFormat line_text InBounds step start ended spells) where
  abbrev Leads : S → List ℕ → Type 0
  Leads = LeadsTo line_text InBounds step start

  pub none_taken : Leads start []
  none_taken = record { lines = []; is = refl; bounds = All-nil InBounds; runs = refl }

  pub taken_begins : (s : S) (bytes : List ℕ) → Leads s bytes → BeginsWhole spells bytes
  taken_begins s bytes h =
      let (c, runs) = format.completed s in
      let more = format.completion s in
      record {
        whole = c;
        more = flat_map line_text more;
        is = format.spelled _ c (record {
          lines = h.lines ++ more;
          is = ap (λ x. x ++ flat_map line_text more) h.is ∙ sym (flat_map-append line_text h.lines more);
          bounds = All-append InBounds h.lines more h.bounds (format.completion_in s);
          runs = in_turn step start s (ended c) h.lines more h.runs runs;
        });
      }

  -- what follows lines in a whole text leads on from their state to its end
  ahead : (s : S) (before bytes : List ℕ) (c : C) → Leads s before → spells (before ++ bytes) c → LeadsTo line_text InBounds step s (ended c) bytes
  ahead s before bytes c h f =
      let x = format.leads (before ++ bytes) c f in
      goes_on format.are_lines step (Some start) s (ended c) h.lines x.lines bytes h.bounds x.bounds (ap (λ t. t ++ bytes) (sym h.is) ∙ x.is) h.runs x.runs

  -- a text goes on from itself by nothing
  apart : (bytes more : List ℕ) (c d : C) → spells bytes c → spells (bytes ++ more) d → more ≡ []
  apart bytes more c d f g = let h = ahead (ended c) bytes more d (format.leads bytes c f) g in go h.lines h.is h.runs
    where
      go : (ls : List L) → more ≡ flat_map line_text ls → run_by step (Some (ended c)) ls ≡ Some (ended d) → more ≡ []
      go [] e r = e
      go (l ∷ ls) e r = absurd (none_some (ended d) (sym (ap (λ o. run_by step o ls) (format.last c l) ∙ run_none step ls) ∙ r))

  lines_kept : (ls : List L) → All InBounds ls → All IsKeptLine (map line_text ls)
  lines_kept [] h = All-nil IsKeptLine
  lines_kept (l ∷ ls) h =
      let fits = All-head InBounds l ls h in
      All-cons IsKeptLine (line_text l) (map line_text ls) (record { whole = format.are_lines.whole l fits; short = format.short l fits }) (lines_kept ls (All-tail InBounds l ls h))

  joined_texts : (ls : List L) → joined (map line_text ls) ≡ flat_map line_text ls
  joined_texts [] = refl
  joined_texts (l ∷ ls) = ap (λ t. line_text l ++ t) (joined_texts ls)

  pub are_whole : AreWholeTexts spells
  are_whole = record {
    lines = λ bytes c f. let x = format.leads bytes c f in record { lines = map line_text x.lines; each = lines_kept x.lines x.bounds; is = x.is ∙ sym (joined_texts x.lines) };
    apart = apart;
  }

  -- ---- one line more

  line_taken : (s t : S) (bytes : List ℕ) (l : L) → IsTextOfLine line_text InBounds bytes l → step s l ≡ Some t → (before : List ℕ) → Leads s before → Leads t (before ++ bytes) × BeginsWhole spells (before ++ bytes)
  line_taken s t bytes l f e before h = (now, taken_begins t (before ++ bytes) now)
    where
      now : Leads t (before ++ bytes)
      now = record {
        lines = h.lines ++ l ∷ [];
        is = ap₂ (λ x y. x ++ y) h.is (f.text ∙ sym (append-nil (line_text l))) ∙ sym (flat_map-append line_text h.lines (l ∷ []));
        bounds = All-append InBounds h.lines (l ∷ []) h.bounds (all_one InBounds l f.bounds);
        runs = in_turn step start s t h.lines (l ∷ []) h.runs e;
      }

  -- no whole text goes on with a line that can't stand there
  line_wrong : (s : S) (bytes : List ℕ) → IsLine bytes → ((l : L) → IsTextOfLine line_text InBounds bytes l → step s l ≡ None) → (before : List ℕ) → Leads s before → BeginsWhole spells (before ++ bytes) → ⊥
  line_wrong s bytes whole none before h b =
      let x = ahead s before (bytes ++ b.more) b.whole h (subst (λ t. spells t b.whole) (append_assoc before bytes b.more) b.is) in
      go x.lines x.bounds x.is x.runs
    where
      go : (ls : List L) → All InBounds ls → bytes ++ b.more ≡ flat_map line_text ls → run_by step (Some s) ls ≡ Some (ended b.whole) → ⊥
      go [] f e r = line_some bytes b.more whole e
      go (l ∷ ls) f e r =
          let fits = All-head InBounds l ls f in
          let cut = lines_once bytes (line_text l) b.more (flat_map line_text ls) whole (format.are_lines.whole l fits) e in
          none_some (ended b.whole) (sym (ap (λ o. run_by step o ls) (none l (record { text = cut.0; bounds = fits })) ∙ run_none step ls) ∙ r)

  -- the same of bytes that are no line, of whatever has such states
  pub none_follows : {T : Type 0} (state : T → S) (bytes : List ℕ) (found : Option L) → IfNone found ((l : L) → IsTextOfLine line_text InBounds bytes l → ⊥)
      → IfNone found (IsLine bytes → (t : T) (before : List ℕ) → Leads (state t) before → BeginsWhole spells (before ++ bytes) → ⊥)
  none_follows state bytes None none = λ whole t. line_wrong (state t) bytes whole (λ l is. absurd (none l is))
  none_follows state bytes (Some l) none = none

  -- whether the line was taken
  pub takes_line : (s t : S) (bytes : List ℕ) (l : L) (b : Bool) → IsTextOfLine line_text InBounds bytes l → MakesState (step s l) b t → IsLine bytes → TakesLine spells (Leads s) (Leads t) bytes b
  takes_line s t bytes l true f e whole = line_taken s t bytes l f e
  takes_line s t bytes l false f e whole = line_wrong s bytes whole (λ m g. ap (step s) (format.are_lines.once m l g.bounds f.bounds (sym g.text ∙ f.text)) ∙ e)

  pub whole_there : (s : S) (c : C) (bytes : List ℕ) → s ≡ ended c → Leads s bytes → spells bytes c
  whole_there s c bytes e h = format.spelled bytes c (subst (λ t. Leads t bytes) e h)

  -- the state of a whole text's lines is its end
  pub state_there : (s : S) (c : C) (bytes : List ℕ) → Leads s bytes → spells bytes c → s ≡ ended c
  state_there s c bytes h f = let x = ahead s bytes [] c h (subst (λ t. spells t c) (sym (append-nil bytes)) f) in go x.lines x.bounds x.is x.runs
    where
      go : (ls : List L) → All InBounds ls → [] ≡ flat_map line_text ls → run_by step (Some s) ls ≡ Some (ended c) → s ≡ ended c
      go [] f e r = some_injective s (ended c) r
      go (l ∷ ls) f e r = absurd (no_text format.are_lines l ls [] f (ap (λ t. t ++ []) e))
