-- The next word that the scan finds is the next word of the file, and what it passes over as a line is one.
use Rattle.std.proofs.Common.{◌≡◌, ◌≢◌, ◌==◌, ◌+◌, ◌-◌, ◌<◌, ◌≤◌, ℕ, suc, Bool, true, false, List, [], ◌∷◌, length, take, drop, Option, Some, None, refl, sym, ap, ◌∙◌, cond, subst, arith, inl, inr}
use Rattle.std.specs.Prelude.{slice_get}
use Rattle.std.specs.List.{prefix_len}
use Rattle.std.proofs.lemmas.Bool.{cases_lt, eqb-true, eqb-false, false≢true}
use Rattle.std.proofs.lemmas.List.{drop-drop, drop_all, length-drop}
use Rattle.std.proofs.lemmas.Option.{slice_get_within}
use Rattle.std.proofs.lemmas.List.Folds.{length-prefix_len}
use Rattle.std.proofs.lemmas.List.Sums.{prefix_len-le-length}
use Rattle.staat_off.specs.declared.rest.TheConstants.{LINE_FEED}
use Rattle.staat_off.specs.Scan.{Rest, after_line, behind, gap, line_len, next_word, rest_at, word_in_front}
use Rattle.staat_off.specs.Words.{HasNoLineEnd, HasNoWord, IsNextLine, IsNextWord, IsStop, IsWordPlace, Word, end_of, is_plain}
use Rattle.staat_off.proofs.Places.{byte_at, no_byte, nothing_left}
use Rattle.staat_off.proofs.WordLemmas.{Flag, IsRun, gap_closes, gap_front, gap_skips, run_of}
use Rattle.staat_vec.proofs.Options.{none_some, some_injective}

-- ---- the word in front

front_by : (r : Rest) (n : ℕ) (t : Bool) (w : Word) (rest : Rest) → (n == 0) ≡ t → ◌≡◌ {A = Option Word × Rest} (cond t (None, r) (Some (record { text = take n r.bytes; at = r.at }), behind n r)) (Some w, rest) → (0 < n) × (record { text = take n r.bytes; at = r.at } ≡ w) × (behind n r ≡ rest)
front_by r n true w rest e h = let no_word : None ≡ Some w = ap (λ x. x.0) h in cc
front_by r n false w rest e h =
    let ne : n ≢ 0 = eqb-false n 0 e in
    let word : Some (record { text = take n r.bytes; at = r.at }) ≡ Some w = ap (λ x. x.0) h in
    (omega arith, cc, ap (λ x. x.1) h)

front_some : (r : Rest) (w : Word) (rest : Rest) → word_in_front r ≡ (Some w, rest) → let n = prefix_len is_plain r.bytes in (0 < n) × (record { text = take n r.bytes; at = r.at } ≡ w) × (behind n r ≡ rest)
front_some r w rest h =
    front_by r (prefix_len is_plain r.bytes) (prefix_len is_plain r.bytes == 0) w rest refl h

none_by : (r : Rest) (n : ℕ) (t : Bool) (rest : Rest) → (n == 0) ≡ t → ◌≡◌ {A = Option Word × Rest} (cond t (None, r) (Some (record { text = take n r.bytes; at = r.at }), behind n r)) (None, rest) → n ≡ 0
none_by r n true rest e h = eqb-true n 0 e
none_by r n false rest e h =
    let word : Word = record { text = take n r.bytes; at = r.at } in
    let no_word : Some word ≡ None = ap (λ x. x.0) h in
    cc

front_none : (r : Rest) (rest : Rest) → word_in_front r ≡ (None, rest) → prefix_len is_plain r.bytes ≡ 0
front_none r rest h =
    none_by r (prefix_len is_plain r.bytes) (prefix_len is_plain r.bytes == 0) rest refl h

-- ---- the next word

module _ (file : List ℕ) (p : ℕ) (stop : IsStop file p) where
  abbrev n : ℕ
  n = gap false (drop p file)

  abbrev q : ℕ
  q = p + n

  abbrev m : ℕ
  m = prefix_len is_plain (drop n (drop p file))

  there : drop n (drop p file) ≡ drop q file
  there = drop-drop n p file

  left : length (drop n (drop p file)) ≡ length file - p - n
  left =
      omega (arith, length-drop n (drop p file), length-drop p file)

  closed : p < length file → Flag false file p
  closed lt = λ i next commented. stop.outside i next lt commented

  skipped : HasNoWord file p q
  skipped = elim (cases_lt p (length file)) [
    | inl lt ↦ gap_skips file false p (drop p file) refl (closed lt)
    | inr ge ↦ λ i low high w. none_some w.byte (sym (no_byte file p (drop_all p file ge) i low) ∙ w.at)
  ]

  some_left : 0 < m → (n < length (drop p file)) × (p < length file)
  some_left pos =
      let few = prefix_len-le-length is_plain (drop n (drop p file)) in
      (omega (arith, few, left, length-drop p file), omega (arith, few, left))

  run : 0 < m → IsRun file q m
  run pos =
      let some = some_left pos in
      run_of file q (drop n (drop p file)) (sym there) (gap_closes file false p (drop p file) refl (closed some.1) some.0)

  no_word_from : m ≡ 0 → (i : ℕ) → p ≤ i → IsWordPlace file i → ⊥
  no_word_from none i low w = elim (cases_lt i q) [
    | inl before ↦ skipped i low before w
    | inr behind ↦
        elim (cases_lt n (length (drop p file))) [
          | inl some ↦ omega (arith, gap_front false (drop p file) some)
          | inr ended ↦ none_some w.byte (sym (no_byte file q (sym there ∙ drop_all n (drop p file) ended) i behind) ∙ w.at)
        ]
  ]

  abbrev found : Word
  found = record { text = take m (drop n (drop p file)); at = q }

  found_len : length found.text ≡ m
  found_len = length-prefix_len is_plain (drop n (drop p file))

  found_end : end_of found ≡ q + m
  found_end = ap (λ x. q + x) found_len

  found_is_next : 0 < m → IsNextWord file p found
  found_is_next pos =
      let r = run pos in
      record {
        word = record {
          nonempty = omega (arith, found_len);
          text = ap (λ bs. take m bs) there ∙ ap (λ x. take x (drop q file)) (sym found_len);
          places = λ i low high. r.places i low (omega (arith, found_len));
          before = λ i next w. elim (cases_lt i p) [
            | inl before ↦
                let here : suc i ≡ p = omega arith in
                let begin : q ≡ p = omega arith in
                stop.between i here w (subst (IsWordPlace file) begin (r.places q (omega arith) (omega arith)))
            | inr behind ↦ skipped i behind (omega arith) w
          ];
          behind = subst (λ x. IsWordPlace file x → ⊥) (sym found_end) r.last;
        };
        from = omega arith;
        none_before = skipped;
      }

  found_stops : 0 < m → IsStop file (end_of found)
  found_stops pos =
      let r = run pos in
      let few = prefix_len-le-length is_plain (drop n (drop p file)) in
      let last : IsWordPlace file (end_of found) → ⊥ = subst (λ x. IsWordPlace file x → ⊥) (sym found_end) r.last in
      let none : Flag false file (end_of found) = subst (Flag false file) (sym found_end) r.closed in
      record {
        within = omega (arith, found_end, few, left, stop.within, some_left pos);
        between = λ i next w later. last later;
        outside = λ i next lt commented. none i next commented;
      }

  found_rest : behind m (behind n (rest_at file p)) ≡ rest_at file (end_of found)
  found_rest =
      let bytes : drop m (drop n (drop p file)) ≡ drop (end_of found) file = ap (drop m) there ∙ drop-drop m q file ∙ ap (λ x. drop x file) (sym found_end) in
      let place : q + m ≡ end_of found = sym found_end in
      cc

  pub next_is_found : (w : Word) (rest : Rest) → next_word (rest_at file p) ≡ (Some w, rest) → IsNextWord file p w × IsStop file (end_of w) × (rest ≡ rest_at file (end_of w))
  unfolding next_word
  next_is_found w rest h =
      let front = front_some (behind n (rest_at file p)) w rest h in
      subst (λ v. IsNextWord file p v × IsStop file (end_of v) × (rest ≡ rest_at file (end_of v))) front.1
      (found_is_next front.0, found_stops front.0, sym front.2 ∙ found_rest)

  pub none_is_left : (rest : Rest) → next_word (rest_at file p) ≡ (None, rest) → (i : ℕ) → p ≤ i → IsWordPlace file i → ⊥
  unfolding next_word
  none_is_left rest h = no_word_from (front_none (behind n (rest_at file p)) rest h)

-- reading begins at the first byte
pub begins_stopped : (file : List ℕ) → IsStop file 0
begins_stopped file = record {
  within = omega arith;
  between = λ i next w later. omega arith;
  outside = λ i next lt commented. omega arith;
}

-- ---- the line

line_none : (file : List ℕ) (p b : ℕ) (q : ℕ) → slice_get file p ≡ Some b → b ≢ LINE_FEED → HasNoLineEnd file (suc p) q → HasNoLineEnd file p q
line_none file p b q at ne rest = λ i low high e. elim (cases_lt p i) [
  | inl above ↦ rest i above high e
  | inr here ↦
      let same : i ≡ p = omega arith in
      ne (some_injective b LINE_FEED (sym at ∙ subst (λ k. slice_get file k ≡ Some LINE_FEED) same e))
]

line_by : (file : List ℕ) (p b n : ℕ) (t : Bool) → (b == LINE_FEED) ≡ t → slice_get file p ≡ Some b → IsNextLine file (suc p) (suc p + n) → IsNextLine file p (p + cond t 1 (n + 1))
line_by file p b n true e at rest =
    let feed : b ≡ LINE_FEED = eqb-true b LINE_FEED e in
    inl (p, omega arith, omega arith, at ∙ ap Some feed, λ i low high found. omega arith)
line_by file p b n false e at (inl line) =
    inl (
      line.0,
      omega (arith, line.1),
      omega (arith, line.2),
      line.3,
      line_none file p b line.0 at (eqb-false b LINE_FEED e) line.4,
    )
line_by file p b n false e at (inr rest) =
    let end : suc p + n ≡ p + (n + 1) = omega arith in
    inr (
      sym end ∙ rest.0,
      subst (HasNoLineEnd file p) end (line_none file p b (suc p + n) at (eqb-false b LINE_FEED e) rest.1),
    )

line_of : (file : List ℕ) (p : ℕ) (bs : List ℕ) → p ≤ length file → drop p file ≡ bs → IsNextLine file p (p + line_len bs)
unfolding line_len
line_of file p [] le e =
    inr (omega (arith, nothing_left file p e), λ i low high found. omega arith)
line_of file p (b ∷ bs) le e =
    let there = byte_at file p b bs e in
    line_by file p b (line_len bs) (b == LINE_FEED) refl there.0 (line_of file (suc p) bs (omega (arith, there.2)) there.1)

line_stops : (file : List ℕ) (p q : ℕ) → p ≤ length file → IsNextLine file p q → IsStop file q
line_stops file p q le (inl line) = record {
  within = omega (arith, line.2, slice_get_within file line.0 LINE_FEED line.3);
  between = λ i next w later.
      let here : i ≡ line.0 = omega (arith, line.2) in
      no_word_at_end file i (subst (λ k. slice_get file k ≡ Some LINE_FEED) (sym here) line.3) w;
  outside = λ i next lt commented.
      let here : i ≡ line.0 = omega (arith, line.2) in
      commented.1.goes_on i commented.1.before (omega arith) (subst (λ k. slice_get file k ≡ Some LINE_FEED) (sym here) line.3);
}
  where
    no_word_at_end : (xs : List ℕ) (i : ℕ) → slice_get xs i ≡ Some LINE_FEED → IsWordPlace xs i → ⊥
    no_word_at_end xs i e w =
        let feed : w.byte ≡ LINE_FEED = some_injective w.byte LINE_FEED (sym w.at ∙ e) in
        false≢true (ap is_plain (sym feed) ∙ w.plain)
line_stops file p q le (inr rest) = record {
  within = omega (arith, rest.0);
  between = λ i next w later.
      omega (arith, rest.0, slice_get_within file q later.byte later.at);
  outside = λ i next lt commented. omega (arith, rest.0);
}

pub line_is_passed : (file : List ℕ) (p : ℕ) → p ≤ length file → (q : ℕ) × IsNextLine file p q × IsStop file q × (after_line (rest_at file p) ≡ rest_at file q)
unfolding after_line
line_is_passed file p le =
    let n = line_len (drop p file) in
    let line = line_of file p (drop p file) le refl in
    let bytes : drop n (drop p file) ≡ drop (p + n) file = drop-drop n p file in
    (p + n, line, line_stops file p (p + n) le line, cc)
