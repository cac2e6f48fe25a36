-- What has been read of a text of lines: the front of a whole text, or a first bad line.
use Rattle.std.proofs.Common.{◌≡◌, ◌≢◌, ◌++◌, ◌∷◌, ◌⊎◌, ◌+◌, ◌<◌, ◌≤◌, ℕ, true, false, List, [], length, take, drop, All, ap, sym, subst, refl, ◌∙◌, arith, inl, inr, append_assoc, append-nil, length-append}
use Rattle.std.specs.Prelude.{Bool, Err, Result}
use Rattle.std.proofs.lemmas.Grind.{flat_map-append}
use Rattle.std.proofs.lemmas.List.{length-take-le, take-append-drop}
use Rattle.std.proofs.lemmas.List.Elements.{All-append, All-head, All-nil, All-tail, All-take, All-weaker}
use Rattle.staat_limits.specs.declared.limits.TheConstants.{LINE_LIMIT}
use Rattle.staat_model.specs.Texts.{HasNoFeed, IsLine, joined}
use Rattle.staat_model.proofs.OneReading.{with_feed, lines_once, line_some, no_feed_stops}
use Rattle.staat_model.proofs.Members.{all_back, all_front}
use Rattle.staat_vec.proofs.ListLaws.{append_not_nil}
use Rattle.staat_cert.specs.declared.cert_refusal.CertRefusal.{CertRefusal}
use Rattle.staat_cert.specs.declared.cert_refusal.CertRefusal.TheVariants.{OutOfMemory}
use Rattle.staat_cert.specs.TextLines.{AreWholeTexts, BeginsWhole, IsBadBehind, IsCutShort, IsFirstBadOf, IsKeptLine, IsReadTo, IsToldWhole, lacks_memory}

-- ---- lines of bytes

-- bytes without a line feed do not begin with a whole line
pub no_line : (l p rest : List ℕ) → IsLine l → HasNoFeed rest → rest ≡ l ++ p → ⊥
no_line l p rest a h e =
    let is : rest ≡ a.front ++ 10 ∷ p = e ∙ ap (λ x. x ++ p) a.is ∙ with_feed a.front p in
    no_feed_stops rest a.front [] p h (omega (arith, ap length is, length-append a.front (10 ∷ p))) (append-nil rest ∙ is)

-- nor do they go on with such lines
no_more : (back : List (List ℕ)) (p rest : List ℕ) → All IsLine back → HasNoFeed rest → rest ≡ joined back ++ p → (back ≡ []) × (rest ≡ p)
no_more [] p rest a h e = (refl, e)
no_more (l ∷ back) p rest a h e = absurd (no_line l (joined back ++ p) rest (All-head IsLine l back a) h (e ∙ append_assoc l (joined back) p))

whole_lines : (ls : List (List ℕ)) → All IsKeptLine ls → All IsLine ls
whole_lines ls h = All-weaker IsKeptLine IsLine (λ l k. k.whole) ls h

pub joined_one : (ls : List (List ℕ)) (l : List ℕ) → joined (ls ++ l ∷ []) ≡ joined ls ++ l
joined_one ls l = flat_map-append (λ x. x) ls (l ∷ []) ∙ ap (λ x. joined ls ++ x) (append-nil l)

-- of two lists of lines with which the same bytes begin, the one goes on from the other
record AreLonger (few many : List (List ℕ)) (ahead rest : List ℕ) : Type 0 where
  back : List (List ℕ)
  is : many ≡ few ++ back
  ahead_is : ahead ≡ joined back ++ rest

longer_by : (l m : List ℕ) (few many : List (List ℕ)) (ahead rest : List ℕ) → l ≡ m → AreLonger few many ahead rest → AreLonger (l ∷ few) (m ∷ many) ahead rest
longer_by l m few many ahead rest e g = record { back = g.back; is = λ i. sym e i ∷ g.is i; ahead_is = g.ahead_is }

nested : (xs ys : List (List ℕ)) (p q : List ℕ) → All IsLine xs → All IsLine ys → joined xs ++ p ≡ joined ys ++ q → AreLonger xs ys p q ⊎ AreLonger ys xs q p
nested [] ys p q a b e = inl (record { back = ys; is = refl; ahead_is = e })
nested (x ∷ xs) [] p q a b e = inr (record { back = x ∷ xs; is = refl; ahead_is = sym e })
nested (x ∷ xs) (y ∷ ys) p q a b e = go (λ k. nested xs ys p q (All-tail IsLine x xs a) (All-tail IsLine y ys b) k)
  where
    go : (joined xs ++ p ≡ joined ys ++ q → AreLonger xs ys p q ⊎ AreLonger ys xs q p) → AreLonger (x ∷ xs) (y ∷ ys) p q ⊎ AreLonger (y ∷ ys) (x ∷ xs) q p
    go rest =
        let once = lines_once x y (joined xs ++ p) (joined ys ++ q) (All-head IsLine x xs a) (All-head IsLine y ys b) (sym (append_assoc x (joined xs) p) ∙ e ∙ append_assoc y (joined ys) q) in
        elim (rest once.1) [ inl g ↦ inl (longer_by x y xs ys p q once.0 g) | inr g ↦ inr (longer_by y x ys xs q p (sym once.0) g) ]

-- ---- texts

module _ {C : Type 0} (spells : List ℕ → C → Type 0) where
  begins_front : (bytes more : List ℕ) → BeginsWhole spells (bytes ++ more) → BeginsWhole spells bytes
  begins_front bytes more b = record { whole = b.whole; more = more ++ b.more; is = subst (λ t. spells t b.whole) (append_assoc bytes more b.more) b.is }

  -- where a whole text has the line l after these, and the bytes ahead begin with it, no bad line follows
  not_bad : AreWholeTexts spells → (few : List (List ℕ)) (l ahead rest : List ℕ) → IsKeptLine l → BeginsWhole spells (joined few ++ l) → ahead ≡ l ++ rest → IsBadBehind spells (joined few) ahead → ⊥
  not_bad texts few l ahead rest kept b a (inl w) =
      let once = lines_once w.line l w.rest rest w.whole kept.whole (sym w.is ∙ a) in
      w.wrong (subst (λ x. BeginsWhole spells (joined few ++ x)) (sym once.0) b)
  not_bad texts few l ahead rest kept b a (inr (inl long)) =
      no_feed_stops long.line kept.whole.front long.rest rest long.no_feed (omega (arith, ap length kept.whole.is, length-append kept.whole.front (10 ∷ []), kept.short, long.long))
      (sym long.is ∙ a ∙ ap (λ x. x ++ rest) kept.whole.is ∙ with_feed kept.whole.front rest)
  not_bad texts few l ahead rest kept b a (inr (inr x)) =
      line_some l b.more kept.whole (texts.apart (joined few) (l ++ b.more) x.certificate b.whole x.whole (subst (λ t. spells t b.whole) (append_assoc (joined few) l b.more) b.is))

  -- nor is there one before them
  none_earlier : AreWholeTexts spells → (few many back : List (List ℕ)) (ahead rest : List ℕ) → All IsKeptLine many → BeginsWhole spells (joined many) → IsBadBehind spells (joined few) ahead
      → many ≡ few ++ back → ahead ≡ joined back ++ rest → (few ≡ many) × (ahead ≡ rest)
  none_earlier texts few many [] ahead rest each b bad e a = (sym (e ∙ append-nil few), a)
  none_earlier texts few many (l ∷ back) ahead rest each b bad e a =
      let all : joined many ≡ (joined few ++ l) ++ joined back = ap joined e ∙ flat_map-append (λ x. x) few (l ∷ back) ∙ sym (append_assoc (joined few) l (joined back)) in
      absurd (not_bad texts few l ahead (joined back ++ rest) (All-head IsKeptLine l back (all_back IsKeptLine few (l ∷ back) (subst (All IsKeptLine) e each)))
      (begins_front (joined few ++ l) (joined back) (subst (BeginsWhole spells) all b)) (a ∙ append_assoc l (joined back) rest) bad)

  -- a bad line stays the first bad one
  pub bad_more : (bytes more : List ℕ) (k : ℕ) → IsFirstBadOf spells bytes k → IsFirstBadOf spells (bytes ++ more) k
  bad_more bytes more k b = record {
    before = b.before;
    ahead = b.ahead ++ more;
    number = b.number;
    is = ap (λ x. x ++ more) b.is ∙ append_assoc (joined b.before) b.ahead more;
    lines = b.lines;
    begins = b.begins;
    bad = go b.bad;
  }
    where
      go : IsBadBehind spells (joined b.before) b.ahead → IsBadBehind spells (joined b.before) (b.ahead ++ more)
      go (inl w) = inl (record { line = w.line; rest = w.rest ++ more; is = ap (λ x. x ++ more) w.is ∙ append_assoc w.line w.rest more; whole = w.whole; wrong = w.wrong })
      go (inr (inl l)) = inr (inl (record { line = l.line; rest = l.rest ++ more; is = ap (λ x. x ++ more) l.is ∙ append_assoc l.line l.rest more; long = l.long; no_feed = l.no_feed }))
      go (inr (inr x)) = inr (inr (record { certificate = x.certificate; whole = x.whole; some = append_not_nil b.ahead more x.some }))

-- ---- what has been read

module _ {C : Type 0} (spells : List ℕ → C → Type 0) (taken : List ℕ → Type 0) (rest : List ℕ) (count : ℕ) (text : List ℕ) (h : IsReadTo spells taken rest count text) where
  lines_are : All IsLine h.lines
  lines_are = whole_lines h.lines h.each

  -- the line after these is bad
  pub bad_at : (more : List ℕ) → IsBadBehind spells (joined h.lines) (rest ++ more) → IsFirstBadOf spells (text ++ more) (count + 1)
  bad_at more b = record {
    before = h.lines;
    ahead = rest ++ more;
    number = ap (λ n. n + 1) h.number;
    is = ap (λ x. x ++ more) h.is ∙ append_assoc (joined h.lines) rest more;
    lines = lines_are;
    begins = h.begins;
    bad = b;
  }

  -- bytes after a whole text
  pub bad_after_end : (more : List ℕ) (is_whole : Bool) → 0 < length more → is_whole ≡ true → ((t : List ℕ) → taken t → IsToldWhole spells t is_whole) → IsFirstBadOf spells (text ++ more) (count + 1)
  bad_after_end more is_whole some e told =
      let c : (c : C) × spells (joined h.lines) c = subst (IsToldWhole spells (joined h.lines)) e (told (joined h.lines) h.took) in
      bad_at more (inr (inr (record { certificate = c.0; whole = c.1; some = λ none. omega (arith, some, ap length none, length-append rest more) })))

  -- bytes with which the line that follows becomes too long
  pub bad_too_long : (more : List ℕ) → HasNoFeed more → LINE_LIMIT ≤ length rest + length more → IsFirstBadOf spells (text ++ more) (count + 1)
  bad_too_long more inner many =
      let all : List ℕ = rest ++ more in
      bad_at more (inr (inl (record {
        line = take LINE_LIMIT all;
        rest = drop LINE_LIMIT all;
        is = sym (take-append-drop LINE_LIMIT all);
        long = length-take-le LINE_LIMIT all (omega (arith, many, length-append rest more));
        no_feed = All-take (λ b. b ≢ 10) LINE_LIMIT all (All-append (λ b. b ≢ 10) rest more h.no_feed inner);
      })))

  -- bytes of the line that follows
  pub goes_on : (more : List ℕ) (is_whole : Bool) → is_whole ≡ false → ((t : List ℕ) → taken t → IsToldWhole spells t is_whole) → HasNoFeed more → length rest + length more < LINE_LIMIT
      → IsReadTo spells taken (rest ++ more) count (text ++ more)
  goes_on more is_whole e told inner few = record {
    lines = h.lines;
    is = ap (λ x. x ++ more) h.is ∙ append_assoc (joined h.lines) rest more;
    number = h.number;
    each = h.each;
    took = h.took;
    begins = h.begins;
    no_feed = All-append (λ b. b ≢ 10) rest more h.no_feed inner;
    short = omega (arith, few, length-append rest more);
    closed = λ c k. absurd ((subst (IsToldWhole spells (joined h.lines)) e (told (joined h.lines) h.took)) c k);
  }

  -- what follows the lines is not bad
  not_bad_rest : IsBadBehind spells (joined h.lines) rest → ⊥
  not_bad_rest (inl w) = no_line w.line w.rest rest w.whole h.no_feed w.is
  not_bad_rest (inr (inl l)) = omega (arith, ap length l.is, length-append l.line l.rest, l.long, h.short)
  not_bad_rest (inr (inr x)) = x.some (h.closed x.certificate x.whole)

  -- a text that was read has no bad line
  pub at_no_bad : AreWholeTexts spells → (k : ℕ) → IsFirstBadOf spells text k → ⊥
  at_no_bad texts k x =
      elim (nested x.before h.lines x.ahead rest x.lines lines_are (sym x.is ∙ h.is)) [
        | inl g ↦ (let e = none_earlier spells texts x.before h.lines g.back x.ahead rest h.each h.begins x.bad g.is g.ahead_is in same e.0 e.1)
        | inr g ↦ (let e = no_more g.back x.ahead rest (all_back IsLine h.lines g.back (subst (All IsLine) g.is x.lines)) h.no_feed g.ahead_is in
            same (g.is ∙ ap (λ back. h.lines ++ back) e.0 ∙ append-nil h.lines) (sym e.1))
      ]
    where
      same : x.before ≡ h.lines → x.ahead ≡ rest → ⊥
      same e a = not_bad_rest (subst (IsBadBehind spells (joined h.lines)) a (subst (λ (f : List (List ℕ)). IsBadBehind spells (joined f) x.ahead) e x.bad))

  -- all of the text is lines
  all_lines : rest ≡ [] → text ≡ joined h.lines
  all_lines e = h.is ∙ ap (λ x. joined h.lines ++ x) e ∙ append-nil (joined h.lines)

  -- where the lines say this, so does the text
  pub whole_read : (c : C) → spells (joined h.lines) c → spells text c
  whole_read c k = subst (λ t. spells t c) (sym (all_lines (h.closed c k))) k

  -- where the lines say nothing, the text is cut short
  pub cut_short : AreWholeTexts spells → ((c : C) → spells (joined h.lines) c → ⊥) → IsCutShort spells text
  cut_short texts none = record { no_text = no_text; no_bad_line = at_no_bad texts }
    where
      no_text : (c : C) → spells text c → ⊥
      no_text c k =
          let w = texts.lines text c k in
          let each = whole_lines w.lines w.each in
          let nothing : rest ≡ [] = elim (nested h.lines w.lines rest [] lines_are each (sym h.is ∙ w.is ∙ sym (append-nil (joined w.lines)))) [
            | inl g ↦ (no_more g.back [] rest (all_back IsLine h.lines g.back (subst (All IsLine) g.is each)) h.no_feed g.ahead_is).1
            | inr g ↦ sym (no_more g.back rest [] (all_back IsLine w.lines g.back (subst (All IsLine) g.is lines_are)) (All-nil (λ b. b ≢ 10)) g.ahead_is).1
          ] in
          none c (subst (λ t. spells t c) (all_lines nothing) k)

-- ---- one first bad line

module _ {C : Type 0} (spells : List ℕ → C → Type 0) (texts : AreWholeTexts spells) where
  -- whole lines with which a whole text begins are its own
  kept_lines : (ls : List (List ℕ)) → All IsLine ls → BeginsWhole spells (joined ls) → All IsKeptLine ls
  kept_lines ls each b =
      let w = texts.lines (joined ls ++ b.more) b.whole b.is in
      elim (nested ls w.lines b.more [] each (whole_lines w.lines w.each) (w.is ∙ sym (append-nil (joined w.lines)))) [
        | inl g ↦ all_front IsKeptLine ls g.back (subst (All IsKeptLine) g.is w.each)
        | inr g ↦ (let e = no_more g.back b.more [] (all_back IsLine w.lines g.back (subst (All IsLine) g.is each)) (All-nil (λ b. b ≢ 10)) g.ahead_is in
            subst (All IsKeptLine) (sym (g.is ∙ ap (λ back. w.lines ++ back) e.0 ∙ append-nil w.lines)) w.each)
      ]

  pub one_bad : (bytes : List ℕ) (j k : ℕ) → IsFirstBadOf spells bytes j → IsFirstBadOf spells bytes k → j ≡ k
  one_bad bytes j k x y =
      let same : x.before ≡ y.before = elim (nested x.before y.before x.ahead y.ahead x.lines y.lines (sym x.is ∙ y.is)) [
        | inl g ↦ (none_earlier spells texts x.before y.before g.back x.ahead y.ahead (kept_lines y.before y.lines y.begins) y.begins x.bad g.is g.ahead_is).0
        | inr g ↦ sym (none_earlier spells texts y.before x.before g.back y.ahead x.ahead (kept_lines x.before x.lines x.begins) x.begins y.bad g.is g.ahead_is).0
      ] in
      omega (arith, ap length same, x.number, y.number)

  -- a whole text has none
  pub no_bad_in_whole : (bytes : List ℕ) (c : C) (k : ℕ) → spells bytes c → IsFirstBadOf spells bytes k → ⊥
  no_bad_in_whole bytes c k t x =
      let w = texts.lines bytes c t in
      let is : bytes ≡ joined w.lines ++ [] = w.is ∙ sym (append-nil (joined w.lines)) in
      at_no_bad spells (λ _. Unit {0}) [] (length w.lines) bytes (record {
        lines = w.lines;
        is = is;
        number = refl;
        each = w.each;
        took = tt;
        begins = record { whole = c; more = []; is = subst (λ b. spells b c) is t };
        no_feed = All-nil (λ b. b ≢ 10);
        short = omega arith;
        closed = λ d k. refl;
      }) texts k x

-- ---- want of memory

pub memory_told : {C : Type 0} (b : Bool) (r : Result C CertRefusal) → b ≡ lacks_memory r → r ≡ Err OutOfMemory → b ≡ true
memory_told b r is e = is ∙ ap lacks_memory e

pub memory_is : {C : Type 0} (b : Bool) (r : Result C CertRefusal) → b ≡ lacks_memory r → b ≡ true → r ≡ Err OutOfMemory
memory_is b (Err OutOfMemory) is e = refl
memory_is b r is e = cc
