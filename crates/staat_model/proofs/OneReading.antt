-- Bytes have one reading at most: one certificate, or one first bad line, or neither.
use Rattle.std.proofs.Common.{◌≡◌, ◌≢◌, ◌⊎◌, ℕ, ◌+◌, ◌<◌, List, [], ◌∷◌, ◌++◌, map, length, All, ap, sym, subst, refl, ◌∙◌, arith, inl, inr, append_assoc, append-nil}
use Rattle.std.specs.Prelude.{flat_map}
use Rattle.std.proofs.lemmas.List.{length-map}
use Rattle.std.proofs.lemmas.Grind.{flat_map-append}
use Rattle.std.proofs.lemmas.List.Elements.{All-head, All-tail}
use Rattle.staat_model.specs.declared.certificate.Certificate.{Certificate}
use Rattle.staat_model.specs.declared.line.Line.{Line}
use Rattle.staat_model.specs.Lines.{IsInBounds, line_text}
use Rattle.staat_model.specs.Texts.{lines_of, text_of, IsTextOf, IsWellFormed, HasNoFeed, IsLine, joined, IsBadAfter, IsFirstBadLine, Reading, whole, bad_line, too_short, IsReading}
use Rattle.staat_model.proofs.CertificateLines.{lines_end, one_by_lines}
use Rattle.staat_model.proofs.LineTexts.{line_front, line_is, line_length, line_whole, one_line, tails_of}
use Rattle.staat_model.proofs.Members.{all_back, all_front, cut_once}
use Rattle.staat_vec.proofs.ListLaws.{long_not_nil}

abbrev pub text : List Line → List ℕ
text ls = flat_map line_text ls

-- ---- lines of bytes

-- the bytes before the first line feed are the only ones
pub first_line : (xs ys p q : List ℕ) → HasNoFeed xs → HasNoFeed ys → xs ++ 10 ∷ p ≡ ys ++ 10 ∷ q → (xs ≡ ys) × (p ≡ q)
first_line xs ys p q a b e =
    let cuts = cut_once (λ b. b ≢ 10) (λ l. (t : List ℕ) × (l ≡ 10 ∷ t)) (λ b t feed other. other (let first = feed.1 in let same : b ≡ 10 = cc in same)) xs ys (10 ∷ p) (10 ∷ q) a b (p, refl) (q, refl) e in
    (cuts.0, tails_of 10 p q cuts.1)

pub with_feed : (front p : List ℕ) → (front ++ 10 ∷ []) ++ p ≡ front ++ 10 ∷ p
with_feed front p = append_assoc front (10 ∷ []) p

-- two whole lines in front of the same bytes are one
pub lines_once : (l m p q : List ℕ) → IsLine l → IsLine m → l ++ p ≡ m ++ q → (l ≡ m) × (p ≡ q)
lines_once l m p q a b e =
    let bytes : a.front ++ 10 ∷ p ≡ b.front ++ 10 ∷ q = sym (ap (λ x. x ++ p) a.is ∙ with_feed a.front p) ∙ e ∙ ap (λ x. x ++ q) b.is ∙ with_feed b.front q in
    let once = first_line a.front b.front p q a.no_feed b.no_feed bytes in
    (a.is ∙ ap (λ x. x ++ 10 ∷ []) once.0 ∙ sym b.is, once.1)

-- a whole line is not nothing
pub line_some : (l p : List ℕ) → IsLine l → l ++ p ≡ [] → ⊥
line_some l p a e = none a.front (sym (ap (λ x. x ++ p) a.is ∙ with_feed a.front p) ∙ e)
  where
    none : (f : List ℕ) → f ++ 10 ∷ p ≡ [] → ⊥
    none [] k = cc
    none (b ∷ f) k = cc

-- bytes with no line feed do not reach beyond a line's end
pub no_feed_stops : (line front rest p : List ℕ) → HasNoFeed line → length front < length line → line ++ rest ≡ front ++ 10 ∷ p → ⊥
no_feed_stops [] front rest p h lt e = absurd (omega arith)
no_feed_stops (x ∷ line) [] rest p h lt e = All-head (λ b. b ≢ 10) x line h (let same : x ≡ 10 = cc in same)
no_feed_stops (x ∷ line) (y ∷ front) rest p h lt e = let tail : line ++ rest ≡ front ++ 10 ∷ p = cc in no_feed_stops line front rest p (All-tail (λ b. b ≢ 10) x line h) (omega arith) tail

-- ---- lines of certificates

pub cut_line : (l m : Line) (p q : List ℕ) → IsInBounds l → IsInBounds m → line_text l ++ p ≡ line_text m ++ q → (l ≡ m) × (p ≡ q)
cut_line l m p q f g e =
    let once = lines_once (line_text l) (line_text m) p q (line_whole l f) (line_whole m g) e in
    (one_line l m f g once.0, once.1)

-- of two lists of lines with which the same bytes begin, the one goes on from the other
pub record GoesOn (few many : List Line) (ahead rest : List ℕ) : Type 0 where
  pub back : List Line
  pub is : many ≡ few ++ back
  pub ahead_is : ahead ≡ text back ++ rest

goes_more : (l m : Line) (few many : List Line) (ahead rest : List ℕ) → l ≡ m → GoesOn few many ahead rest → GoesOn (l ∷ few) (m ∷ many) ahead rest
goes_more l m few many ahead rest e g = record { back = g.back; is = λ i. sym e i ∷ g.is i; ahead_is = g.ahead_is }

pub nested : (xs ys : List Line) (p q : List ℕ) → All IsInBounds xs → All IsInBounds ys → text xs ++ p ≡ text ys ++ q → GoesOn xs ys p q ⊎ GoesOn ys xs q p
nested [] ys p q a b e = inl (record { back = ys; is = refl; ahead_is = e })
nested (x ∷ xs) [] p q a b e = inr (record { back = x ∷ xs; is = refl; ahead_is = sym e })
nested (x ∷ xs) (y ∷ ys) p q a b e =
    let once = cut_line x y (text xs ++ p) (text ys ++ q) (All-head IsInBounds x xs a) (All-head IsInBounds y ys b)
    (sym (append_assoc (line_text x) (text xs) p) ∙ e ∙ append_assoc (line_text y) (text ys) q) in
    elim (nested xs ys p q (All-tail IsInBounds x xs a) (All-tail IsInBounds y ys b) once.1) [
      | inl g ↦ inl (goes_more x y xs ys p q once.0 g)
      | inr g ↦ inr (goes_more y x ys xs q p (sym once.0) g)
    ]

pub text_some : (l : Line) (ls : List Line) (p : List ℕ) → IsInBounds l → [] ≡ text (l ∷ ls) ++ p → ⊥
text_some l ls p f e = line_some (line_text l) (text ls ++ p) (line_whole l f) (sym (append_assoc (line_text l) (text ls) p) ∙ sym e)

-- lines are known by their bytes
pub lines_by_text : (xs ys : List Line) → All IsInBounds xs → All IsInBounds ys → text xs ≡ text ys → xs ≡ ys
lines_by_text [] [] a b e = refl
lines_by_text [] (y ∷ ys) a b e = absurd (text_some y ys [] (All-head IsInBounds y ys b) (e ∙ sym (append-nil (text (y ∷ ys)))))
lines_by_text (x ∷ xs) [] a b e = absurd (text_some x xs [] (All-head IsInBounds x xs a) (sym e ∙ sym (append-nil (text (x ∷ xs)))))
lines_by_text (x ∷ xs) (y ∷ ys) a b e =
    let once = cut_line x y (text xs) (text ys) (All-head IsInBounds x xs a) (All-head IsInBounds y ys b) e in
    let rest : xs ≡ ys = lines_by_text xs ys (All-tail IsInBounds x xs a) (All-tail IsInBounds y ys b) once.1 in
    λ i. once.0 i ∷ rest i

pub one_certificate : (bytes : List ℕ) (c d : Certificate) → IsTextOf bytes c → IsTextOf bytes d → c ≡ d
one_certificate bytes c d f g = one_by_lines c d (lines_by_text (lines_of c) (lines_of d) f.form.lines g.form.lines (sym f.is ∙ g.is))

-- ---- bad lines

-- the lines of bytes are the first of these lines
pub record AreLines (ls : List (List ℕ)) (all : List Line) : Type 0 where
  pub front : List Line
  pub back : List Line
  pub is : all ≡ front ++ back
  pub lines : ls ≡ map line_text front

pub begin_lines : (ls : List (List ℕ)) (ms : List Line) (more : List ℕ) → All IsLine ls → All IsInBounds ms → joined ls ++ more ≡ text ms → AreLines ls ms
begin_lines [] ms more a b e = record { front = []; back = ms; is = refl; lines = refl }
begin_lines (l ∷ ls) [] more a b e = absurd (line_some l (joined ls ++ more) (All-head IsLine l ls a) (sym (append_assoc l (joined ls) more) ∙ e))
begin_lines (l ∷ ls) (m ∷ ms) more a b e =
    let once = lines_once l (line_text m) (joined ls ++ more) (text ms) (All-head IsLine l ls a) (line_whole m (All-head IsInBounds m ms b)) (sym (append_assoc l (joined ls) more) ∙ e) in
    let rest = begin_lines ls ms more (All-tail IsLine l ls a) (All-tail IsInBounds m ms b) once.1 in
    record { front = m ∷ rest.front; back = rest.back; is = ap (λ x. m ∷ x) rest.is; lines = λ i. once.0 i ∷ rest.lines i }

pub texts_joined : (ls : List Line) → joined (map line_text ls) ≡ text ls
texts_joined [] = refl
texts_joined (l ∷ ls) = ap (λ t. line_text l ++ t) (texts_joined ls)

-- where a certificate has the line l after these, and the bytes ahead begin with it, no bad line follows
pub not_bad : (c : Certificate) (few : List Line) (l : Line) (back : List Line) (ahead rest : List ℕ) → IsWellFormed c → lines_of c ≡ few ++ l ∷ back → ahead ≡ line_text l ++ rest → IsBadAfter (text few) ahead → ⊥
not_bad c few l back ahead rest form is a (inl w) =
    let fits : IsInBounds l = All-head IsInBounds l back (all_back IsInBounds few (l ∷ back) (subst (All IsInBounds) is form.lines)) in
    let once = lines_once w.line (line_text l) w.rest rest w.whole (line_whole l fits) (sym w.is ∙ a) in
    w.wrong (record {
      certificate = c;
      form = form;
      more = text back;
      is = ap text is ∙ flat_map-append line_text few (l ∷ back) ∙ ap (λ t. text few ++ (t ++ text back)) (sym once.0) ∙ sym (append_assoc (text few) w.line (text back));
    })
not_bad c few l back ahead rest form is a (inr (inl long)) =
    let fits : IsInBounds l = All-head IsInBounds l back (all_back IsInBounds few (l ∷ back) (subst (All IsInBounds) is form.lines)) in
    no_feed_stops long.line (line_front l) long.rest rest long.no_feed (omega (arith, line_length l fits, long.long)) (sym long.is ∙ a ∙ ap (λ t. t ++ rest) (line_is l) ∙ with_feed (line_front l) rest)
not_bad c few l back ahead rest form is a (inr (inr more)) =
    let same : few ≡ lines_of more.certificate = lines_by_text few (lines_of more.certificate)
    (all_front IsInBounds few (l ∷ back) (subst (All IsInBounds) is form.lines)) more.whole.form.lines more.whole.is in
    lines_end more.certificate c l back (is ∙ ap (λ ls. ls ++ l ∷ back) same)

-- what a first bad line says of the lines before it
pub record Before (bytes : List ℕ) (k : ℕ) : Type 0 where
  pub certificate : Certificate
  pub form : IsWellFormed certificate
  pub front : List Line
  pub back : List Line
  pub is : lines_of certificate ≡ front ++ back
  pub ahead : List ℕ
  pub bytes_are : bytes ≡ text front ++ ahead
  pub number : k ≡ length front + 1
  pub bad : IsBadAfter (text front) ahead

pub before : (bytes : List ℕ) (k : ℕ) → IsFirstBadLine bytes k → Before bytes k
before bytes k h =
    let b = h.begins in
    let a = begin_lines h.before (lines_of b.certificate) b.more h.lines b.form.lines (sym b.is) in
    let same : joined h.before ≡ text a.front = ap joined a.lines ∙ texts_joined a.front in
    record {
      certificate = b.certificate;
      form = b.form;
      front = a.front;
      back = a.back;
      is = a.is;
      ahead = h.ahead;
      bytes_are = h.is ∙ ap (λ t. t ++ h.ahead) same;
      number = h.number ∙ ap (λ n. n + 1) (ap length a.lines ∙ length-map a.front line_text);
      bad = subst (λ (t : List ℕ). IsBadAfter t h.ahead) same h.bad;
    }

pub front_bounds : (bytes : List ℕ) (k : ℕ) (b : Before bytes k) → All IsInBounds b.front
front_bounds bytes k b = all_front IsInBounds b.front b.back (subst (All IsInBounds) b.is b.form.lines)

-- a bad line after fewer lines of the same bytes
earlier : (few many back : List Line) (c : Certificate) (behind : List Line) (ahead rest : List ℕ) → IsWellFormed c → lines_of c ≡ many ++ behind → IsBadAfter (text few) ahead → many ≡ few ++ back → ahead ≡ text back ++ rest → (few ≡ many) × (ahead ≡ rest)
earlier few many [] c behind ahead rest form is bad e a = (sym (e ∙ append-nil few), a)
earlier few many (l ∷ back) c behind ahead rest form is bad e a =
    absurd (not_bad c few l (back ++ behind) ahead (text back ++ rest) form (is ∙ ap (λ ls. ls ++ behind) e ∙ append_assoc few (l ∷ back) behind) (a ∙ append_assoc (line_text l) (text back) rest) bad)

pub one_bad_line : (bytes : List ℕ) (j k : ℕ) → IsFirstBadLine bytes j → IsFirstBadLine bytes k → j ≡ k
one_bad_line bytes j k x y =
    let a = before bytes j x in
    let b = before bytes k y in
    let same : a.front ≡ b.front = elim (nested a.front b.front a.ahead b.ahead (front_bounds bytes j a) (front_bounds bytes k b) (sym a.bytes_are ∙ b.bytes_are)) [
      | inl g ↦ (earlier a.front b.front g.back b.certificate b.back a.ahead b.ahead b.form b.is a.bad g.is g.ahead_is).0
      | inr g ↦ sym (earlier b.front a.front g.back a.certificate a.back b.ahead a.ahead a.form a.is b.bad g.is g.ahead_is).0
    ] in
    omega (arith, a.number, b.number, ap length same)

-- nothing follows: no line is bad
nothing_bad : (c : Certificate) (ahead : List ℕ) → ahead ≡ [] → IsBadAfter (text_of c) ahead → ⊥
nothing_bad c ahead e (inl w) = line_some w.line w.rest w.whole (sym w.is ∙ e)
nothing_bad c ahead e (inr (inl long)) = long_not_nil long.line long.rest long.long (sym long.is ∙ e)
nothing_bad c ahead e (inr (inr more)) = more.some e

pub no_bad_line_in_text : (bytes : List ℕ) (c : Certificate) (k : ℕ) → IsTextOf bytes c → IsFirstBadLine bytes k → ⊥
no_bad_line_in_text bytes c k t x =
    let b = before bytes k x in
    elim (nested b.front (lines_of c) b.ahead [] (front_bounds bytes k b) t.form.lines (sym b.bytes_are ∙ t.is ∙ sym (append-nil (text_of c)))) [
      | inl g ↦ (let same = earlier b.front (lines_of c) g.back c [] b.ahead [] t.form (sym (append-nil (lines_of c))) b.bad g.is g.ahead_is in
          nothing_bad c b.ahead same.1 (subst (λ (ls : List Line). IsBadAfter (text ls) b.ahead) same.0 b.bad))
      | inr g ↦ longer b.front g.back b.back b.certificate b.ahead b.bad b.is g.is g.ahead_is
    ]
  where
    longer : (front back behind : List Line) (d : Certificate) (ahead : List ℕ) → IsBadAfter (text front) ahead → lines_of d ≡ front ++ behind → front ≡ lines_of c ++ back → [] ≡ text back ++ ahead → ⊥
    longer front [] behind d ahead bad is e a = nothing_bad c ahead (sym a) (subst (λ (ls : List Line). IsBadAfter (text ls) ahead) (e ∙ append-nil (lines_of c)) bad)
    longer front (l ∷ back) behind d ahead bad is e a = lines_end c d l (back ++ behind) (is ∙ ap (λ ls. ls ++ behind) e ∙ append_assoc (lines_of c) (l ∷ back) behind)

-- ---- readings

pub IsReading-unique : (bytes : List ℕ) (r s : Reading) → IsReading bytes r → IsReading bytes s → r ≡ s
IsReading-unique bytes (whole c) (whole d) f g = ap whole (one_certificate bytes c d f g)
IsReading-unique bytes (whole c) (bad_line k) f g = absurd (no_bad_line_in_text bytes c k f g)
IsReading-unique bytes (whole c) too_short f g = absurd (g.no_text c f)
IsReading-unique bytes (bad_line k) (whole c) f g = absurd (no_bad_line_in_text bytes c k g f)
IsReading-unique bytes (bad_line j) (bad_line k) f g = ap bad_line (one_bad_line bytes j k f g)
IsReading-unique bytes (bad_line k) too_short f g = absurd (g.no_bad_line k f)
IsReading-unique bytes too_short (whole c) f g = absurd (f.no_text c g)
IsReading-unique bytes too_short (bad_line k) f g = absurd (f.no_bad_line k g)
IsReading-unique bytes too_short too_short f g = refl
