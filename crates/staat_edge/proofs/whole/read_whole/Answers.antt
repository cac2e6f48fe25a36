use Rattle.std.proofs.Common.{⊎_elim, append-nil, ◌<◌, ◌≡◌, ◌∙◌, ◌≤◌, ◌+◌, ◌-◌, ◌∷◌, ◌++◌, ℕ, List, Option, None, Some}
use Rattle.std.proofs.Common.{Result, Ok, Err, [], ap₂, true, false, drop, min, refl, ap, arith, le_trans, length, pos_of_ne-zero, sym}
use Rattle.std.proofs.Common.{subst, take, inl, inr}
use Rattle.std.specs.Prelude.{option_map, IfSome, IsErrAnd, IsErrOf, IsSomeAnd}
use Rattle.std.specs.Io.KnownBytes.{Consumes}
use Rattle.std.proofs.KnownBytes.{Consumes-trans}
use Rattle.std.proofs.lemmas.List.{length-append, length-take, take-append-le}
use Rattle.staat_edge.specs.Files.{failed_at, held_name, told_name}
use Rattle.staat_edge.specs.Opening.{OpensAll}
use Rattle.staat_edge.specs.Readings.{after_read, whole_reading}
use Rattle.staat_edge.specs.declared.whole.ReadRefusal.{ReadRefusal}
use Rattle.staat_edge.specs.declared.whole.ReadRefusal.TheVariants.{OutOfMemory, ReadFault, TooLong}
use Rattle.staat_edge.proofs.Fitted.{as_it_is, ended_by, grown_by, longer_fits, still_one, whole_fits}
use Rattle.staat_edge.proofs.OpeningLemmas.{all_some, narrowed}
use Rattle.staat_edge.proofs.Taken.{not_lacking, rose_since, taken_longer, taken_whole, told_held, where_refused}
use Rattle.staat_edge.proofs.whole.read_whole.Goals as goal

-- what a goal's long list of facts would make slow to see
no_error : {X : Type 0} (x : X) (e : ReadRefusal) → IsErrOf (Ok x) e → ⊥
no_error x e is = absurd cc

fault_not_long : {X : Type 0} → IsErrOf {T = X} (Err ReadFault) TooLong → ⊥
fault_not_long is = absurd cc

fault_not_memory : {X : Type 0} → IsErrOf {T = X} (Err ReadFault) OutOfMemory → ⊥
fault_not_memory is = absurd cc

long_not_fault : {X : Type 0} → IsErrOf {T = X} (Err TooLong) ReadFault → ⊥
long_not_fault is = absurd cc

long_not_memory : {X : Type 0} → IsErrOf {T = X} (Err TooLong) OutOfMemory → ⊥
long_not_memory is = absurd cc

memory_not_fault : {X : Type 0} → IsErrOf {T = X} (Err OutOfMemory) ReadFault → ⊥
memory_not_fault is = absurd cc

memory_not_long : {X : Type 0} → IsErrOf {T = X} (Err OutOfMemory) TooLong → ⊥
memory_not_long is = absurd cc

none_open : (P : ℕ → Type 0) (place : Option ℕ) → place ≡ None → IfSome place P
none_open P place is = subst (λ o. IfSome o P) (sym is) tt

open_at_most : (place : Option ℕ) (at most : ℕ) → place ≡ Some at → at ≤ most → IfSome place (λ n. n ≤ most)
open_at_most place at most is le = subst (λ o. IfSome o (λ n. n ≤ most)) (sym is) le

open_past : (place : Option ℕ) (at limit : ℕ) → place ≡ Some at → limit < at → IsSomeAnd place (λ n. limit < n)
open_past place at limit is lt = subst (λ o. IsSomeAnd o (λ n. limit < n)) (sym is) lt

where_open : {P : Type 0} (place : Option ℕ) → P → IfSome place (λ _. P)
where_open None p = tt
where_open (Some at) p = p

not_failed : (name before : Option (List ℕ)) → failed_at false name before ≡ before
not_failed None before = refl
not_failed (Some name) before = refl

out_of_memory : {X : Type 0} (r : Result X ReadRefusal) → IsErrAnd r (λ e. e ≡ OutOfMemory) → r ≡ Err OutOfMemory
out_of_memory (Ok x) wrong = absurd wrong
out_of_memory (Err e) is = ap Err is

up_to_its_end : (size n limit held : ℕ) (taken text : List ℕ) → n ≡ 0 → text ≡ taken → size ≤ limit → size ≡ held → held ≡ length taken
    → (length text ≤ limit) × (length taken + n ≤ limit + 1) × (length taken + n ≡ length text)
up_to_its_end size n limit held taken text none is few size_is held_is =
    (omega (arith, ap length is), omega arith, omega (arith, ap length is))

past_it : (size limit held : ℕ) (taken : List ℕ) → limit < size → size ≡ held → held ≡ length taken → limit < length taken
past_it size limit held taken past size_is held_is = omega arith

pub returns-then-is_err : goal.returns-then-is_err
returns-then-is_err g c =
    let before = g.H.Shelf.told c.args.shelf.now in
    let now = g.H.Shelf.told c.open.new.self in
    let name = c.args.name.now in
    let wrong = sym c.is_err.ensures.value ∙ c.if-is_err.true in
    let closed = where_refused c.open.result wrong c.open.ensures.closed in
    let none_begun = where_refused c.open.result wrong c.open.ensures.none_begun in
    let cause = where_refused c.open.result wrong c.open.ensures.cause in
    record {
      holds = c.open.ensures.holds;
      count = c.open.ensures.count;
      name = none_open (λ _. now.opened ≡ told_name before.holds name) now.place closed;
      most = none_open (λ at. at ≤ c.args.limit + 1) now.place closed;
      gave = tt;
      opens = inl none_begun;
      narrows = narrowed [] before now c.open.ensures.holds none_begun;
      content = tt;
      within = tt;
      place = tt;
      same_failed = tt;
      fault = λ _. cause;
      failed = λ _. c.open.ensures.failed ∙ ap (λ b. failed_at b (held_name before.holds name) before.failed) wrong;
      no_fault = λ there no_rise _. ⊎_elim (not_lacking _ name there) no_rise cause;
      long = λ e. absurd (fault_not_long e);
      long_name = λ e. absurd (fault_not_long e);
      longer = λ e. absurd (fault_not_long e);
      long_failed = λ e. absurd (fault_not_long e);
      memory_failed = λ e. absurd (fault_not_memory e);
    }

-- a read asks for no more than what is left up to one past the limit
read_at_most : (limit held len most n : ℕ) (taken buf front : List ℕ) → length taken ≤ limit + 1 → held ≡ length taken → len ≡ held
    → most ≡ min 4096 (limit + 1 - len) → n ≤ length buf → length buf ≡ length (take most front) → length taken + n ≤ limit + 1
read_at_most limit held len most n taken buf front few held_is len_is most_is here same = omega (arith, length-take most front)

-- the read had room for a byte
had_room : (g : _) (c : goal.After-from_vec g) → 0 < length c.read.new.buf
had_room g c = omega (
  arith,
  length-take c.min-want.result c.pieces.buf,
  c.read.auto.buf,
  c.min-want.ensures,
  c.len-in-pieces.ensures,
  c.len.ensures,
  c.pieces-test.true,
  c.pieces.taken.ok.0,
)

-- the last read ended the reading
ended : (g : _) (c : goal.After-from_vec g) → (g.H.Shelf.told c.read.new.self).given
    ≡ whole_reading c.args.name.now c.pieces.taken.items ∷ (g.H.Shelf.told c.args.shelf.now).given
ended g c = ended_by c.read.new.buf c.args.name.now c.pieces.taken.items _ _ _ (had_room g c) c.pieces.invariant.given
    (
    c.in-Ok-eq0.ensures.gave ∙ ap (λ n. after_read n c.read.new.buf (g.H.Shelf.told c.pieces.shelf).given)
    c.in-Ok-eq0.field-0-test)

pub returns-in-Ok-eq0 : goal.returns-in-Ok-eq0
returns-in-Ok-eq0 g c =
    let before = g.H.Shelf.told c.args.shelf.now in
    let now = g.H.Shelf.told c.read.new.self in
    let name = c.args.name.now in
    let taken = c.pieces.taken.items in
    let none : c.in-Ok-eq0.field-0 ≡ 0 = c.in-Ok-eq0.field-0-test in
    let holds = c.read.ensures.holds ∙ c.pieces.invariant.holds in
    let place = c.in-Ok-eq0.ensures.moved ∙ ap (option_map (λ at. at + c.in-Ok-eq0.field-0)) c.pieces.invariant.place in
    let within = up_to_its_end c.len.result c.in-Ok-eq0.field-0 c.args.limit c.pieces.taken.len taken _ none c.from_vec.ensures c.pieces-test.true c.len.ensures c.pieces.taken.ok.0 in
    let opens : OpensAll (name ∷ []) before.given now.given = (whole_reading name taken, refl, ended g c) in
    let consumed : Consumes _ (g.H.Shelf.left c.read.new.self) taken = subst (Consumes _ _)
    (ap (λ n. taken ++ take n c.read.new.buf) none ∙ append-nil taken)
    (Consumes-trans _ _ _ _ _ c.pieces.invariant.bytes c.in-Ok-eq0.ensures.bytes.0) in
    let whole = whole_fits now.holds name taken _ _ (ended g c) (λ held is.
    taken_whole _ name taken _ held c.pieces.invariant.has consumed
    (c.in-Ok-eq0.ensures.bytes.1 none (had_room g c)) (sym holds ∙ is)) in
    record {
      holds = holds;
      count = le_trans c.pieces.invariant.count c.read.ensures.count;
      name = where_open now.place (c.read.ensures.name ∙ c.pieces.invariant.name);
      most = open_at_most now.place (length taken + c.in-Ok-eq0.field-0) (c.args.limit + 1) place within.1;
      gave = ended g c ∙ ap (λ b. whole_reading name b ∷ before.given) (sym c.from_vec.ensures);
      opens = opens;
      narrows = narrowed (name ∷ []) before now holds (
          all_some (name ∷ []) _ _ opens);
      content = λ files fit. whole files fit ∙ ap Some (sym c.from_vec.ensures);
      within = within.0;
      place = place ∙ ap Some within.2;
      same_failed = c.in-Ok-eq0.ensures.failed ∙ not_failed _ _ ∙ c.pieces.invariant.failed;
      fault = λ e. absurd (no_error _ _ e);
      failed = λ e. absurd (no_error _ _ e);
      no_fault = λ _ _ e. absurd (no_error _ _ e);
      long = λ e. absurd (no_error _ _ e);
      long_name = λ e. absurd (no_error _ _ e);
      longer = λ e. absurd (no_error _ _ e);
      long_failed = λ e. absurd (no_error _ _ e);
      memory_failed = λ e. absurd (no_error _ _ e);
    }

pub returns-in_err-extend_from_slice-in-Ok : goal.returns-in_err-extend_from_slice-in-Ok
returns-in_err-extend_from_slice-in-Ok g c =
    let before = g.H.Shelf.told c.args.shelf.now in
    let now = g.H.Shelf.told c.read.new.self in
    let name = c.args.name.now in
    let is = out_of_memory c.from_residual.result c.from_residual.ensures.1 in
    let holds = c.read.ensures.holds ∙ c.pieces.invariant.holds in
    let place = c.in-Ok.ensures.moved ∙ ap (option_map (λ at. at + c.in-Ok.count)) c.pieces.invariant.place in
    let opens = still_one c.in-Ok.count c.read.new.buf _ _ _ _ _ c.pieces.invariant.given c.in-Ok.ensures.gave in
    rw is (record {
      holds = holds;
      count = le_trans c.pieces.invariant.count c.read.ensures.count;
      name = where_open now.place (c.read.ensures.name ∙ c.pieces.invariant.name);
      most = open_at_most now.place (length c.pieces.taken.items + c.in-Ok.count) (c.args.limit + 1) place (read_at_most c.args.limit c.pieces.taken.len c.len-in-pieces.result _ c.in-Ok.count c.pieces.taken.items c.read.new.buf c.pieces.buf
          c.pieces.invariant.room c.pieces.taken.ok.0 c.len-in-pieces.ensures c.min-want.ensures c.in-Ok.ensures.room c.read.auto.buf);
      gave = tt;
      opens = opens;
      narrows = narrowed (name ∷ []) before now holds opens;
      content = tt;
      within = tt;
      place = tt;
      same_failed = tt;
      fault = λ e. absurd (memory_not_fault e);
      failed = λ e. absurd (memory_not_fault e);
      no_fault = λ _ _ e. absurd (memory_not_fault e);
      long = λ e. absurd (memory_not_long e);
      long_name = λ e. absurd (memory_not_long e);
      longer = λ e. absurd (memory_not_long e);
      long_failed = λ e. absurd (memory_not_long e);
      memory_failed = λ _. c.in-Ok.ensures.failed ∙ not_failed _ _ ∙ c.pieces.invariant.failed;
    })

pub returns-in-Err : goal.returns-in-Err
returns-in-Err g c =
    let before = g.H.Shelf.told c.args.shelf.now in
    let now = g.H.Shelf.told c.read.new.self in
    let name = c.args.name.now in
    let holds = c.read.ensures.holds ∙ c.pieces.invariant.holds in
    let rose = rose_since _ _ _ c.pieces.invariant.count c.in-Err.ensures.cause in
    let opens = as_it_is _ _ _ _ (c.in-Err.ensures.gave ∙ c.pieces.invariant.given) in
    record {
      holds = holds;
      count = le_trans c.pieces.invariant.count c.read.ensures.count;
      name = where_open now.place (c.read.ensures.name ∙ c.pieces.invariant.name);
      most = open_at_most now.place (length c.pieces.taken.items) (c.args.limit + 1) (c.in-Err.ensures.moved ∙ c.pieces.invariant.place) c.pieces.invariant.room;
      gave = tt;
      opens = opens;
      narrows = narrowed (name ∷ []) before now holds opens;
      content = tt;
      within = tt;
      place = tt;
      same_failed = tt;
      fault = λ _. inr rose;
      failed = λ _. c.in-Err.ensures.failed ∙ ap₂ (failed_at true) (c.pieces.invariant.name ∙ told_held _ name c.pieces.invariant.has) c.pieces.invariant.failed;
      no_fault = λ _ no_rise _. no_rise rose;
      long = λ e. absurd (fault_not_long e);
      long_name = λ e. absurd (fault_not_long e);
      longer = λ e. absurd (fault_not_long e);
      long_failed = λ e. absurd (fault_not_long e);
      memory_failed = λ e. absurd (fault_not_memory e);
    }

pub returns : goal.returns
returns g c =
    let before = g.H.Shelf.told c.args.shelf.now in
    let now = g.H.Shelf.told c.pieces.shelf in
    let name = c.args.name.now in
    let opens = as_it_is _ _ _ _ c.pieces.invariant.given in
    let long : c.args.limit < length c.pieces.taken.items = past_it c.len.result c.args.limit c.pieces.taken.len _ c.pieces-test.false c.len.ensures c.pieces.taken.ok.0 in
    record {
      holds = c.pieces.invariant.holds;
      count = c.pieces.invariant.count;
      name = where_open now.place c.pieces.invariant.name;
      most = open_at_most now.place (length c.pieces.taken.items) (c.args.limit + 1) c.pieces.invariant.place c.pieces.invariant.room;
      gave = tt;
      opens = opens;
      narrows = narrowed (name ∷ []) before now c.pieces.invariant.holds opens;
      content = tt;
      within = tt;
      place = tt;
      same_failed = tt;
      fault = λ e. absurd (long_not_fault e);
      failed = λ e. absurd (long_not_fault e);
      no_fault = λ _ _ e. absurd (long_not_fault e);
      long = λ _. open_past now.place (length c.pieces.taken.items) c.args.limit c.pieces.invariant.place long;
      long_name = λ _. c.pieces.invariant.name;
      longer = λ _. longer_fits _ name c.pieces.taken.items c.args.limit _ _ long c.pieces.invariant.given (λ held is.
          taken_longer _ name c.pieces.taken.items c.args.limit _ held c.pieces.invariant.has long
          c.pieces.invariant.bytes (sym c.pieces.invariant.holds ∙ is));
      long_failed = λ _. c.pieces.invariant.failed;
      memory_failed = λ e. absurd (long_not_memory e);
    }

-- a read within what room was left
room_left : (limit size held len most n : ℕ) (taken buf front new : List ℕ) → size ≤ limit → size ≡ held → held ≡ length taken → n ≤ length buf → length buf ≡ length (take most front)
    → most ≡ min 4096 (limit + 1 - len) → len ≡ held → taken ++ take n buf ≡ new → length new ≤ limit + 1
room_left limit size held len most n taken buf front new few size_is held_is here same most_is len_is is =
    omega (arith, length-append taken (take n buf), length-take n buf, length-take most front, ap length is)

counted : (n : ℕ) (taken buf new : List ℕ) → n ≤ length buf → taken ++ take n buf ≡ new → length taken + n ≡ length new
counted n taken buf new here is = omega (arith, length-append taken (take n buf), length-take n buf, ap length is)

-- what was taken of the front of the buffer
grown_items : (n : ℕ) (taken buf rest new : List ℕ) → n ≤ length buf → new ≡ taken ++ take n (buf ++ rest) → taken ++ take n buf ≡ new
grown_items n taken buf rest new here is = ap (λ l. taken ++ l) (sym (take-append-le n buf rest here)) ∙ sym is

pub pieces-preserved : goal.pieces-preserved
pieces-preserved g c =
    let taken = c.pieces.taken.items in
    let count = c.in-Ok.count in
    let buf = c.read.new.buf in
    let here : count ≤ length buf = c.in-Ok.ensures.room in
    let grew : taken ++ take count buf ≡ c.extend_from_slice.new.self.items =
    grown_items count taken buf (drop c.min-want.result c.pieces.buf) _ here c.in_ok-extend_from_slice-in-Ok.ensures.items in
    let reading = λ (l : List ℕ). record { name = c.args.name.now; bytes = l; ended = false } ∷ (g.H.Shelf.told c.args.shelf.now).given in
    record {
      room = room_left c.args.limit c.len.result c.pieces.taken.len c.len-in-pieces.result c.min-want.result count taken buf c.pieces.buf _ c.pieces-test.true c.len.ensures c.pieces.taken.ok.0 here c.read.auto.buf
          c.min-want.ensures c.len-in-pieces.ensures grew;
      holds = c.read.ensures.holds ∙ c.pieces.invariant.holds;
      count = le_trans c.pieces.invariant.count c.read.ensures.count;
      failed = c.in-Ok.ensures.failed ∙ not_failed _ _ ∙ c.pieces.invariant.failed;
      name = c.read.ensures.name ∙ c.pieces.invariant.name;
      place = c.in-Ok.ensures.moved ∙ ap (option_map (λ at. at + count)) c.pieces.invariant.place ∙ ap Some (counted count taken buf _ here grew);
      given = grown_by count buf c.args.name.now taken _ _ _ (pos_of_ne-zero c.in-Ok.count-test.1) c.pieces.invariant.given c.in-Ok.ensures.gave ∙ ap reading grew;
      has = c.pieces.invariant.has;
      bytes = subst (Consumes _ _) grew (Consumes-trans _ _ _ _ _ c.pieces.invariant.bytes c.in-Ok.ensures.bytes.0);
    }
