use Rattle.std.proofs.Common.{◌≡◌, ◌+◌, ◌<◌, arith, refl, sym, subst, length, get_or, All}
use Rattle.std.proofs.lemmas.Result.{IfOk-weaker}
use Rattle.staat_model.proofs.Places.{place_within}
use Rattle.staat_short.specs.declared.short.ShortNode.TheVariants.{Split}
use Rattle.staat_confirm.specs.Found.{FindsLeast, MeetsBetween}
use Rattle.staat_confirm.proofs.Clearing.{across_read, listed_apart, listed_parts, read_bounds}
use Rattle.staat_confirm.proofs.splits.meeting_at.Goals as goal

pub bounds-judged-k : goal.bounds-judged-k
bounds-judged-k g c =
    let j = c.args.judged.now in
    (read_bounds j.product.now j.nodes.now j.owners.now j.ends.now c.args.k c.args.along.now.d c.requires.read c.requires.split).0

pub bounds-judged-middle : goal.bounds-judged-middle
bounds-judged-middle g c =
    let j = c.args.judged.now in
    (read_bounds j.product.now j.nodes.now j.owners.now j.ends.now c.args.k c.args.along.now.d c.requires.read c.requires.split).1

pub offset_bounds-judged-middle : goal.offset_bounds-judged-middle
offset_bounds-judged-middle g c =
    let j = c.args.judged.now in
    let lt = (read_bounds j.product.now j.nodes.now j.owners.now j.ends.now c.args.k c.args.along.now.d c.requires.read c.requires.split).2 in
    let few = c.requires.read.fit.few in
    omega (arith, lt, few)

pub overflow_add-k : goal.overflow_add-k
overflow_add-k g c =
    let lt = place_within c.args.judged.now.nodes.now c.args.k (Split c.args.along.now.d) c.requires.split in
    let few = c.requires.read.fit.few in
    omega (arith, lt, few)

pub first_meeting-requires-clause-moved_in : goal.first_meeting-requires-clause-moved_in
first_meeting-requires-clause-moved_in g c =
    let j = c.args.judged.now in
    subst (All (λ p. p < length j.product.now)) (sym c.as_slice.ensures.value) (listed_parts j.product.now j.nodes.now j.owners.now _ _ c.in_ok-moved.moved.items c.requires.read.owned c.in_ok-moved.ensures)

pub first_meeting-requires-clause-rest_in : goal.first_meeting-requires-clause-rest_in
first_meeting-requires-clause-rest_in g c =
    let j = c.args.judged.now in
    subst (All (λ p. p < length j.product.now)) (sym c.as_slice-2.ensures.value) (listed_parts j.product.now j.nodes.now j.owners.now _ _ c.in_ok-rest.rest.items c.requires.read.owned c.in_ok-rest.ensures)

pub first_meeting-requires-clause-other : goal.first_meeting-requires-clause-other
first_meeting-requires-clause-other g c =
    subst (λ xs. All (λ a. All (λ b. b ≡ a → ⊥) c.as_slice-2.result.now) xs) (sym c.as_slice.ensures.value)
    (subst (λ ys. All (λ a. All (λ b. b ≡ a → ⊥) ys) c.in_ok-moved.moved.items) (sym c.as_slice-2.ensures.value)
    (listed_apart c.args.judged.now.owners.now _ _ _ c.in_ok-moved.moved.items c.in_ok-rest.rest.items c.in_ok-moved.ensures c.in_ok-rest.ensures))

pub returns : goal.returns
returns g c =
    let j = c.args.judged.now in
    let d = c.args.along.now.d in
    let xs = c.as_slice.result.now in
    let ys = c.as_slice-2.result.now in
    let middle = get_or j.ends.now (c.args.k + 1) 0 in
    IfOk-weaker c.first_meeting.result (FindsLeast (MeetsBetween j.product.now d xs ys)) _
    (λ answer finds. across_read j.product.now j.nodes.now j.owners.now j.ends.now c.args.k d middle (get_or j.ends.now middle 0) c.in_ok-moved.moved.items c.in_ok-rest.rest.items xs ys answer c.requires.read c.requires.split
    refl refl c.as_slice.ensures.value c.as_slice-2.ensures.value c.in_ok-moved.ensures c.in_ok-rest.ensures finds) c.first_meeting.ensures
