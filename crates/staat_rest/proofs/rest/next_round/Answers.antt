use Rattle.std.proofs.Common.{List, ap, length, refl, subst, ℕ, ◌∙◌}
use Rattle.staat_model.specs.declared.assembly.Part.{Part}
use Rattle.staat_model.specs.Sets.{below}
use Rattle.staat_decide.specs.Decided.{IsDecision}
use Rattle.staat_rest.proofs.MergedPieces.{merged_parts_are, merged_pieces_few}
use Rattle.staat_rest.proofs.Rounds.{are_as, few_merged, some_merged}
use Rattle.staat_rest.proofs.rest.next_round.Goals as goal

pub merged_of-requires-clause-many : goal.merged_of-requires-clause-many
merged_of-requires-clause-many g c = ap (λ (ns : List ℕ). length ns) c.as_slice-now.ensures.value ∙ c.requires.shown.many

pub decide-requires-clause-parts : goal.decide-requires-clause-parts
decide-requires-clause-parts g c =
    let parts = c.args.parts.now in
    let m = c.in_ok-merged.merged in
    let names = c.args.groups.now.names.items in
    let lists = c.args.groups.now.lists.items in
    let whole = c.as_slice-whole.result.now in
    let are = are_as parts c.as_slice-now.result.now names m.heads m.heads m.origins m.origins m.parts whole c.as_slice-now.ensures.value refl refl c.as_slice-whole.ensures c.in_ok-merged.ensures in
    merged_parts_are parts names m.heads m.origins whole are c.requires.parts c.requires.shown.many

pub decide-requires-clause-some : goal.decide-requires-clause-some
decide-requires-clause-some g c =
    let parts = c.args.parts.now in
    let m = c.in_ok-merged.merged in
    let names = c.args.groups.now.names.items in
    let lists = c.args.groups.now.lists.items in
    let whole = c.as_slice-whole.result.now in
    let are = are_as parts c.as_slice-now.result.now names m.heads m.heads m.origins m.origins m.parts whole c.as_slice-now.ensures.value refl refl c.as_slice-whole.ensures c.in_ok-merged.ensures in
    some_merged parts names m.heads lists m.origins whole c.requires.shown are c.requires.some

pub decide-requires-clause-count : goal.decide-requires-clause-count
decide-requires-clause-count g c =
    let parts = c.args.parts.now in
    let m = c.in_ok-merged.merged in
    let names = c.args.groups.now.names.items in
    let lists = c.args.groups.now.lists.items in
    let whole = c.as_slice-whole.result.now in
    let are = are_as parts c.as_slice-now.result.now names m.heads m.heads m.origins m.origins m.parts whole c.as_slice-now.ensures.value refl refl c.as_slice-whole.ensures c.in_ok-merged.ensures in
    few_merged parts names m.heads lists m.origins whole c.requires.shown are c.requires.count

pub decide-requires-clause-pieces : goal.decide-requires-clause-pieces
decide-requires-clause-pieces g c =
    let parts = c.args.parts.now in
    let m = c.in_ok-merged.merged in
    let names = c.args.groups.now.names.items in
    let lists = c.args.groups.now.lists.items in
    let whole = c.as_slice-whole.result.now in
    let are = are_as parts c.as_slice-now.result.now names m.heads m.heads m.origins m.origins m.parts whole c.as_slice-now.ensures.value refl refl c.as_slice-whole.ensures c.in_ok-merged.ensures in
    merged_pieces_few parts names m.heads m.origins whole are c.requires.parts c.requires.shown.many

pub turned-requires-clause-merged : goal.turned-requires-clause-merged
turned-requires-clause-merged g c =
    let m = c.in_ok-merged.merged in
    are_as c.args.parts.now c.as_slice-now.result.now c.args.groups.now.names.items m.heads m.heads m.origins m.origins m.parts m.parts c.as_slice-now.ensures.value refl refl refl c.in_ok-merged.ensures

pub turned-requires-clause-decided : goal.turned-requires-clause-decided
turned-requires-clause-decided g c =
    subst (λ (ps : List Part). IsDecision ps (below (length ps)) c.in_ok-decision.decision) c.as_slice-whole.ensures c.in_ok-decision.ensures
