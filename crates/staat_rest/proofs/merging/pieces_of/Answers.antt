use Rattle.std.proofs.Common.{◌≡◌, ◌⊎◌, ◌↔◌, ◌<◌, ◌∙◌, Contains, arith, get_or, length, refl, sym, subst}
use Rattle.std.proofs.lemmas.Bool.{false≢true}
use Rattle.staat_model.specs.Assemblies.{piece_count}
use Rattle.staat_rest.specs.declared.merging.Origin.{Origin}
use Rattle.staat_rest.proofs.OriginSteps.{count_read, pieces_end, pieces_more, pieces_none, pieces_same}
use Rattle.staat_rest.proofs.merging.pieces_of.Goals.{then-is_named+in_ok-add_origins, else-is_named}
use Rattle.staat_rest.proofs.merging.pieces_of.Goals as goal

pub loop-p-init : goal.loop-p-init
loop-p-init c = pieces_none c.args.parts.now c.args.names.now c.args.node c.new-origins.result.items c.new-origins.ensures.items

pub loop-p-preserved : goal.loop-p-preserved
loop-p-preserved c =
    let parts = c.args.parts.now in
    let names = c.args.names.now in
    let p = c.loop-p.p in
    let xs = c.loop-p.origins.items in
    elim c.if-is_named.branch [
      | then-is_named+in_ok-add_origins w ↦
          let at : get_or names p 0 ≡ c.args.node = c.is_named.ensures.0 w.if-is_named.true in
          let p_lt : p < length parts = omega (arith, c.loop-p-test.true, c.requires.many) in
          let many = count_read parts p w.index-parts-p.result w.as_slice.result.now p_lt w.index-parts-p.is w.as_slice.ensures in
          rw w.origins-is (pieces_more parts names c.args.node p 0 (piece_count parts p) xs w.add_origins.new.origins.items c.loop-p-test.true at refl
          (subst (λ count. (o : Origin) → Contains w.add_origins.new.origins.items o ↔ (Contains xs o ⊎ ((o.part ≡ p) × (o.piece < count)))) (sym many) w.in_ok-add_origins.ensures) c.loop-p.invariant)
      | else-is_named w ↦ rw w.origins-is (pieces_same parts names c.args.node p 0 xs (λ e. false≢true (sym w.if-is_named.false ∙ c.is_named.ensures.1 e)) c.loop-p.invariant)
    ]

pub returns : goal.returns
returns c = pieces_end c.args.parts.now c.args.names.now c.args.node c.loop-p.p c.loop-p.origins.items c.loop-p-test.false c.loop-p.invariant
