use Rattle.std.proofs.Common.{arith, List, subst, sym}
use Rattle.std.specs.Prelude.{IfSome, Option}
use Rattle.std.proofs.lemmas.List.Elements.{All-set}
use Rattle.staat_model.specs.declared.assembly.Part.{Part}
use Rattle.staat_motion.proofs.Kept.{has_shadows}
use Rattle.staat_decide.specs.declared.table.KeptFacets.{KeptFacets}
use Rattle.staat_decide.specs.Keeping.{IsKept}
use Rattle.staat_decide.proofs.table.pair_meets.Goals as goal

abbrev Fits : List Part → Option KeptFacets → Type 0
Fits parts slot = IfSome slot (IsKept parts)

pub apart-requires : goal.apart-requires
apart-requires g c = has_shadows c.args.view.now.parts.now c.args.view.now.along.now c.args.pair c.requires.made c.requires.pieces

pub ask_slot-requires-clause-kept : goal.ask_slot-requires-clause-kept
ask_slot-requires-clause-kept g c =
    subst (Fits c.args.view.now.parts.now) (sym c.index_mut.ensures.value)
    (c.requires.kept c.slot_of-k.result _ (omega (arith, c.slot_of-k.ensures, c.len.ensures)))

pub returns-clause-kept : goal.returns-clause-kept
returns-clause-kept g c =
    All-set (Fits c.args.view.now.parts.now) c.args.table.now.items c.slot_of-k.result c.ask_slot.new.slot c.ask_slot.ensures.kept c.requires.kept
