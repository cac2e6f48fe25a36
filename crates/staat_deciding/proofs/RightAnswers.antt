-- What statuses 0 and 1 of `decide` and `blocks` mean.
use Rattle.std.proofs.Common.{◌≡◌, List, arith, inl, inr}
use Rattle.std.specs.Prelude.{Ok}
use Rattle.staat_model.specs.declared.assembly.Part.{Part}
use Rattle.staat_words.specs.Requests.{IsBlocksRequest}
use Rattle.staat_words.specs.declared.request.GraphRequest.{GraphRequest}
use Rattle.staat_input.specs.declared.answer.Answer.{Answer}
use Rattle.staat_input.specs.Assembling.{AreSoundProductParts}
use Rattle.staat_input.specs.Work.{Files}
use Rattle.staat_input.proofs.SoundParts.{same_status, sound_product_parts}
use Rattle.staat_deciding.specs.Blocks.{BlocksWork}

pub blocks_is_right : (request : GraphRequest) (files : Files) (a : Answer) → IsBlocksRequest request → BlocksWork request files (Ok a) → a.status ≡ 0 → (parts : List Part) × AreSoundProductParts files request.asked parts
blocks_is_right request files a bounds (inl (fault, at, e)) zero = absurd cc
blocks_is_right request files a bounds (inr (built, found, g)) zero = (built, sound_product_parts files request.asked built bounds.0 found)

pub blocks_is_denied : (request : GraphRequest) (files : Files) (a : Answer) → IsBlocksRequest request → BlocksWork request files (Ok a) → a.status ≡ 1 → ⊥
blocks_is_denied request files a bounds (inl (fault, at, e)) one = absurd cc
blocks_is_denied request files a bounds (inr (built, found, g)) one = absurd (omega (arith, one, same_status _ _ g.is))
