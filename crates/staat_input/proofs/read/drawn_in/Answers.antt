use Rattle.std.proofs.Common.{◌∙◌, List, ℕ, ap, subst, sym, Err}
use Rattle.std.specs.Prelude.{IfErr}
use Rattle.staat_fault.specs.declared.fault.Fault.TheVariants as fault
use Rattle.staat_mesh.specs.declared.refusal.MeshRefusal.{MeshRefusal}
use Rattle.staat_mesh.specs.declared.refusal.MeshRefusal.TheVariants as mesh
use Rattle.staat_off.specs.declared.refusal.OffRefusal.{OffRefusal}
use Rattle.staat_off.specs.declared.refusal.OffRefusal.TheVariants as off
use Rattle.staat_input.specs.Causes.{HasCause, ShelfSide}
use Rattle.staat_input.specs.Pieces.{SaysPiece}
use Rattle.staat_input.specs.Refusals.{mesh_fault, off_fault}
use Rattle.staat_input.specs.Work.{Follows}
use Rattle.staat_input.proofs.InputLemmas.{no_value}
use Rattle.staat_input.proofs.ReadLemmas.{drawn_failed, says_no_file, says_no_piece, says_piece}
use Rattle.staat_input.proofs.read.drawn_in.Goals as goal

off_cause : (shelf : ShelfSide) (name : List ℕ) (refusal : OffRefusal) → HasCause shelf (off_fault name refusal)
off_cause shelf name off.NoHeader = tt
off_cause shelf name refusal = tt

mesh_cause : (shelf : ShelfSide) (name : List ℕ) (refusal : MeshRefusal) → HasCause shelf (mesh_fault name refusal)
mesh_cause shelf name mesh.Flat = tt
mesh_cause shelf name refusal = tt

pub returns-in_err-copied-in-Err : goal.returns-in_err-copied-in-Err
returns-in_err-copied-in-Err c =
    let found = c.from_residual.result in
    let is = c.from_residual.ensures.1 in
    record {
      says = drawn_failed (Follows (SaysPiece c.args.digits c.args.name.now c.args.bytes.now)) fault.OutOfMemory found tt is;
      raw = no_value _ _ found is;
      indexed = no_value _ _ found is;
      counted = no_value _ _ found is;
      cause = λ shelf. drawn_failed (λ r. IfErr r (HasCause shelf)) fault.OutOfMemory found tt is;
    }

pub returns-in-Err : goal.returns-in-Err
returns-in-Err c =
    let refusal = c.in-Err.refusal in
    let is = c.off_fault.ensures ∙ ap (λ (n : List ℕ). off_fault n refusal) c.in_ok-copied-in-Err.ensures in
    record {
      says = subst (λ f. Follows (SaysPiece c.args.digits c.args.name.now c.args.bytes.now) (Err f)) (sym is)
          (says_no_file c.args.digits c.args.name.now c.args.bytes.now refusal c.in-Err.ensures.reads);
      raw = tt;
      indexed = tt;
      counted = tt;
      cause = λ shelf. subst (HasCause shelf) (sym is) (off_cause shelf c.args.name.now refusal);
    }

pub returns-in-Ok-make_piece : goal.returns-in-Ok-make_piece
returns-in-Ok-make_piece c = record {
  says = says_piece c.args.digits c.args.name.now c.args.bytes.now c.in-Ok.raw c.in-Ok-make_piece.piece
      c.in-Ok.ensures.reads c.in-Ok-make_piece.ensures;
  raw = c.in-Ok.ensures.reads;
  indexed = c.in-Ok.ensures.indexed;
  counted = c.in-Ok.ensures.counted;
  cause = λ shelf. tt;
}

pub returns-in_ok-copied-in-Err-make_piece : goal.returns-in_ok-copied-in-Err-make_piece
returns-in_ok-copied-in-Err-make_piece c =
    let refusal = c.in-Err-make_piece.refusal in
    let is = c.mesh_fault.ensures ∙ ap (λ (n : List ℕ). mesh_fault n refusal) c.in_ok-copied-in-Err-make_piece.ensures in
    record {
      says = subst (λ f. Follows (SaysPiece c.args.digits c.args.name.now c.args.bytes.now) (Err f)) (sym is)
          (says_no_piece c.args.digits c.args.name.now c.args.bytes.now c.in-Ok.raw refusal c.in-Ok.ensures.reads
          c.in-Err-make_piece.ensures);
      raw = tt;
      indexed = tt;
      counted = tt;
      cause = λ shelf. subst (HasCause shelf) (sym is) (mesh_cause shelf c.args.name.now refusal);
    }

pub returns-in_err-copied-in-Err-make_piece : goal.returns-in_err-copied-in-Err-make_piece
returns-in_err-copied-in-Err-make_piece c =
    let found = c.from_residual-in_err-copied-in-Err-make_piece.result in
    let is = c.from_residual-in_err-copied-in-Err-make_piece.ensures.1 in
    record {
      says = drawn_failed (Follows (SaysPiece c.args.digits c.args.name.now c.args.bytes.now)) fault.OutOfMemory found tt is;
      raw = no_value _ _ found is;
      indexed = no_value _ _ found is;
      counted = no_value _ _ found is;
      cause = λ shelf. drawn_failed (λ r. IfErr r (HasCause shelf)) fault.OutOfMemory found tt is;
    }
