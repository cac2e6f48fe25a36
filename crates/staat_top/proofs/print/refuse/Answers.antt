use Rattle.std.proofs.Common.{sym, inl}
use Rattle.staat_fault.specs.declared.fault.Fault.TheVariants.{Usage}
use Rattle.staat_fault.specs.Faults.{body_of, line_of}
use Rattle.staat_top.proofs.print.refuse.Goals as goal

pub returns-in-Usage-clause-whole : goal.returns-in-Usage-clause-whole
unfolding line_of body_of
returns-in-Usage-clause-whole g c = λ other.
    let w = c.say.ensures.whole other in
    record { said = Usage; is_said = inl (sym c.in-Usage.is); is = w.0; line = w.1 }

pub returns-in-Usage-clause-part : goal.returns-in-Usage-clause-part
unfolding line_of body_of
returns-in-Usage-clause-part g c = λ six. record { said = Usage; is_said = inl (sym c.in-Usage.is); part = c.say.ensures.part six }
