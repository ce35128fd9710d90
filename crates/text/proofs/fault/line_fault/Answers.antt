use Rattle.text.specs.Lines.{fields_of}
use Rattle.text.proofs.Stops.{ready_most}
use Rattle.text.proofs.Unmet.{refused_unmet}
use Rattle.text.proofs.fault.line_fault.Goals as goal

pub found_in-requires-clause-some : goal.found_in-requires-clause-some
found_in-requires-clause-some c = (refused_unmet c.args.stage c.args.draft.now (fields_of c.args.line.now) c.args.line.now.number c.args.refusal c.requires.ready c.requires.refused).some

pub found_in-requires-clause-most : goal.found_in-requires-clause-most
found_in-requires-clause-most c = (refused_unmet c.args.stage c.args.draft.now (fields_of c.args.line.now) c.args.line.now.number c.args.refusal c.requires.ready c.requires.refused).most

pub flaw_at-requires-clause-some : goal.flaw_at-requires-clause-some
flaw_at-requires-clause-some c = (refused_unmet c.args.stage c.args.draft.now (fields_of c.args.line.now) c.args.line.now.number c.args.refusal c.requires.ready c.requires.refused).some

pub flaw_at-requires-clause-most : goal.flaw_at-requires-clause-most
flaw_at-requires-clause-most c = (refused_unmet c.args.stage c.args.draft.now (fields_of c.args.line.now) c.args.line.now.number c.args.refusal c.requires.ready c.requires.refused).most

pub due_at-due-requires : goal.due_at-due-requires
due_at-due-requires c = ready_most c.args.stage c.args.draft.now c.requires.ready

pub returns : goal.returns
returns c =
    let u = refused_unmet c.args.stage c.args.draft.now (fields_of c.args.line.now) c.args.line.now.number c.args.refusal c.requires.ready c.requires.refused in
    record {
      refused = c.requires.refused;
      due = c.due_at-due.ensures;
      unmet = rw c.due_at-due.ensures u.unmet;
      found = c.found_in.ensures;
      flaw = c.flaw_at.ensures;
    }
