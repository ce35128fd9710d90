use Rattle.diagram.proofs.diagram.Diagram.musts.Goals as goal

pub returns-clause-paths : goal.returns-clause-paths
returns-clause-paths g c = rw (← c.reading_form.ensures.room, ← c.reading_form.ensures.records) c.musts.ensures.paths
