use Rattle.diagram.proofs.lay.+lay_layers.Given as goal

abbrev pub decreases-lay_layers : goal.decreases-lay_layers
decreases-lay_layers g l = l.count
