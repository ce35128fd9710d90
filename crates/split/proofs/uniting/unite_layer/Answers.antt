use borrow.Author.Rules.{scaled_Fits}
use Rattle.split.proofs.uniting.unite_layer.Goals as goal

pub offset_bounds-us-lo : goal.offset_bounds-us-lo
offset_bounds-us-lo g c = scaled_Fits _ _ _ c.requires.lo_in_bounds c.well_formed.0.1
