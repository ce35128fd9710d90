use borrow.Author.Rules.{scaled_Fits}
use Rattle.split.proofs.Divided.{put_set}
use Rattle.split.proofs.dividing.put_arc.Goals as goal

pub offset_bounds-us-x : goal.offset_bounds-us-x
offset_bounds-us-x g c = scaled_Fits _ _ _ c.requires.place_in_bounds c.well_formed.0.1

pub returns : goal.returns
returns g c = put_set c.args.us.now c.args.x.now.place c.args.x.now.door c.args.t c.index-us-x.result
