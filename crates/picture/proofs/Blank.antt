-- A record of which nothing is said.
use Rattle.std.proofs.Common.{pos, []}
use Rattle.picture.specs.Tables.{Place}

abbrev pub blank : Place
blank = record {
  arcs = record { to = [] };
  label = record {
    down = record { all = 0; some = 0; finish = 0; lasts = 0; state = ((0, record { low = pos 0; high = pos 0 }), 0); value = (0, 0) };
    up = record { allup = 0; someup = 0; late = pos 0 };
  };
}
