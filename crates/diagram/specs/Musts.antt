-- The musts of a diagram, as sets of doors: how they are made of the answers to single musts.
pub use Rattle.seek.specs.Musts.{must_of}
unfoldable pub use Rattle.seek.specs.Musts.{set_where, behind, musts}
