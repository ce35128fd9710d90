use Rattle.std.proofs.Common.{◌≡◌, ℕ, Bool, [], ◌∷◌, ◌++◌, Some, None, Option, refl, arith}
use Rattle.std.specs.Int.{from_bool}
use Rattle.rules.specs.Sides.{SideState}
use Rattle.rules.specs.Rules.{RuleSense}
use Rattle.layers.specs.Settings.{setting}
use Rattle.layers.specs.Calls.{bound, is_settled}
use Rattle.allowed.specs.Senses.{side_of, late_of}
use Rattle.diagram.specs.declared.room.Room.{Room}
use Rattle.packed.specs.Senses.{Recs}
use Rattle.packed.specs.Sheets.{bound_words, first_words}
use Rattle.packed.specs.Words.{count_word}
use Rattle.packed.proofs.head.first_words.Goals as goal

module _ (room m : Room) (R : RuleSense SideState) (xs : Recs) (calls a b s : ℕ) (y : Bool) (o : Option (ℕ × ℕ)) where
  words-are : m ≡ room → R ≡ side_of room.round.now → a ≡ count_word room.round.now.n → b ≡ count_word calls → s ≡ from_bool y
      → y ≡ is_settled (setting m.round.now R (late_of room.round.now) m.width) xs → o ≡ bound m.round.now.n m.width xs
      → (a ∷ b ∷ s ∷ []) ++ bound_words o ≡ first_words room.round.now room.width (count_word calls) xs
  unfolding first_words
  words-are here side ea eb es ey eo =
      let most = room.round.now.most in
      let small : count_word room.round.now.n ≡ room.round.now.n = omega arith in
      rw (ea, small, eb, es, ey, eo, here, side) refl

pub returns-in-Some : goal.returns-in-Some
returns-in-Some c =
    words-are _ _ _ _ c.args.calls _ _ _ _ (Some (c.in-Some.doors, c.in-Some.minutes)) c.requires.room c.requires.rule
    c.count_word-n.ensures c.count_word-calls.ensures c.from-settled.ensures (c.settled.ensures (late_of c.args.room.round.now)) c.in-Some.ensures

pub returns-in-None : goal.returns-in-None
returns-in-None c =
    words-are _ _ _ _ c.args.calls _ _ _ _ None c.requires.room c.requires.rule
    c.count_word-n.ensures c.count_word-calls.ensures c.from-settled.ensures (c.settled.ensures (late_of c.args.room.round.now)) c.in-None.ensures
