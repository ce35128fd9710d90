-- Tidying: only nodes on a path are left, numbered anew as they stood. `TidyLaws` says in words of paths what that comes to, and that
-- nothing else is so: nobody has to believe the steps here.
use Rattle.std.specs.Prelude.{ℕ, zero, suc, Bool, true, false, if◌then◌else◌, ◌&&◌, List, [], ◌∷◌, Some, Option, is_some, slice_index_or}
use Rattle.layers.specs.Net.{Layer, Net, width, redirect}
use Rattle.layers.specs.Flow.{next, up}

-- a node that is reached has a mark, one that is not has none: it flows like a label that says nothing else
abbrev pub Mark : Type 0
Mark = Unit {0}

-- which nodes of the next layer are reached
unfoldable pub marks_next : List (Option Mark) → Layer → ℕ → List (Option Mark)
unfolding next
marks_next = next {A = Mark} (λ m j. tt) (λ x y. tt)

-- which nodes of the first of these layers lead to the end
unfoldable pub marks_up : Net → List (Option Mark)
unfolding up
marks_up = up {A = Mark} (λ m j. tt) (λ x y. tt) tt

-- which nodes stay: those that are reached and lead on
unfoldable pub flags : List (Option Mark) → List (Option Mark) → List Bool
flags [] us = []
flags (x ∷ xs) [] = []
flags (x ∷ xs) (u ∷ us) = (is_some x && is_some u) ∷ flags xs us

-- how many of the nodes ahead of place b stay
unfoldable pub rank : List Bool → ℕ → ℕ
rank [] b = 0
rank (f ∷ fs) zero = 0
rank (true ∷ fs) (suc b) = suc (rank fs b)
rank (false ∷ fs) (suc b) = rank fs b

-- what stays of a list
unfoldable pub compress : {A : Type 0} → List Bool → List A → List A
compress [] xs = []
compress (f ∷ fs) [] = []
compress (true ∷ fs) (x ∷ xs) = x ∷ compress fs xs
compress (false ∷ fs) (x ∷ xs) = compress fs xs

-- the target that place b becomes: 0 if it goes, and else its place among those that stay
unfoldable pub renumber : List Bool → ℕ → ℕ
unfolding rank
renumber fs b = if slice_index_or fs b false then suc (rank fs b) else 0

-- from a layer on, of which fr says which nodes are reached
unfoldable pub tidy : List (Option Mark) → Net → Net
unfolding redirect marks_next marks_up flags compress renumber
tidy fr [] = []
tidy fr (L ∷ Ls) =
    let fr' = marks_next fr L (width Ls) in
    let fs = flags fr' (marks_up Ls) in
    compress (flags fr (marks_up (L ∷ Ls))) (redirect (λ a j b. renumber fs b) L) ∷ tidy fr' Ls

-- the whole diagram: the first node stays, also in an empty diagram
unfoldable pub tidied_arcs : Net → Net
unfolding redirect marks_next marks_up flags renumber tidy
tidied_arcs [] = []
tidied_arcs (L ∷ Ls) =
    let fr = marks_next (Some tt ∷ []) L (width Ls) in
    let fs = flags fr (marks_up Ls) in
    redirect (λ a j b. renumber fs b) L ∷ tidy fr Ls
