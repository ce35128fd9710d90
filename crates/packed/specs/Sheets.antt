-- A sheet: the words that are written for a round, a width and a list of calls, or why they are refused.
use Rattle.std.specs.Prelude.{◌≡◌, ℕ, ◌*◌, ◌-◌, List, [], ◌∷◌, ◌++◌, length, drop, replicate, Some, None, Option, Ok, Err, Result, nat_lt, if◌then◌else◌, MatchBool, MatchResult, ℤ, pos, negsuc}
use Rattle.std.specs.Int.{from_bool}
use Rattle.round.specs.declared.table.Round.{Round}
use Rattle.labels.specs.Passes.{blank_node}
use Rattle.layers.specs.Calls.{Outcome, bound, open_answer, after_open, after_calls, is_settled}
use Rattle.diagram.specs.Musts.{musts}
use Rattle.text.specs.declared.refusal.Refusal.{Refusal as TextRefusal}
use Rattle.text.specs.declared.refusal.Refusal.TheVariants.{TooLong}
use Rattle.text.specs.Reading.{read_text}
use Rattle.text.specs.Rounds.{contents}
use Rattle.packed.specs.declared.refusal.Refusal.{Refusal}
use Rattle.packed.specs.declared.refusal.Refusal.TheVariants.{Text, Diagram, Calls, Short}
use Rattle.packed.specs.Answers.{answers}
use Rattle.packed.specs.Refusals.{number_of}
use Rattle.packed.specs.Requests.{Request, requests_of}
use Rattle.allowed.specs.Senses.{side_of, late_of}
use Rattle.packed.specs.Senses.{Recs, setting_for}
use Rattle.packed.specs.Words.{count_word, begun_with}

-- ---- what a diagram of n doors and width W is asked, in the records xs
-- 1 and the bound, or zeros if there is none
abbrev pub bound_words : Option (ℕ × ℕ) → List ℕ
bound_words None = 0 ∷ 0 ∷ 0 ∷ []
bound_words (Some v) = 1 ∷ v.0 ∷ v.1 ∷ []

-- the words ahead of the musts, of a diagram on which k calls were made
unfoldable pub first_words : Round → ℕ → ℕ → Recs → List ℕ
unfolding bound is_settled
first_words r W k xs =
    (r.n ∷ k ∷ from_bool (is_settled (setting_for r W) xs) ∷ []) ++ bound_words (bound r.n W xs)

-- for each of the doors 1 to 16, the set of the doors that have to come behind it
abbrev pub must_words : ℕ → ℕ → Recs → List ℕ
must_words n W xs = drop 1 (musts n W xs)

-- what the diagram is asked after its calls
unfoldable pub head_words : Round → ℕ → ℕ → Recs → List ℕ
unfolding first_words musts
head_words r W k xs = first_words r W k xs ++ must_words r.n W xs

-- ---- the sheet of a round
-- the records on which the diagram is opened: as many as the widest diagram of the most doors has, all blank
unfoldable pub blank_records : Round → Recs
blank_records r = replicate 2049 (blank_node (side_of r) (late_of r))

-- the round's diagram at the width W, just opened
unfoldable pub opened_diagram : Round → ℕ → Recs
unfolding after_open blank_records
opened_diagram r W = after_open (setting_for r W) (blank_records r)

-- the words of the sheet: what the diagram is asked after the calls, then the answer of each call
unfoldable pub sheet_words : Round → ℕ → List Request → List ℕ
unfolding head_words answers opened_diagram
sheet_words r W cs =
    head_words r W (count_word (length cs)) (after_calls (setting_for r W) cs (opened_diagram r W))
    ++ answers (setting_for r W) cs (opened_diagram r W)

-- ---- what is refused
-- the words, if `room` bytes are enough for them
abbrev pub fitted : ℕ → List ℕ → Result (List ℕ) Refusal
fitted room ws = if nat_lt room (4 * length ws) then Err Short else Ok ws

-- the sheet of a round whose diagram is opened: the calls may be none, and then there may be no room for its words
abbrev pub sheet_after : Round → ℕ → ℕ → Option (List Request) → Result (List ℕ) Refusal
sheet_after r W room None = Err Calls
sheet_after r W room (Some cs) = fitted room (sheet_words r W cs)

-- what comes of it, if the diagram is opened
abbrev pub if_opened : {A : Type 0} → Outcome → Result A Refusal → Result A Refusal
if_opened (Ok done) x = x
if_opened (Err e) x = Err (Diagram e)

-- the sheet of a round that is read, or of a text that is refused
abbrev pub sheet_of : ℕ → List ℕ → ℕ → Result Round TextRefusal → Result (List ℕ) Refusal
sheet_of W calls room (Err e) = Err (Text e)
sheet_of W calls room (Ok r) = if_opened (open_answer r.n W 2049) (sheet_after r W room (requests_of calls))

-- ---- what is answered, and what is written
-- the bytes that are written, or the refusal
abbrev pub byte_count : Result (List ℕ) Refusal → Result ℕ Refusal
byte_count (Ok ws) = Ok (4 * length ws)
byte_count (Err e) = Err e

-- a list of bytes after it: the sheet's words and all behind as it was, or as it was if the sheet is refused
abbrev pub written : Result (List ℕ) Refusal → List ℕ → List ℕ
written (Ok ws) out = begun_with ws out
written (Err e) out = out

-- a number that is answered to C: one below 0 for a refusal
abbrev pub code : Result ℕ Refusal → ℤ
code (Ok k) = pos k
code (Err e) = negsuc (number_of e - 1)

-- ---- the round of a text
-- P holds of the round that the text says, or of why the text is refused: it is read if it has 16,384 bytes at most
abbrev pub OnRead : List ℕ → (Result Round TextRefusal → Type 0) → Type 0
OnRead text P =
    MatchBool (nat_lt 16384 (length text)) (P (Err TooLong))
    (MatchResult (read_text text) (λ d. (r : Round) × (contents r ≡ d) × P (Ok r)) (λ e. P (Err e)))
