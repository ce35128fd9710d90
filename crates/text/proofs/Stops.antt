-- Where reading of a text stops.
use Rattle.std.proofs.Common.{◌≡◌, ℕ, suc, ◌+◌, ◌<◌, ◌≤◌, List, [], ◌∷◌, ◌++◌, length, Ok, Err, Option, None, Some, MatchOption, refl, sym, ap, ◌∙◌, arith}
use Rattle.std.proofs.lemmas.List.{append_assoc, length-append}
use Rattle.text.specs.declared.stage.Stage.{Stage}
use Rattle.text.specs.declared.stage.Stage.TheVariants as stages
use Rattle.text.specs.declared.draft.Draft.{Draft}
use Rattle.text.specs.declared.fault.Fault.{Fault}
use Rattle.text.specs.Drafts.{unread}
use Rattle.text.specs.Pieces.{fields_in, lines_in}
use Rattle.text.specs.Lines.{and_then}
use Rattle.text.specs.Steps.{Next, Ready, line_step}
use Rattle.text.specs.Reading.{read_text, read_lines}
use Rattle.text.specs.Faults.{after_lines, IsFaultAt, IsLineFault, IsFaultAtEnd, IsRefusedAtEnd, StopsAt, HasNoFault, IsFault}
use Rattle.text.proofs.Texts.{some-piece, read_step}

-- the lines ahead of the rest are accepted, and lead to that stage and draft
pub record Reaches (text rest : List ℕ) (number : ℕ) (s : Stage) (d : Draft) : Type 0 where
  pub ahead : List (List ℕ)
  pub lines : lines_in text ≡ ahead ++ lines_in rest
  pub reached : after_lines ahead 1 stages.Head unread ≡ Ok (s, d)
  pub counted : number ≡ length ahead + 1

same_next : (r : Next) → and_then r (λ t. Ok (t.0, t.1)) ≡ r
same_next (Ok t) = refl
same_next (Err e) = refl

through : (ahead : List (List ℕ)) (p : List ℕ) (line : ℕ) (x : Next) (r : Next)
    → ((s : Stage) (d : Draft) → after_lines ahead (line + 1) s d ≡ x → after_lines (ahead ++ p ∷ []) (line + 1) s d ≡ and_then x (λ t. line_step t.0 t.1 (line + 1 + length ahead) (fields_in p)))
    → and_then r (λ t. after_lines ahead (line + 1) t.0 t.1) ≡ x
    → and_then r (λ t. after_lines (ahead ++ p ∷ []) (line + 1) t.0 t.1) ≡ and_then x (λ t. line_step t.0 t.1 (line + 1 + length ahead) (fields_in p))
through ahead p line x (Ok t) f h = f t.0 t.1 h
through ahead p line x (Err e) f h = ap (λ y. and_then y (λ t. line_step t.0 t.1 (line + 1 + length ahead) (fields_in p))) h

-- one line more
after_last : (ahead : List (List ℕ)) (p : List ℕ) (line : ℕ) (s : Stage) (d : Draft) (x : Next) → after_lines ahead line s d ≡ x
    → after_lines (ahead ++ p ∷ []) line s d ≡ and_then x (λ t. line_step t.0 t.1 (line + length ahead) (fields_in p))
after_last [] p line s d x h =
    let e : line ≡ line + 0 = omega arith in
    same_next (line_step s d line (fields_in p)) ∙ ap (λ l. line_step s d l (fields_in p)) e ∙ ap (λ y. and_then y (λ t. line_step t.0 t.1 (line + 0) (fields_in p))) h
after_last (q ∷ ahead) p line s d x h =
    let e : line + 1 + length ahead ≡ line + suc (length ahead) = omega arith in
    through ahead p line x (line_step s d line (fields_in q)) (λ s' d' k. after_last ahead p (line + 1) s' d' x k) h
    ∙ ap (λ l. and_then x (λ t. line_step t.0 t.1 l (fields_in p))) e

-- at the start
pub reaches_start : (text : List ℕ) → Reaches text text 1 stages.Head unread
reaches_start text = record { ahead = []; lines = refl; reached = refl; counted = refl }

-- after a line that is accepted
pub reaches_next : (text rest p after : List ℕ) (number : ℕ) (s : Stage) (d : Draft) (s' : Stage) (d' : Draft) → lines_in rest ≡ p ∷ lines_in after
    → line_step s d number (fields_in p) ≡ Ok (s', d') → Reaches text rest number s d → Reaches text after (number + 1) s' d'
reaches_next text rest p after number s d s' d' cut step h = record {
  ahead = h.ahead ++ p ∷ [];
  lines = h.lines ∙ ap (λ ps. h.ahead ++ ps) cut ∙ sym (append_assoc h.ahead (p ∷ []) (lines_in after));
  reached = after_last h.ahead p 1 stages.Head unread _ h.reached ∙ (let e : 1 + length h.ahead ≡ number = omega (arith, h.counted) in rw e step);
  counted = omega (arith, h.counted, length-append h.ahead (p ∷ []));
}

-- a fault of the first of several lines
fault_more : (p : List ℕ) (ps : List (List ℕ)) (line : ℕ) (s : Stage) (d : Draft) (x : Fault) → 0 < length ps → IsLineFault p line s d x → IsFaultAt (p ∷ ps) line s d x
fault_more p [] line s d x l h = absurd (omega (arith, l))
fault_more p (q ∷ ps) line s d x l h = h

-- reading stops at a line that is refused
pub stops_line : (text rest p after : List ℕ) (number : ℕ) (s : Stage) (d : Draft) (x : Fault) → lines_in rest ≡ p ∷ lines_in after
    → IsLineFault p number s d x → Reaches text rest number s d → StopsAt text x
stops_line text rest p after number s d x cut h r = record {
  ahead = r.ahead;
  rest = p ∷ lines_in after;
  stage = s;
  draft = d;
  lines = r.lines ∙ ap (λ ps. r.ahead ++ ps) cut;
  reached = r.reached;
  here = rw (← r.counted) (fault_more p (lines_in after) number s d x (some-piece 10 after) h);
}

-- what is wrong with a text of which a line is refused
pub refused : (text rest p after : List ℕ) (number : ℕ) (s : Stage) (d : Draft) (x : Fault) → lines_in rest ≡ p ∷ lines_in after → length text ≤ 16384
    → read_lines (lines_in rest) number s d ≡ read_text text → Reaches text rest number s d → IsLineFault p number s d x → IsFault text x
refused text rest p after number s d x cut short same r h = record {
  long = λ l. absurd (omega (arith, l, short));
  refused = λ _. sym same ∙ read_step rest p after number s d cut ∙ ap (λ y. and_then y (λ t. read_lines (lines_in after) (number + 1) t.0 t.1)) h.refused;
  stops = λ _. stops_line text rest p after number s d x cut h r;
}

-- n is at most 16 at every stage
pub ready_most : (s : Stage) (d : Draft) → Ready s d → d.n ≤ 16
ready_most stages.Head d r = r
ready_most (stages.Doors k) d r = r.1
ready_most (stages.Drives k) d r = r.1
ready_most stages.Pairs d r = r
ready_most stages.Keepers d r = r

-- reading stops behind the last line feed
pub stops_end : (text rest : List ℕ) (number : ℕ) (s : Stage) (d : Draft) (x : Fault) → lines_in rest ≡ rest ∷ []
    → IsFaultAtEnd rest number s x → Reaches text rest number s d → StopsAt text x
stops_end text rest number s d x cut h r = record {
  ahead = r.ahead;
  rest = rest ∷ [];
  stage = s;
  draft = d;
  lines = r.lines ∙ ap (λ ps. r.ahead ++ ps) cut;
  reached = r.reached;
  here = rw (← r.counted) h;
}

-- what is wrong with a text whose lines are all accepted, if anything is
pub ended : (text rest : List ℕ) (number : ℕ) (s : Stage) (d : Draft) (o : Option Fault) → lines_in rest ≡ rest ∷ [] → length text ≤ 16384
    → read_lines (lines_in rest) number s d ≡ read_text text → Reaches text rest number s d
    → MatchOption o (read_lines (rest ∷ []) number s d ≡ Ok d) (IsRefusedAtEnd rest number s d) → MatchOption o (HasNoFault text) (IsFault text)
ended text rest number s d None cut short same r h = record { short = short; draft = d; read = sym same ∙ ap (λ ps. read_lines ps number s d) cut ∙ h }
ended text rest number s d (Some x) cut short same r h = record {
  long = λ l. absurd (omega (arith, l, short));
  refused = λ _. sym same ∙ ap (λ ps. read_lines ps number s d) cut ∙ h.refused;
  stops = λ _. stops_end text rest number s d x cut h.fault r;
}
