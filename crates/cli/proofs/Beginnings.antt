-- What is read of the first 16,385 bytes of a text is read of the text.
use Rattle.std.proofs.Common.{IfSome, None, option_map, Option, Some, [], ◌++◌, ◌≡◌, ◌≤◌, ℕ, List, Ok, Err, Result, ap, ◌∙◌, sym, take, length, arith, Bool, true, false, nat_le, ◌<◌, subst, refl}
use Rattle.std.proofs.lemmas.Bool.Decides.{nat_tests}
use Rattle.std.proofs.lemmas.List.{length-take, take_all}
use Rattle.std.specs.Io.Take.{take_inner, take_limit, take_remaining}
use Rattle.std.specs.declared.io.Take.{Take}
use Rattle.round.specs.declared.table.Round.{Round}
use Rattle.text.specs.declared.refusal.Refusal.{Refusal}
use Rattle.text.specs.declared.fault.Fault.{Fault}
use Rattle.text.specs.Faults.{IsFault}
use Rattle.text.specs.Reading.{read_text}
use Rattle.cli.specs.Input.{IsRead, Suffices}

same : (text : List ℕ) → length text ≤ 16384 → read_text text ≡ read_text (take 16385 text)
same text small = ap read_text (sym (take_all 16385 text (omega arith)))

pub begun : (text : List ℕ) (r : Result Round Refusal) → IsRead (take 16385 text) r → IsRead text r
begun text (Ok round) h = let small : length text ≤ 16384 = (let h0 = h.0 in omega (arith, length-take 16385 text)) in (small, same text small ∙ h.1)
begun text (Err refusal) h = (λ big. h.0 (omega (arith, length-take 16385 text)), λ small. same text small ∙ h.1 (omega (arith, length-take 16385 text)))

pub fault-begun : (text : List ℕ) (x : Fault) → IsFault (take 16385 text) x → IsFault text x
fault-begun text x h = by_test _ refl
  where
    by_test : (b : Bool) → nat_le (length text) 16384 ≡ b → IsFault text x
    by_test true p = let small : length text ≤ 16384 = grind (arith, nat_tests, p) in subst (λ t. IsFault t x) (take_all 16385 text (omega arith)) h
    by_test false p = let big : 16384 < length text = grind (arith, nat_tests, p) in record {
      long = λ _. h.long (omega (arith, length-take 16385 text));
      refused = λ l. absurd (omega arith);
      stops = λ l. absurd (omega arith);
    }

-- the first 16,385 bytes that a reader has
pub read_through : {R : Type 0} (remaining : R → Option (List ℕ)) (reader : R) (t : Take R) (old new : List ℕ) → take_limit t ≡ 16385 → take_inner t ≡ reader → old ≡ []
    → IfSome (take_remaining remaining t) (λ xs. new ≡ old ++ xs) → IfSome (remaining reader) (λ text. new ≡ take 16385 text)
read_through remaining reader t old new l i o e = first (remaining reader) (rw (l, i, o) at e)
  where
    first : (o : Option (List ℕ)) → IfSome (option_map (take 16385) o) (λ xs. new ≡ xs) → IfSome o (λ text. new ≡ take 16385 text)
    first (Some text) e = e
    first None e = tt

-- are enough
pub enough : (o : Option (List ℕ)) (new : List ℕ) → IfSome o (λ text. new ≡ take 16385 text) → IfSome o (λ text. Suffices text new)
enough (Some text) new e = record { round = λ r h. begun text r (rw e at h); fault = λ x h. fault-begun text x (rw e at h) }
enough None new e = tt
