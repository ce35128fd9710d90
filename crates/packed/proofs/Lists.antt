-- Calls one by one, and their answers.
use Rattle.std.proofs.Common.{◌≡◌, ℕ, zero, suc, ◌+◌, ◌-◌, ◌*◌, ◌/◌, ◌%◌, ◌<◌, ◌&&◌, false, List, [], ◌∷◌, ◌++◌, length, Option, Some, IsSome, is_some, unwrap_or, refl, ap, add-one, arith}
use Rattle.std.proofs.lemmas.Bool.Decides.{nat_tests}
use Rattle.std.proofs.lemmas.Grind.{common_steps}
use Rattle.rules.specs.Sides.{SideState}
use Rattle.layers.specs.Settings.{Setting}
use Rattle.layers.specs.Calls.{answer_of, after_call, after_calls}
use Rattle.packed.specs.Answers.{word_of, answers}
use Rattle.packed.specs.Requests.{Request, request_at, with_last, first_requests, requests_of, requests_in}
use Rattle.packed.specs.Senses.{Recs}

first-more : (bs : List ℕ) (k : ℕ) → first_requests bs (k + 1) ≡ with_last (first_requests bs k) (request_at bs (k * 16))
unfolding first_requests
first-more bs k = ap (first_requests bs) (add-one k)

some-last : (o : Option (List Request)) (c : Option Request) → is_some (with_last o c) ≡ (is_some o && is_some c)
some-last o c = grind (arith, common_steps)

-- bytes are calls up to the next place if they are up to a place, and a call stands there
pub some_more : (bs : List ℕ) (k : ℕ) → is_some (first_requests bs (k + 1)) ≡ (is_some (first_requests bs k) && is_some (request_at bs (k * 16)))
some_more bs k = rw (first-more bs k) (some-last (first_requests bs k) (request_at bs (k * 16)))

some-first : (bs : List ℕ) (k m : ℕ) → IsSome (first_requests bs (k + m)) → IsSome (first_requests bs k)
some-first bs k zero h = grind arith
some-first bs k (suc m) h = grind (arith, some_more bs (k + m), some-first bs k m)

-- each of the calls that the bytes are
pub taken : (bs : List ℕ) (k : ℕ) → IsSome (requests_of bs) → k < length bs / 16 → IsSome (first_requests bs k) × IsSome (request_at bs (k * 16))
taken bs k there h = grind (arith, nat_tests, some_more bs k, some-first bs (k + 1) (length bs / 16 - (k + 1)))

-- a call that is none spoils the bytes
pub no_requests : (bs : List ℕ) (k : ℕ) → is_some (request_at bs (k * 16)) ≡ false → k < length bs / 16 → is_some (requests_of bs) ≡ false
no_requests bs k e h = grind (arith, taken bs k)

pub unwrap-more : (bs : List ℕ) (k : ℕ) (d : Request) → IsSome (first_requests bs k) → request_at bs (k * 16) ≡ Some d
    → unwrap_or (first_requests bs (k + 1)) [] ≡ unwrap_or (first_requests bs k) [] ++ d ∷ []
unwrap-more bs k d h e = rw (first-more bs k) (go (first_requests bs k) (request_at bs (k * 16)) h e)
  where
    go : (o : Option (List Request)) (c : Option Request) → IsSome o → c ≡ Some d → unwrap_or (with_last o c) [] ≡ unwrap_or o [] ++ d ∷ []
    go o c h e = grind (arith, common_steps)

-- there are as many as are taken
pub length-first : (bs : List ℕ) (k : ℕ) → IsSome (first_requests bs k) → length (unwrap_or (first_requests bs k) []) ≡ k
unfolding first_requests
length-first bs zero h = refl
length-first bs (suc k) h = go (first_requests bs k) (request_at bs (k * 16)) (length-first bs k) h
  where
    go : (o : Option (List Request)) (c : Option Request) → (IsSome o → length (unwrap_or o []) ≡ k) → IsSome (with_last o c) → length (unwrap_or (with_last o c) []) ≡ suc k
    go o c f h = grind (arith, common_steps)

-- the calls are 16 bytes each
pub length-requests : (bs : List ℕ) → IsSome (requests_of bs) → (length bs % 16 ≡ 0) × (length (requests_in bs) ≡ length bs / 16)
length-requests bs h = grind (arith, nat_tests, length-first bs (length bs / 16))

module _ (by : Setting SideState (ℕ × ℕ)) where
  pub run-more : (cs : List Request) (c : Request) (xs : Recs) → after_calls by (cs ++ c ∷ []) xs ≡ after_call by c (after_calls by cs xs)
  run-more [] c xs = refl
  run-more (b ∷ cs) c xs = run-more cs c (after_call by b xs)

  pub answers-more : (cs : List Request) (c : Request) (xs : Recs)
      → answers by (cs ++ c ∷ []) xs ≡ answers by cs xs ++ word_of (answer_of by c (after_calls by cs xs)) ∷ []
  unfolding answers
  answers-more [] c xs = refl
  answers-more (b ∷ cs) c xs = ap (λ ws. word_of (answer_of by b xs) ∷ ws) (answers-more cs c (after_call by b xs))

  pub length-answers : (cs : List Request) (xs : Recs) → length (answers by cs xs) ≡ length cs
  unfolding answers
  length-answers [] xs = refl
  length-answers (c ∷ cs) xs = grind (arith, length-answers cs (after_call by c xs))
