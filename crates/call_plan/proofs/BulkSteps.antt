-- One step of H_BULK_REMOVE: a pair, with what completes the pairs after it.
use Rattle.std.proofs.Common.{◌≡◌, ℕ, ◌+◌, ◌-◌, ◌*◌, ◌%◌, ◌^◌, ◌<◌, ◌≤◌, ◌==◌, List, [], ◌∷◌, ◌++◌, true, false, Option, Some, None, ◌⊎◌, inl, inr, nat_lt, arith, ap, sym, ◌∙◌, refl, subst, length, length-drop, take, drop, get_or, append_assoc, append-nil}
use Rattle.std.proofs.lemmas.Bool.{cases_Bool, ltb-true}
use Rattle.std.proofs.lemmas.List.{drop_more, drop_all, take_rest}
use Rattle.papr_codes.specs.declared.codes.Rc.{Rc}
use Rattle.entry_model.specs.declared.operation.Test.{Test}
use Rattle.entry_model.specs.declared.operation.Answer.{Answer}
use Rattle.entry_model.specs.contracts.operation.Answer.{the_type}
use Rattle.entry_model.specs.declared.operation.Answer.TheVariants.{Entered, Taken, Removed, Protected, Was, Words, NotFound, NoMatch, Denied, Masked, At, Worn}
use Rattle.entry_model.specs.declared.receipt.Receipt.{Receipt}
use Rattle.entry_model.specs.Receipt.{IsReceiptOf, is_worn}
use Rattle.entry_model.specs.Trial.{Call, IsTrial, IsReplyOf}
use Rattle.call_plan.specs.declared.bulk.Asked.{Asked}
use Rattle.call_plan.specs.declared.bulk.Asked.TheVariants.{End, Remove, Refused}
use Rattle.call_plan.specs.Bulk.{Pair, pairs_of, type_of, flags_of, index_of, test_by, removes_under, asked_by, bulk_calls, bulk_told, response, status_of, worn_status, ill_formed, words_of_pairs, words_before, h_bulk_remove_plan}
use Rattle.papr_codes.specs.declared.codes.Rc.TheVariants as rc
use Rattle.entry_model.specs.declared.operation.Op.TheVariants as ops
use denote.Enum.Bare.{sameb}
use Rattle.entry_model.proofs.Trials.{not_worn}

-- A request and its word as a pair.
abbrev pub pair : ℕ → ℕ → Pair
pair request word = record { request = request; word = word }

-- The calls and the reply of the pairs that these words are.
abbrev pub calls_of : ℕ → List ℕ → List Call
calls_of order words = bulk_calls order (pairs_of words)

-- The code and the words that the pairs of these words give with these receipts.
abbrev pub told_of : ℕ → List ℕ → List Receipt → Rc × List ℕ
told_of order words rs = bulk_told order (pairs_of words) rs

-- Words put before those of the pairs that follow.
abbrev pub after_words : List ℕ → Rc × List ℕ → Rc × List ℕ
after_words words rest = (rest.0, words ++ rest.1)

-- ---- the words of the pairs from the i-th on
-- The words without those of the first i pairs.
abbrev pub words_from : ℕ → List ℕ → List ℕ
words_from i words = drop (2 * i) words

-- The first pair, and the pairs after it.
pub first_pair :
    (i : ℕ) (words : List ℕ)
    → length words ≡ 8
    → i < 4
    → words_from i words
    ≡ get_or words (2 * i) 0 ∷ get_or words (2 * i + 1) 0 ∷ words_from (i + 1) words
first_pair i words eight h =
    let next : 2 * i + 1 + 1 ≡ 2 * (i + 1) = omega arith in
    drop_more words (2 * i) 0 (omega arith)
    ∙ ap (λ ws. get_or words (2 * i) 0 ∷ ws)
    (drop_more words (2 * i + 1) 0 (omega arith)
    ∙ ap (λ n. get_or words (2 * i + 1) 0 ∷ drop n words) next)

-- The words after the first one.
pub second_word_on :
    (i : ℕ) (words : List ℕ)
    → length words ≡ 8
    → i < 4
    → drop (2 * i + 1) words ≡ get_or words (2 * i + 1) 0 ∷ words_from (i + 1) words
second_word_on i words eight h =
    let next : 2 * i + 1 + 1 ≡ 2 * (i + 1) = omega arith in
    drop_more words (2 * i + 1) 0 (omega arith)
    ∙ ap (λ n. get_or words (2 * i + 1) 0 ∷ drop n words) next

-- Whole pairs are the words that they came from.
unchanged_even : (words : List ℕ) → length words % 2 ≡ 0 → words_of_pairs (pairs_of words) ≡ words
unchanged_even [] even = refl
unchanged_even (request ∷ []) even = absurd (omega arith)
unchanged_even (request ∷ word ∷ rest) even =
    ap (λ ws. request ∷ word ∷ ws) (unchanged_even rest (omega arith))

pub unchanged-words_from :
    (i : ℕ) (words : List ℕ)
    → length words ≡ 8
    → words_of_pairs (pairs_of (words_from i words)) ≡ words_from i words
unchanged-words_from i words eight =
    unchanged_even (words_from i words) (omega (arith, length-drop (2 * i) words))

-- ---- one pair
pub end_trial :
    (order request word : ℕ) (later : List ℕ)
    → asked_by order (pair request word) ≡ End
    → IsTrial not_worn (calls_of order (request ∷ word ∷ later)) []
unfolding bulk_calls
end_trial order request word later asks = rw asks tt

pub end_told :
    (order request word : ℕ) (later : List ℕ) (rs : List Receipt)
    → asked_by order (pair request word) ≡ End
    → told_of order (request ∷ word ∷ later) rs
    ≡ (rc.Success, request ∷ word ∷ words_of_pairs (pairs_of later))
unfolding bulk_told
end_told order request word later rs asks = rw asks refl

pub refused_trial :
    (order request word : ℕ) (later : List ℕ)
    → asked_by order (pair request word) ≡ Refused
    → IsTrial not_worn (calls_of order (request ∷ word ∷ later)) []
unfolding bulk_calls
refused_trial order request word later asks = rw asks tt

pub refused_told :
    (order request word : ℕ) (later : List ℕ) (rs : List Receipt)
    → asked_by order (pair request word) ≡ Refused
    → told_of order (request ∷ word ∷ later) rs
    ≡ (rc.Parameter, response ill_formed request ∷ word ∷ words_of_pairs (pairs_of later))
unfolding bulk_told
refused_told order request word later rs asks = rw asks refl

pub worn_trial :
    (order request word : ℕ) (later : List ℕ) (entry : ℕ) (test : Test) (r : Receipt)
    → asked_by order (pair request word) ≡ Remove entry test
    → IsReceiptOf entry (ops.Remove test) r
    → is_worn r.answer ≡ true
    → IsTrial not_worn (calls_of order (request ∷ word ∷ later)) (r ∷ [])
unfolding bulk_calls
worn_trial order request word later entry test r asks of worn = rw asks (of, rw worn refl)

pub worn_told :
    (order request word : ℕ) (later : List ℕ) (entry : ℕ) (test : Test) (r : Receipt)
    (rs : List Receipt)
    → asked_by order (pair request word) ≡ Remove entry test
    → is_worn r.answer ≡ true
    → told_of order (request ∷ word ∷ later) (r ∷ rs)
    ≡ (rc.Hardware, response worn_status request ∷ word ∷ words_of_pairs (pairs_of later))
unfolding bulk_told
worn_told order request word later entry test r rs asks worn = rw (asks, worn) refl

pub goes_trial :
    (order request word : ℕ) (later : List ℕ) (entry : ℕ) (test : Test) (r : Receipt)
    (rs : List Receipt)
    → asked_by order (pair request word) ≡ Remove entry test
    → IsReceiptOf entry (ops.Remove test) r
    → is_worn r.answer ≡ false
    → IsTrial not_worn (calls_of order later) rs
    → IsTrial not_worn (calls_of order (request ∷ word ∷ later)) (r ∷ rs)
unfolding bulk_calls
goes_trial order request word later entry test r rs asks of goes rest = rw asks (of, rw goes rest)

pub goes_told :
    (order request word : ℕ) (later : List ℕ) (entry : ℕ) (test : Test) (r : Receipt)
    (rs : List Receipt)
    → asked_by order (pair request word) ≡ Remove entry test
    → is_worn r.answer ≡ false
    → told_of order (request ∷ word ∷ later) (r ∷ rs)
    ≡ words_before (response (status_of r.answer r.before) request) word (told_of order later rs)
unfolding bulk_told
goes_told order request word later entry test r rs asks goes = rw (asks, goes) refl

-- ---- the table
removes_entry :
    (index : ℕ) (asks : Option Test) (entry : ℕ) (test : Test)
    → removes_under index asks ≡ Remove entry test
    → index ≡ entry
removes_entry index None entry test h = cc
removes_entry index (Some t) entry test h = cc

-- What is removed is an entry of the table.
pub asked_in_table :
    (order : ℕ) (p : Pair) (entry : ℕ) (test : Test)
    → asked_by order p ≡ Remove entry test
    → entry < 2 ^ (order - 4)
unfolding asked_by
asked_in_table order p entry test h =
    at (cases_Bool (type_of p.request == 3)) (cases_Bool (type_of p.request == 1))
    (cases_Bool (nat_lt (index_of p.request) (2 ^ (order - 4)))) where
      at :
          ((type_of p.request == 3) ≡ true) ⊎ ((type_of p.request == 3) ≡ false)
          → ((type_of p.request == 1) ≡ true) ⊎ ((type_of p.request == 1) ≡ false)
          → (nat_lt (index_of p.request) (2 ^ (order - 4)) ≡ true)
          ⊎ (nat_lt (index_of p.request) (2 ^ (order - 4)) ≡ false)
          → entry < 2 ^ (order - 4)
      at (inl e) b l = let no : End ≡ Remove entry test = rw e at h in cc
      at (inr n) (inr b) l = let no : Refused ≡ Remove entry test = rw (n, b) at h in cc
      at (inr n) (inl b) (inr l) = let no : Refused ≡ Remove entry test = rw (n, b, l) at h in cc
      at (inr n) (inl b) (inl l) =
          let same : index_of p.request ≡ entry = removes_entry (index_of p.request)
          (test_by (flags_of p.request) p.word) entry test (rw (n, b, l) at h) in
          subst (λ e. e < 2 ^ (order - 4)) same (ltb-true _ _ l)

-- ---- the pairs so far
-- What completes the pairs from the i-th on completes the call.
pub record IsSoFar (order i : ℕ) (pairs words : List ℕ) (receipts : List Receipt) : Type 0 where
  pub trial :
      (rs : List Receipt)
      → IsTrial not_worn (calls_of order (words_from i pairs)) rs
      → IsTrial not_worn (calls_of order pairs) (receipts ++ rs)
  pub told :
      (rs : List Receipt)
      → told_of order pairs (receipts ++ rs)
      ≡ after_words words (told_of order (words_from i pairs) rs)

-- The reply of the call, where the pairs from the i-th on have this trial and tell this.
closes :
    (order i : ℕ) (pairs words : List ℕ) (receipts : List Receipt) (rest last : List ℕ)
    (more : List Receipt) (code : Rc)
    → IsSoFar order i pairs words receipts
    → words_from i pairs ≡ rest
    → IsTrial not_worn (calls_of order rest) more
    → told_of order rest more ≡ (code, last)
    → IsReplyOf (h_bulk_remove_plan order pairs)
    (record { rc = code; words = words ++ last; receipts = receipts ++ more })
unfolding h_bulk_remove_plan
closes order i pairs words receipts rest last more code so_far is trial told =
    record {
      trial =
          so_far.trial more
          (subst (λ ws. IsTrial not_worn (calls_of order ws) more) (sym is) trial);
      told =
          sym
          (so_far.told more
          ∙ ap (λ ws. after_words words (told_of order ws more)) is
          ∙ ap (after_words words) told);
    }

-- The words that a reply ends with.
pub words_to_end :
    (n : ℕ) (pairs : List ℕ) → length pairs ≡ 8 → take (8 - n) (drop n pairs) ≡ drop n pairs
words_to_end n pairs eight =
    subst (λ m. take (m - n) (drop n pairs) ≡ drop n pairs) eight (take_rest pairs n)

-- ---- how a call ends
-- What the i-th of these pairs of words, counted from 0, asks of a table of this order.
abbrev pub asked_at : ℕ → ℕ → List ℕ → Asked
asked_at order i pairs = asked_by order (pair (get_or pairs (2 * i) 0) (get_or pairs (2 * i + 1) 0))

pub ends_at_end :
    (order i : ℕ) (pairs words : List ℕ) (receipts : List Receipt)
    → length pairs ≡ 8
    → i < 4
    → End ≡ asked_at order i pairs
    → IsSoFar order i pairs words receipts
    → IsReplyOf (h_bulk_remove_plan order pairs)
    (record {
      rc = rc.Success;
      words = words ++ take (8 - 2 * i) (drop (2 * i) pairs);
      receipts = receipts;
    })
ends_at_end order i pairs words receipts eight h asks so_far =
    let first = first_pair i pairs eight h in
    let stay = words_to_end (2 * i) pairs eight ∙ first ∙ ap
    (λ ws. get_or pairs (2 * i) 0 ∷ get_or pairs (2 * i + 1) 0 ∷ ws)
    (sym (unchanged-words_from (i + 1) pairs eight)) in
    subst
    (λ (z : List ℕ × List Receipt).
    IsReplyOf (h_bulk_remove_plan order pairs)
    (record { rc = rc.Success; words = words ++ z.0; receipts = z.1 }))
    (λ k. (sym stay k, append-nil receipts k))
    (closes order i pairs words receipts _ _ [] rc.Success so_far first
    (end_trial order _ _ _ (sym asks)) (end_told order _ _ _ [] (sym asks)))

-- A response, and the words after it, which stay.
pub response_and_rest :
    (i answer : ℕ) (pairs words : List ℕ)
    → length pairs ≡ 8
    → i < 4
    → words
    ++ (answer ∷ get_or pairs (2 * i + 1) 0 ∷ words_of_pairs (pairs_of (words_from (i + 1) pairs)))
    ≡ (words ++ answer ∷ []) ++ take (8 - (2 * i + 1)) (drop (2 * i + 1) pairs)
response_and_rest i answer pairs words eight h =
    let words_before : take (8 - (2 * i + 1)) (drop (2 * i + 1) pairs) ≡ get_or pairs (2 * i + 1) 0
    ∷ words_of_pairs (pairs_of (words_from (i + 1) pairs)) = words_to_end (2 * i + 1) pairs
    eight ∙ second_word_on i pairs eight h ∙ ap (λ ws. get_or pairs (2 * i + 1) 0 ∷ ws)
    (sym (unchanged-words_from (i + 1) pairs eight)) in
    sym
    (append_assoc words (answer ∷ []) (take (8 - (2 * i + 1)) (drop (2 * i + 1) pairs))
    ∙ ap (λ ws. words ++ (answer ∷ ws)) words_before)

pub ends_at_refused :
    (order i : ℕ) (pairs words : List ℕ) (receipts : List Receipt)
    → length pairs ≡ 8
    → i < 4
    → asked_at order i pairs ≡ Refused
    → IsSoFar order i pairs words receipts
    → IsReplyOf (h_bulk_remove_plan order pairs)
    (record {
      rc = rc.Parameter;
      words =
          (words ++ response ill_formed (get_or pairs (2 * i) 0) ∷ [])
          ++ take (8 - (2 * i + 1)) (drop (2 * i + 1) pairs);
      receipts = receipts;
    })
ends_at_refused order i pairs words receipts eight h asks so_far =
    subst
    (λ (z : List ℕ × List Receipt).
    IsReplyOf (h_bulk_remove_plan order pairs)
    (record { rc = rc.Parameter; words = z.0; receipts = z.1 }))
    (λ k. (
      response_and_rest i (response ill_formed (get_or pairs (2 * i) 0)) pairs words eight h k,
      append-nil receipts k,
    ))
    (closes order i pairs words receipts _ _ [] rc.Parameter so_far (first_pair i pairs eight h)
    (refused_trial order _ _ _ asks) (refused_told order _ _ _ [] asks))

pub ends_at_worn :
    (order i : ℕ) (pairs words : List ℕ) (receipts : List Receipt) (entry : ℕ) (test : Test)
    (r : Receipt)
    → length pairs ≡ 8
    → i < 4
    → Remove entry test ≡ asked_at order i pairs
    → IsReceiptOf entry (ops.Remove test) r
    → is_worn r.answer ≡ true
    → IsSoFar order i pairs words receipts
    → IsReplyOf (h_bulk_remove_plan order pairs)
    (record {
      rc = rc.Hardware;
      words =
          (words ++ response worn_status (get_or pairs (2 * i) 0) ∷ [])
          ++ take (8 - (2 * i + 1)) (drop (2 * i + 1) pairs);
      receipts = receipts ++ r ∷ [];
    })
ends_at_worn order i pairs words receipts entry test r eight h asks of worn so_far =
    subst
    (λ ws.
    IsReplyOf (h_bulk_remove_plan order pairs)
    (record { rc = rc.Hardware; words = ws; receipts = receipts ++ r ∷ [] }))
    (response_and_rest i (response worn_status (get_or pairs (2 * i) 0)) pairs words eight h)
    (closes order i pairs words receipts _ _ (r ∷ []) rc.Hardware so_far
    (first_pair i pairs eight h) (worn_trial order _ _ _ entry test r (sym asks) of worn)
    (worn_told order _ _ _ entry test r [] (sym asks) worn))

pub ends_behind_all :
    (order i : ℕ) (pairs words : List ℕ) (receipts : List Receipt)
    → length pairs ≡ 8
    → 4 ≤ i
    → IsSoFar order i pairs words receipts
    → IsReplyOf (h_bulk_remove_plan order pairs)
    (record { rc = rc.Success; words = words ++ []; receipts = receipts })
unfolding bulk_calls bulk_told
ends_behind_all order i pairs words receipts eight h so_far =
    subst
    (λ rs.
    IsReplyOf (h_bulk_remove_plan order pairs)
    (record { rc = rc.Success; words = words ++ []; receipts = rs })) (append-nil receipts)
    (closes order i pairs words receipts [] [] [] rc.Success so_far
    (drop_all (2 * i) pairs (omega arith)) tt refl)

-- ---- how it goes on
pub goes_on :
    (order i : ℕ) (pairs words : List ℕ) (receipts : List Receipt) (entry : ℕ) (test : Test)
    (r : Receipt)
    → length pairs ≡ 8
    → i < 4
    → Remove entry test ≡ asked_at order i pairs
    → IsReceiptOf entry (ops.Remove test) r
    → is_worn r.answer ≡ false
    → IsSoFar order i pairs words receipts
    → IsSoFar order (i + 1) pairs
    ((words ++ response (status_of r.answer r.before) (get_or pairs (2 * i) 0) ∷ [])
    ++ get_or pairs (2 * i + 1) 0
    ∷ []) (receipts ++ r ∷ [])
goes_on order i pairs words receipts entry test r eight h asks of goes so_far =
    let first = first_pair i pairs eight h in
    let request = get_or pairs (2 * i) 0 in
    let word = get_or pairs (2 * i + 1) 0 in
    let answer = response (status_of r.answer r.before) request in
    let later = words_from (i + 1) pairs in
    record {
      trial =
          λ rs rest.
          subst (IsTrial not_worn (calls_of order pairs)) (sym (append_assoc receipts (r ∷ []) rs))
          (so_far.trial (r ∷ rs)
          (subst (λ ws. IsTrial not_worn (calls_of order ws) (r ∷ rs)) (sym first)
          (goes_trial order request word later entry test r rs (sym asks) of goes
          rest)));
      told = λ rs.
          let told : told_of order (words_from i pairs) (r ∷ rs) ≡ words_before answer word
          (told_of order later rs) = ap (λ ws. told_of order ws (r ∷ rs)) first ∙ goes_told
          order request word later entry test r rs (sym asks) goes in
          let regrouped : words ++ (answer ∷ word ∷ (told_of order later rs).1) ≡
          ((words ++ answer ∷ []) ++ word ∷ []) ++ (told_of order later rs).1 = sym
          (append_assoc (words ++ answer ∷ []) (word ∷ []) (told_of order later rs).1
          ∙ append_assoc words (answer ∷ []) (word ∷ (told_of order later rs).1)) in
          ap (told_of order pairs) (append_assoc receipts (r ∷ []) rs)
          ∙ so_far.told (r ∷ rs)
          ∙ ap (after_words words) told
          ∙ (λ k. ((told_of order later rs).0, regrouped k));
    }

-- ---- answers
pub same_worn : (answer : Answer) → sameb the_type answer Worn ≡ is_worn answer
same_worn Entered = refl
same_worn Taken = refl
same_worn Removed = refl
same_worn Protected = refl
same_worn Was = refl
same_worn Words = refl
same_worn NotFound = refl
same_worn NoMatch = refl
same_worn Denied = refl
same_worn Masked = refl
same_worn At = refl
same_worn Worn = refl
