-- H_BULK_REMOVE shows C of each entry that it removes.
use Rattle.std.specs.Prelude.{IsTrue, ◌==◌, ◌&&◌, nat_lt, if◌then◌else◌}
use Rattle.std.proofs.Common.{◌≡◌, ℕ, ◌+◌, ◌/◌, ◌%◌, ◌^◌, List, [], ◌∷◌, Bool, true, false, ap, sym, ◌∙◌, refl, subst, ◌⊎◌, inl, inr, arith, Option, Some, None}
use Rattle.std.specs.List.{AllByRecursion}
use Rattle.std.proofs.lemmas.Bool.{cases_Bool, cond_both, eq-eqb, or_right}
use Rattle.papr_codes.specs.declared.codes.Rc.{Rc}
use Rattle.hpte_fields.specs.TableSize.{entry_count}
use Rattle.entry_model.specs.State.{State}
use Rattle.entry_model.specs.declared.operation.Answer.{Answer}
use Rattle.entry_model.specs.declared.operation.Test.{Test}
use Rattle.entry_model.specs.declared.receipt.Receipt.{Receipt}
use Rattle.entry_model.specs.declared.hreply.HReply.{HReply}
use Rattle.entry_model.specs.Receipt.{is_worn}
use Rattle.entry_model.specs.Trial.{Call, IsTrial, IsReplyOf}
use Rattle.call_plan.specs.declared.bulk.Asked.{Asked}
use Rattle.call_plan.specs.declared.bulk.Asked.TheVariants.{End, Remove, Refused}
use Rattle.call_plan.specs.Bulk.{Pair, pairs_of, type_of, flags_of, index_of, test_by, removes_under, asked_by, response, removed_status, status_of, is_removed_changed, pairs_show, calls_before, bulk_calls, words_after_answer, pair_told, bulk_told, h_bulk_remove_plan}
use Rattle.entry_model.specs.declared.operation.Answer.TheVariants as answers
use Rattle.entry_model.specs.declared.operation.Op.TheVariants as ops
use Rattle.entry_model.proofs.Trials.{not_worn}

-- The receipt is one of a removal; where it removed an entry that had C, a pair of the entry shows
-- it.
pub record ShowsRemoved (words : List ℕ) (r : Receipt) : Type 0 where
  pub test : Test
  pub op : r.op ≡ ops.Remove test
  pub shows :
      r.answer ≡ answers.Removed → r.before.changed ≡ true → IsTrue (pairs_show words r.entry)

-- ---- the entry that a pair names
abbrev Names : Asked → Pair → Type 0
Names (Remove entry test) p = index_of p.request ≡ entry
Names other p = Unit {0}

under_names : (p : Pair) (test : Option Test) → Names (removes_under (index_of p.request) test) p
under_names p None = tt
under_names p (Some test) = refl

asked_names : (order : ℕ) (p : Pair) → Names (asked_by order p) p
unfolding asked_by
asked_names order p =
    cond_both (type_of p.request == 3) End _ (λ asked. Names asked p) (λ _. tt)
    (λ _.
    cond_both ((type_of p.request == 1) && nat_lt (index_of p.request) (entry_count order)) _
    Refused (λ asked. Names asked p)
    (λ _. under_names p (test_by (flags_of p.request) p.word)) (λ _. tt))

-- ---- the word that a pair becomes
response_index : (status request : ℕ) → index_of (response status request) ≡ index_of request
response_index status request = omega arith

response_changed :
    (referenced : Bool) (request : ℕ)
    → (response (0x80 + (if referenced then 0x08 else 0) + 0x04) request / 2 ^ 58 % 2) ≡ 1
response_changed true request = omega arith
response_changed false request = omega arith

status_changed :
    (s : State) (request : ℕ)
    → s.changed ≡ true
    → is_removed_changed (response (removed_status s) request) ≡ true
status_changed s request changed =
    eq-eqb _ 1
    (ap
    (λ c.
    response (0x80 + (if s.referenced then 0x08 else 0) + (if c then 0x04 else 0)) request
    / 2 ^ 58 % 2) changed
    ∙ response_changed s.referenced request)

shown_first :
    (p : Pair) (words : List ℕ) (r : Receipt)
    → index_of p.request ≡ r.entry
    → r.answer ≡ answers.Removed
    → r.before.changed ≡ true
    → IsTrue
    (pairs_show (response (status_of r.answer r.before) p.request ∷ p.word ∷ words) r.entry)
shown_first p words r names removed changed =
    let status : status_of r.answer r.before ≡ removed_status r.before = ap
    (λ a. status_of a r.before) removed in
    let index : (index_of (response (status_of r.answer r.before) p.request) == r.entry) ≡ true =
    eq-eqb _ _ (response_index (status_of r.answer r.before) p.request ∙ names) in
    let bit : is_removed_changed (response (status_of r.answer r.before) p.request) ≡ true = ap
    (λ n. is_removed_changed (response n p.request)) status ∙ status_changed r.before p.request
    changed in
    rw (index, bit) refl

shown_later :
    (request word : ℕ) (words : List ℕ) (r : Receipt)
    → ShowsRemoved words r
    → ShowsRemoved (request ∷ word ∷ words) r
shown_later request word words r h =
    record {
      test = h.test;
      op = h.op;
      shows =
          λ removed changed.
          or_right ((index_of request == r.entry) && is_removed_changed request)
          (pairs_show words r.entry) (h.shows removed changed);
    }

each_later :
    (request word : ℕ) (words : List ℕ) (rs : List Receipt)
    → AllByRecursion (ShowsRemoved words) rs
    → AllByRecursion (ShowsRemoved (request ∷ word ∷ words)) rs
each_later request word words [] h = tt
each_later request word words (r ∷ rs) h =
    (shown_later request word words r h.0, each_later request word words rs h.1)

-- ---- the pairs, one after the other
worn_or_removed : (answer : Answer) → is_worn answer ≡ true → answer ≡ answers.Removed → ⊥
worn_or_removed answers.Worn worn removed = cc
worn_or_removed other worn removed = cc

pair_shows :
    (asked : Asked) (p : Pair) (ps : List Pair) (cs : List Call) (rs : List Receipt)
    (rest : List Receipt → Rc × List ℕ)
    → Names asked p
    → IsTrial not_worn (calls_before asked cs) rs
    →
    ((more : List Receipt)
    → IsTrial not_worn cs more
    → AllByRecursion (ShowsRemoved (rest more).1) more)
    → AllByRecursion (ShowsRemoved (pair_told asked p ps rs rest).1) rs
pair_shows End p ps cs [] rest names trial later = tt
pair_shows End p ps cs (r ∷ rs) rest names trial later = absurd trial
pair_shows Refused p ps cs [] rest names trial later = tt
pair_shows Refused p ps cs (r ∷ rs) rest names trial later = absurd trial
pair_shows (Remove entry test) p ps cs [] rest names trial later = absurd trial
pair_shows (Remove entry test) p ps cs (r ∷ rs) rest names trial later =
    at (cases_Bool (is_worn r.answer)) where
      at :
          (is_worn r.answer ≡ true) ⊎ (is_worn r.answer ≡ false)
          → AllByRecursion (ShowsRemoved (words_after_answer p r ps (rest rs)).1) (r ∷ rs)
      at (inl worn) =
          let none : rs ≡ [] = rw worn at trial.1 in
          let none_removed : r.answer ≡ answers.Removed → ⊥ = worn_or_removed r.answer worn in (
            record {
              test = test;
              op = trial.0.op;
              shows = λ removed changed. absurd (none_removed removed);
            },
            subst (AllByRecursion (ShowsRemoved (words_after_answer p r ps (rest rs)).1)) (sym none)
                tt,
          )
      at (inr fine) =
          let goes : IsTrial not_worn cs rs = rw fine at trial.1 in
          let told :
          (words_after_answer p r ps (rest rs)).1 ≡ response (status_of r.answer r.before)
          p.request ∷ p.word ∷ (rest rs).1 = rw fine refl in
          let first : ShowsRemoved
          (response (status_of r.answer r.before) p.request ∷ p.word ∷ (rest rs).1) r = record {
            test = test;
            op = trial.0.op;
            shows = shown_first p (rest rs).1 r (names ∙ sym trial.0.entry);
          } in
          subst (λ ws. AllByRecursion (ShowsRemoved ws) (r ∷ rs)) (sym told) (
            first,
            each_later (response (status_of r.answer r.before) p.request) p.word (rest rs).1 rs
                (later rs goes),
          )

bulk_shows :
    (order : ℕ) (ps : List Pair) (rs : List Receipt)
    → IsTrial not_worn (bulk_calls order ps) rs
    → AllByRecursion (ShowsRemoved (bulk_told order ps rs).1) rs
unfolding bulk_calls bulk_told
bulk_shows order [] [] trial = tt
bulk_shows order [] (r ∷ rs) trial = absurd trial
bulk_shows order (p ∷ ps) rs trial =
    pair_shows (asked_by order p) p ps (bulk_calls order ps) rs (bulk_told order ps)
    (asked_names order p) trial (bulk_shows order ps)

pub removals_shown :
    (order : ℕ) (args : List ℕ) (reply : HReply)
    → IsReplyOf (h_bulk_remove_plan order args) reply
    → AllByRecursion (ShowsRemoved reply.words) reply.receipts
unfolding h_bulk_remove_plan
removals_shown order args reply is =
    subst (λ words. AllByRecursion (ShowsRemoved words) reply.receipts)
    (sym (ap (λ (x : Rc × List ℕ). x.1) is.told))
    (bulk_shows order (pairs_of args) reply.receipts is.trial)
