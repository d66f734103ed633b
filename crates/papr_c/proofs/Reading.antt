-- H_READ's words, entry by entry.
use Rattle.std.specs.Prelude.{flat_map}
use Rattle.std.proofs.Common.{◌≡◌, ℕ, zero, suc, ◌+◌, ◌*◌, List, [], ◌∷◌, ◌++◌, length, set, true, false, arith, subst, sym, ap, ◌∙◌, refl}
use Rattle.std.proofs.lemmas.List.{set-get_or}
use Rattle.entry_model.specs.State.{State, empty_state}
use Rattle.entry_model.specs.Reply.{words_of}
use Rattle.entry_model.specs.Run.{state_at, states_after}
use Rattle.entry_model.specs.Trial.{call, receipt_at, trial_run}
use Rattle.entry_model.specs.declared.operation.Op.TheVariants.{Read}
use Rattle.entry_model.specs.declared.receipt.Receipt.{Receipt}
use Rattle.entry_model.proofs.TrialSteps.{calls_from}
use Rattle.call_plan.specs.Single.{both_words}
use Rattle.c_layout.specs.Slots.{placed}
use Rattle.c_layout.specs.Stale.{any_stale}
use Rattle.papr_c.specs.Tried.{words_of_entries}
use Rattle.c_layout.proofs.Filling.{placed-append}

-- The trial that reads entries.
abbrev pub read_all : ℕ → ℕ → List State → List Receipt × List State
read_all first count a = trial_run (λ answer. true) a (calls_from Read first count)

-- Both doublewords of an entry, as numbers.
abbrev pair_at : List State → ℕ → List ℕ
pair_at a e = (words_of (state_at a e)).0 ∷ (words_of (state_at a e)).1 ∷ []

-- What reads leave of the entries, and what their receipts show.
pub record IsRead (a : List State) (first count : ℕ) : Type 0 where
  pub entries : (read_all first count a).1 ≡ a
  pub words : flat_map both_words (read_all first count a).0 ≡ words_of_entries a first count
  pub many : length (read_all first count a).0 ≡ count
  pub fresh : any_stale (read_all first count a).0 ≡ false

pub reads : (a : List State) (first count : ℕ) → IsRead a first count
unfolding trial_run any_stale
reads a first zero = record { entries = refl; words = refl; many = refl; fresh = refl }
reads a first (suc count) =
    let r = receipt_at a (call Read first) in
    let cs = calls_from Read (first + 1) count in
    let stays : states_after a r ≡ a = set-get_or a first (empty_state 0) in
    let rest = reads a (first + 1) count in
    record {
      entries = subst (λ b. (trial_run (λ answer. true) b cs).1 ≡ a) (sym stays) rest.entries;
      words =
          subst
          (λ b.
          both_words r ++ flat_map both_words (trial_run (λ answer. true) b cs).0
          ≡ words_of_entries a first (suc count)) (sym stays)
          (ap (λ ws. both_words r ++ ws) rest.words);
      many =
          subst (λ b. suc (length (trial_run (λ answer. true) b cs).0) ≡ suc count) (sym stays)
          (ap suc rest.many);
      fresh =
          subst (λ b. any_stale (trial_run (λ answer. true) b cs).0 ≡ false) (sym stays) rest.fresh;
    }

pub words-length :
    (a : List State) (first count : ℕ) → length (words_of_entries a first count) ≡ 2 * count
words-length a first zero = refl
words-length a first (suc count) = omega (arith, words-length a (first + 1) count)

-- With one entry more its two doublewords come after the others.
words-more :
    (a : List State) (first i : ℕ)
    → words_of_entries a first (i + 1) ≡ words_of_entries a first i ++ pair_at a (first + i)
words-more a first zero = let e : first ≡ first + 0 = omega arith in ap (pair_at a) e
words-more a first (suc i) =
    let n : suc i + 1 ≡ suc (i + 1) = omega arith in
    let e : (first + 1) + i ≡ first + suc i = omega arith in
    ap (words_of_entries a first) n
    ∙ ap (λ ws. pair_at a first ++ ws)
    (words-more a (first + 1) i ∙ ap (λ q. words_of_entries a (first + 1) i ++ pair_at a q) e)

pub put_more :
    (a : List State) (first i : ℕ) (old now : List ℕ) (x y : ℕ)
    → (x, y) ≡ words_of (state_at a (first + i))
    → now ≡ placed old 0 (words_of_entries a first i)
    → set (set now (2 * i) x) (2 * i + 1) y ≡ placed old 0 (words_of_entries a first (i + 1))
put_more a first i old now x y read is =
    let at : 0 + length (words_of_entries a first i) ≡ 2 * i = omega (arith, words-length a first i)
    in
    sym
    (ap (placed old 0) (words-more a first i)
    ∙ placed-append (words_of_entries a first i) (pair_at a (first + i)) old 0
    ∙ (λ k. set (set (sym is k) (at k) (sym read k).0) (at k + 1) (sym read k).1))
