-- A walk from the searches of its two groups.
use Rattle.std.specs.Prelude.{IfSome, IsNone, ◌↔◌, IsTrue}
use Rattle.std.proofs.Common.{◌≡◌, ℕ, ◌+◌, ◌-◌, ◌*◌, ◌^◌, ◌<◌, ◌≤◌, List, [], ◌∷◌, ◌++◌, length, true, false, Option, Some, None, arith, ap, sym, ◌∙◌, refl, subst, pow-add}
use Rattle.std.specs.List.{AllByRecursion, range_with_len}
use Rattle.entry_model.proofs.PlanBounds.{each_call}
use Rattle.power_addr.specs.Pages.{VirtualPage}
use Rattle.hpt_hash.specs.Hash.{group_of}
use Rattle.hpte_fields.specs.TableSize.{group_count, least_order}
use Rattle.entry_model.specs.declared.operation.Op.{Op}
use Rattle.entry_model.specs.declared.receipt.Receipt.{Receipt}
use Rattle.entry_model.specs.Receipt.{is_no_match, is_decided, found_of}
use Rattle.entry_model.specs.CachedLines.{ShowsLine, line_of}
use Rattle.entry_model.specs.Trial.{Call, IsTrial}
use Rattle.hpt_walk.specs.Walk.{access_op, group_calls, walk_calls, AreAllNoMatch}
use Rattle.hpt_walk.specs.Translations.{TranslatesItsPage}
use Rattle.hpt_walk.proofs.Found.{trial_ends, trial_joined, each_of_none, none_of_each, trial_whole, found_has, found_shows, trial_ops}
use Rattle.hpt_walk.proofs.Decided.{Decides, IsOfPage, receipt_decides, decided_off}
use Rattle.entry_model.specs.Reply.{AccessMode}
use Rattle.basics.proofs.Each.{each_append}

-- The eight entries of a group lie in the table.
pub group_in_table :
    (order group : ℕ)
    → least_order ≤ order
    → group < group_count order
    → group * 8 + 8 ≤ 2 ^ (order - 4)
group_in_table order group low h =
    let split : order - 4 ≡ (order - 7) + 3 = omega arith in
    let eight : 2 ^ (order - 4) ≡ 2 ^ (order - 7) * 2 ^ 3 = ap (λ n. 2 ^ n) split ∙ pow-add 2
    (order - 7) 3 in
    omega arith

-- ---- the two searches
calls_are :
    (order : ℕ) (page : VirtualPage) (mode : AccessMode) (op₁ op₂ : Op) (g₁ g₂ : ℕ)
    → op₁ ≡ access_op page mode false
    → g₁ ≡ group_of page order false
    → op₂ ≡ access_op page mode true
    → g₂ ≡ group_of page order true
    → group_calls op₁ g₁ ++ group_calls op₂ g₂ ≡ walk_calls order page mode
unfolding walk_calls
calls_are order page mode op₁ op₂ g₁ g₂ a b c d =
    λ i. group_calls (a i) (b i) ++ group_calls (c i) (d i)

pub walk_ends :
    (order : ℕ) (page : VirtualPage) (mode : AccessMode) (op : Op) (g : ℕ) (rs : List Receipt)
    (x : Receipt)
    → op ≡ access_op page mode false
    → g ≡ group_of page order false
    → IsTrial is_no_match (group_calls op g) rs
    → found_of rs ≡ Some x
    → IsTrial is_no_match (walk_calls order page mode) rs
walk_ends order page mode op g rs x a b s found =
    let op₂ : Op = access_op page mode true in
    let g₂ : ℕ = group_of page order true in
    subst (λ cs. IsTrial is_no_match cs rs) (calls_are order page mode op op₂ g g₂ a b refl refl)
    (trial_ends (group_calls op g) (group_calls op₂ g₂) rs x s found)

pub walk_joined :
    (order : ℕ) (page : VirtualPage) (mode : AccessMode) (op₁ op₂ : Op) (g₁ g₂ : ℕ)
    (rs ss : List Receipt)
    → op₁ ≡ access_op page mode false
    → g₁ ≡ group_of page order false
    → op₂ ≡ access_op page mode true
    → g₂ ≡ group_of page order true
    → IsTrial is_no_match (group_calls op₁ g₁) rs
    → found_of rs ≡ None
    → IsTrial is_no_match (group_calls op₂ g₂) ss
    → IsTrial is_no_match (walk_calls order page mode) (rs ++ ss)
walk_joined order page mode op₁ op₂ g₁ g₂ rs ss a b c d s none t =
    subst (λ cs. IsTrial is_no_match cs (rs ++ ss))
    (calls_are order page mode op₁ op₂ g₁ g₂ a b c d)
    (trial_joined (group_calls op₁ g₁) (group_calls op₂ g₂) rs ss s none t)

-- ---- what a walk's receipts say
pub calls-length :
    (order : ℕ) (page : VirtualPage) (mode : AccessMode) → length (walk_calls order page mode) ≡ 16
unfolding walk_calls
calls-length order page mode = refl

ops_of_page :
    (order : ℕ) (page : VirtualPage) (mode : AccessMode)
    → AllByRecursion (λ (c : Call). IsOfPage page mode c.op) (walk_calls order page mode)
unfolding walk_calls
ops_of_page order page mode =
    each_append (λ (c : Call). IsOfPage page mode c.op)
    (group_calls (access_op page mode false) (group_of page order false))
    (group_calls (access_op page mode true) (group_of page order true))
    (each_call (IsOfPage page mode) (access_op page mode false)
    (range_with_len (group_of page order false * 8) 8) (false, refl))
    (each_call (IsOfPage page mode) (access_op page mode true)
    (range_with_len (group_of page order true * 8) 8) (true, refl))

none_is : {T : Type 0} (o : Option T) → IsNone o → o ≡ None
none_is None h = refl
none_is (Some x) h = cc

pub walk_none :
    (order : ℕ) (page : VirtualPage) (mode : AccessMode) (rs : List Receipt) (o : Option Receipt)
    → IsTrial is_no_match (walk_calls order page mode) rs
    → o ≡ found_of rs
    → IsNone o ↔ AreAllNoMatch rs
walk_none order page mode rs o s found = (to, back) where
  to : IsNone o → AreAllNoMatch rs
  to h =
      let each = each_of_none rs (sym found ∙ none_is o h) in
      record { count = trial_whole _ rs s each ∙ calls-length order page mode; each = each }

  back : AreAllNoMatch rs → IsNone o
  back all = subst IsNone (sym (found ∙ none_of_each rs all.each)) refl

found_decides :
    (order : ℕ) (page : VirtualPage) (mode : AccessMode) (rs : List Receipt) (x : Receipt)
    → IsTrial is_no_match (walk_calls order page mode) rs
    → found_of rs ≡ Some x
    → Decides page x
found_decides order page mode rs x s found =
    let has = found_has (λ (r : Receipt). IsOfPage page mode r.op) rs x
    (trial_ops (IsOfPage page mode) _ rs (ops_of_page order page mode) s) found in
    receipt_decides page mode x has.0 has.1

pub walk_shown :
    (order : ℕ) (page : VirtualPage) (mode : AccessMode) (rs : List Receipt) (o : Option Receipt)
    → IsTrial is_no_match (walk_calls order page mode) rs
    → o ≡ found_of rs
    → IfSome o (λ r. ShowsLine (line_of page r) rs)
walk_shown order page mode rs None s found = tt
walk_shown order page mode rs (Some x) s found =
    found_shows page rs x (sym found) (found_decides order page mode rs x s (sym found)).decided

pub walk_translates :
    (order : ℕ) (page : VirtualPage) (mode : AccessMode) (rs : List Receipt) (o : Option Receipt)
    → IsTrial is_no_match (walk_calls order page mode) rs
    → o ≡ found_of rs
    → IfSome o (λ r. TranslatesItsPage (line_of page r))
walk_translates order page mode rs None s found = tt
walk_translates order page mode rs (Some x) s found =
    (found_decides order page mode rs x s (sym found)).translates

-- Each receipt that says Denied or At gives a line.
each_gives :
    (page : VirtualPage) (mode : AccessMode) (rs : List Receipt)
    → AllByRecursion (λ (r : Receipt). IsOfPage page mode r.op) rs
    → AllByRecursion
    (λ (r : Receipt). IsTrue (is_decided r.answer) → TranslatesItsPage (line_of page r)) rs
each_gives page mode [] all = tt
each_gives page mode (r ∷ rs) all = (
  λ h.
      (receipt_decides page mode r all.0 (decided_off r.answer h)).translates,
  each_gives page mode rs all.1,
)

pub walk_gives :
    (order : ℕ) (page : VirtualPage) (mode : AccessMode) (rs : List Receipt)
    → IsTrial is_no_match (walk_calls order page mode) rs
    → AllByRecursion
    (λ (r : Receipt). IsTrue (is_decided r.answer) → TranslatesItsPage (line_of page r)) rs
walk_gives order page mode rs s =
    each_gives page mode rs (trial_ops (IsOfPage page mode) _ rs (ops_of_page order page mode) s)
