-- An access that an entry decides: its doublewords translate the page.
use Rattle.std.specs.Prelude.{IsTrue, ◌==◌, ◌&&◌}
use Rattle.std.proofs.Common.{◌≡◌, ℕ, ◌+◌, Bool, true, false, ap, sym, ◌∙◌, refl, ◌⊎◌, inl, inr}
use Rattle.std.proofs.lemmas.Bool.{cases_Bool, and_parts, eqb-true}
use Rattle.power_addr.specs.Pages.{VirtualPage, tag_of}
use Rattle.hpte_fields.specs.Fields.{is_secondary}
use Rattle.entry_model.specs.State.{State}
use Rattle.entry_model.specs.declared.line.Line.{Line}
use Rattle.entry_model.specs.declared.operation.Answer.{Answer}
use Rattle.entry_model.specs.declared.operation.Answer.TheVariants.{NoMatch}
use Rattle.entry_model.specs.declared.operation.Op.{Op}
use Rattle.entry_model.specs.declared.receipt.Receipt.{Receipt}
use Rattle.entry_model.specs.Reply.{compared_bits, has_base, is_match, answer_of_access, reply_of, AccessMode}
use Rattle.entry_model.specs.Receipt.{is_no_match, is_decided}
use Rattle.entry_model.specs.CachedLines.{IsAccessOf, line_of}
use Rattle.entry_model.proofs.OperationLaws.{decided_match}
use Rattle.hpt_walk.specs.Walk.{access_op, h_bit}
use Rattle.hpt_walk.specs.Translations.{TranslatesItsPage}
use Rattle.hpt_walk.proofs.Tags.{compared-has}

-- ---- answers
-- An answer that used an entry's translation isn't NoMatch.
pub decided_off : (answer : Answer) → IsTrue (is_decided answer) → is_no_match answer ≡ false
decided_off NoMatch h = cc
decided_off other h = refl

pub no_match_or_decided :
    (answer : Answer) → is_no_match answer ≡ true → is_decided answer ≡ true → ⊥
no_match_or_decided NoMatch h d = cc
no_match_or_decided other h d = cc

pub accessed_no_match :
    (s : State) (tag base : ℕ) (mode : AccessMode)
    → is_match s tag base ≡ false
    → is_no_match (answer_of_access s tag base mode).0 ≡ true
accessed_no_match s tag base mode differs = rw differs refl

-- An answer to an access that isn't NoMatch comes of a match.
pub match_of :
    (s : State) (tag base : ℕ) (mode : AccessMode)
    → is_no_match (answer_of_access s tag base mode).0 ≡ false
    → is_match s tag base ≡ true
match_of s tag base mode off = at (cases_Bool (is_match s tag base)) where
  at : (is_match s tag base ≡ true) ⊎ (is_match s tag base ≡ false) → is_match s tag base ≡ true
  at (inl same) = same
  at (inr differs) = let clash :
      true ≡ false = sym (accessed_no_match s tag base mode differs) ∙ off in cc

-- ---- lines
-- A match of a page's tag gives a line that translates the page.
pub match_translates :
    (page : VirtualPage) (line : Line) (s : State) (secondary : Bool)
    → line.page ≡ page
    → line.dword0 ≡ s.dword0
    → line.dword1 ≡ s.dword1
    → is_match s (tag_of page + h_bit secondary + 1) page.shift ≡ true
    → TranslatesItsPage line
match_translates page line s secondary of first second same =
    let parts = and_parts s.valid
    ((compared_bits s.dword0 == tag_of page + h_bit secondary + 1) && has_base s.dword0 s.dword1
    page.shift) same in
    let words = and_parts (compared_bits s.dword0 == tag_of page + h_bit secondary + 1)
    (has_base s.dword0 s.dword1 page.shift) parts.1 in
    let tag : compared_bits s.dword0 ≡ tag_of page + h_bit secondary + 1 = eqb-true _ _ words.0 in
    let h : is_secondary s.dword0 ≡ secondary = (compared-has page s.dword0 secondary tag).secondary
    in
    record {
      tag =
          (λ i. tag_of (of i) + h_bit (is_secondary (first i)) + 1)
          ∙ ap (λ b. tag_of page + h_bit b + 1) h
          ∙ sym tag
          ∙ ap compared_bits (sym first);
      size = (λ i. has_base (first i) (second i) (of i).shift) ∙ words.1;
    }

-- What a receipt of an access of the page says.
pub record Decides (page : VirtualPage) (r : Receipt) : Type 0 where
  pub decided : IsTrue (is_decided r.answer)
  pub translates : TranslatesItsPage (line_of page r)

-- The operation is an access of the page.
abbrev pub IsOfPage : VirtualPage → AccessMode → Op → Type 0
IsOfPage page mode op = (secondary : Bool) × (op ≡ access_op page mode secondary)

pub receipt_decides :
    (page : VirtualPage) (mode : AccessMode) (r : Receipt)
    → IsOfPage page mode r.op
    → is_no_match r.answer ≡ false
    → Decides page r
receipt_decides page mode r op off =
    let answer : r.answer ≡ (reply_of r.before (access_op page mode op.0)).0 = r.lawful ∙ ap
    (λ o. (reply_of r.before o).0) op.1 in
    let same : is_match r.before (tag_of page + h_bit op.0 + 1) page.shift ≡ true = match_of
    r.before _ _ mode (ap is_no_match (sym answer) ∙ off) in
    record {
      decided = ap is_decided answer ∙ decided_match r.before _ _ mode same;
      translates = match_translates page (line_of page r) r.before op.0 refl refl refl same;
    }

-- An access of its page by a line matches it.
pub line_matches :
    (line : Line) (mode : AccessMode)
    → TranslatesItsPage line
    → IsAccessOf line (access_op line.page mode (is_secondary line.dword0))
line_matches line mode h = (h.tag, h.size)
