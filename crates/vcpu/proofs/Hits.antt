-- An access by a cached translation: its one receipt makes a reply by Hit.
use Rattle.std.specs.Prelude.{MatchBool}
use Rattle.std.proofs.Common.{◌≡◌, ◌+◌, Bool, true, false, not, List, [], ◌∷◌, Option, Some, refl, sym, ap, ◌∙◌}
use Rattle.power_addr.specs.Pages.{VirtualPage, tag_of}
use Rattle.hpte_fields.specs.Fields.{is_secondary}
use Rattle.slb_model.specs.declared.segment.Segment.{Segment}
use Rattle.entry_model.specs.declared.line.Line.{Line}
use Rattle.entry_model.specs.declared.operation.Answer.{Answer}
use Rattle.entry_model.specs.declared.operation.Answer.TheVariants.{At, Denied, Masked}
use Rattle.entry_model.specs.declared.receipt.Receipt.{Receipt}
use Rattle.entry_model.specs.declared.access_reply.By.{By}
use Rattle.entry_model.specs.declared.access_reply.Outcome.{Outcome}
use Rattle.entry_model.specs.Receipt.{IsReceiptOf, is_no_match, is_decided, found_of}
use Rattle.entry_model.specs.Reply.{has_base, reply_of, AccessMode}
use Rattle.entry_model.specs.CachedLines.{IsCurrent, IsAccessOf}
use Rattle.entry_model.proofs.LineLaws.{known_is_decided}
use Rattle.hpt_walk.specs.Walk.{access_op, h_bit}
use Rattle.hpt_walk.specs.Translations.{TranslatesItsPage}
use Rattle.hpt_walk.specs.Access.{AccessContext, IsHit, outcome_by, outcome_of, mode_for}
use Rattle.hpt_walk.specs.declared.request.Request.{Request}

-- The access of a line's own page, with H as the line has it, is one that the line's words match.
pub is_access_of :
    (line : Line) (page : VirtualPage) (mode : AccessMode)
    → line.page ≡ page
    → TranslatesItsPage line
    → IsAccessOf line (access_op page mode (is_secondary line.dword0))
is_access_of line page mode of fits = (
  (λ i. tag_of (sym of i) + h_bit (is_secondary line.dword0) + 1) ∙ fits.tag,
  (λ i. has_base line.dword0 line.dword1 (sym of i).shift) ∙ fits.size,
)

pub decided_is_found :
    (answer : Answer) → is_decided answer ≡ true → not (is_no_match answer) ≡ true
decided_is_found At h = refl
decided_is_found Denied h = refl
decided_is_found Masked h = refl
decided_is_found other h = cc

pub at_end : (goes : Bool) → MatchBool goes (Unit {0}) (let none : List Receipt = [] in none ≡ [])
at_end true = tt
at_end false = refl

pub hit_is :
    (set : AccessContext) (seg : Segment) (a : Request) (line : Line) (r : Receipt)
    (outcome : Outcome) (by : Option By)
    → IsReceiptOf line.entry (access_op seg.page (mode_for seg a) (is_secondary line.dword0)) r
    → line.page ≡ seg.page → TranslatesItsPage line → IsCurrent line r.before
    → outcome ≡ outcome_by set.grants a.ea (Some r)
    → IsHit set seg a line (record { outcome = outcome; by = by; receipts = r ∷ [] })
unfolding outcome_of
hit_is set seg a line r outcome by receipt of fits current ends =
    let asked = is_access_of line seg.page (mode_for seg a) of fits in
    let decided : is_decided r.answer ≡ true = ap is_decided r.lawful ∙ ap
    (λ o. is_decided (reply_of r.before o).0) receipt.op ∙ known_is_decided line r.before
    (access_op seg.page (mode_for seg a) (is_secondary line.dword0)) asked current in
    let found : found_of (r ∷ []) ≡ Some r = rw (decided_is_found r.answer decided) refl in
    record {
      trial = (receipt, at_end (is_no_match r.answer));
      current = (current, tt);
      decided = (decided, tt);
      outcome = ends ∙ sym (ap (outcome_by set.grants a.ea) found);
    }
