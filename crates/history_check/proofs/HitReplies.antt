-- The reply to an access by a cached translation, on the state that its one operation found.
use Rattle.std.proofs.Common.{◌≡◌, List, [], ◌∷◌, ap, sym, ◌∙◌, refl, subst, Some, length, get_or, arith}
use Rattle.entry_model.specs.State.{State}
use Rattle.entry_model.specs.declared.line.Line.{Line}
use Rattle.entry_model.specs.declared.operation.Op.{Op}
use Rattle.entry_model.specs.declared.receipt.Receipt.{Receipt}
use Rattle.entry_model.specs.declared.access_reply.AccessReply.{AccessReply}
use Rattle.entry_model.specs.declared.access_reply.Outcome.{Outcome}
use Rattle.entry_model.specs.declared.access_reply.By.TheVariants.{Hit}
use Rattle.entry_model.specs.Receipt.{is_no_match, found_of}
use Rattle.entry_model.proofs.Exact.{exact, same}
use Rattle.hpte_fields.specs.Fields.{is_secondary}
use Rattle.slb_model.specs.declared.segment.Segment.{Segment}
use Rattle.hpt_walk.specs.Walk.{access_op}
use Rattle.entry_model.specs.Trial.{IsTrial}
use Rattle.hpt_walk.specs.Access.{AccessContext, hit_calls, mode_for, outcome_by, outcome_of, IsHit}
use Rattle.hpt_walk.specs.declared.request.Request.{Request}
use Rattle.history_check.specs.Hits.{IsHitBy}
use Rattle.vcpu.proofs.Hits.{decided_is_found, at_end}
use Rattle.history_check.specs.Replay.{before_each}

abbrev hit_op : Segment → Request → Line → Op
hit_op seg a line = access_op seg.page (mode_for seg a) (is_secondary line.dword0)

abbrev replied : Outcome → Receipt → AccessReply
replied outcome r = record { outcome = outcome; by = Some Hit; receipts = r ∷ [] }

hit_stands :
    (set : AccessContext) (seg : Segment) (a : Request) (line : Line) (op : Op) (s : State)
    (r : Receipt) (outcome : Outcome)
    → op ≡ hit_op seg a line
    → IsHitBy line op s r
    → outcome ≡ outcome_by set.grants a.ea (Some r)
    → IsHit set seg a line (replied outcome r)
unfolding outcome_of
hit_stands set seg a line op s r outcome asked h ends =
    let found : found_of (r ∷ []) ≡ Some r = rw (decided_is_found r.answer h.decided) refl in
    record {
      trial =
          (record { entry = h.made.entry; op = h.made.op ∙ asked }, at_end (is_no_match r.answer));
      current = (h.current, tt);
      decided = (h.decided, tt);
      outcome = ends ∙ sym (ap (outcome_by set.grants a.ea) found);
    }

one_state : (ss : List State) (s : State) → length ss ≡ 1 → s ≡ get_or ss 0 s → ss ≡ s ∷ []
one_state [] s n e = absurd (omega arith)
one_state (t ∷ []) s n e = ap (λ z. z ∷ []) (sym e)
one_state (t ∷ u ∷ ss) s n e = absurd (omega arith)

one_hit :
    (set : AccessContext) (seg : Segment) (a : Request) (line : Line) (op : Op) (s : State)
    (r : Receipt) (outcome : Outcome) (q : AccessReply) (xs : List Receipt)
    → op ≡ hit_op seg a line
    → IsHitBy line op s r
    → IsHit set seg a line (replied outcome r)
    → q.by ≡ Some Hit
    → q.receipts ≡ xs
    → IsHit set seg a line q
    → before_each xs ≡ s ∷ []
    → replied outcome r ≡ q
one_hit set seg a line op s r outcome q [] asked h mine by e k before = cc
one_hit set seg a line op s r outcome q (x ∷ y ∷ xs) asked h mine by e k before = cc
one_hit set seg a line op s r outcome q (x ∷ []) asked h mine by e k before =
    let trial = subst (IsTrial is_no_match (hit_calls seg a line)) e k.trial in
    let there : x.before ≡ s = cc in
    let one : x ≡ r = same x r.entry r.before r.op (trial.0.entry ∙ sym h.made.entry)
    (there ∙ sym h.before) (trial.0.op ∙ sym asked ∙ sym h.made.op) ∙ sym (exact r) in
    let all : r ∷ [] ≡ q.receipts = ap (λ z. z ∷ []) (sym one) ∙ sym e in
    let end : outcome ≡ q.outcome = mine.outcome ∙ ap (outcome_of set.grants a.ea) all ∙ sym
    k.outcome in
    λ i. record { outcome = end i; by = sym by i; receipts = all i }

-- What `hit_end` owes where it gives an end.
pub hit_told :
    (set : AccessContext) (seg : Segment) (a : Request) (line : Line) (op : Op) (s : State)
    (ss : List State) (r : Receipt) (outcome : Outcome)
    → op ≡ hit_op seg a line
    → IsHitBy line op s r
    → outcome ≡ outcome_by set.grants a.ea (Some r)
    → length ss ≡ 1
    → s ≡ get_or ss 0 s
    → (before_each (r ∷ []) ≡ ss)
    × IsHit set seg a line (replied outcome r)
    ×
    ((q : AccessReply)
    → q.by ≡ Some Hit
    → IsHit set seg a line q
    → before_each q.receipts ≡ ss
    → replied outcome r ≡ q)
hit_told set seg a line op s ss r outcome asked h ends n at =
    let mine = hit_stands set seg a line op s r outcome asked h ends in (
      (λ i. h.before i ∷ []) ∙ sym (one_state ss s n at),
      mine,
      λ q by k before.
          one_hit set seg a line op s r outcome q q.receipts asked h mine by refl k
          (before ∙ one_state ss s n at),
    )
