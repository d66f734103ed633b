-- What operations leave of lines: a line that holds of its entry's state holds from then on, and
-- what has left its stamp never comes back.
use Rattle.std.specs.Prelude.{IsTrue, ◌==◌}
use Rattle.std.proofs.Common.{◌≡◌, ℕ, ◌<◌, List, [], ◌∷◌, All, true, ap, sym, ◌∙◌, refl, subst, inl, inr, arith}
use Rattle.std.proofs.lemmas.Bool.{eq-eqb}
use Rattle.std.proofs.lemmas.List.Elements.{All-head, All-tail}
use Rattle.entry_model.specs.State.{State, Follows}
use Rattle.entry_model.specs.declared.line.Line.{Line}
use Rattle.entry_model.specs.declared.operation.Op.{Op}
use Rattle.entry_model.specs.declared.operation.Op.TheVariants.{Enter, Remove, Protect, Read, ClearRef, ClearMod, Access}
use Rattle.entry_model.specs.declared.receipt.Receipt.{Receipt}
use Rattle.entry_model.specs.Reply.{reply_of, compared_bits, has_base, is_match, access_mode}
use Rattle.entry_model.specs.Receipt.{is_decided}
use Rattle.entry_model.specs.CachedLines.{IsCurrent, Holds, IsAccessOf, IsLineAt, ShowsLine, IsLater, AllLater}
use Rattle.entry_model.specs.Run.{IsRun, IsStep, state_at}
use Rattle.entry_model.proofs.RunFollows.{step_follows, run_follows}
use Rattle.entry_model.proofs.OperationLaws.{decided_valid, decided_match}

-- ---- a line that holds
pub holds_on : (line : Line) (s t : State) → Follows s t → Holds line s → Holds line t
holds_on line s t (inl e) (inl past) = inl (omega (arith, e.stamp))
holds_on line s t (inl e) (inr now) =
    inr
    (record {
      valid = e.valid ∙ now.valid;
      stamp = e.stamp ∙ now.stamp;
      dword0 = e.dword0 ∙ now.dword0;
      dword1 = e.dword1 ∙ now.dword1;
    })
holds_on line s t (inr more) (inl past) = inl (omega arith)
holds_on line s t (inr more) (inr now) = inl (omega (arith, now.stamp))

pub run_holds :
    (a b : List State) (rs : List Receipt) (line : Line)
    → IsRun a rs b
    → Holds line (state_at a line.entry)
    → Holds line (state_at b line.entry)
run_holds a b rs line run h = holds_on line _ _ (run_follows a b rs line.entry run) h

-- The line of an entry that answered At, Masked or Denied holds of the state that the receipt
-- leaves.
shown_here :
    (a b : List State) (r : Receipt) (line : Line)
    → IsStep a r b
    → IsTrue (is_decided r.answer)
    → IsLineAt line r.entry r.before
    → Holds line (state_at b line.entry)
shown_here a b r line step decided at =
    let valid : r.before.valid ≡ true = decided_valid r.before r.op
    (ap is_decided (sym r.lawful) ∙ decided) in
    let now : Holds line r.before = inr
    (record {
      valid = valid;
      stamp = sym at.stamp;
      dword0 = sym at.dword0;
      dword1 = sym at.dword1;
    }) in
    let was : Holds line (state_at a line.entry) = subst (Holds line)
    (step.before ∙ ap (state_at a) (sym at.entry)) now in
    holds_on line _ _ (step_follows a b r line.entry step) was

-- A line that receipts show holds of its entry in the state after them.
pub run_shows :
    (a b : List State) (rs : List Receipt) (line : Line)
    → IsRun a rs b
    → ShowsLine line rs
    → Holds line (state_at b line.entry)
run_shows a b [] line h shows = absurd shows
run_shows a b (r ∷ rs) line h (inl here) =
    holds_on line _ _ (run_follows h.0 b rs line.entry h.2)
    (shown_here a h.0 r line h.1 here.0 here.1)
run_shows a b (r ∷ rs) line h (inr there) = run_shows h.0 b rs line h.2 there

-- What holds of the entry of each receipt holds of the entry of a line that they show.
pub shown_entry :
    (P : ℕ → Type 0) (rs : List Receipt) (line : Line)
    → All (λ (r : Receipt). P r.entry) rs
    → ShowsLine line rs
    → P line.entry
shown_entry P [] line all shows = absurd shows
shown_entry P (r ∷ rs) line all (inl here) =
    subst P (sym here.1.entry) (All-head (λ (r : Receipt). P r.entry) r rs all)
shown_entry P (r ∷ rs) line all (inr there) =
    shown_entry P rs line (All-tail (λ (r : Receipt). P r.entry) r rs all) there

-- ---- a line that is past
past_on : (s t : State) (n : ℕ) → Follows s t → n < s.stamp → n < t.stamp
past_on s t n (inl e) h = omega (arith, e.stamp)
past_on s t n (inr more) h = omega arith

pub run_leaves :
    (a b : List State) (rs : List Receipt) (line : Line)
    → IsRun a rs b
    → line.stamp < (state_at a line.entry).stamp
    → line.stamp < (state_at b line.entry).stamp
run_leaves a b rs line run past = past_on _ _ line.stamp (run_follows a b rs line.entry run) past

-- Each receipt of an entry that had left the line's stamp comes after the line.
pub run_past :
    (a b : List State) (rs : List Receipt) (line : Line)
    → IsRun a rs b
    → line.stamp < (state_at a line.entry).stamp
    → AllLater line rs
run_past a b [] line h past = tt
run_past a b (r ∷ rs) line h past = (
  here,
  run_past h.0 b rs line h.2
      (past_on (state_at a line.entry) (state_at h.0 line.entry) line.stamp
      (step_follows a h.0 r line.entry h.1) past),
) where
  here : IsLater line r
  here e = subst (λ s. line.stamp < s.stamp) (sym (h.1.before ∙ ap (state_at a) e)) past

-- ---- an access by a line
match_by_line :
    (line : Line) (s : State) (tag base : ℕ)
    → tag ≡ compared_bits line.dword0
    → has_base line.dword0 line.dword1 base ≡ true
    → IsCurrent line s
    → is_match s tag base ≡ true
match_by_line line s tag base same fits now =
    let valid : s.valid ≡ true = now.valid in
    let tags : (compared_bits s.dword0 == tag) ≡ true = eq-eqb (compared_bits s.dword0) tag
    (ap compared_bits now.dword0 ∙ sym same) in
    let sizes : has_base s.dword0 s.dword1 base ≡ true = rw (now.dword0, now.dword1) fits in
    rw (valid, tags, sizes) refl

-- On a state at which the line is current it answers At, Masked or Denied, never NoMatch.
pub known_is_decided :
    (line : Line) (s : State) (op : Op)
    → IsAccessOf line op
    → IsCurrent line s
    → is_decided (reply_of s op).0 ≡ true
known_is_decided line s (Access tag base key no_execute want masks) h now =
    decided_match s tag base (access_mode key no_execute want masks)
    (match_by_line line s tag base h.0 h.1 now)
known_is_decided line s (Enter dword0 dword1) h now = absurd h
known_is_decided line s (Remove test) h now = absurd h
known_is_decided line s (Protect test flags) h now = absurd h
known_is_decided line s Read h now = absurd h
known_is_decided line s ClearRef h now = absurd h
known_is_decided line s ClearMod h now = absurd h
