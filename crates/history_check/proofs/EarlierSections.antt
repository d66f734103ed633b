-- The fronts of a good run and of its text.
use Rattle.std.proofs.Common.{◌≡◌, ℕ, zero, suc, ◌≤◌, ◌<◌, List, [], ◌∷◌, ◌++◌, true, false, ap, sym, ◌∙◌, refl, subst, ◌⊎◌, inl, inr, append_assoc, arith, append-nil}
use Rattle.std.specs.Prelude.{if◌then◌else◌, nat_le}
use Rattle.std.proofs.lemmas.Bool.{cases_Bool, cases_lt}
use Rattle.trace_line.specs.declared.line.TraceLine.{TraceLine}
use Rattle.trace_line.specs.Lines.{is_quiet}
use Rattle.trace_read.specs.Trace.{AcceptedTrace}
use Rattle.trace_reply.specs.declared.reply.Reply.{Reply}
use Rattle.trace_reply.specs.Replies.{AreReplies}
use Rattle.reply_text.specs.Text.{reply_text, text_from, text_of}
use Rattle.run_model.specs.GoodRun.{IsGoodRun}
use Rattle.history_check.specs.declared.verdict.Verdict.{Verdict}
use Rattle.history_check.specs.declared.verdict.Verdict.TheVariants as verdicts
use Rattle.history_check.specs.Verdict.{lines_to, trace_to, section_count, BeginsGood, SectionStands, IsVerdict}
use Rattle.history_check.proofs.Prefix.{good_front, with_lines}

-- ---- replies up to a quiet line
abbrev replies_to : ℕ → List TraceLine → List Reply → List Reply
replies_to zero ls rs = []
replies_to (suc k) [] rs = []
replies_to (suc k) (l ∷ ls) [] = []
replies_to (suc k) (l ∷ ls) (r ∷ rs) = r ∷ replies_to (if is_quiet l.act then k else suc k) ls rs

-- A list of lines with its replies is cut after a quiet line.
record IsCut (ls : List TraceLine) (rs : List Reply) (ms : List TraceLine) (qs : List Reply) :
    Type 0 where
  pub lines : List TraceLine
  pub line : TraceLine
  pub later : List TraceLine
  pub replies : List Reply
  pub reply : Reply
  pub behind : List Reply
  pub quiet : is_quiet line.act ≡ true
  pub kinds : AreReplies lines replies
  pub all_lines : ls ≡ lines ++ line ∷ later
  pub all_replies : rs ≡ replies ++ reply ∷ behind
  pub front_lines : ms ≡ lines ++ line ∷ []
  pub front_replies : qs ≡ replies ++ reply ∷ []

abbrev CutOrWhole : List TraceLine → List Reply → List TraceLine → List Reply → Type 0
CutOrWhole ls rs ms qs = ((ls ≡ ms) × (rs ≡ qs)) ⊎ IsCut ls rs ms qs

more_cut :
    (l : TraceLine) (r : Reply) (ls ms : List TraceLine) (rs qs : List Reply)
    → AreReplies (l ∷ []) (r ∷ [])
    → CutOrWhole ls rs ms qs
    → CutOrWhole (l ∷ ls) (r ∷ rs) (l ∷ ms) (r ∷ qs)
more_cut l r ls ms rs qs kind (inl h) = inl (ap (λ z. l ∷ z) h.0, ap (λ z. r ∷ z) h.1)
more_cut l r ls ms rs qs kind (inr h) =
    inr
    (record {
      lines = l ∷ h.lines;
      line = h.line;
      later = h.later;
      replies = r ∷ h.replies;
      reply = h.reply;
      behind = h.behind;
      quiet = h.quiet;
      kinds = (kind.0, h.kinds);
      all_lines = ap (λ z. l ∷ z) h.all_lines;
      all_replies = ap (λ z. r ∷ z) h.all_replies;
      front_lines = ap (λ z. l ∷ z) h.front_lines;
      front_replies = ap (λ z. r ∷ z) h.front_replies;
    })

cut_or_whole :
    (k : ℕ) (ls : List TraceLine) (rs : List Reply)
    → AreReplies ls rs
    → CutOrWhole ls rs (lines_to (suc k) ls) (replies_to (suc k) ls rs)
cut_or_whole k [] [] h = inl (refl, refl)
cut_or_whole k [] (r ∷ rs) h = absurd h
cut_or_whole k (l ∷ ls) [] h = absurd h
cut_or_whole k (l ∷ ls) (r ∷ rs) h =
    at k (cases_Bool (is_quiet l.act))
    (λ j.
    more_cut l r ls (lines_to (suc j) ls) rs (replies_to (suc j) ls rs) (h.0, tt)
    (cut_or_whole j ls rs h.1)) where
      at :
          (k : ℕ)
          → (is_quiet l.act ≡ true) ⊎ (is_quiet l.act ≡ false)
          →
          ((j : ℕ)
          → CutOrWhole (l ∷ ls) (r ∷ rs) (l ∷ lines_to (suc j) ls) (r ∷ replies_to (suc j) ls rs))
          → CutOrWhole (l ∷ ls) (r ∷ rs) (lines_to (suc k) (l ∷ ls))
          (replies_to (suc k) (l ∷ ls) (r ∷ rs))
      at k (inr n) rest = rw n (rest k)
      at (suc k) (inl q) rest = rw q (rest k)
      at zero (inl q) rest =
          rw q
          (inr
          (record {
            lines = [];
            line = l;
            later = ls;
            replies = [];
            reply = r;
            behind = rs;
            quiet = q;
            kinds = tt;
            all_lines = refl;
            all_replies = refl;
            front_lines = refl;
            front_replies = refl;
          }))

front_good :
    (t : AcceptedTrace) (ms : List TraceLine) (rs qs : List Reply)
    → IsGoodRun t rs
    → CutOrWhole t.lines rs ms qs
    → IsGoodRun (with_lines t ms) qs
front_good t ms rs qs g (inl h) =
    subst (λ z. IsGoodRun (with_lines t z) qs) h.0 (subst (λ z. IsGoodRun t z) h.1 g)
front_good t ms rs qs g (inr h) =
    let whole : IsGoodRun (with_lines t (h.lines ++ h.line ∷ h.later))
    (h.replies ++ h.reply ∷ h.behind) = subst
    (λ z. IsGoodRun (with_lines t z) (h.replies ++ h.reply ∷ h.behind)) h.all_lines
    (subst (λ z. IsGoodRun t z) h.all_replies g) in
    let front = good_front t h.lines h.line h.later h.replies h.reply h.behind h.quiet h.kinds whole
    in
    subst (λ z. IsGoodRun (with_lines t z) qs) (sym h.front_lines)
    (subst (λ z. IsGoodRun (with_lines t (h.lines ++ h.line ∷ [])) z) (sym h.front_replies)
    front)

-- ---- their texts
abbrev HasFront : List ℕ → List ℕ → Type 0
HasFront all front = (rest : List ℕ) × (all ≡ front ++ rest)

more_front :
    (l : TraceLine) (r : Reply) (ls ms : List TraceLine) (rs qs : List Reply)
    → HasFront (text_from ls rs) (text_from ms qs)
    → HasFront (text_from (l ∷ ls) (r ∷ rs)) (text_from (l ∷ ms) (r ∷ qs))
unfolding text_from
more_front l r ls ms rs qs h = (
  h.0,
  ap (λ z. reply_text l r ++ z) h.1 ∙ sym (append_assoc (reply_text l r) (text_from ms qs) h.0),
)

no_text : (ls : List TraceLine) → text_from ls [] ≡ []
unfolding text_from
no_text [] = refl
no_text (l ∷ ls) = refl

none_front : (all : List ℕ) (ls : List TraceLine) → HasFront all (text_from ls [])
none_front all ls = (all, ap (λ z. z ++ all) (sym (no_text ls)))

front_text :
    (k : ℕ) (ls : List TraceLine) (rs : List Reply)
    → HasFront (text_from ls rs) (text_from (lines_to (suc k) ls) (replies_to (suc k) ls rs))
front_text k [] rs = none_front (text_from [] rs) []
front_text k (l ∷ ls) [] = none_front (text_from (l ∷ ls) []) (lines_to (suc k) (l ∷ ls))
front_text k (l ∷ ls) (r ∷ rs) =
    at k (cases_Bool (is_quiet l.act))
    (λ j.
    more_front l r ls (lines_to (suc j) ls) rs (replies_to (suc j) ls rs) (front_text j ls rs))
  where
    at :
        (k : ℕ)
        → (is_quiet l.act ≡ true) ⊎ (is_quiet l.act ≡ false)
        →
        ((j : ℕ)
        → HasFront (text_from (l ∷ ls) (r ∷ rs))
        (text_from (l ∷ lines_to (suc j) ls) (r ∷ replies_to (suc j) ls rs)))
        → HasFront (text_from (l ∷ ls) (r ∷ rs))
        (text_from (lines_to (suc k) (l ∷ ls)) (replies_to (suc k) (l ∷ ls) (r ∷ rs)))
    at k (inr n) rest = rw n (rest k)
    at (suc k) (inl q) rest = rw q (rest k)
    at zero (inl q) rest = rw q (more_front l r ls [] rs [] (none_front (text_from ls rs) []))

pub fronts_stand :
    (t : AcceptedTrace) (text : List ℕ) (k : ℕ)
    → 1 ≤ k
    → BeginsGood t text
    → BeginsGood (trace_to k t) text
fronts_stand t text zero low h = absurd (omega (arith, low))
fronts_stand t text (suc k) low h =
    let rs = h.0 in
    let qs = replies_to (suc k) t.lines rs in
    let front = front_text k t.lines rs in (
      qs,
      front.0 ++ h.1,
      front_good t (lines_to (suc k) t.lines) rs qs h.2 (cut_or_whole k t.lines rs h.2.kinds),
      h.3
          ∙ ap (λ z. z ++ h.1) front.1
          ∙ append_assoc (text_from (lines_to (suc k) t.lines) qs) front.0 h.1,
    )

-- ---- verdicts

pub good_verdict :
    (t : AcceptedTrace) (rs : List Reply)
    → IsGoodRun t rs
    → IsVerdict t (text_of t rs) verdicts.Good
good_verdict t rs g k low high = at (cases_Bool (nat_le k (section_count t))) where
  at :
      (nat_le k (section_count t) ≡ true) ⊎ (nat_le k (section_count t) ≡ false)
      → SectionStands t (text_of t rs) k
  at (inl e) =
      rw e (fronts_stand t (text_of t rs) k low (rs, [], g, sym (append-nil (text_of t rs))))
  at (inr e) = rw e (rs, g, refl)

one_bad :
    (t : AcceptedTrace) (text : List ℕ) (n m : ℕ)
    → IsVerdict t text (verdicts.Bad n)
    → IsVerdict t text (verdicts.Bad m)
    → n ≡ m
one_bad t text n m h k = at (cases_lt n m) (cases_lt m n) where
  at : (n < m) ⊎ (m ≤ n) → (m < n) ⊎ (n ≤ m) → n ≡ m
  at (inl less) e = absurd (h.3 (k.2 n h.0 less))
  at (inr e) (inl less) = absurd (k.3 (h.2 m k.0 less))
  at (inr e) (inr f) = omega arith

pub one_verdict :
    (t : AcceptedTrace) (text : List ℕ) (v w : Verdict)
    → IsVerdict t text v
    → IsVerdict t text w
    → v ≡ w
one_verdict t text verdicts.Good verdicts.Good h k = refl
one_verdict t text verdicts.Good (verdicts.Bad n) h k = absurd (k.3 (h n k.0 k.1))
one_verdict t text (verdicts.Bad n) verdicts.Good h k = absurd (h.3 (k n h.0 h.1))
one_verdict t text (verdicts.Bad n) (verdicts.Bad m) h k = ap verdicts.Bad (one_bad t text n m h k)
