-- The replies of a good run up to a quiet line are a good run of the lines up to it.
use Rattle.std.proofs.Common.{◌≡◌, List, [], ◌∷◌, ◌++◌, true, false, ap, sym, ◌∙◌, refl, subst, ◌⊎◌, inl, inr}
use Rattle.std.proofs.lemmas.Bool.{cases_Bool}
use Rattle.run_model.proofs.LineReceipts.{lines_append}
use Rattle.trace_line.specs.declared.line.TraceLine.{TraceLine}
use Rattle.trace_line.specs.Lines.{is_quiet}
use Rattle.trace_read.specs.Trace.{AcceptedTrace}
use Rattle.trace_reply.specs.declared.reply.Reply.{Reply}
use Rattle.trace_reply.specs.Replies.{RepliedLine, AreReplies, lines_with_replies}
use Rattle.run_model.specs.Quiet.{QuietPart, cut, cut_before}
use Rattle.run_model.specs.AllStores.{AllStores, opening_all}
use Rattle.run_model.specs.GoodRun.{IsGoodRun}
use Rattle.run_model.specs.StoreNumbers.{store_at}
use Rattle.history_check.specs.FoundSection.{opening_of}
use Rattle.history_check.specs.FoundStores.{AreGoodOn}
use Rattle.history_check.proofs.GoodStores.{Parts, AllGood, next_stores, store_empty, parts_good, good_parts}

-- A run that is cut, with these further quiet lines, and the lines after each, at its end.
abbrev pub with_rest : Parts → List QuietPart → Parts
with_rest x zs = (x.0, x.1 ++ zs)

front_rest :
    (t : RepliedLine) (x : Parts) (zs : List QuietPart)
    → cut_before t (with_rest x zs) ≡ with_rest (cut_before t x) zs
front_rest t x zs = at (cases_Bool (is_quiet t.line.act)) where
  at :
      (is_quiet t.line.act ≡ true) ⊎ (is_quiet t.line.act ≡ false)
      → cut_before t (with_rest x zs) ≡ with_rest (cut_before t x) zs
  at (inl q) = rw q refl
  at (inr q) = rw q refl

-- the cut after a quiet line
pub cut_at :
    (xs : List RepliedLine) (q : RepliedLine) (ys : List RepliedLine)
    → is_quiet q.line.act ≡ true
    → cut (xs ++ q ∷ ys) ≡ with_rest (cut xs) ((q, (cut ys).0) ∷ (cut ys).1)
cut_at [] q ys h = rw h refl
cut_at (x ∷ xs) q ys h =
    ap (cut_before x) (cut_at xs q ys h) ∙ front_rest x (cut xs) ((q, (cut ys).0) ∷ (cut ys).1)

pub empty_good : (s : AllStores) → AreGoodOn s []
empty_good s number low = store_empty (opening_of (store_at s number))

parts_front :
    (s : AllStores) (ts : List RepliedLine) (qs : List QuietPart) (q : RepliedLine)
    (us : List RepliedLine) (zs : List QuietPart)
    → AllGood s ts (qs ++ (q, us) ∷ zs)
    → AllGood s ts (qs ++ (q, []) ∷ [])
parts_front s ts [] q us zs h = (h.0, h.1, empty_good (next_stores s ts q.line.act))
parts_front s ts (p ∷ qs) q us zs h =
    (h.0, h.1, parts_front (next_stores s ts p.0.line.act) p.1 qs q us zs h.2)

replies_front :
    (ls : List TraceLine) (l : TraceLine) (ms : List TraceLine) (rs : List Reply) (r : Reply)
    (qs : List Reply)
    → AreReplies ls rs
    → AreReplies (ls ++ l ∷ ms) (rs ++ r ∷ qs)
    → AreReplies (ls ++ l ∷ []) (rs ++ r ∷ [])
replies_front [] l ms [] r qs h k = (k.0, tt)
replies_front [] l ms (x ∷ rs) r qs h k = absurd h
replies_front (x ∷ ls) l ms [] r qs h k = absurd h
replies_front (x ∷ ls) l ms (y ∷ rs) r qs h k = (k.0, replies_front ls l ms rs r qs h.1 k.1)

-- The trace with these lines instead of its own.
abbrev pub with_lines : AcceptedTrace → List TraceLine → AcceptedTrace
with_lines t lines = record t { lines = lines }

pub good_front :
    (t : AcceptedTrace) (ls : List TraceLine) (l : TraceLine) (ms : List TraceLine)
    (rs : List Reply) (r : Reply) (qs : List Reply)
    → is_quiet l.act ≡ true
    → AreReplies ls rs
    → IsGoodRun (with_lines t (ls ++ l ∷ ms)) (rs ++ r ∷ qs)
    → IsGoodRun (with_lines t (ls ++ l ∷ [])) (rs ++ r ∷ [])
good_front t ls l ms rs r qs quiet same g =
    let q : RepliedLine = record { line = l; reply = r } in
    let x = cut (lines_with_replies ls rs) in
    let y = cut (lines_with_replies ms qs) in
    let whole : cut (lines_with_replies (ls ++ l ∷ ms) (rs ++ r ∷ qs)) ≡ with_rest x
    ((q, y.0) ∷ y.1) = ap cut (lines_append ls (l ∷ ms) rs (r ∷ qs) same) ∙ cut_at
    (lines_with_replies ls rs) q (lines_with_replies ms qs) quiet in
    let front : cut (lines_with_replies (ls ++ l ∷ []) (rs ++ r ∷ [])) ≡ with_rest x ((q, []) ∷ [])
    = ap cut (lines_append ls (l ∷ []) rs (r ∷ []) same) ∙ cut_at (lines_with_replies ls rs) q
    [] quiet in
    let o = opening_all t.config in
    let all : AllGood o x.0 (x.1 ++ (q, y.0) ∷ y.1) = subst (λ (c : Parts). AllGood o c.0 c.1) whole
    (parts_good (with_lines t (ls ++ l ∷ ms)) (rs ++ r ∷ qs) g) in
    let some : AllGood o x.0 (x.1 ++ (q, []) ∷ []) = parts_front o x.0 x.1 q y.0 y.1 all in
    good_parts (with_lines t (ls ++ l ∷ [])) (rs ++ r ∷ [])
    (replies_front ls l ms rs r qs same g.kinds)
    (subst (λ (c : Parts). AllGood o c.0 c.1) (sym front) some)
