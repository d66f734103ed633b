-- The text of a line fixes its marks and its way.
use Rattle.std.proofs.Common.{◌≡◌, ℕ, ℤ, ◌<◌, ◌+◌, ◌^◌, List, [], ◌∷◌, ◌++◌, Bool, true, false, ap, sym, ◌∙◌, refl, subst, inl, inr, map, arith, Option, Some, None, append_assoc, pos, negsuc, suc, append-nil}
use Rattle.std.specs.Prelude.{if◌then◌else◌, ◌==◌, codes}
use Rattle.std.specs.List.{AllByRecursion, flat_map}
use Rattle.std.specs.Fmt.{digits, signed_decimal}
use Rattle.std.proofs.lemmas.Bool.{false≢true}
use Rattle.papr_codes.specs.ReturnCodes.{rc_code}
use Rattle.entry_model.specs.declared.receipt.Receipt.{Receipt}
use Rattle.entry_model.specs.declared.hreply.HReply.{HReply}
use Rattle.entry_model.specs.declared.access_reply.AccessReply.{AccessReply}
use Rattle.entry_model.specs.declared.access_reply.Outcome.{Outcome}
use Rattle.entry_model.specs.declared.access_reply.Outcome.TheVariants as outcomes
use Rattle.entry_model.specs.declared.device_reply.DeviceOutcome.{DeviceOutcome}
use Rattle.entry_model.specs.declared.device_reply.DeviceOutcome.TheVariants as devices
use Rattle.entry_model.specs.declared.device_reply.DeviceReply.{DeviceReply}
use Rattle.entry_model.specs.declared.access_reply.By.{By}
use Rattle.entry_model.specs.declared.access_reply.By.TheVariants.{Hit, Walk}
use Rattle.trace_line.specs.declared.line.TraceLine.{TraceLine}
use Rattle.trace_line.specs.declared.act.Act.{Act}
use Rattle.trace_line.specs.declared.act.Act.TheVariants as acts
use Rattle.trace_line.specs.Lines.{is_quiet}
use Rattle.trace_reply.specs.declared.reply.Reply.{Reply}
use Rattle.trace_reply.specs.declared.reply.Reply.TheVariants as replies
use Rattle.trace_reply.specs.Replies.{receipts_in, IsOfKind}
use Rattle.reply_text.specs.Text.{word_text, code_text, hcall_text, outcome_text, way_text, access_text, verdict_text, head_text, name_of, reply_text, device_outcome_text, device_text}
use Rattle.receipt_text.specs.Receipts.{mark_of, receipt_text, receipts_text}
use Rattle.history_check.specs.ReplyMarks.{SameWay, ShowsSame}
use Rattle.receipt_text.specs.Cuts.{lacks}
use Rattle.receipt_text.specs.Marks.{IsMark}
use Rattle.receipt_text.proofs.ReadBack.{listed_marks, receipts_lack}
use Rattle.receipt_text.proofs.Bytes.{lacks_append, lacks_back, cut_at, IsNoDigit, lacks_hex, lacks_decimal, last_of, last_append}
use Rattle.authority_mask.specs.declared.masks.MaskName.TheVariants as masks

-- ---- one receipt
-- Entry and stamp are numbers that a text can show.
pub record IsShort (r : Receipt) : Type 0 where
  pub entry : r.entry < 2 ^ 32
  pub stamp : r.before.stamp < 2 ^ 32

-- Each receipt's entry, and the stamp that it found, fit in 32 bits.
abbrev pub AreShort : List Receipt → Type 0
AreShort rs = AllByRecursion IsShort rs

digit_low : (r c : Bool) → (if r then 2 else 0) + (if c then 1 else 0) < 4
digit_low true true = omega arith
digit_low true false = omega arith
digit_low false true = omega arith
digit_low false false = omega arith

pub short_marks : (rs : List Receipt) → AreShort rs → AllByRecursion IsMark (map mark_of rs)
short_marks [] h = tt
short_marks (r ∷ rs) h = (
  record {
    entry = h.0.entry;
    stamp = h.0.stamp;
    bits = digit_low r.before.referenced r.before.changed;
  },
  short_marks rs h.1,
)

-- ---- a line
-- What stands before the receipts of a line.
pub record IsFront (a : List ℕ) : Type 0 where
  pub no_end : lacks 10 a ≡ true
  pub no_bar : lacks 124 a ≡ true

to_bar : (a : List ℕ) (z : List ℕ) → a ++ 32 ∷ 124 ∷ z ≡ (a ++ 32 ∷ []) ++ 124 ∷ z
to_bar a z = sym (append_assoc a (32 ∷ []) (124 ∷ z))

unspaced : (a b : List ℕ) → a ++ 32 ∷ [] ≡ b ++ 32 ∷ [] → a ≡ b
unspaced [] [] e = refl
unspaced [] (y ∷ []) e = cc
unspaced [] (y ∷ z ∷ b) e = cc
unspaced (x ∷ []) [] e = cc
unspaced (x ∷ z ∷ a) [] e = cc
unspaced (x ∷ a) (y ∷ b) e =
    let head : x ≡ y = cc in
    let rest : a ++ 32 ∷ [] ≡ b ++ 32 ∷ [] = cc in
    let m : a ≡ b = unspaced a b rest in
    λ i. head i ∷ m i

bar_stands : (a b z : List ℕ) → lacks 124 a ≡ true → a ++ [] ≡ b ++ 32 ∷ 124 ∷ z → ⊥
bar_stands a b z h e =
    let m : lacks 124 (b ++ 32 ∷ 124 ∷ z) ≡ true = subst (λ l. lacks 124 l ≡ true)
    (sym (append-nil a) ∙ e) h in
    false≢true (lacks_back 124 b (32 ∷ 124 ∷ z) m)

fronts_and_marks :
    (a b : List ℕ) (rs qs : List Receipt)
    → IsFront a
    → IsFront b
    → AreShort rs
    → AreShort qs
    → a ++ receipts_text rs ≡ b ++ receipts_text qs
    → (a ≡ b) × (map mark_of rs ≡ map mark_of qs)
fronts_and_marks a b [] [] f g h k e = (sym (append-nil a) ∙ e ∙ append-nil b, refl)
fronts_and_marks a b [] (q ∷ qs) f g h k e =
    absurd (bar_stands a b (flat_map receipt_text (q ∷ qs)) f.no_bar e)
fronts_and_marks a b (r ∷ rs) [] f g h k e =
    absurd (bar_stands b a (flat_map receipt_text (r ∷ rs)) g.no_bar (sym e))
fronts_and_marks a b (r ∷ rs) (q ∷ qs) f g h k e =
    let c = cut_at 124 (a ++ 32 ∷ []) (b ++ 32 ∷ []) (flat_map receipt_text (r ∷ rs))
    (flat_map receipt_text (q ∷ qs)) (lacks_append 124 a (32 ∷ []) f.no_bar refl)
    (lacks_append 124 b (32 ∷ []) g.no_bar refl)
    (sym (to_bar a (flat_map receipt_text (r ∷ rs)))
    ∙ e
    ∙ to_bar b (flat_map receipt_text (q ∷ qs))) in (
      unspaced a b c.0,
      listed_marks (r ∷ rs) (q ∷ qs) (short_marks (r ∷ rs) h) (short_marks (q ∷ qs) k) c.1,
    )

line_parts :
    (a b : List ℕ) (rs qs : List Receipt) (x y : List ℕ)
    → IsFront a
    → IsFront b
    → AreShort rs
    → AreShort qs
    → a ++ (receipts_text rs ++ 10 ∷ x) ≡ b ++ (receipts_text qs ++ 10 ∷ y)
    → (a ≡ b) × (map mark_of rs ≡ map mark_of qs) × (x ≡ y)
line_parts a b rs qs x y f g h k e =
    let c = cut_at 10 (a ++ receipts_text rs) (b ++ receipts_text qs) x y
    (lacks_append 10 a (receipts_text rs) f.no_end (receipts_lack rs))
    (lacks_append 10 b (receipts_text qs) g.no_end (receipts_lack qs))
    (append_assoc a (receipts_text rs) (10 ∷ x)
    ∙ e
    ∙ sym (append_assoc b (receipts_text qs) (10 ∷ y))) in
    let m = fronts_and_marks a b rs qs f g h k c.0 in
    (m.0, m.1, c.1)

line_joined : (a c x : List ℕ) → ((a ++ c) ++ 10 ∷ []) ++ x ≡ a ++ (c ++ 10 ∷ x)
line_joined a c x = append_assoc (a ++ c) (10 ∷ []) x ∙ append_assoc a c (10 ∷ x)

-- ---- hypervisor calls
signed_lacks : (c : ℕ) (z : ℤ) → IsNoDigit c → (45 == c) ≡ false → lacks c (signed_decimal z) ≡ true
signed_lacks c (pos n) h k = lacks_decimal c n h
signed_lacks c (negsuc n) h k = rw k (lacks_decimal c (suc n) h)

pub code_front : (z : ℤ) → IsFront (code_text z)
unfolding code_text
code_front z =
    record {
      no_end = signed_lacks 10 z (inl (omega arith)) refl;
      no_bar = signed_lacks 124 z (inr (omega arith)) refl;
    }

pub words_front : (ws : List ℕ) → IsFront (flat_map word_text ws)
words_front [] = record { no_end = refl; no_bar = refl }
words_front (w ∷ ws) =
    let rest = words_front ws in
    record {
      no_end =
          lacks_append 10 (digits 16 false w) (flat_map word_text ws)
          (lacks_hex 10 w (inl (omega arith))) rest.no_end;
      no_bar =
          lacks_append 124 (digits 16 false w) (flat_map word_text ws)
          (lacks_hex 124 w (inr (omega arith))) rest.no_bar;
    }

pub both_front : (a b : List ℕ) → IsFront a → IsFront b → IsFront (a ++ b)
both_front a b f g =
    record {
      no_end = lacks_append 10 a b f.no_end g.no_end;
      no_bar = lacks_append 124 a b f.no_bar g.no_bar;
    }

hcall_shows :
    (h k : HReply) (x y : List ℕ)
    → AreShort h.receipts
    → AreShort k.receipts
    → hcall_text h ++ x ≡ hcall_text k ++ y
    → (map mark_of h.receipts ≡ map mark_of k.receipts) × (x ≡ y)
hcall_shows h k x y s t e =
    let m = line_parts (code_text (rc_code h.rc) ++ flat_map word_text h.words)
    (code_text (rc_code k.rc) ++ flat_map word_text k.words) h.receipts k.receipts x y
    (both_front (code_text (rc_code h.rc)) (flat_map word_text h.words)
    (code_front (rc_code h.rc)) (words_front h.words))
    (both_front (code_text (rc_code k.rc)) (flat_map word_text k.words)
    (code_front (rc_code k.rc)) (words_front k.words)) s t
    (sym
    (line_joined (code_text (rc_code h.rc) ++ flat_map word_text h.words) (receipts_text h.receipts)
    x)
    ∙ e
    ∙ line_joined (code_text (rc_code k.rc) ++ flat_map word_text k.words)
    (receipts_text k.receipts)
    y) in
    (m.1, m.2)

-- ---- accesses
pub outcome_front : (o : Outcome) → IsFront (outcome_text o)
outcome_front (outcomes.At address) =
    record {
      no_end = lacks_hex 10 address (inl (omega arith));
      no_bar = lacks_hex 124 address (inr (omega arith));
    }
outcome_front outcomes.Denied = record { no_end = refl; no_bar = refl }
outcome_front (outcomes.Masked masks.Amr) = record { no_end = refl; no_bar = refl }
outcome_front (outcomes.Masked masks.Iamr) = record { no_end = refl; no_bar = refl }
outcome_front outcomes.NoPage = record { no_end = refl; no_bar = refl }
outcome_front outcomes.NoSegment = record { no_end = refl; no_bar = refl }
outcome_front (outcomes.Ungranted address) =
    record {
      no_end = lacks_hex 10 address (inl (omega arith));
      no_bar = lacks_hex 124 address (inr (omega arith));
    }

pub way_front : (w : Option By) → IsFront (way_text w)
way_front None = record { no_end = refl; no_bar = refl }
way_front (Some Hit) = record { no_end = refl; no_bar = refl }
way_front (Some Walk) = record { no_end = refl; no_bar = refl }

last_differs : (a b : List ℕ) → a ++ codes " hit" ≡ b ++ codes " walk" → ⊥
last_differs a b e =
    let m : 116 ≡ 107 = sym (last_append 0 32 a (104 ∷ 105 ∷ 116 ∷ [])) ∙ ap (last_of 0) e ∙
    last_append 0 32 b (119 ∷ 97 ∷ 108 ∷ 107 ∷ []) in
    omega (arith, m)

ways_same : (a b : List ℕ) (v w : Option By) → a ++ way_text v ≡ b ++ way_text w → SameWay v w
ways_same a b None None e = tt
ways_same a b None (Some Hit) e = tt
ways_same a b None (Some Walk) e = tt
ways_same a b (Some Hit) None e = tt
ways_same a b (Some Walk) None e = tt
ways_same a b (Some Hit) (Some Hit) e = refl
ways_same a b (Some Walk) (Some Walk) e = refl
ways_same a b (Some Hit) (Some Walk) e = absurd (last_differs a b e)
ways_same a b (Some Walk) (Some Hit) e = absurd (last_differs b a (sym e))

access_shows :
    (r q : AccessReply) (x y : List ℕ)
    → AreShort r.receipts
    → AreShort q.receipts
    → access_text r ++ x ≡ access_text q ++ y
    → SameWay r.by q.by × (map mark_of r.receipts ≡ map mark_of q.receipts) × (x ≡ y)
access_shows r q x y s t e =
    let m = line_parts (outcome_text r.outcome ++ way_text r.by)
    (outcome_text q.outcome ++ way_text q.by) r.receipts q.receipts x y
    (both_front (outcome_text r.outcome) (way_text r.by) (outcome_front r.outcome)
    (way_front r.by))
    (both_front (outcome_text q.outcome) (way_text q.by) (outcome_front q.outcome)
    (way_front q.by)) s t
    (sym (line_joined (outcome_text r.outcome ++ way_text r.by) (receipts_text r.receipts) x)
    ∙ e
    ∙ line_joined (outcome_text q.outcome ++ way_text q.by) (receipts_text q.receipts) y) in
    (ways_same (outcome_text r.outcome) (outcome_text q.outcome) r.by q.by m.0, m.1, m.2)

-- ---- accesses of devices
pub device_front : (o : DeviceOutcome) → IsFront (device_outcome_text o)
device_front (devices.At address) =
    record {
      no_end = lacks_hex 10 address (inl (omega arith));
      no_bar = lacks_hex 124 address (inr (omega arith));
    }
device_front devices.Denied = record { no_end = refl; no_bar = refl }
device_front devices.NoWindow = record { no_end = refl; no_bar = refl }
device_front (devices.Ungranted address) =
    record {
      no_end = lacks_hex 10 address (inl (omega arith));
      no_bar = lacks_hex 124 address (inr (omega arith));
    }

device_shows :
    (r q : DeviceReply) (x y : List ℕ)
    → AreShort r.receipts
    → AreShort q.receipts
    → device_text r ++ x ≡ device_text q ++ y
    → (map mark_of r.receipts ≡ map mark_of q.receipts) × (x ≡ y)
device_shows r q x y s t e =
    let m = line_parts (device_outcome_text r.outcome) (device_outcome_text q.outcome) r.receipts
    q.receipts x y (device_front r.outcome) (device_front q.outcome) s t
    (sym (line_joined (device_outcome_text r.outcome) (receipts_text r.receipts) x)
    ∙ e
    ∙ line_joined (device_outcome_text q.outcome) (receipts_text q.receipts) y) in
    (m.1, m.2)

segment_shows : (a b : Bool) (x y : List ℕ) → verdict_text a ++ x ≡ verdict_text b ++ y → x ≡ y
segment_shows true true x y e = cc
segment_shows false false x y e = cc
segment_shows true false x y e = cc
segment_shows false true x y e = cc

-- ---- any line
abbrev tail_text : Reply → List ℕ
tail_text (replies.Hcall h) = hcall_text h
tail_text (replies.Access r) = access_text r
tail_text (replies.Device r) = device_text r
tail_text (replies.Segment accepted) = verdict_text accepted
tail_text replies.MaskSet = codes " ok\n"
tail_text (replies.Dump shown) = []

abbrev ShortReply : Reply → Type 0
ShortReply r = AreShort (receipts_in r)

tail_shows :
    (act : Act) (r q : Reply) (x y : List ℕ)
    → is_quiet act ≡ false
    → IsOfKind act r
    → IsOfKind act q
    → ShortReply r
    → ShortReply q
    → tail_text r ++ x ≡ tail_text q ++ y
    → ShowsSame r q × (x ≡ y)
unfolding is_quiet
tail_shows (acts.Call number args spelt) (replies.Hcall r) (replies.Hcall q) x y n h k s t e =
    let m = hcall_shows r q x y s t e in (record { way = tt; marks = m.0 }, m.1)
tail_shows (acts.Access want ea user) (replies.Access r) (replies.Access q) x y n h k s t e =
    let m = access_shows r q x y s t e in (record { way = m.0; marks = m.1 }, m.2)
tail_shows (acts.Device write liobn ioba) (replies.Device r) (replies.Device q) x y n h k s t e =
    let m = device_shows r q x y s t e in (record { way = tt; marks = m.0 }, m.1)
tail_shows (acts.SlbMte rb rs) (replies.Segment r) (replies.Segment q) x y n h k s t e =
    (record { way = tt; marks = refl }, segment_shows r q x y e)
tail_shows acts.SlbClear (replies.Segment r) (replies.Segment q) x y n h k s t e =
    (record { way = tt; marks = refl }, segment_shows r q x y e)
tail_shows (acts.SetMask name value) replies.MaskSet replies.MaskSet x y n h k s t e =
    (record { way = tt; marks = refl }, segment_shows true true x y e)
tail_shows acts.Dump r q x y n h k s t e = cc
tail_shows (acts.Call number args spelt) (replies.Hcall r) other x y n h k s t e = absurd k
tail_shows (acts.Call number args spelt) other q x y n h k s t e = absurd h
tail_shows (acts.Access want ea user) (replies.Access r) other x y n h k s t e = absurd k
tail_shows (acts.Access want ea user) other q x y n h k s t e = absurd h
tail_shows (acts.Device write liobn ioba) (replies.Device r) other x y n h k s t e = absurd k
tail_shows (acts.Device write liobn ioba) other q x y n h k s t e = absurd h
tail_shows (acts.SlbMte rb rs) (replies.Segment r) other x y n h k s t e = absurd k
tail_shows (acts.SlbMte rb rs) other q x y n h k s t e = absurd h
tail_shows acts.SlbClear (replies.Segment r) other x y n h k s t e = absurd k
tail_shows (acts.SetMask name value) replies.MaskSet other x y n h k s t e = absurd k
tail_shows acts.SlbClear other q x y n h k s t e = absurd h
tail_shows (acts.SetMask name value) other q x y n h k s t e = absurd h

pub cancel : (h a b : List ℕ) → h ++ a ≡ h ++ b → a ≡ b
cancel [] a b e = e
cancel (x ∷ h) a b e = let rest : h ++ a ≡ h ++ b = cc in cancel h a b rest

no_dump :
    (act : Act) (r : Reply)
    → is_quiet act ≡ false
    → IsOfKind act r
    → (l : TraceLine)
    → l.act ≡ act
    → reply_text l r ≡ head_text l.number l.cpu (name_of l.act) ++ tail_text r
unfolding is_quiet
no_dump (acts.Call number args spelt) (replies.Hcall r) n h l e = refl
no_dump (acts.Access want ea user) (replies.Access r) n h l e = refl
no_dump (acts.Device write liobn ioba) (replies.Device r) n h l e = refl
no_dump (acts.SlbMte rb rs) (replies.Segment r) n h l e = refl
no_dump acts.SlbClear (replies.Segment r) n h l e = refl
no_dump (acts.SetMask name value) replies.MaskSet n h l e = refl
no_dump acts.Dump r n h l e = cc
no_dump (acts.Call number args spelt) other n h l e = absurd h
no_dump (acts.Access want ea user) other n h l e = absurd h
no_dump (acts.Device write liobn ioba) other n h l e = absurd h
no_dump (acts.SlbMte rb rs) other n h l e = absurd h
no_dump acts.SlbClear other n h l e = absurd h
no_dump (acts.SetMask name value) other n h l e = absurd h

-- Two texts that begin with the reply to one line show the same there, and go on alike.
pub line_shows :
    (l : TraceLine) (r q : Reply) (x y : List ℕ)
    → is_quiet l.act ≡ false
    → IsOfKind l.act r
    → IsOfKind l.act q
    → AreShort (receipts_in r)
    → AreShort (receipts_in q)
    → reply_text l r ++ x ≡ reply_text l q ++ y
    → ShowsSame r q × (x ≡ y)
line_shows l r q x y n h k s t e =
    let head = head_text l.number l.cpu (name_of l.act) in
    let one : reply_text l r ++ x ≡ head ++ (tail_text r ++ x) = ap (λ z. z ++ x)
    (no_dump l.act r n h l refl) ∙ append_assoc head (tail_text r) x in
    let two : reply_text l q ++ y ≡ head ++ (tail_text q ++ y) = ap (λ z. z ++ y)
    (no_dump l.act q n k l refl) ∙ append_assoc head (tail_text q) y in
    tail_shows l.act r q x y n h k s t
    (cancel head (tail_text r ++ x) (tail_text q ++ y) (sym one ∙ e ∙ two))
