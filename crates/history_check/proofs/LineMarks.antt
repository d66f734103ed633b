-- The text of a reply is one line, which has the marks of its receipts.
use Rattle.std.proofs.Common.{◌≡◌, ℕ, List, [], ◌∷◌, ◌++◌, Bool, true, false, ap, sym, ◌∙◌, refl, arith, append_assoc, append-nil, inl, inr}
use Rattle.std.specs.Prelude.{codes}
use Rattle.std.specs.List.{flat_map}
use Rattle.std.specs.Fmt.{decimal}
use Rattle.std.proofs.lemmas.Bool.{cond_both}
use Rattle.papr_codes.specs.Hcalls.{hcall_of, hcall_name}
use Rattle.papr_codes.specs.ReturnCodes.{rc_code}
use Rattle.papr_codes.specs.declared.calls.Hcall.{Hcall}
use Rattle.papr_codes.specs.declared.calls.Hcall.TheVariants.{Other}
use Rattle.storage_prot.specs.declared.want.Want.{Want}
use Rattle.storage_prot.specs.declared.want.Want.TheVariants as wants
use Rattle.trace_line.specs.declared.line.TraceLine.{TraceLine}
use Rattle.trace_line.specs.declared.act.Act.{Act}
use Rattle.trace_line.specs.declared.act.Act.TheVariants as acts
use Rattle.trace_line.specs.Lines.{is_quiet}
use Rattle.trace_reply.specs.declared.shown.Shown.{Shown}
use Rattle.trace_reply.specs.declared.reply.Reply.{Reply}
use Rattle.trace_reply.specs.declared.reply.Reply.TheVariants as replies
use Rattle.trace_reply.specs.Replies.{IsOfKind, receipts_in}
use Rattle.reply_text.specs.Text.{mask_word, head_text, name_of, want_word, code_text, word_text, outcome_text, way_text, reply_text, device_outcome_text}
use Rattle.receipt_text.specs.Receipts.{receipts_text}
use Rattle.receipt_text.specs.Cuts.{lacks}
use Rattle.receipt_text.proofs.Bytes.{lacks_decimal}
use Rattle.history_check.proofs.TextMarks.{IsFront, both_front, code_front, words_front, outcome_front, way_front, device_front}
use Rattle.authority_mask.specs.declared.masks.MaskName.{MaskName}
use Rattle.authority_mask.specs.declared.masks.MaskName.TheVariants as masks

-- ---- heads
plain_front : (a : List ℕ) → lacks 10 a ≡ true → lacks 124 a ≡ true → IsFront a
plain_front a h k = record { no_end = h; no_bar = k }

call_front : (h : Hcall) → IsFront (hcall_name h)
call_front (Other number) = plain_front _ refl refl
call_front named = plain_front _ refl refl

want_front : (want : Want) → IsFront (want_word want)
want_front wants.Load = plain_front _ refl refl
want_front wants.Store = plain_front _ refl refl
want_front wants.Fetch = plain_front _ refl refl

mask_front : (name : MaskName) → IsFront (mask_word name)
mask_front masks.Amr = plain_front _ refl refl
mask_front masks.Iamr = plain_front _ refl refl

name_front : (act : Act) → IsFront (name_of act)
name_front (acts.Call number args spelt) =
    cond_both spelt (hcall_name (hcall_of number)) (codes "hcall") IsFront
    (λ e. call_front (hcall_of number)) (λ e. plain_front _ refl refl)
name_front (acts.Access want ea user) = want_front want
name_front (acts.SlbMte rb rs) = plain_front _ refl refl
name_front acts.SlbClear = plain_front _ refl refl
name_front (acts.Device true liobn ioba) = plain_front _ refl refl
name_front (acts.Device false liobn ioba) = plain_front _ refl refl
name_front (acts.SetMask name value) = mask_front name
name_front acts.Dump = plain_front _ refl refl

decimal_front : (n : ℕ) → IsFront (decimal n)
decimal_front n =
    plain_front (decimal n) (lacks_decimal 10 n (inl (omega arith)))
    (lacks_decimal 124 n (inr (omega arith)))

head_front : (number cpu : ℕ) (name : List ℕ) → IsFront name → IsFront (head_text number cpu name)
unfolding head_text
head_front number cpu name f =
    both_front _ name
    (both_front _ (codes " ")
    (both_front _ (decimal cpu)
    (both_front (decimal number) (codes " ") (decimal_front number)
    (plain_front _ refl refl)) (decimal_front cpu)) (plain_front _ refl refl)) f

-- ---- a line
-- The text is one line, with the receipts after a front.
pub record IsLine (l : TraceLine) (r : Reply) : Type 0 where
  pub front : List ℕ
  pub is_front : IsFront front
  pub text : reply_text l r ≡ (front ++ receipts_text (receipts_in r)) ++ 10 ∷ []

line_ends : (h a c : List ℕ) → h ++ ((a ++ c) ++ 10 ∷ []) ≡ ((h ++ a) ++ c) ++ 10 ∷ []
line_ends h a c =
    sym (append_assoc h (a ++ c) (10 ∷ [])) ∙ ap (λ z. z ++ 10 ∷ []) (sym (append_assoc h a c))

-- A reply without receipts whose word says how it ended.
worded_line :
    (l : TraceLine) (r : Reply) (word : List ℕ)
    → IsFront word
    → reply_text l r ≡ head_text l.number l.cpu (name_of l.act) ++ (word ++ 10 ∷ [])
    → receipts_text (receipts_in r) ≡ []
    → IsLine l r
worded_line l r word is_word text none =
    let head = head_text l.number l.cpu (name_of l.act) in
    record {
      front = head ++ word;
      is_front =
          both_front head word (head_front l.number l.cpu (name_of l.act) (name_front l.act))
          is_word;
      text =
          text
          ∙ sym (append_assoc head word (10 ∷ []))
          ∙ ap (λ z. z ++ 10 ∷ [])
          (sym (append-nil (head ++ word)) ∙ ap (λ z. (head ++ word) ++ z) (sym none));
    }

segment_line : (l : TraceLine) (accepted : Bool) → IsLine l (replies.Segment accepted)
segment_line l true =
    worded_line l (replies.Segment true) (codes " ok") (plain_front _ refl refl) refl refl
segment_line l false =
    worded_line l (replies.Segment false) (codes " refused") (plain_front _ refl refl) refl refl

no_dump_reply :
    (act : Act) (shown : Shown) → is_quiet act ≡ false → IsOfKind act (replies.Dump shown) → ⊥
unfolding is_quiet
no_dump_reply acts.Dump shown plain kind = cc
no_dump_reply (acts.Call number args spelt) shown plain kind = kind
no_dump_reply (acts.Access want ea user) shown plain kind = kind
no_dump_reply (acts.SlbMte rb rs) shown plain kind = kind
no_dump_reply acts.SlbClear shown plain kind = kind
no_dump_reply (acts.Device write liobn ioba) shown plain kind = kind
no_dump_reply (acts.SetMask name value) shown plain kind = kind

pub line_of : (l : TraceLine) (r : Reply) → is_quiet l.act ≡ false → IsOfKind l.act r → IsLine l r
line_of l (replies.Hcall h) plain kind =
    let head = head_text l.number l.cpu (name_of l.act) in
    let words = code_text (rc_code h.rc) ++ flat_map word_text h.words in
    record {
      front = head ++ words;
      is_front =
          both_front head words (head_front l.number l.cpu (name_of l.act) (name_front l.act))
          (both_front (code_text (rc_code h.rc)) (flat_map word_text h.words)
          (code_front (rc_code h.rc)) (words_front h.words));
      text =
          line_ends head (code_text (rc_code h.rc) ++ flat_map word_text h.words)
          (receipts_text h.receipts);
    }
line_of l (replies.Access r) plain kind =
    let head = head_text l.number l.cpu (name_of l.act) in
    let words = outcome_text r.outcome ++ way_text r.by in
    record {
      front = head ++ words;
      is_front =
          both_front head words (head_front l.number l.cpu (name_of l.act) (name_front l.act))
          (both_front (outcome_text r.outcome) (way_text r.by) (outcome_front r.outcome)
          (way_front r.by));
      text = line_ends head (outcome_text r.outcome ++ way_text r.by) (receipts_text r.receipts);
    }
line_of l (replies.Device r) plain kind =
    let head = head_text l.number l.cpu (name_of l.act) in
    let words = device_outcome_text r.outcome in
    record {
      front = head ++ words;
      is_front =
          both_front head words (head_front l.number l.cpu (name_of l.act) (name_front l.act))
          (device_front r.outcome);
      text = line_ends head words (receipts_text r.receipts);
    }
line_of l (replies.Segment accepted) plain kind = segment_line l accepted
line_of l replies.MaskSet plain kind =
    worded_line l replies.MaskSet (codes " ok") (plain_front _ refl refl) refl refl
line_of l (replies.Dump shown) plain kind = absurd (no_dump_reply l.act shown plain kind)
