-- Lines with replies on each store are the parts of one list.
use Rattle.std.proofs.Common.{◌≡◌, ℕ, ◌≤◌, List, [], ◌∷◌, Bool, true, false, cond, eqb, ap, sym, ◌∙◌, refl}
use Rattle.std.proofs.lemmas.Bool.{eqb-true, eq-eqb}
use Rattle.bus_window.specs.Windows.{BusWindow}
use Rattle.trace_line.specs.declared.act.Act.{Act}
use Rattle.trace_line.specs.declared.line.TraceLine.{TraceLine}
use Rattle.trace_reply.specs.Replies.{RepliedLine}
use Rattle.run_model.specs.StoreNumbers.{store_of, lines_on_store, replied_on_store}
use Rattle.basics.proofs.Each.{filter_yes, filter_no}
use Rattle.history_check.proofs.PartedTexts.{lines_in}

line_head :
    (t : RepliedLine) (ts : List RepliedLine) (l : TraceLine) (ls : List TraceLine)
    → lines_in (t ∷ ts) ≡ l ∷ ls
    → (t.line ≡ l) × (lines_in ts ≡ ls)
line_head t ts l ls e = (cc, cc)

no_lines : (l : TraceLine) (ls : List TraceLine) → lines_in [] ≡ l ∷ ls → ⊥
no_lines l ls e = cc

none_in : (ts : List RepliedLine) → lines_in ts ≡ [] → ts ≡ []
none_in [] e = refl
none_in (t ∷ ts) e = cc

-- The list of which these are the lines on each store, up to the last.
pub record IsWhole (ws : List BusWindow) (last : ℕ) (ls : List TraceLine)
    (pieces : ℕ → List RepliedLine) :
    Type 0 where
  pub all : List RepliedLine
  pub lines : lines_in all ≡ ls
  pub own : (number : ℕ) → number ≤ last → replied_on_store ws number all ≡ pieces number

-- The pieces are of the lines on each store, up to the last.
abbrev pub ArePieces : List BusWindow → ℕ → List TraceLine → (ℕ → List RepliedLine) → Type 0
ArePieces ws last ls pieces =
    (number : ℕ) → number ≤ last → lines_in (pieces number) ≡ lines_on_store ws number ls

-- One line more, of the store that it is on.
module _ (ws : List BusWindow) (last : ℕ) (l : TraceLine) (ls : List TraceLine)
    (inside : store_of ws l.act ≤ last) (pieces : ℕ → List RepliedLine)
    (h : ArePieces ws last (l ∷ ls) pieces) where
  abbrev own : ℕ
  own = store_of ws l.act

  line_first : lines_in (pieces own) ≡ l ∷ lines_on_store ws own ls
  line_first =
      h own inside
      ∙ filter_yes (λ (m : TraceLine). eqb (store_of ws m.act) own) l ls (eq-eqb own own refl)

  module _ (u : RepliedLine) (us : List RepliedLine) (e : pieces own ≡ u ∷ us) where
    both : (u.line ≡ l) × (lines_in us ≡ lines_on_store ws own ls)
    both = line_head u us l (lines_on_store ws own ls) (sym (ap lines_in e) ∙ line_first)

    -- The pieces of the others.
    abbrev rest : ℕ → List RepliedLine
    rest number = cond (eqb own number) us (pieces number)

    rest_pieces : ArePieces ws last ls rest
    rest_pieces number low = at (eqb own number) refl where
      at :
          (b : Bool)
          → eqb own number ≡ b
          → lines_in (cond b us (pieces number)) ≡ lines_on_store ws number ls
      at true here = both.1 ∙ ap (λ n. lines_on_store ws n ls) (eqb-true own number here)
      at false off =
          h number low
          ∙ filter_no (λ (m : TraceLine). eqb (store_of ws m.act) number) l ls off

    one_more : IsWhole ws last ls rest → IsWhole ws last (l ∷ ls) pieces
    one_more w = record {
      all = u ∷ w.all;
      lines = λ i. both.0 i ∷ w.lines i;
      own = λ number low. at number (w.own number low) (eqb own number) refl;
    } where
      of : store_of ws u.line.act ≡ own
      of = ap (λ (m : TraceLine). store_of ws m.act) both.0

      at :
          (number : ℕ)
          → replied_on_store ws number w.all ≡ rest number
          → (b : Bool)
          → eqb own number ≡ b
          → replied_on_store ws number (u ∷ w.all) ≡ pieces number
      at number others true here =
          filter_yes (λ (t : RepliedLine). eqb (store_of ws t.line.act) number) u w.all
          (ap (λ n. eqb n number) of ∙ here)
          ∙ ap (λ ts. u ∷ ts)
          (others ∙ ap (λ b. cond b us (pieces number)) here)
          ∙ sym e
          ∙ ap pieces (eqb-true own number here)
      at number others false off =
          filter_no (λ (t : RepliedLine). eqb (store_of ws t.line.act) number) u w.all
          (ap (λ n. eqb n number) of ∙ off)
          ∙ others
          ∙ ap (λ b. cond b us (pieces number)) off

pub merge_all :
    (ws : List BusWindow) (last : ℕ) (ls : List TraceLine) (pieces : ℕ → List RepliedLine)
    → ((act : Act) → store_of ws act ≤ last)
    → ArePieces ws last ls pieces
    → IsWhole ws last ls pieces
merge_all ws last [] pieces inside h = record {
  all = [];
  lines = refl;
  own = λ number low. sym (none_in (pieces number) (h number low));
}
merge_all ws last (l ∷ ls) pieces inside h =
    at (pieces (store_of ws l.act)) refl (λ others k. merge_all ws last ls others inside k) where
      at :
          (own : List RepliedLine)
          → pieces (store_of ws l.act) ≡ own
          →
          ((others : ℕ → List RepliedLine)
          → ArePieces ws last ls others
          → IsWhole ws last ls others)
          → IsWhole ws last (l ∷ ls) pieces
      at [] e go =
          absurd
          (no_lines l (lines_on_store ws (store_of ws l.act) ls)
          (sym (ap lines_in e) ∙ line_first ws last l ls (inside l.act) pieces h))
      at (u ∷ us) e go =
          one_more ws last l ls (inside l.act) pieces h u us e
          (go (rest ws last l ls (inside l.act) pieces h u us e)
          (rest_pieces ws last l ls (inside l.act) pieces h u us e))
