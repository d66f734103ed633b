-- Windows that stay, and lines dealt to their stores.
use Rattle.std.proofs.Common.{◌≡◌, ℕ, zero, suc, ◌+◌, ◌<◌, List, [], ◌∷◌, ◌++◌, ap, sym, ◌∙◌, refl, map, length, take, drop, get_or, set, arith}
use Rattle.std.proofs.lemmas.List.{take_more}
use Rattle.bus_window.specs.Windows.{BusWindow}
use Rattle.trace_line.specs.declared.line.TraceLine.{TraceLine}
use Rattle.run_model.specs.AllStores.{WindowState, windows_in}
use Rattle.run_model.specs.StoreNumbers.{lines_on_store}
use Rattle.run_model.specs.Stores.{opening_window}
use Rattle.history_check.specs.declared.parting.Part.{Part}
use Rattle.history_check.specs.PartedText.{part_on_store}

-- ---- lists
pub map_more :
    {A B : Type 0} (f : A → B) (xs : List A) (i : ℕ) (x : A) (ys more : List B)
    → i < length xs
    → x ≡ get_or xs i x
    → ys ≡ map f (take i xs)
    → more ≡ ys ++ f x ∷ []
    → more ≡ map f (take (i + 1) xs)
map_more {A = A} {B = B} f xs i x ys more low at told push =
    push
    ∙ ap (λ z. z ++ f x ∷ []) told
    ∙ sym
    (ap (map f) (take_more xs i x low ∙ ap (λ z. take i xs ++ z ∷ []) (sym at))
    ∙ both (take i xs)) where
      both : (us : List A) → map f (us ++ x ∷ []) ≡ map f us ++ f x ∷ []
      both [] = refl
      both (u ∷ us) = ap (λ l. f u ∷ l) (both us)

-- ---- windows
pub opened_windows :
    (ws : List BusWindow) (vs : List WindowState)
    → vs ≡ map (λ (w : BusWindow). record { window = w; states = opening_window }) ws
    → windows_in vs ≡ ws
opened_windows ws vs e = ap windows_in e ∙ back ws where
  back :
      (ws : List BusWindow)
      → windows_in (map (λ (w : BusWindow). record { window = w; states = opening_window }) ws) ≡ ws
  back [] = refl
  back (w ∷ ws) = ap (λ z. w ∷ z) (back ws)

pub windows_stay :
    (items : List WindowState) (i : ℕ) (d x : WindowState)
    → i < length items
    → d ≡ get_or items i d
    → x.window ≡ d.window
    → windows_in (set items i x) ≡ windows_in items
windows_stay [] i d x low at same = absurd (omega arith)
windows_stay (v ∷ vs) zero d x low at same =
    ap (λ z. z ∷ windows_in vs) (same ∙ ap (λ (z : WindowState). z.window) at)
windows_stay (v ∷ vs) (suc i) d x low at same =
    ap (λ z. v.window ∷ z) (windows_stay vs i d x (omega arith) at same)

-- ---- dealt lines
-- With what is left of the lines and of the text, each part is whole.
pub record HasUpTo (ws : List BusWindow) (ls : List TraceLine) (text : List ℕ) (i : ℕ)
    (rest : List ℕ) (number : ℕ) (part : Part) :
    Type 0 where
  pub lines :
      part.lines.items ++ lines_on_store ws number (drop i ls) ≡ lines_on_store ws number ls
  pub told :
      part.text.items ++ part_on_store ws number (drop i ls) rest ≡ part_on_store ws number ls text

-- So far each part has those of the first i lines that are on its store, and their text.
abbrev pub HaveUpTo :
    List BusWindow → List TraceLine → List ℕ → ℕ → List ℕ → List Part → Type 0
HaveUpTo ws ls text i rest parts =
    (number : ℕ) (d : Part)
    → number < length parts
    → HasUpTo ws ls text i rest number (get_or parts number d)
