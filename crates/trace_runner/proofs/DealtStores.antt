-- The lines of a section, dealt to their stores.
use Rattle.std.specs.Prelude.{Vec, if◌then◌else◌}
use Rattle.std.proofs.Common.{◌≡◌, ◌≢◌, ℕ, ◌+◌, ◌<◌, ◌≤◌, List, [], ◌∷◌, ◌++◌, length, take, get_or, set, Bool, false, eqb, ap, sym, ◌∙◌, refl, subst, arith, append-nil}
use Rattle.std.proofs.lemmas.Bool.{eq-eqb}
use Rattle.std.proofs.lemmas.List.{take_all}
use Rattle.std.proofs.lemmas.List.Elements.{filter_more}
use Rattle.bus_window.specs.Windows.{BusWindow}
use Rattle.trace_line.specs.declared.line.TraceLine.{TraceLine}
use Rattle.trace_line.specs.Lines.{is_quiet}
use Rattle.run_model.specs.StoreNumbers.{store_of, lines_on_store}
use Rattle.basics.proofs.Each.{each_filter}
use Rattle.run_model.proofs.StoreNumbers.{not_eqb}
use Rattle.trace_runner.specs.DealtLines.{AreOnStores}
use Rattle.trace_runner.specs.StoreRuns.{AreRunnable}
use Rattle.trace_runner.specs.Workers.{AllNumbered}
use Rattle.trace_runner.proofs.Numbered.{all_set}

-- Each store was dealt its own of the first k lines, in file order.
abbrev pub AreUpTo :
    {Z : Type 0} → List BusWindow → ℕ → List TraceLine → List (Vec TraceLine Z) → Type 0
AreUpTo ws k lines dealt =
    AllNumbered (λ store own. own.items ≡ lines_on_store ws store (take k lines)) 0 dealt

pub stores_more :
    {Z : Type 0} (ws : List BusWindow) (lines : List TraceLine) (k : ℕ) (d : TraceLine)
    (dealt : List (Vec TraceLine Z)) (own new : Vec TraceLine Z)
    → k < length lines
    → store_of ws (get_or lines k d).act < length dealt
    → own ≡ get_or dealt (store_of ws (get_or lines k d).act) own
    → new.items ≡ own.items ++ get_or lines k d ∷ []
    → AreUpTo ws k lines dealt
    → AreUpTo ws (k + 1) lines (set dealt (store_of ws (get_or lines k d).act) new)
stores_more {Z = Z} ws lines k d dealt own new within inside is more h =
    all_set (HasUpTo k) (HasUpTo (k + 1)) 0 at at dealt own new (omega arith) inside is other here h
  where
    l : TraceLine
    l = get_or lines k d

    at : ℕ
    at = store_of ws l.act

    HasUpTo : ℕ → ℕ → Vec TraceLine Z → Type 0
    HasUpTo j store v = v.items ≡ lines_on_store ws store (take j lines)

    step :
        (store : ℕ)
        → lines_on_store ws store (take (k + 1) lines)
        ≡ lines_on_store ws store (take k lines) ++ (if eqb at store then l ∷ [] else [])
    step store = filter_more (λ (m : TraceLine). eqb (store_of ws m.act) store) lines k d within

    other :
        (store : ℕ) (v : Vec TraceLine Z) → store ≢ at → HasUpTo k store v → HasUpTo (k + 1) store v
    other store v differ p =
        p
        ∙ sym
        (step store
        ∙ ap (λ b. lines_on_store ws store (take k lines) ++ (if b then l ∷ [] else []))
        (not_eqb at store (λ e. differ (sym e)))
        ∙ append-nil (lines_on_store ws store (take k lines)))

    here : HasUpTo k at own → HasUpTo (k + 1) at new
    here p =
        more
        ∙ ap (λ ls. ls ++ l ∷ []) p
        ∙ sym
        (step at
        ∙ ap (λ b. lines_on_store ws at (take k lines) ++ (if b then l ∷ [] else []))
        (eq-eqb at at refl))

pub stores_all :
    {Z : Type 0} (ws : List BusWindow) (lines : List TraceLine) (k : ℕ)
    (dealt : List (Vec TraceLine Z))
    → length lines ≤ k
    → AreUpTo ws k lines dealt
    → AreOnStores ws lines dealt
stores_all ws lines k dealt end h =
    subst (λ ls. AllNumbered (λ store own. own.items ≡ lines_on_store ws store ls) 0 dealt)
    (take_all k lines end) h

-- ---- what the lines on a store have
pub on_store_runnable :
    (n : ℕ) (ws : List BusWindow) (store : ℕ) (lines : List TraceLine)
    → AreRunnable n lines
    → AreRunnable n (lines_on_store ws store lines)
on_store_runnable n ws store lines h =
    let on : TraceLine → Bool = λ l. eqb (store_of ws l.act) store in (
      each_filter (λ (l : TraceLine). is_quiet l.act ≡ false) on lines h.0,
      each_filter (λ (l : TraceLine). l.cpu < n) on lines h.1,
    )
