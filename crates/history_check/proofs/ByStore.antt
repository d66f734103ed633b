-- Each line is on a store: facts of all elements of a list by the stores of their lines.
use Rattle.std.specs.Prelude.{None, filter}
use Rattle.std.proofs.Common.{◌≡◌, ℕ, ◌≤◌, List, [], ◌∷◌, Bool, true, false, ap, refl, ◌⊎◌, inl, inr, map, length}
use Rattle.std.specs.List.{AllByRecursion}
use Rattle.std.proofs.lemmas.Bool.{cases_Bool}
use Rattle.trace_line.specs.declared.act.Act.{Act}
use Rattle.run_model.specs.AllStores.{AllStores}
use Rattle.run_model.specs.StoreNumbers.{store_at, store_of}
use Rattle.run_model.specs.Stores.{is_on}
use Rattle.basics.proofs.Each.{each_under}
use Rattle.run_model.proofs.StoreNumbers.{store_inside, on_own}
use Rattle.history_check.specs.FoundStores.{windows_of}

-- What holds of the elements on each store holds of all.
pub each_by_store :
    {A : Type 0} (P : A → Type 0) (act : A → Act) (s : AllStores) (xs : List A)
    → s.table.window ≡ None
    →
    ((number : ℕ)
    → number ≤ length s.windows
    → AllByRecursion P
    (filter (λ x. is_on (windows_of s) (store_at s number).window (act x)) xs))
    → AllByRecursion P xs
each_by_store P act s [] named h = tt
each_by_store {A = A} P act s (x ∷ xs) named h =
    let on : ℕ → A → Bool = λ number y. is_on (windows_of s) (store_at s number).window (act y) in
    let own = store_of (windows_of s) (act x) in (
      (each_under P (on own) x xs (h own (store_inside s.windows (act x)))).0
          (on_own s (act x) named),
      each_by_store P act s xs named
          (λ number low. (each_under P (on number) x xs (h number low)).1),
    )

-- ---- filtered images
pub filter_map :
    {A B : Type 0} (g : A → B) (f : B → Bool) (xs : List A)
    → filter f (map g xs) ≡ map g (filter (λ x. f (g x)) xs)
filter_map g f [] = refl
filter_map g f (x ∷ xs) = at (cases_Bool (f (g x))) (filter_map g f xs) where
  at :
      (f (g x) ≡ true) ⊎ (f (g x) ≡ false)
      → filter f (map g xs) ≡ map g (filter (λ x. f (g x)) xs)
      → filter f (map g (x ∷ xs)) ≡ map g (filter (λ x. f (g x)) (x ∷ xs))
  at (inl own) rest = rw own (ap (λ z. g x ∷ z) rest)
  at (inr other) rest = rw other rest
