-- The passes of all processors become one.
use Rattle.std.specs.Prelude.{IfSome, is_some}
use Rattle.std.specs.Option.{option_to_list}
use Rattle.std.proofs.lemmas.List.{reverse-append, length-append, length-map}
use Rattle.std.proofs.Common.{◌≡◌, ◌+◌, ◌<◌, List, [], ◌∷◌, ◌++◌, length, map, ap, sym, ◌∙◌, refl, subst, reverse, true, cond, ◌⊎◌, inl, inr, Option, Some, None, arith, append_assoc, append-nil}
use Rattle.std.specs.List.{AllByRecursion}
use Rattle.std.proofs.lemmas.List.Elements.{Contains-append_left, Contains-append_right}
use Rattle.entry_model.specs.State.{State}
use Rattle.entry_model.specs.declared.line.Line.{Line}
use Rattle.entry_model.specs.Fronts.{IsGone}
use Rattle.lock_core.specs.declared.sighting.Sighting.{Sighting}
use Rattle.lock_core.specs.Laws.{sighting_by}
use Rattle.entry_lock.specs.declared.table.LockTable.{LockTable}
use Rattle.entry_lock.specs.declared.table.Pass.{Pass}
use Rattle.entry_lock.specs.SeenLines.{IsSeen}
use Rattle.entry_lock.specs.PassOfTable.{IsOf, view_of}
use Rattle.trace_runner.specs.declared.worker.Worker.{Worker}
use Rattle.trace_runner.specs.SectionRun.{HasNoOtherPass, IsGoneFor, IsSeenFor, IsPairJoined, made_in, shares_in, all_made, pass_count, AnyGone, AnySeen, IsJoinOf}

-- ---- the first of a list
-- What is popped of a list was the first of it in reverse.
pub popped_first :
    {A : Type 0} (old new : List A) (o : Option A) (x : A)
    → old ≡ new ++ option_to_list o
    → o ≡ Some x
    → reverse old ≡ x ∷ reverse new
popped_first old new o x e is =
    ap reverse (e ∙ ap (λ z. new ++ option_to_list z) is) ∙ reverse-append new (x ∷ [])

pub popped_last :
    {A : Type 0} (old new : List A) (o : Option A) (x : A)
    → old ≡ new ++ option_to_list o
    → o ≡ Some x
    → old ≡ new ++ x ∷ []
popped_last old new o x e is = e ∙ ap (λ z. new ++ option_to_list z) is

pub popped_count :
    {A : Type 0} (old new : List A) (o : Option A) (x : A)
    → old ≡ new ++ option_to_list o
    → o ≡ Some x
    → length old ≡ length new + 1
popped_count old new o x e is =
    ap length (e ∙ ap (λ z. new ++ option_to_list z) is) ∙ length-append new (x ∷ [])

-- ---- joins
-- The pass so far, if there is one, and those of the workers that are left are those of all.
pub record Joining {L : Type 0} (table : LockTable) (ws rest : List (Worker L)) (all : Option Pass)
    :
    Type 0 where
  pub of : IfSome all (IsOf table)
  pub shares : shares_in all + pass_count rest ≡ pass_count ws
  pub made : made_in all ++ all_made rest ≡ all_made ws
  pub gone : (line : Line) → AnyGone line ws → IsGoneFor all line ⊎ AnyGone line rest
  pub seen :
      (opening : List State) (line : Line)
      → AnySeen opening line ws
      → IsSeenFor opening all line ⊎ AnySeen opening line rest
  pub passes : AllByRecursion (HasNoOtherPass table) rest

pub joining_none :
    {L : Type 0} (table : LockTable) (ws : List (Worker L))
    → AllByRecursion (HasNoOtherPass table) ws
    → Joining table ws ws None
joining_none table ws has = record {
  of = tt;
  shares = omega arith;
  made = refl;
  gone = λ line k. inr k;
  seen = λ opening line k. inr k;
  passes = has;
}

three : {A B C D : Type 0} → (A ⊎ B → D) → A ⊎ (B ⊎ C) → D ⊎ C
three f (inl a) = inl (f (inl a))
three f (inr (inl b)) = inl (f (inr b))
three f (inr (inr c)) = inr c

-- A pass of a worker counts its shares.
share_count :
    (table : LockTable) (o : Option Pass)
    → IfSome o (λ pass. IsOf table pass × (pass.shares ≡ 1))
    → shares_in o ≡ cond (is_some o) 1 0
share_count table None h = refl
share_count table (Some pass) h = h.1

pub first_passes :
    {L : Type 0} (table : LockTable) (rest more : List (Worker L)) (w : Worker L)
    → rest ≡ w ∷ more
    → AllByRecursion (HasNoOtherPass table) rest
    → HasNoOtherPass table w × AllByRecursion (HasNoOtherPass table) more
first_passes table rest more w cut h = subst (AllByRecursion (HasNoOtherPass table)) cut h

pub joining_more :
    {L : Type 0} (table : LockTable) (ws rest more : List (Worker L)) (w : Worker L)
    (all other both : Option Pass)
    → rest ≡ w ∷ more
    → other ≡ w.pass
    → IsPairJoined table all other both
    → Joining table ws rest all
    → Joining table ws more both
joining_more table ws rest more w all other both cut is j h =
    let passes = first_passes table rest more w cut h.passes in
    let pair : IsPairJoined table all w.pass both = subst
    (λ (o : Option Pass). IsPairJoined table all o both) is j in
    let count : shares_in all + (cond (is_some w.pass) 1 0 + pass_count more) ≡ pass_count ws =
    subst (λ l. shares_in all + pass_count l ≡ pass_count ws) cut h.shares in
    let made : made_in all ++ (made_in w.pass ++ all_made more) ≡ all_made ws = subst
    (λ l. made_in all ++ all_made l ≡ all_made ws) cut h.made in
    record {
      of = pair.of;
      shares =
          let own = share_count table w.pass passes.0 in omega (arith, pair.shares, own, count);
      made =
          ap (λ rs. rs ++ all_made more) pair.made
          ∙ append_assoc (made_in all) (made_in w.pass) (all_made more)
          ∙ made;
      gone =
          λ line k.
          three (pair.gone line)
          (subst (λ l. IsGoneFor all line ⊎ AnyGone line l) cut (h.gone line k));
      seen =
          λ opening line k.
          three (pair.seen opening line)
          (subst (λ l. IsSeenFor opening all line ⊎ AnySeen opening line l) cut
          (h.seen opening line k));
      passes = passes.1;
    }

no_more : {A B : Type 0} → (B → ⊥) → A ⊎ B → A
no_more f (inl a) = a
no_more f (inr b) = absurd (f b)

-- With no worker left it is the pass of all, and there is one where a worker had one.
pub joining_all :
    {L : Type 0} (table : LockTable) (ws : List (Worker L)) (pass : Pass)
    → Joining table ws [] (Some pass)
    → IsJoinOf table ws pass
joining_all table ws pass h = record {
  of = h.of;
  shares = omega (arith, h.shares);
  made = sym (append-nil (view_of pass).actor.receipts) ∙ h.made;
  gone = λ line k. no_more (λ x. x) (h.gone line k);
  seen = λ opening line k. no_more (λ x. x) (h.seen opening line k);
}

pub joining_some :
    {L : Type 0} (table : LockTable) (ws : List (Worker L)) (all : Option Pass)
    → 0 < pass_count ws
    → Joining table ws [] all
    → is_some all ≡ true
joining_some table ws None some h = absurd (omega (arith, some, h.shares))
joining_some table ws (Some pass) some h = refl

-- ---- two passes
seen_left :
    (xs ys zs : List Sighting) (opening : List State) (line : Line)
    → zs ≡ xs ++ ys
    → IsSeen xs opening line
    → IsSeen zs opening line
seen_left xs ys zs opening line e (inl has) =
    rw e (inl (Contains-append_left xs ys (sighting_by line) has))
seen_left xs ys zs opening line e (inr holds) = inr holds

seen_right :
    (xs ys zs : List Sighting) (opening : List State) (line : Line)
    → zs ≡ xs ++ ys
    → IsSeen ys opening line
    → IsSeen zs opening line
seen_right xs ys zs opening line e (inl has) =
    rw e (inl (Contains-append_right xs ys (sighting_by line) has))
seen_right xs ys zs opening line e (inr holds) = inr holds

-- What a join leaves.
pub record Joined (table : LockTable) (one other both : Pass) : Type 0 where
  pub of : IsOf table both
  pub shares : both.shares ≡ one.shares + other.shares
  pub receipts :
      (view_of both).actor.receipts ≡ (view_of one).actor.receipts ++ (view_of other).actor.receipts
  pub lines : (view_of both).actor.lines ≡ (view_of one).actor.lines ++ (view_of other).actor.lines
  pub gone :
      (line : Line)
      → IsGone (view_of one).fronts line ⊎ IsGone (view_of other).fronts line
      → IsGone (view_of both).fronts line

pub pair_both :
    (table : LockTable) (one other both : Pass)
    → Joined table one other both
    → IsPairJoined table (Some one) (Some other) (Some both)
pair_both table one other both j = record {
  of = j.of;
  shares = j.shares;
  made = j.receipts;
  gone = λ line k. j.gone line k;
  seen = λ opening line k. seen opening line k;
} where
  seen :
      (opening : List State) (line : Line)
      → IsSeen (view_of one).actor.lines opening line
      ⊎ IsSeen (view_of other).actor.lines opening line
      → IsSeen (view_of both).actor.lines opening line
  seen opening line (inl g) = seen_left _ _ _ opening line j.lines g
  seen opening line (inr g) = seen_right _ _ _ opening line j.lines g

-- ---- what is taken out
pub map_more :
    {A B : Type 0} (f : A → B) (out : List B) (xs rest : List A) (x : A) (all : List B)
    → xs ≡ x ∷ rest
    → out ++ map f xs ≡ all
    → (out ++ f x ∷ []) ++ map f rest ≡ all
map_more f out xs rest x all cut h =
    append_assoc out (f x ∷ []) (map f rest) ∙ subst (λ l. out ++ map f l ≡ all) cut h

-- Where some are left there is room for one more.
pub room_left :
    {A B : Type 0} (f : A → B) (out old : List B) (xs rest all : List A) (x : A)
    → xs ≡ x ∷ rest
    → out ++ map f xs ≡ old ++ map f all
    → length out < length old + length all
room_left f out old xs rest all x cut e =
    omega (
      arith,
      ap length e,
      ap length cut,
      length-append out (map f xs),
      length-append old (map f all),
      length-map xs f,
      length-map all f,
    )
