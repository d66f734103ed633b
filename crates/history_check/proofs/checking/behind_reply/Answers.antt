use Rattle.std.proofs.Common.{◌≡◌, ◌++◌, ◌∙◌, ℕ, List, Option, Some, None, ap}
use Rattle.std.specs.Prelude.{◌≢◌, IfSome, IfNone, MatchOption}
use Rattle.std.specs.Borrow.{Bor}
use Rattle.std.proofs.lemmas.Bool.Decides.{Decides-eqb}
use Rattle.std.proofs.lemmas.Slice.Eq.{strip_prefix_is}
use Rattle.reply_text.specs.Text.{reply_text}
use Rattle.history_check.proofs.checking.behind_reply.Goals as goal

abbrev Parts : List ℕ → List ℕ → Option (Bor (List ℕ)) → Type 0
Parts text told r =
    MatchOption r ((rest : List ℕ) → text ≢ told ++ rest) (λ x. text ≡ told ++ x.now)

if_some :
    (text told other : List ℕ) (r : Option (Bor (List ℕ)))
    → told ≡ other
    → Parts text told r
    → IfSome r (λ x. text ≡ other ++ x.now)
if_some text told other (Some x) e h = h ∙ ap (λ z. z ++ x.now) e
if_some text told other None e h = tt

if_none :
    (text told other : List ℕ) (r : Option (Bor (List ℕ)))
    → told ≡ other
    → Parts text told r
    → IfNone r ((rest : List ℕ) → text ≡ other ++ rest → ⊥)
if_none text told other (Some x) e h = tt
if_none text told other None e h = λ rest same. h rest (rw e same)

pub returns-clause-some : goal.returns-clause-some
returns-clause-some c =
    let told = c.as_bytes.ensures.value ∙ c.in_ok-put_reply.ensures.text ∙ ap
    (λ z. z ++ reply_text c.args.line.now c.args.reply.now) c.new-own.ensures.bytes in
    if_some _ _ _ _ told (strip_prefix_is Decides-eqb _ _ _ c.strip_prefix.ensures.cases)

pub returns-clause-none : goal.returns-clause-none
returns-clause-none c =
    let told = c.as_bytes.ensures.value ∙ c.in_ok-put_reply.ensures.text ∙ ap
    (λ z. z ++ reply_text c.args.line.now c.args.reply.now) c.new-own.ensures.bytes in
    if_none _ _ _ _ told (strip_prefix_is Decides-eqb _ _ _ c.strip_prefix.ensures.cases)
